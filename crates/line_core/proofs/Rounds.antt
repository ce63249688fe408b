-- Serving under way: what has happened so far, and what is left of it.
use Rattle.std.proofs.Common.{◌≡◌, ◌≤◌, ℕ, ◌-◌, List, [], ◌∷◌, ◌++◌, take, Bool, true, false, if◌then◌else◌, Result, Ok, Err, append_assoc, refl, ap, subst}
use Rattle.std.proofs.lemmas.List.{append-nil}
use Rattle.std.specs.declared.io.Error.{Error}
use Rattle.block_core.specs.Block.{Parts}
use Rattle.t1_core.specs.Card.{CardState, CardStep, Waits, card_turn, replies, turn_of, state_after}
use Rattle.t1_core.specs.declared.turns.CardTurn.{CardTurn}
use Rattle.t1_core.specs.declared.turns.CardTurn.TheVariants.{Send, Asked}
use Rattle.t1_core.specs.declared.turns.EncodedCardTurn.TheVariants as put
use Rattle.t1_core.specs.declared.turns.CardFault.{CardFault}
use Rattle.line_core.specs.declared.serving.ServeFault.{ServeFault}
use Rattle.line_core.specs.declared.serving.ServeFault.TheVariants.{Line, Refused}
use Rattle.line_core.specs.Line.{Arrival, block, nothing, failure}
use Rattle.line_core.specs.Service.{Event, came, asked, requested, sent, unsent, on_line, at_host, is_short, IsReplyTo, Happens, Ending, over, line_failed, used_up, refused, ending_of, Doing, hears, says, doing_of, is_new, doing_after, left_after, Serves, IsAnswer, IsReply, IsRound}
use Rattle.line_core.proofs.Replying.{IsGiven}

-- events and more of them have on the line those of the first and then those of the others
pub on_line-append : (a b : List Event) → on_line (a ++ b) ≡ on_line a ++ on_line b
on_line-append [] b = refl
on_line-append (came arrival ∷ a) b = ap (λ l. came arrival ∷ l) (on_line-append a b)
on_line-append (asked is command reply ∷ a) b = on_line-append a b
on_line-append (requested is command request ∷ a) b = on_line-append a b
on_line-append (sent octets ∷ a) b = ap (λ l. sent octets ∷ l) (on_line-append a b)
on_line-append (unsent octets fault ∷ a) b = ap (λ l. unsent octets fault ∷ l) (on_line-append a b)

host-first : (is_short : Bool) (event : Event) (all a b : List Event) → all ≡ a ++ b
    → (if is_short then all else (event ∷ all)) ≡ (if is_short then a else (event ∷ a)) ++ b
host-first true event all a b same = same
host-first false event all a b same = ap (λ l. event ∷ l) same

-- and the same at the host
pub at_host-append : (a b : List Event) → at_host (a ++ b) ≡ at_host a ++ at_host b
at_host-append [] b = refl
at_host-append (came arrival ∷ a) b = at_host-append a b
at_host-append (asked is command reply ∷ a) b =
    host-first (is_short command) (asked true command reply) (at_host (a ++ b)) (at_host a) (at_host b)
    (at_host-append a b)
at_host-append (requested is command request ∷ a) b = at_host-append a b
at_host-append (sent octets ∷ a) b = at_host-append a b
at_host-append (unsent octets fault ∷ a) b = at_host-append a b

-- where nothing happened, no events were added
pub none-happen : {A : Type 0} (first : A → List Event → Type 0) → Happens first first []
none-happen first = λ once before h. rw append-nil h

-- events after events
after : {A : Type 0} (first second third : A → List Event → Type 0) (a b : List Event) → Happens first second a
    → Happens second third b → Happens first third (a ++ b)
after first second third a b f g = λ once before h. rw (← append_assoc) (g once (before ++ a) (f once before h))

-- A block's answer, and the round of a block, with what happened on the line and at the host.
abbrev pub Answers : {B : Type 0} → (B → List Event → Type 0) → (B → List Event → Type 0) → Doing → CardState → List ℕ
    → Result ℕ ServeFault → CardState → Type 0
Answers h0 h1 doing c out result c' = (events : List Event) × (on_line events ≡ []) × Happens h0 h1 (at_host events)
    × IsAnswer doing c events out result c'

-- and the round of a block that came, or didn't
abbrev pub Rounds : {A B : Type 0} → (A → List Event → Type 0) → (A → List Event → Type 0) → (B → List Event → Type 0)
    → (B → List Event → Type 0) → CardState → Result Bool ServeFault → CardState → Type 0
Rounds l0 l1 h0 h1 c result c' = (events : List Event) × Happens l0 l1 (on_line events) × Happens h0 h1 (at_host events)
    × IsRound c events result c'

on-both : {A : Type 0} (l0 l1 l2 : A → List Event → Type 0) (events : List Event) (arrival : Arrival) (last : Event)
    → on_line events ≡ [] → on_line (last ∷ []) ≡ last ∷ [] → Happens l0 l1 (came arrival ∷ [])
    → Happens l1 l2 (last ∷ []) → Happens l0 l2 (on_line (came arrival ∷ (events ++ last ∷ [])))
on-both l0 l1 l2 events arrival last none is heard said =
    rw (on_line-append events (last ∷ []), none, is) (after l0 l1 l2 (came arrival ∷ []) (last ∷ []) heard said)

host-alone : {B : Type 0} (h0 h1 : B → List Event → Type 0) (events : List Event) (last : Event)
    → at_host (last ∷ []) ≡ [] → Happens h0 h1 (at_host events) → Happens h0 h1 (at_host (events ++ last ∷ []))
host-alone h0 h1 events last is served = rw (at_host-append events (last ∷ []), is, append-nil) served

-- a block came, and its answer was sent: serving may go on
pub answers-block : {A B : Type 0} (l0 l1 l2 : A → List Event → Type 0) (h0 h1 : B → List Event → Type 0)
    (c c' : CardState) (octets out : List ℕ) (count : ℕ) → Happens l0 l1 (came (block octets) ∷ [])
    → Happens l1 l2 (sent (take count out) ∷ [])
    → Answers h0 h1 (doing_after c (block octets)) (left_after c (block octets)) out (Ok count) c'
    → Rounds l0 l2 h0 h1 c (Ok true) c'
answers-block l0 l1 l2 h0 h1 c c' octets out count heard said (events, none, served, (parts, spells, on)) = (
  came (block octets) ∷ (events ++ sent (take count out) ∷ []),
  on-both l0 l1 l2 events (block octets) (sent (take count out)) none refl heard said,
  host-alone h0 h1 events (sent (take count out)) refl served,
  λ most more ending left some run. (
    some,
    rw append_assoc (on (most - 1) (sent (take count out) ∷ more) ending left (spells, run)),
  ),
)

-- a block came, and the line failed to send its answer: serving ends with that
pub fails-to-say : {A B : Type 0} (l0 l1 l2 : A → List Event → Type 0) (h0 h1 : B → List Event → Type 0)
    (c c' : CardState) (octets out : List ℕ) (count : ℕ) (inner : Error)
    → Happens l0 l1 (came (block octets) ∷ []) → Happens l1 l2 (unsent (take count out) inner ∷ [])
    → Answers h0 h1 (doing_after c (block octets)) (left_after c (block octets)) out (Ok count) c'
    → Rounds l0 l2 h0 h1 c (Err (Line inner)) c'
fails-to-say l0 l1 l2 h0 h1 c c' octets out count inner heard said (events, none, served, (parts, spells, on)) = (
  came (block octets) ∷ (events ++ unsent (take count out) inner ∷ []),
  on-both l0 l1 l2 events (block octets) (unsent (take count out) inner) none refl heard said,
  host-alone h0 h1 events (unsent (take count out) inner) refl served,
  λ most some. (
    some,
    on (most - 1) (unsent (take count out) inner ∷ []) (line_failed inner) c' (spells, refl, refl),
  ),
)

-- a block came, and its answer is a fault: serving ends with that
pub refuses : {A B : Type 0} (l0 l1 : A → List Event → Type 0) (h0 h1 : B → List Event → Type 0) (c c' : CardState)
    (octets out : List ℕ) (fault : ServeFault) → Happens l0 l1 (came (block octets) ∷ [])
    → Answers h0 h1 (doing_after c (block octets)) (left_after c (block octets)) out (Err fault) c'
    → Rounds l0 l1 h0 h1 c (Err fault) c'
refuses l0 l1 h0 h1 c c' octets out fault heard (events, none, served, on) =
    (came (block octets) ∷ events, rw none heard, served, λ most some. (some, on (most - 1)))

-- Events happened, and serving from here on makes serving from the start on.
pub record Serving {A B : Type 0} (l0 l : A → List Event → Type 0) (h0 h : B → List Event → Type 0) (most left : ℕ)
    (start c : CardState) : Type 0 where
  pub events : List Event
  pub line : Happens l0 l (on_line events)
  pub hosts : Happens h0 h (at_host events)
  pub serves : (more : List Event) (ending : Ending) (state : CardState) → Serves left hears c more ending state
      → Serves most hears start (events ++ more) ending state

-- events happened that are serving from the start to this end
abbrev pub HasServed : {A B : Type 0} → (A → List Event → Type 0) → (A → List Event → Type 0)
    → (B → List Event → Type 0) → (B → List Event → Type 0) → ℕ → CardState → Ending → CardState → Type 0
HasServed l0 l h0 h most start ending c =
    (events : List Event) × Happens l0 l (on_line events) × Happens h0 h (at_host events)
    × Serves most hears start events ending c

lines-on : {A : Type 0} (l0 l l' : A → List Event → Type 0) (a b : List Event) → Happens l0 l (on_line a)
    → Happens l l' (on_line b) → Happens l0 l' (on_line (a ++ b))
lines-on l0 l l' a b f g = rw on_line-append (after l0 l l' (on_line a) (on_line b) f g)

hosts-on : {A : Type 0} (l0 l l' : A → List Event → Type 0) (a b : List Event) → Happens l0 l (at_host a)
    → Happens l l' (at_host b) → Happens l0 l' (at_host (a ++ b))
hosts-on l0 l l' a b f g = rw at_host-append (after l0 l l' (at_host a) (at_host b) f g)

-- after a round serving goes on with one block less, where one may still come
pub goes-on : {A B : Type 0} (l0 l l' : A → List Event → Type 0) (h0 h h' : B → List Event → Type 0) (most left : ℕ)
    (start c c' : CardState) → 1 ≤ left → Rounds l l' h h' c (Ok true) c' → Serving l0 l h0 h most left start c
    → Serving l0 l' h0 h' most (left - 1) start c'
goes-on l0 l l' h0 h h' most left start c c' some (events, line, hosts, round) s = record {
  events = s.events ++ events;
  line = lines-on l0 l l' s.events events s.line line;
  hosts = hosts-on h0 h h' s.events events s.hosts hosts;
  serves = λ more ending state run. rw append_assoc
      (s.serves (events ++ more) ending state (round left more ending state some run));
}

closes : {A B : Type 0} (l0 l l' : A → List Event → Type 0) (h0 h h' : B → List Event → Type 0) (most left : ℕ)
    (start c c' : CardState) (ending : Ending) (events : List Event) → Happens l l' (on_line events)
    → Happens h h' (at_host events) → Serves left hears c events ending c' → Serving l0 l h0 h most left start c
    → HasServed l0 l' h0 h' most start ending c'
closes l0 l l' h0 h h' most left start c c' ending events line hosts run s = (
  s.events ++ events,
  lines-on l0 l l' s.events events s.line line,
  hosts-on h0 h h' s.events events s.hosts hosts,
  s.serves events ending c' run,
)

-- a round in which nothing comes any more is the last one, and serving is over
pub is-over : {A B : Type 0} (l0 l l' : A → List Event → Type 0) (h0 h h' : B → List Event → Type 0) (most left : ℕ)
    (start c c' : CardState) → 1 ≤ left → Rounds l l' h h' c (Ok false) c' → Serving l0 l h0 h most left start c
    → HasServed l0 l' h0 h' most start over c'
is-over l0 l l' h0 h h' most left start c c' some (events, line, hosts, round) s =
    closes l0 l l' h0 h h' most left start c c' over events line hosts (round left some) s

-- a round with a fault is the last one, and serving ends with that fault
pub stops : {A B : Type 0} (l0 l l' : A → List Event → Type 0) (h0 h h' : B → List Event → Type 0) (most left : ℕ)
    (start c c' : CardState) (fault : ServeFault) → 1 ≤ left → Rounds l l' h h' c (Err fault) c'
    → Serving l0 l h0 h most left start c → HasServed l0 l' h0 h' most start (ending_of {A = Bool} (Err fault)) c'
stops l0 l l' h0 h h' most left start c c' fault some (events, line, hosts, round) s =
    closes l0 l l' h0 h h' most left start c c' _ events line hosts (round left some) s

-- where no block may come any more, serving ends: the caller allows no other
pub runs-out : {A B : Type 0} (l0 l : A → List Event → Type 0) (h0 h : B → List Event → Type 0) (most left : ℕ)
    (start c : CardState) → left ≡ 0 → Serving l0 l h0 h most left start c → HasServed l0 l h0 h most start used_up c
runs-out l0 l h0 h most left start c none s =
    closes l0 l l h0 h h most left start c c used_up [] (none-happen l) (none-happen h) (none, refl, refl) s

-- ---- the answer to a block

-- the card refuses the block: its host isn't asked, and the fault is the answer
pub answers-refused : {B : Type 0} (h : B → List Event → Type 0) (w : Waits)
    (turn : Result CardTurn CardFault) (c c' : CardState)
    (out : List ℕ) (inner : CardFault) → IsGiven turn out (Err inner) → c' ≡ c
    → Answers h h (doing_of w turn) c out (Err (Refused inner)) c'
answers-refused h w turn c c' out inner is e = ([], refl, none-happen h, λ most. rw is (refl, e))

-- the card sends a block of its own: its host isn't asked
pub answers-sent : {B : Type 0} (h : B → List Event → Type 0) (w : Waits)
    (turn : Result CardTurn CardFault) (c c' : CardState)
    (out : List ℕ) (count : ℕ) → IsGiven turn out (Ok (put.Send count)) → c' ≡ c
    → Answers h h (doing_of w turn) c out (Ok count) c'
answers-sent h w turn c c' out count (parts, is, spells) e =
    ([], refl, none-happen h, (parts, spells, λ most more ending left run. rw (is, ← e) run))

sent-on : (step : CardStep) (c c' : CardState) (parts : Parts) (most : ℕ) (more : List Event) (ending : Ending)
    (left : CardState) → turn_of step ≡ Ok (Send parts) → c' ≡ state_after c step
    → Serves most (says parts) c' more ending left
    → Serves most (doing_of c.waits (turn_of step)) (state_after c step) more ending left
sent-on step c c' parts most more ending left is e run = rw (is, ← e) run

refused-on : (step : CardStep) (c c' : CardState) (inner : CardFault) (most : ℕ) → turn_of step ≡ Err inner
    → c' ≡ state_after c step → Serves most (doing_of c.waits (turn_of step)) (state_after c step) [] (refused inner) c'
refused-on step c c' inner most is e = rw is (refl, e)

-- what the host's reply comes to
abbrev pub Replied : {B : Type 0} → (B → List Event → Type 0) → (B → List Event → Type 0) → CardState → List ℕ
    → Result ℕ CardFault → CardState → Type 0
Replied h h' c out result c' = (reply : List ℕ) × IsReplyTo c.command reply
    × Happens h h' (at_host (asked true c.command reply ∷ []))
    × IsReply (turn_of (card_turn c (replies reply))) out result
    × (c' ≡ state_after c (card_turn c (replies reply)))

replied-here : {B : Type 0} (h h' : B → List Event → Type 0) (w : Waits)
    (turn : Result CardTurn CardFault) (c c' : CardState)
    (out : List ℕ) (count : ℕ) → turn ≡ Ok Asked → Replied h h' c out (Ok count) c'
    → Answers h h' (doing_of w turn) c out (Ok count) c'
replied-here h h' w turn c c' out count is (reply, short, served, (parts, sends, spells), e) = (
  asked (is_new w) c.command reply ∷ [],
  refl,
  served,
  (
    parts,
    spells,
    λ most more ending left run.
        rw is (refl, refl, short, sent-on (card_turn c (replies reply)) c c' parts most more ending left sends e run),
  ),
)

-- the card asks its host, and sends a block of the reply
pub answers-replied : {B : Type 0} (h h' : B → List Event → Type 0) (w : Waits)
    (turn : Result CardTurn CardFault) (c here c' : CardState) (out : List ℕ) (count : ℕ) → turn ≡ Ok Asked → here ≡ c
    → Replied h h' here out (Ok count) c' → Answers h h' (doing_of w turn) c out (Ok count) c'
answers-replied h h' w turn c here c' out count is e replied =
    let P : CardState → Type 0 = λ s. Answers h h' (doing_of w turn) s out (Ok count) c' in
    subst P e (replied-here h h' w turn here c' out count is replied)

refused-here : {B : Type 0} (h h' : B → List Event → Type 0) (w : Waits)
    (turn : Result CardTurn CardFault) (c c' : CardState)
    (out : List ℕ) (inner : CardFault) → turn ≡ Ok Asked → Replied h h' c out (Err inner) c'
    → Answers h h' (doing_of w turn) c out (Err (Refused inner)) c'
refused-here h h' w turn c c' out inner is (reply, short, served, refuses-it, e) = (
  asked (is_new w) c.command reply ∷ [],
  refl,
  served,
  λ most. rw is (refl, refl, short, refused-on (card_turn c (replies reply)) c c' inner most refuses-it e),
)

-- the card asks its host, and refuses the reply
pub answers-refused-reply : {B : Type 0} (h h' : B → List Event → Type 0) (w : Waits)
    (turn : Result CardTurn CardFault) (c here c' : CardState) (out : List ℕ) (inner : CardFault) → turn ≡ Ok Asked
    → here ≡ c
    → Replied h h' here out (Err inner) c' → Answers h h' (doing_of w turn) c out (Err (Refused inner)) c'
answers-refused-reply h h' w turn c here c' out inner is e replied =
    let P : CardState → Type 0 = λ s. Answers h h' (doing_of w turn) s out (Err (Refused inner)) c' in
    subst P e (refused-here h h' w turn here c' out inner is replied)

-- ---- a round that ends

-- nothing came, and the card stays as it was
pub hears-nothing : {A B : Type 0} (l0 l1 : A → List Event → Type 0) (h : B → List Event → Type 0) (c : CardState)
    → Happens l0 l1 (came nothing ∷ []) → Rounds l0 l1 h h c (Ok false) c
hears-nothing l0 l1 h c heard = (came nothing ∷ [], heard, none-happen h, λ most some. (some, (refl, refl)))

-- the line failed, and the card stays as it was
pub fails-to-hear : {A B : Type 0} (l0 l1 : A → List Event → Type 0) (h : B → List Event → Type 0) (c : CardState)
    (inner : Error) → Happens l0 l1 (came (failure inner) ∷ []) → Rounds l0 l1 h h c (Err (Line inner)) c
fails-to-hear l0 l1 h c inner heard = (
  came (failure inner) ∷ [],
  heard,
  none-happen h,
  λ most some. (some, (refl, refl)),
)
