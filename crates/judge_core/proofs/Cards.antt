-- The standard permits each block of the card of `t1_core`.
use Rattle.std.proofs.Common.{inl, inr, ◌≡◌, ◌⊎◌, ℕ, ◌+◌, ◌≤◌, List, [], ◌∷◌, ◌++◌, length, take, drop, refl, sym, ap, ◌∙◌, subst, arith}
use Rattle.std.specs.Prelude.{Bool, true, false, ◌&&◌, ◌==◌, if◌then◌else◌, max, Option, Some, None, Ok, Err, nat_le, bytes_eq}
use Rattle.block_core.specs.Block.{Parts, other}
use Rattle.block_core.specs.declared.pcb.Number.{Number}
use Rattle.block_core.specs.declared.pcb.Fault.{Fault}
use Rattle.block_core.specs.declared.pcb.Fault.TheVariants.{Free, Redundancy, Other}
use Rattle.block_core.specs.declared.pcb.S.TheVariants.{Resynch, Ifs, Abort, Wtx}
use Rattle.block_core.specs.declared.pcb.Pcb.{Pcb}
use Rattle.block_core.specs.declared.pcb.Pcb.TheVariants.{Info, Ready, Request, Response}
use Rattle.t1_core.specs.declared.turns.CardTurn.{CardTurn}
use Rattle.t1_core.specs.declared.turns.CardTurn.TheVariants.{Send, Asked}
use Rattle.t1_core.specs.declared.turns.CardFault.TheVariants.{TooLong, Reserved}
use Rattle.t1_core.specs.Came.{Came, got, damaged, invalid, quiet, same, carried, info, ready, response}
use Rattle.t1_core.specs.Terminal.{first_ifsd, is_more, is_reserved}
use Rattle.t1_core.specs.Card.{CardState, CardStep, CardInput, CardRequest, Waits, command, host, reply, asking, size, time, replies, more_time, ask_ifs, takes, card_came, card_turn, card_with, if_host, in_either, in_reply, joins, number_after, request_block, resynched, saving, sends_next, sends_saved, waiting}
use Rattle.block_core.specs.declared.side.Side.TheVariants.{Card}
use Rattle.judge_core.specs.declared.end.Pending.{Pending}
use Rattle.judge_core.specs.declared.end.Pending.TheVariants.{Settled, Chain, Last}
use Rattle.judge_core.specs.declared.end.Asked.{Asked as Question}
use Rattle.judge_core.specs.declared.end.Asked.TheVariants.{Size, Time}
use Rattle.judge_core.specs.declared.end.Owed.{Owed}
use Rattle.judge_core.specs.declared.end.Owed.TheVariants.{AnyBlock, NewMessage, NextBlock, Acknowledgment, SameBlock, Correction, Refusal, SameRequest, Answer, MessageOrRefusal}
use Rattle.judge_core.specs.declared.end.Row.{Row}
use Rattle.judge_core.specs.declared.end.End.{End}
use Rattle.judge_core.specs.declared.courses.Heard.{Heard}
use Rattle.judge_core.specs.declared.courses.Heard.TheVariants.{Beginning, Whole, Perhaps, Broken, Nothing}
use Rattle.judge_core.specs.Ends.{hears_unknown, after, begun, no_row, due_after, hears, hears_info, hears_ready, is_chain, repeatable}
use Rattle.judge_core.specs.Sends.{is_waiting, is_pending, pending_of, sends, sends_info as judge_info}
use Rattle.judge_core.specs.Courses.{got_none, got_whole}
use Rattle.judge_core.specs.Followed.{last_after}
use Rattle.judge_core.specs.Doubts.{overlooked, presumed, sized, sized_by}
use Rattle.judge_core.proofs.Terminals.{core_overlooked}
use Rattle.block_core.specs.declared.pcb.Number.TheVariants.{Zero, One}
use Rattle.judge_core.specs.Watched.{Watched, after_sending, hearing, judged_of}
use Rattle.judge_core.proofs.Passes.{Course, Fewer, Fine, IsBroken, Passes, View, certain, maybe, heard_at, whole_at, broken_at, asking_at, passes, NoAbort, is_then, is_else, first_of_both, fits_size, same_self, same_next, same_other, differs_other, equal_self, bytes_self, settled_ready, with_test, watched}

-- ---- the ends that go with the card's states

-- what isn't told by the state: the sizes are at least those of the engine, and a card counts no repeats
pub record Spare (ifsd first_ifsd : ℕ) : Type 0 where
  pub before : Owed
  pub room : ℕ
  pub first : ℕ
  pub largest : ℕ
  pub tries : ℕ
  pub row : Row
  pub room_ok : ifsd ≤ room
  pub first_ok : first_ifsd ≤ first

abbrev pub SpareOf : CardState → Type 0
SpareOf c = Spare c.ifsd first_ifsd

-- what is under way: nothing that waits for an acknowledgment, the last block of a reply, or an inner one
pub data Kind : Type 0 where
  listens : (joined last : List ℕ) → Kind
  ended : (joined field : List ℕ) → Kind
  chain : (field rest : List ℕ) → Kind

abbrev pub last_of : Kind → List ℕ
last_of (listens joined last) = last
last_of (ended joined field) = field
last_of (chain field rest) = field

abbrev pub pending_with : Kind → Pending
pending_with (listens joined last) = Settled
pending_with (ended joined field) = Last
pending_with (chain field rest) = Chain

abbrev pub next_with : Kind → Number → Number
next_with (listens joined last) number = number
next_with (ended joined field) number = other number
next_with (chain field rest) number = other number

abbrev pub at : Kind → CardState → CardState
at (listens joined last) c = record c { saved = None; waits = command joined }
at (ended joined field) c = record c { saved = Some field; waits = command joined }
at (chain field rest) c = record c { waits = reply field rest }

abbrev pub busy : Number → Number → Pending → Owed → ℕ → Row → ℕ → ℕ → ℕ → Bool → End
busy next expects pending before tries row room first largest aborted = record {
  side = Card;
  next = next;
  expects = expects;
  pending = pending;
  asked = None;
  before = before;
  tries = tries;
  row = row;
  room = room;
  first_room = first;
  largest_room = largest;
  known = true;
  aborted = aborted;
}

abbrev pub in_talk : (c : CardState) → SpareOf c → Kind → End
in_talk c x k = busy (next_with k c.number) c.expected (pending_with k) x.before x.tries x.row x.room x.first x.largest
    false

-- its host may reply
abbrev pub rested : (c : CardState) → SpareOf c → Pending → Bool → End
rested c x pending aborted = busy c.number c.expected pending x.before x.tries x.row x.room x.first x.largest aborted

abbrev pub question : CardRequest → Question
question (size n) = Size n
question (time n) = Time n

-- it asked for a size or for time
abbrev pub inquiring : (c : CardState) → SpareOf c → Pending → Bool → CardRequest → End
inquiring c x pending aborted asked = record (rested c x pending aborted) {
  asked = Some (question asked);
  before = MessageOrRefusal;
  tries = 0;
  row = no_row;
}

abbrev pub InTalk : CardState → Kind → Watched → Type 0
InTalk c k w = (x : SpareOf c) × (hearing w Nothing ≡ watched (in_talk c x k) Nothing (last_of k))

-- ---- what the monitor knows of sizes

-- the sizes are at least those of the engine
pub record HasSizes (ifsc first_ifsc : ℕ) (e : End) : Type 0 where
  pub side : e.side ≡ Card
  pub room : ifsc ≤ e.room
  pub first : first_ifsc ≤ e.first_room

sizes_by : (ifsc first_ifsc : ℕ) (e : End) (pcb : Pcb) (octet : ℕ) → HasSizes ifsc first_ifsc e
    → HasSizes ifsc first_ifsc (sized_by e pcb octet)
sizes_by ifsc first_ifsc e (Info number goes_on) octet h = record { side = h.side; room = h.room; first = h.first }
sizes_by ifsc first_ifsc e (Ready number fault) octet h = h
sizes_by ifsc first_ifsc e (Request Resynch) octet h = h
sizes_by ifsc first_ifsc e (Request Ifs) octet h =
    record { side = h.side; room = omega (arith, h.room); first = h.first }
sizes_by ifsc first_ifsc e (Request Abort) octet h = h
sizes_by ifsc first_ifsc e (Request Wtx) octet h = h
sizes_by ifsc first_ifsc e (Response s) octet h = h

sizes_unknown : (ifsc first_ifsc : ℕ) (e : End) (pcb : Pcb) → HasSizes ifsc first_ifsc e
    → HasSizes ifsc first_ifsc (hears_unknown e pcb).«end»
sizes_unknown ifsc first_ifsc e (Info number goes_on) h = record { side = h.side; room = h.room; first = h.first }
sizes_unknown ifsc first_ifsc e (Ready number fault) h = h
sizes_unknown ifsc first_ifsc e (Request s) h = h
sizes_unknown ifsc first_ifsc e (Response s) h = h

sizes_presumed_by : (ifsc first_ifsc : ℕ) (e : End) (pcb : Pcb) (octet : ℕ) → HasSizes ifsc first_ifsc e
    → HasSizes ifsc first_ifsc (record (sized_by (hears_unknown e pcb).«end» pcb octet) { aborted = e.aborted })
sizes_presumed_by ifsc first_ifsc e pcb octet h =
    let k = sizes_by ifsc first_ifsc (hears_unknown e pcb).«end» pcb octet (sizes_unknown ifsc first_ifsc e pcb h) in
    record { side = k.side; room = k.room; first = k.first }

sizes_sized : (ifsc first_ifsc : ℕ) (e : End) (heard : Heard) → HasSizes ifsc first_ifsc e
    → HasSizes ifsc first_ifsc (sized e heard)
sizes_sized ifsc first_ifsc e Beginning h = h
sizes_sized ifsc first_ifsc e (Whole pcb octet) h = sizes_by ifsc first_ifsc e pcb octet h
sizes_sized ifsc first_ifsc e (Perhaps pcb octet) h = sizes_by ifsc first_ifsc e pcb octet h
sizes_sized ifsc first_ifsc e Broken h = h
sizes_sized ifsc first_ifsc e Nothing h = h

sizes_presumed : (ifsc first_ifsc : ℕ) (e : End) (heard : Heard) → HasSizes ifsc first_ifsc e
    → HasSizes ifsc first_ifsc (presumed e heard)
sizes_presumed ifsc first_ifsc e Beginning h = h
sizes_presumed ifsc first_ifsc e (Whole pcb octet) h = sizes_presumed_by ifsc first_ifsc e pcb octet h
sizes_presumed ifsc first_ifsc e (Perhaps pcb octet) h = sizes_presumed_by ifsc first_ifsc e pcb octet h
sizes_presumed ifsc first_ifsc e Broken h = h
sizes_presumed ifsc first_ifsc e Nothing h = h

pub sizes_overlooked : (ifsc first_ifsc : ℕ) (e : End) (heard : Heard) → HasSizes ifsc first_ifsc e
    → HasSizes ifsc first_ifsc (overlooked e heard)
sizes_overlooked ifsc first_ifsc e heard h = with_test (HasSizes ifsc first_ifsc) e.known _ _
    (λ k. sizes_sized ifsc first_ifsc e heard h) (λ k. sizes_presumed ifsc first_ifsc e heard h)

-- the monitor doesn't know the block that the card took
pub data IsBehind (expected : Number) (e : End) : Type 0 where
  behind_unknown : e.known ≡ false → IsBehind expected e
  behind_asking : e.known ≡ true → is_waiting e.asked ≡ true → IsBehind expected e
  behind_free : e.known ≡ true → e.asked ≡ None → same expected e.expects ≡ false → IsBehind expected e

-- before the card's own I-block
pub data IsBeforeInfo (number expected : Number) (e : End) : Type 0 where
  before_asking : e.known ≡ true → is_waiting e.asked ≡ true → IsBeforeInfo number expected e
  before_free : e.known ≡ true → e.asked ≡ None → same expected e.expects ≡ false → e.next ≡ number
      → is_chain e.pending ≡ false → e.aborted ≡ false → IsBeforeInfo number expected e

-- the card asked, and the monitor knows as much as before
abbrev pub IsExact : Number → Number → End → Type 0
IsExact number expected e = (e.before ≡ MessageOrRefusal) × (e.next ≡ number) × (e.expects ≡ expected)

-- before the card's question
pub data IsBeforeRequest (number expected : Number) (e : End) : Type 0 where
  request_unknown : e.known ≡ false → IsBeforeRequest number expected e
  request_free : e.known ≡ true → e.asked ≡ None → is_chain e.pending ≡ false → e.aborted ≡ false
      → IsBeforeRequest number expected e
  request_asked : (asked : CardRequest) → e.known ≡ true → e.asked ≡ Some (question asked)
      → (e.before ≡ AnyBlock) ⊎ IsExact number expected e → IsBeforeRequest number expected e

-- how the host came to have its turn, and what the monitor still knows if the tap misses the next block
pub data Origin (number expected : Number) (e : End) : Type 0 where
  from_talk : e.known ≡ true → e.asked ≡ None → same expected e.expects ≡ false → e.next ≡ number
      → is_chain e.pending ≡ false → e.aborted ≡ false → Origin number expected e
  from_request : (asked : CardRequest) → e.known ≡ true → e.asked ≡ Some (question asked) → IsExact number expected e
      → Origin number expected e

-- it owes a message, which it may refuse to send
abbrev pub OwesMessage : End → Owed → Type 0
OwesMessage e owed = ((last : List ℕ) (number : Number) (more : Bool) (inf : List ℕ)
    → sends e owed last (Info number more) inf ≡ judge_info e number more inf)
    × ((last : List ℕ) (n : ℕ) → sends e owed last (Request Wtx) (n ∷ [])
    ≡ Ok (record e { asked = Some (Time n); before = MessageOrRefusal; tries = 0; row = no_row; known = true }))
    × ((last : List ℕ) (n : ℕ) → sends e owed last (Request Ifs) (n ∷ [])
    ≡ Ok (record e { asked = Some (Size n); before = MessageOrRefusal; tries = 0; row = no_row; known = true }))

pub record Rests (c : CardState) (w : Watched) : Type 0 where
  pub spare : SpareOf c
  pub pending : Pending
  pub aborted : Bool
  pub owed : Owed
  pub owes : got_whole w.«end» w.heard ≡ Some (after (rested c spare pending aborted) owed)
  pub message : OwesMessage (rested c spare pending aborted) owed
  pub sizes : HasSizes c.ifsd first_ifsd (overlooked w.«end» w.heard)
  pub origin : Origin c.number c.expected (overlooked w.«end» w.heard)

abbrev pub Listens : CardState → Option (List ℕ) → List ℕ → Watched → Type 0
Listens c None joined w = (last : List ℕ) × InTalk c (listens joined last) w
Listens c (Some field) joined w = InTalk c (ended joined field) w

-- the watched end goes with the card's state
abbrev pub Fits : CardState → Waits → Watched → Type 0
Fits c (command joined) w = Listens c c.saved joined w
Fits c host w = Rests c w
Fits c (reply field rest) w = InTalk c (chain field rest) w
Fits c (asking asked) w = (x : SpareOf c) × (pending : Pending) × (aborted : Bool) × (last : List ℕ)
    × (hearing w Nothing ≡ watched (inquiring c x pending aborted asked) Nothing last)

fits_talk : (c : CardState) (k : Kind) (x : SpareOf c)
    → Fits (at k c) (at k c).waits (watched (in_talk c x k) Nothing (last_of k))
fits_talk c (listens joined last) x = (last, (x, refl))
fits_talk c (ended joined field) x = (x, refl)
fits_talk c (chain field rest) x = (x, refl)

-- ---- whose turn it is

-- the card awaits a block, or its host has its turn
abbrev pub AwaitsBlock : Waits → Type 0
AwaitsBlock (command joined) = Unit {0}
AwaitsBlock host = ⊥
AwaitsBlock (reply field rest) = Unit {0}
AwaitsBlock (asking asked) = Unit {0}

abbrev pub AwaitsHost : Waits → Type 0
AwaitsHost waits = AwaitsBlock waits → ⊥

abbrev pub IsOk : CardStep → Type 0
IsOk (Ok step) = Unit {0}
IsOk (Err fault) = ⊥

only_host : (waits : Waits) (step : CardStep) → IsOk (if_host waits step) → AwaitsHost waits
only_host host step h = λ b. b
only_host (command joined) step h = absurd h
only_host (reply field rest) step h = absurd h
only_host (asking asked) step h = absurd h

-- a call of the card's host
abbrev pub IsCall : CardInput → Type 0
IsCall (replies octets) = Unit {0}
IsCall (more_time n) = Unit {0}
IsCall (ask_ifs n) = Unit {0}
IsCall (takes came) = ⊥

pub calls_at_turn : (c : CardState) (input : CardInput) → IsCall input → IsOk (card_turn c input) → AwaitsHost c.waits
calls_at_turn c (replies octets) h ok = only_host c.waits _ ok
calls_at_turn c (more_time n) h ok = only_host c.waits _ ok
calls_at_turn c (ask_ifs n) h ok = only_host c.waits _ ok
calls_at_turn c (takes came) h ok = absurd h

-- while a block is due to the card, what the watched end heard doesn't matter
listens_hearing : (saved : Option (List ℕ)) (c : CardState) (joined : List ℕ) (w : Watched) (heard : Heard)
    → Listens c saved joined w → Listens c saved joined (hearing w heard)
listens_hearing None c joined w heard h = h
listens_hearing (Some field) c joined w heard h = h

pub fits_hearing : (waits : Waits) (c : CardState) (w : Watched) (heard : Heard) → AwaitsBlock waits → Fits c waits w
    → Fits c waits (hearing w heard)
fits_hearing (command joined) c w heard h fits = listens_hearing c.saved c joined w heard fits
fits_hearing host c w heard h fits = absurd h
fits_hearing (reply field rest) c w heard h fits = fits
fits_hearing (asking asked) c w heard h fits = fits

-- ---- a block that the tap misses

-- the end after a silence in which the tap missed its block, if it did
abbrev pub silent : Watched → Watched
silent w = watched (overlooked w.«end» w.heard) Nothing w.last

-- an I-block of the card's own is under way
abbrev pub IsOwnSaved : Option (List ℕ) → Type 0
IsOwnSaved None = ⊥
IsOwnSaved (Some field) = Unit {0}

abbrev pub IsOwnWaits : Option (List ℕ) → Waits → Type 0
IsOwnWaits saved (command joined) = IsOwnSaved saved
IsOwnWaits saved host = ⊥
IsOwnWaits saved (reply field rest) = Unit {0}
IsOwnWaits saved (asking asked) = ⊥

abbrev pub IsCommand : Waits → Type 0
IsCommand (command joined) = Unit {0}
IsCommand host = ⊥
IsCommand (reply field rest) = ⊥
IsCommand (asking asked) = ⊥

-- What the monitor may know after a block of the card that it missed. Where Q holds of a number, the terminal didn't take
-- the I-block with it; where R holds, it waits for RESYNCH; where T holds, it is in an exchange.
pub data Stale (Q : Number → Type 0) (R T : Type 0) (c : CardState) (w : Watched) : Type 0 where
  keeps : Fits c c.waits w → Stale Q R T c w
  is_untold : IsOwnWaits c.saved c.waits → HasSizes c.ifsd first_ifsd w.«end» → w.«end».known ≡ true
      → w.«end».asked ≡ None → w.«end».next ≡ c.number → w.«end».expects ≡ c.expected → Q c.number → Stale Q R T c w
  owes_ready : IsCommand c.waits → T → (c.saved ≡ None) ⊎ (Q c.number → ⊥) → HasSizes c.ifsd first_ifsd w.«end»
      → IsBehind c.expected w.«end» → Stale Q R T c w
  owes_info : IsOwnWaits c.saved c.waits → HasSizes c.ifsd first_ifsd w.«end» → Q c.number
      → IsBeforeInfo c.number c.expected w.«end» → Stale Q R T c w
  owes_request : (asked : CardRequest) → c.waits ≡ asking asked → HasSizes c.ifsd first_ifsd w.«end»
      → IsBeforeRequest c.number c.expected w.«end» → Stale Q R T c w
  owes_anew : IsCommand c.waits → R → HasSizes 0 first_ifsd w.«end» → Stale Q R T c w

-- it had so much room, and has more
talk_by : (c : CardState) (k : Kind) (x : SpareOf c) (pcb : Pcb) (octet : ℕ)
    → (y : SpareOf c) × (sized_by (in_talk c x k) pcb octet ≡ in_talk c y k)
talk_by c k x (Info number goes_on) octet = (x, refl)
talk_by c k x (Ready number fault) octet = (x, refl)
talk_by c k x (Request Resynch) octet = (x, refl)
talk_by c k x (Request Ifs) octet =
    (record x { room = max x.room octet; room_ok = omega (arith, x.room_ok) }, refl)
talk_by c k x (Request Abort) octet = (x, refl)
talk_by c k x (Request Wtx) octet = (x, refl)
talk_by c k x (Response s) octet = (x, refl)

talk_sized : (c : CardState) (k : Kind) (x : SpareOf c) (heard : Heard)
    → (y : SpareOf c) × (overlooked (in_talk c x k) heard ≡ in_talk c y k)
talk_sized c k x Beginning = (x, refl)
talk_sized c k x (Whole pcb octet) = talk_by c k x pcb octet
talk_sized c k x (Perhaps pcb octet) = talk_by c k x pcb octet
talk_sized c k x Broken = (x, refl)
talk_sized c k x Nothing = (x, refl)

sizes_talk : (c : CardState) (k : Kind) (x : SpareOf c) → HasSizes c.ifsd first_ifsd (in_talk c x k)
sizes_talk c k x = record { side = refl; room = x.room_ok; first = x.first_ok }

sizes_silent : (c : CardState) (k : Kind) (x : SpareOf c) (heard : Heard)
    → HasSizes c.ifsd first_ifsd (overlooked (in_talk c x k) heard)
sizes_silent c k x heard = sizes_overlooked c.ifsd first_ifsd (in_talk c x k) heard (sizes_talk c k x)

-- a block after which the monitor knows the card as before
fits_kind : (c : CardState) (k : Kind) (w : Watched) → InTalk c k w → w.last ≡ last_of k
    → Fits (at k c) (at k c).waits w
fits_kind c (listens joined last) w talk is = (last, talk)
fits_kind c (ended joined field) w talk is = talk
fits_kind c (chain field rest) w talk is = talk

keeps_kind : (Q : Number → Type 0) (R T : Type 0) (c : CardState) (k : Kind) (x : SpareOf c) (heard : Heard)
    → Stale Q R T (at k c) (silent (watched (in_talk c x k) heard (last_of k)))
keeps_kind Q R T c k x heard =
    let now = talk_sized c k x heard in
    keeps (fits_kind c k _ (now.0, ap (λ (e : End). watched e Nothing (last_of k)) now.1) refl)

-- it asked, and asks still
asked_by : (c : CardState) (x : SpareOf c) (pending : Pending) (aborted : Bool) (asked : CardRequest) (pcb : Pcb)
    (octet : ℕ)
    → (y : SpareOf c) × (b : Bool)
    × (sized_by (inquiring c x pending aborted asked) pcb octet ≡ inquiring c y pending b asked)
asked_by c x pending aborted asked (Info number goes_on) octet = (x, false, refl)
asked_by c x pending aborted asked (Ready number fault) octet = (x, aborted, refl)
asked_by c x pending aborted asked (Request Resynch) octet = (x, aborted, refl)
asked_by c x pending aborted asked (Request Ifs) octet =
    (record x { room = max x.room octet; room_ok = omega (arith, x.room_ok) }, aborted, refl)
asked_by c x pending aborted asked (Request Abort) octet = (x, aborted, refl)
asked_by c x pending aborted asked (Request Wtx) octet = (x, aborted, refl)
asked_by c x pending aborted asked (Response s) octet = (x, aborted, refl)

asked_sized : (c : CardState) (x : SpareOf c) (pending : Pending) (aborted : Bool) (asked : CardRequest) (heard : Heard)
    → (y : SpareOf c) × (b : Bool)
    × (overlooked (inquiring c x pending aborted asked) heard ≡ inquiring c y pending b asked)
asked_sized c x pending aborted asked Beginning = (x, aborted, refl)
asked_sized c x pending aborted asked (Whole pcb octet) = asked_by c x pending aborted asked pcb octet
asked_sized c x pending aborted asked (Perhaps pcb octet) = asked_by c x pending aborted asked pcb octet
asked_sized c x pending aborted asked Broken = (x, aborted, refl)
asked_sized c x pending aborted asked Nothing = (x, aborted, refl)

differs : (x : Number) → same (other x) x ≡ false
differs Zero = refl
differs One = refl

-- a block with a new number, and the response to RESYNCH
abbrev pub IsInfo : Pcb → Type 0
IsInfo (Info number goes_on) = Unit {0}
IsInfo (Ready number fault) = ⊥
IsInfo (Request s) = ⊥
IsInfo (Response s) = ⊥

abbrev pub IsAnew : Pcb → Type 0
IsAnew (Info number goes_on) = ⊥
IsAnew (Ready number fault) = ⊥
IsAnew (Request s) = ⊥
IsAnew (Response Resynch) = Unit {0}
IsAnew (Response Ifs) = ⊥
IsAnew (Response Abort) = ⊥
IsAnew (Response Wtx) = ⊥

-- What comes: no ABORT, and I-blocks only in an exchange.
abbrev pub Plain : Type 0 → Came → Type 0
Plain T (got (Info number goes_on) inf) = T
Plain T (got (Ready number fault) inf) = Unit {0}
Plain T (got (Request s) inf) = NoAbort (Request s)
Plain T (got (Response s) inf) = Unit {0}
Plain T damaged = Unit {0}
Plain T invalid = Unit {0}
Plain T quiet = Unit {0}

fits_sized : (c : CardState) (k : Kind) (n : ℕ) (x : Spare n first_ifsd)
    → Fits (record (at k c) { ifsd = n }) (at k c).waits
    (watched (busy (next_with k c.number) c.expected (pending_with k) x.before x.tries x.row x.room x.first x.largest
    false) Nothing
    (last_of k))
fits_sized c (listens joined last) n x = (last, (x, refl))
fits_sized c (ended joined field) n x = (x, refl)
fits_sized c (chain field rest) n x = (x, refl)

-- where Q, R and T say the same of the terminal
module _ (Q : Number → Type 0) (R T : Type 0) where
  stale_size : (c : CardState) (k : Kind) (x : SpareOf c) (view : View) (inf : List ℕ)
      → Stale Q R T (record (at k c) { ifsd = carried inf })
      (silent (watched (in_talk c x k) (heard_at view (got (Request Ifs) inf)) (last_of k)))
  stale_size c k x certain inf = keeps (fits_sized c k (carried inf) (record {
    before = x.before;
    room = max x.room (carried inf);
    first = x.first;
    largest = x.largest;
    tries = x.tries;
    row = x.row;
    room_ok = omega arith;
    first_ok = x.first_ok;
  }))
  stale_size c k x (maybe sent octet) inf = keeps (fits_sized c k (carried inf) (record {
    before = x.before;
    room = max x.room (carried inf);
    first = x.first;
    largest = x.largest;
    tries = x.tries;
    row = x.row;
    room_ok = omega arith;
    first_ok = x.first_ok;
  }))

  -- the next I-block of a reply
  stale_next : (c : CardState) (field rest : List ℕ) (w : Watched) → HasSizes c.ifsd first_ifsd w.«end»
      → w.«end».known ≡ true → w.«end».asked ≡ None → w.«end».next ≡ c.number → w.«end».expects ≡ c.expected
      → Q c.number
      → Stale Q R T (record c { saved = saving c.saved field rest; waits = waiting field rest }) w
  stale_next c field [] w sizes h q n x lags = is_untold tt sizes h q n x lags
  stale_next c field (octet ∷ rest) w sizes h q n x lags = is_untold tt sizes h q n x lags

  -- the first one
  before_info : (number expected : Number) (e : End) → Origin number expected e → IsBeforeInfo number expected e
  before_info number expected e (from_talk h q x n p a) = before_free h q x n p a
  before_info number expected e (from_request asked h q exact) = before_asking h (ap is_waiting q)

  stale_first : (c : CardState) (field rest : List ℕ) (w : Watched) → HasSizes c.ifsd first_ifsd w.«end»
      → Origin c.number c.expected w.«end» → Q c.number
      → Stale Q R T (record c { saved = saving c.saved field rest; waits = waiting field rest }) w
  stale_first c field [] w sizes origin lags =
      owes_info tt sizes lags (before_info c.number c.expected w.«end» origin)
  stale_first c field (octet ∷ rest) w sizes origin lags =
      owes_info tt sizes lags (before_info c.number c.expected w.«end» origin)

  -- a question
  before_request : (number expected : Number) (e : End) → Origin number expected e → IsBeforeRequest number expected e
  before_request number expected e (from_talk h q x n p a) = request_free h q p a
  before_request number expected e (from_request asked h q exact) = request_asked asked h q (inr exact)

  stale_asking : (c : CardState) (x : SpareOf c) (pending : Pending) (aborted : Bool) (asked : CardRequest)
      (heard : Heard)
      (last : List ℕ)
      → Stale Q R T (record c { waits = asking asked })
      (silent (watched (inquiring c x pending aborted asked) heard last))
  stale_asking c x pending aborted asked heard last =
      let now = asked_sized c x pending aborted asked heard in
      keeps (now.0, pending, now.1, last, ap (λ (e : End). watched e Nothing last) now.2)

  -- ---- what a turn leaves

  abbrev pub Said : Watched → CardTurn → CardState → Type 0
  Said w (Send b) c =
      Fine w.heard (judged_of w b).verdict × NoAbort b.pcb × AwaitsBlock c.waits
      × Fits c c.waits (after_sending Nothing w b)
      × ((IsInfo b.pcb → Q c.number) → (IsAnew b.pcb → R) → Stale Q R T c (silent w))
  Said w Asked c = AwaitsHost c.waits × Fits c c.waits w

  abbrev pub Outcome : Watched → CardStep → Type 0
  Outcome w (Ok step) = Said w step.0 step.1
  Outcome w (Err fault) = Unit {0}

  -- A block that some course permits, and that leads to this end, which goes with the next state.
  said : (w : Watched) (b : Parts) (c : CardState) (e : End) → Passes w.heard (judged_of w b) e → NoAbort b.pcb
      → AwaitsBlock c.waits → Fits c c.waits (watched e Nothing (last_after w.last b.pcb b.inf))
      → ((IsInfo b.pcb → Q c.number) → (IsAnew b.pcb → R) → Stale Q R T c (silent w)) → Said w (Send b) c
  said w b c e h plain awaits fits stale = (
    h.0,
    plain,
    awaits,
    subst (λ f. Fits c c.waits (watched f Nothing (last_after w.last b.pcb b.inf))) (sym h.1) fits,
    stale,
  )

  awaits_kind : (k : Kind) (c : CardState) → AwaitsBlock (at k c).waits
  awaits_kind (listens joined last) c = tt
  awaits_kind (ended joined field) c = tt
  awaits_kind (chain field rest) c = tt

  -- ---- while it waits for a block of the command or for an R-block

  -- an R-block after an error
  correcting : (c : CardState) (k : Kind) (x : SpareOf c) (heard : Heard) (fault : Fault)
      → Course (in_talk c x k) heard (after (in_talk c x k) Correction)
      → Outcome (watched (in_talk c x k) heard (last_of k)) (Ok (Send (ready c.expected fault), at k c))
  correcting c k x heard fault course =
      let e = in_talk c x k in
      said (watched e heard (last_of k)) (ready c.expected fault) (at k c) e
      (passes e heard (last_of k) (Ready c.expected fault) [] (after e Correction) e course
      (is_then (same c.expected c.expected) _ _ (same_self c.expected))) tt (awaits_kind k c) (fits_talk c k x)
      (λ own anew. keeps_kind Q R T c k x heard)

  -- an I-block is refused, as one that came, or as one that didn't
  refusing : (c : CardState) (k : Kind) (x : SpareOf c) (view : View) (number : Number) (goes_on : Bool) (inf : List ℕ)
      → Outcome (watched (in_talk c x k) (heard_at view (got (Info number goes_on) inf)) (last_of k))
      (Ok (Send (ready c.expected Other), at k c))
  refusing c k x certain number goes_on inf =
      let e = in_talk c x k in
      said (watched e (Whole (Info number goes_on) (carried inf)) (last_of k)) (ready c.expected Other) (at k c) e
      (passes e (Whole (Info number goes_on) (carried inf)) (last_of k) (Ready c.expected Other) [] (after e Refusal) e
      (inr refl)
      (is_then (same c.expected c.expected) _ _ (same_self c.expected))) tt (awaits_kind k c) (fits_talk c k x)
      (λ own anew. keeps_kind Q R T c k x (Whole (Info number goes_on) (carried inf)))
  refusing c k x (maybe sent octet) number goes_on inf =
      correcting c k x (Perhaps (Info number goes_on) (carried inf)) Other (inr refl)

  -- the I-block under way once more
  repeating : (c : CardState) (k : Kind) (x : SpareOf c) (heard : Heard) (goes_on : Bool)
      → Course (in_talk c x k) heard (after (in_talk c x k) SameBlock)
      → same c.number (next_with k c.number) ≡ false → is_pending (pending_with k) goes_on ≡ true
      → Outcome (watched (in_talk c x k) heard (last_of k)) (Ok (Send (info c.number goes_on (last_of k)), at k c))
  repeating c k x heard goes_on course other_number pending =
      let e = in_talk c x k in
      said (watched e heard (last_of k)) (info c.number goes_on (last_of k)) (at k c) e
      (passes e heard (last_of k) (Info c.number goes_on) (last_of k) (after e SameBlock) e course
      (is_else (same c.number (next_with k c.number)) _ _ other_number
      ∙ is_then (is_pending (pending_with k) goes_on) _ _ pending
      ∙ is_then (bytes_eq (last_of k) (last_of k)) _ _ (bytes_self (last_of k)))) tt (awaits_kind k c) (fits_talk c k x)
      (λ own anew. keeps_kind Q R T c k x heard)

  size_told : (c : CardState) (k : Kind) (x : SpareOf c) (view : View) (inf : List ℕ)
      → Outcome (watched (in_talk c x k) (heard_at view (got (Request Ifs) inf)) (last_of k))
      (Ok (Send (response Ifs inf), record (at k c) { ifsd = carried inf }))
  size_told c k x view inf =
      let e = in_talk c x k in
      let n = carried inf in
      let heard = heard_at view (got (Request Ifs) inf) in
      said (watched e heard (last_of k)) (response Ifs inf) (record (at k c) { ifsd = n })
      (record e { room = n; largest_room = repeatable e; row = no_row })
      (passes e heard (last_of k) (Response Ifs) inf (after e (Answer Ifs n))
      (record e { room = n; largest_room = repeatable e; row = no_row })
      (inl (whole_at view e (Request Ifs) inf)) (is_then (n == n) _ _ (equal_self n))) tt (awaits_kind k c)
      (fits_sized c k n (record {
        before = x.before;
        room = n;
        first = x.first;
        largest = max x.room x.largest;
        tries = x.tries;
        row = no_row;
        room_ok = omega arith;
        first_ok =
            x.first_ok;
      }))
      (λ own anew. stale_size c k x view inf)

  -- RESYNCH, in any state
  resynching : (c : CardState) (e : End) (last : List ℕ) (view : View) (inf : List ℕ) → first_ifsd ≤ e.first_room
      → Outcome (watched (record e { side = Card }) (heard_at view (got (Request Resynch) inf)) last) (resynched c)
  resynching c e last view inf h =
      let e1 = record e { side = Card } in
      let heard = heard_at view (got (Request Resynch) inf) in
      let x : Spare first_ifsd first_ifsd = record {
        before = NewMessage;
        room = max e.room e.first_room;
        first = e.first_room;
        largest = max e.room e.first_room;
        tries = 0;
        row = no_row;
        room_ok = omega arith;
        first_ok = h;
      } in
      said (watched e1 heard last) (response Resynch []) (card_with c.limits c.first_ifsc) (begun e1)
      (passes e1 heard last (Response Resynch) [] (after e1 (Answer Resynch 0)) (begun e1)
      (inl (whole_at view e1 (Request Resynch) inf)) refl) tt tt
      (last, (x, refl))
      (λ own anew. owes_anew tt (anew tt) (sizes_overlooked 0 first_ifsd e1 heard
      (record { side = refl; room = omega arith; first = h })))

  -- what is taken alike, whatever waits
  abbrev TakenAlike : Came → Type 0
  TakenAlike (got (Info number goes_on) inf) = Unit {0}
  TakenAlike (got (Ready number fault) inf) = ⊥
  TakenAlike (got (Request Resynch) inf) = ⊥
  TakenAlike (got (Request Ifs) inf) = Unit {0}
  TakenAlike (got (Request Abort) inf) = ⊥
  TakenAlike (got (Request Wtx) inf) = Unit {0}
  TakenAlike (got (Response s) inf) = Unit {0}
  TakenAlike damaged = Unit {0}
  TakenAlike invalid = Unit {0}
  TakenAlike quiet = Unit {0}

  fits_expected : (k : Kind) (c : CardState) → (at k c).expected ≡ c.expected
  fits_expected (listens joined last) c = refl
  fits_expected (ended joined field) c = refl
  fits_expected (chain field rest) c = refl

  other_error : (c : CardState) (k : Kind) (x : SpareOf c) (heard : Heard)
      → Outcome (watched (in_talk c x k) heard (last_of k)) (Ok (Send (ready c.expected Other), at k c))
      → Outcome (watched (in_talk c x k) heard (last_of k)) (Ok (Send (ready (at k c).expected Other), at k c))
  other_error c k x heard h =
      subst (λ n. Outcome (watched (in_talk c x k) heard (last_of k)) (Ok (Send (ready n Other), at k c)))
      (sym (fits_expected k c)) h

  taking_alike : (c : CardState) (k : Kind) (x : SpareOf c) (view : View) (came : Came) → TakenAlike came
      → Outcome (watched (in_talk c x k) (heard_at view came) (last_of k)) (in_either (at k c) came)
  taking_alike c k x view (got (Request Ifs) inf) h = size_told c k x view inf
  taking_alike c k x view damaged h = subst
      (λ n. Outcome (watched (in_talk c x k) (heard_at view damaged) (last_of k))
      (Ok (Send (ready n Redundancy), at k c)))
      (sym (fits_expected k c))
      (correcting c k x (heard_at view damaged) Redundancy (inr (broken_at view damaged (in_talk c x k) tt)))
  taking_alike c k x view invalid h = other_error c k x (heard_at view invalid)
      (correcting c k x (heard_at view invalid) Other (inr (broken_at view invalid (in_talk c x k) tt)))
  taking_alike c k x view quiet h = other_error c k x (heard_at view quiet)
      (correcting c k x (heard_at view quiet) Other (inr (broken_at view quiet (in_talk c x k) tt)))
  taking_alike c k x view (got (Info number goes_on) inf) h =
      other_error c k x (heard_at view (got (Info number goes_on) inf)) (refusing c k x view number goes_on inf)
  taking_alike c k x view (got (Ready number fault) inf) h = absurd h
  taking_alike c k x view (got (Request Resynch) inf) h = absurd h
  taking_alike c k x view (got (Request Abort) inf) h = absurd h
  taking_alike c k x view (got (Request Wtx) inf) h = other_error c k x (heard_at view (got (Request Wtx) inf))
      (correcting c k x (heard_at view (got (Request Wtx) inf)) Other
      (inl (whole_at view (in_talk c x k) (Request Wtx) inf)))
  taking_alike c k x view (got (Response s) inf) h = other_error c k x (heard_at view (got (Response s) inf))
      (correcting c k x (heard_at view (got (Response s) inf)) Other
      (inl (whole_at view (in_talk c x k) (Response s) inf)))

  -- ---- a block of the reply

  abbrev uncounted : (c : CardState) → SpareOf c → SpareOf c
  uncounted c x = record x { tries = 0; row = no_row }

  fits_next : (c : CardState) (x : SpareOf c) (field rest : List ℕ)
      → Fits (record c { saved = saving c.saved field rest; waits = waiting field rest }) (waiting field rest)
      (watched (busy (other c.number) c.expected (pending_of (is_more rest)) x.before 0 no_row x.room x.first x.largest
      false)
      Nothing field)
  fits_next c x field [] = (uncounted c x, refl)
  fits_next c x field (octet ∷ rest) = (uncounted c x, refl)

  awaits_next : (field rest : List ℕ) → AwaitsBlock (waiting field rest)
  awaits_next field [] = tt
  awaits_next field (octet ∷ rest) = tt

  cutting : (w : Watched) (c : CardState) (x : SpareOf c) (pending : Pending) (aborted : Bool) (owed : Owed)
      (octets : List ℕ)
      → Course w.«end» w.heard (after (rested c x pending aborted) owed)
      → ((number : Number) (more : Bool) (inf : List ℕ)
      → sends (rested c x pending aborted) owed w.last (Info number more) inf
      ≡ judge_info (rested c x pending aborted) number more inf)
      → ((field rest : List ℕ) → Q c.number
      → Stale Q R T (record c { saved = saving c.saved field rest; waits = waiting field rest }) (silent w))
      → Outcome w (sends_next c octets)
  cutting w c x pending aborted owed octets course as_info stale =
      let field = take c.ifsd octets in
      let rest = drop c.ifsd octets in
      said w (info c.number (is_more rest) field)
      (record c { saved = saving c.saved field rest; waits = waiting field rest })
      (busy (other c.number) c.expected (pending_of (is_more rest)) x.before 0 no_row x.room x.first x.largest false)
      (passes w.«end» w.heard w.last (Info c.number (is_more rest)) field (after (rested c x pending aborted) owed) _
      course
      (as_info c.number (is_more rest) field
      ∙ is_then (same c.number c.number) _ _ (same_self c.number)
      ∙ is_then (nat_le (length field) x.room) _ _ (fits_size c.ifsd octets x.room x.room_ok)))
      tt (awaits_next field rest) (fits_next c x field rest) (λ own anew. stale field rest (own tt))

  -- ---- a block of the command is joined

  taken : (c : CardState) (k : Kind) (x : SpareOf c) (number : Number) (goes_on : Bool)
      → is_chain (pending_with k) ≡ false → same number c.expected ≡ true
      → hears_info (in_talk c x k) number goes_on
      ≡ after (record (in_talk c x k) { expects = other c.expected; pending = Settled }) (due_after goes_on)
  taken c k x number goes_on h in_order =
      is_else (is_chain (pending_with k)) _ _ h ∙ is_then (same number c.expected) _ _ in_order

  -- at an acknowledgment of the saved block, if there is one
  joining : (c : CardState) (k : Kind) (saved : Option (List ℕ)) (x : SpareOf c) (view : View) (joined : List ℕ)
      (number : Number) (goes_on : Bool) (inf : List ℕ)
      → is_chain (pending_with k) ≡ false → next_with k c.number ≡ number_after saved c.number
      → same number c.expected ≡ true → T
      → Outcome (watched (in_talk c x k) (heard_at view (got (Info number goes_on) inf)) (last_of k))
      (joins (record c { saved = saved }) joined goes_on)
  joining c k saved x view joined number true inf h after_it in_order talk =
      let e = in_talk c x k in
      let e1 = record e { expects = other c.expected; pending = Settled } in
      let e2 = record e1 { tries = 0; row = no_row } in
      let heard = heard_at view (got (Info number true) inf) in
      said (watched e heard (last_of k)) (ready (other c.expected) Free)
      (record c {
        number = number_after saved c.number;
        saved = None;
        expected = other c.expected;
        command = [];
        waits =
            command joined;
      })
      e2
      (passes e heard (last_of k) (Ready (other c.expected) Free) [] (after e1 Acknowledgment) e2
      (inl (whole_at view e (Info number true) inf ∙ ap Some (taken c k x number true h in_order)))
      (is_then (same (other c.expected) (other c.expected)) _ _ (same_self (other c.expected)))) tt tt (
        last_of k,
        (
          uncounted c x,
          ap (λ n. watched (busy n (other c.expected) Settled x.before 0 no_row x.room x.first x.largest false) Nothing
              (last_of k)) after_it,
        ),
      )
      (λ own anew. let now = talk_sized c k x heard in
      owes_ready tt talk (inl refl) (sizes_silent c k x heard)
      (behind_free (ap (λ (e : End). e.known) now.1) (ap (λ (e : End). e.asked) now.1)
      (ap (λ (e : End). same (other c.expected) e.expects) now.1 ∙ differs c.expected)))
  joining c k saved x view joined number false inf h after_it in_order talk = (
    (λ b. b),
    record {
      spare = x;
      pending = Settled;
      aborted = false;
      owed = NewMessage;
      owes = whole_at view (in_talk c x k) (Info number false) inf ∙ ap Some (taken c k x number false h in_order
          ∙ ap (λ n. after (busy n (other c.expected) Settled x.before x.tries x.row x.room x.first x.largest false)
          NewMessage)
          after_it);
      message = ((λ last n m i. refl), (λ last n. refl), (λ last n. refl));
      sizes = sizes_silent c k x (heard_at view (got (Info number false) inf));
      origin = let now = talk_sized c k x (heard_at view (got (Info number false) inf)) in
          from_talk (ap (λ (e : End). e.known) now.1) (ap (λ (e : End). e.asked) now.1)
          (ap (λ (e : End). same (other c.expected) e.expects) now.1 ∙ differs c.expected)
          (ap (λ (e : End). e.next) now.1 ∙ after_it)
          (ap (λ (e : End). is_chain e.pending) now.1 ∙ h)
          (ap (λ (e : End). e.aborted) now.1);
    },
  )

  -- ---- R-blocks

  ended_ready : (b : Bool) (c : CardState) (joined field : List ℕ) (x : SpareOf c) (view : View) (number : Number)
      (fault : Fault) (inf : List ℕ) → same number c.number ≡ b
      → Outcome (watched (in_talk c x (ended joined field)) (heard_at view (got (Ready number fault) inf)) field)
      (sends_saved (at (ended joined field) c) (Some field) b)
  ended_ready true c joined field x view number fault inf h =
      let e = in_talk c x (ended joined field) in
      repeating c (ended joined field) x (heard_at view (got (Ready number fault) inf)) false
      (inl (whole_at view e (Ready number fault) inf
      ∙ ap (λ b. Some (hears_ready e Last b)) (same_other number c.number h)))
      (same_next c.number) refl
  ended_ready false c joined field x view number fault inf h =
      let e = in_talk c x (ended joined field) in
      correcting c (ended joined field) x (heard_at view (got (Ready number fault) inf)) Free
      (inl (whole_at view e (Ready number fault) inf
      ∙ ap (λ b. Some (hears_ready e Last b)) (differs_other number c.number h)))

  listens_ready : (b : Bool) (c : CardState) (joined last : List ℕ) (x : SpareOf c) (view : View) (number : Number)
      (fault : Fault) (inf : List ℕ)
      → Outcome (watched (in_talk c x (listens joined last)) (heard_at view (got (Ready number fault) inf)) last)
      (sends_saved (at (listens joined last) c) None b)
  listens_ready b c joined last x view number fault inf =
      let e = in_talk c x (listens joined last) in
      correcting c (listens joined last) x (heard_at view (got (Ready number fault) inf)) Free
      (inl (whole_at view e (Ready number fault) inf ∙ ap Some (settled_ready e (same number c.number))))

  chain_ready : (c : CardState) (field rest : List ℕ) (x : SpareOf c) (view : View) (number : Number) (fault : Fault)
      (inf : List ℕ)
      → Outcome (watched (in_talk c x (chain field rest)) (heard_at view (got (Ready number fault) inf)) field)
      (in_reply (at (chain field rest) c) field rest (got (Ready number fault) inf))
  chain_ready c field rest x view number fault inf =
      let e = in_talk c x (chain field rest) in
      let heard = heard_at view (got (Ready number fault) inf) in
      let w = watched e heard field in
      with_test (Outcome w) (same number c.number) _ _
      (λ h. repeating c (chain field rest) x heard true
      (inl (whole_at view e (Ready number fault) inf
      ∙ ap (λ b. Some (hears_ready e Chain b)) (same_other number c.number h)))
      (same_next c.number) refl)
      (λ h. cutting w (record c { number = other c.number; waits = reply field rest }) x Settled false NextBlock rest
      (inl (whole_at view e (Ready number fault) inf
      ∙ ap (λ b. Some (hears_ready e Chain b)) (differs_other number c.number h)))
      (λ n m i. refl)
      (λ field1 rest1 lags. let now = talk_sized c (chain field rest) x heard in
      stale_next (record c { number = other c.number; waits = reply field rest }) field1 rest1 (silent w)
      (sizes_silent c (chain field rest) x heard)
      (ap (λ (e : End). e.known) now.1) (ap (λ (e : End). e.asked) now.1) (ap (λ (e : End). e.next) now.1)
      (ap (λ (e : End). e.expects) now.1) lags))

  -- ---- all that comes to each kind

  taking_none : (c : CardState) (joined last : List ℕ) (x : SpareOf c) (view : View) (came : Came) → Plain T came
      → Outcome (watched (in_talk c x (listens joined last)) (heard_at view came) last)
      (card_came (at (listens joined last) c) (command joined) came)
  taking_none c joined last x view (got (Info number goes_on) inf) h =
      with_test (Outcome (watched (in_talk c x (listens joined last)) (heard_at view (got (Info number goes_on) inf))
      last))
      (same number c.expected && nat_le (length joined + length inf) c.limits.command) _ _
      (λ e. joining c (listens joined last) None x view (joined ++ inf) number goes_on inf refl refl
      (first_of_both _ _ e) h)
      (λ e. taking_alike c (listens joined last) x view (got (Info number goes_on) inf) tt)
  taking_none c joined last x view (got (Ready number fault) inf) h =
      listens_ready (same number c.number) c joined last x view number fault inf
  taking_none c joined last x view (got (Request Resynch) inf) h =
      resynching c (in_talk c x (listens joined last)) last view inf x.first_ok
  taking_none c joined last x view (got (Request Ifs) inf) h =
      taking_alike c (listens joined last) x view (got (Request Ifs) inf) tt
  taking_none c joined last x view (got (Request Abort) inf) h = absurd h
  taking_none c joined last x view (got (Request Wtx) inf) h =
      taking_alike c (listens joined last) x view (got (Request Wtx) inf) tt
  taking_none c joined last x view (got (Response s) inf) h =
      taking_alike c (listens joined last) x view (got (Response s) inf) tt
  taking_none c joined last x view damaged h = taking_alike c (listens joined last) x view damaged tt
  taking_none c joined last x view invalid h = taking_alike c (listens joined last) x view invalid tt
  taking_none c joined last x view quiet h = taking_alike c (listens joined last) x view quiet tt

  taking_saved : (c : CardState) (joined field : List ℕ) (x : SpareOf c) (view : View) (came : Came) → Plain T came
      → Outcome (watched (in_talk c x (ended joined field)) (heard_at view came) field)
      (card_came (at (ended joined field) c) (command joined) came)
  taking_saved c joined field x view (got (Info number goes_on) inf) h =
      with_test (Outcome (watched (in_talk c x (ended joined field)) (heard_at view (got (Info number goes_on) inf))
      field))
      (same number c.expected && nat_le (length joined + length inf) c.limits.command) _ _
      (λ e. joining c (ended joined field) (Some field) x view (joined ++ inf) number goes_on inf refl refl
      (first_of_both _ _ e) h)
      (λ e. taking_alike c (ended joined field) x view (got (Info number goes_on) inf) tt)
  taking_saved c joined field x view (got (Ready number fault) inf) h =
      ended_ready (same number c.number) c joined field x view number fault inf refl
  taking_saved c joined field x view (got (Request Resynch) inf) h =
      resynching c (in_talk c x (ended joined field)) field view inf x.first_ok
  taking_saved c joined field x view (got (Request Ifs) inf) h =
      taking_alike c (ended joined field) x view (got (Request Ifs) inf) tt
  taking_saved c joined field x view (got (Request Abort) inf) h = absurd h
  taking_saved c joined field x view (got (Request Wtx) inf) h =
      taking_alike c (ended joined field) x view (got (Request Wtx) inf) tt
  taking_saved c joined field x view (got (Response s) inf) h =
      taking_alike c (ended joined field) x view (got (Response s) inf) tt
  taking_saved c joined field x view damaged h = taking_alike c (ended joined field) x view damaged tt
  taking_saved c joined field x view invalid h = taking_alike c (ended joined field) x view invalid tt
  taking_saved c joined field x view quiet h = taking_alike c (ended joined field) x view quiet tt

  taking_chain : (c : CardState) (field rest : List ℕ) (x : SpareOf c) (view : View) (came : Came) → Plain T came
      → Outcome (watched (in_talk c x (chain field rest)) (heard_at view came) field)
      (card_came (at (chain field rest) c) (reply field rest) came)
  taking_chain c field rest x view (got (Info number goes_on) inf) h =
      taking_alike c (chain field rest) x view (got (Info number goes_on) inf) tt
  taking_chain c field rest x view (got (Ready number fault) inf) h = chain_ready c field rest x view number fault inf
  taking_chain c field rest x view (got (Request Resynch) inf) h =
      resynching c (in_talk c x (chain field rest)) field view inf x.first_ok
  taking_chain c field rest x view (got (Request Ifs) inf) h =
      taking_alike c (chain field rest) x view (got (Request Ifs) inf) tt
  taking_chain c field rest x view (got (Request Abort) inf) h = absurd h
  taking_chain c field rest x view (got (Request Wtx) inf) h =
      taking_alike c (chain field rest) x view (got (Request Wtx) inf) tt
  taking_chain c field rest x view (got (Response s) inf) h =
      taking_alike c (chain field rest) x view (got (Response s) inf) tt
  taking_chain c field rest x view damaged h = taking_alike c (chain field rest) x view damaged tt
  taking_chain c field rest x view invalid h = taking_alike c (chain field rest) x view invalid tt
  taking_chain c field rest x view quiet h = taking_alike c (chain field rest) x view quiet tt

  -- ---- it waits for a response

  asking_again : (c : CardState) (asked : CardRequest) (x : SpareOf c) (pending : Pending) (aborted : Bool)
      (last : List ℕ)
      (heard : Heard)
      → Course (inquiring c x pending aborted asked) heard (after (inquiring c x pending aborted asked) SameRequest)
      → Outcome (watched (inquiring c x pending aborted asked) heard last)
      (Ok (Send (request_block asked), record c { waits = asking asked }))
  asking_again c (size n) x pending aborted last heard course =
      let e = inquiring c x pending aborted (size n) in
      said (watched e heard last) (request_block (size n)) (record c { waits = asking (size n) }) e
      (passes e heard last (Request Ifs) (n ∷ []) (after e SameRequest) e course (is_then (n == n) _ _ (equal_self n)))
      tt
      tt
      (x, pending, aborted, last, refl)
      (λ own anew. stale_asking c x pending aborted (size n) heard last)
  asking_again c (time n) x pending aborted last heard course =
      let e = inquiring c x pending aborted (time n) in
      said (watched e heard last) (request_block (time n)) (record c { waits = asking (time n) }) e
      (passes e heard last (Request Wtx) (n ∷ []) (after e SameRequest) e course (is_then (n == n) _ _ (equal_self n)))
      tt
      tt
      (x, pending, aborted, last, refl)
      (λ own anew. stale_asking c x pending aborted (time n) heard last)

  -- what answers no request
  abbrev NoAnswer : Came → Type 0
  NoAnswer (got (Info number goes_on) inf) = Unit {0}
  NoAnswer (got (Ready number fault) inf) = Unit {0}
  NoAnswer (got (Request Resynch) inf) = ⊥
  NoAnswer (got (Request Ifs) inf) = Unit {0}
  NoAnswer (got (Request Abort) inf) = Unit {0}
  NoAnswer (got (Request Wtx) inf) = Unit {0}
  NoAnswer (got (Response Resynch) inf) = Unit {0}
  NoAnswer (got (Response Ifs) inf) = ⊥
  NoAnswer (got (Response Abort) inf) = Unit {0}
  NoAnswer (got (Response Wtx) inf) = ⊥
  NoAnswer damaged = Unit {0}
  NoAnswer invalid = Unit {0}
  NoAnswer quiet = Unit {0}

  -- a card counts no repeats
  uncounted_card : (e : End) (heard : Heard) → Fewer (record e { tries = 0 }) heard
      → got_none (record e { tries = 0 }) heard ≡ Some (after (record e { tries = 0 }) SameRequest)
  uncounted_card e heard h =
      let zero_tries : h.0 ≡ 0 = omega (arith, h.1) in
      subst (λ n. got_none (record e { tries = 0 }) heard ≡ Some (after (record e { tries = n }) SameRequest))
      zero_tries
      h.2

  abbrev asking_end : End → CardRequest → End
  asking_end e asked = record e { side = Card; asked = Some (question asked); tries = 0; known = true }

  whole_still : (view : View) (e : End) (asked : CardRequest) (pcb : Pcb) (inf : List ℕ)
      → hears (asking_end e asked) pcb (carried inf) ≡ after (asking_end e asked) SameRequest
      → Course (asking_end e asked) (heard_at view (got pcb inf)) (after (asking_end e asked) SameRequest)
  whole_still view e asked pcb inf h = inl (whole_at view (asking_end e asked) pcb inf ∙ ap Some h)

  broken_still : (view : View) (e : End) (asked : CardRequest) (came : Came) → IsBroken came
      → Course (asking_end e asked) (heard_at view came) (after (asking_end e asked) SameRequest)
  broken_still view e asked came h = inr (uncounted_card (asking_end e asked) (heard_at view came)
      (asking_at view came (asking_end e asked) (question asked) h))

  not_answered : (view : View) (e : End) (asked : CardRequest) (came : Came) → NoAnswer came
      → Course (asking_end e asked) (heard_at view came) (after (asking_end e asked) SameRequest)
  not_answered view e (size n) (got (Info number goes_on) inf) h =
      whole_still view e (size n) (Info number goes_on) inf refl
  not_answered view e (time n) (got (Info number goes_on) inf) h =
      whole_still view e (time n) (Info number goes_on) inf refl
  not_answered view e (size n) (got (Ready number fault) inf) h =
      whole_still view e (size n) (Ready number fault) inf refl
  not_answered view e (time n) (got (Ready number fault) inf) h =
      whole_still view e (time n) (Ready number fault) inf refl
  not_answered view e asked (got (Request Resynch) inf) h = absurd h
  not_answered view e (size n) (got (Request Ifs) inf) h = whole_still view e (size n) (Request Ifs) inf refl
  not_answered view e (time n) (got (Request Ifs) inf) h = whole_still view e (time n) (Request Ifs) inf refl
  not_answered view e (size n) (got (Request Abort) inf) h = whole_still view e (size n) (Request Abort) inf refl
  not_answered view e (time n) (got (Request Abort) inf) h = whole_still view e (time n) (Request Abort) inf refl
  not_answered view e (size n) (got (Request Wtx) inf) h = whole_still view e (size n) (Request Wtx) inf refl
  not_answered view e (time n) (got (Request Wtx) inf) h = whole_still view e (time n) (Request Wtx) inf refl
  not_answered view e (size n) (got (Response Resynch) inf) h = whole_still view e (size n) (Response Resynch) inf refl
  not_answered view e (time n) (got (Response Resynch) inf) h = whole_still view e (time n) (Response Resynch) inf refl
  not_answered view e asked (got (Response Ifs) inf) h = absurd h
  not_answered view e (size n) (got (Response Abort) inf) h = whole_still view e (size n) (Response Abort) inf refl
  not_answered view e (time n) (got (Response Abort) inf) h = whole_still view e (time n) (Response Abort) inf refl
  not_answered view e asked (got (Response Wtx) inf) h = absurd h
  not_answered view e asked damaged h = broken_still view e asked damaged tt
  not_answered view e asked invalid h = broken_still view e asked invalid tt
  not_answered view e asked quiet h = broken_still view e asked quiet tt

  asking_still : (c : CardState) (asked : CardRequest) (x : SpareOf c) (pending : Pending) (aborted : Bool)
      (last : List ℕ)
      (view : View) (came : Came) → NoAnswer came
      → Outcome (watched (inquiring c x pending aborted asked) (heard_at view came) last)
      (Ok (Send (request_block asked), record c { waits = asking asked }))
  asking_still c asked x pending aborted last view came h =
      asking_again c asked x pending aborted last (heard_at view came)
      (not_answered view (inquiring c x pending aborted asked) asked came h)

  asked_sizes : (c : CardState) (x : SpareOf c) (pending : Pending) (aborted : Bool) (asked : CardRequest)
      (heard : Heard) → HasSizes c.ifsd first_ifsd (overlooked (inquiring c x pending aborted asked) heard)
  asked_sizes c x pending aborted asked heard =
      sizes_overlooked c.ifsd first_ifsd (inquiring c x pending aborted asked) heard
      (record { side = refl; room = x.room_ok; first = x.first_ok })

  asked_origin : (c : CardState) (x : SpareOf c) (pending : Pending) (aborted : Bool) (asked : CardRequest)
      (heard : Heard)
      → Origin c.number c.expected (overlooked (inquiring c x pending aborted asked) heard)
  asked_origin c x pending aborted asked heard =
      let now = core_overlooked (inquiring c x pending aborted asked) heard refl in
      from_request asked now.0 now.1 (now.2, now.3, now.4)

  rests_again : (c : CardState) (x : SpareOf c) (pending : Pending) (aborted : Bool) (e : End) (heard : Heard)
      (last : List ℕ)
      → got_whole e heard
      ≡ Some (after (record (rested c x pending aborted) { before = MessageOrRefusal; tries = 0; row = no_row })
      MessageOrRefusal)
      → HasSizes c.ifsd first_ifsd (overlooked e heard) → Origin c.number c.expected (overlooked e heard)
      → Rests c (watched e heard last)
  rests_again c x pending aborted e heard last owes sizes origin = record {
    spare = record {
      before = MessageOrRefusal;
      room = x.room;
      first = x.first;
      largest = x.largest;
      tries = 0;
      row = no_row;
      room_ok = x.room_ok;
      first_ok = x.first_ok;
    };
    pending = pending;
    aborted = aborted;
    owed = MessageOrRefusal;
    owes = owes;
    message = ((λ last n m i. refl), (λ last n. refl), (λ last n. refl));
    sizes = sizes;
    origin = origin;
  }

  all_asking : (c : CardState) (asked : CardRequest) (x : SpareOf c) (pending : Pending) (aborted : Bool)
      (last : List ℕ)
      (view : View) (came : Came)
      → Outcome (watched (inquiring c x pending aborted asked) (heard_at view came) last)
      (card_came (record c { waits = asking asked }) (asking asked) came)
  all_asking c asked x pending aborted last view (got (Request Resynch) inf) =
      resynching c (inquiring c x pending aborted asked) last view inf x.first_ok
  all_asking c (size n) x pending aborted last view (got (Response Ifs) inf) =
      let e = inquiring c x pending aborted (size n) in
      with_test (Outcome (watched e (heard_at view (got (Response Ifs) inf)) last)) (carried inf == n) _ _
      (λ h. (
        (λ b. b),
        rests_again (record c { ifsc = n; waits = host }) x pending aborted e (heard_at view (got (Response Ifs) inf))
            last
            (whole_at view e (Response Ifs) inf ∙ ap Some (is_then (carried inf == n) _ _ h))
            (asked_sizes c x pending aborted (size n) (heard_at view (got (Response Ifs) inf)))
            (asked_origin c x pending aborted (size n) (heard_at view (got (Response Ifs) inf))),
      ))
      (λ h. asking_again c (size n) x pending aborted last (heard_at view (got (Response Ifs) inf))
      (inl (whole_at view e (Response Ifs) inf ∙ ap Some (is_else (carried inf == n) _ _ h))))
  all_asking c (time n) x pending aborted last view (got (Response Wtx) inf) =
      let e = inquiring c x pending aborted (time n) in
      with_test (Outcome (watched e (heard_at view (got (Response Wtx) inf)) last)) (carried inf == n) _ _
      (λ h. (
        (λ b. b),
        rests_again (record c { waits = host }) x pending aborted e (heard_at view (got (Response Wtx) inf)) last
            (whole_at view e (Response Wtx) inf ∙ ap Some (is_then (carried inf == n) _ _ h))
            (asked_sizes c x pending aborted (time n) (heard_at view (got (Response Wtx) inf)))
            (asked_origin c x pending aborted (time n) (heard_at view (got (Response Wtx) inf))),
      ))
      (λ h. asking_again c (time n) x pending aborted last (heard_at view (got (Response Wtx) inf))
      (inl (whole_at view e (Response Wtx) inf ∙ ap Some (is_else (carried inf == n) _ _ h))))
  all_asking c (size n) x pending aborted last view (got (Response Wtx) inf) =
      asking_again c (size n) x pending aborted last (heard_at view (got (Response Wtx) inf))
      (inl (whole_at view (inquiring c x pending aborted (size n)) (Response Wtx) inf))
  all_asking c (time n) x pending aborted last view (got (Response Ifs) inf) =
      asking_again c (time n) x pending aborted last (heard_at view (got (Response Ifs) inf))
      (inl (whole_at view (inquiring c x pending aborted (time n)) (Response Ifs) inf))
  all_asking c (size n) x pending aborted last view (got (Info number goes_on) inf) =
      asking_still c (size n) x pending aborted last view (got (Info number goes_on) inf) tt
  all_asking c (time n) x pending aborted last view (got (Info number goes_on) inf) =
      asking_still c (time n) x pending aborted last view (got (Info number goes_on) inf) tt
  all_asking c (size n) x pending aborted last view (got (Ready number fault) inf) =
      asking_still c (size n) x pending aborted last view (got (Ready number fault) inf) tt
  all_asking c (time n) x pending aborted last view (got (Ready number fault) inf) =
      asking_still c (time n) x pending aborted last view (got (Ready number fault) inf) tt
  all_asking c (size n) x pending aborted last view (got (Request Ifs) inf) =
      asking_still c (size n) x pending aborted last view (got (Request Ifs) inf) tt
  all_asking c (time n) x pending aborted last view (got (Request Ifs) inf) =
      asking_still c (time n) x pending aborted last view (got (Request Ifs) inf) tt
  all_asking c (size n) x pending aborted last view (got (Request Abort) inf) =
      asking_still c (size n) x pending aborted last view (got (Request Abort) inf) tt
  all_asking c (time n) x pending aborted last view (got (Request Abort) inf) =
      asking_still c (time n) x pending aborted last view (got (Request Abort) inf) tt
  all_asking c (size n) x pending aborted last view (got (Request Wtx) inf) =
      asking_still c (size n) x pending aborted last view (got (Request Wtx) inf) tt
  all_asking c (time n) x pending aborted last view (got (Request Wtx) inf) =
      asking_still c (time n) x pending aborted last view (got (Request Wtx) inf) tt
  all_asking c (size n) x pending aborted last view (got (Response Resynch) inf) =
      asking_still c (size n) x pending aborted last view (got (Response Resynch) inf) tt
  all_asking c (time n) x pending aborted last view (got (Response Resynch) inf) =
      asking_still c (time n) x pending aborted last view (got (Response Resynch) inf) tt
  all_asking c (size n) x pending aborted last view (got (Response Abort) inf) =
      asking_still c (size n) x pending aborted last view (got (Response Abort) inf) tt
  all_asking c (time n) x pending aborted last view (got (Response Abort) inf) =
      asking_still c (time n) x pending aborted last view (got (Response Abort) inf) tt
  all_asking c (size n) x pending aborted last view damaged =
      asking_still c (size n) x pending aborted last view damaged tt
  all_asking c (time n) x pending aborted last view damaged =
      asking_still c (time n) x pending aborted last view damaged tt
  all_asking c (size n) x pending aborted last view invalid =
      asking_still c (size n) x pending aborted last view invalid tt
  all_asking c (time n) x pending aborted last view invalid =
      asking_still c (time n) x pending aborted last view invalid tt
  all_asking c (size n) x pending aborted last view quiet = asking_still c (size n) x pending aborted last view quiet tt
  all_asking c (time n) x pending aborted last view quiet = asking_still c (time n) x pending aborted last view quiet tt

  -- ---- the card's host

  replying : (c : CardState) (w : Watched) (octets : List ℕ) → Rests c w
      → Outcome w (if nat_le (length octets) c.limits.answer then sends_next c octets else Err TooLong)
  replying c w octets r = with_test (Outcome w) (nat_le (length octets) c.limits.answer) _ _
      (λ h. cutting w c r.spare r.pending r.aborted r.owed octets (inl r.owes) (r.message.0 w.last)
      (λ field rest lags. stale_first c field rest (silent w) r.sizes r.origin lags))
      (λ h. tt)

  asking_time : (c : CardState) (w : Watched) (n : ℕ) → Rests c w
      → Outcome w (Ok (Send (request_block (time n)), record c { waits = asking (time n) }))
  asking_time c w n r =
      let e1 = inquiring c r.spare r.pending r.aborted (time n) in
      said w (request_block (time n)) (record c { waits = asking (time n) }) e1
      (passes w.«end» w.heard w.last (Request Wtx) (n ∷ []) (after (rested c r.spare r.pending r.aborted) r.owed) e1
      (inl r.owes) (r.message.1 w.last n)) tt tt
      (r.spare, r.pending, r.aborted, w.last, refl)
      (λ own anew. owes_request (time n) refl r.sizes (before_request c.number c.expected _ r.origin))

  asking_size : (c : CardState) (w : Watched) (n : ℕ) → Rests c w
      → Outcome w (if is_reserved n then Err Reserved
      else Ok (Send (request_block (size n)), record c { waits = asking (size n) }))
  asking_size c w n r =
      let e1 = inquiring c r.spare r.pending r.aborted (size n) in
      with_test (Outcome w) (is_reserved n) _ _
      (λ h. tt)
      (λ h. said w (request_block (size n)) (record c { waits = asking (size n) }) e1
      (passes w.«end» w.heard w.last (Request Ifs) (n ∷ []) (after (rested c r.spare r.pending r.aborted) r.owed) e1
      (inl r.owes) (r.message.2 w.last n)) tt tt
      (r.spare, r.pending, r.aborted, w.last, refl)
      (λ own anew. owes_request (size n) refl r.sizes (before_request c.number c.expected _ r.origin)))

  -- ---- any turn of the card

  -- the watched end is this one
  moved : (w v : Watched) (heard : Heard) (step : CardStep) → hearing w Nothing ≡ v → Outcome (hearing v heard) step
      → Outcome (hearing w heard) step
  moved w v heard step h k = subst (λ u. Outcome (hearing u heard) step) (sym h) k

  listening : (saved : Option (List ℕ)) (c : CardState) (joined : List ℕ) (w : Watched) (view : View) (came : Came)
      → Listens c saved joined w → Plain T came
      → Outcome (hearing w (heard_at view came))
      (card_came (record c { saved = saved; waits = command joined }) (command joined) came)
  listening None c joined w view came fits h =
      moved w (watched (in_talk c fits.1.0 (listens joined fits.0)) Nothing fits.0) (heard_at view came) _ fits.1.1
      (taking_none c joined fits.0 fits.1.0 view came h)
  listening (Some field) c joined w view came fits h =
      moved w (watched (in_talk c fits.0 (ended joined field)) Nothing field) (heard_at view came) _ fits.1
      (taking_saved c joined field fits.0 view came h)

  taking : (waits : Waits) (c : CardState) (w : Watched) (view : View) (came : Came) → Fits c waits w → Plain T came
      → Outcome (hearing w (heard_at view came)) (card_came (record c { waits = waits }) waits came)
  taking host c w view came fits h = tt
  taking (command joined) c w view came fits h = listening c.saved c joined w view came fits h
  taking (reply field rest) c w view came fits h =
      moved w (watched (in_talk c fits.0 (chain field rest)) Nothing field) (heard_at view came) _ fits.1
      (taking_chain c field rest fits.0 view came h)
  taking (asking asked) c w view came fits h =
      moved w (watched (inquiring c fits.0 fits.1 fits.2 asked) Nothing fits.3) (heard_at view came) _ fits.4
      (all_asking c asked fits.0 fits.1 fits.2 fits.3 view came)

  -- whatever came, as it was seen
  pub takes_well : (c : CardState) (w : Watched) (view : View) (came : Came) → Fits c c.waits w → Plain T came
      → Outcome (hearing w (heard_at view came)) (card_turn c (takes came))
  takes_well c w view came fits h = taking c.waits c w view came fits h

  if_rests : (waits : Waits) (c : CardState) (w : Watched) (step : CardStep) → Fits c waits w
      → (Rests c w → Outcome w step) → Outcome w (if_host waits step)
  if_rests host c w step fits h = h fits
  if_rests (command joined) c w step fits h = tt
  if_rests (reply field rest) c w step fits h = tt
  if_rests (asking asked) c w step fits h = tt

  pub calls_well : (c : CardState) (w : Watched) (input : CardInput) → IsCall input → Fits c c.waits w
      → Outcome w (card_turn c input)
  calls_well c w (replies octets) h fits = if_rests c.waits c w _ fits (replying c w octets)
  calls_well c w (more_time n) h fits = if_rests c.waits c w _ fits (asking_time c w n)
  calls_well c w (ask_ifs n) h fits = if_rests c.waits c w _ fits (asking_size c w n)
  calls_well c w (takes came) h fits = absurd h
