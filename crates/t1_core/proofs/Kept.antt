-- Each event keeps what is reached.
use Rattle.std.proofs.Common.{inl, inr, true≢false, ◌≡◌, ℕ, ◌+◌, ◌≤◌, List, [], ◌∷◌, ◌++◌, length, refl, sym, ap, ◌∙◌, subst, arith, tests}
use Rattle.std.specs.Prelude.{Bool, true, false, ◌&&◌, Option, Some, None, Ok, Err, nat_lt, if◌then◌else◌, nat_le, take, drop, ◌==◌}
use Rattle.std.proofs.lemmas.Bool.{le-leb, leb-true, ltb-false}
use Rattle.std.proofs.lemmas.List.{take-append-drop, length-take, append_assoc, append-nil, length-append}
use Rattle.octet_core.proofs.Choice.{either}
use Rattle.block_core.specs.Block.{Parts}
use Rattle.block_core.specs.declared.pcb.Number.{Number}
use Rattle.block_core.specs.declared.pcb.Number.TheVariants.{Zero, One}
use Rattle.block_core.specs.declared.pcb.Fault.TheVariants.{Free, Redundancy, Other}
use Rattle.block_core.specs.declared.pcb.S.TheVariants.{Resynch, Ifs}
use Rattle.block_core.specs.declared.pcb.Pcb.TheVariants.{Info, Ready, Request, Response}
use Rattle.t1_core.specs.declared.turns.TerminalTurn.TheVariants.{Send, Dead}
use Rattle.t1_core.specs.declared.turns.CardTurn.TheVariants.{Send as Sends}
use Rattle.t1_core.specs.declared.turns.TerminalFault.TheVariants.{TooLong}
use Rattle.t1_core.specs.declared.turns.CardFault.TheVariants.{TooLong as ReplyTooLong}
use Rattle.block_core.specs.Block.{other}
use Rattle.t1_core.specs.Came.{same, info, ready, request}
use Rattle.t1_core.specs.Terminal.{failure, no_failure, fails, sends_next, is_reserved, idle, answer, resynch, dead, Limits, most_repeats, most_resynchs}
use Rattle.t1_core.specs.Card.{CardState, CardStep, Waits as CardWaits, if_host, command, host, reply, asking, size, time, number_after, sends_next as card_sends_next, sends_saved, waiting as card_waiting}
use Rattle.t1_core.specs.Link.{tables, Link, link_with, run, nothing, to_card, Exchange, answered, unanswered, given_up, command_of, without_answer, with_reply, terminal_makes, card_makes, happens, Event, delivers, damages, spoils, loses, transmits, asks_ifsd, host_replies, host_asks_time, host_asks_ifsc}
use Rattle.t1_core.specs.Promises.{Matches, FitsReceiver, AllFit}
use Rattle.t1_core.proofs.Good.{Good, at_rest, size_asked, size_taken, size_doubted, asks_resynch, resynched, resynch_doubted, over, sends, sends_asked, sends_doubted, taken_asked, taken_told, served, size_wanted, size_given, size_missed, time_wanted, time_given, time_missed, replying, replies_asked, replies_doubted, joined_told, joined_doubted, Few, Counts, Spare, Asked, Fine, Held, Ended, OlderEnded, term, crd, link, NoHost, first, further}

equal_self : (n : ℕ) → (n == n) ≡ true
equal_self n = search (tests, arith)

-- the newest command was not given to the host, or was
by_none : (m : List ℕ) (es hs : List Exchange) → Matches es hs → Matches (unanswered m ∷ es) hs
by_none m es [] ok = ok
by_none m es (h ∷ hs) ok = inl ok

-- the histories match, with a newest command that the host wasn't given
pub not_served : (m : List ℕ) (es hs : List Exchange) → Fine es hs → Held (unanswered m ∷ es) hs
not_served m es hs ok = record { matches = by_none m es hs ok.matches; older = ok.ended }

-- and with one that is the newest of the host's
pub is_served : {h : Exchange} {es hs : List Exchange} → Fine es hs → Held (unanswered (command_of h) ∷ es) (h ∷ hs)
is_served ok = record { matches = inr (refl, ok.matches); older = ok.ended }

older_too : (es : List Exchange) → Ended es → OlderEnded es
older_too [] h = tt
older_too (answered m a ∷ es) h = h
older_too (unanswered m ∷ es) h = absurd h
older_too (given_up m ∷ es) h = h

-- where each exchange ended, each but the newest did
pub held : {es hs : List Exchange} → Fine es hs → Held es hs
held {es} ok = record { matches = ok.matches; older = older_too es ok.ended }

-- the exchange is given up
pub ends_held : (es hs : List Exchange) → Held es hs → Fine (without_answer es) hs
ends_held [] hs ok = record { matches = ok.matches; ended = tt }
ends_held (answered m a ∷ es) hs ok = record { matches = ok.matches; ended = ok.older }
ends_held (given_up m ∷ es) hs ok = record { matches = ok.matches; ended = ok.older }
ends_held (unanswered m ∷ es) [] ok = record { matches = ok.matches; ended = ok.older }
ends_held (unanswered m ∷ es) (h ∷ hs) ok = record { matches = ok.matches; ended = ok.older }

-- a failure repeats a block, or leads to RESYNCH
failing_by : {P : Type 0} (l : Link) (d : ℕ) (b : Parts) → l.card.first_ifsc ≡ l.terminal.first_ifsc
    → NoHost l.card.waits → Spare P l.terminal.failures l.failed d → Held l.exchanges l.services
    → Good P l.terminal.limits l.card.limits
    (link (record l.terminal { failures = l.terminal.failures + 1 }) l.card (to_card b) l.exchanges l.services d
    (l.failed + 1))
    → (x : Bool) → nat_lt l.terminal.failures most_repeats ≡ x → Good P l.terminal.limits l.card.limits
    (terminal_makes l (record l { disturbed = d })
    (if x
    then Ok (Send b, record l.terminal { failures = l.terminal.failures + 1 }, failure)
    else Ok (Send (request Resynch []), record l.terminal { waits = resynch 1 }, failure)))
failing_by {P} l d b e nh u ok again true h = again
failing_by {P} l d b e nh u ok again false h =
    let three = ltb-false _ _ h in
    subst (λ i0. Good P l.terminal.limits l.card.limits
    (link (record l.terminal { waits = resynch 1 }) (record l.card { first_ifsc = i0 })
    (to_card (request Resynch [])) l.exchanges l.services d (l.failed + 1))) (sym e)
    (asks_resynch l.card.waits (λ fit. let now = u fit in omega arith) nh ok)

failing : {P : Type 0} (l : Link) (d : ℕ) (b : Parts) → l.card.first_ifsc ≡ l.terminal.first_ifsc → NoHost l.card.waits
    → Spare P l.terminal.failures l.failed d → Held l.exchanges l.services
    → Good P l.terminal.limits l.card.limits
    (link (record l.terminal { failures = l.terminal.failures + 1 }) l.card (to_card b) l.exchanges l.services d
    (l.failed + 1))
    → Good P l.terminal.limits l.card.limits (terminal_makes l (record l { disturbed = d }) (fails l.terminal b))
failing l d b e nh u ok again = failing_by l d b e nh u ok again (nat_lt l.terminal.failures most_repeats) refl

-- RESYNCH is asked for again, or the terminal is dead
asking_again_by : {P : Type 0} (l : Link) (d k : ℕ) → l.card.first_ifsc ≡ l.terminal.first_ifsc → NoHost l.card.waits
    → Asked P k 2 l.failed d → Held l.exchanges l.services
    → (x : Bool) → nat_lt k most_resynchs ≡ x → Good P l.terminal.limits l.card.limits
    (terminal_makes l (record l { disturbed = d })
    (if x
    then Ok (Send (request Resynch []), record l.terminal { waits = resynch (k + 1) }, no_failure)
    else Ok (Dead, record l.terminal { waits = dead }, no_failure)))
asking_again_by {P} l d k e nh u ok true h =
    subst (λ i0. Good P l.terminal.limits l.card.limits
    (link (record l.terminal { waits = resynch (k + 1) }) (record l.card { first_ifsc = i0 })
    (to_card (request Resynch [])) l.exchanges l.services d l.failed)) (sym e)
    (asks_resynch l.card.waits (λ fit. let now = u fit in omega arith) nh ok)
asking_again_by {P} l d k e nh u ok false h =
    let three = ltb-false _ _ h in
    over l.card.waits (λ fit. let now = u fit in omega arith) nh (ends_held l.exchanges l.services ok)

asking_again : {P : Type 0} (l : Link) (d k : ℕ) → l.card.first_ifsc ≡ l.terminal.first_ifsc → NoHost l.card.waits
    → Asked P k 2 l.failed d → Held l.exchanges l.services
    → Good P l.terminal.limits l.card.limits (terminal_makes l (record l { disturbed = d })
    (if nat_lt k most_resynchs
    then Ok (Send (request Resynch []), record l.terminal { waits = resynch (k + 1) }, no_failure)
    else Ok (Dead, record l.terminal { waits = dead }, no_failure)))
asking_again l d k e nh u ok = asking_again_by l d k e nh u ok (nat_lt k most_resynchs) refl

same_self : (x : Number) → same x x ≡ true
same_self Zero = refl
same_self One = refl

other_differs : (x : Number) → same (other x) x ≡ false
other_differs Zero = refl
other_differs One = refl

number_fits : (x : Number) (n k : ℕ) → n ≤ k → (same x x && nat_le n k) ≡ true
number_fits Zero n k h = le-leb n k h
number_fits One n k h = le-leb n k h

unsaved : (c : CardState) (saved : Option (List ℕ)) (x : Number)
    → sends_saved c saved (same (number_after saved x) x) ≡ Ok (Sends (ready c.expected Free), c)
unsaved c None x = refl
unsaved c (Some field) Zero = refl
unsaved c (Some field) One = refl

no_host : (field rest : List ℕ) → NoHost (card_waiting field rest)
no_host field [] = tt
no_host field (x ∷ rest) = tt

first_part : (xs ys zs m : List ℕ) (k : ℕ) → xs ++ ys ++ zs ≡ m → length m ≤ k → length xs + length ys ≤ k
first_part xs ys zs m k e h =
    omega (arith, length-append (xs ++ ys) zs, length-append xs ys, ap length e)

cut_again : (xs ys m : List ℕ) (i : ℕ) → xs ++ ys ≡ m → xs ++ take i ys ++ drop i ys ≡ m
cut_again xs ys m i e = append_assoc xs (take i ys) (drop i ys) ∙ ap (λ t. xs ++ t) (take-append-drop i ys) ∙ e

cut_fits : (i : ℕ) (ys : List ℕ) → length (take i ys) ≤ i
cut_fits i ys = omega (arith, length-take i ys)

-- The receiver takes it for a block whose check octet is wrong.
pub kept_damages : {P : Type 0} {kt kc : Limits} (l : Link) → Good P kt kc l → Good P kt kc (happens tables l damages)
kept_damages l (at_rest u ok) = at_rest u ok
kept_damages l (size_asked u ok) = size_doubted (λ fit. let now = u fit in omega arith) ok
kept_damages l (size_taken {v = v} u ok) =
    failing l (l.disturbed + 1) (request Ifs (v ∷ [])) refl tt (λ fit. let now = u fit in omega arith) (held ok)
    (size_asked (λ fit. let now = u fit in omega arith) ok)
kept_damages l (size_doubted {v = v} u ok) =
    failing l (l.disturbed + 1) (request Ifs (v ∷ [])) refl tt (λ fit. let now = u fit in omega arith) (held ok)
    (size_asked (λ fit. let now = u fit in omega arith) ok)
kept_damages l (asks_resynch (command joined) u nh ok) =
    resynch_doubted (command joined) _ (λ fit. let now = u fit in omega arith) tt tt ok
kept_damages l (asks_resynch (reply field rest) u nh ok) =
    resynch_doubted (reply field rest) _ (λ fit. let now = u fit in omega arith) tt tt ok
kept_damages l (asks_resynch (asking (size v)) u nh ok) =
    resynch_doubted (asking (size v)) _ (λ fit. let now = u fit in omega arith) tt tt ok
kept_damages l (asks_resynch (asking (time v)) u nh ok) =
    resynch_doubted (asking (time v)) _ (λ fit. let now = u fit in omega arith) tt tt ok
kept_damages l (asks_resynch host u nh ok) = absurd nh
kept_damages l (resynched {k = k} u ok) =
    asking_again l (l.disturbed + 1) k refl tt (λ fit. let now = u fit in omega arith) ok
kept_damages l (resynch_doubted w pcb {k = k} u nh plain ok) =
    asking_again l (l.disturbed + 1) k refl nh (λ fit. let now = u fit in omega arith) ok
kept_damages l (over w u nh ok) = over w u nh ok
kept_damages l (sends joined field rest u e p q ok) =
    sends_doubted joined field rest (λ fit. let now = u fit in omega arith) e p q ok
kept_damages l (sends_asked joined field rest u e p q ok) =
    sends_doubted joined field rest (λ fit. let now = u fit in omega arith) e p q ok
kept_damages l (sends_doubted joined field [] {c = c} {saved = saved} {m = m} {es = es} {hs = hs} u e p q ok) =
    failing l (l.disturbed + 1) (ready (number_after saved c) Redundancy) refl tt
    (λ fit. let now = u fit in omega arith) (not_served m es hs ok)
    (sends_asked joined field [] (λ fit. let now = u fit in omega arith) e p q ok)
kept_damages l (sends_doubted joined field (x ∷ rest) {c = c} {saved = saved} {m = m} {es = es} {hs = hs} u e p q ok) =
    failing l (l.disturbed + 1) (ready (number_after saved c) Redundancy) refl tt
    (λ fit. let now = u fit in omega arith) (not_served m es hs ok)
    (sends_asked joined field (x ∷ rest) (λ fit. let now = u fit in omega arith) e p q ok)
kept_damages l (taken_asked u e p ok) = taken_told (λ fit. let now = u fit in omega arith) e p ok
kept_damages l (taken_told {c = c} {m = m} {es = es} {hs = hs} u e p ok) =
    failing l (l.disturbed + 1) (ready c Redundancy) refl tt (λ fit. let now = u fit in omega arith)
    (not_served m es hs ok) (taken_asked (λ fit. let now = u fit in omega arith) e p ok)
kept_damages l (served u ok) = served u ok
kept_damages l (size_wanted {c = c} u ok) =
    failing l (l.disturbed + 1) (ready c Redundancy) refl tt (λ fit. let now = u fit in omega arith) (is_served ok)
    (size_missed (λ fit. let now = u fit in omega arith) ok)
kept_damages l (size_given u ok) = size_wanted (λ fit. let now = u fit in omega arith) ok
kept_damages l (size_missed u ok) = size_wanted (λ fit. let now = u fit in omega arith) ok
kept_damages l (time_wanted {c = c} u ok) =
    failing l (l.disturbed + 1) (ready c Redundancy) refl tt (λ fit. let now = u fit in omega arith) (is_served ok)
    (time_missed (λ fit. let now = u fit in omega arith) ok)
kept_damages l (time_given u ok) = time_wanted (λ fit. let now = u fit in omega arith) ok
kept_damages l (time_missed u ok) = time_wanted (λ fit. let now = u fit in omega arith) ok
kept_damages l (replying (first sent) field rest {c = c} u e p q ok) =
    failing l (l.disturbed + 1) (ready c Redundancy) refl (no_host field rest) (λ fit. let now = u fit in omega arith)
    (is_served ok) (replies_asked (first sent) field rest (λ fit. let now = u fit in omega arith) e p q ok)
kept_damages l (replying (further joined) field rest {c = c} u e p q ok) =
    failing l (l.disturbed + 1) (ready c Redundancy) refl (no_host field rest) (λ fit. let now = u fit in omega arith)
    (is_served ok) (replies_asked (further joined) field rest (λ fit. let now = u fit in omega arith) e p q ok)
kept_damages l (replies_asked ear field [] u e p q ok) =
    replies_doubted ear field [] (λ fit. let now = u fit in omega arith) e p q ok
kept_damages l (replies_asked ear field (x ∷ rest) u e p q ok) =
    replies_doubted ear field (x ∷ rest) (λ fit. let now = u fit in omega arith) e p q ok
kept_damages l (replies_doubted (first sent) field rest {c = c} u e p q ok) =
    failing l (l.disturbed + 1) (ready c Redundancy) refl (no_host field rest) (λ fit. let now = u fit in omega arith)
    (is_served ok) (replies_asked (first sent) field rest (λ fit. let now = u fit in omega arith) e p q ok)
kept_damages l (replies_doubted (further joined) field rest {c = c} u e p q ok) =
    failing l (l.disturbed + 1) (ready c Redundancy) refl (no_host field rest) (λ fit. let now = u fit in omega arith)
    (is_served ok) (replies_asked (further joined) field rest (λ fit. let now = u fit in omega arith) e p q ok)
kept_damages l (joined_told u e p ok) = joined_doubted (λ fit. let now = u fit in omega arith) e p ok
kept_damages l (joined_doubted {c = c} u e p ok) =
    failing l (l.disturbed + 1) (ready (other c) Redundancy) refl tt (λ fit. let now = u fit in omega arith)
    (is_served ok) (joined_told (λ fit. let now = u fit in omega arith) e p ok)

-- The receiver takes it for another invalid block.
pub kept_spoils : {P : Type 0} {kt kc : Limits} (l : Link) → Good P kt kc l → Good P kt kc (happens tables l spoils)
kept_spoils l (at_rest u ok) = at_rest u ok
kept_spoils l (size_asked u ok) = size_doubted (λ fit. let now = u fit in omega arith) ok
kept_spoils l (size_taken {v = v} u ok) =
    failing l (l.disturbed + 1) (request Ifs (v ∷ [])) refl tt (λ fit. let now = u fit in omega arith) (held ok)
    (size_asked (λ fit. let now = u fit in omega arith) ok)
kept_spoils l (size_doubted {v = v} u ok) =
    failing l (l.disturbed + 1) (request Ifs (v ∷ [])) refl tt (λ fit. let now = u fit in omega arith) (held ok)
    (size_asked (λ fit. let now = u fit in omega arith) ok)
kept_spoils l (asks_resynch (command joined) u nh ok) =
    resynch_doubted (command joined) _ (λ fit. let now = u fit in omega arith) tt tt ok
kept_spoils l (asks_resynch (reply field rest) u nh ok) =
    resynch_doubted (reply field rest) _ (λ fit. let now = u fit in omega arith) tt tt ok
kept_spoils l (asks_resynch (asking (size v)) u nh ok) =
    resynch_doubted (asking (size v)) _ (λ fit. let now = u fit in omega arith) tt tt ok
kept_spoils l (asks_resynch (asking (time v)) u nh ok) =
    resynch_doubted (asking (time v)) _ (λ fit. let now = u fit in omega arith) tt tt ok
kept_spoils l (asks_resynch host u nh ok) = absurd nh
kept_spoils l (resynched {k = k} u ok) = asking_again l (l.disturbed + 1) k refl tt
    (λ fit. let now = u fit in omega arith) ok
kept_spoils l (resynch_doubted w pcb {k = k} u nh plain ok) =
    asking_again l (l.disturbed + 1) k refl nh (λ fit. let now = u fit in omega arith) ok
kept_spoils l (over w u nh ok) = over w u nh ok
kept_spoils l (sends joined field rest u e p q ok) =
    sends_doubted joined field rest (λ fit. let now = u fit in omega arith) e p q ok
kept_spoils l (sends_asked joined field rest u e p q ok) =
    sends_doubted joined field rest (λ fit. let now = u fit in omega arith) e p q ok
kept_spoils l (sends_doubted joined field [] {c = c} {saved = saved} {m = m} {es = es} {hs = hs} u e p q ok) =
    failing l (l.disturbed + 1) (ready (number_after saved c) Other) refl tt (λ fit. let now = u fit in omega arith)
    (not_served m es hs ok) (sends_asked joined field [] (λ fit. let now = u fit in omega arith) e p q ok)
kept_spoils l (sends_doubted joined field (x ∷ rest) {c = c} {saved = saved} {m = m} {es = es} {hs = hs} u e p q ok) =
    failing l (l.disturbed + 1) (ready (number_after saved c) Other) refl tt (λ fit. let now = u fit in omega arith)
    (not_served m es hs ok) (sends_asked joined field (x ∷ rest) (λ fit. let now = u fit in omega arith) e p q ok)
kept_spoils l (taken_asked u e p ok) = taken_told (λ fit. let now = u fit in omega arith) e p ok
kept_spoils l (taken_told {c = c} {m = m} {es = es} {hs = hs} u e p ok) =
    failing l (l.disturbed + 1) (ready c Other) refl tt (λ fit. let now = u fit in omega arith) (not_served m es hs ok)
    (taken_asked (λ fit. let now = u fit in omega arith) e p ok)
kept_spoils l (served u ok) = served u ok
kept_spoils l (size_wanted {c = c} u ok) =
    failing l (l.disturbed + 1) (ready c Other) refl tt (λ fit. let now = u fit in omega arith) (is_served ok)
    (size_missed (λ fit. let now = u fit in omega arith) ok)
kept_spoils l (size_given u ok) = size_wanted (λ fit. let now = u fit in omega arith) ok
kept_spoils l (size_missed u ok) = size_wanted (λ fit. let now = u fit in omega arith) ok
kept_spoils l (time_wanted {c = c} u ok) =
    failing l (l.disturbed + 1) (ready c Other) refl tt (λ fit. let now = u fit in omega arith) (is_served ok)
    (time_missed (λ fit. let now = u fit in omega arith) ok)
kept_spoils l (time_given u ok) = time_wanted (λ fit. let now = u fit in omega arith) ok
kept_spoils l (time_missed u ok) = time_wanted (λ fit. let now = u fit in omega arith) ok
kept_spoils l (replying (first sent) field rest {c = c} u e p q ok) =
    failing l (l.disturbed + 1) (ready c Other) refl (no_host field rest) (λ fit. let now = u fit in omega arith)
    (is_served ok) (replies_asked (first sent) field rest (λ fit. let now = u fit in omega arith) e p q ok)
kept_spoils l (replying (further joined) field rest {c = c} u e p q ok) =
    failing l (l.disturbed + 1) (ready c Other) refl (no_host field rest) (λ fit. let now = u fit in omega arith)
    (is_served ok) (replies_asked (further joined) field rest (λ fit. let now = u fit in omega arith) e p q ok)
kept_spoils l (replies_asked ear field [] u e p q ok) =
    replies_doubted ear field [] (λ fit. let now = u fit in omega arith) e p q ok
kept_spoils l (replies_asked ear field (x ∷ rest) u e p q ok) =
    replies_doubted ear field (x ∷ rest) (λ fit. let now = u fit in omega arith) e p q ok
kept_spoils l (replies_doubted (first sent) field rest {c = c} u e p q ok) =
    failing l (l.disturbed + 1) (ready c Other) refl (no_host field rest) (λ fit. let now = u fit in omega arith)
    (is_served ok) (replies_asked (first sent) field rest (λ fit. let now = u fit in omega arith) e p q ok)
kept_spoils l (replies_doubted (further joined) field rest {c = c} u e p q ok) =
    failing l (l.disturbed + 1) (ready c Other) refl (no_host field rest) (λ fit. let now = u fit in omega arith)
    (is_served ok) (replies_asked (further joined) field rest (λ fit. let now = u fit in omega arith) e p q ok)
kept_spoils l (joined_told u e p ok) = joined_doubted (λ fit. let now = u fit in omega arith) e p ok
kept_spoils l (joined_doubted {c = c} u e p ok) =
    failing l (l.disturbed + 1) (ready (other c) Other) refl tt (λ fit. let now = u fit in omega arith) (is_served ok)
    (joined_told (λ fit. let now = u fit in omega arith) e p ok)

-- It is lost.
pub kept_loses : {P : Type 0} {kt kc : Limits} (l : Link) → Good P kt kc l → Good P kt kc (happens tables l loses)
kept_loses l (at_rest u ok) = at_rest u ok
kept_loses l (size_asked {v = v} u ok) = failing l (l.disturbed + 1) (request Ifs (v ∷ [])) refl tt
    (λ fit. let now = u fit in omega arith) (held ok) (size_asked (λ fit. let now = u fit in omega arith) ok)
kept_loses l (size_taken {v = v} u ok) = failing l (l.disturbed + 1) (request Ifs (v ∷ [])) refl tt
    (λ fit. let now = u fit in omega arith) (held ok) (size_asked (λ fit. let now = u fit in omega arith) ok)
kept_loses l (size_doubted {v = v} u ok) =
    failing l (l.disturbed + 1) (request Ifs (v ∷ [])) refl tt (λ fit. let now = u fit in omega arith) (held ok)
    (size_asked (λ fit. let now = u fit in omega arith) ok)
kept_loses l (asks_resynch w {k = k} u nh ok) =
    asking_again l (l.disturbed + 1) k refl nh (λ fit. let now = u fit in omega arith) ok
kept_loses l (resynched {k = k} u ok) = asking_again l (l.disturbed + 1) k refl tt
    (λ fit. let now = u fit in omega arith) ok
kept_loses l (resynch_doubted w pcb {k = k} u nh plain ok) =
    asking_again l (l.disturbed + 1) k refl nh (λ fit. let now = u fit in omega arith) ok
kept_loses l (over w u nh ok) = over w u nh ok
kept_loses l (sends joined field [] {c = c} {saved = saved} {m = m} {es = es} {hs = hs} u e p q ok) =
    failing l (l.disturbed + 1) (ready (number_after saved c) Free) refl tt (λ fit. let now = u fit in omega arith)
    (not_served m es hs ok) (sends_asked joined field [] (λ fit. let now = u fit in omega arith) e p q ok)
kept_loses l (sends joined field (x ∷ rest) {c = c} {saved = saved} {m = m} {es = es} {hs = hs} u e p q ok) =
    failing l (l.disturbed + 1) (ready (number_after saved c) Free) refl tt (λ fit. let now = u fit in omega arith)
    (not_served m es hs ok) (sends_asked joined field (x ∷ rest) (λ fit. let now = u fit in omega arith) e p q ok)
kept_loses l (sends_asked joined field [] {c = c} {saved = saved} {m = m} {es = es} {hs = hs} u e p q ok) =
    failing l (l.disturbed + 1) (ready (number_after saved c) Free) refl tt (λ fit. let now = u fit in omega arith)
    (not_served m es hs ok) (sends_asked joined field [] (λ fit. let now = u fit in omega arith) e p q ok)
kept_loses l (sends_asked joined field (x ∷ rest) {c = c} {saved = saved} {m = m} {es = es} {hs = hs} u e p q ok) =
    failing l (l.disturbed + 1) (ready (number_after saved c) Free) refl tt (λ fit. let now = u fit in omega arith)
    (not_served m es hs ok) (sends_asked joined field (x ∷ rest) (λ fit. let now = u fit in omega arith) e p q ok)
kept_loses l (sends_doubted joined field [] {c = c} {saved = saved} {m = m} {es = es} {hs = hs} u e p q ok) =
    failing l (l.disturbed + 1) (ready (number_after saved c) Free) refl tt (λ fit. let now = u fit in omega arith)
    (not_served m es hs ok) (sends_asked joined field [] (λ fit. let now = u fit in omega arith) e p q ok)
kept_loses l (sends_doubted joined field (x ∷ rest) {c = c} {saved = saved} {m = m} {es = es} {hs = hs} u e p q ok) =
    failing l (l.disturbed + 1) (ready (number_after saved c) Free) refl tt (λ fit. let now = u fit in omega arith)
    (not_served m es hs ok) (sends_asked joined field (x ∷ rest) (λ fit. let now = u fit in omega arith) e p q ok)
kept_loses l (taken_asked {c = c} {m = m} {es = es} {hs = hs} u e p ok) =
    failing l (l.disturbed + 1) (ready c Free) refl tt (λ fit. let now = u fit in omega arith) (not_served m es hs ok)
    (taken_asked (λ fit. let now = u fit in omega arith) e p ok)
kept_loses l (taken_told {c = c} {m = m} {es = es} {hs = hs} u e p ok) =
    failing l (l.disturbed + 1) (ready c Free) refl tt (λ fit. let now = u fit in omega arith) (not_served m es hs ok)
    (taken_asked (λ fit. let now = u fit in omega arith) e p ok)
kept_loses l (served u ok) = served u ok
kept_loses l (size_wanted {c = c} u ok) =
    failing l (l.disturbed + 1) (ready c Free) refl tt (λ fit. let now = u fit in omega arith) (is_served ok)
    (size_missed (λ fit. let now = u fit in omega arith) ok)
kept_loses l (size_given {c = c} u ok) = failing l (l.disturbed + 1) (ready c Free) refl tt
    (λ fit. let now = u fit in omega arith) (is_served ok) (size_missed (λ fit. let now = u fit in omega arith) ok)
kept_loses l (size_missed {c = c} u ok) =
    failing l (l.disturbed + 1) (ready c Free) refl tt (λ fit. let now = u fit in omega arith) (is_served ok)
    (size_missed (λ fit. let now = u fit in omega arith) ok)
kept_loses l (time_wanted {c = c} u ok) =
    failing l (l.disturbed + 1) (ready c Free) refl tt (λ fit. let now = u fit in omega arith) (is_served ok)
    (time_missed (λ fit. let now = u fit in omega arith) ok)
kept_loses l (time_given {c = c} u ok) = failing l (l.disturbed + 1) (ready c Free) refl tt
    (λ fit. let now = u fit in omega arith) (is_served ok) (time_missed (λ fit. let now = u fit in omega arith) ok)
kept_loses l (time_missed {c = c} u ok) =
    failing l (l.disturbed + 1) (ready c Free) refl tt (λ fit. let now = u fit in omega arith) (is_served ok)
    (time_missed (λ fit. let now = u fit in omega arith) ok)
kept_loses l (replying (first sent) field rest {c = c} u e p q ok) =
    failing l (l.disturbed + 1) (ready c Free) refl (no_host field rest) (λ fit. let now = u fit in omega arith)
    (is_served ok) (replies_asked (first sent) field rest (λ fit. let now = u fit in omega arith) e p q ok)
kept_loses l (replying (further joined) field rest {c = c} u e p q ok) =
    failing l (l.disturbed + 1) (ready c Free) refl (no_host field rest) (λ fit. let now = u fit in omega arith)
    (is_served ok) (replies_asked (further joined) field rest (λ fit. let now = u fit in omega arith) e p q ok)
kept_loses l (replies_asked (first sent) field rest {c = c} u e p q ok) =
    failing l (l.disturbed + 1) (ready c Free) refl (no_host field rest) (λ fit. let now = u fit in omega arith)
    (is_served ok) (replies_asked (first sent) field rest (λ fit. let now = u fit in omega arith) e p q ok)
kept_loses l (replies_asked (further joined) field rest {c = c} u e p q ok) =
    failing l (l.disturbed + 1) (ready c Free) refl (no_host field rest) (λ fit. let now = u fit in omega arith)
    (is_served ok) (replies_asked (further joined) field rest (λ fit. let now = u fit in omega arith) e p q ok)
kept_loses l (replies_doubted (first sent) field rest {c = c} u e p q ok) =
    failing l (l.disturbed + 1) (ready c Free) refl (no_host field rest) (λ fit. let now = u fit in omega arith)
    (is_served ok) (replies_asked (first sent) field rest (λ fit. let now = u fit in omega arith) e p q ok)
kept_loses l (replies_doubted (further joined) field rest {c = c} u e p q ok) =
    failing l (l.disturbed + 1) (ready c Free) refl (no_host field rest) (λ fit. let now = u fit in omega arith)
    (is_served ok) (replies_asked (further joined) field rest (λ fit. let now = u fit in omega arith) e p q ok)
kept_loses l (joined_told {c = c} u e p ok) =
    failing l (l.disturbed + 1) (ready (other c) Free) refl tt (λ fit. let now = u fit in omega arith) (is_served ok)
    (joined_told (λ fit. let now = u fit in omega arith) e p ok)
kept_loses l (joined_doubted {c = c} u e p ok) =
    failing l (l.disturbed + 1) (ready (other c) Free) refl tt (λ fit. let now = u fit in omega arith) (is_served ok)
    (joined_told (λ fit. let now = u fit in omega arith) e p ok)

-- a condition that holds
chosen : {A : Type 0} (P : A → Type 0) (x : Bool) (a b : A) → x ≡ true → P a → P (if x then a else b)
chosen P x a b e p = subst (λ y. P (if y then a else b)) (sym e) p

refused : {A : Type 0} (P : A → Type 0) (x : Bool) (a b : A) → x ≡ false → P b → P (if x then a else b)
refused P x a b e p = subst (λ y. P (if y then a else b)) (sym e) p

-- a test, whichever way it goes
decided : {A : Type 0} (P : A → Type 0) (x : Bool) (a b : A) → (x ≡ true → P a) → (x ≡ false → P b)
    → P (if x then a else b)
decided P true a b p q = p refl
decided P false a b p q = q refl

-- a block with its number that isn't taken does not fit
misfit : (x : Number) (n k : ℕ) → (same x x && nat_le n k) ≡ false → n ≤ k → ⊥
misfit x n k e h = true≢false (sym (number_fits x n k h) ∙ e)

fits_first : (ys zs m : List ℕ) (k : ℕ) → ys ++ zs ≡ m → length m ≤ k → length ys ≤ k
fits_first ys zs m k e h = omega (arith, length-append ys zs, ap length e)

-- It arrives whole.
pub kept_delivers : {P : Type 0} {kt kc : Limits} (l : Link) → Good P kt kc l → Good P kt kc (happens tables l delivers)
kept_delivers l (at_rest u ok) = at_rest u ok
kept_delivers l (size_asked u ok) = size_taken (λ fit. let now = u fit in omega arith) ok
kept_delivers {P} {kt} {kc} l (size_taken {n = n} {v = v} u ok) =
    chosen (λ x. Good P kt kc (terminal_makes l l x)) (v == v) _ _ (equal_self v)
    (at_rest (λ fit. let now = u fit in omega arith) ok)
kept_delivers l (size_doubted {v = v} u ok) =
    failing l (l.disturbed) (request Ifs (v ∷ [])) refl tt (λ fit. let now = u fit in omega arith) (held ok)
    (size_asked (λ fit. let now = u fit in omega arith) ok)
kept_delivers l (asks_resynch (command joined) u nh ok) = resynched (λ fit. let now = u fit in omega arith) ok
kept_delivers l (asks_resynch host u nh ok) = absurd nh
kept_delivers l (asks_resynch (reply field rest) u nh ok) = resynched (λ fit. let now = u fit in omega arith) ok
kept_delivers l (asks_resynch (asking q) u nh ok) = resynched (λ fit. let now = u fit in omega arith) ok
kept_delivers l (resynched {es = es} {hs = hs} u ok) =
    at_rest (λ fit. let now = u fit in omega arith) (ends_held es hs ok)
kept_delivers l (resynch_doubted w (Info number goes_on) u nh plain ok) = absurd plain
kept_delivers l (resynch_doubted w (Ready number fault) {k = k} u nh plain ok) =
    asking_again l l.disturbed k refl nh (λ fit. let now = u fit in omega arith) ok
kept_delivers l (resynch_doubted w (Request kind) {k = k} u nh plain ok) =
    asking_again l l.disturbed k refl nh (λ fit. let now = u fit in omega arith) ok
kept_delivers l (resynch_doubted w (Response kind) u nh plain ok) = absurd plain
kept_delivers l (over w u nh ok) = over w u nh ok
kept_delivers {P} {kt} {kc} l (sends joined field [] {s = s} {c = c} {saved = saved} {n = n} {i = i} {j = j} {i0 = i0}
    {a = a} {m = m} {es = es} {hs = hs} {d = d} {f = f} u e p q ok) =
    decided (λ x. Good P kt kc (card_makes l l x)) (same s s && nat_le (length joined + length field) kc.command) _ _
    (λ taken. subst (λ t. Good P kt kc (link (term kt s (number_after saved c) n i j i0 m (answer field) a)
    (crd kc (number_after saved c) (other s) None i j i0 t host) nothing (unanswered m ∷ es) (unanswered t ∷ hs) d
    f)) (sym (sym (append-nil (joined ++ field)) ∙ e)) (served u ok))
    (λ left. sends_doubted joined field []
    (λ fit. absurd (misfit s _ _ left (first_part joined field [] m _ e (p fit)))) e p q ok)
kept_delivers {P} {kt} {kc} l (sends joined field (x ∷ rest) {s = s} {m = m} u e p q ok) =
    decided (λ y. Good P kt kc (card_makes l l y)) (same s s && nat_le (length joined + length field) kc.command) _ _
    (λ taken. taken_told (λ fit. let now = u fit in omega arith) e p ok)
    (λ left. sends_doubted joined field (x ∷ rest)
    (λ fit. absurd (misfit s _ _ left (first_part joined field (x ∷ rest) m _ e (p fit)))) e p q ok)
kept_delivers {P} {kt} {kc} l (sends_asked joined field rest {c = c} {saved = saved} u e p q ok) =
    subst (λ x. Good P kt kc (card_makes l l x)) (sym (unsaved l.card saved c))
    (sends_doubted joined field rest (λ fit. let now = u fit in omega arith) e p q ok)
kept_delivers {P} {kt} {kc} l (sends_doubted joined field [] {s = s} {m = m} {es = es} {hs = hs} u e p q ok) =
    chosen (λ x. Good P kt kc (terminal_makes l l x)) (same s s) _ _ (same_self s)
    (failing l (l.disturbed) (info s false field) refl tt (λ fit. let now = u fit in omega arith)
    (not_served m es hs ok) (sends joined field [] (λ fit. let now = u fit in omega arith) e p q ok))
kept_delivers {P} {kt} {kc} l (sends_doubted joined field (x ∷ rest) {s = s} {m = m} {es = es} {hs = hs} u e p q ok) =
    chosen (λ x. Good P kt kc (terminal_makes l l x)) (same s s) _ _ (same_self s)
    (failing l (l.disturbed) (info s true field) refl tt (λ fit. let now = u fit in omega arith) (not_served m es hs ok)
    (sends joined field (x ∷ rest) (λ fit. let now = u fit in omega arith) e p q ok))
kept_delivers l (taken_asked u e p ok) = taken_told (λ fit. let now = u fit in omega arith) e p ok
kept_delivers {P} {kt} {kc} l (taken_told {s = s} {c = c} {n = n} {i = i} {x = x} {m = m} {joined = joined}
    {rest = rest} u e p ok) = refused (λ y. Good P kt kc (terminal_makes l l y)) (same (other s) s) _ _
    (other_differs s) (sends joined (take i (x ∷ rest)) (drop i (x ∷ rest)) {saved = None}
    (λ fit. let now = u fit in omega arith) (cut_again joined (x ∷ rest) m i e) p (cut_fits i (x ∷ rest)) ok)
kept_delivers l (served u ok) = served u ok
kept_delivers l (size_wanted {n = n} {v = v} u ok) = size_given u ok
kept_delivers {P} {kt} {kc} l (size_given {v = v} u ok) =
    chosen (λ x. Good P kt kc (card_makes l l x)) (v == v) _ _ (equal_self v)
    (served (λ fit. let now = u fit in omega arith) ok)
kept_delivers l (size_missed u ok) = size_wanted (λ fit. let now = u fit in omega arith) ok
kept_delivers l (time_wanted {n = n} {v = v} u ok) = time_given u ok
kept_delivers {P} {kt} {kc} l (time_given {v = v} u ok) =
    chosen (λ x. Good P kt kc (card_makes l l x)) (v == v) _ _ (equal_self v)
    (served (λ fit. let now = u fit in omega arith) ok)
kept_delivers l (time_missed u ok) = time_wanted (λ fit. let now = u fit in omega arith) ok
kept_delivers {P} {kt} {kc} l (replying (first sent) field [] {c = c} {m = m} {y = y} u e p q ok) =
    decided (λ z. Good P kt kc (terminal_makes l l z)) (same c c && nat_le (length field) kt.answer) _ _
    (λ taken. at_rest {saved = Some field} (λ fit. let now = u fit in omega arith)
    (record { matches = (ap (answered m) (sym (sym (append-nil field) ∙ e)), ok.matches); ended = ok.ended }))
    (λ left. failing l (l.disturbed) (ready c Other) refl (no_host field [])
    (λ fit. absurd (misfit c _ _ left (fits_first field [] y _ e (p fit)))) (is_served ok)
    (replies_asked (first sent) field [] (λ fit. absurd (misfit c _ _ left (fits_first field [] y _ e (p fit)))) e p
    q ok))
kept_delivers {P} {kt} {kc} l (replying (first sent) field (x ∷ rest) {c = c} {m = m} {y = y} u e p q ok) =
    decided (λ z. Good P kt kc (terminal_makes l l z)) (same c c && nat_le (length field) kt.answer) _ _
    (λ taken. joined_told (λ fit. let now = u fit in omega arith) e p ok)
    (λ left. failing l (l.disturbed) (ready c Other) refl (no_host field (x ∷ rest))
    (λ fit. absurd (misfit c _ _ left (fits_first field (x ∷ rest) y _ e (p fit)))) (is_served ok)
    (replies_asked (first sent) field (x ∷ rest)
    (λ fit. absurd (misfit c _ _ left (fits_first field (x ∷ rest) y _ e (p fit)))) e p q ok))
kept_delivers {P} {kt} {kc} l (replying (further joined) field [] {c = c} {m = m} {y = y} u e p q ok) =
    decided (λ z. Good P kt kc (terminal_makes l l z)) (same c c && nat_le (length joined + length field) kt.answer) _ _
    (λ taken. at_rest {saved = Some field} (λ fit. let now = u fit in omega arith) (record {
      matches = (ap (answered m) (sym (sym (append-nil (joined ++ field)) ∙ e)), ok.matches);
      ended = ok.ended;
    }))
    (λ left. failing l (l.disturbed) (ready c Other) refl (no_host field [])
    (λ fit. absurd (misfit c _ _ left (first_part joined field [] y _ e (p fit)))) (is_served ok)
    (replies_asked (further joined) field []
    (λ fit. absurd (misfit c _ _ left (first_part joined field [] y _ e (p fit)))) e p q ok))
kept_delivers {P} {kt} {kc} l (replying (further joined) field (x ∷ rest) {c = c} {m = m} {y = y} u e p q ok) =
    decided (λ z. Good P kt kc (terminal_makes l l z)) (same c c && nat_le (length joined + length field) kt.answer) _ _
    (λ taken. joined_told (λ fit. let now = u fit in omega arith) e p ok)
    (λ left. failing l (l.disturbed) (ready c Other) refl (no_host field (x ∷ rest))
    (λ fit. absurd (misfit c _ _ left (first_part joined field (x ∷ rest) y _ e (p fit)))) (is_served ok)
    (replies_asked (further joined) field (x ∷ rest)
    (λ fit. absurd (misfit c _ _ left (first_part joined field (x ∷ rest) y _ e (p fit)))) e p q ok))
kept_delivers {P} {kt} {kc} l (replies_asked ear field [] {c = c} u e p q ok) =
    subst (λ b. Good P kt kc (card_makes l l (sends_saved l.card (Some field) b))) (sym (same_self c))
    (replying ear field [] (λ fit. let now = u fit in omega arith) e p q ok)
kept_delivers {P} {kt} {kc} l (replies_asked ear field (x ∷ rest) {c = c} u e p q ok) =
    chosen (λ y. Good P kt kc (card_makes l l y)) (same c c) _ _ (same_self c)
    (replying ear field (x ∷ rest) (λ fit. let now = u fit in omega arith) e p q ok)
kept_delivers {P} {kt} {kc} l (replies_doubted (first sent) field rest {s = s} {c = c} u e p q ok) =
    refused (λ y. Good P kt kc (terminal_makes l l y)) (same (other s) s) _ _ (other_differs s)
    (failing l (l.disturbed) (ready c Free) refl (no_host field rest) (λ fit. let now = u fit in omega arith)
    (is_served ok) (replies_asked (first sent) field rest (λ fit. let now = u fit in omega arith) e p q ok))
kept_delivers l (replies_doubted (further joined) field rest {c = c} u e p q ok) =
    failing l (l.disturbed) (ready c Free) refl (no_host field rest) (λ fit. let now = u fit in omega arith)
    (is_served ok) (replies_asked (further joined) field rest (λ fit. let now = u fit in omega arith) e p q ok)
kept_delivers {P} {kt} {kc} l (joined_told {s = s} {c = c} {j = j} {x = x} {y = y} {joined = joined} {rest = rest} u e p
    ok) = refused (λ y. Good P kt kc (card_makes l l y)) (same (other c) c) _ _ (other_differs c)
    (replying (further joined) (take j (x ∷ rest)) (drop j (x ∷ rest)) (λ fit. let now = u fit in omega arith)
    (cut_again joined (x ∷ rest) y j e) p (cut_fits j (x ∷ rest)) ok)
kept_delivers l (joined_doubted {c = c} u e p ok) =
    failing l (l.disturbed) (ready (other c) Free) refl tt (λ fit. let now = u fit in omega arith) (is_served ok)
    (joined_told (λ fit. let now = u fit in omega arith) e p ok)

-- The application hands the terminal a command.
begun : {P : Type 0} {kt kc : Limits} (s c : Number) (saved : Option (List ℕ)) (n i j i0 : ℕ) (tm cm : List ℕ)
    (a : Option (List ℕ)) (es hs : List Exchange) (d f : ℕ) (m : List ℕ)
    → (P → length m ≤ kt.command → length m ≤ kc.command) → Few P f d → Fine es hs
    → (x : Bool) → nat_le (length m) kt.command ≡ x
    → Good P kt kc (terminal_makes (link (term kt s (number_after saved c) n i j i0 tm idle a)
    (crd kc c s saved i j i0 cm (command [])) nothing es hs d f)
    (link (term kt s (number_after saved c) n i j i0 tm idle a) (crd kc c s saved i j i0 cm (command [])) nothing
    (unanswered m ∷ es) hs 0 0)
    (if x then sends_next (term kt s (number_after saved c) 0 i j i0 m idle None) m else Err TooLong))
begun s c saved n i j i0 tm cm a es hs d f m fits u ok true h =
    sends [] (take i m) (drop i m) (λ fit. omega arith) (cut_again [] m m i refl) (λ fit. fits fit (leb-true _ _ h))
    (cut_fits i m) ok
begun s c saved n i j i0 tm cm a es hs d f m fits u ok false h = at_rest u ok

-- a command that is handed to the terminal keeps what is reached, where it fits the card if it is to
pub kept_transmits : {P : Type 0} {kt kc : Limits} (m : List ℕ) → (P → FitsReceiver kt kc (transmits m)) → (l : Link)
    → Good P kt kc l → Good P kt kc (happens tables l (transmits m))
kept_transmits {P} {kt} {kc} m fits l (at_rest {s = s} {c = c} {saved = saved} {n = n} {i = i} {j = j} {i0 = i0} {a = a}
    {tm = tm} {cm = cm} {es = es} {hs = hs} {d = d} {f = f} u ok) =
    begun s c saved n i j i0 tm cm a es hs d f m fits u ok (nat_le (length m) kt.command) refl
kept_transmits m fits l (size_asked u ok) = size_asked u ok
kept_transmits m fits l (size_taken u ok) = size_taken u ok
kept_transmits m fits l (size_doubted u ok) = size_doubted u ok
kept_transmits m fits l (asks_resynch w u nh ok) = asks_resynch w u nh ok
kept_transmits m fits l (resynched u ok) = resynched u ok
kept_transmits m fits l (resynch_doubted w pcb u nh plain ok) = resynch_doubted w pcb u nh plain ok
kept_transmits m fits l (over w u nh ok) = over w u nh ok
kept_transmits m fits l (sends joined field [] u e p q ok) = sends joined field [] u e p q ok
kept_transmits m fits l (sends joined field (x ∷ rest) u e p q ok) = sends joined field (x ∷ rest) u e p q ok
kept_transmits m fits l (sends_asked joined field [] u e p q ok) = sends_asked joined field [] u e p q ok
kept_transmits m fits l (sends_asked joined field (x ∷ rest) u e p q ok) =
    sends_asked joined field (x ∷ rest) u e p q ok
kept_transmits m fits l (sends_doubted joined field [] u e p q ok) = sends_doubted joined field [] u e p q ok
kept_transmits m fits l (sends_doubted joined field (x ∷ rest) u e p q ok) =
    sends_doubted joined field (x ∷ rest) u e p q ok
kept_transmits m fits l (taken_asked u e p ok) = taken_asked u e p ok
kept_transmits m fits l (taken_told u e p ok) = taken_told u e p ok
kept_transmits m fits l (served u ok) = served u ok
kept_transmits m fits l (size_wanted u ok) = size_wanted u ok
kept_transmits m fits l (size_given u ok) = size_given u ok
kept_transmits m fits l (size_missed u ok) = size_missed u ok
kept_transmits m fits l (time_wanted u ok) = time_wanted u ok
kept_transmits m fits l (time_given u ok) = time_given u ok
kept_transmits m fits l (time_missed u ok) = time_missed u ok
kept_transmits m fits l (replying (first sent) field rest u e p q ok) = replying (first sent) field rest u e p q ok
kept_transmits m fits l (replying (further joined) field rest u e p q ok) =
    replying (further joined) field rest u e p q ok
kept_transmits m fits l (replies_asked (first sent) field rest u e p q ok) =
    replies_asked (first sent) field rest u e p q ok
kept_transmits m fits l (replies_asked (further joined) field rest u e p q ok) =
    replies_asked (further joined) field rest u e p q ok
kept_transmits m fits l (replies_doubted (first sent) field rest u e p q ok) =
    replies_doubted (first sent) field rest u e p q ok
kept_transmits m fits l (replies_doubted (further joined) field rest u e p q ok) =
    replies_doubted (further joined) field rest u e p q ok
kept_transmits m fits l (joined_told u e p ok) = joined_told u e p ok
kept_transmits m fits l (joined_doubted u e p ok) = joined_doubted u e p ok

-- The application asks for a size.
pub kept_asks : {P : Type 0} {kt kc : Limits} (v : ℕ) (l : Link) → Good P kt kc l
    → Good P kt kc (happens tables l (asks_ifsd v))
kept_asks {P} {kt} {kc} v l (at_rest {n = n} u ok) =
    either (λ y. Good P kt kc (terminal_makes l (record l { disturbed = 0; failed = 0 }) y)) (is_reserved v) _ _
    (at_rest u ok) (size_asked (λ fit. let now = u fit in omega arith) ok)
kept_asks v l (size_asked u ok) = size_asked u ok
kept_asks v l (size_taken u ok) = size_taken u ok
kept_asks v l (size_doubted u ok) = size_doubted u ok
kept_asks v l (asks_resynch w u nh ok) = asks_resynch w u nh ok
kept_asks v l (resynched u ok) = resynched u ok
kept_asks v l (resynch_doubted w pcb u nh plain ok) = resynch_doubted w pcb u nh plain ok
kept_asks v l (over w u nh ok) = over w u nh ok
kept_asks v l (sends joined field [] u e p q ok) = sends joined field [] u e p q ok
kept_asks v l (sends joined field (x ∷ rest) u e p q ok) = sends joined field (x ∷ rest) u e p q ok
kept_asks v l (sends_asked joined field [] u e p q ok) = sends_asked joined field [] u e p q ok
kept_asks v l (sends_asked joined field (x ∷ rest) u e p q ok) = sends_asked joined field (x ∷ rest) u e p q ok
kept_asks v l (sends_doubted joined field [] u e p q ok) = sends_doubted joined field [] u e p q ok
kept_asks v l (sends_doubted joined field (x ∷ rest) u e p q ok) = sends_doubted joined field (x ∷ rest) u e p q ok
kept_asks v l (taken_asked u e p ok) = taken_asked u e p ok
kept_asks v l (taken_told u e p ok) = taken_told u e p ok
kept_asks v l (served u ok) = served u ok
kept_asks v l (size_wanted u ok) = size_wanted u ok
kept_asks v l (size_given u ok) = size_given u ok
kept_asks v l (size_missed u ok) = size_missed u ok
kept_asks v l (time_wanted u ok) = time_wanted u ok
kept_asks v l (time_given u ok) = time_given u ok
kept_asks v l (time_missed u ok) = time_missed u ok
kept_asks v l (replying (first sent) field rest u e p q ok) = replying (first sent) field rest u e p q ok
kept_asks v l (replying (further joined) field rest u e p q ok) = replying (further joined) field rest u e p q ok
kept_asks v l (replies_asked (first sent) field rest u e p q ok) = replies_asked (first sent) field rest u e p q ok
kept_asks v l (replies_asked (further joined) field rest u e p q ok) =
    replies_asked (further joined) field rest u e p q ok
kept_asks v l (replies_doubted (first sent) field rest u e p q ok) = replies_doubted (first sent) field rest u e p q ok
kept_asks v l (replies_doubted (further joined) field rest u e p q ok) =
    replies_doubted (further joined) field rest u e p q ok
kept_asks v l (joined_told u e p ok) = joined_told u e p ok
kept_asks v l (joined_doubted u e p ok) = joined_doubted u e p ok

replied : {P : Type 0} {kt kc : Limits} (s c : Number) (n i j i0 : ℕ) (a : Option (List ℕ)) (m field : List ℕ)
    (es hs : List Exchange) (d f : ℕ) (y : List ℕ) → (P → length y ≤ kc.answer → length y ≤ kt.answer)
    → Counts P n f d → Fine es hs
    → (x : Bool) → nat_le (length y) kc.answer ≡ x
    → Good P kt kc (card_makes (link (term kt s c n i j i0 m (answer field) a) (crd kc c (other s) None i j i0 m host)
    nothing (unanswered m ∷ es) (unanswered m ∷ hs) d f)
    (link (term kt s c n i j i0 m (answer field) a) (crd kc c (other s) None i j i0 m host) nothing
    (unanswered m ∷ es) (answered m y ∷ hs) d f)
    (if x then card_sends_next (crd kc c (other s) None i j i0 m host) y else Err ReplyTooLong))
replied s c n i j i0 a m field es hs d f y fits u ok true h =
    replying (first field) (take j y) (drop j y) u (cut_again [] y y j refl) (λ fit. fits fit (leb-true _ _ h))
    (cut_fits j y) ok
replied s c n i j i0 a m field es hs d f y fits u ok false h = served u ok

-- the host has no turn, or the terminal waits for its reply with nothing under way
data Turn (P : Type 0) (kt kc : Limits) : Link → Type 0 where
  none : {l : Link} → NoHost l.card.waits → Turn P kt kc l
  owes : {s c : Number} {n i j i0 : ℕ} {a : Option (List ℕ)} {m field : List ℕ} {es hs : List Exchange} {d f : ℕ}
      → Counts P n f d → Fine es hs
      → Turn P kt kc (link (term kt s c n i j i0 m (answer field) a) (crd kc c (other s) None i j i0 m host) nothing
      (unanswered m ∷ es) (unanswered m ∷ hs) d f)

turn : {P : Type 0} {kt kc : Limits} (l : Link) → Good P kt kc l → Turn P kt kc l
turn l (served u ok) = owes u ok
turn l (at_rest u ok) = none tt
turn l (size_asked u ok) = none tt
turn l (size_taken u ok) = none tt
turn l (size_doubted u ok) = none tt
turn l (asks_resynch w u nh ok) = none nh
turn l (resynched u ok) = none tt
turn l (resynch_doubted w pcb u nh plain ok) = none nh
turn l (over w u nh ok) = none nh
turn l (sends joined field rest u e p q ok) = none tt
turn l (sends_asked joined field rest u e p q ok) = none tt
turn l (sends_doubted joined field rest u e p q ok) = none tt
turn l (taken_asked u e p ok) = none tt
turn l (taken_told u e p ok) = none tt
turn l (size_wanted u ok) = none tt
turn l (size_given u ok) = none tt
turn l (size_missed u ok) = none tt
turn l (time_wanted u ok) = none tt
turn l (time_given u ok) = none tt
turn l (time_missed u ok) = none tt
turn l (replying ear field [] u e p q ok) = none tt
turn l (replying ear field (x ∷ rest) u e p q ok) = none tt
turn l (replies_asked ear field [] u e p q ok) = none tt
turn l (replies_asked ear field (x ∷ rest) u e p q ok) = none tt
turn l (replies_doubted ear field [] u e p q ok) = none tt
turn l (replies_doubted ear field (x ∷ rest) u e p q ok) = none tt
turn l (joined_told u e p ok) = none tt
turn l (joined_doubted u e p ok) = none tt

-- a call of the host out of turn changes nothing
out_of_turn : (before l : Link) (w : CardWaits) (step : CardStep) → NoHost w
    → before ≡ card_makes before l (if_host w step)
out_of_turn before l (command joined) step nh = refl
out_of_turn before l host step nh = absurd nh
out_of_turn before l (reply field rest) step nh = refl
out_of_turn before l (asking q) step nh = refl

-- The host replies.
replies_in_turn : {P : Type 0} {kt kc : Limits} (y : List ℕ) → (P → FitsReceiver kt kc (host_replies y)) → (l : Link)
    → Good P kt kc l → Turn P kt kc l → Good P kt kc (happens tables l (host_replies y))
replies_in_turn {P} {kt} {kc} y fits l g (none nh) =
    subst (Good P kt kc) (out_of_turn l (record l { services = with_reply l.services y }) l.card.waits _ nh) g
replies_in_turn {P} {kt} {kc} y fits l g (owes {s = s} {c = c} {n = n} {i = i} {j = j} {i0 = i0} {a = a} {m = m}
    {field = field} {es = es} {hs = hs} {d = d} {f = f} u ok) =
    replied s c n i j i0 a m field es hs d f y fits u ok (nat_le (length y) kc.answer) refl

pub kept_replies : {P : Type 0} {kt kc : Limits} (y : List ℕ) → (P → FitsReceiver kt kc (host_replies y)) → (l : Link)
    → Good P kt kc l → Good P kt kc (happens tables l (host_replies y))
kept_replies y fits l g = replies_in_turn y fits l g (turn l g)

-- The host asks for time.
time_in_turn : {P : Type 0} {kt kc : Limits} (v : ℕ) (l : Link) → Good P kt kc l → Turn P kt kc l
    → Good P kt kc (happens tables l (host_asks_time v))
time_in_turn {P} {kt} {kc} v l g (none nh) = subst (Good P kt kc) (out_of_turn l l l.card.waits _ nh) g
time_in_turn v l g (owes u ok) = time_wanted u ok

pub kept_time : {P : Type 0} {kt kc : Limits} (v : ℕ) (l : Link) → Good P kt kc l
    → Good P kt kc (happens tables l (host_asks_time v))
kept_time v l g = time_in_turn v l g (turn l g)

-- The host asks for a size.
size_in_turn : {P : Type 0} {kt kc : Limits} (v : ℕ) (l : Link) → Good P kt kc l → Turn P kt kc l
    → Good P kt kc (happens tables l (host_asks_ifsc v))
size_in_turn {P} {kt} {kc} v l g (none nh) = subst (Good P kt kc) (out_of_turn l l l.card.waits _ nh) g
size_in_turn {P} {kt} {kc} v l g (owes u ok) =
    either (λ y. Good P kt kc (card_makes l l y)) (is_reserved v) _ _ (served u ok) (size_wanted u ok)

pub kept_size : {P : Type 0} {kt kc : Limits} (v : ℕ) (l : Link) → Good P kt kc l
    → Good P kt kc (happens tables l (host_asks_ifsc v))
kept_size v l g = size_in_turn v l g (turn l g)

-- each event keeps what is reached, where its message fits the receiver if it is to
pub kept : {P : Type 0} {kt kc : Limits} (e : Event) → (P → FitsReceiver kt kc e) → (l : Link) → Good P kt kc l
    → Good P kt kc (happens tables l e)
kept delivers fits l g = kept_delivers l g
kept damages fits l g = kept_damages l g
kept spoils fits l g = kept_spoils l g
kept loses fits l g = kept_loses l g
kept (transmits m) fits l g = kept_transmits m fits l g
kept (asks_ifsd v) fits l g = kept_asks v l g
kept (host_replies y) fits l g = kept_replies y fits l g
kept (host_asks_time v) fits l g = kept_time v l g
kept (host_asks_ifsc v) fits l g = kept_size v l g

-- and so do events one after another
pub kept_always : {P : Type 0} {kt kc : Limits} (es : List Event) → (P → AllFit kt kc es) → (l : Link) → Good P kt kc l
    → Good P kt kc (run tables es l)
kept_always [] fits l g = g
kept_always (e ∷ es) fits l g = kept_always es (λ fit. (fits fit).1) (happens tables l e)
    (kept e (λ fit. (fits fit).0) l g)

-- Where the messages of all events fit their receivers, if they are to.
pub good_always : {P : Type 0} (kt kc : Limits) (ifsc : ℕ) (es : List Event) → (P → AllFit kt kc es)
    → Good P kt kc (run tables es (link_with kt kc ifsc))
good_always kt kc ifsc es fits = kept_always es fits (link_with kt kc ifsc)
    (at_rest (λ fit. omega arith) (record { matches = tt; ended = tt }))

-- whether they do or not
pub any_good : (kt kc : Limits) (ifsc : ℕ) (es : List Event) → Good ⊥ kt kc (run tables es (link_with kt kc ifsc))
any_good kt kc ifsc es = good_always kt kc ifsc es (λ none. absurd none)
