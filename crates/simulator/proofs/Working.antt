-- What is left to do at two ends, which each block that arrives makes less.
use Rattle.std.proofs.Common.{◌≡◌, ◌<◌, ◌≤◌, ◌+◌, ◌*◌, ◌++◌, ℕ, List, [], ◌∷◌, length, refl, sym, ap, subst, arith, tests, length-append, Option, Some, None, Ok}
use Rattle.std.specs.Prelude.{Bool, true, false, ◌&&◌, nat_lt, nat_le, if◌then◌else◌, take, drop, ◌==◌}
use Rattle.std.proofs.lemmas.Bool.{le-leb}
use Rattle.std.proofs.lemmas.List.{length-drop}
use Rattle.octet_core.proofs.Choice.{either}
use Rattle.block_core.specs.Block.{other}
use Rattle.block_core.specs.declared.pcb.Number.{Number}
use Rattle.block_core.specs.declared.pcb.Number.TheVariants.{Zero, One}
use Rattle.block_core.specs.declared.pcb.Pcb.{Pcb}
use Rattle.block_core.specs.declared.pcb.Pcb.TheVariants.{Info, Ready, Request, Response}
use Rattle.block_core.specs.declared.pcb.Fault.TheVariants.{Free}
use Rattle.t1_core.specs.declared.turns.CardTurn.TheVariants.{Send as Sends}
use Rattle.t1_core.specs.Came.{same, ready, info}
use Rattle.t1_core.specs.Terminal.{Limits, Waits, idle, ack, answer, more, ifs, resynch, dead, waiting, sends_next, most_repeats, most_resynchs}
use Rattle.t1_core.specs.Card.{CardState, Waits as CardWaits, command, host, reply, asking, number_after, sends_saved, waiting as card_waiting}
use Rattle.t1_core.specs.Link.{Link, UnderWay, nothing, to_card, to_terminal, tables, terminal_makes, card_makes, happens, delivers}
use Rattle.t1_core.proofs.Good.{Good, at_rest, size_asked, size_taken, size_doubted, asks_resynch, resynched, resynch_doubted, over, sends, sends_asked, sends_doubted, taken_asked, taken_told, served, size_wanted, size_given, size_missed, time_wanted, time_given, time_missed, replying, replies_asked, replies_doubted, joined_told, joined_doubted, NoHost, first, further}
use Rattle.exchange_core.specs.Recording.{IsSent}
use Rattle.exchange_core.proofs.Pausing.{AsksNothing}

-- ---- what is left to do

abbrev by_response : Pcb → ℕ → ℕ → ℕ
by_response (Info number goes_on) a b = b
by_response (Ready number fault) a b = b
by_response (Request kind) a b = b
by_response (Response kind) a b = a

abbrev by_info : Pcb → ℕ → ℕ → ℕ
by_info (Info number goes_on) a b = a
by_info (Ready number fault) a b = b
by_info (Request kind) a b = b
by_info (Response kind) a b = b

response_few : (pcb : Pcb) (a b most : ℕ) → a ≤ most → b ≤ most → by_response pcb a b ≤ most
response_few (Info number goes_on) a b most h k = k
response_few (Ready number fault) a b most h k = k
response_few (Request kind) a b most h k = k
response_few (Response kind) a b most h k = h

info_few : (pcb : Pcb) (a b most : ℕ) → a ≤ most → b ≤ most → by_info pcb a b ≤ most
info_few (Info number goes_on) a b most h k = h
info_few (Ready number fault) a b most h k = k
info_few (Request kind) a b most h k = k
info_few (Response kind) a b most h k = k

-- until RESYNCH is answered
abbrev resynch_rank : UnderWay → ℕ
resynch_rank nothing = 0
resynch_rank (to_card block) = 2
resynch_rank (to_terminal block) = by_response block.pcb 1 3

-- until a size is set
abbrev size_rank : UnderWay → ℕ
size_rank nothing = 0
size_rank (to_card block) = 5
size_rank (to_terminal block) = by_response block.pcb 4 6

-- until the card has taken the block of the command, and then until the terminal knows it
abbrev sending_rank : Bool → UnderWay → ℕ
sending_rank true nothing = 3
sending_rank true (to_card block) = by_info block.pcb 3 5
sending_rank true (to_terminal block) = 4
sending_rank false nothing = 0
sending_rank false (to_card block) = 2
sending_rank false (to_terminal block) = 1

-- until the terminal has taken the block of the reply, and then until the card knows it
abbrev replying_rank : Bool → UnderWay → ℕ
replying_rank true nothing = 0
replying_rank true (to_card block) = 8
replying_rank true (to_terminal block) = by_info block.pcb 7 9
replying_rank false nothing = 0
replying_rank false (to_card block) = 5
replying_rank false (to_terminal block) = 6

-- once the host was asked
abbrev replying_work : ℕ → CardWaits → Bool → UnderWay → ℕ
replying_work octets (command joined) expects way = replying_rank expects way
replying_work octets host expects way = 8 * octets + 20
replying_work octets (reply field rest) expects way = 8 * length rest + replying_rank expects way
replying_work octets (asking request) expects way = 0

-- with so many octets of the reply, where the host wasn't asked yet
abbrev work_in : ℕ → Link → Waits → ℕ
work_in octets l idle = 0
work_in octets l (ack field rest) =
    8 * length rest + (8 * octets + (40 + sending_rank (same l.terminal.number l.card.expected) l.under_way))
work_in octets l (answer field) =
    if same l.terminal.number l.card.expected
    then 8 * octets + (40 + sending_rank true l.under_way)
    else replying_work octets l.card.waits (same l.terminal.expected l.card.number) l.under_way
work_in octets l (more joined) =
    replying_work octets l.card.waits (same l.terminal.expected l.card.number) l.under_way
work_in octets l (ifs size) = size_rank l.under_way
work_in octets l (resynch asked) = resynch_rank l.under_way
work_in octets l dead = 0

abbrev pub work : ℕ → Link → ℕ
work octets l = work_in octets l l.terminal.waits

-- ---- tests

pub same_self : (x : Number) → same x x ≡ true
same_self Zero = refl
same_self One = refl

other_differs : (x : Number) → same (other x) x ≡ false
other_differs Zero = refl
other_differs One = refl

differs : (x : Number) → same x (other x) ≡ false
differs Zero = refl
differs One = refl

equal_self : (n : ℕ) → (n == n) ≡ true
equal_self n = search (tests, arith)

number_fits : (x : Number) (n k : ℕ) → n ≤ k → (same x x && nat_le n k) ≡ true
number_fits Zero n k h = le-leb n k h
number_fits One n k h = le-leb n k h

first_part : (xs ys zs m : List ℕ) (k : ℕ) → xs ++ ys ++ zs ≡ m → length m ≤ k → length xs + length ys ≤ k
first_part xs ys zs m k e h = omega (arith, length-append (xs ++ ys) zs, length-append xs ys, ap length e)

front_fits : (ys zs m : List ℕ) (k : ℕ) → ys ++ zs ≡ m → length m ≤ k → length ys ≤ k
front_fits ys zs m k e h = omega (arith, length-append ys zs, ap length e)

unsaved : (c : CardState) (saved : Option (List ℕ)) (x : Number)
    → sends_saved c saved (same (number_after saved x) x) ≡ Ok (Sends (ready c.expected Free), c)
unsaved c None x = refl
unsaved c (Some field) Zero = refl
unsaved c (Some field) One = refl

chosen : {A : Type 0} (P : A → Type 0) (test : Bool) (a b : A) → test ≡ true → P a → P (if test then a else b)
chosen P test a b e p = subst (λ x. P (if x then a else b)) (sym e) p

refused : {A : Type 0} (P : A → Type 0) (test : Bool) (a b : A) → test ≡ false → P b → P (if test then a else b)
refused P test a b e p = subst (λ x. P (if x then a else b)) (sym e) p

-- ---- the octets that are left after a cut

left_after : (i x : ℕ) (rest : List ℕ) → 1 ≤ i → length (drop i (x ∷ rest)) ≤ length rest
left_after i x rest h = omega (arith, length-drop i (x ∷ rest))

-- a block of what is left of the command is under way
pub sending_less : (octets n : ℕ) (l : Link) (field rest : List ℕ) → l.terminal.waits ≡ waiting field rest
    → same l.terminal.number l.card.expected ≡ true → sending_rank true l.under_way ≡ 3
    → 8 * length rest + (8 * octets + 43) < n → work octets l < n
sending_less octets n l field [] w s r h = rw (w, s, r) (omega arith)
sending_less octets n l field (x ∷ rest) w s r h = rw (w, s, r) (omega arith)

-- a block of what is left of the reply is under way
pub replying_is : (octets : ℕ) (field rest : List ℕ) (b : Bool) (way : UnderWay)
    → replying_work octets (card_waiting field rest) b way ≡ 8 * length rest + replying_rank b way
replying_is octets field [] b way = omega arith
replying_is octets field (x ∷ rest) b way = refl

pub replying_small : (expects : Bool) (number : Number) (goes_on : Bool) (field : List ℕ)
    → replying_rank expects (to_terminal (info number goes_on field)) ≤ 7
replying_small true number goes_on field = omega arith
replying_small false number goes_on field = omega arith

-- the host's turn
no_turn : (w : CardWaits) → NoHost w → w ≡ host → ⊥
no_turn (command joined) h e = cc
no_turn host h e = h
no_turn (reply field rest) h e = cc
no_turn (asking q) h e = cc

no_reply : (field rest : List ℕ) → card_waiting field rest ≡ host → ⊥
no_reply field [] e = cc
no_reply field (x ∷ rest) e = cc

abbrev IsServed : Link → Type 0
IsServed l = (field : List ℕ) × (l.terminal.waits ≡ answer field)
    × (same l.terminal.number l.card.expected ≡ false)

pub served-is : {P : Type 0} {kt kc : Limits} (l : Link) → Good P kt kc l → l.card.waits ≡ host → IsServed l
served-is _ (at_rest _ _) e = cc
served-is _ (size_asked _ _) e = cc
served-is _ (size_taken _ _) e = cc
served-is _ (size_doubted _ _) e = cc
served-is _ (asks_resynch w _ nh _) e = absurd (no_turn w nh e)
served-is _ (resynched _ _) e = cc
served-is _ (resynch_doubted w pcb _ nh _ _) e = absurd (no_turn w nh e)
served-is _ (over w _ nh _) e = absurd (no_turn w nh e)
served-is _ (sends joined field rest _ _ _ _ _) e = cc
served-is _ (sends_asked joined field rest _ _ _ _ _) e = cc
served-is _ (sends_doubted joined field rest _ _ _ _ _) e = cc
served-is _ (taken_asked _ _ _ _) e = cc
served-is _ (taken_told _ _ _ _) e = cc
served-is _ (served {s = s} {field = field} _ _) e = (field, refl, differs s)
served-is _ (size_wanted _ _) e = cc
served-is _ (size_given _ _) e = cc
served-is _ (size_missed _ _) e = cc
served-is _ (time_wanted _ _) e = cc
served-is _ (time_given _ _) e = cc
served-is _ (time_missed _ _) e = cc
served-is _ (replying ear field rest _ _ _ _ _) e = absurd (no_reply field rest e)
served-is _ (replies_asked ear field rest _ _ _ _ _) e = absurd (no_reply field rest e)
served-is _ (replies_doubted ear field rest _ _ _ _ _) e = absurd (no_reply field rest e)
served-is _ (joined_told _ _ _ _) e = cc
served-is _ (joined_doubted _ _ _ _) e = cc

-- Each block that arrives leaves less to do.
pub less_delivers : {kt kc : Limits} (octets : ℕ) (l : Link) → Good (Unit {0}) kt kc l → AsksNothing l.card.waits
    → 1 ≤ l.terminal.ifsc → 1 ≤ l.card.ifsd → IsSent l.under_way
    → work octets (happens tables l delivers) < work octets l
less_delivers octets l (at_rest u ok) asks hi hj way = absurd way
less_delivers octets l (size_asked u ok) asks hi hj way = omega arith
less_delivers octets l (size_taken {v = v} u ok) asks hi hj way =
    chosen (λ x. work octets (terminal_makes l l x) < 4) (v == v) _ _ (equal_self v) (omega arith)
less_delivers octets l (size_doubted u ok) asks hi hj way = either (λ x. work octets (terminal_makes l l x) < 6)
    (nat_lt l.terminal.failures most_repeats) _ _ (omega arith) (omega arith)
less_delivers octets l (asks_resynch (command joined) u nh ok) asks hi hj way = omega arith
less_delivers octets l (asks_resynch host u nh ok) asks hi hj way = absurd nh
less_delivers octets l (asks_resynch (reply field rest) u nh ok) asks hi hj way = omega arith
less_delivers octets l (asks_resynch (asking q) u nh ok) asks hi hj way = absurd asks
less_delivers octets l (resynched u ok) asks hi hj way = omega arith
less_delivers octets l (resynch_doubted w (Info number goes_on) u nh plain ok) asks hi hj way = absurd plain
less_delivers octets l (resynch_doubted w (Ready number fault) {k = k} u nh plain ok) asks hi hj way =
    either (λ x. work octets (terminal_makes l l x) < 3) (nat_lt k most_resynchs) _ _ (omega arith) (omega arith)
less_delivers octets l (resynch_doubted w (Request kind) {k = k} u nh plain ok) asks hi hj way =
    either (λ x. work octets (terminal_makes l l x) < 3) (nat_lt k most_resynchs) _ _ (omega arith) (omega arith)
less_delivers octets l (resynch_doubted w (Response kind) u nh plain ok) asks hi hj way = absurd plain
less_delivers octets l (over w u nh ok) asks hi hj way = absurd way
less_delivers {kt} {kc} octets l (sends joined field [] {s = s} {m = m} u e p q ok) asks hi hj way =
    chosen (λ x. work octets (card_makes l l x) < work octets l)
    (same s s && nat_le (length joined + length field) kc.command) _ _
    (number_fits s _ _ (first_part joined field [] m _ e (p tt))) (rw (differs s, same_self s) (omega arith))
less_delivers {kt} {kc} octets l (sends joined field (x ∷ rest) {s = s} {m = m} u e p q ok) asks hi hj way =
    chosen (λ y. work octets (card_makes l l y) < work octets l)
    (same s s && nat_le (length joined + length field) kc.command) _ _
    (number_fits s _ _ (first_part joined field (x ∷ rest) m _ e (p tt))) (rw (differs s, same_self s) (omega arith))
less_delivers octets l (sends_asked joined field [] {s = s} {c = c} {saved = saved} u e p q ok) asks hi hj way =
    subst (λ x. work octets (card_makes l l x) < work octets l) (sym (unsaved l.card saved c))
    (rw (same_self s) (omega arith))
less_delivers octets l (sends_asked joined field (x ∷ rest) {s = s} {c = c} {saved = saved} u e p q ok) asks hi hj way =
    subst (λ y. work octets (card_makes l l y) < work octets l) (sym (unsaved l.card saved c))
    (rw (same_self s) (omega arith))
less_delivers octets l (sends_doubted joined field [] {s = s} u e p q ok) asks hi hj way =
    chosen (λ x. work octets (terminal_makes l l x) < work octets l) (same s s) _ _ (same_self s)
    (either (λ x. work octets (terminal_makes l l x) < work octets l) (nat_lt l.terminal.failures most_repeats) _ _
    (rw (same_self s) (omega arith)) (rw (same_self s) (omega arith)))
less_delivers octets l (sends_doubted joined field (x ∷ rest) {s = s} u e p q ok) asks hi hj way =
    chosen (λ y. work octets (terminal_makes l l y) < work octets l) (same s s) _ _ (same_self s)
    (either (λ y. work octets (terminal_makes l l y) < work octets l) (nat_lt l.terminal.failures most_repeats) _ _
    (rw (same_self s) (omega arith)) (rw (same_self s) (omega arith)))
less_delivers octets l (taken_asked {s = s} u e p ok) asks hi hj way = rw (differs s) (omega arith)
less_delivers octets l (taken_told {s = s} {i = i} {x = x} {rest = rest} u e p ok) asks hi hj way =
    refused (λ y. work octets (terminal_makes l l y) < work octets l) (same (other s) s) _ _ (other_differs s)
    (sending_less octets (work octets l)
    (terminal_makes l l (sends_next (record l.terminal { failures = 0; number = other s }) (x ∷ rest)))
    (take i (x ∷ rest)) (drop i (x ∷ rest)) refl (same_self (other s)) refl
    (rw (differs s) (omega (arith, left_after i x rest hi))))
less_delivers octets l (served u ok) asks hi hj way = absurd way
less_delivers octets l (size_wanted u ok) asks hi hj way = absurd asks
less_delivers octets l (size_given u ok) asks hi hj way = absurd asks
less_delivers octets l (size_missed u ok) asks hi hj way = absurd asks
less_delivers octets l (time_wanted u ok) asks hi hj way = absurd asks
less_delivers octets l (time_given u ok) asks hi hj way = absurd asks
less_delivers octets l (time_missed u ok) asks hi hj way = absurd asks
less_delivers {kt} {kc} octets l (replying (first sent) field [] {s = s} {c = c} {y = y} u e p q ok) asks hi hj way =
    chosen (λ z. work octets (terminal_makes l l z) < work octets l) (same c c && nat_le (length field) kt.answer) _ _
    (number_fits c _ _ (front_fits field [] y _ e (p tt))) (rw (differs s, same_self c) (omega arith))
less_delivers {kt} {kc} octets l (replying (first sent) field (x ∷ rest) {s = s} {c = c} {y = y} u e p q ok) asks hi hj
    way = chosen (λ z. work octets (terminal_makes l l z) < work octets l) (same c c && nat_le (length field) kt.answer)
    _ _
    (number_fits c _ _ (front_fits field (x ∷ rest) y _ e (p tt)))
    (rw (other_differs c, differs s, same_self c) (omega arith))
less_delivers {kt} {kc} octets l (replying (further joined) field [] {c = c} {y = y} u e p q ok) asks hi hj way =
    chosen (λ z. work octets (terminal_makes l l z) < work octets l)
    (same c c && nat_le (length joined + length field) kt.answer) _ _
    (number_fits c _ _ (first_part joined field [] y _ e (p tt))) (rw (same_self c) (omega arith))
less_delivers {kt} {kc} octets l (replying (further joined) field (x ∷ rest) {c = c} {y = y} u e p q ok) asks hi hj way
    =
    chosen (λ z. work octets (terminal_makes l l z) < work octets l)
    (same c c && nat_le (length joined + length field) kt.answer) _ _
    (number_fits c _ _ (first_part joined field (x ∷ rest) y _ e (p tt)))
    (rw (other_differs c, same_self c) (omega arith))
less_delivers octets l (replies_asked (first sent) field [] {s = s} {c = c} u e p q ok) asks hi hj way =
    subst (λ b. work octets (card_makes l l (sends_saved l.card (Some field) b)) < work octets l) (sym (same_self c))
    (rw (differs s, same_self c) (omega arith))
less_delivers octets l (replies_asked (further joined) field [] {c = c} u e p q ok) asks hi hj way =
    subst (λ b. work octets (card_makes l l (sends_saved l.card (Some field) b)) < work octets l) (sym (same_self c))
    (rw (same_self c) (omega arith))
less_delivers octets l (replies_asked (first sent) field (x ∷ rest) {s = s} {c = c} u e p q ok) asks hi hj way =
    chosen (λ y. work octets (card_makes l l y) < work octets l) (same c c) _ _ (same_self c)
    (rw (differs s, same_self c) (omega arith))
less_delivers octets l (replies_asked (further joined) field (x ∷ rest) {c = c} u e p q ok) asks hi hj way =
    chosen (λ y. work octets (card_makes l l y) < work octets l) (same c c) _ _ (same_self c)
    (rw (same_self c) (omega arith))
less_delivers octets l (replies_doubted (first sent) field [] {s = s} {c = c} u e p q ok) asks hi hj way =
    refused (λ y. work octets (terminal_makes l l y) < work octets l) (same (other s) s) _ _ (other_differs s)
    (either (λ y. work octets (terminal_makes l l y) < work octets l) (nat_lt l.terminal.failures most_repeats) _ _
    (rw (differs s, same_self c) (omega arith)) (rw (differs s, same_self c) (omega arith)))
less_delivers octets l (replies_doubted (first sent) field (x ∷ rest) {s = s} {c = c} u e p q ok) asks hi hj way =
    refused (λ y. work octets (terminal_makes l l y) < work octets l) (same (other s) s) _ _ (other_differs s)
    (either (λ y. work octets (terminal_makes l l y) < work octets l) (nat_lt l.terminal.failures most_repeats) _ _
    (rw (differs s, same_self c) (omega arith)) (rw (differs s, same_self c) (omega arith)))
less_delivers octets l (replies_doubted (further joined) field [] {c = c} u e p q ok) asks hi hj way =
    either (λ y. work octets (terminal_makes l l y) < work octets l) (nat_lt l.terminal.failures most_repeats) _ _
    (rw (same_self c) (omega arith)) (rw (same_self c) (omega arith))
less_delivers octets l (replies_doubted (further joined) field (x ∷ rest) {c = c} u e p q ok) asks hi hj way =
    either (λ y. work octets (terminal_makes l l y) < work octets l) (nat_lt l.terminal.failures most_repeats) _ _
    (rw (same_self c) (omega arith)) (rw (same_self c) (omega arith))
less_delivers octets l (joined_told {c = c} {j = j} {x = x} {rest = rest} u e p ok) asks hi hj way =
    refused (λ y. work octets (card_makes l l y) < work octets l) (same (other c) c) _ _ (other_differs c)
    (rw (replying_is octets (take j (x ∷ rest)) (drop j (x ∷ rest)), same_self (other c), other_differs c)
    (omega (arith, left_after j x rest hj)))
less_delivers octets l (joined_doubted {c = c} u e p ok) asks hi hj way =
    either (λ y. work octets (terminal_makes l l y) < work octets l) (nat_lt l.terminal.failures most_repeats) _ _
    (rw (other_differs c) (omega arith)) (rw (other_differs c) (omega arith))

-- ---- the most that may be left to do

sending_few : (taken : Bool) (way : UnderWay) → sending_rank taken way ≤ 5
sending_few true nothing = omega arith
sending_few true (to_card block) = info_few block.pcb 3 5 5 (omega arith) (omega arith)
sending_few true (to_terminal block) = omega arith
sending_few false nothing = omega arith
sending_few false (to_card block) = omega arith
sending_few false (to_terminal block) = omega arith

replying_few : (taken : Bool) (way : UnderWay) → replying_rank taken way ≤ 9
replying_few true nothing = omega arith
replying_few true (to_card block) = omega arith
replying_few true (to_terminal block) = info_few block.pcb 7 9 9 (omega arith) (omega arith)
replying_few false nothing = omega arith
replying_few false (to_card block) = omega arith
replying_few false (to_terminal block) = omega arith

size_few : (way : UnderWay) → size_rank way ≤ 6
size_few nothing = omega arith
size_few (to_card block) = omega arith
size_few (to_terminal block) = response_few block.pcb 4 6 6 (omega arith) (omega arith)

resynch_few : (way : UnderWay) → resynch_rank way ≤ 3
resynch_few nothing = omega arith
resynch_few (to_card block) = omega arith
resynch_few (to_terminal block) = response_few block.pcb 1 3 3 (omega arith) (omega arith)

-- what is left of a message that is under way has so many octets at most
abbrev ReplyWithin : ℕ → CardWaits → Type 0
ReplyWithin most (command octets) = Unit {0}
ReplyWithin most host = Unit {0}
ReplyWithin most (reply field rest) = length rest ≤ most
ReplyWithin most (asking request) = Unit {0}

abbrev RestWithin : ℕ → Waits → CardWaits → Type 0
RestWithin most idle c = Unit {0}
RestWithin most (ack field rest) c = length rest ≤ most
RestWithin most (answer field) c = ReplyWithin most c
RestWithin most (more octets) c = ReplyWithin most c
RestWithin most (ifs size) c = Unit {0}
RestWithin most (resynch asked) c = Unit {0}
RestWithin most dead c = Unit {0}

end_within : (xs ys zs m : List ℕ) (k most : ℕ) → xs ++ ys ++ zs ≡ m → length m ≤ k → k ≤ most → length zs ≤ most
end_within xs ys zs m k most e h le = omega (arith, length-append (xs ++ ys) zs, length-append xs ys, ap length e)

last_within : (xs zs m : List ℕ) (k most : ℕ) → xs ++ zs ≡ m → length m ≤ k → k ≤ most → length zs ≤ most
last_within xs zs m k most e h le = omega (arith, length-append xs zs, ap length e)

reply_within : (most : ℕ) (field rest : List ℕ) → length rest ≤ most → ReplyWithin most (card_waiting field rest)
reply_within most field [] h = tt
reply_within most field (x ∷ rest) h = h

rest_within : {kt kc : Limits} (most : ℕ) (l : Link) → Good (Unit {0}) kt kc l → kc.command ≤ most → kt.answer ≤ most
    → RestWithin most l.terminal.waits l.card.waits
rest_within most _ (at_rest _ _) hc ht = tt
rest_within most _ (size_asked _ _) hc ht = tt
rest_within most _ (size_taken _ _) hc ht = tt
rest_within most _ (size_doubted _ _) hc ht = tt
rest_within most _ (asks_resynch w _ _ _) hc ht = tt
rest_within most _ (resynched _ _) hc ht = tt
rest_within most _ (resynch_doubted w pcb _ _ _ _) hc ht = tt
rest_within most _ (over w _ _ _) hc ht = tt
rest_within most _ (sends joined field [] _ e p q _) hc ht = tt
rest_within most _ (sends joined field (x ∷ rest) {m = m} _ e p q _) hc ht =
    end_within joined field (x ∷ rest) m _ most e (p tt) hc
rest_within most _ (sends_asked joined field [] _ e p q _) hc ht = tt
rest_within most _ (sends_asked joined field (x ∷ rest) {m = m} _ e p q _) hc ht =
    end_within joined field (x ∷ rest) m _ most e (p tt) hc
rest_within most _ (sends_doubted joined field [] _ e p q _) hc ht = tt
rest_within most _ (sends_doubted joined field (x ∷ rest) {m = m} _ e p q _) hc ht =
    end_within joined field (x ∷ rest) m _ most e (p tt) hc
rest_within most _ (taken_asked {x = x} {m = m} {joined = joined} {rest = rest} _ e p _) hc ht =
    last_within joined (x ∷ rest) m _ most e (p tt) hc
rest_within most _ (taken_told {x = x} {m = m} {joined = joined} {rest = rest} _ e p _) hc ht =
    last_within joined (x ∷ rest) m _ most e (p tt) hc
rest_within most _ (served _ _) hc ht = tt
rest_within most _ (size_wanted _ _) hc ht = tt
rest_within most _ (size_given _ _) hc ht = tt
rest_within most _ (size_missed _ _) hc ht = tt
rest_within most _ (time_wanted _ _) hc ht = tt
rest_within most _ (time_given _ _) hc ht = tt
rest_within most _ (time_missed _ _) hc ht = tt
rest_within most _ (replying (first sent) field rest {y = y} _ e p q _) hc ht =
    reply_within most field rest (last_within field rest y _ most e (p tt) ht)
rest_within most _ (replying (further joined) field rest {y = y} _ e p q _) hc ht =
    reply_within most field rest (end_within joined field rest y _ most e (p tt) ht)
rest_within most _ (replies_asked (first sent) field rest {y = y} _ e p q _) hc ht =
    reply_within most field rest (last_within field rest y _ most e (p tt) ht)
rest_within most _ (replies_asked (further joined) field rest {y = y} _ e p q _) hc ht =
    reply_within most field rest (end_within joined field rest y _ most e (p tt) ht)
rest_within most _ (replies_doubted (first sent) field rest {y = y} _ e p q _) hc ht =
    reply_within most field rest (last_within field rest y _ most e (p tt) ht)
rest_within most _ (replies_doubted (further joined) field rest {y = y} _ e p q _) hc ht =
    reply_within most field rest (end_within joined field rest y _ most e (p tt) ht)
rest_within most _ (joined_told {x = x} {y = y} {joined = joined} {rest = rest} _ e p _) hc ht =
    last_within joined (x ∷ rest) y _ most e (p tt) ht
rest_within most _ (joined_doubted {x = x} {y = y} {joined = joined} {rest = rest} _ e p _) hc ht =
    last_within joined (x ∷ rest) y _ most e (p tt) ht

most_replying : (octets most : ℕ) (c : CardWaits) (expects : Bool) (way : UnderWay) → ReplyWithin most c
    → replying_work octets c expects way ≤ 8 * most + (8 * octets + 50)
most_replying octets most (command joined) expects way h = omega (arith, replying_few expects way)
most_replying octets most host expects way h = omega arith
most_replying octets most (reply field rest) expects way h = omega (arith, replying_few expects way)
most_replying octets most (asking request) expects way h = omega arith

most_in : (octets most : ℕ) (l : Link) (w : Waits) → RestWithin most w l.card.waits
    → work_in octets l w ≤ 8 * most + (8 * octets + 50)
most_in octets most l idle h = omega arith
most_in octets most l (ack field rest) h =
    omega (arith, sending_few (same l.terminal.number l.card.expected) l.under_way)
most_in octets most l (answer field) h =
    either (λ n. n ≤ 8 * most + (8 * octets + 50)) (same l.terminal.number l.card.expected) _ _
    (omega (arith, sending_few true l.under_way))
    (most_replying octets most l.card.waits (same l.terminal.expected l.card.number) l.under_way h)
most_in octets most l (more joined) h =
    most_replying octets most l.card.waits (same l.terminal.expected l.card.number) l.under_way h
most_in octets most l (ifs size) h = omega (arith, size_few l.under_way)
most_in octets most l (resynch asked) h = omega (arith, resynch_few l.under_way)
most_in octets most l dead h = omega arith

pub most-work : {kt kc : Limits} (octets most : ℕ) (l : Link) → Good (Unit {0}) kt kc l → kc.command ≤ most
    → kt.answer ≤ most → work octets l ≤ 8 * most + (8 * octets + 50)
most-work octets most l g hc ht = most_in octets most l l.terminal.waits (rest_within most l g hc ht)
