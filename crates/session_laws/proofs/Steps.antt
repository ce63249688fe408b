-- Each step of a terminal's line leaves less to do than there was.
use Rattle.std.proofs.Common.{◌≡◌, ◌≤◌, ◌<◌, ℕ, ◌+◌, ◌-◌, ◌*◌, List, [], ◌∷◌, ◌++◌, length, drop, min, Bool, true, false, not, ◌&&◌, ◌||◌, nat_le, nat_lt, ◌==◌, refl, sym, ◌∙◌, ◌⊎◌, inl, inr, arith}
use Rattle.session_core.specs.declared.event.Next.{Next}
use Rattle.session_core.specs.declared.event.Next.TheVariants.{Heard, Quiet, Failed, UsedUp, Echo, Order}
use Rattle.session_core.specs.declared.progress.Phase.{Phase}
use Rattle.session_core.specs.declared.progress.Phase.TheVariants.{Idle, Late, Clearing, Settling, Sending, Echoing, Listening, Missing}
use Rattle.std.proofs.lemmas.Bool.{leb-false, ltb-true}
pub use Rattle.std.proofs.lemmas.Bool.{cond-true as yes}
use Rattle.std.proofs.lemmas.List.{length-append, length-drop}
pub use Rattle.octet_core.proofs.Choice.{either_if as either}
use Rattle.session_core.specs.Lines.{stepped}
use Rattle.session_core.specs.Wire.{Ruled, Doing, Step, step_of, waits, stops, dropping, drops, dropped, says, settles, talks, is_used_up, most_noise, most_counted, hands, is_refused, judges, is_certain, judged, ends, goes_on, is_over, begun, spoiled, weighed, hears, misses, follows, hears_echo, echoed, agrees, unheard, met, sent_in, sent, timed, took, takes, spends, unechoed, missed, cleared, silent_in, came_in, left_in, used_up, silent, failed, has_none_left, takes_in, came, time_of, is_sending, is_waiting, is_idle, on_sent, on_came, on_silent, on_failed, counted, silence_in, broken, wait_in, echo_wait, begins, clears}
use Rattle.session_laws.specs.Ending.{IsLess, rest, rest_in, to_begin, to_send, held_in, sent_by, for_block}

-- what holds of both branches holds of the test
pub not-either : (b c : Bool) → (b || c) ≡ false → b ≡ false
not-either true c e = cc
not-either false c e = refl

-- a terminal whose blocks and time aren't used up has blocks left
pub unused : (card b c : Bool) → card ≡ false → (not card && (b || c)) ≡ false → b ≡ false
unused true b c terminal e = cc
unused false b c terminal e = not-either b c e

pub waits-less : (r : Ruled) (p : Doing) (burst : List ℕ) (wanted now most blocks : ℕ)
    → rest r p (length burst) < most → to_send r p ≤ blocks → IsLess r most blocks (waits r p burst wanted now)
waits-less r p burst wanted now most blocks h k = record { less = h; sends = omega (arith, k) }

pub stops-less : (r : Ruled) (p : Doing) (burst : List ℕ) (next : Next) (most blocks : ℕ)
    → to_begin r p * for_block < most → to_begin r p ≤ blocks → sent_by next ≡ 0
    → IsLess r most blocks (stops p burst next)
stops-less r p burst next most blocks h k none =
    record { less = omega (arith, h); sends = omega (arith, k, none) }

pub dropping-less : (r : Ruled) (p : Doing) (burst : List ℕ) (now most blocks : ℕ)
    → rest r p (length burst) < most → to_send r p ≤ blocks → IsLess r most blocks (dropping r p burst now)
unfolding dropping
dropping-less r p burst now most blocks h k = waits-less r p burst _ now most blocks h k

pub drops-less : (r : Ruled) (p : Doing) (phase : Phase) (burst : List ℕ) (now most blocks : ℕ)
    → to_begin r p * for_block + rest_in phase 65536 p.own (length burst) < most
    → to_begin r p + held_in phase ≤ blocks → IsLess r most blocks (drops r p phase burst now)
unfolding drops
drops-less r p phase burst now most blocks h k =
    dropping-less r (record p { phase = phase; left = most_noise }) burst now most blocks h k

pub dropped-less : (r : Ruled) (p : Doing) (burst : List ℕ) (count now most blocks : ℕ)
    → to_begin r p * for_block < most → to_send r p ≤ blocks
    → (nat_le p.left count ≡ false → rest r (record p { left = p.left - count }) (length burst) < most)
    → IsLess r most blocks (dropped r p burst count now)
unfolding dropped
dropped-less r p burst count now most blocks h k f =
    either (IsLess r most blocks) (nat_le p.left count) _ _
    (λ _. stops-less r (record p { left = 0 }) burst Failed most blocks h (omega (arith, k)) refl)
    (λ e. dropping-less r (record p { left = p.left - count }) burst now most blocks (f e) k)

pub says-less : (r : Ruled) (p : Doing) (now most blocks : ℕ) → to_begin r p * for_block + 65797 < most
    → to_begin r p + 1 ≤ blocks → IsLess r most blocks (says p now)
unfolding says
says-less r p now most blocks h k = record { less = h; sends = omega (arith, k) }

pub settles-less : (r : Ruled) (p : Doing) (burst : List ℕ) (now most blocks : ℕ)
    → to_begin r p * for_block + 131334 < most → to_begin r p + 1 ≤ blocks
    → IsLess r most blocks (settles r p burst now)
unfolding settles
settles-less r p burst now most blocks h k =
    either (IsLess r most blocks) (p.owed == 0) _ _ (λ _. says-less r p now most blocks (omega (arith, h)) k)
    (λ _. drops-less r p Settling burst now most blocks h k)

pub talks-less : (r : Ruled) (p : Doing) (burst : List ℕ) (now most blocks : ℕ) → r.is_card ≡ false
    → r.most_blocks ≤ most_counted → to_begin r p * for_block < most → to_begin r p ≤ blocks
    → IsLess r most blocks (talks r p burst now)
unfolding talks
talks-less r p burst now most blocks terminal counted h k =
    either (IsLess r most blocks) (is_used_up r p now) _ _
    (λ _. stops-less r p burst UsedUp most blocks h k refl)
    (λ e. let left : p.blocks < r.most_blocks = leb-false r.most_blocks p.blocks (unused _ _ _ terminal e) in
    settles-less r (record p { blocks = min (p.blocks + 1) most_counted }) burst now most blocks
    (omega (arith, h, left, counted)) (omega (arith, k, left, counted)))

pub begins-less : (r : Ruled) (p : Doing) (burst : List ℕ) (now : ℕ)
    → IsLess r (r.most_blocks * for_block + 65539) r.most_blocks (begins r p burst now)
unfolding begins
begins-less r p burst now =
    waits-less r (record p { phase = Late; blocks = 0; spent = 0; echoes = 0; began = now }) burst 0 now
    (r.most_blocks * for_block + 65539) r.most_blocks (omega arith) (omega arith)

pub clears-less : (r : Ruled) (p : Doing) (burst : List ℕ) (now : ℕ)
    → IsLess r (r.most_blocks * for_block + 65539) r.most_blocks (clears r p burst now)
unfolding clears
clears-less r p burst now =
    drops-less r (record p { blocks = 0; spent = 0; echoes = 0; began = now }) Clearing burst now
    (r.most_blocks * for_block + 65539) r.most_blocks (omega arith) (omega arith)

-- ---- a burst ends

pub hands-less : (r : Ruled) (p : Doing) (burst octets : List ℕ) (echo : Bool) (most blocks : ℕ)
    → to_begin r p * for_block < most → to_begin r p ≤ blocks → IsLess r most blocks (hands r p burst octets echo)
unfolding hands
hands-less r p burst octets echo most blocks h k =
    either (IsLess r most blocks) (is_refused r p octets echo) _ _
    (λ _. stops-less r (record p { is_spoiled = true; owed = broken r p }) burst Heard most blocks h k refl)
    (λ _. stops-less r p burst Heard most blocks h k refl)

pub judges-less : (r : Ruled) (p : Doing) (burst octets : List ℕ) (echo : Bool) (most blocks : ℕ)
    → to_begin r p * for_block < most → to_begin r p ≤ blocks → IsLess r most blocks (judges r p burst octets echo)
unfolding judges
judges-less r p burst octets echo most blocks h k =
    either (IsLess r most blocks) (echo && is_certain p octets) _ _
    (λ _. stops-less r (record p { echoes = 0 }) burst Echo most blocks h k refl)
    (λ _. hands-less r p burst octets echo most blocks h k)

pub judged-less : (r : Ruled) (p : Doing) (burst block : List ℕ) (most blocks : ℕ)
    → to_begin r p * for_block < most → to_begin r p ≤ blocks → IsLess r most blocks (judged r p burst block)
unfolding judged
judged-less r p burst block most blocks h k = judges-less r _ burst _ _ most blocks h k

pub ends-less : (r : Ruled) (p : Doing) (burst block : List ℕ) (most blocks : ℕ)
    → to_begin r p * for_block < most → to_begin r p ≤ blocks → IsLess r most blocks (ends r p burst block)
unfolding ends
ends-less r p [] block most blocks h k = stops-less r p [] Quiet most blocks h k refl
ends-less r p (octet ∷ octets) block most blocks h k = judged-less r p (octet ∷ octets) block most blocks h k

-- more of it is to come
pub goes-on-less : (r : Ruled) (p : Doing) (burst : List ℕ) (now : ℕ) (block : List ℕ) (most blocks : ℕ)
    → p.phase ≡ Listening → to_begin r p * for_block < most → to_begin r p ≤ blocks
    → (length burst < 65536 → to_begin r p * for_block + (65536 - length burst + 1) < most)
    → IsLess r most blocks (goes_on r p burst now block)
unfolding goes_on
goes-on-less r p burst now block most blocks e h k f =
    either (IsLess r most blocks) (is_over r p burst) _ _
    (λ _. judged-less r p burst block most blocks h k)
    (λ off. waits-less r p burst (wait_in r p burst) now most blocks
    (rw e (f (leb-false 65536 (length burst) (not-either _ _ off)))) (rw e (omega (arith, k))))

pub hears-less : (r : Ruled) (p : Doing) (burst octets : List ℕ) (is_garbled : Bool) (now : ℕ) (block : List ℕ)
    (most blocks : ℕ) → p.phase ≡ Listening → 1 ≤ length octets
    → to_begin r p * for_block + (65536 - length burst + 1) ≤ most → to_begin r p ≤ blocks
    → IsLess r most blocks (hears r p burst octets is_garbled now block)
unfolding hears
hears-less r p [] octets is_garbled now block most blocks e some h k =
    goes-on-less r (weighed (spoiled (begun r p [] now) is_garbled) ([] ++ octets)) ([] ++ octets) now block most blocks
    e
    (omega (arith, h)) k (λ few. omega (arith, h, some, few, length-append [] octets))
hears-less r p (first ∷ burst) octets is_garbled now block most blocks e some h k =
    goes-on-less r (weighed (spoiled p is_garbled) ((first ∷ burst) ++ octets)) ((first ∷ burst) ++ octets) now block
    most blocks e (omega (arith, h)) k
    (λ few. omega (arith, h, some, few, length-append (first ∷ burst) octets))

-- ---- an echo

pub misses-less : (r : Ruled) (p : Doing) (burst : List ℕ) (now most blocks : ℕ)
    → to_begin r p * for_block + 65537 < most → to_begin r p ≤ blocks → IsLess r most blocks (misses r p burst now)
unfolding misses
misses-less r p burst now most blocks h k = drops-less r p Missing burst now most blocks h (omega (arith, k))

pub follows-less : (r : Ruled) (p : Doing) (burst octets : List ℕ) (now : ℕ) (block : List ℕ) (most blocks : ℕ)
    → to_begin r p * for_block + 65537 < most → to_begin r p ≤ blocks
    → IsLess r most blocks (follows r p burst octets now block)
unfolding follows
follows-less r p burst octets now block most blocks h k =
    goes-on-less r (weighed (record p { phase = Listening }) (burst ++ octets)) (burst ++ octets)
    now
    block most blocks refl (omega (arith, h)) k (λ few. omega (arith, h))

pub hears-echo-less : (r : Ruled) (p : Doing) (burst octets rest : List ℕ) (now : ℕ) (block : List ℕ)
    (most blocks : ℕ) → p.phase ≡ Echoing → 1 ≤ length octets → length rest ≡ length block - p.own
    → length block ≤ 258 → to_begin r p * for_block + (65538 + (258 - p.own)) ≤ most → to_begin r p ≤ blocks
    → IsLess r most blocks (hears_echo r p burst octets rest now block)
unfolding hears_echo
hears-echo-less r p burst octets rest now block most blocks e some left short h k =
    either (IsLess r most blocks) (nat_lt (length octets) (length rest)) _ _
    (λ on. let fewer : length octets < length rest = ltb-true (length octets) (length rest) on in
    waits-less r (record p { own = min (p.own + length octets) 4294967295 }) burst (echo_wait r block) now
    most blocks (rw e (omega (arith, h, some, left, short, fewer))) (rw e (omega (arith, k))))
    (λ _. follows-less r p burst (drop (length rest) octets) now block most blocks (omega (arith, h)) k)

pub echoed-less : (r : Ruled) (p : Doing) (burst octets : List ℕ) (now : ℕ) (block : List ℕ) (most blocks : ℕ)
    → p.phase ≡ Echoing → 1 ≤ length octets → length block ≤ 258
    → to_begin r p * for_block + (65538 + (258 - p.own)) ≤ most → to_begin r p ≤ blocks
    → IsLess r most blocks (echoed r p burst octets now block)
unfolding echoed
echoed-less r p burst octets now block most blocks e some short h k =
    either (IsLess r most blocks) (agrees octets (unheard p block)) _ _
    (λ _. hears-echo-less r p burst octets (unheard p block) now block most blocks e some (length-drop p.own block)
    short h k)
    (λ _. misses-less r p burst now most blocks (omega (arith, h)) k)

pub met-less : (r : Ruled) (p : Doing) (burst octets : List ℕ) (is_garbled : Bool) (now : ℕ) (block : List ℕ)
    (most blocks : ℕ) → p.phase ≡ Echoing → 1 ≤ length octets → length block ≤ 258
    → to_begin r p * for_block + (65538 + (258 - p.own)) ≤ most → to_begin r p ≤ blocks
    → IsLess r most blocks (met r p burst octets is_garbled now block)
unfolding met
met-less r p burst octets is_garbled now block most blocks e some short h k =
    either (IsLess r most blocks) is_garbled _ _
    (λ _. misses-less r p burst now most blocks (omega (arith, h)) k)
    (λ _. echoed-less r p burst octets now block most blocks e some short h k)

-- ---- a block was sent

pub sent-in-less : (r : Ruled) (p : Doing) (burst : List ℕ) (now : ℕ) (block : List ℕ) (most blocks : ℕ)
    → to_begin r p * for_block + 65797 ≤ most → to_begin r p ≤ blocks
    → IsLess r most blocks (sent_in r p burst now block)
unfolding sent_in
sent-in-less r p burst now block most blocks h k =
    either (IsLess r most blocks) r.has_echo _ _
    (λ _. waits-less r (record p { phase = Echoing }) burst (echo_wait r block) now most blocks (omega (arith, h))
    (omega (arith, k)))
    (λ _. goes-on-less r (record (spends p (time_of r (length block))) { phase = Listening }) burst now block most
    blocks
    refl (omega (arith, h)) k (λ few. omega (arith, h)))

pub sent-less : (r : Ruled) (p : Doing) (burst : List ℕ) (now : ℕ) (block : List ℕ) (most blocks : ℕ)
    → to_begin r p * for_block + 65797 ≤ most → to_begin r p ≤ blocks
    → IsLess r most blocks (sent r p burst now block)
unfolding sent
sent-less r p burst now block most blocks h k =
    sent-in-less r (timed p (took p now) (takes r block)) burst now block most blocks h k

-- ---- a silence

pub unechoed-less : (r : Ruled) (p : Doing) (burst : List ℕ) (now most blocks : ℕ)
    → to_begin r p * for_block + 65537 < most → to_begin r p ≤ blocks → IsLess r most blocks (unechoed r p burst now)
unfolding unechoed
unechoed-less r p burst now most blocks h k =
    either (IsLess r most blocks) (p.own == 0) _ _
    (λ _. stops-less r p burst Failed most blocks (omega (arith, h)) k refl)
    (λ _. misses-less r p burst now most blocks h k)

pub missed-less : (r : Ruled) (p : Doing) (burst : List ℕ) (now most blocks : ℕ) → r.is_card ≡ false
    → to_begin r p * for_block < most → to_begin r p ≤ blocks → IsLess r most blocks (missed r p burst now)
unfolding missed
missed-less r p burst now most blocks terminal h k =
    either (IsLess r most blocks) r.is_card _ _ (λ card. let bad : true ≡ false = sym card ∙ terminal in cc)
    (λ _. stops-less r p burst Quiet most blocks h k refl)

-- an end after a silence, whatever it owed
pub after-silence : (P : Doing → Type 0) (r : Ruled) (p : Doing) → P (record p { owed = 0 }) → P p → P (cleared r p)
after-silence P r p f g = either P (nat_le p.owed (silence_in p.phase r p)) _ _ (λ _. f) (λ _. g)

pub silent-in-less : (phase : Phase) (r : Ruled) (p : Doing) (burst : List ℕ) (now : ℕ) (block : List ℕ)
    (most blocks : ℕ) → r.is_card ≡ false → r.most_blocks ≤ most_counted → is_waiting phase ≡ true
    → to_begin r p * for_block + rest_in phase p.left p.own (length burst) ≤ most
    → to_begin r p + held_in phase ≤ blocks → IsLess r most blocks (silent_in phase r p burst now block)
unfolding silent_in
silent-in-less Late r p burst now block most blocks terminal most_is waiting h k =
    talks-less r p burst now most blocks terminal most_is (omega (arith, h)) (omega (arith, k))
silent-in-less Clearing r p burst now block most blocks terminal most_is waiting h k =
    after-silence (λ q. IsLess r most blocks (talks r q burst now)) r p
    (talks-less r (record p { owed = 0 }) burst now most blocks terminal most_is (omega (arith, h)) (omega (arith, k)))
    (talks-less r p burst now most blocks terminal most_is (omega (arith, h)) (omega (arith, k)))
silent-in-less Settling r p burst now block most blocks terminal most_is waiting h k =
    after-silence (λ q. IsLess r most blocks (says q now)) r p
    (says-less r (record p { owed = 0 }) now most blocks (omega (arith, h)) k)
    (says-less r p now most blocks (omega (arith, h)) k)
silent-in-less Echoing r p burst now block most blocks terminal most_is waiting h k =
    unechoed-less r p burst now most blocks (omega (arith, h)) (omega (arith, k))
silent-in-less Listening r p burst now block most blocks terminal most_is waiting h k =
    ends-less r p burst block most blocks (omega (arith, h)) (omega (arith, k))
silent-in-less Missing r p burst now block most blocks terminal most_is waiting h k =
    after-silence (λ q. IsLess r most blocks (missed r q burst now)) r p
    (missed-less r (record p { owed = 0 }) burst now most blocks terminal (omega (arith, h)) (omega (arith, k)))
    (missed-less r p burst now most blocks terminal (omega (arith, h)) (omega (arith, k)))
silent-in-less phase r p burst now block most blocks terminal most_is waiting h k = cc

-- ---- octets

pub came-in-less : (phase : Phase) (r : Ruled) (p : Doing) (burst octets : List ℕ) (is_garbled : Bool) (now : ℕ)
    (block : List ℕ) (most blocks : ℕ) → p.phase ≡ phase → is_waiting phase ≡ true → 1 ≤ length octets
    → length block ≤ 258
    → to_begin r p * for_block + rest_in phase p.left p.own (length burst) ≤ most
    → to_begin r p + held_in phase ≤ blocks → IsLess r most blocks (came_in phase r p burst octets is_garbled now block)
unfolding came_in
came-in-less Late r p burst octets is_garbled now block most blocks e waiting some short h k =
    drops-less r p Clearing burst now most blocks (omega (arith, h)) (omega (arith, k))
came-in-less Clearing r p burst octets is_garbled now block most blocks e waiting some short h k =
    dropped-less r p burst (length octets) now most blocks (omega (arith, h)) (rw e k)
    (λ off. let more : length octets < p.left =
    leb-false p.left (length octets) off in rw e (omega (arith, h, some, more)))
came-in-less Settling r p burst octets is_garbled now block most blocks e waiting some short h k =
    dropped-less r p burst (length octets) now most blocks (omega (arith, h)) (rw e k)
    (λ off. let more : length octets < p.left =
    leb-false p.left (length octets) off in rw e (omega (arith, h, some, more)))
came-in-less Missing r p burst octets is_garbled now block most blocks e waiting some short h k =
    dropped-less r p burst (length octets) now most blocks (omega (arith, h)) (rw e k)
    (λ off. let more : length octets < p.left =
    leb-false p.left (length octets) off in rw e (omega (arith, h, some, more)))
came-in-less Echoing r p burst octets is_garbled now block most blocks e waiting some short h k =
    met-less r p burst octets is_garbled now block most blocks e some short h (omega (arith, k))
came-in-less Listening r p burst octets is_garbled now block most blocks e waiting some short h k =
    hears-less r p burst octets is_garbled now block most blocks e some h (omega (arith, k))
came-in-less phase r p burst octets is_garbled now block most blocks e waiting some short h k = cc

-- ---- what happened, whatever the phase

pub left-same : (phase : Phase) (r : Ruled) (p : Doing) (burst : List ℕ)
    → to_begin r (left_in phase r p burst) ≡ to_begin r p
left-same Listening r p burst = refl
left-same phase r p burst = refl

-- a phase in which something may happen leaves something to do
pub some-rest : (phase : Phase) (left own count : ℕ) → is_idle phase ≡ false → 1 ≤ rest_in phase left own count
some-rest Idle left own count busy = cc
some-rest Late left own count busy = omega arith
some-rest Clearing left own count busy = omega arith
some-rest Settling left own count busy = omega arith
some-rest Sending left own count busy = omega arith
some-rest Echoing left own count busy = omega arith
some-rest Listening left own count busy = omega arith
some-rest Missing left own count busy = omega arith

pub waits-busy : (phase : Phase) → is_waiting phase ≡ true → is_idle phase ≡ false
waits-busy Idle e = cc
waits-busy phase e = refl

pub used-up-less : (r : Ruled) (p : Doing) (burst : List ℕ) (most blocks : ℕ)
    → to_begin r p * for_block < most → to_begin r p ≤ blocks → IsLess r most blocks (used_up r p burst)
unfolding used_up
used-up-less r p burst most blocks h k =
    stops-less r (left_in p.phase r p burst) burst UsedUp most blocks (rw (left-same p.phase r p burst) h)
    (rw (left-same p.phase r p burst) k) refl

pub failed-less : (r : Ruled) (p : Doing) (burst : List ℕ) (most blocks : ℕ)
    → to_begin r p * for_block < most → to_begin r p ≤ blocks → IsLess r most blocks (failed r p burst)
unfolding failed
failed-less r p burst most blocks h k =
    stops-less r (left_in p.phase r p burst) burst Failed most blocks (rw (left-same p.phase r p burst) h)
    (rw (left-same p.phase r p burst) k) refl

pub silent-less : (r : Ruled) (p : Doing) (burst : List ℕ) (now : ℕ) (block : List ℕ) (most blocks : ℕ)
    → r.is_card ≡ false → r.most_blocks ≤ most_counted → is_waiting p.phase ≡ true
    → rest r p (length burst) ≤ most → to_send r p ≤ blocks → IsLess r most blocks (silent r p burst now block)
unfolding silent
silent-less r p burst now block most blocks terminal most_is waiting h k =
    let some : 1 ≤ rest_in p.phase p.left p.own (length burst) =
    some-rest p.phase p.left p.own (length burst) (waits-busy p.phase waiting) in
    either (IsLess r most blocks) p.is_cut _ _
    (λ _. used-up-less r (spends p p.asked) burst most blocks (omega (arith, h, some)) (omega (arith, k)))
    (λ _. silent-in-less p.phase r (spends p p.asked) burst now block most blocks terminal most_is waiting h k)

pub takes-in-less : (r : Ruled) (p : Doing) (burst octets : List ℕ) (is_garbled : Bool) (now : ℕ) (block : List ℕ)
    (most blocks : ℕ) → is_waiting p.phase ≡ true → 1 ≤ length octets → length block ≤ 258
    → rest r p (length burst) ≤ most → to_send r p ≤ blocks
    → IsLess r most blocks (takes_in r p burst octets is_garbled now block)
unfolding takes_in
takes-in-less r p burst octets is_garbled now block most blocks waiting some short h k =
    let more : 1 ≤ rest_in p.phase p.left p.own (length burst) =
    some-rest p.phase p.left p.own (length burst) (waits-busy p.phase waiting) in
    either (IsLess r most blocks) (has_none_left p) _ _
    (λ _. used-up-less r p burst most blocks (omega (arith, h, more)) (omega (arith, k)))
    (λ _. came-in-less p.phase r p burst octets is_garbled now block most blocks refl waiting some short h k)

pub came-less : (r : Ruled) (p : Doing) (burst octets : List ℕ) (is_garbled : Bool) (now : ℕ) (block : List ℕ)
    (most blocks : ℕ) → is_waiting p.phase ≡ true → 1 ≤ length octets → length block ≤ 258
    → rest r p (length burst) ≤ most → to_send r p ≤ blocks
    → IsLess r most blocks (came r p burst octets is_garbled now block)
unfolding came
came-less r p burst [] is_garbled now block most blocks waiting some short h k =
    let bad : ⊥ = omega (arith, some) in absurd bad
came-less r p burst (octet ∷ octets) is_garbled now block most blocks waiting some short h k =
    takes-in-less r (spends p (time_of r (length (octet ∷ octets)))) burst (octet ∷ octets) is_garbled now block most
    blocks waiting some short h k

-- ---- the table

pub sending-is : (phase : Phase) → is_sending phase ≡ true → phase ≡ Sending
sending-is Sending e = refl
sending-is phase e = cc

pub on-sent-less : (r : Ruled) (p : Doing) (burst : List ℕ) (now : ℕ) (block : List ℕ)
    → IsLess r (rest r p (length burst)) (to_send r p) (on_sent r p burst now block)
    ⊎ (on_sent r p burst now block ≡ step_of p burst Order)
unfolding on_sent
on-sent-less r p burst now block =
    either (λ s. IsLess r (rest r p (length burst)) (to_send r p) s ⊎ (s ≡ step_of p burst Order)) (is_sending p.phase)
    _ _
    (λ e. let is : p.phase ≡ Sending = sending-is p.phase e in
    inl (sent-less r p burst now block (rest r p (length burst)) (to_send r p) (rw is (omega arith)) (omega arith)))
    (λ _. inr refl)

pub on-came-less : (r : Ruled) (p : Doing) (burst octets : List ℕ) (is_garbled : Bool) (now : ℕ) (block : List ℕ)
    → 1 ≤ length octets → length block ≤ 258
    → IsLess r (rest r p (length burst)) (to_send r p) (on_came r p burst octets is_garbled now block)
    ⊎ (on_came r p burst octets is_garbled now block ≡ step_of p burst Order)
unfolding on_came
on-came-less r p burst octets is_garbled now block some short =
    either (λ s. IsLess r (rest r p (length burst)) (to_send r p) s ⊎ (s ≡ step_of p burst Order)) (is_waiting p.phase)
    _ _
    (λ e. inl (came-less r p burst octets is_garbled now block (rest r p (length burst)) (to_send r p) e some short
    (omega arith) (omega arith)))
    (λ _. inr refl)

pub on-silent-less : (r : Ruled) (p : Doing) (burst : List ℕ) (now : ℕ) (block : List ℕ) → r.is_card ≡ false
    → r.most_blocks ≤ most_counted
    → IsLess r (rest r p (length burst)) (to_send r p) (on_silent r p burst now block)
    ⊎ (on_silent r p burst now block ≡ step_of p burst Order)
unfolding on_silent
on-silent-less r p burst now block terminal most_is =
    either (λ s. IsLess r (rest r p (length burst)) (to_send r p) s ⊎ (s ≡ step_of p burst Order)) (is_waiting p.phase)
    _ _
    (λ e. inl (silent-less r p burst now block (rest r p (length burst)) (to_send r p) terminal most_is e (omega arith)
    (omega arith)))
    (λ _. inr refl)

pub on-failed-less : (r : Ruled) (p : Doing) (burst : List ℕ)
    → IsLess r (rest r p (length burst)) (to_send r p) (on_failed r p burst)
    ⊎ (on_failed r p burst ≡ step_of p burst Order)
unfolding on_failed
on-failed-less r p burst =
    either (λ s. IsLess r (rest r p (length burst)) (to_send r p) s ⊎ (s ≡ step_of p burst Order)) (is_idle p.phase) _ _
    (λ _. inr refl)
    (λ e. let some : 1 ≤ rest_in p.phase p.left p.own (length burst) =
    some-rest p.phase p.left p.own (length burst) e in
    inl (failed-less r p burst (rest r p (length burst)) (to_send r p) (omega (arith, some)) (omega arith)))

-- whatever happened leaves less to do, or it doesn't fit, and nothing changes
pub stepped-less : (event : ℕ) (r : Ruled) (p : Doing) (burst octets : List ℕ) (now : ℕ) (block : List ℕ)
    → r.is_card ≡ false → r.most_blocks ≤ most_counted → ((event == 1) ≡ true → 1 ≤ length octets)
    → ((event == 2) ≡ true → 1 ≤ length octets) → length block ≤ 258
    → IsLess r (rest r p (length burst)) (to_send r p) (stepped event r p burst octets now block)
    ⊎ (stepped event r p burst octets now block ≡ step_of p burst Order)
stepped-less event r p burst octets now block terminal most_is came garbled short =
    let P : Step → Type 0 =
    λ s. IsLess r (rest r p (length burst)) (to_send r p) s ⊎ (s ≡ step_of p burst Order) in
    either P (event == 0) _ _ (λ _. on-sent-less r p burst now block) (λ _.
    either P (event == 1) _ _ (λ e. on-came-less r p burst octets false now block (came e) short) (λ _.
    either P (event == 2) _ _ (λ e. on-came-less r p burst octets true now block (garbled e) short) (λ _.
    either P (event == 3) _ _ (λ _. on-silent-less r p burst now block terminal most_is) (λ _.
    either P (event == 4) _ _ (λ _. on-failed-less r p burst) (λ _. inr refl)))))
