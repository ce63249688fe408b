-- Each step of a terminal's line counts the time of the exchange, and waits no longer than what is left of it.
use Rattle.std.proofs.Common.{◌≡◌, ◌≤◌, ℕ, ◌+◌, ◌-◌, List, [], ◌∷◌, ◌++◌, length, drop, min, Bool, true, false, nat_le, nat_lt, ◌&&◌, ◌==◌, refl, sym, ap, ◌∙◌, ◌⊎◌, inl, inr, eqb-true, arith}
use Rattle.session_core.specs.declared.event.Next.{Next}
use Rattle.session_core.specs.declared.event.Next.TheVariants.{Wait, Heard, Quiet, Failed, UsedUp, Echo, Order}
use Rattle.session_core.specs.declared.progress.Phase.{Phase}
use Rattle.session_core.specs.declared.progress.Phase.TheVariants.{Idle, Late, Clearing, Settling, Echoing, Listening, Missing}
use Rattle.session_core.specs.declared.progress.Moment.TheVariants.{Unknown}
use Rattle.session_core.specs.Lines.{stepped}
use Rattle.session_core.specs.Wire.{Ruled, Doing, Step, step_of, waits, dropping, drops, dropped, says, settles, talks, is_used_up, most_noise, most_counted, hands, is_refused, judges, is_certain, judged, ends, goes_on, is_over, begun, spoiled, weighed, hears, misses, follows, hears_echo, echoed, agrees, unheard, met, sent_in, sent, timed, took, takes, spends, unechoed, missed, awaits, cleared, silent_in, came_in, left_in, used_up, silent, failed, has_none_left, takes_in, came, time_of, is_sending, is_waiting, is_idle, on_sent, on_came, on_silent, on_failed, left_of, broken, wait_in, echo_wait, begins, forever, silence_in}
use Rattle.session_laws.specs.Ending.{IsTimed, IsTimely}
use Rattle.session_laws.proofs.Steps.{either}

-- what is left of the time of an exchange without a clock
pub left-is : (r : Ruled) (p : Doing) (now : ℕ) → IsTimed r → left_of r p now ≡ r.most_time - p.spent
left-is r p now timed =
    either (λ n. n ≡ r.most_time - p.spent) (r.most_time == forever) _ _
    (λ e. let bad : true ≡ false = sym e ∙ timed.limited in cc)
    (λ _. ap (λ (n : ℕ). r.most_time - n) (either (λ n. n ≡ p.spent) r.has_clock _ _
    (λ e. let bad : true ≡ false = sym e ∙ timed.by_waits in cc) (λ _. refl)))

pub wait-is : (a b : ℕ) → Wait a ≡ Wait b → a ≡ b
wait-is a b e = cc

pub waits-timely : (r : Ruled) (p : Doing) (burst : List ℕ) (wanted now floor : ℕ) → floor ≤ p.spent
    → IsTimely r floor (waits r p burst wanted now)
waits-timely r p burst wanted now floor h = record {
  spent = h;
  in_time = λ timed t e. let same : min wanted (left_of r p now) ≡ t = wait-is _ t e in
      let left : left_of r p now ≡ r.most_time - p.spent = left-is r p now timed in
      (same, omega (arith, same, left));
}

-- a step that waits for nothing
pub still-timely : (r : Ruled) (p : Doing) (burst : List ℕ) (next : Next) (floor : ℕ) → floor ≤ p.spent
    → ((t : ℕ) → next ≡ Wait t → ⊥) → IsTimely r floor (step_of p burst next)
still-timely r p burst next floor h never =
    record { spent = h; in_time = λ timed t e. absurd (never t e) }

pub dropping-timely : (r : Ruled) (p : Doing) (burst : List ℕ) (now : ℕ) (floor : ℕ) → floor ≤ p.spent
    → IsTimely r floor (dropping r p burst now)
unfolding dropping
dropping-timely r p burst now floor h =
    waits-timely r p burst _ now floor h

pub drops-timely : (r : Ruled) (p : Doing) (phase : Phase) (burst : List ℕ) (now : ℕ) (floor : ℕ) → floor ≤ p.spent
    → IsTimely r floor (drops r p phase burst now)
unfolding drops
drops-timely r p phase burst now floor h =
    dropping-timely r (record p { phase = phase; left = most_noise }) burst now floor h

pub dropped-timely : (r : Ruled) (p : Doing) (burst : List ℕ) (count now : ℕ) (floor : ℕ) → floor ≤ p.spent
    → IsTimely r floor (dropped r p burst count now)
unfolding dropped
dropped-timely r p burst count now floor h =
    either (IsTimely r floor) (nat_le p.left count) _ _
    (λ _. still-timely r (record p { left = 0; phase = Idle }) burst Failed floor h (λ t e. cc))
    (λ _. dropping-timely r (record p { left = p.left - count }) burst now floor h)

pub says-timely : (r : Ruled) (p : Doing) (now : ℕ) (floor : ℕ) → floor ≤ p.spent
    → IsTimely r floor (says p now)
unfolding says
says-timely r p now floor h =
    record { spent = h; in_time = λ timed t e. cc }

pub settles-timely : (r : Ruled) (p : Doing) (burst : List ℕ) (now : ℕ) (floor : ℕ) → floor ≤ p.spent
    → IsTimely r floor (settles r p burst now)
unfolding settles
settles-timely r p burst now floor h =
    either (IsTimely r floor) (p.owed == 0) _ _ (λ _. says-timely r p now floor h)
    (λ _. drops-timely r p Settling burst now floor h)

pub talks-timely : (r : Ruled) (p : Doing) (burst : List ℕ) (now : ℕ) (floor : ℕ) → floor ≤ p.spent
    → IsTimely r floor (talks r p burst now)
unfolding talks
talks-timely r p burst now floor h =
    either (IsTimely r floor) (is_used_up r p now) _ _
    (λ _. still-timely r (record p { phase = Idle }) burst UsedUp floor h (λ t e. cc))
    (λ _. settles-timely r (record p { blocks = min (p.blocks + 1) most_counted }) burst now floor h)

pub begins-timely : (r : Ruled) (p : Doing) (burst : List ℕ) (now : ℕ) → IsTimely r 0 (begins r p burst now)
unfolding begins
begins-timely r p burst now =
    waits-timely r (record p { phase = Late; blocks = 0; spent = 0; echoes = 0; began = now }) burst 0 now 0
    (omega arith)

pub hands-timely : (r : Ruled) (p : Doing) (burst octets : List ℕ) (echo : Bool) (floor : ℕ) → floor ≤ p.spent
    → IsTimely r floor (hands r p burst octets echo)
unfolding hands
hands-timely r p burst octets echo floor h =
    either (IsTimely r floor) (is_refused r p octets echo) _ _
    (λ _. still-timely r (record p { is_spoiled = true; owed = broken r p; phase = Idle }) burst Heard floor h
    (λ t e. cc))
    (λ _. still-timely r (record p { phase = Idle }) burst Heard floor h (λ t e. cc))

pub judges-timely : (r : Ruled) (p : Doing) (burst octets : List ℕ) (echo : Bool) (floor : ℕ) → floor ≤ p.spent
    → IsTimely r floor (judges r p burst octets echo)
unfolding judges
judges-timely r p burst octets echo floor h =
    either (IsTimely r floor) (echo && is_certain p octets) _ _
    (λ _. still-timely r (record p { echoes = 0; phase = Idle }) burst Echo floor h (λ t e. cc))
    (λ _. hands-timely r p burst octets echo floor h)

pub judged-timely : (r : Ruled) (p : Doing) (burst block : List ℕ) (floor : ℕ) → floor ≤ p.spent
    → IsTimely r floor (judged r p burst block)
unfolding judged
judged-timely r p burst block floor h =
    judges-timely r _ burst _ _ floor h

pub ends-timely : (r : Ruled) (p : Doing) (burst block : List ℕ) (floor : ℕ) → floor ≤ p.spent
    → IsTimely r floor (ends r p burst block)
unfolding ends
ends-timely r p [] block floor h = still-timely r (record p { phase = Idle }) [] Quiet floor h (λ t e. cc)
ends-timely r p (octet ∷ octets) block floor h = judged-timely r p (octet ∷ octets) block floor h

pub goes-on-timely : (r : Ruled) (p : Doing) (burst : List ℕ) (now : ℕ) (block : List ℕ) (floor : ℕ) → floor ≤ p.spent
    → IsTimely r floor (goes_on r p burst now block)
unfolding goes_on
goes-on-timely r p burst now block floor h =
    either (IsTimely r floor) (is_over r p burst) _ _ (λ _. judged-timely r p burst block floor h)
    (λ _. waits-timely r p burst (wait_in r p burst) now floor h)

pub hears-timely : (r : Ruled) (p : Doing) (burst octets : List ℕ) (is_garbled : Bool) (now : ℕ) (block : List ℕ)
    (floor : ℕ) → floor ≤ p.spent
    → IsTimely r floor (hears r p burst octets is_garbled now block)
unfolding hears
hears-timely r p [] octets is_garbled now block floor h =
    goes-on-timely r (weighed (spoiled (begun r p [] now) is_garbled) ([] ++ octets)) ([] ++ octets) now block floor h
hears-timely r p (first ∷ burst) octets is_garbled now block floor h =
    goes-on-timely r (weighed (spoiled p is_garbled) ((first ∷ burst) ++ octets)) ((first ∷ burst) ++ octets) now block
    floor h

pub misses-timely : (r : Ruled) (p : Doing) (burst : List ℕ) (now : ℕ) (floor : ℕ) → floor ≤ p.spent
    → IsTimely r floor (misses r p burst now)
unfolding misses
misses-timely r p burst now floor h =
    drops-timely r p Missing burst now floor h

pub follows-timely : (r : Ruled) (p : Doing) (burst octets : List ℕ) (now : ℕ) (block : List ℕ) (floor : ℕ)
    → floor ≤ p.spent
    → IsTimely r floor (follows r p burst octets now block)
unfolding follows
follows-timely r p burst octets now block floor h =
    goes-on-timely r (weighed (record p { phase = Listening }) (burst ++ octets)) (burst ++ octets)
    now
    block floor h

pub hears-echo-timely : (r : Ruled) (p : Doing) (burst octets rest : List ℕ) (now : ℕ) (block : List ℕ) (floor : ℕ)
    → floor ≤ p.spent
    → IsTimely r floor (hears_echo r p burst octets rest now block)
unfolding hears_echo
hears-echo-timely r p burst octets rest now block floor h =
    either (IsTimely r floor) (nat_lt (length octets) (length rest)) _ _
    (λ _. waits-timely r (record p { own = min (p.own + length octets) most_counted }) burst (echo_wait r block) now
    floor h)
    (λ _. follows-timely r p burst (drop (length rest) octets) now block floor h)

pub echoed-timely : (r : Ruled) (p : Doing) (burst octets : List ℕ) (now : ℕ) (block : List ℕ) (floor : ℕ)
    → floor ≤ p.spent
    → IsTimely r floor (echoed r p burst octets now block)
unfolding echoed
echoed-timely r p burst octets now block floor h =
    either (IsTimely r floor) (agrees octets (unheard p block)) _ _
    (λ _. hears-echo-timely r p burst octets (unheard p block) now block floor h)
    (λ _. misses-timely r p burst now floor h)

pub met-timely : (r : Ruled) (p : Doing) (burst octets : List ℕ) (is_garbled : Bool) (now : ℕ) (block : List ℕ)
    (floor : ℕ) → floor ≤ p.spent
    → IsTimely r floor (met r p burst octets is_garbled now block)
unfolding met
met-timely r p burst octets is_garbled now block floor h =
    either (IsTimely r floor) is_garbled _ _ (λ _. misses-timely r p burst now floor h)
    (λ _. echoed-timely r p burst octets now block floor h)

-- more of the time is certainly over
pub more-spent : (p : Doing) (time floor : ℕ) → floor ≤ p.spent → floor ≤ forever → floor ≤ (spends p time).spent
more-spent p time floor h most = omega (arith, h, most)

pub sent-in-timely : (r : Ruled) (p : Doing) (burst : List ℕ) (now : ℕ) (block : List ℕ) (floor : ℕ) → floor ≤ p.spent
    → floor ≤ forever
    → IsTimely r floor (sent_in r p burst now block)
unfolding sent_in
sent-in-timely r p burst now block floor h x =
    either (IsTimely r floor) r.has_echo _ _
    (λ _. waits-timely r (record p { phase = Echoing }) burst (echo_wait r block) now floor h)
    (λ _. goes-on-timely r (record (spends p (time_of r (length block))) { phase = Listening }) burst now block floor
    (more-spent p (time_of r (length block)) floor h x))

pub sent-timely : (r : Ruled) (p : Doing) (burst : List ℕ) (now : ℕ) (block : List ℕ) (floor : ℕ) → floor ≤ p.spent
    → floor ≤ forever
    → IsTimely r floor (sent r p burst now block)
unfolding sent
sent-timely r p burst now block floor h x =
    sent-in-timely r (timed p (took p now) (takes r block)) burst now block floor h x

pub unechoed-timely : (r : Ruled) (p : Doing) (burst : List ℕ) (now : ℕ) (floor : ℕ) → floor ≤ p.spent
    → IsTimely r floor (unechoed r p burst now)
unfolding unechoed
unechoed-timely r p burst now floor h =
    either (IsTimely r floor) (p.own == 0) _ _
    (λ _. still-timely r (record p { phase = Idle }) burst Failed floor h (λ t e. cc))
    (λ _. misses-timely r p burst now floor h)

pub awaits-timely : (r : Ruled) (p : Doing) (now : ℕ) (floor : ℕ) → floor ≤ p.spent
    → IsTimely r floor (awaits r p now)
unfolding awaits
awaits-timely r p now floor h =
    waits-timely r (record p { phase = Listening; is_spoiled = false; is_whole = false; began_at = Unknown }) [] p.first
    now
    floor h

pub missed-timely : (r : Ruled) (p : Doing) (burst : List ℕ) (now : ℕ) (floor : ℕ) → floor ≤ p.spent
    → IsTimely r floor (missed r p burst now)
unfolding missed
missed-timely r p burst now floor h =
    either (IsTimely r floor) r.is_card _ _ (λ _. awaits-timely r p now floor h)
    (λ _. still-timely r (record p { phase = Idle }) burst Quiet floor h (λ t e. cc))

pub cleared-spent : (r : Ruled) (p : Doing) → (cleared r p).spent ≡ p.spent
cleared-spent r p = either (λ (q : Doing). q.spent ≡ p.spent) (nat_le p.owed (silence_in p.phase r p)) _ _ (λ _. refl)
    (λ _. refl)

pub silent-in-timely : (phase : Phase) (r : Ruled) (p : Doing) (burst : List ℕ) (now : ℕ) (block : List ℕ) (floor : ℕ)
    → floor ≤ p.spent → IsTimely r floor (silent_in phase r p burst now block)
unfolding silent_in
silent-in-timely Late r p burst now block floor h = talks-timely r p burst now floor h
silent-in-timely Clearing r p burst now block floor h =
    talks-timely r (cleared r p) burst now floor (rw (cleared-spent r p) h)
silent-in-timely Settling r p burst now block floor h = says-timely r (cleared r p) now floor (rw (cleared-spent r p) h)
silent-in-timely Echoing r p burst now block floor h = unechoed-timely r p burst now floor h
silent-in-timely Listening r p burst now block floor h = ends-timely r p burst block floor h
silent-in-timely Missing r p burst now block floor h =
    missed-timely r (cleared r p) burst now floor (rw (cleared-spent r p) h)
silent-in-timely phase r p burst now block floor h = still-timely r p burst Order floor h (λ t e. cc)

pub came-in-timely : (phase : Phase) (r : Ruled) (p : Doing) (burst octets : List ℕ) (is_garbled : Bool) (now : ℕ)
    (block : List ℕ) (floor : ℕ) → floor ≤ p.spent
    → IsTimely r floor (came_in phase r p burst octets is_garbled now block)
unfolding came_in
came-in-timely Late r p burst octets is_garbled now block floor h = drops-timely r p Clearing burst now floor h
came-in-timely Clearing r p burst octets is_garbled now block floor h =
    dropped-timely r p burst (length octets) now floor h
came-in-timely Settling r p burst octets is_garbled now block floor h =
    dropped-timely r p burst (length octets) now floor h
came-in-timely Missing r p burst octets is_garbled now block floor h =
    dropped-timely r p burst (length octets) now floor h
came-in-timely Echoing r p burst octets is_garbled now block floor h =
    met-timely r p burst octets is_garbled now block floor h
came-in-timely Listening r p burst octets is_garbled now block floor h =
    hears-timely r p burst octets is_garbled now block floor h
came-in-timely phase r p burst octets is_garbled now block floor h =
    still-timely r p burst Order floor h (λ t e. cc)

pub left-spent : (phase : Phase) (r : Ruled) (p : Doing) (burst : List ℕ) → (left_in phase r p burst).spent ≡ p.spent
left-spent Listening r p burst = refl
left-spent phase r p burst = refl

pub used-up-timely : (r : Ruled) (p : Doing) (burst : List ℕ) (floor : ℕ) → floor ≤ p.spent
    → IsTimely r floor (used_up r p burst)
unfolding used_up
used-up-timely r p burst floor h =
    still-timely r (record (left_in p.phase r p burst) { phase = Idle }) burst UsedUp floor
    (rw (left-spent p.phase r p burst) h)
    (λ t e. cc)

pub failed-timely : (r : Ruled) (p : Doing) (burst : List ℕ) (floor : ℕ) → floor ≤ p.spent
    → IsTimely r floor (failed r p burst)
unfolding failed
failed-timely r p burst floor h =
    still-timely r (record (left_in p.phase r p burst) { phase = Idle }) burst Failed floor
    (rw (left-spent p.phase r p burst) h)
    (λ t e. cc)

pub silent-timely : (r : Ruled) (p : Doing) (burst : List ℕ) (now : ℕ) (block : List ℕ) (floor : ℕ)
    → floor ≤ (spends p p.asked).spent → IsTimely r floor (silent r p burst now block)
unfolding silent
silent-timely r p burst now block floor h =
    either (IsTimely r floor) p.is_cut _ _ (λ _. used-up-timely r (spends p p.asked) burst floor h)
    (λ _. silent-in-timely p.phase r (spends p p.asked) burst now block floor h)

pub takes-in-timely : (r : Ruled) (p : Doing) (burst octets : List ℕ) (is_garbled : Bool) (now : ℕ) (block : List ℕ)
    (floor : ℕ) → floor ≤ p.spent
    → IsTimely r floor (takes_in r p burst octets is_garbled now block)
unfolding takes_in
takes-in-timely r p burst octets is_garbled now block floor h =
    either (IsTimely r floor) (has_none_left p) _ _ (λ _. used-up-timely r p burst floor h)
    (λ _. came-in-timely p.phase r p burst octets is_garbled now block floor h)

pub came-timely : (r : Ruled) (p : Doing) (burst octets : List ℕ) (is_garbled : Bool) (now : ℕ) (block : List ℕ)
    (floor : ℕ) → floor ≤ p.spent → floor ≤ forever → 1 ≤ length octets
    → IsTimely r floor (came r p burst octets is_garbled now block)
unfolding came
came-timely r p burst [] is_garbled now block floor h x some = let bad : ⊥ = omega (arith, some) in absurd bad
came-timely r p burst (octet ∷ octets) is_garbled now block floor h x some =
    takes-in-timely r (spends p (time_of r (length (octet ∷ octets)))) burst (octet ∷ octets) is_garbled now block floor
    (more-spent p (time_of r (length (octet ∷ octets))) floor h x)

-- ---- the table

pub on-sent-timely : (r : Ruled) (p : Doing) (burst : List ℕ) (now : ℕ) (block : List ℕ) (floor : ℕ)
    → floor ≤ p.spent → floor ≤ forever → IsTimely r floor (on_sent r p burst now block)
unfolding on_sent
on-sent-timely r p burst now block floor h x =
    either (IsTimely r floor) (is_sending p.phase) _ _ (λ _. sent-timely r p burst now block floor h x)
    (λ _. still-timely r p burst Order floor h (λ t e. cc))

pub on-came-timely : (r : Ruled) (p : Doing) (burst octets : List ℕ) (is_garbled : Bool) (now : ℕ) (block : List ℕ)
    (floor : ℕ) → floor ≤ p.spent → floor ≤ forever → 1 ≤ length octets
    → IsTimely r floor (on_came r p burst octets is_garbled now block)
unfolding on_came
on-came-timely r p burst octets is_garbled now block floor h x some =
    either (IsTimely r floor) (is_waiting p.phase) _ _
    (λ _. came-timely r p burst octets is_garbled now block floor h x some)
    (λ _. still-timely r p burst Order floor h (λ t e. cc))

-- a silence as long as the wait adds to the time
pub on-silent-timely : (r : Ruled) (p : Doing) (burst : List ℕ) (now : ℕ) (block : List ℕ) (floor : ℕ)
    → floor ≤ (spends p p.asked).spent
    → IsTimely r floor (on_silent r p burst now block) ⊎ (on_silent r p burst now block ≡ step_of p burst Order)
unfolding on_silent
on-silent-timely r p burst now block floor h =
    either (λ s. IsTimely r floor s ⊎ (s ≡ step_of p burst Order)) (is_waiting p.phase) _ _
    (λ _. inl (silent-timely r p burst now block floor h)) (λ _. inr refl)

pub on-failed-timely : (r : Ruled) (p : Doing) (burst : List ℕ) (floor : ℕ) → floor ≤ p.spent
    → IsTimely r floor (on_failed r p burst)
unfolding on_failed
on-failed-timely r p burst floor h =
    either (IsTimely r floor) (is_idle p.phase) _ _ (λ _. still-timely r p burst Order floor h (λ t e. cc))
    (λ _. failed-timely r p burst floor h)

-- a number is only one of those that are compared with it
pub not-silence : (event n : ℕ) → (event == n) ≡ true → (n == 3) ≡ false → (event == 3) ≡ false
not-silence event n e other = let same : event ≡ n = eqb-true event n e in rw same other

-- What happened counts at least this much time: after a silence the wait too.
pub stepped-timely : (event : ℕ) (r : Ruled) (p : Doing) (burst octets : List ℕ) (now : ℕ) (block : List ℕ)
    (floor : ℕ) → ((event == 3) ≡ false → floor ≤ p.spent) → ((event == 3) ≡ true → floor ≤ (spends p p.asked).spent)
    → floor ≤ forever → ((event == 1) ≡ true → 1 ≤ length octets) → ((event == 2) ≡ true → 1 ≤ length octets)
    → IsTimely r floor (stepped event r p burst octets now block)
    ⊎ (stepped event r p burst octets now block ≡ step_of p burst Order)
stepped-timely event r p burst octets now block floor other silence x came garbled =
    let P : Step → Type 0 = λ s. IsTimely r floor s ⊎ (s ≡ step_of p burst Order) in
    either P (event == 0) _ _ (λ e. inl (on-sent-timely r p burst now block floor (other (not-silence event 0 e refl))
    x))
    (λ _. either P (event == 1) _ _
    (λ e. inl (on-came-timely r p burst octets false now block floor (other (not-silence event 1 e refl)) x (came e)))
    (λ _. either P (event == 2) _ _
    (λ e. inl (on-came-timely r p burst octets true now block floor (other (not-silence event 2 e refl)) x (garbled e)))
    (λ _. either P (event == 3) _ _ (λ e. on-silent-timely r p burst now block floor (silence e))
    (λ _. either P (event == 4) _ _
    (λ e. inl (on-failed-timely r p burst floor (other (not-silence event 4 e refl)))) (λ _. inr refl)))))
