-- A block that isn't sent yet stays unsent until the device sends it, and a session that hears sends nothing.
use Rattle.std.proofs.Common.{◌≡◌, ℕ, List, [], ◌∷◌, length, Bool, true, false, ◌&&◌, ◌==◌, nat_le, nat_lt, refl}
use Rattle.session_core.specs.declared.event.Next.{Next}
use Rattle.session_core.specs.declared.event.Next.TheVariants.{Send, Wait, Heard, Quiet}
use Rattle.session_core.specs.declared.progress.Phase.{Phase}
use Rattle.session_core.specs.declared.progress.Phase.TheVariants.{Idle, Late, Clearing, Settling, Sending, Echoing, Listening, Missing}
use Rattle.session_core.specs.Wire.{Ruled, Doing, Step, dropping, drops, dropped, says, settles, talks, hands, judges, judged, ends, goes_on, hears, misses, follows, hears_echo, echoed, unheard, met, sent_in, sent, unechoed, missed, cleared, silent_in, came_in, used_up, silent, failed, takes_in, came, on_sent, on_came, on_silent, on_failed, begins, awaits, serves, is_sending, is_used_up, has_none_left, is_waiting, is_idle, is_refused, is_certain, is_over, agrees}
use Rattle.session_laws.specs.Serving.{is_unsent}
use Rattle.session_laws.proofs.Steps.{either}

-- a step of a session whose block isn't sent yet
abbrev pub StaysUnsent : Next → Phase → Type 0
StaysUnsent Send phase = Unit {0}
StaysUnsent (Wait time) phase = is_unsent phase ≡ true
StaysUnsent Heard phase = ⊥
StaysUnsent Quiet phase = ⊥
StaysUnsent next phase = Unit {0}

-- a step of a session that hears
abbrev pub StaysHearing : Next → Phase → Type 0
StaysHearing Send phase = ⊥
StaysHearing (Wait time) phase = is_unsent phase ≡ false
StaysHearing next phase = Unit {0}

pub record Unsent (step : Step) : Type 0 where
  pub stays : StaysUnsent step.next step.progress.phase

pub record Hearing (step : Step) : Type 0 where
  pub stays : StaysHearing step.next step.progress.phase

-- ---- the block isn't sent yet

pub drops-unsent : (r : Ruled) (p : Doing) (phase : Phase) (burst : List ℕ) (now : ℕ) → is_unsent phase ≡ true
    → Unsent (drops r p phase burst now)
unfolding drops dropping
drops-unsent r p phase burst now e = record { stays = e }

pub dropped-unsent : (r : Ruled) (p : Doing) (burst : List ℕ) (count now : ℕ) → is_unsent p.phase ≡ true
    → Unsent (dropped r p burst count now)
unfolding dropped dropping
dropped-unsent r p burst count now e = either Unsent (nat_le p.left count) _ _ (λ _. record { stays = tt })
    (λ _. record { stays = e })

pub says-unsent : (p : Doing) (now : ℕ) → Unsent (says p now)
unfolding says
says-unsent p now = record { stays = tt }

pub settles-unsent : (r : Ruled) (p : Doing) (burst : List ℕ) (now : ℕ) → Unsent (settles r p burst now)
unfolding settles
settles-unsent r p burst now =
    either Unsent (p.owed == 0) _ _ (λ _. says-unsent p now) (λ _. drops-unsent r p Settling burst now refl)

pub talks-unsent : (r : Ruled) (p : Doing) (burst : List ℕ) (now : ℕ) → Unsent (talks r p burst now)
unfolding talks
talks-unsent r p burst now = either Unsent (is_used_up r p now) _ _ (λ _. record { stays = tt })
    (λ _. settles-unsent r _ burst now)

pub begins-unsent : (r : Ruled) (p : Doing) (burst : List ℕ) (now : ℕ) → Unsent (begins r p burst now)
unfolding begins
begins-unsent r p burst now = record { stays = refl }

pub failed-unsent : (r : Ruled) (p : Doing) (burst : List ℕ) → Unsent (failed r p burst)
unfolding failed
failed-unsent r p burst = record { stays = tt }

pub used-up-unsent : (r : Ruled) (p : Doing) (burst : List ℕ) → Unsent (used_up r p burst)
unfolding used_up
used-up-unsent r p burst = record { stays = tt }

pub silent-in-unsent : (phase : Phase) (r : Ruled) (p : Doing) (burst : List ℕ) (now : ℕ) (block : List ℕ)
    → is_unsent phase ≡ true → Unsent (silent_in phase r p burst now block)
unfolding silent_in
silent-in-unsent Late r p burst now block e = talks-unsent r p burst now
silent-in-unsent Clearing r p burst now block e = talks-unsent r (cleared r p) burst now
silent-in-unsent Settling r p burst now block e = says-unsent (cleared r p) now
silent-in-unsent Sending r p burst now block e = record { stays = tt }
silent-in-unsent phase r p burst now block e = cc

pub silent-unsent : (r : Ruled) (p : Doing) (burst : List ℕ) (now : ℕ) (block : List ℕ) → is_unsent p.phase ≡ true
    → Unsent (silent r p burst now block)
unfolding silent
silent-unsent r p burst now block e =
    either Unsent p.is_cut _ _ (λ _. used-up-unsent r _ burst) (λ _. silent-in-unsent p.phase r _ burst now block e)

pub came-in-unsent : (phase : Phase) (r : Ruled) (p : Doing) (burst octets : List ℕ) (is_garbled : Bool) (now : ℕ)
    (block : List ℕ) → p.phase ≡ phase → is_unsent phase ≡ true
    → Unsent (came_in phase r p burst octets is_garbled now block)
unfolding came_in
came-in-unsent Late r p burst octets is_garbled now block is e = drops-unsent r p Clearing burst now refl
came-in-unsent Clearing r p burst octets is_garbled now block is e = dropped-unsent r p burst _ now (rw is refl)
came-in-unsent Settling r p burst octets is_garbled now block is e = dropped-unsent r p burst _ now (rw is refl)
came-in-unsent Sending r p burst octets is_garbled now block is e = record { stays = tt }
came-in-unsent phase r p burst octets is_garbled now block is e = cc

pub takes-in-unsent : (r : Ruled) (p : Doing) (burst octets : List ℕ) (is_garbled : Bool) (now : ℕ)
    (block : List ℕ) → is_unsent p.phase ≡ true → Unsent (takes_in r p burst octets is_garbled now block)
unfolding takes_in
takes-in-unsent r p burst octets is_garbled now block e =
    either Unsent (has_none_left p) _ _ (λ _. used-up-unsent r p burst)
    (λ _. came-in-unsent p.phase r p burst octets is_garbled now block refl e)

pub came-unsent : (r : Ruled) (p : Doing) (burst : List ℕ) (octet : ℕ) (octets : List ℕ) (is_garbled : Bool)
    (now : ℕ) (block : List ℕ) → is_unsent p.phase ≡ true
    → Unsent (came r p burst (octet ∷ octets) is_garbled now block)
unfolding came
came-unsent r p burst octet octets is_garbled now block e =
    takes-in-unsent r _ burst (octet ∷ octets) is_garbled now block e

pub on-silent-unsent : (r : Ruled) (p : Doing) (burst : List ℕ) (now : ℕ) (block : List ℕ)
    → is_unsent p.phase ≡ true → Unsent (on_silent r p burst now block)
unfolding on_silent
on-silent-unsent r p burst now block e = either Unsent (is_waiting p.phase) _ _
    (λ _. silent-unsent r p burst now block e) (λ _. record { stays = tt })

pub on-came-unsent : (r : Ruled) (p : Doing) (burst : List ℕ) (octet : ℕ) (octets : List ℕ) (is_garbled : Bool)
    (now : ℕ) (block : List ℕ) → is_unsent p.phase ≡ true
    → Unsent (on_came r p burst (octet ∷ octets) is_garbled now block)
unfolding on_came
on-came-unsent r p burst octet octets is_garbled now block e =
    either Unsent (is_waiting p.phase) _ _ (λ _. came-unsent r p burst octet octets is_garbled now block e)
    (λ _. record { stays = tt })

pub on-failed-unsent : (r : Ruled) (p : Doing) (burst : List ℕ) → Unsent (on_failed r p burst)
unfolding on_failed
on-failed-unsent r p burst = either Unsent (is_idle p.phase) _ _ (λ _. record { stays = tt })
    (λ _. failed-unsent r p burst)

-- ---- the session hears

pub drops-hearing : (r : Ruled) (p : Doing) (phase : Phase) (burst : List ℕ) (now : ℕ) → is_unsent phase ≡ false
    → Hearing (drops r p phase burst now)
unfolding drops dropping
drops-hearing r p phase burst now e = record { stays = e }

pub dropped-hearing : (r : Ruled) (p : Doing) (burst : List ℕ) (count now : ℕ) → is_unsent p.phase ≡ false
    → Hearing (dropped r p burst count now)
unfolding dropped dropping
dropped-hearing r p burst count now e = either Hearing (nat_le p.left count) _ _ (λ _. record { stays = tt })
    (λ _. record { stays = e })

pub hands-hearing : (r : Ruled) (p : Doing) (burst octets : List ℕ) (echo : Bool)
    → Hearing (hands r p burst octets echo)
unfolding hands
hands-hearing r p burst octets echo = either Hearing (is_refused r p octets echo) _ _ (λ _. record { stays = tt })
    (λ _. record { stays = tt })

pub judges-hearing : (r : Ruled) (p : Doing) (burst octets : List ℕ) (echo : Bool)
    → Hearing (judges r p burst octets echo)
unfolding judges
judges-hearing r p burst octets echo = either Hearing (echo && is_certain p octets) _ _ (λ _. record { stays = tt })
    (λ _. hands-hearing r p burst octets echo)

pub judged-hearing : (r : Ruled) (p : Doing) (burst block : List ℕ) → Hearing (judged r p burst block)
unfolding judged
judged-hearing r p burst block = judges-hearing r _ burst _ _

pub ends-hearing : (r : Ruled) (p : Doing) (burst block : List ℕ) → Hearing (ends r p burst block)
unfolding ends
ends-hearing r p [] block = record { stays = tt }
ends-hearing r p (octet ∷ octets) block = judged-hearing r p (octet ∷ octets) block

pub goes-on-hearing : (r : Ruled) (p : Doing) (burst : List ℕ) (now : ℕ) (block : List ℕ)
    → is_unsent p.phase ≡ false → Hearing (goes_on r p burst now block)
unfolding goes_on
goes-on-hearing r p burst now block e = either Hearing (is_over r p burst) _ _ (λ _. judged-hearing r p burst block)
    (λ _. record { stays = e })

pub hears-hearing : (r : Ruled) (p : Doing) (burst octets : List ℕ) (is_garbled : Bool) (now : ℕ) (block : List ℕ)
    → is_unsent p.phase ≡ false → Hearing (hears r p burst octets is_garbled now block)
unfolding hears
hears-hearing r p [] octets is_garbled now block e = goes-on-hearing r _ _ now block e
hears-hearing r p (first ∷ burst) octets is_garbled now block e = goes-on-hearing r _ _ now block e

pub misses-hearing : (r : Ruled) (p : Doing) (burst : List ℕ) (now : ℕ) → Hearing (misses r p burst now)
unfolding misses
misses-hearing r p burst now = drops-hearing r p Missing burst now refl

pub follows-hearing : (r : Ruled) (p : Doing) (burst octets : List ℕ) (now : ℕ) (block : List ℕ)
    → Hearing (follows r p burst octets now block)
unfolding follows
follows-hearing r p burst octets now block = goes-on-hearing r _ _ now block refl

pub hears-echo-hearing : (r : Ruled) (p : Doing) (burst octets rest : List ℕ) (now : ℕ) (block : List ℕ)
    → is_unsent p.phase ≡ false → Hearing (hears_echo r p burst octets rest now block)
unfolding hears_echo
hears-echo-hearing r p burst octets rest now block e =
    either Hearing (nat_lt (length octets) (length rest)) _ _ (λ _. record { stays = e })
    (λ _. follows-hearing r p burst _ now block)

pub echoed-hearing : (r : Ruled) (p : Doing) (burst octets : List ℕ) (now : ℕ) (block : List ℕ)
    → is_unsent p.phase ≡ false → Hearing (echoed r p burst octets now block)
unfolding echoed
echoed-hearing r p burst octets now block e =
    either Hearing (agrees octets (unheard p block)) _ _ (λ _. hears-echo-hearing r p burst octets _ now block e)
    (λ _. misses-hearing r p burst now)

pub met-hearing : (r : Ruled) (p : Doing) (burst octets : List ℕ) (is_garbled : Bool) (now : ℕ) (block : List ℕ)
    → is_unsent p.phase ≡ false → Hearing (met r p burst octets is_garbled now block)
unfolding met
met-hearing r p burst octets is_garbled now block e =
    either Hearing is_garbled _ _ (λ _. misses-hearing r p burst now)
    (λ _. echoed-hearing r p burst octets now block e)

pub sent-in-hearing : (r : Ruled) (p : Doing) (burst : List ℕ) (now : ℕ) (block : List ℕ)
    → Hearing (sent_in r p burst now block)
unfolding sent_in
sent-in-hearing r p burst now block =
    either Hearing r.has_echo _ _ (λ _. record { stays = refl }) (λ _. goes-on-hearing r _ burst now block refl)

pub sent-hearing : (r : Ruled) (p : Doing) (burst : List ℕ) (now : ℕ) (block : List ℕ)
    → Hearing (sent r p burst now block)
unfolding sent
sent-hearing r p burst now block = sent-in-hearing r _ burst now block

pub unechoed-hearing : (r : Ruled) (p : Doing) (burst : List ℕ) (now : ℕ) → Hearing (unechoed r p burst now)
unfolding unechoed
unechoed-hearing r p burst now = either Hearing (p.own == 0) _ _ (λ _. record { stays = tt })
    (λ _. misses-hearing r p burst now)

pub awaits-hearing : (r : Ruled) (p : Doing) (now : ℕ) → Hearing (awaits r p now)
unfolding awaits
awaits-hearing r p now = record { stays = refl }

pub serves-hearing : (r : Ruled) (p : Doing) (burst : List ℕ) (now : ℕ) → Hearing (serves r p burst now)
unfolding serves
serves-hearing r p burst now =
    either Hearing (nat_lt r.bgt p.owed) _ _ (λ _. drops-hearing r p Missing burst now refl)
    (λ _. awaits-hearing r p now)

pub missed-hearing : (r : Ruled) (p : Doing) (burst : List ℕ) (now : ℕ) → Hearing (missed r p burst now)
unfolding missed
missed-hearing r p burst now = either Hearing r.is_card _ _ (λ _. awaits-hearing r p now) (λ _. record { stays = tt })

pub failed-hearing : (r : Ruled) (p : Doing) (burst : List ℕ) → Hearing (failed r p burst)
unfolding failed
failed-hearing r p burst = record { stays = tt }

pub used-up-hearing : (r : Ruled) (p : Doing) (burst : List ℕ) → Hearing (used_up r p burst)
unfolding used_up
used-up-hearing r p burst = record { stays = tt }

pub silent-in-hearing : (phase : Phase) (r : Ruled) (p : Doing) (burst : List ℕ) (now : ℕ) (block : List ℕ)
    → is_unsent phase ≡ false → Hearing (silent_in phase r p burst now block)
unfolding silent_in
silent-in-hearing Idle r p burst now block e = record { stays = tt }
silent-in-hearing Echoing r p burst now block e = unechoed-hearing r p burst now
silent-in-hearing Listening r p burst now block e = ends-hearing r p burst block
silent-in-hearing Missing r p burst now block e = missed-hearing r (cleared r p) burst now
silent-in-hearing phase r p burst now block e = cc

pub silent-hearing : (r : Ruled) (p : Doing) (burst : List ℕ) (now : ℕ) (block : List ℕ)
    → is_unsent p.phase ≡ false → Hearing (silent r p burst now block)
unfolding silent
silent-hearing r p burst now block e =
    either Hearing p.is_cut _ _ (λ _. used-up-hearing r _ burst)
    (λ _. silent-in-hearing p.phase r _ burst now block e)

pub came-in-hearing : (phase : Phase) (r : Ruled) (p : Doing) (burst octets : List ℕ) (is_garbled : Bool) (now : ℕ)
    (block : List ℕ) → p.phase ≡ phase → is_unsent phase ≡ false
    → Hearing (came_in phase r p burst octets is_garbled now block)
unfolding came_in
came-in-hearing Idle r p burst octets is_garbled now block is e = record { stays = tt }
came-in-hearing Echoing r p burst octets is_garbled now block is e =
    met-hearing r p burst octets is_garbled now block (rw is refl)
came-in-hearing Listening r p burst octets is_garbled now block is e =
    hears-hearing r p burst octets is_garbled now block (rw is refl)
came-in-hearing Missing r p burst octets is_garbled now block is e = dropped-hearing r p burst _ now (rw is refl)
came-in-hearing phase r p burst octets is_garbled now block is e = cc

pub takes-in-hearing : (r : Ruled) (p : Doing) (burst octets : List ℕ) (is_garbled : Bool) (now : ℕ)
    (block : List ℕ) → is_unsent p.phase ≡ false → Hearing (takes_in r p burst octets is_garbled now block)
unfolding takes_in
takes-in-hearing r p burst octets is_garbled now block e =
    either Hearing (has_none_left p) _ _ (λ _. used-up-hearing r p burst)
    (λ _. came-in-hearing p.phase r p burst octets is_garbled now block refl e)

pub came-hearing : (r : Ruled) (p : Doing) (burst : List ℕ) (octet : ℕ) (octets : List ℕ) (is_garbled : Bool)
    (now : ℕ) (block : List ℕ) → is_unsent p.phase ≡ false
    → Hearing (came r p burst (octet ∷ octets) is_garbled now block)
unfolding came
came-hearing r p burst octet octets is_garbled now block e =
    takes-in-hearing r _ burst (octet ∷ octets) is_garbled now block e

pub on-silent-hearing : (r : Ruled) (p : Doing) (burst : List ℕ) (now : ℕ) (block : List ℕ)
    → is_unsent p.phase ≡ false → Hearing (on_silent r p burst now block)
unfolding on_silent
on-silent-hearing r p burst now block e =
    either Hearing (is_waiting p.phase) _ _ (λ _. silent-hearing r p burst now block e) (λ _. record { stays = tt })

pub on-came-hearing : (r : Ruled) (p : Doing) (burst : List ℕ) (octet : ℕ) (octets : List ℕ) (is_garbled : Bool)
    (now : ℕ) (block : List ℕ) → is_unsent p.phase ≡ false
    → Hearing (on_came r p burst (octet ∷ octets) is_garbled now block)
unfolding on_came
on-came-hearing r p burst octet octets is_garbled now block e =
    either Hearing (is_waiting p.phase) _ _ (λ _. came-hearing r p burst octet octets is_garbled now block e)
    (λ _. record { stays = tt })

pub on-failed-hearing : (r : Ruled) (p : Doing) (burst : List ℕ) → Hearing (on_failed r p burst)
unfolding on_failed
on-failed-hearing r p burst = either Hearing (is_idle p.phase) _ _ (λ _. record { stays = tt })
    (λ _. failed-hearing r p burst)

-- a block that was sent is followed by what the session hears
pub on-sent-hearing : (r : Ruled) (p : Doing) (burst : List ℕ) (now : ℕ) (block : List ℕ)
    → Hearing (on_sent r p burst now block)
unfolding on_sent
on-sent-hearing r p burst now block = either Hearing (is_sending p.phase) _ _ (λ _. sent-hearing r p burst now block)
    (λ _. record { stays = tt })
