-- Steps, from what the parts of a call leave.
use Rattle.std.specs.List.{starts_with}
use Rattle.std.proofs.Common.{◌&&◌, not, length, ◌<◌, ◌≤◌, nat_eq, slice_index, ◌≡◌, ℕ, List, [], ◌∷◌, take, Bool, true, false, ◌∙◌, refl, sym, ap, arith}
pub use Rattle.std.proofs.lemmas.Bool.{cond-true as yes, cond-false as no}
use Rattle.session_core.specs.declared.event.Next.TheVariants.{Heard}
use Rattle.line_core.specs.declared.framing.Framer.{Framer}
use Rattle.line_core.specs.Bursts.{HasHeard, handed}
use Rattle.session_core.specs.declared.event.Next.{Next}
use Rattle.session_core.specs.Wire.{Ruled, Doing, spends, time_of, takes_in, came, Step, step_of, IsStep, is_echo, owed_after, counted, judges, judged, stops, hands, is_refused, broken, misses, unheard, agrees, hears_echo, echoed, on_came, on_silent, interrupted, forever, last_look}

-- a step whose parts these are
pub is_step : (step : Step) (p : Doing) (burst : List ℕ) (next : Next) (framer : Framer)
    → step ≡ step_of p burst next → HasHeard framer burst → IsStep step p framer next
is_step step p burst next framer e h = rw e record { progress = refl; burst = h; next_is = refl }

-- nothing came
pub none-heard : (framer : Framer) (burst : List ℕ) → HasHeard framer burst → framer.count ≡ 0 → burst ≡ []
none-heard framer [] h none = refl
none-heard framer (octet ∷ octets) h none = let bad : ⊥ = omega (arith, h.counted, none) in elim bad [ ]

-- a burst is judged by its parts
pub judged-by : (r : Ruled) (p : Doing) (burst block octets : List ℕ) (echo : Bool) (owed : ℕ) (after : Doing)
    (step : Step) → octets ≡ take handed burst → echo ≡ is_echo r p octets block → owed ≡ owed_after r p burst
    → after ≡ counted p owed echo → judges r after burst octets echo ≡ step → judged r p burst block ≡ step
unfolding judged
judged-by r p burst block octets echo owed after step e1 e2 e3 e4 e =
    rw e1 at (rw e2 at (rw e3 at (rw e4 at e)))

-- a burst that counts as damaged
pub hands-refused : (r : Ruled) (p : Doing) (burst octets : List ℕ) (echo b : Bool) (owed : ℕ) (step : Step)
    → b ≡ is_refused r p octets echo → b ≡ true → owed ≡ broken r p
    → stops (record p { owed = owed; is_spoiled = true }) burst Heard ≡ step → hands r p burst octets echo ≡ step
unfolding hands
hands-refused r p burst octets echo b owed step known e is g =
    yes (is_refused r p octets echo) (stops (record p { owed = broken r p; is_spoiled = true }) burst Heard)
    (stops p burst Heard) (sym known ∙ e) ∙ rw is at g

-- and one that doesn't
pub hands-taken : (r : Ruled) (p : Doing) (burst octets : List ℕ) (echo b : Bool) (step : Step)
    → b ≡ is_refused r p octets echo → b ≡ false → stops p burst Heard ≡ step → hands r p burst octets echo ≡ step
unfolding hands
hands-taken r p burst octets echo b step known e g =
    no (is_refused r p octets echo) (stops (record p { owed = broken r p; is_spoiled = true }) burst Heard)
    (stops p burst Heard) (sym known ∙ e) ∙ g

-- the next octets of an echo came
pub echoed-on : (r : Ruled) (p p' : Doing) (burst octets rest : List ℕ) (now : ℕ) (block : List ℕ) (b : Bool)
    (framer : Framer) (next : Next) → rest ≡ unheard p block → b ≡ agrees octets rest → b ≡ true
    → IsStep (hears_echo r p burst octets rest now block) p' framer next
    → IsStep (echoed r p burst octets now block) p' framer next
unfolding echoed
echoed-on r p p' burst octets rest now block b framer next is known so g =
    let on : agrees octets (unheard p block) ≡ true = ap (agrees octets) (sym is) ∙ sym known ∙ so in
    rw on (rw is at g)

-- other octets came
pub echoed-off : (r : Ruled) (p p' : Doing) (burst octets rest : List ℕ) (now : ℕ) (block : List ℕ) (b : Bool)
    (framer : Framer) (next : Next) → rest ≡ unheard p block → b ≡ agrees octets rest → b ≡ false
    → IsStep (misses r p burst now) p' framer next → IsStep (echoed r p burst octets now block) p' framer next
unfolding echoed
echoed-off r p p' burst octets rest now block b framer next is known so g =
    let off : agrees octets (unheard p block) ≡ false = ap (agrees octets) (sym is) ∙ sym known ∙ so in
    rw off g

-- octets came, one or more
pub came-some : (r : Ruled) (p after : Doing) (burst octets : List ℕ) (is_garbled : Bool) (now : ℕ) (block : List ℕ)
    (p' : Doing) (framer : Framer) (next : Next) → 0 < length octets
    → after ≡ spends p (time_of r (length octets))
    → IsStep (takes_in r after burst octets is_garbled now block) p' framer next
    → IsStep (came r p burst octets is_garbled now block) p' framer next
unfolding came
came-some r p after burst [] is_garbled now block p' framer next some e g =
    let bad : ⊥ = omega (arith, some) in elim bad [ ]
came-some r p after burst (octet ∷ octets) is_garbled now block p' framer next some e g = rw e at g

-- octets that begin with a block begin with its PCB
pub second_equal : (octets first : List ℕ) → starts_with nat_eq octets first ≡ true → 2 ≤ length first
    → slice_index octets 1 ≡ slice_index first 1
second_equal octets [] e two = let bad : ⊥ = omega (arith, two) in elim bad [ ]
second_equal octets (y ∷ []) e two = let bad : ⊥ = omega (arith, two) in elim bad [ ]
second_equal [] (y ∷ z ∷ first) e two = grind (arith)
second_equal (x ∷ []) (y ∷ z ∷ first) e two = grind (arith)
second_equal (x ∷ w ∷ octets) (y ∷ z ∷ first) e two = grind (arith)

not-and : (a b : Bool) → (not a && b) ≡ true → (a ≡ false) × (b ≡ true)
not-and false true e = (refl, refl)
not-and false false e = (refl, e)
not-and true true e = (sym e, refl)
not-and true false e = (sym e, e)

-- an interrupt of a last look ends the wait as a silence does
pub looks-last : (r : Ruled) (p : Doing) (burst : List ℕ) (is_garbled : Bool) (now : ℕ) (block : List ℕ)
    → (not (nat_eq p.asked forever) && nat_eq p.interrupts last_look) ≡ true
    → on_came r p burst [] is_garbled now block ≡ on_silent r p burst now block
unfolding on_came came interrupted on_silent
looks-last r p burst is_garbled now block e =
    let both = not-and (nat_eq p.asked forever) (nat_eq p.interrupts last_look) e in
    rw both.0 (rw both.1 refl)
