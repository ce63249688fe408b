-- A burst that octets ended is a whole block if the marks of the line say so.
use Rattle.std.proofs.Common.{◌≡◌, ℕ, ◌<◌, ◌+◌, List, [], ◌∷◌, ◌++◌, length, take, min, Bool, true, false, not, ◌&&◌, nat_lt, nat_le, get_or, slice_index, refl, sym, ap, subst, ◌∙◌, ◌≤◌, ◌-◌, arith, inl, inr, replicate}
use Rattle.std.proofs.lemmas.Bool.{and_parts, cases_lt, eqb-true, not-true}
use Rattle.std.proofs.lemmas.List.{length-append, length-take, length-replicate, take-append-le, take_all, get_or-take}
use Rattle.octet_core.proofs.Choice.{either_if as either}
use Rattle.block_core.specs.Block.{IsWhole, is_whole}
use Rattle.line_core.specs.declared.framing.Framer.{Framer}
use Rattle.line_core.specs.Bursts.{HasHeard, handed, most_counted}
use Rattle.session_core.specs.declared.event.Next.{Next}
use Rattle.session_core.specs.declared.event.Next.TheVariants.{Heard}
use Rattle.session_core.specs.declared.progress.Phase.{Phase}
use Rattle.session_core.specs.declared.progress.Phase.TheVariants.{Idle, Late, Clearing, Settling, Sending, Echoing, Listening, Missing}
use Rattle.session_core.specs.Wire.{Ruled, Doing, Step, IsStep, dropping, drops, dropped, hands, judges, judged, goes_on, hears, misses, follows, hears_echo, echoed, unheard, met, came_in, used_up, takes_in, came, on_came, has_none_left, is_waiting, is_refused, is_certain, is_over, agrees}
use Rattle.session_core.specs.Lines.{HoldsWhole, held_over, ends_whole, stepped}

abbrev pub KnowsIf : Next → Bool → Bool → List ℕ → Type 0
KnowsIf Heard true false burst = is_whole burst ≡ true
KnowsIf next whole spoiled burst = Unit {0}

-- the step hands over no burst, or its marks don't call it whole, or it is
pub record Knows (step : Step) : Type 0 where
  pub known : KnowsIf step.next step.progress.is_whole step.progress.is_spoiled step.burst

knows-heard : (whole spoiled : Bool) (burst : List ℕ) → (whole ≡ true → is_whole burst ≡ true)
    → KnowsIf Heard whole spoiled burst
knows-heard true false burst f = f refl
knows-heard true true burst f = tt
knows-heard false spoiled burst f = tt

-- ---- a burst that is judged

hands-knows : (r : Ruled) (p : Doing) (burst octets : List ℕ) (echo : Bool)
    → (p.is_whole ≡ true → is_whole burst ≡ true) → Knows (hands r p burst octets echo)
unfolding hands
hands-knows r p burst octets echo marked = either Knows (is_refused r p octets echo) _ _
    (λ _. record { known = knows-heard p.is_whole true burst marked })
    (λ _. record { known = knows-heard p.is_whole p.is_spoiled burst marked })

judges-knows : (r : Ruled) (p : Doing) (burst octets : List ℕ) (echo : Bool)
    → (p.is_whole ≡ true → is_whole burst ≡ true) → Knows (judges r p burst octets echo)
unfolding judges
judges-knows r p burst octets echo marked = either Knows (echo && is_certain p octets) _ _
    (λ _. record { known = tt }) (λ _. hands-knows r p burst octets echo marked)

judged-knows : (r : Ruled) (p : Doing) (burst block : List ℕ) → (p.is_whole ≡ true → is_whole burst ≡ true)
    → Knows (judged r p burst block)
unfolding judged
judged-knows r p burst block marked = judges-knows r _ burst _ _ marked

goes-on-knows : (r : Ruled) (p : Doing) (burst : List ℕ) (now : ℕ) (block : List ℕ)
    → (p.is_whole ≡ true → is_whole burst ≡ true) → Knows (goes_on r p burst now block)
unfolding goes_on
goes-on-knows r p burst now block marked = either Knows (is_over r p burst) _ _
    (λ _. judged-knows r p burst block marked) (λ _. record { known = tt })

hears-knows : (r : Ruled) (p : Doing) (burst octets : List ℕ) (is_garbled : Bool) (now : ℕ) (block : List ℕ)
    → Knows (hears r p burst octets is_garbled now block)
unfolding hears
hears-knows r p burst octets is_garbled now block = goes-on-knows r _ _ now block (λ e. (and_parts _ _ e).1)

follows-knows : (r : Ruled) (p : Doing) (burst octets : List ℕ) (now : ℕ) (block : List ℕ)
    → Knows (follows r p burst octets now block)
unfolding follows
follows-knows r p burst octets now block = goes-on-knows r _ _ now block (λ e. (and_parts _ _ e).1)

-- ---- octets that came

drops-knows : (r : Ruled) (p : Doing) (phase : Phase) (burst : List ℕ) (now : ℕ) → Knows (drops r p phase burst now)
unfolding drops dropping
drops-knows r p phase burst now = record { known = tt }

dropped-knows : (r : Ruled) (p : Doing) (burst : List ℕ) (count now : ℕ) → Knows (dropped r p burst count now)
unfolding dropped dropping
dropped-knows r p burst count now = either Knows (nat_le p.left count) _ _ (λ _. record { known = tt })
    (λ _. record { known = tt })

misses-knows : (r : Ruled) (p : Doing) (burst : List ℕ) (now : ℕ) → Knows (misses r p burst now)
unfolding misses
misses-knows r p burst now = drops-knows r p Missing burst now

hears-echo-knows : (r : Ruled) (p : Doing) (burst octets rest : List ℕ) (now : ℕ) (block : List ℕ)
    → Knows (hears_echo r p burst octets rest now block)
unfolding hears_echo
hears-echo-knows r p burst octets rest now block =
    either Knows (nat_lt (length octets) (length rest)) _ _ (λ _. record { known = tt })
    (λ _. follows-knows r p burst _ now block)

echoed-knows : (r : Ruled) (p : Doing) (burst octets : List ℕ) (now : ℕ) (block : List ℕ)
    → Knows (echoed r p burst octets now block)
unfolding echoed
echoed-knows r p burst octets now block =
    either Knows (agrees octets (unheard p block)) _ _ (λ _. hears-echo-knows r p burst octets _ now block)
    (λ _. misses-knows r p burst now)

met-knows : (r : Ruled) (p : Doing) (burst octets : List ℕ) (is_garbled : Bool) (now : ℕ) (block : List ℕ)
    → Knows (met r p burst octets is_garbled now block)
unfolding met
met-knows r p burst octets is_garbled now block = either Knows is_garbled _ _ (λ _. misses-knows r p burst now)
    (λ _. echoed-knows r p burst octets now block)

came-in-knows : (phase : Phase) (r : Ruled) (p : Doing) (burst octets : List ℕ) (is_garbled : Bool) (now : ℕ)
    (block : List ℕ) → Knows (came_in phase r p burst octets is_garbled now block)
unfolding came_in
came-in-knows Late r p burst octets is_garbled now block = drops-knows r p Clearing burst now
came-in-knows Clearing r p burst octets is_garbled now block = dropped-knows r p burst _ now
came-in-knows Settling r p burst octets is_garbled now block = dropped-knows r p burst _ now
came-in-knows Missing r p burst octets is_garbled now block = dropped-knows r p burst _ now
came-in-knows Echoing r p burst octets is_garbled now block = met-knows r p burst octets is_garbled now block
came-in-knows Listening r p burst octets is_garbled now block = hears-knows r p burst octets is_garbled now block
came-in-knows Idle r p burst octets is_garbled now block = record { known = tt }
came-in-knows Sending r p burst octets is_garbled now block = record { known = tt }

used-up-knows : (r : Ruled) (p : Doing) (burst : List ℕ) → Knows (used_up r p burst)
unfolding used_up
used-up-knows r p burst = record { known = tt }

takes-in-knows : (r : Ruled) (p : Doing) (burst octets : List ℕ) (is_garbled : Bool) (now : ℕ) (block : List ℕ)
    → Knows (takes_in r p burst octets is_garbled now block)
unfolding takes_in
takes-in-knows r p burst octets is_garbled now block =
    either Knows (has_none_left p) _ _ (λ _. used-up-knows r p burst)
    (λ _. came-in-knows p.phase r p burst octets is_garbled now block)

came-knows : (r : Ruled) (p : Doing) (burst : List ℕ) (octet : ℕ) (octets : List ℕ) (is_garbled : Bool) (now : ℕ)
    (block : List ℕ) → Knows (came r p burst (octet ∷ octets) is_garbled now block)
unfolding came
came-knows r p burst octet octets is_garbled now block =
    takes-in-knows r _ burst (octet ∷ octets) is_garbled now block

on-came-knows : (r : Ruled) (p : Doing) (burst : List ℕ) (octet : ℕ) (octets : List ℕ) (is_garbled : Bool) (now : ℕ)
    (block : List ℕ) → Knows (on_came r p burst (octet ∷ octets) is_garbled now block)
unfolding on_came
on-came-knows r p burst octet octets is_garbled now block = either Knows (is_waiting p.phase) _ _
    (λ _. came-knows r p burst octet octets is_garbled now block) (λ _. record { known = tt })

-- ---- what the framer holds

knows-that : (next : Next) (whole spoiled : Bool) (burst : List ℕ) → KnowsIf next whole spoiled burst → next ≡ Heard
    → whole ≡ true → spoiled ≡ false → is_whole burst ≡ true
knows-that next whole spoiled burst k en ew es =
    let known : KnowsIf Heard true false burst = rw en at (rw ew at (rw es at k)) in known

-- a burst is whole by its framer's octets
whole-of : (f : Framer) (burst : List ℕ) → ((i : ℕ) → get_or f.octets i 0 < 256) → HasHeard f burst
    → is_whole burst ≡ true → IsWhole (take handed burst)
whole-of f burst small h e =
    let long : length burst ≡ slice_index burst 2 + 4 = eqb-true _ _ (and_parts _ _ e).0 in
    let third : get_or burst 2 0 ≡ get_or f.octets 2 0 =
    sym (get_or-take handed burst 2 0 (omega arith)) ∙ ap (λ (l : List ℕ). get_or l 2 0) h.kept
    ∙ get_or-take (min (length burst) handed) f.octets 2 0 (omega (arith, long)) in
    let all : take handed burst ≡ burst = take_all handed burst (omega (arith, long, third, small 2)) in
    subst IsWhole (sym all) e

-- a framer holds some burst, whatever its fields are
pub some-burst : (f : Framer) → length f.octets ≡ handed → f.count ≤ most_counted → (burst : List ℕ) × HasHeard f burst
some-burst f room most = elim (cases_lt handed f.count) [
  | inl lt ↦
      let rest : List ℕ = replicate (f.count - handed) 0 in
      let more : length rest ≡ f.count - handed = length-replicate (f.count - handed) 0 in
      let long : length (f.octets ++ rest) ≡ f.count =
      omega (arith, length-append f.octets rest, more, room, lt) in (
        f.octets ++ rest,
        record {
          counted = omega (arith, long, most);
          kept = take-append-le handed f.octets rest (omega (arith, room))
              ∙ (let same : handed ≡ min (length (f.octets ++ rest)) handed = omega (arith, long) in
              ap (λ (n : ℕ). take n f.octets) same);
        },
      )
  | inr le ↦
      let long : length (take f.count f.octets) ≡ f.count = omega (arith, length-take f.count f.octets, room) in (
        take f.count f.octets,
        record {
          counted = omega (arith, long, most);
          kept = take_all handed (take f.count f.octets) (omega (arith, long))
              ∙ (let same : f.count ≡ min (length (take f.count f.octets)) handed = omega (arith, long) in
              ap (λ (n : ℕ). take n f.octets) same);
        },
      )
]

-- the marks of a line say that a burst which octets ended is whole, and so it is
pub known-whole : (event : ℕ) (r : Ruled) (p : Doing) (burst octets : List ℕ) (now : ℕ) (block : List ℕ)
    (between after : Doing) (next : Next) (middle framer : Framer)
    → IsStep (stepped event r p burst octets now block) between middle next → after ≡ between
    → HasHeard framer (held_over next between.is_spoiled (stepped event r p burst octets now block).burst)
    → ((i : ℕ) → get_or framer.octets i 0 < 256) → ends_whole event octets next after ≡ true → HoldsWhole framer
known-whole event r p burst [] now block between after next middle framer is same h small e = cc
known-whole event r p burst (octet ∷ octets) now block between after Heard middle framer is same h small e =
    let step : Step = stepped event r p burst (octet ∷ octets) now block in
    let one : event ≡ 1 = eqb-true event 1 (and_parts _ _ e).0 in
    let knows : Knows step =
    subst (λ (n : ℕ). Knows (stepped n r p burst (octet ∷ octets) now block)) (sym one)
    (on-came-knows r p burst octet octets false now block) in
    let marks : (after.is_whole && not after.is_spoiled) ≡ true = (and_parts _ _ e).1 in
    let clear : between.is_spoiled ≡ false =
    ap (λ (d : Doing). d.is_spoiled) (sym same) ∙ not-true _ (and_parts _ _ marks).1 in
    let whole : is_whole step.burst ≡ true =
    knows-that step.next step.progress.is_whole step.progress.is_spoiled step.burst knows.known (sym is.next_is)
    (ap (λ (d : Doing). d.is_whole) (sym (same ∙ is.progress)) ∙ (and_parts _ _ marks).0)
    (ap (λ (d : Doing). d.is_spoiled) (sym is.progress) ∙ clear) in
    let held : HasHeard framer step.burst =
    subst (λ (b : Bool). HasHeard framer (held_over Heard b step.burst)) clear h in
    (step.burst, held, whole-of framer step.burst small held whole)
known-whole event r p burst (octet ∷ octets) now block between after next middle framer is same h small e = cc
