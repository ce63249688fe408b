-- That no text of a dump has two meanings: a reading of its offsets in another base gives the same octets, or none.
use Rattle.std.proofs.Common.{◌≡◌, ◌∙◌, ℕ, List, Bool, true, false, Option, Some, None, Result, Ok, Err, refl, sym, subst, if◌then◌else◌}
use Rattle.std.proofs.lemmas.Slice.Eq.{bytes_eq-Decides}
use Rattle.std.specs.Str.{bytes_eq}
use Rattle.dumps.specs.Dump.{◌>>=◌, agree, dump_octets, found, given, octets_by}
use Rattle.dumps.specs.declared.base.Base.{Base}
use Rattle.dumps.specs.declared.base.Base.TheVariants.{Hexadecimal, Decimal, Octal, Headed}
use Rattle.dumps.specs.declared.fault.DumpFault.{DumpFault}
use Rattle.dumps.specs.declared.fault.DumpFault.TheVariants.{Form}
use Rattle.dumps.proofs.Octets.{both-steps, same}

-- a reading gives these octets or none
abbrev AreThose : Option (List ℕ) → List ℕ → Type 0
AreThose (Some others) octets = octets ≡ others
AreThose None octets = Unit {0}

chosen : (b : Bool) (octets : List ℕ) (all : Option (List ℕ)) → (if b then Ok (Some octets) else Err Form) ≡ Ok all
    → (b ≡ true) × (Some octets ≡ all)
chosen true octets all h = (refl, same (Some octets) all h)
chosen false octets all h = let bad = h in cc bad

-- what both give is what each of two gives
each : (first second all : Option (List ℕ)) (octets : List ℕ) → agree first second ≡ Ok all → AreThose all octets
    → AreThose first octets × AreThose second octets
each (Some b) (Some others) all octets e h =
    let it = chosen (bytes_eq b others) b all e in
    let is : octets ≡ b = subst (λ (r : Option (List ℕ)). AreThose r octets) (sym it.1) h in
    (is, is ∙ (bytes_eq-Decides b others).0 it.0)
each (Some b) None all octets e h =
    (subst (λ (r : Option (List ℕ)). AreThose r octets) (sym (same (Some b) all e)) h, tt)
each None second all octets e h =
    (tt, subst (λ (r : Option (List ℕ)). AreThose r octets) (sym (same second all e)) h)

those-found : (all : Option (List ℕ)) (octets : List ℕ) → found all ≡ Ok octets → AreThose all octets
those-found (Some b) octets e = sym (same b octets e)
those-found None octets e = tt

of-reading : (r : Result (List ℕ) DumpFault) (octets others : List ℕ) → r ≡ Ok others → AreThose (given r) octets
    → octets ≡ others
of-reading (Ok b) octets others e h = h ∙ same b others e
of-reading (Err fault) octets others e h = let bad = e in cc bad

-- each reading of a dump gives its octets, or none
abbrev AllThose : List ℕ → List ℕ → Type 0
AllThose text octets = AreThose (given (octets_by Hexadecimal text)) octets
    × AreThose (given (octets_by Decimal text)) octets × AreThose (given (octets_by Octal text)) octets
    × AreThose (given (octets_by Headed text)) octets

all-those : (text octets : List ℕ) → dump_octets text ≡ Ok octets → AllThose text octets
all-those text octets h =
    let all = both-steps (agree (given (octets_by Hexadecimal text)) (given (octets_by Decimal text))
    >>= (λ two. agree two (given (octets_by Octal text))) >>= (λ three. agree three (given (octets_by Headed text))))
    found octets h in
    let three = both-steps (agree (given (octets_by Hexadecimal text)) (given (octets_by Decimal text))
    >>= (λ two. agree two (given (octets_by Octal text)))) (λ three. agree three (given (octets_by Headed text))) all.0
    all.1 in
    let two = both-steps (agree (given (octets_by Hexadecimal text)) (given (octets_by Decimal text)))
    (λ two. agree two (given (octets_by Octal text))) three.0 three.1 in
    let last = each three.0 (given (octets_by Headed text)) all.0 octets three.2 (those-found all.0 octets all.2) in
    let third = each two.0 (given (octets_by Octal text)) three.0 octets two.2 last.0 in
    let first = each (given (octets_by Hexadecimal text)) (given (octets_by Decimal text)) two.0 octets two.1 third.0 in
    (first.0, first.1, third.1, last.1)

-- whatever base its offsets are read in, a text that is a dump gives these octets
pub one-meaning : (base : Base) (text octets others : List ℕ) → dump_octets text ≡ Ok octets
    → octets_by base text ≡ Ok others → octets ≡ others
one-meaning Hexadecimal text octets others e h =
    of-reading (octets_by Hexadecimal text) octets others h (all-those text octets e).0
one-meaning Decimal text octets others e h =
    of-reading (octets_by Decimal text) octets others h (all-those text octets e).1
one-meaning Octal text octets others e h =
    of-reading (octets_by Octal text) octets others h (all-those text octets e).2
one-meaning Headed text octets others e h =
    of-reading (octets_by Headed text) octets others h (all-those text octets e).3
