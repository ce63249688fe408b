-- How a verdict's text is made.
use Rattle.std.proofs.Common.{◌≡◌, ◌∙◌, ◌-◌, ℕ, Bool, List, [], ◌∷◌, length, drop, ap, arith, subst, sym}
use Rattle.std.proofs.lemmas.List.{length-append}
use Rattle.std.proofs.Math.Seq.{drop-append_seam}
use Rattle.octet_core.specs.Octets.{xor_of}
use Rattle.block_core.specs.Block.{Parts, front_of, spelling}
use Rattle.octet_core.specs.declared.stop.Refused.{Refused}
use Rattle.octet_core.specs.declared.stop.Refused.TheVariants as refusal
use Rattle.octet_core.specs.declared.stop.Stop.{Stop}
use Rattle.program_octets.specs.Verdicts.{TellsBy, refused, shown_in}
use Rattle.program_octets.specs.Codec.{Codec, Stops, StopsUnlessMemory, Takes}
use Rattle.layouts.specs.declared.layout.Layout.{Layout}
use Rattle.program_words.specs.declared.request.Kind.{Kind}
use Rattle.program_octets.specs.declared.said.Said.{Said}
use Rattle.program_octets.specs.declared.status.Status.{Status}
use Rattle.program_octets.specs.declared.status.Status.TheVariants as status

-- what is told where a call refused the octets, and its reasons have these names
pub is-refused : {V R : Type 0} (c : Codec V R) (told : V → ℕ → Said) (untold : (R → List ℕ) → Stop R → Said)
    (b : List ℕ) (name : R → List ℕ) (answer : Refused R) (stop : Stop R) (said : Said) (ended : Status)
    → c.name ≡ name → answer ≡ refusal.Stop stop → StopsUnlessMemory c b answer → said ≡ untold name stop
    → ended ≡ status.Refused → TellsBy c told (untold c.name) b said ended
is-refused {V} {R} c told untold b name answer stop said ended named is h same over =
    refused stop (subst (StopsUnlessMemory c b) is h)
    (same ∙ ap (λ (n : R → List ℕ). untold n stop) (sym named)) over

-- and the verdict of that call
pub of-stop : {V R : Type 0} (c : Codec V R) (b : List ℕ) (answer : Refused R) (stop : Stop R)
    → answer ≡ refusal.Stop stop → StopsUnlessMemory c b answer → Stops c b stop
of-stop c b answer stop is h = subst (StopsUnlessMemory c b) is h

-- what shows a value of n octets shows one of as many as it says
pub is-shown : {V R : Type 0} (noted : Bool) (layout : Layout) (kind : Kind) (c : Codec V R) (b : List ℕ) (v : V)
    (n taken : ℕ) (text : List ℕ) → Takes c b v n → taken ≡ n → text ≡ shown_in noted layout kind c v n
    → (x : V) × Takes c b x taken × (text ≡ shown_in noted layout kind c x taken)
is-shown noted layout kind c b v n taken text takes is said = (v, rw is takes, rw is said)

-- ---- blocks

-- the last octet of a block
pub last-of : (v : Parts) (b : List ℕ) → b ≡ spelling v → drop (length b - 1) b ≡ xor_of (front_of v) ∷ []
last-of v b is =
    let sum : List ℕ = xor_of (front_of v) ∷ [] in
    let place : length b - 1 ≡ length (front_of v) = omega (arith, ap length is, length-append (front_of v) sum) in
    ap (λ (k : ℕ). drop k b) place ∙ ap (drop (length (front_of v))) is ∙ drop-append_seam (front_of v) sum
