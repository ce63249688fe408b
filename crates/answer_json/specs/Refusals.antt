-- Refusals and faults, as a line and as members of a JSON object.
use Rattle.std.specs.Prelude.{◌≡◌, ◌<◌, ◌==◌, ℕ, List, [], ◌++◌, Bool, true, not, codes, decimal}
use Rattle.std.specs.List.{list_all}
use Rattle.layouts.specs.Members.{with_number, with_string}
use Rattle.answer_json.specs.declared.refusal.Refusal.{Refusal}
use Rattle.answer_json.specs.declared.refusal.Refusal.TheVariants.{Short, At, AtLine, Whole, FaultAt, Fault}

-- the line that says it
abbrev pub line_of : Refusal → List ℕ
line_of (Short place) = codes "short at " ++ (decimal place ++ codes "\n")
line_of (At place reason) = codes "refused at " ++ (decimal place ++ (codes ": " ++ (reason ++ codes "\n")))
line_of (AtLine line reason) = codes "refused at line " ++ (decimal line ++ (codes ": " ++ (reason ++ codes "\n")))
line_of (Whole reason) = codes "refused: " ++ (reason ++ codes "\n")
line_of (FaultAt line fault) = codes "fault: line " ++ (decimal line ++ (codes ": " ++ (fault ++ codes "\n")))
line_of (Fault fault) = codes "fault: " ++ (fault ++ codes "\n")

abbrev pub verdict_of : Refusal → List ℕ
verdict_of (Short place) = codes "short"
verdict_of (At place reason) = codes "refused"
verdict_of (AtLine line reason) = codes "refused"
verdict_of (Whole reason) = codes "refused"
verdict_of (FaultAt line fault) = codes "fault"
verdict_of (Fault fault) = codes "fault"

abbrev pub with_verdict : List ℕ → Refusal → List ℕ
with_verdict members refusal = with_string members (codes "verdict") (verdict_of refusal)

abbrev with_reason : List ℕ → List ℕ → List ℕ
with_reason members reason = with_string members (codes "reason") reason

abbrev with_fault : List ℕ → List ℕ → List ℕ
with_fault members fault = with_string members (codes "fault") fault

-- where it is and why, after other members
abbrev pub with_details : List ℕ → Refusal → List ℕ
with_details members (Short place) = with_number members (codes "at") place
with_details members (At place reason) = with_reason (with_number members (codes "at") place) reason
with_details members (AtLine line reason) = with_reason (with_number members (codes "line") line) reason
with_details members (Whole reason) = with_reason members reason
with_details members (FaultAt line fault) = with_number (with_fault members fault) (codes "line") line
with_details members (Fault fault) = with_fault members fault

-- its members, the verdict last
abbrev pub members_of : Refusal → List ℕ
members_of refusal = with_verdict (with_details [] refusal) refusal

-- its members, the verdict first
abbrev pub verdict_first : Refusal → List ℕ
verdict_first refusal = with_details (with_verdict [] refusal) refusal

-- ---- what a line says

-- numbers that have lines have at most 15 digits
abbrev pub most : ℕ
most = 1000000000000000

abbrev pub has_no_blank : List ℕ → Bool
has_no_blank name = list_all (λ x. not (x == 32)) name

-- a place or a line of at most 15 digits; a fault without a line has a name without blanks
abbrev pub IsPlain : Refusal → Type 0
IsPlain (Short place) = place < most
IsPlain (At place reason) = place < most
IsPlain (AtLine line reason) = line < most
IsPlain (Whole reason) = Unit {0}
IsPlain (FaultAt line fault) = line < most
IsPlain (Fault fault) = has_no_blank fault ≡ true
