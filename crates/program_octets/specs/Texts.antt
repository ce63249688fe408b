-- The lines that the program writes.
use Rattle.std.specs.Prelude.{ℕ, List, [], ◌∷◌, ◌++◌, codes, decimal}
use Rattle.hex.specs.Hex.{encode_upper}
use Rattle.answer_json.specs.Refusals.{line_of}
use Rattle.answer_json.specs.declared.refusal.Refusal.{Refusal}
use Rattle.answer_json.specs.declared.refusal.Refusal.TheVariants as refusal
use Rattle.octet_core.specs.declared.stop.Stop.{Stop}
use Rattle.octet_core.specs.declared.stop.Stop.TheVariants.{Short, At}

-- the octets are a value of n octets
abbrev pub accepted_text : ℕ → List ℕ
accepted_text n = codes "ok " ++ (decimal n ++ codes " octets\n")

-- the octets are refused, by the name of a reason
abbrev pub stopped : {R : Type 0} → (R → List ℕ) → Stop R → Refusal
stopped name (Short place) = refusal.Short place
stopped name (At place reason) = refusal.At place (name reason)

-- the line of that
abbrev pub refused_text : {R : Type 0} → (R → List ℕ) → Stop R → List ℕ
refused_text name stop = line_of (stopped name stop)

-- octets as a word
abbrev pub octets_text : List ℕ → List ℕ
octets_text [] = codes "none"
octets_text (x ∷ xs) = encode_upper (x ∷ xs)
