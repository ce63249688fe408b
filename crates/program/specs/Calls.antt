-- The calls of a reader or of a writer.
use Rattle.std.specs.Prelude.{ℕ, List, Option}

-- The result of calls: the octets left in a reader, or those in a writer, before and after them, if known; and how many
-- calls had failed before and after.
pub record Calls : Type 0 where
  pub from : Option (List ℕ)
  pub to : Option (List ℕ)
  pub before : ℕ
  pub after : ℕ

abbrev pub calls : Option (List ℕ) → Option (List ℕ) → ℕ → ℕ → Calls
calls from to before after = record { from = from; to = to; before = before; after = after }

-- the calls between two states of a reader or a writer, by what is known about its octets and its failures
abbrev pub calls_of : {S : Type 0} → (S → Option (List ℕ)) → (S → ℕ) → S → S → Calls
calls_of octets failures old new = calls (octets old) (octets new) (failures old) (failures new)
