-- The lines of octets, and the answers to lines in their order.
use Rattle.std.specs.Prelude.{◌≡◌, ◌==◌, ◌++◌, ℕ, List, [], ◌∷◌, length, nat_le, Result, Err, if◌then◌else◌}
use Rattle.program_words.specs.Loose.{loose_octets}
use Rattle.program_words.specs.declared.fault.Fault.{Fault}
use Rattle.program_words.specs.declared.fault.Fault.TheVariants.{TooLarge}
use Rattle.program.specs.Files.{largest_file}
use Rattle.program_octets.specs.declared.status.Status.{Status}
use Rattle.program_octets.specs.declared.status.Status.TheVariants.{Accepted, Refused}
use Rattle.program_octets.specs.declared.status.Status.TheVariants as status

-- ---- the lines of octets

-- the lines that end within the octets; the first began with `line`
abbrev pub lines_after : List ℕ → List ℕ → List (List ℕ)
lines_after line [] = []
lines_after line (x ∷ b) = if x == 10 then line ∷ lines_after [] b else lines_after (line ++ (x ∷ [])) b

-- the octets after the last line end
abbrev pub rest_after : List ℕ → List ℕ → List ℕ
rest_after line [] = line
rest_after line (x ∷ b) = if x == 10 then rest_after [] b else rest_after (line ++ (x ∷ [])) b

-- the last line needs no end; it counts if it has octets
abbrev pub last_line : List ℕ → List (List ℕ)
last_line [] = []
last_line (x ∷ b) = (x ∷ b) ∷ []

abbrev pub ended_lines : List ℕ → List (List ℕ)
ended_lines b = lines_after [] b

abbrev pub all_lines : List ℕ → List (List ℕ)
all_lines b = ended_lines b ++ last_line (rest_after [] b)

-- ---- the answers to lines

-- the octets of a line in hexadecimal, or the line's fault
abbrev pub line_octets : List ℕ → Result (List ℕ) Fault
line_octets line = if nat_le (length line) largest_file then loose_octets line else Err TooLarge

-- the worse of two statuses: a fault before a refusal
abbrev pub worse : Status → Status → Status
worse Accepted other = other
worse Refused Accepted = Refused
worse Refused other = other
worse status.Fault other = status.Fault

-- a line's text and then those of more lines, with the worst status of all
pub record IsLineThen (Line More : List ℕ → Status → Type 0) (text : List ℕ) (ended : Status) : Type 0 where
  pub first : List ℕ
  pub one : Status
  pub more : List ℕ
  pub others : Status
  pub is_first : Line first one
  pub is_more : More more others
  pub is_text : text ≡ first ++ more
  pub is_ended : ended ≡ worse one others

-- the text and the status of lines in their order; Line gives those of one line
abbrev pub AreTold : (List ℕ → List ℕ → Status → Type 0) → List (List ℕ) → List ℕ → Status → Type 0
AreTold Line [] text ended = (text ≡ []) × (ended ≡ Accepted)
AreTold Line (line ∷ lines) text ended = IsLineThen (Line line) (AreTold Line lines) text ended
