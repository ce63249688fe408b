-- The pairs of a session as lines: each line has a command and the reply to it, separated by blanks.
use Rattle.std.specs.Prelude.{◌==◌, ◌||◌, ℕ, codes, length, not, List, [], ◌∷◌, Bool, true, false, Option, Some, None, Result, Ok, Err, if◌then◌else◌}
use Rattle.std.specs.Str.{bytes_eq}
use Rattle.std.specs.List.{slice_split}
use Rattle.octet_core.specs.Words.{first_word}
use Rattle.program_words.specs.Session.{pair_by}
use Rattle.program_words.specs.Value.{◌>>=◌, all_said}
use Rattle.program_words.specs.declared.fault.Fault.{Fault}
use Rattle.program_words.specs.declared.fault.Fault.TheVariants.{Hex, Words}
use Rattle.program_words.specs.declared.session.Pair.{Pair}

-- the pair of a line with these first three words, each of them possibly empty: none if the line is blank; only two
-- words are a pair
abbrev pub pairs_of_words : List ℕ → List ℕ → List ℕ → Result (List Pair) Fault
pairs_of_words command reply more =
    if length command == 0 then Ok []
    else (if length reply == 0 || not (length more == 0) then Err Hex
    else pair_by command reply >>= (λ pair. Ok (pair ∷ [])))

abbrev pub pairs_of_line : List ℕ → Result (List Pair) Fault
pairs_of_line line =
    let command = first_word line in
    let reply = first_word command.1 in
    pairs_of_words command.0 reply.0 (first_word reply.1).0

abbrev pub is_line_end : ℕ → Bool
is_line_end x = x == 10

-- the pairs of all lines of a text; the last line needs no end
abbrev pub pairs_in : List ℕ → Result (List Pair) Fault
pairs_in text = all_said pairs_of_line (slice_split is_line_end text)

-- whether the pairs are lines of standard input; then no word is a pair, and the form is `lines`
abbrev pub are_lines : Option (List ℕ) → List (List ℕ) → Result Bool Fault
are_lines None words = Ok false
are_lines (Some form) [] = if bytes_eq form (codes "lines") then Ok true else Err Words
are_lines (Some form) (word ∷ words) = Err Words
