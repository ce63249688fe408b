-- The first place where a text isn't a source, and what is wrong there.
use Rattle.std.specs.Prelude.{◌≡◌, ℕ, ◌+◌, ◌-◌, ◌&&◌, ◌||◌, not, List, [], ◌∷◌, Bool, true, false, Option, Some, None, is_some, Result, Ok, Err, if◌then◌else◌}
use Rattle.dumps.specs.Source.{at_first, ended, is_one_way, is_part, may_end_at, turn_at, Turn}
use Rattle.dumps.specs.declared.fault.DumpFault.{DumpFault}
use Rattle.dumps.specs.declared.fault.DumpFault.TheVariants.{Form}
use Rattle.dumps.specs.declared.no_source.SourceWrong.{SourceWrong}
use Rattle.dumps.specs.declared.no_source.SourceWrong.TheVariants as wrong
use Rattle.dumps.specs.declared.turn.Now.{Now}
use Rattle.dumps.specs.declared.word.Word.{Word}
use Rattle.dumps.specs.declared.word.Word.TheVariants.{Empty, One, Two, Three, Four}

abbrev pub word_len : Word → ℕ
word_len Empty = 0
word_len (One a) = 1
word_len (Two a b) = 2
word_len (Three a b c) = 3
word_len (Four a b c d) = 4

abbrev pub is_begun : Word → Bool
is_begun Empty = false
is_begun _ = true

-- the unfinished word isn't an octet, or is too long with this character
abbrev pub is_wrong_word : Now → ℕ → Bool
is_wrong_word now x = is_begun now.word && (is_part x || not (is_some (ended now)))

-- what is wrong at a character that isn't allowed: the unfinished word before it, from its beginning, or the character
abbrev pub stop_at : ℕ → Now → ℕ → ℕ × SourceWrong
stop_at place now x =
    if is_wrong_word now x then (place - word_len now.word, wrong.Word) else (place, wrong.Character)

-- what is wrong at the end of a text, if anything is
abbrev pub stop_at_end : ℕ → Now → Turn → Option (ℕ × SourceWrong)
stop_at_end place now None = Some (place - word_len now.word, wrong.Word)
stop_at_end place now (Some (last, octet)) =
    if not (may_end_at last.place) then Some (place, wrong.Open)
    else if not (is_one_way last.writing last) then Some (place, wrong.TwoWays)
    else None

-- the text stops at a turn that failed, and continues after any other
abbrev pub stopped_or : Turn → ℕ × SourceWrong → (Now → Option (ℕ × SourceWrong)) → Option (ℕ × SourceWrong)
stopped_or None stop more = Some stop
stopped_or (Some (next, octet)) stop more = more next

abbrev pub stop_from : ℕ → Now → List ℕ → Option (ℕ × SourceWrong)
stop_from place now [] = stop_at_end place now (ended now)
stop_from place now (x ∷ text) =
    stopped_or (turn_at now.place now x) (stop_at place now x) (λ next. stop_from (place + 1) next text)

abbrev pub source_stop : List ℕ → Option (ℕ × SourceWrong)
source_stop text = stop_from 0 at_first text

-- a text has a wrong place if it gives no octets, and none if it does
abbrev pub Agrees : Option (ℕ × SourceWrong) → Result (List ℕ) DumpFault → Type 0
Agrees None octets = (b : List ℕ) × (octets ≡ Ok b)
Agrees (Some stop) octets = octets ≡ Err Form
