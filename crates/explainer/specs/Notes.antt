-- The notes on octets, after the line of their verdict.
use Rattle.std.specs.Prelude.{◌≡◌, ℕ, nat_le, nat_lt, true, false, ◌+◌, ◌-◌, List, ◌++◌, [], ◌∷◌, codes, decimal, drop, encode_utf8, length, take, ◌==◌, Option, Some, None, if◌then◌else◌, Result, Ok, Err}
use Rattle.std.specs.List.{list_any, repeat}
use Rattle.hex.specs.Hex.{encode_upper}
use Rattle.octet_core.specs.declared.stop.Stop.{Stop}
use Rattle.octet_core.specs.declared.stop.Stop.TheVariants.{Short, At}
use Rattle.octet_core.specs.Grammar.{self_ended, Accepts, Refuses}
use Rattle.atr_core.specs.Atr.{AtrParts, IsAtr, IsReason}
use Rattle.atr_core.specs.T1.{t1_params_of, T1Values}
use Rattle.atr_core.specs.declared.params.ParamFault.{ParamFault}
use Rattle.atr_core.specs.declared.reason.AtrReason.{AtrReason}
use Rattle.shortfall.specs.Apdu.{command_least, response_least}
use Rattle.shortfall.specs.Block.{block_least}
use Rattle.shortfall.specs.List.{list_least}
use Rattle.program_words.specs.declared.request.Kind.{Kind}
use Rattle.program_words.specs.declared.request.Kind.TheVariants as kind
use Rattle.program_words.specs.declared.session.Session.{Session}
use Rattle.explainer.specs.Sentences.{atr_sentence, lack_sentence}

-- the place of the first octet that is shown: at most 16 octets come before the marked one
abbrev pub first_shown : ℕ → ℕ
first_shown place = place - 16

-- the octets around a place, at most 24
abbrev pub shown : List ℕ → ℕ → List ℕ
shown b place = take 24 (drop (first_shown place) b)

-- a mark under the octet at the place
abbrev pub mark_text : ℕ → List ℕ
mark_text place = repeat (place - first_shown place) (codes "  ") ++ codes "^^\n"

-- the octet at a place, what was expected there, the octets around it, and the mark
abbrev pub refused_note : List ℕ → ℕ → List ℕ → List ℕ
refused_note b place sentence =
    codes "octet " ++ (decimal place ++ (codes " is "
    ++ (encode_upper (take 1 (drop place b))
    ++ (codes ": " ++ (sentence ++ (codes "\noctets from place " ++ (decimal (first_shown place)
    ++ (codes ":\n" ++ (encode_upper (shown b place) ++ (codes "\n" ++ mark_text place))))))))))

-- how many octets there are, and how many more are needed at least, if that is known
abbrev pub short_note : ℕ → Option ℕ → List ℕ
short_note count None = codes "octets so far: " ++ (decimal count ++ codes "; more must come\n")
short_note count (Some least) = codes "octets so far: "
    ++ (decimal count ++ (codes "; at least " ++ (decimal least ++ codes " more must come\n")))

-- how many more octets are needed at least if octets of this kind are short, and if that is known
abbrev pub least_of : Kind → List ℕ → Option ℕ
least_of kind.Block b = Some (block_least b)
least_of kind.Command b = Some (command_least b)
least_of kind.Response b = Some (response_least b)
least_of kind.Dol b = Some (list_least b)
least_of _ b = None

-- how many octets are left after a value that ends by itself
abbrev pub left_note : ℕ → List ℕ
left_note count = if count == 0 then [] else (codes "octets after the value: " ++ (decimal count ++ codes "\n"))

-- the note on a refusal, by the sentence of each reason, and by how many more octets are needed, if known
abbrev pub stop_text : {R : Type 0} → (R → List ℕ) → List ℕ → Option ℕ → Stop R → List ℕ
stop_text says b least (At place reason) = refused_note b place (says reason)
stop_text says b least (Short place) = short_note (length b) least

-- the note on a verdict: for a value of n octets it is how many are left
abbrev pub verdict_text : {R : Type 0} → (R → List ℕ) → List ℕ → Option ℕ → Result ℕ (Stop R) → List ℕ
verdict_text says b least (Ok n) = left_note (length b - n)
verdict_text says b least (Err stop) = stop_text says b least stop

-- ---- sessions

-- what an answer to reset lacks
abbrev pub lack_note : List ℕ → List ℕ
lack_note sentence = codes "the answer to reset " ++ (sentence ++ codes "\n")

-- how many octets an answer to reset takes, and how many are left after it
abbrev pub longer_note : ℕ → ℕ → List ℕ
longer_note taken left = codes "octets of the answer to reset: "
    ++ (decimal taken ++ (codes "; octets after it: " ++ (decimal left ++ codes "\n")))

-- The note on an answer to reset by its parameters of T=1: empty if it has them, else what it lacks.
pub data IsLackNote (a : AtrParts) (note : List ℕ) : Type 0 where
  has_all : (values : T1Values) → t1_params_of a ≡ Ok values → note ≡ [] → IsLackNote a note
  lacks : (fault : ParamFault) → t1_params_of a ≡ Err fault → note ≡ lack_note (lack_sentence fault)
      → IsLackNote a note

-- The note on the octets from which a session should begin. All of them are an answer to reset, and the note is on
-- that; or octets are left after one; or they are refused.
pub data IsSessionNote (b note : List ℕ) : Type 0 where
  whole : (a : AtrParts) → Accepts self_ended IsAtr b a (length b) → IsLackNote a note → IsSessionNote b note
  longer : (a : AtrParts) (n : ℕ) → Accepts self_ended IsAtr b a n → (n ≡ length b → ⊥)
      → note ≡ longer_note n (length b - n) → IsSessionNote b note
  no_atr : (stop : Stop AtrReason) → Refuses self_ended IsAtr IsReason b stop
      → note ≡ stop_text atr_sentence b None stop → IsSessionNote b note

-- a list that names blocks that were never sent, the numbers of these blocks, and how many were sent
abbrev pub unsent_line : List ℕ → List ℕ → ℕ → List ℕ
unsent_line option shown sent =
    option ++ (codes " names blocks that were never sent: " ++ (shown ++ (codes "; blocks sent: "
    ++ (decimal sent ++ codes "\n"))))

-- consecutive numbers as a range
abbrev pub run_text : ℕ → ℕ → List ℕ
run_text first last = if first == last then decimal first else decimal first ++ (codes "-" ++ decimal last)

abbrev pub with_run : List ℕ → ℕ → ℕ → List ℕ
with_run text first last = text ++ ((if length text == 0 then [] else codes ",") ++ run_text first last)

abbrev pub with_last : List ℕ → Option (ℕ × ℕ) → List ℕ
with_last text None = text
with_last text (Some run) = with_run text run.0 run.1

-- one more number: it extends the range before it, or that range is written
abbrev pub next_shown : ℕ → List ℕ → Option (ℕ × ℕ) → List ℕ × Option (ℕ × ℕ)
next_shown number text None = (text, Some (number, number))
next_shown number text (Some run) = if number == run.1 + 1
    then (text, Some (run.0, number))
    else (with_run text run.0 run.1, Some (number, number))

-- The numbers of a list above this one, in their order, after the text so far and the range that isn't written yet.
-- After 60 characters the rest is left out.
abbrev pub unsent_shown : ℕ → List ℕ → List ℕ → Option (ℕ × ℕ) → List ℕ
unsent_shown sent [] text run = with_last text run
unsent_shown sent (number ∷ numbers) text run = if nat_le number sent then unsent_shown sent numbers text run
    else (if nat_lt 60 (length (next_shown number text run).0)
    then (next_shown number text run).0 ++ codes ",.."
    else unsent_shown sent numbers (next_shown number text run).0 (next_shown number text run).1)

-- The note on a list by how many blocks were sent: empty if it names none above that number, else these numbers.
pub data IsUnsentNote (option blocks : List ℕ) (sent : ℕ) (note : List ℕ) : Type 0 where
  all_sent : list_any (λ number. nat_lt sent number) blocks ≡ false → note ≡ [] → IsUnsentNote option blocks sent note
  some_unsent : list_any (λ number. nat_lt sent number) blocks ≡ true
      → note ≡ unsent_line option (unsent_shown sent blocks [] None) sent → IsUnsentNote option blocks sent note

-- the notes on all lists of a session
pub record AreUnsentNotes (s : Session) (sent : ℕ) (note : List ℕ) : Type 0 where
  pub lost : List ℕ
  pub damaged : List ℕ
  pub spoilt : List ℕ
  pub is_lost : IsUnsentNote (codes "--lose") s.lost sent lost
  pub is_damaged : IsUnsentNote (codes "--damage") s.damaged sent damaged
  pub is_spoilt : IsUnsentNote (codes "--spoil") s.spoilt sent spoilt
  pub is_note : note ≡ lost ++ (damaged ++ spoilt)

-- ---- words

-- the number of a word, and what is wrong with it
abbrev pub word_note : ℕ → List ℕ → List ℕ
word_note number what = codes "word " ++ (decimal number ++ (codes ": " ++ (what ++ codes "\n")))

-- a character at a place of the word that isn't a hexadecimal digit
abbrev pub digit_note : ℕ → ℕ → ℕ → List ℕ
digit_note number character place = codes "word "
    ++ (decimal number ++ (codes ": the character '"
    ++ (encode_utf8 character ++ (codes "' at place " ++ (decimal place ++ codes " isn't a hexadecimal digit\n")))))

abbrev pub odd_note : ℕ → ℕ → List ℕ
odd_note number count = codes "word " ++ (decimal number
    ++ (codes ": the number of digits must be even, and is " ++ (decimal count ++ codes "\n")))

-- ---- files

-- the number of a line of a file, its text, and what there is to say about it
abbrev pub line_note : ℕ → List ℕ → List ℕ → List ℕ
line_note number line what = codes "line "
    ++ (decimal number ++ (codes " of the file: " ++ (line ++ (codes "\n" ++ (what ++ codes "\n")))))

-- how many octets standard input or the text of a session may have, and how to split a longer session
abbrev pub large_note : ℕ → List ℕ
large_note most = codes "standard input and the text of a session have at most " ++ (decimal most
    ++ codes " octets each\nto split a session, cut it after an answered exchange, where both ends send block 0 next\n")
