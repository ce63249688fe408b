-- Answers as objects of JSON, and as lines.
use Rattle.std.proofs.Common.{◌≡◌, ◌∙◌, ◌++◌, inr, ℕ, List, [], Option, Result, Ok, Err, append-nil, refl, sym}
use Rattle.layouts.specs.declared.layout.Layout.{Layout}
use Rattle.layouts.specs.declared.layout.Layout.TheVariants.{Lines, Json}
use Rattle.program_octets.proofs.Faults.{fault-line}
use Rattle.program_octets.specs.Sayings.{faulted, text_of}
use Rattle.program_words.specs.Texts.{fault_text}
use Rattle.program_words.specs.Words.{layout_of}
use Rattle.program_words.specs.declared.fault.Fault.{Fault}
use Rattle.program_words.specs.declared.fault.Fault.TheVariants.{Memory}
use Rattle.program_octets.specs.declared.answer.Answer.{Answer}
use Rattle.program_octets.specs.declared.status.Status.{Status}
use Rattle.program_octets.specs.declared.status.Status.TheVariants as status
use Rattle.program.specs.Calls.{calls, Calls}
use Rattle.program.specs.Answers.{IsWritten, Writes}
use Rattle.program.specs.Explained.{said_of, Gives, IsRightWith, IsSaid}
use Rattle.program.specs.InJson.{HaveAnswer, IsRightAsked, IsRightJson, in_json, in_lines, unmade}
use Rattle.program.specs.declared.judged.WithExplanation.{WithExplanation}
use Rattle.program.specs.declared.program.AnswerText.{AnswerText}
use Rattle.program.proofs.Asking.{no-words}
use Rattle.program.proofs.Explaining.{said-nothing}

module _ (words : List (List ℕ)) (reads : Calls) where
  -- what is right in JSON is right where JSON is asked for
  pub json-asked : (r : Result AnswerText Fault) → layout_of words ≡ Json
      → Gives (IsRightJson words reads) r → Gives (IsRightAsked words reads) r
  json-asked (Ok made) ask h = in_json ask h
  json-asked (Err fault) ask h = in_json ask h

  -- and what is right in lines where it isn't
  pub lines-asked : (r : Result AnswerText Fault) → layout_of words ≡ Lines
      → Gives (IsRightWith words reads) r → Gives (IsRightAsked words reads) r
  lines-asked (Ok made) ask h = in_lines ask h
  lines-asked (Err fault) ask h = in_lines ask h

  -- an answer as lines, with its explanation
  pub answer-lines : (made : WithExplanation) (given : AnswerText)
      → IsSaid words reads made.answer.said (said_of made.explanation) made.answer.status
      → given.text ≡ text_of made.answer.said → given.explanation ≡ made.explanation → given.status ≡ made.answer.status
      → IsRightWith words reads (given.text ++ said_of given.explanation) given.status
  answer-lines made given h text explanation ended = rw (text, explanation, ended) (record {
    said = made.answer.said;
    note = said_of made.explanation;
    is_said = h;
    is_whole = refl;
  })

  -- the line of a fault
  pub fault-lines : (fault : Fault) → IsSaid words reads (faulted fault) [] status.Fault
      → IsRightWith words reads (fault_text fault) status.Fault
  fault-lines fault h = record {
    said = faulted fault;
    note = [];
    is_said = h;
    is_whole = sym (append-nil (text_of (faulted fault)) ∙ fault-line fault);
  }

  -- memory for the lines was refused, and no call of the reader had failed
  pub wanting-lines : (fault : Fault) → fault ≡ Memory → reads.after ≡ reads.before
      → IsRightWith words reads (fault_text fault) status.Fault
  wanting-lines fault memory unfailed = rw memory (fault-lines Memory
      (said-nothing words reads (faulted Memory) status.Fault (inr (refl, refl, unfailed))))

-- a fault that is right is so as an answer with no note
pub right-line : (words : List (List ℕ)) (reads : Calls) (fault : Fault)
    (answer : Answer) (made : WithExplanation) → IsSaid words reads (faulted fault) [] status.Fault
    → answer.said ≡ faulted fault → answer.status ≡ status.Fault
    → made.answer ≡ answer → said_of made.explanation ≡ []
    → IsSaid words reads made.answer.said (said_of made.explanation) made.answer.status
right-line words reads fault answer made h said ended same none =
    rw (same, none, said, ended) h

-- memory for the object was refused, where words have an answer
pub not-made : {words : List (List ℕ)} {reads : Calls} (r : Result AnswerText Fault)
    (fault : Fault) → r ≡ Err fault → fault ≡ Memory → HaveAnswer words reads
    → Gives (IsRightJson words reads) r
not-made r fault is memory h = rw (is, memory) (unmade h refl refl)

-- words that have a text with what comes after it
said-some : {words : List (List ℕ)} {reads : Calls} {whole : List ℕ} (ended : Status)
    → IsRightWith words reads whole ended → HaveAnswer words reads
said-some ended h = record { said = h.said; note = h.note; ended = ended; is_said = h.is_said }

-- the line of memory that ran out before the words were read is right of any
pub no-words-asked : (held : Option (List ℕ)) (count : ℕ) (writes : Calls)
    (ended : Status) → IsWritten (fault_text Memory) status.Fault writes ended
    → (words : List (List ℕ)) → Writes (IsRightAsked words (calls held held count count)) writes ended
no-words-asked held count writes ended is words = go (layout_of words) refl
  where
    go : (how : Layout) → layout_of words ≡ how
        → Writes (IsRightAsked words (calls held held count count)) writes ended
    go Json ask = let plain = no-words held count writes ended is words in record {
      text = fault_text Memory;
      right = status.Fault;
      is_right = in_json ask (unmade (said-some plain.right plain.is_right) refl refl);
      is_written = is;
    }
    go Lines ask =
        let plain = no-words held count writes ended is words in
        record {
          text = plain.text;
          right = plain.right;
          is_right = in_lines ask plain.is_right;
          is_written = plain.is_written;
        }
