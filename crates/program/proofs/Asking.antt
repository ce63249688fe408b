-- Which words ask for lines.
use Rattle.std.proofs.Common.{◌≡◌, ◌⊎◌, ◌∙◌, inl, inr, ℕ, List, [], Option, Result, Ok, Err, ap, append-nil, refl, sym, subst}
use Rattle.clap.specs.Kinds.{IsAmong}
use Rattle.clap.specs.declared.error.kind.ErrorKind.TheVariants.{DisplayHelp}
use Rattle.program_words.specs.Words.{AskForLines, HasOther, IsRead, called_for_version, taken, called_for_help, not_taken}
use Rattle.program_words.specs.declared.fault.Fault.{Fault}
use Rattle.program_words.specs.declared.request.Asked.{Asked}
use Rattle.program_words.specs.declared.request.Asked.TheVariants.{Once, Lines}
use Rattle.program_words.specs.declared.request.Request.{Request}
use Rattle.program_words.specs.declared.request.Task.{Task}
use Rattle.program_words.specs.declared.fault.Fault.TheVariants.{Memory}
use Rattle.program_octets.specs.Sayings.{faulted}
use Rattle.program_words.specs.Texts.{fault_text}
use Rattle.program.specs.Calls.{calls, Calls}
use Rattle.program.specs.Answers.{IsReadFrom, IsWritten, Writes}
use Rattle.program.specs.Explained.{IsRightWith}
use Rattle.program.specs.LineAnswers.{WritesLines, answered, wanting}
use Rattle.program.specs.declared.line_task.LineTask.{LineTask}
use Rattle.program_octets.specs.declared.status.Status.{Status}
use Rattle.program_octets.specs.declared.status.Status.TheVariants as status
use Rattle.program.proofs.Explaining.{said-nothing}
use Rattle.program.proofs.Inputs.{Consumes-none}

-- what was read, where it asks for this
abbrev pub read_as : Asked → Result Asked Fault
read_as asked = Ok asked

module _ (words : List (List ℕ)) where
  -- words that were read so ask for lines
  pub asked-lines : (task : Task) → IsRead words (Ok (Lines task)) → AskForLines task words
  asked-lines task (called_for_version version e) = cc e
  asked-lines task (taken are e) = (are, sym e)
  asked-lines task (called_for_help parsed among help e) = cc e
  asked-lines task (not_taken parsed other e) = cc e

  -- words that ask for lines are read so
  read-lines : (task : Task) (read : Result Asked Fault) → AskForLines task words → IsRead words read
      → read ≡ Ok (Lines task)
  read-lines task read ask (called_for_version version e) = absurd (cc (version, ask.0.parsed))
  read-lines task read ask (taken are e) = e ∙ ask.1
  read-lines task read ask (called_for_help parsed among help e) =
      absurd (subst (IsAmong DisplayHelp) ask.0.free among)
  read-lines task read ask (not_taken parsed other e) =
      let bad = subst HasOther ask.0.free other in
      absurd bad.1

  -- words that were read as a request
  pub request-read : (read : Result Asked Fault) (request : Request) → read ≡ Ok (Once request)
      → (read ≡ Err Memory) ⊎ IsRead words read → IsReadFrom words (Ok request)
  request-read read request e (inl memory) =
      absurd (let bad : read_as (Once request) ≡ Err Memory = sym e ∙ memory in cc)
  request-read read request e (inr is) = inr (subst (IsRead words) e is)

  abbrev task-of : Task → Result Asked Fault → Task
  task-of otherwise (Ok (Lines task)) = task
  task-of otherwise read = otherwise

  -- what was read asks for lines
  pub lines-asked : (read : Result Asked Fault) (task : Task) → read ≡ Ok (Lines task)
      → (read ≡ Err Memory) ⊎ IsRead words read → AskForLines task words
  lines-asked read task e (inl memory) = absurd (let bad : read_as (Lines task) ≡ Err Memory = sym e ∙ memory in cc)
  lines-asked read task e (inr is) = asked-lines task (subst (IsRead words) e is)

  -- and for these alone
  pub same-task : (read : Result Asked Fault) (task asked : Task) → read ≡ Ok (Lines task)
      → (read ≡ Err Memory) ⊎ IsRead words read → AskForLines asked words → task ≡ asked
  same-task read task asked e (inl memory) ask =
      absurd (let bad : read_as (Lines task) ≡ Err Memory = sym e ∙ memory in cc)
  same-task read task asked e (inr is) ask = ap (task-of asked) (sym e ∙ read-lines asked read ask is)

-- ---- where memory ran out before the words were read

module _ (held : Option (List ℕ)) (count : ℕ) (writes : Calls) (ended : Status)
    (is : IsWritten (fault_text Memory) status.Fault writes ended) where
  -- the line of that is right of any words, for which nothing was read
  pub no-words : (words : List (List ℕ)) → Writes (IsRightWith words (calls held held count count)) writes ended
  no-words words = record {
    text = fault_text Memory;
    right = status.Fault;
    is_right = record {
      said = faulted Memory;
      note = [];
      is_said = said-nothing words (calls held held count count) (faulted Memory) status.Fault
          (inr (refl, refl, refl));
      is_whole = sym (append-nil (fault_text Memory));
    };
    is_written = is;
  }

  -- and of lines, of which none was read
  pub no-lines : (line_task : LineTask) → WritesLines line_task (calls held held count count) writes ended
  no-lines line_task = answered (record {
    text = fault_text Memory;
    right = status.Fault;
    is_right = wanting [] [] status.Accepted [] [] (Consumes-none held) refl refl (refl, refl) refl refl;
    is_written = is;
  })
