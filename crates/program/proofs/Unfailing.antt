-- That no call of the reader failed where a request's answer isn't the line of that fault.
use Rattle.std.proofs.Common.{◌≡◌, inl, inr, ℕ, List, Result, Ok, Err, refl, subst}
use Rattle.program_octets.specs.Sayings.{faulted}
use Rattle.program_octets.specs.declared.said.Said.{Said}
use Rattle.program_octets.specs.declared.status.Status.{Status}
use Rattle.program_words.specs.Words.{NeedsFile}
use Rattle.program_words.specs.declared.fault.Fault.{Fault}
use Rattle.program_words.specs.declared.fault.Fault.TheVariants as fault
use Rattle.program_words.specs.declared.given.OctetSource.TheVariants.{Read, Word}
use Rattle.program_words.specs.declared.request.Request.{Request}
use Rattle.program_words.specs.declared.request.Request.TheVariants.{BuildChain, BuildTidy, BuildFill, Tell, File, Record, Judge, Simulate, SimulateLines, Help, Version}
use Rattle.program.specs.Answers.{IsAnswerTo, IsRightTo}
use Rattle.program.specs.Calls.{Calls}
use Rattle.program.specs.Files.{ReadsWhole}
use Rattle.program.specs.Pieces.{ReadsAll, ReadsFor}

abbrev unread : Result (List ℕ) Fault
unread = Err fault.Read

module _ (reads : Calls) where
  of-whole : (file : Result (List ℕ) Fault) → ReadsWhole reads file → (file ≡ unread → ⊥) → reads.after ≡ reads.before
  of-whole (Ok text) had other = had.count
  of-whole (Err fault.TooLarge) had other = had.count
  of-whole (Err fault.Memory) had other = had.1
  of-whole (Err fault.Read) had other = absurd (other refl)
  of-whole (Err fault.Words) had other = absurd had
  of-whole (Err fault.Hex) had other = absurd had

  of-all : (file : Result (List ℕ) Fault) → ReadsAll reads file → (file ≡ unread → ⊥) → reads.after ≡ reads.before
  of-all (Ok text) had other = had.count
  of-all (Err fault.TooLarge) had other = had.count
  of-all (Err fault.Memory) had other = had.1
  of-all (Err fault.Read) had other = absurd (other refl)
  of-all (Err fault.Words) had other = absurd had
  of-all (Err fault.Hex) had other = absurd had

  module _ (said : Said) (ended : Status) (other : said ≡ faulted fault.Read → ⊥) where
    -- where the input is read for the request, and its answer is that fault if the input couldn't be read
    read-for : (Told : Result (List ℕ) Fault → Type 0) → (Told unread → said ≡ faulted fault.Read)
        → (file : Result (List ℕ) Fault) → ReadsWhole reads file → Told file → reads.after ≡ reads.before
    read-for Told is file had told = of-whole file had (λ e. other (is (subst Told e told)))

    answered : (request : Request) → ((NeedsFile request → ⊥) → reads.after ≡ reads.before)
        → (file : Result (List ℕ) Fault) → (NeedsFile request → ReadsFor request reads file)
        → IsAnswerTo request file said ended → reads.after ≡ reads.before
    answered (Tell task (Word octets)) free file had told = free (λ need. need)
    answered (Tell task (Read form)) free file had told =
        read-for (λ f. IsAnswerTo (Tell task (Read form)) f said ended) (λ h. h.0) file (had tt) told
    answered (BuildTidy (Word octets)) free file had told = free (λ need. need)
    answered (BuildTidy (Read form)) free file had told =
        read-for (λ f. IsAnswerTo (BuildTidy (Read form)) f said ended) (λ h. h.0) file (had tt) told
    answered (File task) free file had told =
        read-for (λ f. IsAnswerTo (File task) f said ended) (λ h. h.0) file (had tt) told
    answered (Record atr) free file had told =
        read-for (λ f. IsAnswerTo (Record atr) f said ended) (λ h. h.0) file (had tt) told
    answered (Judge atr judging) free file had told = of-all file (had tt) (λ e. other
        (subst (λ (f : Result (List ℕ) Fault). IsAnswerTo (Judge atr judging) f said ended) e told).0)
    answered (SimulateLines session) free file had told =
        read-for (λ f. IsAnswerTo (SimulateLines session) f said ended) (λ h. h.0) file (had tt) told
    answered (BuildChain ifs number message) free file had told = free (λ need. need)
    answered (BuildFill list known) free file had told = free (λ need. need)
    answered (Simulate session) free file had told = free (λ need. need)
    answered (Help help) free file had told = free (λ need. need)
    answered Version free file had told = free (λ need. need)

-- a request is answered, and not by the line of a failed read
pub none-failed : (request : Request) (reads : Calls) (said : Said) (ended : Status)
    → ((NeedsFile request → ⊥) → reads.after ≡ reads.before) → IsRightTo request reads said ended
    → (said ≡ faulted fault.Read → ⊥) → reads.after ≡ reads.before
none-failed request reads said ended free (inl to) other =
    answered reads said ended other request free to.file to.is_file to.is_answer
none-failed request reads said ended free (inr wanting) other = wanting.2
