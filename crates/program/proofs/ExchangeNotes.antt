-- Notes on the files of exchanges, by what replaying them came to.
use Rattle.std.proofs.Common.{◌≡◌, ◌++◌, inl, inr, ℕ, List, MatchResult, Result, Ok, Err, IfOk, IsOkAnd, Some, String, string_bytes, subst}
use Rattle.std.specs.declared.alloc.Global.{Global}
use Rattle.program_words.specs.declared.request.FileTask.{FileTask}
use Rattle.layouts.specs.declared.layout.Layout.{Layout}
use Rattle.program_octets.specs.declared.status.Status.TheVariants as status
use Rattle.exchange_text.specs.Exchange.{ExchangeParts}
use Rattle.exchange_text.specs.Reading.{exchange_said, UnlessMemory}
use Rattle.exchange_core.specs.Replay.{IfDiffers, Replays}
use Rattle.exchange_text.specs.declared.fault.ExchangeFault.{ExchangeFault}
use Rattle.exchange_core.specs.declared.replaying.ReplayFault.{ReplayFault}
use Rattle.exchange_core.specs.declared.replaying.ReplayFault.TheVariants.{Differs}
use Rattle.block_core.specs.declared.side.Side.{Side}
use Rattle.block_core.specs.declared.side.Side.TheVariants as side
use Rattle.program.specs.Explained.{AreDifferenceNotes, IsDifferenceNote, IsFileNote, IsNoteSo}
use Rattle.program.specs.FileNotes.{fault_note}
use Rattle.program.specs.ExchangeTexts.{both_in, file_faulted, AreReplayed, IsOutcome, IsReplayed, IsToldSo, TellsFile}
use Rattle.program.specs.Judged.{AreOf}
use Rattle.program.specs.Replays.{AreReplayedAs}
use Rattle.program.specs.declared.exchange.ReplayAccount.{ReplayAccount}
use Rattle.program.specs.Lines.{worse}
use Rattle.program.specs.declared.judged.WithExplanation.{WithExplanation}

-- the line at which an end differs
pub differs-at : {A : Type 0} (r : Result A ReplayFault) (e : ExchangeParts) (which : Side) (fault : ReplayFault)
    (line : ℕ) (gives : List ℕ) → r ≡ Err fault → fault ≡ Differs line gives → IsOutcome e which r
    → Replays e.atr e.lines which (Some (line, gives))
differs-at r e which fault line gives is same h =
    subst (λ (f : ReplayFault). IfDiffers f (λ line gives. Replays e.atr e.lines which (Some (line, gives)))) same
    (subst (IsOutcome e which) is h)

-- an answer and a note that are of an exchange are of the file that was read as it
pub of-exchange : (task : FileTask) (file : List ℕ) (e : ExchangeParts) (made : WithExplanation)
    → UnlessMemory (Ok e) (exchange_said file)
    → AreOf (IsToldSo task e) (IsNoteSo task file e) made
    → AreOf (TellsFile task file) (IsFileNote task file) made
of-exchange task file e made (inl memory) h = absurd (cc memory)
of-exchange task file e made (inr said) h =
    subst (λ (r : Result ExchangeParts ExchangeFault). MatchResult r
    (λ e. IsToldSo task e made.answer.said made.answer.status)
    (λ fault. (made.answer.said ≡ file_faulted fault) × (made.answer.status ≡ status.Fault))
    × IfOk made.explanation (λ note. MatchResult r (λ e. IsNoteSo task file e (string_bytes note))
    (λ fault. string_bytes note ≡ fault_note file fault))) said h

module _ (how : Layout) (file : List ℕ) (e : ExchangeParts) where
  -- the terminal's note and then the card's
  joined-notes : {E : Type 0} (note one other : Result (String Global) E)
      → IfOk one (λ text. IsDifferenceNote file e side.Terminal (string_bytes text))
      → IfOk other (λ text. IsDifferenceNote file e side.Card (string_bytes text))
      → IfOk note (λ text. IsOkAnd one (λ a. IsOkAnd other (λ b. string_bytes text ≡ string_bytes a
      ++ string_bytes b)))
      → IfOk note (λ text. AreDifferenceNotes file e (string_bytes text))
  joined-notes (Ok text) (Ok a) (Ok b) terminal card h = record {
    terminal = string_bytes a;
    card = string_bytes b;
    is_terminal = terminal;
    is_card = card;
    is_note = h;
  }
  joined-notes (Ok text) (Ok a) (Err fault) terminal card h = absurd h
  joined-notes (Ok text) (Err fault) other terminal card h = absurd h
  joined-notes (Err fault) one other terminal card h = tt

  -- what is said of both ends, with their notes
  pub of-both : (terminal card made : ReplayAccount)
      → AreReplayedAs (IsReplayed how e side.Terminal) (IsDifferenceNote file e side.Terminal) terminal
      → AreReplayedAs (IsReplayed how e side.Card) (IsDifferenceNote file e side.Card) card
      → string_bytes made.account.text ≡ both_in how (string_bytes terminal.account.text)
      (string_bytes card.account.text) made.account.status
      → made.account.status ≡ worse terminal.account.status card.account.status
      → IfOk made.explanation (λ text. IsOkAnd terminal.explanation
      (λ a. IsOkAnd card.explanation (λ b. string_bytes text ≡ string_bytes a
      ++ string_bytes b)))
      → AreReplayedAs (AreReplayed how e) (AreDifferenceNotes file e) made
  of-both terminal card made one other text ended notes = (
    record {
      terminal = string_bytes terminal.account.text;
      one = terminal.account.status;
      card = string_bytes card.account.text;
      other = card.account.status;
      is_terminal = one.0;
      is_card = other.0;
      is_text = text;
      is_ended = ended;
    },
    joined-notes made.explanation terminal.explanation card.explanation one.1 other.1 notes,
  )
