-- What is said of a replay before it is laid out, with its note.
use Rattle.std.specs.Prelude.{ℕ, List, IfOk, string_bytes}
use Rattle.program_octets.specs.declared.status.Status.{Status}
use Rattle.program.specs.declared.exchange.ReplayAccount.{ReplayAccount}

-- this holds of what is said, and this of its note if memory for the note was available
abbrev pub AreReplayedAs : (List ℕ → Status → Type 0) → (List ℕ → Type 0) → ReplayAccount → Type 0
AreReplayedAs Told Note made = Told (string_bytes made.account.text) made.account.status
    × IfOk made.explanation (λ note. Note (string_bytes note))
