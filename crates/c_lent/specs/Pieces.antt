-- How a piece changes a receiver of a chain and a check of a forest, as C has it.
use Rattle.std.specs.Prelude.{◌≡◌, ℕ, ◌++◌, List, length, Bool, Result, Ok, Err, OnOk, IfErr, OnSome, MatchResult}
use Rattle.octet_core.specs.Grammar.{whole, Refuses, RefusesAt}
use Rattle.octet_core.specs.Reader.{IsFed}
use Rattle.octet_core.specs.declared.stop.Stop.{Stop}
use Rattle.chain_core.specs.Chain.{IsChain, IsReason as IsChainReason}
use Rattle.chain_core.specs.Taking as receiver
use Rattle.chain_core.specs.Taking.{Taking as ChainTaking}
use Rattle.chain_core.specs.declared.reason.ChainReason.{ChainReason}
use Rattle.tlv_core.specs.Tree.{Tree}
use Rattle.tlv_core.specs.Forest.{IsForest}
use Rattle.tlv_core.specs.Reasons.{IsReason}
use Rattle.tlv_core.specs.Check.{Checked, HasChecked, answer_of}
use Rattle.tlv_core.specs.declared.reason.TlvReason.{TlvReason}
use Rattle.c_lent.specs.Verdict.{more_at, told, told_fed, told_end}
use Rattle.c_lent.specs.Chain.{chain_reason}
use Rattle.c_lent.specs.Tlv.{tlv_reason}
use Rattle.c_lent.specs.declared.verdict.Verdict.{Verdict}

pub record FeedsChain (old new : ChainTaking) (piece : List ℕ) (v : Verdict) : Type 0 where
  pub answer : Result (ℕ × Bool) (Stop ChainReason)
  pub fed : IsFed (IsChain old.ifs old.number old.max) (IsChainReason old.ifs old.number old.max) receiver.HasTaken
      receiver.refusal_of old new piece answer
  pub kept : (new.ifs ≡ old.ifs) × (new.number ≡ old.number) × (new.max ≡ old.max)
  pub verdict : v ≡ told_fed chain_reason answer

-- a check of a forest takes each piece whole, or refuses an octet of it
abbrev pub told_checked : ℕ → Result (Unit {0}) (Stop TlvReason) → Verdict
told_checked count (Ok x) = more_at count
told_checked count (Err stop) = told tlv_reason stop

pub record FeedsForest (old new : Checked) (piece : List ℕ) (v : Verdict) : Type 0 where
  pub limit : new.kept.max ≡ old.kept.max
  pub repeats : OnSome old.refusal (new ≡ old)
  pub taken : (b : List ℕ) → HasChecked b old → OnOk (answer_of new.refusal) (HasChecked (b ++ piece) new)
  pub refused : (b : List ℕ) → HasChecked b old
      → IfErr (answer_of new.refusal) (RefusesAt whole (IsForest old.kept.max) (IsReason old.kept.max) (b ++ piece))
  pub verdict : v ≡ told_checked (length piece) (answer_of new.refusal)

pub record EndsCheck (s : Checked) (v : Verdict) : Type 0 where
  pub answer : Result (Unit {0}) (Stop TlvReason)
  pub repeats : OnSome s.refusal (answer ≡ answer_of s.refusal)
  pub all : (b : List ℕ) → HasChecked b s
      → MatchResult answer (λ _. (t : Tree) × IsForest s.kept.max t b)
      (Refuses whole (IsForest s.kept.max) (IsReason s.kept.max) b)
  pub verdict : v ≡ told_end tlv_reason answer
