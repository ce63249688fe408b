-- What a reader of answers to reset that come in pieces has taken.
use Rattle.std.specs.Prelude.{◌≡◌, ℕ, List, [], Option, None}
use Rattle.octet_core.specs.Grammar.{Begins}
use Rattle.octet_core.specs.declared.stop.Refusal.{Refusal}
use Rattle.atr_core.specs.declared.reason.AtrReason.{AtrReason}
use Rattle.atr_core.specs.Atr.{IsAtr}

-- what contracts see of a reader: the octets that it has taken, and the refusal that it keeps
pub record Taking : Type 0 where
  pub octets : List ℕ
  pub refusal : Option (Refusal AtrReason)

abbrev pub refusal_of : Taking → Option (Refusal AtrReason)
refusal_of s = s.refusal

abbrev pub nothing_taken : Taking
nothing_taken = record { octets = []; refusal = None }

-- a reader has taken these octets, with which an answer begins, and keeps no refusal
pub record HasTaken (s : Taking) (t : List ℕ) : Type 0 where
  pub free : s.refusal ≡ None
  pub is : t ≡ s.octets
  pub begun : Begins IsAtr t
