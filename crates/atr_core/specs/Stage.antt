-- The state of a reader of answers to reset, and how a piece changes it.
use Rattle.std.specs.Prelude.{◌≡◌, ℕ, ◌+◌, ◌≤◌, List, [], ◌++◌, length, take, Some, None, false, Result, Ok, Err}
use Rattle.octet_core.specs.Grammar.{IsStuck, self_ended}
use Rattle.octet_core.specs.declared.stop.Refusal.{Refusal}
use Rattle.atr_core.specs.declared.reason.AtrReason.{AtrReason}
use Rattle.atr_core.specs.declared.partial.Partial.{Partial}
use Rattle.atr_core.specs.declared.reader.Stage.{Stage}
use Rattle.atr_core.specs.declared.reader.Stage.TheVariants.{Taken, Refused}
use Rattle.atr_core.specs.Atr.{IsAtr, IsReason}
use Rattle.atr_core.specs.Partial.{Holds, is_whole, taken_of}
use Rattle.atr_core.specs.Taking.{Taking}

abbrev pub taking_of : Stage → Taking
taking_of (Taken p) = record { octets = taken_of p; refusal = None }
taking_of (Refused r) = record { octets = []; refusal = Some r }

-- the state of an answer that can continue, or is whole, agrees with the octets that the reader has taken
abbrev pub Agrees : Stage → List ℕ → Type 0
Agrees (Taken p) octets = Holds p × (octets ≡ taken_of p)
Agrees (Refused r) octets = Unit {0}

-- The state after a piece, if t are the octets before it: n octets of the piece were taken, or one was refused. The
-- n octets are the whole piece unless the answer ends in it.
abbrev pub IsTaken : List ℕ → List ℕ → Partial → Result ℕ (Refusal AtrReason) → Type 0
IsTaken t piece p (Ok n) = Holds p × (taken_of p ≡ t ++ take n piece) × (n ≤ length piece)
    × (is_whole p ≡ false → n ≡ length piece)
IsTaken t piece p (Err r) = IsStuck self_ended IsAtr (t ++ piece) r.place
    × IsReason r.reason (take (r.place + 1) (t ++ piece))
