use Rattle.std.proofs.Common.{◌+◌, List, ℕ, ap}
use Rattle.std.proofs.lemmas.Result.{IfOk-equal}
use Rattle.program_octets.specs.AtrTexts.{with_bytes}
use Rattle.program_octets.proofs.atr_members.push_td.Goals as goal

pub returns : goal.returns
returns c = IfOk-equal c.push_bytes.result _ _ _ c.push_bytes.ensures
    (ap (λ (l : List ℕ). with_bytes l (c.args.number + 1) c.args.bytes) c.in_ok-push_byte.ensures)
