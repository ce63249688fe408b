use Rattle.std.proofs.Common.{◌++◌, ◌∷◌, [], List, ℕ, get_or, subst, sym}
use Rattle.tlv_core.specs.Reasons.{HasTaken}
use Rattle.tlv_core.specs.Progress.{kept_of}
use Rattle.tlv_core.proofs.Advances.{take_taken}
use Rattle.tlv_core.proofs.Ends.{take_one}
use Rattle.tlv_core.proofs.progress.Progress.take_first.Goals as goal

pub returns-in-Ok-clause-ok : goal.returns-in-Ok-clause-ok
returns-in-Ok-clause-ok c b h =
    let s = c.args.self.now in
    let x = get_or c.args.octets.now 0 0 in
    subst (λ (l : List ℕ). HasTaken (b ++ l) (kept_of c.take.new.self))
    (sym (take_one c.args.octets.now c.requires.some))
    (subst (HasTaken (b ++ x ∷ [])) (sym c.in-Ok.ensures.after)
    (take_taken b (kept_of s) x c.in-Ok._next c.requires.idle c.in-Ok.ensures.ok h))
