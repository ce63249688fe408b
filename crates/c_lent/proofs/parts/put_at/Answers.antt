use Rattle.std.proofs.Common.{set, refl, ap}
use Rattle.c_lent.specs.declared.parts.CPart.{CPart}
use Rattle.c_lent.specs.Parts.{part_put}
use Rattle.c_lent.proofs.Puts.{put-next, left-out}
use Rattle.c_lent.proofs.parts.put_at.Goals as goal

pub returns-then-place-out : goal.returns-then-place-out
returns-then-place-out c all old number so_far =
    let out = c.args.out.now in
    put-next all old out (set out c.args.place c.put_part.new.place) c.args.place (part_put c.args.part.now) so_far
    number c.if-place-out.true (ap (λ (y : CPart). set out c.args.place y) c.put_part.ensures)

pub returns-else-place-out : goal.returns-else-place-out
returns-else-place-out c all old number so_far =
    let out = c.args.out.now in
    left-out all old out out c.args.place (part_put c.args.part.now) so_far number c.if-place-out.false refl
