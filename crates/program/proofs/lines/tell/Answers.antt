use Rattle.std.proofs.Common.{[], append-nil, refl, sym}
use Rattle.program.specs.Conversations.{told, untold}
use Rattle.program.proofs.lines.tell.Goals as goal

pub returns-in-Ok : goal.returns-in-Ok
returns-in-Ok g c =
    (told c.args.text.now, c.in-Ok.ensures.said, ([], sym (append-nil c.args.text.now), (refl, refl)))

pub returns-in-Err : goal.returns-in-Err
returns-in-Err g c = (
  untold c.args.text.now c.in-Err.field-0.written,
  c.in-Err.ensures.said,
  (refl, ([], sym (append-nil c.args.text.now)), refl),
)
