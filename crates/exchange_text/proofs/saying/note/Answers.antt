use Rattle.std.proofs.Common.{sym}
use Rattle.exchange_text.proofs.Notes.{note-text}
use Rattle.exchange_text.proofs.saying.note.Goals as goal

pub returns-in-Err : goal.returns-in-Err
returns-in-Err c = absurd (c.in-Err.ensures.cases.0 (note-text c.args.text.now (sym (c.if-not-is_note.ensures))))
