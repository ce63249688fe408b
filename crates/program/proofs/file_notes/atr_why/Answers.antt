use Rattle.std.proofs.Common.{◌∙◌, string_bytes}
use Rattle.std.proofs.lemmas.Result.{IfOk-weaker}
use Rattle.program.proofs.file_notes.atr_why.Goals as goal

pub returns : goal.returns
returns c = IfOk-weaker c.from_str.result _ _ (λ what h. (
  string_bytes c.in_ok-note.note,
  rw c.atr.ensures at c.in_ok-note.ensures,
  h ∙ rw c.as_str.ensures.value at c.trim_end.ensures.trim,
)) c.from_str.ensures.ok
