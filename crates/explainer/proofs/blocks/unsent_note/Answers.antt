use Rattle.std.proofs.Common.{string_bytes}
use Rattle.std.proofs.lemmas.Result.{IfOk-weaker}
use Rattle.explainer.proofs.blocks.unsent_note.Goals as goal

pub returns : goal.returns
returns c = IfOk-weaker c.format.result _ _ (λ note h. record {
  lost = string_bytes c.in_ok-lost.lost;
  damaged = string_bytes c.in_ok-damaged.damaged;
  spoilt = string_bytes c.in_ok-spoilt.spoilt;
  is_lost = c.in_ok-lost.ensures;
  is_damaged = c.in_ok-damaged.ensures;
  is_spoilt = c.in_ok-spoilt.ensures;
  is_note = h;
}) c.format.ensures.ok
