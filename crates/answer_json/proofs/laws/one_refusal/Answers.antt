use Rattle.answer_json.proofs.Lossless.{one-refusal}
use Rattle.answer_json.proofs.laws.one_refusal.Goals as goal

pub returns : goal.returns
returns c = one-refusal
