use Rattle.std.proofs.Common.{None}
use Rattle.program_octets.specs.ForestTexts.{forest_codec}
use Rattle.explainer.specs.Sentences.{tlv_sentence}
use Rattle.program.proofs.Explaining.{says-by}
use Rattle.program.proofs.judged.tidied.Goals as goal

pub returns : goal.returns
returns c = (
  c.in_ok-answer.ensures.answer,
  says-by c.args.explains forest_codec tlv_sentence None c.args.octets.now _
      c.asked_note-explanation.result c.in_ok-answer.ensures.verdict c.asked_note-explanation.ensures,
)
