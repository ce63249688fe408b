use Rattle.atr_core.proofs.Feeding.{open-not, unended-of}
use Rattle.atr_core.proofs.partial.Partial.answer.Goals as goal

pub returns-in_default : goal.returns-in_default
returns-in_default c =
    let unended = unended-of c.args.self.now c.in_default.not-Whole in record {
      value = λ t is. open-not c.args.self.now t c.requires unended is;
      unended = λ none. unended;
    }
