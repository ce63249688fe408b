use Rattle.std.proofs.Common.{◌∙◌, sym, ap}
use Rattle.atr_core.specs.declared.reader.Stage.{Stage}
use Rattle.atr_core.specs.Taking.{Taking}
use Rattle.atr_core.specs.Stage.{taking_of}
use Rattle.atr_core.proofs.reader.AtrReader.value.Goals as goal

pub returns-in-Taken-clause-value : goal.returns-in-Taken-clause-value
returns-in-Taken-clause-value c = λ t h.
    c.answer.ensures.value t (h.is ∙ ap (λ (s : Taking). s.octets) (sym c.self.view_is)
    ∙ ap (λ (s : Stage). (taking_of s).octets) c.in-Taken.is)
