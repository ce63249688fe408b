use Rattle.std.proofs.Common.{◌∙◌, sym, ap, subst, Err, length}
use Rattle.octet_core.specs.Reader.{IsFinished}
use Rattle.octet_core.specs.declared.stop.Stop.TheVariants.{Short}
use Rattle.atr_core.specs.Atr.{IsAtr, IsReason}
use Rattle.atr_core.specs.declared.reader.Stage.{Stage}
use Rattle.atr_core.specs.Taking.{HasTaken, Taking, refusal_of}
use Rattle.atr_core.specs.Stage.{Agrees, taking_of}
use Rattle.atr_core.proofs.Feeding.{finished}
use Rattle.atr_core.proofs.reader.AtrReader.finish.Goals as goal

pub returns : goal.returns
returns c =
    let agrees = subst (λ (s : Stage). Agrees s c.self.inside.octets.items) c.in-Taken.is c.self.invariant in
    subst (λ (s : Taking). IsFinished IsAtr IsReason HasTaken refusal_of s (Err (Short c.len.result)))
    (ap taking_of (sym c.in-Taken.is) ∙ c.self.view_is)
    (finished c.in-Taken.partial c.len.result agrees.0 (sym c.if-is_whole.ensures)
    (c.len.ensures.value ∙ ap length agrees.1))
