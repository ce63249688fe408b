use Rattle.std.proofs.Common.{refl, sym, subst}
use Rattle.octet_core.specs.Grammar.{Begins}
use Rattle.atr_core.specs.Atr.{IsAtr}
use Rattle.atr_core.specs.declared.atr.Convention.TheVariants.{Direct}
use Rattle.atr_core.specs.declared.partial.Phase.TheVariants as phase
use Rattle.atr_core.specs.Partial.{bare_of}
use Rattle.atr_core.proofs.Feeding.{begun-open}
use Rattle.atr_core.proofs.laws.new_has_taken_nothing.Goals as goal

pub returns : goal.returns
returns c = λ t. (
  λ h. h.is,
  λ e. record {
    free = refl;
    is = e;
    begun =
        subst (Begins IsAtr) (sym e) (begun-open (record { atr = bare_of Direct; phase = phase.Start }) (refl, refl)
        refl);
  },
)
