use Rattle.std.proofs.Common.{subst, sym}
use Rattle.t1_core.specs.Came.{IsClass, class_of}
use Rattle.t1_core.proofs.Computed.{computed}
use Rattle.t1_core.proofs.laws.class_is_computed.Goals as goal

pub returns : goal.returns
returns c = λ size octets small are came. (
  λ h. c.one_class.ensures size octets came (class_of size octets) h (computed size octets small are),
  λ e. subst (IsClass size octets) (sym e) (computed size octets small are),
)
