use Rattle.std.proofs.Common.{arith}
use Rattle.atr_core.proofs.Lengths.{interface-length, after-most}
use Rattle.atr_core.proofs.atr.interface_len.Goals as goal

pub overflow_add-result : goal.overflow_add-result
overflow_add-result c = omega (arith, after-most c.args.indicated.now)

pub returns-clause-value : goal.returns-clause-value
returns-clause-value c = omega (arith, interface-length c.args.first c.args.indicated.now)

pub returns-clause-few : goal.returns-clause-few
returns-clause-few c = omega (arith, after-most c.args.indicated.now)
