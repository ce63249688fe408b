use Rattle.std.proofs.Common.{◌∙◌, sym}
use Rattle.octet_core.proofs.Decimals.{value-most, value-decimal, none-decimal}
use Rattle.octet_core.proofs.decimal.decimal_of.Goals as goal

pub returns-then-is_decimal-clause-found : goal.returns-then-is_decimal-clause-found
returns-then-is_decimal-clause-found c = rw c.parsed.ensures
    (value-decimal c.args.text.now (sym c.is_decimal.ensures ∙ c.if-is_decimal.true))

pub returns-then-is_decimal-clause-most : goal.returns-then-is_decimal-clause-most
returns-then-is_decimal-clause-most c = rw c.parsed.ensures
    (value-most c.args.text.now (sym c.is_decimal.ensures ∙ c.if-is_decimal.true))

pub returns-else-is_decimal-clause-none : goal.returns-else-is_decimal-clause-none
returns-else-is_decimal-clause-none c = none-decimal c.args.text.now (sym c.is_decimal.ensures ∙ c.if-is_decimal.false)
