use Rattle.std.proofs.Common.{sym, ◌∙◌, arith}
use Rattle.shortfall.specs.Chain.{says_more}
use Rattle.shortfall.proofs.Chains.{ends, from-within, goes-on}
use Rattle.shortfall.proofs.chain.after_field.Goals as goal

pub returns-then-octets-left-clause-least : goal.returns-then-octets-left-clause-least
returns-then-octets-left-clause-least c = omega (
  arith,
  from-within c.args.left (says_more c.args.pcb) c.args.octets.now c.if-octets-left.true,
  c.next_least.ensures,
)

pub returns-then-says_more-clause-same : goal.returns-then-says_more-clause-same
returns-then-says_more-clause-same c =
    goes-on c.args.left (says_more c.args.pcb) c.args.octets.now c.if-octets-left.false
    (sym c.says_more.ensures ∙ c.if-says_more.true)

pub returns-else-says_more-clause-least : goal.returns-else-says_more-clause-least
returns-else-says_more-clause-least c =
    ends c.args.left (says_more c.args.pcb) c.args.octets.now c.if-octets-left.false
    (sym c.says_more.ensures ∙ c.if-says_more.false)
