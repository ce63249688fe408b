use Rattle.std.proofs.Common.{sym, ◌∙◌, subst}
use Rattle.exchange_text.specs.Reading.{UnlessMemory}
use Rattle.exchange_text.proofs.Sequel.{header-said}
use Rattle.exchange_text.proofs.WholeSound.{found-by}
use Rattle.exchange_text.proofs.reading.read_exchange.Goals as goal

pub returns-clause-said : goal.returns-clause-said
returns-clause-said c =
    let parts = rw c.in_ok-header.ensures.ok_part at c.cut_at.ensures.parts in
    subst (λ said. UnlessMemory c.rest_said.result said)
    (sym (header-said c.args.text.now c.in_ok-header.header.now c.in_ok-header.rest.now c.in_ok-version.version parts
    (sym c.version_said.ensures ∙ c.in_ok-version.was)))
    c.rest_said.ensures

pub returns-clause-found : goal.returns-clause-found
returns-clause-found c = (found-by c.rest_said.result c.args.text.now (returns-clause-said c)).0

pub returns-clause-proper : goal.returns-clause-proper
returns-clause-proper c = (found-by c.rest_said.result c.args.text.now (returns-clause-said c)).1
