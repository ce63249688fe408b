use Rattle.std.proofs.Common.{false, rules, true}
use Rattle.program.proofs.Explaining.{read-with, word-taken-with}
use Rattle.program.proofs.replies.octets_taken.Goals as goal

pub returns-in-Word-clause-taken : goal.returns-in-Word-clause-taken
returns-in-Word-clause-taken g c =
    rw c.in-Word.is (word-taken-with c.args.explains c.in-Word.octets _ _ _ (search rules))

pub returns-then-explains-clause-taken : goal.returns-then-explains-clause-taken
returns-then-explains-clause-taken g c =
    rw c.in-Read.is (read-with c.in-Read.form _ c.in_ok-text-in-Read.text c.read_explained.result
    c.in_ok-text-in-Read.ensures c.read_explained.ensures.octets c.args.explains true c.if-explains.true
    c.read_explained.ensures.note)

pub returns-else-explains-clause-taken : goal.returns-else-explains-clause-taken
returns-else-explains-clause-taken g c =
    rw c.in-Read.is (read-with c.in-Read.form _ c.in_ok-text-in-Read.text c.read_as.result
    c.in_ok-text-in-Read.ensures c.read_as.ensures.octets c.args.explains false c.if-explains.false
    c.read_as.ensures.note)
