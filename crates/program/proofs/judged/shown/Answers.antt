use Rattle.program.proofs.judged.shown.Goals as goal

pub returns-in-Atr : goal.returns-in-Atr
returns-in-Atr c = rw c.in-Atr.is (rw c.in-Atr.is at c.shown_by.ensures)

pub returns-in-Block : goal.returns-in-Block
returns-in-Block c = rw c.in-Block.is (rw c.in-Block.is at c.shown_by-in-Block.ensures)

pub returns-in-Chain : goal.returns-in-Chain
returns-in-Chain c = rw c.in-Chain.is (rw c.in-Chain.is at c.shown_by-in-Chain.ensures)

pub returns-in-Command : goal.returns-in-Command
returns-in-Command c = rw c.in-Command.is (rw c.in-Command.is at c.shown_by-in-Command.ensures)

pub returns-in-Response : goal.returns-in-Response
returns-in-Response c = rw c.in-Response.is (rw c.in-Response.is at c.shown_by-in-Response.ensures)

pub returns-in-Tlv : goal.returns-in-Tlv
returns-in-Tlv c = rw c.in-Tlv.is (rw c.in-Tlv.is at c.shown_by-in-Tlv.ensures)

pub returns-in-Dol : goal.returns-in-Dol
returns-in-Dol c = rw c.in-Dol.is (rw c.in-Dol.is at c.shown_by-in-Dol.ensures)
