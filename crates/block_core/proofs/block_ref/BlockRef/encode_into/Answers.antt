use Rattle.std.proofs.Common.{◌+◌, length, subst}
use Rattle.block_core.specs.Block.{Parts, IsPut}
use Rattle.block_core.proofs.Puts.{block-put}
use Rattle.block_core.proofs.block_ref.BlockRef.encode_into.Goals as goal

pub returns-clause-put : goal.returns-clause-put
returns-clause-put c =
    let block : Parts = record { nad = c.self.inside.nad; pcb = c.self.inside.pcb; inf = c.self.inside.inf.now } in
    subst (λ (v : Parts). IsPut v c.args.out.now c.put-3.new.out (length c.self.inside.inf.now + 4)) c.self.view_is
    (block-put block c.args.out.now c.put.new.out c.put-2.new.out c.put-3.new.out c.octet.result c.lrc.result
    c.sum_of.result c.self.invariant c.octet.ensures c.put.ensures c.put-2.ensures c.lrc.ensures c.sum_of.ensures
    c.put-3.ensures)
