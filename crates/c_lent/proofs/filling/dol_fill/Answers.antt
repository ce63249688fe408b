use Rattle.std.proofs.Common.{map, [], arith}
use Rattle.c_lent.specs.Fill.{known_seen}
use Rattle.c_lent.proofs.FilledLists.{fills-put}
use Rattle.c_lent.proofs.filling.dol_fill.Goals as goal

pub returns-in-Ok-3-clause-filled : goal.returns-in-Ok-3-clause-filled
returns-in-Ok-3-clause-filled c = λ _ _ _ _.
    fills-put c.args.list.now (map known_seen c.args.known.now) c.args.out.now c.put_parts-put.new.out
    [] c.put_parts.new.out c.in-Ok.field-0 c.put_parts-put.result c.ok.result c.in-Ok.ensures.ok
    c.put_parts-put.ensures.ok c.put_parts-put.ensures.refused
    (λ h. let yes = c.has_duplicate.ensures.1 h in cc) (omega arith) c.ok.ensures
