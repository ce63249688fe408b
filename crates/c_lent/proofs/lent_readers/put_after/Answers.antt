use Rattle.std.proofs.Common.{◌≡◌, take, arith, ◌∙◌}
use Rattle.c_lent.proofs.Reading.{put-after}
use Rattle.c_lent.proofs.lent_readers.put_after.Goals as goal

pub returns-clause-put : goal.returns-clause-put
returns-clause-put c =
    let run : c.copy_from_slice.new.self ≡ take c.min-more.result c.args.piece.now =
    c.copy_from_slice.ensures.after ∙ grind arith in
    put-after c.args.octets.now c.args.piece.now c.copy_from_slice.new.self c.args.held c.min-more.result _
    (omega arith) (omega arith) run
