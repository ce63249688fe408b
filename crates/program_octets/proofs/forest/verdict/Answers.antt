use Rattle.std.proofs.Common.{[], refl}
use Rattle.std.proofs.lemmas.Result.{err_from_is_err_and}
use Rattle.program_octets.proofs.Forests.{fed-verdict, fed-refused}
use Rattle.program_octets.proofs.forest.verdict.Goals as goal

pub returns-in_err-feed : goal.returns-in_err-feed
returns-in_err-feed c =
    let p = err_from_is_err_and c.from_residual.result c.from_residual.ensures.1 in
    rw (p.1, p.2) (fed-refused c.new-check.result c.args.octets.now c.in_err-feed.field-0.0 c.new-check.ensures.limit
    ((c.new-check.ensures.nothing []).1 refl) c.in_err-feed.ensures.refused)

pub returns : goal.returns
returns c = fed-verdict c.new-check.result c.feed.new.self c.args.octets.now c.finish.result c.new-check.ensures.limit
    ((c.new-check.ensures.nothing []).1 refl) c.feed.ensures.limit c.in_ok-feed.ensures.taken c.finish.ensures.verdict
