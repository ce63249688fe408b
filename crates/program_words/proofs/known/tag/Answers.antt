use Rattle.std.proofs.lemmas.Result.{err_from_is_err_and}
use Rattle.program_words.proofs.Values.{refused-tag}
use Rattle.program_words.proofs.known.tag.Goals as goal

pub returns-in_err-octets : goal.returns-in_err-octets
returns-in_err-octets c =
    let fault = err_from_is_err_and c.from_residual.result c.from_residual.ensures.1 in
    rw (fault.1, fault.2) (refused-tag c.args.word.now c.in_err-octets.field-0.0 c.in_err-octets.ensures.fault)
