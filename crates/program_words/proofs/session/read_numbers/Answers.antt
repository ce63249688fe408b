use Rattle.std.proofs.Common.{Some, None, rules, arith}
use Rattle.std.proofs.lemmas.Str.Pattern.{split_parts}
use Rattle.std.proofs.lemmas.Result.{err_from_is_err_and}
use Rattle.program_words.proofs.Numbers.{last-part, next-part, part-fault}
use Rattle.program_words.proofs.session.read_numbers.Goals as goal

pub returns-in_err-named : goal.returns-in_err-named
returns-in_err-named c =
    let parts = split_parts 44 c.parts.rest.now (Some (c.in-Some.part, c.in-Some.after)) c.in-Some.ensures.cases
    (omega arith) in
    let fault = err_from_is_err_and c.from_residual.result c.from_residual.ensures.1 in
    rw (fault.1, fault.2) (part-fault c.parts.named c.in_err-named.field-0.0 c.args.word.now c.parts.rest.now
    c.in-Some.part.now c.in-Some.after.now parts.0 parts.1 (rw c.in_err-named.was at c.with_part.ensures)
    c.parts.invariant.1)

pub parts-preserved : goal.parts-preserved
parts-preserved c =
    let parts = split_parts 44 c.parts.rest.now (Some (c.in-Some.part, c.in-Some.after)) c.in-Some.ensures.cases
    (omega arith) in (
      search rules,
      next-part c.parts.named c.in_ok-named.named c.args.word.now c.parts.rest.now c.in-Some.part.now
          c.in-Some.after.now parts.0 parts.1 c.in_ok-named.ensures c.parts.invariant.1,
    )

pub returns : goal.returns
returns c =
    let lacks = split_parts 44 c.parts.rest.now None c.in_default.ensures.cases (omega arith) in
    last-part c.parts.named c.with_part-2.result c.args.word.now c.parts.rest.now lacks c.with_part-2.ensures
    c.parts.invariant.1
