use Rattle.std.proofs.Common.{arith}
use Rattle.std.proofs.lemmas.Str.Pattern.{contains_char}
use Rattle.explainer.proofs.Placing.{next-by, equals-by}
use Rattle.explainer.proofs.place.has_next.Goals as goal

pub returns-then-not-is_flag : goal.returns-then-not-is_flag
returns-then-not-is_flag c = next-by c.args.word.now c.is_flag.result c.contains.result c.if-not-is_flag.true
    c.is_flag.ensures (equals-by c.args.word.now c.contains.result
    (contains_char 61 c.args.word.now c.contains.result c.contains.ensures.cases (omega arith)))
