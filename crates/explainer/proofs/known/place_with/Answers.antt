use Rattle.std.proofs.Common.{◌∙◌, ap, length, rules, tests}
use Rattle.std.specs.Prelude.{bytes_eq}
use Rattle.std.specs.Option.{unwrap_or}
use Rattle.std.proofs.lemmas.Iterator.{YieldsList-from_slice}
use Rattle.std.proofs.lemmas.Iterator.Search.{position_from_yields_List}
use Rattle.explainer.proofs.Twice.{placed-or-past}
use Rattle.explainer.proofs.known.place_with.Goals as goal

pub returns : goal.returns
returns c = c.unwrap_or.ensures
    ∙ ap (λ o. unwrap_or o (length c.args.known.now))
    (position_from_yields_List (λ one. bytes_eq c.args.tag.now one.tag) _ _ c.position.result c.position.ensures.ran
    (YieldsList-from_slice c.args.known.now c.iter.ensures.rest) (λ x b q k. search (rules, tests)))
    ∙ placed-or-past c.args.tag.now c.args.known.now
