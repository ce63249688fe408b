use Rattle.std.proofs.Common.{◌≡◌, ◌∙◌, [], List, ℕ, None, ap, nat_lt, string_bytes, subst, sym, true}
use Rattle.std.specs.List.{list_any}
use Rattle.std.proofs.lemmas.Result.{IfOk-weaker}
use Rattle.explainer.specs.Notes.{some_unsent, unsent_line, unsent_shown}
use Rattle.explainer.proofs.blocks.list_note.Goals as goal

pub returns : goal.returns
returns c =
    let named : list_any (λ number. nat_lt c.args.sent number) c.args.blocks.now ≡ true =
    subst (λ (b : List ℕ). list_any (λ number. nat_lt c.args.sent number) b ≡ true) c.get.ensures
    (sym c.names_unsent.ensures ∙ c.if-not-names_unsent.false) in
    let shown : string_bytes c.in_ok-numbers.numbers ≡ unsent_shown c.args.sent c.args.blocks.now [] None =
    c.in_ok-numbers.ensures ∙ ap (λ (b : List ℕ). unsent_shown c.args.sent b [] None) c.get-2.ensures in
    IfOk-weaker c.format.result _ _ (λ note h. some_unsent named
    (h ∙ ap (λ text. unsent_line c.args.option.now text c.args.sent) shown))
    c.format.ensures.ok
