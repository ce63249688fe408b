use Rattle.std.proofs.Common.{◌≡◌, ◌∙◌, IfOk, ap, string_bytes}
use Rattle.std.proofs.lemmas.Result.{IfOk-weaker}
use Rattle.command_line.specs.Form.{texts}
use Rattle.explainer.specs.Known.{twice, twice_note}
use Rattle.explainer.proofs.Twice.{that-other}
use Rattle.explainer.proofs.known.duplicate_note.Goals as goal

pub returns-in-Some : goal.returns-in-Some
returns-in-Some c =
    let words = texts c.args.words.now in
    let pair = rw c.in-Some.is at c.in_ok-first.ensures in
    let said : IfOk c.twice_note.result (λ note. string_bytes note
    ≡ twice_note words c.in-Some.first c.in-Some.second c.index-known-second.result.tag) =
    rw c.index-known-second.is c.twice_note.ensures in
    IfOk-weaker c.twice_note.result _ _ (λ note h. twice c.in-Some.first c.in-Some.second pair
    (h ∙ ap (twice_note words c.in-Some.first c.in-Some.second)
    (that-other c.args.known.now c.in-Some.first c.in-Some.second c.index-known-second.result pair
    c.index-known-second.is))) said
