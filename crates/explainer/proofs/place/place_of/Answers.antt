use Rattle.std.proofs.Common.{◌∙◌, ◌≡◌, ◌<◌, ◌+◌, arith, drop, length, sym, map, string_bytes}
use Rattle.std.specs.Prelude.{bytes_eq, codes, true}
use Rattle.std.proofs.lemmas.List.{length-drop, length-map}
use Rattle.command_line.specs.Form.{texts}
use Rattle.explainer.specs.Places.{word_at}
use Rattle.explainer.proofs.Placing.{at-end, counted-on}
use Rattle.explainer.proofs.place.place_of.Goals as goal

pub returns-then-eq : goal.returns-then-eq
returns-then-eq c =
    let words = texts c.args.words.now in
    let number = c.loop-number.number in
    let many : length words ≡ length c.args.words.now = length-map c.args.words.now string_bytes in
    let inside : number < length words = omega (arith, many) in
    let dashes : bytes_eq (word_at words number) (codes "--") ≡ true =
    rw (sym c.word_at-word.ensures) (sym c.eq.ensures ∙ c.if-eq.true) in
    let rest : number + 1 + length (drop (number + 1) words) ≡ length words =
    omega (arith, length-drop (number + 1) words, inside) in
    rw (sym many) at c.place_after.ensures ∙ sym (counted-on number c.loop-number.left
    (length (drop (number + 1) words)) (length words) rest)
    ∙ sym (at-end words number c.loop-number.left c.loop-number.is_value inside dashes) ∙ c.loop-number.invariant
