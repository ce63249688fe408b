use Rattle.std.proofs.Common.{◌∙◌, ◌<◌, ◌≤◌, ◌+◌, arith, length, string_bytes, sym}
use Rattle.std.proofs.lemmas.List.{length-map}
use Rattle.command_line.specs.Form.{texts}
use Rattle.explainer.specs.Known.{value_note}
use Rattle.explainer.specs.Places.{place_of}
use Rattle.explainer.proofs.Wording.{from-place, none-left, none-there, one-more, said-first, said-later}
use Rattle.explainer.proofs.known.known_note.Goals as goal

pub returns-then-place-words : goal.returns-then-place-words
returns-then-place-words c =
    let words = texts c.args.words.now in
    let past : length words ≤ place_of words c.loop-nth.nth =
    omega (arith, length-map c.args.words.now string_bytes) in
    c.new.ensures.bytes ∙ sym (none-there value_note words c.loop-nth.nth past) ∙ c.loop-nth.invariant

pub returns-then-not-is_empty : goal.returns-then-not-is_empty
returns-then-not-is_empty c =
    let words = texts c.args.words.now in
    let nth = c.loop-nth.nth in
    let inside : c.place_of-place.result < length words = omega (arith, length-map c.args.words.now string_bytes) in
    said-first c.in_ok-note.note (value_note c.place_of-place.result c.word_at.result.now)
    (from-place value_note words (nth + 1))
    c.is_empty.result c.if-not-is_empty.true c.is_empty.ensures c.in_ok-note.ensures
    ∙ sym (one-more value_note words nth c.place_of-place.result c.word_at.result.now c.place_of-place.ensures
    c.word_at.ensures inside) ∙ c.loop-nth.invariant

pub loop-nth-preserved : goal.loop-nth-preserved
loop-nth-preserved c =
    let words = texts c.args.words.now in
    let nth = c.loop-nth.nth in
    let inside : c.place_of-place.result < length words = omega (arith, length-map c.args.words.now string_bytes) in
    sym (said-later c.in_ok-note.note (value_note c.place_of-place.result c.word_at.result.now)
    (from-place value_note words (nth + 1)) c.is_empty.result c.if-not-is_empty.false c.is_empty.ensures
    c.in_ok-note.ensures)
    ∙ sym (one-more value_note words nth c.place_of-place.result c.word_at.result.now c.place_of-place.ensures
    c.word_at.ensures inside) ∙ c.loop-nth.invariant

pub returns : goal.returns
returns c =
    let words = texts c.args.words.now in
    let past : length words ≤ c.loop-nth.nth = omega (arith, length-map c.args.words.now string_bytes) in
    c.new-2.ensures.bytes ∙ sym (none-left value_note words c.loop-nth.nth past) ∙ c.loop-nth.invariant
