use Rattle.std.proofs.Common.{◌≡◌, ◌∙◌, List, ℕ, OnOk, Option, ap, subst}
use Rattle.atr_core.specs.Atr.{tck_of}
use Rattle.program_octets.specs.AtrTexts.{historical_place, historical_row, meaning_rows, tck_place, tck_row}
use Rattle.program_octets.specs.Places.{from_to}
use Rattle.program_octets.specs.Rows.{Sheet, with_row, with_rows}
use Rattle.program_octets.proofs.atr_rows.push_tail.Goals as goal

pub returns : goal.returns
returns c =
    let a = c.args.atr.now in
    let n = c.args.taken in
    let s : Sheet = c.args.to.now in
    let t : Sheet = c.push_word.new.self in
    let at : ℕ = c.historical_place.result in
    let end : ℕ = c.tck_place-tck.result in
    let first : t ≡ with_row s (historical_row a.historical (from_to (historical_place a n) (tck_place a n))) =
    c.in_ok-push_word.ensures
    ∙ ap (λ (h : List ℕ). with_row s (historical_row h (from_to at end))) c.historical-octets.ensures.value
    ∙ ap (λ (x : ℕ). with_row s (historical_row a.historical (from_to x end))) c.historical_place.ensures
    ∙ ap (λ (x : ℕ). with_row s (historical_row a.historical (from_to (historical_place a n) x)))
    c.tck_place-tck.ensures in
    let second : c.push_tck_row.new.to ≡ with_row t (tck_row (tck_of a) (from_to (tck_place a n) n)) =
    c.in_ok-push_tck_row.ensures ∙ ap (λ (x : Option ℕ). with_row t (tck_row x (from_to end n))) c.tck.ensures
    ∙ ap (λ (x : ℕ). with_row t (tck_row (tck_of a) (from_to x n))) c.tck_place-tck.ensures in
    subst (λ (u : Sheet). OnOk c.push_meaning.result (c.push_meaning.new.to ≡ u))
    (ap (λ (u : Sheet). with_rows u (meaning_rows a n)) (second
    ∙ ap (λ (u : Sheet). with_row u (tck_row (tck_of a) (from_to (tck_place a n) n))) first)) c.push_meaning.ensures
