use Rattle.std.proofs.Common.{◌≡◌, ◌∙◌, ℕ, List, OnOk, ap, subst}
use Rattle.atr_core.specs.Atr.{AtrParts}
use Rattle.atr_core.specs.declared.atr.Convention.{Convention}
use Rattle.atr_core.specs.declared.atr.Indicated.{Indicated}
use Rattle.atr_core.specs.declared.atr.Interface.{Interface}
use Rattle.program_octets.specs.AtrTexts.{after_bytes, atr_rows, bytes_rows, convention_row, interface_rows, tail_rows, tds_rows}
use Rattle.program_octets.specs.Rows.{Sheet, with_row, with_rows}
use Rattle.program_octets.proofs.Rendering.{rows-append}
use Rattle.program_octets.proofs.atr_rows.push_rows.Goals as goal

-- the rows in turn
in-turn : (a : AtrParts) (n at : ℕ) (s t u v : Sheet) → t ≡ with_row s (convention_row a.convention)
    → u ≡ with_rows t (bytes_rows 1 a.first 2) → at ≡ after_bytes a.first 2
    → v ≡ with_rows u (tds_rows 1 a.indicated at) → with_rows v (tail_rows a n) ≡ with_rows s (atr_rows a n)
in-turn a n at s t u v first second place third =
    let one : Sheet = with_row s (convention_row a.convention) in
    rw (third, place, second, first) (ap (λ (w : Sheet). with_rows w (tail_rows a n))
    (rows-append one (bytes_rows 1 a.first 2) (tds_rows 1 a.indicated (after_bytes a.first 2)))
    ∙ rows-append one (interface_rows a) (tail_rows a n))

pub returns : goal.returns
returns c =
    let a = c.args.atr.now in
    let first = c.in_ok-push_convention.ensures
    ∙ ap (λ (x : Convention). with_row c.args.to.now (convention_row x)) c.convention.ensures in
    let second = c.in_ok-at.ensures.rows
    ∙ ap (λ (x : Interface). with_rows c.push_convention.new.to (bytes_rows 1 x 2)) c.first.ensures in
    let place = c.in_ok-at.ensures.after ∙ ap (λ (x : Interface). after_bytes x 2) c.first.ensures in
    let third = c.in_ok-push_tds.ensures
    ∙ ap (λ (x : List Indicated). with_rows c.push_bytes.new.to (tds_rows 1 x c.in_ok-at.at)) c.indicated.ensures.value
    in
    subst (λ (s : Sheet). OnOk c.push_tail.result (c.push_tail.new.to ≡ s))
    (in-turn a c.args.taken c.in_ok-at.at c.args.to.now c.push_convention.new.to c.push_bytes.new.to
    c.push_tds.new.to first second place third) c.push_tail.ensures
