use Rattle.std.proofs.Common.{◌≡◌, ◌∙◌, ◌++◌, true, [], List, ap, append_assoc, refl, string_bytes}
use Rattle.layouts.specs.declared.layout.Layout.TheVariants.{Json}
use Rattle.program_octets.specs.Codec.{rows_members}
use Rattle.program_octets.specs.Json.{notes_member}
use Rattle.program_octets.specs.Places.{with_places}
use Rattle.program_octets.specs.Rows.{Row, Sheet, notes_of, places_of, sheet, with_rows}
use Rattle.program_octets.proofs.Pushes.{last-added}
use Rattle.program_octets.proofs.Rendering.{notes-rendered, places-rendered}
use Rattle.program_octets.proofs.shown.push_rows.Goals as goal

pub returns-then-noted : goal.returns-then-noted
returns-then-noted g c =
    let rows : List Row = g.V.Showable.rows c.args.value.now c.args.taken in
    let all : c.push_rows.new.to ≡ with_rows (sheet Json c.args.noted [] []) rows =
    c.in_ok-push_rows.ensures ∙ ap (λ (s : Sheet). with_rows s rows) c.in_ok-rows.ensures in
    let noted : c.push_rows.new.to ≡ with_rows (sheet Json true [] []) rows =
    all ∙ ap (λ t. with_rows (sheet Json t [] []) rows) c.if-noted.true in
    let places : c.places.result.now ≡ with_places [] (places_of rows) =
    c.places.ensures ∙ ap (λ (s : Sheet). s.text) all ∙ places-rendered c.args.noted [] [] rows in
    let notes : c.notes.result.now ≡ notes_of rows =
    c.notes.ensures ∙ ap (λ (s : Sheet). s.notes) noted ∙ notes-rendered [] [] rows in
    let whole : string_bytes c.push_places.new.text ++ notes_member c.notes.result.now
    ≡ string_bytes c.args.text.now ++ rows_members c.args.noted rows =
    simp (c.if-noted.true, c.in_ok-push_places.ensures, places, notes, append_assoc) refl in
    last-added c.push_notes.result _ _ _ whole c.push_notes.ensures

pub returns : goal.returns
returns g c =
    let rows : List Row = g.V.Showable.rows c.args.value.now c.args.taken in
    let places : c.places.result.now ≡ with_places [] (places_of rows) =
    c.places.ensures ∙ ap (λ (s : Sheet). s.text) c.in_ok-push_rows.ensures
    ∙ ap (λ (s : Sheet). (with_rows s rows).text) c.in_ok-rows.ensures ∙ places-rendered c.args.noted [] [] rows in
    rw (c.if-noted.false, c.in_ok-push_places.ensures, places) refl
