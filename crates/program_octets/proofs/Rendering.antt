-- How rows are rendered one after another.
use Rattle.std.proofs.Common.{◌≡◌, ◌∙◌, ◌++◌, ℕ, Bool, true, false, List, [], ◌∷◌, Result, Ok, Err, OnOk, append-nil, append_assoc, ap, refl, sym}
use Rattle.answer_json.specs.Notes.{with_note}
use Rattle.layouts.specs.Items.{with_item}
use Rattle.layouts.specs.declared.layout.Layout.{Layout}
use Rattle.layouts.specs.declared.layout.Layout.TheVariants.{Lines, Json}
use Rattle.notes.specs.Noted.{where_noted}
use Rattle.program_octets.specs.Places.{place_text, with_places}
use Rattle.program_octets.specs.Rows.{Row, Sheet, line_text, lines_of, places_of, row, sheet, with_notes_of, with_row, with_rows}

-- ---- what is rendered of rows

pub lines-rendered : (noted : Bool) (text notes : List ℕ) (rows : List Row)
    → (with_rows (sheet Lines noted text notes) rows).text ≡ text ++ lines_of noted rows
unfolding with_row
lines-rendered noted text notes [] = sym (append-nil text)
lines-rendered noted text notes (r ∷ rows) =
    let line : List ℕ = line_text r.line (where_noted noted r.note) in
    lines-rendered noted (text ++ line) notes rows ∙ append_assoc text line (lines_of noted rows)

pub places-rendered : (noted : Bool) (items notes : List ℕ) (rows : List Row)
    → (with_rows (sheet Json noted items notes) rows).text ≡ with_places items (places_of rows)
unfolding with_row
places-rendered noted items notes [] = refl
places-rendered noted items notes (r ∷ rows) =
    places-rendered noted (with_item items (place_text r.place)) (with_note notes r.line (where_noted noted r.note))
    rows

pub notes-rendered : (items notes : List ℕ) (rows : List Row)
    → (with_rows (sheet Json true items notes) rows).notes ≡ with_notes_of notes rows
unfolding with_row
notes-rendered items notes [] = refl
notes-rendered items notes (r ∷ rows) =
    notes-rendered (with_item items (place_text r.place)) (with_note notes r.line r.note) rows

-- ---- rows after others

pub rows-append : (s : Sheet) (rows others : List Row) → with_rows (with_rows s rows) others
    ≡ with_rows s (rows ++ others)
rows-append s [] others = refl
rows-append s (r ∷ rows) others = rows-append (with_row s r) rows others

pub lines-append : (noted : Bool) (rows others : List Row)
    → lines_of noted (rows ++ others) ≡ lines_of noted rows ++ lines_of noted others
lines-append noted [] others = refl
lines-append noted (r ∷ rows) others =
    let line : List ℕ = line_text r.line (where_noted noted r.note) in
    ap (λ (l : List ℕ). line ++ l) (lines-append noted rows others)
    ∙ sym (append_assoc line (lines_of noted rows) (lines_of noted others))

pub places-append : (rows others : List Row) → places_of (rows ++ others) ≡ places_of rows ++ places_of others
places-append [] others = refl
places-append (r ∷ rows) others = ap (λ (l : List (List (ℕ × ℕ))). r.place ∷ l) (places-append rows others)

pub notes-append : (items : List ℕ) (rows others : List Row)
    → with_notes_of items (rows ++ others) ≡ with_notes_of (with_notes_of items rows) others
notes-append items [] others = refl
notes-append items (r ∷ rows) others = notes-append (with_note items r.line r.note) rows others

-- ---- one row

pub line-with : (s : Sheet) (layout : Layout) (noted : Bool) (text notes line note new : List ℕ)
    (place : List (ℕ × ℕ)) → s ≡ sheet layout noted text notes → layout ≡ Lines
    → new ≡ text ++ line_text line (where_noted noted note)
    → sheet layout noted new notes ≡ with_row s (row line note place)
unfolding with_row
line-with s layout noted text notes line note new place is lines added = rw (is, lines, added) refl

-- a row with its place as an item, and its note as another one
pub items-noted : (s t : Sheet) (layout : Layout) (noted : Bool) (text notes line note new : List ℕ)
    (place : List (ℕ × ℕ)) → s ≡ sheet layout noted text notes → layout ≡ Json → noted ≡ true
    → new ≡ with_item text (place_text place) → t ≡ sheet layout noted new (with_note notes line note)
    → t ≡ with_row s (row line note place)
unfolding with_row
items-noted s t layout noted text notes line note new place is json notes-are added said =
    rw (said, is, json, notes-are, added) refl

-- a row with its place as an item, where no notes are asked for
pub items-plain : (s : Sheet) (layout : Layout) (noted : Bool) (text notes line note new : List ℕ)
    (place : List (ℕ × ℕ)) → s ≡ sheet layout noted text notes → layout ≡ Json → noted ≡ false
    → new ≡ with_item text (place_text place) → sheet layout noted new notes ≡ with_row s (row line note place)
unfolding with_row
items-plain s layout noted text notes line note new place is json plain added =
    rw (is, json, plain, added) refl

-- what holds where a call succeeds
pub on-ok : {T E : Type 0} (P Q : Type 0) (r : Result T E) → (P → Q) → OnOk r P → OnOk r Q
on-ok P Q (Ok v) f h = f h
on-ok P Q (Err e) f h = tt
