-- The lines of an answer as rows, and what is rendered of them.
use Rattle.std.specs.Prelude.{ℕ, List, [], ◌∷◌, ◌++◌, Bool, codes}
use Rattle.answer_json.specs.Notes.{with_note}
use Rattle.layouts.specs.Items.{with_item}
use Rattle.layouts.specs.declared.layout.Layout.{Layout}
use Rattle.layouts.specs.declared.layout.Layout.TheVariants.{Lines, Json}
use Rattle.notes.specs.Noted.{marked, where_noted}
use Rattle.program_octets.specs.Places.{place_text}

-- a line without its end, the note on it, which is empty if it has none, and the octets that it is about
pub record Row : Type 0 where
  pub line : List ℕ
  pub note : List ℕ
  pub place : List (ℕ × ℕ)

abbrev pub row : List ℕ → List ℕ → List (ℕ × ℕ) → Row
row line note place = record { line = line; note = note; place = place }

-- ---- renderings

-- a line with its note
abbrev pub line_text : List ℕ → List ℕ → List ℕ
line_text line note = line ++ (marked note ++ codes "\n")

-- the lines of rows, with notes if they are noted
abbrev pub lines_of : Bool → List Row → List ℕ
lines_of noted [] = []
lines_of noted (r ∷ rows) = line_text r.line (where_noted noted r.note) ++ lines_of noted rows

-- the octets of each row
abbrev pub places_of : List Row → List (List (ℕ × ℕ))
places_of [] = []
places_of (r ∷ rows) = r.place ∷ places_of rows

-- the items of an array, and each row that has a note, as its line and its note
abbrev pub with_notes_of : List ℕ → List Row → List ℕ
with_notes_of items [] = items
with_notes_of items (r ∷ rows) = with_notes_of (with_note items r.line r.note) rows

abbrev pub notes_of : List Row → List ℕ
notes_of rows = with_notes_of [] rows

-- ---- row by row

-- what is rendered so far: the lines; or, for an object, the items of `places` and of `notes`
pub record Sheet : Type 0 where
  pub layout : Layout
  pub noted : Bool
  pub text : List ℕ
  pub notes : List ℕ

abbrev pub sheet : Layout → Bool → List ℕ → List ℕ → Sheet
sheet layout noted text notes = record { layout = layout; noted = noted; text = text; notes = notes }

abbrev pub text_with : Layout → List ℕ → List ℕ → List ℕ → List (ℕ × ℕ) → List ℕ
text_with Lines text line note place = text ++ line_text line note
text_with Json items line note place = with_item items (place_text place)

abbrev pub notes_with : Layout → List ℕ → List ℕ → List ℕ → List ℕ
notes_with Lines items line note = items
notes_with Json items line note = with_note items line note

unfoldable pub with_row : Sheet → Row → Sheet
with_row s r = sheet s.layout s.noted (text_with s.layout s.text r.line (where_noted s.noted r.note) r.place)
    (notes_with s.layout s.notes r.line (where_noted s.noted r.note))

abbrev pub with_rows : Sheet → List Row → Sheet
with_rows s [] = s
with_rows s (r ∷ rows) = with_rows (with_row s r) rows
