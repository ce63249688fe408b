-- Lines with notes, and how the notes are cut off.
use Rattle.std.specs.Prelude.{◌≡◌, ◌≢◌, ◌==◌, ◌++◌, ◌-◌, not, ℕ, List, [], ◌∷◌, All, codes, drop, length, take, Bool, true, false, if◌then◌else◌}
use Rattle.std.specs.List.{list_all}

-- the beginning of a note
abbrev pub mark : List ℕ
mark = codes "  # "

-- words as a note: none if they are empty
abbrev pub marked : List ℕ → List ℕ
marked [] = []
marked (x ∷ words) = mark ++ (x ∷ words)

-- a note, if notes are asked for
abbrev pub where_noted : Bool → List ℕ → List ℕ
where_noted true note = note
where_noted false note = []

-- a note has no line end
abbrev pub IsNote : List ℕ → Type 0
IsNote note = All (λ x. x ≢ 10) note

-- what comes between a line and its end: nothing, or a note
pub data IsAdded (x : ℕ) (added : List ℕ) : Type 0 where
  nothing : added ≡ [] → IsAdded x added
  note : (said : List ℕ) → x ≡ 10 → IsNote said → added ≡ mark ++ said → IsAdded x added

-- A text with notes: its octets in their order, and possibly a note before a line end.
abbrev pub IsNoted : List ℕ → List ℕ → Type 0
IsNoted [] noted = noted ≡ []
IsNoted (x ∷ plain) noted =
    (added : List ℕ) × (more : List ℕ) × IsAdded x added × (noted ≡ added ++ (x ∷ more)) × IsNoted plain more

-- words without a line end
abbrev pub kept : List ℕ → List ℕ
kept words = if list_all (λ x. not (x == 10)) words then words else []

-- a line with words as a note before its last octet, the line end
abbrev pub noted_line : List ℕ → List ℕ → List ℕ
noted_line line words = take (length line - 1) line ++ (marked (kept words) ++ drop (length line - 1) line)

-- a text without a number sign
abbrev pub LacksSign : List ℕ → Type 0
LacksSign text = All (λ x. x ≢ 35) text

-- ---- cutting

-- a note begins here
abbrev pub begins_note : List ℕ → Bool
begins_note (a ∷ b ∷ c ∷ d ∷ rest) =
    if a == 32 then (if b == 32 then (if c == 35 then d == 32 else false) else false) else false
begins_note _ = false

-- the text, with each line cut at the beginning of its first note
abbrev pub cut_in : Bool → List ℕ → List ℕ
cut_in inside [] = []
cut_in true (x ∷ text) = if x == 10 then x ∷ cut_in false text else cut_in true text
cut_in false (x ∷ text) = if begins_note (x ∷ text) then cut_in true text else x ∷ cut_in false text

abbrev pub without_notes : List ℕ → List ℕ
without_notes text = cut_in false text
