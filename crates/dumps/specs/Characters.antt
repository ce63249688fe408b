-- The characters in front of a text: digits, groups of them, blanks, and a column that shows octets.
use Rattle.std.specs.Prelude.{ℕ, ◌+◌, ◌-◌, ◌*◌, ◌==◌, ◌&&◌, ◌||◌, nat_le, not, List, [], ◌∷◌, ◌++◌, Bool, drop, true, false, Option, Some, None, if◌then◌else◌}

-- a character from the first to the last of these two
abbrev pub is_within : ℕ → ℕ → ℕ → Bool
is_within first last x = nat_le first x && nat_le x last

-- the value of a digit 0 to 9, A to F or a to f, 16 for any other character
abbrev pub digit : ℕ → ℕ
digit x =
    if is_within 48 57 x then x - 48
    else (if is_within 65 70 x then x - 55
    else (if is_within 97 102 x then x - 87
    else 16))

abbrev pub is_digit : ℕ → Bool
is_digit x = not (digit x == 16)

-- two digits, and their octet
abbrev pub is_pair : ℕ → ℕ → Bool
is_pair x y = is_digit x && is_digit y

abbrev pub octet_at : ℕ → ℕ → ℕ
octet_at x y = digit x * 16 + digit y

-- ---- groups

abbrev pub joined_to : List ℕ → List ℕ × List ℕ → List ℕ × List ℕ
joined_to octets read = (octets ++ read.0, read.1)

-- The octets of the groups in front of a text, and the text after them. One blank comes before each group. If groups
-- join, a group has one or more octets, else one. spaced: a blank comes before the text.
abbrev pub groups : Bool → Bool → List ℕ → List ℕ × List ℕ
groups joins spaced [] = ([], [])
groups joins spaced (x ∷ []) = if not spaced && x == 32 then ([], []) else ([], x ∷ [])
groups joins spaced (x ∷ y ∷ more) =
    if not spaced && x == 32 then groups joins true (y ∷ more)
    else (if (spaced || joins) && is_pair x y then joined_to (octet_at x y ∷ []) (groups joins false more)
    else ([], x ∷ y ∷ more))

-- a text begins with a blank
abbrev pub is_after_blank : List ℕ → Bool
is_after_blank (x ∷ more) = x == 32
is_after_blank [] = false

-- the octet in front of a text, if it is allowed there, and the text after it
abbrev pub front_octet : Bool → List ℕ → Option (Option ℕ × List ℕ)
front_octet may_begin (x ∷ y ∷ more) = if may_begin && is_pair x y then Some (Some (octet_at x y), more) else None
front_octet may_begin _ = None

-- one step of groups: a blank or an octet, and the text after it
abbrev pub step : Bool → Bool → List ℕ → Option (Option ℕ × List ℕ)
step joins spaced text =
    if not spaced && is_after_blank text then Some (None, drop 1 text) else front_octet (spaced || joins) text

-- ---- the column of characters

abbrev pub after_blanks : List ℕ → List ℕ
after_blanks [] = []
after_blanks (x ∷ more) = if x == 32 then after_blanks more else x ∷ more

-- an octet 20 to 7E is shown as it is, any other octet as a full stop
abbrev pub shown : ℕ → ℕ
shown octet = if is_within 32 126 octet then octet else 46

-- the text after the characters that show these octets, if it begins with them
abbrev pub after_shown : List ℕ → List ℕ → Option (List ℕ)
after_shown [] text = Some text
after_shown (octet ∷ octets) [] = None
after_shown (octet ∷ octets) (x ∷ text) = if x == shown octet then after_shown octets text else None
