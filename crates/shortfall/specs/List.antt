-- Data object lists: EMV 4.3 Book 3, clause 5.4.
use Rattle.std.specs.Prelude.{ℕ, List, ◌++◌, [], ◌∷◌, if◌then◌else◌}
use Rattle.tlv_core.specs.Tag.{is_tag}

-- the octets of the unfinished entry at the end of a list: of its tag, which is whole if its length comes next
abbrev pub begun_after : List ℕ → List ℕ → List ℕ
begun_after tag [] = tag
begun_after tag (x ∷ more) = begun_after (if is_tag tag then [] else tag ++ x ∷ []) more

-- after the first octets of an entry: the length after a whole tag, else one more octet of the tag as well
abbrev pub entry_least : List ℕ → ℕ
entry_least [] = 0
entry_least (x ∷ more) = if is_tag (x ∷ more) then 1 else 2

abbrev pub list_least : List ℕ → ℕ
list_least b = entry_least (begun_after [] b)
