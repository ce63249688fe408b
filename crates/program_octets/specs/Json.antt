-- What the program prints about octets as a JSON object: its members, in their order, with a comma between two.
use Rattle.std.specs.Prelude.{ℕ, ◌-◌, List, ◌++◌, codes, decimal, length, take}

-- the octets are a value of n octets
abbrev pub accepted_members : ℕ → List ℕ
accepted_members n = codes "\"verdict\":\"ok\",\"octets\":" ++ decimal n

-- the beginning of every object: the version of its form, and its subject
abbrev pub object_head : List ℕ → List ℕ
object_head kind = codes "{\"version\":1,\"kind\":\"" ++ (kind ++ codes "\",")

-- the object with these members, in one line
abbrev pub object_line : List ℕ → List ℕ → List ℕ
object_line kind members = object_head kind ++ (members ++ codes "}\n")

-- the member with these items as notes
abbrev pub notes_member : List ℕ → List ℕ
notes_member items = codes ",\"notes\":[" ++ (items ++ codes "]")

-- an object with one more member at its end
abbrev pub with_member : List ℕ → List ℕ → List ℕ
with_member object member = take (length object - 2) object ++ (member ++ codes "}\n")

-- an object with these items as notes
abbrev pub with_notes : List ℕ → List ℕ → List ℕ
with_notes object items = with_member object (notes_member items)
