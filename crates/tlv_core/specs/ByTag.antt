-- Known values by the octets of their tags.
use Rattle.std.specs.Prelude.{◌≡◌, ℕ, List}
use Rattle.std.specs.Option.{option_copied}
use Rattle.std.specs.Ordering.{nat_cmp}
use Rattle.std.specs.declared.cmp.Ordering.{Ordering}
use Rattle.std.specs.Cmp.Lexicographic.{slice_cmp}
use Rattle.std.specs.BTreeMap.{BTreeMap, get}
use denote.Bor.{Bor}
use Rattle.tlv_core.specs.declared.known.Known.{Known}
use Rattle.tlv_core.specs.Fill.{known_for}

-- the order of the map: the first octets that differ decide
abbrev pub tag_cmp : Bor (List ℕ) → Bor (List ℕ) → Ordering
tag_cmp a b = slice_cmp nat_cmp a.now b.now

-- at each tag the map has the known value with that tag, or nothing if there is none
abbrev pub HasAll : List Known → BTreeMap (Bor (List ℕ)) (Bor Known) → Type 0
HasAll known placed = (tag : Bor (List ℕ)) → option_copied (get tag_cmp placed tag) ≡ known_for tag.now known
