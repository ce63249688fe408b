-- The octets that a tag holds.
use Rattle.std.specs.Prelude.{◌≡◌, ℕ, List, [], ◌∷◌, ◌++◌, length, take}
use Rattle.std.proofs.Common.{ap, ◌∙◌}
use Rattle.tlv_core.specs.Tag.{IsTag}
use Rattle.tlv_core.specs.declared.tag.Tag.TheInside.{Inside}

-- the first `count` octets
abbrev pub octets_of_tag : Inside → List ℕ
octets_of_tag a = take a.count a.octets

-- the octets of a tag, with zeros after them up to three
abbrev pub padded : List ℕ → List ℕ
padded b = take 3 (b ++ 0 ∷ 0 ∷ 0 ∷ [])

-- the octets are a whole tag, and the fields are what its octets give
pub record IsWholeTag (a : Inside) : Type 0 where
  pub tag : IsTag (octets_of_tag a)
  pub count : length (octets_of_tag a) ≡ a.count
  pub octets : padded (octets_of_tag a) ≡ a.octets

-- the fields of a tag that has these octets
abbrev pub tag_of_octets : List ℕ → Inside
tag_of_octets b = record { octets = padded b; count = length b }

-- a whole tag is the one that its octets make
pub tag_back : (a : Inside) → IsWholeTag a → tag_of_octets (octets_of_tag a) ≡ a
tag_back a h = ap (λ (o : List ℕ). record { octets = o; count = length (octets_of_tag a) }) h.octets
    ∙ ap (λ (n : ℕ). record { octets = a.octets; count = n }) h.count
