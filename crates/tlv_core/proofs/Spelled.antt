-- A spelling is octets.
use Rattle.std.proofs.Common.{ℕ, ◌+◌, ◌<◌, List, [], ◌∷◌, ◌++◌, length, sym, subst, arith}
use Rattle.octet_core.specs.Octets.{AreOctets}
use Rattle.octet_core.specs.Grammar.{Begins}
use Rattle.octet_core.proofs.Lists.{octets-cons, octets-append, octets-left}
use Rattle.tlv_core.specs.declared.form.Form.{Form}
use Rattle.tlv_core.specs.Form.{capacity}
use Rattle.tlv_core.specs.Tag.{IsTag, length_field, header_of}
use Rattle.tlv_core.specs.Tree.{Tree, End, Filler, Primitive, Constructed}
use Rattle.tlv_core.specs.Forest.{spelling, IsProper, IsForest}
use Rattle.tlv_core.proofs.Forms.{octets-field}
use Rattle.tlv_core.proofs.Numbers.{octets_nil}

-- a tag is octets
pub octets-tag : (tag : List ℕ) → IsTag tag → AreOctets tag
octets-tag [] h = absurd h
octets-tag (x ∷ []) h = octets-cons x [] h.1 octets_nil
octets-tag (x ∷ y ∷ []) h = octets-cons x (y ∷ []) h.0 (octets-cons y [] (omega arith) octets_nil)
octets-tag (x ∷ y ∷ z ∷ []) h = octets-cons x (y ∷ z ∷ []) h.0
    (octets-cons y (z ∷ []) h.3 (octets-cons z [] (omega arith) octets_nil))
octets-tag (x ∷ y ∷ z ∷ w ∷ more) h = absurd h

-- a header is octets
pub octets-header : (tag : List ℕ) (form : Form) (n : ℕ) → IsTag tag → n < capacity form
    → AreOctets (header_of tag form n)
octets-header tag form n h lt = octets-append tag (length_field form n) (octets-tag tag h) (octets-field form n lt)

-- the spelling of a proper list is octets
pub octets-spelling : (t : Tree) (d : ℕ) → IsProper d t → AreOctets (spelling t)
octets-spelling End d h = octets_nil
octets-spelling (Filler rest) d h = octets-cons 0 (spelling rest) (omega arith) (octets-spelling rest d h)
octets-spelling (Primitive tag form value rest) d h =
    octets-append (header_of tag form (length value)) (value ++ spelling rest)
    (octets-header tag form (length value) h.0.is_tag h.0.fits)
    (octets-append value (spelling rest) h.1 (octets-spelling rest d h.2))
octets-spelling (Constructed tag form nodes rest) d h =
    octets-append (header_of tag form (length (spelling nodes))) (spelling nodes ++ spelling rest)
    (octets-header tag form (length (spelling nodes)) h.0.is_tag h.0.fits)
    (octets-append (spelling nodes) (spelling rest) (octets-spelling nodes (d + 1) h.1) (octets-spelling rest d h.2))

-- what begins a forest is octets
pub octets-begins : (max : ℕ) (b : List ℕ) → Begins (IsForest max) b → AreOctets b
octets-begins max b h = octets-left b h.1 (subst AreOctets (sym h.2.is) (octets-spelling h.0 1 h.2.proper))
