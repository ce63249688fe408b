-- How the tidy form of a forest grows as its objects come, each before those inside it.
use Rattle.std.specs.Prelude.{◌≡◌, ℕ, ◌+◌, ◌^◌, ◌<◌, ◌≤◌, List, [], ◌∷◌, ◌++◌, length, drop, nat_lt, cond}
use Rattle.std.proofs.Common.{suc, zero}
use Rattle.tlv_core.specs.Tag.{length_field, constructed_bit}
use Rattle.tlv_core.specs.Form.{shortest}
use Rattle.tlv_core.specs.Tree.{Tree}
use Rattle.tlv_core.specs.Forest.{spelling, deepest, IsForest}
use Rattle.tlv_core.specs.Tidy.{tidy}
use Rattle.tlv_core.specs.Flat.{PartValue}
use Rattle.tlv_core.specs.declared.tidy_form.TidyForm.{TidyForm}

-- The tidy form so far. For each open object, innermost first, it has the octets before its length field in the list
-- around it, ending in its tag; and then the octets of the innermost list.
pub record Growing : Type 0 where
  pub opened : List (List ℕ)
  pub list : List ℕ

-- all the octets so far; the length fields of the open objects are still to come
abbrev pub so_far : List (List ℕ) → List ℕ → List ℕ
so_far [] list = list
so_far (before ∷ opened) list = so_far opened before ++ list

-- the shortest length field for a value, and the value
abbrev pub with_length : List ℕ → List ℕ
with_length value = length_field (shortest (length value)) (length value) ++ value

-- the form after the objects at this depth and deeper are closed, the innermost first
abbrev pub closed_to : ℕ → List (List ℕ) → List ℕ → Growing
closed_to d [] list = record { opened = []; list = list }
closed_to d (before ∷ opened) list =
    cond (nat_lt (length opened + 1) d) (record { opened = before ∷ opened; list = list })
    (closed_to d opened (before ++ with_length list))

-- the form after the tag of a constructed object, which is opened unless the greatest depth is reached
abbrev pub open_after : List (List ℕ) → List ℕ → Growing
open_after opened list =
    cond (nat_lt (length opened) deepest) (record { opened = list ∷ opened; list = [] })
    (record { opened = opened; list = list })

-- the form after the tag of an object with this value; the tag has this bit for constructed
abbrev pub after_tag : ℕ → List ℕ → List (List ℕ) → List ℕ → Growing
after_tag zero value opened list = record { opened = opened; list = list ++ with_length value }
after_tag (suc bit) value opened list = open_after opened list

-- the form after the next object; those at its depth and deeper are closed first
abbrev pub with_part : Growing → PartValue → Growing
with_part g part =
    let closed = closed_to part.depth g.opened g.list in
    after_tag (constructed_bit part.tag) part.value closed.opened (closed.list ++ part.tag)

-- the form after all these objects
abbrev pub grown_by : List PartValue → Growing → Growing
grown_by [] g = g
grown_by (part ∷ parts) g = grown_by parts (with_part g part)

-- the form before the first object
abbrev pub nothing_yet : Growing
nothing_yet = record { opened = []; list = [] }

-- ---- in a buffer

-- these octets are at the front of a buffer that was `old`, if it has room for them, and `end` is their number
pub record ArePut (old new : List ℕ) (end : ℕ) (octets : List ℕ) : Type 0 where
  pub size : length new ≡ length old
  pub number : end ≡ length octets
  pub buffer : length octets ≤ length old → new ≡ octets ++ drop (length octets) old

-- `ArePut` holds if the octets are fewer than 2 ^ 32
pub record MayBePut (old new : List ℕ) (end : ℕ) (octets : List ℕ) : Type 0 where
  pub few : length octets < 2 ^ 32 → ArePut old new end octets

-- the places after the tags of the open objects, outermost first
abbrev pub starts_of : List (List ℕ) → List ℕ
starts_of [] = []
starts_of (before ∷ opened) = starts_of opened ++ length (so_far opened before) ∷ []

-- the state of a tidy form so far, whose octets are written to a buffer
pub record IsKeptOf (old new : List ℕ) (form : TidyForm) (g : Growing) : Type 0 where
  pub starts : length (so_far g.opened g.list) < 2 ^ 32 → form.starts.items ≡ starts_of g.opened
  pub put : MayBePut old new form.end (so_far g.opened g.list)

-- ---- the whole

-- all the octets encode a forest, and its tidy form, which has `count` octets, is written to the buffer
pub record IsTidyOf (max : ℕ) (octets : List ℕ) (old new : List ℕ) (count : ℕ) : Type 0 where
  pub tree : Tree
  pub forest : IsForest max tree octets
  pub put : ArePut old new count (spelling (tidy tree))
