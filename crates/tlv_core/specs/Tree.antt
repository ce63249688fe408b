-- Lists of data objects and fillers (EMV 4.3 Book 3, Annex B).
use Rattle.std.specs.Prelude.{ℕ, ◌+◌, List}
use Rattle.tlv_core.specs.declared.form.Form.{Form}

-- A list of data objects and fillers, by its first item and the rest. A tag is its octets.
pub data Tree : Type 0 where
  End : Tree
  Filler : (rest : Tree) → Tree
  Primitive : (tag : List ℕ) (form : Form) (value : List ℕ) (rest : Tree) → Tree
  Constructed : (tag : List ℕ) (form : Form) (nodes rest : Tree) → Tree

-- the number of objects and fillers at every depth
abbrev pub tree_size : Tree → ℕ
tree_size End = 0
tree_size (Filler rest) = 1 + tree_size rest
tree_size (Primitive tag form value rest) = 1 + tree_size rest
tree_size (Constructed tag form nodes rest) = 1 + tree_size nodes + tree_size rest
