-- Laws of forests.
use Rattle.std.specs.Prelude.{◌≡◌, ℕ, ◌+◌, ◌<◌, ◌≤◌, ◌↔◌, List, [], ◌∷◌, ◌++◌, length, take}
use Rattle.tlv_core.specs.Number.{zeros}
use Rattle.octet_core.specs.Grammar.{Begins, OneVerdict, whole}
use Rattle.tlv_core.specs.Tag.{IsLong}
use Rattle.tlv_core.specs.Tree.{Tree}
use Rattle.tlv_core.specs.Forest.{IsForest, deepest}
use Rattle.tlv_core.specs.Reasons.{Opens, Meets, IsReason, Kept, HasTaken, IsIdle}
use Rattle.tlv_core.specs.declared.reason.TlvReason.{TlvReason}

-- octets encode at most one forest
abbrev pub OneForest : Type 0
OneForest = (m n : ℕ) (s t : Tree) (b : List ℕ) → IsForest m s b → IsForest n t b → s ≡ t

-- no octet of b meets a reason
abbrev pub MeetsNone : ℕ → List ℕ → Type 0
MeetsNone max b = (i : ℕ) (r : TlvReason) → i < length b → Meets max (take (i + 1) b) r → ⊥

-- b ends in a first tag octet whose low five bits are all 1
pub record EndsInLong (b : List ℕ) : Type 0 where
  pub before : List ℕ
  pub octet : ℕ
  pub rooms : List ℕ
  pub is : b ≡ before ++ octet ∷ []
  pub opens : Opens 1 rooms [] before
  pub long : IsLong octet

-- b, then `middle`, then some number of octets 00 are a forest
abbrev pub IsCompletedBy : ℕ → List ℕ → List ℕ → Type 0
IsCompletedBy max b middle = (t : Tree) × (count : ℕ) × IsForest max t ((b ++ middle) ++ zeros count)

-- A forest begins with b if and only if no octet of b meets a reason. Then zeros complete b, after one octet 01 if b
-- ends in a first tag octet that others follow.
abbrev pub Completion : ℕ → List ℕ → Type 0
Completion max b = (Begins (IsForest max) b ↔ MeetsNone max b)
    × (Begins (IsForest max) b → (EndsInLong b → IsCompletedBy max b (1 ∷ []))
    × ((EndsInLong b → ⊥) → IsCompletedBy max b []))

-- every input is a forest or is refused, with one value, one place and one reason
abbrev pub ForestVerdict : ℕ → List ℕ → Type 0
ForestVerdict max b = OneVerdict whole (IsForest max) (IsReason max) b

-- If a forest begins with b, a check that has taken b has a state, and only one. The octets are a forest if and only
-- if nothing is unfinished in it. At most 16 objects are open.
pub record TakenLaws (max : ℕ) (b : List ℕ) : Type 0 where
  pub some : Begins (IsForest max) b → (k : Kept) × (k.max ≡ max) × HasTaken b k
  pub one : (k l : Kept) → k.max ≡ l.max → HasTaken b k → HasTaken b l → k ≡ l
  pub idle : (k : Kept) → HasTaken b k → ((t : Tree) × IsForest k.max t b) ↔ IsIdle k
  pub most : (k : Kept) → HasTaken b k → length k.rooms ≤ deepest
