-- Grammars over lists of octets, and the one verdict of a grammar on an input.
use Rattle.std.specs.Prelude.{◌≡◌, ℕ, ◌+◌, ◌<◌, ◌≤◌, List, ◌++◌, length, take, ◌∷◌, [], ◌⊎◌}
use Rattle.octet_core.specs.declared.stop.Stop.{Stop}
use Rattle.octet_core.specs.declared.stop.Stop.TheVariants.{Short, At}
use Rattle.octet_core.specs.declared.stop.Refused.{Refused}
use Rattle.octet_core.specs.declared.stop.Refused.TheVariants as refusal

-- Whether the caller says where a value ends, or the octets do.
pub data Ending : Type 0 where
  self_ended : Ending
  whole : Ending

-- S v b: the octets b encode the value v.
module _ {V : Type 0} (S : V → List ℕ → Type 0) where
  -- some encoding begins with b
  abbrev pub Begins : List ℕ → Type 0
  Begins b = (v : V) × (more : List ℕ) × S v (b ++ more)

-- the first n octets of b encode v; in a whole grammar these are all of b
abbrev pub Accepts : {V : Type 0} → Ending → (V → List ℕ → Type 0) → List ℕ → V → ℕ → Type 0
Accepts self_ended S b v n = (n ≤ length b) × S v (take n b)
Accepts whole S b v n = (n ≡ length b) × S v b

-- nothing is accepted, and the octet at place p is the first after which no encoding can continue
pub record IsStuck {V : Type 0} (e : Ending) (S : V → List ℕ → Type 0) (b : List ℕ) (p : ℕ) : Type 0 where
  pub none : (v : V) (n : ℕ) → Accepts e S b v n → ⊥
  pub inside : p < length b
  pub begun : Begins S (take p b)
  pub stuck : Begins S (take (p + 1) b) → ⊥

-- nothing is accepted, and an encoding could continue at the end of the input
pub record IsShort {V : Type 0} (e : Ending) (S : V → List ℕ → Type 0) (b : List ℕ) (p : ℕ) : Type 0 where
  pub none : (v : V) (n : ℕ) → Accepts e S b v n → ⊥
  pub end : p ≡ length b
  pub begun : Begins S b

-- r is the first line of a table, in its order, that holds
unfoldable pub IsFirst : {R : Type 0} → List R → (R → Type 0) → R → Type 0
IsFirst [] Holds r = ⊥
IsFirst (line ∷ lines) Holds r = (Holds line × (r ≡ line)) ⊎ ((Holds line → ⊥) × IsFirst lines Holds r)

-- The verdict on b is this refusal. Reason r front says that r is the reason on the octets up to and including the
-- one at the place.
abbrev pub Refuses : {V R : Type 0} → Ending → (V → List ℕ → Type 0) → (R → List ℕ → Type 0) → List ℕ → Stop R → Type 0
Refuses e S Reason b (Short p) = IsShort e S b p
Refuses e S Reason b (At p r) = IsStuck e S b p × Reason r (take (p + 1) b)

-- A refusal at a place, for a reader that takes more octets: it never says that the input was short.
abbrev pub RefusesAt : {V R : Type 0} → Ending → (V → List ℕ → Type 0) → (R → List ℕ → Type 0)
    → List ℕ → Stop R → Type 0
RefusesAt e S Reason b (Short p) = ⊥
RefusesAt e S Reason b (At p r) = IsStuck e S b p × Reason r (take (p + 1) b)

-- A refusal by a call that may allocate. Nothing is stated of a failed allocation.
abbrev pub RefusesUnlessMemory : {V R : Type 0} → Ending → (V → List ℕ → Type 0) → (R → List ℕ → Type 0)
    → List ℕ → Refused R → Type 0
RefusesUnlessMemory e S Reason b (refusal.Stop s) = Refuses e S Reason b s
RefusesUnlessMemory e S Reason b refusal.Memory = Unit {0}

-- every input is accepted or refused, with one value, one number of octets, one place and one reason
pub record OneVerdict {V R : Type 0} (e : Ending) (S : V → List ℕ → Type 0) (Reason : R → List ℕ → Type 0) (b : List ℕ)
    : Type 0 where
  pub some : ((v : V) × (n : ℕ) × Accepts e S b v n) ⊎ ((s : Stop R) × Refuses e S Reason b s)
  pub one_value : (v w : V) (n m : ℕ) → Accepts e S b v n → Accepts e S b w m → (v ≡ w) × (n ≡ m)
  pub not_both : (v : V) (n : ℕ) (s : Stop R) → Accepts e S b v n → Refuses e S Reason b s → ⊥
  pub one_refusal : (s t : Stop R) → Refuses e S Reason b s → Refuses e S Reason b t → s ≡ t
