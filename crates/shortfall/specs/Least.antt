-- How many more octets must come at least.
use Rattle.std.specs.Prelude.{◌≡◌, ℕ, ◌≤◌, List, ◌++◌, length}

-- Some value begins with the octets b, none of them ends before n more octets, and some value ends then.
pub record IsLeast {V : Type 0} (S : V → List ℕ → Type 0) (b : List ℕ) (n : ℕ) : Type 0 where
  pub fewer : (v : V) (more : List ℕ) → S v (b ++ more) → n ≤ length more
  pub enough : (v : V) × (more : List ℕ) × (length more ≡ n) × S v (b ++ more)
