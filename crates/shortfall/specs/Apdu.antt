-- Commands and responses: ISO/IEC 7816-4, clause 5.1.
use Rattle.std.specs.Prelude.{ℕ, ◌+◌, ◌-◌, ◌*◌, List, [], ◌∷◌, length, ◌==◌, if◌then◌else◌}

-- After an extended Lc of n, and these octets. After the field the two octets of Le may come, and the first of them
-- doesn't come alone.
abbrev pub part_least : ℕ → List ℕ → ℕ
part_least n rest = if length rest == n + 1 then 1 else n - length rest

-- after 00, with which an extended Le or Lc begins
abbrev pub long_least : List ℕ → ℕ
long_least [] = 0
long_least (high ∷ []) = 1
long_least (high ∷ low ∷ []) = 0
long_least (high ∷ low ∷ x ∷ rest) = part_least (high * 256 + low) (x ∷ rest)

-- after these octets of a body; the first alone is a short Le
abbrev pub body_least : List ℕ → ℕ
body_least [] = 0
body_least (x ∷ []) = 0
body_least (x ∷ y ∷ rest) = if x == 0 then long_least (y ∷ rest) else x - length (y ∷ rest)

-- after these octets of a command: a header of four, and a body
abbrev pub command_least : List ℕ → ℕ
command_least [] = 4
command_least (cla ∷ []) = 3
command_least (cla ∷ ins ∷ []) = 2
command_least (cla ∷ ins ∷ p1 ∷ []) = 1
command_least (cla ∷ ins ∷ p1 ∷ p2 ∷ body) = body_least body

-- a response ends in SW1 and SW2
abbrev pub response_least : List ℕ → ℕ
response_least b = 2 - length b
