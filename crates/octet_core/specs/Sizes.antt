-- The sizes of information fields of T=1 (ISO/IEC 7816-3:2006, 11.4.2).
use Rattle.std.specs.Prelude.{◌≡◌, ◌≤◌, ◌⊎◌, ℕ, Bool, ◌==◌, ◌||◌}

-- 00 and FF are reserved: no card announces one, no end asks for one, and no field may be limited to one
abbrev pub IsReserved : ℕ → Type 0
IsReserved size = (size ≡ 0) ⊎ (size ≡ 255)

-- whether a size is reserved, computed
abbrev pub is_reserved : ℕ → Bool
is_reserved size = (size == 0) || (size == 255)

-- all other octets are sizes that a field may have
abbrev pub IsFieldSize : ℕ → Type 0
IsFieldSize size = (1 ≤ size) × (size ≤ 254)
