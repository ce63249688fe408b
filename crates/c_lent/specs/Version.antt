-- The version of the library.
use Rattle.std.specs.Prelude.{ℕ, ◌+◌, ◌*◌}

-- 1.5.0
abbrev pub version : ℕ
version = 1 * 1000000 + (5 * 1000 + 0)
