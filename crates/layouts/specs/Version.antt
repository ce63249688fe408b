-- The program with its version, and the line that says it.
use Rattle.std.specs.Prelude.{ℕ, List, ◌++◌, codes}

abbrev pub program_name : List ℕ
program_name = codes "scard 1.5.0"

abbrev pub version_line : List ℕ
version_line = program_name ++ codes "\n"
