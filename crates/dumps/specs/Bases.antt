-- The bases of offsets, and the numbers that the digits of a text write in them.
use Rattle.std.specs.Prelude.{ℕ, ◌+◌, ◌*◌, min, nat_le, nat_lt, List, [], ◌∷◌, Bool, true, false, if◌then◌else◌}
use Rattle.dumps.specs.Characters.{digit}
use Rattle.dumps.specs.declared.base.Base.{Base}
use Rattle.dumps.specs.declared.base.Base.TheVariants.{Hexadecimal, Decimal, Octal, Headed}
use Rattle.dumps.specs.declared.row.Style.{Style}
use Rattle.dumps.specs.declared.row.Style.TheVariants as style

abbrev pub radix : Base → ℕ
radix Hexadecimal = 16
radix Decimal = 10
radix Octal = 8
radix Headed = 16

-- the number of the digits in front of a text, after those of `number`, and the text after them; from 2 ^ 49 on it
-- counts as 2 ^ 49
abbrev pub offset_from : Base → ℕ → List ℕ → ℕ × List ℕ
offset_from base number [] = (number, [])
offset_from base number (x ∷ more) = if nat_lt (digit x) (radix base)
    then offset_from base (min (number * radix base + digit x) 562949953421312) more else (number, x ∷ more)

-- od and xxd may write decimal offsets, and od octal ones; those of od have seven or more digits
abbrev pub counts : Base → ℕ → Style → Bool
counts Hexadecimal digits style = true
counts Decimal digits style.Xxd = true
counts Decimal digits style.Od = nat_le 7 digits
counts Octal digits style.Od = nat_le 7 digits
counts _ digits style = false
