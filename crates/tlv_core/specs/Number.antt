-- Numbers in octets, as tags and length fields have them (EMV 4.3 Book 3, Annex B).
use Rattle.std.specs.Prelude.{ℕ, ◌+◌, ◌*◌, ◌/◌, ◌%◌, ◌^◌, List, [], ◌∷◌, length}
use Rattle.std.proofs.Common.{suc, zero}

-- the number that the octets stand for, high octet first
abbrev pub number_of : List ℕ → ℕ
number_of [] = 0
number_of (x ∷ b) = x * 256 ^ length b + number_of b

-- the number n in k octets, high octet first
abbrev pub high_first : ℕ → ℕ → List ℕ
high_first zero n = []
high_first (suc k) n = (n / 256 ^ k) ∷ high_first k (n % 256 ^ k)

-- n octets 00
abbrev pub zeros : ℕ → List ℕ
zeros zero = []
zeros (suc n) = 0 ∷ zeros n
