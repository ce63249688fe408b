-- How many octets the parts of an answer to reset have.
use Rattle.std.proofs.Common.{◌≡◌, ℕ, ◌+◌, ◌*◌, ◌≤◌, List, [], ◌∷◌, length, refl, arith, None, Some, option_to_list, Bool, true, false, if◌then◌else◌, sum_by}
use Rattle.std.proofs.lemmas.List.{length-append}
use Rattle.std.proofs.lemmas.List.Sums.{sum_by-cons}
use Rattle.octet_core.specs.Octets.{xor_of}
use Rattle.atr_core.specs.declared.atr.Interface.{Interface}
use Rattle.atr_core.specs.declared.atr.Indicated.{Indicated}
use Rattle.atr_core.specs.Atr.{count_of, AtrParts, announcing, goes_on, octets_of, interface_octets, needs_tck, tck_of, checked_octets, spelling}
use Rattle.atr_core.proofs.Unique.{present-most}
use Rattle.atr_core.proofs.Reasons.{octets_of-length}

-- TCK is one octet where it is needed, and none where it isn't
pub tck-length : (t : Bool) (x : ℕ) → length (option_to_list (if t then Some x else None)) ≡ count_of t
tck-length false x = refl
tck-length true x = refl

-- an answer has TS, T0, the interface bytes, the historical bytes, and TCK where it is needed
pub spelling-length : (v : AtrParts) → length (spelling v) ≡ 2 + length (interface_octets v.first v.indicated) + length
    v.historical + count_of (needs_tck v.indicated)
spelling-length v =
    omega (
      arith,
      length-append (checked_octets v) (option_to_list (tck_of v)),
      length-append (interface_octets v.first v.indicated) v.historical,
      tck-length (needs_tck v.indicated) (xor_of (checked_octets v)),
    )

-- TA, TB and TC are three octets at most
pub few-bytes : (g : Interface) → length (octets_of g) ≤ 3
few-bytes g = omega (arith, octets_of-length g, present-most g.ta, present-most g.tb, present-most g.tc)

-- the octets of a TD and of what it announces
abbrev pub octet_count : Indicated → ℕ
octet_count x = 1 + length (octets_of x.bytes)

-- the interface bytes are as many as those after T0, and each TD with those after it
pub interface-length : (f : Interface) (xs : List Indicated)
    → length (interface_octets f xs) ≡ length (octets_of f) + sum_by octet_count xs
interface-length f [] = omega arith
interface-length f (x ∷ xs) = omega (
  arith,
  interface-length x.bytes xs,
  sum_by-cons octet_count x xs,
  length-append (octets_of f) (announcing x.bytes (goes_on xs) x.protocol ∷ interface_octets x.bytes xs),
)

-- each TD and the bytes after it are four octets at most
pub after-most : (xs : List Indicated) → sum_by octet_count xs ≤ 4 * length xs
after-most [] = omega arith
after-most (x ∷ xs) = omega (arith, after-most xs, sum_by-cons octet_count x xs, few-bytes x.bytes)
