-- Response APDUs, and their encoding: ISO/IEC 7816-3, clause 12, and ISO/IEC 7816-4, clause 5.1.
use Rattle.std.specs.Prelude.{◌≡◌, ℕ, ◌+◌, ◌≤◌, List, [], ◌∷◌, ◌++◌, length}
use Rattle.octet_core.specs.Octets.{AreOctets}
use Rattle.octet_core.specs.Grammar.{IsFirst}
use Rattle.chain_core.specs.Longest.{longest_response}
use Rattle.apdu_core.specs.declared.reason.ResponseReason.{ResponseReason}
use Rattle.apdu_core.specs.declared.reason.ResponseReason.TheVariants.{TooLong}

-- the greatest length of a data field
abbrev pub longest_part : ℕ
longest_part = 65536

-- what a response carries: a data field and the status bytes
pub record ResponseParts : Type 0 where
  pub part : List ℕ
  pub sw1 : ℕ
  pub sw2 : ℕ

-- the octets of a response
abbrev pub spelling : ResponseParts → List ℕ
spelling r = r.part ++ r.sw1 ∷ r.sw2 ∷ []

-- the response has an encoding
pub record IsProper (r : ResponseParts) : Type 0 where
  pub part : length r.part ≤ longest_part

-- the octets b encode the response r
pub record IsResponse (r : ResponseParts) (b : List ℕ) : Type 0 where
  pub proper : IsProper r
  pub octets : AreOctets b
  pub is : b ≡ spelling r

-- some octets encode the response
abbrev pub HasSpelling : ResponseParts → Type 0
HasSpelling r = (b : List ℕ) × IsResponse r b

-- The first octets b meet this line of the table of reasons: they are one octet more than the longest data field and
-- SW1 SW2.
abbrev pub Meets : List ℕ → ResponseReason → Type 0
Meets b TooLong = length b ≡ longest_response + 1

-- the octets up to and including the refused one meet this line of the table, and no line before it
abbrev pub IsReason : ResponseReason → List ℕ → Type 0
IsReason r b = IsFirst (TooLong ∷ []) (Meets b) r
