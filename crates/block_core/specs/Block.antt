-- Blocks, and their encoding: ISO/IEC 7816-3, clause 11.3. A block is NAD, PCB, LEN, an information field of LEN
-- octets, and a check octet. The numbers of clauses below are those of that standard.
use Rattle.std.specs.Prelude.{◌≡◌, ℕ, ◌+◌, ◌<◌, ◌≤◌, List, [], ◌∷◌, ◌++◌, length, drop, Bool, true, false, slice_index, ◌≢◌, ◌⊎◌, ◌&&◌, ◌==◌}
use Rattle.octet_core.specs.Octets.{AreOctets, xor_of}
use Rattle.octet_core.specs.Grammar.{IsFirst}
use Rattle.octet_core.specs.Sizes.{IsFieldSize, IsReserved}
use Rattle.block_core.specs.declared.pcb.Number.{Number}
use Rattle.block_core.specs.declared.pcb.Number.TheVariants.{Zero, One}
use Rattle.block_core.specs.declared.pcb.Fault.{Fault}
use Rattle.block_core.specs.declared.pcb.Fault.TheVariants.{Free, Redundancy, Other}
use Rattle.block_core.specs.declared.pcb.S.{S}
use Rattle.block_core.specs.declared.pcb.S.TheVariants.{Resynch, Ifs, Abort, Wtx}
use Rattle.block_core.specs.declared.pcb.Pcb.{Pcb}
use Rattle.block_core.specs.declared.pcb.Pcb.TheVariants.{Info, Ready, Request, Response}
use Rattle.block_core.specs.declared.reason.BlockReason.{BlockReason}
use Rattle.block_core.specs.declared.reason.BlockReason.TheVariants.{BadPcb, BadLen, OverIfs, BadIfs, BadLrc}

-- the parts of a block
pub record Parts : Type 0 where
  pub nad : ℕ
  pub pcb : Pcb
  pub inf : List ℕ

-- the number of the next I-block, which alternates: 11.6
abbrev pub other : Number → Number
other Zero = One
other One = Zero

-- N(S) of an I-block and N(R) of an R-block: 11.3.2.2
abbrev pub number_bit : Number → ℕ → ℕ
number_bit Zero weight = 0
number_bit One weight = weight

-- bit M of an I-block, which says that another block of its chain follows: 11.3.2.2
abbrev pub more_bit : Bool → ℕ
more_bit false = 0
more_bit true = 32

-- the low bits of an R-block: free of errors, a redundancy or parity error, any other error: 11.3.2.2
abbrev pub fault_code : Fault → ℕ
fault_code Free = 0
fault_code Redundancy = 1
fault_code Other = 2

-- an IFS block carries a size and a WTX block a multiple, the others nothing: 11.6
abbrev pub supervisory_len : S → ℕ
supervisory_len Resynch = 0
supervisory_len Ifs = 1
supervisory_len Abort = 0
supervisory_len Wtx = 1

-- the low bits of an S-block: 11.3.2.2
abbrev pub supervisory_code : S → ℕ
supervisory_code Resynch = 0
supervisory_code Ifs = 1
supervisory_code Abort = 2
supervisory_code Wtx = 3

-- the protocol control octet: 11.3.2.2. An I-block has bit 8 clear, an R-block bits 8 and 7 10, an S-block 11 with
-- bit 6 set in a response.
abbrev pub pcb_octet : Pcb → ℕ
pcb_octet (Info number more) = number_bit number 64 + more_bit more
pcb_octet (Ready number fault) = 128 + number_bit number 16 + fault_code fault
pcb_octet (Request s) = 192 + supervisory_code s
pcb_octet (Response s) = 224 + supervisory_code s

-- the octet in a block about IFS is a size of 1 to 254, since 00 and FF are reserved: 11.4.2
abbrev pub IsSize : S → List ℕ → Type 0
IsSize Resynch inf = Unit {0}
IsSize Ifs inf = IsFieldSize (slice_index inf 0)
IsSize Abort inf = Unit {0}
IsSize Wtx inf = Unit {0}

-- The length of the information field suits the block: at most ifs octets in an I-block, none in an R-block, and in an
-- S-block those that its subject needs: 11.3.2.3 and 11.4.2.
abbrev pub FitsLen : ℕ → Pcb → ℕ → Type 0
FitsLen ifs (Info number more) len = len ≤ ifs
FitsLen ifs (Ready number fault) len = len ≡ 0
FitsLen ifs (Request s) len = len ≡ supervisory_len s
FitsLen ifs (Response s) len = len ≡ supervisory_len s

-- the information field suits the block: its length fits, and the size in a block about IFS isn't reserved
abbrev pub Suits : ℕ → Pcb → List ℕ → Type 0
Suits ifs (Info number more) inf = FitsLen ifs (Info number more) (length inf)
Suits ifs (Ready number fault) inf = FitsLen ifs (Ready number fault) (length inf)
Suits ifs (Request s) inf = FitsLen ifs (Request s) (length inf) × IsSize s inf
Suits ifs (Response s) inf = FitsLen ifs (Response s) (length inf) × IsSize s inf

-- the block has an encoding
pub record IsProper (ifs : ℕ) (v : Parts) : Type 0 where
  pub nad : v.nad < 256
  pub octets : AreOctets v.inf
  pub suits : Suits ifs v.pcb v.inf

-- all octets but the check octet
abbrev pub front_of : Parts → List ℕ
front_of v = v.nad ∷ pcb_octet v.pcb ∷ length v.inf ∷ v.inf

-- with the LRC, which makes the exclusive-or of all octets of the block 00: 11.4.4
abbrev pub spelling : Parts → List ℕ
spelling v = front_of v ++ xor_of (front_of v) ∷ []

-- NAD, PCB, LEN, as many octets as LEN says, one check octet, and nothing more; the exclusive-or of all is 00: 11.3
abbrev pub is_whole : List ℕ → Bool
is_whole b = (length b == slice_index b 2 + 4) && (xor_of b == 0)

abbrev pub IsWhole : List ℕ → Type 0
IsWhole b = is_whole b ≡ true

-- the octets b encode the block v
pub record IsBlock (ifs : ℕ) (v : Parts) (b : List ℕ) : Type 0 where
  pub proper : IsProper ifs v
  pub is : b ≡ spelling v

-- the block v is encoded in the first `count` octets of a buffer, and the rest of it stays as it was
pub record IsPut (v : Parts) (old new : List ℕ) (count : ℕ) : Type 0 where
  pub octets : List ℕ
  pub spells : IsBlock 254 v octets
  pub counted : count ≡ length octets
  pub buffer : new ≡ octets ++ drop count old

-- a length that no field of such a block has for any size: FF is reserved, and 254 is the largest size: 11.3.2.3
abbrev pub IsBadLen : Pcb → ℕ → Type 0
IsBadLen (Info number more) len = len ≡ 255
IsBadLen (Ready number fault) len = FitsLen 254 (Ready number fault) len → ⊥
IsBadLen (Request s) len = FitsLen 254 (Request s) len → ⊥
IsBadLen (Response s) len = FitsLen 254 (Response s) len → ⊥

abbrev pub IsInfo : Pcb → Type 0
IsInfo (Info number more) = Unit {0}
IsInfo (Ready number fault) = ⊥
IsInfo (Request s) = ⊥
IsInfo (Response s) = ⊥

-- what is wrong with a length
abbrev pub IsLenFault : ℕ → Pcb → ℕ → BlockReason → Type 0
IsLenFault ifs p len BadPcb = ⊥
IsLenFault ifs p len BadLen = IsBadLen p len
IsLenFault ifs p len OverIfs = IsInfo p × (len ≢ 255) × (ifs < len)
IsLenFault ifs p len BadIfs = ⊥
IsLenFault ifs p len BadLrc = ⊥

abbrev pub IsAboutIfs : Pcb → Type 0
IsAboutIfs p = (p ≡ Request Ifs) ⊎ (p ≡ Response Ifs)

-- The first octets b meet this line of the table of reasons: PCB isn't one of the 18 octets (11.3.2.2); LEN isn't a
-- length for its kind (11.3.2.3); LEN is over the information field size (11.4.2); a size is 00 or FF (11.4.2); the
-- exclusive-or of all octets isn't 00 (11.4.4).
abbrev pub Meets : ℕ → List ℕ → BlockReason → Type 0
Meets ifs b BadPcb = (length b ≡ 2) × ((p : Pcb) → pcb_octet p ≡ slice_index b 1 → ⊥)
Meets ifs b BadLen = (length b ≡ 3) × (p : Pcb) × (pcb_octet p ≡ slice_index b 1) × IsBadLen p (slice_index b 2)
Meets ifs b OverIfs = (length b ≡ 3) × (p : Pcb) × (pcb_octet p ≡ slice_index b 1) × IsInfo p × (ifs < slice_index b 2)
Meets ifs b BadIfs = (length b ≡ 4) × ((pcb_octet (Request Ifs) ≡ slice_index b 1)
    ⊎ (pcb_octet (Response Ifs) ≡ slice_index b 1)) × IsReserved (slice_index b 3)
Meets ifs b BadLrc = (length b ≡ slice_index b 2 + 4) × (xor_of b ≢ 0)

-- the octets up to and including the refused one meet this line of the table, and no line before it
abbrev pub IsReason : ℕ → BlockReason → List ℕ → Type 0
IsReason ifs r b = IsFirst (BadPcb ∷ BadLen ∷ OverIfs ∷ BadIfs ∷ BadLrc ∷ []) (Meets ifs b) r
