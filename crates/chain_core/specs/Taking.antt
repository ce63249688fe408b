-- The state of a receiver of a chain.
use Rattle.std.specs.Prelude.{◌≡◌, ℕ, ◌<◌, List, [], ◌++◌, length, Bool, true, false, Option, None, IsSome, ◌⊎◌, ◌+◌, slice_index}
use Rattle.octet_core.specs.Grammar.{Begins}
use Rattle.octet_core.specs.declared.stop.Refusal.{Refusal}
use Rattle.block_core.specs.declared.pcb.Number.{Number}
use Rattle.chain_core.specs.Chain.{IsChain, message_of, chain_blocks, open_blocks, octets_of}
use Rattle.chain_core.specs.declared.reason.ChainReason.{ChainReason}

-- The state: the sizes, how many whole blocks were taken and the octets joined from them, the octets of the
-- unfinished block, and the refusal that is repeated.
pub record Taking : Type 0 where
  pub ifs : ℕ
  pub number : Number
  pub max : ℕ
  pub blocks : ℕ
  pub joined : List ℕ
  pub under_way : List ℕ
  pub done : Bool
  pub refusal : Option (Refusal ChainReason)

-- a receiver that has taken nothing
abbrev pub nothing_taken : ℕ → Number → ℕ → Taking
nothing_taken ifs number max = record {
  ifs = ifs;
  number = number;
  max = max;
  blocks = 0;
  joined = [];
  under_way = [];
  done = false;
  refusal = None;
}

-- The octets t are whole blocks with these fields, and then the octets c of the unfinished block. If the chain is
-- done, c is empty; otherwise c has fewer octets than its LEN says.
abbrev pub AreTaken : Bool → Number → List (List ℕ) → List ℕ → List ℕ → Type 0
AreTaken true number fields c t = (0 < length fields) × (c ≡ []) × (t ≡ octets_of (chain_blocks number fields))
AreTaken false number fields c t = (3 < length c → length c < slice_index c 2 + 4)
    × (t ≡ octets_of (open_blocks number fields) ++ c)

-- a receiver that refused nothing may have taken the octets t
pub record HasTaken (r : Taking) (t : List ℕ) : Type 0 where
  pub kept : r.refusal ≡ None
  pub begun : Begins (IsChain r.ifs r.number r.max) t
  pub fields : List (List ℕ)
  pub blocks : length fields ≡ r.blocks
  pub joined : message_of fields ≡ r.joined
  pub taken : AreTaken r.done r.number fields r.under_way t

-- the octets t, which came before a refused one, are `blocks` whole blocks with this message, and the start of one
-- more
pub record AreBefore (number : Number) (blocks : ℕ) (joined t : List ℕ) : Type 0 where
  pub fields : List (List ℕ)
  pub part : List ℕ
  pub count : length fields ≡ blocks
  pub message : message_of fields ≡ joined
  pub taken : AreTaken false number fields part t

-- the state without its refusal
abbrev pub unrefused : Taking → Taking
unrefused r = record r { refusal = None }

abbrev pub refusal_of : Taking → Option (Refusal ChainReason)
refusal_of r = r.refusal

-- the receiver takes more octets
abbrev pub IsOpen : Taking → Type 0
IsOpen r = (r.refusal ≡ None) × (r.done ≡ false)

-- the receiver refused an octet, or has a whole chain
abbrev pub IsClosed : Taking → Type 0
IsClosed r = IsSome r.refusal ⊎ (r.done ≡ true)
