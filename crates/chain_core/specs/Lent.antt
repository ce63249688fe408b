-- The state of a receiver of a chain as its caller keeps it, with the octets of the message in the caller's buffer.
use Rattle.std.specs.Prelude.{◌≡◌, ℕ, ◌+◌, ◌-◌, ◌*◌, ◌<◌, ◌≤◌, List, [], ◌∷◌, ◌++◌, length, take, drop, Bool, true, false, Option, Some, None, Result, Err, OnOk, IfErr}
use Rattle.octet_core.specs.Octets.{AreOctets}
use Rattle.octet_core.specs.Grammar.{self_ended, RefusesAt}
use Rattle.octet_core.specs.declared.stop.Refusal.{Refusal}
use Rattle.octet_core.specs.declared.stop.Stop.{Stop}
use Rattle.octet_core.specs.declared.stop.Stop.TheVariants.{Short, At}
use Rattle.block_core.specs.Block.{pcb_octet}
use Rattle.block_core.specs.declared.pcb.Number.{Number}
use Rattle.block_core.specs.declared.pcb.Pcb.TheVariants.{Info}
use Rattle.chain_core.specs.declared.stage.BlockStage as stage
use Rattle.chain_core.specs.declared.stage.BlockStage.TheVariants as stages
use Rattle.chain_core.specs.declared.lent.LentReceiver.{LentReceiver}
use Rattle.chain_core.specs.Chain.{IsChain, IsReason, most_blocks, longest_message, number_after}
use Rattle.chain_core.specs.Stage.{more_count, came_of, place_of}
use Rattle.chain_core.specs.Taking.{Taking, HasTaken, unrefused}
use Rattle.chain_core.specs.declared.reason.ChainReason.{ChainReason}
use Rattle.chain_core.specs.declared.reason.ChainReason.TheVariants.{BadNad, BadPcb, NotInfo, BadSequence, TooManyBlocks, BadLen, OverIfs, TooLong, BadLrc}

-- the octets of the unfinished block that came, by the stage and the octets of the field
abbrev pub under_way_of : Number → stage.BlockStage → List ℕ → List ℕ
under_way_of number stages.Nad field = []
under_way_of number stages.Pcb field = 0 ∷ []
under_way_of number (stages.Len more) field = 0 ∷ pcb_octet (Info number more) ∷ []
under_way_of number (stages.Rest more len) field = 0 ∷ pcb_octet (Info number more) ∷ len ∷ field

-- the number of the unfinished block, or of the next block
abbrev pub number_at : LentReceiver → Number
number_at p = number_after p.first p.blocks

-- the octets of the unfinished field, which are after the message in the buffer
abbrev pub field_at : LentReceiver → List ℕ → List ℕ
field_at p message = take p.came (drop p.joined message)

-- how many octets of the buffer belong to the message or to the unfinished field
abbrev pub held_at : LentReceiver → ℕ
held_at p = p.joined + came_of p.stage p.came

-- the receiver with this state and this buffer
abbrev pub received_at : LentReceiver → List ℕ → Taking
received_at p message = record {
  ifs = p.ifs;
  number = p.first;
  max = p.max;
  blocks = p.blocks;
  joined = take p.joined message;
  under_way = under_way_of (number_at p) p.stage (field_at p message);
  done = p.done;
  refusal = p.refusal;
}

-- an unfinished block is possible after this many blocks with `joined` octets, if `came` octets of its field came
abbrev pub IsUnderWay : (ifs max blocks joined came : ℕ) → stage.BlockStage → Type 0
IsUnderWay ifs max blocks joined came stages.Nad = Unit {0}
IsUnderWay ifs max blocks joined came stages.Pcb = Unit {0}
IsUnderWay ifs max blocks joined came (stages.Len more) = blocks + 1 + more_count more ≤ most_blocks
IsUnderWay ifs max blocks joined came (stages.Rest more len) =
    (blocks + 1 + more_count more ≤ most_blocks) × (len ≤ ifs) × (joined + len ≤ max) × (came ≤ len)

-- a whole chain has blocks, and none of them is unfinished
abbrev pub IsAmong : Bool → LentReceiver → Type 0
IsAmong true p = (p.stage ≡ stages.Nad) × (1 ≤ p.blocks)
IsAmong false p = (p.blocks + 1 ≤ most_blocks) × IsUnderWay p.ifs p.max p.blocks p.joined p.came p.stage

-- some octet may come for the PCB after this many blocks that is refused for this reason
abbrev pub IsPcbReason : ℕ → ChainReason → Type 0
IsPcbReason blocks BadPcb = Unit {0}
IsPcbReason blocks NotInfo = Unit {0}
IsPcbReason blocks BadSequence = Unit {0}
IsPcbReason blocks TooManyBlocks = blocks + 1 ≡ most_blocks
IsPcbReason blocks _ = ⊥

-- some octet may come for the LEN that is refused for this reason; the message has room for `room` more octets
abbrev pub IsLenReason : ℕ → ℕ → ChainReason → Type 0
IsLenReason ifs room BadLen = Unit {0}
IsLenReason ifs room OverIfs = ifs < 254
IsLenReason ifs room TooLong = room < ifs
IsLenReason ifs room _ = ⊥

-- some octet may come next in the unfinished block that is refused for this reason; no octet of its field is refused
abbrev pub IsNextReason : (ifs max blocks joined came : ℕ) → stage.BlockStage → ChainReason → Type 0
IsNextReason ifs max blocks joined came stages.Nad r = r ≡ BadNad
IsNextReason ifs max blocks joined came stages.Pcb r = IsPcbReason blocks r
IsNextReason ifs max blocks joined came (stages.Len more) r = IsLenReason ifs (max - joined) r
IsNextReason ifs max blocks joined came (stages.Rest more len) r = (came ≡ len) × (r ≡ BadLrc)

-- how many octets were taken
abbrev pub taken_at : LentReceiver → ℕ
taken_at p = p.joined + 4 * p.blocks + (place_of p.stage + came_of p.stage p.came)

-- a refusal that was kept is that of the next octet, in a receiver that would take more
abbrev pub IsKept : Option (Refusal ChainReason) → LentReceiver → Type 0
IsKept None p = Unit {0}
IsKept (Some refusal) p = (p.done ≡ false) × (refusal.place ≡ taken_at p)
    × IsNextReason p.ifs p.max p.blocks p.joined p.came p.stage refusal.reason

-- This is the state of a receiver with a buffer of `room` octets: some octets lead to it (`AreLedTo`).
pub record IsLentReceiver (p : LentReceiver) (room : ℕ) : Type 0 where
  pub least : 1 ≤ p.ifs
  pub most : p.ifs ≤ 254
  pub limit : p.max ≤ longest_message
  pub reserved : p.max ≤ room
  pub joined : p.joined ≤ p.max
  -- no block has a longer field
  pub full : p.joined ≤ p.blocks * p.ifs
  pub blocks : p.blocks ≤ most_blocks
  -- octets of a field are counted only while a field is being read
  pub idle : came_of p.stage p.came ≡ p.came
  pub among : IsAmong p.done p
  pub kept : IsKept p.refusal p

-- The octets t bring a receiver to this state. It took them all, or it took all but the last and refused that one.
abbrev pub Brings : Option (Refusal ChainReason) → Taking → List ℕ → Type 0
Brings None r t = HasTaken r t
Brings (Some refusal) r t = (s : List ℕ) × (x : ℕ) × (t ≡ s ++ x ∷ []) × HasTaken (unrefused r) s
    × RefusesAt self_ended (IsChain r.ifs r.number r.max) (IsReason r.ifs r.number r.max) t
    (At refusal.place refusal.reason)

-- The octets t lead a receiver from its beginning to this state and this buffer.
pub record AreLedTo (p : LentReceiver) (message t : List ℕ) : Type 0 where
  -- the receiver can begin so
  pub least : 1 ≤ p.ifs
  pub most : p.ifs ≤ 254
  pub limit : p.max ≤ longest_message
  pub reserved : p.max ≤ length message
  pub octets : AreOctets t
  -- what it counts is in the buffer; octets of a field are counted only while a field is being read
  pub held : held_at p ≤ length message
  pub idle : came_of p.stage p.came ≡ p.came
  pub brings : Brings p.refusal (received_at p message) t

-- The storage for the octets of the message has room for the longest message, and the next octets are put after those
-- that count.
pub record IsStored (p : LentReceiver) (kept : List ℕ) (room : ℕ) (ends_after : ℕ → Type 0) : Type 0 where
  pub fit : IsLentReceiver p room
  pub octets : AreOctets kept
  pub after : ends_after (held_at p)

-- A receiver has room for the longest message, and stores the octets that are in use and no others.
pub record IsReceiver (p : LentReceiver) (message : List ℕ) (room : ℕ) : Type 0 where
  pub stored : IsStored p message room (λ held. length message ≡ held)
  -- some list of octets may have been taken
  pub taken : p.refusal ≡ None → (t : List ℕ) × HasTaken (received_at p message) t

-- What a receiver returns when no more octets come, for all octets that it may have taken.
pub record IsFinishedHere (r : Taking) (result : Result (Unit {0}) (Stop ChainReason)) : Type 0 where
  pub done : OnOk result ((t : List ℕ) → HasTaken r t → (v : List (List ℕ)) × IsChain r.ifs r.number r.max v t)
  pub short : IfErr result (λ stop. r.refusal ≡ None → (t : List ℕ) → HasTaken r t → (stop ≡ Short (length t))
      × ((v : List (List ℕ)) → IsChain r.ifs r.number r.max v t → ⊥))
  pub repeated : (refusal : Refusal ChainReason) → r.refusal ≡ Some refusal
      → result ≡ Err (At refusal.place refusal.reason)
