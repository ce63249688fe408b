-- The state of a receiver of a chain as C keeps it.
use Rattle.std.specs.Prelude.{◌≡◌, ℕ, ◌==◌, if◌then◌else◌, List, length, Bool, false, Option, Some, None}
use Rattle.octet_core.specs.declared.stop.Refusal.{Refusal}
use Rattle.block_core.specs.declared.pcb.Number.{Number}
use Rattle.chain_core.specs.declared.stage.BlockStage.{BlockStage}
use Rattle.chain_core.specs.declared.stage.BlockStage.TheVariants.{Nad, Pcb, Len, Rest}
use Rattle.chain_core.specs.declared.lent.LentReceiver.{LentReceiver}
use Rattle.chain_core.specs.declared.reason.ChainReason.{ChainReason}
use Rattle.chain_core.specs.declared.reason.ChainReason.TheVariants.{BadNad, BadPcb, NotInfo, BadSequence, TooManyBlocks, BadLen, OverIfs, TooLong, BadLrc}
use Rattle.chain_core.specs.Taking.{Taking}
use Rattle.chain_core.specs.Lent.{IsLentReceiver, received_at}
use Rattle.c_lent.specs.Number.{number_of}
use Rattle.c_lent.specs.Kept.{mark_of}
use Rattle.c_lent.specs.declared.kept_receiver.CReceiver.{CReceiver}

-- the next part of the unfinished block, by its number
abbrev pub stage_of : ℕ → Bool → ℕ → Option BlockStage
stage_of kind more len =
    if kind == 0 then Some Nad
    else (if kind == 1 then Some Pcb
    else (if kind == 2 then Some (Len more)
    else (if kind == 3 then Some (Rest more len) else None)))

-- the number of the next part, whether more blocks follow, and the length: no and 0 if unused
abbrev pub stage_shown : BlockStage → ℕ × Bool × ℕ
stage_shown Nad = (0, false, 0)
stage_shown Pcb = (1, false, 0)
stage_shown (Len more) = (2, more, 0)
stage_shown (Rest more len) = (3, more, len)

-- a refusal at this place
abbrev pub refused_at : ChainReason → ℕ → Option (Option (Refusal ChainReason))
refused_at reason place = Some (Some (record { place = place; reason = reason }))

-- the refusal that is kept, by the number of its reason, 0 if there is none
abbrev pub refusal_from : ℕ → ℕ → Option (Option (Refusal ChainReason))
refusal_from n place =
    if n == 0 then Some None
    else (if n == 1 then refused_at BadNad place
    else (if n == 2 then refused_at BadPcb place
    else (if n == 3 then refused_at NotInfo place
    else (if n == 4 then refused_at BadSequence place
    else (if n == 5 then refused_at TooManyBlocks place
    else (if n == 6 then refused_at BadLen place
    else (if n == 7 then refused_at OverIfs place
    else (if n == 8 then refused_at TooLong place
    else (if n == 9 then refused_at BadLrc place else None)))))))))

abbrev pub stage_from : CReceiver → Option Bool → Option BlockStage
stage_from c None = None
stage_from c (Some more) = stage_of c.part more c.len

abbrev pub receiver_from : CReceiver → Option Number → Option BlockStage → Option Bool
    → Option (Option (Refusal ChainReason))
    → Option LentReceiver
receiver_from c (Some first) (Some stage) (Some is_done) (Some refusal) = Some (record {
  ifs = c.ifs;
  first = first;
  max = c.max;
  blocks = c.blocks;
  joined = c.joined;
  stage = stage;
  came = c.came;
  done = is_done;
  refusal = refusal;
})
receiver_from c first stage is_done refusal = None

-- the receiver that a state spells, if any
abbrev pub receiver_of : CReceiver → Option LentReceiver
receiver_of c = receiver_from c (number_of c.number) (stage_from c (mark_of c.more)) (mark_of c.done)
    (refusal_from c.refused c.refused_at)

-- A state and a buffer are this receiver. If they aren't a receiver, this holds for no receiver.
pub record IsReceiver (c : CReceiver) (message : List ℕ) (r : Taking) : Type 0 where
  pub receiver : LentReceiver
  pub spelled : receiver_of c ≡ Some receiver
  pub fit : IsLentReceiver receiver (length message)
  pub held : r ≡ received_at receiver message
