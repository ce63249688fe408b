-- Chains as C has them.
use Rattle.std.specs.Prelude.{ℕ}
use Rattle.chain_core.specs.declared.reason.ChainReason.{ChainReason}
use Rattle.chain_core.specs.declared.reason.ChainReason.TheVariants.{BadNad, BadPcb, NotInfo, BadSequence, TooManyBlocks, BadLen, OverIfs, TooLong, BadLrc}

abbrev pub chain_reason : ChainReason → ℕ
chain_reason BadNad = 1
chain_reason BadPcb = 2
chain_reason NotInfo = 3
chain_reason BadSequence = 4
chain_reason TooManyBlocks = 5
chain_reason BadLen = 6
chain_reason OverIfs = 7
chain_reason TooLong = 8
chain_reason BadLrc = 9
