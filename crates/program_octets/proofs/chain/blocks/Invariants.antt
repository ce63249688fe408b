use Rattle.std.proofs.Common.{◌≡◌, ◌++◌, string_bytes}
use Rattle.chain_core.specs.Chain.{chain_blocks}
use Rattle.chain_core.specs.Cut.{cut_of}
use Rattle.program_octets.specs.ChainTexts.{blocks_text}
use Rattle.program_octets.proofs.chain.blocks.Given as goal

-- the lines made so far and those of the blocks that are left make the whole
abbrev pub invariant-loop-block : goal.invariant-loop-block
invariant-loop-block l = string_bytes l.lines
    ++ blocks_text l.block-iterator ≡ blocks_text (chain_blocks l.fn.number (cut_of l.fn.ifs l.message))
