-- How many octets blocks have.
use Rattle.std.proofs.Common.{◌≡◌, ℕ, ◌+◌, ◌*◌, List, [], ◌∷◌, length, refl, arith, true, false}
use Rattle.std.proofs.lemmas.List.{length-append}
use Rattle.block_core.specs.declared.pcb.Number.{Number}
use Rattle.block_core.specs.Block as block
use Rattle.block_core.specs.Block.{other}
use Rattle.block_core.proofs.Blocks.{spelling-len}
use Rattle.chain_core.specs.Chain.{message_of, chain_blocks, open_blocks, octets_of, chain_block}

-- blocks that all say that more follow have the octets of their message, and four more each
pub open-length : (number : Number) (fs : List (List ℕ))
    → length (octets_of (open_blocks number fs)) ≡ length (message_of fs) + length fs * 4
open-length number [] = refl
open-length number (f ∷ fs) =
    omega (
      arith,
      length-append (block.spelling (chain_block number true f)) (octets_of (open_blocks (other number) fs)),
      spelling-len (chain_block number true f),
      length-append f (message_of fs),
      open-length (other number) fs,
    )

-- and so have the blocks of a chain
pub blocks-length : (number : Number) (fs : List (List ℕ))
    → length (octets_of (chain_blocks number fs)) ≡ length (message_of fs) + length fs * 4
blocks-length number [] = refl
blocks-length number (f ∷ []) = omega (
  arith,
  length-append (block.spelling (chain_block number false f)) [],
  spelling-len (chain_block number false f),
  length-append f [],
)
blocks-length number (f ∷ g ∷ fs) =
    omega (
      arith,
      length-append (block.spelling (chain_block number true f)) (octets_of (chain_blocks (other number) (g ∷ fs))),
      spelling-len (chain_block number true f),
      length-append f (message_of (g ∷ fs)),
      blocks-length (other number) (g ∷ fs),
    )
