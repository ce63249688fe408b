use Rattle.std.proofs.Common.{length, ◌≡◌, ◌≤◌, ◌++◌, take, drop}
use Rattle.chain_core.specs.Chain.{spelling, octets_of}
use Rattle.chain_core.specs.Cut.{cut_of}
use Rattle.c_lent.proofs.chain.put_chain.Given as goal

-- so many octets were put into the buffer, and these are left
abbrev pub invariant-loop-block : goal.invariant-loop-block
invariant-loop-block l = record {
  inside : l.count ≤ length (spelling l.fn.number (cut_of l.ifs l.message));
  left : drop l.count (spelling l.fn.number (cut_of l.ifs l.message)) ≡ octets_of l.block-iterator;
  so_far : l.out ≡ take l.count (spelling l.fn.number (cut_of l.ifs l.message)) ++ drop l.count l.fn.out;
}
