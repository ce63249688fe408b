use Rattle.std.proofs.Common.{length, ◌≡◌, ◌≤◌, take, drop}
use Rattle.std.specs.Io.KnownBytes.{Appends}
use Rattle.chain_core.specs.Chain.{spelling, octets_of}
use Rattle.chain_core.specs.Cut.{cut_of}
use Rattle.chain_core.proofs.writing.write_chain.Given as goal

-- what was written so far, with no failure, and what is left
abbrev pub invariant-loop-block : goal.invariant-loop-block
invariant-loop-block g l = record {
  inside : l.written ≤ length (spelling l.fn.number (cut_of l.ifs l.msg));
  so_far : Appends (g.W.Sink.contents l.fn.writer) (g.W.Sink.contents l.writer)
      (take l.written (spelling l.fn.number (cut_of l.ifs l.msg)));
  left : drop l.written (spelling l.fn.number (cut_of l.ifs l.msg)) ≡ octets_of l.block-iterator;
  count : g.W.Sink.failures l.writer ≡ g.W.Sink.failures l.fn.writer;
}
