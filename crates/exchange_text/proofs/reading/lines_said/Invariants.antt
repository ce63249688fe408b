use Rattle.std.proofs.Common.{length}
use Rattle.exchange_text.proofs.Sequel.{IsSequel}
use Rattle.exchange_text.proofs.reading.lines_said.Given as goal

abbrev pub invariant-loop-line : goal.invariant-loop-line
invariant-loop-line l = IsSequel l.version l.text l.lines.items l.number l.least l.rest

abbrev pub decreases-loop-line : goal.decreases-loop-line
decreases-loop-line l = length l.rest
