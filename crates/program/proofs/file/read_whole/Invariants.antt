use Rattle.std.proofs.Common.{◌-◌}
use Rattle.program.specs.Calls.{calls_of}
use Rattle.program.specs.Files.{IsHeld}
use Rattle.program.proofs.file.read_whole.Given as goal

-- what was read so far, by calls that didn't fail
abbrev pub invariant-loop-filled : goal.invariant-loop-filled
invariant-loop-filled g l = record {
  so_far : IsHeld (calls_of g.R.Source.remaining g.R.Source.failures l.fn.reader l.reader) l.held.items l.filled;
}

abbrev pub decreases-loop-filled : goal.decreases-loop-filled
decreases-loop-filled g l = 4194305 - l.filled
