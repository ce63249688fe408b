use Rattle.std.proofs.Common.{◌∙◌, string_bytes}
use Rattle.program_octets.proofs.Pushes.{indent-then}
use Rattle.program_octets.proofs.forest.push_indent.Goals as goal

pub loop-left-preserved : goal.loop-left-preserved
loop-left-preserved c =
    indent-then (string_bytes c.loop-left.text) (string_bytes c.push_str.new.self) c.loop-left.left
    c.loop-left-test.true c.in_ok-push_str.ensures.bytes ∙ c.loop-left.invariant
