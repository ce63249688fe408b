use Rattle.std.proofs.Common.{[]}
use Rattle.session_core.proofs.lines.replace.Goals as goal

pub returns-then-is_spoiled : goal.returns-then-is_spoiled
returns-then-is_spoiled c = λ burst h. rw c.if-is_spoiled.true (c.feed.ensures [] c.restart.ensures)
