use Rattle.std.proofs.Common.{◌≡◌, drop}
use Rattle.notes.specs.Says.{asked_from}
use Rattle.notes.proofs.list.asked.Given as goal

-- what the entries so far ask for and those that are left make the whole
abbrev pub invariant-loop-len : goal.invariant-loop-len
invariant-loop-len l = asked_from l.count (drop l.len-index l.entries) ≡ asked_from 0 l.entries
