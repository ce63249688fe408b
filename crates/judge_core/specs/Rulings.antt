-- The trial of octets in the code, before the monitor takes them, as contracts see it.
use Rattle.std.specs.Prelude.{Bool, true, false, Option, Some, None}
use Rattle.block_core.specs.Block.{Parts}
use Rattle.judge_core.specs.declared.courses.Trial.{Trial}
use Rattle.judge_core.specs.declared.monitor.Watched.{Watched}
use Rattle.judge_core.specs.Doubts.{judged_of}
use Rattle.judge_core.specs.Monitored.{Seen, whole, malformed, damage}
use Rattle.judge_core.specs.Stakes.{course_of}

abbrev pub trial_of : Watched → Parts → Trial
trial_of w block = record { judged = judged_of w block; due = course_of w (whole block) }

-- the trial of a block that has the right node address
abbrev pub tried : Watched → Bool → Seen → Option Trial
tried w true (whole block) = Some (trial_of w block)
tried w false (whole block) = None
tried w addressed (malformed broken) = None
tried w addressed damage = None
