-- The times of a line, taken block by block (ISO/IEC 7816-3:2006, 11.4.3).
use Rattle.std.specs.Prelude.{ℕ, nat_lt, Option, Some, None, if◌then◌else◌}
use Rattle.std.specs.Option.{is_some}
use Rattle.atr_core.specs.T1.{T1Values}
use Rattle.block_core.specs.declared.side.Side.{Side}
use Rattle.block_core.specs.declared.side.Side.TheVariants.{Terminal, Card}
use Rattle.judge_core.specs.declared.courses.Heard.{Heard}
use Rattle.judge_core.specs.declared.monitor.Said.{Said}
use Rattle.judge_times.specs.declared.timing.Early.{Early}
use Rattle.judge_times.specs.declared.timing.Late.{Late}
use Rattle.judge_times.specs.declared.timing.Timing.{Timing}
use Rattle.judge_times.specs.declared.clocked.Clocked.{Clocked}
use Rattle.judge_times.specs.declared.clocked.Moments.{Moments}
use Rattle.judge_times.specs.declared.clocked.OffTime.{OffTime}
use Rattle.judge_times.specs.declared.clocked.OffTime.TheVariants as off
use Rattle.judge_times.specs.declared.clocked.Timed.{Timed}
use Rattle.judge_times.specs.Waiting.{earliness, early_as, late_as, lateness, new_timing, timed_as, Rates}

-- the times at a reset of a card with these parameters, F and D, by a clock of this frequency
abbrev pub new_clocked : T1Values → Rates → ℕ → Clocked
new_clocked values rates clock = record { params = values; clock = clock; least = 0; timing = new_timing rates }

-- ---- moments don't fall

-- the least moment of what comes next, after a moment of a block; none if the moment is below an earlier one
abbrev pub raised : ℕ → Option ℕ → Option ℕ
raised least None = Some least
raised least (Some moment) = if nat_lt moment least then None else Some moment

abbrev pub raised_again : Option ℕ → Option ℕ → Option ℕ
raised_again None moment = None
raised_again (Some least) moment = raised least moment

-- the least moment after a block, whose first octet doesn't come after its last
abbrev pub least_after : ℕ → Moments → Option ℕ
least_after least moments = raised_again (raised least moments.first) moments.last

-- ---- a block

-- what is known of the times directly before a block with these moments
abbrev pub with_moments : Timing → Moments → Timing
with_moments timing moments = record timing { now = moments.first; until = moments.last }

abbrev pub off_late : Option Late → OffTime
off_late None = off.No
off_late (Some late) = off.Late late

abbrev pub off_early : Option Early → OffTime
off_early None = off.No
off_early (Some early) = off.Early early

-- a card's block can be late, and a terminal's early
abbrev pub off_by : Side → Option Late → Option Early → OffTime
off_by Terminal late early = off_early early
off_by Card late early = off_late late

-- what is said of the time of a block of this end that begins now
abbrev pub off_time : Clocked → Timing → Heard → Said → Side → OffTime
off_time c timing heard said from = off_by from
    (late_as said (lateness c.params (Some c.clock) timing heard))
    (early_as said (earliness c.params (Some c.clock) timing heard))

-- what is said of a block, from what the card heard of the terminal's last block before
abbrev pub timed_by : Clocked → Timing → Heard → Said → Side → Timed
timed_by c timing heard said from = record {
  over = is_some (lateness c.params (Some c.clock) timing heard);
  off = off_time c timing heard said from;
}

-- the times after a block of so many octets
abbrev pub clocked_after : Clocked → Timing → Said → Side → ℕ → ℕ → Clocked
clocked_after c timing said from octets least = record c {
  least = least;
  timing = timed_as said timing from octets;
}
