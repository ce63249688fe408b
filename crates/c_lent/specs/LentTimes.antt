-- What the calls on the times of a line do if the caller keeps the state.
use Rattle.std.specs.Prelude.{◌≡◌, ◌≢◌, ℕ, List, length, Bool, true, false}
use Rattle.atr_core.specs.T1.{IsUsable}
use Rattle.block_core.specs.declared.side.Side.{Side}
use Rattle.judge_core.specs.declared.monitor.Monitor.{Monitor}
use Rattle.judge_core.specs.declared.monitor.Arrival.{Arrival}
use Rattle.judge_core.specs.declared.monitor.Report.{Report}
use Rattle.judge_core.specs.Monitored.{Takes}
use Rattle.judge_times.specs.declared.clocked.Moments.{Moments}
use Rattle.judge_times.specs.declared.clocked.OffTime.{OffTime}
use Rattle.judge_times.specs.declared.clocked.OffTime.TheVariants.{No, Late, Early}
use Rattle.judge_times.specs.declared.clocked.Timed.{Timed}
use Rattle.judge_times.specs.Clocked.{clocked_after, timed_by, with_moments}
use Rattle.c_lent.specs.Atr.{t1_values}
use Rattle.c_lent.specs.declared.atr.CT1.{CT1}
use Rattle.c_lent.specs.KeptJudge.{monitor_of}
use Rattle.c_lent.specs.KeptTimes.{clocked_of}
use Rattle.c_lent.specs.declared.kept_judge.CJudge.{CJudge}
use Rattle.c_lent.specs.declared.kept_times.CTimes.{CTimes}
use Rattle.c_lent.specs.declared.lent_times.CTimed.{CTimed}

-- the times can begin with these parameters of T=1 and this frequency of a clock
pub record CanBegin (params : CT1) (hertz : ℕ) : Type 0 where
  pub usable : IsUsable (t1_values params)
  pub clock : hertz ≢ 0

abbrev pub over_mark : Bool → ℕ
over_mark true = 1
over_mark false = 0

-- 1 for a block that came too late, 2 for one that came too early, with the elapsed time and the limit; else 0
abbrev pub told_off : Bool → OffTime → CTimed
told_off over No = record { elapsed = 0; limit = 0; off = 0; over = over_mark over }
told_off over (Late late) =
    record { elapsed = late.elapsed; limit = late.permitted; off = 1; over = over_mark over }
told_off over (Early early) =
    record { elapsed = early.elapsed; limit = early.least; off = 2; over = over_mark over }

abbrev pub timed_shown : Timed → CTimed
timed_shown timed = told_off timed.over timed.off

-- The times took octets of an end as one block, before the judge with this state takes them. The report is what the
-- judge says of the block then.
pub record TimesBlock (old : CTimes) (judge : CJudge) (from : Side) (octets : List ℕ) (arrival : Arrival)
    (moments : Moments) (least : ℕ) (new : CTimes) (out : CTimed) : Type 0 where
  pub monitor : Monitor
  pub report : Report
  pub takes : Takes (monitor_of judge) from octets arrival monitor report
  pub told : out ≡ timed_shown (timed_by (clocked_of old) (with_moments (clocked_of old).timing moments)
      (monitor_of judge).card.heard report.said from)
  pub after : clocked_of new ≡ clocked_after (clocked_of old) (with_moments (clocked_of old).timing moments)
      report.said from (length octets) least
