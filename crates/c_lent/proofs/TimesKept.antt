-- What a call on the times of a line leaves and says.
use Rattle.std.proofs.Common.{◌≡◌, ◌∙◌, ℕ, List, length, Option, Some, None, IfSome, IfNone, ap, sym, refl, subst}
use Rattle.atr_core.specs.T1.{IsUsable}
use Rattle.block_core.specs.declared.side.Side.{Side}
use Rattle.block_core.specs.declared.side.Side.TheVariants.{Terminal, Card}
use Rattle.judge_core.specs.declared.courses.Heard.{Heard}
use Rattle.judge_core.specs.declared.monitor.Monitor.{Monitor}
use Rattle.judge_core.specs.declared.monitor.Arrival.{Arrival}
use Rattle.judge_core.specs.declared.monitor.Report.{Report}
use Rattle.judge_core.specs.declared.monitor.Said.{Said}
use Rattle.judge_core.specs.declared.monitor.Said.TheVariants.{Damage, Elsewhere, Block}
use Rattle.judge_core.specs.Monitored.{Takes}
use Rattle.judge_times.specs.declared.timing.Sent.{Sent}
use Rattle.judge_times.specs.declared.timing.Timing.{Timing}
use Rattle.judge_times.specs.declared.clocked.Clocked.{Clocked}
use Rattle.judge_times.specs.declared.clocked.Moments.{Moments}
use Rattle.judge_times.specs.declared.clocked.Timed.{Timed}
use Rattle.judge_times.specs.Waiting.{after_card, sent_by, timed, timed_as}
use Rattle.judge_times.specs.Clocked.{clocked_after, least_after, timed_by, with_moments}
use Rattle.c_lent.specs.KeptJudge.{monitor_of}
use Rattle.c_lent.specs.KeptTimes.{clocked_of, IsBegun}
use Rattle.c_lent.specs.LentTimes.{timed_shown, TimesBlock}
use Rattle.c_lent.specs.declared.kept_judge.CJudge.{CJudge}
use Rattle.c_lent.specs.declared.kept_times.CTimes.{CTimes}
use Rattle.c_lent.specs.declared.lent_times.CTimed.{CTimed}

-- what a Clocked says of a block, and how it is then
abbrev pub Taken : Clocked → Moments → Heard → Said → Side → ℕ → Option Timed → Clocked → Type 0
Taken k moments heard said from n answer after = IfSome (least_after k.least moments) (λ least.
    (answer ≡ Some (timed_by k (with_moments k.timing moments) heard said from))
    × (after ≡ clocked_after k (with_moments k.timing moments) said from n least))

-- the timing with the rates of another one, no moments, and the blocks of a third
abbrev pub blocks_in : Timing → Timing → Timing
blocks_in k t = record { rates = k.rates; now = None; until = None; sent = t.sent; came = t.came }

abbrev pub kept_in : Clocked → Clocked → Clocked
kept_in k after = record k { least = after.least; timing = blocks_in k.timing after.timing }

card-kept : (t : Timing) (o : Option Sent) → blocks_in t (after_card t o) ≡ after_card t o
card-kept t None = refl
card-kept t (Some came) = refl

side-kept : (t : Timing) (from : Side) (n : ℕ) → blocks_in t (timed t from n) ≡ timed t from n
side-kept t Terminal n = refl
side-kept t Card n = card-kept t (sent_by t.until t.now n)

-- the blocks and the rates are all of a timing after a block
block-kept : (t : Timing) (said : Said) (from : Side) (n : ℕ)
    → blocks_in t (timed_as said t from n) ≡ timed_as said t from n
block-kept t Damage from n = side-kept t from n
block-kept t Elsewhere from n = refl
block-kept t (Block verdict) from n = side-kept t from n

after-kept : (k after : Clocked) (moments : Moments) (said : Said) (from : Side) (n least : ℕ)
    → after ≡ clocked_after k (with_moments k.timing moments) said from n least
    → kept_in k after ≡ clocked_after k (with_moments k.timing moments) said from n least
after-kept k after moments said from n least is =
    ap (kept_in k) is
    ∙ ap (λ (t : Timing). record k { least = least; timing = t })
    (block-kept (with_moments k.timing moments) said from n)

some-is : (x y : Timed) → Some x ≡ Some y → x ≡ y
some-is x y e = cc

-- the call says what the definitions say
pub times-block : (o : Option ℕ) (old new : CTimes) (judge : CJudge) (from : Side) (octets : List ℕ) (how : Arrival)
    (moments : Moments) (out : CTimed) (monitor : Monitor) (report : Report) (after : Clocked) (answer : Option Timed)
    (said : Timed) (P Q : Type 0) → P → Q → Takes (monitor_of judge) from octets how monitor report
    → IfSome o (λ least.
    (answer ≡ Some (timed_by (clocked_of old) (with_moments (clocked_of old).timing moments)
    (monitor_of judge).card.heard report.said from))
    × (after ≡ clocked_after (clocked_of old) (with_moments (clocked_of old).timing moments) report.said from
    (length octets) least))
    → answer ≡ Some said → clocked_of new ≡ kept_in (clocked_of old) after → out ≡ timed_shown said
    → IfSome o (λ least. P × Q × TimesBlock old judge from octets how moments least new out)
times-block None old new judge from octets how moments out monitor report after answer said P Q p q takes h is keeps
    tells = h
times-block (Some least) old new judge from octets how moments out monitor report after answer said P Q p q takes h is
    keeps
    tells = (
      p,
      q,
      record {
        monitor = monitor;
        report = report;
        takes = takes;
        told = tells ∙ ap timed_shown (some-is _ _ (sym is ∙ h.0));
        after = keeps ∙ after-kept (clocked_of old) after moments report.said from (length octets) least h.1;
      },
    )

-- times that were begun remain so
pub still-begun : (old new : CTimes) (after : Clocked) → IsBegun old → clocked_of new ≡ kept_in (clocked_of old) after
    → IsBegun new
still-begun old new after begun keeps = record {
  params = subst IsUsable (sym (ap (λ (k : Clocked). k.params) keeps)) begun.params;
  clock = λ zero. begun.clock (sym (ap (λ (k : Clocked). k.clock) keeps) ∙ zero);
}

none-said : (said : Timed) → None ≡ Some said → ⊥
none-said said e = cc e

-- no moment falls if the times took the block
pub no-fall : (o : Option ℕ) (answer : Option Timed) (said : Timed) (P Q : Type 0) → IfNone o ((answer ≡ None) × P)
    → answer ≡ Some said → IfNone o Q
no-fall None answer said P Q h is = absurd (none-said said (sym h.0 ∙ is))
no-fall (Some least) answer said P Q h is = h
