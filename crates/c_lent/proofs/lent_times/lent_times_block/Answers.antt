use Rattle.std.proofs.Common.{◌≡◌, ◌∙◌, length, Option, None, IfSome, IfNone, sym, subst}
use Rattle.block_core.specs.declared.side.Side.{Side}
use Rattle.judge_core.specs.declared.monitor.Monitor.{Monitor}
use Rattle.judge_core.specs.declared.monitor.Arrival.{Arrival}
use Rattle.judge_core.specs.Monitored.{Takes}
use Rattle.judge_times.specs.declared.clocked.Clocked.{Clocked}
use Rattle.judge_times.specs.declared.clocked.Moments.{Moments}
use Rattle.judge_times.specs.Clocked.{least_after}
use Rattle.c_lent.specs.Verdict.{ok_at}
use Rattle.c_lent.specs.KeptJudge.{monitor_of}
use Rattle.c_lent.specs.LentJudge.{arrival_of}
use Rattle.c_lent.specs.KeptTimes.{clocked_of, moments_of, IsBegun}
use Rattle.c_lent.specs.LentTimes.{TimesBlock}
use Rattle.c_lent.proofs.TimesKept.{no-fall, still-begun, times-block, Taken}
use Rattle.c_lent.proofs.lent_times.lent_times_block.Goals as goal

pub returns-clause-timed : goal.returns-clause-timed
returns-clause-timed c = λ begun.
    let old = c.args.times.now in
    let judge = c.args.judge.now in
    let octets = c.args.octets.now in
    let moments = moments_of c.args.moments.now in
    let side = c.in-Some.side in
    let how = c.in-Some-arrival_of.how in
    let report = c.block-report.result in
    let after = c.block.new.self in
    let new = c.with_blocks.result in
    let out = c.of.result in
    let answer = c.block.result in
    let taken : Taken (clocked_of old) moments (monitor_of judge).card.heard report.said side (length octets) answer
    after =
    subst (λ (k : Clocked). Taken k moments (monitor_of judge).card.heard report.said side (length octets) answer after)
    c.in-Some-clocked.ensures.1
    (subst (λ (m : Moments). Taken c.in-Some-clocked.clocked m (monitor_of judge).card.heard report.said side
    (length octets) answer after) c.moments.ensures
    (subst (λ (m : Monitor). Taken c.in-Some-clocked.clocked c.moments.result m.card.heard report.said side
    (length octets) answer after) c.monitor-monitor.ensures c.block.ensures.taken)) in
    let takes : Takes (monitor_of judge) side octets how c.block-report.new.self report =
    subst (λ (m : Monitor). Takes m side octets how c.block-report.new.self report) c.monitor-monitor.ensures
    c.block-report.ensures in
    subst (λ (o : Option Side). IfSome o (λ s. IfSome (arrival_of c.args.arrival c.args.came) (λ h.
    IfSome (least_after old.least moments) (λ least. (c.ok.result ≡ ok_at 0)
    × IsBegun new × TimesBlock old judge s octets h moments least new out))))
    (sym c.in-Some.is ∙ c.side_of.ensures)
    (subst (λ (o : Option Arrival). IfSome o (λ h. IfSome (least_after old.least moments) (λ least.
    (c.ok.result ≡ ok_at 0) × IsBegun new × TimesBlock old judge side octets h moments least new out)))
    (sym c.in-Some-arrival_of.is ∙ c.arrival_of.ensures)
    (times-block (least_after old.least moments) old new judge side octets how moments out c.block-report.new.self
    report after answer c.in-Some-block.timed (c.ok.result ≡ ok_at 0) (IsBegun new) c.ok.ensures
    (still-begun old new after begun c.with_blocks.ensures) takes taken c.in-Some-block.is c.with_blocks.ensures
    c.of.ensures))

pub returns-clause-falls : goal.returns-clause-falls
returns-clause-falls c =
    no-fall _ c.block.result c.in-Some-block.timed _ _
    (subst (λ (k : Clocked). IfNone (least_after k.least (moments_of c.args.moments.now))
    ((c.block.result ≡ None) × (c.block.new.self ≡ c.in-Some-clocked.clocked)))
    c.in-Some-clocked.ensures.1
    (subst (λ (m : Moments). IfNone (least_after c.in-Some-clocked.clocked.least m)
    ((c.block.result ≡ None) × (c.block.new.self ≡ c.in-Some-clocked.clocked)))
    c.moments.ensures c.block.ensures.falls))
    c.in-Some-block.is
