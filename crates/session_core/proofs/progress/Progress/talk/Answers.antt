use Rattle.session_core.specs.Wire.{ruled}
use Rattle.session_core.specs.Wire.{seen}
use Rattle.std.proofs.Common.{◌∙◌, ◌+◌, min, sym}
use Rattle.session_core.specs.Wire.{talks, stops, settles, most_counted}
use Rattle.session_core.specs.declared.event.Next.TheVariants.{UsedUp}
use Rattle.session_core.proofs.Parts.{is_step, yes}
use Rattle.session_core.proofs.progress.Progress.talk.Goals as goal

pub returns-then-is_used_up : goal.returns-then-is_used_up
unfolding talks
returns-then-is_used_up c = λ burst h.
    is_step (talks (ruled c.args.rules.now) (seen c.args.self.now) burst c.args.now) (seen c.stop.new.self) burst
    c.stop.result
    c.args.framer.now
    (yes _ (stops (seen c.args.self.now) burst UsedUp)
    (settles (ruled c.args.rules.now) (record (seen c.args.self.now)
    { blocks = min ((seen c.args.self.now).blocks + 1) most_counted }) burst
    c.args.now)
    (sym c.is_used_up.ensures ∙ c.if-is_used_up.true) ∙ c.stop.ensures burst) h
