-- What a call of a plain line returns, from where the line goes.
use Rattle.std.proofs.Common.{◌≡◌, ℕ, min}
use Rattle.line_core.specs.Bursts.{handed}
use Rattle.session_core.specs.declared.event.Next.{Next}
use Rattle.session_core.specs.declared.progress.Rules.{Rules}
use Rattle.session_core.specs.declared.lines.Line.{Line}
use Rattle.session_core.specs.declared.lines.LineNext.{LineNext}
use Rattle.session_core.specs.Wire.{Step}
use Rattle.session_core.specs.Lines.{GoesTo, IsTold, told_next}

pub told-by : (step : Step) (rules : Rules) (new : Line) (next : Next) (kept : ℕ) (told : LineNext)
    → GoesTo step rules new next → kept ≡ min new.framer.count handed → told ≡ told_next next kept
    → IsTold step rules new told
told-by step rules new next kept told g k e = (g.0, rw g.1 at (rw k at e))
