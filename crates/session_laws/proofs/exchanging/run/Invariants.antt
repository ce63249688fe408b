use Rattle.std.proofs.Common.{◌≡◌, ◌≤◌, List, length}
use Rattle.t1_core.specs.Views.{terminal_held, IsLentTerminal}
use Rattle.session_laws.specs.Talking.{Spoken}
use Rattle.session_laws.specs.Running.{Gone, standing}
use Rattle.session_laws.specs.Ending.{IsWithin, HasWaited, is_limited, fuel}
use Rattle.session_laws.proofs.exchanging.run.Given as goal

abbrev pub invariant-loop-action : goal.invariant-loop-action
invariant-loop-action g l =
    IsLentTerminal l.session.terminal (length l.command) (length l.answer)
    × IsWithin l.fn.limits.blocks l.blocks l.session.line l.action
    × (is_limited l.fn.limits.time → HasWaited l.fn.limits.time l.time l.session.line l.action)
    × (length l.out ≡ 258)
    × (1 ≤ length l.room)
    × ((spoken : List Spoken) × Gone (g.D.TimedDevice.heard l.fn.device) (g.D.TimedDevice.heard l.device)
    (standing (terminal_held l.fn.session.terminal l.command l.fn.answer) l.fn.session.line l.fn.session.own l.fn.out
    l.fn.first) spoken
    (standing (terminal_held l.session.terminal l.command l.answer) l.session.line l.session.own l.out l.action)
    l.blocks l.time)

abbrev pub decreases-loop-action : goal.decreases-loop-action
decreases-loop-action g l = fuel l.session.line l.action
