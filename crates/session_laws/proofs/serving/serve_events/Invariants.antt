use Rattle.std.proofs.Common.{◌≡◌, ◌≤◌, ◌+◌, List, length}
use Rattle.t1_core.specs.CardViews.{card_held, IsLentCard}
use Rattle.line_core.specs.Service.{Event}
use Rattle.session_laws.specs.Serving.{Ran, placed}
use Rattle.session_laws.proofs.serving.serve_events.Given as goal

abbrev pub invariant-loop-left : goal.invariant-loop-left
invariant-loop-left g l =
    IsLentCard l.session.card (length l.command) (length l.reply)
    × (length l.out ≡ 258)
    × (1 ≤ length l.room)
    × (l.session.takes_short ≡ l.fn.session.takes_short)
    × ((events : List Event) × (ran : Ran l.fn.session.takes_short (g.D.TimedDevice.heard l.fn.device)
    (g.D.TimedDevice.heard l.device) (g.H.AskingHost.served l.fn.host) (g.H.AskingHost.served l.host)
    (card_held l.fn.session.card l.fn.command l.fn.reply)
    l.fn.session.line events
    (placed (card_held l.session.card l.command l.reply) l.session.line l.session.granted l.session.own l.out l.action))
    × (length ran.sounds + length ran.acts + l.left ≡ l.most))

abbrev pub decreases-loop-left : goal.decreases-loop-left
decreases-loop-left g l = l.left
