-- A terminal and a card of `t1_core`, and what the monitor says of their trace. A tap sees the blocks as they were on the
-- line, and each end of the terminal's waiting time. It doesn't see which blocks came whole, and it may miss blocks that
-- are lost.
use Rattle.std.specs.Prelude.{ℕ, List, [], ◌∷◌, ◌++◌, Bool, true, false}
use Rattle.t1_core.specs.Terminal.{Limits}
use Rattle.t1_core.specs.Link.{Tables, Link, link_with, UnderWay, nothing, to_card, to_terminal, Event, delivers, damages, spoils, loses, transmits, asks_ifsd, host_replies, host_asks_time, host_asks_ifsc, happens}
use Rattle.block_core.specs.declared.side.Side.TheVariants.{Terminal, Card}
use Rattle.judge_core.specs.declared.courses.Verdict.TheVariants.{Permitted, Unseen, Deviates}
use Rattle.judge_core.specs.declared.monitor.Monitor.{Monitor}
use Rattle.judge_core.specs.declared.monitor.Said.{Said}
use Rattle.judge_core.specs.declared.monitor.Said.TheVariants.{Damage, Elsewhere, Block}
use Rattle.judge_core.specs.Monitored.{monitor_after, new_monitor, quiet_after, said_in, unsaid, whole}

-- An event. If a block is lost at it, the tap sees that block or misses it.
pub record Traced : Type 0 where
  pub event : Event
  pub missed : Bool

-- ---- a block that the tap sees

abbrev pub shown : Monitor → UnderWay → Monitor
shown m nothing = m
shown m (to_card block) = monitor_after m Terminal (whole block) unsaid
shown m (to_terminal block) = monitor_after m Card (whole block) unsaid

abbrev pub said_of : Monitor → UnderWay → List Said
said_of m nothing = []
said_of m (to_card block) = said_in m Terminal (whole block) ∷ []
said_of m (to_terminal block) = said_in m Card (whole block) ∷ []

-- ---- an event

-- The block is lost, and the terminal's waiting time ends. The trace has that end, and the block only if the tap saw it.
abbrev pub after_loss : Monitor → UnderWay → Bool → Monitor
after_loss m nothing missed = m
after_loss m (to_card block) true = quiet_after m
after_loss m (to_card block) false = quiet_after (shown m (to_card block))
after_loss m (to_terminal block) true = quiet_after m
after_loss m (to_terminal block) false = quiet_after (shown m (to_terminal block))

-- The trace has a block when it leaves the line.
abbrev pub after_event : Monitor → UnderWay → Event → Bool → Monitor
after_event m u delivers missed = shown m u
after_event m u damages missed = shown m u
after_event m u spoils missed = shown m u
after_event m u loses missed = after_loss m u missed
after_event m u (transmits command) missed = m
after_event m u (asks_ifsd size) missed = m
after_event m u (host_replies octets) missed = m
after_event m u (host_asks_time multiple) missed = m
after_event m u (host_asks_ifsc size) missed = m

abbrev pub said_of_loss : Monitor → UnderWay → Bool → List Said
said_of_loss m nothing missed = []
said_of_loss m (to_card block) true = []
said_of_loss m (to_card block) false = said_of m (to_card block)
said_of_loss m (to_terminal block) true = []
said_of_loss m (to_terminal block) false = said_of m (to_terminal block)

abbrev pub said_at : Monitor → UnderWay → Event → Bool → List Said
said_at m u delivers missed = said_of m u
said_at m u damages missed = said_of m u
said_at m u spoils missed = said_of m u
said_at m u loses missed = said_of_loss m u missed
said_at m u (transmits command) missed = []
said_at m u (asks_ifsd size) missed = []
said_at m u (host_replies octets) missed = []
said_at m u (host_asks_time multiple) missed = []
said_at m u (host_asks_ifsc size) missed = []

-- ---- a trace

-- what the monitor says of the blocks of a trace
abbrev pub all_said : Tables → List Traced → Link → Monitor → List Said
all_said by [] l m = []
all_said by (x ∷ xs) l m =
    said_at m l.under_way x.event x.missed
    ++ all_said by xs (happens by l x.event) (after_event m l.under_way x.event x.missed)

-- The octets are a block of the connection that is judged, and the block is no deviation.
abbrev pub Passes : Said → Type 0
Passes Damage = ⊥
Passes Elsewhere = ⊥
Passes (Block Permitted) = Unit {0}
Passes (Block Unseen) = Unit {0}
Passes (Block (Deviates broken owed)) = ⊥

abbrev pub AllPass : List Said → Type 0
AllPass [] = Unit {0}
AllPass (said ∷ more) = Passes said × AllPass more

-- Whatever the limits of both ends, whatever is lost or damaged on the way, and whichever of the lost blocks the tap
-- misses, the monitor accuses nobody.
abbrev pub NoTraceAccuses : Tables → Type 0
NoTraceAccuses by = (terminal_limits card_limits : Limits) (ifsc : ℕ) (trace : List Traced)
    → AllPass (all_said by trace (link_with terminal_limits card_limits ifsc) (new_monitor ifsc))
