-- The turns of a card's host: the call of its card that each makes, and the event that it is.
use Rattle.std.specs.Prelude.{ℕ, List, Bool, ◌==◌}
use Rattle.t1_core.specs.Card.{CardInput, size, time, replies, more_time, ask_ifs}
use Rattle.line_core.specs.Service.{Event, asked, requested}
use Rattle.session_laws.specs.declared.host.HostTurn.{HostTurn}
use Rattle.session_laws.specs.declared.host.HostTurn.TheVariants.{Reply, MoreTime, AskIfs}

-- the host calls its card, with this reply if it replies
abbrev pub input_by : List ℕ → HostTurn → CardInput
input_by reply Reply = replies reply
input_by reply (MoreTime n) = more_time n
input_by reply (AskIfs n) = ask_ifs n

abbrev pub event_at : Bool → List ℕ → List ℕ → HostTurn → Event
event_at is_new command reply Reply = asked is_new command reply
event_at is_new command reply (MoreTime n) = requested is_new command (time n)
event_at is_new command reply (AskIfs n) = requested is_new command (size n)

-- the command is new to the host: the terminal granted no request about it
abbrev pub is_first : ℕ → Bool
is_first granted = granted == 0
