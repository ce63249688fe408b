-- What a session does next. The clauses are those of ISO/IEC 7816-4.
use Rattle.std.specs.Prelude.{ℕ, List, length, nat_lt, if◌then◌else◌, Bool, true, false, Option, Some, None}
use Rattle.session_core.specs.declared.event.Next.{Next}
use Rattle.session_core.specs.declared.event.Next.TheVariants as next
use Rattle.session_core.specs.declared.action.Action.{Action}
use Rattle.session_core.specs.declared.action.Action.TheVariants.{Send, Wait, Answered, NoStatus, Failed, UsedUp, Echo, Order}

-- the end of the session goes on: it takes a burst, or that none came
abbrev pub is_for_end : Next → Bool
is_for_end next.Heard = true
is_for_end next.Quiet = true
is_for_end told = false

-- what the line says, for an end whose own block has so many octets
abbrev pub action_of : Next → ℕ → Action
action_of next.Send own = Send own
action_of (next.Wait time) own = Wait time
action_of next.Failed own = Failed
action_of next.UsedUp own = UsedUp
action_of next.Echo own = Echo
action_of told own = Order

-- an answer with so many octets; SW1 and SW2 are two (5.1)
abbrev pub answered_with : ℕ → Action
answered_with count = if nat_lt count 2 then NoStatus count else Answered count

-- how many octets a message has, if there is one
abbrev pub count_of : Option (List ℕ) → ℕ
count_of None = 0
count_of (Some octets) = length octets
