-- The card over caller-owned buffers, seen as its state.
use Rattle.std.specs.Prelude.{◌≡◌, ◌≤◌, ◌-◌, List, [], ℕ, length, take, drop, replicate, Option, Some, None}
use Rattle.t1_core.specs.declared.turns.Cut.{Cut}
use Rattle.t1_core.specs.declared.turns.CardAsked.{CardAsked}
use Rattle.t1_core.specs.declared.turns.CardAsked.TheVariants.{Size, Time}
use Rattle.t1_core.specs.declared.turns.CardWait.{CardWait}
use Rattle.t1_core.specs.declared.turns.CardWait.TheVariants.{Command, Joining, Host, Reply, Asking}
use Rattle.t1_core.specs.declared.lent.LentCard.{LentCard}
use Rattle.t1_core.specs.Card.{CardState, CardRequest, size, time, Waits, command, host, reply, asking}
use Rattle.t1_core.specs.Views.{field_at, rest_at, IsSize, IsInner, IsLast}

-- the field of its last I-block, until something acknowledges it
abbrev pub saved_of : Option Cut → List ℕ → Option (List ℕ)
saved_of None message = None
saved_of (Some cut) message = Some (field_at cut message)

abbrev pub request_of : CardAsked → CardRequest
request_of (Size n) = size n
request_of (Time n) = time n

abbrev pub card_waits_of : CardWait → List ℕ → List ℕ → Waits
card_waits_of Command buffer message = command []
card_waits_of Joining buffer message = command buffer
card_waits_of Host buffer message = host
card_waits_of (Reply cut) buffer message = reply (field_at cut message) (rest_at cut message)
card_waits_of (Asking asked) buffer message = asking (request_of asked)

-- the last command, until the first block of the next one comes
abbrev pub command_in : CardWait → List ℕ → List ℕ
command_in Joining buffer = []
command_in wait buffer = buffer

-- the octets of the command that came so far
abbrev pub taken_of : Waits → List ℕ
taken_of (command joined) = joined
taken_of waits = []

-- how many they are, if the card holds so many octets of a command
abbrev pub taken_len : CardWait → ℕ → ℕ
taken_len Joining octets = octets
taken_len wait octets = 0

-- the card waits for a command, so an I-block of a command can be joined
abbrev pub IsTaking : CardWait → Type 0
IsTaking Command = Unit {0}
IsTaking Joining = Unit {0}
IsTaking wait = ⊥

-- the card sends a reply, and more of it follows the last I-block
abbrev pub IsReplying : CardWait → Type 0
IsReplying (Reply cut) = Unit {0}
IsReplying wait = ⊥

-- the command that the host owes the reply to, if any
abbrev pub owed : CardState → Waits → Option (List ℕ)
owed c host = Some c.command
owed c (asking asked) = Some c.command
owed c waits = None

abbrev pub IsSaved : Option Cut → ℕ → Type 0
IsSaved None octets = Unit {0}
IsSaved (Some cut) octets = IsLast cut octets

-- nothing is saved from the host's turn until the last block of the reply, which has so many octets
abbrev pub IsCardWait : CardWait → Option Cut → ℕ → Type 0
IsCardWait Command saved octets = Unit {0}
IsCardWait Joining saved octets = Unit {0}
IsCardWait Host saved octets = saved ≡ None
IsCardWait (Reply cut) saved octets = IsInner cut octets × (saved ≡ None)
IsCardWait (Asking (Size n)) saved octets = IsSize n × (saved ≡ None)
IsCardWait (Asking (Time n)) saved octets = saved ≡ None

abbrev pub IsRequest : CardAsked → Type 0
IsRequest (Size n) = IsSize n
IsRequest (Time n) = Unit {0}

-- the field of the reply's unacknowledged I-block, and the octets after it
abbrev pub field_of : Waits → List ℕ
field_of (reply field rest) = field
field_of waits = []

abbrev pub rest_of : Waits → List ℕ
rest_of (reply field rest) = rest
rest_of waits = []

-- ---- the card and its two buffers, whether it or its caller owns them

abbrev pub card_seen : LentCard → List ℕ → List ℕ → CardState
card_seen p buffer message = record {
  number = p.number;
  expected = p.expected;
  saved = saved_of p.saved message;
  ifsc = p.ifsc;
  ifsd = p.ifsd;
  first_ifsc = p.first_ifsc;
  command = command_in p.wait buffer;
  waits = card_waits_of p.wait buffer message;
  limits = record { command = p.most_command; answer = p.most_reply };
}

-- the card's state, if its messages are the first octets of two buffers
abbrev pub card_held : LentCard → List ℕ → List ℕ → CardState
card_held p buffer message = card_seen p (take p.command_len buffer) (take p.reply_len message)

-- this is a card whose buffers have room for so many octets
pub record IsLentCard (p : LentCard) (room reply_room : ℕ) : Type 0 where
  pub wait : IsCardWait p.wait p.saved p.reply_len
  pub saved : IsSaved p.saved p.reply_len
  pub ifsc : IsSize p.ifsc
  pub ifsd : IsSize p.ifsd
  pub first_ifsc : IsSize p.first_ifsc
  -- what the buffers hold, and the most that they may hold
  pub command_held : p.command_len ≤ room
  pub reply_held : p.reply_len ≤ reply_room
  pub most_command : p.most_command ≤ room
  pub most_reply : p.most_reply ≤ reply_room

-- each octet of the buffer after the first `count` is 0
abbrev pub IsBlankAfter : ℕ → List ℕ → Type 0
IsBlankAfter count buffer = drop count buffer ≡ replicate (length buffer - count) 0

-- no octet of an earlier command is in the command's buffer
abbrev pub IsBlank : LentCard → List ℕ → Type 0
IsBlank p buffer = IsBlankAfter p.command_len buffer
