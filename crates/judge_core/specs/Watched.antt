-- The judge watches both ends of a link, and knows what each end hears.
use Rattle.std.specs.Prelude.{ℕ, List, [], ◌∷◌, Ok, Err}
use Rattle.block_core.specs.Block.{Parts}
use Rattle.t1_core.specs.declared.turns.TerminalTurn.{TerminalTurn}
use Rattle.t1_core.specs.declared.turns.TerminalTurn.TheVariants.{Send, Answered, IfsSet, GivenUp, Dead}
use Rattle.t1_core.specs.declared.turns.CardTurn.{CardTurn}
use Rattle.t1_core.specs.declared.turns.CardTurn.TheVariants.{Send as Sends, Asked}
use Rattle.t1_core.specs.Came.{Came, got, damaged, invalid, quiet, carried}
use Rattle.t1_core.specs.Terminal.{Limits, TerminalStep, TerminalInput, transmit, ask_ifs, takes, first_ifsd}
use Rattle.t1_core.specs.Card.{CardStep, CardInput, replies, more_time, ask_ifs as card_ask_ifs, takes as card_takes}
use Rattle.t1_core.specs.Link.{Tables, Link, link_with, UnderWay, nothing, to_card, to_terminal, Event, delivers, damages, spoils, loses, transmits, asks_ifsd, host_replies, host_asks_time, host_asks_ifsc, happens}
use Rattle.block_core.specs.declared.side.Side.TheVariants.{Terminal, Card}
use Rattle.judge_core.specs.declared.end.End.{End}
use Rattle.judge_core.specs.declared.courses.Heard.{Heard}
use Rattle.judge_core.specs.declared.courses.Heard.TheVariants.{Beginning, Whole, Perhaps, Broken, Nothing}
use Rattle.judge_core.specs.declared.courses.Verdict.{Verdict}
use Rattle.judge_core.specs.declared.courses.Verdict.TheVariants.{Permitted, Unseen, Deviates}
use Rattle.judge_core.specs.declared.courses.Judged.{Judged}
use Rattle.judge_core.specs.Ends.{new_end}
use Rattle.judge_core.specs.Courses.{judges}
use Rattle.judge_core.specs.Followed.{last_after}

-- An end, what it heard since its last block, and the field of its last I-block.
pub record Watched : Type 0 where
  pub «end» : End
  pub heard : Heard
  pub last : List ℕ

-- Both ends, and the verdicts on their blocks, the newest first.
pub record Watch : Type 0 where
  pub terminal : Watched
  pub card : Watched
  pub verdicts : List Verdict

-- a watch at a reset of the card, which takes fields of up to ifsc octets
abbrev pub new_watch : ℕ → Watch
new_watch ifsc = record {
  terminal = record { «end» = new_end Terminal ifsc; heard = Beginning; last = [] };
  card = record { «end» = new_end Card first_ifsd; heard = Nothing; last = [] };
  verdicts = [];
}

-- what an end heard if it took this
abbrev pub heard_of : Came → Heard
heard_of (got pcb inf) = Whole pcb (carried inf)
heard_of damaged = Broken
heard_of invalid = Broken
heard_of quiet = Broken

abbrev pub hearing : Watched → Heard → Watched
hearing w heard = record w { heard = heard }

-- the judge's verdict on the end's block
abbrev pub judged_of : Watched → Parts → Judged
judged_of w block = judges w.«end» w.heard w.last block.pcb block.inf

-- the end after its block, and what it heard if no block comes
abbrev pub after_sending : Heard → Watched → Parts → Watched
after_sending silence w block = record {
  «end» = (judged_of w block).«end»;
  heard = silence;
  last = last_after w.last block.pcb block.inf;
}

-- ---- events

-- What an event makes an end do: a call, or a block that it takes.
pub data Made : Type 0 where
  none : Made
  by_terminal : (input : TerminalInput) (step : TerminalStep) → Made
  by_card : (input : CardInput) (step : CardStep) → Made

abbrev pub at_terminal : Tables → Link → TerminalInput → Made
at_terminal by l input = by_terminal input (by.terminal l.terminal input)

abbrev pub at_card : Tables → Link → CardInput → Made
at_card by l input = by_card input (by.card l.card input)

abbrev pub arrival : Tables → Link → UnderWay → Came → Made
arrival by l nothing came = none
arrival by l (to_card block) came = at_card by l (card_takes came)
arrival by l (to_terminal block) came = at_terminal by l (takes came)

abbrev pub delivery : Tables → Link → UnderWay → Made
delivery by l nothing = none
delivery by l (to_card block) = at_card by l (card_takes (got block.pcb block.inf))
delivery by l (to_terminal block) = at_terminal by l (takes (got block.pcb block.inf))

abbrev pub loss : Tables → Link → UnderWay → Made
loss by l nothing = none
loss by l (to_card block) = at_terminal by l (takes quiet)
loss by l (to_terminal block) = at_terminal by l (takes quiet)

abbrev pub made : Tables → Link → Event → Made
made by l delivers = delivery by l l.under_way
made by l damages = arrival by l l.under_way damaged
made by l spoils = arrival by l l.under_way invalid
made by l loses = loss by l l.under_way
made by l (transmits m) = at_terminal by l (transmit m)
made by l (asks_ifsd n) = at_terminal by l (ask_ifs n)
made by l (host_replies octets) = at_card by l (replies octets)
made by l (host_asks_time n) = at_card by l (more_time n)
made by l (host_asks_ifsc n) = at_card by l (card_ask_ifs n)

-- ---- a judge that knows what each end heard

abbrev pub terminal_says : Watch → TerminalTurn → Watch
terminal_says w (Send block) = record w {
  terminal = after_sending Broken w.terminal block;
  verdicts = (judged_of w.terminal block).verdict ∷ w.verdicts;
}
terminal_says w Answered = w
terminal_says w IfsSet = w
terminal_says w GivenUp = w
terminal_says w Dead = w

abbrev pub card_says : Watch → CardTurn → Watch
card_says w (Sends block) = record w {
  card = after_sending Nothing w.card block;
  verdicts = (judged_of w.card block).verdict ∷ w.verdicts;
}
card_says w Asked = w

abbrev pub terminal_hears : Watched → TerminalInput → Watched
terminal_hears w (transmit command) = w
terminal_hears w (ask_ifs size) = w
terminal_hears w (takes came) = hearing w (heard_of came)

abbrev pub card_hears : Watched → CardInput → Watched
card_hears w (replies octets) = w
card_hears w (more_time multiple) = w
card_hears w (card_ask_ifs size) = w
card_hears w (card_takes came) = hearing w (heard_of came)

-- A refused call changes nothing.
abbrev pub watches : Watch → Made → Watch
watches w none = w
watches w (by_terminal input (Ok step)) = terminal_says (record w { terminal = terminal_hears w.terminal input }) step.0
watches w (by_terminal input (Err fault)) = w
watches w (by_card input (Ok step)) = card_says (record w { card = card_hears w.card input }) step.0
watches w (by_card input (Err fault)) = w

-- one event after another
abbrev pub watch_all : Tables → List Event → Link → Watch → Watch
watch_all by [] l w = w
watch_all by (e ∷ es) l w = watch_all by es (happens by l e) (watches w (made by l e))

abbrev pub AllPermitted : List Verdict → Type 0
AllPermitted [] = Unit {0}
AllPermitted (Permitted ∷ verdicts) = AllPermitted verdicts
AllPermitted (Unseen ∷ verdicts) = ⊥
AllPermitted (Deviates broken owed ∷ verdicts) = ⊥

-- Whatever the limits of both ends, and whatever is lost or damaged, the standard permits each block of both ends.
abbrev pub EndsArePermitted : Tables → Type 0
EndsArePermitted by = (terminal_limits card_limits : Limits) (ifsc : ℕ) (events : List Event)
    → AllPermitted (watch_all by events (link_with terminal_limits card_limits ifsc) (new_watch ifsc)).verdicts

-- ---- a judge that only sees the blocks

-- an end after this block was sent to it and perhaps came
abbrev pub may_hear : Watched → Parts → Watched
may_hear w block = hearing w (Perhaps block.pcb (carried block.inf))

abbrev pub terminal_sends : Watch → TerminalTurn → Watch
terminal_sends w (Send block) = record w {
  terminal = after_sending Broken w.terminal block;
  card = may_hear w.card block;
  verdicts = (judged_of w.terminal block).verdict ∷ w.verdicts;
}
terminal_sends w Answered = w
terminal_sends w IfsSet = w
terminal_sends w GivenUp = w
terminal_sends w Dead = w

abbrev pub card_sends : Watch → CardTurn → Watch
card_sends w (Sends block) = record w {
  terminal = may_hear w.terminal block;
  card = after_sending Nothing w.card block;
  verdicts = (judged_of w.card block).verdict ∷ w.verdicts;
}
card_sends w Asked = w

abbrev pub taps : Watch → Made → Watch
taps w none = w
taps w (by_terminal input (Ok step)) = terminal_sends w step.0
taps w (by_terminal input (Err fault)) = w
taps w (by_card input (Ok step)) = card_sends w step.0
taps w (by_card input (Err fault)) = w

abbrev pub tap_all : Tables → List Event → Link → Watch → Watch
tap_all by [] l w = w
tap_all by (e ∷ es) l w = tap_all by es (happens by l e) (taps w (made by l e))

abbrev pub NoneDeviates : List Verdict → Type 0
NoneDeviates [] = Unit {0}
NoneDeviates (Permitted ∷ verdicts) = NoneDeviates verdicts
NoneDeviates (Unseen ∷ verdicts) = NoneDeviates verdicts
NoneDeviates (Deviates broken owed ∷ verdicts) = ⊥

-- Whatever the limits of both ends, and whatever is lost or damaged on the way to its receiver, the judge accuses
-- nobody.
abbrev pub NobodyIsAccused : Tables → Type 0
NobodyIsAccused by = (terminal_limits card_limits : Limits) (ifsc : ℕ) (events : List Event)
    → NoneDeviates (tap_all by events (link_with terminal_limits card_limits ifsc) (new_watch ifsc)).verdicts
