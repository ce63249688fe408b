-- What the lines of an exchange say about its two ends: the commands that the terminal accepted and how each ended, and
-- the commands that the card's host was asked about, with its replies.
use Rattle.std.specs.Prelude.{◌≡◌, ℕ, List, [], ◌∷◌, Bool, true, false}
use Rattle.t1_core.specs.Terminal.{Waits, idle, ack, answer, more, ifs, resynch, dead}
use Rattle.t1_core.specs.Card.{Waits as CardWaits, asking}
use Rattle.t1_core.specs.Link.{Link, Exchange, unanswered, with_reply, without_answer}
use Rattle.t1_core.specs.Promises.{Matches}
use Rattle.exchange_text.specs.declared.line.Line.{Line}
use Rattle.exchange_text.specs.declared.line.Line.TheVariants.{Command, Answer, GivenUp, Dead, Reply, Time, Ifsc, Asked}

pub record Told : Type 0 where
  -- each command line, with its answer line if it has one, or given up; the newest first
  pub exchanges : List Exchange
  -- each command that the host was asked about, with its reply line if it has one; the newest first
  pub services : List Exchange
  -- the host asked for time or for a size: the next asked line is about the same command, unless a command comes first
  pub again : Bool

abbrev pub nothing_told : Told
nothing_told = record { exchanges = []; services = []; again = false }

-- the services after the host is asked about a command, again or for the first time
abbrev pub asked_about : Bool → List ℕ → List Exchange → List Exchange
asked_about true octets services = services
asked_about false octets services = unanswered octets ∷ services

-- what the lines say with one more line
abbrev pub told_by : Told → Line → Told
told_by h (Command octets) = record {
  exchanges = unanswered octets ∷ h.exchanges;
  services = h.services;
  again = false;
}
told_by h (Answer octets) = record h { exchanges = with_reply h.exchanges octets }
told_by h GivenUp = record h { exchanges = without_answer h.exchanges }
told_by h Dead = record h { exchanges = without_answer h.exchanges }
told_by h (Asked octets) = record {
  exchanges = h.exchanges;
  services = asked_about h.again octets h.services;
  again = false;
}
told_by h (Reply octets) = record h { services = with_reply h.services octets }
told_by h (Time multiple) = record h { again = true }
told_by h (Ifsc size) = record h { again = true }
told_by h line = h

abbrev pub told_after : Told → List Line → Told
told_after h [] = h
told_after h (line ∷ lines) = told_after (told_by h line) lines

abbrev pub told : List Line → Told
told lines = told_after nothing_told lines

-- The lines say at each end what happened there at the link.
pub record Tells (lines : List Line) (l : Link) : Type 0 where
  pub exchanges : (told lines).exchanges ≡ l.exchanges
  pub services : (told lines).services ≡ l.services

-- Each answer line has the octets of the reply line to the same command, in order. The host was asked about each
-- command line once; if no answer came, once or not at all.
abbrev pub AnswersAreReplies : List Line → Type 0
AnswersAreReplies lines = Matches (told lines).exchanges (told lines).services

-- ---- what holds at every moment

-- the card waits for the response to a request of its host
abbrev pub IfAsking : CardWaits → Type 0 → Type 0
IfAsking (asking request) P = P
IfAsking waits P = Unit {0}

-- no command is in progress, or its exchange is about to be given up
abbrev pub Pauses : Waits → Type 0
Pauses idle = Unit {0}
Pauses (ack field rest) = ⊥
Pauses (answer field) = ⊥
Pauses (more joined) = ⊥
Pauses (ifs size) = Unit {0}
Pauses (resynch asked) = Unit {0}
Pauses dead = Unit {0}

-- unless the card waits for such a response, no asked line comes before the next command
abbrev pub MayAsk : CardWaits → Waits → Type 0
MayAsk (asking request) waits = Unit {0}
MayAsk card_waits waits = Pauses waits

abbrev pub IfAgain : Bool → Type 0 → Type 0
IfAgain true P = P
IfAgain false P = Unit {0}

-- What the lines say is what happened. They have a request of the host for as long as the card waits for the response.
pub record Covers (h : Told) (l : Link) : Type 0 where
  pub exchanges : h.exchanges ≡ l.exchanges
  pub services : h.services ≡ l.services
  pub asking : IfAsking l.card.waits (h.again ≡ true)
  pub again : IfAgain h.again (MayAsk l.card.waits l.terminal.waits)
