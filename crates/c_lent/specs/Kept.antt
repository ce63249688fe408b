-- The states of both ends as C keeps them.
use Rattle.std.specs.Prelude.{◌≡◌, ℕ, ◌==◌, if◌then◌else◌, List, length, Bool, true, false, Option, Some, None}
use Rattle.block_core.specs.declared.pcb.Number.{Number}
use Rattle.t1_core.specs.declared.turns.Cut.{Cut}
use Rattle.t1_core.specs.declared.turns.TerminalWait.{TerminalWait}
use Rattle.t1_core.specs.declared.turns.TerminalWait.TheVariants as terminal_wait
use Rattle.t1_core.specs.declared.turns.CardAsked.TheVariants.{Size, Time}
use Rattle.t1_core.specs.declared.turns.CardWait.{CardWait}
use Rattle.t1_core.specs.declared.turns.CardWait.TheVariants as card_wait
use Rattle.t1_core.specs.declared.lent.LentTerminal.{LentTerminal}
use Rattle.t1_core.specs.declared.lent.LentCard.{LentCard}
use Rattle.t1_core.specs.Terminal.{TerminalState}
use Rattle.t1_core.specs.Card.{CardState}
use Rattle.t1_core.specs.Views.{terminal_held, IsLentTerminal}
use Rattle.t1_core.specs.CardViews.{card_held, IsLentCard}
use Rattle.c_lent.specs.Number.{number_of}
use Rattle.c_lent.specs.declared.kept.CTerminal.{CTerminal}
use Rattle.c_lent.specs.declared.kept.CCard.{CCard}

-- a mark, which is 0 or 1
abbrev pub mark_of : ℕ → Option Bool
mark_of n = if n == 0 then Some false else (if n == 1 then Some true else None)

abbrev pub cut_at : ℕ → ℕ → Cut
cut_at place size = record { place = place; size = size }

-- what a terminal waits for, by its number, a size or a count, and a place
abbrev pub terminal_wait_of : ℕ → ℕ → ℕ → Option TerminalWait
terminal_wait_of kind size place =
    if kind == 0 then Some terminal_wait.Idle
    else (if kind == 1 then Some (terminal_wait.Ack (cut_at place size))
    else (if kind == 2 then Some (terminal_wait.Answer (cut_at place size))
    else (if kind == 3 then Some terminal_wait.More
    else (if kind == 4 then Some (terminal_wait.Ifs size)
    else (if kind == 5 then Some (terminal_wait.Resynch size)
    else (if kind == 6 then Some terminal_wait.Dead else None))))))

-- the number of what a terminal waits for, with a size or a count, and a place: 0 if unused
abbrev pub terminal_wait_shown : TerminalWait → ℕ × ℕ × ℕ
terminal_wait_shown terminal_wait.Idle = (0, 0, 0)
terminal_wait_shown (terminal_wait.Ack cut) = (1, cut.size, cut.place)
terminal_wait_shown (terminal_wait.Answer cut) = (2, cut.size, cut.place)
terminal_wait_shown terminal_wait.More = (3, 0, 0)
terminal_wait_shown (terminal_wait.Ifs size) = (4, size, 0)
terminal_wait_shown (terminal_wait.Resynch asked) = (5, asked, 0)
terminal_wait_shown terminal_wait.Dead = (6, 0, 0)

abbrev pub terminal_from : CTerminal → Option Number → Option Number → Option TerminalWait → Option Bool
    → Option LentTerminal
terminal_from c (Some number) (Some expected) (Some wait) (Some is_answered) = Some (record {
  number = number;
  expected = expected;
  failures = c.failures;
  ifsc = c.ifsc;
  ifsd = c.ifsd;
  first_ifsc = c.first_ifsc;
  wait = wait;
  is_answered = is_answered;
  most_command = c.most_command;
  most_answer = c.most_answer;
  command_len = c.command_len;
  answer_len = c.answer_len;
})
terminal_from c number expected wait is_answered = None

-- the terminal that a state spells, if any
abbrev pub terminal_of : CTerminal → Option LentTerminal
terminal_of c = terminal_from c (number_of c.number) (number_of c.expected) (terminal_wait_of c.wait c.size c.place)
    (mark_of c.is_answered)

-- what a card waits for, by its number, a size or a multiple, and a place
abbrev pub card_wait_of : ℕ → ℕ → ℕ → Option CardWait
card_wait_of kind size place =
    if kind == 0 then Some card_wait.Command
    else (if kind == 1 then Some card_wait.Joining
    else (if kind == 2 then Some card_wait.Host
    else (if kind == 3 then Some (card_wait.Reply (cut_at place size))
    else (if kind == 4 then Some (card_wait.Asking (Size size))
    else (if kind == 5 then Some (card_wait.Asking (Time size)) else None)))))

abbrev pub card_wait_shown : CardWait → ℕ × ℕ × ℕ
card_wait_shown card_wait.Command = (0, 0, 0)
card_wait_shown card_wait.Joining = (1, 0, 0)
card_wait_shown card_wait.Host = (2, 0, 0)
card_wait_shown (card_wait.Reply cut) = (3, cut.size, cut.place)
card_wait_shown (card_wait.Asking (Size size)) = (4, size, 0)
card_wait_shown (card_wait.Asking (Time multiple)) = (5, multiple, 0)

-- the saved block, if there is one
abbrev pub saved_from : Bool → Cut → Option Cut
saved_from false cut = None
saved_from true cut = Some cut

-- whether a block is saved, and its place and size, both 0 if none is
abbrev pub saved_shown : Option Cut → Bool × ℕ × ℕ
saved_shown None = (false, 0, 0)
saved_shown (Some cut) = (true, cut.place, cut.size)

abbrev pub card_from : CCard → Option Number → Option Number → Option CardWait → Option Bool → Option LentCard
card_from c (Some number) (Some expected) (Some wait) (Some has_saved) = Some (record {
  number = number;
  expected = expected;
  saved = saved_from has_saved (cut_at c.saved_place c.saved_size);
  ifsc = c.ifsc;
  ifsd = c.ifsd;
  first_ifsc = c.first_ifsc;
  wait = wait;
  most_command = c.most_command;
  most_reply = c.most_reply;
  command_len = c.command_len;
  reply_len = c.reply_len;
})
card_from c number expected wait has_saved = None

-- the card that a state spells, if any
abbrev pub card_of : CCard → Option LentCard
card_of c = card_from c (number_of c.number) (number_of c.expected) (card_wait_of c.wait c.size c.place)
    (mark_of c.has_saved)

-- A state and both buffers are this terminal. If they aren't a terminal, this holds for no terminal.
pub record IsTerminal (c : CTerminal) (command answer : List ℕ) (t : TerminalState) : Type 0 where
  pub end : LentTerminal
  pub spelled : terminal_of c ≡ Some end
  pub fit : IsLentTerminal end (length command) (length answer)
  pub held : t ≡ terminal_held end command answer

-- A state and both buffers are this card.
pub record IsCard (c : CCard) (command reply : List ℕ) (t : CardState) : Type 0 where
  pub end : LentCard
  pub spelled : card_of c ≡ Some end
  pub fit : IsLentCard end (length command) (length reply)
  pub held : t ≡ card_held end command reply
