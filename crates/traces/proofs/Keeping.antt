-- Each end that is followed replays the lines so far, up to the block that it is about to send.
use Rattle.std.proofs.Common.{◌≡◌, ◌∙◌, ap, refl, subst, ℕ, List, [], ◌∷◌, ◌++◌, true, Option, Some, None, Result, Ok, Err, unwrap_or}
use Rattle.block_core.specs.Block.{Parts, spelling}
use Rattle.block_core.specs.declared.pcb.Pcb.{Pcb}
use Rattle.block_core.specs.declared.pcb.Pcb.TheVariants.{Info, Ready, Request, Response}
use Rattle.block_core.specs.declared.pcb.S.TheVariants.{Resynch, Ifs, Abort, Wtx}
use Rattle.t1_core.specs.Terminal.{TerminalState, TerminalStep, terminal_turn, turn_of, state_after}
use Rattle.t1_core.specs.CardViews.{owed}
use Rattle.t1_core.specs.Card.{CardState, CardStep, card_turn, turn_of as card_turn_of, state_after as card_state_after}
use Rattle.t1_core.specs.declared.turns.TerminalTurn.{TerminalTurn}
use Rattle.t1_core.specs.declared.turns.TerminalTurn.TheVariants.{Send, Answered, IfsSet, GivenUp, Dead}
use Rattle.t1_core.specs.declared.turns.TerminalFault.{TerminalFault}
use Rattle.t1_core.specs.declared.turns.CardTurn.{CardTurn}
use Rattle.t1_core.specs.declared.turns.CardTurn.TheVariants.{Send as CardSend, Asked}
use Rattle.t1_core.specs.declared.turns.CardFault.{CardFault}
use Rattle.exchange_text.specs.declared.line.Arrival.TheVariants.{Lost}
use Rattle.exchange_text.specs.declared.line.Line.{Line}
use Rattle.exchange_text.specs.declared.line.Line.TheVariants as line
use Rattle.exchange_core.specs.Recording.{onward, runs, telling, terminal_input, card_input}
use Rattle.exchange_core.specs.Replay.{Role, by_role, calls, card_end, card_gives, card_role, terminal_end, terminal_gives, terminal_role}
use Rattle.exchange_core.specs.declared.event.LastTurn.TheVariants.{Terminal, Card}
use Rattle.exchange_core.proofs.Folds.{runs-on, tells-card, tells-terminal}
use Rattle.traces.specs.declared.said.Numbers.{Numbers}
use Rattle.traces.specs.declared.standing.Standing.{Standing}
use Rattle.traces.specs.declared.standing.Standing.TheVariants.{Left, Waits, Sends}
use Rattle.traces.specs.declared.trace.Item.{Item}
use Rattle.traces.specs.Followed.{is_followed}
use Rattle.traces.specs.Said.{application_by, application_line, application_says, first_block, host_by, host_line, host_says}
use Rattle.block_core.specs.declared.side.Side.TheVariants as side
use Rattle.traces.specs.Following.{Following, card_did, card_hears, card_settled, released, released_by, settled_card, settled_terminal, terminal_did, terminal_hears, terminal_settled}

-- ---- turns that no line met

abbrev pub pend : Standing → Option TerminalTurn
pend (Sends block) = Some (Send block)
pend Left = None
pend Waits = None

abbrev pub card-pend : Standing → Option CardTurn
card-pend (Sends block) = Some (CardSend block)
card-pend Left = None
card-pend Waits = None

-- a line that is nothing to the terminal
abbrev pub PassesTerminal : Line → Type 0
PassesTerminal line = (t : TerminalState) (p : Option TerminalTurn) → runs terminal_end (line ∷ []) (t, p) ≡ Ok (t, p)

abbrev pub PassesCard : Line → Type 0
PassesCard line = (c : CardState) (p : Option CardTurn) → runs card_end (line ∷ []) (c, p) ≡ Ok (c, p)

-- a line that is a call of the terminal
abbrev pub CallsTerminal : TerminalState → Line → Type 0
CallsTerminal t line = terminal_role t line ≡ calls (terminal_gives (terminal_turn t (terminal_input t line)))

abbrev pub CallsCard : CardState → Line → Type 0
CallsCard c line = card_role c line ≡ calls (card_gives (card_turn c (card_input c line)))

reply-passes : (o : List ℕ) → PassesTerminal (line.Reply o)
reply-passes o t None = refl
reply-passes o t (Some turn) = refl

time-passes : (n : ℕ) → PassesTerminal (line.Time n)
time-passes n t None = refl
time-passes n t (Some turn) = refl

ifsc-passes : (n : ℕ) → PassesTerminal (line.Ifsc n)
ifsc-passes n t None = refl
ifsc-passes n t (Some turn) = refl

asked-passes : (o : List ℕ) → PassesTerminal (line.Asked o)
asked-passes o t None = refl
asked-passes o t (Some turn) = refl

moment-passes : (m : ℕ) → PassesTerminal (line.Moment m)
moment-passes m t None = refl
moment-passes m t (Some turn) = refl

pub lost-passes : (o : List ℕ) → PassesTerminal (line.FromCard o Lost)
lost-passes o t None = refl
lost-passes o t (Some turn) = refl

command-passes : (o : List ℕ) → PassesCard (line.Command o)
command-passes o c None = refl
command-passes o c (Some turn) = refl

ifsd-passes : (n : ℕ) → PassesCard (line.Ifsd n)
ifsd-passes n c None = refl
ifsd-passes n c (Some turn) = refl

pub quiet-passes : PassesCard line.Quiet
quiet-passes c None = refl
quiet-passes c (Some turn) = refl

answer-passes : (o : List ℕ) → PassesCard (line.Answer o)
answer-passes o c None = refl
answer-passes o c (Some turn) = refl

set-passes : PassesCard line.IfsSet
set-passes c None = refl
set-passes c (Some turn) = refl

given-up-passes : PassesCard line.GivenUp
given-up-passes c None = refl
given-up-passes c (Some turn) = refl

dead-passes : PassesCard line.Dead
dead-passes c None = refl
dead-passes c (Some turn) = refl

card-moment-passes : (m : ℕ) → PassesCard (line.Moment m)
card-moment-passes m c None = refl
card-moment-passes m c (Some turn) = refl

pub card-lost-passes : (o : List ℕ) → PassesCard (line.FromTerminal o Lost)
card-lost-passes o c None = refl
card-lost-passes o c (Some turn) = refl

-- ---- the calls of the hosts

host-says : (P : Line → Type 0) → ((o : List ℕ) → P (line.Reply o)) → ((n : ℕ) → P (line.Time n))
    → ((n : ℕ) → P (line.Ifsc n)) → (n : Numbers) (items : List Item) (inf : List ℕ) (pcb : Pcb)
    → P (host_says n items inf pcb)
host-says P r t i n items inf (Info number more) = r _
host-says P r t i n items inf (Ready number fault) = r _
host-says P r t i n items inf (Request Resynch) = r _
host-says P r t i n items inf (Request Ifs) = i _
host-says P r t i n items inf (Request Abort) = r _
host-says P r t i n items inf (Request Wtx) = t _
host-says P r t i n items inf (Response kind) = r _

host-by : (P : Line → Type 0) → ((o : List ℕ) → P (line.Reply o)) → ((n : ℕ) → P (line.Time n))
    → ((n : ℕ) → P (line.Ifsc n)) → (n : Numbers) (items : List Item) (o : Option Parts) → P (host_by n items o)
host-by P r t i n items None = r _
host-by P r t i n items (Some block) = host-says P r t i n items block.inf block.pcb

-- what holds of each call of the card's host holds of the next one
pub host-any : (P : Line → Type 0) → ((o : List ℕ) → P (line.Reply o)) → ((n : ℕ) → P (line.Time n))
    → ((n : ℕ) → P (line.Ifsc n)) → (n : Numbers) (items : List Item) → P (host_line n items)
host-any P r t i n items = host-by P r t i n items (first_block side.Card n.terminal items)

application-says : (P : Line → Type 0) → ((o : List ℕ) → P (line.Command o)) → ((n : ℕ) → P (line.Ifsd n))
    → (n : Numbers) (items : List Item) (inf : List ℕ) (pcb : Pcb) → P (application_says n items inf pcb)
application-says P r i n items inf (Info number more) = r _
application-says P r i n items inf (Ready number fault) = r _
application-says P r i n items inf (Request Resynch) = r _
application-says P r i n items inf (Request Ifs) = i _
application-says P r i n items inf (Request Abort) = r _
application-says P r i n items inf (Request Wtx) = r _
application-says P r i n items inf (Response kind) = r _

application-by : (P : Line → Type 0) → ((o : List ℕ) → P (line.Command o)) → ((n : ℕ) → P (line.Ifsd n))
    → (n : Numbers) (items : List Item) (o : Option Parts) → P (application_by n items o)
application-by P r i n items None = r _
application-by P r i n items (Some block) = application-says P r i n items block.inf block.pcb

-- what holds of each call of the application holds of the next one
pub application-any : (P : Line → Type 0) → ((o : List ℕ) → P (line.Command o)) → ((n : ℕ) → P (line.Ifsd n))
    → (n : Numbers) (items : List Item) → P (application_line n items)
application-any P r i n items = application-by P r i n items (first_block side.Terminal n.card items)

pub host-passes : (n : Numbers) (items : List Item) → PassesTerminal (host_line n items)
host-passes = host-any PassesTerminal reply-passes time-passes ifsc-passes

pub host-calls : (c : CardState) (n : Numbers) (items : List Item) → CallsCard c (host_line n items)
host-calls c = host-any (λ line. CallsCard c line) (λ o. refl) (λ n. refl) (λ n. refl)

pub application-passes : (n : Numbers) (items : List Item) → PassesCard (application_line n items)
application-passes = application-any PassesCard command-passes ifsd-passes

pub application-calls : (t : TerminalState) (n : Numbers) (items : List Item)
    → CallsTerminal t (application_line n items)
application-calls t = application-any (λ line. CallsTerminal t line) (λ o. refl) (λ n. refl)

-- a call without a turn before it
called : (t : TerminalState) (line : Line) (step : TerminalStep) (turn : TerminalTurn)
    → terminal_role t line ≡ calls (terminal_gives step) → turn_of step ≡ Ok turn
    → runs terminal_end (line ∷ []) (t, None) ≡ Ok (state_after t step, Some turn)
called t line (Ok step) turn role is =
    let same : step.0 ≡ turn = cc in
    ap (λ (r : Role TerminalState TerminalTurn).
    onward (λ x. runs terminal_end [] x) (by_role terminal_end t None line r)) role
    ∙ ap (λ (x : TerminalTurn). Ok (step.1, Some x)) same
called t line (Err fault) turn role is = cc

card-called : (c : CardState) (line : Line) (step : CardStep) (turn : CardTurn)
    → card_role c line ≡ calls (card_gives step) → card_turn_of step ≡ Ok turn
    → runs card_end (line ∷ []) (c, None) ≡ Ok (card_state_after c step, Some turn)
card-called c line (Ok step) turn role is =
    let same : step.0 ≡ turn = cc in
    ap (λ (r : Role CardState CardTurn). onward (λ x. runs card_end [] x) (by_role card_end c None line r)) role
    ∙ ap (λ (x : CardTurn). Ok (step.1, Some x)) same
card-called c line (Err fault) turn role is = cc

-- ---- both ends, from these states

module _ (start : TerminalState) (begin : CardState) where
  abbrev pub TerminalAt : Standing → TerminalState → List Line → Type 0
  TerminalAt s t lines = is_followed s ≡ true → runs terminal_end lines (start, None) ≡ Ok (t, pend s)

  abbrev pub CardAt : Standing → CardState → List Line → Type 0
  CardAt s c lines = is_followed s ≡ true → runs card_end lines (begin, None) ≡ Ok (c, card-pend s)

  abbrev pub GT : Following → Type 0
  GT f = TerminalAt f.terminal_is f.terminal f.lines

  abbrev pub GC : Following → Type 0
  GC f = CardAt f.card_is f.card f.lines

  pub more-T : (s : Standing) (t : TerminalState) (lines : List Line) (line : Line) → PassesTerminal line
      → TerminalAt s t lines → TerminalAt s t (lines ++ line ∷ [])
  more-T s t lines line pass h =
      λ e. runs-on terminal_end lines (line ∷ []) (start, None) (t, pend s) (h e) ∙ pass t (pend s)

  pub more-C : (s : Standing) (c : CardState) (lines : List Line) (line : Line) → PassesCard line
      → CardAt s c lines → CardAt s c (lines ++ line ∷ [])
  more-C s c lines line pass h =
      λ e. runs-on card_end lines (line ∷ []) (begin, None) (c, card-pend s) (h e) ∙ pass c (card-pend s)

  -- a turn, as its line tells it
  told-T : (g : Following) (turn : TerminalTurn) → runs terminal_end g.lines (start, None) ≡ Ok (g.terminal, Some turn)
      → runs terminal_end (g.lines ++ telling g.terminal g.card (Terminal turn)) (start, None) ≡ Ok (g.terminal, None)
  told-T g turn h =
      runs-on terminal_end g.lines (telling g.terminal g.card (Terminal turn)) (start, None) (g.terminal, Some turn) h
      ∙ tells-terminal g.terminal g.card (Terminal turn)

  did-T : (g : Following) (called : Result TerminalTurn TerminalFault)
      → ((turn : TerminalTurn) → called ≡ Ok turn
      → runs terminal_end g.lines (start, None) ≡ Ok (g.terminal, Some turn)) → GT (terminal_did g called)
  did-T g (Ok (Send block)) h = λ e. h (Send block) refl
  did-T g (Ok Answered) h = λ e. told-T g Answered (h Answered refl)
  did-T g (Ok IfsSet) h = λ e. told-T g IfsSet (h IfsSet refl)
  did-T g (Ok GivenUp) h = λ e. told-T g GivenUp (h GivenUp refl)
  did-T g (Ok Dead) h = λ e. told-T g Dead (h Dead refl)
  did-T g (Err fault) h = λ e. cc

  did-C : (g : Following) (called : Result TerminalTurn TerminalFault) → GC g → GC (terminal_did g called)
  did-C g (Ok (Send block)) h = h
  did-C g (Ok Answered) h = more-C g.card_is g.card g.lines _ (answer-passes (unwrap_or g.terminal.answered [])) h
  did-C g (Ok IfsSet) h = more-C g.card_is g.card g.lines line.IfsSet set-passes h
  did-C g (Ok GivenUp) h = more-C g.card_is g.card g.lines line.GivenUp given-up-passes h
  did-C g (Ok Dead) h = more-C g.card_is g.card g.lines line.Dead dead-passes h
  did-C g (Err fault) h = h

  card-did-C : (g : Following) (called : Result CardTurn CardFault)
      → ((turn : CardTurn) → called ≡ Ok turn → runs card_end g.lines (begin, None) ≡ Ok (g.card, Some turn))
      → GC (card_did g called)
  card-did-C g (Ok (CardSend block)) h = λ e. h (CardSend block) refl
  card-did-C g (Ok Asked) h =
      λ e.
      runs-on card_end g.lines (telling g.terminal g.card (Card Asked)) (begin, None) (g.card, Some Asked)
      (h Asked refl)
      ∙ tells-card g.terminal g.card (Card Asked)
  card-did-C g (Err fault) h = λ e. cc

  card-did-T : (g : Following) (called : Result CardTurn CardFault) → GT g → GT (card_did g called)
  card-did-T g (Ok (CardSend block)) h = h
  card-did-T g (Ok Asked) h = more-T g.terminal_is g.terminal g.lines _
      (asked-passes (unwrap_or (owed g.card g.card.waits) [])) h
  card-did-T g (Err fault) h = h

  -- the terminal is called where no turn of it is untold
  pub hears-T : (f : Following) (line : Line) → CallsTerminal f.terminal line
      → runs terminal_end f.lines (start, None) ≡ Ok (f.terminal, None) → GT (terminal_hears f line)
  unfolding terminal_hears
  hears-T f line role h =
      let step = terminal_turn f.terminal (terminal_input f.terminal line) in
      did-T (record f { terminal = state_after f.terminal step; lines = f.lines ++ line ∷ [] }) (turn_of step)
      (λ turn is.
      runs-on terminal_end f.lines (line ∷ []) (start, None) (f.terminal, None) h
      ∙ called f.terminal line step turn role is)

  pub hears-C : (f : Following) (line : Line) → CardAt f.card_is f.card (f.lines ++ line ∷ [])
      → GC (terminal_hears f line)
  unfolding terminal_hears
  hears-C f line h =
      let step = terminal_turn f.terminal (terminal_input f.terminal line) in
      did-C (record f { terminal = state_after f.terminal step; lines = f.lines ++ line ∷ [] }) (turn_of step) h

  pub card-hears-C : (f : Following) (line : Line) → CallsCard f.card line
      → runs card_end f.lines (begin, None) ≡ Ok (f.card, None) → GC (card_hears f line)
  unfolding card_hears
  card-hears-C f line role h =
      let step = card_turn f.card (card_input f.card line) in
      card-did-C (record f { card = card_state_after f.card step; lines = f.lines ++ line ∷ [] }) (card_turn_of step)
      (λ turn is.
      runs-on card_end f.lines (line ∷ []) (begin, None) (f.card, None) h
      ∙ card-called f.card line step turn role is)

  pub card-hears-T : (f : Following) (line : Line) → TerminalAt f.terminal_is f.terminal (f.lines ++ line ∷ [])
      → GT (card_hears f line)
  unfolding card_hears
  card-hears-T f line h =
      let step = card_turn f.card (card_input f.card line) in
      card-did-T (record f { card = card_state_after f.card step; lines = f.lines ++ line ∷ [] }) (card_turn_of step) h

  -- ---- what is settled

  terminal-settles-T : (f : Following) (s : Standing) → f.terminal_is ≡ s → GT f → GT (terminal_settled f s)
  terminal-settles-T f (Sends block) is h =
      λ e.
      runs-on terminal_end f.lines (line.FromTerminal (spelling block) Lost ∷ []) (start, None)
      (f.terminal, Some (Send block))
      (subst (λ (s : Standing). TerminalAt s f.terminal f.lines) is h refl)
      ∙ tells-terminal f.terminal f.card (Terminal (Send block))
  terminal-settles-T f Left is h = h
  terminal-settles-T f Waits is h = h

  terminal-settles-C : (f : Following) (s : Standing) → GC f → GC (terminal_settled f s)
  terminal-settles-C f (Sends block) h =
      more-C f.card_is f.card f.lines (line.FromTerminal (spelling block) Lost) (card-lost-passes (spelling block)) h
  terminal-settles-C f Left h = h
  terminal-settles-C f Waits h = h

  card-settles-C : (f : Following) (s : Standing) → f.card_is ≡ s → GC f → GC (card_settled f s)
  card-settles-C f (Sends block) is h =
      λ e.
      runs-on card_end f.lines (line.FromCard (spelling block) Lost ∷ []) (begin, None)
      (f.card, Some (CardSend block))
      (subst (λ (s : Standing). CardAt s f.card f.lines) is h refl)
      ∙ tells-card f.terminal f.card (Card (CardSend block))
  card-settles-C f Left is h = h
  card-settles-C f Waits is h = h

  card-settles-T : (f : Following) (s : Standing) → GT f → GT (card_settled f s)
  card-settles-T f (Sends block) h =
      more-T f.terminal_is f.terminal f.lines (line.FromCard (spelling block) Lost) (lost-passes (spelling block)) h
  card-settles-T f Left h = h
  card-settles-T f Waits h = h

  pub record Good (f : Following) : Type 0 where
    pub terminal : GT f
    pub card : GC f

  pub good-settles-terminal : (f : Following) → Good f → Good (settled_terminal f)
  unfolding settled_terminal
  good-settles-terminal f h = record {
    terminal = terminal-settles-T f f.terminal_is refl h.terminal;
    card = terminal-settles-C f f.terminal_is h.card;
  }

  pub good-settles-card : (f : Following) → Good f → Good (settled_card f)
  unfolding settled_card
  good-settles-card f h = record {
    terminal = card-settles-T f f.card_is h.terminal;
    card = card-settles-C f f.card_is refl h.card;
  }

  good-released-by : (f : Following) (held : Option ℕ) → Good f → Good (released_by f held)
  good-released-by f None h = h
  good-released-by f (Some m) h = record {
    terminal = more-T f.terminal_is f.terminal f.lines (line.Moment m) (moment-passes m) h.terminal;
    card = more-C f.card_is f.card f.lines (line.Moment m) (card-moment-passes m) h.card;
  }

  pub good-releases : (f : Following) → Good f → Good (released f)
  unfolding released
  good-releases f h = good-released-by f f.held h
