-- What an event comes to at a recorder: it is refused, or a line is written and an end comes to a turn.
use Rattle.std.proofs.Common.{◌≡◌, ◌∙◌, ◌⊎◌, inl, inr, ap, sym, subst, refl, ℕ, List, [], ◌∷◌, ◌++◌, Ok, Err}
use Rattle.block_core.specs.Block.{Parts, spelling}
use Rattle.t1_core.specs.Came.{quiet, damaged, invalid}
use Rattle.t1_core.specs.Terminal.{TerminalState, TerminalStep, Mark, transmit, ask_ifs, takes, terminal_turn}
use Rattle.t1_core.specs.Card.{CardState, CardStep, replies, more_time, ask_ifs as ask_ifsc, card_turn}
use Rattle.t1_core.specs.Link.{Link, UnderWay, nothing, Event, delivers, damages, spoils, loses, transmits, asks_ifsd, host_replies, host_asks_time, host_asks_ifsc}
use Rattle.t1_core.specs.Promises.{HandsOctets}
use Rattle.t1_core.specs.declared.turns.TerminalTurn.{TerminalTurn}
use Rattle.t1_core.specs.declared.turns.TerminalTurn.TheVariants.{Send, Answered, IfsSet, GivenUp as GaveUp, Dead as Died}
use Rattle.t1_core.specs.declared.turns.CardTurn.{CardTurn}
use Rattle.t1_core.specs.declared.turns.CardTurn.TheVariants.{Send as Sends, Asked as AskedHost}
use Rattle.t1_core.proofs.Proper.{always_taken}
use Rattle.exchange_text.specs.declared.line.Arrival.{Arrival}
use Rattle.exchange_text.specs.declared.line.Arrival.TheVariants.{Whole, Lost, Changed}
use Rattle.exchange_text.specs.declared.line.Line.{Line}
use Rattle.exchange_text.specs.declared.line.Line.TheVariants.{Command, Ifsd, Quiet, Reply, Time, Ifsc, FromTerminal, FromCard}
use Rattle.exchange_core.specs.Recording.{Recording, link_of, IsRecording, IsSent, MayReply, recorded, arrival_of, arrival_outcome, loss_outcome, card_input, change_event, card_outcome, damaged_octets, spoilt_octets, outcome_of, telling, terminal_input, terminal_outcome, under_way_of, whole}
use Rattle.exchange_core.specs.declared.carrying.Change.{Change}
use Rattle.exchange_core.specs.declared.carrying.Change.TheVariants.{Kept, Damaged, Spoilt}
use Rattle.exchange_core.specs.declared.event.EventFault.{EventFault}
use Rattle.exchange_core.specs.declared.event.EventFault.TheVariants.{NothingUnderWay, Terminal as AtTerminal, Card as AtCard}
use Rattle.exchange_core.specs.declared.event.LastTurn.{LastTurn}
use Rattle.exchange_core.specs.declared.event.LastTurn.TheVariants.{Nothing, Terminal, Card}
use Rattle.exchange_core.proofs.Acting.{call-refused, called-acts, replied-acts, reply-refused, to-card-acts, to-card-refused, to-terminal-acts, to-terminal-refused}
use Rattle.exchange_core.proofs.Recorded.{Acts, further, has-recorded, keeps, refused}

-- what may arrive of a block
abbrev pub Becomes : Parts → Arrival → Type 0
Becomes block Whole = Unit {0}
Becomes block Lost = ⊥
Becomes block (Changed octets) = (octets ≡ damaged_octets block) ⊎ (octets ≡ spoilt_octets block)

becomes : (change : Change) (block : Parts) → Becomes block (arrival_of change block)
becomes Kept block = tt
becomes Damaged block = inl refl
becomes Spoilt block = inr refl

-- a call of the terminal's application
abbrev pub IsAsked : Line → Type 0
IsAsked (Command octets) = Unit {0}
IsAsked (Ifsd size) = Unit {0}
IsAsked line = ⊥

-- The recorder takes the event: these lines are written, and what holds of it holds with the turn that it comes to.
pub record Goes (r : Recording) (event : Event) (more : List Line) (last : LastTurn) (t : TerminalState)
    (c : CardState) : Type 0 where
  pub taken : recorded r event ≡ Ok (further r more last)
  pub holds : IsRecording (further r more last) t c

goes : {r : Recording} {t t' : TerminalState} {c c' : CardState} {more : List Line} {event : Event} {last : LastTurn}
    → IsRecording r t c → Acts r t c more event last t' c' → Goes r event more last t' c'
goes h a = record { taken = has-recorded a; holds = keeps h a }

pub data Stepped (r : Recording) (t : TerminalState) (c : CardState) (event : Event) : Type 0 where
  refuses : (fault : EventFault) → recorded r event ≡ Err fault → Stepped r t c event
  -- the block under way arrives at the card
  reaches_card : (block : Parts) (arrival : Arrival) (turn : CardTurn) (next : CardState)
      → r.last ≡ Terminal (Send block) → Becomes block arrival
      → card_turn c (card_input c (FromTerminal (spelling block) arrival)) ≡ Ok (turn, next)
      → Goes r event (FromTerminal (spelling block) arrival ∷ []) (Card turn) t next → Stepped r t c event
  -- or at the terminal
  reaches_terminal : (block : Parts) (arrival : Arrival) (turn : TerminalTurn) (next : TerminalState) (mark : Mark)
      → r.last ≡ Card (Sends block) → Becomes block arrival
      → terminal_turn t (terminal_input t (FromCard (spelling block) arrival)) ≡ Ok (turn, next, mark)
      → Goes r event (FromCard (spelling block) arrival ∷ []) (Terminal turn) next c → Stepped r t c event
  -- or it is lost
  is_lost : (turn : TerminalTurn) (next : TerminalState) (mark : Mark)
      → IsSent (under_way_of r.last) → terminal_turn t (takes quiet) ≡ Ok (turn, next, mark)
      → Goes r event (telling t c r.last ++ Quiet ∷ []) (Terminal turn) next c → Stepped r t c event
  -- the application calls the terminal
  asks : (line : Line) (turn : TerminalTurn) (next : TerminalState) (mark : Mark)
      → IsAsked line → terminal_turn t (terminal_input t line) ≡ Ok (turn, next, mark)
      → Goes r event (telling t c r.last ++ line ∷ []) (Terminal turn) next c → Stepped r t c event
  -- or the card's host the card
  replied : (line : Line) (turn : CardTurn) (next : CardState)
      → MayReply line → card_turn c (card_input c line) ≡ Ok (turn, next)
      → Goes r event (telling t c r.last ++ line ∷ []) (Card turn) t next → Stepped r t c event

none-carried : (l : Link) (change : Change) → l.under_way ≡ nothing
    → outcome_of l (change_event change) ≡ Err NothingUnderWay
none-carried l Kept e = ap (λ (w : UnderWay). arrival_outcome l w (whole w)) e
none-carried l Damaged e = ap (λ (w : UnderWay). arrival_outcome l w damaged) e
none-carried l Spoilt e = ap (λ (w : UnderWay). arrival_outcome l w invalid) e

module _ (r : Recording) (t : TerminalState) (c : CardState) (h : IsRecording r t c) where
  none-carries : (change : Change) → under_way_of r.last ≡ nothing → Stepped r t c (change_event change)
  none-carries change e = refuses NothingUnderWay
      (refused r (change_event change) NothingUnderWay (none-carried (link_of r) change (h.under_way ∙ e)))

  to-card : (change : Change) (block : Parts) (step : CardStep) → r.last ≡ Terminal (Send block)
      → card_turn c (card_input c (FromTerminal (spelling block) (arrival_of change block))) ≡ step
      → Stepped r t c (change_event change)
  to-card change block (Ok (turn, next)) e turns =
      reaches_card block (arrival_of change block) turn next e (becomes change block) turns
      (goes h (to-card-acts r t c block change turn next always_taken h e turns))
  to-card change block (Err fault) e turns = refuses (AtCard fault)
      (to-card-refused r t c block change (AtCard fault) always_taken h e (ap (λ (s : CardStep). card_outcome s) turns))

  to-terminal : (change : Change) (block : Parts) (step : TerminalStep) → r.last ≡ Card (Sends block)
      → terminal_turn t (terminal_input t (FromCard (spelling block) (arrival_of change block))) ≡ step
      → Stepped r t c (change_event change)
  to-terminal change block (Ok (turn, next, mark)) e turns =
      reaches_terminal block (arrival_of change block) turn next mark e (becomes change block) turns
      (goes h (to-terminal-acts r t c block change turn next always_taken h e (mark, turns)))
  to-terminal change block (Err fault) e turns = refuses (AtTerminal fault)
      (to-terminal-refused r t c block change (AtTerminal fault) always_taken h e
      (ap (λ (s : TerminalStep). terminal_outcome s) turns))

  carries : (change : Change) (last : LastTurn) → r.last ≡ last → Stepped r t c (change_event change)
  carries change (Terminal (Send block)) e = to-card change block _ e refl
  carries change (Card (Sends block)) e = to-terminal change block _ e refl
  carries change Nothing e = none-carries change (ap under_way_of e)
  carries change (Terminal Answered) e = none-carries change (ap under_way_of e)
  carries change (Terminal IfsSet) e = none-carries change (ap under_way_of e)
  carries change (Terminal GaveUp) e = none-carries change (ap under_way_of e)
  carries change (Terminal Died) e = none-carries change (ap under_way_of e)
  carries change (Card AskedHost) e = none-carries change (ap under_way_of e)

  none-lost : under_way_of r.last ≡ nothing → Stepped r t c loses
  none-lost e = refuses NothingUnderWay
      (refused r loses NothingUnderWay (ap (λ (w : UnderWay). loss_outcome (link_of r) w) (h.under_way ∙ e)))

  loss : (step : TerminalStep) → IsSent (under_way_of r.last) → terminal_turn t (takes quiet) ≡ step
      → Stepped r t c loses
  loss (Ok (turn, next, mark)) sent turns =
      is_lost turn next mark sent turns (goes h (called-acts r t c Quiet turn next h sent (mark, turns)))
  loss (Err fault) sent turns = refuses (AtTerminal fault)
      (call-refused r t c Quiet (AtTerminal fault) h sent (ap (λ (s : TerminalStep). terminal_outcome s) turns))

  loses-it : (last : LastTurn) → r.last ≡ last → Stepped r t c loses
  loses-it (Terminal (Send block)) e = loss _ (subst (λ (l : LastTurn). IsSent (under_way_of l)) (sym e) tt) refl
  loses-it (Card (Sends block)) e = loss _ (subst (λ (l : LastTurn). IsSent (under_way_of l)) (sym e) tt) refl
  loses-it Nothing e = none-lost (ap under_way_of e)
  loses-it (Terminal Answered) e = none-lost (ap under_way_of e)
  loses-it (Terminal IfsSet) e = none-lost (ap under_way_of e)
  loses-it (Terminal GaveUp) e = none-lost (ap under_way_of e)
  loses-it (Terminal Died) e = none-lost (ap under_way_of e)
  loses-it (Card AskedHost) e = none-lost (ap under_way_of e)

  transmitted : (m : List ℕ) (step : TerminalStep) → HandsOctets (transmits m) → terminal_turn t (transmit m) ≡ step
      → Stepped r t c (transmits m)
  transmitted m (Ok (turn, next, mark)) hands turns = asks (Command m) turn next mark tt turns
      (goes h (called-acts r t c (Command m) turn next h hands (mark, turns)))
  transmitted m (Err fault) hands turns = refuses (AtTerminal fault)
      (call-refused r t c (Command m) (AtTerminal fault) h hands (ap (λ (s : TerminalStep). terminal_outcome s) turns))

  asked : (n : ℕ) (step : TerminalStep) → HandsOctets (asks_ifsd n) → terminal_turn t (ask_ifs n) ≡ step
      → Stepped r t c (asks_ifsd n)
  asked n (Ok (turn, next, mark)) hands turns = asks (Ifsd n) turn next mark tt turns
      (goes h (called-acts r t c (Ifsd n) turn next h hands (mark, turns)))
  asked n (Err fault) hands turns = refuses (AtTerminal fault)
      (call-refused r t c (Ifsd n) (AtTerminal fault) h hands (ap (λ (s : TerminalStep). terminal_outcome s) turns))

  replies-it : (m : List ℕ) (step : CardStep) → HandsOctets (host_replies m) → card_turn c (replies m) ≡ step
      → Stepped r t c (host_replies m)
  replies-it m (Ok (turn, next)) hands turns =
      replied (Reply m) turn next hands turns (goes h (replied-acts r t c (Reply m) turn next h hands turns))
  replies-it m (Err fault) hands turns = refuses (AtCard fault)
      (reply-refused r t c (Reply m) (AtCard fault) h hands (ap (λ (s : CardStep). card_outcome s) turns))

  takes-time : (n : ℕ) (step : CardStep) → HandsOctets (host_asks_time n) → card_turn c (more_time n) ≡ step
      → Stepped r t c (host_asks_time n)
  takes-time n (Ok (turn, next)) hands turns =
      replied (Time n) turn next hands turns (goes h (replied-acts r t c (Time n) turn next h hands turns))
  takes-time n (Err fault) hands turns = refuses (AtCard fault)
      (reply-refused r t c (Time n) (AtCard fault) h hands (ap (λ (s : CardStep). card_outcome s) turns))

  asks-size : (n : ℕ) (step : CardStep) → HandsOctets (host_asks_ifsc n) → card_turn c (ask_ifsc n) ≡ step
      → Stepped r t c (host_asks_ifsc n)
  asks-size n (Ok (turn, next)) hands turns =
      replied (Ifsc n) turn next hands turns (goes h (replied-acts r t c (Ifsc n) turn next h hands turns))
  asks-size n (Err fault) hands turns = refuses (AtCard fault)
      (reply-refused r t c (Ifsc n) (AtCard fault) h hands (ap (λ (s : CardStep). card_outcome s) turns))

  -- what any event comes to
  pub stepped : (event : Event) → HandsOctets event → Stepped r t c event
  stepped delivers hands = carries Kept r.last refl
  stepped damages hands = carries Damaged r.last refl
  stepped spoils hands = carries Spoilt r.last refl
  stepped loses hands = loses-it r.last refl
  stepped (transmits m) hands = transmitted m _ hands refl
  stepped (asks_ifsd n) hands = asked n _ hands refl
  stepped (host_replies m) hands = replies-it m _ hands refl
  stepped (host_asks_time n) hands = takes-time n _ hands refl
  stepped (host_asks_ifsc n) hands = asks-size n _ hands refl
