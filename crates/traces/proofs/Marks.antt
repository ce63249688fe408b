-- What is added to the lines of a recording beside what was seen leaves no mark, whatever marks lines leave: blocks
-- that arrive, or moments.
use Rattle.std.proofs.Common.{◌≡◌, ◌∙◌, ap, sym, refl, ℕ, List, [], ◌∷◌, ◌++◌, Bool, true, false, not, if◌then◌else◌, Option, Some, None, Result, Ok, Err, append_assoc}
use Rattle.std.proofs.lemmas.List.{append-nil}
use Rattle.block_core.specs.Block.{Parts, spelling}
use Rattle.block_core.specs.declared.pcb.Pcb.{Pcb}
use Rattle.block_core.specs.declared.pcb.Pcb.TheVariants.{Info, Ready, Request, Response}
use Rattle.block_core.specs.declared.pcb.S.TheVariants.{Resynch, Ifs, Abort, Wtx}
use Rattle.t1_core.specs.Awaited.{terminal_awaits_block}
use Rattle.t1_core.specs.Terminal.{terminal_turn, turn_of, state_after}
use Rattle.t1_core.specs.Card.{card_turn, turn_of as card_turn_of, state_after as card_state_after}
use Rattle.t1_core.specs.declared.turns.TerminalTurn.{TerminalTurn}
use Rattle.t1_core.specs.declared.turns.TerminalTurn.TheVariants.{Send, Answered, IfsSet, GivenUp, Dead}
use Rattle.t1_core.specs.declared.turns.TerminalFault.{TerminalFault}
use Rattle.t1_core.specs.declared.turns.CardTurn.{CardTurn}
use Rattle.t1_core.specs.declared.turns.CardTurn.TheVariants.{Send as CardSend, Asked}
use Rattle.t1_core.specs.declared.turns.CardFault.{CardFault}
use Rattle.exchange_text.specs.declared.line.Arrival.TheVariants.{Whole, Lost, Changed}
use Rattle.exchange_text.specs.declared.line.Line.{Line}
use Rattle.exchange_text.specs.declared.line.Line.TheVariants as line
use Rattle.exchange_core.specs.Recording.{terminal_input, card_input}
use Rattle.block_core.specs.declared.side.Side.TheVariants as side
use Rattle.traces.specs.declared.said.Numbers.{Numbers}
use Rattle.traces.specs.declared.standing.Standing.{Standing}
use Rattle.traces.specs.declared.standing.Standing.TheVariants.{Left, Waits, Sends}
use Rattle.traces.specs.declared.trace.Item.{Item}
use Rattle.traces.specs.declared.trace.Item.TheVariants.{Block, Quiet, Moment}
use Rattle.traces.specs.Said.{application_by, application_line, application_says, first_block, host_by, host_line, host_says}
use Rattle.traces.specs.Following.{Following, after_begins, after_host, after_item, after_items, after_moves, after_quiet, begun, card_did, card_hears, card_settled, ended, from_card, from_terminal, goes_again, is_waiting, reaches_card, reaches_terminal, released, released_by, sent_as, settled_card, settled_terminal, standing_after, terminal_did, terminal_hears, terminal_settled, writes}

-- a line that no item of a trace is, or of a block that is lost
abbrev pub IsAdded : Line → Type 0
IsAdded (line.FromTerminal sent Lost) = Unit {0}
IsAdded (line.FromTerminal sent Whole) = ⊥
IsAdded (line.FromTerminal sent (Changed octets)) = ⊥
IsAdded (line.FromCard sent Lost) = Unit {0}
IsAdded (line.FromCard sent Whole) = ⊥
IsAdded (line.FromCard sent (Changed octets)) = ⊥
IsAdded (line.Moment moment) = ⊥
IsAdded (line.Note text) = ⊥
IsAdded line = Unit {0}

-- ---- the calls of the hosts

host-says : (n : Numbers) (items : List Item) (inf : List ℕ) (pcb : Pcb) → IsAdded (host_says n items inf pcb)
host-says n items inf (Info number more) = tt
host-says n items inf (Ready number fault) = tt
host-says n items inf (Request Resynch) = tt
host-says n items inf (Request Ifs) = tt
host-says n items inf (Request Abort) = tt
host-says n items inf (Request Wtx) = tt
host-says n items inf (Response kind) = tt

host-by : (n : Numbers) (items : List Item) (o : Option Parts) → IsAdded (host_by n items o)
host-by n items None = tt
host-by n items (Some block) = host-says n items block.inf block.pcb

application-says : (n : Numbers) (items : List Item) (inf : List ℕ) (pcb : Pcb)
    → IsAdded (application_says n items inf pcb)
application-says n items inf (Info number more) = tt
application-says n items inf (Ready number fault) = tt
application-says n items inf (Request Resynch) = tt
application-says n items inf (Request Ifs) = tt
application-says n items inf (Request Abort) = tt
application-says n items inf (Request Wtx) = tt
application-says n items inf (Response kind) = tt

application-by : (n : Numbers) (items : List Item) (o : Option Parts) → IsAdded (application_by n items o)
application-by n items None = tt
application-by n items (Some block) = application-says n items block.inf block.pcb

-- ---- marks

-- the marks of what was seen
abbrev pub owns : {X : Type 0} → (Item → List X) → List Item → List X
owns own [] = []
owns own (item ∷ items) = own item ++ owns own items

module _ {X : Type 0} (k : Line → List X) where
  -- the marks that lines leave
  abbrev pub marks : List Line → List X
  marks [] = []
  marks (line ∷ lines) = k line ++ marks lines

  pub marks-append : (a b : List Line) → marks (a ++ b) ≡ marks a ++ marks b
  marks-append [] b = refl
  marks-append (line ∷ a) b = ap (λ (m : List X). k line ++ m) (marks-append a b)
      ∙ sym (append_assoc (k line) (marks a) (marks b))

  -- with one line more
  pub marks-more : (a : List Line) (line : Line) → marks (a ++ line ∷ []) ≡ marks a ++ k line
  marks-more a line = marks-append a (line ∷ []) ∙ ap (λ (m : List X). marks a ++ m) (append-nil (k line))

  abbrev pub held_marks : Option ℕ → List X
  held_marks None = []
  held_marks (Some moment) = k (line.Moment moment)

  -- those of the lines, and of the moment that no line tells yet
  abbrev pub total : Following → List X
  total f = marks f.lines ++ held_marks f.held

  module _ (plain : (line : Line) → IsAdded line → k line ≡ []) where
    unmarked : (lines : List Line) (line : Line) → IsAdded line → marks (lines ++ line ∷ []) ≡ marks lines
    unmarked lines line h =
        marks-more lines line ∙ ap (λ (m : List X). marks lines ++ m) (plain line h) ∙ append-nil (marks lines)

    -- a line that is added leaves no mark
    adds-none : (held : Option ℕ) (lines : List Line) (line : Line) → IsAdded line
        → marks (lines ++ line ∷ []) ++ held_marks held ≡ marks lines ++ held_marks held
    adds-none held lines line h = ap (λ (m : List X). m ++ held_marks held) (unmarked lines line h)

    terminal-did : (f : Following) (called : Result TerminalTurn TerminalFault)
        → total (terminal_did f called) ≡ total f
    terminal-did f (Ok (Send block)) = refl
    terminal-did f (Ok Answered) = adds-none f.held f.lines _ tt
    terminal-did f (Ok IfsSet) = adds-none f.held f.lines line.IfsSet tt
    terminal-did f (Ok GivenUp) = adds-none f.held f.lines line.GivenUp tt
    terminal-did f (Ok Dead) = adds-none f.held f.lines line.Dead tt
    terminal-did f (Err fault) = refl

    card-did : (f : Following) (called : Result CardTurn CardFault) → total (card_did f called) ≡ total f
    card-did f (Ok (CardSend block)) = refl
    card-did f (Ok Asked) = adds-none f.held f.lines _ tt
    card-did f (Err fault) = refl

    -- an end that is called leaves the mark of the line
    pub terminal-hears : (f : Following) (line : Line)
        → total (terminal_hears f line) ≡ marks (f.lines ++ line ∷ []) ++ held_marks f.held
    unfolding terminal_hears
    terminal-hears f line =
        let step = terminal_turn f.terminal (terminal_input f.terminal line) in
        terminal-did (record f { terminal = state_after f.terminal step; lines = f.lines ++ line ∷ [] }) (turn_of step)

    pub card-hears : (f : Following) (line : Line)
        → total (card_hears f line) ≡ marks (f.lines ++ line ∷ []) ++ held_marks f.held
    unfolding card_hears
    card-hears f line =
        let step = card_turn f.card (card_input f.card line) in
        card-did (record f { card = card_state_after f.card step; lines = f.lines ++ line ∷ [] }) (card_turn_of step)

    terminal-hears-none : (f : Following) (line : Line) → IsAdded line → total (terminal_hears f line) ≡ total f
    terminal-hears-none f line h = terminal-hears f line ∙ adds-none f.held f.lines line h

    card-hears-none : (f : Following) (line : Line) → IsAdded line → total (card_hears f line) ≡ total f
    card-hears-none f line h = card-hears f line ∙ adds-none f.held f.lines line h

    settled-terminal : (f : Following) (standing : Standing) → total (terminal_settled f standing) ≡ total f
    settled-terminal f (Sends block) = adds-none f.held f.lines (line.FromTerminal (spelling block) Lost) tt
    settled-terminal f Left = refl
    settled-terminal f Waits = refl

    pub settles-terminal : (f : Following) → total (settled_terminal f) ≡ total f
    unfolding settled_terminal
    settles-terminal f = settled-terminal f f.terminal_is

    settled-card : (f : Following) (standing : Standing) → total (card_settled f standing) ≡ total f
    settled-card f (Sends block) = adds-none f.held f.lines (line.FromCard (spelling block) Lost) tt
    settled-card f Left = refl
    settled-card f Waits = refl

    pub settles-card : (f : Following) → total (settled_card f) ≡ total f
    unfolding settled_card
    settles-card f = settled-card f f.card_is

    either : (b : Bool) (f g h : Following) → total f ≡ total h → total g ≡ total h
        → total (if b then f else g) ≡ total h
    either true f g h p q = p
    either false f g h p q = q

    after-host : (f : Following) (items : List Item) → total (after_host f items) ≡ total f
    unfolding after_host
    after-host f items = either _ (card_hears f (host_line f.numbers items)) f f
        (card-hears-none f (host_line f.numbers items)
        (host-by f.numbers items (first_block side.Card f.numbers.terminal items))) refl

    after-begins : (f : Following) (items : List Item) → total (after_begins f items) ≡ total f
    unfolding after_begins
    after-begins f items =
        let call = application_line f.numbers items in
        let g : Following =
        if terminal_awaits_block f.terminal.waits then terminal_hears f line.Quiet else terminal_hears f call in
        either (not (is_waiting f.terminal_is)) f g f refl
        (either (terminal_awaits_block f.terminal.waits) (terminal_hears f line.Quiet) (terminal_hears f call) f
        (terminal-hears-none f line.Quiet tt)
        (terminal-hears-none f call
        (application-by f.numbers items (first_block side.Terminal f.numbers.card items))))

    goes-again : (f : Following) (has_waited : Bool) (octets : List ℕ)
        → total (goes_again f has_waited octets) ≡ total f
    goes-again f has_waited octets = either _ (terminal_hears (settled_terminal f) line.Quiet) f f
        (terminal-hears-none (settled_terminal f) line.Quiet tt ∙ settles-terminal f) refl

    after-moves : (f : Following) (octets : List ℕ) (items : List Item) → total (after_moves f octets items) ≡ total f
    unfolding after_moves
    after-moves f octets items = goes-again (after_begins f items) _ octets ∙ after-begins f items

    -- ---- what was seen

    released-marks : (f : Following) (held : Option ℕ) → f.held ≡ held
        → (marks (released_by f held).lines ≡ marks f.lines ++ held_marks held) × ((released_by f held).held ≡ None)
    released-marks f None e = (sym (append-nil (marks f.lines)), e)
    released-marks f (Some moment) e = (marks-more f.lines (line.Moment moment), refl)

    -- the moment that was kept has a line
    pub releases : (f : Following) → (marks (released f).lines ≡ total f) × ((released f).held ≡ None)
    unfolding released
    releases f = released-marks f f.held refl

    seen-by : (b : Bool) (f g h : Following) (line : Line) → total f ≡ marks (h.lines ++ line ∷ []) ++ held_marks h.held
        → total g ≡ marks (h.lines ++ line ∷ []) ++ held_marks h.held → h.held ≡ None
        → total (if b then f else g) ≡ marks h.lines ++ k line
    seen-by true f g h line p q none =
        p ∙ ap (λ (o : Option ℕ). marks (h.lines ++ line ∷ []) ++ held_marks o) none
        ∙ append-nil (marks (h.lines ++ line ∷ [])) ∙ marks-more h.lines line
    seen-by false f g h line p q none =
        q ∙ ap (λ (o : Option ℕ). marks (h.lines ++ line ∷ []) ++ held_marks o) none
        ∙ append-nil (marks (h.lines ++ line ∷ [])) ∙ marks-more h.lines line

    -- what goes to an end leaves its mark
    reaches-card : (f : Following) (line : Line) (lost : Bool) → f.held ≡ None
        → total (reaches_card f line lost) ≡ marks f.lines ++ k line
    unfolding reaches_card
    reaches-card f line lost none = seen-by _ (card_hears f line) (writes f line) f line (card-hears f line) refl none

    reaches-terminal : (f : Following) (line : Line) (lost : Bool) → f.held ≡ None
        → total (reaches_terminal f line lost) ≡ marks f.lines ++ k line
    unfolding reaches_terminal
    reaches-terminal f line lost none =
        seen-by _ (terminal_hears f line) (writes f line) f line (terminal-hears f line) refl none

    -- the marks of what was seen: those of its line, where it is a line of its own
    module _ (own : Item → List X)
        (quiet : own Quiet ≡ [])
        (moment : (m : ℕ) → own (Moment m) ≡ k (line.Moment m))
        (terminal : (s : Standing) (octets : List ℕ) (lost : Bool)
        → k (line.FromTerminal (sent_as s octets lost).0 (sent_as s octets lost).1)
        ≡ own (Block side.Terminal octets lost))
        (card : (s : Standing) (octets : List ℕ) (lost : Bool)
        → k (line.FromCard (sent_as s octets lost).0 (sent_as s octets lost).1)
        ≡ own (Block side.Card octets lost)) where
      from-terminal : (f : Following) (octets : List ℕ) (lost : Bool) (items : List Item)
          → total (from_terminal f octets lost items) ≡ total f ++ own (Block side.Terminal octets lost)
      unfolding from_terminal
      from-terminal f octets lost items =
          let a = after_host f items in
          let b = settled_card a in
          let c = after_moves b octets items in
          let d = released c in
          let r = releases c in
          let sent = sent_as d.terminal_is octets lost in
          reaches-card (record d { terminal_is = standing_after d.terminal_is octets })
          (line.FromTerminal sent.0 sent.1) lost r.1
          ∙ ap (λ (m : List X). marks d.lines ++ m) (terminal d.terminal_is octets lost)
          ∙ ap (λ (m : List X). m ++ own (Block side.Terminal octets lost))
          (r.0 ∙ after-moves b octets items ∙ settles-card a ∙ after-host f items)

      from-card : (f : Following) (octets : List ℕ) (lost : Bool) (items : List Item)
          → total (from_card f octets lost items) ≡ total f ++ own (Block side.Card octets lost)
      unfolding from_card
      from-card f octets lost items =
          let a = settled_terminal f in
          let c = after_host a items in
          let d = released c in
          let r = releases c in
          let sent = sent_as d.card_is octets lost in
          reaches-terminal (record d { card_is = standing_after d.card_is octets })
          (line.FromCard sent.0 sent.1) lost r.1
          ∙ ap (λ (m : List X). marks d.lines ++ m) (card d.card_is octets lost)
          ∙ ap (λ (m : List X). m ++ own (Block side.Card octets lost))
          (r.0 ∙ after-host a items ∙ settles-terminal f)

      after-quiet : (f : Following) (items : List Item) → total (after_quiet f items) ≡ total f ++ own Quiet
      unfolding after_quiet
      after-quiet f items =
          let a = after_host f items in
          let b = settled_card a in
          let c = settled_terminal b in
          let r = releases c in
          reaches-terminal (released c) line.Quiet false r.1
          ∙ ap (λ (m : List X). marks (released c).lines ++ m) (plain line.Quiet tt ∙ sym quiet)
          ∙ ap (λ (m : List X). m ++ own Quiet)
          (r.0 ∙ settles-terminal b ∙ settles-card a ∙ after-host f items)

      after-item : (f : Following) (items : List Item) (item : Item) → total (after_item f items item) ≡ total f
          ++ own item
      after-item f items (Block side.Terminal octets lost) = from-terminal f octets lost items
      after-item f items (Block side.Card octets lost) = from-card f octets lost items
      after-item f items Quiet = after-quiet f items
      after-item f items (Moment m) =
          ap (λ (l : List X). l ++ k (line.Moment m)) (releases f).0
          ∙ ap (λ (l : List X). total f ++ l) (sym (moment m))

      pub after-items : (f : Following) (items : List Item) → total (after_items f items) ≡ total f ++ owns own items
      after-items f [] = sym (append-nil (total f))
      after-items f (item ∷ items) =
          after-items (after_item f (item ∷ items) item) items
          ∙ ap (λ (l : List X). l ++ owns own items) (after-item f (item ∷ items) item)
          ∙ append_assoc (total f) (own item) (owns own items)

      -- the lines of a recording leave the marks of what was seen
      pub ended-marks : (ifsc : ℕ) (items : List Item)
          → marks (ended (after_items (begun ifsc) items)).lines ≡ owns own items
      ended-marks ifsc items =
          let f = after_items (begun ifsc) items in
          let g = settled_terminal f in
          (releases (settled_card g)).0 ∙ settles-card g ∙ settles-terminal f ∙ after-items (begun ifsc) items
