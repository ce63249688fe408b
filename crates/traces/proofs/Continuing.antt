-- Where a follower makes the final lines after an event of a recorder, it makes them before it.
use Rattle.std.proofs.Common.{◌≡◌, ◌∙◌, ap, sym, subst, refl, ℕ, List, [], ◌∷◌, ◌++◌, Bool, true, false, Ok, append_assoc}
use Rattle.std.proofs.lemmas.List.{append-nil}
use Rattle.block_core.specs.Block.{Parts, spelling}
use Rattle.t1_core.specs.Awaited.{card_awaits_block}
use Rattle.t1_core.specs.Came.{quiet}
use Rattle.t1_core.specs.Terminal.{TerminalState, Mark, takes, terminal_turn}
use Rattle.t1_core.specs.Card.{CardState, card_turn}
use Rattle.t1_core.specs.Link.{nothing}
use Rattle.t1_core.specs.declared.turns.TerminalTurn.{TerminalTurn}
use Rattle.t1_core.specs.declared.turns.TerminalTurn.TheVariants.{Send, Answered, IfsSet, GivenUp, Dead}
use Rattle.t1_core.specs.declared.turns.CardTurn.{CardTurn}
use Rattle.t1_core.specs.declared.turns.CardTurn.TheVariants.{Send as CardSend, Asked}
use Rattle.exchange_text.specs.Exchange.{arrived}
use Rattle.exchange_text.specs.declared.line.Arrival.{Arrival}
use Rattle.exchange_text.specs.declared.line.Arrival.TheVariants.{Whole, Lost, Changed}
use Rattle.exchange_text.specs.declared.line.Line.{Line}
use Rattle.exchange_text.specs.declared.line.Line.TheVariants as line
use Rattle.exchange_core.specs.Recording.{card_input, telling, terminal_input, under_way_of}
use Rattle.exchange_core.specs.declared.event.LastTurn.{LastTurn}
use Rattle.exchange_core.specs.declared.event.LastTurn.TheVariants.{Nothing, Terminal, Card}
use Rattle.block_core.specs.declared.side.Side.{Side}
use Rattle.block_core.specs.declared.side.Side.TheVariants as side
use Rattle.exchange_core.proofs.Stepping.{Becomes}
use Rattle.traces.specs.declared.said.Numbers.{Numbers}
use Rattle.traces.specs.declared.standing.Standing.TheVariants.{Waits, Sends}
use Rattle.traces.specs.declared.trace.Item.{Item}
use Rattle.traces.specs.declared.trace.Item.TheVariants.{Block, Quiet}
use Rattle.traces.specs.Said.{numbers_after}
use Rattle.traces.specs.Following.{Following, after_items, ended, from_card, from_terminal, meets, numbered}
use Rattle.traces.specs.Again.{AreSeenWhole, AreTold, block_items, items_of, line_items, numbers_over}
use Rattle.traces.proofs.Awaiting.{Awaits}
use Rattle.traces.proofs.Changing.{arrival-arrived, meets-arrived}
use Rattle.traces.proofs.Unnoting.{before-C, before-Q, before-T, ends-unnoted, notes_of, unnoted-step}
use Rattle.traces.proofs.Stepping.{terminal-hears, card-hears, direct-T, direct-C, sends-T, sends-C, card-reached, card-missed, terminal-reached, terminal-missed, quiet-after, ends, at, shown, follows}

-- ---- what is still to come

-- the first item is what came of this block
pub record Seen (from : Side) (block : Parts) (items : List Item) : Type 0 where
  pub octets : List ℕ
  pub lost : Bool
  pub rest : List Item
  pub is : items ≡ Block from octets lost ∷ rest
  pub fits : meets block octets ≡ true

abbrev pub Begins : LastTurn → List Item → Type 0
Begins (Terminal (Send block)) items = Seen side.Terminal block items
Begins (Card (CardSend block)) items = Seen side.Card block items
Begins last items = Unit {0}

-- The final lines go on from these, which tell all but a block under way, and a follower that has come so far makes them.
pub record Continues (final : List Line) (t : TerminalState) (c : CardState) (last : LastTurn) (lines : List Line)
    : Type 0 where
  pub more : List Line
  pub is : final ≡ lines ++ more
  pub begins : Begins last (items_of more)
  pub made : (n : Numbers) → AreTold n more
      → (ended (after_items (follows t c last n lines) (items_of more))).lines ≡ lines ++ more
  -- and no note comes before one of them
  pub unnoted : (n : Numbers) → AreTold n more → AreSeenWhole n more
      → notes_of (follows t c last n lines) (items_of more) [] ≡ []

pub shown-items : (t : TerminalState) (c : CardState) (last : LastTurn) (more : List Line)
    → items_of (shown t c last ++ more) ≡ items_of more
shown-items t c Nothing more = refl
shown-items t c (Terminal (Send block)) more = refl
shown-items t c (Terminal Answered) more = refl
shown-items t c (Terminal IfsSet) more = refl
shown-items t c (Terminal GivenUp) more = refl
shown-items t c (Terminal Dead) more = refl
shown-items t c (Card (CardSend block)) more = refl
shown-items t c (Card Asked) more = refl

pub shown-told : (t : TerminalState) (c : CardState) (last : LastTurn) (n : Numbers) (more : List Line)
    → AreTold n (shown t c last ++ more) → AreTold n more
shown-told t c Nothing n more h = h
shown-told t c (Terminal (Send block)) n more h = h
shown-told t c (Terminal Answered) n more h = h.1
shown-told t c (Terminal IfsSet) n more h = h.1
shown-told t c (Terminal GivenUp) n more h = h.1
shown-told t c (Terminal Dead) n more h = h.1
shown-told t c (Card (CardSend block)) n more h = h
shown-told t c (Card Asked) n more h = h.1

pub shown-whole : (t : TerminalState) (c : CardState) (last : LastTurn) (n : Numbers) (more : List Line)
    → AreSeenWhole n (shown t c last ++ more) → AreSeenWhole n more
shown-whole t c Nothing n more h = h
shown-whole t c (Terminal (Send block)) n more h = h
shown-whole t c (Terminal Answered) n more h = h.1
shown-whole t c (Terminal IfsSet) n more h = h.1
shown-whole t c (Terminal GivenUp) n more h = h.1
shown-whole t c (Terminal Dead) n more h = h.1
shown-whole t c (Card (CardSend block)) n more h = h
shown-whole t c (Card Asked) n more h = h.1

pub rejoins : (lines : List Line) (call : Line) (s more : List Line)
    → ((lines ++ call ∷ []) ++ s) ++ more ≡ lines ++ call ∷ (s ++ more)
rejoins lines call s more =
    append_assoc (lines ++ call ∷ []) s more ∙ append_assoc lines (call ∷ []) (s ++ more)

pub arrived-items : (from : Side) (b : Parts) (a : Arrival) → Becomes b a
    → block_items from (spelling b) a ≡ Block from (arrived (spelling b) a) false ∷ []
arrived-items from b Whole h = refl
arrived-items from b Lost h = absurd h
arrived-items from b (Changed octets) h = refl

pub own-meets : (b : Parts) → meets b (spelling b) ≡ true
own-meets b = meets-arrived b Whole tt

-- the lines that a follower ends with
abbrev pub end_of : Following → List Item → List Line
end_of f items = (ended (after_items f items)).lines

-- ---- a block that arrives

pub carry-T : (final : List Line) (t : TerminalState) (c next : CardState) (b : Parts) (a : Arrival) (turn : CardTurn)
    (lines : List Line)
    → card_awaits_block c.waits ≡ true → b.nad ≡ 0 → Becomes b a
    → card_turn c (card_input c (line.FromTerminal (spelling b) a)) ≡ Ok (turn, next)
    → Continues final t next (Card turn)
    ((lines ++ line.FromTerminal (spelling b) a ∷ []) ++ shown t next (Card turn))
    → Continues final t c (Terminal (Send b)) lines
carry-T final t c next b a turn lines aw nad be turns k =
    let call : Line = line.FromTerminal (spelling b) a in
    let octets : List ℕ = arrived (spelling b) a in
    let item : Item = Block side.Terminal octets false in
    let s : List Line = shown t next (Card turn) in
    let own : line_items call ≡ item ∷ [] = arrived-items side.Terminal b a be in
    let items : items_of (call ∷ (s ++ k.more)) ≡ item ∷ items_of k.more =
    ap (λ (l : List Item). l ++ items_of (s ++ k.more)) own
    ∙ ap (λ (l : List Item). item ∷ l) (shown-items t next (Card turn) k.more) in
    let joined = rejoins lines call s k.more in
    record {
      more = call ∷ (s ++ k.more);
      is = k.is ∙ joined;
      begins = record {
        octets = octets;
        lost = false;
        rest = items_of k.more;
        is = items;
        fits = meets-arrived b a be;
      };
      made = λ n told.
          ap (λ (l : List Item). end_of (at t c (Sends b) Waits n lines) l) items
          ∙ ap (λ (g : Following). end_of (numbered g item) (items_of k.more))
          (direct-T t c b n lines octets false (item ∷ items_of k.more) aw (meets-arrived b a be)
          ∙ sends-T t c b n lines octets false a (meets-arrived b a be) (arrival-arrived b a nad be)
          ∙ card-reached t c n lines call ∙ card-hears t c next Waits n lines call turn turns)
          ∙ k.made (numbers_after n item) (shown-told t next (Card turn) (numbers_after n item) k.more
          (subst (λ (l : List Item). AreTold (numbers_over n l) (s ++ k.more)) own told.1))
          ∙ joined;
      unnoted = λ n told whole.
          let after = numbers_after n item in
          let all : List Line = (lines ++ call ∷ []) ++ s in
          ap (λ (l : List Item). notes_of (at t c (Sends b) Waits n lines) l []) items
          ∙ unnoted-step (at t c (Sends b) Waits n lines) (follows t next (Card turn) after all) item (items_of k.more)
          (before-T t c n lines b octets (item ∷ items_of k.more) aw (meets-arrived b a be))
          (ap (λ (g : Following). numbered g item)
          (direct-T t c b n lines octets false (item ∷ items_of k.more) aw (meets-arrived b a be)
          ∙ sends-T t c b n lines octets false a (meets-arrived b a be) (arrival-arrived b a nad be)
          ∙ card-reached t c n lines call ∙ card-hears t c next Waits n lines call turn turns))
          ∙ k.unnoted after (shown-told t next (Card turn) after k.more
          (subst (λ (l : List Item). AreTold (numbers_over n l) (s ++ k.more)) own told.1))
          (shown-whole t next (Card turn) after k.more
          (subst (λ (l : List Item). AreSeenWhole (numbers_over n l) (s ++ k.more)) own whole.1));
    }

pub carry-C : (final : List Line) (t next : TerminalState) (c : CardState) (b : Parts) (a : Arrival)
    (turn : TerminalTurn)
    (mark : Mark) (lines : List Line)
    → b.nad ≡ 0 → Becomes b a
    → terminal_turn t (terminal_input t (line.FromCard (spelling b) a)) ≡ Ok (turn, next, mark)
    → Continues final next c (Terminal turn)
    ((lines ++ line.FromCard (spelling b) a ∷ []) ++ shown next c (Terminal turn))
    → Continues final t c (Card (CardSend b)) lines
carry-C final t next c b a turn mark lines nad be turns k =
    let call : Line = line.FromCard (spelling b) a in
    let octets : List ℕ = arrived (spelling b) a in
    let item : Item = Block side.Card octets false in
    let s : List Line = shown next c (Terminal turn) in
    let own : line_items call ≡ item ∷ [] = arrived-items side.Card b a be in
    let items : items_of (call ∷ (s ++ k.more)) ≡ item ∷ items_of k.more =
    ap (λ (l : List Item). l ++ items_of (s ++ k.more)) own
    ∙ ap (λ (l : List Item). item ∷ l) (shown-items next c (Terminal turn) k.more) in
    let joined = rejoins lines call s k.more in
    record {
      more = call ∷ (s ++ k.more);
      is = k.is ∙ joined;
      begins = record {
        octets = octets;
        lost = false;
        rest = items_of k.more;
        is = items;
        fits = meets-arrived b a be;
      };
      made = λ n told.
          ap (λ (l : List Item). end_of (at t c Waits (Sends b) n lines) l) items
          ∙ ap (λ (g : Following). end_of (numbered g item) (items_of k.more))
          (direct-C t c b n lines octets false (item ∷ items_of k.more)
          ∙ sends-C t c b n lines octets false a (meets-arrived b a be) (arrival-arrived b a nad be)
          ∙ terminal-reached t c n lines call ∙ terminal-hears t next c Waits n lines call turn mark turns)
          ∙ k.made (numbers_after n item) (shown-told next c (Terminal turn) (numbers_after n item) k.more
          (subst (λ (l : List Item). AreTold (numbers_over n l) (s ++ k.more)) own told.1))
          ∙ joined;
      unnoted = λ n told whole.
          let after = numbers_after n item in
          let all : List Line = (lines ++ call ∷ []) ++ s in
          ap (λ (l : List Item). notes_of (at t c Waits (Sends b) n lines) l []) items
          ∙ unnoted-step (at t c Waits (Sends b) n lines) (follows next c (Terminal turn) after all) item
          (items_of k.more)
          (before-C t c n lines b (item ∷ items_of k.more))
          (ap (λ (g : Following). numbered g item)
          (direct-C t c b n lines octets false (item ∷ items_of k.more)
          ∙ sends-C t c b n lines octets false a (meets-arrived b a be) (arrival-arrived b a nad be)
          ∙ terminal-reached t c n lines call ∙ terminal-hears t next c Waits n lines call turn mark turns))
          ∙ k.unnoted after (shown-told next c (Terminal turn) after k.more
          (subst (λ (l : List Item). AreTold (numbers_over n l) (s ++ k.more)) own told.1))
          (shown-whole next c (Terminal turn) after k.more
          (subst (λ (l : List Item). AreSeenWhole (numbers_over n l) (s ++ k.more)) own whole.1));
    }

-- ---- a block that is lost

pub loses-T : (t : TerminalState) (c : CardState) (b : Parts) (n : Numbers) (lines : List Line) (items : List Item)
    → card_awaits_block c.waits ≡ true
    → from_terminal (at t c (Sends b) Waits n lines) (spelling b) true items
    ≡ at t c Waits Waits n (lines ++ line.FromTerminal (spelling b) Lost ∷ [])
loses-T t c b n lines items aw =
    direct-T t c b n lines (spelling b) true items aw (own-meets b)
    ∙ sends-T t c b n lines (spelling b) true Lost (own-meets b) refl
    ∙ card-missed t c n lines (line.FromTerminal (spelling b) Lost)

pub loses-C : (t : TerminalState) (c : CardState) (b : Parts) (n : Numbers) (lines : List Line) (items : List Item)
    → from_card (at t c Waits (Sends b) n lines) (spelling b) true items
    ≡ at t c Waits Waits n (lines ++ line.FromCard (spelling b) Lost ∷ [])
loses-C t c b n lines items =
    direct-C t c b n lines (spelling b) true items
    ∙ sends-C t c b n lines (spelling b) true Lost (own-meets b) refl
    ∙ terminal-missed t c n lines (line.FromCard (spelling b) Lost)

-- after a lost block the terminal's waiting time ends
pub after-loss : (final : List Line) (t next : TerminalState) (c : CardState) (lost : Line) (turn : TerminalTurn)
    (mark : Mark) (lines : List Line)
    → card_awaits_block c.waits ≡ true → terminal_turn t (takes quiet) ≡ Ok (turn, next, mark)
    → (k : Continues final next c (Terminal turn)
    ((lines ++ lost ∷ line.Quiet ∷ []) ++ shown next c (Terminal turn)))
    → (n : Numbers) → AreTold n (shown next c (Terminal turn) ++ k.more)
    → end_of (at t c Waits Waits n (lines ++ lost ∷ []))
    (Quiet ∷ items_of (shown next c (Terminal turn) ++ k.more))
    ≡ ((lines ++ lost ∷ line.Quiet ∷ []) ++ shown next c (Terminal turn)) ++ k.more
after-loss final t next c lost turn mark lines aw turns k n told =
    let s : List Line = shown next c (Terminal turn) in
    ap (λ (g : Following). end_of g (items_of (s ++ k.more)))
    (quiet-after t c n (lines ++ lost ∷ []) (Quiet ∷ items_of (s ++ k.more)) aw
    ∙ terminal-hears t next c Waits n (lines ++ lost ∷ []) line.Quiet turn mark turns)
    ∙ ap (λ (l : List Line). end_of (follows next c (Terminal turn) n (l ++ s)) (items_of (s ++ k.more)))
    (append_assoc lines (lost ∷ []) (line.Quiet ∷ []))
    ∙ ap (λ (l : List Item). end_of (follows next c (Terminal turn) n ((lines ++ lost ∷ line.Quiet ∷ []) ++ s)) l)
    (shown-items next c (Terminal turn) k.more)
    ∙ k.made n (shown-told next c (Terminal turn) n k.more told)

pub unnoted-after-loss : (final : List Line) (t next : TerminalState) (c : CardState) (lost : Line)
    (turn : TerminalTurn) (mark : Mark) (lines : List Line)
    → card_awaits_block c.waits ≡ true → terminal_turn t (takes quiet) ≡ Ok (turn, next, mark)
    → (k : Continues final next c (Terminal turn)
    ((lines ++ lost ∷ line.Quiet ∷ []) ++ shown next c (Terminal turn)))
    → (n : Numbers) → AreTold n (shown next c (Terminal turn) ++ k.more)
    → AreSeenWhole n (shown next c (Terminal turn) ++ k.more)
    → notes_of (at t c Waits Waits n (lines ++ lost ∷ []))
    (Quiet ∷ items_of (shown next c (Terminal turn) ++ k.more)) [] ≡ []
unnoted-after-loss final t next c lost turn mark lines aw turns k n told whole =
    let s : List Line = shown next c (Terminal turn) in
    let rest : List Item = items_of (s ++ k.more) in
    unnoted-step (at t c Waits Waits n (lines ++ lost ∷ []))
    (follows next c (Terminal turn) n (((lines ++ lost ∷ []) ++ line.Quiet ∷ []) ++ s)) Quiet rest
    (before-Q t c n (lines ++ lost ∷ []) (Quiet ∷ rest) aw)
    (quiet-after t c n (lines ++ lost ∷ []) (Quiet ∷ rest) aw
    ∙ terminal-hears t next c Waits n (lines ++ lost ∷ []) line.Quiet turn mark turns)
    ∙ ap (λ (l : List Line). notes_of (follows next c (Terminal turn) n (l ++ s)) rest [])
    (append_assoc lines (lost ∷ []) (line.Quiet ∷ []))
    ∙ ap (λ (l : List Item). notes_of (follows next c (Terminal turn) n ((lines ++ lost ∷ line.Quiet ∷ []) ++ s)) l [])
    (shown-items next c (Terminal turn) k.more)
    ∙ k.unnoted n (shown-told next c (Terminal turn) n k.more told) (shown-whole next c (Terminal turn) n k.more whole)

pub rejoins-two : (lines : List Line) (lost q : Line) (s more : List Line)
    → ((lines ++ lost ∷ q ∷ []) ++ s) ++ more ≡ lines ++ lost ∷ q ∷ (s ++ more)
rejoins-two lines lost q s more =
    append_assoc (lines ++ lost ∷ q ∷ []) s more ∙ append_assoc lines (lost ∷ q ∷ []) (s ++ more)

pub lose-T : (final : List Line) (t next : TerminalState) (c : CardState) (b : Parts) (turn : TerminalTurn)
    (mark : Mark)
    (lines : List Line)
    → card_awaits_block c.waits ≡ true → terminal_turn t (takes quiet) ≡ Ok (turn, next, mark)
    → Continues final next c (Terminal turn)
    ((lines ++ line.FromTerminal (spelling b) Lost ∷ line.Quiet ∷ []) ++ shown next c (Terminal turn))
    → Continues final t c (Terminal (Send b)) lines
lose-T final t next c b turn mark lines aw turns k =
    let lost : Line = line.FromTerminal (spelling b) Lost in
    let item : Item = Block side.Terminal (spelling b) true in
    let s : List Line = shown next c (Terminal turn) in
    let rest : List Item = Quiet ∷ items_of (s ++ k.more) in
    let joined = rejoins-two lines lost line.Quiet s k.more in
    record {
      more = lost ∷ line.Quiet ∷ (s ++ k.more);
      is = k.is ∙ joined;
      begins = record { octets = spelling b; lost = true; rest = rest; is = refl; fits = own-meets b };
      made = λ n told.
          ap (λ (g : Following). end_of (numbered g item) rest) (loses-T t c b n lines (item ∷ rest) aw)
          ∙ after-loss final t next c lost turn mark lines aw turns k (numbers_after n item) told.1.1 ∙ joined;
      unnoted = λ n told whole.
          unnoted-step (at t c (Sends b) Waits n lines)
          (at t c Waits Waits (numbers_after n item) (lines ++ lost ∷ [])) item rest
          (before-T t c n lines b (spelling b) (item ∷ rest) aw (own-meets b))
          (ap (λ (g : Following). numbered g item) (loses-T t c b n lines (item ∷ rest) aw))
          ∙ unnoted-after-loss final t next c lost turn mark lines aw turns k (numbers_after n item) told.1.1 whole.1.1;
    }

pub lose-C : (final : List Line) (t next : TerminalState) (c : CardState) (b : Parts) (turn : TerminalTurn)
    (mark : Mark)
    (lines : List Line)
    → card_awaits_block c.waits ≡ true → terminal_turn t (takes quiet) ≡ Ok (turn, next, mark)
    → Continues final next c (Terminal turn)
    ((lines ++ line.FromCard (spelling b) Lost ∷ line.Quiet ∷ []) ++ shown next c (Terminal turn))
    → Continues final t c (Card (CardSend b)) lines
lose-C final t next c b turn mark lines aw turns k =
    let lost : Line = line.FromCard (spelling b) Lost in
    let item : Item = Block side.Card (spelling b) true in
    let s : List Line = shown next c (Terminal turn) in
    let rest : List Item = Quiet ∷ items_of (s ++ k.more) in
    let joined = rejoins-two lines lost line.Quiet s k.more in
    record {
      more = lost ∷ line.Quiet ∷ (s ++ k.more);
      is = k.is ∙ joined;
      begins = record { octets = spelling b; lost = true; rest = rest; is = refl; fits = own-meets b };
      made = λ n told.
          ap (λ (g : Following). end_of (numbered g item) rest) (loses-C t c b n lines (item ∷ rest))
          ∙ after-loss final t next c lost turn mark lines aw turns k (numbers_after n item) told.1.1 ∙ joined;
      unnoted = λ n told whole.
          unnoted-step (at t c Waits (Sends b) n lines)
          (at t c Waits Waits (numbers_after n item) (lines ++ lost ∷ [])) item rest
          (before-C t c n lines b (item ∷ rest))
          (ap (λ (g : Following). numbered g item) (loses-C t c b n lines (item ∷ rest)))
          ∙ unnoted-after-loss final t next c lost turn mark lines aw turns k (numbers_after n item) told.1.1 whole.1.1;
    }

-- ---- the end

pub ends-lost-T : (t : TerminalState) (c : CardState) (b : Parts) (lines : List Line) → card_awaits_block c.waits ≡ true
    → Continues (lines ++ line.FromTerminal (spelling b) Lost ∷ []) t c (Terminal (Send b)) lines
ends-lost-T t c b lines aw =
    let lost : Line = line.FromTerminal (spelling b) Lost in
    let item : Item = Block side.Terminal (spelling b) true in
    record {
      more = lost ∷ [];
      is = refl;
      begins = record { octets = spelling b; lost = true; rest = []; is = refl; fits = own-meets b };
      made = λ n told.
          ap (λ (g : Following). end_of (numbered g item) []) (loses-T t c b n lines (item ∷ []) aw)
          ∙ ap (λ (g : Following). g.lines) (ends t c (numbers_after n item) (lines ++ lost ∷ []));
      unnoted = λ n told whole.
          unnoted-step (at t c (Sends b) Waits n lines)
          (at t c Waits Waits (numbers_after n item) (lines ++ lost ∷ [])) item []
          (before-T t c n lines b (spelling b) (item ∷ []) aw (own-meets b))
          (ap (λ (g : Following). numbered g item) (loses-T t c b n lines (item ∷ []) aw))
          ∙ ends-unnoted t c (numbers_after n item) (lines ++ lost ∷ []);
    }

pub ends-lost-C : (t : TerminalState) (c : CardState) (b : Parts) (lines : List Line)
    → Continues (lines ++ line.FromCard (spelling b) Lost ∷ []) t c (Card (CardSend b)) lines
ends-lost-C t c b lines =
    let lost : Line = line.FromCard (spelling b) Lost in
    let item : Item = Block side.Card (spelling b) true in
    record {
      more = lost ∷ [];
      is = refl;
      begins = record { octets = spelling b; lost = true; rest = []; is = refl; fits = own-meets b };
      made = λ n told.
          ap (λ (g : Following). end_of (numbered g item) []) (loses-C t c b n lines (item ∷ []))
          ∙ ap (λ (g : Following). g.lines) (ends t c (numbers_after n item) (lines ++ lost ∷ []));
      unnoted = λ n told whole.
          unnoted-step (at t c Waits (Sends b) n lines)
          (at t c Waits Waits (numbers_after n item) (lines ++ lost ∷ [])) item []
          (before-C t c n lines b (item ∷ []))
          (ap (λ (g : Following). numbered g item) (loses-C t c b n lines (item ∷ [])))
          ∙ ends-unnoted t c (numbers_after n item) (lines ++ lost ∷ []);
    }

pub begins-rest : (last : LastTurn) (items : List Item) → under_way_of last ≡ nothing → Begins last items
begins-rest Nothing items e = tt
begins-rest (Terminal (Send block)) items e = cc
begins-rest (Terminal Answered) items e = tt
begins-rest (Terminal IfsSet) items e = tt
begins-rest (Terminal GivenUp) items e = tt
begins-rest (Terminal Dead) items e = tt
begins-rest (Card (CardSend block)) items e = cc
begins-rest (Card Asked) items e = tt

pub waits-rest : (t : TerminalState) (c : CardState) (last : LastTurn) (n : Numbers) (lines : List Line)
    → under_way_of last ≡ nothing → follows t c last n lines ≡ at t c Waits Waits n lines
waits-rest t c Nothing n lines e = refl
waits-rest t c (Terminal (Send block)) n lines e = cc
waits-rest t c (Terminal Answered) n lines e = refl
waits-rest t c (Terminal IfsSet) n lines e = refl
waits-rest t c (Terminal GivenUp) n lines e = refl
waits-rest t c (Terminal Dead) n lines e = refl
waits-rest t c (Card (CardSend block)) n lines e = cc
waits-rest t c (Card Asked) n lines e = refl

pub shown-rest : (t : TerminalState) (c : CardState) (last : LastTurn) → under_way_of last ≡ nothing
    → telling t c last ≡ shown t c last
shown-rest t c Nothing e = refl
shown-rest t c (Terminal (Send block)) e = cc
shown-rest t c (Terminal Answered) e = refl
shown-rest t c (Terminal IfsSet) e = refl
shown-rest t c (Terminal GivenUp) e = refl
shown-rest t c (Terminal Dead) e = refl
shown-rest t c (Card (CardSend block)) e = cc
shown-rest t c (Card Asked) e = refl

pub ends-rest : (t : TerminalState) (c : CardState) (last : LastTurn) (lines : List Line) → under_way_of last ≡ nothing
    → Continues (lines ++ telling t c last) t c last (lines ++ shown t c last)
ends-rest t c last lines e =
    let all : List Line = lines ++ shown t c last in
    record {
      more = [];
      is = ap (λ (l : List Line). lines ++ l) (shown-rest t c last e) ∙ sym (append-nil all);
      begins = begins-rest last [] e;
      made = λ n told.
          ap (λ (g : Following). (ended g).lines) (waits-rest t c last n all e)
          ∙ ap (λ (g : Following). g.lines) (ends t c n all) ∙ sym (append-nil all);
      unnoted = λ n told whole.
          ap (λ (g : Following). notes_of g [] []) (waits-rest t c last n all e) ∙ ends-unnoted t c n all;
    }

pub stops : (t : TerminalState) (c : CardState) (last : LastTurn) (lines : List Line)
    → Awaits (under_way_of last) t.waits c.waits
    → Continues (lines ++ telling t c last) t c last (lines ++ shown t c last)
stops t c (Terminal (Send b)) lines aw =
    subst (λ (l : List Line). Continues (lines ++ telling t c (Terminal (Send b))) t c (Terminal (Send b)) l)
    (sym (append-nil lines)) (ends-lost-T t c b lines aw.1)
stops t c (Card (CardSend b)) lines aw =
    subst (λ (l : List Line). Continues (lines ++ telling t c (Card (CardSend b))) t c (Card (CardSend b)) l)
    (sym (append-nil lines)) (ends-lost-C t c b lines)
stops t c Nothing lines aw = ends-rest t c Nothing lines refl
stops t c (Terminal Answered) lines aw = ends-rest t c (Terminal Answered) lines refl
stops t c (Terminal IfsSet) lines aw = ends-rest t c (Terminal IfsSet) lines refl
stops t c (Terminal GivenUp) lines aw = ends-rest t c (Terminal GivenUp) lines refl
stops t c (Terminal Dead) lines aw = ends-rest t c (Terminal Dead) lines refl
stops t c (Card Asked) lines aw = ends-rest t c (Card Asked) lines refl
