-- What a follower does with one thing on a recorder's line, where it stands as the recorder does.
use Rattle.std.proofs.Common.{◌≡◌, ◌∙◌, ap, sym, refl, ℕ, List, [], ◌∷◌, ◌++◌, Bool, true, false, not, ◌&&◌, if◌then◌else◌, None, Ok}
use Rattle.std.proofs.lemmas.List.{append-nil}
use Rattle.block_core.specs.Block.{Parts, spelling}
use Rattle.t1_core.specs.Awaited.{terminal_awaits_block, card_awaits_block}
use Rattle.t1_core.specs.Terminal.{TerminalState, TerminalStep, Mark, terminal_turn}
use Rattle.t1_core.specs.Card.{CardState, CardStep, card_turn}
use Rattle.t1_core.specs.declared.turns.TerminalTurn.{TerminalTurn}
use Rattle.t1_core.specs.declared.turns.TerminalTurn.TheVariants.{Send, Answered, IfsSet, GivenUp, Dead}
use Rattle.t1_core.specs.declared.turns.CardTurn.{CardTurn}
use Rattle.t1_core.specs.declared.turns.CardTurn.TheVariants.{Send as CardSend, Asked}
use Rattle.exchange_text.specs.declared.line.Arrival.{Arrival}
use Rattle.exchange_text.specs.declared.line.Line.{Line}
use Rattle.exchange_text.specs.declared.line.Line.TheVariants as line
use Rattle.exchange_core.specs.Recording.{card_input, telling, terminal_input}
use Rattle.exchange_core.specs.declared.event.LastTurn.{LastTurn}
use Rattle.exchange_core.specs.declared.event.LastTurn.TheVariants.{Nothing, Terminal, Card}
use Rattle.traces.specs.declared.said.Numbers.{Numbers}
use Rattle.traces.specs.declared.standing.Standing.{Standing}
use Rattle.traces.specs.declared.standing.Standing.TheVariants.{Left, Waits, Sends}
use Rattle.traces.specs.declared.trace.Item.{Item}
use Rattle.traces.specs.Said.{application_line, host_line}
use Rattle.traces.specs.Following.{Following, after_begins, after_host, after_moves, after_quiet, arrival, card_did, card_hears, card_sent, card_stepped, ended, from_card, from_terminal, goes_again, meets, misses, reaches_card, reaches_terminal, released, settled_card, settled_terminal, terminal_did, terminal_hears, terminal_sent, terminal_stepped, whole}

-- ---- the follower at a recorder

abbrev pub at : TerminalState → CardState → Standing → Standing → Numbers → List Line → Following
at t c ts cs n lines = record {
  terminal = t;
  card = c;
  terminal_is = ts;
  card_is = cs;
  numbers = n;
  held = None;
  lines = lines;
}

abbrev pub terminal_stands : LastTurn → Standing
terminal_stands (Terminal (Send block)) = Sends block
terminal_stands last = Waits

abbrev pub card_stands : LastTurn → Standing
card_stands (Card (CardSend block)) = Sends block
card_stands last = Waits

-- the line of a turn that no block tells is written at once
abbrev pub shown : TerminalState → CardState → LastTurn → List Line
shown t c Nothing = []
shown t c (Terminal (Send block)) = []
shown t c (Terminal turn) = telling t c (Terminal turn)
shown t c (Card (CardSend block)) = []
shown t c (Card turn) = telling t c (Card turn)

abbrev pub follows : TerminalState → CardState → LastTurn → Numbers → List Line → Following
follows t c last n lines = at t c (terminal_stands last) (card_stands last) n lines

-- ---- choices

pub if-true : {A : Type 0} (b : Bool) (x y : A) → b ≡ true → (if b then x else y) ≡ x
if-true true x y e = refl
if-true false x y e = cc

pub if-false : {A : Type 0} (b : Bool) (x y : A) → b ≡ false → (if b then x else y) ≡ y
if-false true x y e = cc
if-false false x y e = refl

pub and-false : (a b : Bool) → a ≡ false → a && b ≡ false
and-false true b e = cc
and-false false b e = refl

-- ---- calls

pub terminal-did : (t : TerminalState) (c : CardState) (ts : Standing) (n : Numbers) (lines : List Line)
    (turn : TerminalTurn)
    → terminal_did (at t c ts Waits n lines) (Ok turn)
    ≡ follows t c (Terminal turn) n (lines ++ shown t c (Terminal turn))
terminal-did t c ts n lines (Send block) =
    ap (λ (l : List Line). at t c (Sends block) Waits n l) (sym (append-nil lines))
terminal-did t c ts n lines Answered = refl
terminal-did t c ts n lines IfsSet = refl
terminal-did t c ts n lines GivenUp = refl
terminal-did t c ts n lines Dead = refl

pub terminal-hears : (t next : TerminalState) (c : CardState) (ts : Standing) (n : Numbers) (lines : List Line)
    (line : Line)
    (turn : TerminalTurn) (mark : Mark)
    → terminal_turn t (terminal_input t line) ≡ Ok (turn, next, mark)
    → terminal_hears (at t c ts Waits n lines) line
    ≡ follows next c (Terminal turn) n ((lines ++ line ∷ []) ++ shown next c (Terminal turn))
unfolding terminal_hears
terminal-hears t next c ts n lines line turn mark e =
    ap (λ (s : TerminalStep). terminal_stepped (at t c ts Waits n lines) line s) e
    ∙ terminal-did next c ts n (lines ++ line ∷ []) turn

pub card-did : (t : TerminalState) (c : CardState) (cs : Standing) (n : Numbers) (lines : List Line) (turn : CardTurn)
    → card_did (at t c Waits cs n lines) (Ok turn) ≡ follows t c (Card turn) n (lines ++ shown t c (Card turn))
card-did t c cs n lines (CardSend block) =
    ap (λ (l : List Line). at t c Waits (Sends block) n l) (sym (append-nil lines))
card-did t c cs n lines Asked = refl

pub card-hears : (t : TerminalState) (c next : CardState) (cs : Standing) (n : Numbers) (lines : List Line)
    (line : Line)
    (turn : CardTurn)
    → card_turn c (card_input c line) ≡ Ok (turn, next)
    → card_hears (at t c Waits cs n lines) line
    ≡ follows t next (Card turn) n ((lines ++ line ∷ []) ++ shown t next (Card turn))
unfolding card_hears
card-hears t c next cs n lines line turn e =
    ap (λ (s : CardStep). card_stepped (at t c Waits cs n lines) line s) e
    ∙ card-did t next cs n (lines ++ line ∷ []) turn

-- ---- what comes before a block that is seen

pub host-rests : (t : TerminalState) (c : CardState) (ts : Standing) (n : Numbers) (lines : List Line)
    (items : List Item)
    → card_awaits_block c.waits ≡ true → after_host (at t c ts Waits n lines) items ≡ at t c ts Waits n lines
unfolding after_host
host-rests t c ts n lines items e =
    if-false (not (card_awaits_block c.waits)) _ (at t c ts Waits n lines) (ap (λ (b : Bool). not b) e)

pub card-settles : (t : TerminalState) (c : CardState) (ts : Standing) (n : Numbers) (lines : List Line)
    → settled_card (at t c ts Waits n lines) ≡ at t c ts Waits n lines
unfolding settled_card
card-settles t c ts n lines = refl

pub terminal-settles : (t : TerminalState) (c : CardState) (cs : Standing) (n : Numbers) (lines : List Line)
    → settled_terminal (at t c Waits cs n lines) ≡ at t c Waits cs n lines
unfolding settled_terminal
terminal-settles t c cs n lines = refl

pub releases : (t : TerminalState) (c : CardState) (ts cs : Standing) (n : Numbers) (lines : List Line)
    → released (at t c ts cs n lines) ≡ at t c ts cs n lines
unfolding released
releases t c ts cs n lines = refl

pub no-miss : (b : Parts) (octets : List ℕ) → meets b octets ≡ true → misses (Sends b) octets ≡ false
no-miss b octets e = and-false _ _ (ap (λ (x : Bool). not x) e)

-- the terminal has a block to send
pub moves-rest : (t : TerminalState) (c : CardState) (b : Parts) (n : Numbers) (lines : List Line) (octets : List ℕ)
    (items : List Item)
    → meets b octets ≡ true
    → after_moves (at t c (Sends b) Waits n lines) octets items ≡ at t c (Sends b) Waits n lines
unfolding after_moves after_begins
moves-rest t c b n lines octets items e = if-false (misses (Sends b) octets) _ _ (no-miss b octets e)

pub direct-T : (t : TerminalState) (c : CardState) (b : Parts) (n : Numbers) (lines : List Line) (octets : List ℕ)
    (lost : Bool) (items : List Item)
    → card_awaits_block c.waits ≡ true → meets b octets ≡ true
    → from_terminal (at t c (Sends b) Waits n lines) octets lost items
    ≡ terminal_sent (at t c (Sends b) Waits n lines) octets lost
unfolding from_terminal
direct-T t c b n lines octets lost items e m =
    let f : Following = at t c (Sends b) Waits n lines in
    ap (λ (g : Following). terminal_sent (released (after_moves (settled_card g) octets items)) octets lost)
    (host-rests t c (Sends b) n lines items e)
    ∙ ap (λ (g : Following). terminal_sent (released (after_moves g octets items)) octets lost)
    (card-settles t c (Sends b) n lines)
    ∙ ap (λ (g : Following). terminal_sent (released g) octets lost) (moves-rest t c b n lines octets items m)
    ∙ ap (λ (g : Following). terminal_sent g octets lost) (releases t c (Sends b) Waits n lines)

-- the terminal has none, and its application calls it
pub begins-call : (t next : TerminalState) (c : CardState) (b : Parts) (n : Numbers) (lines : List Line)
    (items : List Item) (call : Line) (mark : Mark)
    → terminal_awaits_block t.waits ≡ false → application_line n items ≡ call
    → terminal_turn t (terminal_input t call) ≡ Ok (Send b, next, mark)
    → after_begins (at t c Waits Waits n lines) items ≡ at next c (Sends b) Waits n (lines ++ call ∷ [])
unfolding after_begins
begins-call t next c b n lines items call mark e told turns =
    let f : Following = at t c Waits Waits n lines in
    if-false (terminal_awaits_block t.waits) (terminal_hears f line.Quiet)
    (terminal_hears f (application_line n items)) e
    ∙ ap (λ (l : Line). terminal_hears f l) told
    ∙ terminal-hears t next c Waits n lines call (Send b) mark turns
    ∙ ap (λ (l : List Line). at next c (Sends b) Waits n l) (append-nil (lines ++ call ∷ []))

pub moves-call : (t next : TerminalState) (c : CardState) (b : Parts) (n : Numbers) (lines : List Line)
    (octets : List ℕ)
    (items : List Item) (call : Line) (mark : Mark)
    → terminal_awaits_block t.waits ≡ false → application_line n items ≡ call
    → terminal_turn t (terminal_input t call) ≡ Ok (Send b, next, mark) → meets b octets ≡ true
    → after_moves (at t c Waits Waits n lines) octets items ≡ at next c (Sends b) Waits n (lines ++ call ∷ [])
unfolding after_moves
moves-call t next c b n lines octets items call mark e told turns m =
    let g : Following = at next c (Sends b) Waits n (lines ++ call ∷ []) in
    ap (λ (h : Following). goes_again h (terminal_awaits_block t.waits) octets)
    (begins-call t next c b n lines items call mark e told turns)
    ∙ ap (λ (w : Bool). goes_again g w octets) e
    ∙ if-false (misses (Sends b) octets) _ g (no-miss b octets m)

pub called-T : (t next : TerminalState) (c : CardState) (b : Parts) (n : Numbers) (lines : List Line) (octets : List ℕ)
    (lost : Bool) (items : List Item) (line : Line) (mark : Mark)
    → card_awaits_block c.waits ≡ true → terminal_awaits_block t.waits ≡ false → application_line n items ≡ line
    → terminal_turn t (terminal_input t line) ≡ Ok (Send b, next, mark) → meets b octets ≡ true
    → from_terminal (at t c Waits Waits n lines) octets lost items
    ≡ terminal_sent (at next c (Sends b) Waits n (lines ++ line ∷ [])) octets lost
unfolding from_terminal
called-T t next c b n lines octets lost items line mark ec et told turns m =
    ap (λ (g : Following). terminal_sent (released (after_moves (settled_card g) octets items)) octets lost)
    (host-rests t c Waits n lines items ec)
    ∙ ap (λ (g : Following). terminal_sent (released (after_moves g octets items)) octets lost)
    (card-settles t c Waits n lines)
    ∙ ap (λ (g : Following). terminal_sent (released g) octets lost)
    (moves-call t next c b n lines octets items line mark et told turns m)
    ∙ ap (λ (g : Following). terminal_sent g octets lost) (releases next c (Sends b) Waits n (lines ++ line ∷ []))

-- the card has a block to send
pub host-waits : (t : TerminalState) (c : CardState) (b : Parts) (n : Numbers) (lines : List Line) (items : List Item)
    → after_host (at t c Waits (Sends b) n lines) items ≡ at t c Waits (Sends b) n lines
unfolding after_host
host-waits t c b n lines items = refl

pub direct-C : (t : TerminalState) (c : CardState) (b : Parts) (n : Numbers) (lines : List Line) (octets : List ℕ)
    (lost : Bool) (items : List Item)
    → from_card (at t c Waits (Sends b) n lines) octets lost items
    ≡ card_sent (at t c Waits (Sends b) n lines) octets lost
unfolding from_card
direct-C t c b n lines octets lost items =
    ap (λ (g : Following). card_sent (released (after_host g items)) octets lost)
    (terminal-settles t c (Sends b) n lines)
    ∙ ap (λ (g : Following). card_sent (released g) octets lost) (host-waits t c b n lines items)
    ∙ ap (λ (g : Following). card_sent g octets lost) (releases t c Waits (Sends b) n lines)

-- it has none, and its host calls it
pub host-calls : (t : TerminalState) (c next : CardState) (b : Parts) (n : Numbers) (lines : List Line)
    (items : List Item)
    (line : Line)
    → card_awaits_block c.waits ≡ false → host_line n items ≡ line
    → card_turn c (card_input c line) ≡ Ok (CardSend b, next)
    → after_host (at t c Waits Waits n lines) items ≡ at t next Waits (Sends b) n (lines ++ line ∷ [])
unfolding after_host
host-calls t c next b n lines items line e told turns =
    let f : Following = at t c Waits Waits n lines in
    if-true (not (card_awaits_block c.waits)) (card_hears f (host_line n items)) f (ap (λ (x : Bool). not x) e)
    ∙ ap (λ (l : Line). card_hears f l) told
    ∙ card-hears t c next Waits n lines line (CardSend b) turns
    ∙ ap (λ (l : List Line). at t next Waits (Sends b) n l) (append-nil (lines ++ line ∷ []))

pub called-C : (t : TerminalState) (c next : CardState) (b : Parts) (n : Numbers) (lines : List Line) (octets : List ℕ)
    (lost : Bool) (items : List Item) (line : Line)
    → card_awaits_block c.waits ≡ false → host_line n items ≡ line
    → card_turn c (card_input c line) ≡ Ok (CardSend b, next)
    → from_card (at t c Waits Waits n lines) octets lost items
    ≡ card_sent (at t next Waits (Sends b) n (lines ++ line ∷ [])) octets lost
unfolding from_card
called-C t c next b n lines octets lost items line e told turns =
    ap (λ (g : Following). card_sent (released (after_host g items)) octets lost)
    (terminal-settles t c Waits n lines)
    ∙ ap (λ (g : Following). card_sent (released g) octets lost)
    (host-calls t c next b n lines items line e told turns)
    ∙ ap (λ (g : Following). card_sent g octets lost) (releases t next Waits (Sends b) n (lines ++ line ∷ []))

-- ---- a block that is seen

abbrev pub sent_by : Bool → Parts → List ℕ → Bool → List ℕ × Arrival
sent_by met b octets lost = if met then (spelling b, arrival b octets lost) else (octets, whole lost)

pub sends-T : (t : TerminalState) (c : CardState) (b : Parts) (n : Numbers) (lines : List Line) (octets : List ℕ)
    (lost : Bool) (a : Arrival)
    → meets b octets ≡ true → arrival b octets lost ≡ a
    → terminal_sent (at t c (Sends b) Waits n lines) octets lost
    ≡ reaches_card (at t c Waits Waits n lines) (line.FromTerminal (spelling b) a) lost
sends-T t c b n lines octets lost a m e =
    ap (λ (met : Bool).
    reaches_card (at t c (if met then Waits else Left) Waits n lines)
    (line.FromTerminal (sent_by met b octets lost).0 (sent_by met b octets lost).1) lost) m
    ∙ ap (λ (x : Arrival). reaches_card (at t c Waits Waits n lines) (line.FromTerminal (spelling b) x) lost) e

pub sends-C : (t : TerminalState) (c : CardState) (b : Parts) (n : Numbers) (lines : List Line) (octets : List ℕ)
    (lost : Bool) (a : Arrival)
    → meets b octets ≡ true → arrival b octets lost ≡ a
    → card_sent (at t c Waits (Sends b) n lines) octets lost
    ≡ reaches_terminal (at t c Waits Waits n lines) (line.FromCard (spelling b) a) lost
sends-C t c b n lines octets lost a m e =
    ap (λ (met : Bool).
    reaches_terminal (at t c Waits (if met then Waits else Left) n lines)
    (line.FromCard (sent_by met b octets lost).0 (sent_by met b octets lost).1) lost) m
    ∙ ap (λ (x : Arrival). reaches_terminal (at t c Waits Waits n lines) (line.FromCard (spelling b) x) lost) e

pub card-reached : (t : TerminalState) (c : CardState) (n : Numbers) (lines : List Line) (line : Line)
    → reaches_card (at t c Waits Waits n lines) line false ≡ card_hears (at t c Waits Waits n lines) line
unfolding reaches_card
card-reached t c n lines line = refl

pub card-missed : (t : TerminalState) (c : CardState) (n : Numbers) (lines : List Line) (line : Line)
    → reaches_card (at t c Waits Waits n lines) line true ≡ at t c Waits Waits n (lines ++ line ∷ [])
unfolding reaches_card
card-missed t c n lines line = refl

pub terminal-reached : (t : TerminalState) (c : CardState) (n : Numbers) (lines : List Line) (line : Line)
    → reaches_terminal (at t c Waits Waits n lines) line false ≡ terminal_hears (at t c Waits Waits n lines) line
unfolding reaches_terminal
terminal-reached t c n lines line = refl

pub terminal-missed : (t : TerminalState) (c : CardState) (n : Numbers) (lines : List Line) (line : Line)
    → reaches_terminal (at t c Waits Waits n lines) line true ≡ at t c Waits Waits n (lines ++ line ∷ [])
unfolding reaches_terminal
terminal-missed t c n lines line = refl

-- the terminal's waiting time ends
pub quiet-after : (t : TerminalState) (c : CardState) (n : Numbers) (lines : List Line) (items : List Item)
    → card_awaits_block c.waits ≡ true
    → after_quiet (at t c Waits Waits n lines) items ≡ terminal_hears (at t c Waits Waits n lines) line.Quiet
unfolding after_quiet
quiet-after t c n lines items e =
    ap (λ (g : Following). reaches_terminal (released (settled_terminal (settled_card g))) line.Quiet false)
    (host-rests t c Waits n lines items e)
    ∙ ap (λ (g : Following). reaches_terminal (released (settled_terminal g)) line.Quiet false)
    (card-settles t c Waits n lines)
    ∙ ap (λ (g : Following). reaches_terminal (released g) line.Quiet false) (terminal-settles t c Waits n lines)
    ∙ ap (λ (g : Following). reaches_terminal g line.Quiet false) (releases t c Waits Waits n lines)
    ∙ terminal-reached t c n lines line.Quiet

-- where nobody has a block to send, the end changes nothing
pub ends : (t : TerminalState) (c : CardState) (n : Numbers) (lines : List Line)
    → ended (at t c Waits Waits n lines) ≡ at t c Waits Waits n lines
ends t c n lines =
    ap (λ (g : Following). released (settled_card g)) (terminal-settles t c Waits n lines)
    ∙ ap (λ (g : Following). released g) (card-settles t c Waits n lines)
    ∙ releases t c Waits Waits n lines
