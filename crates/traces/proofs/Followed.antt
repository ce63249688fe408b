-- An end that is followed to the end of what was seen replays the recording.
use Rattle.std.proofs.Common.{◌≡◌, ◌∙◌, ap, sym, refl, subst, ℕ, List, [], ◌∷◌, ◌++◌, Bool, true, false, not, ◌&&◌, if◌then◌else◌, Option, Some, None, Result, Ok, Err}
use Rattle.block_core.specs.Block.{Parts, spelling}
use Rattle.t1_core.specs.Awaited.{terminal_awaits_block, card_awaits_block}
use Rattle.t1_core.specs.Terminal.{TerminalState, terminal_turn, turn_of, state_after, new_terminal}
use Rattle.t1_core.specs.Card.{CardState, card_turn, turn_of as card_turn_of, state_after as card_state_after, new_card}
use Rattle.t1_core.specs.declared.turns.TerminalTurn.{TerminalTurn}
use Rattle.t1_core.specs.declared.turns.TerminalTurn.TheVariants.{Send, Answered, IfsSet, GivenUp, Dead}
use Rattle.t1_core.specs.declared.turns.TerminalFault.{TerminalFault}
use Rattle.t1_core.specs.declared.turns.CardTurn.{CardTurn}
use Rattle.t1_core.specs.declared.turns.CardTurn.TheVariants.{Send as CardSend, Asked}
use Rattle.t1_core.specs.declared.turns.CardFault.{CardFault}
use Rattle.exchange_text.specs.Text.{line_text}
use Rattle.exchange_text.specs.declared.line.Arrival.{Arrival}
use Rattle.exchange_text.specs.declared.line.Arrival.TheVariants.{Whole, Lost, Changed}
use Rattle.exchange_text.specs.declared.line.Line.{Line}
use Rattle.exchange_text.specs.declared.line.Line.TheVariants as line
use Rattle.exchange_core.specs.Recording.{runs, terminal_input, card_input}
use Rattle.exchange_core.specs.Replay.{card_end, card_line, replay_from, terminal_end, terminal_line}
use Rattle.block_core.specs.declared.side.Side.{Side}
use Rattle.block_core.specs.declared.side.Side.TheVariants as side
use Rattle.exchange_core.proofs.Folds.{meets as octets-met, replays-none, runs-on}
use Rattle.traces.specs.declared.standing.Standing.{Standing}
use Rattle.traces.specs.declared.standing.Standing.TheVariants.{Left, Waits, Sends}
use Rattle.traces.specs.declared.trace.Item.{Item}
use Rattle.traces.specs.declared.trace.Item.TheVariants.{Block, Quiet, Moment}
use Rattle.traces.specs.Followed.{is_followed, standing_of}
use Rattle.traces.specs.Recorded.{lines_of}
use Rattle.traces.specs.Said.{application_line, host_line}
use Rattle.traces.specs.Following.{Following, after_begins, after_host, after_item, after_items, after_moves, after_quiet, arrival, begun, card_did, card_hears, card_settled, from_card, from_terminal, is_spelled, is_waiting, meets, misses, reaches_card, reaches_terminal, released, released_by, sent_as, settled_card, settled_terminal, standing_after, terminal_did, terminal_hears, terminal_settled, whole, writes}
use Rattle.traces.proofs.Keeping.{CallsCard, CallsTerminal, CardAt, GC, GT, Good, PassesCard, PassesTerminal, TerminalAt, application-calls, application-passes, card-hears-C, card-hears-T, card-lost-passes, card-pend, good-releases, good-settles-card, good-settles-terminal, hears-C, hears-T, host-calls, host-passes, lost-passes, more-C, more-T, pend, quiet-passes}

-- ---- an end that has no block to send

-- it waits, or it was left
abbrev IsQuiet : Standing → Type 0
IsQuiet Left = Unit {0}
IsQuiet Waits = Unit {0}
IsQuiet (Sends block) = ⊥

settled-quiet : (f : Following) (s : Standing) → f.terminal_is ≡ s → IsQuiet (terminal_settled f s).terminal_is
settled-quiet f (Sends block) is = tt
settled-quiet f Left is = subst IsQuiet (sym is) tt
settled-quiet f Waits is = subst IsQuiet (sym is) tt

terminal-quiet : (f : Following) → IsQuiet (settled_terminal f).terminal_is
unfolding settled_terminal
terminal-quiet f = settled-quiet f f.terminal_is refl

card-settled-quiet : (f : Following) (s : Standing) → f.card_is ≡ s → IsQuiet (card_settled f s).card_is
card-settled-quiet f (Sends block) is = tt
card-settled-quiet f Left is = subst IsQuiet (sym is) tt
card-settled-quiet f Waits is = subst IsQuiet (sym is) tt

card-quiet : (f : Following) → IsQuiet (settled_card f).card_is
unfolding settled_card
card-quiet f = card-settled-quiet f f.card_is refl

-- what an end does leaves the other as it stands
did-card : (f : Following) (called : Result TerminalTurn TerminalFault) → (terminal_did f called).card_is ≡ f.card_is
did-card f (Ok (Send block)) = refl
did-card f (Ok Answered) = refl
did-card f (Ok IfsSet) = refl
did-card f (Ok GivenUp) = refl
did-card f (Ok Dead) = refl
did-card f (Err fault) = refl

hears-card : (f : Following) (line : Line) → (terminal_hears f line).card_is ≡ f.card_is
unfolding terminal_hears
hears-card f line =
    let step = terminal_turn f.terminal (terminal_input f.terminal line) in
    did-card (record f { terminal = state_after f.terminal step; lines = f.lines ++ line ∷ [] }) (turn_of step)

card-did-terminal : (f : Following) (called : Result CardTurn CardFault)
    → (card_did f called).terminal_is ≡ f.terminal_is
card-did-terminal f (Ok (CardSend block)) = refl
card-did-terminal f (Ok Asked) = refl
card-did-terminal f (Err fault) = refl

card-hears-terminal : (f : Following) (line : Line) → (card_hears f line).terminal_is ≡ f.terminal_is
unfolding card_hears
card-hears-terminal f line =
    let step = card_turn f.card (card_input f.card line) in
    card-did-terminal (record f { card = card_state_after f.card step; lines = f.lines ++ line ∷ [] })
    (card_turn_of step)

settles-card-is : (f : Following) (s : Standing) → (terminal_settled f s).card_is ≡ f.card_is
settles-card-is f (Sends block) = refl
settles-card-is f Left = refl
settles-card-is f Waits = refl

terminal-settles-card : (f : Following) → (settled_terminal f).card_is ≡ f.card_is
unfolding settled_terminal
terminal-settles-card f = settles-card-is f f.terminal_is

releases-by : (f : Following) (held : Option ℕ)
    → ((released_by f held).card_is ≡ f.card_is) × ((released_by f held).terminal_is ≡ f.terminal_is)
releases-by f None = (refl, refl)
releases-by f (Some m) = (refl, refl)

pub releases-stand : (f : Following) → ((released f).card_is ≡ f.card_is) × ((released f).terminal_is ≡ f.terminal_is)
unfolding released
releases-stand f = releases-by f f.held

card-either : (b : Bool) (f g : Following) (s : Standing) → f.card_is ≡ s → g.card_is ≡ s
    → (if b then f else g).card_is ≡ s
card-either true f g s p q = p
card-either false f g s p q = q

terminal-either : (b : Bool) (f g : Following) (s : Standing) → f.terminal_is ≡ s → g.terminal_is ≡ s
    → (if b then f else g).terminal_is ≡ s
terminal-either true f g s p q = p
terminal-either false f g s p q = q

begins-card : (f : Following) (items : List Item) → (after_begins f items).card_is ≡ f.card_is
unfolding after_begins
begins-card f items =
    let call = application_line f.numbers items in
    let g : Following =
    if terminal_awaits_block f.terminal.waits then terminal_hears f line.Quiet else terminal_hears f call in
    card-either (not (is_waiting f.terminal_is)) f g f.card_is refl
    (card-either (terminal_awaits_block f.terminal.waits) (terminal_hears f line.Quiet) (terminal_hears f call)
    f.card_is (hears-card f line.Quiet) (hears-card f call))

moves-card : (f : Following) (octets : List ℕ) (items : List Item) → (after_moves f octets items).card_is ≡ f.card_is
unfolding after_moves
moves-card f octets items =
    let g = after_begins f items in
    card-either _ (terminal_hears (settled_terminal g) line.Quiet) g f.card_is
    (hears-card (settled_terminal g) line.Quiet ∙ terminal-settles-card g ∙ begins-card f items) (begins-card f items)

host-terminal : (f : Following) (items : List Item) → (after_host f items).terminal_is ≡ f.terminal_is
unfolding after_host
host-terminal f items = terminal-either _ (card_hears f (host_line f.numbers items)) f f.terminal_is
    (card-hears-terminal f (host_line f.numbers items)) refl

-- ---- tests

waits-T : (s : Standing) → is_waiting s ≡ true → (is_followed s ≡ true) × (pend s ≡ None)
waits-T Waits e = (refl, refl)
waits-T Left e = cc
waits-T (Sends block) e = cc

waits-C : (s : Standing) → is_waiting s ≡ true → (is_followed s ≡ true) × (card-pend s ≡ None)
waits-C Waits e = (refl, refl)
waits-C Left e = cc
waits-C (Sends block) e = cc

pub left-both : (a b : Bool) → a && b ≡ true → a ≡ true
left-both true b e = refl
left-both false b e = cc

pub right-both : (a b : Bool) → a && b ≡ true → b ≡ true
right-both true b e = e
right-both false b e = cc

-- an end without a block that doesn't wait was left
was-left : (s : Standing) → IsQuiet s → is_waiting s ≡ false → is_followed s ≡ false
was-left Left q e = refl
was-left Waits q e = cc
was-left (Sends block) q e = absurd q

not-of : (b : Bool) → not b ≡ true → b ≡ false
not-of true e = cc
not-of false e = refl

not-is : (b : Bool) → not b ≡ false → b ≡ true
not-is true e = refl
not-is false e = cc

and-false : (a b : Bool) → a ≡ true → a && b ≡ false → b ≡ false
and-false true b h e = e
and-false false b h e = cc

-- ---- what was seen of an end

-- octets arrived
abbrev Arrives : Arrival → Type 0
Arrives Whole = Unit {0}
Arrives (Changed octets) = Unit {0}
Arrives Lost = ⊥

arrives-by : (same : Bool) (octets : List ℕ) → Arrives (if same then Whole else Changed octets)
arrives-by true octets = tt
arrives-by false octets = tt

abbrev chosen : Bool → List ℕ × Arrival → List ℕ × Arrival → List ℕ × Arrival
chosen met x y = if met then x else y

arrives-met : (met : Bool) (block : Parts) (octets : List ℕ)
    → Arrives (chosen met (spelling block, arrival block octets false) (octets, whole false)).1
arrives-met true block octets = arrives-by (is_spelled block octets) octets
arrives-met false block octets = tt

sent-arrives : (s : Standing) (octets : List ℕ) → Arrives (sent_as s octets false).1
sent-arrives (Sends block) octets = arrives-met (meets block octets) block octets
sent-arrives Left octets = tt
sent-arrives Waits octets = tt

lost-met : (met : Bool) (block : Parts) (octets : List ℕ)
    → (chosen met (spelling block, arrival block octets true) (octets, whole true)).1 ≡ Lost
lost-met true block octets = refl
lost-met false block octets = refl

sent-lost : (s : Standing) (octets : List ℕ) → (sent_as s octets true).1 ≡ Lost
sent-lost (Sends block) octets = lost-met (meets block octets) block octets
sent-lost Left octets = refl
sent-lost Waits octets = refl

from-card-calls : (t : TerminalState) (sent : List ℕ) (a : Arrival) → Arrives a → CallsTerminal t (line.FromCard sent a)
from-card-calls t sent Whole h = refl
from-card-calls t sent (Changed octets) h = refl
from-card-calls t sent Lost h = absurd h

from-terminal-calls : (c : CardState) (sent : List ℕ) (a : Arrival) → Arrives a → CallsCard c (line.FromTerminal sent a)
from-terminal-calls c sent Whole h = refl
from-terminal-calls c sent (Changed octets) h = refl
from-terminal-calls c sent Lost h = absurd h

module _ (start : TerminalState) (begin : CardState) where
  sent-by-T : (met : Bool) (block : Parts) (t : TerminalState) (lines : List Line) (octets : List ℕ) (a w : Arrival)
      → runs terminal_end lines (start, None) ≡ Ok (t, Some (Send block))
      → TerminalAt start begin (if met then Waits else Left) t (lines
      ++ line.FromTerminal (chosen met (spelling block, a) (octets, w)).0
      (chosen met (spelling block, a) (octets, w)).1 ∷ [])
  sent-by-T true block t lines octets a w h =
      λ e.
      runs-on terminal_end lines (line.FromTerminal (spelling block) a ∷ []) (start, None) (t, Some (Send block)) h
      ∙ octets-met (t, None) (spelling block) (line_text (terminal_line t (Send block)))
  sent-by-T false block t lines octets a w h = λ e. cc

  -- the line of what was seen meets the terminal's turn, or the terminal is left
  sent-T : (s : Standing) (t : TerminalState) (lines : List Line) (octets : List ℕ) (lost : Bool)
      → TerminalAt start begin s t lines
      → TerminalAt start begin (standing_after s octets) t (lines
      ++ line.FromTerminal (sent_as s octets lost).0 (sent_as s octets lost).1 ∷ [])
  sent-T (Sends block) t lines octets lost h =
      sent-by-T (meets block octets) block t lines octets (arrival block octets lost) (whole lost) (h refl)
  sent-T Left t lines octets lost h = λ e. cc
  sent-T Waits t lines octets lost h = λ e. cc

  sent-by-C : (met : Bool) (block : Parts) (c : CardState) (lines : List Line) (octets : List ℕ) (a w : Arrival)
      → runs card_end lines (begin, None) ≡ Ok (c, Some (CardSend block))
      → CardAt start begin (if met then Waits else Left) c (lines
      ++ line.FromCard (chosen met (spelling block, a) (octets, w)).0
      (chosen met (spelling block, a) (octets, w)).1 ∷ [])
  sent-by-C true block c lines octets a w h =
      λ e.
      runs-on card_end lines (line.FromCard (spelling block) a ∷ []) (begin, None) (c, Some (CardSend block)) h
      ∙ octets-met (c, None) (spelling block) (line_text (card_line c (CardSend block)))
  sent-by-C false block c lines octets a w h = λ e. cc

  sent-C : (s : Standing) (c : CardState) (lines : List Line) (octets : List ℕ) (lost : Bool)
      → CardAt start begin s c lines
      → CardAt start begin (standing_after s octets) c (lines
      ++ line.FromCard (sent_as s octets lost).0 (sent_as s octets lost).1 ∷ [])
  sent-C (Sends block) c lines octets lost h =
      sent-by-C (meets block octets) block c lines octets (arrival block octets lost) (whole lost) (h refl)
  sent-C Left c lines octets lost h = λ e. cc
  sent-C Waits c lines octets lost h = λ e. cc

  waiting-T : (f : Following) → is_waiting f.terminal_is ≡ true → GT start begin f
      → runs terminal_end f.lines (start, None) ≡ Ok (f.terminal, None)
  waiting-T f e h =
      let w = waits-T f.terminal_is e in
      h w.0 ∙ ap (λ (p : Option TerminalTurn). Ok (f.terminal, p)) w.1

  waiting-C : (f : Following) → is_waiting f.card_is ≡ true → GC start begin f
      → runs card_end f.lines (begin, None) ≡ Ok (f.card, None)
  waiting-C f e h =
      let w = waits-C f.card_is e in
      h w.0 ∙ ap (λ (p : Option CardTurn). Ok (f.card, p)) w.1

  good-either : (b : Bool) (f g : Following) → (b ≡ true → Good start begin f) → (b ≡ false → Good start begin g)
      → Good start begin (if b then f else g)
  good-either true f g p q = p refl
  good-either false f g p q = q refl

  -- a call of the terminal, which is nothing to the card
  good-hears : (f : Following) (line : Line) → is_waiting f.terminal_is ≡ true → CallsTerminal f.terminal line
      → PassesCard line → Good start begin f → Good start begin (terminal_hears f line)
  good-hears f line e role pass h = record {
    terminal = hears-T start begin f line role (waiting-T f e h.terminal);
    card = hears-C start begin f line (more-C start begin f.card_is f.card f.lines line pass h.card);
  }

  good-host : (f : Following) (items : List Item) → Good start begin f → Good start begin (after_host f items)
  unfolding after_host
  good-host f items h =
      let call = host_line f.numbers items in
      good-either (is_waiting f.card_is && not (card_awaits_block f.card.waits)) (card_hears f call) f
      (λ e. record {
        terminal = card-hears-T start begin f call (more-T start begin f.terminal_is f.terminal f.lines call
            (host-passes f.numbers items) h.terminal);
        card = card-hears-C start begin f call (host-calls f.card f.numbers items)
            (waiting-C f (left-both (is_waiting f.card_is) (not (card_awaits_block f.card.waits)) e) h.card);
      })
      (λ e. h)

  good-begins : (f : Following) (items : List Item) → Good start begin f → Good start begin (after_begins f items)
  unfolding after_begins
  good-begins f items h =
      let call = application_line f.numbers items in
      let g : Following =
      if terminal_awaits_block f.terminal.waits then terminal_hears f line.Quiet else terminal_hears f call in
      good-either (not (is_waiting f.terminal_is)) f g (λ e. h)
      (λ e. good-either (terminal_awaits_block f.terminal.waits) (terminal_hears f line.Quiet) (terminal_hears f call)
      (λ a. good-hears f line.Quiet (not-is (is_waiting f.terminal_is) e) refl quiet-passes h)
      (λ a. good-hears f call (not-is (is_waiting f.terminal_is) e) (application-calls f.terminal f.numbers items)
      (application-passes f.numbers items) h))

  settled-waits : (f : Following) (s : Standing) (octets : List ℕ) → f.terminal_is ≡ s → misses s octets ≡ true
      → is_waiting (terminal_settled f s).terminal_is ≡ true
  settled-waits f (Sends block) octets is e = refl
  settled-waits f Left octets is e = cc
  settled-waits f Waits octets is e = cc

  misses-waits : (f : Following) (octets : List ℕ) → misses f.terminal_is octets ≡ true
      → is_waiting (settled_terminal f).terminal_is ≡ true
  unfolding settled_terminal
  misses-waits f octets e = settled-waits f f.terminal_is octets refl e

  good-moves : (f : Following) (octets : List ℕ) (items : List Item) → Good start begin f
      → Good start begin (after_moves f octets items)
  unfolding after_moves
  good-moves f octets items h =
      let g = after_begins f items in
      let has_waited = is_waiting f.terminal_is && terminal_awaits_block f.terminal.waits in
      let k = good-begins f items h in
      good-either (not has_waited && misses g.terminal_is octets) (terminal_hears (settled_terminal g) line.Quiet) g
      (λ e. good-hears (settled_terminal g) line.Quiet
      (misses-waits g octets (right-both (not has_waited) (misses g.terminal_is octets) e)) refl quiet-passes
      (good-settles-terminal start begin g k))
      (λ e. k)

  -- ---- what goes to an end

  left-C : (s : Standing) (c : CardState) (lines : List Line) → is_followed s ≡ false → CardAt start begin s c lines
  left-C s c lines l = λ e. let no : true ≡ false = sym e ∙ l in cc

  left-T : (s : Standing) (t : TerminalState) (lines : List Line) → is_followed s ≡ false
      → TerminalAt start begin s t lines
  left-T s t lines l = λ e. let no : true ≡ false = sym e ∙ l in cc

  -- the line of a block of the terminal, which was seen
  reached-C : (f : Following) (line : Line) (lost : Bool) → IsQuiet f.card_is
      → (lost ≡ false → CallsCard f.card line) → (lost ≡ true → PassesCard line) → GC start begin f
      → GC start begin (reaches_card f line lost)
  unfolding reaches_card
  reached-C f line true q role pass h = more-C start begin f.card_is f.card f.lines line (pass refl) h
  reached-C f line false q role pass h = by (is_waiting f.card_is) refl
    where
      by : (b : Bool) → is_waiting f.card_is ≡ b → GC start begin (if b then card_hears f line else writes f line)
      by true e = card-hears-C start begin f line (role refl) (waiting-C f e h)
      by false e = left-C f.card_is f.card (f.lines ++ line ∷ []) (was-left f.card_is q e)

  reached-T : (f : Following) (line : Line) (lost : Bool)
      → TerminalAt start begin f.terminal_is f.terminal (f.lines ++ line ∷ [])
      → GT start begin (reaches_card f line lost)
  unfolding reaches_card
  reached-T f line lost h = by (not lost && is_waiting f.card_is)
    where
      by : (b : Bool) → GT start begin (if b then card_hears f line else writes f line)
      by true = card-hears-T start begin f line h
      by false = h

  heard-T : (f : Following) (line : Line) (lost : Bool) → IsQuiet f.terminal_is
      → (lost ≡ false → CallsTerminal f.terminal line) → (lost ≡ true → PassesTerminal line) → GT start begin f
      → GT start begin (reaches_terminal f line lost)
  unfolding reaches_terminal
  heard-T f line true q role pass h = more-T start begin f.terminal_is f.terminal f.lines line (pass refl) h
  heard-T f line false q role pass h = by (is_waiting f.terminal_is) refl
    where
      by : (b : Bool) → is_waiting f.terminal_is ≡ b
          → GT start begin (if b then terminal_hears f line else writes f line)
      by true e = hears-T start begin f line (role refl) (waiting-T f e h)
      by false e = left-T f.terminal_is f.terminal (f.lines ++ line ∷ []) (was-left f.terminal_is q e)

  heard-C : (f : Following) (line : Line) (lost : Bool) → CardAt start begin f.card_is f.card (f.lines ++ line ∷ [])
      → GC start begin (reaches_terminal f line lost)
  unfolding reaches_terminal
  heard-C f line lost h = by (not lost && is_waiting f.terminal_is)
    where
      by : (b : Bool) → GC start begin (if b then terminal_hears f line else writes f line)
      by true = hears-C start begin f line h
      by false = h

  -- ---- items

  lost-T : (sent : List ℕ) (a : Arrival) → a ≡ Lost → PassesTerminal (line.FromCard sent a)
  lost-T sent a e = subst (λ (x : Arrival). PassesTerminal (line.FromCard sent x)) (sym e) (lost-passes sent)

  lost-C : (sent : List ℕ) (a : Arrival) → a ≡ Lost → PassesCard (line.FromTerminal sent a)
  lost-C sent a e = subst (λ (x : Arrival). PassesCard (line.FromTerminal sent x)) (sym e) (card-lost-passes sent)

  seen-calls-C : (c : CardState) (s : Standing) (octets : List ℕ) (lost : Bool) → lost ≡ false
      → CallsCard c (line.FromTerminal (sent_as s octets lost).0 (sent_as s octets lost).1)
  seen-calls-C c s octets false e = from-terminal-calls c _ _ (sent-arrives s octets)
  seen-calls-C c s octets true e = cc

  seen-passes-C : (s : Standing) (octets : List ℕ) (lost : Bool) → lost ≡ true
      → PassesCard (line.FromTerminal (sent_as s octets lost).0 (sent_as s octets lost).1)
  seen-passes-C s octets true e = lost-C (sent_as s octets true).0 (sent_as s octets true).1 (sent-lost s octets)
  seen-passes-C s octets false e = cc

  seen-calls-T : (t : TerminalState) (s : Standing) (octets : List ℕ) (lost : Bool) → lost ≡ false
      → CallsTerminal t (line.FromCard (sent_as s octets lost).0 (sent_as s octets lost).1)
  seen-calls-T t s octets false e = from-card-calls t _ _ (sent-arrives s octets)
  seen-calls-T t s octets true e = cc

  seen-passes-T : (s : Standing) (octets : List ℕ) (lost : Bool) → lost ≡ true
      → PassesTerminal (line.FromCard (sent_as s octets lost).0 (sent_as s octets lost).1)
  seen-passes-T s octets true e = lost-T (sent_as s octets true).0 (sent_as s octets true).1 (sent-lost s octets)
  seen-passes-T s octets false e = cc

  good-from-terminal : (f : Following) (octets : List ℕ) (lost : Bool) (items : List Item) → Good start begin f
      → Good start begin (from_terminal f octets lost items)
  unfolding from_terminal
  good-from-terminal f octets lost items h =
      let a = after_host f items in
      let b = settled_card a in
      let m = after_moves b octets items in
      let d = released m in
      let good = good-releases start begin m (good-moves b octets items (good-settles-card start begin a
      (good-host f items h))) in
      let quiet = subst IsQuiet (sym ((releases-stand m).0 ∙ moves-card b octets items)) (card-quiet a) in
      let sent = sent_as d.terminal_is octets lost in
      let g : Following = record d { terminal_is = standing_after d.terminal_is octets } in
      let line = line.FromTerminal sent.0 sent.1 in
      record {
        terminal = reached-T g line lost (sent-T d.terminal_is d.terminal d.lines octets lost good.terminal);
        card = reached-C g line lost quiet (seen-calls-C d.card d.terminal_is octets lost)
            (seen-passes-C d.terminal_is octets lost) good.card;
      }

  good-from-card : (f : Following) (octets : List ℕ) (lost : Bool) (items : List Item) → Good start begin f
      → Good start begin (from_card f octets lost items)
  unfolding from_card
  good-from-card f octets lost items h =
      let a = settled_terminal f in
      let m = after_host a items in
      let d = released m in
      let good = good-releases start begin m (good-host a items (good-settles-terminal start begin f h)) in
      let quiet = subst IsQuiet (sym ((releases-stand m).1 ∙ host-terminal a items)) (terminal-quiet f) in
      let sent = sent_as d.card_is octets lost in
      let g : Following = record d { card_is = standing_after d.card_is octets } in
      let line = line.FromCard sent.0 sent.1 in
      record {
        terminal = heard-T g line lost quiet (seen-calls-T d.terminal d.card_is octets lost)
            (seen-passes-T d.card_is octets lost) good.terminal;
        card = heard-C g line lost (sent-C d.card_is d.card d.lines octets lost good.card);
      }

  good-quiet : (f : Following) (items : List Item) → Good start begin f → Good start begin (after_quiet f items)
  unfolding after_quiet
  good-quiet f items h =
      let a = after_host f items in
      let b = settled_card a in
      let m = settled_terminal b in
      let d = released m in
      let good = good-releases start begin m (good-settles-terminal start begin b (good-settles-card start begin a
      (good-host f items h))) in
      let quiet = subst IsQuiet (sym (releases-stand m).1) (terminal-quiet b) in
      record {
        terminal = heard-T d line.Quiet false quiet (λ e. refl) (λ e. cc) good.terminal;
        card = heard-C d line.Quiet false
            (more-C start begin d.card_is d.card d.lines line.Quiet quiet-passes good.card);
      }

  good-item : (f : Following) (items : List Item) (item : Item) → Good start begin f
      → Good start begin (after_item f items item)
  good-item f items (Block side.Terminal octets lost) h =
      let g = good-from-terminal f octets lost items h in record { terminal = g.terminal; card = g.card }
  good-item f items (Block side.Card octets lost) h =
      let g = good-from-card f octets lost items h in record { terminal = g.terminal; card = g.card }
  good-item f items Quiet h = good-quiet f items h
  good-item f items (Moment m) h =
      let g = good-releases start begin f h in record { terminal = g.terminal; card = g.card }

  good-items : (f : Following) (items : List Item) → Good start begin f → Good start begin (after_items f items)
  good-items f [] h = h
  good-items f (item ∷ items) h = good-items (after_item f (item ∷ items) item) items
      (good-item f (item ∷ items) item h)

-- ---- the end

begins : (ifsc : ℕ) → Good (new_terminal ifsc) (new_card ifsc) (begun ifsc)
begins ifsc = record { terminal = λ e. refl; card = λ e. refl }

quiet-pend : (s : Standing) → IsQuiet s → pend s ≡ None
quiet-pend Left q = refl
quiet-pend Waits q = refl
quiet-pend (Sends block) q = absurd q

quiet-card-pend : (s : Standing) → IsQuiet s → card-pend s ≡ None
quiet-card-pend Left q = refl
quiet-card-pend Waits q = refl
quiet-card-pend (Sends block) q = absurd q

-- an end that is followed still is where what it was to send is lost
followed-T : (f : Following) (s : Standing) → f.terminal_is ≡ s → is_followed f.terminal_is ≡ true
    → is_followed (terminal_settled f s).terminal_is ≡ true
followed-T f (Sends block) is e = refl
followed-T f Left is e = e
followed-T f Waits is e = e

followed-settled : (f : Following) → is_followed f.terminal_is ≡ true
    → is_followed (settled_terminal f).terminal_is ≡ true
unfolding settled_terminal
followed-settled f e = followed-T f f.terminal_is refl e

followed-C : (f : Following) (s : Standing) → f.card_is ≡ s → is_followed f.card_is ≡ true
    → is_followed (card_settled f s).card_is ≡ true
followed-C f (Sends block) is e = refl
followed-C f Left is e = e
followed-C f Waits is e = e

card-followed-settled : (f : Following) → is_followed f.card_is ≡ true → is_followed (settled_card f).card_is ≡ true
unfolding settled_card
card-followed-settled f e = followed-C f f.card_is refl e

settled-stands : (f : Following) (s : Standing) → (card_settled f s).terminal_is ≡ f.terminal_is
settled-stands f (Sends block) = refl
settled-stands f Left = refl
settled-stands f Waits = refl

card-settles-terminal : (f : Following) → (settled_card f).terminal_is ≡ f.terminal_is
unfolding settled_card
card-settles-terminal f = settled-stands f f.card_is

module _ (ifsc : ℕ) (items : List Item) where
  abbrev all : Following
  all = after_items (begun ifsc) items

  abbrev last : Following
  last = settled_card (settled_terminal all)

  good-end : Good (new_terminal ifsc) (new_card ifsc) (released last)
  good-end =
      let start = new_terminal ifsc in
      let begin = new_card ifsc in
      good-releases start begin last (good-settles-card start begin (settled_terminal all)
      (good-settles-terminal start begin all (good-items start begin (begun ifsc) items (begins ifsc))))

  terminal-end : is_followed all.terminal_is ≡ true
      → runs terminal_end (released last).lines (new_terminal ifsc, None) ≡ Ok ((released last).terminal, None)
  terminal-end e =
      let stands : (released last).terminal_is ≡ (settled_terminal all).terminal_is =
      (releases-stand last).1 ∙ card-settles-terminal (settled_terminal all) in
      let followed = subst (λ (s : Standing). is_followed s ≡ true) (sym stands) (followed-settled all e) in
      let quiet = subst IsQuiet (sym stands) (terminal-quiet all) in
      good-end.terminal followed
      ∙ ap (λ (p : Option TerminalTurn). Ok ((released last).terminal, p))
      (quiet-pend (released last).terminal_is quiet)

  card-at-end : is_followed all.card_is ≡ true
      → runs card_end (released last).lines (new_card ifsc, None) ≡ Ok ((released last).card, None)
  card-at-end e =
      let stands : (released last).card_is ≡ last.card_is = (releases-stand last).0 in
      let before = subst (λ (s : Standing). is_followed s ≡ true) (sym (terminal-settles-card all)) e in
      let followed = subst (λ (s : Standing). is_followed s ≡ true) (sym stands)
      (card-followed-settled (settled_terminal all) before) in
      let quiet = subst IsQuiet (sym stands) (card-quiet (settled_terminal all)) in
      good-end.card followed
      ∙ ap (λ (p : Option CardTurn). Ok ((released last).card, p)) (quiet-card-pend (released last).card_is quiet)

-- an end that is followed to the end of what was seen replays the recording
pub followed-replays : (side : Side) (ifsc : ℕ) (items : List Item)
    → is_followed (standing_of side (after_items (begun ifsc) items)) ≡ true
    → replay_from (Ok ifsc) (lines_of ifsc items) side ≡ None
unfolding lines_of
followed-replays side.Terminal ifsc items e =
    let d = released (last ifsc items) in
    replays-none terminal_end d.lines 3 (new_terminal ifsc, None) d.terminal (terminal-end ifsc items e)
followed-replays side.Card ifsc items e =
    let d = released (last ifsc items) in
    replays-none card_end d.lines 3 (new_card ifsc, None) d.card (card-at-end ifsc items e)
