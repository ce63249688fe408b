-- Lines that are replayed one after another, and the line that tells the last turn.
use Rattle.std.proofs.Common.{◌≡◌, ℕ, ◌+◌, ◌++◌, List, [], ◌∷◌, refl, sym, ap, ◌∙◌, append_assoc, Bool, true, false, Option, None, unwrap_or, Result, Ok, Err}
use Rattle.std.specs.Prelude.{bytes_eq, if◌then◌else◌}
use Rattle.std.proofs.lemmas.Slice.Eq.{bytes_eq-Decides}
use Rattle.block_core.specs.Block.{spelling}
use Rattle.t1_core.specs.Terminal.{TerminalState}
use Rattle.t1_core.specs.Card.{CardState}
use Rattle.t1_core.specs.Link.{Event, run, tables, Link, happens, nothing, loses}
use Rattle.t1_core.specs.Promises.{AllHandOctets}
use Rattle.t1_core.specs.declared.turns.TerminalTurn.TheVariants.{Send, Answered, IfsSet as SetIfs, GivenUp as GaveUp, Dead as Died}
use Rattle.t1_core.specs.declared.turns.CardTurn.TheVariants.{Send as Sends, Asked as AskedHost}
use Rattle.exchange_text.specs.Exchange.{are_proper}
use Rattle.exchange_core.specs.Replay.{End, by_role, replay_lines, goes_on, terminal_end, terminal_line, card_end, card_line}
use Rattle.exchange_text.specs.Text.{line_text}
use Rattle.t1_core.specs.CardViews.{owed}
use Rattle.exchange_core.specs.Recording.{runs, onward, telling, terminal_pending, card_pending, events_of, line_events, under_way_of, IsSent}
use Rattle.exchange_text.specs.declared.exchange.Version.TheVariants.{One}
use Rattle.exchange_text.specs.declared.line.Line.{Line}
use Rattle.exchange_text.specs.declared.line.Line.TheVariants.{Moment, Note}
use Rattle.exchange_core.specs.declared.event.LastTurn.{LastTurn}
use Rattle.exchange_core.specs.declared.event.LastTurn.TheVariants.{Nothing, Terminal, Card}

-- ---- any end

runs-step : {S T : Type 0} (end : End S T) (lines more : List Line) (step : Result (S × Option T) (List ℕ))
    (after : S × Option T)
    → ((at : S × Option T) → runs end lines at ≡ Ok after → runs end (lines ++ more) at ≡ runs end more after)
    → onward (λ at. runs end lines at) step ≡ Ok after
    → onward (λ at. runs end (lines ++ more) at) step ≡ runs end more after
runs-step end lines more (Ok at) after h e = h at e
runs-step end lines more (Err text) after h e = cc

-- lines, then more of them
pub runs-on : {S T : Type 0} (end : End S T) (lines more : List Line) (at after : S × Option T)
    → runs end lines at ≡ Ok after → runs end (lines ++ more) at ≡ runs end more after
runs-on end [] more at after e = let same : at ≡ after = cc in ap (λ x. runs end more x) same
runs-on end (line ∷ lines) more at after e =
    runs-step end lines more (by_role end at.0 at.1 line (end.role at.0 line)) after
    (λ x. runs-on end lines more x after) e

replays-step : {S T : Type 0} (end : End S T) (lines : List Line) (number : ℕ) (step : Result (S × Option T) (List ℕ))
    (s : S)
    → ((at : S × Option T) → runs end lines at ≡ Ok (s, None) → replay_lines end lines (number + 1) at.0 at.1 ≡ None)
    → onward (λ at. runs end lines at) step ≡ Ok (s, None)
    → goes_on (λ after. replay_lines end lines (number + 1) after.0 after.1) number step ≡ None
replays-step end lines number (Ok at) s h e = h at e
replays-step end lines number (Err text) s h e = cc

-- lines that leave no turn untold differ nowhere
pub replays-none : {S T : Type 0} (end : End S T) (lines : List Line) (number : ℕ) (at : S × Option T) (s : S)
    → runs end lines at ≡ Ok (s, None) → replay_lines end lines number at.0 at.1 ≡ None
replays-none end [] number at s e = let same : at ≡ (s, None) = cc in rw same refl
replays-none end (line ∷ lines) number at s e =
    replays-step end lines number (by_role end at.0 at.1 line (end.role at.0 line)) s
    (λ x. replays-none end lines (number + 1) x s) e

-- ---- the line of the last turn

-- octets compare as equal to themselves
pub equal-octets : (b : List ℕ) → bytes_eq b b ≡ true
equal-octets b = (bytes_eq-Decides b b).1 refl

met : {A : Type 0} (test : Bool) (x y : Result A (List ℕ)) → test ≡ true → (if test then x else y) ≡ x
met true x y e = refl
met false x y e = cc

-- a line with the octets that the end gives meets its turn
pub meets : {S T : Type 0} (at : S × Option T) (b text : List ℕ)
    → onward {A = S × Option T} (λ x. Ok x) (if bytes_eq b b then Ok at else Err text) ≡ Ok at
meets {S} {T} at b text = ap (λ x. onward {A = S × Option T} (λ y. Ok y) x)
    (met {A = S × Option T} (bytes_eq b b) (Ok at) (Err text) (equal-octets b))

-- it is met at the end whose turn it was, and passes the other one
pub tells-terminal : (t : TerminalState) (c : CardState) (last : LastTurn)
    → runs terminal_end (telling t c last) (t, terminal_pending last) ≡ Ok (t, None)
tells-terminal t c Nothing = refl
tells-terminal t c (Terminal (Send block)) = meets (t, None) (spelling block) (line_text (terminal_line t (Send block)))
tells-terminal t c (Terminal Answered) = meets (t, None) (unwrap_or t.answered [])
    (line_text (terminal_line t Answered))
tells-terminal t c (Terminal SetIfs) = refl
tells-terminal t c (Terminal GaveUp) = refl
tells-terminal t c (Terminal Died) = refl
tells-terminal t c (Card (Sends block)) = refl
tells-terminal t c (Card AskedHost) = refl

-- and so at the card
pub tells-card : (t : TerminalState) (c : CardState) (last : LastTurn)
    → runs card_end (telling t c last) (c, card_pending last) ≡ Ok (c, None)
tells-card t c Nothing = refl
tells-card t c (Terminal (Send block)) = refl
tells-card t c (Terminal Answered) = refl
tells-card t c (Terminal SetIfs) = refl
tells-card t c (Terminal GaveUp) = refl
tells-card t c (Terminal Died) = refl
tells-card t c (Card (Sends block)) = meets (c, None) (spelling block) (line_text (card_line c (Sends block)))
tells-card t c (Card AskedHost) = meets (c, None) (unwrap_or (owed c c.waits) []) (line_text (card_line c AskedHost))

-- it tells an event where it has a block
pub rests : (t : TerminalState) (c : CardState) (last : LastTurn) → under_way_of last ≡ nothing
    → events_of (telling t c last) ≡ []
rests t c Nothing e = refl
rests t c (Terminal (Send block)) e = cc
rests t c (Terminal Answered) e = refl
rests t c (Terminal SetIfs) e = refl
rests t c (Terminal GaveUp) e = refl
rests t c (Terminal Died) e = refl
rests t c (Card (Sends block)) e = cc
rests t c (Card AskedHost) e = refl

-- where a block is under way, it tells that this is lost
pub loss : (t : TerminalState) (c : CardState) (last : LastTurn) → IsSent (under_way_of last)
    → events_of (telling t c last) ≡ loses ∷ []
loss t c Nothing h = absurd h
loss t c (Terminal (Send block)) h = refl
loss t c (Terminal Answered) h = absurd h
loss t c (Terminal SetIfs) h = absurd h
loss t c (Terminal GaveUp) h = absurd h
loss t c (Terminal Died) h = absurd h
loss t c (Card (Sends block)) h = refl
loss t c (Card AskedHost) h = absurd h

-- and it may come in an exchange of version 1
pub proper-told : (t : TerminalState) (c : CardState) (last : LastTurn) → are_proper One 0 (telling t c last) ≡ true
proper-told t c Nothing = refl
proper-told t c (Terminal (Send block)) = refl
proper-told t c (Terminal Answered) = refl
proper-told t c (Terminal SetIfs) = refl
proper-told t c (Terminal GaveUp) = refl
proper-told t c (Terminal Died) = refl
proper-told t c (Card (Sends block)) = refl
proper-told t c (Card AskedHost) = refl

-- ---- lines after lines

-- lines and more of them may come in an exchange of version 1, where both may
pub proper-on : (lines more : List Line) → are_proper One 0 lines ≡ true → are_proper One 0 more ≡ true
    → are_proper One 0 (lines ++ more) ≡ true
proper-on [] more h k = k
proper-on (Moment moment ∷ lines) more h k = cc
proper-on (Note text ∷ lines) more h k = cc
proper-on (line ∷ lines) more h k = proper-on lines more h k

-- they tell the events of the first and then those of the others
pub events-on : (lines more : List Line) → events_of (lines ++ more) ≡ events_of lines ++ events_of more
events-on [] more = refl
events-on (line ∷ lines) more = ap (λ x. line_events line ++ x) (events-on lines more)
    ∙ sym (append_assoc (line_events line) (events_of lines) (events_of more))

-- events and more of them happen one after the other
pub run-on : (es more : List Event) (l : Link) → run tables (es ++ more) l ≡ run tables more (run tables es l)
run-on [] more l = refl
run-on (e ∷ es) more l = run-on es more (happens tables l e)

-- their calls hand over octets, where those of both do
pub octets-on : (es more : List Event) → AllHandOctets es → AllHandOctets more → AllHandOctets (es ++ more)
octets-on [] more h k = k
octets-on (e ∷ es) more h k = (h.0, octets-on es more h.1 k)
