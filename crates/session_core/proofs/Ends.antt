-- Messages as slices, and what a session does after its line.
use Rattle.std.proofs.Common.{◌≡◌, ℕ, List, length, Bool, Option, Some, None, Ok, refl, sym, ap, subst}
use denote.Ref.{Bor}
use Rattle.t1_core.specs.Views.{IsSlice}
use Rattle.line_core.specs.Bursts.{HasHeard}
use Rattle.t1_core.specs.Card.{CardState}
use Rattle.t1_core.specs.Terminal.{TerminalState, TerminalInput, terminal_turn, turn_of, state_after}
use Rattle.t1_core.specs.Put.{IsTerminalPut}
use Rattle.t1_core.specs.declared.turns.EncodedTerminalTurn.{EncodedTerminalTurn}
use Rattle.session_core.specs.declared.lines.Start.{Start}
use Rattle.session_core.specs.declared.setup.Limits.{Limits}
use Rattle.session_core.specs.declared.event.Next.{Next}
use Rattle.session_core.specs.declared.event.Next.TheVariants.{Quiet}
use Rattle.session_core.specs.declared.progress.Rules.{Rules}
use Rattle.session_core.specs.declared.lines.Line.{Line}
use Rattle.session_core.specs.declared.action.Action.{Action}
use Rattle.session_core.specs.Cards as cards
use Rattle.session_core.specs.Wire.{seen, Doing, Step, ruled, serves, forever}
use Rattle.session_core.specs.Lines.{GoesTo, first_of, held_over}
use Rattle.session_core.specs.Actions.{count_of, action_of}
use Rattle.session_core.specs.Terminals.{IsSent, IsTurned, TurnsTo}

pub some-count : (octets : Bor (List ℕ)) (message : Option (List ℕ)) → IsSlice (Some octets) message
    → length octets.now ≡ count_of message
some-count octets None h = absurd h
some-count octets (Some m) h = ap length h

pub none-count : (message : Option (List ℕ)) → IsSlice None message → 0 ≡ count_of message
none-count None h = refl
none-count (Some m) h = absurd h

-- a card waits again after a wait that ended without octets
pub waits-again : (step : Step) (rules r : Rules) (p : Doing) (line : Line) (next : Next) (own now : ℕ)
    (action : Action) → r ≡ rules → p ≡ step.progress
    → GoesTo (serves (ruled r) (record p { first = forever }) step.burst now) r line next
    → action ≡ action_of next own
    → IsSent (serves (ruled rules) (record step.progress { first = forever }) step.burst now) rules own line action
waits-again step rules r p line next own now action er ep g e =
    let to : GoesTo (serves (ruled rules) (record step.progress { first = forever }) step.burst now) rules line next =
    rw ep at (rw er at g) in
    record { moved = to.0; action_is = rw to.1 at e }

pub card-quiet : (step : Step) (rules : Rules) (c : CardState) (takes_short : Bool) (granted now : ℕ)
    (line line_after : Line) (own : ℕ) (out : List ℕ) (next : Next) (action : Action)
    → GoesTo step rules line Quiet
    → ((burst : List ℕ) → HasHeard line.framer burst
    → GoesTo (serves (ruled line.rules) (first_of line forever) burst now) line.rules line_after next)
    → action ≡ action_of next own
    → cards.IsStepped step.next step rules c takes_short granted granted now c line_after own own out out (Ok action)
card-quiet step rules c takes_short granted now line line_after own out next action g again e =
    let heard : HasHeard line.framer step.burst =
    subst (λ (n : Next). HasHeard line.framer (held_over n step.progress.is_spoiled step.burst)) (sym g.1)
    g.0.burst_is in
    subst (λ (n : Next). cards.IsStepped n step rules c takes_short granted granted now c line_after own own out out
    (Ok action)) g.1 (
      refl,
      refl,
      refl,
      refl,
      action,
      refl,
      waits-again step rules line.rules (seen line.progress) line_after next own now action g.0.rules_are g.0.progress
          (again step.burst heard) e,
    )

-- a terminal that takes an input, and whose turn isn't refused
pub turns-ok : (t : TerminalState) (input : TerminalInput) (start : Start) (limits : Limits) (rules : Rules)
    (p : Doing) (burst : List ℕ) (now : ℕ) (t_after : TerminalState) (line : Line) (own own_after : ℕ)
    (out out_after : List ℕ) (turn : EncodedTerminalTurn) (answer : ℕ) (action : Action)
    → IsTerminalPut (turn_of (terminal_turn t input)) out out_after (Ok turn)
    → t_after ≡ state_after t (terminal_turn t input) → answer ≡ count_of t_after.answered
    → IsTurned turn answer start limits rules p burst now line own own_after action
    → TurnsTo t input start limits rules p burst now t_after line own own_after out out_after (Ok action)
turns-ok t input start limits rules p burst now t_after line own own_after out out_after turn answer action put state e
    turned =
    record { acted = Ok turn; put = put; state = state; after = (action, refl, rw e at turned) }
