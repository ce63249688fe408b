-- A session that begins with RESYNCH, and steps of which the end of a session takes no part.
use Rattle.std.proofs.Common.{◌≡◌, ℕ, List, [], Bool, false, Option, Some, None, Result, Ok, refl, subst}
use Rattle.t1_core.specs.Came.{quiet}
use Rattle.t1_core.specs.Terminal.{TerminalState, takes}
use Rattle.t1_core.specs.declared.turns.TerminalFault.{TerminalFault}
use Rattle.session_core.specs.declared.action.Action.{Action}
use Rattle.session_core.specs.declared.event.Next.{Next}
use Rattle.session_core.specs.declared.event.Next.TheVariants.{Send, Wait, Heard, Quiet, Failed, UsedUp, Echo, Order}
use Rattle.session_core.specs.declared.progress.Rules.{Rules}
use Rattle.session_core.specs.declared.lines.Line.{Line}
use Rattle.session_core.specs.declared.lines.Start.TheVariants.{Clear}
use Rattle.session_core.specs.Wire.{Doing, Step, fresh, ruled}
use Rattle.session_core.specs.Lines.{GoesTo, IsMoved}
use Rattle.session_core.specs.Actions.{action_of, is_for_end}
use Rattle.session_core.specs.Setup.{no_limits}
use Rattle.session_core.specs.Terminals.{TurnsTo, IsStepped, asking_resynch}
use Rattle.session_core.specs.Cards as cards
use Rattle.t1_core.specs.Card.{CardState}

-- the terminal and its line are those that were just begun
pub resynched : (t begun : TerminalState) (r rules : Rules) (p : Doing) (now : ℕ) (t_after : TerminalState)
    (line : Line) (own own_after : ℕ) (out out_after : List ℕ) (result : Result Action TerminalFault)
    → t ≡ begun → r ≡ rules → p ≡ fresh (ruled rules)
    → TurnsTo (asking_resynch t) (takes quiet) Clear no_limits r p [] now t_after line own own_after out out_after
    result
    → TurnsTo (asking_resynch begun) (takes quiet) Clear no_limits rules (fresh (ruled rules)) [] now t_after line own
    own_after out out_after result
resynched t begun r rules p now t_after line own own_after out out_after result et er ep g =
    rw ep at (rw er at (rw et at g))

pub same-rules : (o : Option Rules) (r s : Rules) → o ≡ Some r → o ≡ Some s → r ≡ s
same-rules o r s e f = cc

pub not-none : (o : Option Rules) (r : Rules) → o ≡ Some r → o ≡ None → ⊥
not-none o r e f = cc

-- ---- the line goes on alone

moved : (next : Next) (step : Step) (rules : Rules) (t : TerminalState) (now : ℕ) (line : Line) (own : ℕ)
    (out : List ℕ) → is_for_end next ≡ false → IsMoved step rules line
    → IsStepped next step rules t now t line own own out out (Ok (action_of next own))
moved Send step rules t now line own out alone m = (m, refl, refl, refl, refl)
moved (Wait time) step rules t now line own out alone m = (m, refl, refl, refl, refl)
moved Heard step rules t now line own out alone m = cc
moved Quiet step rules t now line own out alone m = cc
moved Failed step rules t now line own out alone m = (m, refl, refl, refl, refl)
moved UsedUp step rules t now line own out alone m = (m, refl, refl, refl, refl)
moved Echo step rules t now line own out alone m = (m, refl, refl, refl, refl)
moved Order step rules t now line own out alone m = (m, refl, refl, refl, refl)

-- a step that the terminal takes no part in
pub goes-alone : (next : Next) (step : Step) (rules : Rules) (t : TerminalState) (now : ℕ) (line : Line) (own : ℕ)
    (out : List ℕ) → is_for_end next ≡ false → GoesTo step rules line next
    → IsStepped step.next step rules t now t line own own out out (Ok (action_of next own))
goes-alone next step rules t now line own out alone g =
    subst (λ (n : Next). IsStepped n step rules t now t line own own out out (Ok (action_of next own))) g.1
    (moved next step rules t now line own out alone g.0)

card-moved : (next : Next) (step : Step) (rules : Rules) (c : CardState) (takes_short : Bool) (granted now : ℕ)
    (line : Line) (own : ℕ) (out : List ℕ) → is_for_end next ≡ false → IsMoved step rules line
    → cards.IsStepped next step rules c takes_short granted granted now c line own own out out
    (Ok (action_of next own))
card-moved Send step rules c takes_short granted now line own out alone m = (refl, refl, refl, refl, m, refl)
card-moved (Wait time) step rules c takes_short granted now line own out alone m = (refl, refl, refl, refl, m, refl)
card-moved Heard step rules c takes_short granted now line own out alone m = cc
card-moved Quiet step rules c takes_short granted now line own out alone m = cc
card-moved Failed step rules c takes_short granted now line own out alone m = (refl, refl, refl, refl, m, refl)
card-moved UsedUp step rules c takes_short granted now line own out alone m = (refl, refl, refl, refl, m, refl)
card-moved Echo step rules c takes_short granted now line own out alone m = (refl, refl, refl, refl, m, refl)
card-moved Order step rules c takes_short granted now line own out alone m = (refl, refl, refl, refl, m, refl)

-- a step that the card takes no part in
pub card-goes-alone : (next : Next) (step : Step) (rules : Rules) (c : CardState) (takes_short : Bool)
    (granted now : ℕ) (line : Line) (own : ℕ) (out : List ℕ) → is_for_end next ≡ false
    → GoesTo step rules line next
    → cards.IsStepped step.next step rules c takes_short granted granted now c line own own out out
    (Ok (action_of next own))
card-goes-alone next step rules c takes_short granted now line own out alone g =
    subst (λ (n : Next). cards.IsStepped n step rules c takes_short granted granted now c line own own out out
    (Ok (action_of next own))) g.1 (card-moved next step rules c takes_short granted now line own out alone g.0)
