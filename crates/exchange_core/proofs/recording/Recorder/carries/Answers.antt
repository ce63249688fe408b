use Rattle.std.proofs.Common.{◌≡◌, ap, subst, ◌∙◌, rules, Ok, Err}
use Rattle.t1_core.specs.declared.turns.TerminalTurn.{TerminalTurn}
use Rattle.t1_core.specs.declared.turns.TerminalTurn.TheVariants.{Send}
use Rattle.t1_core.specs.declared.turns.CardTurn.{CardTurn}
use Rattle.t1_core.specs.declared.turns.CardTurn.TheVariants.{Send as Sends}
use Rattle.t1_core.specs.Link.{tables, happens}
use Rattle.t1_core.proofs.Proper.{always_taken}
use Rattle.exchange_core.specs.Recording.{Recording, recorded, link_of, IfNotMemory, change_event}
use Rattle.exchange_core.specs.declared.event.LastTurn.TheVariants.{Terminal, Card}
use Rattle.exchange_core.proofs.Acting.{to-card-leaves, to-card-refuses, to-terminal-leaves, to-terminal-refuses}
use Rattle.exchange_core.proofs.recording.Recorder.carries.Goals as goal

pub returns-in_err-turn-in-Terminal-Send-clause-refused : goal.returns-in_err-turn-in-Terminal-Send-clause-refused
returns-in_err-turn-in-Terminal-Send-clause-refused c =
    let turn-is = rw c.in-Terminal-Send.is at c.in-Terminal-Send.field-0-is in
    let last-is : c.self.inside.last ≡ Terminal (Send c.in-Terminal-Send.block) =
    c.in-Terminal-Send.is ∙ ap (λ (turn : TerminalTurn). Terminal turn) turn-is in
    let fault = c.in_err-turn-in-Terminal-Send.field-0.0 in
    let h = subst (λ (r : Recording). IfNotMemory fault (recorded r (change_event c.args.change) ≡ Err fault))
    c.self.view_is
    (to-card-refuses _ _ _ c.in-Terminal-Send.block c.args.change _ _ fault always_taken c.self.invariant last-is
    c.in_ok-sent-in-Terminal-Send.ensures c.in_ok-arrival-in-Terminal-Send.ensures
    c.in_err-turn-in-Terminal-Send.ensures.refused) in
    search (rules, h)

pub invariant_of-self-in-Send-1 : goal.invariant_of-self-in-Send-1
invariant_of-self-in-Send-1 c =
    let turn-is = rw c.in-Terminal-Send.is at c.in-Terminal-Send.field-0-is in
    let last-is : c.self.inside.last ≡ Terminal (Send c.in-Terminal-Send.block) =
    c.in-Terminal-Send.is ∙ ap (λ (turn : TerminalTurn). Terminal turn) turn-is in
    (to-card-leaves _ _ _ c.in-Terminal-Send.block c.args.change _ _ _ _ _ always_taken c.self.invariant last-is
    c.in_ok-sent-in-Terminal-Send.ensures c.in_ok-arrival-in-Terminal-Send.ensures
    c.in_ok-turn-in-Terminal-Send.ensures.turn c.in_ok-turn-in-Terminal-Send.ensures.lines).0

pub returns-in_ok-turn-in-Terminal-Send-clause-recorded : goal.returns-in_ok-turn-in-Terminal-Send-clause-recorded
returns-in_ok-turn-in-Terminal-Send-clause-recorded c =
    let turn-is = rw c.in-Terminal-Send.is at c.in-Terminal-Send.field-0-is in
    let last-is : c.self.inside.last ≡ Terminal (Send c.in-Terminal-Send.block) =
    c.in-Terminal-Send.is ∙ ap (λ (turn : TerminalTurn). Terminal turn) turn-is in
    let new : Recording = record {
      atr = c.self.inside.atr;
      ifsc = c.self.inside.params.ifsc;
      lines = c.card_takes.new.lines.items;
      last = Card c.in_ok-turn-in-Terminal-Send.turn;
    } in
    subst (λ (r : Recording). recorded r (change_event c.args.change) ≡ Ok new) c.self.view_is
    (to-card-leaves _ _ _ c.in-Terminal-Send.block c.args.change _ _ _ _ _ always_taken c.self.invariant last-is
    c.in_ok-sent-in-Terminal-Send.ensures c.in_ok-arrival-in-Terminal-Send.ensures
    c.in_ok-turn-in-Terminal-Send.ensures.turn c.in_ok-turn-in-Terminal-Send.ensures.lines).1.0

pub returns-in_ok-turn-in-Terminal-Send-clause-link : goal.returns-in_ok-turn-in-Terminal-Send-clause-link
returns-in_ok-turn-in-Terminal-Send-clause-link c =
    let turn-is = rw c.in-Terminal-Send.is at c.in-Terminal-Send.field-0-is in
    let last-is : c.self.inside.last ≡ Terminal (Send c.in-Terminal-Send.block) =
    c.in-Terminal-Send.is ∙ ap (λ (turn : TerminalTurn). Terminal turn) turn-is in
    let new : Recording = record {
      atr = c.self.inside.atr;
      ifsc = c.self.inside.params.ifsc;
      lines = c.card_takes.new.lines.items;
      last = Card c.in_ok-turn-in-Terminal-Send.turn;
    } in
    subst (λ (r : Recording). link_of new ≡ happens tables (link_of r) (change_event c.args.change)) c.self.view_is
    (to-card-leaves _ _ _ c.in-Terminal-Send.block c.args.change _ _ _ _ _ always_taken c.self.invariant last-is
    c.in_ok-sent-in-Terminal-Send.ensures c.in_ok-arrival-in-Terminal-Send.ensures
    c.in_ok-turn-in-Terminal-Send.ensures.turn c.in_ok-turn-in-Terminal-Send.ensures.lines).1.1

pub returns-in_err-turn-in-Card-Send-clause-refused : goal.returns-in_err-turn-in-Card-Send-clause-refused
returns-in_err-turn-in-Card-Send-clause-refused c =
    let turn-is = rw c.in-Card-Send.is at c.in-Card-Send.field-0-is in
    let last-is : c.self.inside.last ≡ Card (Sends c.in-Card-Send.block) =
    c.in-Card-Send.is ∙ ap (λ (turn : CardTurn). Card turn) turn-is in
    let fault = c.in_err-turn-in-Card-Send.field-0.0 in
    let h = subst (λ (r : Recording). IfNotMemory fault (recorded r (change_event c.args.change) ≡ Err fault))
    c.self.view_is
    (to-terminal-refuses _ _ _ c.in-Card-Send.block c.args.change _ _ fault always_taken c.self.invariant last-is
    c.in_ok-sent-in-Card-Send.ensures c.in_ok-arrival-in-Card-Send.ensures
    c.in_err-turn-in-Card-Send.ensures.refused) in
    search (rules, h)

pub invariant_of-self-in-Send-self-3 : goal.invariant_of-self-in-Send-self-3
invariant_of-self-in-Send-self-3 c =
    let turn-is = rw c.in-Card-Send.is at c.in-Card-Send.field-0-is in
    let last-is : c.self.inside.last ≡ Card (Sends c.in-Card-Send.block) =
    c.in-Card-Send.is ∙ ap (λ (turn : CardTurn). Card turn) turn-is in
    (to-terminal-leaves _ _ _ c.in-Card-Send.block c.args.change _ _ _ _ _ always_taken c.self.invariant last-is
    c.in_ok-sent-in-Card-Send.ensures c.in_ok-arrival-in-Card-Send.ensures c.in_ok-turn-in-Card-Send.ensures.turn
    c.in_ok-turn-in-Card-Send.ensures.lines).0

pub returns-in_ok-turn-in-Card-Send-clause-recorded : goal.returns-in_ok-turn-in-Card-Send-clause-recorded
returns-in_ok-turn-in-Card-Send-clause-recorded c =
    let turn-is = rw c.in-Card-Send.is at c.in-Card-Send.field-0-is in
    let last-is : c.self.inside.last ≡ Card (Sends c.in-Card-Send.block) =
    c.in-Card-Send.is ∙ ap (λ (turn : CardTurn). Card turn) turn-is in
    let new : Recording = record {
      atr = c.self.inside.atr;
      ifsc = c.self.inside.params.ifsc;
      lines = c.terminal_takes.new.lines.items;
      last = Terminal c.in_ok-turn-in-Card-Send.turn;
    } in
    subst (λ (r : Recording). recorded r (change_event c.args.change) ≡ Ok new) c.self.view_is
    (to-terminal-leaves _ _ _ c.in-Card-Send.block c.args.change _ _ _ _ _ always_taken c.self.invariant last-is
    c.in_ok-sent-in-Card-Send.ensures c.in_ok-arrival-in-Card-Send.ensures c.in_ok-turn-in-Card-Send.ensures.turn
    c.in_ok-turn-in-Card-Send.ensures.lines).1.0

pub returns-in_ok-turn-in-Card-Send-clause-link : goal.returns-in_ok-turn-in-Card-Send-clause-link
returns-in_ok-turn-in-Card-Send-clause-link c =
    let turn-is = rw c.in-Card-Send.is at c.in-Card-Send.field-0-is in
    let last-is : c.self.inside.last ≡ Card (Sends c.in-Card-Send.block) =
    c.in-Card-Send.is ∙ ap (λ (turn : CardTurn). Card turn) turn-is in
    let new : Recording = record {
      atr = c.self.inside.atr;
      ifsc = c.self.inside.params.ifsc;
      lines = c.terminal_takes.new.lines.items;
      last = Terminal c.in_ok-turn-in-Card-Send.turn;
    } in
    subst (λ (r : Recording). link_of new ≡ happens tables (link_of r) (change_event c.args.change)) c.self.view_is
    (to-terminal-leaves _ _ _ c.in-Card-Send.block c.args.change _ _ _ _ _ always_taken c.self.invariant last-is
    c.in_ok-sent-in-Card-Send.ensures c.in_ok-arrival-in-Card-Send.ensures c.in_ok-turn-in-Card-Send.ensures.turn
    c.in_ok-turn-in-Card-Send.ensures.lines).1.1
