use Rattle.std.proofs.Common.{◌≡◌, ◌∷◌, [], ◌++◌, List, ap, subst, ◌∙◌, rules, Ok, Err}
use Rattle.t1_core.specs.Link.{tables, happens}
use Rattle.exchange_core.specs.Recording.{Recording, recorded, link_of, IfNotMemory, call_event}
use Rattle.exchange_text.specs.declared.line.Line.{Line}
use Rattle.exchange_core.specs.declared.event.LastTurn.TheVariants.{Card}
use Rattle.exchange_core.proofs.Acting.{leaves, replied-acts, reply-refused}
use Rattle.exchange_core.proofs.recording.Recorder.calls_card.Goals as goal

pub returns-in_err-turn-clause-refused : goal.returns-in_err-turn-clause-refused
returns-in_err-turn-clause-refused c =
    let may = c.requires in
    let h = subst (λ (r : Recording). IfNotMemory c.in_err-turn.field-0.0
    (recorded r (call_event c.args.line) ≡ Err c.in_err-turn.field-0.0)) c.self.view_is
    (reply-refused _ _ _ c.args.line c.in_err-turn.field-0.0 c.self.invariant may c.in_err-turn.ensures.refused) in
    search (rules, h)

pub invariant_of-self-2 : goal.invariant_of-self-2
invariant_of-self-2 c =
    let may = c.requires in
    let lines = c.in_ok-turn.ensures.lines
    ∙ ap (λ (l : List Line). c.self.inside.lines.items ++ (l ++ c.args.line ∷ [])) c.in_ok-last.ensures in
    (leaves _ _ _ _ _ _ _ _ _ lines c.self.invariant
    (replied-acts _ _ _ c.args.line _ _ c.self.invariant may c.in_ok-turn.ensures.turn)).0

pub returns-clause-recorded : goal.returns-clause-recorded
returns-clause-recorded c =
    let may = c.requires in
    let lines = c.in_ok-turn.ensures.lines
    ∙ ap (λ (l : List Line). c.self.inside.lines.items ++ (l ++ c.args.line ∷ [])) c.in_ok-last.ensures in
    let new : Recording = record {
      atr = c.self.inside.atr;
      ifsc = c.self.inside.params.ifsc;
      lines = c.card_takes.new.lines.items;
      last = Card c.in_ok-turn.turn;
    } in
    subst (λ (r : Recording). recorded r (call_event c.args.line) ≡ Ok new) c.self.view_is
    (leaves _ _ _ _ _ _ _ _ _ lines c.self.invariant
    (replied-acts _ _ _ c.args.line _ _ c.self.invariant may c.in_ok-turn.ensures.turn)).1.0

pub returns-clause-link : goal.returns-clause-link
returns-clause-link c =
    let may = c.requires in
    let lines = c.in_ok-turn.ensures.lines
    ∙ ap (λ (l : List Line). c.self.inside.lines.items ++ (l ++ c.args.line ∷ [])) c.in_ok-last.ensures in
    let new : Recording = record {
      atr = c.self.inside.atr;
      ifsc = c.self.inside.params.ifsc;
      lines = c.card_takes.new.lines.items;
      last = Card c.in_ok-turn.turn;
    } in
    subst (λ (r : Recording). link_of new ≡ happens tables (link_of r) (call_event c.args.line)) c.self.view_is
    (leaves _ _ _ _ _ _ _ _ _ lines c.self.invariant
    (replied-acts _ _ _ c.args.line _ _ c.self.invariant may c.in_ok-turn.ensures.turn)).1.1
