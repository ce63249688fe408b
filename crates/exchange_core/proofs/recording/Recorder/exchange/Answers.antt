use Rattle.std.proofs.Common.{◌≡◌, ◌++◌, List, sym, ap, subst, ◌∙◌, true, None}
use Rattle.exchange_text.specs.Exchange.{ExchangeParts, are_proper}
use Rattle.exchange_core.specs.Replay.{Replays}
use Rattle.exchange_text.specs.declared.exchange.Version.TheVariants.{One}
use Rattle.exchange_text.specs.declared.line.Line.{Line}
use Rattle.block_core.specs.declared.side.Side.TheVariants as side
use Rattle.exchange_core.specs.Told.{AnswersAreReplies}
use Rattle.exchange_core.proofs.Acting.{closes, closed-proper}
use Rattle.exchange_core.proofs.Reaching.{closed-replies}
use Rattle.exchange_core.proofs.recording.Recorder.exchange.Goals as goal

pub proper-requires : goal.proper-requires
proper-requires c =
    let lines = c.of-lines.ensures ∙ c.in_ok-with_line.ensures
    ∙ ap (λ (l : List Line). c.self.inside.lines.items ++ l) c.in_ok-last.ensures in
    subst (λ (l : List Line). are_proper One 0 l ≡ true) (sym lines) (closed-proper _ _ _ c.self.invariant)

pub returns-clause-terminal : goal.returns-clause-terminal
returns-clause-terminal c =
    let lines = c.of-lines.ensures ∙ c.in_ok-with_line.ensures
    ∙ ap (λ (l : List Line). c.self.inside.lines.items ++ l) c.in_ok-last.ensures in
    subst (λ (e : ExchangeParts). Replays e.atr e.lines side.Terminal None) (sym c.proper.ensures)
    (subst (λ (l : List Line). Replays c.self.inside.atr l side.Terminal None) (sym lines)
    (closes _ _ _ side.Terminal c.self.invariant))

pub returns-clause-card : goal.returns-clause-card
returns-clause-card c =
    let lines = c.of-lines.ensures ∙ c.in_ok-with_line.ensures
    ∙ ap (λ (l : List Line). c.self.inside.lines.items ++ l) c.in_ok-last.ensures in
    subst (λ (e : ExchangeParts). Replays e.atr e.lines side.Card None) (sym c.proper.ensures)
    (subst (λ (l : List Line). Replays c.self.inside.atr l side.Card None) (sym lines)
    (closes _ _ _ side.Card c.self.invariant))

pub returns-clause-replies : goal.returns-clause-replies
returns-clause-replies c =
    let lines = c.of-lines.ensures ∙ c.in_ok-with_line.ensures
    ∙ ap (λ (l : List Line). c.self.inside.lines.items ++ l) c.in_ok-last.ensures in
    subst (λ (e : ExchangeParts). AnswersAreReplies e.lines) (sym c.proper.ensures)
    (subst AnswersAreReplies (sym lines) (closed-replies _ _ _ c.self.invariant))
