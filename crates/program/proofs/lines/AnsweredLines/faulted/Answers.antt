use Rattle.std.proofs.Common.{◌∙◌, ◌∷◌, [], ℕ, List, refl, subst}
use Rattle.program_words.specs.Texts.{fault_text}
use Rattle.program_octets.specs.declared.status.Status.TheVariants as ended
use Rattle.program.specs.Conversations.{told, untold}
use Rattle.program.specs.LineAnswers.{AreTelling}
use Rattle.program.proofs.Conversing.{Happens-then}
use Rattle.program.proofs.lines.AnsweredLines.faulted.Goals as goal

pub returns-in-Ok : goal.returns-in-Ok
returns-in-Ok g c =
    let event = c.tell-in-Ok.ensures.0 in (
      told c.args.self.text.items ∷ (event ∷ []),
      Happens-then (g.C.Conversation.said c.args.conversation.now) (g.C.Conversation.said c.tell.new.self)
          (g.C.Conversation.said c.tell-in-Ok.new.conversation) (told c.args.self.text.items ∷ []) (event ∷ [])
          (rw c.as_slice.ensures.value at c.in-Ok.ensures.said) c.tell-in-Ok.ensures.1,
      (
        fault_text c.args.fault,
        refl,
        subst (λ (t : List ℕ). AreTelling t ended.Fault (event ∷ []) c.tell-in-Ok.result)
            (c.as_bytes.ensures.value ∙ c.text.ensures) c.tell-in-Ok.ensures.2,
      ),
    )

pub returns : goal.returns
returns g c = (
  untold c.args.self.text.items c.in-Err.field-0.written ∷ [],
  rw c.as_slice.ensures.value at c.in-Err.ensures.said,
  (refl, (fault_text c.args.fault, refl), refl),
)
