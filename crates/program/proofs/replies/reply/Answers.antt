use Rattle.std.proofs.Common.{◌∙◌, inl, inr, refl, sym}
use Rattle.std.proofs.lemmas.Result.{IfOk-weaker}
use Rattle.command_line.specs.Form.{texts}
use Rattle.program_octets.specs.Sayings.{faulted}
use Rattle.program_octets.specs.declared.status.Status.TheVariants as status
use Rattle.explainer.specs.Words.{IsWordsNote}
use Rattle.program.proofs.Answering.{refused-words}
use Rattle.program.proofs.Explaining.{fits-words, said-fault, said-nothing}
use Rattle.program.proofs.replies.reply.Goals as goal

pub request_reply-requires : goal.request_reply-requires
request_reply-requires g c =
    elim (rw c.in-Ok.is at c.requires) [
      | inl memory ↦ absurd (cc memory)
      | inr read ↦ read
    ]

pub returns-in-Err-clause-answer : goal.returns-in-Err-clause-answer
returns-in-Err-clause-answer g c =
    let read = rw c.in-Err.is at c.requires in
    said-fault (texts c.args.words.now) _ c.in-Err.fault (IsWordsNote (texts c.args.words.now))
    c.words_faulted.result (sym c.asks_to_explain.ensures ∙ c.if-asks_to_explain.true)
    (refused-words (texts c.args.words.now) _ _ c.in-Err.fault read) c.words_faulted.ensures.answer
    (IfOk-weaker c.words_faulted.result _ _
    (λ made other. fits-words (texts c.args.words.now) c.in-Err.fault other read)
    c.words_faulted.ensures.other)

pub returns-in-Err-2-clause-answer : goal.returns-in-Err-2-clause-answer
returns-in-Err-2-clause-answer g c = said-nothing (texts c.args.words.now) _ (faulted c.in-Err-2.fault)
    status.Fault
    (refused-words (texts c.args.words.now) _ _ c.in-Err-2.fault (rw c.in-Err-2.is at c.requires))

pub returns-in-Err-clause-unfailed : goal.returns-in-Err-clause-unfailed
returns-in-Err-clause-unfailed g c =
    IfOk-weaker c.words_faulted.result _ _ (λ made other. refl) c.words_faulted.ensures.other
