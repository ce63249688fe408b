use Rattle.std.proofs.Common.{◌≡◌, ◌∙◌, Ok, Err, Result, ap, subst, sym}
use Rattle.std.proofs.lemmas.Result.{IfOk-weaker}
use Rattle.command_line.specs.Form.{texts}
use Rattle.program_octets.specs.Sayings.{faulted}
use Rattle.program_words.specs.declared.fault.Fault.{Fault}
use Rattle.program_words.specs.declared.fault.Fault.TheVariants.{Read}
use Rattle.program_octets.specs.declared.status.Status.TheVariants as status
use Rattle.explainer.specs.Notes.{large_note}
use Rattle.program.specs.Calls.{calls_of}
use Rattle.program.specs.Explained.{said_of}
use Rattle.program.specs.Files.{largest_file}
use Rattle.program.specs.declared.judged.WithExplanation.{WithExplanation}
use Rattle.program.proofs.Answering.{needs-file, needs-judge}
use Rattle.program.proofs.Unfailing.{none-failed}
use Rattle.program.proofs.Explaining.{fits-large, replied-words, said-alone, said-asked, said-fault, said-nothing}
use Rattle.program.proofs.replies.request_reply.Goals as goal

abbrev made-as : WithExplanation → Result WithExplanation Fault
made-as made = Ok made

abbrev read-as : Fault → Result WithExplanation Fault
read-as fault = Err fault

pub returns-in-Ok-clause-answer : goal.returns-in-Ok-clause-answer
returns-in-Ok-clause-answer g c = said-asked (texts c.args.words.now)
    (calls_of g.R.Source.remaining g.R.Source.failures c.args.reader.now c.replied_to.new.reader)
    c.in-Ok.made.answer.said
    (said_of c.in-Ok.made.explanation) c.in-Ok.made.answer.status
    (sym c.asks_to_explain-explains.ensures ∙ c.if-explains.true)
    (replied-words (texts c.args.words.now)
    (calls_of g.R.Source.remaining g.R.Source.failures c.args.reader.now c.replied_to.new.reader) c.args.request
    (made-as c.in-Ok.made) c.requires
    c.in-Ok.ensures.answer)

pub returns-in-Ok-2-clause-answer : goal.returns-in-Ok-2-clause-answer
returns-in-Ok-2-clause-answer g c = said-alone (texts c.args.words.now)
    (calls_of g.R.Source.remaining g.R.Source.failures c.args.reader.now c.replied_to.new.reader) c.in-Ok.made
    c.alone.result
    (replied-words (texts c.args.words.now)
    (calls_of g.R.Source.remaining g.R.Source.failures c.args.reader.now c.replied_to.new.reader) c.args.request
    (made-as c.in-Ok.made) c.requires
    c.in-Ok.ensures.answer) c.alone.ensures.answer c.alone.ensures.said

pub returns-in-Err-clause-answer : goal.returns-in-Err-clause-answer
returns-in-Err-clause-answer g c = said-fault (texts c.args.words.now)
    (calls_of g.R.Source.remaining g.R.Source.failures c.args.reader.now c.replied_to.new.reader) c.in-Err.fault
    (λ note. note ≡ large_note largest_file) c.read_faulted.result
    (sym c.asks_to_explain-explains.ensures ∙ c.if-explains-2.true)
    (replied-words (texts c.args.words.now)
    (calls_of g.R.Source.remaining g.R.Source.failures c.args.reader.now c.replied_to.new.reader) c.args.request
    (read-as c.in-Err.fault) c.requires
    c.in-Err.ensures.answer) c.read_faulted.ensures.answer
    (IfOk-weaker c.read_faulted.result _ _ (λ made large. fits-large (texts c.args.words.now) c.in-Err.fault large)
    c.read_faulted.ensures.large)

pub returns-in-Err-2-clause-answer : goal.returns-in-Err-2-clause-answer
returns-in-Err-2-clause-answer g c = said-nothing (texts c.args.words.now)
    (calls_of g.R.Source.remaining g.R.Source.failures c.args.reader.now c.replied_to.new.reader)
    (faulted c.in-Err.fault) status.Fault
    (replied-words (texts c.args.words.now)
    (calls_of g.R.Source.remaining g.R.Source.failures c.args.reader.now c.replied_to.new.reader) c.args.request
    (read-as c.in-Err.fault) c.requires
    c.in-Err.ensures.answer)

pub returns-in-Ok-clause-unread : goal.returns-in-Ok-clause-unread
returns-in-Ok-clause-unread g c = λ free.
    c.replied_to.ensures.unread (λ need. free (needs-file (texts c.args.words.now) c.args.request c.requires need))

pub returns-in-Ok-clause-few : goal.returns-in-Ok-clause-few
returns-in-Ok-clause-few g c = λ free.
    c.replied_to.ensures.few (λ judge. free (needs-judge (texts c.args.words.now) c.args.request c.requires judge))

pub returns-in-Ok-2-clause-few : goal.returns-in-Ok-2-clause-few
returns-in-Ok-2-clause-few g c = λ free.
    c.replied_to.ensures.few (λ judge. free (needs-judge (texts c.args.words.now) c.args.request c.requires judge))

pub returns-in-Err-clause-few : goal.returns-in-Err-clause-few
returns-in-Err-clause-few g c = λ free.
    c.replied_to.ensures.few (λ judge. free (needs-judge (texts c.args.words.now) c.args.request c.requires judge))

pub returns-in-Err-2-clause-few : goal.returns-in-Err-2-clause-few
returns-in-Err-2-clause-few g c = λ free.
    c.replied_to.ensures.few (λ judge. free (needs-judge (texts c.args.words.now) c.args.request c.requires judge))

pub returns-in-Ok-2-clause-unread : goal.returns-in-Ok-2-clause-unread
returns-in-Ok-2-clause-unread g c = λ free.
    c.replied_to.ensures.unread (λ need. free (needs-file (texts c.args.words.now) c.args.request c.requires need))

pub returns-in-Err-clause-unfailed : goal.returns-in-Err-clause-unfailed
returns-in-Err-clause-unfailed g c = IfOk-weaker c.read_faulted.result _ _
    (λ made large. none-failed c.args.request
    (calls_of g.R.Source.remaining g.R.Source.failures c.args.reader.now c.replied_to.new.reader)
    (faulted c.in-Err.fault) status.Fault
    (λ free. ap g.R.Source.failures (c.replied_to.ensures.unread free))
    c.in-Err.ensures.answer (λ same. cc (subst (λ (f : Fault). faulted f ≡ faulted Read) large same)))
    c.read_faulted.ensures.large
