use Rattle.std.proofs.Common.{◌∙◌, [], Ok, ap}
use Rattle.program_octets.specs.declared.said.Said.TheVariants as saying
use Rattle.command_line.specs.Form.{texts}
use Rattle.program_words.specs.declared.request.Request.TheVariants.{BuildChain, BuildFill, Simulate, Help, Version}
use Rattle.program.proofs.Explaining.{alone, with-note}
use Rattle.program.proofs.replies.replied_to.Goals as goal
use Rattle.program.specs.Calls.{calls_of}

pub returns-in_ok-text-in-BuildChain-clause-answer : goal.returns-in_ok-text-in-BuildChain-clause-answer
returns-in_ok-text-in-BuildChain-clause-answer g c =
    rw c.in-BuildChain.is (alone (texts c.args.words.now)
    (BuildChain c.in-BuildChain.ifs c.in-BuildChain.number c.in-BuildChain.message)
    (calls_of g.R.Source.remaining g.R.Source.failures c.args.reader.now c.args.reader.now) c.alone.result (Ok [])
    (λ needs. absurd needs) (rw c.alone.ensures.answer (
      c.ok.ensures.said ∙ ap saying.Text (rw c.get.ensures at c.in_ok-text-in-BuildChain.ensures),
      c.ok.ensures.status,
    )) c.alone.ensures.explanation)

pub returns-in_ok-filled-in-BuildFill-clause-answer : goal.returns-in_ok-filled-in-BuildFill-clause-answer
returns-in_ok-filled-in-BuildFill-clause-answer g c =
    let made = rw c.get-in-BuildFill.ensures at c.in_ok-filled-in-BuildFill.ensures in
    rw c.in-BuildFill.is (with-note (texts c.args.words.now) (BuildFill c.in-BuildFill.list c.in-BuildFill.known)
    (calls_of g.R.Source.remaining g.R.Source.failures c.args.reader.now c.args.reader.now)
    c.in_ok-filled-in-BuildFill.field-0 (Ok []) (λ needs. absurd needs) made.0 made.1)

pub returns-in-Judge-clause-answer : goal.returns-in-Judge-clause-answer
returns-in-Judge-clause-answer g c =
    rw c.in-Judge.is (rw c.get-in-Judge.ensures at (c.judged.ensures.answer (texts c.args.words.now)))

pub returns-in_ok-simulated-in-Simulate-clause-answer : goal.returns-in_ok-simulated-in-Simulate-clause-answer
returns-in_ok-simulated-in-Simulate-clause-answer g c =
    rw c.in-Simulate.is (with-note (texts c.args.words.now) (Simulate c.in-Simulate.session)
    (calls_of g.R.Source.remaining g.R.Source.failures c.args.reader.now c.args.reader.now)
    c.in_ok-simulated-in-Simulate.field-0 (Ok []) (λ needs. absurd needs)
    c.in_ok-simulated-in-Simulate.ensures.0 c.in_ok-simulated-in-Simulate.ensures.1)

pub returns-in-Help-clause-answer : goal.returns-in-Help-clause-answer
returns-in-Help-clause-answer g c = rw c.in-Help.is (alone (texts c.args.words.now) (Help c.in-Help.text)
    (calls_of g.R.Source.remaining g.R.Source.failures c.args.reader.now c.args.reader.now) c.alone-in-Help.result
    (Ok [])
    (λ needs. absurd needs) (rw c.alone-in-Help.ensures.answer
    (c.ok-in-Help.ensures.said ∙ ap saying.Text c.into_inner.ensures, c.ok-in-Help.ensures.status))
    c.alone-in-Help.ensures.explanation)

pub returns-in_ok-line-in-Version-clause-answer : goal.returns-in_ok-line-in-Version-clause-answer
returns-in_ok-line-in-Version-clause-answer g c = rw c.in-Version.is (alone (texts c.args.words.now) Version
    (calls_of g.R.Source.remaining g.R.Source.failures c.args.reader.now c.args.reader.now) c.alone-in-Version.result
    (Ok [])
    (λ needs. absurd needs) (rw c.alone-in-Version.ensures.answer (
      c.ok-in-Version.ensures.said ∙ ap saying.Text c.in_ok-line-in-Version.ensures.ok,
      c.ok-in-Version.ensures.status,
    ))
    c.alone-in-Version.ensures.explanation)

pub returns-in-Tell-clause-answer : goal.returns-in-Tell-clause-answer
returns-in-Tell-clause-answer g c = rw c.in-Tell.is (c.octets_told.ensures.answer (texts c.args.words.now))

pub returns-in-BuildTidy-clause-answer : goal.returns-in-BuildTidy-clause-answer
returns-in-BuildTidy-clause-answer g c = rw c.in-BuildTidy.is (c.octets_tidied.ensures.answer (texts c.args.words.now))

pub returns-in_ok-file_answer-in-File-clause-unfailed : goal.returns-in_ok-file_answer-in-File-clause-unfailed
returns-in_ok-file_answer-in-File-clause-unfailed g c = c.in_ok-file-in-File.ensures.count

pub returns-in_ok-recorded-in-Record-clause-unfailed : goal.returns-in_ok-recorded-in-Record-clause-unfailed
returns-in_ok-recorded-in-Record-clause-unfailed g c = c.in_ok-text-in-Record.ensures.count

pub returns-in_ok-lines_simulated-in-SimulateLines-clause-unfailed :
    goal.returns-in_ok-lines_simulated-in-SimulateLines-clause-unfailed
returns-in_ok-lines_simulated-in-SimulateLines-clause-unfailed g c = c.in_ok-text-in-SimulateLines.ensures.count
