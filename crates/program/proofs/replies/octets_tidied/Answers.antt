use Rattle.std.proofs.lemmas.Result.{err_from_is_err_and}
use Rattle.program_words.specs.declared.request.Request.TheVariants.{BuildTidy}
use Rattle.program_octets.specs.Verdicts.{Tidies}
use Rattle.program.specs.Calls.{calls_of}
use Rattle.program.specs.Judged.{IsForestNote}
use Rattle.program.proofs.Answering.{told-fault, told-wanting}
use Rattle.program.proofs.Explaining.{noted-given, noted-refused}
use Rattle.program.proofs.replies.octets_tidied.Goals as goal

pub returns-in_err-octets-clause-answer : goal.returns-in_err-octets-clause-answer
returns-in_err-octets-clause-answer g c = λ words.
    let fault = err_from_is_err_and c.from_residual.result c.from_residual.ensures.1 in
    rw (fault.1, fault.2) (told-fault (BuildTidy c.args.given) c.args.given Tidies
    (calls_of g.R.Source.remaining g.R.Source.failures c.args.reader.now c.octets_taken.new.reader) (λ file had. had)
    (λ file text ended h. h)
    c.in_err-octets.field-0.0 c.in_err-octets.ensures.taken.taken)

pub returns-in_err-made-in-Given-clause-answer : goal.returns-in_err-made-in-Given-clause-answer
returns-in_err-made-in-Given-clause-answer g c = λ words.
    let fault = err_from_is_err_and c.from_residual-in_err-made-in-Given.result
    c.from_residual-in_err-made-in-Given.ensures.1 in
    let had = rw c.in-Given.is at c.in_ok-octets.ensures.taken in
    rw (fault.1, fault.2) (told-wanting (BuildTidy c.args.given) c.args.given Tidies
    (calls_of g.R.Source.remaining g.R.Source.failures c.args.reader.now c.octets_taken.new.reader) (λ file had. had)
    (λ file text ended h. h)
    c.in-Given.octets had.taken)

pub returns-in_ok-made-in-Given-clause-answer : goal.returns-in_ok-made-in-Given-clause-answer
returns-in_ok-made-in-Given-clause-answer g c = λ words.
    let made = rw c.get.ensures at c.in_ok-made-in-Given.ensures in
    let had = rw c.in-Given.is at c.in_ok-octets.ensures.taken in
    noted-given c.args.explains words (BuildTidy c.args.given) c.args.given Tidies
    IsForestNote (calls_of g.R.Source.remaining g.R.Source.failures c.args.reader.now c.octets_taken.new.reader)
    (λ file had. had) (λ file text ended h. h)
    (λ file note h. h) c.in-Given.octets c.in-Given.note had
    c.in_ok-made-in-Given.made c.and.result made.0 made.1 c.and.ensures.answer c.and.ensures.explanation

pub returns-in-Refused-clause-answer : goal.returns-in-Refused-clause-answer
returns-in-Refused-clause-answer g c = λ words.
    let had = rw c.in-Refused.is at c.in_ok-octets.ensures.taken in
    noted-refused c.args.explains words (BuildTidy c.args.given) c.args.given Tidies
    IsForestNote (calls_of g.R.Source.remaining g.R.Source.failures c.args.reader.now c.octets_taken.new.reader)
    (λ file had. had) (λ file text ended h. h)
    (λ file note h. h) c.in-Refused.made had

pub returns-in_ok-made-in-Given-clause-unfailed : goal.returns-in_ok-made-in-Given-clause-unfailed
returns-in_ok-made-in-Given-clause-unfailed g c = c.in_ok-octets.ensures.taken.unfailed

pub returns-in-Refused-clause-unfailed : goal.returns-in-Refused-clause-unfailed
returns-in-Refused-clause-unfailed g c = c.in_ok-octets.ensures.taken.unfailed
