use Rattle.std.proofs.Common.{sym}
use Rattle.exchange_text.proofs.Cutting.{two-words}
use Rattle.exchange_text.proofs.words.the_word.Goals as goal

pub returns-in_default-Some : goal.returns-in_default-Some
returns-in_default-Some c =
    let words = rw c.in_default-Some.is-1 at c.first_word.ensures.words in
    rw c.in-Some.is (sym (two-words c.in-Some.rest.now c.in_default-Some.field-0-1.now c.first_word.result.0.now words))
