use Rattle.std.proofs.Common.{◌∙◌}
use Rattle.program_words.proofs.Reading.{byte-read, size-read}
use Rattle.program_words.proofs.numerals.size.Goals as goal

pub returns-in-Some : goal.returns-in-Some
returns-in-Some c =
    rw c.in-Some.is (c.ok_or.ensures.value ∙ size-read c.in-Some.word.now c.unwrap_or.result c.from_octet.result
    (c.unwrap_or.ensures ∙ byte-read 0 c.in-Some.word.now c.parse.result c.parse.ensures.value.0) c.from_octet.ensures)
