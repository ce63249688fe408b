use Rattle.std.proofs.Common.{◌≡◌, ◌∙◌}
use Rattle.program_words.specs.Words.{byte_or}
use Rattle.program_words.proofs.Reading.{byte-read, number-zero, number-one, number-none}
use Rattle.program_words.proofs.numerals.number.Goals as goal

pub returns-then-value-eq0 : goal.returns-then-value-eq0
returns-then-value-eq0 c =
    let read : c.unwrap_or-value.result ≡ byte_or 2 c.args.word.now =
    c.unwrap_or-value.ensures ∙ byte-read 2 c.args.word.now c.parse.result c.parse.ensures.value.0 in
    number-zero c.args.word.now c.unwrap_or-value.result read c.if-value-eq0.true

pub returns-then-value-eq1 : goal.returns-then-value-eq1
returns-then-value-eq1 c =
    let read : c.unwrap_or-value.result ≡ byte_or 2 c.args.word.now =
    c.unwrap_or-value.ensures ∙ byte-read 2 c.args.word.now c.parse.result c.parse.ensures.value.0 in
    number-one c.args.word.now c.unwrap_or-value.result read c.if-value-eq1.true

pub returns-else-value-eq1 : goal.returns-else-value-eq1
returns-else-value-eq1 c =
    let read : c.unwrap_or-value.result ≡ byte_or 2 c.args.word.now =
    c.unwrap_or-value.ensures ∙ byte-read 2 c.args.word.now c.parse.result c.parse.ensures.value.0 in
    number-none c.args.word.now c.unwrap_or-value.result read c.if-value-eq0.false c.if-value-eq1.false
