use Rattle.std.proofs.Common.{sym}
use Rattle.exchange_text.proofs.Cutting.{word-after}
use Rattle.exchange_text.proofs.words.no_word.Goals as goal

pub returns-in-Some : goal.returns-in-Some
returns-in-Some c = rw c.in-Some.is (sym (word-after c.in-Some.field-0.now))
