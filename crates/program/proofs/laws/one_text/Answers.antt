use Rattle.program.proofs.OneText.{one-text, some-text}
use Rattle.program.proofs.laws.one_text.Goals as goal

pub returns : goal.returns
returns c = record { some = some-text; one = one-text }
