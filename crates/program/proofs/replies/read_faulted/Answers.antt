use Rattle.std.proofs.Common.{◌≡◌}
use Rattle.program_words.specs.declared.fault.Fault.TheVariants.{TooLarge}
use Rattle.explainer.specs.Notes.{large_note}
use Rattle.program.specs.Files.{largest_file}
use Rattle.program.proofs.Explaining.{is-faulted}
use Rattle.program.proofs.replies.read_faulted.Goals as goal

pub returns-in-TooLarge-clause-answer : goal.returns-in-TooLarge-clause-answer
returns-in-TooLarge-clause-answer c = rw c.in-TooLarge.is (is-faulted TooLarge (λ note. note ≡ large_note largest_file)
    c.large_note.result c.fault_noted.result c.fault_noted.ensures.answer c.fault_noted.ensures.explanation
    c.large_note.ensures)
