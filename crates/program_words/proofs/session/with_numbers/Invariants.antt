use Rattle.std.proofs.Common.{◌≡◌, ◌++◌, ◌-◌}
use Rattle.program_words.specs.Session.{numbers_from}
use Rattle.program_words.proofs.session.with_numbers.Given as goal

-- the numbers so far and those that are left
abbrev pub invariant-loop-number : goal.invariant-loop-number
invariant-loop-number l =
    l.numbers.items ++ numbers_from l.number (l.end - l.number) ≡ l.fn.named ++ numbers_from l.first (l.end - l.first)
