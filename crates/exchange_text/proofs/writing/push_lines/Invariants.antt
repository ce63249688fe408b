use Rattle.std.proofs.Common.{◌≡◌, ◌++◌, drop}
use Rattle.std.specs.Prelude.{string_bytes}
use Rattle.exchange_text.specs.Exchange.{AllHaveOctets}
use Rattle.exchange_text.specs.Text.{lines_text}
use Rattle.exchange_text.proofs.writing.push_lines.Given as goal

abbrev pub invariant-loop-line : goal.invariant-loop-line
invariant-loop-line l =
    (string_bytes l.text ++ lines_text (drop l.line-index l.line-items) ≡ string_bytes l.fn.text
    ++ lines_text l.line-items)
    × (AllHaveOctets (drop l.line-index l.line-items) → AllHaveOctets l.line-items)
