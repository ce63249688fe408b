use Rattle.std.proofs.Common.{sym, ◌∙◌}
use Rattle.clap.specs.Values.{kind_of}
use Rattle.command_line.specs.Form.{texts}
use Rattle.clap.specs.Words.{subcommand_rows_of}
use Rattle.program_words.proofs.Reading.{help-or-fault}
use Rattle.program_words.proofs.Requests.{asked-laid, asked-octets, asked-sized}
use Rattle.program_words.specs.Words.{layout_of}
use Rattle.program_words.proofs.words.read.Goals as goal

pub returns-in-Err-clause-read : goal.returns-in-Err-clause-read
returns-in-Err-clause-read c = help-or-fault (texts c.args.words.now) (kind_of c.in-Err.error) c.help_or_fault.result
    (sym c.asks_for_version.ensures ∙ c.if-asks_for_version.false) c.in-Err.ensures.kind c.help_or_fault.ensures

pub returns-in-Ok-clause-octets : goal.returns-in-Ok-clause-octets
returns-in-Ok-clause-octets c = asked-octets (layout_of (texts c.args.words.now)) (subcommand_rows_of c.in-Ok.matches)
    c.asked.result (rw c.layout_of.ensures at c.asked.ensures)

pub returns-in-Ok-clause-sized : goal.returns-in-Ok-clause-sized
returns-in-Ok-clause-sized c = asked-sized (layout_of (texts c.args.words.now)) (subcommand_rows_of c.in-Ok.matches)
    c.asked.result (rw c.layout_of.ensures at c.asked.ensures)

pub returns-in-Ok-clause-laid : goal.returns-in-Ok-clause-laid
returns-in-Ok-clause-laid c = asked-laid (layout_of (texts c.args.words.now)) (subcommand_rows_of c.in-Ok.matches)
    c.asked.result (rw c.layout_of.ensures at c.asked.ensures)
