use Rattle.std.proofs.Common.{sym}
use Rattle.program_words.proofs.Givens.{dumped}
use Rattle.program_words.proofs.given.Form.octets.Goals as goal

pub returns-in-Dump : goal.returns-in-Dump
returns-in-Dump c = rw (c.in-Dump.is, sym c.get-in-Dump.ensures)
    (dumped c.dump_octets.result _ c.of_dump.result c.of_dump.ensures c.dump_octets.ensures)

pub returns-in-Source : goal.returns-in-Source
returns-in-Source c = rw (c.in-Source.is, sym c.get-in-Source.ensures)
    (dumped c.source_octets.result _ c.of_dump-in-Source.result c.of_dump-in-Source.ensures c.source_octets.ensures)
