-- What a dump has taken while it is read.
use Rattle.dumps.specs.Dump.{Taken}
use Rattle.dumps.specs.declared.line.Dump.{Dump}

abbrev pub taken : Dump → Taken
taken dump = record {
  octets = dump.octets.items;
  row = dump.row.items;
  before = dump.before;
  base = dump.base;
  start =
      dump.start;
}
