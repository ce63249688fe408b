use Rattle.std.proofs.Common.{ℕ, Option, subst, sym}
use Rattle.dumps.specs.Source.{at_first, source_octets}
use Rattle.dumps.specs.SourceStop.{Agrees}
use Rattle.dumps.specs.declared.no_source.SourceWrong.{SourceWrong}
use Rattle.dumps.proofs.NoSource.{text-agrees}
use Rattle.dumps.proofs.no_source.source_stop.Goals as goal

pub returns-clause-agrees : goal.returns-clause-agrees
returns-clause-agrees c =
    subst (λ (s : Option (ℕ × SourceWrong)). Agrees s (source_octets c.args.text.now)) (sym c.stop_of.ensures)
    (text-agrees c.args.text.now 0 at_first)
