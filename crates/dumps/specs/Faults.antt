-- The words of faults.
use Rattle.std.specs.Prelude.{ℕ, List, codes}
use Rattle.dumps.specs.declared.fault.DumpFault.{DumpFault}
use Rattle.dumps.specs.declared.fault.DumpFault.TheVariants.{Form, Memory}

abbrev pub dump_fault_text : DumpFault → List ℕ
dump_fault_text Form = codes "not in the form"
dump_fault_text Memory = codes "memory"
