-- The texts of the faults, and of a framer.
use Rattle.std.specs.Prelude.{ℕ, List, ◌++◌, Option, Some, None, codes, decimal}
use Rattle.t1_core.specs.Names.{terminal_fault_name, card_fault_name}
use Rattle.line_core.specs.declared.fault.TransceiveFault.{TransceiveFault}
use Rattle.line_core.specs.declared.framing.Framer.{Framer}
use Rattle.line_core.specs.declared.fault.TransceiveFault.TheVariants as exchange
use Rattle.line_core.specs.declared.serving.ServeFault.{ServeFault}
use Rattle.line_core.specs.declared.serving.ServeFault.TheVariants as serve

-- the text of a fault; that of an error of the line isn't known
abbrev pub transceive_fault_text : TransceiveFault → Option (List ℕ)
transceive_fault_text exchange.GivenUp = Some (codes "GivenUp")
transceive_fault_text exchange.Dead = Some (codes "Dead")
transceive_fault_text (exchange.Line inner) = None
transceive_fault_text exchange.UsedUp = Some (codes "UsedUp")
transceive_fault_text (exchange.Refused inner) = Some (codes "Refused: " ++ terminal_fault_name inner)

abbrev pub serve_fault_text : ServeFault → Option (List ℕ)
serve_fault_text (serve.Line inner) = None
serve_fault_text serve.UsedUp = Some (codes "UsedUp")
serve_fault_text (serve.Refused inner) = Some (codes "Refused: " ++ card_fault_name inner)

-- how many octets came, and none of them
abbrev pub framer_text : Framer → List ℕ
framer_text framer = codes "Framer { count: " ++ (decimal framer.count ++ codes ", .. }")
