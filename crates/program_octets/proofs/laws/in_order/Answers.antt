use Rattle.program_octets.proofs.Rendering.{lines-append, notes-append, places-append}
use Rattle.program_octets.proofs.laws.in_order.Goals as goal

pub returns : goal.returns
returns c = record { lines = lines-append; places = places-append; notes = notes-append }
