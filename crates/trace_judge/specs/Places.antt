-- A place in the code, as contracts see it.
use Rattle.trace_judge.specs.Objects.{Place}
use Rattle.trace_judge.specs.declared.place.Place.{Place as Placed}

abbrev pub placed : Placed → Place
placed place = record { line = place.line; moment = place.moment; octets = place.octets.now }
