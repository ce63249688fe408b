use Rattle.std.proofs.Common.{subst}
use Rattle.octet_core.specs.Grammar.{whole, RefusesUnlessMemory}
use Rattle.tlv_core.specs.Dol.{IsDol, IsDolReason}
use Rattle.program_octets.specs.Verdicts.{listed, no_list}
use Rattle.program_octets.specs.ListTexts.{list_codec}
use Rattle.program_octets.proofs.Telling.{of-stop}
use Rattle.program_octets.proofs.list.fill_with_verdict.Goals as goal

pub returns-in_ok-fill_by-in-Ok : goal.returns-in_ok-fill_by-in-Ok
returns-in_ok-fill_by-in-Ok c = record {
  answer = listed c.in-Ok.dol c.in-Ok.ensures.found.1 c.in_ok-fill_by-in-Ok.ensures;
  verdict = (c.in-Ok.dol, c.in-Ok.ensures.found);
}

pub returns-in-Err-Stop : goal.returns-in-Err-Stop
returns-in-Err-Stop c = record {
  answer = no_list c.in-Err-Stop.stop (subst (RefusesUnlessMemory whole IsDol IsDolReason c.args.octets.now)
      c.in-Err-Stop.field-0-is c.in-Err-Stop.ensures.refused) c.refused.ensures.said
      c.refused.ensures.status;
  verdict = of-stop list_codec c.args.octets.now c.in-Err-Stop.field-0 c.in-Err-Stop.stop c.in-Err-Stop.field-0-is
      c.in-Err-Stop.ensures.refused;
}
