use Rattle.std.proofs.Common.{refl}
use Rattle.tlv_core.specs.Lent.{checked_at}
use Rattle.c_lent.proofs.lent_check.lent_check_begin.Goals as goal

pub returns-clause-ok : goal.returns-clause-ok
returns-clause-ok c = λ _. record {
  check = checked_at c.begin.result;
  is = record { check = c.begin.result; spelled = c.of.ensures.kept; fit = c.begin.ensures.fit; held = refl };
  limit = c.begin.ensures.limit;
  nothing = c.begin.ensures.nothing;
  verdict = c.ok.ensures;
}
