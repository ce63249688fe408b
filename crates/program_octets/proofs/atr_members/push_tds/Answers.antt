use Rattle.std.proofs.Common.{◌∙◌, ◌+◌, ◌<◌, ◌-◌, List, ℕ, ap, drop, length, rules, take}
use Rattle.atr_core.specs.declared.atr.Indicated.{Indicated}
use Rattle.program_octets.specs.AtrTexts.{with_tds}
use Rattle.program_octets.proofs.Tds.{all-after, first-td}
use Rattle.program_octets.proofs.atr_members.push_tds.Goals as goal

pub loop-rest-preserved : goal.loop-rest-preserved
loop-rest-preserved c =
    let rest : List Indicated = c.loop-rest.rest.now in
    let after : List Indicated = take (length rest - 1) (drop 1 rest) in
    record {
      whole = ap (λ (l : List ℕ). with_tds l (c.loop-rest.number + 1) after) c.in_ok-push_td.ensures
          ∙ first-td _ c.loop-rest.number rest _ c.octet-octet.result c.is_empty.result c.in-len1-up.len_at_least
          c.is_empty.ensures c.octet-octet.ensures ∙ c.loop-rest.invariant.whole;
      count = search rules;
      protocols = all-after (λ x. x.protocol < 16) rest c.in-len1-up.len_at_least c.loop-rest.invariant.protocols;
    }
