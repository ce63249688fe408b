use Rattle.std.proofs.Common.{subst, sym, ap, ◌∙◌, List, ℕ, []}
use Rattle.std.specs.Prelude.{IfSome}
use Rattle.tlv_core.specs.Open.{rooms_to}
use Rattle.tlv_core.specs.OpenEnds.{ends_of}
use Rattle.tlv_core.specs.Reasons.{Kept}
use Rattle.tlv_core.specs.Short.{MayCome}
use Rattle.tlv_core.proofs.Ends.{kept, same_left}
use Rattle.tlv_core.proofs.progress.Progress.next_short.Goals as goal

pub returns-clause-some : goal.returns-clause-some
returns-clause-some c =
    let s = c.args.self.now in
    let e = s.ends in
    let rooms = rooms_to e.count (ends_of e) in
    let none = c.is_nothing.ensures.0 c.if-not-is_nothing.false in
    subst (λ (k : Kept). IfSome c.next_short.result (MayCome k c.args.octets.now))
    (sym (ap (λ (l : List ℕ). kept e.max e.count rooms l s.value_left) none
    ∙ same_left e.max e.count rooms [] s.value_left 0 c.requires)) c.next_short.ensures
