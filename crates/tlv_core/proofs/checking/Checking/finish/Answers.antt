use Rattle.std.proofs.Common.{sym, subst, ◌∙◌}
use Rattle.octet_core.specs.Grammar.{IsShort, whole}
use Rattle.std.proofs.lemmas.Bool.{false≢true}
use Rattle.tlv_core.specs.Forest.{IsForest}
use Rattle.tlv_core.specs.Progress.{kept_of}
use Rattle.tlv_core.proofs.Fed.{idle_end, busy_end}
use Rattle.tlv_core.proofs.checking.Checking.finish.Goals as goal

pub returns-then-is_idle-clause-verdict : goal.returns-then-is_idle-clause-verdict
returns-then-is_idle-clause-verdict c b h =
    idle_end b (kept_of c.args.self.now.progress) h.taken (c.is_idle.ensures.0 c.if-is_idle.true)

pub returns-clause-verdict : goal.returns-clause-verdict
returns-clause-verdict c b h =
    let k = kept_of c.args.self.now.progress in
    subst (IsShort whole (IsForest k.max) b) (sym c.count.ensures)
    (busy_end b k h.taken (λ idle. false≢true (sym c.if-is_idle.false ∙ c.is_idle.ensures.1 idle)))
