use Rattle.std.proofs.Common.{◌∙◌, ℕ, length, refl, sym, ap, subst, arith}
use Rattle.std.proofs.lemmas.Bool.{false≢true}
use Rattle.octet_core.specs.Grammar.{IsShort, whole}
use Rattle.tlv_core.specs.Tree.{Tree}
use Rattle.tlv_core.specs.Forest.{IsForest, HasSpelling, largest}
use Rattle.tlv_core.specs.Progress.{kept_of}
use Rattle.tlv_core.specs.Read.{Reading, grown_of, HasRead}
use Rattle.tlv_core.proofs.Fed.{busy_end}
use Rattle.tlv_core.proofs.Grows.{idle_grown}
use Rattle.tlv_core.proofs.reader.ForestReader.finish.Goals as goal

-- the innermost list is the forest of the octets
pub of-requires : goal.of-requires
of-requires c =
    let k = kept_of c.self.inside.progress in
    let b = c.self.invariant.0 in
    let h = c.self.invariant.1 in
    let list = (grown_of c.self.inside.tree).list in
    let forest = idle_grown b k (grown_of c.self.inside.tree) h.taken h.grown (c.is_idle.ensures.0 c.if-is_idle.true) in
    let spelled : HasSpelling largest list =
    record {
      proper = forest.proper;
      is = refl;
      size =
          omega (arith, forest.size, ap length forest.is, c.self.inside.progress.ends.limit);
    } in
    subst (HasSpelling largest) (sym c.into_nodes.ensures) spelled

pub returns-then-is_idle-clause-verdict : goal.returns-then-is_idle-clause-verdict
returns-then-is_idle-clause-verdict c b h =
    let k = kept_of c.self.inside.progress in
    let o = subst (HasRead b) (sym c.self.view_is) h in
    let forest = idle_grown b k (grown_of c.self.inside.tree) o.begun.taken o.begun.grown
    (c.is_idle.ensures.0 c.if-is_idle.true) in
    subst (λ (m : ℕ). IsForest m c.of.result b) (ap (λ (q : Reading). q.kept.max) c.self.view_is)
    (subst (λ (t : Tree). IsForest k.max t b) (sym (c.of.ensures ∙ c.into_nodes.ensures)) forest)

pub returns-clause-verdict : goal.returns-clause-verdict
returns-clause-verdict c b h =
    let k = kept_of c.self.inside.progress in
    let o = subst (HasRead b) (sym c.self.view_is) h in
    let short = busy_end b k o.begun.taken (λ idle. false≢true (sym c.if-is_idle.false ∙ c.is_idle.ensures.1 idle)) in
    subst (λ (m : ℕ). IsShort whole (IsForest m) b c.count.result) (ap (λ (q : Reading). q.kept.max) c.self.view_is)
    (subst (IsShort whole (IsForest k.max) b) (sym c.count.ensures) short)
