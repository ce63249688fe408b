use Rattle.std.proofs.Common.{◌≡◌, ◌∙◌, sym, ap, refl, length, rules, arith}
use Rattle.std.proofs.lemmas.Bool.{false≢true}
use Rattle.tlv_core.specs.Tree.{tree_size}
use Rattle.tlv_core.specs.Nodes.{tree_of}
use Rattle.tlv_core.proofs.Alike.{one_list, one_at, more_alike, lighter, whole_alike}
use Rattle.tlv_core.proofs.same.+same.Goals as goal

pub are_same-returns-then-nodes-others : goal.are_same-returns-then-nodes-others
are_same-returns-then-nodes-others t c = (
  λ e. absurd (false≢true e),
  λ e. let long : length c.get-nodes.result.now ≡ length c.get-others.result.now =
      ap length (one_list c.get-nodes.result.now c.get-others.result.now
      (c.get-nodes.ensures ∙ e ∙ sym c.get-others.ensures)) in search (rules, long),
)

pub are_same-is_same-requires : goal.are_same-is_same-requires
are_same-is_same-requires t c =
    let light = lighter c.get-nodes.result.now c.loop-place.place c.index-nodes-place.result c.loop-place-test.true
    c.index-nodes-place.is in
    (omega (arith, light, c.decreases, ap tree_size c.get-nodes.ensures), tt)

pub are_same-returns-then-not-is_same : goal.are_same-returns-then-not-is_same
are_same-returns-then-not-is_same t c = (
  λ e. absurd (false≢true e),
  λ e. let same =
      one_at c.get-nodes.result.now c.get-others.result.now c.loop-place.place c.index-nodes-place.result
      c.index-others-place.result c.loop-place-test.true c.index-nodes-place.is c.index-others-place.is
      (one_list c.get-nodes.result.now c.get-others.result.now (c.get-nodes.ensures ∙ e ∙ sym c.get-others.ensures))
      in search (rules, same),
)

pub are_same-loop-place-preserved : goal.are_same-loop-place-preserved
are_same-loop-place-preserved t c =
    more_alike c.get-nodes.result.now c.get-others.result.now c.loop-place.place c.index-nodes-place.result
    c.index-others-place.result c.loop-place-test.true
    (omega (arith, c.loop-place-test.true, c.if-nodes-others.false)) c.index-nodes-place.is c.index-others-place.is
    (c.is_same.ensures.0 c.if-not-is_same.false) c.loop-place.invariant

pub are_same-returns : goal.are_same-returns
are_same-returns t c =
    let same = whole_alike c.get-nodes.result.now c.get-others.result.now c.loop-place.place c.loop-place-test.false
    (omega (arith, c.loop-place-test.false, c.if-nodes-others.false)) c.loop-place.invariant in
    (λ e. sym c.get-nodes.ensures ∙ ap tree_of same ∙ c.get-others.ensures, λ e. refl)
