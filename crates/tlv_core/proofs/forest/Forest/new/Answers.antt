use Rattle.std.proofs.Common.{sym, ◌∙◌, refl, arith}
use Rattle.std.proofs.lemmas.Bool.{false≢true}
use Rattle.tlv_core.specs.Forest.{largest}
use Rattle.tlv_core.proofs.Impropers.{first_depth, first_tag, first_form, first_size, none_improper}
use Rattle.tlv_core.proofs.forest.Forest.new.Goals as goal

pub returns-then-has_fault-clause-refused : goal.returns-then-has_fault-clause-refused
returns-then-has_fault-clause-refused c = (
  refl,
  first_depth largest c.args.nodes (c.has_fault.ensures.0 c.if-has_fault.true),
)

pub returns-then-has_fault-2-clause-refused : goal.returns-then-has_fault-2-clause-refused
returns-then-has_fault-2-clause-refused c = (
  refl,
  first_tag largest c.args.nodes (λ h. false≢true (sym c.if-has_fault.false ∙ c.has_fault.ensures.1 h))
      (c.has_fault-2.ensures.0 c.if-has_fault-2.true),
)

pub returns-then-has_fault-3-clause-refused : goal.returns-then-has_fault-3-clause-refused
returns-then-has_fault-3-clause-refused c = (
  refl,
  first_form largest c.args.nodes (λ h. false≢true (sym c.if-has_fault.false ∙ c.has_fault.ensures.1 h))
      (λ h. false≢true (sym c.if-has_fault-2.false ∙ c.has_fault-2.ensures.1 h))
      (c.has_fault-3.ensures.0 c.if-has_fault-3.true),
)

pub returns-then-octets_of-gt-LARGEST_FOREST-clause-refused :
    goal.returns-then-octets_of-gt-LARGEST_FOREST-clause-refused
returns-then-octets_of-gt-LARGEST_FOREST-clause-refused c = (
  refl,
  first_size largest c.args.nodes (λ h. false≢true (sym c.if-has_fault.false ∙ c.has_fault.ensures.1 h))
      (λ h. false≢true (sym c.if-has_fault-2.false ∙ c.has_fault-2.ensures.1 h))
      (λ h. false≢true (sym c.if-has_fault-3.false ∙ c.has_fault-3.ensures.1 h))
      (omega (arith, c.octets_of.ensures.count, c.if-octets_of-gt-LARGEST_FOREST.true)),
)

pub invariant_of-result : goal.invariant_of-result
invariant_of-result c =
    none_improper largest c.args.nodes c.octets_of.ensures.objects
    (λ h. false≢true (sym c.if-has_fault.false ∙ c.has_fault.ensures.1 h))
    (λ h. false≢true (sym c.if-has_fault-2.false ∙ c.has_fault-2.ensures.1 h))
    (λ h. false≢true (sym c.if-has_fault-3.false ∙ c.has_fault-3.ensures.1 h))
    (omega (arith, c.octets_of.ensures.count, c.if-octets_of-gt-LARGEST_FOREST.false))

pub returns-clause-forest : goal.returns-clause-forest
returns-clause-forest c = (
  refl,
  none_improper largest c.args.nodes c.octets_of.ensures.objects
      (λ h. false≢true (sym c.if-has_fault.false ∙ c.has_fault.ensures.1 h))
      (λ h. false≢true (sym c.if-has_fault-2.false ∙ c.has_fault-2.ensures.1 h))
      (λ h. false≢true (sym c.if-has_fault-3.false ∙ c.has_fault-3.ensures.1 h))
      (omega (arith, c.octets_of.ensures.count, c.if-octets_of-gt-LARGEST_FOREST.false)),
)
