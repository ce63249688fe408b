use Rattle.std.proofs.Common.{◌≡◌, ◌∙◌, ◌++◌, ℕ, List, subst, ap, refl, sym, inl, inr}
use Rattle.tlv_core.specs.Tag.{constructed_bit}
use Rattle.tlv_core.specs.TidyForm.{Growing, IsKeptOf, after_tag, closed_to, so_far, with_length}
use Rattle.tlv_core.proofs.Stands.{bit_cases}
use Rattle.tlv_core.proofs.TidyKept.{added_kept}
use Rattle.tlv_core.proofs.tidy_form.TidyForm.take.Goals as goal

-- after the tag, of an object with this bit for constructed
by_bit : (bit is : ℕ) (value : List ℕ) (opened : List (List ℕ)) (list tag octets : List ℕ) → bit ≡ is → octets ≡ tag
    → after_tag is value opened (list ++ octets) ≡ after_tag bit value opened (list ++ tag)
by_bit bit is value opened list tag octets e same =
    ap (λ (b : ℕ). after_tag b value opened (list ++ octets)) (sym e)
    ∙ ap (λ (l : List ℕ). after_tag bit value opened (list ++ l)) same

pub returns-then-is_constructed : goal.returns-then-is_constructed
returns-then-is_constructed c = λ old g h.
    let part = c.args.part.now in
    let closed = closed_to part.depth g.opened g.list in
    let octets = c.octets.result.now in
    let form = c.close_to.new.self in
    let tagged : Growing = record { opened = closed.opened; list = closed.list ++ octets } in
    let tag = added_kept old c.close_to.new.out c.append-self.new.out form
    (record { starts = form.starts; end = c.append-self.result }) closed.opened closed.list octets refl
    (λ put. c.append-self.ensures old (so_far closed.opened closed.list) put) (c.close_to.ensures old g h) in
    subst (IsKeptOf old c.append-self.new.out c.open.new.self)
    (by_bit (constructed_bit part.tag) 1 part.value.now closed.opened closed.list part.tag octets
    (c.is_constructed.ensures.0 c.if-is_constructed.true) c.octets.ensures.value)
    (c.open.ensures old c.append-self.new.out tagged tag)

pub returns-else-is_constructed : goal.returns-else-is_constructed
returns-else-is_constructed c = λ old g h.
    let part = c.args.part.now in
    let closed = closed_to part.depth g.opened g.list in
    let octets = c.octets.result.now in
    let form = c.close_to.new.self in
    let tag = added_kept old c.close_to.new.out c.append-self.new.out form
    (record { starts = form.starts; end = c.append-self.result }) closed.opened closed.list octets refl
    (λ put. c.append-self.ensures old (so_far closed.opened closed.list) put) (c.close_to.ensures old g h) in
    let value = added_kept old c.append-self.new.out c.append_value-self.new.out
    (record { starts = form.starts; end = c.append-self.result })
    (record { starts = form.starts; end = c.append_value-self.result }) closed.opened (closed.list ++ octets)
    (with_length part.value.now) refl
    (λ put. c.append_value-self.ensures old (so_far closed.opened (closed.list ++ octets)) put) tag in
    let bit : constructed_bit part.tag ≡ 0 = elim (bit_cases part.tag) [
      | inl zero ↦ zero
      | inr one ↦ (let yes = c.is_constructed.ensures.1 one in let no = c.if-is_constructed.false in absurd cc)
    ] in
    subst (IsKeptOf old c.append_value-self.new.out (record { starts = form.starts; end = c.append_value-self.result }))
    (by_bit (constructed_bit part.tag) 0 part.value.now closed.opened closed.list part.tag octets bit
    c.octets.ensures.value) value
