use Rattle.std.proofs.Common.{◌≡◌, ◌+◌, ◌-◌, ℕ, List, ◌++◌, length, length-append, take, drop, ap, ◌∙◌, subst, arith}
use Rattle.tlv_core.specs.Form.{shortest}
use Rattle.tlv_core.specs.Tag.{length_field}
use Rattle.tlv_core.specs.TidyForm.{ArePut}
use Rattle.tlv_core.proofs.TidyKept.{closed_put, closed_past}
use Rattle.tlv_core.proofs.tidy_form.close.Goals as goal
use Rattle.tlv_core.proofs.tidy_form.close.Goals.{then-end-out, else-end-out}

pub returns : goal.returns
returns c = λ old before value at may.
    let out = c.args.out.now in
    let now = c.if-end-out.out in
    let start = c.args.start in
    let field : List ℕ = length_field (shortest (length value)) (length value) in
    let kept = c.shortest_field-field.result.items in
    let k = length kept + c.saturating_sub-len.result in
    record {
      few = λ few.
          let put = may.few
          (omega (
            arith,
            few,
            length-append before value,
            length-append before (field ++ value),
            length-append field value,
          ))
          in
          let len : c.saturating_sub-len.result ≡ length value =
          omega (arith, c.saturating_sub-len.ensures, put.number, length-append before value) in
          let is : kept ≡ field = c.shortest_field-field.ensures ∙ ap (λ (n : ℕ). length_field (shortest n) n) len in
          let whole : start + k ≡ length (before ++ (field ++ value)) =
          omega (arith, ap length is, length-append before (field ++ value), length-append field value) in
          let next : c.kept_place.result ≡ start + k =
          omega (arith, c.kept_place.ensures, c.len.ensures.value) in
          subst (λ (l : List ℕ). ArePut old now c.kept_place.result (before ++ (l ++ value))) is
          (elim c.if-end-out.branch [
            | then-end-out w ↦
                let part = w.insert.new.out in
                let long : start + c.len.result + c.saturating_sub-len.result - start ≡ k =
                omega (arith, c.len.ensures.value) in
                closed_put old out now before value kept part start k c.args.end c.kept_place.result put at
                (omega arith) next (omega (arith, w.if-end-out.true, c.len.ensures.value))
                (w.insert.ensures
                ∙ ap (λ (m : ℕ). w.as_slice.result.now
                ++ take (length (take m (drop start out)) - length w.as_slice.result.now)
                (take m (drop start out))) long
                ∙ ap (λ (l : List ℕ). l ++ take (length (take k (drop start out)) - length l) (take k (drop start out)))
                w.as_slice.ensures.value)
                (w.out-is ∙ ap (λ (m : ℕ). take start out ++ (part ++ drop m (drop start out))) long)
                (omega arith)
            | else-end-out w ↦
                closed_past old out now before value kept start k c.args.end c.kept_place.result put at (omega arith)
                next
                (omega (arith, w.if-end-out.false, c.len.ensures.value)) w.out-is
          ]);
    }
