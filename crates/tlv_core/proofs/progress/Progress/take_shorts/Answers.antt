use Rattle.std.proofs.Common.{◌≡◌, ◌+◌, ◌-◌, ◌++◌, ◌∙◌, List, ℕ, length, take, drop, sym, subst, ap, arith}
use Rattle.std.proofs.lemmas.List.{length-take, length-drop, append_assoc, take_rest}
use Rattle.std.proofs.Math.Seq.{take-add}
use Rattle.octet_core.specs.Octets.{AreOctets}
use Rattle.octet_core.proofs.Lists.{octets-take, octets-drop}
use Rattle.tlv_core.specs.Reasons.{Kept, HasTaken}
use Rattle.tlv_core.specs.Short.{taken_of, after_short}
use Rattle.tlv_core.specs.OpenEnds.{kept_idle}
use Rattle.tlv_core.proofs.Shorts.{short_taken}
use Rattle.tlv_core.proofs.progress.Progress.take_shorts.Goals as goal

pub loop-object-preserved : goal.loop-object-preserved
loop-object-preserved c =
    let l = c.loop-object in
    let o = c.in-Some.object in
    let all = c.args.octets.now in
    let rest : List ℕ = take (length all - l.taken) (drop l.taken all) in
    let may = c.in-Some.ensures in
    let are : AreOctets all = λ i. omega (arith, c.type_inv.octets i) in
    let left : length rest ≡ length all - l.taken =
    omega (arith, length-take (length all - l.taken) (drop l.taken all), length-drop l.taken all) in
    record {
      max = ap (λ (k : Kept). k.max) c.pass.ensures ∙ l.invariant.max;
      within = omega (arith, may.here, left, l.invariant.within, c.taken-taken.ensures);
      taken = λ b h.
          let more = short_taken (b ++ take l.taken all) rest (kept_idle l.ends) o may
          (octets-take (length all - l.taken) (drop l.taken all) (octets-drop l.taken all are)) (l.invariant.taken b h)
          in
          let front : take (taken_of o) rest ≡ take c.taken-taken.result (drop l.taken all) =
          ap (λ (m : List ℕ). take (taken_of o) m) (take_rest all l.taken) ∙ ap (λ (n : ℕ). take n (drop l.taken all))
          (sym c.taken-taken.ensures) in
          let is : (b ++ take l.taken all) ++ take (taken_of o) rest ≡ b ++ take (l.taken + c.taken-taken.result) all =
          append_assoc b (take l.taken all) (take (taken_of o) rest)
          ∙ ap (λ (m : List ℕ). b ++ (take l.taken all ++ m)) front
          ∙ ap (λ (m : List ℕ). b ++ m) (sym (take-add l.taken c.taken-taken.result all)) in
          subst (λ (k : Kept). HasTaken (b ++ take (l.taken + c.taken-taken.result) all) k) (sym c.pass.ensures)
          (subst (λ (m : List ℕ). HasTaken m (after_short (kept_idle l.ends) o)) is more);
    }
