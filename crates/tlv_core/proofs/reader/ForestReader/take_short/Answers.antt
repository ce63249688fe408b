use Rattle.std.proofs.Common.{◌≡◌, ◌∙◌, ◌<◌, ◌+◌, ℕ, List, ◌++◌, length, take, sym, ap, subst, arith}
use Rattle.std.specs.Prelude.{Bool, true, false, cond}
use Rattle.octet_core.specs.Octets.{AreOctets}
use Rattle.tlv_core.specs.Progress.{kept_of}
use Rattle.tlv_core.specs.Reasons.{Kept}
use Rattle.tlv_core.specs.Short.{taken_of, after_short}
use Rattle.tlv_core.specs.Grown.{HasGrown}
use Rattle.tlv_core.specs.Read.{reading_of, grown_of, HasBegun, HasRead}
use Rattle.tlv_core.proofs.Shorts.{short_taken}
use Rattle.tlv_core.proofs.reader.ForestReader.take_short.Goals as goal

some_of : (is_constructed : Bool) (header len : ℕ) → 0 < header → 0 < cond is_constructed header (header + len)
some_of true header len some = some
some_of false header len some = omega arith

at_once : (c : goal.After-taken) (b : List ℕ)
    → HasBegun b (reading_of c.self.inside.progress c.self.inside.tree c.self.inside.refusal)
    → HasBegun (b ++ take c.taken.result c.args.octets.now)
    (reading_of c.pass.new.self c.take_short.new.self c.self.inside.refusal)
at_once c b h =
    let k = kept_of c.self.inside.progress in
    let o = c.in-Some.short in
    let may = c.in-Some.ensures.some in
    let octets : AreOctets c.args.octets.now = λ i. omega (arith, c.type_inv.octets i) in
    let level : length (after_short k o).rooms ≡ c.level.result =
    ap (λ (l : Kept). length l.rooms) (sym c.pass.ensures.after) ∙ sym c.level.ensures in
    let grown = c.take_short.ensures b c.args.octets.now k (record
    { taken = h.taken; are = octets; may = may; grown = subst (HasGrown b k) (sym c.reserve.ensures.same) h.grown })
    (c.in_ok-value.ensures ∙ c.value.ensures) level in
    subst (λ (m : ℕ). HasBegun (b ++ take m c.args.octets.now)
    (reading_of c.pass.new.self c.take_short.new.self c.self.inside.refusal)) (sym c.taken.ensures)
    (subst (λ (l : Kept). HasBegun (b ++ take (taken_of o) c.args.octets.now)
    (record { kept = l; tree = grown_of c.take_short.new.self; refusal = c.self.inside.refusal }))
    (sym c.pass.ensures.after)
    (record { taken = short_taken b c.args.octets.now k o may octets h.taken; grown = grown }))

pub invariant_of-self-2 : goal.invariant_of-self-2
invariant_of-self-2 c = (
  c.self.invariant.0
      ++ take c.taken.result c.args.octets.now,
  at_once c c.self.invariant.0 c.self.invariant.1,
)

pub returns-clause-some : goal.returns-clause-some
returns-clause-some c =
    let o = c.in-Some.short in
    let may = c.in-Some.ensures.some in
    let header : 0 < o.header = omega (arith, may.short.longer) in (
      omega (arith, some_of o.is_constructed o.header o.len header, c.taken.ensures),
      omega (arith, may.here, c.taken.ensures),
      λ b h.
          let r = subst (HasRead b) (sym c.self.view_is) h in record { begun = at_once c b r.begun; none = r.none },
    )
