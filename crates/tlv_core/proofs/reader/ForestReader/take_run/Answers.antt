use Rattle.std.proofs.Common.{◌≡◌, ◌∙◌, ◌<◌, ℕ, List, ◌++◌, length, take, sym, ap, subst, arith}
use Rattle.std.specs.Prelude.{Option}
use Rattle.std.proofs.lemmas.List.{length-take}
use Rattle.octet_core.specs.Octets.{AreOctets}
use Rattle.octet_core.proofs.Lists.{octets-take}
use Rattle.octet_core.specs.declared.stop.Refusal.{Refusal}
use Rattle.tlv_core.specs.declared.partial.Partial.{Partial}
use Rattle.tlv_core.specs.declared.progress.Progress.{Progress}
use Rattle.tlv_core.specs.declared.reason.TlvReason.{TlvReason}
use Rattle.tlv_core.specs.Progress.{kept_of}
use Rattle.tlv_core.specs.Reasons.{Kept}
use Rattle.tlv_core.specs.Steps.{after_run}
use Rattle.tlv_core.specs.Read.{Reading, reading_of, grown_of, HasBegun, HasRead}
use Rattle.tlv_core.proofs.Reading.{part_begun, whole_begun, of_ok}
use Rattle.tlv_core.proofs.reader.ForestReader.take_run.Goals as goal

left_of : (p : Progress) (tree : Partial) (refusal : Option (Refusal TlvReason)) (r : Reading)
    → reading_of p tree refusal ≡ r → 0 < r.kept.value_left → 0 < p.value_left
left_of p tree refusal r is some = subst (λ (q : Reading). 0 < q.kept.value_left) (sym is) some

-- these are the last octets of the value
ended : (c : goal.After-end_value) (b : List ℕ)
    → HasBegun b (reading_of c.self.inside.progress c.self.inside.tree c.self.inside.refusal)
    → HasBegun (b ++ take c.min-run.result c.args.octets.now)
    (reading_of c.skip.new.self c.end_value.new.self c.self.inside.refusal)
ended c b h =
    let k = kept_of c.self.inside.progress in
    let run = c.min-run.result in
    let add = take run c.args.octets.now in
    let octets : AreOctets c.args.octets.now = λ i. omega (arith, c.type_inv.octets i) in
    let grown = of_ok c.extend.result (sym c.is_err.ensures.value ∙ c.if-is_err.false) c.extend.ensures.ok in
    let some : 0 < k.value_left = left_of c.self.inside.progress c.self.inside.tree c.self.inside.refusal
    c.args.self.now c.self.view_is c.requires.under_way in
    let level : length (after_run k run).rooms ≡ c.level.result =
    ap (λ (l : Kept). length l.rooms) (sym c.skip.ensures) ∙ sym c.level.ensures in
    subst (λ (l : Kept). HasBegun (b ++ add)
    (record { kept = l; tree = grown_of c.end_value.new.self; refusal = c.self.inside.refusal }))
    (sym c.skip.ensures)
    (whole_begun b k c.self.inside.tree c.extend.new.self c.end_value.new.self run add c.self.inside.refusal
    (omega (arith, length-take run c.args.octets.now, c.min-run.ensures)) (octets-take run c.args.octets.now octets)
    (omega (arith, c.min-run.ensures, c.value_left-left.ensures, some, c.requires.some))
    (omega (arith, c.if-run-left.true, c.value_left-left.ensures)) grown c.end_value.ensures.idle
    (λ v closed is. c.end_value.ensures.closed v (b ++ add) (after_run k run).rooms closed is level) h)

-- more octets of it are to come
under_way : (c : goal.Else-run-left) (b : List ℕ)
    → HasBegun b (reading_of c.self.inside.progress c.self.inside.tree c.self.inside.refusal)
    → HasBegun (b ++ take c.min-run.result c.args.octets.now)
    (reading_of c.skip.new.self c.extend.new.self c.self.inside.refusal)
under_way c b h =
    let k = kept_of c.self.inside.progress in
    let run = c.min-run.result in
    let add = take run c.args.octets.now in
    let octets : AreOctets c.args.octets.now = λ i. omega (arith, c.type_inv.octets i) in
    let grown = of_ok c.extend.result (sym c.is_err.ensures.value ∙ c.if-is_err.false) c.extend.ensures.ok in
    let some : 0 < k.value_left = left_of c.self.inside.progress c.self.inside.tree c.self.inside.refusal
    c.args.self.now c.self.view_is c.requires.under_way in
    subst (λ (l : Kept). HasBegun (b ++ add)
    (record { kept = l; tree = grown_of c.extend.new.self; refusal = c.self.inside.refusal })) (sym c.skip.ensures)
    (part_begun b k c.self.inside.tree c.extend.new.self run add c.self.inside.refusal
    (omega (arith, length-take run c.args.octets.now, c.min-run.ensures)) (octets-take run c.args.octets.now octets)
    (omega (arith, c.min-run.ensures, c.value_left-left.ensures, some, c.requires.some))
    (omega (arith, c.if-run-left.false, c.min-run.ensures, c.value_left-left.ensures)) grown h)

pub invariant_of-self-then-run-left : goal.invariant_of-self-then-run-left
invariant_of-self-then-run-left c = (
  c.self.invariant.0
      ++ take c.min-run.result c.args.octets.now,
  ended c c.self.invariant.0 c.self.invariant.1,
)

pub invariant_of-self-else-run-left : goal.invariant_of-self-else-run-left
invariant_of-self-else-run-left c = (
  c.self.invariant.0
      ++ take c.min-run.result c.args.octets.now,
  under_way c c.self.invariant.0 c.self.invariant.1,
)

pub returns-then-run-left-clause-advanced : goal.returns-then-run-left-clause-advanced
returns-then-run-left-clause-advanced c =
    let some : 0 < c.self.inside.progress.value_left = left_of c.self.inside.progress c.self.inside.tree
    c.self.inside.refusal c.args.self.now c.self.view_is c.requires.under_way in (
      omega (arith, c.min-run.ensures, c.value_left-left.ensures, some, c.requires.some),
      omega (arith, c.min-run.ensures),
      λ b h.
          let o = subst (HasRead b) (sym c.self.view_is) h in record { begun = ended c b o.begun; none = o.none },
    )

pub returns-else-run-left-clause-advanced : goal.returns-else-run-left-clause-advanced
returns-else-run-left-clause-advanced c =
    let some : 0 < c.self.inside.progress.value_left = left_of c.self.inside.progress c.self.inside.tree
    c.self.inside.refusal c.args.self.now c.self.view_is c.requires.under_way in (
      omega (arith, c.min-run.ensures, c.value_left-left.ensures, some, c.requires.some),
      omega (arith, c.min-run.ensures),
      λ b h.
          let o = subst (HasRead b) (sym c.self.view_is) h in record { begun = under_way c b o.begun; none = o.none },
    )
