use Rattle.std.proofs.Common.{◌≡◌, ◌∙◌, ℕ, ◌+◌, List, [], ◌∷◌, ◌++◌, length, take, get_or, refl, sym, ap, subst, arith, append-nil}
use Rattle.std.specs.Prelude.{Option, Some}
use Rattle.octet_core.specs.Grammar.{RefusesAt, whole}
use Rattle.octet_core.specs.declared.stop.Stop.TheVariants.{At}
use Rattle.octet_core.specs.declared.stop.Refusal.{Refusal}
use Rattle.tlv_core.specs.declared.partial.Partial.{Partial}
use Rattle.tlv_core.specs.declared.progress.Progress.{Progress}
use Rattle.tlv_core.specs.declared.reason.TlvReason.{TlvReason}
use Rattle.tlv_core.specs.Forest.{IsForest}
use Rattle.tlv_core.specs.Progress.{kept_of}
use Rattle.tlv_core.specs.Reasons.{Kept, IsReason}
use Rattle.tlv_core.specs.Steps.{after_next}
use Rattle.tlv_core.specs.Grown.{Grown}
use Rattle.tlv_core.specs.Read.{Reading, reading_of, grown_of, HasBegun, HasRead}
use Rattle.tlv_core.proofs.Ends.{take_one}
use Rattle.tlv_core.proofs.Reading.{octet_begun, octet_refused}
use Rattle.tlv_core.proofs.reader.ForestReader.take_first.Goals as goal

idle_of : (p : Progress) (tree : Partial) (refusal : Option (Refusal TlvReason)) (r : Reading)
    → reading_of p tree refusal ≡ r → r.kept.value_left ≡ 0 → p.value_left ≡ 0
idle_of p tree refusal r is idle = subst (λ (q : Reading). q.kept.value_left ≡ 0) (sym is) idle

taken : (c : goal.After-take-in-Ok) (b : List ℕ)
    → HasBegun b (reading_of c.self.inside.progress c.self.inside.tree c.self.inside.refusal)
    → HasBegun (b ++ take 1 c.args.octets.now) (reading_of c.take.new.self c.take-in-Ok.new.self c.self.inside.refusal)
taken c b h =
    let k = kept_of c.self.inside.progress in
    let x = get_or c.args.octets.now 0 0 in
    let z : k.value_left ≡ 0 = idle_of c.self.inside.progress c.self.inside.tree c.self.inside.refusal c.args.self.now
    c.self.view_is c.requires.idle in
    let level : length (after_next k c.in-Ok.next).rooms ≡ c.level.result =
    ap (λ (l : Kept). length l.rooms) (sym c.in-Ok.ensures.after) ∙ sym c.level.ensures in
    subst (λ (l : List ℕ). HasBegun (b ++ l) (reading_of c.take.new.self c.take-in-Ok.new.self c.self.inside.refusal))
    (sym (take_one c.args.octets.now c.requires.some))
    (subst (λ (l : Kept). HasBegun (b ++ x ∷ [])
    (record { kept = l; tree = grown_of c.take-in-Ok.new.self; refusal = c.self.inside.refusal }))
    (sym c.in-Ok.ensures.after)
    (octet_begun b k x c.in-Ok.next c.self.inside.tree c.reserve.new.self (grown_of c.take-in-Ok.new.self)
    c.self.inside.refusal z c.in-Ok.ensures.ok c.reserve.ensures.same (λ t. c.take-in-Ok.ensures b k x t level) h))

pub invariant_of-self-in-Ok : goal.invariant_of-self-in-Ok
invariant_of-self-in-Ok c = (
  c.self.invariant.0
      ++ take 1 c.args.octets.now,
  taken c c.self.invariant.0 c.self.invariant.1,
)

pub returns-in-Ok-clause-advanced : goal.returns-in-Ok-clause-advanced
returns-in-Ok-clause-advanced c = (
  omega arith,
  omega (arith, c.requires.some),
  λ b h. let o = subst (HasRead b) (sym c.self.view_is) h in record { begun = taken c b o.begun; none = o.none },
)

-- the reader as it was, but for the refusal
pub returns-in-Err-clause-advanced : goal.returns-in-Err-clause-advanced
returns-in-Err-clause-advanced c b h =
    let p = c.self.inside.progress in
    let k = kept_of p in
    let o = subst (HasRead b) (sym c.self.view_is) h in
    let err = c.in-Err.ensures.err in
    let z : k.value_left ≡ 0 = idle_of c.self.inside.progress c.self.inside.tree c.self.inside.refusal c.args.self.now
    c.self.view_is c.requires.idle in
    let r = c.refusal-refusal.result in
    let stop : At k.count c.in-Err.reason ≡ c.stop.result =
    ap (λ (q : Progress). At q.ends.count c.in-Err.reason) (sym err.0)
    ∙ ap (λ (q : Refusal TlvReason). At q.place q.reason) (sym c.refusal-refusal.ensures) ∙ sym c.stop.ensures in
    let max : k.max ≡ c.args.self.now.kept.max = ap (λ (q : Reading). q.kept.max) c.self.view_is in
    let place : r.place ≡ length b + 0 = ap (λ (q : Refusal TlvReason). q.place) c.refusal-refusal.ensures
    ∙ ap (λ (q : Progress). q.ends.count) err.0 ∙ sym o.begun.taken.count ∙ omega arith in
    let same : reading_of p c.self.inside.tree (Some r) ≡ reading_of c.take.new.self c.reserve.new.self (Some r) =
    ap (λ (q : Progress). reading_of q c.self.inside.tree (Some r)) (sym err.0)
    ∙ ap (λ (g : Grown). record { kept = kept_of c.take.new.self; tree = g; refusal = Some r })
    (sym c.reserve.ensures.same) in
    let begun : HasBegun b (reading_of p c.self.inside.tree (Some r)) =
    record { taken = o.begun.taken; grown = o.begun.grown } in (
      omega arith,
      subst (λ (l : List ℕ). HasBegun l (reading_of c.take.new.self c.reserve.new.self (Some r))) (sym (append-nil b))
          (subst (HasBegun b) same begun),
      subst (λ (m : ℕ). RefusesAt whole (IsForest m) (IsReason m) (b ++ c.args.octets.now) c.stop.result) max
          (subst (RefusesAt whole (IsForest k.max) (IsReason k.max) (b ++ c.args.octets.now)) stop
          (octet_refused b k c.args.octets.now c.in-Err.reason c.requires.some z err.1 o.begun.taken)),
      (r, refl, c.stop.ensures, place),
    )
