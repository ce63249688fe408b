use Rattle.std.proofs.Common.{◌≡◌, List, [], ◌∷◌, ◌++◌, ℕ, ◌+◌, length, get_or, sym, ap, subst, ◌∙◌, arith, refl}
use Rattle.octet_core.specs.Grammar.{IsFirst, Refuses, whole}
use Rattle.octet_core.specs.declared.stop.Stop.TheVariants.{At}
use Rattle.octet_core.specs.declared.stop.Refusal.{Refusal}
use Rattle.tlv_core.specs.declared.reason.TlvReason.{TlvReason}
use Rattle.tlv_core.specs.declared.progress.Progress.{Progress}
use Rattle.tlv_core.specs.Forest.{IsForest}
use Rattle.tlv_core.specs.Parts.{Placed}
use Rattle.tlv_core.specs.Reasons.{Kept, IsReason, tlv_reasons}
use Rattle.tlv_core.specs.Progress.{kept_of}
use Rattle.tlv_core.specs.Steps.{IsStep, IsWrongAfter}
use Rattle.tlv_core.specs.Flat.{placed_of, HasGiven}
use Rattle.tlv_core.proofs.Flattening.{placed_next}
use Rattle.tlv_core.proofs.Walked.{after_count, same_placed, given_octet, next_object, next_other, given_refused}
use Rattle.tlv_core.proofs.part_walk.take_first.Goals as goal

pub returns-in-Some-clause-given : goal.returns-in-Some-clause-given
returns-in-Some-clause-given c parts h =
    let b = c.args.octets.now in
    let k = kept_of c.args.progress.now in
    let o = c.in-Some.object in
    let next = c.in-Ok.next in
    let step : IsStep k (get_or b k.count 0) next =
    subst (λ (n : ℕ). IsStep k (get_or b n 0) next) c.count.ensures c.in-Ok.ensures.ok in
    let place : c.count-in-Some.result ≡ k.count + 1 =
    c.count-in-Some.ensures ∙ ap (λ (l : Kept). l.count) c.in-Ok.ensures.after ∙ after_count k next in
    let given : placed_next (1 + length k.rooms) (k.count + 1) next ≡ placed_of c.of.result ∷ [] =
    next_object (1 + length k.rooms) (k.count + 1) next o (sym c.object.ensures ∙ c.in-Some.is)
    ∙ ap (λ (p : Placed). p ∷ []) (sym (c.of.ensures
    ∙ same_placed (c.level-depth.result + 1) (1 + length k.rooms) c.count-in-Some.result (k.count + 1) o o
    (omega (arith, c.level-depth.ensures)) place refl)) in
    subst (λ (l : List Placed). HasGiven b (kept_of c.take.new.self) (parts ++ l)) given
    (subst (λ (j : Kept). HasGiven b j (parts ++ placed_next (1 + length k.rooms) (k.count + 1) next))
    (sym c.in-Ok.ensures.after) (given_octet b k parts next c.requires.here c.requires.idle step h))

pub returns-in-None-clause-given : goal.returns-in-None-clause-given
returns-in-None-clause-given c parts h =
    let b = c.args.octets.now in
    let k = kept_of c.args.progress.now in
    let next = c.in-Ok.next in
    let step : IsStep k (get_or b k.count 0) next =
    subst (λ (n : ℕ). IsStep k (get_or b n 0) next) c.count.ensures c.in-Ok.ensures.ok in
    subst (λ (l : List Placed). HasGiven b (kept_of c.take.new.self) (parts ++ l))
    (next_other (1 + length k.rooms) (k.count + 1) next (sym c.object.ensures ∙ c.in-None.is))
    (subst (λ (j : Kept). HasGiven b j (parts ++ placed_next (1 + length k.rooms) (k.count + 1) next))
    (sym c.in-Ok.ensures.after) (given_octet b k parts next c.requires.here c.requires.idle step h))

pub returns-in-Err-clause-refused : goal.returns-in-Err-clause-refused
returns-in-Err-clause-refused c parts h =
    let b = c.args.octets.now in
    let k = kept_of c.args.progress.now in
    let err = c.in-Err.ensures.err in
    let first = subst (λ (n : ℕ). IsFirst tlv_reasons (IsWrongAfter k (get_or b n 0)) c.in-Err.reason) c.count.ensures
    err.1 in
    let stop : At k.count c.in-Err.reason ≡ c.stop.result =
    ap (λ (p : Progress). At p.ends.count c.in-Err.reason) (sym err.0)
    ∙ ap (λ (r : Refusal TlvReason). At r.place r.reason) (sym c.refusal.ensures) ∙ sym c.stop.ensures in
    subst (Refuses whole (IsForest k.max) (IsReason k.max) b) stop
    (given_refused b k parts c.in-Err.reason c.requires.here c.requires.idle first h)
