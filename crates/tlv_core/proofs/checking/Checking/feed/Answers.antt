use Rattle.std.proofs.Common.{◌≡◌, ◌-◌, ◌<◌, ◌++◌, ◌∙◌, ℕ, List, refl, sym, subst, ap, take, drop, length, get_or, append-nil, arith}
use Rattle.octet_core.specs.Grammar.{RefusesAt, IsFirst, whole}
use Rattle.octet_core.specs.Octets.{AreOctets}
use Rattle.octet_core.proofs.Lists.{octets-take, octets-drop}
use Rattle.octet_core.specs.declared.stop.Stop.TheVariants.{At}
use Rattle.octet_core.specs.declared.stop.Refusal.{Refusal}
use Rattle.tlv_core.specs.declared.reason.TlvReason.{TlvReason}
use Rattle.tlv_core.specs.declared.progress.Progress.{Progress}
use Rattle.tlv_core.specs.Forest.{IsForest}
use Rattle.tlv_core.specs.Reasons.{HasTaken, IsReason, tlv_reasons}
use Rattle.tlv_core.specs.Steps.{IsWrongAfter}
use Rattle.tlv_core.specs.Progress.{kept_of}
use Rattle.tlv_core.proofs.Fed.{fed_more, fed_refused, fed_some, rest_of}
use Rattle.tlv_core.proofs.checking.Checking.feed.Goals as goal

pub loop-taken-preserved : goal.loop-taken-preserved
loop-taken-preserved c =
    let l = c.loop-taken in
    let piece = c.args.piece.now in (
      fed_more (kept_of c.args.self.now.progress) (kept_of l.self.progress) (kept_of c.advance.new.self) piece
          (take (length piece - l.taken) (drop l.taken piece)) l.taken c.in-Ok.count l.invariant.0
          (rest_of piece l.taken)
          c.in-Ok.ensures.some.1 c.in-Ok.ensures.max c.in-Ok.ensures.ok,
      l.invariant.1,
    )

pub returns-in-Err-clause-refused : goal.returns-in-Err-clause-refused
returns-in-Err-clause-refused c b h =
    let l = c.loop-taken in
    let piece = c.args.piece.now in
    let before = kept_of c.args.self.now.progress in
    let err = c.in-Err.ensures.err in
    let stop : At l.self.progress.ends.count c.in-Err.reason ≡ c.stop-in-Err.result =
    ap (λ (p : Progress). At p.ends.count c.in-Err.reason) (sym err.0)
    ∙ ap (λ (r : Refusal TlvReason). At r.place r.reason) (sym c.refusal-in-Err.ensures) ∙ sym c.stop-in-Err.ensures in
    subst (RefusesAt whole (IsForest before.max) (IsReason before.max) (b ++ piece)) stop
    (fed_refused before (kept_of l.self.progress) piece (take (length piece - l.taken) (drop l.taken piece)) l.taken
    c.in-Err.reason b l.invariant.0 c.loop-taken-test.true (rest_of piece l.taken) err.1 err.2 h.taken)

pub returns-in-Err-clause-some : goal.returns-in-Err-clause-some
returns-in-Err-clause-some c = λ some.
    let before = kept_of c.args.self.now.progress in
    let l = c.loop-taken in
    let so_far = fed_some before (kept_of l.self.progress) c.args.piece.now l.taken before refl l.invariant.0 some in
    (so_far.0, subst (λ (p : Progress). HasTaken so_far.0 (kept_of p)) (sym c.in-Err.ensures.err.0) so_far.1)

pub returns-clause-some : goal.returns-clause-some
returns-clause-some c = λ some.
    let before = kept_of c.args.self.now.progress in
    fed_some before (kept_of c.loop-taken.self.progress) c.args.piece.now c.loop-taken.taken before refl
    c.loop-taken.invariant.0 some

pub returns-in-Err-clause-may : goal.returns-in-Err-clause-may
returns-in-Err-clause-may c = λ before.
    let piece : List ℕ = c.args.piece.now in
    let i : ℕ = c.loop-taken.taken in
    let rest : List ℕ = take (length piece - i) (drop i piece) in
    let octets : AreOctets piece = λ k. omega (arith, c.type_inv.piece k) in
    let small : get_or rest 0 0 < 256 = octets-take (length piece - i) (drop i piece) (octets-drop i piece octets) 0 in
    let err = c.in-Err.ensures.err in
    subst (λ (s : Progress). (s.value_left ≡ 0) × (x : ℕ) × (x < 256)
    × IsFirst tlv_reasons (IsWrongAfter (kept_of s) x) c.in-Err.reason) (sym err.0)
    (err.1, get_or rest 0 0, small, err.2)

pub returns-in-Some-clause-led : goal.returns-in-Some-clause-led
returns-in-Some-clause-led c b h =
    (0, omega arith, subst (λ (l : List ℕ). HasTaken l (kept_of c.args.self.now.progress)) (sym (append-nil b)) h)

pub returns-in-Err-clause-led : goal.returns-in-Err-clause-led
returns-in-Err-clause-led c b h =
    let l = c.loop-taken in (
      l.taken,
      l.invariant.0.within,
      subst (λ (p : Progress). HasTaken (b ++ take l.taken c.args.piece.now) (kept_of p)) (sym c.in-Err.ensures.err.0)
          (l.invariant.0.stands b h),
    )

pub returns-clause-led : goal.returns-clause-led
returns-clause-led c b h =
    let l = c.loop-taken in (l.taken, l.invariant.0.within, l.invariant.0.stands b h)
