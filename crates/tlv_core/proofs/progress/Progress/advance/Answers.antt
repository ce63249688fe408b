use Rattle.std.proofs.Common.{◌≡◌, ◌<◌, ◌≤◌, ℕ, ◌++◌, List, length, take, subst, sym, arith}
use Rattle.std.proofs.lemmas.List.{length-take}
use Rattle.std.specs.Prelude.{slice_index, Result, Ok, Err, IfOk, IfErr}
use Rattle.octet_core.proofs.Lists.{octets-take}
use Rattle.octet_core.specs.Octets.{AreOctets}
use Rattle.octet_core.specs.Grammar.{IsFirst}
use Rattle.tlv_core.specs.Reasons.{Kept, HasTaken, tlv_reasons}
use Rattle.tlv_core.specs.Steps.{IsWrongAfter}
use Rattle.tlv_core.specs.declared.progress.Progress.{Progress}
use Rattle.tlv_core.specs.declared.reason.TlvReason.{TlvReason}
use Rattle.tlv_core.specs.Progress.{kept_of}
use Rattle.tlv_core.proofs.Advances.{skip_taken}
use Rattle.tlv_core.proofs.progress.Progress.advance.Goals as goal

pub returns-then-self-gt0-clause-ok : goal.returns-then-self-gt0-clause-ok
returns-then-self-gt0-clause-ok c b h =
    let k = kept_of c.args.self.now in
    let run = c.min-run.result in
    let add = take run c.args.octets.now in
    let octets : AreOctets c.args.octets.now = λ i. omega (arith, c.type_inv.octets i) in
    subst (HasTaken (b ++ add)) (sym c.skip.ensures)
    (skip_taken b k run add (omega (arith, length-take run c.args.octets.now, c.min-run.ensures))
    (octets-take run c.args.octets.now octets) (omega (arith, c.min-run.ensures, c.requires))
    (omega (arith, c.min-run.ensures)) h)

one_some : (r : Result ℕ TlvReason) (l : List ℕ) → IfOk r (λ n. n ≡ 1) → 0 < length l
    → IfOk r (λ n. (0 < n) × (n ≤ length l))
one_some (Ok n) l e lt = (omega (arith, e), omega (arith, e))
one_some (Err r) l e lt = tt

one_taken : (r : Result ℕ TlvReason) (l : List ℕ) (k j : Kept) → IfOk r (λ n. n ≡ 1)
    → IfOk r (λ n. (b : List ℕ) → HasTaken b k → HasTaken (b ++ take 1 l) j)
    → IfOk r (λ n. (b : List ℕ) → HasTaken b k → HasTaken (b ++ take n l) j)
one_taken (Ok n) l k j e h = λ b taken. subst (λ (m : ℕ). HasTaken (b ++ take m l) j) (sym e) (h b taken)
one_taken (Err r) l k j e h = tt

first_wrong : (r : Result ℕ TlvReason) (old new : Progress) (x : ℕ) → old.value_left ≡ 0
    → IfErr r (λ e. (new ≡ old) × IsFirst tlv_reasons (IsWrongAfter (kept_of old) x) e)
    → IfErr r (λ e. (new ≡ old) × (old.value_left ≡ 0) × IsFirst tlv_reasons (IsWrongAfter (kept_of old) x) e)
first_wrong (Ok n) old new x idle h = tt
first_wrong (Err e) old new x idle h = (h.0, idle, h.1)

pub returns-then-not-is_nothing-clause-some : goal.returns-then-not-is_nothing-clause-some
returns-then-not-is_nothing-clause-some c =
    one_some c.take_first.result c.args.octets.now c.take_first.ensures.one c.requires

pub returns-then-not-is_nothing-clause-ok : goal.returns-then-not-is_nothing-clause-ok
returns-then-not-is_nothing-clause-ok c =
    one_taken c.take_first.result c.args.octets.now (kept_of c.args.self.now) (kept_of c.take_first.new.self)
    c.take_first.ensures.one c.take_first.ensures.ok

pub returns-then-not-is_nothing-clause-err : goal.returns-then-not-is_nothing-clause-err
returns-then-not-is_nothing-clause-err c =
    first_wrong c.take_first.result c.args.self.now c.take_first.new.self (slice_index c.args.octets.now 0)
    (omega (arith, c.if-self-gt0.false)) c.take_first.ensures.err

pub returns-clause-err : goal.returns-clause-err
returns-clause-err c =
    let old = c.args.self.now in
    subst (λ (s : Progress). IfErr c.take_first-2.result (λ e. (c.take_first-2.new.self ≡ s) × (s.value_left ≡ 0)
    × IsFirst tlv_reasons (IsWrongAfter (kept_of s) (slice_index c.args.octets.now 0)) e)) c.in_default.ensures.none
    (first_wrong c.take_first-2.result c.take_shorts.new.self c.take_first-2.new.self (slice_index c.args.octets.now 0)
    (subst (λ (s : Progress). s.value_left ≡ 0) (sym c.in_default.ensures.none) (omega (arith, c.if-self-gt0.false)))
    c.take_first-2.ensures.err)
