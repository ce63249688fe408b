-- What a new receiver answers to a whole list.
use Rattle.std.proofs.Common.{◌≡◌, ℕ, refl, ◌∙◌, List, [], length, take, sym, ap, subst, Bool, true, false, Ok, Err}
use Rattle.std.proofs.Math.Seq.{take-length}
use Rattle.octet_core.specs.Grammar.{Begins, IsShort, Refuses, self_ended}
use Rattle.octet_core.specs.Reader.{IsFed}
use Rattle.octet_core.specs.declared.stop.Stop.{Stop}
use Rattle.octet_core.proofs.Verdicts.{refuses_at}
use Rattle.block_core.specs.declared.pcb.Number.{Number}
use Rattle.octet_core.proofs.Answered.{short-of}
use Rattle.chain_core.specs.Chain.{IsChain, IsReason}
use Rattle.chain_core.specs.Taking.{Taking, HasTaken, nothing_taken, refusal_of}
use Rattle.chain_core.specs.declared.reason.ChainReason.{ChainReason}
use Rattle.chain_core.proofs.Feeds.{not-spelled, taken-fresh}
use Rattle.chain_core.proofs.Taken.{done-spelled}
use Rattle.chain_core.proofs.Unique.{one-accepted}
use Rattle.program_octets.specs.ChainTexts.{longest_message, IsReceived}

-- a receiver with these parameters that was fed all of the octets
record IsFedWhole (ifs : ℕ) (number : Number) (b : List ℕ) (new : Taking) (n : ℕ) (d : Bool) : Type 0 where
  ifs_kept : new.ifs ≡ ifs
  number_kept : new.number ≡ number
  max_kept : new.max ≡ longest_message
  fed : IsFed (IsChain ifs number longest_message) (IsReason ifs number longest_message) HasTaken refusal_of
      (nothing_taken ifs number longest_message) new b (Ok (n, d))

fed-fresh : {ifs : ℕ} {number : Number} {b : List ℕ} {old new : Taking} {n : ℕ} {d : Bool}
    → old ≡ nothing_taken ifs number longest_message
    → IsFed (IsChain old.ifs old.number old.max) (IsReason old.ifs old.number old.max) HasTaken refusal_of old new b
    (Ok (n, d)) → (new.ifs ≡ old.ifs) × (new.number ≡ old.number) × (new.max ≡ old.max)
    → IsFedWhole ifs number b new n d
fed-fresh {ifs} {number} {b} {old} {new} {n} {d} e f kept = record {
  ifs_kept = kept.0 ∙ ap (λ (r : Taking). r.ifs) e;
  number_kept = kept.1 ∙ ap (λ (r : Taking). r.number) e;
  max_kept = kept.2 ∙ ap (λ (r : Taking). r.max) e;
  fed = subst (λ (r : Taking). IsFed (IsChain r.ifs r.number r.max) (IsReason r.ifs r.number r.max) HasTaken
      refusal_of r new b (Ok (n, d))) e f;
}

-- a predicate of its parameters
at-params : {ifs : ℕ} {number : Number} {b : List ℕ} {new : Taking} {n : ℕ} {d : Bool} (P : ℕ → Number → ℕ → Type 0)
    → IsFedWhole ifs number b new n d → P new.ifs new.number new.max → P ifs number longest_message
at-params {ifs} {number} {b} {new} P w h =
    subst (λ (m : ℕ). P ifs number m) w.max_kept
    (subst (λ (k : Number). P ifs k new.max) w.number_kept (subst (λ (i : ℕ). P i new.number new.max) w.ifs_kept h))

from-params : {ifs : ℕ} {number : Number} {b : List ℕ} {new : Taking} {n : ℕ} {d : Bool}
    (P : ℕ → Number → ℕ → Type 0) → IsFedWhole ifs number b new n d → P ifs number longest_message
    → P new.ifs new.number new.max
from-params {ifs} {number} {b} {new} P w h =
    subst (λ (i : ℕ). P i new.number new.max) (sym w.ifs_kept)
    (subst (λ (k : Number). P ifs k new.max) (sym w.number_kept) (subst (λ (m : ℕ). P ifs number m) (sym w.max_kept) h))

is-done : {ifs : ℕ} {number : Number} {b : List ℕ} {new : Taking} {n : ℕ} {d : Bool}
    → IsFedWhole ifs number b new n d → d ≡ true → (s : Bool) → new.done ≡ s → new.done ≡ true
is-done w ended true e = e
is-done {ifs} {number} {b} {new} {n} w ended false e =
    let taken : HasTaken new (take n b) = w.fed.taken.1 [] (taken-fresh ifs number longest_message) in
    let spelled = (w.fed.done [] (taken-fresh ifs number longest_message)).0 ended in
    absurd (not-spelled new (take n b) e taken spelled.0
    (from-params (λ i k m. IsChain i k m spelled.0 (take n b)) w spelled.1))

-- a new receiver that is done has received the chain with which the octets begin
pub received-whole : (ifs : ℕ) (number : Number) (old new : Taking) (b : List ℕ) (n : ℕ) (d : Bool)
    → old ≡ nothing_taken ifs number longest_message
    → IsFed (IsChain old.ifs old.number old.max) (IsReason old.ifs old.number old.max) HasTaken refusal_of old new b
    (Ok (n, d)) → (new.ifs ≡ old.ifs) × (new.number ≡ old.number) × (new.max ≡ old.max) → d ≡ true
    → IsReceived ifs number b new n
received-whole ifs number old new b n d e f kept ended =
    let w : IsFedWhole ifs number b new n d = fed-fresh e f kept in
    let taken : HasTaken new (take n b) = w.fed.taken.1 [] (taken-fresh ifs number longest_message) in
    let done = is-done w ended new.done refl in
    record {
      fields = taken.fields;
      accepted = (
        w.fed.taken.0,
        at-params (λ i k m. IsChain i k m taken.fields (take n b)) w
            (done-spelled new (take n b) taken done),
      );
      count = sym taken.blocks;
      joined = sym taken.joined;
      done = done;
      none = taken.kept;
    }

-- where it isn't done, the octets are short
pub received-short : (ifs : ℕ) (number : Number) (old new : Taking) (b : List ℕ) (n : ℕ) (d : Bool)
    → old ≡ nothing_taken ifs number longest_message
    → IsFed (IsChain old.ifs old.number old.max) (IsReason old.ifs old.number old.max) HasTaken refusal_of old new b
    (Ok (n, d)) → (new.ifs ≡ old.ifs) × (new.number ≡ old.number) × (new.max ≡ old.max) → d ≡ false
    → IsShort self_ended (IsChain ifs number longest_message) b (length b)
received-short ifs number old new b n d e f kept still =
    let w : IsFedWhole ifs number b new n d = fed-fresh e f kept in
    let new_taken = taken-fresh ifs number longest_message in
    let taken : HasTaken new (take n b) = w.fed.taken.1 [] new_taken in
    let all : take n b ≡ b = ap (λ (k : ℕ). take k b) (w.fed.whole still) ∙ take-length b in
    let begun : Begins (IsChain ifs number longest_message) (take n b) =
    at-params (λ i k m. Begins (IsChain i k m) (take n b)) w taken.begun in
    short-of (IsChain ifs number longest_message) (one-accepted ifs ifs longest_message longest_message number) b
    (subst (Begins (IsChain ifs number longest_message)) all begun)
    (λ v g. let bad : true ≡ false = sym ((w.fed.done [] new_taken).1
    (v, subst (IsChain ifs number longest_message v) (sym all) g)) ∙ still in cc)

-- and where it refuses them, its refusal is the verdict on them
pub received-refused : (ifs : ℕ) (number : Number) (old new : Taking) (b : List ℕ) (stop : Stop ChainReason)
    → old ≡ nothing_taken ifs number longest_message
    → IsFed (IsChain old.ifs old.number old.max) (IsReason old.ifs old.number old.max) HasTaken refusal_of old new b
    (Err stop) → Refuses self_ended (IsChain ifs number longest_message) (IsReason ifs number longest_message) b
    stop
received-refused ifs number old new b stop e f =
    let fed : IsFed (IsChain ifs number longest_message) (IsReason ifs number longest_message) HasTaken refusal_of
    (nothing_taken ifs number longest_message) new b (Err stop)
    = subst (λ (r : Taking). IsFed (IsChain r.ifs r.number r.max) (IsReason r.ifs r.number r.max) HasTaken refusal_of
    r new b (Err stop)) e f in
    refuses_at self_ended (IsChain ifs number longest_message) (IsReason ifs number longest_message) b stop
    (fed.refused [] (taken-fresh ifs number longest_message))
