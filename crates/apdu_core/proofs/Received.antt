-- What is left of a new receiver that read a chain, and of its message.
use Rattle.std.proofs.Common.{◌≡◌, inr, ℕ, List, [], length, Option, Err, refl, ap, subst, ◌∙◌}
use Rattle.octet_core.specs.Grammar.{Accepts, Begins, Refuses, RefusesUnlessMemory, whole}
use Rattle.octet_core.specs.declared.stop.Stop.TheVariants.{Short, At}
use Rattle.octet_core.specs.declared.stop.Refused.{Refused}
use Rattle.octet_core.specs.declared.stop.Refused.TheVariants as refusal
use Rattle.block_core.specs.declared.pcb.Number.{Number}
use Rattle.chain_core.specs.Chain.{IsChain, message_of}
use Rattle.chain_core.specs.Taking.{Taking, nothing_taken}
use Rattle.chain_core.specs.Reads.{Reads, ReadsChain, CountsFault}
use Rattle.chain_core.specs.declared.reading.ReadRefusal.{ReadRefusal}
use Rattle.chain_core.specs.declared.reading.ReadRefusal.TheVariants as refusals
use Rattle.chain_core.proofs.Feeds.{taken-fresh}
use Rattle.apdu_core.specs.Receiving.{ReadsWhole, IsReceived, IsReceiveFault, fault_of_chain, fault_of_apdu}

module _ {Reader : Type 0} (limit ifs : ℕ) (number : Number) (remaining : Reader → Option (List ℕ))
    (failures : Reader → ℕ) (old new : Reader) (before after : Taking) where
  -- a chain was read, and its message was joined
  whole-read : before ≡ nothing_taken ifs number limit → ReadsChain (remaining old) (remaining new) before after
      → failures new ≡ failures old
      → (fields : List (List ℕ)) × ReadsWhole limit ifs number remaining failures old new fields
      × (after.joined ≡ message_of fields)
  whole-read is reads count =
      let own : ReadsChain (remaining old) (remaining new) (nothing_taken ifs number limit) after =
      subst (λ (r : Taking). ReadsChain (remaining old) (remaining new) r after) is reads in
      let v = own.chain [] (taken-fresh ifs number limit) in
      (v.0, record { read = own.read; from = own.is.from; chain = v.1; none_failed = count }, v.2)

  -- a message that is accepted
  pub received : {V : Type 0} (S : V → List ℕ → Type 0) (message : List ℕ) (v : V)
      → before ≡ nothing_taken ifs number limit
      → ReadsChain (remaining old) (remaining new) before after → failures new ≡ failures old
      → message ≡ after.joined → Accepts whole S message v (length message)
      → IsReceived S limit ifs number remaining failures old new v
  received S message v is reads count same accepts =
      let w = whole-read is reads count in
      record {
        fields = w.0;
        all = w.1;
        value = subst (λ (m : List ℕ). Accepts whole S m v (length m)) (same ∙ w.2) accepts;
      }

  -- a message that isn't, or of whose part no copy was made
  pub not-received : {V R : Type 0} (S : V → List ℕ → Type 0) (Reason : R → List ℕ → Type 0) (message : List ℕ)
      (refused : Refused R) → before ≡ nothing_taken ifs number limit
      → ReadsChain (remaining old) (remaining new) before after → failures new ≡ failures old → message ≡ after.joined
      → RefusesUnlessMemory whole S Reason message refused
      → (refused ≡ refusal.Memory → (v : V) × Accepts whole S message v (length message))
      → IsReceiveFault S Reason limit ifs number remaining failures old new (fault_of_apdu refused)
  not-received S Reason message (refusal.Stop stop) is reads count same refuses want =
      let w = whole-read is reads count in
      record {
        fields = w.0;
        all = w.1;
        refused = subst (λ (m : List ℕ). Refuses whole S Reason m stop) (same ∙ w.2) refuses;
      }
  not-received S Reason message refusal.Memory is reads count same refuses want =
      let v = want refl in
      inr (v.0, received S message v.0 is reads count same v.1)

  -- octets that are no chain, or a reader that failed
  pub no-chain : {V R : Type 0} (S : V → List ℕ → Type 0) (Reason : R → List ℕ → Type 0) (refusal : ReadRefusal)
      → before ≡ nothing_taken ifs number limit → Reads (remaining old) (remaining new) before after (Err refusal)
      → CountsFault (Err refusal) (failures old) (failures new)
      → (after.ifs ≡ before.ifs) × (after.number ≡ before.number) × (after.max ≡ before.max)
      → IsReceiveFault S Reason limit ifs number remaining failures old new (fault_of_chain refusal)
  no-chain S Reason (refusals.Read taken) is reads count kept =
      let own = subst (λ (r : Taking). Reads (remaining old) (remaining new) r after (Err (refusals.Read taken))) is
      reads in
      let begun : Begins (IsChain after.ifs after.number after.max) own.read =
      (own.is.taken [] (taken-fresh ifs number limit)).begun in
      let size : after.ifs ≡ ifs = kept.0 ∙ ap (λ (r : Taking). r.ifs) is in
      let first : after.number ≡ number = kept.1 ∙ ap (λ (r : Taking). r.number) is in
      let most : after.max ≡ limit = kept.2 ∙ ap (λ (r : Taking). r.max) is in
      record {
        read = own.read;
        from = own.is.from;
        count = own.count;
        begun = subst (λ (A : Type 0). A) (λ i. Begins (IsChain (size i) (first i) (most i)) own.read) begun;
        failed = count.0;
        failed_once = count.1;
      }
  no-chain S Reason (refusals.Stop (Short p)) is reads count kept =
      let own = subst (λ (r : Taking). Reads (remaining old) (remaining new) r after (Err (refusals.Stop (Short p))))
      is reads in
      record {
        read = own.read;
        from = own.is.from;
        refused = own.short [] (taken-fresh ifs number limit);
        end = own.end;
        none_failed = count;
      }
  no-chain S Reason (refusals.Stop (At p r)) is reads count kept =
      let own = (subst (λ (k : Taking). Reads (remaining old) (remaining new) k after (Err (refusals.Stop (At p r))))
      is reads) refl in
      let none = taken-fresh ifs number limit in
      record {
        read = own.read;
        from = own.from;
        refused = own.refused [] none;
        end = own.near [] none;
        none_failed = count;
      }
