-- What can come where a reader held a chain whose message is an APDU, and then more octets.
use Rattle.std.proofs.Common.{◌≡◌, ◌∙◌, ◌++◌, ℕ, List, [], length, drop, Option, Some, None, Result, Ok, Err, IfOk, IfErr, ap, subst, sym, refl}
use Rattle.std.proofs.Math.Seq.{drop-append_seam}
use Rattle.std.specs.Io.KnownBytes.{Consumes, IsAtEnd}
use Rattle.octet_core.specs.Grammar.{Accepts, Ending, Refuses, self_ended, whole}
use Rattle.octet_core.specs.declared.stop.Stop.{Stop}
use Rattle.octet_core.specs.declared.stop.Stop.TheVariants.{Short, At}
use Rattle.octet_core.proofs.Begun.{spelled-accepted}
use Rattle.block_core.specs.declared.pcb.Number.{Number}
use Rattle.chain_core.specs.Chain as chain
use Rattle.chain_core.specs.Chain.{IsChain, message_of}
use Rattle.chain_core.specs.declared.reason.ChainReason.{ChainReason}
use Rattle.chain_core.proofs.Unique.{one-accepted}
use Rattle.chain_core.proofs.Ends.{all-accepted, all-short}
use Rattle.octet_core.proofs.Answered.{refuses-append}
use Rattle.apdu_core.specs.Receiving.{ArrivesUnlessFault, IsReceived, IsReceiveFault, IsNoApdu, IsNoChain, ReadsWhole}
use Rattle.apdu_core.specs.declared.receiving.ReceiveFault.{ReceiveFault}
use Rattle.apdu_core.specs.declared.receiving.ReceiveFault.TheVariants.{Memory, Read, Chain, Apdu}

-- what is refused isn't accepted
not-accepted : {V R : Type 0} (e : Ending) (S : V → List ℕ → Type 0) (Reason : R → List ℕ → Type 0) (b : List ℕ)
    (stop : Stop R) → Refuses e S Reason b stop → (v : V) (n : ℕ) → Accepts e S b v n → ⊥
not-accepted e S Reason b (Short p) h v n a = h.none v n a
not-accepted e S Reason b (At p r) h v n a = h.0.none v n a

module _ {V R Reader : Type 0} (S : V → List ℕ → Type 0) (Reason : R → List ℕ → Type 0)
    (one : (v w : V) (b : List ℕ) → S v b → S w b → v ≡ w) (limit ifs : ℕ) (number : Number)
    (remaining : Reader → Option (List ℕ)) (failures : Reader → ℕ) (old new : Reader) (v : V) (sent : List (List ℕ))
    (b more : List ℕ)
    (chained : IsChain ifs number limit sent b) (spelled : S v (message_of sent))
    (held : remaining old ≡ Some (b ++ more)) where
  -- the chain is accepted, whatever follows it
  whole-chain : Accepts self_ended (IsChain ifs number limit) (b ++ more) sent (length b)
  whole-chain = spelled-accepted (IsChain ifs number limit) sent b more chained

  -- the octets that it held are those read and those left
  Parts : List ℕ → Option (List ℕ) → Type 0
  Parts read left = (rest : List ℕ) × (left ≡ Some rest) × (b ++ more ≡ read ++ rest)

  parts : (read : List ℕ) (left : Option (List ℕ)) → Consumes (Some (b ++ more)) left read → Parts read left
  unfolding Parts
  parts read (Some rest) h = (rest, refl, h)
  parts read None h = absurd h

  whole-parts : (fields : List (List ℕ)) → ReadsWhole limit ifs number remaining failures old new fields
      → (fields ≡ sent) × (remaining new ≡ Some more)
  unfolding Parts
  whole-parts fields w =
      let p = parts w.read (remaining new)
      (subst (λ (h : Option (List ℕ)). Consumes h (remaining new) w.read) held w.from) in
      let only = one-accepted ifs ifs limit limit number (b ++ more) fields sent (length w.read) (length b)
      (all-accepted ifs limit number [] (b ++ more) p.0 w.read fields p.2 w.chain) whole-chain in
      let rest : p.0 ≡ more = sym (drop-append_seam w.read p.0) ∙ sym (ap (drop (length w.read)) p.2)
      ∙ ap (λ (n : ℕ). drop n (b ++ more)) only.1 ∙ drop-append_seam b more in
      (only.0, p.1 ∙ ap Some rest)

  ok-arrives : (w : V) → IsReceived S limit ifs number remaining failures old new w
      → (w ≡ v) × (remaining new ≡ Some more)
  ok-arrives w h =
      let p = whole-parts h.fields h.all in (
        one w v (message_of sent) (subst (λ (fields : List (List ℕ)). S w (message_of fields)) p.0 h.value.1) spelled,
        p.1,
      )

  no-apdu : (stop : Stop R) → IsNoApdu S Reason limit ifs number remaining failures old new stop → ⊥
  no-apdu stop h =
      let p = whole-parts h.fields h.all in
      not-accepted whole S Reason (message_of sent) stop
      (subst (λ (fields : List (List ℕ)). Refuses whole S Reason (message_of fields) stop) p.0 h.refused) v
      (length (message_of sent)) (refl, spelled)

  no-chain : (stop : Stop ChainReason) → IsNoChain limit ifs number remaining failures old new stop → ⊥
  unfolding Parts
  no-chain (Short place) h =
      let p = parts h.read (remaining new)
      (subst (λ (o : Option (List ℕ)). Consumes o (remaining new) h.read) held h.from) in
      let end : p.0 ≡ [] = subst IsAtEnd p.1 h.end in
      not-accepted self_ended (IsChain ifs number limit) (chain.IsReason ifs number limit) (b ++ more) (Short place)
      (all-short ifs limit number [] (b ++ more) p.0 h.read (Short place) p.2 end h.refused) sent (length b) whole-chain
  no-chain (At place reason) h =
      let p = parts h.read (remaining new)
      (subst (λ (o : Option (List ℕ)). Consumes o (remaining new) h.read) held h.from) in
      let refused = refuses-append (IsChain ifs number limit) (chain.IsReason ifs number limit) h.read p.0 place reason
      h.refused in
      not-accepted self_ended (IsChain ifs number limit) (chain.IsReason ifs number limit) (b ++ more) (At place reason)
      (subst (λ (l : List ℕ). Refuses self_ended (IsChain ifs number limit) (chain.IsReason ifs number limit) l
      (At place reason)) (sym p.2) refused)
      sent (length b) whole-chain

  -- where the reader held the chain, v comes and the octets after it are left,
  -- or a growth of memory or a call of the reader failed
  pub arrives-only : (result : Result V (ReceiveFault R))
      → IfOk result (IsReceived S limit ifs number remaining failures old new)
      → IfErr result (IsReceiveFault S Reason limit ifs number remaining failures old new)
      → ArrivesUnlessFault v more (remaining new) result
  arrives-only (Ok w) h g = ok-arrives w h
  arrives-only (Err Memory) h g = tt
  arrives-only (Err (Read taken)) h g = tt
  arrives-only (Err (Chain stop)) h g = no-chain stop g
  arrives-only (Err (Apdu stop)) h g = no-apdu stop g
