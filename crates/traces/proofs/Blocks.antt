-- What octets are by the verdict on them as a block.
use Rattle.std.proofs.Common.{◌≡◌, ◌∙◌, ap, sym, refl, subst, inl, ℕ, List, length, Option, Some, None, arith}
use Rattle.octet_core.specs.Grammar.{self_ended, Accepts, Refuses}
use Rattle.octet_core.specs.Octets.{AreOctets}
use Rattle.octet_core.specs.declared.stop.Stop.{Stop}
use Rattle.octet_core.specs.declared.stop.Stop.TheVariants.{At, Short}
use Rattle.block_core.specs.Block.{Parts, IsBlock, IsReason}
use Rattle.block_core.specs.declared.reason.BlockReason.{BlockReason}
use Rattle.block_core.specs.declared.reason.BlockReason.TheVariants.{BadPcb, BadLen, OverIfs, BadIfs, BadLrc}
use Rattle.block_core.proofs.Blocks.{one-accepted}
use Rattle.t1_core.specs.Came.{Came, got, damaged, invalid, class_of, IsClass}
use Rattle.t1_core.proofs.Classes.{only-one}
use Rattle.t1_core.proofs.Computed.{computed}
use Rattle.traces.specs.Seen.{block_of, seen}

-- octets are such a block, or none, by their class
abbrev pub IsSeen : List ℕ → Option Parts → Type 0
IsSeen b o = (came : Came) × IsClass 254 b came × (block_of came ≡ o)

-- all of them are a block with node address 0
pub accepted-seen : (b : List ℕ) (v : Parts) (n : ℕ) → Accepts self_ended (IsBlock 254) b v n → n ≡ length b → v.nad ≡ 0
    → IsSeen b (Some v)
accepted-seen b v n h len nad =
    let w : Parts = record { nad = 0; pcb = v.pcb; inf = v.inf } in
    let same : v ≡ w = ap (λ (m : ℕ). record { nad = m; pcb = v.pcb; inf = v.inf }) nad in (
      got v.pcb v.inf,
      subst (λ (x : Parts). Accepts self_ended (IsBlock 254) b x (length b)) same
          (subst (λ (m : ℕ). Accepts self_ended (IsBlock 254) b v m) len h),
      ap (λ (x : Parts). Some x) (sym same),
    )

-- they are refused
pub refused-seen : (b : List ℕ) (s : Stop BlockReason) → Refuses self_ended (IsBlock 254) (IsReason 254) b s
    → IsSeen b None
refused-seen b (At place BadLrc) h = (damaged, (place, h), refl)
refused-seen b (At place BadPcb) h = (invalid, inl (At place BadPcb, h, λ p e. cc), refl)
refused-seen b (At place BadLen) h = (invalid, inl (At place BadLen, h, λ p e. cc), refl)
refused-seen b (At place OverIfs) h = (invalid, inl (At place OverIfs, h, λ p e. cc), refl)
refused-seen b (At place BadIfs) h = (invalid, inl (At place BadIfs, h, λ p e. cc), refl)
refused-seen b (Short place) h = (invalid, inl (Short place, h, λ p e. cc), refl)

-- what they are is what is computed
pub seen-is : (b : List ℕ) (o : Option Parts) → AreOctets b → IsSeen b o → o ≡ seen b
unfolding seen
seen-is b o octets (came, class, is) =
    sym is ∙ ap block_of (only-one one-accepted 254 b came (class_of 254 b) class
    (computed 254 b (omega arith) octets))
