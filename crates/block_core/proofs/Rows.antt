-- The grammar, computed on octets from outside.
use Rattle.std.proofs.Common.{◌≡◌, ℕ, List, [], ◌∷◌, refl, arith, inl, inr, false}
use Rattle.octet_core.proofs.Lists.{octets_by}
use Rattle.octet_core.specs.Octets.{xor_of}
use Rattle.octet_core.specs.Grammar.{IsFirst}
use Rattle.block_core.specs.Block.{IsBlock, IsReason}
use Rattle.block_core.specs.declared.pcb.Number.TheVariants.{Zero}
use Rattle.block_core.specs.declared.pcb.Fault.TheVariants.{Free, Other}
use Rattle.block_core.specs.declared.pcb.S.TheVariants.{Ifs}
use Rattle.block_core.specs.declared.pcb.Pcb.TheVariants.{Info, Ready, Request}
use Rattle.block_core.specs.declared.reason.BlockReason.TheVariants.{BadLen}

select : List ℕ
select = 0x00 ∷ 0xA4 ∷ 0x04 ∷ 0x00 ∷ 0x00 ∷ []

-- 00 00 05 00A4040000 A5
select-is : IsBlock 254 (record { nad = 0; pcb = Info Zero false; inf = select })
    (0x00 ∷ 0x00 ∷ 0x05 ∷ 0x00 ∷ 0xA4 ∷ 0x04 ∷ 0x00 ∷ 0x00 ∷ 0xA5 ∷ [])
unfolding select
select-is = record {
  proper = record { nad = omega arith; octets = octets_by select refl; suits = omega arith };
  is = refl;
}

-- 00 82 00 82
other-is : IsBlock 254 (record { nad = 0; pcb = Ready Zero Other; inf = [] }) (0x00 ∷ 0x82 ∷ 0x00 ∷ 0x82 ∷ [])
other-is = record { proper = record { nad = omega arith; octets = octets_by [] refl; suits = refl }; is = refl }

-- 00 C1 01 FE 3E
size-is : IsBlock 32 (record { nad = 0; pcb = Request Ifs; inf = 0xFE ∷ [] }) (0x00 ∷ 0xC1 ∷ 0x01 ∷ 0xFE ∷ 0x3E ∷ [])
size-is = record {
  proper = record {
    nad = omega arith;
    octets = octets_by (0xFE ∷ []) refl;
    suits = (refl, (omega arith, omega arith));
  };
  is = refl;
}

-- the last octet of 00 00 05 00A4040000 A4 isn't the exclusive-or of those before it
damaged : xor_of (0x00 ∷ 0x00 ∷ 0x05 ∷ 0x00 ∷ 0xA4 ∷ 0x04 ∷ 0x00 ∷ 0x00 ∷ 0xA4 ∷ []) ≡ 1
damaged = refl

-- 00 80 20: an R-block with a field, under whatever information size
long-ready : (ifs : ℕ) → IsReason ifs BadLen (0x00 ∷ 0x80 ∷ 0x20 ∷ [])
unfolding IsFirst
long-ready ifs = inr (λ m. absurd (omega (arith, m.0)), inl ((refl, Ready Zero Free, refl, λ e. omega arith), refl))
