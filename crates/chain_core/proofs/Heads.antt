-- What the octets of a block are refused for that are no field.
use Rattle.std.proofs.Common.{◌≡◌, ◌≢◌, ℕ, ◌+◌, ◌-◌, ◌<◌, ◌≤◌, ◌++◌, List, [], ◌∷◌, length, refl, sym, subst, ◌∙◌, arith, Bool, true, slice_index, inl, inr}
use Rattle.octet_core.specs.Octets.{xor_of}
use Rattle.octet_core.specs.Grammar.{IsFirst}
use Rattle.block_core.specs.declared.pcb.Number.{Number}
use Rattle.block_core.specs.declared.pcb.Pcb.TheVariants.{Info}
use Rattle.block_core.specs.Block.{other, IsInfo}
use Rattle.block_core.proofs.Computed.{pcb-back}
use Rattle.chain_core.specs.declared.reason.ChainReason.{ChainReason}
use Rattle.chain_core.specs.declared.reason.ChainReason.TheVariants.{BadPcb, NotInfo, BadSequence, TooManyBlocks, BadLen, OverIfs, TooLong, BadLrc}
use Rattle.chain_core.specs.declared.stage.BlockStage as stage
use Rattle.chain_core.specs.declared.stage.BlockStage.TheVariants as stages
use Rattle.chain_core.specs.Chain.{MeetsInBlock, all_reasons, message_of, number_after}
use Rattle.chain_core.specs.Stage.{IsHeadFault, IsPcbFault, IsLenFault}
use Rattle.chain_core.specs.Lent.{under_way_of}
use Rattle.chain_core.proofs.Stuck.{not-other, same-number}

-- the fault of a control octet is the reason, where only block number 131,072 counts as the last
pub first-pcb : (ifs : ℕ) (number : Number) (max : ℕ) (before : List (List ℕ)) (c : List ℕ) (last : Bool)
    (r : ChainReason) → length c ≡ 2 → (last ≡ true → length before + 1 ≡ 131072)
    → IsPcbFault (number_after number (length before)) last (slice_index c 1) r
    → IsFirst all_reasons (MeetsInBlock ifs number max before c) r
unfolding IsFirst
first-pcb ifs number max before c last BadPcb len full h = inr (λ m. omega (arith, m.0), inl ((len, h), refl))
first-pcb ifs number max before c last NotInfo len full h =
    inr (
      λ m. omega (arith, m.0),
      inr (
        λ m. m.1 h.0 h.1,
        inl ((len, λ q e info. h.2 (subst IsInfo (pcb-back q h.0 (e ∙ sym h.1)) info)), refl),
      ),
    )
first-pcb ifs number max before c last BadSequence len full h =
    inr (
      λ m. omega (arith, m.0),
      inr (
        λ m. m.1 (Info (other (number_after number (length before))) h.0) h.1,
        inr (λ m. m.1 (Info (other (number_after number (length before))) h.0) h.1 tt, inl ((len, h.0, h.1), refl)),
      ),
    )
first-pcb ifs number max before c last TooManyBlocks len full h =
    let own : Number = number_after number (length before) in
    inr (
      λ m. omega (arith, m.0),
      inr (
        λ m. m.1 (Info own true) h.1,
        inr (
          λ m. m.1 (Info own true) h.1 tt,
          inr (
            λ m. not-other own (same-number (other own) own m.1 true
                (pcb-back (Info (other own) m.1) (Info own true) (m.2 ∙ sym h.1))),
            inl ((len, full h.0, own, h.1), refl),
          ),
        ),
      ),
    )
first-pcb ifs number max before c last _ len full h = absurd h

-- what meets no line for NAD or PCB
past-pcb : (ifs : ℕ) (number : Number) (max : ℕ) (before : List (List ℕ)) (c : List ℕ) (r : ChainReason) → 3 ≤ length c
    → IsFirst (BadLen ∷ OverIfs ∷ TooLong ∷ BadLrc ∷ []) (MeetsInBlock ifs number max before c) r
    → IsFirst all_reasons (MeetsInBlock ifs number max before c) r
unfolding IsFirst
past-pcb ifs number max before c r le h =
    inr (
      λ m. omega (arith, m.0),
      inr (
        λ m. omega (arith, m.0),
        inr (λ m. omega (arith, m.0), inr (λ m. omega (arith, m.0), inr (λ m. omega (arith, m.0), h))),
      ),
    )

-- the fault of a length is the reason, where room is what is left of the limit of the message
pub first-len : (ifs : ℕ) (number : Number) (max : ℕ) (before : List (List ℕ)) (c : List ℕ) (room : ℕ) (r : ChainReason)
    → length c ≡ 3 → length (message_of before) ≤ max → room ≡ max - length (message_of before)
    → IsLenFault ifs room (slice_index c 2) r
    → IsFirst all_reasons (MeetsInBlock ifs number max before c) r
unfolding IsFirst
first-len ifs number max before c room BadLen len fits is h =
    past-pcb ifs number max before c BadLen (omega arith) (inl ((len, h), refl))
first-len ifs number max before c room OverIfs len fits is h =
    past-pcb ifs number max before c OverIfs (omega arith) (inr (λ m. h.0 m.1, inl ((len, h.1), refl)))
first-len ifs number max before c room TooLong len fits is h =
    past-pcb ifs number max before c TooLong (omega arith)
    (inr (λ m. h.0 m.1, inr (λ m. omega (arith, m.1, h.1), inl ((len, omega (arith, h.2)), refl))))
first-len ifs number max before c room _ len fits is h = absurd h

-- the reason of one of the first three octets
pub first-head : (ifs : ℕ) (number : Number) (max : ℕ) (before : List (List ℕ)) (last : Bool) (room : ℕ)
    (p : stage.BlockStage)
    (field : List ℕ) (x : ℕ) (r : ChainReason) → (last ≡ true → length before + 1 ≡ 131072)
    → length (message_of before) ≤ max → room ≡ max - length (message_of before)
    → IsHeadFault (number_after number (length before)) last ifs room p x r
    → IsFirst all_reasons (MeetsInBlock ifs number max before
    (under_way_of (number_after number (length before)) p field ++ x ∷ [])) r
unfolding IsFirst
first-head ifs number max before last room stages.Nad field x r full fits is h =
    subst (IsFirst all_reasons (MeetsInBlock ifs number max before (x ∷ []))) (sym h.1) (inl ((refl, h.0), refl))
first-head ifs number max before last room stages.Pcb field x r full fits is h =
    first-pcb ifs number max before (0 ∷ x ∷ []) last r refl full h
first-head ifs number max before last room (stages.Len more) field x r full fits is h =
    first-len ifs number max before (under_way_of (number_after number (length before)) (stages.Len more) field
    ++ x ∷ []) room r refl fits is h
first-head ifs number max before last room (stages.Rest more len) field x r full fits is h = absurd h

-- a wrong check sum
pub first-lrc : (ifs : ℕ) (number : Number) (max : ℕ) (before : List (List ℕ)) (c : List ℕ) → 3 < length c
    → length c ≡ slice_index c 2 + 4 → xor_of c ≢ 0 → IsFirst all_reasons (MeetsInBlock ifs number max before c) BadLrc
unfolding IsFirst
first-lrc ifs number max before c lt long bad =
    past-pcb ifs number max before c BadLrc (omega arith)
    (inr (
      λ m. omega (arith, m.0, lt),
      inr (λ m. omega (arith, m.0, lt), inr (λ m. omega (arith, m.0, lt), inl ((long, bad), refl))),
    ))
