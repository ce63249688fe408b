-- Whether two known values have one tag.
use Rattle.std.proofs.Common.{◌≡◌, ◌<◌, ◌≤◌, ◌+◌, ◌⊎◌, inl, inr, zero, suc, ℕ, List, [], Bool, true, false, None, Some, arith, drop, get_or, length, refl, subst}
use Rattle.std.specs.List.{slice_get}
use Rattle.std.specs.Option.{is_some}
use Rattle.std.proofs.lemmas.List.{get_or_default}
use Rattle.octet_core.specs.declared.format.Format.TheVariants.{Other}
use Rattle.tlv_core.specs.Fill.{known_for, HasDuplicate}
use Rattle.tlv_core.specs.declared.known.Known.{Known}
use Rattle.tlv_core.proofs.Knowns.{twice, once_more, never_twice}

-- no value before this place has its tag again behind it
abbrev Once : List Known → ℕ → Type 0
Once known n = (i : ℕ) (k : Known) → i < n → slice_get known i ≡ Some k → known_for k.tag (drop (i + 1) known) ≡ None

any : Known
any = record { tag = []; format = Other; value = [] }

-- one place more
next : (known : List Known) (n : ℕ) → n < length known → Once known n → HasDuplicate known ⊎ Once known (n + 1)
next known n lt once = go (is_some (known_for x.tag (drop (n + 1) known))) refl
  where
    x : Known
    x = get_or known n any

    go : (again : Bool) → is_some (known_for x.tag (drop (n + 1) known)) ≡ again → HasDuplicate known
        ⊎ Once known (n + 1)
    go true e = inl (twice known n x lt (get_or_default known n any x lt) e)
    go false e = inr (once_more known n x lt (get_or_default known n any x lt) e once)

up-to : (known : List Known) (n : ℕ) → n ≤ length known → HasDuplicate known ⊎ Once known n
up-to known zero le = inr (λ i k lt. absurd (omega arith))
up-to known (suc n) le =
    elim (up-to known n (omega arith)) [
      | inl d ↦ inl d
      | inr once ↦ subst (λ (m : ℕ). HasDuplicate known ⊎ Once known m) (omega arith) (next known n (omega arith) once)
    ]

-- two of the known values have one tag, or no two have
pub duplicate-or-not : (known : List Known) → HasDuplicate known ⊎ (HasDuplicate known → ⊥)
duplicate-or-not known =
    elim (up-to known (length known) (omega arith)) [
      | inl d ↦ inl d
      | inr once ↦ inr (never_twice known (length known) (omega arith) once)
    ]
