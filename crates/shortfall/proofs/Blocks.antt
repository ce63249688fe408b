-- How many more octets a block needs at least.
use Rattle.std.proofs.Common.{◌≡◌, ℕ, zero, suc, ◌<◌, ◌≤◌, List, [], ◌∷◌, ◌++◌, length, get_or, refl, sym, ap, ◌∙◌, arith, Option, Some, None, false}
use Rattle.std.proofs.Math.ListN.{replicate}
use Rattle.std.proofs.lemmas.List.{length-append, length-replicate}
use Rattle.std.specs.Option.{option_map_or}
use Rattle.octet_core.specs.Grammar.{Begins}
use Rattle.octet_core.specs.Octets.{AreOctets, xor_of}
use Rattle.block_core.specs.Block.{Parts, IsBlock, IsProper, Suits, front_of, pcb_octet, spelling}
use Rattle.block_core.specs.Computed.{all_pcbs, pcb_among}
use Rattle.block_core.specs.declared.pcb.Number.TheVariants.{Zero}
use Rattle.block_core.specs.declared.pcb.S.TheVariants.{Resynch, Ifs, Abort, Wtx}
use Rattle.block_core.specs.declared.pcb.Pcb.{Pcb}
use Rattle.block_core.specs.declared.pcb.Pcb.TheVariants.{Info, Ready, Request, Response}
use Rattle.block_core.proofs.Blocks.{spelling-len}
use Rattle.block_core.proofs.Computed.{back, among_octet}
use Rattle.shortfall.specs.Least.{IsLeast}
use Rattle.shortfall.specs.Block.{block_least, field_least, len_least}

-- ---- by the control octet

pub field-of : (p : Pcb) (x : ℕ) → pcb_octet p ≡ x → field_least x ≡ len_least p
field-of p x e = ap field_least (sym e) ∙ ap (λ (o : Option Pcb). option_map_or len_least o 0) (back p)

pub field-none : (x : ℕ) → ((p : Pcb) → pcb_octet p ≡ x → ⊥) → field_least x ≡ 0
field-none x none = go (pcb_among all_pcbs x) refl
  where
    go : (o : Option Pcb) → pcb_among all_pcbs x ≡ o → field_least x ≡ 0
    go None e = ap (λ (o : Option Pcb). option_map_or len_least o 0) e
    go (Some p) e = absurd (none p (among_octet all_pcbs x p e))

-- ---- no block has fewer octets

suits-len : (ifs : ℕ) (p : Pcb) (inf : List ℕ) → Suits ifs p inf → len_least p ≤ length inf
suits-len ifs (Info number more) inf h = omega arith
suits-len ifs (Ready number fault) inf h = omega arith
suits-len ifs (Request s) inf h = omega (arith, h.0)
suits-len ifs (Response s) inf h = omega (arith, h.0)

fewer : (ifs : ℕ) (b : List ℕ) (v : Parts) (more : List ℕ) → IsBlock ifs v (b ++ more) → block_least b ≤ length more
fewer ifs [] v more h = omega (arith, ap length h.is, spelling-len v)
fewer ifs (a ∷ []) v more h = omega (arith, ap length h.is, spelling-len v)
fewer ifs (a ∷ c ∷ []) v more h =
    let octet : pcb_octet v.pcb ≡ c = sym (ap (λ (l : List ℕ). get_or l 1 0) h.is) in
    omega (arith, ap length h.is, spelling-len v, field-of v.pcb c octet, suits-len ifs v.pcb v.inf h.proper.suits)
fewer ifs (a ∷ c ∷ len ∷ rest) v more h =
    let field : len ≡ length v.inf = ap (λ (l : List ℕ). get_or l 2 0) h.is in
    omega (arith, ap length h.is, spelling-len v, field, length-append rest more)

-- ---- and some block has so many

ones-octets : (n : ℕ) → AreOctets (replicate n 1)
ones-octets zero i = omega arith
ones-octets (suc n) zero = omega arith
ones-octets (suc n) (suc i) = ones-octets n i

-- a block with the shortest field
abbrev shortest : ℕ → Pcb → Parts
shortest nad p = record { nad = nad; pcb = p; inf = replicate (len_least p) 1 }

suits-ones : (ifs : ℕ) (p : Pcb) → Suits ifs p (replicate (len_least p) 1)
suits-ones ifs (Info number more) = omega arith
suits-ones ifs (Ready number fault) = refl
suits-ones ifs (Request Resynch) = (refl, tt)
suits-ones ifs (Request Ifs) = (refl, (omega arith, omega arith))
suits-ones ifs (Request Abort) = (refl, tt)
suits-ones ifs (Request Wtx) = (refl, tt)
suits-ones ifs (Response Resynch) = (refl, tt)
suits-ones ifs (Response Ifs) = (refl, (omega arith, omega arith))
suits-ones ifs (Response Abort) = (refl, tt)
suits-ones ifs (Response Wtx) = (refl, tt)

shortest-proper : (ifs nad : ℕ) (p : Pcb) → nad < 256 → IsProper ifs (shortest nad p)
shortest-proper ifs nad p lt = record { nad = lt; octets = ones-octets (len_least p); suits = suits-ones ifs p }

abbrev Enough : ℕ → List ℕ → Type 0
Enough ifs b = (v : Parts) × (more : List ℕ) × (length more ≡ block_least b) × IsBlock ifs v (b ++ more)

enough : (ifs : ℕ) (b more : List ℕ) (v : Parts) → IsBlock ifs v (b ++ more) → Enough ifs b
enough ifs [] more v h =
    let w = shortest 0 (Info Zero false) in
    (w, spelling w, refl, record { proper = shortest-proper ifs 0 (Info Zero false) (omega arith); is = refl })
enough ifs (a ∷ []) more v h =
    let first : a ≡ v.nad = ap (λ (l : List ℕ). get_or l 0 0) h.is in
    let w = shortest a (Info Zero false) in (
      w,
      0 ∷ 0 ∷ xor_of (front_of w) ∷ [],
      refl,
      record {
        proper = shortest-proper ifs a (Info Zero false) (omega (arith, first, h.proper.nad));
        is = refl;
      },
    )
enough ifs (a ∷ c ∷ []) more v h =
    let first : a ≡ v.nad = ap (λ (l : List ℕ). get_or l 0 0) h.is in
    let octet : pcb_octet v.pcb ≡ c = sym (ap (λ (l : List ℕ). get_or l 1 0) h.is) in
    let w = shortest a v.pcb in
    let rest : List ℕ = length w.inf ∷ (w.inf ++ xor_of (front_of w) ∷ []) in (
      w,
      rest,
      omega (
        arith,
        length-append w.inf (xor_of (front_of w) ∷ []),
        length-replicate {A = ℕ} (len_least v.pcb) 1,
        field-of v.pcb c octet,
      ),
      record {
        proper = shortest-proper ifs a v.pcb (omega (arith, first, h.proper.nad));
        is = ap (λ (x : ℕ). a ∷ x ∷ rest) (sym octet);
      },
    )
enough ifs (a ∷ c ∷ len ∷ rest) more v h =
    let field : len ≡ length v.inf = ap (λ (l : List ℕ). get_or l 2 0) h.is in
    (v, more, omega (arith, ap length h.is, spelling-len v, field, length-append rest more), h)

pub is_least : (ifs : ℕ) (b : List ℕ) → Begins (IsBlock ifs) b → IsLeast (IsBlock ifs) b (block_least b)
is_least ifs b h = record { fewer = fewer ifs b; enough = enough ifs b h.1 h.0 h.2 }
