-- A burst that was harmed on its way is taken for no block.
use Rattle.std.proofs.Common.{◌≡◌, ℕ, ◌+◌, ◌≤◌, ◌&&◌, ◌==◌, List, [], ◌∷◌, ◌++◌, length, take, drop, Bool, true, false, refl, sym, ap, ◌∙◌, arith, inl, inr, get_or, slice_index, Option, Some, None, if◌then◌else◌, nat_lt, bit_xor, subst}
use Rattle.std.specs.Int.Bits.{xor_assoc, xor_zero_l, xor_zero_r, xor_self}
use Rattle.std.proofs.lemmas.List.{length-append, length-take, take_all, get_or-take, get_or_append_left}
use Rattle.std.proofs.lemmas.Bool.Decides.{nat_tests}
use Rattle.octet_core.specs.Octets.{xor_of}
use Rattle.block_core.specs.Block.{Parts, IsProper, Suits, spelling, supervisory_len}
use Rattle.block_core.specs.Computed.{all_pcbs, pcb_among, suits}
use Rattle.block_core.specs.declared.pcb.Pcb.{Pcb}
use Rattle.block_core.specs.declared.pcb.Pcb.TheVariants.{Info, Ready, Request, Response}
use Rattle.block_core.specs.declared.pcb.S.{S}
use Rattle.block_core.specs.declared.pcb.S.TheVariants.{Resynch, Ifs, Abort, Wtx}
use Rattle.block_core.proofs.Blocks.{spelling-len, spelling-xor, xor-zero}
use Rattle.block_core.proofs.Readings.{xor-more}
use Rattle.t1_core.specs.Came.{got, damaged, invalid, class_of, class_with}
use Rattle.line_core.specs.Bursts.{handed, IsNoBlock, IsChanged, IsCut, IsExtended, AlwaysNoBlock}
use Rattle.line_core.specs.Joined.{AlwaysPasses}

-- ---- octets that are no whole block with a right check octet are no block

of-tests : (p q r : Bool) (pcb : Pcb) (inf : List ℕ) → (q ≡ true → r ≡ true → ⊥)
    → IsNoBlock (if p then (if q then (if r then got pcb inf else invalid) else damaged) else invalid)
of-tests true true true pcb inf never = absurd (never refl refl)
of-tests true true false pcb inf never = tt
of-tests true false r pcb inf never = tt
of-tests false q r pcb inf never = tt

of-kind : (size : ℕ) (b : List ℕ) (kind : Option Pcb) → (length b ≡ slice_index b 2 + 4 → xor_of b ≡ 0 → ⊥)
    → IsNoBlock (class_with size b (slice_index b 2 + 3) kind)
of-kind size b None never = tt
of-kind size b (Some pcb) never =
    let n : ℕ = slice_index b 2 + 3 in
    of-tests (nat_lt n (length b) && suits size pcb (drop 3 (take n b))) (xor_of (take (n + 1) b) == 0)
    ((length b == n + 1) && (slice_index b 0 == 0)) pcb (drop 3 (take n b))
    (λ sum long.
    let all : length b ≡ n + 1 = grind (arith, nat_tests) in
    let zero : xor_of (take (n + 1) b) ≡ 0 = grind (arith, nat_tests) in
    never (omega arith) (ap xor_of (sym (take_all (n + 1) b (omega arith))) ∙ zero))

no-block : (size : ℕ) (b : List ℕ) → (length b ≡ slice_index b 2 + 4 → xor_of b ≡ 0 → ⊥) → IsNoBlock (class_of size b)
no-block size b never = of-kind size b (pcb_among all_pcbs (slice_index b 1)) never

-- ---- the three harms

small : (s : S) → supervisory_len s ≤ 1
small Resynch = omega arith
small Ifs = omega arith
small Abort = omega arith
small Wtx = omega arith

fits-most : (kind : Pcb) (inf : List ℕ) → Suits 254 kind inf → length inf ≤ 254
fits-most (Info number more) inf suits = suits
fits-most (Ready number fault) inf suits = omega arith
fits-most (Request s) inf suits = omega (arith, small s, suits.0)
fits-most (Response s) inf suits = omega (arith, small s, suits.0)

field-most : (block : Parts) → IsProper 254 block → length block.inf ≤ 254
field-most block proper = fits-most block.pcb block.inf proper.suits

-- the exclusive-or of a list around one octet
around : (before after : List ℕ) (x : ℕ)
    → xor_of (before ++ x ∷ after) ≡ bit_xor (xor_of before) (bit_xor x (xor_of after))
around before after x = sym (xor-more (xor_of before) (bit_xor x (xor_of after)) before (x ∷ after) refl
    (xor-more x (xor_of after) (x ∷ []) after (sym (xor_zero_l x)) refl))

-- what has the same exclusive-or with another number is the same
back : (x q : ℕ) → bit_xor (bit_xor x q) q ≡ x
back x q = xor_assoc x q q ∙ ap (bit_xor x) (xor_self q) ∙ xor_zero_r x

cancel : (x y q : ℕ) → bit_xor x q ≡ bit_xor y q → x ≡ y
cancel x y q e = sym (back x q) ∙ ap (λ (n : ℕ). bit_xor n q) e ∙ back y q

one-octet : (before after : List ℕ) (was came : ℕ) → xor_of (before ++ was ∷ after) ≡ 0
    → xor_of (before ++ came ∷ after) ≡ 0 → came ≡ was
one-octet before after was came one other = cancel came was (xor_of after)
    (xor-zero (xor_of before) (bit_xor came (xor_of after)) (sym (around before after came) ∙ other)
    ∙ sym (xor-zero (xor_of before) (bit_xor was (xor_of after)) (sym (around before after was) ∙ one)))

changed : (block : Parts) → IsProper 254 block → (burst : List ℕ) → IsChanged (spelling block) burst → (size : ℕ)
    → IsNoBlock (class_of size (take handed burst))
changed block proper burst h size =
    let sent : length (spelling block) ≡ length burst = ap length h.sent_is ∙ length-append h.before (h.was ∷ h.after)
    ∙ sym (length-append h.before (h.came ∷ h.after)) ∙ ap length (sym h.burst_is) in
    let all : take handed burst ≡ burst =
    take_all handed burst (omega (arith, spelling-len block, field-most block proper, sent)) in
    no-block size (take handed burst) (λ long zero. h.other (one-octet h.before h.after h.was h.came
    (ap xor_of (sym h.sent_is) ∙ spelling-xor block) (ap xor_of (sym h.burst_is) ∙ ap xor_of (sym all) ∙ zero)))

cut : (block : Parts) → IsProper 254 block → (burst : List ℕ) → IsCut (spelling block) burst → (size : ℕ)
    → IsNoBlock (class_of size (take handed burst))
cut block proper burst h size =
    let sent : length (spelling block) ≡ length burst + length h.missing =
    ap length h.sent_is ∙ length-append burst h.missing in
    let all : take handed burst ≡ burst =
    take_all handed burst (omega (arith, spelling-len block, field-most block proper, sent, h.some)) in
    no-block size (take handed burst) (λ long zero.
    let here : length burst ≡ get_or burst 2 0 + 4 =
    subst (λ (l : List ℕ). length l ≡ get_or l 2 0 + 4) all long in
    let third : get_or burst 2 0 ≡ length block.inf =
    sym (get_or_append_left burst h.missing 0 2 (omega arith)) ∙ ap (λ (l : List ℕ). get_or l 2 0) (sym h.sent_is) in
    omega (arith, spelling-len block, sent, h.some))

extended : (block : Parts) → IsProper 254 block → (burst : List ℕ) → IsExtended (spelling block) burst → (size : ℕ)
    → IsNoBlock (class_of size (take handed burst))
extended block proper burst h size =
    let sent : length burst ≡ length (spelling block) + length h.more =
    ap length h.burst_is ∙ length-append (spelling block) h.more in
    let third : get_or (take handed burst) 2 0 ≡ length block.inf =
    get_or-take handed burst 2 0 (omega arith) ∙ ap (λ (l : List ℕ). get_or l 2 0) h.burst_is
    ∙ get_or_append_left (spelling block) h.more 0 2 (omega (arith, spelling-len block)) in
    no-block size (take handed burst) (λ long zero.
    omega (arith, spelling-len block, field-most block proper, sent, h.some, length-take handed burst))

pub always-no-block : AlwaysNoBlock
always-no-block block proper burst octets harm size = elim harm [
  | inl h ↦ changed block proper burst h size
  | inr other ↦ elim other [
    | inl h ↦ cut block proper burst h size
    | inr h ↦ extended block proper burst h size
  ]
]

pub always-passes : AlwaysNoBlock → AlwaysPasses
always-passes never sent proper burst octets came = elim came [
  | inl same ↦ inl (take_all handed burst
      (omega (arith, ap length same, spelling-len sent, field-most sent proper)) ∙ same)
  | inr harm ↦ inr (λ size. never sent proper burst octets harm size)
]
