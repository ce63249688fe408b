-- What a data object list leaves under way.
use Rattle.std.proofs.Common.{◌≡◌, ◌∙◌, ◌+◌, ◌-◌, ◌<◌, ◌≤◌, ℕ, List, [], ◌∷◌, ◌++◌, Bool, true, false, Option, Some, None, refl, ap, sym, arith, length, get_or, drop, take, slice_range}
use Rattle.std.specs.Prelude.{is_some, if◌then◌else◌}
use Rattle.std.specs.Option.{MatchOption}
use Rattle.std.proofs.lemmas.List.{drop_more, drop_all, take_more, take_all, get_or-drop, length-drop}
use Rattle.octet_core.specs.Octets.{AreOctets}
use Rattle.tlv_core.specs.Tag.{IsTag, is_tag}
use Rattle.tlv_core.proofs.TagTests.{tested-tag, tag-tests}
use Rattle.shortfall.specs.List.{begun_after}

-- whether octets are a tag, by the tag that they are
pub tag-test : (b : List ℕ) (r : Option (List ℕ)) → AreOctets b
    → MatchOption r (IsTag b → ⊥) (λ tag. IsTag b × (tag ≡ b))
    → is_some r ≡ is_tag b
tag-test b (Some tag) octets h = sym (tag-tests b h.0)
tag-test b None octets h = go (is_tag b) refl
  where
    go : (t : Bool) → is_tag b ≡ t → false ≡ is_tag b
    go true e = absurd (h (tested-tag b octets e))
    go false e = sym e

-- one octet more
longer : (b : List ℕ) (s at : ℕ) → s ≤ at → at < length b
    → take (at + 1 - s) (drop s b) ≡ take (at - s) (drop s b) ++ get_or b at 0 ∷ []
longer b s at h i =
    let n : at + 1 - s ≡ at - s + 1 = omega (arith, h) in
    let same : s + (at - s) ≡ at = omega (arith, h) in
    let inside : at - s < length (drop s b) = rw (length-drop s b) (omega (arith, h, i)) in
    ap (λ (k : ℕ). take k (drop s b)) n ∙ take_more (drop s b) (at - s) 0 inside
    ∙ ap (λ (x : ℕ). take (at - s) (drop s b) ++ x ∷ [])
    (get_or-drop s b (at - s) 0 ∙ ap (λ (j : ℕ). get_or b j 0) same)

abbrev after : Bool → List ℕ → ℕ → List ℕ
after whole tag x = if whole then [] else tag ++ x ∷ []

step : (b : List ℕ) (s at : ℕ) → at < length b → begun_after (take (at - s) (drop s b)) (drop at b)
    ≡ begun_after (after (is_tag (take (at - s) (drop s b))) (take (at - s) (drop s b)) (get_or b at 0))
    (drop (at + 1) b)
step b s at i = ap (begun_after (take (at - s) (drop s b))) (drop_more b at 0 i)

-- after a whole tag comes its length, and then nothing is under way
pub begun-tag : (b : List ℕ) (s at : ℕ) → at < length b → is_tag (slice_range b s at) ≡ true
    → begun_after (slice_range b (at + 1) (at + 1)) (drop (at + 1) b) ≡ begun_after (slice_range b s at) (drop at b)
begun-tag b s at i e =
    let none : at + 1 - (at + 1) ≡ 0 = omega arith in
    ap (λ (k : ℕ). begun_after (take k (drop (at + 1) b)) (drop (at + 1) b)) none
    ∙ sym (step b s at i ∙ ap (λ (t : Bool).
    begun_after (after t (take (at - s) (drop s b)) (get_or b at 0)) (drop (at + 1) b)) e)

-- else the octet is one of the tag
pub begun-more : (b : List ℕ) (s at : ℕ) → s ≤ at → at < length b → is_tag (slice_range b s at) ≡ false
    → begun_after (slice_range b s (at + 1)) (drop (at + 1) b) ≡ begun_after (slice_range b s at) (drop at b)
begun-more b s at h i e =
    ap (λ (tag : List ℕ). begun_after tag (drop (at + 1) b)) (longer b s at h i)
    ∙ sym (step b s at i ∙ ap (λ (t : Bool).
    begun_after (after t (take (at - s) (drop s b)) (get_or b at 0)) (drop (at + 1) b)) e)

-- at the end
pub begun-end : (b : List ℕ) (s at : ℕ) → s ≤ at → at ≡ length b
    → begun_after (slice_range b s at) (drop at b) ≡ drop s b
begun-end b s at h e =
    let none : drop at b ≡ [] = drop_all at b (omega (arith, e)) in
    let all : take (at - s) (drop s b) ≡ drop s b =
    take_all (at - s) (drop s b) (rw (length-drop s b) (omega (arith, e))) in
    ap (begun_after (take (at - s) (drop s b))) none ∙ all
