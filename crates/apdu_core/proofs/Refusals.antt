-- The refusals that the decoders answer: where octets are short, and where one trails.
use Rattle.std.proofs.Common.{◌≡◌, ◌≢◌, ℕ, ◌+◌, ◌*◌, ◌<◌, ◌≤◌, ◌++◌, ◌∷◌, List, [], length, take, drop, slice_index, refl, sym, ap, subst, ◌∙◌, arith, inl, inr}
use Rattle.std.proofs.lemmas.List.{length-append, length-take, get_or-take, take-append-drop}
use Rattle.octet_core.specs.Octets.{AreOctets}
use Rattle.octet_core.specs.Grammar.{whole, Refuses, IsFirst}
use Rattle.octet_core.specs.declared.stop.Stop.TheVariants.{At, Short}
use Rattle.octet_core.proofs.Lists.{octets-take}
use Rattle.apdu_core.specs.declared.command.Body.{Body}
use Rattle.apdu_core.specs.declared.command.Body.TheVariants.{Empty, ShortLe, ShortPart, ShortBoth, LongLe, LongPart, LongBoth}
use Rattle.apdu_core.specs.declared.reason.CommandReason.TheVariants.{Trailing}
use Rattle.apdu_core.specs.declared.reason.ResponseReason.TheVariants.{TooLong}
use Rattle.apdu_core.specs.Command.{CommandParts, IsCommand, FitsFields, IsTrailing, IsReason, body_octets, long_count, long_of, short_of}
use Rattle.apdu_core.specs.Response as response
use Rattle.apdu_core.specs.Response.{IsResponse}
use Rattle.apdu_core.proofs.Unique.{long-same}
use Rattle.apdu_core.proofs.Reasons.{Trails, trailing-stuck, begins-unless, long-stuck, response-begins}

-- the lengths that a command can have whose octet at place 4 is x, and those at places 5 and 6 tell lc
data IsWhole (x lc n : ℕ) : Type 0 where
  of_header : n ≡ 4 → IsWhole x lc n
  of_short_le : n ≡ 5 → IsWhole x lc n
  of_short_part : x ≢ 0 → x + 5 ≤ n → n ≤ x + 6 → IsWhole x lc n
  of_long_le : x ≡ 0 → n ≡ 7 → IsWhole x lc n
  of_long_part : x ≡ 0 → lc ≢ 0 → n ≡ lc + 7 → IsWhole x lc n
  of_long_both : x ≡ 0 → lc ≢ 0 → n ≡ lc + 9 → IsWhole x lc n

whole-body : (body : Body) (x lc n : ℕ) → FitsFields body → n ≡ length (body_octets body) + 4
    → (4 < n → x ≡ slice_index (body_octets body) 0)
    → (6 < n → lc ≡ slice_index (body_octets body) 1 * 256 + slice_index (body_octets body) 2) → IsWhole x lc n
whole-body Empty x lc n h e at two = of_header (omega arith)
whole-body (ShortLe k) x lc n h e at two = of_short_le (omega arith)
whole-body (ShortPart part) x lc n h e at two =
    of_short_part (λ z. omega (arith, z, h.0, at (omega arith))) (omega (arith, at (omega arith)))
    (omega (arith, at (omega arith)))
whole-body (ShortBoth part k) x lc n h e at two =
    let long : length (part ++ short_of k) ≡ length part + 1 = length-append part (short_of k) in
    of_short_part (λ z. omega (arith, z, h.0.0, at (omega arith))) (omega (arith, long, at (omega arith)))
    (omega (arith, long, at (omega arith)))
whole-body (LongLe k) x lc n h e at two = of_long_le (at (omega arith)) (omega arith)
whole-body (LongPart part) x lc n h e at two =
    let lc_is : lc ≡ length part = two (omega (arith, h.0)) ∙ long-same (length part) h.1 in
    of_long_part (at (omega arith)) (λ z. omega (arith, z, h.0, lc_is)) (omega (arith, lc_is))
whole-body (LongBoth part k) x lc n h e at two =
    let long : length (part ++ long_of k) ≡ length part + 2 = length-append part (long_of k) in
    let lc_is : lc ≡ length part = two (omega (arith, long, h.0.0)) ∙ long-same (length part) h.0.1 in
    of_long_both (at (omega arith)) (λ z. omega (arith, z, h.0.0, lc_is)) (omega (arith, long, lc_is))

whole-by : (header : List ℕ) (body : Body) (b : List ℕ) → length header ≡ 4 → FitsFields body
    → b ≡ header ++ body_octets body → IsWhole (slice_index b 4) (long_count b) (length b)
whole-by [] body b four h e = absurd (omega arith)
whole-by (p ∷ []) body b four h e = absurd (omega arith)
whole-by (p ∷ q ∷ []) body b four h e = absurd (omega arith)
whole-by (p ∷ q ∷ r ∷ []) body b four h e = absurd (omega arith)
whole-by (p ∷ q ∷ r ∷ s ∷ []) body b four h e =
    let place = λ (k : ℕ). ap (λ (l : List ℕ). slice_index l k) e in
    whole-body body (slice_index b 4) (long_count b) (length b) h (omega (arith, ap length e))
    (λ lt. place 4)
    (λ lt. λ i. place 5 i * 256 + place 6 i)
whole-by (p ∷ q ∷ r ∷ s ∷ u ∷ header) body b four h e = absurd (omega arith)

whole-length : (c : CommandParts) (b : List ℕ) → IsCommand c b → IsWhole (slice_index b 4) (long_count b) (length b)
whole-length c b h = whole-by c.header c.body b h.proper.header h.proper.fits h.is

-- ---- short

short-by : (b : List ℕ) → AreOctets b → (IsTrailing b → ⊥) → (IsWhole (slice_index b 4) (long_count b) (length b) → ⊥)
    → Refuses whole IsCommand IsReason b (Short (length b))
short-by b octets goes not_whole = record {
  none = λ v n a. not_whole (whole-length v b a.1);
  end = refl;
  begun = begins-unless b octets goes;
}

-- fewer octets than a header
pub short-header : (b : List ℕ) → AreOctets b → length b < 4 → Refuses whole IsCommand IsReason b (Short (length b))
short-header b octets lt =
    short-by b octets
    (λ t. elim t [ inl u ↦ omega arith | inr u ↦ elim u [ inl w ↦ omega arith | inr w ↦ omega arith ] ])
    (λ w. elim w [
      | of_header e ↦ omega arith
      | of_short_le e ↦ omega arith
      | of_short_part x l g ↦ omega arith
      | of_long_le x e ↦ omega arith
      | of_long_part x y e ↦ omega arith
      | of_long_both x y e ↦ omega arith
    ])

-- fewer octets than a short Lc tells
pub short-part : (b : List ℕ) → AreOctets b → slice_index b 4 ≢ 0 → 5 < length b → length b < slice_index b 4 + 5
    → Refuses whole IsCommand IsReason b (Short (length b))
short-part b octets some more lt =
    short-by b octets
    (λ t. elim t [ inl u ↦ omega arith | inr u ↦ elim u [ inl w ↦ some w.0 | inr w ↦ some w.0 ] ])
    (λ w. elim w [
      | of_header e ↦ omega arith
      | of_short_le e ↦ omega arith
      | of_short_part x l g ↦ omega arith
      | of_long_le x e ↦ some x
      | of_long_part x y e ↦ some x
      | of_long_both x y e ↦ some x
    ])

-- one octet of an extended Lc or Le
pub short-long : (b : List ℕ) → AreOctets b → slice_index b 4 ≡ 0 → 5 < length b → length b < 7
    → Refuses whole IsCommand IsReason b (Short (length b))
short-long b octets none more lt =
    short-by b octets
    (λ t. elim t [ inl u ↦ u.0 none | inr u ↦ elim u [ inl w ↦ omega arith | inr w ↦ omega arith ] ])
    (λ w. elim w [
      | of_header e ↦ omega arith
      | of_short_le e ↦ omega arith
      | of_short_part x l g ↦ x none
      | of_long_le x e ↦ omega arith
      | of_long_part x y e ↦ y (omega arith)
      | of_long_both x y e ↦ omega arith
    ])

-- some octets, but fewer than an extended Lc tells
pub short-long_part : (b : List ℕ) → AreOctets b → slice_index b 4 ≡ 0 → 7 < length b → length b < long_count b + 7
    → Refuses whole IsCommand IsReason b (Short (length b))
short-long_part b octets none more lt =
    short-by b octets
    (λ t. elim t [ inl u ↦ u.0 none | inr u ↦ elim u [ inl w ↦ omega (arith, w.1) | inr w ↦ omega arith ] ])
    (λ w. elim w [
      | of_header e ↦ omega arith
      | of_short_le e ↦ omega arith
      | of_short_part x l g ↦ x none
      | of_long_le x e ↦ omega arith
      | of_long_part x y e ↦ omega arith
      | of_long_both x y e ↦ omega arith
    ])

-- one octet of an extended Le after a data field
pub short-long_le : (b : List ℕ) → AreOctets b → slice_index b 4 ≡ 0 → long_count b ≢ 0 → length b ≡ long_count b + 8
    → Refuses whole IsCommand IsReason b (Short (length b))
short-long_le b octets none some is =
    short-by b octets
    (λ t. elim t [ inl u ↦ u.0 none | inr u ↦ elim u [ inl w ↦ some w.1 | inr w ↦ omega arith ] ])
    (λ w. elim w [
      | of_header e ↦ omega arith
      | of_short_le e ↦ omega arith
      | of_short_part x l g ↦ x none
      | of_long_le x e ↦ some (omega arith)
      | of_long_part x y e ↦ omega arith
      | of_long_both x y e ↦ omega arith
    ])

-- ---- trailing

trails-in : (b : List ℕ) (k : ℕ) → 6 < k → k ≤ length b
    → (Trails (slice_index b 4) (long_count b) k → IsTrailing (take k b))
    × (IsTrailing (take k b) → Trails (slice_index b 4) (long_count b) k)
trails-in b k more le =
    let at : (i : ℕ) → i < k → slice_index (take k b) i ≡ slice_index b i = λ i lt. get_or-take k b i 0 lt in
    let four : slice_index (take k b) 4 ≡ slice_index b 4 = at 4 (omega arith) in
    let count : long_count (take k b) ≡ long_count b = λ i. at 5 (omega arith) i * 256 + at 6 more i in
    let len : length (take k b) ≡ k = omega (arith, length-take k b) in
    let same : IsTrailing (take k b) ≡ Trails (slice_index b 4) (long_count b) k =
    λ i. Trails (four i) (count i) (len i) in
    (subst (λ (A : Type 0). A) (sym same), subst (λ (A : Type 0). A) same)

refused-by : (b : List ℕ) (p : ℕ) → AreOctets b → 6 < p → p < length b → (Trails (slice_index b 4) (long_count b) p → ⊥)
    → Trails (slice_index b 4) (long_count b) (p + 1) → Refuses whole IsCommand IsReason b (At p Trailing)
unfolding IsFirst
refused-by b p octets more inside goes trails =
    let t : IsTrailing (take (p + 1) b) = (trails-in b (p + 1) (omega arith) (omega arith)).0 trails in (
      record {
        none = λ v n a. trailing-stuck (take (p + 1) b) t
            (v, drop (p + 1) b, subst (IsCommand v) (sym (take-append-drop (p + 1) b)) a.1);
        inside = inside;
        begun = begins-unless (take p b) (octets-take p b octets) (λ u. goes ((trails-in b p more (omega arith)).1 u));
        stuck = trailing-stuck (take (p + 1) b) t;
      },
      inl (t, refl),
    )

-- after a short Lc, its data field and a short Le
pub trailing-short : (b : List ℕ) → AreOctets b → slice_index b 4 ≢ 0 → slice_index b 4 + 6 < length b
    → Refuses whole IsCommand IsReason b (At (slice_index b 4 + 6) Trailing)
trailing-short b octets some lt =
    refused-by b (slice_index b 4 + 6) octets (omega arith) lt
    (λ t. elim t [ inl u ↦ omega arith | inr u ↦ elim u [ inl w ↦ some w.0 | inr w ↦ some w.0 ] ])
    (inl (some, omega arith))

-- after an extended Le alone
pub trailing-long_le : (b : List ℕ) → AreOctets b → slice_index b 4 ≡ 0 → long_count b ≡ 0 → 7 < length b
    → Refuses whole IsCommand IsReason b (At 7 Trailing)
trailing-long_le b octets none zero_lc lt =
    refused-by b 7 octets (omega arith) lt
    (λ t. elim t [ inl u ↦ u.0 none | inr u ↦ elim u [ inl w ↦ omega arith | inr w ↦ w.1 zero_lc ] ])
    (inr (inl (none, zero_lc, omega arith)))

-- after an extended Lc, its data field and an extended Le
pub trailing-long : (b : List ℕ) → AreOctets b → slice_index b 4 ≡ 0 → long_count b ≢ 0 → long_count b + 9 < length b
    → Refuses whole IsCommand IsReason b (At (long_count b + 9) Trailing)
trailing-long b octets none some lt =
    refused-by b (long_count b + 9) octets (omega arith) lt
    (λ t. elim t [ inl u ↦ u.0 none | inr u ↦ elim u [ inl w ↦ some w.1 | inr w ↦ omega arith ] ])
    (inr (inr (none, some, omega arith)))

-- ---- responses

-- fewer octets than the status bytes
pub short-status : (b : List ℕ) → AreOctets b → length b < 2
    → Refuses whole IsResponse response.IsReason b (Short (length b))
short-status b octets lt = record {
  none = λ r n a. omega (arith, ap length a.1.is, length-append r.part (r.sw1 ∷ r.sw2 ∷ []));
  end = refl;
  begun = response-begins b octets (omega arith);
}

-- more octets than the longest response has
pub too-long : (b : List ℕ) → AreOctets b → 65538 < length b
    → Refuses whole IsResponse response.IsReason b (At 65538 TooLong)
unfolding IsFirst
too-long b octets lt =
    let upto : length (take 65539 b) ≡ 65539 = omega (arith, length-take 65539 b) in (
      record {
        none = λ r n a. omega (arith, ap length a.1.is, a.1.proper.part, length-append r.part (r.sw1 ∷ r.sw2 ∷ []));
        inside = lt;
        begun = response-begins (take 65538 b) (octets-take 65538 b octets) (omega (arith, length-take 65538 b));
        stuck = long-stuck (take 65539 b) (omega arith);
      },
      inl (upto, refl),
    )
