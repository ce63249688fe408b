-- A command goes on from octets exactly where no octet trails.
use Rattle.std.proofs.Common.{◌≡◌, ◌≢◌, ℕ, zero, suc, ◌+◌, ◌-◌, ◌*◌, ◌/◌, ◌%◌, ◌<◌, ◌≤◌, ◌++◌, List, [], ◌∷◌, length, take, drop, replicate, get_or, slice_index, refl, sym, ap, subst, ◌∙◌, arith, append_assoc, inl, inr, ◌⊎◌}
use Rattle.std.proofs.lemmas.List.{append-nil, length-append, length-take, length-drop, take-append-drop, length-replicate}
use Rattle.std.proofs.Math.Seq.{get_or-append_right}
use Rattle.std.proofs.lemmas.Bool.{cases_lt}
use Rattle.octet_core.specs.Octets.{AreOctets}
use Rattle.octet_core.specs.Grammar.{Begins}
use Rattle.octet_core.proofs.Lists.{octet-at, octets-append, zeros-octets}
use Rattle.apdu_core.specs.declared.command.Body.{Body}
use Rattle.apdu_core.specs.declared.command.Body.TheVariants.{Empty, ShortLe, ShortPart, ShortBoth, LongLe, LongPart, LongBoth}
use Rattle.apdu_core.specs.Command.{IsCommand, FitsFields, IsCount, body_octets, short_of, long_of, IsTrailing, long_count}
use Rattle.apdu_core.specs.Response.{ResponseParts, IsResponse}
use Rattle.apdu_core.proofs.Unique.{long-same, below_sub}

-- the numbers that make an octet trailing
abbrev pub Trails : ℕ → ℕ → ℕ → Type 0
Trails x lc n = ((x ≢ 0) × (x + 6 < n)) ⊎ ((x ≡ 0) × (lc ≡ 0) × (7 < n)) ⊎ ((x ≡ 0) × (lc ≢ 0) × (lc + 9 < n))

none-trails : (body : Body) (x lc n : ℕ) → FitsFields body → n ≤ length (body_octets body) + 4
    → (4 < n → x ≡ slice_index (body_octets body) 0)
    → (6 < n → lc ≡ slice_index (body_octets body) 1 * 256 + slice_index (body_octets body) 2) → Trails x lc n → ⊥
none-trails Empty x lc n h le at two t =
    elim t [ inl u ↦ omega arith | inr u ↦ elim u [ inl w ↦ omega arith | inr w ↦ omega arith ] ]
none-trails (ShortLe k) x lc n h le at two t =
    elim t [ inl u ↦ omega arith | inr u ↦ elim u [ inl w ↦ omega arith | inr w ↦ omega arith ] ]
none-trails (ShortPart part) x lc n h le at two t =
    elim t [
      | inl u ↦ omega (arith, at (omega arith))
      | inr u ↦ elim u [
        | inl w ↦ omega (arith, h.0, at (omega arith))
        | inr w ↦ omega (arith, h.0, at (omega arith))
      ]
    ]
none-trails (ShortBoth part k) x lc n h le at two t =
    let long : length (part ++ short_of k) ≡ length part + 1 = length-append part (short_of k) in
    elim t [
      | inl u ↦ omega (arith, long, at (omega arith))
      | inr u ↦ elim u [
        | inl w ↦ omega (arith, h.0.0, at (omega arith))
        | inr w ↦ omega (arith, h.0.0, at (omega arith))
      ]
    ]
none-trails (LongLe k) x lc n h le at two t =
    elim t [ inl u ↦ omega arith | inr u ↦ elim u [ inl w ↦ omega arith | inr w ↦ omega arith ] ]
none-trails (LongPart part) x lc n h le at two t =
    elim t [
      | inl u ↦ u.0 (at (omega arith))
      | inr u ↦ elim u [
        | inl w ↦ omega (arith, h.0, h.1, long-same (length part) h.1, two (omega arith))
        | inr w ↦ omega (arith, long-same (length part) h.1, two (omega arith))
      ]
    ]
none-trails (LongBoth part k) x lc n h le at two t =
    let long : length (part ++ long_of k) ≡ length part + 2 = length-append part (long_of k) in
    elim t [
      | inl u ↦ u.0 (at (omega arith))
      | inr u ↦ elim u [
        | inl w ↦ omega (arith, h.0.0, long-same (length part) h.0.1, two (omega arith))
        | inr w ↦ omega (arith, long, long-same (length part) h.0.1, two (omega arith))
      ]
    ]

trailing-by : (header : List ℕ) (body : Body) (b more : List ℕ) → length header ≡ 4 → FitsFields body
    → b ++ more ≡ header ++ body_octets body → IsTrailing b → ⊥
trailing-by [] body b more four h e t = omega arith
trailing-by (p ∷ []) body b more four h e t = omega arith
trailing-by (p ∷ q ∷ []) body b more four h e t = omega arith
trailing-by (p ∷ q ∷ r ∷ []) body b more four h e t = omega arith
trailing-by (p ∷ q ∷ r ∷ s ∷ []) body b more four h e t =
    let all : List ℕ = p ∷ q ∷ r ∷ s ∷ body_octets body in
    none-trails body (slice_index b 4) (long_count b) (length b) h (omega (arith, ap length e, length-append b more))
    (λ lt. octet-at b more all 4 lt e)
    (λ lt. λ i. octet-at b more all 5 (omega arith) e i * 256 + octet-at b more all 6 lt e i)
    t
trailing-by (p ∷ q ∷ r ∷ s ∷ u ∷ header) body b more four h e t = omega arith

-- no command goes on after a trailing octet
pub trailing-stuck : (b : List ℕ) → IsTrailing b → Begins IsCommand b → ⊥
trailing-stuck b t h = trailing-by h.0.header h.0.body b h.1 h.2.proper.header h.2.proper.fits h.2.is t

-- ---- and one goes on from all else

abbrev zeros : ℕ → List ℕ
zeros n = replicate n 0

begins-by : (header : List ℕ) (body : Body) (b more : List ℕ) → length header ≡ 4 → FitsFields body → AreOctets b
    → AreOctets more → header ++ body_octets body ≡ b ++ more → Begins IsCommand b
begins-by header body b more four fits p q e = (
  record { header = header; body = body },
  more,
  record {
    proper = record { header = four; fits = fits };
    octets = octets-append b more p q;
    is = sym e;
  },
)

-- a Le whose octet is x
short-some : (x : ℕ) → x < 256 → (n : ℕ) × (IsCount n 256) × (short_of n ≡ x ∷ [])
short-some zero lt = (256, (omega arith, omega arith), refl)
short-some (suc x) lt =
    let e : (suc x) % 256 ≡ suc x = omega arith in
    (suc x, (omega arith, omega arith), ap (λ (k : ℕ). k ∷ []) e)

-- a Le whose octets are y and z
long-some : (y z : ℕ) → y < 256 → z < 256 → (n : ℕ) × (IsCount n 65536) × (long_of n ≡ y ∷ z ∷ [])
long-some y z py pz =
    elim (cases_lt 0 (y * 256 + z)) [
      | inl lt ↦
          let high : (y * 256 + z) / 256 % 256 ≡ y = omega arith in
          let low : (y * 256 + z) % 256 ≡ z = omega arith in
          (y * 256 + z, (lt, omega arith), λ i. high i ∷ low i ∷ [])
      | inr le ↦
          let high : 0 ≡ y = omega arith in
          let low : 0 ≡ z = omega arith in
          (65536, (omega arith, omega arith), λ i. high i ∷ low i ∷ [])
    ]

-- a data field of so many octets, and what is left, of at most that and a Le
data Rest (lc most : ℕ) (rest : List ℕ) : Type 0 where
  within : length rest ≤ lc → Rest lc most rest
  beyond : (part left : List ℕ) → rest ≡ part ++ left → length part ≡ lc → 0 < length left
      → length left ≤ most → Rest lc most rest

rest-of : (lc most : ℕ) (rest : List ℕ) → length rest ≤ lc + most → Rest lc most rest
rest-of lc most rest le =
    elim (cases_lt lc (length rest)) [
      | inl lt ↦ beyond (take lc rest) (drop lc rest) (sym (take-append-drop lc rest))
          (omega (arith, length-take lc rest)) (omega (arith, length-drop lc rest)) (omega (arith, length-drop lc rest))
      | inr ge ↦ within ge
    ]

short-goes : (p q r s lc : ℕ) (rest : List ℕ) → 1 ≤ lc → lc ≤ 255 → AreOctets (p ∷ q ∷ r ∷ s ∷ lc ∷ rest)
    → Rest lc 1 rest → Begins IsCommand (p ∷ q ∷ r ∷ s ∷ lc ∷ rest)
short-goes p q r s lc rest some few octets (within le) =
    let part : List ℕ = rest ++ zeros (lc - length rest) in
    let len : length part ≡ lc = omega (
      arith,
      length-append rest (zeros (lc - length rest)),
      length-replicate {A = ℕ} (lc - length rest) 0,
    ) in
    begins-by (p ∷ q ∷ r ∷ s ∷ []) (ShortPart part) (p ∷ q ∷ r ∷ s ∷ lc ∷ rest) (zeros (lc - length rest)) refl
    (omega (arith, len), omega (arith, len)) octets (zeros-octets (lc - length rest))
    (ap (λ (k : ℕ). p ∷ q ∷ r ∷ s ∷ k ∷ part) len)
short-goes p q r s lc rest some few octets (beyond part [] is len pos le) = absurd (omega arith)
short-goes p q r s lc rest some few octets (beyond part (x ∷ []) is len pos le) =
    let small : x < 256 = subst (λ (n : ℕ). n < 256)
    (ap (λ (l : List ℕ). get_or l lc 0) is ∙ get_or-append_right part (x ∷ []) lc 0 (omega arith)
    ∙ ap (λ (k : ℕ). get_or (x ∷ []) k 0) (below_sub lc (length part) 0 (omega arith)))
    (octets (suc (suc (suc (suc (suc lc)))))) in
    let n = short-some x small in
    begins-by (p ∷ q ∷ r ∷ s ∷ []) (ShortBoth part n.0) (p ∷ q ∷ r ∷ s ∷ lc ∷ rest) [] refl
    ((omega arith, omega arith), n.1) octets (λ i. omega arith)
    ((λ i. p ∷ q ∷ r ∷ s ∷ len i ∷ (part ++ n.2 i)) ∙ ap (λ (l : List ℕ). p ∷ q ∷ r ∷ s ∷ lc ∷ l) (sym is)
    ∙ sym (append-nil (p ∷ q ∷ r ∷ s ∷ lc ∷ rest)))
short-goes p q r s lc rest some few octets (beyond part (x ∷ y ∷ left) is len pos le) = absurd (omega arith)

left-octet : (p q r s h l lc k : ℕ) (rest part left : List ℕ) → AreOctets (p ∷ q ∷ r ∷ s ∷ 0 ∷ h ∷ l ∷ rest)
    → rest ≡ part ++ left → length part ≡ lc → slice_index left k < 256
left-octet p q r s h l lc k rest part left octets is len =
    let place : lc + k - length part ≡ k = omega (arith, len) in
    let same : slice_index rest (lc + k) ≡ slice_index left k =
    ap (λ (x : List ℕ). get_or x (lc + k) 0) is ∙ get_or-append_right part left (lc + k) 0 (omega (arith, len))
    ∙ ap (λ (n : ℕ). get_or left n 0) place in
    subst (λ (n : ℕ). n < 256) same (octets (suc (suc (suc (suc (suc (suc (suc (lc + k)))))))))

long-goes : (p q r s h l lc : ℕ) (rest : List ℕ) → 1 ≤ lc → lc ≤ 65535 → long_of lc ≡ h ∷ l ∷ []
    → AreOctets (p ∷ q ∷ r ∷ s ∷ 0 ∷ h ∷ l ∷ rest) → Rest lc 2 rest
    → Begins IsCommand (p ∷ q ∷ r ∷ s ∷ 0 ∷ h ∷ l ∷ rest)
long-goes p q r s h l lc rest some few told octets (within le) =
    let part : List ℕ = rest ++ zeros (lc - length rest) in
    let len : length part ≡ lc = omega (
      arith,
      length-append rest (zeros (lc - length rest)),
      length-replicate {A = ℕ} (lc - length rest) 0,
    ) in
    begins-by (p ∷ q ∷ r ∷ s ∷ []) (LongPart part) (p ∷ q ∷ r ∷ s ∷ 0 ∷ h ∷ l ∷ rest) (zeros (lc - length rest)) refl
    (omega (arith, len), omega (arith, len)) octets (zeros-octets (lc - length rest))
    (ap (λ (n : ℕ). p ∷ q ∷ r ∷ s ∷ 0 ∷ (long_of n ++ part)) len
    ∙ ap (λ (t : List ℕ). p ∷ q ∷ r ∷ s ∷ 0 ∷ (t ++ part)) told)
long-goes p q r s h l lc rest some few told octets (beyond part [] is len pos le) = absurd (omega arith)
long-goes p q r s h l lc rest some few told octets (beyond part (x ∷ []) is len pos le) =
    let n = long-some x 0 (left-octet p q r s h l lc 0 rest part (x ∷ []) octets is len) (omega arith) in
    begins-by (p ∷ q ∷ r ∷ s ∷ []) (LongBoth part n.0) (p ∷ q ∷ r ∷ s ∷ 0 ∷ h ∷ l ∷ rest) (0 ∷ []) refl
    ((omega arith, omega arith), n.1) octets (zeros-octets 1)
    ((λ i. p ∷ q ∷ r ∷ s ∷ 0 ∷ ((long_of (len i) ++ part) ++ n.2 i))
    ∙ ap (λ (t : List ℕ). p ∷ q ∷ r ∷ s ∷ 0 ∷ ((t ++ part) ++ x ∷ 0 ∷ [])) told
    ∙ ap (λ (t : List ℕ). p ∷ q ∷ r ∷ s ∷ 0 ∷ h ∷ l ∷ t)
    (sym (append_assoc part (x ∷ []) (0 ∷ [])) ∙ ap (λ (t : List ℕ). t ++ 0 ∷ []) (sym is)))
long-goes p q r s h l lc rest some few told octets (beyond part (x ∷ y ∷ []) is len pos le) =
    let n = long-some x y (left-octet p q r s h l lc 0 rest part (x ∷ y ∷ []) octets is len)
    (left-octet p q r s h l lc 1 rest part (x ∷ y ∷ []) octets is len) in
    begins-by (p ∷ q ∷ r ∷ s ∷ []) (LongBoth part n.0) (p ∷ q ∷ r ∷ s ∷ 0 ∷ h ∷ l ∷ rest) [] refl
    ((omega arith, omega arith), n.1) octets (zeros-octets 0)
    ((λ i. p ∷ q ∷ r ∷ s ∷ 0 ∷ ((long_of (len i) ++ part) ++ n.2 i))
    ∙ ap (λ (t : List ℕ). p ∷ q ∷ r ∷ s ∷ 0 ∷ ((t ++ part) ++ x ∷ y ∷ [])) told
    ∙ ap (λ (t : List ℕ). p ∷ q ∷ r ∷ s ∷ 0 ∷ h ∷ l ∷ t) (sym is) ∙ sym (append-nil (p ∷ q ∷ r ∷ s ∷ 0 ∷ h ∷ l ∷ rest)))
long-goes p q r s h l lc rest some few told octets (beyond part (x ∷ y ∷ z ∷ left) is len pos le) = absurd (omega arith)

-- a command goes on from octets of which none trails
pub begins-unless : (b : List ℕ) → AreOctets b → (IsTrailing b → ⊥) → Begins IsCommand b
begins-unless [] o t = begins-by (zeros 4) Empty [] (zeros 4) refl tt o (zeros-octets 4) refl
begins-unless (p ∷ []) o t = begins-by (p ∷ zeros 3) Empty (p ∷ []) (zeros 3) refl tt o (zeros-octets 3) refl
begins-unless (p ∷ q ∷ []) o t = begins-by (p ∷ q ∷ zeros 2) Empty (p ∷ q ∷ []) (zeros 2) refl tt o (zeros-octets 2)
    refl
begins-unless (p ∷ q ∷ r ∷ []) o t = begins-by (p ∷ q ∷ r ∷ zeros 1) Empty (p ∷ q ∷ r ∷ []) (zeros 1) refl tt o
    (zeros-octets 1) refl
begins-unless (p ∷ q ∷ r ∷ s ∷ []) o t = begins-by (p ∷ q ∷ r ∷ s ∷ []) Empty (p ∷ q ∷ r ∷ s ∷ []) [] refl tt o
    (zeros-octets 0) refl
begins-unless (p ∷ q ∷ r ∷ s ∷ x ∷ []) o t =
    let n = short-some x (o 4) in
    begins-by (p ∷ q ∷ r ∷ s ∷ []) (ShortLe n.0) (p ∷ q ∷ r ∷ s ∷ x ∷ []) [] refl n.1 o (zeros-octets 0)
    (ap (λ (l : List ℕ). p ∷ q ∷ r ∷ s ∷ l) n.2)
begins-unless (p ∷ q ∷ r ∷ s ∷ zero ∷ y ∷ []) o t =
    let n = long-some y 0 (o 5) (omega arith) in
    begins-by (p ∷ q ∷ r ∷ s ∷ []) (LongLe n.0) (p ∷ q ∷ r ∷ s ∷ 0 ∷ y ∷ []) (0 ∷ []) refl n.1 o (zeros-octets 1)
    (ap (λ (l : List ℕ). p ∷ q ∷ r ∷ s ∷ 0 ∷ l) n.2)
begins-unless (p ∷ q ∷ r ∷ s ∷ zero ∷ y ∷ z ∷ []) o t =
    let n = long-some y z (o 5) (o 6) in
    begins-by (p ∷ q ∷ r ∷ s ∷ []) (LongLe n.0) (p ∷ q ∷ r ∷ s ∷ 0 ∷ y ∷ z ∷ []) [] refl n.1 o (zeros-octets 0)
    (ap (λ (l : List ℕ). p ∷ q ∷ r ∷ s ∷ 0 ∷ l) n.2)
begins-unless (p ∷ q ∷ r ∷ s ∷ zero ∷ y ∷ z ∷ u ∷ rest) o t =
    let py : y < 256 = o 5 in
    let pz : z < 256 = o 6 in
    elim (cases_lt 0 (y * 256 + z)) [
      | inl lt ↦ elim (cases_lt (y * 256 + z + 9) (length (p ∷ q ∷ r ∷ s ∷ 0 ∷ y ∷ z ∷ u ∷ rest))) [
        | inl more ↦ absurd (t (inr (inr (refl, λ e. omega (arith, e), more))))
        | inr le ↦
            let high : (y * 256 + z) / 256 % 256 ≡ y = omega arith in
            let low : (y * 256 + z) % 256 ≡ z = omega arith in
            long-goes p q r s y z (y * 256 + z) (u ∷ rest) lt (omega arith) (λ i. high i ∷ low i ∷ []) o
            (rest-of (y * 256 + z) 2 (u ∷ rest) (omega arith))
      ]
      | inr le ↦ absurd (t (inr (inl (refl, omega arith, omega arith))))
    ]
begins-unless (p ∷ q ∷ r ∷ s ∷ suc x ∷ u ∷ rest) o t =
    elim (cases_lt (suc x + 6) (length (p ∷ q ∷ r ∷ s ∷ suc x ∷ u ∷ rest))) [
      | inl more ↦ absurd (t (inl (λ e. omega (arith, e), more)))
      | inr le ↦ short-goes p q r s (suc x) (u ∷ rest) (omega arith) (let small : suc x < 256 = o 4 in omega arith) o
          (rest-of (suc x) 1 (u ∷ rest) (omega arith))
    ]

-- ---- responses

-- two octets are a first and a second one
pub pair-of : (l : List ℕ) → length l ≡ 2 → (x : ℕ) × (y : ℕ) × (l ≡ x ∷ y ∷ [])
pair-of [] e = absurd (omega arith)
pair-of (x ∷ []) e = absurd (omega arith)
pair-of (x ∷ y ∷ []) e = (x, y, refl)
pair-of (x ∷ y ∷ z ∷ l) e = absurd (omega arith)

-- no response goes on after 65,538 octets
pub long-stuck : (b : List ℕ) → 65538 < length b → Begins IsResponse b → ⊥
long-stuck b lt h =
    let v : ResponseParts = h.0 in
    omega (arith, h.2.proper.part, ap length h.2.is, length-append b h.1, length-append v.part (v.sw1 ∷ v.sw2 ∷ []))

-- and one goes on from fewer
pub response-begins : (b : List ℕ) → AreOctets b → length b ≤ 65538 → Begins IsResponse b
response-begins b octets le =
    elim (cases_lt (length b) 2) [
      | inl lt ↦ (
        record { part = b; sw1 = 0; sw2 = 0 },
        zeros 2,
        record {
          proper = record { part = omega arith };
          octets = octets-append b (zeros 2) octets (zeros-octets 2);
          is = refl;
        },
      )
      | inr more ↦
          let part : List ℕ = take (length b - 2) b in
          let left : List ℕ = drop (length b - 2) b in
          let two : length left ≡ 2 = omega (arith, length-drop (length b - 2) b) in
          let shape = pair-of left two in (
            record { part = part; sw1 = shape.0; sw2 = shape.1 },
            [],
            record {
              proper = record { part = omega (arith, length-take (length b - 2) b) };
              octets = octets-append b [] octets (zeros-octets 0);
              is = append-nil b ∙ sym (take-append-drop (length b - 2) b) ∙ ap (λ (l : List ℕ). part ++ l) shape.2;
            },
          )
    ]
