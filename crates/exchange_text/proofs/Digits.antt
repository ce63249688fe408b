-- Upper-case hexadecimal: what decodes is encoded to the same digits again, and no digit is a space or a line feed.
use Rattle.std.proofs.Common.{◌≡◌, ℕ, zero, suc, ◌+◌, ◌*◌, ◌/◌, ◌%◌, ◌<◌, ◌==◌, ◌&&◌, ◌||◌, not, nat_lt, List, [], ◌∷◌, Bool, true, false, Option, Some, None, Result, Ok, Err, refl, sym, ap, ◌∙◌, subst, arith, rules, slice_index, inl, inr}
use Rattle.std.specs.List.{list_all}
use Rattle.std.specs.Option.{unwrap_or}
use Rattle.std.proofs.lemmas.Bool.{cases_lt}
use Rattle.hex.specs.Hex.{◌>>=◌, decode_of, decode_pairs, digit_or_error, encode_upper, encode_with, hex_digit_value, pair_value, upper_digits, value_at}
use Rattle.hex.specs.declared.error.FromHexError.{FromHexError}
use Rattle.hex.proofs.HexLemmas.{decode_of-even, decode_of-ok}
use Rattle.exchange_text.specs.Reading.{is_upper_digit, is_space, is_line_feed}
use Rattle.exchange_text.proofs.Naming.{both}

abbrev all_below : (ℕ → Bool) → ℕ → Bool
all_below p zero = true
all_below p (suc n) = p n && all_below p n

below-all : (p : ℕ → Bool) (n c : ℕ) → all_below p n ≡ true → c < n → p c ≡ true
below-all p zero c h lt = absurd (omega arith)
below-all p (suc n) c h lt =
    let k = both (p n) (all_below p n) h in
    elim (cases_lt c n) [
      | inl less ↦ below-all p n c k.1 less
      | inr more ↦ let e : c ≡ n = omega arith in subst (λ (x : ℕ). p x ≡ true) (sym e) k.0
    ]

-- neither a space nor a line feed
abbrev pub is_plain : ℕ → Bool
is_plain c = not (is_space c) && not (is_line_feed c)

abbrev good : ℕ → Bool
good c = not (is_upper_digit c)
    || ((nat_lt (unwrap_or (hex_digit_value c) 16) 16
    && slice_index upper_digits (unwrap_or (hex_digit_value c) 16) == c)
    && is_plain c)

all-good : all_below good 128 ≡ true
all-good = refl

-- what an upper-case digit is
record IsDigit (c : ℕ) : Type 0 where
  small : unwrap_or (hex_digit_value c) 16 < 16
  back : slice_index upper_digits (unwrap_or (hex_digit_value c) 16) ≡ c
  plain : is_plain c ≡ true

either : (a b : Bool) → a ≡ true → not a || b ≡ true → b ≡ true
either true b e h = h
either false b e h = cc

low : (c : ℕ) → is_upper_digit c ≡ true → c < 128
low c h = search (rules, h)

small-by : (n : ℕ) → nat_lt n 16 ≡ true → n < 16
small-by n h = search (rules, h)

same-by : (a b : ℕ) → a == b ≡ true → a ≡ b
same-by a b h = search (rules, h)

is-digit : (c : ℕ) → is_upper_digit c ≡ true → IsDigit c
is-digit c h =
    let v = unwrap_or (hex_digit_value c) 16 in
    let g = either (is_upper_digit c) ((nat_lt v 16 && slice_index upper_digits v == c) && is_plain c) h
    (below-all good 128 c all-good (low c h)) in
    let p = both (nat_lt v 16 && slice_index upper_digits v == c) (is_plain c) g in
    let q = both (nat_lt v 16) (slice_index upper_digits v == c) p.0 in
    record { small = small-by v q.0; back = same-by (slice_index upper_digits v) c q.1; plain = p.1 }

-- the ? of hexadecimal, taken apart
bind : {A B : Type 0} (r : Result A FromHexError) (f : A → Result B FromHexError) (x : B) → (r >>= f) ≡ Ok x
    → (a : A) × (r ≡ Ok a) × (f a ≡ Ok x)
bind (Ok a) f x e = (a, refl, e)
bind (Err e') f x e = cc

value-is : (c i v : ℕ) (o : Option ℕ) → digit_or_error c i o ≡ Ok v → o ≡ Some v
value-is c i v None e = cc
value-is c i v (Some w) e = cc

high : (h l : ℕ) → h < 16 → l < 16 → (h * 16 + l) / 16 ≡ h
high h l p q = omega arith

lower : (h l : ℕ) → h < 16 → l < 16 → (h * 16 + l) % 16 ≡ l
lower h l p q = omega arith

ok-same : {A E : Type 0} (x y : A) (r : Result A E) → r ≡ Ok x → r ≡ Ok y → x ≡ y
ok-same x y r e f = let s : r ≡ r = refl in cc

pair-back : (a b i byte : ℕ) → IsDigit a → IsDigit b → pair_value a b i ≡ Ok byte
    → (slice_index upper_digits (byte / 16) ≡ a) × (slice_index upper_digits (byte % 16) ≡ b)
pair-back a b i byte da db e =
    let p0 = bind (value_at a i) (λ h. value_at b (i + 1) >>= (λ l. Ok (h * 16 + l))) byte e in
    let p1 = bind (value_at b (i + 1)) (λ l. Ok (p0.0 * 16 + l)) byte p0.2 in
    let va = value-is a i p0.0 (hex_digit_value a) p0.1 in
    let vb = value-is b (i + 1) p1.0 (hex_digit_value b) p1.1 in
    let sum : p0.0 * 16 + p1.0 ≡ byte = cc in
    let sa = rw va at da.small in
    let sb = rw vb at db.small in
    let ba = rw va at da.back in
    let bb = rw vb at db.back in
    rw (sym sum) (
      ap (slice_index upper_digits) (high p0.0 p1.0 sa sb) ∙ ba,
      ap (slice_index upper_digits) (lower p0.0 p1.0 sa sb) ∙ bb,
    )

pairs-back : (i : ℕ) (s o : List ℕ) → list_all is_upper_digit s ≡ true → decode_pairs i s ≡ Ok o
    → encode_with upper_digits o ≡ s
unfolding decode_pairs encode_with
pairs-back i [] o h e = let n : [] ≡ o = ok-same [] o (decode_pairs i []) refl e in rw (sym n) refl
pairs-back i (a ∷ []) o h e = cc
pairs-back i (a ∷ b ∷ rest) o h e =
    let ka = both (is_upper_digit a) (list_all is_upper_digit (b ∷ rest)) h in
    let kb = both (is_upper_digit b) (list_all is_upper_digit rest) ka.1 in
    let p0 = bind (pair_value a b i) (λ byte. decode_pairs (i + 2) rest >>= (λ bytes. Ok (byte ∷ bytes))) o e in
    let p1 = bind (decode_pairs (i + 2) rest) (λ bytes. Ok (p0.0 ∷ bytes)) o p0.2 in
    let n : p0.0 ∷ p1.0 ≡ o = ok-same (p0.0 ∷ p1.0) o (Ok (p0.0 ∷ p1.0)) refl p1.2 in
    let back = pair-back a b i p0.0 (is-digit a ka.0) (is-digit b kb.0) p0.1 in
    let ih = pairs-back (i + 2) rest p1.0 kb.1 p1.1 in
    rw (sym n) (rw (back.0, back.1, ih) refl)

-- upper-case digits are the text of what they give
pub decode-back : (s o : List ℕ) → list_all is_upper_digit s ≡ true → decode_of s ≡ Ok o → encode_upper o ≡ s
decode-back s o h e = let ok = decode_of-ok s o e in pairs-back 0 s o h (sym (decode_of-even s ok.0) ∙ e)
