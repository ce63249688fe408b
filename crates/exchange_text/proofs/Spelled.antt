-- What the words of a text say when they are read back, and that no word has a space or a line feed.
use Rattle.std.proofs.Common.{◌≡◌, ℕ, zero, suc, ◌<◌, ◌≤◌, ◌/◌, ◌%◌, ◌==◌, not, nat_le, List, [], ◌∷◌, ◌++◌, length, Bool, true, false, Ok, codes, decimal, refl, ap, ◌∙◌, arith, rules, slice_index}
use Rattle.std.proofs.lemmas.Bool.{not-true}
use Rattle.std.specs.List.{All, list_all, slice_split}
use Rattle.std.specs.Str.{bytes_eq}
use Rattle.std.specs.Char.{is_ascii_digit}
use Rattle.std.proofs.lemmas.List.Elements.{All-cons, All-nil, All-get_or}
use Rattle.std.proofs.lemmas.List.Sums.{AllPass-from_list_all}
use Rattle.std.proofs.lemmas.List.Splits.{slice_split_at, slice_split_none}
use Rattle.hex.specs.Hex.{decode_pairs, decode_sized, encode_upper, encode_with, upper_digits}
use Rattle.hex.proofs.HexLemmas.{decode_of-encode_upper, decode_pairs-encode_with, length-encode_with, IsDigits-upper_digits}
use Rattle.octet_core.specs.Octets.{AreOctets}
use Rattle.octet_core.proofs.Decimals.{decimal-is, has_digits, joined}
use Rattle.exchange_text.specs.Reading.{are_upper_digits, is_line_feed, is_space, is_upper_digit, octet_of, octet_said, octets_of, octets_said}
use Rattle.exchange_text.specs.Text.{octet_text, octets_text}
use Rattle.exchange_text.proofs.Digits.{is_plain}
use Rattle.exchange_text.proofs.Naming.{both}

-- ---- lists of characters

-- a list whose characters all pass a test passes each weaker one
pub weaker : (p q : ℕ → Bool) → ((c : ℕ) → p c ≡ true → q c ≡ true) → (xs : List ℕ) → list_all p xs ≡ true
    → list_all q xs ≡ true
weaker p q f [] h = refl
weaker p q f (x ∷ xs) h = let k = both (p x) (list_all p xs) h in
    joined (q x) (list_all q xs) (f x k.0) (weaker p q f xs k.1)

-- two lists that pass a test pass it in a row
pub appended : (p : ℕ → Bool) (xs ys : List ℕ) → list_all p xs ≡ true → list_all p ys ≡ true
    → list_all p (xs ++ ys) ≡ true
appended p [] ys h k = k
appended p (x ∷ xs) ys h k = let b = both (p x) (list_all p xs) h in
    joined (p x) (list_all p (xs ++ ys)) b.0 (appended p xs ys b.1 k)

-- no element passes
none-pass : (p : ℕ → Bool) (xs : List ℕ) → list_all (λ c. not (p c)) xs ≡ true → All (λ c. p c ≡ false) xs
none-pass p [] h = All-nil (λ c. p c ≡ false)
none-pass p (x ∷ xs) h =
    let k = both (not (p x)) (list_all (λ c. not (p c)) xs) h in
    All-cons (λ c. p c ≡ false) x xs (not-true (p x) k.0) (none-pass p xs k.1)

-- a list without a mark is one part, and with one more after a mark the first
pub one-part : (p : ℕ → Bool) (xs : List ℕ) → list_all (λ c. not (p c)) xs ≡ true → slice_split p xs ≡ xs ∷ []
one-part p xs h = slice_split_none p xs (none-pass p xs h)

-- what has no mark, with a mark right after it, is the first part
pub first-part : (p : ℕ → Bool) (xs : List ℕ) (y : ℕ) (ys : List ℕ) → list_all (λ c. not (p c)) xs ≡ true
    → p y ≡ true → slice_split p (xs ++ y ∷ ys) ≡ xs ∷ slice_split p ys
first-part p xs y ys h e = slice_split_at p xs y ys (none-pass p xs h) e

-- ---- plain words

-- any character but a space
abbrev pub no_space : ℕ → Bool
no_space c = not (is_space c)

-- any character but a line feed
abbrev pub no_feed : ℕ → Bool
no_feed c = not (is_line_feed c)

-- a word of plain characters
abbrev pub IsWord : List ℕ → Type 0
IsWord word = list_all is_plain word ≡ true

-- a word has no space
pub spaceless : (word : List ℕ) → IsWord word → list_all no_space word ≡ true
spaceless word h = weaker is_plain no_space (λ c k. (both (no_space c) (no_feed c) k).0) word h

-- and no line feed
pub feedless : (word : List ℕ) → IsWord word → list_all no_feed word ≡ true
feedless word h = weaker is_plain no_feed (λ c k. (both (no_space c) (no_feed c) k).1) word h

-- ---- hexadecimal

digit-upper : (i : ℕ) → i < 16 → is_upper_digit (slice_index upper_digits i) ≡ true
digit-upper i lt = All-get_or (λ c. is_upper_digit c ≡ true) upper_digits i 0 lt
    (AllPass-from_list_all is_upper_digit upper_digits refl)

digit-plain : (c : ℕ) → is_upper_digit c ≡ true → is_plain c ≡ true
digit-plain c h = search (rules, h)

-- digits spell octets
pub upper-octets : (octets : List ℕ) → AreOctets octets
    → list_all is_upper_digit (encode_with upper_digits octets) ≡ true
unfolding encode_with
upper-octets [] h = refl
upper-octets (octet ∷ octets) h =
    let fits : octet < 256 = h 0 in
    joined (is_upper_digit (slice_index upper_digits (octet / 16))) _ (digit-upper (octet / 16) (omega arith))
    (joined (is_upper_digit (slice_index upper_digits (octet % 16))) _ (digit-upper (octet % 16) (omega arith))
    (upper-octets octets (λ i. h (suc i))))

-- the digits of octets are a word
pub word-hex : (octets : List ℕ) → AreOctets octets → IsWord (encode_upper octets)
word-hex octets h = weaker is_upper_digit is_plain digit-plain (encode_upper octets) (upper-octets octets h)

-- and so is the text of octets, of none too
pub word-octets : (octets : List ℕ) → AreOctets octets → IsWord (octets_text octets)
word-octets [] h = refl
word-octets (octet ∷ octets) h = word-hex (octet ∷ octets) h

not-n : (c : ℕ) → is_upper_digit c ≡ true → c == 110 ≡ false
not-n c h = search (rules, h)

-- digits aren't the word for no octets
not-none : (octet : ℕ) (octets : List ℕ) → list_all is_upper_digit (encode_upper (octet ∷ octets)) ≡ true
    → bytes_eq (encode_upper (octet ∷ octets)) (codes "none") ≡ false
unfolding encode_with
not-none octet octets h =
    let k = both (is_upper_digit (slice_index upper_digits (octet / 16)))
    (list_all is_upper_digit (slice_index upper_digits (octet % 16) ∷ encode_with upper_digits octets)) h in
    rw (not-n (slice_index upper_digits (octet / 16)) k.0) refl

some-by : (n : ℕ) → 1 ≤ n → nat_le 1 n ≡ true
some-by n h = search (rules, h)

some-digits : (octet : ℕ) (octets : List ℕ) → list_all is_upper_digit (encode_upper (octet ∷ octets)) ≡ true
    → are_upper_digits (encode_upper (octet ∷ octets)) ≡ true
some-digits octet octets h =
    let text = encode_upper (octet ∷ octets) in
    let len = length-encode_with upper_digits (octet ∷ octets) in
    joined (nat_le 1 (length text)) (list_all is_upper_digit text) (some-by (length text) (omega (arith, len))) h

-- octets are read back
pub octets-back : (octets : List ℕ) → AreOctets octets → octets_said (octets_text octets) ≡ Ok octets
octets-back [] h = refl
octets-back (octet ∷ octets) h =
    let upper = upper-octets (octet ∷ octets) h in
    rw (not-none octet octets upper) (rw (some-digits octet octets upper)
    (ap octets_of (decode_of-encode_upper (octet ∷ octets) h)))

one-octet : (octet : ℕ) → octet < 256 → AreOctets (octet ∷ [])
one-octet octet lt zero = lt
one-octet octet lt (suc i) = omega arith

-- the text of one octet is a word
pub word-octet : (octet : ℕ) → octet < 256 → IsWord (octet_text octet)
word-octet octet lt = word-hex (octet ∷ []) (one-octet octet lt)

sized : (octet : ℕ) → decode_sized (octet_text octet) 1 ≡ decode_pairs 0 (octet_text octet)
unfolding encode_with
sized octet = refl

-- an octet is read back
pub octet-back : (octet : ℕ) → octet < 256 → octet_said (octet_text octet) ≡ Ok octet
octet-back octet lt =
    let h = one-octet octet lt in
    rw (some-digits octet [] (upper-octets (octet ∷ []) h)) (
    ap octet_of (sized octet ∙ decode_pairs-encode_with upper_digits IsDigits-upper_digits 0 (octet ∷ []) h))

-- ---- decimal numbers

decimal-plain : (c : ℕ) → is_ascii_digit c ≡ true → is_plain c ≡ true
decimal-plain c h = search (rules, h)

-- a number below 1,000,000,000,000,000 in decimal is a word
pub word-decimal : (n : ℕ) → n < 1000000000000000 → IsWord (decimal n)
word-decimal n lt = weaker is_ascii_digit is_plain decimal-plain (decimal n)
    (has_digits (decimal n) (decimal-is n lt)).digits
