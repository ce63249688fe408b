-- How a text in parts is read, one part after another.
use Rattle.std.proofs.Common.{◌≡◌, ◌<◌, ◌∙◌, ◌++◌, inl, inr, ℕ, List, [], ◌∷◌, Result, Ok, Err, refl, ap, sym, append_assoc, append-nil, ◌+◌, ◌*◌, ◌/◌, arith, length, get_or, drop, take}
use Rattle.std.specs.Result.{MatchResult}
use Rattle.std.proofs.lemmas.List.{drop_more, drop_all, length-append, take_all}
use Rattle.std.proofs.Math.Seq.{take-append_seam}
use Rattle.hex.specs.Hex.{decode_of, decode_sized}
use Rattle.hex.specs.declared.error.FromHexError.{FromHexError}
use Rattle.hex.proofs.HexLemmas.{decode_of-ok, decode_sized-ok, decode_sized-twice}
use Rattle.program_words.specs.Loose.{digits_of, group_octets}
use Rattle.program_words.specs.Value.{◌>>=◌, all_said, hex_octets, AddsSaid, UnlessMemory}
use Rattle.program_words.specs.declared.fault.Fault.{Fault}

-- values that were read, and then those of the parts that are left
abbrev pub after : {A : Type 0} → (List ℕ → Result (List A) Fault) → List A → List (List ℕ) → Result (List A) Fault
after said values parts = all_said said parts >>= (λ more. Ok (values ++ more))

abbrev done : {A : Type 0} → List A → Result (List A) Fault
done values = Ok values

module _ {A : Type 0} (said : List ℕ → Result (List A) Fault) where
  -- at the start none was read
  pub none-yet : (values : List A) (parts : List (List ℕ)) → values ≡ []
      → after said values parts ≡ all_said said parts
  none-yet values parts none = rw none (go (all_said said parts))
    where
      go : (r : Result (List A) Fault) → (r >>= (λ more. Ok more)) ≡ r
      go (Ok more) = refl
      go (Err fault) = refl

  one-more : (values one : List A) (part : List ℕ) (parts : List (List ℕ)) → said part ≡ Ok one
      → after said values (part ∷ parts) ≡ after said (values ++ one) parts
  one-more values one part parts h = rw h (go (all_said said parts))
    where
      go : (rest : Result (List A) Fault)
          → rest >>= (λ more. Ok (one ++ more)) >>= (λ more. Ok (values ++ more)) ≡ rest >>=
          (λ more. Ok ((values ++ one) ++ more))
      go (Ok more) = ap done (sym (append_assoc values one more))
      go (Err fault) = refl

  one-fault : (values : List A) (part : List ℕ) (parts : List (List ℕ)) (fault : Fault) → said part ≡ Err fault
      → after said values (part ∷ parts) ≡ Err fault
  one-fault values part parts fault h = rw h refl

  -- the part at a place is read
  pub next-group : (values longer : List A) (part : List ℕ) (parts : List (List ℕ)) (i : ℕ)
      (all : Result (List A) Fault) → (i < length parts) × (part ≡ get_or parts i part)
      → AddsSaid (said part) values longer (Ok tt) → after said values (drop i parts) ≡ all
      → after said longer (drop (i + 1) parts) ≡ all
  next-group values longer part parts i all at (one, is_said, is) kept =
      let next : drop i parts ≡ part ∷ drop (i + 1) parts =
      drop_more parts i part at.0 ∙ ap (λ (p : List ℕ). p ∷ drop (i + 1) parts) (sym at.1) in
      rw is (sym (one-more values one part (drop (i + 1) parts) is_said) ∙ ap (after said values) (sym next) ∙ kept)

  -- or it is at fault, and that is the fault of the text, or memory ran out
  pub next-fault : (values longer : List A) (part : List ℕ) (parts : List (List ℕ)) (i : ℕ)
      (all : Result (List A) Fault) (fault : Fault) → (i < length parts) × (part ≡ get_or parts i part)
      → AddsSaid (said part) values longer (Err fault) → after said values (drop i parts) ≡ all
      → UnlessMemory {X = List A} (Err fault) all
  next-fault values longer part parts i all fault at (inl memory) kept = inl memory
  next-fault values longer part parts i all fault at (inr is_said) kept =
      let next : drop i parts ≡ part ∷ drop (i + 1) parts =
      drop_more parts i part at.0 ∙ ap (λ (p : List ℕ). p ∷ drop (i + 1) parts) (sym at.1) in
      inr (sym (one-fault values part (drop (i + 1) parts) fault (sym is_said)) ∙ ap (after said values) (sym next)
      ∙ kept)

  -- no part is left
  pub no-more : (values : List A) (parts : List (List ℕ)) (i : ℕ) (all : Result (List A) Fault) → i ≡ length parts
      → after said values (drop i parts) ≡ all → Ok values ≡ all
  no-more values parts i all e kept =
      let none : drop i parts ≡ [] = rw e (drop_all (length parts) parts (omega arith)) in
      sym (ap done (append-nil values)) ∙ ap (after said values) (sym none) ∙ kept

-- ---- one group

-- octets that were decoded into room for so many
decoded : (digits out : List ℕ) (room : ℕ) (result : Result (Unit {0}) FromHexError) (r : Result (List ℕ) FromHexError)
    → decode_sized digits room ≡ r
    → MatchResult r (λ bytes. (result ≡ Ok tt) × (out ≡ bytes)) (λ e. result ≡ Err e) → result ≡ Ok tt
    → decode_of digits ≡ Ok out
decoded digits out room result (Ok bytes) e h ok =
    rw h.1 (sym (decode_sized-twice digits room (decode_sized-ok digits room bytes e)) ∙ e)
decoded digits out room result (Err f) e h ok = absurd (let bad : Ok tt ≡ Err f = sym ok ∙ h in cc)

-- they are in the places after those before
pub added-group : (count first room : ℕ) (old resized out post tail group digits : List ℕ)
    (result : Result (Unit {0}) FromHexError) → digits ≡ digits_of group
    → MatchResult (decode_sized digits room) (λ bytes. (result ≡ Ok tt) × (out ≡ bytes)) (λ e. result ≡ Err e)
    → result ≡ Ok tt
    → take first resized ≡ old → length old ≡ first → count ≡ first + length digits / 2
    → AddsSaid (group_octets group) old (take count ((take first resized ++ (out ++ post)) ++ tail)) (Ok tt)
added-group count first room old resized out post tail group digits result is read ok front before size =
    let octets : decode_of digits ≡ Ok out = decoded digits out room result (decode_sized digits room) refl read ok in
    let many : length digits ≡ 2 * length out = (decode_of-ok digits out octets).2 in
    let all : count ≡ length (old ++ out) = omega (arith, size, many, before, length-append old out) in (
      out,
      rw (sym is) (ap hex_octets octets),
      rw (front, append_assoc, append_assoc)
          (rw (sym (append_assoc old out (post ++ tail)), all) (take-append_seam (old ++ out) (post ++ tail))),
    )

-- room after the octets keeps them
pub kept-front : (first more : ℕ) (old filled resized lent : List ℕ) → length old ≡ first
    → resized ≡ take (first + more) old ++ filled → lent ≡ resized → take first lent ≡ old
kept-front first more old filled resized lent before is same =
    let all : take (first + more) old ≡ old = take_all (first + more) old (omega (arith, before)) in
    rw (same, is, all, sym before) (take-append_seam old filled)
