-- Numbers and ranges of them that are parted by commas.
use Rattle.std.proofs.Common.{◌≡◌, ◌==◌, ◌<◌, ◌+◌, ◌-◌, ◌∙◌, ◌++◌, inl, inr, ℕ, suc, List, [], ◌∷◌, Result, Ok, Err, ap, append_assoc, sym, refl, arith}
use Rattle.std.specs.List.{slice_split}
use Rattle.clap.proofs.CutLemmas.{Lacks, slice_split-Lacks, slice_split-at}
use Rattle.program_words.specs.Session.{block_numbers, numbers_from, with_part, with_parts}
use Rattle.program_words.specs.Value.{◌>>=◌, UnlessMemory}
use Rattle.program_words.specs.declared.fault.Fault.{Fault}

-- the parts of a text, after the numbers that those before it name
abbrev parts-of : List ℕ → List ℕ → Result (List ℕ) Fault
parts-of named text = with_parts named (slice_split (λ x. x == 44) text)

-- what the part before a comma comes to, and what is left
at-comma : (named rest part after : List ℕ) → rest ≡ part ++ 44 ∷ after → Lacks 44 part
    → parts-of named rest ≡ (with_part named part >>= (λ longer. parts-of longer after))
at-comma named rest part after e free =
    ap (parts-of named) e ∙ ap (with_parts named) (slice_split-at 44 part after free)

-- the part before a comma
pub next-part : (named longer word rest part after : List ℕ) → rest ≡ part ++ 44 ∷ after → Lacks 44 part
    → UnlessMemory (Ok longer) (with_part named part) → parts-of named rest ≡ block_numbers word
    → parts-of longer after ≡ block_numbers word
next-part named longer word rest part after e free (inl memory) kept = absurd (cc memory)
next-part named longer word rest part after e free (inr is) kept =
    ap (λ (r : Result (List ℕ) Fault). r >>= (λ l. parts-of l after)) is
    ∙ sym (at-comma named rest part after e free) ∙ kept

-- a fault of it is the fault of the word
pub part-fault : (named : List ℕ) (fault : Fault) (word rest part after : List ℕ) → rest ≡ part ++ 44 ∷ after
    → Lacks 44 part → UnlessMemory {X = List ℕ} (Err fault) (with_part named part)
    → parts-of named rest ≡ block_numbers word → UnlessMemory {X = List ℕ} (Err fault) (block_numbers word)
part-fault named fault word rest part after e free (inl memory) kept = inl memory
part-fault named fault word rest part after e free (inr is) kept =
    inr (ap (λ (r : Result (List ℕ) Fault). r >>= (λ l. parts-of l after)) is
    ∙ sym (at-comma named rest part after e free) ∙ kept)

bound : (r : Result (List ℕ) Fault) → (r >>= (λ l. Ok l)) ≡ r
bound (Ok l) = refl
bound (Err fault) = refl

-- and what the part after the last comma comes to is what the word does
pub last-part : (named : List ℕ) (result : Result (List ℕ) Fault) (word rest : List ℕ) → Lacks 44 rest
    → UnlessMemory result (with_part named rest) → parts-of named rest ≡ block_numbers word
    → UnlessMemory result (block_numbers word)
last-part named result word rest free (inl memory) kept = inl memory
last-part named result word rest free (inr is) kept =
    inr (is ∙ sym (bound (with_part named rest))
    ∙ sym (ap (with_parts named) (slice_split-Lacks 44 rest free)) ∙ kept)

-- ---- ranges

-- so many numbers are one and the rest, or none
one-more : (number end : ℕ) → number < end
    → numbers_from number (end - number) ≡ number ∷ numbers_from (number + 1) (end - (number + 1))
one-more number end less =
    let same : end - number ≡ suc (end - (number + 1)) = omega (arith, less) in
    ap (numbers_from number) same

-- a number comes after those that are there
pub next-number : (numbers longer all : List ℕ) (number end : ℕ) → number < end → longer ≡ numbers ++ number ∷ []
    → numbers ++ numbers_from number (end - number) ≡ all
    → longer ++ numbers_from (number + 1) (end - (number + 1)) ≡ all
next-number numbers longer all number end less is kept =
    rw is (append_assoc numbers (number ∷ []) (numbers_from (number + 1) (end - (number + 1)))
    ∙ ap (λ (l : List ℕ). numbers ++ l) (sym (one-more number end less)) ∙ kept)
