-- One value after another, each said by a word.
use Rattle.std.proofs.Common.{◌≡◌, ◌<◌, ◌∙◌, ◌++◌, inl, inr, ℕ, List, [], ◌∷◌, Result, Ok, Err, refl, ap, sym, append_assoc, ◌+◌, length, get_or, drop, map, Bor}
use Rattle.std.proofs.lemmas.List.{drop_more}
use Rattle.program_words.specs.Value.{◌>>=◌, each, UnlessMemory}
use Rattle.program_words.specs.declared.fault.Fault.{Fault}

-- values that were read, and then those of the words that are left
abbrev pub then : {A : Type 0} → List A → Result (List A) Fault → Result (List A) Fault
then values rest = rest >>= (λ more. Ok (values ++ more))

abbrev done : {A : Type 0} → List A → Result (List A) Fault
done values = Ok values

-- a value that was said comes after those that were read, and the words after it are left
pub then-one : {A : Type 0} (said : List ℕ → Result A Fault) (values : List A) (one : A) (word : List ℕ)
    (words : List (List ℕ)) → said word ≡ Ok one
    → then values (each said (word ∷ words)) ≡ then (values ++ one ∷ []) (each said words)
then-one {A = A} said values one word words h = rw h (go (each said words))
  where
    go : (rest : Result (List A) Fault) → then values (rest >>= (λ more. Ok (one ∷ more))) ≡ then (values ++ one ∷ [])
        rest
    go (Ok more) = ap done (sym (append_assoc values (one ∷ []) more))
    go (Err fault) = refl

-- one more word is read
pub next-one : {A : Type 0} (said : List ℕ → Result A Fault) (values after : List A) (one : A)
    (words : List (Bor (List ℕ))) (i : ℕ) (d : Bor (List ℕ)) (all : Result (List A) Fault) → i < length words
    → UnlessMemory (Ok one) (said (get_or words i d).now) → after ≡ values ++ one ∷ []
    → then values (each said (map (λ word. word.now) (drop i words))) ≡ all
    → then after (each said (map (λ word. word.now) (drop (i + 1) words))) ≡ all
next-one said values after one words i d all inside (inl memory) is kept = absurd (cc)
next-one said values after one words i d all inside (inr read) is kept =
    rw is (sym (then-one said values one (get_or words i d).now (map (λ word. word.now) (drop (i + 1) words))
    (sym read))
    ∙ ap (λ (l : List (Bor (List ℕ))). then values (each said (map (λ word. word.now) l)))
    (sym (drop_more words i d inside)) ∙ kept)
