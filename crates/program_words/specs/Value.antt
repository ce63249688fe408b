-- Octets as a word, and reading one word after another.
use Rattle.std.specs.Prelude.{◌≡◌, ◌⊎◌, ◌==◌, ◌++◌, List, ℕ, [], ◌∷◌, length, codes, Bool, Result, Ok, Err, if◌then◌else◌}
use Rattle.std.specs.Str.{bytes_eq}
use Rattle.std.specs.List.{position_or_len, before_first, after_first}
use Rattle.hex.specs.Hex.{decode_of}
use Rattle.hex.specs.declared.error.FromHexError.{FromHexError}
use Rattle.program_words.specs.declared.fault.Fault.{Fault}
use Rattle.program_words.specs.declared.fault.Fault.TheVariants.{Words, Hex, Memory}

-- the second step reads the result of the first; the first fault is the result
infixl 10 ◌>>=◌
abbrev pub ◌>>=◌ : {A B : Type 0} → Result A Fault → (A → Result B Fault) → Result B Fault
(Ok x) >>= f = f x
(Err e) >>= f = Err e

abbrev pub hex_octets : Result (List ℕ) FromHexError → Result (List ℕ) Fault
hex_octets (Ok octets) = Ok octets
hex_octets (Err e) = Err Hex

-- octets as a word: in hexadecimal, or `none`
abbrev pub octets_of_word : List ℕ → Result (List ℕ) Fault
octets_of_word word = if bytes_eq word (codes "none") then Ok [] else hex_octets (decode_of word)

-- the expected result, or memory ran out
abbrev pub UnlessMemory : {X : Type 0} → Result X Fault → Result X Fault → Type 0
UnlessMemory result expected = (result ≡ Err Memory) ⊎ (result ≡ expected)

abbrev pub is_colon : ℕ → Bool
is_colon x = x == 58

-- the texts before and after the first colon of a word
abbrev pub parted : List ℕ → Result (List ℕ × List ℕ) Fault
parted word = if position_or_len is_colon word == length word then Err Words else Ok
    (before_first is_colon word, after_first is_colon word)

-- the values of words, read from left to right
abbrev pub each : {A : Type 0} → (List ℕ → Result A Fault) → List (List ℕ) → Result (List A) Fault
each said [] = Ok []
each said (word ∷ words) = do
  value ← said word
  more ← each said words
  Ok (value ∷ more)

-- ---- parts of a text, each with any number of values

-- the values of all parts, from left to right
abbrev pub all_said : {A : Type 0} → (List ℕ → Result (List A) Fault) → List (List ℕ) → Result (List A) Fault
all_said said [] = Ok []
all_said said (part ∷ parts) = do
  here ← said part
  more ← all_said said parts
  Ok (here ++ more)

-- the values of one more part are appended
abbrev pub AddsSaid : {A : Type 0} → Result (List A) Fault → List A → List A → Result (Unit {0}) Fault → Type 0
AddsSaid {A} said old new (Ok _) = (values : List A) × (said ≡ Ok values) × (new ≡ old ++ values)
AddsSaid said old new (Err fault) = UnlessMemory (Err fault) said
