-- How words are read.
use Rattle.std.proofs.Common.{◌≡◌, ◌≤◌, ◌⊎◌, ◌&&◌, inl, inr, ℕ, List, [], false, Option, Some, None, if◌then◌else◌, nat_le, Result, Ok, Err, arith, refl, Bool, true, ◌∷◌, length, map, get_or, Bor, sym, ◌∙◌, le-leb}
use Rattle.std.specs.Option.{ok_or, SomeIff}
use Rattle.std.specs.Result.{result_unwrap_or}
use Rattle.std.proofs.lemmas.Bool.Decides.{nat_tests}
use Rattle.std.specs.Str.Parse.{ParsesUnsigned}
use Rattle.clap.specs.ValueTests.{is_unsigned_in}
use Rattle.clap.specs.declared.builder.value_parser.ValueParser.TheVariants as parser
use Rattle.clap.proofs.ValueTestLemmas.{accepts-Accepts, Accepts-accepts}
use Rattle.clap.specs.Kinds.{IsAmong}
use Rattle.clap.specs.Words.{fault_of}
use Rattle.clap.specs.declared.error.kind.ErrorKind.{ErrorKind}
use Rattle.clap.specs.declared.error.kind.ErrorKind.TheVariants.{DisplayHelp, OutOfMemory}
use Rattle.octet_core.specs.Sizes.{IsFieldSize}
use Rattle.block_core.specs.declared.pcb.Number.{Number}
use Rattle.block_core.specs.declared.pcb.Number.TheVariants.{Zero, One}
use Rattle.program_words.specs.declared.request.Asked.{Asked}
use Rattle.program_words.specs.declared.request.Request.TheVariants.{BuildChain}
use Rattle.program_words.specs.Value.{octets_of_word, UnlessMemory}
use Rattle.command_line.specs.Version.{asks_for_version}
use Rattle.program_words.specs.Words.{byte_or, chain_by, chain_of, number_of_word, size_of, IsHelpOrFault, IsRead, called_for_help, not_taken}
use Rattle.command_line.specs.Form.{scard}
use Rattle.program_words.specs.declared.fault.Fault.{Fault}
use Rattle.program_words.specs.declared.fault.Fault.TheVariants.{Words, Memory}

-- what `u8` reads of a word, where it reads it
pub byte-read : {E : Type 0} (otherwise : ℕ) (word : List ℕ) (r : Result ℕ E) → ParsesUnsigned 8 10 word r
    → result_unwrap_or r otherwise ≡ byte_or otherwise word
byte-read otherwise word (Ok n) h = rw (Accepts-accepts false (parser.Unsigned 0 255) word
    (h.0.0, omega (arith, h.0.1), omega arith, omega (arith, h.0.1))) h.1
byte-read otherwise word (Err e) h = go (is_unsigned_in 0 255 word) refl
  where
    go : (b : Bool) → is_unsigned_in 0 255 word ≡ b → otherwise ≡ byte_or otherwise word
    go false t = rw t refl
    go true t = let a = accepts-Accepts false (parser.Unsigned 0 255) word t in absurd (h (a.0, omega (arith, a.3)))

-- a number that is a size of information fields is the one that the word says, and with any other the words are at fault
sized-or-not : (n : ℕ) (size : Option ℕ) → SomeIff size (IsFieldSize n) n → (b : Bool)
    → nat_le 1 n && nat_le n 254 ≡ b → ok_or size Words ≡ (if b then Ok n else Err Words)
sized-or-not n (Some s) is true t = rw is.1 refl
sized-or-not n (Some s) is false t = absurd (let low = is.0.0 in let high = is.0.1 in grind (arith, nat_tests))
sized-or-not n None none true t = absurd (none (grind (arith, nat_tests)))
sized-or-not n None none false t = refl

pub size-read : (word : List ℕ) (n : ℕ) (size : Option ℕ) → n ≡ byte_or 0 word → SomeIff size (IsFieldSize n) n
    → ok_or size Words ≡ size_of (Some word)
size-read word n size e is = rw (← e) (sized-or-not n size is (nat_le 1 n && nat_le n 254) refl)

-- ---- a parse

-- what a failed parse comes to by its kind is what the words are read as, or memory ran out
pub help-or-fault : (words : List (List ℕ)) (kind : ErrorKind) (read : Result Asked Fault)
    → asks_for_version words ≡ false → (kind ≡ OutOfMemory) ⊎ IsAmong kind (fault_of scard words)
    → IsHelpOrFault kind read → (read ≡ Err Memory) ⊎ IsRead words read
help-or-fault words OutOfMemory read other known h = inl h
help-or-fault words DisplayHelp read other (inl e) h = absurd (cc)
help-or-fault words DisplayHelp read other (inr among) h =
    elim h [
      | inl memory ↦ inl memory
      | inr help ↦ inr (called_for_help other among help.0 help.1)
    ]
help-or-fault words kind read other (inl e) h = absurd (cc)
help-or-fault words kind read other (inr among) h = inr (not_taken other (kind, among, λ e. cc) h)

-- a word for 0 says the number zero
pub number-zero : (word : List ℕ) (n : ℕ) → n ≡ byte_or 2 word → n ≡ 0 → Ok Zero ≡ number_of_word word
number-zero word n e z = rw (← e, z) refl

-- and one for 1 the number one
pub number-one : (word : List ℕ) (n : ℕ) → n ≡ byte_or 2 word → n ≡ 1 → Ok One ≡ number_of_word word
number-one word n e z = rw (← e, z) refl

-- with any other the words are at fault
pub number-none : (word : List ℕ) (n : ℕ) → n ≡ byte_or 2 word → (n ≡ 0 → ⊥) → (n ≡ 1 → ⊥)
    → Err Words ≡ number_of_word word
number-none word n e nz other = rw (← e) (grind (arith, nat_tests))

-- ---- chains

-- three words are the information size, the number and the octets of a chain
pub chain-is : (words : List (Bor (List ℕ))) (d : Bor (List ℕ)) → length words ≡ 3
    → chain_of (map (λ word. word.now) words) ≡ chain_by (get_or words 0 d).now (get_or words 1 d).now
    (get_or words 2 d).now
chain-is [] d e = absurd (omega arith)
chain-is (a ∷ []) d e = absurd (omega arith)
chain-is (a ∷ b ∷ []) d e = absurd (omega arith)
chain-is (a ∷ b ∷ c ∷ []) d e = refl
chain-is (a ∷ b ∷ c ∷ w ∷ words) d e = absurd (omega arith)

-- where all three are read, and the octets are 131,072 at most, they ask for that chain
pub chain-built : (size number_word hex : List ℕ) (ifs : ℕ) (number : Number) (message : List ℕ)
    (octets : Result (List ℕ) Fault) → size_of (Some size) ≡ Ok ifs → number_of_word number_word ≡ Ok number
    → octets ≡ Ok message → UnlessMemory octets (octets_of_word hex) → length message ≤ 131072
    → Ok (BuildChain ifs number message) ≡ chain_by size number_word hex
chain-built size number_word hex ifs number message octets e f g (inl memory) small =
    absurd (let bad : Ok message ≡ Err Memory = sym g ∙ memory in cc)
chain-built size number_word hex ifs number message octets e f g (inr read) small =
    rw (e, f, sym read ∙ g, le-leb (length message) 131072 small) refl
