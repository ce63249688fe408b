-- A text is that of an exchange, or has a fault; `Memory` is none.
use Rattle.std.proofs.Common.{◌≡◌, ℕ, ◌+◌, List, [], ◌∷◌, Bool, true, false, Option, Some, None, Result, Ok, Err, refl, ap, codes, if◌then◌else◌, inl, inr, ◌⊎◌}
use Rattle.std.specs.List.{after_first, slice_split}
use Rattle.std.specs.Str.{bytes_eq}
use Rattle.hex.specs.Hex.{decode_of, decode_sized}
use Rattle.hex.specs.declared.error.FromHexError.{FromHexError}
use Rattle.octet_core.specs.Decimal.{decimal_number}
use Rattle.exchange_text.specs.Exchange.{is_note, moment_after, ExchangeParts, IsExchange}
use Rattle.exchange_text.specs.Text.{exchange_text}
use Rattle.exchange_text.specs.Names.{name_of}
use Rattle.exchange_text.specs.Reading.{◌>>=◌, are_upper_digits, arrival_said, at, atr_by, atr_said, block_said, exchange_by, exchange_said, falls, fault_at, in_two, is_line_feed, is_space, known, line_at, line_by, line_of, line_said, lines_said, moment_by, no_word, note_by, octet_of, octet_said, octets_of, octets_said, one_octet, one_octets, only_word, parts_said, rising, version_said, words_of}
use Rattle.exchange_text.specs.declared.fault.LineFault.{LineFault}
use Rattle.exchange_text.specs.declared.fault.LineFault.TheVariants.{Word, Hex, Memory}
use Rattle.exchange_text.specs.declared.fault.ExchangeFault.{ExchangeFault}
use Rattle.exchange_text.specs.declared.fault.ExchangeFault.TheVariants as fault
use Rattle.exchange_text.specs.declared.exchange.Version.{Version}
use Rattle.exchange_text.specs.declared.exchange.Version.TheVariants.{One, Two}
use Rattle.exchange_text.specs.declared.line.Arrival.TheVariants.{Whole, Lost, Changed}
use Rattle.exchange_text.specs.declared.line.Line.{Line}
use Rattle.exchange_text.specs.declared.line.Line.TheVariants.{Command, Ifsd, Quiet, Answer, IfsSet, GivenUp, Dead, Reply, Time, Ifsc, Asked, FromTerminal, FromCard, Moment, Note}
use Rattle.exchange_text.specs.declared.name.Name.{Name}
use Rattle.exchange_text.specs.declared.name.Name.TheVariants as name
use Rattle.exchange_text.proofs.Complete.{exchange-back}
use Rattle.exchange_text.proofs.WholeSound.{exchange-sound}

-- ---- a line

same-err : {A E : Type 0} (f g : E) (r : Result A E) → r ≡ Err f → r ≡ Err g → f ≡ g
same-err f g r d e = let s : r ≡ r = refl in cc

-- no fault is `Memory`
abbrev Fine : {A E : Type 0} → E → Result A E → Type 0
Fine memory r = r ≡ Err memory → ⊥

step : {A B E : Type 0} (m : E) (r : Result A E) (f : A → Result B E) → Fine m r
    → ((a : A) → Fine m (f a)) → Fine m (r >>= f)
step m (Ok a) f h k e = k a e
step {B = B} {E = E} m (Err e') f h k e = let r : Result B E = Err e' in h (ap Err (same-err e' m r refl e))

octets-of : (d : Result (List ℕ) FromHexError) → Fine Memory (octets_of d)
octets-of (Ok o) e = cc
octets-of (Err f) e = cc

octet-of : (d : Result (List ℕ) FromHexError) → Fine Memory (octet_of d)
octet-of (Ok (o ∷ more)) e = cc
octet-of (Ok []) e = cc
octet-of (Err f) e = cc

choice : {A E : Type 0} (m : E) (b : Bool) (x y : Result A E) → Fine m x → Fine m y → Fine m (if b then x else y)
choice m true x y h k = h
choice m false x y h k = k

word : {A : Type 0} (r : Result A LineFault) → r ≡ Err Word → Fine Memory r
word r d e = let s = same-err Word Memory r d e in cc

hex : {A : Type 0} (r : Result A LineFault) → r ≡ Err Hex → Fine Memory r
hex r d e = let s = same-err Hex Memory r d e in cc

ok : {A E : Type 0} (m : E) (x : A) (r : Result A E) → r ≡ Ok x → Fine m r
ok m x r d e = let s : r ≡ r = refl in cc

octets : (w : List ℕ) → Fine Memory (octets_said w)
octets w =
    choice Memory (bytes_eq w (codes "none")) (Ok []) (if are_upper_digits w then octets_of (decode_of w) else Err Hex)
    (ok Memory [] (Ok []) refl)
    (choice Memory (are_upper_digits w) (octets_of (decode_of w)) (Err Hex) (octets-of (decode_of w))
    (hex (Err Hex) refl))

octet : (w : List ℕ) → Fine Memory (octet_said w)
octet w = choice Memory (are_upper_digits w) (octet_of (decode_sized w 1)) (Err Hex) (octet-of (decode_sized w 1))
    (hex (Err Hex) refl)

only : (words : List (List ℕ)) → Fine Memory (only_word words)
only [] = word (only_word []) refl
only (w ∷ []) = ok Memory w (only_word (w ∷ [])) refl
only (w ∷ x ∷ words) = word (only_word (w ∷ x ∷ words)) refl

none : (words : List (List ℕ)) → Fine Memory (no_word words)
none [] = ok Memory tt (no_word []) refl
none (w ∷ words) = word (no_word (w ∷ words)) refl

fine-octets : (words : List (List ℕ)) → Fine Memory (one_octets words)
fine-octets words = step Memory (only_word words) octets_said (only words) octets

fine-octet : (words : List (List ℕ)) → Fine Memory (one_octet words)
fine-octet words = step Memory (only_word words) octet_said (only words) octet

make : {A B : Type 0} (r : Result A LineFault) (f : A → B) → Fine Memory r → Fine Memory (r >>= (λ a. Ok (f a)))
make r f h = step Memory r (λ a. Ok (f a)) h (λ a. ok Memory (f a) (Ok (f a)) refl)

arrival : (words : List (List ℕ)) → Fine Memory (arrival_said words)
arrival [] = ok Memory Whole (arrival_said []) refl
arrival (way ∷ words) =
    choice Memory (bytes_eq way (codes "lost")) (no_word words >>= (λ u. Ok Lost))
    (if bytes_eq way (codes "as") then one_octets words >>= (λ o. Ok (Changed o)) else Err Word)
    (make (no_word words) (λ u. Lost) (none words))
    (choice Memory (bytes_eq way (codes "as")) (one_octets words >>= (λ o. Ok (Changed o))) (Err Word)
    (make (one_octets words) Changed (fine-octets words)) (word (Err Word) refl))

block : (words : List (List ℕ)) → Fine Memory (block_said words)
block [] = word (block_said []) refl
block (w ∷ words) =
    step Memory (arrival_said words) (λ arrival. octets_said w >>= (λ sent. Ok (sent, arrival))) (arrival words)
    (λ a. make (octets_said w) (λ sent. (sent, a)) (octets w))

two : (version : Version) (r : Result Line LineFault) → Fine Memory r → Fine Memory (in_two version r)
two One r h = word (in_two One r) refl
two Two r h = h

moment-by : (o : Option ℕ) → Fine Memory (moment_by o)
moment-by (Some m) = ok Memory (Moment m) (moment_by (Some m)) refl
moment-by None = word (moment_by None) refl

note : (version : Version) (rest : List ℕ) (words : List (List ℕ)) → Fine Memory (note_by version rest words)
note version rest [] = word (note_by version rest []) refl
note version rest (w ∷ words) = two version (if is_note rest then Ok (Note rest) else Err Word)
    (choice Memory (is_note rest) (Ok (Note rest)) (Err Word) (ok Memory (Note rest) (Ok (Note rest)) refl)
    (word (Err Word) refl))

by-name : (version : Version) (rest : List ℕ) (words : List (List ℕ)) (n : Name)
    → Fine Memory (line_by version rest words n)
by-name version rest words name.Command = make (one_octets words) Command (fine-octets words)
by-name version rest words name.Ifsd = make (one_octet words) Ifsd (fine-octet words)
by-name version rest words name.Quiet = make (no_word words) (λ u. Quiet) (none words)
by-name version rest words name.Answer = make (one_octets words) Answer (fine-octets words)
by-name version rest words name.IfsSet = make (no_word words) (λ u. IfsSet) (none words)
by-name version rest words name.GivenUp = make (no_word words) (λ u. GivenUp) (none words)
by-name version rest words name.Dead = make (no_word words) (λ u. Dead) (none words)
by-name version rest words name.Reply = make (one_octets words) Reply (fine-octets words)
by-name version rest words name.Time = make (one_octet words) Time (fine-octet words)
by-name version rest words name.Ifsc = make (one_octet words) Ifsc (fine-octet words)
by-name version rest words name.Asked = make (one_octets words) Asked (fine-octets words)
by-name version rest words name.FromTerminal = make (block_said words) (λ b. FromTerminal b.0 b.1) (block words)
by-name version rest words name.FromCard = make (block_said words) (λ b. FromCard b.0 b.1) (block words)
by-name version rest words name.Moment =
    two version (only_word words >>= (λ w. moment_by (decimal_number w)))
    (step Memory (only_word words) (λ w. moment_by (decimal_number w)) (only words) (λ w. moment-by (decimal_number w)))
by-name version rest words name.Note = note version rest words

known-fine : (o : Option Name) → Fine Memory (known o)
known-fine (Some n) = ok Memory n (known (Some n)) refl
known-fine None = word (known None) refl

by-words : (version : Version) (rest : List ℕ) (words : List (List ℕ)) → Fine Memory (line_of version rest words)
by-words version rest [] = word (line_of version rest []) refl
by-words version rest (w ∷ words) = step Memory (known (name_of w)) (line_by version rest words)
    (known-fine (name_of w)) (by-name version rest words)

atr-words : (words : List (List ℕ)) → Fine Memory (atr_by words)
atr-words [] = word (atr_by []) refl
atr-words (w ∷ []) = word (atr_by (w ∷ [])) refl
atr-words (w ∷ o ∷ []) = choice Memory (bytes_eq w (codes "atr")) (octets_said o) (Err Word) (octets o)
    (word (Err Word) refl)
atr-words (w ∷ o ∷ x ∷ words) = word (atr_by (w ∷ o ∷ x ∷ words)) refl

-- ---- the text

fault-fine : (number : ℕ) (f : LineFault) → fault_at number f ≡ fault.Memory → f ≡ Memory
fault-fine number Word e = cc
fault-fine number Hex e = cc
fault-fine number Memory e = refl

numbered : {A : Type 0} (number : ℕ) (r : Result A LineFault) → Fine Memory r → Fine fault.Memory (at number r)
numbered number (Ok x) h e = ok fault.Memory x (at number (Ok x)) refl e
numbered number (Err f) h e = h (ap Err (fault-fine number f
    (same-err (fault_at number f) fault.Memory (at number (Err f)) refl e)))

other : {A : Type 0} (f : ExchangeFault) (r : Result A ExchangeFault) → r ≡ Err f
    → (f ≡ fault.Memory → ⊥) → Fine fault.Memory r
other f r d h e = h (same-err f fault.Memory r d e)

rises : (number least : ℕ) (x : Line) → Fine fault.Memory (rising number least x)
rises number least x =
    choice fault.Memory (falls least x) (Err (fault.Falls number)) (Ok x)
    (other (fault.Falls number) (Err (fault.Falls number)) refl (λ e. cc)) (ok fault.Memory x (Ok x) refl)

made : {A B : Type 0} (r : Result A ExchangeFault) (f : A → B) → Fine fault.Memory r
    → Fine fault.Memory (r >>= (λ a. Ok (f a)))
made r f h = step fault.Memory r (λ a. Ok (f a)) h (λ a. ok fault.Memory (f a) (Ok (f a)) refl)

line-fine : (version : Version) (number least : ℕ) (line : List ℕ)
    → Fine fault.Memory (line_at version number least line)
line-fine version number least line =
    step fault.Memory (at number (line_said version line)) (rising number least)
    (numbered number (line_said version line) (by-words version (after_first is_space line) (words_of line)))
    (rises number least)

lines-fine : (version : Version) (number least : ℕ) (parts : List (List ℕ))
    → Fine fault.Memory (lines_said version number least parts)
lines-fine version number least [] = ok fault.Memory [] (lines_said version number least []) refl
lines-fine version number least ([] ∷ []) = ok fault.Memory [] (lines_said version number least ([] ∷ [])) refl
lines-fine version number least ((x ∷ rest) ∷ []) =
    other (fault.End number) (lines_said version number least ((x ∷ rest) ∷ [])) refl (λ e. cc)
lines-fine version number least (line ∷ next ∷ parts) =
    step fault.Memory (line_at version number least line)
    (λ first. lines_said version (number + 1) (moment_after least first) (next ∷ parts) >>=
    (λ more. Ok (first ∷ more))) (line-fine version number least line)
    (λ first. made (lines_said version (number + 1) (moment_after least first) (next ∷ parts)) (λ more. first ∷ more)
    (lines-fine version (number + 1) (moment_after least first) (next ∷ parts)))

parts-fine : (version : Version) (parts : List (List ℕ)) → Fine fault.Memory (parts_said version parts)
parts-fine version [] = other (fault.End 2) (parts_said version []) refl (λ e. cc)
parts-fine version (line ∷ []) = other (fault.End 2) (parts_said version (line ∷ [])) refl (λ e. cc)
parts-fine version (line ∷ next ∷ parts) =
    step fault.Memory (at 2 (atr_said line))
    (λ atr. lines_said version 3 0 (next ∷ parts) >>= (λ lines. Ok (whole version atr lines)))
    (numbered 2 (atr_said line) (atr-words (words_of line)))
    (λ atr. made (lines_said version 3 0 (next ∷ parts)) (whole version atr) (lines-fine version 3 0 (next ∷ parts)))
  where
    whole : Version → List ℕ → List Line → ExchangeParts
    whole version atr lines = record { version = version; atr = atr; lines = lines }

header-fine : (line : List ℕ) → Fine fault.Memory (version_said line)
header-fine line =
    choice fault.Memory (bytes_eq line (codes "scard-exchange 1")) (Ok One)
    (if bytes_eq line (codes "scard-exchange 2") then Ok Two else Err fault.Header)
    (ok fault.Memory One (Ok One) refl)
    (choice fault.Memory (bytes_eq line (codes "scard-exchange 2")) (Ok Two) (Err fault.Header)
    (ok fault.Memory Two (Ok Two) refl) (other fault.Header (Err fault.Header) refl (λ e. cc)))

by-parts : (parts : List (List ℕ)) → Fine fault.Memory (exchange_by parts)
by-parts [] = other fault.Header (exchange_by []) refl (λ e. cc)
by-parts (header ∷ []) = other fault.Header (exchange_by (header ∷ [])) refl (λ e. cc)
by-parts (header ∷ next ∷ parts) = step fault.Memory (version_said header)
    (λ version. parts_said version (next ∷ parts)) (header-fine header) (λ version. parts-fine version (next ∷ parts))

-- no text wants memory
pub never-memory : (text : List ℕ) → exchange_said text ≡ Err fault.Memory → ⊥
never-memory text = by-parts (slice_split is_line_feed text)

either : (text : List ℕ) (r : Result ExchangeParts ExchangeFault) → exchange_said text ≡ r
    → ((e : ExchangeParts) × IsExchange e × (exchange_text e ≡ text))
    ⊎ ((f : ExchangeFault) × (exchange_said text ≡ Err f))
either text (Ok e) h = let s = exchange-sound text e h in inl (e, s.1, s.0)
either text (Err f) h = inr (f, h)

-- a text is that of an exchange or has a fault
pub exchange-or-fault : (text : List ℕ) → ((e : ExchangeParts) × IsExchange e × (exchange_text e ≡ text))
    ⊎ ((f : ExchangeFault) × (exchange_said text ≡ Err f))
exchange-or-fault text = either text (exchange_said text) refl

-- never both
pub never-both : (text : List ℕ) (e : ExchangeParts) (f : ExchangeFault) → IsExchange e → exchange_text e ≡ text
    → exchange_said text ≡ Err f → ⊥
never-both text e f h is said = let back = exchange-back e h in let same = ap exchange_said is in cc
