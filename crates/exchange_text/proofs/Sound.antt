-- What a line says has that line as its text.
use Rattle.std.proofs.Common.{◌≡◌, ℕ, ◌<◌, ◌≤◌, nat_le, List, [], ◌∷◌, ◌++◌, length, Bool, true, false, Option, Some, None, Result, Ok, Err, refl, sym, ap, ◌∙◌, arith, rules, codes, decimal, if◌then◌else◌, inl, inr, ◌⊎◌}
use Rattle.std.proofs.lemmas.Bool.{and_from}
use Rattle.std.proofs.lemmas.List.{append-nil}
use Rattle.std.proofs.lemmas.List.Splits.{join_with_byte-slice_split}
use Rattle.std.specs.List.{join_with_byte, list_all, slice_split, after_first}
use Rattle.std.specs.Str.{bytes_eq}
use Rattle.std.specs.Str.Parse.{digits_value}
use Rattle.hex.specs.Hex.{decode_of, decode_sized, encode_upper, encode_with}
use Rattle.hex.specs.declared.error.FromHexError.{FromHexError}
use Rattle.hex.proofs.HexLemmas.{decode_of-ok, decode_sized-ok, decode_sized-twice}
use Rattle.octet_core.specs.Octets.{AreOctets}
use Rattle.octet_core.specs.Decimal.{decimal_number, is_decimal}
use Rattle.octet_core.proofs.Decimals.{value-decimal, value-most}
use Rattle.exchange_text.specs.Exchange.{is_note, latest_moment, may_follow, ArriveAsOctets, HasOctets}
use Rattle.exchange_text.specs.Text.{arrival_text, line_text, octet_text, octets_text}
use Rattle.exchange_text.specs.Names.{name_of, name_text}
use Rattle.exchange_text.specs.Reading.{◌>>=◌, are_upper_digits, arrival_said, block_said, in_two, is_space, is_upper_digit, known, line_by, line_of, line_said, moment_by, moment_said, no_word, note_by, octet_of, octet_said, octets_of, octets_said, one_octet, one_octets, only_word}
use Rattle.exchange_text.specs.declared.fault.LineFault.{LineFault}
use Rattle.exchange_text.specs.declared.fault.LineFault.TheVariants.{Word, Hex}
use Rattle.exchange_text.specs.declared.exchange.Version.{Version}
use Rattle.exchange_text.specs.declared.exchange.Version.TheVariants.{One, Two}
use Rattle.exchange_text.specs.declared.line.Arrival.{Arrival}
use Rattle.exchange_text.specs.declared.line.Arrival.TheVariants.{Whole, Lost, Changed}
use Rattle.exchange_text.specs.declared.line.Line.{Line}
use Rattle.exchange_text.specs.declared.line.Line.TheVariants.{Command, Ifsd, Quiet, Answer, IfsSet, GivenUp, Dead, Reply, Time, Ifsc, Asked, FromTerminal, FromCard, Moment, Note}
use Rattle.exchange_text.specs.declared.name.Name.{Name}
use Rattle.exchange_text.specs.declared.name.Name.TheVariants as name
use Rattle.exchange_text.proofs.Digits.{decode-back}
use Rattle.exchange_text.proofs.Naming.{both, name-text, same-bytes}

-- the line is the text of x, which may come in a text of this version
pub record IsSaid (version : Version) (line : List ℕ) (x : Line) : Type 0 where
  pub text : line ≡ line_text x
  pub follows : may_follow version 0 x ≡ true
  pub octets : HasOctets x

-- the ? of the reading, taken apart
pub bind : {A B E : Type 0} (r : Result A E) (f : A → Result B E) (x : B) → (r >>= f) ≡ Ok x
    → (a : A) × (r ≡ Ok a) × (f a ≡ Ok x)
bind (Ok a) f x e = (a, refl, e)
bind (Err e') f x e = cc

-- a result that is Ok has one value
pub same-ok : {A E : Type 0} (x y : A) (r : Result A E) → r ≡ Ok x → r ≡ Ok y → x ≡ y
same-ok x y r e f = let s : r ≡ r = refl in cc

-- ---- words

octets-by : (a b : Bool) (d : Result (List ℕ) FromHexError) (o : List ℕ)
    → (if a then Ok [] else (if b then octets_of d else Err Hex)) ≡ Ok o
    → ((a ≡ true) × (o ≡ [])) ⊎ ((b ≡ true) × (d ≡ Ok o))
octets-by true b d o e = inl (refl, same-ok o [] (Ok []) e refl)
octets-by false true (Ok x) o e = inr (refl, ap Ok (same-ok x o (octets_of (Ok x)) refl e))
octets-by false true (Err f) o e = cc
octets-by false false d o e = cc

digits-text : (o w : List ℕ) → encode_upper o ≡ w → 1 ≤ length w → w ≡ octets_text o
unfolding encode_with
digits-text [] w e h = absurd (let l : 0 ≡ length w = ap length e in omega arith)
digits-text (x ∷ o) w e h = sym e

some-by : (n : ℕ) → nat_le 1 n ≡ true → 1 ≤ n
some-by n h = search (rules, h)

from-digits : (w o : List ℕ) → are_upper_digits w ≡ true → decode_of w ≡ Ok o → (w ≡ octets_text o) × AreOctets o
from-digits w o h e =
    let p = both (nat_le 1 (length w)) (list_all is_upper_digit w) h in
    (digits-text o w (decode-back w o p.1 e) (some-by (length w) p.0), (decode_of-ok w o e).3)

-- a word that was read as octets is their text
pub octets-sound : (w o : List ℕ) → octets_said w ≡ Ok o → (w ≡ octets_text o) × AreOctets o
octets-sound w o e =
    elim (octets-by (bytes_eq w (codes "none")) (are_upper_digits w) (decode_of w) o e) [
      | inl p ↦ rw p.1 (same-bytes w (codes "none") p.0, λ i. omega arith)
      | inr p ↦ from-digits w o p.0 p.1
    ]

octet-by : (b : Bool) (d : Result (List ℕ) FromHexError) (n : ℕ) → (if b then octet_of d else Err Hex) ≡ Ok n
    → (b ≡ true) × (more : List ℕ) × (d ≡ Ok (n ∷ more))
octet-by true (Ok (x ∷ more)) n e = (
  refl,
  more,
  ap (λ (y : ℕ). let r : Result (List ℕ) FromHexError = Ok (y ∷ more) in r)
      (same-ok x n (octet_of (Ok (x ∷ more))) refl e),
)
octet-by true (Ok []) n e = cc
octet-by true (Err f) n e = cc
octet-by false d n e = cc

one-octet : (w : List ℕ) (n : ℕ) (more : List ℕ) → list_all is_upper_digit w ≡ true → length w ≡ 2
    → decode_of w ≡ Ok (n ∷ more) → (w ≡ octet_text n) × (n < 256)
one-octet w n [] h l e = (sym (decode-back w (n ∷ []) h e), (decode_of-ok w (n ∷ []) e).3 0)
one-octet w n (x ∷ more) h l e = let k = (decode_of-ok w (n ∷ x ∷ more) e).2 in absurd (omega arith)

-- a word that was read as an octet is its text
pub octet-sound : (w : List ℕ) (n : ℕ) → octet_said w ≡ Ok n → (w ≡ octet_text n) × (n < 256)
octet-sound w n e =
    let p = octet-by (are_upper_digits w) (decode_sized w 1) n e in
    let q = both (nat_le 1 (length w)) (list_all is_upper_digit w) p.0 in
    let l = decode_sized-ok w 1 (n ∷ p.1) p.2 in
    one-octet w n p.1 q.1 l (sym (decode_sized-twice w 1 l) ∙ p.2)

-- ---- lists of words

-- words that were read as one word are that one
pub only : (words : List (List ℕ)) (w : List ℕ) → only_word words ≡ Ok w → words ≡ w ∷ []
only [] w e = cc
only (x ∷ []) w e = ap (λ (y : List ℕ). y ∷ []) (same-ok x w (only_word (x ∷ [])) refl e)
only (x ∷ y ∷ words) w e = cc

-- and words that were read as none are none
pub none : (words : List (List ℕ)) (u : Unit {0}) → no_word words ≡ Ok u → words ≡ []
none [] u e = refl
none (x ∷ words) u e = cc

-- words that were read as octets are one word, their text
pub octets-word : (words : List (List ℕ)) (o : List ℕ) → one_octets words ≡ Ok o
    → (words ≡ octets_text o ∷ []) × AreOctets o
octets-word words o e =
    let p = bind (only_word words) octets_said o e in
    let s = octets-sound p.0 o p.2 in
    (only words p.0 p.1 ∙ ap (λ (y : List ℕ). y ∷ []) s.0, s.1)

octet-word : (words : List (List ℕ)) (n : ℕ) → one_octet words ≡ Ok n → (words ≡ octet_text n ∷ []) × (n < 256)
octet-word words n e =
    let p = bind (only_word words) octet_said n e in
    let s = octet-sound p.0 n p.2 in
    (only words p.0 p.1 ∙ ap (λ (y : List ℕ). y ∷ []) s.0, s.1)

-- ---- what became of a block

record IsArrival (w : List ℕ) (words : List (List ℕ)) (x : Arrival) : Type 0 where
  text : join_with_byte 32 (w ∷ words) ≡ w ++ arrival_text x
  octets : ArriveAsOctets x

arrival-by : (a b : Bool) (l m : Result Arrival LineFault) (x : Arrival)
    → (if a then l else (if b then m else Err Word)) ≡ Ok x → ((a ≡ true) × (l ≡ Ok x)) ⊎ ((b ≡ true) × (m ≡ Ok x))
arrival-by true b l m x e = inl (refl, e)
arrival-by false true l m x e = inr (refl, e)
arrival-by false false l m x e = cc

changed : (w way : List ℕ) (words : List (List ℕ)) (o : List ℕ) (x : Arrival) → way ≡ codes "as"
    → words ≡ octets_text o ∷ [] → Changed o ≡ x → AreOctets o → IsArrival w (way ∷ words) x
changed w way words o x e f s h = rw (e, f, sym s) (record { text = refl; octets = h })

arrival-sound : (w : List ℕ) (words : List (List ℕ)) (x : Arrival) → arrival_said words ≡ Ok x → IsArrival w words x
arrival-sound w [] x e =
    let s : Whole ≡ x = same-ok Whole x (arrival_said []) refl e in
    rw (sym s) (record { text = sym (append-nil w); octets = tt })
arrival-sound w (way ∷ words) x e =
    elim (arrival-by (bytes_eq way (codes "lost")) (bytes_eq way (codes "as")) (no_word words >>= (λ u. Ok Lost))
    (one_octets words >>= (λ o. Ok (Changed o))) x e) [
      | inl p ↦
          let q = bind (no_word words) (λ u. Ok Lost) x p.1 in
          let s : Lost ≡ x = same-ok Lost x (Ok Lost) refl q.2 in
          rw (same-bytes way (codes "lost") p.0, none words q.0 q.1, sym s) (record { text = refl; octets = tt })
      | inr p ↦
          let q = bind (one_octets words) (λ o. Ok (Changed o)) x p.1 in
          let s : Changed q.0 ≡ x = same-ok (Changed q.0) x (Ok (Changed q.0)) refl q.2 in
          let o = octets-word words q.0 q.1 in
          changed w way words q.0 x (same-bytes way (codes "as") p.0) o.0 s o.1
    ]

-- a block and what became of it
pub record IsBlock (words : List (List ℕ)) (b : List ℕ × Arrival) : Type 0 where
  pub text : join_with_byte 32 words ≡ octets_text b.0 ++ arrival_text b.1
  pub some : words ≡ [] → ⊥
  pub octets : AreOctets b.0
  pub arrival : ArriveAsOctets b.1

-- words that were read as a block are its text
pub block-sound : (words : List (List ℕ)) (b : List ℕ × Arrival) → block_said words ≡ Ok b → IsBlock words b
block-sound [] b e = cc
block-sound (word ∷ words) b e =
    let p = bind (arrival_said words) (λ arrival. octets_said word >>= (λ sent. Ok (sent, arrival))) b e in
    let q = bind (octets_said word) (λ sent. Ok (sent, p.0)) b p.2 in
    let s : (q.0, p.0) ≡ b = same-ok (q.0, p.0) b (Ok (q.0, p.0)) refl q.2 in
    let a = arrival-sound word words p.0 p.1 in
    let o = octets-sound word q.0 q.1 in
    rw (sym s) (record {
      text = a.text ∙ ap (λ (l : List ℕ). l ++ arrival_text p.0) o.0;
      some = λ n. cc;
      octets = o.1;
      arrival = a.octets;
    })

-- ---- lines

said : (version : Version) (line : List ℕ) (made x : Line) → made ≡ x → line ≡ line_text made
    → may_follow version 0 made ≡ true → HasOctets made → IsSaid version line x
said version line made x s text follows octets = rw (sym s) (record { text = text; follows = follows; octets = octets })

-- what a name makes of the words after it
abbrev Names : Version → List ℕ → List ℕ → List (List ℕ) → Name → Line → Type 0
Names version line rest words n x = join_with_byte 32 (name_text n ∷ words) ≡ line → rest ≡ after_first is_space line
    → line_by version rest words n ≡ Ok x → IsSaid version line x

of-octets : (version : Version) (n : Name) (make : List ℕ → Line) (line : List ℕ) (words : List (List ℕ)) (x : Line)
    → ((o : List ℕ) → line_text (make o) ≡ name_text n ++ (32 ∷ octets_text o))
    → ((o : List ℕ) → may_follow version 0 (make o) ≡ true) → ((o : List ℕ) → AreOctets o → HasOctets (make o))
    → join_with_byte 32 (name_text n ∷ words) ≡ line → (one_octets words >>= (λ o. Ok (make o))) ≡ Ok x
    → IsSaid version line x
of-octets version n make line words x text follows octets j e =
    let p = bind (one_octets words) (λ o. Ok (make o)) x e in
    let s = same-ok (make p.0) x (Ok (make p.0)) refl p.2 in
    let o = octets-word words p.0 p.1 in
    said version line (make p.0) x s (sym j ∙ ap (λ (l : List (List ℕ)). join_with_byte 32 (name_text n ∷ l)) o.0
    ∙ sym (text p.0)) (follows p.0) (octets p.0 o.1)

of-octet : (version : Version) (n : Name) (make : ℕ → Line) (line : List ℕ) (words : List (List ℕ)) (x : Line)
    → ((o : ℕ) → line_text (make o) ≡ name_text n ++ (32 ∷ octet_text o))
    → ((o : ℕ) → may_follow version 0 (make o) ≡ true) → ((o : ℕ) → o < 256 → HasOctets (make o))
    → join_with_byte 32 (name_text n ∷ words) ≡ line → (one_octet words >>= (λ o. Ok (make o))) ≡ Ok x
    → IsSaid version line x
of-octet version n make line words x text follows octets j e =
    let p = bind (one_octet words) (λ o. Ok (make o)) x e in
    let s = same-ok (make p.0) x (Ok (make p.0)) refl p.2 in
    let o = octet-word words p.0 p.1 in
    said version line (make p.0) x s (sym j ∙ ap (λ (l : List (List ℕ)). join_with_byte 32 (name_text n ∷ l)) o.0
    ∙ sym (text p.0)) (follows p.0) (octets p.0 o.1)

of-name : (version : Version) (n : Name) (made : Line) (line : List ℕ) (words : List (List ℕ)) (x : Line)
    → line_text made ≡ name_text n → may_follow version 0 made ≡ true → HasOctets made
    → join_with_byte 32 (name_text n ∷ words) ≡ line
    → (no_word words >>= (λ u. Ok made)) ≡ Ok x → IsSaid version line x
of-name version n made line words x text follows octets j e =
    let p = bind (no_word words) (λ u. Ok made) x e in
    let s = same-ok made x (Ok made) refl p.2 in
    said version line made x s (sym j ∙ ap (λ (l : List (List ℕ)). join_with_byte 32 (name_text n ∷ l))
    (none words p.0 p.1) ∙ sym text) follows octets

join-more : (w : List ℕ) (words : List (List ℕ)) → (words ≡ [] → ⊥)
    → join_with_byte 32 (w ∷ words) ≡ w ++ (32 ∷ join_with_byte 32 words)
join-more w [] h = absurd (h refl)
join-more w (x ∷ words) h = refl

of-block : (version : Version) (n : Name) (make : List ℕ → Arrival → Line) (line : List ℕ) (words : List (List ℕ))
    (x : Line)
    → ((o : List ℕ) (a : Arrival) → line_text (make o a) ≡ name_text n ++ (32 ∷ (octets_text o ++ arrival_text a)))
    → ((o : List ℕ) (a : Arrival) → may_follow version 0 (make o a) ≡ true)
    → ((o : List ℕ) (a : Arrival) → AreOctets o → ArriveAsOctets a → HasOctets (make o a))
    → join_with_byte 32 (name_text n ∷ words) ≡ line → (block_said words >>= (λ b. Ok (make b.0 b.1))) ≡ Ok x
    → IsSaid version line x
of-block version n make line words x text follows octets j e =
    let p = bind (block_said words) (λ b. Ok (make b.0 b.1)) x e in
    let s = same-ok (make p.0.0 p.0.1) x (Ok (make p.0.0 p.0.1)) refl p.2 in
    let b = block-sound words p.0 p.1 in
    said version line (make p.0.0 p.0.1) x s
    (sym j ∙ join-more (name_text n) words b.some ∙ ap (λ (l : List ℕ). name_text n ++ (32 ∷ l)) b.text
    ∙ sym (text p.0.0 p.0.1)) (follows p.0.0 p.0.1) (octets p.0.0 p.0.1 b.octets b.arrival)

two : (version : Version) (r : Result Line LineFault) (x : Line) → in_two version r ≡ Ok x
    → (version ≡ Two) × (r ≡ Ok x)
two One r x e = cc
two Two r x e = (refl, e)

moment-is : (o : Option ℕ) (x : Line) → moment_by o ≡ Ok x → (m : ℕ) × (o ≡ Some m) × (Moment m ≡ x)
moment-is (Some m) x e = (m, refl, same-ok (Moment m) x (moment_by (Some m)) refl e)
moment-is None x e = cc

number-is : (w : List ℕ) (m : ℕ) (b : Bool) → is_decimal w ≡ b → (if b then Some (digits_value 10 w) else None) ≡ Some m
    → (w ≡ decimal m) × (m < 1000000000000000)
number-is w m true h e = let s : digits_value 10 w ≡ m = cc in rw (sym s) (value-decimal w h, value-most w h)
number-is w m false h e = cc

late : (m : ℕ) → m < 1000000000000000 → nat_le m latest_moment ≡ true
late m h = let le : m ≤ 999999999999999 = omega arith in search (rules, le)

zero-least : (m : ℕ) → nat_le 0 m ≡ true
zero-least m = let le : 0 ≤ m = omega arith in search (rules, le)

of-moment : (version : Version) (line : List ℕ) (words : List (List ℕ)) (x : Line)
    → join_with_byte 32 (name_text name.Moment ∷ words) ≡ line → moment_said version words ≡ Ok x
    → IsSaid version line x
of-moment version line words x j e =
    let t = two version (only_word words >>= (λ word. moment_by (decimal_number word))) x e in
    let p = bind (only_word words) (λ word. moment_by (decimal_number word)) x t.1 in
    let m = moment-is (decimal_number p.0) x p.2 in
    let n = number-is p.0 m.0 (is_decimal p.0) refl m.1 in
    rw t.0 (said Two line (Moment m.0) x m.2
    (sym j ∙ ap (λ (l : List (List ℕ)). join_with_byte 32 (name_text name.Moment ∷ l)) (only words p.0 p.1)
    ∙ ap (λ (l : List ℕ). codes "at " ++ l) n.0)
    (and_from (nat_le 0 m.0) (nat_le m.0 latest_moment) (zero-least m.0) (late m.0 n.1)) tt)

note-is : (b : Bool) (t : List ℕ) (x : Line) → (if b then Ok (Note t) else Err Word) ≡ Ok x → (b ≡ true) × (Note t ≡ x)
note-is true t x e = (refl, same-ok (Note t) x (Ok (Note t)) refl e)
note-is false t x e = cc

of-note : (version : Version) (line rest : List ℕ) (words : List (List ℕ)) (x : Line)
    → join_with_byte 32 (name_text name.Note ∷ words) ≡ line → rest ≡ after_first is_space line
    → note_by version rest words ≡ Ok x → IsSaid version line x
of-note version line rest [] x j r e = cc
of-note version line rest (word ∷ words) x j r e =
    let t = two version (if is_note rest then Ok (Note rest) else Err Word) x e in
    let n = note-is (is_note rest) rest x t.1 in
    let whole : codes "note " ++ join_with_byte 32 (word ∷ words) ≡ line = j in
    let tail : rest ≡ join_with_byte 32 (word ∷ words) = r ∙ ap (after_first is_space) (sym whole) in
    rw t.0 (said Two line (Note rest) x n.1 (sym whole ∙ ap (λ (l : List ℕ). codes "note " ++ l) (sym tail)) n.0 tt)

abbrev is_free : Line → Bool
is_free (Moment m) = false
is_free (Note t) = false
is_free x = true

-- lines that any version has
free : (version : Version) (x : Line) → is_free x ≡ true → may_follow version 0 x ≡ true
free One (Moment m) h = cc
free One (Note t) h = cc
free One x h = refl
free Two (Moment m) h = cc
free Two (Note t) h = cc
free Two x h = refl

named : (version : Version) (line rest : List ℕ) (words : List (List ℕ)) (n : Name) (x : Line)
    → Names version line rest words n x
named version line rest words name.Command x j r e =
    of-octets version name.Command Command line words x (λ o. refl) (λ o. free version (Command o) refl) (λ o h. h) j e
named version line rest words name.Ifsd x j r e =
    of-octet version name.Ifsd Ifsd line words x (λ o. refl) (λ o. free version (Ifsd o) refl) (λ o h. h) j e
named version line rest words name.Quiet x j r e =
    of-name version name.Quiet Quiet line words x refl ((free version Quiet refl)) tt j e
named version line rest words name.Answer x j r e =
    of-octets version name.Answer Answer line words x (λ o. refl) (λ o. free version (Answer o) refl) (λ o h. h) j e
named version line rest words name.IfsSet x j r e =
    of-name version name.IfsSet IfsSet line words x refl ((free version IfsSet refl)) tt j e
named version line rest words name.GivenUp x j r e =
    of-name version name.GivenUp GivenUp line words x refl ((free version GivenUp refl)) tt j e
named version line rest words name.Dead x j r e =
    of-name version name.Dead Dead line words x refl ((free version Dead refl)) tt j e
named version line rest words name.Reply x j r e =
    of-octets version name.Reply Reply line words x (λ o. refl) (λ o. free version (Reply o) refl) (λ o h. h) j e
named version line rest words name.Time x j r e =
    of-octet version name.Time Time line words x (λ o. refl) (λ o. free version (Time o) refl) (λ o h. h) j e
named version line rest words name.Ifsc x j r e =
    of-octet version name.Ifsc Ifsc line words x (λ o. refl) (λ o. free version (Ifsc o) refl) (λ o h. h) j e
named version line rest words name.Asked x j r e =
    of-octets version name.Asked Asked line words x (λ o. refl) (λ o. free version (Asked o) refl) (λ o h. h) j e
named version line rest words name.FromTerminal x j r e =
    of-block version name.FromTerminal FromTerminal line words x (λ o a. refl)
    (λ o a. free version (FromTerminal o a) refl) (λ o a h k. (h, k)) j e
named version line rest words name.FromCard x j r e =
    of-block version name.FromCard FromCard line words x (λ o a. refl) (λ o a. free version (FromCard o a) refl)
    (λ o a h k. (h, k)) j e
named version line rest words name.Moment x j r e = of-moment version line words x j e
named version line rest words name.Note x j r e = of-note version line rest words x j r e

known-is : (o : Option Name) (n : Name) → known o ≡ Ok n → o ≡ Some n
known-is (Some m) n e = ap Some (same-ok m n (known (Some m)) refl e)
known-is None n e = cc

by-words : (version : Version) (line rest : List ℕ) (words : List (List ℕ)) (x : Line) → join_with_byte 32 words ≡ line
    → rest ≡ after_first is_space line → line_of version rest words ≡ Ok x → IsSaid version line x
by-words version line rest [] x j r e = cc
by-words version line rest (word ∷ words) x j r e =
    let p = bind (known (name_of word)) (line_by version rest words) x e in
    let w = name-text word p.0 (known-is (name_of word) p.0 p.1) in
    named version line rest words p.0 x (ap (λ (y : List ℕ). join_with_byte 32 (y ∷ words)) (sym w) ∙ j) r p.2

-- a line is the text of what it says
pub line-sound : (version : Version) (line : List ℕ) (x : Line) → line_said version line ≡ Ok x → IsSaid version line x
line-sound version line x e = by-words version line (after_first is_space line) (slice_split is_space line) x
    (join_with_byte-slice_split 32 line) refl e
