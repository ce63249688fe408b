-- That what a source gives are octets.
use Rattle.std.proofs.Common.{◌≡◌, ◌<◌, ◌≤◌, ◌++◌, ◌==◌, ◌&&◌, ◌||◌, ◌+◌, ◌*◌, not, ℕ, List, [], ◌∷◌, Bool, true, false, Option, Some, None, Result, Ok, refl, subst, arith, if◌then◌else◌}
use Rattle.std.proofs.lemmas.Bool.Decides.{nat_tests}
use Rattle.octet_core.specs.Octets.{AreOctets}
use Rattle.octet_core.proofs.Lists.{octets-append}
use Rattle.dumps.specs.Characters.{digit, is_digit, is_pair, is_within, octet_at}
use Rattle.dumps.specs.Source.{after_slash, after_star, among_octets, and_then, at_first, in_block, in_code, in_line, in_quotes, is_done, is_one_way, last_octets, mark_in_code, begun, mark_in_quotes, may_end_at, octets_from, part_in_code, placed, source_octets, those, turn_at}
use Rattle.dumps.specs.Turns.{and_octet, ended, ended_by, fits, is_cut, is_letter, is_part, is_quote, is_skipped, is_space, longer_by, taken_octet, then_now, with_character, with_place, with_word, Turn}
use Rattle.dumps.specs.Heads.{after_declaration, in_count, in_head, in_name, in_size, is_name, is_octets, mark_in_head, may_name, named}
use Rattle.dumps.specs.Strings.{character, escaped, in_string, is_of_pairs, plain_character}
use Rattle.dumps.specs.Words.{all_digits, first_of, is_escape, is_mark, is_prefix, longer, marked, octet_of, pair_of, suffixed, written}
use Rattle.dumps.specs.declared.fault.DumpFault.{DumpFault}
use Rattle.dumps.specs.declared.turn.Now.{Now}
use Rattle.dumps.specs.declared.turn.Place.{Place}
use Rattle.dumps.specs.declared.turn.Place.TheVariants as place
use Rattle.dumps.specs.declared.word.Word.{Word}
use Rattle.dumps.specs.declared.word.Word.TheVariants.{Empty, One, Two, Three, Four}
use Rattle.dumps.specs.declared.word.Writing.{Writing}
use Rattle.dumps.specs.declared.word.Writing.TheVariants.{Plain, Marked, Suffixed, Escaped}
use Rattle.dumps.proofs.Octets.{both-steps, digit-most, no-octets, one-octet, pair-octet, same, tested}

abbrev IsOctet : Option (Writing × ℕ) → Type 0
IsOctet (Some (writing, octet)) = octet < 256
IsOctet None = Unit {0}

abbrev OfOctets : Turn → Type 0
OfOctets (Some (now, octet)) = AreOctets (those octet)
OfOctets None = Unit {0}

-- ---- words

pair-tested : (b : Bool) (a c : ℕ) (writing : Writing) → is_pair a c ≡ b
    → IsOctet (written writing (if b then Some (digit a * 16 + digit c) else None))
pair-tested true a c writing e = pair-octet a c e
pair-tested false a c writing e = tt

written-octet : (writing : Writing) (a b : ℕ) → IsOctet (written writing (pair_of a b))
written-octet writing a b = pair-tested (is_pair a b) a b writing refl

marked-tested : (b : Bool) (x : ℕ) → IsOctet (if b then None else Some (Marked, digit x))
marked-tested true x = tt
marked-tested false x = let most : digit x ≤ 16 = digit-most x in omega (arith, most)

suffixed-tested : (t : Bool) (a b : ℕ) → IsOctet (if t then written Suffixed (pair_of a b) else None)
suffixed-tested true a b = written-octet Suffixed a b
suffixed-tested false a b = tt

three-tested : (t : Bool) (a b c : ℕ) → IsOctet (if t then marked c else suffixed a b c)
three-tested true a b c = marked-tested (digit c == 16) c
three-tested false a b c = suffixed-tested (c == 104 || c == 72) a b

four-tested : (t u : Bool) (c d : ℕ) → IsOctet (if t then written Marked (pair_of c d)
    else (if u then written Escaped (pair_of c d) else None))
four-tested true u c d = written-octet Marked c d
four-tested false true c d = written-octet Escaped c d
four-tested false false c d = tt

word-octet : (word : Word) → IsOctet (octet_of word)
word-octet Empty = tt
word-octet (One a) = tt
word-octet (Two a b) = written-octet Plain a b
word-octet (Three a b c) = three-tested (is_mark a b) a b c
word-octet (Four a b c d) = four-tested (is_mark a b) (is_escape a b) c d

fitting : (b : Bool) (now : Now) (octet : ℕ) → octet < 256
    → OfOctets (let t : Turn = (if b then Some (now, Some octet) else None) in t)
fitting true now octet h = one-octet octet h
fitting false now octet h = tt

taken : (now : Now) (read : Option (Writing × ℕ)) → IsOctet read → OfOctets (taken_octet now read)
taken now (Some (writing, octet)) h = fitting (fits now.writing writing) _ octet h
taken now None h = tt

some-word : (skipped : Bool) (now : Now) (word : Word)
    → OfOctets (if skipped then Some (with_word Empty now, None) else taken_octet now (octet_of word))
some-word true now word = no-octets
some-word false now word = taken now (octet_of word) (word-octet word)

by-word : (now : Now) (word : Word) → OfOctets (ended_by now word)
by-word now Empty = no-octets
by-word now (One a) = some-word (is_skipped now (One a)) now (One a)
by-word now (Two a b) = some-word (is_skipped now (Two a b)) now (Two a b)
by-word now (Three a b c) = some-word (is_skipped now (Three a b c)) now (Three a b c)
by-word now (Four a b c d) = some-word (is_skipped now (Four a b c d)) now (Four a b c d)

ended-octets : (now : Now) → OfOctets (ended now)
ended-octets now = by-word now now.word

-- ---- at each place

with-now : (octet : Option ℕ) (now : Option Now) → AreOctets (those octet) → OfOctets (and_octet octet now)
with-now octet (Some now) h = h
with-now octet None h = tt

then-octets : (t : Turn) (f : Now → Option Now) → OfOctets t → OfOctets (then_now t f)
then-octets (Some (now, octet)) f h = with-now octet (f now) h
then-octets None f h = tt

longer-octets : (now : Now) (word : Option Word) → OfOctets (longer_by now word)
longer-octets now (Some word) = no-octets
longer-octets now None = tt

one-of-three : (b c : Bool) (x y z : Turn) → OfOctets x → OfOctets y → OfOctets z
    → OfOctets (if b then x else (if c then y else z))
one-of-three true c x y z hx hy hz = hx
one-of-three false true x y z hx hy hz = hy
one-of-three false false x y z hx hy hz = hz

-- ---- heads and strings, which give no octet or a character

no-octet : (now : Option Now) → OfOctets (named now)
no-octet (Some now) = no-octets
no-octet None = tt

one-of-two : (b : Bool) (x y : Turn) → OfOctets x → OfOctets y → OfOctets (if b then x else y)
one-of-two true x y hx hy = hx
one-of-two false x y hx hy = hy

none-ends : OfOctets None
none-ends = tt

head-octets : (now : Now) (x : ℕ) → OfOctets (in_head now x)
head-octets now x = one-of-three (is_part x) (is_octets now.word) _ _ _ no-octets none-ends
    (no-octet (mark_in_head x (all_digits now.word) (with_word Empty now)))

size-octets : (now : Now) (x : ℕ) → OfOctets (in_size now x)
size-octets now x = one-of-three (is_part x || (x == 95 || is_space x)) (x == 93 || x == 62) _ _ _ no-octets no-octets
    none-ends

done-octets : (now : Now) (x : ℕ) → OfOctets (after_declaration now x)
done-octets now x = one-of-three (is_space x || x == 59) (is_letter x) _ _ _ no-octets no-octets
    (one-of-three (x == 47) (x == 35) _ _ _ no-octets no-octets none-ends)

name-octets : (now : Now) (x : ℕ) → OfOctets (in_name now x)
name-octets now x = one-of-three (is_part x || (x == 95 || is_space x)) (x == 61) _ _ _ no-octets no-octets none-ends

count-octets : (now : Now) (x : ℕ) → OfOctets (in_count now x)
count-octets now x = one-of-three (is_within 48 57 x || is_space x) (x == 59) _ _ _ no-octets no-octets none-ends

character-octets : (now : Now) (octet : Option ℕ) → AreOctets (those octet) → OfOctets (character now octet)
character-octets now (Some octet) h = h
character-octets now None h = tt

shown-octet : (b : Bool) (now : Now) (x : ℕ) → is_within 32 126 x ≡ b
    → OfOctets (let t : Turn = (if b then Some (now, Some x) else None) in t)
shown-octet true now x h = one-octet x (printable x h)
  where
    printable : (x : ℕ) → is_within 32 126 x ≡ true → x < 256
    printable x h = grind (arith, nat_tests)
shown-octet false now x h = tt

plain-octets : (quote : ℕ) (now : Now) (x : ℕ) → OfOctets (plain_character quote now x)
plain-octets quote now x = one-of-three (x == quote) (x == 92) _ _ _ no-octets no-octets
    (shown-octet (is_within 32 126 x) (with_character (not (is_of_pairs x)) now) x refl)

escaped-octet : (n r t s : Bool) (x : ℕ) → s ≡ (x == 92 || (x == 39 || x == 34))
    → AreOctets (those (if n then Some 10 else (if r then Some 13 else (if t then Some 9
    else (if s then Some x else None)))))
escaped-octet true r t s x h = one-octet 10 (omega arith)
escaped-octet false true t s x h = one-octet 13 (omega arith)
escaped-octet false false true s x h = one-octet 9 (omega arith)
escaped-octet false false false true x h = one-octet x (small x h)
  where
    small : (x : ℕ) → true ≡ (x == 92 || (x == 39 || x == 34)) → x < 256
    small x h = grind (arith, nat_tests)
escaped-octet false false false false x h = no-octets

pair-octets : (b : Bool) (high x : ℕ) → is_pair high x ≡ b
    → AreOctets (those (if b then Some (octet_at high x) else None))
pair-octets true high x h = one-octet (octet_at high x) (pair-octet high x h)
pair-octets false high x h = no-octets

string-octets : (quote : ℕ) (word : Word) (now : Now) (x : ℕ) → OfOctets (in_string quote word now x)
string-octets quote Empty now x = plain-octets quote now x
string-octets quote (One a) now x = one-of-two (x == 120) _ _ no-octets
    (character-octets now (escaped x)
    (escaped-octet (x == 110) (x == 114) (x == 116) (x == 92 || (x == 39 || x == 34)) x refl))
string-octets quote (Two a b) now x = one-of-two (is_digit x) _ _ no-octets none-ends
string-octets quote (Three a b high) now x =
    character-octets now (if is_pair high x then Some (octet_at high x) else None)
    (pair-octets (is_pair high x) high x refl)
string-octets quote (Four a b c d) now x = tt

-- ---- code

part-octets : (now : Now) (x : ℕ) (word : Option Word) → OfOctets (part_in_code now x word)
part-octets now x (Some word) = no-octets
part-octets now x None = one-of-two
    (may_name now && (is_letter (first_of now.word) && not (all_digits now.word && is_digit x))) _ _ no-octets
    none-ends

among-octets : (now : Now) (x : ℕ) → OfOctets (among_octets now x)
among-octets now x = one-of-three (is_part x) (is_quote x && is_prefix now.word) _ _ _
    (part-octets now x (longer now.word x)) no-octets
    (one-of-two (is_name now) _ _ (head-octets (with_place place.Head now) x)
    (then-octets (ended now) (mark_in_code x) (ended-octets now)))

code-octets : (now : Now) (x : ℕ) → OfOctets (in_code now x)
code-octets now x = one-of-two (is_done now.around) _ _ (done-octets now x) (among-octets now x)

quoted-octets : (quote : ℕ) (now : Now) (x : ℕ) → OfOctets (in_quotes quote now x)
quoted-octets quote now x = one-of-three (is_cut now.word x) (is_part x) _ _ _
    (then-octets (ended now) (begun x) (ended-octets now)) (longer-octets now (longer now.word x))
    (then-octets (ended now) (mark_in_quotes quote x) (ended-octets now))

placed-octets : (now : Now) (p : Option Place) → OfOctets (placed now p)
placed-octets now (Some p) = no-octets
placed-octets now None = tt

turn-octets : (p : Place) (now : Now) (x : ℕ) → OfOctets (turn_at p now x)
turn-octets place.Code now x = code-octets now x
turn-octets place.Double now x = quoted-octets 34 now x
turn-octets place.Single now x = quoted-octets 39 now x
turn-octets place.DoubleString now x = string-octets 34 now.word now x
turn-octets place.SingleString now x = string-octets 39 now.word now x
turn-octets place.Head now x = head-octets now x
turn-octets place.Size now x = size-octets now x
turn-octets place.Name now x = name-octets now x
turn-octets place.Count now x = count-octets now x
turn-octets place.Slash now x = placed-octets now (after_slash x)
turn-octets place.Line now x = placed-octets now (Some (in_line x))
turn-octets place.Block now x = placed-octets now (Some (in_block x))
turn-octets place.Star now x = placed-octets now (Some (after_star x))

-- ---- a text

last-octets : (t : Turn) (octets : List ℕ) → OfOctets t → last_octets t ≡ Ok octets → AreOctets octets
last-octets (Some (now, octet)) octets h e = subst AreOctets
    (same (those octet) octets
    (tested (may_end_at now.place && is_one_way now.writing now) (Ok (those octet)) octets e)) h
last-octets None octets h e = cc e

then-text : (t : Turn) (rest : Now → Result (List ℕ) DumpFault) (octets : List ℕ) → OfOctets t
    → ((now : Now) (more : List ℕ) → rest now ≡ Ok more → AreOctets more) → and_then t rest ≡ Ok octets
    → AreOctets octets
then-text (Some (now, octet)) rest octets h all e =
    let more = both-steps (rest now) _ octets e in
    subst AreOctets (same (those octet ++ more.0) octets more.2)
    (octets-append (those octet) more.0 h (all now more.0 more.1))
then-text None rest octets h all e = cc e

text-octets : (text : List ℕ) (now : Now) (octets : List ℕ) → octets_from now text ≡ Ok octets → AreOctets octets
text-octets [] now octets e = last-octets (ended now) octets (ended-octets now) e
text-octets (x ∷ text) now octets e =
    then-text (turn_at now.place now x) (λ next. octets_from next text) octets (turn-octets now.place now x)
    (λ next more. text-octets text next more) e

-- what a source gives are octets
pub source-octets : (text octets : List ℕ) → source_octets text ≡ Ok octets → AreOctets octets
source-octets text octets e = text-octets text at_first octets e
