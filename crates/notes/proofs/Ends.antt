-- No note has a line end, so each comes before the end of its line.
use Rattle.std.proofs.Common.{◌≡◌, ◌≢◌, ◌==◌, ◌&&◌, ◌||◌, ◌<◌, ◌-◌, ◌/◌, ◌%◌, ◌*◌, ◌++◌, ℕ, nat_le, List, [], ◌∷◌, Bool, true, false, if◌then◌else◌, not, Option, Some, None, Result, Ok, Err, ◌∙◌, ap, arith, codes, drop, length, refl, slice_index, take}
use Rattle.std.specs.List.{All, list_all}
use Rattle.std.specs.Str.{IsUtf8}
use Rattle.std.proofs.lemmas.Bool.Decides.{nat_tests}
use Rattle.std.proofs.lemmas.List.{length-append}
use Rattle.std.proofs.lemmas.List.Elements.{All-cons, All-nil}
use Rattle.std.proofs.Math.Seq.{drop-append_seam, take-append_seam}
use Rattle.std.proofs.lemmas.Str.{IsUtf8-from_ascii}
use Rattle.std.proofs.lemmas.Str.Ascii.{IsAscii-from_all}
use Rattle.atr_core.specs.T1.{T1Values}
use Rattle.atr_core.specs.declared.atr.Indicated.{Indicated}
use Rattle.atr_core.specs.declared.params.ParamFault.{ParamFault}
use Rattle.tlv_core.specs.Flat.{PartValue}
use Rattle.tlv_core.specs.Tag.{constructed_bit}
use Rattle.notes.specs.Noted.{IsAdded, kept, marked, note, noted_line, nothing}
use Rattle.notes.specs.Says.{NoteText, asked_from, chained, class_says, count_note, counted, header_note, header_place, instruction_says, is_printable, is_standard, is_text, le_says, list_note, lrc_says, nad_says, name_then, named, note_of, note_text, object_note, part_note, pcb_says, quoted, said, secured, status_says, supervisory_says, t1_says, ta_says, tag_says, target, tck_says, td_says, text_note, there, value_note, value_quoted, words}
use Rattle.notes.specs.Tables.{instructions, statuses}
use Rattle.notes.proofs.Lacking.{both-true, decimal-lacks, either, lacks, more, number-then, one-more, passed}

low : 10 < 48
low = omega arith

-- ---- words and a number

record Fits (s : NoteText) : Type 0 where
  pub before : lacks 10 s.before ≡ true
  pub after : lacks 10 s.after ≡ true

fits : (before after : List ℕ) (number : Option ℕ) → lacks 10 before ≡ true → lacks 10 after ≡ true
    → Fits (said before number after)
fits before after number h g = record { before = h; after = g }

choice : (t : Bool) (s u : NoteText) → Fits s → Fits u → Fits (if t then s else u)
choice true s u h g = h
choice false s u h g = g

said-lacks : (before : List ℕ) (number : Option ℕ) (after : List ℕ) → lacks 10 before ≡ true → lacks 10 after ≡ true
    → lacks 10 (note_text before number after) ≡ true
said-lacks before None after h g = h
said-lacks before (Some number) after h g = more 10 before _ h (number-then 10 number after low g)

fits-lacks : (s : NoteText) → Fits s → lacks 10 (note_of s) ≡ true
unfolding note_of
fits-lacks s h = said-lacks s.before s.number s.after h.before h.after

-- ---- names in tables

named-lacks : {Row : Type 0} (is : Row → Bool) (name : Row → List ℕ) (rows : List Row)
    → list_all (λ row. lacks 10 (name row)) rows ≡ true → lacks 10 (named is name rows) ≡ true
named-lacks is name [] h = refl
named-lacks is name (row ∷ rows) h =
    let both = both-true (lacks 10 (name row)) (list_all (λ row. lacks 10 (name row)) rows) h in
    either 10 (is row) (name row) (named is name rows) both.0 (named-lacks is name rows both.1)

instructions-lack : list_all (λ row. lacks 10 row.1) instructions ≡ true
unfolding instructions
instructions-lack = refl

statuses-lack : list_all (λ row. lacks 10 row.2) statuses ≡ true
unfolding statuses
statuses-lack = refl

-- ---- blocks

target-lacks : (a : ℕ) → lacks 10 (target a) ≡ true
target-lacks a =
    either 10 (a == 0) _ _ refl (either 10 (a == 1) _ _ refl (either 10 (a == 2) _ _ refl
    (either 10 (a == 3) _ _ refl (either 10 (a == 4) _ _ refl (either 10 (a == 5) _ _ refl
    (either 10 (a == 6) _ _ refl refl))))))

pub nad-lacks : (nad : ℕ) → lacks 10 (note_of (nad_says nad)) ≡ true
nad-lacks nad = fits-lacks (nad_says nad)
    (choice (nad == 0) _ _ (fits _ _ _ refl refl) (fits _ _ _ refl (target-lacks (nad / 16 % 8))))

supervisory-fits : (pcb first : ℕ) → Fits (supervisory_says pcb first)
supervisory-fits pcb first =
    choice (pcb == 0xC0) _ _ (fits _ _ _ refl refl) (choice (pcb == 0xC1) _ _ (fits _ _ _ refl refl)
    (choice (pcb == 0xC2) _ _ (fits _ _ _ refl refl) (choice (pcb == 0xC3) _ _ (fits _ _ _ refl refl)
    (choice (pcb == 0xE0) _ _ (fits _ _ _ refl refl) (choice (pcb == 0xE1) _ _ (fits _ _ _ refl refl)
    (choice (pcb == 0xE2) _ _ (fits _ _ _ refl refl) (choice (pcb == 0xE3) _ _ (fits _ _ _ refl refl)
    (fits _ _ _ refl refl))))))))

pub pcb-lacks : (pcb first : ℕ) → lacks 10 (note_of (pcb_says pcb first)) ≡ true
pcb-lacks pcb first = fits-lacks (pcb_says pcb first)
    (choice (pcb == 0x00 || pcb == 0x40) _ _ (fits _ _ _ refl refl)
    (choice (pcb == 0x20 || pcb == 0x60) _ _ (fits _ _ _ refl refl)
    (choice (pcb == 0x80 || pcb == 0x90) _ _ (fits _ _ _ refl refl)
    (choice (pcb == 0x81 || pcb == 0x91) _ _ (fits _ _ _ refl refl)
    (choice (pcb == 0x82 || pcb == 0x92) _ _ (fits _ _ _ refl refl) (supervisory-fits pcb first))))))

pub lrc-lacks : lacks 10 (note_of lrc_says) ≡ true
lrc-lacks = fits-lacks lrc_says (fits _ _ _ refl refl)

-- ---- answers to reset

pub td-lacks : (protocol : ℕ) → lacks 10 (note_of (td_says protocol)) ≡ true
td-lacks protocol = fits-lacks (td_says protocol)
    (choice (protocol == 15) _ _ (fits _ _ _ refl refl) (fits _ _ _ refl refl))

pub ta-lacks : (number ta : ℕ) → lacks 10 (note_of (ta_says number ta)) ≡ true
ta-lacks number ta = fits-lacks (ta_says number ta)
    (choice (number == 2) _ _ (fits _ _ _ refl refl) (fits _ _ _ refl refl))

pub tck-lacks : (tck : Option ℕ) → lacks 10 (note_of (tck_says tck)) ≡ true
tck-lacks None = fits-lacks (tck_says None) (fits _ _ _ refl refl)
tck-lacks (Some tck) = fits-lacks (tck_says (Some tck)) (fits _ _ _ refl refl)

pub t1-lacks : (params : Result T1Values ParamFault) (indicated : List Indicated)
    → lacks 10 (note_of (t1_says params indicated)) ≡ true
t1-lacks (Ok values) indicated = fits-lacks (t1_says (Ok values) indicated) (fits _ _ _ refl refl)
t1-lacks (Err fault) indicated = fits-lacks (t1_says (Err fault) indicated)
    (choice (length indicated == 0) _ _ (fits _ _ _ refl refl) (fits _ _ _ refl refl))

-- ---- numbers of octets

counted-lacks : (n : ℕ) → lacks 10 (counted n) ≡ true
counted-lacks n = either 10 (n == 1) _ _ refl (number-then 10 n (codes " octets") low refl)

pub count-lacks : (n : ℕ) → lacks 10 (count_note n) ≡ true
count-lacks n = either 10 (n == 0) _ _ refl (counted-lacks n)

pub list-lacks : (entries : List (List ℕ × ℕ)) → lacks 10 (list_note entries) ≡ true
list-lacks entries = counted-lacks (asked_from 0 entries)

-- ---- commands and responses

secured-lacks : (bits : ℕ) → lacks 10 (secured bits) ≡ true
secured-lacks bits = either 10 (bits == 0) _ _ refl (either 10 (bits == 1) _ _ refl
    (either 10 (bits == 2) _ _ refl refl))

chained-lacks : (bit : ℕ) → lacks 10 (chained bit) ≡ true
chained-lacks bit = either 10 (bit == 0) _ _ refl refl

class-fits : (class : ℕ) → Fits (class_says class)
class-fits class =
    choice (nat_le class 0x1F) _ _ (fits _ _ _ (secured-lacks (class / 4 % 4)) (chained-lacks (class / 16 % 2)))
    (choice (nat_le class 0x3F) _ _ (fits _ _ _ refl refl)
    (choice (nat_le class 0x7F) _ _
    (fits _ _ _ (secured-lacks (class / 32 % 2 * 2)) (chained-lacks (class / 16 % 2)))
    (choice (class == 0xFF) _ _ (fits _ _ _ refl refl) (fits _ _ _ refl refl))))

instruction-lacks : (class instruction : ℕ) → lacks 10 (instruction_says class instruction) ≡ true
instruction-lacks class instruction =
    either 10 ((nat_le 0x60 instruction && nat_le instruction 0x6F)
    || (nat_le 0x90 instruction && nat_le instruction 0x9F)) _ _ refl (either 10 (is_standard class) _ _
    (named-lacks (λ row. row.0 == instruction) (λ row. row.1) instructions instructions-lack) refl)

name-then-lacks : (name : List ℕ) → lacks 10 name ≡ true → lacks 10 (name_then name) ≡ true
name-then-lacks [] h = refl
name-then-lacks (x ∷ name) h = more 10 (x ∷ name) (codes ", ") h refl

pub header-lacks : (class instruction : ℕ) → lacks 10 (header_note class instruction) ≡ true
header-lacks class instruction =
    more 10 (name_then (instruction_says class instruction)) _
    (name-then-lacks (instruction_says class instruction) (instruction-lacks class instruction))
    (fits-lacks (class_says class) (class-fits class))

pub part-lacks : (len : ℕ) → lacks 10 (part_note len) ≡ true
part-lacks len = either 10 (len == 0) _ _ refl (decimal-lacks 10 len low)

pub le-lacks : (le : Option ℕ) → lacks 10 (note_of (le_says le)) ≡ true
le-lacks None = fits-lacks (le_says None) (fits _ _ _ refl refl)
le-lacks (Some le) = fits-lacks (le_says (Some le)) (choice (le == 1) _ _ (fits _ _ _ refl refl) (fits _ _ _ refl refl))

there-fits : (before : List ℕ) (sw2 : ℕ) (one others : List ℕ) → lacks 10 before ≡ true → lacks 10 one ≡ true
    → lacks 10 others ≡ true → Fits (there before sw2 one others)
there-fits before sw2 one others h f g = fits _ _ _ h (either 10 (sw2 == 1) one others f g)

pub status-lacks : (sw1 sw2 : ℕ) → lacks 10 (note_of (status_says sw1 sw2)) ≡ true
status-lacks sw1 sw2 = fits-lacks (status_says sw1 sw2)
    (choice (sw1 == 0x61) _ _ (there-fits _ sw2 _ _ refl refl refl)
    (choice (sw1 == 0x6C) _ _ (there-fits _ sw2 _ _ refl refl refl)
    (choice ((sw1 == 0x62 || sw1 == 0x64) && (nat_le 0x02 sw2 && nat_le sw2 0x80)) _ _ (fits _ _ _ refl refl)
    (choice (sw1 == 0x63 && (nat_le 0xC0 sw2 && nat_le sw2 0xCF)) _ _ (fits _ _ _ refl refl)
    (fits _ _ _ (named-lacks (λ row. row.0 == sw1 && row.1 == sw2) (λ row. row.2) statuses statuses-lack) refl)))))

-- ---- octets as text

printable : (x : ℕ) → is_printable x ≡ true → (x ≢ 10) × (x < 128)
printable x h =
    let both = both-true (nat_le 0x20 x) (nat_le x 0x7E) h in
    (λ is. grind (arith, nat_tests), grind (arith, nat_tests))

printable-lack : (octets : List ℕ) → list_all is_printable octets ≡ true
    → (lacks 10 octets ≡ true) × All (λ x. x < 128) octets
printable-lack [] h = (refl, All-nil (λ x. x < 128))
printable-lack (x ∷ octets) h =
    let both = both-true (is_printable x) (list_all is_printable octets) h in
    let one = printable x both.0 in
    let others = printable-lack octets both.1 in
    (one-more 10 x octets one.0 others.0, All-cons (λ x. x < 128) x octets one.1 others.1)

all-printable : (octets : List ℕ) → is_text octets ≡ true → list_all is_printable octets ≡ true
all-printable octets h =
    (both-true (nat_le 1 (length octets) && nat_le (length octets) 40) (list_all is_printable octets) h).1

pub text-utf8 : (octets : List ℕ) → is_text octets ≡ true → IsUtf8 octets
text-utf8 octets h =
    IsUtf8-from_ascii octets (IsAscii-from_all octets (printable-lack octets (all-printable octets h)).1)

quoted-lacks : (octets : List ℕ) → is_text octets ≡ true → lacks 10 (quoted octets) ≡ true
quoted-lacks octets h = more 10 octets (codes "\"") (printable-lack octets (all-printable octets h)).0 refl

pub text-lacks : (octets : List ℕ) → lacks 10 (text_note octets) ≡ true
text-lacks octets = go (is_text octets) refl
  where
    go : (t : Bool) → is_text octets ≡ t → lacks 10 (if t then quoted octets else []) ≡ true
    go true e = quoted-lacks octets e
    go false e = refl

-- ---- data objects

tag-lacks : (first : ℕ) → lacks 10 (tag_says first) ≡ true
tag-lacks first = either 10 (first / 64 == 0) _ _ refl (either 10 (first / 64 == 1) _ _ refl
    (either 10 (first / 64 == 2) _ _ refl refl))

value-lacks : (p : PartValue) → lacks 10 (value_quoted p) ≡ true
value-lacks p = either 10 (constructed_bit p.tag == 1) _ _ refl (go (is_text p.value) refl)
  where
    go : (t : Bool) → is_text p.value ≡ t → lacks 10 (if t then codes ", " ++ quoted p.value else []) ≡ true
    go true e = quoted-lacks p.value e
    go false e = refl

pub object-lacks : (p : PartValue) → lacks 10 (object_note p) ≡ true
object-lacks p =
    let value : lacks 10 (value_note p) ≡ true =
    more 10 (counted (length p.value)) _ (counted-lacks (length p.value))
    (more 10 (tag_says (slice_index p.tag 0)) _ (tag-lacks (slice_index p.tag 0)) (value-lacks p)) in
    number-then 10 (header_place p) _ low (number-then 10 p.place _ low value)

-- ---- a line with words

kept-all : (words : List ℕ) → list_all (λ x. not (x == 10)) words ≡ true → lacks 10 words ≡ true
kept-all [] h = refl
kept-all (x ∷ words) h =
    let both = both-true (not (x == 10)) (list_all (λ x. not (x == 10)) words) h in
    one-more 10 x words (λ is. grind (arith, nat_tests)) (kept-all words both.1)

pub kept-lacks : (words : List ℕ) → lacks 10 (kept words) ≡ true
kept-lacks words = go (list_all (λ x. not (x == 10)) words) refl
  where
    go : (t : Bool) → list_all (λ x. not (x == 10)) words ≡ t → lacks 10 (if t then words else []) ≡ true
    go true e = kept-all words e
    go false e = refl

-- words come before the line end
pub line-noted : (front words : List ℕ) → noted_line (front ++ (10 ∷ [])) words
    ≡ front ++ (marked (kept words) ++ (10 ∷ []))
line-noted front words =
    let line : List ℕ = front ++ (10 ∷ []) in
    let place : length line - 1 ≡ length front = omega (arith, length-append front (10 ∷ [])) in
    let first : take (length line - 1) line ≡ front =
    ap (λ (k : ℕ). take k line) place ∙ take-append_seam front (10 ∷ []) in
    let last : drop (length line - 1) line ≡ 10 ∷ [] =
    ap (λ (k : ℕ). drop k line) place ∙ drop-append_seam front (10 ∷ []) in
    ap (λ (l : List ℕ). l ++ (marked (kept words) ++ drop (length line - 1) line)) first
    ∙ ap (λ (l : List ℕ). front ++ (marked (kept words) ++ l)) last

-- words that are marked come between a line and its end
pub marked-added : (words : List ℕ) → lacks 10 words ≡ true → IsAdded 10 (marked words)
marked-added [] h = nothing refl
marked-added (x ∷ words) h = note (x ∷ words) refl (passed 10 (x ∷ words) h) refl
