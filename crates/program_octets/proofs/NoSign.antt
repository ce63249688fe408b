-- That no line of a value or of a refusal has a number sign, and no note of a value a line end.
use Rattle.std.proofs.Common.{◌≡◌, ◌≢◌, ◌==◌, ◌<◌, ◌+◌, ◌-◌, ◌/◌, ◌%◌, ◌++◌, ℕ, zero, suc, List, [], ◌∷◌, Bool, true, false, if◌then◌else◌, Option, Some, None, Result, Ok, Err, append_assoc, codes, length, slice_index, refl, arith}
use Rattle.std.specs.List.{All, repeat}
use Rattle.std.specs.Fmt.{decimal}
use Rattle.hex.specs.Hex.{encode_upper, encode_with, upper_digits}
use Rattle.octet_core.specs.declared.stop.Stop.{Stop}
use Rattle.octet_core.specs.declared.stop.Stop.TheVariants.{Short, At}
use Rattle.atr_core.specs.Atr.{AtrParts, announcing, goes_on, tck_of}
use Rattle.atr_core.specs.Rates.{rates_of}
use Rattle.atr_core.specs.T1.{T1Values, t1_params_of}
use Rattle.atr_core.specs.declared.atr.Convention.{Convention}
use Rattle.atr_core.specs.declared.atr.Convention.TheVariants.{Direct, Inverse}
use Rattle.atr_core.specs.declared.atr.Indicated.{Indicated}
use Rattle.atr_core.specs.declared.atr.Interface.{Interface}
use Rattle.atr_core.specs.declared.params.ParamFault.{ParamFault}
use Rattle.atr_core.specs.declared.params.ParamFault.TheVariants as param
use Rattle.atr_core.specs.declared.reason.AtrReason.{AtrReason}
use Rattle.atr_core.specs.declared.reason.AtrReason.TheVariants as atr
use Rattle.block_core.specs.Block.{Parts, front_of, number_bit, fault_code, pcb_octet}
use Rattle.block_core.specs.declared.pcb.Pcb.{Pcb}
use Rattle.block_core.specs.declared.pcb.Pcb.TheVariants.{Info, Ready, Request, Response}
use Rattle.block_core.specs.declared.pcb.S.{S}
use Rattle.block_core.specs.declared.pcb.S.TheVariants as about
use Rattle.block_core.specs.declared.reason.BlockReason.{BlockReason}
use Rattle.block_core.specs.declared.reason.BlockReason.TheVariants as block
use Rattle.octet_core.specs.Octets.{xor_of}
use Rattle.chain_core.specs.Chain.{message_of}
use Rattle.chain_core.specs.declared.reason.ChainReason.{ChainReason}
use Rattle.chain_core.specs.declared.reason.ChainReason.TheVariants as chain
use Rattle.apdu_core.specs.Command.{CommandParts, le_of, part_of, shape_of}
use Rattle.apdu_core.specs.Response.{ResponseParts}
use Rattle.apdu_core.specs.Status.{class_of}
use Rattle.apdu_core.specs.declared.command.Shape.{Shape}
use Rattle.apdu_core.specs.declared.command.Shape.TheVariants as shape
use Rattle.apdu_core.specs.declared.reason.CommandReason.{CommandReason}
use Rattle.apdu_core.specs.declared.reason.CommandReason.TheVariants as command
use Rattle.apdu_core.specs.declared.reason.ResponseReason.{ResponseReason}
use Rattle.apdu_core.specs.declared.reason.ResponseReason.TheVariants as response
use Rattle.apdu_core.specs.declared.status.StatusClass.{StatusClass}
use Rattle.apdu_core.specs.declared.status.StatusClass.TheVariants as status
use Rattle.tlv_core.specs.Flat.{PartValue, parts_of}
use Rattle.tlv_core.specs.Tag.{constructed_bit, length_field}
use Rattle.tlv_core.specs.Dol.{place_after}
use Rattle.tlv_core.specs.Tree.{Tree}
use Rattle.tlv_core.specs.declared.reason.TlvReason.{TlvReason}
use Rattle.tlv_core.specs.declared.reason.TlvReason.TheVariants as tlv
use Rattle.tlv_core.specs.declared.reason.DolReason.{DolReason}
use Rattle.tlv_core.specs.declared.reason.DolReason.TheVariants as dol
use Rattle.notes.proofs.Adding.{HasNotes, end-then, in-row, same, same-then}
use Rattle.notes.proofs.Cutting.{cut-noted}
use Rattle.notes.proofs.Ends as ends
use Rattle.notes.proofs.Lacking as lacking
use Rattle.notes.specs.Noted.{IsNoted, marked, without_notes}
use Rattle.notes.specs.Says.{note_of, ta_says, td_says}
use Rattle.program_octets.specs.AtrTexts as atr_texts
use Rattle.program_octets.specs.AtrTexts.{after_byte, after_bytes, atr_codec, atr_rows, byte_rows, bytes_rows, convention_text, interface_rows, meaning_rows, rate_or, t1_text, ta_rows, tail_rows, tck_text, td_rows, tds_rows, value_row}
use Rattle.program_octets.specs.BlockTexts as block_texts
use Rattle.program_octets.specs.BlockTexts.{block_codec, block_rows, more_number, pcb_text, supervisory_text}
use Rattle.program_octets.specs.ChainTexts as chain_texts
use Rattle.program_octets.specs.ChainTexts.{chain_codec, chain_rows}
use Rattle.program_octets.specs.Codec.{Codec}
use Rattle.program_octets.specs.CommandTexts as command_texts
use Rattle.program_octets.specs.CommandTexts.{command_codec, command_rows, le_or, shape_text}
use Rattle.program_octets.specs.ForestTexts as forest_texts
use Rattle.program_octets.specs.ForestTexts.{forest_codec, forest_rows, object_rows, part_row, value_text}
use Rattle.program_octets.specs.ListTexts as list_texts
use Rattle.program_octets.specs.ListTexts.{dol_rows, entry_rows, list_codec}
use Rattle.program_octets.specs.ResponseTexts as response_texts
use Rattle.program_octets.specs.ResponseTexts.{name_of, response_codec, response_rows}
use Rattle.program_octets.specs.Sayings.{text_of}
use Rattle.program_octets.specs.Texts.{octets_text, refused_text}
use Rattle.program_octets.specs.declared.said.Said.{Said}
use Rattle.program_octets.specs.Rows.{Row, line_text, lines_of}
use Rattle.program_octets.specs.Verdicts.{Shows, Tells, accepted, codec_of, refused}
use Rattle.program_octets.specs.declared.status.Status.{Status}
use Rattle.program_words.specs.declared.request.Expected.{Expected}
use Rattle.layouts.specs.declared.layout.Layout.TheVariants.{Lines}
use Rattle.program_words.specs.declared.request.Kind.{Kind}
use Rattle.program_words.specs.declared.request.Kind.TheVariants as kind

-- ---- texts

-- whether no octet is a number sign
abbrev lacks : List ℕ → Bool
lacks text = lacking.lacks 35 text

low : 35 < 48
low = omega arith

one-more : (x : ℕ) (text : List ℕ) → x ≢ 35 → lacks text ≡ true → lacks (x ∷ text) ≡ true
one-more x text other h = lacking.one-more 35 x text other h

more : (a b : List ℕ) → lacks a ≡ true → lacks b ≡ true → lacks (a ++ b) ≡ true
more a b h g = lacking.more 35 a b h g

either : (t : Bool) (a b : List ℕ) → lacks a ≡ true → lacks b ≡ true → lacks (if t then a else b) ≡ true
either t a b h g = lacking.either 35 t a b h g

index-other : (text : List ℕ) (k : ℕ) → lacks text ≡ true → slice_index text k ≢ 35
index-other [] zero h e = omega (arith, e)
index-other [] (suc k) h e = omega (arith, e)
index-other (x ∷ text) zero h e = (lacking.first-and-rest 35 x (lacks text) (x == 35) refl h).0 e
index-other (x ∷ text) (suc k) h e = index-other text k (lacking.first-and-rest 35 x (lacks text) (x == 35) refl h).1 e

hex-lacks : (b : List ℕ) → lacks (encode_upper b) ≡ true
unfolding encode_with
hex-lacks [] = refl
hex-lacks (x ∷ b) =
    one-more (slice_index upper_digits (x / 16)) (slice_index upper_digits (x % 16) ∷ encode_upper b)
    (index-other upper_digits (x / 16) refl)
    (one-more (slice_index upper_digits (x % 16)) (encode_upper b) (index-other upper_digits (x % 16) refl)
    (hex-lacks b))

decimal-lacks : (n : ℕ) → lacks (decimal n) ≡ true
decimal-lacks n = lacking.decimal-lacks 35 n low

octets-lack : (b : List ℕ) → lacks (octets_text b) ≡ true
octets-lack [] = refl
octets-lack (x ∷ b) = hex-lacks (x ∷ b)

-- a number, and octets, with a text after them
number-then : (n : ℕ) (b : List ℕ) → lacks b ≡ true → lacks (decimal n ++ b) ≡ true
number-then n b h = lacking.number-then 35 n b low h

hex-then : (octets b : List ℕ) → lacks b ≡ true → lacks (encode_upper octets ++ b) ≡ true
hex-then octets b h = more (encode_upper octets) b (hex-lacks octets) h

octets-then : (octets b : List ℕ) → lacks b ≡ true → lacks (octets_text octets ++ b) ≡ true
octets-then octets b h = more (octets_text octets) b (octets-lack octets) h

-- ---- rows

-- the line has no number sign, and the note has no line end
record IsRow (r : Row) : Type 0 where
  pub line : lacks r.line ≡ true
  pub note : lacking.lacks 10 r.note ≡ true

abbrev AreRows : List Row → Type 0
AreRows [] = Unit {0}
AreRows (r ∷ rows) = IsRow r × AreRows rows

both : (rows others : List Row) → AreRows rows → AreRows others → AreRows (rows ++ others)
both [] others h g = g
both (r ∷ rows) others h g = (h.0, both rows others h.1 g)

lines-lack : (rows : List Row) → AreRows rows → lacks (lines_of false rows) ≡ true
lines-lack [] h = refl
lines-lack (r ∷ rows) h = more (line_text r.line []) (lines_of false rows) (more r.line _ h.0.line refl)
    (lines-lack rows h.1)

-- the lines with notes are those without, with a note before some line ends
lines-noted : (rows : List Row) → AreRows rows → HasNotes (lines_of false rows) (lines_of true rows)
lines-noted [] h = same []
lines-noted (r ∷ rows) h =
    in-row (line_text r.line []) (lines_of false rows) (line_text r.line r.note) (lines_of true rows)
    (same-then r.line (10 ∷ []) (marked r.note ++ (10 ∷ []))
    (end-then (marked r.note) [] [] (ends.marked-added r.note h.0.note) (same []))) (lines-noted rows h.1)

-- ---- answers to reset

value-is : (name : List ℕ) (number byte : ℕ) (note : List ℕ) (at : ℕ) → lacks name ≡ true
    → lacking.lacks 10 note ≡ true → IsRow (value_row name number byte note at)
value-is name number byte note at h g = record {
  line = more name _ h (number-then number _ (hex-lacks (byte ∷ [])));
  note = g;
}

byte-is : (name : List ℕ) (number : ℕ) (byte : Option ℕ) (at : ℕ) → lacks name ≡ true
    → AreRows (byte_rows name number byte at)
byte-is name number None at h = tt
byte-is name number (Some byte) at h = (value-is name number byte [] at h refl, tt)

ta-is : (number : ℕ) (ta : Option ℕ) (at : ℕ) → AreRows (ta_rows number ta at)
ta-is number None at = tt
ta-is number (Some ta) at = (
  value-is (codes "TA") number ta (note_of (ta_says number ta)) at refl
      (ends.ta-lacks number ta),
  tt,
)

bytes-are : (number : ℕ) (bytes : Interface) (at : ℕ) → AreRows (bytes_rows number bytes at)
bytes-are number bytes at =
    both (ta_rows number bytes.ta at) _ (ta-is number bytes.ta at)
    (both (byte_rows (codes "TB") number bytes.tb (after_byte bytes.ta at)) _
    (byte-is (codes "TB") number bytes.tb (after_byte bytes.ta at) refl)
    (byte-is (codes "TC") number bytes.tc (after_byte bytes.tb (after_byte bytes.ta at)) refl))

tds-are : (number : ℕ) (xs : List Indicated) (at : ℕ) → AreRows (tds_rows number xs at)
tds-are number [] at = tt
tds-are number (x ∷ xs) at =
    let octet : ℕ = announcing x.bytes (goes_on xs) x.protocol in
    both (td_rows number x.bytes octet at) (tds_rows (number + 1) xs (after_bytes x.bytes (at + 1))) (
      value-is (codes "TD") number octet (note_of (td_says (octet % 16))) at refl (ends.td-lacks (octet % 16)),
      bytes-are (number + 1) x.bytes (at + 1),
    ) (tds-are (number + 1) xs (after_bytes x.bytes (at + 1)))

convention-lacks : (convention : Convention) → lacks (convention_text convention) ≡ true
convention-lacks Direct = refl
convention-lacks Inverse = refl

tck-lacks : (tck : Option ℕ) → lacks (tck_text tck) ≡ true
tck-lacks None = refl
tck-lacks (Some tck) = hex-lacks (tck ∷ [])

rate-lacks : (rate : Option ℕ) → lacks (rate_or (codes "reserved") rate) ≡ true
rate-lacks None = refl
rate-lacks (Some rate) = decimal-lacks rate

t1-lacks : (params : Result T1Values ParamFault) → lacks (t1_text params) ≡ true
t1-lacks (Ok values) = number-then values.ifsc _ (number-then values.bwi _ (decimal-lacks values.cwi))
t1-lacks (Err param.NoT1) = refl
t1-lacks (Err param.ReservedIfsc) = refl
t1-lacks (Err param.Crc) = refl

meaning-are : (a : AtrParts) (n : ℕ) → AreRows (meaning_rows a n)
meaning-are a n = (
  record { line = rate-lacks (rates_of a).0; note = refl },
  (
    record { line = rate-lacks (rates_of a).1; note = refl },
    (record { line = t1-lacks (t1_params_of a); note = ends.t1-lacks (t1_params_of a) a.indicated }, tt),
  ),
)

tail-are : (a : AtrParts) (n : ℕ) → AreRows (tail_rows a n)
tail-are a n = (
  record { line = octets-lack a.historical; note = ends.text-lacks a.historical },
  (record { line = tck-lacks (tck_of a); note = ends.tck-lacks (tck_of a) }, meaning-are a n),
)

atr-are : (a : AtrParts) (n : ℕ) → AreRows (atr_rows a n)
atr-are a n = (
  record { line = convention-lacks a.convention; note = refl },
  both (interface_rows a) (tail_rows a n)
      (both (bytes_rows 1 a.first 2) (tds_rows 1 a.indicated (after_bytes a.first 2)) (bytes-are 1 a.first 2)
      (tds-are 1 a.indicated (after_bytes a.first 2))) (tail-are a n),
)

atr-reason : (reason : AtrReason) → lacks (atr_texts.reason_text reason) ≡ true
atr-reason atr.BadTs = refl
atr-reason atr.TooLong = refl
atr-reason atr.BadTck = refl

-- ---- blocks and chains

about-lacks : (about : S) → lacks (supervisory_text about) ≡ true
about-lacks about.Resynch = refl
about-lacks about.Ifs = refl
about-lacks about.Abort = refl
about-lacks about.Wtx = refl

pcb-lacks : (pcb : Pcb) → lacks (pcb_text pcb) ≡ true
pcb-lacks (Info number more) = number-then (number_bit number 1) _ (decimal-lacks (more_number more))
pcb-lacks (Ready number fault) = number-then (number_bit number 1) _ (decimal-lacks (fault_code fault))
pcb-lacks (Request said) = about-lacks said
pcb-lacks (Response said) = about-lacks said

block-are : (v : Parts) (n : ℕ) → AreRows (block_rows v n)
block-are v n = (
  record { line = hex-lacks (v.nad ∷ []); note = ends.nad-lacks v.nad },
  (
    record { line = pcb-lacks v.pcb; note = ends.pcb-lacks (pcb_octet v.pcb) (slice_index v.inf 0) },
    (
      record { line = octets-lack v.inf; note = ends.count-lacks (length v.inf) },
      (record { line = hex-lacks (xor_of (front_of v) ∷ []); note = ends.lrc-lacks }, tt),
    ),
  ),
)

block-reason : (reason : BlockReason) → lacks (block_texts.reason_text reason) ≡ true
block-reason block.BadPcb = refl
block-reason block.BadLen = refl
block-reason block.OverIfs = refl
block-reason block.BadIfs = refl
block-reason block.BadLrc = refl

chain-are : (fields : List (List ℕ)) (n : ℕ) → AreRows (chain_rows fields n)
chain-are fields n = (
  record { line = decimal-lacks (length fields); note = refl },
  (record { line = octets-lack (message_of fields); note = ends.count-lacks (length (message_of fields)) }, tt),
)

chain-reason : (reason : ChainReason) → lacks (chain_texts.reason_text reason) ≡ true
chain-reason chain.BadNad = refl
chain-reason chain.BadPcb = refl
chain-reason chain.NotInfo = refl
chain-reason chain.BadSequence = refl
chain-reason chain.TooManyBlocks = refl
chain-reason chain.BadLen = refl
chain-reason chain.OverIfs = refl
chain-reason chain.TooLong = refl
chain-reason chain.BadLrc = refl

-- ---- commands and responses

shape-lacks : (s : Shape) → lacks (shape_text s) ≡ true
shape-lacks shape.Empty = refl
shape-lacks shape.ShortLe = refl
shape-lacks shape.ShortPart = refl
shape-lacks shape.ShortBoth = refl
shape-lacks shape.LongLe = refl
shape-lacks shape.LongPart = refl
shape-lacks shape.LongBoth = refl

le-lacks : (le : Option ℕ) → lacks (le_or (codes "none") le) ≡ true
le-lacks None = refl
le-lacks (Some le) = decimal-lacks le

command-are : (c : CommandParts) (n : ℕ) → AreRows (command_rows c n)
command-are c n =
    let header = ends.header-lacks (slice_index c.header 0) (slice_index c.header 1) in (
      record { line = shape-lacks (shape_of c.body); note = refl },
      (
        record { line = hex-lacks c.header; note = header },
        (
          record { line = octets-lack (part_of c.body); note = ends.part-lacks (length (part_of c.body)) },
          (record { line = le-lacks (le_of c.body); note = ends.le-lacks (le_of c.body) }, tt),
        ),
      ),
    )

command-reason : (reason : CommandReason) → lacks (command_texts.reason_text reason) ≡ true
command-reason command.Trailing = refl

class-lacks : (class : StatusClass) → lacks (name_of class) ≡ true
class-lacks status.Normal = refl
class-lacks status.Warning = refl
class-lacks status.Execution = refl
class-lacks status.Checking = refl
class-lacks status.Proprietary = refl
class-lacks status.Invalid = refl

response-are : (r : ResponseParts) (n : ℕ) → AreRows (response_rows r n)
response-are r n =
    let line = hex-then (r.sw1 ∷ r.sw2 ∷ []) _ (class-lacks (class_of r.sw1 r.sw2)) in (
      record { line = octets-lack r.part; note = refl },
      (record { line = line; note = ends.status-lacks r.sw1 r.sw2 }, tt),
    )

response-reason : (reason : ResponseReason) → lacks (response_texts.reason_text reason) ≡ true
response-reason response.TooLong = refl

-- ---- data objects and lists of them

indent-lacks : (n : ℕ) → lacks (repeat n (codes "  ")) ≡ true
indent-lacks zero = refl
indent-lacks (suc n) = indent-lacks n

value-lacks : (p : PartValue) → lacks (value_text p) ≡ true
value-lacks p =
    either (constructed_bit p.tag == 1) (codes "constructed") (octets_text p.value) refl (octets-lack p.value)

part-is : (p : PartValue) → IsRow (part_row p)
part-is p = record {
  line = more (repeat (p.depth - 1) (codes "  ")) _ (indent-lacks (p.depth - 1))
      (hex-then p.tag _ (hex-then (length_field p.form (length p.value)) _ (value-lacks p)));
  note = ends.object-lacks p;
}

objects-are : (parts : List PartValue) → AreRows (object_rows parts)
objects-are [] = tt
objects-are (p ∷ parts) = (part-is p, objects-are parts)

forest-are : (t : Tree) (n : ℕ) → AreRows (forest_rows t n)
forest-are t n =
    (record { line = decimal-lacks (length (parts_of 1 0 t)); note = refl }, objects-are (parts_of 1 0 t))

tlv-reason : (reason : TlvReason) → lacks (forest_texts.reason_text reason) ≡ true
tlv-reason tlv.TooDeep = refl
tlv-reason tlv.TagSecond = refl
tlv-reason tlv.TagLong = refl
tlv-reason tlv.LengthForm = refl
tlv-reason tlv.Overrun = refl
tlv-reason tlv.TooLong = refl

entries-are : (at : ℕ) (entries : List (List ℕ × ℕ)) → AreRows (entry_rows at entries)
entries-are at [] = tt
entries-are at (e ∷ entries) =
    (record { line = hex-then e.0 _ (decimal-lacks e.1); note = refl }, entries-are (place_after at e) entries)

dol-are : (entries : List (List ℕ × ℕ)) (n : ℕ) → AreRows (dol_rows entries n)
dol-are entries n =
    (record { line = decimal-lacks (length entries); note = ends.list-lacks entries }, entries-are 0 entries)

dol-reason : (reason : DolReason) → lacks (list_texts.reason_text reason) ≡ true
dol-reason dol.TagZero = refl
dol-reason dol.TagSecond = refl
dol-reason dol.TagLong = refl

-- ---- what is shown

refused-lacks : {R : Type 0} (name : R → List ℕ) (stop : Stop R) → ((reason : R) → lacks (name reason) ≡ true)
    → lacks (refused_text name stop) ≡ true
refused-lacks name (Short place) h = number-then place _ refl
refused-lacks name (At place reason) h = number-then place _ (more (name reason) _ (h reason) refl)

told-lacks : {V R : Type 0} (c : Codec V R) → ((v : V) (n : ℕ) → AreRows (c.rows v n))
    → ((reason : R) → lacks (c.name reason) ≡ true) → (b : List ℕ) (text : Said) (ended : Status)
    → Tells c (λ v n. lines_of false (c.rows v n)) b text ended → lacks (text_of text) ≡ true
told-lacks c rows names b text ended (accepted v n h is e) = rw is (lines-lack (c.rows v n) (rows v n))
told-lacks c rows names b text ended (refused stop h is e) = rw is (refused-lacks c.name stop names)

shown-lacks : (k : Kind) (expected : Expected) (b : List ℕ) (text : Said) (ended : Status)
    → Shows Lines k expected b text ended → lacks (text_of text) ≡ true
shown-lacks kind.Atr expected b text ended h = told-lacks atr_codec atr-are atr-reason b text ended h
shown-lacks kind.Block expected b text ended h = told-lacks (block_codec expected.ifs) block-are block-reason b text
    ended h
shown-lacks kind.Chain expected b text ended h = told-lacks (chain_codec expected.ifs expected.number) chain-are
    chain-reason b text ended h
shown-lacks kind.Command expected b text ended h = told-lacks command_codec command-are command-reason b text ended h
shown-lacks kind.Response expected b text ended h = told-lacks response_codec response-are response-reason b text
    ended h
shown-lacks kind.Tlv expected b text ended h = told-lacks forest_codec forest-are tlv-reason b text ended h
shown-lacks kind.Dol expected b text ended h = told-lacks list_codec dol-are dol-reason b text ended h

-- no octet of the lines of `show` is a number sign
pub no-sign : (k : Kind) (expected : Expected) (b : List ℕ) (text : Said) (ended : Status)
    → Shows Lines k expected b text ended → All (λ x. x ≢ 35) (text_of text)
no-sign k expected b text ended h = lacking.passed 35 (text_of text) (shown-lacks k expected b text ended h)

-- ---- notes

value-are : (k : Kind) (expected : Expected) (v : (codec_of k expected).Value) (n : ℕ)
    → AreRows ((codec_of k expected).codec.rows v n)
value-are kind.Atr expected v n = atr-are v n
value-are kind.Block expected v n = block-are v n
value-are kind.Chain expected v n = chain-are v n
value-are kind.Command expected v n = command-are v n
value-are kind.Response expected v n = response-are v n
value-are kind.Tlv expected v n = forest-are v n
value-are kind.Dol expected v n = dol-are v n

-- the lines of a value with notes are those without, with notes
pub value-lines : (k : Kind) (expected : Expected) (v : (codec_of k expected).Value) (n : ℕ)
    → IsNoted (lines_of false ((codec_of k expected).codec.rows v n))
    (lines_of true ((codec_of k expected).codec.rows v n))
value-lines k expected v n = (lines-noted ((codec_of k expected).codec.rows v n) (value-are k expected v n)).is

-- and cut at the notes they are those without
pub value-cut : (k : Kind) (expected : Expected) (v : (codec_of k expected).Value) (n : ℕ)
    → without_notes (lines_of true ((codec_of k expected).codec.rows v n))
    ≡ lines_of false ((codec_of k expected).codec.rows v n)
value-cut k expected v n =
    let rows : List Row = (codec_of k expected).codec.rows v n in
    cut-noted (lines_of false rows) (lines_of true rows)
    (lacking.passed 35 (lines_of false rows) (lines-lack rows (value-are k expected v n)))
    (value-lines k expected v n)

-- the line of a refusal ends in a line end
pub refusal-ends : {R : Type 0} (name : R → List ℕ) (stop : Stop R)
    → (front : List ℕ) × (refused_text name stop ≡ front ++ (10 ∷ []))
refusal-ends name (Short place) = (codes "short at " ++ decimal place, simp append_assoc refl)
refusal-ends name (At place reason) =
    (codes "refused at " ++ (decimal place ++ (codes ": " ++ name reason)), simp append_assoc refl)
