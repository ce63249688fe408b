-- That a value or a refusal has notes which are cut off again.
use Rattle.std.proofs.Common.{◌≡◌, ◌∙◌, ◌++◌, ◌-◌, [], ◌∷◌, true, false, List, ℕ, Result, Ok, Err, ap, append-nil, append_assoc, arith, codes, drop, length, length-append, refl, subst, sym, take}
use Rattle.std.proofs.Math.Seq.{drop-append_seam, take-append_seam}
use Rattle.octet_core.specs.declared.stop.Stop.{Stop}
use Rattle.program_octets.proofs.NoSign.{no-sign, refusal-ends, value-lines}
use Rattle.program_octets.specs.Codec.{Codec, IsVerdict, Stops, Takes}
use Rattle.program_octets.specs.Json.{accepted_members, notes_member, object_head, object_line, with_member, with_notes}
use Rattle.program_octets.specs.Places.{places_member}
use Rattle.answer_json.specs.Notes.{with_note}
use Rattle.answer_json.specs.Refusals.{verdict_first}
use Rattle.program_octets.specs.Rows.{Row, lines_of, notes_of, places_of}
use Rattle.program_octets.specs.Texts.{refused_text, stopped}
use Rattle.program_octets.specs.Verdicts.{Shows, ShowsWhere, accepted, codec_of, kind_name, refused, shown_in, status_of}
use Rattle.program_octets.specs.Sayings.{text_of}
use Rattle.program_octets.specs.declared.said.Said.{Said}
use Rattle.program_octets.specs.declared.said.Said.TheVariants as saying
use Rattle.program_octets.specs.declared.status.Status.{Status}
use Rattle.program_octets.specs.declared.status.Status.TheVariants as status
use Rattle.program.specs.Answers.{of_refusal, of_value, ShowsNoted, ShowsNotedObject}
use Rattle.program.specs.Judged.{refusal_notes, refusal_row, IsRefusalBy, IsRefusalLine}
use Rattle.program_words.specs.declared.request.Expected.{Expected}
use Rattle.layouts.specs.declared.layout.Layout.TheVariants.{Json, Lines}
use Rattle.notes.proofs.Cutting.{cut-noted}
use Rattle.notes.proofs.Adding.{end-then, same, same-then}
use Rattle.notes.proofs.Ends.{kept-lacks, line-noted, marked-added}
use Rattle.notes.specs.Noted.{IsNoted, kept, marked, noted_line}

-- ---- the line of a refusal

-- a line with words is its row as a line
row-line : (front line words : List ℕ) → line ≡ front ++ (10 ∷ [])
    → lines_of true (refusal_row line words ∷ []) ≡ noted_line line words
row-line front line words is =
    let place : length line - 1 ≡ length front = omega (arith, ap length is, length-append front (10 ∷ [])) in
    let last : drop (length line - 1) line ≡ 10 ∷ [] =
    ap (λ (k : ℕ). drop k line) place ∙ ap (drop (length front)) is ∙ drop-append_seam front (10 ∷ []) in
    let line_before : List ℕ = take (length line - 1) line in
    append-nil (line_before ++ (marked (kept words) ++ (10 ∷ [])))
    ∙ ap (λ (l : List ℕ). line_before ++ (marked (kept words) ++ l)) (sym last)

words-noted : (front words : List ℕ) → IsNoted (front ++ (10 ∷ [])) (noted_line (front ++ (10 ∷ [])) words)
words-noted front words =
    subst (IsNoted (front ++ (10 ∷ []))) (sym (line-noted front words)) (same-then front (10 ∷ [])
    (marked (kept words) ++ (10 ∷ [])) (end-then (marked (kept words)) [] []
    (marked-added (kept words) (kept-lacks words)) (same []))).is

module _ (expected : Expected) (b text : List ℕ) (ended : Status) where
  -- a value with notes
  of-value : (v : (codec_of expected.kind expected).Value) (n : ℕ)
      → Takes (codec_of expected.kind expected).codec b v n
      → text ≡ lines_of true ((codec_of expected.kind expected).codec.rows v n) → ended ≡ status.Accepted
      → ShowsNoted expected.kind expected b (saying.Text text) ended
  of-value v n h is e =
      let lines : List ℕ = lines_of false ((codec_of expected.kind expected).codec.rows v n) in
      let shown : Shows Lines expected.kind expected b (saying.Text lines) ended = accepted v n h refl e in
      let noted : IsNoted lines text =
      subst (λ (l : List ℕ). IsNoted lines l) (sym is) (value-lines expected.kind expected v n) in
      record {
        text = text;
        is_text = refl;
        words = [];
        has_notes = accepted v n h is e;
        plain = saying.Text lines;
        is_shown = shown;
        is_noted = noted;
        is_cut = cut-noted lines text (no-sign expected.kind expected b (saying.Text lines) ended shown) noted;
        unnoted = λ fault. absurd (let bad : status.Accepted ≡ status.Fault = sym e ∙ fault in cc);
      }

  -- a refusal with words as a note
  of-refusal : (stop : Stop (codec_of expected.kind expected).Reason) (words : List ℕ)
      → Stops (codec_of expected.kind expected).codec b stop
      → text ≡ noted_line (refused_text (codec_of expected.kind expected).codec.name stop) words
      → ended ≡ status.Refused → ShowsNoted expected.kind expected b (saying.Text text) ended
  of-refusal stop words h is e =
      let plain : Said = saying.Refusal (stopped (codec_of expected.kind expected).codec.name stop) in
      let line : List ℕ = refused_text (codec_of expected.kind expected).codec.name stop in
      let shown : Shows Lines expected.kind expected b plain ended = refused stop h refl e in
      let ends = refusal-ends (codec_of expected.kind expected).codec.name stop in
      let noted : IsNoted line text =
      subst (λ (l : List ℕ). IsNoted line l) (sym is) (subst (λ (l : List ℕ). IsNoted l (noted_line l words))
      (sym ends.1) (words-noted ends.0 words)) in
      record {
        text = text;
        is_text = refl;
        words = words;
        has_notes = refused stop h is e;
        plain = plain;
        is_shown = shown;
        is_noted = noted;
        is_cut = cut-noted line text (no-sign expected.kind expected b plain ended shown) noted;
        unnoted = λ fault. absurd (let bad : status.Refused ≡ status.Fault = sym e ∙ fault in cc);
      }

-- an answer whose text is this
noted-as : (expected : Expected) (b text : List ℕ) (said : Said) (ended : Status) → said ≡ saying.Text text
    → ShowsNoted expected.kind expected b (saying.Text text) ended
    → ShowsNoted expected.kind expected b said ended
noted-as expected b text said ended is h = subst (λ (s : Said). ShowsNoted expected.kind expected b s ended) (sym is) h

-- what is told where nothing is refused
pub accepted-noted : (expected : Expected) (b : List ℕ) (said : Said) (ended : Status) → (ended ≡ status.Refused → ⊥)
    → ShowsWhere true Lines expected.kind expected b said ended → ShowsNoted expected.kind expected b said ended
accepted-noted expected b said ended other (accepted v n h is e) =
    let lines : List ℕ = lines_of true ((codec_of expected.kind expected).codec.rows v n) in
    noted-as expected b lines said ended is (of-value expected b lines ended v n h refl e)
accepted-noted expected b said ended other (refused stop h is e) = absurd (other e)

-- a refusal to whose line words are added
pub refused-noted : (expected : Expected) (b : List ℕ) (plain : Said) (lent text words : List ℕ) (ended : Status)
    → ended ≡ status.Refused → ShowsWhere true Lines expected.kind expected b plain ended → lent ≡ text_of plain
    → text ≡ noted_line lent words → ShowsNoted expected.kind expected b (saying.Text text) status.Refused
refused-noted expected b plain lent text words ended over (accepted v n h is e) lends adds =
    absurd (let bad : status.Accepted ≡ status.Refused = sym e ∙ over in cc)
refused-noted expected b plain lent text words ended over (refused stop h is e) lends adds =
    of-refusal expected b text status.Refused stop words h
    (adds ∙ ap (λ (l : List ℕ). noted_line l words) (lends ∙ ap text_of is)) refl

-- what is told without notes is told with them too
pub some-noted : (expected : Expected) (b : List ℕ) (said : Said) (ended : Status)
    → Shows Lines expected.kind expected b said ended → (t : Said) × ShowsNoted expected.kind expected b t ended
some-noted expected b said ended (accepted v n h is e) =
    let noted : List ℕ = lines_of true ((codec_of expected.kind expected).codec.rows v n) in
    (saying.Text noted, of-value expected b noted ended v n h refl e)
some-noted expected b said ended (refused stop h is e) =
    let noted : List ℕ = noted_line (refused_text (codec_of expected.kind expected).codec.name stop) [] in
    (saying.Text noted, of-refusal expected b noted ended stop [] h refl e)

-- ---- as an object

-- a member comes before the end of an object
member-last : (front member : List ℕ) → with_member (front ++ codes "}\n") member ≡ front ++ (member ++ codes "}\n")
member-last front member =
    let place : length (front ++ codes "}\n") - 2 ≡ length front = omega (arith, length-append front (codes "}\n")) in
    ap (λ (l : List ℕ). l ++ (member ++ codes "}\n"))
    (ap (λ (k : ℕ). take k (front ++ codes "}\n")) place ∙ take-append_seam front (codes "}\n"))

-- the object of a value with notes is the one without, with a member more
value-member : (about count members places items : List ℕ)
    → object_line about (count ++ (members ++ (places ++ notes_member items)))
    ≡ with_notes (object_line about (count ++ (members ++ places))) items
value-member about count members places items =
    let front : List ℕ = object_head about ++ (count ++ (members ++ places)) in
    let whole : object_line about (count ++ (members ++ places)) ≡ front ++ codes "}\n" =
    simp append_assoc refl in
    let parts : object_line about (count ++ (members ++ (places ++ notes_member items)))
    ≡ front ++ (notes_member items ++ codes "}\n") =
    simp append_assoc refl in
    parts ∙ sym (member-last front (notes_member items))
    ∙ ap (λ (object : List ℕ). with_member object (notes_member items)) (sym whole)

module _ (expected : Expected) (b : List ℕ) (said : Said) (ended : Status) where
  -- a value with notes
  object-of-value : (v : (codec_of expected.kind expected).Value) (n : ℕ)
      → Takes (codec_of expected.kind expected).codec b v n
      → said ≡ saying.Object (shown_in true Json expected.kind (codec_of expected.kind expected).codec v n)
      → ended ≡ status.Accepted → ShowsNotedObject expected.kind expected b said ended
  object-of-value v n h is e =
      let c = (codec_of expected.kind expected).codec in
      let rows : List Row = c.rows v n in
      record {
        object = shown_in false Json expected.kind c v n;
        is_shown = accepted v n h refl e;
        rows = rows;
        are_rows = of_value v n h refl e;
        has_notes = of-value expected b (lines_of true rows) ended v n h refl e;
        is_said = is ∙ ap saying.Object (value-member (kind_name expected.kind) (accepted_members n) (c.members v)
            (places_member (places_of rows)) (notes_of rows));
      }

  -- a refusal with words as a note on its line
  object-of-refusal : (object line words : List ℕ) → Shows Json expected.kind expected b (saying.Object object) ended
      → IsRefusalLine expected.kind expected b words line → ended ≡ status.Refused
      → said ≡ saying.Object (with_notes object (refusal_notes line words))
      → ShowsNotedObject expected.kind expected b said ended
  object-of-refusal object line words shown refusal e is =
      let text : List ℕ = refused_text (codec_of expected.kind expected).codec.name refusal.0 in
      let rows : List Row = refusal_row text words ∷ [] in
      let ends = refusal-ends (codec_of expected.kind expected).codec.name refusal.0 in
      record {
        object = object;
        is_shown = shown;
        rows = rows;
        are_rows = of_refusal refusal.0 words refusal.1 refl e;
        has_notes = of-refusal expected b (lines_of true rows) ended refusal.0 words refusal.1
            (row-line ends.0 text words ends.1) e;
        is_said = is ∙ ap (λ (notes : List ℕ). saying.Object (with_notes object notes)) refusal.2;
      }

-- the object of a refusal, in which it is said
abbrev refusal-object : (expected : Expected) → Stop (codec_of expected.kind expected).Reason → List ℕ
refusal-object expected stop = object_line (kind_name expected.kind)
    (verdict_first (stopped (codec_of expected.kind expected).codec.name stop))

-- a refusal as an object is the same with notes and without
refusal-plain : (expected : Expected) (b : List ℕ) (said : Said) (ended : Status) → ended ≡ status.Refused
    → ShowsWhere true Json expected.kind expected b said ended
    → Shows Json expected.kind expected b (saying.Object (text_of said)) ended
refusal-plain expected b said ended over (accepted v n h is e) =
    absurd (let bad : status.Accepted ≡ status.Refused = sym e ∙ over in cc)
refusal-plain expected b said ended over (refused stop h is e) =
    refused stop h (ap (λ (s : Said). saying.Object (text_of s)) is) e

-- what is told as an object where nothing is refused
pub accepted-object : (expected : Expected) (b : List ℕ) (said : Said) (ended : Status) → (ended ≡ status.Refused → ⊥)
    → ShowsWhere true Json expected.kind expected b said ended
    → ShowsNotedObject expected.kind expected b said ended
accepted-object expected b said ended other (accepted v n h is e) = object-of-value expected b said ended v n h is e
accepted-object expected b said ended other (refused stop h is e) = absurd (other e)

-- a refusal to whose object the notes are added
pub refused-object : (expected : Expected) (b : List ℕ) (shown : Said) (object line lent text words : List ℕ)
    (ended : Status) → ended ≡ status.Refused → ShowsWhere true Json expected.kind expected b shown ended
    → IsRefusalLine expected.kind expected b words line → object ≡ text_of shown
    → lent ≡ refusal_notes line words → text ≡ with_notes object lent
    → ShowsNotedObject expected.kind expected b (saying.Object text) status.Refused
refused-object expected b shown object line lent text words ended over shows refusal same lends is =
    object-of-refusal expected b (saying.Object text) status.Refused object line words
    (rw same (subst (λ (e : Status). Shows Json expected.kind expected b (saying.Object (text_of shown)) e) over
    (refusal-plain expected b shown ended over shows)))
    refusal refl (ap saying.Object (is ∙ ap (with_notes object) lends))

-- what is told as an object without notes is told with them too
pub some-object : (expected : Expected) (b : List ℕ) (said : Said) (ended : Status)
    → Shows Json expected.kind expected b said ended → (t : Said)
    × ShowsNotedObject expected.kind expected b t ended
some-object expected b said ended (accepted v n h is e) =
    let object : Said =
    saying.Object (shown_in true Json expected.kind (codec_of expected.kind expected).codec v n) in
    (object, object-of-value expected b object ended v n h refl e)
some-object expected b said ended (refused stop h is e) =
    let line : List ℕ = refused_text (codec_of expected.kind expected).codec.name stop in
    let plain : List ℕ = refusal-object expected stop in
    let object : Said = saying.Object (with_notes plain (refusal_notes line [])) in
    (object, object-of-refusal expected b object ended plain line [] (refused stop h refl e) (stop, h, refl) e refl)

-- the line of a refusal by the verdict of which an answer is one
pub refusal-by : {V R : Type 0} (c : Codec V R) (b words line : List ℕ) (verdict : Result ℕ (Stop R)) (ended : Status)
    (name : R → List ℕ) → c.name ≡ name → IsVerdict c b verdict → ended ≡ status_of verdict → ended ≡ status.Refused
    → ((stop : Stop R) → verdict ≡ Err stop
    → refusal_notes line words ≡ refusal_notes (refused_text name stop) words) → IsRefusalBy c b words line
refusal-by {V} {R} c b words line (Ok n) ended name named verdict is over says =
    absurd (let bad : status.Accepted ≡ status.Refused = sym is ∙ over in cc)
refusal-by {V} {R} c b words line (Err stop) ended name named verdict is over says = (
  stop,
  verdict,
  says stop refl ∙ ap (λ (n : R → List ℕ). refusal_notes (refused_text n stop) words) (sym named),
)

-- words that are no note leave the notes of any line empty
pub unnoted : (line other words : List ℕ) → kept words ≡ [] → refusal_notes line words ≡ refusal_notes other words
unnoted line other words none =
    ap (λ (note : List ℕ). with_note [] (take (length line - 1) line) note) none
    ∙ sym (ap (λ (note : List ℕ). with_note [] (take (length other - 1) other) note) none)
