-- Every input is a data object list or is refused.
use Rattle.std.proofs.Common.{◌≡◌, ◌≢◌, ℕ, ◌+◌, ◌%◌, ◌<◌, List, [], ◌∷◌, ◌++◌, length, get_or, take, refl, sym, ap, subst, ◌∙◌, inl, inr, ◌⊎◌, arith, rules, append-nil, append_assoc, length-append}
use Rattle.std.proofs.lemmas.Bool.{cases_lt, cases_eq}
use Rattle.std.proofs.lemmas.List.{take_more, take_all}
use Rattle.octet_core.specs.Octets.{AreOctets}
use Rattle.octet_core.specs.Grammar.{whole, Begins, IsFirst, Refuses}
use Rattle.tlv_core.specs.Tag.{IsTag}
use Rattle.tlv_core.specs.TagPart.{part_octets, IsTagPart}
use Rattle.tlv_core.specs.declared.tag_part.TagPart.{TagPart}
use Rattle.tlv_core.specs.declared.tag_part.TagPart.TheVariants.{Nothing, First, Second, Tagged}
use Rattle.tlv_core.specs.Dol.{entry_octets, AreEntries, dol_spelling, IsDol, IsBegunEntry, IsWrongEntry, MeetsEntry, IsDolReason, DolVerdict, dol_reasons}
use Rattle.tlv_core.specs.declared.form.Form.TheVariants.{One}
use Rattle.tlv_core.specs.declared.reason.DolReason.{DolReason}
use Rattle.tlv_core.specs.declared.reason.DolReason.TheVariants.{TagZero, TagSecond, TagLong}
use Rattle.octet_core.specs.declared.stop.Stop.TheVariants.{At, Short}
use Rattle.octet_core.proofs.Firsts.{first_once, first_holds, first_dec, some_first}
use Rattle.octet_core.proofs.Told.{at-most, Dec, and2}
use Rattle.octet_core.proofs.Verdicts.{Scan, whole-refused, whole_verdict}
use Rattle.tlv_core.proofs.One.{head_of, tail_of, tag_one, header_not_zero, header_not_nil}
use Rattle.tlv_core.proofs.Refused.{second_header, third_header}
use Rattle.tlv_core.proofs.Verdict.{nil_dec, second_dec, third_dec, last_of}

-- a tag and a length
abbrev pub Entry : Type 0
Entry = List ℕ × ℕ

-- ---- one value

regroup_entry : (e : Entry) (a : List ℕ) → entry_octets e ++ a ≡ e.0 ++ e.1 ∷ a
regroup_entry e a = append_assoc e.0 (e.1 ∷ []) a

entry_one : (e f : Entry) (a b : List ℕ) → IsTag e.0 → IsTag f.0 → entry_octets e ++ a ≡ entry_octets f ++ b → (e ≡ f)
    × (a ≡ b)
entry_one e f a b h g q =
    let tags = tag_one e.0 f.0 (e.1 ∷ a) (f.1 ∷ b) h g (sym (regroup_entry e a) ∙ q ∙ regroup_entry f b) in
    let tag : e.0 ≡ f.0 = tags.0 in
    let len : e.1 ≡ f.1 = head_of tags.1 in
    (ap (λ (t : List ℕ). (t, e.1)) tag ∙ ap (λ (n : ℕ). (f.0, n)) len, tail_of tags.1)

begun_not_entry : (h : List ℕ) (g : IsBegunEntry h) (e : Entry) (rest : List ℕ) → IsTag e.0 → h ≡ entry_octets e ++ rest
    → ⊥
begun_not_entry h g e rest tag q =
    let one = entry_one e g.entry (rest ++ g.next ∷ g.more) [] tag g.is_tag
    (sym (append_assoc (entry_octets e) rest (g.next ∷ g.more)) ∙ ap (λ (l : List ℕ). l ++ g.next ∷ g.more) (sym q)
    ∙ g.is ∙ sym (append-nil (entry_octets g.entry))) in
    omega (arith, ap length one.1, length-append rest (g.next ∷ g.more))

same_entries : (es fs : List Entry) (h k : List ℕ) → AreEntries es → AreEntries fs → IsBegunEntry h → IsBegunEntry k
    → dol_spelling es ++ h ≡ dol_spelling fs ++ k → (es ≡ fs) × (h ≡ k)
same_entries [] [] h k ae af bh bk q = (refl, q)
same_entries [] (f ∷ fs) h k ae af bh bk q =
    absurd (begun_not_entry h bh f (dol_spelling fs ++ k) af.0 (q ∙ append_assoc (entry_octets f) (dol_spelling fs) k))
same_entries (e ∷ es) [] h k ae af bh bk q =
    absurd (begun_not_entry k bk e (dol_spelling es ++ h) ae.0
    (sym q ∙ append_assoc (entry_octets e) (dol_spelling es) h))
same_entries (e ∷ es) (f ∷ fs) h k ae af bh bk q =
    let one = entry_one e f (dol_spelling es ++ h) (dol_spelling fs ++ k) ae.0 af.0
    (sym (append_assoc (entry_octets e) (dol_spelling es) h) ∙ q
    ∙ append_assoc (entry_octets f) (dol_spelling fs) k) in
    let r = same_entries es fs h k ae.2 af.2 bh bk one.1 in
    let first : e ≡ f = one.0 in
    let rest : es ≡ fs = r.0 in
    (ap (λ (x : Entry). x ∷ es) first ∙ ap (λ (l : List Entry). f ∷ l) rest, r.1)

begun_nil : IsBegunEntry []
begun_nil = record { entry = (0x5A ∷ [], 0); next = 0x5A; more = 0 ∷ []; is_tag = search rules; is = refl }

-- no octets spell two lists
pub one_dol : (es fs : List Entry) (b : List ℕ) → IsDol es b → IsDol fs b → es ≡ fs
one_dol es fs b h g = (same_entries es fs [] [] h.each g.each begun_nil begun_nil
    (append-nil (dol_spelling es) ∙ sym h.is ∙ g.is ∙ sym (append-nil (dol_spelling fs)))).0

-- ---- refusals

abbrev lines : List DolReason
lines = dol_reasons

-- what is left of a list after one that its octets begin with
skip : (es fs : List Entry) (rest : List ℕ) → AreEntries es → AreEntries fs → dol_spelling fs ≡ dol_spelling es ++ rest
    → (left : List Entry) × AreEntries left × (dol_spelling left ≡ rest)
skip [] fs rest ae af q = (fs, af, q)
skip (e ∷ es) [] rest ae af q = absurd (header_not_nil e.0 One e.1 (dol_spelling es ++ rest) ae.0
    (sym (append_assoc (entry_octets e) (dol_spelling es) rest) ∙ sym q))
skip (e ∷ es) (f ∷ fs) rest ae af q =
    let one = entry_one f e (dol_spelling fs) (dol_spelling es ++ rest) af.0 ae.0
    (q ∙ append_assoc (entry_octets e) (dol_spelling es) rest) in
    skip es fs rest ae.2 af.2 one.1

wrong_entry : (es : List Entry) (h more : List ℕ) (x : ℕ) (r : DolReason) → AreEntries es → dol_spelling es ≡ h
    ++ x ∷ more → IsWrongEntry h x r → ⊥
wrong_entry [] [] more x r a q w = cc
wrong_entry [] (y ∷ h) more x r a q w = cc
wrong_entry (e ∷ es) h more x TagZero a q w =
    header_not_zero e.0 One e.1 (dol_spelling es) more a.0
    (q ∙ ap (λ (l : List ℕ). l ++ x ∷ more) w.0 ∙ ap (λ (y : ℕ). y ∷ more) w.1)
wrong_entry (e ∷ es) [] more x TagSecond a q w = w.0
wrong_entry (e ∷ es) (y ∷ []) more x TagSecond a q w =
    second_header e.0 One e.1 y x (dol_spelling es) more a.0 w.0 w.1 (sym q)
wrong_entry (e ∷ es) (y ∷ z ∷ h) more x TagSecond a q w = w.0
wrong_entry (e ∷ es) [] more x TagLong a q w = w.0
wrong_entry (e ∷ es) (y ∷ []) more x TagLong a q w = w.0
wrong_entry (e ∷ es) (y ∷ z ∷ []) more x TagLong a q w =
    third_header e.0 One e.1 y z x (dol_spelling es) more a.0 w.0.0 w.0.1 w.1 (sym q)
wrong_entry (e ∷ es) (y ∷ z ∷ v ∷ h) more x TagLong a q w = w.0

regroup_end : (a h : List ℕ) (x : ℕ) (c : List ℕ) → (a ++ (h ++ x ∷ [])) ++ c ≡ a ++ (h ++ x ∷ c)
regroup_end a h x c = simp append_assoc

-- no list goes on after an octet that meets a reason
pub refused_entry : (b : List ℕ) (r : DolReason) → MeetsEntry b r → Begins IsDol b → ⊥
refused_entry b r m h =
    let e = m.0 in
    let is : dol_spelling h.0 ≡ dol_spelling e.done ++ (e.header ++ e.octet ∷ h.1) =
    sym h.2.is ∙ ap (λ (l : List ℕ). l ++ h.1) e.is ∙ regroup_end (dol_spelling e.done) e.header e.octet h.1 in
    let left = skip e.done h.0 (e.header ++ e.octet ∷ h.1) e.each h.2.each is in
    wrong_entry left.0 e.header h.1 e.octet r left.1 left.2 m.1

-- a refusal has one reason
pub one_entry_reason : (r s : DolReason) (b : List ℕ) → IsDolReason r b → IsDolReason s b → r ≡ s
one_entry_reason r s b h g =
    let e = h.0 in
    let f = g.0 in
    let ends = last_of (dol_spelling e.done ++ e.header) (dol_spelling f.done ++ f.header) e.octet f.octet
    (append_assoc (dol_spelling e.done) e.header (e.octet ∷ []) ∙ sym e.is ∙ f.is
    ∙ sym (append_assoc (dol_spelling f.done) f.header (f.octet ∷ []))) in
    let headers : f.header ≡ e.header = sym
    (same_entries e.done f.done e.header f.header e.each f.each e.begun f.begun ends.0).1 in
    let octets : f.octet ≡ e.octet = sym ends.1 in
    first_once lines (IsWrongEntry e.header e.octet) r s h.1
    (subst (λ (k : List ℕ). IsFirst lines (IsWrongEntry k e.octet) s) headers
    (subst (λ (x : ℕ). IsFirst lines (IsWrongEntry f.header x) s) octets g.1))

-- ---- some verdict

-- a part of a tag is a part of an entry
pub part_begun : (p : TagPart) → IsTagPart p → IsBegunEntry (part_octets p)
part_begun Nothing h = begun_nil
part_begun (First x) h = record {
  entry = (x ∷ 1 ∷ [], 0);
  next = 1;
  more = 0 ∷ [];
  is_tag =
      (h.0, h.1, omega arith, omega arith);
  is = refl;
}
part_begun (Second x y) h = record {
  entry = (x ∷ y ∷ 0 ∷ [], 0);
  next = 0;
  more = 0 ∷ [];
  is_tag =
      (h.0, h.1, h.2, h.3, omega arith);
  is = refl;
}
part_begun (Tagged tag) h = record { entry = (tag, 0); next = 0; more = []; is_tag = h; is = refl }

-- the octets b are whole entries, and then a part of a tag
pub record Stands (b : List ℕ) : Type 0 where
  pub done : List Entry
  pub each : AreEntries done
  pub part : TagPart
  pub ok : IsTagPart part
  pub is : b ≡ dol_spelling done ++ part_octets part

-- entries and one more, of a tag and an octet of length, are entries
pub entries_append : (es : List Entry) (e : Entry) → AreEntries es → IsTag e.0 → e.1 < 256 → AreEntries (es ++ e ∷ [])
entries_append [] e h tag lt = (tag, lt, tt)
entries_append (f ∷ es) e h tag lt = (h.0, h.1, entries_append es e h.2 tag lt)

-- the octets of the last entry come after those of the others
pub spelling_append : (es : List Entry) (e : Entry) → dol_spelling (es ++ e ∷ []) ≡ dol_spelling es ++ entry_octets e
spelling_append [] e = append-nil (entry_octets e)
spelling_append (f ∷ es) e = ap (λ (l : List ℕ). entry_octets f ++ l) (spelling_append es e)
    ∙ sym (append_assoc (entry_octets f) (dol_spelling es) (entry_octets e))

begins_with : (b : List ℕ) (done : List Entry) (e : Entry) (h more : List ℕ) → AreEntries done → IsTag e.0 → e.1 < 256
    → b ≡ dol_spelling done ++ h → h ++ more ≡ entry_octets e → Begins IsDol b
begins_with b done e h more each tag lt is q = (
  done ++ e ∷ [],
  more,
  record {
    each = entries_append done e each tag lt;
    is =
        ap (λ (l : List ℕ). l ++ more) is ∙ append_assoc (dol_spelling done) h more
        ∙ ap (λ (l : List ℕ). dol_spelling done ++ l) q ∙ sym (spelling_append done e);
  },
)

-- a list begins with whole entries and a part of a tag
pub begins_of : (p : TagPart) (b : List ℕ) (done : List Entry) → AreEntries done → IsTagPart p → b ≡ dol_spelling done
    ++ part_octets p → Begins IsDol b
begins_of Nothing b done each ok is = (
  done,
  [],
  record { each = each; is = append-nil b ∙ is ∙ append-nil (dol_spelling done) },
)
begins_of (First x) b done each ok is = begins_with b done (x ∷ 1 ∷ [], 0) (x ∷ []) (1 ∷ 0 ∷ []) each
    (ok.0, ok.1, omega arith, omega arith) (omega arith) is refl
begins_of (Second x y) b done each ok is =
    begins_with b done (x ∷ y ∷ 0 ∷ [], 0) (x ∷ y ∷ []) (0 ∷ 0 ∷ []) each (ok.0, ok.1, ok.2, ok.3, omega arith)
    (omega arith) is refl
begins_of (Tagged tag) b done each ok is = begins_with b done (tag, 0) tag (0 ∷ []) each ok (omega arith) is refl

-- so a list begins with octets that are such
pub stands_begins : (b : List ℕ) → Stands b → Begins IsDol b
stands_begins b s = begins_of s.part b s.done s.each s.ok s.is

goes_on : (b : List ℕ) (x : ℕ) (done : List Entry) (p q : TagPart) → AreEntries done → b ≡ dol_spelling done
    ++ part_octets p → IsTagPart q → part_octets q ≡ part_octets p ++ x ∷ [] → Stands (b ++ x ∷ [])
goes_on b x done p q each is ok octets = record {
  done = done;
  each = each;
  part = q;
  ok = ok;
  is =
      ap (λ (l : List ℕ). l ++ x ∷ []) is ∙ append_assoc (dol_spelling done) (part_octets p) (x ∷ [])
      ∙ ap (λ (l : List ℕ). dol_spelling done ++ l) (sym octets);
}

step : (p : TagPart) (b : List ℕ) (x : ℕ) (done : List Entry) → AreEntries done → IsTagPart p → b ≡ dol_spelling done
    ++ part_octets p → x < 256 → ((r : DolReason) → IsWrongEntry (part_octets p) x r → ⊥) → Stands (b ++ x ∷ [])
step Nothing b x done each ok is lt none =
    elim (cases_eq x 0) [
      | inl z ↦ absurd (none TagZero (refl, z))
      | inr nz ↦ elim (cases_eq (x % 32) 31) [
        | inl long ↦ goes_on b x done Nothing (First x) each is (lt, long) refl
        | inr short ↦ goes_on b x done Nothing (Tagged (x ∷ [])) each is (omega arith, lt, short) refl
      ]
    ]
step (First a) b x done each ok is lt none =
    let ne : x % 128 ≢ 0 = λ z. none TagSecond (ok.1, z) in
    elim (cases_lt x 128) [
      | inl last ↦ goes_on b x done (First a) (Tagged (a ∷ x ∷ [])) each is (ok.0, ok.1, omega arith, last) refl
      | inr more ↦ goes_on b x done (First a) (Second a x) each is (ok.0, ok.1, omega arith, lt) refl
    ]
step (Second a c) b x done each ok is lt none =
    elim (cases_lt x 128) [
      | inl last ↦ goes_on b x done (Second a c) (Tagged (a ∷ c ∷ x ∷ [])) each is (ok.0, ok.1, ok.2, ok.3, last) refl
      | inr more ↦ absurd (none TagLong ((ok.1, omega arith), more))
    ]
step (Tagged tag) b x done each ok is lt none =
    record {
      done = done ++ (tag, x) ∷ [];
      each = entries_append done (tag, x) each ok lt;
      part = Nothing;
      ok = tt;
      is = ap (λ (l : List ℕ). l ++ x ∷ []) is ∙ append_assoc (dol_spelling done) tag (x ∷ [])
          ∙ sym (spelling_append done (tag, x)) ∙ sym (append-nil (dol_spelling (done ++ (tag, x) ∷ [])));
    }

line_dec : (h : List ℕ) (x : ℕ) (r : DolReason) → Dec (IsWrongEntry h x r)
line_dec h x TagZero = and2 (nil_dec h) (cases_eq x 0)
line_dec h x TagSecond = and2 (second_dec h) (cases_eq (x % 128) 0)
line_dec h x TagLong = and2 (third_dec h) (at-most 128 x)

is_line : (r : DolReason) → IsFirst lines (λ s. s ≡ r) r
unfolding IsFirst
is_line TagZero = inl (refl, refl)
is_line TagSecond = inr (λ e. cc, inl (refl, refl))
is_line TagLong = inr (λ e. cc, inr (λ e. cc, inl (refl, refl)))

reason_at : (n : ℕ) (b : List ℕ) (r : DolReason) → n < length b → (s : Stands (take n b))
    → IsFirst lines (IsWrongEntry (part_octets s.part) (get_or b n 0)) r → IsDolReason r (take (n + 1) b)
reason_at n b r lt s first =
    let more : take (n + 1) b ≡ dol_spelling s.done ++ (part_octets s.part ++ get_or b n 0 ∷ []) =
    take_more b n 0 lt ∙ ap (λ (l : List ℕ). l ++ get_or b n 0 ∷ []) s.is
    ∙ append_assoc (dol_spelling s.done) (part_octets s.part) (get_or b n 0 ∷ []) in (
      record {
        done = s.done;
        each = s.each;
        header = part_octets s.part;
        begun = part_begun s.part s.ok;
        octet =
            get_or b n 0;
        is = more;
      },
      first,
    )

-- no list goes on after octets that have a reason
stops : (r : DolReason) (c : List ℕ) → IsDolReason r c → Begins IsDol c → ⊥
stops r c reason = refused_entry c r (
  reason.0,
  first_holds lines (IsWrongEntry reason.0.header reason.0.octet) r reason.1,
)

-- an octet that meets a reason is refused
pub refuses_at : (n : ℕ) (b : List ℕ) (r : DolReason) → n < length b → (s : Stands (take n b))
    → IsFirst lines (IsWrongEntry (part_octets s.part) (get_or b n 0)) r → Refuses whole IsDol IsDolReason b (At n r)
refuses_at n b r lt s first =
    let reason = reason_at n b r lt s first in
    whole-refused IsDol IsDolReason b n r lt (stands_begins (take n b) s) reason (stops r (take (n + 1) b) reason)

-- one octet more: a list goes on from it, or it meets a reason
stands_more : (b : List ℕ) → AreOctets b → (n : ℕ) → n < length b → Stands (take n b)
    → Stands (take (n + 1) b) ⊎ ((r : DolReason) × IsDolReason r (take (n + 1) b))
stands_more b octets n lt s =
    let x = get_or b n 0 in
    elim (first_dec lines (IsWrongEntry (part_octets s.part) x) (line_dec (part_octets s.part) x)) [
      | inl first ↦ inr (first.0, reason_at n b first.0 lt s first.1)
      | inr none ↦
          let on : Stands (take n b ++ x ∷ []) =
          step s.part (take n b) x s.done s.each s.ok s.is (octets n)
          (λ r w. some_first lines (IsWrongEntry (part_octets s.part) x) (line_dec (part_octets s.part) x) r
          (is_line r) none w) in
          inl (subst Stands (sym (take_more b n 0 lt)) on)
    ]

-- octets that end within an entry are no list
not_within : (b : List ℕ) (s : Stands b) → (part_octets s.part ≡ [] → ⊥) → (v : List Entry) → IsDol v b → ⊥
not_within b s under v a =
    under (sym (same_entries v s.done [] (part_octets s.part) a.each s.each begun_nil (part_begun s.part s.ok)
    (append-nil (dol_spelling v) ∙ sym a.is ∙ s.is)).1)

at_end : (b : List ℕ) → Stands b → ((v : List Entry) × IsDol v b) ⊎ ((v : List Entry) → IsDol v b → ⊥)
at_end b s =
    elim (nil_dec (part_octets s.part)) [
      | inl e ↦ inl (
        s.done,
        record {
          each = s.each;
          is = s.is ∙ ap (λ (l : List ℕ). dol_spelling s.done ++ l) e ∙ append-nil (dol_spelling s.done);
        },
      )
      | inr ne ↦ inr (not_within b s ne)
    ]

dol-scan : (b : List ℕ) → AreOctets b → Scan IsDol IsDolReason b (λ n. Stands (take n b))
dol-scan b octets = record {
  one_value = λ v w p q. one_dol v w b p q;
  one_reason = one_entry_reason;
  stops = stops;
  nothing = record { done = []; each = tt; part = Nothing; ok = tt; is = refl };
  next = stands_more b octets;
  begun = λ n le s. stands_begins (take n b) s;
  told = λ s. at_end b (subst Stands (take_all (length b) b (omega arith)) s);
}

-- every input is a data object list or is refused, in one way
pub dol_verdict : (b : List ℕ) → AreOctets b → DolVerdict b
dol_verdict b octets = whole_verdict IsDol IsDolReason b (λ n. Stands (take n b)) (dol-scan b octets)

-- a list whose octets end within an entry is short
pub short_entry : (b : List ℕ) (s : Stands b) → (part_octets s.part ≡ [] → ⊥)
    → Refuses whole IsDol IsDolReason b (Short (length b))
short_entry b s under =
    record {
      none = λ v n a. not_within b s under v a.1;
      end = refl;
      begun = stands_begins b s;
    }
