-- Data object lists, octet by octet and entry by entry.
use Rattle.std.proofs.Common.{◌≡◌, ℕ, ◌+◌, ◌%◌, ◌<◌, ◌≤◌, List, [], ◌∷◌, ◌++◌, length, take, get_or, refl, sym, ap, subst, ◌∙◌, inl, inr, arith, append-nil, append_assoc, zero, suc, cond, Bool, true, false, not}
use Rattle.std.proofs.lemmas.Bool.{false≢true}
use Rattle.std.specs.Prelude.{Option, Some, None, MatchOption, IfNone, Result, IfErr}
use Rattle.std.specs.Option.{ok_or}
use Rattle.std.proofs.lemmas.List.{take_all, take_more}
use Rattle.octet_core.specs.Grammar.{IsFirst, Refuses, whole}
use Rattle.octet_core.specs.declared.stop.Stop.TheVariants.{At, Short}
use Rattle.tlv_core.specs.declared.tag_part.TagPart.{TagPart}
use Rattle.tlv_core.specs.declared.tag_part.TagPart.TheVariants as part
use Rattle.tlv_core.specs.declared.reason.DolReason.{DolReason}
use Rattle.tlv_core.specs.declared.reason.DolReason.TheVariants.{TagZero, TagSecond, TagLong}
use Rattle.tlv_core.specs.Tag.{IsTag, IsLong}
use Rattle.tlv_core.specs.TagPart.{part_octets, IsTagPart}
use Rattle.tlv_core.specs.Dol.{AreAllBefore, entry_octets, AreEntries, dol_spelling, IsDol, HasListed, place_after, IsPartAfter, IsWrongEntry, IsDolReason, dol_reasons}
use Rattle.tlv_core.proofs.Entries.{Entry, Stands, part_begun, entries_append, spelling_append, refuses_at, short_entry}

-- ---- the line of the table

-- where an option that is empty shows something of a reason, so does the refusal that is made of it
pub err_of : {X : Type 0} (P : Type 0) (Q : X → Type 0) (F : DolReason → Type 0) (o : Option X) (e : DolReason)
    (r : Result X DolReason) → MatchOption o P Q → (P → F e) → r ≡ ok_or o e → IfErr r F
err_of P Q F None e r h f is = subst (λ s. IfErr s F) (sym is) (f h)
err_of P Q F (Some x) e r h f is = subst (λ s. IfErr s F) (sym is) tt

-- an octet 00 at the beginning of an entry meets that line first
pub line_zero : (h : List ℕ) (x : ℕ) → h ≡ [] → x ≡ 0 → IsFirst dol_reasons (IsWrongEntry h x) TagZero
unfolding IsFirst
line_zero h x e z = inl ((e, z), refl)

-- a second tag octet whose low seven bits are all 0 meets that line first
pub line_second : (a x : ℕ) (h : List ℕ) → h ≡ a ∷ [] → IsLong a → x % 128 ≡ 0
    → IsFirst dol_reasons (IsWrongEntry h x) TagSecond
unfolding IsFirst
line_second a x h e long z = subst (λ (l : List ℕ). IsFirst dol_reasons (IsWrongEntry l x) TagSecond) (sym e)
    (inr (λ w. let bad : a ∷ [] ≡ [] = w.0 in cc, inl ((long, z), refl)))

-- a third tag octet with bit 8 set meets that line first
pub line_third : (a b x : ℕ) (h : List ℕ) → h ≡ a ∷ b ∷ [] → IsLong a → 128 ≤ b → 128 ≤ x
    → IsFirst dol_reasons (IsWrongEntry h x) TagLong
unfolding IsFirst
line_third a b x h e long more z = subst (λ (l : List ℕ). IsFirst dol_reasons (IsWrongEntry l x) TagLong) (sym e)
    (inr (λ w. let bad : a ∷ b ∷ [] ≡ [] = w.0 in cc, inr (λ w. w.0, inl (((long, more), z), refl))))

-- ---- octet by octet

-- these octets are these entries, and then this part of a tag
pub record Listing (b : List ℕ) (entries : List Entry) (p : TagPart) : Type 0 where
  pub each : AreEntries entries
  pub part : IsTagPart p
  pub is : b ≡ dol_spelling entries ++ part_octets p

abbrev stands_of : (b : List ℕ) (entries : List Entry) (p : TagPart) → Listing b entries p → Stands b
stands_of b entries p l = record { done = entries; each = l.each; part = p; ok = l.part; is = l.is }

-- the octet is the length of an entry, which is pushed
pub listing_pushed : (b : List ℕ) (i : ℕ) (old now : List Entry) (tag : List ℕ) (p next : TagPart) → i < length b
    → get_or b i 0 < 256 → Listing (take i b) old p → p ≡ part.Tagged tag → now ≡ old ++ (tag, get_or b i 0) ∷ []
    → IsPartAfter p (get_or b i 0) next → Listing (take (i + 1) b) now next
listing_pushed b i old now tag p next lt small l e is after =
    let t : IsTag tag = subst IsTagPart e l.part in
    let octets : part_octets p ≡ tag = ap part_octets e in
    let nothing : next ≡ part.Nothing = subst (λ (q : TagPart). IsPartAfter q (get_or b i 0) next) e after in
    let entry : Entry = (tag, get_or b i 0) in
    subst (λ (k : List Entry). Listing (take (i + 1) b) k next) (sym is)
    (subst (λ (q : TagPart). Listing (take (i + 1) b) (old ++ entry ∷ []) q) (sym nothing) (record {
      each = entries_append old entry l.each t small;
      part = tt;
      is =
          take_more b i 0 lt ∙ ap (λ (k : List ℕ). k ++ get_or b i 0 ∷ []) l.is
          ∙ append_assoc (dol_spelling old) (part_octets p) (get_or b i 0 ∷ [])
          ∙ ap (λ (k : List ℕ). dol_spelling old ++ (k ++ get_or b i 0 ∷ [])) octets
          ∙ sym (spelling_append old entry) ∙ sym (append-nil (dol_spelling (old ++ entry ∷ [])));
    }))

part_longer : (p : TagPart) (x : ℕ) (next : TagPart) → ((tag : List ℕ) → p ≡ part.Tagged tag → ⊥) → IsPartAfter p x next
    → IsTagPart next × (part_octets next ≡ part_octets p ++ x ∷ [])
part_longer part.Nothing x next more after = after
part_longer (part.First a) x next more after = after
part_longer (part.Second a b) x next more after = after
part_longer (part.Tagged tag) x next more after = absurd (more tag refl)

-- the octet makes the part longer
pub listing_longer : (b : List ℕ) (i : ℕ) (old now : List Entry) (p next : TagPart) → i < length b
    → Listing (take i b) old p → ((tag : List ℕ) → p ≡ part.Tagged tag → ⊥) → now ≡ old
    → IsPartAfter p (get_or b i 0) next → Listing (take (i + 1) b) now next
listing_longer b i old now p next lt l more is after =
    let longer = part_longer p (get_or b i 0) next more after in
    subst (λ (k : List Entry). Listing (take (i + 1) b) k next) (sym is) (record {
      each = l.each;
      part = longer.0;
      is =
          take_more b i 0 lt ∙ ap (λ (k : List ℕ). k ++ get_or b i 0 ∷ []) l.is
          ∙ append_assoc (dol_spelling old) (part_octets p) (get_or b i 0 ∷ [])
          ∙ ap (λ (k : List ℕ). dol_spelling old ++ k) (sym longer.1);
    })

-- the octet is the length of an entry, which is given
pub listed_more : (b : List ℕ) (from i : ℕ) (entries : List Entry) (tag : List ℕ) (p : TagPart) → i < length b
    → get_or b i 0 < 256 → i ≡ from + length (part_octets p) → p ≡ part.Tagged tag → Listing (take i b) entries p
    → HasListed b (place_after from (tag, get_or b i 0)) (entries ++ (tag, get_or b i 0) ∷ [])
listed_more b from i entries tag p lt small place e l =
    let entry : Entry = (tag, get_or b i 0) in
    let more = listing_pushed b i entries (entries ++ entry ∷ []) tag p part.Nothing lt small l e refl
    (subst (λ (q : TagPart). IsPartAfter q (get_or b i 0) part.Nothing) (sym e) refl) in
    let after : i + 1 ≡ place_after from entry = omega (arith, place, ap (λ (q : TagPart). length (part_octets q)) e) in
    record {
      within = omega (arith, lt, after);
      each = more.each;
      is = ap (λ (n : ℕ). take n b) (sym after) ∙ more.is ∙ append-nil (dol_spelling (entries ++ entry ∷ []));
    }

-- an octet is refused at its place, for the first line of the table that it meets
pub listing_refused : (b : List ℕ) (i : ℕ) (entries : List Entry) (p : TagPart) (r : DolReason) → i < length b
    → Listing (take i b) entries p → IsFirst dol_reasons (IsWrongEntry (part_octets p) (get_or b i 0)) r
    → Refuses whole IsDol IsDolReason b (At i r)
listing_refused b i entries p r lt l first = refuses_at i b r lt (stands_of (take i b) entries p l) first

-- the octets before a refusal are the entries and the part
pub before_at : (b : List ℕ) (place : ℕ) (entries : List Entry) (p : TagPart) → Listing (take place b) entries p
    → AreAllBefore b entries place
before_at b place entries p l = (part_octets p, part_begun p l.part, l.is)

-- also at the end
pub before_end : (b : List ℕ) (entries : List Entry) (p : TagPart) → Listing b entries p
    → AreAllBefore b entries (length b)
before_end b entries p l = (part_octets p, part_begun p l.part, take_all (length b) b (omega arith) ∙ l.is)

-- entries with no part of a tag after them are a list
pub listing_whole : (b : List ℕ) (entries : List Entry) (p : TagPart) → Listing b entries p → p ≡ part.Nothing
    → IsDol entries b
listing_whole b entries p l e = record {
  each = l.each;
  is =
      l.is ∙ ap (λ (q : TagPart). dol_spelling entries ++ part_octets q) e ∙ append-nil (dol_spelling entries);
}

not_nil : (p : TagPart) → IsTagPart p → (p ≡ part.Nothing → ⊥) → part_octets p ≡ [] → ⊥
not_nil part.Nothing ok some e = some refl
not_nil (part.First a) ok some e = cc
not_nil (part.Second a b) ok some e = cc
not_nil (part.Tagged tag) ok some e = subst IsTag e ok

-- with a part of a tag after them they are short
pub listing_short : (b : List ℕ) (entries : List Entry) (p : TagPart) → Listing b entries p → (p ≡ part.Nothing → ⊥)
    → Refuses whole IsDol IsDolReason b (Short (length b))
listing_short b entries p l some = short_entry b (stands_of b entries p l) (not_nil p l.part some)

-- ---- entry by entry

-- the first i + 1 entries are the first i and the one at place i
pub more_entries : (es : List Entry) (i : ℕ) (e : Entry) → i < length es → e ≡ get_or es i e
    → take (i + 1) es ≡ take i es ++ e ∷ []
more_entries [] i e lt is = absurd (omega arith)
more_entries (f ∷ es) zero e lt is = ap (λ (x : Entry). x ∷ []) (sym is)
more_entries (f ∷ es) (suc i) e lt is = let next : suc i + 1 ≡ suc (i + 1) =
    omega arith in ap (λ (k : ℕ). take k (f ∷ es)) next
    ∙ ap (λ (l : List Entry). f ∷ l) (more_entries es i e (omega arith) is)

-- with the tag and the length of one entry more, the octets spell one entry more
pub spelled_more : (es : List Entry) (i : ℕ) (e : Entry) (old now : List ℕ) → i < length es → e ≡ get_or es i e
    → old ≡ dol_spelling (take i es) → now ≡ (old ++ e.0) ++ e.1 ∷ [] → now ≡ dol_spelling (take (i + 1) es)
spelled_more es i e old now lt is before q =
    q ∙ append_assoc old e.0 (e.1 ∷ []) ∙ ap (λ (l : List ℕ). l ++ entry_octets e) before
    ∙ sym (spelling_append (take i es) e) ∙ ap dol_spelling (sym (more_entries es i e lt is))

-- with a tag and an octet of length more, there is one entry more
pub each_more : (es : List Entry) (i : ℕ) (e : Entry) → i < length es → e ≡ get_or es i e → AreEntries (take i es)
    → IsTag e.0 → e.1 < 256 → AreEntries (take (i + 1) es)
each_more es i e lt is before tag small =
    subst AreEntries (sym (more_entries es i e lt is)) (entries_append (take i es) e before tag small)

-- a push that didn't fail has added the item
pub pushed : {X : Type 0} (ok failed : Bool) (old now : List X) (x : X) → now ≡ cond ok (old ++ x ∷ []) old
    → ok ≡ not failed → failed ≡ false → now ≡ old ++ x ∷ []
pushed true failed old now x is n f = is
pushed false failed old now x is n f = absurd (false≢true (n ∙ ap not f))

-- what holds where there is none
pub where_none : {A P : Type 0} (o : Option A) → ((x : A) → o ≡ Some x → ⊥) → IfNone o P → P
where_none None none h = h
where_none (Some x) none h = absurd (none x refl)
