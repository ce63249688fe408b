-- How many more octets a data object list needs at least.
use Rattle.std.proofs.Common.{◌≡◌, ℕ, ◌<◌, ◌≤◌, List, [], ◌∷◌, ◌++◌, length, refl, sym, ap, subst, ◌∙◌, arith, false}
use Rattle.std.proofs.lemmas.List.{append-nil, append_assoc}
use Rattle.std.proofs.lemmas.Bool.Decides.{nat_tests}
use Rattle.octet_core.specs.Grammar.{Begins}
use Rattle.octet_core.proofs.Lists.{head_is, tail_is}
use Rattle.tlv_core.specs.Tag.{IsTag, IsLong, is_tag}
use Rattle.tlv_core.specs.Dol.{AreEntries, IsDol, dol_spelling, entry_octets}
use Rattle.tlv_core.proofs.TagTests.{tag-tests}
use Rattle.shortfall.specs.Least.{IsLeast}
use Rattle.shortfall.specs.List.{list_least}

-- a tag and a length
abbrev Entry : Type 0
Entry = List ℕ × ℕ

-- no list that begins with b has fewer more octets than it needs, and some list has as many
record Listed (b more : List ℕ) : Type 0 where
  fewer : list_least b ≤ length more
  entries : List Entry
  rest : List ℕ
  count : length rest ≡ list_least b
  each : AreEntries entries
  is : b ++ rest ≡ dol_spelling entries

-- ---- what is under way

first-of-more : (x : ℕ) → IsLong x → is_tag (x ∷ []) ≡ false
first-of-more x h = grind (arith, nat_tests)

second-of-more : (x y : ℕ) → 128 < y → is_tag (x ∷ y ∷ []) ≡ false
second-of-more x y h = grind (arith, nat_tests)

whole_one : (x : ℕ) → IsTag (x ∷ []) → list_least (x ∷ []) ≡ 1
whole_one x t = rw (tag-tests (x ∷ []) t) refl

whole_two : (x y : ℕ) → IsTag (x ∷ y ∷ []) → list_least (x ∷ y ∷ []) ≡ 1
whole_two x y t = rw (first-of-more x t.1) (rw (tag-tests (x ∷ y ∷ []) t) refl)

whole_three : (x y z : ℕ) → IsTag (x ∷ y ∷ z ∷ []) → list_least (x ∷ y ∷ z ∷ []) ≡ 1
whole_three x y z t =
    rw (first-of-more x t.1) (rw (second-of-more x y t.2) (rw (tag-tests (x ∷ y ∷ z ∷ []) t) refl))

part_one : (x : ℕ) → IsLong x → list_least (x ∷ []) ≡ 2
part_one x long = rw (first-of-more x long) refl

part_two : (x y : ℕ) → IsLong x → 128 < y → list_least (x ∷ y ∷ []) ≡ 2
part_two x y long more = rw (first-of-more x long) (rw (second-of-more x y more) refl)

after_one : (x n : ℕ) (b : List ℕ) → IsTag (x ∷ []) → list_least (x ∷ n ∷ b) ≡ list_least b
after_one x n b t = rw (tag-tests (x ∷ []) t) refl

after_two : (x y n : ℕ) (b : List ℕ) → IsTag (x ∷ y ∷ []) → list_least (x ∷ y ∷ n ∷ b) ≡ list_least b
after_two x y n b t = rw (first-of-more x t.1) (rw (tag-tests (x ∷ y ∷ []) t) refl)

after_three : (x y z n : ℕ) (b : List ℕ) → IsTag (x ∷ y ∷ z ∷ []) → list_least (x ∷ y ∷ z ∷ n ∷ b) ≡ list_least b
after_three x y z n b t =
    rw (first-of-more x t.1) (rw (second-of-more x y t.2) (rw (tag-tests (x ∷ y ∷ z ∷ []) t) refl))

-- ---- what is missing then

nothing : (more : List ℕ) → Listed [] more
nothing more = record { fewer = omega arith; entries = []; rest = []; count = refl; each = tt; is = refl }

-- the length, after a whole tag
tagged : (tag more : List ℕ) → IsTag tag → list_least tag ≡ 1 → 1 ≤ length more → Listed tag more
tagged tag more t one some = record {
  fewer = omega (arith, one, some);
  entries = (tag, 0) ∷ [];
  rest = 0 ∷ [];
  count = sym one;
  each = (t, omega arith, tt);
  is = sym (append-nil (tag ++ 0 ∷ []));
}

-- another octet and the length, after a first octet that others follow
half : (x : ℕ) (more : List ℕ) → x < 256 → IsLong x → 2 ≤ length more → Listed (x ∷ []) more
half x more lt long some = record {
  fewer = omega (arith, part_one x long, some);
  entries = (x ∷ 1 ∷ [], 0) ∷ [];
  rest = 1 ∷ 0 ∷ [];
  count = sym (part_one x long);
  each = ((lt, long, omega arith, omega arith), omega arith, tt);
  is = refl;
}

-- the same after two octets that a third follows
halves : (x y : ℕ) (more : List ℕ) → x < 256 → IsLong x → 128 < y → y < 256 → 2 ≤ length more
    → Listed (x ∷ y ∷ []) more
halves x y more lt long big small some = record {
  fewer = omega (arith, part_two x y long big, some);
  entries = (x ∷ y ∷ 0 ∷ [], 0) ∷ [];
  rest = 0 ∷ 0 ∷ [];
  count = sym (part_two x y long big);
  each = ((lt, long, big, small, omega arith), omega arith, tt);
  is = refl;
}

-- what is missing after a whole entry is missing after the octets that follow it
after : (e : Entry) (b more : List ℕ) → IsTag e.0 → e.1 < 256 → list_least (entry_octets e ++ b) ≡ list_least b
    → Listed b more → Listed (entry_octets e ++ b) more
after e b more t lt same l = record {
  fewer = omega (arith, same, l.fewer);
  entries = e ∷ l.entries;
  rest = l.rest;
  count = l.count ∙ sym same;
  each = (t, lt, l.each);
  is = append_assoc (entry_octets e) b l.rest ∙ ap (λ (k : List ℕ). entry_octets e ++ k) l.is;
}

-- ---- entry by entry

by-tag : (tag : List ℕ) (n : ℕ) (left : List ℕ) (x : ℕ) (b more : List ℕ) → IsTag tag → n < 256
    → ((c : List ℕ) → c ++ more ≡ left → Listed c more) → (x ∷ b) ++ more ≡ (tag ++ n ∷ []) ++ left
    → Listed (x ∷ b) more
by-tag [] n left x b more t lt go e = absurd t
by-tag (p ∷ []) n left x [] more t lt go e =
    let first : p ≡ x = sym (head_is x p more (n ∷ left) e) in
    subst (λ (k : ℕ). Listed (k ∷ []) more) first
    (tagged (p ∷ []) more t (whole_one p t) (omega (arith, ap length e)))
by-tag (p ∷ []) n left x (m ∷ b) more t lt go e =
    let first : p ≡ x = sym (head_is x p ((m ∷ b) ++ more) (n ∷ left) e) in
    let e1 = tail_is x p ((m ∷ b) ++ more) (n ∷ left) e in
    let len : n ≡ m = sym (head_is m n (b ++ more) left e1) in
    subst (λ (l : List ℕ). Listed l more) (λ i. first i ∷ len i ∷ b)
    (after (p ∷ [], n) b more t lt (after_one p n b t) (go b (tail_is m n (b ++ more) left e1)))
by-tag (p ∷ q ∷ []) n left x [] more t lt go e =
    let first : p ≡ x = sym (head_is x p more (q ∷ n ∷ left) e) in
    subst (λ (k : ℕ). Listed (k ∷ []) more) first (half p more t.0 t.1 (omega (arith, ap length e)))
by-tag (p ∷ q ∷ []) n left x (y ∷ []) more t lt go e =
    let first : p ≡ x = sym (head_is x p (y ∷ more) (q ∷ n ∷ left) e) in
    let e1 = tail_is x p (y ∷ more) (q ∷ n ∷ left) e in
    let second : q ≡ y = sym (head_is y q more (n ∷ left) e1) in
    subst (λ (l : List ℕ). Listed l more) (λ i. first i ∷ second i ∷ [])
    (tagged (p ∷ q ∷ []) more t (whole_two p q t) (omega (arith, ap length e)))
by-tag (p ∷ q ∷ []) n left x (y ∷ m ∷ b) more t lt go e =
    let first : p ≡ x = sym (head_is x p ((y ∷ m ∷ b) ++ more) (q ∷ n ∷ left) e) in
    let e1 = tail_is x p ((y ∷ m ∷ b) ++ more) (q ∷ n ∷ left) e in
    let second : q ≡ y = sym (head_is y q ((m ∷ b) ++ more) (n ∷ left) e1) in
    let e2 = tail_is y q ((m ∷ b) ++ more) (n ∷ left) e1 in
    let len : n ≡ m = sym (head_is m n (b ++ more) left e2) in
    subst (λ (l : List ℕ). Listed l more) (λ i. first i ∷ second i ∷ len i ∷ b)
    (after (p ∷ q ∷ [], n) b more t lt (after_two p q n b t) (go b (tail_is m n (b ++ more) left e2)))
by-tag (p ∷ q ∷ r ∷ []) n left x [] more t lt go e =
    let first : p ≡ x = sym (head_is x p more (q ∷ r ∷ n ∷ left) e) in
    subst (λ (k : ℕ). Listed (k ∷ []) more) first (half p more t.0 t.1 (omega (arith, ap length e)))
by-tag (p ∷ q ∷ r ∷ []) n left x (y ∷ []) more t lt go e =
    let first : p ≡ x = sym (head_is x p (y ∷ more) (q ∷ r ∷ n ∷ left) e) in
    let e1 = tail_is x p (y ∷ more) (q ∷ r ∷ n ∷ left) e in
    let second : q ≡ y = sym (head_is y q more (r ∷ n ∷ left) e1) in
    subst (λ (l : List ℕ). Listed l more) (λ i. first i ∷ second i ∷ [])
    (halves p q more t.0 t.1 t.2 t.3 (omega (arith, ap length e)))
by-tag (p ∷ q ∷ r ∷ []) n left x (y ∷ z ∷ []) more t lt go e =
    let first : p ≡ x = sym (head_is x p (y ∷ z ∷ more) (q ∷ r ∷ n ∷ left) e) in
    let e1 = tail_is x p (y ∷ z ∷ more) (q ∷ r ∷ n ∷ left) e in
    let second : q ≡ y = sym (head_is y q (z ∷ more) (r ∷ n ∷ left) e1) in
    let e2 = tail_is y q (z ∷ more) (r ∷ n ∷ left) e1 in
    let third : r ≡ z = sym (head_is z r more (n ∷ left) e2) in
    subst (λ (l : List ℕ). Listed l more) (λ i. first i ∷ second i ∷ third i ∷ [])
    (tagged (p ∷ q ∷ r ∷ []) more t (whole_three p q r t) (omega (arith, ap length e)))
by-tag (p ∷ q ∷ r ∷ []) n left x (y ∷ z ∷ m ∷ b) more t lt go e =
    let first : p ≡ x = sym (head_is x p ((y ∷ z ∷ m ∷ b) ++ more) (q ∷ r ∷ n ∷ left) e) in
    let e1 = tail_is x p ((y ∷ z ∷ m ∷ b) ++ more) (q ∷ r ∷ n ∷ left) e in
    let second : q ≡ y = sym (head_is y q ((z ∷ m ∷ b) ++ more) (r ∷ n ∷ left) e1) in
    let e2 = tail_is y q ((z ∷ m ∷ b) ++ more) (r ∷ n ∷ left) e1 in
    let third : r ≡ z = sym (head_is z r ((m ∷ b) ++ more) (n ∷ left) e2) in
    let e3 = tail_is z r ((m ∷ b) ++ more) (n ∷ left) e2 in
    let len : n ≡ m = sym (head_is m n (b ++ more) left e3) in
    subst (λ (l : List ℕ). Listed l more) (λ i. first i ∷ second i ∷ third i ∷ len i ∷ b)
    (after (p ∷ q ∷ r ∷ [], n) b more t lt (after_three p q r n b t) (go b (tail_is m n (b ++ more) left e3)))
by-tag (p ∷ q ∷ r ∷ s ∷ tag) n left x b more t lt go e = absurd t

listed : (v : List Entry) (b more : List ℕ) → AreEntries v → b ++ more ≡ dol_spelling v → Listed b more
listed v [] more each e = nothing more
listed [] (x ∷ b) more each e = absurd (omega (arith, ap length e))
listed (entry ∷ v) (x ∷ b) more each e =
    by-tag entry.0 entry.1 (dol_spelling v) x b more each.0 each.1 (λ c is. listed v c more each.2 is) e

pub list_is_least : (b : List ℕ) → Begins IsDol b → IsLeast IsDol b (list_least b)
list_is_least b h =
    let l = listed h.0 b h.1 h.2.each h.2.is in
    record {
      fewer = λ v more g. (listed v b more g.each g.is).fewer;
      enough = (l.entries, l.rest, l.count, record { each = l.each; is = l.is });
    }
