-- What is kept of a tidy form under way, in a buffer.
use Rattle.std.proofs.Common.{◌≡◌, ℕ, ◌+◌, ◌^◌, ◌<◌, ◌≤◌, List, [], ◌∷◌, ◌++◌, length, drop, refl, sym, ap, subst, ◌∙◌, inl, inr, arith, append-nil, append_assoc, length-append, length-drop, cond, Bool, take, map, ◌-◌, Result, Ok, Err, IfOk, IfErr}
use borrow.Author.Tests.{lt-ltb, le-ltb}
use Rattle.std.proofs.lemmas.Bool.{cases_lt}
use Rattle.std.proofs.lemmas.List.{length-take, take-take, take_at, drop_at, drop-drop, map-append}
use Rattle.std.proofs.Math.Seq.{drop-append-add}
use Rattle.octet_core.specs.Grammar.{whole, Refuses}
use Rattle.octet_core.specs.declared.stop.Stop.{Stop}
use Rattle.octet_core.specs.declared.stop.Stop.TheVariants.{Short, At}
use Rattle.tlv_core.specs.Tag.{length_field}
use Rattle.tlv_core.specs.Form.{shortest}
use Rattle.tlv_core.specs.Tree.{Tree}
use Rattle.tlv_core.specs.Forest.{spelling, deepest, IsForest}
use Rattle.tlv_core.specs.Parts.{Placed}
use Rattle.tlv_core.specs.Reasons.{IsReason}
use Rattle.tlv_core.specs.Tidy.{tidy, PutsTidy}
use Rattle.tlv_core.specs.Flat.{PartValue, parts_of, part_in, AreAllParts}
use Rattle.tlv_core.specs.TidyForm.{Growing, IsKeptOf, MayBePut, ArePut, so_far, starts_of, with_length, closed_to, open_after, with_part, grown_by, nothing_yet, IsTidyOf}
use Rattle.tlv_core.specs.declared.tidy_form.TidyForm.{TidyForm}
use Rattle.tlv_core.specs.declared.reason.TlvReason.{TlvReason}
use Rattle.tlv_core.proofs.One.{one_forest}
use Rattle.tlv_core.proofs.Tidied.{shorter}
use Rattle.tlv_core.proofs.Valued.{values_are}
use Rattle.tlv_core.proofs.TidyForms.{closed, closed_on, closed_longer, so_far-append, grown-append, grown_tidy}

-- ---- what is kept

-- there is a place for each open object
pub length-starts : (opened : List (List ℕ)) → length (starts_of opened) ≡ length opened
length-starts [] = refl
length-starts (before ∷ opened) =
    omega (arith, length-append (starts_of opened) (length (so_far opened before) ∷ []), length-starts opened)

opens_one : (opened : List (List ℕ)) (list : List ℕ) → length opened < deepest
    → open_after opened list ≡ record { opened = list ∷ opened; list = [] }
opens_one opened list lt = ap (λ (b : Bool). cond b (record { opened = list ∷ opened; list = [] })
    (record { opened = opened; list = list })) (lt-ltb (length opened) deepest lt)

opens_none : (opened : List (List ℕ)) (list : List ℕ) → deepest ≤ length opened
    → open_after opened list ≡ record { opened = opened; list = list }
opens_none opened list le = ap (λ (b : Bool). cond b (record { opened = list ∷ opened; list = [] })
    (record { opened = opened; list = list })) (le-ltb (length opened) deepest le)

-- so many octets are kept only where there is a place for each open object
places_kept : (old new : List ℕ) (form : TidyForm) (opened : List (List ℕ)) (list : List ℕ)
    → IsKeptOf old new form (record { opened = opened; list = list }) → length (so_far opened list) < 2 ^ 32
    → length form.starts.items ≡ length opened
places_kept old new form opened list h few = ap length (h.starts few) ∙ length-starts opened

-- where there is not, they are too many, of which nothing is said
never_kept : (old out now : List ℕ) (form next : TidyForm) (opened : List (List ℕ)) (list : List ℕ)
    → (length form.starts.items ≡ length opened → ⊥) → IsKeptOf old out form (record { opened = opened; list = list })
    → IsKeptOf old now next (record { opened = opened; list = list })
never_kept old out now form next opened list none h =
    record {
      starts = λ few. absurd (none (places_kept old out form opened list h few));
      put = record { few = λ few. absurd (none (places_kept old out form opened list h few)) };
    }

never_open : (old new : List ℕ) (form next : TidyForm) (opened : List (List ℕ)) (list : List ℕ)
    → (length form.starts.items ≡ length opened → ⊥) → IsKeptOf old new form (record { opened = opened; list = list })
    → IsKeptOf old new next (record { opened = list ∷ opened; list = [] })
never_open old new form next opened list none h =
    let same : so_far opened list ++ [] ≡ so_far opened list = append-nil (so_far opened list) in
    record {
      starts = λ few. absurd (none (places_kept old new form opened list h (omega (arith, ap length same))));
      put = record {
        few = λ few. absurd (none (places_kept old new form opened list h (omega (arith, ap length same))));
      };
    }

-- the object whose tag was added last is opened
opened_kept : (old new : List ℕ) (form next : TidyForm) (opened : List (List ℕ)) (list : List ℕ)
    → next.starts.items ≡ form.starts.items ++ form.end ∷ [] → next.end ≡ form.end
    → IsKeptOf old new form (record { opened = opened; list = list })
    → IsKeptOf old new next (record { opened = list ∷ opened; list = [] })
opened_kept old new form next opened list items end h =
    let same : so_far opened list ++ [] ≡ so_far opened list = append-nil (so_far opened list) in
    let put : MayBePut old new next.end (so_far opened list ++ []) =
    subst (λ (l : List ℕ). MayBePut old new next.end l) (sym same)
    (subst (λ (n : ℕ). MayBePut old new n (so_far opened list)) (sym end) h.put) in
    record {
      starts = λ lt.
          let few : length (so_far opened list) < 2 ^ 32 = omega (arith, ap length same) in
          items ∙ ap (λ (l : List ℕ). l ++ form.end ∷ []) (h.starts few)
          ∙ ap (λ (n : ℕ). starts_of opened ++ n ∷ []) (h.put.few few).number;
      put = put;
    }

pub opens_kept : (old new : List ℕ) (form next : TidyForm) (g : Growing)
    → next.starts.items ≡ form.starts.items ++ form.end ∷ [] → next.end ≡ form.end
    → length form.starts.items < deepest → IsKeptOf old new form g
    → IsKeptOf old new next (open_after g.opened g.list)
opens_kept old new form next g items end lt h =
    elim (cases_lt (length g.opened) deepest) [
      | inl few ↦ subst (IsKeptOf old new next) (sym (opens_one g.opened g.list few))
          (opened_kept old new form next g.opened g.list items end h)
      | inr many ↦ subst (IsKeptOf old new next) (sym (opens_none g.opened g.list many))
          (never_kept old new new form next g.opened g.list (λ e. omega (arith, e)) h)
    ]

-- where there is no place for one more, none is opened
pub full_kept : (old new : List ℕ) (form : TidyForm) (g : Growing) → deepest ≤ length form.starts.items
    → IsKeptOf old new form g → IsKeptOf old new form (open_after g.opened g.list)
full_kept old new form g le h =
    elim (cases_lt (length g.opened) deepest) [
      | inl few ↦ subst (IsKeptOf old new form) (sym (opens_one g.opened g.list few))
          (never_open old new form form g.opened g.list (λ e. omega (arith, e)) h)
      | inr many ↦ subst (IsKeptOf old new form) (sym (opens_none g.opened g.list many)) h
    ]

-- octets are added to the innermost list
pub added_kept : (old out now : List ℕ) (form next : TidyForm) (opened : List (List ℕ)) (list add : List ℕ)
    → next.starts.items ≡ form.starts.items
    → (MayBePut old out form.end (so_far opened list) → MayBePut old now next.end (so_far opened list ++ add))
    → IsKeptOf old out form (record { opened = opened; list = list })
    → IsKeptOf old now next (record { opened = opened; list = list ++ add })
added_kept old out now form next opened list add items put h =
    let same : so_far opened (list ++ add) ≡ so_far opened list ++ add = so_far-append opened list add in
    record {
      starts = λ few. items ∙ h.starts (omega (arith, ap length same, length-append (so_far opened list) add));
      put = subst (λ (l : List ℕ). MayBePut old now next.end l) (sym same) (put h.put);
    }

-- where none is open that deep, none is to be closed
pub left_kept : (d : ℕ) (old now : List ℕ) (form : TidyForm) (g : Growing)
    → (length g.opened ≡ length form.starts.items → closed d g ≡ g)
    → IsKeptOf old now form g → IsKeptOf old now form (closed d g)
left_kept d old now form g none h =
    let fewer = closed_longer d g.opened g.list in
    let same : length (so_far (closed d g).opened (closed d g).list) < 2 ^ 32 → closed d g ≡ g =
    λ few. none (sym (places_kept old now form g.opened g.list h (omega (arith, few, fewer)))) in
    record {
      starts = λ few. (subst (IsKeptOf old now form) (sym (same few)) h).starts few;
      put = record { few = λ few. (subst (IsKeptOf old now form) (sym (same few)) h).put.few few };
    }

-- what is kept after a step, where the same is left to be closed
pub record Closes (d : ℕ) (old now : List ℕ) (form : TidyForm) (g : Growing) : Type 0 where
  pub next : Growing
  pub kept_now : IsKeptOf old now form next
  pub same : closed d next ≡ closed d g

last_same : {x y : ℕ} (xs ys : List ℕ) → xs ++ x ∷ [] ≡ ys ++ y ∷ [] → (xs ≡ ys) × (x ≡ y)
last_same [] [] e = (refl, cc)
last_same {x} {y} [] (b ∷ ys) e = absurd (omega (arith, ap length e, length-append ys (y ∷ [])))
last_same {x} {y} (a ∷ xs) [] e = absurd (omega (arith, ap length e, length-append xs (x ∷ [])))
last_same {x} {y} (a ∷ xs) (b ∷ ys) e =
    let heads : a ≡ b = cc in
    let tails : xs ++ x ∷ [] ≡ ys ++ y ∷ [] = cc in
    let rest = last_same xs ys tails in
    (ap (λ (c : ℕ). c ∷ xs) heads ∙ ap (λ (l : List ℕ). b ∷ l) rest.0, rest.1)

-- the innermost object is closed
closes_one : (d : ℕ) (old out now : List ℕ) (form next : TidyForm) (start : ℕ) (before : List ℕ)
    (opened : List (List ℕ)) (list : List ℕ) → form.starts.items ≡ next.starts.items ++ start ∷ []
    → d ≤ length opened + 1
    → ((xs ys : List ℕ) → start ≡ length xs → MayBePut old out form.end (xs ++ ys)
    → MayBePut old now next.end (xs ++ with_length ys))
    → IsKeptOf old out form (record { opened = before ∷ opened; list = list })
    → Closes d old now next (record { opened = before ∷ opened; list = list })
closes_one d old out now form next start before opened list items le put h =
    let all = so_far opened before in
    let field = length_field (shortest (length list)) (length list) in
    let same : so_far opened (before ++ with_length list) ≡ all ++ with_length list =
    so_far-append opened before (with_length list) in
    let fewer : length (so_far opened (before ++ with_length list)) < 2 ^ 32 → length (all ++ list) < 2 ^ 32 =
    λ few. omega (
      arith,
      few,
      ap length same,
      length-append all (with_length list),
      length-append all list,
      length-append field list,
    ) in
    let places : length (so_far opened (before ++ with_length list)) < 2 ^ 32
    → next.starts.items ++ start ∷ [] ≡ starts_of opened ++ length all ∷ [] =
    λ few. sym items ∙ h.starts (fewer few) in
    record {
      next = record { opened = opened; list = before ++ with_length list };
      kept_now = record {
        starts = λ few. (last_same next.starts.items (starts_of opened) (places few)).0;
        put = record {
          few = λ few.
              (subst (λ (l : List ℕ). MayBePut old now next.end l) (sym same)
              (put all list (last_same next.starts.items (starts_of opened) (places few)).1 h.put)).few few;
        };
      };
      same = sym (closed_on d before opened list le);
    }

-- so it is where the place that was kept last is taken off
pub closes : (d : ℕ) (old out now : List ℕ) (form next : TidyForm) (start : ℕ) (opened : List (List ℕ)) (list : List ℕ)
    → form.starts.items ≡ next.starts.items ++ start ∷ [] → d ≤ length form.starts.items
    → ((xs ys : List ℕ) → start ≡ length xs → MayBePut old out form.end (xs ++ ys)
    → MayBePut old now next.end (xs ++ with_length ys))
    → IsKeptOf old out form (record { opened = opened; list = list })
    → Closes d old now next (record { opened = opened; list = list })
closes d old out now form next start [] list items le put h =
    record {
      next = record { opened = []; list = list };
      kept_now = never_kept old out now form next [] list
          (λ e. omega (arith, e, ap length items, length-append next.starts.items (start ∷ []))) h;
      same = refl;
    }
closes d old out now form next start (before ∷ opened) list items le put h =
    elim (cases_lt (length opened + 1) d) [
      | inl lt ↦ record {
        next = record { opened = before ∷ opened; list = list };
        kept_now = never_kept old out now form next (before ∷ opened) list (λ e. omega (arith, e)) h;
        same = refl;
      }
      | inr ge ↦ closes_one d old out now form next start before opened list items ge put h
    ]

-- none is open where no place is kept
pub none_open : (d : ℕ) (opened : List (List ℕ)) (list : List ℕ) → length opened ≡ 0
    → closed_to d opened list ≡ record { opened = opened; list = list }
none_open d [] list e = refl
none_open d (before ∷ opened) list e = absurd (omega (arith, e))

-- ---- one length field

-- a length field and a value are put where the value was
pub closed_put : (old out now before value field part : List ℕ) (start k end next : ℕ)
    → ArePut old out end (before ++ value) → start ≡ length before → k ≡ length field + length value
    → next ≡ start + k → start + k ≤ length out
    → part ≡ field ++ take (length (take k (drop start out)) - length field) (take k (drop start out))
    → now ≡ take start out ++ (part ++ drop k (drop start out)) → length now ≡ length out
    → ArePut old now next (before ++ (field ++ value))
closed_put old out now before value field part start k end next h at is sum le put write size =
    let n = length (before ++ value) in
    let number = length-append before value in
    let text : out ≡ (before ++ value) ++ drop n old = h.buffer (omega (arith, number, h.size)) in
    let parts : out ≡ before ++ (value ++ drop n old) = text ∙ append_assoc before value (drop n old) in
    let front : take start out ≡ before =
    ap (take start) parts ∙ take_at before (value ++ drop n old) start (omega arith) in
    let rest : drop start out ≡ value ++ drop n old =
    ap (drop start) parts ∙ drop_at before (value ++ drop n old) start (omega arith) in
    let room : length (take k (drop start out)) ≡ k =
    omega (arith, length-take k (drop start out), length-drop start out)
    in
    let value_in : take (length (take k (drop start out)) - length field) (take k (drop start out)) ≡ value =
    ap (λ (m : ℕ). take m (take k (drop start out)))
    (let is_len : length (take k (drop start out)) - length field ≡ length value = omega arith in is_len)
    ∙ take-take (length value) k (drop start out) (omega arith) ∙ ap (take (length value)) rest
    ∙ take_at value (drop n old) (length value) refl in
    let beyond : drop k (drop start out) ≡ drop (length (before ++ (field ++ value))) old =
    ap (drop k) rest
    ∙ ap (λ (m : ℕ). drop m (value ++ drop n old)) (let k_is : k ≡ length value + length field = omega arith in k_is)
    ∙ drop-append-add value (drop n old) (length field) ∙ drop-drop (length field) n old
    ∙ ap (λ (m : ℕ). drop m old)
    (let all : n + length field ≡ length (before ++ (field ++ value)) =
    omega (arith, number, length-append before (field ++ value), length-append field value) in all) in
    record {
      size = size ∙ h.size;
      number = omega (arith, length-append before (field ++ value), length-append field value);
      buffer = λ _.
          write ∙ ap (λ (l : List ℕ). l ++ (part ++ drop k (drop start out))) front
          ∙ ap (λ (l : List ℕ). before ++ (l ++ drop k (drop start out)))
          (put ∙ ap (λ (l : List ℕ). field ++ l) value_in)
          ∙ ap (λ (l : List ℕ). before ++ ((field ++ value) ++ l)) beyond
          ∙ sym (append_assoc before (field ++ value) (drop (length (before ++ (field ++ value))) old));
    }

-- they are not, where there is no room
pub closed_past : (old out now before value field : List ℕ) (start k end next : ℕ)
    → ArePut old out end (before ++ value) → start ≡ length before → k ≡ length field + length value
    → next ≡ start + k → length out < start + k → now ≡ out → ArePut old now next (before ++ (field ++ value))
closed_past old out now before value field start k end next h at is sum lt stays =
    let number : length (before ++ (field ++ value)) ≡ start + k =
    omega (arith, length-append before (field ++ value), length-append field value) in
    record {
      size = ap length stays ∙ h.size;
      number = omega (arith, number);
      buffer = λ le. absurd (omega (arith, le, number, h.size));
    }

-- ---- the whole

-- one object more
pub grown_next : (b : List ℕ) (given : List Placed) (p : Placed) (g : Growing)
    → grown_by (map (part_in b) (given ++ p ∷ [])) g ≡ with_part (grown_by (map (part_in b) given) g) (part_in b p)
grown_next b given p g =
    ap (λ (l : List PartValue). grown_by l g) (map-append (part_in b) given (p ∷ []))
    ∙ grown-append (map (part_in b) given) (part_in b p ∷ []) g

-- after all objects the tidy form is whole
pub grown_whole : (max : ℕ) (b old now : List ℕ) (form : TidyForm) (given : List Placed) → max ≤ 1048576
    → AreAllParts max b given
    → IsKeptOf old now form (closed 1 (grown_by (map (part_in b) given) nothing_yet))
    → IsTidyOf max b old now form.end
grown_whole max b old now form given le all h =
    let t = all.tree in
    let spelled : b ≡ spelling t ++ [] = all.forest.is ∙ sym (append-nil (spelling t)) in
    let parts : map (part_in b) given ≡ parts_of 1 0 t =
    ap (map (part_in b)) all.are ∙ values_are t 1 0 b [] [] spelled refl in
    let is : closed 1 (grown_by (map (part_in b) given) nothing_yet)
    ≡ record { opened = []; list = spelling (tidy t) } =
    ap (λ (l : List PartValue). closed 1 (grown_by l nothing_yet)) parts
    ∙ grown_tidy t 1 0 [] [] all.forest.proper refl in
    let now_kept : IsKeptOf old now form (record { opened = []; list = spelling (tidy t) }) =
    subst (IsKeptOf old now form) is h in
    record {
      tree = t;
      forest = all.forest;
      put = now_kept.put.few
          (omega (arith, (shorter 1 t all.forest.proper).1, all.forest.size, ap length all.forest.is));
    }

-- what was counted first is put
pub puts_twice : (max : ℕ) (b old new before after : List ℕ) (count : ℕ) (r : Result ℕ (Stop TlvReason))
    → IsTidyOf max b before after count → IfOk r (IsTidyOf max b old new)
    → IfErr r (Refuses whole (IsForest max) (IsReason max) b) → count ≤ length old → PutsTidy max b old new count
puts_twice max b old new before after count (Ok n) first second refused le =
    let same : second.tree ≡ first.tree = one_forest max max second.tree first.tree b second.forest first.forest in
    let number : count ≡ length (spelling (tidy second.tree)) =
    first.put.number ∙ ap (λ (t : Tree). length (spelling (tidy t))) (sym same) in
    record {
      tree = second.tree;
      forest = second.forest;
      number = number;
      fits = λ _. second.put.buffer (omega arith)
          ∙ ap (λ (m : ℕ). spelling (tidy second.tree) ++ drop m old) (sym number);
      lacks = λ lt. absurd (omega arith);
    }
puts_twice max b old new before after count (Err (Short place)) first second short le =
    absurd (short.none first.tree (length b) (refl, first.forest))
puts_twice max b old new before after count (Err (At place reason)) first second stuck le =
    absurd (stuck.0.none first.tree (length b) (refl, first.forest))

-- what has no room isn't
pub puts_none : (max : ℕ) (b old new before after : List ℕ) (count : ℕ) → IsTidyOf max b before after count
    → length old < count → new ≡ old → PutsTidy max b old new count
puts_none max b old new before after count first lt stays =
    record {
      tree = first.tree;
      forest = first.forest;
      number = first.put.number;
      fits = λ le. absurd (omega arith);
      lacks = λ _. stays;
    }
