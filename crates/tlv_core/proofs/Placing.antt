-- Where the objects of the tree so far stand.
use Rattle.std.proofs.Common.{◌≡◌, ℕ, ◌+◌, ◌<◌, List, [], ◌∷◌, ◌++◌, length, refl, sym, ap, subst, ◌∙◌, arith, zero, suc, append-nil, append_assoc, length-append}
use Rattle.std.specs.Prelude.{None}
use Rattle.tlv_core.specs.Number.{zeros}
use Rattle.tlv_core.specs.Tag.{header_of}
use Rattle.tlv_core.specs.Tree.{Tree, End, Filler, Primitive, Constructed}
use Rattle.tlv_core.specs.Forest.{spelling}
use Rattle.tlv_core.specs.Parts.{Placed, value_place, preorder}
use Rattle.tlv_core.specs.Grown.{Opened, AreOpen, Closing}
use Rattle.tlv_core.specs.Flat.{placed_at, placed_in, placed_list}
use Rattle.tlv_core.proofs.One.{join}
use Rattle.tlv_core.proofs.Growing.{closed_list, close_one, open_length}

-- ---- preorder

further_place : (place n : ℕ) (header value rest : List ℕ)
    → place + length header + length value + length rest ≡ place + length (header ++ (value ++ rest))
further_place place n header value rest = omega (arith, length-append header (value ++ rest), length-append value rest)

-- the objects of a list come before those of the list after it, which begins where its octets end
pub preorder-join : (s t : Tree) (d place : ℕ) → preorder d place (join s t) ≡ preorder d place s
    ++ preorder d (place + length (spelling s)) t
preorder-join End t d place = let e : place ≡ place + 0 = omega arith in ap (λ (p : ℕ). preorder d p t) e
preorder-join (Filler rest) t d place =
    let e : place + 1 + length (spelling rest) ≡ place + length (0 ∷ spelling rest) = omega arith in
    preorder-join rest t d (place + 1) ∙ ap (λ (p : ℕ). preorder d (place + 1) rest ++ preorder d p t) e
preorder-join (Primitive tag form value rest) t d place =
    let header = header_of tag form (length value) in
    let next = place + length header + length value in
    ap (λ (l : List Placed). placed_at d place tag form (length value) ∷ l)
    (preorder-join rest t d next ∙ ap (λ (p : ℕ). preorder d next rest ++ preorder d p t)
    (further_place place 0 header value (spelling rest)))
preorder-join (Constructed tag form nodes rest) t d place =
    let header = header_of tag form (length (spelling nodes)) in
    let next = place + length header + length (spelling nodes) in
    let inner = preorder (d + 1) (place + length header) nodes in
    ap (λ (l : List Placed). placed_at d place tag form (length (spelling nodes)) ∷ (inner ++ l))
    (preorder-join rest t d next ∙ ap (λ (p : ℕ). preorder d next rest ++ preorder d p t)
    (further_place place 0 header (spelling nodes) (spelling rest)))
    ∙ ap (λ (l : List Placed). placed_at d place tag form (length (spelling nodes)) ∷ l)
    (sym (append_assoc inner (preorder d next rest)
    (preorder d (place + length (spelling (Constructed tag form nodes rest))) t)))

-- ---- the innermost list

-- the place at which it begins
abbrev pub inner_place : ℕ → List Opened → ℕ
inner_place place [] = place
inner_place place (o ∷ opened) = inner_place (value_place (place + length (spelling o.before)) o.tag o.form o.len)
    opened

-- the innermost list ends where all the octets end
pub inner_place-is : (opened : List Opened) (rooms : List ℕ) (d place : ℕ) (inner b : List ℕ)
    → AreOpen d opened rooms inner b → inner_place place opened + length inner ≡ place + length b
inner_place-is [] [] d place inner b h = omega (arith, ap length h)
inner_place-is [] (room ∷ rooms) d place inner b h = absurd h
inner_place-is (o ∷ opened) [] d place inner b h = absurd h
inner_place-is (o ∷ opened) (room ∷ rooms) d place inner b h =
    let header = header_of o.tag o.form o.len in
    omega (
      arith,
      inner_place-is opened rooms (d + 1) (place + length (spelling o.before) + length header) inner h.0
          h.2,
      ap length h.1.is,
      length-append (spelling o.before) (header ++ h.0),
      length-append header h.0,
    )

regroup_placed : (a : List Placed) (p : Placed) (b c : List Placed) → a ++ (p ∷ (b ++ c)) ≡ (a ++ p ∷ b) ++ c
regroup_placed a p b c = sym (append_assoc a (p ∷ b) c)

-- what is added there is added to the whole
pub placed-more : (opened : List Opened) (d place : ℕ) (now before : ℕ → ℕ → List Placed) (add : List Placed)
    → now (d + length opened) (inner_place place opened) ≡ before (d + length opened) (inner_place place opened) ++ add
    → placed_in d place opened now ≡ placed_in d place opened before ++ add
placed-more [] d place now before add h = let e : d + 0 ≡ d =
    omega arith in subst (λ (n : ℕ). now n place ≡ before n place ++ add) e h
placed-more (o ∷ opened) d place now before add h =
    let at = value_place (place + length (spelling o.before)) o.tag o.form o.len in
    let p = placed_at d (place + length (spelling o.before)) o.tag o.form o.len in
    let e : d + length (o ∷ opened) ≡ d + 1 + length opened = omega arith in
    let more = placed-more opened (d + 1) at now before add
    (subst (λ (n : ℕ). now n (inner_place at opened) ≡ before n (inner_place at opened) ++ add) e h) in
    ap (λ (l : List Placed). preorder d place o.before ++ (p ∷ l)) more
    ∙ regroup_placed (preorder d place o.before) p (placed_in (d + 1) at opened before) add

-- what is the same there is the same in the whole
pub placed-same : (opened : List Opened) (d place : ℕ) (now before : ℕ → ℕ → List Placed)
    → now (d + length opened) (inner_place place opened) ≡ before (d + length opened) (inner_place place opened)
    → placed_in d place opened now ≡ placed_in d place opened before
placed-same opened d place now before h =
    placed-more opened d place now before []
    (h ∙ sym (append-nil (before (d + length opened) (inner_place place opened))))
    ∙ append-nil (placed_in d place opened before)

-- an object that is open inside the others
abbrev pub inside : Opened → (ℕ → ℕ → List Placed) → ℕ → ℕ → List Placed
inside o inner d place = placed_in d place (o ∷ []) inner

-- the last open object is in the innermost list of the others
pub placed-last : (opened : List Opened) (d place : ℕ) (o : Opened) (inner : ℕ → ℕ → List Placed)
    → placed_in d place (opened ++ o ∷ []) inner ≡ placed_in d place opened (inside o inner)
placed-last [] d place o inner = refl
placed-last (p ∷ opened) d place o inner =
    let at = value_place (place + length (spelling p.before)) p.tag p.form p.len in
    ap (λ (l : List Placed). preorder d place p.before
    ++ (placed_at d (place + length (spelling p.before)) p.tag p.form p.len ∷ l))
    (placed-last opened (d + 1) at o inner)

-- ---- closing

-- an object that is closed stays where it was
closed_same : (o : Opened) (list : Tree) (d place : ℕ) → o.len ≡ length (spelling list)
    → placed_list (closed_list o list) None d place ≡ inside o (placed_list list None) d place
closed_same o list d place e =
    let n = length (spelling list) in
    let at = place + length (spelling o.before) in
    let inner : ℕ → List Placed = λ m. preorder (d + 1) (value_place at o.tag o.form m) list in
    append-nil (preorder d place (closed_list o list))
    ∙ preorder-join o.before (Constructed o.tag o.form list End) d place
    ∙ ap (λ (m : ℕ). preorder d place o.before ++ (placed_at d at o.tag o.form m ∷ (inner m ++ []))) (sym e)

-- once the innermost open object is closed, all objects are placed as before
pub close_placed : (opened : List Opened) (o : Opened) (list : Tree) → o.len ≡ length (spelling list)
    → placed_in 1 0 opened (placed_list (closed_list o list) None) ≡ placed_in 1 0 (opened ++ o ∷ [])
    (placed_list list None)
close_placed opened o list e =
    placed-same opened 1 0 (placed_list (closed_list o list) None) (inside o (placed_list list None))
    (closed_same o list (1 + length opened) (inner_place 0 opened) e)
    ∙ sym (placed-last opened 1 0 o (placed_list list None))

-- all objects closed that have their whole value
pub record AllClosed (b rooms : List ℕ) (opened : List Opened) (list : Tree) : Type 0 where
  pub opened_now : List Opened
  pub list_now : Tree
  pub closing : Closing b rooms 0 opened_now list_now
  pub placed_same : placed_in 1 0 opened_now (placed_list list_now None) ≡ placed_in 1 0 opened (placed_list list None)

record HasLast (opened : List Opened) : Type 0 where
  pub before : List Opened
  pub last : Opened
  pub is : opened ≡ before ++ last ∷ []

has_last : (opened : List Opened) → 0 < length opened → HasLast opened
has_last [] some = absurd (omega arith)
has_last (o ∷ []) some = record { before = []; last = o; is = refl }
has_last (o ∷ p ∷ opened) some = let h = has_last (p ∷ opened) (omega arith) in
    record { before = o ∷ h.before; last = h.last; is = ap (λ (l : List Opened). o ∷ l) h.is }

-- all the objects that are to be closed can be
pub all_closed : (closed : ℕ) (b rooms : List ℕ) (opened : List Opened) (list : Tree)
    → Closing b rooms closed opened list → AllClosed b rooms opened list
all_closed zero b rooms opened list h = record { opened_now = opened; list_now = list; closing = h; placed_same = refl }
all_closed (suc n) b rooms opened list h =
    let last = has_last opened (omega (
      arith,
      open_length opened (rooms ++ zeros (suc n)) 1 (spelling list) b h.opened_yet,
      length-append rooms (zeros (suc n)),
    )) in
    let c = close_one b rooms n last.before last.last list
    (subst (λ (l : List Opened). Closing b rooms (suc n) l list) last.is h) in
    let more = all_closed n b rooms last.before (closed_list last.last list) c.0 in
    record {
      opened_now = more.opened_now;
      list_now = more.list_now;
      closing = more.closing;
      placed_same = more.placed_same ∙ close_placed last.before last.last list c.1
          ∙ ap (λ (l : List Opened). placed_in 1 0 l (placed_list list None)) (sym last.is);
    }
