-- How the tree that octets make grows as more of them come.
use Rattle.std.proofs.Common.{◌≡◌, ℕ, ◌+◌, ◌-◌, ◌<◌, ◌≤◌, List, [], ◌∷◌, ◌++◌, length, refl, sym, ap, subst, ◌∙◌, inl, inr, arith, zero, suc, append-nil, append_assoc, length-append}
use Rattle.std.specs.Prelude.{None}
use Rattle.std.proofs.lemmas.Bool.{cases_lt}
use Rattle.octet_core.proofs.Lists.{regroup}
use Rattle.tlv_core.specs.Number.{zeros}
use Rattle.tlv_core.specs.Tag.{header_of}
use Rattle.tlv_core.specs.Tree.{Tree, End, Constructed}
use Rattle.tlv_core.specs.Forest.{spelling, IsProper, IsObject}
use Rattle.tlv_core.specs.Reasons.{Kept}
use Rattle.tlv_core.specs.Steps.{spent}
use Rattle.tlv_core.specs.Grown.{Opened, AreOpen, HasGrown, Closing}
use Rattle.tlv_core.proofs.One.{join}
use Rattle.tlv_core.proofs.Stands.{FitsIn, fits_need, fits_room, spelling-join, proper-join}
use Rattle.tlv_core.proofs.Steps.{spent-more, spent-last, spent-inside, spent-length, fits_more}

-- ---- open objects

-- the rooms after m octets more, before any object is closed
abbrev pub less : ℕ → List ℕ → List ℕ
less m [] = []
less m (room ∷ rooms) = (room - m) ∷ less m rooms

-- octets that fit are added to the innermost list, and each room is less by as many
pub open_more : (opened : List Opened) (rooms : List ℕ) (d m left : ℕ) (inner add b : List ℕ) → length add ≡ m
    → FitsIn left rooms m → AreOpen d opened rooms inner b → AreOpen d opened (less m rooms) (inner ++ add) (b ++ add)
open_more [] [] d m left inner add b len fits h = ap (λ (l : List ℕ). l ++ add) h
open_more [] (room ∷ rooms) d m left inner add b len fits h = absurd h
open_more (o ∷ opened) [] d m left inner add b len fits h = absurd h
open_more (o ∷ opened) (room ∷ rooms) d m left inner add b len fits h =
    let le : m ≤ room = omega (arith, fits_need rooms room m fits.1, fits_room rooms room m fits.1) in (
      h.0 ++ add,
      record {
        proper = h.1.proper;
        object = h.1.object;
        left = omega (arith, length-append h.0 add, h.1.left);
        is = ap (λ (l : List ℕ). l ++ add) h.1.is ∙ regroup (spelling o.before) (header_of o.tag o.form o.len) h.0 add;
      },
      open_more opened rooms (d + 1) m room inner add h.0 len fits.1 h.2,
    )

-- the rooms that are used up are the last ones
pub record LessIs (m : ℕ) (rooms : List ℕ) : Type 0 where
  pub closed : ℕ
  pub is : less m rooms ≡ spent m rooms ++ zeros closed
  pub len : length rooms ≡ length (spent m rooms) + closed

-- so it is where m octets fit
pub less_is : (m left : ℕ) (rooms : List ℕ) → FitsIn left rooms m → LessIs m rooms
less_is m left [] fits = record { closed = 0; is = refl; len = refl }
less_is m left (room ∷ rooms) fits =
    let inner = less_is m room rooms fits.1 in
    let le : m ≤ room = omega (arith, fits_need rooms room m fits.1, fits_room rooms room m fits.1) in
    elim (cases_lt m room) [
      | inl lt ↦
          let now = spent-more m room rooms lt in
          record {
            closed = inner.closed;
            is = ap (λ (l : List ℕ). (room - m) ∷ l) inner.is ∙ ap (λ (l : List ℕ). l ++ zeros inner.closed) (sym now);
            len = omega (arith, inner.len, ap length now);
          }
      | inr ge ↦
          let now = spent-last m room rooms ge in
          let none = spent-inside m room rooms m fits.1 ge in
          let inside : less m rooms ≡ zeros inner.closed =
          inner.is ∙ ap (λ (l : List ℕ). l ++ zeros inner.closed) none in
          let z : room - m ≡ 0 = omega arith in
          record {
            closed = suc inner.closed;
            is = ap (λ (r : ℕ). r ∷ less m rooms) z ∙ ap (λ (l : List ℕ). 0 ∷ l) inside
                ∙ ap (λ (l : List ℕ). l ++ zeros (suc inner.closed)) (sym now);
            len = omega (arith, inner.len, ap length now, ap length none);
          }
    ]

-- there are as many open objects as rooms
pub open_length : (opened : List Opened) (rooms : List ℕ) (d : ℕ) (inner b : List ℕ) → AreOpen d opened rooms inner b
    → length opened ≡ length rooms
open_length [] [] d inner b h = refl
open_length [] (room ∷ rooms) d inner b h = absurd h
open_length (o ∷ opened) [] d inner b h = absurd h
open_length (o ∷ opened) (room ∷ rooms) d inner b h = ap suc (open_length opened rooms (d + 1) inner h.0 h.2)

-- ---- closing

-- what the innermost open object makes of the octets of its value, once they are all there
pub record IsClosed (d : ℕ) (opened : List Opened) (rooms : List ℕ) (o : Opened) (inner b : List ℕ) : Type 0 where
  pub opened_yet : AreOpen d opened rooms (spelling o.before ++ (header_of o.tag o.form (length inner) ++ inner)) b
  pub proper : IsProper (d + length rooms) o.before
  pub object : IsObject (d + length rooms) 1 o.tag o.form (length inner)
  pub full : o.len ≡ length inner

-- so it is where no room is left in it
pub close_last : (opened : List Opened) (rooms : List ℕ) (d : ℕ) (o : Opened) (inner b : List ℕ)
    → AreOpen d (opened ++ o ∷ []) (rooms ++ 0 ∷ []) inner b → IsClosed d opened rooms o inner b
close_last [] [] d o inner b h =
    let len : o.len ≡ length inner = omega (arith, h.1.left, ap length h.2) in
    let depth : d ≡ d + 0 = omega arith in
    record {
      opened_yet = h.1.is ∙ ap (λ (n : ℕ). spelling o.before ++ (header_of o.tag o.form n ++ h.0)) len
          ∙ ap (λ (l : List ℕ). spelling o.before ++ (header_of o.tag o.form (length inner) ++ l)) h.2;
      proper = subst (λ (e : ℕ). IsProper e o.before) depth h.1.proper;
      object = subst (λ (e : ℕ). IsObject e 1 o.tag o.form (length inner)) depth
          (subst (IsObject d 1 o.tag o.form) len h.1.object);
      full = len;
    }
close_last [] (room ∷ []) d o inner b h = absurd h.2
close_last [] (room ∷ more ∷ rooms) d o inner b h = absurd h.2
close_last (p ∷ []) [] d o inner b h = absurd h.2
close_last (p ∷ q ∷ opened) [] d o inner b h = absurd h.2
close_last (p ∷ opened) (room ∷ rooms) d o inner b h =
    let c = close_last opened rooms (d + 1) o inner h.0 h.2 in
    let depth : d + 1 + length rooms ≡ d + length (room ∷ rooms) = omega arith in
    record {
      opened_yet = (h.0, h.1, c.opened_yet);
      proper =
          subst (λ (e : ℕ). IsProper e o.before) depth c.proper;
      object =
          subst (λ (e : ℕ). IsObject e 1 o.tag o.form (length inner)) depth c.object;
      full = c.full;
    }

-- an object is opened in the innermost list
pub open_last : (opened : List Opened) (rooms : List ℕ) (d : ℕ) (o : Opened) (b : List ℕ)
    → IsProper (d + length rooms) o.before → IsObject (d + length rooms) 1 o.tag o.form o.len
    → AreOpen d opened rooms (spelling o.before ++ header_of o.tag o.form o.len) b
    → AreOpen d (opened ++ o ∷ []) (rooms ++ o.len ∷ []) [] b
open_last [] [] d o b proper object h =
    let depth : d + 0 ≡ d = omega arith in (
      [],
      record {
        proper = subst (λ (e : ℕ). IsProper e o.before) depth proper;
        object = subst (λ (e : ℕ). IsObject e 1 o.tag o.form o.len) depth object;
        left = omega arith;
        is = h ∙ ap (λ (l : List ℕ). spelling o.before ++ l) (sym (append-nil (header_of o.tag o.form o.len)));
      },
      refl,
    )
open_last [] (room ∷ rooms) d o b proper object h = absurd h
open_last (p ∷ opened) [] d o b proper object h = absurd h
open_last (p ∷ opened) (room ∷ rooms) d o b proper object h =
    let depth : d + length (room ∷ rooms) ≡ d + 1 + length rooms = omega arith in (
      h.0,
      h.1,
      open_last opened rooms (d + 1) o h.0 (subst (λ (e : ℕ). IsProper e o.before) depth proper)
          (subst (λ (e : ℕ). IsObject e 1 o.tag o.form o.len) depth object) h.2,
    )

zeros_last : (n : ℕ) → zeros (suc n) ≡ zeros n ++ 0 ∷ []
zeros_last zero = refl
zeros_last (suc n) = ap (λ (l : List ℕ). 0 ∷ l) (zeros_last n)

-- the object that is closed, after the list before it
abbrev pub closed_list : Opened → Tree → Tree
closed_list o list = join o.before (Constructed o.tag o.form list End)

-- one of the objects to be closed is closed, and its nodes have as many octets as its header says
pub close_one : (b rooms : List ℕ) (closed : ℕ) (opened : List Opened) (o : Opened) (list : Tree)
    → Closing b rooms (suc closed) (opened ++ o ∷ []) list → Closing b rooms closed opened (closed_list o list)
    × (o.len ≡ length (spelling list))
close_one b rooms closed opened o list h =
    let before = rooms ++ zeros closed in
    let all : rooms ++ zeros (suc closed) ≡ before ++ 0 ∷ [] =
    ap (λ (l : List ℕ). rooms ++ l) (zeros_last closed) ∙ sym (append_assoc rooms (zeros closed) (0 ∷ [])) in
    let c = close_last opened before 1 o (spelling list) b
    (subst (λ (l : List ℕ). AreOpen 1 (opened ++ o ∷ []) l (spelling list) b) all h.opened_yet) in
    let item : Tree = Constructed o.tag o.form list End in
    let spelled : spelling o.before ++ (header_of o.tag o.form (length (spelling list)) ++ spelling list) ≡ spelling
    (join o.before item) =
    ap (λ (l : List ℕ). spelling o.before ++ (header_of o.tag o.form (length (spelling list)) ++ l))
    (sym (append-nil (spelling list))) ∙ sym (spelling-join o.before item) in
    let depth : 1 + length (rooms ++ zeros (suc closed)) ≡ (1 + length before) + 1 =
    omega (arith, ap length all, length-append before (0 ∷ [])) in
    let inner : IsProper ((1 + length before) + 1) list = subst (λ (e : ℕ). IsProper e list) depth h.proper in (
      record {
        opened_yet = subst (λ (l : List ℕ). AreOpen 1 opened before l b) spelled c.opened_yet;
        proper =
            proper-join o.before item (1 + length before) c.proper (c.object, inner, tt);
      },
      c.full,
    )

-- ---- more octets after the innermost list

-- the octets b are what this tree spells, and some number of objects are to be closed
pub record ClosingSome (b rooms : List ℕ) (opened : List Opened) (list : Tree) : Type 0 where
  pub closed : ℕ
  pub closing : Closing b rooms closed opened list

-- with what is under way they are an item
pub item_grown : (opened : List Opened) (rooms : List ℕ) (list : Tree) (under b : List ℕ) (m left : ℕ) (add : List ℕ)
    (item : Tree) → AreOpen 1 opened rooms (spelling list ++ under) b → IsProper (1 + length rooms) list
    → length add ≡ m → FitsIn left rooms m
    → under ++ add ≡ spelling item → IsProper (1 + length rooms) item
    → ClosingSome (b ++ add) (spent m rooms) opened (join list item)
item_grown opened rooms list under b m left add item h list_proper len fits e proper =
    let l = less_is m left rooms fits in
    let octets : (spelling list ++ under) ++ add ≡ spelling (join list item) =
    append_assoc (spelling list) under add ∙ ap (λ (z : List ℕ). spelling list ++ z) e
    ∙ sym (spelling-join list item) in
    let more = open_more opened rooms 1 m left (spelling list ++ under) add b len fits h in
    let depth : 1 + length rooms ≡ 1 + length (spent m rooms ++ zeros l.closed) =
    omega (
      arith,
      open_length opened (less m rooms) 1 ((spelling list ++ under) ++ add) (b ++ add) more,
      open_length opened rooms 1 (spelling list ++ under) b h,
      ap length l.is,
    ) in
    record {
      closed = l.closed;
      closing = record {
        opened_yet = subst (λ (r : List ℕ). AreOpen 1 opened r (spelling (join list item)) (b ++ add)) l.is
            (subst (λ (z : List ℕ). AreOpen 1 opened (less m rooms) z (b ++ add)) octets more);
        proper = subst (λ (e : ℕ). IsProper e (join list item)) depth
            (proper-join list item (1 + length rooms) list_proper proper);
      };
    }

-- something is still to come, so all objects stay open
pub record Stays (opened : List Opened) (rooms inner b : List ℕ) (count : ℕ) : Type 0 where
  pub opened_yet : AreOpen 1 opened rooms inner b
  pub level : length rooms ≡ count

-- so it is where more octets must come after these, and all of them fit
pub all_stay : (opened : List Opened) (rooms inner b : List ℕ) (m left need : ℕ) (add : List ℕ)
    → AreOpen 1 opened rooms inner b → length add ≡ m → 0 < need → FitsIn left rooms (m + need)
    → Stays opened (spent m rooms) (inner ++ add) (b ++ add) (length rooms)
all_stay opened rooms inner b m left need add h len some fits =
    let fits_m : FitsIn left rooms m = fits_more left rooms (m + need) m fits
    (omega (arith, fits_need rooms left (m + need) fits)) in
    let l = less_is m left rooms fits_m in
    let level : length (spent m rooms) ≡ length rooms = spent-length m left need rooms some fits in
    let none : l.closed ≡ 0 = omega (arith, l.len) in
    let all : less m rooms ≡ spent m rooms =
    l.is ∙ ap (λ (n : ℕ). spent m rooms ++ zeros n) none ∙ append-nil (spent m rooms) in
    record {
      opened_yet = subst (λ (r : List ℕ). AreOpen 1 opened r (inner ++ add) (b ++ add)) all
          (open_more opened rooms 1 m left inner add b len fits_m h);
      level = level;
    }

-- no object that is open has its whole value
pub closing_done : (b : List ℕ) (k : Kept) (opened : List Opened) (list : Tree) → k.header ≡ [] → k.value_left ≡ 0
    → Closing b k.rooms 0 opened list → HasGrown b k (record { opened = opened; list = list; value = None })
closing_done b k opened list none z h =
    let rooms : k.rooms ++ [] ≡ k.rooms = append-nil k.rooms in
    let inner : spelling list ≡ spelling list ++ k.header =
    sym (append-nil (spelling list)) ∙ ap (λ (l : List ℕ). spelling list ++ l) (sym none) in
    record {
      opened = subst (λ (l : List ℕ). AreOpen 1 opened k.rooms l b) inner
          (subst (λ (r : List ℕ). AreOpen 1 opened r (spelling list) b) rooms h.opened_yet);
      proper = subst (λ (r : List ℕ). IsProper (1 + length r) list) rooms h.proper;
      under = z;
    }
