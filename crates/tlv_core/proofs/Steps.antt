-- What octets leave open once more of them have come.
use Rattle.std.proofs.Common.{◌≡◌, ℕ, ◌+◌, ◌-◌, ◌<◌, ◌≤◌, List, [], ◌∷◌, ◌++◌, length, refl, sym, ap, subst, ◌∙◌, inl, inr, arith, cond, Bool, append-nil, append_assoc, length-append}
use borrow.Author.Tests.{lt-ltb, le-ltb}
use Rattle.std.proofs.lemmas.Bool.{cases_lt}
use Rattle.tlv_core.specs.Tag.{header_of}
use Rattle.tlv_core.specs.Tree.{Tree, End, Constructed}
use Rattle.tlv_core.specs.Forest.{spelling, IsObject}
use Rattle.tlv_core.specs.Reasons.{OpensOne, EndsIn, Opens, room_of}
use Rattle.tlv_core.specs.Steps.{spent}
use Rattle.tlv_core.proofs.One.{join}
use Rattle.tlv_core.proofs.Stands.{FitsIn, fits_need, fits_room, spelling-join, proper-join}

-- ---- rooms

-- a room of more than m octets is less by m
pub spent-more : (m room : ℕ) (rooms : List ℕ) → m < room → spent m (room ∷ rooms) ≡ (room - m) ∷ spent m rooms
spent-more m room rooms lt = ap (λ (b : Bool). cond b ((room - m) ∷ spent m rooms) []) (lt-ltb m room lt)

-- any other is used up, and so are those inside it
pub spent-last : (m room : ℕ) (rooms : List ℕ) → room ≤ m → spent m (room ∷ rooms) ≡ []
spent-last m room rooms le = ap (λ (b : Bool). cond b ((room - m) ∷ spent m rooms) []) (le-ltb m room le)

-- rooms inside one that is used up are used up too
pub spent-inside : (m room : ℕ) (rooms : List ℕ) (k : ℕ) → FitsIn room rooms k → room ≤ m → spent m rooms ≡ []
spent-inside m room [] k h le = refl
spent-inside m room (inner ∷ rooms) k h le = spent-last m inner rooms (omega (arith, h.0))

-- where something fits into all the rooms, so does all that fits into the innermost one
pub fits_more : (left : ℕ) (rooms : List ℕ) (j k : ℕ) → FitsIn left rooms j → k ≤ room_of left rooms
    → FitsIn left rooms k
fits_more left [] j k h le = le
fits_more left (room ∷ rooms) j k h le = (h.0, fits_more room rooms j k h.1 le)

-- where something is still to come in the innermost room, all rooms stay
pub spent-length : (m left k : ℕ) (rooms : List ℕ) → 0 < k → FitsIn left rooms (m + k)
    → length (spent m rooms) ≡ length rooms
spent-length m left k [] pos h = refl
spent-length m left k (room ∷ rooms) pos h =
    let lt : m < room = omega (arith, fits_need rooms room (m + k) h.1, fits_room rooms room (m + k) h.1) in
    omega (arith, ap length (spent-more m room rooms lt), spent-length m room k rooms pos h.1)

-- what fits together with m octets fits into the rooms after these
pub spent-fits : (m left k : ℕ) (rooms : List ℕ) → FitsIn left rooms (m + k) → FitsIn (left - m) (spent m rooms) k
spent-fits m left k [] h = omega arith
spent-fits m left k (room ∷ rooms) h =
    elim (cases_lt m room) [
      | inl lt ↦ subst (λ (l : List ℕ). FitsIn (left - m) l k) (sym (spent-more m room rooms lt))
          (omega (arith, h.0), spent-fits m room k rooms h.1)
      | inr le ↦
          let none : k ≤ left - m = omega
          (arith, h.0, fits_need rooms room (m + k) h.1, fits_room rooms room (m + k) h.1) in
          subst (λ (l : List ℕ). FitsIn (left - m) l k) (sym (spent-last m room rooms le)) none
    ]

-- a room of so many octets inside the innermost one
pub fits_down : (left n : ℕ) (rooms : List ℕ) → FitsIn left rooms n → FitsIn left (rooms ++ n ∷ []) 0
fits_down left n [] h = (h, omega arith)
fits_down left n (room ∷ rooms) h = (h.0, fits_down room n rooms h.1)

-- ---- open objects

regroup_part : (a b c x : List ℕ) → (a ++ (b ++ c)) ++ x ≡ a ++ (b ++ (c ++ x))
regroup_part a b c x = simp append_assoc

regroup_value : (a b c x : List ℕ) → (a ++ (b ++ c)) ++ x ≡ a ++ (b ++ ((c ++ x) ++ []))
regroup_value a b c x = simp (append_assoc, append-nil)

-- an open object with more of its value, and something still to come
pub one_more : (d room m : ℕ) (value add b : List ℕ) → OpensOne d room value b → length add ≡ m → m < room
    → OpensOne d (room - m) (value ++ add) (b ++ add)
one_more d room m value add b o len lt =
    let all = value ++ add in
    let same : length value + room ≡ length all + (room - m) = omega (arith, length-append value add) in
    record {
      done = o.done;
      proper = o.proper;
      tag = o.tag;
      form = o.form;
      object = subst (λ (n : ℕ). IsObject d 1 o.tag o.form n) same o.object;
      open_yet = omega arith;
      is = ap (λ (l : List ℕ). l ++ add) o.is
          ∙ regroup_part (spelling o.done) (header_of o.tag o.form (length value + room)) value add
          ∙ ap (λ (n : ℕ). spelling o.done ++ (header_of o.tag o.form n ++ all)) same;
    }

-- an open object whose value is whole
pub one_whole : (d room m : ℕ) (value add b : List ℕ) → OpensOne d room value b → length add ≡ m → m ≡ room
    → EndsIn (d + 1) [] (value ++ add) → EndsIn d [] (b ++ add)
one_whole d room m value add b o len last ends =
    let is_value : value ++ add ≡ spelling ends.done = ends.is ∙ append-nil (spelling ends.done) in
    let full : length value + room ≡ length (spelling ends.done) =
    omega (arith, length-append value add, ap length is_value) in
    let object : Tree = Constructed o.tag o.form ends.done End in
    let is : b ++ add ≡ spelling (join o.done object) =
    ap (λ (l : List ℕ). l ++ add) o.is ∙ regroup_value (spelling o.done) (header_of o.tag o.form (length value + room))
    value add
    ∙ ap (λ (l : List ℕ). spelling o.done ++ (header_of o.tag o.form (length value + room) ++ (l ++ []))) is_value
    ∙ ap (λ (n : ℕ). spelling o.done ++ (header_of o.tag o.form n ++ (spelling ends.done ++ []))) full
    ∙ sym (spelling-join o.done object) in
    record {
      done = join o.done object;
      proper = proper-join o.done object d o.proper
          (subst (λ (n : ℕ). IsObject d 1 o.tag o.form n) full o.object, ends.proper, tt);
      is = is ∙ sym (append-nil (spelling (join o.done object)));
    }

-- All open objects stay open: the innermost list gets what it gets.
pub opens_by : (rooms : List ℕ) (d m left k : ℕ) (last b add more last' : List ℕ) → length add ≡ m → 0 < k
    → FitsIn left rooms (m + k)
    → ((v : List ℕ) → EndsIn (d + length rooms) last v → Opens (d + length rooms) more last' (v ++ add))
    → Opens d rooms last b → Opens d (spent m rooms ++ more) last' (b ++ add)
opens_by [] d m left k last b add more last' len pos fits inner opens =
    let depth : d + 0 ≡ d = omega arith in
    subst (λ (e : ℕ). Opens e more last' (b ++ add)) depth
    (inner b (subst (λ (e : ℕ). EndsIn e last b) (sym depth) opens))
opens_by (room ∷ rooms) d m left k last b add more last' len pos fits inner opens =
    let lt : m < room = omega (arith, fits_need rooms room (m + k) fits.1, fits_room rooms room (m + k) fits.1) in
    let depth : d + length (room ∷ rooms) ≡ d + 1 + length rooms = omega arith in
    let deeper = opens_by rooms (d + 1) m room k last opens.0 add more last' len pos fits.1
    (λ v ends. subst (λ (e : ℕ). Opens e more last' (v ++ add)) depth
    (inner v (subst (λ (e : ℕ). EndsIn e last v) (sym depth) ends))) opens.2 in
    let all : Opens d ((room - m) ∷ (spent m rooms ++ more)) last' (b ++ add) =
    (opens.0 ++ add, one_more d room m opens.0 add b opens.1 len lt, deeper) in
    subst (λ (l : List ℕ). Opens d (l ++ more) last' (b ++ add)) (sym (spent-more m room rooms lt)) all

-- The innermost list ends in whole objects and fillers, and each object whose end is reached is closed.
pub opens_whole : (rooms : List ℕ) (d m left k : ℕ) (last b add : List ℕ) → length add ≡ m → FitsIn left rooms k → m ≤ k
    → ((v : List ℕ) → EndsIn (d + length rooms) last v → EndsIn (d + length rooms) [] (v ++ add)) → Opens d rooms last b
    → Opens d (spent m rooms) [] (b ++ add)
opens_whole [] d m left k last b add len fits le inner opens =
    let depth : d + 0 ≡ d = omega arith in
    subst (λ (e : ℕ). EndsIn e [] (b ++ add)) depth (inner b (subst (λ (e : ℕ). EndsIn e last b) (sym depth) opens))
opens_whole (room ∷ rooms) d m left k last b add len fits le inner opens =
    let depth : d + length (room ∷ rooms) ≡ d + 1 + length rooms = omega arith in
    let deeper : Opens (d + 1) (spent m rooms) [] (opens.0 ++ add) =
    opens_whole rooms (d + 1) m room k last opens.0 add len fits.1 le
    (λ v ends. subst (λ (e : ℕ). EndsIn e [] (v ++ add)) depth
    (inner v (subst (λ (e : ℕ). EndsIn e last v) (sym depth) ends))) opens.2 in
    elim (cases_lt m room) [
      | inl lt ↦ subst (λ (l : List ℕ). Opens d l [] (b ++ add)) (sym (spent-more m room rooms lt))
          (let all : Opens d ((room - m) ∷ spent m rooms) [] (b ++ add) =
          (opens.0 ++ add, one_more d room m opens.0 add b opens.1 len lt, deeper) in all)
      | inr ge ↦
          let last_is : m ≡ room = omega (arith, fits_need rooms room k fits.1, fits_room rooms room k fits.1) in
          let inside : Opens (d + 1) [] [] (opens.0 ++ add) =
          subst (λ (l : List ℕ). Opens (d + 1) l [] (opens.0 ++ add)) (spent-inside m room rooms k fits.1 ge) deeper
          in
          subst (λ (l : List ℕ). Opens d l [] (b ++ add)) (sym (spent-last m room rooms ge))
          (one_whole d room m opens.0 add b opens.1 len last_is inside)
    ]
