-- How many more octets a chain needs at least: no chain has fewer, and some chain has as many.
use Rattle.std.proofs.Common.{◌≡◌, ℕ, ◌+◌, ◌-◌, ◌<◌, ◌≤◌, List, [], ◌∷◌, ◌++◌, length, take, drop, get_or, refl, sym, ap, subst, ◌∙◌, arith, Bool, true, false, inl, inr}
use Rattle.std.proofs.lemmas.Bool.{cases_lt}
use Rattle.std.proofs.lemmas.List.{append-nil, append_assoc, length-append, length-take, take-append-drop}
use Rattle.std.specs.List.{AllByRecursion}
use Rattle.octet_core.specs.Grammar.{Begins}
use Rattle.octet_core.specs.Octets.{AreOctets, xor_of}
use Rattle.octet_core.proofs.Lists.{octets-append, octets-left, octets-right, tail_is, split_same, zeros-octets}
use Rattle.block_core.specs.Block.{front_of, other, pcb_octet}
use Rattle.block_core.specs.declared.pcb.Number.{Number}
use Rattle.block_core.specs.declared.pcb.Number.TheVariants.{Zero, One}
use Rattle.block_core.specs.declared.pcb.Pcb.TheVariants.{Info}
use Rattle.chain_core.specs.Chain.{IsChain, chain_block, message_of, spelling}
use Rattle.shortfall.specs.Least.{IsLeast}
use Rattle.shortfall.specs.Chain.{after_block, chain_from, chain_least, next_least, says_more}
use Rattle.shortfall.proofs.Apdus.{fill}
use Rattle.shortfall.proofs.Chains.{from-within, from-after}

-- ---- blocks

-- bit M of an I-block says what the block says
more-of : (number : Number) (more : Bool) → says_more (pcb_octet (Info number more)) ≡ more
more-of Zero false = refl
more-of Zero true = refl
more-of One false = refl
more-of One true = refl

-- what comes after the LEN of a block
abbrev field_of : Number → Bool → List ℕ → List ℕ
field_of number more field = field ++ xor_of (front_of (chain_block number more field)) ∷ []

field-length : (number : Number) (more : Bool) (field : List ℕ) → length (field_of number more field) ≡ length field + 1
field-length number more field = length-append field (xor_of (front_of (chain_block number more field)) ∷ [])

-- the octets of a chain of two blocks or more are those of its first block and of a chain
two : (number : Number) (field next : List ℕ) (fields : List (List ℕ))
    → spelling number (field ∷ next ∷ fields)
    ≡ 0 ∷ pcb_octet (Info number true) ∷ length field ∷ (field_of number true field
    ++ spelling (other number) (next ∷ fields))
two number field next fields = refl

one : (number : Number) (field : List ℕ) → spelling number (field ∷ [])
    ≡ 0 ∷ pcb_octet (Info number false) ∷ length field ∷ field_of number false field
one number field =
    ap (λ (l : List ℕ). 0 ∷ pcb_octet (Info number false) ∷ length field ∷ l)
    (append-nil (field_of number false field))

-- a chain has four octets at least
four : (number : Number) (field : List ℕ) (fields : List (List ℕ)) → 4 ≤ length (spelling number (field ∷ fields))
four number field [] = omega (arith, ap length (one number field), field-length number false field)
four number field (next ∷ fields) = omega (
  arith,
  ap length (two number field next fields),
  field-length number true field,
  length-append (field_of number true field) (spelling (other number) (next ∷ fields)),
)

-- ---- what is missing

module _ (ifs : ℕ) where
  -- no chain that begins with b has fewer more octets than it needs, and some chain has as many
  record Chained (number : Number) (fields : List (List ℕ)) (b more : List ℕ) : Type 0 where
    fewer : chain_from 0 true b ≤ length more
    field : List ℕ
    others : List (List ℕ)
    rest : List ℕ
    count : length rest ≡ chain_from 0 true b
    is : b ++ rest ≡ spelling number (field ∷ others)
    few : length (field ∷ others) ≤ length fields
    sizes : AllByRecursion (λ f. length f ≤ ifs) (field ∷ others)
    octets : AreOctets (message_of (field ∷ others))
    small : length (message_of (field ∷ others)) ≤ length (message_of fields)

  -- the four octets of a last block without a field
  abbrev empty : Number → List ℕ
  empty number = spelling number ([] ∷ [])

  -- nothing has come
  nothing : (number : Number) (fields : List (List ℕ)) (more : List ℕ) → 0 < length fields → 4 ≤ length more
      → Chained number fields [] more
  nothing number fields more some long = record {
    fewer = long;
    field = [];
    others = [];
    rest = empty number;
    count = refl;
    is = refl;
    few = omega arith;
    sizes = (omega arith, tt);
    octets = zeros-octets 0;
    small = omega arith;
  }

  -- NAD has come
  after-nad : (number : Number) (fields : List (List ℕ)) (x : ℕ) (more : List ℕ) → 0 < length fields → x ≡ 0
      → 3 ≤ length more → Chained number fields (x ∷ []) more
  after-nad number fields x more some e long = record {
    fewer = long;
    field = [];
    others = [];
    rest = drop 1 (empty number);
    count = refl;
    is = ap (λ (k : ℕ). k ∷ drop 1 (empty number)) e;
    few = omega arith;
    sizes = (omega arith, tt);
    octets = zeros-octets 0;
    small = omega arith;
  }

  -- PCB has come, of the last block
  last-pcb : (number : Number) (fields : List (List ℕ)) (x y : ℕ) (more : List ℕ) → 0 < length fields → x ≡ 0
      → y ≡ pcb_octet (Info number false) → 2 ≤ length more → Chained number fields (x ∷ y ∷ []) more
  last-pcb number fields x y more some e f long =
      let none : next_least y ≡ 0 = ap next_least f ∙ ap after_block (more-of number false) in
      record {
        fewer = omega (arith, none, long);
        field = [];
        others = [];
        rest = drop 2 (empty number);
        count = omega (arith, none);
        is = λ i. e i ∷ f i ∷ drop 2 (empty number);
        few = omega arith;
        sizes = (omega arith, tt);
        octets = zeros-octets 0;
        small = omega arith;
      }

  -- PCB has come, of a block that says that more follow
  more-pcb : (number : Number) (fields : List (List ℕ)) (x y : ℕ) (more : List ℕ) → 1 < length fields → x ≡ 0
      → y ≡ pcb_octet (Info number true) → 6 ≤ length more → Chained number fields (x ∷ y ∷ []) more
  more-pcb number fields x y more some e f long =
      let next : next_least y ≡ 4 = ap next_least f ∙ ap after_block (more-of number true) in
      record {
        fewer = omega (arith, next, long);
        field = [];
        others = [] ∷ [];
        rest = drop 2 (spelling number ([] ∷ [] ∷ []));
        count = sym (ap (λ (k : ℕ). 2 + k) next);
        is = λ i. e i ∷ f i ∷ drop 2 (spelling number ([] ∷ [] ∷ []));
        few = omega arith;
        sizes = (omega arith, (omega arith, tt));
        octets = zeros-octets 0;
        small = omega arith;
      }

  -- LEN has come, of the last block
  last-len : (number : Number) (f : List ℕ) (x y n : ℕ) (b more : List ℕ) → length f ≤ ifs
      → AreOctets (message_of (f ∷ []))
      → (x ∷ y ∷ n ∷ b) ++ more ≡ spelling number (f ∷ []) → Chained number (f ∷ []) (x ∷ y ∷ n ∷ b) more
  last-len number f x y n b more size octets e =
      let len : n ≡ length f = ap (λ (l : List ℕ). get_or l 2 0) e in
      let pcb : y ≡ pcb_octet (Info number false) = ap (λ (l : List ℕ). get_or l 1 0) e in
      let said : says_more y ≡ false = ap says_more pcb ∙ more-of number false in
      let none : after_block (says_more y) ≡ 0 = ap after_block said in
      let all : length b + length more ≡ n + 1 =
      omega (arith, ap length (e ∙ one number f), field-length number false f, length-append b more, len) in
      let least : length more ≡ chain_from (n + 1) (says_more y) b =
      elim (cases_lt (length b) (n + 1)) [
        | inl lt ↦ omega (arith, from-within (n + 1) (says_more y) b lt, none, all)
        | inr le ↦ let ended : chain_from (n + 1) (says_more y) b ≡ 0 =
            from-after (n + 1) (says_more y) b le ∙ ap (λ (m : Bool). chain_from 0 m (drop (n + 1) b)) said in
            omega (arith, ended, all, le)
      ] in
      record {
        fewer = omega (arith, least);
        field = f;
        others = [];
        rest = more;
        count = least;
        is = e;
        few = omega arith;
        sizes = (size, tt);
        octets = octets;
        small = omega arith;
      }

  -- LEN has come, of a block that says that more follow, and the block isn't whole
  more-len : (number : Number) (f next : List ℕ) (fields : List (List ℕ)) (x y n : ℕ) (b more : List ℕ) → length f ≤ ifs
      → AreOctets (message_of (f ∷ next ∷ fields)) → length b < n + 1
      → (x ∷ y ∷ n ∷ b) ++ more ≡ spelling number (f ∷ next ∷ fields)
      → Chained number (f ∷ next ∷ fields) (x ∷ y ∷ n ∷ b) more
  more-len number f next fields x y n b more size octets lt e =
      let nad : x ≡ 0 = ap (λ (l : List ℕ). get_or l 0 0) e in
      let pcb : y ≡ pcb_octet (Info number true) = ap (λ (l : List ℕ). get_or l 1 0) e in
      let len : n ≡ length f = ap (λ (l : List ℕ). get_or l 2 0) e in
      let said : says_more y ≡ true = ap says_more pcb ∙ more-of number true in
      let then4 : after_block (says_more y) ≡ 4 = ap after_block said in
      let block = field_of number true f in
      let tail = spelling (other number) (next ∷ fields) in
      let fl : length block ≡ length f + 1 = field-length number true f in
      let all : length b + length more ≡ length block + length tail =
      omega (arith, ap length (e ∙ two number f next fields), length-append b more, length-append block tail) in
      let least = from-within (n + 1) (says_more y) b lt in
      let long : 4 ≤ length tail = four (other number) next fields in
      let k = length block - length b in
      let part = take k more in
      let parted : length part ≡ n + 1 - length b = omega (arith, length-take k more, fl, len, all, lt, long) in
      let end = empty (other number) in
      let joined : b ++ part ≡ block =
      fill b more block tail (omega (arith, fl, len, lt))
      (tail_is n (length f) (b ++ more) (block ++ tail)
      (tail_is y (pcb_octet (Info number true)) (n ∷ (b ++ more)) (length f ∷ (block ++ tail))
      (tail_is x 0 (y ∷ n ∷ (b ++ more)) (pcb_octet (Info number true) ∷ length f ∷ (block ++ tail))
      (e ∙ two number f next fields)))) in
      record {
        fewer = omega (arith, least, then4, fl, len, all, long);
        field = f;
        others = [] ∷ [];
        rest = part ++ end;
        count = omega (arith, length-append part end, parted, least, then4);
        is = (λ i. nad i ∷ pcb i ∷ len i ∷ (b ++ (part ++ end)))
            ∙ ap (λ (l : List ℕ). 0 ∷ pcb_octet (Info number true) ∷ length f ∷ l)
            (sym (append_assoc b part end) ∙ ap (λ (l : List ℕ). l ++ end) joined);
        few = omega arith;
        sizes = (size, (omega arith, tt));
        octets = subst AreOctets (sym (append-nil f)) (octets-left f (message_of (next ∷ fields)) octets);
        small = omega (arith, ap length (append-nil f), length-append f (message_of (next ∷ fields)));
      }

  -- a block that says that more follow is whole: what the chain after it needs
  after-block : (number : Number) (f next : List ℕ) (fields : List (List ℕ)) (x y n : ℕ) (b more : List ℕ)
      → length f ≤ ifs → AreOctets (message_of (f ∷ next ∷ fields)) → n + 1 ≤ length b
      → (x ∷ y ∷ n ∷ b) ++ more ≡ spelling number (f ∷ next ∷ fields)
      → ((c : List ℕ) → c ++ more ≡ spelling (other number) (next ∷ fields)
      → Chained (other number) (next ∷ fields) c more)
      → Chained number (f ∷ next ∷ fields) (x ∷ y ∷ n ∷ b) more
  after-block number f next fields x y n b more size octets le e go =
      let nad : x ≡ 0 = ap (λ (l : List ℕ). get_or l 0 0) e in
      let pcb : y ≡ pcb_octet (Info number true) = ap (λ (l : List ℕ). get_or l 1 0) e in
      let len : n ≡ length f = ap (λ (l : List ℕ). get_or l 2 0) e in
      let said : says_more y ≡ true = ap says_more pcb ∙ more-of number true in
      let block = field_of number true f in
      let tail = spelling (other number) (next ∷ fields) in
      let fl : length block ≡ length f + 1 = field-length number true f in
      let front = take (n + 1) b in
      let back = drop (n + 1) b in
      let apart : front ++ back ≡ b = take-append-drop (n + 1) b in
      let rest = tail_is n (length f) (b ++ more) (block ++ tail)
      (tail_is y (pcb_octet (Info number true)) (n ∷ (b ++ more)) (length f ∷ (block ++ tail))
      (tail_is x 0 (y ∷ n ∷ (b ++ more)) (pcb_octet (Info number true) ∷ length f ∷ (block ++ tail))
      (e ∙ two number f next fields))) in
      let both = split_same front block (back ++ more) tail (omega (arith, length-take (n + 1) b, fl, len, le))
      (sym (append_assoc front back more) ∙ ap (λ (l : List ℕ). l ++ more) apart ∙ rest) in
      let r = go back both.1 in
      let least : chain_from (n + 1) (says_more y) b ≡ chain_from 0 true back =
      from-after (n + 1) (says_more y) b le ∙ ap (λ (m : Bool). chain_from 0 m back) said in
      record {
        fewer = omega (arith, least, r.fewer);
        field = f;
        others = r.field ∷ r.others;
        rest = r.rest;
        count = r.count ∙ sym least;
        is = (λ i. nad i ∷ pcb i ∷ len i ∷ (b ++ r.rest))
            ∙ ap (λ (l : List ℕ). 0 ∷ pcb_octet (Info number true) ∷ length f ∷ l)
            (ap (λ (l : List ℕ). l ++ r.rest) (sym apart) ∙ append_assoc front back r.rest
            ∙ ap (λ (l : List ℕ). l ++ (back ++ r.rest)) both.0 ∙ ap (λ (l : List ℕ). block ++ l) r.is);
        few = omega (arith, r.few);
        sizes = (size, r.sizes);
        octets = octets-append f (message_of (r.field ∷ r.others))
            (octets-left f (message_of (next ∷ fields)) octets) r.octets;
        small = omega (
          arith,
          length-append f (message_of (r.field ∷ r.others)),
          length-append f (message_of (next ∷ fields)),
          r.small,
        );
      }

  chained : (fields : List (List ℕ)) (number : Number) (b more : List ℕ) → 0 < length fields
      → AllByRecursion (λ f. length f ≤ ifs) fields → AreOctets (message_of fields) → b ++ more ≡ spelling number fields
      → Chained number fields b more
  chained [] number b more some sizes octets e = absurd (omega arith)
  chained (f ∷ fields) number [] more some sizes octets e =
      nothing number (f ∷ fields) more some (omega (arith, four number f fields, ap length e))
  chained (f ∷ []) number (x ∷ []) more some sizes octets e =
      after-nad number (f ∷ []) x more some (ap (λ (l : List ℕ). get_or l 0 0) e)
      (omega (arith, four number f [], ap length e))
  chained (f ∷ next ∷ fields) number (x ∷ []) more some sizes octets e =
      after-nad number (f ∷ next ∷ fields) x more some (ap (λ (l : List ℕ). get_or l 0 0) e)
      (omega (arith, four number f (next ∷ fields), ap length e))
  chained (f ∷ []) number (x ∷ y ∷ []) more some sizes octets e =
      last-pcb number (f ∷ []) x y more some (ap (λ (l : List ℕ). get_or l 0 0) e)
      (ap (λ (l : List ℕ). get_or l 1 0) e) (omega (arith, four number f [], ap length e))
  chained (f ∷ next ∷ fields) number (x ∷ y ∷ []) more some sizes octets e =
      more-pcb number (f ∷ next ∷ fields) x y more (omega arith) (ap (λ (l : List ℕ). get_or l 0 0) e)
      (ap (λ (l : List ℕ). get_or l 1 0) e)
      (omega (
        arith,
        ap length (e ∙ two number f next fields),
        field-length number true f,
        length-append (field_of number true f) (spelling (other number) (next ∷ fields)),
        four (other number) next fields,
      ))
  chained (f ∷ []) number (x ∷ y ∷ n ∷ b) more some sizes octets e =
      last-len number f x y n b more sizes.0 octets e
  chained (f ∷ next ∷ fields) number (x ∷ y ∷ n ∷ b) more some sizes octets e =
      elim (cases_lt (length b) (n + 1)) [
        | inl lt ↦ more-len number f next fields x y n b more sizes.0 octets lt e
        | inr le ↦ after-block number f next fields x y n b more sizes.0 octets le e
            (λ c is. chained (next ∷ fields) (other number) c more (omega arith) sizes.1
            (octets-right f (message_of (next ∷ fields)) octets) is)
      ]

pub chain_is_least : (ifs : ℕ) (number : Number) (max : ℕ) (b : List ℕ) → Begins (IsChain ifs number max) b
    → IsLeast (IsChain ifs number max) b (chain_least b)
chain_is_least ifs number max b h =
    let l = chained ifs h.0 number b h.1 h.2.proper.some h.2.proper.sizes h.2.proper.octets h.2.is in
    record {
      fewer = λ v more g.
          (chained ifs v number b more g.proper.some g.proper.sizes g.proper.octets g.is).fewer;
      enough = (
        l.field ∷ l.others,
        l.rest,
        l.count,
        record {
          proper = record {
            some = omega arith;
            few = omega (arith, l.few, h.2.proper.few);
            sizes = l.sizes;
            octets = l.octets;
            fits = omega (arith, l.small, h.2.proper.fits);
          };
          is = l.is;
        },
      );
    }
