-- The values of parts, where they stand in the octets of their forest.
use Rattle.std.proofs.Common.{◌≡◌, ℕ, ◌+◌, List, [], ◌∷◌, ◌++◌, length, take, drop, refl, sym, ap, ◌∙◌, arith, append_assoc, length-append}
use Rattle.std.specs.Prelude.{map}
use Rattle.std.proofs.Math.Seq.{take-append_seam, drop-append_seam}
use Rattle.std.proofs.lemmas.List.{map-append}
use Rattle.tlv_core.specs.Tag.{header_of}
use Rattle.tlv_core.specs.Tree.{Tree, End, Filler, Primitive, Constructed}
use Rattle.tlv_core.specs.Forest.{spelling}
use Rattle.tlv_core.specs.Parts.{preorder}
use Rattle.tlv_core.specs.Flat.{PartValue, part_in, parts_of}

value_in : (b front value back : List ℕ) (place n : ℕ) → b ≡ front ++ (value ++ back) → length front ≡ place
    → length value ≡ n → take n (drop place b) ≡ value
value_in b front value back place n e place_is n_is =
    ap (λ (l : List ℕ). take n (drop place l)) e
    ∙ ap (λ (p : ℕ). take n (drop p (front ++ (value ++ back)))) (sym place_is)
    ∙ ap (take n) (drop-append_seam front (value ++ back)) ∙ ap (λ (m : ℕ). take m (value ++ back)) (sym n_is)
    ∙ take-append_seam value back

regroup_object : (a h v r x : List ℕ) → a ++ ((h ++ (v ++ r)) ++ x) ≡ (a ++ h) ++ (v ++ (r ++ x))
regroup_object a h v r x = simp append_assoc

regroup_rest : (a h v r x : List ℕ) → a ++ ((h ++ (v ++ r)) ++ x) ≡ ((a ++ h) ++ v) ++ (r ++ x)
regroup_rest a h v r x = simp append_assoc

regroup_filler : (a r x : List ℕ) → a ++ (0 ∷ (r ++ x)) ≡ (a ++ 0 ∷ []) ++ (r ++ x)
regroup_filler a r x = simp append_assoc

-- they are the values of the tree
pub values_are : (t : Tree) (d place : ℕ) (b front back : List ℕ) → b ≡ front ++ (spelling t ++ back)
    → length front ≡ place → map (part_in b) (preorder d place t) ≡ parts_of d place t
values_are End d place b front back e is = refl
values_are (Filler rest) d place b front back e is =
    values_are rest d (place + 1) b (front ++ 0 ∷ []) back (e ∙ regroup_filler front (spelling rest) back)
    (omega (arith, length-append front (0 ∷ [])))
values_are (Primitive tag form value rest) d place b front back e is =
    let n = length value in
    let header = header_of tag form n in
    let at = place + length header in
    let before : length (front ++ header) ≡ at = omega (arith, length-append front header) in
    let here = value_in b (front ++ header) value (spelling rest ++ back) at n
    (e ∙ regroup_object front header value (spelling rest) back) before refl in
    let further = values_are rest d (at + n) b ((front ++ header) ++ value) back
    (e ∙ regroup_rest front header value (spelling rest) back)
    (omega (arith, length-append (front ++ header) value)) in
    ap (λ (v : List ℕ). record { depth = d; tag = tag; form = form; place = at; value = v } ∷ map (part_in b)
    (preorder d (at + n) rest)) here
    ∙ ap (λ (l : List PartValue). record { depth = d; tag = tag; form = form; place = at; value = value } ∷ l) further
values_are (Constructed tag form nodes rest) d place b front back e is =
    let n = length (spelling nodes) in
    let header = header_of tag form n in
    let at = place + length header in
    let before : length (front ++ header) ≡ at = omega (arith, length-append front header) in
    let all = e ∙ regroup_object front header (spelling nodes) (spelling rest) back in
    let here = value_in b (front ++ header) (spelling nodes) (spelling rest ++ back) at n all before refl in
    let inside = values_are nodes (d + 1) at b (front ++ header) (spelling rest ++ back) all before in
    let further = values_are rest d (at + n) b ((front ++ header) ++ spelling nodes) back
    (e ∙ regroup_rest front header (spelling nodes) (spelling rest) back)
    (omega (arith, length-append (front ++ header) (spelling nodes))) in
    let more = map-append (part_in b) (preorder (d + 1) at nodes) (preorder d (at + n) rest)
    ∙ ap (λ (l : List PartValue). l ++ map (part_in b) (preorder d (at + n) rest)) inside
    ∙ ap (λ (l : List PartValue). parts_of (d + 1) at nodes ++ l) further in
    ap (λ (v : List ℕ). record { depth = d; tag = tag; form = form; place = at; value = v } ∷ map (part_in b)
    (preorder (d + 1) at nodes ++ preorder d (at + n) rest)) here
    ∙ ap (λ (l : List PartValue). record { depth = d; tag = tag; form = form; place = at; value = spelling nodes } ∷ l)
    more
