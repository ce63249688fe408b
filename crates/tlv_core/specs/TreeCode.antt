-- How contracts tell lists of objects apart: by the items in order, each with what follows it.
use Rattle.std.specs.Prelude.{◌≡◌, ℕ, List, [], ◌∷◌, ◌++◌, refl}
use Rattle.std.proofs.Common.{suc, zero, sym, append-nil, ap, ◌∙◌, append_assoc}
use Rattle.std.specs.Coded.{Coded, code_by, coded×, coded_ℕ, coded_list}
use Rattle.tlv_core.specs.declared.form.Form.{Form}
use Rattle.tlv_core.specs.declared.form.Form.TheVariants.{One}
use Rattle.tlv_core.specs.Form.{form_code}
use Rattle.tlv_core.specs.Tree.{Tree, End, Filler, Primitive, Constructed}

-- an item: its kind, and its tag, form and value if it has them
abbrev pub Item : Type 0
Item = ℕ × (List ℕ × (Form × List ℕ))

-- the items of a list and its end, each constructed object before its nodes
abbrev pub items_of : Tree → List Item
items_of End = (0, ([], (One, []))) ∷ []
items_of (Filler rest) = (1, ([], (One, []))) ∷ items_of rest
items_of (Primitive tag form value rest) = (2, (tag, (form, value))) ∷ items_of rest
items_of (Constructed tag form nodes rest) = (3, (tag, (form, []))) ∷ items_of nodes ++ items_of rest

abbrev with_two : Item → Tree → List Tree → List Tree
with_two i t [] = t ∷ []
with_two i t (u ∷ trees) = Constructed i.1.0 i.1.1.0 t u ∷ trees

abbrev with_one : ℕ → Item → List Tree → List Tree
with_one kind i [] = []
with_one zero i (t ∷ trees) = Filler t ∷ trees
with_one (suc zero) i (t ∷ trees) = Primitive i.1.0 i.1.1.0 i.1.1.1 t ∷ trees
with_one (suc (suc n)) i (t ∷ trees) = with_two i t trees

abbrev with_item : ℕ → Item → List Tree → List Tree
with_item zero i trees = End ∷ trees
with_item (suc n) i trees = with_one n i trees

abbrev trees_of : List Item → List Tree
trees_of [] = []
trees_of (i ∷ items) = with_item i.0 i (trees_of items)

abbrev first_tree : List Tree → Tree
first_tree [] = End
first_tree (t ∷ trees) = t

trees-back : (t : Tree) (items : List Item) → trees_of (items_of t ++ items) ≡ t ∷ trees_of items
trees-back End items = refl
trees-back (Filler rest) items = ap (with_item 1 (1, ([], (One, [])))) (trees-back rest items)
trees-back (Primitive tag form value rest) items = ap (with_item 2 (2, (tag, (form, value)))) (trees-back rest items)
trees-back (Constructed tag form nodes rest) items =
    ap (λ (is : List Item). with_item 3 (3, (tag, (form, []))) (trees_of is))
    (append_assoc (items_of nodes) (items_of rest) items)
    ∙ ap (with_item 3 (3, (tag, (form, []))))
    (trees-back nodes (items_of rest ++ items) ∙ ap (λ (ts : List Tree). nodes ∷ ts) (trees-back rest items))

-- the items of a list give the list again
pub tree-back : (t : Tree) → first_tree (trees_of (items_of t)) ≡ t
tree-back t = ap (λ (is : List Item). first_tree (trees_of is)) (sym (append-nil (items_of t)))
    ∙ ap first_tree (trees-back t [])

-- lists with the same items are equal
pub one_tree : (s t : Tree) → items_of s ≡ items_of t → s ≡ t
one_tree s t e = sym (tree-back s) ∙ ap (λ (is : List Item). first_tree (trees_of is)) e ∙ tree-back t

-- contracts tell lists apart by their items
abbrev pub tree_code : Coded Tree
tree_code = code_by (List Item) (coded_list
    (coded× coded_ℕ (coded× (coded_list coded_ℕ) (coded× form_code (coded_list coded_ℕ))))) items_of
    (λ is. first_tree (trees_of is)) tree-back
