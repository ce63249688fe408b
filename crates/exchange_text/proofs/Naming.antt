-- What a word names, and the words of the names.
use Rattle.std.proofs.Common.{◌≡◌, ℕ, List, Bool, true, false, Option, Some, refl, ap, ◌∙◌, rules, if◌then◌else◌, [], ◌∷◌, ◌&&◌}
use Rattle.std.specs.Str.{bytes_eq}
use Rattle.exchange_text.specs.Names.{names, named_in, name_of, name_text}
use Rattle.exchange_text.specs.declared.name.Name.{Name}

-- octets that compare as equal are the same
pub same-bytes : (a b : List ℕ) → bytes_eq a b ≡ true → a ≡ b
same-bytes a b e = search (rules, e)

named : (w : List ℕ) (n m : Name) (b : Bool) → (b ≡ true → w ≡ name_text n) → (rest : Option Name)
    → (rest ≡ Some m → w ≡ name_text m) → (if b then Some n else rest) ≡ Some m → w ≡ name_text m
named w n m true h rest k e = let same : n ≡ m = cc in h refl ∙ ap name_text same
named w n m false h rest k e = k e

-- a word is what it names
named-in : (names : List Name) (w : List ℕ) (m : Name) → named_in names w ≡ Some m → w ≡ name_text m
named-in [] w m e = cc
named-in (n ∷ names) w m e = named w n m (bytes_eq w (name_text n)) (same-bytes w (name_text n)) (named_in names w)
    (named-in names w m) e

-- a word that names something is the text of that name
pub name-text : (w : List ℕ) (m : Name) → name_of w ≡ Some m → w ≡ name_text m
name-text w m e = named-in names w m e

-- where two tests hold together, each of them does
pub both : (a b : Bool) → a && b ≡ true → (a ≡ true) × (b ≡ true)
both true true h = (refl, refl)
both true false h = cc
both false b h = cc
