-- Answers to reset that are written to a struct of C, TD by TD.
use Rattle.std.proofs.Common.{◌≡◌, ◌∙◌, ◌+◌, ◌-◌, ◌<◌, ◌≤◌, ◌++◌, ◌∷◌, [], ℕ, suc, List, length, take, map, replicate, get_or, append_assoc, ap, sym, arith, refl, Option, Some, None}
use Rattle.std.proofs.lemmas.List.{take_more, take_all, length-map, length-take, map-append}
use Rattle.std.proofs.Math.Seq.{set-append_seam, take-append_seam}
use Rattle.std.proofs.Math.ListN.{set}
use Rattle.atr_core.specs.declared.atr.Indicated.{Indicated}
use Rattle.c_lent.specs.declared.atr.CIndicated.{CIndicated}
use Rattle.c_lent.specs.Atr.{byte_of, mark_shown, byte_shown, indicated_of, indicated_shown, no_indicated}

at-seam : (xs : List CIndicated) (k m : ℕ) (y : CIndicated) → k ≡ suc m
    → set (xs ++ replicate k no_indicated) (length xs) y ≡ (xs ++ y ∷ []) ++ replicate m no_indicated
at-seam xs k m y more =
    ap (λ (n : ℕ). set (xs ++ replicate n no_indicated) (length xs) y) more
    ∙ set-append_seam xs no_indicated (replicate m no_indicated) y
    ∙ sym (append_assoc xs (y ∷ []) (replicate m no_indicated))

-- one TD more
pub one-told : (xs : List Indicated) (i : ℕ) (d : Indicated) → i < length xs → length xs ≤ 31
    → set (map indicated_shown (take i xs) ++ replicate (31 - i) no_indicated) i (indicated_shown (get_or xs i d))
    ≡ map indicated_shown (take (i + 1) xs) ++ replicate (31 - (i + 1)) no_indicated
one-told xs i d inside few =
    let before : List CIndicated = map indicated_shown (take i xs) in
    let y : CIndicated = indicated_shown (get_or xs i d) in
    let n : length before ≡ i = omega (arith, length-map (take i xs) indicated_shown, length-take i xs, inside) in
    ap (λ (k : ℕ). set (before ++ replicate (31 - i) no_indicated) k y) (sym n)
    ∙ at-seam before (31 - i) (31 - (i + 1)) y (omega (arith, inside, few))
    ∙ ap (λ (l : List CIndicated). l ++ replicate (31 - (i + 1)) no_indicated)
    (sym (ap (map indicated_shown) (take_more xs i d inside) ∙ map-append indicated_shown (take i xs)
    (get_or xs i d ∷ [])))

byte-again : (o : Option ℕ) → byte_of (mark_shown o) (byte_shown o) ≡ o
byte-again None = refl
byte-again (Some byte) = refl

again : (xs : List Indicated) → map indicated_of (map indicated_shown xs) ≡ xs
again [] = refl
again (x ∷ xs) = λ i. record {
  protocol = x.protocol;
  bytes = record {
    ta = byte-again x.bytes.ta i;
    tb = byte-again x.bytes.tb i;
    tc = byte-again x.bytes.tc i;
  };
} ∷ again xs i

-- the struct describes the TDs that were written to it
pub said : (xs : List Indicated) (n : ℕ) (rest out : List CIndicated) → out ≡ map indicated_shown (take n xs) ++ rest
    → length xs ≤ n → map indicated_of (take (length xs) out) ≡ xs
said xs n rest out is all =
    let told : List CIndicated = map indicated_shown xs in
    ap (λ (l : List CIndicated). map indicated_of (take (length xs) l))
    (is ∙ ap (λ (l : List Indicated). map indicated_shown l ++ rest) (take_all n xs all))
    ∙ ap (λ (k : ℕ). map indicated_of (take k (told ++ rest))) (sym (length-map xs indicated_shown))
    ∙ ap (map indicated_of) (take-append_seam told rest)
    ∙ again xs
