-- How far the lines of a text reach, and what stops a dump among them.
use Rattle.std.proofs.Common.{◌≡◌, ◌<◌, ◌∙◌, ℕ, suc, List, [], ◌∷◌, Bool, true, false, Option, Some, Ok, Err, cond, refl, ap, sym, ◌+◌, arith, length, get_or, drop}
use Rattle.std.specs.List.{slice_split, onto_first}
use Rattle.std.proofs.lemmas.List.{drop_more, drop_all}
use Rattle.dumps.specs.Dump.{ended, with_line, Taken}
use Rattle.dumps.specs.DumpStop.{placed, stop_at_end, stop_from, stop_in}
use Rattle.dumps.specs.declared.fault.DumpFault.TheVariants.{Form}
use Rattle.dumps.specs.declared.no_dump.DumpWrong.{DumpWrong}

-- how many characters some lines have, each with its end
pub room : List (List ℕ) → ℕ
room [] = 0
room (line ∷ lines) = suc (length line) + room lines

room-onto : (x : ℕ) (lines : List (List ℕ)) (n : ℕ) → room lines ≡ suc n → room (onto_first x lines) ≡ suc (suc n)
unfolding room
room-onto x [] n e = absurd (omega arith)
room-onto x (line ∷ lines) n e = omega arith

room-split : (b : Bool) (x : ℕ) (lines : List (List ℕ)) (n : ℕ) → room lines ≡ suc n
    → room (cond b ([] ∷ lines) (onto_first x lines)) ≡ suc (suc n)
unfolding room
room-split true x lines n e = omega arith
room-split false x lines n e = room-onto x lines n e

-- the last line has none
pub room-all : (p : ℕ → Bool) (text : List ℕ) → room (slice_split p text) ≡ suc (length text)
unfolding room
room-all p [] = refl
room-all p (x ∷ text) = room-split (p x) x (slice_split p text) (length text) (room-all p text)

pub room-next : (lines : List (List ℕ)) (i : ℕ) (line : List ℕ) → (i < length lines) × (line ≡ get_or lines i line)
    → room (drop i lines) ≡ suc (length line) + room (drop (i + 1) lines)
unfolding room
room-next lines i line at =
    ap room (drop_more lines i line at.0 ∙ ap (λ (l : List ℕ). l ∷ drop (i + 1) lines) (sym at.1))

-- the line at a place is taken
pub stop-next : (end start : ℕ) (before after : Taken) (line : List ℕ) (lines : List (List ℕ)) (i : ℕ)
    (all : Option (ℕ × DumpWrong)) → (i < length lines) × (line ≡ get_or lines i line)
    → with_line before line ≡ Ok after → stop_from end start before (drop i lines) ≡ all
    → stop_from end (start + suc (length line)) after (drop (i + 1) lines) ≡ all
stop-next end start before after line lines i all at is kept =
    let next : drop i lines ≡ line ∷ drop (i + 1) lines =
    drop_more lines i line at.0 ∙ ap (λ (l : List ℕ). l ∷ drop (i + 1) lines) (sym at.1) in
    let one : stop_from end start before (line ∷ drop (i + 1) lines)
    ≡ stop_from end (start + suc (length line)) after (drop (i + 1) lines) = rw is refl in
    sym one ∙ ap (stop_from end start before) (sym next) ∙ kept

-- or it is where the text stops
pub stop-here : (end start : ℕ) (before : Taken) (line : List ℕ) (lines : List (List ℕ)) (i : ℕ)
    (all : Option (ℕ × DumpWrong)) (stop : ℕ × DumpWrong) → (i < length lines) × (line ≡ get_or lines i line)
    → with_line before line ≡ Err Form → stop ≡ stop_in before line
    → stop_from end start before (drop i lines) ≡ all → Some (placed start stop) ≡ all
stop-here end start before line lines i all stop at is stops kept =
    let next : drop i lines ≡ line ∷ drop (i + 1) lines =
    drop_more lines i line at.0 ∙ ap (λ (l : List ℕ). l ∷ drop (i + 1) lines) (sym at.1) in
    let one : stop_from end start before (line ∷ drop (i + 1) lines) ≡ Some (placed start (stop_in before line)) =
    rw is refl in
    ap (λ (s : ℕ × DumpWrong). Some (placed start s)) stops ∙ sym one ∙ ap (stop_from end start before) (sym next)
    ∙ kept

-- no line is left
pub stop-end : (end start : ℕ) (taken : Taken) (lines : List (List ℕ)) (i : ℕ) (all : Option (ℕ × DumpWrong))
    → i ≡ length lines → stop_from end start taken (drop i lines) ≡ all → stop_at_end end (ended taken) ≡ all
stop-end end start taken lines i all e kept =
    let none : drop i lines ≡ [] = rw e (drop_all (length lines) lines (omega arith)) in
    ap (stop_from end start taken) (sym none) ∙ kept
