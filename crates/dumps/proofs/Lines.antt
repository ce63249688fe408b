-- How the lines of a dump are taken, one after another.
use Rattle.std.proofs.Common.{◌≡◌, ◌<◌, ◌∙◌, ◌++◌, inl, inr, ℕ, zero, suc, List, [], ◌∷◌, Result, Ok, Err, refl, ap, sym, append_assoc, append-nil, add-one, ◌+◌, arith, length, get_or, drop}
use Rattle.std.proofs.lemmas.List.{drop_more, drop_all}
use Rattle.dumps.specs.Dump.{◌>>=◌, copies, ended, with_line, with_lines, Becomes, Taken, UnlessMemory}
use Rattle.dumps.specs.declared.fault.DumpFault.{DumpFault}

-- ---- copies

pub copies-more : (count : ℕ) (row : List ℕ) → copies (suc count) row ≡ copies count row ++ row
copies-more zero row = append-nil row
copies-more (suc count) row =
    ap (λ (more : List ℕ). row ++ more) (copies-more count row) ∙ sym (append_assoc row (copies count row) row)

-- one copy more
pub copied : (old now longer row : List ℕ) (done : ℕ) → now ≡ old ++ copies done row → longer ≡ now ++ row
    → longer ≡ old ++ copies (done + 1) row
copied old now longer row done so_far is =
    rw (is, so_far, add-one, copies-more done row, append_assoc) refl

-- ---- lines

-- the line at a place is taken
pub next-line : (before after : Taken) (line : List ℕ) (lines : List (List ℕ)) (i : ℕ) (all : Result Taken DumpFault)
    → (i < length lines) × (line ≡ get_or lines i line) → Becomes (with_line before line) after (Ok tt)
    → with_lines before (drop i lines) ≡ all → with_lines after (drop (i + 1) lines) ≡ all
next-line before after line lines i all at is kept =
    let next : drop i lines ≡ line ∷ drop (i + 1) lines =
    drop_more lines i line at.0 ∙ ap (λ (l : List ℕ). l ∷ drop (i + 1) lines) (sym at.1) in
    let one : with_lines before (line ∷ drop (i + 1) lines) ≡ with_lines after (drop (i + 1) lines) = rw is refl in
    sym one ∙ ap (with_lines before) (sym next) ∙ kept

-- or it is at fault, and that is the fault of the text, or memory ran out
pub next-fault : (before after : Taken) (line : List ℕ) (lines : List (List ℕ)) (i : ℕ)
    (all : Result Taken DumpFault) (fault : DumpFault) → (i < length lines) × (line ≡ get_or lines i line)
    → Becomes (with_line before line) after (Err fault) → with_lines before (drop i lines) ≡ all
    → UnlessMemory (Err fault) all
next-fault before after line lines i all fault at (inl memory) kept = inl memory
next-fault before after line lines i all fault at (inr said) kept =
    let next : drop i lines ≡ line ∷ drop (i + 1) lines =
    drop_more lines i line at.0 ∙ ap (λ (l : List ℕ). l ∷ drop (i + 1) lines) (sym at.1) in
    let one : with_lines before (line ∷ drop (i + 1) lines) ≡ Err fault = rw (sym said) refl in
    inr (sym one ∙ ap (with_lines before) (sym next) ∙ kept)

-- no line is left
pub no-more : (taken : Taken) (lines : List (List ℕ)) (i : ℕ) (all : Result Taken DumpFault) → i ≡ length lines
    → with_lines taken (drop i lines) ≡ all → Ok taken ≡ all
no-more taken lines i all e kept =
    let none : drop i lines ≡ [] = rw e (drop_all (length lines) lines (omega arith)) in
    ap (with_lines taken) (sym none) ∙ kept

-- ---- a text

-- a fault of the lines is that of the text
pub fault-of-all : (fault : DumpFault) (all : Result Taken DumpFault) → UnlessMemory (Err fault) all
    → UnlessMemory (Err fault) (all >>= ended)
fault-of-all fault all (inl memory) = inl (ap (λ (r : Result Taken DumpFault). r >>= ended) memory)
fault-of-all fault all (inr said) = inr (ap (λ (r : Result Taken DumpFault). r >>= ended) said)

-- and what all lines gave is ended
pub whole-text : (taken : Taken) (all : Result Taken DumpFault) → Ok taken ≡ all → ended taken ≡ all >>= ended
whole-text taken all e = ap (λ (r : Result Taken DumpFault). r >>= ended) e
