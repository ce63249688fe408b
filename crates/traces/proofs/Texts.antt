-- How the lines of a text are taken, one after another.
use Rattle.std.proofs.Common.{◌≡◌, ◌<◌, ◌∙◌, inl, inr, ℕ, List, [], ◌∷◌, true, false, Result, Ok, Err, refl, ap, sym, ◌+◌, arith, length, get_or, drop}
use Rattle.std.specs.List.{slice_split}
use Rattle.std.proofs.lemmas.List.{drop_more, drop_all}
use Rattle.trace_text.specs.Reading.{◌>>=◌, is_line_end}
use Rattle.traces.specs.declared.reading.TraceFault.{TraceFault}
use Rattle.traces.specs.declared.trace.Item.{Item}
use Rattle.traces.specs.Unfit.{is_said, item_line, left_after}
use Rattle.traces.specs.Reading.{nothing_taken, trace_of, with_line, with_lines, Taken, UnlessMemory}

-- what the lines so far said, with the lines that are left, is what all lines say, and each line was counted
pub record IsTaken (taken : Taken) (lines : List (List ℕ)) (done : ℕ) (all : Result Taken TraceFault) : Type 0 where
  pub same : with_lines taken (drop done lines) ≡ all
  pub number : taken.number ≡ done + 1

-- the line at a place is taken
pub next-line : (before after : Taken) (line : List ℕ) (lines : List (List ℕ)) (i : ℕ)
    (all : Result Taken TraceFault) → (i < length lines) × (line ≡ get_or lines i line)
    → with_line before line ≡ Ok after → after.number ≡ before.number + 1 → IsTaken before lines i all
    → IsTaken after lines (i + 1) all
next-line before after line lines i all at is count kept =
    let next : drop i lines ≡ line ∷ drop (i + 1) lines =
    drop_more lines i line at.0 ∙ ap (λ (l : List ℕ). l ∷ drop (i + 1) lines) (sym at.1) in
    let one : with_lines before (line ∷ drop (i + 1) lines) ≡ with_lines after (drop (i + 1) lines) = rw is refl in
    record {
      same = sym one ∙ ap (with_lines before) (sym next) ∙ kept.same;
      number = let k = kept.number in omega arith;
    }

-- or it is at fault, and that is the fault of the text, or memory ran out
pub next-fault : (before : Taken) (line : List ℕ) (lines : List (List ℕ)) (i : ℕ) (all : Result Taken TraceFault)
    (fault : TraceFault) → (i < length lines) × (line ≡ get_or lines i line)
    → UnlessMemory (Err fault) (with_line before line) → IsTaken before lines i all → UnlessMemory (Err fault) all
next-fault before line lines i all fault at (inl memory) kept = inl memory
next-fault before line lines i all fault at (inr said) kept =
    let next : drop i lines ≡ line ∷ drop (i + 1) lines =
    drop_more lines i line at.0 ∙ ap (λ (l : List ℕ). l ∷ drop (i + 1) lines) (sym at.1) in
    let one : with_lines before (line ∷ drop (i + 1) lines) ≡ Err fault = rw (sym said) refl in
    inr (sym one ∙ ap (with_lines before) (sym next) ∙ kept.same)

-- no line is left
pub no-more : (taken : Taken) (lines : List (List ℕ)) (i : ℕ) (all : Result Taken TraceFault) → i ≡ length lines
    → IsTaken taken lines i all → Ok taken ≡ all
no-more taken lines i all e kept =
    let none : drop i lines ≡ [] = rw e (drop_all (length lines) lines (omega arith)) in
    ap (with_lines taken) (sym none) ∙ kept.same

abbrev items : Result Taken TraceFault → Result (List Item) TraceFault
items all = all >>= (λ t. Ok t.items)

-- a fault of the lines is that of the text
pub fault-of-text : (fault : TraceFault) (text : List ℕ)
    → UnlessMemory (Err fault) (with_lines nothing_taken (slice_split is_line_end text))
    → UnlessMemory (Err fault) (trace_of text)
fault-of-text fault text (inl memory) = inl (ap items memory)
fault-of-text fault text (inr said) = inr (ap items said)

-- and what all lines gave is what the text says
pub whole-text : (taken : Taken) (text : List ℕ)
    → Ok taken ≡ with_lines nothing_taken (slice_split is_line_end text) → Ok taken.items ≡ trace_of text
whole-text taken text e = ap items e

-- ---- the line of an item

-- the line at a place doesn't say it
pub not-said : (number left : ℕ) (line : List ℕ) (lines : List (List ℕ)) (i all : ℕ)
    → (i < length lines) × (line ≡ get_or lines i line) → item_line number left (drop i lines) ≡ all
    → is_said line left ≡ false → item_line (number + 1) (left_after line left) (drop (i + 1) lines) ≡ all
not-said number left line lines i all at h e =
    let next : drop i lines ≡ line ∷ drop (i + 1) lines =
    drop_more lines i line at.0 ∙ ap (λ (l : List ℕ). l ∷ drop (i + 1) lines) (sym at.1) in
    let one : item_line number left (line ∷ drop (i + 1) lines)
    ≡ item_line (number + 1) (left_after line left) (drop (i + 1) lines) = rw e refl in
    sym one ∙ ap (item_line number left) (sym next) ∙ h

-- or it does
pub is-said : (number left : ℕ) (line : List ℕ) (lines : List (List ℕ)) (i all : ℕ)
    → (i < length lines) × (line ≡ get_or lines i line) → item_line number left (drop i lines) ≡ all
    → is_said line left ≡ true → number ≡ all
is-said number left line lines i all at h e =
    let next : drop i lines ≡ line ∷ drop (i + 1) lines =
    drop_more lines i line at.0 ∙ ap (λ (l : List ℕ). l ∷ drop (i + 1) lines) (sym at.1) in
    let one : item_line number left (line ∷ drop (i + 1) lines) ≡ number = rw e refl in
    sym one ∙ ap (item_line number left) (sym next) ∙ h

-- or no line is left
pub none-said : (number left : ℕ) (lines : List (List ℕ)) (i all : ℕ) → i ≡ length lines
    → item_line number left (drop i lines) ≡ all → number ≡ all
none-said number left lines i all e h =
    let none : drop i lines ≡ [] = rw e (drop_all (length lines) lines (omega arith)) in
    ap (item_line number left) (sym none) ∙ h
