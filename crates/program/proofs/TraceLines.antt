-- How the lines of a trace are judged as its octets come.
use Rattle.std.proofs.Common.{◌≡◌, ◌∙◌, ◌==◌, ◌++◌, ℕ, List, [], ◌∷◌, Bool, true, false, Option, Some, None, Ok, ap, append-nil, append_assoc, arith, is_some, refl, subst, sym}
use Rattle.std.proofs.lemmas.Bool.Decides.{nat_tests}
use Rattle.std.proofs.lemmas.List.Splits.{slice_split-cons_no, slice_split-cons_yes}
use Rattle.std.specs.List.{slice_split, onto_first}
use Rattle.exchange_text.specs.declared.fault.ExchangeFault.{ExchangeFault}
use Rattle.trace_text.specs.Reading.{is_line_end}
use Rattle.trace_judge.specs.Judging.{start, JudgesLines, JudgeState}
use Rattle.trace_judge.specs.declared.standing.Scope.{Scope}
use Rattle.judge_times.specs.Waiting.{Offered}
use Rattle.trace_judge.proofs.Lines.{one-more}
use Rattle.program.specs.Lines.{ended_lines, lines_after, rest_after}
use Rattle.program.specs.TraceLines.{lines_of, ComesTo, HasCome, HasFault, Takes}
use Rattle.program.proofs.ByLine.{lines-append, rest-append}

-- ---- the lines of a text are those that end, and the rest

-- there is at least one
pub record AreParts (text : List ℕ) : Type 0 where
  pub first : List ℕ
  pub more : List (List ℕ)
  pub are : slice_split is_line_end text ≡ first ∷ more

pub some-parts : (text : List ℕ) → AreParts text
some-parts [] = record { first = []; more = []; are = refl }
some-parts (x ∷ text) = go (x == 10) refl (some-parts text)
  where
    go : (t : Bool) → (x == 10) ≡ t → AreParts text → AreParts (x ∷ text)
    go true e parts = record {
      first = [];
      more = slice_split is_line_end text;
      are = slice_split-cons_yes is_line_end x text e;
    }
    go false e parts = record {
      first = x ∷ parts.first;
      more = parts.more;
      are = slice_split-cons_no is_line_end x text e ∙ ap (onto_first x) parts.are;
    }

-- octets before the first of some lines
abbrev prefixed : List ℕ → List (List ℕ) → List (List ℕ)
prefixed line [] = line ∷ []
prefixed line (first ∷ more) = (line ++ first) ∷ more

abbrev all-after : List ℕ → List ℕ → List (List ℕ)
all-after line b = lines_after line b ++ (rest_after line b ∷ [])

prefixed-onto : (line : List ℕ) (x : ℕ) (lines : List (List ℕ))
    → prefixed line (onto_first x lines) ≡ prefixed (line ++ (x ∷ [])) lines
prefixed-onto line x [] = refl
prefixed-onto line x (first ∷ more) = ap (λ (l : List ℕ). l ∷ more) (sym (append_assoc line (x ∷ []) first))

prefixed-none : (b : List ℕ) → prefixed [] (slice_split is_line_end b) ≡ slice_split is_line_end b
prefixed-none b = let parts = some-parts b in rw parts.are refl

split-after : (line b : List ℕ) → all-after line b ≡ prefixed line (slice_split is_line_end b)
split-after line [] = ap (λ (l : List ℕ). l ∷ []) (sym (append-nil line))
split-after line (x ∷ b) = go (x == 10) refl (split-after [] b) (split-after (line ++ (x ∷ [])) b)
  where
    go : (t : Bool) → (x == 10) ≡ t → all-after [] b ≡ prefixed [] (slice_split is_line_end b)
        → all-after (line ++ (x ∷ [])) b ≡ prefixed (line ++ (x ∷ [])) (slice_split is_line_end b)
        → all-after line (x ∷ b) ≡ prefixed line (slice_split is_line_end (x ∷ b))
    go true e ended more = rw (e, append-nil line)
        (ap (λ (l : List (List ℕ)). line ∷ l) (ended ∙ prefixed-none b))
    go false e ended more = rw e (more ∙ sym (prefixed-onto line x (slice_split is_line_end b)))

pub lines-are : (text : List ℕ) → lines_of text ≡ ended_lines text ++ (rest_after [] text ∷ [])
lines-are text =
    sym (split-after [] text ∙ prefixed-none text)

-- ---- octet by octet

-- no line is faulty
pub no-fault : (fault : Option ExchangeFault) → is_some fault ≡ false → fault ≡ None
no-fault None none = refl
no-fault (Some fault) none = cc none

module _ (offered : Offered) (scope : Scope) where
  -- before the first octet
  pub none-come : (s : JudgeState) (line : List ℕ) → s ≡ start offered scope → line ≡ []
      → HasCome offered scope [] s line None
  none-come s line begun none = record { come = ap Ok begun; unfinished = λ _. none }

  -- more lines come after the faulty one
  later : (lines more : List (List ℕ)) (line : List ℕ) (fault : ExchangeFault)
      → HasFault offered scope lines line fault → HasFault offered scope (lines ++ more) line fault
  later lines more line fault h = record {
    before = h.before;
    after = h.after ++ more;
    are_all = ap (λ (l : List (List ℕ)). l ++ more) h.are_all ∙ append_assoc h.before (line ∷ h.after) more;
    standing = h.standing;
    are_judged = h.are_judged;
    fails = h.fails;
  }

  -- octets after the faulty line are passed over
  pub passed-over : (s : JudgeState) (line : List ℕ) (fault : Option ExchangeFault) → is_some fault ≡ true
      → (read more : List ℕ) → HasCome offered scope read s line fault
      → HasCome offered scope (read ++ more) s line fault
  passed-over s line None some read more h = cc some
  passed-over s line (Some fault) some read more h = record {
    come = rw (lines-append [] read more)
        (later (ended_lines read) (lines_after (rest_after [] read) more) line fault h.come);
    unfinished = λ none. cc none;
  }

  pub passed-last : (s : JudgeState) (line : List ℕ) (fault : Option ExchangeFault) → is_some fault ≡ true
      → (read : List ℕ) → HasCome offered scope read s line fault → ComesTo offered scope (lines_of read) s line fault
  passed-last s line None some read h = cc some
  passed-last s line (Some fault) some read h =
      rw (lines-are read) (later (ended_lines read) (rest_after [] read ∷ []) line fault h.come)

  -- one more line is taken, after those that are judged
  taken : (lines : List (List ℕ)) (s after : JudgeState) (line kept : List ℕ) (found : Option ExchangeFault)
      → JudgesLines (start offered scope) lines (Ok s) → Takes s line after kept found
      → ComesTo offered scope (lines ++ (line ∷ [])) after kept found
  taken lines s after line kept None judged takes =
      one-more (start offered scope) s after lines line judged takes.0
  taken lines s after line kept (Some fault) judged takes = rw takes.1 (record {
    before = lines;
    after = [];
    are_all = refl;
    standing = s;
    are_judged = judged;
    fails = takes.0;
  })

  begins : (s after : JudgeState) (line kept : List ℕ) (found : Option ExchangeFault) → Takes s line after kept found
      → found ≡ None → kept ≡ []
  begins s after line kept None takes none = takes.1
  begins s after line kept (Some fault) takes none = cc none

  -- a line end: the line is taken
  pub after-line : (s after : JudgeState) (line kept : List ℕ) (fault found : Option ExchangeFault) (x : ℕ)
      → fault ≡ None → x ≡ 10 → Takes s line after kept found → (read : List ℕ)
      → HasCome offered scope read s line fault → HasCome offered scope (read ++ (x ∷ [])) after kept found
  after-line s after line kept fault found x sound is takes read h =
      let before : JudgesLines (start offered scope) (ended_lines read) (Ok s) =
      subst (λ (f : Option ExchangeFault). ComesTo offered scope (ended_lines read) s line f) sound h.come in
      let same = h.unfinished sound in
      rw is (record {
        come = rw (lines-append [] read (10 ∷ []))
            (subst (λ (l : List ℕ). ComesTo offered scope (ended_lines read ++ (l ∷ [])) after kept found) same
            (taken (ended_lines read) s after line kept found before takes));
        unfinished = λ none. rw (rest-append [] read (10 ∷ [])) (begins s after line kept found takes none);
      })

  -- the end of the text: the rest is a line too
  pub after-last : (s after : JudgeState) (line kept : List ℕ) (fault found : Option ExchangeFault)
      → fault ≡ None → Takes s line after kept found → (read : List ℕ)
      → HasCome offered scope read s line fault → ComesTo offered scope (lines_of read) after kept found
  after-last s after line kept fault found sound takes read h =
      let before : JudgesLines (start offered scope) (ended_lines read) (Ok s) =
      subst (λ (f : Option ExchangeFault). ComesTo offered scope (ended_lines read) s line f) sound h.come in
      let same = h.unfinished sound in
      rw (lines-are read)
      (subst (λ (l : List ℕ). ComesTo offered scope (ended_lines read ++ (l ∷ [])) after kept found) same
      (taken (ended_lines read) s after line kept found before takes))

  other : (x : ℕ) → (x ≡ 10 → ⊥) → (x == 10) ≡ false
  other x h = grind (arith, nat_tests)

  -- another octet: it is kept
  pub after-octet : (s : JudgeState) (line : List ℕ) (fault : Option ExchangeFault) (x : ℕ) → fault ≡ None
      → (x ≡ 10 → ⊥) → (read : List ℕ) → HasCome offered scope read s line fault
      → HasCome offered scope (read ++ (x ∷ [])) s (line ++ (x ∷ [])) fault
  after-octet s line None x sound not read h = record {
    come = rw (lines-append [] read (x ∷ []), other x not, append-nil (ended_lines read)) h.come;
    unfinished = λ none. rw (rest-append [] read (x ∷ []), other x not)
        (ap (λ (l : List ℕ). l ++ (x ∷ [])) (h.unfinished none));
  }
  after-octet s line (Some fault) x sound not read h = cc sound
