-- How the lines of a trace are judged, one after another.
use Rattle.std.proofs.Common.{◌≡◌, inl, inr, ℕ, List, [], ◌∷◌, ◌++◌, Result, Ok, Err, refl, ap, ◌+◌, arith, length, subst, MatchResult}
use Rattle.std.specs.List.{slice_split}
use Rattle.exchange_text.specs.declared.fault.ExchangeFault.{ExchangeFault}
use Rattle.trace_text.specs.Reading.{entry_of, is_line_end}
use Rattle.trace_text.specs.declared.entry.Entry.{Entry}
use Rattle.trace_judge.specs.declared.standing.Judgment.{Judgment}
use Rattle.trace_judge.specs.declared.standing.Scope.{Scope}
use Rattle.judge_times.specs.Waiting.{Offered}
use Rattle.trace_judge.specs.Judging.{start, Fails, IsConcluded, IsEntered, Judges, JudgesLine, JudgesLines, JudgeState}

abbrev standing-of : JudgeState → Result JudgeState ExchangeFault → JudgeState
standing-of otherwise (Ok s) = s
standing-of otherwise (Err fault) = otherwise

-- what more lines come to after the first ones is what all come to
pub joined : (begun s : JudgeState) (done more : List (List ℕ)) (all : Result JudgeState ExchangeFault)
    → JudgesLines begun done (Ok s) → JudgesLines s more all → JudgesLines begun (done ++ more) all
joined begun s [] more all h g =
    subst (λ (m : JudgeState). JudgesLines m more all) (ap (standing-of begun) h) g
joined begun s (line ∷ done) more all (inl (m, is, left)) g = inl (m, is, joined m s done more all left g)
joined begun s (line ∷ done) more all (inr (fault, fails, e)) g = cc e

-- each line is counted
pub line-number : (s after : JudgeState) (line : List ℕ) → JudgesLine s line after → after.number ≡ s.number + 1
line-number s after line h = go (entry_of s.number line) h
  where
    go : (read : Result Entry ExchangeFault) → MatchResult read
        (λ entry. (m : JudgeState) × IsEntered s entry m × (after ≡ record m { number = s.number + 1 })) (λ fault. ⊥)
        → after.number ≡ s.number + 1
    go (Ok entry) (m, is, e) = ap (λ (t : JudgeState). t.number) e
    go (Err fault) h = absurd h

pub lines-number : (begun s : JudgeState) (lines : List (List ℕ)) → JudgesLines begun lines (Ok s)
    → s.number ≡ begun.number + length lines
lines-number begun s [] h =
    let same = ap (λ (r : Result JudgeState ExchangeFault). (standing-of begun r).number) h in
    omega (arith, same)
lines-number begun s (line ∷ lines) (inl (m, is, left)) =
    omega (arith, line-number begun m line is, lines-number m s lines left)
lines-number begun s (line ∷ lines) (inr (fault, fails, e)) = cc e

-- one more line is judged
pub one-more : (begun s after : JudgeState) (done : List (List ℕ)) (line : List ℕ) → JudgesLines begun done (Ok s)
    → JudgesLine s line after → JudgesLines begun (done ++ (line ∷ [])) (Ok after)
one-more begun s after done line h is = joined begun s done (line ∷ []) (Ok after) h (inl (after, is, refl))

-- or it is at fault, and so are all lines that begin with these
pub stopped : (begun s : JudgeState) (done more : List (List ℕ)) (line : List ℕ) (fault : ExchangeFault)
    → JudgesLines begun done (Ok s) → Fails s line fault → JudgesLines begun (done ++ (line ∷ more)) (Err fault)
stopped begun s done more line fault h fails =
    joined begun s done (line ∷ more) (Err fault) h (inr (fault, fails, refl))

-- a fault of the lines is that of the text
pub faulted : (offered : Offered) (scope : Scope) (text : List ℕ) (fault : ExchangeFault)
    → JudgesLines (start offered scope) (slice_split is_line_end text) (Err fault)
    → Judges offered scope text (Err fault)
faulted offered scope text fault all = inr (Err fault, all, refl)

-- and the text is concluded
pub concluded : (offered : Offered) (scope : Scope) (text : List ℕ) (s : JudgeState) (judgment : Judgment)
    → JudgesLines (start offered scope) (slice_split is_line_end text) (Ok s) → IsConcluded s judgment
    → Judges offered scope text (Ok judgment)
concluded offered scope text s judgment all is = inr (Ok s, all, is)
