-- That the note on the faulty line of a trace needs that line alone.
use Rattle.std.proofs.Common.{◌≡◌, ◌⊎◌, ◌∙◌, ◌==◌, ◌++◌, ◌+◌, ◌-◌, ◌&&◌, inl, inr, not, if◌then◌else◌, ℕ, List, [], ◌∷◌, codes, length, nat_le, suc, take, zero, Bool, true, false, Option, Some, None, Result, Ok, Err, MatchResult, ap, arith, encode_utf8, refl, subst, sym}
use Rattle.std.specs.Str.{bytes_eq}
use Rattle.std.proofs.lemmas.Bool.Decides.{nat_tests}
use Rattle.std.proofs.lemmas.List.{length-append}
use Rattle.std.proofs.lemmas.List.Splits.{slice_split-cons_no, slice_split-cons_yes}
use Rattle.std.specs.List.{slice_split, onto_first}
use Rattle.hex.specs.Hex.{decode_of}
use Rattle.hex.specs.declared.error.FromHexError.{FromHexError}
use Rattle.octet_core.specs.Decimal.{decimal_number}
use Rattle.exchange_text.specs.Names.{name_text}
use Rattle.exchange_text.specs.declared.name.Name.TheVariants as name
use Rattle.exchange_text.specs.declared.fault.ExchangeFault.{ExchangeFault}
use Rattle.exchange_text.specs.declared.fault.ExchangeFault.TheVariants.{Word, Hex, Falls}
use Rattle.block_core.specs.declared.side.Side.{Side}
use Rattle.block_core.specs.declared.side.Side.TheVariants as side
use Rattle.trace_text.specs.declared.entry.Entry.{Entry}
use Rattle.trace_text.specs.declared.entry.Entry.TheVariants.{Nothing, Quiet, Reset, Midway}
use Rattle.trace_text.specs.declared.entry.Reach.TheVariants.{Unsaid, Lost, Parity}
use Rattle.trace_text.specs.Reading.{◌>>=◌, block_said, entry_of, event_said, is_empty, is_line_end, is_none, is_silent, is_unknown, is_wrong, moment_by, moment_said, named_said, octets_by, octets_said, reach_by, reach_said, words_of, Words}
use Rattle.trace_judge.specs.Judging.{start, Fails, IsFalling, JudgeState}
use Rattle.trace_judge.specs.declared.standing.Scope.{Scope}
use Rattle.judge_times.specs.Waiting.{Offered}
use Rattle.trace_judge.proofs.Lines.{lines-number}
use Rattle.explainer.specs.Notes.{line_note}
use Rattle.explainer.specs.Texts.{character}
use Rattle.program.specs.FileNotes.{expected_seen, kept_note, line_from, line_shown, trace_note}
use Rattle.program.specs.TraceLines.{lines_of, HasFault}
use Rattle.program.proofs.TraceLines.{some-parts, AreParts}

-- ---- a fault is at its line

-- the fault of the line with this number
abbrev IsAt : ℕ → ExchangeFault → Type 0
IsAt number fault = (fault ≡ Word number) ⊎ ((fault ≡ Hex number) ⊎ (fault ≡ Falls number))

abbrev ReadAt : {A : Type 0} → ℕ → Result A ExchangeFault → Type 0
ReadAt number read = MatchResult read (λ _. Unit {0}) (IsAt number)

either : {A : Type 0} (number : ℕ) (b : Bool) (x y : Result A ExchangeFault) → ReadAt number x → ReadAt number y
    → ReadAt number (if b then x else y)
either number true x y h g = h
either number false x y h g = g

then-read : {A B : Type 0} (number : ℕ) (r : Result A ExchangeFault) (f : A → Result B ExchangeFault)
    → ReadAt number r → ((a : A) → ReadAt number (f a)) → ReadAt number (r >>= f)
then-read number (Ok a) f h g = g a
then-read number (Err fault) f h g = h

wrong : (number : ℕ) → IsAt number (Word number)
wrong number = inl refl

hex-read : (number : ℕ) (r : Result (List ℕ) FromHexError) → ReadAt number (octets_by number r)
hex-read number (Ok octets) = tt
hex-read number (Err fault) = inr (inl refl)

octets-read : (number : ℕ) (word : List ℕ) → ReadAt number (octets_said number word)
octets-read number word = either number (is_none word) (Ok []) _ tt (hex-read number (decode_of word))

come-read : (number : ℕ) (w : Words) → ReadAt number (reach_by number w)
come-read number w =
    either number (is_empty w.third) (Ok Unsaid) _ tt
    (either number (bytes_eq w.third (codes "lost") && is_empty w.fourth) (Ok Lost) _ tt
    (either number (bytes_eq w.third (codes "parity") && is_empty w.fourth) (Ok Parity) _ tt
    (either number (bytes_eq w.third (codes "as") && not (is_empty w.fourth)) _ (Err (Word number))
    (then-read number (octets_said number w.fourth) _ (octets-read number w.fourth) (λ octets. tt)) (wrong number))))

reach-read : (number : ℕ) (w : Words) → ReadAt number (reach_said number w)
reach-read number w =
    either number (is_wrong w) (Err (Word number)) (reach_by number w) (wrong number) (come-read number w)

block-read : (number : ℕ) (from : Side) (w : Words) → ReadAt number (block_said number from w)
block-read number from w =
    then-read number (reach_said number w) _ (reach-read number w) (λ reach.
    then-read number (octets_said number w.second) _ (octets-read number w.second) (λ octets. tt))

moment-at : (number : ℕ) (alone : Bool) (moment : Option ℕ) → ReadAt number (moment_by number alone moment)
moment-at number true (Some moment) = tt
moment-at number false (Some moment) = wrong number
moment-at number alone None = wrong number

moment-read : (number : ℕ) (w : Words) → ReadAt number (moment_said number w)
moment-read number w = moment-at number (is_empty w.third) (decimal_number w.second)

event-read : (number : ℕ) (w : Words) → ReadAt number (event_said number w)
event-read number w =
    either number (bytes_eq w.first (name_text name.Quiet) && is_empty w.second) (Ok Quiet) _ tt
    (either number (bytes_eq w.first (codes "reset") && is_empty w.second) (Ok Reset) _ tt
    (either number (bytes_eq w.first (codes "begins") && is_unknown w) (Ok Midway) _ tt
    (either number (bytes_eq w.first (name_text name.Moment)) _ _
    (then-read number (moment_said number w) _ (moment-read number w) (λ moment. tt))
    (either number (bytes_eq w.first (codes "until")) _ (Err (Word number))
    (then-read number (moment_said number w) _ (moment-read number w) (λ moment. tt)) (wrong number)))))

named-read : (number : ℕ) (w : Words) → ReadAt number (named_said number w)
named-read number w =
    either number (bytes_eq w.first (name_text name.FromTerminal)) _ _ (block-read number side.Terminal w)
    (either number (bytes_eq w.first (name_text name.FromCard)) _ _ (block-read number side.Card w)
    (event-read number w))

entry-read : (number : ℕ) (line : List ℕ) → ReadAt number (entry_of number line)
entry-read number line =
    either number (is_silent (words_of line)) (Ok Nothing) (named_said number (words_of line)) tt
    (named-read number (words_of line))

fails-at : (s : JudgeState) (line : List ℕ) (fault : ExchangeFault) → Fails s line fault → IsAt s.number fault
fails-at s line fault h = go (entry_of s.number line) (entry-read s.number line) h
  where
    go : (read : Result Entry ExchangeFault) → ReadAt s.number read
        → MatchResult read (λ entry. IsFalling s entry × (fault ≡ Falls s.number)) (λ wrong. fault ≡ wrong)
        → IsAt s.number fault
    go (Ok entry) at h = inr (inr h.1)
    go (Err wrong) at h = subst (IsAt s.number) (sym h) at

-- ---- the line of a text by its number

-- the front of a text shows the same as that of its first line
shown-front : (most : ℕ) (text line : List ℕ) (after : List (List ℕ)) → slice_split is_line_end text ≡ line ∷ after
    → line_shown (take most text) ≡ line_shown (take most line)
shown-front most [] line after h = let none : [] ≡ line = cc h in ap (λ (l : List ℕ). line_shown (take most l)) none
shown-front zero (x ∷ text) [] after h = refl
shown-front zero (x ∷ text) (y ∷ line) after h = refl
shown-front (suc most) (x ∷ text) line after h =
    let parts = some-parts text in
    go (x == 10) refl parts (shown-front most text parts.first parts.more parts.are)
  where
    go : (t : Bool) → (x == 10) ≡ t → (parts : AreParts text)
        → line_shown (take most text) ≡ line_shown (take most parts.first)
        → line_shown (take (suc most) (x ∷ text)) ≡ line_shown (take (suc most) line)
    go true e parts same =
        let none : [] ≡ line = cc (slice_split-cons_yes is_line_end x text e, h) in
        rw (← none, e) refl
    go false e parts same =
        let first : x ∷ parts.first ≡ line =
        cc (slice_split-cons_no is_line_end x text e ∙ ap (onto_first x) parts.are, h) in
        rw (← first, e) (ap (λ (l : List ℕ). encode_utf8 (character x) ++ l) same)

-- a line shows the same as the text from it on
shown-at : (most number : ℕ) (text : List ℕ) (before after : List (List ℕ)) (line : List ℕ)
    → number ≡ length before + 1 → slice_split is_line_end text ≡ before ++ (line ∷ after)
    → line_shown (take most (line_from number text)) ≡ line_shown (take most line)
shown-at most number [] [] after line at h =
    let none : [] ≡ line = cc h in ap (λ (l : List ℕ). line_shown (take most l)) none
shown-at most number [] (first ∷ before) after line at h =
    absurd (omega (arith, ap length h, length-append before (line ∷ after)))
shown-at most number (x ∷ text) [] after line at h = rw at (shown-front most (x ∷ text) line after h)
shown-at most number (x ∷ text) (first ∷ before) after line at h =
    let parts = some-parts text in
    go (x == 10) refl parts (λ more. shown-at most (number - 1) text before after line (omega (arith, at)) more)
    (λ more. shown-at most number text (parts.first ∷ before) after line (omega (arith, at)) more)
  where
    far : nat_le number 1 ≡ false
    far = grind (arith, nat_tests, at)

    go : (t : Bool) → (x == 10) ≡ t → (parts : AreParts text)
        → (slice_split is_line_end text ≡ before ++ (line ∷ after)
        → line_shown (take most (line_from (number - 1) text)) ≡ line_shown (take most line))
        → (slice_split is_line_end text ≡ parts.first ∷ (before ++ (line ∷ after))
        → line_shown (take most (line_from number text)) ≡ line_shown (take most line))
        → line_shown (take most (line_from number (x ∷ text))) ≡ line_shown (take most line)
    go true e parts next same =
        let more : slice_split is_line_end text ≡ before ++ (line ∷ after) =
        cc (slice_split-cons_yes is_line_end x text e, h) in
        rw (far, e) (next more)
    go false e parts next same =
        let more : parts.more ≡ before ++ (line ∷ after) =
        cc (slice_split-cons_no is_line_end x text e ∙ ap (onto_first x) parts.are, h) in
        rw (far, e) (same (parts.are ∙ ap (λ (l : List (List ℕ)). parts.first ∷ l) more))

-- ---- the note

-- the note on the faulty line of a text is that on the line alone
pub note-kept : (offered : Offered) (scope : Scope) (text line : List ℕ) (fault : ExchangeFault)
    → HasFault offered scope (lines_of text) line fault → trace_note text fault ≡ kept_note line fault
note-kept offered scope text line fault h = go (fails-at h.standing line fault h.fails)
  where
    at : h.standing.number ≡ length h.before + 1
    at = omega (arith, lines-number (start offered scope) h.standing h.before h.are_judged)

    same : line_shown (take 80 (line_from h.standing.number text)) ≡ line_shown (take 80 line)
    same = shown-at 80 h.standing.number text h.before h.after line at h.are_all

    go : IsAt h.standing.number fault → trace_note text fault ≡ kept_note line fault
    go (inl is) = rw is (ap (λ (shown : List ℕ). line_note h.standing.number shown
        (expected_seen [] (Word h.standing.number))) same)
    go (inr (inl is)) = rw is (ap (λ (shown : List ℕ). line_note h.standing.number shown
        (expected_seen [] (Hex h.standing.number))) same)
    go (inr (inr is)) = rw is (ap (λ (shown : List ℕ). line_note h.standing.number shown
        (expected_seen [] (Falls h.standing.number))) same)
