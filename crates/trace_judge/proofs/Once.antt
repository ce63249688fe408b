-- That a trace has one judgment, or one fault.
use Rattle.std.proofs.Common.{◌≡◌, ◌≢◌, ◌<◌, ◌≤◌, ◌⊎◌, ◌∙◌, ◌+◌, inl, inr, ℕ, List, [], ◌∷◌, Bool, true, false, Result, Ok, Err, MatchResult, ap, arith, refl, subst, sym}
use Rattle.std.specs.List.{slice_split}
use Rattle.std.proofs.lemmas.Bool.{cases_lt}
use Rattle.octet_core.specs.Octets.{AreOctets}
use Rattle.exchange_text.specs.declared.fault.ExchangeFault.{ExchangeFault}
use Rattle.exchange_text.specs.declared.fault.ExchangeFault.TheVariants.{Falls, Memory}
use Rattle.block_core.specs.declared.side.Side.{Side}
use Rattle.judge_core.specs.declared.monitor.Arrival.{Arrival}
use Rattle.judge_core.specs.declared.monitor.Monitor.{Monitor}
use Rattle.judge_core.specs.declared.monitor.Report.{Report}
use Rattle.judge_core.specs.declared.exercise.Exercise.{Exercise}
use Rattle.judge_core.specs.declared.exercise.Exercise.TheVariants.{Unknown}
use Rattle.judge_core.specs.Monitored.{monitor_after, report_of}
use Rattle.judge_core.specs.Stakes.{exercise_of}
use Rattle.trace_text.specs.Reading.{is_line_end}
use Rattle.trace_text.specs.declared.entry.Entry.{Entry}
use Rattle.trace_text.specs.declared.entry.Entry.TheVariants.{Nothing, Block, Quiet, Reset, Midway, Moment, Until}
use Rattle.trace_text.specs.declared.entry.Reach.{Reach}
use Rattle.trace_text.proofs.Once.{entry-read, HasOctets, IsOfOctets, IsRead}
use Rattle.trace_judge.specs.declared.standing.Judgment.{Judgment}
use Rattle.trace_judge.specs.declared.standing.Scope.{Scope}
use Rattle.judge_times.specs.Waiting.{Offered}
use Rattle.trace_text.specs.Reading.{entry_of}
use Rattle.trace_judge.specs.Judging.{at_moment, is_before, is_ok, judged_text, start, told_before, until_moment, told_block, Concludes, ExercisesIf, Fails, IsArrival, IsBlockTold, IsEntered, IsFalling, IsTold, Judges, JudgesLine, JudgesLines, JudgeState}
use Rattle.trace_judge.proofs.SeenOnce.{one-sent, one-taking, some-arrival, some-sent}

-- ---- a line

one-exercise : (counted : Bool) (m : Monitor) (from : Side) (b : List ℕ) → AreOctets b → (reach : Reach)
    (a c : Arrival) → IsArrival reach a → IsArrival reach c → (x y : Exercise)
    → ExercisesIf counted m from b a x → ExercisesIf counted m from b c y → x ≡ y
one-exercise true m from b octets reach a c is also x y h g =
    h.2 ∙ ap (exercise_of m from) (one-sent b octets reach a c is also h.0 g.0 h.1 g.1) ∙ sym g.2
one-exercise false m from b octets reach a c is also x y h g = h ∙ sym g

some-exercise : (counted : Bool) (m : Monitor) (from : Side) (b : List ℕ) → AreOctets b → (a : Arrival)
    → (x : Exercise) × ExercisesIf counted m from b a x
some-exercise true m from b octets a =
    let sent = some-sent b octets a in (exercise_of m from sent.0, (sent.0, sent.1, refl))
some-exercise false m from b octets a = (Unknown, refl)

one-told : (s : JudgeState) (from : Side) (b : List ℕ) → AreOctets b → (reach : Reach) → IsOfOctets reach
    → (t u : JudgeState) → IsTold s from b reach t → IsTold s from b reach u → t ≡ u
one-told s from b octets reach came t u h g =
    let both = one-taking s.monitor from b octets reach came h.arrival g.arrival h.monitor g.monitor h.report g.report
    h.is_arrival g.is_arrival h.takes g.takes in
    let exercise = one-exercise s.scope.rules s.monitor from b octets reach h.arrival g.arrival h.is_arrival
    g.is_arrival
    h.exercise g.exercise h.exercises g.exercises in
    h.told
    ∙ ap (λ (m : Monitor). told_block s m from b h.exercise h.report) both.0
    ∙ ap (λ (x : Exercise). told_block s g.monitor from b x h.report) exercise
    ∙ ap (λ (r : Report). told_block s g.monitor from b g.exercise r) both.1
    ∙ sym g.told

one-block : (before : Bool) (s : JudgeState) (from : Side) (b : List ℕ) → AreOctets b → (reach : Reach)
    → IsOfOctets reach → (t u : JudgeState) → IsBlockTold before s from b reach t → IsBlockTold before s from b reach u
    → t ≡ u
one-block true s from b octets reach came t u h g = h ∙ sym g
one-block false s from b octets reach came t u h g = one-told s from b octets reach came t u h g

one-entered : (s : JudgeState) (entry : Entry) → HasOctets entry → (t u : JudgeState) → IsEntered s entry t
    → IsEntered s entry u → t ≡ u
one-entered s Nothing octets t u h g = h ∙ sym g
one-entered s Quiet octets t u h g = h ∙ sym g
one-entered s Reset octets t u h g = h ∙ sym g
one-entered s Midway octets t u h g = h ∙ sym g
one-entered s (Moment moment) octets t u h g = h.1 ∙ sym g.1
one-entered s (Until moment) octets t u h g = h.1 ∙ sym g.1
one-entered s (Block from b reach) octets t u h g =
    one-block (is_before s b) s from b octets.0 reach octets.1 t u h g

some-block : (before : Bool) (s : JudgeState) (from : Side) (b : List ℕ) → AreOctets b → (reach : Reach)
    → IsOfOctets reach → (t : JudgeState) × IsBlockTold before s from b reach t
some-block true s from b octets reach came = (told_before s from b, refl)
some-block false s from b octets reach came =
    let arrival = some-arrival reach came in
    let sent = some-sent b octets arrival.0 in
    let after = monitor_after s.monitor from sent.0 arrival.2 in
    let says = report_of s.monitor from sent.0 in
    let exercise = some-exercise s.scope.rules s.monitor from b octets arrival.0 in (
      told_block s after from b exercise.0 says,
      record {
        arrival = arrival.0;
        is_arrival = arrival.1;
        monitor = after;
        report = says;
        takes = record {
          seen = sent.0;
          is_sent = sent.1;
          reaching = arrival.2;
          is_reaching = arrival.3;
          after = refl;
          reports = refl;
        };
        exercise = exercise.0;
        exercises = exercise.1;
        told = refl;
      },
    )

-- it is taken, or a moment falls
some-moment : (s : JudgeState) (moment : ℕ) → (moment < s.least) ⊎ (s.least ≤ moment)
    → ((t : JudgeState) × IsEntered s (Moment moment) t) ⊎ IsFalling s (Moment moment)
some-moment s moment (inl falls) = inr falls
some-moment s moment (inr holds) = inl (at_moment s moment, (holds, refl))

some-until : (s : JudgeState) (moment : ℕ) → (moment < s.least) ⊎ (s.least ≤ moment)
    → ((t : JudgeState) × IsEntered s (Until moment) t) ⊎ IsFalling s (Until moment)
some-until s moment (inl falls) = inr falls
some-until s moment (inr holds) = inl (until_moment s moment, (holds, refl))

some-entered : (s : JudgeState) (entry : Entry) → HasOctets entry → ((t : JudgeState) × IsEntered s entry t)
    ⊎ IsFalling s entry
some-entered s Nothing octets = inl (_, refl)
some-entered s Quiet octets = inl (_, refl)
some-entered s Reset octets = inl (_, refl)
some-entered s Midway octets = inl (_, refl)
some-entered s (Moment moment) octets = some-moment s moment (cases_lt moment s.least)
some-entered s (Until moment) octets = some-until s moment (cases_lt moment s.least)
some-entered s (Block from b reach) octets = inl (some-block (is_before s b) s from b octets.0 reach octets.1)

not-both : (s : JudgeState) (entry : Entry) (t : JudgeState) → IsEntered s entry t → IsFalling s entry → ⊥
not-both s Nothing t h g = absurd g
not-both s Quiet t h g = absurd g
not-both s Reset t h g = absurd g
not-both s Midway t h g = absurd g
not-both s (Moment moment) t h g = omega (arith, h.0, g)
not-both s (Until moment) t h g = omega (arith, h.0, g)
not-both s (Block from b reach) t h g = absurd g

module _ (s : JudgeState) (line : List ℕ) where
  abbrev Taken : Result Entry ExchangeFault → JudgeState → Type 0
  Taken said t = MatchResult said (λ entry. (m : JudgeState) × IsEntered s entry m
      × (t ≡ record m { number = s.number + 1 }))
      (λ fault. ⊥)

  abbrev Faulty : Result Entry ExchangeFault → ExchangeFault → Type 0
  Faulty said fault = MatchResult said
      (λ entry. IsFalling s entry × (fault ≡ Falls s.number))
      (λ wrong. fault ≡ wrong)

  one-taken : (said : Result Entry ExchangeFault) → IsRead HasOctets said → (t u : JudgeState) → Taken said t
      → Taken said u → t ≡ u
  one-taken (Ok entry) octets t u (m, h, e) (k, g, f) =
      e ∙ ap (λ (x : JudgeState). record x { number = s.number + 1 }) (one-entered s entry octets m k h g) ∙ sym f
  one-taken (Err fault) octets t u h g = absurd h

  one-line : (t u : JudgeState) → JudgesLine s line t → JudgesLine s line u → t ≡ u
  one-line t u h g = one-taken (entry_of s.number line) (entry-read s.number line) t u h g

  taken-or-faulty : (said : Result Entry ExchangeFault) (t : JudgeState) (fault : ExchangeFault) → Taken said t
      → Faulty said fault → ⊥
  taken-or-faulty (Ok entry) t fault (m, h, e) g = not-both s entry m h g.0
  taken-or-faulty (Err wrong) t fault h g = absurd h

  line-or-fault : (t : JudgeState) (fault : ExchangeFault) → JudgesLine s line t → Fails s line fault → ⊥
  line-or-fault t fault h g = taken-or-faulty (entry_of s.number line) t fault h g

  one-wrong : (said : Result Entry ExchangeFault) (x y : ExchangeFault) → Faulty said x → Faulty said y → x ≡ y
  one-wrong (Ok entry) x y h g = h.1 ∙ sym g.1
  one-wrong (Err wrong) x y h g = h ∙ sym g

  one-fault : (x y : ExchangeFault) → Fails s line x → Fails s line y → x ≡ y
  one-fault x y h g = one-wrong (entry_of s.number line) x y h g

  no-memory : (said : Result Entry ExchangeFault) → IsRead HasOctets said → (fault : ExchangeFault)
      → Faulty said fault → fault ≢ Memory
  no-memory (Ok entry) octets fault h = λ same. cc (h.1, same)
  no-memory (Err wrong) other fault h = λ same. other (sym h ∙ same)

  fault-known : (fault : ExchangeFault) → Fails s line fault → fault ≢ Memory
  fault-known fault h =
      no-memory (entry_of s.number line) (entry-read s.number line) fault h

  some-said : (said : Result Entry ExchangeFault) → IsRead HasOctets said
      → ((t : JudgeState) × Taken said t) ⊎ ((fault : ExchangeFault) × Faulty said fault)
  some-said (Ok entry) octets =
      elim (some-entered s entry octets) [
        | inl one ↦ inl (record one.0 { number = s.number + 1 }, (one.0, one.1, refl))
        | inr falls ↦ inr (_, (falls, refl))
      ]
  some-said (Err wrong) octets = inr (wrong, refl)

  some-line : ((t : JudgeState) × JudgesLine s line t) ⊎ ((fault : ExchangeFault) × Fails s line fault)
  some-line = some-said (entry_of s.number line) (entry-read s.number line)

-- ---- lines

abbrev failed : ExchangeFault → Result JudgeState ExchangeFault
failed fault = Err fault

one-of-lines : (lines : List (List ℕ)) (s : JudgeState) (r q : Result JudgeState ExchangeFault) → JudgesLines s lines r
    → JudgesLines s lines q → r ≡ q
one-of-lines [] s r q h g = h ∙ sym g
one-of-lines (line ∷ lines) s r q (inl (m, one, more)) (inl (k, other, rest)) =
    one-of-lines lines m r q more
    (subst (λ (x : JudgeState). JudgesLines x lines q) (sym (one-line s line m k one other)) rest)
one-of-lines (line ∷ lines) s r q (inl (m, one, more)) (inr (fault, fails, e)) =
    absurd (line-or-fault s line m fault one fails)
one-of-lines (line ∷ lines) s r q (inr (fault, fails, e)) (inl (m, one, more)) =
    absurd (line-or-fault s line m fault one fails)
one-of-lines (line ∷ lines) s r q (inr (fault, fails, e)) (inr (other, also, d)) =
    e ∙ ap failed (one-fault s line fault other fails also) ∙ sym d

some-of-lines : (lines : List (List ℕ)) (s : JudgeState) → (r : Result JudgeState ExchangeFault) × JudgesLines s lines r
some-of-lines [] s = (Ok s, refl)
some-of-lines (line ∷ lines) s =
    elim (some-line s line) [
      | inl one ↦ let more = some-of-lines lines one.0 in (more.0, inl (one.0, one.1, more.1))
      | inr fails ↦ (Err fails.0, inr (fails.0, fails.1, refl))
    ]

fault-of-lines : (lines : List (List ℕ)) (s : JudgeState) (fault : ExchangeFault) → JudgesLines s lines (Err fault)
    → fault ≢ Memory
fault-of-lines [] s fault h = cc h
fault-of-lines (line ∷ lines) s fault (inl (m, one, more)) = fault-of-lines lines m fault more
fault-of-lines (line ∷ lines) s fault (inr (other, fails, e)) = λ same. fault-known s line other fails (cc (e, same))

-- ---- a text

same-end : (all : Result JudgeState ExchangeFault) (a b : Judgment) → Concludes all (Ok a) → Concludes all (Ok b)
    → (a.text ≡ b.text) × (a.is_ok ≡ b.is_ok)
same-end (Ok s) a b h g = (h.text ∙ sym g.text, h.is_ok ∙ sym g.is_ok)
same-end (Err fault) a b h g = absurd (cc h)

same-fault : (all : Result JudgeState ExchangeFault) (x y : ExchangeFault) → Concludes all (Err x)
    → Concludes all (Err y) → x ≡ y
same-fault (Ok s) x y h g = absurd h
same-fault (Err fault) x y h g = cc (h, g)

end-or-fault : (all : Result JudgeState ExchangeFault) (a : Judgment) (x : ExchangeFault) → Concludes all (Ok a)
    → Concludes all (Err x) → ⊥
end-or-fault (Ok s) a x h g = absurd g
end-or-fault (Err fault) a x h g = cc h

module _ (offered : Offered) (scope : Scope) (text : List ℕ) where
  abbrev Comes : Result JudgeState ExchangeFault → Type 0
  Comes all = JudgesLines (start offered scope) (slice_split is_line_end text) all

  same-lines : (all other : Result JudgeState ExchangeFault) → Comes all → Comes other → all ≡ other
  same-lines all other h g = one-of-lines (slice_split is_line_end text) (start offered scope) all other h g

  judged-lines : (a : Judgment) → Judges offered scope text (Ok a)
      → (all : Result JudgeState ExchangeFault) × Comes all × Concludes all (Ok a)
  judged-lines a (inl memory) = absurd (cc memory)
  judged-lines a (inr all) = all

  faulty-lines : (x : ExchangeFault) → x ≢ Memory → Judges offered scope text (Err x)
      → (all : Result JudgeState ExchangeFault) × Comes all × Concludes all (Err x)
  faulty-lines x other (inl memory) = absurd (other (cc memory))
  faulty-lines x other (inr all) = all

  -- it has one judgment
  pub one-judgment : (a b : Judgment) → Judges offered scope text (Ok a) → Judges offered scope text (Ok b)
      → (a.text ≡ b.text) × (a.is_ok ≡ b.is_ok)
  one-judgment a b h g =
      let first = judged-lines a h in
      let second = judged-lines b g in
      same-end second.0 a b (subst (λ (r : Result JudgeState ExchangeFault). Concludes r (Ok a))
      (same-lines first.0 second.0 first.1 second.1) first.2) second.2

  -- or one fault
  pub one-text-fault : (x y : ExchangeFault) → x ≢ Memory → y ≢ Memory → Judges offered scope text (Err x)
      → Judges offered scope text (Err y) → x ≡ y
  one-text-fault x y known also h g =
      let first = faulty-lines x known h in
      let second = faulty-lines y also g in
      same-fault second.0 x y (subst (λ (r : Result JudgeState ExchangeFault). Concludes r (Err x))
      (same-lines first.0 second.0 first.1 second.1) first.2) second.2

  -- and not both
  pub judgment-or-fault : (a : Judgment) (x : ExchangeFault) → x ≢ Memory → Judges offered scope text (Ok a)
      → Judges offered scope text (Err x) → ⊥
  judgment-or-fault a x known h g =
      let first = judged-lines a h in
      let second = faulty-lines x known g in
      end-or-fault second.0 a x (subst (λ (r : Result JudgeState ExchangeFault). Concludes r (Ok a))
      (same-lines first.0 second.0 first.1 second.1) first.2) second.2

  some-concluded : (all : Result JudgeState ExchangeFault) → Comes all
      → ((a : Judgment) × Judges offered scope text (Ok a))
      ⊎ ((x : ExchangeFault) × (x ≢ Memory) × Judges offered scope text (Err x))
  some-concluded (Ok s) h =
      let judgment : Judgment = record {
        text = judged_text s;
        is_ok = is_ok s.tally;
      } in
      inl (judgment, inr (Ok s, h, record { text = refl; is_ok = refl }))
  some-concluded (Err fault) h = inr (
    fault,
    fault-of-lines (slice_split is_line_end text) (start offered scope) fault h,
    inr (Err fault, h, refl),
  )

  -- but one of them
  pub some-judgment : ((a : Judgment) × Judges offered scope text (Ok a))
      ⊎ ((x : ExchangeFault) × (x ≢ Memory) × Judges offered scope text (Err x))
  some-judgment =
      let all = some-of-lines (slice_split is_line_end text) (start offered scope) in
      some-concluded all.0 all.1
