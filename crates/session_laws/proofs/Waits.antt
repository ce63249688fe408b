-- How long a session has waited, from what its line counts.
use Rattle.std.proofs.Common.{◌==◌, ◌-◌, ◌≡◌, ◌≤◌, ℕ, ◌+◌, List, length, min, true, false, Result, Ok, Err, refl, sym, ap, subst, ◌∙◌, ◌⊎◌, inl, inr, arith}
use Rattle.t1_core.specs.Terminal.{TerminalState, TerminalInput}
use Rattle.t1_core.specs.declared.turns.EncodedTerminalTurn.{EncodedTerminalTurn}
use Rattle.t1_core.specs.declared.turns.EncodedTerminalTurn.TheVariants as turn
use Rattle.t1_core.specs.declared.turns.TerminalFault.{TerminalFault}
use Rattle.session_core.specs.declared.event.Next.{Next}
use Rattle.session_core.specs.declared.event.Next.TheVariants.{Wait, Heard, Quiet, Order}
use Rattle.session_core.specs.declared.progress.Rules.{Rules}
use Rattle.session_core.specs.declared.lines.Line.{Line}
use Rattle.session_core.specs.declared.lines.Start.{Start}
use Rattle.session_core.specs.declared.lines.Start.TheVariants.{Exchange, Talk}
use Rattle.session_core.specs.declared.setup.Limits.{Limits}
use Rattle.session_core.specs.declared.action.Action.{Action}
use Rattle.session_core.specs.Wire.{Doing, Step, step_of, ruled, seen, is_set}
use Rattle.session_core.specs.Lines.{IsMoved, stepped}
use Rattle.session_core.specs.Actions.{action_of, count_of}
use Rattle.session_core.specs.Terminals.{IsTurned, AfterTurn, TurnsTo, IsStepped, sending, limited, limits_in}
use Rattle.session_laws.specs.Ending.{IsTimed, IsTimely, IsInTime, HasWaited, waited_by, is_limited, goes, events_in}
use Rattle.session_laws.proofs.Steps.{either}
use Rattle.session_laws.proofs.Times.{begins-timely, talks-timely, stepped-timely}
use Rattle.session_laws.proofs.Sessions.{answered-over, ok-same, not-both}
use Rattle.session_core.specs.declared.action.Action.TheVariants as action

-- the time of a session whose line has these rules
pub record IsCounted (rules : Rules) (floor : ℕ) (line : Line) (next : Action) : Type 0 where
  pub rules_are : line.rules ≡ rules
  pub counts : floor ≤ line.progress.spent
  pub no_longer : IsTimed (ruled rules) → (time : ℕ) → next ≡ action.Wait time
      → (line.progress.asked ≡ time) × (time ≤ rules.most_time - line.progress.spent)

pub wait-same : (a b : ℕ) → action.Wait a ≡ action.Wait b → a ≡ b
wait-same a b e = cc

-- an action that is a wait is one that the line said
pub wait-said : (next : Next) (count time : ℕ) → action_of next count ≡ action.Wait time → next ≡ Wait time
wait-said (Wait other) count time e = ap Wait (wait-same other time e)
wait-said next count time e = cc

pub moved-counted : (step : Step) (rules : Rules) (floor count : ℕ) (line : Line) (next : Action)
    → IsMoved step rules line → IsTimely (ruled rules) floor step → next ≡ action_of step.next count
    → IsCounted rules floor line next
moved-counted step rules floor count line next moved timely is = record {
  rules_are = moved.rules_are;
  counts = rw (ap (λ (q : Doing). q.spent) moved.progress) timely.spent;
  no_longer = λ timed time e. let said : step.next ≡ Wait time = wait-said step.next count time (sym is ∙ e) in
      let all : (step.progress.asked ≡ time) × (time ≤ rules.most_time - step.progress.spent) =
      timely.in_time timed time said in
      (ap (λ (q : Doing). q.asked) moved.progress ∙ all.0, rw (ap (λ (q : Doing). q.spent) moved.progress) all.1);
}

abbrev pub CountsSent : Start → Limits → Rules → Doing → List ℕ → ℕ → ℕ → Type 0
CountsSent start limits rules p burst now floor = (waiting : ℕ)
    → IsTimely (ruled (limited rules limits)) floor (sending start limits rules p burst waiting now)

pub turned-counted : (turned : EncodedTerminalTurn) (answer : ℕ) (start : Start) (limits : Limits) (rules : Rules)
    (p : Doing) (burst : List ℕ) (now : ℕ) (line : Line) (own own_after : ℕ) (next : Action) (floor : ℕ)
    → CountsSent start limits rules p burst now floor
    → IsTurned turned answer start limits rules p burst now line own own_after next
    → IsCounted (limited rules limits) floor line next ⊎ (goes next ≡ false)
turned-counted (turn.Send count waiting) answer start limits rules p burst now line own own_after next floor counts
    turned = inl (moved-counted (sending start limits rules p burst waiting now) (limited rules limits) floor count line
    next turned.1.moved (counts waiting) turned.1.action_is)
turned-counted turn.Answered answer start limits rules p burst now line own own_after next floor counts turned =
    inr (ap goes turned.action_is ∙ answered-over answer)
turned-counted turn.IfsSet answer start limits rules p burst now line own own_after next floor counts turned =
    inr (ap goes turned.action_is)
turned-counted turn.GivenUp answer start limits rules p burst now line own own_after next floor counts turned =
    inr (ap goes turned.action_is)
turned-counted turn.Dead answer start limits rules p burst now line own own_after next floor counts turned =
    inr (ap goes turned.action_is)

pub after-counted : (acted : Result EncodedTerminalTurn TerminalFault) (answer : ℕ) (start : Start) (limits : Limits)
    (rules : Rules) (p : Doing) (burst : List ℕ) (now : ℕ) (line : Line) (own own_after : ℕ) (next : Action)
    (floor : ℕ) → CountsSent start limits rules p burst now floor
    → AfterTurn acted answer start limits rules p burst now line own own_after (Ok next)
    → IsCounted (limited rules limits) floor line next ⊎ (goes next ≡ false)
after-counted (Ok turned) answer start limits rules p burst now line own own_after next floor counts after =
    turned-counted turned answer start limits rules p burst now line own own_after next floor counts
    (subst (λ (a : Action). IsTurned turned answer start limits rules p burst now line own own_after a)
    (ok-same after.0 next (Ok next) after.1 refl) after.2)
after-counted (Err fault) answer start limits rules p burst now line own own_after next floor counts after =
    absurd (not-both next fault (Ok next) refl after.0)

-- a turn with the limits that the line has
pub talked-counted : (t : TerminalState) (input : TerminalInput) (rules : Rules) (p : Doing) (burst : List ℕ) (now : ℕ)
    (t_after : TerminalState) (line : Line) (own own_after : ℕ) (out out_after : List ℕ) (next : Action) (floor : ℕ)
    → floor ≤ p.spent
    → TurnsTo t input Talk (limits_in rules) rules p burst now t_after line own own_after out out_after (Ok next)
    → IsCounted rules floor line next ⊎ (goes next ≡ false)
talked-counted t input rules p burst now t_after line own own_after out out_after next floor h turns =
    after-counted turns.acted (count_of t_after.answered) Talk (limits_in rules) rules p burst now line own own_after
    next
    floor (λ waiting. talks-timely (ruled rules) _ burst now floor h) turns.after

pub by-next-counted : (said : Next) (step : Step) (rules : Rules) (p : Doing) (burst : List ℕ) (t : TerminalState)
    (now : ℕ) (t_after : TerminalState) (line : Line) (own own_after : ℕ) (out out_after : List ℕ) (next : Action)
    (floor : ℕ) → said ≡ step.next → IsTimely (ruled rules) floor step ⊎ (step ≡ step_of p burst Order)
    → IsStepped said step rules t now t_after line own own_after out out_after (Ok next)
    → IsCounted rules floor line next ⊎ (goes next ≡ false)
by-next-counted Heard step rules p burst t now t_after line own own_after out out_after next floor e (inl timely)
    stepped =
    talked-counted t _ rules step.progress _ now t_after line own own_after out out_after next floor timely.spent
    stepped
by-next-counted Quiet step rules p burst t now t_after line own own_after out out_after next floor e (inl timely)
    stepped =
    talked-counted t _ rules step.progress _ now t_after line own own_after out out_after next floor timely.spent
    stepped
by-next-counted Heard step rules p burst t now t_after line own own_after out out_after next floor e (inr still)
    stepped = let bad : Heard ≡ Order = e ∙ ap (λ (s : Step). s.next) still in cc
by-next-counted Quiet step rules p burst t now t_after line own own_after out out_after next floor e (inr still)
    stepped = let bad : Quiet ≡ Order = e ∙ ap (λ (s : Step). s.next) still in cc
by-next-counted said step rules p burst t now t_after line own own_after out out_after next floor e (inl timely)
    stepped =
    inl (moved-counted step rules floor own line next stepped.0 timely
    (ok-same next (action_of said own) (Ok next) refl stepped.4 ∙ ap (λ (n : Next). action_of n own) e))
by-next-counted said step rules p burst t now t_after line own own_after out out_after next floor e (inr still)
    stepped =
    inr (ap goes (ok-same next (action_of said own) (Ok next) refl stepped.4 ∙ ap (λ (n : Next). action_of n own)
    (e ∙ ap (λ (s : Step). s.next) still)))

-- ---- the loop

pub begun-in-time : (before : Line) (limits : Limits) (line : Line) (next : Action)
    → is_set before.rules.has_clock ≡ false → is_limited limits.time
    → IsCounted (limited before.rules limits) 0 line next ⊎ (goes next ≡ false)
    → HasWaited limits.time 0 line next
begun-in-time before limits line next by_waits limited_so (inl counted) = record {
  total = omega arith;
  going = λ _. record {
    limit = ap (λ (u : Rules). u.most_time) counted.rules_are;
    by_waits = rw counted.rules_are by_waits;
    counts = counted.counts;
    no_longer = counted.no_longer record { by_waits = by_waits; limited = limited_so };
  };
}
begun-in-time before limits line next by_waits limited_so (inr over) =
    record { total = omega arith; going = λ e. let bad : true ≡ false = sym e ∙ over in cc }

pub by-other : (event : ℕ) (last : Action) → (event == 3) ≡ false → waited_by event last ≡ 0
by-other event (action.Wait time) other = either (λ (n : ℕ). n ≡ 0) (event == 3) _ _
    (λ e. let bad : true ≡ false = sym e ∙ other in cc) (λ _. refl)
by-other event last other = refl

pub at-most : (event time : ℕ) → waited_by event (action.Wait time) ≤ time
at-most event time = either (λ (n : ℕ). n ≤ time) (event == 3) _ _ (λ _. omega arith) (λ _. omega arith)

-- another event than a silence adds nothing
pub no-wait : (most waited waited_after event : ℕ) (before : Line) (last : Action) → HasWaited most waited before last
    → IsInTime most waited before last → waited_after ≡ min (waited + waited_by event last) 18446744073709551615
    → most ≤ 18446744073709551615 → (event == 3) ≡ false → waited_after ≤ before.progress.spent
no-wait most waited waited_after event before last has now_in is fits other =
    let none : waited_by event last ≡ 0 = by-other event last other in
    let counts : waited ≤ before.progress.spent = now_in.counts in omega (arith, is, none, counts)

-- a silence adds the wait, no more than what was left
pub a-wait : (most waited waited_after event : ℕ) (before : Line) (last : Action) → HasWaited most waited before last
    → IsInTime most waited before last → waited_after ≡ min (waited + waited_by event last) 18446744073709551615
    → most ≤ 18446744073709551615 → (event == 3) ≡ true
    → waited_after ≤ min (before.progress.spent + before.progress.asked) 18446744073709551615
a-wait most waited waited_after event before (action.Wait time) has now_in is fits silence =
    let by : waited_by event (action.Wait time) ≤ time = at-most event time in
    let asked : before.progress.asked ≡ time = (now_in.no_longer time refl).0 in
    let counts : waited ≤ before.progress.spent = now_in.counts in omega (arith, is, by, asked, counts)
a-wait most waited waited_after event before last has now_in is fits silence =
    let counts : waited ≤ before.progress.spent = now_in.counts in omega (arith, is, counts)

-- and so all waits together are no longer than the limit
pub all-waits : (most waited waited_after event : ℕ) (before : Line) (last : Action) → HasWaited most waited before last
    → IsInTime most waited before last → waited_after ≡ min (waited + waited_by event last) 18446744073709551615
    → waited_after ≤ most
all-waits most waited waited_after event before (action.Wait time) has now_in is =
    let by : waited_by event (action.Wait time) ≤ time = at-most event time in
    let no_longer : time ≤ most - before.progress.spent = (now_in.no_longer time refl).1 in
    let counts : waited ≤ before.progress.spent = now_in.counts in
    let total : waited ≤ most = has.total in omega (arith, is, by, no_longer, counts, total)
all-waits most waited waited_after event before last has now_in is =
    let total : waited ≤ most = has.total in omega (arith, is, total)

pub goes-on-waiting : (most waited waited_after event : ℕ) (before line : Line) (last next : Action)
    → HasWaited most waited before last → goes last ≡ true
    → waited_after ≡ min (waited + waited_by event last) 18446744073709551615 → most ≤ 18446744073709551615
    → IsCounted before.rules waited_after line next ⊎ (goes next ≡ false) → is_limited most
    → HasWaited most waited_after line next
goes-on-waiting most waited waited_after event before line last next has on is fits (inl counted) limited_so =
    let now_in : IsInTime most waited before last = has.going on in
    let timed : IsTimed (ruled before.rules) =
    record { by_waits = now_in.by_waits; limited = subst (λ (n : ℕ). is_limited n) (sym now_in.limit) limited_so } in
    record {
      total = all-waits most waited waited_after event before last has now_in is;
      going = λ _. record {
        limit = ap (λ (u : Rules). u.most_time) counted.rules_are ∙ now_in.limit;
        by_waits = rw counted.rules_are now_in.by_waits;
        counts = counted.counts;
        no_longer = λ time e.
            subst (λ (n : ℕ). (line.progress.asked ≡ time) × (time ≤ n - line.progress.spent)) now_in.limit
            (counted.no_longer timed time e);
      };
    }
goes-on-waiting most waited waited_after event before line last next has on is fits (inr over) limited_so =
    record {
      total = all-waits most waited waited_after event before last has (has.going on) is;
      going = λ e. let bad : true ≡ false = sym e ∙ over in cc;
    }

pub begun-waited : (t : TerminalState) (input : TerminalInput) (limits : Limits) (before line : Line) (burst : List ℕ)
    (now : ℕ) (t_after : TerminalState) (own own_after : ℕ) (out out_after : List ℕ) (next : Action)
    → is_set before.rules.has_clock ≡ false
    → TurnsTo t input Exchange limits before.rules (seen before.progress) burst now t_after line own own_after out
    out_after (Ok next)
    → is_limited limits.time → HasWaited limits.time 0 line next
begun-waited t input limits before line burst now t_after own own_after out out_after next by_waits turns limited_so =
    begun-in-time before limits line next by_waits limited_so
    (after-counted turns.acted (count_of t_after.answered) Exchange limits before.rules (seen before.progress) burst now
    line own own_after next 0 (λ waiting. begins-timely (ruled (limited before.rules limits)) _ burst now) turns.after)

pub stepped-waited : (most waited waited_after event : ℕ) (before line : Line) (burst octets block : List ℕ)
    (t : TerminalState) (now : ℕ) (t_after : TerminalState) (own own_after : ℕ) (out out_after : List ℕ)
    (last next : Action) → HasWaited most waited before last → goes last ≡ true
    → waited_after ≡ min (waited + waited_by event last) 18446744073709551615 → most ≤ 18446744073709551615
    → is_limited most
    → IsStepped (stepped event (ruled before.rules) (seen before.progress) burst octets now block).next
    (stepped event (ruled before.rules) (seen before.progress) burst octets now block) before.rules t now t_after line
    own own_after out out_after (Ok next)
    → events_in event (length octets) → HasWaited most waited_after line next
stepped-waited most waited waited_after event before line burst octets block t now t_after own own_after out out_after
    last next has on is fits limited_so h some =
    let now_in : IsInTime most waited before last = has.going on in
    goes-on-waiting most waited waited_after event before line last next has on is fits
    (by-next-counted _ _ before.rules (seen before.progress) burst t now t_after line own own_after out out_after next
    waited_after refl
    (stepped-timely event (ruled before.rules) (seen before.progress) burst octets now block waited_after
    (λ other. no-wait most waited waited_after event before last has now_in is fits other)
    (λ silence. a-wait most waited waited_after event before last has now_in is fits silence)
    (omega (arith, is)) some.0 some.1) h) limited_so
