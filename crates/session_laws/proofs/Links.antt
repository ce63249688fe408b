-- The talks of a session are a run of the terminal's table.
use Rattle.std.proofs.Common.{◌≡◌, ℕ, ◌+◌, ◌-◌, List, [], ◌∷◌, ◌++◌, take, true, false, nat_lt, Result, Ok, Err, refl, sym, ap, subst, ◌∙◌, arith}
use Rattle.std.proofs.lemmas.Grind.{common_steps}
use Rattle.std.proofs.lemmas.List.{append-nil, append_assoc}
use Rattle.std.specs.declared.io.Error.{Error}
use Rattle.block_core.specs.Block.{Parts, IsPut, spelling}
use Rattle.t1_core.specs.Terminal.{TerminalState, TerminalInput, terminal_turn, turn_of, state_after}
use Rattle.t1_core.specs.Put.{IsTerminalPut}
use Rattle.t1_core.specs.Waiting.{waiting_times}
use Rattle.t1_core.specs.declared.turns.TerminalTurn.{TerminalTurn}
use Rattle.t1_core.specs.declared.turns.TerminalTurn.TheVariants as own_turn
use Rattle.t1_core.specs.declared.turns.EncodedTerminalTurn.{EncodedTerminalTurn}
use Rattle.t1_core.specs.declared.turns.EncodedTerminalTurn.TheVariants as put
use Rattle.t1_core.specs.declared.turns.TerminalFault.{TerminalFault}
use Rattle.line_core.specs.Bursts.{handed}
use Rattle.line_core.specs.Timed.{Sound}
use Rattle.line_core.specs.Line.{Arrival, block, nothing, failure, Talk}
use Rattle.line_core.specs.Exchange.{Ending, done, given_up, dead, line_failed, Next as Doing, sends, ends, next_of, next_after, left_after, Runs}
use Rattle.session_core.specs.declared.event.Next.{Next}
use Rattle.session_core.specs.declared.event.Next.TheVariants.{Heard, Quiet}
use Rattle.session_core.specs.declared.event.Next.TheVariants as next_step
use Rattle.session_core.specs.declared.progress.Rules.{Rules}
use Rattle.session_core.specs.declared.lines.Line.{Line}
use Rattle.session_core.specs.declared.lines.Start.{Start}
use Rattle.session_core.specs.declared.setup.Limits.{Limits}
use Rattle.session_core.specs.declared.action.Action.{Action}
use Rattle.session_core.specs.Wire.{Step, handed_over}
use Rattle.session_core.specs.Wire as wire
use Rattle.session_core.specs.Actions.{action_of, answered_with}
use Rattle.session_core.specs.Terminals.{AfterTurn, TurnsTo, IsStepped}
use Rattle.session_laws.specs.Ending.{goes}
use Rattle.session_laws.specs.Running.{Standing, step_by, IsTurn, spoken_by, Turns, none, more, Gone, Opening, IsBegun, Ran, standing}
use Rattle.session_laws.specs.Talking.{Spoken, spoken_in, all_spoken, ending_by, AreSpoken, all, all_but_one, IsRun}
use Rattle.session_laws.proofs.Steps.{either}
use Rattle.session_laws.proofs.Sessions.{ok-same, not-both}

-- ---- talks

pub more-spoken : (talks : List Talk) (talk : Talk)
    → all_spoken (talks ++ talk ∷ []) ≡ all_spoken talks ++ (record { sent = talk.sent; arrival = talk.arrival }) ∷ []
more-spoken [] talk = refl
more-spoken (first ∷ talks) talk =
    ap (λ (rest : List Spoken). record { sent = first.sent; arrival = first.arrival } ∷ rest) (more-spoken talks talk)

-- From the first turn these talks lead to this one: what follows from it follows from the first.
pub record Reaches (t0 : TerminalState) (n0 : Doing) (spoken : List Spoken) (next : Doing) (t : TerminalState)
    : Type 0 where
  pub talks : List Talk
  pub are : all_spoken talks ≡ spoken
  pub on : (most : ℕ) (rest : List Talk) (ending : Ending) (left : TerminalState) → Runs most next t rest ending left
      → (least : ℕ) × Runs least n0 t0 (talks ++ rest) ending left

pub at-first : (t0 : TerminalState) (n0 : Doing) → Reaches t0 n0 [] n0 t0
at-first t0 n0 = record { talks = []; are = refl; on = λ most rest ending left runs. (most, runs) }

-- another talk
pub talk-of : (sent : Parts) (octets : List ℕ) (arrival : Arrival) → Talk
talk-of sent octets arrival =
    record { sent = octets; waiting = waiting_times (own_turn.Send sent); arrival = arrival }

pub one-more : (most : ℕ) → most + 1 - 1 ≡ most
one-more most = omega arith

pub then-talk : (t0 : TerminalState) (n0 : Doing) (spoken : List Spoken) (sent : Parts) (t : TerminalState)
    (octets : List ℕ) (arrival : Arrival) → octets ≡ spelling sent → Reaches t0 n0 spoken (sends sent) t
    → Reaches t0 n0 (spoken ++ (record { sent = octets; arrival = arrival }) ∷ []) (next_after t arrival)
    (left_after t arrival)
unfolding talk-of
then-talk t0 n0 spoken sent t octets arrival e reach = record {
  talks = reach.talks ++ talk-of sent octets arrival ∷ [];
  are = more-spoken reach.talks (talk-of sent octets arrival)
      ∙ ap (λ (s : List Spoken). s ++ (record { sent = octets; arrival = arrival }) ∷ []) reach.are;
  on = λ most rest ending left runs.
      let longer : Runs (most + 1 - 1) (next_after t arrival) (left_after t arrival) rest ending left =
      subst (λ (n : ℕ). Runs n (next_after t arrival) (left_after t arrival) rest ending left) (sym (one-more most))
      runs
      in
      let all_of = reach.on (most + 1) (talk-of sent octets arrival ∷ rest) ending left (omega arith, (e, refl), longer)
      in (
        all_of.0,
        subst (λ (talks : List Talk). Runs all_of.0 n0 t0 talks ending left)
            (sym (append_assoc reach.talks (talk-of sent octets arrival ∷ []) rest)) all_of.1,
      );
}

-- ---- where the session stands

-- the exchange is over
pub record IsOverBy (t0 : TerminalState) (n0 : Doing) (spoken : List Spoken) (ending : Ending) (left : TerminalState)
    : Type 0 where
  pub most : ℕ
  pub talks : List Talk
  pub are : AreSpoken spoken talks
  pub runs : Runs most n0 t0 talks ending left

-- a session whose terminal sent a block and learns what comes after it, or whose exchange is over
pub record IsAt (t0 : TerminalState) (n0 : Doing) (spoken : List Spoken) (s : Standing) : Type 0 where
  pub going : goes s.next ≡ true → (sent : Parts) × (take s.own s.out ≡ spelling sent)
      × Reaches t0 n0 spoken (sends sent) s.terminal
  pub over : goes s.next ≡ false → (fault : Error) → IsOverBy t0 n0 spoken (ending_by fault s.next) s.terminal

-- the line failed for the end, after its last block
pub failed-over : (t0 : TerminalState) (n0 : Doing) (spoken : List Spoken) (sent : Parts) (t : TerminalState)
    (fault : Error) → Reaches t0 n0 spoken (sends sent) t → IsOverBy t0 n0 spoken (line_failed fault) t
unfolding talk-of
failed-over t0 n0 spoken sent t fault reach =
    let last : Talk = talk-of sent (spelling sent) (failure fault) in
    let all_of = reach.on 1 (last ∷ []) (line_failed fault) t (omega arith, (refl, refl), (refl, refl)) in record {
      most = all_of.0;
      talks = reach.talks ++ last ∷ [];
      are = all_but_one reach.talks last fault reach.are refl;
      runs = all_of.1;
    }

-- the terminal ended the exchange
pub ended-over : (t0 : TerminalState) (n0 : Doing) (spoken : List Spoken) (ending : Ending) (t : TerminalState)
    → Reaches t0 n0 spoken (ends ending) t → IsOverBy t0 n0 spoken ending t
ended-over t0 n0 spoken ending t reach =
    let all_of = reach.on 0 [] ending t (refl, refl) in record {
      most = all_of.0;
      talks = reach.talks;
      are = all reach.talks reach.are;
      runs = subst (λ (talks : List Talk). Runs all_of.0 n0 t0 talks ending t) (append-nil reach.talks) all_of.1;
    }

pub said-ending : (next : Next) (own : ℕ) (fault : Error) → goes (action_of next own) ≡ false
    → ending_by fault (action_of next own) ≡ line_failed fault
said-ending next_step.Send own fault e = cc
said-ending (next_step.Wait time) own fault e = cc
said-ending next own fault e = refl

pub front : (sent : Parts) (old new : List ℕ) (count : ℕ) → IsPut sent old new count → take count new ≡ spelling sent
front sent old new count is = grind (arith, common_steps, is.counted, is.buffer, is.spells.is)

-- ---- a turn of the terminal

-- a turn that sends nothing ends the exchange
pub over-at : (t0 : TerminalState) (n0 : Doing) (spoken : List Spoken) (ending : Ending) (s : Standing)
    (wanted : Action)
    → Reaches t0 n0 spoken (ends ending) s.terminal → s.next ≡ wanted → goes wanted ≡ false
    → ((fault : Error) → ending_by fault wanted ≡ ending) → IsAt t0 n0 spoken s
over-at t0 n0 spoken ending s wanted reach e done_so ends_so = record {
  going = λ on. let bad : true ≡ false = sym on ∙ ap goes e ∙ done_so in cc;
  over = λ off fault. subst (λ (how : Ending). IsOverBy t0 n0 spoken how s.terminal)
      (sym (ap (ending_by fault) e ∙ ends_so fault)) (ended-over t0 n0 spoken ending s.terminal reach);
}

-- a turn that sends a block, and what the line says then
pub sent-at : (t0 : TerminalState) (n0 : Doing) (spoken : List Spoken) (sent : Parts) (s : Standing) (next : Next)
    (count : ℕ) → Reaches t0 n0 spoken (sends sent) s.terminal → take s.own s.out ≡ spelling sent
    → s.next ≡ action_of next count → IsAt t0 n0 spoken s
sent-at t0 n0 spoken sent s next count reach e is = record {
  going = λ on. (sent, e, reach);
  over = λ off fault. subst (λ (how : Ending). IsOverBy t0 n0 spoken how s.terminal)
      (sym (ap (ending_by fault) is ∙ said-ending next count fault (ap goes (sym is) ∙ off)))
      (failed-over t0 n0 spoken sent s.terminal fault reach);
}

pub answered-ending : (count : ℕ) (fault : Error) → ending_by fault (answered_with count) ≡ done
answered-ending count fault =
    either (λ a. ending_by fault a ≡ done) (nat_lt count 2) _ _ (λ _. refl) (λ _. refl)

pub answered-off : (count : ℕ) → goes (answered_with count) ≡ false
answered-off count = either (λ a. goes a ≡ false) (nat_lt count 2) _ _ (λ _. refl) (λ _. refl)

-- what follows from the turn that was made
pub after-as : (acted wanted : Result EncodedTerminalTurn TerminalFault) (answer : ℕ) (start : Start) (limits : Limits)
    (rules : Rules) (p : wire.Doing) (burst : List ℕ) (now : ℕ) (s : Standing) (own : ℕ) → acted ≡ wanted
    → AfterTurn acted answer start limits rules p burst now s.line own s.own (Ok s.next)
    → AfterTurn wanted answer start limits rules p burst now s.line own s.own (Ok s.next)
after-as acted wanted answer start limits rules p burst now s own e after =
    subst (λ (x : Result EncodedTerminalTurn TerminalFault).
    AfterTurn x answer start limits rules p burst now s.line own s.own (Ok s.next)) e after

pub turned-at : (turn : Result TerminalTurn TerminalFault) (acted : Result EncodedTerminalTurn TerminalFault)
    (t0 : TerminalState) (n0 : Doing) (spoken : List Spoken) (answer : ℕ) (start : Start) (limits : Limits)
    (rules : Rules) (p : wire.Doing) (burst : List ℕ) (now own : ℕ) (out : List ℕ) (s : Standing)
    → Reaches t0 n0 spoken (next_of turn) s.terminal → IsTerminalPut turn out s.out acted
    → AfterTurn acted answer start limits rules p burst now s.line own s.own (Ok s.next)
    → IsAt t0 n0 spoken s
turned-at (Ok (own_turn.Send sent)) acted t0 n0 spoken answer start limits rules p burst now own out s reach
    (count, is, placed) after =
    let now_after : AfterTurn (Ok (put.Send count (waiting_times (own_turn.Send sent)))) answer start limits rules p
    burst
    now s.line own s.own (Ok s.next) =
    after-as acted _ answer start limits rules p burst now s own is after in
    sent-at t0 n0 spoken sent s _ count reach
    (ap (λ (n : ℕ). take n s.out) now_after.2.0 ∙ front sent out s.out count placed)
    (ok-same s.next now_after.0 (Ok s.next) refl now_after.1 ∙ now_after.2.1.action_is)
turned-at (Ok own_turn.Answered) acted t0 n0 spoken answer start limits rules p burst now own out s reach (is, kept)
    after =
    let now_after : AfterTurn (Ok put.Answered) answer start limits rules p burst now s.line own s.own (Ok s.next) =
    after-as acted _ answer start limits rules p burst now s own is after in
    over-at t0 n0 spoken done s (answered_with answer) reach
    (ok-same s.next now_after.0 (Ok s.next) refl now_after.1 ∙ now_after.2.action_is) (answered-off answer)
    (answered-ending answer)
turned-at (Ok own_turn.IfsSet) acted t0 n0 spoken answer start limits rules p burst now own out s reach (is, kept)
    after =
    let now_after : AfterTurn (Ok put.IfsSet) answer start limits rules p burst now s.line own s.own (Ok s.next) =
    after-as acted _ answer start limits rules p burst now s own is after in
    over-at t0 n0 spoken done s _ reach
    (ok-same s.next now_after.0 (Ok s.next) refl now_after.1 ∙ now_after.2.action_is) refl (λ fault. refl)
turned-at (Ok own_turn.GivenUp) acted t0 n0 spoken answer start limits rules p burst now own out s reach (is, kept)
    after =
    let now_after : AfterTurn (Ok put.GivenUp) answer start limits rules p burst now s.line own s.own (Ok s.next) =
    after-as acted _ answer start limits rules p burst now s own is after in
    over-at t0 n0 spoken given_up s _ reach
    (ok-same s.next now_after.0 (Ok s.next) refl now_after.1 ∙ now_after.2.action_is) refl (λ fault. refl)
turned-at (Ok own_turn.Dead) acted t0 n0 spoken answer start limits rules p burst now own out s reach (is, kept)
    after =
    let now_after : AfterTurn (Ok put.Dead) answer start limits rules p burst now s.line own s.own (Ok s.next) =
    after-as acted _ answer start limits rules p burst now s own is after in
    over-at t0 n0 spoken dead s _ reach
    (ok-same s.next now_after.0 (Ok s.next) refl now_after.1 ∙ now_after.2.action_is) refl (λ fault. refl)
turned-at (Err inner) acted t0 n0 spoken answer start limits rules p burst now own out s reach (is, kept) after =
    let now_after : AfterTurn (Err inner) answer start limits rules p burst now s.line own s.own (Ok s.next) =
    after-as acted _ answer start limits rules p burst now s own is after in
    absurd (not-both s.next inner (Ok s.next) refl now_after.0)

-- the same for an input of the terminal's table
pub turns-at : (input : TerminalInput) (t : TerminalState) (t0 : TerminalState) (n0 : Doing) (spoken : List Spoken)
    (start : Start) (limits : Limits) (rules : Rules) (p : wire.Doing) (burst : List ℕ) (now own : ℕ) (out : List ℕ)
    (s : Standing)
    → Reaches t0 n0 spoken (next_of (turn_of (terminal_turn t input))) (state_after t (terminal_turn t input))
    → TurnsTo t input start limits rules p burst now s.terminal s.line own s.own out s.out (Ok s.next)
    → IsAt t0 n0 spoken s
turns-at input t t0 n0 spoken start limits rules p burst now own out s reach turns =
    turned-at (turn_of (terminal_turn t input)) turns.acted t0 n0 spoken _ start limits rules p burst now own out s
    (subst (λ (left : TerminalState). Reaches t0 n0 spoken (next_of (turn_of (terminal_turn t input))) left)
    (sym turns.state) reach) turns.put turns.after

-- ---- a turn of the loop

-- the line goes on, or failed for the end: the terminal learns nothing
pub kept-at : (next : Next) (t0 : TerminalState) (n0 : Doing) (spoken : List Spoken) (sent : Parts)
    (before after : Standing) → take before.own before.out ≡ spelling sent
    → Reaches t0 n0 spoken (sends sent) before.terminal → after.terminal ≡ before.terminal → after.own ≡ before.own
    → after.out ≡ before.out → after.next ≡ action_of next before.own → IsAt t0 n0 spoken after
kept-at next t0 n0 spoken sent before after e reach same_end same_own same_out is =
    sent-at t0 n0 spoken sent after next before.own
    (subst (λ (t : TerminalState). Reaches t0 n0 spoken (sends sent) t) (sym same_end) reach)
    (ap (λ (n : ℕ). take n after.out) same_own ∙ ap (take before.own) same_out ∙ e) is

pub by-step : (next : Next) (step : Step) (t0 : TerminalState) (n0 : Doing) (spoken : List Spoken) (sent : Parts)
    (before after : Standing) → take before.own before.out ≡ spelling sent
    → Reaches t0 n0 spoken (sends sent) before.terminal
    → IsStepped next step before.line.rules before.terminal 0 after.terminal after.line before.own after.own before.out
    after.out (Ok after.next)
    → IsAt t0 n0 (spoken ++ spoken_in next step (take before.own before.out)) after
by-step Heard step t0 n0 spoken sent before after e reach stepped =
    turns-at _ before.terminal t0 n0 _ _ _ _ _ _ _ _ _ after
    (then-talk t0 n0 spoken sent before.terminal (take before.own before.out)
    (block (take handed (handed_over step.progress.is_spoiled step.burst))) e reach) stepped
by-step Quiet step t0 n0 spoken sent before after e reach stepped =
    turns-at _ before.terminal t0 n0 _ _ _ _ _ _ _ _ _ after
    (then-talk t0 n0 spoken sent before.terminal (take before.own before.out) nothing e reach) stepped
by-step next step t0 n0 spoken sent before after e reach stepped =
    subst (λ (all_of : List Spoken). IsAt t0 n0 all_of after) (sym (append-nil spoken))
    (kept-at next t0 n0 spoken sent before after e reach stepped.1 stepped.2 stepped.3
    (ok-same after.next (action_of next before.own) (Ok after.next) refl stepped.4))

pub turn-at : (t0 : TerminalState) (n0 : Doing) (spoken : List Spoken) (before : Standing) (sound : Sound)
    (after : Standing) (turn : IsTurn before sound after) → IsAt t0 n0 spoken before
    → IsAt t0 n0 (spoken ++ spoken_by before sound turn.burst) after
turn-at t0 n0 spoken before sound after turn at =
    let (sent, e, reach) = at.going turn.goes_on in
    by-step _ (step_by before sound turn.burst) t0 n0 spoken sent before after e reach turn.stepped_so

pub all-at : (t0 : TerminalState) (n0 : Doing) (first : Standing) (sounds : List Sound) (spoken : List Spoken)
    (last : Standing) → IsAt t0 n0 [] first → Turns first sounds spoken last → IsAt t0 n0 spoken last
all-at t0 n0 first sounds spoken last at none = at
all-at t0 n0 first sounds spoken last at (more before_sounds before_spoken before sound after turns turn) =
    turn-at t0 n0 before_spoken before sound after turn
    (all-at t0 n0 first before_sounds before_spoken before at turns)

-- ---- the exchange

pub begun-at : (t : TerminalState) (line : Line) (opening : Opening) (first : Standing) → IsBegun t line opening first
    → IsAt (state_after t (terminal_turn t opening.input)) (next_of (turn_of (terminal_turn t opening.input))) [] first
begun-at t line opening first begun =
    turns-at opening.input t _ _ [] _ _ _ _ _ _ _ _ first (at-first _ _) begun.turns

-- the exchange that is over is a run of the terminal's table
pub ran-run : {A : Type 0} (old new : A → List Sound → Type 0) (t : TerminalState) (line : Line) (opening : Opening)
    (spoken : List Spoken) (last : Standing) (blocks waited : ℕ)
    → Ran old new t line opening spoken last blocks waited → goes last.next ≡ false
    → (fault : Error) → IsRun t opening.input spoken (ending_by fault last.next) last.terminal
ran-run old new t line opening spoken last blocks waited ran off fault =
    let over = (all-at _ _ ran.first ran.gone.sounds spoken last (begun-at t line opening ran.first ran.begun)
    ran.gone.turns).over off fault in
    record { most = over.most; talks = over.talks; are = over.are; runs = over.runs }

-- the result of a loop that began so
abbrev pub IsRanSo : {A : Type 0} → (A → List Sound → Type 0) → (A → List Sound → Type 0) → TerminalState → Line
    → Opening → TerminalState → Line → ℕ → Action → ℕ → ℕ → Type 0
IsRanSo {A} old new t line opening left line_after own action blocks waited =
    (out : List ℕ) × (spoken : List Spoken)
    × Ran old new t line opening spoken (standing left line_after own out action) blocks waited
    × ((fault : Error) → IsRun t opening.input spoken (ending_by fault action) left)

pub gone-run : {A : Type 0} (old new : A → List Sound → Type 0) (t : TerminalState) (line : Line) (opening : Opening)
    (first : Standing) (spoken : List Spoken) (last : Standing) (blocks waited : ℕ) → IsBegun t line opening first
    → Gone old new first spoken last blocks waited → goes last.next ≡ false
    → IsRanSo old new t line opening last.terminal last.line last.own last.next blocks waited
gone-run old new t line opening first spoken last blocks waited begun gone off =
    let ran : Ran old new t line opening spoken last blocks waited =
    record { first = first; begun = begun; gone = gone } in (
      last.out,
      spoken,
      ran,
      λ fault. ran-run old new t line opening spoken last blocks waited ran off fault,
    )
