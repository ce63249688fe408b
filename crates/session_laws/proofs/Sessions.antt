-- What a session leaves to do, from what its line leaves.
use Rattle.std.proofs.Common.{◌≡◌, ◌≤◌, ◌<◌, ℕ, ◌+◌, ◌*◌, List, length, take, min, Bool, true, false, nat_lt, Result, Ok, Err, refl, sym, ap, subst, ◌∙◌, ◌⊎◌, inl, inr, arith}
use Rattle.std.proofs.lemmas.List.{length-take, length-take-le}
use Rattle.t1_core.specs.Terminal.{TerminalState, TerminalInput}
use Rattle.t1_core.specs.declared.turns.EncodedTerminalTurn.{EncodedTerminalTurn}
use Rattle.t1_core.specs.declared.turns.EncodedTerminalTurn.TheVariants as turn
use Rattle.t1_core.specs.declared.turns.TerminalFault.{TerminalFault}
use Rattle.line_core.specs.declared.framing.Framer.{Framer}
use Rattle.line_core.specs.Bursts.{HasHeard}
use Rattle.session_core.specs.declared.event.Next.{Next}
use Rattle.session_core.specs.declared.event.Next.TheVariants.{Send, Wait, Heard, Quiet, Order}
use Rattle.session_core.specs.declared.progress.Phase.{Phase}
use Rattle.session_core.specs.declared.progress.Phase.TheVariants.{Listening}
use Rattle.session_core.specs.declared.progress.Rules.{Rules}
use Rattle.session_core.specs.declared.lines.Line.{Line}
use Rattle.session_core.specs.declared.lines.Start.{Start}
use Rattle.session_core.specs.declared.lines.Start.TheVariants.{Clear, Exchange, Talk}
use Rattle.session_core.specs.declared.setup.Limits.{Limits}
use Rattle.session_core.specs.declared.action.Action.{Action}
use Rattle.session_core.specs.Wire.{Ruled, Doing, Step, step_of, ruled, seen, most_counted, is_set}
use Rattle.session_core.specs.Lines.{IsMoved, held_over, stepped}
use Rattle.session_core.specs.Actions.{action_of, count_of, answered_with}
use Rattle.session_core.specs.Terminals.{IsOver, IsTurned, AfterTurn, TurnsTo, IsStepped, sending, limited, limits_in}
use Rattle.session_laws.specs.Ending.{IsLess, rest, rest_in, to_begin, to_send, sent_by, for_block, goes, sends, rest_of, blocks_of, IsNext, IsWithin, fuel, events_in}
use Rattle.session_laws.proofs.Steps.{either, yes, stepped-less, talks-less, begins-less, clears-less}

-- a count that stops at its greatest value leaves as much as the count of all octets
pub same-rest : (phase : Phase) (left own count : ℕ)
    → rest_in phase left own (min count 18446744073709551615) ≡ rest_in phase left own count
same-rest Listening left own count = omega arith
same-rest phase left own count = refl

pub count-rest : (r : Ruled) (p : Doing) (framer : Framer) (burst : List ℕ) → HasHeard framer burst
    → rest r p framer.count ≡ rest r p (length burst)
count-rest r p framer burst heard =
    ap (λ (n : ℕ). rest r p n) heard.counted
    ∙ ap (λ (n : ℕ). to_begin r p * for_block + n) (same-rest p.phase p.left p.own (length burst))

pub ok-same : (a b : Action) (x : Result Action TerminalFault) → x ≡ Ok a → x ≡ Ok b → a ≡ b
ok-same a b x e f = cc

pub not-both : (a : Action) (fault : TerminalFault) (x : Result Action TerminalFault) → x ≡ Ok a → x ≡ Err fault → ⊥
not-both a fault x e f = cc

abbrev pub is_card_of : Rules → Bool
is_card_of rules = is_set rules.is_card

-- the limits that the line has stay
pub either-next : (rules others : Rules) (most blocks : ℕ) (line : Line) (action : Action) → others ≡ rules
    → IsNext others most blocks line action ⊎ (IsNext rules most blocks line action × (goes action ≡ false))
    → IsNext rules most blocks line action
either-next rules others most blocks line action e (inl next) =
    subst (λ (u : Rules). IsNext u most blocks line action) e next
either-next rules others most blocks line action e (inr next) = next.0

-- an action after which the session goes on is one that the line said
pub sent-action : (next : Next) (count : ℕ) → goes (action_of next count) ≡ true
    → (b : Bool) (burst : List ℕ) → (held_over next b burst ≡ burst) × (sends (action_of next count) ≡ sent_by next)
sent-action Send count e b burst = (refl, refl)
sent-action (Wait time) count e b burst = (refl, refl)
sent-action next count e b burst = cc

pub moved-next : (step : Step) (rules : Rules) (most blocks count : ℕ) (line : Line) (action : Action)
    → IsMoved step rules line → IsLess (ruled rules) most blocks step → action ≡ action_of step.next count
    → IsNext rules most blocks line action
moved-next step rules most blocks count line action moved less is = record {
  rules_are = moved.rules_are;
  burst = (held_over step.next step.progress.is_spoiled step.burst, moved.burst_is);
  less = λ e. let said : goes (action_of step.next count) ≡ true = ap goes (sym is) ∙ e in
      let heard : HasHeard line.framer step.burst =
      rw (sym (sent-action step.next count said step.progress.is_spoiled step.burst).0) moved.burst_is in
      subst (λ (u : Rules). rest (ruled u) (seen line.progress) line.framer.count < most) (sym moved.rules_are)
      (subst (λ (q : Doing). rest (ruled rules) q line.framer.count < most) (sym moved.progress)
      (subst (λ (n : ℕ). n < most) (sym (count-rest (ruled rules) step.progress line.framer step.burst heard))
      less.less));
  few = λ e. let said : goes (action_of step.next count) ≡ true = ap goes (sym is) ∙ e in
      subst (λ (u : Rules). sends action + to_send (ruled u) (seen line.progress) ≤ blocks) (sym moved.rules_are)
      (subst (λ (q : Doing). sends action + to_send (ruled rules) q ≤ blocks) (sym moved.progress)
      (subst (λ (n : ℕ). n + to_send (ruled rules) step.progress ≤ blocks)
      (sym (ap sends is ∙ (sent-action step.next count said step.progress.is_spoiled step.burst).1)) less.sends));
}

-- a session that is over keeps its line
pub over-next : (rules : Rules) (p : Doing) (burst : List ℕ) (most blocks : ℕ) (line : Line)
    (own own_after : ℕ) (action wanted : Action) → IsOver rules p burst line own own_after action wanted
    → goes wanted ≡ false → IsNext rules most blocks line action
over-next rules p burst most blocks line own own_after action wanted over done = record {
  rules_are = over.still.rules_are;
  burst = (burst, over.still.burst_is);
  less = λ e. let bad : true ≡ false = sym e ∙ ap goes over.action_is ∙ done in cc;
  few = λ e. let bad : true ≡ false = sym e ∙ ap goes over.action_is ∙ done in cc;
}

pub answered-over : (answer : ℕ) → goes (answered_with answer) ≡ false
answered-over answer = either (λ a. goes a ≡ false) (nat_lt answer 2) _ _ (λ _. refl) (λ _. refl)

-- ---- a turn

-- what a session that sends its next block does
abbrev pub LeavesSent : Start → Limits → Rules → Doing → List ℕ → ℕ → ℕ → ℕ → Type 0
LeavesSent start limits rules p burst now most blocks = (waiting : ℕ)
    → IsLess (ruled (limited rules limits)) most blocks (sending start limits rules p burst waiting now)

pub turned-next : (turned : EncodedTerminalTurn) (answer : ℕ) (start : Start) (limits : Limits) (rules : Rules)
    (p : Doing) (burst : List ℕ) (now : ℕ) (line : Line) (own own_after : ℕ) (action : Action) (most blocks : ℕ)
    → LeavesSent start limits rules p burst now most blocks
    → IsTurned turned answer start limits rules p burst now line own own_after action
    → IsNext (limited rules limits) most blocks line action
    ⊎ (IsNext rules most blocks line action × (goes action ≡ false))
turned-next (turn.Send count waiting) answer start limits rules p burst now line own own_after action most blocks leaves
    turned = inl (moved-next (sending start limits rules p burst waiting now) (limited rules limits) most blocks count
    line
    action turned.1.moved (leaves waiting) turned.1.action_is)
turned-next turn.Answered answer start limits rules p burst now line own own_after action most blocks leaves turned =
    inr (
      over-next rules p burst most blocks line own own_after action _ turned (answered-over answer),
      ap goes turned.action_is ∙ answered-over answer,
    )
turned-next turn.IfsSet answer start limits rules p burst now line own own_after action most blocks leaves turned =
    inr (over-next rules p burst most blocks line own own_after action _ turned refl, ap goes turned.action_is)
turned-next turn.GivenUp answer start limits rules p burst now line own own_after action most blocks leaves turned =
    inr (over-next rules p burst most blocks line own own_after action _ turned refl, ap goes turned.action_is)
turned-next turn.Dead answer start limits rules p burst now line own own_after action most blocks leaves turned =
    inr (over-next rules p burst most blocks line own own_after action _ turned refl, ap goes turned.action_is)

pub after-turn : (acted : Result EncodedTerminalTurn TerminalFault) (answer : ℕ) (start : Start) (limits : Limits)
    (rules : Rules) (p : Doing) (burst : List ℕ) (now : ℕ) (line : Line) (own own_after : ℕ) (action : Action)
    (most blocks : ℕ) → LeavesSent start limits rules p burst now most blocks
    → AfterTurn acted answer start limits rules p burst now line own own_after (Ok action)
    → IsNext (limited rules limits) most blocks line action
    ⊎ (IsNext rules most blocks line action × (goes action ≡ false))
after-turn (Ok turned) answer start limits rules p burst now line own own_after action most blocks leaves after =
    turned-next turned answer start limits rules p burst now line own own_after action most blocks leaves
    (subst (λ (a : Action). IsTurned turned answer start limits rules p burst now line own own_after a)
    (ok-same after.0 action (Ok action) after.1 refl) after.2)
after-turn (Err fault) answer start limits rules p burst now line own own_after action most blocks leaves after =
    absurd (not-both action fault (Ok action) refl after.0)

-- a turn with the limits that the line has
pub talked-next : (t : TerminalState) (input : TerminalInput) (rules : Rules) (p : Doing) (burst : List ℕ) (now : ℕ)
    (t_after : TerminalState) (line : Line) (own own_after : ℕ) (out out_after : List ℕ) (action : Action)
    (most blocks : ℕ) → is_card_of rules ≡ false → rules.most_blocks ≤ most_counted
    → to_begin (ruled rules) p * for_block < most → to_begin (ruled rules) p ≤ blocks
    → TurnsTo t input Talk (limits_in rules) rules p burst now t_after line own own_after out out_after (Ok action)
    → IsNext rules most blocks line action
talked-next t input rules p burst now t_after line own own_after out out_after action most blocks terminal most_is h k
    turns =
    either-next rules (limited rules (limits_in rules)) most blocks line action refl
    (after-turn turns.acted (count_of t_after.answered) Talk (limits_in rules) rules p burst now line own own_after
    action
    most blocks (λ waiting. talks-less (ruled rules) _ burst now most blocks terminal most_is h k) turns.after)

-- ---- a step

-- an event that doesn't fit
pub still-next : (step : Step) (rules : Rules) (p : Doing) (burst : List ℕ) (most blocks own : ℕ) (line : Line)
    (action : Action) → IsMoved step rules line → step ≡ step_of p burst Order → action ≡ action_of step.next own
    → IsNext rules most blocks line action
still-next step rules p burst most blocks own line action moved still is =
    let done : goes action ≡ false = ap goes is ∙ ap (λ (s : Step). goes (action_of s.next own)) still in record {
      rules_are = moved.rules_are;
      burst = (held_over step.next step.progress.is_spoiled step.burst, moved.burst_is);
      less = λ e. let bad : true ≡ false = sym e ∙ done in cc;
      few = λ e. let bad : true ≡ false = sym e ∙ done in cc;
    }

pub by-next : (next : Next) (step : Step) (rules : Rules) (p : Doing) (burst : List ℕ) (t : TerminalState) (now : ℕ)
    (t_after : TerminalState) (line : Line) (own own_after : ℕ) (out out_after : List ℕ) (action : Action)
    (most blocks : ℕ) → next ≡ step.next → is_card_of rules ≡ false → rules.most_blocks ≤ most_counted
    → IsLess (ruled rules) most blocks step ⊎ (step ≡ step_of p burst Order)
    → IsStepped next step rules t now t_after line own own_after out out_after (Ok action)
    → IsNext rules most blocks line action
by-next Heard step rules p burst t now t_after line own own_after out out_after action most blocks e terminal most_is
    (inl less) stepped = talked-next t _ rules step.progress _ now t_after line own own_after out out_after action most
    blocks terminal most_is (omega (arith, less.less)) (omega (arith, less.sends)) stepped
by-next Quiet step rules p burst t now t_after line own own_after out out_after action most blocks e terminal most_is
    (inl less) stepped = talked-next t _ rules step.progress _ now t_after line own own_after out out_after action most
    blocks terminal most_is (omega (arith, less.less)) (omega (arith, less.sends)) stepped
by-next Heard step rules p burst t now t_after line own own_after out out_after action most blocks e terminal most_is
    (inr still) stepped = let bad : Heard ≡ Order = e ∙ ap (λ (s : Step). s.next) still in cc
by-next Quiet step rules p burst t now t_after line own own_after out out_after action most blocks e terminal most_is
    (inr still) stepped = let bad : Quiet ≡ Order = e ∙ ap (λ (s : Step). s.next) still in cc
by-next next step rules p burst t now t_after line own own_after out out_after action most blocks e terminal most_is
    (inl less) stepped = moved-next step rules most blocks own line action stepped.0 less
    (ok-same action (action_of next own) (Ok action) refl stepped.4 ∙ ap (λ (n : Next). action_of n own) e)
by-next next step rules p burst t now t_after line own own_after out out_after action most blocks e terminal most_is
    (inr still) stepped = still-next step rules p burst most blocks own line action stepped.0 still
    (ok-same action (action_of next own) (Ok action) refl stepped.4 ∙ ap (λ (n : Next). action_of n own) e)

pub begun : (before : Line) (limits : Limits) (line : Line) (action : Action) {most : ℕ}
    → is_card_of before.rules ≡ false → is_set before.rules.has_clock ≡ false → limits.blocks ≤ 4294967295
    → IsNext (limited before.rules limits) most limits.blocks line action
    ⊎ (IsNext before.rules most limits.blocks line action × (goes action ≡ false))
    → IsWithin limits.blocks 0 line action
begun before limits line action terminal clock limit_is (inl next) = record {
  terminal = rw next.rules_are terminal;
  clock = rw next.rules_are clock;
  burst = next.burst;
  counted = λ _. rw next.rules_are limit_is;
  few = λ e. let few : blocks_of line action ≤ limits.blocks = next.few e in omega (arith, few);
  within = omega arith;
}
begun before limits line action terminal clock limit_is (inr next) = record {
  terminal = rw next.0.rules_are terminal;
  clock = rw next.0.rules_are clock;
  burst = next.0.burst;
  counted = λ e. let bad : true ≡ false = sym e ∙ next.1 in cc;
  few = λ e. let few : blocks_of line action ≤ limits.blocks = next.0.few e in omega (arith, few);
  within = omega arith;
}

pub less-fuel : (before line : Line) (last action : Action) → goes last ≡ true
    → (goes action ≡ true → rest_of line < rest_of before) → fuel line action < fuel before last
less-fuel before line last action on less =
    subst (λ (n : ℕ). fuel line action < n) (sym (yes (goes last) (rest_of before + 1) 0 on))
    (either (λ (n : ℕ). n < rest_of before + 1) (goes action) _ _
    (λ e. let less-now : rest_of line < rest_of before = less e in omega (arith, less-now)) (λ _. omega arith))

pub continues : (most sent sent_after : ℕ) (before line : Line) (last action : Action) → IsWithin most sent before last
    → goes last ≡ true → sent_after ≡ sent + sends last
    → IsNext before.rules (rest_of before) (to_send (ruled before.rules) (seen before.progress)) line action
    → IsWithin most sent_after line action × (fuel line action < fuel before last)
continues most sent sent_after before line last action within on is next =
    let all : sent + (sends last + to_send (ruled before.rules) (seen before.progress)) ≤ most = within.few on in (
      record {
        terminal = rw next.rules_are within.terminal;
        clock = rw next.rules_are within.clock;
        burst = next.burst;
        counted = λ _. rw next.rules_are (within.counted on);
        few = λ e. let few : blocks_of line action ≤ to_send (ruled before.rules) (seen before.progress) = next.few e in
            omega (arith, all, few, is);
        within = omega (arith, all, is);
      },
      less-fuel before line last action on next.less,
    )

-- A session after something that happened: what it may still do is less than before.
pub stepped-next : (event : ℕ) (before line : Line) (burst octets block : List ℕ) (t : TerminalState) (now : ℕ)
    (t_after : TerminalState) (own own_after : ℕ) (out out_after : List ℕ) (action : Action)
    → is_card_of before.rules ≡ false → before.rules.most_blocks ≤ most_counted → events_in event (length octets)
    → length block ≤ 258 → HasHeard before.framer burst
    → IsStepped (stepped event (ruled before.rules) (seen before.progress) burst octets now block).next
    (stepped event (ruled before.rules) (seen before.progress) burst octets now block) before.rules t now t_after line
    own own_after out out_after (Ok action)
    → IsNext before.rules (rest_of before) (to_send (ruled before.rules) (seen before.progress)) line action
stepped-next event before line burst octets block t now t_after own own_after out out_after action terminal most_is
    fits short heard h =
    subst (λ (n : ℕ). IsNext before.rules n (to_send (ruled before.rules) (seen before.progress)) line action)
    (sym (count-rest (ruled before.rules) (seen before.progress) before.framer burst heard))
    (by-next _ _ before.rules (seen before.progress) burst t now t_after line own own_after out out_after action _ _
    refl
    terminal most_is
    (stepped-less event (ruled before.rules) (seen before.progress) burst octets now block terminal most_is fits.0
    fits.1
    short) h)

-- ---- the loop

-- an application has begun
pub opened-within : (t : TerminalState) (input : TerminalInput) (start : Start) (limits : Limits) (before line : Line)
    (burst : List ℕ) (now : ℕ) (t_after : TerminalState) (own own_after : ℕ) (out out_after : List ℕ) (action : Action)
    (most : ℕ) → LeavesSent start limits before.rules (seen before.progress) burst now most limits.blocks
    → is_card_of before.rules ≡ false → is_set before.rules.has_clock ≡ false → limits.blocks ≤ 4294967295
    → TurnsTo t input start limits before.rules (seen before.progress) burst now t_after line own own_after out
    out_after (Ok action)
    → IsWithin limits.blocks 0 line action
opened-within t input start limits before line burst now t_after own own_after out out_after action most leaves terminal
    clock limit_is turns =
    begun before limits line action terminal clock limit_is
    (after-turn turns.acted (count_of t_after.answered) start limits before.rules (seen before.progress) burst now
    line own own_after action most limits.blocks leaves turns.after)

pub begun-within : (t : TerminalState) (input : TerminalInput) (limits : Limits) (before line : Line) (burst : List ℕ)
    (now : ℕ) (t_after : TerminalState) (own own_after : ℕ) (out out_after : List ℕ) (action : Action)
    → is_card_of before.rules ≡ false → is_set before.rules.has_clock ≡ false → limits.blocks ≤ 4294967295
    → TurnsTo t input Exchange limits before.rules (seen before.progress) burst now t_after line own own_after out
    out_after (Ok action)
    → IsWithin limits.blocks 0 line action
begun-within t input limits before line burst now t_after own own_after out out_after action terminal clock limit_is
    turns =
    opened-within t input Exchange limits before line burst now t_after own own_after out out_after action _
    (λ waiting. begins-less (ruled (limited before.rules limits)) _ burst now) terminal clock limit_is turns

pub cleared-within : (t : TerminalState) (input : TerminalInput) (limits : Limits) (before line : Line)
    (burst : List ℕ) (now : ℕ) (t_after : TerminalState) (own own_after : ℕ) (out out_after : List ℕ) (action : Action)
    → is_card_of before.rules ≡ false → is_set before.rules.has_clock ≡ false → limits.blocks ≤ 4294967295
    → TurnsTo t input Clear limits before.rules (seen before.progress) burst now t_after line own own_after out
    out_after (Ok action)
    → IsWithin limits.blocks 0 line action
cleared-within t input limits before line burst now t_after own own_after out out_after action terminal clock limit_is
    turns =
    opened-within t input Clear limits before line burst now t_after own own_after out out_after action _
    (λ waiting. clears-less (ruled (limited before.rules limits)) _ burst now) terminal clock limit_is turns

-- something happened
pub stepped-within : (most sent sent_after event : ℕ) (before line : Line) (burst octets block : List ℕ)
    (t : TerminalState) (now : ℕ) (t_after : TerminalState) (own own_after : ℕ) (out out_after : List ℕ)
    (last action : Action) → IsWithin most sent before last → goes last ≡ true → sent_after ≡ sent + sends last
    → HasHeard before.framer burst
    → IsStepped (stepped event (ruled before.rules) (seen before.progress) burst octets now block).next
    (stepped event (ruled before.rules) (seen before.progress) burst octets now block) before.rules t now t_after line
    own own_after out out_after (Ok action)
    → events_in event (length octets) → length block ≤ 258
    → IsWithin most sent_after line action × (fuel line action < fuel before last)
stepped-within most sent sent_after event before line burst octets block t now t_after own own_after out out_after last
    action within on is heard h fits short =
    continues most sent sent_after before line last action within on is
    (stepped-next event before line burst octets block t now t_after own own_after out out_after action within.terminal
    (within.counted on) fits short heard h)

-- the octets at the front of the room
pub front-fits : (event count : ℕ) (room : List ℕ) → count ≤ length room → events_in event count
    → events_in event (length (take count room))
front-fits event count room fits some =
    let same : length (take count room) ≡ count = length-take-le count room fits in
    (λ e. rw same (some.0 e), λ e. rw same (some.1 e))

-- a block is at the front of as much room as the longest one needs
pub front-short : (own : ℕ) (out : List ℕ) → length out ≡ 258 → length (take own out) ≤ 258
front-short own out is = omega (arith, is, length-take own out)
