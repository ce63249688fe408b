-- What a block of a trace breaks was at stake.
use Rattle.std.proofs.Common.{inl, inr, ◌≡◌, ◌&&◌, not, ℕ, List, refl, subst, sym}
use Rattle.std.specs.Prelude.{Bool, true, false, if◌then◌else◌, Option, Some, None, Ok, Err}
use Rattle.octet_core.specs.declared.stop.Stop.{Stop}
use Rattle.octet_core.specs.declared.stop.Stop.TheVariants.{At, Short}
use Rattle.block_core.specs.Block.{Parts, Suits, is_whole}
use Rattle.block_core.specs.declared.reason.BlockReason.{BlockReason}
use Rattle.block_core.specs.declared.reason.BlockReason.TheVariants.{BadPcb, BadLen, OverIfs, BadIfs, BadLrc}
use Rattle.block_core.specs.declared.pcb.Pcb.{Pcb}
use Rattle.block_core.specs.declared.pcb.Pcb.TheVariants.{Info, Ready, Request, Response}
use Rattle.t1_core.specs.Came.{carried}
use Rattle.block_core.specs.declared.side.Side.{Side}
use Rattle.judge_core.specs.declared.end.Owed.{Owed}
use Rattle.judge_core.specs.declared.end.Owed.TheVariants.{NewMessage, Refusal}
use Rattle.judge_core.specs.declared.end.End.{End}
use Rattle.judge_core.specs.declared.end.After.{After}
use Rattle.judge_core.specs.declared.rule.Rule.{Rule}
use Rattle.judge_core.specs.declared.rule.Rule.TheVariants as rule
use Rattle.judge_core.specs.declared.state.State.{State}
use Rattle.judge_core.specs.declared.courses.Heard.{Heard}
use Rattle.judge_core.specs.declared.courses.Heard.TheVariants.{Beginning, Whole, Perhaps, Broken, Nothing}
use Rattle.judge_core.specs.declared.courses.Verdict.{Verdict}
use Rattle.judge_core.specs.declared.courses.Verdict.TheVariants.{Permitted, Unseen, Deviates}
use Rattle.judge_core.specs.declared.courses.Judged.{Judged}
use Rattle.judge_core.specs.declared.monitor.Watched.{Watched}
use Rattle.judge_core.specs.declared.monitor.Monitor.{Monitor}
use Rattle.judge_core.specs.declared.monitor.Arrival.{Arrival}
use Rattle.judge_core.specs.declared.monitor.Said.{Said}
use Rattle.judge_core.specs.declared.monitor.Said.TheVariants.{Damage, Elsewhere, Block}
use Rattle.judge_core.specs.declared.stakes.Stakes.{Stakes}
use Rattle.judge_core.specs.declared.exercise.Exercise.TheVariants.{Breaks}
use Rattle.judge_core.specs.Sends.{Sent, sends}
use Rattle.judge_core.specs.Ends.{after, hears, missed}
use Rattle.judge_core.specs.Courses.{attempted, by_damage, chosen, first_course, got_none, got_whole, judges, uncounted, untaken}
use Rattle.judge_core.specs.Doubts.{is_open, only_openly, openly, sent_openly}
use Rattle.judge_core.specs.Monitored.{addressed_by, has_length, is_unchanged, made_as, refused_as, rule_at, is_elsewhere, rule_made, said_here, said_in, said_of, sender, IsSeen, IsSent, Seen, whole, malformed, damage}
use Rattle.judge_core.specs.Stakes.{at_stake, can_break, exercise_by, exercise_of, fitting, is_card, is_nothing, owed_breaks, stakes_of}
use Rattle.judge_core.proofs.AtStake.{in-right, sends-known, IsKnown}

-- ---- the rules that no end breaks by what it sends

no-address : (e : End) (owed : Owed) → owed_breaks e owed rule.NodeAddress ≡ true → ⊥
no-address e NewMessage h = cc h
no-address e owed h = cc h

no-turn : (e : End) (owed : Owed) → owed_breaks e owed rule.Turn ≡ true → ⊥
no-turn e NewMessage h = cc h
no-turn e owed h = cc h

no-silence : (e : End) (owed : Owed) → owed_breaks e owed rule.Silence ≡ true → ⊥
no-silence e NewMessage h = cc h
no-silence e owed h = cc h

by-turn : (b c : Bool) → b ≡ false → c ≡ true → not b && c ≡ true
by-turn b c h g = rw (h, g)

-- an end whose turn it is
ordinary : (s : Stakes) → is_nothing s.heard ≡ false → (r : Rule) → can_break s.due.«end» s.due.owed r ≡ true
    → at_stake s r ≡ true
ordinary s turn rule.NodeAddress h = absurd (no-address s.due.«end» s.due.owed h)
ordinary s turn rule.ControlOctet h = refl
ordinary s turn rule.Length h = refl
ordinary s turn rule.CheckOctet h = refl
ordinary s turn rule.ReservedSize h = refl
ordinary s turn rule.Turn h = absurd (no-turn s.due.«end» s.due.owed h)
ordinary s turn rule.Silence h = absurd (no-silence s.due.«end» s.due.owed h)
ordinary s turn r h = by-turn (is_nothing s.heard) (can_break s.due.«end» s.due.owed r) turn h

-- ---- the verdict on a block

abbrev stakes : Heard → After → Stakes
stakes heard owing = record { heard = heard; due = owing }

abbrev IsStaked : Verdict → Stakes → Type 0
IsStaked Permitted s = Unit {0}
IsStaked Unseen s = Unit {0}
IsStaked (Deviates broken owing) s = at_stake s broken ≡ true

damage-staked : (heard : Heard) (s : Stakes) → IsStaked (by_damage heard) s
damage-staked Beginning s = tt
damage-staked (Whole pcb octet) s = tt
damage-staked (Perhaps pcb octet) s = tt
damage-staked Broken s = tt
damage-staked Nothing s = tt

module _ (heard : Heard) (turn : is_nothing heard ≡ false) (pcb : Pcb) (octet : ℕ) where
  two-staked : (d f : After) (x y : Sent) → IsKnown (can_break d.«end» d.owed) x
      → IsStaked (chosen heard d pcb octet (Some x) (Some y)).verdict
      (stakes heard (fitting d (Some f) (Some x) (Some y)))
  two-staked d f (Ok e) y known = tt
  two-staked d f (Err q) (Ok e) known = damage-staked heard (stakes heard f)
  two-staked d f (Err q) (Err r) known = ordinary (stakes heard d) turn q known

  first-staked : (d : After) (x : Sent) → IsKnown (can_break d.«end» d.owed) x
      → IsStaked (chosen heard d pcb octet (Some x) None).verdict
      (stakes heard (fitting d None (Some x) None))
  first-staked d (Ok e) known = tt
  first-staked d (Err q) known = ordinary (stakes heard d) turn q known

  second-staked : (d : After) (y : Sent) → IsKnown (can_break d.«end» d.owed) y
      → IsStaked (chosen heard d pcb octet None (Some y)).verdict
      (stakes heard (fitting d (Some d) None (Some y)))
  second-staked d (Ok e) known = damage-staked heard (stakes heard d)
  second-staked d (Err q) known = ordinary (stakes heard d) turn q known

module _ (e : End) (last : List ℕ) (pcb : Pcb) (inf : List ℕ) (suits : Suits 254 pcb inf) where
  abbrev sent : After → Sent
  sent d = sends d.«end» d.owed last pcb inf

  known : (d : After) → IsKnown (can_break d.«end» d.owed) (sent d)
  known d = sends-known d.«end» d.owed last pcb inf suits

  two-courses : (heard : Heard) → is_nothing heard ≡ false → (d f : After)
      → IsStaked (chosen heard d pcb (carried inf) (attempted (Some d) last pcb inf)
      (attempted (Some f) last pcb inf)).verdict
      (stakes heard (fitting d (Some f) (attempted (Some d) last pcb inf) (attempted (Some f) last pcb inf)))
  two-courses heard turn d f = two-staked heard turn pcb (carried inf) d f (sent d) (sent f) (known d)

  one-course : (heard : Heard) → is_nothing heard ≡ false → (d : After)
      → IsStaked (chosen heard d pcb (carried inf) (attempted (Some d) last pcb inf) None).verdict
      (stakes heard (fitting d None (attempted (Some d) last pcb inf) None))
  one-course heard turn d = first-staked heard turn pcb (carried inf) d (sent d) (known d)

  damaged-course : (heard : Heard) → is_nothing heard ≡ false → (d : After)
      → IsStaked (chosen heard d pcb (carried inf) None (attempted (Some d) last pcb inf)).verdict
      (stakes heard (fitting d (Some d) None (attempted (Some d) last pcb inf)))
  damaged-course heard turn d = second-staked heard turn pcb (carried inf) d (sent d) (known d)

  on-courses : (heard : Heard) → IsStaked (judges e heard last pcb inf).verdict
      (stakes heard (fitting (first_course e (got_whole e heard) (got_none e heard)) (got_none e heard)
      (attempted (got_whole e heard) last pcb inf) (attempted (got_none e heard) last pcb inf)))
  on-courses Beginning = one-course Beginning refl (after e NewMessage)
  on-courses (Whole (Info number more) octet) =
      two-courses (Whole (Info number more) octet) refl (hears e (Info number more) octet)
      (untaken e (Info number more) (after e Refusal))
  on-courses (Whole (Ready number fault) octet) =
      one-course (Whole (Ready number fault) octet) refl (hears e (Ready number fault) octet)
  on-courses (Whole (Request s) octet) = one-course (Whole (Request s) octet) refl (hears e (Request s) octet)
  on-courses (Whole (Response s) octet) = one-course (Whole (Response s) octet) refl (hears e (Response s) octet)
  on-courses (Perhaps p octet) =
      two-courses (Perhaps p octet) refl (hears e p octet)
      (untaken e p (after (uncounted e p octet) (missed e)))
  on-courses Broken = damaged-course Broken refl (after e (missed e))
  on-courses Nothing = in-right (is_card e.side) true refl

-- a block that only an unknown last block permits breaks nothing
opened-staked : (is_free : Bool) (judged : Judged) (v : Verdict) (s : Sent) (st : Stakes)
    → (is_free && only_openly v s) ≡ true → IsStaked (openly judged s).verdict st
opened-staked false judged v s st h = absurd (cc h)
opened-staked true judged v (Ok e) st h = tt
opened-staked true judged Permitted (Err q) st h = absurd (cc h)
opened-staked true judged Unseen (Err q) st h = absurd (cc h)
opened-staked true judged (Deviates broken owed) (Err q) st h = absurd (cc h)

by-either : (heard : Heard) (b : Bool) (judged opened : Judged) (hidden due : After)
    → (b ≡ true → IsStaked opened.verdict (stakes heard hidden)) → IsStaked judged.verdict (stakes heard due)
    → IsStaked (if b then opened else judged).verdict (stakes heard (if b then hidden else due))
by-either heard true judged opened hidden due k h = k refl
by-either heard false judged opened hidden due k h = h

-- ---- octets

abbrev IsSaidStaked : Said → Stakes → Type 0
IsSaidStaked Damage s = Unit {0}
IsSaidStaked Elsewhere s = Unit {0}
IsSaidStaked (Block verdict) s = IsStaked verdict s

module _ (w : Watched) (block : Parts) where
  addressed-staked : Suits 254 block.pcb block.inf → (addressed : Bool)
      → IsSaidStaked (said_of w addressed (whole block)) (stakes_of w (whole block))
  addressed-staked suits true =
      let judged = judges w.«end» w.heard w.last.items block.pcb block.inf in
      let sent = sent_openly w block in
      by-either w.heard (is_open w.doubt && only_openly judged.verdict sent) judged (openly judged sent) _ _
      (opened-staked (is_open w.doubt) judged judged.verdict sent _)
      (on-courses w.«end» w.last.items block.pcb block.inf suits w.heard)
  addressed-staked suits false = refl

refused-staked : (s : Stakes) (right : Bool) (stop : Stop BlockReason) (broken : Rule)
    → malformed broken ≡ refused_as right (rule_at stop) → at_stake s broken ≡ true
refused-staked s false stop broken h = absurd (cc h)
refused-staked s true (Short place) broken h = absurd (cc h)
refused-staked s true (At place BadPcb) broken h =
    let e : rule.ControlOctet ≡ broken = cc h in subst (λ (r : Rule). at_stake s r ≡ true) e refl
refused-staked s true (At place BadLen) broken h =
    let e : rule.Length ≡ broken = cc h in subst (λ (r : Rule). at_stake s r ≡ true) e refl
refused-staked s true (At place OverIfs) broken h =
    let e : rule.Length ≡ broken = cc h in subst (λ (r : Rule). at_stake s r ≡ true) e refl
refused-staked s true (At place BadIfs) broken h =
    let e : rule.ReservedSize ≡ broken = cc h in subst (λ (r : Rule). at_stake s r ≡ true) e refl
refused-staked s true (At place BadLrc) broken h = absurd (cc h)

seen-staked : (nad : Option ℕ) (w : Watched) (from : Side) (octets : List ℕ) (seen : Seen) → IsSeen octets seen
    → IsSaidStaked (said_of w (addressed_by from nad seen) seen) (stakes_of w seen)
seen-staked nad w from octets (whole block) is =
    addressed-staked w block is.1.proper.suits (addressed_by from nad (whole block))
seen-staked nad w from octets (malformed broken) (inl other) = absurd (cc other.4)
seen-staked nad w from octets (malformed broken) (inr (stop, refuses, e)) =
    refused-staked (stakes_of w (malformed broken)) (is_whole octets) stop broken e
seen-staked nad w from octets damage is = tt

broken-staked : (s : Stakes) (said : Said) (broken : Rule) (state : Option State) → IsSaidStaked said s
    → exercise_by s said ≡ Breaks broken state → at_stake s broken ≡ true
broken-staked s Damage broken state h e = absurd (cc e)
broken-staked s Elsewhere broken state h e = absurd (cc e)
broken-staked s (Block Permitted) broken state h e = absurd (cc e)
broken-staked s (Block Unseen) broken state h e = absurd (cc e)
broken-staked s (Block (Deviates r owing)) broken state h e =
    let same : r ≡ broken = cc e in subst (λ (q : Rule). at_stake s q ≡ true) same h

-- octets that their sender made wrong
made-staked : (s : Stakes) (right : Bool) → at_stake s (if right then rule.CheckOctet else rule.Length) ≡ true
made-staked s true = refl
made-staked s false = refl

made-seen-staked : (nad : Option ℕ) (w : Watched) (from : Side) (octets : List ℕ) (seen : Seen) (made : Bool)
    → IsSeen octets seen
    → IsSaidStaked (said_of w (addressed_by from nad (made_as seen made (rule_made octets)))
    (made_as seen made (rule_made octets))) (stakes_of w (made_as seen made (rule_made octets)))
made-seen-staked nad w from octets (whole block) made is = seen-staked nad w from octets (whole block) is
made-seen-staked nad w from octets (malformed broken) made is = seen-staked nad w from octets (malformed broken) is
made-seen-staked nad w from octets damage true is =
    made-staked (stakes_of w (malformed (rule_made octets))) (has_length octets)
made-seen-staked nad w from octets damage false is = tt

sent-staked : (nad : Option ℕ) (w : Watched) (from : Side) (octets : List ℕ) (arrival : Arrival) (seen : Seen)
    → IsSent octets arrival seen → IsSaidStaked (said_of w (addressed_by from nad seen) seen) (stakes_of w seen)
sent-staked nad w from octets arrival seen (was, is, e) =
    subst (λ (it : Seen). IsSaidStaked (said_of w (addressed_by from nad it) it) (stakes_of w it)) (sym e)
    (made-seen-staked nad w from octets was (is_unchanged octets arrival) is)

-- a block of another connection breaks nothing
or-elsewhere : (b : Bool) (said : Said) (s : Stakes) → IsSaidStaked said s
    → IsSaidStaked (if b then Elsewhere else said) s
or-elsewhere true said s h = tt
or-elsewhere false said s h = h

pub broken-at-stake : (m : Monitor) (from : Side) (octets : List ℕ) (arrival : Arrival) (seen : Seen) (broken : Rule)
    (state : Option State) → IsSent octets arrival seen → exercise_of m from seen ≡ Breaks broken state
    → at_stake (stakes_of (sender m from) seen) broken ≡ true
broken-at-stake m from octets arrival seen broken state is e =
    broken-staked (stakes_of (sender m from) seen) (said_in m from seen) broken state
    (or-elsewhere (is_elsewhere m from seen) (said_here m from seen) (stakes_of (sender m from) seen)
    (sent-staked m.nad (sender m from) from octets arrival seen is)) e
