-- That octets on the line are one thing, and a monitor makes one thing of them.
use Rattle.std.proofs.Common.{◌≡◌, ◌≢◌, ◌<◌, ◌⊎◌, ◌∙◌, inl, inr, ℕ, List, [], rules, tests, length, Bool, true, false, Option, Some, None, ap, arith, refl, subst, sym}
use Rattle.std.proofs.lemmas.Bool.{cases_order}
use Rattle.std.specs.Str.{bytes_eq}
use denote.Ref.{Bor}
use Rattle.octet_core.specs.Octets.{AreOctets}
use Rattle.octet_core.specs.Grammar.{self_ended, Accepts, OneVerdict, Refuses}
use Rattle.octet_core.specs.declared.stop.Stop.{Stop}
use Rattle.block_core.specs.Block.{IsBlock, IsReason, Parts, is_whole}
use Rattle.block_core.specs.declared.reason.BlockReason.{BlockReason}
use Rattle.block_core.proofs.Goes.{one-verdict}
use Rattle.block_core.specs.declared.side.Side.{Side}
use Rattle.judge_core.specs.declared.monitor.Arrival.{Arrival}
use Rattle.judge_core.specs.declared.monitor.Arrival.TheVariants as arrived
use Rattle.judge_core.specs.declared.monitor.Monitor.{Monitor}
use Rattle.judge_core.specs.declared.monitor.Report.{Report}
use Rattle.judge_core.specs.declared.rule.Rule.{Rule}
use Rattle.judge_core.specs.Monitored.{came, damage, is_unchanged, lost, made_as, malformed, monitor_after, refused_as, report_of, rule_at, rule_made, unsaid, whole, IsReaching, IsSeen, IsSent, Reaching, Seen, Takes}
use Rattle.trace_text.specs.declared.entry.Reach.{Reach}
use Rattle.trace_text.specs.declared.entry.Reach.TheVariants.{Unsaid, Lost, Parity, Came}
use Rattle.trace_text.proofs.Once.{IsOfOctets}
use Rattle.trace_judge.specs.Judging.{HasCome, IsArrival}

-- ---- octets

-- octets that are no block alone
abbrev IsOther : List ℕ → Seen → Type 0
IsOther b seen =
    ((block : Parts) × (n : ℕ) × Accepts self_ended (IsBlock 254) b block n × (n ≢ length b) × (seen ≡ damage))
    ⊎ ((stop : Stop BlockReason) × Refuses self_ended (IsBlock 254) (IsReason 254) b stop
    × (seen ≡ refused_as (is_whole b) (rule_at stop)))

never-whole : (right : Bool) (broken : Option Rule) (block : Parts) → refused_as right broken ≡ whole block → ⊥
never-whole true (Some broken) block e = cc e
never-whole true None block e = cc e
never-whole false broken block e = cc e

is-other : (b : List ℕ) (s : Seen) → ((block : Parts) → s ≡ whole block → ⊥) → IsOther b s → IsSeen b s
is-other b (whole block) never h = absurd (never block refl)
is-other b (malformed broken) never h = h
is-other b damage never h = h

module _ (b : List ℕ) (octets : AreOctets b) where
  verdict : OneVerdict self_ended (IsBlock 254) (IsReason 254) b
  verdict = one-verdict 254 b (omega arith) octets

  not-other : (block : Parts) → Accepts self_ended (IsBlock 254) b block (length b) → (s : Seen) → IsOther b s → ⊥
  not-other block h s (inl (more, n, accepted, differs, e)) =
      differs (verdict.one_value more block n (length b) accepted h).1
  not-other block h s (inr (stop, refuses, e)) = verdict.not_both block (length b) stop h refuses

  one-other : (s t : Seen) → IsOther b s → IsOther b t → s ≡ t
  one-other s t (inl (v, n, a, differs, e)) (inl (w, m, g, differs_too, f)) = e ∙ sym f
  one-other s t (inl (v, n, a, differs, e)) (inr (stop, refuses, f)) = absurd (verdict.not_both v n stop a refuses)
  one-other s t (inr (stop, refuses, e)) (inl (v, n, a, differs, f)) = absurd (verdict.not_both v n stop a refuses)
  one-other s t (inr (stop, refuses, e)) (inr (other, again, f)) =
      e ∙ ap (λ (x : Stop BlockReason). refused_as (is_whole b) (rule_at x))
      (verdict.one_refusal stop other refuses again) ∙ sym f

  -- they are one thing
  pub one-seen : (s t : Seen) → IsSeen b s → IsSeen b t → s ≡ t
  one-seen (whole v) (whole w) h g = ap whole (verdict.one_value v w (length b) (length b) h g).0
  one-seen (whole v) (malformed broken) h g = absurd (not-other v h (malformed broken) g)
  one-seen (whole v) damage h g = absurd (not-other v h damage g)
  one-seen (malformed broken) (whole v) h g = absurd (not-other v g (malformed broken) h)
  one-seen damage (whole v) h g = absurd (not-other v g damage h)
  one-seen (malformed broken) (malformed other) h g = one-other (malformed broken) (malformed other) h g
  one-seen (malformed broken) damage h g = one-other (malformed broken) damage h g
  one-seen damage (malformed broken) h g = one-other damage (malformed broken) h g
  one-seen damage damage h g = refl

  by-length : (block : Parts) (n : ℕ) → Accepts self_ended (IsBlock 254) b block n
      → (n ≡ length b) ⊎ ((n < length b) ⊎ (length b < n)) → (s : Seen) × IsSeen b s
  by-length block n h (inl same) =
      (whole block, subst (λ (k : ℕ). Accepts self_ended (IsBlock 254) b block k) same h)
  by-length block n h (inr (inl less)) = (damage, inl (block, n, h, (λ e. omega (arith, e, less)), refl))
  by-length block n h (inr (inr more)) = (damage, inl (block, n, h, (λ e. omega (arith, e, more)), refl))

  -- and some thing
  pub some-seen : (s : Seen) × IsSeen b s
  some-seen =
      elim verdict.some [
        | inl found ↦ by-length found.0 found.1 found.2 (cases_order found.1 (length b))
        | inr stop ↦ (
          refused_as (is_whole b) (rule_at stop.0),
          is-other b (refused_as (is_whole b) (rule_at stop.0)) (never-whole (is_whole b) (rule_at stop.0))
              (inr (stop.0, stop.1, refl)),
        )
      ]

-- ---- what reached the other end

came-seen : (octets : List ℕ) (a : Arrival) (r : Reaching) → HasCome octets a → IsReaching a r
    → (seen : Seen) × IsSeen octets seen × (r ≡ came seen)
came-seen octets a r (slice, now, is) h =
    let read : (seen : Seen) × IsSeen slice.now seen × (r ≡ came seen) =
    subst (λ (x : Arrival). IsReaching x r) is h in
    (read.0, subst (λ (l : List ℕ). IsSeen l read.0) now read.1, read.2)

one-come : (b : List ℕ) → AreOctets b → (a c : Arrival) (r q : Reaching) → HasCome b a → HasCome b c
    → IsReaching a r → IsReaching c q → r ≡ q
one-come b octets a c r q is also h g =
    let first = came-seen b a r is h in
    let second = came-seen b c q also g in
    first.2 ∙ ap came (one-seen b octets first.0 second.0 first.1 second.1) ∙ sym second.2

none-are : AreOctets []
none-are = search (rules, tests)

one-reaching : (reach : Reach) → IsOfOctets reach → (a b : Arrival) (r q : Reaching) → IsArrival reach a
    → IsArrival reach b → IsReaching a r → IsReaching b q → r ≡ q
one-reaching Unsaid octets a b r q is also h g =
    let first : r ≡ unsaid = subst (λ (x : Arrival). IsReaching x r) is h in
    let second : q ≡ unsaid = subst (λ (x : Arrival). IsReaching x q) also g in
    first ∙ sym second
one-reaching Lost octets a b r q is also h g =
    let first : r ≡ lost = subst (λ (x : Arrival). IsReaching x r) is h in
    let second : q ≡ lost = subst (λ (x : Arrival). IsReaching x q) also g in
    first ∙ sym second
one-reaching Parity octets a c r q is also h g = one-come [] none-are a c r q is also h g
one-reaching (Came b) octets a c r q is also h g = one-come b octets a c r q is also h g

some-come : (b : List ℕ) → AreOctets b → (a : Arrival) × HasCome b a × (r : Reaching) × IsReaching a r
some-come b octets =
    let slice : Bor (List ℕ) = record { ref_ptr = (0, 0); now = b } in
    let seen = some-seen b octets in
    (arrived.Came slice, (slice, refl, refl), came seen.0, (seen.0, seen.1, refl))

-- some arrival is as the trace says, and comes to something
pub some-arrival : (reach : Reach) → IsOfOctets reach → (a : Arrival) × IsArrival reach a × (r : Reaching)
    × IsReaching a r
some-arrival Unsaid octets = (arrived.Unsaid, refl, unsaid, refl)
some-arrival Lost octets = (arrived.Lost, refl, lost, refl)
some-arrival Parity octets = some-come [] none-are
some-arrival (Came b) octets = some-come b octets

-- ---- octets as their sender made them

came-unchanged : (b octets : List ℕ) (a : Arrival) → HasCome octets a → is_unchanged b a ≡ bytes_eq octets b
came-unchanged b octets a (slice, now, is) =
    ap (is_unchanged b) is ∙ ap (λ (l : List ℕ). bytes_eq l b) now

-- the trace says one way whether the line changed them
one-unchanged : (reach : Reach) (b : List ℕ) (a c : Arrival) → IsArrival reach a → IsArrival reach c
    → is_unchanged b a ≡ is_unchanged b c
one-unchanged Unsaid b a c is also = ap (is_unchanged b) is ∙ sym (ap (is_unchanged b) also)
one-unchanged Lost b a c is also = ap (is_unchanged b) is ∙ sym (ap (is_unchanged b) also)
one-unchanged Parity b a c is also = came-unchanged b [] a is ∙ sym (came-unchanged b [] c also)
one-unchanged (Came octets) b a c is also = came-unchanged b octets a is ∙ sym (came-unchanged b octets c also)

pub one-sent : (b : List ℕ) → AreOctets b → (reach : Reach) (a c : Arrival) → IsArrival reach a → IsArrival reach c
    → (s t : Seen) → IsSent b a s → IsSent b c t → s ≡ t
one-sent b octets reach a c is also s t (was, seen, e) (other, seen_too, f) =
    e ∙ ap (λ (made : Bool). made_as was made (rule_made b)) (one-unchanged reach b a c is also)
    ∙ ap (λ (it : Seen). made_as it (is_unchanged b c) (rule_made b)) (one-seen b octets was other seen seen_too)
    ∙ sym f

pub some-sent : (b : List ℕ) → AreOctets b → (a : Arrival) → (s : Seen) × IsSent b a s
some-sent b octets a =
    let seen = some-seen b octets in
    (made_as seen.0 (is_unchanged b a) (rule_made b), (seen.0, seen.1, refl))

-- ---- a monitor

-- it is one afterwards, and says one thing
pub one-taking : (m : Monitor) (from : Side) (b : List ℕ) → AreOctets b → (reach : Reach) → IsOfOctets reach
    → (a c : Arrival) (after other : Monitor) (says tells : Report) → IsArrival reach a → IsArrival reach c
    → Takes m from b a after says → Takes m from b c other tells → (after ≡ other) × (says ≡ tells)
one-taking m from b octets reach came_octets a c after other says tells is also h g =
    let seen : h.seen ≡ g.seen = one-sent b octets reach a c is also h.seen g.seen h.is_sent g.is_sent in
    let reaching : h.reaching ≡ g.reaching =
    one-reaching reach came_octets a c h.reaching g.reaching is also h.is_reaching g.is_reaching in (
      h.after ∙ ap (λ (s : Seen). monitor_after m from s h.reaching) seen
          ∙ ap (λ (r : Reaching). monitor_after m from g.seen r) reaching ∙ sym g.after,
      h.reports ∙ ap (λ (s : Seen). report_of m from s) seen ∙ sym g.reports,
    )
