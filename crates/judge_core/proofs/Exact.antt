-- The decision is exact.
use Rattle.std.proofs.Common.{inl, inr, true≢false, ◌≡◌, ◌⊎◌, ◌↔◌, ℕ, List, [], ◌∷◌, refl, sym, ap, ◌∙◌, subst}
use Rattle.std.specs.Prelude.{Bool, true, false, Option, Some, None, Ok, Err}
use Rattle.block_core.specs.declared.pcb.Pcb.{Pcb}
use Rattle.t1_core.specs.Came.{carried}
use Rattle.judge_core.specs.declared.end.End.{End}
use Rattle.judge_core.specs.declared.end.After.{After}
use Rattle.judge_core.specs.declared.courses.Heard.{Heard}
use Rattle.judge_core.specs.declared.courses.Heard.TheVariants.{Beginning, Whole, Perhaps, Broken, Nothing}
use Rattle.judge_core.specs.declared.courses.Verdict.{Verdict}
use Rattle.judge_core.specs.declared.courses.Verdict.TheVariants.{Permitted, Unseen, Deviates}
use Rattle.judge_core.specs.declared.courses.Judged.{Judged}
use Rattle.judge_core.specs.Sends.{Sent, sends}
use Rattle.judge_core.specs.Courses.{Permits, attempted, by_damage, chosen, first_course, got_none, got_whole, judges, judgment}
use Rattle.judge_core.specs.Followed.{Follows, IsCertain, PermitsSurely, Sending, followed, goes_on, last_after, passed, permitted}
use Rattle.judge_core.proofs.Agree.{Agree, agree}

-- what equations between these hold

abbrev some_end : End → Option End → End
some_end e None = e
some_end e (Some f) = f

abbrev is_some : Option End → Bool
is_some None = false
is_some (Some e) = true

abbrev sent_in : Sent → Option Sent → Sent
sent_in x None = x
sent_in x (Some y) = y

abbrev is_sent : Option Sent → Bool
is_sent None = false
is_sent (Some (Ok f)) = true
is_sent (Some (Err r)) = false

not_none : {A : Type 0} (e : End) → None ≡ Some e → A
not_none e h = absurd (true≢false (sym (ap is_some h)))

passes : (heard : Heard) (e : End) → passed (by_damage heard) e ≡ Some e
passes Beginning e = refl
passes (Whole pcb octet) e = refl
passes (Perhaps pcb octet) e = refl
passes Broken e = refl
passes Nothing e = refl

-- ---- what comes of both courses

abbrev Outcome : Heard → After → Pcb → ℕ → Option Sent → Option Sent → End → Type 0
Outcome heard due pcb octet x y e = permitted (chosen heard due pcb octet x y) ≡ Some e

by_whole : (heard : Heard) (due : After) (pcb : Pcb) (octet : ℕ) (y : Option Sent) (e : End)
    → Outcome heard due pcb octet (Some (Ok e)) y e
by_whole heard due pcb octet y e = refl

by_none : (heard : Heard) (due : After) (pcb : Pcb) (octet : ℕ) (x : Option Sent) (e : End) → Agree x (Some (Ok e))
    → Outcome heard due pcb octet x (Some (Ok e)) e
by_none heard due pcb octet None e h = passes heard e
by_none heard due pcb octet (Some (Err r)) e h = passes heard e
by_none heard due pcb octet (Some (Ok f)) e h = ap Some h

one_of : (heard : Heard) (due : After) (pcb : Pcb) (octet : ℕ) (x y : Option Sent) (e : End)
    → Outcome heard due pcb octet x y e → (x ≡ Some (Ok e)) ⊎ (y ≡ Some (Ok e))
one_of heard due pcb octet (Some (Ok f)) y e h = inl (ap (λ o. Some (Ok (some_end e o))) h)
one_of heard due pcb octet None (Some (Ok f)) e h = inr (ap (λ o. Some (Ok (some_end e o))) (sym (passes heard f) ∙ h))
one_of heard due pcb octet (Some (Err r)) (Some (Ok f)) e h =
    inr (ap (λ o. Some (Ok (some_end e o))) (sym (passes heard f) ∙ h))
one_of heard due pcb octet None None e h = not_none e h
one_of heard due pcb octet None (Some (Err r)) e h = not_none e h
one_of heard due pcb octet (Some (Err r)) None e h = not_none e h
one_of heard due pcb octet (Some (Err r)) (Some (Err s)) e h = not_none e h

-- ---- the courses

on_course : (x : Option After) (last : List ℕ) (pcb : Pcb) (inf : List ℕ) (e : End)
    → attempted x last pcb inf ≡ Some (Ok e)
    → (due : After) × (x ≡ Some due) × (sends due.«end» due.owed last pcb inf ≡ Ok e)
on_course None last pcb inf e h = absurd (true≢false (sym (ap is_sent h)))
on_course (Some due) last pcb inf e h = (due, refl, ap (sent_in (Ok e)) h)

attempt : (x : Option After) (due : After) (last : List ℕ) (pcb : Pcb) (inf : List ℕ) (e : End)
    → x ≡ Some due → sends due.«end» due.owed last pcb inf ≡ Ok e → attempted x last pcb inf ≡ Some (Ok e)
attempt x due last pcb inf e h k = ap (λ o. attempted o last pcb inf) h ∙ ap Some k

course_passes : (heard : Heard) (due : After) (pcb : Pcb) (octet : ℕ) (x y : Option Sent) (e : End) → Agree x y
    → (x ≡ Some (Ok e)) ⊎ (y ≡ Some (Ok e)) → Outcome heard due pcb octet x y e
course_passes heard due pcb octet x y e agrees (inl h) =
    subst (λ x. Outcome heard due pcb octet x y e) (sym h) (by_whole heard due pcb octet y e)
course_passes heard due pcb octet x y e agrees (inr h) = subst (λ y. Outcome heard due pcb octet x y e) (sym h)
    (by_none heard due pcb octet x e (subst (λ y. Agree x y) h agrees))

sent_on : (e e1 : End) (heard : Heard) (last : List ℕ) (pcb : Pcb) (inf : List ℕ) (due : After)
    → (got_whole e heard ≡ Some due) ⊎ (got_none e heard ≡ Some due)
    → sends due.«end» due.owed last pcb inf ≡ Ok e1
    → (attempted (got_whole e heard) last pcb inf ≡ Some (Ok e1))
    ⊎ (attempted (got_none e heard) last pcb inf ≡ Some (Ok e1))
sent_on e e1 heard last pcb inf due (inl h) k = inl (attempt (got_whole e heard) due last pcb inf e1 h k)
sent_on e e1 heard last pcb inf due (inr h) k = inr (attempt (got_none e heard) due last pcb inf e1 h k)

permits : (e e1 : End) (heard : Heard) (last : List ℕ) (pcb : Pcb) (inf : List ℕ)
    → (attempted (got_whole e heard) last pcb inf ≡ Some (Ok e1))
    ⊎ (attempted (got_none e heard) last pcb inf ≡ Some (Ok e1))
    → Permits e heard last pcb inf e1
permits e e1 heard last pcb inf (inl h) =
    let found = on_course (got_whole e heard) last pcb inf e1 h in
    record { due = found.0; course = inl found.1; sent = found.2 }
permits e e1 heard last pcb inf (inr h) =
    let found = on_course (got_none e heard) last pcb inf e1 h in
    record { due = found.0; course = inr found.1; sent = found.2 }

pub exact : (e e1 : End) (heard : Heard) (last : List ℕ) (pcb : Pcb) (inf : List ℕ)
    → Permits e heard last pcb inf e1 ↔ (permitted (judges e heard last pcb inf) ≡ Some e1)
exact e e1 heard last pcb inf =
    let due = first_course e (got_whole e heard) (got_none e heard) in (
      λ p. course_passes heard due pcb (carried inf) (attempted (got_whole e heard) last pcb inf)
          (attempted (got_none e heard) last pcb inf) e1 (agree e heard last pcb inf)
          (sent_on e e1 heard last pcb inf p.due p.course p.sent),
      λ h. permits e e1 heard last pcb inf
          (one_of heard due pcb (carried inf) (attempted (got_whole e heard) last pcb inf)
          (attempted (got_none e heard) last pcb inf) e1 h),
    )

-- ---- without damage that nobody saw

abbrev is_permitted : Verdict → Bool
is_permitted Permitted = true
is_permitted Unseen = false
is_permitted (Deviates broken owed) = false

not_permitted : {A : Type 0} (judged : Judged) (e : End) → judged ≡ judgment Permitted e
    → is_permitted judged.verdict ≡ false → A
not_permitted judged e h k = absurd (true≢false (sym (ap (λ j. is_permitted j.verdict) h) ∙ k))

certain_by : (heard : Heard) (e f : End) → judgment (by_damage heard) f ≡ judgment Permitted e → IsCertain heard
certain_by Beginning e f h = tt
certain_by (Whole pcb octet) e f h = tt
certain_by (Perhaps pcb octet) e f h = not_permitted (judgment Unseen f) e h refl
certain_by Broken e f h = tt
certain_by Nothing e f h = tt

certain_permits : (heard : Heard) → IsCertain heard → by_damage heard ≡ Permitted
certain_permits Beginning c = refl
certain_permits (Whole pcb octet) c = refl
certain_permits (Perhaps pcb octet) c = absurd c
certain_permits Broken c = refl
certain_permits Nothing c = refl

by_none_surely : (heard : Heard) (due : After) (pcb : Pcb) (octet : ℕ) (x : Option Sent) (e : End) → IsCertain heard
    → Agree x (Some (Ok e)) → chosen heard due pcb octet x (Some (Ok e)) ≡ judgment Permitted e
by_none_surely heard due pcb octet None e c h = ap (λ v. judgment v e) (certain_permits heard c)
by_none_surely heard due pcb octet (Some (Err r)) e c h = ap (λ v. judgment v e) (certain_permits heard c)
by_none_surely heard due pcb octet (Some (Ok f)) e c h = ap (judgment Permitted) h

sure_of : (heard : Heard) (due : After) (pcb : Pcb) (octet : ℕ) (x y : Option Sent) (e : End)
    → chosen heard due pcb octet x y ≡ judgment Permitted e
    → (x ≡ Some (Ok e)) ⊎ (IsCertain heard × (y ≡ Some (Ok e)))
sure_of heard due pcb octet (Some (Ok f)) y e h = inl (ap (λ j. Some (Ok j.«end»)) h)
sure_of heard due pcb octet None (Some (Ok f)) e h = inr (certain_by heard e f h, ap (λ j. Some (Ok j.«end»)) h)
sure_of heard due pcb octet (Some (Err r)) (Some (Ok f)) e h =
    inr (certain_by heard e f h, ap (λ j. Some (Ok j.«end»)) h)
sure_of heard due pcb octet None None e h = not_permitted _ e h refl
sure_of heard due pcb octet None (Some (Err r)) e h = not_permitted _ e h refl
sure_of heard due pcb octet (Some (Err r)) None e h = not_permitted _ e h refl
sure_of heard due pcb octet (Some (Err r)) (Some (Err s)) e h = not_permitted _ e h refl

sure_course : (e e1 : End) (heard : Heard) (last : List ℕ) (pcb : Pcb) (inf : List ℕ) (due : After)
    → (got_whole e heard ≡ Some due) ⊎ (IsCertain heard × (got_none e heard ≡ Some due))
    → sends due.«end» due.owed last pcb inf ≡ Ok e1 → judges e heard last pcb inf ≡ judgment Permitted e1
sure_course e e1 heard last pcb inf due (inl h) k =
    let first = first_course e (got_whole e heard) (got_none e heard) in
    ap (λ x. chosen heard first pcb (carried inf) x (attempted (got_none e heard) last pcb inf))
    (attempt (got_whole e heard) due last pcb inf e1 h k)
sure_course e e1 heard last pcb inf due (inr h) k =
    let first = first_course e (got_whole e heard) (got_none e heard) in
    let whole = attempted (got_whole e heard) last pcb inf in
    let none = attempt (got_none e heard) due last pcb inf e1 h.1 k in
    ap (λ y. chosen heard first pcb (carried inf) whole y) none
    ∙ by_none_surely heard first pcb (carried inf) whole e1 h.0
    (subst (λ y. Agree whole y) none (agree e heard last pcb inf))

permits_surely : (e e1 : End) (heard : Heard) (last : List ℕ) (pcb : Pcb) (inf : List ℕ)
    → (attempted (got_whole e heard) last pcb inf ≡ Some (Ok e1))
    ⊎ (IsCertain heard × (attempted (got_none e heard) last pcb inf ≡ Some (Ok e1)))
    → PermitsSurely e heard last pcb inf e1
permits_surely e e1 heard last pcb inf (inl h) =
    let found = on_course (got_whole e heard) last pcb inf e1 h in
    record { due = found.0; course = inl found.1; sent = found.2 }
permits_surely e e1 heard last pcb inf (inr h) =
    let found = on_course (got_none e heard) last pcb inf e1 h.1 in
    record { due = found.0; course = inr (h.0, found.1); sent = found.2 }

pub surely : (e e1 : End) (heard : Heard) (last : List ℕ) (pcb : Pcb) (inf : List ℕ)
    → PermitsSurely e heard last pcb inf e1 ↔ (judges e heard last pcb inf ≡ judgment Permitted e1)
surely e e1 heard last pcb inf = (
  λ p. sure_course e e1 heard last pcb inf p.due p.course p.sent,
  λ h. permits_surely e e1 heard last pcb inf (sure_of heard (first_course e (got_whole e heard) (got_none e heard)) pcb
      (carried inf) (attempted (got_whole e heard) last pcb inf) (attempted (got_none e heard) last pcb inf) e1 h),
)

-- ---- one block after another

went_on : (rest : End → List ℕ → Option End) (o : Option End) (last : List ℕ) (e : End) → goes_on rest o last ≡ Some e
    → (e1 : End) × (o ≡ Some e1) × (rest e1 last ≡ Some e)
went_on rest None last e h = not_none e h
went_on rest (Some e1) last e h = (e1, refl, h)

pub all_exact : (blocks : List Sending) (e e1 : End) (last : List ℕ)
    → Follows blocks e last e1 ↔ (followed blocks e last ≡ Some e1)
all_exact [] e e1 last = (λ h. ap Some h, λ h. ap (some_end e1) h)
all_exact (s ∷ ss) e e1 last = (
  λ f. ap (λ o. goes_on (followed ss) o (last_after last s.pcb s.inf)) ((exact e f.0 s.heard last s.pcb s.inf).0 f.1)
      ∙ (all_exact ss f.0 e1 (last_after last s.pcb s.inf)).0 f.2,
  λ h. let w = went_on (followed ss) (permitted (judges e s.heard last s.pcb s.inf)) (last_after last s.pcb s.inf) e1 h
      in (
        w.0,
        (exact e w.0 s.heard last s.pcb s.inf).1 w.1,
        (all_exact ss w.0 e1 (last_after last s.pcb s.inf)).1 w.2,
      ),
)
