-- A block of an end that may send any block, and what the monitor then knows of that end.
use Rattle.std.proofs.Common.{inl, inr, true≢false, ◌≡◌, ◌⊎◌, ℕ, refl, sym, ◌∙◌, subst}
use Rattle.std.specs.Prelude.{Bool, true, false, if◌then◌else◌, Some, Ok}
use Rattle.block_core.specs.Block.{Parts}
use Rattle.block_core.specs.declared.pcb.S.TheVariants.{Resynch, Ifs, Abort, Wtx}
use Rattle.block_core.specs.declared.pcb.Pcb.{Pcb}
use Rattle.block_core.specs.declared.pcb.Pcb.TheVariants.{Info, Ready, Request, Response}
use Rattle.judge_core.specs.declared.courses.Heard.{Heard}
use Rattle.judge_core.specs.declared.courses.Heard.TheVariants.{Beginning, Whole, Perhaps, Broken, Nothing}
use Rattle.judge_core.specs.declared.courses.Verdict.{Verdict}
use Rattle.judge_core.specs.declared.courses.Verdict.TheVariants.{Permitted, Unseen, Deviates}
use Rattle.judge_core.specs.declared.courses.Judged.{Judged}
use Rattle.judge_core.specs.declared.doubt.Doubt.{Doubt}
use Rattle.judge_core.specs.declared.doubt.Doubt.TheVariants.{Open}
use Rattle.judge_core.specs.declared.end.End.{End}
use Rattle.judge_core.specs.declared.monitor.Said.TheVariants.{Block}
use Rattle.judge_core.specs.declared.monitor.Watched.{Watched}
use Rattle.judge_core.specs.Courses.{Permits, judges}
use Rattle.judge_core.specs.Doubts.{doubt_after, is_open, judged_of, or_openly, overlooked, presumed, sent_openly, sized, sized_by, still_open}
use Rattle.judge_core.specs.Ends.{hears_unknown}
use Rattle.judge_core.specs.Followed.{permitted}
use Rattle.judge_core.specs.Missed.{IsNoDeviation, IsWithin}
use Rattle.judge_core.specs.Sends.{Sent, is_foreign}
use Rattle.judge_core.specs.Tapped.{Passes}
use Rattle.judge_core.proofs.Exact.{exact}
use Rattle.judge_core.proofs.Missing.{sent-within}

passes_verdict : (v : Verdict) → IsNoDeviation v → Passes (Block v)
passes_verdict Permitted h = tt
passes_verdict Unseen h = tt
passes_verdict (Deviates broken owed) h = absurd h

no_deviation : (j : Judged) → IsNoDeviation j.verdict → permitted j ≡ Some j.«end»
no_deviation j h = go j.verdict h
  where
    go : (v : Verdict) → IsNoDeviation v → permitted (record j { verdict = v }) ≡ Some j.«end»
    go Permitted h = refl
    go Unseen h = refl
    go (Deviates broken owed) h = absurd h

either_way : (T : End → Type 0) (j : Judged) (s : Sent) (f : End) → s ≡ Ok f
    → (IsNoDeviation j.verdict → T j.«end»)
    → Passes (Block (or_openly true j s).verdict) × (T (or_openly true j s).«end» ⊎ (s ≡ Ok (or_openly true j s).«end»))
either_way T j s f is h = go j.verdict h
  where
    go : (v : Verdict) → (IsNoDeviation v → T j.«end»)
        → Passes (Block (or_openly true (record j { verdict = v }) s).verdict)
        × (T (or_openly true (record j { verdict = v }) s).«end»
        ⊎ (s ≡ Ok (or_openly true (record j { verdict = v }) s).«end»))
    go Permitted h = (tt, inl (h tt))
    go Unseen h = (tt, inl (h tt))
    go (Deviates broken owed) h = rw is (tt, inr refl)

-- Any block of such an end passes. Some course permits it, or it is one of an end of which nothing is known.
pub open_cases : (w : Watched) (b : Parts) → w.doubt ≡ Open → is_foreign w.«end».side b.pcb ≡ false
    → IsWithin w.«end».room b.pcb b.inf
    → Passes (Block (judged_of w b).verdict)
    × (Permits w.«end» w.heard w.last.items b.pcb b.inf (judged_of w b).«end»
    ⊎ (sent_openly w b ≡ Ok (judged_of w b).«end»))
open_cases w b free own fits =
    let judged = judges w.«end» w.heard w.last.items b.pcb b.inf in
    let (f, is) = sent-within w.«end» w.last.items b.pcb b.inf own fits in
    subst
    (λ (d : Doubt). Passes (Block (or_openly (is_open d) judged (sent_openly w b)).verdict)
    × (Permits w.«end» w.heard w.last.items b.pcb b.inf (or_openly (is_open d) judged (sent_openly w b)).«end»
    ⊎ (sent_openly w b ≡ Ok (or_openly (is_open d) judged (sent_openly w b)).«end»)))
    (sym free)
    (either_way (λ e. Permits w.«end» w.heard w.last.items b.pcb b.inf e) judged (sent_openly w b) f is
    (λ h. (exact w.«end» judged.«end» w.heard w.last.items b.pcb b.inf).1 (no_deviation judged h)))

-- what is doubtful after a block that passes
pub doubt_still : (d : Doubt) (pcb : Pcb) (v : Verdict) → Passes (Block v) → doubt_after d pcb v ≡ still_open d pcb
doubt_still d pcb Permitted h = refl
doubt_still d pcb Unseen h = refl
doubt_still d pcb (Deviates broken owed) h = absurd h

-- ---- an end of which nothing is known

unknown_by : (e : End) (pcb : Pcb) → (hears_unknown e pcb).«end».known ≡ e.known
unknown_by e (Info number goes_on) = refl
unknown_by e (Ready number fault) = refl
unknown_by e (Request s) = refl
unknown_by e (Response s) = refl

sized_known : (e : End) (pcb : Pcb) (octet : ℕ) → (sized_by e pcb octet).known ≡ e.known
sized_known e (Info number goes_on) octet = refl
sized_known e (Ready number fault) octet = refl
sized_known e (Request Resynch) octet = refl
sized_known e (Request Ifs) octet = refl
sized_known e (Request Abort) octet = refl
sized_known e (Request Wtx) octet = refl
sized_known e (Response s) octet = refl

presumed_known : (e : End) (heard : Heard) → (presumed e heard).known ≡ e.known
presumed_known e Beginning = refl
presumed_known e (Whole pcb octet) = sized_known (hears_unknown e pcb).«end» pcb octet ∙ unknown_by e pcb
presumed_known e (Perhaps pcb octet) = sized_known (hears_unknown e pcb).«end» pcb octet ∙ unknown_by e pcb
presumed_known e Broken = refl
presumed_known e Nothing = refl

-- it stays unknown
pub overlooked_unknown : (e : End) (heard : Heard) → e.known ≡ false → (overlooked e heard).known ≡ false
overlooked_unknown e heard h = go e.known h
  where
    go : (b : Bool) → b ≡ false → (if b then sized e heard else presumed e heard).known ≡ false
    go true k = absurd (true≢false k)
    go false k = presumed_known e heard ∙ h

-- one silence more changes nothing
pub overlooked_again : (e : End) → overlooked e Broken ≡ e
overlooked_again e = go e.known
  where
    go : (b : Bool) → (if b then sized e Broken else presumed e Broken) ≡ e
    go true = refl
    go false = refl
