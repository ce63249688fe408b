use Rattle.std.proofs.Common.{◌≡◌, ◌∙◌, List, ℕ, None, sym, ap, subst}
use Rattle.std.specs.Bool.{one_answer}
use Rattle.atr_core.specs.declared.reader.Stage.{Stage}
use Rattle.atr_core.specs.declared.reader.Stage.TheVariants.{Taken}
use Rattle.atr_core.specs.Partial.{taken_of}
use Rattle.atr_core.specs.Same.{same_taking}
use Rattle.atr_core.specs.Taking.{Taking}
use Rattle.atr_core.specs.Stage.{Agrees, taking_of}
use Rattle.atr_core.proofs.Alike.{taking_decides}
use Rattle.atr_core.proofs.reader.AtrReaderPartialEq.eq.Goals as goal

pub returns-in-Taken-Taken : goal.returns-in-Taken-Taken
returns-in-Taken-Taken c =
    let p = c.in-Taken-Taken.field-0-0 in let q = c.in-Taken-Taken.field-0-1 in
    let mine = subst (λ (s : Stage). Agrees s c.self.inside.octets.items) c.in-Taken-Taken.is-0 c.self.invariant in
    let its = subst (λ (s : Stage). Agrees s c.other.inside.octets.items) c.in-Taken-Taken.is-1 c.other.invariant in
    let me : taking_of (Taken p) ≡ c.args.self.now = ap taking_of (sym c.in-Taken-Taken.is-0) ∙ c.self.view_is in
    let it : taking_of (Taken q) ≡ c.args.other.now = ap taking_of (sym c.in-Taken-Taken.is-1) ∙ c.other.view_is in
    let first : c.as_slice.result.now ≡ taken_of p = c.as_slice.ensures.value ∙ mine.1 in
    let second : c.as_slice-in-Taken-Taken.result.now ≡ taken_of q = c.as_slice-in-Taken-Taken.ensures.value ∙ its.1 in
    let shown : List ℕ → Taking = λ octets. record { octets = octets; refusal = None } in
    one_answer c.same_octets.result (same_taking c.args.self.now c.args.other.now) (
      λ e. sym me ∙ ap shown (sym first ∙ c.same_octets.ensures.0 e ∙ second) ∙ it,
      λ e. c.same_octets.ensures.1 (first ∙ ap (λ (s : Taking). s.octets) (me ∙ e ∙ sym it) ∙ sym second),
    )
    (taking_decides c.args.self.now c.args.other.now)
