-- That blocks which were seen come to one text.
use Rattle.std.proofs.Common.{◌≡◌, ◌∙◌, inl, inr, ℕ, List, length, Result, Ok, Err, IfOk, Option, Some, None, ap, refl, string_bytes, subst, sym, unwrap_or}
use Rattle.std.specs.Result.{MatchResult}
use Rattle.std.proofs.lemmas.Bool.{cases_order}
use Rattle.octet_core.specs.Octets.{AreOctets}
use Rattle.atr_core.proofs.Goes as atr_goes
use Rattle.atr_core.proofs.Unique.{one-accepted}
use Rattle.exchange_text.specs.Text.{exchange_text}
use Rattle.exchange_core.specs.Replay.{IsFound}
use Rattle.exchange_core.proofs.Found.{verdict-found}
use Rattle.traces.specs.Reading.{trace_of, UnlessMemory}
use Rattle.traces.specs.Faults.{unfit_name}
use Rattle.traces.specs.Recorded.{exchange_of}
use Rattle.traces.specs.Unfit.{unfit_in}
use Rattle.traces.specs.declared.reading.TraceFault.{TraceFault}
use Rattle.traces.specs.declared.reading.TraceFault.TheVariants.{Text, Unfit as UnfitLine}
use Rattle.traces.specs.declared.trace.Item.{Item}
use Rattle.traces.specs.declared.unfit.Unfit.{Unfit}
use Rattle.program_octets.specs.Sayings.{refused_as}
use Rattle.program_octets.specs.declared.said.Said.{Said}
use Rattle.program_octets.specs.declared.status.Status.{Status}
use Rattle.program_octets.specs.declared.status.Status.TheVariants as status
use Rattle.program_octets.proofs.OneOf.{OneText, ended-by}
use Rattle.program.specs.ExchangeTexts.{file_faulted}
use Rattle.program.specs.Files.{largest_file}
use Rattle.program.specs.Judged.{AreOf}
use Rattle.program.specs.RecordTexts.{IsItemsNote, IsRecordNote, IsRefusedNote, Records, RecordsItems, RefusesText, line_with, refused, unfit, refused_line, whole}
use Rattle.program.specs.SimulationTexts.{IsFile}
use Rattle.program.specs.declared.judged.WithExplanation.{WithExplanation}
use Rattle.program.proofs.Simulations.{apart, one-file, same-name, same-size, some-file}

-- there is an item that can't be recorded, or none
found-not : {A : Type 0} (o : Option A) (x : A) → o ≡ Some x → o ≡ None → ⊥
found-not o x e f = let bad : Some x ≡ None = sym e ∙ f in cc

same-some : {A : Type 0} (o : Option A) (x y : A) → o ≡ Some x → o ≡ Some y → x ≡ y
same-some o x y e f = ap (λ p. unwrap_or p x) (sym e ∙ f)

module _ (atr file : List ℕ) (items : List Item) where
  same-file : (a b : ℕ) (t u : Said) (p q : Status) → IsFound atr (Ok a) → IsFound atr (Ok b)
      → IsFile (exchange_of a atr items) t p → IsFile (exchange_of b atr items) u q → (t ≡ u) × (p ≡ q)
  same-file a b t u p q f g h k = one-file (exchange_of b atr items) t u p q
      (subst (λ (ifsc : ℕ). IsFile (exchange_of ifsc atr items) t p) (same-size atr a b f g) h) k

  one-recorded : (t u : Said) (p q : Status) → RecordsItems atr file items t p → RecordsItems atr file items u q
      → (t ≡ u) × (p ≡ q)
  one-recorded t u p q (refused a f text ended) (refused b g other different) =
      (text ∙ ap refused_as (same-name atr a b f g) ∙ sym other, ended ∙ sym different)
  one-recorded t u p q (refused a f text ended) (unfit b place why g is other different) = absurd (apart atr b a g f)
  one-recorded t u p q (refused a f text ended) (whole b g fit same) = absurd (apart atr b a g f)
  one-recorded t u p q (unfit a place why f is text ended) (refused b g other different) = absurd (apart atr a b f g)
  one-recorded t u p q (unfit a place why f is text ended) (unfit b at reason g same other different) = (
    text ∙ ap (λ (x : ℕ × Unfit). refused_line (line_with file x.0) (unfit_name x.1))
        (same-some (unfit_in items) (place, why) (at, reason) is same) ∙ sym other,
    ended ∙ sym different,
  )
  one-recorded t u p q (unfit a place why f is text ended) (whole b g fit same) =
      absurd (found-not (unfit_in items) (place, why) is fit)
  one-recorded t u p q (whole a f fit written) (refused b g other different) = absurd (apart atr a b f g)
  one-recorded t u p q (whole a f fit written) (unfit b at reason g is other different) =
      absurd (found-not (unfit_in items) (at, reason) is fit)
  one-recorded t u p q (whole a f fit written) (whole b g fits same) = same-file a b t u p q f g written same

  some-items : (ifsc : ℕ) → IsFound atr (Ok ifsc) → (o : Option (ℕ × Unfit)) → unfit_in items ≡ o
      → (t : Said) × (p : Status) × RecordsItems atr file items t p
  some-items ifsc f None fit =
      let e = exchange_of ifsc atr items in
      let told = some-file e (cases_order (length (exchange_text e)) largest_file) in
      (told.0, told.1, whole ifsc f fit told.2)
  some-items ifsc f (Some (place, why)) is = (
    refused_line (line_with file place) (unfit_name why),
    status.Refused,
    unfit ifsc place why f is refl refl,
  )

  some-found : (found : Result ℕ (List ℕ)) → IsFound atr found → (t : Said) × (p : Status)
      × RecordsItems atr file items t p
  some-found (Ok ifsc) f = some-items ifsc f (unfit_in items) refl
  some-found (Err name) f = (refused_as name, status.Refused, refused name f refl refl)

  items-once : AreOctets atr → OneText (RecordsItems atr file items)
  items-once octets = record {
    one = one-recorded;
    some = let found = verdict-found one-accepted atr ((atr_goes.one-verdict atr octets).some) in
        some-found found.0 found.1;
  }

-- a text comes to one text with one status, where the answer to reset is octets
pub recorded-once : (atr : List ℕ) → AreOctets atr → (file : List ℕ) → OneText (Records atr file)
recorded-once atr octets file = go (trace_of file)
  where
    go : (said : Result (List Item) TraceFault)
        → OneText (λ text ended. MatchResult said (λ items. RecordsItems atr file items text ended)
        (λ fault. RefusesText fault text ended))
    go (Ok items) = items-once atr file items octets
    go (Err (Text fault)) = ended-by (file_faulted fault) status.Fault
    go (Err (UnfitLine line why)) = ended-by (refused_line line (unfit_name why)) status.Refused

-- an answer and a note that are of items are of the text that was read as them
pub of-items : (atr file : List ℕ) (items : List Item) (made : WithExplanation)
    → UnlessMemory (Ok items) (trace_of file)
    → AreOf (RecordsItems atr file items) (IsItemsNote atr file items) made
    → AreOf (Records atr file) (IsRecordNote atr file) made
of-items atr file items made (inl memory) h = absurd (cc memory)
of-items atr file items made (inr said) h =
    subst (λ (r : Result (List Item) TraceFault). MatchResult r
    (λ items. RecordsItems atr file items made.answer.said made.answer.status)
    (λ fault. RefusesText fault made.answer.said made.answer.status)
    × IfOk made.explanation (λ note. MatchResult r (λ items. IsItemsNote atr file items (string_bytes note))
    (λ fault. IsRefusedNote fault file (string_bytes note)))) said h
