-- That a trace comes to one text.
use Rattle.std.proofs.Common.{◌≡◌, ◌≢◌, ◌∙◌, inl, inr, ℕ, List, codes, length, Result, Ok, Err, IfOk, ap, refl, subst, sym}
use Rattle.atr_core.proofs.Goes as atr_goes
use Rattle.atr_core.proofs.Unique.{one-accepted}
use Rattle.octet_core.specs.Octets.{AreOctets}
use Rattle.exchange_core.specs.Replay.{size_of, IsFound}
use Rattle.exchange_core.proofs.Found.{accepted-whole, verdict-found}
use Rattle.exchange_text.specs.declared.fault.ExchangeFault.{ExchangeFault}
use Rattle.exchange_text.specs.declared.fault.ExchangeFault.TheVariants.{Memory}
use Rattle.trace_judge.specs.Judging.{start, Judges, JudgesLines}
use Rattle.trace_judge.specs.declared.standing.Scope.{Scope}
use Rattle.trace_judge.proofs.Lines as lines
use Rattle.judge_times.specs.Waiting.{rates_before, Offered, Rates}
use Rattle.atr_core.specs.Atr.{AtrParts, IsAtr}
use Rattle.atr_core.specs.T1.{t1_params_of, T1Values}
use Rattle.atr_core.specs.declared.params.ParamFault.{ParamFault}
use Rattle.trace_judge.proofs.Once.{judgment-or-fault, one-judgment, one-text-fault, some-judgment}
use Rattle.program_octets.specs.declared.status.Status.{Status}
use Rattle.program_octets.specs.declared.status.Status.TheVariants as status
use Rattle.program_octets.proofs.OneOf.{OneText}
use Rattle.program_words.specs.declared.request.Judging.{Judging}
use Rattle.program.specs.ExchangeTexts.{file_faulted}
use Rattle.program.specs.Laid.{laid}
use Rattle.program.specs.FileNotes.{kept_note}
use Rattle.program.specs.Calls.{Calls}
use Rattle.program.specs.Answers.{IsRightTo}
use Rattle.program.specs.Explained.{IsReplyTo}
use Rattle.program.specs.Pieces.{IsAll, ReadsAll}
use Rattle.program.specs.TraceLines.{lines_of, HasFault}
use Rattle.program.proofs.Explaining.{with-note}
use Rattle.program.proofs.Faults.{note-kept}
use Rattle.program_octets.specs.Sayings.{faulted, refused_as}
use Rattle.program_octets.specs.declared.said.Said.{Said}
use Rattle.program_words.specs.declared.fault.Fault.{Fault}
use Rattle.program_words.specs.declared.fault.Fault.TheVariants as word
use Rattle.program_words.specs.declared.request.Request.TheVariants.{Judge}
use Rattle.program.specs.Judged.{AreOf}
use Rattle.program.specs.JudgeTexts.{at_line, faulty, judged, judged_in, judged_status, on_text, refused, scope_of, used, IsJudgeNote, IsOffer, IsTextNote, JudgesText, JudgesTrace}
use Rattle.program.specs.declared.judged.WithExplanation.{WithExplanation}
use Rattle.program.proofs.Simulations.{apart, if-ok, same-name}

-- ---- an answer to reset

-- what it offers has a size
found-by : (atr : List ℕ) (offered : Offered) → IsOffer atr offered → IsFound atr (Ok offered.values.ifsc)
found-by atr offered h = inl (h.parts, h.is, sym (ap size_of h.values))

abbrev offering : T1Values → Rates → Offered
offering v r = record { values = v; rates = r }

-- it offers one thing
one-offer : (atr : List ℕ) (a b : Offered) → IsOffer atr a → IsOffer atr b → a ≡ b
one-offer atr a b h g =
    let parts : h.parts ≡ g.parts = (one-accepted atr h.parts g.parts (length atr) (length atr)
    (accepted-whole atr h.parts h.is) (accepted-whole atr g.parts g.is)).0 in
    let values : a.values ≡ b.values = cc (h.values, g.values, ap t1_params_of parts) in
    let rates : a.rates ≡ b.rates = h.rates ∙ ap rates_before parts ∙ sym g.rates in
    ap (λ (v : T1Values). offering v a.rates) values ∙ ap (λ (r : Rates). offering b.values r) rates

offer-by : (atr : List ℕ) (parts : AtrParts) → IsAtr parts atr → (found : Result T1Values ParamFault)
    → t1_params_of parts ≡ found → (ifsc : ℕ) → Ok ifsc ≡ size_of found → (offered : Offered) × IsOffer atr offered
offer-by atr parts is (Ok values) e ifsc f = (
  record { values = values; rates = rates_before parts },
  record { parts = parts; is = is; values = e; rates = refl },
)
offer-by atr parts is (Err fault) e ifsc f = absurd (cc f)

-- and something, where it has a size
some-offer : (atr : List ℕ) (ifsc : ℕ) → IsFound atr (Ok ifsc) → (offered : Offered) × IsOffer atr offered
some-offer atr ifsc (inl (parts, is, e)) = offer-by atr parts is (t1_params_of parts) refl ifsc e
some-offer atr ifsc (inr (none, e)) = absurd (cc e)

-- ---- a text

module _ (atr : List ℕ) (offered : Offered) (judging : Judging) (file : List ℕ) where
  one-judged : (t u : Said) (p q : Status) → JudgesText atr offered judging file t p
      → JudgesText atr offered judging file u q
      → (t ≡ u) × (p ≡ q)
  one-judged t u p q (judged a h text stops) (judged b g other differs) =
      let same = one-judgment offered (scope_of judging) file a b h g in (
        text ∙ ap (λ (said : List ℕ). laid judging.layout (codes "judge") (judged_in judging.layout atr said)) same.0
            ∙ sym other,
        stops ∙ ap judged_status same.1 ∙ sym differs,
      )
  one-judged t u p q (judged a h text stops) (faulty x g known other differs) =
      absurd (judgment-or-fault offered (scope_of judging) file a x known h g)
  one-judged t u p q (faulty x g known other differs) (judged a h text stops) =
      absurd (judgment-or-fault offered (scope_of judging) file a x known h g)
  one-judged t u p q (faulty x h known text stops) (faulty y g also other differs) =
      let same = one-text-fault offered (scope_of judging) file x y known also h g in
      (text ∙ ap file_faulted same ∙ sym other, stops ∙ sym differs)

  some-judged : (t : Said) × (p : Status) × JudgesText atr offered judging file t p
  some-judged =
      elim (some-judgment offered (scope_of judging) file) [
        | inl one ↦ (
          laid judging.layout (codes "judge") (judged_in judging.layout atr one.0.text),
          judged_status one.0.is_ok,
          judged one.0 one.1 refl refl,
        )
        | inr fault ↦ (file_faulted fault.0, status.Fault, faulty fault.0 fault.2 fault.1 refl refl)
      ]

-- ---- what calls answer

-- the fault of a line is that of its text
pub faulty-lines : (offered : Offered) (scope : Scope) (text line : List ℕ) (fault : ExchangeFault)
    → HasFault offered scope (lines_of text) line fault → Judges offered scope text (Err fault)
faulty-lines offered scope text line fault h = lines.faulted offered scope text fault
    (subst (λ (l : List (List ℕ)). JudgesLines (start offered scope) l (Err fault)) (sym h.are_all)
    (lines.stopped (start offered scope) h.standing h.before h.after line fault h.are_judged h.fails))

-- the line of a text's fault, and the note on it
pub faulty-noted : {E : Type 0} (atr : List ℕ) (offered : Offered) (judging : Judging) (file line : List ℕ)
    (fault : ExchangeFault) (r : Result WithExplanation E)
    → HasFault offered (scope_of judging) (lines_of file) line fault
    → IfOk r (λ _. fault ≢ Memory)
    → IfOk r (AreOf (λ said stops. (said ≡ file_faulted fault) × (stops ≡ status.Fault))
    (λ note. note ≡ kept_note line fault))
    → IfOk r (AreOf (JudgesText atr offered judging file) (IsTextNote offered judging file))
faulty-noted atr offered judging file line fault (Ok made) has told h =
    let known = faulty-lines offered (scope_of judging) file line fault has in (
      faulty fault known told h.0.0 h.0.1,
      if-ok made.explanation (λ note on. at_line fault known told
          (on ∙ sym (note-kept offered (scope_of judging) file line fault has))) h.1,
    )
faulty-noted atr offered judging file line fault (Err e) has told h = tt

-- a text with its note, where the answer to reset says so
pub used-noted : {E : Type 0} (atr : List ℕ) (offered : Offered) (judging : Judging) (file : List ℕ)
    (r : Result WithExplanation E)
    → IsOffer atr offered → IfOk r (AreOf (JudgesText atr offered judging file) (IsTextNote offered judging file))
    → IfOk r (AreOf (JudgesTrace atr judging file) (IsJudgeNote atr judging file))
used-noted atr offered judging file (Ok made) found h =
    (used offered found h.0, if-ok made.explanation (λ note on. on_text offered found on) h.1)
used-noted atr offered judging file (Err e) found h = tt

-- ---- with an answer to reset

module _ (atr : List ℕ) (judging : Judging) (file : List ℕ) where
  one-traced : (t u : Said) (p q : Status) → JudgesTrace atr judging file t p → JudgesTrace atr judging file u q
      → (t ≡ u) × (p ≡ q)
  one-traced t u p q (refused a f text stops) (refused b g other differs) =
      (text ∙ ap refused_as (same-name atr a b f g) ∙ sym other, stops ∙ sym differs)
  one-traced t u p q (refused a f text stops) (used b g told) =
      absurd (apart atr b.values.ifsc a (found-by atr b g) f)
  one-traced t u p q (used a f told) (refused b g other differs) =
      absurd (apart atr a.values.ifsc b (found-by atr a f) g)
  one-traced t u p q (used a f told) (used b g also) = one-judged atr b judging file t u p q
      (subst (λ (offered : Offered). JudgesText atr offered judging file t p) (one-offer atr a b f g) told) also

  some-traced : (found : Result ℕ (List ℕ)) → IsFound atr found → (t : Said) × (p : Status)
      × JudgesTrace atr judging file t p
  some-traced (Ok ifsc) f =
      let offer = some-offer atr ifsc f in
      let told = some-judged atr offer.0 judging file in
      (told.0, told.1, used offer.0 offer.1 told.2)
  some-traced (Err name) f = (refused_as name, status.Refused, refused name f refl refl)

-- a text comes to one text with one status, where the answer to reset is octets
pub judged-once : (atr : List ℕ) → AreOctets atr → (judging : Judging) (file : List ℕ)
    → OneText (JudgesTrace atr judging file)
judged-once atr octets judging file = record {
  one = one-traced atr judging file;
  some = let found = verdict-found one-accepted atr ((atr_goes.one-verdict atr octets).some) in
      some-traced atr judging file found.0 found.1;
}

-- ---- a trace from a reader

module _ (words : List (List ℕ)) (atr : List ℕ) (judging : Judging) (reads : Calls) where
  -- what its text comes to is the answer
  pub trace-replied : (text : List ℕ) (made : WithExplanation) → IsAll reads text
      → AreOf (JudgesTrace atr judging text) (IsJudgeNote atr judging text) made
      → IsReplyTo words (Judge atr judging) reads made
  trace-replied text made all told =
      with-note words (Judge atr judging) reads made (Ok text) (λ need. all) told.0 told.1

  -- or memory ran out after it was read
  pub trace-wanting : (text : List ℕ) (fault : Fault) → IsAll reads text → fault ≡ word.Memory
      → IsRightTo (Judge atr judging) reads (faulted fault) status.Fault
  trace-wanting text fault all is = inr (ap faulted is, refl, all.count)

  -- or it wasn't read to its end
  pub trace-unread : (fault : Fault) → ReadsAll reads (Err fault)
      → IsRightTo (Judge atr judging) reads (faulted fault) status.Fault
  trace-unread fault h = inl (record { file = Err fault; is_file = λ need. h; is_answer = (refl, refl) })
