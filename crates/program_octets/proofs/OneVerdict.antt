-- That the octets of a kind have one text and one status.
use Rattle.std.proofs.Common.{◌≡◌, ◌∙◌, inl, inr, false, ℕ, List, Result, Ok, Err, ap, length, subst, sym, refl}
use Rattle.octet_core.specs.Octets.{AreOctets}
use Rattle.octet_core.specs.Sizes.{IsFieldSize}
use Rattle.octet_core.specs.declared.stop.Stop.{Stop}
use Rattle.octet_core.specs.Grammar.{OneVerdict}
use Rattle.atr_core.proofs.Goes as atr_goes
use Rattle.block_core.proofs.Goes.{one-verdict}
use Rattle.program_octets.proofs.OneOf.{OneText}
use Rattle.program_octets.specs.Verdicts.{Checks, IsFilled, IsFilledBy, Shows, TellsBy, Tidies, accepted, accepted_in, refused, refused_in, shown_in, unknown, duplicate, full, listed, no_list, codec_of}
use Rattle.program_octets.specs.Codec.{Codec}
use Rattle.program_octets.specs.Sayings.{faulted, refused_twice, told_in}
use Rattle.program_octets.specs.Texts.{stopped}
use Rattle.program_octets.specs.declared.said.Said.{Said}
use Rattle.program_octets.specs.declared.said.Said.TheVariants as saying
use Rattle.tlv_core.specs.declared.reason.DolReason.{DolReason}
use Rattle.program_words.specs.declared.fault.Fault.{Fault}
use Rattle.tlv_core.proofs.Entries.{dol_verdict}
use Rattle.tlv_core.proofs.Verdict.{one_verdict as forest_verdict}
use Rattle.program_octets.proofs.Duplicates.{duplicate-or-not}
use Rattle.chain_core.proofs.Goes as chain_goes
use Rattle.program_octets.specs.ChainTexts.{longest_message}
use Rattle.apdu_core.proofs.Whole.{command-one_verdict, response-one_verdict}
use Rattle.tlv_core.specs.Forest.{largest}
use Rattle.tlv_core.specs.Fill.{filled, HasDuplicate}
use Rattle.tlv_core.specs.declared.known.Known.{Known}
use Rattle.program_octets.specs.ForestTexts.{forest_codec, tidied_text}
use Rattle.program_octets.specs.ListTexts as list_texts
use Rattle.program_octets.specs.ListTexts.{filled_text}
use Rattle.program_words.specs.declared.request.Kind.{Kind}
use Rattle.layouts.specs.declared.layout.Layout.{Layout}
use Rattle.program_words.specs.declared.request.Kind.TheVariants.{Atr, Block, Chain, Command, Response, Tlv, Dol}
use Rattle.program_words.specs.declared.request.Expected.{Expected}
use Rattle.program_octets.specs.declared.status.Status.{Status}
use Rattle.program_octets.specs.declared.status.Status.TheVariants as status

-- octets have one verdict
abbrev IsJudged : {V R : Type 0} → Codec V R → List ℕ → Type 0
IsJudged c b = OneVerdict c.ending c.Spells c.IsReason b

module _ {V R : Type 0} (c : Codec V R) (told : V → ℕ → Said) (untold : Stop R → Said) (b : List ℕ)
    (verdict : IsJudged c b) where
  one-told : (t u : Said) (s q : Status) → TellsBy c told untold b t s → TellsBy c told untold b u q
      → (t ≡ u) × (s ≡ q)
  one-told t u s q (accepted v n h text ended) (accepted w m g other different) =
      let same = verdict.one_value v w n m h g in
      let value : v ≡ w = same.0 in
      let count : n ≡ m = same.1 in
      (text ∙ ap (λ (x : V). told x n) value ∙ ap (told w) count ∙ sym other, ended ∙ sym different)
  one-told t u s q (accepted v n h text ended) (refused stop g other different) = absurd (verdict.not_both v n stop h g)
  one-told t u s q (refused stop h text ended) (accepted w m g other different) = absurd (verdict.not_both w m stop g h)
  one-told t u s q (refused stop h text ended) (refused halt g other different) =
      (text ∙ ap untold (verdict.one_refusal stop halt h g) ∙ sym other, ended ∙ sym different)

  some-told : (t : Said) × (s : Status) × TellsBy c told untold b t s
  some-told = elim verdict.some [
    | inl h ↦ (told h.0 h.1, status.Accepted, accepted h.0 h.1 h.2 refl refl)
    | inr h ↦ (untold h.0, status.Refused, refused h.0 h.1 refl refl)
  ]

  told-once : OneText (TellsBy c told untold b)
  told-once = record { one = one-told; some = some-told }

-- ---- the kinds

judged : (kind : Kind) (expected : Expected) (b : List ℕ) → IsFieldSize expected.ifs → AreOctets b
    → IsJudged (codec_of kind expected).codec b
judged Atr expected b size octets = atr_goes.one-verdict b octets
judged Block expected b size octets = one-verdict expected.ifs b size.1 octets
judged Chain expected b size octets = chain_goes.one-verdict expected.ifs expected.number longest_message b size.1
    octets
judged Command expected b size octets = command-one_verdict b octets
judged Response expected b size octets = response-one_verdict b octets
judged Tlv expected b size octets = forest_verdict largest b octets
judged Dol expected b size octets = dol_verdict b octets

pub checked : (layout : Layout) (kind : Kind) (expected : Expected) (b : List ℕ) → IsFieldSize expected.ifs
    → AreOctets b
    → OneText (Checks layout kind expected b)
checked layout kind expected b size octets =
    let c = (codec_of kind expected).codec in
    told-once c (λ v n. accepted_in layout kind n) (refused_in layout kind c.name) b
    (judged kind expected b size octets)

pub shown : (layout : Layout) (kind : Kind) (expected : Expected) (b : List ℕ) → IsFieldSize expected.ifs → AreOctets b
    → OneText (Shows layout kind expected b)
shown layout kind expected b size octets =
    let c = (codec_of kind expected).codec in
    told-once c (λ v n. told_in layout (shown_in false layout kind c v n)) (refused_in layout kind c.name) b
    (judged kind expected b size octets)

pub tidied : (b : List ℕ) → AreOctets b → OneText (Tidies b)
tidied b octets = told-once forest_codec (λ v n. saying.Text (tidied_text v))
    (λ stop. saying.Refusal (stopped forest_codec.name stop)) b
    (forest_verdict largest b octets)

-- ---- filling

errors : (known : Result (List Known) Fault) (f g : Fault) → known ≡ Err f → known ≡ Err g → f ≡ g
errors known f g k l = cc

values : (known : Result (List Known) Fault) (v w : List Known) → known ≡ Ok v → known ≡ Ok w → v ≡ w
values known v w k l = cc

not-both : (known : Result (List Known) Fault) (f : Fault) (v : List Known) → known ≡ Err f → known ≡ Ok v → ⊥
not-both known f v k l = cc

one-filled_by : (known : Result (List Known) Fault) (entries : List (List ℕ × ℕ)) (t u : Said) (s q : Status)
    → IsFilledBy known entries t s → IsFilledBy known entries u q → (t ≡ u) × (s ≡ q)
one-filled_by known entries t u s q (unknown f k text ended) (unknown g l other different) = let same : f ≡ g =
    errors known f g k l in (text ∙ ap faulted same ∙ sym other, ended ∙ sym different)
one-filled_by known entries t u s q (unknown f k text ended) (duplicate w l d other different) =
    absurd (not-both known f w k l)
one-filled_by known entries t u s q (unknown f k text ended) (full w l d other different) =
    absurd (not-both known f w k l)
one-filled_by known entries t u s q (duplicate v k d text ended) (unknown g l other different) =
    absurd (not-both known g v l k)
one-filled_by known entries t u s q (duplicate v k d text ended) (duplicate w l g other different) =
    (text ∙ sym other, ended ∙ sym different)
one-filled_by known entries t u s q (duplicate v k d text ended) (full w l g other different) =
    absurd (g (subst HasDuplicate (values known v w k l) d))
one-filled_by known entries t u s q (full v k d text ended) (unknown g l other different) =
    absurd (not-both known g v l k)
one-filled_by known entries t u s q (full v k d text ended) (duplicate w l g other different) =
    absurd (d (subst HasDuplicate (values known w v l k) g))
one-filled_by known entries t u s q (full v k d text ended) (full w l g other different) = (
  text ∙ ap (λ (x : List Known). saying.Text (filled_text (filled x entries))) (values known v w k l) ∙ sym other,
  ended
      ∙ sym different,
)

some-filled_by : (known : Result (List Known) Fault) (entries : List (List ℕ × ℕ)) → (t : Said) × (s : Status)
    × IsFilledBy known entries t s
some-filled_by (Err fault) entries = (faulted fault, status.Fault, unknown fault refl refl refl)
some-filled_by (Ok values) entries =
    elim (duplicate-or-not values) [
      | inl d ↦ (refused_twice, status.Refused, duplicate values refl d refl refl)
      | inr d ↦ (saying.Text (filled_text (filled values entries)), status.Accepted, full values refl d refl refl)
    ]

abbrev not_listed : Stop DolReason → Said
not_listed stop = saying.Refusal (stopped list_texts.reason_text stop)

module _ (b : List ℕ) (known : Result (List Known) Fault) (octets : AreOctets b) where
  one-filled : (t u : Said) (s q : Status) → IsFilled b known t s → IsFilled b known u q → (t ≡ u) × (s ≡ q)
  one-filled t u s q (listed v h text) (listed w g other) =
      let same : v ≡ w = ((dol_verdict b octets).one_value v w (length b) (length b) (refl, h) (refl, g)).0 in
      one-filled_by known w t u s q (subst (λ (x : List (List ℕ × ℕ)). IsFilledBy known x t s) same text) other
  one-filled t u s q (listed v h text) (no_list stop g other different) =
      absurd ((dol_verdict b octets).not_both v (length b) stop (refl, h) g)
  one-filled t u s q (no_list stop g text ended) (listed w h other) =
      absurd ((dol_verdict b octets).not_both w (length b) stop (refl, h) g)
  one-filled t u s q (no_list stop g text ended) (no_list halt h other different) = (
    text ∙ ap not_listed ((dol_verdict b octets).one_refusal stop halt g h)
        ∙ sym other,
    ended ∙ sym different,
  )

  some-filled : (t : Said) × (s : Status) × IsFilled b known t s
  some-filled = elim ((dol_verdict b octets).some) [
    | inl h ↦ let told = some-filled_by known h.0 in (told.0, told.1, listed h.0 h.2.1 told.2)
    | inr h ↦ (not_listed h.0, status.Refused, no_list h.0 h.1 refl refl)
  ]

  pub filled-once : OneText (IsFilled b known)
  filled-once = record { one = one-filled; some = some-filled }
