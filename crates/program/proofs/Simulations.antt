-- That a session comes to one text.
use Rattle.std.proofs.Common.{IfOk, ◌≡◌, ◌<◌, ◌≤◌, ◌∙◌, ◌⊎◌, inl, inr, ℕ, List, [], length, string_bytes, Option, Some, None, Result, Ok, Err, ap, arith, refl, subst, sym}
use Rattle.std.specs.Result.{result_unwrap_or, MatchResult}
use Rattle.std.proofs.lemmas.Bool.{cases_order}
use Rattle.octet_core.specs.Octets.{AreOctets}
use Rattle.atr_core.proofs.Goes as atr_goes
use Rattle.atr_core.proofs.Unique.{one-accepted}
use Rattle.program_octets.specs.Sayings.{faulted, refused_as}
use Rattle.program_octets.specs.declared.said.Said.{Said}
use Rattle.program_octets.specs.declared.said.Said.TheVariants as saying
use Rattle.program_words.specs.declared.fault.Fault.TheVariants.{TooLarge}
use Rattle.program_words.specs.declared.session.Session.{Session}
use Rattle.exchange_text.specs.Exchange.{ExchangeParts}
use Rattle.exchange_core.specs.Recording.{Recording}
use Rattle.exchange_core.specs.Replay.{IsFound}
use Rattle.exchange_text.specs.Text.{exchange_text}
use Rattle.exchange_core.proofs.Found.{one-found, verdict-found}
use Rattle.simulator.specs.Simulation.{EndsAs, IsSimulated, exchange_of, new_recording, simulated, start}
use Rattle.simulator.proofs.Long.{one-end, too-long}
use Rattle.program.specs.Files.{largest_file}
use Rattle.program.specs.Judged.{AreOf}
use Rattle.explainer.specs.Pairs.{pairs_note}
use Rattle.program.specs.SimulationTexts.{IsExchangeNote, IsFile, IsLinesNote, IsSimulationNote, Simulates, SimulatesLines, fits, over, recorded, too_large, unusable, whole}
use Rattle.program.specs.declared.judged.WithExplanation.{WithExplanation}
use Rattle.program_words.specs.PairLines.{pairs_in}
use Rattle.program_words.specs.Value.{UnlessMemory}
use Rattle.program_words.specs.declared.session.Pair.{Pair}
use Rattle.program_words.specs.declared.fault.Fault.{Fault}
use Rattle.program_octets.specs.declared.status.Status.{Status}
use Rattle.program_octets.specs.declared.status.Status.TheVariants as status
use Rattle.program_octets.proofs.OneOf.{OneText, ended-by}

abbrev text-of : Recording → List ℕ
text-of r = exchange_text (exchange_of r)

abbrev file-of : Recording → Said
file-of r = saying.Text (text-of r)

-- ---- what holds of an answer

-- what follows from what holds of a success holds of it too
pub if-ok : {A E : Type 0} (r : Result A E) {P Q : A → Type 0} → ((a : A) → P a → Q a) → IfOk r P → IfOk r Q
if-ok (Ok a) f h = f a h
if-ok (Err e) f h = tt

-- and what follows from two such
pub if-both-ok : {A E : Type 0} (r : Result A E) {P Q S : A → Type 0} → ((a : A) → P a → Q a → S a) → IfOk r P
    → IfOk r Q → IfOk r S
if-both-ok (Ok a) f h g = f a h g
if-both-ok (Err e) f h g = tt

-- ---- the file of an exchange

-- an exchange has one file
pub one-file : (e : ExchangeParts) (t u : Said) (p q : Status) → IsFile e t p → IsFile e u q → (t ≡ u) × (p ≡ q)
one-file e t u p q (fits small text ended) (fits little other different) = (text ∙ sym other, ended ∙ sym different)
one-file e t u p q (fits small text ended) (over long other different) = absurd (omega (arith, small, long))
one-file e t u p q (over long text ended) (fits small other different) = absurd (omega (arith, small, long))
one-file e t u p q (over long text ended) (over large other different) = (text ∙ sym other, ended ∙ sym different)

pub some-file : (e : ExchangeParts) → (length (exchange_text e) ≡ largest_file)
    ⊎ ((length (exchange_text e) < largest_file) ⊎ (largest_file < length (exchange_text e)))
    → (t : Said) × (p : Status) × IsFile e t p
some-file e (inl same) = (saying.Text (exchange_text e), status.Accepted, fits (omega (arith, same)) refl refl)
some-file e (inr (inl small)) = (saying.Text (exchange_text e), status.Accepted, fits (omega (arith, small)) refl refl)
some-file e (inr (inr long)) = (faulted TooLarge, status.Fault, over long refl refl)

-- ---- one thing is found

abbrev name-of : Result ℕ (List ℕ) → List ℕ
name-of (Ok ifsc) = []
name-of (Err name) = name

abbrev found-size : ℕ → Result ℕ (List ℕ)
found-size ifsc = Ok ifsc

abbrev found-name : List ℕ → Result ℕ (List ℕ)
found-name name = Err name

not-both : (ifsc : ℕ) (name : List ℕ) → found-size ifsc ≡ found-name name → ⊥
not-both ifsc name e = cc e

module _ (atr : List ℕ) where
  pub same-size : (a b : ℕ) → IsFound atr (Ok a) → IsFound atr (Ok b) → a ≡ b
  same-size a b f g = ap (λ (r : Result ℕ (List ℕ)). result_unwrap_or r a)
      (one-found one-accepted atr (Ok a) (Ok b) f g)

  pub same-name : (a b : List ℕ) → IsFound atr (Err a) → IsFound atr (Err b) → a ≡ b
  same-name a b f g = ap name-of (one-found one-accepted atr (Err a) (Err b) f g)

  pub apart : (ifsc : ℕ) (name : List ℕ) → IsFound atr (Ok ifsc) → IsFound atr (Err name) → ⊥
  apart ifsc name f g = not-both ifsc name (one-found one-accepted atr (Ok ifsc) (Err name) f g)

module _ (s : Session) where
  same-end : (a b : ℕ) (r q : Recording) → IsFound s.atr (Ok a) → IsFound s.atr (Ok b) → EndsAs s a r → EndsAs s b q
      → r ≡ q
  same-end a b r q f g h k = one-end s b r q (subst (λ (ifsc : ℕ). EndsAs s ifsc r) (same-size s.atr a b f g) h) k

  too-long-for : (a b : ℕ) (r : Recording) → IsFound s.atr (Ok a) → IsFound s.atr (Ok b) → EndsAs s a r
      → length (text-of r) ≤ largest_file
      → ((q : Recording) → EndsAs s b q → largest_file < length (text-of q)) → ⊥
  too-long-for a b r f g h small long =
      let big = long r (subst (λ (ifsc : ℕ). EndsAs s ifsc r) (same-size s.atr a b f g) h) in
      omega (arith, small, big)

  -- ---- one text

  one-simulated : (t u : Said) (p q : Status) → Simulates s t p → Simulates s u q → (t ≡ u) × (p ≡ q)
  one-simulated t u p q (unusable a f text ended) (unusable b g other different) =
      (text ∙ ap refused_as (same-name s.atr a b f g) ∙ sym other, ended ∙ sym different)
  one-simulated t u p q (unusable a f text ended) (whole b r g end small other different) = absurd (apart s.atr b a g f)
  one-simulated t u p q (unusable a f text ended) (too_large b g long other different) = absurd (apart s.atr b a g f)
  one-simulated t u p q (whole a r f end small text ended) (unusable b g other different) = absurd (apart s.atr a b f g)
  one-simulated t u p q (whole a r f end small text ended) (whole b v g also little other different) =
      (text ∙ ap file-of (same-end a b r v f g end also) ∙ sym other, ended ∙ sym different)
  one-simulated t u p q (whole a r f end small text ended) (too_large b g long other different) =
      absurd (too-long-for a b r f g end small long)
  one-simulated t u p q (too_large a f long text ended) (unusable b g other different) = absurd (apart s.atr a b f g)
  one-simulated t u p q (too_large a f long text ended) (whole b r g end small other different) =
      absurd (too-long-for b a r g f end small long)
  one-simulated t u p q (too_large a f long text ended) (too_large b g large other different) =
      (text ∙ sym other, ended ∙ sym different)

  -- ---- some text

  at-end : (ifsc : ℕ) (r : Recording) → IsFound s.atr (Ok ifsc) → EndsAs s ifsc r → (t : Said) (p : Status)
      → IsFile (exchange_of r) t p → Simulates s t p
  at-end ifsc r f end t p (fits small text ended) = whole ifsc r f end small text ended
  at-end ifsc r f end t p (over long text ended) =
      too_large ifsc f (λ q also. subst (λ (x : Recording). largest_file < length (text-of x))
      (one-end s ifsc r q end also) long) text ended

  some-ended : (ifsc : ℕ) → IsFound s.atr (Ok ifsc) → (o : Option Recording)
      → simulated largest_file s (start s) (new_recording s.atr ifsc) ≡ o
      → (t : Said) × (p : Status) × Simulates s t p
  some-ended ifsc f None h =
      (faulted TooLarge, status.Fault, too_large ifsc f (λ r end. too-long largest_file s ifsc r h end) refl refl)
  some-ended ifsc f (Some r) h =
      let told = some-file (exchange_of r) (cases_order (length (text-of r)) largest_file) in
      (told.0, told.1, at-end ifsc r f (largest_file, h) told.0 told.1 told.2)

  some-found : (found : Result ℕ (List ℕ)) → IsFound s.atr found → (t : Said) × (p : Status) × Simulates s t p
  some-found (Ok ifsc) f = some-ended ifsc f (simulated largest_file s (start s) (new_recording s.atr ifsc)) refl
  some-found (Err name) f = (refused_as name, status.Refused, unusable name f refl refl)

  -- a session comes to one text with one status, where its answer to reset is octets
  pub simulated-once : AreOctets s.atr → OneText (Simulates s)
  simulated-once octets = record {
    one = one-simulated;
    some = let found = verdict-found one-accepted s.atr ((atr_goes.one-verdict s.atr octets).some) in
        some-found found.0 found.1;
  }

  -- ---- the program

  -- the text of an exchange that the session makes
  pub told-file : (e : ExchangeParts) (t : Said) (p : Status) → IsSimulated largest_file s (Ok e) → IsFile e t p
      → Simulates s t p
  told-file e t p (ifsc, r, f, end, is) file =
      at-end ifsc r f end t p (subst (λ (x : ExchangeParts). IsFile x t p) is file)

  -- and a note on that exchange
  told-note : (e : ExchangeParts) (note : List ℕ) → IsSimulated largest_file s (Ok e) → IsExchangeNote s e note
      → IsSimulationNote s note
  told-note e note (ifsc, r, f, end, is) h =
      recorded ifsc r f end (subst (λ (x : ExchangeParts). IsExchangeNote s x note) is h)

  pub told-both : (e : ExchangeParts) (made : WithExplanation) → IsSimulated largest_file s (Ok e)
      → AreOf (IsFile e) (IsExchangeNote s e) made → AreOf (Simulates s) (IsSimulationNote s) made
  told-both e made is h = (
    told-file e made.answer.said made.answer.status is h.0,
    if-ok made.explanation (λ note k. told-note e (string_bytes note) is k) h.1,
  )

-- ---- how the program ends with a text

pub past : (e : ExchangeParts) (t : Said) (p : Status) → IsFile e t p → p ≡ status.Fault
    → largest_file < length (exchange_text e)
past e t p (fits small text ended) is = absurd (cc (ended, is))
past e t p (over long text ended) is = long

pub inside : (e : ExchangeParts) (t : Said) (p : Status) → IsFile e t p → (p ≡ status.Fault → ⊥)
    → length (exchange_text e) ≤ largest_file
inside e t p (fits small text ended) other = small
inside e t p (over long text ended) other = absurd (other ended)

-- ---- pairs that are lines

-- what pairs come to, or their fault, is one text
pub lines-once : (s : Session) → AreOctets s.atr → (b : List ℕ) → OneText (SimulatesLines s b)
lines-once s octets b = go (pairs_in b)
  where
    go : (r : Result (List Pair) Fault)
        → OneText (λ said ended. MatchResult r (λ pairs. Simulates (record s { pairs = pairs }) said ended)
        (λ fault. (said ≡ faulted fault) × (ended ≡ status.Fault)))
    go (Ok pairs) = simulated-once (record s { pairs = pairs }) octets
    go (Err fault) = ended-by (faulted fault) status.Fault

-- a session with the pairs that lines say
pub of-lines : {E : Type 0} (s : Session) (b : List ℕ) (pairs : List Pair) (r : Result WithExplanation E)
    → UnlessMemory (Ok pairs) (pairs_in b)
    → IfOk r (AreOf (Simulates (record s { pairs = pairs })) (IsSimulationNote (record s { pairs = pairs })))
    → IfOk r (AreOf (SimulatesLines s b) (IsLinesNote s b))
of-lines s b pairs r (inl memory) h = absurd (cc memory)
of-lines s b pairs r (inr is) h = subst (λ (p : Result (List Pair) Fault). IfOk r (AreOf
    (λ said ended. MatchResult p (λ q. Simulates (record s { pairs = q }) said ended)
    (λ fault. (said ≡ faulted fault) × (ended ≡ status.Fault)))
    (λ note. MatchResult p (λ q. IsSimulationNote (record s { pairs = q }) note) (λ _. note ≡ pairs_note b)))) is h
