-- How a request's answer becomes that of the words.
use Rattle.std.proofs.Common.{◌≡◌, ◌⊎◌, inl, inr, ℕ, List, [], Option, Result, Ok, Err, ap, sym, refl, subst}
use Rattle.program_octets.specs.Sayings.{faulted}
use Rattle.program_octets.specs.declared.said.Said.{Said}
use Rattle.program_words.specs.Given.{octets_given, IsFromReader}
use Rattle.program_words.specs.declared.given.OctetSource.{OctetSource}
use Rattle.program_words.specs.Words.{AskFor, AskForFile, AskForOctets, HasOther, IsOnce, IsRead, NeedsFile, NeedsOctets, called_for_version, taken, called_for_help, not_taken}
use Rattle.clap.specs.Kinds.{IsAmong}
use Rattle.clap.specs.declared.error.kind.ErrorKind.TheVariants.{DisplayHelp}
use Rattle.std.specs.Result.{MatchResult}
use Rattle.std.proofs.lemmas.Result.{MatchResult-at_ok}
use Rattle.program_words.specs.declared.fault.Fault.{Fault}
use Rattle.program_words.specs.declared.fault.Fault.TheVariants.{Memory}
use Rattle.program_words.specs.declared.request.Asked.{Asked}
use Rattle.program_words.specs.declared.request.Asked.TheVariants.{Once}
use Rattle.program_words.specs.declared.request.Request.{Request}
use Rattle.program_words.specs.declared.request.Request.TheVariants.{Help, Version}
use Rattle.program.specs.Calls.{calls, Calls}
use Rattle.program.specs.Answers.{AskToJudge, IsAnswerTo, IsJudge, IsRight, IsRightTo, IsToldOf}
use Rattle.program.specs.Files.{IsTaken, ReadsWhole}
use Rattle.program.specs.Pieces.{ReadsFor}
use Rattle.program_octets.specs.declared.status.Status.{Status}
use Rattle.program_octets.specs.declared.status.Status.TheVariants as status

abbrev read_as : Fault → Result Request Fault
read_as fault = Err fault

-- a request that asks for no file is answered without the reader
pub told-at_once : (request : Request) (held : Option (List ℕ)) (count : ℕ) (said : Said) (ended : Status)
    → (NeedsFile request → ⊥) → IsAnswerTo request (Ok []) said ended
    → IsRightTo request (calls held held count count) said ended
told-at_once request held count said ended free answer =
    inl (record { file = Ok []; is_file = λ needs. absurd (free needs); is_answer = answer })

module _ (Needs : Request → Type 0) (words : List (List ℕ)) where
  -- words that were read as a request ask for what it needs
  asks : (request : Request) → IsRead words (Ok (Once request)) → AskFor Needs words → Needs request
  asks request (called_for_version version e) ask = absurd (cc (version, ask.0.parsed))
  asks request (taken are e) ask = MatchResult-at_ok (IsOnce Needs) (λ _. ⊥) (Once request) (sym e) ask.1
  asks request (called_for_help parsed among help e) ask = absurd (subst (IsAmong DisplayHelp) ask.0.free among)
  asks request (not_taken parsed other e) ask = cc e

  -- where a request needs this, the words that were read as it ask for it; help and the version never do
  pub needs : (Needs Version → ⊥) → ((help : List ℕ) → Needs (Help help) → ⊥) → (request : Request)
      → IsRead words (Ok (Once request)) → Needs request → AskFor Needs words
  needs no_version no_help request (called_for_version version e) need =
      let is : request ≡ Version = cc e in
      absurd (no_version (subst Needs is need))
  needs no_version no_help request (taken are e) need =
      (are, subst (λ (r : Result Asked Fault). MatchResult r (IsOnce Needs) (λ _. ⊥)) e need)
  needs no_version no_help request (called_for_help parsed among help e) need =
      let is : request ≡ Help help = cc e in
      absurd (no_help help (subst Needs is need))
  needs no_version no_help request (not_taken parsed other e) need = cc e

  -- words that were refused ask for nothing
  pub asks-none : (fault : Fault) → IsRead words (Err fault) → AskFor Needs words → ⊥
  asks-none fault (called_for_version version e) ask = cc e
  asks-none fault (taken are e) ask =
      subst (λ (r : Result Asked Fault). MatchResult r (IsOnce Needs) (λ _. ⊥)) (sym e) ask.1
  asks-none fault (called_for_help parsed among help e) ask = cc e
  asks-none fault (not_taken parsed other e) ask = let bad = subst HasOther ask.0.free other in bad.1

-- a request that needs a file, where the words ask for one
pub needs-file : (words : List (List ℕ)) (request : Request) → IsRead words (Ok (Once request)) → NeedsFile request
    → AskForFile words
needs-file words request read need = needs NeedsFile words (λ no. no) (λ help no. no) request read need

-- a request to judge a trace, where the words ask for that
pub needs-judge : (words : List (List ℕ)) (request : Request) → IsRead words (Ok (Once request)) → IsJudge request
    → AskToJudge words
needs-judge words request read need = needs IsJudge words (λ no. no) (λ help no. no) request read need

abbrev IsWith : Request → Request → Type 0
IsWith other asked = (asked ≡ other) × NeedsFile asked

module _ (words : List (List ℕ)) (reads : Calls) where
  -- what is right of the request is right of the words that were read as it
  pub right : (request : Request) (said : Said) (ended : Status) → IsRead words (Ok (Once request))
      → IsRightTo request reads said ended → IsRight words reads said ended
  right request said ended read (inl to) = inl (record {
    file = to.file;
    is_file = λ other ask.
        let is = asks (IsWith other) words request read ask in
        subst (λ (r : Request). ReadsFor r reads to.file) is.0 (to.is_file is.1);
    is_answer = record { read = Ok (Once request); is_read = read; is_answer = to.is_answer };
  })
  right request said ended read (inr wanting) = inr wanting

-- the line of the fault of words that were refused, or of memory
pub refused-words : (words : List (List ℕ)) (held : Option (List ℕ)) (count : ℕ) (fault : Fault)
    → (read_as fault ≡ Err Memory) ⊎ IsRead words (Err fault)
    → IsRight words (calls held held count count) (faulted fault) status.Fault
refused-words words held count fault (inl memory) =
    let same : fault ≡ Memory = cc memory in
    inr (ap faulted same, refl, refl)
refused-words words held count fault (inr refused) = inl (record {
  file = Ok [];
  is_file = λ request ask. absurd (asks-none (IsWith request) words fault refused ask);
  is_answer = record { read = Err fault; is_read = refused; is_answer = (refl, refl) };
})

-- words ask for octets as they are read where what they were read as does
pub needs-octets : (words : List (List ℕ)) (asked : Asked) → IsRead words (Ok asked) → IsOnce NeedsOctets asked
    → AskForOctets words
needs-octets words asked (called_for_version version e) need =
    let is : asked ≡ Once Version = cc e in
    absurd (subst (IsOnce NeedsOctets) is need)
needs-octets words asked (taken are e) need =
    (are, subst (λ (r : Result Asked Fault). MatchResult r (IsOnce NeedsOctets) (λ _. ⊥)) e need)
needs-octets words asked (called_for_help parsed among help e) need =
    let is : asked ≡ Once (Help help) = cc e in
    absurd (subst (IsOnce NeedsOctets) is need)
needs-octets words asked (not_taken parsed other e) need = cc e

-- ---- octets that are given

-- a request that tells of the octets that are given
module _ (request : Request) (given : OctetSource) (Told : List ℕ → Said → Status → Type 0)
    (reads : Calls)
    (had_for : (file : Result (List ℕ) Fault) → (IsFromReader given → ReadsWhole reads file) → NeedsFile request
    → ReadsFor request reads file)
    (answers : (file : Result (List ℕ) Fault) (said : Said) (ended : Status)
    → IsToldOf Told (octets_given given file) said ended → IsAnswerTo request file said ended) where
  -- where no octets were taken, the line of that fault is a right answer
  pub told-fault : (fault : Fault) → IsTaken given reads (Err fault)
      → IsRightTo request reads (faulted fault) status.Fault
  told-fault fault had =
      elim had.is_taken [
        | inl is ↦
            inl (record {
              file = had.file;
              is_file = had_for had.file had.is_file;
              is_answer = answers had.file (faulted fault) status.Fault
                  (subst (λ (r : Result (List ℕ) Fault). IsToldOf Told r (faulted fault) status.Fault) is
                  (refl, refl));
            })
        | inr memory ↦ let same : fault ≡ Memory = cc memory.0 in inr (ap faulted same, refl, memory.1)
      ]

  -- where memory runs out after they were taken, the line of that does
  pub told-wanting : (octets : List ℕ) → IsTaken given reads (Ok octets)
      → IsRightTo request reads (faulted Memory) status.Fault
  told-wanting octets had = inr (refl, refl, had.count)
