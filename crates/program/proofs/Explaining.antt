-- How answers and the notes on them are those of a request, and of words.
use Rattle.std.proofs.Common.{◌≡◌, ◌≢◌, ◌⊎◌, ◌∙◌, ◌++◌, inl, inr, ℕ, List, [], Option, Some, None, Result, Ok, Err, IfOk, IfErr, OnOk, IsOkAnd, MatchResult, String, length, string_bytes, Bool, true, false, ap, refl, subst, sym}
use Rattle.std.specs.declared.alloc.AllocError.{AllocError}
use Rattle.std.specs.declared.alloc.Global.{Global}
use Rattle.command_line.specs.Asked.{asks_to_explain}
use Rattle.program_words.specs.Given.{octets_given, octets_in, IsFromReader}
use Rattle.program_words.specs.Value.{UnlessMemory}
use Rattle.program_words.specs.declared.given.Form.{Form}
use Rattle.program_words.specs.declared.given.OctetSource.TheVariants.{Read, Word}
use Rattle.program_octets.specs.Sayings.{faulted}
use Rattle.program_octets.specs.declared.said.Said.{Said}
use Rattle.program_words.specs.Words.{IsRead, NeedsFile}
use Rattle.program_words.specs.declared.fault.Fault.{Fault}
use Rattle.program_words.specs.declared.fault.Fault.TheVariants.{Hex, Memory, TooLarge}
use Rattle.program_words.specs.declared.given.OctetSource.{OctetSource}
use Rattle.program_words.specs.declared.request.Asked.TheVariants.{Once}
use Rattle.program_words.specs.declared.request.Request.{Request}
use Rattle.program.specs.Calls.{calls, Calls}
use Rattle.program.specs.Answers.{IsAnswerTo, IsRight, IsRightTo, IsToldOf}
use Rattle.program.specs.Explained.{differs, form_note, octets_of, on_known, on_words, said_of, silent, too_large, AreNoted, Fits, IsDifferenceNote, IsFaultAnswer, IsFaulted, IsFillNote, IsFormNote, IsKnownNote, IsNoted, IsNoteOn, IsNoteTo, IsReplyTo, IsSaid, IsTakenWith, Replies, RepliesTo, SaysOf}
use Rattle.program.specs.FileNotes.{line_text, IsWhy}
use Rattle.program.specs.TracePlaces.{trace_place}
use Rattle.program.specs.Files.{largest_file, ReadsWhole}
use Rattle.program.specs.Pieces.{ReadsFor}
use Rattle.program.specs.declared.judged.WithExplanation.{WithExplanation}
use Rattle.program.specs.declared.replies.Taken.{Taken}
use Rattle.program.specs.declared.replies.Taken.TheVariants.{Given, Refused}
use Rattle.program.specs.ExchangeTexts.{IsOutcome}
use Rattle.exchange_text.specs.Exchange.{ExchangeParts}
use Rattle.exchange_core.specs.Replay.{IfDiffers, Replays}
use Rattle.exchange_core.specs.declared.replaying.ReplayFault.{ReplayFault}
use Rattle.block_core.specs.declared.side.Side.{Side}
use Rattle.octet_core.specs.declared.stop.Stop.{Stop}
use Rattle.program_octets.specs.Codec.{Codec, IsVerdict}
use Rattle.explainer.specs.Notes.{large_note, verdict_text}
use Rattle.explainer.specs.Words.{IsWordsNote}
use Rattle.program.specs.Judged.{IsListNote, IsNoteBy, SaysIf}
use Rattle.tlv_core.specs.declared.known.Known.{Known}
use Rattle.octet_core.proofs.Lists.{nil_of}
use Rattle.program_octets.specs.declared.answer.Answer.{Answer}
use Rattle.program_octets.specs.declared.status.Status.{Status}
use Rattle.program_octets.specs.declared.status.Status.TheVariants as status
use Rattle.program.proofs.Answering.{right}
use Rattle.program.proofs.Inputs.{counted}

abbrev taken-as : List ℕ → Result (List ℕ) Fault
taken-as octets = Ok octets

-- memory was wanting before anything was read
pub wanting : (request : Request) (held : Option (List ℕ)) (count : ℕ)
    → IsRightTo request (calls held held count count) (faulted Memory) status.Fault
wanting request held count = inr (refl, refl, refl)

-- where an end does a line otherwise, the line with the reason and its place is the note on the exchange
pub on-difference : {E : Type 0} (r : Result (String Global) E) (file : List ℕ) (e : ExchangeParts) (which : Side)
    (line : ℕ) (gives why : List ℕ) → Replays e.atr e.lines which (Some (line, gives)) → IsWhy e which line gives why
    → IfOk r (λ text. string_bytes text ≡ line_text file line (why ++ trace_place e.lines line))
    → IfOk r (λ text. IsDifferenceNote file e which (string_bytes text))
on-difference (Ok text) file e which line gives why replays is h = differs line gives why replays is h
on-difference (Err fault) file e which line gives why replays is h = tt

-- what replay says of an exchange
pub outcome : {A : Type 0} (r : Result A ReplayFault) (e : ExchangeParts) (which : Side)
    → OnOk r (Replays e.atr e.lines which None)
    → IfErr r (λ fault. IfDiffers fault (λ line gives. Replays e.atr e.lines which (Some (line, gives))))
    → IsOutcome e which r
outcome (Ok done) e which agrees other = agrees
outcome (Err fault) e which agrees other = other

-- what holds anyway holds of a result
if-ok-any : {A E : Type 0} (r : Result A E) {P : Type 0} → P → IfOk r (λ _. P)
if-ok-any (Ok a) p = p
if-ok-any (Err e) p = tt

-- where there is no note on a list, it is that on the words for known values
pub known-noted : {E : Type 0} (r : Result (String Global) E) (words : List (List ℕ)) (list : List ℕ)
    (known : Result (List Known) Fault) (silence : List ℕ) → length silence ≡ 0 → IsListNote list silence
    → IfOk r (λ text. IsKnownNote words known (string_bytes text))
    → IfOk r (λ text. IsFillNote words list known (string_bytes text))
known-noted (Ok text) words list known silence none h told =
    on_known (subst (IsListNote list) (nil_of silence none) h) told
known-noted (Err e) words list known silence none h told = tt

-- ---- a note that is asked for

-- where it is asked for it is said
pub says-asked : {E : Type 0} (explains : Bool) (Note : List ℕ → Type 0) (r : Result (String Global) E)
    → explains ≡ true → IfOk r (λ text. Note (string_bytes text))
    → IfOk r (λ text. SaysIf explains Note (string_bytes text))
says-asked true Note r asks h = h
says-asked false Note r asks h = cc asks

-- and else nothing
pub says-nothing : (explains : Bool) (Note : List ℕ → Type 0) (note : List ℕ) → explains ≡ false → note ≡ []
    → SaysIf explains Note note
says-nothing false Note note quiet h = h
says-nothing true Note note quiet h = cc quiet

-- the note of a verdict is one by the codec that the verdict is of
pub says-by : {V R E : Type 0} (explains : Bool) (c : Codec V R) (says : R → List ℕ) (least : Option ℕ) (b : List ℕ)
    (verdict : Result ℕ (Stop R)) (r : Result (String Global) E) → IsVerdict c b verdict
    → IfOk r (λ text. SaysIf explains (λ said. said ≡ verdict_text says b least verdict) (string_bytes text))
    → IfOk r (λ text. SaysIf explains (IsNoteBy c says least b) (string_bytes text))
says-by true c says least b verdict (Ok text) is h = (verdict, is, h)
says-by true c says least b verdict (Err e) is h = tt
says-by false c says least b verdict r is h = h

-- the line of a fault with a note on it, of which this holds
pub is-faulted : (told : Fault) (Note : List ℕ → Type 0) (note : Result (String Global) AllocError)
    (made : WithExplanation) → IsFaultAnswer told made.answer → made.explanation ≡ note
    → IfOk note (λ text. Note (string_bytes text))
    → IsFaultAnswer told made.answer × IfOk made.explanation (λ text. Note (string_bytes text))
is-faulted told Note note made line same h = (line, rw same h)

-- ---- answers to a request

module _ (words : List (List ℕ)) (request : Request) (reads : Calls) where
  -- an answer of which nothing is said
  pub alone : (made : WithExplanation) (file : Result (List ℕ) Fault)
      → (NeedsFile request → ReadsFor request reads file)
      → IsAnswerTo request file made.answer.said made.answer.status
      → IfOk made.explanation (λ note. string_bytes note ≡ []) → IsReplyTo words request reads made
  alone made file is_file h none =
      record { file = file; is_file = is_file; is_answer = h; is_note = left-of made.explanation none }
    where
      left-of : {E : Type 0} (r : Result (String Global) E) → IfOk r (λ note. string_bytes note ≡ [])
          → IfOk r (λ note. (string_bytes note ≡ []) ⊎ IsNoteTo words request file (string_bytes note))
      left-of (Ok note) h = inl h
      left-of (Err e) h = tt

  -- an answer with a note
  pub with-note : (made : WithExplanation) (file : Result (List ℕ) Fault)
      → (NeedsFile request → ReadsFor request reads file)
      → IsAnswerTo request file made.answer.said made.answer.status
      → IfOk made.explanation (λ note. IsNoteTo words request file (string_bytes note))
      → IsReplyTo words request reads made
  with-note made file is_file h note =
      record { file = file; is_file = is_file; is_answer = h; is_note = right-of made.explanation note }
    where
      right-of : {E : Type 0} (r : Result (String Global) E)
          → IfOk r (λ note. IsNoteTo words request file (string_bytes note))
          → IfOk r (λ note. (string_bytes note ≡ []) ⊎ IsNoteTo words request file (string_bytes note))
      right-of (Ok note) h = inr h
      right-of (Err e) h = tt

-- ---- octets that are given

-- a word gave them, and there is no text
pub word-taken-with : (explains : Bool) (octets : List ℕ) (note : Result (String Global) AllocError)
    (held : Option (List ℕ)) (count : ℕ) → IfOk note (λ text. string_bytes text ≡ [])
    → IsTakenWith explains (Word octets) (calls held held count count) (Ok (Given octets note))
word-taken-with explains octets note held count none = record {
  taken = record {
    file = Ok [];
    is_file = λ asked. absurd asked;
    is_taken = inl refl;
    count = refl;
  };
  unfailed = refl;
  is_note = nothing explains note none;
}
  where
    nothing : (asks : Bool) (r : Result (String Global) AllocError) → IfOk r (λ text. string_bytes text ≡ [])
        → IfOk r (λ text. SaysIf asks (λ said. said ≡ []) (string_bytes text))
    nothing true r h = h
    nothing false r h = h

-- or a text was read, and they were taken from it
pub read-with : (form : Form) (reads : Calls) (text : List ℕ)
    (result : Result Taken Fault) → ReadsWhole reads (Ok text)
    → UnlessMemory (octets_of result) (octets_in form text) → (explains asks : Bool) → explains ≡ asks
    → IfOk result (SaysOf asks (Read form) (Ok text)) → IsTakenWith explains (Read form) reads result
read-with form reads text result had octets explains asks same note = record {
  taken = record {
    file = Ok text;
    is_file = λ asked. had;
    is_taken = elim octets [
      | inl memory ↦ inr (memory, had.count)
      | inr is ↦ inl is
    ];
    count = counted reads.before reads.after (octets_of result) had.count;
  };
  unfailed = if-ok-any result had.count;
  is_note = rw same note;
}

-- a request that tells of the octets that are given, and has a note on them and on their text
module _ (explains : Bool) (words : List (List ℕ)) (request : Request) (given : OctetSource)
    (Told : List ℕ → Said → Status → Type 0)
    (Note : List ℕ → List ℕ → Type 0)
    (reads : Calls)
    (had_for : (file : Result (List ℕ) Fault) → (IsFromReader given → ReadsWhole reads file) → NeedsFile request
    → ReadsFor request reads file)
    (answers : (file : Result (List ℕ) Fault) (said : Said) (ended : Status)
    → IsToldOf Told (octets_given given file) said ended → IsAnswerTo request file said ended)
    (notes : (file : Result (List ℕ) Fault) (note : List ℕ) → IsNoteOn given file Note note
    → IsNoteTo words request file note) where
  both-said : (asks : Bool) (one other note : List ℕ) (file : Result (List ℕ) Fault) (octets : List ℕ)
      → Ok octets ≡ octets_given given file → SaysIf asks (Note octets) one
      → SaysIf asks (λ said. said ≡ form_note given file) other → note ≡ one ++ other
      → (note ≡ []) ⊎ IsNoteTo words request file note
  both-said true one other note file octets same h g is =
      inr (notes file note (subst (λ (r : Result (List ℕ) Fault). MatchResult r (λ b. (front : List ℕ)
      × Note b front × (note ≡ front ++ form_note given file)) (λ fault. IsFormNote given file note)) same
      (one, h, is ∙ ap (λ (l : List ℕ). one ++ l) g)))
  both-said false one other note file octets same h g is = inl (is ∙ ap (λ (l : List ℕ). l ++ other) h ∙ g)

  on-given : {E F : Type 0} (one : Result (String Global) E) (other : Result (String Global) F)
      (note : Result (String Global) E) (file : Result (List ℕ) Fault) (octets : List ℕ)
      → Ok octets ≡ octets_given given file → IfOk one (λ text. SaysIf explains (Note octets) (string_bytes text))
      → IfOk other (λ text. SaysIf explains (λ said. said ≡ form_note given file) (string_bytes text))
      → IfOk note (λ text. IsOkAnd one (λ first. IsOkAnd other (λ second.
      string_bytes text ≡ string_bytes first ++ string_bytes second)))
      → IfOk note (λ text. (string_bytes text ≡ []) ⊎ IsNoteTo words request file (string_bytes text))
  on-given (Ok first) (Ok second) (Ok text) file octets same h g both =
      both-said explains (string_bytes first) (string_bytes second) (string_bytes text) file octets same h g both
  on-given (Ok first) (Err e) (Ok text) file octets same h g both = absurd both
  on-given (Err e) other (Ok text) file octets same h g both = absurd both
  on-given one other (Err e) file octets same h g both = tt

  pub noted-given : (octets : List ℕ) (note : Result (String Global) AllocError)
      → IsTakenWith explains given reads (Ok (Given octets note))
      → (one made : WithExplanation) → Told octets one.answer.said one.answer.status
      → IfOk one.explanation (λ text. SaysIf explains (Note octets) (string_bytes text))
      → made.answer ≡ one.answer
      → IfOk made.explanation (λ text. IsOkAnd one.explanation (λ first. IsOkAnd note (λ second.
      string_bytes text ≡ string_bytes first ++ string_bytes second)))
      → IsReplyTo words request reads made
  noted-given octets note had one made answer fits same both =
      elim had.taken.is_taken [
        | inl is ↦ record {
          file = had.taken.file;
          is_file = had_for had.taken.file had.taken.is_file;
          is_answer = subst (λ (a : Answer). IsAnswerTo request had.taken.file a.said a.status) (sym same)
              (answers had.taken.file one.answer.said one.answer.status
              (subst (λ (r : Result (List ℕ) Fault). IsToldOf Told r one.answer.said one.answer.status) is answer));
          is_note = on-given one.explanation note made.explanation had.taken.file octets is fits had.is_note both;
        }
        | inr memory ↦ absurd (cc memory.0)
      ]

  -- or gets the line of the fault, with a note, of a text that isn't in its form
  pub noted-refused : (made : WithExplanation) → IsTakenWith explains given reads (Ok (Refused made))
      → IsReplyTo words request reads made
  noted-refused made had =
      elim had.taken.is_taken [
        | inl is ↦ record {
          file = had.taken.file;
          is_file = had_for had.taken.file had.taken.is_file;
          is_answer = answers had.taken.file made.answer.said made.answer.status
              (subst (λ (r : Result (List ℕ) Fault). IsToldOf Told r made.answer.said made.answer.status) is
              (had.is_note.0.said, had.is_note.0.status));
          is_note = go made.explanation had.taken.file is had.is_note.1;
        }
        | inr memory ↦ absurd (cc memory.0)
      ]
    where
      hex : Result (List ℕ) Fault
      hex = Err Hex

      go : {E : Type 0} (r : Result (String Global) E) (file : Result (List ℕ) Fault)
          → hex ≡ octets_given given file → IfOk r (λ text. IsFormNote given file (string_bytes text))
          → IfOk r (λ text. (string_bytes text ≡ []) ⊎ IsNoteTo words request file (string_bytes text))
      go (Ok text) file is h = inr (notes file (string_bytes text)
          (subst (λ (r : Result (List ℕ) Fault). MatchResult r (λ b. (front : List ℕ)
          × Note b front × (string_bytes text ≡ front ++ form_note given file))
          (λ fault. IsFormNote given file (string_bytes text))) is h))
      go (Err e) file is h = tt

-- ---- answers to words

module _ (words : List (List ℕ)) (reads : Calls) where
  -- what is right of a request is right of the words
  pub noted-words : (request : Request) (made : WithExplanation) → IsRead words (Ok (Once request))
      → IsReplyTo words request reads made
      → IsNoted words reads made.answer.said (said_of made.explanation) made.answer.status
  noted-words request made read h = go made.explanation h.is_note
    where
      is-right : IsRight words reads made.answer.said made.answer.status
      is-right = right words reads request made.answer.said made.answer.status read
          (inl (record { file = h.file; is_file = h.is_file; is_answer = h.is_answer }))

      go : {E : Type 0} (note : Result (String Global) E)
          → IfOk note (λ n. (string_bytes n ≡ []) ⊎ IsNoteTo words request h.file (string_bytes n))
          → IsNoted words reads made.answer.said (said_of note) made.answer.status
      go (Ok n) (inl none) = inl (is-right, silent none)
      go (Ok n) (inr is) = inr (
        request,
        read,
        record {
          file = h.file;
          is_file = h.is_file;
          is_answer = h.is_answer;
          is_note = is;
        },
      )
      go (Err e) is = inl (is-right, silent refl)

  pub replied-words : (request : Request) (r : Result WithExplanation Fault) → IsRead words (Ok (Once request))
      → RepliesTo words request reads r → AreNoted words reads r
  replied-words request (Ok made) read h = noted-words request made read h
  replied-words request (Err fault) read h = right words reads request (faulted fault) status.Fault
      read h

  pub right-noted : (text : Said) (note : List ℕ) (ended : Status) → IsNoted words reads text note ended
      → IsRight words reads text ended
  right-noted text note ended (inl to) = to.0
  right-noted text note ended (inr from) = right words reads from.0 text ended from.1 (inl (record {
    file = from.2.file;
    is_file = from.2.is_file;
    is_answer = from.2.is_answer;
  }))

  -- a text of which nothing is said
  pub said-nothing : (text : Said) (ended : Status) → IsRight words reads text ended
      → IsSaid words reads text [] ended
  said-nothing text ended h =
      record { is_right = h; is_noted = inl (h, silent refl); unasked = λ _. refl }

  -- or a note, where it is asked for
  pub said-asked : (text : Said) (note : List ℕ) (ended : Status) → asks_to_explain words ≡ true
      → IsNoted words reads text note ended → IsSaid words reads text note ended
  said-asked text note ended asks h = record {
    is_right = right-noted text note ended h;
    is_noted = h;
    unasked = λ quiet. absurd (cc (asks, quiet));
  }

  -- a note on the line of a fault, where it fits that
  pub said-fault : (fault : Fault) (Note : List ℕ → Type 0) (r : Result WithExplanation Fault)
      → asks_to_explain words ≡ true
      → IsRight words reads (faulted fault) status.Fault → IsFaulted fault Note r
      → IfOk r (λ _. (note : List ℕ) → Note note → Fits words (faulted fault) note)
      → Replies words reads r
  said-fault fault Note (Ok made) asks h told fits = go made.explanation told.1
    where
      is-right : IsRight words reads made.answer.said made.answer.status
      is-right = rw (told.0.status, told.0.said) h

      go : {E : Type 0} (note : Result (String Global) E) → IfOk note (λ n. Note (string_bytes n))
          → IsSaid words reads made.answer.said (said_of note) made.answer.status
      go (Ok n) is = said-asked made.answer.said (string_bytes n) made.answer.status asks
          (inl (is-right, rw told.0.said (fits (string_bytes n) is)))
      go (Err e) is = said-nothing made.answer.said made.answer.status is-right
  said-fault fault Note (Err other) asks h same fits =
      rw same (said-nothing (faulted fault) status.Fault h)

  -- an answer whose note isn't asked for
  pub said-alone : (made alone : WithExplanation) → IsNoted words reads made.answer.said
      (said_of made.explanation) made.answer.status → alone.answer ≡ made.answer → said_of alone.explanation ≡ []
      → IsSaid words reads alone.answer.said (said_of alone.explanation) alone.answer.status
  said-alone made alone h same none = rw (same, none) (said-nothing made.answer.said made.answer.status
      (right-noted made.answer.said (said_of made.explanation) made.answer.status h))

-- ---- what fits the line of a fault

abbrev read-as : Fault → Result Request Fault
read-as fault = Err fault

-- the note on words, where they were refused for want of nothing
pub fits-words : (words : List (List ℕ)) (told : Fault) → told ≢ Memory
    → (read-as told ≡ Err Memory) ⊎ IsRead words (Err told) → (note : List ℕ) → IsWordsNote words note
    → Fits words (faulted told) note
fits-words words told other (inl memory) note h = absurd (other (cc memory))
fits-words words told other (inr read) note h = on_words told read refl h

-- the note on octets that are too many
pub fits-large : (words : List (List ℕ)) (told : Fault) → told ≡ TooLarge → (note : List ℕ)
    → note ≡ large_note largest_file → Fits words (faulted told) note
fits-large words told is note h = too_large (ap faulted is) h
