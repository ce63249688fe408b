-- That words have one text, and a reader one file.
use Rattle.std.proofs.Common.{◌≡◌, ◌≢◌, ◌<◌, ◌≤◌, ◌⊎◌, ◌∙◌, ◌++◌, inl, inr, ℕ, List, [], ◌∷◌, Bool, true, false, Option, Some, None, Result, Ok, Err, IfOk, ap, append-nil, arith, length, le-leb, subst, sym, refl}
use Rattle.std.specs.Result.{MatchResult}
use Rattle.std.proofs.lemmas.List.{length-append}
use Rattle.std.proofs.lemmas.Bool.Decides.{nat_tests}
use Rattle.clap.specs.Kinds.{IsAmong, Kinds}
use Rattle.clap.specs.Words.{fault_of}
use Rattle.clap.specs.declared.error.kind.ErrorKind.{ErrorKind}
use Rattle.clap.specs.declared.error.kind.ErrorKind.TheVariants.{DisplayHelp}
use Rattle.octet_core.specs.Failures.{most_failures}
use Rattle.octet_core.specs.Octets.{AreOctets}
use Rattle.program_words.proofs.Requests.{read-proper}
use Rattle.program_octets.specs.Sayings.{faulted, text_of}
use Rattle.program_octets.specs.declared.said.Said.{Said}
use Rattle.program_words.specs.Words.{asked_for, AskForOctets, HasOther, IsRead, called_for_version, taken, called_for_help, not_taken}
use Rattle.command_line.specs.Form.{scard}
use Rattle.program_words.specs.declared.fault.Fault.{Fault}
use Rattle.program_words.specs.declared.fault.Fault.TheVariants.{Words, Hex, Memory, Read, TooLarge}
use Rattle.command_line.specs.Version.{asks_for_version}
use Rattle.program_words.specs.declared.request.Asked.{Asked}
use Rattle.program_words.specs.declared.request.Asked.TheVariants.{Once, Lines}
use Rattle.program_words.specs.declared.request.Aim.{Aim}
use Rattle.program_words.specs.declared.request.Aim.TheVariants.{Check, Show, Note}
use Rattle.layouts.specs.declared.layout.Layout.{Layout}
use Rattle.layouts.specs.declared.layout.Layout.TheVariants as layout
use Rattle.program_words.specs.declared.request.Request.TheVariants.{BuildChain, BuildTidy, BuildFill, Tell, File, Record, Judge, Simulate, SimulateLines, Help, Version}
use Rattle.program.specs.Calls.{calls}
use Rattle.program.specs.Answers as same_answer
use Rattle.program.specs.Answers.{AsksForNotes, AskForNotes, HaveNotes, IsAnswer, IsAnswerAsked, IsPlain, IsSameAnswer, IsWithout}
use Rattle.notes.specs.Noted.{without_notes}
use Rattle.program.specs.Files.{file_of, largest_file, ReadsWhole}
use Rattle.program.specs.Pieces.{most_pieces, ReadsAll}
use Rattle.program_octets.specs.declared.status.Status.{Status}
use Rattle.program_octets.specs.declared.status.Status.TheVariants as status
use Rattle.program.proofs.Answering.{needs-octets}
use Rattle.program.proofs.OneAnswer.{one-cut, some-asked}

-- ---- words

one-fault : (fault : Fault) (text other : Said) (ended different : Status) → (text ≡ faulted fault)
    × (ended ≡ status.Fault) → (other ≡ faulted fault) × (different ≡ status.Fault) → (text ≡ other)
    × (ended ≡ different)
one-fault fault text other ended different h g = (h.0 ∙ sym g.0, h.1 ∙ sym g.1)

-- two texts that are one without notes are one, or notes are asked for
abbrev InLines : Said → Said → Type 0
InLines text other = without_notes (text_of text) ≡ without_notes (text_of other)

abbrev InObjects : Said → Said → Type 0
InObjects text other = (plain : List ℕ) × HaveNotes (text_of text) plain × HaveNotes (text_of other) plain

by-aim : (aim : Aim) (how : Layout) (text other plain : Said) → IsWithout aim how text plain
    → IsWithout aim how other plain
    → (text ≡ other) ⊎ ((((aim ≡ Note) × (how ≡ layout.Lines)) × InLines text other)
    ⊎ (((aim ≡ Note) × (how ≡ layout.Json)) × InObjects text other))
by-aim Check how text other plain h g = inl (sym h ∙ g)
by-aim Show how text other plain h g = inl (sym h ∙ g)
by-aim Note layout.Lines text other plain h g = inr (inl ((refl, refl), sym h ∙ g))
by-aim Note layout.Json text other plain h g = inr (inr ((refl, refl), (text_of plain, h, g)))

same-or-noted : (asked : Asked) (text other plain : Said) → IsPlain asked text plain → IsPlain asked other plain
    → (text ≡ other) ⊎ ((AsksForNotes layout.Lines asked × InLines text other)
    ⊎ (AsksForNotes layout.Json asked × InObjects text other))
same-or-noted (Once (Tell task given)) text other plain h g = by-aim task.aim task.layout text other plain h g
same-or-noted (Once (BuildChain ifs number message)) text other plain h g = inl (sym h ∙ g)
same-or-noted (Once (BuildTidy given)) text other plain h g = inl (sym h ∙ g)
same-or-noted (Once (BuildFill list known)) text other plain h g = inl (sym h ∙ g)
same-or-noted (Once (File task)) text other plain h g = inl (sym h ∙ g)
same-or-noted (Once (Record atr)) text other plain h g = inl (sym h ∙ g)
same-or-noted (Once (Judge atr judging)) text other plain h g = inl (sym h ∙ g)
same-or-noted (Once (Simulate session)) text other plain h g = inl (sym h ∙ g)
same-or-noted (Once (SimulateLines session)) text other plain h g = inl (sym h ∙ g)
same-or-noted (Once (Help help)) text other plain h g = inl (sym h ∙ g)
same-or-noted (Once Version) text other plain h g = inl (sym h ∙ g)
same-or-noted (Lines task) text other plain h g = by-aim task.aim task.layout text other plain h g

asks-notes : (how : Layout) (words : List (List ℕ)) (asked : Asked) → IsRead words (Ok asked) → AsksForNotes how asked
    → AskForNotes how words
asks-notes how words asked (called_for_version version e) notes =
    let is : asked ≡ Once Version = cc e in
    absurd (subst (AsksForNotes how) is notes)
asks-notes how words asked (taken are e) notes =
    (are, subst (λ (r : Result Asked Fault). MatchResult r (AsksForNotes how) (λ _. ⊥)) e notes)
asks-notes how words asked (called_for_help parsed among help e) notes =
    let is : asked ≡ Once (Help help) = cc e in
    absurd (subst (AsksForNotes how) is notes)
asks-notes how words asked (not_taken parsed other e) notes = cc e

-- the same words were read twice as this
read-once : (words : List (List ℕ)) (read : Result Asked Fault) → IsRead words read → (file : Result (List ℕ) Fault)
    → (AskForOctets words → IfOk file AreOctets) → (text other : Said) (ended different : Status)
    → MatchResult read (λ asked. IsAnswerAsked asked file text ended)
    (λ fault. (text ≡ faulted fault) × (ended ≡ status.Fault))
    → MatchResult read (λ asked. IsAnswerAsked asked file other different)
    (λ fault. (other ≡ faulted fault) × (different ≡ status.Fault))
    → IsSameAnswer words text other × (ended ≡ different)
read-once words (Ok asked) read file octets text other ended different h g =
    let proper = read-proper words asked read in
    let same = one-cut asked file proper.0 proper.1 (λ need. octets (needs-octets words asked read need)) text other
    ended different h g in
    elim (same-or-noted asked text other same.0.plain same.0.first same.0.second) [
      | inl text_is ↦ (same_answer.same text_is, same.1)
      | inr (inl noted) ↦ (same_answer.in_lines (asks-notes layout.Lines words asked read noted.0) noted.1, same.1)
      | inr (inr noted) ↦ (
        same_answer.in_objects (asks-notes layout.Json words asked read noted.0) noted.1.0 noted.1.1 noted.1.2,
        same.1,
      )
    ]
read-once words (Err fault) read file octets text other ended different h g =
    let same = one-fault fault text other ended different h g in
    (same_answer.same same.0, same.1)

no-other : (kinds : Kinds) → kinds ≡ [] → HasOther kinds → ⊥
no-other kinds none other = let among = subst (IsAmong other.0) none other.1 in among

-- words are read in one way, but where a call for help is answered
read-same : (words : List (List ℕ)) (read again : Result Asked Fault) → IsRead words read → IsRead words again
    → IsAmong DisplayHelp (fault_of scard words) ⊎ (again ≡ read)
read-same words read again (called_for_help parsed among help e) h = inl among
read-same words read again (taken are e) (called_for_help parsed among help f) = inl among
read-same words read again (not_taken parsed other e) (called_for_help parsed_too among help f) = inl among
read-same words read again (called_for_version version e) (called_for_version again_too f) = inr (f ∙ sym e)
read-same words read again (called_for_version version e) (taken are f) = absurd (cc (version, are.parsed))
read-same words read again (called_for_version version e) (called_for_help parsed among help f) =
    absurd (cc (version, parsed))
read-same words read again (called_for_version version e) (not_taken parsed other f) = absurd (cc (version, parsed))
read-same words read again (taken are e) (called_for_version version f) = absurd (cc (version, are.parsed))
read-same words read again (taken are e) (taken are_too f) = inr (f ∙ sym e)
read-same words read again (taken are e) (not_taken parsed other f) = absurd (no-other _ are.free other)
read-same words read again (not_taken parsed other e) (called_for_version version f) = absurd (cc (version, parsed))
read-same words read again (not_taken parsed other e) (taken are f) = absurd (no-other _ are.free other)
read-same words read again (not_taken parsed other e) (not_taken parsed_too another f) = inr (f ∙ sym e)

-- the same words and file, of octets where they are asked for, have one text and status, but for a call for help
pub one-text : (words : List (List ℕ)) (file : Result (List ℕ) Fault) (text other : Said) (ended different : Status)
    → (AskForOctets words → IfOk file AreOctets) → IsAnswer words file text ended → IsAnswer words file other different
    → IsAmong DisplayHelp (fault_of scard words) ⊎ (IsSameAnswer words text other × (ended ≡ different))
one-text words file text other ended different octets h g =
    elim (read-same words h.read g.read h.is_read g.is_read) [
      | inl help ↦ inl help
      | inr same ↦
          inr (read-once words h.read h.is_read file octets text other ended different h.is_answer
          (subst (λ (r : Result Asked Fault).
          MatchResult r (λ asked. IsAnswerAsked asked file other different)
          (λ fault. (other ≡ faulted fault) × (different ≡ status.Fault))) same g.is_answer))
    ]

-- an error of the parser of command lines is a call for help or not
help-or-not : (kind : ErrorKind) → (kind ≡ DisplayHelp) ⊎ (kind ≢ DisplayHelp)
help-or-not DisplayHelp = inl refl
help-or-not kind = inr (λ e. cc)

parsed-read : (words : List (List ℕ)) (kinds : Kinds) → asks_for_version words ≡ false → fault_of scard words ≡ kinds
    → (read : Result Asked Fault) × IsRead words read
parsed-read words [] parsed free =
    (asked_for words, taken (record { parsed = parsed; free = free }) refl)
parsed-read words (kind ∷ kinds) parsed is =
    elim (help-or-not kind) [
      | inl help ↦
          (Ok (Once (Help [])), called_for_help parsed (subst (IsAmong DisplayHelp) (sym is) (inl (sym help))) [] refl)
      | inr other ↦ (Err Words, not_taken parsed (kind, subst (IsAmong kind) (sym is) (inl refl), other) refl)
    ]

some-read : (words : List (List ℕ)) (asks : Bool) → asks_for_version words ≡ asks → (read : Result Asked Fault)
    × IsRead words read
some-read words true version = (Ok (Once Version), called_for_version version refl)
some-read words false parsed = parsed-read words (fault_of scard words) parsed refl

some-answer : (words : List (List ℕ)) (file : Result (List ℕ) Fault) → (AskForOctets words → IfOk file AreOctets)
    → (read : Result Asked Fault) → IsRead words read → (text : Said) × (ended : Status)
    × IsAnswer words file text ended
some-answer words file octets (Ok asked) read =
    let proper = read-proper words asked read in
    let told = some-asked asked file proper.0 proper.1 (λ need. octets (needs-octets words asked read need)) in
    (told.0, told.1, record { read = Ok asked; is_read = read; is_answer = told.2 })
some-answer words file octets (Err fault) read =
    (faulted fault, status.Fault, record { read = Err fault; is_read = read; is_answer = (refl, refl) })

-- and they have some
pub some-text : (words : List (List ℕ)) (file : Result (List ℕ) Fault) → (AskForOctets words → IfOk file AreOctets)
    → (text : Said) × (ended : Status) × IsAnswer words file text ended
some-text words file octets = let read = some-read words (asks_for_version words) refl in
    some-answer words file octets read.0 read.1

-- ---- files

-- reading gives the octets, but for memory, where they are known and no call fails
pub one-file : (b : List ℕ) (left : Option (List ℕ)) (before after : ℕ) (file : Result (List ℕ) Fault)
    → ReadsWhole (calls (Some b) left before after) file → after ≡ before → before < most_failures
    → (file ≡ Err Memory) ⊎ (file ≡ file_of b)
one-file b None before after (Ok file) h kept few = absurd h.from
one-file b (Some left) before after (Ok file) h kept few =
    let is : b ≡ file = h.from ∙ ap (λ (l : List ℕ). file ++ l) h.end ∙ append-nil file in
    inr (rw (is, le-leb (length file) largest_file h.fits) refl)
one-file b None before after (Err TooLarge) h kept few = absurd h.from
one-file b (Some left) before after (Err TooLarge) h kept few =
    let long : largest_file < length b = omega (arith, ap length h.from, length-append h.read left, h.many) in
    inr (grind (arith, nat_tests))
one-file b left before after (Err Read) h kept few = absurd (omega (arith, h.1, kept, few))
one-file b left before after (Err Memory) h kept few = inl refl
one-file b left before after (Err Words) h kept few = absurd h
one-file b left before after (Err Hex) h kept few = absurd h

-- and so does reading without a limit, where the octets aren't too many to count
pub one-trace : (b : List ℕ) (left : Option (List ℕ)) (before after : ℕ) (text : Result (List ℕ) Fault)
    → ReadsAll (calls (Some b) left before after) text → after ≡ before → before < most_failures
    → (text ≡ Err Memory) ⊎ ((text ≡ Ok b) ⊎ ((text ≡ Err TooLarge) × (most_pieces ≤ length b)))
one-trace b None before after (Ok text) h kept few = absurd h.from
one-trace b (Some left) before after (Ok text) h kept few =
    let is : b ≡ text = h.from ∙ ap (λ (l : List ℕ). text ++ l) h.end ∙ append-nil text in
    inr (inl (rw is refl))
one-trace b None before after (Err TooLarge) h kept few = absurd h.from
one-trace b (Some left) before after (Err TooLarge) h kept few =
    inr (inr (refl, omega (arith, ap length h.from, length-append h.read left, h.many)))
one-trace b left before after (Err Read) h kept few = absurd (omega (arith, h.1, kept, few))
one-trace b left before after (Err Memory) h kept few = inl refl
one-trace b left before after (Err Words) h kept few = absurd h
one-trace b left before after (Err Hex) h kept few = absurd h
