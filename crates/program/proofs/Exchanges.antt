-- That a file of recorded exchanges comes to one text.
use Rattle.std.proofs.Common.{◌≡◌, ◌⊎◌, ◌∙◌, inl, inr, ℕ, List, [], ◌∷◌, Bool, true, false, Option, Some, None, Result, Ok, Err, ap, codes, subst, sym, refl, if◌then◌else◌}
use Rattle.std.specs.Result.{MatchResult, result_unwrap_or}
use Rattle.std.specs.List.{slice_split}
use Rattle.std.specs.Str.{bytes_eq}
use Rattle.octet_core.specs.Octets.{AreOctets}
use Rattle.atr_core.proofs.Goes as atr_goes
use Rattle.atr_core.proofs.Unique.{one-accepted}
use Rattle.program_words.specs.declared.request.Ends.{Ends}
use Rattle.program_words.specs.declared.request.Ends.TheVariants as end
use Rattle.program_words.specs.declared.request.FileTask.{FileTask}
use Rattle.program_words.specs.declared.request.FileTask.TheVariants.{Replay, Migrate, Apdus, Draw}
use Rattle.layouts.specs.declared.layout.Layout.{Layout}
use Rattle.exchange_text.specs.Exchange.{ExchangeParts, migrated}
use Rattle.exchange_text.specs.Reading.{at, atr_by, atr_said, exchange_by, exchange_said, is_line_feed, lines_said, octets_said, parts_said, version_said, words_of}
use Rattle.exchange_core.specs.Replay as replay
use Rattle.exchange_text.specs.Text.{exchange_text}
use Rattle.exchange_text.specs.declared.exchange.Version.{Version}
use Rattle.exchange_text.specs.declared.fault.ExchangeFault.{ExchangeFault}
use Rattle.block_core.specs.declared.side.Side.{Side}
use Rattle.block_core.specs.declared.side.Side.TheVariants as side
use Rattle.exchange_core.proofs.Found.{one-replay, some-replay}
use Rattle.exchange_text.proofs.Sound.{bind, octets-sound, same-ok}
use Rattle.program.specs.ExchangeTexts.{agrees_in, both_in, differs_in, drawn, file_faulted, listed_in, AreReplayed, IsReplayed, IsReplayedAt, IsReplayAnswer, IsToldSo, TellsFile, agrees, differs}
use Rattle.program.specs.Laid.{laid}
use Rattle.program.specs.Lines.{worse}
use Rattle.program_octets.specs.declared.said.Said.TheVariants as saying
use Rattle.program_octets.specs.declared.status.Status.{Status}
use Rattle.program_octets.specs.declared.status.Status.TheVariants as status
use Rattle.program_octets.proofs.OneOf.{OneText, ended-by, plain}

-- ---- the answer to reset of a file is octets

cases : {A F : Type 0} (r : Result A F) → ((a : A) × (r ≡ Ok a)) ⊎ ((f : F) × (r ≡ Err f))
cases (Ok a) = inl (a, refl)
cases (Err f) = inr (f, refl)

chosen : {A F : Type 0} (b : Bool) (r : Result A F) (f : F) (a : A) → (if b then r else Err f) ≡ Ok a → r ≡ Ok a
chosen true r f a h = h
chosen false r f a h = cc h

words-octets : (words : List (List ℕ)) (atr : List ℕ) → atr_by words ≡ Ok atr → AreOctets atr
words-octets [] atr h = cc h
words-octets (word ∷ []) atr h = cc h
words-octets (word ∷ octets ∷ []) atr h =
    (octets-sound octets atr (chosen (bytes_eq word (codes "atr")) (octets_said octets) _ atr h)).1
words-octets (word ∷ octets ∷ more ∷ words) atr h = cc h

line-octets : (line atr : List ℕ) → at 2 (atr_said line) ≡ Ok atr → AreOctets atr
line-octets line atr h =
    elim (cases (atr_by (words_of line))) [
      | inl said ↦
          let same : said.0 ≡ atr = ap (λ (r : Result (List ℕ) ExchangeFault). result_unwrap_or r atr) (rw said.1 at h)
          in
          subst AreOctets same (words-octets (words_of line) said.0 said.1)
      | inr fault ↦ let bad = rw fault.1 at h in cc bad
    ]

parts-octets : (version : Version) (parts : List (List ℕ)) (e : ExchangeParts) → parts_said version parts ≡ Ok e
    → AreOctets e.atr
parts-octets version [] e h = cc h
parts-octets version (line ∷ []) e h = cc h
parts-octets version (line ∷ next ∷ parts) e h =
    let atr = bind (at 2 (atr_said line)) _ e h in
    let lines = bind (lines_said version 3 0 (next ∷ parts)) _ e atr.2 in
    let is = same-ok _ e _ refl lines.2 in
    subst (λ (x : ExchangeParts). AreOctets x.atr) is (line-octets line atr.0 atr.1)

text-octets : (parts : List (List ℕ)) (e : ExchangeParts) → exchange_by parts ≡ Ok e → AreOctets e.atr
text-octets [] e h = cc h
text-octets (header ∷ []) e h = cc h
text-octets (header ∷ next ∷ parts) e h =
    let version = bind (version_said header) _ e h in
    parts-octets version.0 (next ∷ parts) e version.2

-- ---- replay

abbrev here : ℕ → List ℕ → Option (ℕ × List ℕ)
here line gives = Some (line, gives)

abbrev nowhere : Option (ℕ × List ℕ)
nowhere = None

none-some : (line : ℕ) (gives : List ℕ) → nowhere ≡ here line gives → ⊥
none-some line gives h = cc h

abbrev place-of : Option (ℕ × List ℕ) → ℕ
place-of None = 0
place-of (Some difference) = difference.0

abbrev given-at : Option (ℕ × List ℕ) → List ℕ
given-at None = []
given-at (Some difference) = difference.1

same-here : (line place : ℕ) (gives given : List ℕ) → here line gives ≡ here place given → (line ≡ place)
    × (gives ≡ given)
same-here line place gives given e = (ap place-of e, ap given-at e)

module _ (how : Layout) (e : ExchangeParts) (which : Side) where
  one-replayed : (t u : List ℕ) (s q : Status) → IsReplayed how e which t s → IsReplayed how e which u q
      → (t ≡ u) × (s ≡ q)
  one-replayed t u s q (agrees r text ended) (agrees x other different) = (text ∙ sym other, ended ∙ sym different)
  one-replayed t u s q (agrees r text ended) (differs line gives x other different) =
      absurd (none-some line gives (one-replay one-accepted e.atr e.lines which _ _ r x))
  one-replayed t u s q (differs line gives r text ended) (agrees x other different) =
      absurd (none-some line gives (one-replay one-accepted e.atr e.lines which _ _ x r))
  one-replayed t u s q (differs line gives r text ended) (differs place given x other different) =
      let same = same-here line place gives given (one-replay one-accepted e.atr e.lines which _ _ r x) in (
        text ∙ ap (λ (n : ℕ). differs_in how n gives) same.0 ∙ ap (differs_in how place) same.1 ∙ sym other,
        ended
            ∙ sym different,
      )

  replayed-by : (difference : Option (ℕ × List ℕ)) → replay.Replays e.atr e.lines which difference → (t : List ℕ)
      × (s : Status) × IsReplayed how e which t s
  replayed-by None r = (agrees_in how e, status.Accepted, agrees r refl refl)
  replayed-by (Some (line, gives)) r = (differs_in how line gives, status.Refused, differs line gives r refl refl)

  some-replayed : AreOctets e.atr → (t : List ℕ) × (s : Status) × IsReplayed how e which t s
  some-replayed octets = let r = some-replay one-accepted e.atr e.lines which (atr_goes.one-verdict e.atr octets) in
      replayed-by r.0 r.1

  replayed-at : AreOctets e.atr → OneText (IsReplayed how e which)
  replayed-at octets = record { one = one-replayed; some = some-replayed octets }

module _ (how : Layout) (e : ExchangeParts) where
  one-both : (t u : List ℕ) (s q : Status) → AreReplayed how e t s → AreReplayed how e u q → (t ≡ u) × (s ≡ q)
  one-both t u s q h g =
      let terminal = one-replayed how e side.Terminal h.terminal g.terminal h.one g.one h.is_terminal g.is_terminal in
      let card = one-replayed how e side.Card h.card g.card h.other g.other h.is_card g.is_card in
      let ended : s ≡ q = h.is_ended ∙ ap (λ (w : Status). worse w h.other) terminal.1 ∙ ap (worse g.one) card.1
      ∙ sym g.is_ended in (
        h.is_text ∙ ap (λ (l : List ℕ). both_in how l h.card s) terminal.0
            ∙ ap (λ (l : List ℕ). both_in how g.terminal l s) card.0
            ∙ ap (both_in how g.terminal g.card) ended ∙ sym g.is_text,
        ended,
      )

  both-replayed : AreOctets e.atr → OneText (AreReplayed how e)
  both-replayed octets =
      let terminal = some-replayed how e side.Terminal octets in
      let card = some-replayed how e side.Card octets in
      record {
        one = one-both;
        some = (
          both_in how terminal.0 card.0 (worse terminal.1 card.1),
          worse terminal.1 card.1,
          record {
            terminal = terminal.0;
            one = terminal.1;
            card = card.0;
            other = card.1;
            is_terminal = terminal.2;
            is_card = card.2;
            is_text = refl;
            is_ended = refl;
          },
        );
      }

  at-once : (which : Ends) → AreOctets e.atr → OneText (IsReplayedAt which how e)
  at-once end.Terminal octets = replayed-at how e side.Terminal octets
  at-once end.Card octets = replayed-at how e side.Card octets
  at-once end.Both octets = both-replayed octets

  -- the answer is the one text laid out
  answer-once : (which : Ends) → OneText (IsReplayedAt which how e) → OneText (IsReplayAnswer which how e)
  answer-once which once = record {
    one = λ t u s q h g. let same = once.one h.text g.text s q h.is_text g.is_text in
        (h.is_said ∙ ap (laid how (codes "replay")) same.0 ∙ sym g.is_said, same.1);
    some = (
      laid how (codes "replay") once.some.0,
      once.some.1,
      record { text = once.some.0; is_text = once.some.2; is_said = refl },
    );
  }

-- ---- files

-- what is told of an exchange, or its text's fault
told-said : (task : FileTask) (said : Result ExchangeParts ExchangeFault)
    → ((e : ExchangeParts) → said ≡ Ok e → OneText (IsToldSo task e))
    → OneText (λ told ended. MatchResult said (λ e. IsToldSo task e told ended)
    (λ fault. (told ≡ file_faulted fault) × (ended ≡ status.Fault)))
told-said task (Ok e) once = once e refl
told-said task (Err fault) once = ended-by (file_faulted fault) status.Fault

-- an exchange is told by one text, where its answer to reset is octets
told-so : (task : FileTask) (e : ExchangeParts) → AreOctets e.atr → OneText (IsToldSo task e)
told-so (Replay which how) e octets = answer-once how e which (at-once how e which octets)
told-so Migrate e octets = plain (saying.Text (exchange_text (migrated e)))
told-so (Apdus how) e octets = plain (laid how (codes "apdus") (listed_in how e.lines))
told-so (Draw drawing) e octets = plain (saying.Text (drawn drawing e))

-- a file comes to one text with one status
pub file-once : (task : FileTask) (file : List ℕ) → OneText (TellsFile task file)
file-once task file = told-said task (exchange_said file)
    (λ e is. told-so task e (text-octets (slice_split is_line_feed file) e is))
