-- That what is asked for has one answer.
use Rattle.std.proofs.Common.{◌≡◌, ◌∙◌, ◌++◌, ℕ, List, [], ◌∷◌, Bool, true, false, if◌then◌else◌, nat_le, Result, Ok, Err, IfOk, ap, append-nil, append_assoc, codes, length, subst, sym, refl}
use Rattle.octet_core.specs.Octets.{AreOctets}
use Rattle.octet_core.specs.Sizes.{IsFieldSize}
use Rattle.program.specs.ExchangeTexts.{TellsFile}
use Rattle.program.specs.RecordTexts.{Records}
use Rattle.program_octets.proofs.OneOf.{OneText, ended-by, plain}
use Rattle.program.proofs.Exchanges.{file-once}
use Rattle.program.proofs.Records.{recorded-once}
use Rattle.program.specs.JudgeTexts.{JudgesTrace}
use Rattle.program.proofs.Judgments.{judged-once}
use Rattle.program.proofs.Simulations.{simulated-once, lines-once}
use Rattle.program.specs.SimulationTexts.{SimulatesLines}
use Rattle.program.specs.Answers.{answer_text, in_objects, line_text, no_object, object_as, objects_noted, objects_plain, plain_aim, plain_asked, plain_request, plain_task, AreAlike, AreLinesAnswered, AreLinesTold, IsAnswerAsked, IsAnswerTo, IsLineTold, IsPlain, IsTold, IsToldOf, IsWithout, Tells}
use Rattle.program_octets.specs.Json.{with_notes}
use Rattle.program_octets.specs.Rows.{notes_of}
use Rattle.program_octets.specs.Verdicts.{kind_name, Tidies}
use Rattle.program.proofs.Annotating.{some-noted, some-object}
use Rattle.notes.proofs.Cutting.{cut-apart}
use Rattle.notes.specs.Noted.{without_notes}
use Rattle.program_octets.specs.Sayings.{faulted, object_of, text_of}
use Rattle.program_octets.specs.declared.said.Said.{Said}
use Rattle.program_octets.specs.declared.said.Said.TheVariants as saying
use Rattle.program_words.specs.declared.fault.Fault.{Fault}
use Rattle.program_octets.proofs.OneVerdict.{checked, shown, tidied, filled-once}
use Rattle.chain_core.specs.Chain.{chain_blocks}
use Rattle.chain_core.specs.Cut.{cut_of}
use Rattle.program_octets.specs.ChainTexts.{blocks_text}
use Rattle.program_words.specs.Given.{octets_given}
use Rattle.program_words.specs.Loose.{loose_octets}
use Rattle.program_words.specs.declared.fault.Fault.TheVariants.{Words, Hex, Memory, Read, TooLarge}
use Rattle.program_words.specs.declared.given.Form.TheVariants as form
use Rattle.program_words.specs.declared.given.OctetSource.TheVariants as given
use Rattle.program.specs.Files.{largest_file}
use Rattle.program.specs.Lines.{all_lines, line_octets, worse, AreTold}
use Rattle.program_words.specs.Words.{AreSized, HasOctets, HaveOctets, IsOnce, IsSized, NeedsOctets}
use Rattle.program_words.proofs.Givens.{octets-given}
use Rattle.layouts.specs.Version.{version_line}
use Rattle.program_words.specs.declared.request.Aim.{Aim}
use Rattle.program_words.specs.declared.request.Aim.TheVariants.{Check, Show, Note}
use Rattle.layouts.specs.declared.layout.Layout.{Layout}
use Rattle.layouts.specs.declared.layout.Layout.TheVariants as layout
use Rattle.program_words.specs.declared.request.Asked.{Asked}
use Rattle.program_words.specs.declared.request.Asked.TheVariants.{Once, Lines}
use Rattle.program_words.specs.declared.request.Expected.{Expected}
use Rattle.program_words.specs.declared.request.Request.{Request}
use Rattle.program_words.specs.declared.request.Request.TheVariants.{BuildChain, BuildTidy, BuildFill, Tell, File, Record, Judge, Simulate, SimulateLines, Help, Version}
use Rattle.program_words.specs.declared.request.Task.{Task}
use Rattle.program_octets.specs.declared.status.Status.{Status}
use Rattle.program_octets.specs.declared.status.Status.TheVariants as status

-- ---- requests

-- what a line gives are octets
line-octets : (line : List ℕ) → IfOk (line_octets line) AreOctets
line-octets line = go (nat_le (length line) largest_file)
  where
    go : (t : Bool) → IfOk (if t then loose_octets line else Err TooLarge) AreOctets
    go true = octets-given (given.Read form.Hex) (Ok line) tt (λ none. absurd none)
    go false = tt

-- what octets come to, where any come to one text
told-octets : (Told : List ℕ → Said → Status → Type 0) → ((b : List ℕ) → AreOctets b → OneText (Told b))
    → (r : Result (List ℕ) Fault) → IfOk r AreOctets → OneText (IsToldOf Told r)
told-octets Told once (Ok b) octets = once b octets
told-octets Told once (Err fault) octets = ended-by (faulted fault) status.Fault

-- what a file comes to, where each file comes to one text
told-of : (Told : List ℕ → Said → Status → Type 0) → ((octets : List ℕ) → OneText (Told octets))
    → (file : Result (List ℕ) Fault) → OneText (IsToldOf Told file)
told-of Told once (Ok octets) = once octets
told-of Told once (Err fault) = ended-by (faulted fault) status.Fault

-- what is told of octets without notes
tells-once : (aim : Aim) (how : Layout) (expected : Expected) → IsFieldSize expected.ifs → (b : List ℕ) → AreOctets b
    → OneText (Tells (plain_aim aim) how expected b)
tells-once Check how expected size b = checked how expected.kind expected b size
tells-once Show how expected size b = shown how expected.kind expected b size
tells-once Note how expected size b = shown how expected.kind expected b size

-- a line's text without notes
line-once : (task : Task) → IsFieldSize task.expected.ifs → (line : List ℕ)
    → OneText (IsLineTold (plain_task task) line)
line-once task size line =
    let told = told-octets (IsTold (plain_task task)) (tells-once task.aim task.layout task.expected size)
    (line_octets line) (line-octets line)
    in
    record {
      one = λ t u s q h g.
          let same = told.one h.told g.told s q h.is_told g.is_told in (
            h.is_text ∙ ap (answer_text (plain_task task)) same.0 ∙ sym g.is_text,
            same.1,
          );
      some = (
        answer_text (plain_task task) told.some.0,
        told.some.1,
        record { told = told.some.0; is_told = told.some.2; is_text = refl },
      );
    }

module _ (Line : List ℕ → List ℕ → Status → Type 0) (once : (line : List ℕ) → OneText (Line line)) where
  one-told-each : (lines : List (List ℕ)) (t u : List ℕ) (s q : Status) → AreTold Line lines t s
      → AreTold Line lines u q → (t ≡ u) × (s ≡ q)
  one-told-each [] t u s q h g = (h.0 ∙ sym g.0, h.1 ∙ sym g.1)
  one-told-each (line ∷ lines) t u s q h g =
      let first = (once line).one h.first g.first h.one g.one h.is_first g.is_first in
      let more = one-told-each lines h.more g.more h.others g.others h.is_more g.is_more in
      let text : h.first ++ h.more ≡ g.first ++ g.more =
      ap (λ (l : List ℕ). l ++ h.more) first.0 ∙ ap (λ (l : List ℕ). g.first ++ l) more.0 in
      let ended : worse h.one h.others ≡ worse g.one g.others =
      ap (λ (e : Status). worse e h.others) first.1 ∙ ap (λ (e : Status). worse g.one e) more.1 in
      (h.is_text ∙ text ∙ sym g.is_text, h.is_ended ∙ ended ∙ sym g.is_ended)

  some-told-each : (lines : List (List ℕ)) → (t : List ℕ) × (s : Status) × AreTold Line lines t s
  some-told-each [] = ([], status.Accepted, (refl, refl))
  some-told-each (line ∷ lines) =
      let first = (once line).some in
      let more = some-told-each lines in (
        first.0 ++ more.0,
        worse first.1 more.1,
        record {
          first = first.0;
          one = first.1;
          more = more.0;
          others = more.1;
          is_first = first.2;
          is_more =
              more.2;
          is_text = refl;
          is_ended = refl;
        },
      )

  told-each-once : (lines : List (List ℕ)) → OneText (AreTold Line lines)
  told-each-once lines = record { one = one-told-each lines; some = some-told-each lines }

-- A request has one text with one status without notes, where its size is one and what it has and reads for octets are
-- octets.
one-answer : (request : Request) (file : Result (List ℕ) Fault) → IsSized request → HasOctets request
    → (NeedsOctets request → IfOk file AreOctets) → OneText (IsAnswerTo (plain_request request) file)
one-answer (Tell task given) file sized octets as_read =
    told-octets (IsTold (plain_task task)) (tells-once task.aim task.layout task.expected sized)
    (octets_given given file)
    (octets-given given file octets as_read)
one-answer (BuildChain ifs number message) file sized octets as_read =
    plain (saying.Text (blocks_text (chain_blocks number (cut_of ifs message))))
one-answer (BuildTidy given) file sized octets as_read =
    told-octets Tidies tidied (octets_given given file) (octets-given given file octets as_read)
one-answer (BuildFill list known) file sized octets as_read = filled-once list known octets
one-answer (File task) file sized octets as_read = told-of (TellsFile task) (file-once task) file
one-answer (Record atr) file sized octets as_read = told-of (Records atr) (recorded-once atr octets) file
one-answer (Judge atr judging) file sized octets as_read =
    told-of (JudgesTrace atr judging) (judged-once atr octets judging) file
one-answer (Simulate session) file sized octets as_read = simulated-once session octets.0
one-answer (SimulateLines session) file sized octets as_read =
    told-of (SimulatesLines session) (lines-once session octets.0) file
one-answer (Help help) file sized octets as_read = plain (saying.Text help)
one-answer Version file sized octets as_read = plain (saying.Text version_line)

-- lines that come to one text are answered by it
lines-answered : (task : Task) (lines : List (List ℕ)) → OneText (AreLinesTold (plain_task task) lines)
    → OneText (AreLinesAnswered (plain_task task) lines)
lines-answered task lines once = record {
  one = λ t u s q h g.
      let same = once.one h.0 g.0 s q h.2 g.2 in (h.1 ∙ ap saying.Text same.0 ∙ sym g.1, same.1);
  some = (saying.Text once.some.0, once.some.1, (once.some.0, refl, once.some.2));
}

-- the same of what is asked for
one-asked : (asked : Asked) (file : Result (List ℕ) Fault) → AreSized asked → HaveOctets asked
    → (IsOnce NeedsOctets asked → IfOk file AreOctets) → OneText (IsAnswerAsked (plain_asked asked) file)
one-asked (Once request) file sized octets as_read = one-answer request file sized octets as_read
one-asked (Lines task) file sized octets as_read =
    told-of (λ b. AreLinesAnswered (plain_task task) (all_lines b))
    (λ b. lines-answered task (all_lines b)
    (told-each-once (IsLineTold (plain_task task)) (line-once task sized) (all_lines b))) file

-- ---- with notes

-- what is told without notes is told with them too
noted-too : (aim : Aim) (how : Layout) (expected : Expected) (b : List ℕ) (text : Said) (ended : Status)
    → Tells (plain_aim aim) how expected b text ended → (t : Said) × Tells aim how expected b t ended
noted-too Check how expected b text ended h = (text, h)
noted-too Show how expected b text ended h = (text, h)
noted-too Note layout.Lines expected b text ended h = some-noted expected b text ended h
noted-too Note layout.Json expected b text ended h = some-object expected b text ended h

told-too : (task : Task) (r : Result (List ℕ) Fault) (text : Said) (ended : Status)
    → IsToldOf (IsTold (plain_task task)) r text ended → (t : Said) × IsToldOf (IsTold task) r t ended
told-too task (Ok b) text ended h = noted-too task.aim task.layout task.expected b text ended h
told-too task (Err fault) text ended h = (text, h)

line-too : (task : Task) (line text : List ℕ) (ended : Status) → IsLineTold (plain_task task) line text ended
    → (t : List ℕ) × IsLineTold task line t ended
line-too task line text ended h =
    let told = told-too task (line_octets line) h.told ended h.is_told in
    (answer_text task told.0, record { told = told.0; is_told = told.1; is_text = refl })

lines-too : (task : Task) (lines : List (List ℕ)) (text : List ℕ) (ended : Status)
    → AreLinesTold (plain_task task) lines text ended → (t : List ℕ) × AreLinesTold task lines t ended
lines-too task [] text ended h = (text, h)
lines-too task (line ∷ lines) text ended h =
    let first = line-too task line h.first h.one h.is_first in
    let more = lines-too task lines h.more h.others h.is_more in (
      first.0 ++ more.0,
      record {
        first = first.0;
        one = h.one;
        more = more.0;
        others = h.others;
        is_first = first.1;
        is_more = more.1;
        is_text = refl;
        is_ended = h.is_ended;
      },
    )

asked-too : (asked : Asked) (file : Result (List ℕ) Fault) (text : Said) (ended : Status)
    → IsAnswerAsked (plain_asked asked) file text ended → (t : Said) × IsAnswerAsked asked file t ended
asked-too (Once (Tell task given)) file text ended h = told-too task (octets_given given file) text ended h
asked-too (Once (BuildChain ifs number message)) file text ended h = (text, h)
asked-too (Once (BuildTidy given)) file text ended h = (text, h)
asked-too (Once (BuildFill list known)) file text ended h = (text, h)
asked-too (Once (File task)) file text ended h = (text, h)
asked-too (Once (Record atr)) file text ended h = (text, h)
asked-too (Once (Judge atr judging)) file text ended h = (text, h)
asked-too (Once (Simulate session)) file text ended h = (text, h)
asked-too (Once (SimulateLines session)) file text ended h = (text, h)
asked-too (Once (Help help)) file text ended h = (text, h)
asked-too (Once Version) file text ended h = (text, h)
asked-too (Lines task) (Ok b) text ended h =
    let told = lines-too task (all_lines b) h.0 ended h.2 in (saying.Text told.0, (told.0, refl, told.1))
asked-too (Lines task) (Err fault) text ended h = (text, h)

-- ---- without the notes

-- a text of objects with notes in a row, and the one without them
record Objects (text plain : List ℕ) : Type 0 where
  objects : List (List ℕ × List ℕ)
  noted : text ≡ objects_noted objects
  without : plain ≡ objects_plain objects

-- the texts of lines in a row, and the ones without notes
abbrev Cut : Aim → Layout → List ℕ → List ℕ → Type 0
Cut Check how text plain = plain ≡ text
Cut Show how text plain = plain ≡ text
Cut Note layout.Lines text plain = plain ≡ without_notes text
Cut Note layout.Json text plain = Objects text plain

cut-whole : (aim : Aim) (how : Layout) (text plain : List ℕ) → Cut aim how text plain
    → IsWithout aim how (saying.Text text) (saying.Text plain)
cut-whole Check how text plain h = ap saying.Text h
cut-whole Show how text plain h = ap saying.Text h
cut-whole Note layout.Lines text plain h = h
cut-whole Note layout.Json text plain h = in_objects h.objects h.noted h.without

cut-nothing : (aim : Aim) (how : Layout) → Cut aim how [] []
cut-nothing Check how = refl
cut-nothing Show how = refl
cut-nothing Note layout.Lines = refl
cut-nothing Note layout.Json = record { objects = []; noted = refl; without = refl }

-- what is told of octets with notes, and the same without them
cut-told : (aim : Aim) (how : Layout) (expected : Expected) (b : List ℕ) (said : Said) (ended : Status)
    → Tells aim how expected b said ended → (plain : Said) × Tells (plain_aim aim) how expected b plain ended
    × IsWithout aim how said plain
cut-told Check how expected b said ended h = (said, h, refl)
cut-told Show how expected b said ended h = (said, h, refl)
cut-told Note layout.Lines expected b said ended h =
    (h.plain, h.is_shown, sym h.is_cut ∙ ap without_notes (sym (ap text_of h.is_text)))
cut-told Note layout.Json expected b said ended h = (
  saying.Object h.object,
  h.is_shown,
  in_objects ((h.object, notes_of h.rows) ∷ [])
      (ap text_of h.is_said ∙ sym (append-nil (with_notes h.object (notes_of h.rows))))
      (sym (append-nil h.object)),
)

-- no line of a fault has a note
no-notes : (fault : Fault) → text_of (faulted fault) ≡ without_notes (text_of (faulted fault))
no-notes Words = refl
no-notes Hex = refl
no-notes Memory = refl
no-notes Read = refl
no-notes TooLarge = refl

cut-fault : (aim : Aim) (how : Layout) (fault : Fault) (said : Said) → said ≡ faulted fault
    → IsWithout aim how said (faulted fault)
cut-fault Check how fault said is = sym is
cut-fault Show how fault said is = sym is
cut-fault Note layout.Lines fault said is = no-notes fault ∙ ap without_notes (sym (ap text_of is))
cut-fault Note layout.Json fault said is = no_object (ap text_of is)

cut-octets : (task : Task) (r : Result (List ℕ) Fault) (said : Said) (ended : Status)
    → IsToldOf (IsTold task) r said ended → (plain : Said) × IsToldOf (IsTold (plain_task task)) r plain ended
    × IsWithout task.aim task.layout said plain
cut-octets task (Ok b) said ended h = cut-told task.aim task.layout task.expected b said ended h
cut-octets task (Err fault) said ended h =
    (faulted fault, (refl, h.1), cut-fault task.aim task.layout fault said h.0)

-- what comes after the lines of an answer and an empty one is cut apart from them
cut-row : (told plain more rest : List ℕ) → plain ≡ without_notes told → rest ≡ without_notes more
    → (plain ++ codes "\n") ++ rest ≡ without_notes ((told ++ codes "\n") ++ more)
cut-row told plain more rest is others =
    rw (is, others) (sym (ap without_notes (append_assoc told (codes "\n") more) ∙ cut-apart false told more
    ∙ sym (append_assoc (without_notes told) (codes "\n") (without_notes more))))

object-first : (object noted told plain more rest : List ℕ) → told ≡ with_notes object noted → plain ≡ object
    → Objects more rest → Objects (told ++ more) (plain ++ rest)
object-first object noted told plain more rest is same others = record {
  objects = (object, noted) ∷ others.objects;
  noted = rw is (ap (λ (l : List ℕ). with_notes object noted ++ l) others.noted);
  without = rw same (ap (λ (l : List ℕ). object ++ l) others.without);
}

-- an answer to a line that is told with notes, and the one without them, before those of more lines
cut-line : (aim : Aim) (how : Layout) (expected : Expected) (r : Result (List ℕ) Fault) (told : Said)
    (ended : Status) → IsToldOf (Tells aim how expected) r told ended → (plain : Said)
    × IsToldOf (Tells (plain_aim aim) how expected) r plain ended
    × ((more rest : List ℕ) → Cut aim how more rest
    → Cut aim how (line_text aim how expected.kind told ++ more)
    (line_text (plain_aim aim) how expected.kind plain ++ rest))
cut-line Check how expected r told ended h =
    (told, h, λ more rest c. ap (λ (l : List ℕ). line_text Check how expected.kind told ++ l) c)
cut-line Show how expected r told ended h =
    (told, h, λ more rest c. ap (λ (l : List ℕ). line_text Show how expected.kind told ++ l) c)
cut-line Note layout.Lines expected (Ok b) told ended h = (
  h.plain,
  h.is_shown,
  λ more rest c. cut-row (text_of told) (text_of h.plain) more rest
      (sym h.is_cut ∙ ap without_notes (sym (ap text_of h.is_text))) c,
)
cut-line Note layout.Lines expected (Err fault) told ended h = (
  faulted fault,
  (refl, h.1),
  λ more rest c. cut-row (text_of told) (text_of (faulted fault)) more rest
      (no-notes fault ∙ ap without_notes (sym (ap text_of h.0))) c,
)
cut-line Note layout.Json expected (Ok b) told ended h = (
  saying.Object h.object,
  h.is_shown,
  λ more rest c. object-first h.object (notes_of h.rows) _ _ more rest
      (ap (object_as (kind_name expected.kind) true) h.is_said) refl c,
)
cut-line Note layout.Json expected (Err fault) told ended h = (
  faulted fault,
  (refl, h.1),
  λ more rest c. object-first (object_of (kind_name expected.kind) (faulted fault)) [] _ _ more rest
      (ap (object_as (kind_name expected.kind) true) h.0) refl c,
)

cut-lines : (task : Task) (lines : List (List ℕ)) (text : List ℕ) (ended : Status)
    → AreLinesTold task lines text ended → (plain : List ℕ) × AreLinesTold (plain_task task) lines plain ended
    × Cut task.aim task.layout text plain
cut-lines task [] text ended h = (
  [],
  (refl, h.1),
  subst (λ (t : List ℕ). Cut task.aim task.layout t []) (sym h.0) (cut-nothing task.aim task.layout),
)
cut-lines task (line ∷ lines) text ended h =
    let said = h.is_first in
    let one =
    cut-line task.aim task.layout task.expected (line_octets line) said.told h.one said.is_told in
    let more = cut-lines task lines h.more h.others h.is_more in
    let first : List ℕ = answer_text (plain_task task) one.0 in (
      first ++ more.0,
      record {
        first = first;
        one = h.one;
        more = more.0;
        others = h.others;
        is_first = record { told = one.0; is_told = one.1; is_text = refl };
        is_more = more.1;
        is_text = refl;
        is_ended = h.is_ended;
      },
      subst (λ (t : List ℕ). Cut task.aim task.layout t (first ++ more.0))
          (sym (h.is_text ∙ ap (λ (l : List ℕ). l ++ h.more) said.is_text)) (one.2 h.more more.0 more.2),
    )

-- what is told with notes is told without them too
pub notes-cut : (asked : Asked) (file : Result (List ℕ) Fault) (said : Said) (ended : Status)
    → IsAnswerAsked asked file said ended → (plain : Said) × IsAnswerAsked (plain_asked asked) file plain ended
    × IsPlain asked said plain
notes-cut (Once (Tell task given)) file said ended h = cut-octets task (octets_given given file) said ended h
notes-cut (Once (BuildChain ifs number message)) file said ended h = (said, h, refl)
notes-cut (Once (BuildTidy given)) file said ended h = (said, h, refl)
notes-cut (Once (BuildFill list known)) file said ended h = (said, h, refl)
notes-cut (Once (File task)) file said ended h = (said, h, refl)
notes-cut (Once (Record atr)) file said ended h = (said, h, refl)
notes-cut (Once (Judge atr judging)) file said ended h = (said, h, refl)
notes-cut (Once (Simulate session)) file said ended h = (said, h, refl)
notes-cut (Once (SimulateLines session)) file said ended h = (said, h, refl)
notes-cut (Once (Help help)) file said ended h = (said, h, refl)
notes-cut (Once Version) file said ended h = (said, h, refl)
notes-cut (Lines task) (Ok b) said ended h =
    let cut = cut-lines task (all_lines b) h.0 ended h.2 in (
      saying.Text cut.0,
      (cut.0, refl, cut.1),
      subst (λ (s : Said). IsWithout task.aim task.layout s (saying.Text cut.0)) (sym h.1)
          (cut-whole task.aim task.layout h.0 cut.0 cut.2),
    )
notes-cut (Lines task) (Err fault) said ended h =
    (faulted fault, (refl, h.1), cut-fault task.aim task.layout fault said h.0)

-- ---- both

-- what is asked for has one text without its notes, and one status
pub one-cut : (asked : Asked) (file : Result (List ℕ) Fault) → AreSized asked → HaveOctets asked
    → (IsOnce NeedsOctets asked → IfOk file AreOctets) → (t u : Said) (s q : Status) → IsAnswerAsked asked file t s
    → IsAnswerAsked asked file u q → AreAlike asked t u × (s ≡ q)
one-cut asked file sized octets as_read t u s q h g =
    let first = notes-cut asked file t s h in
    let second = notes-cut asked file u q g in
    let same = (one-asked asked file sized octets as_read).one first.0 second.0 s q first.1 second.1 in (
      record {
        plain = first.0;
        first = first.2;
        second = subst (λ (l : Said). IsPlain asked u l) (sym same.0) second.2;
      },
      same.1,
    )

pub some-asked : (asked : Asked) (file : Result (List ℕ) Fault) → AreSized asked → HaveOctets asked
    → (IsOnce NeedsOctets asked → IfOk file AreOctets) → (t : Said) × (s : Status) × IsAnswerAsked asked file t s
some-asked asked file sized octets as_read =
    let plain = (one-asked asked file sized octets as_read).some in
    let noted = asked-too asked file plain.0 plain.1 plain.2 in
    (noted.0, plain.1, noted.1)
