-- A conversation about lines, over a reader and a writer, writes what is right.
use Rattle.std.proofs.Common.{◌≡◌, ◌∙◌, inl, inr, ◌+◌, ◌++◌, ◌∷◌, [], ℕ, List, Option, None, Some, ap, append-nil, append_assoc, arith, length, refl, subst, sym, take}
use Rattle.std.proofs.lemmas.List.{length-append}
use Rattle.std.proofs.Math.Seq.{take-append-add}
use Rattle.std.specs.Io.KnownBytes.{Appends, Consumes, IsAtEnd}
use Rattle.octet_core.specs.Failures.{HasFailed, next_count}
use Rattle.program_words.specs.Texts.{fault_text}
use Rattle.program_words.specs.declared.fault.Fault.TheVariants.{Memory, Read, TooLarge}
use Rattle.program.specs.Calls.{calls}
use Rattle.program.specs.declared.line_task.LineTask.{LineTask}
use Rattle.program_octets.specs.declared.status.Status.{Status}
use Rattle.program_octets.specs.declared.status.Status.TheVariants as status
use Rattle.program.specs.Answers.{IsWritten, all}
use Rattle.program.specs.Conversations.{Event, HaveMoved, Wire, heard, told, unheard, untold}
use Rattle.program.specs.Lines.{all_lines, last_line, rest_after}
use Rattle.program.specs.LineAnswers.{AnswersLines, AreTelling, Closes, IsRest, TellsLines, WritesLines, all_told, answered, endless, failed, first_told, out_of_memory, over, stopped, uncounted, unread, unwritten, wanting, whole}
use Rattle.program.proofs.ByLine.{Appends-then, stopped-first, written-all}
use Rattle.program.proofs.Conversing.{has-failed}
use Rattle.program.proofs.Inputs.{Consumes-none, Consumes-then}

-- where nothing is written the writer has what it had
appends-none : (a : Option (List ℕ)) → Appends a a []
appends-none None = tt
appends-none (Some a) = sym (append-nil a)

-- ---- one text

-- a text is written, and nothing is read
record HasTold (text : List ℕ) (right : Status) (old now : Wire) (ended : Status) : Type 0 where
  left : now.left ≡ old.left
  not_read : now.not_read ≡ old.not_read
  is_written : IsWritten text right (calls old.written now.written old.not_written now.not_written) ended

-- events that tell it do so
has-told : (events : List Event) (text : List ℕ) (right : Status) (old now : Wire) (ended : Status)
    → AreTelling text right events ended → HaveMoved old events now → HasTold text right old now ended
has-told [] text right old now ended tells moved = subst (λ (w : Wire). HasTold text right old w ended) moved (record {
  left = refl;
  not_read = refl;
  is_written = rw (tells.0, tells.1) (all (appends-none old.written) refl refl);
})
has-told (told part ∷ events) text right old now ended tells moved =
    let later = has-told events tells.0 right moved.0 now ended tells.2 moved.2 in
    record {
      left = later.left ∙ moved.1.0;
      not_read = later.not_read ∙ moved.1.1;
      is_written = rw tells.1 (written-all part tells.0 right old.written moved.0.written now.written old.not_written
          moved.0.not_written now.not_written ended moved.1.2 moved.1.3 later.is_written);
    }
has-told (untold part count ∷ events) text right old now ended tells moved =
    let same : moved.0 ≡ now = subst (λ (l : List Event). HaveMoved moved.0 l now) tells.0 moved.2 in
    subst (λ (w : Wire). HasTold text right old w ended) same (record {
      left = moved.1.0;
      not_read = moved.1.1;
      is_written = rw (tells.1.1, tells.2)
          (stopped-first part tells.1.0 right old.written moved.0.written old.not_written moved.0.not_written count
          moved.1.2 moved.1.3 (has-failed old.not_written moved.0.not_written moved.1.4));
    })
has-told (heard octets ∷ events) text right old now ended tells moved = absurd tells
has-told (unheard ∷ events) text right old now ended tells moved = absurd tells

-- ---- all events

module _ (line_task : LineTask) (held : Option (List ℕ)) (before : ℕ) (old : Option (List ℕ)) (unwritten_before : ℕ)
  where
    -- so much was read and written
    pub record HasCome (read written : List ℕ) (now : Wire) : Type 0 where
      pub from : Consumes held now.left read
      pub none_failed : now.not_read ≡ before
      pub put : Appends old now.written written
      pub none_unwritten : now.not_written ≡ unwritten_before

    -- the lines are told, and the program ends so
    abbrev pub AreWritten : Wire → Status → Type 0
    AreWritten now ended =
        WritesLines line_task (calls held now.left before now.not_read)
        (calls old now.written unwritten_before now.not_written) ended

    module _ (read written : List ℕ) (first : Wire) (h : HasCome read written first) where
      -- the rest is written
      rest-written : (next now : Wire) (rest : List ℕ) (right ended : Status) → next.written ≡ first.written
          → next.not_written ≡ first.not_written → HasTold rest right next now ended
          → IsWritten (written ++ rest) right (calls old now.written unwritten_before now.not_written) ended
      rest-written next now rest right ended same none tells =
          written-all written rest right old next.written now.written
          unwritten_before next.not_written now.not_written ended (rw same h.put) (none ∙ h.none_unwritten)
          tells.is_written

      rest-told : (left : Option (List ℕ)) (count : ℕ) (rest : List ℕ) (right : Status) → Consumes held left read
          → IsAtEnd left → count ≡ before → IsRest line_task (all_lines read) written rest right
          → TellsLines line_task (calls held left before count) (written ++ rest) right
      rest-told left count rest right p end same (all_told says) = whole read p end same says
      rest-told left count rest right p end same (first_told more begun is fault) =
          wanting read (written ++ more) begun.so_far begun.done begun.more p same begun.is_front begun.is_told
          (ap (λ (l : List ℕ). written ++ l) is ∙ sym (append_assoc written more (fault_text Memory))) fault

      -- and nothing was read after that
      still-told : (left now : Option (List ℕ)) (count after : ℕ) (text : List ℕ) (right : Status) → now ≡ left
          → after ≡ count → TellsLines line_task (calls held left before count) text right
          → TellsLines line_task (calls held now before after) text right
      still-told left now count after text right is same says = rw (is, same) says

      -- nothing more was read
      all-read : (left : Option (List ℕ)) → Consumes first.left left [] → Consumes held left read
      all-read left p = subst (Consumes held left) (append-nil read)
          (Consumes-then held first.left left read [] h.from p)

      closed : (events : List Event) (now : Wire) (ended : Status) → Closes line_task read written events ended
          → HaveMoved first events now → AreWritten now ended
      closed events now ended (over more text right is up rest tells) moved =
          let goes = subst (λ (l : List Event). HaveMoved first l now) is moved in
          let next = goes.0 in
          let says = has-told more text right next now ended tells goes.2 in
          answered (record {
            text = written ++ text;
            right = right;
            is_right = still-told next.left now.left next.not_read now.not_read (written ++ text) right says.left
                says.not_read
                (rest-told next.left next.not_read text right (all-read next.left goes.1.0) (goes.1.1 refl)
                (goes.1.2 ∙ h.none_failed) rest);
            is_written = rest-written next now text right ended goes.1.3 goes.1.4 says;
          })
      closed events now ended (unread more is up tells) moved =
          let goes = subst (λ (l : List Event). HaveMoved first l now) is moved in
          let next = goes.0 in
          let says = has-told more (fault_text Read) status.Fault next now ended tells goes.2 in
          answered (record {
            text = written ++ fault_text Read;
            right = status.Fault;
            is_right = still-told next.left now.left next.not_read now.not_read (written ++ fault_text Read)
                status.Fault
                says.left says.not_read
                (failed read written up.0 (all-read next.left goes.1.0) (goes.1.1 ∙ ap next_count h.none_failed) up.1
                refl
                refl);
            is_written = rest-written next now (fault_text Read) status.Fault ended goes.1.2 goes.1.3 says;
          })
      closed events now ended (out_of_memory text begun tells) moved =
          let says = has-told events (text ++ fault_text Memory) status.Fault first now ended tells moved in
          answered (record {
            text = written ++ (text ++ fault_text Memory);
            right = status.Fault;
            is_right = still-told first.left now.left first.not_read now.not_read
                (written ++ (text ++ fault_text Memory))
                status.Fault says.left says.not_read
                (wanting read (written ++ text) begun.so_far begun.done (begun.more ++ last_line (rest_after [] read))
                h.from
                h.none_failed
                (ap (λ (l : List (List ℕ)). l ++ last_line (rest_after [] read)) begun.is_front
                ∙ append_assoc begun.done begun.more (last_line (rest_after [] read))) begun.is_told
                (sym (append_assoc written text (fault_text Memory))) refl);
            is_written = rest-written first now (text ++ fault_text Memory) status.Fault ended refl refl says;
          })
      closed events now ended (uncounted text most up tells) moved =
          let says = has-told events (text ++ fault_text TooLarge) status.Fault first now ended tells moved in
          answered (record {
            text = written ++ (text ++ fault_text TooLarge);
            right = status.Fault;
            is_right = still-told first.left now.left first.not_read now.not_read
                (written ++ (text ++ fault_text TooLarge))
                status.Fault says.left says.not_read
                (endless read (written ++ text) up.0 h.from h.none_failed most up.1
                (sym (append_assoc written text (fault_text TooLarge))) refl);
            is_written = rest-written first now (text ++ fault_text TooLarge) status.Fault ended refl refl says;
          })
      closed events now ended (unwritten text count is up fault) moved =
          let goes = subst (λ (l : List Event). HaveMoved first l now) is moved in
          let next = goes.0 in
          rw fault (subst (λ (w : Wire). AreWritten w status.Fault) goes.2
          (stopped read (written ++ text) up.0 (rw goes.1.0 h.from) (goes.1.1 ∙ h.none_failed) up.1
          (length written + count) (omega (arith, goes.1.2, length-append written text))
          (rw (take-append-add written text count)
          (Appends-then old first.written next.written written (take count text) h.put goes.1.3))
          (subst (λ (n : ℕ). HasFailed n next.not_written) h.none_unwritten
          (has-failed first.not_written next.not_written goes.1.4)) refl))

    pub lines-written : (events : List Event) (read written : List ℕ) (first now : Wire) (ended : Status)
        → HasCome read written first → AnswersLines line_task read written events ended → HaveMoved first events now
        → AreWritten now ended
    lines-written [] read written first now ended h lines moved = closed read written first h [] now ended lines moved
    lines-written (heard octets ∷ events) read written first now ended h (inl lines) moved =
        closed read written first h (heard octets ∷ events) now ended lines moved
    lines-written (heard octets ∷ events) read written first now ended h (inr lines) moved =
        lines-written events (read ++ octets) written moved.0 now ended (record {
          from = Consumes-then held first.left moved.0.left read octets h.from moved.1.0;
          none_failed = moved.1.2 ∙ h.none_failed;
          put = rw moved.1.3 h.put;
          none_unwritten = moved.1.4 ∙ h.none_unwritten;
        }) lines.2 moved.2
    lines-written (told text ∷ events) read written first now ended h (inl lines) moved =
        closed read written first h (told text ∷ events) now ended lines moved
    lines-written (told text ∷ events) read written first now ended h (inr lines) moved =
        lines-written events read (written ++ text) moved.0 now ended (record {
          from = rw moved.1.0 h.from;
          none_failed = moved.1.1 ∙ h.none_failed;
          put = Appends-then old first.written moved.0.written written text h.put moved.1.2;
          none_unwritten = moved.1.3 ∙ h.none_unwritten;
        }) lines moved.2
    lines-written (unheard ∷ events) read written first now ended h lines moved =
        closed read written first h (unheard ∷ events) now ended lines moved
    lines-written (untold text count ∷ events) read written first now ended h lines moved =
        closed read written first h (untold text count ∷ events) now ended lines moved

-- a whole conversation about lines
pub all-written : (line_task : LineTask) (first now : Wire) (events : List Event) (ended : Status)
    → AnswersLines line_task [] [] events ended → HaveMoved first events now
    → WritesLines line_task (calls first.left now.left first.not_read now.not_read)
    (calls first.written now.written first.not_written now.not_written) ended
all-written line_task first now events ended lines moved =
    lines-written line_task first.left first.not_read first.written first.not_written events [] [] first now ended
    (record {
      from = Consumes-none first.left;
      none_failed = refl;
      put = appends-none first.written;
      none_unwritten = refl;
    }) lines moved
