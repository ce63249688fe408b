-- How a conversation about lines goes on, turn by turn.
use Rattle.std.proofs.Common.{◌≡◌, ◌≤◌, ◌<◌, inl, inr, ◌+◌, ◌++◌, ◌∷◌, [], ℕ, List, append-nil, append_assoc, arith, length, refl, subst}
use Rattle.std.proofs.lemmas.List.{length-append}
use Rattle.program_words.specs.Texts.{fault_text}
use Rattle.program_words.specs.declared.fault.Fault.TheVariants.{Memory, Read, TooLarge}
use Rattle.program.specs.declared.line_task.LineTask.{LineTask}
use Rattle.program_octets.specs.declared.status.Status.{Status}
use Rattle.program_octets.specs.declared.status.Status.TheVariants as status
use Rattle.program.specs.LineNotes.{AreLinesSaid}
use Rattle.program.specs.Conversations.{Event, Happens, heard, told, unheard, untold}
use Rattle.program.specs.Lines.{all_lines, ended_lines}
use Rattle.program.specs.LineAnswers.{AnswersLines, AreTelling, Closes, HasAnswered, HasBegun, HasSaid, IsRest, IsUpToDate, Tells, most_read, out_of_memory, over, uncounted, unread, unwritten}
use Rattle.program.proofs.Conversing.{Happens-then}

-- So many pieces were heard, and the lines that ended in them are answered, but for this text, which isn't told yet.
pub record HasComeTo {A : Type 0} (line_task : LineTask) (old now : A → List Event → Type 0) (line text : List ℕ)
    (ended : Status) (turns : ℕ) : Type 0 where
  pub events : List Event
  pub read : List ℕ
  pub written : List ℕ
  pub happened : Happens old now events
  pub goes_on : (more : List Event) (end : Status) → AnswersLines line_task read written more end
      → AnswersLines line_task [] [] (events ++ more) end
  pub many : turns ≤ length read
  pub said : HasSaid line_task read written line text ended

-- the last events of a conversation are all of one
closes : (line_task : LineTask) (read written : List ℕ) (events : List Event) (end : Status)
    → Closes line_task read written events end → AnswersLines line_task read written events end
closes line_task read written [] end h = h
closes line_task read written (heard octets ∷ events) end h = inl h
closes line_task read written (told text ∷ events) end h = inl h
closes line_task read written (unheard ∷ events) end h = h
closes line_task read written (untold text count ∷ events) end h = h

-- at first nothing was heard
pub nothing-heard : {A : Type 0} (line_task : LineTask) (old : A → List Event → Type 0) (line text : List ℕ)
    → line ≡ [] → text ≡ [] → HasComeTo line_task old old line text status.Accepted 0
nothing-heard {A} line_task old line text none empty = record {
  events = [];
  read = [];
  written = [];
  happened = λ first before held. rw (append-nil before) held;
  goes_on = λ more end h. h;
  many = omega arith;
  said = record { is_told = (empty, refl); is_line = none };
}

module _ {A : Type 0} (line_task : LineTask) (old now : A → List Event → Type 0) (line text : List ℕ) (s : Status)
    (turns : ℕ) (h : HasComeTo line_task old now line text s turns) where
  -- these are the last events
  ends-by : (next : A → List Event → Type 0) (events : List Event) (end : Status) → Happens now next events
      → AnswersLines line_task h.read h.written events end → HasAnswered line_task old next end
  ends-by next events end happened lines = record {
    events = h.events ++ events;
    happened = Happens-then old now next h.events events h.happened happened;
    are_answers = h.goes_on events end lines;
  }

  -- the text is told
  pub text-told : (next : A → List Event → Type 0) (none : List ℕ) → none ≡ []
      → Happens now next (told text ∷ []) → HasComeTo line_task old next line none s turns
  text-told next none empty happened = record {
    events = h.events ++ (told text ∷ []);
    read = h.read;
    written = h.written ++ text;
    happened = Happens-then old now next h.events (told text ∷ []) h.happened happened;
    goes_on = λ more end lines. rw (append_assoc h.events (told text ∷ []) more)
        (h.goes_on (told text ∷ more) end (inr lines));
    many = h.many;
    said = record { is_told = rw (empty, append-nil (h.written ++ text)) h.said.is_told; is_line = h.said.is_line };
  }

  -- it can't be told
  pub text-untold : (next : A → List Event → Type 0) (count : ℕ) → Happens now next (untold text count ∷ [])
      → HasAnswered line_task old next status.Fault
  text-untold next count happened = ends-by next (untold text count ∷ []) status.Fault happened
      (unwritten text count refl (s, h.said.is_told) refl)

  -- the octets can't be counted
  pub used-up : (next : A → List Event → Type 0) (end : Status) → most_read ≤ turns
      → ((events : List Event) × Happens now next events
      × AreTelling (text ++ fault_text TooLarge) status.Fault events end) → HasAnswered line_task old next end
  used-up next end most tells = ends-by next tells.0 end tells.1
      (closes line_task h.read h.written tells.0 end
      (uncounted text (omega (arith, most, h.many)) (s, h.said.is_told) tells.2))

-- the same, where all is told
module _ {A : Type 0} (line_task : LineTask) (old now : A → List Event → Type 0) (line text : List ℕ) (s : Status)
    (turns : ℕ) (h : HasComeTo line_task old now line text s turns) (empty : text ≡ []) where
  up-to-date : IsUpToDate line_task h.read h.written
  up-to-date = (
    s,
    subst (λ (t : List ℕ). AreLinesSaid line_task (ended_lines h.read) t s) (append-nil h.written)
        (subst (λ (t : List ℕ). AreLinesSaid line_task (ended_lines h.read) (h.written ++ t) s) empty h.said.is_told),
  )

  -- a piece is heard
  pub piece-heard : (next : A → List Event → Type 0) (piece kept more : List ℕ) (q : Status)
      → Happens now next (heard piece ∷ []) → 0 < length piece
      → ((read written : List ℕ) → HasSaid line_task read written line text s
      → HasSaid line_task (read ++ piece) written kept more q) → HasComeTo line_task old next kept more q (turns + 1)
  piece-heard next piece kept more q happened some says = record {
    events = h.events ++ (heard piece ∷ []);
    read = h.read ++ piece;
    written = h.written;
    happened = Happens-then old now next h.events (heard piece ∷ []) h.happened happened;
    goes_on = λ after end lines. rw (append_assoc h.events (heard piece ∷ []) after)
        (h.goes_on (heard piece ∷ after) end (inr (some, up-to-date, lines)));
    many = omega (arith, h.many, some, length-append h.read piece);
    said = says h.read h.written h.said;
  }

  -- the input ended
  pub at-end : (there next : A → List Event → Type 0) (none : List ℕ) (end : Status) → none ≡ []
      → Happens now there (heard none ∷ [])
      → ((read written : List ℕ) → HasSaid line_task read written line text s
      → Tells (IsRest line_task (all_lines read) written) there next end) → HasAnswered line_task old next end
  at-end there next none end is happened says =
      let rest = says h.read h.written h.said in
      ends-by line_task old now line text s turns h next (heard none ∷ rest.events) end
      (Happens-then now there next (heard none ∷ []) rest.events happened rest.happened)
      (inl (over rest.events rest.text rest.right (rw is refl) up-to-date rest.is_right rest.are_telling))

  -- a call to hear more failed
  pub read-failed : (there next : A → List Event → Type 0) (end : Status) → Happens now there (unheard ∷ [])
      → ((events : List Event) × Happens there next events
      × AreTelling (text ++ fault_text Read) status.Fault events end) → HasAnswered line_task old next end
  read-failed there next end happened tells =
      ends-by line_task old now line text s turns h next (unheard ∷ tells.0) end
      (Happens-then now there next (unheard ∷ []) tells.0 happened tells.1)
      (unread tells.0 refl up-to-date
      (subst (λ (t : List ℕ). AreTelling (t ++ fault_text Read) status.Fault tells.0 end) empty tells.2))

  -- memory ran out within a piece
  pub memory-out : (there next : A → List Event → Type 0) (piece more : List ℕ) (end : Status)
      → Happens now there (heard piece ∷ []) → 0 < length piece
      → ((read written : List ℕ) → HasSaid line_task read written line text s
      → HasBegun line_task (ended_lines (read ++ piece)) (written ++ more))
      → ((events : List Event) × Happens there next events
      × AreTelling (more ++ fault_text Memory) status.Fault events end) → HasAnswered line_task old next end
  memory-out there next piece more end happened some says tells =
      ends-by line_task old now line text s turns h next (heard piece ∷ tells.0) end
      (Happens-then now there next (heard piece ∷ []) tells.0 happened tells.1)
      (inr (
        some,
        up-to-date,
        closes line_task (h.read ++ piece) h.written tells.0 end
            (out_of_memory more (says h.read h.written h.said) tells.2),
      ))
