-- More is heard only where the lines that ended are answered.
use Rattle.std.proofs.Common.{◌≡◌, inl, inr, ◌++◌, ◌∷◌, [], List, ℕ, ap, append-nil, append_assoc, arith, length, subst, sym}
use Rattle.std.proofs.lemmas.List.{length-append}
use Rattle.program_words.specs.Texts.{fault_text}
use Rattle.program_words.specs.declared.fault.Fault.TheVariants.{Read}
use Rattle.program.specs.declared.line_task.LineTask.{LineTask}
use Rattle.program_octets.specs.declared.status.Status.{Status}
use Rattle.program_octets.specs.declared.status.Status.TheVariants as status
use Rattle.program.specs.Conversations.{Event, heard, told, unheard, untold}
use Rattle.program.specs.LineAnswers.{AnswersLines, AreTelling, Closes, IsHearing, IsUpToDate, heard_by, out_of_memory, over, told_by, uncounted, unread, unwritten}

-- all events but the first
abbrev later : List Event → List Event
later [] = []
later (event ∷ events) = events

not-empty : (before after : List Event) (event : Event) → before ++ (event ∷ after) ≡ [] → ⊥
not-empty before after event is = omega (arith, ap length is, length-append before (event ∷ after))

-- nothing is heard while a text is told
none-heard : (before after : List Event) (event : Event) (text : List ℕ) (right ended : Status) → IsHearing event
    → AreTelling text right (before ++ (event ∷ after)) ended → ⊥
none-heard [] after (heard octets) text right ended hears tells = tells
none-heard [] after unheard text right ended hears tells = tells
none-heard [] after (told part) text right ended hears tells = hears
none-heard [] after (untold part count) text right ended hears tells = hears
none-heard (told part ∷ before) after event text right ended hears tells =
    none-heard before after event tells.0 right ended hears tells.2
none-heard (untold part count ∷ before) after event text right ended hears tells = not-empty before after event tells.0
none-heard (heard octets ∷ before) after event text right ended hears tells = tells
none-heard (unheard ∷ before) after event text right ended hears tells = tells

module _ (line_task : LineTask) (read written : List ℕ) (ended : Status) where
  -- what closes a conversation begins to hear only then
  first-heard : (after : List Event) (event : Event) → IsHearing event
      → Closes line_task read written (event ∷ after) ended → IsUpToDate line_task read written
  first-heard after event hears (over more text right is up rest tells) = up
  first-heard after event hears (unread more is up tells) = up
  first-heard after event hears (out_of_memory text begun tells) =
      absurd (none-heard [] after event _ _ ended hears tells)
  first-heard after event hears (uncounted text most up tells) =
      absurd (none-heard [] after event _ _ ended hears tells)
  first-heard after event hears (unwritten text count is up fault) = absurd (no-hearing (ap first is) hears)
    where
      first : List Event → Event
      first [] = unheard
      first (e ∷ events) = e

      no-hearing : event ≡ untold text count → IsHearing event → ⊥
      no-hearing same h = subst IsHearing same h

  -- and hears nothing after that
  none-later : (before after : List Event) (e event : Event) → IsHearing event
      → Closes line_task read written (e ∷ (before ++ (event ∷ after))) ended → ⊥
  none-later before after e event hears (over more text right is up rest tells) =
      none-heard before after event text right ended hears
      (subst (λ (l : List Event). AreTelling text right l ended) (sym (ap later is)) tells)
  none-later before after e event hears (unread more is up tells) =
      none-heard before after event (fault_text Read) status.Fault ended hears
      (subst (λ (l : List Event). AreTelling (fault_text Read) status.Fault l ended) (sym (ap later is)) tells)
  none-later before after e event hears (out_of_memory text begun tells) =
      none-heard (e ∷ before) after event _ _ ended hears tells
  none-later before after e event hears (uncounted text most up tells) =
      none-heard (e ∷ before) after event _ _ ended hears tells
  none-later before after e event hears (unwritten text count is up fault) =
      not-empty before after event (ap later is)

still : (line_task : LineTask) (read written : List ℕ) → IsUpToDate line_task read written
    → IsUpToDate line_task (read ++ []) (written ++ [])
still line_task read written up = rw (append-nil read, append-nil written) up

waits-from : (line_task : LineTask) (before after : List Event) (event : Event) (read written : List ℕ) (ended : Status)
    → IsHearing event → AnswersLines line_task read written (before ++ (event ∷ after)) ended
    → IsUpToDate line_task (read ++ heard_by before) (written ++ told_by before)
waits-from line_task [] after (heard octets) read written ended hears (inl h) =
    still line_task read written (first-heard line_task read written ended after (heard octets) hears h)
waits-from line_task [] after (heard octets) read written ended hears (inr h) = still line_task read written h.1
waits-from line_task [] after unheard read written ended hears h =
    still line_task read written (first-heard line_task read written ended after unheard hears h)
waits-from line_task [] after (told text) read written ended hears h = absurd hears
waits-from line_task [] after (untold text count) read written ended hears h = absurd hears
waits-from line_task (heard octets ∷ before) after event read written ended hears (inl h) =
    absurd (none-later line_task read written ended before after (heard octets) event hears h)
waits-from line_task (heard octets ∷ before) after event read written ended hears (inr h) =
    rw (← append_assoc read octets (heard_by before))
    (waits-from line_task before after event (read ++ octets) written ended hears h.2)
waits-from line_task (told text ∷ before) after event read written ended hears (inl h) =
    absurd (none-later line_task read written ended before after (told text) event hears h)
waits-from line_task (told text ∷ before) after event read written ended hears (inr h) =
    rw (← append_assoc written text (told_by before))
    (waits-from line_task before after event read (written ++ text) ended hears h)
waits-from line_task (unheard ∷ before) after event read written ended hears h =
    absurd (none-later line_task read written ended before after unheard event hears h)
waits-from line_task (untold text count ∷ before) after event read written ended hears h =
    absurd (none-later line_task read written ended before after (untold text count) event hears h)

-- of a whole conversation
pub waits : (line_task : LineTask) (events before after : List Event) (event : Event) (ended : Status)
    → AnswersLines line_task [] [] events ended → events ≡ before ++ (event ∷ after) → IsHearing event
    → IsUpToDate line_task (heard_by before) (told_by before)
waits line_task events before after event ended lines is hears =
    waits-from line_task before after event [] [] ended hears
    (subst (λ (l : List Event). AnswersLines line_task [] [] l ended) is lines)
