-- How lines are answered as they come.
use Rattle.std.proofs.Common.{◌≡◌, ◌≤◌, ◌<◌, ◌∙◌, inl, inr, ◌+◌, ◌++◌, ◌==◌, if◌then◌else◌, nat_le, ℕ, List, [], ◌∷◌, Bool, true, false, Option, Some, None, Result, Ok, Err, OnOk, OnErr, ap, append-nil, append_assoc, arith, length, refl, subst, sym, take, drop}
use Rattle.std.proofs.lemmas.Bool.{cases_order}
use Rattle.std.proofs.lemmas.Bool.Decides.{nat_tests}
use Rattle.std.proofs.lemmas.List.{length-append, length-take, take_all, take-append-drop, take-append-le}
use Rattle.std.proofs.Math.Seq.{take-append-add}
use Rattle.std.specs.Io.KnownBytes.{Appends}
use Rattle.octet_core.specs.Failures.{HasFailed}
use Rattle.program_words.specs.Loose.{loose_octets}
use Rattle.program_words.specs.declared.fault.Fault.{Fault}
use Rattle.program_words.specs.declared.fault.Fault.TheVariants.{TooLarge}
use Rattle.program.specs.Calls.{calls}
use Rattle.program.specs.declared.line_task.LineTask.{LineTask}
use Rattle.program.specs.Answers.{IsTold, IsToldOf, IsWritten, all, cut}
use Rattle.program.specs.Judged.{SaysIf}
use Rattle.program.specs.LineNotes.{AreLinesSaid, IsLineSaid, IsNoteOfLine}
use Rattle.program.specs.Files.{largest_file}
use Rattle.program.specs.Lines.{all_lines, ended_lines, last_line, line_octets, lines_after, rest_after, worse}
use Rattle.program.specs.LineAnswers.{HasBegun, HasSaid}
use Rattle.program_octets.specs.declared.status.Status.{Status}
use Rattle.program_octets.specs.declared.status.Status.TheVariants.{Accepted, Refused}
use Rattle.program_octets.specs.declared.status.Status.TheVariants as status

-- ---- lines of joined octets

pub lines-append : (line a b : List ℕ) → lines_after line (a ++ b) ≡ lines_after line a
    ++ lines_after (rest_after line a) b
lines-append line [] b = refl
lines-append line (x ∷ a) b = go (x == 10) refl (lines-append [] a b) (lines-append (line ++ (x ∷ [])) a b)
  where
    go : (t : Bool) → (x == 10) ≡ t → lines_after [] (a ++ b) ≡ lines_after [] a ++ lines_after (rest_after [] a) b
        → lines_after (line ++ (x ∷ [])) (a ++ b) ≡ lines_after (line ++ (x ∷ [])) a
        ++ lines_after (rest_after (line ++ (x ∷ [])) a) b
        → lines_after line (x ∷ (a ++ b)) ≡ lines_after line (x ∷ a) ++ lines_after (rest_after line (x ∷ a)) b
    go true e ended more = rw e (ap (λ (l : List (List ℕ)). line ∷ l) ended)
    go false e ended more = rw e more

pub rest-append : (line a b : List ℕ) → rest_after line (a ++ b) ≡ rest_after (rest_after line a) b
rest-append line [] b = refl
rest-append line (x ∷ a) b = go (x == 10) refl (rest-append [] a b) (rest-append (line ++ (x ∷ [])) a b)
  where
    go : (t : Bool) → (x == 10) ≡ t → rest_after [] (a ++ b) ≡ rest_after (rest_after [] a) b
        → rest_after (line ++ (x ∷ [])) (a ++ b) ≡ rest_after (rest_after (line ++ (x ∷ [])) a) b
        → rest_after line (x ∷ (a ++ b)) ≡ rest_after (rest_after line (x ∷ a)) b
    go true e ended more = rw e ended
    go false e ended more = rw e more

-- ---- the worse of two ends

worse-assoc : (a b c : Status) → worse (worse a b) c ≡ worse a (worse b c)
worse-assoc Accepted b c = refl
worse-assoc Refused Accepted c = refl
worse-assoc Refused Refused Accepted = refl
worse-assoc Refused Refused Refused = refl
worse-assoc Refused Refused status.Fault = refl
worse-assoc Refused status.Fault c = refl
worse-assoc status.Fault b c = refl

worse-accepted : (a : Status) → worse a Accepted ≡ a
worse-accepted Accepted = refl
worse-accepted Refused = refl
worse-accepted status.Fault = refl

-- ---- texts of lines

module _ (line_task : LineTask) where
  lines-joined : (xs ys : List (List ℕ)) (t u : List ℕ) (s q : Status) → AreLinesSaid line_task xs t s
      → AreLinesSaid line_task ys u q → AreLinesSaid line_task (xs ++ ys) (t ++ u) (worse s q)
  lines-joined [] ys t u s q h g = rw (h.0, h.1) g
  lines-joined (x ∷ xs) ys t u s q h g = record {
    first = h.first;
    one = h.one;
    more = h.more ++ u;
    others = worse h.others q;
    is_first = h.is_first;
    is_more = lines-joined xs ys h.more u h.others q h.is_more g;
    is_text = ap (λ (l : List ℕ). l ++ u) h.is_text ∙ append_assoc h.first h.more u;
    is_ended = ap (λ (e : Status). worse e q) h.is_ended ∙ worse-assoc h.one h.others q;
  }

  one-line : (line u : List ℕ) (q : Status) → IsLineSaid line_task line u q → AreLinesSaid line_task (line ∷ []) u q
  one-line line u q h = record {
    first = u;
    one = q;
    more = [];
    others = Accepted;
    is_first = h;
    is_more =
        (refl, refl);
    is_text = sym (append-nil u);
    is_ended = sym (worse-accepted q);
  }

  too-long : (octets : Result (List ℕ) Fault) (n : ℕ) → largest_file < n
      → (if nat_le n largest_file then octets else Err TooLarge) ≡ Err TooLarge
  too-long octets n long = grind (arith, nat_tests)

  -- what is kept of a line says the same
  kept-octets : (line : List ℕ) → line_octets (take (largest_file + 1) line) ≡ line_octets line
  kept-octets line = elim (cases_order (length line) largest_file) [
    | inl same ↦ ap line_octets (take_all (largest_file + 1) line (omega (arith, same)))
    | inr (inl small) ↦ ap line_octets (take_all (largest_file + 1) line (omega (arith, small)))
    | inr (inr long) ↦
        let kept : largest_file < length (take (largest_file + 1) line) =
        omega (arith, long, length-take (largest_file + 1) line) in
        too-long (loose_octets (take (largest_file + 1) line)) (length (take (largest_file + 1) line)) kept
        ∙ sym (too-long (loose_octets line) (length line) long)
  ]

  -- and has the same note
  kept-note : (line note : List ℕ) → SaysIf line_task.explains
      (IsNoteOfLine line_task.task (take (largest_file + 1) line)
      (line_octets (take (largest_file + 1) line))) note
      → SaysIf line_task.explains (IsNoteOfLine line_task.task line (line_octets line)) note
  kept-note line note h = elim (cases_order (length line) largest_file) [
    | inl same ↦ as-whole (take_all (largest_file + 1) line (omega (arith, same)))
    | inr (inl small) ↦ as-whole (take_all (largest_file + 1) line (omega (arith, small)))
    | inr (inr long) ↦
        let kept : largest_file < length (take (largest_file + 1) line) =
        omega (arith, long, length-take (largest_file + 1) line) in
        rw (too-long (loose_octets line) (length line) long)
        (rw (too-long (loose_octets (take (largest_file + 1) line)) (length (take (largest_file + 1) line)) kept) at h)
  ]
    where
      as-whole : take (largest_file + 1) line ≡ line
          → SaysIf line_task.explains (IsNoteOfLine line_task.task line (line_octets line)) note
      as-whole same = subst (λ (l : List ℕ).
          SaysIf line_task.explains (IsNoteOfLine line_task.task l (line_octets l)) note)
          same h

  kept-told : (line t : List ℕ) (s : Status) → IsLineSaid line_task (take (largest_file + 1) line) t s
      → IsLineSaid line_task line t s
  kept-told line t s h = record {
    told = h.told;
    note = h.note;
    is_told = subst (λ (r : Result (List ℕ) Fault). IsToldOf (IsTold line_task.task) r h.told s) (kept-octets line)
        h.is_told;
    is_note = kept-note line h.note h.is_note;
    is_text = h.is_text;
  }

  -- ---- one octet more

  -- it ends the line
  pub line-ended : (read written line text more : List ℕ) (s q : Status) (x : ℕ) → x ≡ 10
      → HasSaid line_task read written line text s → IsLineSaid line_task line more q
      → HasSaid line_task (read ++ (x ∷ [])) written [] (text ++ more) (worse s q)
  line-ended read written line text more s q x is h says = rw is (record {
    is_told = rw (lines-append [] read (10 ∷ []), ← append_assoc written text more)
        (lines-joined (ended_lines read) (rest_after [] read ∷ []) (written ++ text) more s q h.is_told
        (one-line (rest_after [] read) more q
        (kept-told (rest_after [] read) more q
        (subst (λ (l : List ℕ). IsLineSaid line_task l more q) h.is_line says))));
    is_line = rw (rest-append [] read (10 ∷ [])) refl;
  })

  other : (read : List ℕ) (x : ℕ) → (x ≡ 10 → ⊥) → (x == 10) ≡ false
  other read x h = grind (arith, nat_tests)

  same-lines : (read : List ℕ) (x : ℕ) → (x ≡ 10 → ⊥) → ended_lines (read ++ (x ∷ [])) ≡ ended_lines read
  same-lines read x h = rw (lines-append [] read (x ∷ []), other read x h) (append-nil (ended_lines read))

  same-rest : (read : List ℕ) (x : ℕ) → (x ≡ 10 → ⊥) → rest_after [] (read ++ (x ∷ [])) ≡ rest_after [] read ++ (x ∷ [])
  same-rest read x h = rw (rest-append [] read (x ∷ []), other read x h) refl

  -- it is kept
  pub octet-kept : (read written line text : List ℕ) (s : Status) (x : ℕ) → (x ≡ 10 → ⊥) → length line ≤ largest_file
      → HasSaid line_task read written line text s
      → HasSaid line_task (read ++ (x ∷ [])) written (line ++ (x ∷ [])) text s
  octet-kept read written line text s x not few h =
      let rest = rest_after [] read in
      let short : length rest ≤ largest_file =
      omega (arith, few, ap length h.is_line, length-take (largest_file + 1) rest) in
      let whole_line : line ≡ rest = h.is_line ∙ take_all (largest_file + 1) rest (omega (arith, short)) in
      record {
        is_told = rw (same-lines read x not) h.is_told;
        is_line = rw (same-rest read x not, whole_line)
            (sym (take_all (largest_file + 1) (rest ++ (x ∷ [])) (omega (arith, short, length-append rest (x ∷ [])))));
      }

  -- the line is too long already
  pub octet-left : (read written line text : List ℕ) (s : Status) (x : ℕ) → (x ≡ 10 → ⊥) → largest_file < length line
      → HasSaid line_task read written line text s → HasSaid line_task (read ++ (x ∷ [])) written line text s
  octet-left read written line text s x not many h =
      let rest = rest_after [] read in
      let long : largest_file + 1 ≤ length rest =
      omega (arith, many, ap length h.is_line, length-take (largest_file + 1) rest) in
      record {
        is_told = rw (same-lines read x not) h.is_told;
        is_line = rw (same-rest read x not) (h.is_line ∙ sym (take-append-le (largest_file + 1) rest (x ∷ []) long));
      }

  -- ---- where it ends

  -- the lines that ended in the first octets are the first ones that end
  pub begun : (read more written line text : List ℕ) (s : Status) → HasSaid line_task read written line text s
      → HasBegun line_task (ended_lines (read ++ more)) (written ++ text)
  begun read more written line text s h = record {
    done = ended_lines read;
    more = lines_after (rest_after [] read) more;
    so_far = s;
    is_front = lines-append [] read more;
    is_told = h.is_told;
  }

  -- they are the first of all lines too, where no octet comes after them
  pub begun-here : (read written line text : List ℕ) (s : Status) → HasSaid line_task read written line text s
      → HasBegun line_task (all_lines read) (written ++ text)
  begun-here read written line text s h =
      record {
        done = ended_lines read;
        more = last_line (rest_after [] read);
        so_far = s;
        is_front = refl;
        is_told =
            h.is_told;
      }

  no-rest : (n : ℕ) (rest : List ℕ) → [] ≡ take (n + 1) rest → rest ≡ []
  no-rest n [] h = refl
  no-rest n (x ∷ rest) h = absurd (omega (arith, ap length h, length-take (n + 1) (x ∷ rest)))

  some-rest : (rest : List ℕ) → (take (largest_file + 1) rest ≡ [] → ⊥) → last_line rest ≡ rest ∷ []
  some-rest [] h = absurd (h refl)
  some-rest (x ∷ rest) h = refl

  -- no octet comes after the last line end
  pub all-ended : (read written line text : List ℕ) (s : Status) → line ≡ []
      → HasSaid line_task read written line text s
      → AreLinesSaid line_task (all_lines read) (written ++ text) s
  all-ended read written line text s none h =
      rw (no-rest largest_file (rest_after [] read) (sym none ∙ h.is_line), append-nil (ended_lines read)) h.is_told

  -- the last line is told too
  pub last-told : (read written line text more : List ℕ) (s q : Status) → (line ≡ [] → ⊥)
      → HasSaid line_task read written line text s → IsLineSaid line_task line more q
      → AreLinesSaid line_task (all_lines read) (written ++ (text ++ more)) (worse s q)
  last-told read written line text more s q some h says =
      let rest = rest_after [] read in
      rw (some-rest rest (λ none. some (h.is_line ∙ none)), ← append_assoc written text more)
      (lines-joined (ended_lines read) (rest ∷ []) (written ++ text) more s q h.is_told
      (one-line rest more q (kept-told rest more q
      (subst (λ (l : List ℕ). IsLineSaid line_task l more q) h.is_line says))))

-- ---- what is written

-- a text and then another are written as both in a row
pub Appends-then : (a b c : Option (List ℕ)) (x y : List ℕ) → Appends a b x → Appends b c y → Appends a c (x ++ y)
Appends-then None b c x y p q = tt
Appends-then (Some a) None c x y p q = absurd p
Appends-then (Some a) (Some b) None x y p q = absurd q
Appends-then (Some a) (Some b) (Some c) x y p q = q ∙ ap (λ (l : List ℕ). l ++ y) p ∙ append_assoc a x y

-- a text is written after another
pub written-then : (first text : List ℕ) (right : Status) (a b c : Option (List ℕ)) (before after : ℕ) (ended : Status)
    → Appends a b first → IsWritten text right (calls b c before after) ended
    → IsWritten (first ++ text) right (calls a c before after) ended
written-then first text right a b c before after ended p (all q same is) =
    all (Appends-then a b c first text p q) same is
written-then first text right a b c before after ended p (cut count few q fails is) =
    cut (length first + count) (omega (arith, few, length-append first text))
    (rw (take-append-add first text count) (Appends-then a b c first (take count text) p q)) fails is

-- with no failure in the first
pub written-all : (first text : List ℕ) (right : Status) (a b c : Option (List ℕ)) (before middle after : ℕ)
    (ended : Status) → Appends a b first → middle ≡ before → IsWritten text right (calls b c middle after) ended
    → IsWritten (first ++ text) right (calls a c before after) ended
written-all first text right a b c before middle after ended p same h =
    written-then first text right a b c before after ended p
    (subst (λ (n : ℕ). IsWritten text right (calls b c n after) ended) same h)

-- the writer failed in the first
pub stopped-first : (first text : List ℕ) (right : Status) (a b : Option (List ℕ)) (before after : ℕ) (count : ℕ)
    → count < length first → Appends a b (take count first) → HasFailed before after
    → IsWritten (first ++ text) right (calls a b before after) status.Fault
stopped-first first text right a b before after count few p fails =
    cut count (omega (arith, few, length-append first text))
    (subst (Appends a b) (sym (take-append-le count first text (omega (arith, few)))) p) fails refl

-- what a line's answer makes of what was said
pub answered-said : (line_task : LineTask) (line text new : List ℕ) (s q : Status) (x : ℕ) → x ≡ 10
    → (more : List ℕ) (u : Status) → IsLineSaid line_task line more u → new ≡ text ++ more → q ≡ worse s u
    → (read written : List ℕ) → HasSaid line_task read written line text s
    → HasSaid line_task (read ++ (x ∷ [])) written [] new q
answered-said line_task line text new s q x is more u says e f read written h =
    rw (e, f) (line-ended line_task read written line text more s u x is h says)

-- and what the answer to the last line does, where that has octets
pub answered-last : (line_task : LineTask) (line text new : List ℕ) (s q : Status) → (line ≡ [] → ⊥)
    → (more : List ℕ) (u : Status) → IsLineSaid line_task line more u → new ≡ text ++ more → q ≡ worse s u
    → (read written : List ℕ) → HasSaid line_task read written line text s
    → AreLinesSaid line_task (all_lines read) (written ++ new) q
answered-last line_task line text new s q some more u says e f read written h =
    rw (e, f) (last-told line_task read written line text more s u some h says)

-- what follows from what holds where a call succeeds holds there too
pub if-ok : {A E : Type 0} (r : Result A E) {P Q : Type 0} → (P → Q) → OnOk r P → OnOk r Q
if-ok (Ok a) f h = f h
if-ok (Err e) f h = tt

-- and what follows from two such
pub if-both-ok : {A E : Type 0} (r : Result A E) {P Q S : Type 0} → (P → Q → S) → OnOk r P → OnOk r Q → OnOk r S
if-both-ok (Ok a) f h g = f h g
if-both-ok (Err e) f h g = tt

-- what holds anyway holds where a call fails
pub if-err : {A E : Type 0} (r : Result A E) {Q : Type 0} → Q → OnErr r Q
if-err (Ok a) q = tt
if-err (Err e) q = q

-- memory ran out within a piece
pub begun-within : (line_task : LineTask) (read written piece : List ℕ) (i : ℕ) (line text : List ℕ) (s : Status)
    → HasSaid line_task (read ++ take i piece) written line text s
    → HasBegun line_task (ended_lines (read ++ piece)) (written ++ text)
begun-within line_task read written piece i line text s h =
    let joined = append_assoc read (take i piece) (drop i piece)
    ∙ ap (λ (l : List ℕ). read ++ l) (take-append-drop i piece) in
    subst (λ (l : List ℕ). HasBegun line_task (ended_lines l) (written ++ text)) joined
    (begun line_task (read ++ take i piece) (drop i piece) written line text s h)

-- a list of length 0 is empty
pub no-octets : (l : List ℕ) → length l ≡ 0 → l ≡ []
no-octets [] h = refl
no-octets (x ∷ l) h = absurd (omega (arith, h))
