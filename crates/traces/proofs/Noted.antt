-- Notes before lines change neither what an end replays, nor which blocks arrive, nor whether lines may come in a file.
use Rattle.std.proofs.Common.{◌≡◌, ◌∙◌, ap, sym, refl, subst, ℕ, ◌+◌, nat_eq, List, [], ◌∷◌, ◌++◌, Bool, true, false, if◌then◌else◌, Option, Some, None, Result, Ok, Err, arith, length, ◌==◌}
use Rattle.std.proofs.lemmas.Bool.Decides.{Decides-eqb}
use Rattle.exchange_text.specs.Exchange.{added_note, are_proper, may_follow, moment_after}
use Rattle.exchange_text.specs.declared.exchange.Version.{Version}
use Rattle.exchange_text.specs.declared.exchange.Version.TheVariants.{One, Two}
use Rattle.exchange_text.specs.declared.line.Line.{Line}
use Rattle.exchange_text.specs.declared.line.Line.TheVariants as line
use Rattle.exchange_text.proofs.Naming.{both}
use Rattle.std.proofs.lemmas.Bool.{and_from}
use Rattle.exchange_core.specs.Replay.{End, passes, goes_on, replay_from, replay_line, replay_lines, terminal_end, card_end}
use Rattle.block_core.specs.declared.side.Side.{Side}
use Rattle.block_core.specs.declared.side.Side.TheVariants.{Terminal, Card}
use Rattle.traces.specs.declared.trace.Item.{Item}
use Rattle.traces.specs.Arrived.{arrived_in, arrived_of, line_arrives}
use Rattle.traces.specs.Followed.{FollowedReplays}
use Rattle.traces.specs.Marked.{left_after, marked, put_as}
use Rattle.traces.specs.Recorded.{lines_of, noted_lines, version_of, version_with}
use Rattle.traces.specs.Rising.{rises}
use Rattle.traces.specs.Unseen.{unseen_in}
use Rattle.traces.proofs.Arriving.{arrived}
use Rattle.traces.proofs.Followed.{followed-replays}
use Rattle.traces.proofs.Moments.{recorded-proper}

-- what is written for a line begins with it, or with the note before it
by-place : (P : List Line → Type 0) (place : ℕ) (places : List ℕ) (line : Line) (rest : List Line)
    → P (line ∷ rest) → P (added_note ∷ line ∷ rest) → P (put_as place places line ++ rest)
by-place P place [] line rest p q = p
by-place P place (next ∷ places) line rest p q = by-test (nat_eq next place)
  where
    by-test : (b : Bool) → P ((if b then added_note ∷ line ∷ [] else line ∷ []) ++ rest)
    by-test true = q
    by-test false = p

-- ---- a file

put-proper : (least place : ℕ) (places : List ℕ) (line : Line) (rest : List Line)
    → are_proper Two least (line ∷ rest) ≡ true → are_proper Two least (put_as place places line ++ rest) ≡ true
put-proper least place places line rest h =
    by-place (λ (l : List Line). are_proper Two least l ≡ true) place places line rest h h

two-marked : (least place : ℕ) (places : List ℕ) (lines : List Line) → are_proper Two least lines ≡ true
    → are_proper Two least (marked place places lines) ≡ true
two-marked least place places [] h = h
two-marked least place places (line ∷ lines) h =
    let parts = both (may_follow Two least line) (are_proper Two (moment_after least line) lines) h in
    let rest = marked (place + 1) (left_after place places) lines in
    put-proper least place places line rest
    (and_from (may_follow Two least line) (are_proper Two (moment_after least line) rest) parts.0
    (two-marked (moment_after least line) (place + 1) (left_after place places) lines parts.1))

one-two : (least : ℕ) (lines : List Line) → are_proper One least lines ≡ true → are_proper Two least lines ≡ true
one-two least [] h = refl
one-two least (line.Moment moment ∷ lines) h = cc
one-two least (line.Note text ∷ lines) h = cc
one-two least (line ∷ lines) h = one-two least lines h

any-two : (version : Version) (lines : List Line) → are_proper version 0 lines ≡ true → are_proper Two 0 lines ≡ true
any-two One lines h = one-two 0 lines h
any-two Two lines h = h

none-marked : (place : ℕ) (lines : List Line) → marked place [] lines ≡ lines
none-marked place [] = refl
none-marked place (line ∷ lines) = ap (λ (l : List Line). line ∷ l) (none-marked (place + 1) lines)

proper-with : (places : List ℕ) (version : Version) (lines : List Line) → are_proper version 0 lines ≡ true
    → are_proper (version_with places version) 0 (marked 0 places lines) ≡ true
proper-with [] version lines h =
    subst (λ (l : List Line). are_proper version 0 l ≡ true) (sym (none-marked 0 lines)) h
proper-with (place ∷ places) version lines h = two-marked 0 0 (place ∷ places) lines (any-two version lines h)

-- the noted lines of a recording may come in an exchange of its version
pub noted-proper : (ifsc : ℕ) (items : List Item) → rises 0 items ≡ true
    → are_proper (version_with (unseen_in ifsc items) (version_of items)) 0 (noted_lines ifsc items) ≡ true
noted-proper ifsc items h =
    proper-with (unseen_in ifsc items) (version_of items) (lines_of ifsc items) (recorded-proper ifsc items h)

-- no note where there is no place
pub empty-marked : (places : List ℕ) (lines : List Line) → true ≡ (length places == 0) → lines ≡ marked 0 places lines
empty-marked [] lines h = sym (none-marked 0 lines)
empty-marked (place ∷ places) lines h =
    let bad : length (place ∷ places) ≡ 0 = (Decides-eqb (length (place ∷ places)) 0).0 (sym h) in absurd (omega arith)

-- ---- what arrives

marked-arrives : (place : ℕ) (places : List ℕ) (lines : List Line)
    → arrived_of (marked place places lines) ≡ arrived_of lines
marked-arrives place places [] = refl
marked-arrives place places (line ∷ lines) =
    let rest = marked (place + 1) (left_after place places) lines in
    let one = ap (λ (l : List (Side × List ℕ)). line_arrives line ++ l)
    (marked-arrives (place + 1) (left_after place places) lines) in
    by-place (λ (l : List Line). arrived_of l ≡ line_arrives line ++ arrived_of lines) place places line rest one one

pub noted-arrive : (ifsc : ℕ) (items : List Item) → arrived_of (noted_lines ifsc items) ≡ arrived_in items
noted-arrive ifsc items = marked-arrives 0 (unseen_in ifsc items) (lines_of ifsc items) ∙ arrived ifsc items

-- ---- replay

-- an end to which a note is nothing
module _ {S T : Type 0} (end : End S T) (passed : (s : S) → end.role s added_note ≡ passes) where
  -- a note before lines changes nothing but the numbers of lines
  over-note : (lines : List Line) (number : ℕ) (s : S) (pending : Option T)
      → replay_lines end lines (number + 1) s pending ≡ None
      → replay_lines end (added_note ∷ lines) number s pending ≡ None
  over-note lines number s pending h = rw (passed s) h

  -- where what follows changes nothing, a line before it doesn't
  by-step : (step : Result (S × Option T) (List ℕ)) (next after : S × Option T → Option (ℕ × List ℕ))
      (number other : ℕ) → ((x : S × Option T) → next x ≡ None → after x ≡ None) → goes_on next number step ≡ None
      → goes_on after other step ≡ None
  by-step (Ok x) next after number other k h = k x h
  by-step (Err text) next after number other k h = cc

  replay-marked : (place : ℕ) (places : List ℕ) (lines : List Line) (number other : ℕ) (s : S) (pending : Option T)
      → replay_lines end lines number s pending ≡ None
      → replay_lines end (marked place places lines) other s pending ≡ None
  replay-marked place places [] number other s None h = refl
  replay-marked place places [] number other s (Some turn) h = cc
  replay-marked place places (line ∷ lines) number other s pending h =
      let left = left_after place places in
      let rest = marked (place + 1) left lines in
      let one : (n : ℕ) → replay_lines end (line ∷ rest) n s pending ≡ None =
      λ n. by-step (replay_line end s pending line) (λ x. replay_lines end lines (number + 1) x.0 x.1)
      (λ x. replay_lines end rest (n + 1) x.0 x.1) number n
      (λ x k. replay-marked (place + 1) left lines (number + 1) (n + 1) x.0 x.1 k) h in
      by-place (λ (l : List Line). replay_lines end l other s pending ≡ None) place places line rest (one other)
      (over-note (line ∷ rest) other s pending (one (other + 1)))

marked-replays : (side : Side) (ifsc : ℕ) (places : List ℕ) (lines : List Line)
    → replay_from (Ok ifsc) lines side ≡ None → replay_from (Ok ifsc) (marked 0 places lines) side ≡ None
marked-replays Terminal ifsc places lines h =
    replay-marked terminal_end (λ s. refl) 0 places lines 3 3 _ None h
marked-replays Card ifsc places lines h = replay-marked card_end (λ s. refl) 0 places lines 3 3 _ None h

pub noted-replays : FollowedReplays
noted-replays side ifsc items h =
    marked-replays side ifsc (unseen_in ifsc items) (lines_of ifsc items) (followed-replays side ifsc items h)
