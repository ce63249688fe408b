-- How a conversation goes on, and what it does to a reader and a writer.
use Rattle.std.proofs.Common.{◌≡◌, ◌<◌, ◌∙◌, ◌++◌, ◌∷◌, [], ℕ, List, Option, None, Some, Result, Ok, Err, OnOk, IfErr, ap, append_assoc, arith, length, refl, sym, take}
use Rattle.std.specs.Io.{ReadsAtMost}
use Rattle.std.specs.Io.KnownBytes.{Appends, Consumes, Keeps, ReadConsumes}
use Rattle.octet_core.specs.Failures.{Counts, HasFailed, next_count, ReadFails}
use Rattle.octet_core.specs.declared.stream.WriteFault.{WriteFault}
use Rattle.program.specs.Conversations.{AreSame, Event, Happens, HaveMoved, Moves, Wire, hearing, telling, wire_of}
use Rattle.program.specs.declared.conversation.Streams.{Streams}

-- some events happened and then others
pub Happens-then : {A : Type 0} (a b c : A → List Event → Type 0) (x y : List Event) → Happens a b x → Happens b c y
    → Happens a c (x ++ y)
Happens-then {A} a b c x y p q first before held =
    rw (← append_assoc before x y) (q first (before ++ x) (p first before held))

-- ---- over a reader and a writer

-- one event more
pub moved-on : (first now next : Wire) (events : List Event) (event : Event) → HaveMoved first events now
    → Moves now event next → HaveMoved first (events ++ (event ∷ [])) next
moved-on first now next [] event same moves = (next, rw same moves, refl)
moved-on first now next (e ∷ events) event h moves = (h.0, h.1, moved-on h.0 now next events event h.2 moves)

reads-none : (a b : Option (List ℕ)) → Keeps a b → Consumes a b []
reads-none None b h = tt
reads-none (Some a) None h = absurd h
reads-none (Some a) (Some b) h = sym h

module _ {E : Type 0} (old new : Wire) (same : new.written ≡ old.written)
    (none : new.not_written ≡ old.not_written) where
  -- a call of the reader
  pub moves-heard : (r : Result ℕ E) (room : List ℕ) → 0 < length room → ReadsAtMost r room
      → ReadConsumes old.left new.left r room → Counts (ReadFails r) old.not_read new.not_read
      → Moves old (hearing r room) new
  moves-heard (Ok n) room some fits read counted =
      (read.0, (λ empty. read.1 (fits.1 ∙ ap length empty) some), counted.1 (λ bad. bad), same, none)
  moves-heard (Err fault) room some fits read counted =
      (reads-none old.left new.left read, counted.0 tt, same, none)

module _ {A : Type 0} (old new : Wire) (same : new.left ≡ old.left) (none : new.not_read ≡ old.not_read) where
  -- a text that is written
  pub moves-told : (text : List ℕ) (r : Result A WriteFault) → OnOk r (Appends old.written new.written text)
      → OnOk r (new.not_written ≡ old.not_written) → IfErr r (λ fault. fault.written < length text)
      → IfErr r (λ fault. Appends old.written new.written (take fault.written text))
      → IfErr r (λ fault. new.not_written ≡ next_count old.not_written) → Moves old (telling text r) new
  moves-told text (Ok done) all kept fewer first failed = (same, none, all, kept)
  moves-told text (Err fault) all kept fewer first failed = (same, none, fewer, first, failed)

module _ {R W : Type 0} (remaining : R → Option (List ℕ)) (not_read : R → ℕ) (contents : W → Option (List ℕ))
    (not_written : W → ℕ) where
  -- what happened in a conversation moved its reader and its writer, where these are left so
  pub moved-between : (old new : Streams R W) (r : R) (w : W) (events : List Event)
      → Happens (λ first events. AreSame first old
      × HaveMoved (wire_of remaining not_read contents not_written first) events
      (wire_of remaining not_read contents not_written old))
      (λ first events. AreSame first new
      × HaveMoved (wire_of remaining not_read contents not_written first) events
      (wire_of remaining not_read contents not_written new)) events
      → (old.reader.ghost_name ≡ new.reader.ghost_name → r ≡ new.reader.now)
      → (old.writer.ghost_name ≡ new.writer.ghost_name → w ≡ new.writer.now)
      → HaveMoved (wire_of remaining not_read contents not_written old) events (record {
        left = remaining r;
        written = contents w;
        not_read = not_read r;
        not_written = not_written w;
      })
  moved-between old new r w events h reads writes =
      let moved = h old [] ((refl, refl), refl) in
      rw (reads moved.0.0, writes moved.0.1) moved.1

-- a count that goes on by one tells of a failure
pub has-failed : (n m : ℕ) → m ≡ next_count n → HasFailed n m
has-failed n m is = grind (arith)
