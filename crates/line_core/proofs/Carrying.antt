-- A line over a source and a sink: what one call reads, and what a talk adds to those before it.
use Rattle.std.proofs.KnownBytes.{Consumes-nil, Consumes-kept}
use Rattle.std.proofs.Common.{◌≡◌, ◌≤◌, ◌<◌, ◌∙◌, ◌+◌, ◌++◌, [], ◌∷◌, ℕ, List, take, length, refl, sym, ap, subst, arith, Option, Result, Ok, Err, OnOk, IfErr}
use Rattle.std.proofs.lemmas.List.{length-take-le, take-append-le}
use Rattle.std.proofs.Math.Seq.{take-length, take-append_seam, take-append-add}
use Rattle.std.specs.Io.{ReadsAtMost}
use Rattle.std.specs.Io.KnownBytes.{ReadConsumes, Consumes, Appends}
use Rattle.std.specs.IoError.{error_kind}
use Rattle.std.specs.declared.io.Error.{Error}
use Rattle.std.specs.declared.io.ErrorKind.TheVariants.{WriteZero}
use Rattle.octet_core.specs.Failures.{next_count}
use Rattle.line_core.specs.Line.{Arrival, block, nothing, failure, Talk}
use Rattle.line_core.specs.Service.{Event, sending}
use Rattle.line_core.specs.Service as at_card
use Rattle.line_core.specs.Streams.{Wire, Carries, HasCarried, Moves, HasServed, IsWritten, IsFramed, IsTold, IsHeard, MovesOn, came_of}

-- one talk more
pub carried-on : (first mid now : Wire) (talks : List Talk) (talk : Talk) → HasCarried first talks mid
    → Carries mid talk now → HasCarried first (talks ++ talk ∷ []) now
carried-on first mid now [] talk e carries = (now, subst (λ (w : Wire). Carries w talk now) (sym e) carries, refl)
carried-on first mid now (one ∷ talks) talk (next, before, held) carries =
    (next, before, carried-on next mid now talks talk held carries)

all-written : (arrival : Arrival) (sent : List ℕ) → IsWritten arrival sent (length sent)
all-written (block octets) sent = refl
all-written nothing sent = refl
all-written (failure fault) sent = omega arith

-- a buffer of which what is after the first octets was written to
pub front-more : (count more : ℕ) (old part rest : List ℕ) → count ≤ length old → more ≤ length part
    → take (count + more) (take count old ++ (part ++ rest)) ≡ take count old ++ take more part
front-more count more old part rest fits some =
    let front : List ℕ = take count old in
    let long : count + more ≡ length front + more = ap (λ (k : ℕ). k + more) (sym (length-take-le count old fits)) in
    ap (λ (k : ℕ). take k (front ++ (part ++ rest))) long ∙ take-append-add front (part ++ rest) more
    ∙ ap (λ (l : List ℕ). front ++ l) (take-append-le more part rest some)

-- and its first octets stay
pub front-kept : (count : ℕ) (old rest : List ℕ) → count ≤ length old
    → take count (take count old ++ rest) ≡ take count old
front-kept count old rest fits =
    let front : List ℕ = take count old in
    ap (λ (k : ℕ). take k (front ++ rest)) (sym (length-take-le count old fits)) ∙ take-append_seam front rest

-- one call of the source
pub moves-on : {E : Type 0} (held left : Option (List ℕ)) (count : ℕ) (old part rest : List ℕ) (result : Result ℕ E)
    → count ≤ length old → ReadsAtMost result part → ReadConsumes held left result part
    → MovesOn held left old (take count old ++ (part ++ rest)) count result
moves-on held left count old part rest (Ok more) fits bound (is, end) =
    ((take more part, sym bound.1, front-more count more old part rest fits bound.0, is), tt)
moves-on held left count old part rest (Err fault) fits bound keeps =
    (tt, (front-kept count old (part ++ rest) fits, Consumes-kept held held left [] (Consumes-nil held) keeps))

-- the block was written whole, and this was read
pub carries-all : (old now : Wire) (talk : Talk) → Appends old.written now.written talk.sent
    → now.not_written ≡ old.not_written → Consumes old.left now.left (came_of talk.arrival)
    → IsFramed (came_of talk.arrival) → IsTold talk.arrival old.not_read now.not_read now.left → Carries old talk now
carries-all old now talk sent none came framed told = record {
  count = length talk.sent;
  whole = all-written talk.arrival talk.sent;
  sent = subst (Appends old.written now.written) (sym (take-length talk.sent)) sent;
  came = came;
  framed = framed;
  told = λ all. (told, none);
  broken = λ fewer. let never : ⊥ = omega (arith, fewer) in absurd never;
}

-- the writer failed, and nothing was read
pub carries-part : (old : Wire) (written : Option (List ℕ)) (not_written : ℕ) (sent : List ℕ) (waiting count : ℕ)
    (fault : Error) → count < length sent → Appends old.written written (take count sent)
    → error_kind fault ≡ WriteZero → not_written ≡ next_count old.not_written
    → Carries old (record { sent = sent; waiting = waiting; arrival = failure fault })
    (record old { written = written; not_written = not_written })
carries-part old written not_written sent waiting count fault fewer part kind once = record {
  count = count;
  whole = omega (arith, fewer);
  sent = part;
  came = Consumes-nil old.left;
  framed = λ long. omega (arith, long);
  told = λ all. let never : ⊥ = omega (arith, fewer, all) in absurd never;
  broken = λ less. (kind, once, refl, refl);
}

-- one event more on the line of a card
pub served-on : (first mid now : Wire) (events : List Event) (event : Event) → HasServed first events mid
    → Moves mid event now → HasServed first (events ++ event ∷ []) now
served-on first mid now [] event e moves = (now, subst (λ (w : Wire). Moves w event now) (sym e) moves, refl)
served-on first mid now (one ∷ events) event (next, before, held) moves =
    (next, before, served-on next mid now events event held moves)

-- these octets were read, and they are what came, whether or not a failure is told as the end
pub moves-heard : (old : Wire) (after : Option (List ℕ)) (not_read : ℕ) (octets : List ℕ) (arrival : Arrival)
    → came_of arrival ≡ octets → Consumes old.left after octets → IsFramed octets
    → IsHeard arrival old.not_read not_read after
    → Moves old (at_card.came arrival) (record old { left = after; not_read = not_read })
moves-heard old after not_read octets arrival same came framed heard =
    (subst (Consumes old.left after) (sym same) came, subst IsFramed (sym same) framed, refl, heard, refl)

-- the call to send a block wrote all of it, or failed after a part
pub moves-said : {A : Type 0} (old : Wire) (after : Option (List ℕ)) (not_written : ℕ) (octets : List ℕ)
    (result : Result A Error) → OnOk result (Appends old.written after octets)
    → OnOk result (not_written ≡ old.not_written)
    → IfErr result (λ _. (count : ℕ) × (count < length octets) × Appends old.written after (take count octets))
    → IfErr result (λ _. not_written ≡ next_count old.not_written)
    → IfErr result (λ fault. error_kind fault ≡ WriteZero)
    → Moves old (sending octets result) (record old { written = after; not_written = not_written })
moves-said old after not_written octets (Ok done) all none part once kind = (refl, all, refl, none)
moves-said old after not_written octets (Err fault) all none part once kind = (refl, part, refl, once, kind)
