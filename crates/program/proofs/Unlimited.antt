-- How an input is read to its end, piece by piece.
use Rattle.std.proofs.Common.{◌≡◌, ◌≤◌, ◌∙◌, ◌+◌, ℕ, List, [], ◌++◌, Option, Err, ap, append-nil, arith, length, refl, subst, take}
use Rattle.std.proofs.lemmas.List.{length-append, length-take}
use Rattle.std.specs.Io.KnownBytes.{Consumes}
use Rattle.octet_core.specs.Failures.{next_count}
use Rattle.program_words.specs.declared.fault.Fault.{Fault}
use Rattle.program_words.specs.declared.fault.Fault.TheVariants.{Words, Hex, Memory, Read, TooLarge}
use Rattle.program.specs.Calls.{calls, Calls}
use Rattle.program.specs.Pieces.{most_pieces, IsAll, IsEndless, IsPiece, ReadsAll, ReadsPiece}
use Rattle.program.proofs.Inputs.{Consumes-kept, Consumes-none, Consumes-then}

-- so many calls read these octets, and none failed
pub record IsPassed (reads : Calls) (read : List ℕ) (turns : ℕ) : Type 0 where
  pub from : Consumes reads.from reads.to read
  pub many : turns ≤ length read
  pub count : reads.after ≡ reads.before

-- before the first call
pub none-passed : (held : Option (List ℕ)) (count : ℕ) → IsPassed (calls held held count count) [] 0
none-passed held count = record { from = Consumes-none held; many = omega arith; count = refl }

module _ (held between left : Option (List ℕ)) (before middle after turns : ℕ) (read room : List ℕ)
    (so_far : IsPassed (calls held between before middle) read turns) where
  -- a call brings a piece
  pub piece-passed : (count : ℕ) → (count ≡ 0 → ⊥) → IsPiece (calls between left middle after) room count
      → IsPassed (calls held left before after) (read ++ take count room) (turns + 1)
  piece-passed count some piece = record {
    from = Consumes-then held between left read (take count room) so_far.from piece.from;
    many = omega (arith, some, so_far.many, piece.inside, length-append read (take count room), length-take count room);
    count = piece.none_failed ∙ so_far.count;
  }

  -- or none, at the end
  pub all-passed : (count : ℕ) → count ≡ 0 → IsPiece (calls between left middle after) room count
      → IsAll (calls held left before after) read
  all-passed count none piece = record {
    from = subst (Consumes held left) (ap (λ (n : ℕ). read ++ take n room) none ∙ append-nil read)
        (Consumes-then held between left read (take count room) so_far.from piece.from);
    end = piece.end none;
    count = piece.none_failed ∙ so_far.count;
  }

  -- or it fails
  pub fault-passed : (fault : Fault) → ReadsPiece (calls between left middle after) room (Err fault)
      → ReadsAll (calls held left before after) (Err fault)
  fault-passed Words h = absurd h
  fault-passed Hex h = absurd h
  fault-passed TooLarge h = absurd h
  fault-passed Memory h = absurd h
  fault-passed Read h = (
    record { read = read; from = Consumes-kept held between left read so_far.from h.0 },
    h.1 ∙ ap next_count so_far.count,
  )

  -- memory ran out after a call
  pub wanting-passed : (count : ℕ) → IsPiece (calls between left middle after) room count
      → ReadsAll (calls held left before after) (Err Memory)
  wanting-passed count piece = (
    record {
      read = read ++ take count room;
      from = Consumes-then held between left read (take count room) so_far.from piece.from;
    },
    piece.none_failed ∙ so_far.count,
  )

-- there were too many calls
pub endless : (reads : Calls) (read : List ℕ) (turns : ℕ) → IsPassed reads read turns → most_pieces ≤ turns
    → IsEndless reads
endless reads read turns so_far most = record {
  read = read;
  from = so_far.from;
  many = omega (arith, most, so_far.many);
  count = so_far.count;
}
