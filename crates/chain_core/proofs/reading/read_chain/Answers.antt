use Rattle.std.proofs.Common.{◌≡◌, ◌+◌, ℕ, arith, refl, sym, subst, inl, inr, ◌∙◌, Option, List}
use Rattle.chain_core.specs.Taking.{Taking, IsOpen, IsClosed}
use Rattle.chain_core.specs.Reads.{Reads}
use Rattle.chain_core.specs.Moving.{HasRead, MovesOn}
use Rattle.chain_core.proofs.Feeds.{open-not-closed}
use Rattle.chain_core.proofs.Ends.{IsEnded, read-none, read-more, read-bound, read-part, finished-reads, answer_of, mapped}
use Rattle.chain_core.proofs.reading.read_chain.Goals as goal
use Rattle.chain_core.proofs.reading.read_chain.Goals.{else-loop-room-test, then-loop-room-test+in-Some-eq0}

pub loop-room-init : goal.loop-room-init
loop-room-init g c = record { so_far = read-none _ c.args.receiver.now; count = refl; closed = λ closed. (refl, refl) }

pub overflow_add-taken : goal.overflow_add-taken
overflow_add-taken g c =
    let m : MovesOn (g.R.Source.remaining c.loop-room.reader) (g.R.Source.remaining c.read_some.new.reader)
    c.loop-room.receiver c.read_some.new.receiver c.in-Some.count = c.in-Some.ensures.moved in
    let bound = read-bound _ _ _ c.args.receiver.now c.loop-room.receiver c.read_some.new.receiver c.loop-room.taken
    c.in-Some.count c.loop-room.invariant.so_far c.loop-room-test.ensures m in
    omega (arith, bound, m.few, m.limit, c.loop-room.invariant.so_far.goes.max)

pub loop-room-smaller : goal.loop-room-smaller
loop-room-smaller g c =
    let m : MovesOn (g.R.Source.remaining c.loop-room.reader) (g.R.Source.remaining c.read_some.new.reader)
    c.loop-room.receiver c.read_some.new.receiver c.in-Some.count = c.in-Some.ensures.moved in
    let bound = read-bound _ _ _ c.args.receiver.now c.loop-room.receiver c.read_some.new.receiver c.loop-room.taken
    c.in-Some.count c.loop-room.invariant.so_far c.loop-room-test.ensures m in
    let some : c.in-Some.count ≡ 0 → ⊥ = c.in-Some.count-test.1 in
    omega (arith, bound, some)

pub loop-room-preserved : goal.loop-room-preserved
loop-room-preserved g c =
    let m : MovesOn (g.R.Source.remaining c.loop-room.reader) (g.R.Source.remaining c.read_some.new.reader)
    c.loop-room.receiver c.read_some.new.receiver c.in-Some.count = c.in-Some.ensures.moved in
    let free : IsOpen c.loop-room.receiver = c.loop-room-test.ensures in
    record {
      so_far = read-more _ _ _ c.args.receiver.now c.loop-room.receiver c.read_some.new.receiver c.loop-room.taken
          c.in-Some.count c.loop-room.invariant.so_far free m;
      count = c.in-Some.ensures.none_failed ∙ c.loop-room.invariant.count;
      closed = λ closed. absurd (open-not-closed c.loop-room.receiver free
          (subst IsClosed (sym (c.loop-room.invariant.closed closed).1) closed));
    }

pub returns-in-None-clause-reads : goal.returns-in-None-clause-reads
returns-in-None-clause-reads g c =
    read-part _ _ _ c.args.receiver.now c.loop-room.receiver c.read_some.new.receiver c.loop-room.taken
    c.loop-room.invariant.so_far c.loop-room-test.ensures c.in-None.ensures.nothing.0 c.in-None.ensures.nothing.1

pub returns-clause-reads : goal.returns-clause-reads
returns-clause-reads g c =
    let old : Taking = c.args.receiver.now in
    let new : Taking = c.loop-room-test.receiver in
    let held : Option (List ℕ) = g.R.Source.remaining c.args.reader.now in
    let left : Option (List ℕ) = g.R.Source.remaining c.loop-room-test.reader in
    let so_far : (taken : ℕ) × HasRead held left old new taken × IsEnded left new × (IsClosed old → new ≡ old) =
    elim c.loop-room-test.branch [
      | else-loop-room-test w ↦ rw (w.reader-is, w.receiver-is) (
        c.loop-room.taken,
        c.loop-room.invariant.so_far,
        inl w.loop-room-test.ensures,
        λ closed.
            (c.loop-room.invariant.closed closed).1,
      )
      | then-loop-room-test+in-Some-eq0 w ↦
          let m : MovesOn (g.R.Source.remaining c.loop-room.reader) (g.R.Source.remaining w.read_some.new.reader)
          c.loop-room.receiver w.read_some.new.receiver w.in-Some-eq0.field-0 = w.in-Some-eq0.ensures.moved in
          let free : IsOpen c.loop-room.receiver = w.loop-room-test.ensures in
          rw (w.reader-is, w.receiver-is) (
            c.loop-room.taken + w.in-Some-eq0.field-0,
            read-more _ _ _ old c.loop-room.receiver w.read_some.new.receiver c.loop-room.taken w.in-Some-eq0.field-0
                c.loop-room.invariant.so_far free m,
            inr (m.still w.in-Some-eq0.field-0-test, m.end w.in-Some-eq0.field-0-test),
            λ closed. absurd (open-not-closed c.loop-room.receiver free
                (subst IsClosed (sym (c.loop-room.invariant.closed closed).1) closed)),
          )
    ] in
    let result : answer_of c.finish.result ≡ c.map_err.result =
    mapped c.finish.result c.map_err.result c.map_err.ensures.cases in
    subst (Reads held left old new) result
    (finished-reads held left old new so_far.0 so_far.1 so_far.2 so_far.3 c.finish.result c.finish.ensures.finished
    c.finish.ensures.done c.finish.ensures.waits)
