use Rattle.std.proofs.Common.{◌∙◌, ℕ, ap, arith, refl, rules, take}
use Rattle.std.proofs.lemmas.List.{length-take}
use Rattle.program.proofs.Turns.{at-end, memory-out, nothing-heard, piece-heard, read-failed, text-told, text-untold, used-up}
use Rattle.program.proofs.lines.answer_lines.Goals as goal

pub returns-in-Err : goal.returns-in-Err
returns-in-Err g c =
    text-untold _ _ _ c.loop-turn.answered.line.items c.loop-turn.answered.text.items c.loop-turn.answered.status
    c.loop-turn._turn c.loop-turn.invariant.so_far _ c.in-Err.field-0.written
    c.in-Err.ensures.untold

pub returns-in-Ok-eq0 : goal.returns-in-Ok-eq0
returns-in-Ok-eq0 g c =
    let done = text-told _ _ _ c.loop-turn.answered.line.items c.loop-turn.answered.text.items
    c.loop-turn.answered.status
    c.loop-turn._turn c.loop-turn.invariant.so_far _ c.tell_kept.new.text.items c.in-Ok.ensures.empty
    c.in-Ok.ensures.answer in
    at-end _ _ _ c.loop-turn.answered.line.items c.tell_kept.new.text.items c.loop-turn.answered.status
    c.loop-turn._turn done c.in-Ok.ensures.empty _ _ (take c.in-Ok-eq0.field-0 c.hear.new.room) c.ended.result
    (ap (λ (n : ℕ). take n c.hear.new.room) c.in-Ok-eq0.field-0-test) c.in-Ok-eq0.ensures.said
    (rw c.loop-turn.invariant.line_task at c.ended.ensures)

pub returns-in-Err-feed : goal.returns-in-Err-feed
returns-in-Err-feed g c =
    let done = text-told _ _ _ c.loop-turn.answered.line.items c.loop-turn.answered.text.items
    c.loop-turn.answered.status
    c.loop-turn._turn c.loop-turn.invariant.so_far _ c.tell_kept.new.text.items c.in-Ok.ensures.empty
    c.in-Ok.ensures.answer in
    memory-out _ _ _ c.loop-turn.answered.line.items c.tell_kept.new.text.items c.loop-turn.answered.status
    c.loop-turn._turn done c.in-Ok.ensures.empty _ _ (take c.in-Ok-hear.count c.hear.new.room)
    c.feed.new.self.text.items c.faulted.result c.in-Ok-hear.ensures.said
    (omega (
      arith,
      c.in-Ok-hear.ensures.bound,
      c.in-Ok-hear.count-test,
      length-take c.in-Ok-hear.count c.hear.new.room,
    ))
    (rw c.loop-turn.invariant.line_task at c.in-Err-feed.ensures.begun) c.faulted.ensures

pub returns-in-Err-hear : goal.returns-in-Err-hear
returns-in-Err-hear g c =
    let done = text-told _ _ _ c.loop-turn.answered.line.items c.loop-turn.answered.text.items
    c.loop-turn.answered.status
    c.loop-turn._turn c.loop-turn.invariant.so_far _ c.tell_kept.new.text.items c.in-Ok.ensures.empty
    c.in-Ok.ensures.answer in
    read-failed _ _ _ c.loop-turn.answered.line.items c.tell_kept.new.text.items c.loop-turn.answered.status
    c.loop-turn._turn done c.in-Ok.ensures.empty _ _ c.faulted-in-Err-hear.result
    c.in-Err-hear.ensures.said c.faulted-in-Err-hear.ensures

pub loop-turn-preserved : goal.loop-turn-preserved
loop-turn-preserved g c =
    let done = text-told _ _ _ c.loop-turn.answered.line.items c.loop-turn.answered.text.items
    c.loop-turn.answered.status
    c.loop-turn._turn c.loop-turn.invariant.so_far _ c.tell_kept.new.text.items c.in-Ok.ensures.empty
    c.in-Ok.ensures.answer in
    record {
      line_task = c.in-Ok-feed.ensures.line_task ∙ c.loop-turn.invariant.line_task;
      so_far = piece-heard _ _ _ c.loop-turn.answered.line.items c.tell_kept.new.text.items c.loop-turn.answered.status
          c.loop-turn._turn done c.in-Ok.ensures.empty _ (take c.in-Ok-hear.count c.hear.new.room)
          c.feed.new.self.line.items c.feed.new.self.text.items c.feed.new.self.status c.in-Ok-hear.ensures.said
          (omega (
            arith,
            c.in-Ok-hear.ensures.bound,
            c.in-Ok-hear.count-test,
            length-take c.in-Ok-hear.count c.hear.new.room,
          ))
          (rw c.loop-turn.invariant.line_task at c.in-Ok-feed.ensures.said);
    }

pub returns : goal.returns
returns g c =
    used-up _ _ _ c.loop-turn.answered.line.items c.loop-turn.answered.text.items c.loop-turn.answered.status
    c.loop-turn._turn c.loop-turn.invariant.so_far _ c.faulted-2.result (omega (arith, c.loop-turn-test.false))
    c.faulted-2.ensures

pub loop-turn-init : goal.loop-turn-init
loop-turn-init g c = record { line_task = refl; so_far = nothing-heard _ _ _ _ (search rules) (search rules) }
