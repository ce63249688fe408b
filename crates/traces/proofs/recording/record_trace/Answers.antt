use Rattle.std.proofs.Common.{◌≡◌, List, sym, subst, true}
use Rattle.traces.specs.Rising.{rises}
use Rattle.traces.specs.declared.trace.Item.{Item}
use Rattle.traces.proofs.Noted.{noted-proper}
use Rattle.traces.proofs.recording.record_trace.Goals as goal

pub proper-requires : goal.proper-requires
proper-requires c =
    let items = c.items-items.result.now in
    let rising = subst (λ (l : List Item). rises 0 l ≡ true) (sym c.items-items.ensures.items)
    c.items-items.ensures.rising in
    rw (
      c.version_with-version.ensures,
      c.version_of.ensures,
      c.in_ok-lines-2.ensures,
      c.in_ok-lines.ensures.lines,
      c.as_slice.ensures.value,
      c.as_slice-2.ensures.value,
      c.in_ok-lines.ensures.unseen,
    )
    (noted-proper c.in-Ok.params.ifsc items rising)
