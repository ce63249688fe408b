use Rattle.std.proofs.Common.{◌∙◌, [], List, ap}
use Rattle.program_octets.specs.Rows.{Row, Sheet, with_rows}
use Rattle.program_octets.proofs.Rendering.{lines-rendered}
use Rattle.program_octets.proofs.shown.lines_of.Goals as goal

pub returns : goal.returns
returns g c =
    let rows : List Row = g.V.Showable.rows c.args.value.now c.args.taken in
    c.into_lines.ensures ∙ ap (λ (s : Sheet). s.text) c.in_ok-push_rows.ensures
    ∙ ap (λ (s : Sheet). (with_rows s rows).text) c.in_ok-rows.ensures ∙ lines-rendered c.args.noted [] [] rows
