use Rattle.std.proofs.Common.{string_bytes, sym}
use Rattle.program_octets.specs.Places.{ranges_of}
use Rattle.program_octets.proofs.Rendering.{items-noted, items-plain, line-with, on-ok}
use Rattle.program_octets.proofs.rows.Rows.push.Goals as goal

pub returns-in-Lines : goal.returns-in-Lines
returns-in-Lines g c =
    on-ok _ _ c.push_line.result (line-with c.args.self.now c.self.inside.layout c.self.inside.noted
    (string_bytes c.self.inside.text) (string_bytes c.self.inside.notes) (g.L.RowLine.line c.args.line.now)
    (g.N.LineNote.note c.args.note.now) (string_bytes c.push_line.new.text)
    (ranges_of c.args.place.now) (sym c.self.view_is) c.in-Lines.is)
    c.push_line.ensures

pub returns-then-self : goal.returns-then-self
returns-then-self g c =
    on-ok _ _ c.push_item.result (items-noted c.args.self.now c.push_item.new.self c.self.inside.layout
    c.self.inside.noted (string_bytes c.self.inside.text) (string_bytes c.self.inside.notes)
    (g.L.RowLine.line c.args.line.now) (g.N.LineNote.note c.args.note.now) (string_bytes c.push_place.new.items)
    (ranges_of c.args.place.now) (sym c.self.view_is) c.in-Json.is c.if-self.true
    (c.in_ok-push_place-in-Json.ensures))
    c.push_item.ensures

pub returns-else-self : goal.returns-else-self
returns-else-self g c =
    items-plain c.args.self.now c.self.inside.layout c.self.inside.noted (string_bytes c.self.inside.text)
    (string_bytes c.self.inside.notes) (g.L.RowLine.line c.args.line.now) (g.N.LineNote.note c.args.note.now)
    (string_bytes c.push_place.new.items) (ranges_of c.args.place.now) (sym c.self.view_is) c.in-Json.is
    c.if-self.false c.in_ok-push_place-in-Json.ensures
