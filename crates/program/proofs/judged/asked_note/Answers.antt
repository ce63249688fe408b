use Rattle.std.proofs.Common.{◌≡◌, string_bytes}
use Rattle.explainer.specs.Notes.{least_of, verdict_text}
use Rattle.program.proofs.Explaining.{says-asked, says-nothing}
use Rattle.program.proofs.judged.asked_note.Goals as goal

pub returns-then-not-explains : goal.returns-then-not-explains
returns-then-not-explains g c = says-nothing c.args.explains
    (λ said. said ≡ verdict_text g.R.Explained.says c.args.octets.now (least_of c.args.kind c.args.octets.now)
    c.args.verdict) (string_bytes c.new.result) c.if-not-explains.true c.new.ensures.bytes

pub returns : goal.returns
returns g c = says-asked c.args.explains
    (λ said. said ≡ verdict_text g.R.Explained.says c.args.octets.now (least_of c.args.kind c.args.octets.now)
    c.args.verdict) c.verdict_note.result c.if-not-explains.false (rw c.least_wanting.ensures at c.verdict_note.ensures)
