use Rattle.std.proofs.Common.{◌≡◌, length, take, arith, refl, rules, ◌∙◌}
use Rattle.line_core.proofs.Heard.{fed}
use Rattle.line_core.proofs.framing.Framer.feed.Goals as goal

pub returns : goal.returns
returns c = λ burst h.
    let room : length c.args.self.now.octets ≡ 259 = search rules in
    let run : c.copy_from_slice.new.self ≡ take c.min-more.result c.args.piece.now =
    c.copy_from_slice.ensures.after ∙ grind arith in
    fed c.args.self.now _ burst c.args.piece.now c.copy_from_slice.new.self c.kept-held.result c.min-more.result h
    c.kept-held.ensures.is c.min-more.ensures room run _ refl c.saturating_add-self.ensures
