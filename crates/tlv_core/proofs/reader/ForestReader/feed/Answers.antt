use Rattle.std.proofs.Common.{◌-◌, ◌∙◌, ℕ, ◌++◌, length, take, drop, ap, subst, arith}
use Rattle.std.proofs.lemmas.List.{length-drop}
use Rattle.tlv_core.specs.Read.{IsEndedFeed}
use Rattle.tlv_core.proofs.Fed.{rest_of}
use Rattle.tlv_core.proofs.Reading.{read_more, read_ended}
use Rattle.tlv_core.proofs.reader.ForestReader.feed.Goals as goal

pub loop-taken-preserved : goal.loop-taken-preserved
loop-taken-preserved c =
    let l = c.loop-taken in
    let piece = c.args.piece.now in
    let rest = take (length piece - l.taken) (drop l.taken piece) in (
      omega (
        arith,
        c.in-Ok.ensures.advanced.1,
        ap length (rest_of piece l.taken),
        length-drop l.taken piece,
        l.invariant.0,
      ),
      c.advance.ensures.limit ∙ l.invariant.1,
      λ b h. read_more b piece rest l.taken c.in-Ok.count l.self c.advance.new.self (rest_of piece l.taken)
          (l.invariant.2 b h) c.in-Ok.ensures.advanced.2,
    )

pub returns-in-Err-clause-ended : goal.returns-in-Err-clause-ended
returns-in-Err-clause-ended c b h =
    let l = c.loop-taken in
    let piece = c.args.piece.now in
    let rest = take (length piece - l.taken) (drop l.taken piece) in
    let before = b ++ take l.taken piece in
    let ended = c.in-Err.ensures.advanced before (l.invariant.2 b h) in
    read_ended c.args.self.now.kept.max b piece rest l.taken c.advance.new.self c.in-Err.refused (rest_of piece l.taken)
    l.invariant.0 (subst (λ (max : ℕ). IsEndedFeed max before rest c.advance.new.self 0 c.in-Err.refused)
    l.invariant.1 ended)
