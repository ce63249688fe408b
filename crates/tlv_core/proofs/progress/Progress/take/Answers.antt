use Rattle.std.proofs.Common.{length, arith}
use Rattle.std.proofs.lemmas.List.{length-take}
use Rattle.tlv_core.specs.OpenEnds.{ends_of}
use Rattle.tlv_core.proofs.Ends.{shallow_next, length-rooms}
use Rattle.tlv_core.proofs.progress.Progress.take.Goals as goal

pub accept-requires-clause-shallow : goal.accept-requires-clause-shallow
accept-requires-clause-shallow c =
    let s = c.args.self.now in
    let e = s.ends in
    let step = c.in_ok-next.ensures.ok in
    shallow_next s.header c.args.octet (length (ends_of e)) c.in_ok-next.next s.well s.shallow step.follows
    (λ h full. step.shallow h
    (omega (arith, length-rooms e.count (ends_of e), e.levels, length-take e.level e.places, full)))
