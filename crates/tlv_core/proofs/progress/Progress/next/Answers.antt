use Rattle.std.proofs.Common.{◌-◌, length, sym, ◌∙◌, arith}
use Rattle.std.proofs.lemmas.Result.{err_from_is_err_and}
use Rattle.std.proofs.lemmas.Bool.{false≢true}
use Rattle.tlv_core.specs.Header.{header_octets}
use Rattle.tlv_core.specs.Reasons.{room_of}
use Rattle.tlv_core.specs.Open.{rooms_to}
use Rattle.tlv_core.specs.OpenEnds.{ends_of}
use Rattle.tlv_core.proofs.Refusals.{first_deep, first_octet, first_room, next_right, need_is}
use Rattle.tlv_core.proofs.Ends.{length-rooms}
use Rattle.tlv_core.proofs.progress.Progress.next.Goals as goal

pub returns-then-is_too_deep-clause-err : goal.returns-then-is_too_deep-clause-err
returns-then-is_too_deep-clause-err c =
    let s = c.args.self.now in
    let rooms = rooms_to s.ends.count (ends_of s.ends) in
    first_deep (length rooms) (room_of (s.ends.max - s.ends.count) rooms) (header_octets s.header) c.args.octet
    (c.is_too_deep.ensures.0 c.if-is_too_deep.true)

pub returns-in_err-next-clause-err : goal.returns-in_err-next-clause-err
returns-in_err-next-clause-err c =
    let s = c.args.self.now in
    let rooms = rooms_to s.ends.count (ends_of s.ends) in
    let p = err_from_is_err_and c.from_residual.result c.from_residual.ensures.1 in
    rw (p.1, p.2) (first_octet (length rooms) (room_of (s.ends.max - s.ends.count) rooms) (header_octets s.header)
    c.args.octet
    c.in_err-next.field-0.0 (λ w. false≢true (sym c.if-is_too_deep.false ∙ c.is_too_deep.ensures.1 w))
    c.in_err-next.ensures.err)

pub returns-then-room-need-clause-err : goal.returns-then-room-need-clause-err
returns-then-room-need-clause-err c =
    let s = c.args.self.now in
    let rooms = rooms_to s.ends.count (ends_of s.ends) in
    let room = room_of (s.ends.max - s.ends.count) rooms in
    let h = header_octets s.header in
    let follows = c.in_ok-next.ensures.ok in
    let first = first_room (length (ends_of s.ends)) (length rooms) room h c.args.octet
    (length-rooms s.ends.count (ends_of s.ends))
    (λ w. false≢true (sym c.if-is_too_deep.false ∙ c.is_too_deep.ensures.1 w))
    (next_right s.header c.args.octet c.in_ok-next.next s.well follows)
    (omega (
      arith,
      need_is h c.args.octet c.in_ok-next.next follows,
      c.if-room-need.true,
      c.room.ensures,
      c.need.ensures,
    )) in
    rw c.overrun.ensures first
