use Rattle.std.proofs.Common.{ap, subst, arith}
use Rattle.tlv_core.specs.TagPart.{part_octets, IsTagPart}
use Rattle.octet_core.specs.Grammar.{IsFirst}
use Rattle.tlv_core.specs.Dol.{IsWrongEntry, dol_reasons}
use Rattle.tlv_core.specs.declared.reason.DolReason.TheVariants.{TagZero, TagSecond, TagLong}
use Rattle.tlv_core.proofs.Listing.{err_of, line_zero, line_second, line_third}
use Rattle.tlv_core.proofs.entry_walk.entry_next.Goals as goal

pub returns-in-Nothing-clause-err : goal.returns-in-Nothing-clause-err
returns-in-Nothing-clause-err c = err_of _ _
    (IsFirst dol_reasons (IsWrongEntry (part_octets c.args.part) c.args.octet)) c.tag_first.result TagZero
    c.ok_or.result c.tag_first.ensures (line_zero (part_octets c.args.part) c.args.octet
    (ap part_octets c.in-Nothing.is)) c.ok_or.ensures.value

pub returns-in-First-clause-err : goal.returns-in-First-clause-err
returns-in-First-clause-err c =
    let part = subst IsTagPart c.in-First.is c.requires in
    err_of _ _ (IsFirst dol_reasons (IsWrongEntry (part_octets c.args.part) c.args.octet)) c.tag_second.result
    TagSecond c.ok_or-in-First.result c.tag_second.ensures
    (line_second c.in-First.first c.args.octet (part_octets c.args.part) (ap part_octets c.in-First.is)
    part.1) c.ok_or-in-First.ensures.value

pub returns-in-Second-clause-err : goal.returns-in-Second-clause-err
returns-in-Second-clause-err c =
    let part = subst IsTagPart c.in-Second.is c.requires in
    err_of _ _ (IsFirst dol_reasons (IsWrongEntry (part_octets c.args.part) c.args.octet)) c.tag_third.result
    TagLong c.ok_or-in-Second.result c.tag_third.ensures
    (line_third c.in-Second.first c.in-Second.second c.args.octet (part_octets c.args.part)
    (ap part_octets c.in-Second.is) part.1 (omega (arith, part.2))) c.ok_or-in-Second.ensures.value
