use Rattle.std.proofs.Common.{sym, subst, Option, Some}
use Rattle.octet_core.specs.Grammar.{IsFirst}
use Rattle.tlv_core.specs.declared.reason.TlvReason.{TlvReason}
use Rattle.tlv_core.specs.Reasons.{Kept, tlv_reasons}
use Rattle.tlv_core.specs.Steps.{IsWrongAfter}
use Rattle.tlv_core.specs.Check.{IsRefusable, refusal_at}
use Rattle.tlv_core.specs.Lent.{kept_at}
use Rattle.tlv_core.proofs.lent.LentCheck.may_refuse.Goals as goal

pub returns-then-self-eq0-clause-yes : goal.returns-then-self-eq0-clause-yes
returns-then-self-eq0-clause-yes c = λ yes.
    let p = c.args.self.now in
    let some = c.may_refuse.ensures.yes yes in
    subst (λ (o : Option TlvReason). IsRefusable (kept_at p) (refusal_at p.count o)) (sym c.in-Some.is) (
      c.if-self-eq0.true,
      some.0,
      some.1,
      subst (λ (k : Kept). IsFirst tlv_reasons (IsWrongAfter k some.0) c.in-Some.reason) c.of.ensures some.2,
    )

pub returns-then-self-eq0-clause-no : goal.returns-then-self-eq0-clause-no
returns-then-self-eq0-clause-no c = λ may.
    let p = c.args.self.now in
    let some : IsRefusable (kept_at p) (refusal_at p.count (Some c.in-Some.reason)) =
    subst (λ (o : Option TlvReason). IsRefusable (kept_at p) (refusal_at p.count o)) c.in-Some.is may in
    c.may_refuse.ensures.no some.1 some.2
    (subst (λ (k : Kept). IsFirst tlv_reasons (IsWrongAfter k some.1) c.in-Some.reason) (sym c.of.ensures) some.3)
