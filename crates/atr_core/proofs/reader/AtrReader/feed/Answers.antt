use Rattle.std.proofs.Common.{◌≡◌, ◌∙◌, Bool, Err, Ok, arith, length, sym, true, ap, subst}
use Rattle.std.proofs.lemmas.List.{length-take}
use Rattle.octet_core.specs.Reader.{IsFed}
use Rattle.octet_core.specs.declared.stop.Stop.{Stop}
use Rattle.atr_core.specs.declared.reason.AtrReason.{AtrReason}
use Rattle.atr_core.specs.Atr.{IsAtr, IsReason}
use Rattle.atr_core.specs.Taking.{HasTaken, Taking, refusal_of}
use Rattle.atr_core.specs.Stage.{Agrees, taking_of}
use Rattle.atr_core.specs.declared.reader.Stage.{Stage}
use Rattle.atr_core.specs.declared.reader.Stage.TheVariants.{Taken, Refused}
use Rattle.atr_core.proofs.Feeding.{fed, fed-full, fed-refused, holds-few, total-few}
use Rattle.atr_core.proofs.reader.AtrReader.feed.Goals as goal

pub returns-then-is_whole : goal.returns-then-is_whole
returns-then-is_whole c =
    let p = c.in-Taken.partial in
    let agrees = subst (λ (s : Stage). Agrees s c.self.inside.octets.items) c.in-Taken.is c.self.invariant in
    let old : taking_of (Taken p) ≡ c.args.self.now = ap taking_of (sym c.in-Taken.is) ∙ c.self.view_is in
    subst (λ (s : Taking). IsFed IsAtr IsReason HasTaken refusal_of s (taking_of (Taken p)) c.args.piece.now
    (Ok (0, true))) old (fed-full p c.args.piece.now agrees.0 (sym c.if-is_whole.ensures))

pub push_all-requires : goal.push_all-requires
push_all-requires c =
    let p = c.in-Taken.partial in let q = c.take_piece.new.self in let n = c.in-Ok.taken in
    let agrees = subst (λ (s : Stage). Agrees s c.self.inside.octets.items) c.in-Taken.is c.self.invariant in (
      omega arith,
      omega (
        arith,
        ap length agrees.1,
        length-take n c.args.piece.now,
        total-few p q c.args.piece.now n c.in-Ok.ensures,
        holds-few q c.in-Ok.ensures.0,
      ),
    )

pub returns-in-Ok : goal.returns-in-Ok
returns-in-Ok c =
    let p = c.in-Taken.partial in let q = c.take_piece.new.self in let n = c.in-Ok.taken in
    let agrees = subst (λ (s : Stage). Agrees s c.self.inside.octets.items) c.in-Taken.is c.self.invariant in
    let old : taking_of (Taken p) ≡ c.args.self.now = ap taking_of (sym c.in-Taken.is) ∙ c.self.view_is in
    let IsFedSo : Taking → Bool → Type 0 =
    λ s b. IsFed IsAtr IsReason HasTaken refusal_of s (taking_of (Taken q)) c.args.piece.now (Ok (n, b)) in
    subst (λ (s : Taking). IsFedSo s c.is_whole-in-Ok.result) old
    (subst (IsFedSo (taking_of (Taken p))) (sym c.is_whole-in-Ok.ensures)
    (fed p q c.args.piece.now n agrees.0 (sym c.if-is_whole.ensures) c.in-Ok.ensures))

pub returns-in-Err : goal.returns-in-Err
returns-in-Err c =
    let p = c.in-Taken.partial in let q = c.take_piece.new.self in let r = c.in-Err.refusal in
    let agrees = subst (λ (s : Stage). Agrees s c.self.inside.octets.items) c.in-Taken.is c.self.invariant in
    let old : taking_of (Taken p) ≡ c.args.self.now = ap taking_of (sym c.in-Taken.is) ∙ c.self.view_is in
    let IsFedSo : Taking → Stop AtrReason → Type 0 =
    λ s stop. IsFed IsAtr IsReason HasTaken refusal_of s (taking_of (Refused r)) c.args.piece.now (Err stop) in
    subst (λ (s : Taking). IsFedSo s c.stop-in-Err.result) old
    (subst (IsFedSo (taking_of (Taken p))) (sym c.stop-in-Err.ensures)
    (fed-refused p q c.args.piece.now r agrees.0 (sym c.if-is_whole.ensures) c.in-Err.ensures))
