use Rattle.std.proofs.Common.{◌≡◌, ◌∙◌, ℕ, List, length, sym, subst, refl, arith}
use Rattle.octet_core.specs.Grammar.{RefusesUnlessMemory, whole}
use Rattle.apdu_core.specs.Command.{IsCommand, IsReason}
use Rattle.octet_core.proofs.Verdicts.{not_both}
use Rattle.stack_laws.proofs.pieces.command_in_two_pieces.Goals as goal

pub unreachable-requires : goal.unreachable-requires
unreachable-requires c =
    let sent = c.in_ok-chain.ensures in
    let b : List ℕ = sent.0 in
    let m : List ℕ = c.unwrap.result.now in
    let arrived = c.in_ok-receiver.ensures b sent.1.octets
    (omega (arith, (c.lengths.ensures.command c.args.command.now b sent.1).1)) (c.as_slice.ensures.value ∙ sent.2)
    in
    let message = rw c.unwrap.ensures at c.message.ensures.done in
    let is : m ≡ b = message.2 ∙ arrived.2 in
    let refused = subst (RefusesUnlessMemory whole IsCommand IsReason m) c.in-Err-Stop.field-0-is
    c.in-Err-Stop.ensures.refused in
    not_both whole IsCommand IsReason m c.args.command.now (length m) c.in-Err-Stop.field-0-0
    (refl, subst (IsCommand c.args.command.now) (sym is) sent.1) refused
