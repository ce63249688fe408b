-- What is at the front of a buffer that C lends, and that a state spells one end.
use Rattle.std.proofs.Common.{◌≡◌, ℕ, ◌≤◌, List, length, take, Bool, true, false, Option, Some, None, IfSome, IfNone, ap, ◌∙◌}
use Rattle.std.proofs.lemmas.List.{length-take-le}
use denote.Ref.{Bor}
use Rattle.t1_core.specs.declared.lent.LentTerminal.{LentTerminal}
use Rattle.t1_core.specs.declared.lent.LentCard.{LentCard}
use Rattle.t1_core.specs.Terminal.{TerminalState}
use Rattle.t1_core.specs.Card.{CardState}
use Rattle.t1_core.specs.Views.{IsSlice, answered_of, terminal_held}
use Rattle.t1_core.specs.CardViews.{card_held}
use Rattle.c_lent.specs.Verdict.{ok_at, wrong_argument}
use Rattle.c_lent.specs.Kept.{IsTerminal, IsCard, terminal_of, card_of}
use Rattle.c_lent.specs.Lent.{IsAtFront}
use Rattle.c_lent.specs.KeptCheck.{IsCheck, check_of}
use Rattle.tlv_core.specs.declared.lent.LentCheck.{LentCheck}
use Rattle.tlv_core.specs.Check.{Checked}
use Rattle.tlv_core.specs.Lent.{checked_at}
use Rattle.c_lent.specs.declared.kept_check.CCheck.{CCheck}
use Rattle.chain_core.specs.declared.lent.LentReceiver.{LentReceiver}
use Rattle.chain_core.specs.Taking.{Taking}
use Rattle.chain_core.specs.Lent.{received_at}
use Rattle.c_lent.specs.KeptReceiver.{IsReceiver, receiver_of}
use Rattle.c_lent.specs.declared.kept_receiver.CReceiver.{CReceiver}
use Rattle.c_lent.specs.declared.verdict.Verdict.{Verdict}
use Rattle.c_lent.specs.declared.kept.CTerminal.{CTerminal}
use Rattle.c_lent.specs.declared.kept.CCard.{CCard}

same-terminal : (spelled : Option LentTerminal) (p q : LentTerminal) → spelled ≡ Some p → spelled ≡ Some q → p ≡ q
same-terminal spelled p q e f = cc

-- the terminal that a state is is the one that the state spells
pub held-by : (c : CTerminal) (command answer : List ℕ) (t : TerminalState) (p : LentTerminal)
    → terminal_of c ≡ Some p → IsTerminal c command answer t → t ≡ terminal_held p command answer
held-by c command answer t p e is =
    is.held ∙ ap (λ (q : LentTerminal). terminal_held q command answer)
    (same-terminal (terminal_of c) is.end p is.spelled e)

same-card : (spelled : Option LentCard) (p q : LentCard) → spelled ≡ Some p → spelled ≡ Some q → p ≡ q
same-card spelled p q e f = cc

-- the card that a state is is the one that the state spells
pub card-held-by : (c : CCard) (command reply : List ℕ) (t : CardState) (p : LentCard)
    → card_of c ≡ Some p → IsCard c command reply t → t ≡ card_held p command reply
card-held-by c command reply t p e is =
    is.held ∙ ap (λ (q : LentCard). card_held q command reply) (same-card (card_of c) is.end p is.spelled e)

same-check : (spelled : Option LentCheck) (p q : LentCheck) → spelled ≡ Some p → spelled ≡ Some q → p ≡ q
same-check spelled p q e f = cc

-- the check that a state is is the one that the state spells
pub check-held-by : (c : CCheck) (k : Checked) (p : LentCheck) → check_of c ≡ Some p → IsCheck c k → k ≡ checked_at p
check-held-by c k p e is = is.held ∙ ap checked_at (same-check (check_of c) is.check p is.spelled e)

same-receiver : (spelled : Option LentReceiver) (p q : LentReceiver) → spelled ≡ Some p → spelled ≡ Some q → p ≡ q
same-receiver spelled p q e f = cc

-- the receiver that a state and a buffer are is the one that the state spells
pub receiver-held-by : (c : CReceiver) (message : List ℕ) (r : Taking) (p : LentReceiver) → receiver_of c ≡ Some p
    → IsReceiver c message r → r ≡ received_at p message
receiver-held-by c message r p e is = is.held
    ∙ ap (λ (q : LentReceiver). received_at q message) (same-receiver (receiver_of c) is.receiver p is.spelled e)

-- the first octets of a buffer, as the answer
pub answer-at-front : (is_answered : Bool) (n : ℕ) (buffer : List ℕ) (lent : Option (Bor (List ℕ))) (v : Verdict)
    → n ≤ length buffer → IsSlice lent (answered_of is_answered (take n buffer))
    → IfSome lent (λ octets. v ≡ ok_at (length octets.now)) → IfNone lent (v ≡ wrong_argument 0)
    → IsAtFront (answered_of is_answered (take n buffer)) buffer v
answer-at-front false n buffer None v le is some none = none
answer-at-front false n buffer (Some octets) v le is some none = absurd is
answer-at-front true n buffer None v le is some none = absurd is
answer-at-front true n buffer (Some octets) v le is some none = (
  some ∙ ap (λ (l : List ℕ). ok_at (length l)) is,
  ap (λ (k : ℕ). take k buffer) (length-take-le n buffer le),
)
