-- Every input has one verdict as a command, and one as a response.
use Rattle.std.proofs.Common.{ℕ, ◌+◌, List, [], ◌∷◌, take, refl, arith, inl, inr}
use Rattle.std.proofs.lemmas.Bool.{cases_lt}
use Rattle.std.proofs.lemmas.List.{length-take}
use Rattle.octet_core.specs.Octets.{AreOctets}
use Rattle.octet_core.specs.Grammar.{whole, Begins, OneVerdict, IsFirst}
use Rattle.octet_core.proofs.Firsts.{first_once}
use Rattle.octet_core.proofs.Lists.{octets-take}
use Rattle.octet_core.proofs.Verdicts.{Scan, whole_verdict}
use Rattle.apdu_core.specs.declared.reason.CommandReason.TheVariants.{Trailing}
use Rattle.apdu_core.specs.declared.reason.ResponseReason.TheVariants.{TooLong}
use Rattle.apdu_core.specs.Command as command
use Rattle.apdu_core.specs.Command.{IsCommand}
use Rattle.apdu_core.specs.Response as response
use Rattle.apdu_core.specs.Response.{IsResponse}
use Rattle.apdu_core.proofs.Unique.{one-command, one-response}
use Rattle.apdu_core.proofs.Reasons.{trailing-stuck, begins-unless, response-begins, long-stuck}
use Rattle.apdu_core.proofs.Verdicts.{command-spelled, response-spelled, trailing, trailing-none}

-- from the first octets a command goes on, octet by octet, or one of them trails
command-scan : (b : List ℕ) → AreOctets b → Scan IsCommand command.IsReason b (λ n. Begins IsCommand (take n b))
unfolding IsFirst
command-scan b octets = record {
  one_value = λ v w p q. one-command v w b p q;
  one_reason = λ r s c. first_once (Trailing ∷ []) (command.Meets c) r s;
  stops = λ r c reason. elim reason [ inl h ↦ trailing-stuck c h.0 | inr h ↦ absurd h.1 ];
  nothing = begins-unless [] (λ i. omega arith) trailing-none;
  next = λ n lt begun. elim (trailing (take (n + 1) b)) [
    | inl t ↦ inr (Trailing, inl (t, refl))
    | inr not_so ↦ inl (begins-unless (take (n + 1) b) (octets-take (n + 1) b octets) not_so)
  ];
  begun = λ n le begun. begun;
  told = λ begun. command-spelled b octets;
}

-- from the first 65,538 octets a response goes on, and from none more
response-scan : (b : List ℕ) → AreOctets b → Scan IsResponse response.IsReason b (λ n. Begins IsResponse (take n b))
unfolding IsFirst
response-scan b octets = record {
  one_value = λ v w p q. one-response v w b p q;
  one_reason = λ r s c. first_once (TooLong ∷ []) (response.Meets c) r s;
  stops = λ r c reason. elim reason [ inl h ↦ long-stuck c (omega (arith, h.0)) | inr h ↦ absurd h.1 ];
  nothing = response-begins [] (λ i. omega arith) (omega arith);
  next = λ n lt begun. elim (cases_lt 65538 (n + 1)) [
    | inl over ↦ elim (cases_lt 65538 n) [
      | inl more ↦ absurd (long-stuck (take n b) (omega (arith, length-take n b, lt, more)) begun)
      | inr most ↦ inr (TooLong, inl (omega (arith, length-take (n + 1) b, lt, over, most), refl))
    ]
    | inr le ↦ inl (response-begins (take (n + 1) b) (octets-take (n + 1) b octets)
        (omega (arith, length-take (n + 1) b, le)))
  ];
  begun = λ n le begun. begun;
  told = λ begun. response-spelled b octets;
}

-- whatever octets come, there is one verdict on them as a command
pub command-one_verdict : (b : List ℕ) → AreOctets b → OneVerdict whole IsCommand command.IsReason b
command-one_verdict b octets =
    whole_verdict IsCommand command.IsReason b (λ n. Begins IsCommand (take n b)) (command-scan b octets)

-- and one as a response
pub response-one_verdict : (b : List ℕ) → AreOctets b → OneVerdict whole IsResponse response.IsReason b
response-one_verdict b octets =
    whole_verdict IsResponse response.IsReason b (λ n. Begins IsResponse (take n b)) (response-scan b octets)
