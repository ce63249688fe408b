use Rattle.std.proofs.Common.{◌≡◌, drop}
use Rattle.explainer.specs.Pairs.{digit_from}
use Rattle.explainer.proofs.pairs.wrong_digit.Given as goal

-- the octets that are left have the first one that is no digit
abbrev pub invariant-loop-octet : goal.invariant-loop-octet
invariant-loop-octet l = record {
  at : l.place ≡ l.octet-index;
  found : digit_from l.place (drop l.octet-index l.word) ≡ digit_from 0 l.word;
}
