use Rattle.std.proofs.Common.{◌≡◌, drop}
use Rattle.explainer.specs.Texts.{stray_from}
use Rattle.explainer.proofs.hexadecimal.stray.Given as goal

-- the octets that are left have the first one that may not stand
abbrev pub invariant-loop-octet : goal.invariant-loop-octet
invariant-loop-octet l = record {
  at : l.place ≡ l.octet-index;
  found : stray_from l.place l.ahead l.last (drop l.octet-index l.text) ≡ stray_from 0 32 32 l.text;
}
