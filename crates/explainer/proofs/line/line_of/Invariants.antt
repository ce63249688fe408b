use Rattle.std.proofs.Common.{◌≡◌, drop}
use Rattle.explainer.specs.Texts.{line_from}
use Rattle.explainer.proofs.line.line_of.Given as goal

-- the line so far, with the octets that are left, comes to that of the place
abbrev pub invariant-loop-octet : goal.invariant-loop-octet
invariant-loop-octet l = record {
  at : l.at ≡ l.octet-index;
  found : line_from l.at l.line l.place (drop l.octet-index l.text) ≡ line_from 0 (1, 0) l.place l.text;
}
