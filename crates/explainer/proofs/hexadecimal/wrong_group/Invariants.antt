use Rattle.std.proofs.Common.{◌≡◌, ◌≤◌, drop}
use Rattle.explainer.specs.Texts.{group_from}
use Rattle.explainer.proofs.hexadecimal.wrong_group.Given as goal

-- the group under way and the octets that are left have the first group that is wrong
abbrev pub invariant-loop-octet : goal.invariant-loop-octet
invariant-loop-octet l = record {
  at : l.place ≡ l.octet-index;
  few : l.count ≤ l.place;
  found : group_from l.place l.count l.ahead l.last (drop l.octet-index l.text) ≡ group_from 0 0 32 32 l.text;
}
