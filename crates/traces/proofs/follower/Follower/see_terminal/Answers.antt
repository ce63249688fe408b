use Rattle.std.proofs.Common.{◌≡◌, ◌∙◌, ap, sym, rules}
use Rattle.traces.specs.declared.standing.Standing.{Standing}
use Rattle.traces.specs.Following.{from_terminal, released}
use Rattle.traces.specs.Matching.{match_of}
use Rattle.traces.proofs.Followed.{releases-stand}
use Rattle.traces.proofs.follower.Follower.see_terminal.Goals as goal

pub returns-clause-follows : goal.returns-clause-follows
unfolding from_terminal
returns-clause-follows c =
    let octets = c.args.octets.now in
    let met : c.in_ok-met.met ≡ match_of (released c.move_terminal.new.self).terminal_is octets =
    c.in_ok-met.ensures.matched
    ∙ ap (λ (s : Standing). match_of s octets) (sym (releases-stand c.move_terminal.new.self).1) in
    search (rules, met)
