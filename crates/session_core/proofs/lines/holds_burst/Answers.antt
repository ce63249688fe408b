use Rattle.std.proofs.Common.{◌≡◌, ◌≤◌, length, arith, rules}
use Rattle.line_core.specs.Bursts.{handed, most_counted}
use Rattle.session_core.proofs.Known.{some-burst}
use Rattle.session_core.proofs.lines.holds_burst.Goals as goal

pub returns-clause-burst : goal.returns-clause-burst
returns-clause-burst c =
    let room : length c.args.framer.now.octets ≡ handed = search rules in
    let most : c.args.framer.now.count ≤ most_counted = omega arith in
    some-burst c.args.framer.now room most
