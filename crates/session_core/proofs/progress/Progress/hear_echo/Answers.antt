use Rattle.session_core.specs.Wire.{ruled}
use Rattle.session_core.specs.Wire.{seen}
use Rattle.std.proofs.Common.{◌≡◌, ◌-◌, length, take, drop, arith}
use Rattle.std.proofs.lemmas.List.{take_all, length-drop}
use Rattle.std.proofs.lemmas.Bool.{lt-ltb, le-ltb}
use Rattle.session_core.specs.Wire.{hears_echo}
use Rattle.session_core.proofs.Parts.{is_step}
use Rattle.session_core.proofs.progress.Progress.hear_echo.Goals as goal

pub returns-then-octets-rest : goal.returns-then-octets-rest
unfolding hears_echo
returns-then-octets-rest c = λ burst h.
    is_step
    (hears_echo (ruled c.args.rules.now) (seen c.args.self.now) burst c.args.octets.now c.args.rest.now c.args.now
    c.args.block.now)
    (seen c.wait.new.self) burst c.wait.result c.args.framer.now
    (rw (lt-ltb _ _ c.if-octets-rest.true)
    (rw c.added-self.ensures at (rw c.echo_wait-wanted.ensures at (c.wait.ensures burst)))) h

pub returns-else-octets-rest : goal.returns-else-octets-rest
unfolding hears_echo
returns-else-octets-rest c = λ burst h.
    let rest : take (length c.args.octets.now - length c.args.rest.now)
    (drop (length c.args.rest.now) c.args.octets.now)
    ≡ drop (length c.args.rest.now) c.args.octets.now =
    take_all (length c.args.octets.now - length c.args.rest.now) (drop (length c.args.rest.now) c.args.octets.now)
    (omega (arith, length-drop (length c.args.rest.now) c.args.octets.now)) in
    rw (le-ltb _ _ c.if-octets-rest.false) (rw rest at (c.follow.ensures burst h))
