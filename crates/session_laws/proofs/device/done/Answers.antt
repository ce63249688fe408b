use Rattle.std.proofs.Common.{rules, refl}
use Rattle.line_core.specs.Timed.{came, deaf, said, unsaid}
use Rattle.session_laws.proofs.Runs.{said-asked, unsaid-asked, came-asked, deaf-asked, came-event, some-octets, none-came}
use Rattle.session_laws.proofs.device.done.Goals as goal

pub returns-in-Ok-clause-called : goal.returns-in-Ok-clause-called
returns-in-Ok-clause-called g c = (said _, c.in-Ok.ensures, said-asked _ _ _ _ c.in-Send.is (search rules), refl, refl)

pub returns-in-Err-clause-called : goal.returns-in-Err-clause-called
returns-in-Err-clause-called g c = (
  unsaid _ _,
  c.in-Err.ensures,
  unsaid-asked _ _ _ _ _ c.in-Send.is (search rules),
  refl,
  refl,
)

pub returns-in-Ok-eq0-clause-called : goal.returns-in-Ok-eq0-clause-called
returns-in-Ok-eq0-clause-called g c =
    let silent = none-came c.in-Wait.time c.in-Ok-eq0.field-0 c.receive.new.room c.in-Ok-eq0.field-0-test in
    (came _ _, c.in-Ok-eq0.ensures.heard, came-asked _ _ _ _ c.in-Wait.is, silent.0, silent.1)

pub returns-in-Ok-receive-clause-called : goal.returns-in-Ok-receive-clause-called
returns-in-Ok-receive-clause-called g c = (
  came _ _,
  c.in-Ok-receive.ensures.heard,
  came-asked _ _ _ _ c.in-Wait.is,
  came-event c.in-Wait.time _ (some-octets _ _ c.in-Ok-receive.ensures.fits c.in-Ok-receive.count-test.1),
  refl,
)

pub returns-in-Err-receive-clause-called : goal.returns-in-Err-receive-clause-called
returns-in-Err-receive-clause-called g c =
    (deaf _ _, c.in-Err-receive.ensures.heard, deaf-asked _ _ _ _ c.in-Wait.is, refl, refl)
