use Rattle.exchange_core.proofs.Found.{one-replay, some-replay}
use Rattle.exchange_core.proofs.laws.replays_in_one_way.Goals as goal

pub returns-clause-some : goal.returns-clause-some
returns-clause-some c = λ atr lines side octets.
    some-replay c.one_accepted.ensures atr lines side (c.one_verdict.ensures atr octets)

pub returns-clause-one : goal.returns-clause-one
returns-clause-one c = one-replay c.one_accepted.ensures
