use Rattle.program.proofs.OneAnswer.{one-cut, some-asked}
use Rattle.program.proofs.laws.one_answer.Goals as goal

pub returns : goal.returns
returns c = record {
  some = some-asked;
  one = λ asked file text other ended different sized octets as_read.
      one-cut asked file sized octets as_read text other ended different;
}
