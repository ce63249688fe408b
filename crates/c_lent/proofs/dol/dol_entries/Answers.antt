use Rattle.std.proofs.Common.{◌≡◌, ℕ, ap, arith, ◌∙◌, if◌then◌else◌, nat_le, length}
use Rattle.c_lent.specs.Verdict.{ok_at, wrong_argument}
use Rattle.c_lent.proofs.dol.dol_entries.Goals as goal

pub returns-in-Ok-clause-entries : goal.returns-in-Ok-clause-entries
returns-in-Ok-clause-entries c = λ good.
    let put = c.in-Ok.ensures.ok in
    let room : ℕ = length c.args.out.now in
    let same : length c.put_entries.new.out ≡ room = omega arith in
    record {
      entries = put.entries;
      list = put.list;
      verdict = c.put.ensures
          ∙ ap (λ (n : ℕ). if nat_le c.in-Ok.count n then ok_at c.in-Ok.count else wrong_argument c.in-Ok.count) same
          ∙ ap (λ (n : ℕ). if nat_le n room then ok_at n else wrong_argument n) put.number;
      array = put.array;
    }
