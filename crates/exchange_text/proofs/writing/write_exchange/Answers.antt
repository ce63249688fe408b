use Rattle.std.proofs.Common.{◌++◌, List, ℕ, ap, ◌∙◌}
use Rattle.exchange_text.specs.Reading.{exchange_said}
use Rattle.exchange_text.specs.Text.{exchange_text}
use Rattle.exchange_text.proofs.Complete.{exchange-back}
use Rattle.exchange_text.proofs.writing.write_exchange.Goals as goal

pub returns-clause-back : goal.returns-clause-back
returns-clause-back c =
    let e = c.args.exchange.now in
    let whole = c.in_ok-push_exchange.ensures.text
    ∙ ap (λ (t : List ℕ). t ++ exchange_text e) c.new-text.ensures.bytes in
    rw c.into_bytes.ensures.value (ap exchange_said whole ∙ exchange-back e c.in_ok-push_exchange.ensures.exchange)
