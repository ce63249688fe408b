use Rattle.std.proofs.Common.{refl, arith}
use Rattle.tlv_core.proofs.TidyKept.{opens_kept, full_kept}
use Rattle.tlv_core.proofs.tidy_form.TidyForm.open.Goals as goal

pub returns-then-len-lt-DEEPEST : goal.returns-then-len-lt-DEEPEST
returns-then-len-lt-DEEPEST c = λ old new g k.
    opens_kept old new c.args.self.now _ g c.push.ensures.items refl
    (omega (arith, c.if-len-lt-DEEPEST.true, c.len.ensures.value)) k

pub returns-else-len-lt-DEEPEST : goal.returns-else-len-lt-DEEPEST
returns-else-len-lt-DEEPEST c = λ old new g k.
    full_kept old new c.args.self.now g (omega (arith, c.if-len-lt-DEEPEST.false, c.len.ensures.value)) k
