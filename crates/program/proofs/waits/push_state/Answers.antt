use Rattle.std.proofs.Common.{◌++◌, ◌∙◌, List, ℕ, ap, append_assoc, string_bytes}
use Rattle.program.specs.Waits.{in_session, state_of}
use Rattle.program.proofs.waits.push_state.Goals as goal

pub returns : goal.returns
returns c =
    let old = string_bytes c.args.text.now in
    c.in_ok-push_str-2.ensures.bytes
    ∙ ap (λ (l : List ℕ). l ++ in_session)
    (c.in_ok-push_str.ensures.bytes ∙ ap (λ (l : List ℕ). old ++ l) c.state.ensures)
    ∙ append_assoc old (state_of c.args.awaits) in_session
