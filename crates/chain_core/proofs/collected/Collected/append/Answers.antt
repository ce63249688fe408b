use Rattle.std.proofs.Common.{◌≡◌, ◌∙◌, ℕ, ◌+◌, ◌≤◌, List, arith, sym, ap, subst, drop, take, length}
use Rattle.std.proofs.lemmas.List.{length-take-le}
use Rattle.chain_core.specs.Wiped.{held_in}
use Rattle.chain_core.specs.Collecting.{Collecting}
use Rattle.chain_core.proofs.Blank.{blank-front}
use Rattle.chain_core.proofs.collected.Collected.append.Goals as goal

pub invariant_of-self : goal.invariant_of-self
invariant_of-self c =
    let count : ℕ = c.self.inside.count in
    let held : List ℕ = held_in c.self.inside.memory in
    let end : ℕ = c.append-self-inside.result in
    let fits : length (take count held) + length c.args.octets.now ≤ length held =
    subst (λ (v : Collecting). length v.octets + length c.args.octets.now ≤ v.room) (sym c.self.view_is) c.requires in
    let same : length c.append-self-inside.new.buffer ≡ length held =
    c.append-self-inside.ensures.room ∙ ap length c.as_mut_slice.ensures.value in
    blank-front count end _ held c.append-self-inside.new.buffer _
    (c.append-self-inside.ensures.room ∙ c.as_mut_slice.ensures.count)
    (omega (arith, c.append-self-inside.ensures.count))
    (omega (arith, c.append-self-inside.ensures.count, fits, same, length-take-le count held c.self.invariant.inside))
    same (c.append-self-inside.ensures.rest ∙ ap (drop end) c.as_mut_slice.ensures.value) c.self.invariant
