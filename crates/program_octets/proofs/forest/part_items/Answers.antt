use Rattle.std.proofs.Common.{◌≡◌, ◌<◌, ◌∙◌, ◌∷◌, ◌+◌, ℕ, List, suc, add-one, ap, drop, drop-cons, length, map, string_bytes, sym}
use Rattle.tlv_core.specs.Flat.{part_seen}
use Rattle.tlv_core.specs.declared.part.Part.{Part}
use Rattle.program_octets.specs.ForestTexts.{with_objects}
use Rattle.program_octets.proofs.forest.part_items.Goals as goal

pub loop-part-preserved : goal.loop-part-preserved
loop-part-preserved c =
    let parts : List Part = c.args.parts.now in
    let i : ℕ = c.loop-part.part-index in
    let item : Part = c.part-item.result in
    let inside : i < length parts = c.loop-part-test.true in
    let step : drop i parts ≡ item ∷ drop (i + 1) parts =
    rw (add-one, drop-cons parts i item) (ap (λ (x : Part). x ∷ drop (suc i) parts) (sym c.part-item.is)) in
    let old : List ℕ = string_bytes c.loop-part.items in
    ap (λ (l : List ℕ). with_objects l (map part_seen (drop (i + 1) parts)))
    c.in_ok-push_part_item.ensures
    ∙ ap (λ (l : List Part). with_objects old (map part_seen l)) (sym step) ∙ c.loop-part.invariant
