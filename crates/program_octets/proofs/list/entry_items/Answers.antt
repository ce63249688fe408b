use Rattle.std.proofs.Common.{◌≡◌, ◌<◌, ◌∙◌, ◌∷◌, ◌+◌, ℕ, List, suc, add-one, ap, drop, drop-cons, length, string_bytes, sym}
use Rattle.program_octets.specs.ListTexts.{with_entries}
use Rattle.program_octets.proofs.list.entry_items.Goals as goal

pub loop-tag-preserved : goal.loop-tag-preserved
loop-tag-preserved c =
    let entries : List (List ℕ × ℕ) = c.args.entries.now in
    let i : ℕ = c.loop-tag.tag-index in
    let item : List ℕ × ℕ = c.loop-tag-item.result in
    let inside : i < length entries = c.loop-tag-test.true in
    let step : drop i entries ≡ item ∷ drop (i + 1) entries =
    rw (add-one, drop-cons entries i item) (ap (λ (x : List ℕ × ℕ). x ∷ drop (suc i) entries) (sym c.loop-tag-item.is))
    in
    let old : List ℕ = string_bytes c.loop-tag.items in
    ap (λ (l : List ℕ). with_entries l (drop (i + 1) entries))
    c.in_ok-push_entry_item.ensures
    ∙ ap (λ (l : List (List ℕ × ℕ)). with_entries old l) (sym step) ∙ c.loop-tag.invariant
