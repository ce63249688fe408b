use Rattle.std.proofs.Common.{◌≡◌, ◌++◌, List, ℕ, OnOk, append_assoc, length, refl, string_bytes, subst}
use Rattle.tlv_core.specs.Flat.{PartValue, part_seen}
use Rattle.notes.specs.Says.{header_place, object_note, value_note}
use Rattle.notes.proofs.forest.push_object.Goals as goal

pub returns : goal.returns
returns c =
    let p : PartValue = part_seen c.args.part.now in
    let header : c.header_at-header.result ≡ header_place p = c.header_at-header.ensures (length p.value) in
    let whole : string_bytes c.write.new.self ++ value_note p ≡ string_bytes c.args.text.now ++ object_note p =
    simp (c.in_ok-write.ensures.bytes, header, append_assoc) refl in
    subst (λ (l : List ℕ). OnOk c.push_value.result (string_bytes c.push_value.new.text ≡ l)) whole c.push_value.ensures
