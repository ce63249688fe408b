use Rattle.std.proofs.Common.{arith, ◌+◌, ◌≡◌, ◌++◌, ◌∷◌, [], not, length, ap, ◌∙◌, lit<}
use Rattle.std.proofs.lemmas.List.{length-append}
use Rattle.atr_core.specs.Atr.{AtrParts, octets_of, td_octets, announcing, goes_on}
use Rattle.atr_core.proofs.Built.{checked-built, front-room, goes_on-is}
use Rattle.atr_core.proofs.encoding.checked_octets.Goals as goal

pub push_indicated-requires-clause-room : goal.push_indicated-requires-clause-room
push_indicated-requires-clause-room c =
    let a : AtrParts = c.args.atr.now in
    let first : length c.push_bytes.new.octets.items ≡ 1 + length (octets_of a.first) =
    omega (
      arith,
      ap length c.push_bytes.ensures,
      length-append c.push.new.self.items (octets_of c.first-2.result),
      ap (λ f. length (octets_of f)) c.first-2.ensures,
      ap length c.push.ensures.items,
      ap length c.new-octets.ensures,
      length-append c.new-octets.result.items (c.announcing.result ∷ []),
    ) in
    omega (
      arith,
      front-room a c.indicated-2.ensures.proper,
      first,
      ap (λ xs. length (td_octets xs)) c.indicated-2.ensures.value,
    )

pub push_all-requires : goal.push_all-requires
push_all-requires c =
    let a : AtrParts = c.args.atr.now in
    let first : length c.push_bytes.new.octets.items ≡ 1 + length (octets_of a.first) =
    omega (
      arith,
      ap length c.push_bytes.ensures,
      length-append c.push.new.self.items (octets_of c.first-2.result),
      ap (λ f. length (octets_of f)) c.first-2.ensures,
      ap length c.push.ensures.items,
      ap length c.new-octets.ensures,
      length-append c.new-octets.result.items (c.announcing.result ∷ []),
    ) in
    let second : length c.push_indicated.new.octets.items ≡ length c.push_bytes.new.octets.items + length
    (td_octets a.indicated) =
    omega (
      arith,
      ap length c.push_indicated.ensures,
      length-append c.push_bytes.new.octets.items (td_octets c.indicated-2.result.now),
      ap (λ xs. length (td_octets xs)) c.indicated-2.ensures.value,
    ) in (
      lit< tt,
      omega (
        arith,
        front-room a c.indicated-2.ensures.proper,
        first,
        second,
        ap length c.historical-historical.ensures.value,
      ),
    )

pub returns-clause-value : goal.returns-clause-value
returns-clause-value c =
    let a : AtrParts = c.args.atr.now in
    let g = goes_on-is a.indicated in
    let e : not c.is_empty.result ≡ goes_on a.indicated = cc in
    let told : c.announcing.result ≡ announcing a.first (goes_on a.indicated) (length a.historical) = cc in
    checked-built a c.new-octets.result.items c.push.new.self.items c.push_bytes.new.octets.items
    c.push_indicated.new.octets.items c.push_all.new.octets.items c.announcing.result
    c.new-octets.ensures c.push.ensures.items
    (c.push_bytes.ensures ∙ ap (λ f. c.push.new.self.items ++ octets_of f) c.first-2.ensures)
    (c.push_indicated.ensures ∙ ap (λ xs. c.push_bytes.new.octets.items ++ td_octets xs) c.indicated-2.ensures.value)
    (cc) told
