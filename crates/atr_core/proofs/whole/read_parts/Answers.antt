use Rattle.std.proofs.Common.{◌≡◌, ◌∙◌, ◌-◌, ℕ, List, take, drop, get_or, length, arith, ap}
use Rattle.std.proofs.lemmas.Option.{IfSome_then}
use Rattle.atr_core.specs.Atr.{AtrParts, needs_tck}
use Rattle.atr_core.proofs.OnePass.{first-and-rest, whole-read}
use Rattle.atr_core.proofs.whole.read_parts.Goals as goal

pub returns : goal.returns
returns c =
    let octets : List ℕ = c.args.octets.now in
    let from : List ℕ = take (length octets - 1) (drop 1 octets) in
    let after : List ℕ = take (length from - 1) (drop 1 from) in
    let section = c.in_ok-section.section in
    let a : AtrParts = record {
      convention = c.in-Ok.said;
      first = section.bytes;
      indicated =
          c.read_tds.new.indicated.items;
      historical = c.read_historical.new.historical.items;
    } in
    let needs : c.has_tck.result ≡ needs_tck a.indicated = c.has_tck.ensures ∙ ap needs_tck c.as_slice.ensures.value in
    IfSome_then c.ended.result c.ended.ensures
    (λ count ended. whole-read a octets from after section.rest.now c.in_ok-tail.tail.now c.in_ok-tck.tck.now
    (get_or octets 0 0) (get_or from 0 0) section.td c.has_tck.result count
    (λ i. omega (arith, c.type_inv.octets i)) (first-and-rest octets (omega arith))
    (first-and-rest from c.in-len1-up-from.len_at_least) c.in-Ok.ensures.is
    c.in_ok-section.ensures c.in_ok-tail.ensures c.in_ok-tck.ensures.is (c.in_ok-tck.ensures.count ∙ c.from.ensures)
    needs ended)
