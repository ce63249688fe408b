use Rattle.std.proofs.Common.{◌≡◌, ◌++◌, ◌∷◌, [], ℕ, List, Some, None, length, option_to_list, arith, ap, sym, subst, ◌∙◌, lit<}
use Rattle.std.proofs.lemmas.List.{append-nil}
use Rattle.octet_core.specs.Octets.{AreOctets}
use Rattle.atr_core.specs.Atr.{AtrParts, ts_of, checked_octets, tck_of}
use Rattle.atr_core.proofs.Built.{encoded, front-built, checked-room}
use Rattle.atr_core.proofs.encoding.encode.Goals as goal

pub push-requires-in-Some : goal.push-requires-in-Some
push-requires-in-Some c =
    let a : AtrParts = c.args.atr.now in
    let front : c.push_all.new.octets.items ≡ ts_of a.convention ∷ checked_octets a =
    front-built a c.new-octets.result.items c.push.new.self.items c.push_all.new.octets.items
    c.checked_octets.result.items c.as_slice.result.now c.ts.result c.convention.result
    c.new-octets.ensures c.push.ensures.items c.push_all.ensures.value c.as_slice.ensures.value
    c.checked_octets.ensures.value c.ts.ensures c.convention.ensures in
    let tck : tck_of a ≡ Some c.in-Some.tck = sym c.tck.ensures ∙ c.in-Some.is in (
      lit< tt,
      omega (
        arith,
        checked-room a c.checked_octets.ensures.proper,
        ap length front,
        ap (λ t. length (option_to_list t)) tck,
      ),
    )

pub returns-in-Some : goal.returns-in-Some
returns-in-Some c =
    let a : AtrParts = c.args.atr.now in
    let front : c.push_all.new.octets.items ≡ ts_of a.convention ∷ checked_octets a =
    front-built a c.new-octets.result.items c.push.new.self.items c.push_all.new.octets.items
    c.checked_octets.result.items c.as_slice.result.now c.ts.result c.convention.result
    c.new-octets.ensures c.push.ensures.items c.push_all.ensures.value c.as_slice.ensures.value
    c.checked_octets.ensures.value c.ts.ensures c.convention.ensures in
    let tck : Some c.in-Some.tck ≡ tck_of a = sym c.in-Some.is ∙ c.tck.ensures in
    let all : c.push-in-Some.new.self.items ≡ c.push_all.new.octets.items ++ c.in-Some.tck ∷ [] =
    c.push-in-Some.ensures.items in
    let checked : c.as_slice.result.now ≡ checked_octets a =
    c.as_slice.ensures.value ∙ c.checked_octets.ensures.value in
    encoded a c.push-in-Some.new.self.items c.checked_octets.ensures.proper
    (subst AreOctets checked c.push_all.ensures.octets)
    (all ∙ ap (λ (l : List ℕ). l ++ c.in-Some.tck ∷ []) front
    ∙ ap (λ t. ts_of a.convention ∷ checked_octets a ++ option_to_list t) tck)

pub returns-in_default : goal.returns-in_default
returns-in_default c =
    let a : AtrParts = c.args.atr.now in
    let front : c.push_all.new.octets.items ≡ ts_of a.convention ∷ checked_octets a =
    front-built a c.new-octets.result.items c.push.new.self.items c.push_all.new.octets.items
    c.checked_octets.result.items c.as_slice.result.now c.ts.result c.convention.result
    c.new-octets.ensures c.push.ensures.items c.push_all.ensures.value c.as_slice.ensures.value
    c.checked_octets.ensures.value c.ts.ensures c.convention.ensures in
    let tck : None ≡ tck_of a = sym c.in_default.is ∙ c.tck.ensures in
    let checked : c.as_slice.result.now ≡ checked_octets a =
    c.as_slice.ensures.value ∙ c.checked_octets.ensures.value in
    encoded a c.push_all.new.octets.items c.checked_octets.ensures.proper
    (subst AreOctets checked c.push_all.ensures.octets)
    (front ∙ ap (λ l. ts_of a.convention ∷ l) (sym (append-nil (checked_octets a)))
    ∙ ap (λ t. ts_of a.convention ∷ checked_octets a ++ option_to_list t) tck)
