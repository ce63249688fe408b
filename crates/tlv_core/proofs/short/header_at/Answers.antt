use Rattle.std.proofs.Common.{◌≡◌, ◌≤◌, ◌+◌, ◌∙◌, List, ℕ, length, take, sym, subst, arith}
use Rattle.tlv_core.specs.Form.{further}
use Rattle.tlv_core.specs.Tag.{IsTag}
use Rattle.tlv_core.specs.Short.{IsShort}
use Rattle.tlv_core.proofs.Shorts.{joined, tag_in_front}
use Rattle.tlv_core.proofs.short.header_at.Goals as goal

pub front-requires-clause-few : goal.front-requires-clause-few
front-requires-clause-few c = c.requires.few

pub front-requires-clause-tag : goal.front-requires-clause-tag
front-requires-clause-tag c =
    subst IsTag (sym (tag_in_front c.args.front.now c.args.count (omega arith) c.requires.few))
    c.requires.tag

pub returns : goal.returns
returns c =
    let front = c.args.front.now in
    let count = c.args.count in
    let inside : count ≤ length front = omega (arith, c.requires.few) in
    let l = c.in_ok-length.length in
    let m = count + 1 + c.further.result in
    let more : m ≡ count + (1 + further l.form) = omega (arith, c.further.ensures.value) in
    let tag : c.front.result ≡ take count front =
    c.front.ensures ∙ tag_in_front front count (omega arith) c.requires.few in
    subst (λ (t : List ℕ). IsShort front (record
    { tag = t; form = l.form; header = m; is_constructed = c.is_constructed.result; len = l.len }))
    (sym tag)
    (joined front count m c.is_constructed.result l c.requires.tag c.requires.some inside more c.is_constructed.ensures
    c.in_ok-length.ensures)
