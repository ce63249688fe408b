use Rattle.std.proofs.Common.{◌≡◌, ◌≤◌, Bool, true, false, length, ap, sym, ◌∙◌, arith}
use Rattle.std.specs.Prelude.{◌||◌, ◌==◌, ◌%◌, not}
use Rattle.std.proofs.lemmas.List.{length-drop}
use Rattle.atr_core.proofs.Partials.{byte-count}
use Rattle.shortfall.specs.Atr.{announces_td, atr_from, atr_least, bytes_of}
use Rattle.shortfall.proofs.Atrs.{from-last, from-within, next-td}
use Rattle.shortfall.proofs.atr.atr_least.Goals as goal

pub returns-in_default-td_after : goal.returns-in_default-td_after
returns-in_default-td_after c =
    let announced : announces_td c.loop-bytes.announcing ≡ true = sym c.announces_td.ensures ∙ c.loop-bytes-test.true in
    omega (
      arith,
      from-within (bytes_of c.loop-bytes.announcing) c.from-historical.result c.loop-bytes.tck c.loop-bytes.rest.now
          (let within : length c.loop-bytes.rest.now ≤ c.bytes_of-bytes.result = c.in_default-td_after.ensures in
          omega (arith, c.bytes_of-bytes.ensures.count)),
      ap (λ (t : Bool).
          atr_from (bytes_of c.loop-bytes.announcing) t c.from-historical.result c.loop-bytes.tck c.loop-bytes.rest.now)
          (sym announced) ∙ c.loop-bytes.invariant.least,
      c.bytes_of-bytes.ensures.count,
      byte-count c.loop-bytes.tck,
      c.from.ensures,
    )

pub loop-bytes-smaller-then-tck : goal.loop-bytes-smaller-then-tck
loop-bytes-smaller-then-tck c = omega (
  arith,
  ap length c.in-Some.ensures.1,
  length-drop c.bytes_of-bytes.result c.loop-bytes.rest.now,
)

pub loop-bytes-smaller : goal.loop-bytes-smaller
loop-bytes-smaller c = omega (
  arith,
  ap length c.in-Some.ensures.1,
  length-drop c.bytes_of-bytes.result c.loop-bytes.rest.now,
)

pub loop-bytes-preserved-then-tck : goal.loop-bytes-preserved-then-tck
loop-bytes-preserved-then-tck c = record {
  few = c.loop-bytes.invariant.few;
  least =
      next-td c.loop-bytes.announcing c.from-historical.result c.in-Some.td c.bytes_of-bytes.result
      (atr_least c.args.octets.now) c.loop-bytes.tck c.loop-bytes.tck c.loop-bytes.rest.now c.in-Some.after.now
      (sym c.announces_td.ensures ∙ c.loop-bytes-test.true) c.bytes_of-bytes.ensures.count c.in-Some.ensures.0
      c.in-Some.ensures.1
      (ap (λ (t : Bool). t || not (c.in-Some.td % 16 == 0)) c.if-tck.true ∙ sym c.if-tck.true)
      c.loop-bytes.invariant.least;
}

pub loop-bytes-preserved : goal.loop-bytes-preserved
loop-bytes-preserved c = record {
  few = c.loop-bytes.invariant.few;
  least =
      next-td c.loop-bytes.announcing c.from-historical.result c.in-Some.td c.bytes_of-bytes.result
      (atr_least c.args.octets.now) c.loop-bytes.tck (not (c.in-Some.td % 16 == 0)) c.loop-bytes.rest.now
      c.in-Some.after.now (sym c.announces_td.ensures ∙ c.loop-bytes-test.true) c.bytes_of-bytes.ensures.count
      c.in-Some.ensures.0 c.in-Some.ensures.1
      (ap (λ (t : Bool). t || not (c.in-Some.td % 16 == 0)) c.if-tck.false) c.loop-bytes.invariant.least;
}

pub returns : goal.returns
returns c =
    let last : announces_td c.loop-bytes.announcing ≡ false = sym c.announces_td.ensures ∙ c.loop-bytes-test.false in
    omega (
      arith,
      from-last (bytes_of c.loop-bytes.announcing) c.from-historical.result c.loop-bytes.tck c.loop-bytes.rest.now,
      ap (λ (t : Bool).
          atr_from (bytes_of c.loop-bytes.announcing) t c.from-historical.result c.loop-bytes.tck c.loop-bytes.rest.now)
          (sym last) ∙ c.loop-bytes.invariant.least,
      c.saturating_sub.ensures,
      c.bytes_of.ensures.count,
      byte-count c.loop-bytes.tck,
      c.from-2.ensures,
    )
