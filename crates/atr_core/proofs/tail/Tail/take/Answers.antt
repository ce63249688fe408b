use Rattle.std.proofs.Common.{◌≡◌, ◌++◌, ◌<◌, [], arith, ap, bit_xor, length, List, ℕ, ◌∷◌, refl, sym, subst}
use Rattle.atr_core.specs.Atr.{AtrParts, ts_of}
use Rattle.atr_core.specs.Partial.{TailParts, TailHolds, tail_taken, tailing}
use Rattle.atr_core.proofs.Partials.{historical-holds, historical-proper, historical-taken, tail-step, tck-refused, tck-taken, tck-awaited}
use Rattle.atr_core.proofs.tail.Tail.take.Goals as goal

pub push_historical-requires : goal.push_historical-requires
push_historical-requires c =
    let t : TailParts = tailing c.args.atr.now c.args.self.now in
    let less : length t.historical < t.historical_len = omega (arith, ap length c.historical.ensures.value) in record {
      room = omega (arith, less, c.requires.holds.few);
      proper = historical-proper t c.args.octet c.requires.holds less;
    }

pub awaits-requires : goal.awaits-requires
awaits-requires c =
    let t : TailParts = tailing c.args.atr.now c.args.self.now in
    let x : ℕ = c.args.octet in
    let less : length t.historical < t.historical_len = omega (arith, ap length c.historical.ensures.value) in
    subst (λ (a : AtrParts). TailHolds (tailing a (record c.args.self.now { sum = bit_xor t.sum x })))
    (sym c.push_historical.ensures)
    (historical-holds t (t.historical ++ x ∷ []) x c.requires.holds less (omega arith) refl)

pub returns-then-historical-self : goal.returns-then-historical-self
returns-then-historical-self c =
    let t : TailParts = tailing c.args.atr.now c.args.self.now in
    let x : ℕ = c.args.octet in
    let less : length t.historical < t.historical_len = omega (arith, ap length c.historical.ensures.value) in
    let v : List ℕ = t.historical ++ x ∷ [] in
    let After : AtrParts → Type 0 = λ a. TailHolds (tailing a (record c.args.self.now { sum = bit_xor t.sum x })) in
    let Taken : AtrParts → Type 0 = λ a. tail_taken
    (tailing a (record c.args.self.now { sum = bit_xor t.sum x })) ≡ tail_taken t ++ x ∷ [] in
    let holds = subst After (sym c.push_historical.ensures)
    (historical-holds t v x c.requires.holds less (omega arith) refl) in
    let taken = subst Taken (sym c.push_historical.ensures)
    (ap (λ (l : List ℕ). ts_of t.convention ∷ l) (historical-taken t v x (bit_xor t.sum x) refl)) in
    tail-step _ _ c.awaits.result holds taken c.awaits.ensures

pub returns-then-octet-self : goal.returns-then-octet-self
returns-then-octet-self c =
    let t : TailParts = tailing c.args.atr.now c.args.self.now in
    let last = tck-awaited t c.requires.holds c.requires.awaits (omega (arith, ap length c.historical.ensures.value)) in
    tck-refused t c.args.octet c.requires.holds last.0 last.1 c.if-octet-self.true

pub returns : goal.returns
returns c =
    let t : TailParts = tailing c.args.atr.now c.args.self.now in
    let last = tck-awaited t c.requires.holds c.requires.awaits (omega (arith, ap length c.historical.ensures.value)) in (
      c.requires.holds,
      last.0,
      tck-taken t c.args.octet c.requires.holds last.0 last.1
          c.if-octet-self.false,
    )
