use Rattle.std.proofs.Common.{◌≡◌, ◌≤◌, ℕ, List, length, take, arith, sym}
use Rattle.std.proofs.lemmas.List.{length-take}
use Rattle.octet_core.specs.Reader.{IsFed}
use Rattle.chain_core.specs.Chain.{IsChain, IsReason}
use Rattle.chain_core.specs.Taking.{Taking, HasTaken, refusal_of}
use Rattle.chain_core.specs.Receiving.{Goes}
use Rattle.chain_core.proofs.Moves.{IsInside, fed-goes, refused-near}
use Rattle.chain_core.proofs.reading.read_some.Goals as goal

pub returns-in-Ok-clause-moved : goal.returns-in-Ok-clause-moved
returns-in-Ok-clause-moved g c =
    let old : Taking = c.args.receiver.now in
    let new : Taking = c.feed-fed.new.self in
    let piece : List ℕ = take c.in-Ok.count c.read.new.room in
    let long : length piece ≡ c.in-Ok.count = sym c.in-Ok.ensures.bound.1 in
    let fits : c.in-Ok.count ≤ c.wanted.result =
    omega (
      arith,
      c.in-Ok.ensures.bound.0,
      c.read.auto.room,
      c.requires.room,
      length-take c.wanted.result c.args.room.now,
    ) in
    let fed : IsFed (IsChain old.ifs old.number old.max) (IsReason old.ifs old.number old.max) HasTaken refusal_of old
    new piece c.feed-fed.result = c.feed-fed.ensures.fed in
    let inside : IsInside old piece = record {
      head = λ few. omega (arith, long, fits, c.wanted.ensures.head few);
      rest = λ enough. omega (arith, long, fits, c.wanted.ensures.rest enough);
    } in
    let before = c.wanted.ensures.taken in
    let goes : Goes old new piece = fed-goes old new piece c.feed-fed.result c.requires.open inside before.0 before.1
    c.feed-fed.ensures.kept.0 c.feed-fed.ensures.kept.1 c.feed-fed.ensures.kept.2 c.feed-fed.ensures.before fed in
    let some : c.in-Ok.count ≡ 0 → ⊥ = c.in-Ok.count-test.1 in
    record {
      piece = piece;
      long = long;
      few = omega (arith, fits, c.wanted.ensures.most);
      from = c.in-Ok.ensures.octets.0;
      goes = goes;
      end = λ none. absurd (some none);
      still = λ none. absurd (some none);
      near = λ refusal e t h. refused-near old new piece refusal c.requires.open inside goes e t h;
      before = before;
      limit = c.wanted.ensures.limit;
    }
