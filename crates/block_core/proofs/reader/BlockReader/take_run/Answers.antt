use Rattle.std.proofs.Common.{◌≡◌, ◌++◌, ◌<◌, ◌+◌, ◌∙◌, ℕ, List, length, take, arith, sym, ap, subst}
use Rattle.std.proofs.lemmas.List.{length-append, length-take}
use Rattle.octet_core.specs.Octets.{AreOctets, xor_of}
use Rattle.octet_core.proofs.Lists.{octets-append, octets-take}
use Rattle.block_core.specs.Taking.{IsOpen}
use Rattle.block_core.specs.Stage.{IsAt, tested_len}
use Rattle.block_core.proofs.Readings.{xor-more}
use Rattle.block_core.proofs.Stages.{at-more, open-wants}
use Rattle.block_core.proofs.reader.BlockReader.take_run.Goals as goal

pub advanced-self-inside-requires-clause-sum : goal.advanced-self-inside-requires-clause-sum
advanced-self-inside-requires-clause-sum c =
    let held : List ℕ = c.self.inside.held.items in
    let run : List ℕ = take c.min.result c.args.piece.now in
    let now : c.try_extend_from_slice.new.self.items ≡ held ++ run =
    rw c.unwrap.ensures at c.try_extend_from_slice.ensures.ok in
    xor-more c.self.inside.sum c.lrc.result held run c.self.invariant.2 c.lrc.ensures
    ∙ ap xor_of (sym now ∙ sym c.as_slice.ensures.value)

pub invariant_of-self : goal.invariant_of-self
invariant_of-self c =
    let held : List ℕ = c.self.inside.held.items in
    let run : List ℕ = take c.min.result c.args.piece.now in
    let now : c.try_extend_from_slice.new.self.items ≡ held ++ run =
    rw c.unwrap.ensures at c.try_extend_from_slice.ensures.ok in
    let octets : AreOctets c.try_extend_from_slice.new.self.items =
    subst AreOctets (sym now) (octets-append held run c.self.invariant.3
    (octets-take c.min.result c.args.piece.now (λ i. omega (arith, c.type_inv.piece i)))) in (
      c.self.invariant.0,
      c.self.invariant.1,
      xor-more c.self.inside.sum c.lrc.result held run c.self.invariant.2 c.lrc.ensures ∙ ap xor_of (sym now),
      octets,
      subst (IsAt c.self.inside.ifs c.advanced-self-inside.result) c.as_slice.ensures.value
          c.advanced-self-inside.ensures,
    )

pub invariant_of-self-else-len-wanted : goal.invariant_of-self-else-len-wanted
invariant_of-self-else-len-wanted c =
    let held : List ℕ = c.self.inside.held.items in
    let run : List ℕ = take c.min.result c.args.piece.now in
    let now : c.try_extend_from_slice.new.self.items ≡ held ++ run =
    rw c.unwrap.ensures at c.try_extend_from_slice.ensures.ok in
    let wants : length held < tested_len c.self.inside.stage =
    open-wants c.self.inside.ifs c.self.inside.stage held c.self.invariant.4
    (subst IsOpen (sym c.self.view_is) c.requires.open) in
    let some : 0 < length run = omega (arith, c.min.ensures, length-take c.min.result c.args.piece.now) in
    let fewer : length held + length run < tested_len c.self.inside.stage =
    omega (arith, c.min.ensures, length-take c.min.result c.args.piece.now, ap length now, length-append held run) in
    let octets : AreOctets c.try_extend_from_slice.new.self.items =
    subst AreOctets (sym now) (octets-append held run c.self.invariant.3
    (octets-take c.min.result c.args.piece.now (λ i. omega (arith, c.type_inv.piece i)))) in (
      c.self.invariant.0,
      c.self.invariant.1,
      xor-more c.self.inside.sum c.lrc.result held run c.self.invariant.2 c.lrc.ensures ∙ ap xor_of (sym now),
      octets,
      subst (IsAt c.self.inside.ifs c.self.inside.stage) (sym now)
          (at-more c.self.inside.ifs c.self.inside.stage held run c.self.invariant.4 some fewer),
    )
