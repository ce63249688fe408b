use Rattle.std.proofs.Common.{[], ◌≡◌, List, ℕ, Option, Some, None, Bor, sym}
use Rattle.std.specs.Option.{unwrap_or}
use Rattle.t1_core.specs.Views.{IsSlice}
use Rattle.session_laws.specs.declared.host.HostTurn.TheVariants.{Reply, MoreTime, AskIfs}
use Rattle.session_laws.proofs.serving.host_turn.Goals as goal

-- the slice that a call returned has the octets that it promised
some-slice : (slice : Option (Bor (List ℕ))) (octets : Option (List ℕ)) (wanted : List ℕ) (other got : Bor (List ℕ))
    → IsSlice slice octets → octets ≡ Some wanted → got ≡ unwrap_or slice other → got.now ≡ wanted
some-slice None None wanted other got is e same = cc
some-slice None (Some octets) wanted other got is e same = absurd is
some-slice (Some slice) None wanted other got is e same = absurd is
some-slice (Some slice) (Some octets) wanted other got is e same = cc

pub returns-in-Reply-clause-called : goal.returns-in-Reply-clause-called
returns-in-Reply-clause-called g c =
    let same = some-slice _ _ _ _ _ (c.command.ensures c.args.reply.now) c.requires.owes c.unwrap_or-octets.ensures in (
      c.reply.result.now,
      Reply,
      rw (sym same, c.reply.ensures) (rw c.in-Reply.is at c.turn_of.ensures),
      c.reply-in-Reply.ensures.turn,
    )

pub returns-in-MoreTime-clause-called : goal.returns-in-MoreTime-clause-called
returns-in-MoreTime-clause-called g c =
    let same = some-slice _ _ _ _ _ (c.command.ensures c.args.reply.now) c.requires.owes c.unwrap_or-octets.ensures in (
      [],
      MoreTime c.in-MoreTime.multiple,
      rw (sym same) (rw c.in-MoreTime.is at c.turn_of.ensures),
      c.more_time.ensures.turn,
    )

pub returns-in-AskIfs-clause-called : goal.returns-in-AskIfs-clause-called
returns-in-AskIfs-clause-called g c =
    let same = some-slice _ _ _ _ _ (c.command.ensures c.args.reply.now) c.requires.owes c.unwrap_or-octets.ensures in (
      [],
      AskIfs c.in-AskIfs.size,
      rw (sym same) (rw c.in-AskIfs.is at c.turn_of.ensures),
      c.ask_ifs.ensures.turn,
    )
