use Rattle.std.proofs.Common.{[], ℕ, refl, subst, ◌∙◌}
use Rattle.octet_core.specs.Grammar.{Refuses, RefusesUnlessMemory, whole}
use Rattle.tlv_core.specs.Forest.{IsForest}
use Rattle.tlv_core.specs.Reasons.{IsReason}
use Rattle.tlv_core.specs.Read.{HasRead}
use Rattle.tlv_core.proofs.Reading.{whole_ended}
use Rattle.tlv_core.proofs.decoder.decode.Goals as goal

pub returns-in-Err-clause-refused : goal.returns-in-Err-clause-refused
returns-in-Err-clause-refused c =
    let b = c.args.octets.now in
    let none : HasRead [] c.in-Ok.reader = (c.in-Ok.ensures.nothing []).1 refl in
    subst (λ (max : ℕ). RefusesUnlessMemory whole (IsForest max) (IsReason max) b c.in-Err.refused)
    c.in-Ok.ensures.limit (whole_ended c.in-Ok.reader.kept.max b c.feed.new.self c.in-Err.field-0-0 c.in-Err.refused
    (c.in-Err.ensures.ended [] none))

pub returns-in-Ok-finish-clause-found : goal.returns-in-Ok-finish-clause-found
returns-in-Ok-finish-clause-found c =
    let b = c.args.octets.now in
    let none : HasRead [] c.in-Ok.reader = (c.in-Ok.ensures.nothing []).1 refl in
    let read : HasRead b c.feed.new.self = c.in_default-feed.ensures.taken [] none in (
      refl,
      subst (λ (max : ℕ). IsForest max c.in-Ok-finish.forest b) (c.feed.ensures.limit ∙ c.in-Ok.ensures.limit)
          (c.in-Ok-finish.ensures.verdict b read),
    )

pub returns-in-Err-finish-clause-refused : goal.returns-in-Err-finish-clause-refused
returns-in-Err-finish-clause-refused c =
    let b = c.args.octets.now in
    let none : HasRead [] c.in-Ok.reader = (c.in-Ok.ensures.nothing []).1 refl in
    let read : HasRead b c.feed.new.self = c.in_default-feed.ensures.taken [] none in
    subst (λ (max : ℕ). Refuses whole (IsForest max) (IsReason max) b c.in-Err-finish.stop)
    (c.feed.ensures.limit ∙ c.in-Ok.ensures.limit) (c.in-Err-finish.ensures.verdict b read)
