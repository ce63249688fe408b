use Rattle.t1_core.proofs.card.readers.CardDebug.fmt.Goals as goal

pub returns : goal.returns
returns g c = record {
  writes = λ plain ok. rw (
    ← c.awaits-awaits.ensures,
    ← c.sizes-sizes.ensures.number,
    ← c.sizes-sizes.ensures.expected,
    ← c.sizes-sizes.ensures.ifsc,
    ← c.sizes-sizes.ensures.ifsd,
    ← c.messages-messages.ensures.command,
    ← c.messages-messages.ensures.reply,
    ← c.messages-messages.ensures.is_saved,
    ← c.messages-messages.ensures.most_command,
    ← c.messages-messages.ensures.most_reply,
  )
      (c.write.ensures.writes plain ok);
}
