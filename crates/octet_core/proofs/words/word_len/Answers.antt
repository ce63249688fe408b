use Rattle.std.proofs.Common.{◌∙◌, ap, length, ℕ, Option}
use Rattle.std.specs.Option.{unwrap_or}
use Rattle.octet_core.proofs.Blanks.{blank-or-len}
use Rattle.octet_core.proofs.words.word_len.Goals as goal

pub returns-clause-place : goal.returns-clause-place
returns-clause-place c = c.unwrap_or.ensures
    ∙ ap (λ (p : Option ℕ). unwrap_or p (length c.args.text.now)) c.blank_place.ensures.place
    ∙ blank-or-len c.args.text.now
