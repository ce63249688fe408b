use Rattle.std.proofs.Common.{◌∙◌, chars, length, sym, Some}
use Rattle.std.proofs.lemmas.Iterator.{YieldsList-from_chars}
use Rattle.std.proofs.lemmas.Iterator.Consumers.{YieldsList-at, YieldsList-end, YieldsList-turn}
use Rattle.std.proofs.lemmas.List.{length_push}
use Rattle.explainer.proofs.Wording.{all-digits, no-digit, one-digit}
use Rattle.explainer.proofs.word.stray.Goals as goal

pub returns-then-not-is_ascii_hexdigit : goal.returns-then-not-is_ascii_hexdigit
returns-then-not-is_ascii_hexdigit c =
    let at = YieldsList-turn (YieldsList-at c.into_iter-character-iterator.ensures.into_iter_gives
    (YieldsList-from_chars c.args.word.now c.utf8.word c.chars-character-items.ensures.rest))
    c.loop-character.yielded _ c.loop-character.yielded_by _ _ c.in-Some.character c.in-Some.is c.next.ensures.steps in
    sym (no-digit (chars c.args.word.now) (length c.loop-character.yielded) c.in-Some.character c.loop-character.place
    at
    (sym c.is_ascii_hexdigit.ensures.value ∙ c.if-not-is_ascii_hexdigit.true)) ∙ c.loop-character.invariant

pub loop-character-preserved : goal.loop-character-preserved
loop-character-preserved c =
    let at = YieldsList-turn (YieldsList-at c.into_iter-character-iterator.ensures.into_iter_gives
    (YieldsList-from_chars c.args.word.now c.utf8.word c.chars-character-items.ensures.rest))
    c.loop-character.yielded _ c.loop-character.yielded_by _ _ c.in-Some.character c.in-Some.is c.next.ensures.steps in
    rw (length_push c.loop-character.yielded c.in-Some.character, c.in_ok-place.ensures)
    (sym (one-digit (chars c.args.word.now) (length c.loop-character.yielded) c.in-Some.character c.loop-character.place
    at (sym c.is_ascii_hexdigit.ensures.value ∙ c.if-not-is_ascii_hexdigit.false)) ∙ c.loop-character.invariant)

pub returns : goal.returns
returns c =
    let end = YieldsList-end (YieldsList-at c.into_iter-character-iterator.ensures.into_iter_gives
    (YieldsList-from_chars c.args.word.now c.utf8.word c.chars-character-items.ensures.rest))
    c.loop-character.yielded _ c.loop-character.yielded_by _ _ c.in-None.is c.next.ensures.steps in
    sym (all-digits (chars c.args.word.now) (length c.loop-character.yielded) c.loop-character.place end.1)
    ∙ c.loop-character.invariant
