use Rattle.std.proofs.Common.{◌∙◌, chars, length, string_bytes, sym}
use Rattle.std.proofs.lemmas.Iterator.{YieldsList-from_chars}
use Rattle.std.proofs.lemmas.Iterator.Consumers.{YieldsList-at, YieldsList-end, YieldsList-turn}
use Rattle.std.proofs.lemmas.List.{length_push}
use Rattle.explainer.proofs.Wording.{all-shown, one-shown}
use Rattle.explainer.proofs.message.shown_word.Goals as goal

pub loop-character-preserved : goal.loop-character-preserved
loop-character-preserved c =
    let at = YieldsList-turn (YieldsList-at c.into_iter-character-iterator.ensures.into_iter_gives
    (YieldsList-from_chars c.args.word.now c.utf8.word c.chars-character-items.ensures.rest))
    c.loop-character.yielded _ c.loop-character.yielded_by _ _ c.in-Some.character c.in-Some.is c.next.ensures.steps in
    rw (length_push c.loop-character.yielded c.in-Some.character)
    (sym (one-shown (chars c.args.word.now) (length c.loop-character.yielded) c.in-Some.character
    c.shown_character.result (string_bytes c.loop-character.shown) (string_bytes c.push.new.self) at
    c.shown_character.ensures c.in_ok-push.ensures.bytes) ∙ c.loop-character.invariant)

pub returns : goal.returns
returns c =
    let end = YieldsList-end (YieldsList-at c.into_iter-character-iterator.ensures.into_iter_gives
    (YieldsList-from_chars c.args.word.now c.utf8.word c.chars-character-items.ensures.rest))
    c.loop-character.yielded _ c.loop-character.yielded_by _ _ c.in-None.is c.next.ensures.steps in
    sym (all-shown (chars c.args.word.now) (length c.loop-character.yielded) (string_bytes c.loop-character.shown)
    end.1) ∙ c.loop-character.invariant
