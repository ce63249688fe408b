-- What lines tell, by computing the definitions, and lines that no record has.
use Rattle.std.proofs.Common.{◌≡◌, ℕ, List, [], ◌∷◌, refl, inl}
use Rattle.std.specs.Prelude.{false}
use Rattle.t1_core.specs.Link.{answered, given_up}
use Rattle.exchange_core.specs.Told.{told, AnswersAreReplies}
use Rattle.exchange_text.specs.declared.line.Line.TheVariants.{Command, Quiet, Answer, GivenUp, Reply, Time, Asked}

abbrev select : List ℕ
select = 0x00 ∷ 0xA4 ∷ 0x04 ∷ 0x00 ∷ 0x00 ∷ []

abbrev read : List ℕ
read = 0x00 ∷ 0xB0 ∷ 0x00 ∷ 0x00 ∷ 0x02 ∷ []

abbrev done : List ℕ
done = 0x90 ∷ 0x00 ∷ []

abbrev failed : List ℕ
failed = 0x6A ∷ 0x82 ∷ []

-- a command that is answered after more time, and one that is given up
pub told-both : told (Command select ∷ Asked select ∷ Time 2 ∷ Asked select ∷ Reply done ∷ Answer done ∷ Command read
    ∷ Quiet ∷ GivenUp ∷ [])
    ≡ record {
      exchanges = given_up read ∷ answered select done ∷ [];
      services = answered select done ∷ [];
      again = false;
    }
told-both = refl

pub such-are-replies : AnswersAreReplies (Command select ∷ Asked select ∷ Time 2 ∷ Asked select ∷ Reply done
    ∷ Answer done ∷ Command read ∷ Quiet ∷ GivenUp ∷ [])
such-are-replies = inl (refl, tt)

-- no record has another answer than the reply
pub another-answer : AnswersAreReplies (Command select ∷ Asked select ∷ Reply failed ∷ Answer done ∷ []) → ⊥
another-answer h = cc (h.0)

-- nor the reply to another command
pub another-command : AnswersAreReplies (Command select ∷ Asked read ∷ Reply done ∷ Answer done ∷ []) → ⊥
another-command h = cc (h.0)

-- nor an answer that the host wasn't asked for
pub unasked : AnswersAreReplies (Command select ∷ Answer done ∷ []) → ⊥
unasked h = h

-- nor one that it was asked for twice
pub asked-twice : AnswersAreReplies (Command select ∷ Asked select ∷ Reply done ∷ Asked select ∷ Reply done
    ∷ Answer done ∷ []) → ⊥
asked-twice h = h.1
