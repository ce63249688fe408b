-- Recorded sessions, replayed at each end by computing the definitions: the card takes 32 octets at first.
use Rattle.std.proofs.Common.{◌≡◌, ℕ, List, [], ◌∷◌, ◌++◌, refl}
use Rattle.std.specs.Prelude.{Some, None, Ok, Err, codes}
use Rattle.hex.specs.Hex.{encode_with}
use Rattle.exchange_core.specs.Replay.{replay_from}
use Rattle.exchange_text.specs.declared.line.Line.{Line}
use Rattle.exchange_text.specs.declared.line.Arrival.TheVariants.{Whole, Lost, Changed}
use Rattle.exchange_text.specs.declared.line.Line.TheVariants.{Command, Ifsd, Quiet, Answer, IfsSet, GivenUp, Dead, Reply, Time, Asked, FromTerminal, FromCard, Moment, Note}
use Rattle.block_core.specs.declared.side.Side.TheVariants.{Terminal, Card}

-- ---- messages and blocks

abbrev select : List ℕ
select = 0x00 ∷ 0xA4 ∷ 0x04 ∷ 0x00 ∷ 0x00 ∷ []

abbrev read : List ℕ
read = 0x00 ∷ 0xB0 ∷ 0x00 ∷ 0x00 ∷ 0x02 ∷ []

abbrev done : List ℕ
done = 0x90 ∷ 0x00 ∷ []

-- the I-blocks of select and done
abbrev select_block : List ℕ
select_block = 0x00 ∷ 0x00 ∷ 0x05 ∷ 0x00 ∷ 0xA4 ∷ 0x04 ∷ 0x00 ∷ 0x00 ∷ 0xA5 ∷ []

abbrev done_block : List ℕ
done_block = 0x00 ∷ 0x00 ∷ 0x02 ∷ 0x90 ∷ 0x00 ∷ 0x92 ∷ []

-- the R-blocks with number 0, without an error and with error 1
abbrev again : List ℕ
again = 0x00 ∷ 0x80 ∷ 0x00 ∷ 0x80 ∷ []

abbrev again_damaged : List ℕ
again_damaged = 0x00 ∷ 0x81 ∷ 0x00 ∷ 0x81 ∷ []

abbrev resynch : List ℕ
resynch = 0x00 ∷ 0xC0 ∷ 0x00 ∷ 0xC0 ∷ []

abbrev resynched : List ℕ
resynched = 0x00 ∷ 0xE0 ∷ 0x00 ∷ 0xE0 ∷ []

-- the terminal sends a block that doesn't arrive, and nothing comes
abbrev unheard : List ℕ → List Line
unheard block = FromTerminal block Lost ∷ Quiet ∷ []

-- ---- what agrees

abbrev plain : List Line
plain =
    Command select ∷ FromTerminal select_block Whole ∷ Asked select
    ∷ Reply done ∷ FromCard done_block Whole ∷ Answer done
    ∷ []

plain-terminal : replay_from (Ok 32) plain Terminal ≡ None
plain-terminal = refl

plain-card : replay_from (Ok 32) plain Card ≡ None
plain-card = refl

-- moments and notes pass, between a turn and its line too
abbrev timed : List Line
timed =
    Moment 0 ∷ Command select ∷ Note (codes "first") ∷ FromTerminal select_block Whole
    ∷ Moment 12 ∷ Asked select
    ∷ Reply done ∷ Moment 12 ∷ FromCard done_block Whole
    ∷ Answer done ∷ Note (codes "end")
    ∷ []

timed-terminal : replay_from (Ok 32) timed Terminal ≡ None
timed-terminal = refl

timed-card : replay_from (Ok 32) timed Card ≡ None
timed-card = refl

-- the command is damaged on its way, and the answer lost
abbrev repeated : List Line
repeated =
    Command select
    ∷ FromTerminal select_block (Changed (0x00 ∷ 0x00 ∷ 0x05 ∷ 0x00 ∷ 0xA4 ∷ 0x04 ∷ 0x00 ∷ 0x00 ∷ 0xA4 ∷ []))
    ∷ FromCard again_damaged Whole
    ∷ FromTerminal select_block Whole
    ∷ Asked select
    ∷ Reply done
    ∷ FromCard done_block Lost
    ∷ Quiet
    ∷ FromTerminal again Whole
    ∷ FromCard done_block Whole
    ∷ Answer done
    ∷ []

repeated-terminal : replay_from (Ok 32) repeated Terminal ≡ None
repeated-terminal = refl

repeated-card : replay_from (Ok 32) repeated Card ≡ None
repeated-card = refl

-- four blocks in a row are lost
abbrev four_lost : List Line
four_lost = Command select ∷ (unheard select_block ++ unheard again ++ unheard again ++ unheard again)

-- so are three requests for RESYNCH
abbrev all_lost : List Line
all_lost = four_lost ++ unheard resynch ++ unheard resynch ++ unheard resynch ++ Dead ∷ []

all_lost-terminal : replay_from (Ok 32) all_lost Terminal ≡ None
all_lost-terminal = refl

all_lost-card : replay_from (Ok 32) all_lost Card ≡ None
all_lost-card = refl

-- RESYNCH arrives, and the next command as well
abbrev begun_anew : List Line
begun_anew =
    four_lost ++
    FromTerminal resynch Whole ∷ FromCard resynched Whole ∷ GivenUp
    ∷ Command select ∷ FromTerminal select_block Whole ∷ Asked select ∷ []

begun_anew-terminal : replay_from (Ok 32) begun_anew Terminal ≡ None
begun_anew-terminal = refl

begun_anew-card : replay_from (Ok 32) begun_anew Card ≡ None
begun_anew-card = refl

-- the host asks for time
abbrev more_time : List Line
more_time =
    Command select ∷ FromTerminal select_block Whole ∷ Asked select
    ∷ Time 1
    ∷ FromCard (0x00 ∷ 0xC3 ∷ 0x01 ∷ 0x01 ∷ 0xC3 ∷ []) Whole
    ∷ FromTerminal (0x00 ∷ 0xE3 ∷ 0x01 ∷ 0x01 ∷ 0xE3 ∷ []) Whole
    ∷ Asked select
    ∷ Reply done ∷ FromCard done_block Whole ∷ Answer done
    ∷ []

more_time-terminal : replay_from (Ok 32) more_time Terminal ≡ None
more_time-terminal = refl

more_time-card : replay_from (Ok 32) more_time Card ≡ None
more_time-card = refl

-- fields of 2 octets to the terminal, and an answer in two blocks
abbrev chained : List Line
chained =
    Ifsd 2
    ∷ FromTerminal (0x00 ∷ 0xC1 ∷ 0x01 ∷ 0x02 ∷ 0xC2 ∷ []) Whole
    ∷ FromCard (0x00 ∷ 0xE1 ∷ 0x01 ∷ 0x02 ∷ 0xE2 ∷ []) Whole
    ∷ IfsSet
    ∷ Command read
    ∷ FromTerminal (0x00 ∷ 0x00 ∷ 0x05 ∷ 0x00 ∷ 0xB0 ∷ 0x00 ∷ 0x00 ∷ 0x02 ∷ 0xB7 ∷ []) Whole
    ∷ Asked read
    ∷ Reply (0xAA ∷ 0xBB ∷ 0x90 ∷ 0x00 ∷ [])
    ∷ FromCard (0x00 ∷ 0x20 ∷ 0x02 ∷ 0xAA ∷ 0xBB ∷ 0x33 ∷ []) Whole
    ∷ FromTerminal (0x00 ∷ 0x90 ∷ 0x00 ∷ 0x90 ∷ []) Whole
    ∷ FromCard (0x00 ∷ 0x40 ∷ 0x02 ∷ 0x90 ∷ 0x00 ∷ 0xD2 ∷ []) Whole
    ∷ Answer (0xAA ∷ 0xBB ∷ 0x90 ∷ 0x00 ∷ [])
    ∷ []

chained-terminal : replay_from (Ok 32) chained Terminal ≡ None
chained-terminal = refl

chained-card : replay_from (Ok 32) chained Card ≡ None
chained-card = refl

-- the card acts on a command that the terminal then gives up
abbrev acted_on : List Line
acted_on =
    Command select ∷ FromTerminal select_block Whole ∷ Asked select ∷ Reply done
    ∷ FromCard done_block Lost ∷ Quiet ∷ FromTerminal again Whole
    ∷ FromCard done_block Lost ∷ Quiet ∷ FromTerminal again Whole
    ∷ FromCard done_block Lost ∷ Quiet ∷ FromTerminal again Whole
    ∷ FromCard done_block Lost ∷ Quiet ∷ FromTerminal resynch Whole
    ∷ FromCard resynched Whole ∷ GivenUp
    ∷ Command select ∷ FromTerminal select_block Whole ∷ Asked select
    ∷ []

acted_on-terminal : replay_from (Ok 32) acted_on Terminal ≡ None
acted_on-terminal = refl

acted_on-card : replay_from (Ok 32) acted_on Card ≡ None
acted_on-card = refl

-- ---- what differs

-- no parameters of T=1
no_t1 : replay_from (Err (codes "NoT1")) plain Card ≡ Some (2, codes "refused NoT1")
no_t1 = refl

-- a dead card takes no command
after_death : replay_from (Ok 32) (all_lost ++ Command select ∷ []) Terminal ≡ Some (19, codes "refused Dead")
after_death = refl

-- the host has no turn yet
reply_first : replay_from (Ok 32) (Reply done ∷ []) Card ≡ Some (3, codes "refused Order")
reply_first = refl

-- a turn that no line meets
unmet_at_end : replay_from (Ok 32) (Command select ∷ []) Terminal ≡ Some (4, codes "t 00000500A4040000A5")
unfolding encode_with
unmet_at_end = refl

-- the same where the other end sends a block, which is lost and passes
unmet_past_lost : replay_from (Ok 32) (Command select ∷ FromCard again Lost ∷ []) Terminal
    ≡ Some (5, codes "t 00000500A4040000A5")
unfolding encode_with
unmet_past_lost = refl

-- the call after it isn't made
unmet_at_call : replay_from (Ok 32) (Command select ∷ Quiet ∷ Dead ∷ []) Terminal
    ≡ Some (4, codes "t 00000500A4040000A5")
unfolding encode_with
unmet_at_call = refl

-- it passes at the card
only_command : replay_from (Ok 32) (Command select ∷ []) Card ≡ None
only_command = refl

-- an answer to nothing
only_answer : replay_from (Ok 32) (Answer done ∷ []) Terminal ≡ Some (3, codes "nothing")
only_answer = refl

-- a turn is met once
met_twice : replay_from (Ok 32)
    (Command select ∷ FromTerminal select_block Whole ∷ FromTerminal select_block Whole ∷ []) Terminal
    ≡ Some (5, codes "nothing")
met_twice = refl
