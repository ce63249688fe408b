-- How an end uses its line, step by step: what happened on the line, and what the end does next. The clauses are those
-- of ISO/IEC 7816-3:2006. Times are in microseconds.
use Rattle.std.specs.Prelude.{◌^◌, ◌%◌, ◌≡◌, ℕ, ◌+◌, ◌-◌, ◌*◌, ◌/◌, List, [], ◌∷◌, ◌++◌, length, take, drop, slice_index, min, max, Bool, true, false, ◌&&◌, ◌||◌, ◌==◌, not, nat_eq, nat_lt, nat_le, if◌then◌else◌}
use Rattle.std.specs.List.{starts_with}
use Rattle.block_core.specs.Block.{is_whole}
use Rattle.line_core.specs.Bursts.{HasHeard, damaged_block, handed}
use Rattle.line_core.specs.declared.framing.Framer.{Framer}
use Rattle.session_core.specs.declared.event.Event.{Event}
use Rattle.session_core.specs.declared.event.Event.TheVariants.{Sent, Came, Garbled, Silent, Failed as fails}
use Rattle.session_core.specs.declared.event.Next.{Next}
use Rattle.session_core.specs.declared.event.Next.TheVariants.{Send, Wait, Heard, Quiet, Failed, UsedUp, Echo, Order}
use Rattle.session_core.specs.declared.progress.Phase.{Phase}
use Rattle.session_core.specs.declared.progress.Phase.TheVariants.{Idle, Late, Clearing, Settling, Sending, Echoing, Listening, Missing}
use Rattle.session_core.specs.declared.progress.Moment.{Moment}
use Rattle.session_core.specs.declared.progress.Moment.TheVariants.{Unknown, Early, InTime}
use Rattle.session_core.specs.declared.progress.Rules.{Rules}
use Rattle.session_core.specs.declared.progress.Progress.{Progress}

-- ---- the rules of a line

-- a mark is set if it isn't 0
abbrev pub is_set : ℕ → Bool
is_set mark = if mark == 0 then false else true

pub record Ruled : Type 0 where
  -- BWT, CWT and BGT (11.4.3)
  pub bwt : ℕ
  pub cwt : ℕ
  pub bgt : ℕ
  -- the silence that ends a burst which is a whole block
  pub after : ℕ
  -- the time of a character
  pub octet : ℕ
  -- the limits of an exchange
  pub most_time : ℕ
  pub most_blocks : ℕ
  pub has_clock : Bool
  pub has_echo : Bool
  pub refuses_empty : Bool
  pub is_card : Bool

abbrev pub ruled : Rules → Ruled
ruled r = record {
  bwt = r.bwt;
  cwt = r.cwt;
  bgt = r.bgt;
  after = r.after;
  octet = r.octet;
  most_time = r.most_time;
  most_blocks = r.most_blocks;
  has_clock = is_set r.has_clock;
  has_echo = is_set r.has_echo;
  refuses_empty = is_set r.refuses_empty;
  is_card = is_set r.is_card;
}

-- ---- what an end has done on its line

pub record Doing : Type 0 where
  pub phase : Phase
  -- the silence to wait for before it sends again, and how long it waits for the first octet of a burst
  pub owed : ℕ
  pub first : ℕ
  -- the current wait: how long it is, whether a limit cut it short, when it began, and how often it was interrupted
  pub asked : ℕ
  pub is_cut : Bool
  pub asked_at : ℕ
  pub interrupts : ℕ
  -- the current exchange: when it began, how much of its time is certainly over, and its blocks
  pub began : ℕ
  pub spent : ℕ
  pub blocks : ℕ
  -- how many more octets it drops before it stops waiting for a silence
  pub left : ℕ
  -- the block that it sent last: how much of its echo came, how late it was, and whether it was sent too quickly
  pub own : ℕ
  pub late : ℕ
  pub is_quick : Bool
  -- the current burst: when it began, whether an octet of it came damaged, and whether it is a whole block
  pub began_at : Moment
  pub is_spoiled : Bool
  pub is_whole : Bool
  -- how many bursts in a row began with the block that it sent last
  pub echoes : ℕ

-- the phase with a number, and that of an idle end if it has none
abbrev pub phase_of : ℕ → Phase
phase_of number =
    if number == 1 then Late
    else (if number == 2 then Clearing
    else (if number == 3 then Settling
    else (if number == 4 then Sending
    else (if number == 5 then Echoing
    else (if number == 6 then Listening
    else (if number == 7 then Missing else Idle))))))

abbrev pub moment_with : ℕ → Moment
moment_with number = if number == 1 then Early else (if number == 2 then InTime else Unknown)

-- what the numbers of an end say
abbrev pub seen : Progress → Doing
seen p = record {
  phase = phase_of p.phase;
  owed = p.owed;
  first = p.first;
  asked = p.asked;
  is_cut = is_set p.is_cut;
  asked_at = p.asked_at;
  interrupts = p.interrupts;
  began = p.began;
  spent = p.spent;
  blocks = p.blocks;
  left = p.left;
  own = p.own;
  late = p.late;
  is_quick = is_set p.is_quick;
  began_at = moment_with p.began_at;
  is_spoiled = is_set p.is_spoiled;
  is_whole = is_set p.is_whole;
  echoes = p.echoes;
}

-- the greatest time, which stands for no limit and for no silence
abbrev pub forever : ℕ
forever = 18446744073709551615

-- a time that isn't longer than the greatest one
abbrev pub capped : ℕ → ℕ
capped time = min time forever

-- ---- the clock

-- How far the clock went on. After its greatest number a clock begins again at 0.
abbrev pub turned : ℕ → ℕ → ℕ
turned now began = (now + (2 ^ 64 - began)) % 2 ^ 64

-- Half of all numbers. A clock that would have gone on further went back.
abbrev pub half : ℕ
half = 9223372036854775807

-- the time since a moment, or another one if the clock went back
abbrev pub passed : ℕ → ℕ → ℕ → ℕ
passed now began back = if nat_le (turned now began) half then turned now began else back

-- a clock that went back stood still
abbrev pub since : ℕ → ℕ → ℕ
since now began = passed now began 0

-- ---- the limits of an exchange

-- how much of the time of the exchange is over: by the clock, or what is certainly over
abbrev pub gone : Ruled → Doing → ℕ → ℕ
gone r p now = if r.has_clock then since now p.began else p.spent

-- what is left of it
abbrev pub left_of : Ruled → Doing → ℕ → ℕ
left_of r p now = if r.most_time == forever then forever else r.most_time - gone r p now

-- the time that so many octets take, unless the line delivers whole bursts
abbrev pub time_of : Ruled → ℕ → ℕ
time_of r count = if r.after == forever then 0 else capped (count * r.octet)

abbrev pub spends : Doing → ℕ → Doing
spends p time = record p { spent = capped (p.spent + time) }

-- ---- what an end does on its line, and the burst that came so far

pub record Step : Type 0 where
  pub progress : Doing
  pub burst : List ℕ
  pub next : Next

abbrev pub step_of : Doing → List ℕ → Next → Step
step_of p burst next = record { progress = p; burst = burst; next = next }

-- it waits for octets, no longer than what is left of the time
abbrev pub asking : Doing → ℕ → ℕ → ℕ → Doing
asking p wanted left now =
    record p { asked = min wanted left; is_cut = nat_lt left wanted; asked_at = now; interrupts = 0 }

abbrev pub waits : Ruled → Doing → List ℕ → ℕ → ℕ → Step
waits r p burst wanted now =
    step_of (asking p wanted (left_of r p now) now) burst (Wait (min wanted (left_of r p now)))

-- it stops
abbrev pub stops : Doing → List ℕ → Next → Step
stops p burst next = step_of (record p { phase = Idle }) burst next

-- How long the line has to be silent after a burst that isn't a whole block, before the end sends. A terminal waits as
-- long as for the answer. A card answers within BWT: it waits for three quarters of it, and for CWT at least (own).
abbrev pub broken : Ruled → Doing → ℕ
broken r p = if r.is_card then max (r.bwt / 4 * 3) r.cwt else p.first

-- an end that hasn't used its line yet: the line has to be silent for BGT before the end sends (11.4.3)
abbrev pub fresh : Ruled → Doing
fresh r = record {
  phase = Idle;
  owed = r.bgt;
  first = forever;
  asked = 0;
  is_cut = false;
  asked_at = 0;
  interrupts = 0;
  began = 0;
  spent = 0;
  blocks = 0;
  left = 0;
  own = 0;
  late = 0;
  is_quick = false;
  began_at = Unknown;
  is_spoiled = false;
  is_whole = false;
  echoes = 0;
}

-- ---- octets that are dropped

-- after this many octets without a silence, the line doesn't wait for one any more (own)
abbrev pub most_noise : ℕ
most_noise = 65536

-- the silence that the end waits for in each phase in which it drops octets
abbrev pub silence_in : Phase → Ruled → Doing → ℕ
silence_in Settling r p = p.owed
silence_in Missing r p = broken r p
silence_in phase r p = if r.is_card then r.bgt else r.bwt

unfoldable pub dropping : Ruled → Doing → List ℕ → ℕ → Step
dropping r p burst now = waits r p burst (silence_in p.phase r p) now

unfoldable pub drops : Ruled → Doing → Phase → List ℕ → ℕ → Step
drops r p phase burst now = dropping r (record p { phase = phase; left = most_noise }) burst now

-- `count` more octets came
unfoldable pub dropped : Ruled → Doing → List ℕ → ℕ → ℕ → Step
dropped r p burst count now =
    if nat_le p.left count then stops (record p { left = 0 }) burst Failed
    else dropping r (record p { left = p.left - count }) burst now

-- the line was silent
abbrev pub cleared : Ruled → Doing → Doing
cleared r p = if nat_le p.owed (silence_in p.phase r p) then record p { owed = 0 } else p

-- ---- a block is sent

unfoldable pub says : Doing → ℕ → Step
says p now = step_of
    (record p { phase = Sending; asked_at = now; is_spoiled = false; is_whole = false; began_at = Unknown }) [] Send

-- once the line is silent (BGT: 11.4.3)
unfoldable pub settles : Ruled → Doing → List ℕ → ℕ → Step
settles r p burst now = if p.owed == 0 then says p now else drops r p Settling burst now

-- within the limits of the exchange
-- the greatest number of blocks, and of octets of an echo, that is counted
abbrev pub most_counted : ℕ
most_counted = 4294967295

abbrev pub is_used_up : Ruled → Doing → ℕ → Bool
is_used_up r p now = not r.is_card && (nat_le r.most_blocks p.blocks || (left_of r p now == 0))

unfoldable pub talks : Ruled → Doing → List ℕ → ℕ → Step
talks r p burst now =
    if is_used_up r p now then stops p burst UsedUp
    else settles r (record p { blocks = min (p.blocks + 1) most_counted }) burst now

-- an exchange begins: octets that came late are dropped first
unfoldable pub begins : Ruled → Doing → List ℕ → ℕ → Step
begins r p burst now =
    waits r (record p { phase = Late; blocks = 0; spent = 0; echoes = 0; began = now }) burst 0 now

-- or with a silence: octets are dropped until then
unfoldable pub clears : Ruled → Doing → List ℕ → ℕ → Step
clears r p burst now = drops r (record p { blocks = 0; spent = 0; echoes = 0; began = now }) Clearing burst now

-- ---- the burst that comes after it

-- how long a silence must be to end the burst: before the first octet the wait for it; inside a block CWT, and after a
-- whole block a shorter time (11.4.3)
abbrev pub wait_in : Ruled → Doing → List ℕ → ℕ
wait_in r p [] = p.first
wait_in r p (octet ∷ octets) = if p.is_whole then r.after else r.cwt

-- the burst is over without a silence: no silence ends a whole block, or too many octets came
abbrev pub is_over : Ruled → Doing → List ℕ → Bool
is_over r p burst = nat_le most_noise (length burst) || (p.is_whole && (r.after == forever))

-- what the end owes after the burst
abbrev pub owed_after : Ruled → Doing → List ℕ → ℕ
owed_after r p [] = p.owed
owed_after r p (octet ∷ octets) =
    if p.is_whole then (if nat_lt r.after r.bgt then r.bgt else 0) else broken r p

-- Less than 20 etu after a block was sent, no octet of the other end can be there. An end begins to send at the
-- earliest 22 etu after the beginning of the last character (BGT: 11.4.3), so 10 etu after its end, and an octet is
-- there 10 etu after it began.
abbrev pub guard : Ruled → ℕ
guard r = capped (r.octet * 5) / 3

-- when a burst began whose first octet came so long after the block was sent
abbrev pub moment_of : Ruled → Doing → ℕ → Moment
moment_of r p since =
    if not r.has_clock || (r.after == forever) then Unknown
    else (if nat_le (guard r) since then InTime
    else (if nat_lt p.late (guard r - since) then Early else Unknown))

-- the second octet of a burst says what kind it is of (11.3.2.2)
abbrev pub pcb_of : List ℕ → ℕ
pcb_of octets = slice_index octets 1

abbrev pub is_info : List ℕ → Bool
is_info octets = nat_lt (pcb_of octets) 0x80

abbrev pub is_supervisory : List ℕ → Bool
is_supervisory octets = nat_le 0xC0 (pcb_of octets)

abbrev pub is_in_time : Moment → Bool
is_in_time InTime = true
is_in_time moment = false

abbrev pub is_early : Moment → Bool
is_early Early = true
is_early moment = false

-- The octets of the burst that are passed to the end begin with the block that was just sent. An I-block that came in
-- time isn't an echo: a right answer may equal its command.
abbrev pub is_echo : Ruled → Doing → List ℕ → List ℕ → Bool
is_echo r p octets block =
    not r.has_echo && (nat_lt 0 (length block) && (starts_with nat_eq octets block
    && not (is_info octets && is_in_time p.began_at)))

-- So many echoes in a row are no chance. A terminal asks at most three times for a block (11.6.3.2 rule 7.4). So a card
-- can hear six R-blocks like its own last one with nothing between: three until its R-block arrives, and three because
-- the next I-block is lost.
abbrev pub most_echoes : ℕ
most_echoes = 8

abbrev pub echoes_after : Bool → Doing → ℕ
echoes_after true p = min (p.echoes + 1) most_echoes
echoes_after false p = 0

-- An echo is certain if it came before the other end may have sent it. Both ends may rightly send the same R-block one
-- after the other, so for an R-block the clock must not be too coarse to tell. No end answers with the S-block that it
-- got, and none repeats a block so often.
abbrev pub is_certain : Doing → List ℕ → Bool
is_certain p octets =
    (is_early p.began_at && (is_info octets || not p.is_quick)) || (is_supervisory octets || (p.echoes == most_echoes))

-- An I-block that may be an echo counts as a damaged one, and so does one without information if the rules say so.
abbrev pub is_refused : Ruled → Doing → List ℕ → Bool → Bool
is_refused r p octets echo =
    p.is_whole && (is_info octets && (echo || (r.refuses_empty && (length octets == 4))))

-- the burst has ended, and the end takes it, unless it is an echo
unfoldable pub hands : Ruled → Doing → List ℕ → List ℕ → Bool → Step
hands r p burst octets echo =
    if is_refused r p octets echo then stops (record p { is_spoiled = true; owed = broken r p }) burst Heard
    else stops p burst Heard

unfoldable pub judges : Ruled → Doing → List ℕ → List ℕ → Bool → Step
judges r p burst octets echo =
    if echo && is_certain p octets then stops (record p { echoes = 0 }) burst Echo
    else hands r p burst octets echo

abbrev pub counted : Doing → ℕ → Bool → Doing
counted p owed echo = record p { owed = owed; echoes = echoes_after echo p }

unfoldable pub judged : Ruled → Doing → List ℕ → List ℕ → Step
judged r p burst block = judges r (counted p (owed_after r p burst) (is_echo r p (take handed burst) block)) burst
    (take handed burst) (is_echo r p (take handed burst) block)

-- a silence ended the burst
unfoldable pub ends : Ruled → Doing → List ℕ → List ℕ → Step
ends r p [] block = stops p [] Quiet
ends r p (octet ∷ octets) block = judged r p (octet ∷ octets) block

-- it waits for more of the burst, unless that is over
unfoldable pub goes_on : Ruled → Doing → List ℕ → ℕ → List ℕ → Step
goes_on r p burst now block =
    if is_over r p burst then judged r p burst block else waits r p burst (wait_in r p burst) now

-- these octets came
abbrev pub begun : Ruled → Doing → List ℕ → ℕ → Doing
begun r p [] now = record p { began_at = moment_of r p (since now p.asked_at) }
begun r p (octet ∷ octets) now = p

abbrev pub spoiled : Doing → Bool → Doing
spoiled p is_garbled = record p { is_spoiled = p.is_spoiled || is_garbled }

abbrev pub weighed : Doing → List ℕ → Doing
weighed p burst = record p { is_whole = not p.is_spoiled && is_whole burst }

unfoldable pub hears : Ruled → Doing → List ℕ → List ℕ → Bool → ℕ → List ℕ → Step
hears r p burst octets is_garbled now block =
    goes_on r (weighed (spoiled (begun r p burst now) is_garbled) (burst ++ octets)) (burst ++ octets) now block

-- ---- the echo of a block on a line that has one

-- how long the octets of a block take
abbrev pub takes : Ruled → List ℕ → ℕ
takes r block = capped (length block * r.octet)

-- the wait for each part of it
abbrev pub echo_wait : Ruled → List ℕ → ℕ
echo_wait r block = capped (r.cwt + takes r block)

-- what is left of it to come
abbrev pub unheard : Doing → List ℕ → List ℕ
unheard p block = drop p.own block

-- octets are the next ones of it, as far as both go
abbrev pub agrees : List ℕ → List ℕ → Bool
agrees octets rest =
    if nat_lt (length octets) (length rest) then starts_with nat_eq rest octets else starts_with nat_eq octets rest

-- the other end's block met it
unfoldable pub misses : Ruled → Doing → List ℕ → ℕ → Step
misses r p burst now = drops r p Missing burst now

-- octets after the echo begin the next burst
unfoldable pub follows : Ruled → Doing → List ℕ → List ℕ → ℕ → List ℕ → Step
follows r p burst octets now block =
    goes_on r (weighed (record p { phase = Listening }) (burst ++ octets)) (burst ++ octets) now
    block

unfoldable pub hears_echo : Ruled → Doing → List ℕ → List ℕ → List ℕ → ℕ → List ℕ → Step
hears_echo r p burst octets rest now block =
    if nat_lt (length octets) (length rest)
    then waits r (record p { own = min (p.own + length octets) most_counted }) burst (echo_wait r block) now
    else follows r p burst (drop (length rest) octets) now block

unfoldable pub echoed : Ruled → Doing → List ℕ → List ℕ → ℕ → List ℕ → Step
echoed r p burst octets now block =
    if agrees octets (unheard p block) then hears_echo r p burst octets (unheard p block) now block
    else misses r p burst now

-- how long the sending of the block took; a clock that went back doesn't know
abbrev pub took : Doing → ℕ → ℕ
took p now = passed now p.asked_at forever

-- the block was sent
abbrev pub timed : Doing → ℕ → ℕ → Doing
timed p time needs = record p { is_quick = nat_lt time (needs / 2); late = time - needs; own = 0 }

unfoldable pub sent_in : Ruled → Doing → List ℕ → ℕ → List ℕ → Step
sent_in r p burst now block =
    if r.has_echo then waits r (record p { phase = Echoing }) burst (echo_wait r block) now
    else goes_on r (record (spends p (time_of r (length block))) { phase = Listening }) burst now block

unfoldable pub sent : Ruled → Doing → List ℕ → ℕ → List ℕ → Step
sent r p burst now block = sent_in r (timed p (took p now) (takes r block)) burst now block

-- ---- what happened in each phase

-- no more of the echo came: the line has none, or another block met it
unfoldable pub unechoed : Ruled → Doing → List ℕ → ℕ → Step
unechoed r p burst now = if p.own == 0 then stops p burst Failed else misses r p burst now

-- a card waits for the next block
unfoldable pub awaits : Ruled → Doing → ℕ → Step
awaits r p now = waits r
    (record p { phase = Listening; is_spoiled = false; is_whole = false; began_at = Unknown }) [] p.first now

-- A card begins to listen. If the last burst was broken, it drops octets first.
unfoldable pub serves : Ruled → Doing → List ℕ → ℕ → Step
serves r p burst now = if nat_lt r.bgt p.owed then drops r p Missing burst now else awaits r p now

-- after a block that met another one: a card listens again, and to a terminal nothing came
unfoldable pub missed : Ruled → Doing → List ℕ → ℕ → Step
missed r p burst now = if r.is_card then awaits r p now else stops p burst Quiet

-- after a failure inside a burst, the end owes what it owes after a broken one
abbrev pub left_in : Phase → Ruled → Doing → List ℕ → Doing
left_in Listening r p burst = record p { owed = owed_after r p burst }
left_in phase r p burst = p

-- nothing came within the silence that was asked for
unfoldable pub silent_in : Phase → Ruled → Doing → List ℕ → ℕ → List ℕ → Step
silent_in Late r p burst now block = talks r p burst now
silent_in Clearing r p burst now block = talks r (cleared r p) burst now
silent_in Settling r p burst now block = says (cleared r p) now
silent_in Echoing r p burst now block = unechoed r p burst now
silent_in Listening r p burst now block = ends r p burst block
silent_in Missing r p burst now block = missed r (cleared r p) burst now
silent_in phase r p burst now block = step_of p burst Order

unfoldable pub met : Ruled → Doing → List ℕ → List ℕ → Bool → ℕ → List ℕ → Step
met r p burst octets is_garbled now block =
    if is_garbled then misses r p burst now else echoed r p burst octets now block

unfoldable pub came_in : Phase → Ruled → Doing → List ℕ → List ℕ → Bool → ℕ → List ℕ → Step
came_in Late r p burst octets is_garbled now block = drops r p Clearing burst now
came_in Clearing r p burst octets is_garbled now block = dropped r p burst (length octets) now
came_in Settling r p burst octets is_garbled now block = dropped r p burst (length octets) now
came_in Missing r p burst octets is_garbled now block = dropped r p burst (length octets) now
came_in Echoing r p burst octets is_garbled now block = met r p burst octets is_garbled now block
came_in Listening r p burst octets is_garbled now block = hears r p burst octets is_garbled now block
came_in phase r p burst octets is_garbled now block = step_of p burst Order

abbrev pub is_waiting : Phase → Bool
is_waiting Idle = false
is_waiting Sending = false
is_waiting phase = true

abbrev pub is_idle : Phase → Bool
is_idle Idle = true
is_idle phase = false

-- the time of the exchange is over
unfoldable pub used_up : Ruled → Doing → List ℕ → Step
used_up r p burst = stops (left_in p.phase r p burst) burst UsedUp

unfoldable pub silent : Ruled → Doing → List ℕ → ℕ → List ℕ → Step
silent r p burst now block =
    if p.is_cut then used_up r (spends p p.asked) burst
    else silent_in p.phase r (spends p p.asked) burst now block

unfoldable pub failed : Ruled → Doing → List ℕ → Step
failed r p burst = stops (left_in p.phase r p burst) burst Failed

-- After so many interrupts in a row the line has failed, if the wait has an end (own). A wait that is over by the clock
-- ends with a look at what is there already.
abbrev pub most_interrupts : ℕ
most_interrupts = 1000000

abbrev pub last_look : ℕ
last_look = 4294967295

unfoldable pub counts_interrupt : Ruled → Doing → List ℕ → Step
counts_interrupt r p burst =
    if nat_le most_interrupts p.interrupts then failed r p burst
    else step_of (record p { interrupts = p.interrupts + 1 }) burst (Wait p.asked)

abbrev pub is_past : Ruled → Doing → ℕ → Bool
is_past r p now = r.has_clock && nat_le p.asked (since now p.asked_at)

unfoldable pub interrupted : Ruled → Doing → List ℕ → ℕ → List ℕ → Step
interrupted r p burst now block =
    if p.asked == forever then step_of p burst (Wait forever)
    else (if p.interrupts == last_look then silent r p burst now block
    else (if is_past r p now then step_of (record p { interrupts = last_look }) burst (Wait 0)
    else counts_interrupt r p burst))

-- nothing was left of the time when the wait began
abbrev pub has_none_left : Doing → Bool
has_none_left p = p.is_cut && (p.asked == 0)

unfoldable pub takes_in : Ruled → Doing → List ℕ → List ℕ → Bool → ℕ → List ℕ → Step
takes_in r p burst octets is_garbled now block =
    if has_none_left p then used_up r p burst
    else came_in p.phase r p burst octets is_garbled now block

unfoldable pub came : Ruled → Doing → List ℕ → List ℕ → Bool → ℕ → List ℕ → Step
came r p burst [] is_garbled now block = interrupted r p burst now block
came r p burst (octet ∷ octets) is_garbled now block =
    takes_in r (spends p (time_of r (length (octet ∷ octets)))) burst (octet ∷ octets) is_garbled now block

abbrev pub is_sending : Phase → Bool
is_sending Sending = true
is_sending phase = false

-- ---- the table

-- The end has done this so far, this burst came so far, and this is its block. Then this happened at this moment. An
-- event fits only while the end waits, or only while it sends.
unfoldable pub on_sent : Ruled → Doing → List ℕ → ℕ → List ℕ → Step
on_sent r p burst now block = if is_sending p.phase then sent r p burst now block else step_of p burst Order

unfoldable pub on_came : Ruled → Doing → List ℕ → List ℕ → Bool → ℕ → List ℕ → Step
on_came r p burst octets is_garbled now block =
    if is_waiting p.phase then came r p burst octets is_garbled now block else step_of p burst Order

unfoldable pub on_silent : Ruled → Doing → List ℕ → ℕ → List ℕ → Step
on_silent r p burst now block = if is_waiting p.phase then silent r p burst now block else step_of p burst Order

unfoldable pub on_failed : Ruled → Doing → List ℕ → Step
on_failed r p burst = if is_idle p.phase then step_of p burst Order else failed r p burst

unfoldable pub step : Ruled → Doing → List ℕ → Event → ℕ → List ℕ → Step
step r p burst Sent now block = on_sent r p burst now block
step r p burst (Came octets) now block = on_came r p burst octets.now false now block
step r p burst (Garbled octets) now block = on_came r p burst octets.now true now block
step r p burst Silent now block = on_silent r p burst now block
step r p burst fails now block = on_failed r p burst

-- ---- what the end takes as one block

-- a block with a wrong check octet, in place of a burst that the end may not take
abbrev pub handed_over : Bool → List ℕ → List ℕ
handed_over is_spoiled burst = if is_spoiled then damaged_block else burst

-- ---- what a call leaves

-- the end and its burst are those of this step
pub record IsStep (step : Step) (p : Doing) (framer : Framer) (next : Next) : Type 0 where
  pub progress : p ≡ step.progress
  pub burst : HasHeard framer step.burst
  pub next_is : next ≡ step.next
