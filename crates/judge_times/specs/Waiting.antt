-- When a card's block comes too late, and a terminal's too early: ISO/IEC 7816-3:2006, 11.4.3.
use Rattle.std.specs.Prelude.{ℕ, ◌+◌, ◌-◌, ◌*◌, ◌/◌, ◌==◌, nat_lt, max, min, bit_and, Bool, true, false, List, [], ◌∷◌, Option, Some, None, if◌then◌else◌}
use Rattle.std.specs.Int.{div_ceil}
use Rattle.atr_core.specs.Atr.{AtrParts}
use Rattle.atr_core.specs.Rates.{rates_of}
use Rattle.atr_core.specs.T1.{T1Values}
use Rattle.atr_core.specs.Waiting.{block_waiting, character_waiting}
use Rattle.line_core.specs.Bursts.{most_counted}
use Rattle.atr_core.specs.declared.atr.Indicated.{Indicated}
use Rattle.block_core.specs.declared.pcb.Pcb.{Pcb}
use Rattle.block_core.specs.declared.pcb.Pcb.TheVariants.{Info, Ready, Request, Response}
use Rattle.block_core.specs.declared.pcb.S.TheVariants.{Resynch, Ifs, Abort, Wtx}
use Rattle.judge_core.specs.declared.courses.Heard.{Heard}
use Rattle.judge_core.specs.declared.courses.Heard.TheVariants.{Beginning, Whole, Perhaps, Broken, Nothing}
use Rattle.judge_core.specs.declared.monitor.Said.{Said}
use Rattle.judge_core.specs.declared.monitor.Said.TheVariants.{Damage, Elsewhere, Block}
use Rattle.block_core.specs.declared.side.Side.{Side}
use Rattle.block_core.specs.declared.side.Side.TheVariants.{Terminal, Card}
use Rattle.judge_times.specs.declared.timing.Etu.{Etu}
use Rattle.judge_times.specs.declared.timing.Early.{Early}
use Rattle.judge_times.specs.declared.timing.Late.{Late}
use Rattle.judge_times.specs.declared.timing.Sent.{Sent}
use Rattle.judge_times.specs.declared.timing.Timing.{Timing}
use Rattle.judge_times.specs.declared.timing.Interval.{Interval}

-- F and D, each if it is known
abbrev pub Rates : Type 0
Rates = Option ℕ × Option ℕ

-- what an answer to reset offers: the parameters of T=1, and F and D until PPS
pub record Offered : Type 0 where
  pub values : T1Values
  pub rates : Rates

-- ---- F and D (ISO/IEC 7816-3:2006, 8.3)

-- TA2, if there is one
abbrev pub second_ta : List Indicated → Option ℕ
second_ta [] = None
second_ta (second ∷ more) = second.bytes.ta

-- F and D from a reset: those of TA1 if TA2 says so; unknown if bit 5 of TA2 is set; 372 and 1 without TA2.
abbrev pub rates_by : Option ℕ → Rates → Rates
rates_by None offered = (Some 372, Some 1)
rates_by (Some ta2) offered = if bit_and ta2 16 == 0 then offered else (None, None)

abbrev pub rates_before : AtrParts → Rates
rates_before a = rates_by (second_ta a.indicated) (rates_of a)

-- ---- moments

-- a moment counts only for what comes directly after it
abbrev pub past : Timing → Timing
past timing = record timing { now = None; until = None }

-- no moment is known
abbrev pub untimed : Timing → Timing
untimed timing = record timing { now = None; until = None; sent = None; came = None }

abbrev pub new_timing : Rates → Timing
new_timing rates = record { rates = rates; now = None; until = None; sent = None; came = None }

-- a block of so many octets that began at this moment
abbrev pub begun_at : Option ℕ → ℕ → Option Sent
begun_at None octets = None
begun_at (Some now) octets = Some (record { moment = now; octets = octets })

-- A block of so many octets: by the moment of its last octet, or else by that of its first.
abbrev pub sent_by : Option ℕ → Option ℕ → ℕ → Option Sent
sent_by (Some until) now octets = Some (record { moment = until; octets = 1 })
sent_by None now octets = begun_at now octets

-- after a block of the card without a moment nothing is known of the times of both
abbrev pub after_card : Timing → Option Sent → Timing
after_card timing (Some came) = record timing { now = None; until = None; came = Some came }
after_card timing None = record timing { now = None; until = None; sent = None; came = None }

-- the timing after a block of so many octets
abbrev pub timed : Timing → Side → ℕ → Timing
timed timing Terminal octets = record timing {
  now = None;
  until = None;
  sent = sent_by timing.until timing.now octets;
  came = None;
}
timed timing Card octets = after_card timing (sent_by timing.until timing.now octets)

-- ---- what is known about a card's block

-- F and D in force, if both are known
abbrev pub etu_of : Rates → Option Etu
etu_of (Some fi, Some di) = Some (record { fi = fi; di = di })
etu_of (Some fi, None) = None
etu_of (None, di) = None

-- the multiple of the block waiting time after a block: a response to a request for time grants it
abbrev pub multiple_of : Pcb → ℕ → ℕ
multiple_of (Response Wtx) octet = max octet 1
multiple_of (Response Resynch) octet = 1
multiple_of (Response Ifs) octet = 1
multiple_of (Response Abort) octet = 1
multiple_of (Info number more) octet = 1
multiple_of (Ready number fault) octet = 1
multiple_of (Request _) octet = 1

-- the multiple that the card has, if it heard a block or may have
abbrev pub granted : Heard → Option ℕ
granted (Whole pcb octet) = Some (multiple_of pcb octet)
granted (Perhaps pcb octet) = Some (multiple_of pcb octet)
granted Beginning = None
granted Broken = None
granted Nothing = None

-- the interval from a block, or from its last octet, to now, if both moments are known
abbrev pub waited_by : Option ℕ → Option Sent → Option Interval
waited_by (Some now) (Some sent) = Some (record { elapsed = now - sent.moment; octets = sent.octets })
waited_by (Some now) None = None
waited_by None sent = None

-- the interval from the terminal's last block
abbrev pub waited : Timing → Option Interval
waited timing = waited_by timing.now timing.sent

-- ---- what is permitted

-- The multiple of BWT, counted from the last of these octets of the terminal's block. Each came at most CWT after the
-- one before. The result is in parts of an etu, F of them in one etu.
abbrev pub permitted_parts : T1Values → ℕ → ℕ → Etu → ℕ
permitted_parts v multiple octets etu =
    multiple * block_waiting v etu.fi etu.di + (octets - 1) * (character_waiting v * etu.fi)

-- the permitted time in microseconds, rounded up; one second has D times the clock's frequency of these parts
abbrev pub permitted_time : T1Values → ℕ → ℕ → ℕ → Etu → ℕ
permitted_time v clock multiple octets etu =
    div_ceil (permitted_parts v multiple octets etu * 1000000) (max (etu.di * clock) 1)

abbrev pub late_after : ℕ → ℕ → Option Late
late_after permitted elapsed =
    if nat_lt permitted elapsed then Some (record { elapsed = elapsed; permitted = permitted }) else None

-- A block is late if all of this is known, and it came after the permitted time.
abbrev pub late_by : T1Values → Option ℕ → Option ℕ → Option Etu → Option Interval → Option Late
late_by v (Some clock) (Some multiple) (Some etu) (Some w) =
    late_after (permitted_time v clock multiple w.octets etu) w.elapsed
late_by v (Some clock) (Some multiple) (Some etu) None = None
late_by v (Some clock) (Some multiple) None w = None
late_by v (Some clock) None etu w = None
late_by v None multiple etu w = None

abbrev pub lateness : T1Values → Option ℕ → Timing → Heard → Option Late
lateness v clock timing heard = late_by v clock (granted heard) (etu_of timing.rates) (waited timing)

-- ---- too early

-- the least time from the beginning of one character to that of the next in a block: CGT, in elementary time units
abbrev pub least_character : ℕ
least_character = 11

-- the least time from the last character of a block to the first of a block of the other end: BGT
abbrev pub block_guard : ℕ
block_guard = 22

-- The least time in microseconds, rounded down, from a block to the terminal's next one, if the terminal waits for this
-- after the last octet, in parts of an etu, F of them in one etu. Each octet came at least CGT after the one before.
abbrev pub least_time : ℕ → ℕ → Etu → ℕ → ℕ
least_time clock wait etu octets =
    ((wait + (octets - 1) * (least_character * etu.fi)) * 1000000) / max (etu.di * clock) 1

abbrev pub early_before : ℕ → ℕ → Option Early
early_before least elapsed =
    if nat_lt elapsed least then Some (record { elapsed = elapsed; least = min least most_counted }) else None

-- what the terminal granted by its last block: a multiple of BWT, 1 if nobody knows whether it arrived
abbrev pub granted_or_one : Option ℕ → ℕ
granted_or_one None = 1
granted_or_one (Some multiple) = multiple

-- before the waiting time of the terminal's own block is over
abbrev pub early_alone : T1Values → ℕ → ℕ → Etu → Interval → Option Early
early_alone v clock multiple etu w =
    early_before (least_time clock (multiple * block_waiting v etu.fi etu.di) etu w.octets) w.elapsed

-- before BGT after a block of the card is over
abbrev pub early_after_card : ℕ → Etu → Interval → Option Early
early_after_card clock etu came = early_before (least_time clock (block_guard * etu.fi) etu came.octets) came.elapsed

-- Once its waiting time is over a terminal may send, since it may have heard no block. Until then it is early if no
-- block of the card came, and otherwise within BGT after that.
abbrev pub early_with : ℕ → Etu → Option Early → Option Interval → Option Early
early_with clock etu None came = None
early_with clock etu (Some alone) None = Some alone
early_with clock etu (Some alone) (Some came) = early_after_card clock etu came

-- A terminal's block is early if all of this is known, and it came before the least time.
abbrev pub early_by : T1Values → Option ℕ → ℕ → Option Etu → Option Interval → Option Interval → Option Early
early_by v (Some clock) multiple (Some etu) (Some w) came =
    early_with clock etu (early_alone v clock multiple etu w) came
early_by v (Some clock) multiple (Some etu) None came = None
early_by v (Some clock) multiple None w came = None
early_by v None multiple etu w came = None

abbrev pub earliness : T1Values → Option ℕ → Timing → Heard → Option Early
earliness v clock timing heard = early_by v clock (granted_or_one (granted heard)) (etu_of timing.rates)
    (waited timing) (waited_by timing.now timing.came)

-- ---- other logical connections

-- A block of another logical connection isn't judged in time, and no block directly after it is.
abbrev pub is_timed : Said → Bool
is_timed Damage = true
is_timed Elsewhere = false
is_timed (Block verdict) = true

abbrev pub timed_as : Said → Timing → Side → ℕ → Timing
timed_as said timing from octets = if is_timed said then timed timing from octets else untimed timing

abbrev pub late_as : Said → Option Late → Option Late
late_as said late = if is_timed said then late else None

abbrev pub early_as : Said → Option Early → Option Early
early_as said early = if is_timed said then early else None
