-- The rules of a line that follow from the setup of a session. The clauses are those of ISO/IEC 7816-3:2006.
use Rattle.std.specs.Prelude.{ℕ, ◌+◌, ◌-◌, ◌*◌, ◌/◌, max, Bool, ◌&&◌, ◌||◌, ◌==◌, not, nat_le, if◌then◌else◌, Option, Some, None}
use Rattle.atr_core.specs.T1.{T1Values}
use Rattle.atr_core.specs.Waiting.{block_waiting, character_waiting}
use Rattle.session_core.specs.declared.progress.Rules.{Rules}
use Rattle.session_core.specs.declared.setup.Setup.{Setup}
use Rattle.session_core.specs.declared.setup.Limits.{Limits}
use Rattle.session_core.specs.Wire.{forever, is_set}

-- the parameters of T=1
abbrev pub t1_of : Setup → T1Values
t1_of s = record { ifsc = s.ifsc; bwi = s.bwi; cwi = s.cwi }

-- so many parts of a second in microseconds, rounded up
abbrev pub micros : ℕ → ℕ → ℕ
micros parts in_second = (parts * 1000000 + (in_second - 1)) / in_second

-- an elementary time unit has Fi parts, and a second has so many of them (7.1)
abbrev pub in_second : Setup → ℕ
in_second s = s.di * s.hertz

-- Fi, Di and the frequency aren't 0, Di is at most 64, and the frequency at least 1,000 hertz (own)
abbrev pub clock_runs : Setup → Bool
clock_runs s = not (s.fi == 0) && (not (s.di == 0) && (nat_le s.di 64 && nat_le 1000 s.hertz))

-- so many elementary time units
abbrev pub etus : Setup → ℕ → ℕ
etus s count = micros (count * s.fi) (in_second s)

-- CWT (11.4.3)
abbrev pub cwt_of : Setup → T1Values → ℕ
cwt_of s v = micros (character_waiting v * s.fi) (in_second s)

-- BWT (11.4.3). A card answers a broken block after three quarters of it, so that time has to be CWT or more (own).
abbrev pub bwt_of : Setup → T1Values → ℕ
bwt_of s v = max (micros (block_waiting v s.fi s.di) (in_second s)) (cwt_of s v / 3 * 4 + 4)

-- the limits of an exchange, with 0 for an hour and for 262,144 blocks (own)
abbrev pub limits_of : ℕ → ℕ → Limits
limits_of time blocks = record {
  time = if time == 0 then 3600000000 else time;
  blocks = if blocks == 0 then 262144 else blocks;
}

-- the silence that ends a whole block is at most CWT, or none does
abbrev pub fits_silence : ℕ → ℕ → Bool
fits_silence silence cwt = nat_le silence cwt || (silence == forever)

-- The rules with these waiting times. BGT is 22 elementary time units, and a character takes 12 (11.2, 11.4.3). A card
-- waits for its terminal without a limit.
abbrev pub rules_with : Setup → ℕ → ℕ → ℕ → Rules
rules_with s bwt cwt is_card = record {
  bwt = bwt;
  cwt = cwt;
  bgt = if s.silence == forever then 0 else etus s 22;
  after = if s.silence == 0 then etus s 22 else s.silence;
  octet = etus s 12;
  most_time = if is_set is_card then forever else (limits_of s.most_time s.most_blocks).time;
  most_blocks = (limits_of s.most_time s.most_blocks).blocks;
  has_clock = s.has_clock;
  has_echo = s.has_echo;
  refuses_empty = s.refuses_empty;
  is_card = is_card;
}

-- the rules for a card with these parameters, if the setup is valid
abbrev pub rules_of : Setup → T1Values → ℕ → Option Rules
rules_of s v is_card =
    if clock_runs s && fits_silence s.silence (cwt_of s v) then Some (rules_with s (bwt_of s v) (cwt_of s v) is_card)
    else None

-- no limit
abbrev pub no_limits : Limits
no_limits = record { time = forever; blocks = 4294967295 }
