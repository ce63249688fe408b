-- The waiting times of T=1: ISO/IEC 7816-3, clause 11.4.
use Rattle.std.specs.Prelude.{ℕ, ◌+◌, ◌*◌, ◌^◌}
use Rattle.atr_core.specs.T1.{T1Values}

-- the character waiting time, in elementary time units
abbrev pub character_waiting : T1Values → ℕ
character_waiting v = 11 + 2 ^ v.cwi

-- the block waiting time without its 11 elementary time units, in cycles of the clock
abbrev pub block_cycles : T1Values → ℕ
block_cycles v = 2 ^ v.bwi * (960 * 372)

-- the block waiting time in units of 1/fi of an elementary time unit, which is `fi / di` cycles of the clock
abbrev pub block_waiting : T1Values → ℕ → ℕ → ℕ
block_waiting v fi di = 11 * fi + block_cycles v * di
