-- The longest messages that an end of a session sends: ISO/IEC 7816-3, clause 12.1.
use Rattle.std.specs.Prelude.{ℕ}

-- the longest command: the header, Lc in three octets, a data field of 65,535 octets, and Le in two
abbrev pub longest_command : ℕ
longest_command = 65544

-- the longest response: a data field of 65,536 octets, SW1 and SW2
abbrev pub longest_response : ℕ
longest_response = 65538
