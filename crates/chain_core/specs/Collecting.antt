-- Memory in which a message is collected.
use Rattle.std.specs.Prelude.{◌≡◌, ℕ, ◌-◌, ◌≤◌, List, length, take, drop, replicate}

-- the message, and how many octets its memory has room for
pub record Collecting : Type 0 where
  pub octets : List ℕ
  pub room : ℕ

-- the first `count` octets of the memory are the message
abbrev pub collecting : ℕ → List ℕ → Collecting
collecting count memory = record { octets = take count memory; room = length memory }

-- each octet of the memory after the first `count` is 0
pub record IsBlank (count : ℕ) (memory : List ℕ) : Type 0 where
  pub inside : count ≤ length memory
  pub after : drop count memory ≡ replicate (length memory - count) 0
