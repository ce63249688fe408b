-- Octets in memory that is overwritten before it is freed.
use Rattle.std.specs.Prelude.{ℕ, List}
use Rattle.std.specs.Borrow.{Lends, MutBor, Fml, Array, u8}
use Rattle.std.specs.Vec.{with_items, vec_len}
use Rattle.chain_core.specs.declared.wiped.Wiped.{Wiped}
use Rattle.chain_core.specs.contracts.wiped.Memory.{the_row as memory_row}
use Rattle.chain_core.specs.contracts.wiped.Wiped.{the_row}
use Rattle.chain_core.specs.declared.wiped.Memory.{Memory}

-- the octets in it
abbrev pub held_in : Wiped → List ℕ
held_in w = w.memory.octets.items

-- how many octets are in it
abbrev pub count_in : Wiped → ℕ
count_in w = vec_len w.memory.octets

-- the same memory with these octets, as many as before
abbrev pub with_held : Memory → List ℕ → Memory
with_held memory octets = record memory { octets = with_items memory.octets octets }

abbrev pub with_octets : Wiped → List ℕ → Wiped
with_octets w octets = record w { memory = with_held w.memory octets }

-- after the mutable borrow ends, the octets are those that were written
abbrev pub LendsHeld : MutBor Memory → MutBor (List ℕ) → Fml
LendsHeld m r = Lends memory_row (Array u8 0) m r (with_held m.now)

abbrev pub LendsOctets : MutBor Wiped → MutBor (List ℕ) → Fml
LendsOctets w r = Lends the_row (Array u8 0) w r (with_octets w.now)
