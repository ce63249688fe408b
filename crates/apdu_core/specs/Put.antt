-- What a buffer holds after octets were put into it.
use Rattle.std.specs.Prelude.{◌≡◌, ℕ, ◌+◌, List, ◌++◌, length, take, drop}

-- the octets were put from place `start` up to place `end`, and the rest of the buffer stays as it
-- was
pub record IsPutAt (start : ℕ) (octets old new : List ℕ) (end : ℕ) : Type 0 where
  pub ends : end ≡ start + length octets
  pub long : length new ≡ length old
  pub front : take end new ≡ take start old ++ octets
  pub kept : drop end new ≡ drop end old
