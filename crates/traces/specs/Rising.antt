-- Moments that are in order.
use Rattle.std.specs.Prelude.{ℕ, nat_le, ◌&&◌, List, [], ◌∷◌, Bool, true}
use Rattle.exchange_text.specs.Exchange.{latest_moment}
use Rattle.traces.specs.declared.trace.Item.{Item}
use Rattle.traces.specs.declared.trace.Item.TheVariants.{Block, Quiet, Moment}

-- no moment is below an earlier one, or too late for the file of an exchange
abbrev pub rises : ℕ → List Item → Bool
rises least [] = true
rises least (Moment moment ∷ items) = nat_le least moment && (nat_le moment latest_moment && rises moment items)
rises least (Block from octets lost ∷ items) = rises least items
rises least (Quiet ∷ items) = rises least items
