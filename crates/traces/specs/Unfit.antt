-- What was seen on a line and can't be recorded.
use Rattle.std.specs.Prelude.{ℕ, ◌+◌, ◌*◌, ◌-◌, ◌/◌, ◌%◌, ◌==◌, ◌&&◌, not, nat_lt, List, [], ◌∷◌, length, slice_index, Bool, true, false, Option, Some, None, if◌then◌else◌}
use Rattle.octet_core.specs.Octets.{xor_of}
use Rattle.block_core.specs.declared.side.Side.{Side}
use Rattle.block_core.specs.declared.side.Side.TheVariants.{Terminal, Card}
use Rattle.traces.specs.declared.trace.Item.{Item}
use Rattle.traces.specs.declared.trace.Item.TheVariants.{Block, Quiet, Moment}
use Rattle.traces.specs.declared.unfit.Unfit.{Unfit}
use Rattle.traces.specs.declared.unfit.Unfit.TheVariants.{Pps, NodeAddress, Silence}
use Rattle.trace_text.specs.Reading.{is_silent, words_of}
use Rattle.block_core.specs.Side.{same_side}

-- the first block of an end, by its place among the items, and its octets
abbrev pub first_from : Side → ℕ → List Item → Option (ℕ × List ℕ)
first_from side place [] = None
first_from side place (Block from octets lost ∷ items) =
    if same_side from side then Some (place, octets) else first_from side (place + 1) items
first_from side place (Quiet ∷ items) = first_from side (place + 1) items
first_from side place (Moment moment ∷ items) = first_from side (place + 1) items

-- PPS begins with FF (ISO/IEC 7816-3, 9.2), and no block does (11.3.2.1)
abbrev pub is_pps : List ℕ → Bool
is_pps [] = false
is_pps (x ∷ octets) = x == 255

-- the node address of octets that have the length and the check octet of a block (11.3)
abbrev pub address_of : List ℕ → Option ℕ
address_of b =
    if nat_lt 3 (length b) && (length b == slice_index b 2 + 4) && (xor_of b == 0) then Some (slice_index b 0) else None

-- the address of a block that answers a block with this address (11.3.2.1)
abbrev pub swapped : ℕ → ℕ
swapped address = address % 16 * 16 + address / 16

abbrev pub are_addressed : Option ℕ → Option ℕ → Bool
are_addressed (Some a) (Some b) = not (a == 0) && (b == swapped a)
are_addressed (Some a) None = false
are_addressed None b = false

-- a block of the terminal after another one, with no block of the card and no end of a waiting time between them
abbrev pub silence_at : ℕ → Bool → List Item → Option ℕ
silence_at place awaits [] = None
silence_at place awaits (Block Terminal octets lost ∷ items) =
    if awaits then Some place else silence_at (place + 1) true items
silence_at place awaits (Block Card octets lost ∷ items) = silence_at (place + 1) false items
silence_at place awaits (Quiet ∷ items) = silence_at (place + 1) false items
silence_at place awaits (Moment moment ∷ items) = silence_at (place + 1) awaits items

abbrev pub by_silence : Option ℕ → Option (ℕ × Unfit)
by_silence None = None
by_silence (Some place) = Some (place, Silence)

abbrev pub by_addresses : List Item → ℕ → List ℕ → Option (ℕ × List ℕ) → Option (ℕ × Unfit)
by_addresses items place octets None = by_silence (silence_at 0 false items)
by_addresses items place octets (Some answer) =
    if are_addressed (address_of octets) (address_of answer.1) then Some (place, NodeAddress)
    else by_silence (silence_at 0 false items)

abbrev pub by_first : List Item → Option (ℕ × List ℕ) → Option (ℕ × Unfit)
by_first items None = by_silence (silence_at 0 false items)
by_first items (Some first) =
    if is_pps first.1 then Some (first.0, Pps) else by_addresses items first.0 first.1 (first_from Card 0 items)

-- The item that can't be recorded, by its place, and why. The terminal's first block is PPS; or the first blocks of
-- both ends have another node address; or the terminal sends although nothing came and no waiting time ended.
unfoldable pub unfit_in : List Item → Option (ℕ × Unfit)
unfit_in items = by_first items (first_from Terminal 0 items)

abbrev pub says_item : List ℕ → Bool
says_item line = not (is_silent (words_of line))

-- whether a line has the item before which so many are left
abbrev pub is_said : List ℕ → ℕ → Bool
is_said line left = says_item line && (left == 0)

-- how many items are left after a line
abbrev pub left_after : List ℕ → ℕ → ℕ
left_after line left = if says_item line then left - 1 else left

-- the number of the line with the item before which so many are left; the first of these lines has this number
abbrev pub item_line : ℕ → ℕ → List (List ℕ) → ℕ
item_line number left [] = number
item_line number left (line ∷ lines) =
    if is_said line left then number else item_line (number + 1) (left_after line left) lines
