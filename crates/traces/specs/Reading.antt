-- What a text says about a line: the items that were seen on it, or the first fault.
use Rattle.std.specs.Prelude.{◌≡◌, ◌≤◌, ◌⊎◌, ◌&&◌, ◌+◌, ℕ, nat_lt, List, [], ◌∷◌, ◌++◌, Bool, true, false, Option, Some, None, Result, Ok, Err, if◌then◌else◌}
use Rattle.std.specs.Option.{is_some}
use Rattle.std.specs.Str.{bytes_eq}
use Rattle.std.specs.List.{slice_split}
use Rattle.exchange_text.specs.Exchange.{latest_moment}
use Rattle.exchange_text.specs.declared.fault.ExchangeFault.{ExchangeFault}
use Rattle.exchange_text.specs.declared.fault.ExchangeFault.TheVariants.{Falls, Memory}
use Rattle.block_core.specs.declared.side.Side.{Side}
use Rattle.trace_text.specs.Reading.{◌>>=◌, entry_of, is_line_end}
use Rattle.trace_text.specs.declared.entry.Entry.{Entry}
use Rattle.trace_text.specs.declared.entry.Entry.TheVariants as entry
use Rattle.trace_text.specs.declared.entry.Reach.{Reach}
use Rattle.trace_text.specs.declared.entry.Reach.TheVariants.{Unsaid, Lost, Parity, Came}
use Rattle.traces.specs.Rising.{rises}
use Rattle.traces.specs.Seen.{seen}
use Rattle.traces.specs.declared.reading.TraceFault.{TraceFault}
use Rattle.traces.specs.declared.reading.TraceFault.TheVariants.{Text, Unfit}
use Rattle.traces.specs.declared.unfit.Unfit.TheVariants.{Reset, Midway, Arrived}
use Rattle.traces.specs.declared.trace.Item.{Item}
use Rattle.traces.specs.declared.trace.Item.TheVariants.{Block, Quiet, Moment}

-- the result is the expected one, or out of memory
abbrev pub UnlessMemory : {X : Type 0} → Result X TraceFault → Result X TraceFault → Type 0
UnlessMemory result expected = (result ≡ Err (Text Memory)) ⊎ (result ≡ expected)

-- ---- lines, each with its number

-- whether octets are a whole block that arrived as it was sent
abbrev pub is_unchanged : List ℕ → List ℕ → Bool
is_unchanged octets came = bytes_eq octets came && is_some (seen octets)

-- The block of a line. It can't be recorded if its octets arrived changed, or with an error of parity.
abbrev pub block_item : ℕ → Side → List ℕ → Reach → Result (Option Item) TraceFault
block_item number from octets Unsaid = Ok (Some (Block from octets false))
block_item number from octets Lost = Ok (Some (Block from octets true))
block_item number from octets Parity = Err (Unfit number Arrived)
block_item number from octets (Came came) =
    if is_unchanged octets came then Ok (Some (Block from octets false)) else Err (Unfit number Arrived)

-- the item of what a line says, or why it can't be recorded
abbrev pub item_of : ℕ → Entry → Result (Option Item) TraceFault
item_of number entry.Nothing = Ok None
item_of number (entry.Block from octets reach) = block_item number from octets reach
item_of number entry.Quiet = Ok (Some Quiet)
item_of number (entry.Moment moment) = Ok (Some (Moment moment))
item_of number (entry.Until moment) = Ok (Some (Moment moment))
item_of number entry.Reset = Err (Unfit number Reset)
item_of number entry.Midway = Err (Unfit number Midway)

-- a fault of a text
abbrev pub faulty : {A : Type 0} → Result A ExchangeFault → Result A TraceFault
faulty (Ok x) = Ok x
faulty (Err fault) = Err (Text fault)

-- what a line says: its item, if it has one
unfoldable pub item_said : ℕ → List ℕ → Result (Option Item) TraceFault
item_said number line = faulty (entry_of number line) >>= item_of number

-- ---- texts

-- what the lines so far say: their items, the number of the next line, and the last moment
pub record Taken : Type 0 where
  pub items : List Item
  pub number : ℕ
  pub least : ℕ

-- a moment that the file of an exchange may have
abbrev pub IsEarly : Item → Type 0
IsEarly (Moment moment) = moment ≤ latest_moment
IsEarly (Block from octets lost) = Unit {0}
IsEarly Quiet = Unit {0}

-- no moment of these items is below an earlier one, and the last one is this
abbrev pub Rises : List Item → ℕ → Type 0
Rises items least = (more : List Item) → rises least more ≡ true → rises 0 (items ++ more) ≡ true

abbrev pub nothing_taken : Taken
nothing_taken = record { items = []; number = 1; least = 0 }

-- the last moment after an item
abbrev pub least_after : ℕ → Item → ℕ
least_after least (Moment moment) = moment
least_after least (Block from octets lost) = least
least_after least Quiet = least

-- the items with the item of the next line, unless it is a moment below an earlier one
abbrev pub taken_with : Taken → Option Item → Result Taken TraceFault
taken_with t None = Ok t
taken_with t (Some item) =
    if nat_lt (least_after t.least item) t.least then Err (Text (Falls t.number))
    else Ok (record { items = t.items ++ item ∷ []; number = t.number; least = least_after t.least item })

abbrev pub numbered : Taken → Taken
numbered t = record { items = t.items; number = t.number + 1; least = t.least }

abbrev pub with_line : Taken → List ℕ → Result Taken TraceFault
with_line t line = item_said t.number line >>= (λ item. taken_with t item >>= (λ next.
    Ok (numbered next)))

abbrev pub with_lines : Taken → List (List ℕ) → Result Taken TraceFault
with_lines t [] = Ok t
with_lines t (line ∷ lines) = with_line t line >>= (λ next. with_lines next lines)

-- the items of a text; its last line needs no line feed
abbrev pub trace_of : List ℕ → Result (List Item) TraceFault
trace_of text = with_lines nothing_taken (slice_split is_line_end text) >>= (λ t. Ok t.items)

-- the result is the new value, or the fault
abbrev pub Becomes : Result Taken TraceFault → Taken → Result (Unit {0}) TraceFault → Type 0
Becomes expected new (Ok _) = expected ≡ Ok new
Becomes expected new (Err fault) = UnlessMemory (Err fault) expected
