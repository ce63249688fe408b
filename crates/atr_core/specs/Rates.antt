-- The rates that an answer to reset indicates: ISO/IEC 7816-3, clause 8.3.
use Rattle.std.specs.Prelude.{ℕ, ◌/◌, ◌%◌, List, [], ◌∷◌, Option, Some, None, unwrap_or, slice_index_or}
use Rattle.atr_core.specs.Atr.{AtrParts}

-- the clock rate conversion integer Fi, by its index
abbrev pub clock_rates : List (Option ℕ)
clock_rates = Some 372 ∷ Some 372 ∷ Some 558 ∷ Some 744 ∷ Some 1116 ∷ Some 1488 ∷ Some 1860 ∷ None
    ∷ None ∷ Some 512 ∷ Some 768 ∷ Some 1024 ∷ Some 1536 ∷ Some 2048 ∷ None ∷ None ∷ []

-- the baud rate adjustment integer Di, by its index
abbrev pub baud_rates : List (Option ℕ)
baud_rates = None ∷ Some 1 ∷ Some 2 ∷ Some 4 ∷ Some 8 ∷ Some 16 ∷ Some 32 ∷ Some 64
    ∷ Some 12 ∷ Some 20 ∷ None ∷ None ∷ None ∷ None ∷ None ∷ None ∷ []

-- TA1, or its default
abbrev pub ta1_of : AtrParts → ℕ
ta1_of a = unwrap_or a.first.ta 0x11

-- Fi and Di of TA1; a reserved one is None
abbrev pub rates_of : AtrParts → Option ℕ × Option ℕ
rates_of a = (slice_index_or clock_rates (ta1_of a / 16) None, slice_index_or baud_rates (ta1_of a % 16) None)
