-- Wrong tables are found out: for each a run of events after which a block deviates, whatever the judge knows.
use Rattle.std.proofs.Common.{[], ◌∷◌}
use Rattle.block_core.specs.Block.{other}
use Rattle.t1_core.specs.Came.{got}
use Rattle.t1_core.specs.Terminal.{TerminalInput, TerminalState, TerminalStep, longest, terminal_turn}
use Rattle.t1_core.specs.Card.{CardInput, CardState, CardStep, card_turn, takes as card_takes}
use Rattle.t1_core.specs.Link.{Tables, delivers, loses, transmits}
use Rattle.judge_core.specs.Tapped.{NoTraceAccuses, Traced}
use Rattle.t1_core.specs.Link.{Event}
use Rattle.std.specs.Prelude.{false}
use Rattle.judge_core.specs.Watched.{EndsArePermitted, NobodyIsAccused}

-- The terminal sends longer fields than the card takes.
abbrev uncut : TerminalState → TerminalInput → TerminalStep
uncut t input = terminal_turn (record t { ifsc = 254 }) input

abbrev with_uncut : Tables
with_uncut = record { terminal = uncut; card = card_turn }

pub uncut-refuted : EndsArePermitted with_uncut → ⊥
uncut-refuted h = h longest longest 1 (transmits (1 ∷ 2 ∷ []) ∷ [])

pub uncut-accused : NobodyIsAccused with_uncut → ⊥
uncut-accused h = h longest longest 1 (transmits (1 ∷ 2 ∷ []) ∷ [])

-- The terminal counts no failures, so that it repeats a block for the fourth time.
abbrev stubborn : TerminalState → TerminalInput → TerminalStep
stubborn t input = terminal_turn (record t { failures = 0 }) input

abbrev with_stubborn : Tables
with_stubborn = record { terminal = stubborn; card = card_turn }

pub stubborn-refuted : EndsArePermitted with_stubborn → ⊥
stubborn-refuted h = h longest longest 32 (transmits [] ∷ loses ∷ loses ∷ loses ∷ loses ∷ [])

pub stubborn-accused : NobodyIsAccused with_stubborn → ⊥
stubborn-accused h = h longest longest 32 (transmits [] ∷ loses ∷ loses ∷ loses ∷ loses ∷ [])

-- The card takes each I-block for the other one.
abbrev mistaken : CardState → CardInput → CardStep
mistaken c (card_takes (got pcb inf)) = card_turn (record c { expected = other c.expected }) (card_takes (got pcb inf))
mistaken c input = card_turn c input

abbrev with_mistaken : Tables
with_mistaken = record { terminal = terminal_turn; card = mistaken }

pub mistaken-refuted : EndsArePermitted with_mistaken → ⊥
mistaken-refuted h = h longest longest 32 (transmits [] ∷ delivers ∷ [])

pub mistaken-accused : NobodyIsAccused with_mistaken → ⊥
mistaken-accused h = h longest longest 32 (transmits [] ∷ delivers ∷ [])

-- The monitor of a trace accuses that card too.
abbrev seen : Event → Traced
seen event = record { event = event; missed = false }

pub mistaken-accused-in-a-trace : NoTraceAccuses with_mistaken → ⊥
mistaken-accused-in-a-trace h =
    (h longest longest 32 (seen (transmits []) ∷ seen delivers ∷ seen delivers ∷ [])).1.0
