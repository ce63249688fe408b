-- Every record that a recorder can make, and what its lines say.
use Rattle.std.specs.Prelude.{ℕ, List, [], ◌∷◌, Result, Ok, Err}
use Rattle.t1_core.specs.Link.{Event}
use Rattle.exchange_core.specs.Recording.{Recording, recorded, closed, link_of}
use Rattle.exchange_core.specs.Told.{Tells, AnswersAreReplies}
use Rattle.exchange_core.specs.declared.event.EventFault.{EventFault}
use Rattle.exchange_core.specs.declared.event.LastTurn.TheVariants.{Nothing}

-- a recorder with a new terminal and a new card
abbrev pub begun : List ℕ → ℕ → Recording
begun atr ifsc = record { atr = atr; ifsc = ifsc; lines = []; last = Nothing }

-- the recorder after an event; a refused event changes nothing
abbrev pub after_event : Recording → Result Recording EventFault → Recording
after_event r (Ok next) = next
after_event r (Err fault) = r

-- the recorder after these events
abbrev pub after_events : List Event → Recording → Recording
after_events [] r = r
after_events (event ∷ events) r = after_events events (after_event r (recorded r event))

-- Whatever happens, the lines of the record say at each end what happened there at the link. So each answer line has
-- the reply line to the same command.
pub record EachRecordTells : Type 0 where
  pub tells : (atr : List ℕ) (ifsc : ℕ) (events : List Event)
      → Tells (closed (after_events events (begun atr ifsc))) (link_of (after_events events (begun atr ifsc)))
  pub replies : (atr : List ℕ) (ifsc : ℕ) (events : List Event)
      → AnswersAreReplies (closed (after_events events (begun atr ifsc)))
