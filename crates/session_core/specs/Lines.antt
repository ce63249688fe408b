-- The line of one end as plain numbers.
use Rattle.std.specs.Prelude.{◌≡◌, ℕ, List, [], ◌∷◌, take, min, Bool, true, false, not, ◌&&◌, ◌==◌, if◌then◌else◌}
use Rattle.block_core.specs.Block.{IsWhole}
use Rattle.line_core.specs.declared.framing.Framer.{Framer}
use Rattle.line_core.specs.Bursts.{HasHeard, handed}
use Rattle.session_core.specs.declared.event.Next.{Next}
use Rattle.session_core.specs.declared.event.Next.TheVariants.{Send, Wait, Heard, Quiet, Failed, UsedUp, Echo, Order}
use Rattle.session_core.specs.declared.progress.Rules.{Rules}
use Rattle.session_core.specs.declared.lines.Line.{Line}
use Rattle.session_core.specs.declared.lines.LineNext.{LineNext}
use Rattle.session_core.specs.declared.lines.Start.{Start}
use Rattle.session_core.specs.declared.lines.Start.TheVariants.{Exchange, Clear, Talk}
use Rattle.session_core.specs.Wire.{Ruled, Doing, seen, Step, step_of, handed_over, on_sent, on_came, on_silent, on_failed, begins, clears, talks}

-- what the end has done, with the time that it waits for the first octet of a burst
abbrev pub first_of : Line → ℕ → Doing
first_of line first = record (seen line.progress) { first = first }

-- what happened, by its number
abbrev pub stepped : ℕ → Ruled → Doing → List ℕ → List ℕ → ℕ → List ℕ → Step
stepped event r p burst octets now block =
    if event == 0 then on_sent r p burst now block
    else (if event == 1 then on_came r p burst octets false now block
    else (if event == 2 then on_came r p burst octets true now block
    else (if event == 3 then on_silent r p burst now block
    else (if event == 4 then on_failed r p burst else step_of p burst Order))))

abbrev pub told_of : ℕ → ℕ → ℕ → LineNext
told_of kind count wait = record { kind = kind; count = count; wait = wait }

-- what the end does next; a burst that it takes has so many octets
abbrev pub told_next : Next → ℕ → LineNext
told_next Send count = told_of 0 0 0
told_next (Wait time) count = told_of 1 0 time
told_next Heard count = told_of 2 count 0
told_next Quiet count = told_of 3 0 0
told_next Failed count = told_of 4 0 0
told_next UsedUp count = told_of 5 0 0
told_next Echo count = told_of 6 0 0
told_next Order count = told_of 7 0 0

-- the burst that the line holds then: what the end takes as one block, if it takes one
abbrev pub held_over : Next → Bool → List ℕ → List ℕ
held_over Heard is_spoiled burst = handed_over is_spoiled burst
held_over next is_spoiled burst = burst

-- The line after this step of the table. The rules stay.
pub record IsMoved (step : Step) (rules : Rules) (new : Line) : Type 0 where
  pub rules_are : new.rules ≡ rules
  pub progress : seen new.progress ≡ step.progress
  pub burst_is : HasHeard new.framer (held_over step.next step.progress.is_spoiled step.burst)

-- the line after this step, and what the end does next
abbrev pub GoesTo : Step → Rules → Line → Next → Type 0
GoesTo step rules new next = IsMoved step rules new × (next ≡ step.next)

-- The line after this step, and what the end does next as plain numbers. The number of octets that are handed over is
-- that of the burst, at most 259.
abbrev pub IsTold : Step → Rules → Line → LineNext → Type 0
IsTold step rules new told = IsMoved step rules new × (told ≡ told_next step.next (min new.framer.count handed))

-- how an end begins to send a block
abbrev pub started : Start → Ruled → Doing → List ℕ → ℕ → Step
started Exchange r p burst now = begins r p burst now
started Clear r p burst now = clears r p burst now
started Talk r p burst now = talks r p burst now

-- Octets came whose burst the end takes at once, and the marks of the line say that it is a whole block with no damaged
-- octet.
abbrev pub ends_whole : ℕ → List ℕ → Next → Doing → Bool
ends_whole event [] next p = false
ends_whole event (octet ∷ octets) Heard p = (event == 1) && (p.is_whole && not p.is_spoiled)
ends_whole event (octet ∷ octets) next p = false

-- the burst that the end takes is a whole block by its LEN and its LRC
abbrev pub HoldsWhole : Framer → Type 0
HoldsWhole framer = (burst : List ℕ) × HasHeard framer burst × IsWhole (take handed burst)
