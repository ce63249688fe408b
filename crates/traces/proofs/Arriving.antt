-- The blocks that arrive in a recording are those that were seen to arrive.
use Rattle.std.proofs.Common.{◌≡◌, ◌∙◌, ap, refl, ℕ, List, [], ◌∷◌, ◌++◌, Bool, true, false, ◌||◌, if◌then◌else◌}
use Rattle.std.proofs.lemmas.Slice.Eq.{bytes_eq-Decides}
use Rattle.block_core.specs.Block.{Parts, spelling}
use Rattle.exchange_text.specs.declared.line.Arrival.{Arrival}
use Rattle.exchange_text.specs.declared.line.Arrival.TheVariants.{Whole, Lost, Changed}
use Rattle.exchange_text.specs.declared.line.Line.{Line}
use Rattle.exchange_text.specs.declared.line.Line.TheVariants as line
use Rattle.block_core.specs.declared.side.Side.{Side}
use Rattle.block_core.specs.declared.side.Side.TheVariants.{Terminal, Card}
use Rattle.traces.specs.declared.standing.Standing.{Standing}
use Rattle.traces.specs.declared.standing.Standing.TheVariants.{Left, Waits, Sends}
use Rattle.traces.specs.declared.trace.Item.{Item}
use Rattle.traces.specs.declared.trace.Item.TheVariants.{Block}
use Rattle.traces.specs.Following.{after_items, arrival, begun, ended, is_spelled, meets, sent_as, whole}
use Rattle.traces.specs.Arrived.{arrived_in, arrived_of, arrives, item_arrives, line_arrives}
use Rattle.traces.specs.Recorded.{lines_of}
use Rattle.traces.proofs.Marks.{IsAdded, ended-marks, marks, owns}

plain : (line : Line) → IsAdded line → line_arrives line ≡ []
plain (line.FromTerminal sent Lost) h = refl
plain (line.FromTerminal sent Whole) h = absurd h
plain (line.FromTerminal sent (Changed octets)) h = absurd h
plain (line.FromCard sent Lost) h = refl
plain (line.FromCard sent Whole) h = absurd h
plain (line.FromCard sent (Changed octets)) h = absurd h
plain line h = refl

as-seen : (from : Side) (octets : List ℕ) (lost : Bool)
    → arrives from octets (whole lost) ≡ item_arrives (Block from octets lost)
as-seen from octets true = refl
as-seen from octets false = refl

-- what came of a block of which these octets were seen
by-spelling : (from : Side) (block : Parts) (octets : List ℕ) (lost same : Bool) → is_spelled block octets ≡ same
    → arrives from (spelling block) (if lost || same then whole lost else Changed octets)
    ≡ item_arrives (Block from octets lost)
by-spelling from block octets true same e = refl
by-spelling from block octets false true e =
    ap (λ (o : List ℕ). (from, o) ∷ []) ((bytes_eq-Decides (spelling block) octets).0 e)
by-spelling from block octets false false e = refl

by-meeting : (from : Side) (block : Parts) (octets : List ℕ) (lost met : Bool)
    → (let sent : List ℕ × Arrival = if met then (spelling block, arrival block octets lost) else (octets, whole lost)
    in
    arrives from sent.0 sent.1) ≡ item_arrives (Block from octets lost)
by-meeting from block octets lost true = by-spelling from block octets lost (is_spelled block octets) refl
by-meeting from block octets lost false = as-seen from octets lost

-- what an end sent, where these octets were seen, arrives as these
sent-arrives : (from : Side) (s : Standing) (octets : List ℕ) (lost : Bool)
    → arrives from (sent_as s octets lost).0 (sent_as s octets lost).1 ≡ item_arrives (Block from octets lost)
sent-arrives from (Sends block) octets lost = by-meeting from block octets lost (meets block octets)
sent-arrives from Left octets lost = as-seen from octets lost
sent-arrives from Waits octets lost = as-seen from octets lost

same-marks : (lines : List Line) → arrived_of lines ≡ marks line_arrives lines
same-marks [] = refl
same-marks (line ∷ lines) = ap (λ (m : List (Side × List ℕ)). line_arrives line ++ m) (same-marks lines)

same-owns : (items : List Item) → owns item_arrives items ≡ arrived_in items
same-owns [] = refl
same-owns (item ∷ items) = ap (λ (m : List (Side × List ℕ)). item_arrives item ++ m) (same-owns items)

-- the blocks that arrive are those that were seen and not lost
pub arrived : (ifsc : ℕ) (items : List Item) → arrived_of (lines_of ifsc items) ≡ arrived_in items
unfolding lines_of
arrived ifsc items =
    same-marks (ended (after_items (begun ifsc) items)).lines
    ∙ ended-marks line_arrives plain item_arrives refl (λ m. refl) (sent-arrives Terminal) (sent-arrives Card) ifsc
    items
    ∙ same-owns items
