-- What a card does over calls of `serve`, one after another.
use Rattle.std.proofs.Common.{◌≡◌, ℕ, ◌-◌, List, [], ◌∷◌, ◌++◌, Bool, subst}
use Rattle.block_core.specs.Block.{spelling}
use Rattle.t1_core.specs.Card.{CardState, replies, card_turn, state_after}
use Rattle.line_core.specs.Line.{block, nothing, failure}
use Rattle.line_core.specs.Service.{Event, came, asked, requested, sent, unsent, Ending, over, line_failed, Doing, hears, says, asks, ends, doing_by, doing_after, left_after, input_of, ServesFor}
use Rattle.line_core.specs.Joined.{HaveServed, joined}

-- The card is in this state and about to do this: then these events happen, after the end of one call in the next, and
-- it is left in the other state.
abbrev pub Acts : Doing → CardState → List Event → CardState → Type 0
Acts hears c [] last = last ≡ c
Acts hears c (came (block octets) ∷ events) last =
    Acts (doing_after c (block octets)) (left_after c (block octets)) events last
Acts hears c (came nothing ∷ events) last = Acts hears c events last
Acts hears c (came (failure fault) ∷ events) last = Acts hears c events last
Acts (ends how) c [] last = last ≡ c
Acts (ends how) c (came (block octets) ∷ events) last =
    Acts (doing_after c (block octets)) (left_after c (block octets)) events last
Acts (ends how) c (came nothing ∷ events) last = Acts hears c events last
Acts (ends how) c (came (failure fault) ∷ events) last = Acts hears c events last
Acts (asks new) c (asked is command reply ∷ events) last = (is ≡ new) × (command ≡ c.command)
    × Acts (doing_by c (replies reply)) (state_after c (card_turn c (replies reply))) events last
Acts (asks new) c (requested is command request ∷ events) last = (is ≡ new) × (command ≡ c.command)
    × Acts (doing_by c (input_of request)) (state_after c (card_turn c (input_of request))) events last
Acts (says parts) c (sent octets ∷ events) last = (octets ≡ spelling parts) × Acts hears c events last
Acts (says parts) c (unsent octets fault ∷ events) last = (octets ≡ spelling parts) × Acts hears c events last
Acts doing c events last = ⊥

-- after a call ended, the card hears in the next
hears-next : (how : Ending) (c last : CardState) (events : List Event) → Acts hears c events last
    → Acts (ends how) c events last
hears-next how c last [] h = h
hears-next how c last (came (block octets) ∷ events) h = h
hears-next how c last (came nothing ∷ events) h = h
hears-next how c last (came (failure fault) ∷ events) h = h
hears-next how c last (asked is command reply ∷ events) h = absurd h
hears-next how c last (requested is command request ∷ events) h = absurd h
hears-next how c last (sent octets ∷ events) h = absurd h
hears-next how c last (unsent octets fault ∷ events) h = absurd h

hears-again : (how : Ending) (c last : CardState) (events : List Event) → Acts (ends how) c events last
    → Acts hears c events last
hears-again how c last [] h = h
hears-again how c last (came (block octets) ∷ events) h = h
hears-again how c last (came nothing ∷ events) h = h
hears-again how c last (came (failure fault) ∷ events) h = h
hears-again how c last (asked is command reply ∷ events) h = absurd h
hears-again how c last (requested is command request ∷ events) h = absurd h
hears-again how c last (sent octets ∷ events) h = absurd h
hears-again how c last (unsent octets fault ∷ events) h = absurd h

-- one call, and what happens after it
acts : (takes_short : Bool) (events : List Event) (most : ℕ) (doing : Doing) (c next : CardState) (ending : Ending)
    (more : List Event)
    (last : CardState) → ServesFor takes_short most doing c events ending next → Acts hears next more last
    → Acts doing c (events ++ more) last
acts takes_short [] most hears c next ending more last (none, is, e) h =
    subst (λ (s : CardState). Acts hears s more last) e h
acts takes_short [] most (ends how) c next ending more last (is, e) h =
    hears-next how c last more (subst (λ (s : CardState). Acts hears s more last) e h)
acts takes_short [] most (asks new) c next ending more last never h = absurd never
acts takes_short [] most (says parts) c next ending more last never h = absurd never
acts takes_short (came (block octets) ∷ events) most hears c next ending more last (some, run) h =
    acts takes_short events (most - 1) (doing_after c (block octets)) (left_after c (block octets)) next ending more
    last run h
acts takes_short (came nothing ∷ events) most hears c next ending more last (some, run) h =
    hears-again over c last (events ++ more)
    (acts takes_short events (most - 1) (ends over) c next ending more last run h)
acts takes_short (came (failure fault) ∷ events) most hears c next ending more last (some, run) h =
    hears-again (line_failed fault) c last (events ++ more)
    (acts takes_short events (most - 1) (ends (line_failed fault)) c next ending more last run h)
acts takes_short (came arrival ∷ events) most (asks new) c next ending more last never h = absurd never
acts takes_short (came arrival ∷ events) most (says parts) c next ending more last never h = absurd never
acts takes_short (came arrival ∷ events) most (ends how) c next ending more last never h = absurd never
acts takes_short (asked is command reply ∷ events) most (asks new) c next ending more last (same, about, short, run) h = (
  same,
  about,
  acts takes_short events most _ (state_after c (card_turn c (replies reply))) next ending more last run
      h,
)
acts takes_short (asked is command reply ∷ events) most hears c next ending more last never h = absurd never
acts takes_short (asked is command reply ∷ events) most (says parts) c next ending more last never h = absurd never
acts takes_short (asked is command reply ∷ events) most (ends how) c next ending more last never h = absurd never
acts takes_short (requested is command request ∷ events) most (asks new) c next ending more last
    (same, about, long, run) h = (
      same,
      about,
      acts takes_short events most _ (state_after c (card_turn c (input_of request))) next ending more last
          run h,
    )
acts takes_short (requested is command request ∷ events) most hears c next ending more last never h = absurd never
acts takes_short (requested is command request ∷ events) most (says parts) c next ending more last never h =
    absurd never
acts takes_short (requested is command request ∷ events) most (ends how) c next ending more last never h = absurd never
acts takes_short (sent octets ∷ events) most (says parts) c next ending more last (is, run) h =
    (is, acts takes_short events most hears c next ending more last run h)
acts takes_short (sent octets ∷ events) most hears c next ending more last never h = absurd never
acts takes_short (sent octets ∷ events) most (asks new) c next ending more last never h = absurd never
acts takes_short (sent octets ∷ events) most (ends how) c next ending more last never h = absurd never
acts takes_short (unsent octets fault ∷ []) most (says parts) c next ending more last (is, how, e) h =
    (is, subst (λ (s : CardState). Acts hears s more last) e h)
acts takes_short (unsent octets fault ∷ (event ∷ events)) most (says parts) c next ending more last never h =
    absurd never
acts takes_short (unsent octets fault ∷ events) most hears c next ending more last never h = absurd never
acts takes_short (unsent octets fault ∷ events) most (asks new) c next ending more last never h = absurd never
acts takes_short (unsent octets fault ∷ events) most (ends how) c next ending more last never h = absurd never

-- all calls
pub all-act : (servings : List (List Event)) (c last : CardState) → HaveServed c servings last
    → Acts hears c (joined servings) last
all-act [] c last e = e
all-act (events ∷ more) c last (takes_short, most, ending, next, run, others) =
    acts takes_short events most hears c next ending (joined more) last run (all-act more next last others)
