-- No note is put before the lines that a follower makes of what is on a recorder's line, where the messages are whole.
use Rattle.std.proofs.Common.{◌≡◌, ◌∙◌, ap, ℕ, List, [], ◌∷◌, ◌++◌, Bool, true, false, not, if◌then◌else◌, Ok}
use Rattle.block_core.specs.Block.{Parts}
use Rattle.t1_core.specs.Awaited.{terminal_awaits_block, card_awaits_block}
use Rattle.t1_core.specs.Terminal.{TerminalState, Mark, terminal_turn}
use Rattle.t1_core.specs.Card.{CardState}
use Rattle.t1_core.specs.declared.turns.TerminalTurn.TheVariants.{Send}
use Rattle.exchange_text.specs.declared.line.Line.{Line}
use Rattle.exchange_core.specs.Recording.{terminal_input}
use Rattle.traces.specs.declared.said.Numbers.{Numbers}
use Rattle.traces.specs.declared.standing.Standing.TheVariants.{Waits, Sends}
use Rattle.traces.specs.declared.trace.Item.{Item}
use Rattle.traces.specs.Said.{application_is_cut, application_line, host_is_cut}
use Rattle.traces.specs.Following.{Following, after_begins, after_item, after_items, meets, misses, settled_card}
use Rattle.traces.specs.Unseen.{asking_host, before_card, before_item, before_quiet, before_terminal, ending, going_again, moving, noted, over_items, settling_card, settling_terminal}
use Rattle.traces.proofs.Stepping.{at, begins-call, card-settles, host-rests, if-false, if-true, no-miss, terminal-settles}

-- the places of the notes that a follower ends with, after these
abbrev pub notes_of : Following → List Item → List ℕ → List ℕ
notes_of f items places = ending (after_items f items) (over_items f items places)

-- an item that adds no place
pub unnoted-step : (f g : Following) (item : Item) (rest : List Item) → before_item f (item ∷ rest) item [] ≡ []
    → after_item f (item ∷ rest) item ≡ g → notes_of f (item ∷ rest) [] ≡ notes_of g rest []
unnoted-step f g item rest none is =
    ap (λ (places : List ℕ). notes_of (after_item f (item ∷ rest) item) rest places) none
    ∙ ap (λ (h : Following). notes_of h rest []) is

module _ (t : TerminalState) (c : CardState) (n : Numbers) (lines : List Line) where
  -- the card owes no call
  host-silent : (b : Bool) (items : List Item) → card_awaits_block c.waits ≡ true
      → (if not (card_awaits_block c.waits) then noted b (at t c Waits Waits n lines) [] else []) ≡ []
  host-silent b items e =
      if-false (not (card_awaits_block c.waits)) (noted b (at t c Waits Waits n lines) []) []
      (ap (λ (x : Bool). not x) e)

  -- the terminal sends the block that it was to send
  moving-T : (b : Parts) (octets : List ℕ) (items : List Item) → meets b octets ≡ true
      → moving (at t c (Sends b) Waits n lines) octets items [] ≡ []
  unfolding after_begins
  moving-T b octets items m = if-false (misses (Sends b) octets) _ [] (no-miss b octets m)

  pub before-T : (b : Parts) (octets : List ℕ) (items : List Item) → card_awaits_block c.waits ≡ true
      → meets b octets ≡ true → before_terminal (at t c (Sends b) Waits n lines) octets items [] ≡ []
  before-T b octets items e m =
      let f : Following = at t c (Sends b) Waits n lines in
      ap (λ (g : Following). moving (settled_card g) octets items (settling_card g (asking_host f items [])))
      (host-rests t c (Sends b) n lines items e)
      ∙ ap (λ (places : List ℕ). moving (settled_card f) octets items (settling_card f places))
      (if-false (not (card_awaits_block c.waits)) (noted (host_is_cut n items) f []) [] (ap (λ (x : Bool). not x) e))
      ∙ ap (λ (g : Following). moving g octets items []) (card-settles t c (Sends b) n lines)
      ∙ moving-T b octets items m

  -- its application calls it
  moving-call : (next : TerminalState) (b : Parts) (octets : List ℕ) (items : List Item) (call : Line) (mark : Mark)
      → terminal_awaits_block t.waits ≡ false → application_line n items ≡ call → application_is_cut n items ≡ false
      → terminal_turn t (terminal_input t call) ≡ Ok (Send b, next, mark) → meets b octets ≡ true
      → moving (at t c Waits Waits n lines) octets items [] ≡ []
  moving-call next b octets items call mark e told uncut turns m =
      let f : Following = at t c Waits Waits n lines in
      let g : Following = at next c (Sends b) Waits n (lines ++ call ∷ []) in
      ap (λ (places : List ℕ). going_again (after_begins f items) (terminal_awaits_block t.waits) octets places)
      (if-false (terminal_awaits_block t.waits) (noted true f []) (noted (application_is_cut n items) f []) e
      ∙ ap (λ (cut : Bool). noted cut f []) uncut)
      ∙ ap (λ (h : Following). going_again h (terminal_awaits_block t.waits) octets [])
      (begins-call t next c b n lines items call mark e told turns)
      ∙ ap (λ (w : Bool). going_again g w octets []) e
      ∙ if-false (misses (Sends b) octets) _ [] (no-miss b octets m)

  pub before-called-T : (next : TerminalState) (b : Parts) (octets : List ℕ) (items : List Item) (call : Line)
      (mark : Mark)
      → card_awaits_block c.waits ≡ true → terminal_awaits_block t.waits ≡ false → application_line n items ≡ call
      → application_is_cut n items ≡ false → terminal_turn t (terminal_input t call) ≡ Ok (Send b, next, mark)
      → meets b octets ≡ true → before_terminal (at t c Waits Waits n lines) octets items [] ≡ []
  before-called-T next b octets items call mark ec et told uncut turns m =
      let f : Following = at t c Waits Waits n lines in
      ap (λ (g : Following). moving (settled_card g) octets items (settling_card g (asking_host f items [])))
      (host-rests t c Waits n lines items ec)
      ∙ ap (λ (places : List ℕ). moving (settled_card f) octets items (settling_card f places))
      (host-silent (host_is_cut n items) items ec)
      ∙ ap (λ (g : Following). moving g octets items []) (card-settles t c Waits n lines)
      ∙ moving-call next b octets items call mark et told uncut turns m

  -- the card sends the block that it was to send
  pub before-C : (b : Parts) (items : List Item) → before_card (at t c Waits (Sends b) n lines) items [] ≡ []
  before-C b items =
      ap (λ (g : Following). asking_host g items []) (terminal-settles t c (Sends b) n lines)

  -- its host calls it
  pub before-called-C : (items : List Item) → card_awaits_block c.waits ≡ false → host_is_cut n items ≡ false
      → before_card (at t c Waits Waits n lines) items [] ≡ []
  before-called-C items e uncut =
      let f : Following = at t c Waits Waits n lines in
      ap (λ (g : Following). asking_host g items []) (terminal-settles t c Waits n lines)
      ∙ if-true (not (card_awaits_block c.waits)) (noted (host_is_cut n items) f []) [] (ap (λ (x : Bool). not x) e)
      ∙ ap (λ (cut : Bool). noted cut f []) uncut

  -- the terminal's waiting time ends
  pub before-Q : (items : List Item) → card_awaits_block c.waits ≡ true
      → before_quiet (at t c Waits Waits n lines) items [] ≡ []
  before-Q items e =
      let f : Following = at t c Waits Waits n lines in
      ap (λ (g : Following). settling_terminal (settled_card g) (settling_card g (asking_host f items [])))
      (host-rests t c Waits n lines items e)
      ∙ ap (λ (places : List ℕ). settling_terminal (settled_card f) (settling_card f places))
      (host-silent (host_is_cut n items) items e)
      ∙ ap (λ (g : Following). settling_terminal g []) (card-settles t c Waits n lines)

  -- the end
  pub ends-unnoted : ending (at t c Waits Waits n lines) [] ≡ []
  ends-unnoted = ap (λ (g : Following). settling_card g []) (terminal-settles t c Waits n lines)
