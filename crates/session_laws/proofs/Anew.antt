-- A terminal that begins with RESYNCH, and a card that answers it, are from then on a new terminal and a new card.
use Rattle.std.proofs.Common.{◌≡◌, ◌∙◌, ℕ, ◌+◌, ◌-◌, List, [], ◌∷◌, ◌++◌, append_assoc, Bool, true, false, Ok, Err, refl, sym, ap, subst, inl, inr}
use Rattle.std.specs.Prelude.{Some, length, drop, take, slice_index, nat_lt, if◌then◌else◌, ◌&&◌, ◌==◌}
use Rattle.std.specs.declared.io.Error.{Error}
use Rattle.octet_core.specs.Octets.{xor_of}
use Rattle.block_core.specs.Block.{Parts, spelling}
use Rattle.block_core.specs.declared.pcb.Number.{Number}
use Rattle.block_core.specs.declared.pcb.Number.TheVariants.{Zero, One}
use Rattle.block_core.specs.declared.pcb.Fault.TheVariants.{Redundancy, Other}
use Rattle.block_core.specs.declared.pcb.S.TheVariants.{Resynch, Ifs, Abort, Wtx}
use Rattle.block_core.specs.declared.pcb.Pcb.{Pcb}
use Rattle.block_core.specs.declared.pcb.Pcb.TheVariants.{Info, Ready, Request, Response}
use Rattle.block_core.specs.Computed.{suits}
use Rattle.t1_core.specs.Came.{Came, got, damaged, invalid, quiet, class_of, class_with, ready, request, response}
use Rattle.t1_core.specs.Terminal.{TerminalState, TerminalStep, Limits, resynch, terminal_with, first_ifsd, in_resynch, no_failure, dead, turn_of, state_after}
use Rattle.t1_core.specs.declared.turns.TerminalTurn.TheVariants.{Send, Dead}
use Rattle.t1_core.specs.Card.{CardState, CardStep, CardRequest, size as of_size, time as of_time, Waits as CardWaits, command as in_command, host as in_host, reply as in_reply, asking as in_asking, request_block, resynched, card_came, card_with, turn_of as card_turn_of, state_after as card_state_after}
use Rattle.t1_core.specs.declared.turns.CardTurn.TheVariants.{Send as Sends}
use Rattle.t1_core.specs.declared.turns.CardFault.TheVariants.{Order}
use Rattle.line_core.specs.Bursts.{IsNoBlock}
use Rattle.line_core.specs.Line.{Arrival, block, nothing, failure, Talk}
use Rattle.line_core.specs.Exchange.{Ending, done, given_up, dead as is_dead, line_failed, used_up as is_used_up, refused as is_refused, Next, sends, ends, next_of, next_after, left_after, Runs}
use Rattle.line_core.specs.Service.{Event, came, asked, requested, sent, unsent, hears, says, doing_of, ServesFor}
use Rattle.line_core.specs.Service as at_card
use Rattle.line_core.specs.Joined.{IsSaid, IsAnswered, IsLost, IsTrip, Trip, Returns, talks_of, events_of}

-- the request, and the terminal after so many of them
abbrev anew : Parts
anew = request Resynch []

abbrev asking_so_often : Limits → ℕ → ℕ → TerminalState
asking_so_often limits ifsc times = record (terminal_with limits ifsc) { waits = resynch times }

-- ---- what isn't

abbrev IsGivenUp : Ending → Type 0
IsGivenUp given_up = Unit {0}
IsGivenUp done = ⊥
IsGivenUp is_dead = ⊥
IsGivenUp (line_failed fault) = ⊥
IsGivenUp is_used_up = ⊥
IsGivenUp (is_refused fault) = ⊥

abbrev IsUsedUp : at_card.Ending → Type 0
IsUsedUp at_card.over = ⊥
IsUsedUp (at_card.line_failed fault) = ⊥
IsUsedUp at_card.used_up = Unit {0}
IsUsedUp (at_card.refused fault) = ⊥

abbrev IsGot : Came → Type 0
IsGot (got pcb inf) = Unit {0}
IsGot damaged = ⊥
IsGot invalid = ⊥
IsGot quiet = ⊥

abbrev IsResponse : Pcb → Type 0
IsResponse (Info number more) = ⊥
IsResponse (Ready number fault) = ⊥
IsResponse (Request s) = ⊥
IsResponse (Response s) = Unit {0}

module _ (takes_short : Bool) where
  never-ends : (most : ℕ) (how : at_card.Ending) (c : CardState) (events : List Event) (last : CardState)
      → (IsUsedUp how → ⊥) → ServesFor takes_short most (at_card.ends how) c events at_card.used_up last → ⊥
  never-ends most how c [] last other s = other (subst IsUsedUp s.0 tt)
  never-ends most how c (event ∷ events) last other s = s

  -- ---- the blocks of a card that isn't asked for RESYNCH

  abbrev pcb_in : Came → Pcb
  pcb_in (got pcb inf) = pcb
  pcb_in damaged = Ready Zero Other
  pcb_in invalid = Ready Zero Other
  pcb_in quiet = Ready Zero Other

  got-so : (x y z : Bool) (p q : Pcb) (field inf : List ℕ)
      → (if x then (if y then (if z then got p field else invalid) else damaged) else invalid) ≡ got q inf → p ≡ q
  got-so true true true p q field inf h = ap pcb_in h
  got-so true true false p q field inf h = absurd (subst IsGot (sym h) tt)
  got-so true false z p q field inf h = absurd (subst IsGot (sym h) tt)
  got-so false y z p q field inf h = absurd (subst IsGot (sym h) tt)

  got-pcb : (size : ℕ) (b : List ℕ) (n : ℕ) (p q : Pcb) (inf : List ℕ)
      → class_with size b n (Some p) ≡ got q inf → p ≡ q
  got-pcb size b n p q inf h =
      got-so (nat_lt n (length b) && suits size p (drop 3 (take n b))) (xor_of (take (n + 1) b) == 0)
      ((length b == n + 1) && (slice_index b 0 == 0)) p q (drop 3 (take n b)) inf h

  -- no end takes this block for the response to RESYNCH
  abbrev IsOther : Parts → Type 0
  IsOther parts = (size : ℕ) (inf : List ℕ) → class_of size (spelling parts) ≡ got (Response Resynch) inf → ⊥

  never-response : (size : ℕ) (b : List ℕ) (n : ℕ) (p : Pcb) (inf : List ℕ) → (IsResponse p → ⊥)
      → class_with size b n (Some p) ≡ got (Response Resynch) inf → ⊥
  never-response size b n p inf other h =
      other (subst IsResponse (sym (got-pcb size b n p (Response Resynch) inf h)) tt)

  other-damaged : (number : Number) → IsOther (ready number Redundancy)
  other-damaged Zero size inf h = never-response size (spelling (ready Zero Redundancy)) 3 (Ready Zero Redundancy) inf
      (λ h. h) h
  other-damaged One size inf h = never-response size (spelling (ready One Redundancy)) 3 (Ready One Redundancy) inf
      (λ h. h) h

  other-invalid : (number : Number) → IsOther (ready number Other)
  other-invalid Zero size inf h = never-response size (spelling (ready Zero Other)) 3 (Ready Zero Other) inf
      (λ h. h) h
  other-invalid One size inf h = never-response size (spelling (ready One Other)) 3 (Ready One Other) inf
      (λ h. h) h

  other-request : (wish : CardRequest) → IsOther (request_block wish)
  other-request (of_size n) most inf h = never-response most (spelling (request_block (of_size n))) 4 (Request Ifs) inf
      (λ h. h) h
  other-request (of_time n) most inf h = never-response most (spelling (request_block (of_time n))) 4 (Request Wtx) inf
      (λ h. h) h

  -- ---- a block of the terminal at the card

  -- a card that owes its host's reply takes no block
  data Took (c : CardState) (step : CardStep) : Type 0 where
    refuses : step ≡ Err Order → Took c step
    answers : (parts : Parts) → IsOther parts → step ≡ Ok (Sends parts, c) → Took c step

  asks-again : (c : CardState) (wish : CardRequest) (it : Came) → IsNoBlock it
      → card_came c (in_asking wish) it ≡ Ok (Sends (request_block wish), c)
  asks-again c (of_size n) damaged h = refl
  asks-again c (of_time n) damaged h = refl
  asks-again c (of_size n) invalid h = refl
  asks-again c (of_time n) invalid h = refl
  asks-again c wish (got pcb inf) h = absurd h
  asks-again c wish quiet h = absurd h

  took-none : (c : CardState) (w : CardWaits) (it : Came) → IsNoBlock it → Took c (card_came c w it)
  took-none c in_host damaged h = refuses refl
  took-none c (in_command octets) damaged h = answers (ready c.expected Redundancy) (other-damaged c.expected) refl
  took-none c (in_reply field rest) damaged h = answers (ready c.expected Redundancy) (other-damaged c.expected) refl
  took-none c (in_asking wish) damaged h =
      answers (request_block wish) (other-request wish) (asks-again c wish damaged h)
  took-none c in_host invalid h = refuses refl
  took-none c (in_command octets) invalid h = answers (ready c.expected Other) (other-invalid c.expected) refl
  took-none c (in_reply field rest) invalid h = answers (ready c.expected Other) (other-invalid c.expected) refl
  took-none c (in_asking wish) invalid h =
      answers (request_block wish) (other-request wish) (asks-again c wish invalid h)
  took-none c w (got pcb inf) h = absurd h
  took-none c w quiet h = absurd h

  -- a card that gets the request is a new one
  data TookAnew (c : CardState) (step : CardStep) : Type 0 where
    never : step ≡ Err Order → TookAnew c step
    begins : step ≡ resynched c → TookAnew c step

  took-anew : (c : CardState) (w : CardWaits) → TookAnew c (card_came c w (got (Request Resynch) []))
  took-anew c in_host = never refl
  took-anew c (in_command octets) = begins refl
  took-anew c (in_reply field rest) = begins refl
  took-anew c (in_asking wish) = begins refl

  request-class : (size : ℕ) → class_of size (spelling anew) ≡ got (Request Resynch) []
  request-class size = refl

  -- ---- one trip

  -- if the card's answer to RESYNCH came to the terminal, the card is a new one
  abbrev IsNew : Arrival → CardState → CardState → Type 0
  IsNew (block octets) c after = (inf : List ℕ) → class_of first_ifsd octets ≡ got (Response Resynch) inf
      → after ≡ card_with c.limits c.first_ifsc
  IsNew nothing c after = Unit {0}
  IsNew (failure fault) c after = Unit {0}

  -- the card after a trip, and what it serves then
  record Passed (c : CardState) (more : List Event) (last : CardState) (arrival : Arrival) : Type 0 where
    least : ℕ
    card : CardState
    serves : ServesFor takes_short least hears card more at_card.used_up last
    limits : card.limits ≡ c.limits
    first : card.first_ifsc ≡ c.first_ifsc
    is_new : IsNew arrival c card

  -- the card says its block, and nothing else
  record Said (most : ℕ) (parts : Parts) (c : CardState) (more : List Event) (last : CardState) (arrival : Arrival)
      : Type 0 where
    octets : List ℕ
    are : octets ≡ spelling parts
    returns : Returns octets arrival
    serves : ServesFor takes_short most hears c more at_card.used_up last

  failed-never : (most : ℕ) (parts : Parts) (c : CardState) (octets : List ℕ) (fault : Error) (more : List Event)
      (last : CardState)
      → ServesFor takes_short most (says parts) c (unsent octets fault ∷ more) at_card.used_up last → ⊥
  failed-never most parts c octets fault [] last s = subst IsUsedUp s.1 tt
  failed-never most parts c octets fault (event ∷ more) last s = s

  said-one : (most : ℕ) (parts : Parts) (c : CardState) (events more : List Event) (last : CardState)
      (arrival : Arrival) → IsSaid events arrival
      → ServesFor takes_short most (says parts) c (events ++ more) at_card.used_up last
      → Said most parts c more last arrival
  said-one most parts c [] more last arrival said s = absurd said
  said-one most parts c (sent octets ∷ []) more last arrival said s =
      record { octets = octets; are = s.0; returns = said; serves = s.1 }
  said-one most parts c (unsent octets fault ∷ []) more last arrival said s =
      absurd (failed-never most parts c octets fault more last s)
  said-one most parts c (sent octets ∷ (event ∷ events)) more last arrival said s = absurd said
  said-one most parts c (unsent octets fault ∷ (event ∷ events)) more last arrival said s = absurd said
  said-one most parts c (came arrived ∷ events) more last arrival said s = absurd said
  said-one most parts c (asked is command reply ∷ events) more last arrival said s = absurd said
  said-one most parts c (requested is command wish ∷ events) more last arrival said s = absurd said

  answered-one : (most : ℕ) (parts : Parts) (c : CardState) (events more : List Event) (last : CardState)
      (arrival : Arrival) → IsAnswered events arrival
      → ServesFor takes_short most (says parts) c (events ++ more) at_card.used_up last
      → Said most parts c more last arrival
  answered-one most parts c [] more last arrival answered s = absurd answered
  answered-one most parts c (asked is command reply ∷ events) more last arrival answered s = absurd s
  answered-one most parts c (requested is command wish ∷ events) more last arrival answered s = absurd s
  answered-one most parts c (sent octets ∷ events) more last arrival answered s =
      said-one most parts c (sent octets ∷ events) more last arrival answered s
  answered-one most parts c (unsent octets fault ∷ events) more last arrival answered s =
      said-one most parts c (unsent octets fault ∷ events) more last arrival answered s
  answered-one most parts c (came arrived ∷ events) more last arrival answered s = absurd answered

  always-new : (arrival : Arrival) (c : CardState) → IsNew arrival c (card_with c.limits c.first_ifsc)
  always-new (block octets) c = λ inf h. refl
  always-new nothing c = tt
  always-new (failure fault) c = tt

  -- another block of the card is never its answer to RESYNCH
  never-new : (arrival : Arrival) (octets : List ℕ) (parts : Parts) (c : CardState) → IsOther parts
      → octets ≡ spelling parts → Returns octets arrival → IsNew arrival c c
  never-new (block here) octets parts c other are returns = λ inf h. absurd (elim returns [
    | inl same ↦ other first_ifsd inf (subst (λ (b : List ℕ). class_of first_ifsd b ≡ got (Response Resynch) inf)
        (same ∙ are) h)
    | inr none ↦ subst IsNoBlock h (none first_ifsd)
  ])
  never-new nothing octets parts c other are returns = tt
  never-new (failure fault) octets parts c other are returns = tt

  harmed : (most : ℕ) (c : CardState) (step : CardStep) (events more : List Event) (last : CardState)
      (arrival : Arrival) → IsAnswered events arrival → Took c step
      → ServesFor takes_short most (doing_of c.waits (card_turn_of step)) (card_state_after c step) (events ++ more)
      at_card.used_up last
      → Passed c more last arrival
  harmed most c step events more last arrival answered (refuses is) s = absurd (never-ends most (at_card.refused Order)
      c (events ++ more) last (λ h. h) (subst
      (λ (st : CardStep). ServesFor takes_short most (doing_of c.waits (card_turn_of st))
      (card_state_after c st) (events ++ more) at_card.used_up last) is s))
  harmed most c step events more last arrival answered (answers parts other is) s =
      let said = answered-one most parts c events more last arrival answered
      (subst (λ (st : CardStep). ServesFor takes_short most (doing_of c.waits (card_turn_of st)) (card_state_after c st)
      (events ++ more)
      at_card.used_up last) is s) in record {
        least = most;
        card = c;
        serves = said.serves;
        limits = refl;
        first = refl;
        is_new = never-new arrival said.octets parts c other said.are said.returns;
      }

  whole : (most : ℕ) (c : CardState) (step : CardStep) (events more : List Event) (last : CardState)
      (arrival : Arrival) → IsAnswered events arrival → TookAnew c step
      → ServesFor takes_short most (doing_of c.waits (card_turn_of step)) (card_state_after c step) (events ++ more)
      at_card.used_up last
      → Passed c more last arrival
  whole most c step events more last arrival answered (never is) s = absurd (never-ends most (at_card.refused Order)
      c (events ++ more) last (λ h. h) (subst
      (λ (st : CardStep). ServesFor takes_short most (doing_of c.waits (card_turn_of st))
      (card_state_after c st) (events ++ more) at_card.used_up last) is s))
  whole most c step events more last arrival answered (begins is) s =
      let said = answered-one most (response Resynch []) (card_with c.limits c.first_ifsc) events more last arrival
      answered
      (subst (λ (st : CardStep). ServesFor takes_short most (doing_of c.waits (card_turn_of st)) (card_state_after c st)
      (events ++ more)
      at_card.used_up last) is s) in record {
        least = most;
        card = card_with c.limits c.first_ifsc;
        serves = said.serves;
        limits = refl;
        first = refl;
        is_new = always-new arrival c;
      }

  lost-new : (arrival : Arrival) → IsLost arrival → (c : CardState) → IsNew arrival c c
  lost-new (block octets) lost c = absurd lost
  lost-new nothing lost c = tt
  lost-new (failure fault) lost c = tt

  one-trip : (talk : Talk) (events : List Event) → IsTrip talk events → talk.sent ≡ spelling anew
      → (most : ℕ) (c : CardState) (more : List Event) (last : CardState)
      → ServesFor takes_short most hears c (events ++ more) at_card.used_up last → Passed c more last talk.arrival
  one-trip talk [] lost is most c more last s = record {
    least = most;
    card = c;
    serves = s;
    limits = refl;
    first = refl;
    is_new = lost-new talk.arrival lost c;
  }
  one-trip talk (came nothing ∷ events) trip is most c more last s =
      absurd (never-ends (most - 1) at_card.over c (events ++ more) last (λ h. h) s.1)
  one-trip talk (came (failure fault) ∷ events) trip is most c more last s =
      absurd (never-ends (most - 1) (at_card.line_failed fault) c (events ++ more) last (λ h. h) s.1)
  one-trip talk (came (block here) ∷ events) trip is most c more last s = elim trip.0 [
    | inl same ↦ whole (most - 1) c (card_came c c.waits (class_of c.ifsc here)) events more last talk.arrival trip.1
        (subst (λ (it : Came). TookAnew c (card_came c c.waits it))
        (sym (ap (class_of c.ifsc) (same ∙ is) ∙ request-class c.ifsc)) (took-anew c c.waits)) s.1
    | inr none ↦ harmed (most - 1) c (card_came c c.waits (class_of c.ifsc here)) events more last talk.arrival trip.1
        (took-none c c.waits (class_of c.ifsc here) (none c.ifsc)) s.1
  ]
  one-trip talk (asked new command reply ∷ events) trip is most c more last s = absurd trip
  one-trip talk (requested new command wish ∷ events) trip is most c more last s = absurd trip
  one-trip talk (sent octets ∷ events) trip is most c more last s = absurd trip
  one-trip talk (unsent octets fault ∷ events) trip is most c more last s = absurd trip

  -- ---- what the terminal makes of it

  data Went (limits : Limits) (ifsc times : ℕ) (it : Came) (t : TerminalState) (step : TerminalStep) : Type 0 where
    is_answered : (inf : List ℕ) → it ≡ got (Response Resynch) inf → next_of (turn_of step) ≡ ends given_up
        → state_after t step ≡ terminal_with limits ifsc → Went limits ifsc times it t step
    asks_again : next_of (turn_of step) ≡ sends anew → state_after t step ≡ asking_so_often limits ifsc (times + 1)
        → Went limits ifsc times it t step
    finds_dead : next_of (turn_of step) ≡ ends is_dead → Went limits ifsc times it t step

  counted : (limits : Limits) (ifsc times : ℕ) (it : Came) (b : Bool)
      → Went limits ifsc times it (asking_so_often limits ifsc times)
      (if b then Ok (Send anew, asking_so_often limits ifsc (times + 1), no_failure)
      else Ok (Dead, record (asking_so_often limits ifsc times) { waits = dead }, no_failure))
  counted limits ifsc times it true = asks_again refl refl
  counted limits ifsc times it false = finds_dead refl

  went : (limits : Limits) (ifsc times : ℕ) (it : Came) → Went limits ifsc times it (asking_so_often limits ifsc times)
      (in_resynch (asking_so_often limits ifsc times) times it)
  went limits ifsc times (got (Response Resynch) inf) = is_answered inf refl refl refl
  went limits ifsc times (got (Response Ifs) inf) = counted limits ifsc times _ (nat_lt times 3)
  went limits ifsc times (got (Response Abort) inf) = counted limits ifsc times _ (nat_lt times 3)
  went limits ifsc times (got (Response Wtx) inf) = counted limits ifsc times _ (nat_lt times 3)
  went limits ifsc times (got (Info number more) inf) = counted limits ifsc times _ (nat_lt times 3)
  went limits ifsc times (got (Ready number fault) inf) = counted limits ifsc times _ (nat_lt times 3)
  went limits ifsc times (got (Request s) inf) = counted limits ifsc times _ (nat_lt times 3)
  went limits ifsc times damaged = counted limits ifsc times _ (nat_lt times 3)
  went limits ifsc times invalid = counted limits ifsc times _ (nat_lt times 3)
  went limits ifsc times quiet = counted limits ifsc times _ (nat_lt times 3)

  -- ---- all trips

  -- both ends are new, and the card serves the rest
  pub record Begun (of_terminal of_card : Limits) (ifsc : ℕ) (left : TerminalState) (rest : List Event)
      (last : CardState) : Type 0 where
    pub terminal : left ≡ terminal_with of_terminal ifsc
    pub least : ℕ
    pub serves : ServesFor takes_short least hears (card_with of_card ifsc) rest at_card.used_up last

  never-given-up : (most : ℕ) (how : Ending) (t : TerminalState) (talks : List Talk) (left : TerminalState)
      → (IsGivenUp how → ⊥) → Runs most (ends how) t talks given_up left → ⊥
  never-given-up most how t [] left other r = other (subst IsGivenUp r.0 tt)
  never-given-up most how t (talk ∷ talks) left other r = r

  ended-so : (of_terminal of_card : Limits) (ifsc most : ℕ) (trips : List Trip) (rest : List Event) (last : CardState)
      (left : TerminalState) (n : ℕ) (c : CardState) → c ≡ card_with of_card ifsc
      → Runs most (ends given_up) (terminal_with of_terminal ifsc) (talks_of trips) given_up left
      → ServesFor takes_short n hears c (events_of trips ++ rest) at_card.used_up last
      → Begun of_terminal of_card ifsc left rest last
  ended-so of_terminal of_card ifsc most [] rest last left n c is r s = record {
    terminal = r.1;
    least = n;
    serves = subst (λ (it : CardState). ServesFor takes_short n hears it rest at_card.used_up last) is s;
  }
  ended-so of_terminal of_card ifsc most (trip ∷ trips) rest last left n c is r s = absurd r

  -- the class of what came
  abbrev ClassIs : Arrival → Came → Type 0
  ClassIs (block octets) it = it ≡ class_of first_ifsd octets
  ClassIs nothing it = it ≡ quiet
  ClassIs (failure fault) it = ⊥

  new-card : (of_card : Limits) (ifsc : ℕ) (arrival : Arrival) (it : Came) (inf : List ℕ) (c after : CardState)
      → ClassIs arrival it → it ≡ got (Response Resynch) inf → c.limits ≡ of_card → c.first_ifsc ≡ ifsc
      → IsNew arrival c after → after ≡ card_with of_card ifsc
  new-card of_card ifsc (block octets) it inf c after class is limits first new =
      new inf (sym class ∙ is) ∙ ap (λ (l : Limits). card_with l c.first_ifsc) limits ∙ ap (card_with of_card) first
  new-card of_card ifsc nothing it inf c after class is limits first new =
      absurd (subst IsGot (sym is ∙ class) tt)
  new-card of_card ifsc (failure fault) it inf c after class is limits first new = absurd class

  -- what follows the next request
  abbrev Follows : Limits → Limits → ℕ → ℕ → List Trip → List Event → CardState → TerminalState → Type 0
  Follows of_terminal of_card ifsc times more rest last left = (most n : ℕ) (c : CardState)
      → Runs most (sends anew) (asking_so_often of_terminal ifsc times) (talks_of more) given_up left
      → ServesFor takes_short n hears c (events_of more ++ rest) at_card.used_up last
      → c.limits ≡ of_card → c.first_ifsc ≡ ifsc → Begun of_terminal of_card ifsc left rest last

  -- what the terminal made of one trip, and of those that follow it
  goes-on : (of_terminal of_card : Limits) (ifsc times most : ℕ) (more : List Trip) (rest : List Event)
      (last : CardState) (left : TerminalState) (c : CardState) (arrival : Arrival) (it : Came) (step : TerminalStep)
      → Went of_terminal ifsc times it (asking_so_often of_terminal ifsc times) step → ClassIs arrival it
      → c.limits ≡ of_card → c.first_ifsc ≡ ifsc → Passed c (events_of more ++ rest) last arrival
      → Follows of_terminal of_card ifsc (times + 1) more rest last left
      → Runs most (next_of (turn_of step)) (state_after (asking_so_often of_terminal ifsc times) step) (talks_of more)
      given_up left
      → Begun of_terminal of_card ifsc left rest last
  goes-on of_terminal of_card ifsc times most more rest last left c arrival it step (is_answered inf is next state)
      class limits first passed follows runs =
      ended-so of_terminal of_card ifsc most more rest last left passed.least passed.card
      (new-card of_card ifsc arrival it inf c passed.card class is limits first passed.is_new)
      (subst (λ (t : TerminalState). Runs most (ends given_up) t (talks_of more) given_up left) state
      (subst (λ (n : Next). Runs most n (state_after (asking_so_often of_terminal ifsc times) step) (talks_of more)
      given_up left) next runs)) passed.serves
  goes-on of_terminal of_card ifsc times most more rest last left c arrival it step (asks_again next state) class
      limits first passed follows runs =
      follows most passed.least passed.card
      (subst (λ (t : TerminalState). Runs most (sends anew) t (talks_of more) given_up left) state
      (subst (λ (n : Next). Runs most n (state_after (asking_so_often of_terminal ifsc times) step) (talks_of more)
      given_up left) next runs)) passed.serves (passed.limits ∙ limits) (passed.first ∙ first)
  goes-on of_terminal of_card ifsc times most more rest last left c arrival it step (finds_dead next) class limits
      first passed follows runs =
      absurd (never-given-up most is_dead (state_after (asking_so_often of_terminal ifsc times) step) (talks_of more)
      left (λ h. h) (subst (λ (n : Next). Runs most n (state_after (asking_so_often of_terminal ifsc times) step)
      (talks_of more) given_up left) next runs))

  -- by what came after the request
  goes-by : (of_terminal of_card : Limits) (ifsc times most : ℕ) (more : List Trip) (rest : List Event)
      (last : CardState) (left : TerminalState) (c : CardState) (arrival : Arrival)
      → c.limits ≡ of_card → c.first_ifsc ≡ ifsc → Passed c (events_of more ++ rest) last arrival
      → Follows of_terminal of_card ifsc (times + 1) more rest last left
      → Runs most (next_after (asking_so_often of_terminal ifsc times) arrival)
      (left_after (asking_so_often of_terminal ifsc times) arrival) (talks_of more) given_up left
      → Begun of_terminal of_card ifsc left rest last
  goes-by of_terminal of_card ifsc times most more rest last left c (block octets) limits first passed follows runs =
      goes-on of_terminal of_card ifsc times most more rest last left c (block octets) (class_of first_ifsd octets)
      (in_resynch (asking_so_often of_terminal ifsc times) times (class_of first_ifsd octets))
      (went of_terminal ifsc times (class_of first_ifsd octets)) refl limits first passed follows runs
  goes-by of_terminal of_card ifsc times most more rest last left c nothing limits first passed follows runs =
      goes-on of_terminal of_card ifsc times most more rest last left c nothing quiet
      (in_resynch (asking_so_often of_terminal ifsc times) times quiet)
      (went of_terminal ifsc times quiet) refl limits first passed follows runs
  goes-by of_terminal of_card ifsc times most more rest last left c (failure fault) limits first passed follows runs =
      absurd (never-given-up most (line_failed fault) (asking_so_often of_terminal ifsc times) (talks_of more) left
      (λ h. h) runs)

  pub all-anew : (of_terminal of_card : Limits) (ifsc times most : ℕ) (trips : List Trip) (rest : List Event)
      (last : CardState) (left : TerminalState) (n : ℕ) (c : CardState)
      → Runs most (sends anew) (asking_so_often of_terminal ifsc times) (talks_of trips) given_up left
      → ServesFor takes_short n hears c (events_of trips ++ rest) at_card.used_up last
      → c.limits ≡ of_card → c.first_ifsc ≡ ifsc → Begun of_terminal of_card ifsc left rest last
  all-anew of_terminal of_card ifsc times most [] rest last left n c runs s limits first =
      absurd (subst IsGivenUp runs.1 tt)
  all-anew of_terminal of_card ifsc times most (trip ∷ more) rest last left n c runs s limits first =
      goes-by of_terminal of_card ifsc times (most - 1) more rest last left c trip.talk.arrival limits first
      (one-trip trip.talk trip.events trip.passed runs.1.0 n c (events_of more ++ rest) last
      (subst (λ (es : List Event). ServesFor takes_short n hears c es at_card.used_up last)
      (append_assoc trip.events (events_of more) rest) s))
      (λ most n c runs s limits first.
      all-anew of_terminal of_card ifsc (times + 1) most more rest last left n c runs s limits first)
      runs.2
