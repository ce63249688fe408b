-- Wrong tables break what is promised: for each a run of events, or a turn.
use Rattle.std.proofs.Common.{inl, inr, List, ◌≡◌, ◌≤◌, ℕ, [], ◌∷◌, length, ap, refl, arith}
use Rattle.std.proofs.lemmas.List.{length-append}
use Rattle.std.specs.Prelude.{Bool, true, false, Option, Some, None, if◌then◌else◌, Ok, Err}
use Rattle.octet_core.proofs.Lists.{octets-cons}
use Rattle.block_core.specs.declared.pcb.S.TheVariants.{Resynch}
use Rattle.block_core.specs.declared.pcb.Pcb.TheVariants.{Info, Ready, Request, Response}
use Rattle.t1_core.specs.declared.turns.TerminalTurn.{TerminalTurn}
use Rattle.t1_core.specs.declared.turns.TerminalTurn.TheVariants.{Send, Answered, GivenUp, Dead}
use Rattle.t1_core.specs.declared.turns.CardTurn.TheVariants.{Asked}
use Rattle.t1_core.specs.declared.turns.CardTurn.{CardTurn}
use Rattle.block_core.specs.declared.pcb.Number.{Number}
use Rattle.block_core.specs.declared.pcb.Number.TheVariants.{Zero}
use Rattle.t1_core.specs.Came.{got, same, request}
use Rattle.t1_core.specs.Terminal.{TerminalState, TerminalStep, TerminalInput, terminal_turn, takes, sends_next, Mark, failure, no_failure, Waits, resynch, dead, longest, first_ifsd}
use Rattle.t1_core.specs.Card.{CardState, CardStep, CardInput, Waits as CardWaits, command, host, new_card, takes as card_takes, card_turn}
use Rattle.t1_core.specs.Link.{Tables, Link, run, new_link, delivers, loses, transmits, asks_ifsd, host_replies, Exchange, answered, unanswered, command_of}
use Rattle.t1_core.proofs.Quits.{is_resynch}
use Rattle.t1_core.specs.Promises.{Matches, Serves, AlwaysMatches, ServesInOrder, InStepWhenIdle, AlwaysFits, AlwaysPatient, AlwaysTaken, Tells}

-- The card keeps a changed IFSD over RESYNCH.
abbrev with_ifsd : ℕ → CardStep → CardStep
with_ifsd size (Ok step) = Ok (step.0, record step.1 { ifsd = size })
with_ifsd size (Err fault) = Err fault

abbrev keeps_ifsd : CardState → CardInput → CardStep
keeps_ifsd c (card_takes (got (Request Resynch) inf)) =
    with_ifsd c.ifsd (card_turn c (card_takes (got (Request Resynch) inf)))
keeps_ifsd c input = card_turn c input

-- so the ends hold different sizes when the terminal is idle again
pub keeps_ifsd-refuted : InStepWhenIdle (record { terminal = terminal_turn; card = keeps_ifsd }) → ⊥
keeps_ifsd-refuted h =
    let e : ◌≡◌ {A = ℕ} first_ifsd 2 = (h longest longest 32
    (asks_ifsd 2 ∷ delivers ∷ delivers ∷ transmits [] ∷ loses ∷ loses ∷ loses ∷ loses ∷ delivers ∷ delivers ∷ [])
    tt).ifsd in
    omega (arith, e)

-- The terminal asks for RESYNCH at the first failure.
abbrev at_once : TerminalState → Mark → TerminalStep → TerminalStep
at_once t failure step = Ok (Send (request Resynch []), record t { waits = resynch 1 }, failure)
at_once t no_failure step = step

abbrev instead : TerminalState → TerminalStep → TerminalStep
instead t (Ok step) = at_once t step.2 (Ok step)
instead t (Err fault) = Err fault

abbrev hasty : TerminalState → TerminalInput → TerminalStep
hasty t input = instead t (terminal_turn t input)

-- so it gives up after one lost block
pub hasty-refuted : AlwaysPatient (record { terminal = hasty; card = card_turn }) → ⊥
hasty-refuted h =
    let e : 2 ≤ 1 = (h longest longest 32 (transmits [] ∷ loses ∷ delivers ∷ [])
    ((λ fit. fit), (tt, (tt, tt)))).given_up (takes (got (Response Resynch) [])) refl in
    omega (arith, e)

-- The terminal is dead after one unanswered RESYNCH.
abbrev quits : Waits → TerminalStep → TerminalStep
quits (resynch asked) (Ok step) =
    if is_resynch step.1.waits
    then Ok (Dead, record step.1 { waits = dead }, no_failure)
    else Ok step
quits waits step = step

abbrev impatient : TerminalState → TerminalInput → TerminalStep
impatient t input = quits t.waits (terminal_turn t input)

-- so it is dead after three lost blocks
pub impatient-refuted : AlwaysPatient (record { terminal = impatient; card = card_turn }) → ⊥
impatient-refuted h =
    let e : 5 ≤ 3 = (h longest longest 32
    (transmits [] ∷ loses ∷ delivers ∷ delivers ∷ loses ∷ delivers ∷ delivers ∷ loses ∷ [])
    ((λ fit. fit), (tt, (tt, (tt, (tt, (tt, (tt, (tt, tt))))))))).dead tt in
    omega (arith, e)

-- After RESYNCH in an exchange the terminal sends its command again by itself.
abbrev goes_on_with : TerminalTurn → Option (List ℕ) → TerminalState → TerminalStep → TerminalStep
goes_on_with GivenUp None t step = sends_next t t.command
goes_on_with turn last_answer t step = step

abbrev by_itself : TerminalStep → TerminalStep
by_itself (Ok step) = goes_on_with step.0 step.1.answered step.1 (Ok step)
by_itself (Err fault) = Err fault

abbrev sends_again : TerminalState → TerminalInput → TerminalStep
sends_again t input = by_itself (terminal_turn t input)

twice_for_one : (m a : List ℕ) (h : Exchange) → Matches (unanswered m ∷ []) (h ∷ answered m a ∷ []) → ⊥
twice_for_one m a h (inl no_more) = no_more
twice_for_one m a h (inr served) = served.1

-- so the card's host is given a command twice
pub sends_again-refuted : AlwaysMatches (record { terminal = sends_again; card = card_turn }) → ⊥
sends_again-refuted h = twice_for_one (7 ∷ []) (5 ∷ []) (unanswered (7 ∷ []))
    (h longest longest 32 (transmits (7 ∷ []) ∷ delivers ∷ host_replies (5 ∷ []) ∷ loses ∷ loses ∷ loses ∷ loses ∷
    delivers ∷ delivers ∷ delivers ∷ []))

-- The card gives its host the same command again on an R-block with its answer's number.
abbrev given_again : CardState → Option (List ℕ) → Bool → CardStep → CardStep
given_again c (Some field) true step = Ok (Asked, record c { waits = host })
given_again c saved is_own step = step

abbrev for_command : CardState → CardWaits → Number → CardStep → CardStep
for_command c (command joined) number step = given_again c c.saved (same number c.number) step
for_command c waits number step = step

abbrev gives_again : CardState → CardInput → CardStep
gives_again c (card_takes (got (Ready number fault) inf)) =
    for_command c c.waits number (card_turn c (card_takes (got (Ready number fault) inf)))
gives_again c input = card_turn c input

-- so the host acts twice for one command
pub gives_again-refuted : AlwaysMatches (record { terminal = terminal_turn; card = gives_again }) → ⊥
gives_again-refuted h = twice_for_one [] (5 ∷ []) (unanswered [])
    (h longest longest 32 (transmits [] ∷ delivers ∷ host_replies (5 ∷ []) ∷ loses ∷ delivers ∷ []))

-- So its host is given more commands than the terminal took.
more_than_taken : (m a : List ℕ) (h : Exchange) → Serves (unanswered m ∷ []) (h ∷ answered m a ∷ []) → ⊥
more_than_taken m a h s =
    let hosts : List (List ℕ) = command_of h ∷ m ∷ [] in
    omega (arith, ap length s.commands.1, length-append s.commands.0 hosts)

-- and what it was given aren't the terminal's commands in their order, though no exchange was given up
pub gives_again-out_of_order : ServesInOrder (record { terminal = terminal_turn; card = gives_again }) → ⊥
gives_again-out_of_order h = more_than_taken [] (5 ∷ []) (unanswered [])
    (h longest longest 32 (transmits [] ∷ delivers ∷ host_replies (5 ∷ []) ∷ loses ∷ delivers ∷ []) tt)

-- The terminal sends its command in the longest fields, whatever the card takes.
abbrev longest_fields : TerminalState → TerminalInput → TerminalStep
longest_fields t input = terminal_turn (record t { ifsc = 254 }) input

-- so its block doesn't fit the size that the card holds
pub longest_fields-refuted : AlwaysFits (record { terminal = longest_fields; card = card_turn }) → ⊥
longest_fields-refuted h =
    let e : 3 ≤ 2 = h longest longest 2 (transmits (1 ∷ 2 ∷ 3 ∷ []) ∷ []) in
    omega (arith, e)

-- So the card takes its block for an invalid one.
pub longest_fields-not_taken : AlwaysTaken (record { terminal = longest_fields; card = card_turn }) → ⊥
longest_fields-not_taken h =
    let octets = octets-cons 1 (2 ∷ 3 ∷ []) (omega arith)
    (octets-cons 2 (3 ∷ []) (omega arith) (octets-cons 3 [] (omega arith) (λ i. omega arith))) in
    let e : 3 ≤ 2 = (h longest longest 2 (transmits (1 ∷ 2 ∷ 3 ∷ []) ∷ []) (octets, tt)).1.proper.suits in
    omega (arith, e)

-- The terminal says that it has an answer, and forgets it.
abbrev without_answer : TerminalTurn → TerminalState → Mark → TerminalStep
without_answer Answered t mark = Ok (Answered, record t { answered = None }, mark)
without_answer turn t mark = Ok (turn, t, mark)

abbrev forgets : TerminalStep → TerminalStep
forgets (Ok step) = without_answer step.0 step.1 step.2
forgets (Err fault) = Err fault

abbrev forgetful : TerminalState → TerminalInput → TerminalStep
forgetful t input = forgets (terminal_turn t input)

-- so a turn that tells of an answer leaves none
pub forgetful-refuted : Tells (record { terminal = forgetful; card = card_turn }) → ⊥
forgetful-refuted h =
    let by : Tables = record { terminal = forgetful; card = card_turn } in
    let l : Link = run by (transmits [] ∷ delivers ∷ host_replies (5 ∷ []) ∷ []) (new_link 32) in
    let told = h.answer l.terminal _ _ (takes (got (Info Zero false) (5 ∷ []))) refl in
    let e : None ≡ Some told.0 = told.1 in
    absurd cc

-- The card says that its host's turn has come, and still waits for the command.
abbrev still_waits : CardState → CardTurn → CardState → CardStep
still_waits c Asked next = Ok (Asked, record next { waits = c.waits })
still_waits c turn next = Ok (turn, next)

abbrev stays : CardState → CardStep → CardStep
stays c (Ok step) = still_waits c step.0 step.1
stays c (Err fault) = Err fault

abbrev deaf : CardState → CardInput → CardStep
deaf c input = stays c (card_turn c input)

-- so a turn that asks the host doesn't leave it its turn
pub deaf-refuted : Tells (record { terminal = terminal_turn; card = deaf }) → ⊥
deaf-refuted h =
    let e : command [] ≡ host = h.host (new_card 32) _ (card_takes (got (Info Zero false) [])) refl in
    absurd cc
