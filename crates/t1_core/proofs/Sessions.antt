-- Turns of a new terminal and a new card, and a whole session of both.
use Rattle.std.proofs.Common.{◌≡◌, ℕ, List, [], ◌∷◌, refl}
use Rattle.std.specs.Prelude.{Ok, Err}
use Rattle.block_core.specs.declared.pcb.Number.TheVariants.{Zero}
use Rattle.block_core.specs.declared.pcb.Fault.TheVariants.{Redundancy, Other}
use Rattle.block_core.specs.declared.pcb.S.TheVariants.{Ifs, Abort}
use Rattle.block_core.specs.declared.pcb.Pcb.TheVariants.{Request}
use Rattle.t1_core.specs.declared.turns.TerminalTurn.TheVariants.{Send}
use Rattle.t1_core.specs.declared.turns.TerminalFault.TheVariants.{Idle, Busy, Reserved}
use Rattle.t1_core.specs.declared.turns.CardFault.TheVariants.{Order, Reserved as CardReserved}
use Rattle.t1_core.specs.Came.{got, damaged, invalid, quiet, class_of, ready, request, response}
use Rattle.t1_core.specs.Terminal.{TerminalState, longest, new_terminal, terminal_turn, transmit, ask_ifs, takes, state_after, turn_of, first_ifsd}
use Rattle.t1_core.specs.Card.{new_card, card_turn, replies, ask_ifs as card_ask_ifs, takes as card_takes, host}
use Rattle.t1_core.specs.Link.{tables, Link, new_link, link_with, run, to_card, to_terminal, delivers, damages, loses, transmits, host_replies, host_asks_ifsc, answered, unanswered, given_up}

-- 00 A4 04 00 00
abbrev select : List ℕ
select = 0x00 ∷ 0xA4 ∷ 0x04 ∷ 0x00 ∷ 0x00 ∷ []

-- What four lists of octets are to a terminal: another node address, an octet left over, a wrong check octet, and an
-- ABORT request.
other_address : class_of first_ifsd (0x01 ∷ 0x00 ∷ 0x02 ∷ 0x90 ∷ 0x00 ∷ 0x93 ∷ []) ≡ invalid
other_address = refl

left_over : class_of first_ifsd (0x00 ∷ 0x00 ∷ 0x02 ∷ 0x90 ∷ 0x00 ∷ 0x92 ∷ 0x00 ∷ []) ≡ invalid
left_over = refl

wrong_sum : class_of first_ifsd (0x00 ∷ 0x00 ∷ 0x02 ∷ 0x90 ∷ 0x00 ∷ 0x93 ∷ []) ≡ damaged
wrong_sum = refl

abort : class_of first_ifsd (0x00 ∷ 0xC2 ∷ 0x00 ∷ 0xC2 ∷ []) ≡ got (Request Abort) []
abort = refl

-- a field above the size, and a size that is reserved
too_long : class_of 2 (0x00 ∷ 0x00 ∷ 0x03 ∷ 0x01 ∷ 0x02 ∷ 0x03 ∷ 0x03 ∷ []) ≡ invalid
too_long = refl

bad_size : class_of first_ifsd (0x00 ∷ 0xC1 ∷ 0x01 ∷ 0xFF ∷ 0x3F ∷ []) ≡ invalid
bad_size = refl

no_octets : class_of first_ifsd [] ≡ invalid
no_octets = refl

-- What the terminal sends for each of them while it waits for the answer.
abbrev waiting_now : TerminalState
waiting_now = state_after (new_terminal 32) (terminal_turn (new_terminal 32) (transmit select))

to_invalid : turn_of (terminal_turn waiting_now (takes invalid)) ≡ Ok (Send (ready Zero Other))
to_invalid = refl

to_damaged : turn_of (terminal_turn waiting_now (takes damaged)) ≡ Ok (Send (ready Zero Redundancy))
to_damaged = refl

to_abort : turn_of (terminal_turn waiting_now (takes (got (Request Abort) []))) ≡ Ok (Send (ready Zero Other))
to_abort = refl

-- Refusals.
idle_takes_nothing : terminal_turn (new_terminal 32) (takes damaged) ≡ Err Idle
idle_takes_nothing = refl

idle_hears_no_silence : terminal_turn (new_terminal 32) (takes quiet) ≡ Err Idle
idle_hears_no_silence = refl

no_such_size : terminal_turn (new_terminal 32) (ask_ifs 255) ≡ Err Reserved
no_such_size = refl

busy : terminal_turn waiting_now (transmit select) ≡ Err Busy
busy = refl

no_turn : card_turn (new_card 32) (replies select) ≡ Err Order
no_turn = refl

abbrev asked_now : Link
asked_now = run tables (transmits select ∷ delivers ∷ []) (new_link 32)

its_turn : card_turn asked_now.card (card_takes damaged) ≡ Err Order
its_turn = refl

no_such_size_either : card_turn asked_now.card (card_ask_ifs 0) ≡ Err CardReserved
no_such_size_either = refl

-- The card asks for 254 octets: the request, no reply meanwhile, the response, and both hold the size.
wants : (run tables (host_asks_ifsc 254 ∷ []) asked_now).under_way ≡ to_terminal (request Ifs (254 ∷ []))
wants = refl

not_meanwhile : card_turn (run tables (host_asks_ifsc 254 ∷ []) asked_now).card (replies select) ≡ Err Order
not_meanwhile = refl

is_given : (run tables (host_asks_ifsc 254 ∷ delivers ∷ []) asked_now).under_way ≡ to_card (response Ifs (254 ∷ []))
is_given = refl

terminal_holds : (run tables (host_asks_ifsc 254 ∷ delivers ∷ []) asked_now).terminal.ifsc ≡ 254
terminal_holds = refl

card_holds : (run tables (host_asks_ifsc 254 ∷ delivers ∷ delivers ∷ []) asked_now).card.ifsc ≡ 254
card_holds = refl

asked_again : (run tables (host_asks_ifsc 254 ∷ delivers ∷ delivers ∷ []) asked_now).card.waits ≡ host
asked_again = refl

same_command : (run tables (host_asks_ifsc 254 ∷ delivers ∷ delivers ∷ []) asked_now).card.command ≡ select
same_command = refl

-- a command whose first block is damaged, and whose answer is lost once
damaged_and_lost : (run tables (transmits select ∷ damages ∷ delivers ∷ delivers ∷ host_replies (0x90 ∷ 0x00 ∷ []) ∷
    loses ∷ delivers ∷ delivers ∷ []) (new_link 32)).exchanges
    ≡ answered select (0x90 ∷ 0x00 ∷ []) ∷ []
damaged_and_lost = refl

-- a command that was acted on and given up
gave_up : (run tables (transmits select ∷ delivers ∷ host_replies (0x90 ∷ 0x00 ∷ []) ∷ loses ∷ loses ∷ loses ∷ loses ∷
    delivers ∷ delivers ∷ []) (new_link 32)).exchanges ≡ given_up select ∷ []
gave_up = refl

gave_up_acted : (run tables (transmits select ∷ delivers ∷ host_replies (0x90 ∷ 0x00 ∷ []) ∷ loses ∷ loses ∷ loses ∷
    loses ∷ delivers ∷ delivers ∷ []) (new_link 32)).services ≡ answered select (0x90 ∷ 0x00 ∷ []) ∷ []
gave_up_acted = refl

-- Both histories of a command that was acted on and given up, and came again.
again_exchanges : (run tables (transmits select ∷ delivers ∷ host_replies (0x90 ∷ 0x00 ∷ []) ∷ loses ∷ delivers ∷ loses
    ∷ delivers ∷ loses ∷ delivers ∷ loses ∷ delivers ∷ delivers ∷ transmits select ∷ delivers ∷ [])
    (new_link 32)).exchanges ≡ unanswered select ∷ given_up select ∷ []
again_exchanges = refl

again_services : (run tables (transmits select ∷ delivers ∷ host_replies (0x90 ∷ 0x00 ∷ []) ∷ loses ∷ delivers ∷ loses ∷
    delivers ∷ loses ∷ delivers ∷ loses ∷ delivers ∷ delivers ∷ transmits select ∷ delivers ∷ [])
    (new_link 32)).services ≡ unanswered select ∷ answered select (0x90 ∷ 0x00 ∷ []) ∷ []
again_services = refl

-- A command of 5 octets for a card with room for 4, on a line without a fault: it is given up, and the card's host was
-- not asked. So patience has its premise.
abbrev too_long_for_the_card : Link
too_long_for_the_card = run tables (transmits select ∷ delivers ∷ delivers ∷ delivers ∷ delivers ∷ delivers ∷ delivers ∷
    delivers ∷ delivers ∷ delivers ∷ delivers ∷ []) (link_with longest (record { command = 4; answer = 4 }) 32)

gave_up_too_long : too_long_for_the_card.exchanges ≡ given_up select ∷ []
gave_up_too_long = refl

not_served : too_long_for_the_card.services ≡ []
not_served = refl

undisturbed : too_long_for_the_card.disturbed ≡ 0
undisturbed = refl
