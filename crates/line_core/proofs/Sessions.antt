-- Calls of both ends over a line with two ends: one whole session, with a block lost and one damaged, and one in which
-- the card's host asks for time and for a size.
use Rattle.std.proofs.Common.{true, false, ◌≡◌, ℕ, List, [], ◌∷◌, refl, inl, inr, arith}
use Rattle.octet_core.specs.Octets.{AreOctets}
use Rattle.octet_core.proofs.Lists.{octets_by}
use Rattle.t1_core.specs.Terminal.{TerminalState, transmit, terminal_turn, state_after, longest, terminal_with}
use Rattle.t1_core.specs.Card.{CardState, card_with, card_turn, replies}
use Rattle.t1_core.specs.Card as card
use Rattle.t1_core.specs.Link.{answered, unanswered}
use Rattle.line_core.specs.Line.{block, nothing}
use Rattle.line_core.specs.Exchange.{done, left_after}
use Rattle.line_core.specs.Service.{came, asked, requested, sent, used_up, IsReplyTo}
use Rattle.line_core.specs.Service as at_card
use Rattle.line_core.specs.Joined.{Trip, Call, TwoEnds, exchanges_of, events_of, services_of, faults_of}

-- 00 A4 04 00 00 and its block
abbrev select : List ℕ
select = 0x00 ∷ 0xA4 ∷ 0x04 ∷ 0x00 ∷ 0x00 ∷ []

abbrev select_block : List ℕ
select_block = 0x00 ∷ 0x00 ∷ 0x05 ∷ 0x00 ∷ 0xA4 ∷ 0x04 ∷ 0x00 ∷ 0x00 ∷ 0xA5 ∷ []

-- 90 00 and its block
abbrev reply : List ℕ
reply = 0x90 ∷ 0x00 ∷ []

abbrev reply_block : List ℕ
reply_block = 0x00 ∷ 0x00 ∷ 0x02 ∷ 0x90 ∷ 0x00 ∷ 0x92 ∷ []

-- R-blocks that ask for the first block: free of errors, and with another error
abbrev ready : List ℕ
ready = 0x00 ∷ 0x80 ∷ 0x00 ∷ 0x80 ∷ []

abbrev ready_other : List ℕ
ready_other = 0x00 ∷ 0x82 ∷ 0x00 ∷ 0x82 ∷ []

reply-octets : AreOctets reply
reply-octets = octets_by reply refl

not-short : IsReplyTo select reply
not-short is = cc

-- The command's block is lost; asked for it, it comes and the host replies; the reply comes as no octets, and is sent
-- again.
abbrev trips : List Trip
trips =
    record {
      talk = record { sent = select_block; waiting = 1; arrival = nothing };
      events = [];
      passed = tt;
    } ∷ record {
      talk = record { sent = ready; waiting = 1; arrival = block ready };
      events = came (block ready) ∷ sent ready ∷ [];
      passed = (inl refl, inl refl);
    } ∷ record {
      talk = record { sent = select_block; waiting = 1; arrival = block [] };
      events = came (block select_block) ∷ asked true select reply ∷ sent reply_block ∷ [];
      passed = (inl refl, (reply-octets, inr (λ size. tt)));
    } ∷ record {
      talk = record { sent = ready_other; waiting = 1; arrival = block reply_block };
      events = came (block ready_other) ∷ sent reply_block ∷ [];
      passed = (inl refl, inl refl);
    } ∷ []

-- the terminal in that session, and after it
abbrev first : TerminalState
first = terminal_with longest 32

abbrev left : TerminalState
left = left_after (left_after (left_after (left_after (state_after first (terminal_turn first (transmit select)))
    nothing) (block ready)) (block [])) (block reply_block)

-- and the card
abbrev asks : CardState
asks = at_card.left_after (at_card.left_after (card_with longest 32) (block ready)) (block select_block)

abbrev last : CardState
last = at_card.left_after (card.state_after asks (card_turn asks (replies reply))) (block ready_other)

abbrev call : Call
call = record { input = transmit select; most = 4; trips = trips; ending = done; left = left }

-- these are calls of both ends, as the laws speak of them
session : TwoEnds longest longest 32 (call ∷ []) (events_of trips ∷ []) left last
session = record {
  size = omega arith;
  run = (
    octets_by select refl,
    (
      omega arith,
      (refl, refl),
      (omega arith, (refl, refl), (omega arith, (refl, refl), (omega arith, (refl, refl), (refl, refl)))),
    ),
    refl,
  );
  served = (
    false,
    3,
    used_up,
    last,
    (
      omega arith,
      (refl, (omega arith, (refl, refl, not-short, (refl, (omega arith, (refl, (refl, refl, refl))))))),
    ),
    refl,
  );
  events = refl;
}

-- the command was answered, and its host was given it once
history : exchanges_of first (call ∷ []) [] ≡ answered select reply ∷ []
history = refl

service : services_of (events_of trips) [] ≡ answered select reply ∷ []
service = refl

faults : faults_of trips ≡ 2
faults = refl

-- ---- a host that asks first

-- S(WTX request) for three waiting times, and its response
abbrev time_request : List ℕ
time_request = 0x00 ∷ 0xC3 ∷ 0x01 ∷ 0x03 ∷ 0xC1 ∷ []

abbrev time_response : List ℕ
time_response = 0x00 ∷ 0xE3 ∷ 0x01 ∷ 0x03 ∷ 0xE1 ∷ []

-- S(IFS request) for fields of 16 octets, and its response
abbrev size_request : List ℕ
size_request = 0x00 ∷ 0xC1 ∷ 0x01 ∷ 0x10 ∷ 0xD0 ∷ []

abbrev size_response : List ℕ
size_response = 0x00 ∷ 0xE1 ∷ 0x01 ∷ 0x10 ∷ 0xF0 ∷ []

-- The host asks for time, then for a size, and then it replies.
abbrev asking_trips : List Trip
asking_trips =
    record {
      talk = record { sent = select_block; waiting = 1; arrival = block time_request };
      events = came (block select_block) ∷ requested true select (card.time 3) ∷ sent time_request ∷ [];
      passed = (inl refl, (omega arith, inl refl));
    } ∷ record {
      talk = record { sent = time_response; waiting = 3; arrival = block size_request };
      events = came (block time_response) ∷ requested false select (card.size 16) ∷ sent size_request ∷ [];
      passed = (inl refl, (omega arith, inl refl));
    } ∷ record {
      talk = record { sent = size_response; waiting = 1; arrival = block reply_block };
      events = came (block size_response) ∷ asked false select reply ∷ sent reply_block ∷ [];
      passed = (inl refl, (reply-octets, inl refl));
    } ∷ []

abbrev asking_left : TerminalState
asking_left = left_after (left_after (left_after (state_after first (terminal_turn first (transmit select)))
    (block time_request)) (block size_request)) (block reply_block)

-- the card before each call of its host, and at the end
abbrev gets_command : CardState
gets_command = at_card.left_after (card_with longest 32) (block select_block)

abbrev gets_time : CardState
gets_time = at_card.left_after (card.state_after gets_command (card_turn gets_command (card.more_time 3)))
    (block time_response)

abbrev gets_size : CardState
gets_size = at_card.left_after (card.state_after gets_time (card_turn gets_time (card.ask_ifs 16)))
    (block size_response)

abbrev asking_last : CardState
asking_last = card.state_after gets_size (card_turn gets_size (replies reply))

abbrev asking_call : Call
asking_call = record { input = transmit select; most = 3; trips = asking_trips; ending = done; left = asking_left }

asking_session : TwoEnds longest longest 32 (asking_call ∷ []) (events_of asking_trips ∷ []) asking_left asking_last
asking_session = record {
  size = omega arith;
  run = (
    octets_by select refl,
    (omega arith, (refl, refl), (omega arith, (refl, refl), (omega arith, (refl, refl), (refl, refl)))),
    refl,
  );
  served = (
    false,
    3,
    used_up,
    asking_last,
    (
      omega arith,
      (
        refl,
        refl,
        refl,
        (
          refl,
          (
            omega arith,
            (
              refl,
              refl,
              refl,
              (
                refl,
                (
                  omega arith,
                  (
                    refl,
                    refl,
                    not-short,
                    (
                      refl,
                      (
                        refl,
                        refl,
                        refl,
                      ),
                    ),
                  ),
                ),
              ),
            ),
          ),
        ),
      ),
    ),
    refl,
  );
  events = refl;
}

-- the host got the command once, and replied; the card takes the size that it asked for
asking_service : services_of (events_of asking_trips) [] ≡ answered select reply ∷ []
asking_service = refl

asking_size : asking_last.ifsc ≡ 16
asking_size = refl

-- A host that asked for time, and got the same command again after RESYNCH, got it twice, and never replied to the first.
twice : (resynch resynched : List ℕ) → services_of (came (block select_block) ∷ requested true select (card.time 3)
    ∷ sent time_request ∷ came (block resynch) ∷ sent resynched ∷ came (block select_block)
    ∷ asked true select reply ∷ []) [] ≡ answered select reply ∷ unanswered select ∷ []
twice resynch resynched = refl
