-- What a recorder recorded is made again from what was on its line.
use Rattle.std.proofs.Common.{◌≡◌, ◌∙◌, ap, sym, subst, refl, ℕ, List, [], ◌∷◌, ◌++◌, Bool, true, false, not, ◌+◌, if◌then◌else◌, None, Result, Ok, Err, append_assoc, length}
use Rattle.std.specs.Prelude.{nat_le}
use Rattle.std.proofs.lemmas.List.{append-nil}
use Rattle.block_core.specs.Block.{Parts, spelling}
use Rattle.t1_core.specs.Awaited.{terminal_awaits_block, card_awaits_block}
use Rattle.t1_core.specs.Came.{quiet, request}
use Rattle.t1_core.specs.Terminal.{TerminalState, TerminalStep, Mark, Waits as TerminalWaits, idle, if_idle, ifs, is_reserved, longest, new_terminal, no_failure, sends_next, takes, terminal_turn}
use Rattle.t1_core.specs.Card.{CardState, CardStep, Waits as CardWaits, asking, card_turn, host, if_host, new_card, request_block, sends_next as card_sends_next, size, time}
use Rattle.t1_core.specs.Link.{Event, UnderWay, nothing, to_card, to_terminal}
use Rattle.t1_core.specs.Promises.{AllHandOctets}
use Rattle.t1_core.specs.declared.turns.TerminalTurn.{TerminalTurn}
use Rattle.t1_core.specs.declared.turns.TerminalTurn.TheVariants.{Send, Answered, IfsSet, GivenUp, Dead}
use Rattle.t1_core.specs.declared.turns.TerminalFault.{TerminalFault}
use Rattle.t1_core.specs.declared.turns.TerminalFault.TheVariants.{TooLong, Reserved}
use Rattle.t1_core.specs.declared.turns.CardTurn.{CardTurn}
use Rattle.t1_core.specs.declared.turns.CardTurn.TheVariants.{Send as CardSend, Asked}
use Rattle.t1_core.specs.declared.turns.CardFault.{CardFault}
use Rattle.t1_core.specs.declared.turns.CardFault.TheVariants.{TooLong as ReplyTooLong, Reserved as CardReserved}
use Rattle.block_core.specs.declared.pcb.S.TheVariants.{Ifs}
use Rattle.t1_core.proofs.Kept.{any_good}
use Rattle.exchange_text.specs.declared.line.Line.{Line}
use Rattle.exchange_text.specs.declared.line.Line.TheVariants as line
use Rattle.exchange_core.specs.Recording.{IsRecording, IsSent, MayReply, Recording, card_input, closed, events_of, link_of, recorded, telling, terminal_input, under_way_of}
use Rattle.exchange_core.specs.Records.{after_event, after_events, begun as begun_recording}
use Rattle.exchange_core.specs.Replay.{IsFound}
use Rattle.exchange_core.specs.declared.event.EventFault.{EventFault}
use Rattle.exchange_core.specs.declared.event.LastTurn.{LastTurn}
use Rattle.exchange_core.specs.declared.event.LastTurn.TheVariants.{Nothing, Terminal, Card}
use Rattle.block_core.specs.declared.side.Side.TheVariants as side
use Rattle.exchange_core.proofs.Acting.{told-is}
use Rattle.exchange_core.proofs.Pausing.{WayHears, way-hears}
use Rattle.exchange_core.proofs.Reaching.{begun-kept}
use Rattle.exchange_core.proofs.Recorded.{further}
use Rattle.exchange_core.proofs.Resting.{taken-host, taken-idle}
use Rattle.exchange_core.proofs.Stepping.{IsAsked, Stepped, refuses, reaches_card as at_card, reaches_terminal as at_terminal, is_lost, asks, replied, stepped}
use Rattle.traces.specs.declared.said.Numbers.{Numbers}
use Rattle.traces.specs.declared.standing.Standing.TheVariants.{Waits, Sends}
use Rattle.traces.specs.declared.trace.Item.{Item}
use Rattle.traces.specs.declared.trace.Item.TheVariants.{Block}
use Rattle.traces.specs.Recorded.{lines_of}
use Rattle.traces.specs.Said.{application_is_cut, application_line, at_first, host_is_cut, host_line}
use Rattle.traces.specs.Following.{Following, after_items, begun, card_sent, ended, numbered, terminal_sent}
use Rattle.traces.specs.Again.{AreSeenWhole, AreTold, GetsNoNote, IsSeenWhole, IsTold, MadeAgain, items_of, line_items, numbers_over}
use Rattle.traces.proofs.Awaiting.{Awaits, awaits}
use Rattle.traces.proofs.Stepping.{direct-T, called-T, direct-C, called-C, at, shown, follows}
use Rattle.traces.proofs.Unnoting.{before-C, before-T, before-called-C, before-called-T, notes_of, unnoted-step}
use Rattle.traces.specs.Marked.{marked}
use Rattle.traces.specs.Unseen.{unseen_in}
use Rattle.traces.proofs.Continuing.{Continues, carry-T, carry-C, lose-T, lose-C, begins-rest, waits-rest, shown-rest, stops, end_of}

-- ---- a call

abbrev sends : Parts → TerminalState → Mark → TerminalStep
sends b s m = Ok (Send b, s, m)

abbrev card_sends : Parts → CardState → CardStep
card_sends b s = Ok (CardSend b, s)

abbrev turn_in : TerminalTurn → TerminalStep → TerminalTurn
turn_in none (Ok step) = step.0
turn_in none (Err fault) = none

abbrev card_turn_in : CardTurn → CardStep → CardTurn
card_turn_in none (Ok step) = step.0
card_turn_in none (Err fault) = none

sent-if : (x : Bool) (b : Parts) (s next : TerminalState) (m mark : Mark) (fault : TerminalFault) (turn : TerminalTurn)
    → (if x then sends b s m else Err fault) ≡ Ok (turn, next, mark) → Send b ≡ turn
sent-if true b s next m mark fault turn e = ap (λ (x : TerminalStep). turn_in turn x) e
sent-if false b s next m mark fault turn e = cc

sent-unless : (x : Bool) (b : Parts) (s next : TerminalState) (m mark : Mark) (fault : TerminalFault)
    (turn : TerminalTurn)
    → (if x then Err fault else sends b s m) ≡ Ok (turn, next, mark) → Send b ≡ turn
sent-unless true b s next m mark fault turn e = cc
sent-unless false b s next m mark fault turn e = ap (λ (x : TerminalStep). turn_in turn x) e

card-sent-if : (x : Bool) (b : Parts) (s next : CardState) (fault : CardFault) (turn : CardTurn)
    → (if x then card_sends b s else Err fault) ≡ Ok (turn, next) → CardSend b ≡ turn
card-sent-if true b s next fault turn e = ap (λ (x : CardStep). card_turn_in turn x) e
card-sent-if false b s next fault turn e = cc

card-sent-unless : (x : Bool) (b : Parts) (s next : CardState) (fault : CardFault) (turn : CardTurn)
    → (if x then Err fault else card_sends b s) ≡ Ok (turn, next) → CardSend b ≡ turn
card-sent-unless true b s next fault turn e = cc
card-sent-unless false b s next fault turn e = ap (λ (x : CardStep). card_turn_in turn x) e

-- a call that the terminal takes makes an idle one send a block
record Sending (w : TerminalWaits) (turn : TerminalTurn) : Type 0 where
  waits : w ≡ idle
  block : Parts
  sends : Send block ≡ turn

sending-T : (t next : TerminalState) (call : Line) (turn : TerminalTurn) (mark : Mark) → IsAsked call
    → terminal_turn t (terminal_input t call) ≡ Ok (turn, next, mark) → Sending t.waits turn
sending-T t next (line.Command m) turn mark h e =
    let is : t.waits ≡ idle = taken-idle t.waits _ turn next mark e in
    record {
      waits = is;
      block = _;
      sends = sent-if (nat_le (length m) t.limits.command) _ _ next _ mark _ turn
          (sym (ap (λ (w : TerminalWaits). if_idle w
          (if nat_le (length m) t.limits.command
          then sends_next (record t { failures = 0; command = m; answered = None }) m
          else Err TooLong)) is) ∙ e);
    }
sending-T t next (line.Ifsd n) turn mark h e =
    let is : t.waits ≡ idle = taken-idle t.waits _ turn next mark e in
    record {
      waits = is;
      block = request Ifs (n ∷ []);
      sends = sent-unless (is_reserved n) _ _ next _ mark _ turn
          (sym (ap (λ (w : TerminalWaits). if_idle w
          (if is_reserved n
          then Err Reserved
          else sends (request Ifs (n ∷ [])) (record t { failures = 0; waits = ifs n }) no_failure)) is) ∙ e);
    }
sending-T t next call turn mark h e = absurd h

-- and one of its host that the card takes
record CardSending (w : CardWaits) (turn : CardTurn) : Type 0 where
  waits : w ≡ host
  block : Parts
  sends : CardSend block ≡ turn

sending-C : (c next : CardState) (call : Line) (turn : CardTurn) → MayReply call
    → card_turn c (card_input c call) ≡ Ok (turn, next) → CardSending c.waits turn
sending-C c next (line.Reply m) turn h e =
    let is : c.waits ≡ host = taken-host c.waits _ turn next e in
    record {
      waits = is;
      block = _;
      sends = card-sent-if (nat_le (length m) c.limits.answer) _ _ next _ turn
          (sym (ap (λ (w : CardWaits). if_host w
          (if nat_le (length m) c.limits.answer then card_sends_next c m else Err ReplyTooLong)) is) ∙ e);
    }
sending-C c next (line.Time n) turn h e =
    let is : c.waits ≡ host = taken-host c.waits _ turn next e in
    record {
      waits = is;
      block = request_block (time n);
      sends = card-sent-if true _ _ next ReplyTooLong turn
          (sym (ap (λ (w : CardWaits). if_host w
          (card_sends (request_block (time n)) (record c { waits = asking (time n) }))) is) ∙ e);
    }
sending-C c next (line.Ifsc n) turn h e =
    let is : c.waits ≡ host = taken-host c.waits _ turn next e in
    record {
      waits = is;
      block = request_block (size n);
      sends = card-sent-unless (is_reserved n) _ _ next _ turn
          (sym (ap (λ (w : CardWaits). if_host w
          (if is_reserved n
          then Err CardReserved
          else card_sends (request_block (size n)) (record c { waits = asking (size n) }))) is) ∙ e);
    }
sending-C c next call turn h e = absurd h

asked-plain : (call : Line) → IsAsked call → line_items call ≡ []
asked-plain (line.Command m) h = refl
asked-plain (line.Ifsd n) h = refl
asked-plain call h = absurd h

asked-told : (call : Line) (n : Numbers) (items : List Item) → IsAsked call → IsTold n items call
    → application_line n items ≡ call
asked-told (line.Command m) n items h told = told
asked-told (line.Ifsd v) n items h told = told
asked-told call n items h told = absurd h

asked-whole : (call : Line) (n : Numbers) (items : List Item) → IsAsked call → IsSeenWhole n items call
    → application_is_cut n items ≡ false
asked-whole (line.Command m) n items h whole = whole
asked-whole (line.Ifsd v) n items h whole = whole
asked-whole call n items h whole = absurd h

replied-plain : (call : Line) → MayReply call → line_items call ≡ []
replied-plain (line.Reply m) h = refl
replied-plain (line.Time n) h = refl
replied-plain (line.Ifsc n) h = refl
replied-plain call h = absurd h

replied-told : (call : Line) (n : Numbers) (items : List Item) → MayReply call → IsTold n items call
    → host_line n items ≡ call
replied-told (line.Reply m) n items h told = told
replied-told (line.Time v) n items h told = told
replied-told (line.Ifsc v) n items h told = told
replied-told call n items h told = absurd h

replied-whole : (call : Line) (n : Numbers) (items : List Item) → MayReply call → IsSeenWhole n items call
    → host_is_cut n items ≡ false
replied-whole (line.Reply m) n items h whole = whole
replied-whole (line.Time v) n items h whole = whole
replied-whole (line.Ifsc v) n items h whole = whole
replied-whole call n items h whole = absurd h

call-T : (final : List Line) (t next : TerminalState) (c : CardState) (b : Parts) (last : LastTurn) (lines : List Line)
    (call : Line) (mark : Mark)
    → under_way_of last ≡ nothing → card_awaits_block c.waits ≡ true → terminal_awaits_block t.waits ≡ false
    → IsAsked call → terminal_turn t (terminal_input t call) ≡ Ok (Send b, next, mark)
    → Continues final next c (Terminal (Send b)) (lines ++ call ∷ [])
    → Continues final t c last lines
call-T final t next c b last lines call mark rests aw it is turns k =
    let s = k.begins in
    let item : Item = Block side.Terminal s.octets s.lost in
    let its : List Item = item ∷ s.rest in
    let plain : line_items call ≡ [] = asked-plain call is in
    let added : List Line = lines ++ call ∷ [] in
    record {
      more = call ∷ k.more;
      is = k.is ∙ append_assoc lines (call ∷ []) k.more;
      begins = begins-rest last (items_of (call ∷ k.more)) rests;
      made = λ n told.
          ap (λ (l : List Item). end_of (follows t c last n lines) l)
          (ap (λ (l : List Item). l ++ items_of k.more) plain ∙ s.is)
          ∙ ap (λ (g : Following). end_of g its) (waits-rest t c last n lines rests)
          ∙ ap (λ (g : Following). end_of (numbered g item) s.rest)
          (called-T t next c b n lines s.octets s.lost its call mark aw it
          (asked-told call n its is (subst (λ (l : List Item). IsTold n l call) s.is told.0)) turns s.fits
          ∙ sym (direct-T next c b n added s.octets s.lost its aw s.fits))
          ∙ sym (ap (λ (l : List Item). end_of (at next c (Sends b) Waits n added) l) s.is)
          ∙ k.made n (subst (λ (l : List Item). AreTold (numbers_over n l) k.more) plain told.1)
          ∙ append_assoc lines (call ∷ []) k.more;
      unnoted = λ n told whole.
          let sent : Following =
          numbered (terminal_sent (at next c (Sends b) Waits n added) s.octets s.lost) item in
          let called = asked-told call n its is (subst (λ (l : List Item). IsTold n l call) s.is told.0) in
          ap (λ (l : List Item). notes_of (follows t c last n lines) l [])
          (ap (λ (l : List Item). l ++ items_of k.more) plain ∙ s.is)
          ∙ ap (λ (g : Following). notes_of g its []) (waits-rest t c last n lines rests)
          ∙ unnoted-step (at t c Waits Waits n lines) sent item s.rest
          (before-called-T t c n lines next b s.octets its call mark aw it called
          (asked-whole call n its is (subst (λ (l : List Item). IsSeenWhole n l call) s.is whole.0)) turns s.fits)
          (ap (λ (g : Following). numbered g item)
          (called-T t next c b n lines s.octets s.lost its call mark aw it called turns s.fits))
          ∙ sym (unnoted-step (at next c (Sends b) Waits n added) sent item s.rest
          (before-T next c n added b s.octets its aw s.fits)
          (ap (λ (g : Following). numbered g item) (direct-T next c b n added s.octets s.lost its aw s.fits)))
          ∙ sym (ap (λ (l : List Item). notes_of (at next c (Sends b) Waits n added) l []) s.is)
          ∙ k.unnoted n (subst (λ (l : List Item). AreTold (numbers_over n l) k.more) plain told.1)
          (subst (λ (l : List Item). AreSeenWhole (numbers_over n l) k.more) plain whole.1);
    }

call-C : (final : List Line) (t : TerminalState) (c next : CardState) (b : Parts) (last : LastTurn) (lines : List Line)
    (call : Line)
    → under_way_of last ≡ nothing → card_awaits_block c.waits ≡ false → MayReply call
    → card_turn c (card_input c call) ≡ Ok (CardSend b, next)
    → Continues final t next (Card (CardSend b)) (lines ++ call ∷ [])
    → Continues final t c last lines
call-C final t c next b last lines call rests aw is turns k =
    let s = k.begins in
    let item : Item = Block side.Card s.octets s.lost in
    let its : List Item = item ∷ s.rest in
    let plain : line_items call ≡ [] = replied-plain call is in
    let added : List Line = lines ++ call ∷ [] in
    record {
      more = call ∷ k.more;
      is = k.is ∙ append_assoc lines (call ∷ []) k.more;
      begins = begins-rest last (items_of (call ∷ k.more)) rests;
      made = λ n told.
          ap (λ (l : List Item). end_of (follows t c last n lines) l)
          (ap (λ (l : List Item). l ++ items_of k.more) plain ∙ s.is)
          ∙ ap (λ (g : Following). end_of g its) (waits-rest t c last n lines rests)
          ∙ ap (λ (g : Following). end_of (numbered g item) s.rest)
          (called-C t c next b n lines s.octets s.lost its call aw
          (replied-told call n its is (subst (λ (l : List Item). IsTold n l call) s.is told.0)) turns
          ∙ sym (direct-C t next b n added s.octets s.lost its))
          ∙ sym (ap (λ (l : List Item). end_of (at t next Waits (Sends b) n added) l) s.is)
          ∙ k.made n (subst (λ (l : List Item). AreTold (numbers_over n l) k.more) plain told.1)
          ∙ append_assoc lines (call ∷ []) k.more;
      unnoted = λ n told whole.
          let sent : Following =
          numbered (card_sent (at t next Waits (Sends b) n added) s.octets s.lost) item in
          ap (λ (l : List Item). notes_of (follows t c last n lines) l [])
          (ap (λ (l : List Item). l ++ items_of k.more) plain ∙ s.is)
          ∙ ap (λ (g : Following). notes_of g its []) (waits-rest t c last n lines rests)
          ∙ unnoted-step (at t c Waits Waits n lines) sent item s.rest
          (before-called-C t c n lines its aw
          (replied-whole call n its is (subst (λ (l : List Item). IsSeenWhole n l call) s.is whole.0)))
          (ap (λ (g : Following). numbered g item)
          (called-C t c next b n lines s.octets s.lost its call aw
          (replied-told call n its is (subst (λ (l : List Item). IsTold n l call) s.is told.0)) turns))
          ∙ sym (unnoted-step (at t next Waits (Sends b) n added) sent item s.rest
          (before-C t next n added b its)
          (ap (λ (g : Following). numbered g item) (direct-C t next b n added s.octets s.lost its)))
          ∙ sym (ap (λ (l : List Item). notes_of (at t next Waits (Sends b) n added) l []) s.is)
          ∙ k.unnoted n (subst (λ (l : List Item). AreTold (numbers_over n l) k.more) plain told.1)
          (subst (λ (l : List Item). AreSeenWhole (numbers_over n l) k.more) plain whole.1);
    }

-- ---- every event

none-sent : (w : UnderWay) (tw : TerminalWaits) (cw : CardWaits) → Awaits w tw cw
    → terminal_awaits_block tw ≡ false → w ≡ nothing
none-sent nothing tw cw h e = refl
none-sent (to_card block) tw cw h e = let bad : true ≡ false = sym h.0 ∙ e in cc
none-sent (to_terminal block) tw cw h e = let bad : true ≡ false = sym h.0 ∙ e in cc

none-sent-C : (w : UnderWay) (tw : TerminalWaits) (cw : CardWaits) → Awaits w tw cw
    → card_awaits_block cw ≡ false → w ≡ nothing
none-sent-C nothing tw cw h e = refl
none-sent-C (to_card block) tw cw h e = let bad : true ≡ false = sym h.1 ∙ e in cc
none-sent-C (to_terminal block) tw cw h e = let bad : true ≡ false = sym h.1 ∙ e in cc

not-of : (b : Bool) → false ≡ not b → b ≡ true
not-of true e = refl
not-of false e = cc

card-awaits : (tw : TerminalWaits) (cw : CardWaits) → Awaits nothing tw cw → terminal_awaits_block tw ≡ false
    → card_awaits_block cw ≡ true
card-awaits tw cw h e = not-of (card_awaits_block cw) (sym e ∙ h)

awaits-now : (r : Recording) (t : TerminalState) (c : CardState) → IsRecording r t c
    → Awaits (under_way_of r.last) t.waits c.waits
awaits-now r t c h =
    subst (λ (w : UnderWay). Awaits w t.waits c.waits) h.under_way
    (subst (λ (s : CardState). Awaits (link_of r).under_way t.waits s.waits) h.card
    (subst (λ (s : TerminalState). Awaits (link_of r).under_way s.waits (link_of r).card.waits) h.terminal
    (awaits (link_of r) (any_good longest longest r.ifsc (events_of r.lines)))))

hears-now : (r : Recording) (t : TerminalState) (c : CardState) → IsRecording r t c
    → WayHears (under_way_of r.last) (link_of r).terminal.waits
hears-now r t c h = subst (λ (w : UnderWay). WayHears w (link_of r).terminal.waits) h.under_way
    (way-hears (link_of r) (any_good longest longest r.ifsc (events_of r.lines)))

-- what is shown of a recorder, before these final lines
abbrev Goes_on : List Line → Recording → TerminalState → CardState → Type 0
Goes_on final r t c = Continues final t c r.last (r.lines ++ shown t c r.last)

by-last : (final : List Line) (r : Recording) (t : TerminalState) (c : CardState) (last : LastTurn) → r.last ≡ last
    → Continues final t c last (r.lines ++ shown t c last) → Goes_on final r t c
by-last final r t c last e k =
    subst (λ (l : LastTurn). Continues final t c l (r.lines ++ shown t c l)) (sym e) k

sent-T : (final : List Line) (r : Recording) (t : TerminalState) (c : CardState) (b : Parts)
    → r.last ≡ Terminal (Send b) → Continues final t c (Terminal (Send b)) r.lines → Goes_on final r t c
sent-T final r t c b e k = by-last final r t c (Terminal (Send b)) e
    (subst (λ (l : List Line). Continues final t c (Terminal (Send b)) l) (sym (append-nil r.lines)) k)

sent-C : (final : List Line) (r : Recording) (t : TerminalState) (c : CardState) (b : Parts)
    → r.last ≡ Card (CardSend b) → Continues final t c (Card (CardSend b)) r.lines → Goes_on final r t c
sent-C final r t c b e k = by-last final r t c (Card (CardSend b)) e
    (subst (λ (l : List Line). Continues final t c (Card (CardSend b)) l) (sym (append-nil r.lines)) k)

-- a call comes after the line of the last turn
call-lines : (t : TerminalState) (c : CardState) (last : LastTurn) (lines : List Line) (call : Line)
    → under_way_of last ≡ nothing
    → (lines ++ (telling t c last ++ call ∷ [])) ++ [] ≡ (lines ++ shown t c last) ++ call ∷ []
call-lines t c last lines call e =
    append-nil (lines ++ (telling t c last ++ call ∷ [])) ∙ sym (append_assoc lines (telling t c last) (call ∷ []))
    ∙ ap (λ (l : List Line). (lines ++ l) ++ call ∷ []) (shown-rest t c last e)

asks-on : (final : List Line) (r : Recording) (t next : TerminalState) (c : CardState) (call : Line)
    (turn : TerminalTurn) (mark : Mark)
    → IsRecording r t c → IsAsked call → terminal_turn t (terminal_input t call) ≡ Ok (turn, next, mark)
    → Sending t.waits turn
    → Goes_on final (further r (telling t c r.last ++ call ∷ []) (Terminal turn)) next c → Goes_on final r t c
asks-on final r t next c call turn mark h is turns s k =
    let idles : terminal_awaits_block t.waits ≡ false = ap (λ (w : TerminalWaits). terminal_awaits_block w) s.waits in
    let both = awaits-now r t c h in
    let rests : under_way_of r.last ≡ nothing = none-sent (under_way_of r.last) t.waits c.waits both idles in
    let aw : card_awaits_block c.waits ≡ true =
    card-awaits t.waits c.waits (subst (λ (w : UnderWay). Awaits w t.waits c.waits) rests both) idles in
    call-T final t next c s.block r.last (r.lines ++ shown t c r.last) call mark rests aw idles is
    (turns ∙ ap (λ (x : TerminalTurn). Ok (x, next, mark)) (sym s.sends))
    (subst (λ (l : List Line). Continues final next c (Terminal (Send s.block)) l)
    (call-lines t c r.last r.lines call rests)
    (subst (λ (x : TerminalTurn). Continues final next c (Terminal x)
    ((r.lines ++ (telling t c r.last ++ call ∷ [])) ++ shown next c (Terminal x))) (sym s.sends) k))

replied-on : (final : List Line) (r : Recording) (t : TerminalState) (c next : CardState) (call : Line)
    (turn : CardTurn)
    → IsRecording r t c → MayReply call → card_turn c (card_input c call) ≡ Ok (turn, next)
    → CardSending c.waits turn
    → Goes_on final (further r (telling t c r.last ++ call ∷ []) (Card turn)) t next → Goes_on final r t c
replied-on final r t c next call turn h is turns s k =
    let owes : card_awaits_block c.waits ≡ false = ap (λ (w : CardWaits). card_awaits_block w) s.waits in
    let both = awaits-now r t c h in
    let rests : under_way_of r.last ≡ nothing = none-sent-C (under_way_of r.last) t.waits c.waits both owes in
    call-C final t c next s.block r.last (r.lines ++ shown t c r.last) call rests owes is
    (turns ∙ ap (λ (x : CardTurn). Ok (x, next)) (sym s.sends))
    (subst (λ (l : List Line). Continues final t next (Card (CardSend s.block)) l)
    (call-lines t c r.last r.lines call rests)
    (subst (λ (x : CardTurn). Continues final t next (Card x)
    ((r.lines ++ (telling t c r.last ++ call ∷ [])) ++ shown t next (Card x))) (sym s.sends) k))

lost-on : (final : List Line) (r : Recording) (t next : TerminalState) (c : CardState) (turn : TerminalTurn)
    (mark : Mark) (last : LastTurn)
    → r.last ≡ last → IsSent (under_way_of last) → Awaits (under_way_of last) t.waits c.waits
    → terminal_turn t (takes quiet) ≡ Ok (turn, next, mark)
    → Continues final next c (Terminal turn)
    ((r.lines ++ (telling t c last ++ line.Quiet ∷ [])) ++ shown next c (Terminal turn))
    → Goes_on final r t c
lost-on final r t next c turn mark (Terminal (Send b)) e sent aw turns k =
    sent-T final r t c b e (lose-T final t next c b turn mark r.lines aw.1 turns k)
lost-on final r t next c turn mark (Card (CardSend b)) e sent aw turns k =
    sent-C final r t c b e (lose-C final t next c b turn mark r.lines aw.1 turns k)
lost-on final r t next c turn mark Nothing e sent aw turns k = absurd sent
lost-on final r t next c turn mark (Terminal Answered) e sent aw turns k = absurd sent
lost-on final r t next c turn mark (Terminal IfsSet) e sent aw turns k = absurd sent
lost-on final r t next c turn mark (Terminal GivenUp) e sent aw turns k = absurd sent
lost-on final r t next c turn mark (Terminal Dead) e sent aw turns k = absurd sent
lost-on final r t next c turn mark (Card Asked) e sent aw turns k = absurd sent

-- an event, and what comes after it
module _ (events : List Event)
    (on : (r : Recording) (t : TerminalState) (c : CardState) → IsRecording r t c
    → Goes_on (closed (after_events events r)) r t c) where
  steps : (r : Recording) (t : TerminalState) (c : CardState) (event : Event) → IsRecording r t c
      → Stepped r t c event → Goes_on (closed (after_events events (after_event r (recorded r event)))) r t c
  steps r t c event h (refuses fault e) =
      subst (λ (x : Result Recording EventFault). Goes_on (closed (after_events events (after_event r x))) r t c)
      (sym e)
      (on r t c h)
  steps r t c event h (at_card b a turn next e be turns goes) =
      subst (λ (x : Result Recording EventFault). Goes_on (closed (after_events events (after_event r x))) r t c)
      (sym goes.taken)
      (sent-T _ r t c b e (carry-T _ t c next b a turn r.lines
      (subst (λ (l : LastTurn). Awaits (under_way_of l) t.waits c.waits) e (awaits-now r t c h)).1
      (subst (λ (l : LastTurn). WayHears (under_way_of l) (link_of r).terminal.waits) e (hears-now r t c h)).0 be turns
      (on (further r (line.FromTerminal (spelling b) a ∷ []) (Card turn)) t next goes.holds)))
  steps r t c event h (at_terminal b a turn next mark e be turns goes) =
      subst (λ (x : Result Recording EventFault). Goes_on (closed (after_events events (after_event r x))) r t c)
      (sym goes.taken)
      (sent-C _ r t c b e (carry-C _ t next c b a turn mark r.lines
      (subst (λ (l : LastTurn). WayHears (under_way_of l) (link_of r).terminal.waits) e (hears-now r t c h)) be turns
      (on (further r (line.FromCard (spelling b) a ∷ []) (Terminal turn)) next c goes.holds)))
  steps r t c event h (is_lost turn next mark sent turns goes) =
      subst (λ (x : Result Recording EventFault). Goes_on (closed (after_events events (after_event r x))) r t c)
      (sym goes.taken)
      (lost-on _ r t next c turn mark r.last refl sent (awaits-now r t c h) turns
      (on (further r (telling t c r.last ++ line.Quiet ∷ []) (Terminal turn)) next c goes.holds))
  steps r t c event h (asks call turn next mark is turns goes) =
      subst (λ (x : Result Recording EventFault). Goes_on (closed (after_events events (after_event r x))) r t c)
      (sym goes.taken)
      (asks-on _ r t next c call turn mark h is turns (sending-T t next call turn mark is turns)
      (on (further r (telling t c r.last ++ call ∷ []) (Terminal turn)) next c goes.holds))
  steps r t c event h (replied call turn next may turns goes) =
      subst (λ (x : Result Recording EventFault). Goes_on (closed (after_events events (after_event r x))) r t c)
      (sym goes.taken)
      (replied-on _ r t c next call turn h may turns (sending-C c next call turn may turns)
      (on (further r (telling t c r.last ++ call ∷ []) (Card turn)) t next goes.holds))

goes-on : (events : List Event) → AllHandOctets events → (r : Recording) (t : TerminalState) (c : CardState)
    → IsRecording r t c → Goes_on (closed (after_events events r)) r t c
goes-on [] octets r t c h =
    subst (λ (l : List Line). Continues (r.lines ++ l) t c r.last (r.lines ++ shown t c r.last)) (sym (told-is r t c h))
    (stops t c r.last r.lines (awaits-now r t c h))
goes-on (event ∷ events) octets r t c h =
    steps events (λ s t c h. goes-on events octets.1 s t c h) r t c event h (stepped r t c h event octets.0)

begun-recording : (atr : List ℕ) (ifsc : ℕ) → IsFound atr (Ok ifsc)
    → IsRecording (begun_recording atr ifsc) (new_terminal ifsc) (new_card ifsc)
begun-recording atr ifsc found = record {
  octets = tt;
  terminal = refl;
  card = refl;
  under_way = refl;
  at_terminal = refl;
  at_card = refl;
  proper = refl;
  found = found;
  covers = (begun-kept atr ifsc).covers;
}

pub made-again : MadeAgain
unfolding lines_of
made-again atr ifsc events found octets told =
    let k = goes-on events octets (begun_recording atr ifsc) (new_terminal ifsc) (new_card ifsc)
    (begun-recording atr ifsc found) in
    subst (λ (l : List Line). (ended (after_items (begun ifsc) (items_of l))).lines ≡ l) (sym k.is)
    (k.made at_first (subst (λ (l : List Line). AreTold at_first l) k.is told))

none-seen : (atr : List ℕ) (ifsc : ℕ) (events : List Event) → IsFound atr (Ok ifsc) → AllHandOctets events
    → AreTold at_first (closed (after_events events (begun_recording atr ifsc)))
    → AreSeenWhole at_first (closed (after_events events (begun_recording atr ifsc)))
    → unseen_in ifsc (items_of (closed (after_events events (begun_recording atr ifsc)))) ≡ []
unfolding unseen_in
none-seen atr ifsc events found octets told whole =
    let k = goes-on events octets (begun_recording atr ifsc) (new_terminal ifsc) (new_card ifsc)
    (begun-recording atr ifsc found) in
    subst (λ (l : List Line). notes_of (begun ifsc) (items_of l) [] ≡ []) (sym k.is)
    (k.unnoted at_first (subst (λ (l : List Line). AreTold at_first l) k.is told)
    (subst (λ (l : List Line). AreSeenWhole at_first l) k.is whole))

-- no note is put before a line
unmarked : (place : ℕ) (lines : List Line) → marked place [] lines ≡ lines
unmarked place [] = refl
unmarked place (line ∷ lines) = ap (λ (l : List Line). line ∷ l) (unmarked (place + 1) lines)

pub gets-no-note : GetsNoNote
gets-no-note atr ifsc events found octets told whole =
    let all : List Line = closed (after_events events (begun_recording atr ifsc)) in
    ap (λ (places : List ℕ). marked 0 places (lines_of ifsc (items_of all)))
    (none-seen atr ifsc events found octets told whole)
    ∙ unmarked 0 (lines_of ifsc (items_of all)) ∙ made-again atr ifsc events found octets told
