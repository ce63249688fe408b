-- A trace from which a lost block is missing.
use Rattle.std.proofs.Common.{◌≡◌, ◌≤◌, ℕ, List, [], ◌∷◌, length, ap, arith, not, refl, subst, sym, true≢false, ◌∙◌}
use Rattle.judge_core.specs.Ends.{repeatable}
use Rattle.std.specs.Prelude.{◌&&◌, max, Bool, true, false, if◌then◌else◌, nat_le, Option, Some, Ok}
use Rattle.block_core.specs.declared.pcb.Pcb.{Pcb}
use Rattle.block_core.specs.declared.pcb.Pcb.TheVariants.{Info, Ready, Request, Response}
use Rattle.block_core.specs.declared.side.Side.{Side}
use Rattle.block_core.specs.declared.side.Side.TheVariants.{Terminal, Card}
use Rattle.judge_core.specs.declared.doubt.Doubt.{Doubt}
use Rattle.judge_core.specs.declared.doubt.Doubt.TheVariants.{Clear, Refusable, Open}
use Rattle.judge_core.specs.declared.courses.Heard.{Heard}
use Rattle.judge_core.specs.declared.courses.Heard.TheVariants.{Broken, Nothing}
use Rattle.judge_core.specs.declared.courses.Verdict.{Verdict}
use Rattle.judge_core.specs.declared.courses.Verdict.TheVariants.{Permitted, Unseen, Deviates}
use Rattle.judge_core.specs.declared.courses.Judged.{Judged}
use Rattle.judge_core.specs.declared.end.Owed.TheVariants.{AnyBlock}
use Rattle.judge_core.specs.declared.end.End.{End}
use Rattle.judge_core.specs.declared.monitor.Monitor.{Monitor}
use Rattle.judge_core.specs.declared.monitor.Said.{Said}
use Rattle.judge_core.specs.declared.monitor.Said.TheVariants.{Elsewhere}
use Rattle.judge_core.specs.declared.connection.Last.{Last}
use Rattle.judge_core.specs.declared.connection.Last.TheVariants.{Here, Unclear, Asked, Late, Answered}
use Rattle.judge_core.specs.Connections.{gone_on, gone_quiet, is_asked, is_away, settled}
use Rattle.judge_core.specs.declared.monitor.Watched.{Watched}
use Rattle.judge_core.specs.Sends.{Sent, is_foreign, sends}
use Rattle.judge_core.specs.Courses.{judges}
use Rattle.judge_core.specs.Doubts.{corrected, doubted_by, is_open, is_turn, or_openly, passed_over, refused_doubt, sent_openly, unknown_end, waited, waited_doubt}
use Rattle.judge_core.specs.Monitored.{addressed_by, after_silence, asks_resynch, card_after, damage, elsewhere_after, heard_in_time, here_after, is_address, is_elsewhere, is_lost, is_other, is_refusing, listens, lost, malformed, nad_after, nad_of, nad_set, number_after, overhears, quiet_after, said_in, said_of, sender_after, shaken, terminal_after, waited_aside, waited_here, whole, Reaching, Seen}
use Rattle.judge_core.proofs.Passes.{is_else, is_then}
use Rattle.std.proofs.lemmas.Bool.Decides.{nat_tests}
use Rattle.judge_core.specs.Missed.{Act, Forgives, IsNoDeviation, IsWithin, MaySendAny, WaitsElsewhere, after_act, after_acts, puts, said_at, said_of_acts, waits, with_block, without_block}

-- ---- the other end

-- what an end heard is nothing, whatever is doubtful about the block
never-heard : (d : Doubt) → doubted_by d Broken ≡ Broken
never-heard Clear = refl
never-heard Refusable = refl
never-heard Open = refl

nothing-heard : (d : Doubt) → doubted_by d Nothing ≡ Nothing
nothing-heard Clear = refl
nothing-heard Refusable = refl
nothing-heard Open = refl

refused-twice : (d : Doubt) → refused_doubt (refused_doubt d) ≡ refused_doubt d
refused-twice Clear = refl
refused-twice Refusable = refl
refused-twice Open = refl

refused-then-waited : (d : Doubt) → waited_doubt false (refused_doubt d) ≡ waited_doubt false d
refused-then-waited Clear = refl
refused-then-waited Refusable = refl
refused-then-waited Open = refl

-- a terminal that waited, and whose block may have been refused by a block that it didn't get
one-terminal : (w : Watched) (heard : Heard) (refused : Bool) (d : Doubt) → w.heard ≡ heard → heard ≡ Broken
    → waited (listens (corrected w refused) (doubted_by d Broken)) ≡ waited w
one-terminal w heard true d is broken = rw (is, broken, never-heard d, refused-then-waited w.doubt)
one-terminal w heard false d is broken = rw (is, broken, never-heard d)

-- one that waited for a block of the card while another connection was under way
one-away : (w : Watched) (heard : Heard) (refused : Bool) (d : Doubt) → w.heard ≡ heard → heard ≡ Broken
    → waited (overhears (corrected w refused) (doubted_by d Broken)) ≡ waited w
one-away w heard true d is broken = rw (never-heard d, is, broken, refused-then-waited w.doubt)
one-away w heard false d is broken = rw (never-heard d, is, broken)

one-answer : (b : Bool) (w : Watched) (heard : Heard) (refused : Bool) (d : Doubt) → w.heard ≡ heard → heard ≡ Broken
    → waited (if b then overhears (corrected w refused) (doubted_by d Broken)
    else listens (corrected w refused) (doubted_by d Broken)) ≡ waited w
one-answer true w heard refused d is broken = one-away w heard refused d is broken
one-answer false w heard refused d is broken = one-terminal w heard refused d is broken

-- the terminal waits for no answer of another connection once the card sent octets, or the time ended
went-never-asked : (l : Last) → is_asked (gone_on l) ≡ false
went-never-asked Here = refl
went-never-asked Unclear = refl
went-never-asked Asked = refl
went-never-asked Late = refl
went-never-asked Answered = refl

never-asked : (l : Last) → is_asked (gone_quiet l) ≡ false
never-asked Here = refl
never-asked Unclear = refl
never-asked Asked = refl
never-asked Late = refl
never-asked Answered = refl

settled-never-asked : (l : Last) → is_asked (settled l) ≡ false
settled-never-asked Here = refl
settled-never-asked Unclear = refl
settled-never-asked Asked = refl
settled-never-asked Late = refl
settled-never-asked Answered = refl

sent-never-asked : (b : Bool) (l : Last) → is_asked (if b then Unclear else gone_on l) ≡ false
sent-never-asked true l = refl
sent-never-asked false l = went-never-asked l

rests : (b : Bool) (v w : Watched) → b ≡ false → (if b then v else w) ≡ w
rests true v w h = absurd (true≢false h)
rests false v w h = refl

-- a terminal whose turn it isn't waits as it does with one connection
not-its-turn : (b c : Bool) (v w : Watched) → c ≡ false → (if b && c then v else w) ≡ w
not-its-turn true c v w h = rests c v w h
not-its-turn false c v w h = refl

no-turn : (heard : Heard) → heard ≡ Broken → is_turn heard ≡ false
no-turn heard h = rw h

waits-here : (last : Last) (w : Watched) → is_asked last ≡ false → w.heard ≡ Broken → waited_here last w ≡ waited w
waits-here last w unasked broken =
    rests (is_asked last) w (waited_aside last w) unasked
    ∙ not-its-turn (is_away last) (is_turn w.heard) (passed_over w) (waited w) (no-turn w.heard broken)

-- and what a terminal heard after such a block of the card
answer-heard : (b : Bool) (w : Watched) (heard : Heard) (refused : Bool) (d : Doubt) → w.heard ≡ heard → heard ≡ Broken
    → (if b then overhears (corrected w refused) (doubted_by d Broken)
    else listens (corrected w refused) (doubted_by d Broken)).heard ≡ Broken
answer-heard true w heard true d is broken = rw (never-heard d, is, broken)
answer-heard true w heard false d is broken = rw (never-heard d, is, broken)
answer-heard false w heard true d is broken = never-heard d
answer-heard false w heard false d is broken = never-heard d

ended : (b c : Bool) → c ≡ false → b && c ≡ false
ended true c h = h
ended false c h = refl

-- a card that heard nothing
one-card : (w : Watched) (heard : Heard) (refused : Bool) (d : Doubt) → w.heard ≡ heard → heard ≡ Nothing
    → listens (corrected (passed_over (listens (corrected (passed_over w) refused) (doubted_by d Nothing))) true)
    (heard_in_time (doubted_by d Nothing))
    ≡ listens (corrected (passed_over w) true) (heard_in_time w.heard)
one-card w heard true d is nothing = rw (is, nothing, nothing-heard d, refused-twice w.doubt)
one-card w heard false d is nothing = rw (is, nothing, nothing-heard d)

one-card-elsewhere : (w : Watched) (heard : Heard) (resynch : Bool) → w.heard ≡ heard → heard ≡ Nothing
    → listens (corrected (passed_over (listens (shaken (resynch && false) (passed_over w)) (heard_in_time w.heard)))
    true) (heard_in_time (heard_in_time w.heard))
    ≡ listens (corrected (passed_over w) true) (heard_in_time w.heard)
one-card-elsewhere w heard true is nothing = rw (is, nothing)
one-card-elsewhere w heard false is nothing = rw (is, nothing)

-- ---- the end whose block is missing

passed-open : (w : Watched) (b : Bool) → is_turn w.heard ≡ b → b ≡ true → (corrected (passed_over w) true).doubt ≡ Open
passed-open w b is turn = rw (is, turn)

waited-open : (w : Watched) (b : Bool) → is_turn w.heard ≡ b → b ≡ true → (waited w).doubt ≡ Open
waited-open w b is turn = rw (is, turn)

-- ---- what the judge says of the terminal

abbrev unnumbered : Watched → Watched
unnumbered w = record w { number = 0 }

-- two monitors that know the same of the terminal
record Alike (a b : Monitor) : Type 0 where
  nad : a.nad ≡ b.nad
  terminal : unnumbered a.terminal ≡ unnumbered b.terminal
  asked : is_asked a.last ≡ is_asked b.last
  away : is_away a.last && is_turn a.terminal.heard ≡ is_away b.last && is_turn b.terminal.heard

said-unnumbered : (w : Watched) (addressed : Bool) (seen : Seen)
    → said_of w addressed seen ≡ said_of (unnumbered w) addressed seen
said-unnumbered w true (whole block) = refl
said-unnumbered w false (whole block) = refl
said-unnumbered w addressed (malformed broken) = refl
said-unnumbered w addressed damage = refl

sent-unnumbered : (w : Watched) (addressed : Bool) (seen : Seen) (n : ℕ)
    → unnumbered (sender_after w addressed seen n) ≡ sender_after (unnumbered w) addressed seen 0
sent-unnumbered w true (whole block) n = refl
sent-unnumbered w false (whole block) n = refl
sent-unnumbered w addressed (malformed broken) n = refl
sent-unnumbered w addressed damage n = refl

waits-unnumbered : (w : Watched) → unnumbered (waited w) ≡ waited (unnumbered w)
waits-unnumbered w = refl

same-turn : (a b : Monitor) → Alike a b → is_turn a.terminal.heard ≡ is_turn b.terminal.heard
same-turn a b alike = ap (λ (w : Watched). is_turn w.heard) alike.terminal

one-said-here : (a b : Monitor) → Alike a b → (seen : Seen)
    → said_of a.terminal (addressed_by Terminal a.nad seen) seen
    ≡ said_of b.terminal (addressed_by Terminal b.nad seen) seen
one-said-here a b alike seen =
    said-unnumbered a.terminal (addressed_by Terminal a.nad seen) seen
    ∙ ap (λ (w : Watched). said_of w (addressed_by Terminal a.nad seen) seen) alike.terminal
    ∙ sym (said-unnumbered b.terminal (addressed_by Terminal a.nad seen) seen)
    ∙ ap (λ (nad : Option ℕ). said_of b.terminal (addressed_by Terminal nad seen) seen) alike.nad

one-sent : (a b : Monitor) → Alike a b → (seen : Seen) (n k : ℕ)
    → unnumbered (sender_after a.terminal (addressed_by Terminal a.nad seen) seen n)
    ≡ unnumbered (sender_after b.terminal (addressed_by Terminal b.nad seen) seen k)
one-sent a b alike seen n k =
    sent-unnumbered a.terminal (addressed_by Terminal a.nad seen) seen n
    ∙ ap (λ (w : Watched). sender_after w (addressed_by Terminal a.nad seen) seen 0) alike.terminal
    ∙ ap (λ (nad : Option ℕ). sender_after (unnumbered b.terminal) (addressed_by Terminal nad seen) seen 0) alike.nad
    ∙ sym (sent-unnumbered b.terminal (addressed_by Terminal b.nad seen) seen k)

one-said : (a b : Monitor) → Alike a b → (seen : Seen) → said_in a Terminal seen ≡ said_in b Terminal seen
one-said a b alike seen =
    ap (λ (said : Said). if is_other Terminal a.nad seen then Elsewhere else said) (one-said-here a b alike seen)
    ∙ ap (λ (nad : Option ℕ). if is_other Terminal nad seen then Elsewhere
    else said_of b.terminal (addressed_by Terminal b.nad seen) seen) alike.nad

shaken-unnumbered : (resynch : Bool) (w : Watched) → unnumbered (shaken resynch w) ≡ shaken resynch (unnumbered w)
shaken-unnumbered true w = refl
shaken-unnumbered false w = refl

aside-unnumbered : (b : Bool) (w : Watched) → unnumbered (if b then passed_over w else waited w)
    ≡ (if b then passed_over (unnumbered w) else waited (unnumbered w))
aside-unnumbered true w = passed-unnumbered (is_turn w.heard) w refl
  where
    passed-unnumbered : (c : Bool) (w : Watched) → is_turn w.heard ≡ c
        → unnumbered (passed_over w) ≡ passed_over (unnumbered w)
    passed-unnumbered true w h = rw h
    passed-unnumbered false w h = rw h
aside-unnumbered false w = waits-unnumbered w

waits-alike : (p q : Bool) (v w : Watched) → p ≡ q → unnumbered v ≡ unnumbered w
    → (b c : Bool) → b ≡ c
    → unnumbered (if p then v else (if b then passed_over v else waited v))
    ≡ unnumbered (if q then w else (if c then passed_over w else waited w))
waits-alike true true v w e h b c d = h
waits-alike false false v w e h b c d =
    aside-unnumbered b v ∙ ap (λ (u : Watched). if b then passed_over u else waited u) h
    ∙ ap (λ (a : Bool). if a then passed_over (unnumbered w) else waited (unnumbered w)) d
    ∙ sym (aside-unnumbered c w)
waits-alike true false v w e h b c d = absurd (true≢false e)
waits-alike false true v w e h b c d = absurd (true≢false (sym e))

-- another connection is under way, and it is the terminal's turn in the first
turn-kept : (w : Watched) (b : Bool) → is_turn w.heard ≡ b
    → is_turn (if is_turn w.heard then passed_over w else waited w).heard ≡ b
turn-kept w true h = rw h h
turn-kept w false h = rw h

away-after : (l : Last) (w : Watched) → is_away (gone_quiet l) && is_turn (waited_here l w).heard
    ≡ (if is_asked l then is_turn w.heard else is_away l && is_turn w.heard)
away-after Here w = refl
away-after Unclear w = refl
away-after Asked w = refl
away-after Late w = turn-kept w (is_turn w.heard) refl
away-after Answered w = turn-kept w (is_turn w.heard) refl

shaken-heard : (resynch : Bool) (w : Watched) → (shaken resynch w).heard ≡ w.heard
shaken-heard true w = refl
shaken-heard false w = refl

silent-turn : (side : Side) → is_turn (after_silence side) ≡ false
silent-turn Terminal = refl
silent-turn Card = refl

sent-turn : (w : Watched) (addressed : Bool) (seen : Seen) (n : ℕ)
    → is_turn (sender_after w addressed seen n).heard ≡ false
sent-turn w true (whole block) n = silent-turn w.«end».side
sent-turn w false (whole block) n = silent-turn w.«end».side
sent-turn w addressed (malformed broken) n = silent-turn w.«end».side
sent-turn w addressed damage n = silent-turn w.«end».side

either-alike : (p q : Bool) (x y v w : Monitor) → p ≡ q → Alike x v → Alike y w
    → Alike (if p then x else y) (if q then v else w)
either-alike true true x y v w e h k = h
either-alike false false x y v w e h k = k
either-alike true false x y v w e h k = absurd (true≢false e)
either-alike false true x y v w e h k = absurd (true≢false (sym e))

stays-elsewhere : (a b : Monitor) → Alike a b → (seen : Seen) (reaching : Reaching)
    → Alike (elsewhere_after a Terminal seen reaching) (elsewhere_after b Terminal seen reaching)
stays-elsewhere a b alike seen reaching = record {
  nad = alike.nad;
  terminal = shaken-unnumbered (asks_resynch seen) a.terminal ∙ ap (shaken (asks_resynch seen)) alike.terminal
      ∙ sym (shaken-unnumbered (asks_resynch seen) b.terminal);
  asked = refl;
  away = ap is_turn (shaken-heard (asks_resynch seen) a.terminal) ∙ same-turn a b alike
      ∙ sym (ap is_turn (shaken-heard (asks_resynch seen) b.terminal));
}

stays-here : (a b : Monitor) → Alike a b → (seen : Seen) (reaching : Reaching)
    → Alike (here_after a Terminal seen reaching) (here_after b Terminal seen reaching)
stays-here a b alike seen reaching = record {
  nad = ap (λ (nad : Option ℕ). nad_after Terminal nad seen) alike.nad;
  terminal = one-sent a b alike seen (number_after a.blocks) (number_after b.blocks);
  asked = sent-never-asked _ a.last ∙ sym (sent-never-asked _ b.last);
  away = ended _ _ (sent-turn a.terminal (addressed_by Terminal a.nad seen) seen (number_after a.blocks))
      ∙ sym (ended _ _ (sent-turn b.terminal (addressed_by Terminal b.nad seen) seen (number_after b.blocks)));
}

stays-alike : (a b : Monitor) → Alike a b → (act : Act) → Alike (after_act a act) (after_act b act)
stays-alike a b alike waits = record {
  nad = alike.nad;
  terminal = waits-alike (is_asked a.last) (is_asked b.last) a.terminal b.terminal alike.asked alike.terminal _ _
      alike.away;
  asked = never-asked a.last ∙ sym (never-asked b.last);
  away = away-after a.last a.terminal
      ∙ ap (λ (p : Bool). if p then is_turn a.terminal.heard else is_away a.last && is_turn a.terminal.heard)
      alike.asked
      ∙ ap (λ (t : Bool). if is_asked b.last then t else is_away a.last && is_turn a.terminal.heard)
      (same-turn a b alike)
      ∙ ap (λ (v : Bool). if is_asked b.last then is_turn b.terminal.heard else v) alike.away
      ∙ sym (away-after b.last b.terminal);
}
stays-alike a b alike (puts seen reaching) =
    either-alike (is_other Terminal a.nad seen) (is_other Terminal b.nad seen)
    (elsewhere_after a Terminal seen reaching) (here_after a Terminal seen reaching)
    (elsewhere_after b Terminal seen reaching) (here_after b Terminal seen reaching)
    (ap (λ (nad : Option ℕ). is_other Terminal nad seen) alike.nad)
    (stays-elsewhere a b alike seen reaching) (stays-here a b alike seen reaching)

said-alike : (a b : Monitor) → Alike a b → (act : Act) → said_at a act ≡ said_at b act
said-alike a b alike waits = refl
said-alike a b alike (puts seen reaching) = ap Some (one-said a b alike seen)

all-alike : (a b : Monitor) → Alike a b → (acts : List Act) → said_of_acts a acts ≡ said_of_acts b acts
all-alike a b alike [] = refl
all-alike a b alike (act ∷ acts) =
    ap (λ (it : Option Said). it ∷ said_of_acts (after_act a act) acts) (said-alike a b alike act)
    ∙ ap (λ (its : List (Option Said)). said_at b act ∷ its)
    (all-alike (after_act a act) (after_act b act) (stays-alike a b alike act) acts)

-- the addresses of a session stay as they are
kept-nad : (nad : Option ℕ) (first : ℕ) (seen : Seen) → nad ≡ Some first → nad_after Card nad seen ≡ nad
kept-nad nad first (whole block) is = rw is (kept-set (is_address block.nad))
  where
    kept-set : (b : Bool) → nad_set b (Some first) (nad_of Card block.nad) ≡ Some first
    kept-set true = refl
    kept-set false = refl
kept-nad nad first (malformed broken) is = refl
kept-nad nad first damage is = refl

-- ---- a card that may send any block

is-open : (d : Doubt) → is_open d ≡ true → d ≡ Open
is-open Clear h = cc h
is-open Refusable h = cc h
is-open Open h = refl

still-open : (w : Watched) (b refused : Bool) → is_turn w.heard ≡ b → w.doubt ≡ Open
    → is_open (corrected (passed_over w) refused).doubt ≡ true
still-open w true true is open_now = rw is refl
still-open w true false is open_now = rw is refl
still-open w false true is open_now = rw (is, open_now) refl
still-open w false false is open_now = rw (is, open_now) refl

shaken-open : (w : Watched) (resynch b : Bool) → is_turn w.heard ≡ b → w.doubt ≡ Open
    → is_open (shaken resynch (passed_over w)).doubt ≡ true
shaken-open w true true is open_now = rw is refl
shaken-open w false true is open_now = rw is refl
shaken-open w true false is open_now = rw (is, open_now) refl
shaken-open w false false is open_now = rw (is, open_now) refl

puts-open : (m : Monitor) (seen : Seen) (reaching : Reaching) → m.card.doubt ≡ Open → (b : Bool)
    → is_open (if b then elsewhere_after m Terminal seen reaching else here_after m Terminal seen reaching).card.doubt
    ≡ true
puts-open m seen reaching open_now true =
    shaken-open m.card (asks_resynch seen && not (is_lost reaching)) (is_turn m.card.heard) refl open_now
puts-open m seen reaching open_now false = still-open m.card (is_turn m.card.heard) (is_refusing seen) refl open_now

acts-open : (m : Monitor) (act : Act) → m.card.doubt ≡ Open → is_open (after_act m act).card.doubt ≡ true
acts-open m waits open_now = still-open m.card (is_turn m.card.heard) true refl open_now
acts-open m (puts seen reaching) open_now = puts-open m seen reaching open_now (is_other Terminal m.nad seen)

all-open : (m : Monitor) (acts : List Act) → is_open m.card.doubt ≡ true
    → is_open (after_acts m acts).card.doubt ≡ true
all-open m [] h = h
all-open m (act ∷ acts) h = all-open (after_act m act) acts (acts-open m act (is-open m.card.doubt h))

-- ---- both

aside-open : (b : Bool) (w : Watched) → is_turn w.heard ≡ true
    → is_open (if b && is_turn w.heard then passed_over w else waited w).doubt ≡ true
aside-open true w h = rw h
aside-open false w h = ap is_open (waited-open w true h refl)

module _ (m : Monitor) (seen : Seen) (unasked : is_asked m.last ≡ false) where
  -- the card's block is missing
  waits-alone : m.terminal.heard ≡ Broken → (quiet_after m).terminal ≡ waited m.terminal
  waits-alone broken = waits-here m.last m.terminal unasked broken

  same-terminal : m.terminal.heard ≡ Broken → (b : Bool)
      → (quiet_after (if b then elsewhere_after m Card seen lost else here_after m Card seen lost)).terminal
      ≡ (quiet_after m).terminal
  same-terminal broken true = waits-here Answered m.terminal refl broken ∙ sym (waits-alone broken)
  same-terminal broken false =
      waits-here (settled m.last) _ (settled-never-asked m.last)
      (answer-heard (is_away m.last) m.terminal Broken (is_refusing seen) (card_after m seen).doubt broken refl)
      ∙ one-answer (is_away m.last) m.terminal Broken (is_refusing seen) (card_after m seen).doubt broken refl
      ∙ sym (waits-alone broken)

  same-nad : (first : ℕ) → m.nad ≡ Some first → (b : Bool)
      → (quiet_after (if b then elsewhere_after m Card seen lost else here_after m Card seen lost)).nad
      ≡ (quiet_after m).nad
  same-nad first is true = refl
  same-nad first is false = kept-nad m.nad first seen is

  -- the terminal's block is missing
  same-card : m.card.heard ≡ Nothing → (b : Bool)
      → (quiet_after (if b then elsewhere_after m Terminal seen lost else here_after m Terminal seen lost)).card
      ≡ (quiet_after m).card
  same-card nothing true = one-card-elsewhere m.card Nothing (asks_resynch seen) nothing refl
  same-card nothing false = one-card m.card Nothing (is_refusing seen) (terminal_after m seen).doubt nothing refl

pub forgives : (m : Monitor) (from : Side) (seen : Seen) → Forgives m from seen
forgives m Card seen = λ unasked broken turn.
    let same = same-terminal m seen unasked broken (is_elsewhere m Card seen) in
    let alone = waits-here m.last m.terminal unasked broken in record {
      terminal = same;
      said = λ first is acts. all-alike (with_block m Card seen) (without_block m)
          (record {
            nad = same-nad m seen unasked first is (is_elsewhere m Card seen);
            terminal = ap unnumbered same;
            asked = never-asked _ ∙ sym (never-asked m.last);
            away = ended _ _ (ap (λ (w : Watched). is_turn w.heard) (same ∙ alone))
                ∙ sym (ended _ _ (ap (λ (w : Watched). is_turn w.heard) alone));
          }) acts;
      card = λ acts. all-open (without_block m) acts (ap is_open (passed-open m.card true turn refl));
    }
forgives m Terminal seen = λ unasked nothing turn. record {
  card = same-card m seen unasked nothing (is_other Terminal m.nad seen);
  terminal = ap (λ (w : Watched). is_open w.doubt)
      (rests (is_asked m.last) m.terminal (waited_aside m.last m.terminal) unasked)
      ∙ aside-open (is_away m.last) m.terminal turn;
}

-- ---- any block of such an end

within : (n room : ℕ) → n ≤ room → nat_le n room ≡ true
within n room h = grind (arith, nat_tests)

wider : (n room first : ℕ) → n ≤ room → n ≤ max room first
wider n room first h = grind arith

-- it is permitted, or an unknown last block permits it
then-permitted : (judged : Judged) (s : Sent) → (e : End) × (s ≡ Ok e) → IsNoDeviation (or_openly true judged s).verdict
then-permitted judged s (e, is) = go judged.verdict
  where
    go : (v : Verdict) → IsNoDeviation (or_openly true (record judged { verdict = v }) s).verdict
    go Permitted = tt
    go Unseen = tt
    go (Deviates broken owed) = rw is tt

pub sent-within : (e : End) (last : List ℕ) (pcb : Pcb) (inf : List ℕ) → is_foreign e.side pcb ≡ false
    → IsWithin e.room pcb inf → (f : End) × (sends (unknown_end e) AnyBlock last pcb inf ≡ Ok f)
sent-within e last (Info number more) inf own fits = (
  _,
  is_else (is_foreign e.side (Info number more)) _ _ own
      ∙ is_then (nat_le (length inf) (repeatable e)) _ _
      (within (length inf) (repeatable e) (wider (length inf) e.room e.largest_room fits)),
)
sent-within e last (Ready number fault) inf own fits = (_, is_else (is_foreign e.side (Ready number fault)) _ _ own)
sent-within e last (Request s) inf own fits = (_, is_else (is_foreign e.side (Request s)) _ _ own)
sent-within e last (Response s) inf own fits = (_, is_else (is_foreign e.side (Response s)) _ _ own)

pub any-block : (w : Watched) → is_open w.doubt ≡ true → MaySendAny w
any-block w free = λ block own fits.
    let judged = judges w.«end» w.heard w.last.items block.pcb block.inf in
    subst (λ (b : Bool). IsNoDeviation (or_openly b judged (sent_openly w block)).verdict) (sym free)
    (then-permitted judged (sent_openly w block)
    (sent-within w.«end» w.last.items block.pcb block.inf own fits))

-- ---- when the terminal waits for an answer of another connection

asked-by-neither : (b : Bool) (x y : Monitor) → is_asked x.last ≡ false → is_asked y.last ≡ false
    → is_asked (if b then x else y).last ≡ false
asked-by-neither true x y h k = h
asked-by-neither false x y h k = k

asked-by-one : (b : Bool) (x y : Monitor) → b ≡ false → is_asked y.last ≡ false
    → is_asked (if b then x else y).last ≡ false
asked-by-one true x y h k = absurd (true≢false h)
asked-by-one false x y h k = k

pub waits-elsewhere : WaitsElsewhere
waits-elsewhere = record {
  begun = λ ifsc. refl;
  reset = λ m ifsc. refl;
  midway = λ m. refl;
  quiet = λ m. never-asked m.last;
  card = λ m seen reaching. asked-by-neither (is_elsewhere m Card seen) (elsewhere_after m Card seen reaching)
      (here_after m Card seen reaching) refl (settled-never-asked m.last);
  terminal = λ m seen reaching h. asked-by-one (is_other Terminal m.nad seen)
      (elsewhere_after m Terminal seen reaching) (here_after m Terminal seen reaching) h
      (sent-never-asked _ m.last);
}
