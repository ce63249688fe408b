-- The terminal of `t1_core` as the monitor keeps it.
use Rattle.std.proofs.Common.{◌≡◌, ℕ, refl, sym, ap, subst, arith}
use Rattle.std.specs.Prelude.{Bool, true, false, ◌&&◌, max}
use Rattle.block_core.specs.Block.{Parts}
use Rattle.block_core.specs.declared.pcb.S.TheVariants.{Resynch, Ifs, Abort, Wtx}
use Rattle.block_core.specs.declared.pcb.Pcb.{Pcb}
use Rattle.block_core.specs.declared.pcb.Pcb.TheVariants.{Info, Ready, Request, Response}
use Rattle.t1_core.specs.Terminal.{TerminalState, Waits, idle, ack, answer, more, ifs, resynch, dead, most_repeats}
use Rattle.judge_core.specs.declared.courses.Heard.{Heard}
use Rattle.judge_core.specs.declared.courses.Heard.TheVariants.{Beginning, Whole, Perhaps, Broken, Nothing}
use Rattle.judge_core.specs.declared.courses.Verdict.{Verdict}
use Rattle.judge_core.specs.declared.courses.Verdict.TheVariants.{Permitted, Unseen, Deviates}
use Rattle.judge_core.specs.declared.courses.Judged.{Judged}
use Rattle.judge_core.specs.declared.end.End.{End}
use Rattle.judge_core.specs.declared.monitor.Watched.{Watched}
use Rattle.judge_core.specs.declared.monitor.Said.TheVariants.{Block}
use Rattle.judge_core.specs.Doubts.{corrected, is_info, is_open, judged_of, or_openly, overlooked, presumed, sent_openly, sized, sized_by, tried, tried_after, waited}
use Rattle.judge_core.specs.Followed.{last_after}
use Rattle.judge_core.specs.Monitored.{after_silence, known_after}
use Rattle.judge_core.specs.Sends.{Sent}
use Rattle.judge_core.specs.Tapped.{Passes}
use Rattle.judge_core.specs.Watched as plain
use Rattle.judge_core.proofs.Passes.{Fine, is_then, watched}
use Rattle.judge_core.proofs.Terminals.{Fits, InTalk, IsBusy, Kind, chain, ends, further, fits_hearing}

-- what the laws of the ends say of a watched end
abbrev pub plain_of : Watched → plain.Watched
plain_of w = watched w.«end» w.heard w.last.items

pub plain_corrected : (w : Watched) (refused : Bool) → plain_of (corrected w refused) ≡ plain_of w
plain_corrected w true = refl
plain_corrected w false = refl

-- ---- the verdict

-- a block that some course permits
pub fine_judged : (free : Bool) (judged : Judged) (s : Sent) (heard : Heard) → Fine heard judged.verdict
    → or_openly free judged s ≡ judged
fine_judged free judged s heard fine = go free judged.verdict fine
  where
    go : (b : Bool) (v : Verdict) → Fine heard v
        → or_openly b (record judged { verdict = v }) s ≡ record judged { verdict = v }
    go true Permitted h = refl
    go false Permitted h = refl
    go true Unseen h = refl
    go false Unseen h = refl
    go b (Deviates broken owed) h = absurd h

pub fine_passes : (heard : Heard) (v : Verdict) → Fine heard v → Passes (Block v)
fine_passes heard Permitted h = tt
fine_passes heard Unseen h = tt
fine_passes heard (Deviates broken owed) h = absurd h

-- ---- what the monitor changes of an end

-- an exchange is under way
abbrev pub IsTalk : Waits → Type 0
IsTalk idle = ⊥
IsTalk (ack field rest) = Unit {0}
IsTalk (answer field) = Unit {0}
IsTalk (more joined) = Unit {0}
IsTalk (ifs size) = ⊥
IsTalk (resynch asked) = ⊥
IsTalk dead = ⊥

abbrev most_tried : plain.Watched → plain.Watched
most_tried w = record w { «end» = record w.«end» { tries = most_repeats } }

talk_most : (t : TerminalState) (k : Kind) (w : plain.Watched) → InTalk ⊥ t k w → InTalk ⊥ t k (most_tried w)
talk_most t k w (x, is) = (record x { tries = most_repeats; enough = λ p. omega arith }, ap most_tried is)

fits_most : (waits : Waits) (t : TerminalState) (w : plain.Watched) → IsTalk waits → Fits ⊥ t waits w
    → Fits ⊥ t waits (most_tried w)
fits_most idle t w h fits = absurd h
fits_most (ack field rest) t w h fits = talk_most t (chain field rest) w fits
fits_most (answer field) t w h fits = talk_most t (ends field) w fits
fits_most (more joined) t w h fits = (fits.0, talk_most t (further joined fits.0) w fits.1)
fits_most (ifs size) t w h fits = absurd h
fits_most (resynch asked) t w h fits = absurd h
fits_most dead t w h fits = absurd h

-- the terminal sends I-blocks in exchanges alone
abbrev pub TalksIn : Pcb → Waits → Type 0
TalksIn (Info number goes_on) waits = IsTalk waits
TalksIn (Ready number fault) waits = Unit {0}
TalksIn (Request s) waits = Unit {0}
TalksIn (Response s) waits = Unit {0}

fits_tried : (free : Bool) (pcb : Pcb) (t : TerminalState) (w : plain.Watched) → TalksIn pcb t.waits
    → Fits ⊥ t t.waits w
    → Fits ⊥ t t.waits (record w { «end» = tried (free && is_info pcb) w.«end» })
fits_tried true (Info number goes_on) t w h fits = fits_most t.waits t w h fits
fits_tried false (Info number goes_on) t w h fits = fits
fits_tried true (Ready number fault) t w h fits = fits
fits_tried false (Ready number fault) t w h fits = fits
fits_tried true (Request s) t w h fits = fits
fits_tried false (Request s) t w h fits = fits
fits_tried true (Response s) t w h fits = fits
fits_tried false (Response s) t w h fits = fits

-- ---- a block of the terminal

pub record Told (t : TerminalState) (w : Watched) (b : Parts) : Type 0 where
  pub fine : Fine w.heard (plain.judged_of (plain_of w) b).verdict
  pub fits : Fits ⊥ t t.waits (plain.after_sending Broken (plain_of w) b)

pub told_passes : (t : TerminalState) (w : Watched) (b : Parts) → Told t w b → Passes (Block (judged_of w b).verdict)
told_passes t w b told =
    subst (λ j. Passes (Block j.verdict))
    (sym (fine_judged (is_open w.doubt) (plain.judged_of (plain_of w) b) (sent_openly w b) w.heard told.fine))
    (fine_passes w.heard _ told.fine)

pub told_fits : (t : TerminalState) (w : Watched) (b : Parts) (n : ℕ) → IsBusy t.waits → TalksIn b.pcb t.waits
    → Told t w b
    → Fits ⊥ t t.waits (plain_of (known_after w b n))
told_fits t w b n busy_now talks told =
    let e = (plain.judged_of (plain_of w) b).«end» in
    let kept = fits_tried (is_open w.doubt) b.pcb t (watched e Broken (last_after w.last.items b.pcb b.inf)) talks
    told.fits in
    subst (λ j. Fits ⊥ t t.waits (watched (tried_after w.doubt b.pcb j.«end») (after_silence w.«end».side)
    (last_after w.last.items b.pcb b.inf)))
    (sym (fine_judged (is_open w.doubt) (plain.judged_of (plain_of w) b) (sent_openly w b) w.heard told.fine))
    (fits_hearing ⊥ t.waits t _ (after_silence w.«end».side) busy_now kept)

-- ---- a silence

abbrev roomier : ℕ → plain.Watched → plain.Watched
roomier n w = record w { «end» = record w.«end» { room = max w.«end».room n } }

abbrev not_aborted : plain.Watched → plain.Watched
not_aborted w = record w { «end» = record w.«end» { aborted = false } }

talk_roomier : (t : TerminalState) (k : Kind) (n : ℕ) (w : plain.Watched) → InTalk ⊥ t k w → InTalk ⊥ t k (roomier n w)
talk_roomier t k n w (x, is) = (
  record x { spare = record x.spare { room = max x.spare.room n; room_ok = omega (arith, x.spare.room_ok) } },
  ap (roomier n) is,
)

fits_roomier : (waits : Waits) (t : TerminalState) (n : ℕ) (w : plain.Watched) → IsBusy waits → Fits ⊥ t waits w
    → Fits ⊥ t waits (roomier n w)
fits_roomier idle t n w h fits = absurd h
fits_roomier (ack field rest) t n w h fits = talk_roomier t (chain field rest) n w fits
fits_roomier (answer field) t n w h fits = talk_roomier t (ends field) n w fits
fits_roomier (more joined) t n w h fits = (fits.0, talk_roomier t (further joined fits.0) n w fits.1)
fits_roomier (ifs size) t n w h (x, pending, aborted, last, tries, few, is) = (
  record x { room = max x.room n; room_ok = omega (arith, x.room_ok) },
  pending,
  aborted,
  last,
  tries,
  few,
  ap (roomier n) is,
)
fits_roomier (resynch asked) t n w h (room, first, largest, last, tries, few, ok, room_ok, is) =
    (max room n, first, largest, last, tries, few, ok, omega (arith, room_ok), ap (roomier n) is)
fits_roomier dead t n w h fits = absurd h

talk_unaborted : (t : TerminalState) (k : Kind) (w : plain.Watched) → InTalk ⊥ t k w → InTalk ⊥ t k (not_aborted w)
talk_unaborted t k w (x, is) = (x, ap not_aborted is)

fits_unaborted : (waits : Waits) (t : TerminalState) (w : plain.Watched) → IsBusy waits → Fits ⊥ t waits w
    → Fits ⊥ t waits (not_aborted w)
fits_unaborted idle t w h fits = absurd h
fits_unaborted (ack field rest) t w h fits = talk_unaborted t (chain field rest) w fits
fits_unaborted (answer field) t w h fits = talk_unaborted t (ends field) w fits
fits_unaborted (more joined) t w h fits = (fits.0, talk_unaborted t (further joined fits.0) w fits.1)
fits_unaborted (ifs size) t w h (x, pending, aborted, last, tries, few, is) =
    (x, pending, false, last, tries, few, ap not_aborted is)
fits_unaborted (resynch asked) t w h (room, first, largest, last, tries, few, ok, room_ok, is) =
    (room, first, largest, last, tries, few, ok, room_ok, ap not_aborted is)
fits_unaborted dead t w h fits = absurd h

abbrev sized_with : (End → End) → plain.Watched → plain.Watched
sized_with f w = record w { «end» = f w.«end» }

fits_sized_by : (t : TerminalState) (w : plain.Watched) (pcb : Pcb) (octet : ℕ) → IsBusy t.waits → Fits ⊥ t t.waits w
    → Fits ⊥ t t.waits (sized_with (λ e. sized_by e pcb octet) w)
fits_sized_by t w (Info number goes_on) octet h fits = fits_unaborted t.waits t w h fits
fits_sized_by t w (Ready number fault) octet h fits = fits
fits_sized_by t w (Request Resynch) octet h fits = fits
fits_sized_by t w (Request Ifs) octet h fits = fits_roomier t.waits t octet w h fits
fits_sized_by t w (Request Abort) octet h fits = fits
fits_sized_by t w (Request Wtx) octet h fits = fits
fits_sized_by t w (Response s) octet h fits = fits

fits_sized : (t : TerminalState) (w : plain.Watched) (heard : Heard) → IsBusy t.waits → Fits ⊥ t t.waits w
    → Fits ⊥ t t.waits (sized_with (λ e. sized e heard) w)
fits_sized t w Beginning h fits = fits
fits_sized t w (Whole pcb octet) h fits = fits_sized_by t w pcb octet h fits
fits_sized t w (Perhaps pcb octet) h fits = fits_sized_by t w pcb octet h fits
fits_sized t w Broken h fits = fits
fits_sized t w Nothing h fits = fits

-- nothing is unknown about the end
talk_known : (t : TerminalState) (k : Kind) (w : plain.Watched) → InTalk ⊥ t k w → w.«end».known ≡ true
talk_known t k w (x, is) = ap (λ (u : plain.Watched). u.«end».known) is

fits_known : (waits : Waits) (t : TerminalState) (w : plain.Watched) → IsBusy waits → Fits ⊥ t waits w
    → w.«end».known ≡ true
fits_known idle t w h fits = absurd h
fits_known (ack field rest) t w h fits = talk_known t (chain field rest) w fits
fits_known (answer field) t w h fits = talk_known t (ends field) w fits
fits_known (more joined) t w h fits = talk_known t (further joined fits.0) w fits.1
fits_known (ifs size) t w h (x, pending, aborted, last, tries, few, is) = ap (λ (u : plain.Watched). u.«end».known) is
fits_known (resynch asked) t w h (room, first, largest, last, tries, few, ok, room_ok, is) =
    ap (λ (u : plain.Watched). u.«end».known) is
fits_known dead t w h fits = absurd h

-- its waiting time ends
pub waited_fits : (t : TerminalState) (w : Watched) → IsBusy t.waits → Fits ⊥ t t.waits (plain_of w)
    → Fits ⊥ t t.waits (plain_of (waited w))
waited_fits t w h fits =
    fits_hearing ⊥ t.waits t (watched (overlooked w.«end» w.heard) w.heard w.last.items) Broken h
    (subst (λ e. Fits ⊥ t t.waits (watched e w.heard w.last.items))
    (sym (is_then w.«end».known (sized w.«end» w.heard) (presumed w.«end» w.heard)
    (fits_known t.waits t (plain_of w) h fits)))
    (fits_sized t (plain_of w) w.heard h fits))
