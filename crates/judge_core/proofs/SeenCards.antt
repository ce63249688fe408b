-- The card of `t1_core` as the monitor keeps it.
use Rattle.std.proofs.Common.{◌≡◌, ℕ, List, sym, ap, subst, arith}
use Rattle.std.specs.Prelude.{Bool, true, false, ◌&&◌, if◌then◌else◌, max, Option, Some, None}
use Rattle.block_core.specs.Block.{Parts}
use Rattle.block_core.specs.declared.pcb.S.TheVariants.{Resynch, Ifs, Abort, Wtx}
use Rattle.block_core.specs.declared.pcb.Pcb.{Pcb}
use Rattle.block_core.specs.declared.pcb.Pcb.TheVariants.{Info, Ready, Request, Response}
use Rattle.t1_core.specs.Terminal.{most_repeats}
use Rattle.t1_core.specs.Card.{CardState, Waits, command, host, reply, asking}
use Rattle.judge_core.specs.declared.courses.Heard.{Heard}
use Rattle.judge_core.specs.declared.courses.Heard.TheVariants.{Beginning, Whole, Perhaps, Broken, Nothing}
use Rattle.judge_core.specs.declared.end.End.{End}
use Rattle.judge_core.specs.declared.doubt.Doubt.TheVariants.{Open}
use Rattle.judge_core.specs.declared.monitor.Watched.{Watched}
use Rattle.judge_core.specs.declared.monitor.Said.TheVariants.{Block}
use Rattle.judge_core.specs.Doubts.{is_info, is_open, is_turn, judged_of, overlooked, passed_over, presumed, sent_openly, sized, sized_by, tried, tried_after}
use Rattle.judge_core.specs.Followed.{last_after}
use Rattle.judge_core.specs.Monitored.{after_silence, known_after, listens}
use Rattle.judge_core.specs.Tapped.{Passes}
use Rattle.judge_core.specs.Watched as plain
use Rattle.judge_core.proofs.Passes.{Fine, is_then, watched}
use Rattle.judge_core.proofs.Cards.{AwaitsBlock, Fits, InTalk, Kind, Listens, SpareOf, chain, ended, fits_hearing, listens as listening}
use Rattle.judge_core.proofs.SeenTerminals.{fine_judged, fine_passes, plain_of}

-- ---- what the monitor changes of an end

-- the card sent an I-block
abbrev pub IsTalk : Waits → Type 0
IsTalk (command joined) = Unit {0}
IsTalk host = ⊥
IsTalk (reply field rest) = Unit {0}
IsTalk (asking asked) = ⊥

abbrev most_tried : plain.Watched → plain.Watched
most_tried w = record w { «end» = record w.«end» { tries = most_repeats } }

talk_most : (c : CardState) (k : Kind) (w : plain.Watched) → InTalk c k w → InTalk c k (most_tried w)
talk_most c k w (x, is) = (record x { tries = most_repeats }, ap most_tried is)

listens_most : (saved : Option (List ℕ)) (c : CardState) (joined : List ℕ) (w : plain.Watched)
    → Listens c saved joined w → Listens c saved joined (most_tried w)
listens_most None c joined w fits = (fits.0, talk_most c (listening joined fits.0) w fits.1)
listens_most (Some field) c joined w fits = talk_most c (ended joined field) w fits

fits_most : (waits : Waits) (c : CardState) (w : plain.Watched) → IsTalk waits → Fits c waits w
    → Fits c waits (most_tried w)
fits_most (command joined) c w h fits = listens_most c.saved c joined w fits
fits_most host c w h fits = absurd h
fits_most (reply field rest) c w h fits = talk_most c (chain field rest) w fits
fits_most (asking asked) c w h fits = absurd h

abbrev pub TalksIn : Pcb → Waits → Type 0
TalksIn (Info number goes_on) waits = IsTalk waits
TalksIn (Ready number fault) waits = Unit {0}
TalksIn (Request s) waits = Unit {0}
TalksIn (Response s) waits = Unit {0}

fits_tried : (free : Bool) (pcb : Pcb) (c : CardState) (w : plain.Watched) → TalksIn pcb c.waits
    → Fits c c.waits w
    → Fits c c.waits (record w { «end» = tried (free && is_info pcb) w.«end» })
fits_tried true (Info number goes_on) c w h fits = fits_most c.waits c w h fits
fits_tried false (Info number goes_on) c w h fits = fits
fits_tried true (Ready number fault) c w h fits = fits
fits_tried false (Ready number fault) c w h fits = fits
fits_tried true (Request s) c w h fits = fits
fits_tried false (Request s) c w h fits = fits
fits_tried true (Response s) c w h fits = fits
fits_tried false (Response s) c w h fits = fits

-- ---- a block of the card

pub record Told (c : CardState) (w : Watched) (b : Parts) : Type 0 where
  pub fine : Fine w.heard (plain.judged_of (plain_of w) b).verdict
  pub fits : Fits c c.waits (plain.after_sending Nothing (plain_of w) b)

pub told_passes : (c : CardState) (w : Watched) (b : Parts) → Told c w b → Passes (Block (judged_of w b).verdict)
told_passes c w b told =
    subst (λ j. Passes (Block j.verdict))
    (sym (fine_judged (is_open w.doubt) (plain.judged_of (plain_of w) b) (sent_openly w b) w.heard told.fine))
    (fine_passes w.heard _ told.fine)

pub told_fits : (c : CardState) (w : Watched) (b : Parts) (n : ℕ) → AwaitsBlock c.waits → TalksIn b.pcb c.waits
    → Told c w b
    → Fits c c.waits (plain_of (known_after w b n))
told_fits c w b n awaits talks told =
    let e = (plain.judged_of (plain_of w) b).«end» in
    let kept = fits_tried (is_open w.doubt) b.pcb c (watched e Nothing (last_after w.last.items b.pcb b.inf)) talks
    told.fits in
    subst (λ j. Fits c c.waits (watched (tried_after w.doubt b.pcb j.«end») (after_silence w.«end».side)
    (last_after w.last.items b.pcb b.inf)))
    (sym (fine_judged (is_open w.doubt) (plain.judged_of (plain_of w) b) (sent_openly w b) w.heard told.fine))
    (fits_hearing c.waits c _ (after_silence w.«end».side) awaits kept)

-- ---- a silence

abbrev roomier : ℕ → plain.Watched → plain.Watched
roomier n w = record w { «end» = record w.«end» { room = max w.«end».room n } }

abbrev not_aborted : plain.Watched → plain.Watched
not_aborted w = record w { «end» = record w.«end» { aborted = false } }

abbrev roomy : (c : CardState) → ℕ → SpareOf c → SpareOf c
roomy c n x = record x { room = max x.room n; room_ok = omega (arith, x.room_ok) }

talk_roomier : (c : CardState) (k : Kind) (n : ℕ) (w : plain.Watched) → InTalk c k w → InTalk c k (roomier n w)
talk_roomier c k n w (x, is) = (roomy c n x, ap (roomier n) is)

listens_roomier : (saved : Option (List ℕ)) (c : CardState) (joined : List ℕ) (n : ℕ) (w : plain.Watched)
    → Listens c saved joined w → Listens c saved joined (roomier n w)
listens_roomier None c joined n w fits = (fits.0, talk_roomier c (listening joined fits.0) n w fits.1)
listens_roomier (Some field) c joined n w fits = talk_roomier c (ended joined field) n w fits

fits_roomier : (waits : Waits) (c : CardState) (n : ℕ) (w : plain.Watched) → AwaitsBlock waits → Fits c waits w
    → Fits c waits (roomier n w)
fits_roomier (command joined) c n w h fits = listens_roomier c.saved c joined n w fits
fits_roomier host c n w h fits = absurd h
fits_roomier (reply field rest) c n w h fits = talk_roomier c (chain field rest) n w fits
fits_roomier (asking asked) c n w h (x, pending, aborted, last, is) =
    (roomy c n x, pending, aborted, last, ap (roomier n) is)

talk_unaborted : (c : CardState) (k : Kind) (w : plain.Watched) → InTalk c k w → InTalk c k (not_aborted w)
talk_unaborted c k w (x, is) = (x, ap not_aborted is)

listens_unaborted : (saved : Option (List ℕ)) (c : CardState) (joined : List ℕ) (w : plain.Watched)
    → Listens c saved joined w → Listens c saved joined (not_aborted w)
listens_unaborted None c joined w fits = (fits.0, talk_unaborted c (listening joined fits.0) w fits.1)
listens_unaborted (Some field) c joined w fits = talk_unaborted c (ended joined field) w fits

fits_unaborted : (waits : Waits) (c : CardState) (w : plain.Watched) → AwaitsBlock waits → Fits c waits w
    → Fits c waits (not_aborted w)
fits_unaborted (command joined) c w h fits = listens_unaborted c.saved c joined w fits
fits_unaborted host c w h fits = absurd h
fits_unaborted (reply field rest) c w h fits = talk_unaborted c (chain field rest) w fits
fits_unaborted (asking asked) c w h (x, pending, aborted, last, is) = (x, pending, false, last, ap not_aborted is)

abbrev sized_with : (End → End) → plain.Watched → plain.Watched
sized_with f w = record w { «end» = f w.«end» }

fits_sized_by : (c : CardState) (w : plain.Watched) (pcb : Pcb) (octet : ℕ) → AwaitsBlock c.waits
    → Fits c c.waits w
    → Fits c c.waits (sized_with (λ e. sized_by e pcb octet) w)
fits_sized_by c w (Info number goes_on) octet h fits = fits_unaborted c.waits c w h fits
fits_sized_by c w (Ready number fault) octet h fits = fits
fits_sized_by c w (Request Resynch) octet h fits = fits
fits_sized_by c w (Request Ifs) octet h fits = fits_roomier c.waits c octet w h fits
fits_sized_by c w (Request Abort) octet h fits = fits
fits_sized_by c w (Request Wtx) octet h fits = fits
fits_sized_by c w (Response s) octet h fits = fits

fits_sized : (c : CardState) (w : plain.Watched) (heard : Heard) → AwaitsBlock c.waits → Fits c c.waits w
    → Fits c c.waits (sized_with (λ e. sized e heard) w)
fits_sized c w Beginning h fits = fits
fits_sized c w (Whole pcb octet) h fits = fits_sized_by c w pcb octet h fits
fits_sized c w (Perhaps pcb octet) h fits = fits_sized_by c w pcb octet h fits
fits_sized c w Broken h fits = fits
fits_sized c w Nothing h fits = fits

-- nothing is unknown about the end
abbrev knows : plain.Watched → Bool
knows w = w.«end».known

listens_known : (saved : Option (List ℕ)) (c : CardState) (joined : List ℕ) (w : plain.Watched)
    → Listens c saved joined w → w.«end».known ≡ true
listens_known None c joined w fits = ap knows fits.1.1
listens_known (Some field) c joined w fits = ap knows fits.1

fits_known : (waits : Waits) (c : CardState) (w : plain.Watched) → AwaitsBlock waits → Fits c waits w
    → w.«end».known ≡ true
fits_known (command joined) c w h fits = listens_known c.saved c joined w fits
fits_known host c w h fits = absurd h
fits_known (reply field rest) c w h fits = ap knows fits.1
fits_known (asking asked) c w h (x, pending, aborted, last, is) = ap knows is

-- its turn passes without a block
pub passed_fits : (c : CardState) (w : Watched) (heard : Heard) → AwaitsBlock c.waits → Fits c c.waits (plain_of w)
    → Fits c c.waits (plain_of (listens (passed_over w) heard))
passed_fits c w heard h fits = go (is_turn w.heard)
  where
    passed : Fits c c.waits (watched (overlooked w.«end» w.heard) heard w.last.items)
    passed = fits_hearing c.waits c (watched (overlooked w.«end» w.heard) w.heard w.last.items) heard h
        (subst (λ e. Fits c c.waits (watched e w.heard w.last.items))
        (sym (is_then w.«end».known (sized w.«end» w.heard) (presumed w.«end» w.heard)
        (fits_known c.waits c (plain_of w) h fits)))
        (fits_sized c (plain_of w) w.heard h fits))

    go : (b : Bool) → Fits c c.waits (plain_of (listens (if b then record w {
      «end» = overlooked w.«end» w.heard;
      doubt = Open;
    } else w) heard))
    go true = passed
    go false = fits_hearing c.waits c (plain_of w) heard h fits
