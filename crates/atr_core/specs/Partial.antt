-- Unfinished answers to reset: the octets of them that have come.
use Rattle.std.specs.Prelude.{◌≡◌, ℕ, ◌+◌, ◌%◌, ◌<◌, ◌≤◌, ◌||◌, List, [], ◌∷◌, ◌++◌, length, Bool, true, false, IsTrue, Option, Some, None, Result, Ok, Err, IfNone}
use Rattle.std.specs.List.{AllByRecursion}
use Rattle.octet_core.specs.Octets.{AreOctets, xor_of}
use Rattle.atr_core.specs.declared.atr.Interface.{Interface}
use Rattle.atr_core.specs.declared.atr.Indicated.{Indicated}
use Rattle.atr_core.specs.declared.reason.AtrReason.{AtrReason}
use Rattle.atr_core.specs.declared.atr.Convention.{Convention}
use Rattle.atr_core.specs.declared.announced.Announced.{Announced}
use Rattle.atr_core.specs.declared.header.Header.{Header}
use Rattle.atr_core.specs.declared.tail.Tail.{Tail}
use Rattle.atr_core.specs.declared.partial.Phase.{Phase}
use Rattle.atr_core.specs.declared.partial.Phase.TheVariants as phase
use Rattle.atr_core.specs.declared.partial.Partial.{Partial}
use Rattle.atr_core.specs.Atr.{AtrParts, count_of, ts_of, announcing, goes_on, octets_of, up_to_td, interface_octets, needs_tck, spelling, IsAtr, IsReason}

-- ---- unfinished interface bytes

-- a byte, or 0 if it is awaited
abbrev pub or_awaited : Bool → Option ℕ → Option ℕ
or_awaited true o = Some 0
or_awaited false o = o

-- the bytes, with 0 for those that are awaited
abbrev pub filled : Interface → Announced → Interface
filled bytes left = record {
  ta = or_awaited left.ta bytes.ta;
  tb = or_awaited left.tb bytes.tb;
  tc =
      or_awaited left.tc bytes.tc;
}

-- the T0 or TD that announces the bytes that have come and those that are awaited
abbrev pub told : Interface → Announced → ℕ → ℕ
told bytes left low = announcing (filled bytes left) left.td low

-- no TA, TB or TC
abbrev pub no_bytes : Interface
no_bytes = record { ta = None; tb = None; tc = None }

-- an answer with no interface bytes and no historical bytes
abbrev pub bare_of : Convention → AtrParts
bare_of c = record { convention = c; first = no_bytes; indicated = []; historical = [] }

-- no TDs and no historical bytes
abbrev pub IsBlank : AtrParts → Type 0
IsBlank a = (a.indicated ≡ []) × (a.historical ≡ [])

-- the octet announces exactly what is awaited
abbrev pub Announces : Announced → ℕ → Type 0
Announces left octet = told no_bytes left (octet % 16) ≡ octet

-- TA, TB or TC is awaited
abbrev pub awaits_byte : Announced → Bool
awaits_byte left = (left.ta || left.tb) || left.tc

-- TA, TB, TC or a TD is awaited
abbrev pub is_announced : Announced → Bool
is_announced left = ((left.ta || left.tb) || left.tc) || left.td

-- an interface byte is next
abbrev pub AwaitsByte : Announced → Type 0
AwaitsByte left = awaits_byte left ≡ true

-- a TD is next
abbrev pub AwaitsTd : Announced → Type 0
AwaitsTd left = (awaits_byte left ≡ false) × (left.td ≡ true)

-- how many octets are awaited
abbrev pub awaited_count : Announced → ℕ
awaited_count left = count_of left.ta + count_of left.tb + count_of left.tc + count_of left.td

-- no byte has come that is after an awaited one
pub record InOrder (bytes : Interface) (left : Announced) : Type 0 where
  pub ta : IsTrue left.ta → (bytes.ta ≡ None) × (bytes.tb ≡ None) × (bytes.tc ≡ None)
  pub tb : IsTrue left.tb → (bytes.tb ≡ None) × (bytes.tc ≡ None)
  pub tc : IsTrue left.tc → bytes.tc ≡ None

-- the interface byte x changes the bytes and what is awaited to `after` and `later`
pub record Puts (bytes : Interface) (left : Announced) (x : ℕ) (after : Interface) (later : Announced) : Type 0 where
  pub ordered : InOrder after later
  pub same : (low : ℕ) → told after later low ≡ told bytes left low
  pub octets : octets_of after ≡ octets_of bytes ++ x ∷ []
  pub count : awaited_count left ≡ awaited_count later + 1

-- ---- up to the interface bytes

-- what has come: the parts of the answer, and the state of the interface bytes
pub record HeaderParts : Type 0 where
  pub convention : Convention
  pub first : Interface
  pub indicated : List Indicated
  pub historical : List ℕ
  pub historical_len : ℕ
  pub under : Option ℕ
  pub bytes : Interface
  pub awaited : Announced
  pub tck : Bool
  pub sum : ℕ
  pub count : ℕ

abbrev pub heading : AtrParts → Header → HeaderParts
heading a h = record {
  convention = a.convention;
  first = a.first;
  indicated = a.indicated;
  historical = a.historical;
  historical_len = h.historical_len;
  under = h.under;
  bytes = h.bytes;
  awaited = h.awaited;
  tck = h.tck;
  sum = h.sum;
  count = h.count;
}

-- the bytes of T0
abbrev pub first_under : Option ℕ → Interface → Interface → Interface
first_under None first bytes = bytes
first_under (Some protocol) first bytes = first

-- the TDs, including the one whose bytes come now
abbrev pub tds_under : Option ℕ → List Indicated → Interface → List Indicated
tds_under None indicated bytes = indicated
tds_under (Some protocol) indicated bytes = indicated ++ (record { protocol = protocol; bytes = bytes }) ∷ []

-- an answer with the bytes of T0, or of one TD more
abbrev pub with_section : AtrParts → Option ℕ → Interface → AtrParts
with_section a under bytes = record a {
  first = first_under under a.first bytes;
  indicated = tds_under under a.indicated bytes;
}

-- the bytes of T0, some of which may still be to come
abbrev pub first_of : HeaderParts → Interface
first_of h = first_under h.under h.first h.bytes

-- the TDs that have come
abbrev pub tds_of : HeaderParts → List Indicated
tds_of h = tds_under h.under h.indicated h.bytes

-- the octets from T0 on, if T0 announces k historical bytes
abbrev pub from_t0 : Option ℕ → Interface → List Indicated → Interface → Announced → ℕ → List ℕ
from_t0 None first indicated bytes left k = told bytes left k ∷ octets_of bytes
from_t0 (Some protocol) first indicated bytes left k =
    announcing first true k ∷ up_to_td first indicated (told bytes left protocol) ++ octets_of bytes

-- the answer with the bytes that come now
abbrev pub closed : HeaderParts → AtrParts
closed h = record { convention = h.convention; first = first_of h; indicated = tds_of h; historical = h.historical }

-- the octets that have come from T0 on
abbrev pub header_checked : HeaderParts → List ℕ
header_checked h = from_t0 h.under h.first h.indicated h.bytes h.awaited h.historical_len

-- the octets that have come
abbrev pub header_taken : HeaderParts → List ℕ
header_taken h = ts_of h.convention ∷ header_checked h

-- the fields agree with the octets, and an answer of at most 33 octets can continue
pub record HeaderHolds (h : HeaderParts) : Type 0 where
  pub few : h.historical_len < 16
  pub protocols : AllByRecursion (λ x. x.protocol < 16) (tds_of h)
  pub none : IfNone h.under (h.indicated ≡ [])
  pub blank : h.historical ≡ []
  pub ordered : InOrder h.bytes h.awaited
  pub tck : h.tck ≡ needs_tck (tds_of h)
  pub octets : AreOctets (header_taken h)
  pub sum : h.sum ≡ xor_of (header_checked h)
  pub count : h.count ≡ length (header_taken h)
  pub most : h.count + awaited_count h.awaited + h.historical_len + count_of h.tck ≤ 33

-- ---- historical bytes

-- what has come: the parts of the answer, and the state of the historical bytes
pub record TailParts : Type 0 where
  pub convention : Convention
  pub first : Interface
  pub indicated : List Indicated
  pub historical : List ℕ
  pub historical_len : ℕ
  pub tck : Bool
  pub sum : ℕ

abbrev pub tailing : AtrParts → Tail → TailParts
tailing a t = record {
  convention = a.convention;
  first = a.first;
  indicated = a.indicated;
  historical = a.historical;
  historical_len = t.historical_len;
  tck = t.tck;
  sum = t.sum;
}

-- the state of the historical bytes, before any has come
abbrev pub tail_after : Header → Tail
tail_after h = record { historical_len = h.historical_len; tck = h.tck; sum = h.sum }

-- the octets that have come from T0 on
abbrev pub tail_checked : TailParts → List ℕ
tail_checked t = announcing t.first (goes_on t.indicated) t.historical_len ∷ interface_octets t.first
    t.indicated ++ t.historical

-- the octets that have come
abbrev pub tail_taken : TailParts → List ℕ
tail_taken t = ts_of t.convention ∷ tail_checked t

-- the answer, once all historical bytes have come
abbrev pub parts_of : TailParts → AtrParts
parts_of t = record {
  convention = t.convention;
  first = t.first;
  indicated = t.indicated;
  historical =
      t.historical;
}

-- the fields agree with the octets, and an answer of at most 33 octets can continue
pub record TailHolds (t : TailParts) : Type 0 where
  pub few : t.historical_len < 16
  pub within : length t.historical ≤ t.historical_len
  pub protocols : AllByRecursion (λ x. x.protocol < 16) t.indicated
  pub tck : t.tck ≡ needs_tck t.indicated
  pub octets : AreOctets (tail_taken t)
  pub sum : t.sum ≡ xor_of (tail_checked t)
  pub most : 2 + length (interface_octets t.first t.indicated) + t.historical_len + count_of t.tck ≤ 33

-- more octets must come
abbrev pub TailAwaits : TailParts → Type 0
TailAwaits t = length t.historical + 1 ≤ t.historical_len + count_of t.tck

-- all octets have come, and there is no TCK
abbrev pub TailEnds : TailParts → Type 0
TailEnds t = (length t.historical ≡ t.historical_len) × (t.tck ≡ false)

-- the result of the octets so far: more must come, the answer is whole, or the last octet is refused
abbrev pub IsTailStep : List ℕ → TailParts → Result Bool AtrReason → Type 0
IsTailStep octets t (Ok false) = TailHolds t × TailAwaits t × (tail_taken t ≡ octets)
IsTailStep octets t (Ok true) = TailHolds t × (length t.historical ≡ t.historical_len) × IsAtr (parts_of t) octets
IsTailStep octets t (Err reason) = IsReason reason octets

-- ---- all phases

-- the octets are a whole answer
abbrev pub is_end : Phase → Bool
is_end phase.Start = false
is_end (phase.Opened convention) = false
is_end (phase.Header h) = false
is_end (phase.Tail t) = false
is_end phase.Whole = true

abbrev pub is_whole : Partial → Bool
is_whole p = is_end p.phase

-- the phase and the parts agree with the octets that have come, and more must come unless they are a whole answer
abbrev pub HoldsIn : AtrParts → Phase → Type 0
HoldsIn a phase.Start = IsBlank a
HoldsIn a (phase.Opened convention) = IsBlank a
HoldsIn a (phase.Header h) = HeaderHolds (heading a h) × (is_announced h.awaited ≡ true)
HoldsIn a (phase.Tail t) = TailHolds (tailing a t) × TailAwaits (tailing a t)
HoldsIn a phase.Whole = IsAtr a (spelling a)

abbrev pub Holds : Partial → Type 0
Holds p = HoldsIn p.atr p.phase

-- the octets that have come
abbrev pub taken_in : AtrParts → Phase → List ℕ
taken_in a phase.Start = []
taken_in a (phase.Opened convention) = ts_of convention ∷ []
taken_in a (phase.Header h) = header_taken (heading a h)
taken_in a (phase.Tail t) = tail_taken (tailing a t)
taken_in a phase.Whole = spelling a

abbrev pub taken_of : Partial → List ℕ
taken_of p = taken_in p.atr p.phase

-- these octets have come
abbrev pub IsNow : List ℕ → Partial → Type 0
IsNow octets p = Holds p × (taken_of p ≡ octets)

-- no octet has come
abbrev pub IsStart : Partial → Type 0
IsStart p = IsBlank p.atr × (p.phase ≡ phase.Start)

-- ---- from one phase to the next

-- the phase and the parts agree with the octets that have come; all octets of the phase may have come
abbrev pub FitsIn : AtrParts → Phase → Type 0
FitsIn a phase.Start = IsBlank a
FitsIn a (phase.Opened convention) = IsBlank a
FitsIn a (phase.Header h) = HeaderHolds (heading a h)
FitsIn a (phase.Tail t) = TailHolds (tailing a t)
FitsIn a phase.Whole = IsAtr a (spelling a)

abbrev pub Fits : Partial → Type 0
Fits p = FitsIn p.atr p.phase

-- and it isn't an interface byte's phase if all interface bytes have come
abbrev pub IsPastHeaderIn : AtrParts → Phase → Type 0
IsPastHeaderIn a phase.Start = IsBlank a
IsPastHeaderIn a (phase.Opened convention) = IsBlank a
IsPastHeaderIn a (phase.Header h) = HeaderHolds (heading a h) × (is_announced h.awaited ≡ true)
IsPastHeaderIn a (phase.Tail t) = TailHolds (tailing a t)
IsPastHeaderIn a phase.Whole = IsAtr a (spelling a)

abbrev pub IsPastHeader : Partial → Type 0
IsPastHeader p = IsPastHeaderIn p.atr p.phase
