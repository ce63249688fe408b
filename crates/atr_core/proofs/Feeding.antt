-- Answers to reset that come in pieces: what a feed and a finish answer.
use Rattle.std.proofs.Common.{◌≡◌, ℕ, ◌+◌, ◌≤◌, ◌++◌, List, [], ◌∷◌, length, take, refl, sym, ap, subst, ◌∙◌, arith, Bool, true, false, Ok, Err}
use Rattle.std.proofs.lemmas.List.{append-nil, length-append, length-take}
use Rattle.std.proofs.Math.Seq.{take-length}
use Rattle.octet_core.specs.Grammar.{Accepts, Begins, IsShort, IsStuck, Refuses, self_ended}
use Rattle.octet_core.specs.Reader.{IsFed, IsFinished}
use Rattle.octet_core.specs.declared.stop.Refusal.{Refusal}
use Rattle.octet_core.specs.declared.stop.Stop.{Stop}
use Rattle.octet_core.specs.declared.stop.Stop.TheVariants.{Short, At}
use Rattle.octet_core.proofs.Begun.{spelled-begins}
use Rattle.octet_core.proofs.Lists.{never}
use Rattle.atr_core.specs.declared.reason.AtrReason.{AtrReason}
use Rattle.atr_core.specs.declared.reader.Stage.TheVariants.{Taken, Refused}
use Rattle.atr_core.specs.declared.partial.Partial.{Partial}
use Rattle.atr_core.specs.declared.partial.Phase.{Phase}
use Rattle.atr_core.specs.declared.partial.Phase.TheVariants as phase
use Rattle.atr_core.specs.Atr.{AtrParts, IsAtr, IsReason, interface_octets}
use Rattle.atr_core.specs.Partial.{Holds, HoldsIn, is_end, is_whole, taken_in, taken_of}
use Rattle.atr_core.specs.Taking.{HasTaken, refusal_of}
use Rattle.atr_core.specs.Stage.{IsTaken, taking_of}
use Rattle.atr_core.proofs.Completed.{Unfinished, goes-on, short}

few-in : (a : AtrParts) (s : Phase) → HoldsIn a s → length (taken_in a s) ≤ 33
few-in a phase.Start h = omega arith
few-in a (phase.Opened convention) h = omega arith
few-in a (phase.Header header) h = omega (arith, h.0.count, h.0.most)
few-in a (phase.Tail t) h = omega (
  arith,
  h.0.within,
  h.0.most,
  length-append (interface_octets a.first a.indicated) a.historical,
)
few-in a phase.Whole h = h.proper.most

-- at most 33 octets have come
pub holds-few : (p : Partial) → Holds p → length (taken_of p) ≤ 33
holds-few p h = few-in p.atr p.phase h

-- more must come
pub begun-open : (p : Partial) → Holds p → is_whole p ≡ false → Begins IsAtr (taken_of p)
begun-open p h unended = let u = goes-on p h unended in (u.0, u.1 ∷ u.2, u.3)

-- what has come is no answer where it isn't whole
pub open-not : (p : Partial) (t : List ℕ) → Holds p → is_whole p ≡ false → t ≡ taken_of p → (v : AtrParts) → IsAtr v t
    → ⊥
open-not p t holds unended is v h =
    let own : IsAtr v (taken_of p) = subst (IsAtr v) is h in
    (short (taken_of p) (goes-on p holds unended)).none v (length (taken_of p))
    (omega arith, subst (IsAtr v) (sym (take-length (taken_of p))) own)

unended-in : (s : Phase) → (s ≡ phase.Whole → ⊥) → is_end s ≡ false
unended-in phase.Start none = refl
unended-in (phase.Opened c) none = refl
unended-in (phase.Header h) none = refl
unended-in (phase.Tail t) none = refl
unended-in phase.Whole none = absurd (none refl)

-- none of the whole ones
pub unended-of : (p : Partial) → (p.phase ≡ phase.Whole → ⊥) → is_whole p ≡ false
unended-of p none = unended-in p.phase none

-- ---- a feed

-- the octets before the piece, by what the reader showed
joined : (p : Partial) (t x : List ℕ) → HasTaken (taking_of (Taken p)) t → taken_of p ++ x ≡ t ++ x
joined p t x h = ap (λ (l : List ℕ). l ++ x) (sym h.is)

fed-open : (p q : Partial) (piece : List ℕ) (n : ℕ) → Holds p → is_whole p ≡ false → is_whole q ≡ false
    → IsTaken (taken_of p) piece q (Ok n)
    → IsFed IsAtr IsReason HasTaken refusal_of (taking_of (Taken p)) (taking_of (Taken q)) piece (Ok (n, false))
fed-open p q piece n holds unended more h =
    let is : (t : List ℕ) → HasTaken (taking_of (Taken p)) t → t ++ take n piece ≡ taken_of q =
    λ t g. sym (joined p t (take n piece) g) ∙ sym h.1 in
    record {
      taken = (
        h.2,
        λ t g. record {
          free = refl;
          is = is t g;
          begun =
              subst (Begins IsAtr) (sym (is t g)) (begun-open q h.0 more);
        },
      );
      done = λ t g. (λ e. never e, λ s. absurd (open-not q (t ++ take n piece) h.0 more (is t g) s.0 s.1));
      whole = λ e. h.3 more;
      refused = tt;
      kept = tt;
      full = λ t v g s. absurd (open-not p t holds unended g.is v s);
      repeated = λ r e. absurd (cc);
    }

fed-whole : (p q : Partial) (piece : List ℕ) (n : ℕ) → Holds p → is_whole p ≡ false → (v : AtrParts)
    → IsAtr v (taken_of q) → IsTaken (taken_of p) piece q (Ok n)
    → IsFed IsAtr IsReason HasTaken refusal_of (taking_of (Taken p)) (taking_of (Taken q)) piece (Ok (n, true))
fed-whole p q piece n holds unended v spelled h =
    let is : (t : List ℕ) → HasTaken (taking_of (Taken p)) t → t ++ take n piece ≡ taken_of q =
    λ t g. sym (joined p t (take n piece) g) ∙ sym h.1 in
    let own : (t : List ℕ) → HasTaken (taking_of (Taken p)) t → IsAtr v (t ++ take n piece) =
    λ t g. subst (IsAtr v) (sym (is t g)) spelled in
    record {
      taken = (
        h.2,
        λ t g. record {
          free = refl;
          is = is t g;
          begun =
              spelled-begins IsAtr v (t ++ take n piece) (own t g);
        },
      );
      done = λ t g. (λ e. (v, own t g), λ s. refl);
      whole = λ e. absurd (cc);
      refused = tt;
      kept = tt;
      full = λ t v g s. absurd (open-not p t holds unended g.is v s);
      repeated = λ r e. absurd (cc);
    }

-- an answer that is whole is its octets
pub whole-in : (a : AtrParts) (s : Phase) → HoldsIn a s → is_end s ≡ true → IsAtr a (taken_in a s)
whole-in a phase.Start h e = absurd (cc)
whole-in a (phase.Opened c) h e = absurd (cc)
whole-in a (phase.Header d) h e = absurd (cc)
whole-in a (phase.Tail t) h e = absurd (cc)
whole-in a phase.Whole h e = h

fed-at : (p q : Partial) (piece : List ℕ) (n : ℕ) (b : Bool) → is_whole q ≡ b → Holds p → is_whole p ≡ false
    → IsTaken (taken_of p) piece q (Ok n)
    → IsFed IsAtr IsReason HasTaken refusal_of (taking_of (Taken p)) (taking_of (Taken q)) piece (Ok (n, b))
fed-at p q piece n false e holds unended h = fed-open p q piece n holds unended e h
fed-at p q piece n true e holds unended h = fed-whole p q piece n holds unended q.atr (whole-in q.atr q.phase h.0 e) h

-- a feed of an answer that isn't whole answers how many octets it took, and whether it is whole now
pub fed : (p q : Partial) (piece : List ℕ) (n : ℕ) → Holds p → is_whole p ≡ false → IsTaken (taken_of p) piece q (Ok n)
    → IsFed IsAtr IsReason HasTaken refusal_of (taking_of (Taken p)) (taking_of (Taken q)) piece (Ok (n, is_whole q))
fed p q piece n holds unended h = fed-at p q piece n (is_whole q) refl holds unended h

-- and where an octet of the piece is refused it answers that refusal, and keeps it
pub fed-refused : (p q : Partial) (piece : List ℕ) (r : Refusal AtrReason) → Holds p → is_whole p ≡ false
    → IsTaken (taken_of p) piece q (Err r)
    → IsFed IsAtr IsReason HasTaken refusal_of (taking_of (Taken p)) (taking_of (Refused r)) piece
    (Err (At r.place r.reason))
fed-refused p q piece r holds unended h = record {
  taken = tt;
  done = tt;
  whole = tt;
  refused = λ t g. (
    subst (λ (l : List ℕ). IsStuck self_ended IsAtr l r.place) (joined p t piece g) h.0,
    subst (λ (l : List ℕ). IsReason r.reason (take (r.place + 1) l)) (joined p t piece g) h.1,
  );
  kept = (r, refl, refl);
  full = λ t v g s. absurd (open-not p t holds unended g.is v s);
  repeated = λ s e. absurd (cc);
}

-- where the answer was whole before
pub fed-full : (p : Partial) (piece : List ℕ) → Holds p → is_whole p ≡ true
    → IsFed IsAtr IsReason HasTaken refusal_of (taking_of (Taken p)) (taking_of (Taken p)) piece (Ok (0, true))
fed-full p piece holds e =
    let spelled : IsAtr p.atr (taken_of p) = whole-in p.atr p.phase holds e in
    let own : (t : List ℕ) → HasTaken (taking_of (Taken p)) t → IsAtr p.atr t =
    λ t g. subst (IsAtr p.atr) (sym g.is) spelled in
    record {
      taken = (omega arith, λ t g. subst (HasTaken (taking_of (Taken p))) (sym (append-nil t)) g);
      done = λ t g. (λ e. (p.atr, subst (IsAtr p.atr) (sym (append-nil t)) (own t g)), λ s. refl);
      whole = λ e. absurd (cc);
      refused = tt;
      kept = tt;
      full = λ t v g s. (refl, refl);
      repeated = λ r e. absurd (cc);
    }

-- as many octets have come as had before the piece and were taken from it
pub total-few : (p q : Partial) (piece : List ℕ) (n : ℕ) → IsTaken (taken_of p) piece q (Ok n)
    → length (taken_of p) + n ≡ length (taken_of q)
total-few p q piece n h = omega (
  arith,
  ap length h.1,
  h.2,
  length-take n piece,
  length-append (taken_of p) (take n piece),
)

-- ---- a finish

-- a finish of an answer that isn't whole says that it is short after all that have come
pub finished : (p : Partial) (count : ℕ) → Holds p → is_whole p ≡ false → count ≡ length (taken_of p)
    → IsFinished IsAtr IsReason HasTaken refusal_of (taking_of (Taken p)) (Err (Short count))
finished p count holds unended is = record {
  done = tt;
  short = λ free t h. (ap Short (is ∙ ap length (sym h.is)), λ v g. open-not p t holds unended h.is v g);
  repeated = λ r e. absurd (cc);
  some_taken = λ free. (taken_of p, record { free = refl; is = refl; begun = begun-open p holds unended });
}

-- ---- octets from the first on

-- after which more must come
pub short-open : (t octets : List ℕ) (p : Partial) (n : ℕ) → t ≡ [] → is_whole p ≡ false → IsTaken t octets p (Ok n)
    → IsShort self_ended IsAtr octets n
short-open t octets p n none unended h =
    let all : n ≡ length octets = h.3 unended in
    let is : taken_of p ≡ octets = h.1 ∙ ap (λ (l : List ℕ). l ++ take n octets) none
    ∙ ap (λ (k : ℕ). take k octets) all ∙ take-length octets in
    subst (IsShort self_ended IsAtr octets) (sym all) (short octets (subst Unfinished is (goes-on p h.0 unended)))

-- that are an answer
pub accepted-open : (t octets : List ℕ) (p : Partial) (n : ℕ) (v : AtrParts) → t ≡ [] → IsAtr v (taken_of p)
    → IsTaken t octets p (Ok n) → Accepts self_ended IsAtr octets v n
accepted-open t octets p n v none spelled h =
    (h.2, subst (IsAtr v) (h.1 ∙ ap (λ (l : List ℕ). l ++ take n octets) none) spelled)

-- of which one is refused
pub refused-open : (t octets : List ℕ) (p : Partial) (r : Refusal AtrReason) (stop : Stop AtrReason) → t ≡ []
    → stop ≡ At r.place r.reason → IsTaken t octets p (Err r) → Refuses self_ended IsAtr IsReason octets stop
refused-open t octets p r stop none is h =
    subst (Refuses self_ended IsAtr IsReason octets) (sym is)
    (subst (λ (l : List ℕ). IsTaken l octets p (Err r)) none h)
