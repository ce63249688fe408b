-- What a reader has taken, as more octets come.
use Rattle.std.proofs.Common.{◌≡◌, ℕ, ◌+◌, ◌<◌, ◌≤◌, List, [], ◌∷◌, ◌++◌, length, take, drop, get_or, refl, sym, ap, subst, ◌∙◌, arith, false, append-nil, append_assoc}
use Rattle.std.specs.Prelude.{map, Option, Some, None, Result, Ok, Err, OnOk, is_err, ◌↔◌}
use Rattle.std.proofs.lemmas.List.{length-append, length-take, take-append-drop}
use Rattle.octet_core.specs.Octets.{AreOctets}
use Rattle.octet_core.specs.Grammar.{IsFirst, RefusesAt, RefusesUnlessMemory, whole}
use Rattle.octet_core.proofs.Verdicts.{refuses_at}
use Rattle.octet_core.specs.declared.stop.Stop.TheVariants.{At}
use Rattle.octet_core.specs.declared.stop.Refused.{Refused}
use Rattle.octet_core.specs.declared.stop.Refused.TheVariants as refused
use Rattle.tlv_core.specs.declared.header.Next.{Next}
use Rattle.tlv_core.specs.declared.node.Node.TheVariants as node
use Rattle.tlv_core.specs.declared.partial.OpenValue.{OpenValue}
use Rattle.tlv_core.specs.declared.partial.Partial.{Partial}
use Rattle.octet_core.specs.declared.stop.Refusal.{Refusal}
use Rattle.tlv_core.specs.declared.reason.TlvReason.{TlvReason}
use Rattle.tlv_core.specs.Tree.{Tree, End, Primitive}
use Rattle.tlv_core.specs.Forest.{IsForest}
use Rattle.tlv_core.specs.Nodes.{tree_of}
use Rattle.tlv_core.specs.Reasons.{Kept, HasTaken, IsReason, tlv_reasons}
use Rattle.tlv_core.specs.Steps.{after_next, after_run, IsStep, IsWrongAfter}
use Rattle.tlv_core.specs.Grown.{Opened, ValueSoFar, Grown, HasGrown, Closing}
use Rattle.tlv_core.specs.Read.{Reading, opened_of, value_of, grown_of, longer_value, extended, TakesNext, HasBegun, HasRead, IsEndedFeed}
use Rattle.tlv_core.proofs.One.{join}
use Rattle.tlv_core.proofs.Advances.{take_taken, skip_taken, refuses_next}
use Rattle.tlv_core.proofs.Fed.{nothing_taken, first_left, take_taken_more}
use Rattle.tlv_core.proofs.Growing.{ClosingSome}
use Rattle.tlv_core.proofs.Grows.{value_fits, part_grown, whole_grown}
use Rattle.tlv_core.proofs.Closes.{item_done}

-- ---- the beginning

none_grown : (max : ℕ) (k : Kept) (g : Grown)
    → k ≡ record { max = max; count = 0; rooms = []; header = []; value_left = 0 }
    → g ≡ record { opened = []; list = End; value = None } → HasGrown [] k g
none_grown max k g is tree =
    subst (HasGrown [] k) (sym tree) (subst
    (λ (l : Kept). HasGrown [] l (record { opened = []; list = End; value = None })) (sym is)
    (record { opened = refl; proper = tt; under = refl }))

-- a new reader has taken no octets
pub none_begun : (max : ℕ) (k : Kept) (g : Grown) (refusal : Option (Refusal TlvReason))
    → k ≡ record { max = max; count = 0; rooms = []; header = []; value_left = 0 }
    → g ≡ record { opened = []; list = End; value = None }
    → HasBegun [] (record { kept = k; tree = g; refusal = refusal })
none_begun max k g refusal is tree = record
    { taken = (nothing_taken max k is []).1 refl; grown = none_grown max k g is tree }

-- and it has read octets exactly where they are none
pub none_read : (max : ℕ) (k : Kept) (g : Grown) (b : List ℕ)
    → k ≡ record { max = max; count = 0; rooms = []; header = []; value_left = 0 }
    → g ≡ record { opened = []; list = End; value = None }
    → HasRead b (record { kept = k; tree = g; refusal = None }) ↔ (b ≡ [])
none_read max k g b is tree = (
  λ h. (nothing_taken max k is b).0 h.begun.taken,
  λ e. subst (λ (l : List ℕ). HasRead l (record { kept = k; tree = g; refusal = None })) (sym e)
      (record { begun = none_begun max k g None is tree; none = refl }),
)

-- ---- a run of a value

part_of : (b : List ℕ) (k : Kept) (m : ℕ) (add : List ℕ) (opened : List Opened) (list : Tree)
    (value : Option ValueSoFar) → HasTaken b k → length add ≡ m → AreOctets add → 0 < m → m < k.value_left
    → HasGrown b k (record { opened = opened; list = list; value = value })
    → HasGrown (b ++ add) (after_run k m) (record { opened = opened; list = list; value = longer_value value add })
part_of b k m add opened list None taken len octets some lt h = absurd (omega (arith, h.under))
part_of b k m add opened list (Some v) taken len octets some lt h =
    part_grown b k m add opened list v (value_fits b k taken) len octets lt h

-- more of it is to come
pub part_begun : (b : List ℕ) (k : Kept) (old new : Partial) (m : ℕ) (add : List ℕ)
    (refusal : Option (Refusal TlvReason))
    → length add ≡ m → AreOctets add → 0 < m → m < k.value_left → grown_of new ≡ extended (grown_of old) add
    → HasBegun b (record { kept = k; tree = grown_of old; refusal = refusal })
    → HasBegun (b ++ add) (record { kept = after_run k m; tree = grown_of new; refusal = refusal })
part_begun b k old new m add refusal len octets some lt e h =
    let g = grown_of old in
    record {
      taken = skip_taken b k m add len octets some (omega arith) h.taken;
      grown =
          subst (HasGrown (b ++ add) (after_run k m)) (sym e)
          (part_of b k m add g.opened g.list g.value h.taken len octets some lt h.grown);
    }

-- the tree has a value under way, and with it the list is whole
record EndsValue (b rooms : List ℕ) (g : Grown) : Type 0 where
  pub some : g.value ≡ None → ⊥
  pub closing : (v : ValueSoFar) → g.value ≡ Some v
      → ClosingSome b rooms g.opened (join g.list (Primitive v.tag v.form v.octets End))

some_none : (v : ValueSoFar) → Some v ≡ None → ⊥
some_none v e = cc

same_some : (v w : ValueSoFar) → Some v ≡ Some w → v ≡ w
same_some v w e = cc

whole_of : (b : List ℕ) (k : Kept) (m : ℕ) (add : List ℕ) (opened : List Opened) (list : Tree)
    (value : Option ValueSoFar) → HasTaken b k → length add ≡ m → AreOctets add → 0 < m → m ≡ k.value_left
    → HasGrown b k (record { opened = opened; list = list; value = value })
    → EndsValue (b ++ add) (after_run k m).rooms
    (record { opened = opened; list = list; value = longer_value value add }) × (k.header ≡ [])
whole_of b k m add opened list None taken len octets some is h = absurd (omega (arith, h.under))
whole_of b k m add opened list (Some v) taken len octets some is h =
    let longer : ValueSoFar = record { tag = v.tag; form = v.form; len = v.len; octets = v.octets ++ add } in
    let closing = whole_grown b k m add opened list v (value_fits b k taken) len octets is h in (
      record {
        some = some_none longer;
        closing = λ w e. subst (λ (u : ValueSoFar).
            ClosingSome (b ++ add) (after_run k m).rooms opened (join list (Primitive u.tag u.form u.octets End)))
            (same_some longer w e) closing;
      },
      h.under.0,
    )

ended_with : (b : List ℕ) (k : Kept) (mid new : Partial) (value : Option OpenValue) → mid.value ≡ value → k.header ≡ []
    → k.value_left ≡ 0 → new.value ≡ None → EndsValue b k.rooms (grown_of mid)
    → ((v : OpenValue) (closed : ℕ) → mid.value ≡ Some v
    → Closing b k.rooms closed (map opened_of mid.opened.items)
    (tree_of (mid.list.items ++ node.Primitive v.header.tag v.header.form v.octets.items ∷ []))
    → Closing b k.rooms 0 (map opened_of new.opened.items) (tree_of new.list.items))
    → HasGrown b k (grown_of new)
ended_with b k mid new None is none z idle ends close = absurd (ends.some (ap value_of is))
ended_with b k mid new (Some v) is none z idle ends close =
    item_done b k mid new (node.Primitive v.header.tag v.header.form v.octets.items)
    (Primitive v.header.tag v.header.form v.octets.items End) refl none z idle
    (ends.closing (record { tag = v.header.tag; form = v.header.form; len = v.header.len; octets = v.octets.items })
    (ap value_of is)) (λ closed. close v closed is)

-- these are its last octets
pub whole_begun : (b : List ℕ) (k : Kept) (old mid new : Partial) (m : ℕ) (add : List ℕ)
    (refusal : Option (Refusal TlvReason))
    → length add ≡ m → AreOctets add → 0 < m → m ≡ k.value_left → grown_of mid ≡ extended (grown_of old) add
    → new.value ≡ None
    → ((v : OpenValue) (closed : ℕ) → mid.value ≡ Some v
    → Closing (b ++ add) (after_run k m).rooms closed (map opened_of mid.opened.items)
    (tree_of (mid.list.items ++ node.Primitive v.header.tag v.header.form v.octets.items ∷ []))
    → Closing (b ++ add) (after_run k m).rooms 0 (map opened_of new.opened.items) (tree_of new.list.items))
    → HasBegun b (record { kept = k; tree = grown_of old; refusal = refusal })
    → HasBegun (b ++ add) (record { kept = after_run k m; tree = grown_of new; refusal = refusal })
whole_begun b k old mid new m add refusal len octets some is e idle close h =
    let g = grown_of old in
    let w = whole_of b k m add g.opened g.list g.value h.taken len octets some is h.grown in
    record {
      taken = skip_taken b k m add len octets some (omega arith) h.taken;
      grown = ended_with (b ++ add) (after_run k m) mid new mid.value refl w.1 (omega arith) idle
          (subst (EndsValue (b ++ add) (after_run k m).rooms) (sym e) w.0) close;
    }

-- ---- an octet of a header

-- an octet that may come has been taken, once the tree has grown by it
pub octet_begun : (b : List ℕ) (k : Kept) (x : ℕ) (next : Next) (old room : Partial) (new : Grown)
    (refusal : Option (Refusal TlvReason)) → k.value_left ≡ 0 → IsStep k x next → grown_of room ≡ grown_of old
    → (TakesNext b k x next (grown_of room) → HasGrown (b ++ x ∷ []) (after_next k next) new)
    → HasBegun b (record { kept = k; tree = grown_of old; refusal = refusal })
    → HasBegun (b ++ x ∷ []) (record { kept = after_next k next; tree = new; refusal = refusal })
octet_begun b k x next old room new refusal z step same grows h =
    record {
      taken = take_taken b k x next z step h.taken;
      grown =
          grows (record { taken = h.taken; idle = z; step = step; grown = subst (HasGrown b k) (sym same) h.grown });
    }

-- the octet is refused
pub octet_refused : (b : List ℕ) (k : Kept) (octets : List ℕ) (r : TlvReason) → 0 < length octets → k.value_left ≡ 0
    → IsFirst tlv_reasons (IsWrongAfter k (get_or octets 0 0)) r → HasTaken b k
    → RefusesAt whole (IsForest k.max) (IsReason k.max) (b ++ octets) (At k.count r)
octet_refused b k octets r some z first h =
    let left = first_left 0 octets octets some refl in
    subst (λ (l : List ℕ). RefusesAt whole (IsForest k.max) (IsReason k.max) (b ++ l) (At k.count r)) (sym left.1)
    (refuses_next b k (get_or octets 0 0) left.0 r z first h)

-- ---- a piece

-- octets of the rest are read after those of the piece so far
pub read_more : (b piece rest : List ℕ) (taken n : ℕ) (now after : Reading) → rest ≡ drop taken piece
    → HasRead (b ++ take taken piece) now → ((c : List ℕ) → HasRead c now → HasRead (c ++ take n rest) after)
    → HasRead (b ++ take (taken + n) piece) after
read_more b piece rest taken n now after is h step =
    subst (λ (l : List ℕ). HasRead l after)
    (append_assoc b (take taken piece) (take n rest) ∙ ap (λ (l : List ℕ). b ++ (take taken piece ++ take n l)) is
    ∙ ap (λ (l : List ℕ). b ++ l) (take_taken_more taken n piece)) (step (b ++ take taken piece) h)

-- a feed of the rest that ends at once ends the feed of the piece after what was read before
pub read_ended : (max : ℕ) (b piece rest : List ℕ) (taken : ℕ) (new : Reading) (r : Refused TlvReason)
    → rest ≡ drop taken piece → taken ≤ length piece → IsEndedFeed max (b ++ take taken piece) rest new 0 r
    → IsEndedFeed max b piece new taken r
read_ended max b piece rest taken new refused.Memory is le h =
    (le, subst (λ (l : List ℕ). HasRead l new) (append-nil (b ++ take taken piece)) h.1)
read_ended max b piece rest taken new (refused.Stop stop) is le h =
    let all : (b ++ take taken piece) ++ rest ≡ b ++ piece =
    append_assoc b (take taken piece) rest ∙ ap (λ (l : List ℕ). b ++ (take taken piece ++ l)) is
    ∙ ap (λ (l : List ℕ). b ++ l) (take-append-drop taken piece) in
    let kept = h.3 in (
      le,
      subst (λ (l : List ℕ). HasBegun l new) (append-nil (b ++ take taken piece)) h.1,
      subst (λ (l : List ℕ). RefusesAt whole (IsForest max) (IsReason max) l stop) all h.2,
      (kept.0, kept.1, kept.2, omega (arith, kept.3, length-append b (take taken piece), length-take taken piece)),
    )

-- all octets in one piece
pub whole_ended : (max : ℕ) (piece : List ℕ) (new : Reading) (n : ℕ) (r : Refused TlvReason)
    → IsEndedFeed max [] piece new n r → RefusesUnlessMemory whole (IsForest max) (IsReason max) piece r
whole_ended max piece new n refused.Memory h = tt
whole_ended max piece new n (refused.Stop stop) h = refuses_at whole (IsForest max) (IsReason max) piece stop h.2

-- ---- answers of calls

-- a result that is no error shows what follows at success
pub of_ok : {A B P : Type 0} (r : Result A B) → is_err r ≡ false → OnOk r P → P
of_ok (Ok x) e h = h
of_ok (Err y) e h = cc
