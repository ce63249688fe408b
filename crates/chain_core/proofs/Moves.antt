-- What one call of a source leaves, where it is asked for octets of the block under way.
use Rattle.std.proofs.Common.{◌≡◌, ℕ, ◌+◌, ◌-◌, ◌<◌, ◌≤◌, ◌++◌, List, length, take, refl, sym, ap, subst, ◌∙◌, arith, Bool, true, false, append_assoc, slice_index, inl, inr, Some, Result, Ok, Err}
use Rattle.std.proofs.lemmas.List.{length-append, length-take, take-append-le, get_or-take, get_or_append_left}
use Rattle.std.proofs.Math.Seq.{take-length, take-append-add}
use Rattle.std.proofs.lemmas.Bool.{cases_lt}
use Rattle.octet_core.specs.Grammar.{Begins, RefusesAt, self_ended}
use Rattle.octet_core.specs.Reader.{IsFed}
use Rattle.octet_core.specs.declared.stop.Refusal.{Refusal}
use Rattle.octet_core.specs.declared.stop.Stop.{Stop}
use Rattle.octet_core.specs.declared.stop.Stop.TheVariants.{At}
use Rattle.octet_core.proofs.Begun.{begins-take}
use Rattle.octet_core.proofs.Firsts.{first_holds}
use Rattle.chain_core.specs.declared.reason.ChainReason.{ChainReason}
use Rattle.chain_core.specs.Chain.{IsChain, IsReason, Meets, all_reasons, open_blocks, octets_of}
use Rattle.chain_core.specs.Taking.{Taking, HasTaken, AreBefore, IsOpen, refusal_of}
use Rattle.chain_core.specs.Receiving.{Goes}
use Rattle.chain_core.specs.Reads.{EndsNear}
use Rattle.chain_core.proofs.Feeds.{some_is, none_some}
use Rattle.chain_core.proofs.Lengths.{blocks-length}
use Rattle.chain_core.proofs.Reasons.{part-under, part-meets, part-split, meets-length}
use Rattle.chain_core.proofs.Receiving.{not-chain}
use Rattle.chain_core.proofs.Receptions.{open-is}

-- the octets come in the block under way
pub record IsInside (old : Taking) (piece : List ℕ) : Type 0 where
  pub head : length old.under_way < 3 → length old.under_way + length piece ≤ 3
  pub rest : 3 ≤ length old.under_way → length old.under_way + length piece ≤ slice_index old.under_way 2 + 4

-- ---- the receiver takes them

-- a chain doesn't end before them
whole-piece : (old : Taking) (piece : List ℕ) (n : ℕ) (t : List ℕ) (gs : List (List ℕ)) → IsOpen old
    → IsInside old piece → n ≤ length piece → HasTaken old t → IsChain old.ifs old.number old.max gs (t ++ take n piece)
    → n ≡ length piece
whole-piece old piece n t gs free inside le h g =
    let c : List ℕ = old.under_way in
    let d : List ℕ = c ++ take n piece in
    let opened : List ℕ = octets_of (open_blocks old.number h.fields) in
    let is : t ++ take n piece ≡ opened ++ d =
    ap (λ (l : List ℕ). l ++ take n piece) (open-is old t free.1 h) ∙ append_assoc opened c (take n piece) in
    let long : length d ≡ length c + n = omega (arith, length-append c (take n piece), length-take n piece, le) in
    elim (cases_lt n (length piece)) [
      | inl lt ↦ absurd (not-chain old.ifs old.max old.number h.fields d (λ more. elim (cases_lt (length c) 3) [
        | inl few ↦ absurd (omega (arith, inside.head few, long, more, lt))
        | inr enough ↦ omega (
          arith,
          inside.rest enough,
          long,
          lt,
          get_or_append_left c (take n piece) 0 2 (omega arith),
        )
      ]) gs (subst (IsChain old.ifs old.number old.max gs) is g))
      | inr ge ↦ omega arith
    ]

-- octets of the block under way that are fed to an open receiver are all taken, or refused
pub fed-goes : (old new : Taking) (piece : List ℕ) (result : Result (ℕ × Bool) (Stop ChainReason)) → IsOpen old
    → IsInside old piece → (t : List ℕ) → HasTaken old t
    → new.ifs ≡ old.ifs → new.number ≡ old.number → new.max ≡ old.max
    → ((refusal : Refusal ChainReason) → new.refusal ≡ Some refusal → (s : List ℕ) → HasTaken old s
    → AreBefore old.number new.blocks new.joined (take refusal.place (s ++ piece)))
    → IsFed (IsChain old.ifs old.number old.max) (IsReason old.ifs old.number old.max) HasTaken refusal_of old new piece
    result → Goes old new piece
fed-goes old new piece (Ok (n, done)) free inside t h ifs-is number-is max-is before f =
    let all : n ≡ length piece = elim done as (λ d. d ≡ done → n ≡ length piece) [
      | true ↦ λ e. let v = (f.done t h).0 (sym e) in whole-piece old piece n t v.0 free inside f.taken.0 h v.1
      | false ↦ λ e. f.whole (sym e)
    ] refl in
    let piece-is : take n piece ≡ piece = ap (λ (k : ℕ). take k piece) all ∙ take-length piece in
    record {
      ifs = ifs-is;
      number = number-is;
      max = max-is;
      on = λ none s g. subst (λ (l : List ℕ). HasTaken new (s ++ l)) piece-is (f.taken.1 s g);
      refused = λ refusal e. none_some new.refusal refusal (f.taken.1 t h).kept e;
      before = before;
    }
fed-goes old new piece (Err stop) free inside t h ifs-is number-is max-is before f = record {
  ifs = ifs-is;
  number = number-is;
  max = max-is;
  on = λ none. none_some new.refusal f.kept.0 none f.kept.1;
  refused = λ refusal e s g.
      let one : f.kept.0 ≡ refusal = some_is f.kept.0 refusal (sym f.kept.1 ∙ e) in
      let is : stop ≡ At refusal.place refusal.reason =
      f.kept.2 ∙ ap (λ (x : Refusal ChainReason). At x.place x.reason) one in
      subst (RefusesAt self_ended (IsChain old.ifs old.number old.max) (IsReason old.ifs old.number old.max)
      (s ++ piece)) is (f.refused s g);
  before = before;
}

-- ---- where it refuses them

-- what came ends with the refused octet, or within the first three of its block
pub refused-near : (old new : Taking) (piece : List ℕ) (refusal : Refusal ChainReason) → IsOpen old
    → IsInside old piece → Goes old new piece → new.refusal ≡ Some refusal → (t : List ℕ) → HasTaken old t
    → EndsNear old.number (t ++ piece) refusal.place
refused-near old new piece refusal free inside goes e t h =
    let S : List (List ℕ) → List ℕ → Type 0 = IsChain old.ifs old.number old.max in
    let c : List ℕ = old.under_way in
    let d : List ℕ = c ++ piece in
    let b : List ℕ = t ++ piece in
    let p : ℕ = refusal.place in
    let opened : List ℕ = octets_of (open_blocks old.number h.fields) in
    let t-is : t ≡ opened ++ c = open-is old t free.1 h in
    let b-is : b ≡ opened ++ d = ap (λ (l : List ℕ). l ++ piece) t-is ∙ append_assoc opened c piece in
    let refused = goes.refused refusal e t h in
    let stuck = refused.0 in
    let late : length t ≤ p = elim (cases_lt p (length t)) [
      | inl lt ↦ absurd (stuck.stuck (subst (Begins S) (sym (take-append-le (p + 1) t piece (omega arith)))
          (begins-take S (p + 1) (length t) t (omega arith) (subst (Begins S) (sym (take-length t)) h.begun))))
      | inr le ↦ le
    ] in
    let t-long : length t ≡ length opened + length c = ap length t-is ∙ length-append opened c in
    let b-long : length b ≡ length opened + length d = ap length b-is ∙ length-append opened d in
    let d-long : length d ≡ length c + length piece = length-append c piece in
    let near : 3 ≤ length c → length b ≡ p + 1 = λ enough. elim (cases_lt (p + 1) (length b)) [
      | inl lt ↦
          let k : ℕ = p + 1 - length opened in
          let front : List ℕ = take k d in
          let front-long : length front ≡ k = omega (arith, length-take k d, lt, b-long) in
          let at : p + 1 ≡ length opened + k = omega (arith, late, t-long) in
          let front-is : take (p + 1) b ≡ opened ++ front =
          ap (λ (n : ℕ). take n b) at ∙ ap (take (length opened + k)) b-is ∙ take-append-add opened d k in
          let two : slice_index front 2 ≡ slice_index c 2 =
          get_or-take k d 2 0 (omega (arith, late, t-long, enough))
          ∙ get_or_append_left c piece 0 2 (omega arith) in
          let under : length front < slice_index front 2 + 4 =
          omega (arith, front-long, two, inside.rest enough, d-long, b-long, lt) in
          let m = first_holds all_reasons (Meets old.ifs old.number old.max (take (p + 1) b)) refusal.reason refused.1
          in
          let same = part-split old.number m.0 h.fields m.1 front
          (part-meets old.ifs old.number old.max m.0 m.1 refusal.reason m.3) (part-under front under)
          (sym m.2 ∙ front-is) in
          elim (meets-length old.ifs old.number old.max m.0 m.1 refusal.reason m.3) [
            | inl few ↦ absurd (omega (arith, few, ap length same.1, front-long, late, t-long, enough))
            | inr whole ↦ absurd (omega (
              arith,
              whole,
              ap length same.1,
              ap (λ (l : List ℕ). slice_index l 2) same.1,
              under,
            ))
          ]
      | inr le ↦ omega (arith, stuck.inside)
    ] in
    record {
      fields = h.fields;
      part = d;
      is = b-is;
      place = omega (arith, late, t-long);
      near = elim (cases_lt (length c) 3) [
        | inl few ↦ inl (omega (arith, inside.head few, d-long))
        | inr enough ↦ inr (near enough)
      ];
    }

-- ---- how many there can be

-- what begins a chain is no longer than the longest chain
pub taken-most : (r : Taking) (t : List ℕ) → HasTaken r t → length t ≤ r.max + 524288
taken-most r t h =
    let g = h.begun.2 in
    omega (
      arith,
      ap length g.is,
      length-append t h.begun.1,
      blocks-length r.number h.begun.0,
      g.proper.fits,
      g.proper.few,
    )
