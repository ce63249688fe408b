-- What a call that reads a chain answers.
use Rattle.std.proofs.Common.{◌≡◌, ◌⊎◌, ℕ, ◌+◌, ◌*◌, ◌≤◌, ◌++◌, List, [], length, refl, sym, ap, subst, ◌∙◌, arith, true, false, append_assoc, inl, inr, Option, Some, None, Result, Ok, Err, OnOk, IfErr, IsErrAnd, MatchResult}
use Rattle.std.proofs.lemmas.List.{append-nil, length-append}
use Rattle.std.proofs.KnownBytes.{Consumes-nil, Consumes-trans, Consumes-kept}
use Rattle.std.specs.Io.KnownBytes.{IsAtEnd, Keeps}
use Rattle.octet_core.specs.Grammar.{Accepts, Begins, IsShort, Refuses, RefusesAt, self_ended}
use Rattle.octet_core.specs.Reader.{IsFinished}
use Rattle.octet_core.specs.declared.stop.Refusal.{Refusal}
use Rattle.octet_core.specs.declared.stop.Stop.{Stop}
use Rattle.octet_core.specs.declared.stop.Stop.TheVariants.{At, Short}
use Rattle.octet_core.proofs.Begun.{spelled-accepted}
use Rattle.block_core.specs.declared.pcb.Number.{Number}
use Rattle.octet_core.proofs.Answered.{short-of, refuses-append}
use Rattle.chain_core.specs.declared.reason.ChainReason.{ChainReason}
use Rattle.chain_core.specs.declared.reading.ReadRefusal.{ReadRefusal}
use Rattle.chain_core.specs.declared.reading.ReadRefusal.TheVariants as answers
use Rattle.chain_core.specs.Chain.{IsChain, IsReason}
use Rattle.chain_core.specs.Taking.{Taking, HasTaken, IsOpen, IsClosed, refusal_of}
use Rattle.chain_core.specs.Reads.{EndsNear, Reads, ReadsChain, ReadsPart, ReadsShort, ReadsRefused}
use Rattle.chain_core.specs.Moving.{MovesOn, HasRead}
use Rattle.chain_core.proofs.Feeds.{bool_cases, none_some, goes-none, goes-then, chain-at, not-spelled, open-not-closed}
use Rattle.chain_core.proofs.Moves.{taken-most}
use Rattle.chain_core.proofs.Taken.{done-spelled, length-taken}
use Rattle.chain_core.proofs.Unique.{one-accepted}

-- ---- call by call

-- before the first call nothing was read, and the receiver is as it was
pub read-none : (held : Option (List ℕ)) (r : Taking) → HasRead held held r r 0
read-none held r = record {
  read = [];
  count = refl;
  from = Consumes-nil held;
  goes = goes-none r;
  near = λ refusal e free t h. none_some r.refusal refusal free.0 e;
  most = λ none. omega arith;
}

-- what one call more brought comes after what was read before, where the receiver was open
pub read-more : (held mid left : Option (List ℕ)) (old cur new : Taking) (taken count : ℕ)
    → HasRead held mid old cur taken → IsOpen cur → MovesOn mid left cur new count
    → HasRead held left old new (taken + count)
read-more held mid left old cur new taken count h free m = record {
  read = h.read ++ m.piece;
  count = omega (arith, length-append h.read m.piece, h.count, m.long);
  from = Consumes-trans held mid left h.read m.piece h.from m.from;
  goes = goes-then old cur new h.read m.piece h.goes free m.goes;
  near = λ refusal e open_before t g.
      let near : EndsNear cur.number ((t ++ h.read) ++ m.piece) refusal.place =
      m.near refusal e (t ++ h.read) (h.goes.on free.0 t g) in
      subst (λ (n : Number). EndsNear n (t ++ (h.read ++ m.piece)) refusal.place) h.goes.number
      (subst (λ (l : List ℕ). EndsNear cur.number l refusal.place) (append_assoc t h.read m.piece) near);
  most = λ none.
      let b : List ℕ = m.before.0 in
      let before : length b ≡ length cur.joined + cur.blocks * 4 + length cur.under_way =
      length-taken cur b m.before.1 in
      let after : length (b ++ m.piece) ≡ length new.joined + new.blocks * 4 + length new.under_way =
      length-taken new (b ++ m.piece) (m.goes.on none b m.before.1) in
      omega (arith, h.most free.0, before, after, length-append b m.piece, m.long);
}

-- before a call that moves on there is room for more
pub read-bound : (held mid left : Option (List ℕ)) (old cur new : Taking) (taken count : ℕ)
    → HasRead held mid old cur taken → IsOpen cur → MovesOn mid left cur new count → taken ≤ old.max + 524288
read-bound held mid left old cur new taken count h free m =
    omega (
      arith,
      h.most free.0,
      length-taken cur m.before.0 m.before.1,
      taken-most cur m.before.0 m.before.1,
      h.goes.max,
    )

-- where the source fails, what was read before that was taken, and is counted
pub read-part : (held mid left : Option (List ℕ)) (old cur new : Taking) (taken : ℕ) → HasRead held mid old cur taken
    → IsOpen cur → Keeps mid left → new ≡ cur → ReadsPart held left old new taken
read-part held mid left old cur new taken h free kept same = record {
  read = h.read;
  is = record {
    from = Consumes-kept held mid left h.read h.from kept;
    taken = λ t g. subst (λ (r : Taking). HasTaken r (t ++ h.read)) (sym same) (h.goes.on free.0 t g);
  };
  count = h.count;
}

-- ---- at the end

-- what the receiver says at the end, as the answer of the call that reads
abbrev pub answer_of : Result Unit (Stop ChainReason) → Result Unit ReadRefusal
answer_of (Ok done) = Ok done
answer_of (Err stop) = Err (answers.Stop stop)

-- a result that passes this on is that answer
pub mapped : (said : Result Unit (Stop ChainReason)) (result : Result Unit ReadRefusal)
    → MatchResult said (λ done. result ≡ Ok done) (λ stop. IsErrAnd result (λ refusal. refusal ≡ answers.Stop stop))
    → answer_of said ≡ result
mapped (Ok done) result h = sym h
mapped (Err stop) (Ok done) h = absurd h
mapped (Err stop) (Err refusal) h = ap Err (sym h)

-- no octets come any more: the receiver takes none, or the source has none
abbrev pub IsEnded : Option (List ℕ) → Taking → Type 0
IsEnded left new = IsClosed new ⊎ (IsOpen new × IsAtEnd left)

ended-chain : (held left : Option (List ℕ)) (old new : Taking) (taken : ℕ) → HasRead held left old new taken
    → new.refusal ≡ None → new.done ≡ true → ReadsChain held left old new
ended-chain held left old new taken h none done = record {
  read = h.read;
  is = record { from = h.from; taken = λ t g. h.goes.on none t g };
  chain = λ t g.
      let here : HasTaken new (t ++ h.read) = h.goes.on none t g in (
        here.fields,
        chain-at old new here.fields (t ++ h.read) h.goes.ifs h.goes.number h.goes.max
            (done-spelled new (t ++ h.read) here done),
        sym here.joined,
      );
  done = done;
  kept = none;
}

ended-short : (held left : Option (List ℕ)) (old new : Taking) (taken p : ℕ) → HasRead held left old new taken
    → IsOpen new → IsAtEnd left → p ≡ length new.joined + new.blocks * 4 + length new.under_way
    → ReadsShort held left old new p
ended-short held left old new taken p h free end place = record {
  read = h.read;
  is = record { from = h.from; taken = λ t g. h.goes.on free.0 t g };
  end = end;
  short = λ t g.
      let b : List ℕ = t ++ h.read in
      let here : HasTaken new b = h.goes.on free.0 t g in
      let at : p ≡ length b = place ∙ sym (length-taken new b here) in
      let begun : Begins (IsChain old.ifs old.number old.max) b = (
        here.begun.0,
        here.begun.1,
        chain-at old new here.begun.0 (b ++ here.begun.1) h.goes.ifs h.goes.number
            h.goes.max here.begun.2,
      ) in
      let not_yet : (v : List (List ℕ)) → IsChain old.ifs old.number old.max v b → ⊥ =
      λ v s. not-spelled new b free.1 here v
      (chain-at new old v b (sym h.goes.ifs) (sym h.goes.number) (sym h.goes.max) s) in
      subst (λ (k : ℕ). IsShort self_ended (IsChain old.ifs old.number old.max) b k) (sym at)
      (short-of (IsChain old.ifs old.number old.max) (one-accepted old.ifs old.ifs old.max old.max old.number) b
      begun not_yet);
}

ended-refused : (held left : Option (List ℕ)) (old new : Taking) (taken : ℕ) (refusal : Refusal ChainReason)
    → HasRead held left old new taken → new.refusal ≡ Some refusal → IsOpen old
    → ReadsRefused held left old new refusal.place refusal.reason
ended-refused held left old new taken refusal h e free = record {
  read = h.read;
  from = h.from;
  refused = λ t g. h.goes.refused refusal e t g;
  near = λ t g. h.near refusal e free t g;
  kept = e;
  before = λ t g. h.goes.before refusal e t g;
}

told : {A : Type 0} (o : Option A) → (o ≡ None) ⊎ ((x : A) × (o ≡ Some x))
told None = inl refl
told (Some x) = inr (x, refl)

still-open : (old new : Taking) (refusal : Refusal ChainReason) → (IsClosed old → new ≡ old)
    → new.refusal ≡ Some refusal → old.refusal ≡ None → IsOpen old
still-open old new refusal same e none = (
  none,
  elim (bool_cases old.done) [
    | inl done ↦ none_some new.refusal refusal (ap refusal_of (same (inr done)) ∙ none) e
    | inr still ↦ still
  ],
)

-- the answer follows what the receiver says at the end
pub finished-reads : (held left : Option (List ℕ)) (old new : Taking) (taken : ℕ) → HasRead held left old new taken
    → IsEnded left new → (IsClosed old → new ≡ old) → (result : Result Unit (Stop ChainReason))
    → IsFinished (IsChain new.ifs new.number new.max) (IsReason new.ifs new.number new.max) HasTaken refusal_of new
    result → OnOk result ((new.refusal ≡ None) × (new.done ≡ true))
    → IfErr result (λ stop. new.refusal ≡ None → (new.done ≡ false)
    × (stop ≡ Short (length new.joined + new.blocks * 4 + length new.under_way)))
    → Reads held left old new (answer_of result)
finished-reads held left old new taken h ended same (Ok done) f ok waits =
    ended-chain held left old new taken h ok.0 ok.1
finished-reads held left old new taken h ended same (Err (Short p)) f ok waits =
    elim (told new.refusal) [
      | inl none ↦ elim ended [
        | inl closed ↦ absurd (open-not-closed new (none, (waits none).0) closed)
        | inr more ↦ ended-short held left old new taken p h more.0 more.1
            (let e : Short p ≡ Short (length new.joined + new.blocks * 4 + length new.under_way) = (waits none).1 in cc)
      ]
      | inr some ↦ absurd (let e : Err (Short p) ≡ Err (At some.0.place some.0.reason) = f.repeated some.0 some.1 in cc)
    ]
finished-reads held left old new taken h ended same (Err (At p r)) f ok waits =
    λ none_before. elim (told new.refusal) [
      | inl none ↦ absurd (let e : At p r ≡ Short (length new.joined + new.blocks * 4 + length new.under_way) =
          (waits none).1 in cc)
      | inr some ↦
          let e : Err (At p r) ≡ Err (At some.0.place some.0.reason) = f.repeated some.0 some.1 in
          let place : some.0.place ≡ p = cc in
          let reason : some.0.reason ≡ r = cc in
          let refused = ended-refused held left old new taken some.0 h some.1
          (still-open old new some.0 same some.1 none_before) in
          subst (λ (k : ℕ). ReadsRefused held left old new k r) place
          (subst (λ (x : ChainReason). ReadsRefused held left old new some.0.place x) reason refused)
    ]

-- ---- the verdict on all that the source held

all-is : (t held left read : List ℕ) → held ≡ read ++ left → (t ++ read) ++ left ≡ t ++ held
all-is t held left read e = append_assoc t read left ∙ ap (λ (l : List ℕ). t ++ l) (sym e)

-- where a whole chain was read, all that the source held is accepted up to the end of the chain
pub all-accepted : (ifs max : ℕ) (number : Number) (t held left read : List ℕ) (v : List (List ℕ)) → held ≡ read ++ left
    → IsChain ifs number max v (t ++ read)
    → Accepts self_ended (IsChain ifs number max) (t ++ held) v (length (t ++ read))
all-accepted ifs max number t held left read v e h =
    subst (λ (b : List ℕ). Accepts self_ended (IsChain ifs number max) b v (length (t ++ read)))
    (all-is t held left read e) (spelled-accepted (IsChain ifs number max) v (t ++ read) left h)

-- where what was read is short and nothing is left, all that the source held is short
pub all-short : (ifs max : ℕ) (number : Number) (t held left read : List ℕ) (s : Stop ChainReason) → held ≡ read ++ left
    → left ≡ [] → Refuses self_ended (IsChain ifs number max) (IsReason ifs number max) (t ++ read) s
    → Refuses self_ended (IsChain ifs number max) (IsReason ifs number max) (t ++ held) s
all-short ifs max number t held left read s e end h =
    let is : held ≡ read = e ∙ ap (λ (l : List ℕ). read ++ l) end ∙ append-nil read in
    subst (λ (l : List ℕ). Refuses self_ended (IsChain ifs number max) (IsReason ifs number max) (t ++ l) s) (sym is) h

-- and where what was read is refused, so is all that the source held
pub all-refused : (ifs max : ℕ) (number : Number) (t held left read : List ℕ) (s : Stop ChainReason) → held ≡ read
    ++ left → RefusesAt self_ended (IsChain ifs number max) (IsReason ifs number max) (t ++ read) s
    → Refuses self_ended (IsChain ifs number max) (IsReason ifs number max) (t ++ held) s
all-refused ifs max number t held left read (Short p) e h = absurd h
all-refused ifs max number t held left read (At p r) e h =
    subst (λ (b : List ℕ). RefusesAt self_ended (IsChain ifs number max) (IsReason ifs number max) b (At p r))
    (all-is t held left read e)
    (refuses-append (IsChain ifs number max) (IsReason ifs number max) (t ++ read) left p r h)
