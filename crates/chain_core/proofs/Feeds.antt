-- What a receiver answers.
use Rattle.std.proofs.Common.{◌≡◌, ℕ, ◌+◌, ◌*◌, ◌≤◌, ◌++◌, ◌⊎◌, List, [], length, take, drop, refl, sym, ap, subst, ◌∙◌, arith, Bool, true, false, append_assoc, inl, inr, Option, Some, None, Result, Ok, Err, OnOk, IfErr}
use Rattle.std.proofs.lemmas.List.{append-nil, take-append-drop, take-append-le}
use Rattle.octet_core.specs.Grammar.{RefusesAt, self_ended}
use Rattle.octet_core.specs.Reader.{IsFed, IsFinished}
use Rattle.octet_core.specs.declared.stop.Refusal.{Refusal}
use Rattle.octet_core.specs.declared.stop.Stop.{Stop}
use Rattle.octet_core.specs.declared.stop.Stop.TheVariants.{At, Short}
use Rattle.octet_core.proofs.Lists.{never}
use Rattle.block_core.specs.declared.pcb.Number.{Number}
use Rattle.octet_core.proofs.Answered.{refuses-append}
use Rattle.chain_core.specs.declared.reason.ChainReason.{ChainReason}
use Rattle.chain_core.specs.Chain.{IsChain, IsReason, chain_block, message_of}
use Rattle.block_core.specs.Block as block
use Rattle.octet_core.proofs.Begun.{begins-front}
use Rattle.chain_core.proofs.Goes.{chain-begins}
use Rattle.chain_core.proofs.Unique.{one-spelled}
use Rattle.chain_core.specs.Taking.{Taking, HasTaken, AreTaken, AreBefore, IsOpen, IsClosed, nothing_taken, refusal_of}
use Rattle.chain_core.specs.Receiving.{Goes, Fed, fed_answer, answer_after, end_answer}
use Rattle.chain_core.specs.Lent.{IsFinishedHere}
use Rattle.chain_core.proofs.Taken.{done-spelled, length-taken}
use Rattle.chain_core.proofs.Receiving.{not-chain}

-- a truth value is true or false
pub bool_cases : (d : Bool) → (d ≡ true) ⊎ (d ≡ false)
bool_cases true = inl refl
bool_cases false = inr refl

-- equal options with values have the same value
pub some_is : {A : Type 0} (x y : A) → Some x ≡ Some y → x ≡ y
some_is x y e = cc

-- no option is empty and has a value
pub none_some : {P A : Type 0} (o : Option A) (x : A) → o ≡ None → o ≡ Some x → P
none_some o x e f = absurd (let bad : None ≡ Some x = sym e ∙ f in cc)

-- no octets change nothing
pub goes-none : (r : Taking) → Goes r r []
goes-none r = record {
  ifs = refl;
  number = refl;
  max = refl;
  on = λ none t h. subst (HasTaken r) (sym (append-nil t)) h;
  refused = λ refusal e t h. none_some r.refusal refusal h.kept e;
  before = λ refusal e t h. none_some r.refusal refusal h.kept e;
}

-- octets and then more
pub goes-then : (a b c : Taking) (p q : List ℕ) → Goes a b p → IsOpen b → Goes b c q → Goes a c (p ++ q)
goes-then a b c p q f waits g = record {
  ifs = g.ifs ∙ f.ifs;
  number = g.number ∙ f.number;
  max = g.max ∙ f.max;
  on = λ none t h. subst (HasTaken c) (append_assoc t p q) (g.on none (t ++ p) (f.on waits.0 t h));
  refused = λ refusal e t h.
      let S : ℕ → Number → ℕ → List ℕ → Type 0 =
      λ ifs number max l. RefusesAt self_ended (IsChain ifs number max) (IsReason ifs number max) l
      (At refusal.place refusal.reason) in
      let one : S b.ifs b.number b.max ((t ++ p) ++ q) = g.refused refusal e (t ++ p) (f.on waits.0 t h) in
      subst (S a.ifs a.number a.max) (append_assoc t p q)
      (subst (λ (m : ℕ). S a.ifs a.number m ((t ++ p) ++ q)) f.max
      (subst (λ (n : Number). S a.ifs n b.max ((t ++ p) ++ q)) f.number
      (subst (λ (i : ℕ). S i b.number b.max ((t ++ p) ++ q)) f.ifs one)));
  before = λ refusal e t h.
      subst (λ (n : Number). AreBefore n c.blocks c.joined (take refusal.place (t ++ (p ++ q)))) f.number
      (subst (λ (l : List ℕ). AreBefore b.number c.blocks c.joined (take refusal.place l)) (append_assoc t p q)
      (g.before refusal e (t ++ p) (f.on waits.0 t h)));
}

-- a receiver that takes more octets neither refused nor has a whole chain
pub open-not-closed : (r : Taking) → IsOpen r → IsClosed r → ⊥
open-not-closed r waits (inl some) = never (rw waits.0 at some)
open-not-closed r waits (inr done) = let bad : true ≡ false = sym done ∙ waits.1 in cc

-- a receiver that isn't done has taken no chain
pub not-spelled : (r : Taking) (t : List ℕ) → r.done ≡ false → HasTaken r t → (gs : List (List ℕ))
    → IsChain r.ifs r.number r.max gs t → ⊥
not-spelled r t still h gs g =
    let a = subst (λ (d : Bool). AreTaken d r.number h.fields r.under_way t) still h.taken in
    not-chain r.ifs r.max r.number h.fields r.under_way a.0 gs (subst (IsChain r.ifs r.number r.max gs) a.1 g)

-- a receiver that took a chain is done
pub full-done : (r : Taking) (t : List ℕ) (v : List (List ℕ)) → HasTaken r t → IsChain r.ifs r.number r.max v t
    → r.done ≡ true
full-done r t v h s =
    elim (bool_cases r.done) [
      | inl e ↦ e
      | inr still ↦ absurd (not-spelled r t still h v s)
    ]

-- with its message
pub chain-taken : (r : Taking) (t : List ℕ) (v : List (List ℕ)) → HasTaken r t → IsChain r.ifs r.number r.max v t
    → (r.done ≡ true) × (r.joined ≡ message_of v)
chain-taken r t v h s =
    let done = full-done r t v h s in
    let same = one-spelled r.ifs r.ifs r.max r.max r.number h.fields v t [] (done-spelled r t h done)
    (subst (IsChain r.ifs r.number r.max v) (sym (append-nil t)) s) in
    (done, sym h.joined ∙ ap message_of same.0)

-- and stays as it was
full-same : (old new : Taking) (piece : List ℕ) (n : ℕ) → Fed old new piece n → (t : List ℕ) (v : List (List ℕ))
    → HasTaken old t → IsChain old.ifs old.number old.max v t → (new ≡ old) × (n ≡ 0)
full-same old new piece n f t v h s = f.closed (inr (full-done old t v h s))

-- a chain under the conditions of the new receiver is one under those of the old one, where they are the same
pub chain-at : (old new : Taking) (gs : List (List ℕ)) (t : List ℕ) → new.ifs ≡ old.ifs → new.number ≡ old.number
    → new.max ≡ old.max → IsChain new.ifs new.number new.max gs t → IsChain old.ifs old.number old.max gs t
chain-at old new gs t e f g h =
    subst (λ (m : ℕ). IsChain old.ifs old.number m gs t) g
    (subst (λ (n : Number). IsChain old.ifs n new.max gs t) f
    (subst (λ (i : ℕ). IsChain i new.number new.max gs t) e h))

free-by : (old new : Taking) (piece : List ℕ) (n : ℕ) (o : Option (Refusal ChainReason)) → old.refusal ≡ o
    → Fed old new piece n → new.refusal ≡ None → o ≡ None
free-by old new piece n None e f none = refl
free-by old new piece n (Some refusal) e f none =
    none_some new.refusal refusal none (ap refusal_of (f.closed (inl (rw e refl))).0 ∙ e)

-- one that refused nothing over a piece has taken some octets, where it had before
pub fed-taken : (old new : Taking) (piece : List ℕ) (n : ℕ) → Fed old new piece n
    → (old.refusal ≡ None → (t : List ℕ) × HasTaken old t) → new.refusal ≡ None → (t : List ℕ) × HasTaken new t
fed-taken old new piece n f some none =
    let before = some (free-by old new piece n old.refusal refl f none) in
    (before.0 ++ take n piece, f.goes.on none before.0 before.1)

-- a receiver that refuses nothing answers how many octets it took, and whether the chain is whole
pub fed-on : (old new : Taking) (piece : List ℕ) (n : ℕ) → Fed old new piece n → new.refusal ≡ None
    → IsFed (IsChain old.ifs old.number old.max) (IsReason old.ifs old.number old.max) HasTaken refusal_of old new piece
    (Ok (n, new.done))
fed-on old new piece n f none = record {
  taken = (f.inside, λ t h. f.goes.on none t h);
  done = λ t h.
      let taken : HasTaken new (t ++ take n piece) = f.goes.on none t h in (
        λ e. (
          taken.fields,
          chain-at old new taken.fields (t ++ take n piece) f.goes.ifs f.goes.number f.goes.max
              (done-spelled new (t ++ take n piece) taken e),
        ),
        λ v. full-done new (t ++ take n piece) v.0 taken
            (chain-at new old v.0 (t ++ take n piece) (sym f.goes.ifs) (sym f.goes.number) (sym f.goes.max) v.1),
      );
  whole = λ still. elim f.exit [
    | inl le ↦ omega (arith, f.inside)
    | inr closed ↦ absurd (open-not-closed new (none, still) closed)
  ];
  refused = tt;
  kept = tt;
  repeated = λ refusal e.
      let same = (f.closed (inl (rw e refl))).0 in
      none_some new.refusal refusal none (ap refusal_of same ∙ e);
  full = λ t v h s. let same = full-same old new piece n f t v h s in
      (λ i. Ok (same.1 i, (ap (λ (r : Taking). r.done) same.0 ∙ full-done old t v h s) i), same.0);
}

-- and one that keeps a refusal answers with that
pub fed-refused : (old new : Taking) (piece : List ℕ) (n : ℕ) (refusal : Refusal ChainReason) → Fed old new piece n
    → new.refusal ≡ Some refusal
    → IsFed (IsChain old.ifs old.number old.max) (IsReason old.ifs old.number old.max) HasTaken refusal_of old new piece
    (Err (At refusal.place refusal.reason))
fed-refused old new piece n refusal f some = record {
  taken = tt;
  done = tt;
  whole = tt;
  refused = λ t h.
      let parts : (t ++ take n piece) ++ drop n piece ≡ t ++ piece =
      append_assoc t (take n piece) (drop n piece) ∙ ap (λ (l : List ℕ). t ++ l) (take-append-drop n piece) in
      subst (λ (b : List ℕ). RefusesAt self_ended (IsChain old.ifs old.number old.max)
      (IsReason old.ifs old.number old.max) b (At refusal.place refusal.reason)) parts
      (refuses-append (IsChain old.ifs old.number old.max) (IsReason old.ifs old.number old.max) (t ++ take n piece)
      (drop n piece) refusal.place refusal.reason (f.goes.refused refusal some t h));
  kept = (refusal, some, refl);
  full = λ t v h s. none_some old.refusal refusal h.kept
      (ap refusal_of (sym (full-same old new piece n f t v h s).0) ∙ some);
  repeated = λ other e.
      let same = (f.closed (inl (rw e refl))).0 in
      let one : refusal ≡ other = some_is refusal other (sym some ∙ ap refusal_of same ∙ e) in
      (ap (λ (x : Refusal ChainReason). Err (At x.place x.reason)) one, same);
}

fed-by : (old new : Taking) (piece : List ℕ) (n : ℕ) (o : Option (Refusal ChainReason)) → Fed old new piece n
    → new.refusal ≡ o → IsFed (IsChain old.ifs old.number old.max) (IsReason old.ifs old.number old.max) HasTaken
    refusal_of old new piece (fed_answer o new.done n)
fed-by old new piece n None f e = fed-on old new piece n f e
fed-by old new piece n (Some refusal) f e = fed-refused old new piece n refusal f e

-- so what it answers by what it keeps is right, of all octets that it may have taken
pub fed-answered : (old new : Taking) (piece : List ℕ) (n : ℕ) (result : Result (ℕ × Bool) (Stop ChainReason))
    → Fed old new piece n → result ≡ fed_answer new.refusal new.done n
    → IsFed (IsChain old.ifs old.number old.max) (IsReason old.ifs old.number old.max) HasTaken refusal_of old new piece
    result
fed-answered old new piece n result f e =
    subst (IsFed (IsChain old.ifs old.number old.max) (IsReason old.ifs old.number old.max) HasTaken refusal_of old new
    piece) (sym e) (fed-by old new piece n new.refusal f refl)

-- the octets before the refused one, where the piece goes on after those that were taken
pub before-all : (old new : Taking) (piece : List ℕ) (n : ℕ) (refusal : Refusal ChainReason) → Fed old new piece n
    → new.refusal ≡ Some refusal → (t : List ℕ) → HasTaken old t
    → AreBefore old.number new.blocks new.joined (take refusal.place (t ++ piece))
before-all old new piece n refusal f some t h =
    let some_octets : List ℕ = t ++ take n piece in
    let all : some_octets ++ drop n piece ≡ t ++ piece =
    append_assoc t (take n piece) (drop n piece) ∙ ap (λ (l : List ℕ). t ++ l) (take-append-drop n piece) in
    let inside : refusal.place ≤ length some_octets = omega (arith, ((f.goes.refused refusal some t h).0).inside) in
    subst (AreBefore old.number new.blocks new.joined)
    (sym (take-append-le refusal.place some_octets (drop n piece) inside) ∙ ap (take refusal.place) all)
    (f.goes.before refusal some t h)

-- ---- the end

-- what there is to say when no more octets come
pub record Says (r : Taking) (result : Result Unit (Stop ChainReason)) : Type 0 where
  pub here : IsFinishedHere r result
  pub done : OnOk result ((r.refusal ≡ None) × (r.done ≡ true))
  pub waits : IfErr result (λ stop. r.refusal ≡ None → (r.done ≡ false)
      × (stop ≡ Short (length r.joined + r.blocks * 4 + length r.under_way)))

pub says-by : (r : Taking) (o : Option (Refusal ChainReason)) (d : Bool) → r.refusal ≡ o → r.done ≡ d
    → Says r (answer_after o d (length r.joined + r.blocks * 4 + length r.under_way))
says-by r (Some refusal) d e f = record {
  here = record {
    done = tt;
    short = λ none. none_some r.refusal refusal none e;
    repeated = λ other g. ap (λ (x : Refusal ChainReason). Err (At x.place x.reason))
        (some_is refusal other (sym e ∙ g));
  };
  done = tt;
  waits = λ none. none_some r.refusal refusal none e;
}
says-by r None true e f = record {
  here = record {
    done = λ t h. (h.fields, done-spelled r t h f);
    short = tt;
    repeated = λ refusal g. none_some r.refusal refusal e g;
  };
  done = (e, f);
  waits = tt;
}
says-by r None false e f = record {
  here = record {
    done = tt;
    short = λ none t h. (ap Short (sym (length-taken r t h)), not-spelled r t f h);
    repeated = λ refusal g. none_some r.refusal refusal e g;
  };
  done = tt;
  waits = λ none. (f, refl);
}

-- what it answers by what it keeps is that
pub says : (r : Taking) (result : Result Unit (Stop ChainReason)) → result ≡ end_answer r → Says r result
says r result e = subst (Says r) (sym e) (says-by r r.refusal r.done refl refl)

-- which is what a reader says there, where some octets may have been taken
pub ended-finished : (r : Taking) (result : Result Unit (Stop ChainReason)) → result ≡ end_answer r
    → (r.refusal ≡ None → (t : List ℕ) × HasTaken r t)
    → IsFinished (IsChain r.ifs r.number r.max) (IsReason r.ifs r.number r.max) HasTaken refusal_of r result
ended-finished r result e some =
    let here = (says r result e).here in
    record { done = here.done; short = here.short; repeated = here.repeated; some_taken = some }

-- ---- a new receiver has taken no octets

-- the empty list begins a chain, and a new receiver has taken it
pub taken-fresh : (ifs : ℕ) (number : Number) (max : ℕ) → HasTaken (nothing_taken ifs number max) []
taken-fresh ifs number max = record {
  kept = refl;
  begun = begins-front (IsChain ifs number max) [] (block.spelling (chain_block number false []))
      (chain-begins ifs number max [] false [] (record { sizes = tt; octets = λ i. omega arith }) (omega arith)
      (omega arith) (λ i. omega arith) (omega arith));
  fields = [];
  blocks = refl;
  joined = refl;
  taken = (λ lt. absurd (omega arith), refl);
}
