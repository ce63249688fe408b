-- What a reader of blocks has taken, and what it answers.
use Rattle.std.proofs.Common.{◌≡◌, ℕ, ◌+◌, ◌≤◌, ◌⊎◌, inl, inr, List, [], ◌∷◌, ◌++◌, length, take, drop, get_or, bit_xor, refl, sym, ap, subst, ◌∙◌, arith, append_assoc, Bool, true, false, Some, None, Result, Ok, Err}
use Rattle.std.specs.Int.Bits.{xor_assoc, xor_zero_l, xor_zero_r}
use Rattle.std.specs.List.{fold}
use Rattle.std.proofs.lemmas.List.{take-append-drop}
use Rattle.std.proofs.lemmas.List.Sums.{fold-append}
use Rattle.std.proofs.Math.Seq.{take-length}
use Rattle.octet_core.specs.Octets.{AreOctets, xor_of}
use Rattle.octet_core.specs.Grammar.{self_ended, Begins, IsShort, RefusesAt}
use Rattle.octet_core.specs.Reader.{IsFed, IsFinished}
use Rattle.octet_core.specs.declared.stop.Refusal.{Refusal}
use Rattle.octet_core.specs.declared.stop.Stop.{Stop}
use Rattle.octet_core.specs.declared.stop.Stop.TheVariants.{At, Short}
use Rattle.octet_core.proofs.Answered.{short-of, refuses-append}
use Rattle.octet_core.proofs.Begun.{spelled-begins}
use Rattle.octet_core.proofs.Lists.{never}
use Rattle.block_core.specs.Block.{Parts, IsBlock, IsReason}
use Rattle.block_core.specs.Taking.{Taking, HasTaken, IsOpen, IsClosed, nothing_taken, refusal_of}
use Rattle.block_core.specs.Stage.{IsAt, refusal_at, answer_of}
use Rattle.block_core.specs.declared.reason.BlockReason.{BlockReason}
use Rattle.block_core.specs.declared.stage.Stage.{Stage}
use Rattle.block_core.specs.declared.stage.Stage.TheVariants.{Front, Len, Size, Rest, Done, Refused}
use Rattle.block_core.proofs.Blocks.{spelling-len, begun-lt2, begun-two, begun-all, one-accepted}

some_is : {A : Type 0} (x y : A) → Some x ≡ Some y → x ≡ y
some_is x y e = cc

-- ---- the exclusive-or of octets that come in pieces

xor-from : (sum : ℕ) (b : List ℕ) → fold bit_xor sum b ≡ bit_xor sum (xor_of b)
xor-from sum [] = sym (xor_zero_r sum)
xor-from sum (x ∷ b) =
    xor-from (bit_xor sum x) b ∙ xor_assoc sum x (xor_of b)
    ∙ ap (bit_xor sum) (ap (λ (y : ℕ). bit_xor y (xor_of b)) (sym (xor_zero_l x)) ∙ sym (xor-from (bit_xor 0 x) b))

-- the sum of joined lists is the exclusive-or of their sums
pub xor-more : (sum more : ℕ) (a b : List ℕ) → sum ≡ xor_of a → more ≡ xor_of b → bit_xor sum more ≡ xor_of (a ++ b)
xor-more sum more a b e f =
    ap (λ (x : ℕ). bit_xor x more) e ∙ ap (bit_xor (xor_of a)) f
    ∙ sym (fold-append bit_xor 0 a b ∙ xor-from (xor_of a) b)

-- ---- by stages

spelled-len : (ifs : ℕ) (v : Parts) (b : List ℕ) → IsBlock ifs v b → length b ≡ get_or b 2 0 + 4
spelled-len ifs v b h = omega (arith, ap length h.is, spelling-len v, ap (λ (l : List ℕ). get_or l 2 0) h.is)

-- what a reader holds begins a block, at each stage without a refusal
pub at-begins : (ifs : ℕ) (stage : Stage) (b : List ℕ) → AreOctets b → IsAt ifs stage b → refusal_at stage ≡ None
    → Begins (IsBlock ifs) b
at-begins ifs Front b octets at none = begun-lt2 ifs b octets at
at-begins ifs (Len p) b octets at none = subst (Begins (IsBlock ifs))
    (ap (λ (k : ℕ). take k b) (sym at.0) ∙ take-length b) (begun-two ifs p b octets (omega arith) at.1)
at-begins ifs (Size p) b octets at none =
    begun-all ifs p b octets (omega arith) (omega arith) at.1.kind at.1.fits (λ about lt. absurd (omega arith))
at-begins ifs (Rest p end) b octets at none =
    begun-all ifs p b octets (omega arith) (omega arith) at.3.kind at.3.fits (λ about lt. at.5 about)
at-begins ifs (Done block) b octets at none = spelled-begins (IsBlock ifs) block b at
at-begins ifs (Refused refusal) b octets at none = absurd (cc)

-- the stages of a block under way
abbrev IsUnderWay : Stage → Type 0
IsUnderWay stage = answer_of stage ≡ Ok false

under-way-open : (ifs : ℕ) (stage : Stage) (b : List ℕ) → IsAt ifs stage b → IsUnderWay stage
    → (v : Parts) → IsBlock ifs v b → ⊥
under-way-open ifs Front b at e v h = omega (arith, spelled-len ifs v b h)
under-way-open ifs (Len p) b at e v h = omega (arith, spelled-len ifs v b h)
under-way-open ifs (Size p) b at e v h = omega (arith, spelled-len ifs v b h)
under-way-open ifs (Rest p end) b at e v h = omega (arith, spelled-len ifs v b h)
under-way-open ifs (Done block) b at e v h = cc
under-way-open ifs (Refused refusal) b at e v h = cc

under-way-free : (stage : Stage) → IsUnderWay stage → refusal_at stage ≡ None
under-way-free Front e = refl
under-way-free (Len p) e = refl
under-way-free (Size p) e = refl
under-way-free (Rest p end) e = refl
under-way-free (Done block) e = refl
under-way-free (Refused refusal) e = cc

-- octets that leave a block under way are short at their end
pub short-under-way : (ifs : ℕ) (stage : Stage) (b : List ℕ) → AreOctets b → IsAt ifs stage b → IsUnderWay stage
    → IsShort self_ended (IsBlock ifs) b (length b)
short-under-way ifs stage b octets at way =
    short-of (IsBlock ifs) (one-accepted ifs ifs) b (at-begins ifs stage b octets at (under-way-free stage way))
    (under-way-open ifs stage b at way)

-- what a reader of a block under way says when no more octets come
pub finished-short : (ifs : ℕ) (held : List ℕ) (stage : Stage) (r : Taking)
    → record { ifs = ifs; taken = held; refusal = refusal_at stage } ≡ r → AreOctets held → IsAt ifs stage held
    → answer_of stage ≡ Ok false → IsFinished (IsBlock r.ifs) (IsReason r.ifs) HasTaken refusal_of r
    (Err (Short (length held)))
finished-short ifs held stage r is octets at way =
    let own : Taking = record { ifs = ifs; taken = held; refusal = refusal_at stage } in
    let free : own.refusal ≡ None = under-way-free stage way in
    subst (λ (s : Taking). IsFinished (IsBlock s.ifs) (IsReason s.ifs) HasTaken refusal_of s
    (Err (Short (length held)))) is (record {
      done = tt;
      short = λ e t h. (
        ap Short (ap length h.is),
        λ v g. under-way-open ifs stage held at way v (subst (IsBlock ifs v) (sym h.is) g),
      );
      repeated = λ refusal e. absurd (let bad : None ≡ Some refusal = sym free ∙ e in cc);
      some_taken = λ e. (held, record { kept = free; is = refl; begun = at-begins ifs stage held octets at free });
    })

-- what a reader answers at a stage, after n octets of the piece
abbrev pub with_count : ℕ → Result Bool (Stop BlockReason) → Result (ℕ × Bool) (Stop BlockReason)
with_count n (Ok done) = Ok (n, done)
with_count n (Err stop) = Err stop

-- what a feed knows when it answers
pub record Fed (stage : Stage) (old new : Taking) (piece : List ℕ) (n : ℕ) : Type 0 where
  pub octets : AreOctets new.taken
  pub at : IsAt new.ifs stage new.taken
  pub refusal : refusal_at stage ≡ new.refusal
  pub inside : n ≤ length piece
  pub taken : new.taken ≡ old.taken ++ take n piece
  pub closed : IsClosed old → (new ≡ old) × (n ≡ 0)
  pub exit : (length piece ≤ n) ⊎ IsClosed new
  pub size : new.ifs ≡ old.ifs

-- where it had a whole block, it stays as it was
full-same : (stage : Stage) (old new : Taking) (piece : List ℕ) (n : ℕ) → Fed stage old new piece n
    → (t : List ℕ) (v : Parts) → HasTaken old t → IsBlock new.ifs v t → (new ≡ old) × (n ≡ 0)
full-same stage old new piece n f t v h s =
    f.closed (inr (v, subst (IsBlock old.ifs v) (sym h.is) (subst (λ (ifs : ℕ). IsBlock ifs v t) f.size s)))

has-taken : (stage : Stage) (old new : Taking) (piece : List ℕ) (n : ℕ) → Fed stage old new piece n
    → refusal_at stage ≡ None → (t : List ℕ) → HasTaken old t → HasTaken new (t ++ take n piece)
has-taken stage old new piece n f none t h =
    let is : new.taken ≡ t ++ take n piece = f.taken ∙ ap (λ (l : List ℕ). l ++ take n piece) h.is in
    record {
      kept = sym f.refusal ∙ none;
      is = is;
      begun = subst (Begins (IsBlock new.ifs)) is (at-begins new.ifs stage new.taken f.octets f.at none);
    }

-- it kept no refusal, so it repeats none
none-kept : {P : Type 0} (stage : Stage) (old new : Taking) (piece : List ℕ) (n : ℕ) → Fed stage old new piece n
    → refusal_at stage ≡ None → (r : Refusal BlockReason) → old.refusal ≡ Some r → P
none-kept stage old new piece n f none r e =
    let same = (f.closed (inl (rw e refl))).0 in
    absurd (let bad : None ≡ Some r = sym none ∙ f.refusal ∙ ap refusal_of same ∙ e in cc)

fed-under_way : (stage : Stage) (old new : Taking) (piece : List ℕ) (n : ℕ) → Fed stage old new piece n
    → IsUnderWay stage → refusal_at stage ≡ None
    → IsFed (IsBlock new.ifs) (IsReason new.ifs) HasTaken refusal_of old new piece (Ok (n, false))
fed-under_way stage old new piece n f way none =
    let not_yet = under-way-open new.ifs stage new.taken f.at way in
    record {
      taken = (f.inside, has-taken stage old new piece n f none);
      done = λ t h. (
        λ e. never e,
        λ v. absurd
            (not_yet v.0 (subst (IsBlock new.ifs v.0) (sym (has-taken stage old new piece n f none t h).is) v.1)),
      );
      whole = λ e. elim f.exit [
        | inl le ↦ omega (arith, f.inside)
        | inr closed ↦ elim closed [
          | inl some ↦ never (rw (sym f.refusal ∙ none) at some)
          | inr v ↦ absurd (not_yet v.0 v.1)
        ]
      ];
      refused = tt;
      kept = tt;
      full = λ t v h s.
          let same = (full-same stage old new piece n f t v h s).0 in
          absurd (not_yet v (subst (IsBlock new.ifs v) (sym (ap (λ (r : Taking). r.taken) same ∙ h.is)) s));
      repeated = λ r e. none-kept stage old new piece n f none r e;
    }

-- a feed that knows this may answer what its stage says, after so many octets of the piece
pub fed : (stage : Stage) (old new : Taking) (piece : List ℕ) (n : ℕ) → Fed stage old new piece n
    → IsFed (IsBlock new.ifs) (IsReason new.ifs) HasTaken refusal_of old new piece (with_count n (answer_of stage))
fed Front old new piece n f = fed-under_way Front old new piece n f refl refl
fed (Len p) old new piece n f = fed-under_way (Len p) old new piece n f refl refl
fed (Size p) old new piece n f = fed-under_way (Size p) old new piece n f refl refl
fed (Rest p end) old new piece n f = fed-under_way (Rest p end) old new piece n f refl refl
fed (Done block) old new piece n f =
    record {
      taken = (f.inside, has-taken (Done block) old new piece n f refl);
      done = λ t h. (
        λ e. (
          block,
          subst (IsBlock new.ifs block) (has-taken (Done block) old new piece n f refl t h).is f.at,
        ),
        λ v. refl,
      );
      whole = λ e. absurd (cc);
      refused = tt;
      kept = tt;
      full = λ t v h s. let same = full-same (Done block) old new piece n f t v h s in
          (ap (λ (k : ℕ). Ok (k, true)) same.1, same.0);
      repeated = λ r e. none-kept (Done block) old new piece n f refl r e;
    }
fed (Refused refusal) old new piece n f =
    record {
      taken = tt;
      done = tt;
      whole = tt;
      refused = λ t h.
          let parts : new.taken ++ drop n piece ≡ t ++ piece =
          ap (λ (l : List ℕ). l ++ drop n piece) (f.taken ∙ ap (λ (l : List ℕ). l ++ take n piece) h.is)
          ∙ append_assoc t (take n piece) (drop n piece) ∙ ap (λ (l : List ℕ). t ++ l) (take-append-drop n piece) in
          subst (λ (b : List ℕ). RefusesAt self_ended (IsBlock new.ifs) (IsReason new.ifs) b
          (At refusal.place refusal.reason)) parts
          (refuses-append (IsBlock new.ifs) (IsReason new.ifs) new.taken (drop n piece) refusal.place refusal.reason
          f.at);
      kept = (refusal, sym f.refusal, refl);
      full = λ t v h s.
          let same = (full-same (Refused refusal) old new piece n f t v h s).0 in
          absurd (let bad : Some refusal ≡ None = f.refusal ∙ ap refusal_of same ∙ h.kept in cc);
      repeated = λ r e.
          let same = (f.closed (inl (rw e refl))).0 in
          let both : Some refusal ≡ Some r = f.refusal ∙ ap refusal_of same ∙ e in
          let one : refusal ≡ r = some_is refusal r both in
          (ap (λ (x : Refusal BlockReason). Err (At x.place x.reason)) one, same);
    }

-- ---- on and on

-- a reader that takes more octets has no refusal and no whole block
pub open-not-closed : (r : Taking) → IsOpen r → IsClosed r → ⊥
open-not-closed r waits (inl some) = never (rw waits.0 at some)
open-not-closed r waits (inr v) = waits.1 v.0 v.1

-- what a feed knows, from the fields that it leaves
pub fed-of : (ifs : ℕ) (held : List ℕ) (stage : Stage) (old new : Taking) (piece : List ℕ) (n : ℕ)
    → record { ifs = ifs; taken = held; refusal = refusal_at stage } ≡ new → AreOctets held → IsAt ifs stage held
    → n ≤ length piece → new.taken ≡ old.taken ++ take n piece → (IsClosed old → (new ≡ old) × (n ≡ 0))
    → (length piece ≤ n) ⊎ IsClosed new → new.ifs ≡ old.ifs → Fed stage old new piece n
fed-of ifs held stage old new piece n is octets at inside taken closed exit size =
    record {
      octets = subst AreOctets (ap (λ (r : Taking). r.taken) is) octets;
      at = subst (λ (r : Taking). IsAt r.ifs stage r.taken) is at;
      refusal = ap refusal_of is;
      inside = inside;
      taken = taken;
      closed = closed;
      exit = exit;
      size = size;
    }

-- the same by the information size that the reader had before
pub fed-answered : (stage : Stage) (old new : Taking) (piece : List ℕ) (n : ℕ)
    (answer : Result Bool (Stop BlockReason)) → Fed stage old new piece n → answer ≡ answer_of stage
    → IsFed (IsBlock old.ifs) (IsReason old.ifs) HasTaken refusal_of old new piece (with_count n answer)
fed-answered stage old new piece n answer f e =
    subst (λ (ifs : ℕ). IsFed (IsBlock ifs) (IsReason ifs) HasTaken refusal_of old new piece (with_count n answer))
    f.size
    (subst (λ (a : Result Bool (Stop BlockReason)).
    IsFed (IsBlock new.ifs) (IsReason new.ifs) HasTaken refusal_of old new piece (with_count n a)) (sym e)
    (fed stage old new piece n f))

-- a new reader may have taken no octets
pub fresh-taken : (ifs : ℕ) → HasTaken (nothing_taken ifs) []
fresh-taken ifs = record { kept = refl; is = refl; begun = begun-lt2 ifs [] (λ i. omega arith) (omega arith) }

-- a reader has taken one list of octets only
pub one-taken : (r : Taking) (t u : List ℕ) → HasTaken r t → HasTaken r u → t ≡ u
one-taken r t u h g = sym h.is ∙ g.is
