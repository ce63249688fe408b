-- What octets give as an answer to reset, by the verdict on them.
use Rattle.std.proofs.Common.{◌≡◌, ◌≢◌, ◌⊎◌, ◌<◌, ℕ, List, length, take, sym, ◌∙◌, ap, subst, inl, inr, refl, arith, codes, Option, Result, Err}
use Rattle.std.proofs.lemmas.Bool.{cases_order}
use Rattle.std.proofs.Math.Seq.{take-length}
use Rattle.octet_core.specs.Grammar.{self_ended, Accepts, Refuses, OneVerdict}
use Rattle.octet_core.specs.declared.stop.Stop.{Stop}
use Rattle.octet_core.specs.declared.stop.Stop.TheVariants.{Short, At}
use Rattle.atr_core.specs.declared.reason.AtrReason.{AtrReason}
use Rattle.atr_core.specs.Atr.{AtrParts, IsAtr, IsReason}
use Rattle.atr_core.specs.T1.{t1_params_of}
use Rattle.exchange_text.specs.declared.line.Line.{Line}
use Rattle.block_core.specs.declared.side.Side.{Side}
use Rattle.exchange_core.specs.Replay.{IsFound, Replays, size_of, replay_from}

-- what is accepted is one value and one length
abbrev pub OneAccepted : Type 0
OneAccepted = (b : List ℕ) (v w : AtrParts) (n m : ℕ)
    → Accepts self_ended IsAtr b v n → Accepts self_ended IsAtr b w m → (v ≡ w) × (n ≡ m)

-- octets that spell an answer are accepted whole
pub accepted-whole : (atr : List ℕ) (a : AtrParts) → IsAtr a atr → Accepts self_ended IsAtr atr a (length atr)
accepted-whole atr a is = (omega arith, subst (IsAtr a) (sym (take-length atr)) is)

-- refused octets spell none
pub refused-found : (atr : List ℕ) (stop : Stop AtrReason)
    → Refuses self_ended IsAtr IsReason atr stop → IsFound atr (Err (codes "BadAtr"))
refused-found atr (Short place) h = inr ((λ a is. h.none a (length atr) (accepted-whole atr a is)), refl)
refused-found atr (At place reason) h = inr ((λ a is. h.0.none a (length atr) (accepted-whole atr a is)), refl)

-- nor do octets that begin with an answer and go on
pub longer-found : (atr : List ℕ) (v : AtrParts) (n : ℕ)
    → OneAccepted → Accepts self_ended IsAtr atr v n → n ≢ length atr → IsFound atr (Err (codes "BadAtr"))
longer-found atr v n one accepted left =
    inr ((λ a is. left (one atr v a n (length atr) accepted (accepted-whole atr a is)).1), refl)

-- ---- one thing is found

-- what an ATR gives for a replay is one thing
pub one-found : OneAccepted → (atr : List ℕ) (x y : Result ℕ (List ℕ)) → IsFound atr x → IsFound atr y → x ≡ y
one-found one atr x y (inl (a, is, e)) (inl (b, also, f)) =
    let whole = accepted-whole atr in
    let same : a ≡ b = (one atr a b (length atr) (length atr) (whole a is) (whole b also)).0 in
    e ∙ (ap (λ (v : AtrParts). size_of (t1_params_of v)) same ∙ sym f)
one-found one atr x y (inl (a, is, e)) (inr (none, f)) = absurd (none a is)
one-found one atr x y (inr (none, e)) (inl (b, also, f)) = absurd (none b also)
one-found one atr x y (inr (none, e)) (inr (also, f)) = e ∙ sym f

-- so a replay has one outcome
pub one-replay : OneAccepted → (atr : List ℕ) (lines : List Line) (side : Side) (a b : Option (ℕ × List ℕ))
    → Replays atr lines side a → Replays atr lines side b → a ≡ b
one-replay one atr lines side a b x y =
    let same : x.found ≡ y.found = one-found one atr x.found y.found x.is_found y.is_found in
    sym x.is ∙ (ap (λ (found : Result ℕ (List ℕ)). replay_from found lines side) same ∙ y.is)

accepted-found : OneAccepted → (atr : List ℕ) (v : AtrParts) (n : ℕ) → Accepts self_ended IsAtr atr v n
    → (n ≡ length atr) ⊎ ((n < length atr) ⊎ (length atr < n)) → (found : Result ℕ (List ℕ)) × IsFound atr found
accepted-found one atr v n accepted (inl whole) =
    let all : take n atr ≡ atr = ap (λ (k : ℕ). take k atr) whole ∙ take-length atr in
    (size_of (t1_params_of v), inl (v, subst (IsAtr v) all accepted.1, refl))
accepted-found one atr v n accepted (inr (inl shorter)) =
    (Err (codes "BadAtr"), longer-found atr v n one accepted (omega arith))
accepted-found one atr v n accepted (inr (inr longer)) =
    (Err (codes "BadAtr"), longer-found atr v n one accepted (omega arith))

-- whatever the verdict on an ATR, it gives something for a replay
pub verdict-found : OneAccepted → (atr : List ℕ)
    → ((v : AtrParts) × (n : ℕ) × Accepts self_ended IsAtr atr v n)
    ⊎ ((stop : Stop AtrReason) × Refuses self_ended IsAtr IsReason atr stop)
    → (found : Result ℕ (List ℕ)) × IsFound atr found
verdict-found one atr (inl (v, n, accepted)) = accepted-found one atr v n accepted (cases_order n (length atr))
verdict-found one atr (inr (stop, refuses)) = (Err (codes "BadAtr"), refused-found atr stop refuses)

-- so a replay has an outcome
pub some-replay : OneAccepted → (atr : List ℕ) (lines : List Line) (side : Side)
    → OneVerdict self_ended IsAtr IsReason atr
    → (difference : Option (ℕ × List ℕ)) × Replays atr lines side difference
some-replay one atr lines side verdict =
    let found : (found : Result ℕ (List ℕ)) × IsFound atr found = verdict-found one atr verdict.some in
    (replay_from found.0 lines side, record { found = found.0; is_found = found.1; is = refl })
