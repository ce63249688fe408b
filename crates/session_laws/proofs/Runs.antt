-- The turns of a loop, from what its calls ensure.
use Rattle.std.proofs.Common.{◌≡◌, ◌≤◌, ◌+◌, ℕ, zero, suc, List, [], ◌∷◌, ◌++◌, length, take, min, true, Result, Ok, Err, IfOk, IfErr, refl, sym, subst, arith}
use Rattle.std.specs.declared.io.Error.{Error}
use Rattle.std.proofs.lemmas.List.{append-nil, append_assoc, take_min, length-take-le}
use Rattle.session_core.specs.declared.action.Action.TheVariants as action
use Rattle.line_core.specs.Timed.{Sound, Sounds, came, deaf, said, unsaid}
use Rattle.line_core.specs.Bursts.{HasHeard}
use Rattle.session_core.specs.declared.action.Action.{Action}
use Rattle.session_core.specs.Wire.{ruled, seen, forever}
use Rattle.session_core.specs.Lines.{stepped}
use Rattle.session_core.specs.Terminals.{IsStepped}
use Rattle.session_laws.specs.Running.{Standing, event_of, octets_of, sent_in, silent_in, IsAsked, IsTurn, spoken_by, none, more, Gone}
use Rattle.session_laws.specs.Ending.{goes, sends, waited_by}
use Rattle.session_laws.specs.Talking.{Spoken}

-- what holds of a result by what two clauses say of it, or by one
pub ok-by : {T E : Type 0} (P Q R : T → Type 0) (r : Result T E) → ((x : T) → P x → Q x → R x) → IfOk r P → IfOk r Q
    → IfOk r R
ok-by P Q R (Ok x) f p q = f x p q
ok-by P Q R (Err fault) f p q = tt

pub err-by : {T E : Type 0} (P Q : E → Type 0) (r : Result T E) → ((fault : E) → P fault → Q fault) → IfErr r P
    → IfErr r Q
err-by P Q (Ok x) f p = tt
err-by P Q (Err fault) f p = f fault p

pub no-sounds : {A : Type 0} (heard : A → List Sound → Type 0) → Sounds heard heard []
no-sounds heard first before h = subst (heard first) (sym (append-nil before)) h

pub then-sounds : {A : Type 0} (old now new : A → List Sound → Type 0) (sounds after : List Sound)
    → Sounds old now sounds → Sounds now new after → Sounds old new (sounds ++ after)
then-sounds old now new sounds after f g first before h =
    subst (new first) (append_assoc before sounds after) (g first (before ++ sounds) (f first before h))

pub none-gone : {A : Type 0} (heard : A → List Sound → Type 0) (first : Standing) → Gone heard heard first [] first 0 0
none-gone heard first = record {
  sounds = [];
  adds = no-sounds heard;
  turns = none;
  blocks_are = refl;
  waited_is = refl;
}

pub turn-of : (before : Standing) (sound : Sound) (after : Standing) (event : ℕ) (octets burst : List ℕ)
    → IsAsked before.next before.out sound → goes before.next ≡ true → event ≡ event_of sound
    → octets ≡ octets_of sound → HasHeard before.line.framer burst
    → IsStepped (stepped event (ruled before.line.rules) (seen before.line.progress) burst octets 0
    (take before.own before.out)).next
    (stepped event (ruled before.line.rules) (seen before.line.progress) burst octets 0 (take before.own before.out))
    before.line.rules before.terminal 0 after.terminal after.line before.own after.own before.out after.out
    (Ok after.next)
    → IsTurn before sound after
turn-of before sound after event octets burst asked on is same heard h = record {
  asked = asked;
  goes_on = on;
  burst = burst;
  heard = heard;
  stepped_so = subst (λ (o : List ℕ). IsStepped (stepped (event_of sound) (ruled before.line.rules)
      (seen before.line.progress) burst o 0 (take before.own before.out)).next
      (stepped (event_of sound) (ruled before.line.rules) (seen before.line.progress) burst o 0
      (take before.own before.out)) before.line.rules before.terminal 0 after.terminal after.line before.own after.own
      before.out after.out (Ok after.next)) same
      (subst (λ (n : ℕ). IsStepped (stepped n (ruled before.line.rules) (seen before.line.progress) burst octets 0
      (take before.own before.out)).next
      (stepped n (ruled before.line.rules) (seen before.line.progress) burst octets 0 (take before.own before.out))
      before.line.rules before.terminal 0 after.terminal after.line before.own after.own before.out after.out
      (Ok after.next)) is h);
}

-- ---- what the calls of the device add up to

pub sent-more : (sounds : List Sound) (sound : Sound)
    → sent_in (sounds ++ sound ∷ []) ≡ sent_in sounds + sent_in (sound ∷ [])
sent-more [] sound = omega arith
sent-more (said octets ∷ sounds) sound = omega (arith, sent-more sounds sound)
sent-more (unsaid octets fault ∷ sounds) sound = omega (arith, sent-more sounds sound)
sent-more (came limit octets ∷ sounds) sound = sent-more sounds sound
sent-more (deaf limit fault ∷ sounds) sound = sent-more sounds sound

pub silent-more : (sounds : List Sound) (sound : Sound)
    → silent_in (sounds ++ sound ∷ []) ≡ silent_in sounds + silent_in (sound ∷ [])
silent-more [] sound = omega arith
silent-more (came limit [] ∷ sounds) sound = omega (arith, silent-more sounds sound)
silent-more (came limit (octet ∷ octets) ∷ sounds) sound = silent-more sounds sound
silent-more (deaf limit fault ∷ sounds) sound = silent-more sounds sound
silent-more (said octets ∷ sounds) sound = silent-more sounds sound
silent-more (unsaid octets fault ∷ sounds) sound = silent-more sounds sound

-- the call that an action asks for sends as many blocks as the action
pub sent-asked : (a : Action) (out : List ℕ) (sound : Sound) → IsAsked a out sound → sends a ≡ sent_in (sound ∷ [])
sent-asked (action.Send count) out (said octets) asked = refl
sent-asked (action.Send count) out (unsaid octets fault) asked = refl
sent-asked (action.Send count) out (came limit octets) asked = absurd asked
sent-asked (action.Send count) out (deaf limit fault) asked = absurd asked
sent-asked (action.Wait time) out (came limit octets) asked = refl
sent-asked (action.Wait time) out (deaf limit fault) asked = refl
sent-asked (action.Wait time) out (said octets) asked = absurd asked
sent-asked (action.Wait time) out (unsaid octets fault) asked = absurd asked
sent-asked (action.Answered n) out sound asked = absurd asked
sent-asked (action.NoStatus n) out sound asked = absurd asked
sent-asked action.IfsSet out sound asked = absurd asked
sent-asked action.GivenUp out sound asked = absurd asked
sent-asked action.Dead out sound asked = absurd asked
sent-asked (action.Asked n) out sound asked = absurd asked
sent-asked action.Failed out sound asked = absurd asked
sent-asked action.UsedUp out sound asked = absurd asked
sent-asked action.Echo out sound asked = absurd asked
sent-asked action.Order out sound asked = absurd asked

-- and it waits as long, if nothing came
pub silent-asked : (a : Action) (out : List ℕ) (sound : Sound) → IsAsked a out sound
    → waited_by (event_of sound) a ≡ silent_in (sound ∷ [])
silent-asked (action.Wait time) out (came limit []) asked = omega (arith, asked)
silent-asked (action.Wait time) out (came limit (octet ∷ octets)) asked = refl
silent-asked (action.Wait time) out (deaf limit fault) asked = refl
silent-asked (action.Wait time) out (said octets) asked = absurd asked
silent-asked (action.Wait time) out (unsaid octets fault) asked = absurd asked
silent-asked (action.Send count) out (said octets) asked = refl
silent-asked (action.Send count) out (unsaid octets fault) asked = refl
silent-asked (action.Send count) out (came limit octets) asked = absurd asked
silent-asked (action.Send count) out (deaf limit fault) asked = absurd asked
silent-asked (action.Answered n) out sound asked = absurd asked
silent-asked (action.NoStatus n) out sound asked = absurd asked
silent-asked action.IfsSet out sound asked = absurd asked
silent-asked action.GivenUp out sound asked = absurd asked
silent-asked action.Dead out sound asked = absurd asked
silent-asked (action.Asked n) out sound asked = absurd asked
silent-asked action.Failed out sound asked = absurd asked
silent-asked action.UsedUp out sound asked = absurd asked
silent-asked action.Echo out sound asked = absurd asked
silent-asked action.Order out sound asked = absurd asked

pub sent-counted : (sounds : List Sound) (sound : Sound) (a : Action) (out : List ℕ) (blocks count : ℕ)
    → blocks ≡ sent_in sounds → IsAsked a out sound → count ≡ sends a
    → blocks + count ≡ sent_in (sounds ++ sound ∷ [])
sent-counted sounds sound a out blocks count so_far asked is =
    omega (arith, so_far, is, sent-asked a out sound asked, sent-more sounds sound)

pub silent-counted : (sounds : List Sound) (sound : Sound) (a : Action) (out : List ℕ) (time event after : ℕ)
    → time ≡ min (silent_in sounds) forever → IsAsked a out sound → event ≡ event_of sound
    → after ≡ min (time + waited_by event a) forever → after ≡ min (silent_in (sounds ++ sound ∷ [])) forever
silent-counted sounds sound a out time event after so_far asked is total =
    let same : waited_by event a ≡ silent_in (sound ∷ []) =
    subst (λ (n : ℕ). waited_by n a ≡ silent_in (sound ∷ [])) (sym is) (silent-asked a out sound asked) in
    omega (arith, so_far, same, total, silent-more sounds sound)

-- one more turn
pub more-gone : {A : Type 0} (old now new : A → List Sound → Type 0) (first : Standing) (spoken : List Spoken)
    (before : Standing) (sound : Sound) (after : Standing) (blocks waited count event total : ℕ)
    → Gone old now first spoken before blocks waited → Sounds now new (sound ∷ []) → (turn : IsTurn before sound after)
    → count ≡ sends before.next → event ≡ event_of sound
    → total ≡ min (waited + waited_by event before.next) forever
    → Gone old new first (spoken ++ spoken_by before sound turn.burst) after (blocks + count) total
more-gone old now new first spoken before sound after blocks waited count event total gone adds turn sent is so_long =
    record {
      sounds = gone.sounds ++ sound ∷ [];
      adds = then-sounds old now new gone.sounds (sound ∷ []) gone.adds adds;
      turns = more gone.sounds spoken before sound after gone.turns turn;
      blocks_are = sent-counted gone.sounds sound before.next before.out blocks count gone.blocks_are turn.asked sent;
      waited_is = silent-counted gone.sounds sound before.next before.out waited event total gone.waited_is turn.asked
          is
          so_long;
    }

-- ---- a call of the device

pub said-asked : (a : Action) (count kept : ℕ) (out : List ℕ) → a ≡ action.Send count → kept ≡ min count (length out)
    → IsAsked a out (said (take kept out))
said-asked a count kept out e k = rw e (rw k (take_min count out))

pub unsaid-asked : (a : Action) (count kept : ℕ) (out : List ℕ) (fault : Error) → a ≡ action.Send count
    → kept ≡ min count (length out) → IsAsked a out (unsaid (take kept out) fault)
unsaid-asked a count kept out fault e k = rw e (rw k (take_min count out))

pub came-asked : (a : Action) (time : ℕ) (out octets : List ℕ) → a ≡ action.Wait time
    → IsAsked a out (came time octets)
came-asked a time out octets e = rw e refl

pub deaf-asked : (a : Action) (time : ℕ) (out : List ℕ) (fault : Error) → a ≡ action.Wait time
    → IsAsked a out (deaf time fault)
deaf-asked a time out fault e = rw e refl

-- some octets are no silence
pub came-event : (limit : ℕ) (octets : List ℕ) → 1 ≤ length octets → 1 ≡ event_of (came limit octets)
came-event limit [] some = let bad : ⊥ = omega (arith, some) in absurd bad
came-event limit (octet ∷ octets) some = refl

pub none-came : (limit count : ℕ) (room : List ℕ) → count ≡ 0
    → (3 ≡ event_of (came limit (take count room))) × ([] ≡ octets_of (came limit (take count room)))
none-came limit count room none_came = rw none_came (refl, refl)

pub some-octets : (count : ℕ) (room : List ℕ) → count ≤ length room → (count ≡ 0 → ⊥) → 1 ≤ length (take count room)
some-octets zero room fits some = absurd (some refl)
some-octets (suc count) room fits some = omega (arith, length-take-le (suc count) room fits)
