-- An exchange under way: what is on the line so far, and what is left of it.
use Rattle.std.proofs.Common.{◌≡◌, ◌≤◌, ℕ, ◌-◌, List, [], ◌∷◌, ◌++◌, take, Ok, Result, append_assoc, subst, refl, sym}
use Rattle.std.proofs.lemmas.List.{append-nil}
use Rattle.block_core.specs.Block.{Parts}
use Rattle.t1_core.specs.Terminal.{TerminalState}
use Rattle.t1_core.specs.declared.turns.EncodedTerminalTurn.{EncodedTerminalTurn}
use Rattle.t1_core.specs.declared.turns.EncodedTerminalTurn.TheVariants as put
use Rattle.line_core.specs.declared.fault.TransceiveFault.{TransceiveFault}
use Rattle.line_core.specs.Line.{Talk, Adds, Arrival}
use Rattle.line_core.specs.Exchange.{Next, sends, ends, Ending, used_up, Runs, IsSent, IsReady, next_after, left_after}

-- Talks were added, and any run from here on makes one from the start on.
pub record Going {A : Type 0} (first now : A → List Talk → Type 0) (most left : ℕ) (next here : Next)
    (start t : TerminalState) : Type 0 where
  pub talks : List Talk
  pub adds : Adds first now talks
  pub runs : (more : List Talk) (ending : Ending) (state : TerminalState) → Runs left here t more ending state
      → Runs most next start (talks ++ more) ending state

-- The next turn of an exchange under way is in the caller's hands.
abbrev pub Holds : {A : Type 0} → (A → List Talk → Type 0) → (A → List Talk → Type 0) → ℕ → ℕ → Next → TerminalState
    → TerminalState → List ℕ → Result EncodedTerminalTurn TransceiveFault → Type 0
Holds first now most left next start t out turn =
    (here : Next) × Going first now most left next here start t × IsReady here out turn

-- The whole run.
abbrev pub IsRun : {A : Type 0} → (A → List Talk → Type 0) → (A → List Talk → Type 0) → ℕ → Next → TerminalState
    → Ending → TerminalState → Type 0
IsRun first now most next start ending t =
    (talks : List Talk) × Adds first now talks × Runs most next start talks ending t

-- at the start nothing was added to the line, and each run from here is the whole run
pub begins : {A : Type 0} (first : A → List Talk → Type 0) (most : ℕ) (next : Next) (t : TerminalState)
    → Going first first most most next next t t
begins first most next t = record {
  talks = [];
  adds = λ once before h. rw append-nil h;
  runs = λ more ending state h. h;
}

ends-in : {A : Type 0} (first now : A → List Talk → Type 0) (most left : ℕ) (next : Next) (start t : TerminalState)
    (how : Ending) → Going first now most left next (ends how) start t → IsRun first now most next start how t
ends-in first now most left next start t how g = (g.talks, g.adds, rw append-nil at (g.runs [] how t (refl, refl)))

runs-out : {A : Type 0} (first now : A → List Talk → Type 0) (most left : ℕ) (next : Next) (start t : TerminalState)
    (sent : Parts) → left ≡ 0 → Going first now most left next (sends sent) start t
    → IsRun first now most next start used_up t
runs-out first now most left next start t sent e g =
    (g.talks, g.adds, rw append-nil at (g.runs [] used_up t (e, refl, refl)))

-- one talk more
talks-on : {A : Type 0} (first now after : A → List Talk → Type 0) (most left : ℕ) (next : Next)
    (start t : TerminalState) (sent : Parts) (talk : Talk) → 1 ≤ left → IsSent sent talk → Adds now after (talk ∷ [])
    → Going first now most left next (sends sent) start t
    → Going first after most (left - 1) next (next_after t talk.arrival) start (left_after t talk.arrival)
talks-on first now after most left next start t sent talk some is adds g = record {
  talks = g.talks ++ talk ∷ [];
  adds = λ once before h. rw (← append_assoc) (adds once (before ++ g.talks) (g.adds once before h));
  runs = λ more ending state h. rw append_assoc (g.runs (talk ∷ more) ending state (some, is, h));
}

-- The exchange ended.
pub closes : {A : Type 0} (first now : A → List Talk → Type 0) (most left : ℕ) (next : Next) (start t : TerminalState)
    (out : List ℕ) (turn : Result EncodedTerminalTurn TransceiveFault) (how : Ending)
    → ((here : Next) → IsReady here out turn → here ≡ ends how) → Holds first now most left next start t out turn
    → IsRun first now most next start how t
closes first now most left next start t out turn how is (here, going, ready) =
    let P : Next → Type 0 = λ n. Going first now most left next n start t in
    ends-in first now most left next start t how (subst P (is here ready) going)

-- Another block would be one too many.
pub stops : {A : Type 0} (first now : A → List Talk → Type 0) (most left : ℕ) (next : Next) (start t : TerminalState)
    (out : List ℕ) (count waiting : ℕ) → left ≡ 0
    → Holds first now most left next start t out (Ok (put.Send count waiting))
    → IsRun first now most next start used_up t
stops first now most left next start t out count waiting e (here, going, (sent, is, octets, wait)) =
    let P : Next → Type 0 = λ n. Going first now most left next n start t in
    runs-out first now most left next start t sent e (subst P is going)

-- A block was sent, and this came.
pub goes-on : {A : Type 0} (first now after : A → List Talk → Type 0) (most left : ℕ) (next : Next)
    (start t : TerminalState) (out : List ℕ) (count waiting : ℕ) (arrival : Arrival) → 1 ≤ left
    → Adds now after (record { sent = take count out; waiting = waiting; arrival = arrival } ∷ [])
    → Holds first now most left next start t out (Ok (put.Send count waiting))
    → Going first after most (left - 1) next (next_after t arrival) start (left_after t arrival)
goes-on first now after most left next start t out count waiting arrival some adds
    (here, going, (sent, is, octets, wait)) =
    let P : Next → Type 0 = λ n. Going first now most left next n start t in
    talks-on first now after most left next start t sent _ some (octets, wait) adds (subst P is going)

-- What a call of the loop's body promises, with the state that it leaves.
abbrev pub Talked : {A : Type 0} → (A → List Talk → Type 0) → (A → List Talk → Type 0) → TerminalState → TerminalState
    → List ℕ → List ℕ → ℕ → ℕ → Result EncodedTerminalTurn TransceiveFault → Type 0
Talked now after t t' out out' count waiting turn =
    (arrival : Arrival) × Adds now after (record { sent = take count out; waiting = waiting; arrival = arrival } ∷ [])
    × IsReady (next_after t arrival) out' turn × (t' ≡ left_after t arrival)

-- after such a call the next turn is in the caller's hands again, with one block less left
pub holds-on : {A : Type 0} (first now after : A → List Talk → Type 0) (most left : ℕ) (next : Next)
    (start t t' : TerminalState) (out out' : List ℕ) (count waiting : ℕ)
    (turn : Result EncodedTerminalTurn TransceiveFault)
    → 1 ≤ left → Talked now after t t' out out' count waiting turn
    → Holds first now most left next start t out (Ok (put.Send count waiting))
    → Holds first after most (left - 1) next start t' out' turn
holds-on first now after most left next start t t' out out' count waiting turn some (arrival, adds, ready, is) held =
    let P : TerminalState → Type 0 = λ s. Going first after most (left - 1) next (next_after t arrival) start s in (
      next_after t arrival,
      subst P (sym is) (goes-on first now after most left next start t out count waiting arrival some adds held),
      ready,
    )
