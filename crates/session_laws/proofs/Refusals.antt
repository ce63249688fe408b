-- What a terminal refused, from what the calls of its loop ensure.
use Rattle.std.proofs.Common.{◌≡◌, ℕ, List, [], ◌∷◌, ◌++◌, take, Result, Ok, Err, refl, subst}
use Rattle.t1_core.specs.Terminal.{TerminalState, terminal_turn, turn_of}
use Rattle.t1_core.specs.Put.{IsTerminalPut}
use Rattle.t1_core.specs.declared.turns.TerminalTurn.{TerminalTurn}
use Rattle.t1_core.specs.declared.turns.TerminalTurn.TheVariants as own_turn
use Rattle.t1_core.specs.declared.turns.EncodedTerminalTurn.{EncodedTerminalTurn}
use Rattle.t1_core.specs.declared.turns.TerminalFault.{TerminalFault}
use Rattle.line_core.specs.Bursts.{HasHeard}
use Rattle.line_core.specs.Timed.{Sound, Sounds}
use Rattle.session_core.specs.declared.progress.Rules.{Rules}
use Rattle.session_core.specs.declared.lines.Line.{Line}
use Rattle.session_core.specs.declared.lines.Start.{Start}
use Rattle.session_core.specs.declared.setup.Limits.{Limits}
use Rattle.session_core.specs.declared.action.Action.{Action}
use Rattle.session_core.specs.Wire.{Doing, ruled, seen}
use Rattle.session_core.specs.Lines.{stepped}
use Rattle.session_core.specs.Terminals.{AfterTurn, TurnsTo, IsStepped}
use Rattle.session_laws.specs.Talking.{Spoken}
use Rattle.session_laws.specs.Running.{Standing, IsAsked, event_of, octets_of, Gone, Opening, IsBegun, IsStopped, burst_refused, IsRefused, call_refused, stopped}
use Rattle.session_laws.proofs.Runs.{then-sounds}

pub err-same : (a b : TerminalFault) (x : Result Action TerminalFault) → x ≡ Err a → x ≡ Err b → a ≡ b
err-same a b x e f = cc

pub refused-by : (turn : Result TerminalTurn TerminalFault) (acted : Result EncodedTerminalTurn TerminalFault)
    (answer : ℕ) (start : Start) (limits : Limits) (rules : Rules) (p : Doing) (burst : List ℕ) (now : ℕ)
    (out out_after : List ℕ) (line : Line) (own own_after : ℕ) (fault : TerminalFault)
    → IsTerminalPut turn out out_after acted
    → AfterTurn acted answer start limits rules p burst now line own own_after (Err fault) → turn ≡ Err fault
refused-by (Ok (own_turn.Send block)) acted answer start limits rules p burst now out out_after line own own_after fault
    (count, is, placed) after =
    let now_after = subst (λ (x : Result EncodedTerminalTurn TerminalFault).
    AfterTurn x answer start limits rules p burst now line own own_after (Err fault)) is after in
    let bad : Err fault ≡ Ok now_after.0 = now_after.1 in cc
refused-by (Ok own_turn.Answered) acted answer start limits rules p burst now out out_after line own own_after fault
    (is, kept) after =
    let now_after = subst (λ (x : Result EncodedTerminalTurn TerminalFault).
    AfterTurn x answer start limits rules p burst now line own own_after (Err fault)) is after in
    let bad : Err fault ≡ Ok now_after.0 = now_after.1 in cc
refused-by (Ok own_turn.IfsSet) acted answer start limits rules p burst now out out_after line own own_after fault
    (is, kept) after =
    let now_after = subst (λ (x : Result EncodedTerminalTurn TerminalFault).
    AfterTurn x answer start limits rules p burst now line own own_after (Err fault)) is after in
    let bad : Err fault ≡ Ok now_after.0 = now_after.1 in cc
refused-by (Ok own_turn.GivenUp) acted answer start limits rules p burst now out out_after line own own_after fault
    (is, kept) after =
    let now_after = subst (λ (x : Result EncodedTerminalTurn TerminalFault).
    AfterTurn x answer start limits rules p burst now line own own_after (Err fault)) is after in
    let bad : Err fault ≡ Ok now_after.0 = now_after.1 in cc
refused-by (Ok own_turn.Dead) acted answer start limits rules p burst now out out_after line own own_after fault
    (is, kept) after =
    let now_after = subst (λ (x : Result EncodedTerminalTurn TerminalFault).
    AfterTurn x answer start limits rules p burst now line own own_after (Err fault)) is after in
    let bad : Err fault ≡ Ok now_after.0 = now_after.1 in cc
refused-by (Err inner) acted answer start limits rules p burst now out out_after line own own_after fault (is, kept)
    after =
    let now_after = subst (λ (x : Result EncodedTerminalTurn TerminalFault).
    AfterTurn x answer start limits rules p burst now line own own_after (Err fault)) is after in
    rw (err-same fault inner (Err fault) refl now_after.0) refl

pub opening-refused : (terminal : TerminalState) (line : Line) (opening : Opening) (fault : TerminalFault) (p : Doing)
    (burst : List ℕ) (after : TerminalState) (line_after : Line) (own own_after : ℕ) (out out_after : List ℕ)
    → TurnsTo terminal opening.input opening.start opening.limits line.rules p burst 0 after line_after own own_after
    out
    out_after (Err fault)
    → IsRefused terminal line opening fault []
opening-refused terminal line opening fault p burst after line_after own own_after out out_after turns =
    call_refused (refused-by (turn_of (terminal_turn terminal opening.input)) turns.acted _ _ _ _ _ _ _ _ _ _ _ _ fault
    turns.put turns.after)

abbrev pub IsSteppedBy : Standing → ℕ → List ℕ → List ℕ → TerminalState → Line → ℕ → List ℕ
    → Result Action TerminalFault → Type 0
IsSteppedBy before event octets burst terminal line own out result =
    IsStepped (stepped event (ruled before.line.rules) (seen before.line.progress) burst octets 0
    (take before.own before.out)).next
    (stepped event (ruled before.line.rules) (seen before.line.progress) burst octets 0 (take before.own before.out))
    before.line.rules before.terminal 0 terminal line before.own own before.out out result

pub step-of : (before : Standing) (sound : Sound) (event : ℕ) (octets burst : List ℕ) (terminal : TerminalState)
    (line : Line) (own : ℕ) (out : List ℕ) (result : Result Action TerminalFault) → event ≡ event_of sound
    → octets ≡ octets_of sound → IsSteppedBy before event octets burst terminal line own out result
    → IsSteppedBy before (event_of sound) (octets_of sound) burst terminal line own out result
step-of before sound event octets burst terminal line own out result is same h =
    subst (λ (o : List ℕ). IsSteppedBy before (event_of sound) o burst terminal line own out result) same
    (subst (λ (n : ℕ). IsSteppedBy before n octets burst terminal line own out result) is h)

pub burst-stopped : {A : Type 0} (old now new : A → List Sound → Type 0) (first : Standing) (fault : TerminalFault)
    (spoken : List Spoken) (before : Standing) (blocks waited : ℕ) (sound : Sound) (burst : List ℕ)
    (after : TerminalState) (line_after : Line) (own : ℕ) (out : List ℕ)
    → Gone old now first spoken before blocks waited → Sounds now new (sound ∷ [])
    → IsAsked before.next before.out sound → HasHeard before.line.framer burst
    → IsSteppedBy before (event_of sound) (octets_of sound) burst after line_after own out (Err fault)
    → (sounds : List Sound) × Sounds old new sounds × IsStopped first fault sounds
burst-stopped old now new first fault spoken before blocks waited sound burst after line_after own out gone adds asked
    heard stepped_so = (
      gone.sounds ++ sound ∷ [],
      then-sounds old now new gone.sounds (sound ∷ []) gone.adds adds,
      burst_refused gone.sounds spoken before sound burst after line_after own out gone.turns asked heard stepped_so,
    )

-- a loop that began so, and was stopped
pub opened-stopped : {A : Type 0} (old new : A → List Sound → Type 0) (terminal : TerminalState) (line : Line)
    (opening : Opening) (first : Standing) (fault : TerminalFault) → IsBegun terminal line opening first
    → (sounds : List Sound) × Sounds old new sounds × IsStopped first fault sounds
    → (sounds : List Sound) × Sounds old new sounds × IsRefused terminal line opening fault sounds
opened-stopped old new terminal line opening first fault begun (sounds, adds, is) =
    (sounds, adds, stopped first sounds begun is)
