-- What the program prints about a trace that it judges.
use Rattle.std.specs.Prelude.{◌≡◌, ◌≢◌, ◌++◌, ℕ, List, [], codes, Bool, true, false, Option, Some, None, Ok, Err}
use Rattle.hex.specs.Hex.{encode_upper}
use Rattle.program_octets.specs.Sayings.{refused_as}
use Rattle.program_octets.specs.declared.said.Said.{Said}
use Rattle.program_octets.specs.declared.status.Status.{Status}
use Rattle.program_octets.specs.declared.status.Status.TheVariants as status
use Rattle.program_words.specs.declared.request.Ends.{Ends}
use Rattle.program_words.specs.declared.request.Ends.TheVariants as end
use Rattle.program_words.specs.declared.request.Judging.{Judging}
use Rattle.layouts.specs.declared.layout.Layout.{Layout}
use Rattle.layouts.specs.declared.layout.Layout.TheVariants as layout
use Rattle.program.specs.Laid.{laid}
use Rattle.atr_core.specs.Atr.{AtrParts, IsAtr}
use Rattle.atr_core.specs.T1.{t1_params_of}
use Rattle.exchange_core.specs.Replay.{IsFound}
use Rattle.exchange_text.specs.declared.fault.ExchangeFault.{ExchangeFault}
use Rattle.exchange_text.specs.declared.fault.ExchangeFault.TheVariants.{Memory}
use Rattle.block_core.specs.declared.side.Side.{Side}
use Rattle.block_core.specs.declared.side.Side.TheVariants as side
use Rattle.trace_judge.specs.Judging.{Judges}
use Rattle.trace_judge.specs.declared.standing.Judgment.{Judgment}
use Rattle.trace_judge.specs.declared.standing.Scope.{Scope}
use Rattle.judge_times.specs.Waiting.{rates_before, Offered}
use Rattle.explainer.specs.Notes.{IsSessionNote}
use Rattle.program.specs.FileNotes.{trace_note}
use Rattle.program.specs.ExchangeTexts.{file_faulted}

-- the end that is judged alone, if there is one
abbrev pub only_of : Ends → Option Side
only_of end.Terminal = Some side.Terminal
only_of end.Card = Some side.Card
only_of end.Both = None

-- the scope of a judgment
abbrev pub scope_of : Judging → Scope
scope_of judging = record {
  only = only_of judging.ends;
  clock = judging.clock;
  rules = judging.rules;
  layout = judging.layout;
}

-- Octets are exactly one answer to reset with parameters of T=1. They offer these parameters, F and D.
pub record IsOffer (atr : List ℕ) (offered : Offered) : Type 0 where
  pub parts : AtrParts
  pub is : IsAtr parts atr
  pub values : t1_params_of parts ≡ Ok offered.values
  pub rates : offered.rates ≡ rates_before parts

abbrev pub judged_status : Bool → Status
judged_status true = status.Accepted
judged_status false = status.Refused

-- a judgment for a card with this answer to reset: the lines, or the members of an object, of which the answer to reset
-- is the first
abbrev pub judged_in : Layout → List ℕ → List ℕ → List ℕ
judged_in layout.Lines atr said = said
judged_in layout.Json atr said = codes "\"atr\":\"" ++ (encode_upper atr ++ (codes "\"," ++ said))

-- The answer about a text for a card with this answer to reset, which offers this: its judgment, or its first fault.
pub data JudgesText (atr : List ℕ) (offered : Offered) (judging : Judging) (file : List ℕ) (said : Said)
    (ended : Status) : Type 0 where
  judged : (judgment : Judgment) → Judges offered (scope_of judging) file (Ok judgment)
      → said ≡ laid judging.layout (codes "judge") (judged_in judging.layout atr judgment.text)
      → ended ≡ judged_status judgment.is_ok → JudgesText atr offered judging file said ended
  faulty : (fault : ExchangeFault) → Judges offered (scope_of judging) file (Err fault) → fault ≢ Memory
      → said ≡ file_faulted fault → ended ≡ status.Fault → JudgesText atr offered judging file said ended

-- The answer about an answer to reset and a text: the answer to reset can't be used, by the name of the reason, or the
-- answer is that about the text.
pub data JudgesTrace (atr : List ℕ) (judging : Judging) (file : List ℕ) (said : Said) (ended : Status) : Type 0 where
  refused : (name : List ℕ) → IsFound atr (Err name) → said ≡ refused_as name → ended ≡ status.Refused
      → JudgesTrace atr judging file said ended
  used : (offered : Offered) → IsOffer atr offered → JudgesText atr offered judging file said ended
      → JudgesTrace atr judging file said ended

-- ---- notes

-- The note on a text: empty for a judgment, or on the line with its first fault.
pub data IsTextNote (offered : Offered) (judging : Judging) (file note : List ℕ) : Type 0 where
  silent : (judgment : Judgment) → Judges offered (scope_of judging) file (Ok judgment) → note ≡ []
      → IsTextNote offered judging file note
  at_line : (fault : ExchangeFault) → Judges offered (scope_of judging) file (Err fault) → fault ≢ Memory
      → note ≡ trace_note file fault → IsTextNote offered judging file note

-- The note on a trace: on an answer to reset that can't be used, or on its text.
pub data IsJudgeNote (atr : List ℕ) (judging : Judging) (file note : List ℕ) : Type 0 where
  unusable : (name : List ℕ) → IsFound atr (Err name) → IsSessionNote atr note → IsJudgeNote atr judging file note
  on_text : (offered : Offered) → IsOffer atr offered → IsTextNote offered judging file note
      → IsJudgeNote atr judging file note
