-- What the program prints about a file of a recorded exchange.
use Rattle.std.specs.Prelude.{◌≡◌, ℕ, ◌+◌, List, [], ◌++◌, codes, decimal, length, Option, Some, None, Result, Ok, Err, MatchResult}
use Rattle.program_words.specs.declared.request.Ends.{Ends}
use Rattle.program_words.specs.declared.request.Ends.TheVariants as end
use Rattle.program_words.specs.declared.request.Drawing.{Drawing}
use Rattle.program_words.specs.declared.request.Drawing.TheVariants.{Ladder, Picture}
use Rattle.program_words.specs.declared.request.FileTask.{FileTask}
use Rattle.program_words.specs.declared.request.FileTask.TheVariants.{Replay, Migrate, Apdus, Draw}
use Rattle.apdu_list.specs.Items.{apdu_items}
use Rattle.apdu_list.specs.Listing.{apdus_text}
use Rattle.layouts.specs.declared.layout.Layout.{Layout}
use Rattle.layouts.specs.declared.layout.Layout.TheVariants as layout
use Rattle.exchange_text.specs.declared.line.Line.{Line}
use Rattle.drawings.specs.Ladder.{ladder_text}
use Rattle.drawings.specs.Picture.{picture_text}
use Rattle.exchange_text.specs.Exchange.{ExchangeParts, migrated}
use Rattle.answer_json.specs.declared.refusal.Refusal.{Refusal}
use Rattle.answer_json.specs.declared.refusal.Refusal.TheVariants.{FaultAt, Fault}
use Rattle.exchange_text.specs.Reading.{exchange_said}
use Rattle.exchange_core.specs.Replay as replay
use Rattle.exchange_text.specs.Text.{exchange_text}
use Rattle.exchange_text.specs.declared.fault.ExchangeFault.{ExchangeFault}
use Rattle.exchange_text.specs.Faults.{exchange_fault_line, exchange_fault_name}
use Rattle.exchange_core.specs.declared.replaying.ReplayFault.{ReplayFault}
use Rattle.block_core.specs.declared.side.Side.{Side}
use Rattle.block_core.specs.declared.side.Side.TheVariants as side
use Rattle.program.specs.Laid.{laid}
use Rattle.program.specs.Lines.{worse}
use Rattle.program_octets.specs.declared.said.Said.{Said}
use Rattle.program_octets.specs.declared.said.Said.TheVariants as saying
use Rattle.program_octets.specs.declared.status.Status.{Status}
use Rattle.program_octets.specs.declared.status.Status.TheVariants as status

-- the end agrees with all lines of the file, as a line or as members; the header and the answer to reset count
abbrev pub agrees_in : Layout → ExchangeParts → List ℕ
agrees_in layout.Lines e = codes "ok " ++ (decimal (length e.lines + 2) ++ codes " lines\n")
agrees_in layout.Json e = codes "\"lines\":" ++ (decimal (length e.lines + 2) ++ codes ",\"verdict\":\"ok\"")

-- the end differs: it gives this at this line
abbrev pub differs_in : Layout → ℕ → List ℕ → List ℕ
differs_in layout.Lines line gives =
    codes "line " ++ (decimal line ++ (codes ": engine gives " ++ (gives ++ codes "\n")))
differs_in layout.Json line gives =
    codes "\"gives\":\"" ++ (gives ++ (codes "\",\"line\":" ++ (decimal line ++ codes ",\"verdict\":\"differs\"")))

-- the member for the verdict of both ends, by the status
abbrev pub verdict_member : Status → List ℕ
verdict_member status.Accepted = codes "\"verdict\":\"ok\","
verdict_member status.Refused = codes "\"verdict\":\"differs\","
verdict_member status.Fault = []

-- what is said of each end, as a member
unfoldable pub card_member : List ℕ → List ℕ
card_member said = codes "\"card\":{" ++ (said ++ codes "}")

unfoldable pub terminal_member : List ℕ → List ℕ
terminal_member said = codes ",\"terminal\":{" ++ (said ++ codes "}")

-- the verdict, and what is said of each end
abbrev pub both_members : List ℕ → List ℕ → Status → List ℕ
both_members terminal card ended = verdict_member ended ++ (card_member card ++ terminal_member terminal)

-- the lines about both ends, each after the name of its end
abbrev pub both_lines : List ℕ → List ℕ → List ℕ
both_lines terminal card = codes "terminal: " ++ (terminal ++ (codes "card: " ++ card))

-- what is said of both ends, with the status
abbrev pub both_in : Layout → List ℕ → List ℕ → Status → List ℕ
both_in layout.Lines terminal card ended = both_lines terminal card
both_in layout.Json terminal card ended = both_members terminal card ended

-- a fault by its name, with its line if it is in one
abbrev pub fault_in : Option ℕ → List ℕ → Refusal
fault_in None name = Fault name
fault_in (Some line) name = FaultAt line name

-- the text isn't a file of an exchange, by its first fault
abbrev pub file_refusal : ExchangeFault → Refusal
file_refusal fault = fault_in (exchange_fault_line fault) (exchange_fault_name fault)

abbrev pub file_faulted : ExchangeFault → Said
file_faulted fault = saying.Refusal (file_refusal fault)

-- the outcome of a call of replay; running out of memory says nothing about the exchange
abbrev pub IsOutcome : {A : Type 0} → ExchangeParts → Side → Result A ReplayFault → Type 0
IsOutcome e which (Ok done) = replay.Replays e.atr e.lines which None
IsOutcome e which (Err fault) =
    replay.IfDiffers fault (λ line gives. replay.Replays e.atr e.lines which (Some (line, gives)))

-- what is said of a replay at one end, with its status
pub data IsReplayed (how : Layout) (e : ExchangeParts) (which : Side) (text : List ℕ) (ended : Status) : Type 0 where
  agrees : replay.Replays e.atr e.lines which None → text ≡ agrees_in how e → ended ≡ status.Accepted
      → IsReplayed how e which text ended
  differs : (line : ℕ) (gives : List ℕ) → replay.Replays e.atr e.lines which (Some (line, gives))
      → text ≡ differs_in how line gives → ended ≡ status.Refused → IsReplayed how e which text ended

-- those of a replay at both ends: the status is the worse of the two
pub record AreReplayed (how : Layout) (e : ExchangeParts) (text : List ℕ) (ended : Status) : Type 0 where
  pub terminal : List ℕ
  pub one : Status
  pub card : List ℕ
  pub other : Status
  pub is_terminal : IsReplayed how e side.Terminal terminal one
  pub is_card : IsReplayed how e side.Card card other
  pub is_text : text ≡ both_in how terminal card ended
  pub is_ended : ended ≡ worse one other

abbrev pub IsReplayedAt : Ends → Layout → ExchangeParts → List ℕ → Status → Type 0
IsReplayedAt end.Terminal how e = IsReplayed how e side.Terminal
IsReplayedAt end.Card how e = IsReplayed how e side.Card
IsReplayedAt end.Both how e = AreReplayed how e

-- the answer about a replay
pub record IsReplayAnswer (which : Ends) (how : Layout) (e : ExchangeParts) (said : Said) (ended : Status) : Type 0
  where
    pub text : List ℕ
    pub is_text : IsReplayedAt which how e text ended
    pub is_said : said ≡ laid how (codes "replay") text

-- the exchanges of command and answer, as lines or as members
abbrev pub listed_in : Layout → List Line → List ℕ
listed_in layout.Lines lines = apdus_text lines
listed_in layout.Json lines = codes "\"verdict\":\"ok\",\"exchanges\":[" ++ (apdu_items lines ++ codes "]")

-- an exchange, drawn as a ladder or as a picture
abbrev pub drawn : Drawing → ExchangeParts → List ℕ
drawn Ladder e = ladder_text e
drawn Picture e = picture_text e

-- the answer about an exchange
abbrev pub IsToldSo : FileTask → ExchangeParts → Said → Status → Type 0
IsToldSo (Replay which how) e = IsReplayAnswer which how e
IsToldSo Migrate e = λ said ended. (said ≡ saying.Text (exchange_text (migrated e))) × (ended ≡ status.Accepted)
IsToldSo (Apdus how) e = λ said ended.
    (said ≡ laid how (codes "apdus") (listed_in how e.lines)) × (ended ≡ status.Accepted)
IsToldSo (Draw drawing) e = λ said ended. (said ≡ saying.Text (drawn drawing e)) × (ended ≡ status.Accepted)

-- the answer about the octets of a file: that about their exchange, or their first fault
abbrev pub TellsFile : FileTask → List ℕ → Said → Status → Type 0
TellsFile task file said ended = MatchResult (exchange_said file) (λ e. IsToldSo task e said ended)
    (λ fault. (said ≡ file_faulted fault) × (ended ≡ status.Fault))
