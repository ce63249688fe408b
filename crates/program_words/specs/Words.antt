-- The words that the program takes, and what they ask for.
use Rattle.std.specs.Prelude.{◌≡◌, ◌≢◌, ◌⊎◌, ◌&&◌, ◌==◌, ◌≤◌, ℕ, Bool, length, nat_le, List, [], ◌∷◌, codes, Option, Some, None, is_some, true, false, Result, Ok, Err, MatchResult, if◌then◌else◌}
use Rattle.std.specs.Str.{bytes_eq}
use Rattle.std.specs.Str.Parse.{digits_value, without_leading_plus}
use Rattle.clap.specs.ValueTests.{is_unsigned_in}
use Rattle.clap.specs.Kinds.{IsAmong, Kinds}
use Rattle.clap.specs.Words.{Row, all_of, fault_of, first_of, subcommand_of}
use Rattle.clap.specs.declared.error.kind.ErrorKind.{ErrorKind}
use Rattle.clap.specs.declared.error.kind.ErrorKind.TheVariants.{DisplayHelp, OutOfMemory}
use Rattle.octet_core.specs.Decimal.{decimal_number}
use Rattle.octet_core.specs.Octets.{AreOctets}
use Rattle.octet_core.specs.Sizes.{IsFieldSize}
use Rattle.chain_core.specs.Chain.{longest_message}
use Rattle.command_line.specs.Form.{scard}
use Rattle.program_words.specs.Given.{asks_for_lines, given_of, GivesOctets, IsAsRead, IsFromReader}
use Rattle.program_words.specs.Known.{knowns_of}
use Rattle.program_words.specs.PairLines.{are_lines}
use Rattle.program_words.specs.Session.{blocks_of, pairs_of, AreOctetPairs}
use Rattle.program_words.specs.Value.{◌>>=◌, octets_of_word}
use Rattle.command_line.specs.Asked.{asks_for_json}
use Rattle.command_line.specs.Version.{asks_for_version}
use Rattle.program_words.specs.declared.fault.Fault.{Fault}
use Rattle.program_words.specs.declared.fault.Fault.TheVariants.{Words, Memory}
use Rattle.program_words.specs.declared.request.Kind.{Kind}
use Rattle.program_words.specs.declared.request.Kind.TheVariants.{Atr, Block, Chain, Command, Response, Tlv, Dol}
use Rattle.program_words.specs.declared.request.Ends.{Ends}
use Rattle.program_words.specs.declared.request.Ends.TheVariants as end
use Rattle.program_words.specs.declared.request.Drawing.{Drawing}
use Rattle.program_words.specs.declared.request.Drawing.TheVariants.{Ladder, Picture}
use Rattle.program_words.specs.declared.request.FileTask.TheVariants.{Replay, Migrate, Apdus, Draw}
use Rattle.program_words.specs.declared.request.Expected.{Expected}
use Rattle.program_words.specs.declared.request.Aim.{Aim}
use Rattle.program_words.specs.declared.request.Aim.TheVariants.{Check, Show, Note}
use Rattle.layouts.specs.declared.layout.Layout.{Layout}
use Rattle.layouts.specs.declared.layout.Layout.TheVariants as layout
use Rattle.program_words.specs.declared.request.Judging.{Judging}
use Rattle.program_words.specs.declared.request.Task.{Task}
use Rattle.program_words.specs.declared.request.Asked.{Asked}
use Rattle.program_words.specs.declared.request.Asked.TheVariants.{Once, Lines}
use Rattle.program_words.specs.declared.request.Request.{Request}
use Rattle.program_words.specs.declared.session.Session.{Session}
use Rattle.program_words.specs.declared.request.Request.TheVariants.{BuildChain, BuildTidy, BuildFill, Tell, File, Record, Judge, Simulate, SimulateLines, Help, Version}
use Rattle.block_core.specs.declared.pcb.Number.{Number}
use Rattle.block_core.specs.declared.pcb.Number.TheVariants.{Zero, One}

-- ---- numbers

-- the number below 256 in a word of decimal digits, which may begin with a plus; for another word, `otherwise`
abbrev pub byte_or : ℕ → List ℕ → ℕ
byte_or otherwise word = if is_unsigned_in 0 255 word then digits_value 10 (without_leading_plus word) else otherwise

-- ---- what words ask for

abbrev pub needed : Option (List ℕ) → Result (List ℕ) Fault
needed None = Err Words
needed (Some word) = Ok word

abbrev pub all_or_none : Option (List (List ℕ)) → List (List ℕ)
all_or_none None = []
all_or_none (Some words) = words

abbrev pub kind_of : List ℕ → Result Kind Fault
kind_of word =
    if bytes_eq word (codes "atr") then Ok Atr
    else (if bytes_eq word (codes "block") then Ok Block
    else (if bytes_eq word (codes "chain") then Ok Chain
    else (if bytes_eq word (codes "command") then Ok Command
    else (if bytes_eq word (codes "response") then Ok Response
    else (if bytes_eq word (codes "tlv") then Ok Tlv
    else (if bytes_eq word (codes "dol") then Ok Dol
    else Err Words))))))

-- an information size as a word; the largest if there is no word
abbrev pub size_of : Option (List ℕ) → Result ℕ Fault
size_of None = Ok 254
size_of (Some word) = if nat_le 1 (byte_or 0 word) && nat_le (byte_or 0 word) 254 then Ok (byte_or 0 word) else Err
    Words

-- the number of the first block as a word; zero if there is no word
abbrev pub number_of_word : List ℕ → Result Number Fault
number_of_word word = if byte_or 2 word == 0 then Ok Zero else (if byte_or 2 word == 1 then Ok One else Err Words)

abbrev pub number_of : Option (List ℕ) → Result Number Fault
number_of None = Ok Zero
number_of (Some word) = number_of_word word

-- the options come first, since the form of the words limits their range; then the kind
abbrev pub expected_of : List Row → Result Expected Fault
expected_of rows = do
  ifs ← size_of (first_of (codes "ifs") rows)
  number ← number_of (first_of (codes "number") rows)
  kind_word ← needed (first_of (codes "kind") rows)
  kind ← kind_of kind_word
  Ok (record { kind = kind; ifs = ifs; number = number })

-- check or show octets, or lines of them
abbrev pub told_by : Task → Option (List ℕ) → Option (List ℕ) → Result Asked Fault
told_by task hex form =
    if asks_for_lines hex form then Ok (Lines task)
    else given_of hex form >>= (λ given. Ok (Once (Tell task given)))

-- an option without a value is given
abbrev pub is_true : Option (List ℕ) → Bool
is_true None = false
is_true (Some word) = bytes_eq word (codes "true")

abbrev pub has_flag : List ℕ → List Row → Bool
has_flag name rows = is_true (first_of name rows)

-- the layout of the answer to words, by the words alone: an object if one of them is --json, and no word before it is --
abbrev pub layout_of : List (List ℕ) → Layout
layout_of words = if asks_for_json words then layout.Json else layout.Lines

-- what the octets are read as, and then the octets
abbrev pub told_of : Layout → Aim → List Row → Result Asked Fault
told_of how aim rows = expected_of rows >>= (λ expected.
    told_by (record { aim = aim; layout = how; expected = expected }) (first_of (codes "hex") rows)
    (first_of (codes "stdin") rows))

-- what `show` prints: the value, with notes if they are asked for
abbrev pub show_aim : List Row → Aim
show_aim rows = if has_flag (codes "notes") rows then Note else Show

-- a message that a chain can carry
abbrev pub short_message : List ℕ → Result (List ℕ) Fault
short_message octets = if nat_le (length octets) longest_message then Ok octets else Err Words

-- IFS NUMBER HEX
abbrev pub chain_by : List ℕ → List ℕ → List ℕ → Result Request Fault
chain_by size number_word hex = do
  ifs ← size_of (Some size)
  number ← number_of_word number_word
  octets ← octets_of_word hex
  message ← short_message octets
  Ok (BuildChain ifs number message)

abbrev pub chain_of : List (List ℕ) → Result Request Fault
chain_of (size ∷ number_word ∷ hex ∷ []) = chain_by size number_word hex
chain_of _ = Err Words

-- HEX, or a form of octets on standard input
abbrev pub tidy_of : List (List ℕ) → Option (List ℕ) → Result Request Fault
tidy_of [] form = given_of None form >>= (λ given. Ok (BuildTidy given))
tidy_of (hex ∷ []) form = given_of (Some hex) form >>= (λ given. Ok (BuildTidy given))
tidy_of _ form = Err Words

-- DOL KNOWN..: a fault of a known value counts only if the octets are a list
abbrev pub fill_of : List (List ℕ) → Result Request Fault
fill_of [] = Err Words
fill_of (hex ∷ words) = octets_of_word hex >>= (λ octets. Ok (BuildFill octets (knowns_of words)))

-- what to build from words alone
abbrev pub build_words : List ℕ → List (List ℕ) → Result Request Fault
build_words what words =
    if bytes_eq what (codes "chain") then chain_of words
    else (if bytes_eq what (codes "fill") then fill_of words
    else Err Words)

-- only a forest to tidy can come from standard input
abbrev pub build_by : List ℕ → List (List ℕ) → Option (List ℕ) → Result Request Fault
build_by what words form =
    if bytes_eq what (codes "tidy") then tidy_of words form
    else (if is_some form then Err Words
    else build_words what words)

abbrev pub build_of : List Row → Result Request Fault
build_of rows = do
  what ← needed (first_of (codes "what") rows)
  build_by what (all_or_none (all_of (codes "words") rows)) (first_of (codes "stdin") rows)

-- an end as a word
abbrev pub one_end : List ℕ → Result Ends Fault
one_end word =
    if bytes_eq word (codes "terminal") then Ok end.Terminal
    else (if bytes_eq word (codes "card") then Ok end.Card
    else Err Words)

-- an end, or both
abbrev pub end_of_word : List ℕ → Result Ends Fault
end_of_word word = if bytes_eq word (codes "both") then Ok end.Both else one_end word

abbrev pub replay_of : Layout → List Row → Result Request Fault
replay_of how rows = do
  word ← needed (first_of (codes "end") rows)
  side ← end_of_word word
  Ok (File (Replay side how))

-- how recorded exchanges are drawn: as text, or as a picture if one is asked for
abbrev pub drawing_of : List Row → Drawing
drawing_of rows = if has_flag (codes "svg") rows then Picture else Ladder

-- the answer to reset of a card
abbrev pub atr_of : List Row → Result (List ℕ) Fault
atr_of rows = needed (first_of (codes "atr") rows) >>= octets_of_word

-- the answer to reset for an exchange that is made from blocks
abbrev pub record_of : List Row → Result Request Fault
record_of rows = atr_of rows >>= (λ atr. Ok (Record atr))

-- the ends to judge: both if there is no word
abbrev pub judged_ends : Option (List ℕ) → Result Ends Fault
judged_ends None = Ok end.Both
judged_ends (Some word) = one_end word

-- a clock of 1 to 1,000,000,000 hertz
abbrev pub hertz_of : Option ℕ → Result (Option ℕ) Fault
hertz_of None = Err Words
hertz_of (Some number) = if nat_le 1 number && nat_le number 1000000000 then Ok (Some number) else Err Words

abbrev pub clock_of : Option (List ℕ) → Result (Option ℕ) Fault
clock_of None = Ok None
clock_of (Some word) = hertz_of (decimal_number word)

-- what is judged, and how
abbrev pub judging_of : Layout → Ends → Option ℕ → List Row → Judging
judging_of how ends clock rows =
    record { ends = ends; clock = clock; rules = has_flag (codes "rules") rows; layout = how }

-- these come first, and then the answer to reset of the card on the line
abbrev pub judge_of : Layout → List Row → Result Request Fault
judge_of how rows = do
  ends ← judged_ends (first_of (codes "end") rows)
  clock ← clock_of (first_of (codes "clock") rows)
  atr ← atr_of rows
  Ok (Judge atr (judging_of how ends clock rows))

-- an information size, if there is a word for it
abbrev pub asked_size : Option (List ℕ) → Result (Option ℕ) Fault
asked_size None = Ok None
asked_size (Some word) = size_of (Some word) >>= (λ size. Ok (Some size))

-- the options first, then the answer to reset and the words for pairs, in their order
abbrev pub session_of : List (List ℕ) → List Row → Result Session Fault
session_of words rows = do
  ifsd ← asked_size (first_of (codes "ifsd") rows)
  lost ← blocks_of (first_of (codes "lose") rows)
  damaged ← blocks_of (first_of (codes "damage") rows)
  spoilt ← blocks_of (first_of (codes "spoil") rows)
  atr ← atr_of rows
  pairs ← pairs_of words
  Ok (record { atr = atr; ifsd = ifsd; pairs = pairs; lost = lost; damaged = damaged; spoilt = spoilt })

abbrev pub session_by : Bool → Session → Request
session_by are_lines session = if are_lines then SimulateLines session else Simulate session

-- where the pairs come from, and then the session, which has no pairs yet if they are lines
abbrev pub simulate_by : Option (List ℕ) → List (List ℕ) → List Row → Result Request Fault
simulate_by form words rows = do
  lines ← are_lines form words
  session ← session_of words rows
  Ok (session_by lines session)

abbrev pub simulate_of : List Row → Result Request Fault
simulate_of rows = simulate_by (first_of (codes "stdin") rows) (all_or_none (all_of (codes "pairs") rows)) rows

-- the request of a subcommand other than `check` and `show`
abbrev pub request_by : Layout → List ℕ → List Row → Result Request Fault
request_by how name rows =
    if bytes_eq name (codes "build") then build_of rows
    else (if bytes_eq name (codes "replay") then replay_of how rows
    else (if bytes_eq name (codes "migrate") then Ok (File Migrate)
    else (if bytes_eq name (codes "apdus") then Ok (File (Apdus how))
    else (if bytes_eq name (codes "draw") then Ok (File (Draw (drawing_of rows)))
    else (if bytes_eq name (codes "record") then record_of rows
    else (if bytes_eq name (codes "judge") then judge_of how rows
    else (if bytes_eq name (codes "simulate") then simulate_of rows
    else Err Words)))))))

-- a request as what is asked for
abbrev pub once_of : Result Request Fault → Result Asked Fault
once_of read = read >>= (λ request. Ok (Once request))

abbrev pub asked_by : Layout → List ℕ → List Row → Result Asked Fault
asked_by how name rows =
    if bytes_eq name (codes "check") then told_of how Check rows
    else (if bytes_eq name (codes "show") then told_of how (show_aim rows) rows
    else once_of (request_by how name rows))

-- what the subcommand and its rows ask for, in this layout
abbrev pub asked_of : Layout → Option (List ℕ × List Row) → Result Asked Fault
asked_of how None = Err Words
asked_of how (Some entered) = asked_by how entered.0 entered.1

-- what words ask for that the parser of command lines accepts
abbrev pub asked_for : List (List ℕ) → Result Asked Fault
asked_for words = asked_of (layout_of words) (subcommand_of scard words)

-- the information size is one that information fields may have, and a message to cut fits a chain
abbrev pub IsSized : Request → Type 0
IsSized (Tell task given) = IsFieldSize task.expected.ifs
IsSized (BuildChain ifs number message) = length message ≤ longest_message
IsSized _ = Unit {0}

abbrev pub AreSized : Asked → Type 0
AreSized (Once request) = IsSized request
AreSized (Lines task) = IsFieldSize task.expected.ifs

-- each number among the octets of a request is an octet
abbrev pub HasOctets : Request → Type 0
HasOctets (Tell task given) = GivesOctets given
HasOctets (BuildChain ifs number message) = AreOctets message
HasOctets (BuildTidy given) = GivesOctets given
HasOctets (BuildFill list known) = AreOctets list
HasOctets (File task) = Unit {0}
HasOctets (Record atr) = AreOctets atr
HasOctets (Judge atr judging) = AreOctets atr
HasOctets (Simulate session) = AreOctets session.atr × AreOctetPairs session.pairs
HasOctets (SimulateLines session) = AreOctets session.atr × AreOctetPairs session.pairs
HasOctets (Help help) = Unit {0}
HasOctets Version = Unit {0}

abbrev pub HaveOctets : Asked → Type 0
HaveOctets (Once request) = HasOctets request
HaveOctets (Lines task) = Unit {0}

-- a request that has a layout has this one
abbrev pub IsLaid : Layout → Request → Type 0
IsLaid how (Tell task given) = task.layout ≡ how
IsLaid how (File (Replay ends other)) = other ≡ how
IsLaid how (File (Apdus other)) = other ≡ how
IsLaid how (Judge atr judging) = judging.layout ≡ how
IsLaid how _ = Unit {0}

abbrev pub AreLaid : Layout → Asked → Type 0
AreLaid how (Once request) = IsLaid how request
AreLaid how (Lines task) = task.layout ≡ how

-- a request that needs standard input: octets, a file of recorded exchanges, blocks, or pairs
abbrev pub NeedsFile : Request → Type 0
NeedsFile (Tell task given) = IsFromReader given
NeedsFile (BuildTidy given) = IsFromReader given
NeedsFile (File task) = Unit {0}
NeedsFile (Record atr) = Unit {0}
NeedsFile (Judge atr judging) = Unit {0}
NeedsFile (SimulateLines session) = Unit {0}
NeedsFile _ = ⊥

-- a request whose octets are standard input itself
abbrev pub NeedsOctets : Request → Type 0
NeedsOctets (Tell task given) = IsAsRead given
NeedsOctets (BuildTidy given) = IsAsRead given
NeedsOctets _ = ⊥

-- a request for one text, and this holds of it
abbrev pub IsOnce : (Request → Type 0) → Asked → Type 0
IsOnce Needs (Once request) = Needs request
IsOnce Needs (Lines task) = ⊥

-- words that the parser of command lines accepts: words that ask for the version don't reach it
pub record AreTaken (words : List (List ℕ)) : Type 0 where
  pub parsed : asks_for_version words ≡ false
  pub free : fault_of scard words ≡ []

-- the parser accepts the words, and this holds of their request
abbrev pub AskFor : (Request → Type 0) → List (List ℕ) → Type 0
AskFor Needs words = AreTaken words × MatchResult (asked_for words) (IsOnce Needs) (λ _. ⊥)

abbrev pub AskForFile : List (List ℕ) → Type 0
AskForFile = AskFor NeedsFile

abbrev pub AskForOctets : List (List ℕ) → Type 0
AskForOctets = AskFor NeedsOctets

-- words that ask for this task on each line of standard input
abbrev pub AskForLines : Task → List (List ℕ) → Type 0
AskForLines task words = AreTaken words × (asked_for words ≡ Ok (Lines task))

abbrev pub HasOther : Kinds → Type 0
HasOther kinds = (kind : ErrorKind) × IsAmong kind kinds × (kind ≢ DisplayHelp)

-- What words are read as: the version, if they ask for it; what they ask for, if the parser of command lines accepts
-- them; some text, if the parser answers a call for help; else a fault.
pub data IsRead (words : List (List ℕ)) (read : Result Asked Fault) : Type 0 where
  called_for_version : asks_for_version words ≡ true → read ≡ Ok (Once Version) → IsRead words read
  taken : AreTaken words → read ≡ asked_for words → IsRead words read
  called_for_help : asks_for_version words ≡ false → IsAmong DisplayHelp (fault_of scard words) → (help : List ℕ)
      → read ≡ Ok (Once (Help help)) → IsRead words read
  not_taken : asks_for_version words ≡ false → HasOther (fault_of scard words) → read ≡ Err Words → IsRead words read

-- the result of a parse without matches, by the kind of its error
abbrev pub IsHelpOrFault : ErrorKind → Result Asked Fault → Type 0
IsHelpOrFault OutOfMemory read = read ≡ Err Memory
IsHelpOrFault DisplayHelp read = (read ≡ Err Memory) ⊎ ((help : List ℕ) × (read ≡ Ok (Once (Help help))))
IsHelpOrFault _ read = read ≡ Err Words
