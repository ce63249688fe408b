-- What the program prints about octets: the verdict on them as what is said, and a status.
use Rattle.std.specs.Prelude.{◌≡◌, ◌++◌, ℕ, List, Bool, true, false, Result, Ok, Err, codes}
use Rattle.octet_core.specs.declared.stop.Stop.{Stop}
use Rattle.octet_core.specs.Grammar.{whole, Refuses}
use Rattle.program_octets.specs.Texts.{accepted_text, refused_text, stopped}
use Rattle.answer_json.specs.Refusals.{verdict_first}
use Rattle.program_octets.specs.Sayings.{faulted, refused_twice, told_in}
use Rattle.program_octets.specs.declared.said.Said.{Said}
use Rattle.program_octets.specs.declared.said.Said.TheVariants as saying
use Rattle.program_octets.specs.Json.{accepted_members, object_line}
use Rattle.program_octets.specs.Codec.{Codec, said_in, Stops, Takes}
use Rattle.program_octets.specs.Rows.{lines_of}
use Rattle.program_octets.specs.AtrTexts.{atr_codec}
use Rattle.program_octets.specs.BlockTexts.{block_codec}
use Rattle.program_octets.specs.ChainTexts.{chain_codec}
use Rattle.program_octets.specs.CommandTexts.{command_codec}
use Rattle.program_octets.specs.ResponseTexts.{response_codec}
use Rattle.program_octets.specs.ForestTexts.{forest_codec, tidied_text}
use Rattle.program_octets.specs.ListTexts.{list_codec, filled_text}
use Rattle.program_octets.specs.ListTexts as list_texts
use Rattle.notes.specs.Noted.{noted_line}
use Rattle.tlv_core.specs.Dol.{IsDol, IsDolReason}
use Rattle.tlv_core.specs.Fill.{filled, HasDuplicate}
use Rattle.tlv_core.specs.declared.known.Known.{Known}
use Rattle.tlv_core.specs.declared.reason.DolReason.{DolReason}
use Rattle.program_octets.specs.declared.status.Status.{Status}
use Rattle.program_octets.specs.declared.status.Status.TheVariants as status
use Rattle.program_words.specs.declared.fault.Fault.{Fault}
use Rattle.program_words.specs.declared.request.Kind.{Kind}
use Rattle.program_words.specs.declared.request.Kind.TheVariants.{Atr, Block, Chain, Command, Response, Tlv, Dol}
use Rattle.program_words.specs.declared.request.Expected.{Expected}
use Rattle.layouts.specs.declared.layout.Layout.{Layout}
use Rattle.layouts.specs.declared.layout.Layout.TheVariants.{Lines, Json}

-- what is said with which status for the verdict on octets, by what is said of a value and of a refusal
pub data TellsBy {A V R : Type 0} (c : Codec V R) (told : V → ℕ → A) (untold : Stop R → A) (b : List ℕ) (said : A)
    (ended : Status) : Type 0 where
  accepted : (v : V) (n : ℕ) → Takes c b v n → said ≡ told v n → ended ≡ status.Accepted
      → TellsBy c told untold b said ended
  refused : (stop : Stop R) → Stops c b stop → said ≡ untold stop → ended ≡ status.Refused
      → TellsBy c told untold b said ended

-- the lines of a value, or the refusal
abbrev pub Tells : {V R : Type 0} → Codec V R → (V → ℕ → List ℕ) → List ℕ → Said → Status → Type 0
Tells c told b said ended =
    TellsBy c (λ v n. saying.Text (told v n)) (λ stop. saying.Refusal (stopped c.name stop)) b said ended

-- a codec with its types of values and reasons
pub record Judging : Type 1 where
  pub Value : Type 0
  pub Reason : Type 0
  pub codec : Codec Value Reason

abbrev judging : {V R : Type 0} → Codec V R → Judging
judging c = record { Value = _; Reason = _; codec = c }

-- the codec of a kind
abbrev pub codec_of : Kind → Expected → Judging
codec_of Atr expected = judging atr_codec
codec_of Block expected = judging (block_codec expected.ifs)
codec_of Chain expected = judging (chain_codec expected.ifs expected.number)
codec_of Command expected = judging command_codec
codec_of Response expected = judging response_codec
codec_of Tlv expected = judging forest_codec
codec_of Dol expected = judging list_codec

-- ---- in each layout

-- the name of a kind
abbrev pub kind_name : Kind → List ℕ
kind_name Atr = codes "atr"
kind_name Block = codes "block"
kind_name Chain = codes "chain"
kind_name Command = codes "command"
kind_name Response = codes "response"
kind_name Tlv = codes "tlv"
kind_name Dol = codes "dol"

-- the octets are a value of n octets, in each layout
abbrev pub accepted_in : Layout → Kind → ℕ → Said
accepted_in Lines kind n = saying.Text (accepted_text n)
accepted_in Json kind n = saying.Object (object_line (kind_name kind) (accepted_members n))

-- a value of n octets with this text, in each layout
abbrev pub laid_out : Layout → Kind → List ℕ → ℕ → List ℕ
laid_out Lines kind said n = said
laid_out Json kind said n = object_line (kind_name kind) (accepted_members n ++ said)

abbrev pub shown_in : {V R : Type 0} → Bool → Layout → Kind → Codec V R → V → ℕ → List ℕ
shown_in noted layout kind c v n = laid_out layout kind (said_in noted layout c v n) n

-- a refusal, in each layout
abbrev pub refused_in : {R : Type 0} → Layout → Kind → (R → List ℕ) → Stop R → Said
refused_in Lines kind name stop = saying.Refusal (stopped name stop)
refused_in Json kind name stop = saying.Object (object_line (kind_name kind) (verdict_first (stopped name stop)))

-- what is printed about octets by a codec: how many of them the value takes
abbrev pub ChecksBy : {V R : Type 0} → Layout → Kind → Codec V R → List ℕ → Said → Status → Type 0
ChecksBy layout kind c b = TellsBy c (λ v n. accepted_in layout kind n) (refused_in layout kind c.name) b

-- the status for a verdict
abbrev pub status_of : {R : Type 0} → Result ℕ (Stop R) → Status
status_of (Ok n) = status.Accepted
status_of (Err stop) = status.Refused

-- the value itself, with the notes on its lines if it is noted
abbrev pub ShowsBy : {V R : Type 0} → Bool → Layout → Kind → Codec V R → List ℕ → Said → Status → Type 0
ShowsBy noted layout kind c b =
    TellsBy c (λ v n. told_in layout (shown_in noted layout kind c v n)) (refused_in layout kind c.name) b

-- the value as lines with notes, or a refusal with these words as a note
abbrev pub NotesBy : {V R : Type 0} → Codec V R → List ℕ → List ℕ → List ℕ → Status → Type 0
NotesBy c words b = TellsBy c (λ v n. lines_of true (c.rows v n)) (λ stop. noted_line (refused_text c.name stop) words)
    b

-- how many octets the value takes, and the value itself, by a kind
abbrev pub Checks : Layout → Kind → Expected → List ℕ → Said → Status → Type 0
Checks layout kind expected b = ChecksBy layout kind (codec_of kind expected).codec b

abbrev pub ShowsWhere : Bool → Layout → Kind → Expected → List ℕ → Said → Status → Type 0
ShowsWhere noted layout kind expected b = ShowsBy noted layout kind (codec_of kind expected).codec b

abbrev pub Shows : Layout → Kind → Expected → List ℕ → Said → Status → Type 0
Shows layout kind expected b = ShowsWhere false layout kind expected b

-- the shortest encoding of a forest's objects
abbrev pub Tidies : List ℕ → Said → Status → Type 0
Tidies b = Tells forest_codec (λ v n. tidied_text v) b

-- the answer for a list: a fault of the known values, then two of them with the same tag, else the octets that fill it
pub data IsFilledBy (known : Result (List Known) Fault) (entries : List (List ℕ × ℕ)) (said : Said) (ended : Status) :
    Type 0 where
  unknown : (fault : Fault) → known ≡ Err fault → said ≡ faulted fault → ended ≡ status.Fault
      → IsFilledBy known entries said ended
  duplicate : (values : List Known) → known ≡ Ok values → HasDuplicate values → said ≡ refused_twice
      → ended ≡ status.Refused → IsFilledBy known entries said ended
  full : (values : List Known) → known ≡ Ok values → (HasDuplicate values → ⊥)
      → said ≡ saying.Text (filled_text (filled values entries)) → ended ≡ status.Accepted
      → IsFilledBy known entries said ended

-- the answer for the octets of a list, which may be refused
pub data IsFilled (b : List ℕ) (known : Result (List Known) Fault) (said : Said) (ended : Status) : Type 0 where
  listed : (entries : List (List ℕ × ℕ)) → IsDol entries b → IsFilledBy known entries said ended
      → IsFilled b known said ended
  no_list : (stop : Stop DolReason) → Refuses whole IsDol IsDolReason b stop
      → said ≡ saying.Refusal (stopped list_texts.reason_text stop) → ended ≡ status.Refused
      → IsFilled b known said ended
