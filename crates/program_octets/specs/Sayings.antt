-- What an answer says, in each layout.
use Rattle.std.specs.Prelude.{ℕ, List, ◌++◌, codes}
use Rattle.answer_json.specs.Refusals.{line_of, members_of}
use Rattle.answer_json.specs.Strings.{line_strings}
use Rattle.answer_json.specs.declared.refusal.Refusal.TheVariants.{Whole, Fault}
use Rattle.layouts.specs.declared.layout.Layout.{Layout}
use Rattle.layouts.specs.declared.layout.Layout.TheVariants.{Lines, Json}
use Rattle.program_words.specs.declared.fault.Fault.{Fault as AnyFault}
use Rattle.program_words.specs.Texts.{fault_name}
use Rattle.program_octets.specs.Json.{object_head, object_line}
use Rattle.program_octets.specs.declared.said.Said.{Said}
use Rattle.program_octets.specs.declared.said.Said.TheVariants as saying

-- ---- in each layout

-- as lines; an object is one line already
abbrev pub text_of : Said → List ℕ
text_of (saying.Text text) = text
text_of (saying.Object object) = object
text_of (saying.Refusal refusal) = line_of refusal

-- an object with lines as strings, unchanged
abbrev pub object_with_lines : List ℕ → List ℕ → List ℕ
object_with_lines about lines = object_head about
    ++ (codes "\"verdict\":\"ok\",\"lines\":[" ++ (line_strings lines ++ codes "]}\n"))

-- as an object about a subject, in one line
abbrev pub object_of : List ℕ → Said → List ℕ
object_of about (saying.Text lines) = object_with_lines about lines
object_of about (saying.Object object) = object
object_of about (saying.Refusal refusal) = object_line about (members_of refusal)

-- ---- what is said

-- what is written in a layout: lines, or an object
abbrev pub told_in : Layout → List ℕ → Said
told_in Lines text = saying.Text text
told_in Json object = saying.Object object

-- the whole is refused, by this name
abbrev pub refused_as : List ℕ → Said
refused_as name = saying.Refusal (Whole name)

-- two known values have the same tag
abbrev pub refused_twice : Said
refused_twice = refused_as (codes "Duplicate")

-- the program can't answer, by this fault
abbrev pub faulted : AnyFault → Said
faulted fault = saying.Refusal (Fault (fault_name fault))
