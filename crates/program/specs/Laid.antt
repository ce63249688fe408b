-- Answers in each layout.
use Rattle.std.specs.Prelude.{ℕ, List}
use Rattle.program_octets.specs.Json.{object_line}
use Rattle.program_octets.specs.declared.said.Said.{Said}
use Rattle.program_octets.specs.declared.said.Said.TheVariants as saying
use Rattle.layouts.specs.declared.layout.Layout.{Layout}
use Rattle.layouts.specs.declared.layout.Layout.TheVariants.{Lines, Json}

-- what is said about a subject: lines as they are, or the object with these members
abbrev pub laid : Layout → List ℕ → List ℕ → Said
laid Lines about lines = saying.Text lines
laid Json about members = saying.Object (object_line about members)
