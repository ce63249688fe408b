-- Data object lists as C has them.
use Rattle.std.specs.Prelude.{◌≡◌, ℕ, List, length, map}
use Rattle.tlv_core.specs.Dol.{IsDol}
use Rattle.c_lent.specs.Verdict.{put_verdict, filled}
use Rattle.c_lent.specs.Parts.{tag_shown}
use Rattle.c_lent.specs.declared.verdict.Verdict.{Verdict}
use Rattle.c_lent.specs.declared.dol.CEntry.{CEntry}

-- all the octets are a data object list
abbrev pub IsSomeDol : List ℕ → Type 0
IsSomeDol octets = (entries : List (List ℕ × ℕ)) × IsDol entries octets

-- the struct of an entry: its tag and its length
abbrev pub entry_shown : List ℕ × ℕ → CEntry
entry_shown entry = record { tag = tag_shown entry.0; len = entry.1 }

-- all the octets are a list, and as many of its entries as fit are put into the array
pub record PutsEntries (octets : List ℕ) (old new : List CEntry) (v : Verdict) : Type 0 where
  pub entries : List (List ℕ × ℕ)
  pub list : IsDol entries octets
  pub verdict : v ≡ put_verdict (map entry_shown entries) old
  pub array : new ≡ filled (map entry_shown entries) old

-- all the octets are a list with this many entries, and as many of them as fit are put into the array
pub record ArePut (octets : List ℕ) (old new : List CEntry) (count : ℕ) : Type 0 where
  pub entries : List (List ℕ × ℕ)
  pub list : IsDol entries octets
  pub number : count ≡ length (map entry_shown entries)
  pub array : new ≡ filled (map entry_shown entries) old
