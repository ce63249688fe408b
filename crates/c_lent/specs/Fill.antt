-- Data object lists that are filled, as C has them.
use Rattle.std.specs.Prelude.{◌≡◌, ℕ, ◌≤◌, ◌^◌, ◌==◌, ◌++◌, List, length, drop, All, if◌then◌else◌}
use Rattle.octet_core.specs.declared.format.Format.{Format}
use Rattle.octet_core.specs.declared.format.Format.TheVariants.{Numeric, CompressedNumeric, Other}
use Rattle.tlv_core.specs.Tag.{IsTag}
use Rattle.tlv_core.specs.Dol.{IsDol}
use Rattle.tlv_core.specs.Fill.{filled, HasDuplicate}
use Rattle.tlv_core.specs.declared.known.Known.{Known}
use Rattle.c_lent.specs.Verdict.{put_verdict, put_into}
use Rattle.c_lent.specs.Parts.{tag_of}
use Rattle.c_lent.specs.declared.verdict.Verdict.{Verdict}
use Rattle.c_lent.specs.declared.parts.CKnown.{CKnown}

abbrev pub format_of : ℕ → Format
format_of n = if n == 0 then Numeric else (if n == 1 then CompressedNumeric else Other)

-- the struct is a known value: its tag is a tag, and its format is 0 to 2
pub record IsKnown (c : CKnown) : Type 0 where
  pub tag : IsTag (tag_of c.tag)
  pub format : c.format ≤ 2

pub record AreKnown (known : List CKnown) : Type 0 where
  pub each : All IsKnown known

abbrev pub known_seen : CKnown → Known
known_seen c = record { tag = tag_of c.tag; format = format_of c.format; value = c.value.now }

-- the longest list that is filled
abbrev pub longest_list : ℕ
longest_list = 2 ^ 48

-- the octets that the list requests are put into the buffer
pub record Fills (list : List ℕ) (known : List Known) (old new : List ℕ) (v : Verdict) : Type 0 where
  pub entries : List (List ℕ × ℕ)
  pub spells : IsDol entries list
  pub unique : HasDuplicate known → ⊥
  pub verdict : v ≡ put_verdict (filled known entries) old
  pub buffer : new ≡ put_into (filled known entries) old

-- the list requests this many octets, and as many of them as fit are put into the buffer
pub record AreFilled (list : List ℕ) (known : List Known) (old new : List ℕ) (count : ℕ) : Type 0 where
  pub entries : List (List ℕ × ℕ)
  pub spells : IsDol entries list
  pub number : count ≡ length (filled known entries)
  pub size : length new ≡ length old
  pub buffer : count ≤ length old → new ≡ filled known entries ++ drop count old
