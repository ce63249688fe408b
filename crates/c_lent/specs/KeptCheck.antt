-- The state of a check of a forest as C keeps it.
use Rattle.std.specs.Prelude.{◌≡◌, ℕ, ◌==◌, if◌then◌else◌, List, [], take, slice_index, nat_lt, Option, Some, None}
use Rattle.tlv_core.specs.declared.form.Form.{Form}
use Rattle.tlv_core.specs.declared.form.Form.TheVariants.{One, Two, Three, Four, Five}
use Rattle.tlv_core.specs.declared.header.Header.{Header}
use Rattle.tlv_core.specs.declared.header.Header.TheVariants as header
use Rattle.tlv_core.specs.declared.reason.TlvReason.{TlvReason}
use Rattle.tlv_core.specs.declared.reason.TlvReason.TheVariants.{TooDeep, TagSecond, TagLong, LengthForm, Overrun, TooLong}
use Rattle.tlv_core.specs.declared.lent.LentCheck.{LentCheck}
use Rattle.tlv_core.specs.Check.{Checked}
use Rattle.tlv_core.specs.Lent.{IsLentCheck, checked_at}
use Rattle.c_lent.specs.declared.kept_check.CHeader.{CHeader}
use Rattle.c_lent.specs.declared.kept_check.CCheck.{CCheck}

-- why an octet was refused, by its number, 0 if none was
abbrev pub refused_of : ℕ → Option (Option TlvReason)
refused_of n =
    if n == 0 then Some None
    else (if n == 1 then Some (Some TooDeep)
    else (if n == 2 then Some (Some TagSecond)
    else (if n == 3 then Some (Some TagLong)
    else (if n == 4 then Some (Some LengthForm)
    else (if n == 5 then Some (Some Overrun)
    else (if n == 6 then Some (Some TooLong) else None))))))

-- the form of a length field, by its number of octets
abbrev pub form_of : ℕ → Option Form
form_of n =
    if n == 1 then Some One
    else (if n == 2 then Some Two
    else (if n == 3 then Some Three
    else (if n == 4 then Some Four
    else (if n == 5 then Some Five else None))))

-- the octets of a tag: empty if the count is above three
abbrev pub tag_of : CHeader → List ℕ
tag_of h = if nat_lt 3 h.tag_count then [] else take h.tag_count h.tag

abbrev pub sized_from : CHeader → Option Form → Option Header
sized_from h None = None
sized_from h (Some form) = Some (header.Sized (tag_of h) form h.read h.number)

-- the header that is being read, if the state spells one
abbrev pub header_of : CHeader → Option Header
header_of h =
    if h.kind == 0 then Some header.Nothing
    else (if h.kind == 1 then Some (header.First (slice_index h.tag 0))
    else (if h.kind == 2 then Some (header.Second (slice_index h.tag 0) (slice_index h.tag 1))
    else (if h.kind == 3 then Some (header.Tagged (tag_of h))
    else (if h.kind == 4 then sized_from h (form_of h.form) else None))))

-- the numbers of a length field are 0 unless one is being read
abbrev pub IsUnused : Header → CHeader → Type 0
IsUnused (header.Sized tag form read number) h = Unit {0}
IsUnused _ h = (h.form ≡ 0) × (h.read ≡ 0) × (h.number ≡ 0)

abbrev pub check_from : CCheck → Option Header → Option (Option TlvReason) → Option LentCheck
check_from c (Some header) (Some refused) = Some (record {
  max = c.max;
  count = c.count;
  ends = c.ends;
  level = c.level;
  header = header;
  value_left = c.value_left;
  refused = refused;
})
check_from c header refused = None

-- the check that a state spells, if any
abbrev pub check_of : CCheck → Option LentCheck
check_of c = check_from c (header_of c.header) (refused_of c.refused)

-- A state is this check. If it isn't a check, this holds for no check.
pub record IsCheck (c : CCheck) (k : Checked) : Type 0 where
  pub check : LentCheck
  pub spelled : check_of c ≡ Some check
  pub fit : IsLentCheck check
  pub held : k ≡ checked_at check
