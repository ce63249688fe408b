-- The state of a check of a forest, as contracts see it.
use Rattle.tlv_core.specs.declared.checking.Checking.{Checking}
use Rattle.tlv_core.specs.Progress.{kept_of}
use Rattle.tlv_core.specs.Check.{Checked, refusal_at}

-- the state, with a refusal at the octet after those that came, if there is one
abbrev pub checked_of : Checking → Checked
checked_of c = record { kept = kept_of c.progress; refusal = refusal_at c.progress.ends.count c.refused }
