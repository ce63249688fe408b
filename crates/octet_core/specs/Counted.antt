-- What contracts see of a counted reader or writer.
use Rattle.std.specs.Prelude.{ℕ}
use Rattle.octet_core.specs.declared.counted.Counted.{Counted}

module _ {T : Type 0} where
  abbrev pub inner_of : Counted T → T
  inner_of c = c.inner

  abbrev pub failures_of : Counted T → ℕ
  failures_of c = c.failures
