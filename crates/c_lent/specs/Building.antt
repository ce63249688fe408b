-- Headers of data objects and entries of lists that are put into a buffer.
use Rattle.std.specs.Prelude.{◌≡◌, ℕ, List}
use Rattle.tlv_core.specs.Form.{shortest}
use Rattle.tlv_core.specs.Tag.{header_of}
use Rattle.c_lent.specs.Verdict.{put_verdict, put_into}
use Rattle.c_lent.specs.declared.verdict.Verdict.{Verdict}

-- these octets are put into a buffer
pub record PutsOctets (octets old new : List ℕ) (v : Verdict) : Type 0 where
  pub verdict : v ≡ put_verdict octets old
  pub buffer : new ≡ put_into octets old

-- a tag, and the shortest length field for this many octets
abbrev pub shortest_header : List ℕ → ℕ → List ℕ
shortest_header tag len = header_of tag (shortest len) len
