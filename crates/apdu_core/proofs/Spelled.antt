-- What fits the length fields has a spelling.
use Rattle.std.proofs.Common.{◌≡◌, ◌++◌, ◌∷◌, ◌<◌, ◌≤◌, ◌/◌, ◌%◌, ℕ, List, [], length, refl, arith}
use Rattle.octet_core.specs.Octets.{AreOctets}
use Rattle.octet_core.proofs.Lists.{octets-append, octets-cons}
use Rattle.apdu_core.specs.declared.command.Body.{Body}
use Rattle.apdu_core.specs.declared.command.Body.TheVariants.{Empty, ShortLe, ShortPart, ShortBoth, LongLe, LongPart, LongBoth}
use Rattle.apdu_core.specs.Command as command
use Rattle.apdu_core.specs.Command.{FitsFields, body_octets, part_of, short_of, long_of}
use Rattle.apdu_core.specs.Response as response

octets-nil : AreOctets []
octets-nil i = omega arith

octets-short : (n : ℕ) → AreOctets (short_of n)
octets-short n = octets-cons (n % 256) [] (omega arith) octets-nil

octets-long : (n : ℕ) → AreOctets (long_of n)
octets-long n = octets-cons (n / 256 % 256) (n % 256 ∷ []) (omega arith) (octets-short n)

octets-body : (body : Body) → FitsFields body → AreOctets (part_of body) → AreOctets (body_octets body)
octets-body Empty h p = octets-nil
octets-body (ShortLe le) h p = octets-short le
octets-body (ShortPart part) h p = octets-cons (length part) part (omega (arith, h.1)) p
octets-body (ShortBoth part le) h p = octets-cons (length part) (part ++ short_of le) (omega (arith, h.0.1))
    (octets-append part (short_of le) p (octets-short le))
octets-body (LongLe le) h p = octets-cons 0 (long_of le) (omega arith) (octets-long le)
octets-body (LongPart part) h p = octets-cons 0 (long_of (length part) ++ part) (omega arith)
    (octets-append (long_of (length part)) part (octets-long (length part)) p)
octets-body (LongBoth part le) h p =
    octets-cons 0 (long_of (length part) ++ part ++ long_of le) (omega arith)
    (octets-append (long_of (length part) ++ part) (long_of le)
    (octets-append (long_of (length part)) part (octets-long (length part)) p) (octets-long le))

-- a header of four octets has a spelling with each body whose numbers fit its length fields
pub command-spelled : (header : List ℕ) (body : Body) → length header ≡ 4 → AreOctets header → FitsFields body
    → AreOctets (part_of body) → command.HasSpelling (record { header = header; body = body })
command-spelled header body four octets fits part = (
  header ++ body_octets body,
  record {
    proper = record { header = four; fits = fits };
    octets = octets-append header (body_octets body) octets (octets-body body fits part);
    is = refl;
  },
)

-- and at most 65,536 octets of data have one with each pair of status bytes
pub response-spelled : (part : List ℕ) (sw1 sw2 : ℕ) → length part ≤ 65536 → AreOctets part → sw1 < 256 → sw2 < 256
    → response.HasSpelling (record { part = part; sw1 = sw1; sw2 = sw2 })
response-spelled part sw1 sw2 fits octets first second = (
  part ++ sw1 ∷ sw2 ∷ [],
  record {
    proper = record { part = fits };
    octets = octets-append part (sw1 ∷ sw2 ∷ []) octets
        (octets-cons sw1 (sw2 ∷ []) first (octets-cons sw2 [] second octets-nil));
    is = refl;
  },
)
