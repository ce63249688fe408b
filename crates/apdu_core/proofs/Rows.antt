-- Commands and responses, computed by the definitions.
use Rattle.std.proofs.Common.{◌≡◌, ℕ, ◌++◌, List, [], ◌∷◌, refl, arith, inl, inr}
use Rattle.octet_core.specs.Grammar.{IsFirst, whole, Accepts}
use Rattle.octet_core.proofs.Lists.{octets_by}
use Rattle.block_core.specs.declared.pcb.Number.TheVariants.{Zero}
use Rattle.chain_core.specs.Cut.{cut_of}
use Rattle.chain_core.specs.Chain as chain
use Rattle.apdu_core.specs.declared.reason.CommandReason.TheVariants.{Trailing}
use Rattle.apdu_core.specs.declared.status.StatusClass.TheVariants.{Normal, Warning, Execution, Checking, Proprietary, Invalid}
use Rattle.apdu_core.specs.declared.command.Body.{Body}
use Rattle.apdu_core.specs.declared.command.Body.TheVariants.{Empty, ShortLe, ShortPart, ShortBoth, LongLe, LongPart, LongBoth}
use Rattle.apdu_core.specs.Command.{CommandParts, IsCommand, IsReason, spelling}
use Rattle.apdu_core.specs.Response as response
use Rattle.apdu_core.specs.Response.{IsResponse}
use Rattle.apdu_core.specs.Status.{IsOfClass}

abbrev with : List ℕ → Body → CommandParts
with header body = record { header = header; body = body }

abbrev select : List ℕ
select = 0x00 ∷ 0xA4 ∷ 0x04 ∷ 0x00 ∷ []

abbrev read : List ℕ
read = 0x00 ∷ 0xB0 ∷ 0x00 ∷ 0x00 ∷ []

abbrev update : List ℕ
update = 0x00 ∷ 0xD6 ∷ 0x00 ∷ 0x00 ∷ []

abbrev aid : List ℕ
aid = 0xA0 ∷ 0x00 ∷ 0x00 ∷ 0x00 ∷ 0x04 ∷ 0x10 ∷ 0x10 ∷ []

-- case 1
pub case_1 : Accepts whole IsCommand (0x00 ∷ 0xA4 ∷ 0x04 ∷ 0x00 ∷ []) (with select Empty) 4
case_1 = (
  refl,
  record {
    proper = record { header = refl; fits = tt };
    octets = octets_by (spelling (with select Empty)) refl;
    is = refl;
  },
)

-- case 2 short, Le 00
pub case_2_short : Accepts whole IsCommand (0x00 ∷ 0xB0 ∷ 0x00 ∷ 0x00 ∷ 0x00 ∷ []) (with read (ShortLe 256)) 5
case_2_short = (
  refl,
  record {
    proper = record { header = refl; fits = (omega arith, omega arith) };
    octets = octets_by (spelling (with read (ShortLe 256))) refl;
    is = refl;
  },
)

-- case 2 extended, Le 0000
pub case_2_extended : Accepts whole IsCommand (0x00 ∷ 0xB0 ∷ 0x00 ∷ 0x00 ∷ 0x00 ∷ 0x00 ∷ 0x00 ∷ [])
    (with read (LongLe 65536)) 7
case_2_extended = (
  refl,
  record {
    proper = record { header = refl; fits = (omega arith, omega arith) };
    octets = octets_by (spelling (with read (LongLe 65536))) refl;
    is = refl;
  },
)

-- case 4 short
pub case_4_short : Accepts whole IsCommand
    (0x00 ∷ 0xA4 ∷ 0x04 ∷ 0x00 ∷ 0x07 ∷ 0xA0 ∷ 0x00 ∷ 0x00 ∷ 0x00 ∷ 0x04 ∷ 0x10 ∷ 0x10 ∷ 0x00 ∷ [])
    (with select (ShortBoth aid 256)) 13
case_4_short = (
  refl,
  record {
    proper = record { header = refl; fits = ((omega arith, omega arith), (omega arith, omega arith)) };
    octets = octets_by (spelling (with select (ShortBoth aid 256))) refl;
    is = refl;
  },
)

-- case 3 short
pub case_3_short : Accepts whole IsCommand
    (0x00 ∷ 0xA4 ∷ 0x04 ∷ 0x00 ∷ 0x08 ∷ 0xA0 ∷ 0x00 ∷ 0x00 ∷ 0x00 ∷ 0x04 ∷ 0x10 ∷ 0x10 ∷ 0x00 ∷ [])
    (with select (ShortPart (aid ++ 0 ∷ []))) 13
case_3_short = (
  refl,
  record {
    proper = record { header = refl; fits = (omega arith, omega arith) };
    octets = octets_by (spelling (with select (ShortPart (aid ++ 0 ∷ [])))) refl;
    is = refl;
  },
)

-- case 3 extended
pub case_3_extended : Accepts whole IsCommand (0x00 ∷ 0xD6 ∷ 0x00 ∷ 0x00 ∷ 0x00 ∷ 0x00 ∷ 0x02 ∷ 0x01 ∷ 0x02 ∷ [])
    (with update (LongPart (1 ∷ 2 ∷ []))) 9
case_3_extended = (
  refl,
  record {
    proper = record { header = refl; fits = (omega arith, omega arith) };
    octets = octets_by (spelling (with update (LongPart (1 ∷ 2 ∷ [])))) refl;
    is = refl;
  },
)

-- case 4 extended
pub case_4_extended : Accepts whole IsCommand
    (0x00 ∷ 0xD6 ∷ 0x00 ∷ 0x00 ∷ 0x00 ∷ 0x00 ∷ 0x02 ∷ 0x01 ∷ 0x02 ∷ 0x00 ∷ 0x00 ∷ [])
    (with update (LongBoth (1 ∷ 2 ∷ []) 65536)) 11
case_4_extended = (
  refl,
  record {
    proper = record { header = refl; fits = ((omega arith, omega arith), (omega arith, omega arith)) };
    octets = octets_by (spelling (with update (LongBoth (1 ∷ 2 ∷ []) 65536))) refl;
    is = refl;
  },
)

-- an octet after an extended Le, at place 7
pub after_long_le : IsReason Trailing (0x00 ∷ 0xB0 ∷ 0x00 ∷ 0x00 ∷ 0x00 ∷ 0x00 ∷ 0x00 ∷ 0x00 ∷ [])
unfolding IsFirst
after_long_le = inl (inr (inl (refl, refl, omega arith)), refl)

-- an octet after a short Le, at place 13
pub after_short_both : IsReason Trailing
    (0x00 ∷ 0xA4 ∷ 0x04 ∷ 0x00 ∷ 0x07 ∷ 0xA0 ∷ 0x00 ∷ 0x00 ∷ 0x00 ∷ 0x04 ∷ 0x10 ∷ 0x10 ∷ 0x00 ∷ 0x00 ∷ [])
unfolding IsFirst
after_short_both = inl (inl (λ e. omega (arith, e), omega arith), refl)

-- an octet after an extended Lc, its data and Le, at place 11
pub after_long_both : IsReason Trailing
    (0x00 ∷ 0xD6 ∷ 0x00 ∷ 0x00 ∷ 0x00 ∷ 0x00 ∷ 0x02 ∷ 0x01 ∷ 0x02 ∷ 0x00 ∷ 0x00 ∷ 0x00 ∷ [])
unfolding IsFirst
after_long_both = inl (inr (inr (refl, λ e. omega (arith, e), omega arith)), refl)

-- data after an extended Lc 0000, at place 7
pub zero_lc : IsReason Trailing (0x00 ∷ 0xD6 ∷ 0x00 ∷ 0x00 ∷ 0x00 ∷ 0x00 ∷ 0x00 ∷ 0xAA ∷ [])
unfolding IsFirst
zero_lc = inl (inr (inl (refl, refl, omega arith)), refl)

-- ---- responses

-- 90 00, without data
pub done : Accepts whole IsResponse (0x90 ∷ 0x00 ∷ []) (record { part = []; sw1 = 0x90; sw2 = 0x00 }) 2
done = (refl, record { proper = record { part = omega arith }; octets = octets_by (0x90 ∷ 0x00 ∷ []) refl; is = refl })

-- 9000 is normal
pub class-9000 : IsOfClass Normal 0x90 0x00
class-9000 = inl (refl, refl)

-- and so is 6110
pub class-6110 : IsOfClass Normal 0x61 0x10
class-6110 = inr refl

-- 6283 is a warning
pub class-6283 : IsOfClass Warning 0x62 0x83
class-6283 = (omega arith, omega arith)

-- 6400 is an execution error
pub class-6400 : IsOfClass Execution 0x64 0x00
class-6400 = (omega arith, omega arith)

-- 6A82 is a checking error
pub class-6A82 : IsOfClass Checking 0x6A 0x82
class-6A82 = (omega arith, omega arith)

-- 9101 is left to the card
pub class-9101 : IsOfClass Proprietary 0x91 0x01
class-9101 = ((omega arith, omega arith), λ e f. omega (arith, e))

-- 6000 is invalid
pub class-6000 : IsOfClass Invalid 0x60 0x00
class-6000 = inl (omega arith)

-- and so is 7000
pub class-7000 : IsOfClass Invalid 0x70 0x00
class-7000 = inr (inl (omega arith, omega arith))

-- ---- commands in chains

-- a command of five octets, in fields of two at most
pub select-chained : chain.spelling Zero (cut_of 2 (spelling (with select (ShortLe 256))))
    ≡ 0x00 ∷ 0x20 ∷ 0x02 ∷ 0x00 ∷ 0xA4 ∷ 0x86 ∷ 0x00 ∷ 0x60 ∷ 0x02 ∷ 0x04 ∷ 0x00 ∷ 0x66 ∷ 0x00 ∷ 0x00 ∷ 0x01 ∷ 0x00 ∷
    0x01 ∷ []
select-chained = refl

-- a response of two octets, in one field
pub done-chained : chain.spelling Zero (cut_of 254 (response.spelling (record { part = []; sw1 = 0x90; sw2 = 0x00 })))
    ≡ 0x00 ∷ 0x00 ∷ 0x02 ∷ 0x90 ∷ 0x00 ∷ 0x92 ∷ []
done-chained = refl
