-- Properties of PCB and of a field, computed.
use Rattle.std.specs.Prelude.{ℕ, List, [], ◌∷◌, length, Bool, true, false, ◌&&◌, ◌==◌, nat_le, if◌then◌else◌, Option, Some, None}
use Rattle.block_core.specs.Block.{pcb_octet}
use Rattle.block_core.specs.declared.pcb.Number.TheVariants.{Zero, One}
use Rattle.block_core.specs.declared.pcb.Fault.TheVariants.{Free, Redundancy, Other}
use Rattle.block_core.specs.declared.pcb.S.{S}
use Rattle.block_core.specs.declared.pcb.S.TheVariants.{Resynch, Ifs, Abort, Wtx}
use Rattle.block_core.specs.declared.pcb.Pcb.{Pcb}
use Rattle.block_core.specs.declared.pcb.Pcb.TheVariants.{Info, Ready, Request, Response}

-- the 18 values of PCB
abbrev pub all_pcbs : List Pcb
all_pcbs =
    Info Zero false ∷ Info Zero true ∷ Info One false ∷ Info One true
    ∷ Ready Zero Free ∷ Ready Zero Redundancy ∷ Ready Zero Other
    ∷ Ready One Free ∷ Ready One Redundancy ∷ Ready One Other
    ∷ Request Resynch ∷ Request Ifs ∷ Request Abort ∷ Request Wtx
    ∷ Response Resynch ∷ Response Ifs ∷ Response Abort ∷ Response Wtx ∷ []

-- the first kind of a list that has this octet
abbrev pub pcb_among : List Pcb → ℕ → Option Pcb
pcb_among [] octet = None
pcb_among (pcb ∷ pcbs) octet = if pcb_octet pcb == octet then Some pcb else pcb_among pcbs octet

-- the field of an S-block suits it
abbrev pub suits_about : S → List ℕ → Bool
suits_about Ifs (size ∷ []) = nat_le 1 size && nat_le size 254
suits_about Wtx (multiple ∷ []) = true
suits_about Resynch [] = true
suits_about Abort [] = true
suits_about kind inf = false

abbrev pub suits : ℕ → Pcb → List ℕ → Bool
suits size (Info number goes_on) inf = nat_le (length inf) size
suits size (Ready number fault) inf = length inf == 0
suits size (Request kind) inf = suits_about kind inf
suits size (Response kind) inf = suits_about kind inf
