-- Where a list that may go on after its block is refused, and the block that it begins with.
use Rattle.std.proofs.Common.{◌≡◌, ◌≢◌, ℕ, ◌+◌, ◌-◌, ◌<◌, ◌≤◌, ◌⊎◌, List, take, drop, length, get_or, ap, arith}
use Rattle.octet_core.specs.Grammar.{RefusesAt, self_ended}
use Rattle.octet_core.specs.Octets.{AreOctets, xor_of}
use Rattle.octet_core.proofs.Lists.{octets-take}
use Rattle.std.proofs.lemmas.List.{length-take}
use Rattle.octet_core.specs.declared.stop.Stop.TheVariants.{At}
use Rattle.block_core.specs.Block.{IsBlock, IsReason, IsAboutIfs, IsLenFault, pcb_octet}
use Rattle.block_core.specs.Stage.{IsHeaded, IsSized}
use Rattle.block_core.specs.declared.pcb.Pcb.{Pcb}
use Rattle.block_core.specs.declared.reason.BlockReason.{BlockReason}
use Rattle.block_core.specs.declared.reason.BlockReason.TheVariants.{BadPcb, BadIfs, BadLrc}
use Rattle.block_core.proofs.Blocks as blocks

-- no block goes on with the octet at this place
abbrev pub IsRefusedAt : ℕ → List ℕ → ℕ → BlockReason → Type 0
IsRefusedAt ifs b place reason = RefusesAt self_ended (IsBlock ifs) (IsReason ifs) b (At place reason)

-- a second octet that is no PCB is refused at its place
pub refused-at-pcb : (ifs : ℕ) (b : List ℕ) → AreOctets b → 2 ≤ length b → ((p : Pcb) → pcb_octet p ≡ get_or b 1 0 → ⊥)
    → IsRefusedAt ifs b 1 BadPcb
refused-at-pcb ifs b octets long unknown =
    let stuck = blocks.stuck-pcb ifs b long unknown in (
      record {
        none = blocks.none-early ifs b 1 (omega arith) stuck;
        inside = omega arith;
        begun = blocks.begun-lt2 ifs (take 1 b) (octets-take 1 b octets) (omega (arith, length-take 1 b));
        stuck = stuck;
      },
      blocks.reason-pcb ifs b long unknown,
    )

-- so is a LEN that is wrong for its PCB, where the information size is 254 at most
pub refused-at-len : (ifs : ℕ) (b : List ℕ) (p : Pcb) (r : BlockReason) → ifs ≤ 254 → AreOctets b → 3 ≤ length b
    → pcb_octet p ≡ get_or b 1 0 → IsLenFault ifs p (get_or b 2 0) r → IsRefusedAt ifs b 2 r
refused-at-len ifs b p r small octets long kind fault =
    let stuck = blocks.stuck-len ifs b p r small long kind fault in (
      record {
        none = blocks.none-early ifs b 2 (omega arith) stuck;
        inside = omega arith;
        begun = blocks.begun-two ifs p b octets (omega arith) kind;
        stuck = stuck;
      },
      blocks.reason-len ifs b p r long kind fault,
    )

-- so is an information size of 0 or 255, where PCB and LEN fit each other
pub refused-at-size : (ifs : ℕ) (b : List ℕ) (p : Pcb) → AreOctets b → 4 ≤ length b → IsHeaded ifs p b → IsAboutIfs p
    → (get_or b 3 0 ≡ 0) ⊎ (get_or b 3 0 ≡ 255) → IsRefusedAt ifs b 3 BadIfs
refused-at-size ifs b p octets long head about bad =
    let stuck = blocks.stuck-size ifs b p long head.kind about bad in
    let len = blocks.len-about ifs p (get_or b 2 0) about head.fits in (
      record {
        none = blocks.none-early ifs b 3 (omega arith) stuck;
        inside = omega arith;
        begun = blocks.begun-by ifs 3 p b octets (omega arith) (omega arith) (omega arith) head.kind head.fits
            (λ a lt. absurd (omega arith));
        stuck = stuck;
      },
      blocks.reason-size ifs b p long head.kind about bad,
    )

-- so is an LRC with which the exclusive-or isn't 0, where PCB, LEN and an information size suit
pub refused-at-lrc : (ifs end : ℕ) (b : List ℕ) (p : Pcb) → AreOctets b → end < length b → end ≡ 3 + get_or b 2 0
    → IsHeaded ifs p b → IsSized p (get_or b 3 0) → xor_of (take (end + 1) b) ≢ 0 → IsRefusedAt ifs b end BadLrc
refused-at-lrc ifs end b p octets long end-is head sized bad =
    let stuck = blocks.stuck-lrc ifs (end + 1) b (omega arith) (omega arith) bad in (
      record {
        none = blocks.none-last ifs (end + 1) b (omega arith) stuck;
        inside = long;
        begun = blocks.begun-by ifs end p b octets (omega arith) (omega arith) (omega arith) head.kind head.fits
            (λ about lt. sized about);
        stuck = stuck;
      },
      blocks.reason-lrc ifs (end + 1) b p (omega arith) (omega arith) head.kind head.fits bad,
    )

-- and where it is 0, the octets up to the LRC are a block, with the field between LEN and LRC
pub begun-with : (ifs end : ℕ) (b : List ℕ) (p : Pcb) → AreOctets b → end < length b → end ≡ 3 + get_or b 2 0
    → IsHeaded ifs p b → IsSized p (get_or b 3 0) → xor_of (take (end + 1) b) ≡ 0
    → IsBlock ifs (record { nad = get_or b 0 0; pcb = p; inf = take (end - 3) (drop 3 b) }) (take (end + 1) b)
begun-with ifs end b p octets long end-is head sized sum =
    let inf-is : take (end - 3) (drop 3 b) ≡ take (get_or b 2 0) (drop 3 b) =
    ap (λ (k : ℕ). take k (drop 3 b)) (let e : end - 3 ≡ get_or b 2 0 = omega arith in e) in
    blocks.found ifs (end + 1) p b (take (end - 3) (drop 3 b)) octets (omega arith) (omega arith) inf-is head.kind
    head.fits sized sum
