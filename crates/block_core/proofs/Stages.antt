-- How a block gets on by stages, and where it is refused.
use Rattle.std.proofs.Common.{◌≡◌, ◌≢◌, ℕ, ◌+◌, ◌-◌, ◌<◌, ◌≤◌, List, ◌++◌, length, take, drop, get_or, sym, ap, subst, ◌∙◌, arith, ◌⊎◌}
use Rattle.std.proofs.lemmas.List.{length-append, get_or_append_left}
use Rattle.std.proofs.Math.Seq.{take-length}
use Rattle.octet_core.specs.Octets.{AreOctets, xor_of}
use Rattle.block_core.specs.Block.{IsBlock, IsAboutIfs, IsLenFault, FitsLen, pcb_octet}
use Rattle.block_core.specs.Stage.{IsAt, IsHeaded, IsSized, IsRefused, tested_len, refusal_at}
use Rattle.block_core.specs.Taking.{IsOpen}
use Rattle.block_core.specs.declared.pcb.Pcb.{Pcb}
use Rattle.block_core.specs.declared.reason.BlockReason.{BlockReason}
use Rattle.block_core.specs.declared.reason.BlockReason.TheVariants.{BadPcb, BadIfs, BadLrc}
use Rattle.block_core.specs.declared.stage.Stage.{Stage}
use Rattle.block_core.specs.declared.stage.Stage.TheVariants.{Front, Len, Size, Rest, Done, Refused}
use Rattle.block_core.proofs.Places.{IsRefusedAt, refused-at-pcb, refused-at-len, refused-at-size, refused-at-lrc, begun-with}

all-of : (n : ℕ) (b : List ℕ) → length b ≡ n → take n b ≡ b
all-of n b e = ap (λ (k : ℕ). take k b) (sym e) ∙ take-length b

-- ---- refusals at the last of the octets

at-last : (ifs place : ℕ) (b : List ℕ) (r : BlockReason) → length b ≡ place + 1
    → IsRefusedAt ifs b place r → IsRefused ifs b r
at-last ifs place b r len refused =
    let last : place ≡ length b - 1 = omega arith in
    subst (λ (p : ℕ). IsRefusedAt ifs b p r) last refused

-- two octets are refused at the last where it is no PCB
pub refused-pcb : (ifs : ℕ) (b : List ℕ) → AreOctets b → length b ≡ 2 → ((p : Pcb) → pcb_octet p ≡ get_or b 1 0 → ⊥)
    → IsRefused ifs b BadPcb
refused-pcb ifs b octets len unknown = at-last ifs 1 b BadPcb len (refused-at-pcb ifs b octets (omega arith) unknown)

-- three octets are refused at the last where it is a LEN that is wrong for its PCB,
-- and the information size is 254 at most
pub refused-len : (ifs : ℕ) (b : List ℕ) (p : Pcb) (r : BlockReason) → ifs ≤ 254 → AreOctets b → length b ≡ 3
    → pcb_octet p ≡ get_or b 1 0 → IsLenFault ifs p (get_or b 2 0) r → IsRefused ifs b r
refused-len ifs b p r small octets len kind fault =
    at-last ifs 2 b r len (refused-at-len ifs b p r small octets (omega arith) kind fault)

-- four octets are refused at the last where it is an information size of 0 or 255, and PCB and LEN fit
pub refused-size : (ifs : ℕ) (b : List ℕ) (p : Pcb) → AreOctets b → length b ≡ 4 → IsHeaded ifs p b → IsAboutIfs p
    → (get_or b 3 0 ≡ 0) ⊎ (get_or b 3 0 ≡ 255) → IsRefused ifs b BadIfs
refused-size ifs b p octets len head about bad =
    at-last ifs 3 b BadIfs len (refused-at-size ifs b p octets (omega arith) head about bad)

-- octets up to the LRC are refused at it where their exclusive-or isn't 0, and all before it suits
pub refused-lrc : (ifs end : ℕ) (b : List ℕ) (p : Pcb) → AreOctets b → length b ≡ end + 1 → end ≡ 3 + get_or b 2 0
    → IsHeaded ifs p b → IsSized p (get_or b 3 0) → xor_of b ≢ 0 → IsRefused ifs b BadLrc
refused-lrc ifs end b p octets len end-is head sized bad =
    at-last ifs end b BadLrc len (refused-at-lrc ifs end b p octets (omega arith) end-is head sized
    (λ e. bad (ap xor_of (sym (all-of (end + 1) b len)) ∙ e)))

-- and where it is 0 they are a block, with the field between LEN and LRC
pub whole-is : (ifs end : ℕ) (b : List ℕ) (p : Pcb) → AreOctets b → length b ≡ end + 1 → end ≡ 3 + get_or b 2 0
    → IsHeaded ifs p b → IsSized p (get_or b 3 0) → xor_of b ≡ 0
    → IsBlock ifs (record { nad = get_or b 0 0; pcb = p; inf = take (end - 3) (drop 3 b) }) b
whole-is ifs end b p octets len end-is head sized sum =
    let whole : take (end + 1) b ≡ b = all-of (end + 1) b len in
    subst (IsBlock ifs (record { nad = get_or b 0 0; pcb = p; inf = take (end - 3) (drop 3 b) })) whole
    (begun-with ifs end b p octets (omega arith) end-is head sized (ap xor_of whole ∙ sum))

-- ---- more octets

headed-more : (ifs : ℕ) (p : Pcb) (b more : List ℕ) → 3 ≤ length b → IsHeaded ifs p b → IsHeaded ifs p (b ++ more)
headed-more ifs p b more le head = record {
  kind = head.kind ∙ sym (get_or_append_left b more 0 1 (omega arith));
  fits = subst (FitsLen ifs p) (sym (get_or_append_left b more 0 2 (omega arith))) head.fits;
}

sized-more : (p : Pcb) (b more : List ℕ) → (IsAboutIfs p → 3 < length b) → IsSized p (get_or b 3 0)
    → IsSized p (get_or (b ++ more) 3 0)
sized-more p b more long sized about = rw (get_or_append_left b more 0 3 (long about)) (sized about)

-- fewer than are wanted for the next test
pub at-more : (ifs : ℕ) (stage : Stage) (b more : List ℕ) → IsAt ifs stage b → 0 < length more
    → length b + length more < tested_len stage → IsAt ifs stage (b ++ more)
at-more ifs Front b more at some lt = omega (arith, length-append b more)
at-more ifs (Len p) b more at some lt = absurd (omega arith)
at-more ifs (Size p) b more at some lt = absurd (omega arith)
at-more ifs (Rest p end) b more at some lt = (
  omega (arith, length-append b more),
  omega (arith, length-append b more),
  at.2 ∙ ap (λ (k : ℕ). 3 + k) (sym (get_or_append_left b more 0 2 (omega arith))),
  headed-more ifs p b more at.0 at.3,
  λ about. omega (arith, length-append b more, at.4 about),
  sized-more p b more at.4 at.5,
)
at-more ifs (Done block) b more at some lt = absurd (omega arith)
at-more ifs (Refused refusal) b more at some lt = absurd (omega arith)

-- a reader that is open waits for an octet
pub open-wants : (ifs : ℕ) (stage : Stage) (b : List ℕ) → IsAt ifs stage b
    → IsOpen (record { ifs = ifs; taken = b; refusal = refusal_at stage }) → length b < tested_len stage
open-wants ifs Front b at waits = at
open-wants ifs (Len p) b at waits = omega arith
open-wants ifs (Size p) b at waits = omega arith
open-wants ifs (Rest p end) b at waits = omega arith
open-wants ifs (Done block) b at waits = absurd (waits.1 block at)
open-wants ifs (Refused refusal) b at waits = absurd (let bad = waits.0 in cc)
