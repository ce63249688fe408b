-- What a receiver keeps over the octets that come: its places, and the octets of its message.
use Rattle.std.proofs.Common.{◌≡◌, ◌≢◌, ℕ, ◌+◌, ◌-◌, ◌*◌, ◌<◌, ◌≤◌, ◌++◌, List, [], ◌∷◌, length, take, drop, refl, sym, ap, subst, ◌∙◌, arith, Bool, true, false, not, inl, inr, Option, Some, None, nat_eq, bit_xor}
use Rattle.std.proofs.lemmas.List.{length-append, length-take, length-drop, length-replicate, drop-take, drop-append-le, take-append-le}
use Rattle.std.proofs.lemmas.List.Sums.{fold-append}
use Rattle.std.proofs.lemmas.Bool.Decides.{eqb_tells}
use Rattle.std.proofs.Math.ListN.{replicate}
use Rattle.std.proofs.Math.Seq.{take-add}
use Rattle.octet_core.specs.Octets.{AreOctets, xor_of}
use Rattle.octet_core.specs.Grammar.{IsFirst}
use Rattle.octet_core.specs.declared.stop.Refusal.{Refusal}
use Rattle.octet_core.proofs.Begun.{take_take}
use Rattle.octet_core.proofs.Lists.{octets-take, octets-drop}
use Rattle.block_core.specs.declared.pcb.Number.{Number}
use Rattle.block_core.specs.declared.pcb.Pcb.TheVariants.{Info}
use Rattle.block_core.specs.Block as block
use Rattle.block_core.specs.Block.{pcb_octet}
use Rattle.block_core.proofs.Blocks.{xor-zero}
use Rattle.block_core.proofs.Readings.{xor-more}
use Rattle.chain_core.specs.declared.reason.ChainReason.{ChainReason}
use Rattle.chain_core.specs.declared.reason.ChainReason.TheVariants.{BadPcb, NotInfo, BadSequence, TooManyBlocks, BadLen, OverIfs, TooLong, BadLrc}
use Rattle.chain_core.specs.declared.stage.BlockStage as stage
use Rattle.chain_core.specs.declared.stage.BlockStage.TheVariants as stages
use Rattle.chain_core.specs.declared.lent.LentReceiver.{LentReceiver}
use Rattle.chain_core.specs.Chain.{MeetsInBlock, all_reasons, chain_block, number_after, message_of}
use Rattle.chain_core.specs.Stage.{IsHead, IsPcbFault, IsLenFault, IsHeadFault, IsAfter, more_count, place_of, came_of, left_of}
use Rattle.chain_core.specs.Taking.{Taking, HasTaken, nothing_taken}
use Rattle.chain_core.specs.Receiving.{Goes}
use Rattle.chain_core.specs.Lent.{under_way_of, number_at, field_at, held_at, taken_at, received_at, IsUnderWay, IsAmong, IsKept, IsNextReason, IsPcbReason, IsLenReason, IsLentReceiver, IsReceiver}
use Rattle.chain_core.proofs.Feeds.{taken-fresh}
use Rattle.chain_core.proofs.Heads.{first-head, first-lrc}
use Rattle.chain_core.proofs.Reasons.{part-short, part-sum}
use Rattle.chain_core.proofs.Receptions.{more-goes, refused-goes, joined-goes}

-- ---- the octets that are kept

-- a receiver whose chain isn't whole has a block under way that may come
pub way-of : (p : LentReceiver) (room : ℕ) → IsLentReceiver p room → p.done ≡ false → IsAmong false p
way-of p room fit still = subst (λ (d : Bool). IsAmong d p) still fit.among

way-held : (ifs max blocks joined came : ℕ) (p : stage.BlockStage) → joined ≤ max
    → IsUnderWay ifs max blocks joined came p
    → joined + came_of p came ≤ max
way-held ifs max blocks joined came stages.Nad le h = omega arith
way-held ifs max blocks joined came stages.Pcb le h = omega arith
way-held ifs max blocks joined came (stages.Len more) le h = omega arith
way-held ifs max blocks joined came (stages.Rest more len) le h = omega (arith, h.2, h.3)

among-held : (done : Bool) (p : LentReceiver) → p.joined ≤ p.max → IsAmong done p → held_at p ≤ p.max
among-held true p le h = omega (arith, le, ap (λ (q : stage.BlockStage). came_of q p.came) h.0)
among-held false p le h = way-held p.ifs p.max p.blocks p.joined p.came p.stage le h.1

-- a buffer with room for the longest message has room for them
pub held-room : (p : LentReceiver) (room : ℕ) → IsLentReceiver p room → held_at p ≤ room
held-room p room fit = omega (arith, among-held p.done p fit.joined fit.among, fit.reserved)

-- where they are in the buffer, there are as many
pub joined-len : (p : LentReceiver) (m : List ℕ) → p.joined ≤ length m → length (take p.joined m) ≡ p.joined
joined-len p m inside = omega (arith, length-take p.joined m, inside)

-- ---- one of the first three octets of a block

-- a test for the last block
last-full : (blocks : ℕ) → nat_eq (blocks + 1) 131072 ≡ true → blocks + 1 ≡ 131072
last-full blocks e = elim (eqb_tells (blocks + 1) 131072)
    [ inl h ↦ h.1 | inr h ↦ absurd (let bad : true ≡ false = sym e ∙ h.0 in cc) ]

last-free : (blocks : ℕ) → blocks + 1 ≤ 131072 → nat_eq (blocks + 1) 131072 ≡ false → blocks + 2 ≤ 131072
last-free blocks few e = elim (eqb_tells (blocks + 1) 131072) [
  | inl h ↦ absurd (let bad : true ≡ false = sym h.0 ∙ e in cc)
  | inr h ↦ let ne : blocks + 1 ≢ 131072 = h.1 in omega arith
]

counted : (more last : Bool) (blocks : ℕ) → (last ≡ false → blocks + 2 ≤ 131072) → blocks + 1 ≤ 131072
    → (more ≡ true → last ≡ false) → blocks + 1 + more_count more ≤ 131072
counted false last blocks few some h = omega arith
counted true last blocks few some h = omega (arith, few (h refl))

-- what comes after one of these octets, and what it is refused for
abbrev pub IsNext : LentReceiver → ℕ → stage.BlockStage → Type 0
IsNext p x next = IsAfter (number_at p) (nat_eq (p.blocks + 1) 131072) p.ifs (p.max - p.joined) p.stage x next

-- and what such an octet is refused for
abbrev pub IsOff : LentReceiver → ℕ → ChainReason → Type 0
IsOff p x reason = IsHeadFault (number_at p) (nat_eq (p.blocks + 1) 131072) p.ifs (p.max - p.joined) p.stage x reason

head-text : (number : Number) (last : Bool) (ifs room x : ℕ) (p next : stage.BlockStage) (field more : List ℕ)
    → IsAfter number last ifs room p x next → under_way_of number next (take 0 more) ≡ under_way_of number p field
    ++ x ∷ []
head-text number last ifs room x stages.Nad next field more h =
    ap (λ (q : stage.BlockStage). under_way_of number q (take 0 more)) h.1 ∙ ap (λ (y : ℕ). y ∷ []) (sym h.0)
head-text number last ifs room x stages.Pcb next field more h =
    ap (λ (q : stage.BlockStage). under_way_of number q (take 0 more)) h.1 ∙ ap (λ (y : ℕ). 0 ∷ y ∷ []) h.2
head-text number last ifs room x (stages.Len goes_on) next field more h =
    ap (λ (q : stage.BlockStage). under_way_of number q (take 0 more)) h.0
head-text number last ifs room x (stages.Rest goes_on len) next field more h = absurd h

head-len : (number : Number) (p : stage.BlockStage) (field : List ℕ) → IsHead p
    → length (under_way_of number p field) ≡ place_of p
head-len number stages.Nad field h = refl
head-len number stages.Pcb field h = refl
head-len number (stages.Len more) field h = refl
head-len number (stages.Rest more len) field h = absurd h

place-most : (p : stage.BlockStage) → IsHead p → place_of p ≤ 2
place-most stages.Nad head = omega arith
place-most stages.Pcb head = omega arith
place-most (stages.Len more) head = omega arith
place-most (stages.Rest more len) head = absurd head

head-way : (number : Number) (ifs max blocks joined came x : ℕ) (p next : stage.BlockStage) → blocks + 1 ≤ 131072
    → joined ≤ max → IsUnderWay ifs max blocks joined came p
    → IsAfter number (nat_eq (blocks + 1) 131072) ifs (max - joined) p x next → IsUnderWay ifs max blocks joined 0 next
head-way number ifs max blocks joined came x stages.Nad next few fits h b = rw b.1 tt
head-way number ifs max blocks joined came x stages.Pcb next few fits h b =
    rw b.1 (counted b.0 (nat_eq (blocks + 1) 131072) blocks (last-free blocks few) few b.3)
head-way number ifs max blocks joined came x (stages.Len more) next few fits h b =
    rw b.0 (h, b.1, omega (arith, b.2, fits), omega arith)
head-way number ifs max blocks joined came x (stages.Rest more len) next few fits h b = absurd b

none-came : (p : stage.BlockStage) → came_of p 0 ≡ 0
none-came stages.Nad = refl
none-came stages.Pcb = refl
none-came (stages.Len more) = refl
none-came (stages.Rest more len) = refl

-- no octet of a field has come before the third octet of a block
pub head-came : (p : stage.BlockStage) (came : ℕ) → IsHead p → came_of p came ≡ 0
head-came stages.Nad came h = refl
head-came stages.Pcb came h = refl
head-came (stages.Len more) came h = refl
head-came (stages.Rest more len) came h = absurd h

-- such an octet puts nothing into the buffer
pub head-held : (p : LentReceiver) (next : stage.BlockStage) → IsHead p.stage
    → held_at (record p { stage = next; came = 0 }) ≡ held_at p
head-held p next head = omega (arith, none-came next, head-came p.stage p.came head)

-- a receiver takes such an octet, and goes on to what comes after it
pub head-on : (p : LentReceiver) (next : stage.BlockStage) (x room : ℕ) (m : List ℕ) → IsLentReceiver p room
    → held_at p ≤ length m → p.refusal ≡ None → p.done ≡ false → IsNext p x next
    → Goes (received_at p m) (received_at (record p { stage = next; came = 0 }) m) (x ∷ [])
head-on p next x room m fit held none still after =
    let way = way-of p room fit still in
    let long = joined-len p m (omega (arith, held)) in
    let next-way = head-way (number_at p) p.ifs p.max p.blocks p.joined p.came x p.stage next way.0 fit.joined way.1
    after in
    more-goes (received_at p m) 0 next (take 0 (drop p.joined m)) (x ∷ []) (none, still) (omega arith)
    (subst (λ (k : ℕ). IsUnderWay p.ifs p.max p.blocks k 0 next) (sym long) next-way) way.0
    (omega (arith, long, fit.joined)) (λ i. omega arith)
    (head-text (number_at p) (nat_eq (p.blocks + 1) 131072) p.ifs (p.max - p.joined) x p.stage next (field_at p m)
    (drop p.joined m) after)

-- what is kept beside the block under way stays
fit-with : (p : LentReceiver) (next : stage.BlockStage) (came : ℕ) (refusal : Option (Refusal ChainReason))
    (room more : ℕ)
    → IsLentReceiver p room → room ≤ more → came_of next came ≡ came
    → IsAmong p.done (record p { stage = next; came = came; refusal = refusal })
    → IsKept refusal (record p { stage = next; came = came; refusal = refusal })
    → IsLentReceiver (record p { stage = next; came = came; refusal = refusal }) more
fit-with p next came refusal room more fit grows idle among kept = record {
  least = fit.least;
  most = fit.most;
  limit = fit.limit;
  reserved = omega (arith, fit.reserved, grows);
  joined = fit.joined;
  full = fit.full;
  blocks = fit.blocks;
  idle = idle;
  among = among;
  kept = kept;
}

-- where none is refused no refusal is kept
none-kept : (p : LentReceiver) → p.refusal ≡ None → IsKept p.refusal p
none-kept p none = subst (λ (o : Option (Refusal ChainReason)). IsKept o p) (sym none) tt

-- and its places stay those of a receiver
pub head-fit : (p : LentReceiver) (next : stage.BlockStage) (x room : ℕ) → p.refusal ≡ None → p.done ≡ false
    → IsNext p x next
    → IsLentReceiver p room → IsLentReceiver (record p { stage = next; came = 0 }) room
head-fit p next x room none still after fit =
    let way = way-of p room fit still in
    let next-way = head-way (number_at p) p.ifs p.max p.blocks p.joined p.came x p.stage next way.0 fit.joined way.1
    after in
    fit-with p next 0 p.refusal room room fit (omega arith) (none-came next)
    (subst (λ (d : Bool). IsAmong d (record p { stage = next; came = 0 })) (sym still) (way.0, next-way))
    (none-kept (record p { stage = next; came = 0 }) none)

-- such an octet is refused at its place, for what is wrong with it
pub head-off : (p : LentReceiver) (x room : ℕ) (reason : ChainReason) (m : List ℕ) → IsLentReceiver p room
    → held_at p ≤ length m → p.refusal ≡ None → p.done ≡ false → IsHead p.stage
    → IsOff p x reason
    → Goes (received_at p m) (received_at
    (record p { refusal = Some (record { place = p.joined + 4 * p.blocks + place_of p.stage; reason = reason }) }) m)
    (x ∷ [])
head-off p x room reason m fit held none still head fault =
    let last : Bool = nat_eq (p.blocks + 1) 131072 in
    let c : List ℕ = under_way_of (number_at p) p.stage (field_at p m) in
    let len = head-len (number_at p) p.stage (field_at p m) head in
    let long = joined-len p m (omega (arith, held)) in
    refused-goes (received_at p m) x (p.joined + 4 * p.blocks + place_of p.stage) reason (none, still) fit.most
    (part-short (c ++ x ∷ []) (omega (arith, length-append c (x ∷ []), len, place-most p.stage head)))
    (omega (arith, len, long))
    (λ before count joined.
    let number-is : number_at p ≡ number_after p.first (length before) = ap (number_after p.first) (sym count) in
    let room-is : p.max - p.joined ≡ p.max - length (message_of before) = omega (arith, ap length joined, long) in
    subst (λ (n : Number). IsFirst all_reasons
    (MeetsInBlock p.ifs p.first p.max before (under_way_of n p.stage (field_at p m) ++ x ∷ [])) reason)
    (sym number-is)
    (first-head p.ifs p.first p.max before last (p.max - p.joined) p.stage (field_at p m) x reason
    (λ full. omega (arith, last-full p.blocks full, count)) (omega (arith, ap length joined, long, fit.joined))
    room-is
    (subst (λ (n : Number). IsHeadFault n last p.ifs (p.max - p.joined) p.stage x reason) number-is fault)))

among-kept : (done : Bool) (p : LentReceiver) (refusal : Refusal ChainReason) → IsAmong done p
    → IsAmong done (record p { refusal = Some refusal })
among-kept true p refusal h = h
among-kept false p refusal h = h

-- places that keep a refusal of the next octet stay those of a receiver
kept-fit : (p : LentReceiver) (refusal : Refusal ChainReason) (room : ℕ) → p.done ≡ false
    → refusal.place ≡ taken_at p → IsNextReason p.ifs p.max p.blocks p.joined p.came p.stage refusal.reason
    → IsLentReceiver p room → IsLentReceiver (record p { refusal = Some refusal }) room
kept-fit p refusal room still place reason fit =
    fit-with p p.stage p.came (Some refusal) room room fit (omega arith) fit.idle
    (among-kept p.done p refusal fit.among) (still, place, reason)

pcb-reason : (number : Number) (blocks x : ℕ) (r : ChainReason)
    → IsPcbFault number (nat_eq (blocks + 1) 131072) x r → IsPcbReason blocks r
pcb-reason number blocks x BadPcb h = tt
pcb-reason number blocks x NotInfo h = tt
pcb-reason number blocks x BadSequence h = tt
pcb-reason number blocks x TooManyBlocks h = last-full blocks h.0
pcb-reason number blocks x _ h = absurd h

len-reason : (ifs room x : ℕ) (r : ChainReason) → x < 256 → IsLenFault ifs room x r → IsLenReason ifs room r
len-reason ifs room x BadLen octet h = tt
len-reason ifs room x OverIfs octet h = let ne : x ≢ 255 = h.0 in omega (arith, h.1, octet)
len-reason ifs room x TooLong octet h = omega (arith, h.1, h.2)
len-reason ifs room x _ octet h = absurd h

-- what is wrong with one of the first three octets of a block is a reason for which one can be refused
head-reason : (number : Number) (ifs max blocks joined came x : ℕ) (p : stage.BlockStage) (r : ChainReason) → x < 256
    → IsHeadFault number (nat_eq (blocks + 1) 131072) ifs (max - joined) p x r
    → IsNextReason ifs max blocks joined came p r
head-reason number ifs max blocks joined came x stages.Nad r octet h = h.1
head-reason number ifs max blocks joined came x stages.Pcb r octet h = pcb-reason number blocks x r h
head-reason number ifs max blocks joined came x (stages.Len more) r octet h = len-reason ifs (max - joined) x r octet h
head-reason number ifs max blocks joined came x (stages.Rest more len) r octet h = absurd h

-- so do those that refused one of these octets
pub off-fit : (p : LentReceiver) (x room : ℕ) (reason : ChainReason) → x < 256 → p.done ≡ false → IsHead p.stage
    → IsOff p x reason → IsLentReceiver p room
    → IsLentReceiver
    (record p { refusal = Some (record { place = p.joined + 4 * p.blocks + place_of p.stage; reason = reason }) }) room
off-fit p x room reason octet still head fault fit =
    kept-fit p (record { place = p.joined + 4 * p.blocks + place_of p.stage; reason = reason }) room still
    (omega (arith, head-came p.stage p.came head))
    (head-reason (number_at p) p.ifs p.max p.blocks p.joined p.came x p.stage reason octet fault) fit

-- ---- octets of the field

rest-text : (number : Number) (p : stage.BlockStage) (came : ℕ) (field xs : List ℕ) → 0 < left_of p came
    → under_way_of number p (field ++ xs) ≡ under_way_of number p field ++ xs
rest-text number stages.Nad came field xs some = absurd (omega arith)
rest-text number stages.Pcb came field xs some = absurd (omega arith)
rest-text number (stages.Len more) came field xs some = absurd (omega arith)
rest-text number (stages.Rest more len) came field xs some = refl

more-way : (ifs max blocks joined came run : ℕ) (p : stage.BlockStage) → 0 < left_of p came → run ≤ left_of p came
    → IsUnderWay ifs max blocks joined came p → IsUnderWay ifs max blocks joined (came + run) p
more-way ifs max blocks joined came run stages.Nad some le h = absurd (omega arith)
more-way ifs max blocks joined came run stages.Pcb some le h = absurd (omega arith)
more-way ifs max blocks joined came run (stages.Len more) some le h = absurd (omega arith)
more-way ifs max blocks joined came run (stages.Rest more len) some le h = (h.0, h.1, h.2, omega (arith, le, some))

left-held : (p : stage.BlockStage) (came now : ℕ) → 0 < left_of p came → came_of p now ≡ now
left-held stages.Nad came now some = absurd (omega arith)
left-held stages.Pcb came now some = absurd (omega arith)
left-held (stages.Len more) came now some = absurd (omega arith)
left-held (stages.Rest more len) came now some = refl

-- while octets of the field come the places stay those of a receiver, in a buffer that has no less room
pub field-fit : (p : LentReceiver) (run room more : ℕ) → p.refusal ≡ None → p.done ≡ false
    → 0 < left_of p.stage p.came → run ≤ left_of p.stage p.came → room ≤ more → IsLentReceiver p room
    → IsLentReceiver (record p { came = p.came + run }) more
field-fit p run room more none still some le grows fit =
    let way = way-of p room fit still in
    fit-with p p.stage (p.came + run) p.refusal room more fit grows (left-held p.stage p.came (p.came + run) some)
    (subst (λ (d : Bool). IsAmong d (record p { came = p.came + run })) (sym still)
    (way.0, more-way p.ifs p.max p.blocks p.joined p.came run p.stage some le way.1))
    (none-kept (record p { came = p.came + run }) none)

-- what comes of the field is put after what came before
pub field-held : (p : LentReceiver) (run : ℕ) → 0 < left_of p.stage p.came
    → held_at (record p { came = p.came + run }) ≡ p.joined + p.came + run
field-held p run some = omega (arith, left-held p.stage p.came (p.came + run) some)

-- the front of a buffer whose octets after it changed
front-stays : (n k : ℕ) (m m' xs : List ℕ) → n + k ≤ length m → take (n + k + length xs) m' ≡ take (n + k) m ++ xs
    → take n m' ≡ take n m
front-stays n k m m' xs inside e =
    sym (take_take n (n + k + length xs) m' (omega arith)) ∙ ap (take n) e
    ∙ take-append-le n (take (n + k) m) xs (omega (arith, length-take (n + k) m, inside))
    ∙ take_take n (n + k) m (omega arith)

-- and the octets after that front
field-text : (n k : ℕ) (m m' xs : List ℕ) → n + k ≤ length m → take (n + k + length xs) m' ≡ take (n + k) m ++ xs
    → take (k + length xs) (drop n m') ≡ take k (drop n m) ++ xs
field-text n k m m' xs inside e =
    let sum : n + (k + length xs) ≡ n + k + length xs = omega arith in
    sym (drop-take n (k + length xs) m') ∙ ap (λ (i : ℕ). drop n (take i m')) sum ∙ ap (drop n) e
    ∙ drop-append-le n (take (n + k) m) xs (omega (arith, length-take (n + k) m, inside))
    ∙ ap (λ (l : List ℕ). l ++ xs) (drop-take n k m)

-- a receiver takes octets of the field, where they come after those before them in the buffer
pub field-on : (p : LentReceiver) (room : ℕ) (m m' xs : List ℕ) → AreOctets m' → IsLentReceiver p room
    → p.joined + p.came ≤ length m → p.refusal ≡ None → p.done ≡ false → 0 < left_of p.stage p.came
    → length xs ≤ left_of p.stage p.came
    → take (p.joined + p.came + length xs) m' ≡ take (p.joined + p.came) m ++ xs
    → Goes (received_at p m) (received_at (record p { came = p.came + length xs }) m') xs
field-on p room m m' xs all fit inside none still some le text =
    let r : Taking = received_at p m in
    let field : List ℕ = take (p.came + length xs) (drop p.joined m') in
    let way = way-of p room fit still in
    let long = joined-len p m (omega (arith, inside)) in
    let front : take p.joined m' ≡ take p.joined m = front-stays p.joined p.came m m' xs inside text in
    let field-is : field ≡ field_at p m ++ xs = field-text p.joined p.came m m' xs inside text in
    let next-way = subst (λ (k : ℕ). IsUnderWay p.ifs p.max p.blocks k (p.came + length xs) p.stage) (sym long)
    (more-way p.ifs p.max p.blocks p.joined p.came (length xs) p.stage some le way.1) in
    subst (λ (l : List ℕ). Goes r (record r { joined = l; under_way = under_way_of (number_at p) p.stage field }) xs)
    (sym front)
    (more-goes r (p.came + length xs) p.stage field xs (none, still)
    (omega (arith, length-take (p.came + length xs) (drop p.joined m'))) next-way way.0
    (omega (arith, long, fit.joined))
    (octets-take (p.came + length xs) (drop p.joined m') (octets-drop p.joined m' all))
    (ap (under_way_of (number_at p) p.stage) field-is ∙ rest-text (number_at p) p.stage p.came (field_at p m) xs some))

-- ---- the LRC

-- the places where the whole field has come, and the LRC comes next
abbrev pub with_rest : LentReceiver → Bool → ℕ → LentReceiver
with_rest p more len = record p { stage = stages.Rest more len; came = len }

-- the places after the LRC: the field is joined to the message, and the chain is whole where no more follow
abbrev pub closed_at : LentReceiver → Bool → ℕ → LentReceiver
closed_at p more len = record p {
  joined = p.joined + len;
  blocks = p.blocks + 1;
  done = not more;
  stage = stages.Nad;
  came = 0;
}

-- the octets of the block but for its LRC
abbrev pub front_at : LentReceiver → Bool → ℕ → List ℕ → List ℕ
front_at p more len m = 0 ∷ pcb_octet (Info (number_at p) more) ∷ len ∷ take len (drop p.joined m)

field-len : (p : LentReceiver) (len : ℕ) (m : List ℕ) → p.joined + len ≤ length m
    → length (take len (drop p.joined m)) ≡ len
field-len p len m inside = omega (arith, length-take len (drop p.joined m), length-drop p.joined m, inside)

-- the exclusive-or of the first three octets and of the field is that of both
pub front-sum : (p : LentReceiver) (more : Bool) (number : Number) (len pcb a b : ℕ) (m : List ℕ)
    → number ≡ number_at p → pcb ≡ pcb_octet (Info number more) → a ≡ xor_of (0 ∷ pcb ∷ len ∷ [])
    → b ≡ xor_of (take (p.joined + len - p.joined) (drop p.joined m)) → bit_xor a b ≡ xor_of (front_at p more len m)
front-sum p more number len pcb a b m own is head field =
    let run : p.joined + len - p.joined ≡ len = omega arith in
    let kind : pcb ≡ pcb_octet (Info (number_at p) more) = is ∙ ap (λ (n : Number). pcb_octet (Info n more)) own in
    xor-more a b (0 ∷ pcb_octet (Info (number_at p) more) ∷ len ∷ []) (take len (drop p.joined m))
    (head ∙ ap (λ (y : ℕ). xor_of (0 ∷ y ∷ len ∷ [])) kind)
    (field ∙ ap (λ (k : ℕ). xor_of (take k (drop p.joined m))) run)

-- another octet than that makes no sum of 0
pub sum-off : (front : List ℕ) (x : ℕ) → xor_of front ≢ x → xor_of (front ++ x ∷ []) ≢ 0
sum-off front x ne = λ e. ne (sym (xor-zero (xor_of front) x (sym (fold-append bit_xor 0 front (x ∷ [])) ∙ e)))

-- the exclusive-or of the octets before it closes the block
pub lrc-on : (p : LentReceiver) (more : Bool) (len x room : ℕ) (m : List ℕ) → AreOctets m
    → IsLentReceiver (with_rest p more len) room → p.joined + len ≤ length m → p.refusal ≡ None → p.done ≡ false
    → x ≡ xor_of (front_at p more len m)
    → Goes (received_at (with_rest p more len) m) (received_at (closed_at p more len) m) (x ∷ [])
lrc-on p more len x room m all fit inside none still sum =
    let r : Taking = received_at (with_rest p more len) m in
    let way = way-of (with_rest p more len) room fit still in
    let field : List ℕ = take len (drop p.joined m) in
    let len-is : length field ≡ len = field-len p len m inside in
    let long = joined-len p m (omega (arith, inside)) in
    let spelled : r.under_way ++ x ∷ [] ≡ block.spelling (chain_block (number_at p) more field) =
    ap (λ (y : ℕ). front_at p more len m ++ y ∷ []) sum
    ∙ ap (λ (k : ℕ). (0 ∷ pcb_octet (Info (number_at p) more) ∷ k ∷ field)
    ++ xor_of (0 ∷ pcb_octet (Info (number_at p) more) ∷ k ∷ field) ∷ []) (sym len-is) in
    subst (λ (l : List ℕ). Goes r (record r { blocks = r.blocks + 1; joined = l; under_way = []; done = not more })
    (x ∷ [])) (sym (take-add p.joined len m))
    (joined-goes r more field (x ∷ []) (none, still) (omega (arith, len-is, way.1.1))
    (octets-take len (drop p.joined m) (octets-drop p.joined m all)) way.1.0 (omega (arith, long, len-is, way.1.2))
    spelled)

among-closed : (p : LentReceiver) (more : Bool) (len : ℕ) → p.blocks + 1 + more_count more ≤ 131072
    → IsAmong (not more) (closed_at p more len)
among-closed p true len few = (omega (arith, few), tt)
among-closed p false len few = (refl, omega arith)

-- a block more has room for a field more
more-full : (blocks ifs joined len : ℕ) → joined ≤ blocks * ifs → len ≤ ifs → joined + len ≤ (blocks + 1) * ifs
more-full blocks ifs joined len full size =
    let more : (blocks + 1) * ifs ≡ blocks * ifs + ifs = omega arith in omega (arith, full, size, more)

-- and the places stay those of a receiver
pub closed-fit : (p : LentReceiver) (more : Bool) (len room : ℕ) → p.refusal ≡ None → p.done ≡ false
    → IsLentReceiver (with_rest p more len) room → IsLentReceiver (closed_at p more len) room
closed-fit p more len room none still fit =
    let way = way-of (with_rest p more len) room fit still in
    record {
      least = fit.least;
      most = fit.most;
      limit = fit.limit;
      reserved = fit.reserved;
      joined = way.1.2;
      full = more-full p.blocks p.ifs p.joined len fit.full way.1.1;
      blocks = omega (arith, way.0);
      idle = refl;
      among = among-closed p more len way.1.0;
      kept = none-kept (closed_at p more len) none;
    }

-- also where the LRC is refused
pub sum-fit : (p : LentReceiver) (more : Bool) (len room : ℕ) → p.done ≡ false
    → IsLentReceiver (with_rest p more len) room
    → IsLentReceiver (record (with_rest p more len)
    { refusal = Some (record { place = p.joined + 4 * p.blocks + (3 + len); reason = BadLrc }) }) room
sum-fit p more len room still fit =
    kept-fit (with_rest p more len) (record { place = p.joined + 4 * p.blocks + (3 + len); reason = BadLrc }) room still
    refl (refl, refl) fit

-- an LRC with which the sum isn't 0 is refused, at its place
pub lrc-off : (p : LentReceiver) (more : Bool) (len x room : ℕ) (m : List ℕ)
    → IsLentReceiver (with_rest p more len) room → p.joined + len ≤ length m → p.refusal ≡ None → p.done ≡ false
    → xor_of (front_at p more len m ++ x ∷ []) ≢ 0
    → Goes (received_at (with_rest p more len) m)
    (received_at (record (with_rest p more len)
    { refusal = Some (record { place = p.joined + 4 * p.blocks + (3 + len); reason = BadLrc }) }) m) (x ∷ [])
lrc-off p more len x room m fit inside none still sum =
    let b : List ℕ = front_at p more len m ++ x ∷ [] in
    let len-is = field-len p len m inside in
    let long = joined-len p m (omega (arith, inside)) in
    let all : length b ≡ len + 4 = omega (arith, len-is, length-append (front_at p more len m) (x ∷ [])) in
    refused-goes (received_at (with_rest p more len) m) x (p.joined + 4 * p.blocks + (3 + len)) BadLrc (none, still)
    fit.most (part-sum b all sum) (omega (arith, long, len-is))
    (λ before count joined. first-lrc p.ifs p.first p.max before b (omega (arith, all)) all sum)

-- ---- a receiver with a message of its own

way-none : (number : Number) (p : stage.BlockStage) (field : List ℕ) (came : ℕ) → under_way_of number p field ≡ []
    → came_of p came ≡ 0
way-none number stages.Nad field came e = refl
way-none number stages.Pcb field came e = refl
way-none number (stages.Len more) field came e = refl
way-none number (stages.Rest more len) field came e = absurd (omega (arith, ap length e))

-- a new one is one, whose message is empty
pub receiver-fresh : (p : LentReceiver) (m : List ℕ) (room ifs : ℕ) (number : Number) (max : ℕ)
    → IsLentReceiver p room → m ≡ [] → ((l : List ℕ) → received_at p l ≡ nothing_taken ifs number max)
    → IsReceiver p m room
receiver-fresh p m room ifs number max fit none is =
    let zeros : List ℕ = replicate p.joined 0 in
    let joined : p.joined ≡ 0 = omega (
      arith,
      ap (λ (r : Taking). length r.joined) (is zeros),
      length-take p.joined zeros,
      length-replicate {A = ℕ} p.joined 0,
    ) in
    let came : came_of p.stage p.came ≡ 0 =
    way-none (number_at p) p.stage (field_at p []) p.came (ap (λ (r : Taking). r.under_way) (is [])) in
    record {
      stored = record {
        fit = fit;
        octets = subst AreOctets (sym none) (λ i. omega arith);
        after = omega (arith, ap length none, joined, came);
      };
      taken = λ free. ([], subst (λ (r : Taking). HasTaken r []) (sym (is m)) (taken-fresh ifs number max));
    }
