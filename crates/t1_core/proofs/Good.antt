-- What holds of the two ends and the block under way after every event.
use Rattle.std.proofs.Common.{◌≡◌, ℕ, ◌+◌, ◌*◌, ◌≤◌, List, [], ◌∷◌, ◌++◌, length}
use Rattle.std.specs.Prelude.{Option, None}
use Rattle.block_core.specs.declared.pcb.Number.{Number}
use Rattle.block_core.specs.declared.pcb.Fault.{Fault}
use Rattle.block_core.specs.declared.pcb.S.TheVariants.{Resynch, Ifs, Wtx}
use Rattle.block_core.specs.declared.pcb.Pcb.{Pcb}
use Rattle.block_core.specs.declared.pcb.Pcb.TheVariants.{Info, Ready, Request, Response}
use Rattle.block_core.specs.Block.{other}
use Rattle.t1_core.specs.Came.{info, ready, request, response}
use Rattle.t1_core.specs.Terminal.{TerminalState, Waits, idle, ack, answer, more, ifs, resynch, dead, is_more, waiting, Limits}
use Rattle.t1_core.specs.Card.{CardState, Waits as CardWaits, command, host, reply, asking, size, time, number_after, saving, waiting as card_waiting, card_with}
use Rattle.t1_core.specs.Link.{Link, UnderWay, nothing, to_card, to_terminal, Exchange, answered, unanswered, given_up}
use Rattle.t1_core.specs.Promises.{Matches}

-- the state of a terminal, by its parts
abbrev pub term : Limits → Number → Number → ℕ → ℕ → ℕ → ℕ → List ℕ → Waits → Option (List ℕ) → TerminalState
term k s r n i j i0 m w a = record {
  number = s;
  expected = r;
  failures = n;
  ifsc = i;
  ifsd = j;
  first_ifsc = i0;
  command = m;
  waits = w;
  answered = a;
  limits = k;
}

-- and of a card
abbrev pub crd : Limits → Number → Number → Option (List ℕ) → ℕ → ℕ → ℕ → List ℕ → CardWaits → CardState
crd k c r saved i j i0 m w = record {
  number = c;
  expected = r;
  saved = saved;
  ifsc = i;
  ifsd = j;
  first_ifsc = i0;
  command = m;
  waits = w;
  limits = k;
}

-- both ends, the block under way, both histories and both counts
abbrev pub link : TerminalState → CardState → UnderWay → List Exchange → List Exchange → ℕ → ℕ → Link
link t c w es hs d f = record {
  terminal = t;
  card = c;
  under_way = w;
  exchanges = es;
  services = hs;
  disturbed = d;
  failed = f;
}

-- What is counted, where P holds: n failures in a row, f in all, d blocks lost or damaged, and k questions for RESYNCH.
-- In Spare a failure more may come without a further such block.
abbrev pub Few : Type 0 → ℕ → ℕ → Type 0
Few P f d = P → f ≤ 2 * d

-- no more failures in a row than in all, and those at most twice the blocks lost or damaged
abbrev pub Counts : Type 0 → ℕ → ℕ → ℕ → Type 0
Counts P n f d = P → (n ≤ f) × (f ≤ 2 * d)

-- the same, with room for one failure more
abbrev pub Spare : Type 0 → ℕ → ℕ → ℕ → Type 0
Spare P n f d = P → (n ≤ f) × (f + 1 ≤ 2 * d)

-- RESYNCH was asked for, at least once and at least x times less than blocks were lost or damaged
abbrev pub Asked : Type 0 → ℕ → ℕ → ℕ → ℕ → Type 0
Asked P k x f d = P → (1 ≤ k) × (k + x ≤ d) × (f ≤ 2 * d)

-- each exchange ended
abbrev pub Ended : List Exchange → Type 0
Ended [] = Unit {0}
Ended (answered m a ∷ es) = Ended es
Ended (unanswered m ∷ es) = ⊥
Ended (given_up m ∷ es) = Ended es

-- each but the newest
abbrev pub OlderEnded : List Exchange → Type 0
OlderEnded [] = Unit {0}
OlderEnded (e ∷ es) = Ended es

-- the histories match, and no exchange is under way, or the newest may be
pub record Fine (es hs : List Exchange) : Type 0 where
  pub matches : Matches es hs
  pub ended : Ended es

-- the same, where the newest exchange may be under way
pub record Held (es hs : List Exchange) : Type 0 where
  pub matches : Matches es hs
  pub older : OlderEnded es

-- the host has no turn
abbrev pub NoHost : CardWaits → Type 0
NoHost (command joined) = Unit {0}
NoHost host = ⊥
NoHost (reply field rest) = Unit {0}
NoHost (asking q) = Unit {0}

-- neither an I-block nor the response to RESYNCH
abbrev pub IsPlain : Pcb → Type 0
IsPlain (Info number goes_on) = ⊥
IsPlain (Ready number fault) = Unit {0}
IsPlain (Request kind) = Unit {0}
IsPlain (Response kind) = ⊥

-- The terminal hears the first block of an answer, or a further one after these octets.
pub data Ear : Type 0 where
  first : (field : List ℕ) → Ear
  further : (joined : List ℕ) → Ear

-- what the host waits for, as the terminal keeps it
abbrev pub ear_waits : Ear → Waits
ear_waits (first field) = answer field
ear_waits (further joined) = more joined

-- and the octets of the answer that it has joined
abbrev pub ear_joined : Ear → List ℕ
ear_joined (first field) = []
ear_joined (further joined) = joined

-- the number that the card expects next
abbrev pub ear_number : Number → Ear → Number
ear_number s (first field) = other s
ear_number s (further joined) = s

-- The states that are reached by ends with these limits. s and c are the ends' numbers, i and j the sizes, i0 the first
-- of them. Where P holds, each message fits its receiver.
pub data Good (P : Type 0) (kt kc : Limits) : Link → Type 0 where
  -- nothing is under way
  at_rest : {s c : Number} {saved : Option (List ℕ)} {n i j i0 : ℕ} {a : Option (List ℕ)} {tm cm : List ℕ}
      {es hs : List Exchange} {d f : ℕ}
      → Few P f d → Fine es hs
      → Good P kt kc (link (term kt s (number_after saved c) n i j i0 tm idle a)
      (crd kc c s saved i j i0 cm (command [])) nothing es hs d f)
  -- a size of the terminal was asked for, was set, or an R-block came in its place
  size_asked : {s c : Number} {saved : Option (List ℕ)} {n i j j' i0 v : ℕ} {a : Option (List ℕ)} {tm cm : List ℕ}
      {es hs : List Exchange} {d f : ℕ}
      → Counts P n f d → Fine es hs
      → Good P kt kc (link (term kt s (number_after saved c) n i j i0 tm (ifs v) a)
      (crd kc c s saved i j' i0 cm (command [])) (to_card (request Ifs (v ∷ []))) es hs d f)
  size_taken : {s c : Number} {saved : Option (List ℕ)} {n i j i0 v : ℕ} {a : Option (List ℕ)} {tm cm : List ℕ}
      {es hs : List Exchange} {d f : ℕ}
      → Counts P n f d → Fine es hs
      → Good P kt kc (link (term kt s (number_after saved c) n i j i0 tm (ifs v) a)
      (crd kc c s saved i v i0 cm (command [])) (to_terminal (response Ifs (v ∷ []))) es hs d f)
  size_doubted : {s c : Number} {saved : Option (List ℕ)} {n i j j' i0 v : ℕ} {a : Option (List ℕ)} {tm cm : List ℕ}
      {es hs : List Exchange} {d f : ℕ} {fault : Fault}
      → Spare P n f d → Fine es hs
      → Good P kt kc (link (term kt s (number_after saved c) n i j i0 tm (ifs v) a)
      (crd kc c s saved i j' i0 cm (command [])) (to_terminal (ready s fault)) es hs d f)
  -- RESYNCH was asked for, was answered, or another block came in its place
  asks_resynch : (w : CardWaits) {s r c e : Number} {saved : Option (List ℕ)} {n i j i' j' i0 k : ℕ}
      {a : Option (List ℕ)} {tm cm : List ℕ} {es hs : List Exchange} {d f : ℕ}
      → Asked P k 1 f d → NoHost w → Held es hs
      → Good P kt kc (link (term kt s r n i j i0 tm (resynch k) a) (crd kc c e saved i' j' i0 cm w)
      (to_card (request Resynch [])) es hs d f)
  resynched : {s r : Number} {n i j i0 k : ℕ} {a : Option (List ℕ)} {tm : List ℕ} {es hs : List Exchange} {d f : ℕ}
      → Asked P k 1 f d → Held es hs
      → Good P kt kc (link (term kt s r n i j i0 tm (resynch k) a) (card_with kc i0) (to_terminal (response Resynch []))
      es hs d f)
  resynch_doubted : (w : CardWaits) (pcb : Pcb) {s r c e : Number} {saved : Option (List ℕ)} {n i j i' j' i0 k : ℕ}
      {a : Option (List ℕ)} {tm cm : List ℕ} {inf : List ℕ} {es hs : List Exchange} {d f : ℕ}
      → Asked P k 2 f d → NoHost w → IsPlain pcb → Held es hs
      → Good P kt kc (link (term kt s r n i j i0 tm (resynch k) a) (crd kc c e saved i' j' i0 cm w)
      (to_terminal (record { nad = 0; pcb = pcb; inf = inf })) es hs d f)
  -- the terminal is dead
  over : (w : CardWaits) {s r c e : Number} {saved : Option (List ℕ)} {n i j i' j' i0 i1 : ℕ} {a : Option (List ℕ)}
      {tm cm : List ℕ} {es hs : List Exchange} {d f : ℕ}
      → (P → (5 ≤ d) × (f ≤ 2 * d)) → NoHost w → Fine es hs
      → Good P kt kc (link (term kt s r n i j i0 tm dead a) (crd kc c e saved i' j' i1 cm w) nothing es hs d f)
  -- a block of the command is under way, or an R-block to the card or to the terminal, while the card did not take it
  sends : (joined field rest : List ℕ) {s c : Number} {saved : Option (List ℕ)} {n i j i0 : ℕ} {a : Option (List ℕ)}
      {cm : List ℕ} {m : List ℕ} {es hs : List Exchange} {d f : ℕ}
      → Counts P n f d → joined ++ field ++ rest ≡ m → (P → length m ≤ kc.command) → length field ≤ i → Fine es hs
      → Good P kt kc (link (term kt s (number_after saved c) n i j i0 m (waiting field rest) a)
      (crd kc c s saved i j i0 cm (command joined)) (to_card (info s (is_more rest) field)) (unanswered m ∷ es) hs d f)
  sends_asked : (joined field rest : List ℕ) {s c : Number} {saved : Option (List ℕ)} {n i j i0 : ℕ}
      {a : Option (List ℕ)} {cm : List ℕ} {m : List ℕ} {es hs : List Exchange} {d f : ℕ} {fault : Fault}
      → Spare P n f d → joined ++ field ++ rest ≡ m → (P → length m ≤ kc.command) → length field ≤ i → Fine es hs
      → Good P kt kc (link (term kt s (number_after saved c) n i j i0 m (waiting field rest) a)
      (crd kc c s saved i j i0 cm (command joined)) (to_card (ready (number_after saved c) fault))
      (unanswered m ∷ es) hs d f)
  sends_doubted : (joined field rest : List ℕ) {s c : Number} {saved : Option (List ℕ)} {n i j i0 : ℕ}
      {a : Option (List ℕ)} {cm : List ℕ} {m : List ℕ} {es hs : List Exchange} {d f : ℕ} {fault : Fault}
      → Spare P n f d → joined ++ field ++ rest ≡ m → (P → length m ≤ kc.command) → length field ≤ i → Fine es hs
      → Good P kt kc (link (term kt s (number_after saved c) n i j i0 m (waiting field rest) a)
      (crd kc c s saved i j i0 cm (command joined)) (to_terminal (ready s fault)) (unanswered m ∷ es) hs d f)
  -- the card took a block with M=1, and an R-block is under way
  taken_asked : {s c : Number} {n i j i0 x : ℕ} {a : Option (List ℕ)} {cm : List ℕ} {m joined field rest : List ℕ}
      {es hs : List Exchange} {d f : ℕ} {fault : Fault}
      → Counts P n f d → joined ++ x ∷ rest ≡ m → (P → length m ≤ kc.command) → Fine es hs
      → Good P kt kc (link (term kt s c n i j i0 m (ack field (x ∷ rest)) a)
      (crd kc c (other s) None i j i0 cm (command joined)) (to_card (ready c fault)) (unanswered m ∷ es) hs d f)
  taken_told : {s c : Number} {n i j i0 x : ℕ} {a : Option (List ℕ)} {cm : List ℕ} {m joined field rest : List ℕ}
      {es hs : List Exchange} {d f : ℕ} {fault : Fault}
      → Counts P n f d → joined ++ x ∷ rest ≡ m → (P → length m ≤ kc.command) → Fine es hs
      → Good P kt kc (link (term kt s c n i j i0 m (ack field (x ∷ rest)) a)
      (crd kc c (other s) None i j i0 cm (command joined)) (to_terminal (ready (other s) fault)) (unanswered m ∷ es)
      hs d f)
  -- the host has its turn
  served : {s c : Number} {n i j i0 : ℕ} {a : Option (List ℕ)} {m field : List ℕ} {es hs : List Exchange} {d f : ℕ}
      → Counts P n f d → Fine es hs
      → Good P kt kc (link (term kt s c n i j i0 m (answer field) a) (crd kc c (other s) None i j i0 m host) nothing
      (unanswered m ∷ es) (unanswered m ∷ hs) d f)
  -- a size of the card was asked for
  size_wanted : {s c : Number} {n i i' j i0 v : ℕ} {a : Option (List ℕ)} {m field : List ℕ} {es hs : List Exchange}
      {d f : ℕ}
      → Counts P n f d → Fine es hs
      → Good P kt kc (link (term kt s c n i j i0 m (answer field) a)
      (crd kc c (other s) None i' j i0 m (asking (size v))) (to_terminal (request Ifs (v ∷ []))) (unanswered m ∷ es)
      (unanswered m ∷ hs) d f)
  size_given : {s c : Number} {n i' j i0 v : ℕ} {a : Option (List ℕ)} {m field : List ℕ} {es hs : List Exchange}
      {d f : ℕ}
      → Counts P n f d → Fine es hs
      → Good P kt kc (link (term kt s c n v j i0 m (answer field) a)
      (crd kc c (other s) None i' j i0 m (asking (size v))) (to_card (response Ifs (v ∷ []))) (unanswered m ∷ es)
      (unanswered m ∷ hs) d f)
  size_missed : {s c : Number} {n i i' j i0 v : ℕ} {a : Option (List ℕ)} {m field : List ℕ} {es hs : List Exchange}
      {d f : ℕ} {fault : Fault}
      → Counts P n f d → Fine es hs
      → Good P kt kc (link (term kt s c n i j i0 m (answer field) a)
      (crd kc c (other s) None i' j i0 m (asking (size v))) (to_card (ready c fault)) (unanswered m ∷ es)
      (unanswered m ∷ hs) d f)
  -- more time was asked for
  time_wanted : {s c : Number} {n i j i0 v : ℕ} {a : Option (List ℕ)} {m field : List ℕ} {es hs : List Exchange}
      {d f : ℕ}
      → Counts P n f d → Fine es hs
      → Good P kt kc (link (term kt s c n i j i0 m (answer field) a)
      (crd kc c (other s) None i j i0 m (asking (time v))) (to_terminal (request Wtx (v ∷ []))) (unanswered m ∷ es)
      (unanswered m ∷ hs) d f)
  time_given : {s c : Number} {n i j i0 v : ℕ} {a : Option (List ℕ)} {m field : List ℕ} {es hs : List Exchange}
      {d f : ℕ}
      → Counts P n f d → Fine es hs
      → Good P kt kc (link (term kt s c n i j i0 m (answer field) a)
      (crd kc c (other s) None i j i0 m (asking (time v))) (to_card (response Wtx (v ∷ []))) (unanswered m ∷ es)
      (unanswered m ∷ hs) d f)
  time_missed : {s c : Number} {n i j i0 v : ℕ} {a : Option (List ℕ)} {m field : List ℕ} {es hs : List Exchange}
      {d f : ℕ} {fault : Fault}
      → Counts P n f d → Fine es hs
      → Good P kt kc (link (term kt s c n i j i0 m (answer field) a)
      (crd kc c (other s) None i j i0 m (asking (time v))) (to_card (ready c fault)) (unanswered m ∷ es)
      (unanswered m ∷ hs) d f)
  -- a block of the reply is under way, or an R-block to the card or to the terminal, while the terminal did not take it
  replying : (ear : Ear) (field rest : List ℕ) {s c : Number} {n i j i0 : ℕ} {a : Option (List ℕ)} {m y : List ℕ}
      {es hs : List Exchange} {d f : ℕ}
      → Counts P n f d → ear_joined ear ++ field ++ rest ≡ y → (P → length y ≤ kt.answer)
      → length field ≤ j → Fine es hs
      → Good P kt kc (link (term kt s c n i j i0 m (ear_waits ear) a)
      (crd kc c (ear_number s ear) (saving None field rest) i j i0 m (card_waiting field rest))
      (to_terminal (info c (is_more rest) field)) (unanswered m ∷ es) (answered m y ∷ hs) d f)
  replies_asked : (ear : Ear) (field rest : List ℕ) {s c : Number} {n i j i0 : ℕ} {a : Option (List ℕ)} {m y : List ℕ}
      {es hs : List Exchange} {d f : ℕ} {fault : Fault}
      → Counts P n f d → ear_joined ear ++ field ++ rest ≡ y → (P → length y ≤ kt.answer)
      → length field ≤ j → Fine es hs
      → Good P kt kc (link (term kt s c n i j i0 m (ear_waits ear) a)
      (crd kc c (ear_number s ear) (saving None field rest) i j i0 m (card_waiting field rest))
      (to_card (ready c fault)) (unanswered m ∷ es) (answered m y ∷ hs) d f)
  replies_doubted : (ear : Ear) (field rest : List ℕ) {s c : Number} {n i j i0 : ℕ} {a : Option (List ℕ)} {m y : List ℕ}
      {es hs : List Exchange} {d f : ℕ} {fault : Fault}
      → Spare P n f d → ear_joined ear ++ field ++ rest ≡ y → (P → length y ≤ kt.answer) → length field ≤ j → Fine es hs
      → Good P kt kc (link (term kt s c n i j i0 m (ear_waits ear) a)
      (crd kc c (ear_number s ear) (saving None field rest) i j i0 m (card_waiting field rest))
      (to_terminal (ready (ear_number s ear) fault)) (unanswered m ∷ es) (answered m y ∷ hs) d f)
  -- the terminal took a block with M=1, and an R-block is under way
  joined_told : {s c : Number} {n i j i0 x : ℕ} {a : Option (List ℕ)} {m y joined field rest : List ℕ}
      {es hs : List Exchange} {d f : ℕ} {fault : Fault}
      → Counts P n f d → joined ++ x ∷ rest ≡ y → (P → length y ≤ kt.answer) → Fine es hs
      → Good P kt kc (link (term kt s (other c) n i j i0 m (more joined) a)
      (crd kc c s None i j i0 m (reply field (x ∷ rest))) (to_card (ready (other c) fault)) (unanswered m ∷ es)
      (answered m y ∷ hs) d f)
  joined_doubted : {s c : Number} {n i j i0 x : ℕ} {a : Option (List ℕ)} {m y joined field rest : List ℕ}
      {es hs : List Exchange} {d f : ℕ} {fault : Fault}
      → Spare P n f d → joined ++ x ∷ rest ≡ y → (P → length y ≤ kt.answer) → Fine es hs
      → Good P kt kc (link (term kt s (other c) n i j i0 m (more joined) a)
      (crd kc c s None i j i0 m (reply field (x ∷ rest))) (to_terminal (ready s fault)) (unanswered m ∷ es)
      (answered m y ∷ hs) d f)
