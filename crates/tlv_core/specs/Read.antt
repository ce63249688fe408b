-- The state of a reader of a forest that comes in pieces.
use Rattle.std.specs.Prelude.{◌≡◌, ◌<◌, ◌≤◌, ◌⊎◌, ℕ, ◌+◌, List, [], ◌∷◌, ◌++◌, length, take, map, Option, Some, None, Result, Ok, Err}
use Rattle.octet_core.specs.Octets.{AreOctets}
use Rattle.octet_core.specs.Grammar.{RefusesAt, whole}
use Rattle.octet_core.specs.declared.stop.Stop.{Stop}
use Rattle.octet_core.specs.declared.stop.Stop.TheVariants.{At}
use Rattle.octet_core.specs.declared.stop.Refused.{Refused}
use Rattle.octet_core.specs.declared.stop.Refused.TheVariants as refused
use Rattle.tlv_core.specs.declared.partial.OpenObject.{OpenObject}
use Rattle.tlv_core.specs.declared.partial.OpenValue.{OpenValue}
use Rattle.tlv_core.specs.declared.partial.Partial.{Partial}
use Rattle.tlv_core.specs.declared.progress.Progress.{Progress}
use Rattle.tlv_core.specs.declared.reason.TlvReason.{TlvReason}
use Rattle.octet_core.specs.declared.stop.Refusal.{Refusal}
use Rattle.tlv_core.specs.declared.header.ObjectHeader.{ObjectHeader}
use Rattle.tlv_core.specs.declared.header.Next.{Next}
use Rattle.tlv_core.specs.declared.short.ShortHeader.{ShortHeader}
use Rattle.tlv_core.specs.declared.node.Node.{Node}
use Rattle.tlv_core.specs.declared.node.Node.TheVariants as node
use Rattle.tlv_core.specs.Tag.{constructed_bit}
use Rattle.tlv_core.specs.Tree.{End}
use Rattle.tlv_core.specs.Forest.{IsForest}
use Rattle.tlv_core.specs.Steps.{IsStep}
use Rattle.tlv_core.specs.Short.{MayCome}
use Rattle.tlv_core.specs.Progress.{kept_of}
use Rattle.tlv_core.specs.Nodes.{tree_of}
use Rattle.tlv_core.specs.Reasons.{Kept, HasTaken, IsReason}
use Rattle.tlv_core.specs.Grown.{Opened, ValueSoFar, Grown, HasGrown}

-- ---- the tree in the code

-- an open object
abbrev pub opened_of : OpenObject → Opened
opened_of o = record { before = tree_of o.before.items; tag = o.header.tag; form = o.header.form; len = o.header.len }

-- the value that is being read, if there is one
abbrev pub value_of : Option OpenValue → Option ValueSoFar
value_of None = None
value_of (Some v) = Some (record {
  tag = v.header.tag;
  form = v.header.form;
  len = v.header.len;
  octets =
      v.octets.items;
})

-- the tree so far
abbrev pub grown_of : Partial → Grown
grown_of p = record { opened = map opened_of p.opened.items; list = tree_of p.list.items; value = value_of p.value }

-- the value that is being read, with more octets
abbrev pub longer_value : Option ValueSoFar → List ℕ → Option ValueSoFar
longer_value None add = None
longer_value (Some v) add = Some (record { tag = v.tag; form = v.form; len = v.len; octets = v.octets ++ add })

-- the tree, with more octets of the value that is being read
abbrev pub extended : Grown → List ℕ → Grown
extended g add = record { opened = g.opened; list = g.list; value = longer_value g.value add }

-- after the octets b, which make this tree, the octet x comes, and `next` is its result for the header
pub record TakesNext (b : List ℕ) (k : Kept) (x : ℕ) (next : Next) (g : Grown) : Type 0 where
  pub taken : HasTaken b k
  pub idle : k.value_left ≡ 0
  pub step : IsStep k x next
  pub grown : HasGrown b k g

-- after the octets b, which make this tree, an object with this short header comes at the front of `octets`
pub record TakesShort (b : List ℕ) (k : Kept) (octets : List ℕ) (o : ShortHeader) (g : Grown) : Type 0 where
  pub taken : HasTaken b k
  pub are : AreOctets octets
  pub may : MayCome k octets o
  pub grown : HasGrown b k g

-- the tree with one more open object, after the innermost list
abbrev pub entering : Grown → ObjectHeader → Grown
entering g o = record {
  opened = g.opened
      ++ record { before = g.list; tag = o.tag; form = o.form; len = o.len } ∷ [];
  list = End;
  value = None;
}

-- a whole object with this header: a primitive one with this value, or an empty constructed one
abbrev pub IsWholeNode : ObjectHeader → List ℕ → Node → Type 0
IsWholeNode o value y = ((constructed_bit o.tag ≡ 0) × (y ≡ node.Primitive o.tag o.form value))
    ⊎ ((constructed_bit o.tag ≡ 1) × (y ≡ node.Constructed o.tag o.form End))

-- ---- the reader

-- what the octets so far leave open, their tree, and why the next one was refused, if it was
pub record Reading : Type 0 where
  pub kept : Kept
  pub tree : Grown
  pub refusal : Option (Refusal TlvReason)

-- the state of a reader with these fields
abbrev pub reading_of : Progress → Partial → Option (Refusal TlvReason) → Reading
reading_of progress tree refusal = record { kept = kept_of progress; tree = grown_of tree; refusal = refusal }

-- a reader with this state has taken the octets b, and its tree is theirs
pub record HasBegun (b : List ℕ) (r : Reading) : Type 0 where
  pub taken : HasTaken b r.kept
  pub grown : HasGrown b r.kept r.tree

-- a reader with this state has taken the octets b, and refused none
pub record HasRead (b : List ℕ) (r : Reading) : Type 0 where
  pub begun : HasBegun b r
  pub none : r.refusal ≡ None

-- After the octets b, a feed of the piece ended after n octets of it. If an allocation failed, those octets were taken,
-- and the reader can be fed the rest. Otherwise they were taken, and the next octet is refused: this is the verdict on
-- b and the piece, and it is kept.
abbrev pub IsEndedFeed : ℕ → List ℕ → List ℕ → Reading → ℕ → Refused TlvReason → Type 0
IsEndedFeed max b piece new n refused.Memory = (n ≤ length piece) × HasRead (b ++ take n piece) new
IsEndedFeed max b piece new n (refused.Stop stop) =
    (n ≤ length piece) × HasBegun (b ++ take n piece) new
    × RefusesAt whole (IsForest max) (IsReason max) (b ++ piece) stop
    × ((r : Refusal TlvReason) × (new.refusal ≡ Some r) × (stop ≡ At r.place r.reason) × (r.place ≡ length b + n))

-- One step over a piece that isn't empty. Either some of its octets were taken, at least one, or the feed ended before
-- the first of them.
abbrev pub HasAdvanced : Reading → List ℕ → Reading → Result ℕ (Refused TlvReason) → Type 0
HasAdvanced old piece new (Ok n) = (0 < n) × (n ≤ length piece)
    × ((b : List ℕ) → HasRead b old → HasRead (b ++ take n piece) new)
HasAdvanced old piece new (Err r) = (b : List ℕ) → HasRead b old → IsEndedFeed old.kept.max b piece new 0 r

-- what the reader returns once it has a refusal
abbrev pub stop_of : Refusal TlvReason → Stop TlvReason
stop_of r = At r.place r.reason
