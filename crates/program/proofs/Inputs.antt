-- How a whole input is read, call by call.
use Rattle.std.proofs.Common.{◌≡◌, ◌≤◌, ◌<◌, ◌∙◌, ◌+◌, inl, ℕ, List, [], ◌++◌, Option, None, Some, Result, Ok, Err, IfOk, ap, arith, sym, subst, refl, append_assoc, drop, take}
use Rattle.std.proofs.lemmas.List.{length-take}
use Rattle.std.proofs.Math.Seq.{take-add}
use Rattle.std.specs.Io.KnownBytes.{Consumes, Keeps}
use Rattle.octet_core.specs.Failures.{next_count}
use Rattle.program_words.specs.declared.fault.Fault.{Fault}
use Rattle.program_words.specs.declared.fault.Fault.TheVariants.{Words, Hex, Memory, Read, TooLarge}
use Rattle.program_words.specs.declared.given.OctetSource.TheVariants.{Word}
use Rattle.program.specs.Calls.{calls, Calls}
use Rattle.program.specs.Files.{largest_file, IsBegun, IsHeld, IsMore, IsTaken, IsTooLarge, IsWhole, ReadsMore, ReadsWhole}

-- two reads in a row
pub Consumes-then : (a b c : Option (List ℕ)) (x y : List ℕ) → Consumes a b x → Consumes b c y → Consumes a c (x ++ y)
Consumes-then None b c x y p q = tt
Consumes-then (Some a) None c x y p q = absurd p
Consumes-then (Some a) (Some b) None x y p q = absurd q
Consumes-then (Some a) (Some b) (Some c) x y p q = p ∙ ap (λ (l : List ℕ). x ++ l) q ∙ sym (append_assoc x y c)

-- a read, and then a call that read nothing
pub Consumes-kept : (a b c : Option (List ℕ)) (x : List ℕ) → Consumes a b x → Keeps b c → Consumes a c x
Consumes-kept None b c x p q = tt
Consumes-kept (Some a) None c x p q = absurd p
Consumes-kept (Some a) (Some b) None x p q = absurd q
Consumes-kept (Some a) (Some b) (Some c) x p q = p ∙ ap (λ (l : List ℕ). x ++ l) (sym q)

-- no octet was read
pub Consumes-none : (a : Option (List ℕ)) → Consumes a a []
Consumes-none None = tt
Consumes-none (Some a) = refl

-- before the first call no octet was read
pub none-begun : (held : Option (List ℕ)) (count most : ℕ) → IsBegun (calls held held count count) most
none-begun held count most = record { read = []; from = Consumes-none held; few = omega arith }

-- and none is in the buffer
pub none-held : (held : Option (List ℕ)) (count : ℕ) (items : List ℕ) → items ≡ []
    → IsHeld (calls held held count count) items 0
none-held held count items none = record {
  inside = omega arith;
  most = rw none (omega arith);
  from =
      Consumes-none held;
  count = refl;
}

module _ (held between left : Option (List ℕ)) (before middle after : ℕ) (old new : List ℕ) (filled : ℕ)
    (so_far : IsHeld (calls held between before middle) old filled) where
  -- what a call brings comes after the octets before it
  pub more-held : (count : ℕ) → IsMore (calls between left middle after) old new filled count
      → IsHeld (calls held left before after) new (filled + count)
  more-held count more = record {
    inside = more.inside;
    most = more.most;
    from = subst (Consumes held left) (sym (take-add filled count new))
        (Consumes-then held between left (take filled new) (take count (drop filled new))
        (subst (Consumes held between) (sym more.kept) so_far.from) more.from);
    count = more.none_failed ∙ so_far.count;
  }

  begun : filled ≤ largest_file → Keeps between left → IsBegun (calls held left before after) largest_file
  begun few kept = record {
    read = take filled old;
    from =
        Consumes-kept held between left (take filled old) so_far.from kept;
    few =
        omega (arith, few, length-take filled old);
  }

  -- a fault of a call is that of reading, where the octets so far fit a file
  pub fault-read : (fault : Fault) → filled ≤ largest_file
      → ReadsMore (calls between left middle after) old new filled (Err fault)
      → ReadsWhole (calls held left before after) (Err fault)
  fault-read Words few h = absurd h
  fault-read Hex few h = absurd h
  fault-read TooLarge few h = absurd h
  fault-read Read few h = (begun few h.0, h.1 ∙ ap next_count so_far.count)
  fault-read Memory few h = (begun few h.0, h.1 ∙ so_far.count)

  -- where a call brings no octet, those so far are all, if they fit a file
  pub whole-read : (count : ℕ) → count ≡ 0 → filled ≤ largest_file
      → IsMore (calls between left middle after) old new filled count
      → IsWhole (calls held left before after) (take filled new)
  whole-read count none few more = record {
    from = subst (λ (n : ℕ). Consumes held left (take n new)) (omega (arith, none)) (more-held count more).from;
    end = more.end none;
    fits = omega (arith, few, length-take filled new);
    count = more.none_failed ∙ so_far.count;
  }

-- more octets than fit a file are too many
pub too-large : (reads : Calls) (items : List ℕ) (filled : ℕ) → IsHeld reads items filled → largest_file < filled
    → IsTooLarge reads
too-large reads items filled so_far many = record {
  read = take filled items;
  from = so_far.from;
  many = omega (arith, many, so_far.inside, so_far.most, length-take filled items);
  count = so_far.count;
}

-- ---- octets that are given

-- the octets that a word gives are taken, and the reader isn't called
pub word-taken : (octets : List ℕ) (held : Option (List ℕ)) (count : ℕ)
    → IsTaken (Word octets) (calls held held count count) (Ok octets)
word-taken octets held count = record {
  file = Ok [];
  is_file = λ asked. absurd asked;
  is_taken = inl refl;
  count =
      refl;
}

-- where they were, no call failed
pub counted : (before after : ℕ) (taken : Result (List ℕ) Fault) → after ≡ before → IfOk taken (λ _. after ≡ before)
counted before after (Ok octets) h = h
counted before after (Err fault) h = tt
