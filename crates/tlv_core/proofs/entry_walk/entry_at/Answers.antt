use Rattle.std.proofs.Common.{◌<◌, ◌≤◌, List, ℕ, length, take, get_or, subst, arith}
use Rattle.std.proofs.lemmas.List.{take_all}
use Rattle.tlv_core.specs.declared.tag_part.TagPart.{TagPart}
use Rattle.tlv_core.proofs.Listing.{Listing, before_at, before_end, listed_more, listing_refused, listing_short}
use Rattle.tlv_core.proofs.Entries.{Entry}
use Rattle.tlv_core.proofs.entry_walk.entry_at.Goals as goal

pub returns-in-Tagged-clause-given : goal.returns-in-Tagged-clause-given
returns-in-Tagged-clause-given c entries h =
    let b = c.args.octets.now in
    let l = c.loop-place in
    let small : get_or b l.place 0 < 256 = omega (arith, c.type_inv.octets l.place) in
    listed_more b c.args.from l.place entries c.in-Tagged.tag l.part c.loop-place-test.true small l.invariant.place
    c.in-Tagged.is (l.invariant.listed entries h)

pub returns-in-Err : goal.returns-in-Err
returns-in-Err c =
    let b = c.args.octets.now in
    let l = c.loop-place in
    record {
      inside = tt;
      given = λ entries h. tt;
      all = λ entries h. tt;
      refused = λ entries h.
          listing_refused b l.place entries l.part c.in-Err.reason c.loop-place-test.true
          (l.invariant.listed entries h) c.in-Err.ensures.err;
      before = λ entries h. before_at b l.place entries l.part (l.invariant.listed entries h);
    }

-- all octets were looked at
all_is : (n : ℕ) (b : List ℕ) (entries : List Entry) (p : TagPart) → length b ≤ n → Listing (take n b) entries p
    → Listing b entries p
all_is n b entries p le l = subst (λ (k : List ℕ). Listing k entries p) (take_all n b le) l

pub returns : goal.returns
returns c =
    let b = c.args.octets.now in
    let l = c.loop-place in
    record {
      inside = tt;
      given = λ entries h. tt;
      all = λ entries h. tt;
      refused = λ entries h.
          listing_short b entries l.part
          (all_is l.place b entries l.part c.loop-place-test.false (l.invariant.listed entries h))
          c.in_default-part.not-Nothing;
      before = λ entries h. before_end b entries l.part
          (all_is l.place b entries l.part c.loop-place-test.false (l.invariant.listed entries h));
    }
