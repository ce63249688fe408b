use Rattle.std.proofs.Common.{arith, ◌≡◌, Bool, ℕ, sym, ap, subst, ◌+◌, ◌==◌, ◌%◌, not, ◌||◌, Some, bit_xor, ◌++◌, ◌∷◌, []}
use Rattle.atr_core.specs.Atr.{AtrParts, count_of}
use Rattle.atr_core.specs.Partial.{HeaderParts, heading, no_bytes, HeaderHolds, header_taken}
use Rattle.atr_core.proofs.Partials.{closed-proper, td-room, td-holds, td-taken, td-refused, byte-count, bare}
use Rattle.atr_core.proofs.header.Header.take_td.Goals as goal

pub returns-then-count-announced-gt-MOST_OCTETS-clause-refused :
    goal.returns-then-count-announced-gt-MOST_OCTETS-clause-refused
returns-then-count-announced-gt-MOST_OCTETS-clause-refused c =
    let tck : count_of c.needs_tck_after-tck.result ≡ count_of (not (c.args.octet % 16 == 0) || c.args.self.now.tck) =
    ap count_of c.needs_tck_after-tck.ensures in
    td-refused (heading c.args.atr.now c.args.self.now) c.args.octet c.requires.holds c.requires.awaited
    (omega (arith, tck, byte-count c.needs_tck_after-tck.result, c.from.ensures))

pub close_section-requires : goal.close_section-requires
close_section-requires c =
    let h : HeaderParts = heading c.args.atr.now c.args.self.now in record {
      room = td-room h c.requires.holds;
      proper = closed-proper h c.requires.holds;
    }

pub returns-clause-holds : goal.returns-clause-holds
returns-clause-holds c =
    let h : HeaderParts = heading c.args.atr.now c.args.self.now in
    let x : ℕ = c.args.octet in
    let tck : Bool = c.needs_tck_after-tck.result in
    let none : c.default-self.result ≡ no_bytes =
    bare c.default-self.result c.default-self.ensures.0 c.default-self.ensures.1.0 c.default-self.ensures.1.1 in
    let After : AtrParts → Type 0 = λ a. HeaderHolds
    (heading a
    (record c.args.self.now {
      under = Some (x % 16);
      bytes = c.default-self.result;
      awaited = c.by-self.result;
      tck = tck;
      sum =
          bit_xor h.sum x;
      count = h.count + 1;
    })) in
    subst After (sym c.close_section.ensures)
    (td-holds h c.default-self.result c.by-self.result x tck c.requires.holds c.requires.awaited
    (omega arith) none c.by-self.ensures c.needs_tck_after-tck.ensures
    (omega (arith, byte-count tck, c.from.ensures)))

pub returns-clause-taken : goal.returns-clause-taken
returns-clause-taken c =
    let h : HeaderParts = heading c.args.atr.now c.args.self.now in
    let x : ℕ = c.args.octet in
    let tck : Bool = c.needs_tck_after-tck.result in
    let none : c.default-self.result ≡ no_bytes =
    bare c.default-self.result c.default-self.ensures.0 c.default-self.ensures.1.0 c.default-self.ensures.1.1 in
    let After : AtrParts → Type 0 = λ a. header_taken
    (heading a
    (record c.args.self.now {
      under = Some (x % 16);
      bytes = c.default-self.result;
      awaited = c.by-self.result;
      tck = tck;
      sum =
          0;
      count = 0;
    })) ≡ header_taken h ++ x ∷ [] in
    subst After (sym c.close_section.ensures)
    (td-taken h c.default-self.result c.by-self.result x tck 0 0 c.requires.holds c.requires.awaited
    none c.by-self.ensures)
