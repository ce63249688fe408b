use Rattle.std.proofs.Common.{◌≡◌, ◌∙◌, ◌++◌, ◌∷◌, [], ℕ, arith, sym, subst}
use Rattle.atr_core.specs.declared.header.Header.{Header}
use Rattle.atr_core.specs.Atr.{AtrParts}
use Rattle.atr_core.specs.Partial.{HeaderHolds, HeaderParts, header_taken, heading}
use Rattle.atr_core.proofs.Partials.{byte-holds, byte-taken}
use Rattle.atr_core.proofs.header.Header.take.Goals as goal
use Rattle.atr_core.proofs.header.Header.take.Goals.{then-has_byte, else-has_byte+in_ok-take_td}

-- what holds of the parts and the header that a branch leaves holds of those after it
after : (P : AtrParts → Header → Type 0) (a b : AtrParts) (h g : Header) → a ≡ b → h ≡ g → P b g → P a h
after P a b h g same-parts same-header p =
    subst (λ (x : AtrParts). P x h) (sym same-parts) (subst (P b) (sym same-header) p)

pub returns-clause-holds : goal.returns-clause-holds
returns-clause-holds c =
    let a : AtrParts = c.args.atr.now in
    let h : HeaderParts = heading a c.args.self.now in
    let x : ℕ = c.args.octet in
    let Good : AtrParts → Header → Type 0 = λ b g. HeaderHolds (heading b g) in
    elim c.if-has_byte.branch [
      | then-has_byte w ↦ after Good _ _ _ _ w.atr-is (w.self-is ∙ w.take_byte.ensures.same)
          (byte-holds h w.take_byte.new.self.bytes w.take_byte.new.self.awaited x c.requires.holds (omega arith)
          w.take_byte.ensures.puts)
      | else-has_byte+in_ok-take_td w ↦ after Good _ _ _ _ w.atr-is w.self-is w.in_ok-take_td.ensures.holds
    ]

pub returns-clause-taken : goal.returns-clause-taken
returns-clause-taken c =
    let a : AtrParts = c.args.atr.now in
    let h : HeaderParts = heading a c.args.self.now in
    let x : ℕ = c.args.octet in
    let Good : AtrParts → Header → Type 0 = λ b g. header_taken (heading b g) ≡ header_taken h ++ x ∷ [] in
    elim c.if-has_byte.branch [
      | then-has_byte w ↦ after Good _ _ _ _ w.atr-is (w.self-is ∙ w.take_byte.ensures.same)
          (byte-taken h w.take_byte.new.self.bytes w.take_byte.new.self.awaited x 0 0 w.take_byte.ensures.puts)
      | else-has_byte+in_ok-take_td w ↦ after Good _ _ _ _ w.atr-is w.self-is w.in_ok-take_td.ensures.taken
    ]
