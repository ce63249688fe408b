use Rattle.std.proofs.Common.{◌≡◌, ◌∙◌, String, arith, false, length, nat_eq, string_bytes, sym, true, Bool, inl, inr}
use Rattle.std.specs.declared.alloc.Global.{Global}
use Rattle.std.proofs.lemmas.Bool.Decides.{eqb_tells}
use Rattle.std.specs.String.{string_len}
use Rattle.command_line.specs.Form.{texts}
use Rattle.program.specs.Explained.{on_list}
use Rattle.program.proofs.Explaining.{known-noted}
use Rattle.program.proofs.judged.fill_note.Goals as goal

none-in : (note : String Global) (empty : Bool) → empty ≡ true → empty ≡ nat_eq (string_len note) 0
    → length (string_bytes note) ≡ 0
none-in note empty is same = elim (eqb_tells (string_len note) 0) [
  | inl h ↦ omega (arith, h.1, note.bytes.ok.0)
  | inr h ↦ absurd (let bad : true ≡ false = sym is ∙ same ∙ h.0 in cc)
]

some-in : (note : String Global) (empty : Bool) → empty ≡ false → empty ≡ nat_eq (string_len note) 0
    → length (string_bytes note) ≡ 0 → ⊥
some-in note empty is same none = elim (eqb_tells (string_len note) 0) [
  | inl h ↦ let bad : true ≡ false = sym h.0 ∙ sym same ∙ is in absurd cc
  | inr h ↦ h.1 (omega (arith, none, note.bytes.ok.0))
]

pub returns-then-not-is_empty : goal.returns-then-not-is_empty
returns-then-not-is_empty c = on_list (c.args.verdict, c.requires, c.in_ok-note.ensures)
    (some-in c.in_ok-note.note c.is_empty.result c.if-not-is_empty.true c.is_empty.ensures)

pub returns-in-Ok : goal.returns-in-Ok
returns-in-Ok c =
    let none = none-in c.in_ok-note.note c.is_empty.result c.if-not-is_empty.false c.is_empty.ensures in
    known-noted c.duplicate_note.result (texts c.args.words.now) c.args.list.now c.args.known.now
    (string_bytes c.in_ok-note.note) none (c.args.verdict, c.requires, c.in_ok-note.ensures)
    (rw (c.in-Ok.is, sym c.get.ensures) c.duplicate_note.ensures)

pub returns : goal.returns
returns c =
    let none = none-in c.in_ok-note.note c.is_empty.result c.if-not-is_empty.false c.is_empty.ensures in
    known-noted c.known_note.result (texts c.args.words.now) c.args.list.now c.args.known.now
    (string_bytes c.in_ok-note.note) none (c.args.verdict, c.requires, c.in_ok-note.ensures)
    (rw c.in-Err.is c.known_note.ensures)
