-- The tables of the code are those of the standard.
use Rattle.std.proofs.Common.{◌≡◌, ◌∙◌, ◌==◌, ◌&&◌, ap, refl, ℕ, List, [], ◌∷◌, map, Bool, true, false, if◌then◌else◌}
use Rattle.notes.specs.Says.{named}
use Rattle.notes.specs.Tables.{instructions, statuses}
use Rattle.notes.specs.declared.command.TheConstants.{INSTRUCTIONS}
use Rattle.notes.specs.declared.response.TheConstants.{STATUSES}

-- a name is looked up alike in rows that are seen otherwise
either : (b : Bool) (x y z : List ℕ) → y ≡ z → (if b then x else y) ≡ (if b then x else z)
either true x y z e = refl
either false x y z e = e

same-named : {A B : Type 0} (f : A → B) (is : B → Bool) (name : B → List ℕ) (rows : List A)
    → named (λ row. is (f row)) (λ row. name (f row)) rows ≡ named is name (map f rows)
same-named f is name [] = refl
same-named f is name (row ∷ rows) = either (is (f row)) (name (f row)) _ _ (same-named f is name rows)

same-instructions : map (λ row. (row.0, row.1.now)) INSTRUCTIONS ≡ instructions
unfolding instructions
same-instructions = refl

same-statuses : map (λ row. (row.0, row.1, row.2.now)) STATUSES ≡ statuses
unfolding statuses
same-statuses = refl

pub instruction-named : (instruction : ℕ) → named (λ row. row.0 == instruction) (λ row. row.1.now) INSTRUCTIONS
    ≡ named (λ row. row.0 == instruction) (λ row. row.1) instructions
instruction-named instruction =
    same-named {B = ℕ × List ℕ} (λ row. (row.0, row.1.now)) (λ row. row.0 == instruction) (λ row. row.1) INSTRUCTIONS
    ∙ ap (λ rows. named (λ row. row.0 == instruction) (λ row. row.1) rows) same-instructions

pub status-named : (sw1 sw2 : ℕ)
    → named (λ row. row.0 == sw1 && row.1 == sw2) (λ row. row.2.now) STATUSES
    ≡ named (λ row. row.0 == sw1 && row.1 == sw2) (λ row. row.2) statuses
status-named sw1 sw2 =
    same-named {B = ℕ × ℕ × List ℕ} (λ row. (row.0, row.1, row.2.now)) (λ row. row.0 == sw1 && row.1 == sw2)
    (λ row. row.2) STATUSES
    ∙ ap (λ rows. named (λ row. row.0 == sw1 && row.1 == sw2) (λ row. row.2) rows) same-statuses
