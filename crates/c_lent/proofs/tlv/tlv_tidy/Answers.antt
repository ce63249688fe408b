use Rattle.std.proofs.Common.{◌≡◌, ◌++◌, ◌∙◌, ℕ, List, length, drop, refl, sym, ap, inl, inr, arith, nat_le}
use Rattle.std.specs.Prelude.{if◌then◌else◌}
use Rattle.std.proofs.lemmas.Bool.{cases_lt}
use Rattle.tlv_core.specs.Forest.{spelling, largest}
use Rattle.tlv_core.specs.Tidy.{tidy}
use Rattle.tlv_core.proofs.Tidied.{tidy_spelling}
use Rattle.c_lent.specs.Verdict.{put_into, ok_at, wrong_argument}
use Rattle.c_lent.proofs.Puts.{buffer-fits, buffer-lacks}
use Rattle.c_lent.proofs.tlv.tlv_tidy.Goals as goal

pub returns-in-Ok-clause-tidied : goal.returns-in-Ok-clause-tidied
returns-in-Ok-clause-tidied c = λ le _.
    let put = c.in-Ok.ensures.tidied in
    let count = c.in-Ok.count in
    let old = c.args.out.now in
    let given : List ℕ = spelling (tidy put.tree) in
    let room : length c.put_tidy.new.out ≡ length old = omega arith in
    let buffer : c.put_tidy.new.out ≡ put_into given old =
    elim (cases_lt (length old) count) [
      | inl lt ↦ put.lacks lt ∙ sym (buffer-lacks given old (omega (arith, put.number)))
      | inr fits ↦
          put.fits fits ∙ ap (λ (n : ℕ). given ++ drop n old) put.number
          ∙ sym (buffer-fits given old (omega (arith, put.number)))
    ] in (
      put.tree,
      put.forest,
      record {
        octets = given;
        spells = tidy_spelling largest put.tree
            (record {
              proper = put.forest.proper;
              is = refl;
              size = omega (arith, le, put.forest.size, ap length put.forest.is);
            });
        verdict = c.put.ensures
            ∙ ap (λ (n : ℕ). if nat_le count n then ok_at count else wrong_argument count) room
            ∙ ap (λ (n : ℕ). if nat_le n (length old) then ok_at n else wrong_argument n) put.number;
        buffer = buffer;
      },
    )
