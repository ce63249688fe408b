use Rattle.std.proofs.Common.{◌++◌, ◌∷◌, [], List, ℕ, refl, subst}
use Rattle.program_words.specs.Texts.{fault_text}
use Rattle.program_words.specs.declared.fault.Fault.TheVariants.{Memory}
use Rattle.program.specs.LineAnswers.{all_told, first_told, AreTelling}
use Rattle.program_octets.specs.declared.status.Status.TheVariants as ended
use Rattle.program.proofs.ByLine.{begun-here}
use Rattle.program.proofs.lines.AnsweredLines.ended.Goals as goal

pub returns-in-Ok : goal.returns-in-Ok
returns-in-Ok g c read written h = record {
  events = c.tell.ensures.0 ∷ [];
  text = c.last.new.self.text.items;
  right = c.last.new.self.status;
  happened = c.tell.ensures.1;
  is_right = all_told (c.in-Ok.ensures.answer read written h);
  are_telling = rw c.as_slice.ensures.value at c.tell.ensures.2;
}

pub returns-in-Err : goal.returns-in-Err
returns-in-Err g c read written h = record {
  events = c.faulted.ensures.0;
  text = c.args.self.text.items ++ fault_text Memory;
  right = ended.Fault;
  happened = c.faulted.ensures.1;
  is_right = first_told c.args.self.text.items
      (begun-here c.args.self.line_task read written c.args.self.line.items c.args.self.text.items c.args.self.status h)
      refl refl;
  are_telling = subst (λ (t : List ℕ). AreTelling (t ++ fault_text Memory) ended.Fault c.faulted.ensures.0
      c.faulted.result) c.in-Err.ensures.kept c.faulted.ensures.2;
}
