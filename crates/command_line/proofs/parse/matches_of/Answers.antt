use Rattle.std.proofs.Common.{ap, refl, true, ◌≡◌, ◌∙◌, subst}
use Rattle.std.proofs.lemmas.Result.{IfOk-weaker}
use Rattle.clap.specs.Words.{App, fault_of, is_simple, subcommand_of}
use Rattle.clap.specs.Faults.{is_simple_and_free}
use Rattle.clap.specs.Kinds.{FailsBy}
use Rattle.clap.proofs.OnLiterals.{clap_on_literals}
use Rattle.command_line.specs.Form.{scard, texts}
use Rattle.command_line.proofs.Parsing.{fails-ok, fails-err}
use Rattle.command_line.proofs.parse.matches_of.Goals as goal

is-simple : is_simple scard ≡ true
unfolding clap_on_literals scard
is-simple = refl

is-free : is_simple_and_free scard ≡ true
unfolding clap_on_literals scard
is-free = refl

pub returns-clause-taken : goal.returns-clause-taken
returns-clause-taken c =
    let parse = c.try_get_matches_from in
    fails-ok (fault_of scard (texts c.args.words.now)) parse.result
    (subst (λ (a : App). FailsBy (fault_of a (texts c.args.words.now)) parse.result) c.in_ok-program.ensures
    (parse.ensures.kinds (ap is_simple_and_free c.in_ok-program.ensures ∙ is-free)))

pub returns-clause-entered : goal.returns-clause-entered
returns-clause-entered c =
    let parse = c.try_get_matches_from in
    IfOk-weaker parse.result _ _ (λ m h. (h (ap is_simple c.in_ok-program.ensures ∙ is-simple)).1
    ∙ ap (λ (a : App). subcommand_of a (texts c.args.words.now)) c.in_ok-program.ensures) parse.ensures.matches

pub returns-clause-kind : goal.returns-clause-kind
returns-clause-kind c =
    let parse = c.try_get_matches_from in
    fails-err (fault_of scard (texts c.args.words.now)) parse.result
    (subst (λ (a : App). FailsBy (fault_of a (texts c.args.words.now)) parse.result) c.in_ok-program.ensures
    (parse.ensures.kinds (ap is_simple_and_free c.in_ok-program.ensures ∙ is-free)))
