use Rattle.std.proofs.Common.{◌∙◌, ap, subst, map, string_bytes}
use Rattle.std.proofs.lemmas.Result.{IfOk-weaker}
use Rattle.clap.specs.Words.{App, FailsBy, fault_of, is_simple, is_simple_and_free, subcommand_of}
use Rattle.command_words.proofs.CommandLines.{tao_is_free, tao_is_simple}
use Rattle.command_words.specs.CommandLine.{faults_in, subcommand_in}
use Rattle.command_words.proofs.command.parse.Goals as goal

pub returns-clause-subcommand : goal.returns-clause-subcommand
unfolding subcommand_in
returns-clause-subcommand c =
    let same = c.in_ok-tao.ensures in
    let named : App → _ = λ app. subcommand_of app (map string_bytes c.args.words.now) in
    IfOk-weaker c.try_get_matches_from.result _ _ (λ m h. (h (ap is_simple same ∙ tao_is_simple)).1 ∙ ap named same)
    c.try_get_matches_from.ensures.matches

pub returns-clause-faults : goal.returns-clause-faults
unfolding faults_in
returns-clause-faults c =
    let same = c.in_ok-tao.ensures in
    subst (λ (app : App). FailsBy (fault_of app (map string_bytes c.args.words.now)) c.try_get_matches_from.result) same
    (c.try_get_matches_from.ensures.kinds (ap is_simple_and_free same ∙ tao_is_free))
