use Rattle.std.proofs.Common.{◌∙◌, sym}
use Rattle.std.proofs.lemmas.Result.{IfOk-weaker}
use Rattle.clap.proofs.WalkLemmas.{first_value-rows}
use Rattle.clap.specs.Words.{found_of, rows_of}
use Rattle.command_words.proofs.Numbers.{lacking_in, number_is_in}
use Rattle.command_words.proofs.read.number_in.Goals as goal

pub returns-in-Some : goal.returns-in-Some
returns-in-Some c =
    let found = found_of c.args.given.now in
    let first = sym (first_value-rows found c.args.name.now) ∙ sym c.in-Some.ensures in
    IfOk-weaker c.number.result _ _ (λ number is. is ∙ number_is_in (rows_of found) c.args.name.now c.in-Some.text.now first) c.number.ensures

pub returns-in-None : goal.returns-in-None
returns-in-None c =
    let found = found_of c.args.given.now in
    lacking_in (rows_of found) c.args.name.now (sym (first_value-rows found c.args.name.now) ∙ sym c.in-None.ensures)
