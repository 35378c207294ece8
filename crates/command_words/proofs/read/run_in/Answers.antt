use Rattle.std.proofs.Common.{◌∙◌, ap, codes}
use Rattle.clap.proofs.WalkLemmas.{first_value-rows}
use Rattle.clap.specs.Words.{found_of}
use Rattle.command_words.specs.declared.read.Words.TheVariants.{Run}
use Rattle.command_words.proofs.read.run_in.Goals as goal

pub returns : goal.returns
returns c = ap (λ sql. Run sql) (c.in_ok-sql.ensures ∙ c.get_str.ensures ∙ first_value-rows (found_of c.args.given.now) (codes "sql"))
