-- Examples of words compute.
use Rattle.std.proofs.Common.{refl}
use Rattle.std.specs.Fmt.{digits}
use Rattle.clap.proofs.OnLiterals.{clap_on_literals}
use Rattle.command_words.specs.CommandLine.{faults_in, subcommand_in}
use Rattle.command_words.specs.Read.{ExamplesOfWords}

pub examples_of_words : ExamplesOfWords
unfolding clap_on_literals faults_in subcommand_in digits
examples_of_words = record {
  in_memory = refl;
  in_a_file = refl;
  with_equals = refl;
  none = refl;
  unknown = refl;
  one_more = refl;
  no_file = refl;
  two_files = refl;
  unknown_option = refl;
  made = refl;
  made_otherwise = refl;
  most = refl;
  past_most_seed = refl;
  past_most_calls = refl;
  no_call = refl;
  signed = refl;
  padded = refl;
  no_number = refl;
  no_seed = refl;
  no_calls = refl;
  made_in_a_file = refl;
  loaded = refl;
  most_loaded = refl;
  program_run = refl;
  program_made = refl;
  no_run = refl;
  no_thread = refl;
  past_most_threads = refl;
  past_most_loaded = refl;
  padded_threads = refl;
  no_threads = refl;
  made_on_threads = refl;
  served = refl;
  greatest_port = refl;
  past_greatest_port = refl;
  port_zero = refl;
  padded_port = refl;
  no_port = refl;
  served_on_threads = refl;
  run_of_serve = refl;
  help_of_serve = refl;
  help_of_load = refl;
  help = refl;
  help_of_run = refl;
  help_of_gen = refl;
  version = refl;
  no_help = refl;
}
