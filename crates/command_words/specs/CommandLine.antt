-- The program's command line: a command with one subcommand for each thing that it does.
use Rattle.std.specs.Prelude.{ℕ, ◌-◌, ◌^◌, true, List, [], Option, Some, codes}
use Rattle.clap.specs.declared.builder.value_parser.ValueParser.TheVariants.{Unsigned}
use Rattle.clap.specs.Words.{App, Kinds, Row, Rule, Shape, Text, fault_of, new_app, new_rule, subcommand_of, with_rule, with_subcommand}

-- the option that names the file of the tables, with one name for its value
abbrev pub sql_rule : Rule
sql_rule = record (new_rule (codes "sql")) { long = Some (codes "sql"); value_names = 1 }

-- `run [--sql FILE]`
abbrev pub run_shape : Shape
run_shape = (with_rule (new_app (codes "run")) sql_rule).top

-- an option that is needed, and whose value is a number in a range
abbrev pub number_rule : List ℕ → ℕ → ℕ → Rule
number_rule name least most = record (new_rule name) { long = Some name; parser = Some (Unsigned least most); required = true }

-- an option that is needed, whose value is a number in a range and has one name
abbrev pub named_number : List ℕ → ℕ → ℕ → Rule
named_number name least most = record (number_rule name least most) { value_names = 1 }

-- `--seed N`: any seed of 64 bits
abbrev pub seed_rule : Rule
seed_rule = named_number (codes "seed") 0 (2 ^ 64 - 1)

-- `--calls N`: from 1 to 100,000 calls
abbrev pub calls_rule : Rule
calls_rule = named_number (codes "calls") 1 100000

-- `--threads N`: from 1 to 16 threads
abbrev pub threads_rule : Rule
threads_rule = named_number (codes "threads") 1 16

-- `gen --seed N --calls N`
abbrev pub gen_shape : Shape
gen_shape = (with_rule (with_rule (new_app (codes "gen")) seed_rule) calls_rule).top

-- `load --seed N --calls N`
abbrev pub threadless_app : App
threadless_app = with_rule (with_rule (new_app (codes "load")) seed_rule) calls_rule

-- `load --seed N --calls N --threads N`
abbrev pub load_shape : Shape
load_shape = (with_rule threadless_app threads_rule).top

-- `--port N`: from 1 to 65,535
abbrev pub port_rule : Rule
port_rule = named_number (codes "port") 1 65535

-- `serve --port N`
abbrev pub serve_shape : Shape
serve_shape = (with_rule (new_app (codes "serve")) port_rule).top

-- the program without its subcommands: the words don't begin with its name, and one of the subcommands is needed
abbrev pub bare_app : App
bare_app = record {
  top = record (new_app (codes "tao")).top {
    has_version = true;
    no_binary_name = true;
    disable_help_subcommand = true;
    subcommand_required = true;
  };
  subs = [];
}

-- the program with the subcommands `run`, `gen` and `load`
abbrev pub made_app : App
made_app = with_subcommand (with_subcommand (with_subcommand bare_app run_shape) gen_shape) load_shape

-- the program with its subcommands, `run`, `gen`, `load` and `serve`
abbrev pub tao_app : App
tao_app = with_subcommand made_app serve_shape

-- the kinds of faults that the words have: none where they are the program's
unfoldable pub faults_in : List Text → Kinds
faults_in words = fault_of tao_app words

-- the subcommand that the words name, and what they give of its options
unfoldable pub subcommand_in : List Text → Option (Text × List Row)
subcommand_in words = subcommand_of tao_app words
