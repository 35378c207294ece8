-- What words ask for, and when they ask for nothing.
use Rattle.std.specs.Prelude.{ℕ, ◌≡◌, ◌≤◌, ◌&&◌, ◌-◌, ◌^◌, ⊤, Bool, true, false, List, [], ◌∷◌, Option, None, Some, Result, Ok, Err, bytes_eq, codes}
use Rattle.std.specs.Prelude.{if◌then◌else◌, nat_lt, ok_or, option_and_then, option_map}
use Rattle.std.specs.Bool.{then_some}
use Rattle.std.specs.List.{list_all, list_any}
use Rattle.clap.specs.Words.{Kinds, Row, Text, first_of}
use Rattle.outcomes.specs.Options.{◌>>=◌}
use Rattle.topology.specs.Lookup.{number_below}
use Rattle.clap.specs.declared.error.kind.ErrorKind.{ErrorKind}
use Rattle.clap.specs.declared.error.kind.ErrorKind.TheVariants as kind
use Rattle.command_words.specs.CommandLine.{faults_in, subcommand_in}
use Rattle.command_words.specs.declared.read.LoadWords.{LoadWords}
use Rattle.command_words.specs.declared.read.ProgramWords.{ProgramWords}
use Rattle.command_words.specs.declared.read.ProgramWords.TheVariants.{Load, OneThread, Serve}
use Rattle.command_words.specs.declared.read.Words.{Words}
use Rattle.command_words.specs.declared.read.Words.TheVariants.{Gen, Run}
use Rattle.command_words.specs.declared.read.WordsRefusal.{WordsRefusal}
use Rattle.command_words.specs.declared.read.WordsRefusal.TheVariants.{Usage, OutOfMemory}

-- the number of 64 bits that an option is given, in decimal without a sign or a leading zero
abbrev pub number_in : List Row → List ℕ → Option ℕ
number_in rows name = option_and_then (λ text. number_below (2 ^ 64) text) (first_of name rows)

-- what `gen` is asked for, where its options are such numbers
abbrev pub gen_in : List Row → Option Words
gen_in rows = do
  seed ← number_in rows (codes "seed")
  calls ← number_in rows (codes "calls")
  Some (Gen seed calls)

-- a number of threads: from 1 to 16
abbrev pub thread_count : ℕ → Option ℕ
thread_count n = then_some (nat_lt 0 n && nat_lt n 17) n

-- what `load` is asked for, where its options are such numbers, and that of its threads is one from 1 to 16
abbrev pub load_in : List Row → Option LoadWords
load_in rows = do
  seed ← number_in rows (codes "seed")
  calls ← number_in rows (codes "calls")
  threads ← number_in rows (codes "threads")
  count ← thread_count threads
  Some (record { threads = count; seed = seed; calls = calls })

-- a port: from 1 to 65,535
abbrev pub port_number : ℕ → Option ℕ
port_number n = then_some (nat_lt 0 n && nat_lt n 65536) n

-- what `serve` is asked for, where its option is a port
abbrev pub serve_in : List Row → Option ProgramWords
serve_in rows = do
  number ← number_in rows (codes "port")
  port ← port_number number
  Some (Serve port)

-- what a subcommand is asked for: `run`, `gen`, `load`, or else `serve`
abbrev pub command_in : Text × List Row → Option ProgramWords
command_in named =
    if bytes_eq named.0 (codes "run") then Some (OneThread (Run (first_of (codes "sql") named.1)))
    else (if bytes_eq named.0 (codes "gen") then option_map (λ words. OneThread words) (gen_in named.1)
    else (if bytes_eq named.0 (codes "load") then option_map (λ words. Load words) (load_in named.1) else serve_in named.1))

-- what the words ask for, unless they have a fault of any kind
abbrev pub unless_fault : Kinds → Option ProgramWords → Result ProgramWords WordsRefusal
unless_fault [] words = ok_or words Usage
unless_fault (kind ∷ kinds) words = Err Usage

-- what the words ask of the program
abbrev pub program_words_in : List Text → Result ProgramWords WordsRefusal
program_words_in words = unless_fault (faults_in words) (option_and_then command_in (subcommand_in words))

-- what is asked of one thread: nothing where more may be needed
abbrev pub on_one_thread : Result ProgramWords WordsRefusal → Result Words WordsRefusal
on_one_thread (Ok (OneThread words)) = Ok words
on_one_thread (Ok (Load words)) = Err Usage
on_one_thread (Ok (Serve port)) = Err Usage
on_one_thread (Err refusal) = Err refusal

-- what the words ask of a run, which is on one thread
abbrev pub words_in : List Text → Result Words WordsRefusal
words_in words = on_one_thread (program_words_in words)

-- the number of threads is one from 1 to 16
abbrev pub HasThreads : LoadWords → Type 0
HasThreads words = (1 ≤ words.threads) × (words.threads ≤ 16)

-- where threads are asked for, their number is one from 1 to 16
abbrev pub HasThreadsIfAny : ProgramWords → Type 0
HasThreadsIfAny (OneThread words) = ⊤
HasThreadsIfAny (Load words) = HasThreads words
HasThreadsIfAny (Serve port) = ⊤

-- the refusal, unless it is out of memory
abbrev pub usage_unless_memory : WordsRefusal → Option WordsRefusal
usage_unless_memory Usage = Some Usage
usage_unless_memory OutOfMemory = None

-- the refusal for a fault of a kind
abbrev pub refusal_by : ErrorKind → WordsRefusal
refusal_by kind.OutOfMemory = OutOfMemory
refusal_by _ = Usage

-- the words ask for a text, of help or of the version
abbrev pub is_asked : ErrorKind → Bool
is_asked kind.DisplayHelp = true
is_asked kind.DisplayVersion = true
is_asked _ = false

-- a fault among these asks for a text, of help or of the version
abbrev pub asks : Kinds → Bool
asks kinds = list_any is_asked kinds

-- each fault asks for a text, of help or of the version, and at least one is there
abbrev pub asks_alone : Kinds → Bool
asks_alone [] = false
asks_alone (kind ∷ kinds) = is_asked kind && list_all is_asked kinds

-- the words `gen --seed SEED --calls CALLS`
abbrev pub gen_words : Text → Text → List Text
gen_words seed calls = codes "gen" ∷ codes "--seed" ∷ seed ∷ codes "--calls" ∷ calls ∷ []

-- the words `load --seed SEED --calls CALLS --threads THREADS`
abbrev pub load_words : Text → Text → Text → List Text
load_words seed calls threads = codes "load" ∷ codes "--seed" ∷ seed ∷ codes "--calls" ∷ calls ∷ codes "--threads" ∷ threads ∷ []

-- the words `serve --port PORT`
abbrev pub serve_words : Text → List Text
serve_words port = codes "serve" ∷ codes "--port" ∷ port ∷ []

-- words and what they ask for
pub record ExamplesOfWords : Type 0 where
  pub in_memory : words_in (codes "run" ∷ []) ≡ Ok (Run None)
  pub in_a_file : words_in (codes "run" ∷ codes "--sql" ∷ codes "graph.db" ∷ []) ≡ Ok (Run (Some (codes "graph.db")))
  pub with_equals : words_in (codes "run" ∷ codes "--sql=graph.db" ∷ []) ≡ Ok (Run (Some (codes "graph.db")))
  pub none : words_in [] ≡ Err Usage
  pub unknown : words_in (codes "walk" ∷ []) ≡ Err Usage
  pub one_more : words_in (codes "run" ∷ codes "graph.db" ∷ []) ≡ Err Usage
  pub no_file : words_in (codes "run" ∷ codes "--sql" ∷ []) ≡ Err Usage
  pub two_files : words_in (codes "run" ∷ codes "--sql=a" ∷ codes "--sql=b" ∷ []) ≡ Err Usage
  pub unknown_option : words_in (codes "run" ∷ codes "--seed=1" ∷ []) ≡ Err Usage
  pub made : words_in (gen_words (codes "7") (codes "2000")) ≡ Ok (Gen 7 2000)
  pub made_otherwise : words_in (codes "gen" ∷ codes "--calls" ∷ codes "1" ∷ codes "--seed=0" ∷ []) ≡ Ok (Gen 0 1)
  pub most : words_in (gen_words (codes "18446744073709551615") (codes "100000")) ≡ Ok (Gen (2 ^ 64 - 1) 100000)
  pub past_most_seed : words_in (gen_words (codes "18446744073709551616") (codes "1")) ≡ Err Usage
  pub past_most_calls : words_in (gen_words (codes "7") (codes "100001")) ≡ Err Usage
  pub no_call : words_in (gen_words (codes "7") (codes "0")) ≡ Err Usage
  pub signed : words_in (gen_words (codes "+7") (codes "1")) ≡ Err Usage
  pub padded : words_in (gen_words (codes "7") (codes "01")) ≡ Err Usage
  pub no_number : words_in (gen_words (codes "seven") (codes "1")) ≡ Err Usage
  pub no_seed : words_in (codes "gen" ∷ codes "--calls=1" ∷ []) ≡ Err Usage
  pub no_calls : words_in (codes "gen" ∷ codes "--seed=1" ∷ []) ≡ Err Usage
  pub made_in_a_file : words_in (codes "gen" ∷ codes "--seed=1" ∷ codes "--calls=1" ∷ codes "--sql=a" ∷ []) ≡ Err Usage
  pub loaded : program_words_in (load_words (codes "7") (codes "2000") (codes "2")) ≡ Ok (Load (record { threads = 2; seed = 7; calls = 2000 }))
  pub most_loaded : program_words_in (load_words (codes "18446744073709551615") (codes "100000") (codes "16"))
      ≡ Ok (Load (record { threads = 16; seed = 2 ^ 64 - 1; calls = 100000 }))
  pub program_run : program_words_in (codes "run" ∷ []) ≡ Ok (OneThread (Run None))
  pub program_made : program_words_in (gen_words (codes "7") (codes "2000")) ≡ Ok (OneThread (Gen 7 2000))
  pub no_run : words_in (load_words (codes "7") (codes "2000") (codes "2")) ≡ Err Usage
  pub no_thread : program_words_in (load_words (codes "7") (codes "1") (codes "0")) ≡ Err Usage
  pub past_most_threads : program_words_in (load_words (codes "7") (codes "1") (codes "17")) ≡ Err Usage
  pub past_most_loaded : program_words_in (load_words (codes "7") (codes "100001") (codes "1")) ≡ Err Usage
  pub padded_threads : program_words_in (load_words (codes "7") (codes "1") (codes "01")) ≡ Err Usage
  pub no_threads : program_words_in (codes "load" ∷ codes "--seed=1" ∷ codes "--calls=1" ∷ []) ≡ Err Usage
  pub made_on_threads : program_words_in (codes "gen" ∷ codes "--seed=1" ∷ codes "--calls=1" ∷ codes "--threads=1" ∷ []) ≡ Err Usage
  pub served : program_words_in (serve_words (codes "7171")) ≡ Ok (Serve 7171)
  pub greatest_port : program_words_in (serve_words (codes "65535")) ≡ Ok (Serve 65535)
  pub past_greatest_port : program_words_in (serve_words (codes "65536")) ≡ Err Usage
  pub port_zero : program_words_in (serve_words (codes "0")) ≡ Err Usage
  pub padded_port : program_words_in (serve_words (codes "01")) ≡ Err Usage
  pub no_port : program_words_in (codes "serve" ∷ []) ≡ Err Usage
  pub served_on_threads : program_words_in (codes "serve" ∷ codes "--port=1" ∷ codes "--threads=1" ∷ []) ≡ Err Usage
  pub run_of_serve : words_in (serve_words (codes "7171")) ≡ Err Usage
  pub help_of_serve : asks_alone (faults_in (codes "serve" ∷ codes "--help" ∷ [])) ≡ true
  pub help_of_load : asks_alone (faults_in (codes "load" ∷ codes "--help" ∷ [])) ≡ true
  pub help : asks_alone (faults_in (codes "--help" ∷ [])) ≡ true
  pub help_of_run : asks_alone (faults_in (codes "run" ∷ codes "--help" ∷ [])) ≡ true
  pub help_of_gen : asks_alone (faults_in (codes "gen" ∷ codes "--help" ∷ [])) ≡ true
  pub version : asks_alone (faults_in (codes "--version" ∷ [])) ≡ true
  pub no_help : asks (faults_in (codes "run" ∷ [])) ≡ false
