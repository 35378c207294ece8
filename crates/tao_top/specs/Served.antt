-- What a run has read and written by its end.
use Rattle.std.specs.Prelude.{◌≡◌, ◌⊎◌, ℕ, ◌+◌, Bool, ⊤, List, [], ◌∷◌, ◌++◌, map, Option, Some, None, Result, Ok, Err, if◌then◌else◌}
use Rattle.tao_keeper.specs.KeeperState.{KeepsTables, IsLater}
use Rattle.std.specs.List.{flat_map}
use Rattle.std.specs.Io.KnownBytes.{Appends}
use Rattle.command_words.specs.declared.Words.{Words}
use Rattle.command_words.specs.declared.Words.TheVariants.{Gen, Run}
use Rattle.command_words.specs.declared.WordsRefusal.{WordsRefusal}
use Rattle.config_json.specs.Config.{config_in}
use Rattle.config_json.specs.declared.refusal.ConfigRefusal.{ConfigRefusal}
use Rattle.counts.specs.Count.{Rose}
use Rattle.first_line.specs.First.{refusal_line}
use Rattle.first_line.specs.Interrupts.{AppendsPart}
use Rattle.graph_model.specs.Told.{WhereTold}
use Rattle.load_gen.specs.Requests.{requests_of}
use Rattle.load_gen.specs.Summary.{is_settle, refusals_in, summary_text}
use Rattle.replies.specs.declared.reply.Reply.{Reply}
use Rattle.replies.specs.declared.reply.Reply.TheVariants.{BadConfiguration, BadStores, Configured}
use Rattle.requests.specs.declared.request.Request.{Request}
use Rattle.tao_core.specs.Core.{CoreState}
use Rattle.core_nodes.specs.Opening.{IsOpenedInPart}
use Rattle.tao_io.specs.Lines.{lines_of, GivesLines}
use Rattle.core_nodes.specs.Outside.{Outside}
use Rattle.tao_top.specs.Step.{Given, ReplyLine, State, line_read, request_made, waiting, serving, disagreeing, ended, Configures, Disagreement}
use Rattle.tao_top.specs.Step.{FindsDisagreement, Runs, reply_line}
use Rattle.topology.specs.Config.{Settings}

-- the lines of the known bytes are these
abbrev pub AreLines : Option (List ℕ) → List (List ℕ) → Type 0
AreLines None lines = ⊤
AreLines (Some bytes) lines = lines_of bytes ≡ lines

-- the lines of the known bytes begin with these
abbrev pub LinesBegin : Option (List ℕ) → List (List ℕ) → Type 0
LinesBegin None lines = ⊤
LinesBegin (Some bytes) lines = (more : List (List ℕ)) × (lines_of bytes ≡ lines ++ more)

-- the texts of replies, one after another
abbrev pub joined : List ReplyLine → List ℕ
joined replies = flat_map (λ (reply : ReplyLine). reply.text) replies

-- ---- what the words ask a run to answer, and to print

-- the requests that a `gen` makes by its first line: those of the workload over the configuration that the line is
abbrev pub requests_by : ℕ → ℕ → Result Settings ConfigRefusal → List Request
requests_by seed calls (Ok settings) = requests_of settings seed calls
requests_by seed calls (Err refused) = []

-- what a run is given, by its words and the lines of its input: `run` each line, `gen` the first line and the requests that it makes by it
abbrev pub given_by : Result Words WordsRefusal → List (List ℕ) → List Given
given_by (Ok (Run sql)) lines = map line_read lines
given_by (Ok (Gen seed calls)) [] = []
given_by (Ok (Gen seed calls)) (line ∷ lines) = line_read line ∷ map request_made (requests_by seed calls (config_in line))
given_by (Err refused) lines = []

-- these are all that the run is given by the known bytes
abbrev pub AreGiven : Result Words WordsRefusal → Option (List ℕ) → List Given → Type 0
AreGiven asked left given = (lines : List (List ℕ)) × AreLines left lines × (given_by asked lines ≡ given)

-- these are the first of what the run is given by the known bytes
abbrev pub GivenBegin : Result Words WordsRefusal → Option (List ℕ) → List Given → Type 0
GivenBegin asked left given = (more : List Given) × AreGiven asked left (given ++ more)

-- what `gen` prints of the reply to its first line: nothing where the line is taken as the configuration, else the reply's text
abbrev pub unless_configured : Reply → List ℕ → List ℕ
unless_configured Configured text = []
unless_configured reply text = text

-- what `gen` prints at a request, before which so many of its calls were refused: nothing but at the settling, and there the number of its calls, the
-- number of those that were refused, and the settling's reply
abbrev pub summed_at : ℕ → ℕ → Request → List ℕ → List ℕ
summed_at calls refused request text = if is_settle request then (summary_text calls refused ++ 10 ∷ []) ++ text else []

-- what `gen` prints from here on, where so many of its calls were refused before
abbrev pub summed : ℕ → ℕ → List Given → List ReplyLine → List ℕ
summed calls refused given [] = []
summed calls refused [] (reply ∷ replies) = reply.text ++ summed calls refused [] replies
summed calls refused (line_read line ∷ given) (reply ∷ replies) = unless_configured reply.reply reply.text ++ summed calls refused given replies
summed calls refused (request_made request ∷ given) (reply ∷ replies) =
    summed_at calls refused request reply.text ++ summed calls (refused + refusals_in request reply.reply) given replies

-- what a run prints of its replies: `gen` a sum of them, any other each of them
abbrev pub printed : Result Words WordsRefusal → List Given → List ReplyLine → List ℕ
printed (Ok (Run sql)) given replies = joined replies
printed (Ok (Gen seed calls)) given replies = summed calls 0 given replies
printed (Err refused) given replies = joined replies

-- what a run prints of the reply that its configuration was taken
abbrev pub said_configured : Words → CoreState → List ℕ
said_configured (Run sql) core = reply_line (serving core) Configured
said_configured (Gen seed calls) core = []

-- ---- what was served

-- a run waits for its configuration
abbrev pub start : Outside → State
start around = record { stage = waiting; outside = around }

-- a run serves by its configuration
abbrev pub serves : CoreState → Outside → State
serves core around = record { stage = serving core; outside = around }

-- since a state no table changed, no count of the keepers fell, and the link stayed
pub record IsStill (tells : Bool) (state : State) (now : Outside) : Type 0 where
  pub tables : KeepsTables tells state.outside.keepers now.keepers
  pub later : IsLater state.outside.keepers now.keepers
  pub link : now.link ≡ state.outside.link

-- what a source has left, and what a sink took, where they are known
pub record Streams : Type 0 where
  pub left : Option (List ℕ)
  pub written : Option (List ℕ)

-- a source that has this left, and a sink that took this
abbrev pub streams : Option (List ℕ) → Option (List ℕ) → Streams
streams left written = record { left = left; written = written }

-- some lines came out of the known bytes, each has its reply, and the replies' texts were written
pub record Served (tells : Bool) (old new : State) (before after : Streams) : Type 0 where
  pub lines : List (List ℕ)
  pub replies : List ReplyLine
  pub read : GivesLines before.left after.left lines
  pub run : Runs tells old (map line_read lines) replies new
  pub written : Appends before.written after.written (joined replies)

-- each line of the known bytes has its reply, and the replies' texts were written, in order
pub record ServedAll (tells : Bool) (old new : State) (left before after : Option (List ℕ)) : Type 0 where
  pub lines : List (List ℕ)
  pub replies : List ReplyLine
  pub read : AreLines left lines
  pub run : Runs tells old (map line_read lines) replies new
  pub written : Appends before after (joined replies)

-- some first lines of the known bytes have their replies, of whose texts a front was written; since the last reply no table changed
pub record ServedInPart (tells : Bool) (old : State) (now : Outside) (left before after : Option (List ℕ)) : Type 0 where
  pub last : State
  pub lines : List (List ℕ)
  pub replies : List ReplyLine
  pub read : LinesBegin left lines
  pub run : Runs tells old (map line_read lines) replies last
  pub written : AppendsPart before after (joined replies)
  pub still : IsStill tells last now

-- ---- what was answered

-- all that the words give the run has its reply, and what is printed of the replies was written
pub record Answered (asked : Result Words WordsRefusal) (tells : Bool) (old new : State) (before : Streams) (after : Option (List ℕ)) : Type 0 where
  pub given : List Given
  pub replies : List ReplyLine
  pub read : AreGiven asked before.left given
  pub run : Runs tells old given replies new
  pub written : Appends before.written after (printed asked given replies)

-- the first of what the words give the run has its replies, and of what is printed of them a front was written; since the last reply no table changed
pub record AnsweredInPart (asked : Result Words WordsRefusal) (tells : Bool) (old : State) (now : Outside) (before : Streams) (after : Option (List ℕ))
    : Type 0 where
  pub last : State
  pub given : List Given
  pub replies : List ReplyLine
  pub read : GivenBegin asked before.left given
  pub run : Runs tells old given replies last
  pub written : AppendsPart before.written after (printed asked given replies)
  pub still : IsStill tells last now

-- ---- how a run ends

-- the line is a configuration, of whose stores some are open, the link stays, and nothing was written
pub record OpensInPart (tells : Bool) (old now : Outside) (line : List ℕ) (before after : Option (List ℕ)) : Type 0 where
  pub settings : Settings
  pub configured : config_in line ≡ Ok settings
  pub opened : WhereTold tells (IsOpenedInPart settings line old.keepers.told now.keepers.told)
  pub later : IsLater old.keepers now.keepers
  pub link : now.link ≡ old.link
  pub written : Appends before after []

-- the line that says that stores disagree
abbrev pub disagreement_line : Disagreement → List ℕ
disagreement_line found = reply_line (disagreeing found.settings) (BadStores found.store found.position)

-- the input has no line, and of the refusal of its configuration a front was written
pub record LacksConfiguration (old now : Outside) (left before after : Option (List ℕ)) : Type 0 where
  pub read : AreLines left []
  pub written : AppendsPart before after (refusal_line [])
  pub same : now ≡ old

-- the run was configured, all that the words give it has its reply, and what is printed of the replies was written whole
pub record Done (asked : Result Words WordsRefusal) (tells : Bool) (old new : Outside) (before : Streams) (after : Option (List ℕ)) : Type 0 where
  pub core : CoreState
  pub answered : Answered asked tells (start old) (serves core new) before after

-- what was written is a front of what is printed of the replies to the first that the run is given
abbrev pub DoneInPart : Result Words WordsRefusal → Bool → Outside → Outside → Streams → Option (List ℕ) → Type 0
DoneInPart asked tells old now before after =
    LacksConfiguration old now before.left before.written after ⊎ AnsweredInPart asked tells (start old) now before after

-- the first line is a configuration, at the opening of whose stores the run stopped, and nothing was written
abbrev pub StopsOpening : Bool → Outside → Outside → Option (List ℕ) → Option (List ℕ) → Option (List ℕ) → Type 0
StopsOpening tells old now left before after = (line : List ℕ) × LinesBegin left (line ∷ []) × OpensInPart tells old now line before after

-- the run stopped at the opening of its stores, since the keepers failed there
pub record FailsOpening (tells : Bool) (old now : Outside) (left before after : Option (List ℕ)) : Type 0 where
  pub opening : StopsOpening tells old now left before after
  pub rose : Rose old.keepers.faults now.keepers.faults

-- the statuses of a run that stopped at the opening of its stores: the keepers failed there, or there was no memory
abbrev pub IsOpeningStatus : ℕ → Type 0
IsOpeningStatus code = (code ≡ 6) ⊎ (code ≡ 7)

-- the first at the opening of the stores, which ends with 6 and 7 alone, or else the other
abbrev pub AtOpeningOrLater : ℕ → Type 0 → Type 0 → Type 0
AtOpeningOrLater code opening later = (IsOpeningStatus code × opening) ⊎ later

-- the status that a run ends with, and what its words ask for
pub record Ending : Type 0 where
  pub code : ℕ
  pub asked : Result Words WordsRefusal

-- a run of these words ends with this status
abbrev pub ends_with : ℕ → Result Words WordsRefusal → Ending
ends_with code asked = record { code = code; asked = asked }

-- what a run has done that ends so, from what the source had left and the sink had taken on: a part of the opening of its stores, or of what it is given
abbrev pub EndsInPart : Ending → Bool → Outside → Outside → Streams → Option (List ℕ) → Type 0
EndsInPart ending tells old now before after =
    AtOpeningOrLater ending.code (StopsOpening tells old now before.left before.written after) (DoneInPart ending.asked tells old now before after)

-- the first line is refused as the configuration, or the input has none
abbrev pub IsConfigurationRefused : Bool → Outside → Outside → Option (List ℕ) → List ℕ → Type 0
IsConfigurationRefused tells old now left field =
    (AreLines left [] × (field ≡ []) × (now ≡ old))
    ⊎ ((line : List ℕ) × LinesBegin left (line ∷ []) × Configures tells old line (BadConfiguration field) ended now)

-- the configuration was refused, and the line that says so was written, and nothing else
pub record RefusesConfiguration (tells : Bool) (old now : Outside) (left before after : Option (List ℕ)) : Type 0 where
  pub field : List ℕ
  pub refused : IsConfigurationRefused tells old now left field
  pub written : Appends before after (refusal_line field)

-- the first line is a configuration, whose stores disagree; the line that says so was written, and nothing else
pub record StoresDisagree (tells : Bool) (old now : Outside) (left before after : Option (List ℕ)) : Type 0 where
  pub line : List ℕ
  pub read : LinesBegin left (line ∷ [])
  pub found : Disagreement
  pub disagree : FindsDisagreement tells old line found now
  pub written : Appends before after (disagreement_line found)
