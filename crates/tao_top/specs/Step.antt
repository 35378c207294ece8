-- What a run is given and its reply: from one state of the run to the next.
use Rattle.std.specs.Prelude.{◌≡◌, ◌⊎◌, ℕ, Bool, List, [], ◌∷◌, ◌++◌, Result, Ok, Err, codes}
use Rattle.tao_keeper.specs.KeeperState.{IsLater}
use Rattle.tao_base.specs.declared.id.StoreName.{StoreName}
use Rattle.config_json.specs.Config.{config_in}
use Rattle.core_model.specs.Consistent.{GoesOn}
use Rattle.core_model.specs.Growing.{TablesGoOn}
use Rattle.core_nodes.specs.Beginning.{AreAtStores}
use Rattle.config_json.specs.declared.refusal.ConfigRefusal.TheVariants.{BadConfig}
use Rattle.graph_model.specs.Told.{WhereTold}
use Rattle.headline_kept.specs.Headline.{KeepsHeadline}
use Rattle.reply_json.specs.Reply.{reply_text}
use Rattle.replies.specs.declared.refusals.LineRefused.TheVariants as line
use Rattle.replies.specs.declared.refusals.Refusal.TheVariants.{Line}
use Rattle.replies.specs.declared.reply.Reply.{Reply}
use Rattle.replies.specs.declared.opening.OpenRefusal.TheVariants.{Disagree}
use Rattle.replies.specs.declared.reply.Reply.TheVariants.{Configured, BadConfiguration, BadStores, Refused}
use Rattle.request_json.specs.Requests.{request_in}
use Rattle.request_json.specs.declared.refusal.LineRefusal.{LineRefusal}
use Rattle.request_json.specs.declared.refusal.LineRefusal.TheVariants.{BadLine, TooLarge, OutOfMemory}
use Rattle.requests.specs.declared.request.Request.{Request}
use Rattle.tao_core.specs.Core.{ComeUp, CoreState, IsCoreOf, IsNewCore, Moment, moment_of}
use Rattle.core_nodes.specs.Opening.{IsOpened, IsOtherLine, RefusesOpening}
use Rattle.tao_core.specs.Replies.{AnswersRequest}
use Rattle.core_nodes.specs.Outside.{Outside}
use Rattle.topology.specs.Config.{Settings}

-- ---- states

-- how far a run has come: it waits for its configuration, serves by it, has refused it, or has taken it and found that its stores disagree
pub data RunStage : Type 0 where
  waiting : RunStage
  serving : CoreState → RunStage
  ended : RunStage
  disagreeing : Settings → RunStage

-- between two lines: the stage, and what the keepers and the link show
pub record State : Type 0 where
  pub stage : RunStage
  pub outside : Outside

-- what a run is given to answer: a line that it reads, or a request that it makes
pub data Given : Type 0 where
  line_read : List ℕ → Given
  request_made : Request → Given

-- what the given asks, or why the line is no request
abbrev pub asked_in : Given → Result Request LineRefusal
asked_in (line_read line) = request_in line
asked_in (request_made request) = Ok request

-- ---- the text of a reply

-- settings without any name
abbrev pub no_settings : Settings
no_settings = record { schema = record { objects = []; assocs = [] }; shards = 0; regions = []; masters = []; log_max = 0; cache_items = 0 }

-- the settings that names are spelled by. There are none before the configuration, and no name is spelled then
abbrev pub spelled_by : RunStage → Settings
spelled_by waiting = no_settings
spelled_by (serving core) = core.settings
spelled_by ended = no_settings
spelled_by (disagreeing s) = s

-- a reply, and its line
pub record ReplyLine : Type 0 where
  pub reply : Reply
  pub text : List ℕ

-- a reply with its line: its text by these settings and a line feed
abbrev pub in_line : Settings → Reply → ReplyLine
in_line s reply = record { reply = reply; text = reply_text s reply ++ 10 ∷ [] }

-- a reply with its line at a stage
abbrev pub line_at : RunStage → Reply → ReplyLine
line_at stage reply = in_line (spelled_by stage) reply

-- a reply's line at a stage
abbrev pub reply_line : RunStage → Reply → List ℕ
reply_line stage reply = (line_at stage reply).text

-- ---- the first line

-- the line is a configuration, each store takes it, the core is new and may be used with the keepers' tables, each node has processed just what its
-- region's store has, and the link stays
pub record TakesLine (tells : Bool) (old : Outside) (line : List ℕ) (core : CoreState) (new : Outside) : Type 0 where
  pub configured : config_in line ≡ Ok core.settings
  pub begun : IsNewCore core
  pub opened : WhereTold tells (IsOpened core.settings line old.keepers.told new.keepers.told)
  pub of_core : IsCoreOf tells new.keepers.told core
  pub ends : WhereTold tells (AreAtStores new.keepers.told core.fleet)
  pub link : new.link ≡ old.link

-- the line is no configuration: this field breaks a rule
pub record IsNoConfiguration (old : Outside) (line field : List ℕ) (new : Outside) : Type 0 where
  pub refused : config_in line ≡ Err (BadConfig field)
  pub same : new ≡ old

-- the line is a configuration, but not the line that a store was first opened with; the link stays
pub record IsAnotherLine (tells : Bool) (old : Outside) (line field : List ℕ) (new : Outside) : Type 0 where
  pub settings : Settings
  pub configured : config_in line ≡ Ok settings
  pub field_is : field ≡ codes "file"
  pub other : WhereTold tells (IsOtherLine settings line old.keepers.told new.keepers.told)
  pub link : new.link ≡ old.link

-- a slave's store whose log doesn't begin its master's, with the first position at which they differ, and the configuration that it is a store of
pub record Disagreement : Type 0 where
  pub settings : Settings
  pub store : StoreName
  pub position : ℕ

-- the line is a configuration, whose stores disagree; the link stays
pub record FindsDisagreement (tells : Bool) (old : Outside) (line : List ℕ) (found : Disagreement) (new : Outside) : Type 0 where
  pub configured : config_in line ≡ Ok found.settings
  pub disagree : RefusesOpening tells found.settings line old.keepers new.keepers (Disagree found.store found.position)
  pub link : new.link ≡ old.link

-- what the reply to the first line says
abbrev pub Configures : Bool → Outside → List ℕ → Reply → RunStage → Outside → Type 0
Configures tells old line Configured (serving core) new = TakesLine tells old line core new
Configures tells old line (BadConfiguration field) ended new = IsNoConfiguration old line field new ⊎ IsAnotherLine tells old line field new
Configures tells old line (BadStores store position) (disagreeing s) new =
    FindsDisagreement tells old line (record { settings = s; store = store; position = position }) new
Configures tells old line reply stage new = ⊥

-- what the reply to the first that a run is given says: a line, and no request that it makes
abbrev pub ConfiguresBy : Bool → Outside → Given → Reply → RunStage → Outside → Type 0
ConfiguresBy tells old (line_read line) reply stage new = Configures tells old line reply stage new
ConfiguresBy tells old (request_made request) reply stage new = ⊥

-- ---- each later line, and each request

-- a line that is no request gets its refusal
abbrev pub AnswersNoRequest : LineRefusal → Reply → Type 0
AnswersNoRequest (BadLine field) reply = reply ≡ Refused (Line (line.BadLine field))
AnswersNoRequest (TooLarge bytes pairs) reply = reply ≡ Refused (Line (line.TooLarge bytes pairs))
AnswersNoRequest OutOfMemory reply = ⊥

-- what each request keeps: the configuration stays, the nodes go on, who comes up is at its store, logs only grow, no table but those of the
-- configuration's stores changes, and no line does, and the core may be used with the keepers' tables as they are then
pub record KeepsServing (tells : Bool) (old new : Moment) : Type 0 where
  pub settings : new.core.settings ≡ old.core.settings
  pub goes : GoesOn old.core.fleet new.core.fleet
  pub comes : ComeUp tells new.keepers.told old.core new.core
  pub grows : TablesGoOn tells old.core.settings old.keepers.told new.keepers.told
  pub of_core : IsCoreOf tells new.keepers.told new.core

-- what the reply to what is asked says, and what the line keeps
abbrev pub AnswersLine : Bool → Moment → Result Request LineRefusal → Reply → Moment → Type 0
AnswersLine tells old (Err refused) reply new = AnswersNoRequest refused reply × (new ≡ old)
AnswersLine tells old (Ok request) reply new =
    AnswersRequest tells old request reply new × KeepsServing tells old new × KeepsHeadline tells old request reply new

-- ---- the run

-- what the reply to the given says at each stage
abbrev pub StepIn : Bool → State → Given → Reply → State → Type 0
StepIn tells old given reply new = by_stage old.stage new.stage
  where
    by_stage : RunStage → RunStage → Type 0
    by_stage waiting next = ConfiguresBy tells old.outside given reply next new.outside
    by_stage (serving core) (serving next) = AnswersLine tells (moment_of core old.outside) (asked_in given) reply (moment_of next new.outside)
    by_stage (serving core) waiting = ⊥
    by_stage (serving core) ended = ⊥
    by_stage (serving core) (disagreeing s) = ⊥
    by_stage ended next = ⊥
    by_stage (disagreeing s) next = ⊥

-- one that is given, and its reply. No count of the keepers fell
pub record Step (tells : Bool) (old : State) (given : Given) (reply : Reply) (new : State) : Type 0 where
  pub does : StepIn tells old given reply new
  pub later : IsLater old.outside.keepers new.outside.keepers

-- the given has a reply, which with its line is so
abbrev pub Replies : Bool → State → Given → State → (ReplyLine → Type 0) → Type 0
Replies tells old given new So = (reply : Reply) × Step tells old given reply new × So (line_at new.stage reply)

-- each that is given gets one of the replies, one after another
abbrev pub Runs : Bool → State → List Given → List ReplyLine → State → Type 0
Runs tells old [] [] new = new ≡ old
Runs tells old (given ∷ others) (reply ∷ replies) new =
    (mid : State) × Replies tells old given mid (λ said. reply ≡ said) × Runs tells mid others replies new
Runs tells old [] (reply ∷ replies) new = ⊥
Runs tells old (given ∷ others) [] new = ⊥
