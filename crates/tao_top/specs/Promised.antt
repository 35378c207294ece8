-- That a run keeps the promise: what it is given and its replies are steps of it, one after another, from what the tables were to what they are.
use Rattle.std.specs.Prelude.{ℕ, ◌≡◌, ◌⊎◌, ◌==◌, ⊤, Bool, true, false, List, [], ◌∷◌, ◌++◌, Option, Some, None, Result, Ok, Err, codes, filter, length}
use Rattle.std.specs.Prelude.{if◌then◌else◌, is_some, not}
use Rattle.std.specs.List.{list_any}
use Rattle.std.specs.Io.KnownBytes.{Appends}
use Rattle.config_json.specs.Config.{config_in}
use Rattle.config_json.specs.declared.refusal.ConfigRefusal.TheVariants.{BadConfig}
use Rattle.core_model.specs.Stores.{IsConfiguredStore, stores_in}
use Rattle.core_nodes.specs.Opening.{DisagreesAt, IsSlaveStore}
use Rattle.core_plans.specs.Held.{Plans, plan_at, plan_count}
use Rattle.core_sessions.specs.Sessions.{Session, is_open}
use Rattle.first_line.specs.Interrupts.{AppendsPart}
use Rattle.plain_promise.specs.Promise.{Plain, RunsPlainly, Said}
use Rattle.tao_schema.specs.Schema.{types_of}
use Rattle.replies.specs.declared.plans.PlanReply.TheVariants.{Next}
use Rattle.replies.specs.declared.refusals.Refusal.{Refusal}
use Rattle.replies.specs.declared.refusals.Refusal.TheVariants.{Memory}
use Rattle.replies.specs.declared.reply.Reply.{Reply}
use Rattle.replies.specs.declared.reply.Reply.TheVariants.{BadConfiguration, BadStores, Configured, Opened, Plan, Refused}
use Rattle.request_check.specs.declared.checked.Checked.{Checked}
use Rattle.request_check.specs.declared.checked.Checked.TheVariants as asks
use Rattle.request_check.specs.declared.plans.CheckedPlan.TheVariants.{Advance, Hold}
use Rattle.request_json.specs.declared.refusal.LineRefusal.{LineRefusal}
use Rattle.requests.specs.declared.request.Request.{Request}
use Rattle.tao_base.specs.declared.id.StoreName.{StoreName}
use Rattle.tao_core.specs.Asked.{asked_of}
use Rattle.tao_core.specs.Opened.{AreAsBefore}
use Rattle.tao_keeper.specs.Table.{OpensAs, Tables}
use Rattle.tao_keeper.specs.declared.keeper.Opened.TheVariants.{OtherLine}
use Rattle.tao_top.specs.Served.{AreGiven, Ending, GivenBegin, Streams, printed}
use Rattle.tao_top.specs.Step.{AnswersNoRequest, Given, ReplyLine, asked_in, in_line, line_read, no_settings, request_made}
use Rattle.topology.specs.Config.{Settings}

-- ---- the sessions that are open, and the plans that are held

-- the numbers of the sessions that are open, and those of the plans that are held, the latest first
pub record InUse : Type 0 where
  pub opened : List ℕ
  pub held : List ℕ

-- before the first line nothing is in use
abbrev pub none_in_use : InUse
none_in_use = record { opened = []; held = [] }

-- the number is among these
abbrev pub has_number : List ℕ → ℕ → Bool
has_number numbers number = list_any (λ one. one == number) numbers

-- the numbers without this one
abbrev pub without : ℕ → List ℕ → List ℕ
without number numbers = filter (λ one. not (one == number)) numbers

-- the numbers of the open sessions after a line: an `open` that is replied so opens one, and nothing closes one
abbrev pub opened_after : List ℕ → Option Checked → Reply → List ℕ
opened_after opened (Some (asks.Open session region tier)) (Opened number) = session ∷ opened
opened_after opened asked reply = opened

-- the reply names the stage of its plan that follows
abbrev pub says_next : Reply → Bool
says_next (Plan (Next word number stage)) = true
says_next reply = false

-- the numbers of the held plans after a line: a `hold` holds one where a stage is said to follow, and an `advance` is the end of one where none is
abbrev pub plans_after : List ℕ → Option Checked → Reply → List ℕ
plans_after held (Some (asks.Plan (Hold number call))) reply = if says_next reply then number ∷ held else held
plans_after held (Some (asks.Plan (Advance number))) reply = if says_next reply then held else without number held
plans_after held asked reply = held

-- what is in use after a line
abbrev pub in_use_after : InUse → Option Checked → Reply → InUse
in_use_after used asked reply = record { opened = opened_after used.opened asked reply; held = plans_after used.held asked reply }

-- the sessions are those of these numbers
pub record AreSessions (opened : List ℕ) (sessions : List Session) : Type 0 where
  pub numbers : (number : ℕ) → is_open sessions number ≡ has_number opened number
  pub count : length sessions ≡ length opened

-- no number stands there twice
abbrev pub AreApart : List ℕ → Type 0
AreApart [] = ⊤
AreApart (number ∷ numbers) = (has_number numbers number ≡ false) × AreApart numbers

-- the plans are those of these numbers, each of which stands there once
pub record ArePlans (held : List ℕ) (plans : Plans) : Type 0 where
  pub numbers : (number : ℕ) → is_some (plan_at plans number) ≡ has_number held number
  pub count : plan_count plans ≡ length held
  pub apart : AreApart held

-- the sessions and the plans are those in use
pub record AreInUse (used : InUse) (sessions : List Session) (plans : Plans) : Type 0 where
  pub opened : AreSessions used.opened sessions
  pub held : ArePlans used.held plans

-- the request asks this, or is refused so, by the configuration, the sessions that are open, and the plans that are held
pub record IsAskedOf (s : Settings) (used : InUse) (request : Request) (found : Result Checked Refusal) : Type 0 where
  pub sessions : List Session
  pub plans : Plans
  pub are : AreInUse used sessions plans
  pub asked_is : asked_of s sessions plans request ≡ found

-- ---- a line and its reply

-- the given is a request that asks this, and it can be done
pub record IsRequestFor (s : Settings) (used : InUse) (given : Given) (asked : Checked) : Type 0 where
  pub request : Request
  pub given_is : asked_in given ≡ Ok request
  pub asks : IsAskedOf s used request (Ok asked)

-- what the request asks can't be done, and the reply is that refusal
pub record IsRefusedFor (s : Settings) (used : InUse) (request : Request) (reply : Reply) : Type 0 where
  pub refusal : Refusal
  pub refused : IsAskedOf s used request (Err refusal)
  pub reply_is : reply ≡ Refused refusal

-- why a line is refused before anything is done: it is no request, and the reply says how; there was no memory; or what it asks can't be done
abbrev pub IsRefusedAs : Settings → InUse → Result Request LineRefusal → Reply → Type 0
IsRefusedAs s used (Err refused) reply = AnswersNoRequest refused reply
IsRefusedAs s used (Ok request) reply = (reply ≡ Refused (Memory 0)) ⊎ IsRefusedFor s used request reply

-- the given asks what is said to be asked; where nothing is, it was refused before anything was done, and rightly
abbrev pub LineAsks : Settings → InUse → Given → Option Checked → Reply → Type 0
LineAsks s used given None reply = IsRefusedAs s used (asked_in given) reply
LineAsks s used given (Some asked) reply = IsRequestFor s used given asked

-- the given asks what is said to be asked, where these sessions and plans are in use, and this is the reply, with its line
pub record IsSaid (s : Settings) (used : InUse) (given : Given) (reply : ReplyLine) (said : Said) : Type 0 where
  pub asks : LineAsks s used given said.asked said.reply
  pub reply_is : reply ≡ in_line s said.reply

-- each that is given and its reply, one after another, from these sessions and plans on
abbrev pub AreSaid : Settings → InUse → List Given → List ReplyLine → List Said → Type 0
AreSaid s used [] [] [] = ⊤
AreSaid s used (given ∷ others) (reply ∷ replies) (said ∷ saids) =
    IsSaid s used given reply said × AreSaid s (in_use_after used said.asked said.reply) others replies saids
AreSaid s used others replies saids = ⊥

-- ---- a run

-- before the first line: logs and open jobs are as the tables tell them, nobody has learnt of or seen anything, no call is held, and nothing was settled
abbrev pub at_first : Settings → Tables → Plain
at_first s tables = record { stores = stores_in s tables; learnt = λ session. []; seen = λ session. []; held = λ plan. None; settled = None }

-- by this configuration, each of these that are given, with its reply, is a step of the promise, one after another; the last one leaves logs and open
-- jobs as the tables then tell them
pub record RunsAsPromised (s : Settings) (old : Tables) (given : List Given) (replies : List ReplyLine) (new : Tables) : Type 0 where
  pub saids : List Said
  pub said : AreSaid s none_in_use given replies saids
  pub last : Plain
  pub runs : RunsPlainly (types_of s.schema) (at_first s old) saids last
  pub stores : last.stores ≡ stores_in s new

-- the first line was taken as the configuration, with its reply, and what was given after it was as promised
pub record IsConfigured (old : Tables) (line : List ℕ) (given : List Given) (replies : List ReplyLine) (new : Tables) : Type 0 where
  pub settings : Settings
  pub configured : config_in line ≡ Ok settings
  pub others : List ReplyLine
  pub replies_are : replies ≡ in_line settings Configured ∷ others
  pub runs : RunsAsPromised settings old given others new

-- a store of the configuration was first opened with another line
pub record IsOpenedOtherwise (s : Settings) (line : List ℕ) (tables : Tables) : Type 0 where
  pub store : StoreName
  pub here : IsConfiguredStore s store
  pub other : OpensAs OtherLine (tables store) line

-- the line is refused as the configuration, for this field: it is none, or not the line that a store was first opened with
abbrev pub IsRefusedWith : Tables → List ℕ → List ℕ → Type 0
IsRefusedWith old line field = (config_in line ≡ Err (BadConfig field))
    ⊎ ((field ≡ codes "file") × ((s : Settings) × (config_in line ≡ Ok s) × IsOpenedOtherwise s line old))

-- the first line was refused as the configuration, which was replied
pub record IsUnconfigured (old : Tables) (line : List ℕ) (reply : ReplyLine) : Type 0 where
  pub field : List ℕ
  pub refused : IsRefusedWith old line field
  pub reply_is : reply ≡ in_line no_settings (BadConfiguration field)

-- the first line is a configuration, and the log of this slave's store differs from its master's, first at this position, which was replied
pub record IsParted (old : Tables) (line : List ℕ) (reply : ReplyLine) : Type 0 where
  pub settings : Settings
  pub configured : config_in line ≡ Ok settings
  pub store : StoreName
  pub position : ℕ
  pub slave : IsSlaveStore settings store
  pub disagrees : DisagreesAt settings old store position
  pub reply_is : reply ≡ in_line settings (BadStores store position)

-- the first line was not served, as was replied: nothing after it was answered, and nothing was done
pub record IsNotServed (old : Tables) (line : List ℕ) (given : List Given) (replies : List ReplyLine) (new : Tables) : Type 0 where
  pub reply : ReplyLine
  pub why : IsUnconfigured old line reply ⊎ IsParted old line reply
  pub none_given : given ≡ []
  pub replies_are : replies ≡ reply ∷ []
  pub same : AreAsBefore old new

-- all that was given has these replies, as promised: nothing was; or that there is no line was replied; or the first line was not served, and nothing after
-- it was answered; or it was taken as the configuration
abbrev pub AreAsPromised : Tables → List Given → List ReplyLine → Tables → Type 0
AreAsPromised old [] [] new = AreAsBefore old new
AreAsPromised old [] (reply ∷ []) new = (reply ≡ in_line no_settings (BadConfiguration [])) × AreAsBefore old new
AreAsPromised old [] (reply ∷ another ∷ replies) new = ⊥
AreAsPromised old (request_made request ∷ given) replies new = ⊥
AreAsPromised old (line_read line ∷ given) replies new = IsConfigured old line given replies new ⊎ IsNotServed old line given replies new

-- the run answered the first of what its words and the input give it, with 0 all of that, and wrote what is printed of its replies, or a front of it; and
-- all that is as promised, from what the tables told before it to what they tell after it
pub record RunKeepsPromise (ending : Ending) (old new : Tables) (before : Streams) (after : Option (List ℕ)) : Type 0 where
  pub given : List Given
  pub replies : List ReplyLine
  pub read : GivenBegin ending.asked before.left given
  pub written : AppendsPart before.written after (printed ending.asked given replies)
  pub whole : ending.code ≡ 0 → AreGiven ending.asked before.left given × Appends before.written after (printed ending.asked given replies)
  pub promised : AreAsPromised old given replies new
