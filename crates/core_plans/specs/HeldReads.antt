-- A read that is held between its stages, and what each stage does.
use Rattle.std.specs.Prelude.{ℕ, ◌≡◌, ◌<◌, ◌≤◌, ◌⊎◌, ⊤, Bool, true, false, IfSome, Option, Some, None, Ok, Err, length}
use Rattle.cache_items.specs.declared.look.Kept.{Kept as KeptWhy}
use Rattle.cache_items.specs.declared.look.Look.{Look}
use Rattle.cache_items.specs.declared.look.Look.TheVariants.{Miss}
use Rattle.core_model.specs.Consistent.{GoesOn, IsFleetOf}
use Rattle.core_model.specs.Fleet.{ChangesNode, Fleet, HasAsk}
use Rattle.core_model.specs.Pens.{Pens, pens_of}
use Rattle.core_model.specs.Reads.{AsksAtOnce, EndsAsk, IsGivenAnswer, IsGivenFill, KeepsFill, LooksFirst, Wanted, taken_fill, wanted}
use Rattle.core_model.specs.Serving.{IsFollowerFor}
use Rattle.core_model.specs.Stores.{master_log}
use Rattle.core_steps.specs.Reads.{AnswersAgain, IsLegalNow}
use Rattle.core_steps.specs.ReadSteps.{IsGivenOver, IsNotGiven, IsNotRead, IsReadOver, ReadsOn}
use Rattle.core_steps.specs.Routes.{hops_between, master_node, was_called}
use Rattle.core_steps.specs.World.{World}
use Rattle.core_steps.specs.declared.routes.Route.{Route}
use Rattle.graph_model.specs.Log.{version}
use Rattle.graph_model.specs.Told.{WhereTold}
use Rattle.node_name.specs.declared.NodeName.{NodeName}
use Rattle.read_plan.specs.Ends.{EndsWith}
use Rattle.read_plan.specs.Readings.{NeverAsks, Reading, given_by, taken}
use Rattle.read_plan.specs.Standings.{read_refused, stage_of}
use Rattle.read_plan.specs.declared.end.ReadEnd.TheVariants.{Answered}
use Rattle.read_plan.specs.declared.end.ReadEnd.TheVariants as end
use Rattle.read_plan.specs.declared.stages.ReadResult.TheVariants as came
use Rattle.read_plan.specs.declared.standing.Given.{Given}
use Rattle.read_plan.specs.declared.standing.Given.TheVariants.{Fill, HandedOut, Past}
use Rattle.read_plan.specs.declared.standing.Standing.{Standing}
use Rattle.read_plan.specs.declared.standing.Standing.TheVariants.{Looking, Asking, Mastering, Keeping, Ended}
use Rattle.replies.specs.declared.calls.CallReply.TheVariants as called
use Rattle.replies.specs.declared.calls.ReadReply.{ReadReply}
use Rattle.replies.specs.declared.nodes.KeptOrNot.TheVariants.{Kept}
use Rattle.replies.specs.declared.refusals.Refusal.{Refusal}
use Rattle.replies.specs.declared.refusals.NodeRefused.TheVariants.{NodeDown}
use Rattle.replies.specs.declared.refusals.Refusal.TheVariants.{Memory, Node}
use Rattle.replies.specs.declared.refusals.When.TheVariants.{Before}
use Rattle.replies.specs.declared.reply.Reply.{Reply}
use Rattle.replies.specs.declared.reply.Reply.TheVariants.{Called, Refused}
use Rattle.sealed_item.specs.Fills.{SealedItem}
use Rattle.shard_tables.specs.declared.leader_answer.LeaderAnswer.{LeaderAnswer}
use Rattle.shard_tables.specs.declared.leader_answer.LeaderAnswer.TheVariants as leader
use Rattle.shard_tables.specs.declared.read_out.ReadOut.{ReadOut}
use Rattle.tao_base.specs.EdgeTypes.{EdgeTypes}
use Rattle.tao_base.specs.Queries.{query_key, query_shard}
use Rattle.tao_base.specs.declared.query.Answer.{Answer}
use Rattle.tao_keeper.specs.KeeperState.{KeeperState}
use Rattle.tao_keeper.specs.Table.{Tables}
use Rattle.tao_schema.specs.Schema.{key_bound, types_of}
use Rattle.topology.specs.Config.{Settings}
use Rattle.core_plans.specs.LedBy.{Rules}
use Rattle.core_plans.specs.Needs.{asked_of_read, read_down}

-- what is asked, at the floor of its beginning
abbrev pub wanted_by : Reading → Wanted
wanted_by p = wanted p.query p.floor

-- a read at the bound of its type
abbrev pub at_bound : Settings → Reading → Reading
at_bound s p = record p { bound = key_bound (types_of s.schema) (query_key p.query) }

-- the route of a read, by a leader
abbrev pub route_by : NodeName → Reading → Route
route_by leader p = record { follower = p.follower; leader = leader }

-- ---- a read under way

-- what was given to it is for it, was seen of its shard's log, and is still there
abbrev pub IsGivenTo : EdgeTypes → Pens → Wanted → Given → Type 0
IsGivenTo types pens read (Fill fill) = IsGivenFill types pens read fill
IsGivenTo types pens read (Past answer version total (Some note)) = IsGivenAnswer types pens read (leader.Past answer version total note)
IsGivenTo types pens read (Past answer version total None) = ⊥
IsGivenTo types pens read (HandedOut version) = ⊥

-- what the read was given is right for it, where it stands so: only a read that is to keep has been given something
abbrev pub StandsSo : EdgeTypes → Pens → Wanted → Standing → Type 0
StandsSo types pens read (Keeping given) = IsGivenTo types pens read given
StandsSo types pens read Looking = ⊤
StandsSo types pens read Asking = ⊤
StandsSo types pens read Mastering = ⊤
StandsSo types pens read (Ended end) = ⊤

-- a read of a follower that serves its shard, from a region of the configuration, which asks no leader where it is critical. The log has come to its
-- floor; its ask, where it opened one, is on its key; and what was given to it can be answered from
pub record IsReadUnderWay (tells : Bool) (s : Settings) (tables : Tables) (f : Fleet) (p : Reading) : Type 0 where
  pub follower : IsFollowerFor s (query_shard p.query) p.follower
  pub region : p.region < length s.regions
  pub never_asks : NeverAsks p.critical p.at
  pub bound : p.bound ≡ key_bound (types_of s.schema) (query_key p.query)
  pub reached : WhereTold tells (p.floor ≤ version (master_log s tables (query_shard p.query)) (query_key p.query))
  pub ask : IfSome p.ask (λ number. HasAsk p.follower number (query_key p.query) f.followers)
  pub stands : StandsSo (types_of s.schema) (pens_of f.stores) (wanted_by p) p.at

-- ---- what its stages do

-- no node but followers changed, and nothing else
abbrev pub ChangesFollowers : World → World → Type 0
ChangesFollowers old new = new ≡ record old { fleet = record old.fleet { followers = new.fleet.followers } }

-- the ask of the read ended at its follower
abbrev pub EndsItsAsk : Reading → World → World → Type 0
EndsItsAsk p old new = ChangesNode p.follower (EndsAsk p.ask) old.fleet.followers new.fleet.followers

-- the ask of the read ended at its follower, and no other node changed
pub record EndsAskAlone (s : Settings) (p : Reading) (old new : Fleet) : Type 0 where
  pub ends : ChangesNode p.follower (EndsAsk p.ask) old.followers new.followers
  pub rest : new ≡ record old { followers = new.followers }
  pub fleet : IsFleetOf s new
  pub goes : GoesOn old new

-- `look`: the follower answers, or opens an ask
pub record LooksThere (s : Settings) (p : Reading) (old : World) (q : Reading) (new : World) : Type 0 where
  pub look : Look
  pub ask : Option ℕ
  pub looks : ChangesNode p.follower (LooksFirst (types_of s.schema) (wanted_by p) look ask) old.fleet.followers new.fleet.followers
  pub rest : ChangesFollowers old new
  pub then : q ≡ taken (came.Look (Ok look)) 0 false (record p { ask = ask })

-- `look` of a critical read: the follower opens an ask at once
pub record LooksPast (p : Reading) (old : World) (q : Reading) (new : World) : Type 0 where
  pub ask : Option ℕ
  pub asks : ChangesNode p.follower (AsksAtOnce (query_key p.query) ask) old.fleet.followers new.fleet.followers
  pub rest : ChangesFollowers old new
  pub then : q ≡ taken (came.Look (Ok Miss)) 0 false (record p { ask = ask })

-- `look` fails: there was no memory for the follower's answer
pub record LooksInVain (p : Reading) (old : World) (q : Reading) (new : World) : Type 0 where
  pub same : new ≡ old
  pub then : q ≡ taken (came.Look (Err (Refused (Memory 0)))) 0 false p

-- what `look` does, which is critical or not
abbrev pub DoesLook : Settings → Bool → Reading → World → Reading → World → Type 0
DoesLook s false p old q new = LooksThere s p old q new ⊎ LooksInVain p old q new
DoesLook s true p old q new = LooksPast p old q new

-- `ask`: the leader or the store that is asked answers, over the link there and back
pub record AsksThere (s : Settings) (node : NodeName) (p : Reading) (old : World) (q : Reading) (new : World) : Type 0 where
  pub given : LeaderAnswer
  pub over : IsGivenOver s (route_by node p) (wanted_by p) given old new
  pub then : q ≡ taken (came.Ask (Ok given)) (hops_between old.link new.link) (was_called old.keepers new.keepers) (given_by node p)

-- `ask` fails: nothing was carried back from who was asked, and then the read's ask ends
pub record AsksInVain (s : Settings) (node : NodeName) (p : Reading) (old : World) (q : Reading) (new : World) : Type 0 where
  pub refusal : Refusal
  pub mid : World
  pub fails : IsNotGiven s (route_by node p) (wanted_by p) refusal old mid
  pub ends : EndsItsAsk p mid new
  pub rest : ChangesFollowers mid new
  pub then : q ≡ taken (came.Ask (Err (Refused refusal))) (hops_between old.link new.link) (was_called old.keepers new.keepers) p

-- `master`: the master's store answers, over the link there and back
pub record AsksMaster (tells : Bool) (s : Settings) (p : Reading) (old : World) (q : Reading) (new : World) : Type 0 where
  pub out : ReadOut
  pub over : IsReadOver tells s p.query out old new
  pub then : q ≡ taken (came.Master (Ok out)) (hops_between old.link new.link) (was_called old.keepers new.keepers)
      (given_by (master_node s (query_shard p.query)) p)

-- `master` fails: nothing was carried back from the master's store, and then the read's ask ends
pub record MastersInVain (s : Settings) (p : Reading) (old : World) (q : Reading) (new : World) : Type 0 where
  pub refusal : Refusal
  pub mid : World
  pub fails : IsNotRead s p.follower p.query refusal old mid
  pub ends : EndsItsAsk p mid new
  pub rest : ChangesFollowers mid new
  pub then : q ≡ taken (came.Master (Err (Refused refusal))) (hops_between old.link new.link) (was_called old.keepers new.keepers) p

-- `keep`: the follower answers from the fill, and keeps it or not
pub record AnswersFrom (s : Settings) (p : Reading) (fill : SealedItem) (old : World) (q : Reading) (new : World) : Type 0 where
  pub answer : Answer
  pub kept : KeptWhy
  pub keeps : ChangesNode p.follower (KeepsFill (types_of s.schema) p.query (taken_fill p.ask fill answer kept)) old.fleet.followers new.fleet.followers
  pub rest : ChangesFollowers old new
  pub then : q ≡ taken (came.Keep (Ok (Some (answer, kept)))) 0 false p

-- `keep` fails: there was no memory for the follower's answer, and the read's ask ends
pub record KeepsInVain (p : Reading) (old : World) (q : Reading) (new : World) : Type 0 where
  pub ends : EndsItsAsk p old new
  pub rest : ChangesFollowers old new
  pub then : q ≡ taken (came.Keep (Err (Refused (Memory 0)))) 0 false p

-- an answer past the bound is handed on, and its ask ends
pub record HandsPast (p : Reading) (old : World) (q : Reading) (new : World) : Type 0 where
  pub ends : EndsItsAsk p old new
  pub rest : ChangesFollowers old new
  pub then : q ≡ taken (came.Keep (Ok None)) 0 false p

-- what `keep` does with what was given; it is never handed out before
abbrev pub DoesKeep : Settings → Reading → Given → World → Reading → World → Type 0
DoesKeep s p (Fill fill) old q new = AnswersFrom s p fill old q new ⊎ KeepsInVain p old q new
DoesKeep s p (Past answer version total seen) old q new = HandsPast p old q new
DoesKeep s p (HandedOut version) old q new = ⊥

-- `ask` of that node, which answers or doesn't
abbrev pub DoesAsk : Settings → NodeName → Reading → World → Reading → World → Type 0
DoesAsk s node p old q new = AsksThere s node p old q new ⊎ AsksInVain s node p old q new

-- what the stage does that follows, where all that it needs are up
abbrev pub DoesReadStage : Rules → Standing → Reading → World → Reading → World → Type 0
DoesReadStage rules Looking p old q new = DoesLook rules.settings p.critical p old q new
DoesReadStage rules Asking p old q new = DoesAsk rules.settings (asked_of_read old.states p) p old q new
DoesReadStage rules Mastering p old q new = AsksMaster rules.tells rules.settings p old q new ⊎ MastersInVain rules.settings p old q new
DoesReadStage rules (Keeping given) p old q new = DoesKeep rules.settings p given old q new
DoesReadStage rules (Ended end) p old q new = ⊥

-- the refusal of a read whose next stage needs a node that is down
abbrev pub read_is_down : NodeName → Reply
read_is_down node = Refused (Node (NodeDown node Before))

-- the read ends with that reply in place of its next stage, and so does its ask, and nothing else changes
pub record EndsRead (reply : Reply) (p : Reading) (old : World) (q : Reading) (new : World) : Type 0 where
  pub ends : EndsItsAsk p old new
  pub rest : ChangesFollowers old new
  pub then : q ≡ taken (read_refused (stage_of p.at) reply) 0 false p

-- a node is down that the read's next stage needs: the read ends
pub record EndsReadDown (p : Reading) (old : World) (q : Reading) (new : World) : Type 0 where
  pub node : NodeName
  pub down : read_down old.states p ≡ Some node
  pub over : EndsRead (read_is_down node) p old q new

-- the refusal of a read for whose session there is no room to learn which version it answers
abbrev pub read_has_no_room : Reply
read_has_no_room = Refused (Memory 0)

-- all that the read's next stage needs are up, and it does that stage
pub record DoesNextRead (rules : Rules) (p : Reading) (old : World) (q : Reading) (new : World) : Type 0 where
  pub up : read_down old.states p ≡ None
  pub does : DoesReadStage rules p.at p old q new

-- what becomes of a read by its next stage: that is done, or a node is down that it needs
abbrev pub ComesOfRead : Rules → Reading → World → Reading → World → Type 0
ComesOfRead rules p old q new = DoesNextRead rules p old q new ⊎ EndsReadDown p old q new

-- the version of what was given
abbrev pub given_version : Given → ℕ
given_version (Fill fill) = fill.version
given_version (HandedOut version) = version
given_version (Past answer version total seen) = version

-- a read has come to a version of its key: by the log, before it is given anything; by what was given; and by its answer
abbrev pub HasComeTo : ℕ → ℕ → Standing → Type 0
HasComeTo least now Looking = least ≤ now
HasComeTo least now Asking = least ≤ now
HasComeTo least now Mastering = least ≤ now
HasComeTo least now (Keeping given) = least ≤ given_version given
HasComeTo least now (Ended (Answered answer version held)) = least ≤ version
HasComeTo least now (Ended (end.Refused reply)) = ⊤

-- the version of the read's key in the log as it is
abbrev pub version_now : Settings → Reading → KeeperState → ℕ
version_now s p keepers = version (master_log s keepers.told (query_shard p.query)) (query_key p.query)

-- a critical read misses nothing of its key up to that version
abbrev pub MissesNone : Bool → Settings → ℕ → Reading → KeeperState → Type 0
MissesNone tells s least p keepers = WhereTold tells (p.critical ≡ true → HasComeTo least (version_now s p keepers) p.at)

-- the answer of a read that ends with one is legal in the log as it is then, and what is kept is held and answers again
abbrev pub EndsLegally : Bool → Settings → Reading → World → Type 0
EndsLegally tells s q new = (reply : ReadReply) → EndsWith q (Called (called.Read reply)) → IsLegalNow tells s (wanted_by q) reply new.keepers
    × WhereTold tells (reply.kept ≡ Kept → AnswersAgain (types_of s.schema) q.follower q.query reply new.fleet.followers)

-- one stage of a held read, the one that follows. A critical one misses nothing that it didn't before, so nothing that stood when it began
pub record StepsRead (rules : Rules) (p : Reading) (old : World) (q : Reading) (new : World) : Type 0 where
  pub does : ComesOfRead rules p old q new
  pub legal : EndsLegally rules.tells rules.settings q new
  pub whole : (least : ℕ) → MissesNone rules.tells rules.settings least p old.keepers → MissesNone rules.tells rules.settings least q new.keepers

-- the stage of a read was done: its answer is legal where it ended with one, nothing was missed, and the read can go on, and so can all else
pub record DoesReadAndPasses (rules : Rules) (p : Reading) (old : World) (q : Reading) (new : World) : Type 0 where
  pub does : DoesReadStage rules p.at p old q new
  pub legal : EndsLegally rules.tells rules.settings q new
  pub whole : (least : ℕ) → MissesNone rules.tells rules.settings least p old.keepers → MissesNone rules.tells rules.settings least q new.keepers
  pub read : IsReadUnderWay rules.tells rules.settings new.keepers.told new.fleet q
  pub on : ReadsOn rules.tells rules.settings old new

-- a read ended with that reply in place of its next stage: it is over, and all else can go on
pub record EndsReadAndPasses (rules : Rules) (reply : Reply) (p : Reading) (old : World) (q : Reading) (new : World) : Type 0 where
  pub ends : EndsRead reply p old q new
  pub read : IsReadUnderWay rules.tells rules.settings new.keepers.told new.fleet q
  pub on : ReadsOn rules.tells rules.settings old new

-- a stage of a held read was done, or a node is down that it needs: the read can go on, and so can all else
pub record PassesReadStage (rules : Rules) (p : Reading) (old : World) (q : Reading) (new : World) : Type 0 where
  pub steps : StepsRead rules p old q new
  pub read : IsReadUnderWay rules.tells rules.settings new.keepers.told new.fleet q
  pub on : ReadsOn rules.tells rules.settings old new
