-- What the replies to the words of health say: a node goes down or comes up, and a tier suspects a leader or trusts it.
use Rattle.std.specs.Prelude.{◌≡◌, ◌⊎◌, Bool, true, false, not}
use Rattle.core_mail.specs.Inboxes.{LosesAll}
use Rattle.core_model.specs.Emptied.{EmptiesCache, at_marks, at_stores, region_tables}
use Rattle.core_model.specs.Fleet.{ChangesNode, region_of}
use Rattle.core_model.specs.Pens.{pens_of}
use Rattle.core_steps.specs.ReadSteps.{AskFails}
use Rattle.node_name.specs.declared.NodeName.{NodeName}
use Rattle.replies.specs.declared.nodes.NodeReply.TheVariants.{Health}
use Rattle.replies.specs.declared.refusals.Refusal.{Refusal}
use Rattle.replies.specs.declared.reply.Reply.{Reply}
use Rattle.replies.specs.declared.reply.Reply.TheVariants.{Node, Refused}
use Rattle.request_check.specs.declared.health.CheckedHealth.{CheckedHealth}
use Rattle.request_check.specs.declared.health.CheckedHealth.TheVariants as asked
use Rattle.request_check.specs.declared.health.LeaderPlace.{LeaderPlace}
use Rattle.tao_keeper.specs.KeeperState.{KeepsTables}
use Rattle.topology.specs.States.{SetsUp, is_up}
use Rattle.topology.specs.Suspicions.{SetsTrust, Suspicion, suspects, suspicion_of}
use Rattle.words.specs.declared.HealthWord.{HealthWord}
use Rattle.words.specs.declared.HealthWord.TheVariants.{Down, Up, Suspect, Trust}
use Rattle.tao_core.specs.Core.{Moment, WantsMemory}

-- the reply to a word of health: whether anything changed
abbrev pub health_said : HealthWord → Bool → Reply
health_said word changed = Node (Health word changed)

-- nothing changed, since it was so
pub record WasSo (word : HealthWord) (old : Moment) (reply : Reply) (new : Moment) : Type 0 where
  pub reply_is : reply ≡ health_said word false
  pub same : new ≡ old

-- ---- down

-- the node was up and is down: it lost its items, asks and refills, and its messages, and its low-water marks stay. Nothing else changed
pub record GoesDown (node : NodeName) (old : Moment) (reply : Reply) (new : Moment) : Type 0 where
  pub was_up : is_up old.core.states node ≡ true
  pub reply_is : reply ≡ health_said Down true
  pub states : SetsUp node false old.core.states new.core.states
  pub empties : EmptiesCache node (pens_of old.core.fleet.stores) at_marks old.core.fleet new.core.fleet
  pub messages : ChangesNode node LosesAll old.core.mail new.core.mail
  pub rest : new ≡ record old { core = record old.core { states = new.core.states; fleet = new.core.fleet; mail = new.core.mail } }

-- the node was down already
pub record IsDown (node : NodeName) (old : Moment) (reply : Reply) (new : Moment) : Type 0 where
  pub was_down : is_up old.core.states node ≡ false
  pub so : WasSo Down old reply new

-- what the reply to `down` says; or there was no memory, and nothing changed
abbrev pub AnswersDown : NodeName → Moment → Reply → Moment → Type 0
AnswersDown node old reply new = GoesDown node old reply new ⊎ (IsDown node old reply new ⊎ WantsMemory old reply new)

-- ---- up

-- the node was down and is up: it begins empty, and has processed just what its region's stores have. Nothing else changed but what the keepers show
pub record ComesUpAgain (tells : Bool) (node : NodeName) (old : Moment) (reply : Reply) (new : Moment) : Type 0 where
  pub was_down : is_up old.core.states node ≡ false
  pub reply_is : reply ≡ health_said Up true
  pub states : SetsUp node true old.core.states new.core.states
  pub empties : EmptiesCache node (pens_of old.core.fleet.stores) (at_stores (region_tables tells old.keepers.told (region_of node)))
      old.core.fleet new.core.fleet
  pub tables : KeepsTables tells old.keepers new.keepers
  pub rest : new ≡ record old { core = record old.core { states = new.core.states; fleet = new.core.fleet }; keepers = new.keepers }

-- the node was up already
pub record IsUp (node : NodeName) (old : Moment) (reply : Reply) (new : Moment) : Type 0 where
  pub was_up : is_up old.core.states node ≡ true
  pub so : WasSo Up old reply new

-- the node stays down, since a keeper failed at the length of a log, or there was no memory. Nothing changed but what the keepers show
pub record StaysDown (tells : Bool) (node : NodeName) (old : Moment) (reply : Reply) (new : Moment) : Type 0 where
  pub was_down : is_up old.core.states node ≡ false
  pub refusal : Refusal
  pub reply_is : reply ≡ Refused refusal
  pub fails : AskFails refusal old.keepers new.keepers
  pub tables : KeepsTables tells old.keepers new.keepers
  pub rest : new ≡ record old { keepers = new.keepers }

-- what the reply to `up` says
abbrev pub AnswersUp : Bool → NodeName → Moment → Reply → Moment → Type 0
AnswersUp tells node old reply new = ComesUpAgain tells node old reply new ⊎ (IsUp node old reply new ⊎ StaysDown tells node old reply new)

-- ---- suspect and trust

-- the suspicion that the place names
abbrev pub suspicion_at : LeaderPlace → Suspicion
suspicion_at place = suspicion_of place.region place.tier place.node

-- the tier of the place trusts its leader now, or doesn't, as it is to; and nothing else changed
pub record ChangesTrustNow (word : HealthWord) (trusted : Bool) (place : LeaderPlace) (old : Moment) (reply : Reply) (new : Moment) : Type 0 where
  pub was : suspects old.core.states (suspicion_at place) ≡ trusted
  pub reply_is : reply ≡ health_said word true
  pub states : SetsTrust (suspicion_at place) trusted old.core.states new.core.states
  pub rest : new ≡ record old { core = record old.core { states = new.core.states } }

-- the tier of the place trusted its leader already, or didn't
pub record TrustedSo (word : HealthWord) (trusted : Bool) (place : LeaderPlace) (old : Moment) (reply : Reply) (new : Moment) : Type 0 where
  pub was : suspects old.core.states (suspicion_at place) ≡ not trusted
  pub so : WasSo word old reply new

-- what the reply to `suspect` or `trust` says
abbrev pub AnswersTrust : HealthWord → Bool → LeaderPlace → Moment → Reply → Moment → Type 0
AnswersTrust word trusted place old reply new =
    ChangesTrustNow word trusted place old reply new ⊎ TrustedSo word trusted place old reply new

-- ---- all

-- what the reply to what is asked of health says
abbrev pub AnswersHealth : Bool → CheckedHealth → Moment → Reply → Moment → Type 0
AnswersHealth tells (asked.Down node) old reply new = AnswersDown node old reply new
AnswersHealth tells (asked.Up node) old reply new = AnswersUp tells node old reply new
AnswersHealth tells (asked.Suspect place) old reply new = AnswersTrust Suspect false place old reply new
AnswersHealth tells (asked.Trust place) old reply new = AnswersTrust Trust true place old reply new
