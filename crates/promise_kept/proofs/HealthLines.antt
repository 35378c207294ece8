-- The lines of health: who is up and who trusts whom change, and no log, session or held call does. And all lines that are no calls.
use Rattle.std.proofs.Common.{◌≡◌, Bool, true, false, refl, sym, ap, subst, inl, inr}
use Rattle.node_name.specs.declared.NodeName.{NodeName}
use Rattle.promise_kept.proofs.CacheLines.{IsNoSettle, Rests, cache_line, link_line, same_rests, settled_same}
use Rattle.promise_kept.proofs.Going.{settled_rests}
use Rattle.promise_kept.proofs.Others.{steps_so}
use Rattle.promise_kept.proofs.StoreLines.{same_stores, store_line}
use Rattle.promise_kept.specs.Lines.{KeepsLine, OthersKeepPromise}
use Rattle.promise_kept.specs.Seen.{IsSettledSince, stores_at}
use Rattle.replies.specs.declared.reply.Reply.{Reply}
use Rattle.request_check.specs.declared.checked.Checked.TheVariants as asks
use Rattle.request_check.specs.declared.health.CheckedHealth.{CheckedHealth}
use Rattle.request_check.specs.declared.health.CheckedHealth.TheVariants as health
use Rattle.request_check.specs.declared.health.LeaderPlace.{LeaderPlace}
use Rattle.tao_core.specs.Core.{Moment, WantsMemory}
use Rattle.tao_core.specs.Health.{AnswersDown, AnswersHealth, AnswersTrust, AnswersUp, WasSo}
use Rattle.words.specs.declared.HealthWord.{HealthWord}
use Rattle.words.specs.declared.HealthWord.TheVariants.{Suspect, Trust}

-- no table, session or held call changes, and the reply isn't that of a settle which ended well
pub record RestsSo (old : Moment) (reply : Reply) (new : Moment) : Type 0 where
  pub rests : Rests old new
  pub none : IsNoSettle reply

module _ (old new : Moment) (reply : Reply) where
  was_so : (word : HealthWord) → WasSo word old reply new → RestsSo old reply new
  was_so word so = record { rests = same_rests old new so.same; none = subst IsNoSettle (sym so.reply_is) tt }

  wants_so : WantsMemory old reply new → RestsSo old reply new
  wants_so wants = record { rests = same_rests old new wants.same; none = subst IsNoSettle (sym wants.reply_is) tt }

  -- where that is the reply
  core_so : (rests : Rests old new) (said : Reply) → reply ≡ said → IsNoSettle said → RestsSo old reply new
  core_so rests said is none = record { rests = rests; none = subst IsNoSettle (sym is) none }

  down_so : (node : NodeName) → AnswersDown node old reply new → RestsSo old reply new
  down_so node (inl goes) = core_so (record {
    tables = λ at. ap (λ (m : Moment). m.keepers.told at) goes.rest;
    keeps = record { sessions = ap (λ (m : Moment). m.core.sessions) goes.rest; plans = ap (λ (m : Moment). m.core.plans) goes.rest };
  }) _ goes.reply_is tt
  down_so node (inr (inl is)) = was_so _ is.so
  down_so node (inr (inr wants)) = wants_so wants

  up_so : (node : NodeName) → AnswersUp true node old reply new → RestsSo old reply new
  up_so node (inl comes) = core_so (record {
    tables = comes.tables refl;
    keeps = record { sessions = ap (λ (m : Moment). m.core.sessions) comes.rest; plans = ap (λ (m : Moment). m.core.plans) comes.rest };
  }) _ comes.reply_is tt
  up_so node (inr (inl is)) = was_so _ is.so
  up_so node (inr (inr stays)) = core_so (record {
    tables = stays.tables refl;
    keeps = record { sessions = ap (λ (m : Moment). m.core.sessions) stays.rest; plans = ap (λ (m : Moment). m.core.plans) stays.rest };
  }) _ stays.reply_is tt

  trust_so : (word : HealthWord) (trusted : Bool) (place : LeaderPlace) → AnswersTrust word trusted place old reply new → RestsSo old reply new
  trust_so word trusted place (inl changes) = core_so (record {
    tables = λ at. ap (λ (m : Moment). m.keepers.told at) changes.rest;
    keeps = record { sessions = ap (λ (m : Moment). m.core.sessions) changes.rest; plans = ap (λ (m : Moment). m.core.plans) changes.rest };
  }) _ changes.reply_is tt
  trust_so word trusted place (inr is) = was_so _ is.so

  pub health_so : (asked : CheckedHealth) → AnswersHealth true asked old reply new → RestsSo old reply new
  health_so (health.Down node) = down_so node
  health_so (health.Up node) = up_so node
  health_so (health.Suspect place) = trust_so Suspect false place
  health_so (health.Trust place) = trust_so Trust true place

pub health_line : (asked : CheckedHealth) → KeepsLine (asks.Health asked)
health_line asked old new plain reply is line =
    let so = health_so old new reply asked line.answers in
    let settled = settled_same plain (stores_at new).logs reply so.none in
    steps_so old new plain is line.on so.rests.keeps (asks.Health asked) reply tt (same_stores old new plain is line.on so.rests.tables) (λ plan. refl) (λ session. refl)
    (subst (IsSettledSince new) (sym settled) (settled_rests old new line.on plain.settled is.settled))

-- ---- all lines that are no calls

pub others_keep : OthersKeepPromise
others_keep = record { stores = store_line; caches = cache_line; links = link_line; health = health_line }
