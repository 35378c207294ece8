-- A read that ends without an answer ends with a refusal, its answer's version is one that its key had, and no stage of a read changes a table.
use Rattle.std.proofs.Common.{◌≡◌, ℕ, Bool, true, false, Option, Some, None, refl, sym, ap, ◌∙◌, subst, take, inl, inr}
use Rattle.std.specs.Prelude.{⊤}
use Rattle.cache_items.specs.declared.look.Look.{Look}
use Rattle.cache_items.specs.declared.look.Look.TheVariants.{Hit, Miss}
use Rattle.core_model.specs.Stores.{stores_in}
use Rattle.core_plans.proofs.InTurn.{read_same}
use Rattle.core_plans.proofs.WholeRuns.{OfRead, read_keeps}
use Rattle.core_plans.specs.HeldReads.{ComesOfRead, DoesKeep, DoesLook, DoesReadStage, EndsRead, read_is_down}
use Rattle.core_plans.specs.LedBy.{Rules, rules_of}
use Rattle.core_plans.specs.WholeCalls.{CarriesOut, PassesStage}
use Rattle.core_plans.specs.declared.held.HeldPlan.{HeldPlan}
use Rattle.core_plans.specs.declared.held.HeldPlan.TheVariants as of
use Rattle.core_steps.specs.World.{World}
use Rattle.graph_model.specs.Log.{version}
use Rattle.plain_promise.specs.Promise.{IsVersionOfSome}
use Rattle.promise_kept.proofs.Going.{log_is}
use Rattle.read_plan.specs.Ends.{EndsAt, EndsWith}
use Rattle.read_plan.specs.Readings.{Reading}
use Rattle.read_plan.specs.Standings.{after_ask, after_keep, after_look, after_master, read_refused, stage_of, standing_after}
use Rattle.read_plan.specs.declared.end.ReadEnd.TheVariants as ended
use Rattle.read_plan.specs.declared.standing.Given.{Given}
use Rattle.read_plan.specs.declared.standing.Given.TheVariants.{Fill, HandedOut, Past}
use Rattle.read_plan.specs.declared.standing.Standing.{Standing}
use Rattle.read_plan.specs.declared.standing.Standing.TheVariants.{Looking, Asking, Mastering, Keeping, Ended}
use Rattle.replies.specs.declared.calls.CallReply.TheVariants as called
use Rattle.replies.specs.declared.calls.ReadReply.{ReadReply}
use Rattle.replies.specs.declared.refusals.Refusal.{Refusal}
use Rattle.replies.specs.declared.reply.Reply.{Reply}
use Rattle.replies.specs.declared.reply.Reply.TheVariants.{Called, Refused}
use Rattle.shard_tables.specs.declared.leader_answer.LeaderAnswer.{LeaderAnswer}
use Rattle.shard_tables.specs.declared.leader_answer.LeaderAnswer.TheVariants as leads
use Rattle.shard_tables.specs.declared.read_out.ReadOut.{ReadOut}
use Rattle.shard_tables.specs.declared.read_out.ReadOut.TheVariants as store
use Rattle.tao_base.specs.Queries.{query_key, query_shard}
use Rattle.tao_keeper.specs.Table.{Stays}
use Rattle.topology.specs.Config.{Settings}

-- a read that has ended without an answer was refused
abbrev pub EndsRefused : Standing → Type 0
EndsRefused (Ended (ended.Refused reply)) = (refusal : Refusal) × (reply ≡ Refused refusal)
EndsRefused (Ended (ended.Answered answer version held)) = ⊤
EndsRefused Looking = ⊤
EndsRefused Asking = ⊤
EndsRefused Mastering = ⊤
EndsRefused (Keeping given) = ⊤

-- ---- one stage

look_so : (critical : Bool) (look : Look) → EndsRefused (after_look critical look)
look_so true look = tt
look_so false (Hit answer version) = tt
look_so false Miss = tt

ask_so : (given : LeaderAnswer) → EndsRefused (after_ask given)
ask_so (leads.Filled fill) = tt
ask_so (leads.Past answer version total note) = tt
ask_so (leads.Behind version) = tt

master_so : (out : ReadOut) → EndsRefused (after_master out)
master_so (store.Filled fill) = tt
master_so (store.Past answer version total note) = tt

-- what is so of where a read stands is so where it is the same
at_then : (q r : Reading) → q ≡ r → EndsRefused r.at → EndsRefused q.at
at_then q r same so = subst (λ (x : Reading). EndsRefused x.at) (sym same) so

keep_so : (s : Settings) (p q : Reading) (given : Given) (old new : World) → p.at ≡ Keeping given → DoesKeep s p given old q new → EndsRefused q.at
keep_so s p q (Fill fill) old new at (inl from) =
    at_then q _ from.then (subst (λ a. EndsRefused (after_keep p.bound a (Some (from.answer, from.kept)))) (sym at) tt)
keep_so s p q (Fill fill) old new at (inr vain) = at_then q _ vain.then (_, refl)
keep_so s p q (Past answer version total seen) old new at on = at_then q _ on.then (subst (λ a. EndsRefused (after_keep p.bound a None)) (sym at) tt)
keep_so s p q (HandedOut version) old new at on = absurd on

stage_so : (rules : Rules) (at : Standing) (p q : Reading) (old new : World) → p.at ≡ at → DoesReadStage rules at p old q new → EndsRefused q.at
stage_so rules Looking p q old new is does = by p.critical does
  where
    by : (critical : Bool) → DoesLook rules.settings critical p old q new → EndsRefused q.at
    by false (inl looks) = at_then q _ looks.then (look_so p.critical looks.look)
    by false (inr vain) = at_then q _ vain.then (_, refl)
    by true looks = at_then q _ looks.then (look_so p.critical Miss)
stage_so rules Asking p q old new is (inl asks) = at_then q _ asks.then (ask_so asks.given)
stage_so rules Asking p q old new is (inr vain) = at_then q _ vain.then (_, refl)
stage_so rules Mastering p q old new is (inl asks) = at_then q _ asks.then (master_so asks.out)
stage_so rules Mastering p q old new is (inr vain) = at_then q _ vain.then (_, refl)
stage_so rules (Keeping given) p q old new is does = keep_so rules.settings p q given old new is does
stage_so rules (Ended end) p q old new is does = absurd does

-- a stage that is refused ends the read with the refusal
pub refused_standing : (critical : Bool) (bound : ℕ) (at : Standing) (reply : Reply)
    → standing_after critical bound at (read_refused (stage_of at) reply) ≡ Ended (ended.Refused reply)
refused_standing critical bound Looking reply = refl
refused_standing critical bound Asking reply = refl
refused_standing critical bound Mastering reply = refl
refused_standing critical bound (Keeping given) reply = refl
refused_standing critical bound (Ended end) reply = refl

-- a read that ends in place of its next stage ends with that refusal
pub end_refused : (reply : Reply) (p q : Reading) (old new : World) → EndsRead reply p old q new → q.at ≡ Ended (ended.Refused reply)
end_refused reply p q old new over = ap (λ (r : Reading). r.at) over.then ∙ refused_standing p.critical p.bound p.at reply

pub end_refuses : (reply : Reply) (p q : Reading) (old new : World) → EndsRead reply p old q new → (refusal : Refusal) × (reply ≡ Refused refusal)
    → EndsRefused q.at
end_refuses reply p q old new over is = subst EndsRefused (sym (end_refused reply p q old new over)) is

pub stage_refuses : (rules : Rules) (p q : Reading) (old new : World) → ComesOfRead rules p old q new → EndsRefused q.at
stage_refuses rules p q old new (inl next) = stage_so rules p.at p q old new refl next.does
stage_refuses rules p q old new (inr down) = end_refuses (read_is_down down.node) p q old new down.over (_, refl)

-- ---- all stages

-- no table changed since the first, for whom the read is stays, one that ended without an answer was refused, and the version of an answer is one that the
-- read's key had
pub record ReadRests (s : Settings) (reader : Option ℕ) (first : World) (q : Reading) (now : World) : Type 0 where
  pub tables : Stays first.keepers.told now.keepers.told
  pub reader_is : q.reader ≡ reader
  pub refused : EndsRefused q.at
  pub answers : (reply : ReadReply) → EndsWith q (Called (called.Read reply)) → IsVersionOfSome (stores_in s now.keepers.told).logs reply.version

module _ (s : Settings) (reader : Option ℕ) (first : World) where
  rests_on : (p q : Reading) (old new : World) → ReadRests s reader first p old → PassesStage (rules_of true s) (of.Read p) old (of.Read q) new
      → ReadRests s reader first q new
  rests_on p q old new so stage = record {
    tables = λ at. stage.steps.tables refl at ∙ so.tables at;
    reader_is = (read_same p q old new (rules_of true s) stage.steps.steps.does).reader ∙ so.reader_is;
    refused = stage_refuses (rules_of true s) p q old new stage.steps.steps.does;
    answers = λ reply ends.
        let legal = (stage.steps.steps.legal reply ends).0 refl in
        let log = log_is s new.keepers.told (query_shard q.query) stage.under_way.follower.here in
        record {
          key = query_key q.query;
          n = legal.n;
          version_is = legal.version_is ∙ ap (λ l. version (take legal.n l) (query_key q.query)) (sym log);
        };
  }

  pub read_rests : (p : Reading) (q : HeldPlan) (new : World) → p.at ≡ Looking → p.reader ≡ reader → CarriesOut (rules_of true s) (of.Read p) first q new
      → OfRead (ReadRests s reader first) q new
  read_rests p q new begun for_whom out =
      read_keeps (rules_of true s) (ReadRests s reader first) rests_on out.stages p q first new
      (record {
        tables = λ at. refl;
        reader_is = for_whom;
        refused = subst EndsRefused (sym begun) tt;
        answers = λ reply ends. absurd (subst (λ a. EndsAt a p (Called (called.Read reply))) begun ends);
      })
      out.passes
