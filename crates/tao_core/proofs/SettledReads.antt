-- A read that begins at settled stores and nodes is answered at the last version of its key.
use Rattle.std.proofs.Common.{◌≡◌, ◌≤◌, ℕ, zero, suc, true, false, refl, ap, sym, ◌∙◌, subst, arith, inl, inr}
use Rattle.core_model.proofs.Settled.{settled_stays}
use Rattle.core_model.specs.Consistent.{IsConsistent}
use Rattle.core_model.specs.States.{AreSettled, nodes_now}
use Rattle.core_model.specs.Stores.{HaveMasterRegions, master_log, master_store}
use Rattle.core_nodes.proofs.GrowingLemmas.{stays_stores}
use Rattle.core_plans.proofs.InTurn.{IsSameRead, read_same}
use Rattle.core_plans.proofs.ReadEndings.{same_read}
use Rattle.core_plans.proofs.ReadRefusals.{NeverCalled, read_never}
use Rattle.core_plans.proofs.WholeStages.{stages_miss_nothing}
use Rattle.core_plans.specs.Held.{IsOver}
use Rattle.core_plans.specs.HeldReads.{HasComeTo, version_now}
use Rattle.core_plans.specs.LedBy.{Rules, rules_of}
use Rattle.core_plans.specs.WholeCalls.{PassesStage, PassesStages}
use Rattle.core_plans.specs.declared.held.HeldPlan.{HeldPlan}
use Rattle.core_plans.specs.declared.held.HeldPlan.TheVariants as of
use Rattle.core_steps.specs.World.{World}
use Rattle.graph_model.proofs.Exact.{version_take}
use Rattle.graph_model.specs.Log.{version}
use Rattle.read_plan.specs.Ends.{EndsAt}
use Rattle.read_plan.specs.Readings.{Reading}
use Rattle.read_plan.specs.declared.end.ReadEnd.TheVariants as ended
use Rattle.read_plan.specs.declared.standing.Standing.{Standing}
use Rattle.read_plan.specs.declared.standing.Standing.TheVariants.{Looking, Asking, Mastering, Keeping, Ended}
use Rattle.replies.specs.declared.calls.CallReply.TheVariants as called
use Rattle.replies.specs.declared.calls.ReadReply.{ReadReply}
use Rattle.replies.specs.declared.reply.Reply.{Reply}
use Rattle.replies.specs.declared.reply.Reply.TheVariants.{Called}
use Rattle.tao_base.specs.Queries.{query_key, query_shard}
use Rattle.tao_keeper.specs.Table.{Stays}
use Rattle.topology.specs.Config.{Settings}
use Rattle.tao_core.proofs.HeldOn.{comes_not}

-- ---- the version of a reply

abbrev version_in : Reply → ℕ
version_in (Called (called.Read reply)) = reply.version
version_in reply = 0

ended_version : (at : Standing) (q : Reading) (reply : ReadReply) (least now : ℕ) → q.at ≡ at → NeverCalled at
    → EndsAt at q (Called (called.Read reply)) → HasComeTo least now at → least ≤ reply.version
ended_version (Ended (ended.Answered answer version kept)) q reply least now is never ends come =
    let same : reply.version ≡ version = ap version_in ends in
    subst (λ v. least ≤ v) (sym same) come
ended_version (Ended (ended.Refused own)) q reply least now is never ends come = absurd (never own (called.Read reply) refl (sym ends))
ended_version Looking q reply least now is never ends come = absurd ends
ended_version Asking q reply least now is never ends come = absurd ends
ended_version Mastering q reply least now is never ends come = absurd ends
ended_version (Keeping given) q reply least now is never ends come = absurd ends

-- ---- stage after stage

read_one : (p q : Reading) → of.Read p ≡ of.Read q → p ≡ q
read_one p q is = cc

-- the plan is the read that began, stores and nodes are settled still, and it has come to the version that stood when it began
record ComesSoFar (s : Settings) (p : Reading) (old : World) (plan : HeldPlan) (now : World) : Type 0 where
  q : Reading
  is : plan ≡ of.Read q
  same : IsSameRead p q
  tables : Stays old.keepers.told now.keepers.told
  are : IsConsistent true s now.keepers.told now.fleet
  settled : AreSettled s now.keepers.told (nodes_now now.fleet now.states)
  come : HasComeTo (version_now s p old.keepers) (version_now s q now.keepers) q.at

module _ (s : Settings) (p : Reading) (old : World) (masters : HaveMasterRegions s) where
  abbrev By : Rules
  By = rules_of true s

  comes_by : (q : Reading) (plan : HeldPlan) (x y : World) → IsSameRead p q → Stays old.keepers.told x.keepers.told
      → IsConsistent true s x.keepers.told x.fleet → AreSettled s x.keepers.told (nodes_now x.fleet x.states)
      → HasComeTo (version_now s p old.keepers) (version_now s q x.keepers) q.at → PassesStage By (of.Read q) x plan y
      → ComesSoFar s p old plan y
  comes_by q (of.Read r) x y same tables are settled come stage =
      let steps = stage.steps in
      let stays : Stays x.keepers.told y.keepers.told = steps.tables refl in
      let grows = stays_stores true s x.keepers y.keepers steps.tables in
      record {
        q = r;
        is = refl;
        same = same_read p q r same (read_same q r x y By steps.steps.does);
        tables = λ at. stays at ∙ tables at;
        are = stage.on.consistent;
        settled = (settled_stays s x.keepers.told y.keepers.told (nodes_now x.fleet x.states) (nodes_now y.fleet y.states)).stay
            masters are stage.on.consistent stage.on.goes
            (record {
              leaders = λ place name node at comes. absurd (comes_not name x.states y.states stage.on.states comes);
              followers = λ place name node at comes. absurd (comes_not name x.states y.states stage.on.states comes);
            })
            grows.on (λ shard here. ap (λ t. t.log) (stays (master_store s shard))) settled;
        come = (stages_miss_nothing s q r x y).whole steps.steps are settled grows.on.logs (version_now s p old.keepers) come;
      }
  comes_by q (of.Write w) x y same tables are settled come stage = absurd stage.steps

  comes_then : (n : ℕ) (plan : HeldPlan) (now : World) → IsConsistent true s old.keepers.told old.fleet
      → AreSettled s old.keepers.told (nodes_now old.fleet old.states)
      → HasComeTo (version_now s p old.keepers) (version_now s p old.keepers) p.at → PassesStages By n (of.Read p) old plan now
      → ComesSoFar s p old plan now
  comes_then zero plan now are settled come passes =
      subst (ComesSoFar s p old plan) (sym passes.1) (record {
        q = p;
        is = passes.0;
        same = record { query = refl; region = refl; floor = refl; critical = refl; follower = refl; reader = refl };
        tables = λ at. refl;
        are = are;
        settled = settled;
        come = come;
      })
  comes_then (suc n) plan now are settled come passes =
      let so = comes_then n passes.0 passes.1 are settled come passes.2 in
      comes_by so.q plan passes.1 now so.same so.tables so.are so.settled so.come
      (subst (λ m. PassesStage By m passes.1 plan now) so.is passes.3)

  last_by : (q : Reading) (plan : HeldPlan) (x y : World) (reply : ReadReply) → IsSameRead p q → Stays old.keepers.told x.keepers.told
      → IsConsistent true s x.keepers.told x.fleet → AreSettled s x.keepers.told (nodes_now x.fleet x.states)
      → HasComeTo (version_now s p old.keepers) (version_now s q x.keepers) q.at → PassesStage By (of.Read q) x plan y
      → IsOver plan (Called (called.Read reply)) → reply.version ≡ version_now s p old.keepers
  last_by q (of.Read r) x y reply same tables are settled come stage over =
      let on = comes_by q (of.Read r) x y same tables are settled come stage in
      let steps = stage.steps.steps in
      let log = master_log s y.keepers.told (query_shard r.query) in
      let key = query_key r.query in
      let legal = (steps.legal reply over).0 refl in
      let never = read_never By q r x y steps.does in
      let here : on.q ≡ r = read_one on.q r (sym on.is) in
      let come = subst (λ (x : Reading). HasComeTo (version_now s p old.keepers) (version_now s x y.keepers) x.at) here on.come in
      let least : version_now s p old.keepers ≤ reply.version = ended_version r.at r reply _ _ refl never over come in
      let most : reply.version ≤ version log key = subst (λ v. v ≤ version log key) (sym legal.version_is) (version_take legal.n log key) in
      let now : version log key ≡ version_now s p old.keepers =
      ap (λ query. version (master_log s y.keepers.told (query_shard query)) (query_key query)) (subst (λ (x : Reading). x.query ≡ p.query) here on.same.query)
      ∙ ap (λ l. version l (query_key p.query)) (ap (λ t. t.log) (on.tables (master_store s (query_shard p.query)))) in
      omega (arith, least, most, now)
  last_by q (of.Write w) x y reply same tables are settled come stage over = absurd stage.steps

  -- a read that was carried out whole
  pub read_last : (n : ℕ) (plan : HeldPlan) (now : World) (reply : ReadReply) → p.at ≡ Looking
      → IsConsistent true s old.keepers.told old.fleet → AreSettled s old.keepers.told (nodes_now old.fleet old.states)
      → PassesStages By n (of.Read p) old plan now → IsOver plan (Called (called.Read reply)) → reply.version ≡ version_now s p old.keepers
  read_last zero plan now reply begun are settled passes over =
      absurd (subst (λ at. EndsAt at p (Called (called.Read reply))) begun (subst (λ m. IsOver m (Called (called.Read reply))) passes.0 over))
  read_last (suc n) plan now reply begun are settled passes over =
      let last = version_now s p old.keepers in
      let so = comes_then n passes.0 passes.1 are settled (subst (HasComeTo last last) (sym begun) (omega arith)) passes.2 in
      last_by so.q plan passes.1 now reply so.same so.tables so.are so.settled so.come
      (subst (λ m. PassesStage By m passes.1 plan now) so.is passes.3) over
