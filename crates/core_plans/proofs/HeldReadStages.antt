-- What each stage of a held read comes to.
use Rattle.std.proofs.Common.{◌≡◌, ℕ, ◌<◌, false, true, Bool, Option, Some, None, refl, ap, sym, ◌∙◌, subst, inl, inr}
use Rattle.std.specs.Prelude.{◌-◌, IfSome, Ok, Err, nat_lt}
use Rattle.cache_items.specs.declared.look.Kept.{Kept as KeptWhy}
use Rattle.cache_items.specs.declared.look.Look.{Look}
use Rattle.cache_items.specs.declared.look.Look.TheVariants.{Hit, Miss}
use Rattle.core_model.specs.Consistent.{GoesOn, HaveReached, IsConsistent, IsFleetOf}
use Rattle.core_model.specs.Fleet.{ChangesNode, Fleet, HasAsk}
use Rattle.core_model.specs.Pens.{Pens, pens_of}
use Rattle.core_model.specs.Reads.{AsksAtOnce, EndsAsk, IsGivenFill, IsLegalLook, KeepsFill, LooksFirst, taken_fill, wanted}
use Rattle.core_model.specs.Stores.{AreStoresOf, HaveMasterRegions, master_store}
use Rattle.core_steps.specs.ReadSteps.{IsGivenOver, IsNotGiven, IsNotRead, IsReadOver, ReadsOn}
use Rattle.core_steps.specs.Routes.{hops_between, master_node, was_called}
use Rattle.core_steps.specs.World.{World, world}
use Rattle.core_steps.specs.declared.nodes.Nodes.{Nodes}
use Rattle.core_steps.proofs.LinkLemmas.{link_self}
use Rattle.core_model.proofs.NamedNodes.{changes_so}
use Rattle.core_steps.specs.core_nodes.Stages.{NodeIs}
use Rattle.core_steps.proofs.core_nodes_lemmas.NodesOfNames.{is_after}
use Rattle.core_steps.proofs.ReachLemmas.{end_reaches}
use Rattle.core_steps.proofs.ReadLemmas.{legal_in_log, on_after, on_same, where_told}
use Rattle.core_steps.proofs.Repeats.{RepeatsHit, filled_repeats, hit_alone, hit_repeats, not_past}
use Rattle.shard_log.proofs.GrowthLemmas.{legal-grows}
use Rattle.node_name.specs.declared.NodeName.{NodeName}
use Rattle.node_name.specs.declared.NodeName.TheVariants.{Store}
use Rattle.read_plan.proofs.RunLemmas.{answers_are_given}
use Rattle.read_plan.specs.Keeping.{kept_or_not, past_bound}
use Rattle.read_plan.specs.Readings.{Reading, fill_handed, given_by, taken}
use Rattle.read_plan.specs.Runs.{IsOfNextStage}
use Rattle.read_plan.specs.Standings.{after_ask, after_keep, after_look, after_master, fill_of, has_fill, read_refused}
use Rattle.read_plan.specs.Standings.{stage_of, standing_after}
use Rattle.read_plan.specs.declared.end.ReadEnd.TheVariants as ended
use Rattle.read_plan.specs.declared.stages.ReadResult.{ReadResult}
use Rattle.read_plan.specs.declared.stages.ReadResult.TheVariants as came
use Rattle.read_plan.specs.declared.stages.ReadStage.{ReadStage}
use Rattle.read_plan.specs.declared.stages.ReadStage.TheVariants as stage
use Rattle.read_plan.specs.declared.standing.Given.TheVariants.{Fill, Past}
use Rattle.read_plan.specs.declared.standing.Standing.{Standing}
use Rattle.read_plan.specs.declared.standing.Standing.TheVariants.{Looking, Asking, Mastering, Keeping, Ended}
use Rattle.replies.specs.declared.calls.CallReply.TheVariants as called
use Rattle.replies.specs.declared.calls.ReadReply.{ReadReply}
use Rattle.replies.specs.declared.nodes.KeptOrNot.TheVariants.{Kept}
use Rattle.replies.specs.declared.refusals.Refusal.{Refusal}
use Rattle.replies.specs.declared.refusals.Refusal.TheVariants.{Memory}
use Rattle.replies.specs.declared.reply.Reply.{Reply}
use Rattle.replies.specs.declared.reply.Reply.TheVariants.{Called, Refused}
use Rattle.sealed_item.specs.Fills.{IsSealed, SealedItem}
use Rattle.shard_log.specs.GrowthLaws.{IsLegalIn}
use Rattle.shard_tables.specs.declared.leader_answer.LeaderAnswer.{LeaderAnswer}
use Rattle.shard_tables.specs.declared.leader_answer.LeaderAnswer.TheVariants as leads
use Rattle.shard_tables.specs.declared.read_out.ReadOut.{ReadOut}
use Rattle.shard_tables.specs.declared.read_out.ReadOut.TheVariants as out
use Rattle.tao_base.specs.Queries.{query_key, query_shard}
use Rattle.tao_base.specs.declared.id.StoreName.{StoreName}
use Rattle.tao_base.specs.declared.query.Answer.{Answer}
use Rattle.tao_base.specs.declared.query.Query.{Query}
use Rattle.tao_base.specs.EdgeTypes.{EdgeTypes}
use Rattle.tao_keeper.proofs.Later.{later_self}
use Rattle.tao_keeper.specs.KeeperState.{KeeperState}
use Rattle.tao_keeper.specs.Table.{Tables}
use Rattle.tao_link.specs.Shown.{LinkShown}
use Rattle.tao_schema.specs.Schema.{types_of}
use Rattle.topology.specs.Config.{Settings}
use Rattle.core_plans.specs.declared.reads.Tally.{Tally}
use Rattle.core_plans.specs.HeldReads.{ChangesFollowers, DoesAsk, DoesLook, DoesReadAndPasses, DoesReadStage, EndsAskAlone, EndsLegally, HasComeTo}
use Rattle.core_plans.specs.HeldReads.{EndsReadAndPasses, IsReadUnderWay, MissesNone, StandsSo, version_now, wanted_by}
use Rattle.core_plans.specs.Needs.{asked_of_read}
use Rattle.core_plans.proofs.HeldReadLemmas.{IsPast, MayEnd, asked_stands, asking, asks_plain, filled, goes_so, legally, looked_stands, looking}
use Rattle.core_plans.proofs.HeldReadLemmas.{mastered_stands, mastering, never_so, not_both, past}
use Rattle.core_plans.proofs.Missing.{store_comes}
use Rattle.core_plans.proofs.StageLemmas.{ended_read}
use Rattle.core_plans.specs.LedBy.{rules_of}

-- what a plan says of itself
pub record IsOfPlan (p : Reading) (follower : NodeName) (query : Query) (floor : ℕ) : Type 0 where
  pub follower_is : follower ≡ p.follower
  pub query_is : query ≡ p.query
  pub floor_is : floor ≡ p.floor

of_plan : (P : NodeName → Query → ℕ → Type 0) (p : Reading) (follower : NodeName) (query : Query) (floor : ℕ) → IsOfPlan p follower query floor
    → P follower query floor → P p.follower p.query p.floor
of_plan P p follower query floor is h = subst (λ f. P f p.query p.floor) is.follower_is
    (subst (λ q. P follower q p.floor) is.query_is (subst (λ n. P follower query n) is.floor_is h))

-- also once its fill is handed out
of_handed_out : (p handed : Reading) (follower : NodeName) (query : Query) (floor : ℕ) → handed ≡ fill_handed p → IsOfPlan handed follower query floor
    → IsOfPlan p follower query floor
of_handed_out p handed follower query floor out_is of = record {
  follower_is = of.follower_is ∙ ap (λ (r : Reading). r.follower) out_is;
  query_is = of.query_is ∙ ap (λ (r : Reading). r.query) out_is;
  floor_is = of.floor_is ∙ ap (λ (r : Reading). r.floor) out_is;
}

-- the fill that is handed out is right for the read as the plan told it
pub given_fill : (types : EdgeTypes) (pens : Pens) (p handed : Reading) (fill : SealedItem) (follower : NodeName) (query : Query) (floor : ℕ)
    → StandsSo types pens (wanted_by p) p.at → fill_of p.at ≡ Some fill → handed ≡ fill_handed p → IsOfPlan handed follower query floor
    → IsGivenFill types pens (wanted query floor) fill
given_fill types pens p handed fill follower query floor stands found out_is of_handed =
    let of = of_handed_out p handed follower query floor out_is of_handed in
    let given : IsGivenFill types pens (wanted_by p) fill = subst (StandsSo types pens (wanted_by p)) (filled p.at fill found) stands in
    subst (λ q. IsGivenFill types pens (wanted q floor) fill) (sym of.query_is)
    (subst (λ n. IsGivenFill types pens (wanted p.query n) fill) (sym of.floor_is) given)

-- what it took since
pub taken_since : (p q : Reading) (outcome : ReadResult) (since : Tally) (old new : World)
    → since ≡ record { calls = old.keepers.calls; carries = old.link.carries }
    → q ≡ taken outcome (new.link.carries - since.carries) (nat_lt since.calls new.keepers.calls) p
    → q ≡ taken outcome (hops_between old.link new.link) (was_called old.keepers new.keepers) p
taken_since p q outcome since old new is took =
    took ∙ ap (λ (t : Tally). taken outcome (new.link.carries - t.carries) (nat_lt t.calls new.keepers.calls) p) is

-- also where it notes before who gave it
pub taken_by : (node : NodeName) (p noted q : Reading) (outcome : ReadResult) (since : Tally) (old new : World)
    → noted ≡ given_by node p → since ≡ record { calls = old.keepers.calls; carries = old.link.carries }
    → q ≡ taken outcome (new.link.carries - since.carries) (nat_lt since.calls new.keepers.calls) noted
    → q ≡ taken outcome (hops_between old.link new.link) (was_called old.keepers new.keepers) (given_by node p)
taken_by node p noted q outcome since old new by is took =
    taken_since noted q outcome since old new is took ∙ ap (taken outcome (hops_between old.link new.link) (was_called old.keepers new.keepers)) by

-- ---- any stage

module _ (tells : Bool) (s : Settings) (p : Reading) (old new : World) (is : IsReadUnderWay tells s old.keepers.told old.fleet p)
    (on : ReadsOn tells s old new) where
  passes : (q r : Reading) (at : Standing) → p.at ≡ at → q ≡ r → DoesReadStage (rules_of tells s) at p old r new → EndsLegally tells s r new
      → ((least : ℕ) → MissesNone tells s least p old.keepers → MissesNone tells s least r new.keepers)
      → IsReadUnderWay tells s new.keepers.told new.fleet r → DoesReadAndPasses (rules_of tells s) p old q new
  passes q r at at_is q_is does legal whole read = subst (λ x. DoesReadAndPasses (rules_of tells s) p old x new) (sym q_is) (record {
    does = subst (λ a. DoesReadStage (rules_of tells s) a p old r new) (sym at_is) does;
    legal = legal;
    whole = whole;
    read = read;
    on = on;
  })

  read_on : (outcome : ReadResult) (hops : ℕ) (store : Bool)
      → StandsSo (types_of s.schema) (pens_of new.fleet.stores) (wanted_by p) (standing_after p.critical p.bound p.at outcome)
      → IsReadUnderWay tells s new.keepers.told new.fleet (taken outcome hops store p)
  read_on outcome hops store = goes_so tells s old.keepers.told new.keepers.told old.fleet new.fleet p outcome hops store is on.tables on.goes

  -- one that failed ended the read
  refused : (q : Reading) (outcome : ReadResult) (hops : ℕ) (store : Bool) (reply : Reply) (at : Standing) → p.at ≡ at
      → standing_after p.critical p.bound p.at outcome ≡ Ended (ended.Refused reply) → ((read : ReadReply) → reply ≡ Called (called.Read read) → ⊥)
      → q ≡ taken outcome hops store p → DoesReadStage (rules_of tells s) at p old (taken outcome hops store p) new
      → DoesReadAndPasses (rules_of tells s) p old q new
  refused q outcome hops store reply at at_is over no_read took does =
      let r : Reading = taken outcome hops store p in
      passes q r at at_is took does (legally tells s r new (Ended (ended.Refused reply)) over no_read)
      (λ least was told critical. subst (HasComeTo least (version_now s p new.keepers)) (sym over) tt)
      (read_on outcome hops store (subst (StandsSo (types_of s.schema) (pens_of new.fleet.stores) (wanted_by p)) (sym over) tt))

no_refusal : (refusal : Refusal) (read : ReadReply) → Refused refusal ≡ Called (called.Read read) → ⊥
no_refusal refusal read is = absurd (cc)

-- ---- a stage at its follower

-- the fleet among these nodes, with what the keepers and the link show
abbrev placed : Nodes → Fleet → KeeperState → LinkShown → World
placed around fleet keepers link = world (record around { fleet = fleet }) keepers link

-- no other node takes part in it
pub record AtFollower (tells : Bool) (s : Settings) (p : Reading) (keepers : KeeperState) (old new : Fleet) : Type 0 where
  pub masters : HaveMasterRegions s
  pub consistent : IsConsistent tells s keepers.told old
  pub read : IsReadUnderWay tells s keepers.told old p
  pub rest : new ≡ record old { followers = new.followers }
  pub fleet : IsFleetOf s new
  pub goes : GoesOn old new
  pub reaches : HaveReached keepers.told old → HaveReached keepers.told new

follower_on : (tells : Bool) (s : Settings) (p : Reading) (around : Nodes) (keepers : KeeperState) (old new : Fleet) (link : LinkShown)
    → AtFollower tells s p keepers old new → ReadsOn tells s (placed around old keepers link) (placed around new keepers link)
follower_on tells s p around keepers old new link there =
    let from : World = placed around old keepers link in
    on_after tells s from from new (on_same tells s from from refl refl refl there.consistent (λ told store. refl)
    (later_self keepers) (link_self link)) there.rest there.fleet there.goes there.reaches

-- ---- look

look_legal : (tells : Bool) (s : Settings) (p : Reading) (around : Nodes) (old new : Fleet) (keepers : KeeperState) (link : LinkShown) (look : Look)
    (ask : Option ℕ) → p.critical ≡ false → HaveMasterRegions s → AreStoresOf tells s keepers.told old.stores → query_shard p.query < s.shards
    → ChangesNode p.follower (LooksFirst (types_of s.schema) (wanted_by p) look ask) old.followers new.followers
    → new ≡ record old { followers = new.followers }
    → IsLegalLook (types_of s.schema) (pens_of new.stores) (wanted_by p) look
    → EndsLegally tells s (taken (came.Look (Ok look)) 0 false (record p { ask = ask })) (placed around new keepers link)
look_legal tells s p around old new keepers link (Hit answer version) ask plain masters are here change rest legal =
    let types = types_of s.schema in
    let shard = query_shard p.query in
    let q : Reading = taken (came.Look (Ok (Hit answer version))) 0 false (record p { ask = ask }) in
    let alone = changes_so (LooksFirst types (wanted_by p) (Hit answer version) ask) (LooksFirst types (wanted_by p) (Hit answer version) None)
    p.follower old.followers new.followers (hit_alone s (wanted_by p) answer version ask) change in
    let was = subst (λ (f : Fleet). IsLegalIn types (pens_of f.stores shard) p.query p.floor answer version) rest legal in
    let repeats = is_after (RepeatsHit types p.query answer version) (LooksFirst types (wanted_by p) (Hit answer version) None) p.follower
    old.followers new.followers alone (hit_repeats types (wanted_by p) answer version alone.from alone.to alone.by) in
    legally tells s q (placed around new keepers link) (Ended (ended.Answered answer version Kept)) (ap (λ c. after_look c (Hit answer version)) plain) (
      legal_in_log tells s keepers.told old.stores shard types p.query p.floor answer version masters are here was,
      (λ told kept place f floor first at le. repeats place f first at floor le),
    )
look_legal tells s p around old new keepers link Miss ask plain masters are here change rest legal =
    legally tells s (taken (came.Look (Ok Miss)) 0 false (record p { ask = ask })) (placed around new keepers link) Asking
    (ap (λ c. after_look c Miss) plain) tt

module _ (tells : Bool) (s : Settings) (p q : Reading) (around : Nodes) (keepers : KeeperState) (link : LinkShown)
    (old new : Fleet) (there : AtFollower tells s p keepers old new) where
  abbrev from : World
  from = placed around old keepers link

  abbrev to : World
  to = placed around new keepers link

  passes_there : (r : Reading) (at : Standing) → p.at ≡ at → q ≡ r → DoesReadStage (rules_of tells s) at p from r to → EndsLegally tells s r to
      → ((least : ℕ) → MissesNone tells s least p keepers → MissesNone tells s least r keepers)
      → IsReadUnderWay tells s keepers.told new r → DoesReadAndPasses (rules_of tells s) p from q to
  passes_there = passes tells s p from to there.read (follower_on tells s p around keepers old new link there) q

  refused_there : (outcome : ReadResult) (at : Standing) → p.at ≡ at
      → standing_after p.critical p.bound p.at outcome ≡ Ended (ended.Refused (Refused (Memory 0)))
      → q ≡ taken outcome 0 false p → DoesReadStage (rules_of tells s) at p from (taken outcome 0 false p) to
      → DoesReadAndPasses (rules_of tells s) p from q to
  refused_there outcome at at_is over =
      refused tells s p from to there.read (follower_on tells s p around keepers old new link there)
      q outcome 0 false (Refused (Memory 0)) at at_is over
      (no_refusal (Memory 0))

  -- with the ask that it opened
  read_there : (look : Look) (ask : Option ℕ) → IfSome ask (λ number. HasAsk p.follower number (query_key p.query) new.followers)
      → IsReadUnderWay tells s keepers.told new (taken (came.Look (Ok look)) 0 false (record p { ask = ask }))
  read_there look ask has = record {
    follower = there.read.follower;
    region = there.read.region;
    never_asks = never_so p.critical p.bound p.at (came.Look (Ok look)) there.read.never_asks;
    bound = there.read.bound;
    reached = there.read.reached;
    ask = has;
    stands = looked_stands (types_of s.schema) (pens_of new.stores) (wanted_by p) p.critical look;
  }

  pub looks_done : (asked : Reading) (look : Look) (ask : Option ℕ) (follower : NodeName) (query : Query) (floor : ℕ)
      → stage_of p.at ≡ stage.Look → p.critical ≡ false
      → IsOfPlan p follower query floor
      → ChangesNode follower (LooksFirst (types_of s.schema) (wanted query floor) look ask) old.followers new.followers
      → IsLegalLook (types_of s.schema) (pens_of new.stores) (wanted query floor) look
      → IfSome ask (λ number. HasAsk follower number (query_key query) new.followers)
      → asked ≡ record p { ask = ask } → q ≡ taken (came.Look (Ok look)) 0 false asked
      → DoesReadAndPasses (rules_of tells s) p from q to
  looks_done asked look ask follower query floor at plain of change legal has opened took =
      let types = types_of s.schema in
      let r : Reading = taken (came.Look (Ok look)) 0 false (record p { ask = ask }) in
      let looks = of_plan (λ f q n. ChangesNode f (LooksFirst types (wanted q n) look ask) old.followers new.followers) p follower query floor of change in
      let right = of_plan (λ f q n. IsLegalLook types (pens_of new.stores) (wanted q n) look) p follower query floor of legal in
      passes_there r Looking (looking p.at at) (took ∙ ap (taken (came.Look (Ok look)) 0 false) opened)
      (subst (λ c. DoesLook s c p from r to) (sym plain) (inl (record {
        look = look;
        ask = ask;
        looks = looks;
        rest = ap (λ f. placed around f keepers link) there.rest;
        then = refl;
      })))
      (look_legal tells s p around old new keepers link look ask plain there.masters there.consistent.stores there.read.follower.here looks there.rest right)
      (λ least was told critical. absurd (not_both p.critical plain critical))
      (read_there look ask (of_plan (λ f q n. IfSome ask (λ number. HasAsk f number (query_key q) new.followers)) p follower query floor of has))

  -- a critical one opened an ask at once
  pub asks_at_once : (asked : Reading) (ask : Option ℕ) (follower : NodeName) (query : Query) (floor : ℕ) → stage_of p.at ≡ stage.Look
      → p.critical ≡ true
      → IsOfPlan p follower query floor → ChangesNode follower (AsksAtOnce (query_key query) ask) old.followers new.followers
      → IfSome ask (λ number. HasAsk follower number (query_key query) new.followers)
      → asked ≡ record p { ask = ask } → q ≡ taken (came.Look (Ok Miss)) 0 false asked
      → DoesReadAndPasses (rules_of tells s) p from q to
  asks_at_once asked ask follower query floor at critical of change has opened took =
      let r : Reading = taken (came.Look (Ok Miss)) 0 false (record p { ask = ask }) in
      let masters : after_look p.critical Miss ≡ Mastering = ap (λ c. after_look c Miss) critical in
      let now = version_now s p keepers in
      passes_there r Looking (looking p.at at) (took ∙ ap (taken (came.Look (Ok Miss)) 0 false) opened)
      (subst (λ c. DoesLook s c p from r to) (sym critical) (record {
        ask = ask;
        asks = of_plan (λ f q n. ChangesNode f (AsksAtOnce (query_key q) ask) old.followers new.followers) p follower query floor of change;
        rest = ap (λ f. placed around f keepers link) there.rest;
        then = refl;
      }))
      (legally tells s r to Mastering masters tt)
      (λ least was told so. subst (HasComeTo least now) (sym masters) (subst (HasComeTo least now) (looking p.at at) (was told so)))
      (read_there Miss ask (of_plan (λ f q n. IfSome ask (λ number. HasAsk f number (query_key q) new.followers)) p follower query floor of has))

  -- there was no memory for the answer
  pub looks_lost : (reply : Reply) → stage_of p.at ≡ stage.Look → p.critical ≡ false → new ≡ old → reply ≡ Refused (Memory 0)
      → q ≡ taken (came.Look (Err reply)) 0 false p → DoesReadAndPasses (rules_of tells s) p from q to
  looks_lost reply at plain same said took =
      let outcome = came.Look (Err (Refused (Memory 0))) in
      refused_there outcome Looking (looking p.at at) refl (took ∙ ap (λ r. taken (came.Look (Err r)) 0 false p) said)
      (subst (λ c. DoesLook s c p from (taken outcome 0 false p) to) (sym plain)
      (inr (record { same = ap (λ f. placed around f keepers link) same; then = refl })))

  -- ---- keep

  pub keeps_done : (handed : Reading) (fill : SealedItem) (answer : Answer) (kept : KeptWhy) (follower : NodeName) (query : Query) (floor : ℕ)
      (ask : Option ℕ) → fill_of p.at ≡ Some fill → IsSealed fill → handed ≡ fill_handed p → IsOfPlan handed follower query floor → ask ≡ handed.ask
      → ChangesNode follower (KeepsFill (types_of s.schema) query (taken_fill ask fill answer kept)) old.followers new.followers
      → IsLegalIn (types_of s.schema) (pens_of new.stores (query_shard query)) query floor answer fill.version
      → q ≡ taken (came.Keep (Ok (Some (answer, kept)))) 0 false handed
      → DoesReadAndPasses (rules_of tells s) p from q to
  keeps_done handed fill answer kept follower query floor ask found sealed out_is of_handed same change legal took =
      let types = types_of s.schema in
      let shard = query_shard p.query in
      let are = there.consistent.stores in
      let here = there.read.follower.here in
      let outcome = came.Keep (Ok (Some (answer, kept))) in
      let r : Reading = taken outcome 0 false p in
      let at = filled p.at fill found in
      let of = of_handed_out p handed follower query floor out_is of_handed in
      let given : IsGivenFill types (pens_of old.stores) (wanted_by p) fill =
      subst (StandsSo types (pens_of old.stores) (wanted_by p)) at there.read.stands in
      let next : IsOfNextStage p outcome = record { stage = ap stage_of (sym at); answered = ap has_fill at } in
      let keeps = subst (λ a. ChangesNode p.follower (KeepsFill types p.query (taken_fill a fill answer kept)) old.followers new.followers)
      (same ∙ ap (λ (r : Reading). r.ask) out_is)
      (of_plan (λ f q n. ChangesNode f (KeepsFill types q (taken_fill ask fill answer kept)) old.followers new.followers) p follower query floor of change) in
      let right = of_plan (λ f q n. IsLegalIn types (pens_of new.stores (query_shard q)) q n answer fill.version) p follower query floor of legal in
      let was = subst (λ (f : Fleet). IsLegalIn types (pens_of f.stores shard) p.query p.floor answer fill.version) there.rest right in
      let again = where_told (kept_or_not kept ≡ Kept → NodeIs p.follower (RepeatsHit types p.query answer fill.version) new.followers)
      tells s keepers.told old.stores shard there.masters are here
      (λ told held. is_after (RepeatsHit types p.query answer fill.version) (KeepsFill types p.query (taken_fill p.ask fill answer kept)) p.follower
      old.followers new.followers keeps
      (filled_repeats s old new.followers p.follower (wanted_by p) p.ask fill answer kept there.consistent.fleet keeps given sealed told held)) in
      let now = version_now s p keepers in
      passes_there r (Keeping (Fill fill)) at (took ∙ ap (taken outcome 0 false) out_is ∙ (answers_are_given p outcome 0 false).fill_out next)
      (inl (record { answer = answer; kept = kept; keeps = keeps; rest = ap (λ f. placed around f keepers link) there.rest; then = refl }))
      (legally tells s r to (Ended (ended.Answered answer fill.version (kept_or_not kept))) (ap (λ a. after_keep p.bound a (Some (answer, kept))) at) (
        legal_in_log tells s keepers.told old.stores shard types p.query p.floor answer fill.version there.masters are here was,
        (λ told held place f floor first there le. again told held place f first there floor le),
      ))
      (λ least was told critical. subst (λ a. HasComeTo least now (after_keep p.bound a (Some (answer, kept)))) (sym at)
      (subst (HasComeTo least now) at (was told critical)))
      (read_on tells s p from to there.read (follower_on tells s p around keepers old new link there) outcome 0 false
      (subst (λ a. StandsSo types (pens_of new.stores) (wanted_by p) (after_keep p.bound a (Some (answer, kept)))) (sym at) tt))

  -- there was no memory for the answer
  pub keeps_lost : (handed : Reading) (fill : SealedItem) (reply : Reply) (follower : NodeName) (ask : Option ℕ) → fill_of p.at ≡ Some fill
      → handed ≡ fill_handed p → follower ≡ handed.follower → ask ≡ handed.ask → ChangesNode follower (EndsAsk ask) old.followers new.followers
      → reply ≡ Refused (Memory 0) → q ≡ taken (came.Keep (Err reply)) 0 false handed → DoesReadAndPasses (rules_of tells s) p from q to
  keeps_lost handed fill reply follower ask found out_is same one change said took =
      let ends = subst (λ a. ChangesNode p.follower (EndsAsk a) old.followers new.followers) (one ∙ ap (λ (r : Reading). r.ask) out_is)
      (subst (λ f. ChangesNode f (EndsAsk ask) old.followers new.followers) (same ∙ ap (λ (r : Reading). r.follower) out_is) change) in
      refused_there (came.Keep (Err (Refused (Memory 0)))) (Keeping (Fill fill)) (filled p.at fill found) refl
      (took ∙ ap (taken (came.Keep (Err reply)) 0 false) out_is ∙ ap (λ r. taken (came.Keep (Err r)) 0 false p) said)
      (inr (record { ends = ends; rest = ap (λ f. placed around f keepers link) there.rest; then = refl }))

pub hands_done : (tells : Bool) (s : Settings) (p q : Reading) (around : Nodes) (keepers : KeeperState) (link : LinkShown)
    (old new : Fleet) (handed : Reading) → HaveMasterRegions s → IsConsistent tells s keepers.told old → IsReadUnderWay tells s keepers.told old p
    → fill_of p.at ≡ None → stage_of p.at ≡ stage.Keep → handed ≡ fill_handed p → EndsAskAlone s handed old new → q ≡ taken (came.Keep (Ok None)) 0 false handed
    → DoesReadAndPasses (rules_of tells s) p (placed around old keepers link) q (placed around new keepers link)
hands_done tells s p q around keepers link old new handed masters consistent is none stage_is out_is ended_ask took =
    let types = types_of s.schema in
    let shard = query_shard p.query in
    let from : World = placed around old keepers link in
    let to : World = placed around new keepers link in
    let outcome = came.Keep (Ok None) in
    let r : Reading = taken outcome 0 false p in
    let there : AtFollower tells s p keepers old new =
    record {
      masters = masters;
      consistent = consistent;
      read = is;
      rest = ended_ask.rest;
      fleet = ended_ask.fleet;
      goes = ended_ask.goes;
      reaches = end_reaches keepers.told handed.follower old new ended_ask.rest handed.ask ended_ask.ends;
    } in
    let b : IsPast p.at = past types (pens_of old.stores) (wanted_by p) p.at none stage_is is.stands in
    let given = subst (StandsSo types (pens_of old.stores) (wanted_by p)) b.is is.stands in
    let next : IsOfNextStage p outcome = record { stage = ap stage_of (sym b.is); answered = ap has_fill b.is } in
    let ends = subst (λ (r : Reading). ChangesNode r.follower (EndsAsk r.ask) old.followers new.followers) out_is ended_ask.ends in
    let right = legal-grows b.note (pens_of old.stores shard) types p.query p.floor b.answer b.version given.1 given.0 in
    let now = version_now s p keepers in
    passes_there tells s p q around keepers link old new there r (Keeping (Past b.answer b.version b.total (Some b.note))) b.is
    (took ∙ ap (taken outcome 0 false) out_is ∙ (answers_are_given p outcome 0 false).fill_out next)
    (record { ends = ends; rest = ap (λ f. placed around f keepers link) ended_ask.rest; then = refl })
    (legally tells s r to (Ended (ended.Answered b.answer b.version (past_bound p.bound b.total))) (ap (λ a. after_keep p.bound a None) b.is) (
      legal_in_log tells s keepers.told old.stores shard types p.query p.floor b.answer b.version masters consistent.stores is.follower.here right,
      (λ told kept. not_past p.bound b.total _ kept),
    ))
    (λ least was told critical. subst (λ a. HasComeTo least now (after_keep p.bound a None)) (sym b.is) (subst (HasComeTo least now) b.is (was told critical)))
    (read_on tells s p from to is (follower_on tells s p around keepers old new link there) outcome 0 false
    (subst (λ a. StandsSo types (pens_of new.stores) (wanted_by p) (after_keep p.bound a None)) (sym b.is) tt))

-- ---- a stage over the link

-- what was given goes to the follower, or the read goes on
asked_on : (tells : Bool) (s : Settings) (q : Reading) (new : World) (given : LeaderAnswer) → MayEnd tells s q new (after_ask given)
asked_on tells s q new (leads.Filled fill) = tt
asked_on tells s q new (leads.Past answer version total note) = tt
asked_on tells s q new (leads.Behind version) = tt

mastered_on : (tells : Bool) (s : Settings) (q : Reading) (new : World) (read : ReadOut) → MayEnd tells s q new (after_master read)
mastered_on tells s q new (out.Filled fill) = tt
mastered_on tells s q new (out.Past answer version total note) = tt

-- the node of the master's store, as the code finds it
pub master_is : (s : Settings) (p : Reading) (at : StoreName) (shard : ℕ) (query : Query) → at ≡ master_store s shard → shard ≡ query_shard query
    → query ≡ p.query → Store at ≡ master_node s (query_shard p.query)
master_is s p at shard query is shard_is same = ap Store (is ∙ ap (master_store s) (shard_is ∙ ap query_shard same))

-- the plan notes who gave it
given_goes : (tells : Bool) (s : Settings) (tables : Tables) (f : Fleet) (node : NodeName) (p : Reading) → IsReadUnderWay tells s tables f p
    → IsReadUnderWay tells s tables f (given_by node p)
given_goes tells s tables f node p is = record {
  follower = is.follower;
  region = is.region;
  never_asks = is.never_asks;
  bound = is.bound;
  reached = is.reached;
  ask = is.ask;
  stands = is.stands;
}

module _ (tells : Bool) (s : Settings) (node : NodeName) (p q : Reading) (old new : World)
    (is : IsReadUnderWay tells s old.keepers.told old.fleet p) (on : ReadsOn tells s old new) where
  abbrev over : ReadResult → Reading
  over outcome = taken outcome (hops_between old.link new.link) (was_called old.keepers new.keepers) (given_by node p)

  -- what came of it ends nothing
  came_over : (outcome : ReadResult) (at : Standing) → p.at ≡ at → q ≡ over outcome
      → DoesReadStage (rules_of tells s) at p old (over outcome) new
      → MayEnd tells s (over outcome) new (standing_after p.critical p.bound p.at outcome)
      → ((least : ℕ) → MissesNone tells s least p old.keepers → MissesNone tells s least (over outcome) new.keepers)
      → StandsSo (types_of s.schema) (pens_of new.fleet.stores) (wanted_by p) (standing_after p.critical p.bound p.at outcome)
      → DoesReadAndPasses (rules_of tells s) p old q new
  came_over outcome at at_is took does may whole stands = passes tells s p old new is on q (over outcome) at at_is took does
      (legally tells s (over outcome) new (standing_after p.critical p.bound p.at outcome) refl may) whole
      (read_on tells s (given_by node p) old new (given_goes tells s old.keepers.told old.fleet node p is) on outcome
      (hops_between old.link new.link) (was_called old.keepers new.keepers) stands)

  pub asks_done : (given : LeaderAnswer) (follower : NodeName) (query : Query) (floor : ℕ) → stage_of p.at ≡ stage.Ask
      → node ≡ asked_of_read old.states p → IsOfPlan p follower query floor
      → IsGivenOver s (record { follower = follower; leader = node }) (wanted query floor) given old new
      → q ≡ over (came.Ask (Ok given)) → DoesReadAndPasses (rules_of tells s) p old q new
  asks_done given follower query floor at asked of gives took =
      let gave = of_plan (λ f q n. IsGivenOver s (record { follower = f; leader = node }) (wanted q n) given old new)
      p follower query floor of gives in
      came_over (came.Ask (Ok given)) Asking (asking p.at at) took
      (subst (λ n. DoesAsk s n p old (over (came.Ask (Ok given))) new) asked (inl (record { given = given; over = gave; then = refl })))
      (asked_on tells s (over (came.Ask (Ok given))) new given)
      (λ least was told critical. absurd (asks_plain p.critical p.at (asking p.at at) is.never_asks critical))
      (asked_stands (types_of s.schema) (pens_of new.fleet.stores) (wanted_by p) given gave.given_is)

  pub masters_done : (read : ReadOut) (query : Query) → stage_of p.at ≡ stage.Master → AreStoresOf tells s old.keepers.told old.fleet.stores
      → node ≡ master_node s (query_shard p.query) → query ≡ p.query → IsReadOver tells s query read old new → q ≡ over (came.Master (Ok read))
      → DoesReadAndPasses (rules_of tells s) p old q new
  masters_done read query at are master same reads took =
      let gave = subst (λ x. IsReadOver tells s x read old new) same reads in
      let r : Reading = over (came.Master (Ok read)) in
      came_over (came.Master (Ok read)) Mastering (mastering p.at at) took
      (inl (record {
        out = read;
        over = gave;
        then = ap (λ n. taken (came.Master (Ok read)) (hops_between old.link new.link)
            (was_called old.keepers new.keepers) (given_by n p)) master;
      }))
      (mastered_on tells s r new read)
      (λ least was told critical. store_comes tells s p old.keepers new.keepers old.fleet.stores read least (version_now s p new.keepers) are gave.reads told
      (subst (HasComeTo least (version_now s p old.keepers)) (mastering p.at at) (was told critical)))
      (mastered_stands (types_of s.schema) (pens_of new.fleet.stores) (wanted_by p) read (gave.given p.floor is.reached))

-- nothing was carried back, and its ask ended
module _ (tells : Bool) (s : Settings) (p q : Reading) (old mid : World) (end : Fleet)
    (is : IsReadUnderWay tells s old.keepers.told old.fleet p) (on : ReadsOn tells s old mid) (ends : EndsAskAlone s p mid.fleet end)
    (refusal : Refusal) where
  abbrev new : World
  new = record mid { fleet = end }

  abbrev lost : ReadResult → Reading
  lost outcome = taken outcome (hops_between old.link mid.link) (was_called old.keepers mid.keepers) p

  -- no node but the read's follower changed since
  alone : ChangesFollowers mid new
  alone = ap (λ f. record mid { fleet = f }) ends.rest

  lost_over : (outcome : ReadResult) (at : Standing) → p.at ≡ at
      → standing_after p.critical p.bound p.at outcome ≡ Ended (ended.Refused (Refused refusal))
      → q ≡ lost outcome → DoesReadStage (rules_of tells s) at p old (lost outcome) new → DoesReadAndPasses (rules_of tells s) p old q new
  lost_over outcome at at_is over =
      refused tells s p old new is (on_after tells s old mid end on ends.rest ends.fleet ends.goes
      (end_reaches mid.keepers.told p.follower mid.fleet end ends.rest p.ask ends.ends)) q outcome (hops_between old.link mid.link)
      (was_called old.keepers mid.keepers) (Refused refusal) at at_is over (no_refusal refusal)

  pub asks_lost : (node follower : NodeName) (query : Query) (floor : ℕ) → stage_of p.at ≡ stage.Ask → node ≡ asked_of_read old.states p
      → IsOfPlan p follower query floor → IsNotGiven s (record { follower = follower; leader = node }) (wanted query floor) refusal old mid
      → q ≡ lost (came.Ask (Err (Refused refusal))) → DoesReadAndPasses (rules_of tells s) p old q new
  asks_lost node follower query floor at asked of vain took =
      let not = of_plan (λ f q n. IsNotGiven s (record { follower = f; leader = node }) (wanted q n) refusal old mid)
      p follower query floor of vain in
      let outcome = came.Ask (Err (Refused refusal)) in
      lost_over outcome Asking (asking p.at at) refl took
      (subst (λ n. DoesAsk s n p old (lost outcome) new) asked
      (inr (record { refusal = refusal; mid = mid; fails = not; ends = ends.ends; rest = alone; then = refl })))

  pub masters_lost : (follower : NodeName) (query : Query) (floor : ℕ) → stage_of p.at ≡ stage.Master → IsOfPlan p follower query floor
      → IsNotRead s follower query refusal old mid → q ≡ lost (came.Master (Err (Refused refusal))) → DoesReadAndPasses (rules_of tells s) p old q new
  masters_lost follower query floor at of vain took =
      let not = of_plan (λ f q n. IsNotRead s f q refusal old mid) p follower query floor of vain in
      lost_over (came.Master (Err (Refused refusal))) Mastering (mastering p.at at) refl took
      (inr (record { refusal = refusal; mid = mid; fails = not; ends = ends.ends; rest = alone; then = refl }))

-- ---- in place of a stage

-- it ends with that reply, and its ask too
pub ends_over : (tells : Bool) (s : Settings) (p q : Reading) (around : Nodes) (keepers : KeeperState) (link : LinkShown) (end : Fleet) (reply : Reply)
    (next : ReadStage) (came_to : ReadResult) → IsConsistent tells s keepers.told around.fleet → IsReadUnderWay tells s keepers.told around.fleet p
    → EndsAskAlone s p around.fleet end → next ≡ stage_of p.at → came_to ≡ read_refused next reply → q ≡ taken came_to 0 false p
    → EndsReadAndPasses (rules_of tells s) reply p (world around keepers link) q (world (record around { fleet = end }) keepers link)
ends_over tells s p q around keepers link end reply next came_to consistent is ends next_is refused took =
    let old : World = world around keepers link in
    let new : World = world (record around { fleet = end }) keepers link in
    let outcome = read_refused (stage_of p.at) reply in
    let then : q ≡ taken outcome 0 false p =
    took ∙ ap (λ o. taken o 0 false p) (refused ∙ ap (λ n. read_refused n reply) next_is) in
    let on : ReadsOn tells s old new =
    on_after tells s old old end (on_same tells s old old refl refl refl consistent (λ told store. refl) (later_self keepers) (link_self link))
    ends.rest ends.fleet ends.goes (end_reaches keepers.told p.follower around.fleet end ends.rest p.ask ends.ends) in
    record {
      ends = record { ends = ends.ends; rest = ap (λ f. record old { fleet = f }) ends.rest; then = then };
      read = subst (IsReadUnderWay tells s keepers.told end) (sym then) (read_on tells s p old new is on outcome 0 false
          (subst (StandsSo (types_of s.schema) (pens_of end.stores) (wanted_by p)) (sym (ended_read (stage_of p.at) reply p 0 false)) tt));
      on = on;
    }
