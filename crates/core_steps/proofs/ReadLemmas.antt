-- What the stages of a read keep, and what the log of its shard is.
use Rattle.std.proofs.Common.{◌≡◌, ℕ, ◌≤◌, ◌<◌, Bool, List, ap, sym, ◌∙◌, subst, inl, inr}
use Rattle.std.proofs.lemmas.Bool.{cases_Bool, ltb-false, ltb-true}
use Rattle.std.specs.Prelude.{nat_lt}
use Rattle.core_model.proofs.AsksOn.{asks_go_on}
use Rattle.core_model.proofs.FoundStores.{master_found, named_stands}
use Rattle.core_model.proofs.MarkingOn.{marks_go_on}
use Rattle.core_model.proofs.NamedNodes.{each_on}
use Rattle.core_model.specs.Asks.{AsksGoOn}
use Rattle.core_model.specs.Consistent.{GoesOn, HaveReached, IsConsistent, IsFleetOf, MarksGoOn}
use Rattle.core_model.specs.Fleet.{Fleet}
use Rattle.core_model.specs.Pens.{Pens, pens_of, view_or_none}
use Rattle.core_model.specs.Reads.{IsGivenAnswer, given_of, wanted}
use Rattle.core_model.specs.Stores.{AreStoresOf, HaveMasterRegions, IsConfiguredStore, master_log, master_store, store_place}
use Rattle.core_nodes.proofs.FleetLemmas.{goes_self}
use Rattle.core_nodes.specs.Settling.{IsLaterLink}
use Rattle.core_model.specs.follower_cache.Seen.{FollowerState}
use Rattle.graph_model.specs.Legal.{IsLegal}
use Rattle.graph_model.specs.Told.{WhereTold}
use Rattle.core_model.specs.leader_tier.LeaderReads.{at_floor}
use Rattle.shard_log.proofs.GrowthLemmas.{grows-trans}
use Rattle.shard_log.specs.GrowthLaws.{IsLegalIn}
use Rattle.shard_log.specs.View.{View}
use Rattle.shard_tables.specs.StoreView.{Store}
use Rattle.shard_tables.specs.Stores.{HasSeen}
use Rattle.shard_tables.specs.declared.read_out.ReadOut.{ReadOut}
use Rattle.shard_tables.specs.declared.read_out.ReadOut.TheVariants as store
use Rattle.shard_tables.specs.declared.store.StoreRole.TheVariants.{Master}
use Rattle.tao_base.specs.EdgeTypes.{EdgeTypes}
use Rattle.tao_base.specs.declared.entry.Entry.{Entry}
use Rattle.tao_base.specs.declared.query.Answer.{Answer}
use Rattle.tao_base.specs.declared.query.Query.{Query}
use Rattle.tao_keeper.specs.KeeperState.{IsLater, KeeperState, KeepsTables}
use Rattle.tao_keeper.specs.Table.{Tables}
use Rattle.topology.specs.Config.{Settings}
use Rattle.core_steps.specs.ReadSteps.{ReadsOn}
use Rattle.core_steps.specs.World.{World}
use Rattle.core_steps.proofs.ReachLemmas.{consistent_on}

-- ---- one step after another

pub goes_trans : (a b c : Fleet) → GoesOn a b → GoesOn b c → GoesOn a c
goes_trans a b c p q = record {
  rise = λ shard. grows-trans (pens_of a.stores shard) (pens_of b.stores shard) (pens_of c.stores shard) (p.rise shard) (q.rise shard);
  leaders = q.leaders ∙ p.leaders;
  followers = q.followers ∙ p.followers;
  asks = each_on (λ (from to : FollowerState). AsksGoOn from.node.asks to.node.asks) a.followers b.followers c.followers
      (λ from mid to. asks_go_on from.node.asks mid.node.asks to.node.asks) p.asks q.asks;
  marks = record {
    leaders = each_on MarksGoOn a.leaders b.leaders c.leaders marks_go_on p.marks.leaders q.marks.leaders;
    followers = each_on (λ (from to : FollowerState). MarksGoOn from.node to.node) a.followers b.followers c.followers
        (λ from mid to. marks_go_on from.node mid.node to.node) p.marks.followers q.marks.followers;
  };
}

-- a step that leaves the nodes goes on
pub on_same : (tells : Bool) (s : Settings) (old new : World) → new.fleet ≡ old.fleet → new.inboxes ≡ old.inboxes → new.states ≡ old.states
    → IsConsistent tells s new.keepers.told new.fleet → KeepsTables tells old.keepers new.keepers → IsLater old.keepers new.keepers
    → IsLaterLink old.link new.link → ReadsOn tells s old new
on_same tells s old new same inboxes states consistent tables later link = record {
  consistent = consistent;
  goes = subst (GoesOn old.fleet) (sym same) (goes_self old.fleet);
  inboxes = inboxes;
  states = states;
  tables = tables;
  later = later;
  link = link;
}

-- and the step goes on to there, where only a follower changes after it
pub on_after : (tells : Bool) (s : Settings) (old mid : World) (end : Fleet) → ReadsOn tells s old mid → end ≡ record mid.fleet { followers = end.followers }
    → IsFleetOf s end → GoesOn mid.fleet end → (HaveReached mid.keepers.told mid.fleet → HaveReached mid.keepers.told end)
    → ReadsOn tells s old (record mid { fleet = end })
on_after tells s old mid end on rest fleet goes reaches = record {
  consistent = consistent_on tells s mid.keepers.told mid.fleet end (ap (λ (f : Fleet). f.stores) rest) fleet reaches on.consistent;
  goes = goes_trans old.fleet mid.fleet end on.goes goes;
  inboxes = on.inboxes;
  states = on.states;
  tables = on.tables;
  later = on.later;
  link = on.link;
}

-- ---- the log of a shard is what its pen has seen

pub record IsLogOf (tells : Bool) (s : Settings) (tables : Tables) (stores : List Store) (shard : ℕ) : Type 0 where
  pub told_is : (pens_of stores shard).log.told ≡ tells
  pub entries_is : WhereTold tells ((pens_of stores shard).entries ≡ master_log s tables shard)

pub log_is : (tells : Bool) (s : Settings) (tables : Tables) (stores : List Store) (shard : ℕ) → HaveMasterRegions s → AreStoresOf tells s tables stores
    → shard < s.shards → IsLogOf tells s tables stores shard
log_is tells s tables stores shard regions are here =
    let at : IsConfiguredStore s (master_store s shard) = record { region = regions shard; shard = here } in
    let there = named_stands s stores are.configured (master_store s shard) at in
    let master = master_found s stores are.configured shard there.0 there.1 in
    let own = are.seen (store_place s (master_store s shard)) there.0 there.1.stands in
    let pen : pens_of stores shard ≡ there.0.view = ap view_or_none master.1 in
    record {
      told_is = ap (λ (v : View). v.log.told) pen ∙ own.told_is;
      entries_is = λ told.
          let seen : HasSeen Master (tables there.0.name).log there.0.view.entries =
          subst (λ r. HasSeen r (tables there.0.name).log there.0.view.entries) master.0 (own.seen told) in
          ap (λ (v : View). v.entries) pen ∙ seen ∙ ap (λ n. (tables n).log) there.1.name_is;
    }

-- what is so where the pen's log is told, is so where the tables are
pub where_told : (P : Type 0) (tells : Bool) (s : Settings) (tables : Tables) (stores : List Store) (shard : ℕ) → HaveMasterRegions s
    → AreStoresOf tells s tables stores → shard < s.shards → WhereTold (pens_of stores shard).log.told P → WhereTold tells P
where_told P tells s tables stores shard regions are here is told = is ((log_is tells s tables stores shard regions are here).told_is ∙ told)

-- what is legal in the pen's view is legal in the log
pub legal_in_log : (tells : Bool) (s : Settings) (tables : Tables) (stores : List Store) (shard : ℕ) (types : EdgeTypes) (query : Query) (floor : ℕ)
    (answer : Answer) (version : ℕ) → HaveMasterRegions s → AreStoresOf tells s tables stores → shard < s.shards
    → IsLegalIn types (pens_of stores shard) query floor answer version
    → WhereTold tells (IsLegal types (master_log s tables shard) query floor answer version)
legal_in_log tells s tables stores shard types query floor answer version regions are here is told =
    let log = log_is tells s tables stores shard regions are here in
    subst (λ (l : List Entry). IsLegal types l query floor answer version) (log.entries_is told) (is (log.told_is ∙ told))

-- ---- what a store gives in the place of a leader

-- what was read is right with no floor, and so at the read's floor, or is answered as behind
pub right_at_floor : (types : EdgeTypes) (pens : Pens) (query : Query) (floor : ℕ) (out : ReadOut)
    → IsGivenAnswer types pens (wanted query 0) (given_of out) → IsGivenAnswer types pens (wanted query floor) (at_floor floor out)
right_at_floor types pens query floor (store.Filled fill) is = elim (cases_Bool (nat_lt fill.version floor)) [
  | inl behind ↦ rw behind (ltb-true fill.version floor behind)
  | inr reached ↦
      let least : floor ≤ fill.version = ltb-false fill.version floor reached in
      rw reached (record { key_is = is.key_is; decides = is.decides; within = is.within; reaches = λ told. least; seen = is.seen })
]
right_at_floor types pens query floor (store.Past answer version total note) is = elim (cases_Bool (nat_lt version floor)) [
  | inl behind ↦ rw behind (ltb-true version floor behind)
  | inr reached ↦
      let least : floor ≤ version = ltb-false version floor reached in
      rw reached ((λ told. let legal = is.0 told in record { n = legal.n; answers = legal.answers; version_is = legal.version_is; reached = least }), is.1)
]
