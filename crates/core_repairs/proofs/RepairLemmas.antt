-- What the stages of a repair come to.
use Rattle.std.proofs.Common.{◌≡◌, ◌∙◌, ℕ, ◌≤◌, ◌<◌, Bool, List, Option, Some, None, Result, Ok, Err, IfSome, ap, refl, sym, subst, inl, inr}
use Rattle.counts.proofs.Rises.{Rose-earlier}
use Rattle.counts.specs.Count.{Rose}
use Rattle.edge_repair.specs.declared.refusal.RepairRefusal.{RepairRefusal}
use Rattle.edge_repair.specs.declared.refusal.RepairRefusal.TheVariants.{KeeperFault, LinkFault, LogFull, OutOfMemory}
use Rattle.edge_repair.specs.declared.repairs.RepairOutcome.{RepairOutcome}
use Rattle.graph_model.proofs.Later.{all_append}
use Rattle.graph_model.specs.Told.{WhereTold}
use Rattle.maint_msg.specs.Maints.{SeenMaint}
use Rattle.replies.specs.declared.refusals.Refusal.{Refusal}
use Rattle.replies.specs.declared.refusals.Refusal.TheVariants.{Memory, Store as OfStore}
use Rattle.replies.specs.declared.refusals.StoreRefused.TheVariants as refused
use Rattle.shard_log.specs.View.{View}
use Rattle.shard_tables.specs.Refusals.{IsOfReads}
use Rattle.shard_tables.specs.StoreView.{Store}
use Rattle.shard_tables.specs.Written.{StandsIn}
use Rattle.shard_tables.specs.declared.refusal.StoreRefusal.{StoreRefusal}
use Rattle.shard_tables.specs.declared.refusal.StoreRefusal.TheVariants as store
use Rattle.tao_base.specs.declared.entry.Entry.{Entry}
use Rattle.tao_keeper.proofs.Later.{later_self}
use Rattle.tao_keeper.specs.KeeperState.{IsLater, KeeperState, KeepsTables}
use Rattle.tao_keeper.specs.Table.{IsLeastJob, Tables}
use Rattle.tao_keeper.specs.declared.jobs.Job.{Job}
use Rattle.tao_link.specs.Shown.{LinkShown}
use Rattle.topology.specs.Choices.{master_region}
use Rattle.topology.specs.Config.{Settings}
use Rattle.topology.specs.States.{NodeStates}
use Rattle.core_steps.proofs.core_mail_lemmas.Arrivals.{arrived_stay, notified_of_store}
use Rattle.core_steps.proofs.core_mail_lemmas.InboxLemmas.{inboxes_stay}
use Rattle.core_steps.specs.core_mail.Inboxes.{AreInboxesOf, HaveArrived, Inboxes, Sends, entry_message}
use Rattle.core_model.specs.Consistent.{GoesOn, IsConsistent}
use Rattle.core_model.specs.Fleet.{Fleet}
use Rattle.core_model.specs.Growing.{StoresGrow}
use Rattle.core_model.specs.Jobs.{IsFirstJobOf, ShardJob, job_on}
use Rattle.core_model.specs.Messages.{IsOfStore, notified_besides, notified_of}
use Rattle.core_model.specs.Pens.{pens_of}
use Rattle.core_model.specs.States.{AreStatesOf}
use Rattle.core_model.specs.Stores.{AreStoresOf, HaveMasterRegions, master_store, store_length}
use Rattle.core_steps.proofs.core_nodes_lemmas.FleetLemmas.{goes_self}
use Rattle.core_steps.proofs.core_nodes_lemmas.GrowingLemmas.{stays_stores}
use Rattle.core_steps.specs.core_nodes.Repairs.{ComesBack, MergesFar, carry_back, carry_there}
use Rattle.core_steps.specs.core_nodes.Outside.{Outside, outside}
use Rattle.core_steps.specs.core_nodes.Settling.{IsLaterLink}
use Rattle.core_steps.proofs.LinkLemmas.{both_carries, failed_back, failed_carry, link_self}
use Rattle.core_steps.proofs.PostsLemmas.{posts_same}
use Rattle.core_steps.proofs.NotifyLemmas.{arrived_grows, master_is, sends_both, within_master}
use Rattle.core_steps.specs.Posting.{CanPost, PostsOn}
use Rattle.core_steps.specs.ReadSteps.{AskFails}
use Rattle.store_replies.specs.Refused.{refused_as}
use Rattle.core_steps.specs.World.{World, outside_of, world, world_with}
use Rattle.core_steps.specs.declared.nodes.Nodes.{Nodes}
use Rattle.core_repairs.specs.Repairs.{FailsAs, FailsToMerge, FindsFirst, FindsOpenJob, IsMergedAlone, IsNotRepaired, IsNotRun}
use Rattle.core_repairs.specs.Repairs.{LeavesRest, OnlyAsks, RunsJob, StopsRepair, NotifiesOfRepair}
use Rattle.core_repairs.specs.Repairs.{notified_of_repair, refused_for}

-- ---- who is notified

-- the followers and then the leader are notified
pub notified_repair : (states : NodeStates) (shard : ℕ) (wrote : Option Entry) (e : Entry) (note again : View) (old mid new : Inboxes) → wrote ≡ Some e
    → again ≡ note → Sends (notified_of states (master_region states shard) shard) (entry_message shard e note) old mid
    → Sends (notified_besides states shard) (entry_message shard e again) mid new → NotifiesOfRepair states shard wrote old new
notified_repair states shard wrote e note again old mid new is same one two =
    let more = subst (λ n. Sends (notified_besides states shard) (entry_message shard e n) mid new) same two in
    let told : NotifiesOfRepair states shard (Some e) old new = (
      note,
      sends_both (notified_of states (master_region states shard) shard) (notified_besides states shard) (entry_message shard e note) old mid new one more,
    ) in
    subst (λ found. NotifiesOfRepair states shard found old new) (sym is) told

-- the stores of their region have come to it
arrived_repair : (tells : Bool) (s : Settings) (tables : Tables) (stores : List Store) (shard : ℕ) (states : NodeStates) (wrote : Option Entry)
    (old new : Inboxes) → HaveMasterRegions s → AreStoresOf tells s tables stores → shard < s.shards → AreStatesOf s states
    → IfSome wrote (StandsIn (pens_of stores shard)) → NotifiesOfRepair states shard wrote old new → WhereTold tells (HaveArrived tables old)
    → WhereTold tells (HaveArrived tables new)
arrived_repair tells s tables stores shard states None old new regions are here of stands sent have =
    subst (λ i. WhereTold tells (HaveArrived tables i)) (sym sent) have
arrived_repair tells s tables stores shard states (Some e) old new regions are here of stands sent have = λ told.
    let m : SeenMaint = entry_message shard e sent.0 in
    let within = subst (λ r. e.position ≤ store_length tables r shard) (sym (master_is s states shard of.masters))
    (within_master tells s tables stores shard regions are here e stands told) in
    let by = notified_of_store tables states shard m in
    (arrived_stay tables).sends (notified_of_repair states shard) m old new sent.1
    (all_append (λ name. IsOfStore tables name m) (notified_of states (master_region states shard) shard) (notified_besides states shard)
    (by.of (master_region states shard) within) (by.besides within)) (have told)

-- ---- the first job

module _ (tells : Bool) (s : Settings) (shard : ℕ) (old new : KeeperState) where
  pub finds_first : (found : Option Job) → WhereTold tells (IsLeastJob (old.told (master_store s shard)).jobs found)
      → WhereTold tells (IfSome found (λ job. IsFirstJobOf s new.told (job_on shard job))) → KeepsTables tells old new
      → FindsFirst tells s shard (Ok found) old new
  finds_first None least first stays = (least, stays)
  finds_first (Some job) least first stays = record { first = first; tables = stays }

  asks_fail : (refusal : StoreRefusal) → IsOfReads refusal → (refusal ≡ store.KeeperFault → Rose old.faults new.faults)
      → AskFails (refused_as new.faults refusal) old new
  asks_fail store.KeeperFault of cause = (refl, cause refl)
  asks_fail store.OutOfMemory of cause = refl
  asks_fail (store.LogFull count) of cause = absurd of
  asks_fail (store.ShardFull serial) of cause = absurd of
  asks_fail (store.StampFull number) of cause = absurd of
  asks_fail (store.TooOld cut position) of cause = absurd of
  asks_fail (store.SeqReused position) of cause = absurd of

  pub refuses_first : (refusal : StoreRefusal) (given : Refusal) (faults : ℕ) → given ≡ refused_as faults refusal → faults ≡ new.faults
      → IsOfReads refusal → KeepsTables tells old new → (refusal ≡ store.KeeperFault → Rose old.faults new.faults)
      → FindsFirst tells s shard (Err given) old new
  refuses_first refusal given faults is counted of stays cause =
      let told : given ≡ refused_as new.faults refusal = is ∙ ap (λ n. refused_as n refusal) counted in
      (subst (λ r. AskFails r old new) (sym told) (asks_fail refusal of cause), stays)

-- ---- the merge, and the end

module _ (tells : Bool) (s : Settings) (j : ShardJob) (old new : Outside) where
  not_merged : (refusal : RepairRefusal) → MergesFar tells s j (Err refusal) old new
      → (refusal ≡ KeeperFault → Rose old.keepers.faults new.keepers.faults) → RunsJob tells s j (Err refusal) old new
  not_merged KeeperFault merges cause = (cause refl, inl merges)
  not_merged LinkFault merges cause = merges
  not_merged (LogFull count) merges cause = merges
  not_merged OutOfMemory merges cause = inl merges

  pub refuses_merge : (refusal failed : RepairRefusal) → failed ≡ refusal → MergesFar tells s j (Err refusal) old new
      → (refusal ≡ KeeperFault → Rose old.keepers.faults new.keepers.faults) → RunsJob tells s j (Err failed) old new
  refuses_merge refusal failed is merges cause = subst (λ f. RunsJob tells s j (Err f) old new) (sym is) (not_merged refusal merges cause)

  pub refuses_end : (refusal : StoreRefusal) (failed : RepairRefusal) → FailsAs refusal failed → IsMergedAlone tells s j old new
      → (refusal ≡ store.KeeperFault → Rose old.keepers.faults new.keepers.faults) → RunsJob tells s j (Err failed) old new
  refuses_end store.KeeperFault failed is alone cause =
      let runs : RunsJob tells s j (Err KeeperFault) old new = (cause refl, inr alone) in
      subst (λ f. RunsJob tells s j (Err f) old new) (sym is) runs
  refuses_end store.OutOfMemory failed is alone cause =
      let runs : RunsJob tells s j (Err OutOfMemory) old new = inr alone in
      subst (λ f. RunsJob tells s j (Err f) old new) (sym is) runs
  refuses_end (store.LogFull count) failed is alone cause = absurd is
  refuses_end (store.ShardFull serial) failed is alone cause = absurd is
  refuses_end (store.StampFull number) failed is alone cause = absurd is
  refuses_end (store.TooOld cut position) failed is alone cause = absurd is
  refuses_end (store.SeqReused position) failed is alone cause = absurd is

-- ---- both, seen from the core

-- of the nodes that were asked only stores changed
pub leaves_rest : (was new : Nodes) (asked : Fleet) (before after : KeeperState) (from to : LinkShown) → asked ≡ was.fleet
    → new ≡ record was { fleet = record asked { stores = new.fleet.stores } } → LeavesRest (world was before from) (world new after to)
leaves_rest was new asked before after from to same rest = record {
  caches = record {
    fleet = subst (λ (f : Fleet). new.fleet ≡ record f { stores = new.fleet.stores }) same (ap (λ (n : Nodes). n.fleet) rest);
    states = ap (λ (n : Nodes). n.topology) rest;
  };
  inboxes = ap (λ (n : Nodes). n.mail) rest;
}

module _ (tells : Bool) (s : Settings) (shard : ℕ) (old new : World) where
  -- it was not found, or memory was wanting before it was merged
  pub not_begun : (refusal : Refusal) → AskFails refusal old.keepers new.keepers → OnlyAsks tells old new → IsNotRepaired tells s shard refusal old new
  not_begun (OfStore (refused.KeeperFault count)) fails asks = (fails.0, fails.1, inl asks)
  not_begun (Memory position) fails asks = (fails, inl asks)
  not_begun refusal fails asks = absurd fails

  module _ (job : Job) (found : KeeperState) (finds : FindsOpenJob tells s shard job old.keepers found) where
    -- it was not run
    module _ (rest : LeavesRest old new) where
      fails_merge : (refusal : RepairRefusal) → MergesFar tells s (job_on shard job) (Err refusal) (outside found old.link) (outside_of new)
          → FailsToMerge tells s shard refusal old new
      fails_merge refusal merges = record { job = job; found = found; finds = finds; merges = merges; rest = rest }

      stops : (refusal : RepairRefusal) → IsNotRun tells s (job_on shard job) refusal (outside found old.link) (outside_of new)
          → StopsRepair tells s shard refusal old new
      stops refusal (inl merges) = inr (inl (fails_merge refusal merges))
      stops refusal (inr alone) = inr (inr (record {
        ran = record { job = job; wrote = alone.wrote };
        found = found;
        merged = alone.merged;
        finds = finds;
        merges = alone.merges;
        stays = alone.stays;
        rest = rest;
      }))

      told_so : (failed : RepairRefusal) → RunsJob tells s (job_on shard job) (Err failed) (outside found old.link) (outside_of new)
          → IsLater old.keepers found → IsNotRepaired tells s shard (refused_for new.keepers.faults new.link.faults failed) old new
      told_so KeeperFault runs later = (
        refl,
        Rose-earlier old.keepers.faults found.faults new.keepers.faults later.faults runs.0,
        stops KeeperFault runs.1,
      )
      told_so LinkFault runs later = (refl, refl, fails_merge LinkFault runs)
      told_so (LogFull count) runs later = fails_merge (LogFull count) runs
      told_so OutOfMemory runs later = (refl, stops OutOfMemory runs)

      pub not_run : (failed : RepairRefusal) (given : Refusal) (keeper_faults link_faults : ℕ) → given ≡ refused_for keeper_faults link_faults failed
          → keeper_faults ≡ new.keepers.faults → link_faults ≡ new.link.faults
          → RunsJob tells s (job_on shard job) (Err failed) (outside found old.link) (outside_of new)
          → IsLater old.keepers found → IsNotRepaired tells s shard given old new
      not_run failed given keeper_faults link_faults is keepers link runs later =
          let told : given ≡ refused_for new.keepers.faults new.link.faults failed =
          is ∙ ap (λ n. refused_for n link_faults failed) keepers ∙ ap (λ n. refused_for new.keepers.faults n failed) link in
          subst (λ r. IsNotRepaired tells s shard r old new) (sym told) (told_so failed runs later)

-- ---- the link

link_back : (s : Settings) (j : ShardJob) (old new : LinkShown) → ComesBack s j old new → IsLaterLink old new
link_back s j old new (inl whole) = both_carries old new whole
link_back s j old new (inr fails) = failed_back (carry_back s j) old new fails

-- a merge from store to store, whatever came of it
pub merges_on : (tells : Bool) (s : Settings) (j : ShardJob) (result : Result RepairOutcome RepairRefusal) (old new : Outside)
    → MergesFar tells s j result old new → IsLaterLink old.link new.link
merges_on tells s j (Ok repaired) old new merges = both_carries old.link new.link merges.1
merges_on tells s j (Err KeeperFault) old new merges = link_back s j old.link new.link merges.1
merges_on tells s j (Err (LogFull count)) old new merges = link_back s j old.link new.link merges.2
merges_on tells s j (Err OutOfMemory) old new merges = link_back s j old.link new.link merges.1
merges_on tells s j (Err LinkFault) old new (inl there) = failed_carry (carry_there s j) old.link new.link there.0
merges_on tells s j (Err LinkFault) old new (inr back) = failed_back (carry_back s j) old.link new.link back.0

-- ---- what each stage keeps

module _ (tells : Bool) (s : Settings) (was : Nodes) (before after : KeeperState) (fleet : Fleet) where
  -- keepers were asked
  pub posts_asked : (link : LinkShown) → CanPost tells s (world was before link) → fleet ≡ was.fleet → KeepsTables tells before after
      → IsConsistent tells s after.told fleet → IsLater before after
      → PostsOn tells s (world was before link) (world_with fleet was.mail was.topology after link)
  posts_asked link ready same tables consistent later =
      posts_same tells s (world was before link) (world_with fleet was.mail was.topology after link) ready.inboxes ready.arrived same refl refl consistent
      (stays_stores tells s before after tables) later (link_self link)

  -- stores went on
  pub posts_merged : (from to : LinkShown) → CanPost tells s (world was before from) → IsConsistent tells s after.told fleet → GoesOn was.fleet fleet
      → StoresGrow tells s before.told after.told → IsLater before after → IsLaterLink from to
      → PostsOn tells s (world was before from) (world_with fleet was.mail was.topology after to)
  posts_merged from to ready consistent goes grows later link = record {
    consistent = consistent;
    inboxes = (inboxes_stay s (pens_of was.fleet.stores) was.mail).rises (pens_of fleet.stores) goes.rise ready.inboxes;
    arrived = arrived_grows tells before.told after.told was.mail grows.on.logs ready.arrived;
    states = refl;
    goes = goes;
    grows = grows;
    later = later;
    link = link;
  }

-- those who see a shard's log were notified of what was written there
pub posts_notified : (tells : Bool) (s : Settings) (was new : Nodes) (keepers : KeeperState) (link : LinkShown) (shard : ℕ) (wrote : Option Entry)
    → CanPost tells s (world was keepers link) → HaveMasterRegions s → shard < s.shards → IfSome wrote (StandsIn (pens_of was.fleet.stores shard))
    → NotifiesOfRepair was.topology shard wrote was.mail new.mail → AreInboxesOf s (pens_of was.fleet.stores) new.mail
    → new ≡ record was { mail = new.mail } → PostsOn tells s (world was keepers link) (world new keepers link)
posts_notified tells s was new keepers link shard wrote ready regions here stands told inboxes rest =
    let is : PostsOn tells s (world was keepers link) (world_with was.fleet new.mail was.topology keepers link) = record {
      consistent = ready.consistent;
      inboxes = inboxes;
      arrived = arrived_repair tells s keepers.told was.fleet.stores shard was.topology wrote was.mail new.mail regions ready.consistent.stores here
          ready.states stands told ready.arrived;
      states = refl;
      goes = goes_self was.fleet;
      grows = stays_stores tells s keepers keepers (λ told at. refl);
      later = later_self keepers;
      link = link_self link;
    } in
    subst (λ (n : Nodes). PostsOn tells s (world was keepers link) (world n keepers link)) (sym rest) is
