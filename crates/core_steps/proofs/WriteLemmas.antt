-- What the commit of a write makes of its reply, and of the nodes.
use Rattle.std.proofs.Common.{◌≡◌, ℕ, Bool, Option, Some, None, Err, IfSome, refl, sym, ap, subst, ◌∙◌}
use Rattle.counts.specs.Count.{Rose}
use Rattle.graph_model.specs.Told.{WhereTold}
use Rattle.shard_log.proofs.GrowthLemmas.{entry_stays}
use Rattle.shard_log.specs.View.{View}
use Rattle.shard_tables.specs.Written.{StandsIn, WriteAnswers}
use Rattle.shard_tables.specs.declared.refusal.StoreRefusal.{StoreRefusal}
use Rattle.shard_tables.specs.declared.refusal.StoreRefusal.TheVariants as store
use Rattle.tao_base.specs.declared.entry.Entry.{Entry}
use Rattle.topology.specs.Config.{Settings}
use Rattle.topology.specs.States.{NodeStates}
use Rattle.core_mail.specs.Inboxes.{Inboxes, Sends, entry_message}
use Rattle.core_model.specs.Messages.{notified_by}
use Rattle.core_model.specs.Pens.{IsSeen, Pens}
use Rattle.core_model.specs.Writes.{IsSeenEntry}
use Rattle.node_name.specs.declared.NodeName.{NodeName}
use Rattle.core_steps.specs.Posting.{NotifiesOfNew}
use Rattle.core_steps.specs.World.{World}
use Rattle.store_replies.specs.Refused.{refused_as}
use Rattle.core_model.specs.Asked.{AuthoredWrite}
use Rattle.core_steps.specs.Writes.{RefusesCommit, RefusesThere, asked_of_log, sent_write}
use Rattle.core_steps.specs.declared.routes.Route.{Route}
use Rattle.core_model.specs.Fleet.{Fleet}
use Rattle.core_steps.specs.declared.nodes.Nodes.{Nodes}

-- ---- committed

-- an entry that stands in what was seen of its shard's log was seen there
pub seen_there : (pens : Pens) (shard : ℕ) (note : View) (entry : Option Entry) → IsSeen pens shard note → IfSome entry (StandsIn note)
    → IfSome entry (IsSeenEntry pens shard note)
seen_there pens shard note None seen stands = tt
seen_there pens shard note (Some e) seen stands = record { seen = seen; stands = stands }

-- so it does in the shard's log
pub stands_in_log : (pens : Pens) (shard : ℕ) (note : View) (entry : Option Entry) → IfSome entry (IsSeenEntry pens shard note)
    → IfSome entry (StandsIn (pens shard))
stands_in_log pens shard note None seen = tt
stands_in_log pens shard note (Some e) seen = λ told.
    entry_stays note (pens shard) e.position e seen.seen (seen.stands (ap (λ l. l.told) (sym seen.seen.log_is) ∙ told))

-- those who see the shard's log are told of it
pub notified_new : (states : NodeStates) (leader : NodeName) (shard : ℕ) (entry : Option Entry) (e : Entry) (note : View) (old new : Inboxes)
    → entry ≡ Some e → Sends (notified_by states leader shard) (entry_message shard e note) old new → NotifiesOfNew states leader shard entry old new
notified_new states leader shard entry e note old new is sends =
    let told : NotifiesOfNew states leader shard (Some e) old new = (note, sends) in
    subst (λ found. NotifiesOfNew states leader shard found old new) (sym is) told

-- what a commit leaves of the nodes, once a note was renewed and the messages were sent
pub left_so : (was : Nodes) (renewed committed : Fleet) (told : Nodes) → renewed ≡ committed
    → told ≡ record was { fleet = renewed; mail = told.mail } → told ≡ record was { fleet = committed; mail = told.mail }
left_so was renewed committed told same rest = rest ∙ ap (λ (f : Fleet). record was { fleet = f; mail = told.mail }) same

-- ---- refused

-- what the store refused after the way there, with nothing changed
module _ (tells : Bool) (s : Settings) (route : Route) (call : AuthoredWrite) (old new : World) (same : RefusesThere tells old new) where
  pub refused : (r : StoreRefusal) → WhereTold tells (WriteAnswers (asked_of_log s old.keepers call) (Err r))
      → (r ≡ store.KeeperFault → Rose old.keepers.faults new.keepers.faults)
      → RefusesCommit tells s (sent_write route call) (refused_as new.keepers.faults r) old new
  refused store.KeeperFault answer cause = ((refl, cause refl), same)
  refused store.OutOfMemory answer cause = (refl, same)
  refused (store.TooOld cut position) answer cause = (answer, same)
  refused (store.SeqReused position) answer cause = (answer, same)
  refused (store.ShardFull serial) answer cause = (answer, same)
  refused (store.StampFull number) answer cause = (answer, same)
  refused (store.LogFull count) answer cause = (answer, same)
