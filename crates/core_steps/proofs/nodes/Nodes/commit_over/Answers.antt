use Rattle.std.proofs.Common.{◌<◌, Err, IfSome, refl, ap, sym, subst, ◌∙◌}
use Rattle.shard_tables.specs.Jobs.{job_with}
use Rattle.shard_tables.specs.Written.{LiesOn, StandsIn, added_entry}
use Rattle.tao_base.specs.Writes.{write_shard}
use Rattle.tao_schema.specs.Schema.{types_of}
use Rattle.core_mail.proofs.InboxLemmas.{inboxes_stay}
use Rattle.core_model.proofs.KeptStores.{sound_logs}
use Rattle.core_model.specs.Jobs.{CanBeMerged, job_on}
use Rattle.core_model.specs.Pens.{IsSeen, pens_of}
use Rattle.core_model.specs.Stores.{master_store}
use Rattle.store_replies.specs.Refused.{refused_as}
use Rattle.core_steps.specs.Posting.{PostsOn, NotifiesOfNew, CanPost}
use Rattle.core_steps.specs.World.{world, world_with}
use Rattle.core_steps.specs.declared.nodes.Nodes.{Nodes}
use Rattle.core_model.specs.Asked.{client_call}
use Rattle.core_steps.specs.Writes.{CanBeApplied, IsCommitted, RefusesCommit, new_entry, sent_write}
use Rattle.core_nodes.proofs.GrowingLemmas.{gains_stores, stays_stores}
use Rattle.core_steps.proofs.LinkLemmas.{carried_on}
use Rattle.core_steps.proofs.MergeLemmas.{can_merge}
use Rattle.core_steps.proofs.StepLemmas.{commits}
use Rattle.core_steps.proofs.NotifyLemmas.{arrived_grows, arrived_notified, of_new}
use Rattle.core_steps.proofs.WriteLemmas.{refused, seen_there, stands_in_log, left_so}
use Rattle.core_steps.proofs.nodes.Nodes.commit_over.Goals as goal
use Rattle.core_model.specs.Fleet.{node_names}
use Rattle.shard_log.specs.View.{View, as_note}
use Rattle.shard_tables.specs.declared.writes.Wrote.{Wrote}
use Rattle.core_steps.proofs.PostsLemmas.{posts_same}
use Rattle.tao_keeper.proofs.Later.{later_self}

pub notify_of_new-requires-clause-here : goal.notify_of_new-requires-clause-here
notify_of_new-requires-clause-here g c = subst (λ n. n < c.args.config.now.shards) (sym c.shard-shard.ensures) c.requires.here

pub notify_of_new-requires-clause-own : goal.notify_of_new-requires-clause-own
notify_of_new-requires-clause-own g c =
    ap (λ (n : Nodes). n.topology.regions) c.spare_note.ensures.same ∙ c.requires.ready.states.regions

pub notify_of_new-requires-clause-names : goal.notify_of_new-requires-clause-names
notify_of_new-requires-clause-names g c =
    ap (λ (n : Nodes). node_names n.mail) c.spare_note.ensures.same ∙ c.requires.ready.inboxes.names

pub notify_of_new-requires-clause-stands : goal.notify_of_new-requires-clause-stands
notify_of_new-requires-clause-stands g c = c.in-Ok.ensures.done.stands

pub notify_of_new-requires-clause-lies : goal.notify_of_new-requires-clause-lies
notify_of_new-requires-clause-lies g c =
    subst (λ n. IfSome c.in-Ok.wrote.entry (LiesOn c.in-Ok.wrote.note n)) (sym c.shard-shard.ensures) c.in-Ok.ensures.done.here

pub returns-in_err-spare-clause-on : goal.returns-in_err-spare-clause-on
returns-in_err-spare-clause-on g c =
    let tells = g.K.Keeper.TELLS in
    let s = c.args.config.now in
    let was = c.args.self.now in
    let keepers = g.K.Keeper.state c.args.keepers.now in
    let from = g.L.Link.shown c.args.link.now in
    let to = g.L.Link.shown c.carry.new.link in
    let ready = c.requires.ready in
    subst (λ n. PostsOn tells s (world was keepers from) (world n keepers to)) (sym c.spare_note.ensures.same)
    (posts_same tells s (world was keepers from) (world was keepers to) ready.inboxes ready.arrived refl refl refl ready.consistent
    (stays_stores tells s keepers keepers (λ told at. refl)) (later_self keepers) (carried_on from to c.in_default.ensures.ok))

pub renew-spare-requires-clause-one_log : goal.renew-spare-requires-clause-one_log
renew-spare-requires-clause-one_log g c =
    let shard = c.shard-shard.result in
    (c.commit.ensures.goes.rise shard).log_is ∙ ap (λ (n : Nodes). (pens_of n.fleet.stores shard).log) c.spare_note.ensures.same
    ∙ sym (ap (λ (v : View). v.log) c.in_ok-spare.ensures.view)

pub returns-in-Ok-clause-committed : goal.returns-in-Ok-clause-committed
returns-in-Ok-clause-committed g c =
    let state = g.K.Keeper.state in
    let s = c.args.config.now in
    let shard = write_shard c.args.call.now.write.now in
    let call = client_call c.args.call.now.origin c.args.call.now.write.now in
    let wrote = c.in-Ok.wrote in
    let was = c.spare_note.new.self in
    let link = g.L.Link.shown c.carry.new.link in
    let old = world was (state c.args.keepers.now) (g.L.Link.shown c.args.link.now) in
    let told = c.notify_of_new.new.self in
    let mid = record was { fleet = c.commit.new.self; mail = told.mail } in
    let is : IsCommitted g.K.Keeper.TELLS s (sent_write c.args.route call) wrote old (world mid (state c.commit.new.keepers) link) = record {
      commits = commits s (state c.args.keepers.now) (state c.commit.new.keepers) call c.requires.here g.K.Keeper.TELLS wrote.retry wrote.entry
          (λ told. sound_logs s (state c.args.keepers.now).told (c.requires.ready.consistent.stores.kept told) shard c.requires.here)
          (λ told. g.met.K.Keeper.of_entries c.args.keepers.now (master_store s shard) told) c.in-Ok.ensures.done.answer c.in-Ok.ensures.done.tables;
      leader = record { note = wrote.note; takes = c.in-Ok.ensures.node };
      followers = c.in-Ok.ensures.followers;
      notifies = subst (λ n. NotifiesOfNew was.topology c.args.route.leader n (new_entry wrote.retry wrote.entry) was.mail told.mail)
          c.shard-shard.ensures c.notify_of_new.ensures.notifies;
      states = refl;
      link = c.in_default.ensures.ok;
      opens = c.in-Ok.ensures.done.job;
      finds = c.in-Ok.ensures.done.found;
    } in
    subst (λ n. IsCommitted g.K.Keeper.TELLS s (sent_write c.args.route call) c.notify_of_new.new.wrote
    (world n (state c.args.keepers.now) (g.L.Link.shown c.args.link.now)) (world told (state c.commit.new.keepers) link)) c.spare_note.ensures.same
    (subst (λ w. IsCommitted g.K.Keeper.TELLS s (sent_write c.args.route call) w old (world told (state c.commit.new.keepers) link))
    (sym c.notify_of_new.ensures.same)
    (subst (λ n. IsCommitted g.K.Keeper.TELLS s (sent_write c.args.route call) wrote old (world n (state c.commit.new.keepers) link))
    (sym (left_so was c.renew-spare.new.self c.commit.new.self told c.renew-spare.ensures.same c.notify_of_new.ensures.rest)) is))

pub returns-in-Ok-clause-apply : goal.returns-in-Ok-clause-apply
returns-in-Ok-clause-apply g c =
    let call = client_call c.args.call.now.origin c.args.call.now.write.now in
    let stores = c.commit.new.self.stores in
    let can : CanBeApplied call c.in-Ok.wrote stores = record {
      fits = c.in-Ok.ensures.done.fits;
      has = c.in-Ok.ensures.done.entry;
      seen = seen_there (pens_of stores) (write_shard c.args.call.now.write.now) c.in-Ok.wrote.note c.in-Ok.wrote.entry c.in-Ok.ensures.seen
          c.in-Ok.ensures.done.stands;
      here = c.in-Ok.ensures.done.here;
    } in
    subst (λ (n : Nodes). CanBeApplied call c.notify_of_new.new.wrote n.fleet.stores)
    (sym (left_so c.spare_note.new.self c.renew-spare.new.self c.commit.new.self c.notify_of_new.new.self c.renew-spare.ensures.same
    c.notify_of_new.ensures.rest))
    (subst (λ w. CanBeApplied call w stores) (sym c.notify_of_new.ensures.same) can)

pub returns-in-Ok-clause-spare : goal.returns-in-Ok-clause-spare
returns-in-Ok-clause-spare g c =
    c.renew-spare.ensures.view ∙ ap (λ n. as_note (pens_of c.commit.new.self.stores n)) c.shard-shard.ensures ∙ sym c.in-Ok.ensures.note
    ∙ ap (λ (w : Wrote). w.note) (sym c.notify_of_new.ensures.same)

pub returns-in-Ok-clause-all : goal.returns-in-Ok-clause-all
returns-in-Ok-clause-all g c =
    let shard = write_shard c.args.call.now.write.now in
    ap (λ (w : Wrote). w.note) c.notify_of_new.ensures.same ∙ c.in-Ok.ensures.note
    ∙ ap (λ (n : Nodes). as_note (pens_of n.fleet.stores shard)) (sym (left_so c.spare_note.new.self c.renew-spare.new.self c.commit.new.self
    c.notify_of_new.new.self c.renew-spare.ensures.same c.notify_of_new.ensures.rest))

pub returns-in-Ok-clause-job : goal.returns-in-Ok-clause-job
returns-in-Ok-clause-job g c =
    let tables = (g.K.Keeper.state c.commit.new.keepers).told in
    let shard = write_shard c.args.call.now.write.now in
    let s = c.args.config.now in
    subst (λ w. IfSome w.job (λ job. CanBeMerged g.K.Keeper.TELLS s tables (job_on shard job))) (sym c.notify_of_new.ensures.same)
    (can_merge g.K.Keeper.TELLS s tables shard c.in-Ok.wrote.job c.in-Ok.ensures.done.given c.in-Ok.ensures.owes)

pub returns-in-Ok-clause-on : goal.returns-in-Ok-clause-on
returns-in-Ok-clause-on g c =
    let ready = subst (λ n. CanPost g.K.Keeper.TELLS c.args.config.now (world n (g.K.Keeper.state c.args.keepers.now) (g.L.Link.shown c.args.link.now)))
    (sym c.spare_note.ensures.same) c.requires.ready in
    let tells = g.K.Keeper.TELLS in
    let state = g.K.Keeper.state in
    let s = c.args.config.now in
    let shard = write_shard c.args.call.now.write.now in
    let tables = (state c.commit.new.keepers).told in
    let wrote = c.in-Ok.wrote in
    let was = c.spare_note.new.self in
    let told = c.notify_of_new.new.self in
    let stores = c.commit.new.self.stores in
    let pens = pens_of stores in
    let added = added_entry c.commit.result in
    let link = g.L.Link.shown c.carry.new.link in
    let old = world was (state c.args.keepers.now) (g.L.Link.shown c.args.link.now) in
    let is : PostsOn tells s old (world_with c.commit.new.self told.mail was.topology (state c.commit.new.keepers) link) = record {
      consistent = c.commit.ensures.consistent;
      inboxes = c.notify_of_new.ensures.of pens (subst (λ n. IsSeen pens n wrote.note) (sym c.shard-shard.ensures) c.in-Ok.ensures.seen)
          ((inboxes_stay s (pens_of was.fleet.stores) was.mail).rises pens c.commit.ensures.goes.rise ready.inboxes);
      arrived = arrived_notified tells s tables stores shard c.masters_are_regions.ensures c.commit.ensures.consistent.stores c.requires.here
          was.topology c.args.route.leader (new_entry wrote.retry wrote.entry) was.mail told.mail ready.states
          (of_new (StandsIn (pens shard)) wrote.retry wrote.entry (stands_in_log pens shard wrote.note wrote.entry
          (seen_there pens shard wrote.note wrote.entry c.in-Ok.ensures.seen c.in-Ok.ensures.done.stands)))
          (subst (λ n. NotifiesOfNew was.topology c.args.route.leader n (new_entry wrote.retry wrote.entry) was.mail told.mail)
          c.shard-shard.ensures c.notify_of_new.ensures.notifies)
          (arrived_grows tells (state c.args.keepers.now).told tables was.mail c.commit.ensures.done.logs ready.arrived);
      states = refl;
      goes = c.commit.ensures.goes;
      grows = gains_stores tells s (state c.args.keepers.now) (state c.commit.new.keepers)
          (master_store s (write_shard c.args.call.now.write.now)) added (job_with (types_of s.schema) added)
          (record { region = c.masters_are_regions.ensures (write_shard c.args.call.now.write.now); shard = c.requires.here }) c.commit.ensures.done.tables;
      later = record { calls = c.commit.ensures.done.calls.calls; faults = c.commit.ensures.done.calls.faults };
      link = carried_on (g.L.Link.shown c.args.link.now) link c.in_default.ensures.ok;
    } in
    subst (λ n. PostsOn tells s (world n (state c.args.keepers.now) (g.L.Link.shown c.args.link.now)) (world told (state c.commit.new.keepers) link))
    c.spare_note.ensures.same
    (subst (λ n. PostsOn tells s old (world n (state c.commit.new.keepers) link))
    (sym (left_so was c.renew-spare.new.self c.commit.new.self told c.renew-spare.ensures.same c.notify_of_new.ensures.rest)) is)

pub returns-in-Err-commit-clause-refused : goal.returns-in-Err-commit-clause-refused
returns-in-Err-commit-clause-refused g c =
    let state = g.K.Keeper.state in
    let call = client_call c.args.call.now.origin c.args.call.now.write.now in
    let was = c.spare_note.new.self in
    let old = world was (state c.args.keepers.now) (g.L.Link.shown c.args.link.now) in
    let new =
    world_with c.commit.new.self was.mail was.topology (state c.commit.new.keepers) (g.L.Link.shown c.carry.new.link) in
    let refusal = c.in-Err-commit.refusal in
    let told = ◌∙◌ {b = refused_as c.faults-in-Err-commit.result refusal} c.refused_as.ensures
    (ap (λ n. refused_as n refusal) c.faults-in-Err-commit.ensures) in
    subst (λ n. RefusesCommit g.K.Keeper.TELLS c.args.config.now (sent_write c.args.route call) c.refused_as.result
    (world n (state c.args.keepers.now) (g.L.Link.shown c.args.link.now)) new) c.spare_note.ensures.same
    (subst (λ refusal. RefusesCommit g.K.Keeper.TELLS c.args.config.now (sent_write c.args.route call) refusal old new) (sym told)
    (refused g.K.Keeper.TELLS c.args.config.now c.args.route call old new (record {
      link = c.in_default.ensures.ok;
      same = record { fleet = c.in-Err-commit.ensures.err; inboxes = refl; states = refl; tables = c.in-Err-commit.ensures.done.tables };
    })
    c.in-Err-commit.refusal c.in-Err-commit.ensures.done.answer (λ is. c.in-Err-commit.ensures.done.calls.failed (ap (λ r. Err r) is))))

pub returns-in-Err-commit-clause-on : goal.returns-in-Err-commit-clause-on
returns-in-Err-commit-clause-on g c =
    let ready = subst (λ n. CanPost g.K.Keeper.TELLS c.args.config.now (world n (g.K.Keeper.state c.args.keepers.now) (g.L.Link.shown c.args.link.now)))
    (sym c.spare_note.ensures.same) c.requires.ready in
    let tells = g.K.Keeper.TELLS in
    let state = g.K.Keeper.state in
    let s = c.args.config.now in
    let was = c.spare_note.new.self in
    let added = added_entry c.commit.result in
    let new = world_with c.commit.new.self was.mail was.topology (state c.commit.new.keepers) (g.L.Link.shown c.carry.new.link) in
    subst (λ n. PostsOn tells s (world n (state c.args.keepers.now) (g.L.Link.shown c.args.link.now)) new) c.spare_note.ensures.same (record {
      consistent = c.commit.ensures.consistent;
      inboxes = (inboxes_stay s (pens_of was.fleet.stores) was.mail).rises (pens_of c.commit.new.self.stores) c.commit.ensures.goes.rise
          ready.inboxes;
      arrived = arrived_grows tells (state c.args.keepers.now).told (state c.commit.new.keepers).told was.mail c.commit.ensures.done.logs
          ready.arrived;
      states = refl;
      goes = c.commit.ensures.goes;
      grows = gains_stores tells s (state c.args.keepers.now) (state c.commit.new.keepers)
          (master_store s (write_shard c.args.call.now.write.now)) added (job_with (types_of s.schema) added)
          (record { region = c.masters_are_regions.ensures (write_shard c.args.call.now.write.now); shard = c.requires.here }) c.commit.ensures.done.tables;
      later = record { calls = c.commit.ensures.done.calls.calls; faults = c.commit.ensures.done.calls.faults };
      link = carried_on (g.L.Link.shown c.args.link.now) (g.L.Link.shown c.carry.new.link) c.in_default.ensures.ok;
    })
