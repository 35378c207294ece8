use Rattle.std.proofs.Common.{None, refl, sym, subst}
use Rattle.std.proofs.lemmas.Result.{err_from_is_err_and}
use Rattle.shard_tables.specs.Written.{added_entry}
use Rattle.core_mail.proofs.InboxLemmas.{inboxes_stay}
use Rattle.core_model.specs.Jobs.{far_shard, job_on}
use Rattle.core_model.specs.Pens.{IsSeen, pens_of}
use Rattle.core_model.specs.Stores.{master_store}
use Rattle.core_nodes.proofs.GrowingLemmas.{gains_stores}
use Rattle.core_steps.specs.Posting.{ChangesNoNode, PostsOn, NotifiesOfNew}
use Rattle.core_steps.specs.World.{world, world_with}
use Rattle.core_steps.proofs.NotifyLemmas.{arrived_grows, arrived_notified}
use Rattle.core_steps.proofs.WriteLemmas.{seen_there, stands_in_log}
use Rattle.core_steps.proofs.nodes.Nodes.merge_at.Goals as goal

pub returns-clause-on : goal.returns-clause-on
returns-clause-on g c = λ before after later.
    let tells = g.K.Keeper.TELLS in
    let state = g.K.Keeper.state in
    let s = c.args.config.now in
    let was = c.args.self.now in
    let told = c.notify_of.new.self in
    let far = far_shard c.args.job.now.job.now in
    let tables = (state c.merge.new.keepers).told in
    let wrote = c.in_ok-wrote.wrote in
    let stores = c.merge.new.self.stores in
    let pens = pens_of stores in
    let merges = c.merge.ensures in
    let old = world was (state c.args.keepers.now) before in
    let is : PostsOn tells s old (world_with c.merge.new.self told.mail was.topology (state c.merge.new.keepers) after) = record {
      consistent = merges.consistent;
      inboxes = c.notify_of.ensures.of pens (subst (λ n. IsSeen pens n wrote.note) (sym c.far_shard.ensures) c.in_ok-wrote.ensures.seen)
          ((inboxes_stay s (pens_of was.fleet.stores) was.mail).rises pens merges.goes.rise c.requires.inboxes);
      arrived = arrived_notified tells s tables stores far c.masters_are_regions.ensures merges.consistent.stores c.requires.here
          was.topology c.args.leader wrote.entry was.mail told.mail c.requires.states
          (stands_in_log pens far wrote.note wrote.entry
          (seen_there pens far wrote.note wrote.entry c.in_ok-wrote.ensures.seen c.in_ok-wrote.ensures.done.stands))
          (subst (λ n. NotifiesOfNew was.topology c.args.leader n wrote.entry was.mail told.mail) c.far_shard.ensures c.notify_of.ensures.notifies)
          (arrived_grows tells (state c.args.keepers.now).told tables was.mail merges.done.logs c.requires.arrived);
      states = refl;
      goes = merges.goes;
      grows = gains_stores tells s (state c.args.keepers.now) (state c.merge.new.keepers) (master_store s far) (added_entry c.merge.result) None
          (record { region = c.masters_are_regions.ensures far; shard = c.requires.here }) merges.done.tables;
      later = record { calls = merges.done.calls.calls; faults = merges.done.calls.faults };
      link = later;
    } in
    subst (λ n. PostsOn tells s old (world n (state c.merge.new.keepers) after)) (sym c.notify_of.ensures.rest) is

pub returns-in_err-wrote-clause-on : goal.returns-in_err-wrote-clause-on
returns-in_err-wrote-clause-on g c = λ before after later.
    let tells = g.K.Keeper.TELLS in
    let state = g.K.Keeper.state in
    let s = c.args.config.now in
    let was = c.args.self.now in
    let far = far_shard c.args.job.now.job.now in
    let merges = c.merge.ensures in
    record {
      consistent = merges.consistent;
      inboxes = (inboxes_stay s (pens_of was.fleet.stores) was.mail).rises (pens_of c.merge.new.self.stores) merges.goes.rise c.requires.inboxes;
      arrived = arrived_grows tells (state c.args.keepers.now).told (state c.merge.new.keepers).told was.mail merges.done.logs c.requires.arrived;
      states = refl;
      goes = merges.goes;
      grows = gains_stores tells s (state c.args.keepers.now) (state c.merge.new.keepers) (master_store s far) (added_entry c.merge.result) None
          (record { region = c.masters_are_regions.ensures far; shard = c.requires.here }) merges.done.tables;
      later = record { calls = merges.done.calls.calls; faults = merges.done.calls.faults };
      link = later;
    }

pub returns-in_err-wrote-clause-rests : goal.returns-in_err-wrote-clause-rests
returns-in_err-wrote-clause-rests g c = λ before after.
    let state = g.K.Keeper.state in
    let old = world c.args.self.now (state c.args.keepers.now) before in
    let new = world (record c.args.self.now { fleet = c.merge.new.self }) (state c.merge.new.keepers) after in
    let p = err_from_is_err_and c.from_residual.result c.from_residual.ensures.1 in
    let rests : ChangesNoNode g.K.Keeper.TELLS old new =
    record { fleet = c.in_err-wrote.ensures.err; inboxes = refl; states = refl; tables = c.in_err-wrote.ensures.done.tables } in
    rw p.1 rests
