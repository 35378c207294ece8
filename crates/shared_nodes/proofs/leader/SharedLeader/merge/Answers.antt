use Rattle.std.proofs.Common.{◌≡◌, Err, Some, ap, subst, sym, true, ◌∙◌}
use Rattle.std.proofs.lemmas.Result.{err_from_is_err_and}
use Rattle.core_model.specs.Serving.{IsLeaderFor}
use Rattle.graph_model.specs.Log.{entry_at}
use Rattle.core_model.specs.leader_tier.TakenWrites.{taken_entry}
use Rattle.log_names.specs.Names.{IsOfLog}
use Rattle.shard_log.specs.View.{as_note}
use Rattle.shard_tables.specs.StoreView.{Store}
use Rattle.shared_nodes.proofs.LeaderMerges.{entry_met, longer_by, refused_done}
use Rattle.shared_nodes.proofs.LeaderTurns.{leader_log}
use Rattle.shared_stores.specs.Locked.{entries_seen}
use Rattle.shared_nodes.proofs.leader.SharedLeader.merge.Goals as goal

pub returns-in_err-spares-clause-done : goal.returns-in_err-spares-clause-done
returns-in_err-spares-clause-done g c =
    let p = err_from_is_err_and c.from_residual.result c.from_residual.ensures.1 in
    refused_done g.K.Keeper.TELLS c.args.far.now.store c.args.owed.now.from c.args.owed.now.job.now (g.K.Keeper.state c.args.far.now.keeper)
    (g.K.Keeper.state c.meet_both.new.far.keeper) c.from_residual.result (p.1 ∙ ap Err p.2) (ap g.K.Keeper.state c.meet_both.ensures.keepers.1)

pub merge_at-wrote-requires-clause-leader : goal.merge_at-wrote-requires-clause-leader
merge_at-wrote-requires-clause-leader g c =
    let far = c.meet_both.new.far in
    let serving : IsLeaderFor g.J.Sharing.making.settings far.store.name.shard c.args.self.now.name =
    subst (λ n. IsLeaderFor g.J.Sharing.making.settings n c.args.self.now.name)
    (c.requires.far ∙ sym (ap (λ (s : Store). s.name.shard) c.meet_both.ensures.stores.1)) c.requires.serves in
    leader_log g.J.Sharing.making g.J.Logs.log c.self.inside.name c.self.inside.leader c.args.self.now far.store.name.shard far.store.view c.self.view_is
    c.self.invariant serving.here serving.serves far.kept.log_is

pub merge_at-wrote-requires-clause-seen : goal.merge_at-wrote-requires-clause-seen
merge_at-wrote-requires-clause-seen g c =
    let near = c.args.near.now in
    let seen : entries_seen c.meet_both.new.far.notes.items c.args.owed.now.from ≡ near.store.view.entries =
    ap (entries_seen c.meet_both.new.far.notes.items) c.requires.near ∙ c.in_ok-spares.ensures.back in
    let of_log : IsOfLog g.J.Logs.log near.store.name.shard c.args.here.now =
    subst (λ n. IsOfLog g.J.Logs.log n c.args.here.now) c.requires.near c.requires.owed.log_is in
    λ told.
    subst (λ es. entry_at es c.args.owed.now.entry.now.position ≡ Some c.args.owed.now.entry.now) (sym seen)
    (entry_met near.store c.args.here.now c.meet_both.new.here c.args.owed.now.entry.now c.requires.masters.0 c.in_ok-spares.ensures.met.0
    c.meet_both.ensures.here (near.kept.log_is ∙ sym of_log) c.requires.owed.stands (near.kept.told_is ∙ told))

pub see_merged-requires-clause-gained : goal.see_merged-requires-clause-gained
see_merged-requires-clause-gained g c =
    let far = c.meet_both.new.far in
    longer_by far.store c.merge_at-wrote.new.store.store c.in_ok-spares.spares.own.entries c.merge_at-wrote.result c.merge_at-wrote.ensures.store.log
    c.merge_at-wrote.ensures.done.first (c.in_ok-spares.ensures.whole ∙ ap (λ (s : Store). s.view.entries) (sym c.meet_both.ensures.stores.1))

pub invariant_of-self : goal.invariant_of-self
invariant_of-self g c =
    let stays = c.named_nodes_stay.ensures g.J.Sharing.making.settings g.J.Logs.log c.self.inside.name in
    let done = c.merge_at-wrote.ensures.node in
    let far = c.meet_both.new.far in
    stays.writes far.store.name.shard (taken_entry true c.merge_at-wrote.result) (as_note c.merge_at-wrote.new.store.store.view) c.self.inside.leader
    c.merge_at-wrote.new.leader done.does (c.merge_at-wrote.ensures.store.grows.log_is ∙ far.kept.log_is) done.apart done.truth c.self.invariant
