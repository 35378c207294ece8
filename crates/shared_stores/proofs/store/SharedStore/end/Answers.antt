use Rattle.std.proofs.Common.{◌≡◌, length, subst, ◌∙◌, rules}
use Rattle.std.specs.Prelude.{IsSomeAnd, List, slice_get}
use Rattle.shard_log.specs.View.{Grows, View}
use Rattle.graph_model.specs.Told.{WhereTold}
use Rattle.shard_tables.specs.StoreView.{Store}
use Rattle.tao_keeper.specs.Table.{Changes, after_end}
use Rattle.shared_stores.proofs.Ended.{EndsSeen, stays_ending}
use Rattle.shared_stores.proofs.Seen.{begins_met, notes_back, shared_as}
use Rattle.shared_stores.specs.Asked.{lent_owed}
use Rattle.shared_stores.specs.Locked.{locked}
use Rattle.shared_stores.proofs.store.SharedStore.end.Goals as goal

pub invariant_of-self-2 : goal.invariant_of-self-2
invariant_of-self-2 g c =
    let now = c.args.self.now in
    let l = locked now.store (g.K.Keeper.state now.keeper).told now.notes.items in
    let long : length c.has_seen.new.notes ≡ now.notes.len = search rules in
    let notes = notes_back now.notes c.deref_mut.result.now c.has_seen.new.notes long c.has_seen.ensures.same c.deref_mut.ensures.value in
    let ends : EndsSeen g.K.Keeper.TELLS g.J.Sharing.making g.J.Logs.log l c.args.here.now c.args.there (lent_owed c.args.owed.now) = record {
      from_is = c.requires.shard;
      owed_in = c.requires.owed;
      begins = begins_met now.store c.args.here.now c.meet.new.note c.requires.master c.in_ok-meet.ensures.met c.meet.ensures.grows;
      done = c.requires.done;
      seen = subst (λ (ns : List View). IsSomeAnd (slice_get ns c.args.owed.now.to) (Grows c.args.there)) c.deref_mut.ensures.value
          (c.in_ok-has_seen.ensures.seen c.if-not-branch.false);
    } in
    let before = (g.K.Keeper.state now.keeper).told in
    let after = (g.K.Keeper.state c.end_job.new.keeper).told in
    let turns = subst (λ (x : Store). WhereTold g.K.Keeper.TELLS
    (Changes c.end_job.result before after x.name (after_end (before x.name) c.args.owed.now.job.now.position)))
    c.meet.ensures.same c.end_job.ensures.ends in
    record {
      kept = shared_as g.K.Keeper.TELLS g.J.Sharing.making g.J.Logs.log now.store c.end_job.new.self after
          now.notes.items _ (c.end_job.ensures.same ∙ c.meet.ensures.same) notes
          (stays_ending g.K.Keeper.TELLS g.J.Sharing.making g.J.Logs.log c.ends_keep_locked.ensures l c.requires.master now.kept c.args.here.now c.args.there
          (lent_owed c.args.owed.now) ends c.end_job.result after turns);
    }
