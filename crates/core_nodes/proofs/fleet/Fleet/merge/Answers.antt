use Rattle.std.proofs.Common.{◌≡◌, length, refl, ap, sym, subst, ◌∙◌, arith}
use Rattle.core_model.specs.Fleet.{Fleet, HasNode, region_of, serves}
use Rattle.core_model.specs.Jobs.{far_shard}
use Rattle.core_model.specs.Stores.{AreStoresOf, master_of}
use Rattle.core_nodes.proofs.AskLemmas.{lent_log_where}
use Rattle.core_nodes.proofs.CommitLemmas.{commit_lent}
use Rattle.core_nodes.proofs.FleetLemmas.{leader_in}
use Rattle.core_nodes.proofs.fleet.Fleet.merge.Goals as goal

pub merge_at-requires-clause-there : goal.merge_at-requires-clause-there
merge_at-requires-clause-there g c =
    let leaders = c.deref_mut.ensures.value ∙ ap (λ (f : Fleet). f.leaders) c.self.view_is in
    subst (HasNode c.args.leader) (sym leaders) (leader_in c.args.config.now c.args.self.now (master_of c.args.config.now (far_shard c.args.job.now.job.now))
    c.args.leader c.requires.consistent.fleet c.requires.leader)

pub merge_at-requires-clause-logs : goal.merge_at-requires-clause-logs
merge_at-requires-clause-logs g c =
    let leaders = c.deref_mut.ensures.value ∙ ap (λ (f : Fleet). f.leaders) c.self.view_is in
    let stores = c.deref_mut-2.ensures.value ∙ ap (λ (f : Fleet). f.stores) c.self.view_is in
    lent_log_where c.args.config.now c.args.self.now (master_of c.args.config.now (far_shard c.args.job.now.job.now)) (far_shard c.args.job.now.job.now)
    c.args.leader
    (serves c.args.config.now c.args.leader (far_shard c.args.job.now.job.now)) c.deref_mut.result.now c.deref_mut-2.result.now leaders stores
    c.requires.consistent.fleet
    c.requires.consistent.stores.configured c.requires.consistent.stores.follow c.requires.there c.requires.leader
    refl

pub merge_at-requires-clause-stores : goal.merge_at-requires-clause-stores
merge_at-requires-clause-stores g c =
    let stores = c.deref_mut-2.ensures.value ∙ ap (λ (f : Fleet). f.stores) c.self.view_is in
    subst (AreStoresOf g.K.Keeper.TELLS c.args.config.now (g.K.Keeper.state c.args.keepers.now).told) (sym stores) c.requires.consistent.stores

pub returns : goal.returns
returns g c =
    let given = c.merge_at.ensures in
    let leaders = c.deref_mut.ensures.value ∙ ap (λ (f : Fleet). f.leaders) c.self.view_is in
    let stores = c.deref_mut-2.ensures.value ∙ ap (λ (f : Fleet). f.stores) c.self.view_is in
    let long : length c.merge_at.new.leaders ≡ c.self.inside.leaders.len = omega arith in
    let many : length c.merge_at.new.stores ≡ c.self.inside.stores.len = omega arith in
    let left =
    commit_lent g.K.Keeper.TELLS c.args.config.now c.args.leader (far_shard c.args.job.now.job.now)
    (serves c.args.config.now c.args.leader (far_shard c.args.job.now.job.now))
    (g.K.Keeper.state c.args.keepers.now).told (g.K.Keeper.state c.merge_at.new.keepers).told
    c.self.inside c.args.self.now c.deref_mut.result.now c.merge_at.new.leaders c.deref_mut-2.result.now c.merge_at.new.stores c.merge_at.result
    c.self.view_is long many leaders stores c.masters_are_regions.ensures c.requires.there (ap region_of c.requires.leader.name_is) given.done.logs
    c.requires.consistent.reached c.requires.consistent.fleet given.node given.rest given.stores given.rise given.note given.done.stands in
    record {
      node = left.node;
      err = left.err;
      consistent = left.consistent;
      goes = left.goes;
      followers = left.followers;
      done = given.done;
      step = given.step;
      merged = given.merged;
      seen = left.seen;
    }
