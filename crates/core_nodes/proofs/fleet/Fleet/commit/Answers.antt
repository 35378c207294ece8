use Rattle.std.proofs.Common.{◌≡◌, length, refl, ap, sym, subst, ◌∙◌, arith}
use Rattle.tao_base.specs.Writes.{write_shard}
use Rattle.core_model.specs.Fleet.{Fleet, HasNode, region_of, serves}
use Rattle.core_model.specs.Stores.{AreStoresOf, master_of}
use Rattle.core_nodes.proofs.AskLemmas.{lent_log_where}
use Rattle.core_nodes.proofs.CommitLemmas.{commit_lent}
use Rattle.core_nodes.proofs.FleetLemmas.{leader_in}
use Rattle.core_nodes.proofs.fleet.Fleet.commit.Goals as goal

pub commit_at-requires-clause-there : goal.commit_at-requires-clause-there
commit_at-requires-clause-there g c =
    let leaders = c.deref_mut.ensures.value ∙ ap (λ (f : Fleet). f.leaders) c.self.view_is in
    subst (HasNode c.args.leader) (sym leaders) (leader_in c.args.config.now c.args.self.now
    (master_of c.args.config.now (write_shard c.args.call.now.write.now))
    c.args.leader c.requires.consistent.fleet c.requires.leader)

pub commit_at-requires-clause-logs : goal.commit_at-requires-clause-logs
commit_at-requires-clause-logs g c =
    let leaders = c.deref_mut.ensures.value ∙ ap (λ (f : Fleet). f.leaders) c.self.view_is in
    let stores = c.deref_mut-2.ensures.value ∙ ap (λ (f : Fleet). f.stores) c.self.view_is in
    lent_log_where c.args.config.now c.args.self.now (master_of c.args.config.now (write_shard c.args.call.now.write.now))
    (write_shard c.args.call.now.write.now) c.args.leader
    (serves c.args.config.now c.args.leader (write_shard c.args.call.now.write.now)) c.deref_mut.result.now c.deref_mut-2.result.now leaders stores
    c.requires.consistent.fleet
    c.requires.consistent.stores.configured c.requires.consistent.stores.follow c.requires.here c.requires.leader
    refl

pub commit_at-requires-clause-stores : goal.commit_at-requires-clause-stores
commit_at-requires-clause-stores g c =
    let stores = c.deref_mut-2.ensures.value ∙ ap (λ (f : Fleet). f.stores) c.self.view_is in
    subst (AreStoresOf g.K.Keeper.TELLS c.args.config.now (g.K.Keeper.state c.args.keepers.now).told) (sym stores) c.requires.consistent.stores

pub returns : goal.returns
returns g c =
    let given = c.commit_at.ensures in
    let leaders = c.deref_mut.ensures.value ∙ ap (λ (f : Fleet). f.leaders) c.self.view_is in
    let stores = c.deref_mut-2.ensures.value ∙ ap (λ (f : Fleet). f.stores) c.self.view_is in
    let long : length c.commit_at.new.leaders ≡ c.self.inside.leaders.len = omega arith in
    let many : length c.commit_at.new.stores ≡ c.self.inside.stores.len = omega arith in
    let left =
    commit_lent g.K.Keeper.TELLS c.args.config.now c.args.leader (write_shard c.args.call.now.write.now)
    (serves c.args.config.now c.args.leader (write_shard c.args.call.now.write.now))
    (g.K.Keeper.state c.args.keepers.now).told (g.K.Keeper.state c.commit_at.new.keepers).told
    c.self.inside c.args.self.now c.deref_mut.result.now c.commit_at.new.leaders c.deref_mut-2.result.now c.commit_at.new.stores c.commit_at.result
    c.self.view_is long many leaders stores c.masters_are_regions.ensures c.requires.here (ap region_of c.requires.leader.name_is) given.done.logs
    c.requires.consistent.reached c.requires.consistent.fleet given.node given.rest given.stores given.rise given.note given.done.stands in
    record {
      node = left.node;
      err = left.err;
      consistent = left.consistent;
      goes = left.goes;
      followers = left.followers;
      done = given.done;
      owes = given.owes;
      seen = left.seen;
      note = left.note;
    }
