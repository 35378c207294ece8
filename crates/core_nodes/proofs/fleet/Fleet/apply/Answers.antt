use Rattle.std.proofs.Common.{◌≡◌, ap, sym, subst, ◌∙◌, arith, Some}
use Rattle.follower_cache.specs.Seen.{FollowerState}
use Rattle.served_shards.specs.Served.{log_at}
use Rattle.tao_schema.specs.Schema.{types_of}
use Rattle.core_model.specs.Fleet.{ChangesNode, Fleet, HasNode}
use Rattle.core_model.specs.Writes.{AppliesTo}
use Rattle.node_stages.specs.Stages.{FollowerDoes}
use Rattle.core_nodes.specs.Stages.{NodeIs}
use Rattle.core_nodes.proofs.CommitLemmas.{apply_lent}
use Rattle.core_nodes.proofs.FleetLemmas.{follower_here}
use Rattle.core_nodes.proofs.ReadLemmas.{follower_log}
use Rattle.core_nodes.proofs.ViewLemmas.{LendsFollowers, followers_rest}
use Rattle.core_nodes.proofs.fleet.Fleet.apply.Goals as goal

pub apply_at-requires-clause-there : goal.apply_at-requires-clause-there
apply_at-requires-clause-there c =
    let own = c.deref_mut.ensures.value ∙ ap (λ (f : Fleet). f.followers) c.self.view_is in
    subst (HasNode c.args.follower) (sym own) (follower_here c.args.config.now c.args.self.now c.args.shard c.args.follower c.requires.fleet
    c.requires.follower)

pub apply_at-requires-clause-log : goal.apply_at-requires-clause-log
apply_at-requires-clause-log c =
    let own = c.deref_mut.ensures.value ∙ ap (λ (f : Fleet). f.followers) c.self.view_is in
    subst (NodeIs c.args.follower (λ (f : FollowerState). log_at c.args.shard f.node.served ≡ Some c.args.note.log)) (sym own)
    (follower_log c.args.config.now c.args.self.now c.args.shard c.args.follower c.args.note c.requires.fleet c.requires.follower c.requires.seen.seen)

pub returns : goal.returns
returns c =
    let own = c.deref_mut.ensures.value ∙ ap (λ (f : Fleet). f.followers) c.self.view_is in
    let lends : LendsFollowers c.self.inside c.args.self.now c.deref_mut.result.now c.apply_at.new.followers =
    record { view = c.self.view_is; own = own; long = omega arith } in
    let change =
    subst (λ s. ChangesNode c.args.follower (FollowerDoes (AppliesTo (types_of s) c.args.shard c.args.entry.now c.args.note)) c.deref_mut.result.now
    c.apply_at.new.followers)
    (ap (λ s. s.schema) c.config.view_is) c.apply_at.ensures in
    let done =
    apply_lent c.args.config.now c.args.follower c.args.shard c.args.entry.now c.args.note c.self.inside c.args.self.now c.deref_mut.result.now
    c.apply_at.new.followers lends c.requires.fleet c.requires.seen.seen change in
    record {
      applies = done.applies;
      rest = followers_rest c.self.inside c.args.self.now c.deref_mut.result.now c.apply_at.new.followers lends;
      fleet = done.step.fleet;
      goes = done.step.goes;
    }
