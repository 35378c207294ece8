use Rattle.std.proofs.Common.{List, ◌++◌, ap, ◌∙◌}
use Rattle.cache_items.specs.Node.{Node}
use Rattle.follower_cache.specs.Seen.{FollowerState}
use Rattle.node_name.specs.declared.NodeName.{NodeName}
use Rattle.core_model.specs.Fleet.{Fleet}
use Rattle.core_model.specs.declared.named.Named.{Named}
use Rattle.node_stages.specs.Caches.{follower_node, leader_node}
use Rattle.core_nodes.specs.Trimming.{behind_of}
use Rattle.core_nodes.proofs.fleet.Fleet.names_behind.Goals as goal

pub returns : goal.returns
returns c =
    let leaders = c.deref.ensures.value ∙ ap (λ (f : Fleet). f.leaders) c.self.view_is in
    let followers = c.deref-2.ensures.value ∙ ap (λ (f : Fleet). f.followers) c.self.view_is in
    let of_leaders : List (Named Node) → List NodeName = behind_of leader_node c.args.config.now c.args.at c.args.position in
    let of_followers : List (Named FollowerState) → List NodeName = behind_of follower_node c.args.config.now c.args.at c.args.position in
    let first = c.in_ok-name_behind.ensures ∙ ap (λ names. names ++ of_leaders c.deref.result.now) c.new-names.ensures.items ∙ ap of_leaders leaders in
    c.in_ok-name_behind-2.ensures ∙ ap (λ names. names ++ of_followers c.deref-2.result.now) first
    ∙ ap (λ fs. of_leaders c.args.self.now.leaders ++ of_followers fs) followers
