use Rattle.std.proofs.Common.{subst}
use Rattle.std.specs.Prelude.{option_copied}
use Rattle.core_model.specs.Fleet.{IsNodeOfName}
use Rattle.locked_nodes.proofs.Inboxes.{follower_inbox, leader_inbox}
use Rattle.locked_nodes.specs.Nodes.{SeenNodes}
use Rattle.locked_nodes.proofs.nodes.LockedNodes.inbox.Goals as goal

pub returns-in-Leader-clause-some : goal.returns-in-Leader-clause-some
returns-in-Leader-clause-some g c =
    let found = c.inbox_in.result in
    (leader_inbox c.args.self.now c.args.name c.in-Leader.region c.in-Leader.index found c.in-Leader.is
    (subst (λ (n : SeenNodes). IsNodeOfName c.args.name n.leaders (option_copied found)) c.self.view_is
    (rw (c.deref.ensures.value) at (c.inbox_in.ensures)))).0

pub returns-in-Leader-clause-none : goal.returns-in-Leader-clause-none
returns-in-Leader-clause-none g c =
    let found = c.inbox_in.result in
    (leader_inbox c.args.self.now c.args.name c.in-Leader.region c.in-Leader.index found c.in-Leader.is
    (subst (λ (n : SeenNodes). IsNodeOfName c.args.name n.leaders (option_copied found)) c.self.view_is
    (rw (c.deref.ensures.value) at (c.inbox_in.ensures)))).1

pub returns-in-Follower-clause-some : goal.returns-in-Follower-clause-some
returns-in-Follower-clause-some g c =
    let found = c.inbox_in-in-Follower.result in
    (follower_inbox c.args.self.now c.args.name c.in-Follower.region c.in-Follower.tier c.in-Follower.index found c.in-Follower.is
    (subst (λ (n : SeenNodes). IsNodeOfName c.args.name n.followers (option_copied found)) c.self.view_is
    (rw (c.deref-in-Follower.ensures.value) at (c.inbox_in-in-Follower.ensures)))).0

pub returns-in-Follower-clause-none : goal.returns-in-Follower-clause-none
returns-in-Follower-clause-none g c =
    let found = c.inbox_in-in-Follower.result in
    (follower_inbox c.args.self.now c.args.name c.in-Follower.region c.in-Follower.tier c.in-Follower.index found c.in-Follower.is
    (subst (λ (n : SeenNodes). IsNodeOfName c.args.name n.followers (option_copied found)) c.self.view_is
    (rw (c.deref-in-Follower.ensures.value) at (c.inbox_in-in-Follower.ensures)))).1
