-- Which nodes a request takes.
use Rattle.std.specs.Prelude.{Bool, true, false}
use Rattle.node_name.specs.declared.NodeName.{NodeName}
use Rattle.node_name.specs.declared.NodeName.TheVariants.{Store, Leader, Follower}
use Rattle.request_check.specs.declared.kind.NodeKind.{NodeKind}
use Rattle.request_check.specs.declared.kind.NodeKind.TheVariants as of_kind

-- whether the node is of the kind that a request takes: a cache is a leader or a follower, and stores are taken by Any alone
abbrev pub takes : NodeKind → NodeName → Bool
takes of_kind.Any node = true
takes of_kind.Cache (Store store) = false
takes of_kind.Cache (Leader region index) = true
takes of_kind.Cache (Follower region tier index) = true
takes of_kind.Leader (Store store) = false
takes of_kind.Leader (Leader region index) = true
takes of_kind.Leader (Follower region tier index) = false
takes of_kind.Follower (Store store) = false
takes of_kind.Follower (Leader region index) = false
takes of_kind.Follower (Follower region tier index) = true
