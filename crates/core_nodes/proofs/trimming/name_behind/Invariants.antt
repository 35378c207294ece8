use Rattle.std.proofs.Common.{◌≡◌, ◌++◌, drop}
use Rattle.core_nodes.specs.Trimming.{behind_of}
use Rattle.core_nodes.proofs.trimming.name_behind.Given as goal

-- the names so far with those of the nodes that are left come to all
abbrev pub invariant-loop-cache : goal.invariant-loop-cache
invariant-loop-cache g l =
    let behind = behind_of g.C.Cache.node l.config l.at l.position in
    l.names.items ++ behind (drop l.cache-index l.caches) ≡ l.fn.names.items ++ behind l.caches
