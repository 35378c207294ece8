use Rattle.std.proofs.Common.{◌≡◌, length}
use Rattle.cluster_closing.proofs.freeing.lose_refills.Given as goal

-- the node is as it was
abbrev pub invariant-loop-refill : goal.invariant-loop-refill
invariant-loop-refill l = l.follower.node ≡ l.fn.follower.node

-- one less waits in each turn
abbrev pub decreases-loop-refill : goal.decreases-loop-refill
decreases-loop-refill l = length l.follower.refills
