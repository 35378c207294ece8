-- The leaders of a fleet have names of leaders.
use Rattle.std.proofs.Common.{◌+◌, ◌++◌, [], ◌∷◌, ℕ, zero, suc, List, map, ap, subst, sym}
use Rattle.std.specs.List.{AllByRecursion, range_with_len}
use Rattle.core_model.proofs.Places.{one_some}
use Rattle.core_model.specs.Consistent.{IsFleetOf}
use Rattle.core_model.specs.Fleet.{EachIs, Fleet, leaders_from, named, node_names, regions_of}
use Rattle.core_model.specs.declared.named.Named.{Named}
use Rattle.headline_kept.specs.Touches.{IsLeader}
use Rattle.node_name.specs.declared.NodeName.{NodeName}
use Rattle.node_name.specs.declared.NodeName.TheVariants.{Leader}
use Rattle.topology.specs.Config.{Settings}
use Rattle.topology.specs.Counts.{NodeCounts}

pub all_of : {X : Type 0} (P : X → Type 0) (a b : List X) → AllByRecursion P a → AllByRecursion P b → AllByRecursion P (a ++ b)
all_of P [] b one two = two
all_of P (e ∷ a) b one two = (one.0, all_of P a b one.1 two)

region_leaders : (region : ℕ) (indices : List ℕ) → AllByRecursion IsLeader (map (Leader region) indices)
region_leaders region [] = tt
region_leaders region (n ∷ ns) = (tt, region_leaders region ns)

all_leaders : (region : ℕ) (counts : List NodeCounts) → AllByRecursion IsLeader (leaders_from region counts)
all_leaders region [] = tt
all_leaders region (r ∷ rs) = all_of IsLeader (map (Leader region) (range_with_len 0 r.leaders)) (leaders_from (region + 1) rs)
    (region_leaders region (range_with_len 0 r.leaders)) (all_leaders (region + 1) rs)

named_all : {N : Type 0} (P : NodeName → Type 0) (nodes : List (Named N)) → AllByRecursion P (node_names nodes) → EachIs (λ name node. P name) nodes
named_all P [] all place name node at = absurd (cc)
named_all P (n ∷ ns) all zero name node at = subst P (ap (λ m. m.name) (one_some n (named name node) at)) all.0
named_all P (n ∷ ns) all (suc place) name node at = named_all P ns all.1 place name node at

pub leaders_are : (s : Settings) (f : Fleet) → IsFleetOf s f → EachIs (λ name node. IsLeader name) f.leaders
leaders_are s f is = named_all IsLeader f.leaders (subst (AllByRecursion IsLeader) (sym is.leader_names) (all_leaders 0 (regions_of s)))
