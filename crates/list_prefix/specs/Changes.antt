-- What a change does to a cached list.
use Rattle.std.specs.Prelude.{ℕ, ⊤, ◌≡◌, ◌+◌, ◌-◌, ◌^◌, ◌<◌, ◌≤◌, ◌&&◌, nat_lt, is_some, if◌then◌else◌, max, min, List, length, take, Option}
use Rattle.tao_base.specs.declared.edge.Edge.{Edge}
use Rattle.tao_base.specs.declared.entry.Change.{Change}
use Rattle.tao_base.specs.declared.entry.Change.TheVariants.{PutObject, DropObject, SetEdge, CutEdge}
use Rattle.tao_base.specs.declared.entry.Entry.{Entry}
use Rattle.tao_base.specs.declared.entry.Touch.{Touch}
use Rattle.tao_base.specs.declared.id.AType.{AType}
use Rattle.tao_base.specs.declared.id.Id.{Id}
use Rattle.tao_base.specs.declared.id.Key.TheVariants.{List as Assocs}
use Rattle.graph_model.specs.Edges.{without_edge}
use Rattle.graph_model.specs.Log.{IsTouchOf}
use Rattle.graph_model.specs.Prefixes.{put_among}
use Rattle.graph_model.specs.Soundness.{IsSound}
use Rattle.list_prefix.specs.ListPrefix.{IsExactPrefix, ListPrefix, list_prefix}

-- the length, less one where the edge was live, unless that would leave it below the number of the edges
abbrev pub fallen : Option ℕ → ℕ → ℕ → ℕ
fallen was count total = if is_some was && nat_lt count total then total - 1 else total

-- the length and one more, unless it is the last number of 64 bits
abbrev pub risen : ℕ → ℕ
risen total = min (total + 1) (2 ^ 64 - 1)

-- the edges without the last, where they are more than the bound
abbrev pub shortened : ℕ → List Edge → List Edge
shortened bound edges = if nat_lt bound (length edges) then take (length edges - 1) edges else edges

-- the rest of a prefix with an edge put in: among its edges where they are the whole list or the edge comes before the last of them
abbrev pub with_edge : Edge → ListPrefix → ℕ → ListPrefix
with_edge e rest bound = list_prefix (shortened bound (put_among e rest.edges rest.total)) (risen rest.total)

-- the rest of a prefix: without the edge to an id, which was live or not
abbrev pub rest_of : Id → Option ℕ → ListPrefix → ListPrefix
rest_of id2 was p = list_prefix (without_edge id2 p.edges) (fallen was (length (without_edge id2 p.edges)) p.total)

-- the prefix after a change: the edge is taken out, and where it is set, put in again; one that is longer than the bound loses its last edge
abbrev pub prefix_after : Change → ListPrefix → ℕ → ListPrefix
prefix_after (SetEdge e was) p bound = with_edge e (rest_of e.id2 was p) bound
prefix_after (CutEdge id2 stamp was) p bound = list_prefix (shortened bound (rest_of id2 was p).edges) (rest_of id2 was p).total
prefix_after (PutObject object) p bound = p
prefix_after DropObject p bound = p

-- the change sets an edge
abbrev pub SetsEdge : Change → Type 0
SetsEdge (SetEdge e was) = ⊤
SetsEdge (CutEdge id2 stamp was) = ⊥
SetsEdge (PutObject object) = ⊥
SetsEdge DropObject = ⊥

-- where the change is that of a touch of a sound log, a prefix that is exact at the version below the touch's is exact at the touch's version after
-- it, however many edges it holds and its list has: a version is a number of 64 bits, and no length is greater. It then has no more edges than the
-- bound, or than it had
pub record StaysExact (change : Change) (old new : ListPrefix) (bound : ℕ) : Type 0 where
  pub exact : (log : List Entry) (touch : Touch) (id1 : Id) (atype : AType) (v : ℕ) → IsSound log → IsTouchOf log touch
      → touch.key ≡ Assocs id1 atype → touch.change ≡ change → touch.version ≡ v + 1 → touch.version < 2 ^ 64
      → IsExactPrefix log id1 atype v old → IsExactPrefix log id1 atype (v + 1) new
  pub bounded : length new.edges ≤ max (length old.edges) bound
