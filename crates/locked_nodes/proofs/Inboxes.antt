-- A node's inbox is found where the node is.
use Rattle.std.proofs.Common.{◌≡◌, ℕ, List, [], ◌∷◌, Option, Some, None, refl, ap, subst, sym, ◌∙◌, inl, inr, arith, Bor}
use Rattle.std.specs.Prelude.{Contains, IfNone, IfSome, IsSomeAnd, map, option_copied, slice_get}
use Rattle.std.specs.Option.{option_map}
use Rattle.std.proofs.lemmas.Bool.{cases_lt}
use Rattle.std.proofs.lemmas.Option.{slice_get-map}
use Rattle.core_model.proofs.NamesOnce.{in_place}
use Rattle.core_model.proofs.Places.{one_some}
use Rattle.core_model.specs.Fleet.{HasNode, IsFirstAt, IsNodeOfName, named, node_names}
use Rattle.core_model.specs.declared.named.Named.{Named}
use Rattle.graph_model.proofs.Members.{contains_from_in}
use Rattle.node_name.specs.declared.NodeName.{NodeName}
use Rattle.node_name.specs.declared.NodeName.TheVariants.{Leader, Follower}
use Rattle.shared_inbox.specs.Messages.{InboxName}
use Rattle.locked_nodes.specs.Nodes.{HasNoInbox, IsInboxOf, SeenNodes}

-- what a node has, under its name
abbrev pub part_of : {N P : Type 0} → (N → P) → Named N → Named P
part_of f n = named n.name (f n.node)

names_stay : {N P : Type 0} (f : N → P) (nodes : List (Named N)) → node_names (map (part_of f) nodes) ≡ node_names nodes
names_stay f [] = refl
names_stay f (n ∷ ns) = ap (λ names. n.name ∷ names) (names_stay f ns)

named_so : {N P : Type 0} (f : N → P) (name : NodeName) (o : Option (Named N)) → IsSomeAnd o (λ n. n.name ≡ name)
    → IsSomeAnd (option_map (part_of f) o) (λ n. n.name ≡ name)
named_so f name None is = is
named_so f name (Some n) is = is

named_back : {N P : Type 0} (f : N → P) (name : NodeName) (o : Option (Named N)) → IsSomeAnd (option_map (part_of f) o) (λ n. n.name ≡ name)
    → IsSomeAnd o (λ n. n.name ≡ name)
named_back f name None is = is
named_back f name (Some n) is = is

-- the part of the node of that name stands under it
pub part_found : {N P : Type 0} (name : NodeName) (nodes : List (Named N)) (found : Option N) (f : N → P) → IsNodeOfName name nodes found
    → IsNodeOfName name (map (part_of f) nodes) (option_map f found)
part_found name nodes None f is = λ has. is (subst (λ names. Contains names name) (names_stay f nodes) has)
part_found name nodes (Some node) f is = (
  is.0,
  record {
    here = subst (λ o. IsSomeAnd o (λ n. n.name ≡ name)) (sym (slice_get-map (part_of f) nodes is.0))
        (named_so f name (slice_get nodes is.0) is.1.here);
    before = λ other below at. is.1.before other below
        (named_back f name (slice_get nodes other) (subst (λ o. IsSomeAnd o (λ n. n.name ≡ name)) (slice_get-map (part_of f) nodes other) at));
  },
  slice_get-map (part_of f) nodes is.0 ∙ ap (option_map (part_of f)) is.2,
)

-- there is one first node of a name
first_once : {N : Type 0} (name : NodeName) (nodes : List (Named N)) (p q : ℕ) → IsFirstAt name nodes p → IsFirstAt name nodes q → p ≡ q
first_once name nodes p q one two = elim (cases_lt p q) [
  | inl below ↦ absurd (two.before p below one.here)
  | inr above ↦ (elim (cases_lt q p) [
    | inl less ↦ absurd (one.before q less two.here)
    | inr more ↦ omega (arith, above, more)
  ])
]

pub node_once : {N : Type 0} (name : NodeName) (nodes : List (Named N)) (x y : N) → IsNodeOfName name nodes (Some x) → IsNodeOfName name nodes (Some y)
    → x ≡ y
node_once {N} name nodes x y one two =
    let same : one.0 ≡ two.0 = first_once name nodes one.0 two.0 one.1 two.1 in
    let both : Some (named name x) ≡ Some (named name y) = sym one.2 ∙ (ap (slice_get nodes) same ∙ two.2) in
    ap (λ (n : Named N). n.node) (one_some (named name x) (named name y) both)

-- a node that stands somewhere is one of them
has_node : {N : Type 0} (nodes : List (Named N)) (place : ℕ) (name : NodeName) (node : N) → slice_get nodes place ≡ Some (named name node) → HasNode name nodes
has_node nodes place name node stands =
    contains_from_in (node_names nodes) name
    (in_place (node_names nodes) place name (slice_get-map (λ n. n.name) nodes place ∙ ap (option_map (λ n. n.name)) stands))

none_there : {N : Type 0} (nodes : List (Named N)) (name : NodeName) (node : N) → (HasNode name nodes → ⊥) → IsNodeOfName name nodes (Some node) → ⊥
none_there nodes name node none is = none (has_node nodes is.0 name node is.2)

-- ---- the inbox that is found under a name

pub leader_inbox : (nodes : SeenNodes) (name : NodeName) (region index : ℕ) (found : Option (Bor InboxName)) → name ≡ Leader region index
    → IsNodeOfName name nodes.leaders (option_copied found)
    → IfSome found (λ inbox. IsInboxOf nodes name inbox.now) × IfNone found (HasNoInbox nodes name)
leader_inbox nodes name region index None is at =
    (tt, subst (HasNoInbox nodes) (sym is) (λ inbox. none_there nodes.leaders (Leader region index) inbox (subst (λ n. HasNode n nodes.leaders → ⊥) is at)))
leader_inbox nodes name region index (Some inbox) is at =
    (subst (λ n. IsInboxOf nodes n inbox.now) (sym is) (subst (λ n. IsNodeOfName n nodes.leaders (Some inbox.now)) is at), tt)

pub follower_inbox : (nodes : SeenNodes) (name : NodeName) (region tier index : ℕ) (found : Option (Bor InboxName)) → name ≡ Follower region tier index
    → IsNodeOfName name nodes.followers (option_copied found)
    → IfSome found (λ inbox. IsInboxOf nodes name inbox.now) × IfNone found (HasNoInbox nodes name)
follower_inbox nodes name region tier index None is at = (
  tt,
  subst (HasNoInbox nodes) (sym is) (λ inbox. none_there nodes.followers (Follower region tier index) inbox
      (subst (λ n. HasNode n nodes.followers → ⊥) is at)),
)
follower_inbox nodes name region tier index (Some inbox) is at =
    (subst (λ n. IsInboxOf nodes n inbox.now) (sym is) (subst (λ n. IsNodeOfName n nodes.followers (Some inbox.now)) is at), tt)
