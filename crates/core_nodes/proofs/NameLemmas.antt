-- The names of a configuration's nodes, one region or tier after another.
use Rattle.std.proofs.Common.{◌≡◌, ℕ, ◌+◌, ◌<◌, List, [], ◌∷◌, ◌++◌, length, get_or, take, ap, sym, ◌∙◌, subst}
use Rattle.std.specs.Prelude.{All}
use Rattle.std.proofs.lemmas.List.Elements.{All-push, All-same}
use Rattle.std.proofs.lemmas.List.{map-append, take_more}
use Rattle.node_name.specs.declared.NodeName.{NodeName}
use Rattle.shard_tables.specs.StoreView.{Store}
use Rattle.core_model.specs.Fleet.{named, node_names}
use Rattle.core_model.specs.declared.named.Named.{Named}

-- one more node, of the next name
pub names_next : {N : Type 0} (names : List NodeName) (nodes more : List (Named N)) (place : ℕ) (d : NodeName) (node : N)
    → node_names nodes ≡ take place names → place < length names
    → more ≡ nodes ++ named (get_or names place d) node ∷ [] → node_names more ≡ take (place + 1) names
names_next names nodes more place d node so_far lt pushed =
    let name = get_or names place d in
    ap node_names pushed ∙ (map-append (λ n. n.name) nodes (named name node ∷ []) ∙ (ap (λ l. l ++ name ∷ []) so_far ∙ sym (take_more names place d lt)))

-- what is so of each node so far and of the next one
pub each_next : {N : Type 0} (Such : List Store → Named N → Type 0) (xs ys : List Store) (nodes more : List (Named N)) (n : Named N) → xs ≡ ys
    → All (Such ys) nodes
    → more ≡ nodes ++ n ∷ [] → Such xs n → All (Such ys) more
each_next Such xs ys nodes more n same each pushed such = All-same (Such ys) more (nodes ++ n ∷ []) pushed
    (All-push (Such ys) nodes n each (subst (λ l. Such l n) same such))
