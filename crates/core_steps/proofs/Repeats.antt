-- What a follower answers of an item that it holds or keeps, it answers again.
use Rattle.std.proofs.Common.{◌≡◌, ℕ, ◌≤◌, true, List, Option, Some, None, refl, ap, sym, ◌∙◌, subst}
use Rattle.std.specs.Prelude.{IsSome}
use Rattle.cache_items.specs.Kept.{item_of, kept_items}
use Rattle.cache_items.specs.Look.{look_of}
use Rattle.cache_items.specs.Node.{Items, Node, item_at, with_ended_ask}
use Rattle.cache_items.specs.declared.item.Item.{Item}
use Rattle.cache_items.specs.declared.look.Kept.{Kept as KeptWhy}
use Rattle.cache_items.specs.declared.look.Kept.TheVariants as was
use Rattle.cache_items.specs.declared.look.Look.TheVariants.{Hit}
use Rattle.core_model.proofs.cache_node_lemmas.Repeating.{answers_repeat}
use Rattle.core_model.proofs.NodesSeen.{nodes_stay_seen}
use Rattle.core_model.specs.Consistent.{IsFleetOf, IsNodeOf}
use Rattle.core_model.specs.Fleet.{ChangesNode, Fleet}
use Rattle.core_model.specs.Pens.{Pens, pens_of}
use Rattle.core_model.specs.Reads.{IsGivenFill, KeepsFill, LooksFirst, Wanted, taken_fill}
use Rattle.core_model.specs.declared.named.Named.{Named}
use Rattle.core_model.specs.follower_cache.Seen.{FollowerState}
use Rattle.graph_model.specs.Told.{WhereTold}
use Rattle.node_name.specs.declared.NodeName.{NodeName}
use Rattle.read_plan.specs.Keeping.{kept_or_not, past_bound}
use Rattle.replies.specs.declared.nodes.KeptOrNot.TheVariants.{Kept}
use Rattle.sealed_item.proofs.FillLemmas.{contents_stay}
use Rattle.sealed_item.specs.Fills.{IsExactContent, IsSealed, SealedItem}
use Rattle.served_shards.specs.Served.{ServedShard, served_at}
use Rattle.tao_base.specs.EdgeTypes.{EdgeTypes}
use Rattle.tao_base.specs.Keys.{key_shard}
use Rattle.tao_base.specs.Queries.{query_key, query_shard}
use Rattle.tao_base.specs.declared.id.Key.{Key}
use Rattle.tao_base.specs.declared.query.Answer.{Answer}
use Rattle.tao_base.specs.declared.query.Query.{Query}
use Rattle.tao_schema.specs.Schema.{types_of}
use Rattle.topology.specs.Config.{Settings}

-- the follower answers the query so, with each floor that the version has
abbrev pub RepeatsHit : EdgeTypes → Query → Answer → ℕ → FollowerState → Type 0
RepeatsHit types query answer version f =
    (floor : ℕ) → floor ≤ version → look_of types (item_at f.node.items (query_key query)) query floor ≡ Hit answer version

-- a hit opened no ask
pub hit_alone : (s : Settings) (read : Wanted) (answer : Answer) (version : ℕ) (ask : Option ℕ) (from to : FollowerState)
    → LooksFirst (types_of s.schema) read (Hit answer version) ask from to → LooksFirst (types_of s.schema) read (Hit answer version) None from to
hit_alone s read answer version ask from to looks = subst (λ a. LooksFirst (types_of s.schema) read (Hit answer version) a from to) looks.node.0 looks

-- after a hit
pub hit_repeats : (types : EdgeTypes) (read : Wanted) (answer : Answer) (version : ℕ) (from to : FollowerState)
    → LooksFirst types read (Hit answer version) None from to → RepeatsHit types read.query answer version to
hit_repeats types read answer version from to looks floor le =
    subst (λ (n : Node). look_of types (item_at n.items (query_key read.query)) read.query floor ≡ Hit answer version) (sym looks.node.1)
    (answers_repeat.hit types from.node.items read.query read.floor floor version answer (sym looks.look_is) le)

-- ---- after a fill

-- an answer past the bound is never kept
pub not_past : (bound total : ℕ) (P : Type 0) → past_bound bound total ≡ Kept → P
not_past bound total P h = absurd (cc)

kept_yes : (kept : KeptWhy) → kept_or_not kept ≡ Kept → kept ≡ was.Yes
kept_yes was.Yes h = refl
kept_yes was.Asks h = absurd (cc)
kept_yes was.Lost h = absurd (cc)
kept_yes (was.Mark have need) h = absurd (cc)
kept_yes (was.Floor have need) h = absurd (cc)
kept_yes was.Memory h = absurd (cc)

ended_items : (ask : Option ℕ) (n : Node) → (with_ended_ask ask n).items ≡ n.items
ended_items None n = refl
ended_items (Some number) n = refl

-- what a node holds is exact in the log
pub held_exact : (s : Settings) (pens : Pens) (name : NodeName) (node : Node) (key : Key) (item : Item) (found : Option ServedShard)
    → served_at (key_shard key) node.served ≡ found → IsSome found → IsNodeOf s pens name node → (pens (key_shard key)).log.told ≡ true
    → item_at node.items key ≡ Some item → IsExactContent (pens (key_shard key)).entries key item.version item.content
held_exact s pens name node key item None at here is told held = absurd (cc)
held_exact s pens name node key item (Some t) at here is told held =
    let seen = nodes_stay_seen.at pens (key_shard key) node.served t is.seen at in
    let own : t.view.log.told ≡ true = ap (λ l. l.told) (sym seen.log_is) ∙ told in
    let all = is.truth.told (λ other u there. is.truth.alike other (key_shard key) u t there at ∙ own) in
    contents_stay.stays t.view (pens (key_shard key)) key item.version item.content seen (λ h. (all.items key item t held at).exact) told

-- and so is what was given
given_exact : (types : EdgeTypes) (pens : Pens) (read : Wanted) (fill : SealedItem) → IsGivenFill types pens read fill → IsSealed fill
    → (pens (query_shard read.query)).log.told ≡ true
    → IsExactContent (pens (query_shard read.query)).entries (query_key read.query) fill.version fill.content
given_exact types pens read fill given sealed told =
    let query = read.query in
    let own : fill.note.log.told ≡ true = ap (λ l. l.told) (sym given.seen.log_is) ∙ told in
    let exact = subst (λ k. IsExactContent fill.note.entries k fill.version fill.content) given.key_is (sealed own).exact in
    contents_stay.stays fill.note (pens (query_shard query)) (query_key query) fill.version fill.content given.seen (λ h. exact) told

kept_repeats : (s : Settings) (pens : Pens) (name : NodeName) (read : Wanted) (ask : Option ℕ) (fill : SealedItem) (answer : Answer) (from to : FollowerState)
    → KeepsFill (types_of s.schema) read.query (taken_fill ask fill answer was.Yes) from to → IsNodeOf s pens name from.node
    → IsGivenFill (types_of s.schema) pens read fill → IsSealed fill → (pens (query_shard read.query)).log.told ≡ true
    → RepeatsHit (types_of s.schema) read.query answer fill.version to
kept_repeats s pens name read ask fill answer from to keeps is given sealed told floor le =
    let types = types_of s.schema in
    let query = read.query in
    let key = query_key query in
    let most = (with_ended_ask ask from.node).most in
    let held : (item : Item) → item_at from.node.items key ≡ Some item → IsExactContent (pens (query_shard query)).entries key item.version item.content =
    λ item at. held_exact s pens name from.node key item (served_at (key_shard key) from.node.served) refl (is.truth.items_here key item at) is told at in
    let again = answers_repeat.kept_beside types (pens (query_shard query)).entries from.node.items most query floor fill held
    (given_exact types pens read fill given sealed told) given.decides le in
    let items : to.node.items ≡ kept_items from.node.items most key (item_of fill) =
    ap (λ (f : FollowerState). f.node.items) keeps.node_is
    ∙ ap (λ k. kept_items (with_ended_ask ask from.node).items most k (item_of fill)) given.key_is
    ∙ ap (λ xs. kept_items xs most key (item_of fill)) (ended_items ask from.node) in
    ap (λ (xs : Items). look_of types (item_at xs key) query floor) items ∙ again ∙ ap (λ a. Hit a fill.version) (sym keeps.answer_is)

-- the follower of the name does, where the log is told
pub filled_repeats : (s : Settings) (old : Fleet) (fs : List (Named FollowerState)) (name : NodeName) (read : Wanted) (ask : Option ℕ) (fill : SealedItem)
    (answer : Answer) (kept : KeptWhy)
    → IsFleetOf s old → (change : ChangesNode name (KeepsFill (types_of s.schema) read.query (taken_fill ask fill answer kept)) old.followers fs)
    → IsGivenFill (types_of s.schema) (pens_of old.stores) read fill → IsSealed fill
    → WhereTold (pens_of old.stores (query_shard read.query)).log.told
    (kept_or_not kept ≡ Kept → RepeatsHit (types_of s.schema) read.query answer fill.version change.to)
filled_repeats s old fs name read ask fill answer kept fleet change given sealed told held =
    let by : KeepsFill (types_of s.schema) read.query (taken_fill ask fill answer was.Yes) change.from change.to =
    subst (λ k. KeepsFill (types_of s.schema) read.query (taken_fill ask fill answer k) change.from change.to) (kept_yes kept held) change.by in
    kept_repeats s (pens_of old.stores) name read ask fill answer change.from change.to by
    (fleet.followers change.place name change.from change.stands).node given sealed told
