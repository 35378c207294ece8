-- What is kept has come as far as its follower's mark.
use Rattle.std.proofs.Common.{◌≡◌, ℕ, zero, suc, ◌≤◌, ◌<◌, true, Bool, List, [], ◌∷◌, Option, Some, None, refl, ap, sym, ◌∙◌, subst, inl, inr, arith}
use Rattle.std.specs.Option.{option_map_or}
use Rattle.std.specs.Prelude.{IsSome, nat_le, slice_get, take, length}
use Rattle.std.proofs.lemmas.Bool.Decides.{nat_tests}
use Rattle.std.proofs.lemmas.Bool.{cases_Bool}
use Rattle.cache_items.specs.Look.{look_of}
use Rattle.cache_items.specs.Node.{Node, item_at}
use Rattle.cache_items.specs.declared.item.Item.{Item}
use Rattle.cache_items.specs.declared.look.Look.TheVariants.{Hit, Miss}
use Rattle.cache_node.proofs.Marked.{items_reach_the_mark, low_is_marked}
use Rattle.core_model.proofs.NodesSeen.{nodes_stay_seen}
use Rattle.core_model.specs.Consistent.{IsConsistent, IsNodeOf}
use Rattle.core_model.specs.Fleet.{Fleet, IsFirstAt, named}
use Rattle.core_model.specs.Pens.{Pens, pens_of}
use Rattle.core_model.specs.Stores.{HaveMasterRegions, master_log}
use Rattle.core_plans.specs.Held.{GivesUp, IsUnderWay, StepsHeld}
use Rattle.core_plans.proofs.ReadRefusals.{over_refused}
use Rattle.core_plans.specs.HeldReads.{EndsRead, read_has_no_room}
use Rattle.core_plans.specs.declared.held.HeldPlan.{HeldPlan}
use Rattle.core_plans.specs.declared.held.HeldPlan.TheVariants as held
use Rattle.core_plans.specs.LedBy.{Rules}
use Rattle.core_steps.specs.World.{World}
use Rattle.follower_cache.specs.Seen.{FollowerState}
use Rattle.graph_model.specs.Log.{version}
use Rattle.node_name.specs.declared.NodeName.{NodeName}
use Rattle.read_plan.specs.Ends.{EndsAt, EndsWith}
use Rattle.read_plan.specs.Readings.{Reading}
use Rattle.read_plan.specs.declared.end.ReadEnd.TheVariants as ended
use Rattle.read_plan.specs.declared.standing.Standing.TheVariants.{Ended}
use Rattle.replies.specs.declared.calls.CallReply.TheVariants as called
use Rattle.replies.specs.declared.calls.ReadReply.{ReadReply}
use Rattle.replies.specs.declared.refusals.Refusal.{Refusal}
use Rattle.replies.specs.declared.refusals.Refusal.TheVariants.{Memory}
use Rattle.replies.specs.declared.reply.Reply.TheVariants.{Called, Refused}
use Rattle.sealed_item.specs.Decided.{content_answer, content_decides}
use Rattle.served_shards.specs.Served.{ServedShard, low_at, served_at}
use Rattle.tao_base.specs.EdgeTypes.{EdgeTypes}
use Rattle.tao_base.specs.Keys.{key_shard}
use Rattle.tao_base.specs.Queries.{query_key, query_shard}
use Rattle.tao_base.specs.declared.entry.Entry.{Entry}
use Rattle.tao_base.specs.declared.id.Key.{Key}
use Rattle.tao_base.specs.declared.query.Answer.{Answer}
use Rattle.tao_base.specs.declared.query.Query.{Query}
use Rattle.tao_keeper.specs.Table.{Tables}
use Rattle.tao_schema.specs.Schema.{types_of}
use Rattle.topology.specs.Config.{Settings}
use Rattle.tao_core.specs.Calls.{ReachesMark}
use Rattle.tao_core.specs.HeldCalls.{HeldReaches, Advances}
use Rattle.core_steps.proofs.ReadLemmas.{log_is}

take_within : (low n : ℕ) (xs : List Entry) → low ≤ n → take low (take n xs) ≡ take low xs
take_within zero n xs h = refl
take_within (suc k) zero xs h = absurd (omega (arith, h))
take_within (suc k) (suc n) [] h = refl
take_within (suc k) (suc n) (x ∷ xs) h = ap (λ l. x ∷ l) (take_within k n xs (omega (arith, h)))

-- an item has come as far as its node's mark, in what the pen has seen
item_reaches : (s : Settings) (pens : Pens) (name : NodeName) (node : Node) (key : Key) (item : Item) (found : Option ServedShard)
    → served_at (key_shard key) node.served ≡ found → IsSome found → IsNodeOf s pens name node → (pens (key_shard key)).log.told ≡ true
    → item_at node.items key ≡ Some item → version (take (low_at (key_shard key) node.served) (pens (key_shard key)).entries) key ≤ item.version
item_reaches s pens name node key item None at here is told held = absurd (cc)
item_reaches s pens name node key item (Some t) at here is told held =
    let seen = nodes_stay_seen.at pens (key_shard key) node.served t is.seen at in
    let own : t.view.log.told ≡ true = ap (λ l. l.told) (sym seen.log_is) ∙ told in
    let all = is.truth.told (λ other u there. is.truth.alike other (key_shard key) u t there at ∙ own) in
    let served = all.served (key_shard key) t at in
    let within = served.within t.marks.low (low_is_marked t.marks) in
    let log = (pens (key_shard key)).entries in
    let front : take t.marks.low t.view.entries ≡ take t.marks.low log =
    ap (take t.marks.low) seen.begins ∙ take_within t.marks.low (length t.view.entries) log within in
    let reaches = items_reach_the_mark.reaches t key item served (all.items key item t held at) in
    let low : low_at (key_shard key) node.served ≡ t.marks.low = ap (λ o. option_map_or (λ (u : ServedShard). u.marks.low) o 0) at in
    subst (λ n. version (take n log) key ≤ item.version) (sym low) (subst (λ l. version l key ≤ item.version) front reaches)

zero_le : (n : ℕ) → nat_le 0 n ≡ true
zero_le n = grind (arith, nat_tests)

-- a hit is read off the item that is held, at its version
hit_of : (types : EdgeTypes) (found : Option Item) (query : Query) (given : Answer) (at : ℕ) → look_of types found query 0 ≡ Hit given at
    → (item : Item) × (found ≡ Some item) × (item.version ≡ at)
hit_of types None query given at is = absurd (cc)
hit_of types (Some item) query given at is = (
  item,
  refl,
  elim (cases_Bool (content_decides types item.content query)) [
    | inl decides ↦ (let e : Hit (content_answer types item.content query) item.version ≡ Hit given at = rw (zero_le item.version, decides) at is in cc)
    | inr undecided ↦ absurd (let e : Miss ≡ Hit given at = rw (zero_le item.version, undecided) at is in cc)
  ],
)

-- a version that the follower answers again with has come as far as its mark
reaches_mark : (tells : Bool) (s : Settings) (name : NodeName) (query : Query) (given : Answer) (reached : ℕ) (new : World) → tells ≡ true
    → HaveMasterRegions s → IsConsistent tells s new.keepers.told new.fleet → query_shard query < s.shards
    → ((place : ℕ) (f : FollowerState) → IsFirstAt name new.fleet.followers place → slice_get new.fleet.followers place ≡ Some (named name f)
    → look_of (types_of s.schema) (item_at f.node.items (query_key query)) query 0 ≡ Hit given reached)
    → ReachesMark s name query reached new
reaches_mark tells s name query given reached new told masters consistent here again = λ place f first at.
    let key = query_key query in
    let held = hit_of (types_of s.schema) (item_at f.node.items key) query given reached (again place f first at) in
    let is = (consistent.fleet.followers place name f at).node in
    let log = log_is tells s new.keepers.told new.fleet.stores (key_shard key) masters consistent.stores here in
    let far = item_reaches s (pens_of new.fleet.stores) name f.node key held.0 (served_at (key_shard key) f.node.served) refl
    (is.truth.items_here key held.0 held.1) is (log.told_is ∙ told) held.1 in
    subst (λ v. version (take (low_at (key_shard key) f.node.served) (master_log s new.keepers.told (key_shard key))) key ≤ v) held.2
    (subst (λ (l : List Entry). version (take (low_at (key_shard key) f.node.served) l) key ≤ held.0.version) (log.entries_is told) far)

-- ---- a read that was held

pub held_reaches : (rules : Rules) (before after : HeldPlan) (old new : World) (tables : Tables) (f : Fleet)
    → StepsHeld rules before old after new → HaveMasterRegions rules.settings → IsConsistent rules.tells rules.settings new.keepers.told new.fleet
    → IsUnderWay rules.tells rules.settings tables f after
    → HeldReaches rules.tells rules.settings after new
held_reaches rules (held.Read p) (held.Read q) old new tables f steps masters consistent under = λ reply ends told kept.
    reaches_mark rules.tells rules.settings q.follower q.query reply.answer reply.version new told masters consistent under.follower.here
    (λ place node first at. (steps.steps.legal reply ends).1 told kept place node 0 first at (omega arith))
held_reaches rules (held.Write p) (held.Write q) old new tables f steps masters consistent under = tt
held_reaches rules (held.Read p) (held.Write q) old new tables f steps masters consistent under = tt
held_reaches rules (held.Write p) (held.Read q) old new tables f steps masters consistent under = absurd steps

-- ---- a plan that ends in place of a stage

-- a read that was refused gives no answer
refused_answers_none : (q : Reading) (refusal : Refusal) (reply : ReadReply) → q.at ≡ Ended (ended.Refused (Refused refusal))
    → EndsWith q (Called (called.Read reply)) → ⊥
refused_answers_none q refusal reply at ends =
    let none : Called (called.Read reply) ≡ Refused refusal = subst (λ x. EndsAt x q (Called (called.Read reply))) at ends in
    absurd (cc)

-- nor one that was given up
pub given_answers_none : (p q : Reading) (old new : World) → EndsRead read_has_no_room p old q new → (reply : ReadReply)
    → EndsWith q (Called (called.Read reply)) → ⊥
given_answers_none p q old new gives reply ends = refused_answers_none q (Memory 0) reply (over_refused read_has_no_room p q old new gives) ends

-- so it says nothing of what is kept
given_reaches : (tells : Bool) (s : Settings) (before after : HeldPlan) (old new : World) → GivesUp before old after new → HeldReaches tells s after new
given_reaches tells s (held.Read p) (held.Read q) old new gives = λ reply ends. absurd (given_answers_none p q old new gives reply ends)
given_reaches tells s before (held.Write q) old new gives = tt
given_reaches tells s (held.Write p) (held.Read q) old new gives = absurd gives

pub advance_reaches : (rules : Rules) (before after : HeldPlan) (old new : World) (tables : Tables) (f : Fleet) → Advances rules before old after new
    → HaveMasterRegions rules.settings → IsConsistent rules.tells rules.settings new.keepers.told new.fleet
    → IsUnderWay rules.tells rules.settings tables f after → HeldReaches rules.tells rules.settings after new
advance_reaches rules before after old new tables f (inl steps) masters consistent under =
    held_reaches rules before after old new tables f steps masters consistent under
advance_reaches rules before after old new tables f (inr ends) masters consistent under =
    given_reaches rules.tells rules.settings before after old new ends.gives
