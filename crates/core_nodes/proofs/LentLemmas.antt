-- The stages of a read, where the nodes were lent as slices.
use Rattle.std.proofs.Common.{◌≡◌, ℕ, Bool, List, Option, IfOk, OnErr, Result, sym, subst}
use Rattle.cache_items.specs.Node.{Node}
use Rattle.cache_items.specs.declared.look.Kept.{Kept}
use Rattle.cache_node.specs.Answered.{ViewAnswers}
use Rattle.follower_cache.specs.Seen.{FollowerState}
use Rattle.core_model.specs.leader_tier.LeaderReads.{IsLegalAt}
use Rattle.node_name.specs.declared.NodeName.{NodeName}
use Rattle.sealed_item.specs.Fills.{SealedItem}
use Rattle.shard_tables.specs.StoreView.{Store}
use Rattle.shard_tables.specs.declared.leader_answer.LeaderAnswer.{LeaderAnswer}
use Rattle.shard_tables.specs.declared.refusal.StoreRefusal.{StoreRefusal}
use Rattle.tao_base.specs.Queries.{query_key, query_shard}
use Rattle.tao_base.specs.declared.memory.OutOfMemory.{OutOfMemory}
use Rattle.tao_base.specs.declared.query.Answer.{Answer}
use Rattle.tao_base.specs.declared.query.Query.{Query}
use Rattle.tao_keeper.specs.KeeperState.{KeeperState, KeepsTables}
use Rattle.tao_schema.specs.Schema.{types_of}
use Rattle.tao_schema.specs.declared.schema.Schema.{Schema}
use Rattle.topology.specs.Config.{Settings}
use Rattle.core_model.specs.Consistent.{IsConsistent, IsFleetOf}
use Rattle.core_model.specs.Fleet.{ChangesNode, Fleet}
use Rattle.core_model.specs.Pens.{pens_of}
use Rattle.core_model.specs.Reads.{AsksAtOnce, EndsAsk, IsGivenFill, KeepsFill, LeaderAnswers, Wanted, store_calls, taken_fill}
use Rattle.core_model.specs.Serving.{IsFollowerFor}
use Rattle.core_model.specs.declared.named.Named.{Named}
use Rattle.node_stages.specs.Stages.{FollowerDoes, LeaderDoes, LooksTrue}
use Rattle.core_nodes.specs.declared.fleet.Fleet.TheInside.{Inside}
use Rattle.node_stages.specs.declared.reads.FirstLook.{FirstLook}
use Rattle.core_nodes.proofs.AskLemmas.{AskStep, AskedLeader, ask_step, nodes_call}
use Rattle.core_nodes.proofs.ReadLemmas.{AtOnceStep, EndStep, KeepStep, LookStep, at_once_step, brought_fill, end_step, keep_step, look_step}
use Rattle.core_nodes.proofs.ViewLemmas.{LendsBoth, LendsFollowers, after_both, after_followers, both_after, followers_after}

pub look_lent : (s : Settings) (schema : Schema) (name : NodeName) (read : Wanted) (inside : Inside) (old : Fleet) (lent left : List (Named FollowerState))
    (r : Result FirstLook OutOfMemory) → LendsFollowers inside old lent left → schema ≡ s.schema → IsFleetOf s old
    → IsFollowerFor s (query_shard read.query) name
    → IfOk r (λ first. ChangesNode name (FollowerDoes (LooksTrue (types_of schema) read first.look first.ask)) lent left)
    → OnErr r (left ≡ lent)
    → LookStep s name read old (after_followers inside left) r
look_lent s schema name read inside old lent left r lends of fleet for change err =
    let Looks : Schema → List (Named FollowerState) → Type 0 =
    λ k xs. IfOk r (λ first. ChangesNode name (FollowerDoes (LooksTrue (types_of k) read first.look first.ask)) xs left) in
    let looks = subst (λ k. Looks k old.followers) of (subst (Looks schema) lends.own change) in
    subst (λ n. LookStep s name read old n r) (sym (followers_after inside old lent left lends))
    (look_step s name read old left r fleet for looks (subst (λ xs. OnErr r (left ≡ xs)) lends.own err))

pub ask_lent : (tells : Bool) (s : Settings) (schema : Schema) (asked : AskedLeader) (read : Wanted) (before after : KeeperState) (inside : Inside)
    (old : Fleet)
    (lent left : List (Named Node))
    (stores same : List Store) (r : Result LeaderAnswer StoreRefusal) → LendsBoth inside old lent left stores same → schema ≡ s.schema
    → IsConsistent tells s before.told old
    → IfOk r (λ given. ChangesNode asked.leader
    (LeaderDoes (LeaderAnswers (types_of schema) read given (store_calls asked.region stores before after))) lent left)
    → IfOk r (IsLegalAt (types_of schema) read.query read.floor) → OnErr r (left ≡ lent) → KeepsTables tells before after
    → AskStep tells s asked read (nodes_call before after old (after_both inside left same)) r
ask_lent tells s schema asked read before after inside old lent left stores same r lends of is change legal err stays =
    let Gives : Schema → List Store → List (Named Node) → Type 0 =
    λ k ms xs. IfOk r (λ given. ChangesNode asked.leader
    (LeaderDoes (LeaderAnswers (types_of k) read given (store_calls asked.region ms before after))) xs left) in
    let gives = subst (λ k. Gives k old.stores old.leaders) of
    (subst (λ ms. Gives schema ms old.leaders) lends.own (subst (Gives schema stores) lends.leaders.own change)) in
    subst (λ n. AskStep tells s asked read (nodes_call before after old n) r) (sym (both_after inside old lent left stores same lends))
    (ask_step tells s asked read before after old left r is gives (subst (λ k. IfOk r (IsLegalAt (types_of k) read.query read.floor)) of legal)
    (subst (λ xs. OnErr r (left ≡ xs)) lends.leaders.own err) stays)

pub keep_lent : (s : Settings) (schema : Schema) (name : NodeName) (read : Wanted) (ask : Option ℕ) (fill : SealedItem) (inside : Inside) (old : Fleet)
    (lent left : List (Named FollowerState))
    (r : Result (Answer × Kept) OutOfMemory) → LendsFollowers inside old lent left → schema ≡ s.schema → IsFleetOf s old
    → IsGivenFill (types_of s.schema) (pens_of old.stores) read fill
    → IfOk r (λ a. ChangesNode name (FollowerDoes (KeepsFill (types_of schema) read.query (taken_fill ask fill a.0 a.1))) lent left)
    → OnErr r (ChangesNode name (FollowerDoes (EndsAsk ask)) lent left) → IfOk r (λ a. ViewAnswers (types_of schema) fill.note read.query a.0 fill.version)
    → KeepStep s name (brought_fill read ask fill) old (after_followers inside left) r
keep_lent s schema name read ask fill inside old lent left r lends of fleet given change err answers =
    let Keeps : Schema → List (Named FollowerState) → Type 0 =
    λ k xs. IfOk r (λ a. ChangesNode name (FollowerDoes (KeepsFill (types_of k) read.query (taken_fill ask fill a.0 a.1))) xs left) in
    let keeps = subst (λ k. Keeps k old.followers) of (subst (Keeps schema) lends.own change) in
    subst (λ n. KeepStep s name (brought_fill read ask fill) old n r) (sym (followers_after inside old lent left lends))
    (keep_step s name read ask fill old left r fleet given keeps (subst (λ xs. OnErr r (ChangesNode name (FollowerDoes (EndsAsk ask)) xs left)) lends.own err)
    (subst (λ k. IfOk r (λ a. ViewAnswers (types_of k) fill.note read.query a.0 fill.version)) of answers))

pub end_lent : (s : Settings) (name : NodeName) (ask : Option ℕ) (inside : Inside) (old : Fleet) (lent left : List (Named FollowerState))
    → LendsFollowers inside old lent left → IsFleetOf s old
    → ChangesNode name (FollowerDoes (EndsAsk ask)) lent left → EndStep s name ask old (after_followers inside left)
end_lent s name ask inside old lent left lends fleet change =
    subst (EndStep s name ask old) (sym (followers_after inside old lent left lends))
    (end_step s name ask old left fleet (subst (λ xs. ChangesNode name (FollowerDoes (EndsAsk ask)) xs left) lends.own change))

pub at_once_lent : (s : Settings) (name : NodeName) (query : Query) (ask : Option ℕ) (inside : Inside) (old : Fleet) (lent left : List (Named FollowerState))
    → LendsFollowers inside old lent left → IsFleetOf s old
    → ChangesNode name (FollowerDoes (AsksAtOnce (query_key query) ask)) lent left → AtOnceStep s name query ask old (after_followers inside left)
at_once_lent s name query ask inside old lent left lends fleet change =
    subst (AtOnceStep s name query ask old) (sym (followers_after inside old lent left lends))
    (at_once_step s name query ask old left fleet (subst (λ xs. ChangesNode name (FollowerDoes (AsksAtOnce (query_key query) ask)) xs left) lends.own change))
