-- The stages of a read leave each item that isn't of its key, but for the last one of a node that keeps a fill.
use Rattle.std.proofs.Common.{◌≡◌, ◌≢◌, ◌⊎◌, ◌-◌, ℕ, List, Bool, true, false, Option, Some, None, refl, sym, ap, ◌∙◌, subst, inl, inr}
use Rattle.cache_items.specs.Node.{Node, item_at, with_ended_ask}
use Rattle.cache_items.specs.declared.look.Look.{Look}
use Rattle.cache_items.specs.declared.look.Look.TheVariants.{Hit, Miss}
use Rattle.core_model.specs.Fleet.{ChangesNode, EachNode, Fleet}
use Rattle.core_model.specs.Items.{IsOfRead}
use Rattle.core_model.specs.Pens.{Pens, pens_of}
use Rattle.core_model.specs.Reads.{AfterLook, EndsAsk, IsGivenAnswer, LeaderAnswers, LooksFirst, StoreCalls, Wanted}
use Rattle.core_model.specs.declared.named.Named.{Named}
use Rattle.core_plans.proofs.InTurn.{read_same}
use Rattle.core_plans.proofs.ReadRefusals.{over_refused}
use Rattle.core_plans.proofs.WholeRuns.{OfRead, read_keeps}
use Rattle.core_plans.specs.HeldReads.{AsksMaster, ChangesFollowers, ComesOfRead, DoesAsk, DoesKeep, DoesLook, DoesReadStage, EndsItsAsk, EndsRead}
use Rattle.core_plans.specs.HeldReads.{MastersInVain, StandsSo, read_is_down, route_by, wanted_by}
use Rattle.core_plans.specs.LedBy.{Rules}
use Rattle.core_plans.specs.Needs.{asked_of_read}
use Rattle.core_plans.specs.WholeCalls.{CarriesOut, PassesStage}
use Rattle.core_plans.specs.declared.held.HeldPlan.{HeldPlan}
use Rattle.core_plans.specs.declared.held.HeldPlan.TheVariants.{Read, Write}
use Rattle.core_steps.specs.ReadSteps.{IsNotGiven, IsNotRead}
use Rattle.core_steps.specs.Reads.{AnswersThere}
use Rattle.core_steps.specs.World.{World}
use Rattle.follower_cache.specs.Seen.{FollowerState}
use Rattle.headline_kept.proofs.Caches.{EachCache, each_of_one, each_rests, each_so, each_then}
use Rattle.headline_kept.proofs.ItemOps.{answered_keeps, filled_keeps, first_of, hit_keeps}
use Rattle.headline_kept.specs.Touches.{KeepsButLast, KeepsFirst}
use Rattle.node_name.specs.declared.NodeName.{NodeName}
use Rattle.node_name.specs.declared.NodeName.TheVariants.{Store as StoreName_, Leader, Follower}
use Rattle.read_plan.specs.Readings.{Reading}
use Rattle.read_plan.specs.Standings.{after_ask, after_keep, after_look, after_master}
use Rattle.read_plan.specs.declared.end.ReadEnd.{ReadEnd}
use Rattle.read_plan.specs.declared.end.ReadEnd.TheVariants as end
use Rattle.read_plan.specs.declared.standing.Given.{Given}
use Rattle.read_plan.specs.declared.standing.Given.TheVariants.{Fill, HandedOut, Past}
use Rattle.read_plan.specs.declared.standing.Standing.{Standing}
use Rattle.read_plan.specs.declared.standing.Standing.TheVariants.{Looking, Asking, Mastering, Keeping, Ended}
use Rattle.replies.specs.declared.refusals.Refusal.{Refusal}
use Rattle.replies.specs.declared.reply.Reply.{Reply}
use Rattle.shard_tables.specs.declared.leader_answer.LeaderAnswer.{LeaderAnswer}
use Rattle.shard_tables.specs.declared.leader_answer.LeaderAnswer.TheVariants as leader
use Rattle.shard_tables.specs.declared.read_out.ReadOut.{ReadOut}
use Rattle.shard_tables.specs.declared.read_out.ReadOut.TheVariants as out
use Rattle.tao_base.specs.EdgeTypes.{EdgeTypes}
use Rattle.tao_base.specs.Queries.{query_key}
use Rattle.tao_base.specs.declared.id.Key.{Key}
use Rattle.tao_schema.specs.Schema.{types_of}
use Rattle.topology.specs.Config.{Settings}
use Rattle.topology.specs.States.{NodeStates}

-- ---- what has become of a node so far

-- the node holds the same items, and may hold as many
pub record HoldsSame (old new : Node) : Type 0 where
  pub items : new.items ≡ old.items
  pub most : new.most ≡ old.most

-- it holds each item that isn't of the key, but maybe for the last
abbrev pub HoldsOthers : Key → Node → Node → Type 0
HoldsOthers read old new = (key : Key) → key ≢ read → KeepsButLast key old new

-- it holds the same, or it is near, and holds the others
abbrev pub HoldsAt : (NodeName → Type 0) → Key → NodeName → Node → Node → Type 0
HoldsAt near read name old new = HoldsSame old new ⊎ (near name × HoldsOthers read old new)

-- so where every node may be
abbrev pub Same : NodeName → Node → Node → Type 0
Same name old new = HoldsSame old new

-- a leader has not been asked yet, or it has
abbrev pub LeaderSo : (NodeName → Type 0) → Key → Standing → NodeName → Node → Node → Type 0
LeaderSo near read Looking name old new = HoldsSame old new
LeaderSo near read Asking name old new = HoldsSame old new
LeaderSo near read Mastering name old new = HoldsAt near read name old new
LeaderSo near read (Keeping given) name old new = HoldsAt near read name old new
LeaderSo near read (Ended end) name old new = HoldsAt near read name old new

-- the follower changes as the read ends
abbrev pub FollowerSo : (NodeName → Type 0) → Key → Standing → NodeName → Node → Node → Type 0
FollowerSo near read Looking name old new = HoldsSame old new
FollowerSo near read Asking name old new = HoldsSame old new
FollowerSo near read Mastering name old new = HoldsSame old new
FollowerSo near read (Keeping given) name old new = HoldsSame old new
FollowerSo near read (Ended end) name old new = HoldsAt near read name old new

same_self : (node : Node) → HoldsSame node node
same_self node = record { items = refl; most = refl }

pub others_of : (read : Key) (old new : Node) → HoldsSame old new → HoldsOthers read old new
others_of read old new same key apart = first_of key (old.most - 1) old.items new.items (λ item is. subst (λ l. item_at l key ≡ Some item) (sym same.items) is)

-- what comes after the same
after_same : (read : Key) (old mid new : Node) → HoldsSame old mid → HoldsOthers read mid new → HoldsOthers read old new
after_same read old mid new same then key apart =
    subst (λ n. KeepsFirst (n - 1) key old.items new.items) same.most (subst (λ l. KeepsFirst (mid.most - 1) key l new.items) same.items (then key apart))

-- and the same after it
then_same : (read : Key) (old mid new : Node) → HoldsOthers read old mid → HoldsSame mid new → HoldsOthers read old new
then_same read old mid new others same key apart = subst (KeepsFirst (old.most - 1) key old.items) (sym same.items) (others key apart)

same_on : (old mid new : Node) → HoldsSame old mid → HoldsSame mid new → HoldsSame old new
same_on old mid new first second = record { items = second.items ∙ first.items; most = second.most ∙ first.most }

leader_there : (near : NodeName → Type 0) (read : Key) (at : Standing) (name : NodeName) (old new : Node) → LeaderSo near read at name old new
    → HoldsAt near read name old new
leader_there near read Looking name old new so = inl so
leader_there near read Asking name old new so = inl so
leader_there near read Mastering name old new so = so
leader_there near read (Keeping given) name old new so = so
leader_there near read (Ended end) name old new so = so

follower_there : (near : NodeName → Type 0) (read : Key) (at : Standing) (name : NodeName) (old new : Node) → FollowerSo near read at name old new
    → HoldsAt near read name old new
follower_there near read Looking name old new so = inl so
follower_there near read Asking name old new so = inl so
follower_there near read Mastering name old new so = inl so
follower_there near read (Keeping given) name old new so = inl so
follower_there near read (Ended end) name old new so = so

at_then_same : (near : NodeName → Type 0) (read : Key) (name : NodeName) (old mid new : Node) → HoldsAt near read name old mid → HoldsSame mid new
    → HoldsAt near read name old new
at_then_same near read name old mid new (inl first) same = inl (same_on old mid new first same)
at_then_same near read name old mid new (inr first) same = inr (first.0, then_same read old mid new first.1 same)

-- ---- what one node does

-- an ask that opens or ends leaves what is held
opened_same : (key : Key) (ask : Option ℕ) (old new : Node) → AfterLook key Miss ask old new → HoldsSame old new
opened_same key None old new after = record { items = ap (λ (n : Node). n.items) after.1; most = ap (λ (n : Node). n.most) after.1 }
opened_same key (Some number) old new after = record { items = ap (λ (n : Node). n.items) after.2; most = ap (λ (n : Node). n.most) after.2 }

ended_ask : (ask : Option ℕ) (node : Node) → HoldsSame node (with_ended_ask ask node)
ended_ask None node = same_self node
ended_ask (Some number) node = record { items = refl; most = refl }

ended_same : (ask : Option ℕ) (old new : FollowerState) → EndsAsk ask old new → HoldsSame old.node new.node
ended_same ask old new ends =
    subst (λ (f : FollowerState). HoldsSame old.node f.node) (sym ends) (ended_ask ask old.node)

-- what was given is for the read
of_read : (types : EdgeTypes) (pens : Pens) (read : Wanted) (given : LeaderAnswer) → IsGivenAnswer types pens read given → IsOfRead read given
of_read types pens read (leader.Filled fill) is = is.key_is
of_read types pens read (leader.Past answer version total note) is = tt
of_read types pens read (leader.Behind version) is = tt

-- ---- leaders and followers so far

pub record SoFar (near : NodeName → Type 0) (read : Key) (at : Standing) (old new : Fleet) : Type 0 where
  pub leaders : EachNode (λ name from to. LeaderSo near read at name from to) old.leaders new.leaders
  pub followers : EachNode (λ name (from : FollowerState) (to : FollowerState). FollowerSo near read at name from.node to.node) old.followers new.followers

module _ (near : NodeName → Type 0) (read : Key) (start : Fleet) where
  abbrev Leaders : Type 0
  Leaders = List (Named Node)

  abbrev Followers : Type 0
  Followers = List (Named FollowerState)

  abbrev There : NodeName → Node → Node → Type 0
  There = HoldsAt near read

  abbrev LeadersSo : (NodeName → Node → Node → Type 0) → Leaders → Type 0
  LeadersSo R now = EachNode (λ name from to. R name from to) start.leaders now

  abbrev FollowersSo : (NodeName → Node → Node → Type 0) → Followers → Type 0
  FollowersSo R now = EachNode (λ name (from : FollowerState) (to : FollowerState). R name from.node to.node) start.followers now

  leaders_later : (now : Leaders) (at : Standing) → LeadersSo (LeaderSo near read at) now → LeadersSo There now
  leaders_later now at so = each_so (λ name from to. LeaderSo near read at name from to) (λ name from to. There name from to) start.leaders now
      (λ name from to. leader_there near read at name from to) so

  leaders_rest : (R : NodeName → Node → Node → Type 0) (now next : Leaders) → next ≡ now → LeadersSo R now → LeadersSo R next
  leaders_rest R now next same so = subst (LeadersSo R) (sym same) so

  followers_rest : (R : NodeName → Node → Node → Type 0) (now next : Followers) → next ≡ now → FollowersSo R now → FollowersSo R next
  followers_rest R now next same so = subst (FollowersSo R) (sym same) so

  followers_later : (now : Followers) (at : Standing) → FollowersSo (FollowerSo near read at) now → FollowersSo There now
  followers_later now at so = each_so (λ name (from : FollowerState) (to : FollowerState). FollowerSo near read at name from.node to.node)
      (λ name from to. There name from.node to.node) start.followers now (λ name from to. follower_there near read at name from.node to.node) so

  -- a leader answers, which is near
  leaders_answer : (types : EdgeTypes) (wanted : Wanted) (given : LeaderAnswer) (calls : StoreCalls) (who : NodeName) (now next : Leaders)
      → ((name : NodeName) → name ≡ who → near name) → query_key wanted.query ≡ read → IsOfRead wanted given
      → ChangesNode who (LeaderAnswers types wanted given calls) now next → LeadersSo Same now → LeadersSo There next
  leaders_answer types wanted given calls who now next is_near key_is of change so =
      each_then (λ name from to. HoldsSame from to)
      (λ name from to. (to ≡ from) ⊎ ((name ≡ who) × LeaderAnswers types wanted given calls from to)) (λ name from to. There name from to)
      start.leaders now next
      (λ name from between to same is. elim is [
        | inl rests ↦ inl (subst (HoldsSame from) (sym rests) same)
        | inr by ↦ inr (
          is_near name by.0,
          after_same read from between to same (λ key apart. answered_keeps key types wanted given calls between to by.1 of
              (λ e. apart (e ∙ key_is))),
        )
      ])
      so (each_of_one (LeaderAnswers types wanted given calls) who now next change)

  -- a follower does something that leaves what it holds
  followers_same : (By : FollowerState → FollowerState → Type 0) (who : NodeName) (now next : Followers)
      → ((from to : FollowerState) → By from to → HoldsSame from.node to.node) → ChangesNode who By now next → FollowersSo Same now
      → FollowersSo Same next
  followers_same By who now next leaves change so =
      each_then (λ name (from : FollowerState) (to : FollowerState). HoldsSame from.node to.node)
      (λ name from to. (to ≡ from) ⊎ ((name ≡ who) × By from to)) (λ name from to. HoldsSame from.node to.node) start.followers now next
      (λ name from between to same is. elim is [
        | inl rests ↦ subst (λ (f : FollowerState). HoldsSame from.node f.node) (sym rests) same
        | inr by ↦ same_on from.node between.node to.node same (leaves between to by.1)
      ])
      so (each_of_one By who now next change)

  -- or what it holds of other keys, and is near
  followers_others : (By : FollowerState → FollowerState → Type 0) (who : NodeName) (now next : Followers) → ((name : NodeName) → name ≡ who → near name)
      → ((from to : FollowerState) → By from to → HoldsOthers read from.node to.node) → ChangesNode who By now next
      → FollowersSo Same now → FollowersSo There next
  followers_others By who now next is_near leaves change so =
      each_then (λ name (from : FollowerState) (to : FollowerState). HoldsSame from.node to.node)
      (λ name from to. (to ≡ from) ⊎ ((name ≡ who) × By from to)) (λ name from to. There name from.node to.node) start.followers now next
      (λ name from between to same is. elim is [
        | inl rests ↦ inl (subst (λ (f : FollowerState). HoldsSame from.node f.node) (sym rests) same)
        | inr by ↦ inr (is_near name by.0, after_same read from.node between.node to.node same (leaves between to by.1))
      ])
      so (each_of_one By who now next change)

  -- its ask ends
  followers_end : (ask : Option ℕ) (who : NodeName) (at : Standing) (now next : Followers) → ChangesNode who (EndsAsk ask) now next
      → FollowersSo (FollowerSo near read at) now → FollowersSo There next
  followers_end ask who at now next change so =
      each_then (λ name (from : FollowerState) (to : FollowerState). FollowerSo near read at name from.node to.node)
      (λ name from to. (to ≡ from) ⊎ ((name ≡ who) × EndsAsk ask from to)) (λ name from to. There name from.node to.node)
      start.followers now next
      (λ name from between to was is. elim is [
        | inl rests ↦ subst (λ (f : FollowerState). There name from.node f.node) (sym rests) (follower_there near read at name from.node between.node was)
        | inr by ↦ at_then_same near read name from.node between.node to.node (follower_there near read at name from.node between.node was)
            (ended_same ask between to by.1)
      ])
      so (each_of_one (EndsAsk ask) who now next change)

-- ---- a stage

module _ (s : Settings) (near : NodeName → Type 0) (p : Reading) (start : Fleet) (x : World) (q : Reading) (y : World)
    (near_follower : (name : NodeName) → name ≡ p.follower → near name)
    (near_asked : (name : NodeName) → name ≡ asked_of_read x.states p → near name) where
  abbrev read : Key
  read = query_key p.query

  abbrev types : EdgeTypes
  types = types_of s.schema

  abbrev IsNear : NodeName → Type 0
  IsNear node = (name : NodeName) → name ≡ node → near name

  -- it ends, and its ask
  ends_so : (at : Standing) (end : ReadEnd) (mid : World) → SoFar near read at start mid.fleet → EndsItsAsk p mid y → ChangesFollowers mid y
      → SoFar near read (Ended end) start y.fleet
  ends_so at end mid so ends rest = record {
    leaders = leaders_rest near read start (HoldsAt near read) mid.fleet.leaders y.fleet.leaders (ap (λ (w : World). w.fleet.leaders) rest)
        (leaders_later near read start mid.fleet.leaders at so.leaders);
    followers = followers_end near read start p.ask p.follower at mid.fleet.followers y.fleet.followers ends so.followers;
  }

  -- the fleet is as it was
  so_same : (at : Standing) (a b : Fleet) → b ≡ a → SoFar near read at start a → SoFar near read at start b
  so_same at a b same so = subst (SoFar near read at start) (sym same) so

  -- look
  look_so : (look : Look) (ask : Option ℕ) → ChangesNode p.follower (LooksFirst types (wanted_by p) look ask) x.fleet.followers y.fleet.followers
      → y.fleet.leaders ≡ x.fleet.leaders → SoFar near read Looking start x.fleet → SoFar near read (after_look false look) start y.fleet
  look_so (Hit answer version) ask looks leaders so = record {
    leaders = leaders_rest near read start (HoldsAt near read) x.fleet.leaders y.fleet.leaders leaders
        (leaders_later near read start x.fleet.leaders Looking so.leaders);
    followers = followers_others near read start _ p.follower x.fleet.followers y.fleet.followers near_follower
        (λ from to by key apart. first_of key (from.node.most - 1) from.node.items to.node.items
        (hit_keeps key read from.node to.node (ap (λ (n : Node). n.items) by.node.1)))
        looks so.followers;
  }
  look_so Miss ask looks leaders so = record {
    leaders = leaders_rest near read start Same x.fleet.leaders y.fleet.leaders leaders so.leaders;
    followers = followers_same near read start _ p.follower x.fleet.followers y.fleet.followers
        (λ from to by. opened_same read ask from.node to.node by.node) looks so.followers;
  }

  looks_so : (critical : Bool) → p.critical ≡ critical → DoesLook s critical p x q y → SoFar near read Looking start x.fleet
      → SoFar near read q.at start y.fleet
  looks_so false crit (inl there) so =
      subst (λ (r : Reading). SoFar near read r.at start y.fleet) (sym there.then)
      (subst (λ c. SoFar near read (after_look c there.look) start y.fleet) (sym crit)
      (look_so there.look there.ask there.looks (ap (λ (w : World). w.fleet.leaders) there.rest) so))
  looks_so false crit (inr vain) so =
      subst (λ (r : Reading). SoFar near read r.at start y.fleet) (sym vain.then)
      (so_same (Ended _) x.fleet y.fleet (ap (λ (w : World). w.fleet) vain.same) (record {
        leaders = leaders_later near read start x.fleet.leaders Looking so.leaders;
        followers = followers_later near read start x.fleet.followers Looking so.followers;
      }))
  looks_so true crit past so =
      subst (λ (r : Reading). SoFar near read r.at start y.fleet) (sym past.then)
      (subst (λ c. SoFar near read (after_look c Miss) start y.fleet) (sym crit) (record {
        leaders = leaders_rest near read start (HoldsAt near read) x.fleet.leaders y.fleet.leaders (ap (λ (w : World). w.fleet.leaders) past.rest)
            (leaders_later near read start x.fleet.leaders Looking so.leaders);
        followers = followers_same near read start _ p.follower x.fleet.followers y.fleet.followers
            (λ from to by. opened_same read past.ask from.node to.node by.node) past.asks so.followers;
      }))

  -- ask
  there_so : (node : NodeName) (given : LeaderAnswer) (next : World) → IsNear node → AnswersThere types node (wanted_by p) given x next
      → IsOfRead (wanted_by p) given → SoFar near read Asking start x.fleet
      → EachNode (λ name from to. HoldsAt near read name from to) start.leaders next.fleet.leaders
  there_so (Leader region index) given next is_near asks of so =
      leaders_answer near read start types (wanted_by p) given _ (Leader region index) x.fleet.leaders next.fleet.leaders is_near refl of asks so.leaders
  there_so (StoreName_ at) given next is_near asks of so =
      leaders_rest near read start (HoldsAt near read) x.fleet.leaders next.fleet.leaders asks.1
      (leaders_later near read start x.fleet.leaders Asking so.leaders)
  there_so (Follower region tier index) given next is_near asks of so = absurd asks

  given_so : (given : LeaderAnswer) → SoFar near read Mastering start y.fleet → SoFar near read (after_ask given) start y.fleet
  given_so (leader.Filled fill) so = record { leaders = so.leaders; followers = so.followers }
  given_so (leader.Past answer version total note) so = record { leaders = so.leaders; followers = so.followers }
  given_so (leader.Behind version) so = so

  -- what comes of a question that brought no answer: leaders may have changed
  not_given : (node : NodeName) (refusal : Refusal) (mid : World) → IsNear node → IsNotGiven s (route_by node p) (wanted_by p) refusal x mid
      → SoFar near read Asking start x.fleet → SoFar near read Mastering start mid.fleet
  not_given node refusal mid is_near (inl lost) so = so_same Mastering x.fleet mid.fleet (ap (λ (w : World). w.fleet) lost.rest)
      (record { leaders = leaders_later near read start x.fleet.leaders Asking so.leaders; followers = so.followers })
  not_given node refusal mid is_near (inr (inl nothing)) so = so_same Mastering x.fleet mid.fleet (ap (λ (w : World). w.fleet) nothing.rest)
      (record { leaders = leaders_later near read start x.fleet.leaders Asking so.leaders; followers = so.followers })
  not_given node refusal mid is_near (inr (inr loses)) so = record {
    leaders = there_so node loses.given mid is_near loses.asks (of_read types _ (wanted_by p) loses.given loses.given_is) so;
    followers = followers_rest near read start Same x.fleet.followers mid.fleet.followers (ap (λ (w : World). w.fleet.followers) loses.rest) so.followers;
  }

  asks_so : (node : NodeName) → IsNear node → DoesAsk s node p x q y → SoFar near read Asking start x.fleet → SoFar near read q.at start y.fleet
  asks_so node is_near (inl there) so =
      subst (λ (r : Reading). SoFar near read r.at start y.fleet) (sym there.then)
      (given_so there.given (record {
        leaders = there_so node there.given y is_near there.over.gives.asks (of_read types _ (wanted_by p) there.given there.over.given_is) so;
        followers = followers_rest near read start Same x.fleet.followers y.fleet.followers (ap (λ (w : World). w.fleet.followers) there.over.rest)
            so.followers;
      }))
  asks_so node is_near (inr vain) so =
      subst (λ (r : Reading). SoFar near read r.at start y.fleet) (sym vain.then)
      (ends_so Mastering _ vain.mid (not_given node vain.refusal vain.mid is_near vain.fails so) vain.ends vain.rest)

  -- master
  read_so : (out : ReadOut) → SoFar near read Mastering start y.fleet → SoFar near read (after_master out) start y.fleet
  read_so (out.Filled fill) so = record { leaders = so.leaders; followers = so.followers }
  read_so (out.Past answer version total note) so = record { leaders = so.leaders; followers = so.followers }

  not_read : (refusal : Refusal) (mid : World) → IsNotRead s p.follower p.query refusal x mid → mid.fleet ≡ x.fleet
  not_read refusal mid (inl lost) = ap (λ (w : World). w.fleet) lost.rest
  not_read refusal mid (inr (inl nothing)) = ap (λ (w : World). w.fleet) nothing.rest
  not_read refusal mid (inr (inr loses)) = loses.same

  masters_so : (tells : Bool) → (AsksMaster tells s p x q y ⊎ MastersInVain s p x q y) → SoFar near read Mastering start x.fleet
      → SoFar near read q.at start y.fleet
  masters_so tells (inl asks) so =
      subst (λ (r : Reading). SoFar near read r.at start y.fleet) (sym asks.then)
      (read_so asks.out (so_same Mastering x.fleet y.fleet asks.over.same so))
  masters_so tells (inr vain) so =
      subst (λ (r : Reading). SoFar near read r.at start y.fleet) (sym vain.then)
      (ends_so Mastering _ vain.mid (so_same Mastering x.fleet vain.mid.fleet (not_read vain.refusal vain.mid vain.fails) so) vain.ends vain.rest)

  -- keep
  keeps_so : (given : Given) → p.at ≡ Keeping given → StandsSo types (pens_of x.fleet.stores) (wanted_by p) (Keeping given) → DoesKeep s p given x q y
      → SoFar near read (Keeping given) start x.fleet → SoFar near read q.at start y.fleet
  keeps_so (Fill fill) at stands (inl answers) so =
      subst (λ (r : Reading). SoFar near read r.at start y.fleet) (sym answers.then)
      (subst (λ a. SoFar near read (after_keep p.bound a (Some (answers.answer, answers.kept))) start y.fleet) (sym at) (record {
        leaders = leaders_rest near read start (HoldsAt near read) x.fleet.leaders y.fleet.leaders (ap (λ (w : World). w.fleet.leaders) answers.rest)
            so.leaders;
        followers = followers_others near read start _ p.follower x.fleet.followers y.fleet.followers near_follower
            (λ from to by key apart. filled_keeps key types (wanted_by p) p.ask fill answers.answer answers.kept from to by
            (λ e. apart (e ∙ stands.key_is))) answers.keeps so.followers;
      }))
  keeps_so (Fill fill) at stands (inr vain) so =
      subst (λ (r : Reading). SoFar near read r.at start y.fleet) (sym vain.then) (ends_so (Keeping (Fill fill)) _ x so vain.ends vain.rest)
  keeps_so (Past answer version total seen) at stands hands so =
      subst (λ (r : Reading). SoFar near read r.at start y.fleet) (sym hands.then)
      (subst (λ a. SoFar near read (after_keep p.bound a None) start y.fleet) (sym at)
      (ends_so (Keeping (Past answer version total seen)) _ x so hands.ends hands.rest))
  keeps_so (HandedOut version) at stands does so = absurd does

  stage_so : (rules : Rules) → rules.settings ≡ s → (at : Standing) → p.at ≡ at → StandsSo types (pens_of x.fleet.stores) (wanted_by p) at
      → DoesReadStage rules at p x q y → SoFar near read at start x.fleet → SoFar near read q.at start y.fleet
  stage_so rules set Looking at stands does so = looks_so p.critical refl (subst (λ t. DoesLook t p.critical p x q y) set does) so
  stage_so rules set Asking at stands does so =
      asks_so (asked_of_read x.states p) near_asked (subst (λ t. DoesAsk t (asked_of_read x.states p) p x q y) set does) so
  stage_so rules set Mastering at stands does so =
      masters_so rules.tells (subst (λ t. AsksMaster rules.tells t p x q y ⊎ MastersInVain t p x q y) set does) so
  stage_so rules set (Keeping given) at stands does so = keeps_so given at stands (subst (λ t. DoesKeep t p given x q y) set does) so
  stage_so rules set (Ended end) at stands does so = absurd does

  -- it ends in place of its stage
  over_so : (reply : Reply) → EndsRead reply p x q y → SoFar near read p.at start x.fleet → SoFar near read q.at start y.fleet
  over_so reply over so =
      subst (λ a. SoFar near read a start y.fleet) (sym (over_refused reply p q x y over)) (ends_so p.at (end.Refused reply) x so over.ends over.rest)

  pub comes_so : (rules : Rules) → rules.settings ≡ s → StandsSo types (pens_of x.fleet.stores) (wanted_by p) p.at → ComesOfRead rules p x q y
      → SoFar near read p.at start x.fleet → SoFar near read q.at start y.fleet
  comes_so rules set stands (inl next) so = stage_so rules set p.at refl stands next.does so
  comes_so rules set stands (inr down) so = over_so (read_is_down down.node) down.over so

-- ---- who is asked

-- whoever is asked is asked throughout a read
module _ (states : NodeStates) (p q : Reading) (old new : World) where
  abbrev IsAsked : Type 0
  IsAsked = asked_of_read states q ≡ asked_of_read states p

  asked_taken : (ask : Option ℕ) (by : Option NodeName) (at : Standing) (hops : ℕ) (store : Bool)
      → q ≡ record p { ask = ask; by = by; at = at; hops = hops; store = store } → IsAsked
  asked_taken ask by at hops store then = ap (asked_of_read states) then

  look_asked : (s : Settings) (critical : Bool) → DoesLook s critical p old q new → IsAsked
  look_asked s false (inl looks) = asked_taken _ _ _ _ _ looks.then
  look_asked s false (inr vain) = asked_taken _ _ _ _ _ vain.then
  look_asked s true looks = asked_taken _ _ _ _ _ looks.then

  keep_asked : (s : Settings) (given : Given) → DoesKeep s p given old q new → IsAsked
  keep_asked s (Fill fill) (inl from) = asked_taken _ _ _ _ _ from.then
  keep_asked s (Fill fill) (inr vain) = asked_taken _ _ _ _ _ vain.then
  keep_asked s (Past answer version total seen) on = asked_taken _ _ _ _ _ on.then
  keep_asked s (HandedOut version) on = absurd on

  stage_asked : (rules : Rules) (at : Standing) → DoesReadStage rules at p old q new → IsAsked
  stage_asked rules Looking does = look_asked rules.settings p.critical does
  stage_asked rules Asking (inl asks) = asked_taken _ _ _ _ _ asks.then
  stage_asked rules Asking (inr vain) = asked_taken _ _ _ _ _ vain.then
  stage_asked rules Mastering (inl asks) = asked_taken _ _ _ _ _ asks.then
  stage_asked rules Mastering (inr vain) = asked_taken _ _ _ _ _ vain.then
  stage_asked rules (Keeping given) does = keep_asked rules.settings given does
  stage_asked rules (Ended end) does = absurd does

  read_asked : (rules : Rules) → ComesOfRead rules p old q new → IsAsked
  read_asked rules (inl does) = stage_asked rules p.at does.does
  read_asked rules (inr ends) = asked_taken _ _ _ _ _ ends.over.then

-- ---- one stage of a held read, and all stages of a read at once

-- so far nothing has been done
so_self : (near : NodeName → Type 0) (read : Key) (at : Standing) (f : Fleet) → SoFar near read at f f
so_self near read at f = record {
  leaders = each_rests (λ name from to. LeaderSo near read at name from to) f.leaders f.leaders (λ name node. leader_self at name node) refl;
  followers = each_rests (λ name from to. FollowerSo near read at name from.node to.node) f.followers f.followers
      (λ name node. follower_self at name node.node) refl;
}
  where
    leader_self : (at : Standing) (name : NodeName) (node : Node) → LeaderSo near read at name node node
    leader_self Looking name node = same_self node
    leader_self Asking name node = same_self node
    leader_self Mastering name node = inl (same_self node)
    leader_self (Keeping given) name node = inl (same_self node)
    leader_self (Ended end) name node = inl (same_self node)

    follower_self : (at : Standing) (name : NodeName) (node : Node) → FollowerSo near read at name node node
    follower_self Looking name node = same_self node
    follower_self Asking name node = same_self node
    follower_self Mastering name node = same_self node
    follower_self (Keeping given) name node = same_self node
    follower_self (Ended end) name node = inl (same_self node)

-- each node holds what it held, or is near and holds what it held of other keys, but maybe for its last item
abbrev pub LeavesOthers : (NodeName → Type 0) → Key → Fleet → Fleet → Type 0
LeavesOthers near read old new = EachCache (λ name from to. HoldsAt near read name from to) old new

-- a read may change items there
abbrev pub NearRead : NodeStates → Reading → NodeName → Type 0
NearRead states p name = (name ≡ p.follower) ⊎ (name ≡ asked_of_read states p)

leaves_others : (near : NodeName → Type 0) (read : Key) (at : Standing) (old new : Fleet) → SoFar near read at old new → LeavesOthers near read old new
leaves_others near read at old new so = record {
  leaders = leaders_later near read old new.leaders at so.leaders;
  followers = followers_later near read old new.followers at so.followers;
}

pub stage_leaves : (rules : Rules) (p q : Reading) (old new : World)
    → StandsSo (types_of rules.settings.schema) (pens_of old.fleet.stores) (wanted_by p) p.at → ComesOfRead rules p old q new
    → LeavesOthers (NearRead old.states p) (query_key p.query) old.fleet new.fleet
stage_leaves rules p q old new stands comes =
    let near = NearRead old.states p in
    leaves_others near (query_key p.query) q.at old.fleet new.fleet
    (comes_so rules.settings near p old.fleet old q new (λ name is. inl is) (λ name is. inr is) rules refl stands comes
    (so_self near (query_key p.query) p.at old.fleet))

-- a read that ends in place of a stage
pub over_leaves : (s : Settings) (reply : Reply) (p q : Reading) (old new : World) → EndsRead reply p old q new
    → LeavesOthers (NearRead old.states p) (query_key p.query) old.fleet new.fleet
over_leaves s reply p q old new over =
    let near = NearRead old.states p in
    leaves_others near (query_key p.query) q.at old.fleet new.fleet
    (over_so s near p old.fleet old q new (λ name is. inl is) (λ name is. inr is) reply over (so_self near (query_key p.query) p.at old.fleet))

-- a read of the key under way, and what has become of the nodes since its beginning
pub record ReadSo (s : Settings) (near : NodeName → Type 0) (read : Key) (start : Fleet) (p : Reading) (now : World) : Type 0 where
  pub key_is : query_key p.query ≡ read
  pub near_follower : (name : NodeName) → name ≡ p.follower → near name
  pub near_asked : (name : NodeName) → name ≡ asked_of_read now.states p → near name
  pub stands : StandsSo (types_of s.schema) (pens_of now.fleet.stores) (wanted_by p) p.at
  pub so : SoFar near read p.at start now.fleet

module _ (rules : Rules) (near : NodeName → Type 0) (read : Key) (start : Fleet) where
  stage_goes_on : (p q : Reading) (old new : World) → ReadSo rules.settings near read start p old → PassesStage rules (Read p) old (Read q) new
      → ReadSo rules.settings near read start q new
  stage_goes_on p q old new was passes =
      let comes = passes.steps.steps.does in
      let same = read_same p q old new rules comes in
      let asked : asked_of_read new.states q ≡ asked_of_read old.states p =
      ap (λ states. asked_of_read states q) passes.on.states ∙ read_asked old.states p q old new rules comes in
      let here = subst (λ k. SoFar near k p.at start old.fleet) (sym was.key_is) was.so in
      record {
        key_is = ap query_key same.query ∙ was.key_is;
        near_follower = λ name is. was.near_follower name (is ∙ same.follower);
        near_asked = λ name is. was.near_asked name (is ∙ asked);
        stands = passes.under_way.stands;
        so = subst (λ k. SoFar near k q.at start new.fleet) was.key_is
            (comes_so rules.settings near p start old q new was.near_follower was.near_asked rules refl was.stands comes here);
      }

  so_leaves : (q : HeldPlan) (new : World) → OfRead (ReadSo rules.settings near read start) q new → LeavesOthers near read start new.fleet
  so_leaves (Read q) new so = leaves_others near read q.at start new.fleet so.so
  so_leaves (Write q) new so = absurd so

pub whole_leaves : (rules : Rules) (p : Reading) (q : HeldPlan) (old new : World) → p.at ≡ Looking → CarriesOut rules (Read p) old q new
    → LeavesOthers (NearRead old.states p) (query_key p.query) old.fleet new.fleet
whole_leaves rules p q old new at carries =
    let read = query_key p.query in
    let near = NearRead old.states p in
    let types = types_of rules.settings.schema in
    so_leaves rules near read old.fleet q new
    (read_keeps rules (ReadSo rules.settings near read old.fleet) (stage_goes_on rules near read old.fleet) carries.stages p q old new
    (record {
      key_is = refl;
      near_follower = λ name is. inl is;
      near_asked = λ name is. inr is;
      stands = subst (StandsSo types (pens_of old.fleet.stores) (wanted_by p)) (sym at) tt;
      so = so_self near read p.at old.fleet;
    }) carries.passes)
