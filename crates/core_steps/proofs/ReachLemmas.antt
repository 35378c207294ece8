-- What a follower does alone leaves what is consistent so: it marks nothing that its region's store hasn't.
use Rattle.std.proofs.Common.{◌≡◌, ℕ, suc, Bool, false, Option, Some, None, refl, sym, subst, arith}
use Rattle.std.proofs.lemmas.Bool.Decides.{nat_tests}
use Rattle.std.specs.Prelude.{nat_le}
use Rattle.cache_items.specs.Look.{look_of}
use Rattle.cache_items.specs.Node.{item_at}
use Rattle.cache_items.specs.declared.item.Item.{Item}
use Rattle.cache_items.specs.declared.look.Kept.{Kept}
use Rattle.cache_items.specs.declared.look.Look.{Look}
use Rattle.cache_items.specs.declared.look.Look.TheVariants.{Miss}
use Rattle.core_model.proofs.NamedNodes.{all_set}
use Rattle.core_model.proofs.Reaching.{nodes_reach}
use Rattle.core_model.specs.Consistent.{HasReached, HaveReached, IsConsistent, IsFleetOf}
use Rattle.core_model.specs.Fleet.{ChangesNode, EachIs, Fleet, region_of}
use Rattle.core_model.specs.Reads.{AsksAtOnce, EndsAsk, KeepsFill, LooksFirst, Wanted, taken_fill, wanted}
use Rattle.core_model.specs.Stores.{AreStoresOf}
use Rattle.core_model.specs.Writes.{AppliesTo}
use Rattle.core_model.specs.follower_cache.Seen.{FollowerState}
use Rattle.node_name.specs.declared.NodeName.{NodeName}
use Rattle.sealed_item.specs.Fills.{SealedItem}
use Rattle.shard_log.specs.View.{View}
use Rattle.tao_base.specs.EdgeTypes.{EdgeTypes}
use Rattle.tao_base.specs.declared.entry.Entry.{Entry}
use Rattle.tao_base.specs.Queries.{query_key}
use Rattle.tao_base.specs.declared.query.Answer.{Answer}
use Rattle.tao_base.specs.declared.query.Query.{Query}
use Rattle.tao_keeper.specs.Table.{Tables}
use Rattle.topology.specs.Config.{Settings}

-- an ask at once is what follows a look at a floor past what is held
past_held : Option Item → ℕ
past_held None = 0
past_held (Some item) = suc item.version

misses : (types : EdgeTypes) (found : Option Item) (query : Query) → Miss ≡ look_of types found query (past_held found)
unfolding past_held
misses types None query = refl
misses types (Some item) query = (let past : nat_le (suc item.version) item.version ≡ false = grind (arith, nat_tests) in rw past refl)

looks_past : (types : EdgeTypes) (query : Query) (ask : Option ℕ) (from to : FollowerState) → AsksAtOnce (query_key query) ask from to
    → LooksFirst types (wanted query (past_held (item_at from.node.items (query_key query)))) Miss ask from to
looks_past types query ask from to asks =
    record { look_is = misses types (item_at from.node.items (query_key query)) query; node = asks.node; refills = asks.refills }

module _ (tables : Tables) (name : NodeName) (old new : Fleet) (rest : new ≡ record old { followers = new.followers }) where
  -- only that follower changes, which marks nothing that its store hasn't
  pub follower_reaches : (By : FollowerState → FollowerState → Type 0) → ChangesNode name By old.followers new.followers
      → ((from to : FollowerState) → By from to → HasReached tables (region_of name) from.node → HasReached tables (region_of name) to.node)
      → HaveReached tables old → HaveReached tables new
  follower_reaches By change on reached = subst (HaveReached tables) (sym rest) (record {
    leaders = reached.leaders;
    followers = subst (EachIs (λ n f. HasReached tables (region_of n) f.node)) (sym change.is)
        (all_set (λ n f. HasReached tables (region_of n) f.node) old.followers change.place name change.to reached.followers
        (on change.from change.to change.by (reached.followers change.place name change.from change.stands)));
  })

  pub look_reaches : (types : EdgeTypes) (read : Wanted) (look : Look) (ask : Option ℕ)
      → ChangesNode name (LooksFirst types read look ask) old.followers new.followers → HaveReached tables old → HaveReached tables new
  look_reaches types read look ask change =
      follower_reaches (LooksFirst types read look ask) change ((nodes_reach tables (region_of name)).looks types read look ask)

  pub ask_reaches : (types : EdgeTypes) (query : Query) (ask : Option ℕ) → ChangesNode name (AsksAtOnce (query_key query) ask) old.followers new.followers
      → HaveReached tables old → HaveReached tables new
  ask_reaches types query ask change =
      follower_reaches (AsksAtOnce (query_key query) ask) change
      (λ from to by. (nodes_reach tables (region_of name)).looks types (wanted query (past_held (item_at from.node.items (query_key query)))) Miss ask from to
      (looks_past types query ask from to by))

  pub keep_reaches : (types : EdgeTypes) (read : Wanted) (ask : Option ℕ) (fill : SealedItem) (answer : Answer) (kept : Kept)
      → ChangesNode name (KeepsFill types read.query (taken_fill ask fill answer kept)) old.followers new.followers → HaveReached tables old
      → HaveReached tables new
  keep_reaches types read ask fill answer kept change =
      follower_reaches (KeepsFill types read.query (taken_fill ask fill answer kept)) change
      ((nodes_reach tables (region_of name)).keeps types read ask fill answer kept)

  pub end_reaches : (ask : Option ℕ) → ChangesNode name (EndsAsk ask) old.followers new.followers → HaveReached tables old → HaveReached tables new
  end_reaches ask change = follower_reaches (EndsAsk ask) change ((nodes_reach tables (region_of name)).ends ask)

  pub apply_reaches : (types : EdgeTypes) (shard : ℕ) (entry : Entry) (note : View)
      → ChangesNode name (AppliesTo types shard entry note) old.followers new.followers → HaveReached tables old → HaveReached tables new
  apply_reaches types shard entry note change =
      follower_reaches (AppliesTo types shard entry note) change ((nodes_reach tables (region_of name)).applies types shard entry note)

-- so is all of the nodes and stores
pub consistent_on : (tells : Bool) (s : Settings) (tables : Tables) (old new : Fleet) → new.stores ≡ old.stores → IsFleetOf s new
    → (HaveReached tables old → HaveReached tables new) → IsConsistent tells s tables old → IsConsistent tells s tables new
consistent_on tells s tables old new same fleet reaches is = record {
  stores = subst (AreStoresOf tells s tables) (sym same) is.stores;
  fleet = fleet;
  reached = λ told. reaches (is.reached told);
}
