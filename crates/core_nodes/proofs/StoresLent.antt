-- The nodes of a core after their stores were lent as a slice, and left with other tables or longer logs.
use Rattle.std.proofs.Common.{◌≡◌, Bool, List, length, refl, ap, sym, ◌∙◌, subst}
use Rattle.std.proofs.lemmas.List.{with_items_is}
use Rattle.shard_tables.specs.StoreView.{Store}
use Rattle.tao_keeper.specs.Growing.{LogsGrow}
use Rattle.tao_keeper.specs.Table.{Tables}
use Rattle.topology.specs.Config.{Settings}
use Rattle.core_model.specs.Consistent.{GoesOn, IsConsistent}
use Rattle.core_model.specs.Fleet.{Fleet}
use Rattle.core_model.specs.Pens.{Rise, pens_of}
use Rattle.core_model.specs.Stores.{AreStoresOf}
use Rattle.core_nodes.specs.FleetView.{fleet_seen}
use Rattle.core_nodes.specs.declared.fleet.Fleet.TheInside.{Inside}
use Rattle.core_nodes.proofs.FleetLemmas.{fleet_risen, followers_asked, followers_marked, leaders_marked, reach_grows}
use Rattle.core_nodes.proofs.ViewLemmas.{LendsStores, after_stores, stores_after}

-- they were left as they were, over other tables
pub same_lent : (tells : Bool) (s : Settings) (before after : Tables) (inside : Inside) (old : Fleet) (lent same : List Store)
    → LendsStores inside old lent same → IsConsistent tells s before old → LogsGrow tells before after → AreStoresOf tells s after same
    → IsConsistent tells s after (after_stores inside same)
same_lent tells s before after inside old lent same lends is grow are =
    subst (IsConsistent tells s after) (sym (stores_after inside old lent same lends))
    (record {
      stores = subst (AreStoresOf tells s after) (lends.is ∙ lends.own) are;
      fleet = is.fleet;
      reached = reach_grows tells before after old grow is.reached;
    })

-- what longer logs leave
pub record GrownStep (tells : Bool) (s : Settings) (tables : Tables) (ys : List Store) (old new : Fleet) : Type 0 where
  pub stores_are : new.stores ≡ ys
  pub rest : new ≡ record old { stores = new.stores }
  pub consistent : IsConsistent tells s tables new
  pub goes : GoesOn old new

pub grown_lent : (tells : Bool) (s : Settings) (before after : Tables) (inside : Inside) (old : Fleet) (lent ys : List Store) → fleet_seen inside ≡ old
    → lent ≡ old.stores → length ys ≡ inside.stores.len → IsConsistent tells s before old → LogsGrow tells before after → AreStoresOf tells s after ys
    → Rise (pens_of lent) (pens_of ys) → GrownStep tells s after ys old (after_stores inside ys)
grown_lent tells s before after inside old lent ys view own long was grow are rise =
    let is : after_stores inside ys ≡ record old { stores = ys } =
    ap (λ items. record (fleet_seen inside) { stores = items }) (with_items_is inside.stores ys long) ∙ ap (λ (g : Fleet). record g { stores = ys }) view in
    let risen = subst (λ xs. Rise (pens_of xs) (pens_of ys)) own rise in
    subst (GrownStep tells s after ys old) (sym is) (record {
      stores_are = refl;
      rest = refl;
      consistent = record {
        stores = are;
        fleet = fleet_risen s old ys was.fleet risen;
        reached = reach_grows tells before after (record old { stores = ys }) grow
            (λ told. record { leaders = (was.reached told).leaders; followers = (was.reached told).followers });
      };
      goes = record {
        rise = risen;
        leaders = refl;
        followers = refl;
        asks = followers_asked old.followers;
        marks = record { leaders = leaders_marked old.leaders; followers = followers_marked old.followers };
      };
    })
