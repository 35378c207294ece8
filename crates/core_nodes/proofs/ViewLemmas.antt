-- The nodes of a core after some were lent as slices.
use Rattle.std.proofs.Common.{◌≡◌, List, length, ap, sym, ◌∙◌}
use Rattle.std.specs.Vec.{with_items}
use Rattle.std.proofs.lemmas.List.{with_items_is}
use Rattle.cache_items.specs.Node.{Node}
use Rattle.follower_cache.specs.Seen.{FollowerState}
use Rattle.shard_tables.specs.StoreView.{Store}
use Rattle.core_model.specs.Fleet.{Fleet}
use Rattle.core_model.specs.declared.named.Named.{Named}
use Rattle.core_nodes.specs.FleetView.{fleet_seen}
use Rattle.core_nodes.specs.declared.fleet.Fleet.TheInside.{Inside}

-- the leaders of a core
abbrev pub of_leaders : Fleet → List (Named Node)
of_leaders f = f.leaders

-- a core with these leaders in place of its own
abbrev pub put_leaders : Fleet → List (Named Node) → Fleet
put_leaders f leaders = record f { leaders = leaders }

-- the followers of a core
abbrev pub of_followers : Fleet → List (Named FollowerState)
of_followers f = f.followers

-- a core with these followers in place of its own
abbrev pub put_followers : Fleet → List (Named FollowerState) → Fleet
put_followers f followers = record f { followers = followers }

-- the leaders or the followers were lent, and some were left in their place
pub record Lends {N : Type 0} (of : Fleet → List (Named N)) (put : Fleet → List (Named N) → Fleet) (old new : Fleet) (lent left : List (Named N)) : Type 0 where
  pub own : lent ≡ of old
  pub is : new ≡ put old left

-- the followers were lent, and some were left in their place
pub record LendsFollowers (inside : Inside) (old : Fleet) (lent left : List (Named FollowerState)) : Type 0 where
  pub view : fleet_seen inside ≡ old
  pub own : lent ≡ old.followers
  pub long : length left ≡ inside.followers.len

-- the leaders were lent
pub record LendsLeaders (inside : Inside) (old : Fleet) (lent left : List (Named Node)) : Type 0 where
  pub view : fleet_seen inside ≡ old
  pub own : lent ≡ old.leaders
  pub long : length left ≡ inside.leaders.len

-- the stores were lent too, and were left as they were
pub record LendsBoth (inside : Inside) (old : Fleet) (lent left : List (Named Node)) (stores same : List Store) : Type 0 where
  pub leaders : LendsLeaders inside old lent left
  pub own : stores ≡ old.stores
  pub long : length same ≡ inside.stores.len
  pub is : same ≡ stores

-- the stores alone were lent, and were left as they were
pub record LendsStores (inside : Inside) (old : Fleet) (lent same : List Store) : Type 0 where
  pub view : fleet_seen inside ≡ old
  pub own : lent ≡ old.stores
  pub long : length same ≡ inside.stores.len
  pub is : same ≡ lent

abbrev pub after_followers : Inside → List (Named FollowerState) → Fleet
after_followers inside left = fleet_seen (record inside { followers = with_items inside.followers left })

abbrev pub after_leaders : Inside → List (Named Node) → Fleet
after_leaders inside left = fleet_seen (record inside { leaders = with_items inside.leaders left })

abbrev pub after_stores : Inside → List Store → Fleet
after_stores inside same = fleet_seen (record inside { stores = with_items inside.stores same })

abbrev pub after_both : Inside → List (Named Node) → List Store → Fleet
after_both inside left same = fleet_seen (record inside { leaders = with_items inside.leaders left; stores = with_items inside.stores same })

pub followers_after : (inside : Inside) (old : Fleet) (lent left : List (Named FollowerState)) → LendsFollowers inside old lent left
    → after_followers inside left ≡ record old { followers = left }
followers_after inside old lent left lends =
    ap (λ items. record (fleet_seen inside) { followers = items }) (with_items_is inside.followers left lends.long)
    ∙ ap (λ (g : Fleet). record g { followers = left }) lends.view

-- nothing but the followers changed
pub followers_rest : (inside : Inside) (old : Fleet) (lent left : List (Named FollowerState)) → LendsFollowers inside old lent left
    → after_followers inside left ≡ record old { followers = (after_followers inside left).followers }
followers_rest inside old lent left lends = ap (λ (g : Fleet). record g { followers = (with_items inside.followers left).items }) lends.view

-- followers that are as they were lent leave all as it was
pub followers_back : (inside : Inside) (old : Fleet) (lent left : List (Named FollowerState)) → LendsFollowers inside old lent left → left ≡ lent
    → after_followers inside left ≡ old
followers_back inside old lent left lends same =
    followers_after inside old lent left lends ∙ ap (λ items. record old { followers = items }) (same ∙ lends.own)

pub leaders_after : (inside : Inside) (old : Fleet) (lent left : List (Named Node)) → LendsLeaders inside old lent left
    → after_leaders inside left ≡ record old { leaders = left }
leaders_after inside old lent left lends =
    ap (λ items. record (fleet_seen inside) { leaders = items }) (with_items_is inside.leaders left lends.long)
    ∙ ap (λ (g : Fleet). record g { leaders = left }) lends.view

pub lent_leaders : (inside : Inside) (old : Fleet) (lent left : List (Named Node)) → LendsLeaders inside old lent left
    → Lends of_leaders put_leaders old (after_leaders inside left) lent left
lent_leaders inside old lent left lends = record { own = lends.own; is = leaders_after inside old lent left lends }

pub lent_followers : (inside : Inside) (old : Fleet) (lent left : List (Named FollowerState)) → LendsFollowers inside old lent left
    → Lends of_followers put_followers old (after_followers inside left) lent left
lent_followers inside old lent left lends = record { own = lends.own; is = followers_after inside old lent left lends }

pub both_after : (inside : Inside) (old : Fleet) (lent left : List (Named Node)) (stores same : List Store) → LendsBoth inside old lent left stores same
    → after_both inside left same ≡ record old { leaders = left }
both_after inside old lent left stores same lends =
    ap (λ items. record (fleet_seen inside) { leaders = items; stores = (with_items inside.stores same).items })
    (with_items_is inside.leaders left lends.leaders.long)
    ∙ ap (λ items. record (fleet_seen inside) { leaders = left; stores = items }) (with_items_is inside.stores same lends.long ∙ lends.is ∙ lends.own)
    ∙ ap (λ (g : Fleet). record g { leaders = left; stores = old.stores }) lends.leaders.view

pub stores_after : (inside : Inside) (old : Fleet) (lent same : List Store) → LendsStores inside old lent same → after_stores inside same ≡ old
stores_after inside old lent same lends =
    ap (λ items. record (fleet_seen inside) { stores = items }) (with_items_is inside.stores same lends.long ∙ lends.is ∙ lends.own)
    ∙ ap (λ (g : Fleet). record g { stores = old.stores }) lends.view

-- nothing but the leaders changed
pub both_rest : (inside : Inside) (old : Fleet) (lent left : List (Named Node)) (stores same : List Store) → LendsBoth inside old lent left stores same
    → after_both inside left same ≡ record old { leaders = (after_both inside left same).leaders }
both_rest inside old lent left stores same lends =
    both_after inside old lent left stores same lends
    ∙ ap (λ items. record old { leaders = items }) (sym (with_items_is inside.leaders left lends.leaders.long))

-- leaders that are as they were lent leave all as it was
pub both_back : (inside : Inside) (old : Fleet) (lent left : List (Named Node)) (stores same : List Store) → LendsBoth inside old lent left stores same
    → left ≡ lent → after_both inside left same ≡ old
both_back inside old lent left stores same lends rests =
    both_after inside old lent left stores same lends ∙ ap (λ items. record old { leaders = items }) (rests ∙ lends.leaders.own)
