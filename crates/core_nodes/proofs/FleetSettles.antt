-- What is left of the nodes of a core where they catch up, all or some.
use Rattle.std.proofs.Common.{◌≡◌, ℕ, zero, suc, Bool, true, List, [], ◌∷◌, Ok, Err, OnOk, Result, Some, length, refl, ap, sym, ◌∙◌, subst, inl}
use Rattle.std.proofs.Common.{inr}
use Rattle.std.proofs.lemmas.List.{with_items_is}
use Rattle.std.proofs.lemmas.List.Elements.{Contains-append_left, Contains-append_right}
use Rattle.std.specs.Prelude.{Contains, slice_get}
use Rattle.std.specs.Vec.{with_items}
use Rattle.cache_items.specs.Node.{Node}
use Rattle.cache_items.specs.declared.item.Item.{Item}
use Rattle.follower_cache.specs.Seen.{FollowerState}
use Rattle.follower_cache.specs.declared.queue.Refill.{Refill}
use Rattle.graph_model.proofs.Members.{IsIn, contains_from_in}
use Rattle.graph_model.specs.Told.{WhereTold}
use Rattle.node_name.specs.declared.NodeName.{NodeName}
use Rattle.shard_tables.specs.StoreView.{Store}
use Rattle.tao_base.specs.declared.id.Key.{Key}
use Rattle.tao_keeper.specs.Table.{Stays, Tables}
use Rattle.topology.specs.Config.{Settings}
use Rattle.core_model.proofs.Places.{one_some}
use Rattle.core_model.proofs.Refilling.{followers_stay}
use Rattle.core_model.specs.Asks.{AsksGoOn}
use Rattle.topology.specs.States.{NodeStates, is_up}
use Rattle.core_model.specs.Consistent.{GoesOn, HasReached, HaveReached, IsConsistent, IsFleetOf, IsFollowerOf, IsNodeOf, MarksGoOn}
use Rattle.core_model.specs.Cuts.{ArePastCuts}
use Rattle.core_model.specs.Emptied.{region_tables}
use Rattle.core_model.specs.Fleet.{EachNode, Fleet, follower_names, leader_names, named, node_names, region_of}
use Rattle.core_model.specs.Pens.{pens_of}
use Rattle.core_model.specs.declared.named.Named.{Named}
use Rattle.node_stages.specs.Caches.{follower_node, follower_refills, leader_node, leader_refills}
use Rattle.core_nodes.specs.FleetView.{fleet_seen}
use Rattle.core_nodes.specs.Settling.{AllCatchUp, AllProcessOn, AreCaches, ByNode, CachesGoOn, CatchesUp, GoesInTurn, HaveCaughtUp, IsConfiguredCache}
use Rattle.core_nodes.specs.Settling.{ProcessesOn, SeenLogs}
use Rattle.core_nodes.specs.Settling.{WhereUp, is_last, keeps_pace, seen_logs}
use Rattle.core_nodes.specs.declared.fleet.Fleet.TheInside.{Inside}
use Rattle.core_nodes.proofs.AskLemmas.{stores_here}
use Rattle.core_nodes.proofs.CatchLemmas.{so_before}
use Rattle.core_nodes.proofs.FleetLemmas.{reach_stays, rise_self}

-- ---- the nodes before

named_in : {N : Type 0} (nodes : List (Named N)) (place : ℕ) (node : Named N) → slice_get nodes place ≡ Some node → IsIn node.name (node_names nodes)
named_in [] place node at = absurd (cc)
named_in (n ∷ ns) zero node at = inl (ap (λ m. m.name) (one_some n node at))
named_in (n ∷ ns) (suc place) node at = inr (named_in ns place node at)

named_of : {N : Type 0} (names : List NodeName) (nodes : List (Named N)) (place : ℕ) (node : Named N) → node_names nodes ≡ names
    → slice_get nodes place ≡ Some node → Contains names node.name
named_of names nodes place node are at = contains_from_in names node.name (subst (IsIn node.name) are (named_in nodes place node at))

-- each is a leader or a follower of the configuration
pub leader_named : (s : Settings) (f : Fleet) (place : ℕ) (leader : Named Node) → IsFleetOf s f → slice_get f.leaders place ≡ Some leader
    → IsConfiguredCache s leader.name
leader_named s f place leader is at =
    Contains-append_left (leader_names s) (follower_names s) leader.name (named_of (leader_names s) f.leaders place leader is.leader_names at)

pub follower_named : (s : Settings) (f : Fleet) (place : ℕ) (follower : Named FollowerState) → IsFleetOf s f → slice_get f.followers place ≡ Some follower
    → IsConfiguredCache s follower.name
follower_named s f place follower is at =
    Contains-append_right (leader_names s) (follower_names s) follower.name
    (named_of (follower_names s) f.followers place follower is.follower_names at)

-- it has marked nothing that its region's store hasn't, and lies behind no cut
pub leaders_are : (tells : Bool) (s : Settings) (tables : Tables) (f : Fleet) → IsConsistent tells s tables f → WhereTold tells (ArePastCuts tables f)
    → AreCaches leader_node (seen_logs tells s tables (pens_of f.stores)) f.leaders
leaders_are tells s tables f is past place leader at = record {
  configured = leader_named s f place leader is.fleet at;
  node = is.fleet.leaders place leader.name leader.node at;
  reached = λ told. (is.reached told).leaders place leader.name leader.node at;
  past = λ told. (past told).leaders place leader.name leader.node at;
}

pub followers_are : (tells : Bool) (s : Settings) (tables : Tables) (f : Fleet) → IsConsistent tells s tables f → WhereTold tells (ArePastCuts tables f)
    → AreCaches follower_node (seen_logs tells s tables (pens_of f.stores)) f.followers
followers_are tells s tables f is past place follower at = record {
  configured = follower_named s f place follower is.fleet at;
  node = (is.fleet.followers place follower.name follower.node at).node;
  reached = λ told. (is.reached told).followers place follower.name follower.node at;
  past = λ told. (past told).followers place follower.name follower.node at;
}

-- ---- the nodes after

-- each stands where one of its name stood
each_goes : {N : Type 0} (node : N → Node) (refills : N → List Refill) (logs : SeenLogs) (turn : NodeName → Bool)
    (By : NodeName → N → N → Type 0) (old new : List (Named N))
    → ((name : NodeName) (place : ℕ) (from to : N) → slice_get old place ≡ Some (named name from) → slice_get new place ≡ Some (named name to)
    → GoesInTurn node refills logs (turn name) (named name from) (named name to) → By name from to)
    → CachesGoOn node refills logs turn old new → EachNode By old new
each_goes {N} node refills logs turn By old new so on place name to at =
    let was = on.each place (named name to) at in
    let name_is : name ≡ was.0.name = was.2.goes.name_is in
    let stood : slice_get old place ≡ Some (named name was.0.node) = was.1 ∙ ap (λ (n : NodeName). Some (named n was.0.node)) (sym name_is) in
    let goes : GoesInTurn node refills logs (turn name) (named name was.0.node) (named name to) =
    subst (λ (n : NodeName). GoesInTurn node refills logs (turn n) (named n was.0.node) (named name to)) (sym name_is) was.2 in
    (was.0.node, stood, so name place was.0.node to stood at goes)

pub record SettleStep (tells : Bool) (s : Settings) (states : NodeStates) (tables : Tables) (old new : Fleet) : Type 0 where
  pub on : AllProcessOn tells s states tables old new
  pub stores : new.stores ≡ old.stores
  pub consistent : IsConsistent tells s tables new
  pub goes : GoesOn old new

module _ (tells : Bool) (s : Settings) (states : NodeStates) (before tables : Tables) (old : Fleet) (ls : List (Named Node))
    (fs : List (Named FollowerState)) (is : IsConsistent tells s before old) (stays : WhereTold tells (Stays before tables))
    (leaders : CachesGoOn leader_node leader_refills (seen_logs tells s before (pens_of old.stores)) (is_up states) old.leaders ls)
    (followers : CachesGoOn follower_node follower_refills (seen_logs tells s before (pens_of old.stores)) (is_up states) old.followers fs) where
  abbrev after : Fleet
  after = record old { leaders = ls; followers = fs }

  abbrev Logs : SeenLogs
  Logs = seen_logs tells s before (pens_of old.stores)

  each_leader : (By : NodeName → Node → Node → Type 0)
      → ((name : NodeName) (from to : Node) → GoesInTurn leader_node leader_refills Logs (is_up states name) (named name from) (named name to)
      → By name from to) → EachNode By old.leaders ls
  each_leader By so =
      each_goes leader_node leader_refills Logs (is_up states) By old.leaders ls (λ name place from to stood at. so name from to) leaders

  each_follower : (By : NodeName → FollowerState → FollowerState → Type 0)
      → ((name : NodeName) (from to : FollowerState)
      → GoesInTurn follower_node follower_refills Logs (is_up states name) (named name from) (named name to) → By name from to)
      → EachNode By old.followers fs
  each_follower By so =
      each_goes follower_node follower_refills Logs (is_up states) By old.followers fs (λ name place from to stood at. so name from to) followers

  later_on : (region : ℕ) (from to : Node) → ProcessesOn s (region_tables tells before region) from to
      → ProcessesOn s (region_tables tells tables region) from to
  later_on region from to on = record {
    keeps = on.keeps;
    items = on.items;
    pace = λ told. so_before (λ t. (held : Key × Item) → keeps_pace t region held ≡ true → on.keeps held ≡ true) tables before
        (λ at. sym (stays told at)) (on.pace told);
    last = λ told. so_before (λ t. (held : Key × Item) → is_last s t held ≡ true → on.keeps held ≡ true) tables before (λ at. sym (stays told at))
        (on.last told);
    marks = on.marks;
    asks = on.asks;
    most = on.most;
  }

  fleet_after : IsFleetOf s after
  fleet_after = record {
    leader_names = leaders.names ∙ is.fleet.leader_names;
    follower_names = followers.names ∙ is.fleet.follower_names;
    leaders = λ place name node at.
        (each_leader (λ called from to. IsNodeOf s (pens_of old.stores) called to) (λ called from to goes. goes.goes.goes.may.node) place name node at).2;
    followers = λ place name f at.
        (each_goes follower_node follower_refills Logs (is_up states) (λ called from to. IsFollowerOf s (pens_of old.stores) called to) old.followers fs
        (λ called k from to stood there goes.
        (followers_stay s (pens_of old.stores) called).same from to goes.goes.goes.may.node goes.goes.rest (is.fleet.followers k called from stood))
        followers place name f at).2;
  }

  reached_after : WhereTold tells (HaveReached before after)
  reached_after told = record {
    leaders = λ place name node at.
        (each_leader (λ called from to. HasReached before (region_of called) to) (λ called from to goes. goes.goes.goes.may.reached told)
        place name node at).2;
    followers = λ place name f at.
        (each_follower (λ called from to. HasReached before (region_of called) to.node) (λ called from to goes. goes.goes.goes.may.reached told)
        place name f at).2;
  }

  pub settle_step : SettleStep tells s states tables old after
  settle_step = record {
    on = record {
      leaders = each_leader (WhereUp states (λ name. ProcessesOn s (region_tables tells tables (region_of name))))
          (λ name from to goes. record {
            up = λ on. later_on (region_of name) from to goes.goes.goes.on;
            down = λ off. ap (λ (n : Named Node). n.node) (goes.same off);
          });
      followers = each_follower (WhereUp states (ByNode (λ name. ProcessesOn s (region_tables tells tables (region_of name)))))
          (λ name from to goes. record {
            up = λ on. (later_on (region_of name) from.node to.node goes.goes.goes.on, goes.goes.rest);
            down = λ off. ap (λ (n : Named FollowerState). n.node) (goes.same off);
          });
    };
    stores = refl;
    consistent = record {
      stores = stores_here tells s before tables old.stores is.stores stays;
      fleet = fleet_after;
      reached = reach_stays tells before tables after stays reached_after;
    };
    goes = record {
      rise = rise_self old.stores;
      leaders = leaders.names;
      followers = followers.names;
      asks = each_follower (λ called from to. AsksGoOn from.node.asks to.node.asks) (λ called from to goes. goes.goes.goes.asks);
      marks = record {
        leaders = each_leader (λ called. MarksGoOn) (λ called from to goes. goes.goes.goes.on.marks);
        followers = each_follower (λ called from to. MarksGoOn from.node to.node) (λ called from to goes. goes.goes.goes.on.marks);
      };
    };
  }

  pub settle_catches : tells ≡ true → HaveCaughtUp leader_node s before (is_up states) old.leaders ls
      → HaveCaughtUp follower_node s before (is_up states) old.followers fs → AllCatchUp s states tables old after
  settle_catches told first second =
      so_before (λ t. AllCatchUp s states t old after) tables before (λ at. sym (stays told at)) (record {
        leaders = each_goes leader_node leader_refills Logs (is_up states) (WhereUp states (λ name. CatchesUp s before (region_of name))) old.leaders ls
            (λ name place from to stood at goes. record {
              up = (first.each place (named name from) (named name to) stood at).caught;
              down = λ off. ap (λ (n : Named Node). n.node) (goes.same off);
            }) leaders;
        followers = each_goes follower_node follower_refills Logs (is_up states) (WhereUp states (ByNode (λ name. CatchesUp s before (region_of name))))
            old.followers fs
            (λ name place from to stood at goes. record {
              up = λ on. ((second.each place (named name from) (named name to) stood at).caught on, goes.goes.rest);
              down = λ off. ap (λ (n : Named FollowerState). n.node) (goes.same off);
            }) followers;
      })

-- what is so after two answers that are so
pub after_both_ok : {T E A B C : Type 0} (r : Result T E) → (A → B → C) → OnOk r A → OnOk r B → OnOk r C
after_both_ok (Ok t) so a b = so a b
after_both_ok (Err e) so a b = tt

-- ---- the nodes after all were lent as slices

-- what was lent of them is left so: the leaders, the followers, and the stores as they were
pub record LendsAll (inside : Inside) (old : Fleet) (ls : List (Named Node)) (fs : List (Named FollowerState)) (lent same : List Store) : Type 0 where
  pub view : fleet_seen inside ≡ old
  pub long_leaders : length ls ≡ inside.leaders.len
  pub long_followers : length fs ≡ inside.followers.len
  pub long : length same ≡ inside.stores.len
  pub own : lent ≡ old.stores
  pub is : same ≡ lent

abbrev pub after_all : Inside → List (Named Node) → List (Named FollowerState) → List Store → Fleet
after_all inside ls fs same = fleet_seen (record inside {
  leaders = with_items inside.leaders ls;
  followers = with_items inside.followers fs;
  stores = with_items inside.stores same;
})

pub all_after : (inside : Inside) (old : Fleet) (ls : List (Named Node)) (fs : List (Named FollowerState)) (lent same : List Store)
    → LendsAll inside old ls fs lent same → after_all inside ls fs same ≡ record old { leaders = ls; followers = fs }
all_after inside old ls fs lent same lends =
    ap (λ items. record (fleet_seen inside) {
      leaders = items;
      followers = (with_items inside.followers fs).items;
      stores = (with_items inside.stores same).items;
    }) (with_items_is inside.leaders ls lends.long_leaders)
    ∙ ap (λ items. record (fleet_seen inside) { leaders = ls; followers = items; stores = (with_items inside.stores same).items })
    (with_items_is inside.followers fs lends.long_followers)
    ∙ ap (λ items. record (fleet_seen inside) { leaders = ls; followers = fs; stores = items })
    (with_items_is inside.stores same lends.long ∙ lends.is ∙ lends.own)
    ∙ ap (λ (g : Fleet). record g { leaders = ls; followers = fs; stores = old.stores }) lends.view
