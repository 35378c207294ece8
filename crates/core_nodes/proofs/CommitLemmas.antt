-- What a commit leaves at the leader and the store that made it, and what an apply leaves at the follower.
use Rattle.std.proofs.Common.{◌≡◌, ℕ, zero, suc, ◌<◌, ◌≤◌, Bool, true, false, List, length, Option, Some, None, Result, Ok, Err, IfOk, IfSome, OnErr}
use Rattle.std.proofs.Common.{refl, ap, sym, ◌∙◌, subst, arith}
use Rattle.std.specs.Prelude.{if◌then◌else◌, slice_get, slice_set}
use Rattle.std.specs.Vec.{with_items}
use Rattle.std.proofs.lemmas.List.{with_items_is}
use Rattle.cache_items.specs.Node.{Node}
use Rattle.follower_cache.specs.Seen.{FollowerState}
use Rattle.core_model.specs.leader_tier.TakenWrites.{TakesWritten, taken_entry}
use Rattle.node_name.specs.declared.NodeName.{NodeName}
use Rattle.shard_log.proofs.Beginnings.{begins-self}
use Rattle.shard_log.specs.View.{Grows, View, as_note}
use Rattle.shard_tables.specs.StoreView.{Store}
use Rattle.shard_tables.specs.Written.{StandsIn}
use Rattle.shard_tables.specs.declared.refusal.StoreRefusal.{StoreRefusal}
use Rattle.shard_tables.specs.declared.writes.Wrote.{Wrote}
use Rattle.tao_base.specs.EdgeTypes.{EdgeTypes}
use Rattle.tao_base.specs.declared.entry.Entry.{Entry}
use Rattle.tao_base.specs.declared.id.StoreName.{StoreName}
use Rattle.tao_keeper.specs.Table.{Tables}
use Rattle.tao_schema.specs.Schema.{types_of}
use Rattle.tao_schema.specs.declared.schema.Schema.{Schema}
use Rattle.topology.specs.Config.{Settings}
use Rattle.core_model.proofs.AskingOn.{nodes_ask_on}
use Rattle.core_model.proofs.MarkingOn.{nodes_mark_on}
use Rattle.core_model.proofs.Staying.{nodes_stay}
use Rattle.core_model.proofs.Reaching.{nodes_reach}
use Rattle.core_model.proofs.Settled.{pen_of}
use Rattle.core_model.specs.Consistent.{GoesOn, HasReached, HaveReached, IsConsistent, IsFleetOf}
use Rattle.core_model.specs.Fleet.{ChangesNode, Fleet, named, region_of}
use Rattle.core_model.specs.Pens.{IsSeen, Rise, pens_of}
use Rattle.core_model.specs.Stores.{AreStoresOf, HaveMasterRegions, master_log, master_of, master_store, store_length}
use Rattle.graph_model.specs.Log.{entry_at}
use Rattle.graph_model.specs.Told.{WhereTold}
use Rattle.std.proofs.lemmas.Option.{slice_get_within}
use Rattle.tao_keeper.specs.Growing.{LogsGrow}
use Rattle.core_model.specs.Writes.{AppliesTo, IsSeenEntry}
use Rattle.core_model.specs.declared.named.Named.{Named}
use Rattle.node_stages.specs.Stages.{FollowerDoes, LeaderDoes}
use Rattle.core_nodes.specs.FleetView.{fleet_seen}
use Rattle.core_nodes.specs.Stages.{taken_by}
use Rattle.core_nodes.specs.declared.fleet.Fleet.TheInside.{Inside}
use Rattle.core_nodes.proofs.FleetLemmas.{FleetStep, fleet_risen, follower_step, leader_step}
use Rattle.core_model.proofs.NamedNodes.{all_set, changes_so}
use Rattle.core_model.proofs.Places.{set_same}
use Rattle.core_nodes.proofs.ViewLemmas.{LendsFollowers, after_both, after_followers, followers_after}

-- ---- in the words of the configuration

module _ (s : Settings) (schema : Schema) (of_s : schema ≡ s.schema) (x : Store) (shard : ℕ) (named : x.name ≡ master_store s shard)
    (limit : x.log_max ≡ s.log_max) where
  -- what is so of the store's name and bound is so of the master's
  pub of_master : (P : EdgeTypes → ℕ → StoreName → Type 0) → P (types_of schema) x.log_max x.name → P (types_of s.schema) s.log_max (master_store s shard)
  of_master P p =
      let one = subst (λ c. P (types_of c) x.log_max x.name) of_s p in
      let two = subst (λ most. P (types_of s.schema) most x.name) limit one in
      subst (P (types_of s.schema) s.log_max) named two

-- ---- the store that wrote

pub note_seen : (v : View) → Grows (as_note v) v
note_seen v = record { log_is = refl; begins = begins-self v.entries }

-- ---- commit

-- the leader and the store after it
abbrev pub Written : Settings → ℕ → Bool → List Store → Result Wrote StoreRefusal → Node → Node → Type 0
Written s shard preferred xs r = LeaderDoes (TakesWritten (types_of s.schema) shard (taken_entry preferred r) (as_note (pens_of xs shard)))

if_some : {X : Type 0} (o : Option X) (P Q : X → Type 0) → ((x : X) → P x → Q x) → IfSome o P → IfSome o Q
if_some None P Q f h = tt
if_some (Some x) P Q f h = f x h

-- where the leaders and the stores were lent as slices
nodes_with : (inside : Inside) (f : Fleet) (ls : List (Named Node)) (xs : List Store) → fleet_seen inside ≡ f → length ls ≡ inside.leaders.len
    → length xs ≡ inside.stores.len
    → after_both inside ls xs ≡ record f { leaders = ls; stores = xs }
nodes_with inside f ls xs is long many =
    ap (λ items. record (fleet_seen inside) { leaders = items; stores = (with_items inside.stores xs).items }) (with_items_is inside.leaders ls long)
    ∙ ap (λ items. record (fleet_seen inside) { leaders = ls; stores = items }) (with_items_is inside.stores xs many)
    ∙ ap (λ (g : Fleet). record g { leaders = ls; stores = xs }) is

module _ (tells : Bool) (s : Settings) (name : NodeName) (shard : ℕ) (preferred : Bool) where
  pub record CommitStep (after : Tables) (old new : Fleet) (r : Result Wrote StoreRefusal) : Type 0 where
    pub node : IfOk r (λ wrote. ChangesNode name (TakesWritten (types_of s.schema) shard (taken_by preferred wrote.entry) wrote.note) old.leaders new.leaders)
    pub err : OnErr r (new ≡ old)
    pub consistent : IsConsistent tells s after new
    pub goes : GoesOn old new
    pub followers : new.followers ≡ old.followers
    pub seen : IfOk r (λ wrote. IsSeen (pens_of new.stores) shard wrote.note)
    pub note : IfOk r (λ wrote. wrote.note ≡ as_note (pens_of new.stores shard))
    pub stands : IfOk r (λ wrote. IfSome wrote.entry (IsSeenEntry (pens_of new.stores) shard wrote.note))

  module _ (after : Tables) (old : Fleet) (ls : List (Named Node)) (xs : List Store) where
    wrote_node : (r : Result Wrote StoreRefusal) → ChangesNode name (Written s shard preferred xs r) old.leaders ls
        → IfOk r (λ wrote. wrote.note ≡ as_note (pens_of xs shard))
        → IfOk r (λ wrote. ChangesNode name (TakesWritten (types_of s.schema) shard (taken_by preferred wrote.entry) wrote.note) old.leaders ls)
    wrote_node (Ok wrote) change note =
        changes_so (Written s shard preferred xs (Ok wrote)) (TakesWritten (types_of s.schema) shard (taken_by preferred wrote.entry) wrote.note) name
        old.leaders ls
        (λ from to by. subst (λ v. TakesWritten (types_of s.schema) shard (taken_by preferred wrote.entry) v from to) (sym note) by.does) change
    wrote_node (Err e) change note = tt

    rests : (r : Result Wrote StoreRefusal) → ChangesNode name (Written s shard preferred xs r) old.leaders ls → OnErr r (xs ≡ old.stores)
        → OnErr r (record old { leaders = ls; stores = xs } ≡ old)
    rests (Ok wrote) change rest = tt
    rests (Err e) change rest =
        let same : change.to ≡ change.from = change.by.does in
        let leaders : ls ≡ old.leaders =
        change.is ∙ (ap (λ to. slice_set old.leaders change.place (named name to)) same ∙ set_same old.leaders change.place (named name change.from)
        change.stands) in
        ap (λ l. record old { leaders = l; stores = xs }) leaders ∙ ap (λ l. record old { stores = l }) rest

    note_of_pen : (r : Result Wrote StoreRefusal) → IfOk r (λ wrote. wrote.note ≡ as_note (pens_of xs shard))
        → IfOk r (λ wrote. IsSeen (pens_of xs) shard wrote.note)
    note_of_pen (Ok wrote) note = subst (λ v. Grows v (pens_of xs shard)) (sym note) (note_seen (pens_of xs shard))
    note_of_pen (Err e) note = tt

    stands_seen : (r : Result Wrote StoreRefusal) → IfOk r (λ wrote. IsSeen (pens_of xs) shard wrote.note)
        → IfOk r (λ wrote. IfSome wrote.entry (StandsIn wrote.note))
        → IfOk r (λ wrote. IfSome wrote.entry (IsSeenEntry (pens_of xs) shard wrote.note))
    stands_seen (Ok wrote) seen stands =
        if_some wrote.entry (StandsIn wrote.note) (IsSeenEntry (pens_of xs) shard wrote.note) (λ e in_note. record { seen = seen; stands = in_note }) stands
    stands_seen (Err e) seen stands = tt

    -- what was written is in the log of the master's store
    position_within : (log : List Entry) (position : ℕ) (e : Entry) → entry_at log position ≡ Some e → position ≤ length log
    position_within log zero e at = absurd (cc)
    position_within log (suc n) e at = let lt = slice_get_within log n e at in omega arith

    entry_within : (r : Result Wrote StoreRefusal) → HaveMasterRegions s → shard < s.shards → tells ≡ true → AreStoresOf true s after xs
        → IfOk r (λ wrote. wrote.note ≡ as_note (pens_of xs shard)) → IfOk r (λ wrote. IfSome wrote.entry (StandsIn wrote.note))
        → IfSome (taken_entry preferred r) (λ e. e.position ≤ store_length after (master_of s shard) shard)
    entry_within (Err e) regions here told are note stands = tt
    entry_within (Ok wrote) regions here told are note stands =
        let pen = pen_of s after xs shard regions are here in
        taken_within preferred wrote.entry
        (if_some wrote.entry (StandsIn wrote.note) (λ e. e.position ≤ store_length after (master_of s shard) shard)
        (λ e at.
        let in_note : entry_at wrote.note.entries e.position ≡ Some e = at (ap (λ (v : View). v.log.told) note ∙ pen.1) in
        let in_log : entry_at (master_log s after shard) e.position ≡ Some e =
        subst (λ (l : List Entry). entry_at l e.position ≡ Some e) (ap (λ (v : View). v.entries) note ∙ pen.0) in_note in
        position_within (master_log s after shard) e.position e in_log) stands)
      where
        taken_within : (taken : Bool) (o : Option Entry) → IfSome o (λ e. e.position ≤ store_length after (master_of s shard) shard)
            → IfSome (if taken then o else None) (λ e. e.position ≤ store_length after (master_of s shard) shard)
        taken_within true o h = h
        taken_within false o h = tt

    -- no node has marked what its region's store hasn't
    commit_reach : (before : Tables) (r : Result Wrote StoreRefusal) → region_of name ≡ master_of s shard
        → ChangesNode name (Written s shard preferred xs r) old.leaders ls
        → IfSome (taken_entry preferred r) (λ e. e.position ≤ store_length after (master_of s shard) shard) → LogsGrow true before after
        → HaveReached before old → HaveReached after (record old { leaders = ls; stores = xs })
    commit_reach before r region change within grow reached = record {
      leaders = λ place called node at.
          all_set (λ n node. HasReached after (region_of n) node) old.leaders change.place name change.to
          (λ p n x there. (nodes_reach before (region_of n)).grows after x grow (reached.leaders p n x there))
          ((nodes_reach after (region_of name)).writes (types_of s.schema) shard (taken_entry preferred r) (as_note (pens_of xs shard)) change.from change.to
          change.by.does
          (subst (λ k. IfSome (taken_entry preferred r) (λ e. e.position ≤ store_length after k shard)) (sym region) within)
          ((nodes_reach before (region_of name)).grows after change.from grow (reached.leaders change.place name change.from change.stands)))
          place called node (ap (λ l. slice_get l place) (sym change.is) ∙ at);
      followers = λ place called f at. (nodes_reach before (region_of called)).grows after f.node grow (reached.followers place called f at);
    }

    pub commit_step : (before : Tables) (r : Result Wrote StoreRefusal) → HaveMasterRegions s → shard < s.shards → region_of name ≡ master_of s shard
        → LogsGrow tells before after → WhereTold tells (HaveReached before old) → IsFleetOf s old
        → ChangesNode name (Written s shard preferred xs r) old.leaders ls → OnErr r (xs ≡ old.stores)
        → AreStoresOf tells s after xs → Rise (pens_of old.stores) (pens_of xs) → IfOk r (λ wrote. wrote.note ≡ as_note (pens_of xs shard))
        → IfOk r (λ wrote. IfSome wrote.entry (StandsIn wrote.note)) → CommitStep after old (record old { leaders = ls; stores = xs }) r
    commit_step before r regions here region grow reached fleet change rest stores rise note stands =
        let step = leader_step (Written s shard preferred xs r) s (record old { stores = xs }) name ls (fleet_risen s old xs fleet rise) change
        (λ from to by was. (nodes_stay s (pens_of xs) name).writes shard (taken_entry preferred r) (as_note (pens_of xs shard)) from to by.does
        (note_seen (pens_of xs shard)) by.apart by.truth was)
        (λ from to by. nodes_mark_on.writes (types_of s.schema) shard (taken_entry preferred r) (as_note (pens_of xs shard)) from to by.does) in
        let seen = note_of_pen r note in
        record {
          node = wrote_node r change note;
          err = rests r change rest;
          consistent = record {
            stores = stores;
            fleet = step.fleet;
            reached = λ told.
                let are : AreStoresOf true s after xs = subst (λ t. AreStoresOf t s after xs) told stores in
                commit_reach before r region change (entry_within r regions here told are note stands)
                (subst (λ t. LogsGrow t before after) told grow) (reached told);
          };
          goes = record {
            rise = rise;
            leaders = step.goes.leaders;
            followers = refl;
            asks = step.goes.asks;
            marks = record { leaders = step.goes.marks.leaders; followers = step.goes.marks.followers };
          };
          followers = refl;
          seen = seen;
          note = note;
          stands = stands_seen r seen stands;
        }

  -- the leaders and the stores were lent as slices
  pub commit_lent : (before after : Tables) (inside : Inside) (f : Fleet) (lent ls : List (Named Node)) (stores xs : List Store)
      (r : Result Wrote StoreRefusal) → fleet_seen inside ≡ f → length ls ≡ inside.leaders.len → length xs ≡ inside.stores.len → lent ≡ f.leaders
      → stores ≡ f.stores → HaveMasterRegions s → shard < s.shards → region_of name ≡ master_of s shard → LogsGrow tells before after
      → WhereTold tells (HaveReached before f) → IsFleetOf s f
      → ChangesNode name (Written s shard preferred xs r) lent ls → OnErr r (xs ≡ stores) → AreStoresOf tells s after xs → Rise (pens_of stores) (pens_of xs)
      → IfOk r (λ wrote. wrote.note ≡ as_note (pens_of xs shard)) → IfOk r (λ wrote. IfSome wrote.entry (StandsIn wrote.note))
      → CommitStep after f (after_both inside ls xs) r
  commit_lent before after inside f lent ls stores xs r is long many own own_stores regions here region grow reached fleet change rest are rise note stands =
      subst (λ g. CommitStep after f g r) (sym (nodes_with inside f ls xs is long many))
      (commit_step after f ls xs before r regions here region grow reached fleet
      (subst (λ l. ChangesNode name (Written s shard preferred xs r) l ls) own change)
      (subst (λ l. OnErr r (xs ≡ l)) own_stores rest) are (subst (λ l. Rise (pens_of l) (pens_of xs)) own_stores rise) note stands)

-- ---- apply

module _ (s : Settings) (name : NodeName) (shard : ℕ) (entry : Entry) (note : View) where
  pub record ApplyStep (old new : Fleet) : Type 0 where
    pub applies : ChangesNode name (AppliesTo (types_of s.schema) shard entry note) old.followers new.followers
    pub step : FleetStep s old new

  pub apply_step : (old : Fleet) (fs : List (Named FollowerState)) → IsFleetOf s old → IsSeen (pens_of old.stores) shard note
      → ChangesNode name (FollowerDoes (AppliesTo (types_of s.schema) shard entry note)) old.followers fs
      → ApplyStep old (record old { followers = fs })
  apply_step old fs fleet seen change = record {
    applies =
        changes_so (FollowerDoes (AppliesTo (types_of s.schema) shard entry note)) (AppliesTo (types_of s.schema) shard entry note) name old.followers
        fs (λ from to by. by.does) change;
    step =
        follower_step (FollowerDoes (AppliesTo (types_of s.schema) shard entry note)) s old name fs fleet change
        (λ from to by was. (nodes_stay s (pens_of old.stores) name).applies shard entry note from to by.does seen by.apart by.truth was)
        (λ from to by. by.does.refills)
        (λ from to by. nodes_ask_on.applies (types_of s.schema) shard entry note from to by.does)
        (λ from to by. nodes_mark_on.applies (types_of s.schema) shard entry note from to by.does);
  }

  pub apply_lent : (inside : Inside) (f : Fleet) (lent fs : List (Named FollowerState))
      → LendsFollowers inside f lent fs → IsFleetOf s f → IsSeen (pens_of f.stores) shard note
      → ChangesNode name (FollowerDoes (AppliesTo (types_of s.schema) shard entry note)) lent fs
      → ApplyStep f (after_followers inside fs)
  apply_lent inside f lent fs lends fleet seen change =
      subst (ApplyStep f) (sym (followers_after inside f lent fs lends))
      (apply_step f fs fleet seen (subst (λ l. ChangesNode name (FollowerDoes (AppliesTo (types_of s.schema) shard entry note))
      l fs) lends.own change))
