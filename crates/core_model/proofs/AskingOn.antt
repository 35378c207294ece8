-- A follower's asks go on, whatever stage it does.
use Rattle.std.proofs.Common.{◌≡◌, ℕ, Bool, true, false, List, [], ◌∷◌, Option, Some, None, ap, sym, subst}
use Rattle.std.specs.Prelude.{if◌then◌else◌}
use Rattle.tao_base.specs.EdgeTypes.{EdgeTypes}
use Rattle.tao_base.specs.Keys.{key_shard}
use Rattle.tao_base.specs.Queries.{query_key}
use Rattle.tao_base.specs.declared.entry.Entry.{Entry}
use Rattle.tao_base.specs.declared.id.Key.{Key}
use Rattle.ask_table.specs.Asks.{Asks, without_asks}
use Rattle.cache_items.specs.Kept.{is_yes, item_of, took, with_item}
use Rattle.cache_items.specs.Node.{Node, caught_up, delivered, emptied, met, processed, with_ended_ask, with_opened_ask}
use Rattle.cache_items.specs.TakenEntry.{AppliesEntry}
use Rattle.cache_items.specs.declared.look.Kept.{Kept}
use Rattle.cache_items.specs.declared.look.Look.{Look}
use Rattle.cache_items.specs.declared.look.Look.TheVariants.{Hit, Miss}
use Rattle.follower_cache.specs.Seen.{FollowerState}
use Rattle.maint_msg.specs.KeyVersions.{keys_of}
use Rattle.maint_msg.specs.Maints.{SeenMaint}
use Rattle.cache_items.specs.sealed_item.Fills.{SealedItem}
use Rattle.served_shards.specs.Served.{low_at}
use Rattle.shard_log.specs.View.{View}
use Rattle.core_model.specs.Asks.{AsksGoOn}
use Rattle.core_model.specs.Emptied.{Anew, BeginsAnew}
use Rattle.core_model.specs.Laws.{NodesAskOn}
use Rattle.core_model.specs.Pens.{Pens}
use Rattle.core_model.specs.Reads.{AfterLook}
use Rattle.core_model.proofs.AsksOn.{asks_go_on, asks_stay, begins, ends, raises, raises_all}

-- the node after a stage has these asks
go_on_to : (from to mid : Node) → to ≡ mid → AsksGoOn from.asks mid.asks → AsksGoOn from.asks to.asks
go_on_to from to mid same on = subst (λ (n : Node). AsksGoOn from.asks n.asks) (sym same) on

pub looks_on : (key : Key) (look : Look) (ask : Option ℕ) (from to : Node) → AfterLook key look ask from to → AsksGoOn from.asks to.asks
looks_on key (Hit answer version) ask from to looks = subst (λ (t : Asks). AsksGoOn from.asks t) (sym (ap (λ (n : Node). n.asks) looks.1)) (asks_stay from.asks)
looks_on key Miss None from to looks = go_on_to from to from looks.1 (asks_stay from.asks)
looks_on key Miss (Some number) from to looks = go_on_to from to (with_opened_ask key from) looks.2 (begins from.asks key (low_at (key_shard key) from.served))

pub ended_on : (ask : Option ℕ) (n : Node) → AsksGoOn n.asks (with_ended_ask ask n).asks
ended_on None n = asks_stay n.asks
ended_on (Some number) n = ends n.asks number

kept_on : (fill : SealedItem) (kept : Bool) (n : Node) → AsksGoOn n.asks (if kept then with_item fill.key (item_of fill) n else n).asks
kept_on fill true n = raises n.asks fill.key fill.version
kept_on fill false n = asks_stay n.asks

pub keeps_on : (ask : Option ℕ) (fill : SealedItem) (kept : Kept) (from to : Node) → to ≡ took fill kept (with_ended_ask ask from) → AsksGoOn from.asks to.asks
keeps_on ask fill kept from to same =
    let mid : Node = with_ended_ask ask from in
    let after : Node = took fill kept mid in
    go_on_to from to after same (asks_go_on from.asks mid.asks after.asks (ended_on ask from) (kept_on fill (is_yes kept) mid))

pub ends_on : (ask : Option ℕ) (from to : Node) → to ≡ with_ended_ask ask from → AsksGoOn from.asks to.asks
ends_on ask from to same = go_on_to from to (with_ended_ask ask from) same (ended_on ask from)

pub applies_on : (types : EdgeTypes) (shard : ℕ) (entry : Entry) (note : View) (from to : Node) → AppliesEntry types shard entry note from to
    → AsksGoOn from.asks to.asks
applies_on types shard entry note from to applies =
    subst (λ (t : Asks). AsksGoOn from.asks t) (sym (ap (λ (n : Node). n.asks) applies.node_is)) (raises_all (keys_of entry) from.asks)

pub delivers_on : (m : SeenMaint) (from to : Node) → to ≡ delivered m from → AsksGoOn from.asks to.asks
delivers_on m from to same = go_on_to from to (delivered m from) same (raises_all m.keys from.asks)

caught_on : (shard : ℕ) (es : List Entry) (n : Node) → AsksGoOn n.asks (caught_up shard es n).asks
caught_on shard [] n = asks_stay n.asks
caught_on shard (e ∷ es) n =
    let once : Node = processed shard e.position (keys_of e) n in
    asks_go_on n.asks once.asks (caught_up shard es once).asks (raises_all (keys_of e) n.asks) (caught_on shard es once)

pub processes_on : (shard : ℕ) (es : List Entry) (note : View) (from to : Node) → to ≡ caught_up shard es (met shard note from) → AsksGoOn from.asks to.asks
processes_on shard es note from to same =
    let mid : Node = met shard note from in
    go_on_to from to (caught_up shard es mid) same (caught_on shard es mid)

-- no number is given again, where no ask is open
emptied_on : (t : Asks) → AsksGoOn t (without_asks t)
emptied_on t number key was = record { given = was.given; on = tt }

begins_on : (pens : Pens) (at : Anew) (from to : Node) → BeginsAnew pens at from to → AsksGoOn from.asks to.asks
begins_on pens at from to begins = go_on_to from to (emptied begins.lows begins.notes from) begins.node_is (emptied_on from.asks)

pub nodes_ask_on : NodesAskOn
nodes_ask_on = record {
  looks = λ types read look ask old new looks. looks_on (query_key read.query) look ask old.node new.node looks.node;
  keeps = λ types read ask fill answer kept old new keeps.
      keeps_on ask fill kept old.node new.node (ap (λ (f : FollowerState). f.node) keeps.node_is);
  ends = λ ask old new ends. ends_on ask old.node new.node (ap (λ (f : FollowerState). f.node) ends);
  applies = λ types shard entry note old new applies. applies_on types shard entry note old.node new.node applies.node;
  delivers = λ m dropped old new delivers. delivers_on m old new delivers.node_is;
  processes = processes_on;
  begins = begins_on;
}
