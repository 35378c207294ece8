-- What settling asks of keepers and links, step by step, and why it stops.
use Rattle.std.proofs.Common.{◌≡◌, ℕ, ◌<◌, Bool, Err, IfErr, Ok, Result, Some, ap, refl, sym, ◌∙◌, subst, arith}
use Rattle.std.specs.Prelude.{⊤}
use Rattle.counts.proofs.Rises.{Rose-earlier}
use Rattle.edge_repair.specs.Carries.{FailsAt}
use Rattle.node_name.specs.declared.NodeName.{NodeName}
use Rattle.node_name.specs.declared.NodeName.TheVariants.{Store as StoreName_}
use Rattle.replies.specs.declared.refusals.UnsettledWhy.TheVariants.{KeeperFault, LinkFault, LogFull}
use Rattle.tao_keeper.proofs.Later.{keeps_trans, later_self, later_trans}
use Rattle.tao_base.specs.declared.id.StoreName.{StoreName}
use Rattle.tao_keeper.specs.KeeperState.{IsLater, KeeperState}
use Rattle.tao_link.specs.Cuts.{between}
use Rattle.tao_link.specs.Shown.{LinkShown, after_carry}
use Rattle.topology.specs.Config.{Settings}
use Rattle.core_nodes.specs.Opening.{IsUnmade}
use Rattle.core_model.specs.Fleet.{region_of}
use Rattle.core_model.specs.Stores.{region_store}
use Rattle.core_nodes.specs.Dues.{MeetsDue, StopsAtDue, due_at}
use Rattle.core_nodes.specs.Outside.{Outside, outside}
use Rattle.core_nodes.specs.Settling.{FailedToReach, IsConfiguredCache, OnlyReads, StopsCarry, StopsCatchUp, StopsLengths, StopsReads, unmade_for}
use Rattle.core_nodes.specs.declared.settling.SettleStop.{SettleStop}
use Rattle.core_nodes.specs.declared.settling.SettleStop.TheVariants.{NoServer, OutOfMemory, Unsettled}

pub reads_none : (tells : Bool) (o : Outside) → OnlyReads tells o o
reads_none tells o = record {
  tables = λ told at. refl;
  keepers = later_self o.keepers;
  link = record { carries = omega arith; faults = omega arith; cuts = refl };
}

pub reads_on : (tells : Bool) (o p q : Outside) → OnlyReads tells o p → OnlyReads tells p q → OnlyReads tells o q
reads_on tells o p q first second =
    let carries = first.link.carries in
    let more_carries = second.link.carries in
    let lost = first.link.faults in
    let more_lost = second.link.faults in
    record {
      tables = keeps_trans tells o.keepers p.keepers q.keepers first.tables second.tables;
      keepers = later_trans o.keepers p.keepers q.keepers first.keepers second.keepers;
      link = record { carries = omega arith; faults = omega arith; cuts = second.link.cuts ∙ first.link.cuts };
    }

-- what stops it later stops the whole
pub stops_later : (tells : Bool) (s : Settings) (o p q : Outside) (stop : SettleStop) → OnlyReads tells o p → StopsCatchUp s p q stop → StopsCatchUp s o q stop
stops_later tells s o p q (Unsettled shard KeeperFault) reads stops =
    (stops.0, Rose-earlier o.keepers.faults p.keepers.faults q.keepers.faults reads.keepers.faults stops.1)
stops_later tells s o p q (Unsettled shard LinkFault) reads stops =
    (stops.0, Rose-earlier o.link.faults p.link.faults q.link.faults reads.link.faults stops.1, stops.2)
stops_later tells s o p q (Unsettled shard LogFull) reads stops = absurd stops
stops_later tells s o p q (NoServer shard) reads stops = absurd stops
stops_later tells s o p q OutOfMemory reads stops = tt

-- the store of one shard gives nothing, after others were read
pub stops_lengths : (s : Settings) (start old new : KeeperState) (shard : ℕ) (stop : SettleStop) → shard < s.shards → IsLater start old
    → StopsReads shard old new stop → StopsLengths s start new stop
stops_lengths s start old new shard (Unsettled at KeeperFault) here later stops =
    (subst (λ n. n < s.shards) (sym stops.0) here, Rose-earlier start.faults old.faults new.faults later.faults stops.1)
stops_lengths s start old new shard (Unsettled at LinkFault) here later stops = absurd stops
stops_lengths s start old new shard (Unsettled at LogFull) here later stops = absurd stops
stops_lengths s start old new shard (NoServer at) here later stops = absurd stops
stops_lengths s start old new shard OutOfMemory here later stops = tt

-- without the lengths no node is made
pub unmade : (s : Settings) (old new : KeeperState) (stop : SettleStop) → StopsLengths s old new stop → IsUnmade old.faults new.faults (unmade_for stop)
unmade s old new (Unsettled shard KeeperFault) stops = stops.1
unmade s old new (Unsettled shard LinkFault) stops = absurd stops
unmade s old new (Unsettled shard LogFull) stops = absurd stops
unmade s old new (NoServer shard) stops = absurd stops
unmade s old new OutOfMemory stops = tt

-- nothing is carried to a node of the region from the region's store
pub carry_stops : (s : Settings) (at from : StoreName) (name : NodeName) (keepers : KeeperState) (old new : LinkShown) (stop : SettleStop)
    → IsConfiguredCache s name → region_of name ≡ at.region → at.shard < s.shards → from ≡ at → StopsCarry at.shard from name old new stop
    → StopsCatchUp s (outside keepers old) (outside keepers new) stop
carry_stops s at from name keepers old new stop cache of_region here same stops =
    let named : from ≡ region_store (region_of name) at.shard = same ∙ ap (λ r. region_store r at.shard) (sym of_region) in
    let reach : FailedToReach s at.shard new =
    record { name = name; cache = cache; failed = stops.1.failed ∙ ap (λ n. Some (between (StoreName_ n) name)) named } in
    subst (StopsCatchUp s (outside keepers old) (outside keepers new)) (sym stops.0) (here, stops.1.rose, reach)

-- which is where it stops
pub carry_stops_here : (at from : StoreName) (name : NodeName) (old new : LinkShown) (stop : SettleStop) → region_of name ≡ at.region → from ≡ at
    → StopsCarry at.shard from name old new stop → StopsAtDue stop (due_at name at.shard) old new
carry_stops_here at from name old new stop of_region same stops =
    let named : from ≡ region_store (region_of name) at.shard = same ∙ ap (λ r. region_store r at.shard) (sym of_region) in
    subst (λ (e : SettleStop). StopsAtDue e (due_at name at.shard) old new) (sym stops.0)
    (refl, subst (λ (n : StoreName). FailsAt (between (StoreName_ n) name) old new) named stops.1)

-- the store of that name gives nothing of its log
pub read_stops : (s : Settings) (at from : StoreName) (old new : KeeperState) (link after : LinkShown) (stop : SettleStop) → at.shard < s.shards → from ≡ at
    → StopsReads from.shard old new stop → StopsCatchUp s (outside old link) (outside new after) stop
read_stops s at from old new link after (Unsettled shard KeeperFault) here same stops =
    (subst (λ n. n < s.shards) (sym (stops.0 ∙ ap (λ (n : StoreName). n.shard) same)) here, stops.1)
read_stops s at from old new link after (Unsettled shard LinkFault) here same stops = absurd stops
read_stops s at from old new link after (Unsettled shard LogFull) here same stops = absurd stops
read_stops s at from old new link after (NoServer shard) here same stops = absurd stops
read_stops s at from old new link after OutOfMemory here same stops = tt

-- which is where it stops
pub read_stops_here : (at from : StoreName) (name : NodeName) (old new : KeeperState) (link after : LinkShown) (stop : SettleStop) → from ≡ at
    → after ≡ after_carry link → StopsReads from.shard old new stop → StopsAtDue stop (due_at name at.shard) link after
read_stops_here at from name old new link after (Unsettled shard KeeperFault) same over stops =
    (stops.0 ∙ ap (λ (n : StoreName). n.shard) same, over)
read_stops_here at from name old new link after (Unsettled shard LinkFault) same over stops = absurd stops
read_stops_here at from name old new link after (Unsettled shard LogFull) same over stops = absurd stops
read_stops_here at from name old new link after (NoServer shard) same over stops = absurd stops
read_stops_here at from name old new link after OutOfMemory same over stops = over

-- the store gave what it was asked for, or it stops there
pub meets_here : (at from : StoreName) (name : NodeName) (old new : KeeperState) (link after : LinkShown) (r : Result ⊤ SettleStop) → from ≡ at
    → after ≡ after_carry link → IfErr r (StopsReads from.shard old new) → MeetsDue (due_at name at.shard) r link after
meets_here at from name old new link after (Ok done) same over stops = over
meets_here at from name old new link after (Err stop) same over stops = read_stops_here at from name old new link after stop same over stops
