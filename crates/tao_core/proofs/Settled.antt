-- A core after a repair or a settle.
use Rattle.std.proofs.Common.{◌≡◌, ◌||◌, ◌∙◌, ℕ, Bool, true, List, [], ◌∷◌, Option, Some, None, Result, Ok, Err, ap, refl, subst, sym, inl, inr, arith}
use Rattle.std.proofs.lemmas.Bool.{cases_Bool}
use Rattle.std.specs.List.{list_any}
use Rattle.std.specs.Prelude.{⊤, ◌==◌, map}
use Rattle.ask_table.specs.declared.ask.Ask.{Ask}
use Rattle.core_mail.proofs.Arrivals.{arrived_stay}
use Rattle.core_mail.specs.Inboxes.{AreEmpty, AreInboxesOf, HaveArrived, Inboxes}
use Rattle.core_model.specs.Consistent.{GoesOn, IsConsistent}
use Rattle.core_model.specs.Cuts.{ArePastCuts}
use Rattle.core_model.specs.Emptied.{region_tables}
use Rattle.core_model.specs.Fleet.{EachNode, Fleet, region_of}
use Rattle.core_model.specs.Growing.{StoresGrow}
use Rattle.core_model.specs.Pens.{pens_of}
use Rattle.core_model.specs.Stores.{AreWhole, stores_in}
use Rattle.core_model.specs.declared.named.Named.{Named}
use Rattle.core_nodes.proofs.CatchLemmas.{so_before}
use Rattle.core_nodes.proofs.CatchSteps.{lengths_stay}
use Rattle.core_nodes.proofs.CaughtUp.{nodes_catch_up}
use Rattle.core_nodes.proofs.DueLemmas.{all_met}
use Rattle.core_nodes.proofs.GrowingLemmas.{stores_in_turn, stays_stores}
use Rattle.core_nodes.specs.Beginning.{AreLengths}
use Rattle.core_nodes.specs.Dues.{LeavesFleet, MeetsDues, after_carries, dues_of_fleet, log_ends}
use Rattle.core_nodes.specs.Outside.{outside}
use Rattle.core_nodes.specs.Settling.{AllCatchUp, AllProcessOn, ByNode, OnlyReads, ProcessesOn, StopsCatchUp, StopsLengths}
use Rattle.core_nodes.specs.Settling.{WhereUp, log_lengths}
use Rattle.core_nodes.specs.declared.settling.SettleStop.{SettleStop}
use Rattle.core_nodes.specs.declared.settling.SettleStop.TheVariants as stop
use Rattle.core_plans.proofs.AsksHeld.{same_opens_none}
use Rattle.core_plans.specs.Held.{OpensNone, is_open_ask}
use Rattle.core_steps.proofs.NotifyLemmas.{arrived_grows}
use Rattle.core_steps.proofs.PostsLemmas.{posts_trans}
use Rattle.core_steps.specs.Posting.{PostsOn}
use Rattle.core_steps.specs.World.{World, world}
use Rattle.core_steps.specs.declared.nodes.Nodes.{Nodes}
use Rattle.core_repairs.specs.Repairs.{IsNotRepaired, RepairsFirst, RunsAll, StopsRepair, StopsRun}
use Rattle.core_repairs.specs.Streams.{StopsStreams, StreamsAll}
use Rattle.core_repairs.specs.declared.repairs.Ran.{Ran}
use Rattle.edge_repair.specs.declared.refusal.RepairRefusal.{RepairRefusal}
use Rattle.edge_repair.specs.declared.refusal.RepairRefusal.TheVariants.{KeeperFault, OutOfMemory}
use Rattle.follower_cache.specs.Seen.{FollowerState}
use Rattle.graph_model.specs.Told.{WhereTold}
use Rattle.node_name.specs.declared.NodeName.{NodeName}
use Rattle.replies.specs.declared.refusals.NodeRefused.TheVariants.{NoServer}
use Rattle.replies.specs.declared.refusals.Refusal.{Refusal}
use Rattle.replies.specs.declared.refusals.Refusal.TheVariants.{Memory, Node as OfNode, Store as OfStore}
use Rattle.replies.specs.declared.refusals.StoreRefused.TheVariants as refused
use Rattle.replies.specs.declared.refusals.UnsettledWhy.TheVariants as why
use Rattle.tao_base.specs.EdgeTypes.{InversesMatch}
use Rattle.tao_keeper.proofs.Growing.{growing_laws}
use Rattle.tao_keeper.proofs.Later.{keeps_trans, later_trans}
use Rattle.tao_keeper.specs.KeeperState.{IsLater, KeeperState, KeepsTables}
use Rattle.tao_keeper.specs.Table.{Tables}
use Rattle.tao_link.specs.Shown.{LinkShown}
use Rattle.tao_schema.specs.Schema.{types_of}
use Rattle.topology.specs.Config.{Settings}
use Rattle.topology.specs.States.{NodeStates, is_up}
use Rattle.write_model.proofs.Paired.{no_jobs_are_paired}
use Rattle.write_model.specs.Steps.{HaveNoJobs}
use Rattle.tao_core.proofs.HeldOn.{held_on, none_come}
use Rattle.tao_core.proofs.Keeping.{still_past, written_core}
use Rattle.tao_core.specs.Core.{CoreState, IsConsistentCore, LeavesCore, Moment, StaysHeld, moment}
use Rattle.tao_core.specs.Settling.{HasRunJobs, HasStreamed, IsUnsettled, LeavesSettled, SettlesCore}
use Rattle.tao_core.specs.Calls.{world_at}

-- ---- asks that stay open

-- which asks are open is a matter of their numbers
by_numbers : (number : ℕ) (asks : List Ask) → list_any (λ (a : Ask). a.number == number) asks ≡ list_any (λ n. n == number) (map (λ (a : Ask). a.number) asks)
by_numbers number [] = refl
by_numbers number (a ∷ rest) = ap (λ b. (a.number == number) || b) (by_numbers number rest)

same_numbers : (number : ℕ) (old new : List Ask) → map (λ (a : Ask). a.number) new ≡ map (λ (a : Ask). a.number) old
    → list_any (λ (a : Ask). a.number == number) new ≡ true → list_any (λ (a : Ask). a.number == number) old ≡ true
same_numbers number old new same is =
    by_numbers number old ∙ ap (list_any (λ n. n == number)) (sym same) ∙ sym (by_numbers number new) ∙ is

-- what a follower does that goes on with its region's logs
abbrev GoesOnAt : Bool → Settings → Tables → NodeName → FollowerState → FollowerState → Type 0
GoesOnAt tells s tables = ByNode (λ name. ProcessesOn s (region_tables tells tables (region_of name)))

-- one that goes on, or is down, opens none
was_open : (tells : Bool) (s : Settings) (states : NodeStates) (tables : Tables) (name : NodeName) (number : ℕ) (old new : FollowerState)
    → WhereUp states (GoesOnAt tells s tables) name old new → is_open_ask number new.node.asks ≡ true → is_open_ask number old.node.asks ≡ true
was_open tells s states tables name number old new goes is = elim (cases_Bool (is_up states name)) [
  | inl up ↦ same_numbers number old.node.asks.asks new.node.asks.asks (goes.up up).0.asks is
  | inr down ↦ subst (λ (f : FollowerState). is_open_ask number f.node.asks ≡ true) (goes.down down) is
]

pub catches_open_none : (tells : Bool) (s : Settings) (states : NodeStates) (tables : Tables) (old new : List (Named FollowerState))
    → EachNode (WhereUp states (GoesOnAt tells s tables)) old new → OpensNone old new
catches_open_none tells s states tables old new each = record {
  still = λ name number h.
      let was = each h.place name h.follower h.stands in
      record {
        place = h.place;
        follower = was.0;
        stands = was.1;
        is_open = was_open tells s states tables name number was.0 h.follower was.2 h.is_open;
      };
}

-- nodes whose followers stay hold what they held
pub stores_held : (old new : Fleet) → GoesOn old new → new.followers ≡ old.followers → StaysHeld old new
stores_held old new goes same = record { goes = goes; opens = same_opens_none old.followers new.followers same }

-- ---- repairs

module _ (tells : Bool) (s : Settings) (shard : ℕ) (old new : World) where
  stopped_same : (refusal : RepairRefusal) → StopsRepair tells s shard refusal old new → new.fleet.followers ≡ old.fleet.followers
  stopped_same refusal (inl asks) = ap (λ (f : Fleet). f.followers) asks.nodes.fleet
  stopped_same refusal (inr (inl fails)) = ap (λ (f : Fleet). f.followers) fails.rest.caches.fleet
  stopped_same refusal (inr (inr fails)) = ap (λ (f : Fleet). f.followers) fails.rest.caches.fleet

  not_repaired_same : (r : Refusal) → IsNotRepaired tells s shard r old new → new.fleet.followers ≡ old.fleet.followers
  not_repaired_same (OfNode (NoServer region)) is = ap (λ (f : Fleet). f.followers) is.1.asks.nodes.fleet
  not_repaired_same (OfStore (refused.KeeperFault count)) is = stopped_same KeeperFault is.2
  not_repaired_same (OfStore (refused.LinkFault count when)) is = ap (λ (f : Fleet). f.followers) is.2.rest.caches.fleet
  not_repaired_same (OfStore (refused.LogFull count)) is = ap (λ (f : Fleet). f.followers) is.rest.caches.fleet
  not_repaired_same (Memory position) is = stopped_same OutOfMemory is.1
  not_repaired_same r is = absurd is

  -- a repair changes no follower
  pub repaired_same : (outcome : Result (Option Ran) Refusal) → RepairsFirst tells s shard outcome old new
      → new.fleet.followers ≡ old.fleet.followers
  repaired_same (Ok None) is = ap (λ (f : Fleet). f.followers) is.asks.nodes.fleet
  repaired_same (Ok (Some ran)) is = ap (λ (f : Fleet). f.followers) is.caches.fleet
  repaired_same (Err r) is = not_repaired_same r is

-- ---- settles

-- a cause is one from an earlier moment on too
cause_before : (s : Settings) (ran mid now : KeeperState) (to last : LinkShown) (given : SettleStop) → IsLater ran mid
    → StopsCatchUp s (outside mid to) (outside now last) given → StopsCatchUp s (outside ran to) (outside now last) given
cause_before s ran mid now to last (stop.Unsettled shard why.KeeperFault) later is =
    (is.0, (let p = later.faults in let q = is.1 in omega arith))
cause_before s ran mid now to last (stop.Unsettled shard why.LinkFault) later is = is
cause_before s ran mid now to last (stop.Unsettled shard why.LogFull) later is = is
cause_before s ran mid now to last (stop.NoServer shard) later is = is
cause_before s ran mid now to last stop.OutOfMemory later is = is

-- the core, with these of its nodes up, and this fleet with the messages that wait for it
abbrev pub left_core : CoreState → NodeStates → Fleet → Inboxes → CoreState
left_core core states fleet mail = record core { states = states; fleet = fleet; mail = mail }

-- what is said of a settle, and what it leaves
pub record SettleLeaves (tells : Bool) (Says : Moment → Moment → Type 0) (old new : Moment) : Type 0 where
  pub says : Says old new
  pub leaves : LeavesCore tells old.keepers new.keepers old.core new.core
  pub rest : new.core ≡ record old.core { fleet = new.core.fleet; mail = new.core.mail }

module _ (tells : Bool) (core seen : CoreState) (own : core ≡ seen) (before : KeeperState) (from : LinkShown)
    (of_seen : IsConsistentCore tells before.told seen) where
  abbrev start : World
  start = world_at core before from

  -- the core with these nodes
  abbrev with_nodes : Nodes → CoreState
  with_nodes nodes = left_core core nodes.topology nodes.fleet nodes.mail

  of : IsConsistentCore tells before.told core
  of = subst (IsConsistentCore tells before.told) (sym own) of_seen

  -- as its callers see the core
  leaves_so : (Says : Moment → Moment → Type 0) (now : KeeperState) (last : LinkShown) (next : CoreState)
      → next ≡ record core { fleet = next.fleet; mail = next.mail } → Says (moment core before from) (moment next now last)
      → LeavesCore tells before now core next → SettleLeaves tells Says (moment seen before from) (moment next now last)
  leaves_so Says now last next rest says leaves =
      subst (λ x. SettleLeaves tells Says (moment x before from) (moment next now last)) own (record { says = says; leaves = leaves; rest = rest })

  -- what was posted leaves the core consistent, and the rest of it as it was
  module _ (nodes : Nodes) (now : KeeperState) (last : LinkShown) (on : PostsOn tells core.settings start (world nodes now last)) where
    posted_rest : with_nodes nodes ≡ record core { fleet = nodes.fleet; mail = nodes.mail }
    posted_rest = ap (λ n. left_core core n nodes.fleet nodes.mail) on.states

    posted_along : nodes.fleet.followers ≡ core.fleet.followers → LeavesCore tells before now core (with_nodes nodes)
    posted_along same = record {
      is_consistent = written_core tells before.told core of now.told nodes.topology nodes.fleet nodes.mail on.states on.consistent on.inboxes on.arrived
          on.goes on.grows.on.logs;
      on = stores_held core.fleet nodes.fleet on.goes same;
      comes = none_come tells now.told core (with_nodes nodes) on.states;
      grows = on.grows;
      later = on.later;
    }

  -- jobs were run
  module _ (end : Nodes) (ran : KeeperState) (to : LinkShown) (on : PostsOn tells core.settings start (world end ran to))
      (caches : end.fleet ≡ record core.fleet { stores = end.fleet.stores }) where
    abbrev between : World
    between = world end ran to

    ran_followers : end.fleet.followers ≡ core.fleet.followers
    ran_followers = ap (λ (f : Fleet). f.followers) caches

    pub stops_at_jobs : (given : SettleStop) → StopsRun tells core.settings given start between
        → SettleLeaves tells (IsUnsettled tells given) (moment seen before from) (moment (with_nodes end) ran to)
    stops_at_jobs given stops = leaves_so (IsUnsettled tells given) ran to (with_nodes end) (posted_rest end ran to on)
        (inl (record { stops = stops; link = on.link; rest = posted_rest end ran to on })) (posted_along end ran to on ran_followers)

    -- and then streams were moved
    module _ (runs : RunsAll tells core.settings start between) (moved : Nodes) (mid : KeeperState) (over : LinkShown)
        (goes : PostsOn tells core.settings between (world moved mid over)) (followers : moved.fleet.followers ≡ end.fleet.followers) where
      abbrev behind : World
      behind = world moved mid over

      has_run : HasRunJobs tells (moment core before from) (moment (with_nodes end) ran to)
      has_run = record { runs = runs; keepers = on.later; link = on.link; caches = caches; rest = posted_rest end ran to on }

      on_streams : PostsOn tells core.settings start behind
      on_streams = posts_trans tells core.settings start between behind on goes

      moved_along : LeavesCore tells before mid core (with_nodes moved)
      moved_along = posted_along moved mid over on_streams (followers ∙ ran_followers)

      moved_rest : with_nodes moved ≡ record (with_nodes end) { fleet = moved.fleet; mail = moved.mail }
      moved_rest = ap (λ n. left_core core n moved.fleet moved.mail) goes.states

      pub stops_at_stream : (given : SettleStop) → StopsStreams tells core.settings given between behind
          → SettleLeaves tells (IsUnsettled tells given) (moment seen before from) (moment (with_nodes moved) mid over)
      stops_at_stream given stops = leaves_so (IsUnsettled tells given) mid over (with_nodes moved) (posted_rest moved mid over on_streams) (inr (inl (record {
        ran = moment (with_nodes end) ran to;
        jobs = has_run;
        stops = stops;
        keepers = goes.later;
        link = goes.link;
        followers = followers;
        rest = moved_rest;
      }))) moved_along

      -- and the keepers were read
      module _ (streams : StreamsAll tells core.settings between behind) (asked : KeeperState) (same : Fleet) (fleet_is : same ≡ moved.fleet)
          (read : IsConsistent tells core.settings asked.told same) (tables : KeepsTables tells mid asked) (read_later : IsLater mid asked) where
        has_streamed : HasStreamed tells (moment (with_nodes end) ran to) (moment (with_nodes moved) mid over)
        has_streamed = record { streams = streams; keepers = goes.later; link = goes.link; followers = followers; rest = moved_rest }

        -- the core with these caches, and these messages that wait
        abbrev left_with : Fleet → Inboxes → CoreState
        left_with fleet mail = left_core core moved.topology fleet mail

        left_rest : (fleet : Fleet) (mail : Inboxes) → left_with fleet mail ≡ record core { fleet = fleet; mail = mail }
        left_rest fleet mail = ap (λ n. left_core core n fleet mail) on_streams.states

        asked_grows : StoresGrow tells core.settings before.told asked.told
        asked_grows =
            stores_in_turn tells core.settings before.told mid.told asked.told on_streams.grows (stays_stores tells core.settings mid asked tables)

        arrived_asked : WhereTold tells (HaveArrived asked.told moved.mail)
        arrived_asked = arrived_grows tells mid.told asked.told moved.mail (growing_laws.stays tells mid.told asked.told tables) on_streams.arrived

        read_along : LeavesCore tells before asked core (left_with same moved.mail)
        read_along = record {
          is_consistent = written_core tells before.told core of asked.told moved.topology same moved.mail on_streams.states read
              (subst (λ (f : Fleet). AreInboxesOf core.settings (pens_of f.stores) moved.mail) (sym fleet_is) on_streams.inboxes) arrived_asked
              (subst (GoesOn core.fleet) (sym fleet_is) on_streams.goes) asked_grows.on.logs;
          on = subst (StaysHeld core.fleet) (sym fleet_is) moved_along.on;
          comes = none_come tells asked.told core (left_with same moved.mail) on_streams.states;
          grows = asked_grows;
          later = later_trans before mid asked on_streams.later read_later;
        }

        -- no node lies behind a cut then
        pub read_past : WhereTold tells (ArePastCuts before.told seen.fleet) → WhereTold tells (ArePastCuts asked.told same)
        read_past past =
            still_past tells core.settings before.told asked.told core.fleet same of.masters of.consistent read_along.on.goes asked_grows
            (subst (λ (x : CoreState). WhereTold tells (ArePastCuts before.told x.fleet)) (sym own) past)

        pub stops_at_lengths : (given : SettleStop) → StopsLengths core.settings mid asked given
            → SettleLeaves tells (IsUnsettled tells given) (moment seen before from) (moment (left_with same moved.mail) asked over)
        stops_at_lengths given stops =
            leaves_so (IsUnsettled tells given) asked over (left_with same moved.mail) (left_rest same moved.mail) (inr (inr (inl (record {
              ran = moment (with_nodes end) ran to;
              jobs = has_run;
              streamed = moment (with_nodes moved) mid over;
              streams = has_streamed;
              stops = stops;
              tables = tables;
              same = ap (λ f. moment (left_with f moved.mail) asked over) fleet_is;
            })))) read_along

        -- and the nodes went on
        module _ (now : KeeperState) (last : LinkShown) (next : Fleet) (stores : next.stores ≡ same.stores)
            (caught : IsConsistent tells core.settings now.told next) (catch_goes : GoesOn same next)
            (ahead : AllProcessOn tells core.settings moved.topology now.told same next) (reads : OnlyReads tells (outside asked over) (outside now last)) where
          on_from : AllProcessOn tells core.settings moved.topology now.told moved.fleet next
          on_from = subst (λ f. AllProcessOn tells core.settings moved.topology now.told f next) fleet_is ahead

          caught_along : (left : Inboxes) → (AreInboxesOf core.settings (pens_of moved.fleet.stores) moved.mail
              → AreInboxesOf core.settings (pens_of moved.fleet.stores) left)
              → WhereTold tells (HaveArrived now.told left) → LeavesCore tells before now core (left_with next left)
          caught_along left stays arrives =
              let held = held_on core.fleet same next read_along.on (record {
                goes = catch_goes;
                opens = catches_open_none tells core.settings moved.topology now.told same.followers next.followers ahead.followers;
              }) in
              let ends =
              stores_in_turn tells core.settings before.told asked.told now.told asked_grows (stays_stores tells core.settings asked now reads.tables) in
              record {
                is_consistent = written_core tells before.told core of now.told moved.topology next left on_streams.states caught
                    (subst (λ ms. AreInboxesOf core.settings (pens_of ms) left) (sym (stores ∙ ap (λ (f : Fleet). f.stores) fleet_is))
                    (stays on_streams.inboxes)) arrives held.goes ends.on.logs;
                on = held;
                comes = none_come tells now.told core (left_with next left) on_streams.states;
                grows = ends;
                later = later_trans before asked now (later_trans before mid asked on_streams.later read_later) reads.keepers;
              }

          still_measured : (lengths : List ℕ) → AreLengths tells core.settings asked.told lengths → AreLengths tells core.settings now.told lengths
          still_measured lengths measured = lengths_stay tells core.settings asked.told now.told lengths reads.tables measured

          pub stops_at_node : (given : SettleStop) (lengths : List ℕ) → AreLengths tells core.settings asked.told lengths
              → MeetsDues (dues_of_fleet (log_ends tells core.settings lengths) moved.topology same) (Err given) over last
              (LeavesFleet (log_ends tells core.settings lengths) moved.topology same next)
              → StopsCatchUp core.settings (outside asked over) (outside now last) given
              → SettleLeaves tells (IsUnsettled tells given) (moment seen before from) (moment (left_with next moved.mail) now last)
          stops_at_node given lengths measured meets stops =
              leaves_so (IsUnsettled tells given) now last (left_with next moved.mail) (left_rest next moved.mail) (inr (inr (inr (record {
                ran = moment (with_nodes end) ran to;
                jobs = has_run;
                streamed = moment (with_nodes moved) mid over;
                streams = has_streamed;
                lengths = lengths;
                measured = still_measured lengths measured;
                meets = subst (λ f. MeetsDues (dues_of_fleet (log_ends tells core.settings lengths) moved.topology f) (Err given) over last
                    (LeavesFleet (log_ends tells core.settings lengths) moved.topology f next)) fleet_is meets;
                asked = keeps_trans tells mid asked now tables reads.tables;
                stops = cause_before core.settings mid asked now over last given read_later stops;
                link = reads.link;
                on = on_from;
                rest = refl;
              })))) (caught_along moved.mail (λ are. are) (arrived_grows tells asked.told now.told moved.mail
              (growing_laws.stays tells asked.told now.told reads.tables) arrived_asked))

          -- what is so of the tables once the streams were moved is so at the end
          at_the_end : (P : Tables → Type 0) → tells ≡ true → P mid.told → P now.told
          at_the_end P told is = so_before P now.told mid.told (λ at. sym (keeps_trans tells mid asked now tables reads.tables told at)) is

          caught_from : AllCatchUp core.settings moved.topology now.told same next → AllCatchUp core.settings moved.topology now.told moved.fleet next
          caught_from all = subst (λ f. AllCatchUp core.settings moved.topology now.told f next) fleet_is all

          -- what is settled
          left_settled : (logs : List ℕ) → tells ≡ true → logs ≡ log_lengths core.settings asked.told
              → AllCatchUp core.settings moved.topology now.told same next → InversesMatch (types_of core.settings.schema)
              → (left : Inboxes) → LeavesSettled logs (moment (left_with next left) now last)
          left_settled logs told is all match left =
              let none = at_the_end (λ t. HaveNoJobs (stores_in core.settings t)) told (subst HaveNoJobs (sym (streams.shards told)) (runs.none told)) in
              record {
                none = none;
                paired = no_jobs_are_paired.paired (types_of core.settings.schema) (stores_in core.settings now.told) match (caught.stores.kept told) none;
                whole = at_the_end (AreWhole core.settings) told (streams.whole told);
                lengths = so_before (λ t. logs ≡ log_lengths core.settings t) now.told asked.told (λ at. sym (reads.tables told at)) is;
                ends = (nodes_catch_up core.settings now.told).caught moved.topology same next all;
              }

          -- it came to its end
          pub settles_core : (logs lengths : List ℕ) (left : Inboxes) (done : ⊤) → AreLengths tells core.settings asked.told lengths
              → MeetsDues (dues_of_fleet (log_ends tells core.settings lengths) moved.topology same) (Ok done) over last
              (LeavesFleet (log_ends tells core.settings lengths) moved.topology same next)
              → WhereTold tells (logs ≡ log_lengths core.settings asked.told) → AreEmpty left
              → (AreInboxesOf core.settings (pens_of moved.fleet.stores) moved.mail → AreInboxesOf core.settings (pens_of moved.fleet.stores) left)
              → WhereTold tells (AllCatchUp core.settings moved.topology now.told same next) → InversesMatch (types_of core.settings.schema)
              → SettleLeaves tells (SettlesCore tells logs) (moment seen before from) (moment (left_with next left) now last)
          settles_core logs lengths left done measured meets own empty stays all match =
              leaves_so (SettlesCore tells logs) now last (left_with next left) (left_rest next left) (record {
                ran = moment (with_nodes end) ran to;
                jobs = has_run;
                streamed = moment (with_nodes moved) mid over;
                streams = has_streamed;
                lengths = lengths;
                measured = still_measured lengths measured;
                link = subst (λ f. last ≡ after_carries (dues_of_fleet (log_ends tells core.settings lengths) moved.topology f) over) fleet_is
                    (all_met (dues_of_fleet (log_ends tells core.settings lengths) moved.topology same) done over last
                    (LeavesFleet (log_ends tells core.settings lengths) moved.topology same next) meets).link;
                reads = record {
                  tables = keeps_trans tells mid asked now tables reads.tables;
                  keepers = later_trans mid asked now read_later reads.keepers;
                  link = reads.link;
                };
                on = on_from;
                caught = λ told. caught_from (all told);
                empty = empty;
                settled = λ told. left_settled logs told (own told) (all told) match left;
                rest = left_rest next left;
              }) (caught_along left stays (λ told. (arrived_stay now.told).empty left empty))
