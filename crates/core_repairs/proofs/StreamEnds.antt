-- What streams that are moved to their ends, one after another, come to.
use Rattle.std.proofs.Common.{◌≡◌, ◌≢◌, ◌∙◌, ℕ, ◌≤◌, ◌+◌, ◌⊎◌, Bool, true, false, List, [], ◌∷◌, None, Result, Ok, Err, length}
use Rattle.std.proofs.Common.{refl, sym, ap, subst, inl, inr, arith}
use Rattle.std.proofs.lemmas.Bool.{cases_lt, lt-ltb}
use Rattle.std.proofs.lemmas.List.{length-append}
use Rattle.std.specs.Prelude.{if◌then◌else◌, nat_lt, ⊤}
use Rattle.counts.proofs.Rises.{Rose-earlier}
use Rattle.graph_model.proofs.Later.{all_map}
use Rattle.graph_model.specs.Told.{WhereTold}
use Rattle.master_tables.specs.Masters.{each_shard}
use Rattle.replies.specs.declared.nodes.StreamVerdict.{StreamVerdict}
use Rattle.replies.specs.declared.nodes.StreamVerdict.TheVariants as verdict
use Rattle.replies.specs.declared.nodes.Streamed.{Streamed}
use Rattle.replies.specs.declared.refusals.NodeRefused.TheVariants as node
use Rattle.replies.specs.declared.refusals.Refusal.{Refusal}
use Rattle.replies.specs.declared.refusals.Refusal.TheVariants as refusal
use Rattle.replies.specs.declared.refusals.StoreRefused.TheVariants as store
use Rattle.tao_base.specs.declared.entry.Entry.{Entry}
use Rattle.tao_base.specs.declared.id.StoreName.{StoreName}
use Rattle.tao_keeper.proofs.Later.{keeps_trans, later_self, later_trans}
use Rattle.tao_keeper.specs.KeeperState.{IsLater}
use Rattle.tao_keeper.specs.Table.{Table, Tables}
use Rattle.topology.specs.Config.{Settings}
use Rattle.write_model.specs.Merges.{no_epochs}
use Rattle.core_model.specs.Fleet.{Fleet}
use Rattle.core_model.specs.Stores.{master_log, master_of, master_store, region_store, stores_in}
use Rattle.core_steps.specs.core_nodes.Opening.{IsSlaveStore}
use Rattle.core_steps.specs.core_nodes.Settling.{IsLaterLink}
use Rattle.core_steps.specs.core_nodes.Streams.{HasAll, IsToCarry, StreamsTo, next_position}
use Rattle.core_steps.specs.core_nodes.declared.settling.SettleStop.{SettleStop}
use Rattle.core_steps.proofs.LinkLemmas.{carried_on, link_stays, link_trans}
use Rattle.core_steps.specs.Posting.{ChangesNoNode}
use Rattle.core_steps.specs.Streams.{NeedsNoCarry, OnlyReadsKeepers, RefusesStream, StreamsEntry, StreamsNothing, StreamsOver, TakesAs}
use Rattle.core_steps.specs.World.{World}
use Rattle.core_repairs.specs.Stops.{IsOfSettles, StopsAsRefused}
use Rattle.core_repairs.specs.Streams.{AreUpTo, AreWholeBefore, HaveStreamed, IsStreamedBefore, IsStreamedUpTo}
use Rattle.core_repairs.specs.Streams.{StopsStreams, StreamStep, StreamStopHasCause, StreamsAll, StreamsFrom, StreamsOnce, StreamsTill}
use Rattle.core_repairs.specs.Streams.{asks_next, goes_further, step_into}

-- ---- keepers that were only read

reads_nothing : (tells : Bool) (a : World) → OnlyReadsKeepers tells a a
reads_nothing tells a = record { rest = refl; tables = λ told at. refl }

reads_trans : (tells : Bool) (a b c : World) → OnlyReadsKeepers tells a b → OnlyReadsKeepers tells b c → OnlyReadsKeepers tells a c
reads_trans tells a b c p q = record {
  rest = q.rest ∙ ap (λ (w : World). record w { keepers = c.keepers }) p.rest;
  tables = keeps_trans tells a.keepers b.keepers c.keepers p.tables q.tables;
}

stream_and_read : (tells : Bool) (s : Settings) (steps : List StreamStep) (a b c : World) → HaveStreamed tells s steps a b → OnlyReadsKeepers tells b c
    → HaveStreamed tells s steps a c
stream_and_read tells s [] a b c run reads = reads_trans tells a b c run reads
stream_and_read tells s (step ∷ earlier) a b c run reads = (run.0, run.1, run.2, run.3, reads_trans tells run.1 b c run.4 reads, run.5)

-- no count of the link fell
streamed_link : (tells : Bool) (s : Settings) (steps : List StreamStep) (a b : World) → HaveStreamed tells s steps a b → IsLaterLink a.link b.link
streamed_link tells s [] a b run = link_stays a.link b.link (ap (λ (w : World). w.link) run.rest)
streamed_link tells s (step ∷ earlier) a b run =
    link_trans a.link run.0.link b.link (streamed_link tells s earlier a run.0 run.2)
    (link_trans run.0.link run.1.link b.link (carried_on run.0.link run.1.link run.3.streams.link)
    (link_stays run.1.link b.link (ap (λ (w : World). w.link) run.4.rest)))

-- ---- the tables

-- no master's store changed
abbrev MastersStay : Settings → Tables → Tables → Type 0
MastersStay s old new = (shard : ℕ) → new (master_store s shard) ≡ old (master_store s shard)

shards_same : (s : Settings) (old new : Tables) → MastersStay s old new → stores_in s new ≡ stores_in s old
shards_same s old new same = λ i. record {
  logs = each_shard (λ shard. (same shard i).log) 0 s.shards;
  job = λ shard position. if nat_lt shard s.shards then (same shard i).jobs position else None;
  epochs = no_epochs;
}

module _ (s : Settings) (at : StoreName) (e : Entry) (old new : Tables) where
  -- a slave's store took the entry, or none changed
  stream_masters : (said : StreamVerdict) → StreamsTo s at e (Ok said) old new → MastersStay s old new
  stream_masters verdict.Applied streams =
      λ shard. streams.1.gains.others (master_store s shard) (λ is. absurd (streams.1.slave (subst (λ (a : StoreName). a.region ≡ master_of s a.shard) is refl)))
  stream_masters verdict.Old streams = λ shard. streams.1 (master_store s shard)
  stream_masters verdict.Gap streams = λ shard. streams.1 (master_store s shard)
  stream_masters verdict.None streams = absurd streams

  stream_others : (said : StreamVerdict) → StreamsTo s at e (Ok said) old new → (other : StoreName) → other ≢ at → new other ≡ old other
  stream_others verdict.Applied streams other apart = streams.1.gains.others other apart
  stream_others verdict.Old streams other apart = streams.1 other
  stream_others verdict.Gap streams other apart = streams.1 other
  stream_others verdict.None streams other apart = absurd streams

  -- the entry that comes next is taken
  stream_goes : (said : StreamVerdict) (last next hops : ℕ) → StreamsTo s at e (Ok said) old new → IsToCarry s old at None e
      → next ≡ next_position new at → last ≤ next_position old at → goes_further last (record { hops = hops; next = next; verdict = said }) ≡ false → ⊥
  stream_goes verdict.Applied last next hops streams carry is le stops =
      let grown = ap (λ (t : Table). length t.log) streams.1.gains.here in
      let more = length-append (old at).log (e ∷ []) in
      let goes : nat_lt last next ≡ true = lt-ltb last next (omega (arith, is, le, grown, more)) in
      let no : nat_lt last next ≡ false = stops in
      absurd (cc)
  stream_goes verdict.Old last next hops streams carry is le stops = let at = carry.position_is in let lt = streams.0 in absurd (omega (arith, at, lt))
  stream_goes verdict.Gap last next hops streams carry is le stops = let at = carry.position_is in let lt = streams.0 in absurd (omega (arith, at, lt))
  stream_goes verdict.None last next hops streams carry is le stops = absurd streams

-- a store before another isn't that
before_apart : (other at : StoreName) → IsStreamedBefore other at → other ≢ at
before_apart other at (inl lt) is = let same = ap (λ (a : StoreName). a.region) is in absurd (omega (arith, lt, same))
before_apart other at (inr lt) is = let same = ap (λ (a : StoreName). a.shard) is in let less = lt.1 in absurd (omega (arith, less, same))

-- what is whole stays so, where neither masters nor the stores before change
before_stays : (s : Settings) (at : StoreName) (old new : Tables) → MastersStay s old new
    → ((other : StoreName) → IsStreamedBefore other at → new other ≡ old other) → AreWholeBefore s old at → AreWholeBefore s new at
before_stays s at old new masters others whole other here before =
    ap (λ (t : Table). t.log) (others other before) ∙ whole other here before ∙ ap (λ (t : Table). t.log) (sym (masters other.shard))

-- ---- their order

-- the store that comes next, of the same region
abbrev next_shard : StoreName → StoreName
next_shard at = region_store at.region (at.shard + 1)

-- a store up to this, and not before it, is this
up_to_before : (other at : StoreName) → IsStreamedBefore other (next_shard at) → IsStreamedBefore other at ⊎ (at ≡ other)
up_to_before other at (inl lt) = inl (inl lt)
up_to_before other at (inr lt) = elim (cases_lt other.shard at.shard) [
  | inl less ↦ inl (inr (lt.0, less))
  | inr more ↦ (
      let low = lt.1 in
      let shard : at.shard ≡ other.shard = omega (arith, low, more) in
      inr (λ i. record { region = sym lt.0 i; shard = shard i }))
]

whole_next : (s : Settings) (tables : Tables) (at : StoreName) → (tables at).log ≡ master_log s tables at.shard → AreWholeBefore s tables at
    → AreWholeBefore s tables (next_shard at)
whole_next s tables at here whole other configured before = elim (up_to_before other at before) [
  | inl less ↦ whole other configured less
  | inr is ↦ subst (λ (a : StoreName). (tables a).log ≡ master_log s tables a.shard) is here
]

up_to_next : (at : StoreName) (steps : List StreamStep) → AreUpTo at steps → AreUpTo (next_shard at) steps
up_to_next at steps = all_map (λ step. IsStreamedUpTo step.at at) (λ step. IsStreamedUpTo step.at (next_shard at)) (λ step up. later step.at up) steps
  where
    later : (one : StoreName) → IsStreamedUpTo one at → IsStreamedUpTo one (next_shard at)
    later one (inl lt) = inl lt
    later one (inr le) = inr (le.0, (let low = le.1 in omega (arith, low)))

-- behind the last shard comes the next region
whole_region : (s : Settings) (tables : Tables) (region : ℕ) → AreWholeBefore s tables (region_store region s.shards)
    → AreWholeBefore s tables (region_store (region + 1) 0)
whole_region s tables region whole other configured (inl lt) = elim (cases_lt other.region region) [
  | inl less ↦ whole other configured (inl less)
  | inr more ↦ whole other configured (inr ((omega (arith, lt, more)), configured.shard))
]
whole_region s tables region whole other configured (inr none) = let lt = none.1 in absurd (omega (arith, lt))

up_to_region : (region shard : ℕ) (steps : List StreamStep) → AreUpTo (region_store region shard) steps → AreUpTo (region_store (region + 1) 0) steps
up_to_region region shard steps =
    all_map (λ step. IsStreamedUpTo step.at (region_store region shard)) (λ step. IsStreamedUpTo step.at (region_store (region + 1) 0))
    (λ step up. later step.at up) steps
  where
    later : (one : StoreName) → IsStreamedUpTo one (region_store region shard) → IsStreamedUpTo one (region_store (region + 1) 0)
    later one (inl lt) = inl (omega (arith, lt))
    later one (inr le) = let same = le.0 in inl (omega (arith, same))

-- ---- one step

-- refused, it changes no node
module _ (tells : Bool) (s : Settings) (at : StoreName) (old new : World) where
  pub of_next_step : (r : Refusal) → RefusesStream tells s (asks_next at) r old new → IsOfSettles r
  of_next_step (refusal.Store (store.KeeperFault count)) is = tt
  of_next_step (refusal.Store (store.LinkFault count when)) is = tt
  of_next_step (refusal.Memory position) is = tt
  of_next_step (refusal.Store (store.TooOld cut position)) is = absurd is
  of_next_step (refusal.Store (store.SeqReused position)) is = absurd is
  of_next_step (refusal.Store (store.ShardFull serial)) is = absurd is
  of_next_step (refusal.Store (store.StampFull number)) is = absurd is
  of_next_step (refusal.Store (store.LogFull count)) is = absurd is
  of_next_step (refusal.Store (store.Unsettled shard why)) is = absurd is
  of_next_step (refusal.Node (node.NoEntry count position)) is = let asked = is.0 in absurd (cc)
  of_next_step (refusal.Node (node.NoMessage message)) is = absurd is
  of_next_step (refusal.Node (node.NoRefill name)) is = absurd is
  of_next_step (refusal.Node (node.IsMaster name)) is = absurd is
  of_next_step (refusal.Node (node.NoServer region)) is = absurd is
  of_next_step (refusal.Node (node.NodeDown name when)) is = absurd is
  of_next_step (refusal.Line other) is = absurd is
  of_next_step (refusal.Plan other) is = absurd is
  of_next_step (refusal.Session other) is = absurd is
  of_next_step (refusal.Name other) is = absurd is

  refused_same : (r : Refusal) → RefusesStream tells s (asks_next at) r old new → ChangesNoNode tells old new
  refused_same (refusal.Store (store.KeeperFault count)) is = is.2.same
  refused_same (refusal.Store (store.LinkFault count when)) is = is.3
  refused_same (refusal.Memory position) is = is.1.same
  refused_same (refusal.Store (store.TooOld cut position)) is = absurd is
  refused_same (refusal.Store (store.SeqReused position)) is = absurd is
  refused_same (refusal.Store (store.ShardFull serial)) is = absurd is
  refused_same (refusal.Store (store.StampFull number)) is = absurd is
  refused_same (refusal.Store (store.LogFull count)) is = absurd is
  refused_same (refusal.Store (store.Unsettled shard why)) is = absurd is
  refused_same (refusal.Node (node.NoEntry count position)) is = let asked = is.0 in absurd (cc)
  refused_same (refusal.Node (node.NoMessage message)) is = absurd is
  refused_same (refusal.Node (node.NoRefill name)) is = absurd is
  refused_same (refusal.Node (node.IsMaster name)) is = absurd is
  refused_same (refusal.Node (node.NoServer region)) is = absurd is
  refused_same (refusal.Node (node.NodeDown name when)) is = absurd is
  refused_same (refusal.Line other) is = absurd is
  refused_same (refusal.Plan other) is = absurd is
  refused_same (refusal.Session other) is = absurd is
  refused_same (refusal.Name other) is = absurd is

  -- a fault is said only where its count rose
  refused_cause : (start : World) (r : Refusal) (given : SettleStop) → IsLaterLink start.link old.link → IsLater start.keepers old.keepers
      → StopsAsRefused at.shard r given → RefusesStream tells s (asks_next at) r old new → StreamStopHasCause given start new
  refused_cause start (refusal.Store (store.KeeperFault count)) given link keepers stops is =
      subst (λ g. StreamStopHasCause g start new) (sym stops)
      (Rose-earlier start.keepers.faults old.keepers.faults new.keepers.faults keepers.faults is.1)
  refused_cause start (refusal.Store (store.LinkFault count when)) given link keepers stops is =
      subst (λ g. StreamStopHasCause g start new) (sym stops)
      (Rose-earlier start.link.faults old.link.faults new.link.faults link.faults is.2.rose)
  refused_cause start (refusal.Memory position) given link keepers stops is = subst (λ g. StreamStopHasCause g start new) (sym stops) tt
  refused_cause start (refusal.Store (store.TooOld cut position)) given link keepers stops is = absurd is
  refused_cause start (refusal.Store (store.SeqReused position)) given link keepers stops is = absurd is
  refused_cause start (refusal.Store (store.ShardFull serial)) given link keepers stops is = absurd is
  refused_cause start (refusal.Store (store.StampFull number)) given link keepers stops is = absurd is
  refused_cause start (refusal.Store (store.LogFull count)) given link keepers stops is = absurd is
  refused_cause start (refusal.Store (store.Unsettled shard why)) given link keepers stops is = absurd is
  refused_cause start (refusal.Node (node.NoServer region)) given link keepers stops is = absurd is
  refused_cause start (refusal.Node other) given link keepers stops is = absurd stops
  refused_cause start (refusal.Line other) given link keepers stops is = absurd is
  refused_cause start (refusal.Plan other) given link keepers stops is = absurd is
  refused_cause start (refusal.Session other) given link keepers stops is = absurd is
  refused_cause start (refusal.Name other) given link keepers stops is = absurd is

  -- a step changes no follower
  taken_followers : (said : StreamVerdict) (e : Entry) → TakesAs said at e old new → new.fleet.followers ≡ old.fleet.followers
  taken_followers verdict.Applied e takes = takes.followers
  taken_followers verdict.Old e takes = ap (λ (f : Fleet). f.followers) takes.0
  taken_followers verdict.Gap e takes = ap (λ (f : Fleet). f.followers) takes.0
  taken_followers verdict.None e takes = ap (λ (f : Fleet). f.followers) takes.0

  pub step_followers : (result : Result Streamed Refusal) → StreamsOver tells s (asks_next at) result old new
      → new.fleet.followers ≡ old.fleet.followers
  step_followers (Ok streamed) (inl none) = ap (λ (w : World). w.fleet.followers) none.rest.rest
  step_followers (Ok streamed) (inr entry) = taken_followers streamed.verdict entry.entry entry.takes
  step_followers (Err r) is = ap (λ (f : Fleet). f.followers) (refused_same r is).fleet

-- where no position is asked for, nothing is carried only into a store that has all of its shard's log
module _ (tells : Bool) (s : Settings) (at : StoreName) (tables : Tables) where
  nothing_left : (said : StreamVerdict) → NeedsNoCarry tells s (asks_next at) said tables
      → (said ≡ verdict.None) × WhereTold tells (HasAll s tables at None)
  nothing_left verdict.None why = (refl, why)
  nothing_left verdict.Old why = let asked : false ≡ true = why.0 in absurd (cc)
  nothing_left verdict.Applied why = absurd why
  nothing_left verdict.Gap why = absurd why

-- ---- one step more

module _ (tells : Bool) (s : Settings) (at : StoreName) (old new : World) (slave : IsSlaveStore s at) where
  masters_stay : (streamed : Streamed) → StreamsEntry tells s (asks_next at) streamed old new → tells ≡ true
      → MastersStay s old.keepers.told new.keepers.told
  masters_stay streamed entry told = stream_masters s at entry.entry old.keepers.told new.keepers.told streamed.verdict (entry.streams told)

  one_more : (streamed : Streamed) → StreamsEntry tells s (asks_next at) streamed old new → IsLater old.keepers new.keepers
      → (start : World) → StreamsTill tells s at start old → StreamsTill tells s at start new
  one_more streamed entry later start so = record {
    steps = step_into at streamed ∷ so.steps;
    streamed = (old, new, so.streamed, record { slave = slave; streams = entry }, reads_nothing tells new, so.up_to);
    up_to = (inr (refl, omega arith), so.up_to);
    whole = λ told. before_stays s at old.keepers.told new.keepers.told (masters_stay streamed entry told)
        (λ other before. stream_others s at entry.entry old.keepers.told new.keepers.told streamed.verdict (entry.streams told) other
        (before_apart other at before)) (so.whole told);
    shards = λ told. shards_same s old.keepers.told new.keepers.told (masters_stay streamed entry told) ∙ so.shards told;
    keepers = later_trans start.keepers old.keepers new.keepers so.keepers later;
  }

  -- the store has all of the log: the next stream follows
  none_more : (streamed : Streamed) → StreamsNothing tells s (asks_next at) streamed old new → IsLater old.keepers new.keepers
      → (start : World) → StreamsTill tells s at start old → StreamsTill tells s (next_shard at) start new
  none_more streamed none later start so =
      let same : tells ≡ true → old.keepers.told ≡ new.keepers.told = λ told i place. sym (none.rest.tables told place) i in
      record {
        steps = so.steps;
        streamed = stream_and_read tells s so.steps start old new so.streamed none.rest;
        up_to = up_to_next at so.steps so.up_to;
        whole = λ told. subst (λ (t : Tables). AreWholeBefore s t (next_shard at)) (same told)
            (whole_next s old.keepers.told at ((nothing_left tells s at old.keepers.told streamed.verdict none.why).1 told).whole (so.whole told));
        shards = λ told. subst (λ (t : Tables). stores_in s t ≡ stores_in s start.keepers.told) (same told) (so.shards told);
        keepers = later_trans start.keepers old.keepers new.keepers so.keepers later;
      }

  -- a keeper that tells its tables gives the entry that comes next
  never_stops : (last : ℕ) (streamed : Streamed) → StreamsEntry tells s (asks_next at) streamed old new
      → WhereTold tells (last ≤ next_position old.keepers.told at) → goes_further last streamed ≡ false → tells ≡ true → ⊥
  never_stops last streamed entry le stops told =
      stream_goes s at entry.entry old.keepers.told new.keepers.told streamed.verdict last streamed.next streamed.hops (entry.streams told)
      (entry.carried told) (entry.next_is told) (le told) stops

-- a keeper that doesn't tell them may give whatever it gives
untold_next : (tells : Bool) (s : Settings) (at : StoreName) (start now : World) → (tells ≡ true → ⊥) → StreamsTill tells s at start now
    → StreamsTill tells s (next_shard at) start now
untold_next tells s at start now untold so = record {
  steps = so.steps;
  streamed = so.streamed;
  up_to = up_to_next at so.steps so.up_to;
  whole = λ told. absurd (untold told);
  shards = so.shards;
  keepers = so.keepers;
}

-- ---- one stream

module _ (tells : Bool) (s : Settings) (at : StoreName) (old new : World) (slave : IsSlaveStore s at) (later : IsLater old.keepers new.keepers) where
  -- more is to come
  pub goes_more : (last : ℕ) (streamed : Streamed) (more : Bool) → StreamsOnce tells s at (Ok streamed) old new → more ≡ goes_further last streamed
      → more ≡ true → StreamsFrom tells s at at (Ok tt) old new × WhereTold tells (streamed.next ≤ next_position new.keepers.told at)
  goes_more last streamed more (inl none) is goes =
      let no = subst (λ said. goes_further last (record { hops = streamed.hops; next = streamed.next; verdict = said }) ≡ true)
      (nothing_left tells s at old.keepers.told streamed.verdict none.why).0 (sym is ∙ goes) in
      absurd (cc)
  goes_more last streamed more (inr entry) is goes = (
    record { on = λ start so. one_more tells s at old new slave streamed entry later start so },
    (λ told. let there = entry.next_is told in omega (arith, there)),
  )

  -- nothing is
  pub comes_to_end : (last : ℕ) (streamed : Streamed) (more : Bool) → StreamsOnce tells s at (Ok streamed) old new
      → WhereTold tells (last ≤ next_position old.keepers.told at) → more ≡ goes_further last streamed → more ≡ false
      → StreamsFrom tells s at (next_shard at) (Ok tt) old new
  comes_to_end last streamed more (inl none) le is stops = record { on = λ start so. none_more tells s at old new slave streamed none later start so }
  comes_to_end last streamed more (inr entry) le is stops = record {
    on = λ start so. untold_next tells s at start new (never_stops tells s at old new slave last streamed entry le (sym is ∙ stops))
        (one_more tells s at old new slave streamed entry later start so);
  }

  -- a step was refused
  pub stops_stream : (given : SettleStop) → StreamsOnce tells s at (Err given) old new → StreamsFrom tells s at (next_shard at) (Err given) old new
  stops_stream given refuses = record { on = λ start so. stops start so }
    where
      stops : (start : World) → StreamsTill tells s at start old → StopsStreams tells s given start new
      stops start so = record {
        at = at;
        slave = slave;
        steps = so.steps;
        between = old;
        refusal = refuses.refusal;
        streamed = so.streamed;
        up_to = so.up_to;
        whole = so.whole;
        given_is = refuses.given_is;
        refuses = refuses.refuses;
        cause = refused_cause tells s at old new start refuses.refusal given (streamed_link tells s so.steps start old so.streamed) so.keepers
            refuses.given_is refuses.refuses;
        shards = λ told.
            let same = refused_same tells s at old new refuses.refusal refuses.refuses in
            shards_same s old.keepers.told new.keepers.told (λ shard. same.tables told (master_store s shard)) ∙ so.shards told;
      }

-- ---- one stream after another

module _ (tells : Bool) (s : Settings) where
  -- nothing was done
  pub from_here : (at : StoreName) (now : World) → StreamsFrom tells s at at (Ok tt) now now
  from_here at now = record { on = λ start so. so }

  pub from_trans : (at mid next : StoreName) (result : Result ⊤ SettleStop) (a b c : World) → StreamsFrom tells s at mid (Ok tt) a b
      → StreamsFrom tells s mid next result b c → StreamsFrom tells s at next result a c
  from_trans at mid next result a b c p q = record { on = λ start so. q.on start (p.on start so) }

  -- into a master's store there is no stream
  pub skips_master : (at : StoreName) (now : World) → at.region ≡ master_of s at.shard → StreamsFrom tells s at (next_shard at) (Ok tt) now now
  skips_master at now master = record {
    on = λ start so. record {
      steps = so.steps;
      streamed = so.streamed;
      up_to = up_to_next at so.steps so.up_to;
      whole = λ told. whole_next s now.keepers.told at (ap (λ region. (now.keepers.told (region_store region at.shard)).log) master) (so.whole told);
      shards = so.shards;
      keepers = so.keepers;
    };
  }

  -- behind the last shard comes the next region
  pub region_ends : (region : ℕ) (old now : World) → StreamsFrom tells s (region_store region 0) (region_store region s.shards) (Ok tt) old now
      → StreamsFrom tells s (region_store region 0) (region_store (region + 1) 0) (Ok tt) old now
  region_ends region old now p = record {
    on = λ start so. let is = p.on start so in record {
      steps = is.steps;
      streamed = is.streamed;
      up_to = up_to_region region s.shards is.steps is.up_to;
      whole = λ told. whole_region s now.keepers.told region (is.whole told);
      shards = is.shards;
      keepers = is.keepers;
    };
  }

  -- where it stops doesn't depend on which stream was to come
  pub stops_before : (at next other : StoreName) (given : SettleStop) (old now : World) → StreamsFrom tells s at next (Err given) old now
      → StreamsFrom tells s at other (Err given) old now
  stops_before at next other given old now p = record { on = λ start so. p.on start so }

  -- ---- all streams

  -- they begin
  pub streams_none : (start : World) → StreamsTill tells s (region_store 0 0) start start
  streams_none start = record {
    steps = [];
    streamed = reads_nothing tells start;
    up_to = tt;
    whole = λ told other configured before. none_before other before;
    shards = λ told. refl;
    keepers = later_self start.keepers;
  }
    where
      none_before : (other : StoreName) → IsStreamedBefore other (region_store 0 0) → (start.keepers.told other).log ≡ master_log s start.keepers.told other.shard
      none_before other (inl lt) = absurd (omega (arith, lt))
      none_before other (inr lt) = let less = lt.1 in absurd (omega (arith, less))

  -- and end behind the last region
  pub streams_all : (start now : World) → StreamsTill tells s (region_store (length s.regions) 0) start now → StreamsAll tells s start now
  streams_all start now so = record {
    steps = so.steps;
    streamed = so.streamed;
    whole = λ told at configured. so.whole told at configured (inl configured.region);
    shards = so.shards;
  }
