-- What a step of a stream keeps, and what it answers.
use Rattle.std.proofs.Common.{◌≡◌, ℕ, ◌+◌, Bool, true, [], ◌∷◌, length, Some, Result, Ok, Err, IfErr, IfOk, OnErr, refl, sym, ap, ◌∙◌, subst, inl, inr, arith}
use Rattle.std.proofs.lemmas.List.{length-append}
use Rattle.std.specs.Prelude.{IsSome}
use Rattle.counts.proofs.Rises.{Rose-earlier}
use Rattle.graph_model.specs.Told.{WhereTold}
use Rattle.shard_log.proofs.Beginnings.{begins-self}
use Rattle.shard_log.specs.View.{as_note}
use Rattle.shard_tables.specs.Written.{StandsIn}
use Rattle.tao_base.specs.declared.entry.Entry.{Entry}
use Rattle.tao_base.specs.declared.id.StoreName.{StoreName}
use Rattle.tao_keeper.specs.KeeperState.{IsLater, KeeperState, KeepsTables}
use Rattle.tao_keeper.specs.Table.{Table, Tables}
use Rattle.tao_link.specs.Shown.{LinkShown, after_carry}
use Rattle.topology.specs.Config.{Settings}
use Rattle.topology.specs.States.{NodeStates}
use Rattle.node_name.specs.declared.NodeName.{NodeName}
use Rattle.node_name.specs.declared.NodeName.TheVariants.{Store as StoreName_}
use Rattle.replies.specs.declared.nodes.StreamVerdict.{StreamVerdict}
use Rattle.replies.specs.declared.nodes.StreamVerdict.TheVariants as verdict
use Rattle.replies.specs.declared.nodes.Streamed.{Streamed}
use Rattle.replies.specs.declared.refusals.Refusal.{Refusal}
use Rattle.replies.specs.declared.refusals.NodeRefused.TheVariants.{NoEntry}
use Rattle.replies.specs.declared.refusals.Refusal.TheVariants.{Line, Memory, Name, Node as OfNode, Plan as OfPlan, Session, Store}
use Rattle.replies.specs.declared.refusals.StoreRefused.TheVariants.{KeeperFault, LinkFault, LogFull, SeqReused, TooOld, ShardFull, StampFull, Unsettled}
use Rattle.replies.specs.declared.refusals.When.TheVariants.{Before}
use Rattle.core_mail.specs.Inboxes.{HaveArrived}
use Rattle.core_model.specs.Consistent.{GoesOn, IsConsistent}
use Rattle.core_model.specs.Fleet.{Fleet}
use Rattle.core_model.specs.Growing.{StoresGrow}
use Rattle.core_model.specs.Pens.{Pens}
use Rattle.core_model.specs.Stores.{AreStoresOf}
use Rattle.core_model.specs.Writes.{IsSeenEntry}
use Rattle.core_nodes.specs.Streams.{FindsNext, StreamsTo, UnlessApplied, next_position}
use Rattle.core_nodes.specs.declared.streams.NextEntry.TheVariants as found
use Rattle.core_nodes.proofs.GrowingLemmas.{stays_stores}
use Rattle.core_nodes.specs.Settling.{IsLaterLink}
use Rattle.tao_keeper.proofs.Later.{later_self}
use Rattle.core_steps.proofs.LinkLemmas.{carried_on, failed_carry, link_self}
use Rattle.core_steps.proofs.PostsLemmas.{posts_none, posts_same, posts_trans}
use Rattle.core_steps.proofs.NotifyLemmas.{arrived_grows}
use Rattle.core_steps.proofs.ReadLemmas.{goes_trans}
use Rattle.core_steps.proofs.StreamLemmas.{RegionDone, arrived_as, reaches_as, takes_before}
use Rattle.core_steps.specs.Posting.{CanPost, ChangesNoNode, PostsOn}
use Rattle.core_steps.specs.ReadSteps.{AskFails}
use Rattle.core_steps.specs.Routes.{FailsCarry, master_node}
use Rattle.core_steps.specs.Streams.{ComesToNothing, FailsToTake, IsLoad, OnlyReadsKeepers, StreamsOver, TakesAs, TakesCarried, TakesLoad}
use Rattle.core_steps.specs.Streams.{next_after}
use Rattle.core_steps.specs.World.{World, world}
use Rattle.core_steps.specs.declared.nodes.Nodes.{Nodes}
use Rattle.core_steps.specs.declared.streaming.AskedStream.{AskedStream}
use Rattle.core_steps.specs.declared.streaming.Load.{Load}

-- a note of the pen has seen the entry
pub seen_note : (pens : Pens) (shard : ℕ) (e : Entry) → StandsIn (pens shard) e → IsSeenEntry pens shard (as_note (pens shard)) e
seen_note pens shard e stands = record { seen = record { log_is = refl; begins = begins-self (pens shard).entries }; stands = stands }

-- what is left once the store and the nodes of its region took what was carried
pub record HasLanded (tells : Bool) (s : Settings) (at : StoreName) (e : Entry) (said : StreamVerdict) (old new : World) : Type 0 where
  pub takes : TakesLoad tells s at e said old new
  pub on : PostsOn tells s old new

module _ (tells : Bool) (s : Settings) (at : StoreName) (e : Entry) (said : StreamVerdict) (old : Nodes) (mid : Fleet) (new : Nodes)
    (before after : KeeperState) where
  pub landed : WhereTold tells (StreamsTo s at e (Ok said) before.told after.told) → mid ≡ record old.fleet { stores = mid.stores }
      → UnlessApplied (Ok said) (mid ≡ old.fleet) → IsConsistent tells s after.told mid → GoesOn old.fleet mid
      → StoresGrow tells s before.told after.told → IsLater before after → RegionDone s at e said (record old { fleet = mid }) new
      → WhereTold tells (HaveArrived before.told old.mail) → (link : LinkShown)
      → HasLanded tells s at e said (world old before link) (world new after link)
  landed streams rest rests consistent goes grows later region arrived link =
      let between : World = world (record old { fleet = mid }) after link in
      let takes = region.takes after link in
      let stores = ap (λ (n : Nodes). n.fleet.stores) region.rest in
      record {
        takes = record {
          streams = streams;
          takes = takes_before said at e (world old before link) between (world new after link) rest rests refl refl takes;
          states = ap (λ (n : Nodes). n.topology) region.rest;
        };
        on = record {
          consistent = record {
            stores = subst (AreStoresOf tells s after.told) (sym stores) consistent.stores;
            fleet = region.fleet;
            reached = λ told. reaches_as s at e before.told after.told between (world new after link) said (streams told) takes (consistent.reached told);
          };
          inboxes = region.inboxes;
          arrived = λ told.
              arrived_as s at e before.told after.told between (world new after link) said (streams told) takes
              (arrived_grows tells before.told after.told old.mail grows.on.logs arrived told);
          states = ap (λ (n : Nodes). n.topology) region.rest;
          goes = goes_trans old.fleet mid new.fleet goes region.goes;
          grows = grows;
          later = later;
          link = link_self link;
        };
      }

-- ---- an entry that is carried

-- an entry, and the store that it is carried to
pub record AtStore : Type 0 where
  pub at : StoreName
  pub entry : Entry

-- an entry that is carried to the store
abbrev pub at_store : StoreName → Entry → AtStore
at_store at entry = record { at = at; entry = entry }

-- what is loaded is the entry
pub own_load : (pens : Pens) (states : NodeStates) (at : StoreName) (e : Entry) (load : Load) → IsLoad pens states at e load
    → IsLoad pens states at load.entry load
own_load pens states at e load is = subst (λ x. IsLoad pens states at x load) (sym is.entry_is) is

module _ (tells : Bool) (s : Settings) (at : StoreName) where
  -- nothing was carried
  pub fails_memory : (now : World) → FailsToTake tells s at (Memory 0) now now
  fails_memory now = (
    refl,
    record { same = record { fleet = refl; inboxes = refl; states = refl; tables = λ told store. refl }; link = inl refl },
  )

  -- the carry failed
  pub fails_carry : (nodes : Nodes) (keepers : KeeperState) (link after : LinkShown) (count : ℕ) (from : NodeName) (refusal : Refusal)
      → from ≡ master_node s at.shard → FailsCarry from (StoreName_ at) link after → count ≡ after.faults → refusal ≡ Store (LinkFault count Before)
      → FailsToTake tells s at refusal (world nodes keepers link) (world nodes keepers after)
  fails_carry nodes keepers link after count from refusal from_is fails counted is =
      subst (λ r. FailsToTake tells s at r (world nodes keepers link) (world nodes keepers after)) (sym is) (
        counted,
        refl,
        subst (λ n. FailsCarry n (StoreName_ at) link after) from_is fails,
        record { fleet = refl; inboxes = refl; states = refl; tables = λ told store. refl },
      )

  -- the store took nothing
  module _ (old new : Nodes) (before after : KeeperState) (link carried : LinkShown) (same : new ≡ old) (stays : KeepsTables tells before after)
      (is : carried ≡ after_carry link) where
    nothing : ComesToNothing tells (world old before link) (world new after carried)
    nothing = record {
      same = record {
        fleet = ap (λ (n : Nodes). n.fleet) same;
        inboxes = ap (λ (n : Nodes). n.mail) same;
        states = ap (λ (n : Nodes). n.topology) same;
        tables = stays;
      };
      link = inr is;
    }

    pub fails_there : (refusal : Refusal) → AskFails refusal before after → FailsToTake tells s at refusal (world old before link) (world new after carried)
    fails_there (Store (KeeperFault count)) asks = (asks.0, asks.1, nothing)
    fails_there (Memory position) asks = (asks, nothing)
    fails_there (Store (TooOld cut position)) asks = absurd asks
    fails_there (Store (SeqReused position)) asks = absurd asks
    fails_there (Store (ShardFull serial)) asks = absurd asks
    fails_there (Store (StampFull number)) asks = absurd asks
    fails_there (Store (LogFull count)) asks = absurd asks
    fails_there (Store (LinkFault count when)) asks = absurd asks
    fails_there (Store (Unsettled shard why)) asks = absurd asks
    fails_there (OfNode other) asks = absurd asks
    fails_there (Line other) asks = absurd asks
    fails_there (OfPlan other) asks = absurd asks
    fails_there (Session other) asks = absurd asks
    fails_there (Name other) asks = absurd asks

  -- it said so of the entry
  pub took_carried : (e load : Entry) (old new : Nodes) (before after : KeeperState) (link carried : LinkShown) (r : Result StreamVerdict Refusal)
      → load ≡ e → carried ≡ after_carry link
      → IfOk r (λ said. TakesLoad tells s at load said (world old before carried) (world new after carried))
      → IfOk r (λ said. TakesCarried tells s at e said (world old before link) (world new after carried))
  took_carried e load old new before after link carried (Ok said) same is took =
      let there = subst (λ x. TakesLoad tells s at x said (world old before carried) (world new after carried)) same took in
      record { streams = there.streams; takes = takes_any said e there.takes; states = there.states; link = is }
    where
      -- whatever the link shows
      takes_any : (said : StreamVerdict) (e : Entry) → TakesAs said at e (world old before carried) (world new after carried)
          → TakesAs said at e (world old before link) (world new after carried)
      takes_any verdict.Applied e takes =
          record { leader = takes.leader; followers = takes.followers; note = takes.note; notified = takes.notified }
      takes_any verdict.Old e takes = takes
      takes_any verdict.Gap e takes = takes
      takes_any verdict.None e takes = takes
  took_carried e load old new before after link carried (Err refusal) same is took = tt

  pub failed_there : (old new : Nodes) (before after : KeeperState) (link carried : LinkShown) (r : Result StreamVerdict Refusal)
      → carried ≡ after_carry link → OnErr r (new ≡ old) → OnErr r (KeepsTables tells before after) → IfErr r (λ refusal. AskFails refusal before after)
      → IfErr r (λ refusal. FailsToTake tells s at refusal (world old before link) (world new after carried))
  failed_there old new before after link carried (Ok said) is same stays asks = tt
  failed_there old new before after link carried (Err refusal) is same stays asks =
      fails_there old new before after link carried same stays is refusal asks

-- what is left of an entry that was carried: what the store said of it, or why it was not taken
pub record IsCarried (tells : Bool) (s : Settings) (load : AtStore) (r : Result StreamVerdict Refusal) (old new : World) : Type 0 where
  pub takes : IfOk r (λ said. TakesCarried tells s load.at load.entry said old new)
  pub err : IfErr r (λ refusal. FailsToTake tells s load.at refusal old new)
  pub on : PostsOn tells s old new

-- a carry that succeeded keeps all
carry_posts : (tells : Bool) (s : Settings) (nodes : Nodes) (keepers : KeeperState) (link carried : LinkShown) → CanPost tells s (world nodes keepers link)
    → IsLaterLink link carried → PostsOn tells s (world nodes keepers link) (world nodes keepers carried)
carry_posts tells s nodes keepers link carried ready later =
    posts_same tells s (world nodes keepers link) (world nodes keepers carried) ready.inboxes ready.arrived refl refl refl ready.consistent
    (stays_stores tells s keepers keepers (λ told store. refl)) (later_self keepers) later

module _ (tells : Bool) (s : Settings) (at : StoreName) (e : Entry) (old : Nodes) (before : KeeperState) (link : LinkShown)
    (ready : CanPost tells s (world old before link)) where
  -- nothing was loaded
  pub unloaded : (mid : Nodes) (refusal : Refusal) → mid ≡ old → refusal ≡ Memory 0
      → IsCarried tells s (at_store at e) (Err refusal) (world old before link) (world mid before link)
  unloaded mid refusal same is =
      subst (λ r. IsCarried tells s (at_store at e) (Err r) (world old before link) (world mid before link)) (sym is)
      (subst (λ (n : Nodes). IsCarried tells s (at_store at e) (Err (Memory 0)) (world old before link) (world n before link)) (sym same)
      (record { takes = tt; err = fails_memory tells s at (world old before link); on = posts_none tells s (world old before link) ready }))

  -- the carry failed
  pub uncarried : (mid : Nodes) (after : LinkShown) (from : NodeName) (refusal : Refusal) → mid ≡ old → from ≡ master_node s at.shard
      → FailsCarry from (StoreName_ at) link after → refusal ≡ Store (LinkFault after.faults Before)
      → IsCarried tells s (at_store at e) (Err refusal) (world old before link) (world mid before after)
  uncarried mid after from refusal same from_is fails is =
      subst (λ (n : Nodes). IsCarried tells s (at_store at e) (Err refusal) (world old before link) (world n before after)) (sym same)
      (record {
        takes = tt;
        err = fails_carry tells s at old before link after after.faults from refusal from_is fails refl is;
        on = carry_posts tells s old before link after ready (failed_carry _ link after fails);
      })

  -- it came there
  pub carried_there : (mid new : Nodes) (after : KeeperState) (carried : LinkShown) (load : Entry) (r : Result StreamVerdict Refusal) → mid ≡ old
      → load ≡ e → carried ≡ after_carry link
      → IfOk r (λ said. TakesLoad tells s at load said (world mid before carried) (world new after carried)) → OnErr r (new ≡ mid)
      → OnErr r (KeepsTables tells before after) → IfErr r (λ refusal. AskFails refusal before after)
      → PostsOn tells s (world mid before carried) (world new after carried)
      → IsCarried tells s (at_store at e) r (world old before link) (world new after carried)
  carried_there mid new after carried load r same entry_is is takes rests stays asks on =
      let own : PostsOn tells s (world old before carried) (world new after carried) =
      subst (λ (n : Nodes). PostsOn tells s (world n before carried) (world new after carried)) same on in
      record {
        takes = took_carried tells s at e load old new before after link carried r entry_is is
            (subst (λ (n : Nodes). IfOk r (λ said. TakesLoad tells s at load said (world n before carried) (world new after carried))) same takes);
        err = failed_there tells s at old new before after link carried r is (subst (λ (n : Nodes). OnErr r (new ≡ n)) same rests) stays asks;
        on = posts_trans tells s (world old before link) (world old before carried) (world new after carried)
            (carry_posts tells s old before link carried ready (carried_on link carried is)) own;
      }

-- ---- a step

-- a store that took the entry takes the next one then
next_there : (s : Settings) (at : StoreName) (e : Entry) (old new : Tables) (said : StreamVerdict) (next : ℕ) → next ≡ next_position old at
    → StreamsTo s at e (Ok said) old new → next_after next said ≡ next_position new at
next_there s at e old new verdict.Applied next is streams =
    let grown = ap (λ (t : Table). length t.log) streams.1.gains.here in
    let more = length-append (old at).log (e ∷ []) in
    omega (arith, is, grown, more)
next_there s at e old new verdict.Old next is streams = is ∙ ap (λ (t : Table). length t.log + 1) (sym (streams.1 at))
next_there s at e old new verdict.Gap next is streams = is ∙ ap (λ (t : Table). length t.log + 1) (sym (streams.1 at))
next_there s at e old new verdict.None next is streams = absurd streams

module _ (tells : Bool) (s : Settings) (asked : AskedStream) (old between new : Nodes) (before mid after : KeeperState) (link carried : LinkShown)
    (same : between ≡ old) (stays : KeepsTables tells before mid) where
  -- the tables are those of before
  tables_same : tells ≡ true → mid.told ≡ before.told
  tables_same told = λ i store. stays told store i

  pub streamed_entry : (said : StreamVerdict) (e : Entry) (next : ℕ) (streamed : Streamed)
      → WhereTold tells (FindsNext s before.told asked.at asked.position (found.Found e next))
      → TakesCarried tells s asked.at e said (world between mid link) (world new after carried)
      → streamed ≡ record { hops = 1; next = next_after next said; verdict = said }
      → StreamsOver tells s asked (Ok streamed) (world old before link) (world new after carried)
  streamed_entry said e next streamed finds took is =
      subst (λ x. StreamsOver tells s asked (Ok x) (world old before link) (world new after carried)) (sym is) (inr (record {
        entry = e;
        carried = λ told. (finds told).1;
        streams = λ told. subst (λ t. StreamsTo s asked.at e (Ok said) t after.told) (tables_same told) (took.streams told);
        takes = takes_of said (subst (λ (n : Nodes). TakesAs said asked.at e (world n mid link) (world new after carried)) same took.takes);
        next_is = λ told.
            next_there s asked.at e before.told after.told said next (finds told).0
            (subst (λ t. StreamsTo s asked.at e (Ok said) t after.told) (tables_same told) (took.streams told));
        hops_is = refl;
        link = took.link;
        states = took.states ∙ ap (λ (n : Nodes). n.topology) same;
      }))
    where
      -- whatever the keepers show
      takes_of : (said : StreamVerdict) → TakesAs said asked.at e (world old mid link) (world new after carried)
          → TakesAs said asked.at e (world old before link) (world new after carried)
      takes_of verdict.Applied takes =
          record { leader = takes.leader; followers = takes.followers; note = takes.note; notified = takes.notified }
      takes_of verdict.Old takes = takes
      takes_of verdict.Gap takes = takes
      takes_of verdict.None takes = takes

  -- nothing was carried
  only_read : OnlyReadsKeepers tells (world old before link) (world between mid link)
  only_read = record {
    rest = subst (λ (n : Nodes). world n mid link ≡ record (world old before link) { keepers = mid }) (sym same) refl;
    tables = stays;
  }

  pub streamed_nothing : (next : ℕ) (streamed : Streamed) → WhereTold tells (FindsNext s before.told asked.at asked.position (found.Nothing next))
      → streamed ≡ record { hops = 0; next = next; verdict = verdict.None }
      → StreamsOver tells s asked (Ok streamed) (world old before link) (world between mid link)
  streamed_nothing next streamed finds is =
      subst (λ x. StreamsOver tells s asked (Ok x) (world old before link) (world between mid link)) (sym is) (inl (record {
        why = λ told. (finds told).1;
        next_is = λ told. (finds told).0 ∙ ap (λ (t : Table). length t.log + 1) (sym (stays told asked.at));
        hops_is = refl;
        rest = only_read;
      }))

  -- what is asked for was taken long ago
  pub streamed_old : (next : ℕ) (streamed : Streamed) → IsSome asked.position
      → WhereTold tells (FindsNext s before.told asked.at asked.position (found.Old next))
      → streamed ≡ record { hops = 0; next = next; verdict = verdict.Old }
      → StreamsOver tells s asked (Ok streamed) (world old before link) (world between mid link)
  streamed_old next streamed given finds is =
      subst (λ x. StreamsOver tells s asked (Ok x) (world old before link) (world between mid link)) (sym is) (inl (record {
        why = (given, λ told. (finds told).1);
        next_is = λ told. (finds told).0 ∙ ap (λ (t : Table). length t.log + 1) (sym (stays told asked.at));
        hops_is = refl;
        rest = only_read;
      }))

  pub lacks_entry : (count position : ℕ) (refusal : Refusal) → asked.position ≡ Some position
      → WhereTold tells (FindsNext s before.told asked.at asked.position (found.Past count position)) → refusal ≡ OfNode (NoEntry count position)
      → StreamsOver tells s asked (Err refusal) (world old before link) (world between mid link)
  lacks_entry count position refusal asked_is finds is =
      subst (λ r. StreamsOver tells s asked (Err r) (world old before link) (world between mid link)) (sym is) (asked_is, finds, only_read)

  -- the stores gave no answer
  unread : ComesToNothing tells (world old before link) (world between mid link)
  unread = record {
    same = record {
      fleet = ap (λ (n : Nodes). n.fleet) same;
      inboxes = ap (λ (n : Nodes). n.mail) same;
      states = ap (λ (n : Nodes). n.topology) same;
      tables = stays;
    };
    link = inl refl;
  }

  pub refuses_read : (refusal : Refusal) → AskFails refusal before mid
      → StreamsOver tells s asked (Err refusal) (world old before link) (world between mid link)
  refuses_read (Store (KeeperFault count)) asks = (asks.0, asks.1, unread)
  refuses_read (Memory position) asks = (asks, unread)
  refuses_read (Store (TooOld cut position)) asks = absurd asks
  refuses_read (Store (SeqReused position)) asks = absurd asks
  refuses_read (Store (ShardFull serial)) asks = absurd asks
  refuses_read (Store (StampFull number)) asks = absurd asks
  refuses_read (Store (LogFull count)) asks = absurd asks
  refuses_read (Store (LinkFault count when)) asks = absurd asks
  refuses_read (Store (Unsettled shard why)) asks = absurd asks
  refuses_read (OfNode other) asks = absurd asks
  refuses_read (Line other) asks = absurd asks
  refuses_read (OfPlan other) asks = absurd asks
  refuses_read (Session other) asks = absurd asks
  refuses_read (Name other) asks = absurd asks

  -- the entry was not taken
  unchanged : ChangesNoNode tells (world between mid link) (world new after carried) → ChangesNoNode tells (world old before link) (world new after carried)
  unchanged is = record {
    fleet = is.fleet ∙ ap (λ (n : Nodes). n.fleet) same;
    inboxes = is.inboxes ∙ ap (λ (n : Nodes). n.mail) same;
    states = is.states ∙ ap (λ (n : Nodes). n.topology) same;
    tables = λ told store. is.tables told store ∙ stays told store;
  }

  at_nothing : ComesToNothing tells (world between mid link) (world new after carried)
      → ComesToNothing tells (world old before link) (world new after carried)
  at_nothing is = record { same = unchanged is.same; link = is.link }

  pub refuses_entry : (refusal : Refusal) → IsLater before mid → FailsToTake tells s asked.at refusal (world between mid link) (world new after carried)
      → StreamsOver tells s asked (Err refusal) (world old before link) (world new after carried)
  refuses_entry (Store (KeeperFault count)) later fails =
      (fails.0, Rose-earlier before.faults mid.faults after.faults later.faults fails.1, at_nothing fails.2)
  refuses_entry (Store (LinkFault count when)) later fails = (fails.0, fails.1, fails.2, unchanged fails.3)
  refuses_entry (Memory position) later fails = (fails.0, at_nothing fails.1)
  refuses_entry (Store (TooOld cut position)) later fails = absurd fails
  refuses_entry (Store (SeqReused position)) later fails = absurd fails
  refuses_entry (Store (ShardFull serial)) later fails = absurd fails
  refuses_entry (Store (StampFull number)) later fails = absurd fails
  refuses_entry (Store (LogFull count)) later fails = absurd fails
  refuses_entry (Store (Unsettled shard why)) later fails = absurd fails
  refuses_entry (OfNode other) later fails = absurd fails
  refuses_entry (Line other) later fails = absurd fails
  refuses_entry (OfPlan other) later fails = absurd fails
  refuses_entry (Session other) later fails = absurd fails
  refuses_entry (Name other) later fails = absurd fails

-- what was read alone keeps all
pub reads_post : (tells : Bool) (s : Settings) (old between : Nodes) (before mid : KeeperState) (link : LinkShown) → CanPost tells s (world old before link)
    → between ≡ old → KeepsTables tells before mid → IsConsistent tells s mid.told between.fleet → IsLater before mid
    → PostsOn tells s (world old before link) (world between mid link)
reads_post tells s old between before mid link ready same stays consistent later =
    posts_same tells s (world old before link) (world between mid link) ready.inboxes ready.arrived (ap (λ (n : Nodes). n.fleet) same)
    (ap (λ (n : Nodes). n.mail) same) (ap (λ (n : Nodes). n.topology) same) consistent (stays_stores tells s before mid stays) later (link_self link)
