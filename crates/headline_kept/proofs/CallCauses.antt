-- Each refusal of a call has its cause, held or not.
use Rattle.std.proofs.Common.{◌≡◌, ◌∙◌, ℕ, zero, suc, ◌<◌, Bool, true, false, Option, Some, None, refl, sym, subst, inl, inr, arith}
use Rattle.std.proofs.lemmas.Bool.{cases_Bool, lt-ltb, ltb-false}
use Rattle.std.specs.Option.{option_map}
use Rattle.std.specs.Prelude.{IfSome, IsTrue, nat_lt}
use Rattle.core_model.specs.Stores.{HaveMasterRegions}
use Rattle.core_plans.proofs.WholeUp.{whole_calls_are_up}
use Rattle.core_plans.specs.Held.{IsOver}
use Rattle.core_plans.specs.HeldWrites.{call_of_plan}
use Rattle.core_plans.specs.LedBy.{rules_of}
use Rattle.core_plans.specs.Needs.{down_of, first_down, leaders_of_write, or_else, tier_of_write}
use Rattle.core_plans.specs.WholeCalls.{CarriesOut}
use Rattle.core_plans.proofs.WholeRuns.{OfRead, OfWrite as OfWritePlan}
use Rattle.core_plans.specs.WholeLaws.{IsBegun, IsBegunRead, IsBegunWrite}
use Rattle.core_plans.specs.declared.held.HeldPlan.{HeldPlan}
use Rattle.core_plans.specs.declared.held.HeldPlan.TheVariants as of
use Rattle.core_plans.specs.declared.needs.Needs.{Needs}
use Rattle.core_steps.specs.OtherEnds.{master_leader}
use Rattle.core_model.specs.Asked.{AuthoredWrite}
use Rattle.core_steps.specs.Writes.{asked_of_log}
use Rattle.graph_model.specs.Told.{WhereTold}
use Rattle.node_name.specs.declared.NodeName.{NodeName}
use Rattle.plain_promise.specs.Promise.{refused_at}
use Rattle.read_plan.specs.Readings.{Reading}
use Rattle.replies.specs.declared.refusals.NodeRefused.TheVariants.{NoServer, NodeDown}
use Rattle.replies.specs.declared.refusals.Refusal.{Refusal}
use Rattle.replies.specs.declared.refusals.Refusal.TheVariants.{Memory, Node, Store}
use Rattle.replies.specs.declared.refusals.StoreRefused.TheVariants.{KeeperFault, LinkFault, LogFull, SeqReused, TooOld, ShardFull, StampFull}
use Rattle.replies.specs.declared.refusals.When.{When}
use Rattle.replies.specs.declared.reply.Reply.{Reply}
use Rattle.replies.specs.declared.reply.Reply.TheVariants.{Called, Refused}
use Rattle.request_check.specs.declared.checked.Checked.{Checked}
use Rattle.requests.specs.declared.request.Request.{Request}
use Rattle.shard_tables.specs.Written.{AskedWrite, IsLogFull, IsReused, IsTooOld, IsShardFull, IsStampFull}
use Rattle.tao_base.specs.Writes.{write_shard}
use Rattle.tao_base.specs.declared.entry.Entry.{Entry}
use Rattle.tao_core.specs.Calls.{world_of}
use Rattle.tao_core.specs.Core.{Moment, outside_at}
use Rattle.tao_core.specs.HeldCalls.{DoesAtOnce, Held, Leaves, NumberedPlan, numbered_reply}
use Rattle.words.specs.declared.PlanWord.{PlanWord}
use Rattle.replies.specs.declared.plans.Stage.{Stage}
use Rattle.tao_keeper.specs.KeeperState.{KeepsTables}
use Rattle.tao_keeper.specs.Table.{Tables}
use Rattle.topology.proofs.Found.{find_passes}
use Rattle.topology.specs.Choices.{chosen_follower, chosen_leader, followers_in_turn, master_region}
use Rattle.topology.specs.Config.{Settings}
use Rattle.topology.specs.States.{NodeStates, is_up}
use Rattle.write_plan.specs.Plans.{Writing, answered_entry, reply_by, when_of}
use Rattle.write_plan.specs.declared.committed.Committed.{Committed}
use Rattle.headline_kept.specs.Causes.{FullCause, HasCause, HasNoLeader, NodeCause, OfWrite}
use Rattle.headline_kept.specs.Standing.{Asks, StandsAt, StandsWhen, write_of}
use Rattle.headline_kept.proofs.StageCauses.{ReadCause, RefusedBy, WriteCause, WriteTerms, refusal_so}
use Rattle.headline_kept.proofs.WholeCauses.{AnyDown, ReadRuns, WriteRuns, read_runs, whole_terms, write_runs}

-- ---- what a refusal leaves

-- the refusal has its cause, and where it tells no position no table changed
pub record Refuses (tells : Bool) (old : Moment) (request : Request) (refusal : Refusal) (new : Moment) : Type 0 where
  pub cause : HasCause tells old request refusal new
  pub same : nat_lt 0 (refused_at refusal) ≡ false → KeepsTables tells old.keepers new.keepers

-- a plan ended with this refusal, and not with an Ok reply
refused_reply : (refused : Option Reply) (committed : Option Committed) (job : _) (hops : ℕ) (refusal : Refusal)
    → reply_by refused committed job hops ≡ Some (Refused refusal) → refused ≡ Some (Refused refusal)
refused_reply (Some reply) committed job hops refusal is = is
refused_reply None None job hops refusal is = absurd (cc)
refused_reply None (Some c) job hops refusal is = absurd (cc)

refusal_of : (P : Refusal → Type 0) (refused : Option Reply) (refusal : Refusal) → refused ≡ Some (Refused refusal) → RefusedBy P refused → P refusal
refusal_of P refused refusal is fails =
    let by = subst (RefusedBy P) is fails in
    let both : Refused refusal ≡ Refused by.0 = by.1 in
    let same : refusal ≡ by.0 = cc in
    subst P (sym same) by.2

-- why a write was refused, by its plan's reply
pub write_refusal : (P : Refusal → Type 0) (q : Writing) (refusal : Refusal) → RefusedBy P q.refused → IsOver (of.Write q) (Refused refusal) → P refusal
write_refusal P q refusal fails over = refusal_of P q.refused refusal (refused_reply q.refused q.committed q.job q.hops refusal over) fails

-- ---- the causes of a line's refusal

module _ (tells : Bool) (old : Moment) (request : Request) (what : Checked) (new : Moment) (asks : Asks old request what) where
  abbrev s : Settings
  s = old.core.settings

  abbrev Down : (NodeName → When → Type 0) → Type 0
  Down D = (node : NodeName) (when : When) → D node when → NodeCause tells what old (NodeDown node when) new

  -- a read's
  pub read_cause : (D : NodeName → When → Type 0) → Down D → (refusal : Refusal) → ReadCause D (outside_at old) (outside_at new) refusal
      → HasCause tells old request refusal new
  read_cause D down (Store (KeeperFault count)) h = (what, asks, h)
  read_cause D down (Store (LinkFault count when)) h =
      (what, asks, (h.0, h.1, subst (StandsWhen tells s new.keepers.told (write_of old.core.plans what)) (sym h.2) tt))
  read_cause D down (Memory position) h = subst (λ n. HasCause tells old request (Memory n) new) (sym h) tt
  read_cause D down (Node (NodeDown node when)) h = (what, asks, down node when h)
  read_cause D down refusal h = absurd h

  -- a write's, whose entry stands
  module _ (First : Type 0) (call : AuthoredWrite) (entry : Option Entry) (Leaderless : ℕ → Type 0) (D : NodeName → When → Type 0)
      (is : write_of old.core.plans what ≡ Some call) (stands : StandsWhen tells s new.keepers.told (Some call) (when_of entry)) where
    abbrev Terms : WriteTerms
    Terms = record { tells = tells; First = First; asked = asked_of_log s old.keepers call; entry = entry; Leaderless = Leaderless; Down = D }

    abbrev Server : Type 0
    Server = (region : ℕ) → First → Leaderless region → NodeCause tells what old (NoServer region) new

    abbrev Full : Type 0
    Full = (count : ℕ) → OfWrite tells s old.keepers (write_of old.core.plans what) (λ write. IsLogFull write count) → FullCause tells what old count new

    of_write : (Is : AskedWrite → Type 0) → WhereTold tells (Is (asked_of_log s old.keepers call))
        → OfWrite tells s old.keepers (write_of old.core.plans what) Is
    of_write Is h = subst (λ w. OfWrite tells s old.keepers w Is) (sym is) h

    pub its_stand : (when : When) → when ≡ when_of entry → StandsWhen tells s new.keepers.told (write_of old.core.plans what) when
    its_stand when same = subst (λ w. StandsWhen tells s new.keepers.told w when) (sym is)
        (subst (StandsWhen tells s new.keepers.told (Some call)) (sym same) stands)

    pub write_cause : Down D → Server → Full → (refusal : Refusal) → WriteCause Terms (outside_at old) (outside_at new) refusal
        → HasCause tells old request refusal new
    write_cause down server full (Store (TooOld cut position)) h = (what, asks, of_write (λ write. IsTooOld write cut position) h.1)
    write_cause down server full (Store (SeqReused position)) h = (what, asks, of_write (λ write. IsReused write position) h.1)
    write_cause down server full (Store (ShardFull serial)) h = (what, asks, of_write (λ write. IsShardFull write serial) h.1)
    write_cause down server full (Store (StampFull number)) h = (what, asks, of_write (λ write. IsStampFull write number) h.1)
    write_cause down server full (Store (LogFull count)) h = (what, asks, full count (of_write (λ write. IsLogFull write count) h.1))
    write_cause down server full (Store (KeeperFault count)) h = (what, asks, (h.1, h.2))
    write_cause down server full (Store (LinkFault count when)) h = (what, asks, (h.0, h.1, its_stand when h.2))
    write_cause down server full (Memory position) h = subst (λ n. HasCause tells old request (Memory n) new) (sym h.1) tt
    write_cause down server full (Node (NoServer region)) h = (what, asks, server region h.0 h.1)
    write_cause down server full (Node (NodeDown node when)) h = (what, asks, down node when h)
    write_cause down server full refusal h = absurd h

-- ---- what stands at a position

-- an entry stands at no position 0
no_zero : (s : Settings) (tables : Tables) (call : AuthoredWrite) (position : ℕ) → nat_lt 0 position ≡ false → StandsAt s tables call position → ⊥
no_zero s tables call zero small at = (let no : None ≡ Some at.entry = at.stands in absurd (cc))
no_zero s tables call (suc n) small at = (let le = ltb-false 0 (suc n) small in absurd (omega (arith, le)))

-- where a fault tells no position, there is no entry
pub no_entry_told : (tells : Bool) (s : Settings) (tables : Tables) (call : AuthoredWrite) (count : ℕ) (when : When) (entry : Option Entry)
    → when ≡ when_of entry → StandsWhen tells s tables (Some call) (when_of entry) → nat_lt 0 (refused_at (Store (LinkFault count when))) ≡ false
    → WhereTold tells (entry ≡ None)
no_entry_told tells s tables call count when None is stands small told = refl
no_entry_told tells s tables call count when (Some e) is stands small told =
    absurd (no_zero s tables call e.position (subst (λ w. nat_lt 0 (refused_at (Store (LinkFault count w))) ≡ false) is small) (stands told))

-- ---- who is down, and who can't be chosen

none_mapped : {A B : Type 0} (f : A → B) (o : Option A) → option_map f o ≡ None → o ≡ None
none_mapped f None is = refl
none_mapped f (Some x) is = absurd (cc)

-- no leader can be chosen for the write
pub no_leader : (settings : Settings) (states : NodeStates) (p : Writing) (region : ℕ) → write_shard p.write < settings.shards
    → leaders_of_write settings states p ≡ None → region ≡ master_region states (write_shard p.write)
    → HasNoLeader states (p.region, p.tier) (write_shard p.write) region
no_leader settings states p region here none region_is =
    let shard = write_shard p.write in
    let by = none_mapped _ (master_leader settings states (tier_of_write p) shard) none in
    let chosen : chosen_leader states (p.region, p.tier) (master_region states shard) shard ≡ None = rw (lt-ltb shard settings.shards here) at by in
    record { region_is = region_is; none = subst (λ r. chosen_leader states (p.region, p.tier) r shard ≡ None) (sym region_is) chosen }

down_is : (states : NodeStates) (needed : Option NodeName) (node : NodeName) → down_of states needed ≡ Some node → is_up states node ≡ false
down_is states None node is = absurd (cc)
down_is states (Some n) node is = elim (cases_Bool (is_up states n)) [
  | inl up ↦ (let no : None ≡ Some node = rw up at is in absurd (cc))
  | inr down ↦ (let here : Some n ≡ Some node = rw down at is in let same : n ≡ node = cc in subst (λ x. is_up states x ≡ false) same down)
]

either_is : (states : NodeStates) (acting sending : Option NodeName) (node : NodeName) → or_else (down_of states acting) (down_of states sending) ≡ Some node
    → (acted : Option NodeName) → down_of states acting ≡ acted → is_up states node ≡ false
either_is states acting sending node is None acted =
    down_is states sending node (subst (λ d. or_else d (down_of states sending) ≡ Some node) acted is)
either_is states acting sending node is (Some n) acted =
    let here : Some n ≡ Some node = subst (λ d. or_else d (down_of states sending) ≡ Some node) acted is in
    down_is states acting node (acted ∙ here)

-- the node that is needed and is down isn't up
pub first_is : (states : NodeStates) (needs : Needs) (node : NodeName) → first_down states needs ≡ Some node → is_up states node ≡ false
first_is states needs node is = either_is states needs.acting needs.sending node is (down_of states needs.acting) refl

-- a follower that is chosen is up
pub chosen_up : (states : NodeStates) (region tier shard : ℕ) (follower : NodeName) → chosen_follower states region tier shard ≡ Some follower
    → is_up states follower ≡ true
chosen_up states region tier shard follower chosen =
    subst (λ o. IfSome o (λ x. IsTrue (is_up states x))) chosen (find_passes (is_up states) (followers_in_turn states.regions region tier shard))

-- ---- calls that aren't held

abbrev pub NoneDown : NodeName → When → Type 0
NoneDown node when = ⊥

module _ (tells : Bool) (mid new : Moment) (refusal : Refusal) where
  abbrev settings : Settings
  settings = mid.core.settings

  abbrev IsOut : HeldPlan → HeldPlan → Type 0
  IsOut plan after = CarriesOut (rules_of tells settings) plan (world_of mid) after (world_of new)

  -- no node is down that a call needs
  read_narrow : (p : Reading) (after : HeldPlan) (told : Refusal) → IsBegun (of.Read p) → is_up mid.core.states p.follower ≡ true → IsOut (of.Read p) after
      → IsOver after (Refused told) → ReadCause AnyDown (outside_at mid) (outside_at new) told → ReadCause NoneDown (outside_at mid) (outside_at new) told
  read_narrow p after (Store (KeeperFault count)) begun up out over h = h
  read_narrow p after (Store (LinkFault count when)) begun up out over h = h
  read_narrow p after (Memory position) begun up out over h = h
  read_narrow p after (Node (NodeDown node when)) begun up out over h =
      (whole_calls_are_up (rules_of tells settings) (of.Read p) (world_of mid) after (world_of new)).never_down begun up out node when over
  read_narrow p after told begun up out over h = absurd h

  read_over : (p : Reading) (after : HeldPlan) → IsBegun (of.Read p) → is_up mid.core.states p.follower ≡ true → IsOut (of.Read p) after
      → OfRead (ReadRuns (rules_of tells settings) (world_of mid)) after (world_of new) → IsOver after (Refused refusal)
      → ReadCause NoneDown (outside_at mid) (outside_at new) refusal × KeepsTables tells mid.keepers new.keepers
  read_over p (of.Read q) begun up out runs over = (
    read_narrow p (of.Read q) refusal begun up out over
        (refusal_so (ReadCause AnyDown (outside_at mid) (outside_at new)) q.at q refusal runs.fails over),
    runs.tables,
  )
  read_over p (of.Write q) begun up out runs over = absurd runs

  -- a read that isn't held
  pub read_at_once : (p : Reading) → IsBegunRead p → is_up mid.core.states p.follower ≡ true → DoesAtOnce tells (of.Read p) mid (Refused refusal) new
      → ReadCause NoneDown (outside_at mid) (outside_at new) refusal × KeepsTables tells mid.keepers new.keepers
  read_at_once p begun up does =
      read_over p does.after begun up does.carries
      (read_runs (rules_of tells settings) (world_of mid) p does.after (world_of new) begun.at does.carries) does.over

  -- what is so of a write that isn't held
  abbrev OnceTerms : Writing → Option Entry → WriteTerms
  OnceTerms p entry = record {
    tells = tells;
    First = entry ≡ None;
    asked = asked_of_log settings mid.keepers (call_of_plan p);
    entry = entry;
    Leaderless = λ region. (leaders_of_write settings mid.core.states p ≡ None) × (region ≡ master_region mid.core.states (write_shard p.write));
    Down = NoneDown;
  }

  write_narrow : (p : Writing) (after : HeldPlan) (entry : Option Entry) (told : Refusal) → IsBegun (of.Write p)
      → is_up mid.core.states p.follower ≡ true → IsOut (of.Write p) after → IsOver after (Refused told)
      → WriteCause (whole_terms (rules_of tells settings) p (world_of mid) entry) (outside_at mid) (outside_at new) told
      → WriteCause (OnceTerms p entry) (outside_at mid) (outside_at new) told
  write_narrow p after entry (Store (TooOld cut position)) begun up out over h = h
  write_narrow p after entry (Store (SeqReused position)) begun up out over h = h
  write_narrow p after entry (Store (ShardFull serial)) begun up out over h = h
  write_narrow p after entry (Store (StampFull number)) begun up out over h = h
  write_narrow p after entry (Store (LogFull count)) begun up out over h = h
  write_narrow p after entry (Store (KeeperFault count)) begun up out over h = h
  write_narrow p after entry (Store (LinkFault count when)) begun up out over h = h
  write_narrow p after entry (Memory position) begun up out over h = h
  write_narrow p after entry (Node (NoServer region)) begun up out over h =
      let law = whole_calls_are_up (rules_of tells settings) (of.Write p) (world_of mid) after (world_of new) in
      let want = law.refused begun up out (NoServer region) over in
      let named = want.1 in
      let same : region ≡ master_region mid.core.states (write_shard p.write) = cc in
      (h.0, (want.0, same))
  write_narrow p after entry (Node (NodeDown node when)) begun up out over h =
      (whole_calls_are_up (rules_of tells settings) (of.Write p) (world_of mid) after (world_of new)).never_down begun up out node when over
  write_narrow p after entry told begun up out over h = absurd h

  -- its tables are as they were, where it tells no position
  write_tables : (p : Writing) (entry : Option Entry) (told : Refusal) → WriteCause (OnceTerms p entry) (outside_at mid) (outside_at new) told
      → StandsWhen tells settings new.keepers.told (Some (call_of_plan p)) (when_of entry) → nat_lt 0 (refused_at told) ≡ false
      → WhereTold tells (entry ≡ None)
  write_tables p entry (Store (TooOld cut position)) h stands small told = h.0
  write_tables p entry (Store (SeqReused position)) h stands small told = h.0
  write_tables p entry (Store (ShardFull serial)) h stands small told = h.0
  write_tables p entry (Store (StampFull number)) h stands small told = h.0
  write_tables p entry (Store (LogFull count)) h stands small told = h.0
  write_tables p entry (Store (KeeperFault count)) h stands small told = h.0
  write_tables p entry (Store (LinkFault count when)) h stands small told =
      no_entry_told tells settings new.keepers.told (call_of_plan p) count when entry h.2 stands small told
  write_tables p entry (Memory position) h stands small told = h.0
  write_tables p entry (Node (NoServer region)) h stands small told = h.0
  write_tables p entry (Node (NodeDown node when)) h stands small told = absurd h
  write_tables p entry refused h stands small told = absurd h

  -- a write that isn't held was refused
  pub record RefusedOnce (p : Writing) : Type 0 where
    pub entry : Option Entry
    pub cause : WriteCause (OnceTerms p entry) (outside_at mid) (outside_at new) refusal
    pub stands : StandsWhen tells settings new.keepers.told (Some (call_of_plan p)) (when_of entry)
    pub same : nat_lt 0 (refused_at refusal) ≡ false → KeepsTables tells mid.keepers new.keepers

  write_over : (p : Writing) (after : HeldPlan) → IsBegun (of.Write p) → is_up mid.core.states p.follower ≡ true → IsOut (of.Write p) after
      → OfWritePlan (WriteRuns (rules_of tells settings) (world_of mid) p) after (world_of new) → IsOver after (Refused refusal) → RefusedOnce p
  write_over p (of.Write q) begun up out runs over =
      let why = write_refusal _ q refusal runs.fails over in
      let exact = write_narrow p (of.Write q) (answered_entry q) refusal begun up out over why in
      record {
        entry = answered_entry q;
        cause = exact;
        stands = runs.stands;
        same = λ small told. runs.tables (write_tables p (answered_entry q) refusal exact runs.stands small told) told;
      }
  write_over p (of.Read q) begun up out runs over = absurd runs

  pub write_at_once : (p : Writing) → HaveMasterRegions settings → IsBegunWrite p → is_up mid.core.states p.follower ≡ true
      → DoesAtOnce tells (of.Write p) mid (Refused refusal) new → RefusedOnce p
  write_at_once p regions begun up does =
      write_over p does.after begun up does.carries
      (write_runs (rules_of tells settings) (world_of mid) p regions does.after (world_of new) begun.uncommitted begun.unrefused does.carries) does.over

-- ---- stages of held calls

-- a plan that ends is told so
numbered : (number : ℕ) (refusal : Refusal) (ended : Reply) → Refused refusal ≡ numbered_reply number ended → ended ≡ Refused refusal
numbered number refusal (Called reply) is = absurd (cc)
numbered number refusal reply is = sym is

pub leaves_over : (word : PlanWord) (by : NumberedPlan) (next : Option Stage) (refusal : Refusal) (old new : Held)
    → Leaves word by next old (Refused refusal) new → IsOver by.plan (Refused refusal)
leaves_over word by (Some stage) refusal old new goes = (let no = goes.said in absurd (cc))
leaves_over word by None refusal old new ends = subst (IsOver by.plan) (numbered by.number refusal ends.ended ends.said) ends.over
