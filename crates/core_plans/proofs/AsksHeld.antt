-- Open asks, and which stages open none.
use Rattle.std.proofs.Common.{◌≡◌, ◌⊎◌, ℕ, ◌+◌, Bool, true, false, ◌||◌, not, List, [], ◌∷◌, Option, Some, None}
use Rattle.std.proofs.Common.{refl, ap, sym, subst, ◌∙◌, inl, inr, arith}
use Rattle.std.specs.List.{list_any}
use Rattle.std.specs.Prelude.{◌==◌, ⊤, Err, Ok, Result, filter, if◌then◌else◌, map, slice_get, slice_set}
use Rattle.std.proofs.lemmas.Bool.{cases_Bool, or_right}
use Rattle.std.proofs.lemmas.List.Folds.{list_any-append}
use Rattle.std.proofs.lemmas.Map.Views.{any-filter_same}
use Rattle.ask_table.specs.Asks.{Asks, with_floor}
use Rattle.ask_table.specs.Open.{raised_ask}
use Rattle.ask_table.specs.declared.ask.Ask.{Ask}
use Rattle.cache_items.specs.Kept.{is_yes, item_of, took, with_item}
use Rattle.cache_items.specs.Node.{Node, emptied, raised_all, with_ended_ask}
use Rattle.cache_items.specs.declared.look.Kept.{Kept}
use Rattle.cache_items.specs.declared.look.Look.TheVariants.{Hit, Miss}
use Rattle.core_model.specs.Emptied.{Anew, FollowerBeginsAnew}
use Rattle.core_model.specs.Evictions.{Evicts}
use Rattle.core_model.specs.Fleet.{ChangesNode, Fleet, named}
use Rattle.core_model.specs.Jobs.{ShardJob}
use Rattle.core_model.specs.Messages.{DeliversThere, TakesRefill}
use Rattle.core_model.specs.Pens.{Pens}
use Rattle.core_model.specs.Reads.{AfterLook, EndsAsk, KeepsFill, LooksFirst, Wanted, taken_fill}
use Rattle.core_model.specs.Writes.{AppliesTo}
use Rattle.core_model.specs.declared.named.Named.{Named}
use Rattle.core_model.proofs.Places.{get_set, one_some}
use Rattle.core_plans.specs.HeldLaws.{AsksStayHeld}
use Rattle.core_plans.specs.Held.{AsksAreHeld, OpensNone, Plans, is_open_ask}
use Rattle.core_plans.specs.HeldWrites.{ComesOfWrite, CommitsBy, DoesWriteStage, job_by, job_sender, way_by}
use Rattle.core_plans.specs.LedBy.{Rules, led_by}
use Rattle.core_plans.specs.Needs.{leaders_of_write}
use Rattle.write_plan.specs.Plans.{last_leader}
use Rattle.core_plans.specs.declared.leaders.Leaders.{Leaders}
use Rattle.core_plans.proofs.RefusedWrites.{refused_none}
use Rattle.core_steps.specs.OtherEnds.{ChangesKeepers, EndsOver, JobWay, LeavesJob, MergesAlong, MergesBy, MergesOver, SentJob, job_way}
use Rattle.core_steps.specs.OtherEnds.{merging_leader, sent_job}
use Rattle.core_steps.specs.Posting.{ChangesNoNode}
use Rattle.core_steps.specs.World.{World}
use Rattle.core_steps.specs.Writes.{FollowerTakes}
use Rattle.core_steps.specs.declared.routes.Route.{Route}
use Rattle.follower_cache.specs.Seen.{FollowerState}
use Rattle.follower_cache.specs.declared.queue.Refill.{Refill}
use Rattle.maint_msg.specs.KeyVersions.{keys_of}
use Rattle.maint_msg.specs.Maints.{SeenMaint}
use Rattle.maint_msg.specs.declared.key_versions.KeyVersion.{KeyVersion}
use Rattle.node_name.specs.declared.NodeName.{NodeName}
use Rattle.replies.specs.declared.calls.ScheduledWhy.{ScheduledWhy}
use Rattle.replies.specs.declared.calls.ScheduledWhy.TheVariants.{NoServer}
use Rattle.replies.specs.declared.calls.ScheduledWhy.TheVariants as why
use Rattle.sealed_item.specs.Fills.{SealedItem}
use Rattle.shard_log.specs.View.{View}
use Rattle.shard_tables.specs.declared.writes.Wrote.{Wrote}
use Rattle.tao_base.specs.EdgeTypes.{EdgeTypes}
use Rattle.tao_base.specs.Writes.{write_shard}
use Rattle.tao_base.specs.declared.entry.Entry.{Entry}
use Rattle.tao_base.specs.declared.id.Key.{Key}
use Rattle.tao_base.specs.declared.query.Answer.{Answer}
use Rattle.tao_base.specs.declared.query.Query.{Query}
use Rattle.tao_schema.specs.Schema.{types_of}
use Rattle.topology.specs.Config.{Settings}
use Rattle.write_plan.specs.Plans.{Writing, next_of}
use Rattle.write_plan.specs.declared.results.LeftOpen.{LeftOpen}
use Rattle.write_plan.specs.declared.results.LeftOpen.TheVariants.{Scheduled}
use Rattle.write_plan.specs.declared.results.LeftOpen.TheVariants as left_open
use Rattle.write_plan.specs.declared.stage.WriteStage.{WriteStage}
use Rattle.write_plan.specs.declared.stage.WriteStage.TheVariants.{Commit, Inverse, End, Relay, Apply, Done}
use Rattle.ask_table.proofs.Tables.{raised_number}

-- ---- the asks of one node

-- none is open that wasn't before
abbrev pub AddsNone : Asks → Asks → Type 0
AddsNone old new = (number : ℕ) → is_open_ask number new ≡ true → is_open_ask number old ≡ true

abbrev has_number : ℕ → List Ask → Bool
has_number number asks = list_any (λ a. a.number == number) asks

or_mono : (b x y : Bool) → (x ≡ true → y ≡ true) → (b || x) ≡ true → (b || y) ≡ true
or_mono true x y f h = refl
or_mono false x y f h = f h

filtered : (number : ℕ) (q : Ask → Bool) (xs : List Ask) → has_number number (filter q xs) ≡ true → has_number number xs ≡ true
filtered number q [] = λ h. h
filtered number q (x ∷ xs) = elim (cases_Bool (q x)) [
  | inl k ↦ rw k (or_mono (x.number == number) (has_number number (filter q xs)) (has_number number xs) (filtered number q xs))
  | inr k ↦ rw k (λ h. or_right (x.number == number) (has_number number xs) (filtered number q xs h))
]

-- one that ended isn't open
none_ended : (number : ℕ) (xs : List Ask) → has_number number (filter (λ a. not (a.number == number)) xs) ≡ false
none_ended number xs = any-filter_same (λ a. a.number == number) (λ a. not (a.number == number)) false (λ a h. ap not h) xs

raised : (number : ℕ) (key : Key) (version : ℕ) (xs : List Ask) → has_number number (map (raised_ask key version) xs) ≡ has_number number xs
raised number key version [] = refl
raised number key version (x ∷ xs) =
    ap (λ n. (n == number) || has_number number (map (raised_ask key version) xs)) (raised_number key version x)
    ∙ ap (λ b. (x.number == number) || b) (raised number key version xs)

same_none : (old new : Asks) → new ≡ old → AddsNone old new
same_none old new same = subst (AddsNone old) (sym same) (λ number h. h)

raises_none : (t : Asks) (key : Key) (version : ℕ) → AddsNone t (with_floor key version t)
raises_none t key version number h = sym (raised number key version t.asks) ∙ h

raises_all_none : (keys : List KeyVersion) (t : Asks) → AddsNone t (raised_all keys t)
raises_all_none [] t number h = h
raises_all_none (k ∷ ks) t number h = raises_none t k.key k.version number (raises_all_none ks (with_floor k.key k.version t) number h)

-- none is open but those of before, and not the one that ended
abbrev pub EndsOpen : Option ℕ → Asks → Asks → Type 0
EndsOpen ask old new = (number : ℕ) → is_open_ask number new ≡ true → (is_open_ask number old ≡ true) × (ask ≡ Some number → ⊥)

not_ended : (ask number : ℕ) (xs : List Ask) → has_number number (filter (λ a. not (a.number == ask)) xs) ≡ true → Some ask ≡ Some number → ⊥
not_ended ask number xs h same =
    let here : ask ≡ number = one_some ask number same in
    let none = none_ended number xs in
    let open_still : has_number number (filter (λ a. not (a.number == number)) xs) ≡ true =
    subst (λ n. has_number number (filter (λ a. not (a.number == n)) xs) ≡ true) here h in
    absurd (cc)

ended_open : (ask : Option ℕ) (n : Node) → EndsOpen ask n.asks (with_ended_ask ask n).asks
ended_open None n number h = (h, λ same. absurd (cc))
ended_open (Some ask) n number h = (filtered number (λ a. not (a.number == ask)) n.asks.asks h, not_ended ask number n.asks.asks h)

took_none_so : (fill : SealedItem) (kept : Bool) (n : Node) → AddsNone n.asks (if kept then with_item fill.key (item_of fill) n else n).asks
took_none_so fill true n = raises_none n.asks fill.key fill.version
took_none_so fill false n = λ number h. h

took_none : (fill : SealedItem) (kept : Kept) (n : Node) → AddsNone n.asks (took fill kept n).asks
took_none fill kept n = took_none_so fill (is_yes kept) n

-- ---- the stages of one follower

abbrev OpensNo : FollowerState → FollowerState → Type 0
OpensNo from to = AddsNone from.node.asks to.node.asks

hit_none : (types : EdgeTypes) (read : Wanted) (answer : Answer) (version : ℕ) (ask : Option ℕ) (from to : FollowerState)
    → LooksFirst types read (Hit answer version) ask from to → OpensNo from to
hit_none types read answer version ask from to looks = same_none from.node.asks to.node.asks (ap (λ (n : Node). n.asks) looks.node.1)

pub ends_open : (ask : Option ℕ) (from to : FollowerState) → EndsAsk ask from to → EndsOpen ask from.node.asks to.node.asks
ends_open ask from to ends =
    subst (λ (f : FollowerState). EndsOpen ask from.node.asks f.node.asks) (sym ends) (ended_open ask from.node)

pub keeps_open : (types : EdgeTypes) (query : Query) (ask : Option ℕ) (fill : SealedItem) (answer : Answer) (kept : Kept) (from to : FollowerState)
    → KeepsFill types query (taken_fill ask fill answer kept) from to → EndsOpen ask from.node.asks to.node.asks
keeps_open types query ask fill answer kept from to keeps =
    let mid : Node = with_ended_ask ask from.node in
    subst (λ (f : FollowerState). EndsOpen ask from.node.asks f.node.asks) (sym keeps.node_is)
    (λ number h. ended_open ask from.node number (took_none fill kept mid number h))

ends_none : (ask : Option ℕ) (from to : FollowerState) → EndsOpen ask from.node.asks to.node.asks → OpensNo from to
ends_none ask from to ends number h = (ends number h).0

applies_none : (types : EdgeTypes) (shard : ℕ) (entry : Entry) (note : View) (from to : FollowerState)
    → AppliesTo types shard entry note from to → OpensNo from to
applies_none types shard entry note from to applies =
    subst (λ (n : Node). AddsNone from.node.asks n.asks) (sym applies.node.node_is) (raises_all_none (keys_of entry) from.node.asks)

delivers_none : (types : EdgeTypes) (m : SeenMaint) (dropped : ℕ) (from to : FollowerState) → DeliversThere types m dropped from to → OpensNo from to
delivers_none types m dropped from to delivers =
    subst (λ (n : Node). AddsNone from.node.asks n.asks) (sym delivers.node.node_is) (raises_all_none m.keys from.node.asks)

takes_none : (refill : Option Refill) (from to : FollowerState) → TakesRefill refill from to → OpensNo from to
takes_none None from to takes = same_none from.node.asks to.node.asks (ap (λ (f : FollowerState). f.node.asks) takes.1)
takes_none (Some refill) from to takes = same_none from.node.asks to.node.asks (ap (λ (f : FollowerState). f.node.asks) takes.1)

evicts_none : (key : Option Key) (held : Bool) (from to : FollowerState) → Evicts key held from.node to.node → OpensNo from to
evicts_none (Some key) held from to evicts = same_none from.node.asks to.node.asks (ap (λ (n : Node). n.asks) evicts.1)
evicts_none None held from to evicts = same_none from.node.asks to.node.asks (ap (λ (n : Node). n.asks) evicts.1)

-- a look that finds nothing opens the ask that it gives, and no other
pub misses_open : (key : Key) (ask : Option ℕ) (from to : Node) → AfterLook key Miss ask from to → (number : ℕ)
    → is_open_ask number to.asks ≡ true → (is_open_ask number from.asks ≡ true) ⊎ (ask ≡ Some number)
misses_open key None from to looks number h = inl (subst (λ (n : Node). is_open_ask number n.asks ≡ true) looks.1 h)
misses_open key (Some given) from to looks number h =
    let now = subst (λ (n : Node). is_open_ask number n.asks ≡ true) looks.2 h in
    let next = from.asks.given + 1 in
    let all : (has_number number from.asks.asks || ((next == number) || false)) ≡ true =
    sym (list_any-append (λ (a : Ask). a.number == number) from.asks.asks _) ∙ now in
    elim (cases_Bool (is_open_ask number from.asks)) [
      | inl is ↦ inl is
      | inr closed ↦ inr (ap Some (let given_is = looks.1 in grind (arith)))
    ]

empties_none : (pens : Pens) (at : Anew) (from to : FollowerState) → FollowerBeginsAnew pens at from to → OpensNo from to
empties_none pens at from to begins number h =
    let none : is_open_ask number (emptied begins.node.lows begins.node.notes from.node).asks ≡ true =
    subst (λ (n : Node). is_open_ask number n.asks ≡ true) begins.node.node_is h in
    absurd (cc)

-- ---- the followers of a core

-- one follower changes
pub change_opens_none : (By : FollowerState → FollowerState → Type 0) (name : NodeName) (old new : List (Named FollowerState))
    → ((from to : FollowerState) → By from to → (number : ℕ) → is_open_ask number to.node.asks ≡ true → is_open_ask number from.node.asks ≡ true)
    → ChangesNode name By old new → OpensNone old new
change_opens_none By name old new so change = record {
  still = λ called number h.
      let at : slice_get (slice_set old change.place (named name change.to)) h.place ≡ Some (named called h.follower) =
      subst (λ xs. slice_get xs h.place ≡ Some (named called h.follower)) change.is h.stands in
      elim (get_set old change.place (named name change.to) h.place (named called h.follower) at) [
        | inl e ↦ record { place = h.place; follower = h.follower; stands = e.1; is_open = h.is_open }
        | inr e ↦ record {
          place = change.place;
          follower = change.from;
          stands = subst (λ (n : NodeName). slice_get old change.place ≡ Some (named n change.from)) (ap (λ n. n.name) e.1) change.stands;
          is_open = so change.from change.to change.by number
              (subst (λ (f : FollowerState). is_open_ask number f.node.asks ≡ true) (sym (ap (λ n. n.node) e.1)) h.is_open);
        }
      ];
}

pub same_opens_none : (old new : List (Named FollowerState)) → new ≡ old → OpensNone old new
same_opens_none old new same = subst (OpensNone old) (sym same) (record { still = λ name number h. h })

pub opens_none_on : (old mid new : List (Named FollowerState)) → OpensNone old mid → OpensNone mid new → OpensNone old new
opens_none_on old mid new one two = record { still = λ name number h. one.still name number (two.still name number h) }

module _ (name : NodeName) (old new : List (Named FollowerState)) where
  pub hit_opens_none : (types : EdgeTypes) (read : Wanted) (answer : Answer) (version : ℕ) (ask : Option ℕ)
      → ChangesNode name (LooksFirst types read (Hit answer version) ask) old new → OpensNone old new
  hit_opens_none types read answer version ask =
      change_opens_none (LooksFirst types read (Hit answer version) ask) name old new (hit_none types read answer version ask)

  pub end_opens_none : (ask : Option ℕ) → ChangesNode name (EndsAsk ask) old new → OpensNone old new
  end_opens_none ask =
      change_opens_none (EndsAsk ask) name old new (λ from to ends. ends_none ask from to (ends_open ask from to ends))

  pub keep_opens_none : (types : EdgeTypes) (query : Query) (ask : Option ℕ) (fill : SealedItem) (answer : Answer) (kept : Kept)
      → ChangesNode name (KeepsFill types query (taken_fill ask fill answer kept)) old new → OpensNone old new
  keep_opens_none types query ask fill answer kept =
      change_opens_none (KeepsFill types query (taken_fill ask fill answer kept)) name old new
      (λ from to keeps. ends_none ask from to (keeps_open types query ask fill answer kept from to keeps))

  pub apply_opens_none : (types : EdgeTypes) (shard : ℕ) (entry : Entry) (note : View) → ChangesNode name (AppliesTo types shard entry note) old new
      → OpensNone old new
  apply_opens_none types shard entry note =
      change_opens_none (AppliesTo types shard entry note) name old new (applies_none types shard entry note)

  pub deliver_opens_none : (types : EdgeTypes) (m : SeenMaint) (dropped : ℕ) → ChangesNode name (DeliversThere types m dropped) old new → OpensNone old new
  deliver_opens_none types m dropped = change_opens_none (DeliversThere types m dropped) name old new (delivers_none types m dropped)

  pub refill_opens_none : (refill : Option Refill) → ChangesNode name (TakesRefill refill) old new → OpensNone old new
  refill_opens_none refill = change_opens_none (TakesRefill refill) name old new (takes_none refill)

  pub evict_opens_none : (key : Option Key) (held : Bool)
      → ChangesNode name (λ from to. Evicts key held from.node to.node × (to.refills ≡ from.refills)) old new → OpensNone old new
  evict_opens_none key held =
      change_opens_none (λ from to. Evicts key held from.node to.node × (to.refills ≡ from.refills)) name old new
      (λ from to evicts. evicts_none key held from to evicts.0)

  pub empty_opens_none : (pens : Pens) (at : Anew) → ChangesNode name (FollowerBeginsAnew pens at) old new → OpensNone old new
  empty_opens_none pens at = change_opens_none (FollowerBeginsAnew pens at) name old new (empties_none pens at)

follower_takes_none : (types : EdgeTypes) (route : Route) (shard : ℕ) (entry : Option Entry) (old new : Fleet)
    → FollowerTakes types route shard entry old new → OpensNone old.followers new.followers
follower_takes_none types route shard None old new same = same_opens_none old.followers new.followers same
follower_takes_none types route shard (Some e) old new takes =
    apply_opens_none route.follower old.followers new.followers types shard e takes.0 takes.1

-- ---- the other end of a write

abbrev pub followers_in : World → List (Named FollowerState)
followers_in x = x.fleet.followers

module _ (tells : Bool) (s : Settings) (way : JobWay) (old new : World) where
  untouched : ChangesNoNode tells old new → followers_in new ≡ followers_in old
  untouched rests = ap (λ (f : Fleet). f.followers) rests.fleet

  left_same : (why : ScheduledWhy) (wrote : Option Wrote) → LeavesJob tells s way (Scheduled why wrote) old new → followers_in new ≡ followers_in old
  left_same NoServer wrote is = absurd is
  left_same why.LinkFault None is = untouched is.2
  left_same why.LinkFault (Some w) is = is.2.followers
  left_same why.KeeperFault None is = untouched is.1
  left_same why.LogFull None is = untouched is.1
  left_same why.Memory None is = untouched is.0
  left_same why.KeeperFault (Some w) is = absurd is
  left_same why.LogFull (Some w) is = absurd is
  left_same why.Memory (Some w) is = absurd is

  along_same : (result : Result Wrote LeftOpen) → MergesAlong tells s way result old new → followers_in new ≡ followers_in old
  along_same (Ok wrote) is = is.0.followers
  along_same (Err (Scheduled why wrote)) is = left_same why wrote is
  along_same (Err (left_open.Refused reply)) is = absurd is

-- a merge changes no follower, whoever merges
merged_same : (tells : Bool) (s : Settings) (merging : Option NodeName) (sent : SentJob) (old new : World) (result : Result Wrote LeftOpen)
    → MergesBy tells s merging sent result old new → followers_in new ≡ followers_in old
merged_same tells s (Some merging) sent old new result is = along_same tells s (job_way sent merging) old new result is
merged_same tells s None sent old new result is = ap followers_in is.1

pub merge_same : (tells : Bool) (s : Settings) (sent : SentJob) (old new : World) (result : Result Wrote LeftOpen)
    → MergesOver tells s sent result old new → followers_in new ≡ followers_in old
merge_same tells s sent old new = merged_same tells s (merging_leader s old.states sent) sent old new

changed_keepers : (old new : World) → ChangesKeepers old new → followers_in new ≡ followers_in old
changed_keepers old new is = ap followers_in is

late_same : (tells : Bool) (s : Settings) (j : ShardJob) (why : ScheduledWhy) (wrote : Option Wrote) (old new : World)
    → EndsOver tells s j (Err (Scheduled why wrote)) old new → followers_in new ≡ followers_in old
late_same tells s j why.KeeperFault None old new is = changed_keepers old new is.2
late_same tells s j why.Memory None old new is = changed_keepers old new is.1
late_same tells s j why.KeeperFault (Some w) old new is = absurd is
late_same tells s j why.Memory (Some w) old new is = absurd is
late_same tells s j why.LinkFault wrote old new is = absurd is
late_same tells s j why.LogFull wrote old new is = absurd is
late_same tells s j NoServer wrote old new is = absurd is

-- nor does the end of a job
pub end_same : (tells : Bool) (s : Settings) (j : ShardJob) (result : Result ⊤ LeftOpen) (old new : World) → EndsOver tells s j result old new
    → followers_in new ≡ followers_in old
end_same tells s j (Ok done) old new is = changed_keepers old new is.1
end_same tells s j (Err (Scheduled why wrote)) old new is = late_same tells s j why wrote old new is
end_same tells s j (Err (left_open.Refused reply)) old new is = absurd is

-- ---- the stages of a write

-- no stage of a write opens one
module _ (rules : Rules) (p q : Writing) (old new : World) where
  alone : followers_in new ≡ followers_in old → OpensNone (followers_in old) (followers_in new)
  alone = same_opens_none (followers_in old) (followers_in new)

  commit_opens_none : (leaders : Option Leaders) → CommitsBy rules leaders p old q new → OpensNone (followers_in old) (followers_in new)
  commit_opens_none (Some leaders) (inl commits) = alone commits.commits.followers
  commit_opens_none (Some leaders) (inr refuses) =
      alone (ap (λ (f : Fleet). f.followers) (refused_none (led_by rules leaders) p old new refuses.refusal refuses.refuses).fleet)
  commit_opens_none None finds_none = alone (ap followers_in finds_none.same)

  stage_opens_none : (at : WriteStage) → DoesWriteStage rules at p old q new → OpensNone (followers_in old) (followers_in new)
  stage_opens_none Commit commits = commit_opens_none (leaders_of_write rules.settings old.states p) commits
  stage_opens_none Inverse merges =
      alone (merge_same rules.tells rules.settings (sent_job (job_sender p merges.committed) (job_by p merges.job)) old new merges.result merges.merges)
  stage_opens_none End ends = alone (end_same rules.tells rules.settings (job_by p ends.job) ends.result old new ends.ends)
  stage_opens_none Apply (inl applies) =
      follower_takes_none (types_of rules.settings.schema) (way_by (last_leader applies.committed) p) (write_shard p.write)
      applies.committed.wrote.entry old.fleet new.fleet applies.takes
  stage_opens_none Apply (inr loses) = alone (ap (λ (f : Fleet). f.followers) loses.fleet)
  stage_opens_none Relay (inl relays) = alone (ap (λ (f : Fleet). f.followers) relays.rest.fleet)
  stage_opens_none Relay (inr loses) = alone (ap (λ (f : Fleet). f.followers) loses.fleet)
  stage_opens_none Done does = absurd does

  -- nor does one that ends since a node is down
  pub write_opens_none : ComesOfWrite rules p old q new → OpensNone (followers_in old) (followers_in new)
  write_opens_none (inl next) = stage_opens_none (next_of p) next.does
  write_opens_none (inr ends) = alone (ap followers_in ends.same)

-- ---- what is held

-- where none opens, each that is open is still held
pub asks_still_held : (plans : Plans) (old new : List (Named FollowerState)) → OpensNone old new → AsksAreHeld plans old → AsksAreHeld plans new
asks_still_held plans old new none are = record {
  held = λ name number h. are.held name number (none.still name number h);
  one = are.one;
}

pub asks_stay_held : AsksStayHeld
asks_stay_held = record {
  held = asks_still_held;
  same = same_opens_none;
  on = opens_none_on;
  changes = λ name old new. record {
    hit = hit_opens_none name old new;
    ends = end_opens_none name old new;
    keeps = keep_opens_none name old new;
    applies = apply_opens_none name old new;
    delivers = deliver_opens_none name old new;
    refills = refill_opens_none name old new;
    evicts = evict_opens_none name old new;
    empties = empty_opens_none name old new;
  };
  stages = write_opens_none;
}
