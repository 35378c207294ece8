-- What a run answers is as promised: by what each that it is given keeps, one after another, from the first line on.
use Rattle.std.proofs.Common.{◌≡◌, ℕ, Bool, true, false, List, [], ◌∷◌, Option, Some, None, Result, Ok, Err, refl, sym, ap}
use Rattle.std.proofs.Common.{◌∙◌, ◌+◌, ◌⊎◌, subst, inl, inr, arith}
use Rattle.std.proofs.lemmas.Bool.{cases_eq}
use Rattle.std.specs.Prelude.{⊤, if◌then◌else◌, nat_lt}
use Rattle.core_model.proofs.KeptStores.{KeepLogsAndJobs}
use Rattle.core_model.specs.Stores.{master_log, master_store, store_count, store_place, stores_in}
use Rattle.core_nodes.proofs.OpenedLogs.{opened_keep}
use Rattle.core_nodes.specs.Outside.{Outside}
use Rattle.graph_model.specs.Told.{WhereTold}
use Rattle.master_tables.proofs.Each.{each_same}
use Rattle.plain_promise.specs.Promise.{AnswersNext, Plain, RunsPlainly, Said}
use Rattle.headline_kept.proofs.promise_kept_lemmas.Again.{kept_answers_again}
use Rattle.headline_kept.proofs.promise_kept_lemmas.Opening.{opened_seen}
use Rattle.headline_kept.proofs.promise_kept_lemmas.Requests.{requests_keep}
use Rattle.headline_kept.specs.promise_kept.Lines.{Asks, GoesOnUsable, IsLine, KeptAnswersAgain, StepsPlainly}
use Rattle.headline_kept.specs.promise_kept.Requests.{IsAskedAt, RequestsKeepPromise}
use Rattle.headline_kept.specs.promise_kept.Seen.{IsPlainOf, opened_plain}
use Rattle.replies.specs.declared.refusals.LineRefused.TheVariants as line
use Rattle.replies.specs.declared.refusals.Refusal.{Refusal}
use Rattle.replies.specs.declared.refusals.Refusal.TheVariants.{Line, Memory}
use Rattle.replies.specs.declared.reply.Reply.{Reply}
use Rattle.replies.specs.declared.reply.Reply.TheVariants.{BadConfiguration, BadStores, Configured, Refused}
use Rattle.request_check.specs.declared.checked.Checked.{Checked}
use Rattle.request_check.specs.declared.checked.Checked.TheVariants as asks
use Rattle.request_check.specs.declared.checked.CheckedCall.TheVariants.{Read}
use Rattle.request_json.specs.declared.refusal.LineRefusal.{LineRefusal}
use Rattle.request_json.specs.declared.refusal.LineRefusal.TheVariants.{BadLine, TooLarge, OutOfMemory}
use Rattle.requests.specs.declared.request.Request.{Request}
use Rattle.tao_base.specs.declared.id.StoreName.{StoreName}
use Rattle.tao_core.specs.Asked.{asked_of}
use Rattle.tao_core.specs.Core.{CoreState, IsCoreOf, Moment, moment_of}
use Rattle.tao_core.specs.Opened.{AreAsBefore}
use Rattle.tao_keeper.specs.KeeperState.{IsLater}
use Rattle.tao_keeper.specs.Table.{Tables}
use Rattle.tao_schema.specs.Schema.{types_of}
use Rattle.first_line.proofs.FirstLemmas.{whole_part}
use Rattle.first_line.specs.Interrupts.{AppendsPart}
use Rattle.tao_top.proofs.Answering.{all_begin, none_given, printed_lacking}
use Rattle.tao_top.proofs.GoingOn.{IsOver, none_after}
use Rattle.tao_top.proofs.HeldNumbers.{plans_then}
use Rattle.tao_top.proofs.Opened.{sessions_after}
use Rattle.tao_top.specs.Promised.{AreAsPromised, AreInUse, ArePlans, AreSaid, AreSessions, InUse, IsAskedOf, IsNotServed, IsOpenedOtherwise}
use Rattle.tao_top.specs.Promised.{IsParted, IsRefusedAs, IsUnconfigured, LineAsks, RunKeepsPromise, at_first, in_use_after, none_in_use}
use Rattle.tao_top.specs.PromisedLaws.{CanBeDoneNow, RefusesRightly, RunsArePromised}
use Rattle.tao_top.specs.Served.{AnsweredInPart, Done, Ending, EndsInPart, printed, serves, start, streams}
use Rattle.tao_top.specs.Step.{AnswersLine, AnswersNoRequest, Configures, FindsDisagreement, Given, KeepsServing, ReplyLine, RunStage, Runs, State, StepIn}
use Rattle.tao_top.specs.Step.{TakesLine, asked_in, disagreeing, ended, in_line, line_at, line_read, request_made, serving, waiting}
use Rattle.topology.specs.Config.{Settings}
use Rattle.write_model.specs.Merges.{no_epochs}

-- ---- one line

-- a line's step of the promise, from one moment to the next, where these sessions and plans are in use
record StepsOn (used : InUse) (given : Given) (old : Moment) (plain : Plain) (reply : Reply) (new : Moment) : Type 0 where
  asked : Option Checked
  given_asks : LineAsks old.core.settings used given asked reply
  asks : Asks asked old reply new
  steps : StepsPlainly asked old plain reply new
  settings : new.core.settings ≡ old.core.settings
  of_core : IsCoreOf true new.keepers.told new.core
  in_use : AreInUse (in_use_after used asked reply) new.core.sessions new.core.plans

-- a line that is no request
no_request : (refused : LineRefusal) (reply : Reply) → AnswersNoRequest refused reply → (refusal : Refusal) × (reply ≡ Refused refusal)
no_request (BadLine field) reply answers = (Line (line.BadLine field), answers)
no_request (TooLarge bytes pairs) reply answers = (Line (line.TooLarge bytes pairs), answers)
no_request OutOfMemory reply answers = absurd answers

module _ (used : InUse) (given : Given) (old : Moment) (reply : Reply) (request : Request) (given_is : asked_in given ≡ Ok request)
    (are : AreInUse used old.core.sessions old.core.plans) where
  asked_of_these : (found : Result Checked Refusal) → asked_of old.core.settings old.core.sessions old.core.plans request ≡ found
      → IsAskedOf old.core.settings used request found
  asked_of_these found is = record { sessions = old.core.sessions; plans = old.core.plans; are = are; asked_is = is }

  refused_as : IsAskedAt old request None reply → IsRefusedAs old.core.settings used (Ok request) reply
  refused_as (inl memory) = inl memory
  refused_as (inr (refusal, reply_is, is)) = inr (record { refusal = refusal; refused = asked_of_these (Err refusal) is; reply_is = reply_is })

  given_asks_so : (asked : Option Checked) → IsAskedAt old request asked reply → LineAsks old.core.settings used given asked reply
  given_asks_so None why = subst (λ found. IsRefusedAs old.core.settings used found reply) (sym given_is) (refused_as why)
  given_asks_so (Some asked) is = record { request = request; given_is = given_is; asks = asked_of_these (Ok asked) is }

-- a line that asks what can be done
refused_fine : (s : Settings) (used : InUse) (given : Given) (asked : Checked) (reply : Reply) → CanBeDoneNow s used given asked
    → LineAsks s used given None reply → reply ≡ Refused (Memory 0)
refused_fine s used given asked reply fine refused = by (subst (λ found. IsRefusedAs s used found reply) fine.given_is refused)
  where
    by : IsRefusedAs s used (Ok fine.request) reply → reply ≡ Refused (Memory 0)
    by (inl memory) = memory
    by (inr other) =
        (let e : Err other.refusal ≡ Ok asked =
        sym other.refused.asked_is ∙ fine.can other.refused.sessions other.refused.plans other.refused.are in absurd (cc))

pub refuses_rightly : RefusesRightly
refuses_rightly = record { memory = refused_fine }

-- what is in use after a line
used_then : (used : InUse) (asked : Option Checked) (old : Moment) (reply : Reply) (new : Moment) → AreInUse used old.core.sessions old.core.plans
    → Asks asked old reply new → AreInUse (in_use_after used asked reply) new.core.sessions new.core.plans
used_then used None old reply new are no_line = subst (λ (m : Moment). AreInUse used m.core.sessions m.core.plans) (sym no_line.same) are
used_then used (Some asked) old reply new are line = record {
  opened = sessions_after old new used.opened are.opened asked reply line.can line.answers;
  held = plans_then old new used.held are.held asked reply line.can line.answers;
}

module _ (requests : RequestsKeepPromise) (used : InUse) where
  by_request : (old : Moment) (given : Given) (plain : Plain) (reply : Reply) (new : Moment) (found : Result Request LineRefusal) → asked_in given ≡ found
      → IsPlainOf old plain → IsCoreOf true old.keepers.told old.core → AreInUse used old.core.sessions old.core.plans → IsLater old.keepers new.keepers
      → AnswersLine true old found reply new → StepsOn used given old plain reply new
  by_request old given plain reply new (Err refused) found is of_core are later answers =
      let why = no_request refused reply answers.0 in
      let same = answers.1 in
      record {
        asked = None;
        given_asks = subst (λ r. IsRefusedAs old.core.settings used r reply) (sym found) answers.0;
        asks = record { refusal = why.0; reply_is = why.1; same = same };
        steps = record {
          after = plain;
          says = record { refusal = why.0; reply_is = why.1; same = refl };
          seen = subst (λ (m : Moment). IsPlainOf m plain) (sym same) is;
        };
        settings = ap (λ (m : Moment). m.core.settings) same;
        of_core = subst (λ (m : Moment). IsCoreOf true m.keepers.told m.core) (sym same) of_core;
        in_use = subst (λ (m : Moment). AreInUse used m.core.sessions m.core.plans) (sym same) are;
      }
  by_request old given plain reply new (Ok request) found is of_core are later answers =
      let serves : KeepsServing true old new = answers.1 in
      let on : GoesOnUsable old new = record {
        before = of_core;
        after = record {
          settings = serves.settings;
          keepers = serves.of_core;
          goes = serves.goes;
          comes = serves.comes;
          grows = serves.grows;
          later = later;
        };
      } in
      let keeps = requests.keeps old new plain request reply is on answers.0 in
      record {
        asked = keeps.asked;
        given_asks = given_asks_so used given old reply request found are keeps.asked keeps.is_asked;
        asks = keeps.asks;
        steps = keeps.steps;
        settings = serves.settings;
        of_core = serves.of_core;
        in_use = used_then used keeps.asked old reply new are keeps.asks;
      }

-- ---- a line and the next

-- the first of these was asked from this moment on
abbrev BeginFrom : Moment → List Said → Type 0
BeginFrom m [] = ⊤
BeginFrom m (said ∷ more) = (new : Moment) × Asks said.asked m said.reply new

answers_next : KeptAnswersAgain → (said : Said) (saids : List Said) (old mid : Moment) → Asks said.asked old said.reply mid → BeginFrom mid saids
    → AnswersNext said saids
answers_next kept said [] old mid first begin = tt
answers_next kept said (next ∷ more) old mid first begin = record {
  same = λ call a b at again critical one two held.
      let line = subst (λ r. IsLine (asks.Call (Read call)) old r mid) one (subst (λ x. Asks x old said.reply mid) at first) in
      let later = subst (λ r. IsLine (asks.Call (Read call)) mid r begin.0) two (subst (λ x. Asks x mid next.reply begin.0) (again ∙ at) begin.1) in
      kept.same old mid begin.0 call a b critical line later held;
}

-- ---- all after the first line

-- what was given and answered as promised from a moment on, where these sessions and plans are in use
record KeepsOn (used : InUse) (start : Moment) (plain : Plain) (given : List Given) (replies : List ReplyLine) (last : State) : Type 0 where
  saids : List Said
  said : AreSaid start.core.settings used given replies saids
  end : Plain
  runs : RunsPlainly (types_of start.core.settings.schema) plain saids end
  stores : end.stores ≡ stores_in start.core.settings last.outside.keepers.told
  begin : BeginFrom start saids

module _ (requests : RequestsKeepPromise) (kept : KeptAnswersAgain) where
  -- one that is given, and then those that follow
  then_on : (used : InUse) (g : Given) (r : ReplyLine) (given : List Given) (replies : List ReplyLine) (old new : Moment) (plain : Plain) (reply : Reply)
      (last : State) → (step : StepsOn used g old plain reply new) → r ≡ in_line new.core.settings reply
      → KeepsOn (in_use_after used step.asked reply) new step.steps.after given replies last
      → KeepsOn used old plain (g ∷ given) (r ∷ replies) last
  then_on used g r given replies old new plain reply last step is later =
      let said : Said = record { asked = step.asked; reply = reply } in
      let same : new.core.settings ≡ old.core.settings = step.settings in
      record {
        saids = said ∷ later.saids;
        said = (
          record { asks = step.given_asks; reply_is = subst (λ s. r ≡ in_line s reply) same is },
          subst (λ s. AreSaid s (in_use_after used step.asked reply) given replies later.saids) same later.said,
        );
        end = later.end;
        runs = (
          step.steps.after,
          step.steps.says,
          answers_next kept said later.saids old new step.asks later.begin,
          subst (λ s. RunsPlainly (types_of s.schema) step.steps.after later.saids later.end) same later.runs,
        );
        stores = subst (λ s. later.end.stores ≡ stores_in s last.outside.keepers.told) same later.stores;
        begin = (new, step.asks);
      }

  -- what those that follow are to keep
  abbrev FollowOn : List Given → List ReplyLine → State → Type 0
  FollowOn given replies last = (used : InUse) (core : CoreState) (around : Outside) (plain : Plain) → IsPlainOf (moment_of core around) plain
      → IsCoreOf true around.keepers.told core → AreInUse used core.sessions core.plans → Runs true (serves core around) given replies last
      → KeepsOn used (moment_of core around) plain given replies last

  -- by the stage after the reply
  by_stage : (used : InUse) (g : Given) (r : ReplyLine) (given : List Given) (replies : List ReplyLine) (core : CoreState) (around : Outside) (plain : Plain)
      (reply : Reply) (last : State) → IsPlainOf (moment_of core around) plain → IsCoreOf true around.keepers.told core
      → AreInUse used core.sessions core.plans → FollowOn given replies last → (stage : RunStage) (after : Outside)
      → StepIn true (serves core around) g reply (record { stage = stage; outside = after })
      → IsLater around.keepers after.keepers → r ≡ line_at stage reply
      → Runs true (record { stage = stage; outside = after }) given replies last
      → KeepsOn used (moment_of core around) plain (g ∷ given) (r ∷ replies) last
  by_stage used g r given replies core around plain reply last is of_core are rest (serving next) after step later said run =
      let now = moment_of next after in
      let on = by_request requests used (moment_of core around) g plain reply now (asked_in g) refl is of_core are later step in
      then_on used g r given replies (moment_of core around) now plain reply last on said
      (rest (in_use_after used on.asked reply) next after on.steps.after on.steps.seen on.of_core on.in_use run)
  by_stage used g r given replies core around plain reply last is of_core are rest waiting after step later said run = absurd step
  by_stage used g r given replies core around plain reply last is of_core are rest ended after step later said run = absurd step
  by_stage used g r given replies core around plain reply last is of_core are rest (disagreeing s) after step later said run = absurd step

  follow_on : (given : List Given) (replies : List ReplyLine) (last : State) → FollowOn given replies last
  follow_on [] [] last used core around plain is of_core are run = record {
    saids = [];
    said = tt;
    end = plain;
    runs = refl;
    stores = subst (λ (s : State). plain.stores ≡ stores_in core.settings s.outside.keepers.told) (sym run) is.stores;
    begin = tt;
  }
  follow_on (g ∷ given) (r ∷ replies) last used core around plain is of_core are run =
      by_stage used g r given replies core around plain run.1.0 last is of_core are (follow_on given replies last) run.0.stage run.0.outside run.1.1.does
      run.1.1.later run.1.2 run.2
  follow_on [] (r ∷ replies) last used core around plain is of_core are run = absurd run
  follow_on (g ∷ given) [] last used core around plain is of_core are run = absurd run

-- ---- the first line

-- what is opened keeps its logs and jobs
pub opened_stores : (s : Settings) (old new : Tables) → KeepLogsAndJobs old new → stores_in s new ≡ stores_in s old
opened_stores s old new keep = λ i. record {
  logs = each_same (master_log s old) (master_log s new) 0 s.shards (λ shard le. keep.logs (master_store s shard)) i;
  job = λ shard position. if nat_lt shard s.shards then keep.jobs (master_store s shard) i position else None;
  epochs = no_epochs;
}

-- it has the logs and jobs that it had
as_kept : (old new : Tables) → KeepLogsAndJobs old new → AreAsBefore old new
as_kept old new keep = record { logs = keep.logs; jobs = keep.jobs }

as_same : (old new : Tables) → new ≡ old → AreAsBefore old new
as_same old new same = subst (λ t. AreAsBefore old t) (sym same) (record { logs = λ at. refl; jobs = λ at. refl })

module _ (requests : RequestsKeepPromise) (kept : KeptAnswersAgain) (old : Outside) (line : List ℕ) (r : ReplyLine) (given : List Given)
    (replies : List ReplyLine) (last : State) where
  configured_so : (core : CoreState) (around : Outside) → TakesLine true old line core around → r ≡ line_at (serving core) Configured
      → Runs true (serves core around) given replies last → AreAsPromised old.keepers.told (line_read line ∷ given) (r ∷ replies) last.outside.keepers.told
  configured_so core around takes said run =
      let s = core.settings in
      let m = moment_of core around in
      let opened = takes.opened refl in
      let keep = opened_keep s line (store_count s) old.keepers.told around.keepers.told opened.opened in
      let same = opened_stores s old.keepers.told around.keepers.told keep in
      let first : IsPlainOf m (at_first s old.keepers.told) =
      subst (λ st. IsPlainOf m (record (opened_plain m) { stores = st })) same (opened_seen m takes.begun) in
      let none : AreInUse none_in_use core.sessions core.plans = record {
        opened = subst (AreSessions []) (sym takes.begun.sessions) (record { numbers = λ n. refl; count = refl });
        held = subst (ArePlans []) (sym takes.begun.plans) (record { numbers = λ n. refl; count = refl; apart = tt });
      } in
      let on = follow_on requests kept given replies last none_in_use core around (at_first s old.keepers.told) first takes.of_core none run in
      inl (record {
        settings = s;
        configured = takes.configured;
        others = replies;
        replies_are = ap (λ x. x ∷ replies) said;
        runs = record { saids = on.saids; said = on.said; last = on.end; runs = on.runs; stores = on.stores };
      })

  -- the first line was not served
  not_served : (stage : RunStage) (around : Outside) → IsOver stage → Runs true (record { stage = stage; outside = around }) given replies last
      → IsUnconfigured old.keepers.told line r ⊎ IsParted old.keepers.told line r → AreAsBefore old.keepers.told around.keepers.told
      → IsNotServed old.keepers.told line given (r ∷ replies) last.outside.keepers.told
  not_served stage around over run why same =
      let none = none_after true stage around given replies last over run in
      record {
        reply = r;
        why = why;
        none_given = none.none_given;
        replies_are = ap (λ qs. r ∷ qs) none.no_reply;
        same = subst (λ (s : State). AreAsBefore old.keepers.told s.outside.keepers.told) (sym none.last_is) same;
      }

  unconfigured_so : (field : List ℕ) (around : Outside) → Configures true old line (BadConfiguration field) ended around
      → r ≡ line_at ended (BadConfiguration field)
      → Runs true (record { stage = ended; outside = around }) given replies last
      → IsNotServed old.keepers.told line given (r ∷ replies) last.outside.keepers.told
  unconfigured_so field around (inl is) said run =
      not_served ended around tt run (inl (record { field = field; refused = inl is.refused; reply_is = said }))
      (as_same old.keepers.told around.keepers.told (ap (λ (o : Outside). o.keepers.told) is.same))
  unconfigured_so field around (inr is) said run =
      let other = is.other refl in
      let otherwise : IsOpenedOtherwise is.settings line old.keepers.told =
      record { store = other.store; here = other.configured; other = other.other } in
      not_served ended around tt run
      (inl (record { field = field; refused = inr (is.field_is, (is.settings, is.configured, otherwise)); reply_is = said }))
      (as_kept old.keepers.told around.keepers.told
      (opened_keep is.settings line (store_place is.settings other.store + 1) old.keepers.told around.keepers.told other.opened))

  parted_so : (s : Settings) (store : StoreName) (position : ℕ) (around : Outside)
      → FindsDisagreement true old line (record { settings = s; store = store; position = position }) around
      → r ≡ line_at (disagreeing s) (BadStores store position)
      → Runs true (record { stage = disagreeing s; outside = around }) given replies last
      → IsNotServed old.keepers.told line given (r ∷ replies) last.outside.keepers.told
  parted_so s store position around finds said run =
      let disagree = finds.disagree.1 refl in
      not_served (disagreeing s) around tt run (inr (record {
        settings = s;
        configured = finds.configured;
        store = store;
        position = position;
        slave = finds.disagree.0;
        disagrees = disagree.disagrees;
        reply_is = said;
      }))
      (as_kept old.keepers.told around.keepers.told
      (opened_keep s line (store_count s) old.keepers.told around.keepers.told disagree.opened.opened))

  by_reply : (reply : Reply) (stage : RunStage) (around : Outside) → Configures true old line reply stage around → r ≡ line_at stage reply
      → Runs true (record { stage = stage; outside = around }) given replies last
      → AreAsPromised old.keepers.told (line_read line ∷ given) (r ∷ replies) last.outside.keepers.told
  by_reply Configured (serving core) around step said run = configured_so core around step said run
  by_reply (BadConfiguration field) ended around step said run = inr (unconfigured_so field around step said run)
  by_reply (BadStores store position) (disagreeing s) around step said run = inr (parted_so s store position around step said run)
  by_reply reply stage around step said run = absurd step

module _ (requests : RequestsKeepPromise) (kept : KeptAnswersAgain) where
  are_promised : (old : Outside) (new : State) (given : List Given) (replies : List ReplyLine) → Runs true (start old) given replies new
      → AreAsPromised old.keepers.told given replies new.outside.keepers.told
  are_promised old new [] [] run = as_same old.keepers.told new.outside.keepers.told (ap (λ (s : State). s.outside.keepers.told) run)
  are_promised old new (line_read line ∷ given) (r ∷ replies) run =
      by_reply requests kept old line r given replies new run.1.0 run.0.stage run.0.outside run.1.1.does run.1.2 run.2
  are_promised old new (request_made request ∷ given) (r ∷ replies) run = absurd run.1.1.does
  are_promised old new [] (r ∷ replies) run = absurd run
  are_promised old new (line_read line ∷ given) [] run = absurd run
  are_promised old new (request_made request ∷ given) [] run = absurd run

  pub runs_promised : RunsArePromised
  runs_promised = record { are = are_promised }

pub runs_are_promised : RunsArePromised
runs_are_promised = runs_promised requests_keep kept_answers_again

-- ---- a run

module _ (law : RunsArePromised) (ending : Ending) (old now : Outside) (left before after : Option (List ℕ)) where
  abbrev Kept : Type 0
  Kept = RunKeepsPromise ending old.keepers.told now.keepers.told (streams left before) after

  -- a run of which the end is known
  done_so : Done ending.asked true old now (streams left before) after → Kept
  done_so done =
      let answered = done.answered in
      record {
        given = answered.given;
        replies = answered.replies;
        read = all_begin ending.asked left answered.given answered.read;
        written = whole_part before after (printed ending.asked answered.given answered.replies) answered.written;
        whole = λ ok. (answered.read, answered.written);
        promised = law.are old (serves done.core now) answered.given answered.replies answered.run;
      }

  -- one that stopped
  module _ (stopped : ending.code ≡ 0 → ⊥) where
    answered_so : AnsweredInPart ending.asked true (start old) now (streams left before) after → Kept
    answered_so part =
        let tables : part.last.outside.keepers.told ≡ now.keepers.told = λ i at. sym (part.still.tables refl at) i in
        record {
          given = part.given;
          replies = part.replies;
          read = part.read;
          written = part.written;
          whole = λ ok. absurd (stopped ok);
          promised = subst (AreAsPromised old.keepers.told part.given part.replies) tables (law.are old part.last part.given part.replies part.run);
        }

    part_so : EndsInPart ending true old now (streams left before) after → Kept
    part_so (inl opening) = record {
      given = [];
      replies = [];
      read = none_given ending.asked left;
      written = (0, opening.1.2.written);
      whole = λ ok. absurd (stopped ok);
      promised =
          let part = opening.1.2.opened refl in
          as_kept old.keepers.told now.keepers.told
          (opened_keep opening.1.2.settings opening.1.0 part.count old.keepers.told now.keepers.told part.opened);
    }
    part_so (inr (inl lacks)) = record {
      given = [];
      replies = line_at ended (BadConfiguration []) ∷ [];
      read = none_given ending.asked left;
      written = subst (AppendsPart before after) (sym (printed_lacking ending.asked (line_at ended (BadConfiguration [])))) lacks.written;
      whole = λ ok. absurd (stopped ok);
      promised = (refl, as_same old.keepers.told now.keepers.told (ap (λ (o : Outside). o.keepers.told) lacks.same));
    }
    part_so (inr (inr part)) = answered_so part

  run_keeps : EndsInPart ending true old now (streams left before) after
      → (ending.code ≡ 0 → Done ending.asked true old now (streams left before) after) → Kept
  run_keeps part done = elim (cases_eq ending.code 0) [
    | inl ok ↦ done_so (done ok)
    | inr stopped ↦ part_so stopped part
  ]

-- where the tables are told
pub keeps_promise : RunsArePromised → (tells : Bool) (ending : Ending) (old now : Outside) (left before after : Option (List ℕ))
    → EndsInPart ending tells old now (streams left before) after
    → (ending.code ≡ 0 → Done ending.asked tells old now (streams left before) after)
    → WhereTold tells (RunKeepsPromise ending old.keepers.told now.keepers.told (streams left before) after)
keeps_promise law true ending old now left before after part done = λ told. run_keeps law ending old now left before after part done
keeps_promise law false ending old now left before after part done = λ told. absurd (cc (told))
