-- The lines of cache nodes and of the link: no log changes, and what is shown of a key is what its log says.
use Rattle.std.proofs.Common.{◌≡◌, ℕ, ◌<◌, Bool, true, false, List, Option, Some, None, refl, sym, ap, ◌∙◌, subst, inl, inr}
use Rattle.core_model.specs.Pens.{pens_of}
use Rattle.core_model.specs.Stores.{master_log, stores_in}
use Rattle.core_plans.proofs.WholeRuns.{OfRead}
use Rattle.core_plans.specs.Held.{IsOver}
use Rattle.core_plans.specs.declared.held.HeldPlan.{HeldPlan}
use Rattle.core_plans.specs.declared.held.HeldPlan.TheVariants as of
use Rattle.core_steps.specs.Replies.{refilled_as}
use Rattle.cache_items.specs.declared.item.Item.{Item}
use Rattle.node_name.specs.declared.NodeName.{NodeName}
use Rattle.plain_promise.specs.Promise.{IsShownOf, IsVersionOfSome, Logs, Plain, SaysRightly, settled_after}
use Rattle.promise_kept.proofs.Going.{log_is, settled_rests, stores_are}
use Rattle.promise_kept.proofs.Others.{KeepsCalls, keeps_calls, plain_with, steps_so}
use Rattle.promise_kept.proofs.ReadLemmas.{read_reply_is}
use Rattle.promise_kept.proofs.Refusing.{EndsRefused, ReadRests, read_rests}
use Rattle.promise_kept.proofs.Seeing.{nobody_learns}
use Rattle.promise_kept.proofs.StoreLines.{same_stores}
use Rattle.promise_kept.specs.Lines.{GoesOnUsable, KeepsLine, StepsPlainly}
use Rattle.promise_kept.specs.Seen.{IsPlainOf, IsSettledSince, stores_at}
use Rattle.read_plan.specs.Ends.{EndsAt}
use Rattle.read_plan.specs.Readings.{Reading}
use Rattle.read_plan.specs.declared.end.ReadEnd.TheVariants as ended
use Rattle.read_plan.specs.declared.standing.Standing.{Standing}
use Rattle.read_plan.specs.declared.standing.Standing.TheVariants.{Looking, Asking, Mastering, Keeping, Ended}
use Rattle.replies.specs.declared.calls.CallReply.TheVariants as called
use Rattle.replies.specs.declared.calls.ReadReply.{ReadReply}
use Rattle.replies.specs.declared.nodes.CacheReply.TheVariants.{Refilled, Shown}
use Rattle.replies.specs.declared.nodes.NodeReply.TheVariants.{Cache, Link}
use Rattle.replies.specs.declared.nodes.Shown.TheVariants.{Held, Nothing}
use Rattle.replies.specs.declared.refusals.Refusal.TheVariants.{Memory}
use Rattle.replies.specs.declared.reply.Reply.{Reply}
use Rattle.replies.specs.declared.reply.Reply.TheVariants.{Called, Node, Refused, Settled}
use Rattle.request_check.specs.declared.caches.CheckedCache.{CheckedCache}
use Rattle.request_check.specs.declared.caches.CheckedCache.TheVariants as cache
use Rattle.request_check.specs.declared.checked.Checked.TheVariants as asks
use Rattle.request_check.specs.declared.links.CheckedLink.{CheckedLink}
use Rattle.request_check.specs.declared.links.CheckedLink.TheVariants as over
use Rattle.request_check.specs.declared.links.LinkPlace.{LinkPlace}
use Rattle.sealed_item.specs.Fills.{IsExactContent}
use Rattle.sealed_item.specs.declared.content.Content.{Content}
use Rattle.sealed_item.specs.declared.content.Content.TheVariants as content
use Rattle.tao_base.specs.EdgeTypes.{EdgeTypes}
use Rattle.tao_base.specs.Keys.{key_shard}
use Rattle.tao_base.specs.declared.entry.Entry.{Entry}
use Rattle.tao_base.specs.declared.id.Key.{Key}
use Rattle.tao_base.specs.declared.id.Key.TheVariants.{Obj, List as Assocs}
use Rattle.tao_core.specs.Calls.{world_of}
use Rattle.tao_core.specs.CacheReplies.{AnswersEvict, OnlyNodesChange}
use Rattle.tao_core.specs.Core.{CoreState, Moment}
use Rattle.tao_core.specs.Deliveries.{AnswersDeliver, AnswersInbox, AnswersLoss, AnswersRefill, AnswersSecond, AnswersShow, IsExactNow}
use Rattle.tao_core.specs.Deliveries.{shown_content, shown_item}
use Rattle.tao_core.specs.HeldCalls.{LearnsOf}
use Rattle.tao_core.specs.LinkReplies.{AnswersSwitch}
use Rattle.tao_keeper.specs.Table.{Stays}
use Rattle.tao_schema.specs.Schema.{types_of}
use Rattle.topology.specs.Config.{Settings}
use Rattle.words.specs.declared.LinkWord.{LinkWord}
use Rattle.words.specs.declared.LinkWord.TheVariants as link
use Rattle.write_model.specs.Merges.{Stores, log_of}

-- ---- replies that are no settle's

-- the reply isn't that of a settle which ended well
abbrev pub IsNoSettle : Reply → Type 0
IsNoSettle (Settled lengths) = ⊥
IsNoSettle other = Unit {0}

pub settled_same : (plain : Plain) (logs : Logs) (reply : Reply) → IsNoSettle reply → settled_after plain reply logs ≡ plain.settled
settled_same plain logs (Settled lengths) none = absurd none
settled_same plain logs other none = refl

-- what is never said with such a reply
never_settled : (Says : Reply → Type 0) → ((lengths : List ℕ) → Says (Settled lengths) → ⊥) → (reply : Reply) → Says reply → IsNoSettle reply
never_settled Says never (Settled lengths) says = never lengths says
never_settled Says never other says = tt

-- ---- lines that change no log

-- neither a table, a session nor a held call changes
pub record Rests (old new : Moment) : Type 0 where
  pub tables : Stays old.keepers.told new.keepers.told
  pub keeps : KeepsCalls old new

module _ (old new : Moment) (plain : Plain) (is : IsPlainOf old plain) (on : GoesOnUsable old new) where
  rest_so : (asked : CheckedCache) (reply : Reply) → Rests old new → IsNoSettle reply
      → SaysRightly (types_of old.core.settings.schema) plain (asks.Cache asked) reply (plain_with plain new (settled_after plain reply (stores_at new).logs))
      → StepsPlainly (Some (asks.Cache asked)) old plain reply new
  rest_so asked reply rests none says = steps_so old new plain is on rests.keeps (asks.Cache asked) reply says (same_stores old new plain is on rests.tables)
      (λ plan. refl) (λ session. refl) (subst (IsSettledSince new) (sym (settled_same plain (stores_at new).logs reply none)) (settled_rests old new on plain.settled is.settled))

  link_so : (asked : CheckedLink) (reply : Reply) → Rests old new → IsNoSettle reply → StepsPlainly (Some (asks.Link asked)) old plain reply new
  link_so asked reply rests none = steps_so old new plain is on rests.keeps (asks.Link asked) reply tt (same_stores old new plain is on rests.tables)
      (λ plan. refl) (λ session. refl) (subst (IsSettledSince new) (sym (settled_same plain (stores_at new).logs reply none)) (settled_rests old new on plain.settled is.settled))

-- where only nodes change
nodes_rest : (old new : Moment) → OnlyNodesChange old new → Rests old new
nodes_rest old new rest = record {
  tables = λ at. ap (λ (m : Moment). m.keepers.told at) rest;
  keeps = keeps_calls old new (ap (λ (m : Moment). m.core) rest);
}

-- where only items of nodes are dropped
evict_rests : (old new : Moment) → new ≡ record old { core = record old.core { fleet = new.core.fleet } } → Rests old new
evict_rests old new rest = record {
  tables = λ at. ap (λ (m : Moment). m.keepers.told at) rest;
  keeps = record {
    sessions = ap (λ (m : Moment). m.core.sessions) rest;
    plans = ap (λ (m : Moment). m.core.plans) rest;
  };
}

-- where nothing does
pub same_rests : (old new : Moment) → new ≡ old → Rests old new
same_rests old new same = record {
  tables = λ at. ap (λ (m : Moment). m.keepers.told at) same;
  keeps = record {
    sessions = ap (λ (m : Moment). m.core.sessions) same;
    plans = ap (λ (m : Moment). m.core.plans) same;
  };
}

-- ---- what is shown

shown_is : (log : List Entry) (key : Key) (at : ℕ) (held : Content) → IsExactContent log key at held → IsShownOf log key at (shown_content held)
shown_is log (Obj id) at (content.Object found) exact = exact
shown_is log (Obj id) at (content.List prefix) exact = absurd exact
shown_is log (Assocs id1 atype) at (content.List prefix) exact = exact
shown_is log (Assocs id1 atype) at (content.Object found) exact = absurd exact

module _ (old new : Moment) (plain : Plain) (is : IsPlainOf old plain) (on : GoesOnUsable old new) (node : NodeName) (key : Key)
    (here : key_shard key < old.core.settings.shards) (same : new ≡ old) where
  show_item : (mark : ℕ) (found : Option Item) → IsExactNow true old.core old.keepers key found
      → StepsPlainly (Some (asks.Cache (cache.Show node key))) old plain (Node (Cache (Shown mark (shown_item found)))) new
  show_item mark None exact = rest_so old new plain is on (cache.Show node key) (Node (Cache (Shown mark Nothing))) (same_rests old new same) tt tt
  show_item mark (Some item) exact =
      let log : log_of plain.stores.logs (key_shard key) ≡ master_log old.core.settings old.keepers.told (key_shard key) =
      ap (λ (st : Stores). log_of st.logs (key_shard key)) is.stores ∙ log_is old.core.settings old.keepers.told (key_shard key) here in
      rest_so old new plain is on (cache.Show node key) (Node (Cache (Shown mark (Held item.version (shown_content item.content)))))
      (same_rests old new same) tt
      (subst (λ l. IsShownOf l key item.version (shown_content item.content)) (sym log)
      (shown_is (master_log old.core.settings old.keepers.told (key_shard key)) key item.version item.content (exact refl)))

  show_steps : (reply : Reply) → AnswersShow true node key old reply → StepsPlainly (Some (asks.Cache (cache.Show node key))) old plain reply new
  show_steps (Node (Cache (Shown mark item))) answers =
      subst (λ i. StepsPlainly (Some (asks.Cache (cache.Show node key))) old plain (Node (Cache (Shown mark i))) new) (sym answers.item_is)
      (show_item mark answers.found answers.exact)
  show_steps (Refused (Memory position)) answers =
      rest_so old new plain is on (cache.Show node key) (Refused (Memory position)) (same_rests old new same) tt tt
  show_steps other answers = absurd answers

-- ---- refills

-- what the reply to a refill says: it is no settle's, and its version is one that some key had
abbrev SaysOfRefill : Logs → Reply → Type 0
SaysOfRefill logs (Node (Cache (Refilled reply))) = IsVersionOfSome logs reply.version
SaysOfRefill logs (Settled lengths) = ⊥
SaysOfRefill logs other = Unit {0}

refill_says : (types : EdgeTypes) (old new : Plain) (node : NodeName) (reply : Reply) → SaysOfRefill new.stores.logs reply
    → SaysRightly types old (asks.Cache (cache.Refill node)) reply new
refill_says types old new node (Node (Cache (Refilled reply))) says = says
refill_says types old new node other says = tt

-- a read that ends says so
ends_so : (logs : Logs) (at : Standing) (q : Reading) (reply : Reply) → EndsRefused at
    → ((answer : ReadReply) → EndsAt at q (Called (called.Read answer)) → IsVersionOfSome logs answer.version) → EndsAt at q reply
    → SaysOfRefill logs (refilled_as reply)
ends_so logs (Ended (ended.Answered answer version held)) q reply refused of ends = subst (λ r. SaysOfRefill logs (refilled_as r)) (sym ends) (of _ refl)
ends_so logs (Ended (ended.Refused own)) q reply refused of ends = subst (λ r. SaysOfRefill logs (refilled_as r)) (sym (ends ∙ refused.1)) tt
ends_so logs Looking q reply refused of ends = absurd ends
ends_so logs Asking q reply refused of ends = absurd ends
ends_so logs Mastering q reply refused of ends = absurd ends
ends_so logs (Keeping given) q reply refused of ends = absurd ends

-- what a read leaves that was carried out
record Leaves (s : Settings) (old new : Moment) (read : Reply) : Type 0 where
  tables : Stays old.keepers.told new.keepers.told
  sessions : new.core.sessions ≡ old.core.sessions
  says : SaysOfRefill (stores_in s new.keepers.told).logs (refilled_as read)

read_leaves : (s : Settings) (old new : Moment) (read : Reply) (after : HeldPlan) → OfRead (ReadRests s None (world_of old)) after (world_of new)
    → IsOver after read → LearnsOf (pens_of new.core.fleet.stores) after read old.core.sessions new.core.sessions → Leaves s old new read
read_leaves s old new read (of.Read q) rests over learns = record {
  tables = rests.tables;
  sessions = nobody_learns (pens_of new.core.fleet.stores) q read old.core.sessions new.core.sessions rests.reader_is
      (read_reply_is q read rests.refused over) learns;
  says = ends_so (stores_in s new.keepers.told).logs q.at q read rests.refused rests.answers over;
}
read_leaves s old new read (of.Write q) rests over learns = absurd rests

refill_rests : (node : NodeName) (old new : Moment) (reply : Reply) → AnswersRefill true node old reply new
    → Rests old new × SaysOfRefill (stores_in old.core.settings new.keepers.told).logs reply
refill_rests node old new reply (inr none) =
    (same_rests old new none.same, subst (SaysOfRefill (stores_in old.core.settings new.keepers.told).logs) (sym none.reply_is) tt)
refill_rests node old new reply (inl goes) =
    let mid : Moment = record old { core = record old.core { fleet = record old.core.fleet { followers = goes.left } } } in
    let does = goes.does in
    let rests = read_rests old.core.settings None (world_of mid) _ does.after (world_of new) refl refl does.carries in
    let leaves = read_leaves old.core.settings mid new goes.read does.after rests does.over does.learns in (
      record {
        tables = leaves.tables;
        keeps = record {
          sessions = leaves.sessions;
          plans = ap (λ (c : CoreState). c.plans) does.rest;
        };
      },
      subst (SaysOfRefill (stores_in old.core.settings new.keepers.told).logs) (sym goes.reply_is) leaves.says,
    )

-- ---- all words of cache nodes

pub cache_line : (asked : CheckedCache) → KeepsLine (asks.Cache asked)
cache_line (cache.Deliver node message) old new plain reply is line =
    rest_so old new plain is line.on (cache.Deliver node message) reply (nodes_rest old new line.answers.1)
    (never_settled (λ r. AnswersDeliver node message old.core r new.core) (λ lengths says. says) reply line.answers.0) tt
cache_line (cache.Again node message) old new plain reply is line =
    rest_so old new plain is line.on (cache.Again node message) reply (nodes_rest old new line.answers.1)
    (never_settled (λ r. AnswersSecond node message old.core r new.core) (λ lengths says. says) reply line.answers.0) tt
cache_line (cache.Drop node message) old new plain reply is line =
    rest_so old new plain is line.on (cache.Drop node message) reply (nodes_rest old new line.answers.1)
    (never_settled (λ r. AnswersLoss node message old.core r new.core) (λ lengths says. says) reply line.answers.0) tt
cache_line (cache.Refill node) old new plain reply is line =
    let so = refill_rests node old new reply line.answers in
    let says = subst (λ (st : Stores). SaysOfRefill st.logs reply) (sym (stores_are old new line.on)) so.1 in
    rest_so old new plain is line.on (cache.Refill node) reply so.0
    (never_settled (SaysOfRefill (stores_at new).logs) (λ lengths never. never) reply says)
    (refill_says (types_of old.core.settings.schema) plain (plain_with plain new (settled_after plain reply (stores_at new).logs)) node reply says)
cache_line (cache.Evict node key) old new plain reply is line =
    rest_so old new plain is line.on (cache.Evict node key) reply (evict_rests old new line.answers.1)
    (never_settled (λ r. AnswersEvict node key old r new) (λ lengths says. says) reply line.answers.0) tt
cache_line (cache.Show node key) old new plain reply is line =
    show_steps old new plain is line.on node key line.can.1 line.answers.1 reply line.answers.0
cache_line (cache.Inbox node) old new plain reply is line =
    rest_so old new plain is line.on (cache.Inbox node) reply (same_rests old new line.answers.1)
    (never_settled (λ r. AnswersInbox node old.core r) (λ lengths says. says) reply line.answers.0) tt

-- ---- the link

switch_rests : (word : LinkWord) (whole : Bool) (place : LinkPlace) (old new : Moment) (reply : Reply) → AnswersSwitch word whole place old reply new
    → Rests old new
switch_rests word whole place old new (Node (Link told)) answers = record {
  tables = λ at. ap (λ (m : Moment). m.keepers.told at) answers.2;
  keeps = record {
    sessions = ap (λ (m : Moment). m.core.sessions) answers.2;
    plans = ap (λ (m : Moment). m.core.plans) answers.2;
  };
}
switch_rests word whole place old new (Refused (Memory position)) answers = same_rests old new answers.1
switch_rests word whole place old new other answers = absurd answers

pub link_line : (asked : CheckedLink) → KeepsLine (asks.Link asked)
link_line (over.Cut place) old new plain reply is line =
    link_so old new plain is line.on (over.Cut place) reply (switch_rests link.Cut false place old new reply line.answers)
    (never_settled (λ r. AnswersSwitch link.Cut false place old r new) (λ lengths says. says) reply line.answers)
link_line (over.Mend place) old new plain reply is line =
    link_so old new plain is line.on (over.Mend place) reply (switch_rests link.Mend true place old new reply line.answers)
    (never_settled (λ r. AnswersSwitch link.Mend true place old r new) (λ lengths says. says) reply line.answers)
