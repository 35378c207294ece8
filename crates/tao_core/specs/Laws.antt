-- What a settle leaves, and how long it stays.
use Rattle.std.specs.Prelude.{ℕ, ◌≡◌, ◌≤◌, ⊤, List, length, true}
use Rattle.core_model.specs.Consistent.{GoesOn}
use Rattle.core_model.specs.Growing.{TablesGoOn}
use Rattle.core_model.specs.States.{AreSettled, HaveSameLogs, nodes_now}
use Rattle.core_model.specs.Stores.{AreWhole, master_log}
use Rattle.core_nodes.specs.Beginning.{AreAtStores}
use Rattle.core_plans.specs.HeldReads.{HasComeTo, version_now}
use Rattle.core_plans.specs.declared.held.HeldPlan.{HeldPlan}
use Rattle.core_plans.specs.declared.held.HeldPlan.TheVariants as of
use Rattle.graph_model.specs.Log.{version}
use Rattle.replies.specs.declared.calls.CallReply.TheVariants as called
use Rattle.replies.specs.declared.calls.ReadReply.{ReadReply}
use Rattle.replies.specs.declared.reply.Reply.{Reply}
use Rattle.replies.specs.declared.reply.Reply.TheVariants.{Called}
use Rattle.request_check.specs.declared.checked.CheckedRead.{CheckedRead}
use Rattle.tao_base.specs.Queries.{query_key, query_shard}
use Rattle.tao_base.specs.declared.query.Query.{Query}
use Rattle.words.specs.declared.PlanWord.{PlanWord}
use Rattle.request_check.specs.declared.checked.CheckedCall.TheVariants as checked_call
use Rattle.tao_core.specs.Core.{ComeUp, IsConsistentCore, IsCoreOf, Moment}
use Rattle.tao_core.specs.HeldCalls.{AnswersCall, StepsAt}
use Rattle.tao_core.specs.Settling.{SettlesCore}

-- every store has all of its shard's log, and each leader and follower that is up has processed it
abbrev pub IsSettled : Moment → Type 0
IsSettled m = AreSettled m.core.settings m.keepers.told (nodes_now m.core.fleet m.core.states)

-- the version that the log of a query's shard gives its key
abbrev pub last_version : Moment → Query → ℕ
last_version m query = version (master_log m.core.settings m.keepers.told (query_shard query)) (query_key query)

-- a stage of a held read misses nothing that the read didn't miss before it
abbrev pub MissesNoMore : HeldPlan → Moment → HeldPlan → Moment → Type 0
MissesNoMore (of.Read p) old (of.Read q) new = (least : ℕ) → HasComeTo least (version_now old.core.settings p old.keepers) p.at
    → HasComeTo least (version_now old.core.settings q new.keepers) q.at
MissesNoMore before old after new = ⊤

-- between moments of keepers that tell their tables
pub record SettledUntilACommit : Type 0 where
  -- a settle leaves nodes and stores settled
  pub settles : (logs : List ℕ) (old new : Moment) → SettlesCore true logs old new → IsSettled new
  -- in a configuration of one region every store has all of its shard's log
  pub whole : (m : Moment) → IsConsistentCore true m.keepers.told m.core → length m.core.settings.regions ≤ 1
      → AreWhole m.core.settings m.keepers.told
  -- nodes and stores are settled at an opening where every store has all of its shard's log
  pub begins : (m : Moment) → AreAtStores m.keepers.told m.core.fleet → AreWhole m.core.settings m.keepers.told → IsSettled m
  -- they stay so, whatever is asked, until a log grows
  pub stays : (old new : Moment) → IsConsistentCore true old.keepers.told old.core → IsConsistentCore true new.keepers.told new.core
      → new.core.settings ≡ old.core.settings → GoesOn old.core.fleet new.core.fleet → ComeUp true new.keepers.told old.core new.core
      → TablesGoOn true old.core.settings old.keepers.told new.keepers.told → HaveSameLogs old.core.settings old.keepers.told new.keepers.told
      → IsSettled old → IsSettled new
  -- each read that begins then is answered at the last version of its key, whichever nodes are down
  pub reads : (old new : Moment) (call : CheckedRead) (reply : ReadReply) → IsConsistentCore true old.keepers.told old.core → IsSettled old
      → AnswersCall true (checked_call.Read call) old (Called (called.Read reply)) new → reply.version ≡ last_version old call.query
  -- and no stage of a held one misses anything
  pub stages : (old new : Moment) (asked : PlanWord) (number : ℕ) (reply : Reply) → IsCoreOf true old.keepers.told old.core → IsSettled old
      → (steps : StepsAt true asked number old reply new) → MissesNoMore steps.before old steps.after new
