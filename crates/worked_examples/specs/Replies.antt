-- Worked examples of the texts of replies.
use Rattle.std.specs.Prelude.{◌≡◌, [], ◌∷◌, true, false, None, codes}
use Rattle.node_name.specs.declared.NodeName.TheVariants.{Follower, Leader}
use Rattle.replies.specs.declared.calls.CallReply.{CallReply}
use Rattle.replies.specs.declared.calls.CallReply.TheVariants.{Read, Write}
use Rattle.replies.specs.declared.calls.InverseEnd.TheVariants.{Scheduled, Written}
use Rattle.replies.specs.declared.calls.ScheduledWhy.TheVariants as scheduled
use Rattle.replies.specs.declared.calls.WriteKind.TheVariants.{AssocAdd, AssocDelete}
use Rattle.replies.specs.declared.lists.Message.{Message}
use Rattle.replies.specs.declared.nodes.CacheReply.TheVariants.{Delivered, Evicted, Inbox, Lost, Refilled, Shown}
use Rattle.replies.specs.declared.nodes.KeptOrNot.{KeptOrNot}
use Rattle.replies.specs.declared.nodes.KeptOrNot.TheVariants.{Not}
use Rattle.replies.specs.declared.nodes.NodeReply.TheVariants.{Cache, Health, Link, Repaired, Streamed, Trimmed}
use Rattle.replies.specs.declared.nodes.NotKeptWhy.TheVariants.{Floor}
use Rattle.replies.specs.declared.nodes.Shown.TheVariants.{Held}
use Rattle.replies.specs.declared.nodes.ShownItem.TheVariants.{Object}
use Rattle.replies.specs.declared.nodes.StreamVerdict.TheVariants.{Applied}
use Rattle.replies.specs.declared.plans.PlanReply.TheVariants.{Ended, Next}
use Rattle.replies.specs.declared.plans.Stage.TheVariants as stage
use Rattle.replies.specs.declared.refusals.NodeRefused.TheVariants.{IsMaster, NoEntry, NoRefill, NodeDown}
use Rattle.replies.specs.declared.refusals.PlanRefused.TheVariants.{NoPlan}
use Rattle.replies.specs.declared.refusals.Refusal.TheVariants as refused
use Rattle.replies.specs.declared.refusals.StoreRefused.TheVariants.{LinkFault, TooOld, Unsettled}
use Rattle.replies.specs.declared.refusals.UnsettledWhy.TheVariants as unsettled
use Rattle.replies.specs.declared.refusals.When.TheVariants.{After, Before}
use Rattle.replies.specs.declared.reply.Reply.TheVariants.{BadStores, Called, Node, Plan, Refused, Settled}
use Rattle.reply_json.specs.Reply.{reply_text}
use Rattle.tao_base.specs.declared.id.StoreName.{StoreName}
use Rattle.tao_base.specs.declared.query.Answer.TheVariants.{Count}
use Rattle.topology.specs.Config.{Settings}
use Rattle.words.specs.declared.DeliveryWord.TheVariants.{Again}
use Rattle.words.specs.declared.HealthWord.TheVariants.{Suspect}
use Rattle.words.specs.declared.LinkWord.TheVariants.{Mend}
use Rattle.words.specs.declared.PlanWord.TheVariants.{Hold}
use Rattle.words.specs.declared.ReadWord.TheVariants.{AssocCount}

-- a region with a tier
abbrev pub west : Settings
west = record {
  schema = record { objects = codes "user" ∷ []; assocs = [] };
  shards = 1;
  regions = record { name = codes "west"; leaders = 1; tiers = record { name = codes "t1"; followers = 3 } ∷ [] } ∷ [];
  masters = 0 ∷ [];
  log_max = 1;
  cache_items = 1;
}

-- the store of shard 0 in region `west`
abbrev pub west_store : StoreName
west_store = record { region = 0; shard = 0 }

-- the third entry of a shard's log
abbrev pub third : Message
third = record { shard = 4; position = 3 }

-- an edge was added, and its inverse is written
abbrev pub added_edge : CallReply
added_edge = Write (record { kind = AssocAdd; written = record { changed = true; inverse = Written; position = 1; retry = false }; hops = 4 })

-- an edge was deleted, and its inverse is to be written
abbrev pub deleted : CallReply
deleted = Write (record {
  kind = AssocDelete;
  written = record { changed = true; inverse = Scheduled scheduled.LogFull; position = 1; retry = false };
  hops = 3;
})

-- a fill is of version 5, and 6 was wanted
abbrev pub stale_fill : KeptOrNot
stale_fill = Not (record { why = Floor; have = 5; need = 6 })

-- a list was counted, and the fill not kept
abbrev pub counted : CallReply
counted = Read (record {
  word = AssocCount;
  answer = Count 1;
  version = 1;
  hops = 2;
  store = true;
  kept = stale_fill;
})

-- of calls and plans, stores and streams
pub record CallsByExample : Type 0 where
  pub bad_stores : reply_text west (BadStores west_store 7) ≡ codes "{\"bad\":\"stores\",\"position\":7,\"store\":\"west/store/0\"}"
  pub written : reply_text west (Called added_edge)
      ≡ codes "{\"changed\":true,\"hops\":4,\"inverse\":\"written\",\"ok\":\"assoc_add\",\"position\":1,\"retry\":false}"
  pub next : reply_text west (Plan (Next Hold 3 stage.Inverse)) ≡ codes "{\"next\":\"inverse\",\"ok\":\"hold\",\"plan\":3}"
  pub scheduled : reply_text west (Plan (Ended 3 deleted))
      ≡ codes "{\"changed\":true,\"hops\":3,\"inverse\":\"scheduled\",\"ok\":\"assoc_delete\",\"plan\":3,\"position\":1,\"retry\":false,\"why\":\"log_full\"}"
  pub not_kept : reply_text west (Plan (Ended 4 counted))
      ≡ codes "{\"count\":1,\"have\":5,\"hops\":2,\"kept\":false,\"need\":6,\"ok\":\"assoc_count\",\"plan\":4,\"store\":true,\"version\":1,\"why\":\"floor\"}"
  pub streamed : reply_text west (Node (Streamed (record { hops = 1; next = 5; verdict = Applied })))
      ≡ codes "{\"hops\":1,\"next\":5,\"ok\":\"stream\",\"verdict\":\"applied\"}"
  pub trimmed : reply_text west (Node (Trimmed (record { cut = 2; reset = 1 }))) ≡ codes "{\"cut\":2,\"ok\":\"trim\",\"reset\":1}"
  pub repaired : reply_text west (Node (Repaired (record { hops = 0; job = 0; wrote = false })))
      ≡ codes "{\"hops\":0,\"job\":0,\"ok\":\"repair\",\"wrote\":false}"
  pub settled : reply_text west (Settled (2 ∷ 3 ∷ [])) ≡ codes "{\"logs\":[2,3],\"ok\":\"settle\"}"

-- of caches and links
pub record NodesByExample : Type 0 where
  pub suspected : reply_text west (Node (Health Suspect true)) ≡ codes "{\"changed\":true,\"ok\":\"suspect\"}"
  pub mended : reply_text west (Node (Link Mend)) ≡ codes "{\"ok\":\"mend\"}"
  pub delivered : reply_text west (Node (Cache (Delivered (record { word = Again; dropped = 1; mark = 2; message = third }))))
      ≡ codes "{\"dropped\":1,\"mark\":2,\"ok\":\"again\",\"position\":3,\"shard\":4}"
  pub lost : reply_text west (Node (Cache (Lost third))) ≡ codes "{\"ok\":\"drop\",\"position\":3,\"shard\":4}"
  pub refilled : reply_text west (Node (Cache (Refilled (record { hops = 2; store = true; version = 7; kept = stale_fill }))))
      ≡ codes "{\"have\":5,\"hops\":2,\"kept\":false,\"need\":6,\"ok\":\"refill\",\"store\":true,\"version\":7,\"why\":\"floor\"}"
  pub evicted : reply_text west (Node (Cache (Evicted true))) ≡ codes "{\"evicted\":true,\"ok\":\"evict\"}"
  pub shown : reply_text west (Node (Cache (Shown 8 (Held 9 (Object None)))))
      ≡ codes "{\"held\":true,\"mark\":8,\"object\":null,\"ok\":\"show\",\"version\":9}"
  pub inbox : reply_text west (Node (Cache (Inbox (third ∷ [])))) ≡ codes "{\"messages\":[{\"position\":3,\"shard\":4}],\"ok\":\"inbox\"}"

-- of refusals
pub record RefusalsByExample : Type 0 where
  pub no_plan : reply_text west (Refused (refused.Plan (NoPlan 3))) ≡ codes "{\"no\":\"no_plan\",\"plan\":3}"
  pub memory : reply_text west (Refused (refused.Memory 0)) ≡ codes "{\"no\":\"memory\",\"position\":0}"
  pub no_refill : reply_text west (Refused (refused.Node (NoRefill (Follower 0 0 2)))) ≡ codes "{\"no\":\"no_refill\",\"node\":\"west/t1/2\"}"
  pub is_master : reply_text west (Refused (refused.Node (IsMaster west_store))) ≡ codes "{\"no\":\"is_master\",\"region\":\"west\",\"shard\":0}"
  pub no_entry : reply_text west (Refused (refused.Node (NoEntry 3 4))) ≡ codes "{\"length\":3,\"no\":\"no_entry\",\"position\":4}"
  pub node_down : reply_text west (Refused (refused.Node (NodeDown (Leader 0 0) Before)))
      ≡ codes "{\"name\":\"west/leader/0\",\"no\":\"node_down\",\"position\":0,\"when\":\"before\"}"
  pub too_old : reply_text west (Refused (refused.Store (TooOld 2 1))) ≡ codes "{\"cut\":2,\"no\":\"too_old\",\"position\":1}"
  pub link_fault : reply_text west (Refused (refused.Store (LinkFault 4 (After 5))))
      ≡ codes "{\"count\":4,\"no\":\"link_fault\",\"position\":5,\"when\":\"after\"}"
  pub unsettled : reply_text west (Refused (refused.Store (Unsettled 1 unsettled.LogFull)))
      ≡ codes "{\"no\":\"unsettled\",\"shard\":1,\"why\":\"log_full\"}"
