-- A leader serves the log of a shard through each call.
use Rattle.std.proofs.Common.{◌≡◌, ℕ, Bool, true, false, List, [], ◌∷◌, Option, Some, None, Result, Ok, Err, IfOk, OnErr}
use Rattle.std.proofs.Common.{refl, sym, ◌∙◌, ap, subst, inl, inr}
use Rattle.std.proofs.lemmas.Bool.{cases_Bool}
use Rattle.std.specs.Option.{option_map}
use Rattle.std.specs.Prelude.{◌==◌, IfSome, if◌then◌else◌, slice_get}
use Rattle.tao_base.specs.declared.entry.Entry.{Entry}
use Rattle.tao_base.specs.declared.entry.Touch.{Touch}
use Rattle.tao_base.specs.Keys.{key_shard}
use Rattle.shard_log.specs.View.{LogName, View}
use Rattle.changeset.specs.Changes.{SeenChange, change_by, seen_change_at}
use Rattle.sealed_item.specs.Fills.{SealedItem}
use Rattle.served_shards.specs.Served.{ServedShard, changed_at, log_at, seeing}
use Rattle.cache_items.specs.Kept.{is_yes, item_of, took, with_item}
use Rattle.cache_items.specs.HandedOn.{with_copy}
use Rattle.cache_items.specs.Node.{Node, met}
use Rattle.cache_items.specs.declared.look.Kept.{Kept}
use Rattle.cache_node.proofs.ServedAt.{KeepsLog}
use Rattle.cache_node.proofs.Truth.{seeing_keeps}
use Rattle.tao_keeper.specs.KeeperState.{KeeperState}
use Rattle.shard_tables.specs.StoreView.{Store}
use Rattle.shard_tables.specs.declared.leader_answer.LeaderAnswer.{LeaderAnswer}
use Rattle.shard_tables.specs.declared.leader_answer.LeaderAnswer.TheVariants.{Filled, Past, Behind}
use Rattle.shard_tables.specs.declared.refusal.StoreRefusal.{StoreRefusal}
use Rattle.leader_tier.specs.LeaderReads.{GivesAnswer, AskedRead, KeepsGiven}

-- the log of a shard stays where what is had of one changes, and not its log
changed_log : (shard k : ℕ) (f : ServedShard → ServedShard) → KeepsLog f → (ss : List ServedShard) → log_at shard (changed_at k f ss) ≡ log_at shard ss
changed_log shard k f keeps [] = refl
changed_log shard k f keeps (s ∷ ss) = elim (cases_Bool (s.shard == k)) [
  | inl on ↦ elim (cases_Bool (s.shard == shard)) [
    | inl t ↦ (let same : ((f s).shard == shard) ≡ true = ap (λ n. n == shard) (keeps.shard s) ∙ t in rw on (rw (same, t) (ap Some (keeps.log s))))
    | inr g ↦ (let gone : ((f s).shard == shard) ≡ false = ap (λ n. n == shard) (keeps.shard s) ∙ g in rw on (rw (gone, g) refl))
  ]
  | inr off ↦ rw off (elim (cases_Bool (s.shard == shard)) [
    | inl t ↦ rw t refl
    | inr g ↦ rw g (changed_log shard k f keeps ss)
  ])
]

module _ (shard : ℕ) where
  abbrev pub log_of : Node → Option LogName
  log_of n = log_at shard n.served

  took_same : (fill : SealedItem) (kept : Kept) (n : Node) → log_of (took fill kept n) ≡ log_of n
  took_same fill kept n = by_kept (is_yes kept)
    where
      by_kept : (b : Bool) → log_of (met (key_shard fill.key) fill.note (if b then with_item fill.key (item_of fill) n else n)) ≡ log_of n
      by_kept true = changed_log shard (key_shard fill.key) (seeing fill.note) (seeing_keeps fill.note) n.served
      by_kept false = changed_log shard (key_shard fill.key) (seeing fill.note) (seeing_keeps fill.note) n.served

  copy_same : (fill : SealedItem) (kept : Kept) (n : Node) → log_of (with_copy fill kept n) ≡ log_of n
  copy_same fill kept n = by_kept (is_yes kept)
    where
      by_kept : (b : Bool) → log_of (if b then took fill kept n else n) ≡ log_of n
      by_kept true = took_same fill kept n
      by_kept false = refl

  given_same : (given : LeaderAnswer) (old new : Node) → KeepsGiven old given new → log_of new ≡ log_of old
  given_same (Filled fill) old new keeps = ap log_of keeps.2 ∙ copy_same fill keeps.0 old
  given_same (Past answer version total note) old new same = ap log_of same
  given_same (Behind version) old new same = ap log_of same

  -- a leader that answered serves the log as before
  pub answer_same : (old new : Node) (asked : AskedRead) (store : Store) (before after : KeeperState) (r : Result LeaderAnswer StoreRefusal)
      → asked.node ≡ old → IfOk r (λ given. GivesAnswer asked store given new before after) → OnErr r (new ≡ old) → log_of new ≡ log_of old
  answer_same old new asked store before after (Ok given) node (inl own) same = ap log_of own.node_is ∙ ap log_of node
  answer_same old new asked store before after (Ok given) node (inr read) same =
      given_same given old new (subst (λ n. KeepsGiven n given new) node read.keeps)
  answer_same old new asked store before after (Err e) node given same = ap log_of same

made_by : (note : View) (found : Option Touch) (made : SeenChange) → option_map (λ t. change_by t note) found ≡ Some made → made.note ≡ note
made_by note None made h = absurd (cc)
made_by note (Some t) made h = (let same : change_by t note ≡ made = cc in ap (λ (c : SeenChange). c.note) (sym same))

-- a changeset of an entry has the note that it was made with
pub made_note : (e : Entry) (place : ℕ) (note : View) (made : SeenChange) → seen_change_at e place note ≡ Some made → made.note ≡ note
made_note e place note made h = made_by note (slice_get e.touches place) made h

-- a changeset is of the log that the node serves at the shard of its key
pub change_log : (shard : ℕ) (n : Node) (c : SeenChange) (note : View) → log_at shard n.served ≡ Some note.log → key_shard c.key ≡ shard → c.note ≡ note
    → IfSome (log_at (key_shard c.key) n.served) (λ log. log ≡ c.note.log)
change_log shard n c note log here is =
    let there : log_at (key_shard c.key) n.served ≡ Some note.log = ap (λ k. log_at k n.served) here ∙ log in
    rw there (ap (λ (v : View). v.log) (sym is))
