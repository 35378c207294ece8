-- What a follower answers under its lock is legal in what was seen, and it stays one of its cluster.
use Rattle.std.proofs.Common.{◌≡◌, ◌≢◌, ℕ, ◌≤◌, Bool, true, false, Option, Some, None, IfOk, IfSome, OnErr, Result, Ok, Err, refl, sym, subst, inl, inr, ◌⊎◌, arith}
use Rattle.std.specs.Option.{option_map}
use Rattle.std.specs.Prelude.{◌&&◌, if◌then◌else◌, nat_le, IsSomeAnd}
use Rattle.std.proofs.lemmas.Bool.{leb-true}
use Rattle.cache_items.specs.Kept.{ask_at}
use Rattle.cache_items.specs.Look.{look_of}
use Rattle.cache_items.specs.Node.{Node, item_at}
use Rattle.cache_items.specs.declared.item.Item.{Item}
use Rattle.cache_items.specs.declared.look.Kept.TheVariants.{Lost}
use Rattle.cache_items.specs.declared.look.Look.{Look}
use Rattle.cache_items.specs.declared.look.Look.TheVariants.{Hit, Miss}
use Rattle.cache_node.proofs.LegalAnswers.{answers_are_legal}
use Rattle.cache_node.specs.Answered.{LookAnswers, ViewAnswers}
use Rattle.cache_node.specs.True.{AreTold}
use Rattle.core_model.specs.Laws.{RightNodesStay}
use Rattle.core_model.specs.Reads.{EndsAsk, IsRightFill, KeepsFill, Wanted, taken_fill}
use Rattle.follower_cache.specs.Seen.{FollowerState}
use Rattle.graph_model.specs.Told.{WhereTold}
use Rattle.log_names.specs.Names.{IsOfLog, LogNames}
use Rattle.node_name.specs.declared.NodeName.{NodeName}
use Rattle.shared_stores.specs.node_stages.Stages.{FollowerDoes, LooksTrue}
use Rattle.sealed_item.specs.Decided.{IsExactAnswer, content_answer, content_decides}
use Rattle.sealed_item.specs.Fills.{SealedItem}
use Rattle.served_shards.specs.Served.{ServedShard, served_at, view_at}
use Rattle.shard_log.proofs.Beginnings.{begins-self}
use Rattle.shard_log.specs.GrowthLaws.{IsLegalIn}
use Rattle.shard_log.specs.View.{View}
use Rattle.shared_stores.specs.Making.{Making}
use Rattle.tao_base.specs.EdgeTypes.{EdgeTypes}
use Rattle.tao_base.specs.Queries.{query_key, query_shard}
use Rattle.tao_base.specs.declared.memory.OutOfMemory.{OutOfMemory}
use Rattle.tao_base.specs.declared.query.Answer.{Answer}
use Rattle.tao_base.specs.declared.query.Query.{Query}
use Rattle.tao_schema.specs.Schema.{types_of}
use Rattle.tao_schema.specs.declared.schema.Schema.{Schema}
use Rattle.shared_nodes.proofs.Reasons.{reason_seen}
use Rattle.shared_nodes.proofs.Turns.{note_of_turn, served_told}
use Rattle.shared_nodes.specs.Nodes.{IsKeptAsSeen, IsLegalHit, IsSharedNode}
use Rattle.shared_nodes.specs.declared.follower.SharedKept.{SharedKept}
use Rattle.shared_nodes.specs.declared.follower.SharedLook.{SharedLook}

-- ---- a hit

missed : (answer : Answer) (version : ℕ) (P : Type 0) → Miss ≡ Hit answer version → P
missed answer version P h = absurd (cc)

reached_by : (decided : Bool) (floor at version : ℕ) (found given : Answer) (enough : Bool) → nat_le floor at ≡ enough
    → (if enough && decided then Hit found at else Miss) ≡ Hit given version
    → floor ≤ version
reached_by true floor at version found given true is h = (let same : at ≡ version = cc in let le = leb-true floor at is in omega arith)
reached_by false floor at version found given true is h = missed given version (floor ≤ version) h
reached_by true floor at version found given false is h = missed given version (floor ≤ version) h
reached_by false floor at version found given false is h = missed given version (floor ≤ version) h

-- a hit has the floor
hit_reaches : (types : EdgeTypes) (found : Option Item) (query : Query) (floor version : ℕ) (answer : Answer)
    → look_of types found query floor ≡ Hit answer version → floor ≤ version
hit_reaches types None query floor version answer h = missed answer version (floor ≤ version) h
hit_reaches types (Some item) query floor version answer h =
    reached_by (content_decides types item.content query) floor item.version version (content_answer types item.content query) answer
    (nat_le floor item.version) refl h

-- what a view answers exactly, at the floor, is legal there
pub exact_legal : (types : EdgeTypes) (view : View) (read : Wanted) (answer : Answer) (version : ℕ)
    → WhereTold view.log.told (IsExactAnswer types view.entries read.query answer version) → WhereTold view.log.told (read.floor ≤ version)
    → IsLegalIn types view read.query read.floor answer version
exact_legal types view read answer version exact reaches told =
    answers_are_legal.legal types view.entries view.entries read.query answer version read.floor (begins-self view.entries) (exact told) (reaches told)

hit_at : (types : EdgeTypes) (node : Node) (read : Wanted) (note : View) (answer : Answer) (version : ℕ) (found : Option ServedShard)
    → served_at (query_shard read.query) node.served ≡ found → option_map (λ (t : ServedShard). t.view) found ≡ Some note
    → ((t : ServedShard) → found ≡ Some t → WhereTold t.view.log.told (AreTold node.served))
    → IsSomeAnd found (λ t. AreTold node.served → IsExactAnswer types t.view.entries read.query answer version) → read.floor ≤ version
    → IsLegalIn types note read.query read.floor answer version
hit_at types node read note answer version None at is told answers le = absurd answers
hit_at types node read note answer version (Some t) at is told answers le =
    let one : t.view ≡ note = cc in
    subst (λ (v : View). IsLegalIn types v read.query read.floor answer version) one
    (exact_legal types t.view read answer version (λ own. answers (told t refl own)) (λ own. le))

look_legal : (m : Making) (log : LogNames) (name : NodeName) (node : Node) (read : Wanted) (note : View) (look : Look) → IsSharedNode m log name node
    → view_at (query_shard read.query) node.served ≡ Some note
    → look ≡ look_of (types_of m.settings.schema) (item_at node.items (query_key read.query)) read.query read.floor
    → LookAnswers (types_of m.settings.schema) node.served read.query look → IsLegalHit (types_of m.settings.schema) note read look
look_legal m log name node read note Miss is at look_is answers = tt
look_legal m log name node read note (Hit answer version) is at look_is answers =
    hit_at (types_of m.settings.schema) node read note answer version (served_at (query_shard read.query) node.served) refl at
    (λ t found. served_told (query_shard read.query) node.served t found is.truth.alike) answers
    (hit_reaches (types_of m.settings.schema) (item_at node.items (query_key read.query)) read.query read.floor version answer (sym look_is))

-- ---- what the stages of a read leave, and what they give

module _ (m : Making) (log : LogNames) (name : NodeName) (stays : RightNodesStay m.settings (IsOfLog log) name) (read : Wanted) where
  -- what a look of a follower leaves, and what it gives
  pub record LookedAt (new : FollowerState) (r : Result SharedLook OutOfMemory) : Type 0 where
    pub kept : IsSharedNode m log name new.node
    pub note : IfOk r (λ found. IsOfLog log (query_shard read.query) found.note)
    pub legal : IfOk r (λ found. IsLegalHit (types_of m.settings.schema) found.note read found.look)

  pub looked_at_shared : (schema : Schema) (old new : FollowerState) (r : Result SharedLook OutOfMemory) → schema ≡ m.settings.schema
      → IsSharedNode m log name old.node → IfOk r (λ found. FollowerDoes (LooksTrue (types_of schema) read found.look found.ask) old new)
      → IfOk r (λ found. view_at (query_shard read.query) old.node.served ≡ Some found.note) → OnErr r (new ≡ old) → LookedAt new r
  looked_at_shared schema old new (Ok found) own is does note err =
      let there : FollowerDoes (LooksTrue (types_of m.settings.schema) read found.look found.ask) old new =
      subst (λ (x : Schema). FollowerDoes (LooksTrue (types_of x) read found.look found.ask) old new) own does in
      record {
        kept = stays.looks read found.look found.ask old new there.does.looks there.apart there.truth is;
        note = note_of_turn m log name old.node (query_shard read.query) found.note is note;
        legal = look_legal m log name old.node read found.note found.look is note there.does.looks.look_is there.does.answers;
      }
  looked_at_shared schema old new (Err e) own is does note err = record {
    kept = subst (λ (f : FollowerState). IsSharedNode m log name f.node) (sym err) is;
    note = tt;
    legal = tt;
  }

  -- what a fill leaves of a follower, and what it answers
  pub record KeptAt (fill : SealedItem) (new : FollowerState) (r : Result SharedKept OutOfMemory) : Type 0 where
    pub kept : IsSharedNode m log name new.node
    pub note : IfOk r (λ kept. IsOfLog log (query_shard read.query) kept.note)
    pub legal : IfOk r (λ kept. IsLegalIn (types_of m.settings.schema) fill.note read.query read.floor kept.answer fill.version)
    pub why : IfOk r (λ kept. IsKeptAsSeen kept.note (query_key read.query) kept.kept)

  pub kept_at_shared : (schema : Schema) (ask : Option ℕ) (fill : SealedItem) (old new : FollowerState) (r : Result SharedKept OutOfMemory)
      → schema ≡ m.settings.schema → IsSharedNode m log name old.node → IsRightFill (types_of m.settings.schema) (IsOfLog log) read fill
      → IfOk r (λ kept. FollowerDoes (KeepsFill (types_of schema) read.query (taken_fill ask fill kept.answer kept.kept)) old new)
      → OnErr r ((new ≡ old) ⊎ FollowerDoes (EndsAsk ask) old new)
      → IfOk r (λ kept. view_at (query_shard read.query) old.node.served ≡ Some kept.note)
      → IfOk r (λ kept. ViewAnswers (types_of schema) fill.note read.query kept.answer fill.version) → IfOk r (λ kept. kept.kept ≢ Lost)
      → IfOk r (λ _. IfSome ask (λ number. IsSomeAnd (ask_at number old.node.asks) (λ a. a.key ≡ query_key read.query))) → KeptAt fill new r
  kept_at_shared schema ask fill old new (Ok kept) own is given does err note answers unlost on =
      let there : FollowerDoes (KeepsFill (types_of m.settings.schema) read.query (taken_fill ask fill kept.answer kept.kept)) old new =
      subst (λ (x : Schema). FollowerDoes (KeepsFill (types_of x) read.query (taken_fill ask fill kept.answer kept.kept)) old new) own does in
      record {
        kept = stays.keeps read ask fill kept.answer kept.kept old new there.does given there.apart there.truth is;
        note = note_of_turn m log name old.node (query_shard read.query) kept.note is note;
        legal = exact_legal (types_of m.settings.schema) fill.note read kept.answer fill.version
            (subst (λ (x : Schema). ViewAnswers (types_of x) fill.note read.query kept.answer fill.version) own answers) given.reaches;
        why = reason_seen (query_key read.query) old.node ask kept.note fill.version fill.as_of kept.kept is.truth note on unlost there.does.kept_is;
      }
  kept_at_shared schema ask fill old new (Err e) own is given does (inl same) note answers unlost on = record {
    kept = subst (λ (f : FollowerState). IsSharedNode m log name f.node) (sym same) is;
    note = tt;
    legal = tt;
    why = tt;
  }
  kept_at_shared schema ask fill old new (Err e) own is given does (inr ends) note answers unlost on = record {
    kept = stays.ends ask old new ends.does ends.truth is;
    note = tt;
    legal = tt;
    why = tt;
  }
