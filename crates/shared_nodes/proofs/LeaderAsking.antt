-- What a leader gives is right for the read, and of its shard's log; and the leader stays right.
use Rattle.std.proofs.Common.{◌≡◌, ℕ, Bool, true, false, [], ◌∷◌, Some, IfOk, OnErr, Result, Ok, Err, refl, sym, subst, ◌∙◌, inl, inr}
use Rattle.std.specs.Prelude.{⊤, ◌==◌, if◌then◌else◌, nat_lt}
use Rattle.std.proofs.lemmas.Bool.{eq-eqb}
use Rattle.cache_items.specs.Node.{Node}
use Rattle.core_model.proofs.Legal.{reads_are_legal}
use Rattle.core_model.specs.Laws.{RightNodesStay}
use Rattle.core_model.specs.Reads.{IsRightAnswer, LeaderAnswers, Wanted, asked_store, store_calls}
use Rattle.core_model.proofs.leader_tier_lemmas.LegalReads.{role_log}
use Rattle.core_model.specs.leader_tier.LeaderReads.{GivesAnswer, IsLegalAt, asked_read, at_floor}
use Rattle.log_names.specs.Names.{IsOfLog, LogNames}
use Rattle.node_name.specs.declared.NodeName.{NodeName}
use Rattle.shared_stores.specs.node_stages.Stages.{LeaderDoes}
use Rattle.shard_log.proofs.GrowthLemmas.{grows-self}
use Rattle.shard_tables.specs.ReadOuts.{read_note}
use Rattle.shard_tables.specs.StoreView.{Store}
use Rattle.shard_tables.specs.declared.leader_answer.LeaderAnswer.{LeaderAnswer}
use Rattle.shard_tables.specs.declared.leader_answer.LeaderAnswer.TheVariants.{Filled, Past, Behind}
use Rattle.shard_tables.specs.declared.read_out.ReadOut.{ReadOut}
use Rattle.shard_tables.specs.declared.read_out.ReadOut.TheVariants as out
use Rattle.shard_tables.specs.declared.refusal.StoreRefusal.{StoreRefusal}
use Rattle.tao_base.specs.EdgeTypes.{EdgeTypes}
use Rattle.tao_base.specs.Queries.{query_shard}
use Rattle.tao_keeper.specs.KeeperState.{KeeperState}
use Rattle.tao_schema.specs.Schema.{types_of}
use Rattle.tao_schema.specs.declared.schema.Schema.{Schema}
use Rattle.shared_nodes.specs.Nodes.{IsSharedNode}
use Rattle.shared_nodes.proofs.Turns.{note_of_turn}
use Rattle.shared_stores.specs.Making.{Making}

-- ---- the one store that is asked

-- it is found among the stores, which are it alone
one_found : (store : Store) (shard : ℕ) → store.name.shard ≡ shard → (before after : KeeperState)
    → asked_store (store_calls store.name.region (store ∷ []) before after) shard ≡ Some store
one_found store shard same before after =
    let region : (store.name.region == store.name.region) ≡ true = eq-eqb store.name.region store.name.region refl in
    let here : (store.name.shard == shard) ≡ true = eq-eqb store.name.shard shard same in
    rw (region, here) refl

-- ---- what was given was seen of the shard's log

abbrev IsOfAnswer : LogNames → ℕ → LeaderAnswer → Type 0
IsOfAnswer log shard (Filled fill) = IsOfLog log shard fill.note
IsOfAnswer log shard (Past answer version total note) = IsOfLog log shard note
IsOfAnswer log shard (Behind version) = ⊤

floor_of : (log : LogNames) (shard : ℕ) (behind : Bool) (version : ℕ) (given : LeaderAnswer) → IsOfAnswer log shard given
    → IsOfAnswer log shard (if behind then Behind version else given)
floor_of log shard true version given is = tt
floor_of log shard false version given is = is

out_of : (log : LogNames) (shard floor : ℕ) (read : ReadOut) → IsOfLog log shard (read_note read) → IsOfAnswer log shard (at_floor floor read)
out_of log shard floor (out.Filled fill) is = floor_of log shard (nat_lt fill.version floor) fill.version (Filled fill) is
out_of log shard floor (out.Past answer version total note) is = floor_of log shard (nat_lt version floor) version (Past answer version total note) is

right_of_log : (types : EdgeTypes) (log : LogNames) (read : Wanted) (given : LeaderAnswer) → IsLegalAt types read.query read.floor given
    → IsOfAnswer log (query_shard read.query) given → IsRightAnswer types (IsOfLog log) read given
right_of_log types log read (Filled fill) legal is =
    record { key_is = legal.key_is; decides = legal.decides; within = legal.within; reaches = λ told. legal.reaches; seen = is }
right_of_log types log read (Past answer version total note) legal is =
    ((reads_are_legal types (λ shard. note) read).given note answer version legal.1 (λ told. legal.0) (grows-self note), is)
right_of_log types log read (Behind version) legal is = legal

-- ---- the leader's answer

module _ (m : Making) (log : LogNames) (name : NodeName) (read : Wanted) (store : Store) (before after : KeeperState) (old new : Node) where
  answer_of : (types : EdgeTypes) (given : LeaderAnswer) → IsSharedNode m log name old → IsOfLog log (query_shard read.query) store.view
      → GivesAnswer (asked_read types old read.query read.floor) store given new before after → IsOfAnswer log (query_shard read.query) given
  answer_of types given is own (inl handed) =
      subst (IsOfAnswer log (query_shard read.query)) (sym handed.given_is)
      (note_of_turn m log name old (query_shard read.query) handed.fill.note is handed.serves.1.note_is)
  answer_of types given is own (inr reads) =
      subst (IsOfAnswer log (query_shard read.query)) (sym reads.given_is)
      (out_of log (query_shard read.query) read.floor reads.out
      (subst (IsOfLog log (query_shard read.query)) (sym reads.note_is) (role_log store.role store.view ∙ own)))

  -- what a leader's answer leaves, and what it gives
  pub record AskedLeader (r : Result LeaderAnswer StoreRefusal) : Type 0 where
    pub kept : IsSharedNode m log name new
    pub given : IfOk r (IsRightAnswer (types_of m.settings.schema) (IsOfLog log) read)

  pub asked_leader : (schema : Schema) (r : Result LeaderAnswer StoreRefusal) → RightNodesStay m.settings (IsOfLog log) name → schema ≡ m.settings.schema
      → IsSharedNode m log name old → IsOfLog log (query_shard read.query) store.view → store.name.shard ≡ query_shard read.query
      → IfOk r (λ given. LeaderDoes (λ from to. GivesAnswer (asked_read (types_of schema) from read.query read.floor) store given to before after) old new)
      → IfOk r (IsLegalAt (types_of schema) read.query read.floor) → OnErr r (new ≡ old) → AskedLeader r
  asked_leader schema (Ok given) stays same is own here does legal err =
      let types : EdgeTypes = types_of m.settings.schema in
      let done : LeaderDoes (λ from to. GivesAnswer (asked_read types from read.query read.floor) store given to before after) old new =
      subst (λ (x : Schema). LeaderDoes (λ from to. GivesAnswer (asked_read (types_of x) from read.query read.floor) store given to before after) old new)
      same does in
      let right : IsRightAnswer types (IsOfLog log) read given =
      right_of_log types log read given (subst (λ (x : Schema). IsLegalAt (types_of x) read.query read.floor given) same legal)
      (answer_of types given is own done.does) in
      let answers : LeaderAnswers types read given (store_calls store.name.region (store ∷ []) before after) old new =
      record { store = store; stands = one_found store (query_shard read.query) here before after; answers = done.does } in
      record {
        kept = stays.answers read given (store_calls store.name.region (store ∷ []) before after) old new answers right done.apart done.truth is;
        given = right;
      }
  asked_leader schema (Err e) stays same is own here does legal err = record { kept = subst (IsSharedNode m log name) (sym err) is; given = tt }
