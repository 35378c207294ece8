-- What a leader hands out is legal at the floor.
use Rattle.std.proofs.Common.{◌≡◌, ℕ, ◌≤◌, ◌<◌, Bool, true, List, Option, Some, None, length, take, refl, sym, ◌∙◌, ap, subst, inl, inr, arith}
use Rattle.std.proofs.lemmas.Bool.{cases_Bool, ltb-false, ltb-true}
use Rattle.std.specs.Prelude.{nat_lt}
use Rattle.tao_base.specs.EdgeTypes.{EdgeTypes}
use Rattle.tao_base.specs.Queries.{query_key}
use Rattle.tao_base.specs.declared.entry.Entry.{Entry}
use Rattle.tao_base.specs.declared.query.Answer.{Answer}
use Rattle.tao_base.specs.declared.query.Query.{Query}
use Rattle.graph_model.proofs.Exact.{version_take}
use Rattle.graph_model.proofs.Versions.{version_fixes}
use Rattle.graph_model.specs.Answers.{answer as log_answer}
use Rattle.graph_model.specs.Log.{version as version_of}
use Rattle.graph_model.specs.Told.{WhereTold}
use Rattle.shard_log.proofs.Beginnings.{begins-self}
use Rattle.shard_log.specs.View.{Begins, LogName, View}
use Rattle.cache_node.proofs.sealed_item_lemmas.Deciding.{fronts_decide}
use Rattle.cache_node.specs.sealed_item.Decided.{IsExactAnswer}
use Rattle.cache_node.specs.sealed_item.Fills.{IsSealed, SealedItem}
use Rattle.cache_node.specs.cache_items.HandedOn.{HandsOn, IsFrontHeld}
use Rattle.cache_node.specs.cache_items.Kept.{item_of}
use Rattle.cache_node.specs.cache_items.Node.{Node, item_at}
use Rattle.cache_node.specs.cache_items.declared.item.Item.{Item}
use Rattle.cache_node.proofs.Answering.{fill_answers}
use Rattle.tao_keeper.specs.Table.{Tables}
use Rattle.shard_tables.specs.ReadOuts.{IsFillFor, IsReadOutOf, read_note}
use Rattle.shard_tables.specs.Reads.{AnswersAtVersion}
use Rattle.shard_tables.specs.StoreView.{Store}
use Rattle.shard_tables.specs.Stores.{HasSeen, IsStoreOf, note_of, seen_by}
use Rattle.shard_tables.specs.declared.leader_answer.LeaderAnswer.{LeaderAnswer}
use Rattle.shard_tables.specs.declared.leader_answer.LeaderAnswer.TheVariants.{Filled, Past, Behind}
use Rattle.shard_tables.specs.declared.read_out.ReadOut.{ReadOut}
use Rattle.shard_tables.specs.declared.read_out.ReadOut.TheVariants as out
use Rattle.shard_tables.specs.declared.store.StoreRole.{StoreRole}
use Rattle.shard_tables.specs.declared.store.StoreRole.TheVariants.{Master, Slave}
use Rattle.leader_tier.specs.LeaderReads.{AreAnswersSeen, IsFillAt, at_floor}

-- what a store read, as it is handed out where it has come to the floor; else its version is below
abbrev pub IsHandedOut : ℕ → ReadOut → LeaderAnswer → Type 0
IsHandedOut floor read (Filled fill) = (read ≡ out.Filled fill) × (floor ≤ fill.version)
IsHandedOut floor read (Past answer version total note) = (read ≡ out.Past answer version total note) × (floor ≤ version)
IsHandedOut floor read (Behind version) = version < floor

-- nothing else is handed out at the floor
pub handed_out : (floor : ℕ) (read : ReadOut) (given : LeaderAnswer) → given ≡ at_floor floor read → IsHandedOut floor read given
handed_out floor read given is = subst (IsHandedOut floor read) (sym is) (by_read read)
  where
    by_read : (r : ReadOut) → IsHandedOut floor r (at_floor floor r)
    by_read (out.Filled fill) = elim (cases_Bool (nat_lt fill.version floor)) [
      | inl behind ↦ rw behind (ltb-true fill.version floor behind)
      | inr reached ↦ rw reached (refl, ltb-false fill.version floor reached)
    ]
    by_read (out.Past answer version total note) = elim (cases_Bool (nat_lt version floor)) [
      | inl behind ↦ rw behind (ltb-true version floor behind)
      | inr reached ↦ rw reached (refl, ltb-false version floor reached)
    ]

-- a fill that a store read, which has come to the floor
pub read_is_at : (types : EdgeTypes) (query : Query) (floor : ℕ) (fill : SealedItem) → IsFillFor types query fill → IsSealed fill → floor ≤ fill.version
    → IsFillAt types query floor fill
read_is_at types query floor fill for sealed reaches =
    record {
      key_is = for.key_is;
      decides = for.decided;
      within = for.within;
      reaches = reaches;
      legal = fill_answers types query fill for.key_is for.decided sealed;
    }

-- a fill of an item of its own
pub own_is_at : (types : EdgeTypes) (n : Node) (query : Query) (floor : ℕ) (fill : SealedItem) → HandsOn types n query floor (Some fill) → IsSealed fill
    → IsFillAt types query floor fill
own_is_at types n query floor fill hands sealed = by_item (item_at n.items (query_key query)) hands.0
  where
    by_item : (o : Option Item) → IsFrontHeld types query floor o (Some (item_of fill)) → IsFillAt types query floor fill
    by_item None front = absurd (cc)
    by_item (Some item) front =
        let law = fronts_decide types query item.content in
        let decides = law.decided fill.content front.2 in
        record {
          key_is = hands.1.key_is;
          decides = decides;
          within = law.within fill.content front.2;
          reaches = let le = front.0 in let same = front.1 in omega arith;
          legal = fill_answers types query fill hands.1.key_is decides sealed;
        }

-- what a log answers at its own version is exact in all that it begins
answer_is_exact : (types : EdgeTypes) (log seen : List Entry) (query : Query) (given : Answer) (at : ℕ) → Begins log seen
    → AnswersAtVersion types log query given at
    → IsExactAnswer types seen query given at
answer_is_exact types log seen query given at begins answers =
    let version : at ≡ version_of (take (length log) seen) (query_key query) = answers.version_is ∙ ap (λ l. version_of l (query_key query)) begins in
    let le = version_take (length log) seen (query_key query) in
    record {
      reached = omega arith;
      gives = λ n h. answers.answer_is ∙ ap (λ l. log_answer types l query) begins ∙ version_fixes seen query types (length log) n (sym version ∙ sym h);
    }

begins_seen : (role : StoreRole) (log : List Entry) (view : View) → HasSeen role log view.entries → Begins log (seen_by role view).entries
begins_seen Master log view seen = subst (λ l. Begins l view.entries) seen (begins-self view.entries)
begins_seen Slave log view seen = seen

-- what a store has seen is of its log, whatever its role
pub role_log : (role : StoreRole) (view : View) → (seen_by role view).log ≡ view.log
role_log Master view = refl
role_log Slave view = refl

-- what a store read past the bound is exact in what its note has seen
pub read_is_seen : (tells : Bool) (tables : Tables) (types : EdgeTypes) (query : Query) (store : Store) (read : ReadOut) → IsStoreOf tells tables store
    → read_note read ≡ note_of store
    → WhereTold tells (IsReadOutOf types (tables store.name).log query read) → AreAnswersSeen types query read
read_is_seen tells tables types query store (out.Filled fill) is note reads = tt
read_is_seen tells tables types query store (out.Past answer version total seen) is note reads = λ told.
    let there : tells ≡ true = sym is.told_is ∙ (ap (λ (l : LogName). l.told) (sym (role_log store.role store.view))
    ∙ (ap (λ (v : View). v.log.told) (sym note) ∙ told)) in
    let begins = begins_seen store.role (tables store.name).log store.view (is.seen there) in
    subst (λ v. IsExactAnswer types v.entries query answer version) (sym note)
    (answer_is_exact types (tables store.name).log (note_of store).entries query answer version begins (reads there).0)

-- the log of the note is the one that the store's is
pub read_log : (store : Store) (read : ReadOut) → read_note read ≡ note_of store → (read_note read).log ≡ store.view.log
read_log store read note = ap (λ (v : View). v.log) note ∙ role_log store.role store.view
