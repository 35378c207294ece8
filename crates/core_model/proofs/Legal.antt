-- What is read is legal in the shard's log.
use Rattle.std.proofs.Common.{◌≡◌, ℕ, ◌≤◌, true, List, Option, Some, None, refl}
use Rattle.std.specs.Prelude.{IsSomeAnd}
use Rattle.tao_base.specs.EdgeTypes.{EdgeTypes}
use Rattle.tao_base.specs.Queries.{query_shard}
use Rattle.tao_base.specs.declared.query.Answer.{Answer}
use Rattle.cache_items.specs.declared.look.Look.{Look}
use Rattle.cache_items.specs.declared.look.Look.TheVariants.{Hit, Miss}
use Rattle.follower_cache.proofs.cache_node_lemmas.LegalAnswers.{answers_are_legal}
use Rattle.follower_cache.specs.cache_node.Answered.{LookAnswers, ViewAnswers}
use Rattle.follower_cache.specs.cache_node.True.{AreTold}
use Rattle.graph_model.specs.Told.{WhereTold}
use Rattle.cache_items.specs.sealed_item.Decided.{IsExactAnswer}
use Rattle.served_shards.specs.Served.{ServedShard, served_at}
use Rattle.shard_log.proofs.GrowthLemmas.{legal-grows}
use Rattle.shard_log.specs.GrowthLaws.{IsLegalIn}
use Rattle.shard_log.specs.View.{View}
use Rattle.core_model.specs.Consistent.{AreSeen}
use Rattle.core_model.specs.Laws.{ReadsAreLegal}
use Rattle.core_model.specs.Pens.{IsSeen, Pens}
use Rattle.core_model.specs.Reads.{IsLegalLook, Wanted}
use Rattle.core_model.proofs.NodesSeen.{seen-told, served-at}

module _ (types : EdgeTypes) (pens : Pens) (read : Wanted) where
  -- what a note answers
  pub note_legal : (note : View) (answer : Answer) (version : ℕ) → ViewAnswers types note read.query answer version
      → WhereTold note.log.told (read.floor ≤ version) → IsSeen pens (query_shard read.query) note
      → IsLegalIn types (pens (query_shard read.query)) read.query read.floor answer version
  note_legal note answer version answers reaches seen told =
      let own : note.log.told ≡ true = seen-told pens (query_shard read.query) note seen told in
      answers_are_legal.legal types note.entries (pens (query_shard read.query)).entries read.query answer version read.floor seen.begins (answers own)
      (reaches own)

  hit_at : (served : List ServedShard) (answer : Answer) (version : ℕ) (found : Option ServedShard) → served_at (query_shard read.query) served ≡ found
      → AreSeen pens served
      → WhereTold (pens (query_shard read.query)).log.told (AreTold served)
      → IsSomeAnd found (λ s. AreTold served → IsExactAnswer types s.view.entries read.query answer version) → read.floor ≤ version
      → IsLegalIn types (pens (query_shard read.query)) read.query read.floor answer version
  hit_at served answer version None at seen alike answers le = absurd answers
  hit_at served answer version (Some s) at seen alike answers le = λ told.
      note_legal s.view answer version (λ own. answers (alike told)) (λ own. le) (served-at pens (query_shard read.query) served s seen at) told

  pub hit_legal : (served : List ServedShard) (look : Look) → AreSeen pens served → WhereTold (pens (query_shard read.query)).log.told (AreTold served)
      → LookAnswers types served read.query look → ((answer : Answer) (version : ℕ) → look ≡ Hit answer version → read.floor ≤ version)
      → IsLegalLook types pens read look
  hit_legal served Miss seen alike answers reaches = tt
  hit_legal served (Hit answer version) seen alike answers reaches =
      hit_at served answer version (served_at (query_shard read.query) served) refl seen alike answers (reaches answer version refl)

  pub reads_are_legal : ReadsAreLegal types pens read
  reads_are_legal = record {
    hit = hit_legal;
    given = note_legal;
    stays = λ later answer version rise.
        legal-grows (pens (query_shard read.query)) (later (query_shard read.query)) types read.query read.floor answer version (rise (query_shard read.query));
  }
