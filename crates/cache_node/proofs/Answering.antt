-- What is read off an exact content is what its log answers.
use Rattle.std.proofs.Common.{◌≡◌, ℕ, true, Option, Some, None, refl, sym, subst, inl, inr}
use Rattle.std.proofs.lemmas.Bool.{and_parts, cases_Bool}
use Rattle.std.specs.Prelude.{◌&&◌, IsSome, IsSomeAnd, nat_le}
use Rattle.tao_base.specs.EdgeTypes.{EdgeTypes}
use Rattle.tao_base.specs.declared.query.Query.{Query}
use Rattle.tao_base.specs.Queries.{query_key}
use Rattle.tao_base.specs.Keys.{key_shard}
use Rattle.cache_items.specs.sealed_item.Fills.{IsExactContent, IsSealed, SealedItem}
use Rattle.cache_items.proofs.sealed_item_lemmas.Deciding.{content_answers}
use Rattle.cache_items.specs.declared.item.Item.{Item}
use Rattle.cache_items.specs.declared.look.Look.{Look}
use Rattle.cache_items.specs.sealed_item.Decided.{IsExactAnswer, content_answer, content_decides}
use Rattle.cache_node.specs.Answered.{LookAnswers, ViewAnswers}
use Rattle.cache_items.specs.Look.{look_of}
use Rattle.cache_items.specs.Node.{Node, item_at}
use Rattle.served_shards.specs.Served.{ServedShard, served_at}
use Rattle.cache_node.specs.True.{AreTold, IsTrueNode}

-- a hit answers as what was seen of the log
pub look_answers : (types : EdgeTypes) (n : Node) (query : Query) (floor : ℕ) (look : Look) → IsTrueNode n
    → look ≡ look_of types (item_at n.items (query_key query)) query floor
    → LookAnswers types n.served query look
look_answers types n query floor look is same = subst (LookAnswers types n.served query) (sym same) (by_item (item_at n.items (query_key query)) refl)
  where
    by_item : (o : Option Item) → item_at n.items (query_key query) ≡ o → LookAnswers types n.served query (look_of types o query floor)
    by_item None none = tt
    by_item (Some item) some = elim (cases_Bool (nat_le floor item.version && content_decides types item.content query)) [
      | inr miss ↦ rw miss tt
      | inl hit ↦ rw hit (by_served (served_at (key_shard (query_key query)) n.served) refl (is.items_here (query_key query) item some)
          (and_parts (nat_le floor item.version) (content_decides types item.content query) hit).1)
    ]
      where
        by_served : (o : Option ServedShard) → served_at (key_shard (query_key query)) n.served ≡ o → IsSome o → content_decides types item.content query ≡ true
            → IsSomeAnd o (λ s. AreTold n.served → IsExactAnswer types s.view.entries query (content_answer types item.content query) item.version)
        by_served None at none decided = absurd (cc)
        by_served (Some s) at found decided =
            λ told. content_answers types s.view.entries query item.version item.content ((is.told told).items (query_key query) item s some at).exact decided

-- a fill answers as what its note has seen
pub fill_answers : (types : EdgeTypes) (query : Query) (fill : SealedItem) → fill.key ≡ query_key query → content_decides types fill.content query ≡ true
    → IsSealed fill
    → ViewAnswers types fill.note query (content_answer types fill.content query) fill.version
fill_answers types query fill key decided sealed told =
    content_answers types fill.note.entries query fill.version fill.content
    (subst (λ k. IsExactContent fill.note.entries k fill.version fill.content) key (sealed told).exact) decided
