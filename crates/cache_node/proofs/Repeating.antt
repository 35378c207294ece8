-- A query that was just answered is answered again.
use Rattle.std.proofs.Common.{◌≡◌, ℕ, ◌≤◌, true, false, List, Option, Some, None, refl, ap, sym, subst, ◌∙◌, inl, inr, arith}
use Rattle.std.proofs.lemmas.Bool.{and_parts, cases_Bool, eqb-true}
use Rattle.std.specs.Map.{lookup}
use Rattle.std.specs.Prelude.{◌&&◌, ◌==◌, nat_le, is_some}
use Rattle.lru.proofs.CallerLemmas.{lookup-put_entries}
use Rattle.lru.proofs.Pairs.{promoted_absent, promoted_put}
use Rattle.lru.specs.LruCache.{lru_cache, promoted, put_entries}
use Rattle.tao_base.specs.EdgeTypes.{EdgeTypes}
use Rattle.tao_base.specs.Keys.{same_key}
use Rattle.tao_base.specs.Queries.{query_key}
use Rattle.tao_base.specs.declared.entry.Entry.{Entry}
use Rattle.tao_base.specs.declared.id.Key.{Key}
use Rattle.tao_base.specs.declared.query.Answer.{Answer}
use Rattle.tao_base.specs.declared.query.Query.{Query}
use Rattle.cache_items.proofs.sealed_item_lemmas.Deciding.{longer_contents_answer}
use Rattle.cache_items.specs.sealed_item.Decided.{content_answer, content_decides, is_longer_content}
use Rattle.cache_items.specs.sealed_item.Fills.{IsExactContent, SealedItem}
use Rattle.cache_items.specs.declared.item.Item.{Item}
use Rattle.cache_items.specs.declared.look.Look.TheVariants.{Hit, Miss}
use Rattle.cache_items.specs.Kept.{item_of, kept_items, stays}
use Rattle.cache_items.specs.Look.{look_of}
use Rattle.cache_items.specs.Node.{Items, item_at}
use Rattle.cache_node.proofs.Keys.{key_laws}
use Rattle.cache_node.specs.Laws.{AnswersRepeat, IsExactAt}

-- the key's own item stays at it
held-first : (items : Items) (key : Key) → item_at (promoted (same_key key) items) key ≡ item_at items key
held-first items key = elim (cases_Bool (is_some (item_at items key))) [
  | inl there ↦ (
      let p = promoted_put same_key (lru_cache items 0) key there in
      ap (λ es. lookup (same_key key) es) p.2 ∙ lookup-put_entries same_key (lru_cache items 0) key p.0 key_laws ∙ sym p.1)
  | inr none ↦ ap (λ es. lookup (same_key key) es) (promoted_absent same_key (lru_cache items 0) key none).1
]

le-true : (m n : ℕ) → m ≤ n → nat_le m n ≡ true
le-true m n h = grind arith

-- an item answers a query that it decides, with each floor up to its version
decided_hit : (types : EdgeTypes) (query : Query) (again : ℕ) (item : Item) → content_decides types item.content query ≡ true → again ≤ item.version
    → look_of types (Some item) query again ≡ Hit (content_answer types item.content query) item.version
decided_hit types query again item decides le = let enough = le-true again item.version le in rw (enough, decides) refl

-- what a hit says of the item
record HitBy (types : EdgeTypes) (item : Item) (query : Query) (given : Answer) (at : ℕ) : Type 0 where
  pub decides : content_decides types item.content query ≡ true
  pub answer_is : content_answer types item.content query ≡ given
  pub at_is : item.version ≡ at

hit_by : (types : EdgeTypes) (item : Item) (query : Query) (floor at : ℕ) (given : Answer) → look_of types (Some item) query floor ≡ Hit given at
    → HitBy types item query given at
hit_by types item query floor at given h = elim (cases_Bool (nat_le floor item.version && content_decides types item.content query)) [
  | inl both ↦ (
      let e : Hit (content_answer types item.content query) item.version ≡ Hit given at = rw both at h in
      record { decides = (and_parts (nat_le floor item.version) (content_decides types item.content query) both).1; answer_is = cc; at_is = cc })
  | inr off ↦ absurd (let e : Miss ≡ Hit given at = rw off at h in cc)
]

hit_again : (types : EdgeTypes) (found : Option Item) (query : Query) (floor again at : ℕ) (given : Answer) → look_of types found query floor ≡ Hit given at
    → again ≤ at
    → look_of types found query again ≡ Hit given at
hit_again types None query floor again at given h le = absurd (cc)
hit_again types (Some item) query floor again at given h le =
    let by = hit_by types item query floor at given h in
    let same = by.at_is in
    let hit = decided_hit types query again item by.decides (omega arith) in
    hit ∙ ap (λ a. Hit a item.version) by.answer_is ∙ ap (Hit given) same

-- an item that is put is held at its key
put_held : (items : Items) (most : ℕ) (key : Key) (item : Item) → stays (item_at items key) item ≡ false
    → item_at (kept_items items most key item) key ≡ Some item
put_held items most key item stays_not =
    let put : kept_items items most key item ≡ put_entries same_key (lru_cache items most) key item = rw stays_not refl in
    ap (λ es. lookup (same_key key) es) put ∙ lookup-put_entries same_key (lru_cache items most) key item key_laws

kept_again : (types : EdgeTypes) (items : Items) (most : ℕ) (query : Query) (again : ℕ) (fill : SealedItem) → content_decides types fill.content query ≡ true
    → stays (item_at items (query_key query)) (item_of fill) ≡ false → again ≤ fill.version
    → look_of types (item_at (kept_items items most (query_key query) (item_of fill)) (query_key query)) query again
    ≡ Hit (content_answer types fill.content query) fill.version
kept_again types items most query again fill decides stays_not le =
    ap (λ found. look_of types found query again) (put_held items most (query_key query) (item_of fill) stays_not)
    ∙ decided_hit types query again (item_of fill) decides le

-- the item that stays, since it is a longer list of the version
longer_stays : (types : EdgeTypes) (log : List Entry) (query : Query) (again : ℕ) (fill : SealedItem) (o : Option Item) → stays o (item_of fill) ≡ true
    → ((item : Item) → o ≡ Some item → IsExactContent log (query_key query) item.version item.content)
    → IsExactContent log (query_key query) fill.version fill.content
    → content_decides types fill.content query ≡ true → again ≤ fill.version
    → look_of types o query again ≡ Hit (content_answer types fill.content query) fill.version
longer_stays types log query again fill None on held exact decides le = absurd (cc)
longer_stays types log query again fill (Some item) on held exact decides le =
    let parts = and_parts (item.version == fill.version) (is_longer_content item.content fill.content) on in
    let same : item.version ≡ fill.version = eqb-true item.version fill.version parts.0 in
    let there : IsExactContent log (query_key query) fill.version item.content =
    subst (λ v. IsExactContent log (query_key query) v item.content) same (held item refl) in
    let longer = longer_contents_answer.decides types log query fill.version fill.content item.content exact there parts.1 decides in
    let answer = longer_contents_answer.answers types log query fill.version item.content fill.content there exact longer decides in
    let hit = decided_hit types query again item longer (omega arith) in
    hit ∙ ap (λ a. Hit a item.version) answer ∙ ap (Hit (content_answer types fill.content query)) same

kept_beside : (types : EdgeTypes) (log : List Entry) (items : Items) (most : ℕ) (query : Query) (again : ℕ) (fill : SealedItem)
    → IsExactAt log items (query_key query)
    → IsExactContent log (query_key query) fill.version fill.content → content_decides types fill.content query ≡ true → again ≤ fill.version
    → look_of types (item_at (kept_items items most (query_key query) (item_of fill)) (query_key query)) query again
    ≡ Hit (content_answer types fill.content query) fill.version
kept_beside types log items most query again fill held exact decides le = elim (cases_Bool (stays (item_at items (query_key query)) (item_of fill))) [
  | inl on ↦ (
      let same : kept_items items most (query_key query) (item_of fill) ≡ promoted (same_key (query_key query)) items = rw on refl in
      let there : item_at (kept_items items most (query_key query) (item_of fill)) (query_key query) ≡ item_at items (query_key query) =
      ap (λ es. lookup (same_key (query_key query)) es) same ∙ held-first items (query_key query) in
      ap (λ found. look_of types found query again) there ∙ longer_stays types log query again fill (item_at items (query_key query)) on held exact decides le)
  | inr off ↦ kept_again types items most query again fill decides off le
]

pub answers_repeat : AnswersRepeat
answers_repeat = record {
  hit = λ types items query floor again at given h le.
      ap (λ found. look_of types found query again) (held-first items (query_key query))
      ∙ hit_again types (item_at items (query_key query)) query floor again at given h le;
  kept = kept_again;
  kept_beside = kept_beside;
}
