-- The touches and the entry of a merge.
use Rattle.std.proofs.Common.{◌≡◌, ℕ, ◌<◌, List, [], ◌∷◌, ◌++◌, length, map, refl, sym, ap, ◌∙◌, arith}
use Rattle.std.specs.Prelude.{Some, None, All, filter}
use Rattle.tao_base.specs.EdgeTypes.{EdgeTypes}
use Rattle.tao_base.specs.declared.entry.Entry.{Entry}
use Rattle.tao_base.specs.declared.entry.Kind.TheVariants.{Merge as Merged}
use Rattle.tao_base.specs.declared.entry.Origin.TheVariants.{Merge}
use Rattle.tao_base.specs.declared.entry.Touch.{Touch}
use Rattle.tao_base.specs.declared.id.StoreName.{StoreName}
use Rattle.write_model.proofs.MergeOf.{merges_follow}
use Rattle.write_model.specs.MergeLaws.{MayBeMerged}
use Rattle.graph_model.specs.Records.{HasStamp, is_news}
use Rattle.write_model.specs.Merges.{merge_of}
use Rattle.graph_model.specs.Soundness.{CanFollow, EdgeUpdate, IsSound, IsSoundOf}
use Rattle.write_model.specs.Writes.{edge_touch, next_entry}
use Rattle.tao_keeper.specs.Table.{Tables}
use Rattle.shard_tables.specs.Jobs.{made_merge}

-- the touches make the entry
module _ (log : List Entry) (from position : ℕ) (us : List EdgeUpdate) (ts : List Touch) (are : ts ≡ map (edge_touch log) (filter (is_news log) us)) where
  given : merge_of log from position us ≡ next_entry log Merged (Merge from position) ts
  given = ap (next_entry log Merged (Merge from position)) (sym are)

  pub merged_is : (n : ℕ) → 0 < length ts → n ≡ length log → merge_of log from position us ≡ Some (made_merge n from position ts)
  merged_is n some count = given ∙ by ts some
    where
      by : (xs : List Touch) → 0 < length xs → next_entry log Merged (Merge from position) xs ≡ Some (made_merge n from position xs)
      by [] h = absurd (omega (arith, h))
      by (x ∷ xs) h = ap (λ k. Some (made_merge k from position (x ∷ xs))) (sym count)

  pub none_merged : length ts ≡ 0 → merge_of log from position us ≡ None
  none_merged none = given ∙ by ts none
    where
      by : (xs : List Touch) → length xs ≡ 0 → next_entry log Merged (Merge from position) xs ≡ None
      by [] h = refl
      by (x ∷ xs) h = absurd (omega (arith, h))

-- the touches that were asked for under the store's name, and of the job's records
pub news_at : (tables : Tables) (at name : StoreName) (us vs : List EdgeUpdate) (ts : List Touch) → at ≡ name → us ≡ vs
    → ts ≡ map (edge_touch (tables at).log) (filter (is_news (tables at).log) us)
    → ts ≡ map (edge_touch (tables name).log) (filter (is_news (tables name).log) vs)
news_at tables at name us vs ts at_is us_is are =
    are ∙ ap (λ n. map (edge_touch (tables n).log) (filter (is_news (tables n).log) us)) at_is
    ∙ ap (λ v. map (edge_touch (tables name).log) (filter (is_news (tables name).log) v)) us_is

-- the entry merges the records: it follows the log, keeps it sound, and leaves all of them there
pub record IsMade (shard : ℕ) (log : List Entry) (from position : ℕ) (us : List EdgeUpdate) (m : Entry) : Type 0 where
  pub is : merge_of log from position us ≡ Some m
  pub follows : CanFollow log m
  pub sound : (types : EdgeTypes) → IsSoundOf types shard log → IsSoundOf types shard (log ++ m ∷ [])
  pub done : IsSound log → All (HasStamp (log ++ m ∷ [])) us

-- the touches of a merge, over tables that have this log
module _ (tables : Tables) (at name : StoreName) (us vs : List EdgeUpdate) (ts : List Touch) (at_is : at ≡ name) (us_is : us ≡ vs)
    (asked : ts ≡ map (edge_touch (tables at).log) (filter (is_news (tables at).log) us)) where
  pub made_is : (shard from position n : ℕ) (m : Entry) → 0 < length ts → n ≡ length (tables name).log → m ≡ made_merge n from position ts
      → MayBeMerged shard (tables name).log from position vs → IsMade shard (tables name).log from position vs m
  made_is shard from position n m some count made may =
      let is : merge_of (tables name).log from position vs ≡ Some m =
      merged_is (tables name).log from position vs ts (news_at tables at name us vs ts at_is us_is asked) n some count ∙ ap Some (sym made) in
      let law = merges_follow shard (tables name).log from position vs m in record {
        is = is;
        follows = law.follows may is;
        sound = λ types sound. (law.stays types sound may is).sound;
        done = λ sound. law.done sound may is;
      }
