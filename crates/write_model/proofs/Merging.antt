-- The entry that merges a job follows the log of the other shard.
use Rattle.std.proofs.Common.{◌≡◌, ℕ, ◌<◌, List, [], ◌∷◌, ◌++◌, append-nil, length, map, inl, inr, refl, sym, ap, ◌∙◌, subst}
use Rattle.std.proofs.lemmas.Bool.{cases_Bool, false≢true}
use Rattle.std.proofs.lemmas.List.{length-map}
use Rattle.std.proofs.lemmas.List.Elements.{All-head, All-tail}
use Rattle.std.specs.Prelude.{All, Contains, IsSomeAnd, Some, None, filter}
use Rattle.tao_base.specs.EdgeTypes.{EdgeTypes, InversesMatch}
use Rattle.tao_base.specs.Ids.{shard_of}
use Rattle.tao_base.specs.declared.entry.Entry.{Entry}
use Rattle.tao_base.specs.declared.entry.Kind.{Kind}
use Rattle.tao_base.specs.declared.entry.Kind.TheVariants.{Merge as Merged}
use Rattle.tao_base.specs.declared.entry.Origin.{Origin}
use Rattle.tao_base.specs.declared.entry.Origin.TheVariants.{Merge}
use Rattle.write_model.proofs.FarJobs.{JobPair, from_there, job_pairs}
use Rattle.graph_model.proofs.Members.{IsIn, PairsByRecursion, All-from_in, All-in, contains_from_in, in_filter, in_filter_parts, in_map_parts}
use Rattle.graph_model.proofs.Members.{pairs_filter, pairs_weaker}
use Rattle.graph_model.proofs.Rising.{stamps_stay}
use Rattle.write_model.proofs.Written.{AreApart, AreWritten, CutBefore, given_entry, update_of-touch, updates-touches, written_stays}
use Rattle.write_model.specs.MergeLaws.{IsFarEntry, IsMergeable, IsNewOrDone, MergeFollows, MergesNothing}
use Rattle.graph_model.specs.Records.{HasStamp, is_news}
use Rattle.write_model.specs.Merges.{JobSource, WriteOnly, job_of, merge_entry, source_number}
use Rattle.graph_model.specs.Soundness.{EdgeUpdate, IsSound, update_at, updates_of, IsNewOrigin}
use Rattle.write_model.specs.WriteLaws.{StaysSound}
use Rattle.write_model.specs.Writes.{edge_touch, next_entry}

-- the records of a job that are later than the log's are the records of an entry
pub news_written : (types : EdgeTypes) (from number shard : ℕ) (e : Entry) → IsFarEntry types from shard e → InversesMatch types → (log : List Entry)
    → 0 < length (filter (is_news log) (job_of types e))
    → AreWritten types shard log (Merge from number) (filter (is_news log) (job_of types e))
news_written types from number shard e far match log some =
    let us : List EdgeUpdate = filter (is_news log) (job_of types e) in
    let pairs : PairsByRecursion JobPair us = pairs_filter JobPair (is_news log) (job_of types e) (job_pairs types from e far.entry match) in
    record {
      first = us;
      second = [];
      joined = sym (append-nil us);
      some = some;
      first_end = pairs_weaker JobPair CutBefore us (λ u v p. p.0) pairs;
      second_end = tt;
      opposite = λ u v h k. absurd k;
      apart = pairs_weaker JobPair AreApart us (λ u v p. p.1) pairs;
      news = λ u h. (in_filter_parts (is_news log) (job_of types e) u h).1;
      own = λ c. absurd (false≢true c);
      here = λ u h. All-in (λ x. shard_of x.0 ≡ shard) (job_of types e) u far.there (in_filter_parts (is_news log) (job_of types e) u h).0;
      both = λ u h near. absurd (far.away (sym (from_there types from e far.entry u (in_filter_parts (is_news log) (job_of types e) u h).0) ∙ near));
    }

-- an entry is made exactly of the records that are later than the log's
pub nothing_given : (log : List Entry) (kind : Kind) (origin : Origin) (us : List EdgeUpdate) → next_entry log kind origin (map (edge_touch log) us) ≡ None
    → us ≡ []
nothing_given log kind origin [] h = refl
nothing_given log kind origin (u ∷ us) h = absurd (cc)

pub not_news : (log : List Entry) (us : List EdgeUpdate) → filter (is_news log) us ≡ [] → All (HasStamp log) us
not_news log us none = All-from_in (HasStamp log) us (λ u h. elim (cases_Bool (is_news log u)) [
  | inl news ↦ absurd (subst (IsIn u) none (in_filter (is_news log) us u h news))
  | inr old ↦ old
])

pub no_news : (log : List Entry) (us : List EdgeUpdate) → All (HasStamp log) us → filter (is_news log) us ≡ []
no_news log [] h = refl
no_news log (u ∷ us) h = rw (All-head (HasStamp log) u us h) (no_news log us (All-tail (HasStamp log) u us h))

-- the origin of the entry that merges a job
abbrev pub merge_origin : JobSource → Origin
merge_origin owed = Merge owed.shard (source_number owed)

pub merges_nothing : (log : List Entry) → MergesNothing log
merges_nothing log = record {
  done = λ types owed h. not_news log (job_of types owed.entry)
      (nothing_given log Merged (merge_origin owed) (filter (is_news log) (job_of types owed.entry)) h);
  nothing = λ types owed h. ap (λ us. next_entry log Merged (merge_origin owed) (map (edge_touch log) us)) (no_news log (job_of types owed.entry) h);
}

pub some_news : (types : EdgeTypes) (log : List Entry) (owed : JobSource) (m : Entry) → merge_entry types log owed ≡ Some m
    → 0 < length (filter (is_news log) (job_of types owed.entry))
some_news types log owed m h =
    rw (length-map (filter (is_news log) (job_of types owed.entry)) (edge_touch log)) at
    (given_entry log Merged (merge_origin owed) (map (edge_touch log) (filter (is_news log) (job_of types owed.entry))) m h).0

new_origin : (types : EdgeTypes) (log : List Entry) (owed : JobSource) (m : Entry) → IsNewOrDone types log owed → merge_entry types log owed ≡ Some m
    → IsNewOrigin log (merge_origin owed)
new_origin types log owed m (inl new) h = new
new_origin types log owed m (inr done) h = let none : merge_entry types log owed ≡ None = (merges_nothing log).nothing types owed done in absurd (cc)

pub merge_stays : (types : EdgeTypes) (log : List Entry) (owed : JobSource) (m : Entry) → IsMergeable types log owed
    → merge_entry types log owed ≡ Some m → StaysSound types owed.other log m
merge_stays types log owed m may h =
    written_stays types owed.other log Merged (merge_origin owed) (filter (is_news log) (job_of types owed.entry)) m may.sound
    (new_origin types log owed m may.origin h)
    (news_written types owed.shard (source_number owed) owed.other owed.entry may.far may.inverses log (some_news types log owed m h)) h

-- the records that an entry of news writes
news_updates : (log : List Entry) (origin : Origin) (us : List EdgeUpdate) (m : Entry)
    → next_entry log Merged origin (map (edge_touch log) (filter (is_news log) us)) ≡ Some m
    → updates_of m ≡ filter (is_news log) us
news_updates log origin us m h =
    ap updates_of (sym (given_entry log Merged origin (map (edge_touch log) (filter (is_news log) us)) m h).1) ∙ updates-touches log (filter (is_news log) us)

-- after it all of the records are there: what was later is written, and what was there stays
pub news_done : (log : List Entry) (origin : Origin) (us : List EdgeUpdate) (m : Entry) → IsSound (log ++ m ∷ [])
    → next_entry log Merged origin (map (edge_touch log) (filter (is_news log) us)) ≡ Some m → All (HasStamp (log ++ m ∷ [])) us
news_done log origin us m sound h = All-from_in (HasStamp (log ++ m ∷ [])) us (λ u k. elim (cases_Bool (is_news log u)) [
  | inl news ↦ (stamps_stay log).reached m u sound
      (subst (λ vs. Contains vs u) (sym (news_updates log origin us m h)) (contains_from_in (filter (is_news log) us) u (in_filter (is_news log) us u k news)))
  | inr old ↦ (stamps_stay log).stays (m ∷ []) u sound old
])

-- the records that the merge of a job writes
pub merge_updates : (types : EdgeTypes) (log : List Entry) (owed : JobSource) (m : Entry) → merge_entry types log owed ≡ Some m
    → updates_of m ≡ filter (is_news log) (job_of types owed.entry)
merge_updates types log owed m h = news_updates log (merge_origin owed) (job_of types owed.entry) m h

pub merge_done : (types : EdgeTypes) (log : List Entry) (owed : JobSource) (m : Entry) → IsMergeable types log owed → merge_entry types log owed ≡ Some m
    → All (HasStamp (log ++ m ∷ [])) (job_of types owed.entry)
merge_done types log owed m may h = news_done log (merge_origin owed) (job_of types owed.entry) m (merge_stays types log owed m may h).sound.sound h

-- the entry that a merge makes has its origin
pub merge_origin_is : (types : EdgeTypes) (log : List Entry) (owed : JobSource) (m : Entry) → merge_entry types log owed ≡ Some m → m.origin ≡ merge_origin owed
merge_origin_is types log owed m h =
    ap (λ x. x.origin) (sym (given_entry log Merged (merge_origin owed) (map (edge_touch log) (filter (is_news log) (job_of types owed.entry))) m h).1)

-- and each of its touches writes a record of the job
pub merge_touches : (types : EdgeTypes) (log : List Entry) (owed : JobSource) (m : Entry) → merge_entry types log owed ≡ Some m
    → WriteOnly (job_of types owed.entry) m.touches
merge_touches types log owed m h =
    let job : List EdgeUpdate = job_of types owed.entry in
    let news : List EdgeUpdate = filter (is_news log) job in
    subst (λ x. WriteOnly job x.touches) (given_entry log Merged (merge_origin owed) (map (edge_touch log) news) m h).1
    (All-from_in (λ t. IsSomeAnd (update_at t.key t.change) IsOfJob) (map (edge_touch log) news) (λ t k.
    let u = in_map_parts (edge_touch log) news t k in
    subst (λ x. IsSomeAnd (update_at x.key x.change) IsOfJob) u.2
    (subst (λ o. IsSomeAnd o IsOfJob) (sym (update_of-touch log u.0))
    ∣ contains_from_in job u.0 (in_filter_parts (is_news log) job u.0 u.1).0 ∣₁)))
  where
    IsOfJob : EdgeUpdate → Type 0
    IsOfJob u = ∥ Contains (job_of types owed.entry) u ∥₁

pub merge_follows : (log : List Entry) → MergeFollows log
merge_follows log = record {
  merges = λ types owed m may h. record {
    stays = merge_stays types log owed m may h;
    done = merge_done types log owed m may h;
    nothing = (merges_nothing (log ++ m ∷ [])).nothing types owed (merge_done types log owed m may h);
  };
}
