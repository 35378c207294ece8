-- The entry that merges records of another shard's entry, said of the records alone.
use Rattle.std.proofs.Common.{◌≡◌, ℕ, ◌<◌, ◌⊎◌, List, [], ◌∷◌, append-nil, length, map, inl, inr, sym, ap, ◌∙◌, subst}
use Rattle.std.proofs.lemmas.Bool.{false≢true}
use Rattle.std.proofs.lemmas.List.{length-map}
use Rattle.std.specs.Prelude.{All, None, Some, filter}
use Rattle.tao_base.specs.EdgeTypes.{EdgeTypes}
use Rattle.tao_base.specs.Ids.{shard_of}
use Rattle.tao_base.specs.declared.entry.Entry.{Entry}
use Rattle.tao_base.specs.declared.entry.Kind.TheVariants.{Merge as Merged}
use Rattle.tao_base.specs.declared.entry.Origin.TheVariants.{Merge}
use Rattle.write_model.proofs.FarJobs.{JobPair, from_there, job_pairs}
use Rattle.graph_model.proofs.Members.{PairsByRecursion, All-from_in, All-in, in_filter_parts, pairs_filter, pairs_weaker}
use Rattle.write_model.proofs.Merging.{news_done, no_news, not_news, nothing_given}
use Rattle.graph_model.proofs.Sound.{sound_grows}
use Rattle.write_model.proofs.Written.{AreApart, AreWritten, CutBefore, given_entry, one_cut, written_follows, written_stays}
use Rattle.write_model.specs.MergeLaws.{AreOfOneJob, JobsMayBeMerged, MayBeMerged, MergesFollow, MergesNone}
use Rattle.graph_model.specs.Records.{HasStamp, is_news}
use Rattle.write_model.specs.Merges.{job_of, merge_of}
use Rattle.graph_model.specs.Soundness.{CanFollow, EdgeUpdate, IsSoundOf, IsNewOrigin}
use Rattle.write_model.specs.WriteLaws.{StaysSound}
use Rattle.write_model.specs.Writes.{edge_touch, next_entry}

one_job_pairs : (us : List EdgeUpdate) → AreOfOneJob us → PairsByRecursion JobPair us
one_job_pairs [] one = tt
one_job_pairs (u ∷ []) one = (tt, tt)
one_job_pairs (u ∷ v ∷ []) one = (((record { states = one.states; id1 = one.id1; id2 = one.id2 }, one.apart), tt), (tt, tt))
one_job_pairs (u ∷ v ∷ w ∷ us) one = absurd one

pairs_are_one_job : (us : List EdgeUpdate) → PairsByRecursion JobPair us → AreOfOneJob us
pairs_are_one_job [] p = tt
pairs_are_one_job (u ∷ []) p = tt
pairs_are_one_job (u ∷ v ∷ []) p = record { states = p.0.0.0.states; id1 = p.0.0.0.id1; id2 = p.0.0.0.id2; apart = p.0.0.1 }
pairs_are_one_job (u ∷ v ∷ w ∷ us) p = one_cut u.3 v.3 w.3 p.0.0.0.states p.1.0.0.0.states

-- types without inverses
plain_types : EdgeTypes
plain_types = record { inverse = λ a. None; bound = λ a. 0 }

none_merged : (log : List Entry) (from number : ℕ) (us : List EdgeUpdate) → All (HasStamp log) us → merge_of log from number us ≡ None
none_merged log from number us done = ap (λ vs. next_entry log Merged (Merge from number) (map (edge_touch log) vs)) (no_news log us done)

module _ (shard : ℕ) (log : List Entry) (from number : ℕ) (us : List EdgeUpdate) where
  abbrev news : List EdgeUpdate
  news = filter (is_news log) us

  records_written : (types : EdgeTypes) → MayBeMerged shard log from number us → 0 < length news → AreWritten types shard log (Merge from number) news
  records_written types may some =
      let pairs : PairsByRecursion JobPair news = pairs_filter JobPair (is_news log) us (one_job_pairs us may.one) in
      record {
        first = news;
        second = [];
        joined = sym (append-nil news);
        some = some;
        first_end = pairs_weaker JobPair CutBefore news (λ u v p. p.0) pairs;
        second_end = tt;
        opposite = λ u v h k. absurd k;
        apart = pairs_weaker JobPair AreApart news (λ u v p. p.1) pairs;
        news = λ u h. (in_filter_parts (is_news log) us u h).1;
        own = λ c. absurd (false≢true c);
        here = λ u h. All-in (λ x. shard_of x.0 ≡ shard) us u may.here (in_filter_parts (is_news log) us u h).0;
        both = λ u h near. absurd (may.away (sym (All-in (λ x. shard_of x.2 ≡ from) us u may.there (in_filter_parts (is_news log) us u h).0) ∙ near));
      }

  module _ (m : Entry) (may : MayBeMerged shard log from number us) (h : merge_of log from number us ≡ Some m) where
    some_records : 0 < length news
    some_records = rw (length-map news (edge_touch log)) at (given_entry log Merged (Merge from number) (map (edge_touch log) news) m h).0

    origin_is_new : IsNewOrigin log (Merge from number)
    origin_is_new = by may.origin
      where
        by : (IsNewOrigin log (Merge from number)) ⊎ All (HasStamp log) us → IsNewOrigin log (Merge from number)
        by (inl new) = new
        by (inr done) = let none : merge_of log from number us ≡ None = none_merged log from number us done in absurd (cc)

    merge_of_follows : CanFollow log m
    merge_of_follows =
        subst (CanFollow log) (given_entry log Merged (Merge from number) (map (edge_touch log) news) m h).1
        (written_follows plain_types shard log Merged (Merge from number) news (records_written plain_types may some_records) origin_is_new)

    merge_of_stays : (types : EdgeTypes) → IsSoundOf types shard log → StaysSound types shard log m
    merge_of_stays types sound = written_stays types shard log Merged (Merge from number) news m sound origin_is_new
        (records_written types may some_records) h

pub merges_follow : (shard : ℕ) (log : List Entry) (from number : ℕ) (us : List EdgeUpdate) (m : Entry) → MergesFollow shard log from number us m
merges_follow shard log from number us m = record {
  follows = λ may h. merge_of_follows shard log from number us m may h;
  stays = λ types sound may h. merge_of_stays shard log from number us m may h types sound;
  done = λ sound may h.
      news_done log (Merge from number) us m ((sound_grows log m).grows sound (merge_of_follows shard log from number us m may h)) h;
}

pub merges_none : (log : List Entry) (from number : ℕ) (us : List EdgeUpdate) → MergesNone log from number us
merges_none log from number us = record {
  done = λ h. not_news log us (nothing_given log Merged (Merge from number) (filter (is_news log) us) h);
  nothing = λ h. none_merged log from number us h;
}

pub jobs_may_be_merged : JobsMayBeMerged
jobs_may_be_merged = record {
  may = λ types log owed may. record {
    one = pairs_are_one_job (job_of types owed.entry) (job_pairs types owed.shard owed.entry may.far.entry may.inverses);
    here = may.far.there;
    there = All-from_in (λ u. shard_of u.2 ≡ owed.shard) (job_of types owed.entry) (λ u h. from_there types owed.shard owed.entry may.far.entry u h);
    away = may.far.away;
    origin = may.origin;
  };
}
