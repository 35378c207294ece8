-- A merge joins the records of its job to those of the log.
use Rattle.std.proofs.Common.{◌≡◌, ℕ, ◌≢◌, true, false, cond, List, [], ◌∷◌, ◌++◌, append-nil, map, inl, inr, refl, sym, ap, ◌∙◌, subst}
use Rattle.std.proofs.lemmas.Bool.{both_ways, cases_Bool}
use Rattle.std.specs.Option.{option_or}
use Rattle.std.specs.Prelude.{AllPairs, Option, Some, None, filter, filter_map, option_to_list}
use Rattle.tao_base.specs.EdgeTypes.{EdgeTypes, InversesMatch}
use Rattle.tao_base.specs.Stamps.{stamp_of, is_earlier}
use Rattle.tao_base.specs.declared.id.Id.{Id}
use Rattle.tao_base.specs.declared.id.AType.{AType}
use Rattle.tao_base.specs.declared.id.Key.TheVariants.{List as Assocs}
use Rattle.tao_base.specs.declared.edge.EdgeState.{EdgeState}
use Rattle.tao_base.specs.declared.entry.Entry.{Entry}
use Rattle.tao_base.specs.declared.entry.Kind.TheVariants.{Merge as Merged}
use Rattle.write_model.proofs.BothEnds.{same_edge-parts, same_edge-true, update_same, when_some}
use Rattle.write_model.proofs.FarJobs.{JobPair, job_pairs}
use Rattle.graph_model.proofs.Members.{IsIn, PairsByRecursion, contains_from_in, in_filter, in_filter_map, in_filter_map_parts, in_filter_parts}
use Rattle.graph_model.proofs.Members.{in_from_contains, pairs_filter, pairs_filter_map, pairs_weaker}
use Rattle.write_model.proofs.Merging.{merge_origin, merge_updates, nothing_given}
use Rattle.graph_model.proofs.Updates.{edge_record-append, record_of_update, update_of_record}
use Rattle.write_model.proofs.Written.{AreApart, given_entry, keys_apart}
use Rattle.graph_model.specs.Edges.{edge_record}
use Rattle.write_model.specs.MergeLaws.{IsFarEntry, join_all, merged, records_at}
use Rattle.graph_model.specs.Records.{is_later, is_news, join}
use Rattle.write_model.specs.Merges.{JobSource, job_of, merge_entry}
use Rattle.graph_model.specs.Soundness.{EdgeUpdate, updates_of}
use Rattle.write_model.specs.Writes.{edge_touch, same_edge, when}

join-is : (found : Option EdgeState) (s : EdgeState) → join found (Some s) ≡ cond (is_later s found) (Some s) found
join-is None s = refl
join-is (Some old) s = elim (cases_Bool (is_earlier (stamp_of old) (stamp_of s))) [ inl k ↦ rw k refl | inr k ↦ rw k refl ]

-- where at most one record is given, and it is gained exactly if it is later, the gain is the join
join_one : (gained found : Option EdgeState) (states : List EdgeState) → PairsByRecursion (λ x y. ⊥) states
    → ((s : EdgeState) → gained ≡ Some s → IsIn s states × (is_later s found ≡ true))
    → ((s : EdgeState) → IsIn s states → is_later s found ≡ true → gained ≡ Some s)
    → option_or gained found ≡ join_all found states
join_one None found [] p f g = refl
join_one (Some s) found [] p f g = absurd (f s refl).0
join_one gained found (s ∷ t ∷ ss) p f g = absurd p.0.0
join_one gained found (s ∷ []) p f g = elim (cases_Bool (is_later s found)) [
  | inl k ↦ ap (λ o. option_or o found) (g s (inl refl) k) ∙ sym (join-is found s ∙ (rw k refl))
  | inr k ↦ none_gained gained f k ∙ sym (join-is found s ∙ (rw k refl))
]
  where
    none_gained : (o : Option EdgeState) → ((x : EdgeState) → o ≡ Some x → IsIn x (s ∷ []) × (is_later x found ≡ true)) → is_later s found ≡ false
        → option_or o found ≡ found
    none_gained None h k = refl
    none_gained (Some x) h k = absurd (other (h x refl).0 (h x refl).1)
      where
        other : IsIn x (s ∷ []) → is_later x found ≡ true → ⊥
        other (inl e) later = both_ways (is_later s found) k (ap (λ y. is_later y found) e ∙ later)
        other (inr e) later = e

-- the entry that a merge gives, if it gives one
module _ (types : EdgeTypes) (owed : JobSource) (shard : ℕ) (far : IsFarEntry types owed.shard shard owed.entry) (match : InversesMatch types)
    (log : List Entry)
  where
    abbrev news : List EdgeUpdate
    news = filter (is_news log) (job_of types owed.entry)

    job_apart : PairsByRecursion AreApart (job_of types owed.entry)
    job_apart = pairs_weaker JobPair AreApart (job_of types owed.entry) (λ u v p. p.1) (job_pairs types owed.shard owed.entry far.entry match)

    once : (m : Entry) → merge_entry types log owed ≡ Some m → AllPairs (λ s t. s.key ≢ t.key) m.touches
    once m h =
        subst (λ x. AllPairs (λ s t. s.key ≢ t.key) x.touches) (given_entry log Merged (merge_origin owed) (map (edge_touch log) news) m h).1
        (keys_apart log news (pairs_filter AreApart (is_news log) (job_of types owed.entry) job_apart))

    gained_in : (o : Option Entry) → merge_entry types log owed ≡ o → (id1 : Id) (atype : AType) (id2 : Id) (s : EdgeState)
        → edge_record (option_to_list o) id1 atype id2 ≡ Some s → IsIn (id1, atype, id2, s) news
    gained_in None h id1 atype id2 s k = absurd (cc)
    gained_in (Some m) h id1 atype id2 s k =
        subst (IsIn (id1, atype, id2, s)) (merge_updates types log owed m h)
        (in_from_contains (updates_of m) (id1, atype, id2, s) (update_of_record m id1 atype id2 s (once m h) k))

    in_gained : (o : Option Entry) → merge_entry types log owed ≡ o → (id1 : Id) (atype : AType) (id2 : Id) (s : EdgeState)
        → IsIn (id1, atype, id2, s) news → edge_record (option_to_list o) id1 atype id2 ≡ Some s
    in_gained None h id1 atype id2 s k = absurd (subst (IsIn (id1, atype, id2, s)) (nothing_given log Merged (merge_origin owed) news h) k)
    in_gained (Some m) h id1 atype id2 s k =
        record_of_update m id1 atype id2 s (once m h)
        (contains_from_in (updates_of m) (id1, atype, id2, s) (subst (IsIn (id1, atype, id2, s)) (sym (merge_updates types log owed m h)) k))

    appended : (o : Option Entry) (id1 : Id) (atype : AType) (id2 : Id)
        → edge_record (log ++ option_to_list o) id1 atype id2 ≡ option_or (edge_record (option_to_list o) id1 atype id2) (edge_record log id1 atype id2)
    appended None id1 atype id2 = ap (λ l. edge_record l id1 atype id2) (append-nil log)
    appended (Some m) id1 atype id2 = edge_record-append log m id1 atype id2

    at_edge : (id1 : Id) (atype : AType) (id2 : Id) (u : EdgeUpdate) (s : EdgeState) → when (same_edge (id1, atype, id2, u.3) u) (Some u.3) ≡ Some s
        → u ≡ (id1, atype, id2, s)
    at_edge id1 atype id2 u s h =
        let found = when_some (same_edge (id1, atype, id2, u.3) u) (Some u.3) s h in
        let there : EdgeUpdate = (id1, atype, id2, s) in
        let state : u.3 ≡ s = cc in
        let same = same_edge-parts (id1, atype, id2, u.3) u found.0 in
        update_same u there (sym same.0) (sym same.1) (sym same.2) state

    -- the record after the merge of a job
    pub record_merged : (id1 : Id) (atype : AType) (id2 : Id)
        → edge_record (merged types log owed) id1 atype id2
        ≡ join_all (edge_record log id1 atype id2) (records_at id1 atype id2 (job_of types owed.entry))
    record_merged id1 atype id2 =
        let o : Option Entry = merge_entry types log owed in
        let at : EdgeUpdate → Option EdgeState = λ u. when (same_edge (id1, atype, id2, u.3) u) (Some u.3) in
        let edge : EdgeState → EdgeUpdate = λ s. (id1, atype, id2, s) in
        appended o id1 atype id2
        ∙ join_one (edge_record (option_to_list o) id1 atype id2) (edge_record log id1 atype id2) (filter_map at (job_of types owed.entry))
        (pairs_filter_map AreApart (λ x y. ⊥) at (job_of types owed.entry)
        (λ u v s t apart h k. apart (ap (λ w. Assocs w.0 w.1) (at_edge id1 atype id2 u s h) ∙ ap (λ w. Assocs w.0 w.1) (sym (at_edge id1 atype id2 v t k))))
        job_apart)
        (λ s h.
        let kept = in_filter_parts (is_news log) (job_of types owed.entry) (edge s) (gained_in o refl id1 atype id2 s h) in
        let found : at (edge s) ≡ Some s = ap (λ b. when b (Some s)) (same_edge-true (edge s) (edge s) refl refl refl) in
        (in_filter_map at (job_of types owed.entry) (edge s) s kept.0 found, kept.1))
        (λ s h later.
        let made = in_filter_map_parts at (job_of types owed.entry) s h in
        let there : IsIn (edge s) (job_of types owed.entry) = subst (λ u. IsIn u (job_of types owed.entry)) (at_edge id1 atype id2 made.0 s made.2) made.1 in
        in_gained o refl id1 atype id2 s (in_filter (is_news log) (job_of types owed.entry) (edge s) there later))
