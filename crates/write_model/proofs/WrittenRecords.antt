-- The records that the entries of sound logs have written.
use Rattle.std.proofs.Common.{◌≡◌, ℕ, zero, suc, ◌+◌, false, List, [], ◌∷◌, ◌++◌, take, drop, inl, refl, sym, ap, ◌∙◌, subst, arith}
use Rattle.std.proofs.lemmas.Bool.{not-true}
use Rattle.std.proofs.lemmas.List.{take-append-drop}
use Rattle.std.specs.Option.{option_or}
use Rattle.std.proofs.lemmas.List.Elements.{All-contains}
use Rattle.std.specs.Prelude.{Contains, IfSome, Option, Some, None, length, not, ◌<◌, true}
use Rattle.tao_base.specs.EdgeTypes.{EdgeTypes}
use Rattle.tao_base.specs.Stamps.{is_earlier, stamp_of}
use Rattle.tao_base.specs.declared.edge.EdgeState.{EdgeState}
use Rattle.tao_base.specs.declared.entry.Entry.{Entry}
use Rattle.tao_base.specs.declared.entry.Touch.{Touch}
use Rattle.tao_base.specs.declared.id.AType.{AType}
use Rattle.tao_base.specs.declared.id.Id.{Id}
use Rattle.write_model.proofs.BothEnds.{IsOtherEnd, other_end_is, when_some}
use Rattle.graph_model.proofs.Members.{IsIn, contains_filter_map_parts, contains_from_in, in_filter_map_parts, in_from_contains}
use Rattle.graph_model.proofs.Rising.{stamps_stay, take_with}
use Rattle.graph_model.proofs.Lists.{snoc_ind}
use Rattle.graph_model.proofs.Sound.{before_last, last_follows, sound_take}
use Rattle.graph_model.proofs.Updates.{edge_record-append, update_of_record}
use Rattle.write_model.proofs.Growing.{entry_at-last, entry_at-more}
use Rattle.graph_model.specs.Edges.{edge_record}
use Rattle.graph_model.specs.Records.{HasStamp, is_later, is_news}
use Rattle.write_model.specs.Merges.{job_of}
use Rattle.graph_model.specs.Log.{entry_at}
use Rattle.graph_model.specs.Soundness.{CanFollow, EdgeUpdate, IsSound, TouchFollows, other_end, update_at, updates_of}
use Rattle.write_model.specs.Writes.{is_near, when}

-- the first of some
pub first_of : {X : Type 0} (xs : List X) → 0 < length xs → (x : X) × IsIn x xs
first_of [] h = absurd (omega (arith, h))
first_of (x ∷ xs) h = (x, inl refl)

-- what an entry of a log wrote has been reached
pub written_stamp : (log : List Entry) → IsSound log → (position : ℕ) (e : Entry) (u : EdgeUpdate) → entry_at log position ≡ Some e → Contains (updates_of e) u
    → HasStamp log u
written_stamp log sound zero e u h k = absurd (cc)
written_stamp log sound (suc n) e u h k =
    let cut : take (n + 1) log ≡ take n log ++ e ∷ [] = take_with log n e h in
    let reached : HasStamp (take (n + 1) log) u =
    subst (λ l. HasStamp l u) (sym cut) ((stamps_stay (take n log)).reached e u (subst IsSound cut (sound_take log (n + 1) sound)) k) in
    let whole : take (n + 1) log ++ drop (n + 1) log ≡ log = take-append-drop (n + 1) log in
    subst (λ l. HasStamp l u) whole ((stamps_stay (take (n + 1) log)).stays (drop (n + 1) log) u (subst IsSound (sym whole) sound) reached)

-- a record that an entry writes is later than the one before
pub is_news_here : (log : List Entry) (e : Entry) (u : EdgeUpdate) → CanFollow log e → Contains (updates_of e) u → is_news log u ≡ true
is_news_here log e u follows h =
    let found = contains_filter_map_parts (λ (t : Touch). update_at t.key t.change) e.touches u h in
    let touch = All-contains (TouchFollows log e.origin) e.touches found.0 follows.touches found.1 in
    let rises = subst (λ o. IfSome o (λ v. IfSome (edge_record log v.0 v.1 v.2) (λ old. is_earlier (stamp_of old) (stamp_of v.3) ≡ true))) found.2
    touch.stamp_rises in
    later_than (edge_record log u.0 u.1 u.2) rises
  where
    later_than : (found : Option EdgeState) → IfSome found (λ old. is_earlier (stamp_of old) (stamp_of u.3) ≡ true) → is_later u.3 found ≡ true
    later_than None h = refl
    later_than (Some old) h = h

-- whether a record was reached is a matter of its stamp alone
pub same_stamp_there : (log : List Entry) (u : EdgeUpdate) (state : EdgeState) → stamp_of u.3 ≡ stamp_of state → HasStamp log (u.0, u.1, u.2, state)
    → HasStamp log u
same_stamp_there log u state same h = by_record (edge_record log u.0 u.1 u.2) h
  where
    by_record : (found : Option EdgeState) → is_later state found ≡ false → is_later u.3 found ≡ false
    by_record None h = absurd (cc)
    by_record (Some old) h = ap (is_earlier (stamp_of old)) same ∙ h

-- the entry that wrote a record that stands
pub record WroteIt (log : List Entry) (u : EdgeUpdate) : Type 0 where
  pub position : ℕ
  pub entry : Entry
  pub stands : entry_at log position ≡ Some entry
  pub writes : Contains (updates_of entry) u

pub wrote_it : (id1 : Id) (atype : AType) (id2 : Id) (state : EdgeState) (log : List Entry) → IsSound log → edge_record log id1 atype id2 ≡ Some state
    → WroteIt log (id1, atype, id2, state)
wrote_it id1 atype id2 state = snoc_ind (λ xs. IsSound xs → edge_record xs id1 atype id2 ≡ Some state → WroteIt xs (id1, atype, id2, state))
    (λ sound h. absurd (cc)) step
  where
    step : (xs : List Entry) (e : Entry) → (IsSound xs → edge_record xs id1 atype id2 ≡ Some state → WroteIt xs (id1, atype, id2, state))
        → IsSound (xs ++ e ∷ []) → edge_record (xs ++ e ∷ []) id1 atype id2 ≡ Some state → WroteIt (xs ++ e ∷ []) (id1, atype, id2, state)
    step xs e ih sound h = by_last (edge_record (e ∷ []) id1 atype id2) refl
      where
        by_last : (o : Option EdgeState) → edge_record (e ∷ []) id1 atype id2 ≡ o → WroteIt (xs ++ e ∷ []) (id1, atype, id2, state)
        by_last None q =
            let before : edge_record xs id1 atype id2 ≡ Some state = ap (λ o. option_or o (edge_record xs id1 atype id2)) (sym q)
            ∙ sym (edge_record-append xs e id1 atype id2) ∙ h in
            let w = ih (before_last xs e sound) before in
            record { position = w.position; entry = w.entry; stands = entry_at-more xs (e ∷ []) w.position w.entry w.stands; writes = w.writes }
        by_last (Some new) q =
            let now : Some new ≡ Some state = ap (λ o. option_or o (edge_record xs id1 atype id2)) (sym q) ∙ sym (edge_record-append xs e id1 atype id2) ∙ h in
            record {
              position = length xs + 1;
              entry = e;
              stands = entry_at-last xs e;
              writes = update_of_record e id1 atype id2 state (last_follows xs e sound).once (q ∙ now);
            }

-- the record of an entry whose far end a record of its job is
pub record IsFarEndOf (types : EdgeTypes) (e : Entry) (u : EdgeUpdate) : Type 0 where
  pub of : EdgeUpdate
  pub writes : Contains (updates_of e) of
  pub other : IsOtherEnd types of u
  pub far : is_near of ≡ false

pub job_source : (types : EdgeTypes) (e : Entry) (u : EdgeUpdate) → Contains (job_of types e) u → IsFarEndOf types e u
job_source types e u h =
    let made = in_filter_map_parts (λ w. when (not (is_near w)) (other_end types w)) (updates_of e) u (in_from_contains (job_of types e) u h) in
    let found = when_some (not (is_near made.0)) (other_end types made.0) u made.2 in
    record {
      of = made.0;
      writes = contains_from_in (updates_of e) made.0 made.1;
      other = other_end_is types made.0 u found.1;
      far = not-true (is_near made.0) found.0;
    }
