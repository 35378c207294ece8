-- In a sound log versions count, `was` is the time before, and stamps rise.
use Rattle.std.proofs.Common.{◌≡◌, ℕ, ◌<◌, ◌+◌, ◌-◌, true, false, List, [], ◌∷◌, ◌++◌, append-nil, append_assoc, length, get_or, take, drop, refl}
use Rattle.std.proofs.Common.{sym, ap, subst, ◌∙◌, arith}
use Rattle.std.proofs.lemmas.Bool.Decides.{nat_tests}
use Rattle.std.proofs.lemmas.List.{take_more}
use Rattle.std.proofs.lemmas.List.Elements.{All-contains}
use Rattle.std.proofs.lemmas.Option.{slice_get_within, get_or_from_slice_get}
use Rattle.std.proofs.Math.Seq.{take-add, take-append_seam}
use Rattle.std.specs.Option.{option_or}
use Rattle.std.specs.Prelude.{Contains, IfSome, Option, Some, None, slice_get}
use Rattle.tao_base.specs.Stamps.{is_earlier, stamp_of}
use Rattle.tao_base.specs.declared.edge.EdgeState.{EdgeState}
use Rattle.tao_base.specs.declared.edge.Stamp.{Stamp}
use Rattle.tao_base.specs.declared.entry.Entry.{Entry}
use Rattle.tao_base.specs.declared.entry.Touch.{Touch}
use Rattle.tao_base.specs.declared.id.AType.{AType}
use Rattle.tao_base.specs.declared.id.Id.{Id}
use Rattle.graph_model.proofs.EntryLemmas.{applies_touches}
use Rattle.graph_model.proofs.Members.{contains_filter_map_parts}
use Rattle.graph_model.proofs.Sound.{last_follows, sound_take}
use Rattle.graph_model.proofs.Updates.{edge_record-append, record_of_update, update_of_record}
use Rattle.graph_model.specs.Edges.{edge_record}
use Rattle.graph_model.specs.Log.{version}
use Rattle.graph_model.specs.Records.{HasStamp, is_later}
use Rattle.graph_model.specs.SoundLaws.{SoundTouchesTell, StampsRise, StampsStay}
use Rattle.graph_model.specs.Soundness.{CanFollow, EdgeUpdate, IsSound, TouchFollows, update_at, updates_of}

-- the beginning that ends with the entry at a place
pub take_with : (log : List Entry) (n : ℕ) (e : Entry) → slice_get log n ≡ Some e → take (n + 1) log ≡ take n log ++ e ∷ []
take_with log n e h =
    take_more log n e (slice_get_within log n e h) ∙ ap (λ x. take n log ++ x ∷ []) (get_or_from_slice_get log n e e h)

pub touches_tell : (log : List Entry) → SoundTouchesTell log
touches_tell log sound n e h =
    let follows = sound n e h in
    let cut = take_with log n e h in
    record {
      versions = λ k d lt. (follows.touches k d lt).version_is ∙ sym ((applies_touches (take n log) e).each follows.once k d lt).version_is
          ∙ ap (λ l. version l (get_or e.touches k d).key) (sym cut);
      times = λ k d lt. (follows.touches k d lt).was_is;
    }

-- a record that an entry writes has a greater stamp than the one before
update_rises : (log : List Entry) (e : Entry) (u : EdgeUpdate) → CanFollow log e → Contains (updates_of e) u → is_later u.3 (edge_record log u.0 u.1 u.2) ≡ true
update_rises log e u follows h =
    let found = contains_filter_map_parts (λ (t : Touch). update_at t.key t.change) e.touches u h in
    let touch = All-contains (TouchFollows log e.origin) e.touches found.0 follows.touches found.1 in
    let rises = subst (λ o. IfSome o (λ v. IfSome (edge_record log v.0 v.1 v.2) (λ old. is_earlier (stamp_of old) (stamp_of v.3) ≡ true))) found.2
    touch.stamp_rises in
    later_than (edge_record log u.0 u.1 u.2) u.3 rises
  where
    later_than : (found : Option EdgeState) (s : EdgeState) → IfSome found (λ old. is_earlier (stamp_of old) (stamp_of s) ≡ true) → is_later s found ≡ true
    later_than None s h = refl
    later_than (Some old) s h = h

-- what is no later than a record is no later than one that is later still
still_no_later : (found : Option EdgeState) (s new : EdgeState) → is_later s found ≡ false → is_later new found ≡ true
    → is_earlier (stamp_of new) (stamp_of s) ≡ false
still_no_later None s new h k = absurd (cc)
still_no_later (Some old) s new h k = grind (arith, nat_tests)

pub never_before_itself : (x : Stamp) → is_earlier x x ≡ false
never_before_itself x = grind (arith, nat_tests)

-- one more entry keeps each stamp that the log has reached
stays_once : (log : List Entry) (e : Entry) (u : EdgeUpdate) → IsSound (log ++ e ∷ []) → HasStamp log u → HasStamp (log ++ e ∷ []) u
stays_once log e u sound h = by_record (edge_record (e ∷ []) u.0 u.1 u.2) refl
  where
    by_record : (o : Option EdgeState) → edge_record (e ∷ []) u.0 u.1 u.2 ≡ o → is_later u.3 (edge_record (log ++ e ∷ []) u.0 u.1 u.2) ≡ false
    by_record None q = ap (is_later u.3) (edge_record-append log e u.0 u.1 u.2 ∙ ap (λ o. option_or o (edge_record log u.0 u.1 u.2)) q) ∙ h
    by_record (Some new) q =
        let follows = last_follows log e sound in
        let written = update_of_record e u.0 u.1 u.2 new follows.once q in
        ap (is_later u.3) (edge_record-append log e u.0 u.1 u.2 ∙ ap (λ o. option_or o (edge_record log u.0 u.1 u.2)) q)
        ∙ still_no_later (edge_record log u.0 u.1 u.2) u.3 new h (update_rises log e (u.0, u.1, u.2, new) follows written)

stays_all : (log more : List Entry) (u : EdgeUpdate) → IsSound (log ++ more) → HasStamp log u → HasStamp (log ++ more) u
stays_all log [] u sound h = subst (λ l. HasStamp l u) (sym (append-nil log)) h
stays_all log (e ∷ more) u sound h =
    let joined : (log ++ e ∷ []) ++ more ≡ log ++ e ∷ more = append_assoc log (e ∷ []) more in
    let whole : IsSound ((log ++ e ∷ []) ++ more) = subst IsSound (sym joined) sound in
    let begun : IsSound (log ++ e ∷ []) = (let k = sound_take ((log ++ e ∷ []) ++ more) (length (log ++ e ∷ [])) whole in
    rw (take-append_seam (log ++ e ∷ []) more) at k) in
    subst (λ l. HasStamp l u) joined (stays_all (log ++ e ∷ []) more u whole (stays_once log e u begun h))

reached_once : (log : List Entry) (e : Entry) (u : EdgeUpdate) → IsSound (log ++ e ∷ []) → Contains (updates_of e) u → HasStamp (log ++ e ∷ []) u
reached_once log e u sound h =
    ap (is_later u.3) (edge_record-append log e u.0 u.1 u.2
    ∙ ap (λ o. option_or o (edge_record log u.0 u.1 u.2)) (record_of_update e u.0 u.1 u.2 u.3 (last_follows log e sound).once h))
    ∙ never_before_itself (stamp_of u.3)

pub stamps_stay : (log : List Entry) → StampsStay log
stamps_stay log = record { stays = stays_all log; reached = reached_once log }

-- a stamp that is reached is earlier than that of a record that is later than the log's
no_later_than_found : (found : Option EdgeState) (old new : EdgeState) → is_later old found ≡ false → is_later new found ≡ true
    → is_earlier (stamp_of old) (stamp_of new) ≡ true
no_later_than_found None old new h k = absurd (cc)
no_later_than_found (Some there) old new h k = grind (arith, nat_tests)

rise : (log : List Entry) → IsSound log → (m n : ℕ) (earlier later : Entry) → m < n → slice_get log m ≡ Some earlier → slice_get log n ≡ Some later
    → (id1 : Id) (atype : AType) (id2 : Id) (old new : EdgeState) → Contains (updates_of earlier) (id1, atype, id2, old)
    → Contains (updates_of later) (id1, atype, id2, new)
    → is_earlier (stamp_of old) (stamp_of new) ≡ true
rise log sound m n earlier later lt at_m at_n id1 atype id2 old new h k =
    let first : take n log ≡ take (m + 1) log ++ take (n - (m + 1)) (drop (m + 1) log) =
    (let e : n ≡ m + 1 + (n - (m + 1)) = omega arith in ap (λ i. take i log) e ∙ take-add (m + 1) (n - (m + 1)) log) in
    let cut : take (m + 1) log ≡ take m log ++ earlier ∷ [] = take_with log m earlier at_m in
    let reached : HasStamp (take (m + 1) log) (id1, atype, id2, old) =
    subst (λ l. HasStamp l (id1, atype, id2, old)) (sym cut)
    (reached_once (take m log) earlier (id1, atype, id2, old) (subst IsSound cut (sound_take log (m + 1) sound)) h) in
    let there : HasStamp (take n log) (id1, atype, id2, old) =
    subst (λ l. HasStamp l (id1, atype, id2, old)) (sym first)
    (stays_all (take (m + 1) log) (take (n - (m + 1)) (drop (m + 1) log)) (id1, atype, id2, old) (subst IsSound first (sound_take log n sound)) reached) in
    no_later_than_found (edge_record (take n log) id1 atype id2) old new there (update_rises (take n log) later (id1, atype, id2, new) (sound n later at_n) k)

pub stamps_rise : (log : List Entry) → StampsRise log
stamps_rise log = record { rise = rise log }
