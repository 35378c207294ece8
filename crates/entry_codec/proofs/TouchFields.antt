-- Touches are read as they are spelled.
use Rattle.std.proofs.Common.{◌≡◌, ◌≢◌, ℕ, zero, suc, ◌^◌, ◌<◌, Bool, true, false, not, List, [], ◌∷◌, ◌++◌, length, get_or, Option, Some, None, Ok}
use Rattle.std.proofs.Common.{All, AllPairs, flat_map, refl, sym, ap, subst, ◌∙◌, append-nil, append_assoc, arith, inl, inr}
use Rattle.std.specs.Int.{w16, w32, w64, to_be_bytes}
use Rattle.std.specs.List.{list_any}
use Rattle.std.proofs.lemmas.Bool.{cases_Bool, true≢false}
use Rattle.std.proofs.Math.Seq.{get_or-append_seam}
use Rattle.std.proofs.lemmas.List.{get_or_append_left, length-append}
use Rattle.std.proofs.lemmas.List.Elements.{All-head, All-nil, All-push, All-tail}
use Rattle.std.proofs.lemmas.List.Folds.{list_any_at, list_any_none}
use Rattle.std.proofs.lemmas.List.Quantifiers.{all_pairs_push}
use Rattle.tao_base.proofs.SameKeys.{same_key-Decides}
use Rattle.tao_base.specs.Data.{data_bytes}
use Rattle.tao_base.specs.Keys.{same_key}
use Rattle.tao_base.specs.Spelling.{IsChangeAt, change_bytes, key_bytes, stamp_bytes, touch_bytes, was_bytes}
use Rattle.tao_base.specs.declared.edge.Stamp.{Stamp}
use Rattle.tao_base.specs.declared.entry.Change.{Change}
use Rattle.tao_base.specs.declared.entry.Change.TheVariants.{PutObject, DropObject, SetEdge, CutEdge}
use Rattle.tao_base.specs.declared.entry.Touch.{Touch}
use Rattle.tao_base.specs.declared.id.AType.{AType}
use Rattle.tao_base.specs.declared.id.Key.{Key}
use Rattle.tao_base.specs.declared.id.Key.TheVariants.{Obj, List as Assocs}
use Rattle.entry_codec.specs.Fields.{Rest}
use Rattle.entry_codec.specs.Reading.{spelled_any_key, lies_between, spelled_change, spelled_key, spelled_stamp, spelled_touch, spelled_touches, spelled_was}
use Rattle.entry_codec.specs.Values.{ChangeFits, KeyFits, WasFits}
use Rattle.entry_codec.proofs.Codecs.{IsCodec, Reads, Takes, give_again, give_reads, only_codec, reads_like, then_again, then_reads}
use Rattle.entry_codec.proofs.DataFields.{data_codec}
use Rattle.entry_codec.proofs.Numbers.{between_is, id_codec, is_between, number16, number32, number64, positive_codec, tag_again, tag_reads, wide64}
use Rattle.tao_base.proofs.Tests.{not_true}

-- ---- keys

any_key_codec : IsCodec spelled_any_key key_bytes (λ at key. KeyFits key)
any_key_codec = record {
  takes = λ rest. tag_reads 1 2 rest _ (λ key text. (text ≡ key_bytes key) × KeyFits key)
      (λ mid. then_reads id_codec mid _ _ (λ id last place fits ok. give_reads last (Obj id) _ (refl, ok)))
      (λ mid. then_reads id_codec mid _ _ (λ id1 last place fits ok. then_reads number16 last _ _
      (λ n end place fits lt. give_reads end (Assocs id1 (record { 0 = n })) _ (refl, (ok, lt)))));
  again = again;
}
  where
    again : (rest : Rest) (key : Key) (next : Rest) → KeyFits key → Takes rest (key_bytes key) next → spelled_any_key rest ≡ Ok (key, next)
    again rest (Obj id) next ok t = tag_again 1 2 rest _ 1 (to_be_bytes w64 id) (Obj id) next (omega arith) refl t (λ mid t.
        then_again id_codec mid _ id [] (Obj id) next ok t (λ last place t. give_again last (Obj id) next t))
    again rest (Assocs id1 atype) next ok t = tag_again 1 2 rest _ 2 (to_be_bytes w64 id1 ++ to_be_bytes w16 atype.0) (Assocs id1 atype) next
        (omega arith) refl t (λ mid t.
        then_again id_codec mid _ id1 (to_be_bytes w16 atype.0) (Assocs id1 atype) next ok.0 t (λ last place t.
        then_again number16 last _ atype.0 [] (Assocs id1 atype) next ok.1 t (λ end place t. give_again end (Assocs id1 atype) next t)))

-- whether a touch has the key
abbrev has_key : Key → List Touch → Bool
has_key key touches = list_any (λ touch. same_key touch.key key) touches

pub key_codec : (earlier : List Touch) → IsCodec (spelled_key earlier) key_bytes (λ at key. KeyFits key × (not (has_key key earlier) ≡ true))
key_codec earlier = only_codec (λ key. not (has_key key earlier)) any_key_codec

keys_differ : (key : Key) (touches : List Touch) → not (has_key key touches) ≡ true → (k : ℕ) (d : Touch) → k < length touches → (get_or touches k d).key ≢ key
keys_differ key touches h k d lt same =
    let found = list_any_at (λ touch. same_key touch.key key) touches k d lt ((same_key-Decides (get_or touches k d).key key).1 same) in
    true≢false (sym found ∙ not_true (has_key key touches) h)

differing_keys : (key : Key) (touches : List Touch) → ((k : ℕ) (d : Touch) → k < length touches → (get_or touches k d).key ≢ key)
    → not (has_key key touches) ≡ true
differing_keys key touches differ = ap not (list_any_none (λ touch. same_key touch.key key) touches (λ k d lt.
    elim (cases_Bool (same_key (get_or touches k d).key key)) [
      | inl e ↦ absurd (differ k d lt ((same_key-Decides (get_or touches k d).key key).0 e))
      | inr e ↦
          e
    ]))

-- ---- changes

abbrev StampAllowed : Stamp → Type 0
StampAllowed stamp = (0 < stamp.number) × (stamp.number < 2 ^ 63) × (stamp.shard < 2 ^ 16)

stamp_codec : IsCodec spelled_stamp stamp_bytes (λ at stamp. StampAllowed stamp)
stamp_codec = record {
  takes = λ rest. then_reads (only_codec (lies_between 1 (9223372036854775807)) number64) rest _ (λ stamp text. (text ≡ stamp_bytes stamp) × StampAllowed stamp)
      (λ number mid place fits ok.
      let limits = between_is 1 (9223372036854775807) number ok.1 in
      then_reads number16 mid _ _ (λ shard last place fits lt. give_reads last (record { number = number; shard = shard }) _
      (refl, (omega (arith, limits), omega (arith, limits), lt))));
  again = λ rest stamp next ok t. then_again (only_codec (lies_between 1 (9223372036854775807)) number64) rest _ stamp.number
      (to_be_bytes w16 stamp.shard) stamp next
      (omega (arith, ok.1), is_between 1 (9223372036854775807) stamp.number ok.0 (omega (arith, ok.1))) t
      (λ mid place t. then_again number16 mid _ stamp.shard [] stamp next ok.2 t (λ last place t. give_again last stamp next t));
}

was_codec : IsCodec spelled_was was_bytes (λ at was. WasFits was)
was_codec = record {
  takes = λ rest. tag_reads 0 1 rest _ (λ was text. (text ≡ was_bytes was) × WasFits was)
      (λ mid. give_reads mid None _ (refl, tt))
      (λ mid. then_reads number32 mid _ _ (λ time last place fits lt. give_reads last (Some time) _ (refl, lt)));
  again = again;
}
  where
    again : (rest : Rest) (was : Option ℕ) (next : Rest) → WasFits was → Takes rest (was_bytes was) next → spelled_was rest ≡ Ok (was, next)
    again rest None next ok t = tag_again 0 1 rest _ 0 [] None next (omega arith) refl t (λ mid t. give_again mid None next t)
    again rest (Some time) next ok t = tag_again 0 1 rest _ 1 (to_be_bytes w32 time) (Some time) next (omega arith) refl t (λ mid t.
        then_again number32 mid _ time [] (Some time) next ok t (λ last place t. give_again last (Some time) next t))

-- the change goes with the key
abbrev ChangeAllowed : Key → Change → Type 0
ChangeAllowed key change = IsChangeAt key change × ChangeFits change

object_change_codec : (id : ℕ) → IsCodec (spelled_change (Obj id)) change_bytes (λ at change. ChangeAllowed (Obj id) change)
object_change_codec id = record {
  takes = λ rest. tag_reads 1 2 rest _ (λ change text. (text ≡ change_bytes change) × ChangeAllowed (Obj id) change)
      (λ mid. then_reads number16 mid _ _ (λ otype last place fits lt. then_reads data_codec last _ _ (λ payload end place fits ok.
      give_reads end (PutObject (record { otype = record { 0 = otype }; payload = payload })) _
      (ap (λ t. (1 ∷ to_be_bytes w16 otype) ++ t) (append-nil (data_bytes payload)), (tt, (lt, ok))))))
      (λ mid. give_reads mid DropObject _ (refl, (tt, tt)));
  again = again;
}
  where
    again : (rest : Rest) (change : Change) (next : Rest) → ChangeAllowed (Obj id) change → Takes rest (change_bytes change) next
        → spelled_change (Obj id) rest ≡ Ok (change, next)
    again rest (PutObject object) next ok t = tag_again 1 2 rest _ 1 (to_be_bytes w16 object.otype.0 ++ data_bytes object.payload) (PutObject object) next
        (omega arith) refl t (λ mid t.
        then_again number16 mid _ object.otype.0 (data_bytes object.payload) (PutObject object) next ok.1.0 t (λ last place t.
        then_again data_codec last _ object.payload [] (PutObject object) next ok.1.1
        (subst (λ text. Takes last text next) (sym (append-nil (data_bytes object.payload))) t) (λ end place t.
        give_again end (PutObject object) next t)))
    again rest DropObject next ok t = tag_again 1 2 rest _ 2 [] DropObject next (omega arith) refl t (λ mid t. give_again mid DropObject next t)
    again rest (SetEdge edge was) next ok t = absurd ok.0
    again rest (CutEdge id2 stamp was) next ok t = absurd ok.0

edge_change_codec : (id1 : ℕ) (atype : AType) → IsCodec (spelled_change (Assocs id1 atype)) change_bytes (λ at change. ChangeAllowed (Assocs id1 atype) change)
edge_change_codec id1 atype = record {
  takes = λ rest. tag_reads 3 4 rest _ (λ change text. (text ≡ change_bytes change) × ChangeAllowed (Assocs id1 atype) change)
      (λ mid. then_reads id_codec mid _ _ (λ id2 a place fits id_ok. then_reads number32 a _ _
      (λ time b place fits time_ok. then_reads stamp_codec b _ _ (λ stamp c place fits stamp_ok.
      then_reads was_codec c _ _ (λ was d place fits was_ok. then_reads data_codec d _ _ (λ payload end place fits payload_ok.
      give_reads end (SetEdge (record { id2 = id2; time = time; payload = payload; stamp = stamp }) was) _ (
        ap (λ t. (3 ∷ to_be_bytes w64 id2) ++ to_be_bytes w32 time ++ stamp_bytes stamp ++ was_bytes was ++ t) (append-nil (data_bytes payload)),
        ((stamp_ok.0, stamp_ok.1), (id_ok, time_ok, (omega (arith, stamp_ok.1), stamp_ok.2), was_ok, payload_ok)),
      )))))))
      (λ mid. then_reads id_codec mid _ _ (λ id2 a place fits id_ok. then_reads stamp_codec a _ _
      (λ stamp b place fits stamp_ok. then_reads was_codec b _ _ (λ was end place fits was_ok.
      give_reads end (CutEdge id2 stamp was) _ (
        ap (λ t. (4 ∷ to_be_bytes w64 id2) ++ stamp_bytes stamp ++ t) (append-nil (was_bytes was)),
        ((stamp_ok.0, stamp_ok.1), (id_ok, (omega (arith, stamp_ok.1), stamp_ok.2), was_ok)),
      )))));
  again = again;
}
  where
    again : (rest : Rest) (change : Change) (next : Rest) → ChangeAllowed (Assocs id1 atype) change → Takes rest (change_bytes change) next
        → spelled_change (Assocs id1 atype) rest ≡ Ok (change, next)
    again rest (PutObject object) next ok t = absurd ok.0
    again rest DropObject next ok t = absurd ok.0
    again rest (SetEdge edge was) next ok t = tag_again 3 4 rest _ 3
        (to_be_bytes w64 edge.id2 ++ to_be_bytes w32 edge.time ++ stamp_bytes edge.stamp ++ was_bytes was ++ data_bytes edge.payload) (SetEdge edge was) next
        (omega arith) refl t (λ mid t.
        then_again id_codec mid _ edge.id2 (to_be_bytes w32 edge.time ++ stamp_bytes edge.stamp ++ was_bytes was ++ data_bytes edge.payload)
        (SetEdge edge was) next ok.1.0 t (λ a place t.
        then_again number32 a _ edge.time (stamp_bytes edge.stamp ++ was_bytes was ++ data_bytes edge.payload) (SetEdge edge was) next ok.1.1 t (λ b place t.
        then_again stamp_codec b _ edge.stamp (was_bytes was ++ data_bytes edge.payload) (SetEdge edge was) next (ok.0.0, ok.0.1, ok.1.2.1) t (λ c place t.
        then_again was_codec c _ was (data_bytes edge.payload) (SetEdge edge was) next ok.1.3 t (λ d place t.
        then_again data_codec d _ edge.payload [] (SetEdge edge was) next ok.1.4
        (subst (λ text. Takes d text next) (sym (append-nil (data_bytes edge.payload))) t) (λ end place t.
        give_again end (SetEdge edge was) next t))))))
    again rest (CutEdge id2 stamp was) next ok t = tag_again 3 4 rest _ 4 (to_be_bytes w64 id2 ++ stamp_bytes stamp ++ was_bytes was)
        (CutEdge id2 stamp was) next (omega arith) refl t (λ mid t.
        then_again id_codec mid _ id2 (stamp_bytes stamp ++ was_bytes was) (CutEdge id2 stamp was) next ok.1.0 t (λ a place t.
        then_again stamp_codec a _ stamp (was_bytes was) (CutEdge id2 stamp was) next (ok.0.0, ok.0.1, ok.1.1.1) t (λ b place t.
        then_again was_codec b _ was [] (CutEdge id2 stamp was) next ok.1.2 (subst (λ text. Takes b text next) (sym (append-nil (was_bytes was))) t)
        (λ end place t.
        give_again end (CutEdge id2 stamp was) next t))))

change_codec : (key : Key) → IsCodec (spelled_change key) change_bytes (λ at change. ChangeAllowed key change)
change_codec (Obj id) = object_change_codec id
change_codec (Assocs id1 atype) = edge_change_codec id1 atype

-- ---- touches

pub record TouchAllowed (t : Touch) : Type 0 where
  pub key : KeyFits t.key
  pub version : (0 < t.version) × (t.version < 2 ^ 64)
  pub change : ChangeAllowed t.key t.change

abbrev IsNew : List Touch → Touch → Type 0
IsNew earlier t = not (has_key t.key earlier) ≡ true

touch_codec : (earlier : List Touch) → IsCodec (spelled_touch earlier) touch_bytes (λ at t. TouchAllowed t × IsNew earlier t)
touch_codec earlier = record {
  takes = λ rest. then_reads (key_codec earlier) rest _ (λ t text. (text ≡ touch_bytes t) × (TouchAllowed t × IsNew earlier t)) (λ key a place fits key_ok.
      then_reads (positive_codec w64 (2 ^ 64) wide64) a _ _
      (λ version b place fits version_ok. then_reads (change_codec key) b _ _ (λ change end place fits change_ok.
      give_reads end (record { key = key; change = change; version = version }) _ (
        ap (λ t. key_bytes key ++ (to_be_bytes w64 version ++ t)) (append-nil (change_bytes change))
            ∙ sym (append_assoc (key_bytes key) (to_be_bytes w64 version) (change_bytes change)),
        (record { key = key_ok.0; version = version_ok; change = change_ok }, key_ok.1),
      ))));
  again = λ rest t next ok taken. then_again (key_codec earlier) rest _ t.key (to_be_bytes w64 t.version ++ change_bytes t.change) t next (ok.0.key, ok.1)
      (subst (λ text. Takes rest text next) (append_assoc (key_bytes t.key) (to_be_bytes w64 t.version) (change_bytes t.change)) taken) (λ a place taken.
      then_again (positive_codec w64 (2 ^ 64) wide64) a _ t.version (change_bytes t.change) t next ok.0.version taken (λ b place taken.
      then_again (change_codec t.key) b _ t.change [] t next ok.0.change (subst (λ text. Takes b text next) (sym (append-nil (change_bytes t.change))) taken)
      (λ end place taken.
      give_again end t next taken)));
}

abbrev AreApart : Touch → Touch → Type 0
AreApart s t = s.key ≢ t.key

-- what is read after the earlier touches
pub record TouchesRead (earlier : List Touch) (n : ℕ) (all : List Touch) (text : List ℕ) : Type 0 where
  pub later : List Touch
  pub joined : all ≡ earlier ++ later
  pub count : length later ≡ n
  pub spelled : text ≡ flat_map touch_bytes later
  pub each : All TouchAllowed all
  pub once : AllPairs AreApart all

touches_read : (n : ℕ) (earlier : List Touch) (rest : Rest) → All TouchAllowed earlier → AllPairs AreApart earlier
    → Reads rest (spelled_touches n earlier) (TouchesRead earlier n)
touches_read zero earlier rest each once = give_reads rest earlier _
    (record { later = []; joined = sym (append-nil earlier); count = refl; spelled = refl; each = each; once = once })
touches_read (suc n) earlier rest each once = then_reads (touch_codec earlier) rest _ _ (λ t mid place fits ok.
    reads_like mid (spelled_touches n (earlier ++ t ∷ [])) _ _ (λ all text h. record {
      later = t ∷ h.later;
      joined = h.joined ∙ append_assoc earlier (t ∷ []) h.later;
      count = ap suc h.count;
      spelled = ap (λ more. touch_bytes t ++ more) h.spelled;
      each = h.each;
      once = h.once;
    }) (touches_read n (earlier ++ t ∷ []) mid (All-push TouchAllowed earlier t each ok.0)
    (all_pairs_push AreApart earlier t once (keys_differ t.key earlier ok.1))))

-- a touch is new after those before it
new_from_once : (earlier : List Touch) (t : Touch) (later : List Touch) → AllPairs AreApart (earlier ++ t ∷ later) → IsNew earlier t
new_from_once earlier t later once = differing_keys t.key earlier (λ k d lt same.
    let apart = once k (length earlier) d lt (omega (arith, length-append earlier (t ∷ later))) in
    apart (ap (λ (x : Touch). x.key) (get_or_append_left earlier (t ∷ later) d k lt) ∙ same
    ∙ ap (λ (x : Touch). x.key) (sym (get_or-append_seam earlier t later d))))

touches_again : (later earlier : List Touch) (rest : Rest) (all : List Touch) (next : Rest) → all ≡ earlier ++ later → All TouchAllowed later
    → AllPairs AreApart all
    → Takes rest (flat_map touch_bytes later) next → spelled_touches (length later) earlier rest ≡ Ok (all, next)
touches_again [] earlier rest all next joined each once t = rw (joined ∙ append-nil earlier) (give_again rest earlier next t)
touches_again (x ∷ later) earlier rest all next joined each once t =
    then_again (touch_codec earlier) rest _ x (flat_map touch_bytes later) all next
    (All-head TouchAllowed x later each, new_from_once earlier x later (subst (AllPairs AreApart) joined once)) t (λ mid place t.
    touches_again later (earlier ++ x ∷ []) mid all next (joined ∙ sym (append_assoc earlier (x ∷ []) later)) (All-tail TouchAllowed x later each) once t)

pub record TouchesAllowed (n : ℕ) (touches : List Touch) : Type 0 where
  pub count : length touches ≡ n
  pub each : All TouchAllowed touches
  pub once : AllPairs AreApart touches

pub touches_codec : (n : ℕ) → IsCodec (spelled_touches n []) (flat_map touch_bytes) (λ at touches. TouchesAllowed n touches)
touches_codec n = record {
  takes = λ rest. reads_like rest (spelled_touches n []) _ _ (λ touches text h.
      (h.spelled ∙ ap (flat_map touch_bytes) (sym h.joined), record { count = ap length h.joined ∙ h.count; each = h.each; once = h.once }))
      (touches_read n [] rest (All-nil TouchAllowed) (λ i j d lt below. absurd (omega arith)));
  again = λ rest touches next ok t. subst (λ k. spelled_touches k [] rest ≡ Ok (touches, next)) ok.count
      (touches_again touches [] rest touches next refl ok.each ok.once t);
}
