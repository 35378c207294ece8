-- Entries are read as they are spelled, and no spelling begins another.
use Rattle.std.proofs.Common.{◌≡◌, ◌==◌, ℕ, Bool, true, false, ◌^◌, ◌<◌, ◌≤◌, List, [], ◌∷◌, ◌++◌, length, Result, Ok, Err, IfOk, flat_map, refl}
use Rattle.std.proofs.Common.{sym, ap, subst, ◌∙◌, append-nil, arith}
use Rattle.std.specs.Int.{w64, to_be_bytes}
use Rattle.std.proofs.lemmas.Bool.{eqb-true, true≢false}
use Rattle.std.proofs.lemmas.List.Elements.{All-weaker}
use Rattle.tao_base.specs.Spelling.{IsChangeAt, IsSpelled, kind_byte, origin_bytes, spelling, touch_bytes}
use Rattle.tao_base.specs.declared.entry.Entry.{Entry}
use Rattle.tao_base.specs.declared.entry.Kind.{Kind}
use Rattle.tao_base.specs.declared.entry.Origin.{Origin}
use Rattle.tao_base.specs.declared.entry.Touch.{Touch}
use Rattle.entry_codec.specs.Fields.{AreBytes, Rest, ended, if_ended}
use Rattle.entry_codec.specs.Gives.{Answers}
use Rattle.entry_codec.specs.Reading.{decoded, spelled_entry}
use Rattle.entry_codec.specs.declared.refusal.EntryRefusal.{EntryRefusal}
use Rattle.entry_codec.specs.Values.{EntryFits, TouchFits}
use Rattle.entry_codec.proofs.Codecs.{IsCodec, Takes, done, give_again, give_reads, ok_is, then_again, then_reads}
use Rattle.entry_codec.proofs.Numbers.{OriginAllowed, count_codec, kind_codec, origin_codec, positive_codec, wide64}
use Rattle.entry_codec.proofs.TouchFields.{TouchAllowed, TouchesAllowed, touches_codec}

abbrev IsAllowed : Entry → Type 0
IsAllowed e = EntryFits e × IsSpelled e

allowed_entry : (position : ℕ) (kind : Kind) (origin : Origin) (count : ℕ) (touches : List Touch) → (0 < position) × (position < 2 ^ 64)
    → OriginAllowed kind origin → (1 ≤ count) × (count ≤ 4) → TouchesAllowed count touches
    → IsAllowed (record { position = position; kind = kind; origin = origin; touches = touches })
allowed_entry position kind origin count touches position_ok origin_ok count_ok ok = (
  record {
    position = position_ok.1;
    origin = origin_ok.1;
    touches = All-weaker TouchAllowed TouchFits (λ t h. (h.key, h.version.1, h.change.1)) touches ok.each;
  },
  record {
    position = position_ok.0;
    origin = origin_ok.0;
    some = omega (arith, ok.count, count_ok);
    few = omega (arith, ok.count, count_ok);
    versions = All-weaker TouchAllowed (λ t. 0 < t.version) (λ t h. h.version.0) touches ok.each;
    changes = All-weaker TouchAllowed (λ t. IsChangeAt t.key t.change) (λ t h. h.change.0) touches ok.each;
    once = ok.once;
  },
)

touches_allowed : (e : Entry) → IsAllowed e → TouchesAllowed (length e.touches) e.touches
touches_allowed e ok = record {
  count = refl;
  each = λ k d lt.
      let fits = ok.0.touches k d lt in
      record { key = fits.0; version = (ok.1.versions k d lt, fits.1); change = (ok.1.changes k d lt, fits.2) };
  once = ok.1.once;
}

pub entry_codec : IsCodec spelled_entry spelling (λ at e. IsAllowed e)
entry_codec = record {
  takes = λ rest. then_reads (positive_codec w64 (2 ^ 64) wide64) rest _ (λ e text. (text ≡ spelling e) × IsAllowed e) (λ position a place fits position_ok.
      then_reads kind_codec a _ _ (λ kind b place fits kind_ok. then_reads (origin_codec kind) b _ _
      (λ origin c place fits origin_ok. then_reads count_codec c _ _ (λ count d place fits count_ok.
      then_reads (touches_codec count) d _ _ (λ touches end place fits touches_ok.
      give_reads end (record { position = position; kind = kind; origin = origin; touches = touches }) _ (
        ap (λ t. to_be_bytes w64 position ++ (kind_byte kind ∷ origin_bytes origin) ++ (count ∷ t)) (append-nil (flat_map touch_bytes touches))
            ∙ ap (λ n. to_be_bytes w64 position ++ (kind_byte kind ∷ origin_bytes origin) ++ (n ∷ flat_map touch_bytes touches)) (sym touches_ok.count),
        allowed_entry position kind origin count touches position_ok origin_ok count_ok touches_ok,
      ))))));
  again = λ rest e next ok t. then_again (positive_codec w64 (2 ^ 64) wide64) rest _ e.position _ e next (ok.1.position, ok.0.position) t (λ a place t.
      then_again kind_codec a _ e.kind (origin_bytes e.origin ++ (length e.touches ∷ flat_map touch_bytes e.touches)) e next tt t (λ b place t.
      then_again (origin_codec e.kind) b _ e.origin (length e.touches ∷ flat_map touch_bytes e.touches) e next (ok.1.origin, ok.0.origin) t (λ c place t.
      then_again count_codec c _ (length e.touches) (flat_map touch_bytes e.touches) e next (ok.1.some, ok.1.few) t (λ d place t.
      then_again (touches_codec (length e.touches)) d _ e.touches [] e next (touches_allowed e ok)
      (subst (λ text. Takes d text next) (sym (append-nil (flat_map touch_bytes e.touches))) t) (λ end place t.
      give_again end e next t)))));
}

abbrev all_of : List ℕ → Rest
all_of bytes = record { at = 0; bytes = bytes }

whole_ok : {X : Type 0} (x y : X) (place : ℕ) (bytes : List ℕ) → if_ended x place bytes ≡ Ok y → (x ≡ y) × (bytes ≡ [])
whole_ok x y place [] e = (cc, refl)
whole_ok x y place (b ∷ bytes) e = absurd cc

ended_ok : {X : Type 0} (read : Result (X × Rest) ℕ) (x : X) → ended read ≡ Ok x → (next : Rest) × (read ≡ Ok (x, next)) × (next.bytes ≡ [])
ended_ok (Err at) x e = absurd cc
ended_ok (Ok read) x e = let w = whole_ok read.0 x read.1.at read.1.bytes e in (read.1, ap (λ y. done (y, read.1)) w.0, w.1)

is_nil : (bytes : List ℕ) → (length bytes == 0) ≡ true → bytes ≡ []
is_nil [] e = refl
is_nil (b ∷ bytes) e = let none = eqb-true _ _ e in absurd (omega (arith, none))

whole_refused : {X : Type 0} (x : X) (place : ℕ) (bytes : List ℕ) → (length bytes == 0) ≡ false → if_ended x place bytes ≡ Err place
whole_refused x place [] e = absurd (true≢false e)
whole_refused x place (b ∷ bytes) e = refl

-- an entry is read, and nothing is left
pub read_to_end : (bytes : List ℕ) (rest next : Rest) (e : Entry) (at_end : Bool) → rest ≡ all_of bytes → spelled_entry rest ≡ Ok (e, next)
    → at_end ≡ (length next.bytes == 0) → at_end ≡ true → decoded bytes ≡ Ok e
read_to_end bytes rest next e at_end all read is nothing =
    ap (λ r. ended (spelled_entry r)) (sym all) ∙ ap ended read ∙ ap (if_ended e next.at) (is_nil next.bytes (sym is ∙ nothing))

-- an entry is read, and bytes follow
pub bytes_follow : (bytes : List ℕ) (rest next : Rest) (e : Entry) (at_end : Bool) (place : ℕ) → rest ≡ all_of bytes → spelled_entry rest ≡ Ok (e, next)
    → at_end ≡ (length next.bytes == 0) → at_end ≡ false → place ≡ next.at
    → decoded bytes ≡ Err place
bytes_follow bytes rest next e at_end place all read is some same =
    ap (λ r. ended (spelled_entry r)) (sym all) ∙ ap ended read ∙ rw same (whole_refused e next.at next.bytes (sym is ∙ some))

-- what is decoded is spelled so
pub decoded_is : (bytes : List ℕ) (e : Entry) → AreBytes bytes → decoded bytes ≡ Ok e → EntryFits e × IsSpelled e × (spelling e ≡ bytes)
decoded_is bytes e fits is =
    let read = ended_ok (spelled_entry (all_of bytes)) e is in
    let taken = entry_codec.takes (all_of bytes) e read.0 fits read.1 in
    (taken.3.1.0, taken.3.1.1, sym (taken.1.parts ∙ ap (λ rest. taken.0 ++ rest) read.2 ∙ append-nil taken.0 ∙ taken.3.0))

entry_read : (e : Entry) (more : List ℕ) → EntryFits e → IsSpelled e
    → spelled_entry (all_of (spelling e ++ more)) ≡ Ok (e, record { at = length (spelling e); bytes = more })
entry_read e more fits spelled = entry_codec.again (all_of (spelling e ++ more)) e (record { at = length (spelling e); bytes = more }) (fits, spelled)
    (record { parts = refl; place = omega arith })

-- what is spelled is decoded
pub spelled_is_decoded : (e : Entry) → EntryFits e → IsSpelled e → decoded (spelling e) ≡ Ok e
spelled_is_decoded e fits spelled = ap (λ bytes. ended (spelled_entry (all_of bytes))) (sym (append-nil (spelling e))) ∙ ap ended (entry_read e [] fits spelled)

-- bytes that begin with two spellings begin with one
pub one_spelling : (e f : Entry) (xs ys : List ℕ) → EntryFits e → IsSpelled e → EntryFits f → IsSpelled f → spelling e ++ xs ≡ spelling f ++ ys → (e ≡ f)
    × (xs ≡ ys)
one_spelling e f xs ys e_fits e_spelled f_fits f_spelled same =
    let read : Entry × Rest = (e, record { at = length (spelling e); bytes = xs }) in
    let again : Entry × Rest = (f, record { at = length (spelling f); bytes = ys }) in
    let one : read ≡ again = ok_is read again (sym (entry_read e xs e_fits e_spelled) ∙ ap (λ bytes. spelled_entry (all_of bytes)) same
    ∙ entry_read f ys f_fits f_spelled) in
    (ap (λ (r : Entry × Rest). r.0) one, ap (λ (r : Entry × Rest). r.1.bytes) one)

pub found : (bytes : List ℕ) (r : Result Entry EntryRefusal) → AreBytes bytes → Answers r (decoded bytes)
    → IfOk r (λ e. EntryFits e × IsSpelled e × (spelling e ≡ bytes))
found bytes (Ok e) fits answers = decoded_is bytes e fits answers
found bytes (Err refusal) fits answers = tt
