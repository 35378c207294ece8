-- One more shard that begins, or begins anew.
use Rattle.std.proofs.Common.{◌≡◌, ℕ, zero, suc, ◌+◌, ◌<◌, ◌≤◌, List, [], ◌∷◌, ◌++◌, length, take, drop, set, get_or, refl, sym, ◌∙◌, ap, subst, inl}
use Rattle.std.proofs.Common.{inr, arith, add-one, append_assoc, drop-cons}
use Rattle.std.proofs.lemmas.Bool.{cases_lt}
use Rattle.std.specs.List.{remove}
use Rattle.std.specs.Prelude.{map, slice_index_or}
use Rattle.shard_log.proofs.graph_model_lemmas.Later.{all_append}
use Rattle.shard_log.specs.graph_model.Soundness.{IsSound}
use Rattle.shard_log.specs.graph_model.Told.{WhereTold}
use Rattle.shard_log.specs.View.{View}
use Rattle.low_water.specs.Marks.{marks}
use Rattle.served_shards.specs.Begun.{AreNotesOf, AreReached, begun_at, restarted}
use Rattle.served_shards.specs.Fields.{served_of}
use Rattle.served_shards.specs.Meetings.{AreSeenSound, MeetEach, Meets}
use Rattle.served_shards.specs.Served.{ServedShard, restarting}
use Rattle.served_shards.specs.declared.shards.Shard.{Shard}

-- a list by its first element
pub head_is : {X : Type 0} (xs rest : List X) (x : X) → 0 < length xs → x ≡ slice_index_or xs 0 x → rest ≡ remove xs 0 → xs ≡ x ∷ rest
head_is [] rest x lt at is = absurd (omega arith)
head_is (y ∷ ys) rest x lt at is = ap (λ z. z ∷ ys) (sym at) ∙ ap (λ zs. x ∷ zs) (sym is)

pub from_place : {X : Type 0} (xs : List X) (i : ℕ) (d : X) → i < length xs → drop i xs ≡ get_or xs i d ∷ drop (i + 1) xs
from_place xs i d lt = rw (add-one, drop-cons xs i d) refl

map-append : (xs ys : List Shard) → map served_of (xs ++ ys) ≡ map served_of xs ++ map served_of ys
map-append [] ys = refl
map-append (x ∷ xs) ys = ap (λ l. served_of x ∷ l) (map-append xs ys)

-- one more shard that begins
module _ (shards : List Shard) (new : Shard) (served lows : List ℕ) (notes rest : List View) (i : ℕ) (note : View) (in_served : i < length served)
    (in_lows : i < length lows) (first : notes ≡ note ∷ rest)
    (is : served_of new ≡ record { shard = get_or served i 0; marks = marks (get_or lows i 0) []; view = note })
  where
    pub begun_step : (whole : List ServedShard) → map served_of shards ++ begun_at (drop i served) (drop i lows) notes ≡ whole
        → map served_of (shards ++ new ∷ []) ++ begun_at (drop (i + 1) served) (drop (i + 1) lows) rest ≡ whole
    begun_step whole h =
        ap (λ l. l ++ begun_at (drop (i + 1) served) (drop (i + 1) lows) rest) (map-append shards (new ∷ []))
        ∙ append_assoc (map served_of shards) (served_of new ∷ []) (begun_at (drop (i + 1) served) (drop (i + 1) lows) rest)
        ∙ ap (λ s. map served_of shards ++ (s ∷ begun_at (drop (i + 1) served) (drop (i + 1) lows) rest)) is
        ∙ sym (ap (λ l. map served_of shards ++ l) (
        ap (λ l. begun_at l (drop i lows) notes) (from_place served i 0 in_served)
        ∙ ap (λ l. begun_at (get_or served i 0 ∷ drop (i + 1) served) l notes) (from_place lows i 0 in_lows)
        ∙ ap (λ l. begun_at (get_or served i 0 ∷ drop (i + 1) served) (get_or lows i 0 ∷ drop (i + 1) lows) l) first))
        ∙ h

    pub reached_step : AreReached (drop i lows) notes → AreReached (drop (i + 1) lows) rest
    reached_step reached =
        let e = subst (λ l. AreReached l notes) (from_place lows i 0 in_lows) reached in
        let f = subst (λ l. AreReached (get_or lows i 0 ∷ drop (i + 1) lows) l) first e in
        f.1

    pub sound_step : WhereTold note.log.told (IsSound note.entries) → AreSeenSound (map served_of shards) → AreSeenSound (map served_of (shards ++ new ∷ []))
    sound_step sound sounds =
        subst AreSeenSound (sym (map-append shards (new ∷ [])))
        (all_append (λ s. WhereTold s.view.log.told (IsSound s.view.entries)) (map served_of shards) (served_of new ∷ []) sounds
        (subst (λ (s : ServedShard). WhereTold s.view.log.told (IsSound s.view.entries)) (sym is) sound, tt))

-- where a position is left, so is a note
pub reached_some : (lows : List ℕ) (notes : List View) (i : ℕ) → i < length lows → AreReached (drop i lows) notes → 0 < length notes
reached_some lows [] i lt reached = absurd (subst (λ l. AreReached l []) (from_place lows i 0 lt) reached)
reached_some lows (note ∷ notes) i lt reached = omega arith

-- where a note is left, so is a position
pub lows_some : (lows : List ℕ) (notes : List View) (i : ℕ) → 0 < length notes → AreReached (drop i lows) notes → i < length lows
lows_some lows [] i lt reached = absurd (omega arith)
lows_some lows (note ∷ notes) i lt reached = elim (cases_lt i (length lows)) [
  | inl within ↦ within
  | inr past ↦ absurd (subst (λ l. AreReached l (note ∷ notes)) (drop_all lows i past) reached)
]
  where
    drop_all : (xs : List ℕ) (i : ℕ) → length xs ≤ i → drop i xs ≡ []
    drop_all [] zero h = refl
    drop_all [] (suc i) h = refl
    drop_all (x ∷ xs) zero h = absurd (omega arith)
    drop_all (x ∷ xs) (suc i) h = drop_all xs i (omega arith)

-- where a shard is left, so is a note
pub logs_some : (ss : List ServedShard) (notes : List View) (i : ℕ) (d : ServedShard) → i < length ss → AreNotesOf (drop i ss) notes → 0 < length notes
logs_some ss [] i d lt logs = absurd (subst (λ l. AreNotesOf l []) (from_place ss i d lt) logs)
logs_some ss (note ∷ notes) i d lt logs = omega arith

pub length-served : (xs : List Shard) → length (map served_of xs) ≡ length xs
length-served [] = refl
length-served (x ∷ xs) = ap suc (length-served xs)

get_served : (xs : List Shard) (i : ℕ) (d : Shard) → i < length xs → get_or (map served_of xs) i (served_of d) ≡ served_of (get_or xs i d)
get_served [] i d lt = absurd (omega arith)
get_served (x ∷ xs) zero d lt = refl
get_served (x ∷ xs) (suc i) d lt = get_served xs i d (omega arith)

drop_set : (xs : List Shard) (i : ℕ) (new : Shard) → drop (suc i) (map served_of (set xs i new)) ≡ drop (suc i) (map served_of xs)
drop_set [] zero new = refl
drop_set [] (suc i) new = refl
drop_set (x ∷ xs) zero new = refl
drop_set (x ∷ xs) (suc i) new = drop_set xs i new

take_set : (xs : List Shard) (i : ℕ) (new : Shard) → i < length xs → take (suc i) (map served_of (set xs i new)) ≡ take i (map served_of xs) ++ served_of new ∷
    []
take_set [] i new lt = absurd (omega arith)
take_set (x ∷ xs) zero new lt = refl
take_set (x ∷ xs) (suc i) new lt = ap (λ l. served_of x ∷ l) (take_set xs i new (omega arith))

-- one more shard that begins anew
module _ (shards olds : List Shard) (new d : Shard) (lows : List ℕ) (notes rest : List View) (i : ℕ) (note : View) (in_shards : i < length shards)
    (in_olds : i < length olds) (in_lows : i < length lows)
    (first : notes ≡ note ∷ rest) (left : drop i (map served_of shards) ≡ drop i (map served_of olds))
  where
    old_first : drop i (map served_of olds) ≡ served_of (get_or shards i d) ∷ drop (i + 1) (map served_of olds)
    old_first =
        let lt : i < length (map served_of shards) = let same = length-served shards in omega arith in
        let lt_olds : i < length (map served_of olds) = let same = length-served olds in omega arith in
        let a = from_place (map served_of shards) i (served_of d) lt in
        let b = from_place (map served_of olds) i (served_of d) lt_olds in
        let e : get_or (map served_of shards) i (served_of d) ∷ drop (i + 1) (map served_of shards) ≡ get_or (map served_of olds) i (served_of d) ∷ drop (i + 1)
        (map served_of olds) = sym a ∙ left ∙ b in
        let heads : get_or (map served_of olds) i (served_of d) ≡ get_or (map served_of shards) i (served_of d) = cc in
        b ∙ ap (λ s. s ∷ drop (i + 1) (map served_of olds)) (heads ∙ get_served shards i d in_shards)

    pub same_log : AreNotesOf (drop i (map served_of olds)) notes → (get_or shards i d).note.log ≡ note.log
    same_log logs =
        let e = subst (λ l. AreNotesOf l notes) old_first logs in
        let f = subst (λ l. AreNotesOf (served_of (get_or shards i d) ∷ drop (i + 1) (map served_of olds)) l) first e in
        f.0

    pub logs_step : AreNotesOf (drop i (map served_of olds)) notes → AreNotesOf (drop (i + 1) (map served_of olds)) rest
    logs_step logs =
        let e = subst (λ l. AreNotesOf l notes) old_first logs in
        let f = subst (λ l. AreNotesOf (served_of (get_or shards i d) ∷ drop (i + 1) (map served_of olds)) l) first e in
        f.1

    pub lows_step : AreReached (drop i lows) notes → AreReached (drop (i + 1) lows) rest
    lows_step reached =
        let e = subst (λ l. AreReached l notes) (from_place lows i 0 in_lows) reached in
        let f = subst (λ l. AreReached (get_or lows i 0 ∷ drop (i + 1) lows) l) first e in
        f.1

    pub meets_step : (P : Type 0) → Meets (served_of (get_or shards i d)) note → (MeetEach (drop i (map served_of olds)) notes → P)
        → MeetEach (drop (i + 1) (map served_of olds)) rest → P
    meets_step P meets h more = h (subst (λ l. MeetEach l notes) (sym old_first)
        (subst (λ l. MeetEach (served_of (get_or shards i d) ∷ drop (i + 1) (map served_of olds)) l) (sym first) (meets, more)))

    pub rest_step : drop (i + 1) (map served_of (set shards i new)) ≡ drop (i + 1) (map served_of olds)
    rest_step =
        let lt : i < length (map served_of shards) = let same = length-served shards in omega arith in
        let lt_olds : i < length (map served_of olds) = let same = length-served olds in omega arith in
        let a = from_place (map served_of shards) i (served_of d) lt in
        let b = from_place (map served_of olds) i (served_of d) lt_olds in
        let e : get_or (map served_of shards) i (served_of d) ∷ drop (i + 1) (map served_of shards) ≡ get_or (map served_of olds) i (served_of d) ∷ drop (i + 1)
        (map served_of olds) = sym a ∙ left ∙ b in
        let tails : drop (i + 1) (map served_of shards) ≡ drop (i + 1) (map served_of olds) = cc in
        let cut : drop (i + 1) (map served_of (set shards i new)) ≡ drop (i + 1) (map served_of shards) = rw add-one (drop_set shards i new) in
        cut ∙ tails

    pub anew_step : (whole : List ServedShard) → served_of new ≡ restarting (get_or lows i 0) note (served_of (get_or shards i d))
        → take i (map served_of shards) ++ restarted (drop i (map served_of olds)) (drop i lows) notes ≡ whole
        → take (i + 1) (map served_of (set shards i new)) ++ restarted (drop (i + 1) (map served_of olds)) (drop (i + 1) lows) rest ≡ whole
    anew_step whole is h =
        let more : List ServedShard = restarted (drop (i + 1) (map served_of olds)) (drop (i + 1) lows) rest in
        let cut : take (i + 1) (map served_of (set shards i new)) ≡ take i (map served_of shards) ++ served_of new ∷ [] =
        rw add-one (take_set shards i new in_shards) in
        ap (λ l. l ++ more) cut
        ∙ append_assoc (take i (map served_of shards)) (served_of new ∷ []) more
        ∙ ap (λ s. take i (map served_of shards) ++ (s ∷ more)) is
        ∙ sym (ap (λ l. take i (map served_of shards) ++ l) (
        ap (λ l. restarted l (drop i lows) notes) old_first
        ∙ ap (λ l. restarted (served_of (get_or shards i d) ∷ drop (i + 1) (map served_of olds)) l notes) (from_place lows i 0 in_lows)
        ∙ ap (λ l. restarted (served_of (get_or shards i d) ∷ drop (i + 1) (map served_of olds)) (get_or lows i 0 ∷ drop (i + 1) lows) l) first))
        ∙ h
