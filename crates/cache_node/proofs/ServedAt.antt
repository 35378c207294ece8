-- What the node has of a shard after what it has of one shard changed.
use Rattle.std.proofs.Common.{◌≡◌, ℕ, true, false, List, [], ◌∷◌, Option, Some, None, refl, sym, ◌∙◌, ap, subst, inl, inr, ◌⊎◌}
use Rattle.std.proofs.lemmas.Bool.{cases_Bool, eqb-true, eqb-false, ne_eqb}
use Rattle.std.specs.Option.{option_map}
use Rattle.std.specs.Prelude.{◌==◌, IsSome}
use Rattle.cache_node.specs.Laws.{KeepsShard, ServedChanges}
use Rattle.served_shards.specs.Served.{ServedShard, changed_at, served_at}
use Rattle.cache_node.specs.True.{AreAlike, AreTold, IsServed}

-- it stays what is had of that shard's log
pub record KeepsLog (f : ServedShard → ServedShard) : Type 0 where
  pub shard : (s : ServedShard) → (f s).shard ≡ s.shard
  pub log : (s : ServedShard) → (f s).view.log ≡ s.view.log

apart_back : (n shard other : ℕ) → n ≡ shard → (other == shard) ≡ false → (n == other) ≡ false
apart_back n shard other here apart = ne_eqb n other (λ e. eqb-false other shard apart (sym e ∙ here))

pub changed_there : (shard : ℕ) (f : ServedShard → ServedShard) → KeepsShard f → (ss : List ServedShard)
    → served_at shard (changed_at shard f ss) ≡ option_map f (served_at shard ss)
changed_there shard f keeps [] = refl
changed_there shard f keeps (s ∷ ss) = elim (cases_Bool (s.shard == shard)) [
  | inl on ↦ (let same : ((f s).shard == shard) ≡ true = ap (λ n. n == shard) (keeps s) ∙ on in rw on (rw same refl))
  | inr off ↦ rw off (rw off (changed_there shard f keeps ss))
]

pub changed_elsewhere : (shard other : ℕ) (f : ServedShard → ServedShard) → KeepsShard f → (other == shard) ≡ false → (ss : List ServedShard)
    → served_at other (changed_at shard f ss) ≡ served_at other ss
changed_elsewhere shard other f keeps apart [] = refl
changed_elsewhere shard other f keeps apart (s ∷ ss) = elim (cases_Bool (s.shard == shard)) [
  | inl on ↦ (
      let off : (s.shard == other) ≡ false = apart_back s.shard shard other (eqb-true s.shard shard on) apart in
      let gone : ((f s).shard == other) ≡ false = ap (λ n. n == other) (keeps s) ∙ off in
      rw on (rw (gone, off) refl))
  | inr off ↦ rw off (elim (cases_Bool (s.shard == other)) [
    | inl t ↦ rw t refl
    | inr g ↦ rw g (changed_elsewhere shard other f keeps apart ss)
  ])
]

-- either it is the shard that changed, or it is as before
pub record Changed (f : ServedShard → ServedShard) (k shard : ℕ) (ss : List ServedShard) (after : ServedShard) : Type 0 where
  pub here : k ≡ shard
  pub before : ServedShard
  pub was : served_at shard ss ≡ Some before
  pub is : after ≡ f before

pub changed_here : (shard : ℕ) (f : ServedShard → ServedShard) (ss : List ServedShard) (after : ServedShard) → KeepsLog f
    → served_at shard (changed_at shard f ss) ≡ Some after → Changed f shard shard ss after
changed_here shard f ss after keeps h = by_option (served_at shard ss) refl (sym (changed_there shard f keeps.shard ss) ∙ h)
  where
    by_option : (o : Option ServedShard) → served_at shard ss ≡ o → option_map f (served_at shard ss) ≡ Some after → Changed f shard shard ss after
    by_option None was found = absurd (let none : None ≡ Some after = rw was at found in cc)
    by_option (Some before) was found = record { here = refl; before = before; was = was; is = (let e : Some (f before) ≡ Some after = rw was at found in cc) }

pub changed_cases : (shard k : ℕ) (f : ServedShard → ServedShard) (ss : List ServedShard) (after : ServedShard) → KeepsLog f
    → served_at k (changed_at shard f ss) ≡ Some after
    → Changed f k shard ss after ⊎ (served_at k ss ≡ Some after)
changed_cases shard k f ss after keeps h = elim (cases_Bool (k == shard)) [
  | inl on ↦ (
      let here : k ≡ shard = eqb-true k shard on in
      let at : served_at shard (changed_at shard f ss) ≡ Some after = subst (λ n. served_at n (changed_at shard f ss) ≡ Some after) here h in
      let c = changed_here shard f ss after keeps at in
      inl (record { here = here; before = c.before; was = c.was; is = c.is }))
  | inr off ↦ inr (sym (changed_elsewhere shard k f keeps.shard off ss) ∙ h)
]

pub some_is : {X : Type 0} (o : Option X) (x : X) → o ≡ Some x → IsSome o
some_is o x h = rw h refl

pub changed_some : (shard k : ℕ) (f : ServedShard → ServedShard) (ss : List ServedShard) (s : ServedShard) → KeepsLog f → served_at k ss ≡ Some s
    → (after : ServedShard) × (served_at k (changed_at shard f ss) ≡ Some after) × (after.view.log ≡ s.view.log)
changed_some shard k f ss s keeps h = elim (cases_Bool (k == shard)) [
  | inl on ↦ (
      let here : k ≡ shard = eqb-true k shard on in
      let at : served_at shard ss ≡ Some s = subst (λ n. served_at n ss ≡ Some s) here h in
      let there : served_at k (changed_at shard f ss) ≡ Some (f s) =
      subst (λ n. served_at n (changed_at shard f ss) ≡ Some (f s)) (sym here) (changed_there shard f keeps.shard ss ∙ ap (option_map f) at) in
      (f s, there, keeps.log s))
  | inr off ↦ (s, changed_elsewhere shard k f keeps.shard off ss ∙ h, refl)
]

pub changed_served : (shard k : ℕ) (f : ServedShard → ServedShard) (ss : List ServedShard) → KeepsLog f → IsServed ss k → IsServed (changed_at shard f ss) k
changed_served shard k f ss keeps served = by_option (served_at k ss) refl served
  where
    by_option : (o : Option ServedShard) → served_at k ss ≡ o → IsSome o → IsServed (changed_at shard f ss) k
    by_option None is none = absurd (cc)
    by_option (Some s) is some = let r = changed_some shard k f ss s keeps is in some_is (served_at k (changed_at shard f ss)) r.0 r.1

-- what is had of a shard afterwards is of a log that was had of it before
pub changed_back : (shard k : ℕ) (f : ServedShard → ServedShard) (ss : List ServedShard) (after : ServedShard) → KeepsLog f
    → served_at k (changed_at shard f ss) ≡ Some after
    → (before : ServedShard) × (served_at k ss ≡ Some before) × (after.view.log ≡ before.view.log)
changed_back shard k f ss after keeps h = elim (changed_cases shard k f ss after keeps h) [
  | inl c ↦ (c.before, ap (λ n. served_at n ss) c.here ∙ c.was, ap (λ (s : ServedShard). s.view.log) c.is ∙ keeps.log c.before)
  | inr same ↦ (after, same, refl)
]

-- logs that are told alike stay so
pub alike_stays : (ss after : List ServedShard)
    → ((k : ℕ) (s : ServedShard) → served_at k after ≡ Some s → (before : ServedShard) × (served_at k ss ≡ Some before) × (s.view.log ≡ before.view.log))
    → AreAlike ss → AreAlike after
alike_stays ss after back alike i j s t at_s at_t =
    let a = back i s at_s in
    let b = back j t at_t in
    ap (λ l. l.told) a.2 ∙ alike i j a.0 b.0 a.1 b.1 ∙ ap (λ l. l.told) (sym b.2)

-- the logs are told where they are afterwards
pub told_before : (shard : ℕ) (f : ServedShard → ServedShard) (ss : List ServedShard) → KeepsLog f → AreTold (changed_at shard f ss) → AreTold ss
told_before shard f ss keeps told k s h = let r = changed_some shard k f ss s keeps h in ap (λ l. l.told) (sym r.2) ∙ told k r.0 r.1

pub served_changes : (shard : ℕ) (f : ServedShard → ServedShard) (ss : List ServedShard) → ServedChanges shard f ss
served_changes shard f ss = record { there = λ keeps. changed_there shard f keeps ss; elsewhere = λ keeps k apart. changed_elsewhere shard k f keeps apart ss }
