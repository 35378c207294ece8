-- What a pass has seen after its session learnt of a write.
use Rattle.std.proofs.Common.{◌≡◌, ◌≢◌, ℕ, zero, suc, ◌≤◌, ◌<◌, ◌+◌, Bool, true, false, List, [], ◌∷◌, length, Option, Some, None, refl, ap, sym, subst, ◌∙◌}
use Rattle.std.proofs.Common.{arith}
use Rattle.std.specs.Prelude.{IfSome, slice_get, slice_set}
use Rattle.std.specs.Option.{option_map}
use Rattle.locked_nodes.proofs.Seeing.{goes_self, goes_trans, saw, some_and, some_parts}
use Rattle.locked_nodes.specs.Nodes.{HasTier}
use Rattle.locked_nodes.specs.Passes.{AreOfTheirLogs, IsPassOf, NotesGrow, SeesNote}
use Rattle.log_names.specs.Names.{IsOfLog, LogNames}
use Rattle.session_pass.specs.Floors.{FloorsRise}
use Rattle.session_pass.specs.Passes.{LearnsEntry, MeetsNote, SeenPass, after_meeting}
use Rattle.shard_log.proofs.GrowthLemmas.{grows-trans}
use Rattle.shard_log.specs.View.{Grows, View}
use Rattle.shard_tables.specs.declared.writes.Wrote.{Wrote}
use Rattle.shared_stores.specs.Making.{Making}
use Rattle.tao_base.specs.declared.entry.Entry.{Entry}
use Rattle.cluster_writes.specs.Learning.{LearnsOf, LearnsOther, LearnsThere, SeesThere, if_told}

-- each other place of a list of which one was set
pub elsewhere : {X : Type 0} (xs : List X) (k n : ℕ) (x : X) → n ≢ k → slice_get (slice_set xs k x) n ≡ slice_get xs n
elsewhere [] k n x other = refl
elsewhere (y ∷ ys) zero zero x other = absurd (other refl)
elsewhere (y ∷ ys) zero (suc n) x other = refl
elsewhere (y ∷ ys) (suc k) zero x other = refl
elsewhere (y ∷ ys) (suc k) (suc n) x other = elsewhere ys k n x (λ e. other (ap suc e))

-- what is so of an entry is so of it where it is told
pub told_holds : (told : Bool) (o : Option Entry) (P : Entry → Type 0) → IfSome o P → IfSome (if_told told o) P
told_holds true o P h = h
told_holds false o P h = tt

-- what a note has that was seen, the pass has seen when it goes on
pub sees_on : (shard : ℕ) (note : View) (old new : List View) → SeesNote shard note old → NotesGrow old new → SeesNote shard note new
sees_on shard note old new sees grow =
    let mid = some_parts (Grows note) (slice_get old shard) sees in
    let end = some_parts (Grows mid.0) (slice_get new shard) (grow shard mid.0 mid.1) in
    some_and (Grows note) (slice_get new shard) end.0 end.1 (grows-trans note mid.0 end.0 mid.2 end.2)

module _ (m : Making) (log : LogNames) where
  -- the session learnt an entry
  pub entry_learnt : (shard : ℕ) (entry : Entry) (note : View) (old new : SeenPass) → IsPassOf m log old → shard < m.settings.shards → IsOfLog log shard note
      → LearnsEntry shard entry note old new → old.spare ≤ new.spare + 8 → FloorsRise old.floors new.floors → MeetsNote shard note old.notes
      → LearnsOf m log shard (Some entry) note old new
  entry_learnt shard entry note old new is here of_log learns spare rise meets =
      let met = saw m log shard note old (record old { notes = after_meeting shard note old.notes }) is here of_log refl meets in
      let notes : new.notes ≡ after_meeting shard note old.notes = ap (λ (p : SeenPass). p.notes) learns.rest in
      let home : new.region ≡ old.region = ap (λ (p : SeenPass). p.region) learns.rest in
      let place : new.tier ≡ old.tier = ap (λ (p : SeenPass). p.tier) learns.rest in
      record {
        pass = record {
          home = subst (λ r. r < length m.settings.regions) (sym home) is.home;
          tier = subst (λ r. HasTier m.settings r new.tier) (sym home) (subst (HasTier m.settings old.region) (sym place) is.tier);
          long = ap length notes ∙ met.pass.long;
          notes = subst (AreOfTheirLogs log) (sym notes) met.pass.notes;
        };
        on = record {
          session = ap (λ (p : SeenPass). p.session) learns.rest;
          region = home;
          tier = place;
          floors = rise;
          notes = subst (NotesGrow old.notes) (sym notes) met.on.notes;
        };
        notes = notes;
        sees = subst (SeesNote shard note) (sym notes) met.sees;
        learns = learns.floors;
        spare = spare;
      }

  -- the pass saw a note, and the session learnt nothing
  pub note_seen : (shard : ℕ) (note : View) (old new : SeenPass) → IsPassOf m log old → shard < m.settings.shards → IsOfLog log shard note
      → new ≡ record old { notes = after_meeting shard note old.notes } → MeetsNote shard note old.notes → LearnsOf m log shard None note old new
  note_seen shard note old new is here of_log same meets =
      let done = saw m log shard note old new is here of_log same meets in
      let room : new.spare ≡ old.spare = ap (λ (p : SeenPass). p.spare) same in
      record {
        pass = done.pass;
        on = done.on;
        notes = ap (λ (p : SeenPass). p.notes) same;
        sees = done.sees;
        learns = ap (λ (p : SeenPass). p.floors) same;
        spare = omega (arith, room);
      }

  -- what was learnt of one shard leaves the others
  pub learnt_there : (shard : ℕ) (entry : Option Entry) (note : View) (old new : SeenPass) → LearnsOf m log shard entry note old new
      → SeesThere m log shard (Some note) old new
  learnt_there shard entry note old new learns = record {
    pass = learns.pass;
    on = learns.on;
    sees = learns.sees;
    met = learns.notes;
    unmet = λ none. absurd (let e : Some note ≡ None = none in cc);
    apart = λ k other. ap (λ (ns : List View). slice_get ns k) learns.notes ∙ elsewhere old.notes shard k _ other;
  }

  -- nothing was there to see
  pub unseen_there : (shard : ℕ) (pass : SeenPass) → IsPassOf m log pass → SeesThere m log shard None pass pass
  unseen_there shard pass is = record { pass = is; on = goes_self pass; sees = tt; met = tt; unmet = λ none. refl; apart = λ k other. refl }

  -- what was written on the other shard, and then what was seen there
  pub both_there : (told : Bool) (shard : ℕ) (wrote : Option Wrote) (seen : Option View) (old mid new : SeenPass)
      → SeesThere m log shard (option_map (λ (w : Wrote). w.note) wrote) old mid → LearnsThere told (Some shard) wrote old.floors mid.floors
      → SeesThere m log shard seen mid new → new.floors ≡ mid.floors → LearnsOther m log told (Some shard) wrote seen old new
  both_there told shard wrote seen old mid new first learns next same = record {
    pass = next.pass;
    on = goes_trans old mid new first.on next.on;
    wrote = by wrote first.sees;
    seen = next.sees;
    alone = met wrote first.met;
    apart = λ k other. next.apart k (λ e. other (ap Some (sym e))) ∙ first.apart k (λ e. other (ap Some (sym e)));
    learns = subst (LearnsThere told (Some shard) wrote old.floors) (sym same) learns;
  }
    where
      by : (o : Option Wrote) → IfSome (option_map (λ (w : Wrote). w.note) o) (λ v. SeesNote shard v mid.notes)
          → IfSome o (λ w. SeesNote shard w.note new.notes)
      by None sees = tt
      by (Some w) sees = sees_on shard w.note mid.notes new.notes sees next.on.notes

      met : (o : Option Wrote) → IfSome (option_map (λ (w : Wrote). w.note) o) (λ v. mid.notes ≡ after_meeting shard v old.notes)
          → IfSome o (λ w. seen ≡ None → new.notes ≡ after_meeting shard w.note old.notes)
      met None is = tt
      met (Some w) is = λ none. next.unmet none ∙ is

  -- there is no other shard
  pub no_other : (told : Bool) (wrote : Option Wrote) (seen : Option View) (pass : SeenPass) → IsPassOf m log pass
      → LearnsOther m log told None wrote seen pass pass
  no_other told wrote seen pass is = record { pass = is; on = goes_self pass; wrote = tt; seen = tt; alone = tt; apart = λ k other. refl; learns = refl }
