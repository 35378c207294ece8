-- A write whose origin is new: its entry follows the log, and keeps it sound.
use Rattle.std.proofs.Common.{◌≡◌, ℕ, ◌+◌, ◌<◌, ◌≤◌, Bool, true, false, List, [], ◌∷◌, length, sym, ap, ◌∙◌, subst, arith}
use Rattle.std.proofs.lemmas.Bool.Decides.{nat_tests}
use Rattle.std.specs.Prelude.{Option, Some, nat_le}
use Rattle.tao_base.specs.EdgeTypes.{EdgeTypes, InversesMatch}
use Rattle.tao_base.specs.declared.entry.Entry.{Entry}
use Rattle.tao_base.specs.declared.entry.Origin.{Origin}
use Rattle.tao_base.specs.declared.entry.Touch.{Touch}
use Rattle.tao_base.specs.declared.id.StoreName.{StoreName}
use Rattle.tao_base.specs.declared.write.Write.{Write}
use Rattle.tao_base.specs.declared.write.Write.TheVariants.{ObjAdd, ObjUpdate, ObjDelete, AssocAdd, AssocDelete, AssocChangeType}
use Rattle.write_model.proofs.Forward.{forward_follows}
use Rattle.graph_model.specs.Soundness.{IsSoundOf, IsNewOrigin}
use Rattle.tao_base.specs.Writes.{ChangesType, write_kind, write_shard}
use Rattle.write_model.specs.WriteLaws.{IsOfShard, StaysSound}
use Rattle.write_model.specs.Writes.{forward_entry, next_entry}
use Rattle.tao_keeper.specs.Table.{Table, Tables, Stays, Becomes, after_commit}
use Rattle.tao_keeper.specs.declared.jobs.Job.{Job}
use Rattle.shard_tables.specs.Stores.{HasSeen, IsStoreOf}
use Rattle.shard_tables.specs.StoreView.{Store}
use Rattle.shard_tables.specs.declared.store.StoreRole.TheVariants.{Master}
use Rattle.shard_tables.specs.Written.{IsLogFull, asked_write, made_entry}
use Rattle.write_touches.specs.Touching.{AreTouches, lacks_serial}

-- touches make the entry
pub made_is : (types : EdgeTypes) (epoch : ℕ) (log : List Entry) (origin : Origin) (write : Write) (ts : List Touch) (n : ℕ)
    → AreTouches types epoch log write ts → 0 < length ts → n ≡ length log
    → forward_entry types epoch log origin write ≡ Some (made_entry n origin write ts)
made_is types epoch log origin write [] n are some count = absurd (omega arith)
made_is types epoch log origin write (t ∷ ts) n are some count =
    ap (next_entry log (write_kind write) origin) (sym are.touches_are) ∙ ap (λ k. Some (made_entry k origin write (t ∷ ts))) (sym count)

here_is : (shard : ℕ) (log : List Entry) (write : Write) → write_shard write ≡ shard → lacks_serial log write ≡ false → IsOfShard shard log write
here_is shard log (ObjAdd on otype payload) here room = (here, has_room _ room)
  where
    has_room : (n : ℕ) → nat_le 281474976710655 (n + 1) ≡ false → n + 1 < 281474976710656
    has_room n h = grind (arith, nat_tests)
here_is shard log (ObjUpdate id payload) here room = here
here_is shard log (ObjDelete id) here room = here
here_is shard log (AssocAdd id1 atype id2 time payload) here room = here
here_is shard log (AssocDelete id1 atype id2) here room = here
here_is shard log (AssocChangeType id1 atype id2 newtype) here room = here

-- tables that stay, and then gain an entry
pub becomes_from : (old mid new : Tables) (at : StoreName) (entry : Entry) (job : Option Job) → Stays old mid
    → Becomes mid new at (after_commit (mid at) entry job)
    → Becomes old new at (after_commit (old at) entry job)
becomes_from old mid new at entry job stays gains = record {
  here = gains.here ∙ ap (λ t. after_commit t entry job) (stays at);
  others = λ s apart. gains.others s apart ∙ stays s;
}

-- a master has seen the whole log that its keeper has
pub has_all : (tells : Bool) (tables : Tables) (store : Store) → store.role ≡ Master → IsStoreOf tells tables store → tells ≡ true
    → store.view.entries ≡ (tables store.name).log
has_all tells tables store master of told = subst (λ r. HasSeen r (tables store.name).log store.view.entries) master (of.seen told)

-- the touches that were asked for in the store's epoch and under its name
pub touches_at : (types : EdgeTypes) (epoch own : ℕ) (tables : Tables) (at name : StoreName) (write : Write) (ts : List Touch) → own ≡ epoch → at ≡ name
    → AreTouches types own (tables at).log write ts → AreTouches types epoch (tables name).log write ts
touches_at types epoch own tables at name write ts same is are =
    subst (λ n. AreTouches types epoch (tables n).log write ts) is (subst (λ n. AreTouches types n (tables at).log write ts) same are)

-- a write over a table whose log has so many entries
module _ (types : EdgeTypes) (epoch : ℕ) (table : Table) (origin : Origin) (write : Write) (ts : List Touch) (n : ℕ)
    (are : AreTouches types epoch table.log write ts) (some : 0 < length ts) (count : n ≡ length table.log) where
  pub full_is : (most : ℕ) → IsNewOrigin table.log origin → most ≤ n → IsLogFull (asked_write types most epoch table origin write) n
  full_is most new full = record {
    entry = made_entry n origin write ts;
    next = record { new = new; forward = made_is types epoch table.log origin write ts n are some count; serial = are.serial; stamps = are.stamps };
    full = subst (λ k. most ≤ k) count full;
    count_is = count;
  }

  pub stays_sound : (shard : ℕ) → InversesMatch types → IsSoundOf types shard table.log → IsNewOrigin table.log origin → write_shard write ≡ shard
      → ChangesType types write → StaysSound types shard table.log (made_entry n origin write ts)
  stays_sound shard match sound new here changes =
      (forward_follows shard table.log origin write (made_entry n origin write ts)).stays types epoch
      (record { inverses = match; sound = sound; new = new; here = here_is shard table.log write here are.serial; changes = changes })
      (made_is types epoch table.log origin write ts n are some count)
