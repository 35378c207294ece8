-- What is committed for a write over a store, by its touches; and what is answered to one that was made before.
use Rattle.std.proofs.Common.{◌≡◌, ℕ, ◌<◌, ◌≤◌, Bool, true, List, [], ◌∷◌, length, Option, Some, None, Result, Ok, Err, refl, sym, ap, ◌∙◌, subst, arith}
use Rattle.std.specs.Prelude.{All, IfOk, IfSome, IsSomeAnd, MatchResult, if◌then◌else◌}
use Rattle.graph_model.specs.Log.{entry_at}
use Rattle.graph_model.specs.Soundness.{IsNewOrigin, IsSoundOf}
use Rattle.graph_model.specs.Told.{WhereTold}
use Rattle.shard_log.specs.View.{View, as_note}
use Rattle.tao_base.specs.EdgeTypes.{EdgeTypes, InversesMatch}
use Rattle.tao_base.specs.Keys.{key_shard}
use Rattle.tao_base.specs.Writes.{ChangesType, write_kind, write_shard}
use Rattle.tao_base.specs.declared.entry.Entry.{Entry}
use Rattle.tao_base.specs.declared.entry.Origin.{Origin}
use Rattle.tao_base.specs.declared.entry.Touch.{Touch}
use Rattle.tao_base.specs.declared.id.StoreName.{StoreName}
use Rattle.tao_base.specs.declared.write.Write.{Write}
use Rattle.tao_base.specs.declared.write.Write.TheVariants.{ObjAdd, ObjUpdate, ObjDelete, AssocAdd, AssocDelete, AssocChangeType}
use Rattle.tao_keeper.proofs.Growing.{growing_laws}
use Rattle.tao_keeper.specs.KeeperState.{CallsKeeper, IsLater, KeeperState, KeepsTables}
use Rattle.tao_keeper.specs.Table.{StandsAt, Stays, Tables}
use Rattle.tao_keeper.specs.declared.jobs.Job.{Job}
use Rattle.tao_keeper.specs.declared.keeper.Commit.{Commit}
use Rattle.write_model.specs.WriteLaws.{StaysSound}
use Rattle.write_model.specs.Writes.{FitsWrite, Names, forward_entry, next_entry}
use Rattle.write_touches.specs.Touching.{AreTouches, HasNone, HasTouch, NameWrite}
use Rattle.write_touches.specs.declared.refusal.TouchRefusal.{TouchRefusal}
use Rattle.write_touches.specs.declared.refusal.TouchRefusal.TheVariants as touch
use Rattle.shard_tables.proofs.DoneLemmas.{IsWriteCommit, calls_since, has_entry, logs_since, sound_stays, store_stays, write_refused, wrote_is}
use Rattle.shard_tables.proofs.Standing.{own_place}
use Rattle.shard_tables.proofs.WriteLemmas.{becomes_from, full_is, has_all, made_is, stays_sound, touches_at}
use Rattle.shard_tables.specs.Jobs.{FindsJob, job_with}
use Rattle.shard_tables.specs.Refusals.{write_refused as store_refusal}
use Rattle.shard_tables.specs.StoreCommits.{CanCommit, HasEntryAt, HasNoCommit, IsOtherWrite, IsRetried, OwesJob}
use Rattle.shard_tables.specs.StoreView.{Store}
use Rattle.shard_tables.specs.Stores.{IsStoreOf, length_of}
use Rattle.shard_tables.specs.WriteDone.{StoreGains, WriteDone, asked_at}
use Rattle.shard_tables.specs.Written.{AskedWrite, FindsNothing, HasEntry, IsAdded, IsReused, IsTooOld, LiesOn, StandsIn, TableGains, WriteAnswers}
use Rattle.shard_tables.specs.Written.{added_entry, asked_write, made_entry}
use Rattle.shard_tables.specs.declared.refusal.StoreRefusal.{StoreRefusal}
use Rattle.shard_tables.specs.declared.refusal.StoreRefusal.TheVariants.{KeeperFault, LogFull, ShardFull, StampFull, TooOld, SeqReused, OutOfMemory}
use Rattle.shard_tables.specs.declared.store.StoreRole.TheVariants.{Master}
use Rattle.shard_tables.specs.declared.writes.Wrote.{Wrote}

-- ---- a write that has no touches

-- an object that is added has a touch, so what has none has no entry to answer
has_none : (write : Write) (ts : List Touch) → length ts ≡ 0 → HasTouch write ts → HasEntry write None
has_none (ObjAdd shard otype payload) [] none one = absurd one
has_none (ObjAdd shard otype payload) (t ∷ ts) none one = absurd (cc)
has_none (ObjUpdate id payload) ts none one = tt
has_none (ObjDelete id) ts none one = tt
has_none (AssocAdd id1 atype id2 time payload) ts none one = tt
has_none (AssocDelete id1 atype id2) ts none one = tt
has_none (AssocChangeType id1 atype id2 newtype) ts none one = tt

-- calls that ended without touches, and why, as the store answers it
pub touch_calls : {T U : Type 0} (fail : TouchRefusal) (old new : KeeperState) → CallsKeeper {T = T} touch.KeeperFault old new (Err fail)
    → CallsKeeper {T = U} KeeperFault old new (Err (store_refusal fail))
touch_calls touch.KeeperFault old new calls = record { calls = calls.calls; faults = calls.faults; failed = λ is. calls.failed refl }
touch_calls touch.OutOfMemory old new calls = record { calls = calls.calls; faults = calls.faults; failed = λ is. absurd (cc) }
touch_calls (touch.ShardFull serial) old new calls = record { calls = calls.calls; faults = calls.faults; failed = λ is. absurd (cc) }
touch_calls (touch.StampFull number) old new calls = record { calls = calls.calls; faults = calls.faults; failed = λ is. absurd (cc) }

-- ---- the touches that were asked for under a name and in an epoch that are the store's

module _ (tells : Bool) (types : EdgeTypes) (tables : Tables) (store : Store) (origin : Origin) (write : Write) (at : StoreName) (epoch : ℕ)
    (epoch_is : epoch ≡ store.epoch) (at_is : at ≡ store.name) (new : WhereTold tells (IsNewOrigin (tables store.name).log origin)) where
  abbrev asked : AskedWrite
  asked = asked_at types tables store origin write

  -- there are none that it could make
  pub touches_refused : (fail : TouchRefusal) → WhereTold tells (HasNone (tables at).log write fail)
      → WhereTold tells (WriteAnswers asked (Err (store_refusal fail)))
  touches_refused fail none = λ told. by fail (new told) (subst (λ n. HasNone (tables n).log write fail) at_is (none told))
    where
      by : (fail : TouchRefusal) → IsNewOrigin (tables store.name).log origin → HasNone (tables store.name).log write fail
          → WriteAnswers asked (Err (store_refusal fail))
      by touch.KeeperFault first wanting = tt
      by touch.OutOfMemory first wanting = tt
      by (touch.ShardFull serial) first wanting = record { new = first; full = wanting.0; serial_is = wanting.1 }
      by (touch.StampFull number) first wanting = record { new = first; full = wanting.0; number_is = wanting.1 }

  module _ (ts : List Touch) (given : WhereTold tells (AreTouches types epoch (tables at).log write ts)) where
    here : tells ≡ true → AreTouches types store.epoch (tables store.name).log write ts
    here told = touches_at types store.epoch epoch tables at store.name write ts epoch_is at_is (given told)

    -- nothing is there to change
    pub write_finds_none : length ts ≡ 0 → HasTouch write ts → WhereTold tells (FindsNothing asked) × HasEntry write None
    write_finds_none none one = (λ told. record { new = new told; nothing = nothing told }, has_none write ts none one)
      where
        by : (xs : List Touch) → length xs ≡ 0 → next_entry (tables store.name).log (write_kind write) origin xs ≡ None
        by [] h = refl
        by (x ∷ xs) h = absurd (cc)

        nothing : tells ≡ true → forward_entry types store.epoch (tables store.name).log origin write ≡ None
        nothing told = ap (next_entry (tables store.name).log (write_kind write) origin) (sym (here told).touches_are) ∙ by ts none

    module _ (master : store.role ≡ Master) (of : IsStoreOf tells tables store) (some : 0 < length ts) where
      count : tells ≡ true → length_of store ≡ length (tables store.name).log
      count told = ap length (has_all tells tables store master of told)

      -- there is no room
      pub write_is_full : (refusal : StoreRefusal) → HasNoCommit store refusal → WhereTold tells (WriteAnswers asked (Err refusal))
      write_is_full OutOfMemory wanting = λ told. tt
      write_is_full (LogFull n) wanting = λ told.
          let is : n ≡ length_of store = cc in
          full_is types store.epoch (tables store.name) origin write ts n (here told) some (is ∙ count told) store.log_max (new told)
          (subst (λ k. store.log_max ≤ k) (sym is) wanting.full)
      write_is_full KeeperFault wanting = absurd wanting
      write_is_full (ShardFull serial) wanting = absurd wanting
      write_is_full (StampFull number) wanting = absurd wanting
      write_is_full (TooOld cut position) wanting = absurd wanting
      write_is_full (SeqReused position) wanting = absurd wanting

      -- the entry is committed, and keeps the log sound
      module _ (match : InversesMatch types) (sound : WhereTold tells (IsSoundOf types store.name.shard (tables store.name).log))
          (shard_is : write_shard write ≡ store.name.shard) (changes : ChangesType types write) where
        pub write_commit_is : (commit : Commit) → commit.entry ≡ made_entry (length_of store) origin write ts → OwesJob types commit → CanCommit store commit
            → length_of store < store.log_max → NameWrite write ts → IsWriteCommit tells asked store commit
        write_commit_is commit entry_is owes can room names = record {
          position = ap (λ e. e.position) entry_is;
          fits = subst (λ e. FitsWrite e write) (sym entry_is) (record { kind_is = refl; named = named ts some names });
          owes = owes;
          given = can.given;
          added = λ told. subst (λ e. IsAdded asked e) (sym entry_is) (record {
            next = record {
              new = new told;
              forward = made_is types store.epoch (tables store.name).log origin write ts (length_of store) (here told) some (count told);
              serial = (here told).serial;
              stamps = (here told).stamps;
            };
            room = subst (λ k. k < store.log_max) (count told) room;
          });
          stays = λ told. subst (StaysSound types store.name.shard (tables store.name).log) (sym entry_is)
              (stays_sound types store.epoch (tables store.name) origin write ts (length_of store) (here told) some (count told) store.name.shard match
              (sound told) (new told) shard_is changes);
        }
          where
            named : (xs : List Touch) → 0 < length xs → NameWrite write xs → Names write xs
            named [] many is = absurd (omega arith)
            named (x ∷ xs) many is = is

-- ---- a write that was made before

-- the answer over the tables when it was asked for, where they stayed until it was looked for
pub write_since : (tells : Bool) (types : EdgeTypes) (store : Store) (origin : Origin) (write : Write) (old mid new : KeeperState)
    (result : Result Wrote StoreRefusal) → KeepsTables tells old mid → IsLater old mid
    → WriteDone tells store.name (asked_at types mid.told store origin write) mid new result
    → WriteDone tells store.name (asked_at types old.told store origin write) old new result
write_since tells types store origin write old mid new result stays later done = record {
  answer = λ told.
      subst (λ t. WriteAnswers (asked_write types store.log_max store.epoch t origin write) result) (stays told store.name) (done.answer told);
  fits = done.fits;
  entry = done.entry;
  job = done.job;
  found = λ told. subst (λ t. IfOk result (λ wrote. FindsJob t wrote.retry wrote.entry wrote.job)) (stays told store.name) (done.found told);
  given = done.given;
  tables = λ told. gains_since (added_entry result) (job_with types (added_entry result)) (stays told) (done.tables told);
  logs = logs_since tells old mid new stays done.logs;
  stands = done.stands;
  here = done.here;
  sound = done.sound;
  calls = calls_since KeeperFault old mid new result later done.calls;
}
  where
    gains_since : (added : Option Entry) (job : Option Job) → Stays old.told mid.told → TableGains mid.told new.told store.name added job
        → TableGains old.told new.told store.name added job
    gains_since None job same gains = λ s. gains s ∙ same s
    gains_since (Some e) job same gains = becomes_from old.told mid.told new.told store.name e job same gains

-- the entry of the write's origin stands at the position in a sound log that the store's note has seen
module _ (tells : Bool) (types : EdgeTypes) (store : Store) (origin : Origin) (write : Write) (position : ℕ) (note : View) (old new : KeeperState)
    (master : store.role ≡ Master) (of : IsStoreOf tells old.told store)
    (sound : WhereTold tells (IsSoundOf types store.name.shard (old.told store.name).log)) (noted : note ≡ as_note store.view)
    (stands : WhereTold tells (StandsAt (old.told store.name).log origin (Some position)))
    (stays : KeepsTables tells old new) where
  abbrev asked_again : AskedWrite
  asked_again = asked_at types old.told store origin write

  log_is : tells ≡ true → note.entries ≡ (old.told store.name).log
  log_is told = ap (λ v. v.entries) noted ∙ has_all tells old.told store master of told

  heard_told : note.log.told ≡ true → tells ≡ true
  heard_told heard = sym of.told_is ∙ sym (ap (λ v. v.log.told) noted) ∙ heard

  placed : (e : Entry) → WhereTold tells (entry_at (old.told store.name).log position ≡ Some e)
      → WhereTold note.log.told ((entry_at note.entries e.position ≡ Some e) × All (λ t. key_shard t.key ≡ store.name.shard) e.touches)
  placed e there = λ heard.
      let told = heard_told heard in
      let own = own_place types store.name.shard (old.told store.name).log position e (sound told) (there told) in
      (subst (λ l. entry_at l e.position ≡ Some e) (sym (log_is told)) own.0, own.1)

  -- the write is refused, where the entry there is old, or of another one
  other : tells ≡ true → (refusal : StoreRefusal) → IsOtherWrite (old.told store.name) position write refusal → WriteAnswers asked_again (Err refusal)
  other told KeeperFault is = tt
  other told OutOfMemory is = tt
  other told (TooOld cut at) is =
      subst (λ p. IsTooOld asked_again cut p) (sym is.1) (record { cut_is = is.0; old = is.2; stands = stands told })
  other told (SeqReused at) is =
      subst (λ p. IsReused asked_again p) (sym is.0) (found (entry_at (old.told store.name).log position) refl (stands told) is.2)
    where
      found : (there : Option Entry) → entry_at (old.told store.name).log position ≡ there → IsSomeAnd there (λ e. e.origin ≡ origin)
          → IfSome there (λ e. ¬ FitsWrite e write) → IsReused asked_again position
      found None is_there wanting differs = absurd wanting
      found (Some e) is_there origin_is differs =
          record { live = is.1; entry = e; stands = record { stands = is_there; origin_is = origin_is }; differs = differs }
  other told (LogFull count) is = absurd is
  other told (ShardFull serial) is = absurd is
  other told (StampFull number) is = absurd is

  -- it is answered with the entry there, and the job that this has open
  again : (wrote : Wrote) → IsRetried write note wrote → WhereTold tells (HasEntryAt (old.told store.name) position wrote) → IsLater old new
      → WriteDone tells store.name asked_again old new (Ok wrote)
  again wrote is has later = by wrote.entry refl is.entry
    where
      by : (entry : Option Entry) → wrote.entry ≡ entry → IsSomeAnd entry (λ e. FitsWrite e write) → WriteDone tells store.name asked_again old new (Ok wrote)
      by None entry_is wanting = absurd wanting
      by (Some e) entry_is fits =
          let plain = wrote_is wrote (Some e) true wrote.job entry_is is.retry refl in
          let there : WhereTold tells (entry_at (old.told store.name).log position ≡ Some e) = λ told. sym (has told).entry_is ∙ entry_is in
          let own = placed e there in
          subst (λ w. WriteDone tells store.name asked_again old new (Ok w)) (sym plain) (record {
            answer = λ told. record {
              position = position;
              live = (has told).live;
              stands = record { stands = there told; origin_is = subst (λ o. IsSomeAnd o (λ d. d.origin ≡ origin)) (there told) (stands told) };
              fits = fits;
            };
            fits = fits;
            entry = has_entry write e;
            job = tt;
            found = λ told. record { position = position; stands = there told; job_is = (has told).job_is };
            given = is.given;
            tables = stays;
            logs = growing_laws.stays tells old.told new.told stays;
            stands = subst (λ seen. StandsIn seen e) (sym is.note_is) (λ heard. (own heard).0);
            here = subst (λ seen. LiesOn seen store.name.shard e) (sym is.note_is) (λ heard. (own heard).1);
            sound = sound_stays types tells store.name old new stays sound;
            calls = record { calls = later.calls; faults = later.faults; failed = λ failed. absurd (cc) };
          })

  pub write_repeated : (result : Result Wrote StoreRefusal)
      → WhereTold tells (MatchResult result (HasEntryAt (old.told store.name) position) (IsOtherWrite (old.told store.name) position write))
      → IfOk result (IsRetried write note) → CallsKeeper KeeperFault old new result → WriteDone tells store.name asked_again old new result
  write_repeated (Ok wrote) answer is calls = again wrote is answer (record { calls = calls.calls; faults = calls.faults })
  write_repeated (Err refusal) answer is calls =
      write_refused tells store.name asked_again old new (Err refusal) refusal refl (λ told. other told refusal (answer told)) sound stays calls

-- the store of a write that was made before
module _ (tells : Bool) (store : Store) (write : Write) (note : View) (old new : KeeperState) (of : IsStoreOf tells old.told store)
    (noted : note ≡ as_note store.view) (stays : KeepsTables tells old new) where
  pub store_repeated : (after : Store) (result : Result Wrote StoreRefusal) → after ≡ store → IfOk result (IsRetried write note)
      → StoreGains tells new.told store after result
  store_repeated after (Ok wrote) same is =
      store_stays tells old new store after (Ok wrote) same (ap (λ retry. if retry then None else wrote.entry) is.retry) (is.note_is ∙ noted) stays of
  store_repeated after (Err refusal) same is = store_stays tells old new store after (Err refusal) same refl tt stays of
