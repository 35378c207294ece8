-- The entries of a log after a position, read one after another.
use Rattle.std.proofs.Common.{◌≡◌, ℕ, zero, suc, ◌+◌, ◌-◌, ◌≤◌, Bool, true, List, [], ◌∷◌, ◌++◌, drop, length, take, Option, Some, refl, ap, sym, subst}
use Rattle.std.proofs.Common.{◌∙◌, arith}
use Rattle.std.proofs.lemmas.List.Elements.{All-drop}
use Rattle.std.specs.Prelude.{All, IfSome, slice_get}
use Rattle.graph_model.proofs.Rising.{take_with}
use Rattle.graph_model.specs.Log.{entry_at}
use Rattle.cache_items.specs.Node.{Node}
use Rattle.core_model.specs.follower_cache.declared.queue.Refill.{Refill}
use Rattle.graph_model.specs.Told.{WhereTold}
use Rattle.core_model.proofs.leader_tier_lemmas.LegalReads.{role_log}
use Rattle.served_shards.specs.Served.{IsLowWater, ServedShard, log_at, low_at, served_at}
use Rattle.shard_log.specs.View.{Begins, LogName, View}
use Rattle.shard_tables.specs.StoreView.{Store}
use Rattle.shard_tables.specs.Stores.{IsStoreOf, note_of}
use Rattle.tao_base.specs.Keys.{key_shard}
use Rattle.tao_base.specs.declared.entry.Entry.{Entry}
use Rattle.tao_base.specs.declared.id.StoreName.{StoreName}
use Rattle.tao_keeper.proofs.Cuts.{cut_laws}
use Rattle.tao_keeper.specs.Table.{Table, Tables, live_entry}
use Rattle.core_model.specs.Messages.{Processes}
use Rattle.node_stages.specs.Caches.{ChangesAlone}
use Rattle.node_stages.specs.Catching.{ProcessesRest, TouchShard}
use Rattle.node_stages.specs.Stages.{CacheDoes}
use Rattle.node_stages.proofs.NotesSeen.{role_entries, seen_begins}

-- an entry from a place on, counted from there
after_get : (log : List Entry) (low place : ℕ) (e : Entry) → low ≤ place → slice_get log place ≡ Some e → slice_get (drop low log) (place - low) ≡ Some e
after_get [] low place e le h = absurd (cc)
after_get (x ∷ log) zero place e le h = (let same : place - 0 ≡ place = omega arith in ap (slice_get (x ∷ log)) same ∙ h)
after_get (x ∷ log) (suc low) zero e le h = absurd (omega (arith, le))
after_get (x ∷ log) (suc low) (suc place) e le h =
    let same : suc place - suc low ≡ place - low = omega arith in
    ap (slice_get (drop low log)) same ∙ after_get log low place e (omega (arith, le)) h

-- one entry more, which is live: the position isn't before the log's cut
pub rest_more : (old one : Table) (low place : ℕ) (e : Entry) (es zs : List Entry) (found : Option Entry) → one ≡ old → old.cut ≤ low → low ≤ place
    → es ≡ take (place - low) (drop low old.log) → found ≡ live_entry one (place + 1) → found ≡ Some e → zs ≡ es ++ e ∷ []
    → zs ≡ take (place + 1 - low) (drop low old.log)
rest_more old one low place e es zs found stays live le so_far asked is put =
    let next : suc place ≡ place + 1 = omega arith in
    let read : live_entry old (place + 1) ≡ entry_at old.log (place + 1) = (cut_laws.live old (place + 1) (omega arith)).0 in
    let stands : slice_get old.log place ≡ Some e =
    ap (entry_at old.log) next ∙ sym read ∙ sym (ap (λ (t : Table). live_entry t (place + 1)) stays) ∙ sym asked ∙ is in
    let more : place + 1 - low ≡ place - low + 1 = omega arith in
    put ∙ ap (λ v. v ++ e ∷ []) so_far ∙ sym (take_with (drop low old.log) (place - low) e (after_get old.log low place e le stands))
    ∙ sym (ap (λ n. take n (drop low old.log)) more)

-- what follows a place in a beginning of a log follows it in the log
rest_begins : (low : ℕ) (log seen : List Entry) → Begins log seen → drop low log ≡ take (length (drop low log)) (drop low seen)
rest_begins zero log seen begins = begins
rest_begins (suc low) [] seen begins = refl
rest_begins (suc low) (x ∷ log) [] begins = absurd (cc)
rest_begins (suc low) (x ∷ log) (y ∷ seen) begins = rest_begins low log seen (cc)

pub rest_next : (low : ℕ) (log seen es : List Entry) → Begins log seen → es ≡ drop low log → es ≡ take (length es) (drop low seen)
rest_next low log seen es begins is = subst (λ xs. xs ≡ take (length xs) (drop low seen)) (sym is) (rest_begins low log seen begins)

-- all their touches are of the shard
pub rest_here : (shard low : ℕ) (log es : List Entry) → TouchShard shard log → es ≡ drop low log → TouchShard shard es
rest_here shard low log es here is =
    subst (TouchShard shard) (sym is) (All-drop (λ e. All (λ t. key_shard t.key ≡ shard) e.touches) low log here)

-- ---- a node that processes it

-- the node may process the entries, with the note
pub record MayProcess (shard : ℕ) (served : List ServedShard) (es : List Entry) (note : View) : Type 0 where
  pub log : log_at shard served ≡ Some note.log
  pub next : WhereTold note.log.told (es ≡ take (length es) (drop (low_at shard served) note.entries))
  pub here : WhereTold note.log.told (TouchShard shard es)

-- what was read of a store of a shard that it serves, where the code calls the store and its entries so
module _ (tells : Bool) (tables : Tables) (store : Store) (at : StoreName) (low : ℕ) (es xs : List Entry) (note : View) (same : at ≡ store.name)
    (rest : WhereTold tells (xs ≡ drop low (tables store.name).log)) (noted : note ≡ note_of store) (lent : es ≡ xs) where
  one_log : note.log ≡ store.view.log
  one_log = ap (λ (v : View). v.log) noted ∙ role_log store.role store.view

  pub may_process : (served : List ServedShard) → low ≡ low_at at.shard served → log_at store.name.shard served ≡ Some store.view.log
      → IsStoreOf tells tables store → WhereTold tells (TouchShard store.name.shard (tables store.name).log) → MayProcess at.shard served es note
  may_process served low_is log_is is touch =
      let log : List Entry = (tables store.name).log in
      let told_of : note.log.told ≡ true → tells ≡ true = λ told. sym is.told_is ∙ (sym (ap (λ (l : LogName). l.told) one_log) ∙ told) in
      let begins : tells ≡ true → Begins log note.entries = λ told.
      subst (λ (v : View). Begins log v.entries) (sym noted)
      (subst (Begins log) (sym (role_entries store.role store.view)) (seen_begins store.role log store.view.entries (is.seen told))) in
      record {
        log = subst (λ (n : StoreName). log_at n.shard served ≡ Some note.log) (sym same) (log_is ∙ ap Some (sym one_log));
        next = λ told.
            subst (λ n. es ≡ take (length es) (drop n note.entries)) low_is
            (rest_next low log note.entries es (begins (told_of told)) (lent ∙ rest (told_of told)));
        here = λ told.
            subst (λ (n : StoreName). TouchShard n.shard es) (sym same)
            (rest_here store.name.shard low log es (touch (told_of told)) (lent ∙ rest (told_of told)));
      }

  pub processed_rest : {N : Type 0} (node : N → Node) (refills : N → List Refill) (old new : N) → low ≡ low_at at.shard (node old).served
      → IfSome (served_at at.shard (node old).served) (λ s. IsLowWater s.marks)
      → CacheDoes node (ChangesAlone node refills (Processes at.shard es note)) old new
      → ProcessesRest node refills tells (tables store.name).log store old new
  processed_rest node refills old new low_is marked does =
      let served : List ServedShard = (node old).served in
      let low_there : low ≡ low_at store.name.shard served = low_is ∙ ap (λ (n : StoreName). low_at n.shard served) same in
      record {
        entries = es;
        marked = subst (λ (n : StoreName). IfSome (served_at n.shard served) (λ s. IsLowWater s.marks)) same marked;
        entries_are = λ told. lent ∙ (rest told ∙ ap (λ n. drop n (tables store.name).log) low_there);
        does = subst (λ v. CacheDoes node (ChangesAlone node refills (Processes store.name.shard es v)) old new) noted
            (subst (λ (n : StoreName). CacheDoes node (ChangesAlone node refills (Processes n.shard es note)) old new) same does);
      }
