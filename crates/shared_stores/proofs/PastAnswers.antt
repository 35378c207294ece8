-- An answer past the bound, as a store read it, in what was seen.
use Rattle.std.proofs.Common.{◌≡◌, ℕ, Bool, Result, Ok, Err, IfOk, length, take, min, true, refl, ap, sym, subst, ◌∙◌, arith}
use Rattle.std.proofs.lemmas.List.{take_min}
use Rattle.node_stages.specs.core_model.Reads.{given_of}
use Rattle.graph_model.specs.Log.{version as version_of}
use Rattle.graph_model.specs.Told.{WhereTold}
use Rattle.log_names.specs.Names.{LogNames}
use Rattle.shard_log.proofs.Beginnings.{begins-self}
use Rattle.shard_log.proofs.GrowthLemmas.{first_stay}
use Rattle.shard_log.specs.View.{Begins, Grows, LogName, View}
use Rattle.shard_tables.specs.ReadOuts.{IsOpenList, IsReadOutOf, read_note}
use Rattle.shard_tables.specs.Stores.{note_of, seen_by}
use Rattle.shard_tables.specs.declared.read_out.ReadOut.{ReadOut}
use Rattle.shard_tables.specs.declared.read_out.ReadOut.TheVariants as out
use Rattle.shard_tables.specs.declared.refusal.StoreRefusal.{StoreRefusal}
use Rattle.shard_tables.specs.declared.store.StoreRole.{StoreRole}
use Rattle.shard_tables.specs.declared.store.StoreRole.TheVariants.{Master, Slave}
use Rattle.tao_base.specs.EdgeTypes.{EdgeTypes}
use Rattle.tao_base.specs.Queries.{query_key}
use Rattle.tao_base.specs.declared.query.Answer.{Answer}
use Rattle.tao_base.specs.declared.query.Query.{Query}
use Rattle.shared_stores.specs.Locked.{IsSharedStore, Locked, table_in}
use Rattle.shared_stores.specs.Making.{Making}
use Rattle.shared_stores.specs.PastBound.{IsUndecidedGiven, IsUndecidedIn}

-- what no front decides in a beginning of what was seen, none does there in what is seen later
pub undecided_grows : (types : EdgeTypes) (u v : View) (query : Query) (version total : ℕ) → Grows u v → IsUndecidedIn types u query version total
    → IsUndecidedIn types v query version total
undecided_grows types u v query version total grows is told =
    let at = is (ap (λ (l : LogName). l.told) (sym grows.log_is) ∙ told) in
    let n : ℕ = min at.n (length u.entries) in
    let same : take n v.entries ≡ take at.n u.entries = first_stay u v n grows (omega arith) ∙ take_min at.n u.entries in
    record {
      n = n;
      version_is = at.version_is ∙ ap (λ log. version_of log (query_key query)) (sym same);
      list_is = subst (λ log. IsOpenList types log query total) (sym same) at.list_is;
    }

module _ (tells : Bool) (m : Making) (log : LogNames) (l : Locked) (kept : IsSharedStore tells m log l) where
  -- a store has seen its keeper's log, and maybe more of the shard's
  own_begins : tells ≡ true → Begins (table_in l).log l.store.view.entries
  own_begins told = by l.store.role refl
    where
      by : (role : StoreRole) → l.store.role ≡ role → Begins (table_in l).log l.store.view.entries
      by Master is = subst (Begins (table_in l).log) (sym (kept.master told is).whole) (begins-self (table_in l).log)
      by Slave is = (kept.slave told is).begins

  noted : (role : StoreRole) (view : View) → (seen_by role view).entries ≡ view.entries × ((seen_by role view).log ≡ view.log)
  noted Master view = (refl, refl)
  noted Slave view = (refl, refl)

  -- what it read past the bound is so in a note of what it has seen
  past_noted : (types : EdgeTypes) (query : Query) (answer : Answer) (version total : ℕ) (note : View) → note ≡ note_of l.store
      → WhereTold l.store.view.log.told (IsReadOutOf types (table_in l).log query (out.Past answer version total note))
      → IsUndecidedIn types note query version total
  past_noted types query answer version total note is reads told =
      let seen = noted l.store.role l.store.view in
      let entries : note.entries ≡ l.store.view.entries = ap (λ (v : View). v.entries) is ∙ seen.0 in
      let own : l.store.view.log.told ≡ true = ap (λ (n : LogName). n.told) (sym seen.1) ∙ ap (λ (v : View). v.log.told) (sym is) ∙ told in
      let begins : (table_in l).log ≡ take (length (table_in l).log) note.entries =
      own_begins (sym kept.told_is ∙ own) ∙ ap (take (length (table_in l).log)) (sym entries) in
      let r = reads own in
      record {
        n = length (table_in l).log;
        version_is = r.0.version_is ∙ ap (λ part. version_of part (query_key query)) begins;
        list_is = subst (λ part. IsOpenList types part query total) begins r.1;
      }

  pub read_noted : (types : EdgeTypes) (query : Query) (read : ReadOut) → read_note read ≡ note_of l.store
      → WhereTold l.store.view.log.told (IsReadOutOf types (table_in l).log query read) → IsUndecidedGiven types query (given_of read)
  read_noted types query (out.Filled fill) is reads = tt
  read_noted types query (out.Past answer version total note) is reads = past_noted types query answer version total note is reads

  -- what a store reads
  pub read_seen : (types : EdgeTypes) (query : Query) (r : Result ReadOut StoreRefusal) → IfOk r (λ read. read_note read ≡ note_of l.store)
      → WhereTold tells (IfOk r (IsReadOutOf types (table_in l).log query)) → IfOk r (λ read. IsUndecidedGiven types query (given_of read))
  read_seen types query (Ok read) is reads = read_noted types query read is (λ own. reads (sym kept.told_is ∙ own))
  read_seen types query (Err refusal) is reads = tt
