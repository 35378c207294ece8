-- What a change of one store's table makes of the tables of all.
use Rattle.std.proofs.Common.{◌≡◌, ◌∙◌, ℕ, true, false, cond, refl, sym, ap, subst, inl, inr, arith}
use Rattle.std.proofs.lemmas.Bool.{cases_Bool}
use Rattle.std.proofs.lemmas.Bool.Decides.{nat_tests}
use Rattle.std.specs.BTreeMap.{BTreeMap, UpdatesBy, get}
use Rattle.std.specs.Option.{option_map_or}
use Rattle.std.specs.Ordering.{is_eq}
use Rattle.std.specs.Prelude.{Option, Some, None, Result, Ok, Err, IsSome, is_ok}
use Rattle.tao_base.specs.declared.id.StoreName.{StoreName}
use Rattle.keeper_map.proofs.Grown.{ended_of_entries}
use Rattle.keeper_map.specs.declared.store.StoreTable.{StoreTable}
use Rattle.keeper_map.specs.Store.{store_cmp, store_key, table_of, tables_of}
use Rattle.tao_keeper.specs.Table.{Becomes, Changes, Stays, Table, after_end, empty_table}

abbrev Stored : Type 0
Stored = BTreeMap (ℕ × ℕ) StoreTable

abbrev told : Option StoreTable → Table
told found = option_map_or table_of found empty_table

-- a store's table is put among the others, in place of the one that it had
abbrev pub Puts : StoreName → StoreTable → Stored → Stored → Type 0
Puts at now old new = (q : ℕ × ℕ) → get store_cmp new q ≡ cond (is_eq (store_cmp (store_key at) q)) (Some now) (get store_cmp old q)

-- keys tell the stores apart
same_name : (at name : StoreName) → is_eq (store_cmp (store_key at) (store_key name)) ≡ true → at ≡ name
unfolding store_key
same_name at name h =
    let region : at.region ≡ name.region = grind (arith, nat_tests) in
    let shard : at.shard ≡ name.shard = grind (arith, nat_tests) in
    λ i. record { region = region i; shard = shard i }

own_key : (at : StoreName) → is_eq (store_cmp (store_key at) (store_key at)) ≡ true
unfolding store_key
own_key at = grind (arith, nat_tests)

put_here : (at : StoreName) (now : StoreTable) (old new : Stored) → Puts at now old new → tables_of new at ≡ table_of now
put_here at now old new step = ap told (step (store_key at) ∙ ap (λ b. cond b (Some now) (get store_cmp old (store_key at))) (own_key at))

put_elsewhere : (at : StoreName) (now : StoreTable) (old new : Stored) → Puts at now old new → (name : StoreName)
    → is_eq (store_cmp (store_key at) (store_key name)) ≡ false → tables_of new name ≡ tables_of old name
put_elsewhere at now old new step name h = ap told (step (store_key name) ∙ ap (λ b. cond b (Some now) (get store_cmp old (store_key name))) h)

-- one store's table is changed
pub put_becomes : (at : StoreName) (now : StoreTable) (old new : Stored) → Puts at now old new → Becomes (tables_of old) (tables_of new) at (table_of now)
put_becomes at now old new step = record {
  here = put_here at now old new step;
  others = λ name apart. elim (cases_Bool (is_eq (store_cmp (store_key at) (store_key name)))) [
    | inl h ↦ absurd (apart (sym (same_name at name h)))
    | inr h ↦ put_elsewhere at now old new step name h
  ];
}

-- a table that says what it said changes nothing
pub put_stays : (at : StoreName) (now : StoreTable) (old new : Stored) → Puts at now old new → table_of now ≡ tables_of old at
    → Stays (tables_of old) (tables_of new)
put_stays at now old new step is = λ name. elim (cases_Bool (is_eq (store_cmp (store_key at) (store_key name)))) [
  | inl h ↦ subst (λ n. tables_of new n ≡ tables_of old n) (same_name at name h) (put_here at now old new step ∙ is)
  | inr h ↦ put_elsewhere at now old new step name h
]

-- the table that is found is the store's
pub told_there : (old mid : Stored) (at : StoreName) (before : StoreTable) → Stays (tables_of old) (tables_of mid)
    → get store_cmp mid (store_key at) ≡ Some before
    → table_of before ≡ tables_of old at
told_there old mid at before stays found = sym (ap told found) ∙ stays at

-- a store's table is changed, after there was one
pub becomes_there : (old mid new : Stored) (at : StoreName) (before now : StoreTable) (after : Table → Table) → Stays (tables_of old) (tables_of mid)
    → get store_cmp mid (store_key at) ≡ Some before → Puts at now mid new → table_of now ≡ after (table_of before)
    → Becomes (tables_of old) (tables_of new) at (after (tables_of old at))
becomes_there old mid new at before now after stays found step is =
    let changed = put_becomes at now mid new step in
    record {
      here = changed.here ∙ is ∙ ap after (told_there old mid at before stays found);
      others = λ name apart. changed.others name apart ∙ stays name;
    }

-- how a call of a store's table ended, after there was one
pub changes_there : {T E : Type 0} (result : Result T E) (old mid new : Stored) (at : StoreName) (before now : StoreTable) (after : Table → Table)
    → Stays (tables_of old) (tables_of mid) → get store_cmp mid (store_key at) ≡ Some before → Puts at now mid new
    → table_of now ≡ cond (is_ok result) (after (table_of before)) (table_of before)
    → Changes result (tables_of old) (tables_of new) at (after (tables_of old at))
changes_there (Ok x) old mid new at before now after stays found step is = becomes_there old mid new at before now after stays found step is
changes_there (Err e) old mid new at before now after stays found step is =
    λ name. put_stays at now mid new step (is ∙ sym (ap told found)) name ∙ stays name

-- where a store has no table no job is open
pub nothing_ends : (stores : Stored) (at : StoreName) (position : ℕ) → get store_cmp stores (store_key at) ≡ None
    → Becomes (tables_of stores) (tables_of stores) at (after_end (tables_of stores at) position)
nothing_ends stores at position none =
    let empty : tables_of stores at ≡ empty_table = ap told none in
    record {
      here = subst (λ t. t ≡ after_end t position) (sym empty)
          (λ i. record empty_table { jobs = λ p. sym (ended_of_entries empty_table.jobs position p refl) i });
      others = λ name apart. refl;
    }

-- what is written at a store's key is put there
pub written : (at : StoreName) (k : ℕ × ℕ) (now : StoreTable) (old new : Stored) → k ≡ store_key at → UpdatesBy store_cmp (store_cmp k) old new (Some now)
    → Puts at now old new
written at k now old new is step = λ q. step.0 q ∙ ap (λ key. cond (is_eq (store_cmp key q)) (Some now) (get store_cmp old q)) is

pub found_at : (at : StoreName) (k : ℕ × ℕ) (found : StoreTable) (stores : Stored) → k ≡ store_key at → Some found ≡ get store_cmp stores k
    → get store_cmp stores (store_key at) ≡ Some found
found_at at k found stores is found_is = sym (found_is ∙ ap (get store_cmp stores) is)

pub is_there : (k : ℕ × ℕ) (found : StoreTable) (stores : Stored) → Some found ≡ get store_cmp stores k → IsSome (get store_cmp stores k)
is_there k found stores is = subst IsSome is refl

-- a store's first table is empty
pub first_stays : (at : StoreName) (now : StoreTable) (old new : Stored) → Puts at now old new → None ≡ get store_cmp old (store_key at)
    → table_of now ≡ empty_table → Stays (tables_of old) (tables_of new)
first_stays at now old new step none empty = put_stays at now old new step (empty ∙ ap told none)
