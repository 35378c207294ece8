-- Logs only grow: where no table changes, where one gains an entry, and by one thing after another.
use Rattle.std.proofs.Common.{◌≡◌, ◌≢◌, ◌⊎◌, Bool, true, List, [], ◌∷◌, ◌++◌, length, take, sym, ap, ◌∙◌, subst, inl, inr, arith}
use Rattle.std.proofs.lemmas.Bool.{cases_eq}
use Rattle.std.proofs.lemmas.List.{length-take, take-append-le, take-take, take_all}
use Rattle.std.specs.Prelude.{Option}
use Rattle.graph_model.specs.Told.{WhereTold}
use Rattle.tao_base.specs.declared.entry.Entry.{Entry}
use Rattle.tao_base.specs.declared.id.StoreName.{StoreName}
use Rattle.tao_keeper.specs.Growing.{CutsStay, CutsStayLaws, GrowingLaws, LogsGrow}
use Rattle.tao_keeper.specs.Table.{Becomes, Stays, Table, Tables, after_commit}
use Rattle.tao_keeper.specs.declared.jobs.Job.{Job}

-- a list is its own beginning, also of a longer one and of one that is the same
begins_self : (log : List Entry) → log ≡ take (length log) log
begins_self log = sym (take_all (length log) log (omega arith))

begins_same : (log same : List Entry) → same ≡ log → log ≡ take (length log) same
begins_same log same is = subst (λ l. log ≡ take (length log) l) (sym is) (begins_self log)

begins_more : (log more : List Entry) → log ≡ take (length log) (log ++ more)
begins_more log more = begins_self log ∙ sym (take-append-le (length log) log more (omega arith))

begins_in_turn : (xs ys zs : List Entry) → xs ≡ take (length xs) ys → ys ≡ take (length ys) zs → xs ≡ take (length xs) zs
begins_in_turn xs ys zs p q =
    let cut = length-take (length xs) ys in
    let same = ap length p in
    p ∙ (ap (take (length xs)) q ∙ take-take (length xs) (length ys) zs (omega arith))

-- it is that store, or another one
pub same_or_other : (a b : StoreName) → (a ≡ b) ⊎ (a ≢ b)
same_or_other a b = by_parts (cases_eq a.region b.region) (cases_eq a.shard b.shard)
  where
    by_parts : (a.region ≡ b.region) ⊎ (a.region ≢ b.region) → (a.shard ≡ b.shard) ⊎ (a.shard ≢ b.shard) → (a ≡ b) ⊎ (a ≢ b)
    by_parts (inl region) (inl shard) = inl (λ i. record { region = region i; shard = shard i })
    by_parts (inl region) (inr shard) = inr (λ is. shard (ap (λ n. n.shard) is))
    by_parts (inr region) shard = inr (λ is. region (ap (λ n. n.region) is))

pub stays_grow : (tells : Bool) (old new : Tables) → WhereTold tells (Stays old new) → LogsGrow tells old new
stays_grow tells old new stays = record { begins = λ told at. begins_same (old at).log (new at).log (ap (λ t. t.log) (stays told at)) }

becomes_grows : (old new : Tables) (at : StoreName) (table : Table) → Becomes old new at table → (old at).log ≡ take (length (old at).log) table.log
    → (s : StoreName) → (old s).log ≡ take (length (old s).log) (new s).log
becomes_grows old new at table becomes longer s = elim (same_or_other s at) [
  | inl is ↦ subst (λ n. (old n).log ≡ take (length (old n).log) (new n).log) (sym is)
      (subst (λ t. (old at).log ≡ take (length (old at).log) t.log) (sym becomes.here) longer)
  | inr other ↦ begins_same (old s).log (new s).log (ap (λ t. t.log) (becomes.others s other))
]

pub commits_grow : (tells : Bool) (old new : Tables) (at : StoreName) (entry : Entry) (job : Option Job)
    → WhereTold tells (Becomes old new at (after_commit (old at) entry job)) → LogsGrow tells old new
commits_grow tells old new at entry job becomes = record {
  begins = λ told. becomes_grows old new at (after_commit (old at) entry job) (becomes told) (begins_more (old at).log (entry ∷ []));
}

pub same_logs_grow : (tells : Bool) (old new : Tables) (at : StoreName) (table : Table) → table.log ≡ (old at).log
    → WhereTold tells (Becomes old new at table) → LogsGrow tells old new
same_logs_grow tells old new at table same becomes = record {
  begins = λ told. becomes_grows old new at table (becomes told) (begins_same (old at).log table.log same);
}

pub grow_in_turn : (tells : Bool) (old mid new : Tables) → LogsGrow tells old mid → LogsGrow tells mid new → LogsGrow tells old new
grow_in_turn tells old mid new first then = record {
  begins = λ told at. begins_in_turn (old at).log (mid at).log (new at).log (first.begins told at) (then.begins told at);
}

pub growing_laws : GrowingLaws
growing_laws = record { stays = stays_grow; commits = commits_grow; same_log = same_logs_grow; in_turn = grow_in_turn }

-- ---- no cut moves

pub cuts_stay : (tells : Bool) (old new : Tables) → WhereTold tells (Stays old new) → CutsStay tells old new
cuts_stay tells old new stays = record { cuts = λ told at. ap (λ (t : Table). t.cut) (stays told at) }

pub same_cut : (tells : Bool) (old new : Tables) (at : StoreName) (table : Table) → table.cut ≡ (old at).cut
    → WhereTold tells (Becomes old new at table) → CutsStay tells old new
same_cut tells old new at table same becomes = record { cuts = λ told s. by told s (same_or_other s at) }
  where
    by : (told : tells ≡ true) (s : StoreName) → (s ≡ at) ⊎ (s ≢ at) → (new s).cut ≡ (old s).cut
    by told s (inl is) = subst (λ n. (new n).cut ≡ (old n).cut) (sym is) (ap (λ (t : Table). t.cut) (becomes told).here ∙ same)
    by told s (inr other) = ap (λ (t : Table). t.cut) ((becomes told).others s other)

pub cuts_in_turn : (tells : Bool) (old mid new : Tables) → CutsStay tells old mid → CutsStay tells mid new → CutsStay tells old new
cuts_in_turn tells old mid new first second = record { cuts = λ told at. second.cuts told at ∙ first.cuts told at }

pub cuts_stay_laws : CutsStayLaws
cuts_stay_laws = record { stays = cuts_stay; same_cut = same_cut; in_turn = cuts_in_turn }
