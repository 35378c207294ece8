-- Logs only grow.
use Rattle.std.specs.Prelude.{◌≡◌, Bool, Option, length, take}
use Rattle.graph_model.specs.Told.{WhereTold}
use Rattle.tao_base.specs.declared.entry.Entry.{Entry}
use Rattle.tao_base.specs.declared.id.StoreName.{StoreName}
use Rattle.tao_keeper.specs.Table.{Table, Tables, Becomes, Stays, after_commit}
use Rattle.tao_keeper.specs.declared.jobs.Job.{Job}

-- where they are told, each store's old log begins its new one
pub record LogsGrow (tells : Bool) (old new : Tables) : Type 0 where
  pub begins : WhereTold tells ((at : StoreName) → (old at).log ≡ take (length (old at).log) (new at).log)

-- where they are told, no log's cut moves
pub record CutsStay (tells : Bool) (old new : Tables) : Type 0 where
  pub cuts : WhereTold tells ((at : StoreName) → (new at).cut ≡ (old at).cut)

-- what makes logs grow
pub record GrowingLaws : Type 0 where
  -- no table changes
  pub stays : (tells : Bool) (old new : Tables) → WhereTold tells (Stays old new) → LogsGrow tells old new
  -- an entry is committed
  pub commits : (tells : Bool) (old new : Tables) (at : StoreName) (entry : Entry) (job : Option Job)
      → WhereTold tells (Becomes old new at (after_commit (old at) entry job)) → LogsGrow tells old new
  -- a table changes, but for its log
  pub same_log : (tells : Bool) (old new : Tables) (at : StoreName) (table : Table) → table.log ≡ (old at).log
      → WhereTold tells (Becomes old new at table) → LogsGrow tells old new
  -- one thing after another
  pub in_turn : (tells : Bool) (old mid new : Tables) → LogsGrow tells old mid → LogsGrow tells mid new → LogsGrow tells old new

-- what moves no log's cut
pub record CutsStayLaws : Type 0 where
  -- no table changes
  pub stays : (tells : Bool) (old new : Tables) → WhereTold tells (Stays old new) → CutsStay tells old new
  -- a table changes, but for its cut
  pub same_cut : (tells : Bool) (old new : Tables) (at : StoreName) (table : Table) → table.cut ≡ (old at).cut
      → WhereTold tells (Becomes old new at table) → CutsStay tells old new
  -- one thing after another
  pub in_turn : (tells : Bool) (old mid new : Tables) → CutsStay tells old mid → CutsStay tells mid new → CutsStay tells old new
