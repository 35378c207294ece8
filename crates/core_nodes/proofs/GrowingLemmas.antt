-- What makes logs of stores grow, and no other, and moves no cut.
use Rattle.std.proofs.Common.{◌≡◌, ◌≢◌, ◌⊎◌, Bool, true, Option, Some, None, refl, sym, ap, subst, ◌∙◌, inl, inr}
use Rattle.graph_model.specs.Told.{WhereTold}
use Rattle.shard_tables.specs.Written.{TableGains}
use Rattle.tao_base.specs.declared.entry.Entry.{Entry}
use Rattle.tao_base.specs.declared.id.StoreName.{StoreName}
use Rattle.tao_keeper.proofs.Growing.{commits_grow, cuts_in_turn, cuts_stay, grow_in_turn, same_cut, same_or_other, stays_grow}
use Rattle.tao_keeper.specs.KeeperState.{KeeperState, KeepsTables}
use Rattle.tao_keeper.specs.Growing.{LogsGrow}
use Rattle.tao_keeper.specs.Table.{Becomes, Table, Tables, after_commit}
use Rattle.tao_keeper.specs.declared.jobs.Job.{Job}
use Rattle.topology.specs.Config.{Settings}
use Rattle.core_model.proofs.PastCuts.{come_on}
use Rattle.core_model.specs.Growing.{StoresGrow}
use Rattle.core_model.specs.Stores.{AreInOrder, AreKeptIn, ComeToCuts, IsConfiguredStore}

-- where no table changes
pub stays_stores : (tells : Bool) (s : Settings) (old new : KeeperState) → KeepsTables tells old new → StoresGrow tells s old.told new.told
stays_stores tells s old new stays = record {
  on = record {
    logs = stays_grow tells old.told new.told stays;
    lines = λ told at. ap (λ t. t.line) (stays told at);
    others = λ told at none. stays told at;
  };
  cuts = cuts_stay tells old.told new.told stays;
}

-- one thing after another
pub stores_in_turn : (tells : Bool) (s : Settings) (old mid new : Tables) → StoresGrow tells s old mid → StoresGrow tells s mid new
    → StoresGrow tells s old new
stores_in_turn tells s old mid new one two = record {
  on = record {
    logs = grow_in_turn tells old mid new one.on.logs two.on.logs;
    lines = λ told at. two.on.lines told at ∙ one.on.lines told at;
    others = λ told at none. two.on.others told at none ∙ one.on.others told at none;
  };
  cuts = cuts_in_turn tells old mid new one.cuts two.cuts;
}

-- where the table of a configured store becomes one with the same line and the same cut
pub becomes_stores : (tells : Bool) (s : Settings) (old new : Tables) (at : StoreName) (table : Table) → IsConfiguredStore s at → LogsGrow tells old new
    → table.line ≡ (old at).line → table.cut ≡ (old at).cut → WhereTold tells (Becomes old new at table) → StoresGrow tells s old new
becomes_stores tells s old new at table configured logs line cut becomes = record {
  on = record {
    logs = logs;
    lines = λ told other. line_stays told other (same_or_other other at);
    others = λ told other none. (becomes told).others other (λ same. none (subst (IsConfiguredStore s) (sym same) configured));
  };
  cuts = same_cut tells old new at table cut becomes;
}
  where
    line_stays : (told : tells ≡ true) (other : StoreName) → (other ≡ at) ⊎ (other ≢ at) → (new other).line ≡ (old other).line
    line_stays told other (inl is) = subst (λ a. (new a).line ≡ (old a).line) (sym is) (ap (λ (t : Table). t.line) (becomes told).here ∙ line)
    line_stays told other (inr differs) = ap (λ (t : Table). t.line) ((becomes told).others other differs)

-- where the log of a configured store gains an entry, or none
pub gains_stores : (tells : Bool) (s : Settings) (old new : KeeperState) (at : StoreName) (added : Option Entry) (job : Option Job)
    → IsConfiguredStore s at → WhereTold tells (TableGains old.told new.told at added job) → StoresGrow tells s old.told new.told
gains_stores tells s old new at None job configured gains = stays_stores tells s old new gains
gains_stores tells s old new at (Some entry) job configured gains =
    becomes_stores tells s old.told new.told at (after_commit (old.told at) entry job) configured
    (commits_grow tells old.told new.told at entry job gains) refl refl gains

-- what is kept while logs grow is in order still
pub in_order_on : (tells : Bool) (s : Settings) (old new : Tables) → WhereTold tells (ComeToCuts s old) → WhereTold tells (AreKeptIn s new)
    → StoresGrow tells s old new → WhereTold tells (AreInOrder s new)
in_order_on tells s old new come kept grow told =
    let heard : StoresGrow true s old new = subst (λ t. StoresGrow t s old new) told grow in
    record { kept = kept told; cuts = come_on s old new heard.on.logs heard.cuts (come told) }
