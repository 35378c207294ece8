-- What a merge answers, of what its store wrote.
use Rattle.std.specs.Prelude.{Result, Ok, Err}
use Rattle.shard_tables.specs.declared.refusal.StoreRefusal.{StoreRefusal}
use Rattle.shard_tables.specs.declared.writes.Wrote.{Wrote}
use Rattle.shared_nodes.specs.declared.leader.SharedMerge.{SharedMerge}

-- what the store wrote, or its refusal
abbrev pub wrote_in : Result SharedMerge StoreRefusal → Result Wrote StoreRefusal
wrote_in (Ok merge) = Ok merge.wrote
wrote_in (Err refusal) = Err refusal
