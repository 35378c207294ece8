-- What promotions took away of a log.
use Rattle.std.specs.Prelude.{ℕ, List, Option}
use Rattle.tao_base.specs.declared.entry.Entry.{Entry}
use Rattle.tao_keeper.specs.Table.{LostRow, empty_table, with_lost}

-- the rows of what was lost, with one more where an epoch is given: that of the log's entries past the length
abbrev pub lost_from : List Entry → List LostRow → ℕ → Option ℕ → List LostRow
lost_from log rows len row = with_lost (record empty_table { log = log; lost = rows }) len row
