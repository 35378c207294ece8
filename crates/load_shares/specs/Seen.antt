-- What the passes of a thread have seen.
use Rattle.std.specs.Prelude.{ℕ, ◌≡◌, All, IsSomeAnd, List, Some, slice_get}
use Rattle.session_pass.specs.Passes.{SeenPass}
use Rattle.shard_log.specs.View.{Begins, View}
use Rattle.tao_base.specs.declared.entry.Entry.{Entry}

-- each pass is such
abbrev pub EachPass : (SeenPass → Type 0) → List SeenPass → Type 0
EachPass Is passes = All Is passes

-- what was seen of each shard's log begins the shard's of these logs
abbrev pub BeginLogs : List (List Entry) → List View → Type 0
BeginLogs logs notes = (shard : ℕ) (note : View) → slice_get notes shard ≡ Some note → IsSomeAnd (slice_get logs shard) (Begins note.entries)

-- what all passes have seen begins these logs
abbrev pub AllBegin : List (List Entry) → List SeenPass → Type 0
AllBegin logs passes = EachPass (λ pass. BeginLogs logs pass.notes) passes

-- the passes have seen all that they had before: logs that begin with what they see begin with what they saw
abbrev pub SeeOn : List SeenPass → List SeenPass → Type 0
SeeOn old new = (logs : List (List Entry)) → AllBegin logs new → AllBegin logs old
