-- How it is printed that stores could not be opened.
use Rattle.std.specs.Prelude.{ℕ, List, codes}
use Rattle.replies.specs.declared.opening.OpenRefusal.{OpenRefusal}
use Rattle.replies.specs.declared.opening.OpenRefusal.TheVariants.{Disagree, KeeperFault, OtherLine, OutOfMemory}

-- why stores could not be opened
abbrev pub open_text : OpenRefusal → List ℕ
open_text KeeperFault = codes "the keeper failed"
open_text OtherLine = codes "a store was first opened with another line"
open_text (Disagree store position) = codes "a store's log isn't its master's"
open_text OutOfMemory = codes "out of memory"
