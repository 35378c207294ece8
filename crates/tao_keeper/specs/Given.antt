-- What a keeper takes and gives, whether it tells its tables or not.
use Rattle.std.specs.Prelude.{ℕ, ◌≤◌, ◌<◌, All, List, length}
use Rattle.tao_base.specs.Stamps.{stamp_of}
use Rattle.tao_base.specs.declared.edge.Edge.{Edge}
use Rattle.tao_base.specs.declared.entry.Entry.{Entry}
use Rattle.tao_base.specs.declared.entry.Touch.{Touch}
use Rattle.tao_keeper.specs.declared.jobs.Job.{Job}
use Rattle.tao_keeper.specs.declared.keeper.TheConstants.{EPOCH_LIMIT, MOST_ENTRIES, REGION_LIMIT, STAMP_LIMIT}
use Rattle.graph_model.specs.Edges.{IsInListOrder, number_of, state_left}
use Rattle.graph_model.specs.Soundness.{EdgeUpdate}

-- a position in a log
abbrev pub IsPosition : ℕ → Type 0
IsPosition position = (0 < position) × (position ≤ MOST_ENTRIES)

-- the records that the touches leave have stamps below the limit
abbrev pub HaveSmallStamps : List Touch → Type 0
HaveSmallStamps touches = All (λ t. number_of (state_left t.change) < STAMP_LIMIT) touches

-- the records have stamps below the limit
abbrev pub HaveSmallRecords : List EdgeUpdate → Type 0
HaveSmallRecords us = All (λ u. (stamp_of u.3).number < STAMP_LIMIT) us

-- a job that is taken or given: of a position of a log, with a record at least, its stamps below the limit
pub record IsGivenJob (job : Job) : Type 0 where
  pub position : IsPosition job.position
  pub some : 0 < length job.edges
  pub stamps : HaveSmallRecords job.edges

-- edges that are given: at most as many as were asked for, newest first, no two to one id, with stamps below the limit
pub record AreGiven (most : ℕ) (edges : List Edge) : Type 0 where
  pub few : length edges ≤ most
  pub in_order : IsInListOrder edges
  pub stamps : All (λ e. e.stamp.number < STAMP_LIMIT) edges

-- an entry that is given: at a position of a log, its versions at most as many as a log has entries, its stamps below the limit
pub record IsGivenEntry (e : Entry) : Type 0 where
  pub position : IsPosition e.position
  pub versions : All (λ t. t.version ≤ MOST_ENTRIES) e.touches
  pub stamps : HaveSmallStamps e.touches

-- an epoch and a master region that are taken or given: no epoch is past the last, and no configuration has more regions
pub record IsGivenRole (role : ℕ × ℕ) : Type 0 where
  pub epoch : role.0 ≤ EPOCH_LIMIT
  pub region : role.1 < REGION_LIMIT
