-- How contracts see a read that is under way.
use Rattle.std.specs.Prelude.{ℕ, ⊤, Bool, true, false, ◌||◌, Option, Some, None}
use Rattle.tao_base.specs.declared.query.Query.{Query}
use Rattle.hop_count.specs.Hops.{hops_after}
use Rattle.node_name.specs.declared.NodeName.{NodeName}
use Rattle.read_plan.specs.Standings.{standing_after, without_fill, without_note}
use Rattle.read_plan.specs.declared.stages.ReadResult.{ReadResult}
use Rattle.read_plan.specs.declared.standing.Standing.{Standing}
use Rattle.read_plan.specs.declared.standing.Standing.TheVariants.{Looking, Asking, Mastering, Keeping, Ended}

-- a read: what it asks, from which tier, with which floor and at which follower; the session that is to learn which version it answers, where there is one;
-- the ask that it opened, and the bound of the type that it reads; who gave it what it is to keep; where it stands, and what its stages have cost
pub record Reading : Type 0 where
  pub query : Query
  pub region : ℕ
  pub tier : ℕ
  pub floor : ℕ
  pub critical : Bool
  pub follower : NodeName
  pub reader : Option ℕ
  pub ask : Option ℕ
  pub bound : ℕ
  pub by : Option NodeName
  pub at : Standing
  pub hops : ℕ
  pub store : Bool

-- a read that is begun
abbrev pub new_reading : Query → ℕ → ℕ → ℕ → Bool → NodeName → Reading
new_reading query region tier floor critical follower = record {
  query = query;
  region = region;
  tier = tier;
  floor = floor;
  critical = critical;
  follower = follower;
  reader = None;
  ask = None;
  bound = 0;
  by = None;
  at = Looking;
  hops = 0;
  store = false;
}

-- a read after a stage that came to this, with its hops, and whether it called a keeper
abbrev pub taken : ReadResult → ℕ → Bool → Reading → Reading
taken outcome hops store p =
    record p { at = standing_after p.critical p.bound p.at outcome; hops = hops_after p.hops hops; store = p.store || store }

-- a read that the node gives what it is to keep
abbrev pub given_by : NodeName → Reading → Reading
given_by node p = record p { by = Some node }

-- a read of which the session is to learn
abbrev pub read_by : ℕ → Reading → Reading
read_by session p = record p { reader = Some session }

-- a read whose fill is handed out
abbrev pub fill_handed : Reading → Reading
fill_handed p = record p { at = without_fill p.at }

-- a read whose note, of an answer past the bound, is handed out
abbrev pub note_handed : Reading → Reading
note_handed p = record p { at = without_note p.at }

-- a critical read asks no leader
abbrev pub NeverAsks : Bool → Standing → Type 0
NeverAsks true Asking = ⊥
NeverAsks true Looking = ⊤
NeverAsks true Mastering = ⊤
NeverAsks true (Keeping given) = ⊤
NeverAsks true (Ended end) = ⊤
NeverAsks false at = ⊤
