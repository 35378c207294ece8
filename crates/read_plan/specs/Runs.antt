-- The stages of a read, one after another: how many they are, what they cost, and where an answer comes from.
use Rattle.std.specs.Prelude.{ℕ, ◌≡◌, ◌≤◌, ◌+◌, Bool, true, false, min, List, [], ◌∷◌, length, Option, Some, None, Ok, Err}
use Rattle.std.specs.List.{list_any}
use Rattle.tao_base.specs.declared.query.Answer.{Answer}
use Rattle.tao_base.specs.declared.query.Query.{Query}
use Rattle.hop_count.specs.Hops.{most_hops}
use Rattle.node_name.specs.declared.NodeName.{NodeName}
use Rattle.cache_items.specs.declared.look.Kept.{Kept as KeptWhy}
use Rattle.cache_items.specs.declared.look.Look.TheVariants.{Hit, Miss}
use Rattle.replies.specs.declared.nodes.KeptOrNot.{KeptOrNot}
use Rattle.read_plan.specs.Readings.{Reading, fill_handed, new_reading, note_handed, taken}
use Rattle.read_plan.specs.Standings.{IsAnsweredFrom, came_of, stage_of}
use Rattle.read_plan.specs.declared.end.ReadEnd.TheVariants.{Answered}
use Rattle.read_plan.specs.declared.stages.ReadResult.{ReadResult}
use Rattle.read_plan.specs.declared.stages.ReadResult.TheVariants as came
use Rattle.read_plan.specs.declared.stages.ReadStage.TheVariants as stage
use Rattle.read_plan.specs.declared.standing.Given.TheVariants.{Fill, HandedOut, Past}
use Rattle.read_plan.specs.declared.standing.Standing.{Standing}
use Rattle.read_plan.specs.declared.standing.Standing.TheVariants.{Keeping, Ended}

-- a stage that was done: what it came to, its hops, and whether it called a keeper
pub record DoneStage : Type 0 where
  pub came : ReadResult
  pub hops : ℕ
  pub store : Bool

-- what it came to is of the stage that follows, and the follower answered exactly where a fill was given
pub record IsOfNextStage (p : Reading) (outcome : ReadResult) : Type 0 where
  pub stage : came_of outcome ≡ stage_of p.at
  pub answered : IsAnsweredFrom p.at outcome

-- the last read is the first after these stages, each of which followed
abbrev pub Goes : Reading → List DoneStage → Reading → Type 0
Goes p [] q = q ≡ p
Goes p (s ∷ rest) q = IsOfNextStage p s.came × Goes (taken s.came s.hops s.store p) rest q

-- how many hops the stages took in all
abbrev pub hops_of : List DoneStage → ℕ
hops_of [] = 0
hops_of (s ∷ rest) = s.hops + hops_of rest

-- whether the result is that of the stage `ask`, which asks a leader
abbrev pub is_ask : ReadResult → Bool
is_ask (came.Ask answer) = true
is_ask (came.Look look) = false
is_ask (came.Master out) = false
is_ask (came.Keep found) = false

-- at most four stages are done. Their hops add up, and a keeper was called where one of them called one. A critical read asks no leader
pub record StagesAdd (critical : Bool) (stages : List DoneStage) (q : Reading) : Type 0 where
  pub few : length stages ≤ 4
  pub hops : q.hops ≡ min (hops_of stages) most_hops
  pub store : q.store ≡ list_any (λ s. s.store) stages
  pub unasked : critical ≡ true → list_any (λ s. is_ask s.came) stages ≡ false

-- each read that was begun takes at most four stages, and its hops and its calls of a keeper are those of its stages
pub record ReadsEnd (query : Query) (region tier floor : ℕ) (critical : Bool) (follower : NodeName) : Type 0 where
  pub adds : (stages : List DoneStage) (q : Reading) → Goes (new_reading query region tier floor critical follower) stages q → StagesAdd critical stages q

-- the follower read the answer off the fill that was given, at the version of that; or it is the answer that was given
abbrev pub IsOfGiven : Standing → Option (Answer × KeptWhy) → Answer → ℕ → Type 0
IsOfGiven (Keeping (Fill fill)) (Some found) answer version = (answer ≡ found.0) × (version ≡ fill.version)
IsOfGiven (Keeping (HandedOut v)) (Some found) answer version = (answer ≡ found.0) × (version ≡ v)
IsOfGiven (Keeping (Past found v total seen)) None answer version = (answer ≡ found) × (version ≡ v)
IsOfGiven at found answer version = ⊥

-- an answer of a read that stood there comes from what its last stage came to: its follower's own item, or what was given
abbrev pub ComesFrom : Standing → ReadResult → Answer → ℕ → Type 0
ComesFrom at (came.Look (Ok (Hit found v))) answer version = (answer ≡ found) × (version ≡ v)
ComesFrom at (came.Keep (Ok found)) answer version = IsOfGiven at found answer version
ComesFrom at (came.Look (Ok Miss)) answer version = ⊥
ComesFrom at (came.Look (Err reply)) answer version = ⊥
ComesFrom at (came.Keep (Err reply)) answer version = ⊥
ComesFrom at (came.Ask given) answer version = ⊥
ComesFrom at (came.Master given) answer version = ⊥

-- each answer comes from what was found or given, at its version; of a critical read from what was given. Handing out the fill or the
-- note changes nothing of how the read ends
pub record AnswersAreGiven (p : Reading) (outcome : ReadResult) (hops : ℕ) (called : Bool) : Type 0 where
  pub given : (answer : Answer) (version : ℕ) (kept : KeptOrNot) → IsOfNextStage p outcome
      → (taken outcome hops called p).at ≡ Ended (Answered answer version kept) → ComesFrom p.at outcome answer version
  pub critical : (answer : Answer) (version : ℕ) (kept : KeptOrNot) → p.critical ≡ true
      → (taken outcome hops called p).at ≡ Ended (Answered answer version kept)
      → came_of outcome ≡ stage.Keep
  pub fill_out : IsOfNextStage p outcome → taken outcome hops called (fill_handed p) ≡ taken outcome hops called p
  pub note_out : IsOfNextStage p outcome → taken outcome hops called (note_handed p) ≡ taken outcome hops called p
