-- The requests of a workload that a run has made, and what it printed of their replies.
use Rattle.std.specs.Prelude.{ℕ, ◌≡◌, ◌+◌, ◌≤◌, ◌++◌, Bool, List, [], ◌∷◌, map}
use Rattle.load_gen.specs.Summary.{calls_in, refusals_in}
use Rattle.requests.specs.declared.request.Request.{Request}
use Rattle.core_nodes.specs.Outside.{Outside}
use Rattle.tao_top.specs.Served.{IsStill, summed}
use Rattle.tao_top.specs.declared.making.Making.{Making}
use Rattle.tao_top.specs.Step.{Given, ReplyLine, Runs, State, line_read, request_made}

-- a workload under way: the requests that are left, how many calls it has, and how many of them were refused
pub record Workload : Type 0 where
  pub left : List Request
  pub calls : ℕ
  pub refused : ℕ

-- a workload that has these requests left, so many calls, and so many of them refused
abbrev pub under_way : List Request → ℕ → ℕ → Workload
under_way left calls refused = record { left = left; calls = calls; refused = refused }

-- the workload of a run
abbrev pub way_of : Making → Workload
way_of making = under_way making.workload making.calls making.refused

-- no more calls were refused, and are left, than there are
abbrev pub CountsCalls : Workload → Type 0
CountsCalls workload = workload.refused + calls_in workload.left ≤ workload.calls

-- how many of the calls that were made were refused
abbrev pub refused_in : List Request → List ReplyLine → ℕ
refused_in [] replies = 0
refused_in (request ∷ requests) [] = 0
refused_in (request ∷ requests) (reply ∷ replies) = refusals_in request reply.reply + refused_in requests replies

-- what is printed of the replies to these requests of a workload
abbrev pub summed_of : Workload → List Request → List ReplyLine → List ℕ
summed_of workload requests replies = summed workload.calls workload.refused (map request_made requests) replies

-- some requests of the workload were made, each has its reply, and what is printed of the replies was written so
pub record Made (tells : Bool) (old new : State) (before after : Workload) (Writes : List ℕ → Type 0) : Type 0 where
  pub requests : List Request
  pub replies : List ReplyLine
  pub came : before.left ≡ requests ++ after.left
  pub run : Runs tells old (map request_made requests) replies new
  pub calls : after.calls ≡ before.calls
  pub refused : after.refused ≡ before.refused + refused_in requests replies
  pub written : Writes (summed_of before requests replies)

-- some requests of the workload have their replies, and what is printed of the replies was written so; since the last reply no table changed
pub record MadeInPart (tells : Bool) (old : State) (now : Outside) (before : Workload) (Writes : List ℕ → Type 0) : Type 0 where
  pub last : State
  pub requests : List Request
  pub more : List Request
  pub replies : List ReplyLine
  pub came : before.left ≡ requests ++ more
  pub run : Runs tells old (map request_made requests) replies last
  pub written : Writes (summed_of before requests replies)
  pub still : IsStill tells last now

-- all requests of the workload were made, each has its reply, and what is printed of the replies was written so
pub record MadeAll (tells : Bool) (old new : State) (before : Workload) (Writes : List ℕ → Type 0) : Type 0 where
  pub replies : List ReplyLine
  pub run : Runs tells old (map request_made before.left) replies new
  pub written : Writes (summed_of before before.left replies)
