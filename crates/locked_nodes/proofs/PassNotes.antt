-- The notes of a pass, one after another.
use Rattle.std.proofs.Common.{◌≡◌, ℕ, ◌+◌, ◌<◌, IfOk, List, [], ◌∷◌, ◌++◌, length, Result, Ok, Err, ap, sym, subst, ◌∙◌, inl, inr}
use Rattle.std.proofs.Common.{arith, length-append}
use Rattle.std.specs.Prelude.{slice_get}
use Rattle.graph_model.proofs.Sound.{slice_get-push}
use Rattle.log_names.specs.Names.{IsOfLog, LogNames}
use Rattle.session_pass.specs.Passes.{SeenPass, new_pass}
use Rattle.shard_log.specs.View.{View}
use Rattle.shared_nodes.specs.shared_stores.Making.{Making}
use Rattle.locked_nodes.specs.Nodes.{HasTier}
use Rattle.locked_nodes.specs.Passes.{AreOfTheirLogs, IsPassOf}

pub one_more_long : (count : ℕ) (note : View) (notes more : List View) → length notes ≡ count → more ≡ notes ++ note ∷ [] → length more ≡ count + 1
one_more_long count note notes more long pushed = omega (arith, long, ap length pushed, length-append notes (note ∷ []))

pub one_more_of : (log : LogNames) (shard : ℕ) (note : View) (notes more : List View) → length notes ≡ shard → AreOfTheirLogs log notes → IsOfLog log shard note
    → more ≡ notes ++ note ∷ [] → AreOfTheirLogs log more
one_more_of log shard note notes more long are is pushed n v h = elim (slice_get-push notes note n v (ap (λ l. slice_get l n) (sym pushed) ∙ h)) [
  | inl e ↦ are n v e
  | inr e ↦ subst (IsOfLog log n) e.1 (subst (λ k. IsOfLog log k note) (sym (e.0 ∙ long)) is)
]

-- a new pass with these notes is of the cluster
pub pass_of : {E : Type 0} (m : Making) (log : LogNames) (session region tier : ℕ) (notes : List View) (r : Result SeenPass E)
    → region < length m.settings.regions → HasTier m.settings region tier → length notes ≡ m.settings.shards → AreOfTheirLogs log notes
    → IfOk r (λ pass. pass ≡ new_pass session region tier notes pass.spare) → IfOk r (IsPassOf m log)
pass_of m log session region tier notes (Ok pass) home there long of_logs is =
    subst (IsPassOf m log) (sym is) (record { home = home; tier = there; long = long; notes = of_logs })
pass_of m log session region tier notes (Err e) home there long of_logs is = tt
