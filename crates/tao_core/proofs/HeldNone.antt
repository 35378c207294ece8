-- A new core holds no call, and no ask is open.
use Rattle.std.proofs.Common.{◌≡◌, ℕ, zero, suc, Bool, true, false, List, [], ◌∷◌, Some, None, sym, ◌∙◌, subst}
use Rattle.std.specs.Prelude.{slice_get}
use Rattle.std.specs.List.{AllByRecursion}
use Rattle.std.proofs.lemmas.List.Elements.{recursion_from_All}
use Rattle.ask_table.specs.declared.ask.Ask.{Ask}
use Rattle.core_model.specs.Fleet.{Fleet, named}
use Rattle.core_model.specs.declared.named.Named.{Named}
use Rattle.core_model.proofs.Places.{one_some}
use Rattle.core_nodes.specs.Beginning.{IsEmptyFleet, IsEmptyFollower}
use Rattle.core_plans.specs.Held.{ArePlansOf, HoldsAsk, IsOpenAt, Plans, plan_at}
use Rattle.core_plans.specs.declared.held.HeldPlan.{HeldPlan}
use Rattle.follower_cache.specs.Seen.{FollowerState}
use Rattle.node_name.specs.declared.NodeName.{NodeName}
use Rattle.std.specs.List.{list_any}
use Rattle.std.specs.Prelude.{◌==◌}
use Rattle.tao_keeper.specs.Table.{Tables}
use Rattle.topology.specs.Config.{Settings}

-- what holds of each holds at a place
there : {X : Type 0} (P : X → Type 0) (xs : List X) (place : ℕ) (x : X) → AllByRecursion P xs → slice_get xs place ≡ Some x → P x
there P [] place x all h = absurd (cc)
there P (y ∷ ys) zero x all h = subst P (one_some y x h) all.0
there P (y ∷ ys) (suc place) x all h = there P ys place x all.1 h

none_open : (f : Fleet) (name : NodeName) (number : ℕ) → IsEmptyFleet f → IsOpenAt name number f.followers → ⊥
none_open f name number empty h =
    let one = there (λ (follower : Named FollowerState). IsEmptyFollower follower.node) f.followers h.place (named name h.follower)
    (recursion_from_All (λ (follower : Named FollowerState). IsEmptyFollower follower.node) f.followers empty.followers) h.stands in
    let no : false ≡ true = subst (λ (asks : List Ask). list_any (λ (a : Ask). a.number == number) asks ≡ true) one.node.asks h.is_open in
    absurd (cc)

pub no_plan : (plans : Plans) (number : ℕ) (plan : HeldPlan) → ((n : ℕ) → plan_at plans n ≡ None) → plan_at plans number ≡ Some plan → ⊥
no_plan plans number plan none at = (let no : None ≡ Some plan = sym (none number) ∙ at in absurd (cc))

pub none_held : (tells : Bool) (s : Settings) (tables : Tables) (f : Fleet) (plans : Plans) → ((number : ℕ) → plan_at plans number ≡ None)
    → IsEmptyFleet f → ArePlansOf tells s tables f plans
none_held tells s tables f plans none empty = record {
  under_way = λ number plan at. absurd (no_plan plans number plan none at);
  goes_on = λ number plan at. absurd (no_plan plans number plan none at);
  begun = λ number plan at. absurd (no_plan plans number plan none at);
  asks = record {
    held = λ name number h. absurd (none_open f name number empty h);
    one = λ name number m n one two. absurd (subst (HoldsAsk name number) (none m) one);
  };
}
