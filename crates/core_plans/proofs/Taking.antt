-- How the carries and the calls of stages add up that follow each other.
use Rattle.std.proofs.Common.{◌≡◌, ℕ, ◌+◌, ◌*◌, ◌<◌, ◌≤◌, Bool, false, ◌||◌, ap, sym, ◌∙◌, arith}
use Rattle.std.proofs.lemmas.Bool.Decides.{nat_tests}
use Rattle.std.specs.Prelude.{nat_lt}
use Rattle.core_steps.specs.Routes.{FailsCarry, hops_between, there_and_back, was_called}
use Rattle.hop_count.specs.Hops.{hops_after}
use Rattle.node_name.specs.declared.NodeName.{NodeName}
use Rattle.tao_keeper.specs.KeeperState.{KeeperState}
use Rattle.tao_link.specs.Shown.{LinkShown, after_carry}

-- ---- carries

-- a stage carries twice at most
pub record CarriesFew (old new : LinkShown) : Type 0 where
  pub rise : old.carries ≤ new.carries
  pub few : new.carries ≤ old.carries + 2

module _ (old new : LinkShown) where
  pub none_carried : new ≡ old → CarriesFew old new
  none_carried is =
      let same : new.carries ≡ old.carries = ap (λ (l : LinkShown). l.carries) is in
      record { rise = omega (arith, same); few = omega (arith, same) }

  pub once_carried : new ≡ after_carry old → CarriesFew old new
  once_carried is =
      let one : new.carries ≡ (after_carry old).carries = ap (λ (l : LinkShown). l.carries) is in
      record { rise = omega (arith, one); few = omega (arith, one) }

  pub both_carried : new ≡ there_and_back old → CarriesFew old new
  both_carried is =
      let two : new.carries ≡ (there_and_back old).carries = ap (λ (l : LinkShown). l.carries) is in
      record { rise = omega (arith, two); few = omega (arith, two) }

  -- a carry that failed was counted
  pub lost_there : (from to : NodeName) → FailsCarry from to old new → CarriesFew old new
  lost_there from to is =
      let one = is.counted in
      record { rise = omega (arith, one); few = omega (arith, one) }

  pub lost_back : (from to : NodeName) → FailsCarry from to (after_carry old) new → CarriesFew old new
  lost_back from to is =
      let two = is.counted in
      record { rise = omega (arith, two); few = omega (arith, two) }

-- what no stage carried
pub none_between : (old new : LinkShown) → new ≡ old → 0 ≡ hops_between old new
none_between old new is =
    let same : new.carries ≡ old.carries = ap (λ (l : LinkShown). l.carries) is in
    omega (arith, same)

-- the hops are the carries since the first of the two; with two for each stage that is left they stay few
pub record HasTaken (first now : LinkShown) (hops left : ℕ) : Type 0 where
  pub rise : first.carries ≤ now.carries
  pub hops_is : hops ≡ hops_between first now
  pub few : hops + 2 * left ≤ 10

pub takes_more : (first old new : LinkShown) (hops left next : ℕ) → HasTaken first old hops left → CarriesFew old new → next < left
    → HasTaken first new (hops_after hops (hops_between old new)) next
takes_more first old new hops left next taken more less =
    let rose = taken.rise in
    let is = taken.hops_is in
    let few = taken.few in
    let rise = more.rise in
    let two = more.few in
    record { rise = omega arith; hops_is = omega arith; few = omega arith }

-- ---- calls of a keeper

called_more : (a b c : ℕ) → a ≤ b → b ≤ c → (nat_lt a b || nat_lt b c) ≡ nat_lt a c
called_more a b c ab bc = grind (arith, nat_tests)

uncalled : (n : ℕ) → false ≡ nat_lt n n
uncalled n = grind (arith, nat_tests)

pub none_called : (old new : KeeperState) → new ≡ old → false ≡ was_called old new
none_called old new is = uncalled old.calls ∙ sym (ap (λ (k : KeeperState). nat_lt old.calls k.calls) is)

-- it says whether a keeper was called since the first of the two
pub record HasCalled (first now : KeeperState) (store : Bool) : Type 0 where
  pub rise : first.calls ≤ now.calls
  pub store_is : store ≡ was_called first now

pub calls_more : (first old new : KeeperState) (store : Bool) → HasCalled first old store → old.calls ≤ new.calls
    → HasCalled first new (store || was_called old new)
calls_more first old new store called later =
    let rose = called.rise in
    record {
      rise = omega (arith, rose, later);
      store_is = ap (λ b. b || was_called old new) called.store_is ∙ called_more first.calls old.calls new.calls rose later;
    }
