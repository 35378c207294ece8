-- How a write is refused on the way to the leader that it passes.
use Rattle.std.proofs.Common.{◌≡◌, Bool, ap, refl, subst, sym}
use Rattle.core_steps.specs.Relays.{RefusesPassing}
use Rattle.core_steps.specs.Routes.{FailsCarry}
use Rattle.core_steps.specs.World.{world}
use Rattle.core_steps.specs.declared.nodes.Nodes.{Nodes}
use Rattle.core_steps.specs.declared.routes.Route.{Route}
use Rattle.replies.specs.declared.refusals.Refusal.{Refusal}
use Rattle.replies.specs.declared.refusals.Refusal.TheVariants.{Store, Memory}
use Rattle.replies.specs.declared.refusals.StoreRefused.TheVariants.{LinkFault}
use Rattle.replies.specs.declared.refusals.When.TheVariants.{Before}
use Rattle.tao_keeper.specs.KeeperState.{KeeperState}
use Rattle.tao_link.specs.Shown.{LinkShown}

module _ (tells : Bool) (route : Route) (refusal : Refusal) (was now : Nodes) (same : now ≡ was) (keepers : KeeperState) where
  -- before anything was carried
  pub short_before : (link : LinkShown) → refusal ≡ Memory 0 → RefusesPassing tells route refusal (world was keepers link) (world now keepers link)
  short_before link is =
      subst (λ r. RefusesPassing tells route r (world was keepers link) (world now keepers link)) (sym is)
      (refl, ap (λ (n : Nodes). world n keepers link) same)

  -- by the link
  pub stopped_there : (from to : LinkShown) → refusal ≡ Store (LinkFault to.faults Before) → FailsCarry route.follower route.leader from to
      → RefusesPassing tells route refusal (world was keepers from) (world now keepers to)
  stopped_there from to is fails =
      subst (λ r. RefusesPassing tells route r (world was keepers from) (world now keepers to)) (sym is) (
        refl,
        record {
          before = refl;
          carry = fails;
          same = record {
            fleet = ap (λ (n : Nodes). n.fleet) same;
            inboxes = ap (λ (n : Nodes). n.mail) same;
            states = ap (λ (n : Nodes). n.topology) same;
            tables = λ told at. refl;
          };
        },
      )
