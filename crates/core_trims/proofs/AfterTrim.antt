-- What a trim leaves of the nodes and of the tables.
use Rattle.std.proofs.Common.{◌≡◌, ℕ, Bool, List, Ok, length, take, ap, refl, sym, subst, ◌∙◌}
use Rattle.graph_model.specs.Told.{WhereTold}
use Rattle.node_name.specs.declared.NodeName.{NodeName}
use Rattle.replies.specs.declared.nodes.Trimmed.{Trimmed}
use Rattle.tao_base.specs.declared.id.StoreName.{StoreName}
use Rattle.tao_keeper.proofs.Growing.{stays_grow}
use Rattle.tao_keeper.specs.KeeperState.{IsLater, KeeperState, KeepsTables}
use Rattle.tao_keeper.specs.Table.{Becomes, Table, Tables, after_cut}
use Rattle.tao_link.specs.Shown.{LinkShown}
use Rattle.topology.specs.Config.{Settings}
use Rattle.core_mail.specs.Inboxes.{AreInboxesOf, HaveArrived}
use Rattle.core_model.specs.Consistent.{GoesOn, IsConsistent}
use Rattle.core_model.specs.Cuts.{ArePastCuts}
use Rattle.core_model.specs.Emptied.{RegionTables, region_tables}
use Rattle.core_model.specs.Fleet.{Fleet}
use Rattle.core_model.specs.Growing.{TablesGoOn}
use Rattle.core_model.specs.Pens.{pens_of}
use Rattle.core_model.specs.Stores.{IsConfiguredStore, region_store}
use Rattle.core_steps.proofs.core_nodes_lemmas.AskLemmas.{still_consistent}
use Rattle.core_steps.proofs.core_nodes_lemmas.CatchLemmas.{so_before}
use Rattle.core_steps.proofs.core_nodes_lemmas.FleetLemmas.{goes_self}
use Rattle.core_steps.proofs.core_nodes_lemmas.GrowingLemmas.{stays_stores}
use Rattle.core_steps.proofs.core_nodes_lemmas.TrimLemmas.{CutLeaves, cut_stays}
use Rattle.core_steps.specs.core_nodes.Trimming.{cut_to, least_mark, names_behind}
use Rattle.core_steps.proofs.NotifyLemmas.{arrived_grows}
use Rattle.core_steps.specs.World.{World, world}
use Rattle.core_steps.specs.declared.nodes.Nodes.{Nodes}
use Rattle.core_trims.specs.Trims.{AreOfRegion, ArePrepared, AreSteady, ResetEach, ResetsOn, TrimsOn, TrimsOver, count_up, names_of}
use Rattle.core_trims.specs.declared.trims.Reset.{Reset}
use Rattle.core_trims.proofs.Behind.{behind_of_region, none_behind}
use Rattle.core_trims.proofs.Resetting.{prepared_moved}

-- the nodes are in order, and what they are to begin with is prepared
pub record MayReset (tells : Bool) (s : Settings) (tables : Tables) (now : Nodes) (over : RegionTables) (resets : List Reset) : Type 0 where
  pub order : AreSteady tells s tables now.fleet now.mail
  pub prepared : ArePrepared s (pens_of now.fleet.stores) over resets

-- what a trim does, and what it leaves
pub record TrimDone (tells : Bool) (s : Settings) (at : StoreName) (position : ℕ) (trimmed : Trimmed) (old new : World) : Type 0 where
  pub over : TrimsOver tells s at position trimmed old new
  pub on : TrimsOn tells s old new

-- the nodes that are named are the store's region's
pub named_of_region : (tells : Bool) (s : Settings) (tables : Tables) (f : Fleet) (at : StoreName) (upto : ℕ) (given names : List NodeName)
    → IsConsistent tells s tables f → given ≡ names → names ≡ names_behind s f at upto → AreOfRegion s at.region given
named_of_region tells s tables f at upto given names is lent are =
    subst (AreOfRegion s at.region) (sym (lent ∙ are)) (behind_of_region s f at upto is.fleet)

module _ (tells : Bool) (s : Settings) (old : Nodes) (before : KeeperState) (steady : AreSteady tells s before.told old.fleet old.mail)
    (past : WhereTold tells (ArePastCuts before.told old.fleet)) where
  -- nothing was trimmed
  pub none_trimmed : (new : Nodes) (after : KeeperState) → new ≡ old → KeepsTables tells before after → IsLater before after
      → (link : LinkShown) → TrimsOn tells s (world old before link) (world new after link)
  none_trimmed new after same keeps later link = subst (λ (n : Nodes). TrimsOn tells s (world old before link) (world n after link)) (sym same) (record {
    order = record {
      consistent = still_consistent tells s before.told after.told old.fleet steady.consistent keeps;
      inboxes = steady.inboxes;
      arrived = arrived_grows tells before.told after.told old.mail (stays_grow tells before.told after.told keeps) steady.arrived;
    };
    states = refl;
    goes = goes_self old.fleet;
    past = λ told. (let now_same : after.told ≡ before.told = λ i at. keeps told at i in subst (λ t. ArePastCuts t old.fleet) (sym now_same) (past told));
    on = (stays_stores tells s before after keeps).on;
    later = later;
  })

  -- the log of the store was cut, over tables that had stayed till then, and what the nodes begin with had been read
  module _ (at : StoreName) (here : IsConfiguredStore s at) (least cut : ℕ) (seen asked after : KeeperState) (stays : KeepsTables tells before seen)
      (keeps : KeepsTables tells before asked) (first mid : Nodes) (first_same : first ≡ old) (same : mid ≡ old)
      (leaves : CutLeaves tells s asked.told after.told at least mid.fleet (Ok cut)) (resets : List Reset) where
    abbrev Over : RegionTables
    Over = region_tables tells after.told at.region

    abbrev Names : List NodeName
    Names = names_behind s old.fleet at least

    cut_there : WhereTold tells (cut ≡ cut_to before.told at least)
    cut_there told = so_before (λ t. cut ≡ cut_to t at least) before.told asked.told (keeps told) (leaves.cut told)

    becomes : WhereTold tells (Becomes before.told after.told at (after_cut (before.told at) cut))
    becomes told =
        subst (λ n. Becomes before.told after.told at (after_cut (before.told at) n)) (sym (cut_there told))
        (so_before (λ t. Becomes t after.told at (after_cut (t at) (cut_to t at least))) before.told asked.told (keeps told) (leaves.changes told))

    tables_on : TablesGoOn tells s before.told after.told
    tables_on = record {
      logs = record {
        begins = λ told. so_before (λ t. (name : StoreName) → (t name).log ≡ take (length (t name).log) (after.told name).log) before.told asked.told
            (keeps told) (leaves.on.logs.begins told);
      };
      lines = λ told. so_before (λ t. (name : StoreName) → (after.told name).line ≡ (t name).line) before.told asked.told (keeps told)
          (leaves.on.lines told);
      others = λ told. so_before (λ t. (name : StoreName) → (IsConfiguredStore s name → ⊥) → after.told name ≡ t name) before.told asked.told (keeps told)
          (leaves.on.others told);
    }

    -- what was prepared over tables with the same logs is prepared still
    cut_prepared : ArePrepared s (pens_of first.fleet.stores) (region_tables tells seen.told at.region) resets
        → ArePrepared s (pens_of mid.fleet.stores) Over resets
    cut_prepared are =
        subst (λ (n : Nodes). ArePrepared s (pens_of n.fleet.stores) Over resets) (first_same ∙ sym same)
        (prepared_moved (pens_of first.fleet.stores) tells seen.told after.told at.region
        (λ told shard.
        let name = region_store at.region shard in
        ap length (cut_stays (λ t. t.log) before.told after.told at cut refl (Ok cut) (becomes told) name ∙ ap (λ (t : Table). t.log) (sym (stays told name))))
        s resets are)

    -- so the nodes may begin anew
    pub may_reset : ArePrepared s (pens_of first.fleet.stores) (region_tables tells seen.told at.region) resets
        → MayReset tells s after.told mid Over resets
    may_reset are = record {
      order = record {
        consistent = leaves.consistent;
        inboxes = subst (λ (n : Nodes). AreInboxesOf s (pens_of n.fleet.stores) n.mail) (sym same) steady.inboxes;
        arrived = subst (λ (n : Nodes). WhereTold tells (HaveArrived after.told n.mail)) (sym same)
            (arrived_grows tells before.told after.told old.mail tables_on.logs steady.arrived);
      };
      prepared = cut_prepared are;
    }

    -- and once they did, the trim is done
    module _ (position count : ℕ) (given again names : List NodeName) (new : Nodes)
        (least_is : WhereTold tells (least ≡ least_mark s before.told at.shard position)) (lent : given ≡ names) (lent_again : again ≡ names)
        (names_are : names ≡ names_behind s first.fleet at least) (named : names_of resets ≡ given) (counted : count ≡ count_up mid.topology again)
        (each : (link : LinkShown) → ResetEach Over (names_of resets) (world mid after link) (world new after link))
        (on : ResetsOn tells s after.told mid new) (rest : new ≡ record mid { fleet = new.fleet; mail = new.mail }) (later : IsLater before after)
        (link : LinkShown) where
      behind_are : names ≡ Names
      behind_are = subst (λ (n : Nodes). names ≡ names_behind s n.fleet at least) first_same names_are

      each_behind : ResetEach Over Names (world old after link) (world new after link)
      each_behind =
          subst (λ (n : Nodes). ResetEach Over Names (world n after link) (world new after link)) same
          (subst (λ ns. ResetEach Over ns (world mid after link) (world new after link)) (named ∙ lent ∙ behind_are) (each link))

      pub trim_done : TrimDone tells s at position (record { cut = cut; reset = count }) (world old before link) (world new after link)
      trim_done = record {
        over = record {
          least = least;
          least_is = least_is;
          cut_is = cut_there;
          tables = becomes;
          resets = each_behind;
          reset_is = counted ∙ ap (λ (n : Nodes). count_up n.topology again) same ∙ ap (count_up old.topology) (lent_again ∙ behind_are);
        };
        on = record {
          order = on.order;
          states = ap (λ (n : Nodes). n.topology) (rest ∙ ap (λ (n : Nodes). record n { fleet = new.fleet; mail = new.mail }) same);
          goes = subst (λ (n : Nodes). GoesOn n.fleet new.fleet) same on.goes;
          past = λ told. none_behind s before.told after.told at least cut (world old after link) (world new after link) here
              steady.consistent.fleet on.order.consistent.fleet (on.order.consistent.stores.cuts told) (cut_there told) (becomes told)
              (subst (λ b. ResetEach (region_tables b after.told at.region) Names (world old after link) (world new after link)) told each_behind)
              (past told);
          on = tables_on;
          later = later;
        };
      }
