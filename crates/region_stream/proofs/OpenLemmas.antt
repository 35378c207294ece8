-- The slaves' stores that are opened over a master's log.
use Rattle.std.proofs.Common.{◌≡◌, Bool, List, map, sym, ap, ◌∙◌, subst}
use Rattle.std.proofs.lemmas.List.Elements.{All-map}
use Rattle.std.specs.Prelude.{All}
use Rattle.tao_base.specs.declared.entry.Entry.{Entry}
use Rattle.tao_base.specs.declared.id.StoreName.{StoreName}
use Rattle.graph_model.specs.Told.{WhereTold}
use Rattle.shard_log.specs.View.{Begins, View, as_note}
use Rattle.shard_tables.specs.StoreView.{Store}
use Rattle.shard_tables.specs.Stores.{IsStoreOf, note_of, seen_by}
use Rattle.shard_tables.specs.declared.store.StoreRole.TheVariants.{Master}
use Rattle.tao_keeper.specs.Table.{Stays, Tables}
use Rattle.region_stream.specs.Opening.{BeginsUnder, slave_of}

-- what each name has begins the log, which the master has seen
pub slaves_kept : (tells : Bool) (mid new : Tables) (master : Store) (log : List Entry) (names : List StoreName) → master.role ≡ Master
    → master.view.log.told ≡ tells → master.view.entries ≡ log → WhereTold tells (All (BeginsUnder mid log) names) → WhereTold tells (Stays mid new)
    → All (IsStoreOf tells new) (map (slave_of master) names)
slaves_kept tells mid new master log names role told_is entries begin stays =
    let note : note_of master ≡ as_note master.view = ap (λ r. seen_by r master.view) role in
    All-map (IsStoreOf tells new) (slave_of master) names (λ k d lt. record {
      told_is = ap (λ (v : View). v.log.told) note ∙ told_is;
      seen = λ told.
          subst (λ l. Begins l (note_of master).entries) (sym (ap (λ t. t.log) (stays told _)))
          (subst (Begins _) (sym (ap (λ (v : View). v.entries) note ∙ entries)) (begin told k d lt));
    })
