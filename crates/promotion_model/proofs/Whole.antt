-- A whole promotion.
use Rattle.std.proofs.Common.{◌≡◌, ℕ, ◌<◌, List, take, ap, ◌∙◌}
use Rattle.std.specs.Prelude.{◌^◌, slice_set}
use Rattle.tao_base.specs.EdgeTypes.{EdgeTypes}
use Rattle.tao_base.specs.declared.entry.Entry.{Entry}
use Rattle.write_model.specs.Merges.{Stores, entries_ever, log_of}
use Rattle.write_model.specs.Steps.{AreSoundAndCovered}
use Rattle.promotion_model.proofs.Cut.{cuts_keep}
use Rattle.promotion_model.proofs.Open.{changes_keep, opens_keep}
use Rattle.promotion_model.proofs.Raise.{raises_keep}
use Rattle.promotion_model.specs.Promotion.{Promotes, StaysCovered}
use Rattle.promotion_model.specs.PromotionLaws.{PromotionsKeep}

module _ (types : EdgeTypes) (old new : Stores) (shard kept : ℕ) (p : Promotes types old new shard kept) where
  stays : AreSoundAndCovered types old → entries_ever old < 2 ^ 32 → StaysCovered types old new shard kept p
  stays was few =
      let raised = raises_keep.keep types old p.raised shard was few p.raises in
      let fresh = raises_keep.fresh types old p.raised shard was few p.raises in
      let opened = opens_keep.keep types p.raised p.opened raised p.opens in
      let still = opens_keep.fresh types p.raised p.opened shard p.opens fresh in
      let cut = cuts_keep.keep types p.opened p.cut shard kept opened still p.owed p.cuts in
      record { raised = raised; opened = opened; cut = cut; changed = changes_keep.keep types p.cut new shard cut p.changes }

  logs_are : new.logs ≡ slice_set old.logs shard (take kept (log_of old.logs shard))
  logs_are =
      let back : p.opened.logs ≡ old.logs = p.opens.logs ∙ p.raises.logs in
      p.changes.logs ∙ p.cuts.logs ∙ ap (λ (l : List (List Entry)). slice_set l shard (take kept (log_of l shard))) back

pub promotions_keep : PromotionsKeep
promotions_keep = record {
  keep = λ types old new shard kept was few p. stays types old new shard kept p was few;
  logs = λ types old new shard kept p. logs_are types old new shard kept p;
}
