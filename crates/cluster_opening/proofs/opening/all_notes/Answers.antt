use Rattle.std.proofs.Common.{◌≡◌, ◌∙◌, IfSome, subst}
use Rattle.std.specs.Prelude.{slice_get}
use Rattle.core_model.specs.Pens.{pens_of}
use Rattle.shard_tables.specs.StoreView.{Store}
use Rattle.cluster_opening.proofs.OpenedNotes.{one_more_noted}
use Rattle.cluster_opening.specs.Opening.{AreNotesFor}
use Rattle.cluster_opening.proofs.opening.all_notes.Goals as goal

pub loop-place-preserved : goal.loop-place-preserved
loop-place-preserved c =
    let start = c.args.stores.now in
    let at = subst (λ xs. IfSome (slice_get xs c.loop-place.place) (λ (x : Store). x.role ≡ c.role_at-role.result)) c.loop-place.invariant.same
    c.role_at-role.ensures in
    record {
      notes = one_more_noted (pens_of start) c.args.config.now.shards start c.loop-place.place c.role_at-role.result c.in_ok-notes.notes
          c.loop-place.noted.items c.push.new.self.items c.loop-place.invariant.notes
          (λ store there. subst (λ o. IfSome o (λ (x : Store). x.role ≡ c.role_at-role.result)) there at)
          (subst (λ xs. AreNotesFor (pens_of xs) c.args.config.now.shards c.role_at-role.result c.in_ok-notes.notes.notes.items) c.loop-place.invariant.same
          c.in_ok-notes.ensures.notes)
          c.in_ok-push.ensures.items;
      same = c.notes_for.ensures.same ∙ c.loop-place.invariant.same;
    }
