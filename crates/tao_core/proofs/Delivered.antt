-- What the words of messages leave of a core.
use Rattle.std.proofs.Common.{◌≡◌, ℕ, Option, Some, None, refl, ap, sym, ◌∙◌, subst}
use Rattle.core_mail.specs.Inboxes.{AreInboxesOf, Inboxes, TakesOut, WaitsAt, shown_message}
use Rattle.core_model.specs.Consistent.{IsFleetOf}
use Rattle.core_model.specs.Fleet.{ChangesNode}
use Rattle.core_model.specs.Pens.{pens_of}
use Rattle.maint_msg.specs.Maints.{SeenMaint}
use Rattle.node_name.specs.declared.NodeName.{NodeName}
use Rattle.replies.specs.declared.lists.Message.{Message}
use Rattle.replies.specs.declared.nodes.CacheReply.TheVariants.{Lost}
use Rattle.replies.specs.declared.nodes.NodeReply.TheVariants.{Cache}
use Rattle.replies.specs.declared.refusals.NodeRefused.TheVariants.{NoMessage}
use Rattle.replies.specs.declared.refusals.Refusal.TheVariants.{Node as OfNode}
use Rattle.replies.specs.declared.reply.Reply.{Reply}
use Rattle.replies.specs.declared.reply.Reply.TheVariants.{Refused, Node as AtNode}
use Rattle.words.specs.declared.DeliveryWord.TheVariants as word
use Rattle.tao_core.specs.Core.{CoreState, StaysHeld}
use Rattle.tao_core.specs.Deliveries.{AnswersDeliver, AnswersLoss, AnswersSecond, FindsNone, IsProcessed, lost_as}
use Rattle.tao_core.proofs.HeldOn.{same_held}
use Rattle.tao_core.proofs.Delivering.{copied_answers, none_taken, none_waits, processed_stores, taken_answers}

-- ---- a message is delivered

-- what is answered, and what stays
pub record IsDelivered (node : NodeName) (place : ℕ) (old : CoreState) (reply : Reply) (new : CoreState) : Type 0 where
  pub does : AnswersDeliver node place old reply new
  pub fleet : IsFleetOf old.settings new.fleet
  pub inboxes : AreInboxesOf old.settings (pens_of old.fleet.stores) new.mail
  pub stores : new.fleet.stores ≡ old.fleet.stores
  pub on : StaysHeld old.fleet new.fleet
  pub rest : new ≡ record old { fleet = new.fleet; mail = new.mail }

module _ (node : NodeName) (place : ℕ) (old now : CoreState) (mail : Inboxes) (reply : Reply) (own : old ≡ now) where
  pub delivered : (m : SeenMaint) (new : CoreState) → ChangesNode node (TakesOut place (Some m)) old.mail mail
      → AreInboxesOf old.settings (pens_of old.fleet.stores) mail → IsProcessed word.Deliver node m (record old { mail = mail }) reply new
      → IsFleetOf old.settings new.fleet → StaysHeld old.fleet new.fleet → new ≡ record old { fleet = new.fleet; mail = mail }
      → IsDelivered node place now reply new
  delivered m new change inboxes does fleet on rest =
      let between : CoreState = record old { mail = mail } in
      let same : new.mail ≡ mail = ap (λ (x : CoreState). x.mail) rest in
      subst (λ x. IsDelivered node place x reply new) own (record {
        does = taken_answers node place m old between new reply refl change same does;
        fleet = fleet;
        inboxes = subst (AreInboxesOf old.settings (pens_of old.fleet.stores)) (sym same) inboxes;
        stores = processed_stores word.Deliver node m between new reply does;
        on = on;
        rest = rest ∙ ap (λ xs. record old { fleet = new.fleet; mail = xs }) (sym same);
      })

  -- no message was taken, and the core stays
  found_none : reply ≡ Refused (OfNode (NoMessage place)) → ChangesNode node (TakesOut place None) old.mail mail
      → FindsNone node place place old (record old { mail = mail })
  found_none is change = (refl, none_waits node place old.mail mail change, ap (λ xs. record old { mail = xs }) (none_taken node place old.mail mail change))

  pub none_delivered : reply ≡ Refused (OfNode (NoMessage place)) → ChangesNode node (TakesOut place None) old.mail mail
      → AreInboxesOf old.settings (pens_of old.fleet.stores) mail → IsFleetOf old.settings old.fleet
      → IsDelivered node place now reply (record old { mail = mail })
  none_delivered is change inboxes fleet =
      subst (λ x. IsDelivered node place x reply (record old { mail = mail })) own (record {
        does = subst (λ r. AnswersDeliver node place old r (record old { mail = mail })) (sym is) (found_none is change);
        fleet = fleet;
        inboxes = inboxes;
        stores = refl;
        on = same_held old.fleet;
        rest = refl;
      })

  -- ---- a message is lost

  lost : (m : SeenMaint) (told : Message) → reply ≡ AtNode (Cache (Lost told)) → told ≡ shown_message m
      → ChangesNode node (TakesOut place (Some m)) old.mail mail → AnswersLoss node place now reply (record old { mail = mail })
  lost m told is shown change =
      subst (λ x. AnswersLoss node place x reply (record old { mail = mail })) own
      (subst (λ r. AnswersLoss node place old r (record old { mail = mail })) (sym is) (refl, m, change, shown))

  none_lost : reply ≡ Refused (OfNode (NoMessage place)) → ChangesNode node (TakesOut place None) old.mail mail
      → AnswersLoss node place now reply (record old { mail = mail })
  none_lost is change =
      subst (λ x. AnswersLoss node place x reply (record old { mail = mail })) own
      (subst (λ r. AnswersLoss node place old r (record old { mail = mail })) (sym is) (found_none is change))

  -- what was taken out, if anything, is lost
  pub loss : (found : Option SeenMaint) → reply ≡ lost_as place found → ChangesNode node (TakesOut place found) old.mail mail
      → AnswersLoss node place now reply (record old { mail = mail })
  loss (Some m) is change = lost m (shown_message m) is refl change
  loss None is change = none_lost is change

-- ---- a message is processed once more

-- what is answered, and what stays
pub record IsRepeated (node : NodeName) (place : ℕ) (old : CoreState) (reply : Reply) (new : CoreState) : Type 0 where
  pub does : AnswersSecond node place old reply new
  pub fleet : IsFleetOf old.settings new.fleet
  pub stores : new.fleet.stores ≡ old.fleet.stores
  pub on : StaysHeld old.fleet new.fleet
  pub rest : new ≡ record old { fleet = new.fleet }

module _ (node : NodeName) (place : ℕ) (old now : CoreState) (mail : Inboxes) (reply : Reply) (own : old ≡ now) (same : mail ≡ old.mail) where
  stays : record old { mail = mail } ≡ old
  stays = ap (λ xs. record old { mail = xs }) same

  pub repeated : (m : SeenMaint) (new : CoreState) → WaitsAt node place (Some m) old.mail
      → IsProcessed word.Again node m (record old { mail = mail }) reply new → IsFleetOf old.settings new.fleet → StaysHeld old.fleet new.fleet
      → new ≡ record old { fleet = new.fleet; mail = mail } → IsRepeated node place now reply new
  repeated m new waits does fleet on rest =
      let there : new ≡ record old { fleet = new.fleet } = rest ∙ ap (λ xs. record old { fleet = new.fleet; mail = xs }) same in
      subst (λ x. IsRepeated node place x reply new) own (record {
        does = copied_answers node place m old new reply waits (ap (λ (x : CoreState). x.mail) there)
            (subst (λ x. IsProcessed word.Again node m x reply new) stays does);
        fleet = fleet;
        stores = processed_stores word.Again node m (record old { mail = mail }) new reply does;
        on = on;
        rest = there;
      })

  pub none_repeated : reply ≡ Refused (OfNode (NoMessage place)) → WaitsAt node place None old.mail → IsFleetOf old.settings old.fleet
      → IsRepeated node place now reply (record old { mail = mail })
  none_repeated is none fleet =
      subst (λ x. IsRepeated node place x reply (record old { mail = mail })) own (record {
        does = subst (λ r. AnswersSecond node place old r (record old { mail = mail })) (sym is) (refl, none, stays);
        fleet = fleet;
        stores = refl;
        on = same_held old.fleet;
        rest = stays;
      })
