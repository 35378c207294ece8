use Rattle.std.proofs.Common.{◌≡◌, refl, subst, sym}
use Rattle.graph_model.specs.Told.{WhereTold}
use Rattle.core_nodes.specs.Opening.{IsOpened, IsOtherLine, MayOpen, RefusesOpening}
use Rattle.replies.specs.declared.opening.OpenRefusal.{OpenRefusal}
use Rattle.replies.specs.declared.opening.OpenRefusal.TheVariants.{Disagree}
use Rattle.first_line.specs.Interrupts.{interrupt_code}
use Rattle.tao_top.proofs.FirstLine.{begins, begun_disagreeing, begun_other, begun_whatever, first_configuration, refuses_other, says_disagreement}
use Rattle.core_nodes.specs.Outside.{outside}
use Rattle.tao_top.specs.Stop.{stop_code}
use Rattle.tao_top.specs.declared.stop.Stop.TheVariants.{Stores}
use Rattle.tao_top.proofs.begin.begin.Goals as goal

pub returns-in-Err-clause-err : goal.returns-in-Err-clause-err
returns-in-Err-clause-err g c =
    let keepers = g.K.Keeper.state in
    let opened = subst (λ l. WhereTold g.K.Keeper.TELLS
    (IsOpened c.args.first.now.config l (g.K.Keeper.state c.args.keepers.now).told (g.K.Keeper.state c.open.new.keepers).told)) c.deref.ensures.value
    c.in-Ok.ensures.opened in
    begun_whatever c.args.words.now g.K.Keeper.TELLS (keepers c.args.keepers.now)
    (keepers c.open.new.keepers) c.args.first.now.line.items c.args.first.now.config c.requires.configured c.in-Ok.ensures.later _ _
    c.in-Ok.serving c.in-Ok.ensures.settings c.in-Ok.ensures.begun c.in-Ok.ensures.serving.of_core c.in-Ok.ensures.ends opened
    c.in-Err.ensures.err (interrupt_code c.in-Err.interrupt)

pub returns-in-Ok-say_configured-clause-ok : goal.returns-in-Ok-say_configured-clause-ok
returns-in-Ok-say_configured-clause-ok g c =
    let keepers = g.K.Keeper.state in
    let opened = subst (λ l. WhereTold g.K.Keeper.TELLS
    (IsOpened c.args.first.now.config l (g.K.Keeper.state c.args.keepers.now).told (g.K.Keeper.state c.open.new.keepers).told)) c.deref.ensures.value
    c.in-Ok.ensures.opened in
    λ link. begins g.K.Keeper.TELLS (outside (keepers c.args.keepers.now) link)
    (outside (keepers c.open.new.keepers) link) c.args.first.now.line.items c.args.first.now.config c.requires.configured c.in-Ok.ensures.later refl c.args.words.now _ _
    c.in-Ok.serving c.in-Ok.ensures.settings c.in-Ok.ensures.begun c.in-Ok.ensures.serving.of_core c.in-Ok.ensures.ends opened c.in-Ok-say_configured.ensures.ok

pub returns-in-Err-OtherLine-clause-err : goal.returns-in-Err-OtherLine-clause-err
returns-in-Err-OtherLine-clause-err g c =
    let keepers = g.K.Keeper.state in
    let refused = subst (λ r. RefusesOpening g.K.Keeper.TELLS c.args.first.now.config c.deref.result.now (keepers c.args.keepers.now)
    (keepers c.open.new.keepers) r) c.in-Err-OtherLine.field-0-is c.in-Err-OtherLine.ensures.refused in
    let other = subst (λ l. WhereTold g.K.Keeper.TELLS
    (IsOtherLine c.args.first.now.config l (g.K.Keeper.state c.args.keepers.now).told (g.K.Keeper.state c.open.new.keepers).told)) c.deref.ensures.value
    refused in
    λ link. begun_other g.K.Keeper.TELLS (outside (keepers c.args.keepers.now) link)
    (outside (keepers c.open.new.keepers) link) c.args.first.now.line.items c.args.first.now.config c.requires.configured c.in-Err-OtherLine.ensures.later refl
    c.args.words.now _ _ other c.refuse.ensures.part (stop_code c.from.result)

pub returns-in-Err-OtherLine-clause-refused : goal.returns-in-Err-OtherLine-clause-refused
returns-in-Err-OtherLine-clause-refused g c = λ e.
    let keepers = g.K.Keeper.state in
    let refused = subst (λ r. RefusesOpening g.K.Keeper.TELLS c.args.first.now.config c.deref.result.now (keepers c.args.keepers.now)
    (keepers c.open.new.keepers) r) c.in-Err-OtherLine.field-0-is c.in-Err-OtherLine.ensures.refused in
    let other = subst (λ l. WhereTold g.K.Keeper.TELLS
    (IsOtherLine c.args.first.now.config l (g.K.Keeper.state c.args.keepers.now).told (g.K.Keeper.state c.open.new.keepers).told)) c.deref.ensures.value
    refused in
    let whole = first_configuration c.refuse.result (cc (e, c.from.ensures)) in
    λ link. refuses_other g.K.Keeper.TELLS (outside (keepers c.args.keepers.now) link)
    (outside (keepers c.open.new.keepers) link) c.args.first.now.line.items c.args.first.now.config c.requires.configured c.in-Err-OtherLine.ensures.later refl
    c.args.words.now _ _ other (c.refuse.ensures.whole whole)

pub open-requires-clause-kept : goal.open-requires-clause-kept
open-requires-clause-kept g c = subst (λ l. WhereTold g.K.Keeper.TELLS (MayOpen c.args.first.now.config l (g.K.Keeper.state c.args.keepers.now).told))
    (sym c.deref.ensures.value) c.requires.kept

-- ---- stores that disagree

pub returns-in-Err-Disagree-clause-err : goal.returns-in-Err-Disagree-clause-err
returns-in-Err-Disagree-clause-err g c =
    let keepers = g.K.Keeper.state in
    let found : OpenRefusal = Disagree c.in-Err-Disagree.store c.in-Err-Disagree.position in
    let refused = subst (λ r. RefusesOpening g.K.Keeper.TELLS c.args.first.now.config c.deref.result.now (keepers c.args.keepers.now)
    (keepers c.open.new.keepers) r) c.in-Err-Disagree.field-0-is c.in-Err-Disagree.ensures.refused in
    let disagree = subst (λ l. RefusesOpening g.K.Keeper.TELLS c.args.first.now.config l (keepers c.args.keepers.now) (keepers c.open.new.keepers) found)
    c.deref.ensures.value refused in
    λ link. begun_disagreeing g.K.Keeper.TELLS (outside (keepers c.args.keepers.now) link)
    (outside (keepers c.open.new.keepers) link) c.args.first.now.line.items c.args.first.now.config c.requires.configured c.in-Err-Disagree.ensures.later refl
    c.args.words.now _ _ _ _ disagree c.say_disagreement.ensures.part (stop_code c.say_disagreement.result)

pub returns-in-Err-Disagree-clause-stores : goal.returns-in-Err-Disagree-clause-stores
returns-in-Err-Disagree-clause-stores g c = λ e.
    let keepers = g.K.Keeper.state in
    let found : OpenRefusal = Disagree c.in-Err-Disagree.store c.in-Err-Disagree.position in
    let refused = subst (λ r. RefusesOpening g.K.Keeper.TELLS c.args.first.now.config c.deref.result.now (keepers c.args.keepers.now)
    (keepers c.open.new.keepers) r) c.in-Err-Disagree.field-0-is c.in-Err-Disagree.ensures.refused in
    let disagree = subst (λ l. RefusesOpening g.K.Keeper.TELLS c.args.first.now.config l (keepers c.args.keepers.now) (keepers c.open.new.keepers) found)
    c.deref.ensures.value refused in
    let whole : c.say_disagreement.result ≡ Stores = cc e in
    λ link. says_disagreement g.K.Keeper.TELLS (outside (keepers c.args.keepers.now) link)
    (outside (keepers c.open.new.keepers) link) c.args.first.now.line.items c.args.first.now.config c.requires.configured c.in-Err-Disagree.ensures.later refl
    c.args.words.now _ _ _ _ disagree (c.say_disagreement.ensures.whole whole)
