use Rattle.std.proofs.Common.{◌≡◌, ◌∙◌, ◌<◌, ◌-◌, ◌+◌, ℕ, List, ◌∷◌, arith, drop, length, length-drop, subst, suc, sym}
use Rattle.std.proofs.Math.Seq.{drop-cons, drop-length}
use Rattle.std.proofs.lemmas.List.{take_all}
use Rattle.tao_base.specs.declared.edge.Edge.{Edge}
use Rattle.keeper_sql.proofs.Ordered.{met_front, none_met}
use Rattle.keeper_sql.specs.MetIds.{IsMet}
use Rattle.keeper_sql.proofs.order.is_in_list_order.Goals as goal

pub loop-at-init : goal.loop-at-init
loop-at-init c =
    record { within = omega arith; met = subst (IsMet c.new-met.result) (sym (drop-length c.args.edges.now)) (none_met c.new-met.result) }

pub loop-at-preserved : goal.loop-at-preserved
loop-at-preserved c =
    let edges = c.args.edges.now in
    let at : ℕ = c.loop-at.at - 1 in
    let next : c.loop-at.at ≡ suc at = omega arith in
    let next' : suc at ≡ at + 1 = omega arith in
    let within : at < length edges = omega arith in
    let rest = take_all (length edges - (at + 1)) (drop (at + 1) edges) (omega (arith, length-drop (at + 1) edges)) in
    let before = subst (λ (n : ℕ). IsMet c.loop-at.met (drop n edges)) (next ∙ next') c.loop-at.invariant.met in
    let now = c.in_ok-precedes.ensures c.if-not-branch.false (subst (IsMet c.loop-at.met) (sym rest) before) in
    let now' = subst (λ (later : List Edge). IsMet c.precedes.new.met (c.index-edges-at.result ∷ later)) rest now in
    record { within = omega arith; met = met_front c.precedes.new.met edges at c.index-edges-at.result within c.index-edges-at.is now' }

pub returns : goal.returns
returns c = λ _.
    let at_front : c.loop-at.at ≡ 0 = omega arith in
    let met = subst (λ (n : ℕ). IsMet c.loop-at.met (drop n c.args.edges.now)) at_front c.loop-at.invariant.met in
    met.in_order
