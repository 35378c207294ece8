use Rattle.std.proofs.Common.{◌≡◌, ◌+◌, [], ◌∷◌, arith, inl, refl, subst, sym, ◌∙◌}
use Rattle.std.proofs.lemmas.List.{with_items_is}
use Rattle.graph_model.proofs.Members.{All-in}
use Rattle.load_shares.specs.Seen.{AllBegin}
use Rattle.load_shares.specs.Workloads.{IsConfiguredRequest}
use Rattle.tao_busy.proofs.Unrefused.{session_of}
use Rattle.tao_busy.proofs.taking.ask.Goals as goal
use Rattle.tao_busy.specs.Refusing.{HaveEachSession, IsCallOf}

pub returns-then-place-len-clause-on : goal.returns-then-place-len-clause-on
returns-then-place-len-clause-on g c = λ logs all.
    let back = with_items_is c.args.worker.now.passes c.ask_at.new.passes (c.ask_at.auto.passes ∙ c.as_mut_slice.ensures.len) in
    subst (AllBegin logs) c.as_mut_slice.ensures.value (c.ask_at.ensures.on logs (subst (AllBegin logs) back all))

pub returns-then-place-len-clause-sessions : goal.returns-then-place-len-clause-sessions
returns-then-place-len-clause-sessions g c =
    let back = with_items_is c.args.worker.now.passes c.ask_at.new.passes (c.ask_at.auto.passes ∙ c.as_mut_slice.ensures.len) in
    subst (HaveEachSession g.J.Sharing.making.settings) (sym back) c.ask_at.ensures.sessions

pub returns-then-place-len-clause-few : goal.returns-then-place-len-clause-few
returns-then-place-len-clause-few g c = λ told logs all.
    let back = with_items_is c.args.worker.now.passes c.ask_at.new.passes (c.ask_at.auto.passes ∙ c.as_mut_slice.ensures.len) in
    c.ask_at.ensures.few told logs (subst (AllBegin logs) back all)

pub returns-then-place-len-clause-none : goal.returns-then-place-len-clause-none
returns-then-place-len-clause-none g c = λ told logs all way well.
    let back = with_items_is c.args.worker.now.passes c.ask_at.new.passes (c.ask_at.auto.passes ∙ c.as_mut_slice.ensures.len) in
    let s = g.J.Sharing.making.settings in
    let request = c.args.request.now in
    let session = session_of s c.args.session request c.requires.session (All-in (IsConfiguredRequest s) (request ∷ []) request way.configured (inl refl)) in
    let first = session.first in
    let place : c.args.session ≡ c.saturating_sub-place.result + 1 = omega (arith, first, c.saturating_sub-place.ensures) in
    c.ask_at.ensures.none told (subst (λ n. IsCallOf n request) place c.requires.session) logs (subst (AllBegin logs) back all) way well

pub returns-else-place-len-clause-none : goal.returns-else-place-len-clause-none
returns-else-place-len-clause-none g c = λ told logs all way well.
    let s = g.J.Sharing.making.settings in
    let request = c.args.request.now in
    let session = session_of s c.args.session request c.requires.session (All-in (IsConfiguredRequest s) (request ∷ []) request way.configured (inl refl)) in
    let first = session.first in
    let last = session.last in
    let many = c.requires.sessions.many in
    absurd (omega (arith, first, last, many, c.saturating_sub-place.ensures, c.if-place-len.false))
