use Rattle.std.proofs.Common.{◌∙◌, ◌<◌, ap, arith, length}
use Rattle.std.proofs.lemmas.Option.{slice_get-get_or, slice_get_within}
use Rattle.unlocked_nodes.proofs.MeetLemmas.{MeetsAt, first_over, many_notes, meets_here, one_more, read_same, same_notes}
use Rattle.unlocked_nodes.specs.Unlocked.{notes_of}
use Rattle.unlocked_nodes.proofs.meeting.meet_noted.Goals as goal

pub returns-in_err-meet_role-clause-noted : goal.returns-in_err-meet_role-clause-noted
returns-in_err-meet_role-clause-noted c =
    let was = c.loop-place.invariant in
    let within : c.loop-place.place < length c.loop-place.noted =
    (let many = many_notes c.loop-place.noted c.args.noted.now was.noted in let same = ap length was.same in omega (arith, many, same)) in
    same_notes c.loop-place.noted c.loop-place.place _ c.meet_role.new.notes
    (slice_get-get_or c.loop-place.noted c.loop-place.place c.index-noted-place.result within) c.meet_role.ensures.notes
    ∙ was.noted

pub loop-place-preserved : goal.loop-place-preserved
loop-place-preserved c =
    let was = c.loop-place.invariant in
    let within : c.loop-place.place < length c.loop-place.noted =
    (let many = many_notes c.loop-place.noted c.args.noted.now was.noted in let same = ap length was.same in omega (arith, many, same)) in
    let there = slice_get-get_or c.loop-place.noted c.loop-place.place c.index-noted-place.result within in
    let store = read_same c.args.stores.now c.loop-place.stores c.loop-place.place c.index-stores-place.result was.same
    (let same = ap length was.same in omega (arith, same)) in
    record {
      met = one_more (MeetsAt c.args.config.now.shards c.args.stores.now (notes_of c.args.noted.now)) c.loop-place.place was.met
          (meets_here c.args.config.now.shards c.args.stores.now c.args.noted.now c.loop-place.noted c.loop-place.place _ _ c.role-role.result store there
          was.noted c.role-role.ensures (first_over c.args.config.now.shards c.loop-place.stores c.args.stores.now c.role-role.result _ was.same c.in_ok-meet_role.ensures.met));
      same = c.in_ok-meet_role.ensures.same ∙ was.same;
      noted = same_notes c.loop-place.noted c.loop-place.place _ c.meet_role.new.notes there c.in_ok-meet_role.ensures.notes ∙ was.noted;
    }

pub returns-clause-met : goal.returns-clause-met
returns-clause-met c place store notes at has is =
    c.loop-place.invariant.met place
    (let within = slice_get_within c.args.stores.now place store at in let same = ap length c.loop-place.invariant.same in omega (arith, within, same))
    store notes at has is
