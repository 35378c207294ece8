use Rattle.json_fields.specs.View.{view}
use Rattle.json_fields.proofs.MemberPlaces.{Named, insert_is, set_is}
use Rattle.json_fields.proofs.members.put_member.Goals as goal

pub returns-in-Ok : goal.returns-in-Ok
returns-in-Ok c =
    let m : Named = (c.args.name, c.args.value) in
    set_is _ _ c.in-Ok.place m c.as_slice.ensures.value c.in-Ok.ensures.within (c.in-Ok.ensures.put (view c.args.value))

pub returns-in_ok-insert-in-Err : goal.returns-in_ok-insert-in-Err
returns-in_ok-insert-in-Err c =
    let m : Named = (c.args.name, c.args.value) in
    insert_is _ _ _ c.in-Err.place m c.as_slice.ensures.value c.in_ok-insert-in-Err.ensures.items (c.in-Err.ensures.put (view c.args.value))
