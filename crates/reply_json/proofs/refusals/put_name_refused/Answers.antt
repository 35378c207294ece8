use Rattle.reply_json.proofs.refusals.put_name_refused.Goals as goal

pub returns-in-NoTier : goal.returns-in-NoTier
returns-in-NoTier c = rw (c.in-NoTier.is, ← c.as_str.ensures) c.put_about_name.ensures

pub returns-in-NoShard : goal.returns-in-NoShard
returns-in-NoShard c = rw (c.in-NoShard.is) c.put_about_number.ensures

pub returns-in-SameType : goal.returns-in-SameType
returns-in-SameType c = rw (c.in-SameType.is, ← c.as_str-in-SameType.ensures) c.put_about_name-in-SameType.ensures
