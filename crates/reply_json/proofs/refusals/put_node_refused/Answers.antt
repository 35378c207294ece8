use Rattle.reply_json.proofs.refusals.put_node_refused.Goals as goal

pub returns-in_ok-node-in-NoRefill : goal.returns-in_ok-node-in-NoRefill
returns-in_ok-node-in-NoRefill c = rw (c.in-NoRefill.is, ← c.in_ok-node-in-NoRefill.ensures, ← c.as_str.ensures) c.put_members.ensures

pub returns-in-IsMaster : goal.returns-in-IsMaster
returns-in-IsMaster c = rw (c.in-IsMaster.is, ← c.region_name.ensures) c.put_is_master.ensures

pub returns-in-NoServer : goal.returns-in-NoServer
returns-in-NoServer c = rw (c.in-NoServer.is, ← c.region_name-in-NoServer.ensures) c.put_about_name.ensures
