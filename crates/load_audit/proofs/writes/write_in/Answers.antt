use Rattle.std.proofs.Common.{◌∙◌}
use Rattle.load_audit.proofs.CheckedWrites.{refused_for, taken}
use Rattle.load_audit.proofs.writes.write_in.Goals as goal

pub returns-in-Ok : goal.returns-in-Ok
returns-in-Ok c = c.write_of.ensures ∙ taken c.args.config.now c.args.request.now c.in-Ok.checked c.in-Ok.ensures.checked

pub returns-in-Err-Refused : goal.returns-in-Err-Refused
returns-in-Err-Refused c =
    refused_for c.args.config.now c.args.request.now c.in-Err-Refused.reply (rw c.in-Err-Refused.field-0-is at c.in-Err-Refused.ensures.checked)
