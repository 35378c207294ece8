use Rattle.reply_json.proofs.refusals.put_session_refused.Goals as goal

pub returns-in-NoSession : goal.returns-in-NoSession
returns-in-NoSession c = rw (c.in-NoSession.is) c.put_about_number.ensures

pub returns-in-SessionThere : goal.returns-in-SessionThere
returns-in-SessionThere c = rw (c.in-SessionThere.is) c.put_about_number-in-SessionThere.ensures

pub returns-in-SessionFull : goal.returns-in-SessionFull
returns-in-SessionFull c = rw (c.in-SessionFull.is) c.put_about_number-in-SessionFull.ensures
