-- The reply that a read ends with.
use Rattle.std.specs.Prelude.{ℕ, ◌≡◌, Bool}
use Rattle.words.specs.declared.ReadWord.{ReadWord}
use Rattle.replies.specs.Kinds.{query_word}
use Rattle.replies.specs.declared.calls.CallReply.TheVariants.{Read}
use Rattle.replies.specs.declared.reply.Reply.{Reply}
use Rattle.replies.specs.declared.reply.Reply.TheVariants.{Called}
use Rattle.read_plan.specs.Readings.{Reading}
use Rattle.read_plan.specs.declared.end.ReadEnd.{ReadEnd}
use Rattle.read_plan.specs.declared.end.ReadEnd.TheVariants.{Answered, Refused}
use Rattle.read_plan.specs.declared.standing.Standing.{Standing}
use Rattle.read_plan.specs.declared.standing.Standing.TheVariants.{Looking, Asking, Mastering, Keeping, Ended}

-- the answer at its version, after so many hops, and whether a keeper was called; or the reply that refused the read
abbrev pub read_reply : ReadWord → ℕ → Bool → ReadEnd → Reply
read_reply word hops store (Answered answer version kept) =
    Called (Read (record { word = word; answer = answer; version = version; hops = hops; store = store; kept = kept }))
read_reply word hops store (Refused reply) = reply

-- the read stands at its end, with this reply; one that stands elsewhere has no reply yet
abbrev pub EndsAt : Standing → Reading → Reply → Type 0
EndsAt (Ended end) p reply = reply ≡ read_reply (query_word p.query) p.hops p.store end
EndsAt Looking p reply = ⊥
EndsAt Asking p reply = ⊥
EndsAt Mastering p reply = ⊥
EndsAt (Keeping given) p reply = ⊥

-- the read is over, with this reply
abbrev pub EndsWith : Reading → Reply → Type 0
EndsWith p reply = EndsAt p.at p reply
