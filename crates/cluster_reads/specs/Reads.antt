-- A read that is under way on a cluster, and what its reply promises.
use Rattle.std.specs.Prelude.{ℕ, ◌≡◌, ◌≤◌, ◌<◌, ⊤, Bool, false, if◌then◌else◌, IsSomeAnd, List, Option, Some, None, Result, Ok, Err}
use Rattle.std.specs.Prelude.{length, slice_get}
use Rattle.core_model.specs.Reads.{IsRightFill, Wanted, wanted}
use Rattle.core_model.specs.Serving.{IsFollowerFor}
use Rattle.graph_model.specs.Log.{version}
use Rattle.graph_model.specs.Told.{WhereTold}
use Rattle.hop_count.specs.Hops.{hops_after}
use Rattle.log_names.specs.Names.{IsOfLog, LogNames}
use Rattle.read_plan.specs.Readings.{Reading, new_reading}
use Rattle.read_plan.specs.declared.end.ReadEnd.{ReadEnd}
use Rattle.read_plan.specs.declared.end.ReadEnd.TheVariants.{Answered, Refused}
use Rattle.read_plan.specs.declared.standing.Given.{Given}
use Rattle.read_plan.specs.declared.standing.Given.TheVariants.{Fill, HandedOut, Past}
use Rattle.read_plan.specs.declared.standing.Standing.{Standing}
use Rattle.read_plan.specs.declared.standing.Standing.TheVariants.{Looking, Asking, Mastering, Keeping, Ended}
use Rattle.replies.specs.declared.calls.CallReply.TheVariants as called
use Rattle.replies.specs.declared.calls.ReadReply.{ReadReply}
use Rattle.replies.specs.declared.nodes.KeptOrNot.{KeptOrNot}
use Rattle.replies.specs.declared.nodes.KeptOrNot.TheVariants as stays
use Rattle.replies.specs.declared.nodes.NotKeptWhy.{NotKeptWhy}
use Rattle.replies.specs.declared.nodes.NotKeptWhy.TheVariants as why
use Rattle.replies.specs.declared.refusals.Refusal.{Refusal}
use Rattle.replies.specs.declared.reply.Reply.{Reply}
use Rattle.replies.specs.declared.reply.Reply.TheVariants as reply
use Rattle.session_pass.specs.Floors.{Learns, floor_at}
use Rattle.session_pass.specs.Passes.{HasReached, ReachesIn, SeenPass}
use Rattle.shard_log.specs.GrowthLaws.{IsLegalIn}
use Rattle.shard_log.specs.View.{Grows, View}
use Rattle.shared_stores.specs.Making.{Making}
use Rattle.shared_stores.specs.PastBound.{IsUndecidedIn}
use Rattle.tao_base.specs.EdgeTypes.{EdgeTypes}
use Rattle.tao_base.specs.Queries.{query_key, query_shard}
use Rattle.tao_base.specs.declared.id.Key.{Key}
use Rattle.tao_base.specs.declared.query.Answer.{Answer}
use Rattle.tao_base.specs.declared.query.Query.{Query}
use Rattle.tao_schema.specs.Schema.{key_bound, types_of}
use Rattle.tao_link.specs.Shown.{LinkShown}
use Rattle.locked_nodes.specs.Begun.{Begun, CountsHops, HasFailed}
use Rattle.locked_nodes.specs.Cluster.{MayFail, OnCluster}
use Rattle.locked_nodes.specs.Passes.{IsLegalSeen}
use Rattle.locked_nodes.specs.Replies.{RefusesFor, RepliesRefused}

-- ---- what is asked

-- what a read is asked: its query, its session's floor, whether it is critical, and the bound of its key's type
pub record ReadAsked : Type 0 where
  pub query : Query
  pub floor : ℕ
  pub critical : Bool
  pub bound : ℕ

-- what the read under way is asked
abbrev pub asked_by : Reading → ReadAsked
asked_by p = record { query = p.query; floor = p.floor; critical = p.critical; bound = p.bound }

-- what a session asks by a query, at the floor of its pass
abbrev pub asked_with : Making → SeenPass → Query → Bool → ReadAsked
asked_with m pass query critical = record {
  query = query;
  floor = floor_at pass.floors (query_key query);
  critical = critical;
  bound = key_bound (types_of m.settings.schema) (query_key query);
}

-- the version that the answer must have at least: the read's floor, and for a critical one the key's version in what its pass had seen
abbrev pub least_version : Begun → ReadAsked → ℕ
least_version begun asked = if asked.critical then version begun.seen.entries (query_key asked.query) else asked.floor

-- the read, at the version that it must reach
abbrev pub wanted_by : Begun → ReadAsked → Wanted
wanted_by begun asked = wanted asked.query (least_version begun asked)

-- ---- what is answered

-- an answer to a read, at that version of its key, by what was seen of the key's shard
pub record AnsweredIn : Type 0 where
  pub types : EdgeTypes
  pub seen : View
  pub asked : ReadAsked
  pub at : ℕ

-- an answer at that version, in what was seen
abbrev pub answered_in : EdgeTypes → View → ReadAsked → ℕ → AnsweredIn
answered_in types seen asked at = record { types = types; seen = seen; asked = asked; at = at }

-- why an answer isn't kept is so in what was seen: as many entries, that version of the key, or, at a beginning of the answer's version, a list of that
-- length, none of whose fronts within its type's bound decides the query. No ask is ever lost
abbrev pub IsKeptWhy : AnsweredIn → NotKeptWhy → ℕ → ℕ → Type 0
IsKeptWhy a why.Mark have need = (have < need) × WhereTold a.seen.log.told (need ≤ length a.seen.entries)
IsKeptWhy a why.Floor have need = (have < need) × WhereTold a.seen.log.told (need ≤ version a.seen.entries (query_key a.asked.query))
IsKeptWhy a why.Lost have need = ⊥
IsKeptWhy a why.Bound have need = (have ≡ a.asked.bound) × IsUndecidedIn a.types a.seen a.asked.query a.at need
IsKeptWhy a why.Asks have need = (have ≡ 256) × (need ≡ 256)
IsKeptWhy a why.Memory have need = ⊤

-- the answer is kept, or isn't for a reason that was seen
abbrev pub IsKeptSo : AnsweredIn → KeptOrNot → Type 0
IsKeptSo a stays.Kept = ⊤
IsKeptSo a (stays.Not not_kept) = IsKeptWhy a not_kept.why not_kept.have not_kept.need

-- the answer is legal in what was seen of the shard's log, at the version that it must reach; where it isn't kept, the reason was seen
pub record IsAnswerIn (types : EdgeTypes) (begun : Begun) (asked : ReadAsked) (seen : View) (answer : Answer) (at : ℕ) (keeps : KeptOrNot) : Type 0 where
  pub legal : IsLegalIn types seen asked.query (least_version begun asked) answer at
  pub kept : IsKeptSo (answered_in types seen asked at) keeps

-- what the reply to a read answers, and its hops
pub record TellsRead (types : EdgeTypes) (begun : Begun) (asked : ReadAsked) (seen : View) (carries : ℕ) (told : ReadReply) : Type 0 where
  pub answer : IsAnswerIn types begun asked seen told.answer told.version told.kept
  pub hops : CountsHops begun carries told.hops

-- why a read is refused: its link failed, keepers of the type may fail, or there was no memory; for no other cause
abbrev pub RefusesRead : {M : Type 0} → OnCluster M → Begun → ℕ → Refusal → Type 0
RefusesRead on begun faults refusal = RefusesFor (HasFailed begun faults) (MayFail on.state) refusal

-- the reply answers the read, right in what was seen of the shard's log, or refuses it for its cause
abbrev pub EndsRead : {M : Type 0} → OnCluster M → Begun → ReadAsked → View → LinkShown → Reply → Type 0
EndsRead on begun asked seen link (reply.Called (called.Read told)) =
    TellsRead (types_of on.making.settings.schema) begun asked seen link.carries told
EndsRead on begun asked seen link (reply.Refused refusal) = RefusesRead on begun link.faults refusal
EndsRead on begun asked seen link other = ⊥

-- a reply that answers a read: the answer is legal in what the pass has then seen, at the version that it must reach; the session has learnt just that
-- version; where the answer isn't kept, the pass has seen why; and the hops are the carries
pub record AnswersRead (m : Making) (begun : Begun) (asked : ReadAsked) (old new : SeenPass) (carries : ℕ) (told : ReadReply) : Type 0 where
  pub legal : IsLegalSeen (types_of m.settings.schema) new.notes (wanted_by begun asked) told.answer told.version
  pub learns : Learns (query_key asked.query) told.version old.floors new.floors
  pub kept : IsSomeAnd (slice_get new.notes (query_shard asked.query))
      (λ seen. IsKeptSo (answered_in (types_of m.settings.schema) seen asked told.version) told.kept)
  pub hops : CountsHops begun carries told.hops

-- the reply to a read, which answers it, or refuses it for its cause and teaches the session nothing
abbrev pub RepliesToRead : {M : Type 0} → OnCluster M → Begun → ReadAsked → SeenPass → SeenPass → LinkShown → Reply → Type 0
RepliesToRead on begun asked old new link (reply.Called (called.Read told)) = AnswersRead on.making begun asked old new link.carries told
RepliesToRead on begun asked old new link (reply.Refused refusal) = RefusesRead on begun link.faults refusal × (new.floors ≡ old.floors)
RepliesToRead on begun asked old new link other = ⊥

-- the version that a reply to a read tells
abbrev pub version_told : Reply → Option ℕ
version_told (reply.Called (called.Read told)) = Some told.version
version_told said = None

-- the session has learnt the version that is told of the key, and where none is nothing
abbrev pub LearnsTold : Key → List (Key × ℕ) → List (Key × ℕ) → Option ℕ → Type 0
LearnsTold key old new None = new ≡ old
LearnsTold key old new (Some version) = Learns key version old new

-- ---- a read under way

-- a read of a session that is begun at the floor of its pass, which its key has reached in what the pass has seen, at a follower that serves its shard
pub record IsBegunRead (m : Making) (pass : SeenPass) (query : Query) (critical : Bool) (p : Reading) : Type 0 where
  pub plan_is : p ≡ record (new_reading query pass.region pass.tier (floor_at pass.floors (query_key query)) critical p.follower) {
    bound = key_bound (types_of m.settings.schema) (query_key query);
  }
  pub serves : IsFollowerFor m.settings (query_shard query) p.follower
  pub reached : HasReached pass.notes (query_key query) (floor_at pass.floors (query_key query))

-- what was given is there, and right for the read; past the bound, that it is so was seen
abbrev pub IsHeldFor : EdgeTypes → LogNames → Wanted → Given → Type 0
IsHeldFor types log read (Fill fill) = IsRightFill types (IsOfLog log) read fill
IsHeldFor types log read (Past answer version total (Some note)) =
    IsLegalIn types note read.query read.floor answer version × IsOfLog log (query_shard read.query) note
    × IsUndecidedIn types note read.query version total
IsHeldFor types log read (Past answer version total None) = ⊥
IsHeldFor types log read (HandedOut version) = ⊥

-- a read ends with an answer that was seen, or with none
abbrev pub EndsSeen : EdgeTypes → Begun → ReadAsked → View → ReadEnd → Type 0
EndsSeen types begun asked seen (Answered answer at keeps) = IsAnswerIn types begun asked seen answer at keeps
EndsSeen types begun asked seen (Refused said) = ⊤

-- where a read stands: a critical one asks no leader, what was given is right, and so is its end
abbrev pub StandsSeen : EdgeTypes → LogNames → Begun → ReadAsked → View → Standing → Type 0
StandsSeen types log begun asked seen (Keeping given) = IsHeldFor types log (wanted_by begun asked) given
StandsSeen types log begun asked seen (Ended end) = EndsSeen types begun asked seen end
StandsSeen types log begun asked seen Asking = asked.critical ≡ false
StandsSeen types log begun asked seen Looking = ⊤
StandsSeen types log begun asked seen Mastering = ⊤

-- where a read has ended without an answer, its reply refuses it, as the link has failed, keepers may fail, or there was no memory
abbrev pub EndsFor : Type 0 → Type 0 → Standing → Type 0
EndsFor failed fails (Ended (Refused said)) = RepliesRefused failed fails said
EndsFor failed fails (Ended (Answered answer at keeps)) = ⊤
EndsFor failed fails Looking = ⊤
EndsFor failed fails Asking = ⊤
EndsFor failed fails Mastering = ⊤
EndsFor failed fails (Keeping given) = ⊤

-- where a read stands after a step came to this: refused with its reply, or not refused
abbrev pub StandsAfter : {T : Type 0} → Result T Reply → Standing → Type 0
StandsAfter (Ok came) at = EndsFor ⊥ ⊥ at
StandsAfter (Err said) at = at ≡ Ended (Refused said)

-- a read on its way, with a note of its shard's log that has seen what its pass had, and all that its stages have: its region is configured, its follower
-- serves the shard, its floor was reached when it began, and it stands as it may
pub record IsReadOf (m : Making) (log : LogNames) (begun : Begun) (seen : View) (p : Reading) : Type 0 where
  pub home : p.region < length m.settings.regions
  pub serves : IsFollowerFor m.settings (query_shard p.query) p.follower
  pub reached : ReachesIn begun.seen (query_key p.query) p.floor
  pub log_is : IsOfLog log (query_shard p.query) seen
  pub grows : Grows begun.seen seen
  pub stands : StandsSeen (types_of m.settings.schema) log begun (asked_by p) seen p.at

-- a read whose fill was handed out, at this version
pub record IsHandedOut (m : Making) (log : LogNames) (begun : Begun) (seen : View) (p : Reading) (at : ℕ) : Type 0 where
  pub home : p.region < length m.settings.regions
  pub serves : IsFollowerFor m.settings (query_shard p.query) p.follower
  pub reached : ReachesIn begun.seen (query_key p.query) p.floor
  pub log_is : IsOfLog log (query_shard p.query) seen
  pub grows : Grows begun.seen seen
  pub at_is : p.at ≡ Keeping (HandedOut at)
  pub reaches : WhereTold seen.log.told (least_version begun (asked_by p) ≤ at)

-- an answer past the bound was given
abbrev pub IsPastAt : Standing → Type 0
IsPastAt (Keeping (Past answer version total seen)) = ⊤
IsPastAt (Keeping (Fill fill)) = ⊥
IsPastAt (Keeping (HandedOut version)) = ⊥
IsPastAt Looking = ⊥
IsPastAt Asking = ⊥
IsPastAt Mastering = ⊥
IsPastAt (Ended end) = ⊥

-- a stage of a read, with so many carries, after which it is still on its way, and asked the same
pub record StepsRead (m : Making) (log : LogNames) (begun : Begun) (seen : View) (more : ℕ) (p q : Reading) : Type 0 where
  pub read : IsReadOf m log begun seen q
  pub same : asked_by q ≡ asked_by p
  pub hops : q.hops ≡ hops_after p.hops more

-- a read on its way that was asked this, with the carries of all its stages, and where it was refused with the cause
pub record IsUnderWay {M : Type 0} (on : OnCluster M) (begun : Begun) (asked : ReadAsked) (seen : View) (link : LinkShown) (p : Reading) : Type 0 where
  pub read : IsReadOf on.making on.log begun seen p
  pub same : asked_by p ≡ asked
  pub hops : CountsHops begun link.carries p.hops
  pub later : begun.faults ≤ link.faults
  pub refused : EndsFor (HasFailed begun link.faults) (MayFail on.state) p.at
