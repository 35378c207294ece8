-- A whole read: how it begins, and what its session is told and learns.
use Rattle.std.proofs.Common.{◌≡◌, ℕ, Bool, Some, refl, ap, sym, subst, ◌∙◌}
use Rattle.std.specs.Prelude.{IfSome, MatchOption, Option, slice_get}
use Rattle.log_names.specs.Names.{IsOfLog, LogNames}
use Rattle.read_plan.specs.Readings.{Reading, new_reading}
use Rattle.replies.specs.declared.calls.CallReply.TheVariants as called
use Rattle.replies.specs.declared.calls.ReadReply.{ReadReply}
use Rattle.replies.specs.declared.refusals.Refusal.TheVariants.{Memory}
use Rattle.replies.specs.declared.reply.Reply.{Reply}
use Rattle.replies.specs.declared.reply.Reply.TheVariants as reply
use Rattle.session_pass.specs.Floors.{Learns, floor_at}
use Rattle.session_pass.specs.Passes.{ReachesIn, SeenPass}
use Rattle.shard_log.proofs.GrowthLemmas.{grows-self}
use Rattle.shard_log.specs.View.{Grows, View}
use Rattle.shared_stores.specs.Making.{Making}
use Rattle.tao_base.specs.Keys.{key_shard}
use Rattle.tao_base.specs.Queries.{query_key, query_shard}
use Rattle.tao_base.specs.declared.id.Key.{Key}
use Rattle.tao_base.specs.declared.query.Query.{Query}
use Rattle.tao_link.specs.Shown.{LinkShown}
use Rattle.tao_schema.specs.Schema.{key_bound, types_of}
use Rattle.locked_nodes.proofs.Seeing.{legal_seen, one_some, some_and, some_parts}
use Rattle.cluster_reads.proofs.TakenSteps.{kept_grows, legal_reached}
use Rattle.locked_nodes.specs.Begun.{Begun, begun}
use Rattle.locked_nodes.specs.Passes.{IsPassOf, SeesNote}
use Rattle.locked_nodes.specs.Cluster.{OnCluster}
use Rattle.cluster_reads.specs.Reads.{AnswersRead, EndsRead, IsBegunRead, IsKeptSo, IsReadOf, LearnsTold, ReadAsked, RepliesToRead, TellsRead}
use Rattle.cluster_reads.specs.Reads.{answered_in, asked_by, asked_with, least_version, version_told, wanted_by}

-- ---- how a read begins

pub read_begins : (m : Making) (log : LogNames) (pass : SeenPass) (query : Query) (critical : Bool) (p : Reading) (seen : View) (link : LinkShown)
    → IsPassOf m log pass → slice_get pass.notes (query_shard query) ≡ Some seen → IsBegunRead m pass query critical p
    → IsReadOf m log (begun seen link) seen p
read_begins m log pass query critical p seen link is at made =
    let floor = floor_at pass.floors (query_key query) in
    let there : IsReadOf m log (begun seen link) seen (record (new_reading query pass.region pass.tier floor critical p.follower) {
      bound = key_bound (types_of m.settings.schema) (query_key query);
    }) = record {
      home = is.home;
      serves = made.serves;
      reached = subst (λ o. MatchOption o (floor ≡ 0) (λ note. ReachesIn note (query_key query) floor)) at made.reached;
      log_is = is.notes (query_shard query) seen at;
      grows = grows-self seen;
      stands = tt;
    } in
    subst (IsReadOf m log (begun seen link) seen) (sym made.plan_is) there

-- ---- what is told

-- the version that is told was reached in what was seen
reached_in : {M : Type 0} (on : OnCluster M) (from : Begun) (asked : ReadAsked) (seen : View) (link : LinkShown) (said : Reply)
    → EndsRead on from asked seen link said → IfSome (version_told said) (ReachesIn seen (query_key asked.query))
reached_in on from asked seen link (reply.Called (called.Read told)) ends =
    legal_reached (types_of on.making.settings.schema) seen asked.query (least_version from asked) told.answer told.version ends.answer.legal
reached_in on from asked seen link (reply.Called (called.Write told)) ends = tt
reached_in on from asked seen link (reply.Refused refusal) ends = tt
reached_in on from asked seen link reply.Configured ends = tt
reached_in on from asked seen link (reply.BadConfiguration field) ends = tt
reached_in on from asked seen link (reply.BadStores at position) ends = tt
reached_in on from asked seen link (reply.Opened session) ends = tt
reached_in on from asked seen link (reply.Plan plan) ends = tt
reached_in on from asked seen link (reply.Node node) ends = tt
reached_in on from asked seen link (reply.Settled logs) ends = tt
reached_in on from asked seen link (reply.Audited answer position) ends = tt

module _ {M : Type 0} (on : OnCluster M) (from : Begun) (asked : ReadAsked) (old new : SeenPass) (seen : View) (link : LinkShown)
    (sees : SeesNote (query_shard asked.query) seen new.notes) where
  answered : (told : ReadReply) → TellsRead (types_of on.making.settings.schema) from asked seen link.carries told
      → Learns (query_key asked.query) told.version old.floors new.floors → AnswersRead on.making from asked old new link.carries told
  answered told tells learns =
      let types = types_of on.making.settings.schema in
      let now = some_parts (Grows seen) (slice_get new.notes (query_shard asked.query)) sees in
      record {
        legal = legal_seen types new.notes seen (wanted_by from asked) told.answer told.version sees tells.answer.legal;
        learns = learns;
        kept = some_and (λ v. IsKeptSo (answered_in types v asked told.version) told.kept) (slice_get new.notes (query_shard asked.query)) now.0 now.1
            (kept_grows types seen now.0 asked told.version told.kept now.2 tells.answer.kept);
        hops = tells.hops;
      }

  replied : (said : Reply) → EndsRead on from asked seen link said → LearnsTold (query_key asked.query) old.floors new.floors (version_told said)
      → RepliesToRead on from asked old new link said
  replied (reply.Called (called.Read told)) ends learns = answered told ends learns
  replied (reply.Called (called.Write told)) ends learns = absurd ends
  replied (reply.Refused refusal) ends learns = (ends, learns)
  replied reply.Configured ends learns = absurd ends
  replied (reply.BadConfiguration field) ends learns = absurd ends
  replied (reply.BadStores at position) ends learns = absurd ends
  replied (reply.Opened session) ends learns = absurd ends
  replied (reply.Plan plan) ends learns = absurd ends
  replied (reply.Node node) ends learns = absurd ends
  replied (reply.Settled logs) ends learns = absurd ends
  replied (reply.Audited answer position) ends learns = absurd ends

module _ {M : Type 0} (on : OnCluster M) (old mid : SeenPass) (query : Query) (critical : Bool) (p : Reading) (key : Key)
    (room : mid ≡ record old { spare = mid.spare }) (made : IsBegunRead on.making mid query critical p) (key_is : key ≡ query_key query) where
  -- what the plan asks is what the session does
  same_asked : asked_by p ≡ asked_with on.making old query critical
  same_asked = ap asked_by made.plan_is ∙ ap (λ (x : SeenPass). asked_with on.making x query critical) room

  own_key : query_key p.query ≡ key
  own_key = ap (λ (x : Reading). query_key x.query) made.plan_is ∙ sym key_is

  -- the version that is told was reached in what was seen
  pub read_reached : (from : Begun) (seen : View) (link : LinkShown) (said : Reply) (told : Option ℕ) → told ≡ version_told said
      → EndsRead on from (asked_by p) seen link said → IfSome told (ReachesIn seen key)
  read_reached from seen link said told is ends =
      subst (λ o. IfSome o (ReachesIn seen key)) (sym is)
      (subst (λ k. IfSome (version_told said) (ReachesIn seen k)) own_key (reached_in on from (asked_by p) seen link said ends))

  pub read_log : (seen : View) → IsOfLog on.log (query_shard p.query) seen → IsOfLog on.log (key_shard key) seen
  read_log seen is = subst (λ k. IsOfLog on.log (key_shard k) seen) own_key is

  pub read_done : (first last : View) (before after : LinkShown) (new : SeenPass) (said : Reply) (told : Option ℕ) → told ≡ version_told said
      → (at : slice_get old.notes (key_shard key) ≡ Some first) → EndsRead on (begun first before) (asked_by p) last after said
      → SeesNote (key_shard key) last new.notes → LearnsTold key mid.floors new.floors told → (seen : View)
      → slice_get old.notes (query_shard query) ≡ Some seen
      → RepliesToRead on (begun seen before) (asked_with on.making old query critical) old new after said
  read_done first last before after new said told told_is at ends sees learns seen there =
      let asked : ReadAsked = asked_with on.making old query critical in
      let one : first ≡ seen = one_some first seen (sym (subst (λ k. slice_get old.notes (key_shard k) ≡ Some first) key_is at) ∙ there) in
      let floors : mid.floors ≡ old.floors = ap (λ (x : SeenPass). x.floors) room in
      let taught : LearnsTold (query_key query) old.floors new.floors (version_told said) =
      subst (LearnsTold (query_key query) old.floors new.floors) told_is
      (subst (λ fs. LearnsTold (query_key query) fs new.floors told) floors (subst (λ k. LearnsTold k mid.floors new.floors told) key_is learns)) in
      let ended : EndsRead on (begun seen before) asked last after said =
      subst (λ v. EndsRead on (begun v before) asked last after said) one
      (subst (λ a. EndsRead on (begun first before) a last after said) same_asked ends) in
      replied on (begun seen before) asked old new last after (subst (λ k. SeesNote (key_shard k) last new.notes) key_is sees) said ended taught

-- a read that has no memory to begin teaches nothing
pub read_unbegun : {M : Type 0} (on : OnCluster M) (from : Begun) (asked : ReadAsked) (old new : SeenPass) (link : LinkShown) (said : Reply)
    → said ≡ reply.Refused (Memory 0) → new ≡ record old { spare = new.spare } → RepliesToRead on from asked old new link said
read_unbegun on from asked old new link said is same =
    subst (RepliesToRead on from asked old new link) (sym is) (refl, ap (λ (x : SeenPass). x.floors) same)
