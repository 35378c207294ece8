-- A read that took a stage is still on its way.
use Rattle.std.proofs.Common.{◌≡◌, ℕ, ◌≤◌, Bool, true, false, ◌||◌, List, Option, Some, None, IfOk, Result, Ok, Err, take, drop, length}
use Rattle.std.proofs.Common.{refl, ap, sym, subst, ◌∙◌, arith}
use Rattle.std.proofs.lemmas.List.{take-append-drop}
use Rattle.std.specs.Prelude.{◌-◌, if◌then◌else◌, IfErr}
use Rattle.cache_items.specs.declared.look.Kept.{Kept as KeptWhy}
use Rattle.cache_items.specs.declared.look.Kept.TheVariants as was
use Rattle.cache_items.specs.declared.look.Look.{Look}
use Rattle.cache_items.specs.declared.look.Look.TheVariants.{Hit, Miss}
use Rattle.core_model.specs.Reads.{IsRightAnswer, IsRightFill, given_of, wanted}
use Rattle.graph_model.proofs.Versions.{version-append}
use Rattle.graph_model.specs.Log.{version}
use Rattle.graph_model.specs.Told.{WhereTold}
use Rattle.hop_count.specs.Hops.{hops_after}
use Rattle.log_names.specs.Names.{IsOfLog, LogNames}
use Rattle.read_plan.specs.Ends.{EndsAt, EndsWith, read_reply}
use Rattle.read_plan.specs.Keeping.{kept_or_not}
use Rattle.read_plan.specs.Readings.{Reading, fill_handed, note_handed, taken}
use Rattle.read_plan.specs.Standings.{after_ask, after_keep, after_look, after_master, fill_of, has_fill, stage_of, standing_note, without_fill, without_note}
use Rattle.read_plan.specs.declared.end.ReadEnd.{ReadEnd}
use Rattle.read_plan.specs.declared.end.ReadEnd.TheVariants.{Answered, Refused}
use Rattle.read_plan.specs.declared.stages.ReadResult.TheVariants as came
use Rattle.read_plan.specs.declared.stages.ReadStage.TheVariants as stage
use Rattle.read_plan.specs.declared.standing.Given.TheVariants.{Fill, HandedOut, Past as PastGiven}
use Rattle.read_plan.specs.declared.standing.Standing.{Standing}
use Rattle.read_plan.specs.declared.standing.Standing.TheVariants.{Looking, Asking, Mastering, Keeping, Ended}
use Rattle.replies.specs.Kinds.{query_word}
use Rattle.replies.specs.declared.nodes.KeptOrNot.{KeptOrNot}
use Rattle.replies.specs.declared.nodes.KeptOrNot.TheVariants as stays
use Rattle.replies.specs.declared.nodes.NotKeptWhy.{NotKeptWhy}
use Rattle.replies.specs.declared.nodes.NotKeptWhy.TheVariants as why
use Rattle.replies.specs.declared.refusals.Refusal.TheVariants.{Memory}
use Rattle.replies.specs.declared.reply.Reply.{Reply}
use Rattle.replies.specs.declared.reply.Reply.TheVariants as reply
use Rattle.sealed_item.specs.Fills.{SealedItem}
use Rattle.session_pass.specs.Passes.{ReachesIn}
use Rattle.shard_log.proofs.Beginnings.{begins-length}
use Rattle.shard_log.proofs.GrowthLemmas.{grows-self, grows-trans, legal-grows, versions_stay}
use Rattle.shard_log.specs.GrowthLaws.{IsLegalIn}
use Rattle.shard_log.specs.View.{Grows, LogName, View}
use Rattle.shard_tables.specs.declared.leader_answer.LeaderAnswer.{LeaderAnswer}
use Rattle.shard_tables.specs.declared.leader_answer.LeaderAnswer.TheVariants.{Filled, Past, Behind}
use Rattle.shard_tables.specs.declared.read_out.ReadOut.{ReadOut}
use Rattle.shard_tables.specs.declared.read_out.ReadOut.TheVariants as store
use Rattle.locked_nodes.specs.shared_nodes.Nodes.{IsKeptAsSeen, IsLegalHit}
use Rattle.locked_nodes.specs.shared_nodes.declared.follower.SharedLook.{SharedLook}
use Rattle.shared_stores.proofs.PastAnswers.{undecided_grows}
use Rattle.shared_stores.specs.Making.{Making}
use Rattle.shared_stores.specs.PastBound.{IsUndecidedGiven, IsUndecidedIn}
use Rattle.tao_base.specs.EdgeTypes.{EdgeTypes}
use Rattle.tao_base.specs.Queries.{query_key, query_shard}
use Rattle.tao_base.specs.declared.entry.Entry.{Entry}
use Rattle.tao_base.specs.declared.id.Key.{Key}
use Rattle.tao_base.specs.declared.query.Answer.{Answer}
use Rattle.tao_base.specs.declared.query.Query.{Query}
use Rattle.tao_schema.specs.Schema.{types_of}
use Rattle.words.specs.declared.ReadWord.{ReadWord}
use Rattle.locked_nodes.specs.Begun.{Begun, CountsHops, HasFailed}
use Rattle.counts.proofs.Rises.{Rose-earlier}
use Rattle.counts.specs.Count.{Rose}
use Rattle.locked_nodes.proofs.Refusing.{replies_wider}
use Rattle.locked_nodes.specs.Cluster.{MayFail, OnCluster}
use Rattle.locked_nodes.specs.Replies.{RepliesRefused}
use Rattle.tao_link.specs.Shown.{LinkShown}
use Rattle.cluster_reads.specs.Reads.{EndsFor, EndsRead, EndsSeen, IsHandedOut, IsKeptSo, IsKeptWhy, IsPastAt, IsReadOf, IsUnderWay}
use Rattle.cluster_reads.specs.Reads.{ReadAsked, StandsAfter, StandsSeen, StepsRead, answered_in, asked_by, least_version, wanted_by}
use Rattle.locked_nodes.specs.declared.holds.Mastered.{Mastered}

-- ---- what a read must reach

grown_told : (u v : View) → Grows u v → v.log.told ≡ true → u.log.told ≡ true
grown_told u v grows told = ap (λ (l : LogName). l.told) (sym grows.log_is) ∙ told

least_by : (from seen : View) (key : Key) (floor : ℕ) (critical : Bool) → Grows from seen → ReachesIn from key floor
    → ReachesIn seen key (if critical then version from.entries key else floor)
least_by from seen key floor true grows reached told = versions_stay.version_rises from seen key grows
least_by from seen key floor false grows reached told =
    let le : floor ≤ version from.entries key = reached (grown_told from seen grows told) in
    let more : version from.entries key ≤ version seen.entries key = versions_stay.version_rises from seen key grows in
    omega arith

floor_below : (from : View) (key : Key) (floor : ℕ) (critical : Bool) → ReachesIn from key floor → from.log.told ≡ true
    → floor ≤ (if critical then version from.entries key else floor)
floor_below from key floor true reached told = reached told
floor_below from key floor false reached told = omega arith

plain_least : (begun : Begun) (asked : ReadAsked) → asked.critical ≡ false → least_version begun asked ≡ asked.floor
plain_least begun asked plain = ap (λ b. if b then version begun.seen.entries (query_key asked.query) else asked.floor) plain

-- a legal answer is so at each version that it has reached
pub legal_at : (types : EdgeTypes) (view : View) (query : Query) (low high : ℕ) (answer : Answer) (at : ℕ) → IsLegalIn types view query low answer at
    → WhereTold view.log.told (high ≤ at) → IsLegalIn types view query high answer at
legal_at types view query low high answer at legal reaches told =
    let l = legal told in
    record { n = l.n; answers = l.answers; version_is = l.version_is; reached = reaches told }

version_taken : (n : ℕ) (log : List Entry) (key : Key) → version (take n log) key ≤ version log key
version_taken n log key =
    let parts = version-append (take n log) (drop n log) key in
    let whole = ap (λ l. version l key) (take-append-drop n log) in
    omega arith

-- what is answered was reached
pub legal_reached : (types : EdgeTypes) (view : View) (query : Query) (floor : ℕ) (answer : Answer) (at : ℕ) → IsLegalIn types view query floor answer at
    → ReachesIn view (query_key query) at
legal_reached types view query floor answer at legal told =
    let l = legal told in
    let le = version_taken l.n view.entries (query_key query) in
    let same = l.version_is in
    omega arith

why_grows : (types : EdgeTypes) (u v : View) (asked : ReadAsked) (at : ℕ) (reason : NotKeptWhy) (have need : ℕ) → Grows u v
    → IsKeptWhy (answered_in types u asked at) reason have need → IsKeptWhy (answered_in types v asked at) reason have need
why_grows types u v asked at why.Mark have need grows is = (
  is.0,
  λ told.
      let le : need ≤ length u.entries = is.1 (grown_told u v grows told) in
      let more : length u.entries ≤ length v.entries = begins-length u.entries v.entries grows.begins in
      omega arith,
)
why_grows types u v asked at why.Floor have need grows is = (
  is.0,
  λ told.
      let le : need ≤ version u.entries (query_key asked.query) = is.1 (grown_told u v grows told) in
      let more : version u.entries (query_key asked.query) ≤ version v.entries (query_key asked.query) =
      versions_stay.version_rises u v (query_key asked.query) grows in
      omega arith,
)
why_grows types u v asked at why.Lost have need grows is = is
why_grows types u v asked at why.Bound have need grows is = (is.0, undecided_grows types u v asked.query at need grows is.1)
why_grows types u v asked at why.Asks have need grows is = is
why_grows types u v asked at why.Memory have need grows is = tt

-- why an answer isn't kept stays so
pub kept_grows : (types : EdgeTypes) (u v : View) (asked : ReadAsked) (at : ℕ) (kept : KeptOrNot) → Grows u v → IsKeptSo (answered_in types u asked at) kept
    → IsKeptSo (answered_in types v asked at) kept
kept_grows types u v asked at stays.Kept grows is = tt
kept_grows types u v asked at (stays.Not not_kept) grows is = why_grows types u v asked at not_kept.why not_kept.have not_kept.need grows is

-- why the follower didn't keep the fill, as the reply says it
pub kept_seen : (types : EdgeTypes) (note seen : View) (asked : ReadAsked) (at : ℕ) (kept : KeptWhy) → Grows note seen
    → IsKeptAsSeen note (query_key asked.query) kept → IsKeptSo (answered_in types seen asked at) (kept_or_not kept)
kept_seen types note seen asked at was.Yes grows is = tt
kept_seen types note seen asked at was.Asks grows is = (refl, refl)
kept_seen types note seen asked at was.Lost grows is = absurd is
kept_seen types note seen asked at (was.Mark have need) grows is = why_grows types note seen asked at why.Mark have need grows is
kept_seen types note seen asked at (was.Floor have need) grows is = why_grows types note seen asked at why.Floor have need grows is
kept_seen types note seen asked at was.Memory grows is = tt

-- what is answered from a fill is legal in what was seen, once the fill's note was
pub kept_legal : (types : EdgeTypes) (seen of_fill : View) (fill lent : SealedItem) (p : Reading) (query : Query) (floor : ℕ) (answer told : Answer)
    → query ≡ p.query → floor ≡ p.floor → lent ≡ fill → of_fill ≡ fill.note → told ≡ answer → Grows of_fill seen
    → IsLegalIn types lent.note query floor answer lent.version → IsLegalIn types seen p.query p.floor told fill.version
kept_legal types seen of_fill fill lent p query floor answer told own at same note is grows legal =
    let lent_is : IsLegalIn types fill.note query floor answer fill.version =
    subst (λ (f : SealedItem). IsLegalIn types f.note query floor answer f.version) same legal in
    let asked : IsLegalIn types fill.note p.query p.floor told fill.version =
    subst (λ (a : Answer). IsLegalIn types fill.note p.query p.floor a fill.version) (sym is)
    (subst (λ n. IsLegalIn types fill.note p.query n answer fill.version) at
    (subst (λ (q : Query). IsLegalIn types fill.note q floor answer fill.version) own lent_is)) in
    legal-grows fill.note seen types p.query p.floor told fill.version (subst (λ (v : View). Grows v seen) note grows) asked

pub kept_reason : (types : EdgeTypes) (note seen : View) (p : Reading) (query : Query) (kept told : KeptWhy) (at : ℕ) → query ≡ p.query → told ≡ kept
    → Grows note seen → IsKeptAsSeen note (query_key query) kept → IsKeptSo (answered_in types seen (asked_by p) at) (kept_or_not told)
kept_reason types note seen p query kept told at own is grows reason =
    kept_seen types note seen (asked_by p) at told grows
    (subst (IsKeptAsSeen note (query_key p.query)) (sym is) (subst (λ (q : Query). IsKeptAsSeen note (query_key q) kept) own reason))

-- ---- causes

ends_wider : (failed fails now also : Type 0) → (failed → now) → (fails → also) → (at : Standing) → EndsFor failed fails at → EndsFor now also at
ends_wider failed fails now also later wider (Ended (Refused said)) is = replies_wider failed fails now also later wider said is
ends_wider failed fails now also later wider (Ended (Answered answer at keeps)) is = tt
ends_wider failed fails now also later wider Looking is = tt
ends_wider failed fails now also later wider Asking is = tt
ends_wider failed fails now also later wider Mastering is = tt
ends_wider failed fails now also later wider (Keeping given) is = tt

-- a stage without a carry, or the call of a keeper
pub ends_anyhow : (failed fails : Type 0) (at : Standing) → EndsFor ⊥ ⊥ at → EndsFor failed fails at
ends_anyhow failed fails = ends_wider ⊥ ⊥ failed fails (λ none. absurd none) (λ none. absurd none)

-- a stage that was refused for a cause, or not refused
pub ends_after : {T : Type 0} (failed fails : Type 0) (r : Result T Reply) (at : Standing) → StandsAfter r at → IfErr r (RepliesRefused failed fails)
    → EndsFor failed fails at
ends_after failed fails (Ok came) at stands is = ends_anyhow failed fails at stands
ends_after failed fails (Err said) at stands is = subst (EndsFor failed fails) (sym stands) is

look_going : (critical : Bool) (look : Look) → EndsFor ⊥ ⊥ (after_look critical look)
look_going true look = tt
look_going false (Hit answer version) = tt
look_going false Miss = tt

ask_going : (given : LeaderAnswer) → EndsFor ⊥ ⊥ (after_ask given)
ask_going (Filled fill) = tt
ask_going (Past answer version total note) = tt
ask_going (Behind version) = tt

out_going : (out : ReadOut) → EndsFor ⊥ ⊥ (after_master out)
out_going (store.Filled fill) = tt
out_going (store.Past answer version total note) = tt

past_going : (bound : ℕ) (at : Standing) → IsPastAt at → EndsFor ⊥ ⊥ (after_keep bound (without_note at) None)
past_going bound (Keeping (PastGiven answer version total held)) past = tt
past_going bound (Keeping (Fill given)) past = absurd past
past_going bound (Keeping (HandedOut version)) past = absurd past
past_going bound Looking past = absurd past
past_going bound Asking past = absurd past
past_going bound Mastering past = absurd past
past_going bound (Ended end) past = absurd past

-- where a read stands that took this
pub look_ends : (p q : Reading) (look : Look) → q ≡ taken (came.Look (Ok look)) 0 false p → EndsFor ⊥ ⊥ q.at
look_ends p q look same = subst (λ (x : Reading). EndsFor ⊥ ⊥ x.at) (sym same) (look_going p.critical look)

pub ask_ends : (p q : Reading) (given : LeaderAnswer) (more : ℕ) (called : Bool) → q ≡ taken (came.Ask (Ok given)) more called p → EndsFor ⊥ ⊥ q.at
ask_ends p q given more called same = subst (λ (x : Reading). EndsFor ⊥ ⊥ x.at) (sym same) (ask_going given)

pub out_ends : (p q : Reading) (out : ReadOut) (more : ℕ) (called : Bool) → q ≡ taken (came.Master (Ok out)) more called p → EndsFor ⊥ ⊥ q.at
out_ends p q out more called same = subst (λ (x : Reading). EndsFor ⊥ ⊥ x.at) (sym same) (out_going out)

pub past_ends : (p q : Reading) → IsPastAt p.at → q ≡ taken (came.Keep (Ok None)) 0 false (note_handed p) → EndsFor ⊥ ⊥ q.at
past_ends p q past same = subst (λ (x : Reading). EndsFor ⊥ ⊥ x.at) (sym same) (past_going p.bound p.at past)

-- a stage that was refused
pub look_refused : (p q : Reading) (said : Reply) → q ≡ taken (came.Look (Err said)) 0 false p → said ≡ reply.Refused (Memory 0) → EndsFor ⊥ ⊥ q.at
look_refused p q said same is =
    subst (λ (x : Reading). EndsFor ⊥ ⊥ x.at) (sym same) (subst (RepliesRefused ⊥ ⊥) (sym is) refl)

pub keep_refused : (p q : Reading) (said : Reply) → q ≡ taken (came.Keep (Err said)) 0 false p → RepliesRefused ⊥ ⊥ said → EndsFor ⊥ ⊥ q.at
keep_refused p q said same is = subst (λ (x : Reading). EndsFor ⊥ ⊥ x.at) (sym same) is

-- a stage that was answered, or refused with its reply
pub stands_asked : (p q : Reading) (said : Reply) (more : ℕ) (called : Bool) → q ≡ taken (came.Ask (Err said)) more called p → q.at ≡ Ended (Refused said)
stands_asked p q said more called same = ap (λ (x : Reading). x.at) same

pub stands_read : (p q : Reading) (said : Reply) (more : ℕ) (called : Bool) → q ≡ taken (came.Master (Err said)) more called p → q.at ≡ Ended (Refused said)
stands_read p q said more called same = ap (λ (x : Reading). x.at) same

pub kept_ends : (p q : Reading) (version : ℕ) (found : Answer × KeptWhy) → p.at ≡ Keeping (HandedOut version)
    → q ≡ taken (came.Keep (Ok (Some found))) 0 false p → EndsFor ⊥ ⊥ q.at
kept_ends p q version found at same =
    subst (λ (x : Reading). EndsFor ⊥ ⊥ x.at) (sym same)
    (subst (λ (a : Standing). EndsFor ⊥ ⊥ (after_keep p.bound a (Some found))) (sym at) tt)

module _ (m : Making) (log : LogNames) (begun : Begun) where
  -- ---- a read at another standing

  steps_to : (old seen : View) (p : Reading) (ask : Option ℕ) (at : Standing) (more : ℕ) (called : Bool) → IsReadOf m log begun old p → Grows old seen
      → StandsSeen (types_of m.settings.schema) log begun (asked_by p) seen at
      → StepsRead m log begun seen more p (record p { ask = ask; at = at; hops = hops_after p.hops more; store = called })
  steps_to old seen p ask at more called is grows stands = record {
    read = record {
      home = is.home;
      serves = is.serves;
      reached = is.reached;
      log_is = grows.log_is ∙ is.log_is;
      grows = grows-trans begun.seen old seen is.grows grows;
      stands = stands;
    };
    same = refl;
    hops = refl;
  }

  -- a stage that is refused
  pub refused_steps : (old seen : View) (p q : Reading) (more : ℕ) (called : Bool) (said : Reply) → IsReadOf m log begun old p → Grows old seen
      → q ≡ record p { at = Ended (Refused said); hops = hops_after p.hops more; store = called } → StepsRead m log begun seen more p q
  refused_steps old seen p q more called said is grows same =
      subst (StepsRead m log begun seen more p) (sym same) (steps_to old seen p p.ask (Ended (Refused said)) more called is grows tt)

  -- ---- look

  hit_stands : (seen note : View) (asked : ReadAsked) (look : Look) → asked.critical ≡ false → Grows note seen
      → IsLegalHit (types_of m.settings.schema) note (wanted asked.query asked.floor) look
      → StandsSeen (types_of m.settings.schema) log begun asked seen (after_look false look)
  hit_stands seen note asked (Hit answer version) plain grows legal = record {
    legal = subst (λ n. IsLegalIn (types_of m.settings.schema) seen asked.query n answer version) (sym (plain_least begun asked plain))
        (legal-grows note seen (types_of m.settings.schema) asked.query asked.floor answer version grows legal);
    kept = tt;
  }
  hit_stands seen note asked Miss plain grows legal = plain

  pub look_steps : (old seen : View) (p r q : Reading) (found : SharedLook) → IsReadOf m log begun old p → p.critical ≡ false → Grows old seen
      → Grows found.note seen → IsLegalHit (types_of m.settings.schema) found.note (wanted p.query p.floor) found.look
      → r ≡ record p { ask = found.ask } → q ≡ taken (came.Look (Ok found.look)) 0 false r → StepsRead m log begun seen 0 p q
  look_steps old seen p r q found is plain grows sees legal opened same =
      subst (StepsRead m log begun seen 0 p) (sym (same ∙ ap (λ (x : Reading). taken (came.Look (Ok found.look)) 0 false x) opened))
      (steps_to old seen p found.ask (after_look p.critical found.look) 0 (p.store || false) is grows
      (subst (λ b. StandsSeen (types_of m.settings.schema) log begun (asked_by p) seen (after_look b found.look)) (sym plain)
      (hit_stands seen found.note (asked_by p) found.look plain sees legal)))

  pub critical_steps : (seen : View) (p q : Reading) (ask : Option ℕ) → IsReadOf m log begun seen p → p.critical ≡ true
      → q ≡ taken (came.Look (Ok Miss)) 0 false (record p { ask = ask }) → StepsRead m log begun seen 0 p q
  critical_steps seen p q ask is critical same =
      subst (StepsRead m log begun seen 0 p) (sym same)
      (steps_to seen seen p ask (after_look p.critical Miss) 0 (p.store || false) is (grows-self seen)
      (subst (λ b. StandsSeen (types_of m.settings.schema) log begun (asked_by p) seen (after_look b Miss)) (sym critical) tt))

  -- ---- ask

  asks_plain : (asked : ReadAsked) (seen : View) (at : Standing) → StandsSeen (types_of m.settings.schema) log begun asked seen at
      → stage_of at ≡ stage.Ask → asked.critical ≡ false
  asks_plain asked seen Asking stands is = stands
  asks_plain asked seen Looking stands is = absurd (cc)
  asks_plain asked seen Mastering stands is = absurd (cc)
  asks_plain asked seen (Keeping given) stands is = absurd (cc)
  asks_plain asked seen (Ended end) stands is = absurd (cc)

  ask_stands : (asked : ReadAsked) (seen : View) (given : LeaderAnswer)
      → IsRightAnswer (types_of m.settings.schema) (IsOfLog log) (wanted_by begun asked) given
      → IsUndecidedGiven (types_of m.settings.schema) asked.query given
      → StandsSeen (types_of m.settings.schema) log begun asked seen (after_ask given)
  ask_stands asked seen (Filled fill) is past = is
  ask_stands asked seen (Past answer version total note) is past = (is.0, is.1, past)
  ask_stands asked seen (Behind version) is past = tt

  pub ask_steps : (seen : View) (p q : Reading) (given : LeaderAnswer) (more : ℕ) (called : Bool) → IsReadOf m log begun seen p
      → stage_of p.at ≡ stage.Ask → IsRightAnswer (types_of m.settings.schema) (IsOfLog log) (wanted p.query p.floor) given
      → IsUndecidedGiven (types_of m.settings.schema) p.query given → q ≡ taken (came.Ask (Ok given)) more called p
      → StepsRead m log begun seen more p q
  ask_steps seen p q given more called is ask right past same =
      subst (StepsRead m log begun seen more p) (sym same)
      (steps_to seen seen p p.ask (after_ask given) more (p.store || called) is (grows-self seen)
      (ask_stands (asked_by p) seen given
      (subst (λ n. IsRightAnswer (types_of m.settings.schema) (IsOfLog log) (wanted p.query n) given)
      (sym (plain_least begun (asked_by p) (asks_plain (asked_by p) seen p.at is.stands ask))) right) past))

  -- ---- master

  master_stands : (asked : ReadAsked) (seen : View) (at : Standing) → stage_of at ≡ stage.Master
      → StandsSeen (types_of m.settings.schema) log begun asked seen at
  master_stands asked seen Mastering is = tt
  master_stands asked seen Looking is = absurd (cc)
  master_stands asked seen Asking is = absurd (cc)
  master_stands asked seen (Keeping given) is = absurd (cc)
  master_stands asked seen (Ended end) is = absurd (cc)

  -- a read that waits for the master's store has seen more
  pub grown_master : (old seen : View) (p : Reading) → IsReadOf m log begun old p → Grows old seen → stage_of p.at ≡ stage.Master
      → IsReadOf m log begun seen p
  grown_master old seen p is grows master = record {
    home = is.home;
    serves = is.serves;
    reached = is.reached;
    log_is = grows.log_is ∙ is.log_is;
    grows = grows-trans begun.seen old seen is.grows grows;
    stands = master_stands (asked_by p) seen p.at master;
  }

  -- what the store read is right at the version that the read must reach
  pub right_out : (seen : View) (p : Reading) (out : Result Mastered Reply) → IsReadOf m log begun seen p
      → IfOk out (λ read. (floor : ℕ) → ReachesIn seen (query_key p.query) floor
      → IsRightAnswer (types_of m.settings.schema) (IsOfLog log) (wanted p.query floor) (given_of read.out))
      → IfOk out (λ read. IsRightAnswer (types_of m.settings.schema) (IsOfLog log) (wanted_by begun (asked_by p)) (given_of read.out))
  right_out seen p (Ok read) is given =
      given (least_version begun (asked_by p)) (least_by begun.seen seen (query_key p.query) p.floor p.critical is.grows is.reached)
  right_out seen p (Err said) is given = tt

  out_stands : (asked : ReadAsked) (seen : View) (out : ReadOut)
      → IsRightAnswer (types_of m.settings.schema) (IsOfLog log) (wanted_by begun asked) (given_of out)
      → IsUndecidedGiven (types_of m.settings.schema) asked.query (given_of out)
      → StandsSeen (types_of m.settings.schema) log begun asked seen (after_master out)
  out_stands asked seen (store.Filled fill) is past = is
  out_stands asked seen (store.Past answer version total note) is past = (is.0, is.1, past)

  pub out_steps : (seen : View) (p q : Reading) (out : ReadOut) (more : ℕ) (called : Bool) → IsReadOf m log begun seen p
      → IsRightAnswer (types_of m.settings.schema) (IsOfLog log) (wanted_by begun (asked_by p)) (given_of out)
      → IsUndecidedGiven (types_of m.settings.schema) p.query (given_of out) → q ≡ taken (came.Master (Ok out)) more called p
      → StepsRead m log begun seen more p q
  out_steps seen p q out more called is right past same =
      subst (StepsRead m log begun seen more p) (sym same)
      (steps_to seen seen p p.ask (after_master out) more (p.store || called) is (grows-self seen) (out_stands (asked_by p) seen out right past))

  -- ---- keep, of a fill

  held_fill : (asked : ReadAsked) (seen : View) (at : Standing) (fill : SealedItem) → StandsSeen (types_of m.settings.schema) log begun asked seen at
      → fill_of at ≡ Some fill → IsRightFill (types_of m.settings.schema) (IsOfLog log) (wanted_by begun asked) fill
  held_fill asked seen (Keeping (Fill given)) fill stands is =
      (let one : given ≡ fill = cc in subst (IsRightFill (types_of m.settings.schema) (IsOfLog log) (wanted_by begun asked)) one stands)
  held_fill asked seen (Keeping (HandedOut version)) fill stands is = absurd stands
  held_fill asked seen (Keeping (PastGiven answer version total held)) fill stands is = absurd (cc)
  held_fill asked seen Looking fill stands is = absurd (cc)
  held_fill asked seen Asking fill stands is = absurd (cc)
  held_fill asked seen Mastering fill stands is = absurd (cc)
  held_fill asked seen (Ended end) fill stands is = absurd (cc)

  -- there is one where a fill was given
  pub fill_there : (asked : ReadAsked) (seen : View) (at : Standing) → StandsSeen (types_of m.settings.schema) log begun asked seen at
      → has_fill at ≡ true → fill_of at ≡ None → ⊥
  fill_there asked seen (Keeping (Fill given)) stands has none = cc
  fill_there asked seen (Keeping (HandedOut version)) stands has none = stands
  fill_there asked seen (Keeping (PastGiven answer version total held)) stands has none = cc
  fill_there asked seen Looking stands has none = cc
  fill_there asked seen Asking stands has none = cc
  fill_there asked seen Mastering stands has none = cc
  fill_there asked seen (Ended end) stands has none = cc

  handed_at : (at : Standing) (fill : SealedItem) → fill_of at ≡ Some fill → without_fill at ≡ Keeping (HandedOut fill.version)
  handed_at (Keeping (Fill given)) fill is = (let one : given ≡ fill = cc in ap (λ (f : SealedItem). Keeping (HandedOut f.version)) one)
  handed_at (Keeping (HandedOut version)) fill is = absurd (cc)
  handed_at (Keeping (PastGiven answer version total held)) fill is = absurd (cc)
  handed_at Looking fill is = absurd (cc)
  handed_at Asking fill is = absurd (cc)
  handed_at Mastering fill is = absurd (cc)
  handed_at (Ended end) fill is = absurd (cc)

  -- the fill that was handed out is right at the read's own floor too
  pub fill_given : (seen : View) (p q : Reading) (fill : SealedItem) → IsReadOf m log begun seen p → fill_of p.at ≡ Some fill → q ≡ fill_handed p
      → IsRightFill (types_of m.settings.schema) (IsOfLog log) (wanted q.query q.floor) fill
  fill_given seen p q fill is given same =
      let right = held_fill (asked_by p) seen p.at fill is.stands given in
      let one : begun.seen.log ≡ fill.note.log = sym is.grows.log_is ∙ is.log_is ∙ sym right.seen in
      subst (λ (x : Reading). IsRightFill (types_of m.settings.schema) (IsOfLog log) (wanted x.query x.floor) fill) (sym same)
      (record {
        key_is = right.key_is;
        decides = right.decides;
        within = right.within;
        reaches = λ told.
            let low = floor_below begun.seen (query_key p.query) p.floor p.critical is.reached (ap (λ (l : LogName). l.told) one ∙ told) in
            let high : least_version begun (asked_by p) ≤ fill.version = right.reaches told in
            omega arith;
        seen = right.seen;
      })

  -- a read whose fill is handed out
  pub handed_read : (old seen : View) (p q : Reading) (fill : SealedItem) (at : ℕ) → IsReadOf m log begun old p → Grows old seen
      → fill_of p.at ≡ Some fill → q ≡ fill_handed p → at ≡ fill.version → IsHandedOut m log begun seen q at
  handed_read old seen p q fill at is grows given same version =
      let right = held_fill (asked_by p) old p.at fill is.stands given in
      let one : fill.note.log ≡ seen.log = right.seen ∙ sym is.log_is ∙ sym grows.log_is in
      let there : IsHandedOut m log begun seen (fill_handed p) at = record {
        home = is.home;
        serves = is.serves;
        reached = is.reached;
        log_is = grows.log_is ∙ is.log_is;
        grows = grows-trans begun.seen old seen is.grows grows;
        at_is = handed_at p.at fill given ∙ ap (λ n. Keeping (HandedOut n)) (sym version);
        reaches = λ told.
            let high : least_version begun (asked_by p) ≤ fill.version = right.reaches (ap (λ (l : LogName). l.told) one ∙ told) in
            omega (arith, high, version);
      } in
      subst (λ (x : Reading). IsHandedOut m log begun seen x at) (sym same) there

  handed_to : (seen : View) (p : Reading) (version : ℕ) (at : Standing) (called : Bool) → IsHandedOut m log begun seen p version
      → StandsSeen (types_of m.settings.schema) log begun (asked_by p) seen at
      → StepsRead m log begun seen 0 p (record p { at = at; hops = hops_after p.hops 0; store = called })
  handed_to seen p version at called is stands = record {
    read = record { home = is.home; serves = is.serves; reached = is.reached; log_is = is.log_is; grows = is.grows; stands = stands };
    same = refl;
    hops = refl;
  }

  pub kept_steps : (seen : View) (p q : Reading) (version : ℕ) (found : Answer × KeptWhy) → IsHandedOut m log begun seen p version
      → IsLegalIn (types_of m.settings.schema) seen p.query p.floor found.0 version
      → IsKeptSo (answered_in (types_of m.settings.schema) seen (asked_by p) version) (kept_or_not found.1)
      → q ≡ taken (came.Keep (Ok (Some found))) 0 false p → StepsRead m log begun seen 0 p q
  kept_steps seen p q version found is legal kept same =
      subst (StepsRead m log begun seen 0 p) (sym same)
      (handed_to seen p version (after_keep p.bound p.at (Some found)) (p.store || false) is
      (subst (λ (at : Standing). StandsSeen (types_of m.settings.schema) log begun (asked_by p) seen (after_keep p.bound at (Some found))) (sym is.at_is)
      (record {
        legal = legal_at (types_of m.settings.schema) seen p.query p.floor (least_version begun (asked_by p)) found.0 version legal is.reaches;
        kept = kept;
      })))

  pub unkept_steps : (seen : View) (p q : Reading) (version : ℕ) (said : Reply) → IsHandedOut m log begun seen p version
      → q ≡ taken (came.Keep (Err said)) 0 false p → StepsRead m log begun seen 0 p q
  unkept_steps seen p q version said is same =
      subst (StepsRead m log begun seen 0 p) (sym same) (handed_to seen p version (Ended (Refused said)) (p.store || false) is tt)

  -- a step of the read whose fill was handed out is one of the read
  pub steps_handed : (seen : View) (p q r : Reading) → q ≡ fill_handed p → StepsRead m log begun seen 0 q r → StepsRead m log begun seen 0 p r
  steps_handed seen p q r same steps =
      let there : StepsRead m log begun seen 0 (fill_handed p) r = subst (λ (x : Reading). StepsRead m log begun seen 0 x r) same steps in
      record { read = there.read; same = there.same; hops = there.hops }

  -- ---- keep, of an answer past the bound

  pub past_there : (asked : ReadAsked) (seen : View) (at : Standing) → StandsSeen (types_of m.settings.schema) log begun asked seen at
      → IsPastAt at → standing_note at ≡ None → ⊥
  past_there asked seen (Keeping (PastGiven answer version total (Some note))) stands past none = cc
  past_there asked seen (Keeping (PastGiven answer version total None)) stands past none = stands
  past_there asked seen (Keeping (Fill given)) stands past none = past
  past_there asked seen (Keeping (HandedOut version)) stands past none = past
  past_there asked seen Looking stands past none = past
  past_there asked seen Asking stands past none = past
  past_there asked seen Mastering stands past none = past
  past_there asked seen (Ended end) stands past none = past

  pub past_log : (asked : ReadAsked) (seen : View) (at : Standing) (note : View) → StandsSeen (types_of m.settings.schema) log begun asked seen at
      → IsPastAt at → standing_note at ≡ Some note → IsOfLog log (query_shard asked.query) note
  past_log asked seen (Keeping (PastGiven answer version total (Some own))) note stands past is =
      (let one : own ≡ note = cc in subst (IsOfLog log (query_shard asked.query)) one stands.1)
  past_log asked seen (Keeping (PastGiven answer version total None)) note stands past is = absurd stands
  past_log asked seen (Keeping (Fill given)) note stands past is = absurd past
  past_log asked seen (Keeping (HandedOut version)) note stands past is = absurd past
  past_log asked seen Looking note stands past is = absurd past
  past_log asked seen Asking note stands past is = absurd past
  past_log asked seen Mastering note stands past is = absurd past
  past_log asked seen (Ended end) note stands past is = absurd past

  past_stands : (asked : ReadAsked) (old seen : View) (at : Standing) (note : View) → StandsSeen (types_of m.settings.schema) log begun asked old at
      → IsPastAt at → standing_note at ≡ Some note → Grows note seen
      → StandsSeen (types_of m.settings.schema) log begun asked seen (after_keep asked.bound (without_note at) None)
  past_stands asked old seen (Keeping (PastGiven answer version total (Some own))) note stands past is grows =
      let one : own ≡ note = cc in
      let undecided : IsUndecidedIn (types_of m.settings.schema) note asked.query version total =
      subst (λ (v : View). IsUndecidedIn (types_of m.settings.schema) v asked.query version total) one stands.2 in
      record {
        legal = legal-grows note seen (types_of m.settings.schema) asked.query (least_version begun asked) answer version grows
            (subst (λ (v : View). IsLegalIn (types_of m.settings.schema) v asked.query (least_version begun asked) answer version) one stands.0);
        kept = (refl, undecided_grows (types_of m.settings.schema) note seen asked.query version total grows undecided);
      }
  past_stands asked old seen (Keeping (PastGiven answer version total None)) note stands past is grows = absurd stands
  past_stands asked old seen (Keeping (Fill given)) note stands past is grows = absurd past
  past_stands asked old seen (Keeping (HandedOut version)) note stands past is grows = absurd past
  past_stands asked old seen Looking note stands past is grows = absurd past
  past_stands asked old seen Asking note stands past is grows = absurd past
  past_stands asked old seen Mastering note stands past is grows = absurd past
  past_stands asked old seen (Ended end) note stands past is grows = absurd past

  pub past_steps : (old seen : View) (p q : Reading) (note : View) → IsReadOf m log begun old p → IsPastAt p.at → standing_note p.at ≡ Some note
      → Grows old seen → Grows note seen → q ≡ taken (came.Keep (Ok None)) 0 false (note_handed p) → StepsRead m log begun seen 0 p q
  past_steps old seen p q note is past at grows sees same =
      subst (StepsRead m log begun seen 0 p) (sym same)
      (steps_to old seen p p.ask (after_keep p.bound (without_note p.at) None) 0 (p.store || false) is grows
      (past_stands (asked_by p) old seen p.at note is.stands past at sees))

  -- where the stage is to keep and no fill was given, an answer past the bound was
  pub past_of : (asked : ReadAsked) (seen : View) (at : Standing) → StandsSeen (types_of m.settings.schema) log begun asked seen at
      → stage_of at ≡ stage.Keep → has_fill at ≡ false → IsPastAt at
  past_of asked seen (Keeping (PastGiven answer version total held)) stands keep has = tt
  past_of asked seen (Keeping (Fill given)) stands keep has = absurd (cc)
  past_of asked seen (Keeping (HandedOut version)) stands keep has = absurd (cc)
  past_of asked seen Looking stands keep has = absurd (cc)
  past_of asked seen Asking stands keep has = absurd (cc)
  past_of asked seen Mastering stands keep has = absurd (cc)
  past_of asked seen (Ended end) stands keep has = absurd (cc)

  -- a stage without a carry
  pub steps_still : (seen : View) (carries : ℕ) (p q : Reading) → StepsRead m log begun seen 0 p q → StepsRead m log begun seen (carries - carries) p q
  steps_still seen carries p q steps =
      let none : carries - carries ≡ 0 = omega arith in
      subst (λ n. StepsRead m log begun seen n p q) (sym none) steps

-- ---- all stages

module _ {M : Type 0} (on : OnCluster M) (begun : Begun) where
  pub under_way_first : (seen : View) (link : LinkShown) (p : Reading) → IsReadOf on.making on.log begun seen p → begun.carries ≡ link.carries
      → begun.faults ≡ link.faults → p.hops ≡ 0 → EndsFor ⊥ ⊥ p.at → IsUnderWay on begun (asked_by p) seen link p
  under_way_first seen link p is since faults none going = record {
    read = is;
    same = refl;
    hops = record { later = omega (arith, since); hops_are = omega (arith, since, none) };
    later = omega (arith, faults);
    refused = ends_anyhow (HasFailed begun link.faults) (MayFail on.state) p.at going;
  }

  pub under_way_on : (asked : ReadAsked) (old new : View) (first now : LinkShown) (p q : Reading) → IsUnderWay on begun asked old first p
      → first.carries ≤ now.carries → first.faults ≤ now.faults → StepsRead on.making on.log begun new (now.carries - first.carries) p q
      → EndsFor (Rose first.faults now.faults) (MayFail on.state) q.at → IsUnderWay on begun asked new now q
  under_way_on asked old new first now p q under le faults steps ends = record {
    read = steps.read;
    same = steps.same ∙ under.same;
    hops = (
        let later : begun.carries ≤ first.carries = under.hops.later in
        let before : p.hops ≡ hops_after 0 (first.carries - begun.carries) = under.hops.hops_are in
        let after : q.hops ≡ hops_after p.hops (now.carries - first.carries) = steps.hops in
        record { later = omega (arith, later, le); hops_are = omega (arith, later, le, before, after) });
    later = omega (arith, under.later, faults);
    refused = ends_wider (Rose first.faults now.faults) (MayFail on.state) (HasFailed begun now.faults) (MayFail on.state)
        (λ rose. Rose-earlier begun.faults first.faults now.faults under.later rose) (λ fails. fails) q.at ends;
  }

  refused_end : (asked : ReadAsked) (seen : View) (link : LinkShown) (said : Reply) → RepliesRefused (HasFailed begun link.faults) (MayFail on.state) said
      → EndsRead on begun asked seen link said
  refused_end asked seen link (reply.Refused refusal) is = is
  refused_end asked seen link (reply.Called called) is = absurd is
  refused_end asked seen link reply.Configured is = absurd is
  refused_end asked seen link (reply.BadConfiguration field) is = absurd is
  refused_end asked seen link (reply.BadStores at position) is = absurd is
  refused_end asked seen link (reply.Opened session) is = absurd is
  refused_end asked seen link (reply.Plan plan) is = absurd is
  refused_end asked seen link (reply.Node node) is = absurd is
  refused_end asked seen link (reply.Settled logs) is = absurd is
  refused_end asked seen link (reply.Audited answer position) is = absurd is

  told_end : (asked : ReadAsked) (seen : View) (link : LinkShown) (word : ReadWord) (hops : ℕ) (called : Bool) (end : ReadEnd)
      → EndsSeen (types_of on.making.settings.schema) begun asked seen end
      → EndsFor (HasFailed begun link.faults) (MayFail on.state) (Ended end) → CountsHops begun link.carries hops
      → EndsRead on begun asked seen link (read_reply word hops called end)
  told_end asked seen link word hops called (Answered answer version keeps) is ends count = record { answer = is; hops = count }
  told_end asked seen link word hops called (Refused said) is ends count = refused_end asked seen link said ends

  ends_at : (asked : ReadAsked) (seen : View) (link : LinkShown) (p : Reading) (at : Standing) (said : Reply) → EndsAt at p said
      → StandsSeen (types_of on.making.settings.schema) on.log begun asked seen at → EndsFor (HasFailed begun link.faults) (MayFail on.state) at
      → CountsHops begun link.carries p.hops → EndsRead on begun asked seen link said
  ends_at asked seen link p (Ended end) said ends stands for count =
      subst (EndsRead on begun asked seen link) (sym ends) (told_end asked seen link (query_word p.query) p.hops p.store end stands for count)
  ends_at asked seen link p Looking said ends stands for count = absurd ends
  ends_at asked seen link p Asking said ends stands for count = absurd ends
  ends_at asked seen link p Mastering said ends stands for count = absurd ends
  ends_at asked seen link p (Keeping given) said ends stands for count = absurd ends

  -- what a read ends with
  pub ends_read : (asked : ReadAsked) (seen : View) (link : LinkShown) (p : Reading) (said : Reply) → IsUnderWay on begun asked seen link p
      → EndsWith p said → EndsRead on begun asked seen link said
  ends_read asked seen link p said under ends =
      subst (λ (a : ReadAsked). EndsRead on begun a seen link said) under.same
      (ends_at (asked_by p) seen link p p.at said ends under.read.stands under.refused under.hops)

  pub ended_log : (asked : ReadAsked) (seen : View) (link : LinkShown) (p : Reading) → IsUnderWay on begun asked seen link p
      → IsOfLog on.log (query_shard asked.query) seen
  ended_log asked seen link p under = subst (λ (a : ReadAsked). IsOfLog on.log (query_shard a.query) seen) under.same under.read.log_is
