-- The stages of a read, one after another.
use Rattle.std.proofs.Common.{ℕ, ◌≡◌, ◌≤◌, ◌+◌, Bool, true, false, ◌||◌, min, List, [], ◌∷◌, length, Some, None, Ok, Err, refl, sym, ap, subst, ◌∙◌, arith}
use Rattle.std.specs.List.{list_any}
use Rattle.tao_base.specs.declared.query.Answer.{Answer}
use Rattle.tao_base.specs.declared.query.Query.{Query}
use Rattle.hop_count.proofs.Adding.{hops_add}
use Rattle.hop_count.specs.Hops.{hops_after, most_hops}
use Rattle.node_name.specs.declared.NodeName.{NodeName}
use Rattle.cache_items.specs.declared.look.Look.TheVariants.{Hit, Miss}
use Rattle.replies.specs.declared.nodes.KeptOrNot.{KeptOrNot}
use Rattle.shard_tables.specs.declared.leader_answer.LeaderAnswer.TheVariants as leader
use Rattle.shard_tables.specs.declared.read_out.ReadOut.TheVariants as store
use Rattle.read_plan.specs.Readings.{NeverAsks, Reading, new_reading, taken}
use Rattle.read_plan.specs.Runs.{AnswersAreGiven, ComesFrom, DoneStage, Goes, ReadsEnd, hops_of, is_ask}
use Rattle.read_plan.specs.Standings.{IsAnsweredFrom, came_of, stage_of, standing_after, without_fill, without_note}
use Rattle.read_plan.specs.declared.end.ReadEnd.TheVariants.{Answered}
use Rattle.read_plan.specs.declared.stages.ReadResult.{ReadResult}
use Rattle.read_plan.specs.declared.stages.ReadResult.TheVariants as came
use Rattle.read_plan.specs.declared.stages.ReadStage.TheVariants as stage
use Rattle.read_plan.specs.declared.standing.Given.TheVariants.{Fill, HandedOut, Past}
use Rattle.read_plan.specs.declared.standing.Standing.{Standing}
use Rattle.read_plan.specs.declared.standing.Standing.TheVariants.{Looking, Asking, Mastering, Keeping, Ended}

-- how many stages may follow
abbrev left : Standing → ℕ
left Looking = 4
left Asking = 3
left Mastering = 2
left (Keeping given) = 1
left (Ended end) = 0

-- each stage leaves fewer
leaves_fewer : (critical : Bool) (bound : ℕ) (at : Standing) (outcome : ReadResult) → came_of outcome ≡ stage_of at → IsAnsweredFrom at outcome
    → left (standing_after critical bound at outcome) + 1 ≤ left at
leaves_fewer true bound Looking (came.Look (Ok look)) is answered = omega arith
leaves_fewer false bound Looking (came.Look (Ok (Hit answer version))) is answered = omega arith
leaves_fewer false bound Looking (came.Look (Ok Miss)) is answered = omega arith
leaves_fewer critical bound Looking (came.Look (Err reply)) is answered = omega arith
leaves_fewer critical bound Asking (came.Ask (Ok (leader.Filled fill))) is answered = omega arith
leaves_fewer critical bound Asking (came.Ask (Ok (leader.Past answer version total note))) is answered = omega arith
leaves_fewer critical bound Asking (came.Ask (Ok (leader.Behind version))) is answered = omega arith
leaves_fewer critical bound Asking (came.Ask (Err reply)) is answered = omega arith
leaves_fewer critical bound Mastering (came.Master (Ok (store.Filled fill))) is answered = omega arith
leaves_fewer critical bound Mastering (came.Master (Ok (store.Past answer version total note))) is answered = omega arith
leaves_fewer critical bound Mastering (came.Master (Err reply)) is answered = omega arith
leaves_fewer critical bound (Keeping (Fill fill)) (came.Keep (Ok (Some found))) is answered = omega arith
leaves_fewer critical bound (Keeping (HandedOut version)) (came.Keep (Ok (Some found))) is answered = omega arith
leaves_fewer critical bound (Keeping (Past answer version total seen)) (came.Keep (Ok None)) is answered = omega arith
leaves_fewer critical bound (Keeping given) (came.Keep (Err reply)) is answered = omega arith
leaves_fewer critical bound Looking (came.Ask answer) is answered = absurd (cc)
leaves_fewer critical bound Looking (came.Master out) is answered = absurd (cc)
leaves_fewer critical bound Looking (came.Keep found) is answered = absurd (cc)
leaves_fewer critical bound Asking (came.Look look) is answered = absurd (cc)
leaves_fewer critical bound Asking (came.Master out) is answered = absurd (cc)
leaves_fewer critical bound Asking (came.Keep found) is answered = absurd (cc)
leaves_fewer critical bound Mastering (came.Look look) is answered = absurd (cc)
leaves_fewer critical bound Mastering (came.Ask answer) is answered = absurd (cc)
leaves_fewer critical bound Mastering (came.Keep found) is answered = absurd (cc)
leaves_fewer critical bound (Keeping given) (came.Look look) is answered = absurd (cc)
leaves_fewer critical bound (Keeping given) (came.Ask answer) is answered = absurd (cc)
leaves_fewer critical bound (Keeping given) (came.Master out) is answered = absurd (cc)
leaves_fewer critical bound (Keeping (Fill fill)) (came.Keep (Ok None)) is answered = absurd (cc)
leaves_fewer critical bound (Keeping (HandedOut version)) (came.Keep (Ok None)) is answered = absurd (cc)
leaves_fewer critical bound (Keeping (Past answer version total seen)) (came.Keep (Ok (Some found))) is answered = absurd (cc)
leaves_fewer critical bound (Ended end) (came.Look look) is answered = absurd (cc)
leaves_fewer critical bound (Ended end) (came.Ask answer) is answered = absurd (cc)
leaves_fewer critical bound (Ended end) (came.Master out) is answered = absurd (cc)
leaves_fewer critical bound (Ended end) (came.Keep found) is answered = absurd (cc)

-- a critical read never comes to ask
never_asks : (bound : ℕ) (at : Standing) (outcome : ReadResult) → came_of outcome ≡ stage_of at → IsAnsweredFrom at outcome → NeverAsks true at
    → NeverAsks true (standing_after true bound at outcome)
never_asks bound at (came.Look (Ok look)) is answered never = tt
never_asks bound at (came.Look (Err reply)) is answered never = tt
never_asks bound at (came.Ask (Ok (leader.Filled fill))) is answered never = tt
never_asks bound at (came.Ask (Ok (leader.Past answer version total note))) is answered never = tt
never_asks bound at (came.Ask (Ok (leader.Behind version))) is answered never = tt
never_asks bound at (came.Ask (Err reply)) is answered never = tt
never_asks bound at (came.Master (Ok (store.Filled fill))) is answered never = tt
never_asks bound at (came.Master (Ok (store.Past answer version total note))) is answered never = tt
never_asks bound at (came.Master (Err reply)) is answered never = tt
never_asks bound (Keeping (Fill fill)) (came.Keep (Ok (Some found))) is answered never = tt
never_asks bound (Keeping (Fill fill)) (came.Keep (Ok None)) is answered never = tt
never_asks bound (Keeping (HandedOut version)) (came.Keep (Ok (Some found))) is answered never = tt
never_asks bound (Keeping (HandedOut version)) (came.Keep (Ok None)) is answered never = tt
never_asks bound (Keeping (Past answer version total seen)) (came.Keep (Ok None)) is answered never = tt
never_asks bound (Keeping (Past answer version total seen)) (came.Keep (Ok (Some found))) is answered never = tt
never_asks bound Looking (came.Keep (Ok found)) is answered never = tt
never_asks bound Asking (came.Keep (Ok found)) is answered never = never
never_asks bound Mastering (came.Keep (Ok found)) is answered never = tt
never_asks bound (Ended end) (came.Keep (Ok found)) is answered never = tt
never_asks bound at (came.Keep (Err reply)) is answered never = tt

not_asked : (at : Standing) (outcome : ReadResult) → came_of outcome ≡ stage_of at → NeverAsks true at → is_ask outcome ≡ false
not_asked at (came.Look look) is never = refl
not_asked at (came.Master out) is never = refl
not_asked at (came.Keep found) is never = refl
not_asked Asking (came.Ask answer) is never = absurd never
not_asked Looking (came.Ask answer) is never = cc
not_asked Mastering (came.Ask answer) is never = cc
not_asked (Keeping given) (came.Ask answer) is never = cc
not_asked (Ended end) (came.Ask answer) is never = cc

few_left : (p q : Reading) (stages : List DoneStage) → Goes p stages q → length stages ≤ left p.at
few_left p q [] goes = omega arith
few_left p q (s ∷ rest) goes =
    let fewer = leaves_fewer p.critical p.bound p.at s.came goes.0.stage goes.0.answered in
    let more = few_left (taken s.came s.hops s.store p) q rest goes.1 in
    omega arith

hops_run : (p q : Reading) (stages : List DoneStage) → Goes p stages q → p.hops ≤ most_hops → q.hops ≡ min (p.hops + hops_of stages) most_hops
hops_run p q [] goes within = let same : q.hops ≡ p.hops = ap (λ r. r.hops) goes in omega arith
hops_run p q (s ∷ rest) goes within =
    hops_run (taken s.came s.hops s.store p) q rest goes.1 (omega arith) ∙ hops_add p.hops s.hops (hops_of rest)

or_assoc : (a b c : Bool) → (a || b) || c ≡ a || (b || c)
or_assoc true b c = refl
or_assoc false b c = refl

store_adds : (p q : Reading) (stages : List DoneStage) → Goes p stages q → q.store ≡ p.store || list_any (λ s. s.store) stages
store_adds p q [] goes = ap (λ r. r.store) goes ∙ or_none p.store
  where
    or_none : (b : Bool) → b ≡ b || false
    or_none true = refl
    or_none false = refl
store_adds p q (s ∷ rest) goes = store_adds (taken s.came s.hops s.store p) q rest goes.1 ∙ or_assoc p.store s.store (list_any (λ t. t.store) rest)

asks_none : (p q : Reading) (stages : List DoneStage) → Goes p stages q → p.critical ≡ true → NeverAsks true p.at → list_any (λ s. is_ask s.came) stages ≡ false
asks_none p q [] goes critical never = refl
asks_none p q (s ∷ rest) goes critical never =
    let first = not_asked p.at s.came goes.0.stage never in
    let P : Bool → Type 0 = λ b. NeverAsks true (standing_after b p.bound p.at s.came) in
    let after = subst P (sym critical) (never_asks p.bound p.at s.came goes.0.stage goes.0.answered never) in
    let later = asks_none (taken s.came s.hops s.store p) q rest goes.1 critical after in
    ap (λ b. b || list_any (λ t. is_ask t.came) rest) first ∙ later

pub reads_end : (query : Query) (region tier floor : ℕ) (critical : Bool) (follower : NodeName) → ReadsEnd query region tier floor critical follower
reads_end query region tier floor critical follower = record {
  adds = λ stages q goes.
      let p = new_reading query region tier floor critical follower in
      record {
        few = few_left p q stages goes;
        hops = hops_run p q stages goes (omega arith) ∙ (let zero_first : 0 + hops_of stages ≡ hops_of stages = omega arith in
            ap (λ n. min n most_hops) zero_first);
        store = store_adds p q stages goes;
        unasked = λ is. asks_none p q stages goes is tt;
      };
}

-- what ends a read with an answer
comes_from : (critical : Bool) (bound : ℕ) (at : Standing) (outcome : ReadResult) (answer : Answer) (version : ℕ) (kept : KeptOrNot)
    → came_of outcome ≡ stage_of at
    → IsAnsweredFrom at outcome → standing_after critical bound at outcome ≡ Ended (Answered answer version kept) → ComesFrom at outcome answer version
comes_from true bound at (came.Look (Ok (Hit found v))) answer version why is answered ends = absurd (cc)
comes_from true bound at (came.Look (Ok Miss)) answer version why is answered ends = absurd (cc)
comes_from false bound at (came.Look (Ok (Hit found v))) answer version why is answered ends = (cc, cc)
comes_from false bound at (came.Look (Ok Miss)) answer version why is answered ends = absurd (cc)
comes_from critical bound at (came.Look (Err reply)) answer version why is answered ends = absurd (cc)
comes_from critical bound at (came.Ask (Ok (leader.Filled fill))) answer version why is answered ends = absurd (cc)
comes_from critical bound at (came.Ask (Ok (leader.Past found v total note))) answer version why is answered ends = absurd (cc)
comes_from critical bound at (came.Ask (Ok (leader.Behind v))) answer version why is answered ends = absurd (cc)
comes_from critical bound at (came.Ask (Err reply)) answer version why is answered ends = absurd (cc)
comes_from critical bound at (came.Master (Ok (store.Filled fill))) answer version why is answered ends = absurd (cc)
comes_from critical bound at (came.Master (Ok (store.Past found v total note))) answer version why is answered ends = absurd (cc)
comes_from critical bound at (came.Master (Err reply)) answer version why is answered ends = absurd (cc)
comes_from critical bound (Keeping (Fill fill)) (came.Keep (Ok (Some found))) answer version why is answered ends = (cc, cc)
comes_from critical bound (Keeping (HandedOut v)) (came.Keep (Ok (Some found))) answer version why is answered ends = (cc, cc)
comes_from critical bound (Keeping (Past found v total seen)) (came.Keep (Ok None)) answer version why is answered ends = (cc, cc)
comes_from critical bound (Keeping (Fill fill)) (came.Keep (Ok None)) answer version why is answered ends = absurd (cc)
comes_from critical bound (Keeping (HandedOut v)) (came.Keep (Ok None)) answer version why is answered ends = absurd (cc)
comes_from critical bound (Keeping (Past found v total seen)) (came.Keep (Ok (Some other))) answer version why is answered ends = absurd (cc)
comes_from critical bound Looking (came.Keep (Ok found)) answer version why is answered ends = absurd (cc)
comes_from critical bound Asking (came.Keep (Ok found)) answer version why is answered ends = absurd (cc)
comes_from critical bound Mastering (came.Keep (Ok found)) answer version why is answered ends = absurd (cc)
comes_from critical bound (Ended end) (came.Keep (Ok found)) answer version why is answered ends = absurd (cc)
comes_from critical bound at (came.Keep (Err reply)) answer version why is answered ends = absurd (cc)

critical_keeps : (bound : ℕ) (at : Standing) (outcome : ReadResult) (answer : Answer) (version : ℕ) (kept : KeptOrNot)
    → standing_after true bound at outcome ≡ Ended (Answered answer version kept) → came_of outcome ≡ stage.Keep
critical_keeps bound at (came.Look (Ok look)) answer version why ends = absurd (cc)
critical_keeps bound at (came.Look (Err reply)) answer version why ends = absurd (cc)
critical_keeps bound at (came.Ask (Ok (leader.Filled fill))) answer version why ends = absurd (cc)
critical_keeps bound at (came.Ask (Ok (leader.Past found v total note))) answer version why ends = absurd (cc)
critical_keeps bound at (came.Ask (Ok (leader.Behind v))) answer version why ends = absurd (cc)
critical_keeps bound at (came.Ask (Err reply)) answer version why ends = absurd (cc)
critical_keeps bound at (came.Master (Ok (store.Filled fill))) answer version why ends = absurd (cc)
critical_keeps bound at (came.Master (Ok (store.Past found v total note))) answer version why ends = absurd (cc)
critical_keeps bound at (came.Master (Err reply)) answer version why ends = absurd (cc)
critical_keeps bound at (came.Keep found) answer version why ends = refl

-- what was handed out changes nothing of what follows
with_fill_out : (critical : Bool) (bound : ℕ) (at : Standing) (outcome : ReadResult) → IsAnsweredFrom at outcome
    → standing_after critical bound (without_fill at) outcome ≡ standing_after critical bound at outcome
with_fill_out critical bound at (came.Look (Ok look)) answered = refl
with_fill_out critical bound at (came.Look (Err reply)) answered = refl
with_fill_out critical bound at (came.Ask (Ok answer)) answered = refl
with_fill_out critical bound at (came.Ask (Err reply)) answered = refl
with_fill_out critical bound at (came.Master (Ok out)) answered = refl
with_fill_out critical bound at (came.Master (Err reply)) answered = refl
with_fill_out critical bound at (came.Keep (Err reply)) answered = refl
with_fill_out critical bound (Keeping (Fill fill)) (came.Keep (Ok (Some found))) answered = refl
with_fill_out critical bound (Keeping (Fill fill)) (came.Keep (Ok None)) answered = absurd (cc)
with_fill_out critical bound (Keeping (HandedOut v)) (came.Keep (Ok found)) answered = refl
with_fill_out critical bound (Keeping (Past answer v total seen)) (came.Keep (Ok found)) answered = refl
with_fill_out critical bound Looking (came.Keep (Ok found)) answered = refl
with_fill_out critical bound Asking (came.Keep (Ok found)) answered = refl
with_fill_out critical bound Mastering (came.Keep (Ok found)) answered = refl
with_fill_out critical bound (Ended end) (came.Keep (Ok found)) answered = refl

with_note_out : (critical : Bool) (bound : ℕ) (at : Standing) (outcome : ReadResult) → IsAnsweredFrom at outcome
    → standing_after critical bound (without_note at) outcome ≡ standing_after critical bound at outcome
with_note_out critical bound at (came.Look (Ok look)) answered = refl
with_note_out critical bound at (came.Look (Err reply)) answered = refl
with_note_out critical bound at (came.Ask (Ok answer)) answered = refl
with_note_out critical bound at (came.Ask (Err reply)) answered = refl
with_note_out critical bound at (came.Master (Ok out)) answered = refl
with_note_out critical bound at (came.Master (Err reply)) answered = refl
with_note_out critical bound at (came.Keep (Err reply)) answered = refl
with_note_out critical bound (Keeping (Fill fill)) (came.Keep (Ok found)) answered = refl
with_note_out critical bound (Keeping (HandedOut v)) (came.Keep (Ok found)) answered = refl
with_note_out critical bound (Keeping (Past answer v total seen)) (came.Keep (Ok None)) answered = refl
with_note_out critical bound (Keeping (Past answer v total seen)) (came.Keep (Ok (Some found))) answered = absurd (cc)
with_note_out critical bound Looking (came.Keep (Ok found)) answered = refl
with_note_out critical bound Asking (came.Keep (Ok found)) answered = refl
with_note_out critical bound Mastering (came.Keep (Ok found)) answered = refl
with_note_out critical bound (Ended end) (came.Keep (Ok found)) answered = refl

stood_at : ℕ → Bool → Reading → Standing → Reading
stood_at hops called p at = record p { at = at; hops = hops_after p.hops hops; store = p.store || called }

pub answers_are_given : (p : Reading) (outcome : ReadResult) (hops : ℕ) (called : Bool) → AnswersAreGiven p outcome hops called
unfolding stood_at
answers_are_given p outcome hops called = record {
  given = λ answer version kept next ends. comes_from p.critical p.bound p.at outcome answer version kept next.stage next.answered ends;
  critical = λ answer version kept is ends.
      let P : Bool → Type 0 = λ b. standing_after b p.bound p.at outcome ≡ Ended (Answered answer version kept) in
      critical_keeps p.bound p.at outcome answer version kept (subst P is ends);
  fill_out = λ next. ap (stood_at hops called p) (with_fill_out p.critical p.bound p.at outcome next.answered);
  note_out = λ next. ap (stood_at hops called p) (with_note_out p.critical p.bound p.at outcome next.answered);
}
