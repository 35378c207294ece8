-- A plan ends: its stages in order, one lemma for each part of the way, from its end to its beginning.
use Rattle.std.proofs.Common.{◌≡◌, ℕ, ◌+◌, ◌≤◌, ◌⊎◌, ◌∙◌, Bool, true, false, List, [], ◌∷◌, ◌++◌, length, refl, sym, ap, subst, inl, inr, zero-add, arith}
use Rattle.std.specs.Prelude.{Option, Some, None, Ok, Err, IfNone, IfSome, if◌then◌else◌, min, option_and_then, is_some, unwrap_or, ◌||◌}
use Rattle.hop_count.proofs.Adding.{hops_add}
use Rattle.hop_count.specs.Hops.{hops_after, most_hops}
use Rattle.node_name.specs.declared.NodeName.{NodeName}
use Rattle.replies.specs.declared.calls.InverseEnd.{InverseEnd}
use Rattle.replies.specs.declared.calls.InverseEnd.TheVariants as inverse
use Rattle.replies.specs.declared.reply.Reply.{Reply}
use Rattle.shard_log.specs.View.{View}
use Rattle.shard_tables.specs.declared.writes.Wrote.{Wrote}
use Rattle.tao_base.specs.declared.entry.Entry.{Entry}
use Rattle.tao_base.specs.declared.entry.Origin.{Origin}
use Rattle.tao_base.specs.declared.write.Write.{Write}
use Rattle.tao_keeper.specs.declared.jobs.Job.{Job}
use Rattle.write_plan.specs.PlanLaws.{Applies, Came, CameBack, CameOfJob, EndsInTime, EndsLeftOpen, IsPlanAfter, IsCarriedOut, IsRefusedBy, MergesLeftOpen}
use Rattle.write_plan.specs.PlanLaws.{PlanLaws, RefusesBy, TakesResults, came, carries_of}
use Rattle.write_plan.specs.Plans.{Writing, after_result, after_stage, back_stage, has_other, inverse_said, job_stage, begun_write, next_of}
use Rattle.write_plan.specs.Plans.{reply_of, stage_after, written_by}
use Rattle.write_plan.specs.Stages.{result_stage}
use Rattle.write_plan.specs.declared.committed.Committed.{Committed}
use Rattle.write_plan.specs.declared.progress.OtherEnd.{OtherEnd}
use Rattle.write_plan.specs.declared.progress.OtherEnd.TheVariants.{Due, Merged, Ended, Open}
use Rattle.write_plan.specs.declared.progress.WayBack.{WayBack}
use Rattle.write_plan.specs.declared.progress.WayBack.TheVariants.{Ahead, Relayed, Applied}
use Rattle.write_plan.specs.declared.results.CommitAnswer.{CommitAnswer}
use Rattle.write_plan.specs.declared.results.LeftOpen.TheVariants.{Scheduled, Refused}
use Rattle.write_plan.specs.declared.results.WriteResult.{WriteResult}
use Rattle.write_plan.specs.declared.results.WriteResult.TheVariants.{Commit, Inverse, End, Relay, Apply}
use Rattle.write_plan.specs.declared.stage.WriteStage.{WriteStage}
use Rattle.write_plan.specs.declared.stage.WriteStage.TheVariants as stage

-- ---- carries

hops_stay : (p : Writing) (r : WriteResult) → (after_result p r).hops ≡ p.hops
hops_stay p (Commit (Ok c)) = refl
hops_stay p (Commit (Err reply)) = refl
hops_stay p (Inverse (Ok wrote)) = refl
hops_stay p (Inverse (Err (Scheduled why wrote))) = refl
hops_stay p (Inverse (Err (Refused reply))) = refl
hops_stay p (End (Ok done)) = refl
hops_stay p (End (Err (Scheduled why wrote))) = refl
hops_stay p (End (Err (Refused reply))) = refl
hops_stay p (Relay (Ok done)) = refl
hops_stay p (Relay (Err reply)) = refl
hops_stay p (Apply (Ok done)) = refl
hops_stay p (Apply (Err reply)) = refl

-- the plan has the carries of all that it took
hops_sum : (p : Writing) (cs : List Came) (q : Writing) → p.hops ≤ most_hops → TakesResults p cs q → q.hops ≡ min (p.hops + carries_of cs) most_hops
hops_sum p [] q low takes = let is : q.hops ≡ p.hops = ap (λ x. x.hops) takes in omega arith
hops_sum p (c ∷ rest) q low takes =
    let now = after_stage p c.result c.hops in
    let is : now.hops ≡ hops_after p.hops c.hops = hops_stay (record p { hops = hops_after p.hops c.hops }) c.result in
    let under : now.hops ≤ most_hops = omega arith in
    hops_sum now rest q under takes.1 ∙ ap (λ n. min (n + carries_of rest) most_hops) is ∙ hops_add p.hops c.hops (carries_of rest)

-- ---- ends

never_done : (r : WriteResult) → result_stage r ≡ stage.Done → ⊥
never_done (Commit answer) is = cc
never_done (Inverse answer) is = cc
never_done (End answer) is = cc
never_done (Relay answer) is = cc
never_done (Apply answer) is = cc

-- a plan that is done takes nothing more
no_more : (p : Writing) (cs : List Came) (q : Writing) → next_of p ≡ stage.Done → TakesResults p cs q → (cs ≡ []) × (q ≡ p)
no_more p [] q done takes = (refl, takes)
no_more p (c ∷ rest) q done takes = absurd (never_done c.result (takes.0 ∙ done))

-- a part of what a plan took: so many at most; where the plan is done, it was good, or the last refused it
record Part (n : ℕ) (cs : List Came) (q : Writing) (Good : Type 0) : Type 0 where
  few : length cs ≤ n
  done : next_of q ≡ stage.Done → Good ⊎ IsRefusedBy cs q

not_yet : {G : Type 0} (p q : Writing) (now : WriteStage) → (stage.Done ≡ now → ⊥) → next_of p ≡ now → q ≡ p → next_of q ≡ stage.Done → G
not_yet p q now differ next is done = absurd (differ (sym done ∙ ap next_of is ∙ next))

-- a result that refuses the write is the last
refused_here : (n : ℕ) (x : Came) (rest : List Came) (p q : Writing) (reply : Reply) (G : Type 0) → RefusesBy x.result reply → reply_of p ≡ Some reply
    → next_of p ≡ stage.Done → TakesResults p rest q → Part (n + 1) (x ∷ rest) q G
refused_here n x rest p q reply G refuses is done takes =
    let none = no_more p rest q done takes in
    let empty : length rest ≡ 0 = ap length none.0 in
    record {
      few = omega arith;
      done = λ _. inr (record {
        reply = reply;
        reply_is = ap reply_of none.1 ∙ is;
        before = [];
        last = x;
        came_is = ap (λ l. x ∷ l) none.0;
        refuses = refuses;
      });
    }

-- what refuses a write after some results refuses it after one more before them
refused_after : (x : Came) (cs : List Came) (q : Writing) → IsRefusedBy cs q → IsRefusedBy (x ∷ cs) q
refused_after x cs q r = record {
  reply = r.reply;
  reply_is = r.reply_is;
  before = x ∷ r.before;
  last = r.last;
  came_is = ap (λ l. x ∷ l) r.came_is;
  refuses = r.refuses;
}

-- one result before a part
before_part : (n : ℕ) (x : Came) (cs : List Came) (q : Writing) (G H : Type 0) → (G → H) → Part n cs q G → Part (n + 1) (x ∷ cs) q H
before_part n x cs q G H good part = record {
  few = let low : length cs ≤ n = part.few in omega arith;
  done = λ d. elim (part.done d) [ inl g ↦ inl (good g) | inr r ↦ inr (refused_after x cs q r) ];
}

-- ---- the way back

-- a plan after its commit, of which all else is that of another
abbrev going : Writing → Committed → OtherEnd → Option Wrote → WayBack → ℕ → Writing
going b c j o k h = record b { committed = Some c; job = j; other = o; back = k; refused = None; hops = h }

-- its follower took the changes, and nobody needs the second note
abbrev came_back : Writing → Committed → OtherEnd → Option Wrote → ℕ → Writing
came_back b c j o h = going (record b { spare = None }) c j o Applied h

record AppliedFrom (b : Writing) (c : Committed) (j : OtherEnd) (o : Option Wrote) (cs : List Came) (q : Writing) : Type 0 where
  hops : ℕ
  way : Applies cs
  is : q ≡ came_back b c j o hops

done_apply : stage.Done ≡ stage.Apply → ⊥
done_apply is = cc

module _ (b : Writing) (c : Committed) (j : OtherEnd) (o : Option Wrote) where
  apply_first : (k : WayBack) (h : ℕ) (r : WriteResult) (n : ℕ) (rest : List Came) (q : Writing) → next_of (going b c j o k h) ≡ stage.Apply
      → next_of (came_back b c j o h) ≡ stage.Done → TakesResults (going b c j o k h) (came r n ∷ rest) q
      → Part 1 (came r n ∷ rest) q (AppliedFrom b c j o (came r n ∷ rest) q)
  apply_first k h (Apply (Ok done)) n rest q next last takes =
      let none = no_more (came_back b c j o (hops_after h n)) rest q last takes.1 in
      let empty : length rest ≡ 0 = ap length none.0 in
      record {
        few = omega arith;
        done = λ _. inl (record { hops = hops_after h n; way = record { applies = n; came_is = ap (λ l. came (Apply (Ok tt)) n ∷ l) none.0 }; is = none.1 });
      }
  apply_first k h (Apply (Err reply)) n rest q next last takes =
      refused_here 0 (came (Apply (Err reply)) n) rest (after_stage (going b c j o k h) (Apply (Err reply)) n) q reply _ refl refl refl takes.1
  apply_first k h (Commit answer) n rest q next last takes = let is : stage.Commit ≡ stage.Apply = takes.0 ∙ next in cc
  apply_first k h (Inverse answer) n rest q next last takes = let is : stage.Inverse ≡ stage.Apply = takes.0 ∙ next in cc
  apply_first k h (End answer) n rest q next last takes = let is : stage.End ≡ stage.Apply = takes.0 ∙ next in cc
  apply_first k h (Relay answer) n rest q next last takes = let is : stage.Relay ≡ stage.Apply = takes.0 ∙ next in cc

  apply_part : (k : WayBack) (h : ℕ) (cs : List Came) (q : Writing) → next_of (going b c j o k h) ≡ stage.Apply
      → next_of (came_back b c j o h) ≡ stage.Done → TakesResults (going b c j o k h) cs q → Part 1 cs q (AppliedFrom b c j o cs q)
  apply_part k h [] q next last takes =
      record { few = omega arith; done = λ d. not_yet (going b c j o k h) q stage.Apply done_apply next takes d }
  apply_part k h (x ∷ rest) q next last takes = apply_first k h x.result x.hops rest q next last takes

-- it went all its way back, whatever became of the note for the leader that was passed
record WentBack (b : Writing) (c : Committed) (j : OtherEnd) (o : Option Wrote) (cs : List Came) (q : Writing) : Type 0 where
  hops : ℕ
  relay : Option View
  way : CameBack c.passed cs
  is : q ≡ came_back (record b { relay = relay }) c j o hops

done_relay : stage.Done ≡ stage.Relay → ⊥
done_relay is = cc

module _ (b : Writing) (c : Committed) (j : OtherEnd) (o : Option Wrote) where
  relay_first : (leader : NodeName) (h : ℕ) (r : WriteResult) (n : ℕ) (rest : List Came) (q : Writing) → c.passed ≡ Some leader
      → next_of (going b c j o Ahead h) ≡ stage.Relay → next_of (going b c j o Relayed h) ≡ stage.Apply → next_of (came_back b c j o h) ≡ stage.Done
      → TakesResults (going b c j o Ahead h) (came r n ∷ rest) q → Part 2 (came r n ∷ rest) q (WentBack b c j o (came r n ∷ rest) q)
  relay_first leader h (Relay (Ok done)) n rest q passed next after last takes =
      before_part 1 (came (Relay (Ok done)) n) rest q (AppliedFrom (record b { relay = None }) c j o rest q) _
      (λ a. record {
        hops = a.hops;
        relay = None;
        way = subst (λ p. CameBack p (came (Relay (Ok done)) n ∷ rest)) (sym passed)
            (record { relays = n; applies = a.way.applies; came_is = ap (λ l. came (Relay (Ok tt)) n ∷ l) a.way.came_is });
        is = a.is;
      })
      (apply_part (record b { relay = None }) c j o Relayed (hops_after h n) rest q after last takes.1)
  relay_first leader h (Relay (Err reply)) n rest q passed next after last takes =
      refused_here 1 (came (Relay (Err reply)) n) rest (after_stage (going b c j o Ahead h) (Relay (Err reply)) n) q reply _ refl refl refl takes.1
  relay_first leader h (Commit answer) n rest q passed next after last takes = let is : stage.Commit ≡ stage.Relay = takes.0 ∙ next in cc
  relay_first leader h (Inverse answer) n rest q passed next after last takes = let is : stage.Inverse ≡ stage.Relay = takes.0 ∙ next in cc
  relay_first leader h (End answer) n rest q passed next after last takes = let is : stage.End ≡ stage.Relay = takes.0 ∙ next in cc
  relay_first leader h (Apply answer) n rest q passed next after last takes = let is : stage.Apply ≡ stage.Relay = takes.0 ∙ next in cc

  -- nothing is left to be done for the other end
  module _ (left : option_and_then (λ _. job_stage j) c.wrote.job ≡ None) where
    way_next : (k : WayBack) (passed : Option NodeName) → c.passed ≡ passed → stage_after c j k ≡ back_stage passed k
    way_next k passed e = ap (λ s. unwrap_or s (back_stage c.passed k)) left ∙ ap (λ p. back_stage p k) e

    way_by : (passed : Option NodeName) → c.passed ≡ passed → (h : ℕ) (cs : List Came) (q : Writing) → TakesResults (going b c j o Ahead h) cs q
        → Part 2 cs q (WentBack b c j o cs q)
    way_by None e h cs q takes =
        let part = apply_part b c j o Ahead h cs q (way_next Ahead None e) (way_next Applied None e) takes in
        record {
          few = let low : length cs ≤ 1 = part.few in omega arith;
          done = λ d. elim (part.done d) [
            | inl a ↦ inl (record { hops = a.hops; relay = b.relay; way = subst (λ p. CameBack p cs) (sym e) a.way; is = a.is })
            | inr r ↦ inr r
          ];
        }
    way_by (Some leader) e h [] q takes =
        record { few = omega arith; done = λ d. not_yet (going b c j o Ahead h) q stage.Relay done_relay (way_next Ahead (Some leader) e) takes d }
    way_by (Some leader) e h (x ∷ rest) q takes =
        relay_first leader h x.result x.hops rest q e (way_next Ahead (Some leader) e) (way_next Relayed (Some leader) e)
        (way_next Applied (Some leader) e) takes

    way_part : (h : ℕ) (cs : List Came) (q : Writing) → TakesResults (going b c j o Ahead h) cs q → Part 2 cs q (WentBack b c j o cs q)
    way_part h cs q takes = way_by c.passed refl h cs q takes

-- ---- the job

record DidJob (b : Writing) (c : Committed) (cs : List Came) (q : Writing) : Type 0 where
  job : OtherEnd
  other : Option Wrote
  hops : ℕ
  relay : Option View
  of_job : List Came
  of_way : List Came
  came_is : cs ≡ of_job ++ of_way
  said : CameOfJob c.wrote.job c.paired of_job other (inverse_said (has_other c) job)
  way : CameBack c.passed of_way
  is : q ≡ came_back (record b { relay = relay }) c job other hops

said_of_paired : (paired : Bool) → inverse_said paired Due ≡ (if paired then inverse.Written else inverse.None)
said_of_paired true = refl
said_of_paired false = refl

done_inverse : stage.Done ≡ stage.Inverse → ⊥
done_inverse is = cc

done_end : stage.Done ≡ stage.End → ⊥
done_end is = cc

module _ (b : Writing) (c : Committed) where
  -- no job was answered
  without_job : c.wrote.job ≡ None → (h : ℕ) (cs : List Came) (q : Writing) → TakesResults (going b c Due None Ahead h) cs q → Part 4 cs q (DidJob b c cs q)
  without_job e h cs q takes =
      let part = way_part b c Due None (ap (option_and_then (λ _. job_stage Due)) e) h cs q takes in
      let has : has_other c ≡ c.paired = ap (λ f. is_some f || c.paired) e in
      record {
        few = let low : length cs ≤ 2 = part.few in omega arith;
        done = λ d. elim (part.done d) [
          | inl w ↦ inl (record {
            job = Due;
            other = None;
            hops = w.hops;
            relay = w.relay;
            of_job = [];
            of_way = cs;
            came_is = refl;
            said = subst (λ f. CameOfJob f c.paired [] None (inverse_said (has_other c) Due)) (sym e)
                (refl, refl, ap (λ p. inverse_said p Due) has ∙ said_of_paired c.paired);
            way = w.way;
            is = w.is;
          })
          | inr r ↦ inr r
        ];
      }

  module _ (job : Job) (e : c.wrote.job ≡ Some job) where
    -- what a job has before it is next
    job_next : (j : OtherEnd) (now : WriteStage) → job_stage j ≡ Some now → stage_after c j Ahead ≡ now
    job_next j now is = ap (λ f. unwrap_or (option_and_then (λ _. job_stage j) f) (back_stage c.passed Ahead)) e
        ∙ ap (λ s. unwrap_or s (back_stage c.passed Ahead)) is

    nothing_left : (j : OtherEnd) → job_stage j ≡ None → option_and_then (λ _. job_stage j) c.wrote.job ≡ None
    nothing_left j is = ap (option_and_then (λ _. job_stage j)) e ∙ is

    has_job : has_other c ≡ true
    has_job = ap (λ f. is_some f || c.paired) e

    -- the job came to this, and then came the way back
    did : (j : OtherEnd) (o : Option Wrote) (of_job cs whole : List Came) (q : Writing) → whole ≡ of_job ++ cs
        → (EndsInTime of_job o (inverse_said (has_other c) j)
        ⊎ (EndsLeftOpen of_job o (inverse_said (has_other c) j) ⊎ MergesLeftOpen of_job o (inverse_said (has_other c) j)))
        → WentBack b c j o cs q → DidJob b c whole q
    did j o of_job cs whole q is said w = record {
      job = j;
      other = o;
      hops = w.hops;
      relay = w.relay;
      of_job = of_job;
      of_way = cs;
      came_is = is;
      said = subst (λ f. CameOfJob f c.paired of_job o (inverse_said (has_other c) j)) (sym e) said;
      way = w.way;
      is = w.is;
    }

    end_first : (wrote : Wrote) (m h : ℕ) (r : WriteResult) (n : ℕ) (rest : List Came) (q : Writing)
        → TakesResults (going b c Merged (Some wrote) Ahead h) (came r n ∷ rest) q
        → Part 3 (came r n ∷ rest) q (DidJob b c (came (Inverse (Ok wrote)) m ∷ (came r n ∷ rest)) q)
    end_first wrote m h (End (Ok done)) n rest q takes =
        before_part 2 (came (End (Ok done)) n) rest q (WentBack b c Ended (Some wrote) rest q) _
        (did Ended (Some wrote) (came (Inverse (Ok wrote)) m ∷ came (End (Ok tt)) n ∷ []) rest _ q refl
        (inl (record { wrote = wrote; merges = m; ends = n; came_is = refl; other_is = refl; said_is = ap (λ x. inverse_said x Ended) has_job })))
        (way_part b c Ended (Some wrote) (nothing_left Ended refl) (hops_after h n) rest q takes.1)
    end_first wrote m h (End (Err (Scheduled why more))) n rest q takes =
        before_part 2 (came (End (Err (Scheduled why more))) n) rest q (WentBack b c (Open why) (Some wrote) rest q) _
        (did (Open why) (Some wrote) (came (Inverse (Ok wrote)) m ∷ came (End (Err (Scheduled why more))) n ∷ []) rest _ q refl
        (inr (inl (record {
          wrote = wrote;
          why = why;
          more = more;
          merges = m;
          ends = n;
          came_is = refl;
          other_is = refl;
          said_is = ap (λ x. inverse_said x (Open why)) has_job;
        }))))
        (way_part b c (Open why) (Some wrote) (nothing_left (Open why) refl) (hops_after h n) rest q takes.1)
    end_first wrote m h (End (Err (Refused reply))) n rest q takes =
        refused_here 2 (came (End (Err (Refused reply))) n) rest (after_stage (going b c Merged (Some wrote) Ahead h) (End (Err (Refused reply))) n) q reply _
        refl refl refl takes.1
    end_first wrote m h (Commit answer) n rest q takes = let is : stage.Commit ≡ stage.End = takes.0 ∙ job_next Merged stage.End refl in cc
    end_first wrote m h (Inverse answer) n rest q takes = let is : stage.Inverse ≡ stage.End = takes.0 ∙ job_next Merged stage.End refl in cc
    end_first wrote m h (Relay answer) n rest q takes = let is : stage.Relay ≡ stage.End = takes.0 ∙ job_next Merged stage.End refl in cc
    end_first wrote m h (Apply answer) n rest q takes = let is : stage.Apply ≡ stage.End = takes.0 ∙ job_next Merged stage.End refl in cc

    end_part : (wrote : Wrote) (m h : ℕ) (cs : List Came) (q : Writing) → TakesResults (going b c Merged (Some wrote) Ahead h) cs q
        → Part 3 cs q (DidJob b c (came (Inverse (Ok wrote)) m ∷ cs) q)
    end_part wrote m h [] q takes =
        record { few = omega arith; done = λ d. not_yet (going b c Merged (Some wrote) Ahead h) q stage.End done_end (job_next Merged stage.End refl) takes d }
    end_part wrote m h (x ∷ rest) q takes = end_first wrote m h x.result x.hops rest q takes

    inverse_first : (h : ℕ) (r : WriteResult) (n : ℕ) (rest : List Came) (q : Writing) → TakesResults (going b c Due None Ahead h) (came r n ∷ rest) q
        → Part 4 (came r n ∷ rest) q (DidJob b c (came r n ∷ rest) q)
    inverse_first h (Inverse (Ok wrote)) n rest q takes =
        before_part 3 (came (Inverse (Ok wrote)) n) rest q (DidJob b c (came (Inverse (Ok wrote)) n ∷ rest) q) _ (λ g. g)
        (end_part wrote n (hops_after h n) rest q takes.1)
    inverse_first h (Inverse (Err (Scheduled why wrote))) n rest q takes =
        let part = way_part b c (Open why) wrote (nothing_left (Open why) refl) (hops_after h n) rest q takes.1 in
        before_part 3 (came (Inverse (Err (Scheduled why wrote))) n) rest q (WentBack b c (Open why) wrote rest q) _
        (did (Open why) wrote (came (Inverse (Err (Scheduled why wrote))) n ∷ []) rest _ q refl
        (inr (inr (record { why = why; merges = n; came_is = refl; said_is = ap (λ x. inverse_said x (Open why)) has_job }))))
        (record { few = let low : length rest ≤ 2 = part.few in omega arith; done = part.done })
    inverse_first h (Inverse (Err (Refused reply))) n rest q takes =
        refused_here 3 (came (Inverse (Err (Refused reply))) n) rest (after_stage (going b c Due None Ahead h) (Inverse (Err (Refused reply))) n) q reply _
        refl refl refl takes.1
    inverse_first h (Commit answer) n rest q takes = let is : stage.Commit ≡ stage.Inverse = takes.0 ∙ job_next Due stage.Inverse refl in cc
    inverse_first h (End answer) n rest q takes = let is : stage.End ≡ stage.Inverse = takes.0 ∙ job_next Due stage.Inverse refl in cc
    inverse_first h (Relay answer) n rest q takes = let is : stage.Relay ≡ stage.Inverse = takes.0 ∙ job_next Due stage.Inverse refl in cc
    inverse_first h (Apply answer) n rest q takes = let is : stage.Apply ≡ stage.Inverse = takes.0 ∙ job_next Due stage.Inverse refl in cc

    with_job : (h : ℕ) (cs : List Came) (q : Writing) → TakesResults (going b c Due None Ahead h) cs q → Part 4 cs q (DidJob b c cs q)
    with_job h [] q takes =
        record { few = omega arith; done = λ d. not_yet (going b c Due None Ahead h) q stage.Inverse done_inverse (job_next Due stage.Inverse refl) takes d }
    with_job h (x ∷ rest) q takes = inverse_first h x.result x.hops rest q takes

  job_by : (found : Option Job) → c.wrote.job ≡ found → (h : ℕ) (cs : List Came) (q : Writing) → TakesResults (going b c Due None Ahead h) cs q
      → Part 4 cs q (DidJob b c cs q)
  job_by None e h cs q takes = without_job e h cs q takes
  job_by (Some job) e h cs q takes = with_job job e h cs q takes

-- ---- the commit

-- the reply names the entry
says_by : (retry : Bool) (said : InverseEnd) (found : Option Entry)
    → IfSome found (λ e. ((written_by retry said found).changed ≡ true) × ((written_by retry said found).position ≡ e.position)
    × ((written_by retry said found).inverse ≡ said))
    × IfNone found (((written_by retry said found).changed ≡ false) × ((written_by retry said found).position ≡ 0)
    × ((written_by retry said found).inverse ≡ inverse.None))
    × ((written_by retry said found).retry ≡ retry)
says_by retry said (Some e) = ((refl, refl, refl), tt, refl)
says_by retry said None = (tt, (refl, refl, refl), refl)

carried_out : (b : Writing) (answer : CommitAnswer) (n : ℕ) (cs : List Came) (q : Writing) → q.hops ≡ min (n + carries_of cs) most_hops
    → DidJob b answer.committed cs q → IsCarriedOut (came (Commit (Ok answer)) n ∷ cs) q
carried_out b answer n cs q sum g =
    let c = answer.committed in
    let said = inverse_said (has_other c) g.job in
    let says = says_by c.wrote.retry said c.wrote.entry in
    record {
      committed = c;
      said = said;
      reply = record { kind = c.kind; written = written_by c.wrote.retry said c.wrote.entry; hops = g.hops };
      answered = ap (λ p. p.committed) g.is;
      stages = record {
        answer = answer;
        answer_is = refl;
        commits = n;
        of_job = g.of_job;
        of_way = g.of_way;
        came_is = ap (λ l. came (Commit (Ok answer)) n ∷ l) g.came_is;
        job = subst (λ o. CameOfJob c.wrote.job c.paired g.of_job o said) (sym (ap (λ p. p.other) g.is)) g.said;
        way = g.way;
      };
      reply_is = ap reply_of g.is;
      says = record {
        kind_is = refl;
        retry_is = says.2;
        entry = says.0;
        nothing = says.1;
        hops_is = sym (ap (λ p. p.hops) g.is) ∙ sum;
      };
    }

module _ (write : Write) (origin : Origin) (region tier : ℕ) (follower : NodeName) where
  all_hops : (cs : List Came) (q : Writing) → TakesResults (begun_write write origin region tier follower) cs q → q.hops ≡ min (carries_of cs) most_hops
  all_hops cs q takes = hops_sum (begun_write write origin region tier follower) cs q (omega arith) takes ∙ ap (λ n. min n most_hops) (zero-add (carries_of cs))

  commit_first : (r : WriteResult) (n : ℕ) (rest : List Came) (q : Writing) → TakesResults (begun_write write origin region tier follower) (came r n ∷ rest) q
      → Part 5 (came r n ∷ rest) q (IsCarriedOut (came r n ∷ rest) q)
  commit_first (Commit (Ok answer)) n rest q takes =
      let c = answer.committed in
      let begun = record (begun_write write origin region tier follower) { relay = answer.relay; spare = Some answer.spare } in
      before_part 4 (came (Commit (Ok answer)) n) rest q (DidJob begun c rest q) _
      (carried_out begun answer n rest q (all_hops (came (Commit (Ok answer)) n ∷ rest) q takes))
      (job_by begun c c.wrote.job refl (hops_after 0 n) rest q takes.1)
  commit_first (Commit (Err reply)) n rest q takes =
      refused_here 4 (came (Commit (Err reply)) n) rest (after_stage (begun_write write origin region tier follower) (Commit (Err reply)) n) q reply _
      refl refl refl takes.1
  commit_first (Inverse answer) n rest q takes = let is : stage.Inverse ≡ stage.Commit = takes.0 in cc
  commit_first (End answer) n rest q takes = let is : stage.End ≡ stage.Commit = takes.0 in cc
  commit_first (Relay answer) n rest q takes = let is : stage.Relay ≡ stage.Commit = takes.0 in cc
  commit_first (Apply answer) n rest q takes = let is : stage.Apply ≡ stage.Commit = takes.0 in cc

done_commit : stage.Done ≡ stage.Commit → ⊥
done_commit is = cc

after_all : (write : Write) (origin : Origin) (region tier : ℕ) (follower : NodeName) (cs : List Came) (q : Writing)
    → TakesResults (begun_write write origin region tier follower) cs q → IsPlanAfter cs q
after_all write origin region tier follower [] q takes = record {
  few = omega arith;
  hops = all_hops write origin region tier follower [] q takes;
  done = λ d. not_yet (begun_write write origin region tier follower) q stage.Commit done_commit refl takes d;
}
after_all write origin region tier follower (x ∷ rest) q takes =
    let part = commit_first write origin region tier follower x.result x.hops rest q takes in
    record {
      few = part.few;
      hops = all_hops write origin region tier follower (x ∷ rest) q takes;
      done = part.done;
    }

pub plan_laws : PlanLaws
plan_laws = record { ends = after_all }
