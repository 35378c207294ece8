-- What a cluster replies, by cases on what is asked.
use Rattle.std.proofs.Common.{◌≡◌, ℕ, ◌<◌, Some, Option, Result, Ok, Err, IfSome, subst, sym, refl, inl, inr, arith}
use Rattle.std.proofs.lemmas.Option.{slice_get_cases}
use Rattle.std.specs.Prelude.{IsSomeAnd, slice_get}
use Rattle.cluster_closing.specs.locked_nodes.Begun.{Begun, begun}
use Rattle.cluster_closing.specs.locked_nodes.Passes.{IsPassOf, PassGoesOn}
use Rattle.cluster_closing.specs.locked_nodes.Cluster.{OnCluster}
use Rattle.replies.specs.declared.refusals.NameRefused.{NameRefused}
use Rattle.replies.specs.declared.refusals.Refusal.TheVariants.{Name}
use Rattle.replies.specs.declared.reply.Reply.{Reply}
use Rattle.replies.specs.declared.reply.Reply.TheVariants as reply
use Rattle.log_names.specs.Names.{LogNames}
use Rattle.request_check.specs.Calls.{checked_call}
use Rattle.request_check.specs.Names.{placed_as}
use Rattle.request_check.specs.Refusal.{for_name, replied, reply_as, reply_unless_memory}
use Rattle.request_check.specs.Requests.{checked_of}
use Rattle.request_check.specs.declared.checked.Checked.{Checked}
use Rattle.request_check.specs.declared.checked.Checked.TheVariants as of_request
use Rattle.request_check.specs.declared.checked.CheckedCall.{CheckedCall}
use Rattle.request_check.specs.declared.refusal.CheckRefusal.{CheckRefusal}
use Rattle.request_check.specs.declared.refusal.CheckRefusal.TheVariants as refusal
use Rattle.requests.specs.declared.calls.Call.{Call}
use Rattle.requests.specs.declared.request.Request.{Request}
use Rattle.requests.specs.declared.request.Request.TheVariants as request
use Rattle.session_pass.specs.Passes.{SeenPass}
use Rattle.shard_log.proofs.GrowthLemmas.{grows-self}
use Rattle.shard_log.specs.View.{Grows, View}
use Rattle.shared_stores.specs.Making.{Making}
use Rattle.topology.specs.Config.{Settings}
use Rattle.shared_tiers.specs.Calls.{AsksCall, Calling, IsCall, RepliesToFound, RepliesToNamed, RepliesToOwn, Since}

-- ---- what a pass has seen

some_and : {X : Type 0} (P : X → Type 0) (o : Option X) (x : X) → o ≡ Some x → P x → IsSomeAnd o P
some_and P o x at p = subst (λ q. IsSomeAnd q P) (sym at) p

-- a pass goes on where nothing is done with it
pub goes_self : (pass : SeenPass) → PassGoesOn pass pass
goes_self pass = record {
  session = refl;
  region = refl;
  tier = refl;
  floors = record { rise = λ key. omega arith };
  notes = λ k from at. some_and (Grows from) (slice_get pass.notes k) from at (grows-self from);
}

-- ---- what was found of the names

-- the call whose names were looked up, as a request whose names were
abbrev placed : Result CheckedCall NameRefused → Result Checked Reply
placed found = replied (for_name (placed_as of_request.Call found))

same_ok : {A E : Type 0} (r : Result A E) (a b : A) → r ≡ Ok a → r ≡ Ok b → a ≡ b
same_ok r a b one other = cc

same_err : {A E : Type 0} (r : Result A E) (a b : E) → r ≡ Err a → r ≡ Err b → a ≡ b
same_err r a b one other = cc

found_call : (found : Result CheckedCall NameRefused) (checked : Checked) → placed found ≡ Ok checked → IsCall checked
found_call (Ok call) checked gives = subst IsCall (same_ok (placed (Ok call)) (of_request.Call call) checked refl gives) tt
found_call (Err name) checked gives = absurd (cc)

-- what is found of a read or a write is one
pub is_call : (s : Settings) (r : Request) (checked : Checked) → AsksCall r → replied (for_name (checked_of s r)) ≡ Ok checked → IsCall checked
is_call s (request.Call call) checked asks gives = found_call (checked_call s call) checked gives
is_call s (request.Open opening) checked asks gives = absurd asks
is_call s (request.Plan asked) checked asks gives = absurd asks
is_call s (request.Cache asked) checked asks gives = absurd asks
is_call s (request.Store asked) checked asks gives = absurd asks
is_call s (request.Health asked) checked asks gives = absurd asks
is_call s (request.Link asked) checked asks gives = absurd asks

module _ {M : Type 0} (on : OnCluster M) (old new : Calling) where
  named_so : (found : Result CheckedCall NameRefused) (checked : Checked) (said : Reply) → placed found ≡ Ok checked
      → RepliesToFound on old new checked said → RepliesToNamed on old new found said
  named_so (Ok call) checked said gives replies =
      subst (λ k. RepliesToFound on old new k said) (same_ok (placed (Ok call)) checked (of_request.Call call) gives refl) replies
  named_so (Err name) checked said gives replies = absurd (cc)

  -- a read or a write whose names were found
  pub own_found : (r : Request) (checked : Checked) (said : Reply) → replied (for_name (checked_of on.making.settings r)) ≡ Ok checked
      → RepliesToFound on old new checked said → (call : Call) → r ≡ request.Call call → RepliesToOwn on old new call said
  own_found r checked said gives replies call is =
      inr (named_so (checked_call on.making.settings call) checked said
      (subst (λ q. replied (for_name (checked_of on.making.settings q)) ≡ Ok checked) is gives) replies)

module _ {M : Type 0} (on : OnCluster M) (old : Calling) where
  refused_so : (found : Result CheckedCall NameRefused) (said : Reply) → placed found ≡ Err said → RepliesToNamed on old old found said
  refused_so (Ok call) said gives = absurd (cc)
  refused_so (Err name) said gives = record { said_is = same_err (placed (Err name)) said (reply.Refused (Name name)) gives refl; same = refl }

  refused_as_checked : (r : Request) (why : CheckRefusal)
      → IfSome (reply_unless_memory why) (λ said. replied (for_name (checked_of on.making.settings r)) ≡ Err said)
      → (call : Call) → r ≡ request.Call call → RepliesToOwn on old old call (reply_as why)
  refused_as_checked r refusal.OutOfMemory gives call is = inl (record { said_is = refl; same = refl })
  refused_as_checked r (refusal.Refused said) gives call is =
      inr (refused_so (checked_call on.making.settings call) said
      (subst (λ q. replied (for_name (checked_of on.making.settings q)) ≡ Err said) is gives))

  -- a read or a write one of whose names isn't there, or for whose check there was no memory
  pub own_refused : (r : Request) (why : CheckRefusal) (said : Reply) → said ≡ reply_as why
      → IfSome (reply_unless_memory why) (λ said. replied (for_name (checked_of on.making.settings r)) ≡ Err said)
      → (call : Call) → r ≡ request.Call call → RepliesToOwn on old old call said
  own_refused r why said is gives call asks =
      subst (RepliesToOwn on old old call) (sym is) (refused_as_checked r why gives call asks)

-- ---- what the pass had seen

-- what is so whatever the pass had seen of a configured shard's log is so of what it had seen
pub since_so : (m : Making) (log : LogNames) (old : Calling) (shard : ℕ) (P : Begun → Type 0) → IsPassOf m log old.pass → shard < m.settings.shards
    → ((seen : View) → slice_get old.pass.notes shard ≡ Some seen → P (begun seen old.link)) → Since old shard P
since_so m log old shard P pass here so =
    elim (slice_get_cases old.pass.notes shard).1 [
      | inl found ↦ some_and (λ seen. P (begun seen old.link)) (slice_get old.pass.notes shard) found.0 found.2 (so found.0 found.2)
      | inr past ↦ absurd (let long = pass.long in omega (arith, past.0, long, here))
    ]
