-- Requests that are asked one after another, each in what the replies before it left.
use Rattle.std.specs.Prelude.{◌≡◌, List, [], ◌∷◌}
use Rattle.replies.specs.declared.reply.Reply.{Reply}
use Rattle.requests.specs.declared.request.Request.{Request}
use Rattle.shared_tiers.specs.Calls.{Calling, RepliesTo}
use Rattle.shared_tiers.specs.locked_nodes.Cluster.{OnCluster}
use Rattle.shared_tiers.specs.locked_nodes.Passes.{PassGoesOn}

module _ {S A B : Type 0} (Step : S → S → A → B → Type 0) where
  -- a step is taken for each of the first list, in order, from where the one before it left, and comes to what stands at its place in the second
  abbrev pub AnswersEach : S → S → List A → List B → Type 0
  AnswersEach old new [] [] = new ≡ old
  AnswersEach old new (x ∷ xs) (y ∷ ys) = (next : S) × Step old next x y × AnswersEach next new xs ys
  AnswersEach old new xs ys = ⊥

-- a call was made: the reply is the one to the request, and the pass went on
pub record MakesCall {M : Type 0} (on : OnCluster M) (old new : Calling) (asked : Request) (said : Reply) : Type 0 where
  pub replies : RepliesTo on old new asked said
  pub goes : PassGoesOn old.pass new.pass

-- the replies to requests: as many, in their order, each with the pass as the replies before it left it
abbrev pub RepliesToEach : {M : Type 0} → OnCluster M → Calling → Calling → List Request → List Reply → Type 0
RepliesToEach on = AnswersEach (MakesCall on)
