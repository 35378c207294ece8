-- What the replies to the words of links say.
use Rattle.std.specs.Prelude.{◌≡◌, Bool, true, false}
use Rattle.replies.specs.declared.nodes.NodeReply.TheVariants.{Link}
use Rattle.replies.specs.declared.refusals.Refusal.TheVariants.{Memory}
use Rattle.replies.specs.declared.reply.Reply.{Reply}
use Rattle.replies.specs.declared.reply.Reply.TheVariants.{Node, Refused}
use Rattle.request_check.specs.declared.links.CheckedLink.{CheckedLink}
use Rattle.request_check.specs.declared.links.CheckedLink.TheVariants as asked
use Rattle.request_check.specs.declared.links.LinkPlace.{LinkPlace}
use Rattle.tao_link.specs.Cuts.{SwitchesWhereTold, between}
use Rattle.words.specs.declared.LinkWord.{LinkWord}
use Rattle.words.specs.declared.LinkWord.TheVariants as link
use Rattle.tao_core.specs.Core.{Moment}

-- one direction between two nodes was mended, where it is to be whole, or else cut, where the link tells its cuts; or there was no memory
abbrev pub AnswersSwitch : LinkWord → Bool → LinkPlace → Moment → Reply → Moment → Type 0
AnswersSwitch word whole place old (Node (Link said)) new = (said ≡ word) × SwitchesWhereTold (between place.from place.to) whole old.link.cuts new.link.cuts
    × (new ≡ record old { link = record old.link { cuts = new.link.cuts } })
AnswersSwitch word whole place old (Refused (Memory position)) new = (position ≡ 0) × (new ≡ old)
AnswersSwitch word whole place old reply new = ⊥

-- what the reply to what is asked of a link says
abbrev pub AnswersLink : CheckedLink → Moment → Reply → Moment → Type 0
AnswersLink (asked.Cut place) old reply new = AnswersSwitch link.Cut false place old reply new
AnswersLink (asked.Mend place) old reply new = AnswersSwitch link.Mend true place old reply new
