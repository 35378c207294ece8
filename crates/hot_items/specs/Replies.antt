-- What comes of a reply.
use Rattle.std.specs.Prelude.{◌≡◌, Option, Some, IsNone, IsSome}
use Rattle.tao_base.specs.declared.query.Answer.{Answer}
use Rattle.hot_items.specs.Hot.{hint_at, unchanged_answer}
use Rattle.hot_items.specs.declared.reply.Held.{Held}
use Rattle.hot_items.specs.declared.reply.Hint.{Hint}
use Rattle.hot_items.specs.declared.reply.HotRefusal.{HotRefusal}
use Rattle.hot_items.specs.declared.reply.HotRefusal.TheVariants.{Strange, OutOfMemory}
use Rattle.hot_items.specs.declared.reply.HotReply.{HotReply}
use Rattle.hot_items.specs.declared.reply.HotReply.TheVariants.{Full, Unchanged}

-- the answer of a reply: a full one has it, and an unchanged one has what is held with its epoch and version
abbrev pub reply_answer : HotReply → Option Held → Option Answer
reply_answer (Full epoch version answer) found = Some answer
reply_answer (Unchanged epoch version) found = unchanged_answer (hint_at epoch version) found

abbrev pub strange_of : Hint → HotRefusal
strange_of hint = Strange hint.epoch hint.version

-- a refusal of what has this hint: it is strange exactly where nothing is held with the hint
abbrev pub IsStrange : Hint → Option Held → HotRefusal → Type 0
IsStrange hint found (Strange epoch version) = (strange_of hint ≡ Strange epoch version) × IsNone (unchanged_answer hint found)
IsStrange hint found OutOfMemory = IsSome (unchanged_answer hint found)

-- a full reply is refused for memory alone, and an unchanged one is strange exactly where nothing is held with its epoch and version
abbrev pub IsRefused : HotReply → Option Held → HotRefusal → Type 0
IsRefused (Full epoch version answer) found refusal = refusal ≡ OutOfMemory
IsRefused (Unchanged epoch version) found refusal = IsStrange (hint_at epoch version) found refusal
