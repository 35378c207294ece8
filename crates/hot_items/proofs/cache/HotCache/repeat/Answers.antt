use Rattle.std.proofs.Common.{◌≡◌, ◌∙◌, Some, ap, map, rules, subst, sym, vec_capacity}
use Rattle.lru.specs.LruCache.{LruCache}
use Rattle.hot_items.specs.CacheView.{seen}
use Rattle.hot_items.specs.Hot.{hot_of, unchanged_answer, used}
use Rattle.hot_items.specs.Replies.{IsStrange}
use Rattle.hot_items.specs.declared.key.HotKey.{HotKey}
use Rattle.hot_items.specs.declared.reply.Held.{Held}
use Rattle.hot_items.proofs.Looks.{FitIn, finds, fit_more, fit_used, misses, strange_none, uses}
use Rattle.hot_items.proofs.cache.HotCache.repeat.Goals as goal

pub returns-then-not-set-clause-refused : goal.returns-then-not-set-clause-refused
returns-then-not-set-clause-refused c = rw c.strange.ensures (rw (← c.self.view_is) (strange_none c.args.hint _
    (misses _ c.args.query.now (c.set.ensures.none (search rules)) c.self.inside.items.entries c.self.invariant c.self.inside.items.cap)))

pub invariant_of-self-in-Ok : goal.invariant_of-self-in-Ok
invariant_of-self-in-Ok c = subst (λ (items : LruCache HotKey Held). FitIn (vec_capacity c.set.new.self.ids) items.entries) (sym c.promote.ensures.entries)
    (fit_used _ c.set.new.self c.self.inside.items.entries (fit_more _ _ c.set.ensures.room _ c.self.invariant))

pub returns-in-Ok-clause-answer : goal.returns-in-Ok-clause-answer
returns-in-Ok-clause-answer c = rw (← c.self.view_is) (subst (λ found. unchanged_answer c.args.hint found ≡ Some c.in-Ok.answer)
    (sym (finds c.set.new.self c.args.query.now (c.set.ensures.set (search rules)) c.self.inside.items.entries c.self.inside.items.cap)) c.in-Ok.ensures.answer)

pub returns-in-Ok-clause-used : goal.returns-in-Ok-clause-used
returns-in-Ok-clause-used c = ap (λ (items : LruCache HotKey Held). hot_of (map seen items.entries) items.cap) c.promote.ensures.entries
    ∙ uses c.set.new.self c.args.query.now (c.set.ensures.set (search rules)) c.self.inside.items.entries c.self.inside.items.cap
    ∙ ap (used c.args.query.now) c.self.view_is

pub returns-in-Err-clause-refused : goal.returns-in-Err-clause-refused
returns-in-Err-clause-refused c = rw (← c.self.view_is) (subst (λ found. IsStrange c.args.hint found c.in-Err.refusal)
    (sym (finds c.set.new.self c.args.query.now (c.set.ensures.set (search rules)) c.self.inside.items.entries c.self.inside.items.cap))
    c.in-Err.ensures.refused)
