use Rattle.std.proofs.Common.{ap, rules, sym, ◌∙◌}
use Rattle.std.specs.Option.{option_map}
use Rattle.hot_items.specs.Hot.{hint_of}
use Rattle.hot_items.proofs.Looks.{finds, fit_more, misses}
use Rattle.hot_items.proofs.cache.HotCache.hint.Goals as goal

pub invariant_of-self : goal.invariant_of-self
invariant_of-self c = fit_more _ _ c.set.ensures.room _ c.self.invariant

pub invariant_of-self-2 : goal.invariant_of-self-2
invariant_of-self-2 c = fit_more _ _ c.set.ensures.room _ c.self.invariant

pub returns-then-not-set-clause-hint : goal.returns-then-not-set-clause-hint
returns-then-not-set-clause-hint c = rw (← c.self.view_is) (sym (ap (option_map hint_of)
    (misses _ c.args.query.now (c.set.ensures.none (search rules)) c.self.inside.items.entries c.self.invariant c.self.inside.items.cap)))

pub returns-clause-hint : goal.returns-clause-hint
returns-clause-hint c = rw (← c.self.view_is) (c.held_hint.ensures ∙ sym (ap (option_map hint_of)
    (finds c.set.new.self c.args.query.now (c.set.ensures.set (search rules)) c.self.inside.items.entries c.self.inside.items.cap)))
