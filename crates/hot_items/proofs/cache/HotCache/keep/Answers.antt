use Rattle.std.proofs.Common.{◌∙◌, ap, map, vec_capacity}
use Rattle.lru.specs.LruCache.{LruCache, lru_cache, put_entries}
use Rattle.hot_items.specs.CacheView.{hot_seen, seen}
use Rattle.hot_items.specs.Hot.{held_as, hot_of, with_held}
use Rattle.hot_items.specs.contracts.key.HotKeyPartialEq.TheImpl.{eq-value as hot_eq}
use Rattle.hot_items.specs.declared.key.HotKey.{HotKey}
use Rattle.hot_items.specs.declared.reply.Held.{Held}
use Rattle.hot_items.proofs.Looks.{FitIn, after_ok, either_way, few_ids, fit_more, fit_put, keeps}
use Rattle.hot_items.proofs.cache.HotCache.keep.Goals as goal

pub invariant_of-self-2 : goal.invariant_of-self-2
invariant_of-self-2 c =
    let room = fit_more _ _ c.in_ok-make_room.ensures.room c.self.inside.items.entries c.self.invariant in
    let few = few_ids _ c.in_ok-key.key c.args.query.now c.ids_of.result.now c.in_ok-key.ensures.key c.ids_of.ensures c.in_ok-make_room.ensures.made in
    either_way (λ (items : LruCache HotKey Held). FitIn (vec_capacity c.make_room.new.self.ids) items.entries) c.put_entry.result c.put_entry.new.items
    (lru_cache (put_entries hot_eq.it c.self.inside.items c.in_ok-key.key c.in_ok-key.held) c.self.inside.items.cap) c.self.inside.items
    c.put_entry.ensures.put c.put_entry.ensures.err (fit_put _ c.self.inside.items c.in_ok-key.key c.in_ok-key.held few room) room

pub returns-clause-kept : goal.returns-clause-kept
returns-clause-kept c = after_ok c.put_entry.result
    (λ put. ap (λ (items : LruCache HotKey Held). hot_of (map seen items.entries) items.cap) put
    ∙ keeps c.in_ok-key.key c.args.query.now c.in_ok-key.ensures.key c.self.inside.items c.in_ok-key.held
    ∙ ap (λ held. with_held c.args.query.now held (hot_seen c.self.inside)) c.in_ok-key.ensures.held
    ∙ ap (with_held c.args.query.now (held_as c.args.hint c.args.answer.now)) c.self.view_is) c.put_entry.ensures.put
