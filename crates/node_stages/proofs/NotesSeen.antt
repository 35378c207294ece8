-- What a note of a store has seen, whatever the store's role.
use Rattle.std.proofs.Common.{◌≡◌, ◌≤◌, List, length, refl, ap, subst, sym, arith}
use Rattle.shard_log.proofs.Beginnings.{begins-length, begins-self}
use Rattle.shard_log.proofs.GrowthLemmas.{grows-self}
use Rattle.shard_log.specs.View.{Begins, Grows, View}
use Rattle.shard_tables.specs.Stores.{HasSeen, seen_by}
use Rattle.shard_tables.specs.declared.store.StoreRole.{StoreRole}
use Rattle.shard_tables.specs.declared.store.StoreRole.TheVariants.{Master, Slave}
use Rattle.tao_base.specs.declared.entry.Entry.{Entry}
use Rattle.core_model.proofs.leader_tier_lemmas.LegalReads.{role_log}

pub role_told : (role : StoreRole) (v : View) → (seen_by role v).log.told ≡ v.log.told
role_told role v = ap (λ l. l.told) (role_log role v)

pub role_entries : (role : StoreRole) (v : View) → (seen_by role v).entries ≡ v.entries
role_entries Master v = refl
role_entries Slave v = refl

-- it begins what the store has seen
pub role_grows : (role : StoreRole) (v : View) → Grows (seen_by role v) v
role_grows Master v = record { log_is = refl; begins = begins-self v.entries }
role_grows Slave v = grows-self v

-- what a store has seen begins with its keeper's log
pub seen_begins : (role : StoreRole) (log entries : List Entry) → HasSeen role log entries → Begins log entries
seen_begins Master log entries seen = subst (Begins log) (sym seen) (begins-self log)
seen_begins Slave log entries seen = seen

-- it has seen as much as that has
pub seen_long : (role : StoreRole) (log entries : List Entry) → HasSeen role log entries → length log ≤ length entries
seen_long Master log entries seen = omega (arith, ap (λ (xs : List Entry). length xs) seen)
seen_long Slave log entries seen = begins-length log entries seen

-- so has the note
pub role_reaches : (role : StoreRole) (v : View) (log : List Entry) → HasSeen role log v.entries → length log ≤ length (seen_by role v).entries
role_reaches role v log seen =
    let long = seen_long role log v.entries seen in
    omega (arith, long, ap (λ (xs : List Entry). length xs) (role_entries role v))
