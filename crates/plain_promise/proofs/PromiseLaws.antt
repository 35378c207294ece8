-- What stands in a run stands from then on.
use Rattle.std.proofs.Common.{◌≡◌, ◌++◌, ◌∷◌, [], ℕ, List, Option, Some, None, length, drop, ap, sym, subst, ◌∙◌}
use Rattle.std.specs.Prelude.{Contains}
use Rattle.std.proofs.lemmas.List.{take-append-drop}
use Rattle.std.proofs.lemmas.List.Elements.{Contains-append_left}
use Rattle.graph_model.specs.Log.{entry_at}
use Rattle.plain_promise.specs.Promise.{EachGrows, Logs, Plain, RunsPlainly, Said, SaysPlainly, StandsFromThenOn}
use Rattle.replies.specs.declared.reply.Reply.{Reply}
use Rattle.request_check.specs.declared.checked.Checked.{Checked}
use Rattle.tao_base.specs.EdgeTypes.{EdgeTypes}
use Rattle.tao_base.specs.declared.entry.Entry.{Entry}
use Rattle.write_model.proofs.Growing.{Grown, entry_stays}
use Rattle.write_model.specs.Merges.{log_of}

-- logs that grew are longer by what follows
pub grown_by : (old new : Logs) → EachGrows old new → Grown (log_of old) (log_of new)
grown_by old new grows = record {
  more = λ shard. drop (length (log_of old shard)) (log_of new shard);
  is = λ shard. sym (ap (λ log. log ++ drop (length (log_of old shard)) (log_of new shard)) (grows shard)
      ∙ take-append-drop (length (log_of old shard)) (log_of new shard));
}

-- one line
one_stands : (types : EdgeTypes) (old new : Plain) (asked : Option Checked) (reply : Reply) (shard position : ℕ) (e : Entry)
    → SaysPlainly types old asked reply new → entry_at (log_of old.stores.logs shard) position ≡ Some e
    → entry_at (log_of new.stores.logs shard) position ≡ Some e
one_stands types old new None reply shard position e says stands =
    subst (λ (p : Plain). entry_at (log_of p.stores.logs shard) position ≡ Some e) (sym says.same) stands
one_stands types old new (Some asked) reply shard position e says stands =
    entry_stays types (log_of old.stores.logs) (log_of new.stores.logs) (grown_by old.stores.logs new.stores.logs says.grows) shard position e stands

one_learnt : (types : EdgeTypes) (old new : Plain) (asked : Option Checked) (reply : Reply) (session : ℕ) (e : Entry) → SaysPlainly types old asked reply new
    → Contains (old.learnt session) e → Contains (new.learnt session) e
one_learnt types old new None reply session e says learnt = subst (λ (p : Plain). Contains (p.learnt session) e) (sym says.same) learnt
one_learnt types old new (Some asked) reply session e says learnt =
    let more = says.learnt session in
    subst (λ es. Contains es e) (sym more.1) (Contains-append_left (old.learnt session) more.0 e learnt)

-- one after another
pub all_stand : (types : EdgeTypes) (old : Plain) (saids : List Said) (new : Plain) (shard position : ℕ) (e : Entry) → RunsPlainly types old saids new
    → entry_at (log_of old.stores.logs shard) position ≡ Some e → entry_at (log_of new.stores.logs shard) position ≡ Some e
all_stand types old [] new shard position e runs stands =
    subst (λ (p : Plain). entry_at (log_of p.stores.logs shard) position ≡ Some e) (sym runs) stands
all_stand types old (said ∷ more) new shard position e runs stands =
    all_stand types runs.0 more new shard position e runs.3 (one_stands types old runs.0 said.asked said.reply shard position e runs.1 stands)

all_learnt : (types : EdgeTypes) (old : Plain) (saids : List Said) (new : Plain) (session : ℕ) (e : Entry) → RunsPlainly types old saids new
    → Contains (old.learnt session) e → Contains (new.learnt session) e
all_learnt types old [] new session e runs learnt = subst (λ (p : Plain). Contains (p.learnt session) e) (sym runs) learnt
all_learnt types old (said ∷ more) new session e runs learnt =
    all_learnt types runs.0 more new session e runs.3 (one_learnt types old runs.0 said.asked said.reply session e runs.1 learnt)

pub stands_from_then_on : (types : EdgeTypes) (old : Plain) (saids : List Said) (new : Plain) → StandsFromThenOn types old saids new
stands_from_then_on types old saids new = record { stands = all_stand types old saids new; learnt = all_learnt types old saids new }
