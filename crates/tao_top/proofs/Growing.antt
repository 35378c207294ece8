-- A core goes on serving after a request: lines stay, logs only grow, and only tables of the configuration's stores change.
use Rattle.std.proofs.Common.{◌≡◌, ◌⊎◌, Bool, true, length, Some, Ok, unwrap_or, sym, ap, subst, ◌∙◌, inl, inr, arith}
use Rattle.std.proofs.lemmas.Bool.{cases_lt}
use Rattle.config_json.specs.Config.{config_in}
use Rattle.headline_kept.proofs.Keeping.{headline_kept}
use Rattle.replies.specs.declared.reply.Reply.{Reply}
use Rattle.requests.specs.declared.request.Request.{Request}
use Rattle.tao_base.specs.declared.id.StoreName.{StoreName}
use Rattle.tao_core.specs.Core.{CoreState, IsCoreOf, StaysUsable, moment_of}
use Rattle.core_model.specs.Growing.{TablesGoOn}
use Rattle.core_model.specs.Stores.{AreInOrder, IsConfiguredStore}
use Rattle.core_nodes.proofs.OpenLemmas.{all_first}
use Rattle.tao_core.specs.Replies.{AnswersRequest}
use Rattle.tao_keeper.specs.Table.{Tables, OpensAs}
use Rattle.tao_keeper.specs.declared.keeper.Opened.TheVariants.{Ready}
use Rattle.tao_top.proofs.Configured.{taken_rules}
use Rattle.tao_top.specs.Kept.{AreOpenedWith, LeavesTables, MayServe, StillBegin}
use Rattle.core_nodes.specs.Outside.{Outside}
use Rattle.tao_top.specs.Step.{AnswersLine}
use Rattle.topology.specs.Config.{Settings}

opened_grown : (tells : Bool) (s : Settings) (old new : Tables) → TablesGoOn tells s old new → tells ≡ true → AreOpenedWith s old → AreOpenedWith s new
opened_grown tells s old new only told opened = λ at here.
    let o = opened at here in
    record { line = o.line; first = only.lines told at ∙ o.first; configured = o.configured }

-- the store that each configuration has
abbrev first_store : StoreName
first_store = record { region = 0; shard = 0 }

-- one has it, or none at all
first_or_none : (s : Settings) → IsConfiguredStore s first_store ⊎ ((at : StoreName) → IsConfiguredStore s at → ⊥)
first_or_none s = elim (cases_lt 0 (length s.regions)) [
  | inl region ↦ elim (cases_lt 0 s.shards) [
    | inl shard ↦ inl (record { region = region; shard = shard })
    | inr none ↦ inr (λ at is. let here = is.shard in absurd (omega (arith, none, here)))
  ]
  | inr none ↦ inr (λ at is. let here = is.region in absurd (omega (arith, none, here)))
]

-- with tables of a core that serves, which are in order, a run may begin as before: with the core's configuration, or with tables that didn't change
still_grown : (tells : Bool) (s : Settings) (old new : Tables) → TablesGoOn tells s old new → tells ≡ true → AreOpenedWith s old → AreInOrder s new
    → StillBegin old new
still_grown tells s old new only told opened order line may t configured ready = elim (first_or_none s) [
  | inl here ↦
      let taken = taken_rules line t configured in
      let there : IsConfiguredStore t first_store = record { region = taken.some; shard = taken.shards } in
      let o = opened first_store here in
      let now : (new first_store).line ≡ Some o.line = only.lines told first_store ∙ o.first in
      let same_line : o.line ≡ line = sym (ap (λ l. unwrap_or l line) now) ∙ ready first_store (all_first t first_store there) in
      let first : config_in line ≡ Ok s = subst (λ l. config_in l ≡ Ok s) same_line o.configured in
      let same_settings : s ≡ t = cc (first, configured) in
      subst (λ u. AreInOrder u new) same_settings order
  | inr none ↦
      let same : (at : StoreName) → new at ≡ old at = λ at. only.others told at (none at) in
      let one : new ≡ old = λ i at. same at i in
      subst (AreInOrder t) (sym one) (may t configured (λ at first. subst (λ table. OpensAs Ready table line) (same at) (ready at first)))
]

-- ---- a request that is answered, where the core stands within a value

module _ (tells : Bool) (core within next : CoreState) (old new : Outside) (is : within ≡ core) (settings : next.settings ≡ within.settings) where
  pub call_answers : (request : Request) (reply : Reply) → IsCoreOf tells old.keepers.told core
      → AnswersRequest tells (moment_of within old) request reply (moment_of next new)
      → StaysUsable tells old.keepers new.keepers within next → AnswersLine tells (moment_of core old) (Ok request) reply (moment_of next new)
  call_answers request reply before answers usable =
      subst (λ c. AnswersLine tells (moment_of c old) (Ok request) reply (moment_of next new)) is (
        answers,
        record { settings = settings; goes = usable.goes; comes = usable.comes; grows = usable.grows; of_core = usable.keepers },
        headline_kept.kept tells (moment_of within old) (moment_of next new) request reply
            (record { before = subst (IsCoreOf tells old.keepers.told) (sym is) before; after = usable; answers = answers }),
      )

  module _ (serving : MayServe tells core old.keepers.told) (grows : TablesGoOn tells within.settings old.keepers.told new.keepers.told)
      (of_core : IsCoreOf tells new.keepers.told next) where
    opened : tells ≡ true → AreOpenedWith within.settings old.keepers.told
    opened told = subst (λ c. AreOpenedWith c.settings old.keepers.told) (sym is) (serving.opened told)

    pub call_serves_on : MayServe tells next new.keepers.told
    call_serves_on = record {
      of_core = of_core;
      opened = λ told. subst (λ s. AreOpenedWith s new.keepers.told) (sym settings)
          (opened_grown tells within.settings old.keepers.told new.keepers.told grows told (opened told));
    }

    -- its tables are in order still
    order : tells ≡ true → AreInOrder within.settings new.keepers.told
    order told =
        let stores = of_core.is_consistent.consistent.stores in
        subst (λ s. AreInOrder s new.keepers.told) settings (record { kept = stores.kept told; cuts = stores.cuts told })

    pub call_leaves : LeavesTables tells old.keepers new.keepers
    call_leaves = record {
      histories = grows.logs;
      still = λ told. still_grown tells within.settings old.keepers.told new.keepers.told grows told (opened told) (order told);
    }
