-- A good run where nothing fails ends as its stores agree, or as there was no memory.
use Rattle.std.proofs.Common.{◌≡◌, ◌⊎◌, ◌≤◌, ◌^◌, ℕ, Bool, true, false, List, [], ◌∷◌, ◌++◌, length, map, Option, Result, IfSome, Err, ap, inl, inr, refl, sym}
use Rattle.std.proofs.Common.{subst, ◌∙◌, lit<, arith}
use Rattle.std.specs.Prelude.{IsOk, Ok}
use Rattle.command_words.specs.Read.{words_in}
use Rattle.command_words.specs.declared.Words.{Words}
use Rattle.command_words.specs.declared.Words.TheVariants.{Gen, Run}
use Rattle.command_words.specs.declared.WordsRefusal.{WordsRefusal}
use Rattle.command_words.specs.declared.WordsRefusal.TheVariants.{Usage}
use Rattle.config_json.specs.Config.{config_in}
use Rattle.tao_io.specs.Lines.{lines_of}
use Rattle.core_model.specs.Stores.{AreStoresOf, IsConfiguredStore, master_log, master_store, store_count}
use Rattle.core_nodes.proofs.KnownStores.{known_store}
use Rattle.core_nodes.proofs.OpenedLogs.{opened_keep}
use Rattle.core_nodes.proofs.OpenLemmas.{all_first}
use Rattle.core_nodes.specs.Opening.{AreReady}
use Rattle.core_nodes.specs.Outside.{Outside}
use Rattle.region_stream.proofs.AgreeLemmas.{differences_tell}
use Rattle.shard_log.specs.View.{Begins}
use Rattle.tao_core.specs.Core.{CoreState}
use Rattle.first_line.specs.Interrupts.{Faults}
use Rattle.tao_top.proofs.GoingOn.{IsOver, none_after}
use Rattle.tao_top.specs.Served.{AreLines, Done, LinesBegin, RefusesConfiguration, IsConfigurationRefused, StoresDisagree, given_by, requests_by, serves}
use Rattle.tao_top.specs.Served.{start, streams}
use Rattle.tao_top.specs.Status.{EndsByStores, IsGood, IsStatus, NoFault, StoresAgree}
use Rattle.tao_top.specs.Step.{Configures, Given, ReplyLine, RunStage, Runs, State, TakesLine, disagreeing, ended, line_read, request_made, serving}
use Rattle.tao_top.specs.Stop.{StopHasCause, stop_code}
use Rattle.replies.specs.declared.reply.Reply.{Reply}
use Rattle.replies.specs.declared.reply.Reply.TheVariants.{BadConfiguration, BadStores, Configured}
use Rattle.topology.specs.Config.{Settings}
use Rattle.first_line.specs.declared.Interrupt.TheVariants.{Source, Sink, Memory, InputTooLong}
use Rattle.tao_top.specs.declared.stop.Stop.{Stop}
use Rattle.tao_top.specs.declared.stop.Stop.TheVariants.{Configuration, Keepers, Stores, Interrupted}

pub known_status : (stop : Stop) → IsStatus (stop_code stop)
known_status Configuration = (2, lit< tt, refl)
known_status Keepers = (5, lit< tt, refl)
known_status Stores = (7, lit< tt, refl)
known_status (Interrupted Source) = (3, lit< tt, refl)
known_status (Interrupted Sink) = (4, lit< tt, refl)
known_status (Interrupted Memory) = (6, lit< tt, refl)
known_status (Interrupted InputTooLong) = (8, lit< tt, refl)

-- ---- stores that agree

-- a run that serves at its end was at no stage that is one
not_over : (tells : Bool) (core : CoreState) (now : Outside) (stage : RunStage) (around : Outside) (given : List Given) (replies : List ReplyLine) → IsOver stage
    → Runs tells (record { stage = stage; outside = around }) given replies (serves core now) → ⊥
not_over tells core now stage around given replies over run =
    let none = none_after tells stage around given replies (serves core now) over run in
    subst (λ (s : State). IsOver s.stage) (sym none.last_is) over

-- where stores are opened and served, each log begins its master's
taken_agree : (tells : Bool) (old now : Outside) (line : List ℕ) (core : CoreState) → tells ≡ true → TakesLine tells old line core now
    → StoresAgree core.settings old.keepers.told
taken_agree tells old now line core told takes = λ at here.
    let s = core.settings in
    let before = old.keepers.told in
    let after = now.keepers.told in
    let are = subst (λ t. AreStoresOf t s after core.fleet.stores) told takes.of_core.is_consistent.consistent.stores in
    let known = known_store s after core.fleet.stores are at here in
    let begins : Begins (after at).log (master_log s after at.shard) = subst (Begins (after at).log) known.whole known.begins in
    let opened = takes.opened told in
    let keep = opened_keep s line (store_count s) before after opened.opened in
    subst (λ log. Begins log (master_log s before at.shard)) (keep.logs at)
    (subst (Begins (after at).log) (keep.logs (master_store s at.shard)) begins)

-- ---- a good run

same_head : (x y : List ℕ) (xs ys : List (List ℕ)) → (x ∷ []) ++ xs ≡ y ∷ ys → x ≡ y
same_head x y xs ys e = cc e

module _ (tells : Bool) (words : List (List ℕ)) (old now : Outside) (left before after : Option (List ℕ)) (good : IsGood tells words old.keepers left) where
  -- the first line is known
  first_is : (line : List ℕ) → LinesBegin left (line ∷ []) → line ≡ good.first
  first_is line begins =
      let b = subst (λ l. LinesBegin l (line ∷ [])) good.known begins in
      same_head line good.first b.0 good.others (sym b.1 ∙ good.lines)

  -- and so is its configuration
  settings_are : (s : Settings) → config_in good.first ≡ Ok s → s ≡ good.settings
  settings_are s one = let accepted = good.accepted in cc (one, accepted)

  not_refused_line : (field : List ℕ) → Configures tells old good.first (BadConfiguration field) ended now → ⊥
  not_refused_line field (inl is) = let none = is.refused in let some = good.accepted in cc (none, some)
  not_refused_line field (inr is) =
      let one = is.configured in
      let accepted = good.accepted in
      let same : is.settings ≡ good.settings = cc (one, accepted) in
      let other = is.other good.told in
      other.other (subst (λ s. AreReady s good.first (store_count s) old.keepers.told) (sym same) good.ready other.store
      (all_first is.settings other.store other.configured))

  not_refused : (field : List ℕ) → IsConfigurationRefused tells old now left field → ⊥
  not_refused field (inl missing) =
      let none : lines_of good.bytes ≡ [] = subst (λ l. AreLines l []) good.known missing.0 in
      let some = good.lines in
      cc (none, some)
  not_refused field (inr (line, begins, is)) =
      not_refused_line field (subst (λ l. Configures tells old l (BadConfiguration field) ended now) (first_is line begins) is)

  -- stores that agree aren't told to disagree
  not_disagreeing : StoresAgree good.settings old.keepers.told → StoresDisagree tells old now left before after → ⊥
  not_disagreeing agree is =
      let s = is.found.settings in
      let at = is.found.store in
      let tables = old.keepers.told in
      let same = settings_are s (subst (λ l. config_in l ≡ Ok s) (first_is is.line is.read) is.disagree.configured) in
      let slave = is.disagree.disagree.0 in
      let told = is.disagree.disagree.1 good.told in
      let begins : Begins (tables at).log (master_log s tables at.shard) =
      subst (λ t. Begins (tables at).log (master_log t tables at.shard)) (sym same) (agree at (subst (λ t. IsConfiguredStore t at) same slave.here)) in
      differences_tell.tell (tables at).log (master_log s tables at.shard) is.found.position begins told.disagrees.differs

  -- the stores of a run that is done agree
  by_reply : (core : CoreState) (given : List Given) (replies : List ReplyLine) (reply : Reply) (stage : RunStage) (around : Outside)
      → Configures tells old good.first reply stage around
      → Runs tells (record { stage = stage; outside = around }) given replies (serves core now) → StoresAgree good.settings old.keepers.told
  by_reply core given replies Configured (serving c) around step run =
      subst (λ s. StoresAgree s old.keepers.told) (settings_are c.settings step.configured) (taken_agree tells old around good.first c good.told step)
  by_reply core given replies (BadConfiguration field) ended around step run = absurd (not_over tells core now ended around given replies tt run)
  by_reply core given replies (BadStores store position) (disagreeing s) around step run =
      absurd (not_over tells core now (disagreeing s) around given replies tt run)
  by_reply core given replies reply stage around step run = absurd step

  by_replies : (core : CoreState) (given : List Given) (replies : List ReplyLine)
      → Runs tells (start old) (line_read good.first ∷ given) replies (serves core now) → StoresAgree good.settings old.keepers.told
  by_replies core given [] run = absurd run
  by_replies core given (r ∷ replies) run = by_reply core given replies run.1.0 run.0.stage run.0.outside run.1.1.does run.2

  -- the first line is what is given first, whatever the words ask for
  given_are : (asked : Result Words WordsRefusal) → IsOk asked → (others : List Given) × (given_by asked (good.first ∷ good.others) ≡ line_read good.first ∷ others)
  given_are (Ok (Run sql)) ok = (map line_read good.others, refl)
  given_are (Ok (Gen seed calls)) ok = (map request_made (requests_by seed calls (config_in good.first)), refl)
  given_are (Err refused) ok = absurd (cc ok)

  done_agree : Done (words_in words) tells old now (streams left before) after → StoresAgree good.settings old.keepers.told
  done_agree done =
      let answered = done.answered in
      let lines_are : lines_of good.bytes ≡ answered.read.0 = subst (λ l. AreLines l answered.read.0) good.known answered.read.1 in
      let others = given_are (words_in words) good.asked in
      let given : answered.given ≡ line_read good.first ∷ others.0 =
      sym answered.read.2 ∙ ap (given_by (words_in words)) (sym lines_are ∙ good.lines) ∙ others.1 in
      by_replies done.core others.0 answered.replies
      (subst (λ gs. Runs tells (start old) gs answered.replies (serves done.core now)) given answered.run)

  -- ---- its status

  abbrev Ends : ℕ → Type 0
  Ends code = EndsByStores good.settings old.keepers.told code

  for_memory : (code : ℕ) → code ≡ 7 → Ends code
  for_memory code is = record { agree = λ _. inr is; disagree = λ _. inr is }

  pub ends_done : Done (words_in words) tells old now (streams left before) after → Ends 0
  ends_done done = record { agree = λ _. inl refl; disagree = λ none. absurd (none (done_agree done)) }

  pub ends_idle : (code : ℕ) → (code ≡ 2 → words_in words ≡ Err Usage) → (code ≡ 2) ⊎ (code ≡ 7) → Ends code
  ends_idle code usage (inl two) = (let e : false ≡ true = subst (λ r. IsOk r) (usage two) good.asked in absurd (cc))
  ends_idle code usage (inr seven) = for_memory code seven

  pub ends_stopped : (old_faults new_faults : Faults) (keepers_before keepers_now : ℕ) (stop : Stop) → NoFault old_faults new_faults keepers_before keepers_now
      → (stop ≡ Configuration → RefusesConfiguration tells old now left before after)
      → (stop ≡ Stores → StoresDisagree tells old now left before after)
      → StopHasCause old_faults new_faults keepers_before keepers_now stop
      → (stop ≡ Interrupted InputTooLong → IfSome left (λ bytes. 2 ^ 40 ≤ length bytes))
      → Ends (stop_code stop)
  ends_stopped old_faults new_faults keepers_before keepers_now Configuration none refused disagree cause long = let r = refused refl in
      absurd (not_refused r.field r.refused)
  ends_stopped old_faults new_faults keepers_before keepers_now Keepers none refused disagree cause long = absurd (none.keepers cause)
  ends_stopped old_faults new_faults keepers_before keepers_now Stores none refused disagree cause long =
      record { agree = λ agree. absurd (not_disagreeing agree (disagree refl)); disagree = λ _. inl refl }
  ends_stopped old_faults new_faults keepers_before keepers_now (Interrupted Source) none refused disagree cause long = absurd (none.source cause)
  ends_stopped old_faults new_faults keepers_before keepers_now (Interrupted Sink) none refused disagree cause long = absurd (none.sink cause)
  ends_stopped old_faults new_faults keepers_before keepers_now (Interrupted Memory) none refused disagree cause long = for_memory 7 refl
  ends_stopped old_faults new_faults keepers_before keepers_now (Interrupted InputTooLong) none refused disagree cause long =
      let over : 2 ^ 40 ≤ length good.bytes = subst (λ l. IfSome l (λ bytes. 2 ^ 40 ≤ length bytes)) good.known (long refl) in
      let short = good.short in
      absurd (omega arith)
