-- Asks that stay open over several steps.
use Rattle.std.specs.Prelude.{ℕ, ◌≡◌, ◌≤◌, ◌+◌, IfSome, List}
use Rattle.std.specs.List.{AllByRecursion}
use Rattle.ask_table.specs.Asks.{Asks, IsTable, with_ask, with_floor, without_ask}
use Rattle.ask_table.specs.declared.ask.Ask.{Ask}
use Rattle.cache_items.specs.Kept.{ask_at}
use Rattle.cache_items.specs.Node.{raised_all}
use Rattle.maint_msg.specs.declared.key_versions.KeyVersion.{KeyVersion}
use Rattle.tao_base.specs.declared.id.Key.{Key}

-- each open ask of that number is on the key
abbrev pub AreAsksOn : ℕ → Key → List Ask → Type 0
AreAsksOn number key asks = AllByRecursion (λ a. a.number ≡ number → a.key ≡ key) asks

-- an ask of this number was given, and where it is still open, it is on the key
pub record IsAskOn (t : Asks) (number : ℕ) (key : Key) : Type 0 where
  pub given : number ≤ t.given
  pub on : AreAsksOn number key t.asks

-- numbers of asks go on: none is given again, and one that is still open is on its key
abbrev pub AsksGoOn : Asks → Asks → Type 0
AsksGoOn old new = (number : ℕ) (key : Key) → IsAskOn old number key → IsAskOn new number key

-- asks go on through whatever is done to them
pub record AsksStayOn : Type 0 where
  pub stay : (t : Asks) → AsksGoOn t t
  pub on : (s t u : Asks) → AsksGoOn s t → AsksGoOn t u → AsksGoOn s u
  pub begins : (t : Asks) (key : Key) (mark : ℕ) → AsksGoOn t (with_ask key mark t)
  pub raises : (t : Asks) (key : Key) (version : ℕ) → AsksGoOn t (with_floor key version t)
  pub raises_all : (keys : List KeyVersion) (t : Asks) → AsksGoOn t (raised_all keys t)
  pub ends : (t : Asks) (number : ℕ) → AsksGoOn t (without_ask number t)
  -- the ask that begins is on its key
  pub begun : (t : Asks) (key : Key) (mark : ℕ) → IsTable t → IsAskOn (with_ask key mark t) (t.given + 1) key
  -- so the one that is found is
  pub found : (t : Asks) (number : ℕ) (key : Key) → IsAskOn t number key → IfSome (ask_at number t) (λ a. a.key ≡ key)
