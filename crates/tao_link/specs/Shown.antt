-- What a link shows, and what a carry does to it.
use Rattle.std.specs.Prelude.{◌≡◌, ℕ, List, Option, Some, Result, MatchResult}
use Rattle.counts.specs.Count.{after_one}
use Rattle.tao_link.specs.declared.link.Carry.{Carry}

-- the carries that are cut, where the link tells them; how many carries and faults there were; and the last carry that failed
pub record LinkShown : Type 0 where
  pub cuts : Option (List Carry)
  pub carries : ℕ
  pub faults : ℕ
  pub failed : Option Carry

-- one more carry
abbrev pub after_carry : LinkShown → LinkShown
after_carry link = record link { carries = after_one link.carries }

-- one more carry, which failed
abbrev pub after_fault : Carry → LinkShown → LinkShown
after_fault at link = record link { carries = after_one link.carries; faults = after_one link.faults; failed = Some at }

-- a carry failed exactly where it was to, and was counted, as was its fault
abbrev pub CarriesUnless : {T E : Type 0} → Type 0 → Carry → LinkShown → LinkShown → Result T E → Type 0
CarriesUnless fails at old new result =
    MatchResult result (λ _. ¬ fails × (new ≡ after_carry old)) (λ _. fails × (new ≡ after_fault at old))
