-- What is told, and what isn't.
use Rattle.std.specs.Prelude.{◌≡◌, Bool, true}

-- what is said of a log or of tables, where they are told
abbrev pub WhereTold : Bool → Type 0 → Type 0
WhereTold told P = told ≡ true → P
