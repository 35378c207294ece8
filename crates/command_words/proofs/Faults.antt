-- What a fault among others says of them.
use Rattle.std.proofs.Common.{◌≡◌, ◌≢◌, ◌⊎◌, ◌&&◌, ◌||◌, Bool, true, false, [], ◌∷◌, Option, None, Some, IsNone, IsSome, is_some, Result, Ok, Err}
use Rattle.std.proofs.Common.{IfOk, inl, inr, ap, refl, sym, ◌∙◌}
use Rattle.std.specs.List.{list_all}
use Rattle.clap.specs.Words.{IsAmong, Kinds}
use Rattle.clap.specs.declared.error.kind.ErrorKind.{ErrorKind}
use Rattle.clap.specs.declared.error.kind.ErrorKind.TheVariants.{OutOfMemory}
use Rattle.command_words.specs.Read.{asks, asks_alone, is_asked}
use Rattle.std.proofs.lemmas.Bool.{or_right}

and_false : (b : Bool) → (b && false) ≡ false
and_false true = refl
and_false false = refl

pub among_asks : (kind : ErrorKind) (kinds : Kinds) → IsAmong kind kinds → is_asked kind ≡ true → asks kinds ≡ true
among_asks kind [] among asked = absurd among
among_asks kind (k ∷ ks) (inl same) asked = ap (λ b. b || asks ks) (ap is_asked (sym same) ∙ asked)
among_asks kind (k ∷ ks) (inr among) asked = ap (λ b. is_asked k || b) (among_asks kind ks among asked) ∙ or_right (is_asked k) true refl

not_all : (kind : ErrorKind) (kinds : Kinds) → IsAmong kind kinds → is_asked kind ≡ false → list_all is_asked kinds ≡ false
not_all kind [] among asked = absurd among
not_all kind (k ∷ ks) (inl same) asked = ap (λ b. b && list_all is_asked ks) (ap is_asked (sym same) ∙ asked)
not_all kind (k ∷ ks) (inr among) asked = ap (λ b. is_asked k && b) (not_all kind ks among asked) ∙ and_false (is_asked k)

all_of_some : (kinds : Kinds) → list_all is_asked kinds ≡ false → asks_alone kinds ≡ false
all_of_some [] all = refl
all_of_some (k ∷ ks) all = all

pub among_not_alone : (kind : ErrorKind) (kinds : Kinds) → IsAmong kind kinds → is_asked kind ≡ false → asks_alone kinds ≡ false
among_not_alone kind kinds among asked = all_of_some kinds (not_all kind kinds among asked)

pub asked_of : {T E : Type 0} (r : Result (Option T) E) (kind : ErrorKind) (kinds : Kinds) → (kind ≡ OutOfMemory) ⊎ IsAmong kind kinds
    → IfOk r (λ _. kind ≢ OutOfMemory) → IfOk r (λ text. is_some text ≡ is_asked kind) → IfOk r (λ text. IsSome text → asks kinds ≡ true)
asked_of (Err error) kind kinds has memory same = tt
asked_of (Ok None) kind kinds has memory same = λ some. absurd (cc some)
asked_of (Ok (Some text)) kind kinds (inl lacking) memory same = absurd (memory lacking)
asked_of (Ok (Some text)) kind kinds (inr among) memory same = λ some. among_asks kind kinds among (sym same)

pub not_asked_of : {T E : Type 0} (r : Result (Option T) E) (kind : ErrorKind) (kinds : Kinds) → (kind ≡ OutOfMemory) ⊎ IsAmong kind kinds
    → IfOk r (λ _. kind ≢ OutOfMemory) → IfOk r (λ text. is_some text ≡ is_asked kind) → IfOk r (λ text. IsNone text → asks_alone kinds ≡ false)
not_asked_of (Err error) kind kinds has memory same = tt
not_asked_of (Ok (Some text)) kind kinds has memory same = λ none. absurd (cc none)
not_asked_of (Ok None) kind kinds (inl lacking) memory same = absurd (memory lacking)
not_asked_of (Ok None) kind kinds (inr among) memory same = λ none. among_not_alone kind kinds among (sym same)
