-- Sessions that are open stay so.
use Rattle.std.proofs.Common.{◌≡◌, ◌∙◌, ℕ, Bool, true, false, List, [], ◌∷◌, ap, refl, subst, sym, inl, inr, arith}
use Rattle.std.specs.Prelude.{◌==◌, ◌||◌, filter, nat_lt}
use Rattle.std.proofs.lemmas.Bool.{cases_Bool, eqb-true, false≢true, or_right}
use Rattle.std.proofs.lemmas.Bool.Decides.{nat_tests}
use Rattle.std.proofs.lemmas.List.Folds.{list_any-append}
use Rattle.core_sessions.specs.Sessions.{Session, is_open, new_session, with_session}
use Rattle.core_sessions.specs.declared.sessions.OpenSession.{OpenSession}
use Rattle.replies.specs.declared.refusals.Refusal.TheVariants.{Memory}
use Rattle.replies.specs.declared.reply.Reply.{Reply}
use Rattle.replies.specs.declared.reply.Reply.TheVariants.{Opened, Refused}
use Rattle.shard_log.specs.View.{View}
use Rattle.tao_core.specs.Replies.{AnswersOpen}

-- each session that was open is open
pub record StayOpen (old new : List Session) : Type 0 where
  pub stays : (number : ℕ) → is_open old number ≡ true → is_open new number ≡ true

pub same_open : (old new : List Session) → new ≡ old → StayOpen old new
same_open old new same = record { stays = λ number is. ap (λ xs. is_open xs number) same ∙ is }

-- a test that each session of the number passes keeps it
kept : (test : ℕ → Bool) (n : ℕ) (xs : List Session) → test n ≡ true → is_open xs n ≡ true → is_open (filter (λ s. test s.session) xs) n ≡ true
kept test n [] passes there = there
kept test n (x ∷ xs) passes there = elim (cases_Bool (x.session == n)) [
  | inl is ↦ (let passed : test x.session ≡ true = ap test (eqb-true x.session n is) ∙ passes in rw passed (rw is refl))
  | inr isnt ↦ (
      let rest : is_open xs n ≡ true = rw isnt at there in
      elim (cases_Bool (test x.session)) [
        | inl passed ↦ rw passed (rw isnt (kept test n xs passes rest))
        | inr fails ↦ rw fails (kept test n xs passes rest)
      ])
]

module _ (place : OpenSession) (notes : List View) (old : List Session) (closed : is_open old place.session ≡ false) (n : ℕ)
    (there : is_open old n ≡ true) where
  abbrev lower : List Session
  lower = filter (λ s. nat_lt s.session place.session) old

  abbrev greater : List Session
  greater = filter (λ s. nat_lt place.session s.session) old

  joined : is_open (with_session (new_session place notes) old) n ≡ (is_open lower n || ((place.session == n) || is_open greater n))
  joined = list_any-append (λ (s : Session). s.session == n) lower (new_session place notes ∷ greater)

  by_lower : nat_lt n place.session ≡ true → is_open (with_session (new_session place notes) old) n ≡ true
  by_lower less = joined ∙ (rw (kept (λ k. nat_lt k place.session) n old less there) refl)

  by_greater : nat_lt place.session n ≡ true → is_open (with_session (new_session place notes) old) n ≡ true
  by_greater more =
      joined ∙ (rw (kept (λ k. nat_lt place.session k) n old more there) (rw (or_right (place.session == n) true refl) (or_right (is_open lower n) true refl)))

  opened_still : is_open (with_session (new_session place notes) old) n ≡ true
  opened_still = elim (cases_Bool (nat_lt n place.session)) [
    | inl less ↦ by_lower less
    | inr not_less ↦ elim (cases_Bool (nat_lt place.session n)) [
      | inl more ↦ by_greater more
      | inr not_more ↦
          let same : n ≡ place.session = grind (arith, nat_tests, not_less, not_more) in
          absurd (false≢true (sym closed ∙ ap (is_open old) (sym same) ∙ there))
    ]
  ]

pub opened_open : (place : OpenSession) (notes : List View) (old : List Session) → is_open old place.session ≡ false
    → StayOpen old (with_session (new_session place notes) old)
opened_open place notes old closed = record { stays = λ n there. opened_still place notes old closed n there }

-- an `open` leaves open what was
pub opens_stay : (place : OpenSession) (old : List Session) (reply : Reply) (new : List Session) → is_open old place.session ≡ false
    → AnswersOpen place old reply new → StayOpen old new
opens_stay place old (Opened session) new closed answers = subst (StayOpen old) (sym answers.1.1) (opened_open place answers.1.0 old closed)
opens_stay place old (Refused (Memory position)) new closed answers = same_open old new answers.1
opens_stay place old reply new closed answers = absurd answers
