-- Fields that are read as they are spelled: each reading takes its value's bytes from the front, and after a value's bytes the value is read.
use Rattle.std.proofs.Common.{◌≡◌, ℕ, ◌+◌, ◌≤◌, Bool, true, false, cond, List, [], ◌++◌, length, take, drop, Result, Ok, Err, refl, sym, ap, subst}
use Rattle.std.proofs.Common.{◌∙◌, append_assoc, arith, inl, inr, leb, nat_le}
use Rattle.std.proofs.lemmas.Bool.{cases_lt, le-leb, leb-true}
use Rattle.std.proofs.lemmas.List.{take_at, drop_at, take-append-drop, length-append, length-take, get_or-drop, get_or-take, get_or_past}
use Rattle.entry_codec.specs.Fields.{AreBytes, Rest, Field, ◌>>=◌, and_then, spelled_bytes, give, kept_if, only, up_to}

pub bytes-drop : (n : ℕ) (bytes : List ℕ) → AreBytes bytes → AreBytes (drop n bytes)
bytes-drop n bytes fits i = rw get_or-drop (fits (n + i))

pub bytes-take : (n : ℕ) (bytes : List ℕ) → AreBytes bytes → AreBytes (take n bytes)
bytes-take n bytes fits i = elim (cases_lt i n) [
  | inl lt ↦ rw (get_or-take n bytes i 0 lt) (fits i)
  | inr le ↦ rw (get_or_past (take n bytes) i 0 (omega (arith, length-take n bytes))) (omega arith)
]

-- the next rest is what is left after the text
pub record Takes (rest : Rest) (text : List ℕ) (next : Rest) : Type 0 where
  pub parts : rest.bytes ≡ text ++ next.bytes
  pub place : next.at ≡ rest.at + length text

-- what is read has been taken from the front, and Q holds of it and its bytes
abbrev pub Reads : {X : Type 0} → Rest → Field X → (X → List ℕ → Type 0) → Type 0
Reads {X} rest field Q = (x : X) (next : Rest) → AreBytes rest.bytes → field rest ≡ Ok (x, next) → (text : List ℕ) × Takes rest text next × AreBytes next.bytes
    × Q x text

-- the field is read as its values are spelled, of those that are allowed at its place
pub record IsCodec {X : Type 0} (field : Field X) (spelled : X → List ℕ) (Allowed : ℕ → X → Type 0) : Type 0 where
  pub takes : (rest : Rest) → Reads rest field (λ x text. (text ≡ spelled x) × Allowed rest.at x)
  pub again : (rest : Rest) (x : X) (next : Rest) → Allowed rest.at x → Takes rest (spelled x) next → field rest ≡ Ok (x, next)

both_taken : (rest mid next : Rest) (a b : List ℕ) → Takes rest a mid → Takes mid b next → Takes rest (a ++ b) next
both_taken rest mid next a b p q = record {
  parts = p.parts ∙ ap (λ t. a ++ t) q.parts ∙ sym (append_assoc a b next.bytes);
  place = omega (arith, p.place, q.place, length-append a b);
}

front_fits : (rest next : Rest) (text : List ℕ) → Takes rest text next → AreBytes rest.bytes → AreBytes text
front_fits rest next text t fits =
    let front : take (length text) rest.bytes ≡ text = ap (take (length text)) t.parts ∙ take_at text next.bytes (length text) refl in
    subst AreBytes front (bytes-take (length text) rest.bytes fits)

first_taken : (rest next : Rest) (a b : List ℕ) → Takes rest (a ++ b) next → (mid : Rest) × Takes rest a mid × Takes mid b next
first_taken rest next a b t = (
  record { at = rest.at + length a; bytes = b ++ next.bytes },
  record { parts = t.parts ∙ append_assoc a b next.bytes; place = refl },
  record { parts = refl; place = omega (arith, t.place, length-append a b) },
)

nothing_taken : (rest next : Rest) → Takes rest [] next → rest ≡ next
nothing_taken rest next t = let at_is : rest.at ≡ next.at = omega (arith, t.place) in λ i. record { at = at_is i; bytes = t.parts i }

abbrev pub done : {A : Type 0} → A → Result A ℕ
done x = Ok x

pub ok_is : {A : Type 0} (x y : A) → done x ≡ done y → x ≡ y
ok_is x y e = cc

-- ---- one field after the other

bind_ok : {X Y : Type 0} (read : Result (X × Rest) ℕ) (g : X → Field Y) (y : Y × Rest) → and_then read g ≡ Ok y → (x : X × Rest) × (read ≡ Ok x)
    × (g x.0 x.1 ≡ Ok y)
bind_ok (Ok x) g y e = (x, refl, e)
bind_ok (Err at) g y e = absurd cc

pub then_reads : {X Y : Type 0} {field : Field X} {spelled : X → List ℕ} {Allowed : ℕ → X → Type 0} → IsCodec field spelled Allowed
    → (rest : Rest) (g : X → Field Y) (Q : Y → List ℕ → Type 0)
    → ((x : X) (mid : Rest) → mid.at ≡ rest.at + length (spelled x) → AreBytes (spelled x) → Allowed rest.at x
    → Reads mid (g x) (λ y text. Q y (spelled x ++ text))) → Reads rest (field >>= g) Q
then_reads {X} {Y} {field} {spelled} codec rest g Q more y next fits e =
    let a = bind_ok (field rest) g (y, next) e in
    let t = codec.takes rest a.0.0 a.0.1 fits a.1 in
    let first : Takes rest (spelled a.0.0) a.0.1 = subst (λ text. Takes rest text a.0.1) t.3.0 t.1 in
    let m = more a.0.0 a.0.1 first.place (front_fits rest a.0.1 (spelled a.0.0) first fits) t.3.1 y next t.2 a.2 in
    (spelled a.0.0 ++ m.0, both_taken rest a.0.1 next (spelled a.0.0) m.0 first m.1, m.2, m.3)

pub then_again : {X Y : Type 0} {field : Field X} {spelled : X → List ℕ} {Allowed : ℕ → X → Type 0} → IsCodec field spelled Allowed
    → (rest : Rest) (g : X → Field Y) (x : X) (text : List ℕ) (y : Y) (next : Rest)
    → Allowed rest.at x → Takes rest (spelled x ++ text) next
    → ((mid : Rest) → mid.at ≡ rest.at + length (spelled x) → Takes mid text next → g x mid ≡ Ok (y, next)) → (field >>= g) rest ≡ Ok (y, next)
then_again {X} {Y} {field} {spelled} codec rest g x text y next ok t more =
    let s = first_taken rest next (spelled x) text t in
    ap (λ read. and_then read g) (codec.again rest x s.0 ok s.1) ∙ more s.0 s.1.place s.2

pub give_reads : {X : Type 0} (rest : Rest) (x : X) (Q : X → List ℕ → Type 0) → Q x [] → Reads rest (give x) Q
give_reads {X} rest x Q holds y next fits e =
    subst (λ (r : X × Rest). (text : List ℕ) × Takes rest text r.1 × AreBytes r.1.bytes × Q r.0 text) (ok_is (x, rest) (y, next) e)
    ([], record { parts = refl; place = omega arith }, fits, holds)

pub give_again : {X : Type 0} (rest : Rest) (x : X) (next : Rest) → Takes rest [] next → give x rest ≡ Ok (x, next)
give_again rest x next t = ap (λ r. Ok (x, r)) (nothing_taken rest next t)

-- ---- fields of which some values are allowed

guard_ok : {A : Type 0} (b : Bool) (place : ℕ) (x y : A) → cond b (done x) (Err place) ≡ done y → (b ≡ true) × (x ≡ y)
guard_ok true place x y e = (refl, cc)
guard_ok false place x y e = absurd cc

kept_ok : {X : Type 0} (test : X × Rest → Bool) (place : ℕ) (read : Result (X × Rest) ℕ) (x : X × Rest) → kept_if test place read ≡ Ok x → (read ≡ Ok x)
    × (test x ≡ true)
kept_ok test place (Ok y) x e = let g = guard_ok (test y) place y x e in (ap done g.1, ap test (sym g.1) ∙ g.0)
kept_ok test place (Err at) x e = absurd cc

kept_is : {X : Type 0} (test : X × Rest → Bool) (place : ℕ) (read : Result (X × Rest) ℕ) (x : X × Rest) → read ≡ Ok x → test x ≡ true
    → kept_if test place read ≡ Ok x
kept_is test place read x is passes = rw (is, passes) refl

pub only_codec : {X : Type 0} {field : Field X} {spelled : X → List ℕ} {Allowed : ℕ → X → Type 0} (allowed : X → Bool) → IsCodec field spelled Allowed
    → IsCodec (only allowed field) spelled (λ at x. Allowed at x × (allowed x ≡ true))
only_codec {X} {field} {spelled} allowed codec = record {
  takes = λ rest x next fits e.
      let k = kept_ok (λ read. allowed read.0) rest.at (field rest) (x, next) e in
      let t = codec.takes rest x next fits k.0 in
      (t.0, t.1, t.2, (t.3.0, (t.3.1, k.1)));
  again = λ rest x next ok t. kept_is (λ read. allowed read.0) rest.at (field rest) (x, next) (codec.again rest x next ok.0 t) ok.1;
}

pub up_to_codec : {X : Type 0} {field : Field X} {spelled : X → List ℕ} {Allowed : ℕ → X → Type 0} (end : ℕ) → IsCodec field spelled Allowed
    → IsCodec (up_to end field) spelled (λ at x. Allowed at x × (at + length (spelled x) ≤ end))
up_to_codec {X} {field} {spelled} end codec = record {
  takes = λ rest x next fits e.
      let k = kept_ok (λ read. nat_le read.1.at end) rest.at (field rest) (x, next) e in
      let t = codec.takes rest x next fits k.0 in
      let within : next.at ≤ end = leb-true _ _ k.1 in
      (t.0, t.1, t.2, (t.3.0, (t.3.1, omega (arith, t.1.place, within, ap length t.3.0))));
  again = λ rest x next ok t.
      let within : nat_le next.at end ≡ true = le-leb _ _ (omega (arith, t.place, ok.1)) in
      kept_is (λ read. nat_le read.1.at end) rest.at (field rest) (x, next) (codec.again rest x next ok.0 t) within;
}

-- a codec of values that are spelled and allowed alike
pub like_codec : {X : Type 0} {field : Field X} {spelled : X → List ℕ} {Allowed : ℕ → X → Type 0} (spelled2 : X → List ℕ) (Allowed2 : ℕ → X → Type 0)
    → IsCodec field spelled Allowed
    → ((at : ℕ) (x : X) → Allowed at x → (spelled x ≡ spelled2 x) × Allowed2 at x)
    → ((at : ℕ) (x : X) → Allowed2 at x → (spelled x ≡ spelled2 x) × Allowed at x) → IsCodec field spelled2 Allowed2
like_codec spelled2 Allowed2 codec to from = record {
  takes = λ rest x next fits e.
      let t = codec.takes rest x next fits e in
      let a = to rest.at x t.3.1 in
      (t.0, t.1, t.2, (t.3.0 ∙ a.0, a.1));
  again = λ rest x next ok t. let a = from rest.at x ok in codec.again rest x next a.1 (subst (λ text. Takes rest text next) (sym a.0) t);
}

-- ---- bytes and numbers

pub bytes_codec : (n : ℕ) → IsCodec (spelled_bytes n) (λ text. text) (λ at text. length text ≡ n)
bytes_codec n = record {
  takes = λ rest x next fits e.
      let g = guard_ok (leb n (length rest.bytes)) rest.at (take n rest.bytes, rest_after n rest) (x, next) e in
      let long : n ≤ length rest.bytes = leb-true _ _ g.0 in
      let len : length (take n rest.bytes) ≡ n = omega (arith, length-take n rest.bytes) in
      subst (λ (r : List ℕ × Rest). (text : List ℕ) × Takes rest text r.1 × AreBytes r.1.bytes × ((text ≡ r.0) × (length r.0 ≡ n))) g.1 (
        take n rest.bytes,
        record { parts = sym (take-append-drop n rest.bytes); place = ap (λ k. rest.at + k) (sym len) },
        bytes-drop n rest.bytes fits,
        (refl, len),
      );
  again = λ rest x next ok t.
      let long : leb n (length rest.bytes) ≡ true = le-leb _ _ (omega (arith, ok, ap length t.parts, length-append x next.bytes)) in
      let front : take n rest.bytes ≡ x = ap (take n) t.parts ∙ take_at x next.bytes n ok in
      let back : drop n rest.bytes ≡ next.bytes = ap (drop n) t.parts ∙ drop_at x next.bytes n ok in
      let place : rest.at + n ≡ next.at = omega (arith, ok, t.place) in
      let after : rest_after n rest ≡ next = λ i. record { at = place i; bytes = back i } in
      rw long (λ i. Ok (front i, after i));
}
  where
    rest_after : ℕ → Rest → Rest
    rest_after n rest = record { at = rest.at + n; bytes = drop n rest.bytes }

pub reads_like : {X : Type 0} (rest : Rest) (field : Field X) (Q R : X → List ℕ → Type 0) → ((x : X) (text : List ℕ) → Q x text → R x text) → Reads rest field Q
    → Reads rest field R
reads_like rest field Q R like reads x next fits e = let t = reads x next fits e in (t.0, t.1, t.2, like x t.0 t.3)
