-- The compact text of a value has no line feed.
use Rattle.std.proofs.Common.{◌≡◌, ◌≢◌, ℕ, zero, suc, ◌+◌, ◌/◌, ◌%◌, pos, negsuc, Bool, true, false, cond, ◌==◌, ◌||◌, nat_lt, List, [], ◌∷◌, ◌++◌}
use Rattle.std.proofs.Common.{refl, sym, subst, arith, inl, inr}
use Rattle.std.proofs.lemmas.Bool.{cases_Bool}
use Rattle.std.proofs.lemmas.Bool.Decides.{nat_tests}
use Rattle.std.specs.Char.{digit_char}
use Rattle.std.specs.Fmt.{decimal, digits, digits_onto, digit_glyph}
use Rattle.json.specs.Print.{escape_letter, escape_byte, escape, quoted}
use Rattle.serde_json.specs.Data.{Num, unsigned, negative, float, Data, null, boolean, number, string, array, object, Items, no_items, item, Members}
use Rattle.serde_json.specs.Data.{no_members, member}
use Rattle.serde_json.specs.Written.{number_text, comma_if, compact_text, items_text, members_text}
use Rattle.reply_json.specs.OneLine.{IsOneLine}

other : (b : ℕ) → (b == 10) ≡ false → b ≢ 10
other b h e = grind (arith, nat_tests)

pick : (b : Bool) (m n : ℕ) → m ≢ 10 → n ≢ 10 → cond b m n ≢ 10
pick true m n hm hn = hm
pick false m n hm hn = hn

choose : (b : Bool) (xs ys : List ℕ) → IsOneLine xs → IsOneLine ys → IsOneLine (cond b xs ys)
choose true xs ys hx hy = hx
choose false xs ys hx hy = hy

join : (xs ys : List ℕ) → IsOneLine xs → IsOneLine ys → IsOneLine (xs ++ ys)
join [] ys hx hy = hy
join (x ∷ xs) ys hx hy = (hx.0, join xs ys hx.1 hy)

-- ---- digits

from_48 : (d : ℕ) → 48 + d ≢ 10
from_48 d e = omega (arith, e)

from_87 : (d : ℕ) → 87 + d ≢ 10
from_87 d e = omega (arith, e)

glyph : (d : ℕ) → digit_glyph false d ≢ 10
glyph d = pick (nat_lt d 10) (48 + d) (87 + d) (from_48 d) (from_87 d)

digits_free : (k n : ℕ) (acc : List ℕ) → IsOneLine acc → IsOneLine (digits_onto k 10 false n acc)
digits_free zero n acc h = h
digits_free (suc k) n acc h =
    let more : IsOneLine (digit_glyph false (n % 10) ∷ acc) = (glyph (n % 10), h) in
    choose (n / 10 == 0) _ _ more (digits_free k (n / 10) (digit_glyph false (n % 10) ∷ acc) more)

decimal_free : (n : ℕ) → IsOneLine (decimal n)
unfolding digits
decimal_free n = digits_free 64 n [] tt

number_free : (n : Num) → IsOneLine (number_text n)
number_free (unsigned n) = decimal_free n
number_free (negative (pos n)) = decimal_free n
number_free (negative (negsuc n)) = (other 45 refl, decimal_free (suc n))
number_free (float x) = tt

-- ---- texts

char : (d : ℕ) → digit_char d ≢ 10
char d = pick (nat_lt d 10) (48 + d) (87 + d) (from_48 d) (from_87 d)

letter : (x : ℕ) → x ≢ 10 → escape_letter x ≢ 10
letter x h =
    pick ((x == 34) || (x == 92)) x _ h
    (pick (x == 8) 98 _ (other 98 refl)
    (pick (x == 12) 102 _ (other 102 refl)
    (pick (x == 10) 110 _ (other 110 refl)
    (pick (x == 13) 114 _ (other 114 refl)
    (pick (x == 9) 116 0 (other 116 refl) (other 0 refl))))))

byte_other : (x : ℕ) → x ≢ 10 → IsOneLine (escape_byte x)
unfolding escape_byte
byte_other x h =
    choose (nat_lt 0 (escape_letter x)) _ _ (other 92 refl, (letter x h, tt))
    (choose (nat_lt x 32) _ _ (other 92 refl, (other 117 refl, (other 48 refl, (other 48 refl, (char (x / 16), (char (x % 16), tt)))))) (h, tt))

byte_ten : IsOneLine (escape_byte 10)
unfolding escape_byte
byte_ten = (other 92 refl, (other 110 refl, tt))

is_ten : (x : ℕ) → (x == 10) ≡ true → x ≡ 10
is_ten x h = grind (arith, nat_tests)

byte_free : (x : ℕ) → IsOneLine (escape_byte x)
byte_free x = elim (cases_Bool (x == 10)) [
  | inl k ↦ subst (λ y. IsOneLine (escape_byte y)) (sym (is_ten x k)) byte_ten
  | inr k ↦ byte_other x (other x k)
]

escape_free : (s : List ℕ) → IsOneLine (escape s)
escape_free [] = tt
escape_free (x ∷ s) = join (escape_byte x) (escape s) (byte_free x) (escape_free s)

quoted_free : (s : List ℕ) → IsOneLine (quoted s)
quoted_free s = (other 34 refl, join (escape s) (34 ∷ []) (escape_free s) (other 34 refl, tt))

-- ---- values

comma_free : (later : Bool) → IsOneLine (comma_if later)
comma_free true = (other 44 refl, tt)
comma_free false = tt

mutual
  pub text_free : (d : Data) → IsOneLine (compact_text d)
  text_free null = (other 110 refl, (other 117 refl, (other 108 refl, (other 108 refl, tt))))
  text_free (boolean true) = (other 116 refl, (other 114 refl, (other 117 refl, (other 101 refl, tt))))
  text_free (boolean false) = (other 102 refl, (other 97 refl, (other 108 refl, (other 115 refl, (other 101 refl, tt)))))
  text_free (number n) = number_free n
  text_free (string s) = quoted_free s
  text_free (array ds) = (other 91 refl, items_free false ds)
  text_free (object ms) = (other 123 refl, members_free false ms)

  items_free : (later : Bool) (ds : Items) → IsOneLine (items_text later ds)
  items_free later no_items = (other 93 refl, tt)
  items_free later (item d ds) = join (comma_if later) _ (comma_free later) (join (compact_text d) _ (text_free d) (items_free true ds))

  members_free : (later : Bool) (ms : Members) → IsOneLine (members_text later ms)
  members_free later no_members = (other 125 refl, tt)
  members_free later (member k d ms) =
      join (comma_if later) _ (comma_free later)
      (join (quoted k) _ (quoted_free k) (other 58 refl, join (compact_text d) _ (text_free d) (members_free true ms)))
