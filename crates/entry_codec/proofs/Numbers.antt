-- Numbers, tags, ids, kinds and origins are read as they are spelled.
use Rattle.std.proofs.Common.{◌≡◌, ◌≢◌, ℕ, zero, suc, ◌^◌, ◌<◌, ◌≤◌, true, List, [], ◌∷◌, ◌++◌, length, Ok, refl, sym, ap, subst, ◌∙◌, append-nil}
use Rattle.std.proofs.Common.{arith, inl, inr, ◌⊎◌, ◌==◌, ◌||◌, nat_le, nat_lt}
use Rattle.std.specs.Int.{Width, w8, w16, w32, w64, byte_len, from_be_bytes, to_be_bytes}
use Rattle.std.proofs.lemmas.Bool.{cases_Bool, eqb-true, le-leb, leb-true, ltb-true, lt-ltb, true≢false}
use Rattle.std.proofs.lemmas.Nat.{be_bytes_2, be_bytes_4, be_bytes_8, from_be_bytes-to_be_bytes_2, from_be_bytes-to_be_bytes_4, from_be_bytes-to_be_bytes_8}
use Rattle.tao_base.specs.Ids.{serial_of}
use Rattle.tao_base.specs.Spelling.{IsOriginOf, kind_byte, origin_bytes}
use Rattle.tao_base.specs.declared.entry.Kind.{Kind}
use Rattle.tao_base.specs.declared.entry.Kind.TheVariants.{ObjAdd, ObjUpdate, ObjDelete, AssocAdd, AssocDelete, AssocChangeType, Merge as Merged}
use Rattle.tao_base.specs.declared.entry.Origin.{Origin}
use Rattle.tao_base.specs.declared.entry.Origin.TheVariants.{Client, Merge}
use Rattle.entry_codec.specs.Fields.{AreBytes, Rest, Field, ◌>>=◌, give, spelled_number}
use Rattle.entry_codec.specs.Reading.{lies_between, spelled_client, spelled_count, spelled_id, spelled_kind, kind_of, spelled_merge, spelled_origin}
use Rattle.entry_codec.specs.Reading.{spelled_positive, spelled_tag}
use Rattle.entry_codec.specs.Values.{IsId, OriginFits}
use Rattle.entry_codec.proofs.Codecs.{IsCodec, Reads, Takes, bytes_codec, give_again, give_reads, like_codec, only_codec, then_again, then_reads}

-- the numbers of a width, below the limit
pub record IsWide (w : Width) (limit : ℕ) : Type 0 where
  pub len : (n : ℕ) → length (to_be_bytes w n) ≡ byte_len w
  pub back : (bytes : List ℕ) → length bytes ≡ byte_len w → AreBytes bytes → to_be_bytes w (from_be_bytes w bytes) ≡ bytes
  pub again : (n : ℕ) → n < limit → from_be_bytes w (to_be_bytes w n) ≡ n
  pub below : (bytes : List ℕ) → AreBytes bytes → from_be_bytes w bytes < limit

pub wide16 : IsWide w16 (2 ^ 16)
wide16 = record {
  len = λ n. refl;
  back = λ bytes len fits. be_bytes_2 bytes _ len fits refl;
  again = λ n lt. from_be_bytes-to_be_bytes_2 n lt;
  below = λ bytes fits. omega (arith, fits 0, fits 1);
}

pub wide32 : IsWide w32 (2 ^ 32)
wide32 = record {
  len = λ n. refl;
  back = λ bytes len fits. be_bytes_4 bytes _ len fits refl;
  again = λ n lt. from_be_bytes-to_be_bytes_4 n lt;
  below = λ bytes fits. omega (arith, fits 0, fits 1, fits 2, fits 3);
}

pub wide64 : IsWide w64 (2 ^ 64)
wide64 = record {
  len = λ n. refl;
  back = λ bytes len fits. be_bytes_8 bytes _ len fits refl;
  again = λ n lt. from_be_bytes-to_be_bytes_8 n lt;
  below = λ bytes fits. omega (arith, fits 0, fits 1, fits 2, fits 3, fits 4, fits 5, fits 6, fits 7);
}

pub number_codec : (w : Width) (limit : ℕ) → IsWide w limit → IsCodec (spelled_number w) (to_be_bytes w) (λ at n. n < limit)
number_codec w limit wide = record {
  takes = λ rest. then_reads (bytes_codec (byte_len w)) rest (λ bytes. give (from_be_bytes w bytes)) (λ n text. (text ≡ to_be_bytes w n) × (n < limit))
      (λ bytes mid place fits len. give_reads mid (from_be_bytes w bytes) (λ n text. (bytes ++ text ≡ to_be_bytes w n) × (n < limit))
      (append-nil bytes ∙ sym (wide.back bytes len fits), wide.below bytes fits));
  again = λ rest n next lt t. then_again (bytes_codec (byte_len w)) rest (λ bytes. give (from_be_bytes w bytes)) (to_be_bytes w n) [] n next (wide.len n)
      (subst (λ text. Takes rest text next) (sym (append-nil (to_be_bytes w n))) t)
      (λ mid place t. rw (wide.again n lt) (give_again mid n next t));
}

pub number16 : IsCodec (spelled_number w16) (to_be_bytes w16) (λ at n. n < 2 ^ 16)
number16 = number_codec w16 (2 ^ 16) wide16

pub number32 : IsCodec (spelled_number w32) (to_be_bytes w32) (λ at n. n < 2 ^ 32)
number32 = number_codec w32 (2 ^ 32) wide32

pub number64 : IsCodec (spelled_number w64) (to_be_bytes w64) (λ at n. n < 2 ^ 64)
number64 = number_codec w64 (2 ^ 64) wide64

-- ---- a byte, and tags

one_byte : (bytes : List ℕ) → length bytes ≡ 1 → bytes ≡ from_be_bytes w8 bytes ∷ []
one_byte [] len = absurd (omega (arith, len))
one_byte (b ∷ []) len = ap (λ n. n ∷ []) (omega arith)
one_byte (b ∷ c ∷ bytes) len = absurd (omega (arith, len))

pub byte_codec : IsCodec (spelled_number w8) (λ n. n ∷ []) (λ at n. n < 256)
byte_codec = record {
  takes = λ rest. then_reads (bytes_codec 1) rest _ _
      (λ bytes mid place fits len. give_reads mid (from_be_bytes w8 bytes) _ (append-nil bytes ∙ one_byte bytes len, omega (arith, fits 0)));
  again = λ rest n next lt t. then_again (bytes_codec 1) rest _ (n ∷ []) [] n next refl t
      (λ mid place t. let same : from_be_bytes w8 (n ∷ []) ≡ n = omega arith in rw same (give_again mid n next t));
}

tag_is : (a b n : ℕ) → (n == a || n == b) ≡ true → (n ≡ a) ⊎ (n ≡ b)
tag_is a b n h = elim (cases_Bool (n == a)) [ inl e ↦ inl (eqb-true n a e) | inr e ↦ inr (eqb-true n b (rw e at h)) ]

pub tag_reads : {Y : Type 0} (a b : ℕ) (rest : Rest) (g : ℕ → Field Y) (Q : Y → List ℕ → Type 0)
    → ((mid : Rest) → Reads mid (g a) (λ y text. Q y (a ∷ text))) → ((mid : Rest) → Reads mid (g b) (λ y text. Q y (b ∷ text)))
    → Reads rest (spelled_tag a b >>= g) Q
tag_reads a b rest g Q first second = then_reads (only_codec (λ n. n == a || n == b) byte_codec) rest g Q (λ n mid place fits ok. elim (tag_is a b n ok.1) [
  | inl e ↦ subst (λ n. Reads mid (g n) (λ y text. Q y (n ∷ text))) (sym e) (first mid)
  | inr e ↦ subst (λ n. Reads mid (g n) (λ y text. Q y (n ∷ text))) (sym e) (second mid)
])

pub tag_again : {Y : Type 0} (a b : ℕ) (rest : Rest) (g : ℕ → Field Y) (n : ℕ) (text : List ℕ) (y : Y) (next : Rest) → n < 256 → (n == a || n == b) ≡ true
    → Takes rest (n ∷ text) next
    → ((mid : Rest) → Takes mid text next → g n mid ≡ Ok (y, next)) → (spelled_tag a b >>= g) rest ≡ Ok (y, next)
tag_again a b rest g n text y next lt is t more = then_again (only_codec (λ n. n == a || n == b) byte_codec) rest g n text y next (lt, is) t
    (λ mid place t. more mid t)

-- ---- the single fields

pub positive_codec : (w : Width) (limit : ℕ) → IsWide w limit → IsCodec (spelled_positive w) (to_be_bytes w) (λ at n. (0 < n) × (n < limit))
positive_codec w limit wide = like_codec (to_be_bytes w) (λ at n. (0 < n) × (n < limit)) (only_codec (nat_le 1) (number_codec w limit wide))
    (λ at n ok. (refl, (leb-true 1 n ok.1, ok.0))) (λ at n ok. (refl, (ok.1, le-leb 1 n ok.0)))

pub id_codec : IsCodec spelled_id (to_be_bytes w64) (λ at id. IsId id)
id_codec = like_codec (to_be_bytes w64) (λ at id. IsId id) (only_codec (λ id. nat_le 1 (serial_of id)) number64)
    (λ at id ok. (refl, (ok.0, leb-true 1 (serial_of id) ok.1))) (λ at id ok. (refl, (ok.0, le-leb 1 (serial_of id) ok.1)))

pub between_is : (low high n : ℕ) → lies_between low high n ≡ true → (low ≤ n) × (n ≤ high)
between_is low high n h = elim (cases_Bool (nat_le low n))
    [ inl e ↦ (leb-true low n e, leb-true n high (rw e at h)) | inr e ↦ absurd (true≢false (sym (rw e at h))) ]

pub is_between : (low high n : ℕ) → low ≤ n → n ≤ high → lies_between low high n ≡ true
is_between low high n above below = rw (le-leb low n above, le-leb n high below) refl

pub count_codec : IsCodec spelled_count (λ n. n ∷ []) (λ at n. (1 ≤ n) × (n ≤ 4))
count_codec = like_codec (λ n. n ∷ []) (λ at n. (1 ≤ n) × (n ≤ 4)) (only_codec (lies_between 1 4) byte_codec)
    (λ at n ok. (refl, between_is 1 4 n ok.1)) (λ at n ok. (refl, (omega (arith, ok.1), is_between 1 4 n ok.0 ok.1)))

-- ---- kinds and origins

kind_byte-kind_of : (n : ℕ) → lies_between 1 7 n ≡ true → kind_byte (kind_of n) ≡ n
kind_byte-kind_of zero h = absurd (true≢false (sym h))
kind_byte-kind_of (suc zero) h = refl
kind_byte-kind_of (suc (suc zero)) h = refl
kind_byte-kind_of (suc (suc (suc zero))) h = refl
kind_byte-kind_of (suc (suc (suc (suc zero)))) h = refl
kind_byte-kind_of (suc (suc (suc (suc (suc zero))))) h = refl
kind_byte-kind_of (suc (suc (suc (suc (suc (suc zero)))))) h = refl
kind_byte-kind_of (suc (suc (suc (suc (suc (suc (suc zero))))))) h = refl
kind_byte-kind_of (suc (suc (suc (suc (suc (suc (suc (suc n)))))))) h =
    absurd (omega (arith, between_is 1 7 (suc (suc (suc (suc (suc (suc (suc (suc n)))))))) h))

kind_of-kind_byte : (kind : Kind) → kind_of (kind_byte kind) ≡ kind
kind_of-kind_byte ObjAdd = refl
kind_of-kind_byte ObjUpdate = refl
kind_of-kind_byte ObjDelete = refl
kind_of-kind_byte AssocAdd = refl
kind_of-kind_byte AssocDelete = refl
kind_of-kind_byte AssocChangeType = refl
kind_of-kind_byte Merged = refl

kind_byte_ok : (kind : Kind) → (kind_byte kind < 256) × (lies_between 1 7 (kind_byte kind) ≡ true)
kind_byte_ok ObjAdd = (omega arith, refl)
kind_byte_ok ObjUpdate = (omega arith, refl)
kind_byte_ok ObjDelete = (omega arith, refl)
kind_byte_ok AssocAdd = (omega arith, refl)
kind_byte_ok AssocDelete = (omega arith, refl)
kind_byte_ok AssocChangeType = (omega arith, refl)
kind_byte_ok Merged = (omega arith, refl)

pub kind_codec : IsCodec spelled_kind (λ kind. kind_byte kind ∷ []) (λ at kind. Unit {0})
kind_codec = record {
  takes = λ rest. then_reads (only_codec (lies_between 1 7) byte_codec) rest _ _
      (λ n mid place fits ok. give_reads mid (kind_of n) _ (ap (λ n. n ∷ []) (sym (kind_byte-kind_of n ok.1)), tt));
  again = λ rest kind next ok t. then_again (only_codec (lies_between 1 7) byte_codec) rest _ (kind_byte kind) [] kind next (kind_byte_ok kind) t
      (λ mid place t. rw (kind_of-kind_byte kind) (give_again mid kind next t));
}

-- the origin goes with the kind
abbrev pub OriginAllowed : Kind → Origin → Type 0
OriginAllowed kind origin = IsOriginOf kind origin × OriginFits origin

client_codec : (kind : Kind) → kind ≢ Merged → IsCodec spelled_client origin_bytes (λ at origin. OriginAllowed kind origin)
client_codec kind other = record {
  takes = λ rest. then_reads (positive_codec w32 (2 ^ 32) wide32) rest _ _ (λ session mid place fits ok.
      then_reads (positive_codec w64 (2 ^ 64) wide64) mid _ _
      (λ seq last place fits ok2. give_reads last (Client session seq) _ (refl, ((other, ok.0, ok2.0), (ok.1, ok2.1)))));
  again = λ rest origin next ok t. client_again rest origin next ok t;
}
  where
    client_again : (rest : Rest) (origin : Origin) (next : Rest) → OriginAllowed kind origin → Takes rest (origin_bytes origin) next
        → spelled_client rest ≡ Ok (origin, next)
    client_again rest (Client session seq) next ok t = then_again (positive_codec w32 (2 ^ 32) wide32) rest _ session (to_be_bytes w64 seq)
        (Client session seq) next (ok.0.1, ok.1.0) t (λ mid place t.
        then_again (positive_codec w64 (2 ^ 64) wide64) mid _ seq [] (Client session seq) next (ok.0.2, ok.1.1) t
        (λ last place t. give_again last (Client session seq) next t))
    client_again rest (Merge shard position) next ok t = absurd (other ok.0.0)

merge_codec : IsCodec spelled_merge origin_bytes (λ at origin. OriginAllowed Merged origin)
merge_codec = record {
  takes = λ rest. then_reads (only_codec (λ n. nat_lt n (2 ^ 16)) number32) rest _ _ (λ shard mid place fits ok.
      then_reads (positive_codec w64 (2 ^ 64) wide64) mid _ _
      (λ position last place fits ok2. give_reads last (Merge shard position) _ (refl, ((refl, ok2.0), (ltb-true shard (2 ^ 16) ok.1, ok2.1)))));
  again = λ rest origin next ok t. merge_again rest origin next ok t;
}
  where
    merge_again : (rest : Rest) (origin : Origin) (next : Rest) → OriginAllowed Merged origin → Takes rest (origin_bytes origin) next
        → spelled_merge rest ≡ Ok (origin, next)
    merge_again rest (Client session seq) next ok t = absurd (ok.0.0 refl)
    merge_again rest (Merge shard position) next ok t = then_again (only_codec (λ n. nat_lt n (2 ^ 16)) number32) rest _ shard (to_be_bytes w64 position)
        (Merge shard position) next (omega (arith, ok.1.0), lt-ltb shard (2 ^ 16) ok.1.0) t (λ mid place t.
        then_again (positive_codec w64 (2 ^ 64) wide64) mid _ position [] (Merge shard position) next (ok.0.1, ok.1.1) t
        (λ last place t. give_again last (Merge shard position) next t))

pub origin_codec : (kind : Kind) → IsCodec (spelled_origin kind) origin_bytes (λ at origin. OriginAllowed kind origin)
origin_codec ObjAdd = client_codec ObjAdd (λ e. cc)
origin_codec ObjUpdate = client_codec ObjUpdate (λ e. cc)
origin_codec ObjDelete = client_codec ObjDelete (λ e. cc)
origin_codec AssocAdd = client_codec AssocAdd (λ e. cc)
origin_codec AssocDelete = client_codec AssocDelete (λ e. cc)
origin_codec AssocChangeType = client_codec AssocChangeType (λ e. cc)
origin_codec Merged = merge_codec
