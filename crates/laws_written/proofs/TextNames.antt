-- Names that are free: those of node types and fields, and those that nodes have by their numbers.
use Rattle.std.proofs.Common.{◌≡◌, ◌≢◌, ℕ, zero, suc, ◌+◌, ◌-◌, ◌<◌, ◌^◌, ◌==◌, nat_lt, nat_le, nat_eq, Bool, true, false, not, ◌&&◌, List, [], ◌∷◌, ◌++◌, length, codes, refl, ap, subst, arith, ltb-true, ne_eqb}
use Rattle.std.specs.Prelude.{decimal}
use Rattle.std.specs.List.{AllByRecursion, list_all}
use Rattle.std.specs.Str.{bytes_eq, IsAscii}
use Rattle.std.specs.Str.Parse.{AllDigits}
use Rattle.std.proofs.lemmas.Fmt.{decimal_is_IsNumeral}
use Rattle.std.proofs.lemmas.Str.Parse.{digit_from_value}
use Rattle.std.proofs.lemmas.Slice.Eq.{bytes_eq-Decides}
use Rattle.std.proofs.lemmas.Str.{IsUtf8-from_ascii}
use Rattle.x3d_values.specs.declared.node_type.NodeType.{NodeType}
use Rattle.x3d_values.specs.declared.node_type.NodeType.TheVariants.{Group}
use Rattle.x3d_values.specs.Names.{node_type_name}
use Rattle.x3d_values.specs.Tables.{FieldRowView, rows}
use Rattle.classic_bytes.specs.Bytes.{begins_name, continues_name, is_digit}
use Rattle.classic_round_trip.specs.Spellable.{IsNoneOf, IsFreeName, grammar_words, access_words}
use Rattle.scene_core.specs.Labels.{is_numbered}
use Rattle.laws_written.proofs.Tests.{both, and_true, each_told}

-- ---- a test for free names

pub not_same : (n w : List ℕ) → not (bytes_eq n w) ≡ true → n ≢ w
not_same n w h e = let k : bytes_eq n w ≡ true = (bytes_eq-Decides n w).1 e in cc

pub none_of : (words : List (List ℕ)) (n : List ℕ) → list_all (λ word. not (bytes_eq n word)) words ≡ true → IsNoneOf words n
none_of words n h = each_told (λ word. not (bytes_eq n word)) (λ word. n ≢ word) (λ word k. not_same n word k) words h

ascii : (bytes : List ℕ) → list_all (λ b. nat_lt b 128) bytes ≡ true → IsAscii bytes
ascii [] e i = omega arith
ascii (b ∷ bytes) e zero = ltb-true b 128 (both (nat_lt b 128) (list_all (λ b. nat_lt b 128) bytes) e).0
ascii (b ∷ bytes) e (suc i) = ascii bytes (both (nat_lt b 128) (list_all (λ b. nat_lt b 128) bytes) e).1 i

-- an identifier of ASCII that is none of the words
abbrev pub is_free : List ℕ → Bool
is_free [] = false
is_free (b ∷ bs) =
    begins_name b && (list_all continues_name bs
    && (list_all (λ word. not (bytes_eq (b ∷ bs) word)) grammar_words
    && (list_all (λ word. not (bytes_eq (b ∷ bs) word)) access_words && list_all (λ c. nat_lt c 128) (b ∷ bs))))

pub free_name : (name : List ℕ) → is_free name ≡ true → IsFreeName name
free_name [] h = absurd cc
free_name (b ∷ bs) h =
    let p = both (begins_name b) _ h in
    let q = both (list_all continues_name bs) _ p.1 in
    let r = both (list_all (λ word. not (bytes_eq (b ∷ bs) word)) grammar_words) _ q.1 in
    let s = both (list_all (λ word. not (bytes_eq (b ∷ bs) word)) access_words) _ r.1 in
    record {
      is = (p.0, (q.0, tt));
      no_word = none_of grammar_words (b ∷ bs) r.0;
      no_access = none_of access_words (b ∷ bs) s.0;
      utf8 = IsUtf8-from_ascii (b ∷ bs) (ascii (b ∷ bs) s.1);
    }

-- ---- names of node types and of fields

abbrev pub statement_words : List (List ℕ)
statement_words =
    codes "META" ∷ codes "COMPONENT" ∷ codes "PROFILE" ∷ codes "EXTERNPROTO" ∷ codes "IMPORT" ∷ codes "EXPORT" ∷ codes "UNIT" ∷ []

type_is_free : (t : NodeType) → is_free (node_type_name t) ≡ true
unfolding begins_name continues_name is_digit
type_is_free Group = refl
type_is_free _ = refl

pub type_free : (t : NodeType) → IsFreeName (node_type_name t)
type_free t = free_name (node_type_name t) (type_is_free t)

type_begins : (t : NodeType) → list_all (λ word. not (bytes_eq (node_type_name t) word)) statement_words ≡ true
type_begins Group = refl
type_begins _ = refl

pub no_statement : (t : NodeType) → IsNoneOf statement_words (node_type_name t)
no_statement t = none_of statement_words (node_type_name t) (type_begins t)

-- a name that a field may have in a body
abbrev pub IsFieldName : List ℕ → Type 0
IsFieldName name = IsFreeName name × (name ≢ codes "EXTERNPROTO")

abbrev is_field_name : List ℕ → Bool
is_field_name name = is_free name && not (bytes_eq name (codes "EXTERNPROTO"))

field_name : (e : FieldRowView) → is_field_name e.name ≡ true → IsFieldName e.name
field_name e h =
    let b = both (is_free e.name) (not (bytes_eq e.name (codes "EXTERNPROTO"))) h in
    (free_name e.name b.0, not_same e.name (codes "EXTERNPROTO") b.1)

rows_are_free : (t : NodeType) → list_all (λ (e : FieldRowView). is_field_name e.name) (rows t) ≡ true
unfolding begins_name continues_name is_digit
rows_are_free Group = refl
rows_are_free _ = refl

pub rows_free : (t : NodeType) → AllByRecursion (λ (e : FieldRowView). IsFieldName e.name) (rows t)
rows_free t = each_told (λ (e : FieldRowView). is_field_name e.name) (λ (e : FieldRowView). IsFieldName e.name) field_name (rows t) (rows_are_free t)

-- ---- `N` and a number

module _ (c : ℕ) where
  -- a digit goes on with a name, is ASCII and is no U
  pub record IsGood : Type 0 where
    pub continues : continues_name c ≡ true
    pub small : nat_lt c 128 ≡ true
    pub no_u : nat_eq c 85 ≡ false
    pub digit : (nat_le 48 c && nat_le c 57) ≡ true

good : (d : ℕ) → d < 10 → IsGood (48 + d)
unfolding continues_name
good zero h = record { continues = refl; small = refl; no_u = refl; digit = refl }
good (suc zero) h = record { continues = refl; small = refl; no_u = refl; digit = refl }
good (suc (suc zero)) h = record { continues = refl; small = refl; no_u = refl; digit = refl }
good (suc (suc (suc zero))) h = record { continues = refl; small = refl; no_u = refl; digit = refl }
good (suc (suc (suc (suc zero)))) h = record { continues = refl; small = refl; no_u = refl; digit = refl }
good (suc (suc (suc (suc (suc zero))))) h = record { continues = refl; small = refl; no_u = refl; digit = refl }
good (suc (suc (suc (suc (suc (suc zero)))))) h = record { continues = refl; small = refl; no_u = refl; digit = refl }
good (suc (suc (suc (suc (suc (suc (suc zero))))))) h = record { continues = refl; small = refl; no_u = refl; digit = refl }
good (suc (suc (suc (suc (suc (suc (suc (suc zero)))))))) h = record { continues = refl; small = refl; no_u = refl; digit = refl }
good (suc (suc (suc (suc (suc (suc (suc (suc (suc zero))))))))) h = record { continues = refl; small = refl; no_u = refl; digit = refl }
good (suc (suc (suc (suc (suc (suc (suc (suc (suc (suc d)))))))))) h = absurd (omega (arith, h))

digits_good : (ds : List ℕ) → AllDigits 10 ds → AllByRecursion IsGood ds
digits_good [] h = tt
digits_good (c ∷ cs) h =
    let r = digit_from_value c h.0 in
    let e : 48 + (c - 48) ≡ c = omega (arith, r.0, r.1) in
    (subst IsGood e (good (c - 48) (omega (arith, r.0, r.1))), digits_good cs h.1)

goods_continue : (ds : List ℕ) → AllByRecursion IsGood ds → list_all continues_name ds ≡ true
goods_continue [] h = refl
goods_continue (c ∷ cs) h = and_true _ _ h.0.continues (goods_continue cs h.1)

goods_small : (ds : List ℕ) → AllByRecursion IsGood ds → list_all (λ c. nat_lt c 128) ds ≡ true
goods_small [] h = refl
goods_small (c ∷ cs) h = and_true _ _ h.0.small (goods_small cs h.1)

goods_are_digits : (ds : List ℕ) → AllByRecursion IsGood ds → list_all (λ c. nat_le 48 c && nat_le c 57) ds ≡ true
goods_are_digits [] h = refl
goods_are_digits (c ∷ cs) h = and_true _ _ h.0.digit (goods_are_digits cs h.1)

-- it is not NULL, and begins no other word
n_is_none : (c : ℕ) (cs : List ℕ) → nat_eq c 85 ≡ false → list_all (λ word. not (bytes_eq (78 ∷ (c ∷ cs)) word)) grammar_words ≡ true
n_is_none c cs h = rw h refl

numbered_free : (ds : List ℕ) → 0 < length ds → AllByRecursion IsGood ds → is_free (78 ∷ ds) ≡ true
unfolding begins_name continues_name is_digit
numbered_free [] h g = absurd (omega (arith, h))
numbered_free (c ∷ cs) h g =
    and_true _ _ (goods_continue (c ∷ cs) g)
    (and_true _ _ (n_is_none c cs g.0.no_u) (goods_small (c ∷ cs) g))

pub decimal_good : (n : ℕ) → n < 2 ^ 64 → AllByRecursion IsGood (decimal n)
decimal_good n h = digits_good (decimal n) (decimal_is_IsNumeral n h).0.1

-- the name that a node has by its number
pub number_free : (n : ℕ) → n < 2 ^ 64 → IsFreeName (codes "N" ++ decimal n)
number_free n h = free_name (78 ∷ decimal n) (numbered_free (decimal n) (decimal_is_IsNumeral n h).0.0 (decimal_good n h))

some_digits : (ds : List ℕ) → 0 < length ds → AllByRecursion IsGood ds → is_numbered (78 ∷ ds) ≡ true
some_digits ds h g = and_true _ _ (some_length (length ds) h) (goods_are_digits ds g) where
  some_length : (n : ℕ) → 0 < n → not (n == 0) ≡ true
  some_length n k = ap not (ne_eqb n 0 (λ e. omega (arith, k, e)))

-- that name is `N` and a number
pub number_numbered : (n : ℕ) → n < 2 ^ 64 → is_numbered (codes "N" ++ decimal n) ≡ true
number_numbered n h = some_digits (decimal n) (decimal_is_IsNumeral n h).0.0 (decimal_good n h)
