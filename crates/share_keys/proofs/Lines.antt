-- What is read of a line is the key of which it is the line.
use Rattle.std.proofs.Common.{◌≡◌, ℕ, ◌+◌, ◌-◌, ◌*◌, ◌/◌, ◌%◌, ◌<◌, ◌≤◌, Bool, true, false, nat_le, nat_lt, List, [], ◌∷◌, ◌++◌, Option, Some, None, Result, Ok, Err, refl, sym, ap, ◌∙◌, arith, if◌then◌else◌}
use Rattle.std.specs.Prelude.{◌==◌, ◌&&◌}
use Rattle.std.proofs.lemmas.Bool.{and_parts, leb-true, ltb-true, eqb-true}
use Rattle.std.proofs.lemmas.Grind.{common_steps}
use Rattle.hex.specs.Hex.{decode_sized}
use Rattle.hex.specs.declared.error.FromHexError.{FromHexError}
use Rattle.byte_codec.proofs.Laws.{some_is}
use Rattle.share_keys.specs.declared.keys.ViewerKey.{ViewerKey}
use Rattle.share_keys.specs.Keys.{written, IsLineOf, one_digit, within, two_digits, keyed, numbered, after_two, after_one, line_key}

-- ---- a line is read

one-digit : (who : ℕ) → who < 10 → one_digit (48 + who) ≡ Some who
one-digit who lt =
    let low : nat_le 48 (48 + who) ≡ true = grind (arith, common_steps) in
    let high : nat_le (48 + who) 57 ≡ true = grind (arith, common_steps) in
    let back : (48 + who) - 48 ≡ who = omega arith in
    rw (low, high, back) refl

in-range : (who : ℕ) → 10 ≤ who → who < 64 → within who ≡ Some who
in-range who ge lt =
    let low : nat_le 10 who ≡ true = grind (arith, common_steps) in
    let high : nat_lt who 64 ≡ true = grind (arith, common_steps) in
    rw (low, high) refl

two-digits : (who : ℕ) → 10 ≤ who → who < 64 → two_digits (one_digit (48 + who / 10)) (one_digit (48 + who % 10)) ≡ Some who
two-digits who ge lt =
    let ten : one_digit (48 + who / 10) ≡ Some (who / 10) = one-digit (who / 10) (omega arith) in
    let one : one_digit (48 + who % 10) ≡ Some (who % 10) = one-digit (who % 10) (omega arith) in
    let whole : who / 10 * 10 + who % 10 ≡ who = omega arith in
    rw (ten, one, whole) (in-range who ge lt)

module _ (key : ViewerKey) (digits : List ℕ) (decoded : decode_sized digits 32 ≡ Ok key.key.bytes) where
  with-number : (who : Option ℕ) → who ≡ Some key.who → numbered who digits ≡ Some key
  with-number who is = rw (is, decoded) refl

  short : key.who < 10 → line_key ((48 + key.who) ∷ 32 ∷ digits) ≡ Some key
  unfolding line_key after_one
  short lt = with-number (one_digit (48 + key.who)) (one-digit key.who lt)

  long : 10 ≤ key.who → key.who < 64 → line_key ((48 + key.who / 10) ∷ (48 + key.who % 10) ∷ 32 ∷ digits) ≡ Some key
  unfolding line_key after_one after_two
  long ge lt =
      let apart : ((48 + key.who % 10) == 32) ≡ false = grind (arith, common_steps) in
      rw apart (with-number (two_digits (one_digit (48 + key.who / 10)) (one_digit (48 + key.who % 10))) (two-digits key.who ge lt))

  by-size : key.who < 64 → (b : Bool) → nat_lt key.who 10 ≡ b → line_key (written key.who ++ 32 ∷ digits) ≡ Some key
  by-size small true is = rw is (short (grind (arith, common_steps)))
  by-size small false is = rw is (long (grind (arith, common_steps)) small)

pub only : (key : ViewerKey) (line : List ℕ) → IsLineOf key line → line_key line ≡ Some key
only key line (digits, text, decoded, small) =
    ap line_key text ∙ by-size key digits decoded small (nat_lt key.who 10) refl

-- ---- what is read has that line

if_some : {A : Type 0} (b : Bool) (x : Option A) (y : A) → (if b then x else None) ≡ Some y → (b ≡ true) × (x ≡ Some y)
if_some true x y e = (refl, e)
if_some false x y e = absurd cc

digit-found : (byte who : ℕ) → one_digit byte ≡ Some who → (who < 10) × (byte ≡ 48 + who)
digit-found byte who e =
    let parts = if_some (nat_le 48 byte && nat_le byte 57) (Some (byte - 48)) who e in
    let both = and_parts (nat_le 48 byte) (nat_le byte 57) parts.0 in
    let low : 48 ≤ byte = leb-true 48 byte both.0 in
    let high : byte ≤ 57 = leb-true byte 57 both.1 in
    let is : byte - 48 ≡ who = some_is (byte - 48) who parts.1 in
    (omega (arith, low, high, is), omega (arith, low, high, is))

within-found : (n who : ℕ) → within n ≡ Some who → (n ≡ who) × (10 ≤ who) × (who < 64)
within-found n who e =
    let parts = if_some (nat_le 10 n && nat_lt n 64) (Some n) who e in
    let both = and_parts (nat_le 10 n) (nat_lt n 64) parts.0 in
    let low : 10 ≤ n = leb-true 10 n both.0 in
    let high : n < 64 = ltb-true n 64 both.1 in
    let is : n ≡ who = some_is n who parts.1 in
    (is, omega (arith, low, is), omega (arith, high, is))

two-found : (ten one who : ℕ) → two_digits (one_digit ten) (one_digit one) ≡ Some who → (written who ≡ ten ∷ one ∷ []) × (who < 64)
two-found ten one who e = by-digits (one_digit ten) (one_digit one) refl refl e
  where
    by-digits : (t o : Option ℕ) → one_digit ten ≡ t → one_digit one ≡ o → two_digits t o ≡ Some who → (written who ≡ ten ∷ one ∷ []) × (who < 64)
    by-digits None o ht ho e = absurd cc
    by-digits (Some t) None ht ho e = absurd cc
    by-digits (Some t) (Some o) ht ho e =
        let high = digit-found ten t ht in
        let low = digit-found one o ho in
        let range = within-found (t * 10 + o) who e in
        let tall : 10 ≤ who = range.1 in
        let not-short : nat_lt who 10 ≡ false = grind (arith, common_steps) in
        let tens : 48 + who / 10 ≡ ten = omega (arith, high.1, low.0, range.0) in
        let ones : 48 + who % 10 ≡ one = omega (arith, low.1, low.0, range.0) in
        (rw (not-short, tens, ones) refl, range.2)

keyed-found : (who : ℕ) (read : Result (List ℕ) FromHexError) (key : ViewerKey) → keyed who read ≡ Some key → (who ≡ key.who) × (read ≡ Ok key.key.bytes)
keyed-found who (Err fault) key e = absurd cc
keyed-found who (Ok bytes) key e =
    let made : ViewerKey = record { who = who; key = record { bytes = bytes } } in
    let is : made ≡ key = some_is made key e in
    (ap (λ (k : ViewerKey). k.who) is, ap (λ (k : ViewerKey). Ok k.key.bytes) is)

numbered-found : (who : Option ℕ) (digits : List ℕ) (key : ViewerKey) → numbered who digits ≡ Some key → (who ≡ Some key.who) × (decode_sized digits 32 ≡ Ok key.key.bytes)
numbered-found None digits key e = absurd cc
numbered-found (Some who) digits key e =
    let found = keyed-found who (decode_sized digits 32) key e in
    (ap Some found.0, found.1)

after_two-found : (ten one : ℕ) (rest : List ℕ) (key : ViewerKey) → after_two (two_digits (one_digit ten) (one_digit one)) rest ≡ Some key → IsLineOf key (ten ∷ one ∷ rest)
unfolding after_two
after_two-found ten one [] key e = absurd cc
after_two-found ten one (byte ∷ digits) key e =
    let parts = if_some (byte == 32) (numbered (two_digits (one_digit ten) (one_digit one)) digits) key e in
    let space : byte ≡ 32 = eqb-true byte 32 parts.0 in
    let found = numbered-found (two_digits (one_digit ten) (one_digit one)) digits key parts.1 in
    let number = two-found ten one key.who found.0 in
    (digits, sym (ap (λ xs. xs ++ 32 ∷ digits) number.0 ∙ ap (λ b. ten ∷ one ∷ b ∷ digits) (sym space)), found.1, number.1)

after_one-found : (one : ℕ) (rest : List ℕ) (key : ViewerKey) → after_one one rest ≡ Some key → IsLineOf key (one ∷ rest)
unfolding after_one
after_one-found one [] key e = absurd cc
after_one-found one (byte ∷ rest) key e = by-space (byte == 32) refl e
  where
    by-space : (b : Bool) → (byte == 32) ≡ b → (if b then numbered (one_digit one) rest else after_two (two_digits (one_digit one) (one_digit byte)) rest) ≡ Some key → IsLineOf key (one ∷ byte ∷ rest)
    by-space false is e = after_two-found one byte rest key e
    by-space true is e =
        let space : byte ≡ 32 = eqb-true byte 32 is in
        let found = numbered-found (one_digit one) rest key e in
        let number = digit-found one key.who found.0 in
        let is-short : nat_lt key.who 10 ≡ true = grind (arith, common_steps) in
        let text : written key.who ++ 32 ∷ rest ≡ one ∷ byte ∷ rest = rw (is-short, number.1, space) refl in
        (rest, sym text, found.1, omega (arith, number.0))

pub found : (key : ViewerKey) (line : List ℕ) → line_key line ≡ Some key → IsLineOf key line
unfolding line_key
found key [] e = absurd cc
found key (one ∷ rest) e = after_one-found one rest key e
