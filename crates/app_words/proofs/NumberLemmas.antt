-- What a number or a flag that was read says of the text that was found, and what is found of an option that was
-- left out.
use Rattle.std.proofs.Common.{◌≡◌, ◌<◌, ◌^◌, ℕ, Bool, true, false, true≢false, not, List, Some, None, Option, IfSome, IfNone, ap, refl, sym, ◌∙◌}
use Rattle.std.specs.Borrow.{Bor}
use Rattle.std.specs.Cmp.Lexicographic.{same_text}
use Rattle.std.specs.Option.{option_map_or}
use Rattle.std.specs.Str.{bytes_eq}
use Rattle.std.specs.Str.Parse.{IsNumeral, digits_value, without_leading_plus, ParsesUnsigned, ExplainsUnsignedError, HasUnsignedDigitsIfOk, ParsesBool}
use Rattle.std.specs.Prelude.{Result, codes, is_some, option_and_then, option_map, slice_get, unwrap_or}
use Rattle.std.specs.declared.num.ParseIntError.{ParseIntError}
use Rattle.std.proofs.lemmas.Option.{none-some}
use Rattle.clap.proofs.WalkLemmas.{first_value-rows, one_text-rows}
use Rattle.clap.specs.Words.{Row, Text, first_of, first_value, matched_of, one_of, read_as, rows_of}
use Rattle.clap.specs.Matches.{ReadsOne}
use Rattle.clap.specs.declared.parser.matches.Found.{Found}
use Rattle.clap.specs.declared.parser.matches.MatchedArg.{MatchedArg}
use Rattle.app_words.specs.Words.{HasNumber, is_given}

-- how `from_str` reads a number of 64 bits
abbrev pub reads_u64 : List ℕ → Result ℕ ParseIntError → Type 0
reads_u64 bs r = ParsesUnsigned 64 10 bs r × ExplainsUnsignedError 10 bs r × HasUnsignedDigitsIfOk bs r

pub number_some : (id : Text) (rows : List Row) (o : Option Text) (r : Option ℕ) → o ≡ one_of id rows
    → (o ≡ None → r ≡ None) → ((t : List ℕ) → o ≡ Some t → ReadsOne reads_u64 t r)
    → IfSome r (λ n. HasNumber id rows n)
number_some id rows None None e none value = tt
number_some id rows None (Some n) e none value = let bad : Some n ≡ None = none refl in (cc)
number_some id rows (Some t) None e none value = tt
number_some id rows (Some t) (Some n) e none value =
    let g = value t refl in record { text = t; found = sym e; numeral = g.0.0.0; value = g.0.1 }

pub number_none : (id : Text) (rows : List Row) (o : Option Text) (r : Option ℕ) → o ≡ one_of id rows
    → (o ≡ None → r ≡ None) → ((t : List ℕ) → o ≡ Some t → ReadsOne reads_u64 t r)
    → IfNone r ((n : ℕ) → n < 2 ^ 64 → ¬ HasNumber id rows n)
number_none id rows None None e none value = λ n small h. let bad : None ≡ Some h.text = e ∙ h.found in (cc)
number_none id rows o (Some n) e none value = tt
number_none id rows (Some t) None e none value = λ n small h.
    let same : Some t ≡ Some h.text = e ∙ h.found in
    let text : h.text ≡ t = (cc) in
    let g = value t refl in
    let numeral : IsNumeral 10 (without_leading_plus t) = rw (← text) h.numeral in
    let below : digits_value 10 (without_leading_plus t) < 2 ^ 64 = rw (← text, ← h.value) small in
    g.1.0 (numeral, below)

-- ---- flags

text_flag : (E : Type 0) (t : List ℕ) (r : Option Bool) → ReadsOne {T = Bool} {E = E} ParsesBool t r → unwrap_or r false ≡ bytes_eq t (codes "true")
text_flag E t (Some true) h = rw h refl
text_flag E t (Some false) h = rw h refl
text_flag E t None h = go (bytes_eq t (codes "true")) refl
  where
    go : (b : Bool) → b ≡ bytes_eq t (codes "true") → false ≡ b
    go true e = absurd (h.1.0 (same_text t (codes "true") e))
    go false e = refl

pub given_flag : (E : Type 0) (id : Text) (rows : List Row) (o : Option Text) (r : Option Bool) → o ≡ one_of id rows
    → (o ≡ None → r ≡ None) → ((t : List ℕ) → o ≡ Some t → ReadsOne {T = Bool} {E = E} ParsesBool t r)
    → unwrap_or r false ≡ is_given id rows
given_flag E id rows None r e none value =
    ap (λ x. unwrap_or x false) (none refl) ∙ ap (λ x. option_map_or (λ text. bytes_eq text (codes "true")) x false) e
given_flag E id rows (Some t) r e none value =
    text_flag E t r (value t refl) ∙ ap (λ x. option_map_or (λ text. bytes_eq text (codes "true")) x false) e

-- ---- what was left out

none_mapped : {A B C : Type 0} (f : A → B) (g : A → C) (x : Option A) → option_map f x ≡ None → option_map g x ≡ None
none_mapped f g None h = refl
none_mapped f g (Some a) h = absurd (none-some (f a) (sym h))

abbrev as_written : MatchedArg → Option Text
as_written a = option_map (λ s. s.now) (slice_get a.vals.items 0)

abbrev as_read : MatchedArg → Option Text
as_read a = option_map (λ s. read_as a.reading s.now) (slice_get a.vals.items 0)

none_read : (o : Option MatchedArg) → option_and_then as_written o ≡ None → option_and_then as_read o ≡ None
none_read None h = refl
none_read (Some a) h = none_mapped (λ s. s.now) (λ s. read_as a.reading s.now) (slice_get a.vals.items 0) h

none_written : (o : Option MatchedArg) → option_and_then as_read o ≡ None → option_and_then as_written o ≡ None
none_written None h = refl
none_written (Some a) h = none_mapped (λ s. read_as a.reading s.now) (λ s. s.now) (slice_get a.vals.items 0) h

pub left_out : (f : Found) (id : Text) (r : Option (Bor Text)) (b : Bool) → option_map (λ s. s.now) r ≡ first_value f id → is_some r ≡ not b
    → b ≡ true → one_of id (rows_of f) ≡ None
left_out f id None b found is e = sym (one_text-rows f id) ∙ none_read (matched_of f id) (sym found)
left_out f id (Some s) b found is e = absurd (true≢false (is ∙ ap not e))

pub not_left_out : (f : Found) (id : Text) (r : Option (Bor Text)) (b : Bool) → option_map (λ s. s.now) r ≡ first_value f id → is_some r ≡ not b
    → b ≡ false → one_of id (rows_of f) ≡ None → ⊥
not_left_out f id None b found is e none = absurd (true≢false (sym (is ∙ ap not e)))
not_left_out f id (Some s) b found is e none =
    none-some s.now (sym (found ∙ none_written (matched_of f id) (one_text-rows f id ∙ none)))

-- ---- texts

pub text_of : (f : Found) (id : Text) (r : Option (Bor Text)) → option_map (λ s. s.now) r ≡ first_value f id
    → option_map (λ s. s.now) r ≡ first_of id (rows_of f)
text_of f id r found = found ∙ first_value-rows f id

pub some_text : (r : Option (Bor Text)) (o : Option Text) → option_map (λ s. s.now) r ≡ o → is_some r ≡ is_some o
some_text None o e = ap (λ x. is_some x) e
some_text (Some s) o e = ap (λ x. is_some x) e
