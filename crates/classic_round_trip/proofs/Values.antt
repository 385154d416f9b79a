-- The texts of values that hold no node are found as those values.
use Rattle.std.proofs.Common.{ℕ, ℤ, List, [], ◌∷◌, ◌++◌, map, Bool, true, false, refl, append_assoc}
use Rattle.std.specs.List.{AllByRecursion, join_with_byte}
use Rattle.x3d_numerals.specs.NumberText.{IsLimited}
use Rattle.x3d_values.specs.ValueText.{truth_text, list_text}
use Rattle.classic_lex.specs.declared.token.TokenKind.TheVariants as kind
use Rattle.classic_lex.specs.Lexed.{Tok}
use Rattle.classic_tree.specs.Writing.{run_text}
use Rattle.classic_text.specs.Terminal.{terminal_of, word}
use Rattle.classic_text.specs.Spells.{Is, NotAhead, IsTruth, AreNumbers, AreUntil, AreListed}
use Rattle.classic_round_trip.specs.Spellable.{AreSome}
use Rattle.classic_round_trip.proofs.Pieces.{Found, Always, Then, retext, join}
use Rattle.classic_round_trip.proofs.Numbers.{found_number}
use Rattle.classic_round_trip.proofs.Words.{IsEnding, ending_space, ending_bracket, spaced, found_open_bracket, found_close_bracket, found_true, found_false}

abbrev pub NoNumeral : List Tok → Type 0
NoNumeral ms = NotAhead (terminal_of kind.Numeral []) ms

-- ---- truth values

pub found_truth : (b : Bool) (rest : List ℕ) → IsEnding rest → Found (truth_text b) rest Always (IsTruth b)
unfolding word
found_truth true rest e = found_true rest e.0
found_truth false rest e = found_false rest e.0

-- ---- runs of numbers

pub found_numbers : (n : ℤ) (ns : List ℤ) (rest : List ℕ) → AllByRecursion IsLimited (n ∷ ns) → IsEnding rest
    → Found (run_text (n ∷ ns)) rest NoNumeral (AreNumbers (n ∷ ns))
found_numbers n [] rest h e =
    let p = found_number n rest h.0 e.1 in
    record { pieces = p.pieces; spelled = p.spelled; cut = p.cut; utf8 = p.utf8; fits = λ line ms q. (ms, p.fits line ms tt, (q, refl)) }
found_numbers n (m ∷ ns) rest h e =
    join (found_number n (32 ∷ run_text (m ∷ ns) ++ rest) h.0 (ending_space (run_text (m ∷ ns) ++ rest)).1) (spaced (found_numbers m ns rest h.1 e))
    (λ ts ms s. tt)

-- ---- lists

module _ {A : Type 0} (text : A → List ℕ) (Item : A → List Tok → List Tok → Type 0) (Fact : A → Type 0)
    (found : (x : A) (rest : List ℕ) → Fact x → IsEnding rest → Found (text x) rest Always (Item x)) where
  found_items : (x : A) (xs : List A) (rest : List ℕ) → AllByRecursion Fact (x ∷ xs)
      → Found (join_with_byte 32 (map text (x ∷ xs)) ++ 93 ∷ []) rest Always (AreUntil (terminal_of kind.CloseBracket []) Item (x ∷ xs))
  found_items x [] rest h = join (found x (93 ∷ rest) h.0 (ending_bracket rest)) (found_close_bracket rest) (λ ts ms s. tt)
  found_items x (y ∷ ys) rest h =
      retext _ (append_assoc (text x) (32 ∷ join_with_byte 32 (map text (y ∷ ys))) (93 ∷ []))
      (join (found x (32 ∷ (join_with_byte 32 (map text (y ∷ ys)) ++ 93 ∷ []) ++ rest) h.0
      (ending_space ((join_with_byte 32 (map text (y ∷ ys)) ++ 93 ∷ []) ++ rest))) (spaced (found_items y ys rest h.1)) (λ ts ms s. tt))

  pub found_list : (xs : List A) (rest : List ℕ) → AreSome Fact xs
      → Found (list_text text xs) rest Always (Then (Is (terminal_of kind.OpenBracket [])) (AreListed Item xs))
  unfolding list_text
  found_list [] rest h = absurd h
  found_list (x ∷ xs) rest h = join (found_open_bracket _) (found_items x xs rest h) (λ ts ms s. tt)
