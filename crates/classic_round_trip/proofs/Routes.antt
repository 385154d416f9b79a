-- ROUTEs, and blocks of parts on lines of their own, are found as what they are.
use Rattle.std.proofs.Common.{◌≡◌, ◌≢◌, ℕ, ◌+◌, List, [], ◌∷◌, ◌++◌, replicate, append_assoc}
use Rattle.std.specs.Prelude.{codes}
use Rattle.std.specs.List.{AllByRecursion}
use Rattle.classic_lex.specs.declared.token.TokenKind.TheVariants as kind
use Rattle.classic_lex.specs.Lexed.{Tok}
use Rattle.classic_tree.specs.declared.tree.RouteEnd.{RouteEnd}
use Rattle.classic_tree.specs.declared.tree.RouteText.{RouteText}
use Rattle.classic_tree.specs.Writing.{Writes, lines_text, deeper_text, block_text, place_text, route_text}
use Rattle.classic_text.specs.Input.{spelling}
use Rattle.classic_text.specs.Terminal.{terminal_of, word}
use Rattle.classic_text.specs.Spells.{Is, IsPlace, IsRoute, AreUntil}
use Rattle.classic_round_trip.specs.Spellable.{IsFreeName, IsSpellableRoute}
use Rattle.classic_round_trip.proofs.Tokens.{Terminal, Is-kind, BeginsNew, begins_new}
use Rattle.classic_round_trip.proofs.Pieces.{Found, Always, Then, with, retext, join}
use Rattle.classic_round_trip.proofs.Words.{IsEnding, ending_space, ending_line, ending_point, spaced, lined, indented, found_name, found_point, found_route_word, found_to_word}

-- lines of every kind
abbrev pub Any : ℕ → ℕ → Type 0
Any there here = Unit {0}

-- the text is found before what ends it and doesn't go on with it
abbrev pub IsWritten : List ℕ → (List Tok → List Tok → Type 0) → Type 0
IsWritten text R = (rest : List ℕ) → IsEnding rest → Found text rest BeginsNew R

-- ---- routes

found_place : (p : RouteEnd) (rest : List ℕ) → IsFreeName p.node → IsFreeName p.field → IsEnding rest → Found (place_text p) rest Always (IsPlace p)
found_place p rest n f e =
    with (IsPlace p) (λ ts ms j. (j.0, j.2.0, j.1, j.2.1, j.2.2))
    (join (found_name p.node (46 ∷ p.field ++ rest) n (ending_point (p.field ++ rest)))
    (join (found_point p.field rest f.is) (found_name p.field rest f e.0) (λ ts ms s. tt)) (λ ts ms s. tt))

route_parts : (p q : List ℕ) → codes "ROUTE " ++ p ++ codes " TO " ++ q ≡ codes "ROUTE" ++ (32 ∷ (p ++ (32 ∷ (codes "TO" ++ (32 ∷ q)))))
route_parts p q = simp append_assoc

-- the route, and its first word
pub found_route_first : (r : RouteText) (rest : List ℕ) → IsSpellableRoute r → IsEnding rest
    → Found (route_text r) rest Always (λ ts ms. IsRoute Any r ts ms × (spelling ts ≡ codes "ROUTE"))
unfolding word
found_route_first r rest h e =
    with (λ ts ms. IsRoute Any r ts ms × (spelling ts ≡ codes "ROUTE"))
    (λ ts ms j. ((j.0, j.2.0, j.2.2.0, tt, j.1.0, j.2.1, j.2.2.1, j.2.2.2), j.1.1))
    (retext (route_text r) (route_parts (place_text r.source) (place_text r.target))
    (join (found_route_word ((place_text r.source ++ (32 ∷ (codes "TO" ++ (32 ∷ place_text r.target)))) ++ rest)) (spaced
    (join (found_place r.source (32 ∷ (codes "TO" ++ (32 ∷ place_text r.target)) ++ rest) h.0 h.1
    (ending_space ((codes "TO" ++ (32 ∷ place_text r.target)) ++ rest))) (spaced
    (join (found_to_word (place_text r.target ++ rest)) (spaced (found_place r.target rest h.2 h.3 e)) (λ ts ms s. tt)))
    (λ ts ms s. tt))) (λ ts ms s. tt)))

pub found_route : (r : RouteText) (rest : List ℕ) → IsSpellableRoute r → IsEnding rest → Found (route_text r) rest Always (IsRoute Any r)
found_route r rest h e = with (IsRoute Any r) (λ ts ms j. j.0) (found_route_first r rest h e)

-- ---- parts on lines of their own

module _ {A : Type 0} (k : Terminal) (other : (k ≢ terminal_of kind.Numeral []) × (k ≢ word (codes "IS"))) (end : List ℕ) (ends : (rest : List ℕ) → Found end rest Always (Is k))
    (Item : A → List Tok → List Tok → Type 0)
    (first : (x : A) (ts ms : List Tok) → Item x ts ms → BeginsNew ts) (text : A → Writes) (Fact : A → Type 0)
    (found : (x : A) → Fact x → (indent : ℕ) → IsWritten (text x indent) (Item x)) where
  until_first : (xs : List A) (ts ms : List Tok) → AreUntil k Item xs ts ms → BeginsNew ts
  until_first [] ts ms h = begins_new k ts (Is-kind k ts ms h) other.0 other.1
  until_first (x ∷ xs) ts ms h = first x ts h.0 h.1

  line_parts : (a b c d : List ℕ) → ((a ++ b ++ 10 ∷ []) ++ c) ++ d ≡ a ++ (b ++ (10 ∷ (c ++ d)))
  line_parts a b c d = simp append_assoc

  found_lines : (indent out : ℕ) (xs : List A) → AllByRecursion Fact xs → (rest : List ℕ)
      → Found (lines_text text indent xs ++ (replicate out 32 ++ end)) rest Always (AreUntil k Item xs)
  found_lines indent out [] h rest = indented out (ends rest)
  found_lines indent out (x ∷ xs) h rest =
      retext _ (line_parts (replicate indent 32) (text x indent) (lines_text text indent xs) (replicate out 32 ++ end))
      (indented indent
      (join (found x h.0 indent (10 ∷ (lines_text text indent xs ++ (replicate out 32 ++ end)) ++ rest)
      (ending_line ((lines_text text indent xs ++ (replicate out 32 ++ end)) ++ rest)))
      (lined (found_lines indent out xs h.1 rest))
      (until_first xs)))

  deeper_parts : (c : ℕ) (b d : List ℕ) → c ∷ (10 ∷ b ++ d) ++ end ≡ c ∷ [] ++ (10 ∷ (b ++ (d ++ end)))
  deeper_parts c b d = simp append_assoc

  -- on two lines where there is no part
  pub found_deeper : (open_kind : Terminal) (open_byte : ℕ) → ((rest : List ℕ) → Found (open_byte ∷ []) rest Always (Is open_kind)) → (xs : List A)
      → AllByRecursion Fact xs → (indent : ℕ) (rest : List ℕ)
      → Found (open_byte ∷ deeper_text text indent xs ++ end) rest Always (Then (Is open_kind) (AreUntil k Item xs))
  found_deeper open_kind open_byte opens xs h indent rest =
      retext _ (deeper_parts open_byte (lines_text text (indent + 2) xs) (replicate indent 32))
      (join (opens ((10 ∷ (lines_text text (indent + 2) xs ++ (replicate indent 32 ++ end))) ++ rest))
      (lined (found_lines (indent + 2) indent xs h rest)) (λ ts ms s. tt))

  pub found_block : (open_kind : Terminal) (open_byte : ℕ) → ((rest : List ℕ) → Found (open_byte ∷ []) rest Always (Is open_kind)) → (xs : List A)
      → AllByRecursion Fact xs → (indent : ℕ) (rest : List ℕ)
      → Found (open_byte ∷ block_text text indent xs ++ end) rest Always (Then (Is open_kind) (AreUntil k Item xs))
  found_block open_kind open_byte opens [] h indent rest = join (opens (end ++ rest)) (ends rest) (λ ts ms s. tt)
  found_block open_kind open_byte opens (x ∷ xs) h indent rest = found_deeper open_kind open_byte opens (x ∷ xs) h indent rest
