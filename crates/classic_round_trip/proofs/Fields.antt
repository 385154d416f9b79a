-- The texts of values, and of fields and declarations that hold them, are found as what they are.
use Rattle.std.proofs.Common.{◌≡◌, ℕ, List, [], ◌∷◌, ◌++◌, Bool, refl, append_assoc}
use Rattle.std.specs.Prelude.{codes}
use Rattle.std.specs.Str.{IsUtf8}
use Rattle.std.proofs.lemmas.Str.{IsUtf8-nil}
use Rattle.x3d_numerals.specs.NumberText.{IsLimited, number_text}
use Rattle.x3d_values.specs.Names.{access_name, field_type_name}
use Rattle.x3d_values.specs.ValueText.{truth_text, string_text}
use Rattle.x3d_values.specs.declared.field_type.Access.{Access}
use Rattle.classic_lex.specs.declared.token.TokenKind.TheVariants as kind
use Rattle.classic_lex.specs.Lexed.{Tok}
use Rattle.classic_tree.specs.declared.tree.RawValue.{RawValue}
use Rattle.classic_tree.specs.declared.tree.RawValue.TheVariants as v
use Rattle.classic_tree.specs.declared.tree.Given.{Given}
use Rattle.classic_tree.specs.declared.tree.Given.TheVariants as given
use Rattle.classic_tree.specs.declared.tree.Declaration.{Declaration}
use Rattle.classic_tree.specs.declared.tree.NodeText.{NodeText}
use Rattle.classic_tree.specs.Writing.{value_text, given_text, declaration_text, node_text}
use Rattle.classic_text.specs.Terminal.{terminal_of, word, name_or_access, is_access}
use Rattle.classic_text.specs.Spells.{IsTruth, IsString, IsNumber, IsValue, IsGiven, IsDeclared, IsDeclaration}
use Rattle.classic_round_trip.specs.Spellable.{IsSpellableValue, IsSpellableGiven, IsSpellableDeclared, IsSpellableDeclaration}
use Rattle.classic_round_trip.proofs.Tokens.{IsSuch-kind, BeginsNew, begins_new}
use Rattle.classic_round_trip.proofs.Pieces.{with, retext, before, always, join}
use Rattle.classic_round_trip.proofs.Strings.{found_string}
use Rattle.classic_round_trip.proofs.Numbers.{found_number}
use Rattle.classic_round_trip.proofs.Words.{IsEnding, EndsName, ending_space, spaced, found_open_bracket, found_close_bracket, found_name, found_null, found_is_word, found_access, found_field_type}
use Rattle.classic_round_trip.proofs.Values.{found_truth, found_numbers, found_list}
use Rattle.classic_round_trip.proofs.Routes.{Any, IsWritten, found_block}

-- by the nodes in them
module _ (Fact : NodeText → Type 0) (Inner : NodeText → List Tok → List Tok → Type 0)
    (first : (n : NodeText) (ts ms : List Tok) → Inner n ts ms → BeginsNew ts)
    (found : (n : NodeText) → Fact n → (indent : ℕ) → IsWritten (node_text n indent) (Inner n)) where
  -- ---- values, and what a field is given

  pub found_value : (x : RawValue NodeText) → IsSpellableValue Fact x → (indent : ℕ) → IsWritten (value_text node_text x indent) (IsValue Inner x)
  unfolding word
  found_value v.Null h indent = λ r e. always (found_null r e.0)
  found_value (v.Truth b) h indent = λ r e. always (found_truth b r e)
  found_value (v.String s) h indent = λ r e. always (found_string s r h)
  found_value (v.Numbers []) h indent = absurd h
  found_value (v.Numbers (n ∷ ns)) h indent = λ r e. before BeginsNew (λ ms q. q.0) (found_numbers n ns r h e)
  found_value (v.Node n) h indent = found n h indent
  found_value v.EmptyList h indent = λ r e. always (join (found_open_bracket (93 ∷ r)) (found_close_bracket r) (λ ts ms s. tt))
  found_value (v.TruthList bs) h indent = λ r e. always (found_list truth_text IsTruth (λ b. Unit {0}) (λ b rest u f. found_truth b rest f) bs r h)
  found_value (v.StringList ss) h indent = λ r e. always (found_list string_text IsString IsUtf8 (λ s rest u f. found_string s rest u) ss r h)
  found_value (v.NumberList ns) h indent = λ r e. always (found_list number_text IsNumber IsLimited (λ n rest u f. found_number n rest u f.1) ns r h)
  found_value (v.NodeList []) h indent = absurd h
  found_value (v.NodeList (n ∷ ns)) h indent = λ r e.
      always (found_block (terminal_of kind.CloseBracket []) (λ q. cc, λ q. cc) (93 ∷ []) found_close_bracket Inner first node_text Fact found
      (terminal_of kind.OpenBracket []) 91 found_open_bracket (n ∷ ns) h indent r)

  pub found_given : (g : Given NodeText) → IsSpellableGiven Fact g → (indent : ℕ) → IsWritten (given_text node_text g indent) (IsGiven Inner g)
  unfolding word
  found_given given.Nothing h indent = absurd h
  found_given (given.Value x) h indent = λ r e. spaced (found_value x h indent r e)
  found_given (given.Is n) h indent = λ r e. spaced (join (found_is_word (n ++ r)) (spaced (always (found_name n r h e.0))) (λ ts ms s. tt))

  -- a name ends before it
  pub given_ends : (g : Given NodeText) (indent : ℕ) (rest : List ℕ) → IsEnding rest → EndsName (given_text node_text g indent ++ rest)
  given_ends given.Nothing indent rest e = e.0
  given_ends (given.Value x) indent rest e = (ending_space (value_text node_text x indent ++ rest)).0
  given_ends (given.Is n) indent rest e = (ending_space (codes "IS " ++ n ++ rest)).0

  -- ---- declarations

  module _ (script : Bool) where
    found_declared : (a : Access) (g : Given NodeText) → IsSpellableDeclared Fact script a g → (indent : ℕ)
        → IsWritten (given_text node_text g indent) (IsDeclared Inner script a g)
    unfolding word
    found_declared a given.Nothing h indent = λ r e.
        record { pieces = []; spelled = refl; cut = tt; utf8 = IsUtf8-nil; fits = λ line ms q. (h, q.1, refl) }
    found_declared a (given.Value x) h indent = λ r e.
        spaced (with (IsDeclared Inner script a (given.Value x)) (λ ts ms j. (h.0, j)) (found_value x h.1 indent r e))
    found_declared a (given.Is n) h indent = λ r e.
        with (IsDeclared Inner script a (given.Is n)) (λ ts ms j. (j.0, h.0, j.1, j.2))
        (spaced (join (found_is_word (n ++ r)) (spaced (always (found_name n r h.1 e.0))) (λ ts ms s. tt)))

    declaration_parts : (a f n g : List ℕ) → a ++ 32 ∷ f ++ 32 ∷ n ++ g ≡ a ++ (32 ∷ (f ++ (32 ∷ (n ++ g))))
    declaration_parts a f n g = simp append_assoc

    pub found_declaration : (d : Declaration NodeText) → IsSpellableDeclaration Fact script d → (indent : ℕ)
        → IsWritten (declaration_text node_text d indent) (IsDeclaration Any Inner script d)
    found_declaration d h indent = λ r e.
        let g : List ℕ = given_text node_text d.given indent in
        retext (declaration_text node_text d indent)
        (declaration_parts (access_name d.access) (field_type_name d.field_type) d.name (given_text node_text d.given indent))
        (with (IsDeclaration Any Inner script d) (λ ts ms j. (j.0, j.2.0, j.2.2.0, tt, j.1, j.2.1, j.2.2.1, j.2.2.2))
        (join (found_access d.access ((field_type_name d.field_type ++ (32 ∷ (d.name ++ given_text node_text d.given indent))) ++ r)) (spaced
        (join (found_field_type d.field_type ((d.name ++ given_text node_text d.given indent) ++ r)) (spaced
        (join (found_name d.name (given_text node_text d.given indent ++ r) h.0 (given_ends d.given indent r e))
        (found_declared d.access d.given h.1 indent r e) (λ ts ms s. tt)))
        (λ ts ms s. tt)))
        (λ ts ms s. tt)))

    pub declaration_first : (d : Declaration NodeText) (ts ms : List Tok) → IsDeclaration Any Inner script d ts ms → BeginsNew ts
    unfolding word name_or_access is_access
    declaration_first d ts ms h = begins_new (word (codes "field")) ts (IsSuch-kind (word (codes "field")) _ ts h.0 h.4) (λ e. cc) (λ e. cc)
