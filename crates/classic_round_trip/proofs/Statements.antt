-- The texts of statements are found as those statements.
use Rattle.std.proofs.Common.{◌≡◌, ℕ, List, [], ◌∷◌, ◌++◌, Bool, true, not, Option, Some, None, refl, ap, ◌∙◌, inl, inr}
use Rattle.std.specs.Prelude.{codes}
use Rattle.std.specs.Str.{bytes_eq}
use Rattle.std.specs.List.{AllByRecursion, list_all}
use Rattle.classic_lex.specs.declared.token.TokenKind.TheVariants as kind
use Rattle.classic_lex.specs.Lexed.{Tok}
use Rattle.classic_tree.specs.declared.tree.NodeText.{NodeText}
use Rattle.classic_tree.specs.declared.tree.ProtoText.{ProtoText}
use Rattle.classic_tree.specs.declared.tree.Statement.{Statement}
use Rattle.classic_tree.specs.declared.tree.Meta.{Meta}
use Rattle.classic_tree.specs.Writing.{deeper_text, node_text, statement_text, proto_text}
use Rattle.classic_tree.proofs.Equations.{statement_text-node, statement_text-route, statement_text-proto}
use Rattle.classic_text.specs.Input.{spelling}
use Rattle.classic_text.specs.Terminal.{terminal_of, word}
use Rattle.classic_text.specs.Spells.{IsStatement, IsProtoBody}
use Rattle.classic_round_trip.specs.Spellable.{IsNoneOf, IsSpellableStatement, unread_words, head_words}
use Rattle.classic_round_trip.proofs.Tokens.{Is-kind, BeginsNew, begins_new, SeesNoneOf, sees_none, none_of}
use Rattle.classic_round_trip.proofs.Pieces.{Found, Always, with, retext, always}
use Rattle.classic_round_trip.proofs.Words.{found_open_brace, found_close_brace}
use Rattle.classic_round_trip.proofs.Routes.{Any, IsWritten, found_route_first, found_deeper}
use Rattle.classic_round_trip.proofs.Nodes.{Opens}
use Rattle.classic_round_trip.proofs.Protos.{IsSo}

-- ---- words that no statement of a written text begins with

-- nothing that begins a statement, but for a name, is among the words
pub record AreApart (words : List (List ℕ)) : Type 0 where
  use_word : IsNoneOf words (codes "USE")
  def_word : IsNoneOf words (codes "DEF")
  route_word : IsNoneOf words (codes "ROUTE")
  proto_word : IsNoneOf words (codes "PROTO")

abbrev test : List (List ℕ) → List ℕ → Bool
test words n = list_all (λ w. not (bytes_eq n w)) words

apart_by : (words : List (List ℕ)) → test words (codes "USE") ≡ true → test words (codes "DEF") ≡ true
    → test words (codes "ROUTE") ≡ true → test words (codes "PROTO") ≡ true → AreApart words
apart_by words u d r p = record {
  use_word = none_of words (codes "USE") u;
  def_word = none_of words (codes "DEF") d;
  route_word = none_of words (codes "ROUTE") r;
  proto_word = none_of words (codes "PROTO") p;
}

pub apart_unread : AreApart unread_words
apart_unread = apart_by unread_words refl refl refl refl

pub apart_head : (metas : List Meta) (components : List (List ℕ)) (profile : Option (List ℕ))
    → AreApart (head_words metas components profile ++ unread_words)
apart_head (m ∷ ms) components profile = apart_by (head_words (m ∷ ms) components profile ++ unread_words) refl refl refl refl
apart_head [] (c ∷ cs) profile = apart_by (head_words [] (c ∷ cs) profile ++ unread_words) refl refl refl refl
apart_head [] [] (Some n) = apart_by (head_words [] [] (Some n) ++ unread_words) refl refl refl refl
apart_head [] [] None = apart_by (head_words [] [] None ++ unread_words) refl refl refl refl

opened : (words : List (List ℕ)) → AreApart words → (ts : List Tok) → Opens words ts → SeesNoneOf words ts
opened words apart ts (inl e) = sees_none words ts (codes "USE") e apart.use_word
opened words apart ts (inr (inl e)) = sees_none words ts (codes "DEF") e apart.def_word
opened words apart ts (inr (inr h)) = sees_none words ts (spelling ts) refl h

-- ---- a statement, by the nodes and PROTOs in it

module _ (words : List (List ℕ)) (apart : AreApart words) (covers : (ts : List Tok) → SeesNoneOf words ts → SeesNoneOf unread_words ts)
    (Fact : NodeText → Type 0) (Inner : NodeText → List Tok → List Tok → Type 0)
    (first : (n : NodeText) (ts ms : List Tok) → Inner n ts ms → BeginsNew ts)
    (found : (n : NodeText) → Fact n → (indent : ℕ) → IsWritten (node_text n indent) (λ ts ms. Inner n ts ms × Opens words ts))
    (ProtoFact : ProtoText → Type 0) (Proto : ProtoText → List Tok → List Tok → Type 0)
    (proto_first : (p : ProtoText) (ts ms : List Tok) → Proto p ts ms → BeginsNew ts)
    (found_proto : (p : ProtoText) → ProtoFact p → (indent : ℕ) → IsWritten (proto_text p indent) (IsSo Proto p)) where
  abbrev Stated : Statement → List Tok → List Tok → Type 0
  Stated s ts ms = IsStatement Any Inner Proto s ts ms × SeesNoneOf words ts

  pub found_statement : (s : Statement) → IsSpellableStatement Fact ProtoFact s → (indent : ℕ) → IsWritten (statement_text s indent) (Stated s)
  found_statement s (inl h) indent = λ r e.
      retext (statement_text s indent) (ap (λ (x : Statement). statement_text x indent) h.is ∙ statement_text-node h.node indent)
      (with (Stated s) (λ ts ms j.
      let w = opened words apart ts j.1 in
      let u = covers ts w in
      (inl (record { node = h.node; is = h.is; spelled = j.0; no_externproto = u.0; no_import = u.1.0; no_export = u.1.1.0; no_unit = u.1.1.1.0 }), w))
      (found h.node h.spellable indent r e))
  found_statement s (inr (inl h)) indent = λ r e.
      retext (statement_text s indent) (ap (λ (x : Statement). statement_text x indent) h.is ∙ statement_text-route h.route indent)
      (with (Stated s) (λ ts ms j. (
        inr (inl (record { route = h.route; is = h.is; spelled = j.0 })),
        sees_none words ts (codes "ROUTE") j.1 apart.route_word,
      ))
      (always (found_route_first h.route r h.spellable e)))
  found_statement s (inr (inr h)) indent = λ r e.
      retext (statement_text s indent) (ap (λ (x : Statement). statement_text x indent) h.is ∙ statement_text-proto h.proto indent)
      (with (Stated s) (λ ts ms j. (
        inr (inr (record { proto = h.proto; is = h.is; spelled = j.0 })),
        sees_none words ts (codes "PROTO") j.1 apart.proto_word,
      ))
      (found_proto h.proto h.spellable indent r e))

  pub statement_first : (s : Statement) (ts ms : List Tok) → IsStatement Any Inner Proto s ts ms → BeginsNew ts
  unfolding word
  statement_first s ts ms (inl h) = first h.node ts ms h.spelled
  statement_first s ts ms (inr (inl h)) = begins_new (word (codes "ROUTE")) ts (Is-kind (word (codes "ROUTE")) ts h.spelled.0 h.spelled.4) (λ e. cc) (λ e. cc)
  statement_first s ts ms (inr (inr h)) = proto_first h.proto ts ms h.spelled

  -- the braces of a PROTO and the statements in them
  pub found_proto_body : (ss : List Statement) → AllByRecursion (IsSpellableStatement Fact ProtoFact) ss → (indent : ℕ) (rest : List ℕ)
      → Found (123 ∷ deeper_text statement_text indent ss ++ 125 ∷ []) rest Always (IsProtoBody Any Inner Proto ss)
  unfolding word
  found_proto_body ss h indent rest =
      found_deeper (terminal_of kind.CloseBrace []) (λ q. cc, λ q. cc) (125 ∷ []) found_close_brace (IsStatement Any Inner Proto) statement_first
      statement_text (IsSpellableStatement Fact ProtoFact)
      (λ s k i r e. with (IsStatement Any Inner Proto s) (λ ts ms j. j.0) (found_statement s k i r e))
      (terminal_of kind.OpenBrace []) 123 found_open_brace ss h indent rest
