-- The texts of PROTOs are found as those PROTOs.
use Rattle.std.proofs.Common.{◌≡◌, ℕ, List, [], ◌∷◌, ◌++◌, false, ◌∙◌, append_assoc}
use Rattle.std.specs.Prelude.{codes}
use Rattle.std.specs.List.{AllByRecursion}
use Rattle.classic_lex.specs.declared.token.TokenKind.TheVariants as kind
use Rattle.classic_lex.specs.Lexed.{Tok}
use Rattle.classic_tree.specs.declared.tree.Declaration.{Declaration}
use Rattle.classic_tree.specs.declared.tree.NodeText.{NodeText}
use Rattle.classic_tree.specs.declared.tree.ProtoText.{ProtoText, out-ProtoText}
use Rattle.classic_tree.specs.declared.tree.Statement.{Statement}
use Rattle.classic_tree.specs.Writing.{block_text, deeper_text, declaration_text, node_text, statement_text, proto_text}
use Rattle.classic_tree.proofs.Equations.{proto_text_is}
use Rattle.classic_text.specs.Input.{spelling}
use Rattle.classic_text.specs.Terminal.{terminal_of, word}
use Rattle.classic_text.specs.Spells.{Is, AreUntil, IsDeclaration, IsProtoBy}
use Rattle.classic_round_trip.specs.Spellable.{IsSpellableDeclaration, IsSpellableProtoBy}
use Rattle.classic_round_trip.proofs.Tokens.{Is-kind, BeginsNew, begins_new}
use Rattle.classic_round_trip.proofs.Pieces.{Found, Always, Then, with, retext, always, join}
use Rattle.classic_round_trip.proofs.Words.{ending_space, spaced, found_open_bracket, found_close_bracket, found_name, found_proto_word}
use Rattle.classic_round_trip.proofs.Routes.{Any, IsWritten, found_block}
use Rattle.classic_round_trip.proofs.Fields.{found_declaration, declaration_first}

-- it is so, and its first token is PROTO
abbrev pub IsSo : (ProtoText → List Tok → List Tok → Type 0) → ProtoText → List Tok → List Tok → Type 0
IsSo Proto p ts ms = Proto p ts ms × (spelling ts ≡ codes "PROTO")

module _ (Inner : NodeText → List Tok → List Tok → Type 0) (Body : List Statement → List Tok → List Tok → Type 0) where
  pub proto_first : (p : ProtoText) (ts ms : List Tok) → IsProtoBy Any Inner Body p ts ms → BeginsNew ts
  unfolding word
  proto_first p ts ms h = begins_new (word (codes "PROTO")) ts (Is-kind (word (codes "PROTO")) ts h.0 h.5) (λ e. cc) (λ e. cc)

  proto_parts : (n i d : List ℕ) → codes "PROTO " ++ n ++ codes " [" ++ i ++ codes "] {" ++ d ++ 125 ∷ []
      ≡ codes "PROTO" ++ (32 ∷ (n ++ (32 ∷ ((91 ∷ i ++ 93 ∷ []) ++ (32 ∷ (123 ∷ d ++ 125 ∷ []))))))
  proto_parts n i d = simp append_assoc

  module _ (Fact : NodeText → Type 0) (first : (n : NodeText) (ts ms : List Tok) → Inner n ts ms → BeginsNew ts)
      (found : (n : NodeText) → Fact n → (indent : ℕ) → IsWritten (node_text n indent) (Inner n))
      (BodyFact : List Statement → Type 0)
      (found_body : (ss : List Statement) → BodyFact ss → (indent : ℕ) (rest : List ℕ)
      → Found (123 ∷ deeper_text statement_text indent ss ++ 125 ∷ []) rest Always (Body ss)) where
    found_interface : (ds : List (Declaration NodeText)) → AllByRecursion (IsSpellableDeclaration Fact false) ds → (indent : ℕ) (rest : List ℕ)
        → Found (91 ∷ block_text (declaration_text node_text) indent ds ++ 93 ∷ []) rest Always
        (Then (Is (terminal_of kind.OpenBracket [])) (AreUntil (terminal_of kind.CloseBracket []) (IsDeclaration Any Inner false) ds))
    unfolding word
    found_interface ds h indent rest =
        found_block (terminal_of kind.CloseBracket []) (λ q. cc, λ q. cc) (93 ∷ []) found_close_bracket (IsDeclaration Any Inner false)
        (declaration_first Fact Inner first found false) (declaration_text node_text) (IsSpellableDeclaration Fact false)
        (found_declaration Fact Inner first found false) (terminal_of kind.OpenBracket []) 91 found_open_bracket ds h indent rest

    pub found_proto : (p : ProtoText) → IsSpellableProtoBy Fact BodyFact p → (indent : ℕ)
        → IsWritten (proto_text p indent) (IsSo (IsProtoBy Any Inner Body) p)
    unfolding word
    found_proto p h indent = λ r e.
        retext (proto_text p indent) (proto_text_is p indent ∙ proto_parts (out-ProtoText p).name (block_text (declaration_text node_text) indent (out-ProtoText p).interface) (deeper_text statement_text indent (out-ProtoText p).body))
        (with (IsSo (IsProtoBy Any Inner Body) p)
        (λ ts ms j. ((j.0, j.2.0, j.2.2.1.0, j.2.2.0, tt, j.1.0, j.2.1, j.2.2.1.1, j.2.2.1.2, j.2.2.2), j.1.1))
        (always (join (found_proto_word (((out-ProtoText p).name ++ (32 ∷ ((91 ∷ block_text (declaration_text node_text) indent (out-ProtoText p).interface ++ 93 ∷ []) ++ (32 ∷ (123 ∷ deeper_text statement_text indent (out-ProtoText p).body ++ 125 ∷ []))))) ++ r)) (spaced
        (join (found_name (out-ProtoText p).name ((32 ∷ ((91 ∷ block_text (declaration_text node_text) indent (out-ProtoText p).interface ++ 93 ∷ []) ++ (32 ∷ (123 ∷ deeper_text statement_text indent (out-ProtoText p).body ++ 125 ∷ [])))) ++ r) h.0
        (ending_space (((91 ∷ block_text (declaration_text node_text) indent (out-ProtoText p).interface ++ 93 ∷ []) ++ (32 ∷ (123 ∷ deeper_text statement_text indent (out-ProtoText p).body ++ 125 ∷ []))) ++ r)).0) (spaced
        (join (found_interface (out-ProtoText p).interface h.1 indent ((32 ∷ (123 ∷ deeper_text statement_text indent (out-ProtoText p).body ++ 125 ∷ [])) ++ r)) (spaced
        (found_body (out-ProtoText p).body h.2 indent r)) (λ ts ms s. tt)))
        (λ ts ms s. tt)))
        (λ ts ms s. tt))))
