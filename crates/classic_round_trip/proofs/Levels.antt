-- The texts of nodes and of the bodies of PROTOs, at each depth, and the statements of a document, are found as what they are.
use Rattle.std.proofs.Common.{◌≡◌, ℕ, zero, suc, List, [], ◌∷◌, ◌++◌, refl, sym, subst, append_assoc}
use Rattle.std.specs.List.{AllByRecursion}
use Rattle.std.proofs.lemmas.Str.{IsUtf8-nil}
use Rattle.classic_lex.specs.Lexed.{Tok}
use Rattle.classic_tree.specs.declared.tree.NodeText.{NodeText}
use Rattle.classic_tree.specs.declared.tree.ProtoText.{ProtoText}
use Rattle.classic_tree.specs.declared.tree.Statement.{Statement}
use Rattle.classic_tree.specs.Writing.{lines_text, deeper_text, node_text, statement_text, proto_text}
use Rattle.classic_text.specs.Spells.{max_depth, IsBody, IsNode, IsProtoBodyAt, IsProto, IsTopStatement, AreStatements}
use Rattle.classic_round_trip.specs.Spellable.{IsSpellableItem, IsSpellableNode, IsSpellableProtoBody, IsSpellableProto, IsSpellableTopStatement, AreSpellableStatements, unread_words}
use Rattle.classic_round_trip.proofs.Tokens.{BeginsNew, SeesNoneOf, sees_nothing, first_words}
use Rattle.classic_round_trip.proofs.Pieces.{Found, Always, with, retext, join}
use Rattle.classic_round_trip.proofs.Words.{ending_line, lined}
use Rattle.classic_round_trip.proofs.Routes.{Any, IsWritten}
use Rattle.classic_round_trip.proofs.Nodes.{Opens, found_body, layer_first, found_layer}
use Rattle.classic_round_trip.proofs.Protos.{IsSo, proto_first, found_proto}
use Rattle.classic_round_trip.proofs.Statements.{AreApart, apart_unread, found_statement, statement_first, found_proto_body}

-- ---- nodes and bodies at each depth

node_first : (depth : ℕ) (node : NodeText) (ts ms : List Tok) → IsNode Any depth node ts ms → BeginsNew ts
unfolding IsNode
node_first zero node ts ms h = absurd h
node_first (suc depth) node ts ms h = layer_first (IsBody Any (IsNode Any depth) (IsProto Any depth)) node ts ms h

abbrev proto_begins : (depth : ℕ) (p : ProtoText) (ts ms : List Tok) → IsProto Any depth p ts ms → BeginsNew ts
proto_begins depth = proto_first (IsNode Any depth) (IsProtoBodyAt Any depth)

record FoundAt (depth : ℕ) : Type 0 where
  node : (words : List (List ℕ)) (n : NodeText) → IsSpellableNode depth words n → (indent : ℕ)
      → IsWritten (node_text n indent) (λ ts ms. IsNode Any depth n ts ms × Opens words ts)
  body : (ss : List Statement) → IsSpellableProtoBody depth ss → (indent : ℕ) (rest : List ℕ)
      → Found (123 ∷ deeper_text statement_text indent ss ++ 125 ∷ []) rest Always (IsProtoBodyAt Any depth ss)

module _ (depth : ℕ) (below : FoundAt depth) where
  inner : (n : NodeText) → IsSpellableNode depth [] n → (indent : ℕ) → IsWritten (node_text n indent) (IsNode Any depth n)
  inner n h indent = λ r e. with (IsNode Any depth n) (λ ts ms j. j.0) (below.node [] n h indent r e)

  proto : (p : ProtoText) → IsSpellableProto depth p → (indent : ℕ) → IsWritten (proto_text p indent) (IsSo (IsProto Any depth) p)
  proto p h indent = found_proto (IsNode Any depth) (IsProtoBodyAt Any depth) (IsSpellableNode depth []) (node_first depth) inner
      (IsSpellableProtoBody depth) below.body p h indent

  inner_proto : (p : ProtoText) → IsSpellableProto depth p → (indent : ℕ) → IsWritten (proto_text p indent) (IsProto Any depth p)
  inner_proto p h indent = λ r e. with (IsProto Any depth p) (λ ts ms j. j.0) (proto p h indent r e)

  node_above : (words : List (List ℕ)) (n : NodeText) → IsSpellableNode (suc depth) words n → (indent : ℕ)
      → IsWritten (node_text n indent) (λ ts ms. IsNode Any (suc depth) n ts ms × Opens words ts)
  unfolding IsSpellableNode IsNode
  node_above words n h indent =
      found_layer (IsBody Any (IsNode Any depth) (IsProto Any depth)) (IsSpellableItem (IsSpellableNode depth []) (IsSpellableProto depth))
      (found_body (IsSpellableNode depth []) (IsNode Any depth) (node_first depth) inner (IsSpellableProto depth) (IsProto Any depth)
      (proto_begins depth) inner_proto)
      words n h indent

  body_above : (ss : List Statement) → IsSpellableProtoBody (suc depth) ss → (indent : ℕ) (rest : List ℕ)
      → Found (123 ∷ deeper_text statement_text indent ss ++ 125 ∷ []) rest Always (IsProtoBodyAt Any (suc depth) ss)
  unfolding IsSpellableProtoBody IsProtoBodyAt
  body_above ss h indent rest =
      found_proto_body unread_words apart_unread (λ ts w. w) (IsSpellableNode depth unread_words) (IsNode Any depth) (node_first depth)
      (below.node unread_words) (IsSpellableProto depth) (IsProto Any depth) (proto_begins depth) proto ss h indent rest

found_at : (depth : ℕ) → FoundAt depth
unfolding IsSpellableNode IsSpellableProtoBody
found_at zero = record { node = λ words n h. absurd h; body = λ ss h. absurd h }
found_at (suc depth) = let below = found_at depth in record { node = node_above depth below; body = body_above depth below }

-- ---- all statements of a document

-- no more tokens
abbrev pub AtEnd : List Tok → Type 0
AtEnd ms = ms ≡ []

module _ (words : List (List ℕ)) (apart : AreApart words) (covers : (ts : List Tok) → SeesNoneOf words ts → SeesNoneOf unread_words ts) where
  found_top : (s : Statement) → IsSpellableTopStatement words s
      → IsWritten (statement_text s 0) (λ ts ms. IsTopStatement Any s ts ms × SeesNoneOf words ts)
  found_top s h = found_statement words apart covers (IsSpellableNode max_depth words) (IsNode Any max_depth) (node_first max_depth)
      ((found_at max_depth).node words) (IsSpellableProto max_depth) (IsProto Any max_depth) (proto_begins max_depth)
      (proto max_depth (found_at max_depth)) s h 0

  top_first : (s : Statement) (ts ms : List Tok) → IsTopStatement Any s ts ms → BeginsNew ts
  top_first s ts ms h = statement_first words apart covers (IsSpellableNode max_depth words) (IsNode Any max_depth) (node_first max_depth)
      ((found_at max_depth).node words) (IsSpellableProto max_depth) (IsProto Any max_depth) (proto_begins max_depth)
      (proto max_depth (found_at max_depth)) s ts ms h

statements_first : (ss : List Statement) (ts : List Tok) → AreStatements Any ss ts → BeginsNew ts
statements_first [] ts h = subst BeginsNew (sym h) (tt, tt)
statements_first (s ∷ ss) ts h = top_first unread_words apart_unread (λ us w. w) s ts h.0 h.1

line_parts : (s ls : List ℕ) → ([] ++ s ++ 10 ∷ []) ++ ls ≡ s ++ (10 ∷ ls)
line_parts s ls = append_assoc s (10 ∷ []) ls

found_more : (ss : List Statement) → AllByRecursion (IsSpellableTopStatement unread_words) ss
    → Found (lines_text statement_text 0 ss) [] AtEnd (λ ts ms. AreStatements Any ss ts)
found_more [] h = record { pieces = []; spelled = refl; cut = tt; utf8 = IsUtf8-nil; fits = λ line ms q. q }
found_more (s ∷ ss) h =
    retext _ (line_parts (statement_text s 0) (lines_text statement_text 0 ss))
    (with (λ ts ms. AreStatements Any (s ∷ ss) ts) (λ ts ms j. (j.0, j.1.0, j.2))
    (join (found_top unread_words apart_unread (λ ts w. w) s h.0 (10 ∷ lines_text statement_text 0 ss ++ [])
    (ending_line (lines_text statement_text 0 ss ++ []))) (lined (found_more ss h.1)) (λ ts ms j. statements_first ss ts j)))

-- the statements behind a head, the first of which begins with none of these words
pub found_statements : (words : List (List ℕ)) → AreApart (words ++ unread_words) → (ss : List Statement) → AreSpellableStatements words ss
    → Found (lines_text statement_text 0 ss) [] AtEnd (λ ts ms. AreStatements Any ss ts × SeesNoneOf words ts)
found_statements words apart [] h =
    record {
      pieces = [];
      spelled = refl;
      cut = tt;
      utf8 = IsUtf8-nil;
      fits = λ line ms q. (q, sees_nothing words ms q);
    }
found_statements words apart (s ∷ ss) h =
    retext _ (line_parts (statement_text s 0) (lines_text statement_text 0 ss))
    (with (λ ts ms. AreStatements Any (s ∷ ss) ts × SeesNoneOf words ts) (λ ts ms j. ((j.0, j.1.0, j.2), (first_words words unread_words ts j.1.1).0))
    (join (found_top (words ++ unread_words) apart (λ ts w. (first_words words unread_words ts w).1) s h.0
    (10 ∷ lines_text statement_text 0 ss ++ []) (ending_line (lines_text statement_text 0 ss ++ [])))
    (lined (found_more ss h.1)) (λ ts ms j. statements_first ss ts j)))
