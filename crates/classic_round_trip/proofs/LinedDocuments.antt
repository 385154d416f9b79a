-- Nodes and documents that are spelled lines apart, of which the same text is written.
use Rattle.std.proofs.Common.{◌≡◌, ℕ, ◌+◌, zero, suc, List, [], ◌∷◌, ◌++◌, refl, ap, sym, ◌∙◌, inl, inr}
use Rattle.std.specs.Prelude.{codes}
use Rattle.std.specs.List.{flat_map}
use Rattle.classic_lex.specs.declared.token.TokenKind.TheVariants as kind
use Rattle.classic_lex.specs.Lexed.{Tok}
use Rattle.classic_tree.specs.declared.tree.BodyItem.{BodyItem}
use Rattle.classic_tree.specs.declared.tree.Document.{Document}
use Rattle.classic_tree.specs.declared.tree.NodeText.{NodeText}
use Rattle.classic_tree.specs.declared.tree.NodeText.TheVariants as made
use Rattle.classic_tree.specs.declared.tree.ProtoText.{ProtoText}
use Rattle.classic_tree.specs.declared.tree.Statement.{Statement}
use Rattle.classic_tree.specs.Writing.{def_text, document_text, item_text, lines_text, node_text, proto_text, statement_text, header_line, profile_line, component_line, meta_line}
use Rattle.classic_tree.proofs.Equations.{node_text-full, node_text-use}
use Rattle.classic_text.specs.Spells.{AreStatements, IsBody, IsLayer, IsNode, IsProto, IsProtoBodyAt, IsStatement, Spells, SpellsButLines, max_depth}
use Rattle.classic_text.specs.Terminal.{line, terminal_of, word}
use Rattle.classic_round_trip.specs.Again.{TextsStay}
use Rattle.classic_round_trip.proofs.Documents.{spelled_by_text, within_limit}
use Rattle.classic_round_trip.proofs.Routes.{Any}
use Rattle.classic_round_trip.proofs.Lined.{Lined, LinedAll, lines_same, lined_until, lined_body, lined_statement, lined_proto}

-- ---- nodes

module _ (B C : List ℕ → List BodyItem → List Tok → List Tok → Type 0)
    (g : (node_type : List ℕ) (items : List BodyItem) (ts rest : List Tok) → B node_type items ts rest → LinedAll item_text (C node_type) items ts rest) where
  lined_layer : (node : NodeText) (ts rest : List Tok) → IsLayer Any B node ts rest → Lined node_text (IsLayer ◌≡◌ C) node ts rest
  lined_layer node ts rest (inl h) = record {
    part = made.Use (line ts) h.name;
    spelled = inl (record { at = line ts; name = h.name; is = refl; lined = refl; behind = h.behind; word = h.word; named = h.named });
    same = λ i. node_text-use (line ts) h.name i ∙ sym (node_text-use h.at h.name i) ∙ ap (λ (x : NodeText). node_text x i) (sym h.is);
  }
  lined_layer node ts rest (inr h) =
      let m = g h.node_type h.items h.behind_type rest h.body in
      record {
        part = made.Full (line ts) h.def h.node_type m.parts;
        spelled = inr (record {
          at = line ts;
          def = h.def;
          node_type = h.node_type;
          items = m.parts;
          is = refl;
          lined = refl;
          behind_def = h.behind_def;
          behind_type = h.behind_type;
          defined = h.defined;
          typed = h.typed;
          body = m.spelled;
        });
        same = λ i.
            node_text-full (line ts) h.def h.node_type m.parts i ∙ ap (λ block. def_text h.def ++ h.node_type ++ codes " {" ++ block ++ 125 ∷ []) (m.block i)
            ∙ sym (node_text-full h.at h.def h.node_type h.items i) ∙ ap (λ (x : NodeText). node_text x i) (sym h.is);
      }

-- ---- nodes and bodies at each depth

record LinedAt (depth : ℕ) : Type 0 where
  node : (n : NodeText) (ts rest : List Tok) → IsNode Any depth n ts rest → Lined node_text (IsNode ◌≡◌ depth) n ts rest
  body : (ss : List Statement) (ts rest : List Tok) → IsProtoBodyAt Any depth ss ts rest → LinedAll statement_text (IsProtoBodyAt ◌≡◌ depth) ss ts rest

module _ (depth : ℕ) (below : LinedAt depth) where
  proto_at : (p : ProtoText) (ts rest : List Tok) → IsProto Any depth p ts rest → Lined proto_text (IsProto ◌≡◌ depth) p ts rest
  proto_at = lined_proto (IsNode Any depth) (IsNode ◌≡◌ depth) below.node (IsProtoBodyAt Any depth) (IsProtoBodyAt ◌≡◌ depth) below.body

  statement_at : (s : Statement) (ts rest : List Tok) → IsStatement Any (IsNode Any depth) (IsProto Any depth) s ts rest
      → Lined statement_text (IsStatement ◌≡◌ (IsNode ◌≡◌ depth) (IsProto ◌≡◌ depth)) s ts rest
  statement_at = lined_statement (IsNode Any depth) (IsNode ◌≡◌ depth) below.node (IsProto Any depth) (IsProto ◌≡◌ depth) proto_at

  node_above : (n : NodeText) (ts rest : List Tok) → IsNode Any (suc depth) n ts rest → Lined node_text (IsNode ◌≡◌ (suc depth)) n ts rest
  unfolding IsNode
  node_above n ts rest h =
      lined_layer (IsBody Any (IsNode Any depth) (IsProto Any depth)) (IsBody ◌≡◌ (IsNode ◌≡◌ depth) (IsProto ◌≡◌ depth))
      (lined_body (IsNode Any depth) (IsNode ◌≡◌ depth) below.node (IsProto Any depth) (IsProto ◌≡◌ depth) proto_at) n ts rest h

  body_above : (ss : List Statement) (ts rest : List Tok) → IsProtoBodyAt Any (suc depth) ss ts rest → LinedAll statement_text (IsProtoBodyAt ◌≡◌ (suc depth)) ss ts rest
  unfolding IsProtoBodyAt
  body_above ss ts rest h =
      let m = lined_until statement_text (terminal_of kind.CloseBrace []) (IsStatement Any (IsNode Any depth) (IsProto Any depth))
      (IsStatement ◌≡◌ (IsNode ◌≡◌ depth) (IsProto ◌≡◌ depth)) statement_at ss h.0 rest h.2 in
      record { parts = m.parts; spelled = (h.0, h.1, m.spelled); same = m.same; block = m.block }

lined_at : (depth : ℕ) → LinedAt depth
unfolding IsNode IsProtoBodyAt
lined_at zero = record { node = λ n ts rest h. absurd h; body = λ ss ts rest h. absurd h }
lined_at (suc depth) = let below = lined_at depth in record { node = node_above depth below; body = body_above depth below }

-- ---- a document

record LinedStatements (ss : List Statement) (ts : List Tok) : Type 0 where
  parts : List Statement
  spelled : AreStatements ◌≡◌ parts ts
  same : lines_text statement_text 0 parts ≡ lines_text statement_text 0 ss

lined_statements : (ss : List Statement) (ts : List Tok) → AreStatements Any ss ts → LinedStatements ss ts
lined_statements [] ts h = record { parts = []; spelled = h; same = refl }
lined_statements (s ∷ ss) ts h =
    let one = statement_at max_depth (lined_at max_depth) s ts h.0 h.1 in
    let more = lined_statements ss h.0 h.2 in
    record {
      parts = one.part ∷ more.parts;
      spelled = (h.0, one.spelled, more.spelled);
      same = lines_same statement_text 0 one.part s more.parts ss (one.same 0) more.same;
    }

record LinedDocument (text : List ℕ) (d : Document) : Type 0 where
  pub document : Document
  pub spelled : Spells text document
  pub same : document_text document ≡ document_text d

text_same : (d : Document) (ss : List Statement) → lines_text statement_text 0 ss ≡ lines_text statement_text 0 d.statements
    → document_text (record d { statements = ss }) ≡ document_text d
unfolding document_text
text_same d ss e =
    ap (λ ls. header_line d.version ++ profile_line d.profile ++ flat_map component_line d.components ++ flat_map meta_line d.metas ++ ls) e

lined_document : (text : List ℕ) (d : Document) → SpellsButLines text d → LinedDocument text d
lined_document text d h =
    let m = lined_statements d.statements h.spelling.behind_metas h.spelling.statements in
    record {
      document = record d { statements = m.parts };
      spelled = record {
        version = h.version;
        tokens = h.tokens;
        has = h.has;
        spelling = record {
          behind_profile = h.spelling.behind_profile;
          behind_components = h.spelling.behind_components;
          behind_metas = h.spelling.behind_metas;
          profile = h.spelling.profile;
          components = h.spelling.components;
          metas = h.spelling.metas;
          statements = m.spelled;
        };
      };
      same = text_same d m.parts m.same;
    }

-- what is written of a spellable document, if it isn't too long
pub texts_stay : ((text : List ℕ) (some other : Document) → Spells text some → Spells text other → some ≡ other) → TextsStay
texts_stay one d h size =
    let again = lined_document (document_text d) d (within_limit (document_text d) d (spelled_by_text d h) size) in
    record {
      document = again.document;
      spelled = again.spelled;
      same = λ other spelled. ap document_text (one (document_text d) other again.document spelled again.spelled) ∙ again.same;
    }
