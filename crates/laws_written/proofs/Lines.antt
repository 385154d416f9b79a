-- What spells a document spells it also where lines don't count.
use Rattle.std.proofs.Common.{◌≡◌, ℕ, zero, suc, List, [], ◌∷◌, Bool, false, true, inl, inr}
use Rattle.classic_lex.specs.declared.token.TokenKind.{TokenKind}
use Rattle.classic_lex.specs.declared.token.TokenKind.TheVariants as kind
use Rattle.classic_lex.specs.Lexed.{Tok}
use Rattle.classic_tree.specs.declared.tree.BodyItem.{BodyItem}
use Rattle.classic_tree.specs.declared.tree.Declaration.{Declaration}
use Rattle.classic_tree.specs.declared.tree.Document.{Document}
use Rattle.classic_tree.specs.declared.tree.Given.{Given}
use Rattle.classic_tree.specs.declared.tree.Given.TheVariants as given
use Rattle.classic_tree.specs.declared.tree.NodeText.{NodeText}
use Rattle.classic_tree.specs.declared.tree.ProtoText.{ProtoText, out-ProtoText}
use Rattle.classic_tree.specs.declared.tree.RawValue.{RawValue}
use Rattle.classic_tree.specs.declared.tree.RawValue.TheVariants as v
use Rattle.classic_tree.specs.declared.tree.RouteText.{RouteText}
use Rattle.classic_tree.specs.declared.tree.Statement.{Statement}
use Rattle.x3d_values.specs.declared.field_type.Access.{Access}
use Rattle.classic_text.specs.Spells.{AreStatements, AreUntil, IsBody, IsDeclaration, IsDeclared, IsGiven, IsItem, IsLayer, IsNode, IsProto, IsProtoBodyAt, IsProtoBy, IsRoute, IsSpelled, IsSpelling, IsStatement, IsValue, Spells, SpellsButLines, max_depth}
use Rattle.classic_text.specs.Terminal.{line, terminal_of}

all_until : {X : Type 0} (k : TokenKind) (P Q : X → List Tok → List Tok → Type 0) → ((x : X) (ts rest : List Tok) → P x ts rest → Q x ts rest)
    → (xs : List X) (ts rest : List Tok) → AreUntil (terminal_of k []) P xs ts rest → AreUntil (terminal_of k []) Q xs ts rest
all_until k P Q f [] ts rest h = h
all_until k P Q f (x ∷ xs) ts rest h = (h.0, f x ts h.0 h.1, all_until k P Q f xs h.0 rest h.2)

-- ---- values

module _ (P Q : NodeText → List Tok → List Tok → Type 0) (f : (n : NodeText) (ts rest : List Tok) → P n ts rest → Q n ts rest) where
  value_goes : (x : RawValue NodeText) (ts rest : List Tok) → IsValue P x ts rest → IsValue Q x ts rest
  value_goes v.Null ts rest h = h
  value_goes (v.Truth b) ts rest h = h
  value_goes (v.String s) ts rest h = h
  value_goes (v.Numbers ns) ts rest h = h
  value_goes (v.Node n) ts rest h = f n ts rest h
  value_goes v.EmptyList ts rest h = h
  value_goes (v.TruthList bs) ts rest h = h
  value_goes (v.StringList ss) ts rest h = h
  value_goes (v.NumberList ns) ts rest h = h
  value_goes (v.NodeList []) ts rest h = absurd h.2
  value_goes (v.NodeList (n ∷ ns)) ts rest h = (h.0, h.1, all_until kind.CloseBracket P Q f (n ∷ ns) h.0 rest h.2)

  given_goes : (x : Given NodeText) (ts rest : List Tok) → IsGiven P x ts rest → IsGiven Q x ts rest
  given_goes given.Nothing ts rest h = h
  given_goes (given.Value x) ts rest h = value_goes x ts rest h
  given_goes (given.Is n) ts rest h = h

  declared_goes : (script : Bool) (a : Access) (x : Given NodeText) (ts rest : List Tok) → IsDeclared P script a x ts rest → IsDeclared Q script a x ts rest
  declared_goes script a given.Nothing ts rest h = h
  declared_goes script a (given.Value x) ts rest h = (h.0, value_goes x ts rest h.1)
  declared_goes script a (given.Is n) ts rest h = h

-- ---- what has lines

module _ (From To : ℕ → ℕ → Type 0) (lines : (there here : ℕ) → From there here → To there here) where
  route_goes : (r : RouteText) (ts rest : List Tok) → IsRoute From r ts rest → IsRoute To r ts rest
  route_goes r ts rest h = (h.0, h.1, h.2, lines (line ts) r.line h.3, h.4, h.5, h.6, h.7)

  module _ (P Q : NodeText → List Tok → List Tok → Type 0) (f : (n : NodeText) (ts rest : List Tok) → P n ts rest → Q n ts rest) where
    declaration_goes : (script : Bool) (d : Declaration NodeText) (ts rest : List Tok) → IsDeclaration From P script d ts rest → IsDeclaration To Q script d ts rest
    declaration_goes script d ts rest h =
        (h.0, h.1, h.2, lines (line ts) d.line h.3, h.4, h.5, h.6, declared_goes P Q f script d.access d.given h.2 rest h.7)

    module _ (R S : ProtoText → List Tok → List Tok → Type 0) (g : (p : ProtoText) (ts rest : List Tok) → R p ts rest → S p ts rest) where
      item_goes : (node_type : List ℕ) (item : BodyItem) (ts rest : List Tok) → IsItem From P R node_type item ts rest → IsItem To Q S node_type item ts rest
      item_goes node_type item ts rest (inl h) = inl (record {
        at = h.at;
        name = h.name;
        value = h.value;
        is = h.is;
        lined = lines (line ts) h.at h.lined;
        other = h.other;
        behind = h.behind;
        named = h.named;
        spelled = given_goes P Q f h.value h.behind rest h.spelled;
      })
      item_goes node_type item ts rest (inr (inl h)) =
          inr (inl (record { route = h.route; is = h.is; spelled = route_goes h.route ts rest h.spelled }))
      item_goes node_type item ts rest (inr (inr (inl h))) =
          inr (inr (inl (record { proto = h.proto; is = h.is; spelled = g h.proto ts rest h.spelled })))
      item_goes node_type item ts rest (inr (inr (inr h))) =
          inr (inr (inr (record { scripted = h.scripted; declaration = h.declaration; is = h.is; spelled = declaration_goes true h.declaration ts rest h.spelled })))

      body_goes : (node_type : List ℕ) (items : List BodyItem) (ts rest : List Tok) → IsBody From P R node_type items ts rest → IsBody To Q S node_type items ts rest
      body_goes node_type items ts rest h =
          (h.0, h.1, all_until kind.CloseBrace (IsItem From P R node_type) (IsItem To Q S node_type) (item_goes node_type) items h.0 rest h.2)

      statement_goes : (s : Statement) (ts rest : List Tok) → IsStatement From P R s ts rest → IsStatement To Q S s ts rest
      statement_goes s ts rest (inl h) = inl (record {
        node = h.node;
        is = h.is;
        spelled = f h.node ts rest h.spelled;
        no_externproto = h.no_externproto;
        no_import = h.no_import;
        no_export = h.no_export;
        no_unit = h.no_unit;
      })
      statement_goes s ts rest (inr (inl h)) = inr (inl (record { route = h.route; is = h.is; spelled = route_goes h.route ts rest h.spelled }))
      statement_goes s ts rest (inr (inr h)) = inr (inr (record { proto = h.proto; is = h.is; spelled = g h.proto ts rest h.spelled }))

    module _ (B C : List Statement → List Tok → List Tok → Type 0) (g : (ss : List Statement) (ts rest : List Tok) → B ss ts rest → C ss ts rest) where
      proto_goes : (p : ProtoText) (ts rest : List Tok) → IsProtoBy From P B p ts rest → IsProtoBy To Q C p ts rest
      proto_goes p ts rest h = (
        h.0,
        h.1,
        h.2,
        h.3,
        lines (line ts) (out-ProtoText p).line h.4,
        h.5,
        h.6,
        h.7,
        all_until kind.CloseBracket (IsDeclaration From P false) (IsDeclaration To Q false) (declaration_goes false) (out-ProtoText p).interface h.2 h.3 h.8,
        g (out-ProtoText p).body h.3 rest h.9,
      )

  module _ (B C : List ℕ → List BodyItem → List Tok → List Tok → Type 0)
      (g : (node_type : List ℕ) (items : List BodyItem) (ts rest : List Tok) → B node_type items ts rest → C node_type items ts rest) where
    layer_goes : (node : NodeText) (ts rest : List Tok) → IsLayer From B node ts rest → IsLayer To C node ts rest
    layer_goes node ts rest (inl h) = inl (record {
      at = h.at;
      name = h.name;
      is = h.is;
      lined = lines (line ts) h.at h.lined;
      behind = h.behind;
      word = h.word;
      named = h.named;
    })
    layer_goes node ts rest (inr h) = inr (record {
      at = h.at;
      def = h.def;
      node_type = h.node_type;
      items = h.items;
      is = h.is;
      lined = lines (line ts) h.at h.lined;
      behind_def = h.behind_def;
      behind_type = h.behind_type;
      defined = h.defined;
      typed = h.typed;
      body = g h.node_type h.items h.behind_type rest h.body;
    })

  -- ---- nodes and bodies at each depth

  record GoesAt (depth : ℕ) : Type 0 where
    node : (n : NodeText) (ts rest : List Tok) → IsNode From depth n ts rest → IsNode To depth n ts rest
    body : (ss : List Statement) (ts rest : List Tok) → IsProtoBodyAt From depth ss ts rest → IsProtoBodyAt To depth ss ts rest

  module _ (depth : ℕ) (below : GoesAt depth) where
    proto_at : (p : ProtoText) (ts rest : List Tok) → IsProto From depth p ts rest → IsProto To depth p ts rest
    proto_at = proto_goes (IsNode From depth) (IsNode To depth) below.node (IsProtoBodyAt From depth) (IsProtoBodyAt To depth) below.body

    node_above : (n : NodeText) (ts rest : List Tok) → IsNode From (suc depth) n ts rest → IsNode To (suc depth) n ts rest
    unfolding IsNode
    node_above n ts rest h =
        layer_goes (IsBody From (IsNode From depth) (IsProto From depth)) (IsBody To (IsNode To depth) (IsProto To depth))
        (body_goes (IsNode From depth) (IsNode To depth) below.node (IsProto From depth) (IsProto To depth) proto_at) n ts rest h

    statement_at : (s : Statement) (ts rest : List Tok) → IsStatement From (IsNode From depth) (IsProto From depth) s ts rest → IsStatement To (IsNode To depth) (IsProto To depth) s ts rest
    statement_at = statement_goes (IsNode From depth) (IsNode To depth) below.node (IsProto From depth) (IsProto To depth) proto_at

    body_above : (ss : List Statement) (ts rest : List Tok) → IsProtoBodyAt From (suc depth) ss ts rest → IsProtoBodyAt To (suc depth) ss ts rest
    unfolding IsProtoBodyAt
    body_above ss ts rest h = (
      h.0,
      h.1,
      all_until kind.CloseBrace (IsStatement From (IsNode From depth) (IsProto From depth)) (IsStatement To (IsNode To depth) (IsProto To depth)) statement_at ss h.0 rest h.2,
    )

  goes_at : (depth : ℕ) → GoesAt depth
  unfolding IsNode IsProtoBodyAt
  goes_at zero = record { node = λ n ts rest h. absurd h; body = λ ss ts rest h. absurd h }
  goes_at (suc depth) = let below = goes_at depth in record { node = node_above depth below; body = body_above depth below }

  -- ---- a document

  statements_go : (ss : List Statement) (ts : List Tok) → AreStatements From ss ts → AreStatements To ss ts
  statements_go [] ts h = h
  statements_go (s ∷ ss) ts h = (h.0, statement_at max_depth (goes_at max_depth) s ts h.0 h.1, statements_go ss h.0 h.2)

  spelling_goes : (tokens : List Tok) (d : Document) → IsSpelling From tokens d → IsSpelling To tokens d
  spelling_goes tokens d h = record {
    behind_profile = h.behind_profile;
    behind_components = h.behind_components;
    behind_metas = h.behind_metas;
    profile = h.profile;
    components = h.components;
    metas = h.metas;
    statements = statements_go d.statements h.behind_metas h.statements;
  }

  spelled_goes : (text : List ℕ) (d : Document) → IsSpelled From text d → IsSpelled To text d
  spelled_goes text d h = record { version = h.version; tokens = h.tokens; has = h.has; spelling = spelling_goes h.tokens d h.spelling }

pub but_lines : (text : List ℕ) (d : Document) → Spells text d → SpellsButLines text d
but_lines text d h = spelled_goes ◌≡◌ (λ there here. Unit {0}) (λ there here e. tt) text d h
