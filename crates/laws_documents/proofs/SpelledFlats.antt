-- What a text spells keeps it: its texts and lists are no longer than the text.
use Rattle.std.proofs.Common.{◌≡◌, ℕ, ℤ, zero, suc, ◌≤◌, Bool, true, false, List, [], ◌∷◌, length, Option, Some, None, Ok, sym, subst, inl, inr, arith}
use Rattle.std.specs.Prelude.{codes}
use Rattle.std.specs.List.{AllByRecursion}
use Rattle.std.specs.Str.{IsUtf8}
use Rattle.x3d_values.specs.declared.field_type.Access.{Access}
use Rattle.x3d_values.specs.declared.field_type.FieldType.{FieldType}
use Rattle.classic_lex.specs.declared.token.TokenKind.TheVariants as kind
use Rattle.classic_lex.specs.Header.{max_len}
use Rattle.classic_lex.specs.Lexed.{Tok}
use Rattle.classic_tree.specs.declared.tree.BodyItem.{BodyItem}
use Rattle.classic_tree.specs.declared.tree.Declaration.{Declaration}
use Rattle.classic_tree.specs.declared.tree.Document.{Document}
use Rattle.classic_tree.specs.declared.tree.Given.{Given}
use Rattle.classic_tree.specs.declared.tree.Given.TheVariants as given
use Rattle.classic_tree.specs.declared.tree.Meta.{Meta}
use Rattle.classic_tree.specs.declared.tree.NodeText.{NodeText}
use Rattle.classic_tree.specs.declared.tree.RouteEnd.{RouteEnd}
use Rattle.classic_tree.specs.declared.tree.ProtoText.{ProtoText, out-ProtoText}
use Rattle.classic_tree.specs.declared.tree.RawValue.{RawValue}
use Rattle.classic_tree.specs.declared.tree.RawValue.TheVariants as v
use Rattle.classic_tree.specs.declared.tree.RouteText.{RouteText}
use Rattle.classic_tree.specs.declared.tree.Statement.{Statement}
use Rattle.classic_text.specs.Levels.{HasLevel}
use Rattle.classic_text.specs.Reading.{read_text}
use Rattle.classic_text.specs.Spells.{AreEach, AreNumbers, AreStatements, AreUntil, HasDef, Is, IsAccess, IsBody, IsComponent, IsDeclaration, IsDeclared, IsFieldType, IsGiven, IsItem, IsLayer, IsMeta, IsName, IsNode, IsNumber, IsPlace, IsProfile, IsProto, IsProtoBodyAt, IsProtoBy, IsRoute, IsSpelling, IsStatement, IsString, IsSuch, IsTopStatement, IsTruth, IsValue, IsWord, Spells, max_depth}
use Rattle.classic_text.specs.Terminal.{terminal_of, word, name_or_access, is_access}
use Rattle.classic_text.proofs.Documents.{is_spelled}
use Rattle.classic_text.proofs.HeldLemmas.{Holds-unquoted}
use Rattle.classic_text.proofs.Utf8Lemmas.{IsUtf8-unquoted}
use Rattle.proto_flat.specs.declared.flat.Flat.{Flat}
use Rattle.proto_meaning.specs.Flat.{flat}
use Rattle.laws_documents.specs.Lengths.{IsShortFlat, IsShortText}
use Rattle.laws_documents.proofs.Counts.{Terminal, held_short, number_shorter, numbers_few, string_shorter, truth_shorter, until_few, within, within_strictly}
use Rattle.laws_documents.proofs.Fine.{flat_good}
use Rattle.laws_documents.proofs.Fine.{IsFine, IsFineDeclaration, IsFineGiven}
use Rattle.laws_documents.proofs.Tokens.{AreShort, tokens_short}
use Rattle.laws_documents.proofs.Fine.{ItemKeeps, NodeKeeps, ProtoKeeps, StatementKeeps, declaration_keeps, field_keeps, full_keeps, inner_proto_keeps, node_statement_keeps, proto_keeps, proto_statement_keeps, route_keeps, route_statement_keeps, used_keeps}

module _ (most : ℕ) where
  abbrev Text : List ℕ → Type 0
  Text = IsShortText most

  abbrev Count : ℕ → Type 0
  Count n = n ≤ most

  -- it is so, and the tokens behind it are short
  record Told (Fact : Type 0) (rest : List Tok) : Type 0 where
    fact : Fact
    left : AreShort most rest

  behind : (x : Tok) (ts rest : List Tok) → rest ≡ ts → AreShort most (x ∷ ts) → AreShort most rest
  behind x ts rest e g = subst (AreShort most) (sym e) (record { texts = g.texts.1; few = omega (arith, g.few) })

  is_left : (k : Terminal) (ts rest : List Tok) → Is k ts rest → AreShort most ts → AreShort most rest
  is_left k [] rest h g = absurd h
  is_left k (x ∷ ts) rest h g = behind x ts rest h.1 g

  name_left : (n : List ℕ) (ts rest : List Tok) → IsName n ts rest → AreShort most ts → AreShort most rest
  name_left n [] rest h g = absurd h
  name_left n (x ∷ ts) rest h g = behind x ts rest h.2 g

  access_left : (a : Access) (ts rest : List Tok) → IsAccess a ts rest → AreShort most ts → AreShort most rest
  access_left a [] rest h g = absurd h
  access_left a (x ∷ ts) rest h g = behind x ts rest h.2 g

  type_left : (f : FieldType) (ts rest : List Tok) → IsFieldType f ts rest → AreShort most ts → AreShort most rest
  type_left f [] rest h g = absurd h
  type_left f (x ∷ ts) rest h g = behind x ts rest h.2 g

  number_left : (n : ℤ) (ts rest : List Tok) → IsNumber n ts rest → AreShort most ts → AreShort most rest
  number_left n [] rest h g = absurd h
  number_left n (x ∷ ts) rest h g = behind x ts rest h.2 g

  word_left : (w : List ℕ) (ts rest : List Tok) → IsWord w ts rest → AreShort most ts → AreShort most rest
  word_left w [] rest h g = absurd h
  word_left w (x ∷ ts) rest h g = behind x ts rest h.1 g

  told_string : (s : List ℕ) (ts rest : List Tok) → IsString s ts rest → AreShort most ts → Told (Text s) rest
  told_string s [] rest h g = absurd h
  told_string s (x ∷ ts) rest h g =
      let short : Text x.text = g.texts.0 in
      record {
        fact = (subst IsUtf8 (Holds-unquoted x.text s h.1) (IsUtf8-unquoted x.text short.0), omega (arith, held_short x.text s h.1, short.1));
        left = behind x ts rest h.2 g;
      }

  told_truth : (b : Bool) (ts rest : List Tok) → IsTruth b ts rest → AreShort most ts → Told (Unit {0}) rest
  unfolding word
  told_truth true ts rest h g = record { fact = tt; left = is_left (word (codes "TRUE")) ts rest h g }
  told_truth false ts rest h g = record { fact = tt; left = is_left (word (codes "FALSE")) ts rest h g }

  told_number : (n : ℤ) (ts rest : List Tok) → IsNumber n ts rest → AreShort most ts → Told (Unit {0}) rest
  told_number n ts rest h g = record { fact = tt; left = number_left n ts rest h g }

  numbers_left : (ns : List ℤ) (ts rest : List Tok) → AreNumbers ns ts rest → AreShort most ts → AreShort most rest
  numbers_left [] ts rest h g = subst (AreShort most) (sym h.1) g
  numbers_left (n ∷ ns) ts rest h g = numbers_left ns h.0 rest h.2 (number_left n ts h.0 h.1 g)

  place_left : (p : RouteEnd) (ts rest : List Tok) → IsPlace p ts rest → AreShort most ts → AreShort most rest
  place_left p ts rest h g =
      name_left p.field h.1 rest h.4 (is_left (terminal_of kind.Point []) h.0 h.1 h.3 (name_left p.node ts h.0 h.2 g))

  told_until : {A : Type 0} (k : Terminal) (Item : A → List Tok → List Tok → Type 0) (Fact : A → Type 0) → ((x : A) (ts rest : List Tok) → Item x ts rest → AreShort most ts → Told (Fact x) rest)
      → (xs : List A) (ts rest : List Tok) → AreUntil k Item xs ts rest → AreShort most ts → Told (AllByRecursion Fact xs) rest
  told_until k Item Fact told [] ts rest h g = record { fact = tt; left = is_left k ts rest h g }
  told_until k Item Fact told (x ∷ xs) ts rest h g =
      let d = told x ts h.0 h.1 g in
      let w = told_until k Item Fact told xs h.0 rest h.2 d.left in
      record { fact = (d.fact, w.fact); left = w.left }

  -- ---- values

  module _ (Inner : NodeText → List Tok → List Tok → Type 0) (told : (n : NodeText) (ts rest : List Tok) → Inner n ts rest → AreShort most ts → Told (NodeKeeps Text Count n) rest) where
    open_left : (ts a : List Tok) → Is (terminal_of kind.OpenBracket []) ts a → AreShort most ts → AreShort most a
    open_left ts a h g = is_left (terminal_of kind.OpenBracket []) ts a h g

    told_value : (x : RawValue NodeText) (ts rest : List Tok) → IsValue Inner x ts rest → AreShort most ts → Told (IsFine Text Count x) rest
    unfolding word
    told_value v.Null ts rest h g = record { fact = (tt, tt); left = is_left (word (codes "NULL")) ts rest h g }
    told_value (v.Truth b) ts rest h g = record { fact = (tt, tt); left = (told_truth b ts rest h g).left }
    told_value (v.String s) ts rest h g = let m = told_string s ts rest h g in record { fact = (m.fact, tt); left = m.left }
    told_value (v.Numbers []) ts rest h g = absurd h
    told_value (v.Numbers (n ∷ ns)) ts rest h g =
        record { fact = (within (length (n ∷ ns)) (length rest) (length ts) most (numbers_few (n ∷ ns) ts rest h) g.few, tt); left = numbers_left (n ∷ ns) ts rest h g }
    told_value (v.Node n) ts rest h g = let m = told n ts rest h g in record { fact = (tt, m.fact); left = m.left }
    told_value v.EmptyList ts rest h g = record { fact = (tt, tt); left = is_left (terminal_of kind.CloseBracket []) h.0 rest h.2 (open_left ts h.0 h.1 g) }
    told_value (v.TruthList []) ts rest h g = absurd h.2
    told_value (v.TruthList (b ∷ bs)) ts rest h g =
        let o = open_left ts h.0 h.1 g in
        let m = told_until (terminal_of kind.CloseBracket []) IsTruth (λ b. Unit {0}) told_truth (b ∷ bs) h.0 rest h.2 o in
        record { fact = (within_strictly (length (b ∷ bs)) (length rest) (length h.0) most (until_few (terminal_of kind.CloseBracket []) IsTruth truth_shorter (b ∷ bs) h.0 rest h.2) o.few, tt); left = m.left }
    told_value (v.StringList []) ts rest h g = absurd h.2
    told_value (v.StringList (s ∷ ss)) ts rest h g =
        let o = open_left ts h.0 h.1 g in
        let m = told_until (terminal_of kind.CloseBracket []) IsString Text told_string (s ∷ ss) h.0 rest h.2 o in
        record { fact = ((within_strictly (length (s ∷ ss)) (length rest) (length h.0) most (until_few (terminal_of kind.CloseBracket []) IsString string_shorter (s ∷ ss) h.0 rest h.2) o.few, m.fact), tt); left = m.left }
    told_value (v.NumberList []) ts rest h g = absurd h.2
    told_value (v.NumberList (n ∷ ns)) ts rest h g =
        let o = open_left ts h.0 h.1 g in
        let m = told_until (terminal_of kind.CloseBracket []) IsNumber (λ n. Unit {0}) told_number (n ∷ ns) h.0 rest h.2 o in
        record { fact = (within_strictly (length (n ∷ ns)) (length rest) (length h.0) most (until_few (terminal_of kind.CloseBracket []) IsNumber number_shorter (n ∷ ns) h.0 rest h.2) o.few, tt); left = m.left }
    told_value (v.NodeList []) ts rest h g = absurd h.2
    told_value (v.NodeList (n ∷ ns)) ts rest h g =
        let m = told_until (terminal_of kind.CloseBracket []) Inner (NodeKeeps Text Count) told (n ∷ ns) h.0 rest h.2 (open_left ts h.0 h.1 g) in
        record { fact = (tt, m.fact); left = m.left }

    told_given : (x : Given NodeText) (ts rest : List Tok) → IsGiven Inner x ts rest → AreShort most ts → Told (IsFineGiven Text Count x) rest
    unfolding word
    told_given given.Nothing ts rest h g = absurd h
    told_given (given.Value x) ts rest h g = told_value x ts rest h g
    told_given (given.Is n) ts rest h g = record { fact = tt; left = name_left n h.0 rest h.2 (is_left (word (codes "IS")) ts h.0 h.1 g) }

    told_declared : (script : Bool) (a : Access) (x : Given NodeText) (ts rest : List Tok) → IsDeclared Inner script a x ts rest → AreShort most ts → Told (IsFineGiven Text Count x) rest
    unfolding word
    told_declared script a given.Nothing ts rest h g = record { fact = tt; left = subst (AreShort most) (sym h.2) g }
    told_declared script a (given.Value x) ts rest h g = told_value x ts rest h.1 g
    told_declared script a (given.Is n) ts rest h g = record { fact = tt; left = name_left n h.0 rest h.3 (is_left (word (codes "IS")) ts h.0 h.2 g) }

  module _ (At : ℕ → ℕ → Type 0) where
    route_left : (r : RouteText) (ts rest : List Tok) → IsRoute At r ts rest → AreShort most ts → AreShort most rest
    unfolding word
    route_left r ts rest h g =
        place_left r.target h.2 rest h.7 (is_left (word (codes "TO")) h.1 h.2 h.6 (place_left r.source h.0 h.1 h.5 (is_left (word (codes "ROUTE")) ts h.0 h.4 g)))

    module _ (Inner : NodeText → List Tok → List Tok → Type 0) (told : (n : NodeText) (ts rest : List Tok) → Inner n ts rest → AreShort most ts → Told (NodeKeeps Text Count n) rest) where
      told_declaration : (script : Bool) (d : Declaration NodeText) (ts rest : List Tok) → IsDeclaration At Inner script d ts rest → AreShort most ts → Told (IsFineDeclaration Text Count d) rest
      told_declaration script d ts rest h g =
          told_declared Inner told script d.access d.given h.2 rest h.7 (name_left d.name h.1 h.2 h.6 (type_left d.field_type h.0 h.1 h.5 (access_left d.access ts h.0 h.4 g)))

      -- ---- what stands in a body, and statements

      module _ (Proto : ProtoText → List Tok → List Tok → Type 0) (told_proto : (p : ProtoText) (ts rest : List Tok) → Proto p ts rest → AreShort most ts → Told (ProtoKeeps Text Count p) rest) where
        told_item : (node_type : List ℕ) (i : BodyItem) (ts rest : List Tok) → IsItem At Inner Proto node_type i ts rest → AreShort most ts → Told (ItemKeeps Text Count i) rest
        told_item node_type i ts rest (inl h) g =
            let b = told_given Inner told h.value h.behind rest h.spelled (name_left h.name ts h.behind h.named g) in
            record { fact = subst (ItemKeeps Text Count) (sym h.is) (field_keeps Text Count h.at h.name h.value b.fact); left = b.left }
        told_item node_type i ts rest (inr (inl h)) g =
            record { fact = subst (ItemKeeps Text Count) (sym h.is) (route_keeps Text Count h.route); left = route_left h.route ts rest h.spelled g }
        told_item node_type i ts rest (inr (inr (inl h))) g =
            let m = told_proto h.proto ts rest h.spelled g in
            record { fact = subst (ItemKeeps Text Count) (sym h.is) (inner_proto_keeps Text Count h.proto m.fact); left = m.left }
        told_item node_type i ts rest (inr (inr (inr h))) g =
            let m = told_declaration true h.declaration ts rest h.spelled g in
            record { fact = subst (ItemKeeps Text Count) (sym h.is) (declaration_keeps Text Count h.declaration m.fact); left = m.left }

        told_body : (node_type : List ℕ) (items : List BodyItem) (ts rest : List Tok) → IsBody At Inner Proto node_type items ts rest → AreShort most ts → Told (AllByRecursion (ItemKeeps Text Count) items) rest
        told_body node_type items ts rest h g =
            told_until (terminal_of kind.CloseBrace []) (IsItem At Inner Proto node_type) (ItemKeeps Text Count) (told_item node_type)
            items h.0 rest h.2 (is_left (terminal_of kind.OpenBrace []) ts h.0 h.1 g)

        told_statement : (s : Statement) (ts rest : List Tok) → IsStatement At Inner Proto s ts rest → AreShort most ts → Told (StatementKeeps Text Count s) rest
        told_statement s ts rest (inl h) g =
            let m = told h.node ts rest h.spelled g in
            record { fact = subst (StatementKeeps Text Count) (sym h.is) (node_statement_keeps Text Count h.node m.fact); left = m.left }
        told_statement s ts rest (inr (inl h)) g =
            record { fact = subst (StatementKeeps Text Count) (sym h.is) (route_statement_keeps Text Count h.route); left = route_left h.route ts rest h.spelled g }
        told_statement s ts rest (inr (inr h)) g =
            let m = told_proto h.proto ts rest h.spelled g in
            record { fact = subst (StatementKeeps Text Count) (sym h.is) (proto_statement_keeps Text Count h.proto m.fact); left = m.left }

      told_proto_by : (Body : List Statement → List Tok → List Tok → Type 0) → ((ss : List Statement) (ts rest : List Tok) → Body ss ts rest → AreShort most ts → Told (AllByRecursion (StatementKeeps Text Count) ss) rest)
          → (p : ProtoText) (ts rest : List Tok) → IsProtoBy At Inner Body p ts rest → AreShort most ts → Told (ProtoKeeps Text Count p) rest
      unfolding word
      told_proto_by Body told_inside p ts rest h g =
          let n = name_left (out-ProtoText p).name h.0 h.1 h.6 (is_left (word (codes "PROTO")) ts h.0 h.5 g) in
          let i = told_until (terminal_of kind.CloseBracket []) (IsDeclaration At Inner false) (IsFineDeclaration Text Count) (told_declaration false) (out-ProtoText p).interface h.2 h.3 h.8
          (is_left (terminal_of kind.OpenBracket []) h.1 h.2 h.7 n) in
          let b = told_inside (out-ProtoText p).body h.3 rest h.9 i.left in
          record { fact = proto_keeps Text Count p i.fact b.fact; left = b.left }

    -- ---- nodes

    def_left : (def : Option (List ℕ)) (ts a : List Tok) → HasDef def ts a → AreShort most ts → AreShort most a
    unfolding word
    def_left None ts a h g = subst (AreShort most) (sym h) g
    def_left (Some n) ts a h g = name_left n h.0 a h.2 (is_left (word (codes "DEF")) ts h.0 h.1 g)

    told_layer : (Body : List ℕ → List BodyItem → List Tok → List Tok → Type 0) → ((node_type : List ℕ) (items : List BodyItem) (ts rest : List Tok) → Body node_type items ts rest → AreShort most ts → Told (AllByRecursion (ItemKeeps Text Count) items) rest)
        → (n : NodeText) (ts rest : List Tok) → IsLayer At Body n ts rest → AreShort most ts → Told (NodeKeeps Text Count n) rest
    unfolding word
    told_layer Body told n ts rest (inl h) g =
        record { fact = subst (NodeKeeps Text Count) (sym h.is) (used_keeps Text Count h.at h.name); left = name_left h.name h.behind rest h.named (is_left (word (codes "USE")) ts h.behind h.word g) }
    told_layer Body told n ts rest (inr h) g =
        let b = told h.node_type h.items h.behind_type rest h.body (name_left h.node_type h.behind_def h.behind_type h.typed (def_left h.def ts h.behind_def h.defined g)) in
        record { fact = subst (NodeKeeps Text Count) (sym h.is) (full_keeps Text Count h.at h.def h.node_type h.items b.fact); left = b.left }

    -- ---- nodes and bodies at each depth

    record ToldAt (depth : ℕ) : Type 0 where
      node : (n : NodeText) (ts rest : List Tok) → IsNode At depth n ts rest → AreShort most ts → Told (NodeKeeps Text Count n) rest
      body : (ss : List Statement) (ts rest : List Tok) → IsProtoBodyAt At depth ss ts rest → AreShort most ts → Told (AllByRecursion (StatementKeeps Text Count) ss) rest

    module _ (depth : ℕ) (below : ToldAt depth) where
      proto_at : (p : ProtoText) (ts rest : List Tok) → IsProto At depth p ts rest → AreShort most ts → Told (ProtoKeeps Text Count p) rest
      proto_at = told_proto_by (IsNode At depth) below.node (IsProtoBodyAt At depth) below.body

      node_above : (n : NodeText) (ts rest : List Tok) → IsNode At (suc depth) n ts rest → AreShort most ts → Told (NodeKeeps Text Count n) rest
      unfolding IsNode
      node_above n ts rest h g =
          told_layer (IsBody At (IsNode At depth) (IsProto At depth)) (told_body (IsNode At depth) below.node (IsProto At depth) proto_at) n ts rest h g

      body_above : (ss : List Statement) (ts rest : List Tok) → IsProtoBodyAt At (suc depth) ss ts rest → AreShort most ts → Told (AllByRecursion (StatementKeeps Text Count) ss) rest
      unfolding IsProtoBodyAt
      body_above ss ts rest h g =
          told_until (terminal_of kind.CloseBrace []) (IsStatement At (IsNode At depth) (IsProto At depth)) (StatementKeeps Text Count)
          (told_statement (IsNode At depth) below.node (IsProto At depth) proto_at) ss h.0 rest h.2 (is_left (terminal_of kind.OpenBrace []) ts h.0 h.1 g)

    told_at : (depth : ℕ) → ToldAt depth
    unfolding IsNode IsProtoBodyAt
    told_at zero = record { node = λ n ts rest h. absurd h; body = λ ss ts rest h. absurd h }
    told_at (suc depth) = let below = told_at depth in record { node = node_above depth below; body = body_above depth below }

    told_top : (s : Statement) (ts rest : List Tok) → IsTopStatement At s ts rest → AreShort most ts → Told (StatementKeeps Text Count s) rest
    told_top s ts rest h g =
        told_statement (IsNode At max_depth) (told_at max_depth).node (IsProto At max_depth) (proto_at max_depth (told_at max_depth)) s ts rest h g

    told_all : (ss : List Statement) (ts : List Tok) → AreStatements At ss ts → AreShort most ts → AllByRecursion (StatementKeeps Text Count) ss
    told_all [] ts h g = tt
    told_all (s ∷ ss) ts h g = let d = told_top s ts h.0 h.1 g in (d.fact, told_all ss h.0 h.2 d.left)

  -- ---- the head

  profile_left : (p : Option (List ℕ)) (ts rest : List Tok) → IsProfile p ts rest → AreShort most ts → AreShort most rest
  profile_left None ts rest h g = subst (AreShort most) (sym h.1) g
  profile_left (Some n) ts rest h g = name_left n h.0 rest h.2 (word_left (codes "PROFILE") ts h.0 h.1 g)

  component_left : (c : List ℕ) (ts rest : List Tok) → IsComponent c ts rest → AreShort most ts → AreShort most rest
  unfolding word name_or_access is_access
  component_left c ts rest h g = named h.0 rest h.2 (word_left (codes "COMPONENT") ts h.0 h.1 g)
    where
      named : (ts rest : List Tok) → IsSuch (word []) (λ text. (text ≡ c) × HasLevel text) ts rest → AreShort most ts → AreShort most rest
      named [] rest h g = absurd h
      named (x ∷ ts) rest h g = behind x ts rest h.2 g

  meta_left : (m : Meta) (ts rest : List Tok) → IsMeta m ts rest → AreShort most ts → AreShort most rest
  meta_left m ts rest h g = (told_string m.content h.1 rest h.4 (told_string m.key h.0 h.1 h.3 (word_left (codes "META") ts h.0 h.2 g)).left).left

  each_left : {A : Type 0} (w : List ℕ) (Item : A → List Tok → List Tok → Type 0) → ((x : A) (ts rest : List Tok) → Item x ts rest → AreShort most ts → AreShort most rest)
      → (xs : List A) (ts rest : List Tok) → AreEach w Item xs ts rest → AreShort most ts → AreShort most rest
  each_left w Item left [] ts rest h g = subst (AreShort most) (sym h.1) g
  each_left w Item left (x ∷ xs) ts rest h g = each_left w Item left xs h.0 rest h.2 (left x ts h.0 h.1 g)

  pub told_document : (d : Document) (tokens : List Tok) → IsSpelling ◌≡◌ tokens d → AreShort most tokens → AllByRecursion (StatementKeeps Text Count) d.statements
  told_document d tokens h g =
      told_all ◌≡◌ d.statements h.behind_metas h.statements
      (each_left (codes "META") IsMeta meta_left d.metas h.behind_components h.behind_metas h.metas
      (each_left (codes "COMPONENT") IsComponent component_left d.components h.behind_profile h.behind_components h.components
      (profile_left d.profile tokens h.behind_profile h.profile g)))

-- ---- documents of texts

pub texts_short : (text : List ℕ) (d : Document) → read_text text ≡ Ok d → length text ≤ max_len
texts_short text d r = (is_spelled text d r).version.headed.size

flats_within : (most : ℕ) (text : List ℕ) (d : Document) (f : Flat) → length text ≤ most → read_text text ≡ Ok d → flat d ≡ Ok f → IsShortFlat most f
flats_within most text d f few r e =
    let s : Spells text d = is_spelled text d r in
    (flat_good (IsShortText most) (λ n. n ≤ most) d f (told_document most d s.tokens s.spelling (tokens_short most text s.tokens few s.has)) e)

pub flats_short : (text : List ℕ) (d : Document) (f : Flat) → read_text text ≡ Ok d → flat d ≡ Ok f → IsShortFlat (length text) f
flats_short text d f r e = flats_within (length text) text d f (omega arith) r e

pub flats_within_limit : (text : List ℕ) (d : Document) (f : Flat) → read_text text ≡ Ok d → flat d ≡ Ok f → IsShortFlat max_len f
flats_within_limit text d f r e = flats_within max_len text d f (texts_short text d r) r e
