-- What a spelling tells about the parts of a tree.
use Rattle.std.proofs.Common.{◌≡◌, ℕ, zero, suc, ℤ, List, [], ◌∷◌, ◌++◌, Bool, true, false, Option, Some, None, sym, subst, ◌⊎◌, inl, inr}
use Rattle.std.specs.Prelude.{codes, All}
use Rattle.std.specs.Str.{IsUtf8}
use Rattle.std.specs.List.{AllByRecursion}
use Rattle.std.proofs.lemmas.List.Elements.{All-head, All-tail}
use Rattle.x3d_numerals.specs.NumberText.{IsLimited}
use Rattle.x3d_numerals.proofs.Written.{limited}
use Rattle.classic_lex.specs.declared.token.TokenKind.{TokenKind}
use Rattle.classic_lex.specs.declared.token.TokenKind.TheVariants as kind
use Rattle.classic_lex.specs.Lexed.{Tok, line_after}
use Rattle.classic_lex.specs.Tokens.{IsIdentifier, IsToken, Piece, blank, token, ArePieces, tokens_among, HasTokens}
use Rattle.classic_lex.proofs.Utf8Lemmas.{IsUtf8-HasTokens}
use Rattle.classic_tree.specs.declared.tree.RouteText.{RouteText}
use Rattle.classic_tree.specs.declared.tree.RouteEnd.{RouteEnd}
use Rattle.classic_tree.specs.declared.tree.RawValue.{RawValue}
use Rattle.classic_tree.specs.declared.tree.RawValue.TheVariants as v
use Rattle.classic_tree.specs.declared.tree.Given.{Given}
use Rattle.classic_tree.specs.declared.tree.Given.TheVariants as given
use Rattle.classic_tree.specs.declared.tree.Declaration.{Declaration}
use Rattle.classic_tree.specs.declared.tree.BodyItem.{BodyItem}
use Rattle.classic_tree.specs.declared.tree.NodeText.{NodeText}
use Rattle.classic_tree.specs.declared.tree.ProtoText.{ProtoText, out-ProtoText}
use Rattle.classic_tree.specs.declared.tree.Statement.{Statement}
use Rattle.x3d_values.specs.declared.field_type.Access.{Access}
use Rattle.classic_text.specs.Terminal.{terminal_of, word, name_or_access, is_access}
use Rattle.classic_text.specs.Spells.{Is, IsSuch, IsName, IsString, IsNumber, IsTruth, IsPlace, IsRoute, AreNumbers, AreUntil, IsValue, IsGiven, IsDeclared, IsDeclaration, IsItem, IsBody, HasDef, IsLayer, IsNode, IsStatement, IsProtoBy, IsProtoBodyAt, IsProto}
use Rattle.classic_round_trip.specs.Spellable.{IsFreeName, IsSpellableRoute, IsSpellableValue, IsSpellableGiven, IsSpellableDeclared, IsSpellableDeclaration, IsSpellableItem, IsSpellableUse, IsNameOrNone, IsSpellableFull, BeginsWithNoneOf, IsSpellableStatement, IsSpellableProtoBy, IsSpellableNode, IsSpellableProtoBody, IsSpellableProto, unread_words}
use Rattle.classic_round_trip.proofs.Strings.{utf8_held}
use Rattle.classic_round_trip.proofs.Tokens.{Terminal, SeesNoneOf, none_seen, all_words, no_grammar_word, no_access_word}

-- ---- what each token of a text is

abbrev IsNamed : TokenKind → List ℕ → Type 0
IsNamed kind.Identifier s = IsIdentifier s []
IsNamed _ s = Unit {0}

-- it is UTF-8, and an identifier where it says so
abbrev IsGood : Tok → Type 0
IsGood x = IsUtf8 x.text × IsNamed x.kind x.text

abbrev pub AllGood : List Tok → Type 0
AllGood ts = AllByRecursion IsGood ts

named_token : (k : TokenKind) (s rest : List ℕ) → IsToken k s rest → IsNamed k s
named_token kind.Identifier [] rest h = absurd h
named_token kind.Identifier (b ∷ bs) rest h = (h.0, (h.1.0, tt))
named_token kind.Numeral s rest h = tt
named_token kind.Text s rest h = tt
named_token kind.OpenBrace s rest h = tt
named_token kind.CloseBrace s rest h = tt
named_token kind.OpenBracket s rest h = tt
named_token kind.CloseBracket s rest h = tt
named_token kind.Point s rest h = tt

good_among : (line : ℕ) (pieces : List Piece) → ArePieces pieces → All (λ (x : Tok). IsUtf8 x.text) (tokens_among line pieces)
    → AllGood (tokens_among line pieces)
good_among line [] h u = tt
good_among line (blank bytes ∷ pieces) h u = good_among (line_after line bytes) pieces h.1 u
good_among line (token k bytes ∷ pieces) h u = (
  (
    All-head (λ (x : Tok). IsUtf8 x.text) (record { kind = k; text = bytes; line = line }) (tokens_among (line_after line bytes) pieces) u,
    named_token k bytes _ h.0,
  ),
  good_among (line_after line bytes) pieces h.1 (All-tail (λ (x : Tok). IsUtf8 x.text) (record { kind = k; text = bytes; line = line })
      (tokens_among (line_after line bytes) pieces) u),
)

pub good_tokens : (text : List ℕ) (tokens : List Tok) → HasTokens text tokens → AllGood tokens
good_tokens text tokens h =
    let u : All (λ (x : Tok). IsUtf8 x.text) (tokens_among 1 h.pieces) =
    subst (All (λ (x : Tok). IsUtf8 x.text)) (sym h.are) (IsUtf8-HasTokens text tokens h) in
    subst AllGood h.are (good_among 1 h.pieces h.cut u)

-- ---- what single tokens tell

-- it is so, and the tokens behind it are good
pub record Told (Fact : Type 0) (rest : List Tok) : Type 0 where
  pub fact : Fact
  pub left : AllGood rest

is_left : (k : Terminal) (ts rest : List Tok) → Is k ts rest → AllGood ts → AllGood rest
is_left k [] rest h g = absurd h
is_left k (x ∷ ts) rest h g = subst AllGood (sym h.1) g.1

such_left : (k : Terminal) (P : List ℕ → Type 0) (ts rest : List Tok) → IsSuch k P ts rest → AllGood ts → AllGood rest
such_left k P [] rest h g = absurd h
such_left k P (x ∷ ts) rest h g = subst AllGood (sym h.2) g.1

free_name : (k : TokenKind) (s : List ℕ) → terminal_of k s ≡ word [] → IsUtf8 s → IsNamed k s → IsFreeName s
unfolding word name_or_access is_access
free_name kind.Identifier s e u i = record { is = i; no_word = no_grammar_word s e; no_access = no_access_word s e; utf8 = u }
free_name kind.Numeral s e u i = cc
free_name kind.Text s e u i = cc
free_name kind.OpenBrace s e u i = cc
free_name kind.CloseBrace s e u i = cc
free_name kind.OpenBracket s e u i = cc
free_name kind.CloseBracket s e u i = cc
free_name kind.Point s e u i = cc

pub told_name : (n : List ℕ) (ts rest : List Tok) → IsName n ts rest → AllGood ts → Told (IsFreeName n) rest
unfolding word name_or_access is_access
told_name n [] rest h g = absurd h
told_name n (x ∷ ts) rest h g = record { fact = subst IsFreeName h.1 (free_name x.kind x.text h.0 g.0.0 g.0.1); left = subst AllGood (sym h.2) g.1 }

pub told_string : (s : List ℕ) (ts rest : List Tok) → IsString s ts rest → AllGood ts → Told (IsUtf8 s) rest
told_string s [] rest h g = absurd h
told_string s (x ∷ ts) rest h g = record { fact = utf8_held x.text s h.1 g.0.0; left = subst AllGood (sym h.2) g.1 }

told_number : (n : ℤ) (ts rest : List Tok) → IsNumber n ts rest → AllGood ts → Told (IsLimited n) rest
told_number n [] rest h g = absurd h
told_number n (x ∷ ts) rest h g = record { fact = limited x.text n h.1; left = subst AllGood (sym h.2) g.1 }

told_truth : (b : Bool) (ts rest : List Tok) → IsTruth b ts rest → AllGood ts → Told (Unit {0}) rest
unfolding word
told_truth true ts rest h g = record { fact = tt; left = is_left (word (codes "TRUE")) ts rest h g }
told_truth false ts rest h g = record { fact = tt; left = is_left (word (codes "FALSE")) ts rest h g }

told_place : (p : RouteEnd) (ts rest : List Tok) → IsPlace p ts rest → AllGood ts → Told (IsFreeName p.node × IsFreeName p.field) rest
told_place p ts rest h g =
    let a = told_name p.node ts h.0 h.2 g in
    let c = told_name p.field h.1 rest h.4 (is_left (terminal_of kind.Point []) h.0 h.1 h.3 a.left) in
    record { fact = (a.fact, c.fact); left = c.left }

-- ---- runs and lists

told_numbers : (ns : List ℤ) (ts rest : List Tok) → AreNumbers ns ts rest → AllGood ts → Told (AllByRecursion IsLimited ns) rest
told_numbers [] ts rest h g = record { fact = tt; left = subst AllGood (sym h.1) g }
told_numbers (n ∷ ns) ts rest h g =
    let s = told_number n ts h.0 h.1 g in
    let m = told_numbers ns h.0 rest h.2 s.left in
    record { fact = (s.fact, m.fact); left = m.left }

module _ {A : Type 0} (k : Terminal) (Item : A → List Tok → List Tok → Type 0) (Fact : A → Type 0)
    (told : (x : A) (ts rest : List Tok) → Item x ts rest → AllGood ts → Told (Fact x) rest) where
  told_until : (xs : List A) (ts rest : List Tok) → AreUntil k Item xs ts rest → AllGood ts → Told (AllByRecursion Fact xs) rest
  told_until [] ts rest h g = record { fact = tt; left = is_left k ts rest h g }
  told_until (x ∷ xs) ts rest h g =
      let d = told x ts h.0 h.1 g in
      let w = told_until xs h.0 rest h.2 d.left in
      record { fact = (d.fact, w.fact); left = w.left }

module _ (At : ℕ → ℕ → Type 0) where
  pub told_route : (r : RouteText) (ts rest : List Tok) → IsRoute At r ts rest → AllGood ts → Told (IsSpellableRoute r) rest
  unfolding word
  told_route r ts rest h g =
      let b = told_place r.source h.0 h.1 h.5 (is_left (word (codes "ROUTE")) ts h.0 h.4 g) in
      let d = told_place r.target h.2 rest h.7 (is_left (word (codes "TO")) h.1 h.2 h.6 b.left) in
      record { fact = (b.fact.0, b.fact.1, d.fact.0, d.fact.1); left = d.left }

  -- ---- values and what stands in a body

  module _ (Inner : NodeText → List Tok → List Tok → Type 0) (Fact : NodeText → Type 0)
      (told : (n : NodeText) (ts rest : List Tok) → Inner n ts rest → AllGood ts → Told (Fact n) rest) where
    open_left : (ts a : List Tok) → Is (terminal_of kind.OpenBracket []) ts a → AllGood ts → AllGood a
    open_left ts a h g = is_left (terminal_of kind.OpenBracket []) ts a h g

    told_value : (x : RawValue NodeText) (ts rest : List Tok) → IsValue Inner x ts rest → AllGood ts → Told (IsSpellableValue Fact x) rest
    unfolding word
    told_value v.Null ts rest h g = record { fact = tt; left = is_left (word (codes "NULL")) ts rest h g }
    told_value (v.Truth b) ts rest h g = told_truth b ts rest h g
    told_value (v.String s) ts rest h g = told_string s ts rest h g
    told_value (v.Numbers []) ts rest h g = absurd h
    told_value (v.Numbers (n ∷ ns)) ts rest h g = told_numbers (n ∷ ns) ts rest h g
    told_value (v.Node n) ts rest h g = told n ts rest h g
    told_value v.EmptyList ts rest h g = record { fact = tt; left = is_left (terminal_of kind.CloseBracket []) h.0 rest h.2 (open_left ts h.0 h.1 g) }
    told_value (v.TruthList []) ts rest h g = absurd h.2
    told_value (v.TruthList (b ∷ bs)) ts rest h g = told_until (terminal_of kind.CloseBracket []) IsTruth (λ b. Unit {0}) told_truth
        (b ∷ bs) h.0 rest h.2 (open_left ts h.0 h.1 g)
    told_value (v.StringList []) ts rest h g = absurd h.2
    told_value (v.StringList (s ∷ ss)) ts rest h g = told_until (terminal_of kind.CloseBracket []) IsString IsUtf8 told_string (s ∷ ss) h.0 rest h.2
        (open_left ts h.0 h.1 g)
    told_value (v.NumberList []) ts rest h g = absurd h.2
    told_value (v.NumberList (n ∷ ns)) ts rest h g = told_until (terminal_of kind.CloseBracket []) IsNumber IsLimited told_number
        (n ∷ ns) h.0 rest h.2 (open_left ts h.0 h.1 g)
    told_value (v.NodeList []) ts rest h g = absurd h.2
    told_value (v.NodeList (n ∷ ns)) ts rest h g = told_until (terminal_of kind.CloseBracket []) Inner Fact told (n ∷ ns) h.0 rest h.2
        (open_left ts h.0 h.1 g)

    told_given : (x : Given NodeText) (ts rest : List Tok) → IsGiven Inner x ts rest → AllGood ts → Told (IsSpellableGiven Fact x) rest
    unfolding word
    told_given given.Nothing ts rest h g = absurd h
    told_given (given.Value x) ts rest h g = told_value x ts rest h g
    told_given (given.Is n) ts rest h g = told_name n h.0 rest h.2 (is_left (word (codes "IS")) ts h.0 h.1 g)

    -- ---- declarations

    module _ (script : Bool) where
      told_declared : (a : Access) (x : Given NodeText) (ts rest : List Tok) → IsDeclared Inner script a x ts rest → AllGood ts
          → Told (IsSpellableDeclared Fact script a x) rest
      unfolding word
      told_declared a given.Nothing ts rest h g = record { fact = h.0; left = subst AllGood (sym h.2) g }
      told_declared a (given.Value x) ts rest h g = let b = told_value x ts rest h.1 g in record { fact = (h.0, b.fact); left = b.left }
      told_declared a (given.Is n) ts rest h g =
          let b = told_name n h.0 rest h.3 (is_left (word (codes "IS")) ts h.0 h.2 g) in
          record { fact = (h.1, b.fact); left = b.left }

      pub told_declaration : (d : Declaration NodeText) (ts rest : List Tok) → IsDeclaration At Inner script d ts rest → AllGood ts
          → Told (IsSpellableDeclaration Fact script d) rest
      unfolding word name_or_access is_access
      told_declaration d ts rest h g =
          let access = such_left (word (codes "field")) _ ts h.0 h.4 g in
          let n = told_name d.name h.1 h.2 h.6 (such_left (word []) _ h.0 h.1 h.5 access) in
          let x = told_declared d.access d.given h.2 rest h.7 n.left in
          record { fact = (n.fact, x.fact); left = x.left }

    -- ---- what stands in a body, and statements

    module _ (Proto : ProtoText → List Tok → List Tok → Type 0) (ProtoFact : ProtoText → Type 0)
        (told_proto : (p : ProtoText) (ts rest : List Tok) → Proto p ts rest → AllGood ts → Told (ProtoFact p) rest) where
      told_item : (node_type : List ℕ) (item : BodyItem) (ts rest : List Tok) → IsItem At Inner Proto node_type item ts rest → AllGood ts
          → Told (IsSpellableItem Fact ProtoFact node_type item) rest
      told_item node_type item ts rest (inl h) g =
          let a = told_name h.name ts h.behind h.named g in
          let b = told_given h.value h.behind rest h.spelled a.left in
          record {
            fact = inl (record { at = h.at; name = h.name; value = h.value; is = h.is; named = a.fact; other = h.other; given = b.fact });
            left = b.left;
          }
      told_item node_type item ts rest (inr (inl h)) g =
          let m = told_route h.route ts rest h.spelled g in
          record { fact = inr (inl (record { route = h.route; is = h.is; spellable = m.fact })); left = m.left }
      told_item node_type item ts rest (inr (inr (inl h))) g =
          let m = told_proto h.proto ts rest h.spelled g in
          record { fact = inr (inr (inl (record { proto = h.proto; is = h.is; spellable = m.fact }))); left = m.left }
      told_item node_type item ts rest (inr (inr (inr h))) g =
          let m = told_declaration true h.declaration ts rest h.spelled g in
          record {
            fact = inr (inr (inr (record { scripted = h.scripted; declaration = h.declaration; is = h.is; spellable = m.fact })));
            left = m.left;
          }

      told_body : (node_type : List ℕ) (items : List BodyItem) (ts rest : List Tok) → IsBody At Inner Proto node_type items ts rest → AllGood ts
          → Told (AllByRecursion (IsSpellableItem Fact ProtoFact node_type) items) rest
      told_body node_type items ts rest h g =
          told_until (terminal_of kind.CloseBrace []) (IsItem At Inner Proto node_type) (IsSpellableItem Fact ProtoFact node_type) (told_item node_type)
          items h.0 rest h.2 (is_left (terminal_of kind.OpenBrace []) ts h.0 h.1 g)

  -- ---- nodes

  module _ (Body : List ℕ → List BodyItem → List Tok → List Tok → Type 0) (Item : List ℕ → BodyItem → Type 0)
      (told : (node_type : List ℕ) (items : List BodyItem) (ts rest : List Tok) → Body node_type items ts rest → AllGood ts
      → Told (AllByRecursion (Item node_type) items) rest) where
    told_def : (def : Option (List ℕ)) (ts a : List Tok) → HasDef def ts a → AllGood ts → Told (IsNameOrNone def) a
    unfolding word
    told_def None ts a h g = record { fact = tt; left = subst AllGood (sym h) g }
    told_def (Some n) ts a h g = told_name n h.0 a h.2 (is_left (word (codes "DEF")) ts h.0 h.1 g)

    begins : (words : List (List ℕ)) (def : Option (List ℕ)) (node_type : List ℕ) (ts a b : List Tok) → HasDef def ts a → IsName node_type a b
        → SeesNoneOf words ts → BeginsWithNoneOf words def node_type
    begins words None node_type ts a b h k w = none_seen words _ a b node_type k (subst (SeesNoneOf words) (sym h) w)
    begins words (Some n) node_type ts a b h k w = tt

    told_layer : (words : List (List ℕ)) (node : NodeText) (ts rest : List Tok) → IsLayer At Body node ts rest → SeesNoneOf words ts → AllGood ts
        → Told (IsSpellableUse node ⊎ IsSpellableFull Item words node) rest
    unfolding word
    told_layer words node ts rest (inl h) w g =
        let a = told_name h.name h.behind rest h.named (is_left (word (codes "USE")) ts h.behind h.word g) in
        record { fact = inl (record { at = h.at; name = h.name; is = h.is; named = a.fact }); left = a.left }
    told_layer words node ts rest (inr h) w g =
        let d = told_def h.def ts h.behind_def h.defined g in
        let a = told_name h.node_type h.behind_def h.behind_type h.typed d.left in
        let b = told h.node_type h.items h.behind_type rest h.body a.left in
        record {
          fact = inr (record {
            at = h.at;
            def = h.def;
            node_type = h.node_type;
            items = h.items;
            is = h.is;
            defined = d.fact;
            typed = a.fact;
            begins = begins words h.def h.node_type ts h.behind_def h.behind_type h.defined h.typed w;
            body = b.fact;
          });
          left = b.left;
        }

  -- ---- PROTOs and statements

  module _ (Inner : NodeText → List Tok → List Tok → Type 0) (Fact : NodeText → Type 0)
      (told : (n : NodeText) (ts rest : List Tok) → Inner n ts rest → AllGood ts → Told (Fact n) rest)
      (Body : List Statement → List Tok → List Tok → Type 0) (BodyFact : List Statement → Type 0)
      (told_inside : (ss : List Statement) (ts rest : List Tok) → Body ss ts rest → AllGood ts → Told (BodyFact ss) rest) where
    told_proto : (p : ProtoText) (ts rest : List Tok) → IsProtoBy At Inner Body p ts rest → AllGood ts
        → Told (IsSpellableProtoBy Fact BodyFact p) rest
    unfolding word
    told_proto p ts rest h g =
        let n = told_name (out-ProtoText p).name h.0 h.1 h.6 (is_left (word (codes "PROTO")) ts h.0 h.5 g) in
        let i = told_until (terminal_of kind.CloseBracket []) (IsDeclaration At Inner false) (IsSpellableDeclaration Fact false)
        (told_declaration Inner Fact told false) (out-ProtoText p).interface h.2 h.3 h.8 (is_left (terminal_of kind.OpenBracket []) h.1 h.2 h.7 n.left) in
        let b = told_inside (out-ProtoText p).body h.3 rest h.9 i.left in
        record { fact = (n.fact, i.fact, b.fact); left = b.left }

  module _ (Inner : NodeText → List Tok → List Tok → Type 0) (Proto : ProtoText → List Tok → List Tok → Type 0) (words : List (List ℕ))
      (Fact : NodeText → Type 0) (ProtoFact : ProtoText → Type 0)
      (told : (n : NodeText) (ts rest : List Tok) → Inner n ts rest → SeesNoneOf (words ++ unread_words) ts → AllGood ts → Told (Fact n) rest)
      (told_one : (p : ProtoText) (ts rest : List Tok) → Proto p ts rest → AllGood ts → Told (ProtoFact p) rest) where
    pub told_statement : (s : Statement) (ts rest : List Tok) → IsStatement At Inner Proto s ts rest → SeesNoneOf words ts → AllGood ts
        → Told (IsSpellableStatement Fact ProtoFact s) rest
    told_statement s ts rest (inl h) w g =
        let n = told h.node ts rest h.spelled (all_words words unread_words ts w (h.no_externproto, (h.no_import, (h.no_export, (h.no_unit, tt))))) g in
        record { fact = inl (record { node = h.node; is = h.is; spellable = n.fact }); left = n.left }
    told_statement s ts rest (inr (inl h)) w g =
        let r = told_route h.route ts rest h.spelled g in
        record { fact = inr (inl (record { route = h.route; is = h.is; spellable = r.fact })); left = r.left }
    told_statement s ts rest (inr (inr h)) w g =
        let p = told_one h.proto ts rest h.spelled g in
        record { fact = inr (inr (record { proto = h.proto; is = h.is; spellable = p.fact })); left = p.left }

  -- ---- nodes and bodies at each depth

  pub record ToldAt (depth : ℕ) : Type 0 where
    pub node : (words : List (List ℕ)) (n : NodeText) (ts rest : List Tok) → IsNode At depth n ts rest → SeesNoneOf words ts → AllGood ts
        → Told (IsSpellableNode depth words n) rest
    pub body : (ss : List Statement) (ts rest : List Tok) → IsProtoBodyAt At depth ss ts rest → AllGood ts → Told (IsSpellableProtoBody depth ss) rest

  module _ (depth : ℕ) (below : ToldAt depth) where
    inner : (n : NodeText) (ts rest : List Tok) → IsNode At depth n ts rest → AllGood ts → Told (IsSpellableNode depth [] n) rest
    inner n ts rest h g = below.node [] n ts rest h tt g

    pub proto_at : (p : ProtoText) (ts rest : List Tok) → IsProto At depth p ts rest → AllGood ts → Told (IsSpellableProto depth p) rest
    proto_at = told_proto (IsNode At depth) (IsSpellableNode depth []) inner (IsProtoBodyAt At depth) (IsSpellableProtoBody depth) below.body

    node_above : (words : List (List ℕ)) (n : NodeText) (ts rest : List Tok) → IsNode At (suc depth) n ts rest → SeesNoneOf words ts → AllGood ts
        → Told (IsSpellableNode (suc depth) words n) rest
    unfolding IsNode IsSpellableNode
    node_above words n ts rest h w g =
        told_layer (IsBody At (IsNode At depth) (IsProto At depth)) (IsSpellableItem (IsSpellableNode depth []) (IsSpellableProto depth))
        (told_body (IsNode At depth) (IsSpellableNode depth []) inner (IsProto At depth) (IsSpellableProto depth) proto_at) words n ts rest h w g

    body_above : (ss : List Statement) (ts rest : List Tok) → IsProtoBodyAt At (suc depth) ss ts rest → AllGood ts
        → Told (IsSpellableProtoBody (suc depth) ss) rest
    unfolding IsProtoBodyAt IsSpellableProtoBody
    body_above ss ts rest h g =
        told_until (terminal_of kind.CloseBrace []) (IsStatement At (IsNode At depth) (IsProto At depth))
        (IsSpellableStatement (IsSpellableNode depth unread_words) (IsSpellableProto depth))
        (λ s us ms j k. told_statement (IsNode At depth) (IsProto At depth) [] (IsSpellableNode depth unread_words) (IsSpellableProto depth)
        (λ n vs os i w l. below.node unread_words n vs os i w l) proto_at s us ms j tt k)
        ss h.0 rest h.2 (is_left (terminal_of kind.OpenBrace []) ts h.0 h.1 g)

  pub told_at : (depth : ℕ) → ToldAt depth
  unfolding IsNode IsProtoBodyAt
  told_at zero = record { node = λ words n ts rest h. absurd h; body = λ ss ts rest h. absurd h }
  told_at (suc depth) = let below = told_at depth in record { node = node_above depth below; body = body_above depth below }
