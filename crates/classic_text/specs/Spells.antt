-- Which tokens spell which tree, rule by rule (ISO/IEC 19776-2, grammar). Each relation takes the
-- tokens, and the rest of them after the part that it describes.
use Rattle.std.specs.Prelude.{◌≡◌, ◌≢◌, ◌⊎◌, ℕ, zero, suc, Bool, true, false, List, [], ◌∷◌, Option, Some, None, codes}
use Rattle.x3d_values.specs.declared.field_type.Access.{Access}
use Rattle.x3d_values.specs.declared.field_type.Access.TheVariants.{InputOnly, OutputOnly, InputOutput, InitializeOnly}
use Rattle.classic_lex.specs.Lexed.{Tok}
use Rattle.classic_lex.specs.Tokens.{HasTokens, HasVersion}
pub use Rattle.x3d_values.specs.Ranges.{max_depth}
use Rattle.classic_tree.specs.declared.tree.RouteText.{RouteText}
use Rattle.classic_tree.specs.declared.tree.RawValue.{RawValue}
use Rattle.classic_tree.specs.declared.tree.RawValue.TheVariants as v
use Rattle.classic_tree.specs.declared.tree.Given.{Given}
use Rattle.classic_tree.specs.declared.tree.Given.TheVariants as given
use Rattle.classic_tree.specs.declared.tree.Declaration.{Declaration}
use Rattle.classic_tree.specs.declared.tree.ProtoText.{ProtoText, out-ProtoText}
use Rattle.classic_tree.specs.declared.tree.BodyItem.{BodyItem}
use Rattle.classic_tree.specs.declared.tree.BodyItem.TheVariants as held
use Rattle.classic_tree.specs.declared.tree.NodeText.{NodeText}
use Rattle.classic_tree.specs.declared.tree.NodeText.TheVariants as made
use Rattle.classic_tree.specs.declared.tree.Statement.{Statement}
use Rattle.classic_tree.specs.declared.tree.Statement.TheVariants as stands
use Rattle.classic_tree.specs.declared.tree.Meta.{Meta}
use Rattle.classic_tree.specs.declared.tree.Document.{Document}
use Rattle.classic_text.specs.declared.terminal.Terminal.TheVariants as t
use Rattle.classic_text.specs.Terminal.{line}
use Rattle.classic_text.specs.Levels.{HasLevel}
pub use Rattle.classic_text.specs.TokenRuns.{Is, IsSuch, NotAhead, NotWordAhead, IsName, IsString, IsNumber, IsTruth, IsAccess, IsFieldType, IsPlace, AreNumbers, AreSomeNumbers, AreUntil, AreListed, HasDef}

-- ---- the head

-- one token, which is this word
abbrev pub IsWord : List ℕ → List Tok → List Tok → Type 0
IsWord w [] rest = ⊥
IsWord w (x ∷ ts) rest = (x.text ≡ w) × (rest ≡ ts)

-- `PROFILE name`; or no profile, and the next token is not that word
abbrev pub IsProfile : Option (List ℕ) → List Tok → List Tok → Type 0
IsProfile None ts rest = NotWordAhead (codes "PROFILE") ts × (rest ≡ ts)
IsProfile (Some n) ts rest = (a : List Tok) × IsWord (codes "PROFILE") ts a × IsName n a rest

-- `COMPONENT name:level`
abbrev pub IsComponent : List ℕ → List Tok → List Tok → Type 0
IsComponent c ts rest = (a : List Tok) × IsWord (codes "COMPONENT") ts a
    × IsSuch t.Name (λ text. (text ≡ c) × HasLevel text) a rest

-- `META "key" "content"`
abbrev pub IsMeta : Meta → List Tok → List Tok → Type 0
IsMeta m ts rest = (a : List Tok) × (b : List Tok) × IsWord (codes "META") ts a × IsString m.key a b
    × IsString m.content b rest

-- items until the next token isn't that word
abbrev pub AreEach : {A : Type 0} → List ℕ → (A → List Tok → List Tok → Type 0) → List A → List Tok
    → List Tok → Type 0
AreEach w Item [] ts rest = NotWordAhead w ts × (rest ≡ ts)
AreEach w Item (x ∷ xs) ts rest = (a : List Tok) × Item x ts a × AreEach w Item xs a rest

-- ---- access

-- a field that takes or sends events and holds no value
abbrev pub IsEvent : Access → Type 0
IsEvent a = (a ≡ InputOnly) ⊎ (a ≡ OutputOnly)

-- a field that holds a value
abbrev pub IsStored : Access → Type 0
IsStored a = (a ≡ InputOutput) ⊎ (a ≡ InitializeOnly)

-- ---- values and nodes

-- values; Inner says which tokens spell a node in them
module _ (Inner : NodeText → List Tok → List Tok → Type 0) where
  -- a list after its opening bracket
  abbrev pub IsList : RawValue NodeText → List Tok → List Tok → Type 0
  IsList v.EmptyList ts rest = Is t.CloseBracket ts rest
  IsList (v.TruthList bs) ts rest = AreListed IsTruth bs ts rest
  IsList (v.StringList ss) ts rest = AreListed IsString ss ts rest
  IsList (v.NumberList ns) ts rest = AreListed IsNumber ns ts rest
  IsList (v.NodeList ns) ts rest = AreListed Inner ns ts rest
  IsList _ ts rest = ⊥

  abbrev pub IsBracketed : RawValue NodeText → List Tok → List Tok → Type 0
  IsBracketed x ts rest = (a : List Tok) × Is t.OpenBracket ts a × IsList x a rest

  abbrev pub IsValue : RawValue NodeText → List Tok → List Tok → Type 0
  IsValue v.Null ts rest = Is t.Null ts rest
  IsValue (v.Truth b) ts rest = IsTruth b ts rest
  IsValue (v.String s) ts rest = IsString s ts rest
  IsValue (v.Numbers ns) ts rest = AreSomeNumbers ns ts rest
  IsValue (v.Node n) ts rest = Inner n ts rest
  IsValue x ts rest = IsBracketed x ts rest

  -- a value, or `IS name`
  abbrev pub IsGiven : Given NodeText → List Tok → List Tok → Type 0
  IsGiven given.Nothing ts rest = ⊥
  IsGiven (given.Value x) ts rest = IsValue x ts rest
  IsGiven (given.Is n) ts rest = (a : List Tok) × Is t.Is ts a × IsName n a rest

  -- What follows the name in a declaration of a field of that access: `IS name`, only in a Script,
  -- or else a value exactly if the field holds one. The flag says whether the declaration is in a
  -- Script or in the interface of a PROTO.
  abbrev pub IsDeclared : Bool → Access → Given NodeText → List Tok → List Tok → Type 0
  IsDeclared script a given.Nothing ts rest = IsEvent a × NotAhead t.Is ts × (rest ≡ ts)
  IsDeclared script a (given.Value x) ts rest = IsStored a × IsValue x ts rest
  IsDeclared script a (given.Is n) ts rest = (b : List Tok) × (script ≡ true) × Is t.Is ts b
      × IsName n b rest

-- At says which lines a tree may have for a token on a given line
module _ (At : ℕ → ℕ → Type 0) where
  -- `ROUTE source TO target`
  abbrev pub IsRoute : RouteText → List Tok → List Tok → Type 0
  IsRoute r ts rest =
      (a : List Tok) × (b : List Tok) × (c : List Tok) × At (line ts) r.line × Is t.Route ts a
      × IsPlace r.source a b × Is t.To b c × IsPlace r.target c rest

  -- an access, a type, a name, and what follows the name
  abbrev pub IsDeclaration : (NodeText → List Tok → List Tok → Type 0) → Bool → Declaration NodeText
      → List Tok → List Tok → Type 0
  IsDeclaration Inner script d ts rest =
      (a : List Tok) × (b : List Tok) × (c : List Tok) × At (line ts) d.line
      × IsAccess d.access ts a × IsFieldType d.field_type a b × IsName d.name b c
      × IsDeclared Inner script d.access d.given c rest

  -- items of a body; Inner and Proto say which tokens spell a node and a PROTO in them
  module _ (Inner : NodeText → List Tok → List Tok → Type 0) (Proto : ProtoText → List Tok
      → List Tok → Type 0) where
    -- a field's name, which is not EXTERNPROTO, and then its value or `IS name`
    pub record IsField (item : BodyItem) (ts rest : List Tok) : Type 0 where
      pub at : ℕ
      pub name : List ℕ
      pub value : Given NodeText
      pub is : item ≡ held.Field at name value
      pub lined : At (line ts) at
      pub other : name ≢ codes "EXTERNPROTO"
      pub behind : List Tok
      pub named : IsName name ts behind
      pub spelled : IsGiven Inner value behind rest

    pub record IsRouteItem (item : BodyItem) (ts rest : List Tok) : Type 0 where
      pub route : RouteText
      pub is : item ≡ held.Route route
      pub spelled : IsRoute route ts rest

    pub record IsProtoItem (item : BodyItem) (ts rest : List Tok) : Type 0 where
      pub proto : ProtoText
      pub is : item ≡ held.Proto proto
      pub spelled : Proto proto ts rest

    -- only in a Script
    pub record IsDeclarationItem (node_type : List ℕ) (item : BodyItem)
        (ts rest : List Tok) : Type 0 where
      pub scripted : node_type ≡ codes "Script"
      pub declaration : Declaration NodeText
      pub is : item ≡ held.Declaration declaration
      pub spelled : IsDeclaration Inner true declaration ts rest

    abbrev pub IsItem : List ℕ → BodyItem → List Tok → List Tok → Type 0
    IsItem node_type item ts rest = IsField item ts rest
        ⊎ (IsRouteItem item ts rest
        ⊎ (IsProtoItem item ts rest ⊎ IsDeclarationItem node_type item ts rest))

    -- the braces of a node of this type and the items between them
    abbrev pub IsBody : List ℕ → List BodyItem → List Tok → List Tok → Type 0
    IsBody node_type items ts rest = (a : List Tok) × Is t.OpenBrace ts a
        × AreUntil t.CloseBrace (IsItem node_type) items a rest

    -- a node; the four words begin statements that are not supported (our choice)
    pub record IsNodeStatement (statement : Statement) (ts rest : List Tok) : Type 0 where
      pub node : NodeText
      pub is : statement ≡ stands.Node node
      pub spelled : Inner node ts rest
      pub no_externproto : NotWordAhead (codes "EXTERNPROTO") ts
      pub no_import : NotWordAhead (codes "IMPORT") ts
      pub no_export : NotWordAhead (codes "EXPORT") ts
      pub no_unit : NotWordAhead (codes "UNIT") ts

    pub record IsRouteStatement (statement : Statement) (ts rest : List Tok) : Type 0 where
      pub route : RouteText
      pub is : statement ≡ stands.Route route
      pub spelled : IsRoute route ts rest

    pub record IsProtoStatement (statement : Statement) (ts rest : List Tok) : Type 0 where
      pub proto : ProtoText
      pub is : statement ≡ stands.Proto proto
      pub spelled : Proto proto ts rest

    abbrev pub IsStatement : Statement → List Tok → List Tok → Type 0
    IsStatement s ts rest = IsNodeStatement s ts rest
        ⊎ (IsRouteStatement s ts rest ⊎ IsProtoStatement s ts rest)

    -- the braces of a PROTO and the statements between them
    abbrev pub IsProtoBody : List Statement → List Tok → List Tok → Type 0
    IsProtoBody ss ts rest = (a : List Tok) × Is t.OpenBrace ts a
        × AreUntil t.CloseBrace IsStatement ss a rest

  -- `PROTO name [ declarations ]`, and then a body
  abbrev pub IsProtoBy : (NodeText → List Tok → List Tok → Type 0)
      → (List Statement → List Tok → List Tok → Type 0) → ProtoText → List Tok → List Tok → Type 0
  IsProtoBy Inner Body p ts rest =
      (a : List Tok) × (b : List Tok) × (c : List Tok) × (d : List Tok)
      × At (line ts) (out-ProtoText p).line × Is t.Proto ts a
      × IsName (out-ProtoText p).name a b × Is t.OpenBracket b c
      × AreUntil t.CloseBracket (IsDeclaration Inner false) (out-ProtoText p).interface c d
      × Body (out-ProtoText p).body d rest

  -- `USE name`
  pub record IsUse (node : NodeText) (ts rest : List Tok) : Type 0 where
    pub at : ℕ
    pub name : List ℕ
    pub is : node ≡ made.Use at name
    pub lined : At (line ts) at
    pub behind : List Tok
    pub word : Is t.Use ts behind
    pub named : IsName name behind rest

  -- a node with a body; Body says which tokens spell the body of a node of a type
  pub record IsFull (Body : List ℕ → List BodyItem → List Tok → List Tok
      → Type 0) (node : NodeText) (ts rest : List Tok) : Type 0 where
    pub at : ℕ
    pub def : Option (List ℕ)
    pub node_type : List ℕ
    pub items : List BodyItem
    pub is : node ≡ made.Full at def node_type items
    pub lined : At (line ts) at
    pub behind_def : List Tok
    pub behind_type : List Tok
    pub defined : HasDef def ts behind_def
    pub typed : IsName node_type behind_def behind_type
    pub body : Body node_type items behind_type rest

  abbrev pub IsLayer : (List ℕ → List BodyItem → List Tok → List Tok → Type 0) → NodeText → List Tok
      → List Tok → Type 0
  IsLayer Body node ts rest = IsUse node ts rest ⊎ IsFull Body node ts rest

  -- Nodes, and bodies of PROTOs. Nodes and bodies nest at most to the given depth, counting
  -- themselves. The interface of a PROTO is as deep as the PROTO.
  unfoldable mutual
    pub IsNode : ℕ → NodeText → List Tok → List Tok → Type 0
    IsNode zero node ts rest = ⊥
    IsNode (suc depth) node ts rest =
        IsLayer (IsBody (IsNode depth) (IsProtoBy (IsNode depth) (IsProtoBodyAt depth))) node ts
        rest

    pub IsProtoBodyAt : ℕ → List Statement → List Tok → List Tok → Type 0
    IsProtoBodyAt zero ss ts rest = ⊥
    IsProtoBodyAt (suc depth) ss ts rest =
        IsProtoBody (IsNode depth) (IsProtoBy (IsNode depth) (IsProtoBodyAt depth)) ss ts rest

  abbrev pub IsProto : ℕ → ProtoText → List Tok → List Tok → Type 0
  IsProto depth p ts rest = IsProtoBy (IsNode depth) (IsProtoBodyAt depth) p ts rest

  abbrev pub IsTopStatement : Statement → List Tok → List Tok → Type 0
  IsTopStatement s ts rest = IsStatement (IsNode max_depth) (IsProto max_depth) s ts rest

  -- statements that take all of the tokens
  abbrev pub AreStatements : List Statement → List Tok → Type 0
  AreStatements [] ts = ts ≡ []
  AreStatements (s ∷ ss) ts = (a : List Tok) × IsTopStatement s ts a × AreStatements ss a

  -- the tokens of a text spell the document
  pub record IsSpelling (tokens : List Tok) (d : Document) : Type 0 where
    pub behind_profile : List Tok
    pub behind_components : List Tok
    pub behind_metas : List Tok
    pub profile : IsProfile d.profile tokens behind_profile
    pub components : AreEach (codes "COMPONENT") IsComponent d.components behind_profile
        behind_components
    pub metas : AreEach (codes "META") IsMeta d.metas behind_components behind_metas
    pub statements : AreStatements d.statements behind_metas

  -- The text spells the document.
  pub record IsSpelled (text : List ℕ) (d : Document) : Type 0 where
    pub version : HasVersion text d.version
    pub tokens : List Tok
    pub has : HasTokens text tokens
    pub spelling : IsSpelling tokens d

-- The text spells the document, lines included.
abbrev pub Spells : List ℕ → Document → Type 0
Spells text d = IsSpelled ◌≡◌ text d

-- The text spells the document, ignoring lines.
abbrev pub SpellsButLines : List ℕ → Document → Type 0
SpellsButLines text d = IsSpelled (λ there here. Unit {0}) text d
