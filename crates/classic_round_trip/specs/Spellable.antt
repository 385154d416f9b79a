-- Which documents have a spelling, ignoring lines (ISO/IEC 19776-2, grammar). Their names are
-- names, their strings are UTF-8, and their numbers are within the limit. Declarations are in a
-- Script or an interface, and have a value or not as their access requires. Nodes and the bodies of
-- PROTOs nest no deeper than allowed. No statement begins with a word that means something else
-- there.
use Rattle.std.specs.Prelude.{◌≡◌, ◌≢◌, ◌⊎◌, ℕ, zero, suc, Bool, true, false, List, [], ◌∷◌, ◌++◌, Option, Some, None, IsUtf8, codes}
use Rattle.std.specs.List.{AllByRecursion}
use Rattle.x3d_numerals.specs.NumberText.{IsLimited}
use Rattle.x3d_values.specs.declared.field_type.Access.{Access}
use Rattle.classic_lex.specs.Tokens.{IsIdentifier}
use Rattle.classic_tree.specs.declared.tree.RouteText.{RouteText}
use Rattle.classic_tree.specs.declared.tree.RawValue.{RawValue}
use Rattle.classic_tree.specs.declared.tree.RawValue.TheVariants as v
use Rattle.classic_tree.specs.declared.tree.Given.{Given}
use Rattle.classic_tree.specs.declared.tree.Given.TheVariants as given
use Rattle.classic_tree.specs.declared.tree.Declaration.{Declaration}
use Rattle.classic_tree.specs.declared.tree.BodyItem.{BodyItem}
use Rattle.classic_tree.specs.declared.tree.BodyItem.TheVariants as held
use Rattle.classic_tree.specs.declared.tree.NodeText.{NodeText}
use Rattle.classic_tree.specs.declared.tree.NodeText.TheVariants as made
use Rattle.classic_tree.specs.declared.tree.ProtoText.{ProtoText, out-ProtoText}
use Rattle.classic_tree.specs.declared.tree.Statement.{Statement}
use Rattle.classic_tree.specs.declared.tree.Statement.TheVariants as stands
use Rattle.classic_tree.specs.declared.tree.Meta.{Meta}
use Rattle.classic_tree.specs.declared.tree.Document.{Document}
use Rattle.classic_text.specs.Levels.{HasLevel}
use Rattle.classic_text.specs.Spells.{IsEvent, IsStored, max_depth}

-- ---- names and values

-- the name is none of these words
abbrev pub IsNoneOf : List (List ℕ) → List ℕ → Type 0
IsNoneOf words name = AllByRecursion (λ word. name ≢ word) words

-- the words of the grammar
abbrev pub grammar_words : List (List ℕ)
grammar_words = codes "DEF" ∷ codes "USE" ∷ codes "ROUTE" ∷ codes "TO" ∷ codes "PROTO" ∷ codes "IS"
    ∷ codes "NULL" ∷ codes "TRUE" ∷ codes "FALSE" ∷ []

-- the words of access, and the older words for the same (our choice)
abbrev pub access_words : List (List ℕ)
access_words =
    codes "inputOnly" ∷ codes "outputOnly" ∷ codes "inputOutput" ∷ codes "initializeOnly"
    ∷ codes "eventIn" ∷ codes "eventOut" ∷ codes "exposedField" ∷ codes "field" ∷ []

-- an identifier that is not a reserved word
pub record IsFreeName (name : List ℕ) : Type 0 where
  pub is : IsIdentifier name []
  pub no_word : IsNoneOf grammar_words name
  pub no_access : IsNoneOf access_words name
  pub utf8 : IsUtf8 name

abbrev pub IsSpellableRoute : RouteText → Type 0
IsSpellableRoute r = IsFreeName r.source.node × IsFreeName r.source.field × IsFreeName r.target.node
    × IsFreeName r.target.field

-- one or more items, each with the property P
abbrev pub AreSome : {A : Type 0} → (A → Type 0) → List A → Type 0
AreSome P [] = ⊥
AreSome P (x ∷ xs) = AllByRecursion P (x ∷ xs)

-- values; Inner says which nodes in them are spellable
module _ (Inner : NodeText → Type 0) where
  abbrev pub IsSpellableValue : RawValue NodeText → Type 0
  IsSpellableValue v.Null = Unit {0}
  IsSpellableValue (v.Truth b) = Unit {0}
  IsSpellableValue (v.String s) = IsUtf8 s
  IsSpellableValue (v.Numbers ns) = AreSome IsLimited ns
  IsSpellableValue (v.Node n) = Inner n
  IsSpellableValue v.EmptyList = Unit {0}
  IsSpellableValue (v.TruthList bs) = AreSome (λ (b : Bool). Unit {0}) bs
  IsSpellableValue (v.StringList ss) = AreSome IsUtf8 ss
  IsSpellableValue (v.NumberList ns) = AreSome IsLimited ns
  IsSpellableValue (v.NodeList ns) = AreSome Inner ns

  abbrev pub IsSpellableGiven : Given NodeText → Type 0
  IsSpellableGiven given.Nothing = ⊥
  IsSpellableGiven (given.Value x) = IsSpellableValue x
  IsSpellableGiven (given.Is n) = IsFreeName n

  -- what follows the name in a declaration of a field of that access: `IS name`, only in a Script,
  -- or else a value exactly if the field holds one
  abbrev pub IsSpellableDeclared : Bool → Access → Given NodeText → Type 0
  IsSpellableDeclared script access given.Nothing = IsEvent access
  IsSpellableDeclared script access (given.Value x) = IsStored access × IsSpellableValue x
  IsSpellableDeclared script access (given.Is n) = (script ≡ true) × IsFreeName n

  -- a declaration in a Script, or in the interface of a PROTO
  abbrev pub IsSpellableDeclaration : Bool → Declaration NodeText → Type 0
  IsSpellableDeclaration script d = IsFreeName d.name × IsSpellableDeclared script d.access d.given

-- ---- items of a body

-- Inner and Proto say which nodes and PROTOs in the body are spellable
module _ (Inner : NodeText → Type 0) (Proto : ProtoText → Type 0) where
  pub record IsSpellableField (item : BodyItem) : Type 0 where
    pub at : ℕ
    pub name : List ℕ
    pub value : Given NodeText
    pub is : item ≡ held.Field at name value
    pub named : IsFreeName name
    pub other : name ≢ codes "EXTERNPROTO"
    pub given : IsSpellableGiven Inner value

  pub record IsSpellableRouteItem (item : BodyItem) : Type 0 where
    pub route : RouteText
    pub is : item ≡ held.Route route
    pub spellable : IsSpellableRoute route

  pub record IsSpellableProtoItem (item : BodyItem) : Type 0 where
    pub proto : ProtoText
    pub is : item ≡ held.Proto proto
    pub spellable : Proto proto

  -- only in a Script
  pub record IsSpellableDeclarationItem (node_type : List ℕ) (item : BodyItem) : Type 0 where
    pub scripted : node_type ≡ codes "Script"
    pub declaration : Declaration NodeText
    pub is : item ≡ held.Declaration declaration
    pub spellable : IsSpellableDeclaration Inner true declaration

  abbrev pub IsSpellableItem : List ℕ → BodyItem → Type 0
  IsSpellableItem node_type item =
      IsSpellableField item
      ⊎ (IsSpellableRouteItem item
      ⊎ (IsSpellableProtoItem item ⊎ IsSpellableDeclarationItem node_type item))

-- ---- statements

-- Node and Proto say which nodes and PROTOs are spellable
module _ (Node : NodeText → Type 0) (Proto : ProtoText → Type 0) where
  pub record IsSpellableNodeStatement (statement : Statement) : Type 0 where
    pub node : NodeText
    pub is : statement ≡ stands.Node node
    pub spellable : Node node

  pub record IsSpellableRouteStatement (statement : Statement) : Type 0 where
    pub route : RouteText
    pub is : statement ≡ stands.Route route
    pub spellable : IsSpellableRoute route

  pub record IsSpellableProtoStatement (statement : Statement) : Type 0 where
    pub proto : ProtoText
    pub is : statement ≡ stands.Proto proto
    pub spellable : Proto proto

  abbrev pub IsSpellableStatement : Statement → Type 0
  IsSpellableStatement s = IsSpellableNodeStatement s
      ⊎ (IsSpellableRouteStatement s ⊎ IsSpellableProtoStatement s)

-- words that would begin a statement of another kind
abbrev pub unread_words : List (List ℕ)
unread_words = codes "EXTERNPROTO" ∷ codes "IMPORT" ∷ codes "EXPORT" ∷ codes "UNIT" ∷ []

-- ---- nodes

pub record IsSpellableUse (node : NodeText) : Type 0 where
  pub at : ℕ
  pub name : List ℕ
  pub is : node ≡ made.Use at name
  pub named : IsFreeName name

-- a name or no name
abbrev pub IsNameOrNone : Option (List ℕ) → Type 0
IsNameOrNone None = Unit {0}
IsNameOrNone (Some name) = IsFreeName name

-- without a DEF, the first word is the type, which is none of these words
abbrev pub BeginsWithNoneOf : List (List ℕ) → Option (List ℕ) → List ℕ → Type 0
BeginsWithNoneOf words None node_type = IsNoneOf words node_type
BeginsWithNoneOf words (Some def) node_type = Unit {0}

-- a node with a body that doesn't begin with one of these words; Item says which items are
-- spellable in a node of a type
pub record IsSpellableFull (Item : List ℕ → BodyItem
    → Type 0) (words : List (List ℕ)) (node : NodeText) : Type 0 where
  pub at : ℕ
  pub def : Option (List ℕ)
  pub node_type : List ℕ
  pub items : List BodyItem
  pub is : node ≡ made.Full at def node_type items
  pub defined : IsNameOrNone def
  pub typed : IsFreeName node_type
  pub begins : BeginsWithNoneOf words def node_type
  pub body : AllByRecursion (Item node_type) items

-- a PROTO; Inner says which nodes in its interface are spellable, and Body which bodies
abbrev pub IsSpellableProtoBy : (NodeText → Type 0) → (List Statement → Type 0) → ProtoText → Type 0
IsSpellableProtoBy Inner Body p =
    IsFreeName (out-ProtoText p).name
    × AllByRecursion (IsSpellableDeclaration Inner false) (out-ProtoText p).interface
    × Body (out-ProtoText p).body

-- Nodes that don't begin with one of these words, and bodies of PROTOs. Nodes and bodies nest at
-- most to the given depth, counting themselves. The interface of a PROTO is as deep as the PROTO.
unfoldable mutual
  pub IsSpellableNode : ℕ → List (List ℕ) → NodeText → Type 0
  IsSpellableNode zero words node = ⊥
  IsSpellableNode (suc depth) words node =
      IsSpellableUse node ⊎ IsSpellableFull
      (IsSpellableItem (IsSpellableNode depth [])
      (IsSpellableProtoBy (IsSpellableNode depth []) (IsSpellableProtoBody depth))) words node

  pub IsSpellableProtoBody : ℕ → List Statement → Type 0
  IsSpellableProtoBody zero ss = ⊥
  IsSpellableProtoBody (suc depth) ss =
      AllByRecursion
      (IsSpellableStatement (IsSpellableNode depth unread_words)
      (IsSpellableProtoBy (IsSpellableNode depth []) (IsSpellableProtoBody depth))) ss

abbrev pub IsSpellableProto : ℕ → ProtoText → Type 0
IsSpellableProto depth p =
    IsSpellableProtoBy (IsSpellableNode depth []) (IsSpellableProtoBody depth) p

-- ---- all statements

-- a statement that doesn't begin with one of these words
abbrev pub IsSpellableTopStatement : List (List ℕ) → Statement → Type 0
IsSpellableTopStatement words s =
    IsSpellableStatement (IsSpellableNode max_depth words) (IsSpellableProto max_depth) s

-- words that would be read as a part of the head if the first statement began with them: META,
-- COMPONENT if there is no META, and PROFILE if there is nothing before the statement
abbrev pub head_words : List Meta → List (List ℕ) → Option (List ℕ) → List (List ℕ)
head_words (m ∷ ms) components profile = codes "META" ∷ []
head_words [] (c ∷ cs) profile = codes "META" ∷ codes "COMPONENT" ∷ []
head_words [] [] (Some name) = codes "META" ∷ codes "COMPONENT" ∷ []
head_words [] [] None = codes "META" ∷ codes "COMPONENT" ∷ codes "PROFILE" ∷ []

-- statements, of which the first doesn't begin with one of these words either
abbrev pub AreSpellableStatements : List (List ℕ) → List Statement → Type 0
AreSpellableStatements words [] = Unit {0}
AreSpellableStatements words (s ∷ ss) =
    IsSpellableTopStatement (words ++ unread_words) s
    × AllByRecursion (IsSpellableTopStatement unread_words) ss

-- ---- the head, and a whole document

abbrev pub IsSpellableComponent : List ℕ → Type 0
IsSpellableComponent component = IsFreeName component × HasLevel component

abbrev pub IsSpellableMeta : Meta → Type 0
IsSpellableMeta meta = IsUtf8 meta.key × IsUtf8 meta.content

-- Every document that some text spells is spellable. The text written for a spellable document
-- spells it, ignoring lines and the length of the text.
pub record IsSpellable (d : Document) : Type 0 where
  pub profile : IsNameOrNone d.profile
  pub components : AllByRecursion IsSpellableComponent d.components
  pub metas : AllByRecursion IsSpellableMeta d.metas
  pub statements : AreSpellableStatements (head_words d.metas d.components d.profile) d.statements
