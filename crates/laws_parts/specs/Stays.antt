-- What stays of a text's tree: some of its nodes, fields, routes and prototypes, each as it was, in
-- its order and inside of what it was in (ISO/IEC 19776-2, grammar).
use Rattle.std.specs.Prelude.{◌≡◌, ◌⊎◌, ℕ, List, [], ◌∷◌, ◌++◌, Option, map, codes}
use Rattle.classic_tree.specs.declared.tree.BodyItem.{BodyItem}
use Rattle.classic_tree.specs.declared.tree.BodyItem.TheVariants as held
use Rattle.classic_tree.specs.declared.tree.Declaration.{Declaration}
use Rattle.classic_tree.specs.declared.tree.Document.{Document}
use Rattle.classic_tree.specs.declared.tree.Given.{Given}
use Rattle.classic_tree.specs.declared.tree.Given.TheVariants as given
use Rattle.classic_tree.specs.declared.tree.NodeText.{NodeText}
use Rattle.classic_tree.specs.declared.tree.NodeText.TheVariants as made
use Rattle.classic_tree.specs.declared.tree.ProtoText.{ProtoText, out-ProtoText}
use Rattle.classic_tree.specs.declared.tree.RawValue.{RawValue}
use Rattle.classic_tree.specs.declared.tree.RawValue.TheVariants as value
use Rattle.classic_tree.specs.declared.tree.Statement.{Statement}
use Rattle.classic_tree.specs.declared.tree.Statement.TheVariants as stands
use Rattle.classic_part.specs.Part.{plain, declared_as}
use Rattle.classic_part.specs.Rounds.{after}

-- a part of a tree
pub data Piece : Type 0 where
  an_item : BodyItem → Piece
  a_node : NodeText → Piece
  a_declaration : Declaration NodeText → Piece
  a_statement : Statement → Piece
  a_proto : ProtoText → Piece

-- the nodes in a value, in their order
abbrev pub nodes_in : RawValue NodeText → List Piece
nodes_in (value.Node n) = a_node n ∷ []
nodes_in (value.NodeList ns) = map a_node ns
nodes_in _ = []

abbrev pub nodes_of : Given NodeText → List Piece
nodes_of (given.Value v) = nodes_in v
nodes_of _ = []

-- what a name is given, but for the nodes in it
abbrev pub but_nodes : Given NodeText → Given NodeText
but_nodes (given.Value v) = given.Value (plain v)
but_nodes g = g

-- the declarations of a prototype's interface, and the statements of its body
abbrev pub inside : ProtoText → List Piece
inside p =
    map a_declaration (out-ProtoText p).interface ++ map a_statement (out-ProtoText p).body

-- the word before the braces, which of a grouping node outside the table is that of one in it
abbrev pub IsWord : List ℕ → List ℕ → Type 0
IsWord kept word = (kept ≡ word) ⊎ ((kept ≡ codes "Group") ⊎ (kept ≡ codes "Transform"))

-- the name of a field, which of the children of a grouping node is `children`
abbrev pub IsName : List ℕ → List ℕ → Type 0
IsName kept name = (kept ≡ name) ⊎ (kept ≡ codes "children")

-- what a declared field is given, which without its only node is NULL
abbrev pub IsDefault : Given NodeText → Given NodeText → Type 0
IsDefault kept g = (but_nodes kept ≡ but_nodes g) ⊎ (kept ≡ given.Value value.Null)

-- The first pieces stay of the second: one goes; or one stays unchanged, or with what stays inside
-- of it; or this is done again and again.
pub data Stay : List Piece → List Piece → Type 0 where
  nothing : Stay [] []
  gone : {kept all : List Piece} {piece : Piece} → Stay kept all → Stay kept (piece ∷ all)
  same : {kept all : List Piece} {piece : Piece} → Stay kept all
      → Stay (piece ∷ kept) (piece ∷ all)
  again : {kept all : List Piece} (mid : List Piece) → Stay kept mid → Stay mid all
      → Stay kept all
  field : {kept all : List Piece} (line : ℕ) (name named : List ℕ) (g h : Given NodeText)
      → IsName named name → but_nodes h ≡ but_nodes g → Stay (nodes_of h) (nodes_of g)
      → Stay kept all
      → Stay (an_item (held.Field line named h) ∷ kept) (an_item (held.Field line name g) ∷ all)
  declared : {kept all : List Piece} (d : Declaration NodeText) (g : Given NodeText)
      → IsDefault g d.given → Stay (nodes_of g) (nodes_of d.given) → Stay kept all
      → Stay (a_declaration (declared_as d g) ∷ kept) (a_declaration d ∷ all)
  item_declared : {kept all : List Piece} (d e : Declaration NodeText)
      → Stay (a_declaration e ∷ []) (a_declaration d ∷ []) → Stay kept all
      → Stay (an_item (held.Declaration e) ∷ kept) (an_item (held.Declaration d) ∷ all)
  item_proto : {kept all : List Piece} (p q : ProtoText)
      → Stay (a_proto q ∷ []) (a_proto p ∷ []) → Stay kept all
      → Stay (an_item (held.Proto q) ∷ kept) (an_item (held.Proto p) ∷ all)
  full : {kept all : List Piece} (line : ℕ) (name : Option (List ℕ)) (word worded : List ℕ)
      (items less : List BodyItem) → IsWord worded word
      → Stay (map an_item less) (map an_item items) → Stay kept all
      → Stay (a_node (made.Full line name worded less) ∷ kept)
      (a_node (made.Full line name word items) ∷ all)
  node_statement : {kept all : List Piece} (n m : NodeText)
      → Stay (a_node m ∷ []) (a_node n ∷ []) → Stay kept all
      → Stay (a_statement (stands.Node m) ∷ kept) (a_statement (stands.Node n) ∷ all)
  proto_statement : {kept all : List Piece} (p q : ProtoText)
      → Stay (a_proto q ∷ []) (a_proto p ∷ []) → Stay kept all
      → Stay (a_statement (stands.Proto q) ∷ kept) (a_statement (stands.Proto p) ∷ all)
  proto : {kept all : List Piece} (p q : ProtoText)
      → (out-ProtoText q).line ≡ (out-ProtoText p).line
      → (out-ProtoText q).name ≡ (out-ProtoText p).name → Stay (inside q) (inside p)
      → Stay kept all → Stay (a_proto q ∷ kept) (a_proto p ∷ all)

-- a document has the header of another, and what stays of its statements
pub record IsOf (document part : Document) : Type 0 where
  pub version : part.version ≡ document.version
  pub profile : part.profile ≡ document.profile
  pub components : part.components ≡ document.components
  pub metas : part.metas ≡ document.metas
  pub statements : Stay (map a_statement part.statements) (map a_statement document.statements)

-- whatever is refused, and after any number of rounds
abbrev pub WhatStaysIsAsItWas : Type 0
WhatStaysIsAsItWas =
    (n : ℕ) (refused : List ℕ) (d : Document) → IsOf d (after n refused d).document
