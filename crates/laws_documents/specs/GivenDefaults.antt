-- An instance that is given the default of a field is that instance without the field (ISO/IEC
-- 19775-1, 4.4.4, prototypes). Here the prototype and its instances are of the class of
-- `WithFields`: its body is one node, no values hold nodes, and no other prototypes, USE and ROUTE
-- are in the text.
use Rattle.std.specs.Prelude.{◌≡◌, ℕ, true, false, List, [], ◌∷◌, ◌++◌, Option, Some, Ok}
use Rattle.std.specs.List.{list_all}
use Rattle.classic_tree.specs.declared.tree.BodyItem.{BodyItem}
use Rattle.classic_tree.specs.declared.tree.BodyItem.TheVariants as item
use Rattle.classic_tree.specs.declared.tree.Declaration.{Declaration}
use Rattle.classic_tree.specs.declared.tree.Document.{Document}
use Rattle.classic_tree.specs.declared.tree.Given.TheVariants as given
use Rattle.classic_tree.specs.declared.tree.NodeText.{NodeText}
use Rattle.classic_tree.specs.declared.tree.NodeText.TheVariants as node
use Rattle.classic_tree.specs.declared.tree.RawValue.{RawValue}
use Rattle.classic_tree.specs.declared.tree.Statement.{Statement}
use Rattle.classic_tree.specs.declared.tree.Statement.TheVariants as statement
use Rattle.proto_flat.specs.declared.flat.Flat.{Flat}
use Rattle.proto_meaning.specs.Names.{Name}
use Rattle.proto_meaning.specs.Flat.{flat}
use Rattle.laws_documents.specs.WithFields.{declared, default_of, is_plain, is_quiet_node, is_quiet_statement}

-- proto { items }, with a DEF if it has a name
abbrev pub instance : ℕ → Option Name → Name → List BodyItem → Statement
instance line name proto items = statement.Node (node.Full line name proto items)

-- proto { items field v }
abbrev pub and_given : List BodyItem → ℕ → Name → RawValue NodeText → List BodyItem
and_given items line field v = items ++ item.Field line field (given.Value v) ∷ []

-- `proto { items }` and `proto { items field v }` stand for the same in every document in which
-- neither has a fault, if v is the default of the field
abbrev pub DefaultsMayBeGiven : Type 0
DefaultsMayBeGiven =
    (d : Document) (line : ℕ) (proto : Name) (interface : List (Declaration NodeText))
    (body : NodeText) (before after : List Statement)
    (at : ℕ) (name : Option Name) (items : List BodyItem)
    (below : ℕ) (field : Name) (v : RawValue NodeText) (f g : Flat)
    → list_all (λ (i : Declaration NodeText). is_plain i.given) interface ≡ true
    → is_quiet_node proto false body ≡ true
    → list_all (is_quiet_statement proto true)
    (before ++ instance at name proto (and_given items below field v) ∷ after) ≡ true
    → default_of interface field ≡ Some v
    → flat (declared d line proto interface body (before ++ instance at name proto items ∷ after))
    ≡ Ok f
    → flat (declared d line proto interface body
    (before ++ instance at name proto (and_given items below field v) ∷ after)) ≡ Ok g
    → f ≡ g
