-- The state between braces, in the terms of proto_meaning.
use Rattle.std.specs.Prelude.{List, ◌++◌, length, map}
use Rattle.std.specs.Borrow.{Bor}
use Rattle.classic_tree.specs.declared.tree.Declaration.{Declaration}
use Rattle.classic_tree.specs.declared.tree.NodeText.{NodeText}
use Rattle.proto_meaning.specs.Flat as meaning
use Rattle.proto_meaning.specs.Flat.{field}
use Rattle.proto_meaning.specs.Names.{Field, Filled}
use Rattle.proto_parts.specs.Given as given
use Rattle.proto_parts.specs.Fields.{AreFieldsNamed}
use Rattle.proto_parts.specs.declared.inside.Inside.{Inside}
use Rattle.proto_parts.specs.declared.inside.Owner.{Owner}
use Rattle.proto_parts.specs.declared.inside.Owner.TheVariants.{Node, Instance}

abbrev pub fields_of_owner : Owner → List Field
fields_of_owner (Node t) = meaning.fields_of t
fields_of_owner (Instance interface) = interface.now

abbrev pub declared_fields : List (Bor (Declaration NodeText)) → List Field
declared_fields ds = map (λ d. field d.now) ds

-- the fields of the type or the interface, and then those that were declared
abbrev pub fields_in : Inside → List Field
fields_in i = fields_of_owner i.owner ++ declared_fields i.declared.items

abbrev pub filled_in : Inside → List Filled
filled_in i = given.shown i.given

-- the tables hold the declared fields, and what is given
pub record Sound (i : Inside) : Type 0 where
  pub named : AreFieldsNamed i.named (length (fields_of_owner i.owner))
      (declared_fields i.declared.items)
  pub given : given.IsHeld i.given
