-- Parts of a tree with other nodes in them.
use Rattle.classic_tree.specs.declared.tree.NodeText.{NodeText}
use Rattle.classic_tree.specs.declared.tree.Given.{Given}
use Rattle.classic_tree.specs.declared.tree.Declaration.{Declaration}
use Rattle.classic_tree.specs.declared.tree.BodyItem.TheShapes.{former-BodyItem-Field-2-at-11, former-BodyItem-Declaration-0-at-16, former-ProtoText-interface-at-16}

-- The names of the formers count the places of their types: they change with each new variant, so they stand here alone.
abbrev pub given_mapped : {M : Type 0} → (NodeText → M) → Given NodeText → Given M
given_mapped {M} f given = former-BodyItem-Field-2-at-11.map NodeText M f given

abbrev pub declaration_mapped : {M : Type 0} → (NodeText → M) → Declaration NodeText → Declaration M
declaration_mapped {M} f declaration = former-BodyItem-Declaration-0-at-16.map NodeText M f declaration

-- the same in a list
abbrev pub interface_mapped : {M : Type 0} → (NodeText → M) → Declaration NodeText → Declaration M
interface_mapped {M} f declaration = former-ProtoText-interface-at-16.map NodeText M f declaration
