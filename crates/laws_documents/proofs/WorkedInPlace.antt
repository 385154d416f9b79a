-- A worked document of the class in which instances are written out:
--     PROTO P [] { Group {} }
--     Group { children [ P {} ] }
-- and
--     Group { children [ Group {} ] }
use Rattle.std.proofs.Common.{◌≡◌, ◌⊎◌, ◌&&◌, true, false, List, [], ◌∷◌, None, Ok, Err, refl, ap, sym, ◌∙◌, subst}
use Rattle.std.specs.Prelude.{codes}
use Rattle.classic_lex.specs.declared.versions.Version.TheVariants.{V3_0}
use Rattle.classic_tree.specs.declared.tree.BodyItem.{BodyItem}
use Rattle.classic_tree.specs.declared.tree.BodyItem.TheVariants as item
use Rattle.classic_tree.specs.declared.tree.Document.{Document}
use Rattle.classic_tree.specs.declared.tree.Given.TheVariants as given
use Rattle.classic_tree.specs.declared.tree.NodeText.{NodeText}
use Rattle.classic_tree.specs.declared.tree.NodeText.TheVariants as node
use Rattle.classic_tree.specs.declared.tree.RawValue.TheVariants as value
use Rattle.classic_tree.specs.declared.tree.Statement.{Statement}
use Rattle.classic_tree.specs.declared.tree.Statement.TheVariants as statement
use Rattle.proto_flat.specs.Fault.{fault}
use Rattle.proto_flat.specs.declared.fault.ExpandFaultKind.TheVariants.{TooLarge}
use Rattle.proto_meaning.specs.Sight.{Sight, no_names}
use Rattle.proto_meaning.specs.Flat.{Stated, Node, node_step, statement_step, proto_step, prototype, flat}
use Rattle.proto_meaning.specs.Flat.{statement as stated}
use Rattle.classic_tree.specs.declared.tree.BodyItem.TheOpen.{NodeText-F, Statement-F}
use Rattle.proto_meaning.proofs.Trees.{node-full, proto_of}
use Rattle.laws_documents.specs.InPlace.{declaration_of, nothing_in_sight, is_quiet_node, is_quiet_statement, written_statement}
use Rattle.laws_documents.proofs.InPlaceTexts.{written-field, written-full, written-node, quiet-field, quiet-full, quiet-node}
use Rattle.laws_documents.proofs.InPlaceWhole.{declaration_is, instances_are_their_bodies}

abbrev group : List BodyItem → NodeText
group items = node.Full 2 None (codes "Group") items

abbrev an_instance : NodeText
an_instance = node.Full 3 None (codes "P") []

abbrev with_child : NodeText → NodeText
with_child n = node.Full 3 None (codes "Group") (item.Field 3 (codes "children") (given.Value (value.NodeList (n ∷ []))) ∷ [])

-- a Group, by its parts
abbrev group_part : Node
group_part = node_step (NodeText-F.Full 2 None (codes "Group") [])

abbrev in_sight : Sight
in_sight =
    record {
      here = prototype 2 (codes "P") [] (statement_step (Statement-F.Node group_part) ∷ []) [] no_names ∷ [];
      outside = [];
      taken = no_names;
    }

group_sound : (statement_step (Statement-F.Statement::Proto (proto_of 2 (codes "P") [] (statement_step (Statement-F.Node group_part) ∷ [])))).1.sees nothing_in_sight ≡ Ok in_sight
unfolding node_step statement_step proto_step
group_sound = refl

sound : (stated (declaration_of 2 (codes "P") (group []))).1.sees nothing_in_sight ≡ Ok in_sight
sound =
    subst (λ (x : Stated). x.1.sees nothing_in_sight ≡ Ok in_sight)
    (sym (declaration_is 2 (codes "P") (group []) ∙ ap (λ n. statement_step (Statement-F.Statement::Proto (proto_of 2 (codes "P") [] (statement_step (Statement-F.Node n) ∷ [])))) (node-full 2 None (codes "Group") [] refl)))
    group_sound

child_quiet : is_quiet_node (codes "P") true an_instance ≡ true
child_quiet = quiet-full (codes "P") true 3 None (codes "P") []

quiet : is_quiet_statement (codes "P") true (statement.Node (with_child an_instance)) ≡ true
quiet =
    quiet-node (codes "P") true (with_child an_instance)
    ∙ quiet-full (codes "P") true 3 None (codes "Group") (item.Field 3 (codes "children") (given.Value (value.NodeList (an_instance ∷ []))) ∷ [])
    ∙ ap (λ b. b && true) (quiet-field (codes "P") true 3 (codes "children") (given.Value (value.NodeList (an_instance ∷ []))) ∙ ap (λ b. b && true) child_quiet)

written : written_statement (codes "P") (group []) (statement.Node (with_child an_instance)) ≡ statement.Node (with_child (group []))
written =
    written-node (codes "P") (group []) (with_child an_instance)
    ∙ ap (λ n. statement.Node n) (written-full (codes "P") (group []) 3 None (codes "Group") (item.Field 3 (codes "children") (given.Value (value.NodeList (an_instance ∷ []))) ∷ [])
    ∙ ap (λ (i : BodyItem). node.Full 3 None (codes "Group") (i ∷ [])) (written-field (codes "P") (group []) 3 (codes "children") (given.Value (value.NodeList (an_instance ∷ [])))
    ∙ ap (λ n. item.Field 3 (codes "children") (given.Value (value.NodeList (n ∷ [])))) (written-full (codes "P") (group []) 3 None (codes "P") [])))

abbrev document : List Statement → Document
document statements = record { version = V3_0; profile = None; components = []; metas = []; statements = statements }

abbrev first : Document
first = document (declaration_of 2 (codes "P") (group []) ∷ statement.Node (with_child an_instance) ∷ [])

pub group_in_place : (flat first ≡ flat (document (statement.Node (with_child (group [])) ∷ []))) ⊎ (flat first ≡ Err (fault TooLarge 0))
group_in_place =
    subst (λ s. (flat first ≡ flat (document (s ∷ []))) ⊎ (flat first ≡ Err (fault TooLarge 0))) written
    (instances_are_their_bodies first 2 (codes "P") (group []) (statement.Node (with_child an_instance) ∷ []) in_sight sound (quiet-full (codes "P") false 2 None (codes "Group") []) (ap (λ b. b && true) quiet))
