-- A worked document of the class in which all nodes of a body are written out:
--     PROTO P [ inputOutput SFBool on TRUE ] { BooleanToggle { toggle IS on } Group {} }
--     DEF L P {}
--     Shape {}
-- and
--     DEF L BooleanToggle { toggle TRUE }
--     Group {}
--     Shape {}
use Rattle.std.proofs.Common.{◌≡◌, ℕ, ◌&&◌, true, false, List, [], ◌∷◌, ◌++◌, Option, Some, None, Result, Ok, refl, ap, ◌∙◌, subst}
use Rattle.std.specs.Prelude.{codes}
use Rattle.std.specs.List.{list_all, flat_map}
use Rattle.x3d_values.specs.declared.field_type.Access.TheVariants.{InputOutput}
use Rattle.x3d_values.specs.declared.field_type.FieldType.TheVariants.{SFBool}
use Rattle.x3d_values.specs.declared.node_type.NodeType.TheVariants as type
use Rattle.classic_lex.specs.declared.versions.Version.TheVariants.{V3_0}
use Rattle.classic_tree.specs.declared.tree.BodyItem.{BodyItem}
use Rattle.classic_tree.specs.declared.tree.BodyItem.TheVariants as item
use Rattle.classic_tree.specs.declared.tree.Declaration.{Declaration}
use Rattle.classic_tree.specs.declared.tree.Given.TheVariants as given
use Rattle.classic_tree.specs.declared.tree.NodeText.{NodeText}
use Rattle.classic_tree.specs.declared.tree.NodeText.TheVariants as node
use Rattle.classic_tree.specs.declared.tree.RawValue.TheVariants as value
use Rattle.classic_tree.specs.declared.tree.Statement.{Statement}
use Rattle.classic_tree.specs.declared.tree.Statement.TheVariants as statement
use Rattle.proto_flat.specs.declared.fault.ExpandFault.{ExpandFault}
use Rattle.proto_flat.specs.declared.flat.Flat.{Flat}
use Rattle.proto_meaning.specs.Flat.{item_step, node_step, statement_step, proto_step, flat}
use Rattle.proto_meaning.proofs.Known.{KnownStatements, all_statements, is, truth, declaration, declares, field, full, named, proto, a_proto, stands, document}
use Rattle.proto_meaning.proofs.Expected.{flat_field, flat_node, good, by_parts}
use Rattle.laws_documents.specs.WithFields.{named_as, Quiet, is_quiet_node, is_quiet_statement, those_there, found, as_written, finds_nothing, written_node, written_statement}
use Rattle.laws_documents.specs.WithFields.{named as named_text}
use Rattle.laws_documents.specs.WithHelpers.{is_of, is_instance, may_be, node_out, statement_out, written_statements, HelpersAsRoots}
use Rattle.laws_documents.proofs.WithFieldsTexts as texts
use Rattle.laws_documents.proofs.WithFieldsSteps.{out_node}
use Rattle.laws_documents.proofs.WithHelpersSteps.{out_full}
use Rattle.laws_documents.proofs.WithHelpersWhole.{instances_are_all_nodes_of_their_bodies}

abbrev pub toggle_text : KnownStatements
toggle_text =
    all_statements
    (a_proto
    (proto 2 "P"
    (declares 2 InputOutput SFBool "on" (truth true) ∷ [])
    (stands (full 2 "BooleanToggle" (field 2 "toggle" (is "on") ∷ [])) ∷
    stands (full 2 "Group" []) ∷ [])) ∷
    stands (named 3 "L" "P" []) ∷
    stands (full 4 "Shape" []) ∷ [])

abbrev pub toggle_written_text : KnownStatements
toggle_written_text =
    all_statements
    (stands (named 2 "L" "BooleanToggle" (field 2 "toggle" (truth true) ∷ [])) ∷
    stands (full 2 "Group" []) ∷
    stands (full 4 "Shape" []) ∷ [])

abbrev with_helpers : List ℕ → List ℕ → Result Flat ExpandFault
with_helpers roots helpers =
    good
    (flat_node 2 (Some (codes "L")) type.BooleanToggle (flat_field 2 2 (value.Truth true) ∷ []) [] ∷
    flat_node 2 None type.Group [] [] ∷
    flat_node 4 None type.Shape [] [] ∷ [])
    roots
    helpers
    []

abbrev the_first : Flat
the_first =
    record {
      header = record { version = V3_0; profile = None; components = []; metas = [] };
      nodes =
          flat_node 2 (Some (codes "L")) type.BooleanToggle (flat_field 2 2 (value.Truth true) ∷ []) [] ∷
          flat_node 2 None type.Group [] [] ∷
          flat_node 4 None type.Shape [] [] ∷ [];
      roots = 0 ∷ 2 ∷ [];
      helpers = 1 ∷ [];
      routes = [];
    }

-- the Group is a helper of the first, and a root of the second
pub toggle_is : flat (document toggle_text) ≡ with_helpers (0 ∷ 2 ∷ []) (1 ∷ [])
unfolding flat item_step node_step statement_step proto_step
toggle_is = ap by_parts toggle_text.2

pub toggle_written_is : flat (document toggle_written_text) ≡ with_helpers (0 ∷ 1 ∷ 2 ∷ []) []
unfolding flat item_step node_step statement_step proto_step
toggle_written_is = ap by_parts toggle_written_text.2

-- ---- what is written out

abbrev interface : List (Declaration NodeText)
interface = declaration 2 InputOutput SFBool "on" (given.Value (value.Truth true)) ∷ []

abbrev toggle_items : List BodyItem
toggle_items = item.Field 2 (codes "toggle") (given.Is (codes "on")) ∷ []

abbrev body : List NodeText
body = node.Full 2 None (codes "BooleanToggle") toggle_items ∷ node.Full 2 None (codes "Group") [] ∷ []

abbrev an_instance : NodeText
an_instance = node.Full 3 (Some (codes "L")) (codes "P") []

abbrev a_shape : NodeText
a_shape = node.Full 4 None (codes "Shape") []

abbrev rest : List Statement
rest = statement.Node an_instance ∷ statement.Node a_shape ∷ []

-- both nodes of the body, and what stays
toggle_by : written_node (found interface []) as_written (node.Full 2 None (codes "BooleanToggle") toggle_items) ≡ node.Full 2 None (codes "BooleanToggle") (item.Field 2 (codes "toggle") (given.Value (value.Truth true)) ∷ [])
toggle_by =
    texts.written-full (found interface []) as_written 2 None (codes "BooleanToggle") toggle_items
    ∙ ap (λ (i : Option BodyItem). node.Full 2 None (codes "BooleanToggle") (those_there (i ∷ []))) (texts.written-field (found interface []) as_written 2 (codes "toggle") (given.Is (codes "on")))

instance_written : written_statements (codes "P") interface body (statement.Node an_instance)
    ≡ statement.Node (node.Full 2 (Some (codes "L")) (codes "BooleanToggle") (item.Field 2 (codes "toggle") (given.Value (value.Truth true)) ∷ [])) ∷ statement.Node (node.Full 2 None (codes "Group") []) ∷ []
instance_written =
    ap (statement_out (codes "P") interface body (written_statement finds_nothing as_written (statement.Node an_instance))) (out_node an_instance)
    ∙ ap (node_out (codes "P") interface body (written_statement finds_nothing as_written (statement.Node an_instance))) (out_full 3 (Some (codes "L")) (codes "P") [])
    ∙ ap (λ n. statement.Node n ∷ statement.Node (written_node (found interface []) as_written (node.Full 2 None (codes "Group") [])) ∷ []) (ap (named_text (Some (codes "L"))) toggle_by ∙ ap (named_as (codes "L")) (out_full 2 None (codes "BooleanToggle") (item.Field 2 (codes "toggle") (given.Value (value.Truth true)) ∷ [])))
    ∙ ap (λ n. statement.Node (node.Full 2 (Some (codes "L")) (codes "BooleanToggle") (item.Field 2 (codes "toggle") (given.Value (value.Truth true)) ∷ [])) ∷ statement.Node n ∷ []) (texts.written-full (found interface []) as_written 2 None (codes "Group") [])

shape_written : written_statements (codes "P") interface body (statement.Node a_shape) ≡ statement.Node a_shape ∷ []
shape_written =
    ap (statement_out (codes "P") interface body (written_statement finds_nothing as_written (statement.Node a_shape))) (out_node a_shape)
    ∙ ap (node_out (codes "P") interface body (written_statement finds_nothing as_written (statement.Node a_shape))) (out_full 4 None (codes "Shape") [])
    ∙ ap (λ s. s ∷ []) (texts.written-node finds_nothing as_written a_shape ∙ ap (λ n. statement.Node n) (texts.written-full finds_nothing as_written 4 None (codes "Shape") []))

pub all_written : flat_map (written_statements (codes "P") interface body) rest ≡ toggle_written_text.0
all_written =
    ap (λ ss. ss ++ (written_statements (codes "P") interface body (statement.Node a_shape) ++ [])) instance_written
    ∙ ap (λ ss. (statement.Node (node.Full 2 (Some (codes "L")) (codes "BooleanToggle") (item.Field 2 (codes "toggle") (given.Value (value.Truth true)) ∷ [])) ∷ statement.Node (node.Full 2 None (codes "Group") []) ∷ []) ++ (ss ++ [])) shape_written

-- ---- that they are of the class

body_quiet : list_all (is_quiet_node (codes "P") false) body ≡ true
body_quiet =
    ap (λ b. b && (is_quiet_node (codes "P") false (node.Full 2 None (codes "Group") []) && true))
    (texts.quiet-full (codes "P") false 2 None (codes "BooleanToggle") toggle_items ∙ ap (λ (q : Quiet). q.anywhere && true) (texts.quiet-field (codes "P") false 2 (codes "toggle") (given.Is (codes "on"))))
    ∙ ap (λ b. b && true) (texts.quiet-full (codes "P") false 2 None (codes "Group") [])

instance_may : may_be (codes "P") (statement.Node an_instance) ≡ true
instance_may =
    ap (λ b. is_quiet_statement (codes "P") b (statement.Node an_instance)) (ap (is_instance (codes "P")) (out_node an_instance) ∙ ap (is_of (codes "P")) (out_full 3 (Some (codes "L")) (codes "P") []))
    ∙ texts.quiet-node (codes "P") true an_instance ∙ texts.quiet-full (codes "P") true 3 (Some (codes "L")) (codes "P") []

shape_may : may_be (codes "P") (statement.Node a_shape) ≡ true
shape_may =
    ap (λ b. is_quiet_statement (codes "P") b (statement.Node a_shape)) (ap (is_instance (codes "P")) (out_node a_shape) ∙ ap (is_of (codes "P")) (out_full 4 None (codes "Shape") []))
    ∙ texts.quiet-node (codes "P") false a_shape ∙ texts.quiet-full (codes "P") false 4 None (codes "Shape") []

all_may : list_all (may_be (codes "P")) rest ≡ true
all_may = ap (λ b. b && (may_be (codes "P") (statement.Node a_shape) && true)) instance_may ∙ ap (λ b. b && true) shape_may

-- ---- by the law

-- so the second stands for the same, but for the helper
pub toggle_in_place : (f : Flat) × (g : Flat) × (flat (document toggle_text) ≡ Ok f) × (flat (document toggle_written_text) ≡ Ok g) × HelpersAsRoots f g
toggle_in_place =
    let second = subst (λ ss. (g : Flat) × (flat (record (document toggle_written_text) { statements = ss }) ≡ Ok g) × HelpersAsRoots the_first g) all_written
    (instances_are_all_nodes_of_their_bodies (document toggle_text) 2 (codes "P") interface body rest the_first refl body_quiet all_may toggle_is) in
    (the_first, second.0, toggle_is, second.1, second.2)
