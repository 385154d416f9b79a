-- Worked documents: the names that DEF gives, in bodies, of instances and nested.
-- Each stands behind the line `#X3D V3.0 utf8`, so it begins on line 2; a line that is indented
-- deeper goes on with the one before. What it stands for was written by hand, from the rules.
use Rattle.std.proofs.Common.{◌≡◌, [], ◌∷◌, Some, None, Err, ap}
use Rattle.std.specs.Prelude.{codes}
use Rattle.x3d_values.specs.declared.field_type.Access.TheVariants.{InitializeOnly}
use Rattle.x3d_values.specs.declared.field_type.FieldType.TheVariants.{MFNode}
use Rattle.x3d_values.specs.declared.node_type.NodeType.TheVariants as type
use Rattle.classic_tree.specs.declared.tree.RawValue.TheVariants as value
use Rattle.proto_flat.specs.Fault.{fault}
use Rattle.proto_flat.specs.declared.fault.ExpandFaultKind.TheVariants as fault_kind
use Rattle.proto_flat.specs.declared.flat.FlatEnd.TheVariants.{At}
use Rattle.proto_meaning.specs.Flat.{item_step, node_step, statement_step, proto_step, flat}
use Rattle.proto_meaning.proofs.Known.{KnownStatements, all_statements, is, a_node, declares, field, route_inside, used, full, named, proto, a_proto, stands, document}
use Rattle.proto_meaning.proofs.Expected.{flat_field, flat_node, flat_route, good, by_parts}

-- A body has names of its own; an instance without a name keeps that of the body.
--     DEF A Group {}
--     PROTO P [] { DEF A Switch {} Group { children USE A } }
--     P {}
--     USE A
abbrev pub names_of_a_body_text : KnownStatements
names_of_a_body_text =
    all_statements
    (stands (named 2 "A" "Group" []) ∷
    a_proto
    (proto 3 "P" []
    (stands (named 3 "A" "Switch" []) ∷
    stands (full 3 "Group" (field 3 "children" (a_node (used 3 "A")) ∷ [])) ∷ [])) ∷
    stands (full 4 "P" []) ∷
    stands (used 5 "A") ∷ [])

pub names_of_a_body : flat (document names_of_a_body_text) ≡
    good
    (flat_node 2 (Some (codes "A")) type.Group [] [] ∷
    flat_node 3 (Some (codes "A")) type.Switch [] [] ∷
    flat_node 3 None type.Group (flat_field 3 3 (value.Node 1) ∷ []) [] ∷ [])
    (0 ∷ 1 ∷ 0 ∷ [])
    (2 ∷ [])
    []
unfolding flat item_step node_step statement_step proto_step
names_of_a_body = ap by_parts names_of_a_body_text.2

-- A name outside is not one of the body.
--     DEF A Group {} PROTO P [] {
--     USE A }
--     P {}
abbrev pub name_outside_text : KnownStatements
name_outside_text =
    all_statements
    (stands (named 2 "A" "Group" []) ∷
    a_proto (proto 2 "P" [] (stands (used 3 "A") ∷ [])) ∷
    stands (full 4 "P" []) ∷ [])

pub name_outside : flat (document name_outside_text) ≡ Err (fault fault_kind.UseWithoutDef 3)
unfolding flat item_step node_step statement_step proto_step
name_outside = ap by_parts name_outside_text.2

-- The first node takes the name of the instance, or keeps its own.
--     PROTO A [] { DEF a Group {} }
--     PROTO B [] { DEF b A {} }
--     DEF c B {} B {} A {}
abbrev pub name_of_an_instance_text : KnownStatements
name_of_an_instance_text =
    all_statements
    (a_proto (proto 2 "A" [] (stands (named 2 "a" "Group" []) ∷ [])) ∷
    a_proto (proto 3 "B" [] (stands (named 3 "b" "A" []) ∷ [])) ∷
    stands (named 4 "c" "B" []) ∷
    stands (full 4 "B" []) ∷
    stands (full 4 "A" []) ∷ [])

pub name_of_an_instance : flat (document name_of_an_instance_text) ≡
    good
    (flat_node 2 (Some (codes "c")) type.Group [] [] ∷
    flat_node 2 (Some (codes "b")) type.Group [] [] ∷
    flat_node 2 (Some (codes "a")) type.Group [] [] ∷ [])
    (0 ∷ 1 ∷ 2 ∷ [])
    []
    []
unfolding flat item_step node_step statement_step proto_step
name_of_an_instance = ap by_parts name_of_an_instance_text.2

-- A body that begins with a USE of a node of its default.
--     PROTO P [ initializeOnly MFNode c DEF D Group {} ] { USE D Group { children IS c } }
--     DEF X P {}
abbrev pub body_begins_with_use_text : KnownStatements
body_begins_with_use_text =
    all_statements
    (a_proto
    (proto 2 "P"
    (declares 2 InitializeOnly MFNode "c" (a_node (named 2 "D" "Group" [])) ∷ [])
    (stands (used 2 "D") ∷
    stands (full 2 "Group" (field 2 "children" (is "c") ∷ [])) ∷ [])) ∷
    stands (named 3 "X" "P" []) ∷ [])

pub body_begins_with_use : flat (document body_begins_with_use_text) ≡
    good
    (flat_node 2 (Some (codes "X")) type.Group [] [] ∷
    flat_node 2 None type.Group (flat_field 2 3 (value.Node 0) ∷ []) [] ∷ [])
    (0 ∷ [])
    (1 ∷ [])
    []
unfolding flat item_step node_step statement_step proto_step
body_begins_with_use = ap by_parts body_begins_with_use_text.2

-- USE names the nearest by the place of the word DEF; ROUTE also an enclosing one.
--     DEF A Group { children DEF A Switch {} }
--     USE A
--     DEF B Group { ROUTE B.x TO A.y }
abbrev pub equal_names_nested_text : KnownStatements
equal_names_nested_text =
    all_statements
    (stands (named 2 "A" "Group" (field 2 "children" (a_node (named 2 "A" "Switch" [])) ∷ [])) ∷
    stands (used 3 "A") ∷
    stands (named 4 "B" "Group" (route_inside 4 "B" "x" "A" "y" ∷ [])) ∷ [])

pub equal_names_nested : flat (document equal_names_nested_text) ≡
    good
    (flat_node 2 (Some (codes "A")) type.Switch [] [] ∷
    flat_node 2 (Some (codes "A")) type.Group (flat_field 2 3 (value.Node 0) ∷ []) [] ∷
    flat_node 4 (Some (codes "B")) type.Group [] [] ∷ [])
    (1 ∷ 0 ∷ 2 ∷ [])
    []
    (flat_route 4 (At 2 (codes "x")) (At 0 (codes "y")) ∷ [])
unfolding flat item_step node_step statement_step proto_step
equal_names_nested = ap by_parts equal_names_nested_text.2
