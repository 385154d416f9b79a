-- Worked documents: what is in sight whatever an instance gives, and what is left out.
-- Each stands behind the line `#X3D V3.0 utf8`, so it begins on line 2; a line that is indented
-- deeper goes on with the one before. What it stands for was written by hand, from the rules.
use Rattle.std.proofs.Common.{◌≡◌, [], ◌∷◌, None, Err, ap}
use Rattle.x3d_values.specs.declared.field_type.Access.TheVariants.{InitializeOnly}
use Rattle.x3d_values.specs.declared.field_type.FieldType.TheVariants.{SFVec3f, SFNode}
use Rattle.x3d_values.specs.declared.node_type.NodeType.TheVariants as type
use Rattle.classic_tree.specs.declared.tree.RawValue.TheVariants as value
use Rattle.proto_flat.specs.Fault.{fault}
use Rattle.proto_flat.specs.declared.fault.ExpandFaultKind.TheVariants as fault_kind
use Rattle.proto_meaning.specs.Flat.{item_step, node_step, statement_step, proto_step, flat}
use Rattle.proto_meaning.proofs.Known.{KnownStatements, all_statements, is, null, numbers, a_node, declares, field, proto_inside, used, full, named, proto, a_proto, stands, document}
use Rattle.proto_meaning.proofs.Expected.{flat_field, flat_node, good, by_parts}

-- The default of n is not put in, but its X is in sight: no Box.
--     PROTO X [ initializeOnly SFNode f NULL ] { Shape { geometry IS f } }
--     PROTO P [ initializeOnly SFNode n MetadataSet { PROTO X [ initializeOnly SFNode f NULL ] {
--         Group {} } } initializeOnly SFVec3f s 5 5 5 ] { Group { metadata IS n } X { f Box { size IS s
--         } } }
--     P { n NULL s 7 7 7 }
abbrev pub default_replaced_text : KnownStatements
default_replaced_text =
    all_statements
    (a_proto
    (proto 2 "X" (declares 2 InitializeOnly SFNode "f" null ∷ [])
    (stands (full 2 "Shape" (field 2 "geometry" (is "f") ∷ [])) ∷ [])) ∷
    a_proto
    (proto 3 "P"
    (declares 3 InitializeOnly SFNode "n"
    (a_node
    (full 3 "MetadataSet"
    (proto_inside
    (proto 3 "X"
    (declares 3 InitializeOnly SFNode "f" null ∷ [])
    (stands (full 3 "Group" []) ∷ [])) ∷ []))) ∷
    declares 3 InitializeOnly SFVec3f "s" (numbers (5 ∷ 5 ∷ 5 ∷ [])) ∷ [])
    (stands (full 3 "Group" (field 3 "metadata" (is "n") ∷ [])) ∷
    stands
    (full 3 "X"
    (field 3 "f" (a_node (full 3 "Box" (field 3 "size" (is "s") ∷ []))) ∷ [])) ∷ [])) ∷
    stands (full 4 "P" (field 4 "n" null ∷ field 4 "s" (numbers (7 ∷ 7 ∷ 7 ∷ [])) ∷ [])) ∷ [])

pub default_replaced : flat (document default_replaced_text) ≡
    good
    (flat_node 3 None type.Group (flat_field 3 0 value.Null ∷ []) [] ∷
    flat_node 3 None type.Group [] [] ∷ [])
    (0 ∷ [])
    (1 ∷ [])
    []
unfolding flat item_step node_step statement_step proto_step
default_replaced = ap by_parts default_replaced_text.2

-- The same, and in a second instance the default is put in.
--     PROTO X [ initializeOnly SFNode f NULL ] { Shape { geometry IS f } }
--     PROTO P [ initializeOnly SFNode n MetadataSet { PROTO X [ initializeOnly SFNode f NULL ] {
--         Group {} } } initializeOnly SFVec3f s 5 5 5 ] { Group { metadata IS n } X { f Box { size IS s
--         } } }
--     P { n NULL } P {}
abbrev pub default_replaced_once_text : KnownStatements
default_replaced_once_text =
    all_statements
    (a_proto
    (proto 2 "X" (declares 2 InitializeOnly SFNode "f" null ∷ [])
    (stands (full 2 "Shape" (field 2 "geometry" (is "f") ∷ [])) ∷ [])) ∷
    a_proto
    (proto 3 "P"
    (declares 3 InitializeOnly SFNode "n"
    (a_node
    (full 3 "MetadataSet"
    (proto_inside
    (proto 3 "X"
    (declares 3 InitializeOnly SFNode "f" null ∷ [])
    (stands (full 3 "Group" []) ∷ [])) ∷ []))) ∷
    declares 3 InitializeOnly SFVec3f "s" (numbers (5 ∷ 5 ∷ 5 ∷ [])) ∷ [])
    (stands (full 3 "Group" (field 3 "metadata" (is "n") ∷ [])) ∷
    stands
    (full 3 "X"
    (field 3 "f" (a_node (full 3 "Box" (field 3 "size" (is "s") ∷ []))) ∷ [])) ∷ [])) ∷
    stands (full 4 "P" (field 4 "n" null ∷ [])) ∷
    stands (full 4 "P" []) ∷ [])

pub default_replaced_once : flat (document default_replaced_once_text) ≡
    good
    (flat_node 3 None type.Group (flat_field 3 0 value.Null ∷ []) [] ∷
    flat_node 3 None type.Group [] [] ∷
    flat_node 3 None type.MetadataSet [] [] ∷
    flat_node 3 None type.Group (flat_field 3 0 (value.Node 2) ∷ []) [] ∷
    flat_node 3 None type.Group [] [] ∷ [])
    (0 ∷ 3 ∷ [])
    (1 ∷ 4 ∷ [])
    []
unfolding flat item_step node_step statement_step proto_step
default_replaced_once = ap by_parts default_replaced_once_text.2

-- Whether a body is well formed does not hang on what an instance gives.
--     PROTO P [ initializeOnly SFNode n MetadataSet { PROTO X [] { Group {} } } ] { Group {
--         metadata IS n } X {} }
--     P {} P { n NULL }
abbrev pub in_sight_whatever_is_given_text : KnownStatements
in_sight_whatever_is_given_text =
    all_statements
    (a_proto
    (proto 2 "P"
    (declares 2 InitializeOnly SFNode "n"
    (a_node
    (full 2 "MetadataSet"
    (proto_inside (proto 2 "X" [] (stands (full 2 "Group" []) ∷ [])) ∷ []))) ∷ [])
    (stands (full 2 "Group" (field 2 "metadata" (is "n") ∷ [])) ∷
    stands (full 2 "X" []) ∷ [])) ∷
    stands (full 3 "P" []) ∷
    stands (full 3 "P" (field 3 "n" null ∷ [])) ∷ [])

pub in_sight_whatever_is_given : flat (document in_sight_whatever_is_given_text) ≡
    good
    (flat_node 2 None type.MetadataSet [] [] ∷
    flat_node 2 None type.Group (flat_field 2 0 (value.Node 0) ∷ []) [] ∷
    flat_node 2 None type.Group [] [] ∷
    flat_node 2 None type.Group (flat_field 2 0 value.Null ∷ []) [] ∷
    flat_node 2 None type.Group [] [] ∷ [])
    (1 ∷ 3 ∷ [])
    (2 ∷ 4 ∷ [])
    []
unfolding flat item_step node_step statement_step proto_step
in_sight_whatever_is_given = ap by_parts in_sight_whatever_is_given_text.2

-- Nodes that no IS takes are left out, and are not checked; a PROTO among them is declared.
--     PROTO P [ initializeOnly SFNode g NULL ] { Group {} }
--     P { g DEF A Foo { PROTO Q [] { Switch {} } } }
--     Q {}
abbrev pub left_out_text : KnownStatements
left_out_text =
    all_statements
    (a_proto
    (proto 2 "P" (declares 2 InitializeOnly SFNode "g" null ∷ [])
    (stands (full 2 "Group" []) ∷ [])) ∷
    stands
    (full 3 "P"
    (field 3 "g"
    (a_node
    (named 3 "A" "Foo"
    (proto_inside (proto 3 "Q" [] (stands (full 3 "Switch" []) ∷ [])) ∷ []))) ∷ [])) ∷
    stands (full 4 "Q" []) ∷ [])

pub left_out : flat (document left_out_text) ≡
    good
    (flat_node 2 None type.Group [] [] ∷ flat_node 3 None type.Switch [] [] ∷ [])
    (0 ∷ 1 ∷ [])
    []
    []
unfolding flat item_step node_step statement_step proto_step
left_out = ap by_parts left_out_text.2

-- Their names are not defined.
--     PROTO P [ initializeOnly SFNode g NULL ] { Group {} }
--     P { g DEF A Group {} }
--     USE A
abbrev pub name_left_out_text : KnownStatements
name_left_out_text =
    all_statements
    (a_proto
    (proto 2 "P" (declares 2 InitializeOnly SFNode "g" null ∷ [])
    (stands (full 2 "Group" []) ∷ [])) ∷
    stands (full 3 "P" (field 3 "g" (a_node (named 3 "A" "Group" [])) ∷ [])) ∷
    stands (used 4 "A") ∷ [])

pub name_left_out : flat (document name_left_out_text) ≡ Err (fault fault_kind.UseWithoutDef 4)
unfolding flat item_step node_step statement_step proto_step
name_left_out = ap by_parts name_left_out_text.2

-- An IS counts only where the prototype inside takes the field.
--     PROTO Q [ initializeOnly SFNode g NULL ] { Group {} }
--     PROTO P [ initializeOnly SFNode h NULL ] { Q { g IS h } }
--     P { h Foo {} }
abbrev pub taken_through_two_text : KnownStatements
taken_through_two_text =
    all_statements
    (a_proto
    (proto 2 "Q" (declares 2 InitializeOnly SFNode "g" null ∷ [])
    (stands (full 2 "Group" []) ∷ [])) ∷
    a_proto
    (proto 3 "P" (declares 3 InitializeOnly SFNode "h" null ∷ [])
    (stands (full 3 "Q" (field 3 "g" (is "h") ∷ [])) ∷ [])) ∷
    stands (full 4 "P" (field 4 "h" (a_node (full 4 "Foo" [])) ∷ [])) ∷ [])

pub taken_through_two : flat (document taken_through_two_text) ≡
    good (flat_node 2 None type.Group [] [] ∷ []) (0 ∷ []) [] []
unfolding flat item_step node_step statement_step proto_step
taken_through_two = ap by_parts taken_through_two_text.2
