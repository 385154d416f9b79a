-- Worked documents: a PROTO in a default value is in sight of the body, and hides one around it.
-- Each stands behind the line `#X3D V3.0 utf8`, so it begins on line 2; a line that is indented
-- deeper goes on with the one before. What it stands for was written by hand, from the rules.
use Rattle.std.proofs.Common.{◌≡◌, [], ◌∷◌, None, ap}
use Rattle.std.specs.Prelude.{codes}
use Rattle.x3d_values.specs.declared.field_type.Access.TheVariants.{InitializeOnly}
use Rattle.x3d_values.specs.declared.field_type.FieldType.TheVariants.{SFString, SFVec3f, SFNode}
use Rattle.x3d_values.specs.declared.node_type.NodeType.TheVariants as type
use Rattle.classic_tree.specs.declared.tree.RawValue.TheVariants as value
use Rattle.proto_meaning.specs.Flat.{item_step, node_step, statement_step, proto_step, flat}
use Rattle.proto_meaning.proofs.Known.{KnownStatements, all_statements, units, is, null, text, numbers, a_node, declares, field, proto_inside, full, proto, a_proto, stands, document}
use Rattle.proto_meaning.proofs.Expected.{flat_field, flat_node, good, by_parts}

-- The default of n declares an X, in sight of the body by its place, though no IS takes n. This X
-- takes nothing, so the Box is left out, and so no IS takes s.
--     PROTO X [ initializeOnly SFNode f NULL ] { Shape { geometry IS f } }
--     PROTO P [ initializeOnly SFNode n Group { PROTO X [ initializeOnly SFNode f NULL ] { Group {}
--         } } initializeOnly SFVec3f s 5 5 5 ] { Group {} X { f Box { size IS s } } }
--     P { s 7 7 7 }
abbrev pub default_declares_text : KnownStatements
default_declares_text =
    all_statements
    (a_proto
    (proto 2 "X" (declares 2 InitializeOnly SFNode "f" null ∷ [])
    (stands (full 2 "Shape" (field 2 "geometry" (is "f") ∷ [])) ∷ [])) ∷
    a_proto
    (proto 3 "P"
    (declares 3 InitializeOnly SFNode "n"
    (a_node
    (full 3 "Group"
    (proto_inside
    (proto 3 "X"
    (declares 3 InitializeOnly SFNode "f" null ∷ [])
    (stands (full 3 "Group" []) ∷ [])) ∷ []))) ∷
    declares 3 InitializeOnly SFVec3f "s" (numbers (5 ∷ 5 ∷ 5 ∷ [])) ∷ [])
    (stands (full 3 "Group" []) ∷
    stands
    (full 3 "X"
    (field 3 "f" (a_node (full 3 "Box" (field 3 "size" (is "s") ∷ []))) ∷ [])) ∷ [])) ∷
    stands (full 4 "P" (field 4 "s" (numbers (7 ∷ 7 ∷ 7 ∷ [])) ∷ [])) ∷ [])

pub default_declares : flat (document default_declares_text) ≡
    good
    (flat_node 3 None type.Group [] [] ∷ flat_node 3 None type.Group [] [] ∷ [])
    (0 ∷ [])
    (1 ∷ [])
    []
unfolding flat item_step node_step statement_step proto_step
default_declares = ap by_parts default_declares_text.2

-- The same without a value given.
--     PROTO X [ initializeOnly SFNode f NULL ] { Shape { geometry IS f } }
--     PROTO P [ initializeOnly SFNode n Group { PROTO X [ initializeOnly SFNode f NULL ] { Group {}
--         } } initializeOnly SFVec3f s 5 5 5 ] { Group {} X { f Box { size IS s } } }
--     P {}
abbrev pub default_declares_nothing_given_text : KnownStatements
default_declares_nothing_given_text =
    all_statements
    (a_proto
    (proto 2 "X" (declares 2 InitializeOnly SFNode "f" null ∷ [])
    (stands (full 2 "Shape" (field 2 "geometry" (is "f") ∷ [])) ∷ [])) ∷
    a_proto
    (proto 3 "P"
    (declares 3 InitializeOnly SFNode "n"
    (a_node
    (full 3 "Group"
    (proto_inside
    (proto 3 "X"
    (declares 3 InitializeOnly SFNode "f" null ∷ [])
    (stands (full 3 "Group" []) ∷ [])) ∷ []))) ∷
    declares 3 InitializeOnly SFVec3f "s" (numbers (5 ∷ 5 ∷ 5 ∷ [])) ∷ [])
    (stands (full 3 "Group" []) ∷
    stands
    (full 3 "X"
    (field 3 "f" (a_node (full 3 "Box" (field 3 "size" (is "s") ∷ []))) ∷ [])) ∷ [])) ∷
    stands (full 4 "P" []) ∷ [])

pub default_declares_nothing_given : flat (document default_declares_nothing_given_text) ≡
    good
    (flat_node 3 None type.Group [] [] ∷ flat_node 3 None type.Group [] [] ∷ [])
    (0 ∷ [])
    (1 ∷ [])
    []
unfolding flat item_step node_step statement_step proto_step
default_declares_nothing_given = ap by_parts default_declares_nothing_given_text.2

-- The same without the PROTO in the default: X is the outer one, and the Box has the size given.
--     PROTO X [ initializeOnly SFNode f NULL ] { Shape { geometry IS f } }
--     PROTO P [ initializeOnly SFNode n Group {} initializeOnly SFVec3f s 5 5 5 ] { Group {} X { f
--         Box { size IS s } } }
--     P { s 7 7 7 } P {}
abbrev pub outer_prototype_text : KnownStatements
outer_prototype_text =
    all_statements
    (a_proto
    (proto 2 "X" (declares 2 InitializeOnly SFNode "f" null ∷ [])
    (stands (full 2 "Shape" (field 2 "geometry" (is "f") ∷ [])) ∷ [])) ∷
    a_proto
    (proto 3 "P"
    (declares 3 InitializeOnly SFNode "n" (a_node (full 3 "Group" [])) ∷
    declares 3 InitializeOnly SFVec3f "s" (numbers (5 ∷ 5 ∷ 5 ∷ [])) ∷ [])
    (stands (full 3 "Group" []) ∷
    stands
    (full 3 "X"
    (field 3 "f" (a_node (full 3 "Box" (field 3 "size" (is "s") ∷ []))) ∷ [])) ∷ [])) ∷
    stands (full 4 "P" (field 4 "s" (numbers (7 ∷ 7 ∷ 7 ∷ [])) ∷ [])) ∷
    stands (full 4 "P" []) ∷ [])

pub outer_prototype : flat (document outer_prototype_text) ≡
    good
    (flat_node 3 None type.Group [] [] ∷
    flat_node 3 None type.Box (flat_field 3 1 (value.Numbers (units (7 ∷ 7 ∷ 7 ∷ []))) ∷ []) [] ∷
    flat_node 2 None type.Shape (flat_field 2 4 (value.Node 1) ∷ []) [] ∷
    flat_node 3 None type.Group [] [] ∷
    flat_node 3 None type.Box (flat_field 3 1 (value.Numbers (units (5 ∷ 5 ∷ 5 ∷ []))) ∷ []) [] ∷
    flat_node 2 None type.Shape (flat_field 2 4 (value.Node 4) ∷ []) [] ∷ [])
    (0 ∷ 3 ∷ [])
    (2 ∷ 5 ∷ [])
    []
unfolding flat item_step node_step statement_step proto_step
outer_prototype = ap by_parts outer_prototype_text.2

-- The X of the default takes nothing, so Y is left out.
--     PROTO X [ initializeOnly SFNode f NULL ] { Group { metadata IS f } }
--     PROTO P [ initializeOnly SFNode n Group { PROTO X [ initializeOnly SFNode f NULL ] { Group {}
--         } } ] { Group {}
--     X { f MetadataSet { PROTO Y [ initializeOnly SFString s "d" ] { MetadataString { name IS s }
--         } value Y { s "hi" } } } }
--     P {}
abbrev pub default_hides_text : KnownStatements
default_hides_text =
    all_statements
    (a_proto
    (proto 2 "X" (declares 2 InitializeOnly SFNode "f" null ∷ [])
    (stands (full 2 "Group" (field 2 "metadata" (is "f") ∷ [])) ∷ [])) ∷
    a_proto
    (proto 3 "P"
    (declares 3 InitializeOnly SFNode "n"
    (a_node
    (full 3 "Group"
    (proto_inside
    (proto 3 "X"
    (declares 3 InitializeOnly SFNode "f" null ∷ [])
    (stands (full 3 "Group" []) ∷ [])) ∷ []))) ∷ [])
    (stands (full 3 "Group" []) ∷
    stands
    (full 4 "X"
    (field 4 "f"
    (a_node
    (full 4 "MetadataSet"
    (proto_inside
    (proto 4 "Y"
    (declares 4 InitializeOnly SFString "s" (text "d") ∷ [])
    (stands
    (full 4 "MetadataString"
    (field 4 "name" (is "s") ∷ [])) ∷ [])) ∷
    field 4 "value"
    (a_node (full 4 "Y" (field 4 "s" (text "hi") ∷ []))) ∷ []))) ∷ [])) ∷ [])) ∷
    stands (full 5 "P" []) ∷ [])

pub default_hides : flat (document default_hides_text) ≡
    good
    (flat_node 3 None type.Group [] [] ∷ flat_node 3 None type.Group [] [] ∷ [])
    (0 ∷ [])
    (1 ∷ [])
    []
unfolding flat item_step node_step statement_step proto_step
default_hides = ap by_parts default_hides_text.2

-- The same without the PROTO in the default: Y is put in, and is given "hi".
--     PROTO X [ initializeOnly SFNode f NULL ] { Group { metadata IS f } }
--     PROTO P [ initializeOnly SFNode n Group {} ] { Group {}
--     X { f MetadataSet { PROTO Y [ initializeOnly SFString s "d" ] { MetadataString { name IS s }
--         } value Y { s "hi" } } } }
--     P {}
abbrev pub prototype_in_a_value_text : KnownStatements
prototype_in_a_value_text =
    all_statements
    (a_proto
    (proto 2 "X" (declares 2 InitializeOnly SFNode "f" null ∷ [])
    (stands (full 2 "Group" (field 2 "metadata" (is "f") ∷ [])) ∷ [])) ∷
    a_proto
    (proto 3 "P"
    (declares 3 InitializeOnly SFNode "n" (a_node (full 3 "Group" [])) ∷ [])
    (stands (full 3 "Group" []) ∷
    stands
    (full 4 "X"
    (field 4 "f"
    (a_node
    (full 4 "MetadataSet"
    (proto_inside
    (proto 4 "Y"
    (declares 4 InitializeOnly SFString "s" (text "d") ∷ [])
    (stands
    (full 4 "MetadataString"
    (field 4 "name" (is "s") ∷ [])) ∷ [])) ∷
    field 4 "value"
    (a_node (full 4 "Y" (field 4 "s" (text "hi") ∷ []))) ∷ []))) ∷ [])) ∷ [])) ∷
    stands (full 5 "P" []) ∷ [])

pub prototype_in_a_value : flat (document prototype_in_a_value_text) ≡
    good
    (flat_node 3 None type.Group [] [] ∷
    flat_node 4 None type.MetadataString (flat_field 4 1 (value.String (codes "hi")) ∷ []) [] ∷
    flat_node 4 None type.MetadataSet (flat_field 4 3 (value.Node 1) ∷ []) [] ∷
    flat_node 2 None type.Group (flat_field 2 0 (value.Node 2) ∷ []) [] ∷ [])
    (0 ∷ [])
    (3 ∷ [])
    []
unfolding flat item_step node_step statement_step proto_step
prototype_in_a_value = ap by_parts prototype_in_a_value_text.2

-- The same with a prototype nested in Y.
--     PROTO Z [ initializeOnly SFString t "" ] { MetadataString {} }
--     PROTO X [ initializeOnly SFNode f NULL ] { Group { metadata IS f } }
--     PROTO P [ initializeOnly SFNode n Group { PROTO X [ initializeOnly SFNode f NULL ] { Group {}
--         } } ] { Group {}
--     X { f MetadataSet { PROTO Y [] { PROTO Z [ initializeOnly SFString t "d" ] { MetadataString {
--         name IS t } } Z {} } value Y {} } } }
--     P {}
abbrev pub default_hides_nested_text : KnownStatements
default_hides_nested_text =
    all_statements
    (a_proto
    (proto 2 "Z" (declares 2 InitializeOnly SFString "t" (text "") ∷ [])
    (stands (full 2 "MetadataString" []) ∷ [])) ∷
    a_proto
    (proto 3 "X" (declares 3 InitializeOnly SFNode "f" null ∷ [])
    (stands (full 3 "Group" (field 3 "metadata" (is "f") ∷ [])) ∷ [])) ∷
    a_proto
    (proto 4 "P"
    (declares 4 InitializeOnly SFNode "n"
    (a_node
    (full 4 "Group"
    (proto_inside
    (proto 4 "X"
    (declares 4 InitializeOnly SFNode "f" null ∷ [])
    (stands (full 4 "Group" []) ∷ [])) ∷ []))) ∷ [])
    (stands (full 4 "Group" []) ∷
    stands
    (full 5 "X"
    (field 5 "f"
    (a_node
    (full 5 "MetadataSet"
    (proto_inside
    (proto 5 "Y" []
    (a_proto
    (proto 5 "Z"
    (declares 5 InitializeOnly
    SFString
    "t"
    (text "d") ∷ [])
    (stands
    (full 5 "MetadataString"
    (field 5 "name" (is "t") ∷ [])) ∷ [])) ∷
    stands (full 5 "Z" []) ∷ [])) ∷
    field 5 "value" (a_node (full 5 "Y" [])) ∷ []))) ∷ [])) ∷ [])) ∷
    stands (full 6 "P" []) ∷ [])

pub default_hides_nested : flat (document default_hides_nested_text) ≡
    good
    (flat_node 4 None type.Group [] [] ∷ flat_node 4 None type.Group [] [] ∷ [])
    (0 ∷ [])
    (1 ∷ [])
    []
unfolding flat item_step node_step statement_step proto_step
default_hides_nested = ap by_parts default_hides_nested_text.2

-- The same without the PROTO in the default: the inner Z has its default.
--     PROTO Z [ initializeOnly SFString t "" ] { MetadataString {} }
--     PROTO X [ initializeOnly SFNode f NULL ] { Group { metadata IS f } }
--     PROTO P [ initializeOnly SFNode n Group {} ] { Group {}
--     X { f MetadataSet { PROTO Y [] { PROTO Z [ initializeOnly SFString t "d" ] { MetadataString {
--         name IS t } } Z {} } value Y {} } } }
--     P {}
abbrev pub prototype_nested_in_a_value_text : KnownStatements
prototype_nested_in_a_value_text =
    all_statements
    (a_proto
    (proto 2 "Z" (declares 2 InitializeOnly SFString "t" (text "") ∷ [])
    (stands (full 2 "MetadataString" []) ∷ [])) ∷
    a_proto
    (proto 3 "X" (declares 3 InitializeOnly SFNode "f" null ∷ [])
    (stands (full 3 "Group" (field 3 "metadata" (is "f") ∷ [])) ∷ [])) ∷
    a_proto
    (proto 4 "P"
    (declares 4 InitializeOnly SFNode "n" (a_node (full 4 "Group" [])) ∷ [])
    (stands (full 4 "Group" []) ∷
    stands
    (full 5 "X"
    (field 5 "f"
    (a_node
    (full 5 "MetadataSet"
    (proto_inside
    (proto 5 "Y" []
    (a_proto
    (proto 5 "Z"
    (declares 5 InitializeOnly
    SFString
    "t"
    (text "d") ∷ [])
    (stands
    (full 5 "MetadataString"
    (field 5 "name" (is "t") ∷ [])) ∷ [])) ∷
    stands (full 5 "Z" []) ∷ [])) ∷
    field 5 "value" (a_node (full 5 "Y" [])) ∷ []))) ∷ [])) ∷ [])) ∷
    stands (full 6 "P" []) ∷ [])

pub prototype_nested_in_a_value : flat (document prototype_nested_in_a_value_text) ≡
    good
    (flat_node 4 None type.Group [] [] ∷
    flat_node 5 None type.MetadataString (flat_field 5 1 (value.String (codes "d")) ∷ []) [] ∷
    flat_node 5 None type.MetadataSet (flat_field 5 3 (value.Node 1) ∷ []) [] ∷
    flat_node 3 None type.Group (flat_field 3 0 (value.Node 2) ∷ []) [] ∷ [])
    (0 ∷ [])
    (3 ∷ [])
    []
unfolding flat item_step node_step statement_step proto_step
prototype_nested_in_a_value = ap by_parts prototype_nested_in_a_value_text.2
