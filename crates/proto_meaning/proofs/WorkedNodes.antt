-- Worked documents: nodes and values of prototypes put in, and what is wrong with these.
-- Each stands behind the line `#X3D V3.0 utf8`, so it begins on line 2; a line that is indented
-- deeper goes on with the one before. What it stands for was written by hand, from the rules.
use Rattle.std.proofs.Common.{◌≡◌, [], ◌∷◌, Some, None, Err, ap}
use Rattle.std.specs.Prelude.{codes, true}
use Rattle.x3d_values.specs.declared.field_type.Access.TheVariants.{InputOnly, InputOutput, InitializeOnly}
use Rattle.x3d_values.specs.declared.field_type.FieldType.TheVariants.{SFBool, SFInt32, SFFloat, SFVec3f, SFNode}
use Rattle.x3d_values.specs.declared.node_type.NodeType.TheVariants as type
use Rattle.classic_tree.specs.declared.tree.Given.TheVariants as given
use Rattle.classic_tree.specs.declared.tree.RawValue.TheVariants as value
use Rattle.proto_flat.specs.Fault.{fault}
use Rattle.proto_flat.specs.declared.fault.ExpandFaultKind.TheVariants as fault_kind
use Rattle.proto_meaning.specs.Flat.{item_step, node_step, statement_step, proto_step, flat}
use Rattle.proto_meaning.proofs.Known.{KnownStatements, all_statements, units, nothing, is, null, truth, text, numbers, a_node, declaration, declares, field, script_field, used, full, named, proto, a_proto, stands, document}
use Rattle.proto_meaning.proofs.Expected.{flat_field, flat_node, good, by_parts}

-- A helper stands behind the helpers in it.
--     PROTO Q [] { Group {} Switch {} }
--     PROTO P [] { Shape {} Q {} WorldInfo {} }
--     P {}
abbrev pub helpers_nested_text : KnownStatements
helpers_nested_text =
    all_statements
    (a_proto (proto 2 "Q" [] (stands (full 2 "Group" []) ∷ stands (full 2 "Switch" []) ∷ [])) ∷
    a_proto
    (proto 3 "P" []
    (stands (full 3 "Shape" []) ∷
    stands (full 3 "Q" []) ∷
    stands (full 3 "WorldInfo" []) ∷ [])) ∷
    stands (full 4 "P" []) ∷ [])

pub helpers_nested : flat (document helpers_nested_text) ≡
    good
    (flat_node 3 None type.Shape [] [] ∷
    flat_node 2 None type.Group [] [] ∷
    flat_node 2 None type.Switch [] [] ∷
    flat_node 3 None type.WorldInfo [] [] ∷ [])
    (0 ∷ [])
    (2 ∷ 1 ∷ 3 ∷ [])
    []
unfolding flat item_step node_step statement_step proto_step
helpers_nested = ap by_parts helpers_nested_text.2

-- An interface field handed on to an instance inside; the default of the outer one wins.
--     PROTO Q [ inputOutput SFInt32 v 3 ] { Switch { whichChoice IS v } }
--     PROTO P [ inputOutput SFInt32 w 4 ] { Q { v IS w } }
--     P {} P { w 5 } Q {}
abbrev pub handed_on_text : KnownStatements
handed_on_text =
    all_statements
    (a_proto
    (proto 2 "Q"
    (declares 2 InputOutput SFInt32 "v" (numbers (3 ∷ [])) ∷ [])
    (stands (full 2 "Switch" (field 2 "whichChoice" (is "v") ∷ [])) ∷ [])) ∷
    a_proto
    (proto 3 "P"
    (declares 3 InputOutput SFInt32 "w" (numbers (4 ∷ [])) ∷ [])
    (stands (full 3 "Q" (field 3 "v" (is "w") ∷ [])) ∷ [])) ∷
    stands (full 4 "P" []) ∷
    stands (full 4 "P" (field 4 "w" (numbers (5 ∷ [])) ∷ [])) ∷
    stands (full 4 "Q" []) ∷ [])

pub handed_on : flat (document handed_on_text) ≡
    good
    (flat_node 2 None type.Switch (flat_field 2 4 (value.Numbers (units (4 ∷ []))) ∷ []) [] ∷
    flat_node 2 None type.Switch (flat_field 2 4 (value.Numbers (units (5 ∷ []))) ∷ []) [] ∷
    flat_node 2 None type.Switch (flat_field 2 4 (value.Numbers (units (3 ∷ []))) ∷ []) [] ∷ [])
    (0 ∷ 1 ∷ 2 ∷ [])
    []
    []
unfolding flat item_step node_step statement_step proto_step
handed_on = ap by_parts handed_on_text.2

-- A node that goes to two ends is one node, and belongs to the scope round the instance.
--     PROTO P [ initializeOnly SFNode g NULL ] { Shape { geometry IS g } Shape { geometry IS g } }
--     P { g DEF B Box {} }
--     Shape { geometry USE B }
abbrev pub one_node_for_two_text : KnownStatements
one_node_for_two_text =
    all_statements
    (a_proto
    (proto 2 "P" (declares 2 InitializeOnly SFNode "g" null ∷ [])
    (stands (full 2 "Shape" (field 2 "geometry" (is "g") ∷ [])) ∷
    stands (full 2 "Shape" (field 2 "geometry" (is "g") ∷ [])) ∷ [])) ∷
    stands (full 3 "P" (field 3 "g" (a_node (named 3 "B" "Box" [])) ∷ [])) ∷
    stands (full 4 "Shape" (field 4 "geometry" (a_node (used 4 "B")) ∷ [])) ∷ [])

pub one_node_for_two : flat (document one_node_for_two_text) ≡
    good
    (flat_node 3 (Some (codes "B")) type.Box [] [] ∷
    flat_node 2 None type.Shape (flat_field 2 4 (value.Node 0) ∷ []) [] ∷
    flat_node 2 None type.Shape (flat_field 2 4 (value.Node 0) ∷ []) [] ∷
    flat_node 4 None type.Shape (flat_field 4 4 (value.Node 0) ∷ []) [] ∷ [])
    (1 ∷ 3 ∷ [])
    (2 ∷ [])
    []
unfolding flat item_step node_step statement_step proto_step
one_node_for_two = ap by_parts one_node_for_two_text.2

-- A default is put in for each instance anew, and its names are those of the body.
--     PROTO P [ initializeOnly SFNode g DEF B Box {} ] { Shape { geometry IS g } Shape { geometry
--         USE B } }
--     P {} P {}
abbrev pub default_for_each_text : KnownStatements
default_for_each_text =
    all_statements
    (a_proto
    (proto 2 "P"
    (declares 2 InitializeOnly SFNode "g" (a_node (named 2 "B" "Box" [])) ∷ [])
    (stands (full 2 "Shape" (field 2 "geometry" (is "g") ∷ [])) ∷
    stands (full 2 "Shape" (field 2 "geometry" (a_node (used 2 "B")) ∷ [])) ∷ [])) ∷
    stands (full 3 "P" []) ∷
    stands (full 3 "P" []) ∷ [])

pub default_for_each : flat (document default_for_each_text) ≡
    good
    (flat_node 2 (Some (codes "B")) type.Box [] [] ∷
    flat_node 2 None type.Shape (flat_field 2 4 (value.Node 0) ∷ []) [] ∷
    flat_node 2 None type.Shape (flat_field 2 4 (value.Node 0) ∷ []) [] ∷
    flat_node 2 (Some (codes "B")) type.Box [] [] ∷
    flat_node 2 None type.Shape (flat_field 2 4 (value.Node 3) ∷ []) [] ∷
    flat_node 2 None type.Shape (flat_field 2 4 (value.Node 3) ∷ []) [] ∷ [])
    (1 ∷ 4 ∷ [])
    (2 ∷ 5 ∷ [])
    []
unfolding flat item_step node_step statement_step proto_step
default_for_each = ap by_parts default_for_each_text.2

-- Where the instance gives a value, the default is left out with its names.
--     PROTO P [ initializeOnly SFNode g DEF B Box {} ] { Shape { geometry IS g }
--     Shape { geometry USE B } }
--     P { g Sphere {} }
abbrev pub default_left_out_text : KnownStatements
default_left_out_text =
    all_statements
    (a_proto
    (proto 2 "P"
    (declares 2 InitializeOnly SFNode "g" (a_node (named 2 "B" "Box" [])) ∷ [])
    (stands (full 2 "Shape" (field 2 "geometry" (is "g") ∷ [])) ∷
    stands (full 3 "Shape" (field 3 "geometry" (a_node (used 3 "B")) ∷ [])) ∷ [])) ∷
    stands (full 4 "P" (field 4 "g" (a_node (full 4 "Sphere" [])) ∷ [])) ∷ [])

pub default_left_out : flat (document default_left_out_text) ≡
    Err (fault fault_kind.UseWithoutDef 3)
unfolding flat item_step node_step statement_step proto_step
default_left_out = ap by_parts default_left_out_text.2

-- A Script's fields joined by IS: m holds the default, x nothing.
--     PROTO P [ inputOnly SFFloat a initializeOnly SFNode g Box {} ] {
--     Script { inputOutput SFFloat x IS a initializeOnly SFNode m IS g url "u" } }
--     P {}
abbrev pub script_joined_text : KnownStatements
script_joined_text =
    all_statements
    (a_proto
    (proto 2 "P"
    (declares 2 InputOnly SFFloat "a" nothing ∷
    declares 2 InitializeOnly SFNode "g" (a_node (full 2 "Box" [])) ∷ [])
    (stands
    (full 3 "Script"
    (script_field (declares 3 InputOutput SFFloat "x" (is "a")) ∷
    script_field (declares 3 InitializeOnly SFNode "m" (is "g")) ∷
    field 3 "url" (text "u") ∷ [])) ∷ [])) ∷
    stands (full 4 "P" []) ∷ [])

pub script_joined : flat (document script_joined_text) ≡
    good
    (flat_node 2 None type.Box [] [] ∷
    flat_node 3 None type.Script
    (flat_field 3 5 (value.Node 0) ∷ flat_field 3 1 (value.String (codes "u")) ∷ [])
    (declaration 3 InputOutput SFFloat "x" given.Nothing ∷
    declaration 3 InitializeOnly SFNode "m" given.Nothing ∷ []) ∷ [])
    (1 ∷ [])
    []
    []
unfolding flat item_step node_step statement_step proto_step
script_joined = ap by_parts script_joined_text.2

-- An instance's values are put in before its body.
--     PROTO P [ initializeOnly SFNode g NULL ] {
--     Shape { geometry IS g appearance Foo {} } }
--     P { g
--     Bar {} }
abbrev pub values_before_the_body_text : KnownStatements
values_before_the_body_text =
    all_statements
    (a_proto
    (proto 2 "P" (declares 2 InitializeOnly SFNode "g" null ∷ [])
    (stands
    (full 3 "Shape"
    (field 3 "geometry" (is "g") ∷
    field 3 "appearance" (a_node (full 3 "Foo" [])) ∷ [])) ∷ [])) ∷
    stands (full 4 "P" (field 4 "g" (a_node (full 5 "Bar" [])) ∷ [])) ∷ [])

pub values_before_the_body : flat (document values_before_the_body_text) ≡
    Err (fault fault_kind.UnknownNode 5)
unfolding flat item_step node_step statement_step proto_step
values_before_the_body = ap by_parts values_before_the_body_text.2

-- A name twice in an interface, found at the instance, before its values.
--     PROTO P [ inputOnly SFBool a
--     inputOnly SFBool a ] { Group {} }
--     P { nope 1 }
abbrev pub interface_name_twice_text : KnownStatements
interface_name_twice_text =
    all_statements
    (a_proto
    (proto 2 "P"
    (declares 2 InputOnly SFBool "a" nothing ∷
    declares 3 InputOnly SFBool "a" nothing ∷ [])
    (stands (full 3 "Group" []) ∷ [])) ∷
    stands (full 4 "P" (field 4 "nope" (numbers (1 ∷ [])) ∷ [])) ∷ [])

pub interface_name_twice : flat (document interface_name_twice_text) ≡
    Err (fault fault_kind.FieldTwice 3)
unfolding flat item_step node_step statement_step proto_step
interface_name_twice = ap by_parts interface_name_twice_text.2

-- Joined fields have one type, and accesses that fit.
--     PROTO P [ initializeOnly SFBool b TRUE ] { BooleanToggle {
--     set_boolean IS b } }
--     P {}
abbrev pub types_do_not_join_text : KnownStatements
types_do_not_join_text =
    all_statements
    (a_proto
    (proto 2 "P" (declares 2 InitializeOnly SFBool "b" (truth true) ∷ [])
    (stands (full 2 "BooleanToggle" (field 3 "set_boolean" (is "b") ∷ [])) ∷ [])) ∷
    stands (full 4 "P" []) ∷ [])

pub types_do_not_join : flat (document types_do_not_join_text) ≡ Err (fault fault_kind.BadIs 3)
unfolding flat item_step node_step statement_step proto_step
types_do_not_join = ap by_parts types_do_not_join_text.2

-- An IS in a default finds no interface.
--     PROTO P [ initializeOnly SFVec3f s 1 1 1
--     initializeOnly SFNode g Box {
--     size IS s } ] { Shape { geometry IS g } }
--     P {}
abbrev pub is_in_a_default_text : KnownStatements
is_in_a_default_text =
    all_statements
    (a_proto
    (proto 2 "P"
    (declares 2 InitializeOnly SFVec3f "s" (numbers (1 ∷ 1 ∷ 1 ∷ [])) ∷
    declares 3 InitializeOnly SFNode "g"
    (a_node (full 3 "Box" (field 4 "size" (is "s") ∷ []))) ∷ [])
    (stands (full 4 "Shape" (field 4 "geometry" (is "g") ∷ [])) ∷ [])) ∷
    stands (full 5 "P" []) ∷ [])

pub is_in_a_default : flat (document is_in_a_default_text) ≡ Err (fault fault_kind.BadIs 4)
unfolding flat item_step node_step statement_step proto_step
is_in_a_default = ap by_parts is_in_a_default_text.2

-- An inputOnly interface field gives no value, so the own default stands.
--     PROTO P [ inputOnly SFInt32 w ] { Switch { whichChoice IS w } }
--     P {}
abbrev pub input_gives_nothing_text : KnownStatements
input_gives_nothing_text =
    all_statements
    (a_proto
    (proto 2 "P" (declares 2 InputOnly SFInt32 "w" nothing ∷ [])
    (stands (full 2 "Switch" (field 2 "whichChoice" (is "w") ∷ [])) ∷ [])) ∷
    stands (full 3 "P" []) ∷ [])

pub input_gives_nothing : flat (document input_gives_nothing_text) ≡
    good (flat_node 2 None type.Switch [] [] ∷ []) (0 ∷ []) [] []
unfolding flat item_step node_step statement_step proto_step
input_gives_nothing = ap by_parts input_gives_nothing_text.2
