-- Worked documents: the ends of routes. Each stands behind the line `#X3D V3.0 utf8`, so it begins
-- on line 2; a line that is indented deeper goes on with the one before. What it stands for was
-- written by hand, from the rules.
use Rattle.std.proofs.Common.{◌≡◌, [], ◌∷◌, Some, None, ap}
use Rattle.std.specs.Prelude.{codes}
use Rattle.x3d_values.specs.declared.field_type.Access.TheVariants.{InputOnly, OutputOnly, InputOutput}
use Rattle.x3d_values.specs.declared.field_type.FieldType.TheVariants.{SFBool, SFInt32}
use Rattle.x3d_values.specs.declared.node_type.NodeType.TheVariants as type
use Rattle.classic_tree.specs.declared.tree.RawValue.TheVariants as value
use Rattle.proto_flat.specs.declared.flat.FlatEnd.TheVariants.{At, NoNode, NoField, WrongWay}
use Rattle.proto_meaning.specs.Flat.{item_step, node_step, statement_step, proto_step, flat}
use Rattle.proto_meaning.proofs.Known.{KnownStatements, all_statements, units, nothing, is, numbers, a_node, nodes, declares, field, route_inside, full, named, proto, a_proto, stands, route, document}
use Rattle.proto_meaning.proofs.Expected.{flat_field, flat_node, flat_route, good, by_parts}

-- A lamp, with a ROUTE to its input: an end each for G and F, and the nodes behind the first as
-- helpers.
--     PROTO Lamp [ inputOnly SFBool poke inputOutput SFInt32 which 0 ] {
--     Switch { whichChoice IS which children [ Group {} ] }
--     DEF G BooleanToggle { set_boolean IS poke }
--     DEF F BooleanFilter { set_boolean IS poke } }
--     DEF T BooleanToggle {}
--     DEF L Lamp {}
--     ROUTE T.toggle TO L.poke
abbrev pub lamp_text : KnownStatements
lamp_text =
    all_statements
    (a_proto
    (proto 2 "Lamp"
    (declares 2 InputOnly SFBool "poke" nothing ∷
    declares 2 InputOutput SFInt32 "which" (numbers (0 ∷ [])) ∷ [])
    (stands
    (full 3 "Switch"
    (field 3 "whichChoice" (is "which") ∷
    field 3 "children" (nodes (full 3 "Group" [] ∷ [])) ∷ [])) ∷
    stands (named 4 "G" "BooleanToggle" (field 4 "set_boolean" (is "poke") ∷ [])) ∷
    stands (named 5 "F" "BooleanFilter" (field 5 "set_boolean" (is "poke") ∷ [])) ∷ [])) ∷
    stands (named 6 "T" "BooleanToggle" []) ∷
    stands (named 7 "L" "Lamp" []) ∷
    route 8 "T" "toggle" "L" "poke" ∷ [])

pub lamp : flat (document lamp_text) ≡
    good
    (flat_node 6 (Some (codes "T")) type.BooleanToggle [] [] ∷
    flat_node 3 None type.Group [] [] ∷
    flat_node 3 (Some (codes "L")) type.Switch
    (flat_field 3 4 (value.Numbers (units (0 ∷ []))) ∷
    flat_field 3 3 (value.NodeList (1 ∷ [])) ∷ [])
    [] ∷
    flat_node 4 (Some (codes "G")) type.BooleanToggle [] [] ∷
    flat_node 5 (Some (codes "F")) type.BooleanFilter [] [] ∷ [])
    (0 ∷ 2 ∷ [])
    (3 ∷ 4 ∷ [])
    (flat_route 8 (At 0 (codes "toggle")) (At 3 (codes "set_boolean")) ∷
    flat_route 8 (At 0 (codes "toggle")) (At 4 (codes "set_boolean")) ∷ [])
unfolding flat item_step node_step statement_step proto_step
lamp = ap by_parts lamp_text.2

-- All pairs of ends, sources outside.
--     PROTO P [ outputOnly SFBool o ] { BooleanToggle { toggle IS o } BooleanToggle { toggle IS o }
--         }
--     PROTO Q [ inputOnly SFBool i ] { BooleanFilter { set_boolean IS i } BooleanFilter {
--         set_boolean IS i } }
--     DEF A P {} DEF B Q {}
--     ROUTE A.o TO B.i
abbrev pub all_pairs_text : KnownStatements
all_pairs_text =
    all_statements
    (a_proto
    (proto 2 "P" (declares 2 OutputOnly SFBool "o" nothing ∷ [])
    (stands (full 2 "BooleanToggle" (field 2 "toggle" (is "o") ∷ [])) ∷
    stands (full 2 "BooleanToggle" (field 2 "toggle" (is "o") ∷ [])) ∷ [])) ∷
    a_proto
    (proto 3 "Q" (declares 3 InputOnly SFBool "i" nothing ∷ [])
    (stands (full 3 "BooleanFilter" (field 3 "set_boolean" (is "i") ∷ [])) ∷
    stands (full 3 "BooleanFilter" (field 3 "set_boolean" (is "i") ∷ [])) ∷ [])) ∷
    stands (named 4 "A" "P" []) ∷
    stands (named 4 "B" "Q" []) ∷
    route 5 "A" "o" "B" "i" ∷ [])

pub all_pairs : flat (document all_pairs_text) ≡
    good
    (flat_node 2 (Some (codes "A")) type.BooleanToggle [] [] ∷
    flat_node 2 None type.BooleanToggle [] [] ∷
    flat_node 3 (Some (codes "B")) type.BooleanFilter [] [] ∷
    flat_node 3 None type.BooleanFilter [] [] ∷ [])
    (0 ∷ 2 ∷ [])
    (1 ∷ 3 ∷ [])
    (flat_route 5 (At 0 (codes "toggle")) (At 2 (codes "set_boolean")) ∷
    flat_route 5 (At 0 (codes "toggle")) (At 3 (codes "set_boolean")) ∷
    flat_route 5 (At 1 (codes "toggle")) (At 2 (codes "set_boolean")) ∷
    flat_route 5 (At 1 (codes "toggle")) (At 3 (codes "set_boolean")) ∷ [])
unfolding flat item_step node_step statement_step proto_step
all_pairs = ap by_parts all_pairs_text.2

-- Ends stand in the order of the IS words; set_w is w as a destination.
--     PROTO P [ inputOutput SFInt32 w 0 ] { Switch { whichChoice IS w children Switch { whichChoice
--         IS w } } }
--     DEF A P {} DEF T IntegerTrigger {}
--     ROUTE T.triggerValue TO A.set_w
abbrev pub ends_in_order_text : KnownStatements
ends_in_order_text =
    all_statements
    (a_proto
    (proto 2 "P"
    (declares 2 InputOutput SFInt32 "w" (numbers (0 ∷ [])) ∷ [])
    (stands
    (full 2 "Switch"
    (field 2 "whichChoice" (is "w") ∷
    field 2 "children"
    (a_node (full 2 "Switch" (field 2 "whichChoice" (is "w") ∷ []))) ∷ [])) ∷ [])) ∷
    stands (named 3 "A" "P" []) ∷
    stands (named 3 "T" "IntegerTrigger" []) ∷
    route 4 "T" "triggerValue" "A" "set_w" ∷ [])

pub ends_in_order : flat (document ends_in_order_text) ≡
    good
    (flat_node 2 None type.Switch (flat_field 2 4 (value.Numbers (units (0 ∷ []))) ∷ []) [] ∷
    flat_node 2 (Some (codes "A")) type.Switch
    (flat_field 2 4 (value.Numbers (units (0 ∷ []))) ∷ flat_field 2 3 (value.Node 0) ∷ [])
    [] ∷
    flat_node 3 (Some (codes "T")) type.IntegerTrigger [] [] ∷ [])
    (1 ∷ 2 ∷ [])
    []
    (flat_route 4 (At 2 (codes "triggerValue")) (At 1 (codes "whichChoice")) ∷
    flat_route 4 (At 2 (codes "triggerValue")) (At 0 (codes "whichChoice")) ∷ [])
unfolding flat item_step node_step statement_step proto_step
ends_in_order = ap by_parts ends_in_order_text.2

-- A ROUTE to an instance from between its own braces.
--     PROTO P [ inputOnly SFBool f ] { Group {} DEF F BooleanFilter { set_boolean IS f } }
--     DEF G BooleanToggle {}
--     DEF L P { ROUTE G.toggle TO L.f }
abbrev pub route_to_own_instance_text : KnownStatements
route_to_own_instance_text =
    all_statements
    (a_proto
    (proto 2 "P" (declares 2 InputOnly SFBool "f" nothing ∷ [])
    (stands (full 2 "Group" []) ∷
    stands (named 2 "F" "BooleanFilter" (field 2 "set_boolean" (is "f") ∷ [])) ∷ [])) ∷
    stands (named 3 "G" "BooleanToggle" []) ∷
    stands (named 4 "L" "P" (route_inside 4 "G" "toggle" "L" "f" ∷ [])) ∷ [])

pub route_to_own_instance : flat (document route_to_own_instance_text) ≡
    good
    (flat_node 3 (Some (codes "G")) type.BooleanToggle [] [] ∷
    flat_node 2 (Some (codes "L")) type.Group [] [] ∷
    flat_node 2 (Some (codes "F")) type.BooleanFilter [] [] ∷ [])
    (0 ∷ 1 ∷ [])
    (2 ∷ [])
    (flat_route 4 (At 0 (codes "toggle")) (At 2 (codes "set_boolean")) ∷ [])
unfolding flat item_step node_step statement_step proto_step
route_to_own_instance = ap by_parts route_to_own_instance_text.2

-- Ends through two prototypes, and the routes of a body where its instance stands.
--     PROTO Q [ inputOnly SFBool i ] { DEF F BooleanFilter { set_boolean IS i } DEF T BooleanToggle
--         {} ROUTE F.inputTrue TO T.set_boolean }
--     PROTO P [ inputOnly SFBool j ] { Q { i IS j } }
--     DEF G BooleanToggle {} ROUTE G.toggle TO G.set_boolean
--     DEF A P {}
--     ROUTE G.toggle TO A.j
abbrev pub ends_through_two_text : KnownStatements
ends_through_two_text =
    all_statements
    (a_proto
    (proto 2 "Q" (declares 2 InputOnly SFBool "i" nothing ∷ [])
    (stands (named 2 "F" "BooleanFilter" (field 2 "set_boolean" (is "i") ∷ [])) ∷
    stands (named 2 "T" "BooleanToggle" []) ∷
    route 2 "F" "inputTrue" "T" "set_boolean" ∷ [])) ∷
    a_proto
    (proto 3 "P" (declares 3 InputOnly SFBool "j" nothing ∷ [])
    (stands (full 3 "Q" (field 3 "i" (is "j") ∷ [])) ∷ [])) ∷
    stands (named 4 "G" "BooleanToggle" []) ∷
    route 4 "G" "toggle" "G" "set_boolean" ∷
    stands (named 5 "A" "P" []) ∷
    route 6 "G" "toggle" "A" "j" ∷ [])

pub ends_through_two : flat (document ends_through_two_text) ≡
    good
    (flat_node 4 (Some (codes "G")) type.BooleanToggle [] [] ∷
    flat_node 2 (Some (codes "A")) type.BooleanFilter [] [] ∷
    flat_node 2 (Some (codes "T")) type.BooleanToggle [] [] ∷ [])
    (0 ∷ 1 ∷ [])
    (2 ∷ [])
    (flat_route 4 (At 0 (codes "toggle")) (At 0 (codes "set_boolean")) ∷
    flat_route 2 (At 1 (codes "inputTrue")) (At 2 (codes "set_boolean")) ∷
    flat_route 6 (At 0 (codes "toggle")) (At 1 (codes "set_boolean")) ∷ [])
unfolding flat item_step node_step statement_step proto_step
ends_through_two = ap by_parts ends_through_two_text.2

-- A field used against its access, no such field, no such node; without IS no pair.
--     PROTO P [ inputOnly SFBool i outputOnly SFBool o ] { Group {} }
--     DEF A P {}
--     ROUTE A.i TO A.o
--     ROUTE A.x TO nobody.y
--     ROUTE A.o TO nobody.y
abbrev pub wrong_ends_text : KnownStatements
wrong_ends_text =
    all_statements
    (a_proto
    (proto 2 "P"
    (declares 2 InputOnly SFBool "i" nothing ∷
    declares 2 OutputOnly SFBool "o" nothing ∷ [])
    (stands (full 2 "Group" []) ∷ [])) ∷
    stands (named 3 "A" "P" []) ∷
    route 4 "A" "i" "A" "o" ∷
    route 5 "A" "x" "nobody" "y" ∷
    route 6 "A" "o" "nobody" "y" ∷ [])

pub wrong_ends : flat (document wrong_ends_text) ≡
    good (flat_node 2 (Some (codes "A")) type.Group [] [] ∷ []) (0 ∷ []) []
    (flat_route 4 WrongWay WrongWay ∷ flat_route 5 NoField NoNode ∷ [])
unfolding flat item_step node_step statement_step proto_step
wrong_ends = ap by_parts wrong_ends_text.2
