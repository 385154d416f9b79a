-- Worked documents beside others in which each body is written in the place of its instance. Each
-- stands behind the line `#X3D V3.0 utf8`, so it begins on line 2; a line that is indented deeper
-- goes on with the one before.
use Rattle.std.proofs.Common.{[], ◌∷◌, ap, sym, ◌∙◌}
use Rattle.x3d_values.specs.declared.field_type.Access.TheVariants.{InputOnly, OutputOnly, InputOutput, InitializeOnly}
use Rattle.x3d_values.specs.declared.field_type.FieldType.TheVariants.{SFBool, SFInt32, SFNode}
use Rattle.proto_meaning.specs.Flat.{item_step, node_step, statement_step, proto_step, flat}
use Rattle.proto_meaning.proofs.Known.{KnownStatements, all_statements, nothing, is, null, numbers, a_node, nodes, declares, field, proto_inside, used, full, named, proto, a_proto, stands, route, document}
use Rattle.proto_meaning.proofs.Expected.{by_parts}
use Rattle.proto_meaning.proofs.WrittenOut.{written, IsWrittenOut}

-- A lamp, and what it stands for.
--     PROTO Lamp [ inputOnly SFBool poke inputOutput SFInt32 which 0 ] { Switch { whichChoice IS
--         which children [ Group {} ] } DEF G BooleanToggle { set_boolean IS poke } DEF F BooleanFilter
--         { set_boolean IS poke } }
--     DEF T BooleanToggle {} DEF L Lamp { which 3 }
--     ROUTE T.toggle TO L.poke ROUTE T.toggle TO L.which
-- and
--     DEF T BooleanToggle {} DEF L Switch { whichChoice 3 children [ Group {} ] }
--     DEF G BooleanToggle {} DEF F BooleanFilter {}
--     ROUTE T.toggle TO G.set_boolean ROUTE T.toggle TO F.set_boolean ROUTE T.toggle TO
--         L.whichChoice
abbrev pub lamp_out_text : KnownStatements
lamp_out_text =
    all_statements
    (a_proto
    (proto 2 "Lamp"
    (declares 2 InputOnly SFBool "poke" nothing ∷
    declares 2 InputOutput SFInt32 "which" (numbers (0 ∷ [])) ∷ [])
    (stands
    (full 2 "Switch"
    (field 2 "whichChoice" (is "which") ∷
    field 2 "children" (nodes (full 2 "Group" [] ∷ [])) ∷ [])) ∷
    stands (named 2 "G" "BooleanToggle" (field 2 "set_boolean" (is "poke") ∷ [])) ∷
    stands (named 2 "F" "BooleanFilter" (field 2 "set_boolean" (is "poke") ∷ [])) ∷ [])) ∷
    stands (named 3 "T" "BooleanToggle" []) ∷
    stands (named 3 "L" "Lamp" (field 3 "which" (numbers (3 ∷ [])) ∷ [])) ∷
    route 4 "T" "toggle" "L" "poke" ∷
    route 4 "T" "toggle" "L" "which" ∷ [])

abbrev pub lamp_out_written : KnownStatements
lamp_out_written =
    all_statements
    (stands (named 2 "T" "BooleanToggle" []) ∷
    stands
    (named 2 "L" "Switch"
    (field 2 "whichChoice" (numbers (3 ∷ [])) ∷
    field 2 "children" (nodes (full 2 "Group" [] ∷ [])) ∷ [])) ∷
    stands (named 3 "G" "BooleanToggle" []) ∷
    stands (named 3 "F" "BooleanFilter" []) ∷
    route 4 "T" "toggle" "G" "set_boolean" ∷
    route 4 "T" "toggle" "F" "set_boolean" ∷
    route 4 "T" "toggle" "L" "whichChoice" ∷ [])

pub lamp_out : IsWrittenOut (document lamp_out_text) (document lamp_out_written)
unfolding flat item_step node_step statement_step proto_step
lamp_out =
    ap (λ p. written (by_parts p)) lamp_out_text.2 ∙ sym (ap (λ p. written (by_parts p)) lamp_out_written.2)

-- Names made apart: A outside, A of the body.
--     PROTO P [ initializeOnly SFNode g DEF B Box {} ] { DEF A Shape { geometry IS g } Shape {
--         geometry USE B } Group { children USE A } }
--     DEF A Group {}
--     P {}
--     USE A
-- and
--     DEF A Group {}
--     DEF P_A Shape { geometry DEF P_B Box {} }
--     USE A
--     Shape { geometry USE P_B } Group { children USE P_A }
abbrev pub names_out_text : KnownStatements
names_out_text =
    all_statements
    (a_proto
    (proto 2 "P"
    (declares 2 InitializeOnly SFNode "g" (a_node (named 2 "B" "Box" [])) ∷ [])
    (stands (named 2 "A" "Shape" (field 2 "geometry" (is "g") ∷ [])) ∷
    stands (full 2 "Shape" (field 2 "geometry" (a_node (used 2 "B")) ∷ [])) ∷
    stands (full 2 "Group" (field 2 "children" (a_node (used 2 "A")) ∷ [])) ∷ [])) ∷
    stands (named 3 "A" "Group" []) ∷
    stands (full 4 "P" []) ∷
    stands (used 5 "A") ∷ [])

abbrev pub names_out_written : KnownStatements
names_out_written =
    all_statements
    (stands (named 2 "A" "Group" []) ∷
    stands (named 3 "P_A" "Shape" (field 3 "geometry" (a_node (named 3 "P_B" "Box" [])) ∷ [])) ∷
    stands (used 4 "A") ∷
    stands (full 5 "Shape" (field 5 "geometry" (a_node (used 5 "P_B")) ∷ [])) ∷
    stands (full 5 "Group" (field 5 "children" (a_node (used 5 "P_A")) ∷ [])) ∷ [])

pub names_out : IsWrittenOut (document names_out_text) (document names_out_written)
unfolding flat item_step node_step statement_step proto_step
names_out =
    ap (λ p. written (by_parts p)) names_out_text.2 ∙ sym (ap (λ p. written (by_parts p)) names_out_written.2)

-- An instance in a body, handed a node by IS; a node that goes to two ends is written once and
-- used.
--     PROTO Q [ initializeOnly SFNode g NULL inputOutput SFInt32 w 1 ] { Switch { children Shape {
--         geometry IS g } whichChoice IS w } Shape { geometry IS g } }
--     PROTO P [ initializeOnly SFNode h Sphere {} ] { Q { g IS h } }
--     P { h DEF B Box { size 3 3 3 } }
-- and
--     Switch { children Shape { geometry DEF B Box { size 3 3 3 } } whichChoice 1 }
--     Shape { geometry USE B }
abbrev pub handed_on_out_text : KnownStatements
handed_on_out_text =
    all_statements
    (a_proto
    (proto 2 "Q"
    (declares 2 InitializeOnly SFNode "g" null ∷
    declares 2 InputOutput SFInt32 "w" (numbers (1 ∷ [])) ∷ [])
    (stands
    (full 2 "Switch"
    (field 2 "children"
    (a_node (full 2 "Shape" (field 2 "geometry" (is "g") ∷ []))) ∷
    field 2 "whichChoice" (is "w") ∷ [])) ∷
    stands (full 2 "Shape" (field 2 "geometry" (is "g") ∷ [])) ∷ [])) ∷
    a_proto
    (proto 3 "P"
    (declares 3 InitializeOnly SFNode "h" (a_node (full 3 "Sphere" [])) ∷ [])
    (stands (full 3 "Q" (field 3 "g" (is "h") ∷ [])) ∷ [])) ∷
    stands
    (full 4 "P"
    (field 4 "h"
    (a_node (named 4 "B" "Box" (field 4 "size" (numbers (3 ∷ 3 ∷ 3 ∷ [])) ∷ []))) ∷ [])) ∷ [])

abbrev pub handed_on_out_written : KnownStatements
handed_on_out_written =
    all_statements
    (stands
    (full 2 "Switch"
    (field 2 "children"
    (a_node
    (full 2 "Shape"
    (field 2 "geometry"
    (a_node
    (named 2 "B" "Box"
    (field 2 "size" (numbers (3 ∷ 3 ∷ 3 ∷ [])) ∷ []))) ∷ []))) ∷
    field 2 "whichChoice" (numbers (1 ∷ [])) ∷ [])) ∷
    stands (full 3 "Shape" (field 3 "geometry" (a_node (used 3 "B")) ∷ [])) ∷ [])

pub handed_on_out : IsWrittenOut (document handed_on_out_text) (document handed_on_out_written)
unfolding flat item_step node_step statement_step proto_step
handed_on_out =
    ap (λ p. written (by_parts p)) handed_on_out_text.2 ∙ sym (ap (λ p. written (by_parts p)) handed_on_out_written.2)

-- A ROUTE of the body, and one to ends in two bodies.
--     PROTO Q [ outputOnly SFBool o ] { DEF A BooleanToggle { toggle IS o } DEF B BooleanToggle {
--         toggle IS o } ROUTE A.toggle TO B.set_boolean }
--     DEF F BooleanFilter {} DEF I Q {} ROUTE I.o TO F.set_boolean
-- and
--     DEF F BooleanFilter {} DEF A BooleanToggle {} DEF B BooleanToggle {}
--     ROUTE A.toggle TO B.set_boolean ROUTE A.toggle TO F.set_boolean ROUTE B.toggle TO
--         F.set_boolean
abbrev pub routes_out_text : KnownStatements
routes_out_text =
    all_statements
    (a_proto
    (proto 2 "Q" (declares 2 OutputOnly SFBool "o" nothing ∷ [])
    (stands (named 2 "A" "BooleanToggle" (field 2 "toggle" (is "o") ∷ [])) ∷
    stands (named 2 "B" "BooleanToggle" (field 2 "toggle" (is "o") ∷ [])) ∷
    route 2 "A" "toggle" "B" "set_boolean" ∷ [])) ∷
    stands (named 3 "F" "BooleanFilter" []) ∷
    stands (named 3 "I" "Q" []) ∷
    route 3 "I" "o" "F" "set_boolean" ∷ [])

abbrev pub routes_out_written : KnownStatements
routes_out_written =
    all_statements
    (stands (named 2 "F" "BooleanFilter" []) ∷
    stands (named 2 "A" "BooleanToggle" []) ∷
    stands (named 2 "B" "BooleanToggle" []) ∷
    route 3 "A" "toggle" "B" "set_boolean" ∷
    route 3 "A" "toggle" "F" "set_boolean" ∷
    route 3 "B" "toggle" "F" "set_boolean" ∷ [])

pub routes_out : IsWrittenOut (document routes_out_text) (document routes_out_written)
unfolding flat item_step node_step statement_step proto_step
routes_out =
    ap (λ p. written (by_parts p)) routes_out_text.2 ∙ sym (ap (λ p. written (by_parts p)) routes_out_written.2)

-- A PROTO in a value that is given belongs to the scope round the instance.
--     PROTO P [ initializeOnly SFNode g NULL ] { Shape { geometry IS g } }
--     P { g Box { PROTO X [ inputOutput SFInt32 k 7 ] { Switch { whichChoice IS k } } } }
--     X { k 8 }
-- and
--     Shape { geometry Box {} } Switch { whichChoice 8 }
abbrev pub proto_in_value_out_text : KnownStatements
proto_in_value_out_text =
    all_statements
    (a_proto
    (proto 2 "P" (declares 2 InitializeOnly SFNode "g" null ∷ [])
    (stands (full 2 "Shape" (field 2 "geometry" (is "g") ∷ [])) ∷ [])) ∷
    stands
    (full 3 "P"
    (field 3 "g"
    (a_node
    (full 3 "Box"
    (proto_inside
    (proto 3 "X"
    (declares 3 InputOutput SFInt32 "k" (numbers (7 ∷ [])) ∷ [])
    (stands
    (full 3 "Switch" (field 3 "whichChoice" (is "k") ∷ [])) ∷ [])) ∷ []))) ∷ [])) ∷
    stands (full 4 "X" (field 4 "k" (numbers (8 ∷ [])) ∷ [])) ∷ [])

abbrev pub proto_in_value_out_written : KnownStatements
proto_in_value_out_written =
    all_statements
    (stands (full 2 "Shape" (field 2 "geometry" (a_node (full 2 "Box" [])) ∷ [])) ∷
    stands (full 2 "Switch" (field 2 "whichChoice" (numbers (8 ∷ [])) ∷ [])) ∷ [])

pub proto_in_value_out : IsWrittenOut (document proto_in_value_out_text) (document proto_in_value_out_written)
unfolding flat item_step node_step statement_step proto_step
proto_in_value_out =
    ap (λ p. written (by_parts p)) proto_in_value_out_text.2 ∙ sym (ap (λ p. written (by_parts p)) proto_in_value_out_written.2)
