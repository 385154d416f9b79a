-- Worked documents: what is wrong with a declaration, and which fault comes first.
-- Each stands behind the line `#X3D V3.0 utf8`, so it begins on line 2; a line that is indented
-- deeper goes on with the one before. What it stands for was written by hand, from the rules.
use Rattle.std.proofs.Common.{◌≡◌, [], ◌∷◌, Err, ap}
use Rattle.x3d_values.specs.declared.field_type.Access.TheVariants.{InputOnly, InitializeOnly}
use Rattle.x3d_values.specs.declared.field_type.FieldType.TheVariants.{SFBool, SFNode}
use Rattle.proto_flat.specs.Fault.{fault}
use Rattle.proto_flat.specs.declared.fault.ExpandFaultKind.TheVariants as fault_kind
use Rattle.proto_meaning.specs.Flat.{item_step, node_step, statement_step, proto_step, flat}
use Rattle.proto_meaning.proofs.Known.{KnownStatements, all_statements, nothing, is, null, numbers, a_node, nodes, declares, field, proto_inside, used, full, proto, a_proto, stands, document}
use Rattle.proto_meaning.proofs.Expected.{by_parts}

-- An instance in its own body.
--     PROTO Lamp [ inputOnly SFBool poke ] { Group {}
--     Lamp {} }
abbrev pub lamp_in_itself_text : KnownStatements
lamp_in_itself_text =
    all_statements
    (a_proto
    (proto 2 "Lamp" (declares 2 InputOnly SFBool "poke" nothing ∷ [])
    (stands (full 2 "Group" []) ∷ stands (full 3 "Lamp" []) ∷ [])) ∷ [])

pub lamp_in_itself : flat (document lamp_in_itself_text) ≡ Err (fault fault_kind.ProtoItself 3)
unfolding flat item_step node_step statement_step proto_step
lamp_in_itself = ap by_parts lamp_in_itself_text.2

-- A default stands in the scope of the body, so this X is declared twice in it.
--     PROTO P [ initializeOnly SFNode n Group { PROTO X [] { Group {} } } ] {
--     PROTO X [] { Group {} } X {} }
--     P {}
abbrev pub declared_in_default_and_body_text : KnownStatements
declared_in_default_and_body_text =
    all_statements
    (a_proto
    (proto 2 "P"
    (declares 2 InitializeOnly SFNode "n"
    (a_node
    (full 2 "Group"
    (proto_inside (proto 2 "X" [] (stands (full 2 "Group" []) ∷ [])) ∷ []))) ∷ [])
    (a_proto (proto 3 "X" [] (stands (full 3 "Group" []) ∷ [])) ∷
    stands (full 3 "X" []) ∷ [])) ∷
    stands (full 4 "P" []) ∷ [])

pub declared_in_default_and_body : flat (document declared_in_default_and_body_text) ≡
    Err (fault fault_kind.ProtoTwice 3)
unfolding flat item_step node_step statement_step proto_step
declared_in_default_and_body = ap by_parts declared_in_default_and_body_text.2

-- Declarations are checked also in a value that is left out.
--     PROTO X [ initializeOnly SFNode f NULL ] { Shape { geometry IS f } }
--     PROTO P [ initializeOnly SFNode n Group { PROTO X [ initializeOnly SFNode f NULL ] { Group {}
--         } } ] { Group {} X { f Box { PROTO Y [] { Group {}
--     Y {} } } } }
abbrev pub checked_where_left_out_text : KnownStatements
checked_where_left_out_text =
    all_statements
    (a_proto
    (proto 2 "X" (declares 2 InitializeOnly SFNode "f" null ∷ [])
    (stands (full 2 "Shape" (field 2 "geometry" (is "f") ∷ [])) ∷ [])) ∷
    a_proto
    (proto 3 "P"
    (declares 3 InitializeOnly SFNode "n"
    (a_node
    (full 3 "Group"
    (proto_inside
    (proto 3 "X"
    (declares 3 InitializeOnly SFNode "f" null ∷ [])
    (stands (full 3 "Group" []) ∷ [])) ∷ []))) ∷ [])
    (stands (full 3 "Group" []) ∷
    stands
    (full 3 "X"
    (field 3 "f"
    (a_node
    (full 3 "Box"
    (proto_inside
    (proto 3 "Y" []
    (stands (full 3 "Group" []) ∷
    stands (full 4 "Y" []) ∷ [])) ∷ []))) ∷ [])) ∷ [])) ∷ [])

pub checked_where_left_out : flat (document checked_where_left_out_text) ≡
    Err (fault fault_kind.ProtoItself 4)
unfolding flat item_step node_step statement_step proto_step
checked_where_left_out = ap by_parts checked_where_left_out_text.2

-- What is wrong with a declaration is answered also in nodes that no IS takes.
--     PROTO P [ initializeOnly SFNode g NULL ] { Group {} }
--     P { g Foo {
--     PROTO Q [] {} } }
abbrev pub wrong_where_left_out_text : KnownStatements
wrong_where_left_out_text =
    all_statements
    (a_proto
    (proto 2 "P" (declares 2 InitializeOnly SFNode "g" null ∷ [])
    (stands (full 2 "Group" []) ∷ [])) ∷
    stands
    (full 3 "P"
    (field 3 "g" (a_node (full 3 "Foo" (proto_inside (proto 4 "Q" [] []) ∷ []))) ∷ [])) ∷ [])

pub wrong_where_left_out : flat (document wrong_where_left_out_text) ≡
    Err (fault fault_kind.EmptyBody 4)
unfolding flat item_step node_step statement_step proto_step
wrong_where_left_out = ap by_parts wrong_where_left_out_text.2

-- Of a declaration the outer one is checked first.
--     PROTO P [] { Group {
--     PROTO A [] {} }
--     P {} }
abbrev pub outer_declaration_first_text : KnownStatements
outer_declaration_first_text =
    all_statements
    (a_proto
    (proto 2 "P" []
    (stands (full 2 "Group" (proto_inside (proto 3 "A" [] []) ∷ [])) ∷
    stands (full 4 "P" []) ∷ [])) ∷ [])

pub outer_declaration_first : flat (document outer_declaration_first_text) ≡
    Err (fault fault_kind.ProtoItself 4)
unfolding flat item_step node_step statement_step proto_step
outer_declaration_first = ap by_parts outer_declaration_first_text.2

-- Faults stand in the order of the text, also between braces.
--     Group {
--     children [ Foo {} ]
--     PROTO Q [] {} }
abbrev pub unknown_node_first_text : KnownStatements
unknown_node_first_text =
    all_statements
    (stands
    (full 2 "Group"
    (field 3 "children" (nodes (full 3 "Foo" [] ∷ [])) ∷
    proto_inside (proto 4 "Q" [] []) ∷ [])) ∷ [])

pub unknown_node_first : flat (document unknown_node_first_text) ≡
    Err (fault fault_kind.UnknownNode 3)
unfolding flat item_step node_step statement_step proto_step
unknown_node_first = ap by_parts unknown_node_first_text.2

-- The same with a field.
--     Group {
--     nope 1
--     PROTO Q [] {} }
abbrev pub unknown_field_first_text : KnownStatements
unknown_field_first_text =
    all_statements
    (stands
    (full 2 "Group"
    (field 3 "nope" (numbers (1 ∷ [])) ∷ proto_inside (proto 4 "Q" [] []) ∷ [])) ∷ [])

pub unknown_field_first : flat (document unknown_field_first_text) ≡
    Err (fault fault_kind.UnknownField 3)
unfolding flat item_step node_step statement_step proto_step
unknown_field_first = ap by_parts unknown_field_first_text.2

-- The same with USE.
--     PROTO R [] { Group {} } Group { children [
--     USE nobody ]
--     PROTO R [] { Group {} } }
abbrev pub unknown_name_first_text : KnownStatements
unknown_name_first_text =
    all_statements
    (a_proto (proto 2 "R" [] (stands (full 2 "Group" []) ∷ [])) ∷
    stands
    (full 2 "Group"
    (field 2 "children" (nodes (used 3 "nobody" ∷ [])) ∷
    proto_inside (proto 4 "R" [] (stands (full 4 "Group" []) ∷ [])) ∷ [])) ∷ [])

pub unknown_name_first : flat (document unknown_name_first_text) ≡
    Err (fault fault_kind.UseWithoutDef 3)
unfolding flat item_step node_step statement_step proto_step
unknown_name_first = ap by_parts unknown_name_first_text.2

-- And turned: the declaration first.
--     Group {
--     PROTO Q [] {}
--     children [ Foo {} ] }
abbrev pub declaration_first_text : KnownStatements
declaration_first_text =
    all_statements
    (stands
    (full 2 "Group"
    (proto_inside (proto 3 "Q" [] []) ∷
    field 4 "children" (nodes (full 4 "Foo" [] ∷ [])) ∷ [])) ∷ [])

pub declaration_first : flat (document declaration_first_text) ≡ Err (fault fault_kind.EmptyBody 3)
unfolding flat item_step node_step statement_step proto_step
declaration_first = ap by_parts declaration_first_text.2
