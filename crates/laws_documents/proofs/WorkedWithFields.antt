-- A worked document of the class in which instances with fields are written out:
--     PROTO P [ inputOutput SFBool on TRUE inputOnly SFBool poke ] { BooleanToggle { toggle IS on
--         set_boolean IS poke } }
--     P {} DEF L P { on FALSE }
-- and
--     BooleanToggle { toggle TRUE } DEF L BooleanToggle { toggle FALSE }
use Rattle.std.proofs.Common.{◌≡◌, ◌&&◌, true, false, List, [], ◌∷◌, Option, Some, None, refl, ap, sym, ◌∙◌}
use Rattle.std.specs.Prelude.{codes}
use Rattle.std.specs.List.{list_all}
use Rattle.std.specs.Option.{option_or}
use Rattle.x3d_values.specs.declared.field_type.Access.TheVariants.{InputOnly, InputOutput}
use Rattle.x3d_values.specs.declared.field_type.FieldType.TheVariants.{SFBool}
use Rattle.x3d_values.specs.declared.node_type.NodeType.TheVariants as type
use Rattle.classic_tree.specs.declared.tree.BodyItem.{BodyItem}
use Rattle.classic_tree.specs.declared.tree.BodyItem.TheOpen.{BodyItem-F}
use Rattle.classic_tree.specs.declared.tree.BodyItem.TheVariants as item
use Rattle.classic_tree.specs.declared.tree.Declaration.{Declaration}
use Rattle.classic_tree.specs.declared.tree.Given.TheVariants as given
use Rattle.classic_tree.specs.declared.tree.NodeText.{NodeText}
use Rattle.classic_tree.specs.declared.tree.NodeText.TheVariants as node
use Rattle.classic_tree.specs.declared.tree.ProtoText.{ProtoText}
use Rattle.classic_tree.specs.declared.tree.RawValue.TheVariants as value
use Rattle.classic_tree.specs.declared.tree.Statement.{Statement}
use Rattle.classic_tree.specs.declared.tree.Statement.TheVariants as statement
use Rattle.proto_meaning.specs.Flat.{item_step, node_step, statement_step, proto_step, flat}
use Rattle.proto_meaning.proofs.Known.{KnownStatements, all_statements, nothing, is, truth, declaration, declares, field, full, named, proto, a_proto, stands, document}
use Rattle.proto_meaning.proofs.Expected.{flat_field, flat_node, good, by_parts}
use Rattle.laws_documents.specs.WithFields.{Quiet, quiet_item, is_quiet_node, is_quiet_statement, Finds, field_of, replaced, those_there, written_item, written_node, written_statement, gives, default_of, found, as_written, named_as, body_for, in_place, finds_nothing}
use Rattle.laws_documents.specs.WithFields.{named as named_text}
use Rattle.laws_documents.proofs.WithFieldsTexts as texts
use Rattle.laws_documents.proofs.WithFieldsItems.{out_field}
use Rattle.laws_documents.proofs.WithHelpersSteps.{out_full}
use Rattle.laws_documents.proofs.WithFieldsWhole.{instances_with_fields_are_their_bodies}

abbrev pub toggle_text : KnownStatements
toggle_text =
    all_statements
    (a_proto
    (proto 2 "P"
    (declares 2 InputOutput SFBool "on" (truth true) ∷
    declares 2 InputOnly SFBool "poke" nothing ∷ [])
    (stands
    (full 2 "BooleanToggle"
    (field 2 "toggle" (is "on") ∷ field 2 "set_boolean" (is "poke") ∷ [])) ∷ [])) ∷
    stands (full 3 "P" []) ∷
    stands (named 3 "L" "P" (field 3 "on" (truth false) ∷ [])) ∷ [])

abbrev pub toggle_written_text : KnownStatements
toggle_written_text =
    all_statements
    (stands (full 2 "BooleanToggle" (field 2 "toggle" (truth true) ∷ [])) ∷
    stands (named 2 "L" "BooleanToggle" (field 2 "toggle" (truth false) ∷ [])) ∷ [])

pub toggle_is : flat (document toggle_text) ≡
    good
    (flat_node 2 None type.BooleanToggle (flat_field 2 2 (value.Truth true) ∷ []) [] ∷
    flat_node 2 (Some (codes "L")) type.BooleanToggle (flat_field 2 2 (value.Truth false) ∷ []) [] ∷ [])
    (0 ∷ 1 ∷ [])
    []
    []
unfolding flat item_step node_step statement_step proto_step
toggle_is = ap by_parts toggle_text.2

-- ---- what is written out

abbrev interface : List (Declaration NodeText)
interface =
    declaration 2 InputOutput SFBool "on" (given.Value (value.Truth true))
    ∷ declaration 2 InputOnly SFBool "poke" given.Nothing ∷ []

abbrev toggle : NodeText
toggle =
    node.Full 2 None (codes "BooleanToggle")
    (item.Field 2 (codes "toggle") (given.Is (codes "on"))
    ∷ item.Field 2 (codes "set_boolean") (given.Is (codes "poke")) ∷ [])

abbrev with_items : Option BodyItem → Option BodyItem → NodeText
with_items a b = node.Full 2 None (codes "BooleanToggle") (those_there (a ∷ b ∷ []))

toggle_by : (finds : Finds) → written_node finds as_written toggle
    ≡ with_items (field_of 2 (codes "toggle") (replaced finds (given.Is (codes "on")))) (field_of 2 (codes "set_boolean") (replaced finds (given.Is (codes "poke"))))
toggle_by finds =
    texts.written-full finds as_written 2 None (codes "BooleanToggle") (item.Field 2 (codes "toggle") (given.Is (codes "on")) ∷ item.Field 2 (codes "set_boolean") (given.Is (codes "poke")) ∷ [])
    ∙ ap (λ a. with_items a (written_item finds as_written (item.Field 2 (codes "set_boolean") (given.Is (codes "poke"))))) (texts.written-field finds as_written 2 (codes "toggle") (given.Is (codes "on")))
    ∙ ap (λ b. with_items (field_of 2 (codes "toggle") (replaced finds (given.Is (codes "on")))) b) (texts.written-field finds as_written 2 (codes "set_boolean") (given.Is (codes "poke")))

abbrev off : BodyItem
off = item.Field 3 (codes "on") (given.Value (value.Truth false))

-- what stands there where an instance holds that item
abbrev by_item : BodyItem-F BodyItem NodeText Statement ProtoText → NodeText
by_item x =
    with_items
    (field_of 2 (codes "toggle") (replaced (λ name. option_or (option_or (gives name x) None) (default_of interface name)) (given.Is (codes "on"))))
    (field_of 2 (codes "set_boolean") (replaced (λ name. option_or (option_or (gives name x) None) (default_of interface name)) (given.Is (codes "poke"))))

first_written : written_statement finds_nothing (in_place (codes "P") interface toggle) (statement.Node (node.Full 3 None (codes "P") []))
    ≡ statement.Node (node.Full 2 None (codes "BooleanToggle") (item.Field 2 (codes "toggle") (given.Value (value.Truth true)) ∷ []))
first_written =
    texts.written-node finds_nothing (in_place (codes "P") interface toggle) (node.Full 3 None (codes "P") [])
    ∙ ap (λ n. statement.Node n) (texts.written-full finds_nothing (in_place (codes "P") interface toggle) 3 None (codes "P") [] ∙ toggle_by (found interface []))

second_written : written_statement finds_nothing (in_place (codes "P") interface toggle) (statement.Node (node.Full 3 (Some (codes "L")) (codes "P") (off ∷ [])))
    ≡ statement.Node (node.Full 2 (Some (codes "L")) (codes "BooleanToggle") (item.Field 2 (codes "toggle") (given.Value (value.Truth false)) ∷ []))
second_written =
    texts.written-node finds_nothing (in_place (codes "P") interface toggle) (node.Full 3 (Some (codes "L")) (codes "P") (off ∷ []))
    ∙ ap (λ n. statement.Node n)
    (texts.written-full finds_nothing (in_place (codes "P") interface toggle) 3 (Some (codes "L")) (codes "P") (off ∷ [])
    ∙ ap (λ (i : Option BodyItem). body_for interface toggle (Some (codes "L")) (those_there (i ∷ []))) (texts.written-field finds_nothing (in_place (codes "P") interface toggle) 3 (codes "on") (given.Value (value.Truth false)))
    ∙ ap (named_text (Some (codes "L"))) (toggle_by (found interface (off ∷ [])) ∙ ap by_item (out_field 3 (codes "on") (given.Value (value.Truth false))))
    ∙ ap (named_as (codes "L")) (out_full 2 None (codes "BooleanToggle") (item.Field 2 (codes "toggle") (given.Value (value.Truth false)) ∷ [])))

-- ---- that they are of the class

body_quiet : is_quiet_node (codes "P") false toggle ≡ true
body_quiet =
    texts.quiet-full (codes "P") false 2 None (codes "BooleanToggle") (item.Field 2 (codes "toggle") (given.Is (codes "on")) ∷ item.Field 2 (codes "set_boolean") (given.Is (codes "poke")) ∷ [])
    ∙ ap (λ (q : Quiet). q.anywhere && ((quiet_item (codes "P") false (item.Field 2 (codes "set_boolean") (given.Is (codes "poke")))).anywhere && true)) (texts.quiet-field (codes "P") false 2 (codes "toggle") (given.Is (codes "on")))
    ∙ ap (λ (q : Quiet). q.anywhere && true) (texts.quiet-field (codes "P") false 2 (codes "set_boolean") (given.Is (codes "poke")))

first_quiet : is_quiet_statement (codes "P") true (statement.Node (node.Full 3 None (codes "P") [])) ≡ true
first_quiet = texts.quiet-node (codes "P") true (node.Full 3 None (codes "P") []) ∙ texts.quiet-full (codes "P") true 3 None (codes "P") []

second_quiet : is_quiet_statement (codes "P") true (statement.Node (node.Full 3 (Some (codes "L")) (codes "P") (off ∷ []))) ≡ true
second_quiet =
    texts.quiet-node (codes "P") true (node.Full 3 (Some (codes "L")) (codes "P") (off ∷ []))
    ∙ texts.quiet-full (codes "P") true 3 (Some (codes "L")) (codes "P") (off ∷ [])
    ∙ ap (λ (q : Quiet). q.in_instance && true) (texts.quiet-field (codes "P") true 3 (codes "on") (given.Value (value.Truth false)))

all_quiet : list_all (is_quiet_statement (codes "P") true) (statement.Node (node.Full 3 None (codes "P") []) ∷ statement.Node (node.Full 3 (Some (codes "L")) (codes "P") (off ∷ [])) ∷ []) ≡ true
all_quiet =
    ap (λ b. b && (is_quiet_statement (codes "P") true (statement.Node (node.Full 3 (Some (codes "L")) (codes "P") (off ∷ []))) && true)) first_quiet
    ∙ ap (λ b. b && true) second_quiet

-- ---- by the law

pub toggle_in_place : flat (document toggle_written_text) ≡
    good
    (flat_node 2 None type.BooleanToggle (flat_field 2 2 (value.Truth true) ∷ []) [] ∷
    flat_node 2 (Some (codes "L")) type.BooleanToggle (flat_field 2 2 (value.Truth false) ∷ []) [] ∷ [])
    (0 ∷ 1 ∷ [])
    []
    []
toggle_in_place =
    sym (ap (λ (s : Statement). flat (record (document toggle_written_text) { statements = s ∷ written_statement finds_nothing (in_place (codes "P") interface toggle) (statement.Node (node.Full 3 (Some (codes "L")) (codes "P") (off ∷ []))) ∷ [] })) first_written
    ∙ ap (λ (s : Statement). flat (record (document toggle_written_text) { statements = statement.Node (node.Full 2 None (codes "BooleanToggle") (item.Field 2 (codes "toggle") (given.Value (value.Truth true)) ∷ [])) ∷ s ∷ [] })) second_written)
    ∙ instances_with_fields_are_their_bodies (document toggle_text) 2 (codes "P") interface toggle (statement.Node (node.Full 3 None (codes "P") []) ∷ statement.Node (node.Full 3 (Some (codes "L")) (codes "P") (off ∷ [])) ∷ []) _ refl body_quiet all_quiet toggle_is
