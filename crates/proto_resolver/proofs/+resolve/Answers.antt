use Rattle.std.proofs.Common.{◌≡◌, ◌∙◌, ◌+◌, drop, true, false, [], ◌∷◌, None, sym, ap, subst}
use Rattle.std.proofs.lemmas.List.{drop_more, drop_all}
use borrow.Rule.Slice.Shared.{by_size}
use Rattle.classic_tree.specs.declared.tree.ProtoText.{out-ProtoText}
use Rattle.proto_meaning.specs.Flat as flat
use Rattle.proto_meaning.specs.trees.Resolved as rule
use Rattle.proto_meaning.specs.trees.Resolved.{AreItems, AreNodes, AreStatements, IsGiven}
use Rattle.proto_resolver.specs.Held.{taken_names}
use Rattle.proto_resolver.specs.Standing.{Resolves}
use Rattle.proto_resolver.specs.Parts.{Before, one_or_none, AreAllDefaults, AreDefaultsAside, IsInterior}
use Rattle.proto_resolver.proofs.Standing.{fails}
use Rattle.proto_resolver.proofs.Rows.{none_of, row_first, row_step, row_last, row_wrong}
use Rattle.proto_resolver.proofs.Steps.{use_node, full_node, node_row, nothing_given, is_untaken, plain_given, one_given, many_given, is_given, left_out, field_row, declaration_row, route_row, proto_row, stated_row, routed_row, declared_row}
use Rattle.proto_resolver.proofs.Interiors.{no_defaults, default_row, interface_aside, wrong_inside, whole_inside}
use Rattle.proto_resolver.proofs.Declared.{sees_wrong}
use Rattle.proto_resolver.proofs.Entered.{stopped, entered}
use Rattle.proto_resolver.proofs.+resolve.Goals as goal

-- ---- nodes

pub walk::resolve_node-returns-in-Use : goal.walk::resolve_node-returns-in-Use
walk::resolve_node-returns-in-Use t c = rw c.in-Use.is (use_node c.args.resolver.now c.in-Use.line (record { ref_ptr = (c.args.node.ref_ptr.0, c.args.node.ref_ptr.1 + 8); now = c.in-Use.name }))

pub walk::resolve_node-returns-in-Full : goal.walk::resolve_node-returns-in-Full
walk::resolve_node-returns-in-Full t c = rw (c.in-Full.is, sym c.as_slice.ensures) c.resolve_full.ensures

pub walk::resolve_full-returns : goal.walk::resolve_full-returns
walk::resolve_full-returns t c =
    full_node c.args.resolver.now c.resolve_between.new.resolver c.in_ok-tree.field-0.wrong c.args.line c.args.name c.args.word.now c.in_ok-meaning.meaning.word c.in_ok-meaning.meaning.taker c.args.items.now c.in_ok-tree.field-0.tree
    c.in_ok-meaning.ensures c.in_ok-tree.ensures

pub walk::resolve_between-returns : goal.walk::resolve_between-returns
walk::resolve_between-returns t c = c.resolve_items-part.ensures

-- ---- what a field is given

pub walk::resolve_field-returns-then-kept : goal.walk::resolve_field-returns-then-kept
walk::resolve_field-returns-then-kept t c = rw c.if-kept.true c.resolve_given.ensures

pub walk::resolve_field-returns-in-Nothing : goal.walk::resolve_field-returns-in-Nothing
walk::resolve_field-returns-in-Nothing t c = rw (c.if-kept.false, c.in-Nothing.is) (nothing_given c.args.resolver.now false)

pub walk::resolve_field-returns-in-Is : goal.walk::resolve_field-returns-in-Is
walk::resolve_field-returns-in-Is t c = rw (c.if-kept.false, c.in-Is.is) (is_untaken c.args.resolver.now (record { ref_ptr = (c.args.given.ref_ptr.0, c.args.given.ref_ptr.1 + 8); now = c.in-Is.name }))

pub walk::resolve_field-returns-in-Value : goal.walk::resolve_field-returns-in-Value
walk::resolve_field-returns-in-Value t c = rw (c.if-kept.false, c.in-Value.is) c.leave_out.ensures

pub walk::leave_out-returns : goal.walk::leave_out-returns
walk::leave_out-returns t c =
    left_out c.args.resolver.now c.set_aside-before.new.self c.resolve_value.new.resolver c.put_back.new.self c.set_aside-before.result c.in_ok-tree.field-0.wrong c.args.value.now c.in_ok-tree.field-0.tree
    c.set_aside-before.ensures c.in_ok-tree.ensures c.put_back.ensures

pub walk::resolve_given-returns-in-Nothing : goal.walk::resolve_given-returns-in-Nothing
walk::resolve_given-returns-in-Nothing t c = rw c.in-Nothing.is (nothing_given c.args.resolver.now true)

pub walk::resolve_given-returns-in-Value : goal.walk::resolve_given-returns-in-Value
walk::resolve_given-returns-in-Value t c = rw c.in-Value.is c.resolve_value.ensures

pub walk::resolve_given-returns-in_ok-take-in-Is : goal.walk::resolve_given-returns-in_ok-take-in-Is
walk::resolve_given-returns-in_ok-take-in-Is t c =
    rw c.in-Is.is (is_given c.args.resolver.now c.take.new.self (record { ref_ptr = (c.args.given.ref_ptr.0, c.args.given.ref_ptr.1 + 8); now = c.in-Is.name }) c.in_ok-take-in-Is.ensures)

pub walk::resolve_value-returns-in_default : goal.walk::resolve_value-returns-in_default
walk::resolve_value-returns-in_default t c = plain_given c.args.resolver.now c.args.value c.in_default.not-Node c.in_default.not-NodeList

pub walk::resolve_value-returns-in_ok-tree-in-Node : goal.walk::resolve_value-returns-in_ok-tree-in-Node
walk::resolve_value-returns-in_ok-tree-in-Node t c =
    rw c.in-Node.is (one_given c.args.resolver.now c.resolve_node.new.resolver c.in_ok-tree-in-Node.field-0.wrong c.in-Node.node c.in_ok-tree-in-Node.field-0.tree c.in_ok-tree-in-Node.ensures)

pub walk::resolve_value-returns-in_ok-tree-in-NodeList : goal.walk::resolve_value-returns-in_ok-tree-in-NodeList
walk::resolve_value-returns-in_ok-tree-in-NodeList t c =
    let nodes = subst (λ ns. Resolves c.args.resolver.now c.resolve_nodes.new.resolver c.in_ok-tree-in-NodeList.field-0.wrong (λ ps s r. AreNodes ps ns c.in_ok-tree-in-NodeList.field-0.tree s r)) c.as_slice.ensures c.in_ok-tree-in-NodeList.ensures in
    rw c.in-NodeList.is (many_given c.args.resolver.now c.resolve_nodes.new.resolver c.in_ok-tree-in-NodeList.field-0.wrong c.in-NodeList.nodes c.in_ok-tree-in-NodeList.field-0.tree c.len.result c.len.ensures nodes)

-- ---- items

pub walk::resolve_item-returns-in_ok-tree-in-Field : goal.walk::resolve_item-returns-in_ok-tree-in-Field
walk::resolve_item-returns-in_ok-tree-in-Field t c =
    let given = subst (λ kept. Resolves c.args.resolver.now c.resolve_field.new.resolver c.in_ok-tree-in-Field.field-0.wrong (λ ps s r. IsGiven ps kept c.in-Field.given c.in_ok-tree-in-Field.field-0.tree s r)) c.keeps.ensures c.in_ok-tree-in-Field.ensures in
    rw c.in-Field.is (λ rest. field_row c.args.resolver.now c.resolve_field.new.resolver c.in_ok-tree-in-Field.field-0.wrong (taken_names c.args.taker.now) c.in-Field.line
    (record { ref_ptr = (c.args.item.ref_ptr.0, c.args.item.ref_ptr.1 + 8); now = c.in-Field.name }) c.in-Field.given c.in_ok-tree-in-Field.field-0.tree rest given)

pub walk::resolve_item-returns-in_ok-tree-in-Declaration : goal.walk::resolve_item-returns-in_ok-tree-in-Declaration
walk::resolve_item-returns-in_ok-tree-in-Declaration t c =
    rw c.in-Declaration.is (λ rest. declaration_row c.args.resolver.now c.resolve_given.new.resolver c.in_ok-tree-in-Declaration.field-0.wrong (taken_names c.args.taker.now)
    (record { ref_ptr = (c.args.item.ref_ptr.0, c.args.item.ref_ptr.1 + 8); now = c.in-Declaration.declaration }) c.in_ok-tree-in-Declaration.field-0.tree rest c.in_ok-tree-in-Declaration.ensures)

pub walk::resolve_item-returns-in-Route : goal.walk::resolve_item-returns-in-Route
walk::resolve_item-returns-in-Route t c =
    rw c.in-Route.is (λ rest. route_row c.args.resolver.now (taken_names c.args.taker.now) (record { ref_ptr = (c.args.item.ref_ptr.0, c.args.item.ref_ptr.1 + 8); now = c.in-Route.route }) rest)

pub walk::resolve_item-returns-in_ok-wrong-in-Proto : goal.walk::resolve_item-returns-in_ok-wrong-in-Proto
walk::resolve_item-returns-in_ok-wrong-in-Proto t c =
    rw (c.in-Proto.is, c.wrong_item-tree.ensures) (λ rest. proto_row c.args.resolver.now c.resolve_proto.new.resolver c.in_ok-wrong-in-Proto.wrong (taken_names c.args.taker.now) c.in-Proto.proto rest c.in_ok-wrong-in-Proto.ensures)

-- ---- statements

pub declarations::resolve_statement-returns-in_ok-tree-in-Node : goal.declarations::resolve_statement-returns-in_ok-tree-in-Node
declarations::resolve_statement-returns-in_ok-tree-in-Node t c =
    rw c.in-Node.is (λ rest. stated_row c.args.resolver.now c.resolve_node.new.resolver c.in_ok-tree-in-Node.field-0.wrong c.in-Node.node c.in_ok-tree-in-Node.field-0.tree rest c.in_ok-tree-in-Node.ensures)

pub declarations::resolve_statement-returns-in-Route : goal.declarations::resolve_statement-returns-in-Route
declarations::resolve_statement-returns-in-Route t c =
    rw c.in-Route.is (λ rest. routed_row c.args.resolver.now (record { ref_ptr = (c.args.statement.ref_ptr.0, c.args.statement.ref_ptr.1 + 8); now = c.in-Route.route }) rest)

pub declarations::resolve_statement-returns-in_ok-wrong-in-Proto : goal.declarations::resolve_statement-returns-in_ok-wrong-in-Proto
declarations::resolve_statement-returns-in_ok-wrong-in-Proto t c =
    rw (c.in-Proto.is, c.wrong_statement-tree.ensures) (λ rest. declared_row c.args.resolver.now c.resolve_proto.new.resolver c.in_ok-wrong-in-Proto.wrong c.in-Proto.proto rest c.in_ok-wrong-in-Proto.ensures)

-- ---- declarations

pub declarations::resolve_proto-returns-in-Err : goal.declarations::resolve_proto-returns-in-Err
declarations::resolve_proto-returns-in-Err t c =
    fails c.args.resolver.now c.in-Err.fault (λ ps s r. (flat.proto c.args.proto.now).sees s ≡ r)
    (λ ps all s shows. sees_wrong c.args.proto.now s c.in-Err.fault (sym (c.check_declaration.ensures ps s shows) ∙ c.in-Err.is))

pub declarations::resolve_proto-returns : goal.declarations::resolve_proto-returns
declarations::resolve_proto-returns t c = c.enter.ensures (λ ps s shows. sym (c.check_declaration.ensures ps s shows) ∙ c.in_default.is)

pub declarations::enter-returns-then-is_some : goal.declarations::enter-returns-then-is_some
declarations::enter-returns-then-is_some t c right =
    stopped c.args.proto.now c.args.resolver.now c.open.new.self c.resolve_inside.new.resolver c.in_ok-before.before c.in_ok-tree.field-0.wrong c.in_ok-tree.field-0.tree.defaults c.in_ok-tree.field-0.tree.body
    (sym c.is_some.ensures ∙ c.if-is_some.true) right c.in_ok-before.ensures c.in_ok-tree.ensures

pub declarations::enter-returns : goal.declarations::enter-returns
declarations::enter-returns t c right =
    let none : c.in_ok-tree.field-0.wrong ≡ None = none_of c.in_ok-tree.field-0.wrong (sym c.is_some.ensures ∙ c.if-is_some.false) in
    entered c.args.proto c.args.resolver.now c.open.new.self c.resolve_inside.new.resolver c.close-taken.new.self c.declare.new.resolver c.in_ok-before.before c.close-taken.result c.in_ok-tree.field-0.tree.defaults c.in_ok-tree.field-0.tree.body
    right c.in_ok-before.ensures
    (subst (λ w. Resolves c.open.new.self c.resolve_inside.new.resolver w (λ ps s r. IsInterior ps c.args.proto.now c.in_ok-tree.field-0.tree.defaults c.in_ok-tree.field-0.tree.body s r)) none c.in_ok-tree.ensures)
    c.close-taken.ensures c.in_ok-declare.ensures

pub declarations::resolve_inside-returns-then-is_some : goal.declarations::resolve_inside-returns-then-is_some
declarations::resolve_inside-returns-then-is_some t c =
    let interface = subst (λ ds. Resolves c.args.resolver.now c.resolve_interface.new.resolver c.in_ok-defaults.defaults.wrong (λ ps s r. AreDefaultsAside ps ds c.in_ok-defaults.defaults.tree s r)) c.as_slice.ensures c.in_ok-defaults.ensures in
    rw c.new-body.ensures (wrong_inside c.args.resolver.now c.resolve_interface.new.resolver c.in_ok-defaults.defaults.wrong c.args.proto.now c.in_ok-defaults.defaults.tree (sym c.is_some.ensures ∙ c.if-is_some.true) interface)

pub declarations::resolve_inside-returns : goal.declarations::resolve_inside-returns
declarations::resolve_inside-returns t c =
    let none : c.in_ok-defaults.defaults.wrong ≡ None = none_of c.in_ok-defaults.defaults.wrong (sym c.is_some.ensures ∙ c.if-is_some.false) in
    let interface = subst (λ ds. Resolves c.args.resolver.now c.resolve_interface.new.resolver c.in_ok-defaults.defaults.wrong (λ ps s r. AreDefaultsAside ps ds c.in_ok-defaults.defaults.tree s r)) c.as_slice.ensures c.in_ok-defaults.ensures in
    let statements = subst (λ xs. Resolves c.resolve_interface.new.resolver c.resolve_body.new.resolver c.in_ok-body.body.wrong (λ ps s r. AreStatements ps xs c.in_ok-body.body.tree s r)) c.as_slice-2.ensures c.in_ok-body.ensures in
    whole_inside c.args.resolver.now c.resolve_interface.new.resolver c.resolve_body.new.resolver c.in_ok-body.body.wrong c.args.proto.now c.in_ok-defaults.defaults.tree c.in_ok-body.body.tree
    (subst (λ w. Resolves c.args.resolver.now c.resolve_interface.new.resolver w (λ ps s r. AreDefaultsAside ps (out-ProtoText c.args.proto.now).interface c.in_ok-defaults.defaults.tree s r)) none interface) statements

pub declarations::resolve_interface-returns : goal.declarations::resolve_interface-returns
declarations::resolve_interface-returns t c =
    interface_aside c.args.resolver.now c.set_aside-before.new.self c.resolve_defaults.new.resolver c.put_back.new.self c.set_aside-before.result c.in_ok-part.part.wrong c.args.interface.now c.in_ok-part.part.tree
    c.set_aside-before.ensures c.in_ok-part.ensures c.put_back.ensures

-- ---- in a row

pub walk::resolve_items-loop-item-init : goal.walk::resolve_items-loop-item-init
walk::resolve_items-loop-item-init t c = rw c.new-trees.ensures (row_first (λ ps. AreItems ps (taken_names c.args.taker.now)) c.args.resolver.now c.args.items.now)

pub walk::resolve_items-loop-item-preserved : goal.walk::resolve_items-loop-item-preserved
walk::resolve_items-loop-item-preserved t c =
    let none : c.in_ok-tree.field-0.wrong ≡ None = none_of c.in_ok-tree.field-0.wrong (sym c.is_some.ensures ∙ c.if-is_some.false) in
    subst (λ w. Resolves c.args.resolver.now c.resolve_item.new.resolver w (λ ps s r. Before (AreItems ps (taken_names c.args.taker.now)) c.args.items.now (drop (c.loop-item.item-index + 1) c.args.items.now) c.append.new.trees s r)) none
    (row_step (λ ps. AreItems ps (taken_names c.args.taker.now)) c.args.resolver.now c.loop-item.resolver c.resolve_item.new.resolver c.in_ok-tree.field-0.wrong c.args.items.now (drop c.loop-item.item-index c.args.items.now) (drop (c.loop-item.item-index + 1) c.args.items.now) c.item-item.result c.loop-item.trees (one_or_none c.in_ok-tree.field-0.tree) c.append.new.trees (drop_more c.args.items.now c.loop-item.item-index c.item-item.result c.loop-item-test.true ∙ ap (λ y. y ∷ (drop (c.loop-item.item-index + 1) c.args.items.now)) (sym c.item-item.is)) c.in_ok-append.ensures c.loop-item.invariant (c.in_ok-tree.ensures (drop (c.loop-item.item-index + 1) c.args.items.now)))

pub walk::resolve_items-returns-then-is_some : goal.walk::resolve_items-returns-then-is_some
walk::resolve_items-returns-then-is_some t c =
    row_wrong (λ ps. AreItems ps (taken_names c.args.taker.now)) c.args.resolver.now c.resolve_item.new.resolver c.in_ok-tree.field-0.wrong c.args.items.now (drop (c.loop-item.item-index + 1) c.args.items.now) c.append.new.trees (sym c.is_some.ensures ∙ c.if-is_some.true)
    (row_step (λ ps. AreItems ps (taken_names c.args.taker.now)) c.args.resolver.now c.loop-item.resolver c.resolve_item.new.resolver c.in_ok-tree.field-0.wrong c.args.items.now (drop c.loop-item.item-index c.args.items.now) (drop (c.loop-item.item-index + 1) c.args.items.now) c.item-item.result c.loop-item.trees (one_or_none c.in_ok-tree.field-0.tree) c.append.new.trees (drop_more c.args.items.now c.loop-item.item-index c.item-item.result c.loop-item-test.true ∙ ap (λ y. y ∷ (drop (c.loop-item.item-index + 1) c.args.items.now)) (sym c.item-item.is)) c.in_ok-append.ensures c.loop-item.invariant (c.in_ok-tree.ensures (drop (c.loop-item.item-index + 1) c.args.items.now)))

pub walk::resolve_items-returns : goal.walk::resolve_items-returns
walk::resolve_items-returns t c =
    row_last (λ ps. AreItems ps (taken_names c.args.taker.now)) c.args.resolver.now c.loop-item.resolver c.args.items.now c.loop-item.trees (λ all u. rule.no_items (taken_names c.args.taker.now) u)
    (subst (λ ys. Resolves c.args.resolver.now c.loop-item.resolver None (λ ps s r. Before (AreItems ps (taken_names c.args.taker.now)) c.args.items.now ys c.loop-item.trees s r)) (drop_all c.loop-item.item-index c.args.items.now c.loop-item-test.false) c.loop-item.invariant)

pub walk::resolve_nodes-loop-node-init : goal.walk::resolve_nodes-loop-node-init
walk::resolve_nodes-loop-node-init t c = rw c.new-trees.ensures (row_first (λ ps. AreNodes ps) c.args.resolver.now c.args.nodes.now)

pub walk::resolve_nodes-loop-node-preserved : goal.walk::resolve_nodes-loop-node-preserved
walk::resolve_nodes-loop-node-preserved t c =
    let none : c.in_ok-tree.field-0.wrong ≡ None = none_of c.in_ok-tree.field-0.wrong (sym c.is_some.ensures ∙ c.if-is_some.false) in
    subst (λ w. Resolves c.args.resolver.now c.resolve_node.new.resolver w (λ ps s r. Before (AreNodes ps) c.args.nodes.now (drop (c.loop-node.node-index + 1) c.args.nodes.now) c.push.new.self s r)) none
    (row_step (λ ps. AreNodes ps) c.args.resolver.now c.loop-node.resolver c.resolve_node.new.resolver c.in_ok-tree.field-0.wrong c.args.nodes.now (drop c.loop-node.node-index c.args.nodes.now) (drop (c.loop-node.node-index + 1) c.args.nodes.now) c.node-item.result c.loop-node.trees (c.in_ok-tree.field-0.tree ∷ []) c.push.new.self (drop_more c.args.nodes.now c.loop-node.node-index c.node-item.result c.loop-node-test.true ∙ ap (λ y. y ∷ (drop (c.loop-node.node-index + 1) c.args.nodes.now)) (sym c.node-item.is)) c.in_ok-push.ensures.ok c.loop-node.invariant (node_row c.loop-node.resolver c.resolve_node.new.resolver c.in_ok-tree.field-0.wrong c.node-item.result c.in_ok-tree.field-0.tree (drop (c.loop-node.node-index + 1) c.args.nodes.now) c.in_ok-tree.ensures))

pub walk::resolve_nodes-returns-then-is_some : goal.walk::resolve_nodes-returns-then-is_some
walk::resolve_nodes-returns-then-is_some t c =
    row_wrong (λ ps. AreNodes ps) c.args.resolver.now c.resolve_node.new.resolver c.in_ok-tree.field-0.wrong c.args.nodes.now (drop (c.loop-node.node-index + 1) c.args.nodes.now) c.push.new.self (sym c.is_some.ensures ∙ c.if-is_some.true)
    (row_step (λ ps. AreNodes ps) c.args.resolver.now c.loop-node.resolver c.resolve_node.new.resolver c.in_ok-tree.field-0.wrong c.args.nodes.now (drop c.loop-node.node-index c.args.nodes.now) (drop (c.loop-node.node-index + 1) c.args.nodes.now) c.node-item.result c.loop-node.trees (c.in_ok-tree.field-0.tree ∷ []) c.push.new.self (drop_more c.args.nodes.now c.loop-node.node-index c.node-item.result c.loop-node-test.true ∙ ap (λ y. y ∷ (drop (c.loop-node.node-index + 1) c.args.nodes.now)) (sym c.node-item.is)) c.in_ok-push.ensures.ok c.loop-node.invariant (node_row c.loop-node.resolver c.resolve_node.new.resolver c.in_ok-tree.field-0.wrong c.node-item.result c.in_ok-tree.field-0.tree (drop (c.loop-node.node-index + 1) c.args.nodes.now) c.in_ok-tree.ensures))

pub walk::resolve_nodes-returns : goal.walk::resolve_nodes-returns
walk::resolve_nodes-returns t c =
    row_last (λ ps. AreNodes ps) c.args.resolver.now c.loop-node.resolver c.args.nodes.now c.loop-node.trees (λ all u. rule.no_nodes u)
    (subst (λ ys. Resolves c.args.resolver.now c.loop-node.resolver None (λ ps s r. Before (AreNodes ps) c.args.nodes.now ys c.loop-node.trees s r)) (drop_all c.loop-node.node-index c.args.nodes.now c.loop-node-test.false) c.loop-node.invariant)

pub declarations::resolve_defaults-loop-declaration-init : goal.declarations::resolve_defaults-loop-declaration-init
declarations::resolve_defaults-loop-declaration-init t c = rw c.new-trees.ensures (row_first (λ ps. AreAllDefaults ps) c.args.resolver.now c.args.interface.now)

pub declarations::resolve_defaults-loop-declaration-preserved : goal.declarations::resolve_defaults-loop-declaration-preserved
declarations::resolve_defaults-loop-declaration-preserved t c =
    let none : c.in_ok-tree.field-0.wrong ≡ None = none_of c.in_ok-tree.field-0.wrong (sym c.is_some.ensures ∙ c.if-is_some.false) in
    subst (λ w. Resolves c.args.resolver.now c.resolve_given.new.resolver w (λ ps s r. Before (AreAllDefaults ps) c.args.interface.now (drop (c.loop-declaration.declaration-index + 1) c.args.interface.now) c.push.new.self s r)) none
    (row_step (λ ps. AreAllDefaults ps) c.args.resolver.now c.loop-declaration.resolver c.resolve_given.new.resolver c.in_ok-tree.field-0.wrong c.args.interface.now (drop c.loop-declaration.declaration-index c.args.interface.now) (drop (c.loop-declaration.declaration-index + 1) c.args.interface.now) c.declaration-item.result c.loop-declaration.trees (record { declaration = (record { ref_ptr = (c.args.interface.ref_ptr.0, by_size 136 c.loop-declaration.declaration-index c.args.interface.ref_ptr.1); now = c.declaration-item.result }); value = c.in_ok-tree.field-0.tree } ∷ []) c.push.new.self (drop_more c.args.interface.now c.loop-declaration.declaration-index c.declaration-item.result c.loop-declaration-test.true ∙ ap (λ y. y ∷ (drop (c.loop-declaration.declaration-index + 1) c.args.interface.now)) (sym c.declaration-item.is)) c.in_ok-push.ensures.ok c.loop-declaration.invariant (default_row c.loop-declaration.resolver c.resolve_given.new.resolver c.in_ok-tree.field-0.wrong (record { ref_ptr = (c.args.interface.ref_ptr.0, by_size 136 c.loop-declaration.declaration-index c.args.interface.ref_ptr.1); now = c.declaration-item.result }) c.in_ok-tree.field-0.tree (drop (c.loop-declaration.declaration-index + 1) c.args.interface.now) c.in_ok-tree.ensures))

pub declarations::resolve_defaults-returns-then-is_some : goal.declarations::resolve_defaults-returns-then-is_some
declarations::resolve_defaults-returns-then-is_some t c =
    row_wrong (λ ps. AreAllDefaults ps) c.args.resolver.now c.resolve_given.new.resolver c.in_ok-tree.field-0.wrong c.args.interface.now (drop (c.loop-declaration.declaration-index + 1) c.args.interface.now) c.push.new.self (sym c.is_some.ensures ∙ c.if-is_some.true)
    (row_step (λ ps. AreAllDefaults ps) c.args.resolver.now c.loop-declaration.resolver c.resolve_given.new.resolver c.in_ok-tree.field-0.wrong c.args.interface.now (drop c.loop-declaration.declaration-index c.args.interface.now) (drop (c.loop-declaration.declaration-index + 1) c.args.interface.now) c.declaration-item.result c.loop-declaration.trees (record { declaration = (record { ref_ptr = (c.args.interface.ref_ptr.0, by_size 136 c.loop-declaration.declaration-index c.args.interface.ref_ptr.1); now = c.declaration-item.result }); value = c.in_ok-tree.field-0.tree } ∷ []) c.push.new.self (drop_more c.args.interface.now c.loop-declaration.declaration-index c.declaration-item.result c.loop-declaration-test.true ∙ ap (λ y. y ∷ (drop (c.loop-declaration.declaration-index + 1) c.args.interface.now)) (sym c.declaration-item.is)) c.in_ok-push.ensures.ok c.loop-declaration.invariant (default_row c.loop-declaration.resolver c.resolve_given.new.resolver c.in_ok-tree.field-0.wrong (record { ref_ptr = (c.args.interface.ref_ptr.0, by_size 136 c.loop-declaration.declaration-index c.args.interface.ref_ptr.1); now = c.declaration-item.result }) c.in_ok-tree.field-0.tree (drop (c.loop-declaration.declaration-index + 1) c.args.interface.now) c.in_ok-tree.ensures))

pub declarations::resolve_defaults-returns : goal.declarations::resolve_defaults-returns
declarations::resolve_defaults-returns t c =
    row_last (λ ps. AreAllDefaults ps) c.args.resolver.now c.loop-declaration.resolver c.args.interface.now c.loop-declaration.trees (λ all u. no_defaults all u)
    (subst (λ ys. Resolves c.args.resolver.now c.loop-declaration.resolver None (λ ps s r. Before (AreAllDefaults ps) c.args.interface.now ys c.loop-declaration.trees s r)) (drop_all c.loop-declaration.declaration-index c.args.interface.now c.loop-declaration-test.false) c.loop-declaration.invariant)

pub declarations::resolve_body-loop-statement-init : goal.declarations::resolve_body-loop-statement-init
declarations::resolve_body-loop-statement-init t c = rw c.new-trees.ensures (row_first (λ ps. AreStatements ps) c.args.resolver.now c.args.body.now)

pub declarations::resolve_body-loop-statement-preserved : goal.declarations::resolve_body-loop-statement-preserved
declarations::resolve_body-loop-statement-preserved t c =
    let none : c.in_ok-tree.field-0.wrong ≡ None = none_of c.in_ok-tree.field-0.wrong (sym c.is_some.ensures ∙ c.if-is_some.false) in
    subst (λ w. Resolves c.args.resolver.now c.resolve_statement.new.resolver w (λ ps s r. Before (AreStatements ps) c.args.body.now (drop (c.loop-statement.statement-index + 1) c.args.body.now) c.append.new.trees s r)) none
    (row_step (λ ps. AreStatements ps) c.args.resolver.now c.loop-statement.resolver c.resolve_statement.new.resolver c.in_ok-tree.field-0.wrong c.args.body.now (drop c.loop-statement.statement-index c.args.body.now) (drop (c.loop-statement.statement-index + 1) c.args.body.now) c.statement-item.result c.loop-statement.trees (one_or_none c.in_ok-tree.field-0.tree) c.append.new.trees (drop_more c.args.body.now c.loop-statement.statement-index c.statement-item.result c.loop-statement-test.true ∙ ap (λ y. y ∷ (drop (c.loop-statement.statement-index + 1) c.args.body.now)) (sym c.statement-item.is)) c.in_ok-append.ensures c.loop-statement.invariant (c.in_ok-tree.ensures (drop (c.loop-statement.statement-index + 1) c.args.body.now)))

pub declarations::resolve_body-returns-then-is_some : goal.declarations::resolve_body-returns-then-is_some
declarations::resolve_body-returns-then-is_some t c =
    row_wrong (λ ps. AreStatements ps) c.args.resolver.now c.resolve_statement.new.resolver c.in_ok-tree.field-0.wrong c.args.body.now (drop (c.loop-statement.statement-index + 1) c.args.body.now) c.append.new.trees (sym c.is_some.ensures ∙ c.if-is_some.true)
    (row_step (λ ps. AreStatements ps) c.args.resolver.now c.loop-statement.resolver c.resolve_statement.new.resolver c.in_ok-tree.field-0.wrong c.args.body.now (drop c.loop-statement.statement-index c.args.body.now) (drop (c.loop-statement.statement-index + 1) c.args.body.now) c.statement-item.result c.loop-statement.trees (one_or_none c.in_ok-tree.field-0.tree) c.append.new.trees (drop_more c.args.body.now c.loop-statement.statement-index c.statement-item.result c.loop-statement-test.true ∙ ap (λ y. y ∷ (drop (c.loop-statement.statement-index + 1) c.args.body.now)) (sym c.statement-item.is)) c.in_ok-append.ensures c.loop-statement.invariant (c.in_ok-tree.ensures (drop (c.loop-statement.statement-index + 1) c.args.body.now)))

pub declarations::resolve_body-returns : goal.declarations::resolve_body-returns
declarations::resolve_body-returns t c =
    row_last (λ ps. AreStatements ps) c.args.resolver.now c.loop-statement.resolver c.args.body.now c.loop-statement.trees (λ all u. rule.none u)
    (subst (λ ys. Resolves c.args.resolver.now c.loop-statement.resolver None (λ ps s r. Before (AreStatements ps) c.args.body.now ys c.loop-statement.trees s r)) (drop_all c.loop-statement.statement-index c.args.body.now c.loop-statement-test.false) c.loop-statement.invariant)
