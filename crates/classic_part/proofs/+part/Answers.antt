use Rattle.std.proofs.Common.{[], ◌++◌, ap, ◌∙◌}
use Rattle.std.specs.Option.{option_to_list}
use Rattle.classic_part.specs.Part.{declaration_part}
use Rattle.classic_part.proofs.Grown.{next}
use Rattle.classic_part.proofs.Walks.{declaration_made, declaration_told, field_made, item_made, item_told, node_told, list_made, nodes_by}
use Rattle.classic_part.proofs.+part.Goals as goal

pub walk::declaration_part-returns-clause-made : goal.walk::declaration_part-returns-clause-made
walk::declaration_part-returns-clause-made t c =
    declaration_made c.args.known.now c.args.declaration.now c.refuses.result c.as_str-name.result.now c.in_ok-given.given c.declared_part.result
    c.refuses.ensures c.if-refuses.false c.as_str-name.ensures c.in_ok-given.ensures.made c.declared_part.ensures

pub walk::declaration_part-returns-clause-told : goal.walk::declaration_part-returns-clause-told
walk::declaration_part-returns-clause-told t c =
    declaration_told c.args.known.now c.args.declaration.now c.refuses.result c.as_str-name.result.now c.args.notes.now c.given_part.new.notes c.declared_part.result
    c.refuses.ensures c.if-refuses.false c.as_str-name.ensures c.in_ok-given.ensures.told

pub lists::declarations_part-loop-declaration-preserved :
    goal.lists::declarations_part-loop-declaration-preserved
lists::declarations_part-loop-declaration-preserved t c =
    let part = declaration_part (nodes_by c.args.known.now) c.args.known.now in (
      next (λ d. option_to_list (part d).kept) c.args.declarations.now c.declaration-item.result c.declaration-item.result c.loop-declaration.declaration-index [] c.loop-declaration.kept c.push_some.new.list
          c.loop-declaration-test.true c.declaration-item.is c.loop-declaration.invariant.0
          (c.in_ok-push_some.ensures ∙ ap (λ o. c.loop-declaration.kept ++ option_to_list o) c.in_ok-declaration_part.ensures.made),
      next (λ d. (part d).notes) c.args.declarations.now c.declaration-item.result c.declaration-item.result c.loop-declaration.declaration-index c.args.notes.now c.loop-declaration.notes c.declaration_part.new.notes
          c.loop-declaration-test.true c.declaration-item.is c.loop-declaration.invariant.1 c.in_ok-declaration_part.ensures.told,
    )

pub walk::field_part-returns-clause-made : goal.walk::field_part-returns-clause-made
walk::field_part-returns-clause-made t c =
    field_made c.args.known.now c.args.line c.args.name.now c.as_str-name.result.now c.args.given.now c.args.meant c.refuses.result c.turns.result c.field_rule.result c.ruled_part.result
    c.refuses.ensures c.if-refuses.false c.as_str-name.ensures c.turns.ensures c.field_rule.ensures c.ruled_part.ensures.made

pub walk::item_part-returns-in-Field-clause-made : goal.walk::item_part-returns-in-Field-clause-made
walk::item_part-returns-in-Field-clause-made t c =
    item_made c.args.known.now c.args.item.now c.in-Field.line c.in-Field.name c.in-Field.given c.args.meant c.field_part.result c.in-Field.is c.field_part.ensures.made

pub walk::item_part-returns-in-Field-clause-told : goal.walk::item_part-returns-in-Field-clause-told
walk::item_part-returns-in-Field-clause-told t c =
    item_told c.args.known.now c.args.item.now c.in-Field.line c.in-Field.name c.in-Field.given c.args.meant c.args.notes.now c.field_part.new.notes c.field_part.result c.in-Field.is c.field_part.ensures.told

pub walk::node_part-returns-in_ok-items-in-Full-clause-told :
    goal.walk::node_part-returns-in_ok-items-in-Full-clause-told
walk::node_part-returns-in_ok-items-in-Full-clause-told t c =
    node_told c.args.known.now c.args.node.now c.in-Full.line c.in-Full.name c.in-Full.word c.as_str-in-Full.result.now c.as_str-in-Full-2.result.now c.args.field.now c.in-Full.items c.as_slice.result.now c.meaning_of-meant.result c.refuses.result c.is_nothing.result
    c.args.notes.now c.push_grouped.new.notes c.items_part.new.notes c.full_node.new.notes c.full_node.result
    c.in-Full.is c.refuses.ensures c.if-refuses.false c.as_str-in-Full.ensures c.meaning_of-meant.ensures c.is_nothing.ensures c.if-is_nothing.false c.as_str-in-Full-2.ensures c.as_slice.ensures
    c.in_ok-push_grouped-in-Full.ensures c.in_ok-items-in-Full.ensures.told c.full_node.ensures.told

pub walk::value_part-returns-in_ok-nodes-in-NodeList-clause-made :
    goal.walk::value_part-returns-in_ok-nodes-in-NodeList-clause-made
walk::value_part-returns-in_ok-nodes-in-NodeList-clause-made t c =
    list_made c.args.known.now c.args.value.now c.in-NodeList.nodes c.as_slice.result.now c.in_ok-nodes-in-NodeList.nodes c.args.name.now c.list_of.result
    c.in-NodeList.is c.as_slice.ensures c.in_ok-nodes-in-NodeList.ensures.made c.list_of.ensures
