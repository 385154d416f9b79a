use Rattle.scene_core.proofs.RowLemmas.{named-own, named-declared}
use Rattle.scene_core.proofs.row.named_by.Goals as goal

pub returns-in-Some : goal.returns-in-Some
returns-in-Some c = named-own c.args.node_type c.args.declared.now c.args.name.now c.in-Some.row c.in-Some.ensures

pub returns : goal.returns
returns c =
    named-declared c.args.node_type c.args.declared.now c.numbered_fields.result.now c.fields_of-own.result.now c.args.name.now c.declared_named.result
    c.in_default.ensures c.fields_of-own.ensures c.numbered_fields.ensures c.declared_named.ensures
