use Rattle.std.proofs.Common.{◌∙◌, true, false, Ok, Err, refl, ap, sym}
use Rattle.classic_tree.specs.declared.tree.ProtoText.{out-ProtoText}
use Rattle.proto_meaning.specs.Texts.{finds_inside, has_node}
use Rattle.proto_resolver.proofs.Names.{checked_as}
use Rattle.proto_resolver.proofs.resolver.check_declaration.Goals as goal

pub returns-then-is_known : goal.returns-then-is_known
returns-then-is_known c =
    λ ps s h. let p = c.args.proto.now in let t = out-ProtoText p in
    ap Err c.on_line.ensures ∙ checked_as p s true (finds_inside t.interface t.body t.name false) (has_node t.body) (sym (c.is_known.ensures ps s h) ∙ c.if-is_known.true) refl refl

pub returns-in-Err : goal.returns-in-Err
returns-in-Err c =
    λ ps s h. let p = c.args.proto.now in let t = out-ProtoText p in
    ap Err c.on_line-in-Err.ensures ∙ checked_as p s false (Err c.in-Err.line) (has_node t.body) (sym (c.is_known.ensures ps s h) ∙ c.if-is_known.false) (sym c.find_inside.ensures ∙ c.in-Err.is) refl

pub returns-then-not-has_node : goal.returns-then-not-has_node
returns-then-not-has_node c =
    λ ps s h. let p = c.args.proto.now in let t = out-ProtoText p in
    ap Err c.on_line-then-not-has_node.ensures
    ∙ checked_as p s false (Ok c.in_default.field-0) false (sym (c.is_known.ensures ps s h) ∙ c.if-is_known.false) (sym c.find_inside.ensures ∙ c.in_default.is) (ap has_node (sym c.as_slice.ensures) ∙ sym c.has_node.ensures ∙ c.if-not-has_node.true)

pub returns : goal.returns
returns c =
    λ ps s h. let p = c.args.proto.now in let t = out-ProtoText p in
    checked_as p s false (Ok c.in_default.field-0) true (sym (c.is_known.ensures ps s h) ∙ c.if-is_known.false) (sym c.find_inside.ensures ∙ c.in_default.is) (ap has_node (sym c.as_slice.ensures) ∙ sym c.has_node.ensures ∙ c.if-not-has_node.false)
